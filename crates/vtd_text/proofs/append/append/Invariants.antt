use Rattle.std.proofs.Common.{◌≡◌, ◌++◌, take, length, string_bytes}
use Rattle.std.specs.Prelude.{encode_utf8_all}
use Rattle.vtd_text.proofs.append.append.Given as goal

abbrev pub invariant-loop-c : goal.invariant-loop-c
invariant-loop-c g l = record {
  same : string_bytes l.fn.held ++ encode_utf8_all l.fn.left ≡ string_bytes l.held ++ encode_utf8_all l.left;
  kept : take (length (string_bytes l.fn.held)) (string_bytes l.held) ≡ string_bytes l.fn.held;
}

abbrev pub decreases-loop-c : goal.decreases-loop-c
decreases-loop-c g l = length l.left
