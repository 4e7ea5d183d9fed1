use Rattle.std.proofs.Common.{◌≡◌, ◌++◌, length, string_bytes}
use Rattle.std.specs.Prelude.{encode_utf8_all}
use Rattle.std.specs.Str.{chars}
use denote.Shadow.{shadow}
use denote.Text.{Utf8}
use Rattle.xpath_values.specs.Normal.{left}
use Rattle.xpath_values.specs.Texts.{normalize_space}
use Rattle.xpath_values.proofs.normal.normalized.Given as goal

abbrev pub invariant-loop-c : goal.invariant-loop-c
invariant-loop-c l = record {
  same : string_bytes l.held ++ encode_utf8_all (left l.passed.some l.passed.gap (chars l.rest)) ≡ encode_utf8_all (normalize_space (chars l.fn.text));
  text : shadow (Utf8 l.rest);
}

abbrev pub decreases-loop-c : goal.decreases-loop-c
decreases-loop-c l = length l.rest
