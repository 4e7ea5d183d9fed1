use Rattle.std.proofs.Common.{◌≡◌, ◌++◌, ◌+◌, ◌≤◌, length, string_bytes}
use Rattle.std.specs.Prelude.{encode_utf8_all}
use Rattle.std.specs.Str.{chars}
use denote.Shadow.{shadow}
use denote.Text.{Utf8}
use Rattle.xpath_values.specs.Texts.{at_positions, is_within}
use Rattle.xpath_values.proofs.positions.kept.Given as goal

abbrev pub invariant-loop-c : goal.invariant-loop-c
invariant-loop-c l = record {
  same : string_bytes l.held ++ encode_utf8_all (at_positions (is_within l.fn.first l.fn.count) l.position (chars l.rest))
      ≡ encode_utf8_all (at_positions (is_within l.fn.first l.fn.count) 1 (chars l.fn.text));
  room : l.position + length l.rest ≤ 1 + length l.fn.text;
  text : shadow (Utf8 l.rest);
}

abbrev pub decreases-loop-c : goal.decreases-loop-c
decreases-loop-c l = length l.rest
