use Rattle.std.proofs.Common.{◌≡◌, length}
use Rattle.std.specs.Str.{chars}
use denote.Shadow.{shadow}
use denote.Text.{Utf8}
use Rattle.xpath_values.specs.Translating.{agrees}
use Rattle.xpath_values.proofs.languages.agrees.Given as goal

abbrev pub invariant-loop-c : goal.invariant-loop-c
invariant-loop-c g l = record {
  same : agrees l.left (chars l.name) ≡ agrees l.fn.value (chars l.fn.language);
  text : shadow (Utf8 l.name);
}

abbrev pub decreases-loop-c : goal.decreases-loop-c
decreases-loop-c g l = length l.name
