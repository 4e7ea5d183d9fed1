use Rattle.std.proofs.Common.{◌≡◌, ◌++◌, ◌∷◌, [], length, string_bytes}
use Rattle.std.specs.BTreeMap.{get}
use Rattle.std.specs.List.{flat_map}
use Rattle.std.specs.Ordering.{nat_cmp}
use Rattle.std.specs.Prelude.{encode_utf8_all}
use Rattle.std.specs.Str.{chars}
use denote.Shadow.{shadow}
use denote.Text.{Utf8}
use Rattle.xpath_values.specs.Translating.{noted}
use Rattle.xpath_values.proofs.translating.translated.Given as goal

abbrev pub invariant-loop-c : goal.invariant-loop-c
invariant-loop-c l = record {
  same : string_bytes l.held ++ encode_utf8_all (flat_map (λ c. noted (get nat_cmp l.fn.changes c) (c ∷ [])) (chars l.rest))
      ≡ encode_utf8_all (flat_map (λ c. noted (get nat_cmp l.fn.changes c) (c ∷ [])) (chars l.fn.text));
  text : shadow (Utf8 l.rest);
}

abbrev pub decreases-loop-c : goal.decreases-loop-c
decreases-loop-c l = length l.rest
