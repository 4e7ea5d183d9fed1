use Rattle.std.proofs.Common.{◌≡◌, ℕ, ◌<◌, false, List, [], ◌∷◌, length, drop, sym, refl, ◌∙◌, arith}
use Rattle.std.proofs.lemmas.List.{drop_more}
use Rattle.xml_model.specs.Chars.{begins}
use Rattle.xml_chars.proofs.text.begins_with.Goals as goal

-- nothing of the mark is after the end
none_left : (mark rest : List ℕ) (i : ℕ) → i < length mark → length rest < 1 → begins (drop i mark) rest ≡ false
none_left mark [] i lt e = rw (drop_more mark i 0 lt) refl
none_left mark (b ∷ rest) i lt e = absurd (omega (arith, e))

pub returns-in_default : goal.returns-in_default
returns-in_default c = sym (none_left c.args.mark.now c.loop-wanted.rest.now c.loop-wanted.wanted-index c.loop-wanted-test.true c.in_default.len_below) ∙ c.loop-wanted.invariant
