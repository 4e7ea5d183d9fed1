-- The records of a text, one cut after another.
use Rattle.std.proofs.Common.{◌≡◌, ℕ, ◌+◌, ◌-◌, ◌<◌, ◌≤◌, false, List, [], ◌∷◌, ◌++◌, map, refl, sym, ap, ◌∙◌, append_assoc, arith}
use Rattle.std.specs.Prelude.{◌==◌}
use Rattle.std.proofs.lemmas.Bool.{ne_eqb}
use Rattle.xml_model.specs.Records.{Record, cut, cut_records, depth_at, word}
use Rattle.xml_model.proofs.Cuts.{one_cut, more_cuts}
use Rattle.vtd_patch.specs.Changes.{text_run}

-- after one full cut more
pub cut_more : (depth at left : ℕ) (words new all : List ℕ) → words ++ map word (cut_records 5 depth at left) ≡ all → 1_048_575 < left →
    new ≡ words ++ word (cut 5 depth 1_048_575 at) ∷ [] → new ++ map word (cut_records 5 depth (at + 1_048_575) (left - 1_048_575)) ≡ all
cut_more depth at left words new all h l e =
    let rest = map word (cut_records 5 depth (at + 1_048_575) (left - 1_048_575)) in
    ap (λ (ws : List ℕ). ws ++ rest) e ∙ append_assoc words (word (cut 5 depth 1_048_575 at) ∷ []) rest
    ∙ ap (λ (rs : List Record). words ++ map word rs) (sym (more_cuts 5 depth at left l)) ∙ h

-- after the last one
pub cut_last : (depth at left : ℕ) (words new all : List ℕ) → words ++ map word (cut_records 5 depth at left) ≡ all → left ≤ 1_048_575 →
    new ≡ words ++ word (cut 5 depth left at) ∷ [] → new ≡ all
cut_last depth at left words new all h l e = e ∙ ap (λ (rs : List Record). words ++ map word rs) (sym (one_cut 5 depth at left l)) ∙ h

run_there : (level start n : ℕ) → 0 < n → text_run level start n ≡ cut_records 5 (depth_at level) start n
run_there level start n h = let f : (n == 0) ≡ false = ne_eqb n 0 (λ z. omega (arith, z, h)) in rw f refl

-- the records of a text that is not empty
pub run_is : (level start n depth : ℕ) → 0 < n → depth ≡ depth_at level →
    map word (cut_records 5 depth start n) ≡ map word (text_run level start n)
run_is level start n depth h e =
    ap (λ (d : ℕ). map word (cut_records 5 d start n)) e ∙ ap (map word) (sym (run_there level start n h))
