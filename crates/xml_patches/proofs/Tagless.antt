-- The records of texts are no starting tags'.
use Rattle.std.proofs.Common.{◌≡◌, ℕ, zero, suc, ◌+◌, ◌-◌, true, List, [], ◌∷◌, refl, ◌∙◌, not}
use Rattle.std.specs.Prelude.{◌==◌}
use Rattle.std.specs.List.{list_all}
use Rattle.std.proofs.lemmas.Bool.{and_from, and_parts, false≢true}
use Rattle.std.proofs.lemmas.List.Folds.{list_all-append}
use Rattle.xml_model.specs.Chars.{size}
use Rattle.xml_model.specs.Items.{Leaf, text, cdata, declaration, doctype, written_pieces}
use Rattle.xml_model.specs.Records.{Record, cuts, cut_limit, full_cuts, cut_records, leaf_records, run_records, past_leaf, text_records, depth_at}
use Rattle.xml_model.specs.Levels.{is_tag}
use Rattle.xml_model.specs.Tree.{is_text}
use Rattle.xml_patches.specs.Edited.{set_text}
use Rattle.xml_patches.specs.Renumbered.{is_tagless}

cuts_tagless : (k token depth at n : ℕ) → not (token == 0) ≡ true → is_tagless (cuts k token depth at n) ≡ true
cuts_tagless zero token depth at n h = and_from _ _ h refl
cuts_tagless (suc k) token depth at n h = and_from _ _ h (cuts_tagless k token depth (at + cut_limit) (n - cut_limit) h)

cut_tagless : (token depth at n : ℕ) → not (token == 0) ≡ true → is_tagless (cut_records token depth at n) ≡ true
unfolding cut_records
cut_tagless token depth at n h = cuts_tagless (full_cuts n) token depth at n h

text_tagless : (l : ℕ) (rs : List Record) → is_tagless rs ≡ true → is_tagless (text_records l rs) ≡ true
text_tagless zero rs h = refl
text_tagless (suc d) rs h = h

leaf_tagless : (l at : ℕ) (x : Leaf) → is_text x ≡ true → is_tagless (leaf_records l at x) ≡ true
leaf_tagless l at (text ps) h =
    text_tagless l (cut_records 5 (depth_at l) at (size (written_pieces ps))) (cut_tagless 5 (depth_at l) at (size (written_pieces ps)) refl)
leaf_tagless l at (cdata cs) h = cut_tagless 11 (depth_at l) (at + 9) (size cs) refl
leaf_tagless l at (Leaf.comment cs) h = absurd (false≢true h)
leaf_tagless l at (Leaf.instruction i) h = absurd (false≢true h)
leaf_tagless l at (declaration d) h = absurd (false≢true h)
leaf_tagless l at (doctype d) h = absurd (false≢true h)

pub run_tagless : (l at : ℕ) (xs : List Leaf) → list_all is_text xs ≡ true → is_tagless (run_records l at xs) ≡ true
run_tagless l at [] h = refl
run_tagless l at (x ∷ xs) h =
    let q = and_parts (is_text x) (list_all is_text xs) h in
    list_all-append (λ r. not (is_tag r)) (leaf_records l at x) (run_records l (past_leaf at x) xs)
    ∙ and_from _ _ (leaf_tagless l at x q.0) (run_tagless l (past_leaf at x) xs q.1)

pub set_tagless : (l at : ℕ) (cs : List ℕ) → is_tagless (run_records l at (set_text cs)) ≡ true
set_tagless l at [] = refl
set_tagless l at (c ∷ cs) = run_tagless l at (set_text (c ∷ cs)) refl
