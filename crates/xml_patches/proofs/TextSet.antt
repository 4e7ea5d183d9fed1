-- A text that is set: what has to be tested of it.
use Rattle.std.proofs.Common.{◌≡◌, ℕ, zero, suc, true, false, List, [], ◌∷◌, ◌++◌, map, None, refl, sym, ap, ◌∙◌, append-nil}
use Rattle.std.specs.List.{list_all}
use Rattle.std.proofs.lemmas.Bool.{and_from, false≢true}
use Rattle.xml_model.specs.Chars.{size, is_char}
use Rattle.xml_model.specs.Items.{Piece, Tag, Leaf, text, cdata, declaration, doctype, Item, leaf, is_nil, written_pieces}
use Rattle.xml_model.specs.Nest.{done, single, flat, is_content}
use Rattle.xml_model.specs.Records.{forest_records, past_leaf, cut_records}
use Rattle.xml_model.specs.Tree.{is_text}
use Rattle.xml_model.specs.Accepted.{Faults, over_names, first_wide, repeats, offences}
use Rattle.xml_nests.specs.Fits.{Fits, texts_apart, begins_with_text, ends_with_text}
use Rattle.xml_nests.specs.Context.{leaves, Context, plug, items_before, items_after, level_in, tags_in, is_held}
use Rattle.xml_nests.proofs.Apart.{apart_left, apart_right, apart_join}
use Rattle.xml_model.proofs.Cuts.{narrow_cuts}
use Rattle.xml_patches.specs.Edited.{in_text, set_text}
use Rattle.xml_nests.proofs.Around.{flat_plug}
use Rattle.xml_nests.proofs.Exchange.{Suits}
use Rattle.xml_patches.proofs.Plain.{set_text_meets, set_text_resolved}

-- ---- texts stay apart

before_others : (is : List Item) (ps : List Piece) → texts_apart is ≡ true → begins_with_text is ≡ false → texts_apart (leaf (text ps) ∷ is) ≡ true
before_others is ps a e = rw e a

-- ---- texts are content and have no names

texts_content : (xs : List Leaf) (m : ℕ) → list_all is_text xs ≡ true → is_content m (leaves xs) ≡ true
unfolding is_content
texts_content [] m h = refl
texts_content (text ps ∷ xs) m h = texts_content xs m h
texts_content (cdata cs ∷ xs) m h = texts_content xs m h
texts_content (Leaf.comment cs ∷ xs) m h = absurd (false≢true h)
texts_content (Leaf.instruction i ∷ xs) m h = absurd (false≢true h)
texts_content (declaration d ∷ xs) m h = absurd (false≢true h)
texts_content (doctype d ∷ xs) m h = absurd (false≢true h)

texts_no_names : (w : Faults) (tags : List Tag) (xs : List Leaf) (at : ℕ) → list_all is_text xs ≡ true → is_nil (over_names w tags at (leaves xs)) ≡ true
texts_no_names w tags [] at h = refl
texts_no_names w tags (text ps ∷ xs) at h = texts_no_names w tags xs (past_leaf at (text ps)) h
texts_no_names w tags (cdata cs ∷ xs) at h = texts_no_names w tags xs (past_leaf at (cdata cs)) h
texts_no_names w tags (Leaf.comment cs ∷ xs) at h = absurd (false≢true h)
texts_no_names w tags (Leaf.instruction i ∷ xs) at h = absurd (false≢true h)
texts_no_names w tags (declaration d ∷ xs) at h = absurd (false≢true h)
texts_no_names w tags (doctype d ∷ xs) at h = absurd (false≢true h)

set_is_text : (cs : List ℕ) → list_all is_text (set_text cs) ≡ true
set_is_text [] = refl
set_is_text (c ∷ cs) = refl

-- ---- its records have room

narrow : (l : ℕ) (ps : List Piece) → first_wide (forest_records l 0 (single (text ps) done)) ≡ None
unfolding first_wide
narrow zero ps = refl
narrow (suc l) ps = ap first_wide (append-nil (cut_records 5 l 0 (size (written_pieces ps))))
    ∙ narrow_cuts 5 l 0 (size (written_pieces ps)) refl

-- what is put in the place of a text node, where all are Chars
pub text_suits : (k : ℕ) (c : Context) (xs : List Leaf) (cs : List ℕ) → is_held c ≡ true → list_all is_text xs ≡ true → Fits k (plug c (leaves xs)) →
    ends_with_text (items_before c) ≡ false → begins_with_text (items_after c) ≡ false →
    list_all is_char cs ≡ true → Suits k c (leaves xs) (leaves (set_text cs))
unfolding flat first_wide
text_suits k c xs [] held texts f e b chars =
    let old : texts_apart (items_before c ++ (flat (leaves xs) ++ items_after c)) ≡ true = ap texts_apart (sym (flat_plug c (leaves xs))) ∙ f.apart in
    let r = apart_right (flat (leaves xs)) (items_after c) (apart_right (items_before c) (flat (leaves xs) ++ items_after c) old) in
    record {
      held = held;
      content = λ m. texts_content xs m texts ∙ sym (texts_content [] m refl);
      meets_all = refl;
      apart = ap texts_apart (flat_plug c (leaves []))
          ∙ apart_join (items_before c) (items_after c) (apart_left (items_before c) (flat (leaves xs) ++ items_after c) old) r e;
      entities = refl;
      encoding = refl;
      widths = refl;
      twice = λ m at to. texts_no_names repeats (tags_in [] c) xs at texts;
      names = λ m at to. texts_no_names offences (tags_in [] c) xs at texts;
    }
text_suits k c xs (d ∷ cs) held texts f e b chars =
    let ps = map in_text (d ∷ cs) in
    let old : texts_apart (items_before c ++ (flat (leaves xs) ++ items_after c)) ≡ true = ap texts_apart (sym (flat_plug c (leaves xs))) ∙ f.apart in
    let r = apart_right (flat (leaves xs)) (items_after c) (apart_right (items_before c) (flat (leaves xs) ++ items_after c) old) in
    record {
      held = held;
      content = λ m. texts_content xs m texts ∙ sym (texts_content (text ps ∷ []) m refl);
      meets_all = and_from _ _ (set_text_meets d cs ∙ chars) refl;
      apart = ap texts_apart (flat_plug c (leaves (text ps ∷ [])))
          ∙ apart_join (items_before c) (leaf (text ps) ∷ items_after c) (apart_left (items_before c) (flat (leaves xs) ++ items_after c) old)
          (before_others (items_after c) ps r b) e;
      entities = and_from _ _ (set_text_resolved (d ∷ cs)) refl;
      encoding = refl;
      widths = narrow (level_in 0 c) ps;
      twice = λ m at to. texts_no_names repeats (tags_in [] c) xs at texts ∙ sym (texts_no_names repeats (tags_in [] c) (text ps ∷ []) to refl);
      names = λ m at to. texts_no_names offences (tags_in [] c) xs at texts ∙ sym (texts_no_names offences (tags_in [] c) (text ps ∷ []) to refl);
    }
