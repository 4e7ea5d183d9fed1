-- The bytes and the nest of a document in which a text is set.
use Rattle.std.proofs.Common.{◌≡◌, ℕ, true, false, List, [], ◌∷◌, ◌++◌, map, take, drop, refl, sym, ap, ap₂, subst, ◌∙◌, append-nil}
use Rattle.std.specs.List.{list_all}
use lib.Utf8.{encodes}
use Rattle.xml_model.specs.Chars.{is_char, begins}
use Rattle.xml_model.specs.Items.{Leaf, spelling, first_place, byte_order_mark, written_pieces}
use Rattle.xml_model.specs.Nest.{flat}
use Rattle.xml_model.specs.Records.{past_forest}
use Rattle.xml_model.specs.Tree.{is_text}
use Rattle.xml_model.specs.Accepted.{Accepted}
use Rattle.xml_nests.specs.Fits.{spelled, mark_length, document_of, ends_with_text, begins_with_text}
use Rattle.xml_nests.specs.Context.{Context, plug, leaves, items_before, items_after, place_in, is_held}
use Rattle.xml_nests.proofs.Walks.{first_place_of}
use Rattle.xml_nests.proofs.Law.{accepted_from_nest}
use Rattle.xml_nests.proofs.Back.{document_spelled, fits_from_accepted}
use Rattle.xml_nests.proofs.Bytes.{bytes_exchanged}
use Rattle.xml_nests.proofs.Exchange.{fits_exchanged}
use Rattle.xml_patches.specs.Edited.{in_text, set_text}
use Rattle.xml_patches.proofs.TextSet.{text_suits}

text_spelled : (cs : List ℕ) → spelled (flat (leaves (set_text cs))) ≡ encodes (written_pieces (map in_text cs))
unfolding flat spelling
text_spelled [] = refl
text_spelled (c ∷ cs) = append-nil (encodes (written_pieces (map in_text (c ∷ cs))))

-- where all are Chars, the bytes with the text are a document, and its nest is this one
pub text_patched : (k : ℕ) (bytes : List ℕ) (c : Context) (xs : List Leaf) (cs : List ℕ) → Accepted k bytes (plug c (leaves xs)) → is_held c ≡ true →
    list_all is_text xs ≡ true → ends_with_text (items_before c) ≡ false → begins_with_text (items_after c) ≡ false →
    list_all is_char cs ≡ true →
    let s = place_in (first_place bytes) c in
    let new = take s bytes ++ (encodes (written_pieces (map in_text cs)) ++ drop (past_forest s (leaves xs)) bytes) in
    Accepted k new (plug c (leaves (set_text cs))) × (first_place new ≡ first_place bytes)
text_patched k bytes c xs cs a held texts e b chars =
    let f = fits_from_accepted k bytes (plug c (leaves xs)) a in
    let m = begins byte_order_mark bytes in
    let is = document_spelled bytes (plug c (leaves xs)) a.document in
    let first : first_place bytes ≡ mark_length m = ap first_place is ∙ first_place_of m (plug c (leaves xs)) f.nests f.meets_all in
    let fits = fits_exchanged k c (leaves xs) (leaves (set_text cs)) f (text_suits k c xs cs held texts f e b chars) in
    let new = accepted_from_nest k m (plug c (leaves (set_text cs))) fits in
    let s = place_in (mark_length m) c in
    let e1 : document_of m (plug c (leaves (set_text cs))) ≡ take s (document_of m (plug c (leaves xs))) ++
    (spelled (flat (leaves (set_text cs))) ++ drop (past_forest s (leaves xs)) (document_of m (plug c (leaves xs)))) =
    bytes_exchanged m c (leaves xs) (leaves (set_text cs)) in
    let e2 : document_of m (plug c (leaves (set_text cs))) ≡ take s bytes ++
    (encodes (written_pieces (map in_text cs)) ++ drop (past_forest s (leaves xs)) bytes) =
    e1 ∙ ap₂ (λ (u v : List ℕ). take s u ++ (v ++ drop (past_forest s (leaves xs)) u)) (sym is) (text_spelled cs) in
    let e3 : take s bytes ++ (encodes (written_pieces (map in_text cs)) ++ drop (past_forest s (leaves xs)) bytes) ≡ take
    (place_in (first_place bytes) c) bytes ++
    (encodes (written_pieces (map in_text cs)) ++ drop (past_forest (place_in (first_place bytes) c) (leaves xs)) bytes) =
    ap (λ (n : ℕ). take (place_in n c) bytes ++ (encodes (written_pieces (map in_text cs)) ++ drop (past_forest (place_in n c) (leaves xs)) bytes))
    (sym first) in (
      subst (λ (l : List ℕ). Accepted k l (plug c (leaves (set_text cs)))) (e2 ∙ e3) new,
      ap first_place (sym (e2 ∙ e3))
          ∙ first_place_of m (plug c (leaves (set_text cs))) fits.nests fits.meets_all ∙ sym first,
    )
