-- Where items are: between characters, and so are their spans.
use Rattle.std.proofs.Common.{◌≡◌, ℕ, ◌+◌, true, inl, inr, List, [], ◌∷◌, ◌++◌, length, drop, refl, sym, ap, subst, ◌∙◌, arith, append_assoc}
use Rattle.std.specs.Prelude.{codes, ◌&&◌}
use Rattle.std.specs.Str.{IsUtf8, chars, IsCharBoundary}
use lib.Utf8.{encode, encodes}
use Rattle.std.proofs.lemmas.Bool.{cases_Bool, and_parts}
use Rattle.std.proofs.lemmas.List.{append-nil}
use Rattle.std.proofs.lemmas.Str.{IsUtf8-drop, IsCharBoundary-start}
use Rattle.xml_model.specs.Chars.{begins, size}
use Rattle.xml_model.specs.Items.{Tag, Declaration, Item, leaf, Leaf, start_tag, empty_tag, end_tag, written, written_pieces, written_attributes, written_units, spelling, meets, ends_well, may_begin_at, begins_at, first_place, byte_order_mark, walk_from, walk, end_of_items}
use Rattle.xml_model.specs.Records.{declaration_attributes}
use Rattle.xml_chars.specs.Places.{span_from, IsTextSpan}
use Rattle.xml_chars.proofs.HoldLemmas.{prefix_holds, size-append}
use Rattle.xml_chars.proofs.SpanPlaces.{prefix_ends, part_holds}
use Rattle.xml_items.specs.Shown.{item_name, item_content, IsItemAt, HasTextSpans}
use Rattle.xml_items.specs.Counted.{IsCountedAt}
use Rattle.xml_items.specs.declared.Item.{Item as ItemShown}
use Rattle.xml_items.specs.declared.Counted.{Counted}
use Rattle.xml_items.proofs.SpanLemmas.{spelled, size_1, size_slash, size_comment, size_cdata, size_question, size_xml, size_doctype}
use Rattle.xml_items.proofs.AttributeLemmas.{parts_split}
use Rattle.xml_chars.proofs.HoldLemmas.{size_nil}

-- the characters of an item that begins at a place
pub written_at : (bytes : List ℕ) (at : ℕ) (i : Item) → IsUtf8 bytes → IsCharBoundary bytes at → begins_at bytes at i ≡ true → (v : List ℕ) × (chars (drop at bytes) ≡ written i ++ v)
unfolding begins_at spelling
written_at bytes at i u b h =
    let x = and_parts (meets i && begins (encodes (written i)) (drop at bytes) && ends_well i (drop (at + length (encodes (written i))) bytes)) (may_begin_at i (first_place bytes) at) h in
    let y = and_parts (meets i && begins (encodes (written i)) (drop at bytes)) (ends_well i (drop (at + length (encodes (written i))) bytes)) x.0 in
    let z = and_parts (meets i) (begins (encodes (written i)) (drop at bytes)) y.0 in
    let f = prefix_holds (drop at bytes) (written i) (IsUtf8-drop bytes at u b) z.1 in
    (f.0, f.1)

pub item_ends : (bytes : List ℕ) (at : ℕ) (i : Item) → IsUtf8 bytes → IsCharBoundary bytes at → begins_at bytes at i ≡ true → IsCharBoundary bytes (at + length (spelling i))
item_ends bytes at i u b h = let w = written_at bytes at i u b h in subst (λ (n : ℕ). IsCharBoundary bytes (at + n)) (sym (spelled i)) (prefix_ends bytes at (written i) w.0 u b w.1)

-- ---- the places of a walk

mark_size : 0 + size (0xFEFF ∷ []) ≡ 3
unfolding size lib.Utf8.encode
mark_size = refl

mark_is : encodes (0xFEFF ∷ []) ≡ byte_order_mark
unfolding lib.Utf8.encode
mark_is = refl

after_mark : (bytes : List ℕ) → IsUtf8 bytes → begins byte_order_mark bytes ≡ true → IsCharBoundary bytes 3
after_mark bytes u h =
    let f = prefix_holds bytes (0xFEFF ∷ []) u (ap (λ (m : List ℕ). begins m bytes) mark_is ∙ h) in
    subst (λ (n : ℕ). IsCharBoundary bytes n) mark_size (prefix_ends bytes 0 (0xFEFF ∷ []) f.0 u (IsCharBoundary-start bytes u) f.1)

pub first_boundary : (bytes : List ℕ) → IsUtf8 bytes → IsCharBoundary bytes (first_place bytes)
unfolding first_place
first_boundary bytes u = elim (cases_Bool (begins byte_order_mark bytes)) [
  | inl t ↦ rw t (after_mark bytes u t)
  | inr f ↦ rw f (IsCharBoundary-start bytes u)
]

walked_from : (bytes : List ℕ) (p : ℕ) (is : List Item) → IsUtf8 bytes → IsCharBoundary bytes p → walk_from bytes p is ≡ true → IsCharBoundary bytes (end_of_items p is)
walked_from bytes p [] u b h = b
walked_from bytes p (i ∷ is) u b h =
    let q = and_parts (begins_at bytes p i) (walk_from bytes (p + length (spelling i)) is) h in
    walked_from bytes (p + length (spelling i)) is u (item_ends bytes p i u b q.0) q.1

pub walk_boundary : (bytes : List ℕ) (is : List Item) → IsUtf8 bytes → walk bytes is ≡ true → IsCharBoundary bytes (end_of_items (first_place bytes) is)
unfolding walk
walk_boundary bytes is u h = walked_from bytes (first_place bytes) is u (first_boundary bytes u) h

-- ---- the spans of an item

record Parts (bytes : List ℕ) (at : ℕ) (i : Item) : Type 0 where
  pub name : IsTextSpan bytes (item_name at i)
  pub content : IsTextSpan bytes (item_content at i)

none_there : (bytes : List ℕ) (at : ℕ) → IsCharBoundary bytes at → IsTextSpan bytes record { start = at; end = at }
none_there bytes at b = record { start = b; end = b; order = omega arith }

abbrev MayBegin : List ℕ → ℕ → List ℕ → Type 0
MayBegin bytes at cs = (v : List ℕ) × (chars (drop at bytes) ≡ cs ++ v)

part_of : (bytes : List ℕ) (at p : ℕ) (cs w n v : List ℕ) → IsUtf8 bytes → IsCharBoundary bytes at → (s : MayBegin bytes at cs) → cs ≡ w ++ (n ++ v) → p ≡ at + size w → IsTextSpan bytes (span_from p n)
part_of bytes at p cs w n v u b s e is = part_holds bytes at p w n (v ++ s.0) u b (s.1 ∙ ap (λ (l : List ℕ). l ++ s.0) e ∙ by_three w n v s.0) is
  where
    by_three : (w n v r : List ℕ) → (w ++ (n ++ v)) ++ r ≡ w ++ (n ++ (v ++ r))
    by_three w n v r = simp append_assoc

tag_name : (n w sp c : List ℕ) → (codes "<" ++ n ++ w ++ sp) ++ c ≡ codes "<" ++ (n ++ (w ++ (sp ++ c)))
tag_name n w sp c = simp append_assoc

tag_content_is : (n w sp c : List ℕ) → (codes "<" ++ n ++ w ++ sp) ++ c ≡ (codes "<" ++ n) ++ ((w ++ sp) ++ c)
tag_content_is n w sp c = simp append_assoc

tag_parts : (bytes : List ℕ) (at : ℕ) (t : Tag) (c : List ℕ) → IsUtf8 bytes → IsCharBoundary bytes at → MayBegin bytes at ((codes "<" ++ t.name ++ written_attributes t.attributes ++ t.space) ++ c) → IsTextSpan bytes (span_from (at + 1) t.name) × IsTextSpan bytes (span_from (at + 1 + size t.name) (written_attributes t.attributes ++ t.space))
tag_parts bytes at t c u b s = (
  part_of bytes at (at + 1) _ (codes "<") t.name (written_attributes t.attributes ++ (t.space ++ c)) u b s (tag_name t.name (written_attributes t.attributes) t.space c) (omega (arith, size_1)),
  part_of bytes at (at + 1 + size t.name) _ (codes "<" ++ t.name) (written_attributes t.attributes ++ t.space) c u b s (tag_content_is t.name (written_attributes t.attributes) t.space c) (omega (arith, size_1, size-append (codes "<") t.name)),
)

parts_whole : (d : Declaration) → written (leaf (Leaf.declaration d)) ≡ codes "<?xml" ++ ((written_attributes (declaration_attributes d) ++ d.space) ++ codes "?>")
parts_whole d =
    sym (append-nil (written (leaf (Leaf.declaration d)))) ∙ parts_split d.version d.encoding d.standalone d.space []
    ∙ ap (λ (l : List ℕ). codes "<?xml" ++ l) (sym (append_assoc (written_attributes (declaration_attributes d)) d.space (codes "?>")))

parts : (bytes : List ℕ) (at : ℕ) (i : Item) → IsUtf8 bytes → IsCharBoundary bytes at → MayBegin bytes at (written i) → Parts bytes at i
parts bytes at (leaf (Leaf.text ps)) u b s = record {
  name = none_there bytes at b;
  content = part_of bytes at at _ [] (written_pieces ps) [] u b s (sym (append-nil (written_pieces ps))) (omega (arith, size_nil));
}
parts bytes at (leaf (Leaf.cdata cs)) u b s = record {
  name = none_there bytes at b;
  content = part_of bytes at (at + 9) _ (codes "<![CDATA[") cs (codes "]]>") u b s refl (omega (arith, size_cdata));
}
parts bytes at (leaf (Leaf.comment cs)) u b s = record {
  name = none_there bytes at b;
  content = part_of bytes at (at + 4) _ (codes "<!--") cs (codes "-->") u b s refl (omega (arith, size_comment));
}
parts bytes at (leaf (Leaf.instruction i)) u b s = record {
  name = part_of bytes at (at + 2) (written (leaf (Leaf.instruction i))) (codes "<?") i.target (i.space ++ (i.content ++ codes "?>")) u b s (simp append_assoc) (omega (arith, size_question));
  content = part_of bytes at (at + 2 + size i.target + size i.space) (written (leaf (Leaf.instruction i))) (codes "<?" ++ i.target ++ i.space) i.content (codes "?>") u b s (simp append_assoc) (omega (arith, size_question, size-append (codes "<?") i.target, size-append (codes "<?" ++ i.target) i.space));
}
parts bytes at (leaf (Leaf.declaration d)) u b s = record {
  name = none_there bytes at b;
  content = part_of bytes at (at + 5) (written (leaf (Leaf.declaration d))) (codes "<?xml") (written_attributes (declaration_attributes d) ++ d.space) (codes "?>") u b s (parts_whole d) (omega (arith, size_xml));
}
parts bytes at (leaf (Leaf.doctype d)) u b s = record {
  name = part_of bytes at (at + 9 + size d.space) (written (leaf (Leaf.doctype d))) (codes "<!DOCTYPE" ++ d.space) d.name (written_units d.units ++ codes ">") u b s (simp append_assoc) (omega (arith, size_doctype, size-append (codes "<!DOCTYPE") d.space));
  content = part_of bytes at (at + 9) (written (leaf (Leaf.doctype d))) (codes "<!DOCTYPE") (d.space ++ d.name ++ written_units d.units) (codes ">") u b s (simp append_assoc) (omega (arith, size_doctype));
}
parts bytes at (start_tag t) u b s = let k = tag_parts bytes at t (codes ">") u b s in record { name = k.0; content = k.1 }
parts bytes at (empty_tag t) u b s = let k = tag_parts bytes at t (codes "/>") u b s in record { name = k.0; content = k.1 }
parts bytes at (end_tag n sp) u b s = record {
  name = part_of bytes at (at + 2) (written (end_tag n sp)) (codes "</") n (sp ++ codes ">") u b s (simp append_assoc) (omega (arith, size_slash));
  content = part_of bytes at (at + 2 + size n) (written (end_tag n sp)) (codes "</" ++ n) sp (codes ">") u b s (simp append_assoc) (omega (arith, size_slash, size-append (codes "</") n));
}

pub item_spans : (bytes : List ℕ) (at : ℕ) (found : ItemShown) → IsUtf8 bytes → IsCharBoundary bytes at → IsItemAt bytes at found → HasTextSpans bytes found
item_spans bytes at found u b h =
    let k = parts bytes at h.item u b (written_at bytes at h.item u b h.begins) in
    subst (HasTextSpans bytes) (sym h.shown) record {
      span = record { start = b; end = item_ends bytes at h.item u b h.begins; order = omega arith };
      name = k.name;
      content = k.content;
    }

pub counted_item : (bytes : List ℕ) (at : ℕ) (found : Counted) → IsCountedAt bytes at found → IsItemAt bytes at found.item
counted_item bytes at found h = record { item = h.item; begins = h.begins; shown = h.shown }
