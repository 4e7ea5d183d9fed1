-- The item at a place, by the reader of what is there.
use Rattle.std.proofs.Common.{◌≡◌, ℕ, ◌+◌, ◌<◌, ◌≤◌, Bool, true, false, inl, inr, ◌⊎◌, cond, List, [], ◌∷◌, ◌++◌, length, drop, Option, Some, None, refl, sym, ap, subst, ◌∙◌, arith, lit<}
use Rattle.std.specs.Prelude.{codes, ◌==◌, ◌&&◌}
use Rattle.std.specs.Str.{IsUtf8, chars, IsCharBoundary}
use Rattle.std.specs.List.{starts_with}
use Rattle.std.specs.Prelude.{nat_eq}
use lib.Utf8.{encode, encodes}
use Rattle.std.proofs.lemmas.List.{drop-drop}
use Rattle.std.proofs.lemmas.Str.{chars-encodes, chars-nil, scalars-chars}
use Rattle.std.proofs.lemmas.Bool.{cases_Bool, cases_lt, false≢true, and_parts, and_from, ne_eqb, eq-eqb, eqb-true, lt-ltb, le-ltb, false_from_ne_true}
use Rattle.xml_model.specs.Chars.{begins, size}
use Rattle.xml_model.specs.Items.{Item, leaf, Leaf, start_tag, empty_tag, end_tag, written, spelling, meets, ends_well, may_begin_at, begins_at, first_place, byte_order_mark}
use Rattle.xml_chars.specs.Readers.{word}
use Rattle.xml_chars.specs.Reading.{ascii_head, read_name}
use Rattle.xml_chars.proofs.Readers.{word_reads, map_some}
use Rattle.xml_chars.proofs.Points.{first_of, wide_first, ascii_char}
use Rattle.xml_chars.proofs.TextLemmas.{pointwise-begins}
use Rattle.xml_chars.proofs.HoldLemmas.{prefix_holds, read_to, To}
use Rattle.xml_items.specs.Reading.{is_name_read, ItemForm, as_text, as_tag, as_end_tag, as_comment, as_cdata, as_doctype, as_instruction, as_declaration, item_form, read_by, read_item}
use Rattle.xml_items.specs.MayBegin.{may_begin}
use Rattle.xml_items.specs.Shown.{HasNoItem}
use Rattle.xml_items.specs.Counted.{IsCountedAt}
use Rattle.xml_items.specs.Counting.{counted_shown}
use Rattle.xml_items.specs.declared.Counted.{Counted}
use Rattle.xml_items.proofs.ItemLaws.{FitItem, item_reads}
use Rattle.xml_items.proofs.CountLemmas.{counts}
use Rattle.xml_chars.proofs.ReferenceLemmas.{word_none}
use Rattle.xml_chars.proofs.TextLemmas.{scalars_back}
use Rattle.xml_chars.proofs.HoldLemmas.{size_drop}

-- ---- by the first characters

pub head_is : (b : ℕ) (r : List ℕ) → 0 < b → b < 128 → begins (b ∷ []) r ≡ (ascii_head r == b)
unfolding ascii_head
head_is b [] pos low = sym (ne_eqb 0 b (λ e. omega arith))
head_is b (c ∷ r) pos low = elim (cases_lt c 128) [
  | inl lt ↦ rw (lt-ltb c 128 lt) (same b c)
  | inr ge ↦ rw (le-ltb c 128 ge) (ap (λ (x : Bool). x && true) (ne_eqb b c (λ e. omega arith)) ∙ sym (ne_eqb 128 b (λ e. omega arith)))
]
  where
    same : (b c : ℕ) → (b == c && true) ≡ (c == b)
    same b c = elim (cases_Bool (c == b)) [
      | inl t ↦ ap (λ (x : Bool). x && true) (eq-eqb b c (sym (eqb-true c b t))) ∙ sym t
      | inr f ↦ ap (λ (x : Bool). x && true) (ne_eqb b c (λ e. false≢true (sym f ∙ eq-eqb c b (sym e)))) ∙ sym f
    ]

pub by_form : (at : ℕ) (first : Bool) (s : List ℕ) (k : ItemForm) → item_form s ≡ k → counts at (read_item first s) ≡ counts at (read_by first k s)
unfolding read_item
by_form at first s k e = ap (λ (f : ItemForm). counts at (read_by first f s)) e

pub form_text : (s : List ℕ) → word (codes "<") s ≡ None → item_form s ≡ as_text
unfolding item_form
form_text s e = rw (word_none (codes "<") s e) refl

opened : (s r : List ℕ) → word (codes "<") s ≡ Some (tt, r) → s ≡ 60 ∷ r
opened s r e = ((word_reads (codes "<")).takes s tt r e).0

yes : (b : ℕ) (r : List ℕ) → 0 < b → b < 128 → ascii_head r ≡ b → begins (b ∷ []) r ≡ true
yes b r pos low h = head_is b r pos low ∙ eq-eqb (ascii_head r) b h

not-yet : (b : ℕ) (r : List ℕ) → 0 < b → b < 128 → (ascii_head r ≡ b → ⊥) → begins (b ∷ []) r ≡ false
not-yet b r pos low n = head_is b r pos low ∙ ne_eqb (ascii_head r) b n

pub form_end : (s r : List ℕ) → word (codes "<") s ≡ Some (tt, r) → ascii_head r ≡ 47 → item_form s ≡ as_end_tag
unfolding item_form
form_end s r e h = let y : begins (codes "/") r ≡ true = yes 47 r (lit< tt) (lit< tt) h in rw (opened s r e, y) refl

pub form_question : (s r : List ℕ) (b : Bool) → word (codes "<") s ≡ Some (tt, r) → ascii_head r ≡ 63 → is_name_read (codes "xml") (read_name (drop 1 r)) ≡ b → item_form s ≡ cond b as_declaration as_instruction
unfolding item_form
form_question s r b e h x =
    let n : begins (codes "/") r ≡ false = not-yet 47 r (lit< tt) (lit< tt) (λ z. other 63 47 (sym h ∙ z) refl) in
    let y : begins (codes "?") r ≡ true = yes 63 r (lit< tt) (lit< tt) h in
    rw (opened s r e, n, y) (ap (λ (z : Bool). cond z as_declaration as_instruction) x)
  where
    other : (a b : ℕ) → a ≡ b → (a == b) ≡ false → ⊥
    other a b e f = false≢true (sym f ∙ eq-eqb a b e)

other : (a b : ℕ) → a ≡ b → (a == b) ≡ false → ⊥
other a b e f = false≢true (sym f ∙ eq-eqb a b e)

pub form_bang : (s r : List ℕ) → word (codes "<") s ≡ Some (tt, r) → ascii_head r ≡ 33 → item_form s ≡ cond (begins (codes "-") (drop 1 r)) as_comment (cond (begins (codes "[") (drop 1 r)) as_cdata as_doctype)
unfolding item_form
form_bang s r e h =
    let n : begins (codes "/") r ≡ false = not-yet 47 r (lit< tt) (lit< tt) (λ z. other 33 47 (sym h ∙ z) refl) in
    let m : begins (codes "?") r ≡ false = not-yet 63 r (lit< tt) (lit< tt) (λ z. other 33 63 (sym h ∙ z) refl) in
    let y : begins (codes "!") r ≡ true = yes 33 r (lit< tt) (lit< tt) h in
    rw (opened s r e, n, m, y) refl

pub form_comment : (s r : List ℕ) → word (codes "<") s ≡ Some (tt, r) → ascii_head r ≡ 33 → ascii_head (drop 1 r) ≡ 45 → item_form s ≡ as_comment
form_comment s r e h k = form_bang s r e h ∙ ap (λ (z : Bool). cond z as_comment (cond (begins (codes "[") (drop 1 r)) as_cdata as_doctype)) (yes 45 (drop 1 r) (lit< tt) (lit< tt) k)

pub form_cdata : (s r : List ℕ) → word (codes "<") s ≡ Some (tt, r) → ascii_head r ≡ 33 → (ascii_head (drop 1 r) ≡ 45 → ⊥) → ascii_head (drop 1 r) ≡ 91 → item_form s ≡ as_cdata
form_cdata s r e h n k =
    form_bang s r e h ∙ ap (λ (z : Bool). cond z as_comment (cond (begins (codes "[") (drop 1 r)) as_cdata as_doctype)) (not-yet 45 (drop 1 r) (lit< tt) (lit< tt) n)
    ∙ ap (λ (z : Bool). cond z as_cdata as_doctype) (yes 91 (drop 1 r) (lit< tt) (lit< tt) k)

pub form_doctype : (s r : List ℕ) → word (codes "<") s ≡ Some (tt, r) → ascii_head r ≡ 33 → (ascii_head (drop 1 r) ≡ 45 → ⊥) → (ascii_head (drop 1 r) ≡ 91 → ⊥) → item_form s ≡ as_doctype
form_doctype s r e h n k =
    form_bang s r e h ∙ ap (λ (z : Bool). cond z as_comment (cond (begins (codes "[") (drop 1 r)) as_cdata as_doctype)) (not-yet 45 (drop 1 r) (lit< tt) (lit< tt) n)
    ∙ ap (λ (z : Bool). cond z as_cdata as_doctype) (not-yet 91 (drop 1 r) (lit< tt) (lit< tt) k)

pub form_tag : (s r : List ℕ) → word (codes "<") s ≡ Some (tt, r) → (ascii_head r ≡ 47 → ⊥) → (ascii_head r ≡ 63 → ⊥) → (ascii_head r ≡ 33 → ⊥) → item_form s ≡ as_tag
unfolding item_form
form_tag s r e a b c =
    let n : begins (codes "/") r ≡ false = not-yet 47 r (lit< tt) (lit< tt) a in
    let m : begins (codes "?") r ≡ false = not-yet 63 r (lit< tt) (lit< tt) b in
    let o : begins (codes "!") r ≡ false = not-yet 33 r (lit< tt) (lit< tt) c in
    rw (opened s r e, n, m, o) refl

-- ---- the first place

pub place_is : (bs : List ℕ) (b : Bool) → b ≡ starts_with nat_eq bs byte_order_mark → first_place bs ≡ cond b 3 0
unfolding first_place
place_is bs b e = ap (λ (x : Bool). cond x 3 0) (sym (pointwise-begins byte_order_mark bs) ∙ sym e)

-- ---- soundness and completeness

pub ends_same : (i : Item) (bs : List ℕ) → IsUtf8 bs → ends_well i bs ≡ ends_well i (chars bs)
ends_same (leaf (Leaf.text ps)) bs u = go bs u
  where
    go : (bs : List ℕ) → IsUtf8 bs → ends_well (leaf (Leaf.text ps)) bs ≡ ends_well (leaf (Leaf.text ps)) (chars bs)
    go [] u = ap (ends_well (leaf (Leaf.text ps))) (sym chars-nil)
    go (b ∷ bs) u =
        let f = first_of (b ∷ bs) u (omega arith) in
        let same : ends_well (leaf (Leaf.text ps)) (chars (b ∷ bs)) ≡ (f.char == 60) = ap (ends_well (leaf (Leaf.text ps))) f.points in
        elim (cases_lt b 128) [
          | inl low ↦ ap (λ (x : ℕ). x == 60) (sym (ascii_char (b ∷ bs) f low (omega arith))) ∙ sym same
          | inr high ↦ ne_eqb b 60 (λ e. omega arith) ∙ sym (same ∙ ne_eqb f.char 60 (λ e. omega (arith, wide_first (b ∷ bs) f high)))
        ]
ends_same (leaf (Leaf.cdata x)) bs u = refl
ends_same (leaf (Leaf.comment x)) bs u = refl
ends_same (leaf (Leaf.instruction x)) bs u = refl
ends_same (leaf (Leaf.declaration x)) bs u = refl
ends_same (leaf (Leaf.doctype x)) bs u = refl
ends_same (start_tag t) bs u = refl
ends_same (empty_tag t) bs u = refl
ends_same (end_tag n s) bs u = refl

hold_to : (i : Item) (first p : ℕ) → may_begin (p == first) i ≡ true → may_begin_at i first p ≡ true
hold_to (leaf (Leaf.text x)) first p h = refl
hold_to (leaf (Leaf.cdata x)) first p h = refl
hold_to (leaf (Leaf.comment x)) first p h = refl
hold_to (leaf (Leaf.instruction x)) first p h = refl
hold_to (leaf (Leaf.declaration x)) first p h = elim (cases_Bool (p == first)) [
  | inl t ↦ t
  | inr f ↦ absurd (let n : false ≡ true = rw f at h in false≢true n)
]
hold_to (leaf (Leaf.doctype x)) first p h = refl
hold_to (start_tag t) first p h = refl
hold_to (empty_tag t) first p h = refl
hold_to (end_tag n s) first p h = refl

pub hold_from : (b : Bool) (i : Item) (first p : ℕ) → (p == first) ≡ b → may_begin_at i first p ≡ true → may_begin b i ≡ true
hold_from true i first p e h = refl
hold_from false (leaf (Leaf.text x)) first p e h = refl
hold_from false (leaf (Leaf.cdata x)) first p e h = refl
hold_from false (leaf (Leaf.comment x)) first p e h = refl
hold_from false (leaf (Leaf.instruction x)) first p e h = refl
hold_from false (leaf (Leaf.declaration x)) first p e h = absurd (false≢true (sym e ∙ h))
hold_from false (leaf (Leaf.doctype x)) first p e h = refl
hold_from false (start_tag t) first p e h = refl
hold_from false (empty_tag t) first p e h = refl
hold_from false (end_tag n s) first p e h = refl

pub record ItemAt (bytes : List ℕ) (at : ℕ) (found : Counted) : Type 0 where
  pub is : IsCountedAt bytes at found
  pub boundary : IsCharBoundary bytes found.item.span.end

item_sound_by : (bytes : List ℕ) (at : ℕ) (found : Counted) (i : Item) (rest : List ℕ) → IsUtf8 (encodes rest) → chars (encodes rest) ≡ rest → To bytes (encodes rest) at (written i) → FitItem (at == first_place bytes) i rest → counted_shown at i ≡ found → ItemAt bytes at found
unfolding begins_at spelling size
item_sound_by bytes at found i rest v back k fit shown =
    let after : drop (at + length (encodes (written i))) bytes ≡ encodes rest = ap (λ (n : ℕ). drop n bytes) (sym k.end) ∙ k.after in
    let ends : ends_well i (drop (at + length (encodes (written i))) bytes) ≡ true = ap (ends_well i) after ∙ ends_same i (encodes rest) v ∙ ap (ends_well i) back ∙ fit.1 in
    record {
      is = record {
        item = i;
        begins = and_from _ _ (and_from _ _ (and_from _ _ fit.0 k.holds) ends) (hold_to i (first_place bytes) at fit.2);
        shown = ap (λ (f : Counted). f.item) (sym shown);
        counted = ap (λ (f : Counted). f.attributes) (sym shown);
      };
      boundary = subst (λ (n : ℕ). IsCharBoundary bytes n) (k.end ∙ ap (λ (f : Counted). f.item.span.end) shown) k.boundary;
    }

pub item_sound : (bytes text : List ℕ) (at : ℕ) (found : Counted) → at ≤ length bytes → text ≡ drop at bytes → IsUtf8 text → Some found ≡ counts at (read_item (at == first_place bytes) (chars text)) → ItemAt bytes at found
item_sound bytes text at found within is u e =
    let m = map_some (λ (p : Item × List ℕ). counted_shown at p.0) (read_item (at == first_place bytes) (chars text)) found (sym e) in
    let i = m.0.0 in
    let rest = m.0.1 in
    let t = (item_reads (at == first_place bytes)).takes (chars text) i rest m.1 in
    let s : lib.Utf8.scalars rest ≡ true = scalars_back (written i) rest (ap lib.Utf8.scalars (sym t.0) ∙ scalars-chars text u) in
    let v : IsUtf8 (encodes rest) = (rest, (s, refl)) in
    let back : chars (encodes rest) ≡ rest = chars-encodes rest s in
    let k = read_to bytes text (encodes rest) at (written i) within is u v (t.0 ∙ ap (λ (l : List ℕ). written i ++ l) (sym back)) in
    item_sound_by bytes at found i rest v back k t.1 m.2

pub item_sound_at : (bytes text : List ℕ) (at : ℕ) (first : Bool) (found : Counted) → at ≤ length bytes → text ≡ drop at bytes → IsUtf8 text → first ≡ (at == first_place bytes) → Some found ≡ counts at (read_item first (chars text)) → ItemAt bytes at found
item_sound_at bytes text at first found within is u f e = item_sound bytes text at found within is u (e ∙ ap (λ (b : Bool). counts at (read_item b (chars text))) f)

-- the item that begins at a place is read there
pub item_read : (bytes text : List ℕ) (at : ℕ) (i : Item) → text ≡ drop at bytes → IsUtf8 text → begins_at bytes at i ≡ true → (rest : List ℕ) × (read_item (at == first_place bytes) (chars text) ≡ Some (i, rest))
unfolding begins_at spelling
item_read bytes text at i is u b =
    let q = and_parts _ (may_begin_at i (first_place bytes) at) b in
    let x = and_parts _ (ends_well i (drop (at + length (encodes (written i))) bytes)) q.0 in
    let y = and_parts (meets i) (begins (encodes (written i)) (drop at bytes)) x.0 in
    let f = prefix_holds text (written i) u (ap (begins (encodes (written i))) is ∙ y.1) in
    let s = scalars_back (written i) f.0 (ap lib.Utf8.scalars (sym f.1) ∙ scalars-chars text u) in
    let v : IsUtf8 (encodes f.0) = (f.0, (s, refl)) in
    let same : drop (at + length (encodes (written i))) bytes ≡ encodes f.0 = sym (drop-drop (length (encodes (written i))) at bytes) ∙ ap (drop (length (encodes (written i)))) (sym is) ∙ size_drop (written i) text ∙ sym f.2 in
    let back : chars (encodes f.0) ≡ f.0 = chars-encodes f.0 s in
    let ends : ends_well i f.0 ≡ true = ap (ends_well i) (sym back) ∙ sym (ends_same i (encodes f.0) v) ∙ ap (ends_well i) (sym same) ∙ x.1 in
    let fit : FitItem (at == first_place bytes) i f.0 = (y.0, ends, hold_from (at == first_place bytes) i (first_place bytes) at refl q.1) in
    (f.0, ap (read_item (at == first_place bytes)) f.1 ∙ (item_reads (at == first_place bytes)).again i f.0 fit)

none_some : (x : Counted) → ◌≡◌ {A = Option Counted} None (Some x) → ⊥
none_some x e = absurd (cc)

item_there : (bytes text : List ℕ) (at : ℕ) (i : Item) → text ≡ drop at bytes → IsUtf8 text → begins_at bytes at i ≡ true → None ≡ counts at (read_item (at == first_place bytes) (chars text)) → ⊥
item_there bytes text at i is u b e = none_some (counted_shown at i) (e ∙ ap (counts at) (item_read bytes text at i is u b).1)

pub item_complete : (bytes text : List ℕ) (at : ℕ) → text ≡ drop at bytes → IsUtf8 text → None ≡ counts at (read_item (at == first_place bytes) (chars text)) → HasNoItem bytes at
item_complete bytes text at is u e i = false_from_ne_true _ (λ b. item_there bytes text at i is u b e)

pub item_complete_at : (bytes text : List ℕ) (at : ℕ) (first : Bool) → text ≡ drop at bytes → IsUtf8 text → first ≡ (at == first_place bytes) → None ≡ counts at (read_item first (chars text)) → HasNoItem bytes at
item_complete_at bytes text at first is u f e = item_complete bytes text at is u (e ∙ ap (λ (b : Bool). counts at (read_item b (chars text))) f)

-- an item begins at a place, or none does
pub item_or_none : (bytes : List ℕ) (at : ℕ) → at ≤ length bytes → IsUtf8 (drop at bytes) → ((i : Item) × (begins_at bytes at i ≡ true)) ⊎ HasNoItem bytes at
item_or_none bytes at within u = go (counts at (read_item (at == first_place bytes) (chars (drop at bytes)))) refl
  where
    go : (o : Option Counted) → o ≡ counts at (read_item (at == first_place bytes) (chars (drop at bytes))) → ((i : Item) × (begins_at bytes at i ≡ true)) ⊎ HasNoItem bytes at
    go None e = inr (item_complete bytes (drop at bytes) at refl u e)
    go (Some found) e = let s = item_sound bytes (drop at bytes) at found within refl u e in inl (s.is.item, s.is.begins)

pub drop_some : (s r : List ℕ) (c : ℕ) → s ≡ c ∷ r → drop 1 s ≡ r
drop_some s r c e = ap (drop 1) e

pub drop_none : (s : List ℕ) → s ≡ [] → drop 1 s ≡ s
drop_none s e = ap (drop 1) e ∙ sym e

pub first_low : (bytes : List ℕ) → first_place bytes ≤ 3
unfolding first_place
first_low bytes = elim (cases_Bool (begins byte_order_mark bytes)) [
  | inl t ↦ rw t (omega arith)
  | inr f ↦ rw f (omega arith)
]
