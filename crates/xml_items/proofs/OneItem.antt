-- At most one item begins at a place: of two the longer one has the shorter one's characters first, and reading is a function.
use Rattle.std.proofs.Common.{◌≡◌, ℕ, ◌+◌, ◌≤◌, Bool, true, inl, inr, List, [], ◌∷◌, ◌++◌, length, drop, refl, sym, ap, ◌∙◌, arith, append-nil}
use Rattle.std.specs.Prelude.{◌==◌}
use lib.Utf8.{encode, encodes}
use Rattle.std.proofs.lemmas.Bool.{and_parts, cases_lt, eqb-true, eq-eqb}
use Rattle.std.proofs.lemmas.List.{drop-drop, length-append}
use Rattle.std.proofs.lemmas.Option.{same_Some}
use Rattle.std.proofs.lemmas.Str.{char_from_byte, length-encode, len_utf8_bounds}
use Rattle.xml_model.specs.Chars.{begins}
use Rattle.xml_model.specs.Items.{Item, leaf, Leaf, start_tag, empty_tag, end_tag, written, spelling, meets, ends_well, may_begin_at, begins_at}
use Rattle.xml_model.specs.Items.{first_place, end_of_items}
use Rattle.xml_model.specs.Laws.{OneItem}
use Rattle.xml_model.proofs.Unique.{same_head}
use Rattle.xml_chars.proofs.Readers.{begins_split}
use Rattle.xml_chars.proofs.HoldLemmas.{encodes_prefix}
use Rattle.xml_items.specs.Reading.{read_item}
use Rattle.xml_items.specs.MayBegin.{may_begin}
use Rattle.xml_items.proofs.ItemLaws.{FitItem, item_reads}
use Rattle.xml_items.proofs.WalkLemmas.{hold_from}

-- ---- of two prefixes of a list the longer one has the shorter one first

record Further (a b x y : List ℕ) : Type 0 where
  more : List ℕ
  longer : b ≡ a ++ more
  rest : x ≡ more ++ y

further : (a b x y : List ℕ) → a ++ x ≡ b ++ y → length a ≤ length b → Further a b x y
further [] b x y e l = record { more = b; longer = refl; rest = e }
further (c ∷ a) [] x y e l = absurd (omega (arith, l))
further (c ∷ a) (d ∷ b) x y e l =
    let h = same_head c d (a ++ x) (b ++ y) e in
    let f = further a b x y h.1 (omega (arith, l)) in
    let p : c ≡ d = h.0 in
    let q : b ≡ a ++ f.more = f.longer in
    record { more = f.more; longer = cc; rest = f.rest }

-- ---- what follows an item that ends well

-- it still does before less
ends_before : (i : Item) (more y : List ℕ) → ends_well i (more ++ y) ≡ true → ends_well i more ≡ true
ends_before (leaf (Leaf.text ps)) [] y h = refl
ends_before (leaf (Leaf.text ps)) (b ∷ more) y h = h
ends_before (leaf (Leaf.cdata cs)) more y h = refl
ends_before (leaf (Leaf.comment cs)) more y h = refl
ends_before (leaf (Leaf.instruction x)) more y h = refl
ends_before (leaf (Leaf.declaration d)) more y h = refl
ends_before (leaf (Leaf.doctype d)) more y h = refl
ends_before (start_tag t) more y h = refl
ends_before (empty_tag t) more y h = refl
ends_before (end_tag name space) more y h = refl

ends_nil : (i : Item) → ends_well i [] ≡ true
ends_nil (leaf (Leaf.text ps)) = refl
ends_nil (leaf (Leaf.cdata cs)) = refl
ends_nil (leaf (Leaf.comment cs)) = refl
ends_nil (leaf (Leaf.instruction x)) = refl
ends_nil (leaf (Leaf.declaration d)) = refl
ends_nil (leaf (Leaf.doctype d)) = refl
ends_nil (start_tag t) = refl
ends_nil (empty_tag t) = refl
ends_nil (end_tag name space) = refl

-- a character whose first byte is < is <
pub opens : (bs rest : List ℕ) (c : ℕ) → bs ≡ encode c ++ rest → ends_well (leaf (Leaf.text [])) bs ≡ true → c == 60 ≡ true
opens [] rest c e h = absurd (omega (arith, ap (λ (l : List ℕ). length l) e, length-append (encode c) rest, length-encode c, len_utf8_bounds c))
opens (b ∷ bs) rest c e h =
    let first : b ≡ 60 = eqb-true b 60 h in
    eq-eqb c 60 (char_from_byte (b ∷ bs) rest c e (omega (arith, first)) (omega arith) ∙ first)

-- by its bytes, and by its characters
ends_points : (i : Item) (cs : List ℕ) → ends_well i (encodes cs) ≡ true → ends_well i cs ≡ true
ends_points (leaf (Leaf.text ps)) [] h = refl
ends_points (leaf (Leaf.text ps)) (c ∷ cs) h = opens (encodes (c ∷ cs)) (encodes cs) c refl (same (encodes (c ∷ cs)) h)
  where
    same : (bs : List ℕ) → ends_well (leaf (Leaf.text ps)) bs ≡ true → ends_well (leaf (Leaf.text [])) bs ≡ true
    same [] k = refl
    same (b ∷ bs) k = k
ends_points (leaf (Leaf.cdata x)) cs h = refl
ends_points (leaf (Leaf.comment x)) cs h = refl
ends_points (leaf (Leaf.instruction x)) cs h = refl
ends_points (leaf (Leaf.declaration d)) cs h = refl
ends_points (leaf (Leaf.doctype d)) cs h = refl
ends_points (start_tag t) cs h = refl
ends_points (empty_tag t) cs h = refl
ends_points (end_tag name space) cs h = refl

-- ---- the law

-- an item at a place, by its parts
record Begins (bytes : List ℕ) (at : ℕ) (i : Item) : Type 0 where
  meets : meets i ≡ true
  there : drop at bytes ≡ spelling i ++ drop (length (spelling i)) (drop at bytes)
  ends : ends_well i (drop (length (spelling i)) (drop at bytes)) ≡ true
  may : may_begin (at == first_place bytes) i ≡ true

begins_parts : (bytes : List ℕ) (at : ℕ) (i : Item) → begins_at bytes at i ≡ true → Begins bytes at i
unfolding begins_at
begins_parts bytes at i h =
    let x = and_parts _ (may_begin_at i (first_place bytes) at) h in
    let y = and_parts _ (ends_well i (drop (at + length (spelling i)) bytes)) x.0 in
    let z = and_parts (meets i) (begins (spelling i) (drop at bytes)) y.0 in
    record {
      meets = z.0;
      there = begins_split (spelling i) (drop at bytes) z.1;
      ends = ap (ends_well i) (drop-drop (length (spelling i)) at bytes) ∙ y.1;
      may = hold_from (at == first_place bytes) i (first_place bytes) at refl x.1;
    }

-- the longer item is read as the shorter one
shorter_one : (first : Bool) (i j : Item) (more : List ℕ) → spelling j ≡ spelling i ++ more → FitItem first i more → FitItem first j [] → i ≡ j
unfolding spelling
shorter_one first i j more e f g =
    let s = encodes_prefix (written i) (written j) more e in
    let ends = ends_points i s.0 (ap (ends_well i) s.2 ∙ f.1) in
    let a = (item_reads first).again i s.0 (f.0, ends, f.2) in
    let b = (item_reads first).again j [] g in
    ap (λ (z : Item × List ℕ). z.0) (same_Some (i, s.0) (j, []) (sym a ∙ ap (read_item first) (sym s.1 ∙ sym (append-nil (written j))) ∙ b))

of_two : (bytes : List ℕ) (at : ℕ) (i j : Item) → length (spelling i) ≤ length (spelling j) → Begins bytes at i → Begins bytes at j → i ≡ j
of_two bytes at i j l a b =
    let rest_i = drop (length (spelling i)) (drop at bytes) in
    let rest_j = drop (length (spelling j)) (drop at bytes) in
    let f = further (spelling i) (spelling j) rest_i rest_j (sym a.there ∙ b.there) l in
    let ends = ends_before i f.more rest_j (ap (ends_well i) (sym f.rest) ∙ a.ends) in
    shorter_one (at == first_place bytes) i j f.more f.longer (a.meets, ends, a.may) (b.meets, ends_nil j, b.may)

pub one_item : (bytes : List ℕ) (at : ℕ) (i j : Item) → begins_at bytes at i ≡ true → begins_at bytes at j ≡ true → i ≡ j
one_item bytes at i j a b =
    let x = begins_parts bytes at i a in
    let y = begins_parts bytes at j b in
    elim (cases_lt (length (spelling j)) (length (spelling i))) [
      | inl lt ↦ sym (of_two bytes at j i (omega (arith, lt)) y x)
      | inr le ↦ of_two bytes at i j le x y
    ]

pub one_item_on_walks : (bytes : List ℕ) → OneItem bytes
one_item_on_walks bytes is w i j a b = one_item bytes (end_of_items (first_place bytes) is) i j a b
