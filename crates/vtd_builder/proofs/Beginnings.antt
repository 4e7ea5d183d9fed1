-- The first two bytes of an item say what it is.
use Rattle.std.proofs.Common.{◌≡◌, ℕ, ◌+◌, ◌<◌, ◌≤◌, true, false, List, [], ◌∷◌, ◌++◌, length, get_or, refl, sym, ap, ap₂, subst, ◌∙◌, arith, append_assoc}
use Rattle.std.specs.Prelude.{codes, ◌&&◌, ◌==◌, not}
use Rattle.std.specs.List.{list_all}
use Rattle.std.proofs.lemmas.Bool.{and_parts, false≢true, eqb-true, eq-eqb, not-true, false_from_ne_true}
use lib.Utf8.{encodes}
use Rattle.xml_model.specs.Chars.{lacks, in_ranges, is_char, is_blank, is_name, is_name_start, is_name_char}
use Rattle.xml_model.specs.Items.{Piece, literal, entity, decimal, hexadecimal, Tag, Leaf, text, cdata, declaration, doctype, Item, leaf, start_tag, empty_tag, end_tag, written, written_leaf, written_pieces, meets, meets_leaf, meets_piece, meets_tag, is_nil, begins_at, spelling, written_attributes, meets_attribute}
use Rattle.std.specs.Str.{IsUtf8, IsCharBoundary}
use Rattle.std.proofs.lemmas.Str.{IsUtf8-drop}
use Rattle.xml_items.specs.declared.Item.{Item as ItemShown}
use Rattle.xml_items.specs.Shown.{leaf_kind, item_kind, item_shown, IsItemAt}
use Rattle.xml_items.proofs.OneItem.{one_item}
use Rattle.xml_acceptance.specs.Machine.{level_after}
use Rattle.vtd_builder.specs.declared.offers.Beginning.TheVariants as beginnings
use Rattle.vtd_builder.specs.Found.{ShowsItem}
use Rattle.vtd_builder.specs.Cuts.{Placed, beginning_of, beginning_by, IsPast}
use Rattle.vtd_builder.proofs.Placed.{placed_back, placed_as}
use Rattle.vtd_builder.proofs.Recorded.{item_placed}
use Rattle.vtd_builder.proofs.Counted.{begun_meets}
use Rattle.vtd_builder.proofs.Cutting.{byte_is, first_byte, one_byte, name_chars, no_47}
use Rattle.vtd_builder.proofs.Tagging.{begins_with, nil_no_name}

-- what is after a < of one byte
after : (bytes : List ℕ) (at : ℕ) (w : List ℕ) → Placed bytes at (60 ∷ w) → Placed bytes (at + 1) w
after bytes at w k = subst (λ (n : ℕ). Placed bytes (at + n) w) (one_byte 60 (omega arith)) (placed_back bytes at (60 ∷ []) w k)

marked : (bytes : List ℕ) (at b : ℕ) (w : List ℕ) → b < 128 → Placed bytes at (60 ∷ (b ∷ w)) → beginning_by (get_or bytes at 0) (get_or bytes (at + 1) 0) ≡ beginning_by 60 b
marked bytes at b w low k = ap₂ beginning_by (first_byte bytes at 60 (b ∷ w) (omega arith) k) (first_byte bytes (at + 1) b w low (after bytes at (b ∷ w) k))

other : (bytes : List ℕ) (at c second : ℕ) (w : List ℕ) → (c ≡ 60 → ⊥) → Placed bytes at (c ∷ w) → beginning_by (get_or bytes at 0) second ≡ beginnings.Text
other bytes at c second w n k =
    let b = begins_with bytes at c w k in
    let f : (get_or bytes at 0 == 60) ≡ false = false_from_ne_true _ (λ t.
    let e : b.byte ≡ 60 = sym b.here ∙ eqb-true (get_or bytes at 0) 60 t in
    n (byte_is c b.byte w b.rest b.is (omega (arith, e)) ∙ e)) in
    rw f refl

text_by : (bytes : List ℕ) (at second : ℕ) (ps : List Piece) → not (is_nil (written_pieces ps)) ≡ true → list_all (meets_piece (λ c. false)) ps ≡ true → Placed bytes at (written_pieces ps) → beginning_by (get_or bytes at 0) second ≡ beginnings.Text
text_by bytes at second [] h m k = absurd (false≢true h)
text_by bytes at second (literal c ∷ ps) h m k =
    let a = and_parts (is_char c && not (c == 60) && not (c == 38)) (not false) (and_parts (meets_piece (λ c. false) (literal c)) (list_all (meets_piece (λ c. false)) ps) m).0 in
    let b = and_parts (is_char c && not (c == 60)) (not (c == 38)) a.0 in
    other bytes at c second (written_pieces ps) (λ e. false≢true (sym (not-true (c == 60) (and_parts (is_char c) (not (c == 60)) b.0).1) ∙ eq-eqb c 60 e)) k
text_by bytes at second (entity n ∷ ps) h m k = other bytes at 38 second _ (λ e. absurd (omega (arith, e))) k
text_by bytes at second (decimal n ∷ ps) h m k = other bytes at 38 second _ (λ e. absurd (omega (arith, e))) k
text_by bytes at second (hexadecimal n ∷ ps) h m k = other bytes at 38 second _ (λ e. absurd (omega (arith, e))) k

leaf_by : (x : Leaf) (bytes : List ℕ) (at : ℕ) → meets_leaf x ≡ true → Placed bytes at (written_leaf x) → beginning_by (get_or bytes at 0) (get_or bytes (at + 1) 0) ≡ beginning_of (leaf_kind x)
leaf_by (text ps) bytes at m k =
    let a = and_parts (not (is_nil (written_pieces ps)) && list_all (meets_piece (λ c. false)) ps) (lacks (codes "]]>") (written_pieces ps)) m in
    let b = and_parts (not (is_nil (written_pieces ps))) (list_all (meets_piece (λ c. false)) ps) a.0 in
    text_by bytes at (get_or bytes (at + 1) 0) ps b.0 b.1 k
leaf_by (cdata cs) bytes at m k = marked bytes at 33 _ (omega arith) k
leaf_by (Leaf.comment cs) bytes at m k = marked bytes at 33 _ (omega arith) k
leaf_by (Leaf.instruction i) bytes at m k = marked bytes at 63 _ (omega arith) k
leaf_by (declaration d) bytes at m k = marked bytes at 63 _ (omega arith) k
leaf_by (doctype d) bytes at m k = marked bytes at 33 _ (omega arith) k

-- ---- tags

no_33 : is_name_char 33 ≡ false
unfolding is_name_char is_name_start in_ranges
no_33 = refl

no_63 : is_name_char 63 ≡ false
unfolding is_name_char is_name_start in_ranges
no_63 = refl

-- a name does not begin with a byte that is no character of a name
no_such : (c byte mark : ℕ) (w rest : List ℕ) → is_name_char c ≡ true → is_name_char mark ≡ false → mark < 128 → encodes (c ∷ w) ≡ byte ∷ rest → (byte == mark) ≡ false
no_such c byte mark w rest h f low is = false_from_ne_true _ (λ t.
    let e = eqb-true byte mark t in
    false≢true (sym f ∙ ap is_name_char (sym (byte_is c byte w rest is (omega (arith, e, low)) ∙ e)) ∙ h))

unmarked : (b : ℕ) → (b == 47) ≡ false → (b == 33) ≡ false → (b == 63) ≡ false → beginning_by 60 b ≡ beginnings.Tag
unmarked b x y z = rw (x, y, z) refl

tag_here : (bytes : List ℕ) (at : ℕ) (n w : List ℕ) → is_name n ≡ true → Placed bytes at (codes "<" ++ (n ++ w)) → beginning_by (get_or bytes at 0) (get_or bytes (at + 1) 0) ≡ beginnings.Tag
tag_here bytes at [] w h k = absurd (false≢true (sym nil_no_name ∙ h))
tag_here bytes at (c ∷ n) w h k =
    let b = begins_with bytes (at + 1) c (n ++ w) (after bytes at (c ∷ (n ++ w)) k) in
    let name : is_name_char c ≡ true = (and_parts (is_name_char c) (list_all is_name_char n) (name_chars (c ∷ n) h)).0 in
    ap₂ beginning_by (first_byte bytes at 60 (c ∷ (n ++ w)) (omega arith) k) b.here
    ∙ unmarked b.byte (no_such c b.byte 47 (n ++ w) b.rest name no_47 (omega arith) b.is) (no_such c b.byte 33 (n ++ w) b.rest name no_33 (omega arith) b.is) (no_such c b.byte 63 (n ++ w) b.rest name no_63 (omega arith) b.is)

tag_named : (t : Tag) → meets_tag t ≡ true → is_name t.name ≡ true
tag_named t m =
    let x = and_parts (is_name t.name && list_all meets_attribute t.attributes) (is_blank t.space) m in
    (and_parts (is_name t.name) (list_all meets_attribute t.attributes) x.0).0

start_split : (n w sp : List ℕ) → codes "<" ++ n ++ w ++ sp ++ codes ">" ≡ codes "<" ++ (n ++ (w ++ (sp ++ codes ">")))
start_split n w sp = simp append_assoc

empty_split : (n w sp : List ℕ) → codes "<" ++ n ++ w ++ sp ++ codes "/>" ≡ codes "<" ++ (n ++ (w ++ (sp ++ codes "/>")))
empty_split n w sp = simp append_assoc

pub beginning_known : (i : Item) (bytes : List ℕ) (at : ℕ) → at ≤ length bytes → begins_at bytes at i ≡ true → beginning_by (get_or bytes at 0) (get_or bytes (at + 1) 0) ≡ beginning_of (item_kind i)
unfolding meets
beginning_known (leaf x) bytes at within h = leaf_by x bytes at (begun_meets bytes at (leaf x) h) (item_placed bytes at (leaf x) within h)
beginning_known (end_tag name space) bytes at within h = marked bytes at 47 _ (omega arith) (item_placed bytes at (end_tag name space) within h)
beginning_known (start_tag t) bytes at within h =
    tag_here bytes at t.name (written_attributes t.attributes ++ (t.space ++ codes ">")) (tag_named t (begun_meets bytes at (start_tag t) h))
    (placed_as bytes at (written (start_tag t)) (codes "<" ++ (t.name ++ (written_attributes t.attributes ++ (t.space ++ codes ">")))) (start_split t.name (written_attributes t.attributes) t.space) (item_placed bytes at (start_tag t) within h))
beginning_known (empty_tag t) bytes at within h =
    tag_here bytes at t.name (written_attributes t.attributes ++ (t.space ++ codes "/>")) (tag_named t (begun_meets bytes at (empty_tag t) h))
    (placed_as bytes at (written (empty_tag t)) (codes "<" ++ (t.name ++ (written_attributes t.attributes ++ (t.space ++ codes "/>")))) (empty_split t.name (written_attributes t.attributes) t.space) (item_placed bytes at (empty_tag t) within h))

-- ---- items that are read again

-- the item that was found is the one that begins there
pub shown_here : (bytes : List ℕ) (at : ℕ) (found : ItemShown) (i : Item) → IsUtf8 bytes → IsCharBoundary bytes at → IsItemAt bytes at found → found.span.start ≡ at → begins_at bytes at i ≡ true → ShowsItem bytes found i
shown_here bytes at found i u b is start h =
    let same : is.item ≡ i = one_item bytes at is.item i is.begins h in
    let shown : found ≡ item_shown at i = is.shown ∙ ap (item_shown at) same in
    record { begins = subst (λ (p : ℕ). begins_at bytes p i ≡ true) (sym start) h; shown = shown ∙ ap (λ (p : ℕ). item_shown p i) (sym start) }

-- an item with a mark opens and closes no element
mark_level : (i : Item) (level : ℕ) → beginning_of (item_kind i) ≡ beginnings.Mark → level_after i level ≡ level
mark_level (leaf x) level h = refl
mark_level (start_tag t) level h = absurd cc
mark_level (empty_tag t) level h = absurd cc
mark_level (end_tag name space) level h = absurd cc

pub past_shown : (bytes : List ℕ) (at level count : ℕ) (found : ItemShown) (i : Item) → ShowsItem bytes found i → found.span.start ≡ at → beginning_of (item_kind i) ≡ beginnings.Mark → IsPast at level i record { count = count; at = found.span.end; level = level }
past_shown bytes at level count found i s start k = record {
  place = ap (λ (f : ItemShown). f.span.end) s.shown ∙ ap (λ (p : ℕ). p + length (spelling i)) start;
  inside = sym (mark_level i level k);
}
