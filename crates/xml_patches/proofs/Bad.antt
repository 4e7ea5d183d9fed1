-- Where a character that is no Char stands in place of another one of an item, no item begins.
use Rattle.std.proofs.Common.{◌≡◌, ℕ, suc, ◌+◌, ◌<◌, Bool, true, false, ◌⊎◌, inl, inr, List, [], ◌∷◌, ◌++◌, map, length, drop, Some, refl, sym, ap, ap₂}
use Rattle.std.proofs.Common.{subst, ◌∙◌, arith, ◌&&◌, append_assoc, append-nil, length-append, eqb-true}
use Rattle.std.specs.Prelude.{codes, ◌==◌, IsUtf8}
use Rattle.std.specs.Str.{chars}
use Rattle.std.specs.List.{list_all}
use Rattle.std.proofs.lemmas.Bool.{and_parts, and_from, false≢true, false_from_ne_true}
use Rattle.std.proofs.lemmas.List.Folds.{list_all-append}
use Rattle.std.proofs.lemmas.Option.{same_Some}
use Rattle.std.proofs.Math.Seq.{take-length}
use Rattle.xml_model.specs.declared.DocFault.{DocFault}
use Rattle.xml_model.specs.declared.DocFault.TheVariants as faults
use Rattle.xml_model.specs.Chars.{is_char, in_ranges, is_name, is_blank, is_white}
use Rattle.xml_model.specs.Items.{Piece, literal, Quote, quote_char, Attribute, Tag, Leaf, text, cdata, declaration, doctype, Item, leaf, start_tag}
use Rattle.xml_model.specs.Items.{empty_tag, end_tag, written, written_pieces, written_piece, written_tag, written_attributes, written_attribute}
use Rattle.xml_model.specs.Items.{before_value, meets, meets_piece, meets_attribute, meets_tag, ends_well, begins_at, first_place, walk, end_of_items}
use Rattle.xml_model.specs.Accepted.{Refuses, IsRefusal, layer}
use Rattle.xml_model.proofs.Unique.{same_head}
use Rattle.xml_items.specs.Reading.{read_item}
use Rattle.xml_items.specs.MayBegin.{may_begin}
use Rattle.xml_items.proofs.ItemLaws.{item_reads, FitItem}
use Rattle.xml_items.proofs.WalkLemmas.{item_read}
use Rattle.xml_patches.specs.Edited.{in_text, in_value, quote_code, set_value}
use Rattle.xml_nests.proofs.Written.{good_item}
use Rattle.xml_patches.proofs.Plain.{set_text_meets, value_meets}

-- two ways to split a list
two_splits : (u w a b : List ℕ) → u ++ a ≡ w ++ b → ((m : List ℕ) × (w ≡ u ++ m) × (a ≡ m ++ b)) ⊎ ((m : List ℕ) × (u ≡ w ++ m) × (b ≡ m ++ a))
two_splits [] w a b e = inl (w, refl, e)
two_splits (x ∷ u) [] a b e = inr (x ∷ u, refl, sym e)
two_splits (x ∷ u) (y ∷ w) a b e =
    let h = same_head x y (u ++ a) (w ++ b) e in
    elim (two_splits u w a b h.1) [
      | inl r ↦ inl (r.0, ap₂ (λ (z : ℕ) (l : List ℕ). z ∷ l) (sym h.0) r.1, r.2)
      | inr r ↦ inr (r.0, ap₂ (λ (z : ℕ) (l : List ℕ). z ∷ l) h.0 r.1, r.2)
    ]

angle_char : is_char 60 ≡ true
unfolding is_char in_ranges
angle_char = refl

-- an item may end before one character or another, where the first is no Char
ends_alike : (j : Item) (m r s : List ℕ) (c x : ℕ) → is_char c ≡ false → ends_well j (m ++ c ∷ r) ≡ true → ends_well j (m ++ x ∷ s) ≡ true
ends_alike (leaf (text ps)) [] r s c x n e = absurd (false≢true (sym n ∙ ap is_char (eqb-true c 60 e) ∙ angle_char))
ends_alike (leaf (text ps)) (d ∷ m) r s c x n e = e
ends_alike (leaf (cdata cs)) m r s c x n e = refl
ends_alike (leaf (Leaf.comment cs)) m r s c x n e = refl
ends_alike (leaf (Leaf.instruction i)) m r s c x n e = refl
ends_alike (leaf (declaration d)) m r s c x n e = refl
ends_alike (leaf (doctype d)) m r s c x n e = refl
ends_alike (start_tag t) m r s c x n e = refl
ends_alike (empty_tag t) m r s c x n e = refl
ends_alike (end_tag name space) m r s c x n e = refl

too_long : (m w y : List ℕ) (x : ℕ) → m ++ x ∷ (w ++ y) ≡ y → ⊥
too_long m w y x e =
    let a : length m + suc (length (w ++ y)) ≡ length y = sym (length-append m (x ∷ (w ++ y))) ∙ ap length e in
    let b : length (w ++ y) ≡ length w + length y = length-append w y in
    omega (arith, a, b)

not_in : (j : Item) (u m : List ℕ) (c : ℕ) → meets j ≡ true → written j ≡ u ++ c ∷ m → is_char c ≡ false → ⊥
not_in j u m c h e n =
    let q = and_parts _ _ (sym (list_all-append is_char u (c ∷ m)) ∙ ap (list_all is_char) (sym e) ∙ good_item j h) in
    false≢true (sym n ∙ (and_parts (is_char c) _ q.1).0)

-- the law: an item reads on through a character; with one in its place that is no Char nothing is read there
pub bad_item : (first : Bool) (i j : Item) (u w y r z : List ℕ) (x c : ℕ) → FitItem first i y → written i ≡ u ++ x ∷ w → is_char c ≡ false →
    read_item first (u ++ c ∷ r) ≡ Some (j, z) → ⊥
bad_item first i j u w y r z x c fit is n e =
    let t = (item_reads first).takes (u ++ c ∷ r) j z e in
    elim (two_splits u (written j) (c ∷ r) z t.0) [
      | inl q ↦ inside q.0 q.1 q.2 t.1
      | inr q ↦ before q.0 q.1 q.2 t.1
    ]
  where
    before : (m : List ℕ) → u ≡ written j ++ m → z ≡ m ++ c ∷ r → FitItem first j z → ⊥
    before m a b f =
        let s = w ++ y in
        let g : FitItem first j (m ++ x ∷ s) = (f.0, ends_alike j m r s c x n (ap (ends_well j) (sym b) ∙ f.1), f.2) in
        let one = (item_reads first).again j (m ++ x ∷ s) g in
        let two = (item_reads first).again i y fit in
        let same : written i ++ y ≡ written j ++ (m ++ x ∷ s) =
        ap (λ (l : List ℕ). l ++ y) (is ∙ ap (λ (l : List ℕ). l ++ x ∷ w) a) ∙ append_assoc (written j ++ m) (x ∷ w) y
        ∙ append_assoc (written j) m (x ∷ s) in
        let k = same_Some (j, m ++ x ∷ s) (i, y) (sym one ∙ ap (read_item first) (sym same) ∙ two) in
        too_long m w y x (ap (λ (v : Item × List ℕ). v.1) k)

    inside : (m : List ℕ) → written j ≡ u ++ m → c ∷ r ≡ m ++ z → FitItem first j z → ⊥
    inside [] a b f = before [] (sym (append-nil u) ∙ sym a ∙ sym (append-nil (written j))) (sym b) f
    inside (d ∷ m) a b f = not_in j u m c f.0 (a ∙ ap (λ (v : ℕ). u ++ v ∷ m) (sym (same_head c d r (m ++ z) b).0)) n

-- ---- a text that is set

x_char : is_char 120 ≡ true
unfolding is_char in_ranges
x_char = refl

text_may_begin : (first : Bool) (ps : List Piece) → may_begin first (leaf (text ps)) ≡ true
text_may_begin true ps = refl
text_may_begin false ps = refl

pub written_more : (f : ℕ → Piece) (ts rest : List ℕ) → written_pieces (map f (ts ++ rest)) ≡ written_pieces (map f ts) ++ written_pieces (map f rest)
written_more f [] rest = refl
written_more f (t ∷ ts) rest = ap (λ (l : List ℕ). written_piece (f t) ++ l) (written_more f ts rest)
    ∙ sym (append_assoc (written_piece (f t)) (written_pieces (map f ts)) (written_pieces (map f rest)))

good_then_x : (ts : List ℕ) → list_all is_char ts ≡ true → list_all is_char (ts ++ 120 ∷ []) ≡ true
good_then_x ts h = list_all-append is_char ts (120 ∷ []) ∙ and_from _ _ h (and_from _ _ x_char refl)

-- what is no Char is written as itself
ne_char : (c n : ℕ) → is_char c ≡ false → is_char n ≡ true → (c == n) ≡ false
ne_char c n a b = false_from_ne_true _ (λ e. false≢true (sym a ∙ ap is_char (eqb-true c n e) ∙ b))

marks : (is_char 38 ≡ true) × (is_char 60 ≡ true) × (is_char 62 ≡ true) × (is_char 13 ≡ true) × (is_char 34 ≡ true) × (is_char 39 ≡ true) ×
    (is_char 9 ≡ true) × (is_char 10 ≡ true)
unfolding is_char in_ranges
marks = (refl, refl, refl, refl, refl, refl, refl, refl)

pub bad_in_text : (c : ℕ) → is_char c ≡ false → in_text c ≡ literal c
bad_in_text c n = rw (ne_char c 38 n marks.0, ne_char c 60 n marks.1, ne_char c 62 n marks.2, ne_char c 13 n marks.3) refl

quote_ne : (q : Quote) (c : ℕ) → is_char c ≡ false → (c == quote_code q) ≡ false
quote_ne Quote.single c n = ne_char c 39 n marks.5
quote_ne Quote.double c n = ne_char c 34 n marks.4

bad_in_value : (q : Quote) (c : ℕ) → is_char c ≡ false → in_value q c ≡ literal c
bad_in_value q c n = rw
    (ne_char c 38 n marks.0, ne_char c 60 n marks.1, quote_ne q c n, ne_char c 9 n marks.6, ne_char c 10 n marks.7, ne_char c 13 n marks.3) refl

text_meets_x : (ts : List ℕ) → list_all is_char ts ≡ true → meets (leaf (text (map in_text (ts ++ 120 ∷ [])))) ≡ true
text_meets_x [] h = set_text_meets 120 [] ∙ and_from _ _ x_char refl
text_meets_x (t ∷ ts) h = set_text_meets t (ts ++ 120 ∷ []) ∙ good_then_x (t ∷ ts) h

-- the law: where a text is set to one with a character that is no Char, no item begins at its start
pub text_refused : (first : Bool) (ts more rest z : List ℕ) (c : ℕ) (j : Item) → list_all is_char ts ≡ true → is_char c ≡ false →
    read_item first (written_pieces (map in_text (ts ++ c ∷ more)) ++ rest) ≡ Some (j, z) → ⊥
text_refused first ts more rest z c j h n e =
    let ps = map in_text (ts ++ 120 ∷ []) in
    let u = written_pieces (map in_text ts) in
    let r = written_pieces (map in_text more) ++ rest in
    let fit : FitItem first (leaf (text ps)) [] = (text_meets_x ts h, refl, text_may_begin first ps) in
    let same : written_pieces (map in_text (ts ++ c ∷ more)) ++ rest ≡ u ++ c ∷ r =
    ap (λ (l : List ℕ). l ++ rest) (written_more in_text ts (c ∷ more)
    ∙ ap (λ (p : Piece). u ++ (written_piece p ++ written_pieces (map in_text more))) (bad_in_text c n))
    ∙ append_assoc u (c ∷ written_pieces (map in_text more)) rest in
    bad_item first (leaf (text ps)) j u [] [] r z 120 c fit (written_more in_text ts (120 ∷ [])) n (ap (read_item first) (sym same) ∙ e)

-- ---- the refusal

pub syntax_refusal : (bytes : List ℕ) (is : List Item) (at : ℕ) → IsUtf8 bytes → walk bytes is ≡ true →
    end_of_items (first_place bytes) is ≡ at → at < length bytes → ((i : Item) → begins_at bytes at i ≡ false) →
    IsRefusal bytes (faults.Syntax at)
syntax_refusal bytes is at u w e l none = record {
  refuses = record { items = is; walked = w; ends = e; within = l; none = none };
  first = λ other below r. earlier other below r;
}
  where
    earlier : (other : DocFault) → layer other < 2 → Refuses bytes other → ⊥
    earlier (faults.Utf8 n) b r = r.longest (length bytes) r.within (omega arith) (subst IsUtf8 (sym (take-length bytes)) u)
    earlier (faults.Syntax n) b r = omega (arith, b)
    earlier (faults.Entity n) b r = omega (arith, b)
    earlier (faults.Encoding n) b r = omega (arith, b)
    earlier (faults.Nesting n) b r = omega (arith, b)
    earlier (faults.Depth n) b r = omega (arith, b)
    earlier (faults.Width field n) b r = omega (arith, b)
    earlier (faults.Twice n) b r = omega (arith, b)
    earlier (faults.Namespace n) b r = omega (arith, b)

-- nothing is read, so nothing begins
pub none_begins : (bytes : List ℕ) (at : ℕ) → IsUtf8 (drop at bytes) →
    ((j : Item) (z : List ℕ) → read_item (at == first_place bytes) (chars (drop at bytes)) ≡ Some (j, z) → ⊥) → (i : Item) → begins_at bytes at i ≡ false
none_begins bytes at u none i = false_from_ne_true _ (λ b. let r = item_read bytes (drop at bytes) at i refl u b in none i r.0 r.1)

-- ---- a value that is set

-- a tag with the value of one attribute set
abbrev pub with_value : Tag → List Attribute → Attribute → List Attribute → List ℕ → Tag
with_value t before a back cs = record t { attributes = before ++ set_value cs a ∷ back }

attributes_split : (xs ys : List Attribute) → written_attributes (xs ++ ys) ≡ written_attributes xs ++ written_attributes ys
attributes_split [] ys = refl
attributes_split (x ∷ xs) ys = ap (λ (l : List ℕ). written_attribute x ++ l) (attributes_split xs ys)
    ∙ sym (append_assoc (written_attribute x) (written_attributes xs) (written_attributes ys))

-- what is before the value in the tag, and after it
abbrev before_set : Tag → List Attribute → Attribute → List ℕ
before_set t before a = codes "<" ++ t.name ++ written_attributes before ++ (a.space ++ before_value a)

abbrev after_set : Tag → Attribute → List Attribute → List ℕ
after_set t a back = quote_char a.quote ∷ written_attributes back ++ t.space

regroup : (n f g p q b s : List ℕ) → (n ++ (f ++ ((g ++ p ++ q) ++ b))) ++ s ≡ (n ++ f ++ g) ++ (p ++ (q ++ b ++ s))
regroup n f g p q b s = simp append_assoc refl

tag_split : (t : Tag) (before : List Attribute) (a : Attribute) (back : List Attribute) (cs : List ℕ) →
    written_tag (with_value t before a back cs) ≡ before_set t before a ++ (written_pieces (map (in_value a.quote) cs) ++ after_set t a back)
tag_split t before a back cs =
    ap (λ (l : List ℕ). (codes "<" ++ t.name) ++ l ++ t.space) (attributes_split before (set_value cs a ∷ back))
    ∙ regroup (codes "<" ++ t.name) (written_attributes before) (a.space ++ before_value a) (written_pieces (map (in_value a.quote) cs))
    (quote_char a.quote ∷ []) (written_attributes back) t.space

set_value_meets : (cs : List ℕ) (a : Attribute) → meets_attribute a ≡ true → list_all is_char cs ≡ true → meets_attribute (set_value cs a) ≡ true
set_value_meets cs a h k =
    let v = and_parts (is_white a.space && is_name a.name && is_blank a.left && is_blank a.right)
    (list_all (meets_piece (λ c. c == quote_char a.quote)) a.value) h in
    and_from _ _ v.0 (value_meets a.quote cs ∙ k)

pub with_value_meets : (t : Tag) (before : List Attribute) (a : Attribute) (back : List Attribute) (cs : List ℕ) → t.attributes ≡ before ++ a ∷ back →
    meets_tag t ≡ true → list_all is_char cs ≡ true → meets_tag (with_value t before a back cs) ≡ true
with_value_meets t before a back cs e h k =
    let s = and_parts (is_name t.name && list_all meets_attribute t.attributes) (is_blank t.space) h in
    let n = and_parts (is_name t.name) (list_all meets_attribute t.attributes) s.0 in
    let x = and_parts (list_all meets_attribute before) (list_all meets_attribute (a ∷ back)) (sym (list_all-append meets_attribute before (a ∷ back))
    ∙ ap (list_all meets_attribute) (sym e) ∙ n.1) in
    let y = and_parts (meets_attribute a) (list_all meets_attribute back) x.1 in
    let z : list_all meets_attribute (before ++ set_value cs a ∷ back) ≡ true = list_all-append meets_attribute before (set_value cs a ∷ back)
    ∙ and_from _ _ x.0 (and_from _ _ (set_value_meets cs a y.0 k) y.1) in
    and_from _ _ (and_from _ _ n.0 z) s.1

tag_may_begin : (first : Bool) (t : Tag) → may_begin first (start_tag t) ≡ true
tag_may_begin true t = refl
tag_may_begin false t = refl

start_meets : (t : Tag) → meets_tag t ≡ true → meets (start_tag t) ≡ true
unfolding meets
start_meets t h = h

-- the law: where the value of an attribute is set to a text with a character that is no Char, no item begins at the < of its tag
pub value_refused : (first : Bool) (t : Tag) (before : List Attribute) (a : Attribute) (back : List Attribute) (ts more rest z : List ℕ) (c : ℕ)
    (j : Item) → t.attributes ≡ before ++ a ∷ back → meets_tag t ≡ true → list_all is_char ts ≡ true → is_char c ≡ false →
    read_item first (written_tag (with_value t before a back (ts ++ c ∷ more)) ++ rest) ≡ Some (j, z) → ⊥
value_refused first t before a back ts more rest z c j e h k n r =
    let f = in_value a.quote in
    let head = before_set t before a in
    let tail = after_set t a back in
    let u = head ++ written_pieces (map f ts) in
    let good = with_value t before a back (ts ++ 120 ∷ []) in
    let fit : FitItem first (start_tag good) [] =
    (start_meets good (with_value_meets t before a back (ts ++ 120 ∷ []) e h (good_then_x ts k)), refl, tag_may_begin first good) in
    let x_is : written_pieces (map f (120 ∷ [])) ≡ 120 ∷ [] = value_x a.quote in
    let one : written (start_tag good) ≡ u ++ 120 ∷ (tail ++ codes ">") =
    ap (λ (l : List ℕ). l ++ codes ">") (tag_split t before a back (ts ++ 120 ∷ [])
    ∙ ap (λ (l : List ℕ). head ++ (l ++ tail)) (written_more f ts (120 ∷ []) ∙ ap (λ (l : List ℕ). written_pieces (map f ts) ++ l) x_is))
    ∙ put head (written_pieces (map f ts)) 120 [] tail (codes ">") in
    let two : written_tag (with_value t before a back (ts ++ c ∷ more)) ++ rest ≡ u ++ c ∷ (written_pieces (map f more) ++ (tail ++ rest)) =
    ap (λ (l : List ℕ). l ++ rest) (tag_split t before a back (ts ++ c ∷ more)
    ∙ ap (λ (l : List ℕ). head ++ (l ++ tail)) (written_more f ts (c ∷ more)
    ∙ ap (λ (p : Piece). written_pieces (map f ts) ++ (written_piece p ++ written_pieces (map f more))) (bad_in_value a.quote c n)))
    ∙ put head (written_pieces (map f ts)) c (written_pieces (map f more)) tail rest in
    bad_item first (start_tag good) j u (tail ++ codes ">") [] (written_pieces (map f more) ++ (tail ++ rest)) z 120 c fit one n
    (ap (read_item first) (sym two) ∙ r)
  where
    put : (head p : List ℕ) (x : ℕ) (m tail more : List ℕ) → (head ++ ((p ++ x ∷ m) ++ tail)) ++ more ≡ (head ++ p) ++ x ∷ (m ++ (tail ++ more))
    put head p x m tail more = simp append_assoc refl

    value_x : (q : Quote) → written_pieces (map (in_value q) (120 ∷ [])) ≡ 120 ∷ []
    value_x Quote.single = refl
    value_x Quote.double = refl
