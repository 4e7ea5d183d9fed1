-- Which attribute's name a record is, and what the record after it says.
use Rattle.std.proofs.Common.{◌≡◌, ℕ, zero, suc, ◌+◌, ◌-◌, ◌*◌, ◌<◌, ◌≤◌, ◌^◌, true, false, inl, inr, ◌⊎◌, List, [], ◌∷◌, ◌++◌, length, map, Option, Some, None, refl, sym, ap, subst, ◌∙◌, arith, append_assoc, length-append, zero-add, suc-add}
use Rattle.std.specs.Prelude.{slice_get}
use Rattle.std.specs.List.{AllByRecursion as Each, Contains, cons_option}
use Rattle.std.proofs.lemmas.Bool.{false≢true}
use Rattle.xml_model.specs.Chars.{size}
use Rattle.xml_model.specs.Items.{Attribute, Tag, Leaf, first_place, written_attribute, written_pieces}
use Rattle.xml_model.specs.Nest.{Forest, done, single, empty, element}
use Rattle.xml_model.specs.Records.{Record, named, records, attributes_records, attributes_place, tag_records, leaf_records, forest_records, declaration_part_records, declaration_attributes, depth_at, past_leaf, past_empty, past_start, past_element, name_token}
use Rattle.xml_model.specs.Tree.{Thing, Entry, Here, child, under, leaf_node, after_leaf, inside_of, after_element, element_entry, tag_attributes, nodes, at_first, root_entry, all}
use Rattle.xml_model.specs.Scan.{record_at}
use Rattle.xml_model.specs.Content.{value_content}
use Rattle.xml_model.specs.Laws.{HasRecords, records_of}
use Rattle.xml_model.proofs.Cuts.{each_cut}
use Rattle.xml_model.proofs.Each.{each_at, contains_here, contains_next, contains_map}
use Rattle.xml_model.proofs.NodeLaws.{records_of_node}
use Rattle.vtd_words.specs.Lists.{Lists}
use Rattle.vtd_words.specs.Table.{IsNestOf, Shows}
use Rattle.vtd_words.proofs.Fitting.{nest_shown}
use Rattle.vtd_words.proofs.Shown.{shown_length}
use Rattle.vtd_text.specs.declared.token.Rule.TheVariants.{Value}
use Rattle.vtd_text.specs.NameRecords.{IsNameOf, IsDeclaration, HasName, is_attribute_name}
use Rattle.vtd_text.specs.Resolved.{IsResolved, IsRecord}
use Rattle.vtd_text.proofs.Leaves.{ValuesAre}
use Rattle.vtd_text.proofs.Written.{SaysOf, Says, all_say}
use Rattle.vtd_text.proofs.NodeFacts.{record_after}

-- ---- the records of a tag

abbrev pub twice : ℕ → ℕ
twice zero = zero
twice (suc j) = suc (suc (twice j))

pub twice_is : (j : ℕ) → twice j ≡ 2 * j
twice_is zero = refl
twice_is (suc j) = omega (arith, twice_is j)

-- the name and the value of the attribute with a number
pub record AttributeAt (bytes : List ℕ) (depth j : ℕ) (a : Attribute) (rs : List Record) : Type 0 where
  pub place : ℕ
  pub name : record_at (twice j) rs ≡ named (name_token a.name) depth a.name place
  pub value : IsResolved bytes Value (record_at (suc (twice j)) rs) (value_content a.value)
  pub within : suc (twice j) < length rs

attribute_at : (bytes : List ℕ) (others : List Attribute) (depth at j : ℕ) (a : Attribute) (more : List Record) → slice_get others j ≡ Some a → ValuesAre bytes depth at others → AttributeAt bytes depth j a (attributes_records depth at others ++ more)
attribute_at bytes [] depth at j a more g v = absurd cc
attribute_at bytes (b ∷ others) depth at zero a more g v =
    let same : b ≡ a = cc in
    subst (λ (x : Attribute). AttributeAt bytes depth 0 x (attributes_records depth at (b ∷ others) ++ more)) same (record { place = at + size b.space; name = refl; value = v.0.0; within = omega arith })
attribute_at bytes (b ∷ others) depth at (suc j) a more g v =
    let so = attribute_at bytes others depth (at + size (written_attribute b)) j a more g v.1 in
    record { place = so.place; name = so.name; value = so.value; within = omega (arith, so.within) }

-- a node whose tag has the attribute whose name is a record
pub record NameIn (es : List Entry) (at : ℕ) (a : Attribute) : Type 0 where
  pub entry : Entry
  pub there : Contains es entry
  pub tag : Tag
  pub inside : Forest
  pub element : entry.what ≡ Thing.element tag inside
  pub number : ℕ
  pub holds : slice_get tag.attributes number ≡ Some a
  pub index : at ≡ entry.index + suc (twice number)

abbrev pub drop_first : List Record → List Record
drop_first [] = []
drop_first (r ∷ rs) = rs

-- the record and the one after it, in a list that the records of the node are a part of
tag_says : (bytes : List ℕ) (what : Thing) (l start : ℕ) (tag : Tag) (inside : Forest) (j : ℕ) (a : Attribute) (rest : List Record) → what ≡ Thing.element tag inside → slice_get tag.attributes j ≡ Some a → SaysOf bytes what l start →
    AttributeAt bytes l j a (drop_first (records_of what l start ++ rest))
tag_says bytes what l start tag inside j a rest e g s =
    let k : SaysOf bytes (Thing.element tag inside) l start = subst (λ (x : Thing). SaysOf bytes x l start) e s in
    subst (λ (x : Thing). AttributeAt bytes l j a (drop_first (records_of x l start ++ rest))) (sym e)
    (subst (λ (rs : List Record). AttributeAt bytes l j a rs) (sym (append_assoc (attributes_records l (attributes_place start tag) tag.attributes) (forest_records (suc l) (past_start start tag) inside) rest))
    (attribute_at bytes tag.attributes l (attributes_place start tag) j a (forest_records (suc l) (past_start start tag) inside ++ rest) g k.1))

pub first_off : (k : ℕ) (rs : List Record) → 0 < length rs → record_at (suc k) rs ≡ record_at k (drop_first rs)
first_off k [] h = absurd (omega arith)
first_off k (r ∷ rs) h = refl

first_length : (rs : List Record) → length (drop_first rs) ≤ length rs - 1
first_length [] = omega arith
first_length (r ∷ rs) = omega arith

pub some_records : (what : Thing) (l at : ℕ) (tag : Tag) (inside : Forest) (rest : List Record) → what ≡ Thing.element tag inside → 0 < length (records_of what l at ++ rest)
some_records what l at tag inside rest e = subst (λ (x : Thing). 0 < length (records_of x l at ++ rest)) (sym e) (omega arith)

-- what the name of an attribute and the record after it say
pub record NameSays (bytes : List ℕ) (rs : List Record) (at : ℕ) (a : Attribute) (entry : Entry) : Type 0 where
  pub place : ℕ
  pub name : record_at at rs ≡ named (name_token a.name) (length entry.holders) a.name place
  pub value : IsResolved bytes Value (record_at (at + 1) rs) (value_content a.value)
  pub within : at + 1 < length rs

name_says : (bytes : List ℕ) (rs : List Record) (at : ℕ) (a : Attribute) (e : Entry) (tag : Tag) (inside : Forest) (j : ℕ) → e.what ≡ Thing.element tag inside → slice_get tag.attributes j ≡ Some a → at ≡ e.index + suc (twice j) →
    Says bytes e → HasRecords rs e → NameSays bytes rs at a e
name_says bytes rs at a e tag inside j is g p s r =
    let mine = records_of e.what (length e.holders) e.start in
    let more : 0 < length (mine ++ r.rest) = some_records e.what (length e.holders) e.start tag inside r.rest is in
    let k = tag_says bytes e.what (length e.holders) e.start tag inside j a r.rest is g s in
    let whole : rs ≡ r.prefix ++ (mine ++ r.rest) = r.split ∙ append_assoc r.prefix mine r.rest in
    let there : (n : ℕ) → record_at (length r.prefix + n) rs ≡ record_at n (mine ++ r.rest) = λ n. ap (record_at (length r.prefix + n)) whole ∙ record_after r.prefix (mine ++ r.rest) n in
    let one : at ≡ length r.prefix + suc (twice j) = p ∙ ap (λ (n : ℕ). n + suc (twice j)) (sym r.begins) in
    let two : at + 1 ≡ length r.prefix + suc (suc (twice j)) = omega arith in
    record {
      place = k.place;
      name = ap (λ (n : ℕ). record_at n rs) one ∙ there (suc (twice j)) ∙ first_off (twice j) (mine ++ r.rest) more ∙ k.name;
      value = subst (λ (x : Record). IsResolved bytes Value x (value_content a.value)) (sym (ap (λ (n : ℕ). record_at n rs) two ∙ there (suc (suc (twice j))) ∙ first_off (suc (twice j)) (mine ++ r.rest) more)) k.value;
      within = omega (arith, k.within, one, ap length whole, length-append r.prefix (mine ++ r.rest), first_length (mine ++ r.rest));
    }

pub name_of_says : (bytes : List ℕ) (lists : Lists) (nest : Forest) → IsNestOf bytes lists nest → (at : ℕ) (a : Attribute) → (n : IsNameOf bytes nest at a) → NameSays bytes (records nest (first_place bytes)) at a n.entry
name_of_says bytes lists nest s at a n =
    let first = first_place bytes in
    name_says bytes (records nest first) at a n.entry n.tag n.inside n.number n.element n.holds (omega (arith, n.index, twice_is n.number))
    (each_at (Says bytes) (all nest first) n.entry (all_say bytes nest s.accepted.utf8 s.accepted.document) n.there)
    (records_of_node nest first s.accepted.document.nests n.entry n.there)

-- ---- each name of an attribute is found

-- an attribute of a list, by the place of its name
record Number (others : List Attribute) (n : ℕ) : Type 0 where
  pub number : ℕ
  pub attribute : Attribute
  pub holds : slice_get others number ≡ Some attribute
  pub place : n ≡ twice number

number_of : (others : List Attribute) (depth at n : ℕ) → is_attribute_name (record_at n (attributes_records depth at others)).token ≡ true → Number others n
number_of [] depth at n h = absurd (false≢true h)
number_of (a ∷ others) depth at zero h = record { number = 0; attribute = a; holds = refl; place = refl }
number_of (a ∷ others) depth at (suc zero) h = absurd (false≢true h)
number_of (a ∷ others) depth at (suc (suc n)) h =
    let so = number_of others depth (at + size (written_attribute a)) n h in
    record { number = suc so.number; attribute = so.attribute; holds = so.holds; place = ap (λ (k : ℕ). suc (suc k)) so.place }

-- a node of the list with an attribute whose name is the record
pub record Found (es : List Entry) (at : ℕ) : Type 0 where
  pub attribute : Attribute
  pub name : NameIn es at attribute

found_by : (es fs : List Entry) (at : ℕ) → ((e : Entry) → Contains es e → Contains fs e) → Found es at → Found fs at
found_by es fs at f k = record {
  attribute = k.attribute;
  name = record { entry = k.name.entry; there = f k.name.entry k.name.there; tag = k.name.tag; inside = k.name.inside; element = k.name.element; number = k.name.number; holds = k.name.holds; index = k.name.index };
}

found_under : (i : ℕ) (es : List Entry) (at : ℕ) → Found es at → Found (map (under (child i)) es) at
found_under i es at k = record {
  attribute = k.attribute;
  name = record { entry = under (child i) k.name.entry; there = contains_map (under (child i)) es k.name.entry k.name.there; tag = k.name.tag; inside = k.name.inside; element = k.name.element; number = k.name.number; holds = k.name.holds; index = k.name.index };
}

contains_left : (es fs : List Entry) (e : Entry) → Contains es e → Contains (es ++ fs) e
contains_left [] fs e c = absurd (omega (arith, c.1))
contains_left (x ∷ es) fs e (zero, l, s) = (zero, omega arith, s)
contains_left (x ∷ es) fs e (suc k, l, s) = contains_next x (es ++ fs) e (contains_left es fs e (k, omega (arith, l), s))

contains_right : (es fs : List Entry) (e : Entry) → Contains fs e → Contains (es ++ fs) e
contains_right [] fs e c = c
contains_right (x ∷ es) fs e c = contains_next x (es ++ fs) e (contains_right es fs e c)

contains_option : (o : Option Entry) (es : List Entry) (e : Entry) → Contains es e → Contains (cons_option o es) e
contains_option None es e c = c
contains_option (Some x) es e c = contains_next x es e c

-- a record of two lists is one of the first or one of the second
record InFirst (xs : List Record) (n : ℕ) (r : Record) : Type 0 where
  pub is : r ≡ record_at n xs

record InSecond (xs ys : List Record) (n : ℕ) (r : Record) : Type 0 where
  pub index : ℕ
  pub place : n ≡ length xs + index
  pub is : r ≡ record_at index ys

in_either : (xs ys : List Record) (n : ℕ) → InFirst xs n (record_at n (xs ++ ys)) ⊎ InSecond xs ys n (record_at n (xs ++ ys))
in_either [] ys n = inr (record { index = n; place = sym (zero-add n); is = refl })
in_either (x ∷ xs) ys zero = inl (record { is = refl })
in_either (x ∷ xs) ys (suc n) = elim (in_either xs ys n) [
  | inl k ↦ inl (record { is = k.is })
  | inr k ↦ inr (record { index = k.index; place = ap suc k.place ∙ sym (suc-add (length xs) k.index); is = k.is })
]

-- no record of a leaf is the name of an attribute
abbrev Other : Record → Type 0
Other r = is_attribute_name r.token ≡ false

parts_other : (depth at : ℕ) (others : List Attribute) → Each Other (declaration_part_records depth at others)
parts_other depth at [] = tt
parts_other depth at (a ∷ others) = (refl, (refl, parts_other depth (at + size (written_attribute a)) others))

leaf_other : (x : Leaf) (l at : ℕ) → Each Other (leaf_records l at x)
leaf_other (Leaf.text ps) zero at = tt
leaf_other (Leaf.text ps) (suc d) at = each_cut Other 5 d at (size (written_pieces ps)) (λ m o i. refl)
leaf_other (Leaf.cdata cs) l at = each_cut Other 11 (depth_at l) (at + 9) (size cs) (λ m o i. refl)
leaf_other (Leaf.comment cs) l at = (refl, tt)
leaf_other (Leaf.instruction i) l at = (refl, (refl, tt))
leaf_other (Leaf.declaration v) l at = parts_other (depth_at l) (at + 5) (declaration_attributes v)
leaf_other (Leaf.doctype v) l at = (refl, tt)

other_at : (rs : List Record) (n : ℕ) → Each Other rs → is_attribute_name (record_at n rs).token ≡ false
other_at [] n h = refl
other_at (r ∷ rs) zero h = h.0
other_at (r ∷ rs) (suc n) h = other_at rs n h.1

-- among the records of a tag
tag_found : (h : Here) (t : Tag) (inside : Forest) (stop n : ℕ) (es : List Entry) → is_attribute_name (record_at n (tag_records (length h.holders) h.at t)).token ≡ true → Found (element_entry h t inside stop ∷ es) (h.index + n)
tag_found h t inside stop zero es k = absurd (false≢true k)
tag_found h t inside stop (suc n) es k =
    let so = number_of t.attributes (length h.holders) (attributes_place h.at t) n k in
    record {
      attribute = so.attribute;
      name = record { entry = element_entry h t inside stop; there = contains_here (element_entry h t inside stop) es; tag = t; inside = inside; element = refl; number = so.number; holds = so.holds; index = ap (λ (m : ℕ). h.index + suc m) so.place };
    }

along : (es : List Entry) (m n : ℕ) → m ≡ n → Found es m → Found es n
along es m n e k = subst (Found es) e k

same_true : (r q : Record) → r ≡ q → is_attribute_name r.token ≡ true → is_attribute_name q.token ≡ true
same_true r q e h = ap (λ (x : Record). is_attribute_name x.token) (sym e) ∙ h

found : (f : Forest) (h : Here) (n : ℕ) → is_attribute_name (record_at n (forest_records (length h.holders) h.at f)).token ≡ true → Found (nodes h f) (h.index + n)
found done h n k = absurd (false≢true k)
found (single x f) h n k =
    let mine = leaf_records (length h.holders) h.at x in
    let rest = forest_records (length h.holders) (past_leaf h.at x) f in
    elim (in_either mine rest n) [
      | inl q ↦ absurd (false≢true (sym (other_at mine n (leaf_other x (length h.holders) h.at)) ∙ same_true _ _ q.is k))
      | inr q ↦
          found_by (nodes (after_leaf h x f) f) (nodes h (single x f)) (h.index + n) (contains_option (leaf_node h x f) (nodes (after_leaf h x f) f))
          (along _ (h.index + length mine + q.index) (h.index + n) (omega (arith, q.place)) (found f (after_leaf h x f) q.index (same_true _ _ q.is k)))
    ]
found (empty t f) h n k =
    let mine = tag_records (length h.holders) h.at t in
    let rest = forest_records (length h.holders) (past_empty h.at t) f in
    let own = element_entry h t done (past_empty h.at t) ∷ tag_attributes h t in
    let next = after_element h t done (past_empty h.at t) in
    elim (in_either mine rest n) [
      | inl q ↦
          found_by (map (under (child h.number)) own) (nodes h (empty t f)) (h.index + n) (contains_left (map (under (child h.number)) own) (nodes next f))
          (found_under h.number own (h.index + n) (tag_found h t done (past_empty h.at t) n (tag_attributes h t) (same_true _ _ q.is k)))
      | inr q ↦
          found_by (nodes next f) (nodes h (empty t f)) (h.index + n) (contains_right (map (under (child h.number)) own) (nodes next f))
          (along _ (next.index + q.index) (h.index + n) (omega (arith, q.place)) (found f next q.index (same_true _ _ q.is k)))
    ]
found (element t inside space f) h n k =
    let mine = tag_records (length h.holders) h.at t in
    let within = forest_records (suc (length h.holders)) (past_start h.at t) inside in
    let past = past_element h.at t inside space in
    let rest = forest_records (length h.holders) past f in
    let own = element_entry h t inside past ∷ tag_attributes h t in
    let all_own = own ++ nodes (inside_of h t) inside in
    let next = after_element h t inside past in
    elim (in_either (mine ++ within) rest n) [
      | inl q ↦
          let there : Found all_own (h.index + n) =
          elim (in_either mine within n) [
            | inl p ↦ found_by own all_own (h.index + n) (contains_left own (nodes (inside_of h t) inside)) (tag_found h t inside past n (tag_attributes h t) (same_true _ _ p.is (same_true _ _ q.is k)))
            | inr p ↦
                found_by (nodes (inside_of h t) inside) all_own (h.index + n) (contains_right own (nodes (inside_of h t) inside))
                (along _ ((inside_of h t).index + p.index) (h.index + n) (omega (arith, p.place)) (found inside (inside_of h t) p.index (same_true _ _ p.is (same_true _ _ q.is k))))
          ] in
          found_by (map (under (child h.number)) all_own) (nodes h (element t inside space f)) (h.index + n) (contains_left (map (under (child h.number)) all_own) (nodes next f)) (found_under h.number all_own (h.index + n) there)
      | inr q ↦
          found_by (nodes next f) (nodes h (element t inside space f)) (h.index + n) (contains_right (map (under (child h.number)) all_own) (nodes next f))
          (along _ (next.index + q.index) (h.index + n) (omega (arith, q.place, length-append mine within)) (found f next q.index (same_true _ _ q.is k)))
    ]

-- each record of the type 2 or 3 is the name of an attribute
pub name_found : (bytes : List ℕ) (nest : Forest) (at : ℕ) → is_attribute_name (record_at at (records nest (first_place bytes))).token ≡ true → HasName bytes nest at
unfolding records all
name_found bytes nest zero h = absurd (false≢true h)
name_found bytes nest (suc n) h =
    let k = found nest (at_first (first_place bytes)) n h in
    let e = k.name in
    record {
      attribute = k.attribute;
      name = record {
        entry = e.entry;
        there = contains_next (root_entry nest (first_place bytes)) (nodes (at_first (first_place bytes)) nest) e.entry e.there;
        tag = e.tag;
        inside = e.inside;
        element = e.element;
        number = e.number;
        holds = e.holds;
        index = omega (arith, e.index, twice_is e.number);
      };
    }

-- the value of a declaration is among the words
pub declaration_within : (bytes : List ℕ) (lists : Lists) → length bytes < 2 ^ 30 → (at : ℕ) → IsDeclaration bytes lists at → at + 1 < length lists.records
declaration_within bytes lists few at d =
    let h = name_found bytes d.nest at (ap is_attribute_name d.declaration) in
    omega (arith, (name_of_says bytes lists d.nest d.shown at h.attribute h.name).within, shown_length lists.records (records d.nest (first_place bytes)) (nest_shown bytes lists d.nest few d.shown))

-- the value of a declaration
pub declaration_record : (bytes : List ℕ) (lists : Lists) → length bytes < 2 ^ 30 → (at : ℕ) → IsDeclaration bytes lists at → IsRecord bytes lists.records Value (at + 1)
declaration_record bytes lists few at d =
    let h = name_found bytes d.nest at (ap is_attribute_name d.declaration) in
    record {
      rs = records d.nest (first_place bytes);
      shown = nest_shown bytes lists d.nest few d.shown;
      content = value_content h.attribute.value;
      resolved = (name_of_says bytes lists d.nest d.shown at h.attribute h.name).value;
    }

-- what a call on the record of a declaration's value gives
pub declaration_gives : (bytes : List ℕ) (lists : Lists) → length bytes < 2 ^ 30 → (at : ℕ) (result : List ℕ) →
    ((rs : List Record) → Shows lists.records rs → (cs : List ℕ) → IsResolved bytes Value (record_at (at + 1) rs) cs → result ≡ cs) →
    (nest : Forest) → IsNestOf bytes lists nest → (a : Attribute) → IsNameOf bytes nest at a → result ≡ value_content a.value
declaration_gives bytes lists few at result f nest s a n =
    f (records nest (first_place bytes)) (nest_shown bytes lists nest few s) (value_content a.value) (name_of_says bytes lists nest s at a n).value
