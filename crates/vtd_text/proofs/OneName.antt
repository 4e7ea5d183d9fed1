-- A record is the name of at most one attribute, and each record of the type 2 or 3 is that of one.
use Rattle.std.proofs.Common.{◌≡◌, ℕ, zero, suc, ◌+◌, ◌<◌, ◌≤◌, Bool, true, false, cond, inl, inr, List, [], ◌∷◌, ◌++◌, length, Option, Some, None, sym, ap, ap₂, ◌∙◌, ◌-◌, arith, append_assoc}
use Rattle.std.specs.Prelude.{slice_get}
use Rattle.std.specs.List.{Contains}
use Rattle.std.proofs.lemmas.Bool.{cases_lt}
use Rattle.xml_model.specs.declared.Kind.{Kind}
use Rattle.xml_model.specs.declared.Kind.TheVariants as kinds
use Rattle.xml_model.specs.Chars.{size}
use Rattle.xml_model.specs.Items.{Attribute, Tag, first_place, written_attribute}
use Rattle.xml_model.specs.Nest.{Forest}
use Rattle.xml_model.specs.Records.{Record, declares, records, attributes_records, attributes_place, forest_records, past_start}
use Rattle.xml_model.specs.Tree.{Thing, Entry, kind_of, all}
use Rattle.xml_model.specs.Scan.{record_at, kind_of_token}
use Rattle.xml_model.specs.Laws.{HasRecords, FirstRecordShows, records_of}
use Rattle.xml_model.proofs.Each.{Rising}
use Rattle.xml_model.proofs.Rise.{index, indexes_rise}
use Rattle.xml_model.proofs.NodeLaws.{records_of_node, first_record_of_node}
use Rattle.vtd_words.specs.Lists.{Lists}
use Rattle.vtd_words.specs.Table.{IsNestOf}
use Rattle.vtd_text.specs.NameRecords.{IsNameOf}
use Rattle.vtd_text.proofs.NodeFacts.{record_after}
use Rattle.vtd_text.proofs.NameFacts.{twice, twice_is, drop_first, first_off, some_records}

-- ---- nodes by their places

rising_low : (low high : ℕ) (es : List Entry) → Rising index low es high → (x : Entry) → Contains es x → low ≤ x.index
rising_low low high [] r x c = absurd (omega (arith, c.1))
rising_low low high (e ∷ es) r x (zero, l, s) = omega (arith, r.0, ap index s)
rising_low low high (e ∷ es) r x (suc n, l, s) = let k : suc e.index ≤ x.index = rising_low (suc e.index) high es r.1 x (n, omega (arith, l), s) in omega (arith, k, r.0)

rising_one : (low high : ℕ) (es : List Entry) → Rising index low es high → (x y : Entry) → Contains es x → Contains es y → x.index ≡ y.index → x ≡ y
rising_one low high [] r x y c d p = absurd (omega (arith, c.1))
rising_one low high (e ∷ es) r x y (zero, l, s) (zero, m, t) p = sym s ∙ t
rising_one low high (e ∷ es) r x y (zero, l, s) (suc n, m, t) p =
    let k : suc e.index ≤ y.index = rising_low (suc e.index) high es r.1 y (n, omega (arith, m), t) in absurd (omega (arith, k, ap index s, p))
rising_one low high (e ∷ es) r x y (suc n, l, s) (zero, m, t) p =
    let k : suc e.index ≤ x.index = rising_low (suc e.index) high es r.1 x (n, omega (arith, l), s) in absurd (omega (arith, k, ap index t, p))
rising_one low high (e ∷ es) r x y (suc n, l, s) (suc k, m, t) p = rising_one (suc e.index) high es r.1 x y (n, omega (arith, l), s) (k, omega (arith, m), t) p

-- ---- no tag begins among the attributes of another one

no_element : (b : Bool) → kind_of_token (cond b 3 2) ≡ Some kinds.Element → ⊥
no_element true e = let n : ◌≡◌ {A = Option Kind} None (Some kinds.Element) = e in cc
no_element false e = let n : ◌≡◌ {A = Option Kind} (Some kinds.Attribute) (Some kinds.Element) = e in cc

no_tag : (others : List Attribute) (depth at j t : ℕ) (a : Attribute) (more : List Record) → slice_get others j ≡ Some a → t ≤ twice j → kind_of_token (record_at t (attributes_records depth at others ++ more)).token ≡ Some kinds.Element → ⊥
no_tag [] depth at j t a more g l e = cc
no_tag (b ∷ others) depth at j zero a more g l e = no_element (declares b.name) e
no_tag (b ∷ others) depth at zero (suc t) a more g l e = omega (arith, l)
no_tag (b ∷ others) depth at (suc j) (suc zero) a more g l e = let n : ◌≡◌ {A = Option Kind} None (Some kinds.Element) = e in cc
no_tag (b ∷ others) depth at (suc j) (suc (suc t)) a more g l e = no_tag others depth (at + size (written_attribute b)) j t a more g (omega (arith, l)) e

-- the same of a node's records
inner_no_tag : (rs : List Record) (e : Entry) (tag : Tag) (inside : Forest) (j t : ℕ) (a : Attribute) → HasRecords rs e → e.what ≡ Thing.element tag inside → slice_get tag.attributes j ≡ Some a → t ≤ twice j →
    kind_of_token (record_at (e.index + suc t) rs).token ≡ Some kinds.Element → ⊥
inner_no_tag rs e tag inside j t a r is g l h =
    let l' = length e.holders in
    let mine = records_of e.what l' e.start in
    let more : 0 < length (mine ++ r.rest) = some_records e.what l' e.start tag inside r.rest is in
    let there : record_at (e.index + suc t) rs ≡ record_at t (drop_first (mine ++ r.rest)) =
    ap (λ (n : ℕ). record_at (n + suc t) rs) (sym r.begins) ∙ ap (record_at (length r.prefix + suc t)) (r.split ∙ append_assoc r.prefix mine r.rest) ∙ record_after r.prefix (mine ++ r.rest) (suc t) ∙ first_off t (mine ++ r.rest) more in
    let tail : drop_first (mine ++ r.rest) ≡ attributes_records l' (attributes_place e.start tag) tag.attributes ++ (forest_records (suc l') (past_start e.start tag) inside ++ r.rest) =
    ap (λ (x : Thing). drop_first (records_of x l' e.start ++ r.rest)) is ∙ append_assoc (attributes_records l' (attributes_place e.start tag) tag.attributes) (forest_records (suc l') (past_start e.start tag) inside) r.rest in
    no_tag tag.attributes l' (attributes_place e.start tag) j t a (forest_records (suc l') (past_start e.start tag) inside ++ r.rest) g l
    (ap (λ (x : Record). kind_of_token x.token) (sym (there ∙ ap (record_at t) tail)) ∙ h)

-- ---- one attribute

not_before : (bytes : List ℕ) (lists : Lists) (nest : Forest) → IsNestOf bytes lists nest → (at : ℕ) (a b : Attribute) → (n : IsNameOf bytes nest at a) (m : IsNameOf bytes nest at b) → n.entry.index < m.entry.index → ⊥
not_before bytes lists nest s at a b n m lt =
    let first = first_place bytes in
    let rs = records nest first in
    let t : ℕ = m.entry.index - suc n.entry.index in
    let sum : m.entry.index ≡ n.entry.index + suc t = omega arith in
    let low : t ≤ twice n.number = omega (arith, twice_is n.number, n.index, m.index, sum) in
    let shows : FirstRecordShows rs m.entry = first_record_of_node nest first s.accepted.document.nests m.entry m.there in
    let kind : kind_of_token (record_at (n.entry.index + suc t) rs).token ≡ Some kinds.Element = ap (λ (k : ℕ). kind_of_token (record_at k rs).token) (sym sum) ∙ shows.kind ∙ ap (λ (x : Thing). Some (kind_of x)) m.element in
    inner_no_tag rs n.entry n.tag n.inside n.number t a (records_of_node nest first s.accepted.document.nests n.entry n.there) n.element n.holds low kind

rising_nodes : (nest : Forest) (first : ℕ) (x y : Entry) → Contains (all nest first) x → Contains (all nest first) y → x.index ≡ y.index → x ≡ y
rising_nodes nest first x y c d p = rising_one 0 _ (all nest first) (indexes_rise nest first) x y c d p

same_place : (bytes : List ℕ) (lists : Lists) (nest : Forest) → IsNestOf bytes lists nest → (at : ℕ) (a b : Attribute) → (n : IsNameOf bytes nest at a) (m : IsNameOf bytes nest at b) → n.entry.index ≡ m.entry.index
same_place bytes lists nest s at a b n m = elim (cases_lt n.entry.index m.entry.index) [
  | inl lt ↦ absurd (not_before bytes lists nest s at a b n m lt)
  | inr ge ↦ elim (cases_lt m.entry.index n.entry.index) [ inl lt ↦ absurd (not_before bytes lists nest s at b a m n lt) | inr le ↦ omega arith ]
]

-- the law: a record is the name of at most one attribute
pub one_name : (bytes : List ℕ) (lists : Lists) (nest : Forest) → IsNestOf bytes lists nest → (at : ℕ) (a b : Attribute) → IsNameOf bytes nest at a → IsNameOf bytes nest at b → a ≡ b
one_name bytes lists nest s at a b n m =
    let p = same_place bytes lists nest s at a b n m in
    let e : n.entry ≡ m.entry = rising_nodes nest (first_place bytes) n.entry m.entry n.there m.there p in
    let t : n.tag ≡ m.tag = same_tag n.tag m.tag n.inside m.inside (sym n.element ∙ ap (λ (x : Entry). x.what) e ∙ m.element) in
    let j : n.number ≡ m.number = omega (arith, n.index, m.index, p) in
    let o : Some a ≡ Some b = sym n.holds ∙ ap₂ (λ (x : Tag) (k : ℕ). slice_get x.attributes k) t j ∙ m.holds in
    cc
  where
    same_tag : (t u : Tag) (f g : Forest) → Thing.element t f ≡ Thing.element u g → t ≡ u
    same_tag t u f g e = cc
