-- Records hang on the place from which they are counted by their offsets alone.
use Rattle.std.proofs.Common.{◌≡◌, ℕ, zero, suc, ◌+◌, ◌-◌, false, List, [], ◌∷◌, ◌++◌, map, Option, Some, None, refl, sym, ap, ap₂, ◌∙◌}
use Rattle.std.proofs.Common.{arith}
use Rattle.std.specs.Prelude.{is_some}
use Rattle.std.proofs.lemmas.List.{map-append}
use Rattle.xml_model.specs.declared.Field.{Field}
use Rattle.xml_model.specs.Chars.{size}
use Rattle.xml_model.specs.Items.{Attribute, Tag, Leaf, text, cdata, declaration, doctype, written_pieces, written_attribute}
use Rattle.xml_model.specs.Items.{before_value, written_units}
use Rattle.xml_model.specs.Nest.{Forest, done, single, empty, element}
use Rattle.xml_model.specs.Records.{Record, plain, named, name_token, attributes_records, attributes_place, tag_records, cut, cuts}
use Rattle.xml_model.specs.Records.{cut_limit, full_cuts, cut_records, declaration_part_records, declaration_attributes, depth_at}
use Rattle.xml_model.specs.Records.{leaf_records, past_leaf, past_empty, past_start, past_forest, past_element, forest_records, records}
use Rattle.xml_model.specs.Records.{document}
use Rattle.xml_model.specs.Accepted.{first_wide, too_wide, wide_here}
use Rattle.xml_nests.specs.Moved.{later, moved}

attributes_later : (d at to n : ℕ) (others : List Attribute) → to ≡ at + n →
    attributes_records d to others ≡ map (later n) (attributes_records d at others)
attributes_later d at to n [] e = refl
attributes_later d at to n (a ∷ others) e =
    let h = attributes_later d (at + size (written_attribute a)) (to + size (written_attribute a)) n others (omega (arith, e)) in
    let x : to + size a.space ≡ at + size a.space + n = omega (arith, e) in
    let y : to + size a.space + size (before_value a) ≡ at + size a.space + size (before_value a) + n = omega (arith, e) in
    ap₂ (λ (o : ℕ) (rs : List Record). named (name_token a.name) d a.name o ∷ rs) x
    (ap₂ (λ (o : ℕ) (rs : List Record). plain 4 d (written_pieces a.value) o ∷ rs) y h)

pub tag_later : (d at to n : ℕ) (t : Tag) → to ≡ at + n → tag_records d to t ≡ map (later n) (tag_records d at t)
tag_later d at to n t e =
    let x : to + 1 ≡ at + 1 + n = omega (arith, e) in
    ap₂ (λ (o : ℕ) (rs : List Record). named 0 d t.name o ∷ rs) x
    (attributes_later d (attributes_place at t) (attributes_place to t) n t.attributes (omega (arith, e)))

parts_later : (d at to n : ℕ) (others : List Attribute) → to ≡ at + n →
    declaration_part_records d to others ≡ map (later n) (declaration_part_records d at others)
parts_later d at to n [] e = refl
parts_later d at to n (a ∷ others) e =
    let h = parts_later d (at + size (written_attribute a)) (to + size (written_attribute a)) n others (omega (arith, e)) in
    let x : to + size a.space ≡ at + size a.space + n = omega (arith, e) in
    let y : to + size a.space + size (before_value a) ≡ at + size a.space + size (before_value a) + n = omega (arith, e) in
    ap₂ (λ (o : ℕ) (rs : List Record). plain 9 d a.name o ∷ rs) x
    (ap₂ (λ (o : ℕ) (rs : List Record). plain 10 d (written_pieces a.value) o ∷ rs) y h)

-- one record
plain_later : (k d at to n : ℕ) (cs : List ℕ) → to ≡ at + n → plain k d cs to ∷ [] ≡ map (later n) (plain k d cs at ∷ [])
plain_later k d at to n cs e = ap (λ (o : ℕ). plain k d cs o ∷ []) e

-- the cuts of a text or a CDATA section
cuts_later : (k token d at to m n : ℕ) → to ≡ at + n → cuts k token d to m ≡ map (later n) (cuts k token d at m)
cuts_later zero token d at to m n e = ap (λ (o : ℕ). cut token d m o ∷ []) e
cuts_later (suc k) token d at to m n e =
    ap₂ (λ (o : ℕ) (rs : List Record). cut token d cut_limit o ∷ rs) e
    (cuts_later k token d (at + cut_limit) (to + cut_limit) (m - cut_limit) n (omega (arith, e)))

cut_later : (token d at to m n : ℕ) → to ≡ at + n → cut_records token d to m ≡ map (later n) (cut_records token d at m)
unfolding cut_records
cut_later token d at to m n e = cuts_later (full_cuts m) token d at to m n e

pub leaf_later : (l at to n : ℕ) (x : Leaf) → to ≡ at + n → leaf_records l to x ≡ map (later n) (leaf_records l at x)
leaf_later zero at to n (text ps) e = refl
leaf_later (suc l) at to n (text ps) e = cut_later 5 l at to (size (written_pieces ps)) n e
leaf_later l at to n (cdata cs) e = cut_later 11 (depth_at l) (at + 9) (to + 9) (size cs) n (omega (arith, e))
leaf_later l at to n (Leaf.comment cs) e = plain_later 6 (depth_at l) (at + 4) (to + 4) n cs (omega (arith, e))
leaf_later l at to n (Leaf.instruction i) e =
    let x : to + 2 ≡ at + 2 + n = omega (arith, e) in
    ap₂ (λ (o : ℕ) (rs : List Record). plain 7 (depth_at l) i.target o ∷ rs) x
    (plain_later 8 (depth_at l) (at + 2 + size i.target + size i.space) (to + 2 + size i.target + size i.space) n i.content
    (omega (arith, e)))
leaf_later l at to n (declaration d) e = parts_later (depth_at l) (at + 5) (to + 5) n (declaration_attributes d) (omega (arith, e))
leaf_later l at to n (doctype d) e =
    plain_later 12 (depth_at l) (at + 9) (to + 9) n (d.space ++ d.name ++ written_units d.units) (omega (arith, e))

pub past_later : (at to n : ℕ) (f : Forest) → to ≡ at + n → past_forest to f ≡ past_forest at f + n
past_later at to n done e = e
past_later at to n (single x f) e = past_later (past_leaf at x) (past_leaf to x) n f (omega (arith, e))
past_later at to n (empty t f) e = past_later (past_empty at t) (past_empty to t) n f (omega (arith, e))
past_later at to n (element t inside space f) e =
    let h = past_later (past_start at t) (past_start to t) n inside (omega (arith, e)) in
    past_later (past_element at t inside space) (past_element to t inside space) n f (omega (arith, h))

pub records_later : (l at to n : ℕ) (f : Forest) → to ≡ at + n → forest_records l to f ≡ map (later n) (forest_records l at f)
records_later l at to n done e = refl
records_later l at to n (single x f) e =
    ap₂ (λ (xs ys : List Record). xs ++ ys) (leaf_later l at to n x e)
    (records_later l (past_leaf at x) (past_leaf to x) n f (omega (arith, e)))
    ∙ sym (map-append (later n) (leaf_records l at x) (forest_records l (past_leaf at x) f))
records_later l at to n (empty t f) e =
    ap₂ (λ (xs ys : List Record). xs ++ ys) (tag_later l at to n t e)
    (records_later l (past_empty at t) (past_empty to t) n f (omega (arith, e)))
    ∙ sym (map-append (later n) (tag_records l at t) (forest_records l (past_empty at t) f))
records_later l at to n (element t inside space f) e =
    let h = past_later (past_start at t) (past_start to t) n inside (omega (arith, e)) in
    let a = tag_later l at to n t e in
    let b = records_later (suc l) (past_start at t) (past_start to t) n inside (omega (arith, e)) in
    let c = records_later l (past_element at t inside space) (past_element to t inside space) n f (omega (arith, h)) in
    ap₂ (λ (xs ys : List Record). xs ++ ys)
    (ap₂ (λ (xs ys : List Record). xs ++ ys) a b
    ∙ sym (map-append (later n) (tag_records l at t) (forest_records (suc l) (past_start at t) inside))) c
    ∙ sym (map-append (later n) (tag_records l at t ++ forest_records (suc l) (past_start at t) inside)
    (forest_records l (past_element at t inside space) f))

-- from any place to any other
pub map_moved : (from to : ℕ) (rs : List Record) → map (moved from to) (map (later from) rs) ≡ map (later to) rs
map_moved from to [] = refl
map_moved from to (r ∷ rs) =
    let x : r.offset + from - from + to ≡ r.offset + to = omega arith in
    ap₂ (λ (o : ℕ) (ts : List Record). (record r { offset = o }) ∷ ts) x (map_moved from to rs)

pub records_moved : (l from to : ℕ) (f : Forest) → forest_records l to f ≡ map (moved from to) (forest_records l from f)
records_moved l from to f =
    records_later l 0 to to f (omega arith) ∙ sym (map_moved from to (forest_records l 0 f))
    ∙ ap (map (moved from to)) (sym (records_later l 0 from from f (omega arith)))

-- ---- widths

wide_one : (o : Option Field) (at to : ℕ) (p q : Option (Field × ℕ)) → is_some p ≡ is_some q →
    is_some (wide_here o at p) ≡ is_some (wide_here o to q)
wide_one None at to p q e = e
wide_one (Some f) at to p q e = refl

wide_later : (n : ℕ) (rs : List Record) → is_some (first_wide (map (later n) rs)) ≡ is_some (first_wide rs)
unfolding first_wide
wide_later n [] = refl
wide_later n (r ∷ rs) = wide_one (too_wide r) (r.offset + n) r.offset (first_wide (map (later n) rs)) (first_wide rs) (wide_later n rs)

none_is : (o : Option (Field × ℕ)) → is_some o ≡ false → o ≡ None
none_is None e = refl
none_is (Some x) e = absurd cc

pub after_document : (rs : List Record) → is_some (first_wide (document ∷ rs)) ≡ is_some (first_wide rs)
unfolding first_wide
after_document rs = refl

pub widths_anywhere : (nest : Forest) (at to : ℕ) → first_wide (records nest at) ≡ None → first_wide (records nest to) ≡ None
unfolding records
widths_anywhere nest at to e = none_is _ (
    after_document (forest_records 0 to nest)
    ∙ ap (λ (rs : List Record). is_some (first_wide rs)) (records_later 0 0 to to nest (omega arith))
    ∙ wide_later to (forest_records 0 0 nest)
    ∙ sym (ap (λ (rs : List Record). is_some (first_wide rs)) (records_later 0 0 at at nest (omega arith))
    ∙ wide_later at (forest_records 0 0 nest)) ∙ sym (after_document (forest_records 0 at nest))
    ∙ ap (λ (o : Option (Field × ℕ)). is_some o) e
    )
