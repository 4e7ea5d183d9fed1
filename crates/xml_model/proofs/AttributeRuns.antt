-- The attributes of an element: records of attributes and declarations alone are before each of them.
use Rattle.std.proofs.Common.{◌≡◌, ℕ, zero, suc, ◌+◌, ◌-◌, ◌<◌, ◌≤◌, Bool, true, false, cond, ◌&&◌, ◌||◌, ◌==◌, List, [], ◌∷◌, ◌++◌, length}
use Rattle.std.proofs.Common.{refl, ap, ap₂, sym, ◌∙◌, subst, arith, Some, inl, inr, length-append, eq-eqb, eqb-true, append_assoc}
use Rattle.std.specs.List.{Contains, AllByRecursion as Each}
use Rattle.std.proofs.lemmas.Bool.{and_parts, cases_lt, false≢true}
use Rattle.xml_model.specs.declared.Kind.TheVariants as kinds
use Rattle.xml_model.specs.Chars.{size}
use Rattle.xml_model.specs.Items.{Attribute, Tag, Leaf, written_attribute, written_pieces}
use Rattle.xml_model.specs.Nest.{Forest, is_nest, done, single, empty, element}
use Rattle.xml_model.specs.Records.{Record, declares, depth_at, records, named, tag_records, leaf_records, declaration_part_records}
use Rattle.xml_model.specs.Records.{declaration_attributes, attributes_records, attributes_place, forest_records, past_leaf, past_empty}
use Rattle.xml_model.specs.Records.{past_start, past_element}
use Rattle.xml_model.specs.Tree.{Thing, Entry, all, kind_of}
use Rattle.xml_model.specs.Scan.{level_of, record_at, is_attribute_part, Passes}
use Rattle.xml_model.specs.Laws.{FirstRecordShows, is_attribute_thing}
use Rattle.xml_model.proofs.Cuts.{each_cut}
use Rattle.xml_model.proofs.Each.{each_more, each_append, each_left, each_right}
use Rattle.xml_model.proofs.Fits.{Fits}
use Rattle.xml_model.proofs.Inside.{each_record, fits_of, in_nodes, in_place, known_node, name_levels}
use Rattle.xml_model.proofs.Levels.{FromLevel}
use Rattle.xml_model.proofs.NodeLaws.{first_record_of_node}
use Rattle.xml_model.proofs.Parents.{IsHeld, KnownNode}
use Rattle.xml_model.proofs.Things.{attribute_kind, attribute_no_root, attribute_token, element_of}

part_level : (d : ℕ) → 1 ≤ cond (d == 255) 0 (suc d) → cond (d == 255) 0 (suc d) ≡ suc d
part_level d h = by (d == 255) h
  where
    by : (b : Bool) → 1 ≤ cond b 0 (suc d) → cond b 0 (suc d) ≡ suc d
    by true k = absurd (omega (arith, k))
    by false k = refl

name_part : (b : Bool) (d : ℕ) (e : cond (d == 255) 0 (suc d) ≡ suc d) →
    ((cond b 3 2 == 2 || cond b 3 2 == 3 || cond b 3 2 == 4) && cond (cond b 3 2 == 0) d (cond (d == 255) 0 (suc d)) == suc d) ≡ true
name_part true d e = eq-eqb _ (suc d) e
name_part false d e = eq-eqb _ (suc d) e

attribute_parts : (others : List Attribute) (d at : ℕ) → FromLevel 1 (attributes_records d at others) →
    Each (λ r. is_attribute_part (suc d) r ≡ true) (attributes_records d at others)
attribute_parts [] d at h = tt
attribute_parts (a ∷ others) d at h =
    let level = part_level d h.1.0 in
    (name_part (declares a.name) d level, (eq-eqb _ (suc d) level, attribute_parts others d (at + size (written_attribute a)) h.1.1))

-- an attribute in a list of pieces is of a deeper level than the pieces
abbrev Deeper : ℕ → Record → Type 0
Deeper l r = r.token ≡ 2 → suc l ≤ level_of r

attributes_deeper : (others : List Attribute) (d at : ℕ) → FromLevel 1 (attributes_records d at others) → Each (Deeper d) (attributes_records d at others)
attributes_deeper [] d at h = tt
attributes_deeper (a ∷ others) d at h =
    let level = part_level d h.1.0 in
    let name : cond (d == 255) 0 (suc d) ≡ suc d = level in (
      (λ z. omega (arith, level, name_levels (declares a.name) d)),
      ((λ z. omega (arith, level)), attributes_deeper others d (at + size (written_attribute a)) h.1.1),
    )

parts_deeper : (others : List Attribute) (l d at : ℕ) → Each (Deeper l) (declaration_part_records d at others)
parts_deeper [] l d at = tt
parts_deeper (a ∷ others) l d at = (
  (λ (z : ◌≡◌ {A = ℕ} 9 2). absurd (omega (arith, z))),
  ((λ (z : ◌≡◌ {A = ℕ} 10 2). absurd (omega (arith, z))), parts_deeper others l d (at + size (written_attribute a))),
)

leaf_deeper : (x : Leaf) (l at : ℕ) → Each (Deeper l) (leaf_records l at x)
leaf_deeper (Leaf.text ps) zero at = tt
leaf_deeper (Leaf.text ps) (suc l) at =
    each_cut (Deeper (suc l)) 5 l at (size (written_pieces ps)) (λ m o i (z : ◌≡◌ {A = ℕ} 5 2). absurd (omega (arith, z)))
leaf_deeper (Leaf.cdata cs) l at =
    each_cut (Deeper l) 11 (depth_at l) (at + 9) (size cs) (λ m o i (z : ◌≡◌ {A = ℕ} 11 2). absurd (omega (arith, z)))
leaf_deeper (Leaf.comment cs) l at = ((λ (z : ◌≡◌ {A = ℕ} 6 2). absurd (omega (arith, z))), tt)
leaf_deeper (Leaf.instruction i) l at = ((λ (z : ◌≡◌ {A = ℕ} 7 2). absurd (omega (arith, z))), ((λ (z : ◌≡◌ {A = ℕ} 8 2). absurd (omega (arith, z))), tt))
leaf_deeper (Leaf.declaration d) l at = parts_deeper (declaration_attributes d) l (depth_at l) (at + 5)
leaf_deeper (Leaf.doctype d) l at = ((λ (z : ◌≡◌ {A = ℕ} 12 2). absurd (omega (arith, z))), tt)

tag_deeper : (t : Tag) (l at : ℕ) → FromLevel 1 (attributes_records l (attributes_place at t) t.attributes) → Each (Deeper l) (tag_records l at t)
tag_deeper t l at h = ((λ (z : ◌≡◌ {A = ℕ} 0 2). absurd (omega (arith, z))), attributes_deeper t.attributes l (attributes_place at t) h)

forest_deeper : (f : Forest) (l at : ℕ) → FromLevel 1 (forest_records l at f) → Each (Deeper l) (forest_records l at f)
forest_deeper done l at h = tt
forest_deeper (single x f) l at h = each_append (Deeper l) (leaf_records l at x) _ (leaf_deeper x l at) (forest_deeper f l (past_leaf at x)
    (each_right _ (leaf_records l at x) _ h))
forest_deeper (empty t f) l at h =
    each_append (Deeper l) (tag_records l at t) _ (tag_deeper t l at (each_left _ (tag_records l at t) _ h).1)
    (forest_deeper f l (past_empty at t) (each_right _ (tag_records l at t) _ h))
forest_deeper (element t inside space f) l at h =
    let within = forest_records (suc l) (past_start at t) inside in
    let prefix = each_left _ (tag_records l at t ++ within) (forest_records l (past_element at t inside space) f) h in
    each_append (Deeper l) (tag_records l at t ++ within) _
    (each_append (Deeper l) (tag_records l at t) within (tag_deeper t l at (each_left _ (tag_records l at t) within prefix).1)
    (each_more (Deeper (suc l)) (Deeper l) (λ r d z. omega (arith, d z)) within
    (forest_deeper inside (suc l) (past_start at t) (each_right _ (tag_records l at t) within prefix))))
    (forest_deeper f l (past_element at t inside space) (each_right _ (tag_records l at t ++ within) _ h))

fits_attributes : (rs : List Record) (t : Tag) (inside : Forest) (l at index past : ℕ) → Fits rs (Thing.element t inside) l at index past → (n : ℕ) →
    index < n → n < past → (record_at n rs).token ≡ 2 → level_of (record_at n rs) ≡ suc l →
    Passes (is_attribute_part (suc l)) rs (index + 1) n
fits_attributes rs t inside l at index past h n a b two level = λ k low high.
    let own = named 0 l t.name (at + 1) in
    let attrs = attributes_records l (attributes_place at t) t.attributes in
    let inner = forest_records (suc l) (past_start at t) inside in
    let count : index + suc (length (attrs ++ inner)) ≡ past = h.stops in
    let one : FromLevel 1 (attrs ++ inner) = each_more (λ r. suc l ≤ level_of r) (λ r. 1 ≤ level_of r) (λ r q. omega (arith, q))
    (attrs ++ inner) h.ends.0 in
    let split : rs ≡ (h.prefix ++ (own ∷ attrs)) ++ inner ++ h.rest = h.split ∙ ap (λ x. x ++ h.rest) (sym (append_assoc h.prefix (own ∷ attrs) inner)) in
    let near : rs ≡ h.prefix ++ (own ∷ attrs) ++ (inner ++ h.rest) = split ∙ append_assoc (h.prefix ++ (own ∷ attrs)) inner h.rest in
    let both : length (attrs ++ inner) ≡ length attrs + length inner = length-append attrs inner in
    let prefix : length (h.prefix ++ (own ∷ attrs)) ≡ index + suc (length attrs) = length-append h.prefix (own ∷ attrs)
    ∙ ap (λ x. x + suc (length attrs)) h.begins in
    elim (cases_lt n (index + suc (length attrs))) [
      | inl among ↦
          let j : ℕ = k - suc index in
          let is : k ≡ length h.prefix + suc j = omega (arith, low, h.begins) in
          let within : j < length attrs = omega (arith, low, high, among) in
          let there : record_at k rs ≡ record_at j attrs = ap (λ m. record_at m rs) is
          ∙ in_place rs h.prefix (own ∷ attrs) (inner ++ h.rest) (suc j) near (omega (arith, within)) in
          ap (is_attribute_part (suc l)) there ∙ each_record (λ r. is_attribute_part (suc l) r ≡ true) attrs j (attribute_parts t.attributes l
          (attributes_place at t) (each_left _ attrs inner one)) within
      | inr after ↦
          let j : ℕ = n - (index + suc (length attrs)) in
          let is : n ≡ length (h.prefix ++ (own ∷ attrs)) + j = omega (arith, after, prefix) in
          let within : j < length inner = omega (arith, after, b, count, both) in
          let there : record_at n rs ≡ record_at j inner = ap (λ m. record_at m rs) is
          ∙ in_place rs (h.prefix ++ (own ∷ attrs)) inner h.rest j split within in
          let deep : Deeper (suc l) (record_at j inner) =
          each_record (Deeper (suc l)) inner j (forest_deeper inside (suc l) (past_start at t) (each_right _ attrs inner one)) within in
          absurd (omega (arith, deep (ap (λ r. r.token) (sym there) ∙ two), level, ap level_of there))
    ]

pub attributes_pass : (nest : Forest) (first : ℕ) → is_nest nest ≡ true → (z : Entry) → Contains (all nest first) z → kind_of z.what ≡ kinds.Element →
    (y : Entry) → Contains (all nest first) y →
    is_attribute_thing y.what ≡ true → length y.holders ≡ suc (length z.holders) → z.index < y.index → y.index < z.past →
    Passes (is_attribute_part (suc (length z.holders))) (records nest first) (z.index + 1) y.index
attributes_pass nest first n z c k y d w l a b =
    let rs = records nest first in
    let x = element_of z.what k in
    let f : Fits rs (Thing.element x.0 x.1) (length z.holders) z.start z.index z.past =
    subst (λ v. Fits rs v (length z.holders) z.start z.index z.past) x.2 (fits_of nest first n z c) in
    let g : FirstRecordShows rs y = first_record_of_node nest first n y d in
    fits_attributes rs x.0 x.1 (length z.holders) z.start z.index z.past f y.index a b
    (attribute_token _ (g.kind ∙ ap (λ v. Some v) (attribute_kind y.what w))) (g.level ∙ l)

pub attribute_level : (level : ℕ) (r : Record) → is_attribute_part level r ≡ true → level_of r ≡ level
attribute_level level r h = eqb-true (level_of r) level (and_parts (r.token == 2 || r.token == 3 || r.token == 4) (level_of r == level) h).1

held_thing : (w : Thing) (n : ℕ) → is_attribute_thing w ≡ true → IsHeld w n → 0 < n
held_thing (Thing.root first f) n h k = absurd (false≢true h)
held_thing (Thing.element t inside) n h k = absurd (false≢true h)
held_thing (Thing.attribute a) n h k = k
held_thing (Thing.text xs) n h k = absurd (false≢true h)
held_thing (Thing.comment cs) n h k = absurd (false≢true h)
held_thing (Thing.instruction i) n h k = absurd (false≢true h)

-- an attribute is held by some element
pub attribute_held : (nest : Forest) (first : ℕ) → is_nest nest ≡ true → (e : Entry) → Contains (all nest first) e → is_attribute_thing e.what ≡ true →
    0 < length e.holders
attribute_held nest first n e c h =
    let k : KnownNode (all nest first) e = known_node nest first n e (in_nodes nest first e c (attribute_no_root e.what h)) in
    held_thing e.what (length e.holders) h k.held

-- the first record of an attribute is a part of it
pub attribute_part : (nest : Forest) (first : ℕ) → is_nest nest ≡ true → (x : Entry) → Contains (all nest first) x → is_attribute_thing x.what ≡ true →
    is_attribute_part (length x.holders) (record_at x.index (records nest first)) ≡ true
attribute_part nest first n x c h =
    let rs = records nest first in
    let f : FirstRecordShows rs x = first_record_of_node nest first n x c in
    let token : (record_at x.index rs).token ≡ 2 = attribute_token _ (f.kind ∙ ap (λ k. Some k) (attribute_kind x.what h)) in
    ap₂ (λ b d. b && d) (ap (λ t. t == 2 || t == 3 || t == 4) token) (eq-eqb _ (length x.holders) f.level)
