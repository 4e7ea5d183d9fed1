-- Records by their level: the number of elements that hold what the record is of.
use Rattle.std.proofs.Common.{◌≡◌, ℕ, zero, suc, ◌+◌, ◌≤◌, Bool, true, false, cond, List, [], ◌∷◌, refl, ap, sym, arith, eqb, le_refl, ne_eqb, subst, ◌==◌}
use Rattle.std.specs.Prelude.{⊤}
use Rattle.std.specs.List.{AllByRecursion as Each}
use Rattle.xml_model.specs.Chars.{size}
use Rattle.xml_model.specs.Items.{Attribute, Leaf, written_attribute, written_pieces}
use Rattle.xml_model.specs.Nest.{Forest, done, single, empty, element}
use Rattle.xml_model.specs.Records.{Record, named, name_token, declares, attributes_records, declaration_part_records, declaration_attributes, leaf_records, text_records, depth_at, forest_records}
use Rattle.xml_model.proofs.Cuts.{each_cut}
pub use Rattle.xml_model.specs.Scan.{level_of}
use Rattle.xml_model.proofs.Each.{each_append, each_more}

-- every element's depth is at most 254, at this level
abbrev pub Shallow : ℕ → Forest → Type 0
Shallow l done = ⊤
Shallow l (single x f) = Shallow l f
Shallow l (empty t f) = (l ≤ 254) × Shallow l f
Shallow l (element t inside space f) = (l ≤ 254) × Shallow (suc l) inside × Shallow l f

pub shown_level : (d : ℕ) → d ≤ 254 → cond (d == 255) 0 (suc d) ≡ suc d
shown_level d h = let e : eqb d 255 ≡ false = ne_eqb d 255 (λ k. omega arith) in ap (λ b. cond b 0 (suc d)) e

pub level_at : (l : ℕ) → l ≤ 255 → cond (depth_at l == 255) 0 (suc (depth_at l)) ≡ l
level_at zero h = refl
level_at (suc d) h = shown_level d (omega arith)

-- records from a level on
abbrev pub FromLevel : ℕ → List Record → Type 0
FromLevel l rs = Each (λ r. l ≤ level_of r) rs

text_from : (l : ℕ) (rs : List Record) → FromLevel l rs → FromLevel l (text_records l rs)
text_from zero rs k = tt
text_from (suc l) rs k = k

tokens_from : (others : List Attribute) (l at d : ℕ) → l ≤ cond (d == 255) 0 (suc d) → FromLevel l (declaration_part_records d at others)
tokens_from [] l at d k = tt
tokens_from (a ∷ others) l at d k = (k, (k, tokens_from others l _ d k))

pub leaf_from : (l at : ℕ) (x : Leaf) → l ≤ 255 → FromLevel l (leaf_records l at x)
leaf_from l at x h = by x
  where
    enough : l ≤ cond (depth_at l == 255) 0 (suc (depth_at l))
    enough = subst (λ (n : ℕ). l ≤ n) (sym (level_at l h)) (le_refl l)

    by : (x : Leaf) → FromLevel l (leaf_records l at x)
    by (Leaf.text ps) = text_from l _ (each_cut (λ r. l ≤ level_of r) 5 (depth_at l) at (size (written_pieces ps)) (λ m o i. enough))
    by (Leaf.cdata cs) = each_cut (λ r. l ≤ level_of r) 11 (depth_at l) (at + 9) (size cs) (λ m o i. enough)
    by (Leaf.comment cs) = (enough, tt)
    by (Leaf.instruction i) = (enough, (enough, tt))
    by (Leaf.declaration d) = tokens_from (declaration_attributes d) l (at + 5) (depth_at l) enough
    by (Leaf.doctype d) = (enough, tt)

name_level : (name : List ℕ) (d o : ℕ) → d ≤ 254 → level_of (named (name_token name) d name o) ≡ suc d
name_level name d o h = by (declares name)
  where
    by : (b : Bool) → cond (cond b 3 2 == 0) d (cond (d == 255) 0 (suc d)) ≡ suc d
    by true = shown_level d h
    by false = shown_level d h

pub attributes_from : (others : List Attribute) (d at : ℕ) → d ≤ 254 → FromLevel (suc d) (attributes_records d at others)
attributes_from [] d at h = tt
attributes_from (a ∷ others) d at h =
    let name : suc d ≤ level_of (named (name_token a.name) d a.name (at + size a.space)) = subst (λ (n : ℕ). suc d ≤ n) (sym (name_level a.name d (at + size a.space) h)) (le_refl _) in
    let value : suc d ≤ cond (d == 255) 0 (suc d) = subst (λ (n : ℕ). suc d ≤ n) (sym (shown_level d h)) (le_refl _) in
    (name, (value, attributes_from others d (at + size (written_attribute a)) h))

pub deeper : (l : ℕ) (rs : List Record) → FromLevel (suc l) rs → FromLevel l rs
deeper l rs h = each_more _ _ (λ r k. omega (arith, k)) rs h

-- each record of a list of pieces is at the pieces' level or deeper
pub forest_from : (f : Forest) (l at : ℕ) → l ≤ 255 → Shallow l f → FromLevel l (forest_records l at f)
forest_from done l at h s = tt
forest_from (single x f) l at h s = each_append _ _ _ (leaf_from l at x h) (forest_from f l _ h s)
forest_from (empty t f) l at h s = (le_refl l, each_append _ _ _ (deeper l _ (attributes_from _ l _ s.0)) (forest_from f l _ h s.1))
forest_from (element t inside space f) l at h s =
    (le_refl l, each_append _ _ _ (each_append _ _ _ (deeper l _ (attributes_from _ l _ s.0)) (deeper l _ (forest_from inside (suc l) _ (omega arith) s.1))) (forest_from f l _ h s.2))
