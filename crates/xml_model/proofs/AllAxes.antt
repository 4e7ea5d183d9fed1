-- The parent of a node by its place, and the sibling axes: so every axis by places.
use Rattle.std.proofs.Common.{◌≡◌, ℕ, Bool, true, false, List, [], ◌∷◌, refl, ap, ap₂, sym, ◌∙◌, Option, not, ◌&&◌, ◌==◌, nat_lt, eqb-true, eq-eqb, ⊎_elim, ◌⊎◌}
use Rattle.std.specs.List.{AllByRecursion as Each}
use Rattle.std.proofs.lemmas.Bool.{false≢true, and_parts, cases_Bool}
use Rattle.xml_model.specs.declared.Axis.{Axis}
use Rattle.xml_model.specs.declared.Axis.TheVariants as axes
use Rattle.xml_model.specs.Nest.{Forest}
use Rattle.xml_model.specs.Records.{records}
use Rattle.xml_model.specs.Tree.{Path, Step, step_eq, steps, steps_under, is_self, is_step, is_child, ends_in_child, later_sibling, on_axis, Entry, Thing, nodes, all, root_entry, at_first}
use Rattle.xml_model.specs.Laws.{holder_index, same_parent, by_indexes, is_child_thing, is_root_thing, HasParent, SiblingsDecide}
use Rattle.xml_model.proofs.Filters.{same_test}
use Rattle.xml_model.proofs.Each.{each_both, each_more, each_at, each_always, each_swap}
use Rattle.xml_model.proofs.Levels.{Shallow}
use Rattle.xml_model.proofs.Axes.{step_is, self_steps, step_of, child_of, Related, related, Formed, formed, axes_by_indexes}
use Rattle.xml_model.proofs.Siblings.{sibling_of, under_more, and_no, and_yes}
use Rattle.xml_model.proofs.Parents.{Named, KnownNode, ParentIn, known_each}
use Rattle.xml_model.proofs.FirstRecords.{HolderByScan, holders_by_scan}

under_true : (b : Bool) (o : Option Path) → is_step (steps_under b o) ≡ true → (b ≡ true) × (is_step o ≡ true)
under_true true o h = (refl, h)
under_true false o h = absurd (false≢true h)

self_true : (b : Bool) (o : Option Path) → is_self (steps_under b o) ≡ true → (b ≡ true) × (is_self o ≡ true)
self_true true o h = (refl, h)
self_true false o h = absurd (false≢true h)

-- a path without steps from another is the same
pub same_path : (p q : Path) → is_self (steps p q) ≡ true → p ≡ q
same_path [] [] h = refl
same_path [] (t ∷ q) h = absurd (false≢true h)
same_path (s ∷ p) [] h = absurd (false≢true h)
same_path (s ∷ p) (t ∷ q) h = let k = self_true (step_eq s t) (steps p q) h in ap₂ (λ x y. x ∷ y) (step_is s t k.0) (same_path p q k.1)

no_step_to_root : (p : Path) → is_step (steps p []) ≡ false
no_step_to_root [] = refl
no_step_to_root (s ∷ p) = refl

-- a path has at most one parent
one_parent : (r p q : Path) → is_step (steps p r) ≡ true → is_step (steps q r) ≡ true → p ≡ q
one_parent [] p q h k = absurd (false≢true (sym (no_step_to_root p) ∙ h))
one_parent (t ∷ r) [] [] h k = refl
one_parent (t ∷ []) [] (u ∷ q) h k = absurd (false≢true (sym (no_step_to_root q) ∙ (under_true (step_eq u t) (steps q []) k).1))
one_parent (t ∷ v ∷ r) [] (u ∷ q) h k = absurd (false≢true h)
one_parent (t ∷ []) (s ∷ p) [] h k = absurd (false≢true (sym (no_step_to_root p) ∙ (under_true (step_eq s t) (steps p []) h).1))
one_parent (t ∷ v ∷ r) (s ∷ p) [] h k = absurd (false≢true k)
one_parent (t ∷ r) (s ∷ p) (u ∷ q) h k =
    let a = under_true (step_eq s t) (steps p r) h in
    let b = under_true (step_eq u t) (steps q r) k in
    ap₂ (λ x y. x ∷ y) (step_is s t a.0 ∙ sym (step_is u t b.0)) (one_parent r p q a.1 b.1)

-- y is the parent of x
abbrev pub ParentDecides : Entry → Entry → Type 0
ParentDecides x y = is_step (steps y.path x.path) ≡ (not (is_root_thing x.what) && y.index == holder_index x.holders)

not_root : (w : Thing) → Named w → not (is_root_thing w) ≡ true
not_root (Thing.root first f) n = absurd n
not_root (Thing.element t inside) n = refl
not_root (Thing.attribute a) n = refl
not_root (Thing.text xs) n = refl
not_root (Thing.comment cs) n = refl
not_root (Thing.instruction i) n = refl

parent_decides : (x p y : Entry) → Named x.what → is_step (steps p.path x.path) ≡ true → p.index ≡ holder_index x.holders → Related p y → ParentDecides x y
parent_decides x p y n a h r =
    same_test (is_step (steps y.path x.path)) (y.index == holder_index x.holders)
    (λ k. let same : p.path ≡ y.path = one_parent x.path p.path y.path a k in
    let self : is_self (steps p.path y.path) ≡ true = ap (λ q. is_self (steps p.path q)) (sym same) ∙ ap is_self (self_steps p.path) in
    eq-eqb y.index (holder_index x.holders) (sym (eqb-true p.index y.index (sym r.same ∙ self)) ∙ h))
    (λ k. let self : is_self (steps p.path y.path) ≡ true = r.same ∙ eq-eqb p.index y.index (h ∙ sym (eqb-true y.index (holder_index x.holders) k)) in
    ap (λ q. is_step (steps q x.path)) (sym (same_path p.path y.path self)) ∙ a)
    ∙ sym (ap (λ b. b && y.index == holder_index x.holders) (not_root x.what n))

-- the law: of each two nodes
pub parents_decide : (nest : Forest) (first : ℕ) → Shallow 0 nest → Each (λ x. Each (ParentDecides x) (all nest first)) (all nest first)
unfolding all
parents_decide nest first s =
    let es = all nest first in
    let rest = nodes (at_first first) nest in (
      each_always (ParentDecides (root_entry nest first)) (λ y. no_step_to_root y.path) es,
      each_more (KnownNode es) (λ x. Each (ParentDecides x) es)
          (λ x k. each_more (Related k.parent.parent) (ParentDecides x) (λ y r. parent_decides x k.parent.parent y k.names k.parent.above k.parent.index r) es (each_at (λ p. Each (Related p) es) es k.parent.parent (related nest first) k.parent.there))
          rest (known_each nest first s),
    )

-- the law: every node but the root has a parent, where the scan backwards finds it
abbrev pub ParentThere : Forest → ℕ → Entry → Type 0
ParentThere nest first x = is_root_thing x.what ≡ false → HasParent nest first x

not_false : (b : Bool) → not b ≡ true → b ≡ false
not_false true h = absurd (false≢true h)
not_false false h = refl

pub parents_there : (nest : Forest) (first : ℕ) → Shallow 0 nest → Each (ParentThere nest first) (all nest first)
unfolding all on_axis
parents_there nest first s =
    let es = all nest first in
    let holders = holders_by_scan nest first s in (
      λ r. absurd (false≢true (sym r)),
      each_both (KnownNode es) (HolderByScan (records nest first)) (ParentThere nest first)
          (λ x k h r. record { parent = k.parent.parent; there = k.parent.there; above = k.parent.above; index = k.parent.index ∙ sym h })
          (nodes (at_first first) nest) (known_each nest first s) holders.1,
    )

-- Siblings.

-- a child is one step away, and its last step is a child step
child_is : (z y : Path) → is_child (steps z y) ≡ (is_step (steps z y) && ends_in_child y)
child_is z y = child_of z y ∙ sym (ap (λ b. b && ends_in_child y) (step_of z y))

not_later : (p q : Path) → ends_in_child p ≡ false → later_sibling p q ≡ false
not_later [] q h = refl
not_later (Step.child i ∷ []) q h = absurd (false≢true (sym h))
not_later (Step.attribute i ∷ []) [] h = refl
not_later (Step.attribute i ∷ []) (t ∷ q) h = and_no (step_eq (Step.attribute i) t)
not_later (s ∷ u ∷ p) [] h = nothing s
  where
    nothing : (s : Step) → later_sibling (s ∷ u ∷ p) [] ≡ false
    nothing (Step.child i) = refl
    nothing (Step.attribute i) = refl
not_later (s ∷ u ∷ p) (t ∷ q) h = under_more s u p t q ∙ ap (λ b. step_eq s t && b) (not_later (u ∷ p) q h) ∙ and_no (step_eq s t)

-- a child is not the root
pub child_first : (w : Thing) (b : Bool) → ((not (is_root_thing w) && b) && is_child_thing w) ≡ (is_child_thing w && b)
child_first (Thing.root first f) b = refl
child_first (Thing.attribute a) b = and_no b
child_first (Thing.element t inside) b = and_yes b
child_first (Thing.text xs) b = and_yes b
child_first (Thing.comment cs) b = and_yes b
child_first (Thing.instruction i) b = and_yes b

abbrev pub LaterDecides : Entry → Entry → Type 0
LaterDecides x y = later_sibling x.path y.path ≡ (same_parent x y && nat_lt x.index y.index)

-- y is a child of the parent of x
child_of_parent : (x z y : Entry) → Formed y → ParentDecides y z → z.index ≡ holder_index x.holders → is_child (steps z.path y.path) ≡ (is_child_thing y.what && holder_index x.holders == holder_index y.holders)
child_of_parent x z y g t h =
    child_is z.path y.path ∙ ap₂ (λ b c. b && c) (t ∙ ap (λ n. not (is_root_thing y.what) && n == holder_index y.holders) h) g.child ∙ child_first y.what (holder_index x.holders == holder_index y.holders)

later_decides : (x z y : Entry) → is_child_thing x.what ≡ true → Formed x → Formed y → is_step (steps z.path x.path) ≡ true → z.index ≡ holder_index x.holders → ParentDecides y z → Related x y → LaterDecides x y
later_decides x z y c f g a h t r =
    let child : is_child (steps z.path x.path) ≡ true = child_is z.path x.path ∙ ap₂ (λ b d. b && d) a (f.child ∙ c) in
    sibling_of z.path x.path y.path child ∙ ap₂ (λ b d. b && d) (child_of_parent x z y g t h) r.order
    ∙ sym (ap (λ b. ((b && is_child_thing y.what) && holder_index x.holders == holder_index y.holders) && nat_lt x.index y.index) c)

never_later : (x y : Entry) → is_child_thing x.what ≡ false → Formed x → LaterDecides x y
never_later x y c f =
    not_later x.path y.path (f.child ∙ c) ∙ sym (ap (λ b. ((b && is_child_thing y.what) && holder_index x.holders == holder_index y.holders) && nat_lt x.index y.index) c)

later_of : (es : List Entry) (x : Entry) (k : ParentIn es x) → Formed x → (is_child_thing x.what ≡ true) ⊎ (is_child_thing x.what ≡ false) → Each Formed es → Each (Related x) es → Each (λ y. ParentDecides y k.parent) es → Each (LaterDecides x) es
later_of es x k f c forms relations parents =
    ⊎_elim
    (λ t. each_both (λ y. Formed y × Related x y) (λ y. ParentDecides y k.parent) (LaterDecides x) (λ y g p. later_decides x k.parent y t f g.0 k.above k.index p g.1) es
    (each_both Formed (Related x) (λ y. Formed y × Related x y) (λ y a b. (a, b)) es forms relations) parents)
    (λ n. each_always (LaterDecides x) (λ y. never_later x y n f) es) c

-- the law: later siblings by places
pub later_each : (nest : Forest) (first : ℕ) → Shallow 0 nest → Each (λ x. Each (LaterDecides x) (all nest first)) (all nest first)
unfolding all
later_each nest first s =
    let es = all nest first in
    let rest = nodes (at_first first) nest in
    let forms = formed nest first in
    let relations = related nest first in
    let parents = parents_decide nest first s in (
      each_always (LaterDecides (root_entry nest first)) (λ y. never_later (root_entry nest first) y refl forms.0) es,
      each_both (λ x. KnownNode es x × Formed x) (λ x. Each (Related x) es) (λ x. Each (LaterDecides x) es)
          (λ x k r. later_of es x k.0.parent k.1 (cases_Bool (is_child_thing x.what)) forms r (each_more (λ y. Each (ParentDecides y) es) (λ y. ParentDecides y k.0.parent.parent) (λ y t. each_at (ParentDecides y) es k.0.parent.parent t k.0.parent.there) es parents))
          rest (each_both (KnownNode es) Formed (λ x. KnownNode es x × Formed x) (λ x a b. (a, b)) rest (known_each nest first s) forms.1) relations.1,
    )

abbrev pub AxisDecides : Axis → Entry → Entry → Type 0
AxisDecides axis x y = on_axis axis x.path y.path ≡ by_indexes axis x y

eqb_comm : (m n : ℕ) → (m == n) ≡ (n == m)
eqb_comm m n = same_test (m == n) (n == m) (λ h. eq-eqb n m (sym (eqb-true m n h))) (λ h. eq-eqb m n (sym (eqb-true n m h)))

same_back : (x y : Entry) → same_parent x y ≡ same_parent y x
same_back x y = ap₂ (λ b c. b && c) (and_comm (is_child_thing x.what) (is_child_thing y.what)) (eqb_comm (holder_index x.holders) (holder_index y.holders))
  where
    and_comm : (b c : Bool) → (b && c) ≡ (c && b)
    and_comm true true = refl
    and_comm true false = refl
    and_comm false true = refl
    and_comm false false = refl

-- the law: every axis of every node by places
pub all_axes : (nest : Forest) (first : ℕ) → Shallow 0 nest → (axis : Axis) → Each (λ x. Each (AxisDecides axis x) (all nest first)) (all nest first)
unfolding on_axis
all_axes nest first s axes.Itself = axes_by_indexes nest first axes.Itself refl
all_axes nest first s axes.Parent = axes_by_indexes nest first axes.Parent refl
all_axes nest first s axes.Ancestor = axes_by_indexes nest first axes.Ancestor refl
all_axes nest first s axes.AncestorOrSelf = axes_by_indexes nest first axes.AncestorOrSelf refl
all_axes nest first s axes.Child = axes_by_indexes nest first axes.Child refl
all_axes nest first s axes.Attribute = axes_by_indexes nest first axes.Attribute refl
all_axes nest first s axes.Descendant = axes_by_indexes nest first axes.Descendant refl
all_axes nest first s axes.DescendantOrSelf = axes_by_indexes nest first axes.DescendantOrSelf refl
all_axes nest first s axes.Following = axes_by_indexes nest first axes.Following refl
all_axes nest first s axes.Preceding = axes_by_indexes nest first axes.Preceding refl
all_axes nest first s axes.FollowingSibling = later_each nest first s
all_axes nest first s axes.PrecedingSibling =
    let es = all nest first in
    each_more (λ x. Each (λ y. LaterDecides y x) es) (λ x. Each (AxisDecides axes.PrecedingSibling x) es)
    (λ x h. each_more (λ y. LaterDecides y x) (AxisDecides axes.PrecedingSibling x) (λ y k. k ∙ ap (λ b. b && nat_lt y.index x.index) (same_back y x)) es h)
    es (each_swap LaterDecides es es (later_each nest first s))

-- the siblings of a child, from its parent z
pub siblings_decide : (z x y : Entry) → Formed x → Formed y → ParentDecides x z → ParentDecides y z → AxisDecides axes.Child z y → AxisDecides axes.FollowingSibling x y → AxisDecides axes.PrecedingSibling x y →
    on_axis axes.Child z.path x.path ≡ true → SiblingsDecide z x y
unfolding on_axis
siblings_decide z x y f g t u a b c h =
    let k = and_parts (is_step (steps z.path x.path)) (ends_in_child x.path) (sym (child_is z.path x.path) ∙ h) in
    let child : is_child_thing x.what ≡ true = sym f.child ∙ k.1 in
    let index : z.index ≡ holder_index x.holders = eqb-true z.index (holder_index x.holders) (and_parts (not (is_root_thing x.what)) (z.index == holder_index x.holders) (sym t ∙ k.0)).1 in
    let same : same_parent x y ≡ by_indexes axes.Child z y =
    ap (λ d. (d && is_child_thing y.what) && holder_index x.holders == holder_index y.holders) child ∙ sym (child_of_parent x z y g u index) ∙ a in
    record {
      following = b ∙ ap (λ d. d && nat_lt x.index y.index) same;
      preceding = c ∙ ap (λ d. d && nat_lt y.index x.index) same;
    }
