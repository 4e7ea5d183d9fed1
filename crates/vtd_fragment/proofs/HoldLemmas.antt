-- Which elements reach a node, by indexes: those at whose records, or after them and before their ends, the node's
-- record is.
use Rattle.std.proofs.Common.{◌≡◌, ℕ, zero, suc, ◌<◌, true, false, inl, inr, List, [], ◌∷◌, ◌++◌, ap, sym, ◌∙◌, subst, arith, Option, Some, ◌==◌, eqb-true}
use Rattle.std.specs.Prelude.{Contains}
use Rattle.std.proofs.lemmas.Bool.{false_from_ne_true, and_parts, cases_lt}
use Rattle.xml_model.specs.declared.Axis.TheVariants as axes
use Rattle.xml_model.specs.declared.Kind.{Kind}
use Rattle.xml_model.specs.declared.Kind.TheVariants as kinds
use Rattle.xml_model.specs.Items.{Tag}
use Rattle.xml_model.specs.Laws.{is_root_thing, is_under, nodes_above, holder_index}
use Rattle.xml_model.specs.Nest.{Forest, is_nest}
use Rattle.xml_model.specs.Records.{records}
use Rattle.xml_model.specs.Scan.{record_at, kind_of_token}
use Rattle.xml_model.specs.Tree.{Thing, Entry, Holder, all, kind_of}
use Rattle.xml_model.proofs.Indexes.{one_node}
use Rattle.xml_model.proofs.Inside.{kind_of_first, root_first}
use Rattle.xml_model.proofs.NodeLaws.{parent_there, holder_of_node, axis_of_two, first_record_of_node}
use Rattle.xml_model.proofs.TreeOrder.{in_order, more_above, under_is, under_within}
use Rattle.vtd_namespaces.specs.Scope.{Chain}

pub no_root : (what : Thing) (t : Tag) (inside : Forest) → what ≡ Thing.element t inside → is_root_thing what ≡ false
no_root what t inside e = ap is_root_thing e

-- the parent of a node that is not the root
record ParentOf (nest : Forest) (first : ℕ) (x : Entry) : Type 0 where
  parent : Entry
  there : Contains (all nest first) parent
  index : parent.index ≡ holder_index x.holders
  under : is_under parent x ≡ true
  next : nodes_above x ≡ suc (nodes_above parent)

parent_of : (nest : Forest) (first : ℕ) → is_nest nest ≡ true → (x : Entry) → Contains (all nest first) x → is_root_thing x.what ≡ false → ParentOf nest first x
parent_of nest first n x c r =
    let p = parent_there nest first n x c r in
    let o = and_parts (is_under p.parent x) (nodes_above x == suc (nodes_above p.parent)) (sym (axis_of_two nest first n axes.Parent x p.parent c p.there) ∙ p.above) in
    record {
      parent = p.parent;
      there = p.there;
      index = p.index ∙ holder_of_node nest first n x c;
      under = o.0;
      next = eqb-true (nodes_above x) (suc (nodes_above p.parent)) o.1;
    }

-- an element with the tag and the index of a holder, above a node
pub record Above (nest : Forest) (first : ℕ) (h : Holder) (x : Entry) : Type 0 where
  pub entry : Entry
  pub there : Contains (all nest first) entry
  pub inside : Forest
  pub what : entry.what ≡ Thing.element h.tag inside
  pub index : entry.index ≡ h.index
  pub under : is_under entry x ≡ true

-- what holds a node is above it
pub holder_above : (nest : Forest) (first : ℕ) → is_nest nest ≡ true → (near far : List Holder) (h : Holder) (x : Entry) → Contains (all nest first) x → is_root_thing x.what ≡ false →
    x.holders ≡ near ++ h ∷ far → Chain (all nest first) (near ++ h ∷ far) → Above nest first h x
holder_above nest first n [] far h x c r e k =
    let p = parent_of nest first n x c r in
    let y = k.0 in
    let same : p.parent ≡ y.entry = one_node nest first p.parent y.entry p.there y.there (p.index ∙ ap holder_index e ∙ sym y.index) in
    record { entry = y.entry; there = y.there; inside = y.inside; what = y.what; index = y.index; under = subst (λ (z : Entry). is_under z x ≡ true) same p.under }
holder_above nest first n (g ∷ near) far h x c r e k =
    let p = parent_of nest first n x c r in
    let y = k.0 in
    let same : p.parent ≡ y.entry = one_node nest first p.parent y.entry p.there y.there (p.index ∙ ap holder_index e ∙ sym y.index) in
    let up = subst (λ (z : Entry). is_under z x ≡ true) same p.under in
    let a = holder_above nest first n near far h y.entry y.there (no_root y.entry.what g.tag y.inside y.what) y.holders k.1 in
    record { entry = a.entry; there = a.there; inside = a.inside; what = a.what; index = a.index; under = (in_order nest first n).on a.entry y.entry x a.there y.there c a.under up }

-- an element is no first record
element_later : (nest : Forest) (first : ℕ) → is_nest nest ≡ true → (y : Entry) → Contains (all nest first) y → kind_of y.what ≡ kinds.Element → y.index ≡ 0 → ⊥
element_later nest first n y c k z =
    let f = first_record_of_node nest first n y c in
    let e : ◌≡◌ {A = Option Kind} (Some kinds.Root) (Some kinds.Element) = sym (kind_of_first nest first) ∙ ap (λ m. kind_of_token (record_at m (records nest first)).token) (sym z) ∙ f.kind ∙ ap (λ q. Some q) k in
    cc

no_first : (nest : Forest) (first : ℕ) → is_nest nest ≡ true → (x : Entry) → Contains (all nest first) x → 0 < x.index → is_root_thing x.what ≡ false
no_first nest first n x d l = false_from_ne_true (is_root_thing x.what) (λ r. omega (arith, root_first nest first n x d r, l))

-- a parent is not above an element that is above its child
lower_not : (nest : Forest) (first : ℕ) (y x z : Entry) → Contains (all nest first) y → Contains (all nest first) x → Contains (all nest first) z → nodes_above x ≡ suc (nodes_above z) →
    is_under y x ≡ true → is_under z x ≡ true → z.index < y.index → ⊥
lower_not nest first y x z c d b next u v lower =
    let w = under_within y x u in
    let q = under_within z x v in
    omega (arith, next, more_above nest first y x c d u, more_above nest first z y b c (under_is z y lower (omega (arith, w.0, q.1))))

-- an element among the holders of a node
pub record Among (y x : Entry) : Type 0 where
  pub near : List Holder
  pub far : List Holder
  pub holder : Holder
  pub split : x.holders ≡ near ++ holder ∷ far
  pub index : y.index ≡ holder.index
  pub inside : Forest
  pub what : y.what ≡ Thing.element holder.tag inside

-- an element above a node holds it
pub above_holds : (nest : Forest) (first : ℕ) → is_nest nest ≡ true → (bound : ℕ) (y x : Entry) → Contains (all nest first) y → Contains (all nest first) x → kind_of y.what ≡ kinds.Element →
    (hs : List Holder) → x.holders ≡ hs → Chain (all nest first) hs → x.index < bound → is_under y x ≡ true → Among y x
above_holds nest first n zero y x c d k hs e ch l u = absurd (omega (arith, l))
above_holds nest first n (suc bound) y x c d k [] e ch l u =
    let w = under_within y x u in
    let p = parent_of nest first n x d (no_first nest first n x d (omega (arith, w.0))) in
    let v = under_within p.parent x p.under in
    let zero : p.parent.index ≡ 0 = p.index ∙ ap holder_index e in
    elim (cases_lt p.parent.index y.index) [
      | inl lower ↦ absurd (lower_not nest first y x p.parent c d p.there p.next u p.under lower)
      | inr not_lower ↦ absurd (element_later nest first n y c k (omega (arith, zero, not_lower)))
    ]
above_holds nest first n (suc bound) y x c d k (h ∷ hs) e ch l u =
    let w = under_within y x u in
    let p = parent_of nest first n x d (no_first nest first n x d (omega (arith, w.0))) in
    let z = ch.0 in
    let same : p.parent ≡ z.entry = one_node nest first p.parent z.entry p.there z.there (p.index ∙ ap holder_index e ∙ sym z.index) in
    let up = subst (λ (q : Entry). is_under q x ≡ true) same p.under in
    let next = subst (λ (q : Entry). nodes_above x ≡ suc (nodes_above q)) same p.next in
    let v = under_within z.entry x up in
    elim (cases_lt z.entry.index y.index) [
      | inl lower ↦ absurd (lower_not nest first y x z.entry c d z.there next u up lower)
      | inr not_lower ↦ elim (cases_lt y.index z.entry.index) [
        | inl above ↦
            let a = above_holds nest first n bound y z.entry c z.there k hs z.holders ch.1 (omega (arith, v.0, l)) (under_is y z.entry above (omega (arith, v.0, w.1))) in
            record { near = h ∷ a.near; far = a.far; holder = a.holder; split = e ∙ ap (λ (q : List Holder). h ∷ q) (sym z.holders ∙ a.split); index = a.index; inside = a.inside; what = a.what }
        | inr not_above ↦
            let is : y ≡ z.entry = one_node nest first y z.entry c z.there (omega (arith, not_lower, not_above)) in
            record { near = []; far = hs; holder = h; split = e; index = ap (λ (q : Entry). q.index) is ∙ z.index; inside = z.inside; what = ap (λ (q : Entry). q.what) is ∙ z.what }
      ]
    ]
