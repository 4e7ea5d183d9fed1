-- The ends of the axes of a node, as the walks find them.
use Rattle.std.proofs.Common.{◌≡◌, ℕ, suc, ◌+◌, ◌<◌, ◌≤◌, Bool, true, false, cond, not, ◌&&◌, ◌||◌, ◌==◌, List, [], ◌∷◌, length, filter, refl, ap, ap₂}
use Rattle.std.proofs.Common.{sym, ◌∙◌, subst, arith, Option, Some, None, IsNone, IfSome, inl, inr, nat_lt, lt-ltb, ltb-true, eqb-true, leb-true}
use Rattle.std.specs.List.{Contains}
use Rattle.std.proofs.lemmas.Bool.{cases_lt, false≢true, and_parts, and_from}
use Rattle.xml_model.specs.declared.Kind.{Kind}
use Rattle.xml_model.specs.declared.Kind.TheVariants as kinds
use Rattle.xml_model.specs.declared.Node.{Node}
use Rattle.xml_model.specs.declared.Axis.TheVariants as axes
use Rattle.xml_model.specs.Items.{first_place}
use Rattle.xml_model.specs.Nest.{Forest}
use Rattle.xml_model.specs.Records.{Record, records}
use Rattle.xml_model.specs.Tree.{Thing, Entry, Identifies, before, kind_of, on_axis, axis_list}
use Rattle.xml_model.specs.Scan.{level_of, record_at, holder_by_scan, Passes, is_within, is_attribute_part}
use Rattle.xml_model.specs.Laws.{IndexesDecide, nodes_above, is_child_thing, is_attribute_thing, is_root_thing, is_under, is_one_under, same_parent}
use Rattle.xml_model.specs.Laws.{holder_index, by_indexes}
use Rattle.xml_model.proofs.NodeLaws.{axis_of_two, places_of_two, siblings_of_child, parent_of_node}
use Rattle.vtd_words.specs.Lists.{Lists}
use Rattle.vtd_words.specs.Table.{IsNestOf, IsParent, node_of, nodes_of}
use Rattle.vtd_cursor.specs.Moves.{first_of, last_of}
use Rattle.vtd_cursor.specs.Searches.{IsWanted, FirstFrom, LastBefore}
use Rattle.vtd_cursor.proofs.AxisEnds.{first_is}
use Rattle.xml_model.proofs.Filters.{none_of}
use Rattle.vtd_cursor.proofs.Families.{Meets, first_meets, last_meets}
use Rattle.xml_model.proofs.Inside.{Holds, Keeps, OneUnder, one_under_out, one_under_back, nested, above_held, above_root, root_first, records_show}
use Rattle.xml_model.proofs.Inside.{keeps, held_by, element_holds, root_holds, holds_by_kind, child_after, under_kind, later_after}
use Rattle.xml_model.proofs.Things.{child_no_root, attribute_no_root, root_kind, no_root_element, attribute_kind, kind_root}
use Rattle.xml_model.proofs.AttributeRuns.{attributes_pass, attribute_held}

within_low : (level : ℕ) (r : Record) → is_within level r ≡ true → level ≤ level_of r
within_low level r h = leb-true level (level_of r) h

part_low : (level : ℕ) (r : Record) → is_attribute_part level r ≡ true → level ≤ level_of r
part_low level r h = omega (arith, eqb-true (level_of r) level (and_parts (r.token == 2 || r.token == 3 || r.token == 4) (level_of r == level) h).1)

-- records in a node pass
inside_pass : (rs : List Record) (z : Entry) (level from to : ℕ) → Holds rs z level → z.index < from → to ≤ z.past → Passes (is_within level) rs from to
inside_pass rs z level from to h a b = λ k low high. Rattle.std.proofs.lemmas.Bool.le-leb level (level_of (record_at k rs)) (h.inside k
    (omega (arith, a, low)) (omega (arith, b, high)))

-- Tests.

-- a child or an attribute of z, after an index
abbrev WantedUnder : (Thing → Bool) → Entry → Entry → Bool
WantedUnder want z y = is_one_under z y && want y.what

under_meets : (P : Entry → Bool) (want : Thing → Bool) (es : List Entry) (z : Entry) (level : ℕ) → nodes_above z ≡ level →
    ((w : Thing) → want w ≡ true → is_root_thing w ≡ false) → ((y : Entry) → Contains es y → P y ≡ WantedUnder want z y) →
    Meets P want es z level (suc z.index) z.past
under_meets P want es z level a r e = record {
  out = λ y c p.
      let q = and_parts (is_one_under z y) (want y.what) (sym (e y c) ∙ p) in
      let o = one_under_out z y level a (r y.what q.1) q.0 in
      (record { held = o.held; wanted = q.1 }, o.after, o.before);
  back = λ y c w f t. e y c ∙ and_from (is_one_under z y) (want y.what) (one_under_back z y level a (r y.what w.wanted)
      (record { after = f; before = t; held = w.held })) w.wanted;
}

meets_suc : (P : Entry → Bool) (want : Thing → Bool) (es : List Entry) (z : Entry) (level from to n : ℕ) → from ≡ n → Meets P want es z level from to →
    Meets P want es z level n to
meets_suc P want es z level from to n e m = subst (λ k. Meets P want es z level k to) e m

-- The children of a node.

pub first_child_is : (bytes : List ℕ) (lists : Lists) (nest : Forest) → IsNestOf bytes lists nest → (z : Entry) → Contains (nodes_of bytes nest) z →
    (level from : ℕ) → Holds (records nest (first_place bytes)) z level → from ≡ suc z.index → (o : Option Node) →
    FirstFrom (is_within level) is_child_thing level (records nest (first_place bytes)) (nodes_of bytes nest) from o →
    o ≡ first_of (axis_list axes.Child z.path (nodes_of bytes nest))
unfolding axis_list
first_child_is bytes lists nest s z c level from h e o f =
    let first = first_place bytes in
    let rs = records nest first in
    let es = nodes_of bytes nest in
    let P : Entry → Bool = λ y. on_axis axes.Child z.path y.path in
    let m : Meets P is_child_thing es z level from z.past =
    meets_suc P is_child_thing es z level (suc z.index) z.past from (sym e)
    (under_meets P is_child_thing es z level h.above child_no_root (λ y d. axis_of_two nest first s.accepted.document.nests axes.Child z y c d)) in
    first_meets P is_child_thing (is_within level) rs es z level from (records_show nest (first_place bytes) s.accepted.document.nests) h
    (omega (arith, e, h.some)) m (within_low level)
    (λ y d p. inside_pass rs z level from y.index h (omega (arith, e)) (omega (arith, (m.out y d p).2))) o f

pub last_child_is : (bytes : List ℕ) (lists : Lists) (nest : Forest) → IsNestOf bytes lists nest → (z : Entry) → Contains (nodes_of bytes nest) z →
    (level end : ℕ) → Holds (records nest (first_place bytes)) z level → end ≡ z.past → (o : Option Node) →
    LastBefore (is_within level) is_child_thing level (records nest (first_place bytes)) (nodes_of bytes nest) end o →
    o ≡ last_of (axis_list axes.Child z.path (nodes_of bytes nest))
unfolding axis_list
last_child_is bytes lists nest s z c level end h e o f =
    let first = first_place bytes in
    let rs = records nest first in
    let es = nodes_of bytes nest in
    let P : Entry → Bool = λ y. on_axis axes.Child z.path y.path in
    let m : Meets P is_child_thing es z level (suc z.index) end =
    subst (λ n. Meets P is_child_thing es z level (suc z.index) n) (sym e)
    (under_meets P is_child_thing es z level h.above child_no_root (λ y d. axis_of_two nest first s.accepted.document.nests axes.Child z y c d)) in
    last_meets P is_child_thing (is_within level) rs es z level end (records_show nest (first_place bytes) s.accepted.document.nests) h
    (omega (arith, e, h.some)) (omega (arith, e)) m (child_after nest (first_place bytes) s.accepted.document.nests) (within_low level)
    (λ y d p. inside_pass rs z level (suc y.index) end h (omega (arith, (m.out y d p).1)) (omega (arith, e))) o f

pub no_children : (bytes : List ℕ) (lists : Lists) (nest : Forest) → IsNestOf bytes lists nest → (z : Entry) → Contains (nodes_of bytes nest) z →
    (kind_of z.what ≡ kinds.Root → ⊥) → (kind_of z.what ≡ kinds.Element → ⊥) →
    axis_list axes.Child z.path (nodes_of bytes nest) ≡ []
unfolding axis_list
no_children bytes lists nest s z c k l = none_of (λ y. on_axis axes.Child z.path y.path) (nodes_of bytes nest) (λ y d p.
    let q = and_parts (is_one_under z y) (is_child_thing y.what)
    (sym (axis_of_two nest (first_place bytes) s.accepted.document.nests axes.Child z y c d) ∙ p) in
    elim (under_kind nest (first_place bytes) s.accepted.document.nests z y c d (and_parts (is_under z y) _ q.0).0) [
      | inl root ↦ k (root_kind z.what root)
      | inr tag ↦ l tag
    ])

pub no_child_first : (bytes : List ℕ) (lists : Lists) (nest : Forest) → IsNestOf bytes lists nest → (z : Entry) → Contains (nodes_of bytes nest) z →
    (kind_of z.what ≡ kinds.Root → ⊥) → (kind_of z.what ≡ kinds.Element → ⊥) →
    None ≡ first_of (axis_list axes.Child z.path (nodes_of bytes nest))
no_child_first bytes lists nest s z c k l = sym (ap first_of (no_children bytes lists nest s z c k l))

pub no_child_last : (bytes : List ℕ) (lists : Lists) (nest : Forest) → IsNestOf bytes lists nest → (z : Entry) → Contains (nodes_of bytes nest) z →
    (kind_of z.what ≡ kinds.Root → ⊥) → (kind_of z.what ≡ kinds.Element → ⊥) →
    None ≡ last_of (axis_list axes.Child z.path (nodes_of bytes nest))
no_child_last bytes lists nest s z c k l = sym (ap last_of (no_children bytes lists nest s z c k l))

-- The siblings of a node.

pub next_is : (bytes : List ℕ) (lists : Lists) (nest : Forest) → IsNestOf bytes lists nest → (e : Entry) → Contains (nodes_of bytes nest) e →
    is_child_thing e.what ≡ true → (level from : ℕ) → level ≡ length e.holders → from ≡ e.past → (o : Option Node) →
    FirstFrom (is_within level) is_child_thing level (records nest (first_place bytes)) (nodes_of bytes nest) from o →
    o ≡ first_of (axis_list axes.FollowingSibling e.path (nodes_of bytes nest))
unfolding axis_list
next_is bytes lists nest s e c w level from l b o f =
    let first = first_place bytes in
    let n = s.accepted.document.nests in
    let rs = records nest first in
    let es = nodes_of bytes nest in
    let r = child_no_root e.what w in
    let x = held_by nest (first_place bytes) s.accepted.document.nests e c r in
    let z = x.0 in
    let up : OneUnder z e (nodes_above z) = one_under_out z e (nodes_above z) refl r x.1.above in
    let same : nodes_above z ≡ level = omega (arith, up.held, l) in
    let h : Holds rs z level = subst (λ k. Holds rs z k) same x.1.holds in
    let child : on_axis axes.Child z.path e.path ≡ true = axis_of_two nest first n axes.Child z e x.1.there c ∙ and_from _ _ x.1.above w in
    let P : Entry → Bool = λ y. on_axis axes.FollowingSibling e.path y.path in
    let keep : Keeps rs e = keeps nest (first_place bytes) s.accepted.document.nests e c r in
    let decide : (y : Entry) → Contains es y → P y ≡ (by_indexes axes.Child z y && nat_lt e.index y.index) =
    λ y d. (siblings_of_child nest first n z e y x.1.there c d child).following in
    let m : Meets P is_child_thing es z level from z.past = record {
      out = λ y d p.
          let q = and_parts (by_indexes axes.Child z y) (nat_lt e.index y.index) (sym (decide y d) ∙ p) in
          let t = and_parts (is_one_under z y) (is_child_thing y.what) q.0 in
          let u : OneUnder z y level = one_under_out z y level same (child_no_root y.what t.1) t.0 in
          let after : e.past ≤ y.index = later_after nest first e y c d (omega
          (arith, above_held e r, above_held y (child_no_root y.what t.1), l, u.held)) (ltb-true e.index y.index q.1) in
          (record { held = u.held; wanted = t.1 }, omega (arith, b, after), u.before);
      back = λ y d k a t.
          decide y d ∙ and_from _ _ (and_from (is_one_under z y) (is_child_thing y.what)
          (one_under_back z y level same (child_no_root y.what k.wanted)
          (record { after = omega (arith, a, b, keep.some, up.after); before = t; held = k.held })) k.wanted)
          (lt-ltb e.index y.index (omega (arith, a, b, keep.some)));
    } in
    let ends : e.past ≤ z.past = nested rs z e level h keep (omega (arith, l)) up.before in
    first_meets P is_child_thing (is_within level) rs es z level from (records_show nest (first_place bytes) s.accepted.document.nests) h
    (omega (arith, b, ends)) m (within_low level)
    (λ y d p. inside_pass rs z level from y.index h (omega (arith, b, keep.some, up.after)) (omega (arith, (m.out y d p).2))) o f

pub previous_is : (bytes : List ℕ) (lists : Lists) (nest : Forest) → IsNestOf bytes lists nest → (e : Entry) → Contains (nodes_of bytes nest) e →
    is_child_thing e.what ≡ true → (level end : ℕ) → level ≡ length e.holders → end ≡ e.index → (o : Option Node) →
    LastBefore (is_within level) is_child_thing level (records nest (first_place bytes)) (nodes_of bytes nest) end o →
    o ≡ first_of (axis_list axes.PrecedingSibling e.path (nodes_of bytes nest))
unfolding axis_list
previous_is bytes lists nest s e c w level end l b o f =
    let first = first_place bytes in
    let n = s.accepted.document.nests in
    let rs = records nest first in
    let es = nodes_of bytes nest in
    let r = child_no_root e.what w in
    let x = held_by nest (first_place bytes) s.accepted.document.nests e c r in
    let z = x.0 in
    let up : OneUnder z e (nodes_above z) = one_under_out z e (nodes_above z) refl r x.1.above in
    let same : nodes_above z ≡ level = omega (arith, up.held, l) in
    let h : Holds rs z level = subst (λ k. Holds rs z k) same x.1.holds in
    let child : on_axis axes.Child z.path e.path ≡ true = axis_of_two nest first n axes.Child z e x.1.there c ∙ and_from _ _ x.1.above w in
    let P : Entry → Bool = λ y. on_axis axes.PrecedingSibling e.path y.path in
    let decide : (y : Entry) → Contains es y → P y ≡ (by_indexes axes.Child z y && nat_lt y.index e.index) =
    λ y d. (siblings_of_child nest first n z e y x.1.there c d child).preceding in
    let m : Meets P is_child_thing es z level (suc z.index) end = record {
      out = λ y d p.
          let q = and_parts (by_indexes axes.Child z y) (nat_lt y.index e.index) (sym (decide y d) ∙ p) in
          let t = and_parts (is_one_under z y) (is_child_thing y.what) q.0 in
          let u : OneUnder z y level = one_under_out z y level same (child_no_root y.what t.1) t.0 in
          (record { held = u.held; wanted = t.1 }, u.after, omega (arith, b, ltb-true y.index e.index q.1));
      back = λ y d k a t.
          decide y d ∙ and_from _ _ (and_from (is_one_under z y) (is_child_thing y.what)
          (one_under_back z y level same (child_no_root y.what k.wanted)
          (record { after = a; before = omega (arith, t, b, up.before); held = k.held })) k.wanted)
          (lt-ltb y.index e.index (omega (arith, t, b)));
    } in
    last_meets P is_child_thing (is_within level) rs es z level end (records_show nest (first_place bytes) s.accepted.document.nests) h
    (omega (arith, b, up.after)) (omega (arith, b, up.before)) m (child_after nest (first_place bytes) s.accepted.document.nests) (within_low level)
    (λ y d p. inside_pass rs z level (suc y.index) end h (omega (arith, (m.out y d p).1)) (omega (arith, b, up.before))) o f

-- the root and attributes have no siblings
no_sibling_pair : (e y : Entry) → is_child_thing e.what ≡ false →
    (by_indexes axes.FollowingSibling e y ≡ true → ⊥) × (by_indexes axes.PrecedingSibling e y ≡ true → ⊥)
no_sibling_pair e y h =
    let no : same_parent e y ≡ false = ap (λ b. (b && is_child_thing y.what) && holder_index e.holders == holder_index y.holders) h in
    ((λ k. false≢true (sym no ∙ (and_parts (same_parent e y) _ k).0)), (λ k. false≢true (sym no ∙ (and_parts (same_parent e y) _ k).0)))

pub no_next : (bytes : List ℕ) (lists : Lists) (nest : Forest) → IsNestOf bytes lists nest → (e : Entry) → Contains (nodes_of bytes nest) e →
    is_child_thing e.what ≡ false → None ≡ first_of (axis_list axes.FollowingSibling e.path (nodes_of bytes nest))
unfolding axis_list
no_next bytes lists nest s e c w =
    sym (ap first_of (none_of (λ y. on_axis axes.FollowingSibling e.path y.path) (nodes_of bytes nest)
    (λ y d p. (no_sibling_pair e y w).0 (sym (axis_of_two nest (first_place bytes) s.accepted.document.nests axes.FollowingSibling e y c d) ∙ p))))

pub no_previous : (bytes : List ℕ) (lists : Lists) (nest : Forest) → IsNestOf bytes lists nest → (e : Entry) → Contains (nodes_of bytes nest) e →
    is_child_thing e.what ≡ false → None ≡ first_of (axis_list axes.PrecedingSibling e.path (nodes_of bytes nest))
unfolding axis_list
no_previous bytes lists nest s e c w =
    sym (ap last_of (none_of (λ y. on_axis axes.PrecedingSibling e.path y.path) (nodes_of bytes nest)
    (λ y d p. (no_sibling_pair e y w).1 (sym (axis_of_two nest (first_place bytes) s.accepted.document.nests axes.PrecedingSibling e y c d) ∙ p))))

-- The attributes of a node.

pub first_attribute_is : (bytes : List ℕ) (lists : Lists) (nest : Forest) → IsNestOf bytes lists nest → (z : Entry) →
    Contains (nodes_of bytes nest) z → kind_of z.what ≡ kinds.Element → (level from : ℕ) → level ≡ suc (length z.holders) → from ≡ z.index + 1 →
    (o : Option Node) →
    FirstFrom (is_attribute_part level) is_attribute_thing level (records nest (first_place bytes)) (nodes_of bytes nest) from o →
    o ≡ first_of (axis_list axes.Attribute z.path (nodes_of bytes nest))
unfolding axis_list
first_attribute_is bytes lists nest s z c k level from l e o f =
    let first = first_place bytes in
    let rs = records nest first in
    let es = nodes_of bytes nest in
    let h : Holds rs z level = subst (λ n. Holds rs z n) (sym l) (element_holds nest (first_place bytes) s.accepted.document.nests z c k) in
    let P : Entry → Bool = λ y. on_axis axes.Attribute z.path y.path in
    let under : Meets P is_attribute_thing es z level (suc z.index) z.past =
    under_meets P is_attribute_thing es z level h.above attribute_no_root
    (λ y d. axis_of_two nest first s.accepted.document.nests axes.Attribute z y c d) in
    let m : Meets P is_attribute_thing es z level from z.past =
    meets_suc P is_attribute_thing es z level (suc z.index) z.past from (omega (arith, e)) under in
    first_meets P is_attribute_thing (is_attribute_part level) rs es z level from (records_show nest (first_place bytes) s.accepted.document.nests) h
    (omega (arith, e, h.some)) m (part_low level)
    (λ y d p. let q = under.out y d p in attribute_run bytes lists nest s z c k y d level from l e q.0 q.1 q.2) o f
  where
    attribute_run : (bytes : List ℕ) (lists : Lists) (nest : Forest) → IsNestOf bytes lists nest → (z : Entry) → Contains (nodes_of bytes nest) z →
        kind_of z.what ≡ kinds.Element → (y : Entry) → Contains (nodes_of bytes nest) y → (level from : ℕ) → level ≡ suc (length z.holders) →
        from ≡ z.index + 1 →
        IsWanted is_attribute_thing level y → suc z.index ≤ y.index → y.index < z.past →
        Passes (is_attribute_part level) (records nest (first_place bytes)) from y.index
    attribute_run bytes lists nest s z c k y d level from l e w a b = λ i low high.
        let all : Passes (is_attribute_part (suc (length z.holders))) (records nest (first_place bytes)) (z.index + 1) y.index =
        attributes_pass nest (first_place bytes) s.accepted.document.nests z c k y d (w.wanted) (w.held ∙ l) (omega (arith, a)) b in
        ap (λ n. is_attribute_part n (record_at i (records nest (first_place bytes)))) l ∙ all i (omega (arith, low, e)) high

pub no_attributes : (bytes : List ℕ) (lists : Lists) (nest : Forest) → IsNestOf bytes lists nest → (z : Entry) → Contains (nodes_of bytes nest) z →
    (kind_of z.what ≡ kinds.Element → ⊥) → None ≡ first_of (axis_list axes.Attribute z.path (nodes_of bytes nest))
unfolding axis_list
no_attributes bytes lists nest s z c k = sym (ap first_of (none_of (λ y. on_axis axes.Attribute z.path y.path) (nodes_of bytes nest) (λ y d p.
    let q = and_parts (is_one_under z y) (is_attribute_thing y.what)
    (sym (axis_of_two nest (first_place bytes) s.accepted.document.nests axes.Attribute z y c d) ∙ p) in
    let r = attribute_no_root y.what q.1 in
    elim (under_kind nest (first_place bytes) s.accepted.document.nests z y c d (and_parts (is_under z y) _ q.0).0) [
      | inr tag ↦ k tag
      | inl root ↦
          let some : 0 < length y.holders = attribute_held nest (first_place bytes) s.accepted.document.nests y d q.1 in
          let none : nodes_above z ≡ 0 = above_root z root in
          let u : OneUnder z y 0 = one_under_out z y 0 none r q.0 in
          omega (arith, some, u.held)
    ])))

filter_both : (P Q : Entry → Bool) (es : List Entry) → filter Q (filter P es) ≡ filter (λ y. P y && Q y) es
filter_both P Q [] = refl
filter_both P Q (x ∷ es) = by (P x) (filter_both P Q es)
  where
    by : (b : Bool) → filter Q (filter P es) ≡ filter (λ y. P y && Q y) es →
        filter Q (cond b (x ∷ filter P es) (filter P es)) ≡ cond (b && Q x) (x ∷ filter (λ y. P y && Q y) es) (filter (λ y. P y && Q y) es)
    by true h = ap (λ xs. cond (Q x) (x ∷ xs) xs) h
    by false h = h

pub next_attribute_is : (bytes : List ℕ) (lists : Lists) (nest : Forest) → IsNestOf bytes lists nest → (e z : Entry) →
    Contains (nodes_of bytes nest) e → Contains (nodes_of bytes nest) z → kind_of e.what ≡ kinds.Attribute →
    on_axis axes.Attribute z.path e.path ≡ true → (level from : ℕ) → level ≡ length e.holders → from ≡ e.past → (o : Option Node) →
    FirstFrom (is_attribute_part level) is_attribute_thing level (records nest (first_place bytes)) (nodes_of bytes nest) from o →
    o ≡ first_of (filter (λ y. before e.path y.path) (axis_list axes.Attribute z.path (nodes_of bytes nest)))
unfolding axis_list
next_attribute_is bytes lists nest s e z c d k g level from l b o f =
    let first = first_place bytes in
    let n = s.accepted.document.nests in
    let rs = records nest first in
    let es = nodes_of bytes nest in
    let p = and_parts (is_one_under z e) (is_attribute_thing e.what) (sym (axis_of_two nest first n axes.Attribute z e d c) ∙ g) in
    let r = attribute_no_root e.what p.1 in
    let up : OneUnder z e (nodes_above z) = one_under_out z e (nodes_above z) refl r p.0 in
    let same : nodes_above z ≡ level = omega (arith, up.held, l) in
    let tag : kind_of z.what ≡ kinds.Element = elim (under_kind nest first n z e d c (and_parts (is_under z e) _ p.0).0) [
      | inr tag ↦ tag
      | inl root ↦
          let some : 0 < length e.holders = attribute_held nest first n e c p.1 in
          let none : nodes_above z ≡ 0 = above_root z root in
          absurd (omega (arith, some, none, up.held))
    ] in
    let h : Holds rs z level = subst (λ m. Holds rs z m) same (holds_by_kind nest (first_place bytes) s.accepted.document.nests z d (inr tag)) in
    let mine : level ≡ suc (length z.holders) = omega (arith, same, above_held z (no_root_element z.what tag)) in
    let keep : Keeps rs e = keeps nest (first_place bytes) s.accepted.document.nests e c r in
    let P : Entry → Bool = λ y. on_axis axes.Attribute z.path y.path && before e.path y.path in
    let decide : (y : Entry) → Contains es y → P y ≡ ((is_one_under z y && is_attribute_thing y.what) && nat_lt e.index y.index) = λ y q.
    let t : IndexesDecide e y = places_of_two nest first e y c q in ap₂ (λ u v. u && v) (axis_of_two nest first n axes.Attribute z y d q) t.order in
    let m : Meets P is_attribute_thing es z level from z.past = record {
      out = λ y q i.
          let a = and_parts (is_one_under z y && is_attribute_thing y.what) (nat_lt e.index y.index) (sym (decide y q) ∙ i) in
          let t = and_parts (is_one_under z y) (is_attribute_thing y.what) a.0 in
          let u : OneUnder z y level = one_under_out z y level same (attribute_no_root y.what t.1) t.0 in
          let after : e.past ≤ y.index = later_after nest first e y c q (omega
          (arith, above_held e r, above_held y (attribute_no_root y.what t.1), l, u.held)) (ltb-true e.index y.index a.1) in
          (record { held = u.held; wanted = t.1 }, omega (arith, b, after), u.before);
      back = λ y q w i t.
          decide y q ∙ and_from _ _ (and_from (is_one_under z y) (is_attribute_thing y.what)
          (one_under_back z y level same (attribute_no_root y.what w.wanted)
          (record { after = omega (arith, i, b, keep.some, up.after); before = t; held = w.held })) w.wanted)
          (lt-ltb e.index y.index (omega (arith, i, b, keep.some)));
    } in
    let ends : e.past ≤ z.past = nested rs z e level h keep (omega (arith, l)) up.before in
    let passes : (y : Entry) → Contains es y → P y ≡ true → Passes (is_attribute_part level) rs from y.index = λ y q i j low high.
    let w = m.out y q i in
    let all : Passes (is_attribute_part (suc (length z.holders))) rs (z.index + 1) y.index =
    attributes_pass nest (first_place bytes) s.accepted.document.nests z d tag y q (w.0.wanted) (w.0.held ∙ mine)
    (omega (arith, w.1, b, keep.some, up.after)) w.2 in
    ap (λ v. is_attribute_part v (record_at j rs)) mine ∙ all j (omega (arith, low, b, keep.some, up.after)) high in
    first_meets P is_attribute_thing (is_attribute_part level) rs es z level from (records_show nest (first_place bytes) s.accepted.document.nests) h
    (omega (arith, b, ends)) m (part_low level) passes o f
    ∙ ap first_of (sym (filter_both (λ y. on_axis axes.Attribute z.path y.path) (λ y. before e.path y.path) es))

-- The parent of a node.

pub no_parent : (bytes : List ℕ) (lists : Lists) (nest : Forest) → IsNestOf bytes lists nest → (e : Entry) → Contains (nodes_of bytes nest) e →
    kind_of e.what ≡ kinds.Root → None ≡ first_of (axis_list axes.Parent e.path (nodes_of bytes nest))
unfolding axis_list
no_parent bytes lists nest s e c k = sym (ap first_of (none_of (λ y. on_axis axes.Parent e.path y.path) (nodes_of bytes nest) (λ y d p.
    let q = and_parts (not (is_root_thing e.what)) _ (sym (parent_of_node nest (first_place bytes) s.accepted.document.nests e y c d) ∙ p) in
    false≢true (ap not (sym (kind_root e.what k)) ∙ q.0))))

abbrev node_made : Kind → ℕ → Node
node_made kind at = record { kind = kind; at = at }

pub parent_is : (bytes : List ℕ) (lists : Lists) (nest : Forest) → IsNestOf bytes lists nest → (e : Entry) → Contains (nodes_of bytes nest) e →
    (owner : Node) → IsParent (nodes_of bytes nest) e owner → Some owner ≡ first_of (axis_list axes.Parent e.path (nodes_of bytes nest))
unfolding axis_list
parent_is bytes lists nest s e c owner p =
    let first = first_place bytes in
    let n = s.accepted.document.nests in
    let rs = records nest first in
    let es = nodes_of bytes nest in
    let P : Entry → Bool = λ y. on_axis axes.Parent e.path y.path in
    let place : (x : Entry) → Contains es x → P x ≡ true → x.index ≡ holder_by_scan e.index rs = λ x d q.
    eqb-true x.index _ (and_parts (not (is_root_thing e.what)) (x.index == holder_by_scan e.index rs) (sym (parent_of_node nest first n e x c d) ∙ q)).1 in
    let k = records_show nest (first_place bytes) s.accepted.document.nests in
    let same : owner ≡ node_of p.entry = owner_same owner p.entry p.holds.1 p.holds.2 in
    ap (λ v. Some v) same ∙ sym (first_is P es k.rises p.entry p.holds.0 p.above (λ x d q. omega (arith, place x d q, place p.entry p.holds.0 p.above)))
  where
    owner_same : (owner : Node) (y : Entry) → kind_of y.what ≡ owner.kind → y.index ≡ owner.at → owner ≡ node_of y
    owner_same owner y a b = ap₂ node_made (sym a) (sym b)

-- What the calls on neighbours answer, of a node in each nest of its table.

pub parent_found : (bytes : List ℕ) (lists : Lists) (nest : Forest) → IsNestOf bytes lists nest → (kind : Kind) (at : ℕ) (e : Entry) →
    Identifies kind at e (nodes_of bytes nest) → (o : Option Node) → (IsNone o → kind ≡ kinds.Root) →
    IfSome o (λ owner. IsParent (nodes_of bytes nest) e owner) → o ≡ first_of (axis_list axes.Parent e.path (nodes_of bytes nest))
parent_found bytes lists nest s kind at e w None r p = no_parent bytes lists nest s e w.0 (w.1 ∙ r refl)
parent_found bytes lists nest s kind at e w (Some owner) r p = parent_is bytes lists nest s e w.0 owner p

pub root_first_child : (bytes : List ℕ) (lists : Lists) (nest : Forest) → IsNestOf bytes lists nest → (kind : Kind) (at : ℕ) (e : Entry) →
    Identifies kind at e (nodes_of bytes nest) → kind ≡ kinds.Root → (o : Option Node) →
    FirstFrom (is_within 0) is_child_thing 0 (records nest (first_place bytes)) (nodes_of bytes nest) 1 o →
    o ≡ first_of (axis_list axes.Child e.path (nodes_of bytes nest))
root_first_child bytes lists nest s kind at e w k o f =
    let r = kind_root e.what (w.1 ∙ k) in
    first_child_is bytes lists nest s e w.0 0 1 (root_holds nest (first_place bytes) s.accepted.document.nests e w.0 r)
    (omega (arith, root_first nest (first_place bytes) s.accepted.document.nests e w.0 r)) o f

pub element_first_child : (bytes : List ℕ) (lists : Lists) (nest : Forest) → IsNestOf bytes lists nest → (kind : Kind) (at : ℕ) (e : Entry) →
    Identifies kind at e (nodes_of bytes nest) → kind ≡ kinds.Element → (level from : ℕ) → level ≡ length e.holders → from ≡ at + 1 → (o : Option Node) →
    FirstFrom (is_within (level + 1)) is_child_thing (level + 1) (records nest (first_place bytes)) (nodes_of bytes nest) from o →
    o ≡ first_of (axis_list axes.Child e.path (nodes_of bytes nest))
element_first_child bytes lists nest s kind at e w k level from l b o f =
    let same : suc (length e.holders) ≡ level + 1 = omega (arith, l) in
    first_child_is bytes lists nest s e w.0 (level + 1) from
    (subst (λ n. Holds (records nest (first_place bytes)) e n) same
    (element_holds nest (first_place bytes) s.accepted.document.nests e w.0 (w.1 ∙ k))) (omega (arith, b, w.2)) o f

pub root_last_child : (bytes : List ℕ) (lists : Lists) (nest : Forest) → IsNestOf bytes lists nest → (kind : Kind) (at : ℕ) (e : Entry) →
    Identifies kind at e (nodes_of bytes nest) → kind ≡ kinds.Root → (end : ℕ) → end ≡ e.past → (o : Option Node) →
    LastBefore (is_within 0) is_child_thing 0 (records nest (first_place bytes)) (nodes_of bytes nest) end o →
    o ≡ last_of (axis_list axes.Child e.path (nodes_of bytes nest))
root_last_child bytes lists nest s kind at e w k end b o f =
    last_child_is bytes lists nest s e w.0 0 end (root_holds nest (first_place bytes) s.accepted.document.nests e w.0 (kind_root e.what (w.1 ∙ k))) b o f

pub element_last_child : (bytes : List ℕ) (lists : Lists) (nest : Forest) → IsNestOf bytes lists nest → (kind : Kind) (at : ℕ) (e : Entry) →
    Identifies kind at e (nodes_of bytes nest) → kind ≡ kinds.Element → (level end : ℕ) → level ≡ length e.holders → end ≡ e.past → (o : Option Node) →
    LastBefore (is_within (level + 1)) is_child_thing (level + 1) (records nest (first_place bytes)) (nodes_of bytes nest) end o →
    o ≡ last_of (axis_list axes.Child e.path (nodes_of bytes nest))
element_last_child bytes lists nest s kind at e w k level end l b o f =
    let same : suc (length e.holders) ≡ level + 1 = omega (arith, l) in
    last_child_is bytes lists nest s e w.0 (level + 1) end
    (subst (λ n. Holds (records nest (first_place bytes)) e n) same
    (element_holds nest (first_place bytes) s.accepted.document.nests e w.0 (w.1 ∙ k))) b o f

pub attribute_alone : (bytes : List ℕ) (lists : Lists) (nest : Forest) → IsNestOf bytes lists nest → (e z : Entry) → Contains (nodes_of bytes nest) e →
    Contains (nodes_of bytes nest) z → on_axis axes.Attribute z.path e.path ≡ true → kind_of e.what ≡ kinds.Attribute
attribute_alone bytes lists nest s e z c d p =
    attribute_kind e.what (and_parts (is_one_under z e) (is_attribute_thing e.what)
    (sym (axis_of_two nest (first_place bytes) s.accepted.document.nests axes.Attribute z e d c) ∙ p)).1
