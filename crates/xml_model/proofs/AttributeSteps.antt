-- The attributes of contexts: those of one context after another.
use Rattle.std.proofs.Common.{◌≡◌, ℕ, suc, ◌<◌, true, false, ◌==◌, List, [], ◌∷◌, ◌++◌, length, ap, ◌∙◌, arith, filter, inl, inr}
use Rattle.std.specs.List.{Contains, flat_map}
use Rattle.std.proofs.lemmas.Bool.{false≢true, and_parts, cases_lt, eqb-true}
use Rattle.xml_model.specs.declared.Kind.TheVariants as kinds
use Rattle.xml_model.specs.declared.Axis.TheVariants as axes
use Rattle.xml_model.specs.Contexts.{AreContexts, Rises}
use Rattle.xml_model.specs.Nest.{Forest, is_nest}
use Rattle.xml_model.specs.Records.{records}
use Rattle.xml_model.specs.Scan.{level_of, record_at}
use Rattle.xml_model.specs.Tree.{Entry, all, kind_of}
use Rattle.xml_model.specs.Laws.{by_indexes, is_attribute_thing, is_one_under, is_under, nodes_above}
use Rattle.xml_model.proofs.AttributeRuns.{attribute_held, attribute_level, attributes_pass}
use Rattle.xml_model.proofs.Contexts.{any_by_indexes}
use Rattle.xml_model.proofs.Each.{contains_here, contains_next, each_at}
use Rattle.xml_model.proofs.Filters.{any_out, none_of, split_pairs}
use Rattle.xml_model.proofs.Indexes.{all_rise}
use Rattle.xml_model.proofs.Inside.{OneUnder, above_held, above_root, levels_shown, one_under_out, under_kind}
use Rattle.xml_model.proofs.Things.{attribute_no_root, no_root_element}
use Rattle.xml_model.proofs.TreeOrder.{more_above, under_is, under_within}

module _ (nest : Forest) (first : ℕ) (n : is_nest nest ≡ true) where
  -- what has an attribute is an element
  has_attribute : (c y : Entry) → Contains (all nest first) c → Contains (all nest first) y → by_indexes axes.Attribute c y ≡ true →
      kind_of c.what ≡ kinds.Element
  has_attribute c y k d h =
      let p = and_parts (is_one_under c y) (is_attribute_thing y.what) h in
      let u = and_parts (is_under c y) (nodes_above y == suc (nodes_above c)) p.0 in
      elim (under_kind nest first n c y k d u.0) [
        | inl root ↦ absurd (
            let above = above_held y (attribute_no_root y.what p.1) in
            omega (arith, attribute_held nest first n y d p.1, above_root c root, above, eqb-true (nodes_above y) (suc (nodes_above c)) u.1)
            )
        | inr tag ↦ tag
      ]

  -- the attributes of an earlier context are before those of a later one
  apart : (c d y z : Entry) → Contains (all nest first) c → Contains (all nest first) d → Contains (all nest first) y → Contains (all nest first) z →
      c.index < d.index → by_indexes axes.Attribute c y ≡ true → by_indexes axes.Attribute d z ≡ true → y.index < z.index
  apart c d y z kc kd ky kz l h i =
      let rs = records nest first in
      let p = and_parts (is_one_under c y) (is_attribute_thing y.what) h in
      let q = and_parts (is_one_under d z) (is_attribute_thing z.what) i in
      let tag = has_attribute c y kc ky h in
      let v = and_parts (is_under d z) (nodes_above z == suc (nodes_above d)) q.0 in
      let above : nodes_above c ≡ suc (length c.holders) = above_held c (no_root_element c.what tag) in
      let o : OneUnder c y (suc (length c.holders)) = one_under_out c y (suc (length c.holders)) above (attribute_no_root y.what p.1) p.0 in
      elim (cases_lt y.index z.index) [
        | inl before ↦ before
        | inr not_before ↦ absurd (
            let w = under_within d z v.0 in
            let deep = more_above nest first c d kc kd (under_is c d l (omega (arith, w.0, not_before, o.before))) in
            let held = above_held z (attribute_no_root z.what q.1) in
            let one = eqb-true (nodes_above z) (suc (nodes_above d)) v.1 in
            elim (cases_lt z.index y.index) [
              | inl less ↦
                  let pass = attributes_pass nest first n c kc tag y ky p.1 o.held o.after o.before z.index (omega (arith, l, w.0)) less in
                  let level = attribute_level (suc (length c.holders)) (record_at z.index rs) pass in
                  omega (arith, level, levels_shown nest first n z kz, deep, held, one, above)
              | inr same ↦
                  let e : z.index ≡ y.index = omega (arith, not_before, same) in
                  let level : level_of (record_at z.index rs) ≡ level_of (record_at y.index rs) = ap (λ m. level_of (record_at m rs)) e in
                  omega (arith, level, levels_shown nest first n z kz, levels_shown nest first n y ky, o.held, deep, held, one, above)
            ]
            )
      ]

  joins : (cs : List Entry) → ((c : Entry) → Contains cs c → Contains (all nest first) c) → Rises cs →
      filter (any_by_indexes axes.Attribute cs) (all nest first) ≡ flat_map (λ c. filter (by_indexes axes.Attribute c) (all nest first)) cs
  joins [] a r = none_of (λ y. false) (all nest first) (λ x c h. false≢true h)
  joins (c ∷ cs) a r =
      split_pairs (by_indexes axes.Attribute c) (any_by_indexes axes.Attribute cs) (all nest first) (all_rise nest first)
      (λ y z d e h k. let o = any_out (λ x. by_indexes axes.Attribute x z) cs k in
      apart c o.entry y z (a c (contains_here c cs)) (a o.entry (contains_next c cs o.entry o.there)) d e
      (each_at (λ x. c.index < x.index) cs o.entry r.0 o.there) h o.passes)
      ∙ ap (λ xs. filter (by_indexes axes.Attribute c) (all nest first) ++ xs) (joins cs (λ x k. a x (contains_next c cs x k)) r.1)

  -- the law
  pub attributes_of_contexts : (cs : List Entry) → AreContexts cs (all nest first) →
      filter (any_by_indexes axes.Attribute cs) (all nest first) ≡ flat_map (λ c. filter (by_indexes axes.Attribute c) (all nest first)) cs
  attributes_of_contexts cs k = joins cs k.among k.rise
