use Rattle.std.proofs.Common.{◌≡◌, ◌+◌, ◌∙◌, true, inl, inr, ap₂, sym, subst, arith, length, drop, min}
use Rattle.std.proofs.lemmas.List.{drop_all}
use Rattle.xml_model.specs.declared.Kind.TheVariants as kinds
use Rattle.xml_model.specs.declared.Node.{Node}
use Rattle.vtd_words.specs.Table.{nodes_of}
use Rattle.xpath_steps.specs.Forward.{is_asked, own_floor}
use Rattle.xpath_steps.proofs.ForwardLemmas.{asks_none, floor_on}
use Rattle.xpath_steps.proofs.StepLemmas.{At, at_index, as_many, context_is}
use Rattle.xpath_steps.proofs.forward.lowest.Goals as goal

pub loop-context-init : goal.loop-context-init
loop-context-init g c = λ nest s cs e k y m d h t. inr t

pub loop-context-preserved : goal.loop-context-preserved
loop-context-preserved g c = λ nest s cs e k y m d h t.
    let i = c.loop-context.context-index in
    let a : At cs i = at_index cs i (omega (arith, as_many cs _ e, c.loop-context-test.true)) in
    let n : Node = record { kind = kinds.Root; at = 0 } in
    let in_it = context_is (nodes_of c.args.table.now.bytes nest) cs k c.args.contexts.now e i a n in
    let own : c.floor_of.result ≡ own_floor c.args.sought (Rattle.xml_model.specs.Tree.kind_of a.entry.what) (length a.entry.holders) =
    c.floor_of.ensures ∙ ap₂ (own_floor c.args.sought) (sym in_it.1) (c.level_at.ensures.level nest s a.entry in_it) in
    let least : c.min-floor.result ≡ min c.loop-context.floor c.floor_of.result = c.min-floor.ensures in
    elim (c.loop-context.invariant nest s cs e k y m d h t) [
      | inl low ↦ inl (omega (arith, low, least))
      | inr u ↦
          elim (floor_on nest _ s.accepted.document.nests c.args.sought a.entry in_it.0 (drop (i + 1) cs) y m d h
          (subst (λ ds. is_asked c.args.sought ds m y ≡ true) a.split u)) [
            | inl low ↦ inl (omega (arith, low, own, least))
            | inr v ↦ inr v
          ]
    ]

pub returns : goal.returns
returns g c = λ nest s cs e k y m d h t.
    elim (c.loop-context.invariant nest s cs e k y m d h t) [
      | inl low ↦ low
      | inr u ↦ absurd (asks_none c.args.sought m y (subst (λ ds. is_asked c.args.sought ds m y ≡ true)
          (drop_all c.loop-context.context-index cs (omega (arith, as_many cs _ e, c.loop-context-test.false))) u))
    ]
