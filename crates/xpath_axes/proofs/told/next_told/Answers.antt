use Rattle.std.proofs.Common.{◌≡◌, ◌+◌, ◌∙◌, ◌∷◌, [], arith, refl, subst}
use Rattle.vtd_location.specs.Children.{left_in}
use Rattle.vtd_location.proofs.NavLaws.{nest_of_table}
use Rattle.xpath_axes.specs.Tests.{node_test}
use Rattle.xpath_axes.proofs.ToldLemmas.{next_fails, next_passes, none_told, told_here, told_node, told_on, told_within}
use Rattle.xpath_axes.proofs.told.next_told.Goals as goal

pub prove-unreachable-requires : goal.prove-unreachable-requires
prove-unreachable-requires g c =
    let nav = c.table-table.ensures.nav in
    let s = nest_of_table _ _ nav.nest nav.shown in
    let some = subst (λ lists. left_in lists c.loop-next.told ≡ c.in-Some.at ∷ left_in lists c.next.new.self) c.loop-next.invariant.lists
    c.in-Some.ensures.some in
    let d = told_here _ _ nav.nest s (node_test c.args.test.now) _ c.loop-next.told c.in-Some.at _ c.loop-next.invariant.told some in
    let low = told_within _ _ nav.nest s _ (node_test c.args.test.now) c.in-Some.at _ nav.few d in
    let many = rw c.table-table.ensures.value at (rw c.words.ensures.value at c.len-records.ensures) in
    omega (arith, low, many, c.if-prove.true)

pub passes-requires-clause-node : goal.passes-requires-clause-node
passes-requires-clause-node g c =
    let nav = c.table-table.ensures.nav in
    let some = subst (λ lists. left_in lists c.loop-next.told ≡ c.in-Some.at ∷ left_in lists c.next.new.self) c.loop-next.invariant.lists
    c.in-Some.ensures.some in
    rw c.table-table.ensures.value
    (told_node _ _ nav.nest (nest_of_table _ _ nav.nest nav.shown)
    (node_test c.args.test.now) _ c.loop-next.told c.in-Some.at _ c.loop-next.invariant.told some)

pub returns-then-passes-clause-left : goal.returns-then-passes-clause-left
returns-then-passes-clause-left g c = λ nest s.
    let some = subst (λ lists. left_in lists c.loop-next.told ≡ c.in-Some.at ∷ left_in lists c.next.new.self) c.loop-next.invariant.lists
    c.in-Some.ensures.some in
    c.loop-next.invariant.same nest s
    ∙ next_passes _ _ nest s (node_test c.args.test.now) _ c.loop-next.told c.in-Some.at _ c.loop-next.invariant.told some c.passes.result
    (λ e w. (rw c.table-table.ensures.value at c.passes.ensures.passes) nest s e w) c.if-passes.true

pub returns-then-passes-clause-told : goal.returns-then-passes-clause-told
returns-then-passes-clause-told g c =
    let some = subst (λ lists. left_in lists c.loop-next.told ≡ c.in-Some.at ∷ left_in lists c.next.new.self) c.loop-next.invariant.lists
    c.in-Some.ensures.some in
    told_on _ _ (node_test c.args.test.now) _ c.loop-next.told c.next.new.self c.in-Some.at c.loop-next.invariant.told some (c.in-Some.at + 1) refl

pub returns-then-passes-clause-node : goal.returns-then-passes-clause-node
returns-then-passes-clause-node g c =
    let nav = c.table-table.ensures.nav in
    let some = subst (λ lists. left_in lists c.loop-next.told ≡ c.in-Some.at ∷ left_in lists c.next.new.self) c.loop-next.invariant.lists
    c.in-Some.ensures.some in
    told_node _ _ nav.nest (nest_of_table _ _ nav.nest nav.shown) (node_test c.args.test.now) _ c.loop-next.told c.in-Some.at _ c.loop-next.invariant.told some

pub returns-then-passes-clause-fewer : goal.returns-then-passes-clause-fewer
returns-then-passes-clause-fewer g c =
    let nav = c.table-table.ensures.nav in
    let some = subst (λ lists. left_in lists c.loop-next.told ≡ c.in-Some.at ∷ left_in lists c.next.new.self) c.loop-next.invariant.lists
    c.in-Some.ensures.some in
    let s = nest_of_table _ _ nav.nest nav.shown in
    let d = told_here _ _ nav.nest s (node_test c.args.test.now) _ c.loop-next.told c.in-Some.at _ c.loop-next.invariant.told some in
    let low = told_within _ _ nav.nest s _ (node_test c.args.test.now) c.in-Some.at _ nav.few d in
    omega (arith, low, d.from, c.loop-next.invariant.later)

pub loop-next-preserved : goal.loop-next-preserved
loop-next-preserved g c =
    let nav = c.table-table.ensures.nav in
    let some = subst (λ lists. left_in lists c.loop-next.told ≡ c.in-Some.at ∷ left_in lists c.next.new.self) c.loop-next.invariant.lists
    c.in-Some.ensures.some in
    let d = told_here _ _ nav.nest (nest_of_table _ _ nav.nest nav.shown)
    (node_test c.args.test.now) _ c.loop-next.told c.in-Some.at _ c.loop-next.invariant.told some in
    record {
      names = rw c.table-table.ensures.value at c.passes.ensures.names;
      lists = c.in-Some.ensures.lists ∙ c.loop-next.invariant.lists;
      told = told_on _ _ (node_test c.args.test.now) _ c.loop-next.told c.next.new.self c.in-Some.at c.loop-next.invariant.told some (c.in-Some.at + 1) refl;
      later = omega (arith, d.from, c.loop-next.invariant.later);
      same = λ nest s. c.loop-next.invariant.same nest s
          ∙ next_fails _ _ nest s (node_test c.args.test.now) _ c.loop-next.told c.in-Some.at _ c.loop-next.invariant.told some c.passes.result
          (λ e w. (rw c.table-table.ensures.value at c.passes.ensures.passes) nest s e w) c.if-passes.false;
    }

pub returns-clause-end : goal.returns-clause-end
returns-clause-end g c = λ nest s.
    none_told _ _ nest s (node_test c.args.test.now) _ c.loop-next.told c.loop-next.invariant.told
    (subst (λ lists. left_in lists c.loop-next.told ≡ []) c.loop-next.invariant.lists c.in_default.ensures.none)
