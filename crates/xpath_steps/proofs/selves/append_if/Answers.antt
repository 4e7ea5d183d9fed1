use Rattle.std.proofs.Common.{◌≡◌, ◌++◌, [], ◌∷◌, ◌∙◌, ap, sym, refl, cond, append-nil}
use Rattle.std.proofs.lemmas.Grind.{common_steps}
use Rattle.std.proofs.Common.{arith}
use Rattle.vtd_words.specs.Table.{nodes_of}
use Rattle.xpath_axes.specs.Tests.{node_test}
use Rattle.xpath_axes.proofs.FirstLemmas.{one_passes}
use Rattle.xpath_steps.proofs.selves.append_if.Goals as goal

pub returns-then-not-passes-clause-appended : goal.returns-then-not-passes-clause-appended
returns-then-not-passes-clause-appended g c = λ nest s e w.
    let one = one_passes (e ∷ []) (nodes_of c.args.table.now.bytes nest) (node_test c.args.test.now) c.args.node c.passes.result (e, (w, refl))
    (c.passes.ensures.passes nest s) in
    sym (append-nil _) ∙ ap (λ xs. c.args.held.now.items ++ xs)
    (ap (λ b. cond b (c.args.node ∷ []) []) (sym c.if-not-passes.true) ∙ one)

pub returns-clause-appended : goal.returns-clause-appended
returns-clause-appended g c = λ nest s e w.
    let one = one_passes (e ∷ []) (nodes_of c.args.table.now.bytes nest) (node_test c.args.test.now) c.args.node c.passes.result (e, (w, refl))
    (c.passes.ensures.passes nest s) in
    let more : c.push.new.self.items ≡ c.args.held.now.items ++ (c.args.node ∷ []) = grind (arith, common_steps) in
    more ∙ ap (λ xs. c.args.held.now.items ++ xs) (ap (λ b. cond b (c.args.node ∷ []) []) (sym c.if-not-passes.false) ∙ one)
