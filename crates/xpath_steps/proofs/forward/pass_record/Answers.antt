use Rattle.std.proofs.Common.{ap}
use Rattle.vtd_words.specs.Table.{nodes_of}
use Rattle.xpath_axes.specs.Tests.{node_test}
use Rattle.xpath_steps.specs.Forward.{IsHere}
use Rattle.xpath_steps.proofs.ForwardLemmas.{node_passed, none_passed}
use Rattle.xpath_steps.proofs.forward.pass_record.Goals as goal

pub returns-in_default-clause-passed : goal.returns-in_default-clause-passed
returns-in_default-clause-passed g c = λ nest s cs k is h.
    none_passed nest _ s.accepted.document.nests c.args.sought cs k (node_test c.args.test.now) c.args.at _ _ h
    ((rw c.in_default.is at c.node_here.ensures.none) nest s)

pub returns-clause-passed : goal.returns-clause-passed
returns-clause-passed g c = λ nest s cs k is h.
    let z : IsHere (nodes_of c.args.table.now.bytes nest) c.args.at c.in-Some.here.node c.in-Some.here.level = c.in-Some.ensures.here nest s in
    node_passed nest _ s.accepted.document.nests c.args.sought cs k (node_test c.args.test.now) c.args.at _ _ h
    c.in-Some.here.node c.in-Some.here.level z c.args.context is _ c.mark.ensures _
    (c.in_ok-append_flagged.ensures.appended nest s z.entry (z.there, ap (λ m. m.kind) z.shown, ap (λ m. m.at) z.shown))
