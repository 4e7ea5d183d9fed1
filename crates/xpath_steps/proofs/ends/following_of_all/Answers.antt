use Rattle.std.proofs.Common.{◌∙◌}
use Rattle.xpath_axes.specs.Tests.{node_test}
use Rattle.xpath_steps.proofs.EndLemmas.{following_left}
use Rattle.xpath_steps.proofs.ends.following_of_all.Goals as goal

pub returns-clause-step : goal.returns-clause-step
returns-clause-step g c = λ nest s cs e k.
    (rw c.new-held.ensures.items at c.in_ok-append_walk.ensures.appended) nest s
    ∙ following_left nest _ s.accepted.document.nests cs k (node_test c.args.test.now) c.least_end.result (c.least_end.ensures nest s cs e k)
