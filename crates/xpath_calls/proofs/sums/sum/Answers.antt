use Rattle.xpath_calls.proofs.sums.sum.Goals as goal

pub returns-clause-number : goal.returns-clause-number
returns-clause-number g c = λ d h vs a. c.sum_of.ensures.sum d h _ (c.nodes_at.ensures.nodes d.document vs a)
