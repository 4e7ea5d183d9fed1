use Rattle.vtd_cursor.proofs.MoveLemmas.{parent_found}
use Rattle.vtd_cursor.proofs.neighbours.parent_of.Goals as goal

pub returns-clause-axis : goal.returns-clause-axis
returns-clause-axis g c = λ nest s e w. parent_found _ _ nest s c.args.node.kind c.args.node.at e w c.owner_of.result c.owner_of.ensures.root.0
    (c.owner_of.ensures.parent nest s e w)
