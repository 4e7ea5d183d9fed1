use Rattle.vtd_words.proofs.Nodes.{at_room, level_found}
use Rattle.vtd_words.proofs.table.Table.level_at.Goals as goal

pub parts_at-requires : goal.parts_at-requires
parts_at-requires g c = let n = rw (← c.self.view_is) at c.requires in at_room _ _ c.self.invariant.few c.args.node n

pub returns-clause-level : goal.returns-clause-level
returns-clause-level g c = rw (← c.self.view_is) (λ nest s e w.
    level_found _ _ c.self.invariant.few c.args.node.at c.level_of.result c.parts_at.result c.parts_at.ensures.parts c.level_of.ensures nest s
    c.args.node.kind e w)

pub returns-clause-within : goal.returns-clause-within
returns-clause-within g c =
    let n = rw (← c.self.view_is) at c.requires in
    rw (← c.self.view_is) (at_room _ _ c.self.invariant.few c.args.node n)
