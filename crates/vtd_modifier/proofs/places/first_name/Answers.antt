use Rattle.vtd_words.proofs.Nodes.{at_room}
use Rattle.vtd_modifier.proofs.NodePlaces.{attribute_name, instruction_target}
use Rattle.vtd_modifier.proofs.places.first_name.Goals as goal

pub parts_at-name-requires : goal.parts_at-name-requires
parts_at-name-requires g c = rw (c.words.ensures.value, c.table.ensures.value) (at_room _ _ c.table.ensures.nav.few c.args.node c.requires)

pub returns-clause-attribute : goal.returns-clause-attribute
returns-clause-attribute g c =
    attribute_name _ _ c.table.ensures.nav.few c.args.node c.parts_at-name.result (rw (c.words.ensures.value, c.table.ensures.value) at c.parts_at-name.ensures.parts)

pub returns-clause-instruction : goal.returns-clause-instruction
returns-clause-instruction g c =
    instruction_target _ _ c.table.ensures.nav.few c.args.node c.parts_at-name.result
    (rw (c.words.ensures.value, c.table.ensures.value) at c.parts_at-name.ensures.parts)
