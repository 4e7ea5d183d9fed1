use Rattle.std.proofs.Common.{arith}
use Rattle.vtd_words.proofs.Nodes.{at_room}
use Rattle.vtd_modifier.proofs.NodePlaces.{later_record, space_after_name, space_after_value}
use Rattle.vtd_modifier.proofs.places.space_start.Goals as goal

pub overflow_sub-node : goal.overflow_sub-node
overflow_sub-node g c = later_record _ _ c.args.node c.requires.node c.requires.attribute

pub parts_at-before-requires : goal.parts_at-before-requires
parts_at-before-requires g c =
    rw (c.words.ensures.value, c.table.ensures.value) (omega (arith, at_room _ _ c.table.ensures.nav.few c.args.node c.requires.node))

pub returns-then-before-eq-VALUE : goal.returns-then-before-eq-VALUE
returns-then-before-eq-VALUE g c =
    space_after_value _ _ c.table.ensures.nav.few c.args.node c.parts_at-before.result
    (rw (c.words.ensures.value, c.table.ensures.value) at c.parts_at-before.ensures.parts) c.if-before-eq-VALUE.true

pub returns-else-before-eq-VALUE : goal.returns-else-before-eq-VALUE
returns-else-before-eq-VALUE g c =
    space_after_name _ _ c.table.ensures.nav.few c.args.node c.parts_at-before.result
    (rw (c.words.ensures.value, c.table.ensures.value) at c.parts_at-before.ensures.parts) c.if-before-eq-VALUE.false
