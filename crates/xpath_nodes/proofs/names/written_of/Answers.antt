use Rattle.std.proofs.Common.{◌∙◌, ap}
use Rattle.vtd_words.specs.Packed.{record_of}
use Rattle.vtd_words.proofs.Nodes.{at_room}
use Rattle.vtd_text.specs.Joined.{slice_of}
use Rattle.xpath_nodes.proofs.NameLemmas.{written_known}
use Rattle.xpath_nodes.proofs.names.written_of.Goals as goal

pub parts_at-requires : goal.parts_at-requires
parts_at-requires g c = rw c.words.ensures.value (at_room _ _ c.words.ensures.table.few c.args.node c.requires.node)

pub returns : goal.returns
returns g c = λ nest s e w.
    c.slice_of.ensures ∙ ap (λ b. slice_of b (record_of c.parts_at.result)) c.bytes.ensures.value
    ∙ written_known _ _ c.words.ensures.table.few nest s c.args.node.kind c.args.node.at c.requires.named c.parts_at.result
    (rw c.words.ensures.value at c.parts_at.ensures.parts) e w
