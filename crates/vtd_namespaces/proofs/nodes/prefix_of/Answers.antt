use Rattle.std.proofs.Common.{◌∙◌, ap, sym}
use Rattle.std.specs.Prelude.{encode_utf8_all}
use Rattle.vtd_words.specs.Packed.{record_of}
use Rattle.vtd_words.proofs.Nodes.{at_room}
use Rattle.vtd_text.specs.Joined.{slice_of}
use Rattle.vtd_namespaces.proofs.NodeNameLemmas.{name_known}
use Rattle.vtd_namespaces.proofs.nodes.prefix_of.Goals as goal

pub parts_at-parts-requires : goal.parts_at-parts-requires
parts_at-parts-requires g c = rw c.words.ensures.value (at_room _ _ c.words.ensures.table.few c.args.node c.requires.node)

pub returns-then-parts : goal.returns-then-parts
returns-then-parts g c = λ nest s e w.
    let t = name_known _ _ c.words.ensures.table.few nest s c.args.node.kind c.args.node.at c.requires.named c.parts_at-parts.result (rw c.words.ensures.value at c.parts_at-parts.ensures.parts) e w in
    sym (ap encode_utf8_all (t.instruction c.if-parts.true).0)

pub returns : goal.returns
returns g c = λ nest s e w.
    let t = (name_known _ _ c.words.ensures.table.few nest s c.args.node.kind c.args.node.at c.requires.named c.parts_at-parts.result (rw c.words.ensures.value at c.parts_at-parts.ensures.parts) e w).other c.if-parts.false in
    c.prefix_of.ensures t.name (c.slice_of.ensures ∙ ap (λ b. slice_of b (record_of c.parts_at-parts.result)) c.bytes.ensures.value ∙ t.slice) t.prefix ∙ sym (ap encode_utf8_all t.prefix_is)
