use Rattle.std.proofs.Common.{◌∙◌, ap}
use Rattle.std.specs.Prelude.{encode_utf8_all}
use Rattle.xpath_meaning.specs.Functions.{local_name}
use Rattle.xpath_nodes.proofs.NameLemmas.{named_text, local_same}
use Rattle.xpath_nodes.proofs.names.local_text.Goals as goal

pub returns-in-Element : goal.returns-in-Element
returns-in-Element g c =
    named_text c.utf8_text.result _ _ c.args.node local_name c.local_of.result.now
    (λ nest s e w. c.local_of.ensures nest s e w ∙ ap encode_utf8_all (local_same e.what)) c.utf8_text.ensures

pub returns-in-Attribute : goal.returns-in-Attribute
returns-in-Attribute g c =
    named_text c.utf8_text-in-Attribute.result _ _ c.args.node local_name c.local_of-in-Attribute.result.now
    (λ nest s e w. c.local_of-in-Attribute.ensures nest s e w ∙ ap encode_utf8_all (local_same e.what)) c.utf8_text-in-Attribute.ensures

pub returns-in-Instruction : goal.returns-in-Instruction
returns-in-Instruction g c =
    named_text c.utf8_text-in-Instruction.result _ _ c.args.node local_name c.local_of-in-Instruction.result.now
    (λ nest s e w. c.local_of-in-Instruction.ensures nest s e w ∙ ap encode_utf8_all (local_same e.what)) c.utf8_text-in-Instruction.ensures
