use Rattle.xpath_meaning.specs.Functions.{whole_name}
use Rattle.xpath_nodes.proofs.NameLemmas.{named_text}
use Rattle.xpath_nodes.proofs.names.whole_text.Goals as goal

pub returns-in-Element : goal.returns-in-Element
returns-in-Element g c = named_text c.utf8_text.result _ _ c.args.node whole_name c.written_of.result.now c.written_of.ensures c.utf8_text.ensures

pub returns-in-Attribute : goal.returns-in-Attribute
returns-in-Attribute g c = named_text c.utf8_text-in-Attribute.result _ _ c.args.node whole_name c.written_of-in-Attribute.result.now
    c.written_of-in-Attribute.ensures c.utf8_text-in-Attribute.ensures

pub returns-in-Instruction : goal.returns-in-Instruction
returns-in-Instruction g c = named_text c.utf8_text-in-Instruction.result _ _ c.args.node whole_name c.written_of-in-Instruction.result.now
    c.written_of-in-Instruction.ensures c.utf8_text-in-Instruction.ensures
