use Rattle.xpath_axes.proofs.TestLemmas.{node_passes, text_passes, comment_passes, instruction_passes, target_other, target_passes, name_other, name_is}
use Rattle.xpath_axes.proofs.node_tests.passes.Goals as goal

pub returns-in-Node-clause-passes : goal.returns-in-Node-clause-passes
returns-in-Node-clause-passes g c = λ nest s e w. node_passes c.args.test.now c.args.on_attributes e c.args.node.kind w.1 c.in-Node.is

pub returns-in-Text-clause-passes : goal.returns-in-Text-clause-passes
returns-in-Text-clause-passes g c = λ nest s e w. text_passes c.args.test.now c.args.on_attributes e c.args.node.kind w.1 c.is_text.result c.in-Text.is
    c.is_text.ensures

pub returns-in-Comment-clause-passes : goal.returns-in-Comment-clause-passes
returns-in-Comment-clause-passes g c = λ nest s e w. comment_passes c.args.test.now c.args.on_attributes e c.args.node.kind w.1 c.is_comment.result
    c.in-Comment.is c.is_comment.ensures

pub returns-in-Instruction-clause-passes : goal.returns-in-Instruction-clause-passes
returns-in-Instruction-clause-passes g c = λ nest s e w. instruction_passes c.args.test.now c.args.on_attributes e c.args.node.kind w.1
    c.is_instruction.result c.in-Instruction.is c.is_instruction.ensures

pub returns-then-not-is_instruction-clause-passes : goal.returns-then-not-is_instruction-clause-passes
returns-then-not-is_instruction-clause-passes g c = λ nest s e w.
    target_other c.args.test.now c.args.on_attributes e c.args.node.kind w.1 c.in-Target.target c.is_instruction-in-Target.result c.in-Target.is
    c.is_instruction-in-Target.ensures c.if-not-is_instruction.true

pub returns-else-not-is_instruction-clause-passes : goal.returns-else-not-is_instruction-clause-passes
returns-else-not-is_instruction-clause-passes g c = λ nest s e w.
    target_passes c.args.test.now c.args.on_attributes e c.args.node.kind w.1 c.in-Target.target c.is_instruction-in-Target.result c.eq.result
    c.local_of.result.now c.as_bytes.result.now c.in-Target.is c.is_instruction-in-Target.ensures c.if-not-is_instruction.false
    (c.local_of.ensures nest s e w) c.as_bytes.ensures.value c.as_bytes.ensures.utf8 c.eq.ensures

pub returns-then-not-is_principal-clause-passes : goal.returns-then-not-is_principal-clause-passes
returns-then-not-is_principal-clause-passes g c = λ nest s e w. name_other c.args.test.now c.args.on_attributes e c.args.node.kind w.1 c.in-Name.name
    c.is_principal.result c.in-Name.is c.is_principal.ensures c.if-not-is_principal.true

pub returns-else-not-is_principal-clause-passes : goal.returns-else-not-is_principal-clause-passes
returns-else-not-is_principal-clause-passes g c = λ nest s e w.
    name_is c.args.test.now c.args.on_attributes e c.args.node.kind w.1 c.in-Name.name c.is_principal.result c.matches.result c.in-Name.is
    c.is_principal.ensures c.if-not-is_principal.false (c.matches.ensures.passes nest s e w)
