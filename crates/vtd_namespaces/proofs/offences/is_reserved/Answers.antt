use Rattle.vtd_namespaces.proofs.OffenceLemmas.{reserved_first, reserved_second}
use Rattle.xml_model.specs.Content.{value_content}
use Rattle.vtd_namespaces.proofs.offences.is_reserved.Goals as goal

pub returns-then-equals_str : goal.returns-then-equals_str
returns-then-equals_str g c = λ nest s a n. reserved_first c.equals_str.result c.of_declaration.result (value_content a.value) c.equals_str.ensures (c.of_declaration.ensures nest s a n) c.if-equals_str.true

pub returns-else-equals_str : goal.returns-else-equals_str
returns-else-equals_str g c = λ nest s a n.
    reserved_second c.equals_str.result c.equals_str-else-equals_str.result c.of_declaration.result c.of_declaration-else-equals_str.result (value_content a.value) c.equals_str.ensures (c.of_declaration.ensures nest s a n) c.if-equals_str.false
    c.equals_str-else-equals_str.ensures (c.of_declaration-else-equals_str.ensures nest s a n)
