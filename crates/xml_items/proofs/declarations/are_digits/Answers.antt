use Rattle.std.proofs.Common.{◌∙◌, sym, ap}
use Rattle.std.specs.Prelude.{not}
use Rattle.xml_items.proofs.PartLemmas.{some_digits, no_digits}
use Rattle.xml_items.proofs.declarations.are_digits.Goals as goal

pub returns-then-not-is_empty : goal.returns-then-not-is_empty
returns-then-not-is_empty c = some_digits c.args.text.now c.as_bytes.result.now c.all_digits.result c.is_empty.result c.utf8.text c.as_bytes.ensures.value c.is_empty.ensures c.if-not-is_empty.true c.all_digits.ensures

pub returns-else-not-is_empty : goal.returns-else-not-is_empty
returns-else-not-is_empty c = ap not c.if-not-is_empty.false ∙ sym (no_digits c.args.text.now c.is_empty.result c.utf8.text c.is_empty.ensures c.if-not-is_empty.false)
