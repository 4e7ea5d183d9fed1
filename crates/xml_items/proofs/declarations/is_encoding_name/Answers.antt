use Rattle.std.proofs.Common.{◌∙◌, ap}
use Rattle.xml_model.specs.Items.{is_encoding_name}
use Rattle.xml_items.proofs.PartLemmas.{encoding_bytes}
use Rattle.xml_items.proofs.declarations.is_encoding_name.Goals as goal

pub returns : goal.returns
returns c = c.are_encoding_name.ensures ∙ ap is_encoding_name c.as_bytes.ensures.value ∙ encoding_bytes c.args.text.now c.utf8.text
