use Rattle.std.proofs.Common.{◌∙◌, ap}
use Rattle.std.specs.Prelude.{fold}
use Rattle.xpath_values.specs.Reading.{read_next, read_start, read_value}
use Rattle.xpath_values.specs.Values.{string_value}
use Rattle.xpath_values.proofs.ReadLemmas.{read_number}
use Rattle.xpath_values.proofs.values.number_read.Goals as goal

pub returns : goal.returns
returns g c = λ nest is e at.
    c.read_value.ensures ∙ ap read_value c.read_all.ensures
    ∙ ap (λ t. read_value (fold read_next read_start t)) (c.of.ensures nest is e at)
    ∙ read_number (string_value e)
