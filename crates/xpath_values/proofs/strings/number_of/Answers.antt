use Rattle.std.proofs.Common.{◌∙◌}
use Rattle.xpath_values.proofs.SeenLemmas.{held_seen, number_meant, texts}
use Rattle.xpath_values.proofs.strings.number_of.Goals as goal

pub returns : goal.returns
returns g c = λ nest is v h.
    c.value_number.ensures (texts v) (held_seen _ _ nest is c.args.value.now v h) ∙ number_meant _ c.args.value.now v h
