use Rattle.std.proofs.Common.{◌∙◌, sym, arith}
use Rattle.std.proofs.lemmas.Bool.{ne_eqb, lt-leb}
use Rattle.xml_model.specs.Items.{first_place}
use Rattle.xml_items.proofs.WalkLemmas.{first_low}
use Rattle.xml_items.proofs.is_first_place.Goals as goal

pub returns-else-at-le3 : goal.returns-else-at-le3
returns-else-at-le3 c =
    let low = first_low c.args.bytes.now in
    lt-leb c.args.at 3 c.if-at-le3.false ∙ sym (ne_eqb c.args.at (first_place c.args.bytes.now) (λ e. omega arith))
