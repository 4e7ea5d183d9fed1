use Rattle.std.proofs.Common.{arith, ap, sym, ◌∙◌, rules}
use Rattle.std.specs.Str.{IsUtf8, chars}
use Rattle.std.specs.Prelude.{List, ℕ}
use Rattle.xml_chars.specs.Readers.{skip}
use Rattle.xml_items.specs.Reading.{read_attribute}
use Rattle.xml_swift.proofs.ItemLemmas.{attribute_read, attribute_some}
use Rattle.xml_swift.proofs.attributes.any_attribute_end.Goals as goal

pub returns-clause-attribute : goal.returns-clause-attribute
returns-clause-attribute c =
    let v : IsUtf8 c.in_ok-rest.rest.now = search rules in
    attribute_read c.args.bytes.now c.args.at c.in_ok-rest.rest.now c.requires.utf8 c.requires.place v (ap (λ (l : List ℕ). skip read_attribute (chars l)) (sym c.text_at.ensures) ∙ sym c.in_ok-rest.ensures.read)

pub returns-clause-within : goal.returns-clause-within
returns-clause-within c = (attribute_some c.args.bytes.now c.args.at _ (returns-clause-attribute c), omega arith)
