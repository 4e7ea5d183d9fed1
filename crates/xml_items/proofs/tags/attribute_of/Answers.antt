use Rattle.std.proofs.Common.{sym, ap, ◌∙◌, rules}
use Rattle.std.specs.Prelude.{option_map}
use Rattle.std.specs.Str.{IsUtf8}
use Rattle.xml_items.specs.Suffixes.{suffixes}
use Rattle.xml_items.proofs.StepLemmas.{space_there, space_gone, attribute_1, attribute_bare}
use Rattle.xml_items.proofs.tags.attribute_of.Goals as goal

pub returns-then-is_empty-clause-read : goal.returns-then-is_empty-clause-read
returns-then-is_empty-clause-read c = ap (option_map suffixes) (attribute_1 _ _ _ c.space_of.ensures.read (space_gone c.space_of.result.0.now (sym c.is_empty.ensures ∙ c.if-is_empty.true)))

pub returns-clause-read : goal.returns-clause-read
returns-clause-read c =
    let v : IsUtf8 c.space_of.result.0.now = search rules in
    rw (attribute_bare _ _ _ c.space_of.ensures.read (space_there c.space_of.result.0.now v (sym c.is_empty.ensures ∙ c.if-is_empty.false))) c.bare_attribute_of.ensures.read
