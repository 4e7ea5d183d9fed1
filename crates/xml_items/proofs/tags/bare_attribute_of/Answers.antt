use Rattle.xml_items.proofs.StepLemmas.{bare_1, bare_2, bare_3, bare_4, bare_5, bare_6}
use Rattle.std.proofs.Common.{ap}
use Rattle.std.specs.Prelude.{option_map}
use Rattle.xml_items.specs.Suffixes.{suffixes}
use Rattle.xml_items.proofs.tags.bare_attribute_of.Goals as goal

pub returns-in_err-after_name-clause-read : goal.returns-in_err-after_name-clause-read
returns-in_err-after_name-clause-read c = rw c.from_residual.ensures (ap (option_map suffixes) (bare_1 _ c.in_err-after_name.ensures.read))

pub returns-in_err-rest-clause-read : goal.returns-in_err-rest-clause-read
returns-in_err-rest-clause-read c = rw c.from_residual-in_err-rest.ensures (ap (option_map suffixes) (bare_2 _ _ _ _ _ c.in_ok-after_name.ensures.read c.space_of.ensures.read c.in_err-rest.ensures.read))

pub returns-in_err-quote-clause-read : goal.returns-in_err-quote-clause-read
returns-in_err-quote-clause-read c =
    rw c.from_residual-in_err-quote.ensures (ap (option_map suffixes) (bare_3 _ _ _ _ _ _ _ _ c.in_ok-after_name.ensures.read c.space_of.ensures.read c.in_ok-rest.ensures.read c.space_of-2.ensures.read c.in_err-quote.ensures.read))

pub returns-in_err-after_value-clause-read : goal.returns-in_err-after_value-clause-read
returns-in_err-after_value-clause-read c =
    rw c.from_residual-in_err-after_value.ensures (ap (option_map suffixes) (bare_4 _ _ _ _ _ _ _ _ _ _ c.in_ok-after_name.ensures.read c.space_of.ensures.read c.in_ok-rest.ensures.read c.space_of-2.ensures.read c.in_ok-quote.ensures.read c.in_err-after_value.ensures.read))

pub returns-in_err-rest-2-clause-read : goal.returns-in_err-rest-2-clause-read
returns-in_err-rest-2-clause-read c =
    rw c.from_residual-in_err-rest-2.ensures (ap (option_map suffixes) (bare_5 _ _ _ _ _ _ _ _ _ _ _ c.in_ok-after_name.ensures.read c.space_of.ensures.read c.in_ok-rest.ensures.read c.space_of-2.ensures.read c.in_ok-quote.ensures.read c.in_ok-after_value.ensures.read c.in_err-rest-2.ensures.read))

pub returns-clause-read : goal.returns-clause-read
returns-clause-read c =
    bare_6 _ _ _ _ _ _ _ _ _ _ _ _ c.in_ok-after_name.ensures.read c.space_of.ensures.read c.in_ok-rest.ensures.read c.space_of-2.ensures.read c.in_ok-quote.ensures.read c.in_ok-after_value.ensures.read c.in_ok-rest-2.ensures.read
