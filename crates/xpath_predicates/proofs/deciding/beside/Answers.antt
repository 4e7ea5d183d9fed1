use Rattle.std.proofs.Common.{◌∙◌, ap, sym}
use Rattle.std.specs.Prelude.{bytes_eq}
use Rattle.xpath_grammar.specs.Tree.{tree_of, walk_of}
use Rattle.xpath_values.specs.Values.{by_equality, string_value}
use Rattle.xpath_predicates.proofs.Walks.{if_number, if_text}
use Rattle.xpath_predicates.proofs.deciding.beside.Goals as goal

pub returns-in_ok-number-in-Number-clause-holds : goal.returns-in_ok-number-in-Number-clause-holds
returns-in_ok-number-in-Number-clause-holds g c =
    if_number _ c.args.place c.args.how (walk_of c.args.steps.now) c.args.absolute _ _ _ _ (ap tree_of c.in-Number.is) c.in_ok-number-in-Number.ensures c.from_here.ensures.relative c.from_here.ensures.found

pub returns-else-not-is_equality-clause-holds : goal.returns-else-not-is_equality-clause-holds
returns-else-not-is_equality-clause-holds g c =
    if_text _ c.args.place c.args.how (walk_of c.args.steps.now) c.args.absolute _ _ _ _ (ap tree_of c.in-Literal.is) (sym c.is_equality.ensures ∙ c.if-not-is_equality.false)
    (λ e. ap (λ t. by_equality c.args.how (bytes_eq (string_value e) t)) c.as_str.ensures) c.from_here-in-Literal.ensures.relative c.from_here-in-Literal.ensures.found
