use Rattle.std.proofs.Common.{sym, ap₂, arith}
use Rattle.xml_model.specs.declared.Kind.TheVariants as kinds
use Rattle.xpath_steps.specs.Merges.{is_first}
use Rattle.xpath_steps.proofs.MergeLemmas.{drop_here, none_left}
use Rattle.xpath_steps.proofs.merge.begins.Goals as goal

pub returns-then-from-other-clause-first : goal.returns-then-from-other-clause-first
returns-then-from-other-clause-first c =
    sym (ap₂ is_first (drop_here c.args.one.now c.args.at (record { kind = kinds.Root; at = 0 }) (omega (arith, c.if-at-one.false)))
    (none_left c.args.other.now c.args.from (omega (arith, c.if-from-other.true))))
