use Rattle.std.proofs.Common.{◌∙◌, sym, arith}
use Rattle.vtd_fragment.proofs.PrefixLemmas.{declares_none, declares_short, declares_other, declares_own}
use Rattle.vtd_fragment.proofs.prefixes.declared_prefix.Goals as goal

pub returns-then-eq : goal.returns-then-eq
returns-then-eq c = λ cs e. declares_none c.args.name.now cs e (sym c.eq.ensures ∙ c.if-eq.true)

pub returns-then-name : goal.returns-then-name
returns-then-name c = λ cs e. declares_short c.args.name.now cs e (sym c.eq.ensures ∙ c.if-eq.false) c.if-name.true

pub returns-then-eq-2 : goal.returns-then-eq-2
returns-then-eq-2 c = λ cs e.
    declares_own c.args.name.now cs c.split_at.result.0.now c.split_at.result.1.now e (sym c.eq.ensures ∙ c.if-eq.false) c.if-name.false c.split_at.ensures.front c.split_at.ensures.back
    (omega (arith, c.split_at.ensures.back_len, c.if-name.false)) (sym c.eq-2.ensures ∙ c.if-eq-2.true)

pub returns-else-eq-2 : goal.returns-else-eq-2
returns-else-eq-2 c = λ cs e.
    declares_other c.args.name.now cs c.split_at.result.0.now e (sym c.eq.ensures ∙ c.if-eq.false) c.if-name.false c.split_at.ensures.front (sym c.eq-2.ensures ∙ c.if-eq-2.false)
