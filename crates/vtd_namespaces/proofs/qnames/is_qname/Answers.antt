use Rattle.std.proofs.Common.{◌∙◌, ap, sym, arith, not, ◌==◌, get_or}
use Rattle.vtd_namespaces.proofs.QNameLemmas.{prefixed, unprefixed, first_byte, named_some}
use Rattle.vtd_namespaces.proofs.qnames.is_qname.Goals as goal

pub returns-then-prefix_len-gt0 : goal.returns-then-prefix_len-gt0
returns-then-prefix_len-gt0 c = λ cs n e k.
    c.is_local_part.ensures cs n (c.after_prefix.ensures cs e k (λ z. omega (arith, z, c.if-prefix_len-gt0.true))) ∙ sym ((prefixed cs (λ z. omega (arith, k, z, c.if-prefix_len-gt0.true))).qname n)

pub returns-then-is_empty : goal.returns-then-is_empty
returns-then-is_empty c = λ cs n e k. absurd (named_some c.args.name.now cs n e (sym c.is_empty.ensures ∙ c.if-is_empty.true))

pub returns-else-is_empty : goal.returns-else-is_empty
returns-else-is_empty c = λ cs n e k.
    ap (λ x. not (get_or x 0 0 == 58)) e ∙ ap not (first_byte cs n) ∙ sym ((unprefixed cs (sym k ∙ omega (arith, c.if-prefix_len-gt0.false))).qname n)
