use Rattle.std.proofs.Common.{◌∙◌, ap, sym, arith}
use Rattle.std.specs.Prelude.{encode_utf8_all}
use Rattle.vtd_namespaces.proofs.QNameLemmas.{local_prefixed, local_whole, local_after}
use Rattle.vtd_namespaces.proofs.qnames.local_of.Goals as goal

pub returns-then-prefix_len-gt0 : goal.returns-then-prefix_len-gt0
returns-then-prefix_len-gt0 c = λ cs n e k. c.after_prefix.ensures cs e k (λ z. omega (arith, z, c.if-prefix_len-gt0.true)) ∙ ap encode_utf8_all (local_prefixed cs c.args.prefix_len k (λ z. omega (arith, z, c.if-prefix_len-gt0.true)))

pub returns-then-is_qname : goal.returns-then-is_qname
returns-then-is_qname c = λ cs n e k. e ∙ ap encode_utf8_all (local_whole cs c.args.prefix_len k (omega (arith, c.if-prefix_len-gt0.false)) (sym (c.is_qname.ensures cs n e k) ∙ c.if-is_qname.true))

pub returns : goal.returns
returns c = λ cs n e k. c.after.ensures ∙ local_after c.args.name.now cs c.args.prefix_len n e k (omega (arith, c.if-prefix_len-gt0.false)) (sym (c.is_qname.ensures cs n e k) ∙ c.if-is_qname.false)
