use Rattle.std.proofs.Common.{sym, subst}
use Rattle.vtd_words.specs.Packed.{record_of}
use Rattle.vtd_text.specs.declared.token.Rule.TheVariants.{Value}
use Rattle.vtd_text.specs.Resolved.{IsResolved}
use Rattle.vtd_text.proofs.PlainLemmas.{value_content}
use Rattle.vtd_text.proofs.slices.value_text.Goals as goal

pub returns : goal.returns
returns g c = λ rs s cs k p.
    value_content c.args.bytes.now (record_of c.parts_at.result) c.text_of.result.now cs c.text_of.ensures
    (subst (λ r. IsResolved c.args.bytes.now Value r cs) (sym (c.parts_at.ensures.parts rs s)) k) p
