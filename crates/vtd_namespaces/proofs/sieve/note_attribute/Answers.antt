use Rattle.std.proofs.Common.{◌∙◌, ap}
use Rattle.vtd_words.specs.Packed.{record_of}
use Rattle.vtd_text.specs.Joined.{slice_of}
use Rattle.vtd_namespaces.proofs.RepeatLemmas.{not_not}
use Rattle.vtd_namespaces.proofs.SieveLemmas.{no_declaration, no_prefix}
use Rattle.vtd_namespaces.proofs.sieve.note_attribute.Goals as goal
use Rattle.vtd_namespaces.proofs.sieve.note_attribute.Goals.{then-parts-via-then-parts, then-parts-via-else-parts+then-parts-eq0}

pub returns-then-parts-clause-noted : goal.returns-then-parts-clause-noted
returns-then-parts-clause-noted g c = λ nest hs s a t r near d p.
    elim c.then-parts.branch [
      | then-parts-via-then-parts w ↦ absurd (no_declaration a c.args.parts.token t w.if-parts.true d)
      | then-parts-via-else-parts+then-parts-eq0 w ↦ absurd (p (no_prefix a c.args.parts.prefix r.prefix w.if-parts-eq0.true))
    ]

pub returns-clause-new : goal.returns-clause-new
returns-clause-new g c = λ nest hs s a t r near k.
    not_not c.note_name.result _ (c.note_name.ensures.new nest hs s a (record { bytes = c.slice_of.ensures ∙ ap (λ b. slice_of b (record_of c.args.parts)) c.bytes.ensures.value ∙ r.slice; prefix_size = r.prefix; named = r.named }) (near c.if-parts.false c.if-parts-eq0.false)) k

pub returns-clause-noted : goal.returns-clause-noted
returns-clause-noted g c = λ nest hs s a t r near d p.
    c.note_name.ensures.noted nest hs s a (record { bytes = c.slice_of.ensures ∙ ap (λ b. slice_of b (record_of c.args.parts)) c.bytes.ensures.value ∙ r.slice; prefix_size = r.prefix; named = r.named }) (near c.if-parts.false c.if-parts-eq0.false)
