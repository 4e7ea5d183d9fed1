use Rattle.std.proofs.Common.{◌∙◌, ap, cond, Some, None}
use Rattle.vtd_words.specs.Packed.{record_of}
use Rattle.vtd_text.specs.Joined.{slice_of}
use Rattle.vtd_namespaces.proofs.TagLemmas.{instruction_offence, offence_for}
use Rattle.vtd_namespaces.proofs.walk.instruction_offence.Goals as goal

pub returns-then-has_colon : goal.returns-then-has_colon
returns-then-has_colon g c = λ nest s.
    offence_for c.args.at _ _ _ (ap (λ b. cond b (Some c.args.parts.offset) None) c.if-has_colon.true)
    (instruction_offence _ _ nest c.bytes.ensures.table.few s c.args.at c.args.parts c.has_colon.result c.requires.here c.requires.instruction (λ cs e. c.has_colon.ensures cs (c.slice_of.ensures ∙ ap (λ b. slice_of b (record_of c.args.parts)) c.bytes.ensures.value ∙ e)))

pub returns : goal.returns
returns g c = λ nest s.
    offence_for c.args.at _ _ _ (ap (λ b. cond b (Some c.args.parts.offset) None) c.if-has_colon.false)
    (instruction_offence _ _ nest c.bytes.ensures.table.few s c.args.at c.args.parts c.has_colon.result c.requires.here c.requires.instruction (λ cs e. c.has_colon.ensures cs (c.slice_of.ensures ∙ ap (λ b. slice_of b (record_of c.args.parts)) c.bytes.ensures.value ∙ e)))
