use Rattle.std.proofs.Common.{sym, ◌∙◌, true, false}
use Rattle.vtd_words.specs.Packed.{record_of}
use Rattle.vtd_text.proofs.RawFacts.{raw_none, text_there, raw_answer}
use Rattle.vtd_text.proofs.slices.raw.Goals as goal

pub returns-in_err-parts : goal.returns-in_err-parts
returns-in_err-parts g c = λ nest s e w. rw c.from_residual.ensures (sym (raw_none e.what (c.in_err-parts.ensures nest s e w)))

pub text_of-text-requires : goal.text_of-text-requires
text_of-text-requires g c = rw c.bytes.ensures.value (text_there _ _ c.args.node (record_of c.in_ok-parts.parts) c.requires c.in_ok-parts.ensures)

pub returns-then-equals_str : goal.returns-then-equals_str
returns-then-equals_str g c =
    let t = rw c.bytes.ensures.value at c.text_of-text.ensures in
    λ nest s e w. rw c.as_bytes.ensures.value (raw_answer _ _ c.args.node (record_of c.in_ok-parts.parts) c.text_of-text.result.now c.of.result true c.in_ok-parts.ensures t c.of.ensures (sym c.if-equals_str.true ∙ c.equals_str.ensures) nest s e w)

pub returns-else-equals_str : goal.returns-else-equals_str
returns-else-equals_str g c =
    let t = rw c.bytes.ensures.value at c.text_of-text.ensures in
    λ nest s e w. raw_answer _ _ c.args.node (record_of c.in_ok-parts.parts) c.text_of-text.result.now c.of.result false c.in_ok-parts.ensures t c.of.ensures (sym c.if-equals_str.false ∙ c.equals_str.ensures) nest s e w
