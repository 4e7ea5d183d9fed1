use Rattle.std.proofs.Common.{sym, ap, ◌∙◌, ℕ}
use Rattle.std.specs.Str.{chars}
use Rattle.std.specs.Char.{is_digit}
use Rattle.std.specs.List.{list_all}
use Rattle.xml_chars.specs.Numbers.{capped_from}
use Rattle.xml_chars.proofs.NumberLemmas.{digits_yes, digits_no, char_not}
use Rattle.xml_chars.proofs.references.number_of.Goals as goal

pub returns-in_err-c-clause-read : goal.returns-in_err-c-clause-read
returns-in_err-c-clause-read c =
    rw c.from_residual.ensures (digits_no c.args.base c.requires.low (chars c.args.text.now) (chars c.digits_of.result.0.now) (chars c.digits_of.result.1.now) c.capped_number.result c.digits_of.ensures.read
    (c.capped_number.ensures ∙ ap (capped_from c.args.base 0) (c.as_bytes.ensures.value ∙ sym c.digits_of.ensures.ascii)) (char_not c.capped_number.result c.in_err-c.ensures.cases))

pub returns-then-is_char-clause-read : goal.returns-then-is_char-clause-read
returns-then-is_char-clause-read c =
    digits_yes c.args.base c.requires.low (chars c.args.text.now) (chars c.digits_of.result.0.now) (chars c.digits_of.result.1.now) c.in_ok-c.c c.digits_of.ensures.read (ap (list_all (λ (x : ℕ). is_digit x c.args.base)) c.digits_of.ensures.ascii ∙ c.digits_of.ensures.digits)
    (c.in_ok-c.ensures.value.1 ∙ c.capped_number.ensures ∙ ap (capped_from c.args.base 0) (c.as_bytes.ensures.value ∙ sym c.digits_of.ensures.ascii)) (sym c.is_char.ensures ∙ c.if-is_char.true)

pub returns-else-is_char-clause-read : goal.returns-else-is_char-clause-read
returns-else-is_char-clause-read c =
    digits_no c.args.base c.requires.low (chars c.args.text.now) (chars c.digits_of.result.0.now) (chars c.digits_of.result.1.now) c.in_ok-c.c c.digits_of.ensures.read
    (c.in_ok-c.ensures.value.1 ∙ c.capped_number.ensures ∙ ap (capped_from c.args.base 0) (c.as_bytes.ensures.value ∙ sym c.digits_of.ensures.ascii)) (sym c.is_char.ensures ∙ c.if-is_char.false)
