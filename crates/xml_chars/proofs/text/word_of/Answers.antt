use Rattle.std.proofs.Common.{sym, ◌∙◌, ◌≡◌, true, false}
use Rattle.xml_model.specs.Chars.{begins}
use Rattle.xml_chars.proofs.TextLemmas.{word_of, pointwise-begins}
use Rattle.xml_chars.proofs.text.word_of.Goals as goal

pub split_at-requires : goal.split_at-requires
split_at-requires c =
    let b : begins c.args.mark.now c.args.text.now ≡ true = rw (c.as_bytes.ensures.value, c.as_bytes-2.ensures.value) at (sym c.begins_with.ensures ∙ c.if-begins_with.true) in
    ((word_of c.args.mark.now c.args.text.now c.requires c.utf8.text).yes (pointwise-begins c.args.mark.now c.args.text.now ∙ b)).0.boundary

pub returns-then-begins_with-clause-read : goal.returns-then-begins_with-clause-read
returns-then-begins_with-clause-read c =
    let b : begins c.args.mark.now c.args.text.now ≡ true = rw (c.as_bytes.ensures.value, c.as_bytes-2.ensures.value) at (sym c.begins_with.ensures ∙ c.if-begins_with.true) in
    rw c.split_at.ensures.back ((word_of c.args.mark.now c.args.text.now c.requires c.utf8.text).yes (pointwise-begins c.args.mark.now c.args.text.now ∙ b)).1

pub returns-else-begins_with-clause-read : goal.returns-else-begins_with-clause-read
returns-else-begins_with-clause-read c =
    let b : begins c.args.mark.now c.args.text.now ≡ false = rw (c.as_bytes.ensures.value, c.as_bytes-2.ensures.value) at (sym c.begins_with.ensures ∙ c.if-begins_with.false) in
    (word_of c.args.mark.now c.args.text.now c.requires c.utf8.text).no (pointwise-begins c.args.mark.now c.args.text.now ∙ b)
