use Rattle.std.proofs.Common.{sym, ap, ◌∙◌, rules}
use Rattle.std.specs.Str.{chars, IsUtf8}
use Rattle.std.specs.List.{list_all}
use Rattle.xml_model.specs.Chars.{is_char}
use Rattle.xml_items.proofs.FindLemmas.{prefix_of, prefix_none}
use Rattle.xml_items.proofs.marks.find_past_chars.Goals as goal

pub returns-in_err-rest-clause-read : goal.returns-in_err-rest-clause-read
returns-in_err-rest-clause-read c = rw c.from_residual.ensures (sym (prefix_none c.args.mark.now (chars c.args.text.now) c.in_err-rest.ensures.read))

pub split_at-requires : goal.split_at-requires
split_at-requires c =
    let v : IsUtf8 c.in_ok-rest.rest.now = search rules in
    (prefix_of c.args.mark.now c.args.text.now c.in_ok-rest.rest.now c.utf8.text v c.in_ok-rest.ensures.read).cut.1.boundary

pub returns-then-are_chars-clause-read : goal.returns-then-are_chars-clause-read
returns-then-are_chars-clause-read c =
    let v : IsUtf8 c.in_ok-rest.rest.now = search rules in
    sym ((prefix_of c.args.mark.now c.args.text.now c.in_ok-rest.rest.now c.utf8.text v c.in_ok-rest.ensures.read).yes (ap (λ l. list_all is_char (chars l)) (sym c.split_at.ensures.front) ∙ sym c.are_chars.ensures ∙ c.if-are_chars.true))

pub returns-else-are_chars-clause-read : goal.returns-else-are_chars-clause-read
returns-else-are_chars-clause-read c =
    let v : IsUtf8 c.in_ok-rest.rest.now = search rules in
    sym ((prefix_of c.args.mark.now c.args.text.now c.in_ok-rest.rest.now c.utf8.text v c.in_ok-rest.ensures.read).none (ap (λ l. list_all is_char (chars l)) (sym c.split_at.ensures.front) ∙ sym c.are_chars.ensures ∙ c.if-are_chars.false))
