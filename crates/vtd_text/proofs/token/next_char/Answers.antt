use Rattle.std.proofs.Common.{ℕ, List, ◌∷◌, ap, sym, ◌∙◌}
use Rattle.std.specs.Str.{chars}
use Rattle.std.proofs.lemmas.Bool.{ne_eqb}
use Rattle.xml_chars.proofs.Runs.{char_some, char_none}
use Rattle.vtd_text.proofs.PieceLemmas.{no_content, plain_first, return_first, referred_content}
use Rattle.vtd_text.proofs.token.next_char.Goals as goal

pub returns-in_err-c-clause-content : goal.returns-in_err-c-clause-content
returns-in_err-c-clause-content c = λ content h. rw c.from_residual.ensures (no_content c.args.rule (chars c.args.text.now) content (char_none (chars c.args.text.now) c.in_err-c.ensures.read) h)

pub returns-then-c-eq13-clause-content : goal.returns-then-c-eq13-clause-content
returns-then-c-eq13-clause-content c = λ content h.
    let rest : List ℕ = chars c.in_ok-c.rest.now in
    rw (c.spaced.ensures, c.after_return.ensures.rest) (return_first c.args.rule (chars c.args.text.now) content rest (char_some (chars c.args.text.now) rest c.in_ok-c.c c.in_ok-c.ensures.read ∙ ap (λ (x : ℕ). x ∷ rest) c.if-c-eq13.true) h)

pub returns-then-begins_reference-clause-content : goal.returns-then-begins_reference-clause-content
returns-then-begins_reference-clause-content c = λ content h.
    referred_content c.args.rule (chars c.args.text.now) content c.in_ok-c.c (chars c.in_ok-c.rest.now) (char_some (chars c.args.text.now) (chars c.in_ok-c.rest.now) c.in_ok-c.c c.in_ok-c.ensures.read) (sym c.begins_reference.ensures ∙ c.if-begins_reference.true) c.referred.result c.referred.ensures.read h

pub returns-clause-content : goal.returns-clause-content
returns-clause-content c = λ content h.
    rw c.spaced-2.ensures (plain_first c.args.rule (chars c.args.text.now) content c.in_ok-c.c (chars c.in_ok-c.rest.now) (char_some (chars c.args.text.now) (chars c.in_ok-c.rest.now) c.in_ok-c.c c.in_ok-c.ensures.read) (sym c.begins_reference.ensures ∙ c.if-begins_reference.false) (ne_eqb c.in_ok-c.c 13 c.if-c-eq13.false) h)
