use Rattle.std.proofs.Common.{ap, ◌∙◌, ℕ, List}
use Rattle.std.specs.Str.{chars}
use Rattle.std.specs.Prelude.{option_map}
use Rattle.xml_chars.specs.Shown.{Shown, character}
use Rattle.xml_chars.proofs.ReferenceLemmas.{hex_reference, decimal_reference, named_reference}
use Rattle.xml_chars.proofs.references.reference_of.Goals as goal

pub returns-in_err-c-clause-read : goal.returns-in_err-c-clause-read
returns-in_err-c-clause-read c =
    rw c.from_residual.ensures (hex_reference (chars c.args.text.now) (chars c.in-Some.rest.now) c.in-Some.ensures.read ∙ ap (option_map (λ (p : ℕ × List ℕ). let q : Shown × List ℕ = (character p.0, p.1) in q)) c.in_err-c.ensures.read)

pub returns-in-Some-clause-read : goal.returns-in-Some-clause-read
returns-in-Some-clause-read c =
    hex_reference (chars c.args.text.now) (chars c.in-Some.rest.now) c.in-Some.ensures.read ∙ ap (option_map (λ (p : ℕ × List ℕ). let q : Shown × List ℕ = (character p.0, p.1) in q)) c.in_ok-c.ensures.read

pub returns-in_err-c-2-clause-read : goal.returns-in_err-c-2-clause-read
returns-in_err-c-2-clause-read c =
    rw c.from_residual-in_err-c-2.ensures (decimal_reference (chars c.args.text.now) (chars c.in-Some-word_of.rest.now) c.in_default.ensures.read c.in-Some-word_of.ensures.read ∙ ap (option_map (λ (p : ℕ × List ℕ). let q : Shown × List ℕ = (character p.0, p.1) in q)) c.in_err-c-2.ensures.read)

pub returns-in-Some-word_of-clause-read : goal.returns-in-Some-word_of-clause-read
returns-in-Some-word_of-clause-read c =
    decimal_reference (chars c.args.text.now) (chars c.in-Some-word_of.rest.now) c.in_default.ensures.read c.in-Some-word_of.ensures.read ∙ ap (option_map (λ (p : ℕ × List ℕ). let q : Shown × List ℕ = (character p.0, p.1) in q)) c.in_ok-c-2.ensures.read

pub returns-in_err-entity-clause-read : goal.returns-in_err-entity-clause-read
returns-in_err-entity-clause-read c =
    rw c.from_residual-in_err-entity.ensures (named_reference (chars c.args.text.now) c.in_default-word_of.ensures.read ∙ c.in_err-entity.ensures.read)

pub returns-clause-read : goal.returns-clause-read
returns-clause-read c = named_reference (chars c.args.text.now) c.in_default-word_of.ensures.read ∙ c.in_ok-entity.ensures.read
