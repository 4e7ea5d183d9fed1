use Rattle.std.proofs.Common.{sym, ap, ◌∙◌, ◌++◌, List, ℕ}
use lib.Utf8.{encode}
use Rattle.xml_chars.proofs.TextLemmas.{step_reads}
use Rattle.xml_chars.proofs.text.step.Goals as goal

pub returns-clause-read : goal.returns-clause-read
returns-clause-read c =
    step_reads c.args.text.now c.as_str.result.now c.in_ok-c.c c.utf8.text
    (sym c.chars-rest.ensures.rest ∙ c.in_ok-c.ensures.steps.0 ∙ ap (λ (l : List ℕ). encode c.in_ok-c.c ++ l) (sym c.as_str.ensures))
