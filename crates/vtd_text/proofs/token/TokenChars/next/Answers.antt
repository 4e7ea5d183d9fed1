use Rattle.std.proofs.Common.{ℕ, List, subst}
use Rattle.std.specs.Str.{chars}
use Rattle.vtd_text.specs.Tokens.{HasContent}
use Rattle.vtd_text.proofs.token.TokenChars.next.Goals as goal

pub returns-in_err-c-clause-content : goal.returns-in_err-c-clause-content
returns-in_err-c-clause-content c = λ content h.
    rw c.from_residual.ensures (record {
      none = c.in_err-c.ensures.content content h;
      rest = subst (λ (l : List ℕ). HasContent c.args.self.now.rule (chars c.args.self.now.text.now) l) (c.in_err-c.ensures.content content h) h;
    })
