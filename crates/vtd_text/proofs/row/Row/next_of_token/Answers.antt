use Rattle.vtd_text.proofs.JoinedLemmas.{token_step}
use Rattle.vtd_text.proofs.row.Row.next_of_token.Goals as goal

pub returns-clause-content : goal.returns-clause-content
returns-clause-content g c = λ rs content h.
    rw c.next.ensures.rule (token_step c.args.self.now.bytes.now rs c.args.self.now.token.rule c.args.self.now.token.text.now c.next.new.self.text.now c.args.self.now.at c.args.self.now.end content c.next.result c.next.ensures.content h)
