use Rattle.vtd_text.proofs.JoinedLemmas.{plain_step}
use Rattle.vtd_text.proofs.row.Row.next_plain.Goals as goal

pub returns-clause-content : goal.returns-clause-content
returns-clause-content g c = λ rs content h.
    rw c.next_plain.ensures.rule (plain_step c.args.self.now.bytes.now rs c.args.self.now.token.rule c.args.self.now.token.text.now _ c.next_plain.new.self.text.now c.args.self.now.at c.args.self.now.end content c.next_plain.ensures.content h)
