use Rattle.std.proofs.Common.{◌≡◌, None, sym}
use Rattle.vtd_text.specs.Joined.{rule_of}
use Rattle.vtd_text.proofs.PieceLemmas.{nothing_left}
use Rattle.vtd_text.proofs.row.record_of.Goals as goal

pub returns-in-None : goal.returns-in-None
returns-in-None c = λ content h.
    let e : rule_of c.args.parts.token ≡ None = sym c.in-None.ensures in
    nothing_left content (rw e at h)
