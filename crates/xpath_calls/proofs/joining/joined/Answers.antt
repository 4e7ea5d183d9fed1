use Rattle.std.proofs.Common.{◌<◌, ◌≤◌, ◌∙◌, ap, length, arith}
use Rattle.std.specs.Str.{chars}
use Rattle.std.proofs.lemmas.Str.{chars-nil}
use Rattle.xpath_calls.proofs.JoinLemmas.{begins, goes_on, ends}
use Rattle.xpath_calls.proofs.joining.joined.Goals as goal

pub loop-i-init : goal.loop-i-init
loop-i-init g c = begins _ _ _ (ap chars c.new.ensures.bytes ∙ chars-nil)

pub loop-i-preserved : goal.loop-i-preserved
loop-i-preserved g c =
    let l : c.loop-i.i < length c.args.arguments.now = omega (arith, c.len-i-end.ensures, ap length c.arguments.view_is) in
    goes_on _ _ _ _ _ l c.loop-i.invariant c.in_ok-push_argument.ensures.joined

pub returns-clause-text : goal.returns-clause-text
returns-clause-text g c =
    let l : length c.args.arguments.now ≤ c.loop-i.i = omega (arith, c.len-i-end.ensures, ap length c.arguments.view_is) in
    ends _ _ _ _ l c.loop-i.invariant
