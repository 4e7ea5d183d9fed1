use Rattle.xpath_calls.proofs.JoinLemmas.{pushed}
use Rattle.xpath_calls.proofs.joining.push_argument.Goals as goal

pub returns-in-Ok-clause-joined : goal.returns-in-Ok-clause-joined
returns-in-Ok-clause-joined g c = pushed c.args.scope.now c.args.arguments.now c.args.i _ _ _ _ c.push_text.ensures.joined c.in-Ok.ensures.text
