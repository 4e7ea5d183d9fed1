use Rattle.std.proofs.Common.{refl}
use Rattle.vtd_running.proofs.Endings.{line_whole, line_part}
use Rattle.vtd_running.proofs.sending.say_usage.Goals as goal

pub returns-in-Ok-clause-known : goal.returns-in-Ok-clause-known
returns-in-Ok-clause-known g c = λ said to. line_whole _ _ _ _ said c.in-Ok.field-0 _ _ to refl c.in-Ok.ensures.taken

pub returns-in-Err-clause-known : goal.returns-in-Err-clause-known
returns-in-Err-clause-known g c = λ said to. line_part _ _ _ _ said c.in-Err.field-0 _ _ to refl c.in-Err.ensures.taken c.in-Err.ensures.cause.failed
