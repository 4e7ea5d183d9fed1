use Rattle.vtd_history.specs.Versions.{version_at}
use Rattle.vtd_history.proofs.Making.{staged_within}
use Rattle.vtd_history.proofs.steps.turn_staged.Goals as goal

pub stage-requires : goal.stage-requires
stage-requires c = staged_within c.args.count c.args.taken (version_at c.args.document.now c.args.edits.now) (cc) c.requires
