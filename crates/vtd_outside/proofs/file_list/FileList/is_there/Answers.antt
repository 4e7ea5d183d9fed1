use Rattle.vtd_outside.proofs.Held.{there_seen}
use Rattle.vtd_outside.proofs.file_list.FileList.is_there.Goals as goal

pub returns : goal.returns
returns c = there_seen c.self.inside.held.items c.args.self.now c.args.index c.index.result.now c.self.view_is c.requires c.index.ensures
