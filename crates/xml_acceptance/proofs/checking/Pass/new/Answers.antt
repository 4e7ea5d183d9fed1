use Rattle.std.proofs.Common.{sym, refl, []}
use Rattle.xml_model.specs.Items.{walk}
use Rattle.xml_acceptance.proofs.checking.Pass.new.Goals as goal

pub returns : goal.returns
unfolding walk
returns c = record { items = []; walked = refl; ends = sym c.requires.first; finds = c.new.ensures; nests = c.new-2.ensures c.args.bytes.now }
