use Rattle.std.proofs.lemmas.Map.Text.{btree_map_updates_str}
use Rattle.std.proofs.Common.{Some}
use Rattle.vtd_fragment.proofs.prefixes.put.Goals as goal

pub returns-in-Ok : goal.returns-in-Ok
returns-in-Ok c = λ bs. btree_map_updates_str c.args.prefix.now c.args.prefixes.now c.insert.new.self (Some c.args.declared) c.in-Ok.ensures.updates bs
