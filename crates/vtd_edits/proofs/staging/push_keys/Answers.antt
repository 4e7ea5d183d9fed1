use Rattle.std.proofs.Common.{◌≡◌, ◌+◌, ◌++◌, ◌∷◌, [], sym, rules}
use Rattle.std.proofs.lemmas.List.{get_or_read}
use Rattle.vtd_edits.specs.declared.splice.Splice.TheVariants.{Insert}
use Rattle.vtd_edits.specs.Order.{key}
use Rattle.vtd_edits.proofs.Staged.{keys_step}
use Rattle.vtd_edits.proofs.staging.push_keys.Goals as goal

pub loop-i-preserved : goal.loop-i-preserved
loop-i-preserved c =
    let there = c.loop-i-test.true in
    let added : c.push.new.self.items ≡ c.loop-i.order.items ++ key c.index-list-i.result (c.args.first + c.loop-i.i) ∷ [] = search rules in
    keys_step c.args.first c.loop-i.i c.args.list.now c.index-list-i.result _ _ _ there
    (sym (get_or_read c.args.list.now c.loop-i.i c.index-list-i.result there c.index-list-i.is (Insert 0 []))) c.loop-i.invariant added
