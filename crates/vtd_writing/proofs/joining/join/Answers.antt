use Rattle.std.proofs.Common.{◌≡◌, ℕ, List, rules, subst}
use Rattle.vtd_writing.specs.Joins.{Joins}
use Rattle.vtd_writing.proofs.Joins.{joins_past}
use Rattle.vtd_writing.proofs.joining.join.Goals as goal

pub returns : goal.returns
returns g c =
    let same : c.try_extend_from_slice.new.self.items ≡ c.args.joined.now.items = search rules in
    subst (λ (waiting : List ℕ). Joins (g.F.Files.seen c.args.files.now) (g.F.Files.seen c.append_all.new.files) waiting
    c.try_extend_from_slice-2.new.self.items c.args.bytes.now c.append_all.result) same
    (joins_past _ _ _ c.try_extend_from_slice.new.self.items c.flush.new.joined.items c.try_extend_from_slice-2.new.self.items c.args.bytes.now
    c.in_default.field-0 c.append_all.result
    c.in_default.ensures.adds c.append_all.ensures c.in_default.ensures.empty (search rules))
