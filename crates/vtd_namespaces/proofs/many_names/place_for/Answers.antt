use Rattle.std.proofs.Common.{refl}
use Rattle.std.proofs.lemmas.List.Sorted.{searchable_from_sorted}
use Rattle.vtd_namespaces.proofs.RoundLemmas.{total, place_found, place_between}
use Rattle.vtd_namespaces.proofs.many_names.place_for.Goals as goal

pub returns-in-Ok : goal.returns-in-Ok
returns-in-Ok c = place_found c.args.round.now (c.args.name, 0) c.in-Ok.at refl c.in-Ok.ensures.bound c.in-Ok.ensures.ok

pub returns-in-Err : goal.returns-in-Err
returns-in-Err c =
    let p = c.in-Err.ensures.position (searchable_from_sorted total (λ a. a) c.args.round.now (c.args.name, 0) c.requires) in
    place_between c.args.round.now (c.args.name, 0) c.in-Err.at refl c.requires p.0 p.1
