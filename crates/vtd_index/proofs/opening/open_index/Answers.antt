use Rattle.std.proofs.Common.{ℕ, ◌≡◌, ◌<◌, ◌^◌, length, List, arith}
use Rattle.vtd_index.specs.declared.head.Version.TheVariants.{One, Two}
use Rattle.vtd_index.proofs.Checks.{exactly_version}
use Rattle.vtd_index.proofs.Opens.{built_fault, built_none, built_some, exactly_fault, not_view, view_of}
use Rattle.vtd_index.proofs.opening.open_index.Goals as goal

small : (n : ℕ) (items : List ℕ) → n ≡ length items → n < 2 ^ 32 → length items < 2 ^ 32
small n items e h = omega arith

pub invariant_of-result : goal.invariant_of-result
invariant_of-result c =
    let i = built_none c.args.file.items c.as_slice.result.now c.build_first.result _ c.as_slice.ensures.value c.in-Ok-None.is c.in-Ok-None.field-0-is
    c.build_first.ensures in
    (view_of c.args.file.items (small _ _ c.args.file.ok.0 c.requires) i).loaded

pub returns-in-Ok-None-clause-opened : goal.returns-in-Ok-None-clause-opened
returns-in-Ok-None-clause-opened c =
    let i = built_none c.args.file.items c.as_slice.result.now c.build_first.result _ c.as_slice.ensures.value c.in-Ok-None.is c.in-Ok-None.field-0-is
    c.build_first.ensures in
    view_of c.args.file.items (small _ _ c.args.file.ok.0 c.requires) i

pub returns-in-Ok-Some-clause-view : goal.returns-in-Ok-Some-clause-view
returns-in-Ok-Some-clause-view c =
    let i = built_some c.args.file.items c.as_slice.result.now c.build_first.result _ _ c.as_slice.ensures.value c.in-Ok-Some.is c.in-Ok-Some.field-0-is
    c.build_first.ensures in
    exactly_version c.args.file.items One i Two

pub returns-in-Err-clause-view : goal.returns-in-Err-clause-view
returns-in-Err-clause-view c =
    not_view c.args.file.items c.in-Err.fault
    (built_fault c.args.file.items c.as_slice.result.now c.build_first.result _ c.as_slice.ensures.value c.in-Err.is c.build_first.ensures)

pub returns-in-Err-clause-fault : goal.returns-in-Err-clause-fault
returns-in-Err-clause-fault c =
    exactly_fault c.args.file.items c.in-Err.fault
    (built_fault c.args.file.items c.as_slice.result.now c.build_first.result _ c.as_slice.ensures.value c.in-Err.is c.build_first.ensures)
