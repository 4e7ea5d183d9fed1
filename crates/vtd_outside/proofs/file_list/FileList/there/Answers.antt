use Rattle.vtd_outside.specs.Objects.{bytes_if}
use Rattle.vtd_outside.proofs.Held.{absent_said, slot_named, slot_within, there_is, there_is_none}
use Rattle.vtd_outside.proofs.file_list.FileList.there.Goals as goal

pub returns-in_default-clause-none : goal.returns-in_default-clause-none
returns-in_default-clause-none c = absent_said bytes_if c.args.self.now c.args.name.now c.in_default.ensures.none

pub is_there-requires : goal.is_there-requires
is_there-requires c = slot_within c.args.self.now c.args.name.now c.in-Some.index c.in-Some.ensures.some

pub returns-then-is_there-clause-found : goal.returns-then-is_there-clause-found
returns-then-is_there-clause-found c =
    there_is c.args.self.now c.args.name.now c.in-Some.index c.is_there.result c.in-Some.ensures.some c.is_there.ensures c.if-is_there.true

pub returns-then-is_there-clause-named : goal.returns-then-is_there-clause-named
returns-then-is_there-clause-named c = slot_named c.args.self.now c.args.name.now c.in-Some.index c.in-Some.ensures.some

pub returns-then-is_there-clause-within : goal.returns-then-is_there-clause-within
returns-then-is_there-clause-within c = slot_within c.args.self.now c.args.name.now c.in-Some.index c.in-Some.ensures.some

pub returns-clause-none : goal.returns-clause-none
returns-clause-none c =
    there_is_none c.args.self.now c.args.name.now c.in-Some.index c.is_there.result c.in-Some.ensures.some c.is_there.ensures c.if-is_there.false
