use Rattle.std.proofs.Common.{List, map, IfSome, IfNone, ap, subst, ◌∙◌}
use Rattle.vtd_outside.specs.Objects.{NamedFile}
use Rattle.vtd_outside.specs.Held.{shown, IsSlot, IsAbsent}
use Rattle.vtd_outside.proofs.Held.{index_is, index_none}
use Rattle.vtd_outside.proofs.file_list.FileList.slot.Goals as goal

pub returns-clause-some : goal.returns-clause-some
returns-clause-some c =
    subst (λ (files : List NamedFile). IfSome c.index_of.result (λ index. IsSlot files c.args.name.now index))
    (ap (map shown) c.as_slice.ensures.value ∙ c.self.view_is)
    (index_is c.as_slice.result.now c.args.name.now c.index_of.result c.index_of.ensures)

pub returns-clause-none : goal.returns-clause-none
returns-clause-none c =
    subst (λ (files : List NamedFile). IfNone c.index_of.result (IsAbsent files c.args.name.now)) (ap (map shown) c.as_slice.ensures.value ∙ c.self.view_is)
    (index_none c.as_slice.result.now c.args.name.now c.index_of.result c.index_of.ensures)
