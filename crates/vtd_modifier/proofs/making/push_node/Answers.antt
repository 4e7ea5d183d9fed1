use Rattle.std.proofs.Common.{◌≡◌, List, ◌++◌, ℕ, Bool, true, ap, ap₂, sym, ◌∙◌, subst, length}
use Rattle.vtd_edits.specs.declared.splice.Splice.{Splice}
use Rattle.vtd_modifier.specs.declared.parts.Part.{Part}
use Rattle.vtd_modifier.specs.declared.operation.Operation.{Operation}
use Rattle.vtd_modifier.specs.Outcomes.{TakesRow}
use Rattle.vtd_modifier.specs.Parts.{part_of}
use Rattle.vtd_modifier.specs.Rows.{row, AddsRow, IsPart}
use Rattle.vtd_modifier.proofs.NodePlaces.{part_within}
use Rattle.vtd_modifier.proofs.RowsWithin.{taken_within}
use Rattle.vtd_modifier.proofs.making.push_node.Goals as goal

pub push_row-requires : goal.push_row-requires
push_row-requires g c =
    let n = c.requires in
    rw (c.bytes.ensures.value, c.table.ensures.value) (subst (IsPart (length c.args.nav.now.bytes)) (sym (c.part_of-part.ensures n.nest n.shown n.entry n.holds))
    (part_within _ _ c.table.ensures.nav.few n.nest n.shown _ _ n.entry n.holds))

taken : (bytes bytes' : List ℕ) (operation : Operation) (part part' : Part) (old new : List Splice) → bytes ≡ bytes' → part ≡ part' →
    (b : Bool) → b ≡ true → AddsRow (row bytes operation part) old new b → TakesRow (row bytes' operation part') old new
taken bytes bytes' operation part part' old new p q b t h =
    let k = subst (AddsRow (row bytes operation part) old new) t h in
    record { mine = k.0; is = sym (ap₂ (λ b x. row b operation x) p q) ∙ k.1; added = k.2 }

pub returns-in-Ok-true-clause-within : goal.returns-in-Ok-true-clause-within
returns-in-Ok-true-clause-within g c =
    let n = c.requires in
    let here = c.args.nav.now.bytes in
    let is : c.bytes.result.now ≡ here = c.bytes.ensures.value ∙ ap (λ t. t.bytes) c.table.ensures.value in
    taken_within here _ n.nest n.shown _ _ n.entry n.holds c.args.operation _ _
    (taken _ here c.args.operation _ (part_of here n.entry) c.args.out.now.items c.push_row.new.out.items is
    (c.part_of-part.ensures n.nest n.shown n.entry n.holds) c.in-Ok-true.field-0 c.in-Ok-true.field-0-test c.in-Ok-true.ensures)
