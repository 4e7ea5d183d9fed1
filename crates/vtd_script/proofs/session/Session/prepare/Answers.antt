use Rattle.std.proofs.Common.{None, ap}
use Rattle.std.specs.Prelude.{encode_utf8_all}
use Rattle.vtd_modifier.specs.declared.operation.Operation.TheVariants as operations
use Rattle.vtd_script.specs.States.{state_of}
use Rattle.vtd_script.specs.Steps.{Stages, has_file}
use Rattle.vtd_lines.specs.declared.commands.Command.TheVariants.{After, Apply, Attr, Before, Discard, Elements, First, Index, Last, Ns, Redo}
use Rattle.vtd_lines.specs.declared.commands.Command.TheVariants.{Remove, Rename, Replace, Save, Select, Set, Undo, Value}
use Rattle.vtd_script.proofs.Parts.{has_by, prepares_as, staging_as, stages_no_file, stays_ready, stays_staging}
use Rattle.vtd_script.proofs.StageLemmas.{as_after, as_attr, as_before, as_first, as_last, as_rename, as_replace, as_set}
use Rattle.vtd_script.proofs.session.Session.prepare.Goals as goal

pub returns-in-Elements-clause-known : goal.returns-in-Elements-clause-known
returns-in-Elements-clause-known g c = λ map files. prepares_as _ c.args.command Elements _ _ c.list_elements.result c.in-Elements.is
    (c.list_elements.ensures.known map)

pub returns-in-Ns-clause-known : goal.returns-in-Ns-clause-known
returns-in-Ns-clause-known g c = λ map files. prepares_as _ c.args.command (Ns c.in-Ns.prefix c.in-Ns.uri) _ _ c.bind.result c.in-Ns.is
    (c.bind.ensures.known map)

pub returns-in-Discard-clause-known : goal.returns-in-Discard-clause-known
returns-in-Discard-clause-known g c = λ map files. prepares_as _ c.args.command Discard _ _ c.discard.result c.in-Discard.is (c.discard.ensures.known map)

pub returns-in-Undo-clause-known : goal.returns-in-Undo-clause-known
returns-in-Undo-clause-known g c = λ map files. prepares_as _ c.args.command Undo _ _ c.undo.result c.in-Undo.is (c.undo.ensures.known map)

pub returns-in-Redo-clause-known : goal.returns-in-Redo-clause-known
returns-in-Redo-clause-known g c = λ map files. prepares_as _ c.args.command Redo _ _ c.redo.result c.in-Redo.is (c.redo.ensures.known map)

pub returns-in-Apply-clause-known : goal.returns-in-Apply-clause-known
returns-in-Apply-clause-known g c = λ map files. prepares_as _ c.args.command Apply _ _ c.apply.result c.in-Apply.is (c.apply.ensures.known map)

pub returns-in-Save-clause-known : goal.returns-in-Save-clause-known
returns-in-Save-clause-known g c = λ map files. prepares_as _ c.args.command (Save c.in-Save.file) _ _ c.save.result c.in-Save.is (c.save.ensures.known map)

pub returns-in-Elements-clause-stays : goal.returns-in-Elements-clause-stays
returns-in-Elements-clause-stays g c = stays_ready ⊥ Elements _ _ c.list_elements.result c.list_elements.ensures.known

pub returns-in-Ns-clause-stays : goal.returns-in-Ns-clause-stays
returns-in-Ns-clause-stays g c = stays_ready ⊥ (Ns c.in-Ns.prefix c.in-Ns.uri) _ _ c.bind.result c.bind.ensures.known

pub returns-in-Discard-clause-stays : goal.returns-in-Discard-clause-stays
returns-in-Discard-clause-stays g c = stays_ready ⊥ Discard _ _ c.discard.result c.discard.ensures.known

pub returns-in-Undo-clause-stays : goal.returns-in-Undo-clause-stays
returns-in-Undo-clause-stays g c = stays_ready ⊥ Undo _ _ c.undo.result c.undo.ensures.known

pub returns-in-Redo-clause-stays : goal.returns-in-Redo-clause-stays
returns-in-Redo-clause-stays g c = stays_ready ⊥ Redo _ _ c.redo.result c.redo.ensures.known

pub returns-in-Apply-clause-stays : goal.returns-in-Apply-clause-stays
returns-in-Apply-clause-stays g c = stays_ready ⊥ Apply _ _ c.apply.result c.apply.ensures.known

pub returns-in-Save-clause-stays : goal.returns-in-Save-clause-stays
returns-in-Save-clause-stays g c = stays_ready ⊥ (Save c.in-Save.file) _ _ c.save.result c.save.ensures.known

pub returns-in-Select-clause-known : goal.returns-in-Select-clause-known
returns-in-Select-clause-known g c = λ map files. prepares_as _ c.args.command (Select c.in-Select.expr) _ _ c.select.result c.in-Select.is
    (c.select.ensures.known map)

pub returns-in-Select-clause-stays : goal.returns-in-Select-clause-stays
returns-in-Select-clause-stays g c = stays_ready ⊥ (Select c.in-Select.expr) _ _ c.select.result c.select.ensures.known

pub returns-in-Value-clause-known : goal.returns-in-Value-clause-known
returns-in-Value-clause-known g c = λ map files. prepares_as _ c.args.command (Value c.in-Value.expr) _ _ c.value.result c.in-Value.is
    (c.value.ensures.known map)

pub returns-in-Value-clause-stays : goal.returns-in-Value-clause-stays
returns-in-Value-clause-stays g c = stays_ready ⊥ (Value c.in-Value.expr) _ _ c.value.result c.value.ensures.known

pub returns-in-Remove-clause-known : goal.returns-in-Remove-clause-known
returns-in-Remove-clause-known g c = λ map files. staging_as _ c.args.command (Remove c.in-Remove.expr)
    (λ s a. Stages (encode_utf8_all c.in-Remove.expr) operations.Remove s a) _ _ c.stage.result c.in-Remove.is
    (λ a h. h) (c.stage.ensures.known map)

pub returns-in-Remove-clause-stays : goal.returns-in-Remove-clause-stays
returns-in-Remove-clause-stays g c = stays_staging (λ s a. Stages (encode_utf8_all c.in-Remove.expr) operations.Remove s a) _ _ c.stage.result
    c.stage.ensures.known

pub returns-in-Replace-clause-known : goal.returns-in-Replace-clause-known
returns-in-Replace-clause-known g c = λ map files. staging_as _ c.args.command (Replace c.in-Replace.expr c.in-Replace.text)
    (λ s a. Stages (encode_utf8_all c.in-Replace.expr) (operations.Replace c.utf8_of.result) s a) _ _ c.stage-in-Replace.result c.in-Replace.is
    (λ a h. as_replace (encode_utf8_all c.in-Replace.expr) c.utf8_of.result (encode_utf8_all c.in-Replace.text) _ a c.utf8_of.ensures h) (c.stage-in-Replace.ensures.known map)

pub returns-in-Replace-clause-stays : goal.returns-in-Replace-clause-stays
returns-in-Replace-clause-stays g c = stays_staging (λ s a. Stages (encode_utf8_all c.in-Replace.expr) (operations.Replace c.utf8_of.result) s a) _ _ c.stage-in-Replace.result
    c.stage-in-Replace.ensures.known

pub returns-in-Before-clause-known : goal.returns-in-Before-clause-known
returns-in-Before-clause-known g c = λ map files. staging_as _ c.args.command (Before c.in-Before.expr c.in-Before.text)
    (λ s a. Stages (encode_utf8_all c.in-Before.expr) (operations.Before c.utf8_of-in-Before.result) s a) _ _ c.stage-in-Before.result c.in-Before.is
    (λ a h. as_before (encode_utf8_all c.in-Before.expr) c.utf8_of-in-Before.result (encode_utf8_all c.in-Before.text) _ a c.utf8_of-in-Before.ensures h) (c.stage-in-Before.ensures.known map)

pub returns-in-Before-clause-stays : goal.returns-in-Before-clause-stays
returns-in-Before-clause-stays g c = stays_staging (λ s a. Stages (encode_utf8_all c.in-Before.expr) (operations.Before c.utf8_of-in-Before.result) s a) _ _ c.stage-in-Before.result
    c.stage-in-Before.ensures.known

pub returns-in-After-clause-known : goal.returns-in-After-clause-known
returns-in-After-clause-known g c = λ map files. staging_as _ c.args.command (After c.in-After.expr c.in-After.text)
    (λ s a. Stages (encode_utf8_all c.in-After.expr) (operations.After c.utf8_of-in-After.result) s a) _ _ c.stage-in-After.result c.in-After.is
    (λ a h. as_after (encode_utf8_all c.in-After.expr) c.utf8_of-in-After.result (encode_utf8_all c.in-After.text) _ a c.utf8_of-in-After.ensures h) (c.stage-in-After.ensures.known map)

pub returns-in-After-clause-stays : goal.returns-in-After-clause-stays
returns-in-After-clause-stays g c = stays_staging (λ s a. Stages (encode_utf8_all c.in-After.expr) (operations.After c.utf8_of-in-After.result) s a) _ _ c.stage-in-After.result
    c.stage-in-After.ensures.known

pub returns-in-First-clause-known : goal.returns-in-First-clause-known
returns-in-First-clause-known g c = λ map files. staging_as _ c.args.command (First c.in-First.expr c.in-First.text)
    (λ s a. Stages (encode_utf8_all c.in-First.expr) (operations.First c.utf8_of-in-First.result) s a) _ _ c.stage-in-First.result c.in-First.is
    (λ a h. as_first (encode_utf8_all c.in-First.expr) c.utf8_of-in-First.result (encode_utf8_all c.in-First.text) _ a c.utf8_of-in-First.ensures h) (c.stage-in-First.ensures.known map)

pub returns-in-First-clause-stays : goal.returns-in-First-clause-stays
returns-in-First-clause-stays g c = stays_staging (λ s a. Stages (encode_utf8_all c.in-First.expr) (operations.First c.utf8_of-in-First.result) s a) _ _ c.stage-in-First.result
    c.stage-in-First.ensures.known

pub returns-in-Last-clause-known : goal.returns-in-Last-clause-known
returns-in-Last-clause-known g c = λ map files. staging_as _ c.args.command (Last c.in-Last.expr c.in-Last.text)
    (λ s a. Stages (encode_utf8_all c.in-Last.expr) (operations.Last c.utf8_of-in-Last.result) s a) _ _ c.stage-in-Last.result c.in-Last.is
    (λ a h. as_last (encode_utf8_all c.in-Last.expr) c.utf8_of-in-Last.result (encode_utf8_all c.in-Last.text) _ a c.utf8_of-in-Last.ensures h) (c.stage-in-Last.ensures.known map)

pub returns-in-Last-clause-stays : goal.returns-in-Last-clause-stays
returns-in-Last-clause-stays g c = stays_staging (λ s a. Stages (encode_utf8_all c.in-Last.expr) (operations.Last c.utf8_of-in-Last.result) s a) _ _ c.stage-in-Last.result
    c.stage-in-Last.ensures.known

pub returns-in-Attr-clause-known : goal.returns-in-Attr-clause-known
returns-in-Attr-clause-known g c = λ map files. staging_as _ c.args.command (Attr c.in-Attr.expr c.in-Attr.text)
    (λ s a. Stages (encode_utf8_all c.in-Attr.expr) (operations.Attr c.utf8_of-in-Attr.result) s a) _ _ c.stage-in-Attr.result c.in-Attr.is
    (λ a h. as_attr (encode_utf8_all c.in-Attr.expr) c.utf8_of-in-Attr.result (encode_utf8_all c.in-Attr.text) _ a c.utf8_of-in-Attr.ensures h) (c.stage-in-Attr.ensures.known map)

pub returns-in-Attr-clause-stays : goal.returns-in-Attr-clause-stays
returns-in-Attr-clause-stays g c = stays_staging (λ s a. Stages (encode_utf8_all c.in-Attr.expr) (operations.Attr c.utf8_of-in-Attr.result) s a) _ _ c.stage-in-Attr.result
    c.stage-in-Attr.ensures.known

pub returns-in-Set-clause-known : goal.returns-in-Set-clause-known
returns-in-Set-clause-known g c = λ map files. staging_as _ c.args.command (Set c.in-Set.expr c.in-Set.text)
    (λ s a. Stages (encode_utf8_all c.in-Set.expr) (operations.Set c.utf8_of-in-Set.result) s a) _ _ c.stage-in-Set.result c.in-Set.is
    (λ a h. as_set (encode_utf8_all c.in-Set.expr) c.utf8_of-in-Set.result (encode_utf8_all c.in-Set.text) _ a c.utf8_of-in-Set.ensures h) (c.stage-in-Set.ensures.known map)

pub returns-in-Set-clause-stays : goal.returns-in-Set-clause-stays
returns-in-Set-clause-stays g c = stays_staging (λ s a. Stages (encode_utf8_all c.in-Set.expr) (operations.Set c.utf8_of-in-Set.result) s a) _ _ c.stage-in-Set.result
    c.stage-in-Set.ensures.known

pub returns-in-Rename-clause-known : goal.returns-in-Rename-clause-known
returns-in-Rename-clause-known g c = λ map files. staging_as _ c.args.command (Rename c.in-Rename.expr c.in-Rename.name)
    (λ s a. Stages (encode_utf8_all c.in-Rename.expr) (operations.Rename c.utf8_of-in-Rename.result) s a) _ _ c.stage-in-Rename.result c.in-Rename.is
    (λ a h. as_rename (encode_utf8_all c.in-Rename.expr) c.utf8_of-in-Rename.result (encode_utf8_all c.in-Rename.name) _ a c.utf8_of-in-Rename.ensures h) (c.stage-in-Rename.ensures.known map)

pub returns-in-Rename-clause-stays : goal.returns-in-Rename-clause-stays
returns-in-Rename-clause-stays g c = stays_staging (λ s a. Stages (encode_utf8_all c.in-Rename.expr) (operations.Rename c.utf8_of-in-Rename.result) s a) _ _ c.stage-in-Rename.result
    c.stage-in-Rename.ensures.known

pub returns-in-Index-clause-known : goal.returns-in-Index-clause-known
returns-in-Index-clause-known g c = λ map files. prepares_as _ c.args.command (Index c.in-Index.file) _ _ c.index.result c.in-Index.is
    (c.index.ensures.known map)

pub returns-in-Index-clause-stays : goal.returns-in-Index-clause-stays
returns-in-Index-clause-stays g c = stays_ready ⊥ (Index c.in-Index.file) _ _ c.index.result c.index.ensures.known

pub returns-in-Elements-clause-asks : goal.returns-in-Elements-clause-asks
returns-in-Elements-clause-asks g c = has_by c.args.command Elements _ _ c.list_elements.result c.in-Elements.is c.list_elements.ensures.no_file (c.list_elements.ensures.known (λ name. None))

pub returns-in-Ns-clause-asks : goal.returns-in-Ns-clause-asks
returns-in-Ns-clause-asks g c = has_by c.args.command (Ns c.in-Ns.prefix c.in-Ns.uri) _ _ c.bind.result c.in-Ns.is c.bind.ensures.no_file (c.bind.ensures.known (λ name. None))

pub returns-in-Select-clause-asks : goal.returns-in-Select-clause-asks
returns-in-Select-clause-asks g c = has_by c.args.command (Select c.in-Select.expr) _ _ c.select.result c.in-Select.is c.select.ensures.no_file (c.select.ensures.known (λ name. None))

pub returns-in-Value-clause-asks : goal.returns-in-Value-clause-asks
returns-in-Value-clause-asks g c = has_by c.args.command (Value c.in-Value.expr) _ _ c.value.result c.in-Value.is c.value.ensures.no_file (c.value.ensures.known (λ name. None))

pub returns-in-Discard-clause-asks : goal.returns-in-Discard-clause-asks
returns-in-Discard-clause-asks g c =
    has_by c.args.command Discard (state_of c.args.self.now (λ name. None)) (state_of c.discard.new.self (λ name. None)) c.discard.result c.in-Discard.is c.discard.ensures.no_file (c.discard.ensures.known (λ name. None))

pub returns-in-Undo-clause-asks : goal.returns-in-Undo-clause-asks
returns-in-Undo-clause-asks g c = has_by c.args.command Undo _ _ c.undo.result c.in-Undo.is c.undo.ensures.no_file (c.undo.ensures.known (λ name. None))

pub returns-in-Redo-clause-asks : goal.returns-in-Redo-clause-asks
returns-in-Redo-clause-asks g c = has_by c.args.command Redo _ _ c.redo.result c.in-Redo.is c.redo.ensures.no_file (c.redo.ensures.known (λ name. None))

pub returns-in-Apply-clause-asks : goal.returns-in-Apply-clause-asks
returns-in-Apply-clause-asks g c = has_by c.args.command Apply _ _ c.apply.result c.in-Apply.is c.apply.ensures.no_file (c.apply.ensures.known (λ name. None))

pub returns-in-Save-clause-asks : goal.returns-in-Save-clause-asks
returns-in-Save-clause-asks g c = has_by c.args.command (Save c.in-Save.file) _ _ c.save.result c.in-Save.is c.save.ensures.no_file (c.save.ensures.known (λ name. None))

pub returns-in-Index-clause-asks : goal.returns-in-Index-clause-asks
returns-in-Index-clause-asks g c = has_by c.args.command (Index c.in-Index.file) _ _ c.index.result c.in-Index.is c.index.ensures.no_file (c.index.ensures.known (λ name. None))

pub returns-in-Remove-clause-asks : goal.returns-in-Remove-clause-asks
returns-in-Remove-clause-asks g c = stages_no_file c.args.command (λ s a. Stages (encode_utf8_all c.in-Remove.expr) operations.Remove s a) _ _ c.stage.result
    (c.stage.ensures.known (λ name. None))

pub returns-in-Replace-clause-asks : goal.returns-in-Replace-clause-asks
returns-in-Replace-clause-asks g c = stages_no_file c.args.command (λ s a. Stages (encode_utf8_all c.in-Replace.expr) (operations.Replace c.utf8_of.result) s a) _ _ c.stage-in-Replace.result
    (c.stage-in-Replace.ensures.known (λ name. None))

pub returns-in-Before-clause-asks : goal.returns-in-Before-clause-asks
returns-in-Before-clause-asks g c = stages_no_file c.args.command (λ s a. Stages (encode_utf8_all c.in-Before.expr) (operations.Before c.utf8_of-in-Before.result) s a) _ _ c.stage-in-Before.result
    (c.stage-in-Before.ensures.known (λ name. None))

pub returns-in-After-clause-asks : goal.returns-in-After-clause-asks
returns-in-After-clause-asks g c = stages_no_file c.args.command (λ s a. Stages (encode_utf8_all c.in-After.expr) (operations.After c.utf8_of-in-After.result) s a) _ _ c.stage-in-After.result
    (c.stage-in-After.ensures.known (λ name. None))

pub returns-in-First-clause-asks : goal.returns-in-First-clause-asks
returns-in-First-clause-asks g c = stages_no_file c.args.command (λ s a. Stages (encode_utf8_all c.in-First.expr) (operations.First c.utf8_of-in-First.result) s a) _ _ c.stage-in-First.result
    (c.stage-in-First.ensures.known (λ name. None))

pub returns-in-Last-clause-asks : goal.returns-in-Last-clause-asks
returns-in-Last-clause-asks g c = stages_no_file c.args.command (λ s a. Stages (encode_utf8_all c.in-Last.expr) (operations.Last c.utf8_of-in-Last.result) s a) _ _ c.stage-in-Last.result
    (c.stage-in-Last.ensures.known (λ name. None))

pub returns-in-Attr-clause-asks : goal.returns-in-Attr-clause-asks
returns-in-Attr-clause-asks g c = stages_no_file c.args.command (λ s a. Stages (encode_utf8_all c.in-Attr.expr) (operations.Attr c.utf8_of-in-Attr.result) s a) _ _ c.stage-in-Attr.result
    (c.stage-in-Attr.ensures.known (λ name. None))

pub returns-in-Set-clause-asks : goal.returns-in-Set-clause-asks
returns-in-Set-clause-asks g c = stages_no_file c.args.command (λ s a. Stages (encode_utf8_all c.in-Set.expr) (operations.Set c.utf8_of-in-Set.result) s a) _ _ c.stage-in-Set.result
    (c.stage-in-Set.ensures.known (λ name. None))

pub returns-in-Rename-clause-asks : goal.returns-in-Rename-clause-asks
returns-in-Rename-clause-asks g c = stages_no_file c.args.command (λ s a. Stages (encode_utf8_all c.in-Rename.expr) (operations.Rename c.utf8_of-in-Rename.result) s a) _ _ c.stage-in-Rename.result
    (c.stage-in-Rename.ensures.known (λ name. None))

pub returns-in-Open-clause-asks : goal.returns-in-Open-clause-asks
returns-in-Open-clause-asks g c = λ t. ap has_file c.in-Open.is

pub returns-in-Load-clause-asks : goal.returns-in-Load-clause-asks
returns-in-Load-clause-asks g c = λ t. ap has_file c.in-Load.is
