use Rattle.std.proofs.Common.{rules, sym, ◌∙◌}
use Rattle.std.specs.Str.{IsUtf8}
use Rattle.xml_items.proofs.StepLemmas.{space_there, space_gone}
use Rattle.xml_items.proofs.UnitLemmas.{doctype_1, doctype_2, doctype_3, doctype_4, doctype_5, doctype_6}
use Rattle.xml_items.proofs.doctypes.doctype_at.Goals as goal

pub returns-in_err-content : goal.returns-in_err-content
returns-in_err-content c = rw c.from_residual.ensures (sym (doctype_1 c.args.at _ c.in_err-content.ensures.read))

pub returns-then-is_empty : goal.returns-then-is_empty
returns-then-is_empty c = sym (doctype_2 c.args.at _ _ _ _ c.in_ok-content.ensures.read c.space_of.ensures.read (space_gone c.space_of.result.0.now (sym c.is_empty.ensures ∙ c.if-is_empty.true)))

pub returns-in_err-after_name : goal.returns-in_err-after_name
returns-in_err-after_name c =
    let v : IsUtf8 c.space_of.result.0.now = search rules in
    rw c.from_residual-in_err-after_name.ensures (sym (doctype_3 c.args.at _ _ _ _ c.in_ok-content.ensures.read c.space_of.ensures.read (space_there c.space_of.result.0.now v (sym c.is_empty.ensures ∙ c.if-is_empty.false)) c.in_err-after_name.ensures.read))

pub returns-in_err-end : goal.returns-in_err-end
returns-in_err-end c =
    let v : IsUtf8 c.space_of.result.0.now = search rules in
    rw c.from_residual-in_err-end.ensures (sym (doctype_4 c.args.at _ _ _ _ _ _ c.in_ok-content.ensures.read c.space_of.ensures.read (space_there c.space_of.result.0.now v (sym c.is_empty.ensures ∙ c.if-is_empty.false)) c.in_ok-after_name.ensures.read c.in_err-end.ensures.read))

pub returns-in_err-rest : goal.returns-in_err-rest
returns-in_err-rest c =
    let v : IsUtf8 c.space_of.result.0.now = search rules in
    rw c.from_residual-in_err-rest.ensures (sym (doctype_5 c.args.at _ _ _ _ _ _ _ c.in_ok-content.ensures.read c.space_of.ensures.read (space_there c.space_of.result.0.now v (sym c.is_empty.ensures ∙ c.if-is_empty.false)) c.in_ok-after_name.ensures.read c.in_ok-end.ensures.read c.in_err-rest.ensures.read))

pub returns : goal.returns
returns c =
    let v : IsUtf8 c.space_of.result.0.now = search rules in
    let ua : IsUtf8 c.in_ok-content.content.now = search rules in
    let ub : IsUtf8 c.space_of.result.1.now = search rules in
    let uc : IsUtf8 c.in_ok-after_name.after_name.now = search rules in
    let ud : IsUtf8 c.in_ok-end.end.now = search rules in
    let ue : IsUtf8 c.in_ok-rest.rest.now = search rules in
    rw (c.span_between.ensures, c.span_between-2.ensures, c.span_between-3.ensures) (doctype_6 c.args.at c.args.text.now _ _ _ _ _ _ _ c.utf8.text ua ub uc ud ue c.in_ok-content.ensures.read c.space_of.ensures.read (space_there c.space_of.result.0.now v (sym c.is_empty.ensures ∙ c.if-is_empty.false)) c.in_ok-after_name.ensures.read c.in_ok-end.ensures.read c.in_ok-rest.ensures.read)
