use Rattle.std.proofs.Common.{rules, sym, ◌∙◌}
use Rattle.std.specs.Str.{IsUtf8}
use Rattle.xml_items.proofs.MarkSpans.{instruction_1, instruction_2, instruction_3, instruction_4, instruction_5, instruction_6, instruction_7}
use Rattle.xml_items.proofs.marks.instruction_at.Goals as goal

pub returns-in_err-after_open : goal.returns-in_err-after_open
returns-in_err-after_open c = rw c.from_residual.ensures (sym (instruction_1 c.args.at _ c.in_err-after_open.ensures.read))

pub returns-in_err-target : goal.returns-in_err-target
returns-in_err-target c = rw c.from_residual-in_err-target.ensures (sym (instruction_2 c.args.at _ _ c.in_ok-after_open.ensures.read c.in_err-target.ensures.read))

pub returns-then-is_xml : goal.returns-then-is_xml
returns-then-is_xml c = sym (instruction_3 c.args.at _ _ _ _ c.in_ok-after_open.ensures.read c.in_ok-target.ensures.read (sym c.is_xml.ensures ∙ c.if-is_xml.true))

pub returns-in_err-end : goal.returns-in_err-end
returns-in_err-end c = rw c.from_residual-in_err-end.ensures (sym (instruction_4 c.args.at _ _ _ _ _ _ c.in_ok-after_open.ensures.read c.in_ok-target.ensures.read (sym c.is_xml.ensures ∙ c.if-is_xml.false) c.space_of.ensures.read c.in_err-end.ensures.read))

pub returns-in_err-rest : goal.returns-in_err-rest
returns-in_err-rest c = rw c.from_residual-in_err-rest.ensures (sym (instruction_5 c.args.at _ _ _ _ _ _ _ c.in_ok-after_open.ensures.read c.in_ok-target.ensures.read (sym c.is_xml.ensures ∙ c.if-is_xml.false) c.space_of.ensures.read c.in_ok-end.ensures.read c.in_err-rest.ensures.read))

pub returns-then-not-is_parted : goal.returns-then-not-is_parted
returns-then-not-is_parted c =
    let usp : IsUtf8 c.space_of.result.0.now = search rules in
    let uc : IsUtf8 c.space_of.result.1.now = search rules in
    let ud : IsUtf8 c.in_ok-end.end.now = search rules in
    sym (instruction_6 c.args.at c.args.text.now _ _ _ _ _ _ _ usp uc ud c.in_ok-after_open.ensures.read c.in_ok-target.ensures.read (sym c.is_xml.ensures ∙ c.if-is_xml.false) c.space_of.ensures.read c.in_ok-end.ensures.read c.in_ok-rest.ensures.read (sym c.is_parted.ensures ∙ c.if-not-is_parted.true))

pub returns : goal.returns
returns c =
    let ua : IsUtf8 c.in_ok-after_open.after_open.now = search rules in
    let ub : IsUtf8 c.in_ok-target.after_target.now = search rules in
    let usp : IsUtf8 c.space_of.result.0.now = search rules in
    let uc : IsUtf8 c.space_of.result.1.now = search rules in
    let ud : IsUtf8 c.in_ok-end.end.now = search rules in
    let ue : IsUtf8 c.in_ok-rest.rest.now = search rules in
    rw (c.span_between.ensures, c.span_between-2.ensures, c.span_between-3.ensures) (instruction_7 c.args.at c.args.text.now _ _ _ _ _ _ _ c.utf8.text ua ub usp uc ud ue c.in_ok-after_open.ensures.read c.in_ok-target.ensures.read (sym c.is_xml.ensures ∙ c.if-is_xml.false) c.space_of.ensures.read c.in_ok-end.ensures.read c.in_ok-rest.ensures.read (sym c.is_parted.ensures ∙ c.if-not-is_parted.false))
