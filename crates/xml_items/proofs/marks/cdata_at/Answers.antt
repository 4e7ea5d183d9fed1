use Rattle.std.proofs.Common.{rules, sym}
use Rattle.std.specs.Str.{IsUtf8}
use Rattle.xml_items.proofs.MarkSpans.{cdata_1, cdata_2, cdata_3, cdata_4}
use Rattle.xml_items.proofs.marks.cdata_at.Goals as goal

pub returns-in_err-content : goal.returns-in_err-content
returns-in_err-content c = rw c.from_residual.ensures (sym (cdata_1 c.args.at _ c.in_err-content.ensures.read))

pub returns-in_err-end : goal.returns-in_err-end
returns-in_err-end c = rw c.from_residual-in_err-end.ensures (sym (cdata_2 c.args.at _ _ c.in_ok-content.ensures.read c.in_err-end.ensures.read))

pub returns-in_err-rest : goal.returns-in_err-rest
returns-in_err-rest c = rw c.from_residual-in_err-rest.ensures (sym (cdata_3 c.args.at _ _ _ c.in_ok-content.ensures.read c.in_ok-end.ensures.read c.in_err-rest.ensures.read))

pub returns : goal.returns
returns c =
    let ua : IsUtf8 c.in_ok-content.content.now = search rules in
    let ub : IsUtf8 c.in_ok-end.end.now = search rules in
    let uc : IsUtf8 c.in_ok-rest.rest.now = search rules in
    rw (c.span_between.ensures, c.span_between-2.ensures, c.span_between-3.ensures) (cdata_4 c.args.at c.args.text.now _ _ _ c.utf8.text ua ub uc c.in_ok-content.ensures.read c.in_ok-end.ensures.read c.in_ok-rest.ensures.read)
