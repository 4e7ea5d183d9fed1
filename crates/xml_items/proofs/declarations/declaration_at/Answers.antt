use Rattle.std.proofs.Common.{rules, sym}
use Rattle.std.specs.Str.{IsUtf8}
use Rattle.xml_items.proofs.PartLemmas.{declaration_1, declaration_2, declaration_3, declaration_4, declaration_5, declaration_6}
use Rattle.xml_items.proofs.declarations.declaration_at.Goals as goal

pub returns-in_err-content : goal.returns-in_err-content
returns-in_err-content c = rw c.from_residual.ensures (sym (declaration_1 c.args.at _ c.in_err-content.ensures.read))

pub returns-in_err-after_version : goal.returns-in_err-after_version
returns-in_err-after_version c = rw c.from_residual-in_err-after_version.ensures (sym (declaration_2 c.args.at _ _ c.in_ok-content.ensures.read c.in_err-after_version.ensures.read))

pub returns-in_err-after_encoding : goal.returns-in_err-after_encoding
returns-in_err-after_encoding c = rw c.from_residual-in_err-after_encoding.ensures (sym (declaration_3 c.args.at _ _ _ c.in_ok-content.ensures.read c.in_ok-after_version.ensures.read c.in_err-after_encoding.ensures.read))

pub returns-in_err-after_standalone : goal.returns-in_err-after_standalone
returns-in_err-after_standalone c = rw c.from_residual-in_err-after_standalone.ensures (sym (declaration_4 c.args.at _ _ _ _ c.in_ok-content.ensures.read c.in_ok-after_version.ensures.read c.in_ok-after_encoding.ensures.read c.in_err-after_standalone.ensures.read))

pub returns-in_err-rest : goal.returns-in_err-rest
returns-in_err-rest c = rw c.from_residual-in_err-rest.ensures (sym (declaration_5 c.args.at _ _ _ _ _ _ _ c.in_ok-content.ensures.read c.in_ok-after_version.ensures.read c.in_ok-after_encoding.ensures.read c.in_ok-after_standalone.ensures.read c.space_of.ensures.read c.in_err-rest.ensures.read))

pub returns : goal.returns
returns c =
    let ua : IsUtf8 c.in_ok-content.content.now = search rules in
    let ub : IsUtf8 c.in_ok-after_version.after_version.now = search rules in
    let uc : IsUtf8 c.in_ok-after_encoding.after_encoding.now = search rules in
    let ud : IsUtf8 c.in_ok-after_standalone.after_standalone.now = search rules in
    let ue : IsUtf8 c.space_of.result.1.now = search rules in
    let uf : IsUtf8 c.in_ok-rest.rest.now = search rules in
    rw (c.parts_between.ensures, c.parts_between-2.ensures, c.span_between.ensures, c.span_between-2.ensures, c.span_between-3.ensures) (declaration_6 c.args.at c.args.text.now _ _ _ _ _ _ _ c.utf8.text ua ub uc ud ue uf c.in_ok-content.ensures.read c.in_ok-after_version.ensures.read c.in_ok-after_encoding.ensures.read c.in_ok-after_standalone.ensures.read c.space_of.ensures.read c.in_ok-rest.ensures.read)
