use Rattle.std.proofs.Common.{refl, rules}
use Rattle.std.specs.Str.{IsUtf8}
use Rattle.xml_items.specs.Reading.{read_end_tag}
use Rattle.xml_items.proofs.TagSpans.{end_at}
use Rattle.xml_items.proofs.tags.end_tag_at.Goals as goal

pub returns-in_err-after_open : goal.returns-in_err-after_open
unfolding read_end_tag
returns-in_err-after_open c = rw (c.from_residual.ensures, c.in_err-after_open.ensures.read) refl

pub returns-in_err-after_name : goal.returns-in_err-after_name
unfolding read_end_tag
returns-in_err-after_name c = rw (c.from_residual-in_err-after_name.ensures, c.in_ok-after_open.ensures.read, c.in_err-after_name.ensures.read) refl

pub returns-in_err-rest : goal.returns-in_err-rest
unfolding read_end_tag
returns-in_err-rest c = rw (c.from_residual-in_err-rest.ensures, c.in_ok-after_open.ensures.read, c.in_ok-after_name.ensures.read, c.space_of.ensures.read, c.in_err-rest.ensures.read) refl

pub returns : goal.returns
returns c =
    let ua : IsUtf8 c.in_ok-after_open.after_open.now = search rules in
    let ub : IsUtf8 c.in_ok-after_name.after_name.now = search rules in
    let uc : IsUtf8 c.space_of.result.1.now = search rules in
    let ud : IsUtf8 c.in_ok-rest.rest.now = search rules in
    rw (c.span_between.ensures, c.span_between-2.ensures, c.span_between-3.ensures) (end_at c.args.at c.args.text.now _ _ _ _ _ _ c.utf8.text ua ub uc ud c.in_ok-after_open.ensures.read c.in_ok-after_name.ensures.read c.space_of.ensures.read c.in_ok-rest.ensures.read)
