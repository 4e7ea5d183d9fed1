use Rattle.std.proofs.Common.{refl, rules}
use Rattle.std.specs.Str.{IsUtf8}
use Rattle.xml_items.specs.Reading.{read_tag}
use Rattle.xml_items.proofs.TagSpans.{tag_at, no_attributes, no_end}
use Rattle.xml_items.proofs.tags.tag_at.Goals as goal

pub returns-in_err-after_open : goal.returns-in_err-after_open
unfolding read_tag
returns-in_err-after_open c = rw (c.from_residual.ensures, c.in_err-after_open.ensures.read) refl

pub returns-in_err-after_name : goal.returns-in_err-after_name
unfolding read_tag
returns-in_err-after_name c = rw (c.from_residual-in_err-after_name.ensures, c.in_ok-after_open.ensures.read, c.in_err-after_name.ensures.read) refl

pub returns-in_err-attributes : goal.returns-in_err-attributes
unfolding read_tag
returns-in_err-attributes c =
    let none = no_attributes _ c.in_err-attributes.ensures.read in
    rw (c.from_residual-in_err-attributes.ensures, c.in_ok-after_open.ensures.read, c.in_ok-after_name.ensures.read, none) refl

pub returns-in_err-empty : goal.returns-in_err-empty
returns-in_err-empty c = rw c.from_residual-in_err-empty.ensures (no_end _ _ _ _ _ c.args.at _ c.in_ok-after_open.ensures.read c.in_ok-after_name.ensures.read c.in_ok-attributes.ensures.read c.in_err-empty.ensures.read)

pub returns : goal.returns
returns c =
    let ua : IsUtf8 c.in_ok-after_open.after_open.now = search rules in
    let ub : IsUtf8 c.in_ok-after_name.after_name.now = search rules in
    let ud : IsUtf8 c.in_ok-attributes.close.now = search rules in
    let ue : IsUtf8 c.in_ok-empty.rest.now = search rules in
    rw (c.tag_kind.ensures, c.span_between.ensures, c.span_between-2.ensures, c.span_between-3.ensures) (tag_at c.args.at _ c.args.text.now _ _ _ _ _ _ c.utf8.text ua ub ud ue c.in_ok-after_open.ensures.read c.in_ok-after_name.ensures.read c.in_ok-attributes.ensures.read c.in_ok-empty.ensures.read)
