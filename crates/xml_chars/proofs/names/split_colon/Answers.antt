use Rattle.std.proofs.Common.{◌∙◌, sym, ap}
use Rattle.std.specs.Str.{chars}
use Rattle.xml_chars.proofs.Runs.{char_some, char_none}
use Rattle.xml_chars.proofs.ColonLemmas.{colon_of, colon_split, no_colon_split}
use Rattle.xml_chars.proofs.names.split_colon.Goals as goal

pub split_at-requires : goal.split_at-requires
split_at-requires c = (colon_split c.args.text.now c.as_bytes.result.now c.in_ok-at.at c.as_bytes.ensures.value c.utf8.text c.in_ok-at.ensures).boundary

pub returns-in_err-at : goal.returns-in_err-at
returns-in_err-at c = rw c.from_residual.ensures (no_colon_split c.args.text.now c.as_bytes.result.now c.as_bytes.ensures.value c.utf8.text c.in_err-at.ensures)

pub returns-in_err-after : goal.returns-in_err-after
returns-in_err-after c =
    let s = colon_split c.args.text.now c.as_bytes.result.now c.in_ok-at.at c.as_bytes.ensures.value c.utf8.text c.in_ok-at.ensures in
    rw c.from_residual-in_err-after.ensures ((colon_of (chars c.args.text.now)).none (sym s.back ∙ ap chars (sym c.split_at.ensures.back) ∙ char_none _ c.in_err-after.ensures.read))

pub returns : goal.returns
returns c =
    let s = colon_split c.args.text.now c.as_bytes.result.now c.in_ok-at.at c.as_bytes.ensures.value c.utf8.text c.in_ok-at.ensures in
    let q = (colon_of (chars c.args.text.now)).some c.in_ok-after.field-0-0 (chars c.in_ok-after.after.now) (sym s.back ∙ ap chars (sym c.split_at.ensures.back) ∙ char_some _ _ _ c.in_ok-after.ensures.read) in
    (q.0, ap chars c.split_at.ensures.front ∙ s.prefix ∙ q.1, q.2)
