use Rattle.std.proofs.Common.{◌≡◌, sym, ◌∙◌, true, false}
use Rattle.std.specs.List.{starts_with}
use Rattle.std.specs.Prelude.{nat_eq}
use Rattle.vtd_text.proofs.TextsLemmas.{prefix_of, no_prefix}
use Rattle.vtd_text.proofs.texts.after_prefix.Goals as goal

pub split_at-requires : goal.split_at-requires
split_at-requires c =
    let t : starts_with nat_eq c.args.text.now c.args.prefix.now ≡ true = rw (c.as_bytes.ensures.value, c.as_bytes-2.ensures.value) at (sym c.starts_with.ensures.value ∙ c.if-starts_with.true) in
    (prefix_of c.args.text.now c.args.prefix.now c.utf8.text c.utf8.prefix t).boundary

pub returns-then-starts_with : goal.returns-then-starts_with
returns-then-starts_with c =
    let t : starts_with nat_eq c.args.text.now c.args.prefix.now ≡ true = rw (c.as_bytes.ensures.value, c.as_bytes-2.ensures.value) at (sym c.starts_with.ensures.value ∙ c.if-starts_with.true) in
    rw c.split_at.ensures.back (prefix_of c.args.text.now c.args.prefix.now c.utf8.text c.utf8.prefix t).points

pub returns-else-starts_with : goal.returns-else-starts_with
returns-else-starts_with c =
    let f : starts_with nat_eq c.args.text.now c.args.prefix.now ≡ false = rw (c.as_bytes.ensures.value, c.as_bytes-2.ensures.value) at (sym c.starts_with.ensures.value ∙ c.if-starts_with.false) in
    no_prefix c.args.text.now c.args.prefix.now c.utf8.text c.utf8.prefix f
