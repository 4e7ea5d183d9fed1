use Rattle.std.proofs.Common.{◌∙◌, sym, ap, rules}
use Rattle.std.specs.Str.{IsUtf8, chars}
use Rattle.std.specs.Prelude.{bytes_eq}
use Rattle.xml_items.proofs.PartLemmas.{part_seen, named_none, named_other, named_yes, part_cut_name, part_cut_value}
use Rattle.xml_items.proofs.declarations.part_of.Goals as goal

pub returns-in_err-part-clause-read : goal.returns-in_err-part-clause-read
returns-in_err-part-clause-read c = rw c.from_residual.ensures (named_none c.args.name.now _ c.in_err-part.ensures.read)

pub split_at-requires : goal.split_at-requires
split_at-requires c =
    let u : IsUtf8 c.in_ok-part.part.after_space.now = search rules in
    let v : IsUtf8 c.in_ok-part.part.after_name.now = search rules in
    (part_cut_name (chars c.args.text.now) c.in_ok-part.part (part_seen (chars c.args.text.now) c.in_ok-part.part c.in_ok-part.ensures.read) u v).boundary

pub returns-then-not-is_same-clause-read : goal.returns-then-not-is_same-clause-read
returns-then-not-is_same-clause-read c =
    let u : IsUtf8 c.in_ok-part.part.after_space.now = search rules in
    let v : IsUtf8 c.in_ok-part.part.after_name.now = search rules in
    let p = part_seen (chars c.args.text.now) c.in_ok-part.part c.in_ok-part.ensures.read in
    let k = part_cut_name (chars c.args.text.now) c.in_ok-part.part p u v in
    named_other c.args.name.now (chars c.args.text.now) c.in_ok-part.part p (ap (λ l. bytes_eq l c.args.name.now) (sym (ap chars c.split_at.ensures.front ∙ k.points)) ∙ sym c.is_same.ensures ∙ c.if-not-is_same.true)

pub split_at-requires-2 : goal.split_at-requires-2
split_at-requires-2 c =
    let u : IsUtf8 c.in_ok-part.part.value.now = search rules in
    let v : IsUtf8 c.in_ok-part.part.after_value.now = search rules in
    (part_cut_value (chars c.args.text.now) c.in_ok-part.part (part_seen (chars c.args.text.now) c.in_ok-part.part c.in_ok-part.ensures.read) u v).boundary

pub returns-clause-read : goal.returns-clause-read
returns-clause-read c =
    let u : IsUtf8 c.in_ok-part.part.after_space.now = search rules in
    let v : IsUtf8 c.in_ok-part.part.after_name.now = search rules in
    let p = part_seen (chars c.args.text.now) c.in_ok-part.part c.in_ok-part.ensures.read in
    let k = part_cut_name (chars c.args.text.now) c.in_ok-part.part p u v in
    let u2 : IsUtf8 c.in_ok-part.part.value.now = search rules in
    let v2 : IsUtf8 c.in_ok-part.part.after_value.now = search rules in
    let m = part_cut_value (chars c.args.text.now) c.in_ok-part.part p u2 v2 in
    named_yes c.args.name.now (chars c.args.text.now) (chars c.split_at-2.result.0.now) c.in_ok-part.part p (ap (λ l. bytes_eq l c.args.name.now) (sym (ap chars c.split_at.ensures.front ∙ k.points)) ∙ sym c.is_same.ensures ∙ c.if-not-is_same.false) (ap chars c.split_at-2.ensures.front ∙ m.points)
