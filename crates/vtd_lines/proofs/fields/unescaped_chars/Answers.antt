use Rattle.std.proofs.Common.{List, ℕ, ◌++◌, option_map, ap, sym, ◌∙◌}
use Rattle.vtd_lines.specs.Fields.{unescaped}
use Rattle.vtd_lines.proofs.FieldLemmas.{none_read, split_taken, one_more, wrong_here, all_read, none_left}
use Rattle.vtd_lines.proofs.fields.unescaped_chars.Goals as goal

pub loop-rest-init : goal.loop-rest-init
loop-rest-init c =
    none_read (unescaped c.args.field.now) ∙ ap (λ (xs : List ℕ). option_map (λ cs. xs ++ cs) (unescaped c.args.field.now)) (sym c.new-text.ensures.items)

pub returns-in_default-first_char-clause-fault : goal.returns-in_default-first_char-clause-fault
returns-in_default-first_char-clause-fault c =
    wrong_here (unescaped c.args.field.now) c.loop-rest.text.items (unescaped c.loop-rest.rest.now) c.loop-rest.invariant
    (split_taken c.loop-rest.rest.now c.first-item.result c.in-len1-up.len_at_least c.first-item.is ∙ c.in_default-first_char.ensures.value)

pub loop-rest-preserved : goal.loop-rest-preserved
loop-rest-preserved c =
    one_more (unescaped c.args.field.now) c.loop-rest.text.items c.in-Some.c (unescaped c.loop-rest.rest.now) (unescaped c.in-Some.left.now) c.loop-rest.invariant
    (split_taken c.loop-rest.rest.now c.first-item.result c.in-len1-up.len_at_least c.first-item.is ∙ c.in-Some.ensures.value)
    ∙ ap (λ (xs : List ℕ). option_map (λ cs. xs ++ cs) (unescaped c.in-Some.left.now)) (sym c.in-Ok.ensures.items)

pub returns-clause-text : goal.returns-clause-text
returns-clause-text c = all_read (unescaped c.args.field.now) c.loop-rest.text.items c.loop-rest.rest.now c.loop-rest.invariant (none_left c.loop-rest.rest.now c.in_default.len_below)
