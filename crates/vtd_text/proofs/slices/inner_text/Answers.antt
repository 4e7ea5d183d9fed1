use Rattle.std.proofs.Common.{sym, ap, ◌∙◌, ◌+◌}
use Rattle.vtd_text.proofs.NodeFacts.{row_of, record_of, record_within, inner_row, attribute_record}
use Rattle.vtd_text.proofs.PlainLemmas.{row_plain, record_plain}
use Rattle.vtd_text.proofs.slices.inner_text.Goals as goal

pub only_text-requires-clause-row : goal.only_text-requires-clause-row
only_text-requires-clause-row g c =
    let n = rw c.words-words.ensures.value at c.len-past.ensures in
    rw (c.bytes-bytes.ensures.value, c.words-words.ensures.value)
    (row_of _ _ c.words-words.ensures.table.few c.args.node c.after_first.result (record { past = c.len-past.result; least = c.level_at-least.result + 1 }) c.requires
    (λ nest s e w. inner_row c.args.node.kind c.in-Element.is _ e.index e.past _ c.after_first.result _
    (record { begins = c.after_first.ensures.index ∙ ap (λ n. n + 1) (sym w.2); ends = n; level = ap (λ n. n + 1) (c.level_at-least.ensures.level nest s e w) })))

pub returns-in-Element-clause-plain : goal.returns-in-Element-clause-plain
returns-in-Element-clause-plain g c = λ nest s e w.
    let n = rw c.words-words.ensures.value at c.len-past.ensures in
    let f = rw (c.bytes-bytes.ensures.value, c.words-words.ensures.value) at c.only_text.ensures in
    row_plain _ _ c.words-words.ensures.table.few c.args.node c.after_first.result (record { past = c.len-past.result; least = c.level_at-least.result + 1 }) c.only_text.result f nest s e w
    (inner_row c.args.node.kind c.in-Element.is _ e.index e.past _ c.after_first.result _
    (record { begins = c.after_first.ensures.index ∙ ap (λ n. n + 1) (sym w.2); ends = n; level = ap (λ n. n + 1) (c.level_at-least.ensures.level nest s e w) }))

pub after-requires : goal.after-requires
after-requires g c = rw c.words-words.ensures.value (record_within _ _ c.words-words.ensures.table.few c.args.node 1 _ (attribute_record c.args.node.kind c.in-Attribute.is) c.requires)

pub value_text-requires-clause-within : goal.value_text-requires-clause-within
value_text-requires-clause-within g c = rw (c.words-words.ensures.value, c.after.ensures) (record_within _ _ c.words-words.ensures.table.few c.args.node 1 _ (attribute_record c.args.node.kind c.in-Attribute.is) c.requires)

pub value_text-requires-clause-record : goal.value_text-requires-clause-record
value_text-requires-clause-record g c =
    rw (c.bytes-bytes.ensures.value, c.words-words.ensures.value, c.after.ensures) (record_of _ _ c.words-words.ensures.table.few c.args.node 1 _ (attribute_record c.args.node.kind c.in-Attribute.is) c.requires)

pub returns-in-Attribute-clause-plain : goal.returns-in-Attribute-clause-plain
returns-in-Attribute-clause-plain g c = λ nest s e w.
    let f = rw (c.bytes-bytes.ensures.value, c.words-words.ensures.value, c.after.ensures) at c.value_text.ensures in
    record_plain _ _ c.words-words.ensures.table.few c.args.node.kind c.args.node.at 1 _ c.value_text.result.now (attribute_record c.args.node.kind c.in-Attribute.is) f nest s e w
