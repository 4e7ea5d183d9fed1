use Rattle.std.proofs.Common.{add-zero, sym, ap, ◌∙◌, ◌+◌, refl}
use Rattle.vtd_text.proofs.NodeFacts.{row_of, record_of, row_within, record_within, whole_row, inner_row, attribute_record, comment_record, instruction_record, row_gives, record_gives}
use Rattle.vtd_text.proofs.chars.Chars.of.Goals as goal

pub of_row-requires-clause-within : goal.of_row-requires-clause-within
of_row-requires-clause-within g c = rw c.words-words.ensures.value (row_within _ _ c.words-words.ensures.table.few c.args.node c.end_of-past.result c.requires c.end_of-past.ensures)

pub of_row-requires-clause-row : goal.of_row-requires-clause-row
of_row-requires-clause-row g c =
    rw (c.bytes-bytes.ensures.value, c.words-words.ensures.value)
    (row_of _ _ c.words-words.ensures.table.few c.args.node c.args.node.at (record { past = c.end_of-past.result; least = 0 }) c.requires
    (λ nest s e w. whole_row c.args.node.kind c.in-Root.is _ e.index e.past _ c.args.node.at _ (record { begins = sym w.2; ends = c.end_of-past.ensures nest s e w; level = refl })))

pub returns-in-Root : goal.returns-in-Root
returns-in-Root g c = λ nest s e w.
    let f = rw (c.bytes-bytes.ensures.value, c.words-words.ensures.value) at c.of_row.ensures in
    row_gives _ _ c.words-words.ensures.table.few c.args.node c.args.node.at (record { past = c.end_of-past.result; least = 0 }) c.of_row.result f nest s e w
    (whole_row c.args.node.kind c.in-Root.is _ e.index e.past _ c.args.node.at _ (record { begins = sym w.2; ends = c.end_of-past.ensures nest s e w; level = refl }))

pub of_row-requires-in-Element-clause-row : goal.of_row-requires-in-Element-clause-row
of_row-requires-in-Element-clause-row g c =
    let n = rw c.words-words.ensures.value at c.len-past.ensures in
    rw (c.bytes-bytes.ensures.value, c.words-words.ensures.value)
    (row_of _ _ c.words-words.ensures.table.few c.args.node c.after_first.result (record { past = c.len-past.result; least = c.level_at-least.result + 1 }) c.requires
    (λ nest s e w. inner_row c.args.node.kind c.in-Element.is _ e.index e.past _ c.after_first.result _
    (record { begins = c.after_first.ensures.index ∙ ap (λ n. n + 1) (sym w.2); ends = n; level = ap (λ n. n + 1) (c.level_at-least.ensures.level nest s e w) })))

pub returns-in-Element : goal.returns-in-Element
returns-in-Element g c = λ nest s e w.
    let n = rw c.words-words.ensures.value at c.len-past.ensures in
    let f = rw (c.bytes-bytes.ensures.value, c.words-words.ensures.value) at c.of_row-in-Element.ensures in
    row_gives _ _ c.words-words.ensures.table.few c.args.node c.after_first.result (record { past = c.len-past.result; least = c.level_at-least.result + 1 }) c.of_row-in-Element.result f nest s e w
    (inner_row c.args.node.kind c.in-Element.is _ e.index e.past _ c.after_first.result _
    (record { begins = c.after_first.ensures.index ∙ ap (λ n. n + 1) (sym w.2); ends = n; level = ap (λ n. n + 1) (c.level_at-least.ensures.level nest s e w) }))

pub after-requires : goal.after-requires
after-requires g c = rw c.words-words.ensures.value (record_within _ _ c.words-words.ensures.table.few c.args.node 1 _ (attribute_record c.args.node.kind c.in-Attribute.is) c.requires)

pub of_record-requires-clause-within : goal.of_record-requires-clause-within
of_record-requires-clause-within g c = rw (c.words-words.ensures.value, c.after.ensures) (record_within _ _ c.words-words.ensures.table.few c.args.node 1 _ (attribute_record c.args.node.kind c.in-Attribute.is) c.requires)

pub of_record-requires-clause-record : goal.of_record-requires-clause-record
of_record-requires-clause-record g c =
    rw (c.bytes-bytes.ensures.value, c.words-words.ensures.value, c.after.ensures) (record_of _ _ c.words-words.ensures.table.few c.args.node 1 _ (attribute_record c.args.node.kind c.in-Attribute.is) c.requires)

pub returns-in-Attribute : goal.returns-in-Attribute
returns-in-Attribute g c = λ nest s e w.
    let f = rw (c.bytes-bytes.ensures.value, c.words-words.ensures.value, c.after.ensures) at c.of_record.ensures in
    record_gives _ _ c.words-words.ensures.table.few c.args.node.kind c.args.node.at 1 _ c.of_record.result (attribute_record c.args.node.kind c.in-Attribute.is) f nest s e w

pub of_record-requires-in-Comment-clause-within : goal.of_record-requires-in-Comment-clause-within
of_record-requires-in-Comment-clause-within g c =
    rw (c.words-words.ensures.value, ← add-zero c.args.node.at) (record_within _ _ c.words-words.ensures.table.few c.args.node 0 _ (comment_record c.args.node.kind c.in-Comment.is) c.requires)

pub of_record-requires-in-Comment-clause-record : goal.of_record-requires-in-Comment-clause-record
of_record-requires-in-Comment-clause-record g c =
    rw (c.bytes-bytes.ensures.value, c.words-words.ensures.value, ← add-zero c.args.node.at) (record_of _ _ c.words-words.ensures.table.few c.args.node 0 _ (comment_record c.args.node.kind c.in-Comment.is) c.requires)

pub returns-in-Comment : goal.returns-in-Comment
returns-in-Comment g c = λ nest s e w.
    let f = rw (c.bytes-bytes.ensures.value, c.words-words.ensures.value, ← add-zero c.args.node.at) at c.of_record-in-Comment.ensures in
    record_gives _ _ c.words-words.ensures.table.few c.args.node.kind c.args.node.at 0 _ c.of_record-in-Comment.result (comment_record c.args.node.kind c.in-Comment.is) f nest s e w

pub after-requires-in-Instruction : goal.after-requires-in-Instruction
after-requires-in-Instruction g c = rw c.words-words.ensures.value (record_within _ _ c.words-words.ensures.table.few c.args.node 1 _ (instruction_record c.args.node.kind c.in-Instruction.is) c.requires)

pub of_record-requires-in-Instruction-clause-within : goal.of_record-requires-in-Instruction-clause-within
of_record-requires-in-Instruction-clause-within g c =
    rw (c.words-words.ensures.value, c.after-in-Instruction.ensures) (record_within _ _ c.words-words.ensures.table.few c.args.node 1 _ (instruction_record c.args.node.kind c.in-Instruction.is) c.requires)

pub of_record-requires-in-Instruction-clause-record : goal.of_record-requires-in-Instruction-clause-record
of_record-requires-in-Instruction-clause-record g c =
    rw (c.bytes-bytes.ensures.value, c.words-words.ensures.value, c.after-in-Instruction.ensures) (record_of _ _ c.words-words.ensures.table.few c.args.node 1 _ (instruction_record c.args.node.kind c.in-Instruction.is) c.requires)

pub returns-in-Instruction : goal.returns-in-Instruction
returns-in-Instruction g c = λ nest s e w.
    let f = rw (c.bytes-bytes.ensures.value, c.words-words.ensures.value, c.after-in-Instruction.ensures) at c.of_record-in-Instruction.ensures in
    record_gives _ _ c.words-words.ensures.table.few c.args.node.kind c.args.node.at 1 _ c.of_record-in-Instruction.result (instruction_record c.args.node.kind c.in-Instruction.is) f nest s e w
