use Rattle.std.proofs.Common.{sym, ◌∙◌, refl, inr, Some}
use Rattle.vtd_words.specs.Packed.{record_of}
use Rattle.vtd_text.proofs.NodeFacts.{row_of, row_within, whole_row}
use Rattle.vtd_text.proofs.PlainLemmas.{only_of_run, only_text, only_content, row_plain}
use Rattle.vtd_text.proofs.slices.run_text.Goals as goal

pub text_of-requires : goal.text_of-requires
text_of-requires g c =
    let few = c.words.ensures.table.few in
    let past = c.run_end-past.result in
    let p = rw c.words.ensures.value at c.parts_at-parts.ensures.parts in
    let m = row_within _ _ few c.args.node past c.requires.node c.run_end-past.ensures in
    rw c.bytes.ensures.value
    (only_text _ _ c.args.node.at (record { past = past; least = 0 }) (record_of c.parts_at-parts.result)
    (row_of _ _ few c.args.node c.args.node.at (record { past = past; least = 0 }) c.requires.node
    (λ nest s e w. whole_row c.args.node.kind (inr c.requires.text) _ e.index e.past _ c.args.node.at _ (record { begins = sym w.2; ends = c.run_end-past.ensures nest s e w; level = refl })))
    (only_of_run _ c.args.node.at past (record_of c.parts_at-parts.result) (c.if-past-after_first.false ∙ c.after_first.ensures.index) m p)
    (sym c.is_text.ensures ∙ c.if-not-is_text.false))

pub returns : goal.returns
returns g c = λ nest s e w.
    let few = c.words.ensures.table.few in
    let past = c.run_end-past.result in
    let p = rw c.words.ensures.value at c.parts_at-parts.ensures.parts in
    let t = rw c.bytes.ensures.value at c.text_of.ensures in
    let m = row_within _ _ few c.args.node past c.requires.node c.run_end-past.ensures in
    row_plain _ _ few c.args.node c.args.node.at (record { past = past; least = 0 }) (Some c.text_of.result)
    (only_content _ _ c.args.node.at (record { past = past; least = 0 }) (record_of c.parts_at-parts.result) c.text_of.result.now
    (only_of_run _ c.args.node.at past (record_of c.parts_at-parts.result) (c.if-past-after_first.false ∙ c.after_first.ensures.index) m p)
    (sym c.is_text.ensures ∙ c.if-not-is_text.false) t)
    nest s e w
    (whole_row c.args.node.kind (inr c.requires.text) _ e.index e.past _ c.args.node.at _ (record { begins = sym w.2; ends = c.run_end-past.ensures nest s e w; level = refl }))
