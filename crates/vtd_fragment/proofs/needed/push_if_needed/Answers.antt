use Rattle.std.proofs.Common.{◌∙◌, sym}
use Rattle.xml_model.specs.Items.{first_place}
use Rattle.xml_model.specs.Records.{records}
use Rattle.vtd_words.specs.Packed.{record_of}
use Rattle.vtd_words.proofs.Fitting.{nest_shown}
use Rattle.xml_fragments.specs.Fragment.{needs}
use Rattle.vtd_fragment.specs.Round.{nodes_in}
use Rattle.vtd_fragment.proofs.AttributeLemmas.{bare_bytes, one_not, one_there}
use Rattle.vtd_fragment.proofs.NeedLemmas.{attribute_at_level, on_ok}
use Rattle.vtd_fragment.proofs.needed.push_if_needed.Goals as goal

pub returns : goal.returns
returns g c = on_ok c.push_spaced.result _ _ (λ pushed. λ node k r found before after a is at.
    let bytes = c.args.table.now.bytes in
    let lists = g.W.Words.lists c.args.table.now.words in
    let h = attribute_at_level bytes lists node c.args.level r before after a is c.args.at at in
    let shown = nest_shown bytes lists r.nest c.words-words.ensures.table.few r.shown in
    let rs = records r.nest (first_place bytes) in
    let e = c.requires.name rs shown in
    let v = (rw c.words-words.ensures.value at c.parts_at-value.ensures.parts) rs shown in
    one_there (needs (nodes_in r.nest r.entry bytes) r.holder) a c.args.out.now.items c.push_spaced.new.out.items _ (sym (c.is_needed.ensures node k r found before after a is at) ∙ c.if-not-is_needed.false)
    (bare_bytes bytes rs c.args.at a h (record_of c.args.name) (record_of c.parts_at-value.result) e v)
    (rw c.bytes.ensures.value at pushed)) c.push_spaced.ensures

pub returns-then-not-is_needed : goal.returns-then-not-is_needed
returns-then-not-is_needed g c = λ node k r found before after a is at.
    one_not (needs (nodes_in r.nest r.entry c.args.table.now.bytes) r.holder) a c.args.out.now.items (sym (c.is_needed.ensures node k r found before after a is at) ∙ c.if-not-is_needed.true)
