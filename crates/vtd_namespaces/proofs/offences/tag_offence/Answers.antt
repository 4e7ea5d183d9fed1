use Rattle.std.proofs.Common.{◌∙◌, ap, sym}
use Rattle.xml_model.specs.Items.{first_place}
use Rattle.xml_model.specs.Records.{records}
use Rattle.vtd_words.proofs.Fitting.{nest_shown}
use Rattle.vtd_namespaces.specs.Scope.{tags_in}
use Rattle.vtd_namespaces.proofs.TagLemmas.{tag_first}
use Rattle.vtd_namespaces.proofs.offences.tag_offence.Goals as goal

pub returns-then-tag_name_offends-clause-offence : goal.returns-then-tag_name_offends-clause-offence
returns-then-tag_name_offends-clause-offence g c = λ nest x xs s e at w h.
    let here = rw c.words.ensures.value at c.parts_at-parts.ensures.parts in
    tag_first (tags_in xs) x.tag at c.parts_at-parts.result.offset (sym (c.tag_name_offends.ensures.offends nest x xs s at w) ∙ c.if-tag_name_offends.true)
    (ap (λ r. r.offset) (here (records nest (first_place c.args.scope.now.table.now.bytes)) (nest_shown _ _ nest s.few s.shown)) ∙ w.offset)
