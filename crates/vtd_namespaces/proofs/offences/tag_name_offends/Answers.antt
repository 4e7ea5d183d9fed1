use Rattle.std.proofs.Common.{◌∙◌, ◌∷◌, ap, sym, true}
use Rattle.std.proofs.lemmas.Bool.{eqb-true}
use Rattle.xml_model.specs.Items.{first_place}
use Rattle.xml_model.specs.Records.{records}
use Rattle.vtd_words.specs.Packed.{record_of}
use Rattle.vtd_words.proofs.Fitting.{nest_shown}
use Rattle.vtd_text.specs.Joined.{slice_of}
use Rattle.vtd_namespaces.specs.Scope.{tags_in}
use Rattle.vtd_namespaces.proofs.ScopeLemmas.{bound_none}
use Rattle.vtd_namespaces.proofs.TagLemmas.{tag_name, tag_not_qualified, tag_xmlns, tag_bound}
use Rattle.vtd_namespaces.proofs.offences.tag_name_offends.Goals as goal

pub returns-then-not-is_qname-clause-offends : goal.returns-then-not-is_qname-clause-offends
returns-then-not-is_qname-clause-offends g c = λ nest x xs s at w.
    let t = tag_name _ _ c.args.tag at x.tag c.args.parts w (c.requires.here (records nest (first_place c.args.scope.now.table.now.bytes)) (nest_shown _ _ nest s.few s.shown)) in
    let slice = c.slice_of-name.ensures ∙ ap (λ b. slice_of b (record_of c.args.parts)) c.bytes.ensures.value ∙ t.slice in
    tag_not_qualified (tags_in (x ∷ xs)) x.tag.name (sym (c.is_qname.ensures x.tag.name t.named slice t.prefix) ∙ c.if-not-is_qname.true)

pub returns-then-eq-clause-offends : goal.returns-then-eq-clause-offends
returns-then-eq-clause-offends g c = λ nest x xs s at w.
    let t = tag_name _ _ c.args.tag at x.tag c.args.parts w (c.requires.here (records nest (first_place c.args.scope.now.table.now.bytes)) (nest_shown _ _ nest s.few s.shown)) in
    let slice = c.slice_of-name.ensures ∙ ap (λ b. slice_of b (record_of c.args.parts)) c.bytes.ensures.value ∙ t.slice in
    tag_xmlns (tags_in (x ∷ xs)) c.prefix_of-prefix.result.now x.tag.name (c.prefix_of-prefix.ensures x.tag.name slice t.prefix) (sym c.eq.ensures ∙ c.if-eq.true)

pub returns-clause-offends : goal.returns-clause-offends
returns-clause-offends g c = λ nest x xs s at w.
    let t = tag_name _ _ c.args.tag at x.tag c.args.parts w (c.requires.here (records nest (first_place c.args.scope.now.table.now.bytes)) (nest_shown _ _ nest s.few s.shown)) in
    let slice = c.slice_of-name.ensures ∙ ap (λ b. slice_of b (record_of c.args.parts)) c.bytes.ensures.value ∙ t.slice in
    let prefix = c.prefix_of-prefix.ensures x.tag.name slice t.prefix in
    tag_bound (tags_in (x ∷ xs)) c.prefix_of-prefix.result.now x.tag.name c.is_bound.result prefix (sym (c.is_qname.ensures x.tag.name t.named slice t.prefix) ∙ c.if-not-is_qname.false) (sym c.eq.ensures ∙ c.if-eq.false) (c.is_bound.ensures nest (x ∷ xs) s _ prefix (c.declaration_known.ensures.found nest (x ∷ xs) s _ prefix))

pub returns-then-is_empty-clause-offends : goal.returns-then-is_empty-clause-offends
returns-then-is_empty-clause-offends g c = λ nest x xs s at w.
    let t = tag_name _ _ c.args.tag at x.tag c.args.parts w (c.requires.here (records nest (first_place c.args.scope.now.table.now.bytes)) (nest_shown _ _ nest s.few s.shown)) in
    let slice = c.slice_of-name.ensures ∙ ap (λ b. slice_of b (record_of c.args.parts)) c.bytes.ensures.value ∙ t.slice in
    let prefix = c.prefix_of-prefix.ensures x.tag.name slice t.prefix in
    tag_bound (tags_in (x ∷ xs)) c.prefix_of-prefix.result.now x.tag.name true prefix (sym (c.is_qname.ensures x.tag.name t.named slice t.prefix) ∙ c.if-not-is_qname.false) (sym c.eq.ensures ∙ c.if-eq.false)
    (bound_none c.prefix_of-prefix.result.now _ (tags_in (x ∷ xs)) prefix (eqb-true _ _ (sym c.is_empty.ensures ∙ c.if-is_empty.true)))
