use Rattle.std.proofs.Common.{◌∙◌, ◌+◌, ◌*◌, ◌∷◌, ap, sym, arith, length, length-append}
use Rattle.std.specs.List.{list_any}
use Rattle.vtd_words.specs.Packed.{record_of}
use Rattle.vtd_text.specs.Joined.{slice_of}
use Rattle.vtd_namespaces.specs.Scope.{tags_in}
use Rattle.vtd_namespaces.specs.Offences.{seen_after, is_twin}
use Rattle.vtd_namespaces.proofs.AttributeLemmas.{attends, taken, bound_uri, some_prefix, declaration_at, not_qualified, by_declaration, by_no_prefix, by_unbound, by_twins}
use Rattle.vtd_namespaces.proofs.offences.attribute_offends.Goals as goal

pub returns-then-not-is_qname : goal.returns-then-not-is_qname
returns-then-not-is_qname g c = λ nest x xs s e done left a split many k f n v near.
    let t = attends _ _ _ _ nest x xs s c.args.first c.args.number e done left a split many c.args.parts c.requires.here in
    let slice = c.slice_of-name.ensures ∙ ap (λ b. slice_of b (record_of c.args.parts)) c.bytes.ensures.value ∙ t.other.slice in
    not_qualified (tags_in (x ∷ xs)) (seen_after (tags_in (x ∷ xs)) _ done) a (sym (c.is_qname.ensures a.name t.other.named slice t.other.prefix) ∙ c.if-not-is_qname.true)

pub declaration_offends-requires : goal.declaration_offends-requires
declaration_offends-requires g c = declaration_at _ _ c.bytes.ensures.table c.args.parts (c.args.first + 2 * c.args.number) c.requires.here c.if-parts.true

pub returns-then-parts : goal.returns-then-parts
returns-then-parts g c = λ nest x xs s e done left a split many k f n v near.
    let t = attends _ _ _ _ nest x xs s c.args.first c.args.number e done left a split many c.args.parts c.requires.here in
    let slice = c.slice_of-name.ensures ∙ ap (λ b. slice_of b (record_of c.args.parts)) c.bytes.ensures.value ∙ t.other.slice in
    by_declaration _ c.args.parts (tags_in (x ∷ xs)) _ a c.declaration_offends.result t.other (sym (c.is_qname.ensures a.name t.other.named slice t.other.prefix) ∙ c.if-not-is_qname.false) c.if-parts.true
    (c.declaration_offends.ensures nest s.shown a t.holds slice)

pub returns-then-parts-eq0 : goal.returns-then-parts-eq0
returns-then-parts-eq0 g c = λ nest x xs s e done left a split many k f n v near.
    let t = attends _ _ _ _ nest x xs s c.args.first c.args.number e done left a split many c.args.parts c.requires.here in
    let slice = c.slice_of-name.ensures ∙ ap (λ b. slice_of b (record_of c.args.parts)) c.bytes.ensures.value ∙ t.other.slice in
    by_no_prefix _ c.args.parts (tags_in (x ∷ xs)) done a t.other (sym (c.is_qname.ensures a.name t.other.named slice t.other.prefix) ∙ c.if-not-is_qname.false) c.if-parts.false c.if-parts-eq0.true f n

pub returns-then-not-is_bound : goal.returns-then-not-is_bound
returns-then-not-is_bound g c = λ nest x xs s e done left a split many k f n v near.
    let t = attends _ _ _ _ nest x xs s c.args.first c.args.number e done left a split many c.args.parts c.requires.here in
    let slice = c.slice_of-name.ensures ∙ ap (λ b. slice_of b (record_of c.args.parts)) c.bytes.ensures.value ∙ t.other.slice in
    by_unbound _ c.args.parts (tags_in (x ∷ xs)) (seen_after (tags_in (x ∷ xs)) _ done) a t.other (sym (c.is_qname.ensures a.name t.other.named slice t.other.prefix) ∙ c.if-not-is_qname.false) c.if-parts.false
    (sym (c.is_bound.ensures nest (x ∷ xs) s _ (c.prefix_of.ensures a.name slice t.other.prefix) (near c.if-parts.false c.if-parts-eq0.false)) ∙ c.if-not-is_bound.true)

pub returns-then-is_new : goal.returns-then-is_new
returns-then-is_new g c = λ nest x xs s e done left a split many k f n v near.
    let t = attends _ _ _ _ nest x xs s c.args.first c.args.number e done left a split many c.args.parts c.requires.here in
    let slice = c.slice_of-name.ensures ∙ ap (λ b. slice_of b (record_of c.args.parts)) c.bytes.ensures.value ∙ t.other.slice in
    let bound = sym (c.is_bound.ensures nest (x ∷ xs) s _ (c.prefix_of.ensures a.name slice t.other.prefix) (near c.if-parts.false c.if-parts-eq0.false)) ∙ c.if-not-is_bound.false in
    let some = bound_uri _ (tags_in (x ∷ xs)) (some_prefix _ c.args.parts.prefix t.other.prefix c.if-parts-eq0.false) bound in
    by_twins _ c.args.parts (tags_in (x ∷ xs)) done a _ t.other (sym (c.is_qname.ensures a.name t.other.named slice t.other.prefix) ∙ c.if-not-is_qname.false) c.if-parts.false bound (sym (v c.if-is_new.true some))

pub returns : goal.returns
returns g c = λ nest x xs s e done left a split many k f n v near.
    let t = attends _ _ _ _ nest x xs s c.args.first c.args.number e done left a split many c.args.parts c.requires.here in
    let slice = c.slice_of-name.ensures ∙ ap (λ b. slice_of b (record_of c.args.parts)) c.bytes.ensures.value ∙ t.other.slice in
    let bound = sym (c.is_bound.ensures nest (x ∷ xs) s _ (c.prefix_of.ensures a.name slice t.other.prefix) (near c.if-parts.false c.if-parts-eq0.false)) ∙ c.if-not-is_bound.false in
    let some = bound_uri _ (tags_in (x ∷ xs)) (some_prefix _ c.args.parts.prefix t.other.prefix c.if-parts-eq0.false) bound in
    let twins = c.has_twin.ensures nest x xs s e (omega (arith, ap (λ l. length l) split, length-append done (a ∷ left), many)) k a (record { bytes = slice; prefix_size = t.other.prefix; named = t.other.named }) some (near c.if-parts.false c.if-parts-eq0.false) in
    by_twins _ c.args.parts (tags_in (x ∷ xs)) done a c.has_twin.result t.other (sym (c.is_qname.ensures a.name t.other.named slice t.other.prefix) ∙ c.if-not-is_qname.false) c.if-parts.false bound
    (twins ∙ ap (list_any (is_twin (tags_in (x ∷ xs)) a)) (taken x.tag.attributes done left a c.args.number split many))
