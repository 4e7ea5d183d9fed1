use Rattle.std.proofs.Common.{◌∙◌, ap, sym, arith}
use Rattle.vtd_words.specs.Packed.{record_of}
use Rattle.vtd_text.specs.Joined.{slice_of}
use Rattle.vtd_namespaces.specs.Scope.{tags_in}
use Rattle.vtd_namespaces.proofs.OffenceLemmas.{other_name, twin_unprefixed, twin_tests}
use Rattle.xml_model.specs.Chars.{prefix_of}
use Rattle.vtd_namespaces.proofs.NotedLemmas.{no_declaration_token}
use Rattle.vtd_namespaces.proofs.offences.is_twin_at.Goals as goal

pub returns-then-other-eq0 : goal.returns-then-other-eq0
returns-then-other-eq0 g c = λ nest hs s a w u d rs k place b r q.
    let here = rw c.words.ensures.value at c.parts_at-other.ensures.parts in
    twin_unprefixed _ c.parts_at-other.result (tags_in hs) a b (other_name c.args.scope.now.table.now.bytes rs c.args.at place c.parts_at-other.result b (here rs k) r) c.if-other.false c.if-other-eq0.true u

pub returns-then-eq : goal.returns-then-eq
returns-then-eq g c = λ nest hs s a w u d rs k place b r q.
    let here = rw c.words.ensures.value at c.parts_at-other.ensures.parts in
    let o = other_name c.args.scope.now.table.now.bytes rs c.args.at place c.parts_at-other.result b (here rs k) r in
    let slice = c.slice_of-other_name.ensures ∙ ap (λ x. slice_of x (record_of c.parts_at-other.result)) c.bytes.ensures.value ∙ o.slice in
    let t =
    twin_tests _ c.parts_at-other.result (tags_in hs) a b c.args.name.now c.args.prefix_len c.after_prefix.result.now c.after_prefix-2.result.now o w c.if-other.false c.if-other-eq0.false (λ z. omega (arith, z, c.requires.prefix))
    (c.after_prefix.ensures b.name slice o.prefix c.if-other-eq0.false) (c.after_prefix-2.ensures a.name w.bytes w.prefix_size (λ z. omega (arith, z, c.requires.prefix))) in
    t.agree (sym c.eq.ensures ∙ c.if-eq.true) c.bound_alike.result (c.bound_alike.ensures nest hs s _ _ (c.prefix_of.ensures a.name w.bytes w.prefix_size) (c.prefix_of-other_prefix.ensures b.name slice o.prefix) t.one t.other d
    (c.nearest_of.ensures.found nest hs s (prefix_of b.name) (c.prefix_of-other_prefix.ensures b.name slice o.prefix) (λ l. q l (no_declaration_token _ c.parts_at-other.result b o c.if-other.false) t.other)))

pub returns : goal.returns
returns g c = λ nest hs s a w u d rs k place b r q.
    let here = rw c.words.ensures.value at c.parts_at-other.ensures.parts in
    let o = other_name c.args.scope.now.table.now.bytes rs c.args.at place c.parts_at-other.result b (here rs k) r in
    let slice = c.slice_of-other_name.ensures ∙ ap (λ x. slice_of x (record_of c.parts_at-other.result)) c.bytes.ensures.value ∙ o.slice in
    let t =
    twin_tests _ c.parts_at-other.result (tags_in hs) a b c.args.name.now c.args.prefix_len c.after_prefix.result.now c.after_prefix-2.result.now o w c.if-other.false c.if-other-eq0.false (λ z. omega (arith, z, c.requires.prefix))
    (c.after_prefix.ensures b.name slice o.prefix c.if-other-eq0.false) (c.after_prefix-2.ensures a.name w.bytes w.prefix_size (λ z. omega (arith, z, c.requires.prefix))) in
    t.differ (sym c.eq.ensures ∙ c.if-eq.false)
