use Rattle.std.proofs.Common.{◌∙◌, ◌∷◌, ◌+◌, sym, subst, arith}
use Rattle.xml_model.specs.Items.{first_place}
use Rattle.xml_model.specs.Records.{records}
use Rattle.vtd_words.proofs.Fitting.{nest_shown}
use Rattle.vtd_namespaces.specs.Scope.{tags_in}
use Rattle.vtd_namespaces.proofs.SieveLemmas.{not_known, known_record}
use Rattle.vtd_namespaces.proofs.AttributeLemmas.{attends}
use Rattle.vtd_namespaces.proofs.InspectLemmas.{none_inspected, all_inspected, next_inspected, differ}
use Rattle.vtd_namespaces.specs.Offences.{AreNearest, AreNotes}
use Rattle.vtd_namespaces.proofs.NotedLemmas.{nearest_for, nearest_more, declarations_more, nothing_noted}
use Rattle.vtd_namespaces.proofs.offences.attributes_offence.Goals as goal

pub loop-parts-init : goal.loop-parts-init
loop-parts-init g c = record {
  known = c.requires.known;
  room = omega arith;
  bound = omega arith;
  inspected = λ nest x xs s e at hold h. none_inspected c.args.scope.now.table.now.bytes (records nest (first_place c.args.scope.now.table.now.bytes)) c.args.first at (tags_in (x ∷ xs)) x.tag.attributes hold;
  nearest = λ nest x xs s e at hold h m d l. let z : ⊥ = omega (arith, l) in absurd z;
  noted_are = nothing_noted c.args.scope.now.table.now.bytes (g.W.Words.lists c.args.scope.now.table.now.words) 64;
}

pub returns-then-attribute_offends-clause-offence : goal.returns-then-attribute_offends-clause-offence
returns-then-attribute_offends-clause-offence g c = λ nest x xs s e at hold h.
    let here = rw c.words.ensures.value at c.in-Some.ensures.some in
    let rs = records nest (first_place c.args.scope.now.table.now.bytes) in
    let n = next_inspected c.args.scope.now.table.now.bytes rs c.args.first c.loop-parts.number at (tags_in (x ∷ xs)) x.tag.attributes c.in-Some.parts (c.loop-parts.invariant.inspected nest x xs s e at hold h) (here rs (nest_shown _ _ nest s.few s.shown)) c.in-Some.ensures.kind in
    let o = (attends _ _ _ _ nest x xs s c.args.first c.loop-parts.number e n.done n.left n.attribute n.split n.many c.in-Some.parts here).other in
    n.hit (sym (c.attribute_offends.ensures nest x xs s e n.done n.left n.attribute n.split n.many (c.loop-parts.invariant.nearest nest x xs s e at hold h) n.fine (differ c.args.scope.now.table.now.bytes rs c.args.first c.loop-parts.number at (tags_in (x ∷ xs)) x.tag.attributes c.in-Some.parts n h) not_known
    (c.prefix_declaration-declaration.ensures.found nest (x ∷ xs) s n.attribute (known_record _ c.in-Some.parts n.attribute o))) ∙ c.if-attribute_offends.true)

pub loop-parts-preserved : goal.loop-parts-preserved
loop-parts-preserved g c =
    let room = rw c.words.ensures.value at c.in-Some.ensures.room in
    record {
      known = c.prefix_declaration-declaration.ensures.known;
      room = omega (arith, room);
      bound = omega (arith, c.in-Some.ensures.bound);
      inspected = λ nest x xs s e at hold h.
          let here = rw c.words.ensures.value at c.in-Some.ensures.some in
          let rs = records nest (first_place c.args.scope.now.table.now.bytes) in
          let n = next_inspected c.args.scope.now.table.now.bytes rs c.args.first c.loop-parts.number at (tags_in (x ∷ xs)) x.tag.attributes c.in-Some.parts (c.loop-parts.invariant.inspected nest x xs s e at hold h) (here rs (nest_shown _ _ nest s.few s.shown)) c.in-Some.ensures.kind in
          let o = (attends _ _ _ _ nest x xs s c.args.first c.loop-parts.number e n.done n.left n.attribute n.split n.many c.in-Some.parts here).other in
          n.miss (sym (c.attribute_offends.ensures nest x xs s e n.done n.left n.attribute n.split n.many (c.loop-parts.invariant.nearest nest x xs s e at hold h) n.fine (differ c.args.scope.now.table.now.bytes rs c.args.first c.loop-parts.number at (tags_in (x ∷ xs)) x.tag.attributes c.in-Some.parts n h) not_known
          (c.prefix_declaration-declaration.ensures.found nest (x ∷ xs) s n.attribute (known_record _ c.in-Some.parts n.attribute o))) ∙ c.if-attribute_offends.false);
      nearest = λ nest x xs s e at hold h.
          let here = rw c.words.ensures.value at c.in-Some.ensures.some in
          let rs = records nest (first_place c.args.scope.now.table.now.bytes) in
          let n = next_inspected c.args.scope.now.table.now.bytes rs c.args.first c.loop-parts.number at (tags_in (x ∷ xs)) x.tag.attributes c.in-Some.parts (c.loop-parts.invariant.inspected nest x xs s e at hold h) (here rs (nest_shown _ _ nest s.few s.shown)) c.in-Some.ensures.kind in
          let o = (attends _ _ _ _ nest x xs s c.args.first c.loop-parts.number e n.done n.left n.attribute n.split n.many c.in-Some.parts here).other in
          subst (AreNearest c.args.scope.now.table.now.bytes nest (x ∷ xs) x.tag.attributes (c.loop-parts.number + 1)) (sym c.note.ensures)
          (nearest_more c.args.scope.now.table.now.bytes nest (x ∷ xs) x.tag.attributes n.done n.left n.attribute c.loop-parts.number c.loop-parts.noted c.prefix_declaration-declaration.result n.split n.many
          (nearest_for c.args.scope.now.table.now.bytes nest (x ∷ xs) c.in-Some.parts n.attribute c.prefix_declaration-declaration.result o (c.prefix_declaration-declaration.ensures.found nest (x ∷ xs) s n.attribute (known_record _ c.in-Some.parts n.attribute o)))
          (c.loop-parts.invariant.nearest nest x xs s e at hold h));
      noted_are = subst (AreNotes c.args.scope.now.table.now.bytes (g.W.Words.lists c.args.scope.now.table.now.words)) (sym c.note.ensures)
          (declarations_more c.args.scope.now.table.now.bytes (g.W.Words.lists c.args.scope.now.table.now.words) c.loop-parts.noted c.loop-parts.number c.prefix_declaration-declaration.result c.prefix_declaration-declaration.ensures.declares c.loop-parts.invariant.noted_are);
    }

pub returns-clause-offence : goal.returns-clause-offence
returns-clause-offence g c = λ nest x xs s e at hold h.
    let none = rw c.words.ensures.value at c.in_default.ensures.none in
    let rs = records nest (first_place c.args.scope.now.table.now.bytes) in
    all_inspected c.args.scope.now.table.now.bytes rs c.args.first c.loop-parts.number at (tags_in (x ∷ xs)) x.tag.attributes (c.loop-parts.invariant.inspected nest x xs s e at hold h) (none rs (nest_shown _ _ nest s.few s.shown))
