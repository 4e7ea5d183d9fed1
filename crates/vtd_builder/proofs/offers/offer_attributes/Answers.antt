use Rattle.std.proofs.Common.{◌≤◌, List, ℕ, length, sym, ap, subst, refl, ◌∙◌, arith}
use Rattle.std.proofs.lemmas.Result.{err_from_is_err_and}
use Rattle.xml_model.specs.Items.{Attribute}
use Rattle.xml_model.specs.Records.{attributes_records}
use Rattle.vtd_builder.specs.declared.tags.AttributeCut.{AttributeCut}
use Rattle.vtd_builder.specs.Offered.{CanOffer}
use Rattle.vtd_builder.specs.Found.{HasPlaces, attribute_found}
use Rattle.vtd_builder.specs.Cuts.{AttributesAt}
use Rattle.vtd_builder.proofs.InParts.{can_first}
use Rattle.vtd_builder.proofs.Tagging.{left_first, left_within, Turn, turn_of, left_more, left_stopped, left_end}
use Rattle.vtd_builder.proofs.offers.offer_attributes.Given as given
use Rattle.vtd_builder.proofs.offers.offer_attributes.Goals as goal
use Rattle.vtd_builder.proofs.offers.offer_attributes.Goals.{In-loop-cut}

turn : (g : given.Over) (c : In-loop-cut g) (xs : List Attribute) (space close : List ℕ) → AttributesAt c.args.bytes.now c.args.at xs space close → CanOffer c.args.count (attributes_records c.args.depth c.args.at xs)
    → Turn c.args.bytes.now c.args.at c.args.depth xs space close (g.R.RecordSink.refuses c.args.into.now) (g.R.RecordSink.taken c.args.into.now) c.args.count c.loop-cut.name (g.R.RecordSink.refuses c.loop-cut.into) (g.R.RecordSink.taken c.loop-cut.into) c.loop-cut.count
turn g c xs space close k can =
    turn_of c.args.bytes.now c.args.at c.args.depth xs space close _ _ c.args.count c.loop-cut.name _ _ c.loop-cut.count (c.loop-cut.invariant.0.each xs space close k can) (sym c.closes_tag.ensures ∙ c.loop-cut-test.true)

any : (g : given.Over) (c : In-loop-cut g)
    → Turn c.args.bytes.now c.args.at c.args.depth c.requires.attributes.0 c.requires.attributes.1 c.requires.attributes.2 (g.R.RecordSink.refuses c.args.into.now) (g.R.RecordSink.taken c.args.into.now) c.args.count c.loop-cut.name (g.R.RecordSink.refuses c.loop-cut.into) (g.R.RecordSink.taken c.loop-cut.into) c.loop-cut.count
any g c = turn g c c.requires.attributes.0 c.requires.attributes.1 c.requires.attributes.2 c.requires.attributes.3 c.requires.attributes.4

pub loop-cut-init : goal.loop-cut-init
loop-cut-init g c = (
  record { each = λ xs space close k can. left_first c.args.bytes.now c.args.at c.args.depth xs space close _ _ c.args.count c.past_space-name.result can k c.past_space-name.ensures.value },
  refl,
  refl,
)

pub bounds-bytes-name : goal.bounds-bytes-name
bounds-bytes-name g c =
    let a = c.requires.attributes in
    left_within c.args.bytes.now c.args.at c.args.depth a.0 a.1 a.2 _ _ c.args.count c.loop-cut.name _ _ c.loop-cut.count (c.loop-cut.invariant.0.each a.0 a.1 a.2 a.3 a.4)

pub attribute_cut-cut-requires-clause-attribute : goal.attribute_cut-cut-requires-clause-attribute
attribute_cut-cut-requires-clause-attribute g c = let t = any g c in (t.a, t.attribute)

pub offer_attribute-requires-clause-places : goal.offer_attribute-requires-clause-places
offer_attribute-requires-clause-places g c =
    let t = any g (goal.at.offer_attribute-requires-clause-places g c).In-loop-cut in
    subst (λ (x : AttributeCut). HasPlaces c.args.bytes.now x.item) (sym (c.attribute_cut-cut.ensures t.a t.attribute)) t.places

pub offer_attribute-requires-clause-room : goal.offer_attribute-requires-clause-room
offer_attribute-requires-clause-room g c =
    let t = any g (goal.at.offer_attribute-requires-clause-room g c).In-loop-cut in
    subst (λ (x : AttributeCut). CanOffer c.loop-cut.count (attribute_found c.args.bytes.now c.args.depth x.item)) (sym (c.attribute_cut-cut.ensures t.a t.attribute)) (can_first c.loop-cut.count _ _ t.offers.can)

pub returns-in_err-count-clause-outcome : goal.returns-in_err-count-clause-outcome
returns-in_err-count-clause-outcome g c = λ xs space close k can.
    let p = err_from_is_err_and c.from_residual.result c.from_residual.ensures.1 in
    let t = turn g (goal.at.returns-in_err-count-clause-outcome g c).In-loop-cut xs space close k can in
    rw (p.1, p.2) (left_stopped c.args.bytes.now c.args.at c.args.depth xs space close _ _ c.args.count c.loop-cut.name _ _ c.loop-cut.count _ _ c.attribute_cut-cut.result t (c.attribute_cut-cut.ensures t.a t.attribute) c.in_err-count.ensures.outcome)

pub past_space-name-requires-in-loop-cut-clause-place : goal.past_space-name-requires-in-loop-cut-clause-place
past_space-name-requires-in-loop-cut-clause-place g c =
    let t = any g (goal.at.past_space-name-requires-in-loop-cut-clause-place g c).In-loop-cut in
    subst (λ (x : AttributeCut). x.end ≤ length c.args.bytes.now) (sym (c.attribute_cut-cut.ensures t.a t.attribute)) t.past

pub loop-cut-smaller : goal.loop-cut-smaller
loop-cut-smaller g c =
    let t = any g (goal.at.loop-cut-smaller g c).In-loop-cut in
    let e = ap (λ (x : AttributeCut). x.end) (c.attribute_cut-cut.ensures t.a t.attribute) in
    omega (arith, e, t.within, c.past_space-name-in-loop-cut.ensures.value, c.past_space-name-in-loop-cut.ensures.within)

pub loop-cut-preserved : goal.loop-cut-preserved
loop-cut-preserved g c = (
  record {
    each = λ xs space close k can.
        let t = turn g (goal.at.loop-cut-preserved g c).In-loop-cut xs space close k can in
        left_more c.args.bytes.now c.args.at c.args.depth xs space close _ _ c.args.count c.loop-cut.name _ _ c.loop-cut.count _ _ c.in_ok-count.count c.past_space-name-in-loop-cut.result c.attribute_cut-cut.result t (c.attribute_cut-cut.ensures t.a t.attribute) c.in_ok-count.ensures.outcome c.offer_attribute.ensures.test c.past_space-name-in-loop-cut.ensures.value;
  },
  c.offer_attribute.ensures.rest ∙ c.loop-cut.invariant.1,
  c.offer_attribute.ensures.test ∙ c.loop-cut.invariant.2,
)

pub returns-clause-outcome : goal.returns-clause-outcome
returns-clause-outcome g c = λ xs space close k can.
    (left_end c.args.bytes.now c.args.at c.args.depth xs space close _ _ c.args.count c.loop-cut.name _ _ c.loop-cut.count (c.loop-cut.invariant.0.each xs space close k can) (sym c.closes_tag.ensures ∙ c.loop-cut-test.false)).answer

pub returns-clause-reached : goal.returns-clause-reached
returns-clause-reached g c = λ xs space close k can.
    (left_end c.args.bytes.now c.args.at c.args.depth xs space close _ _ c.args.count c.loop-cut.name _ _ c.loop-cut.count (c.loop-cut.invariant.0.each xs space close k can) (sym c.closes_tag.ensures ∙ c.loop-cut-test.false)).place
