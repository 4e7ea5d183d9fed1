use Rattle.std.proofs.Common.{◌≡◌, List, true, map, sym, ap, subst, ◌∙◌, arith, Ok}
use Rattle.std.proofs.lemmas.Result.{err_from_is_err_and}
use Rattle.xml_model.specs.Items.{Item}
use Rattle.xml_model.specs.Records.{Record, attributes_records, word}
use Rattle.xml_acceptance.specs.Machine.{item_records}
use Rattle.vtd_words.specs.Packed.{fits, record_of}
use Rattle.vtd_words.specs.Table.{parts_of_record}
use Rattle.vtd_builder.specs.Offered.{CanOffer, outcome, offer}
use Rattle.vtd_builder.specs.declared.offers.Beginning.TheVariants as beginnings
use Rattle.vtd_builder.specs.Cuts.{BeginsAs}
use Rattle.vtd_builder.proofs.TagFacts.{tag_facts, Named, named_of, tag_passed, tag_stopped, tag_room, opened_at, closed_at}
use Rattle.vtd_builder.proofs.offers.offer_tag.Given as given
use Rattle.vtd_builder.proofs.offers.offer_tag.Goals as goal
use Rattle.vtd_builder.proofs.offers.offer_tag.Goals.{After-past_name, In_ok-count, In_ok-reached}

pub past_name-requires-clause-place : goal.past_name-requires-clause-place
past_name-requires-clause-place g c = let t = c.requires.tag in (tag_facts t.0 c.args.bytes.now c.args.at c.args.level c.requires.place t.1.begins t.1.kind).first

named : (g : given.Over) (c : After-past_name g) (i : Item) → BeginsAs c.args.bytes.now c.args.at c.args.level c.args.count beginnings.Tag i → Named c.args.bytes.now c.args.at c.args.level c.past_name.result i
named g c i k = named_of i c.args.bytes.now c.args.at c.args.level c.past_name.result c.requires.place k.begins k.kind c.past_name.ensures.value

pub offer-requires-clause-fits : goal.offer-requires-clause-fits
offer-requires-clause-fits g c =
    let t = c.requires.tag in
    let n = named g (goal.at.offer-requires-clause-fits g c).After-past_name t.0 t.1 in
    let can = subst (CanOffer c.args.count) n.tokens t.1.can in
    subst (λ (x : Record). fits (parts_of_record x) ≡ true) (sym c.name_parts.ensures) can.fit.0

-- the records of the attributes can be offered once that of the name was taken
room : (g : given.Over) (c : In_ok-count g) (i : Item) (n : Named c.args.bytes.now c.args.at c.args.level c.past_name.result i) → CanOffer c.args.count (item_records c.args.level c.args.at i) → CanOffer c.in_ok-count.count (attributes_records c.args.level c.past_name.result n.xs)
room g c i n can = tag_room (g.R.RecordSink.refuses c.args.into.now) (g.R.RecordSink.taken c.args.into.now) c.args.count _ (attributes_records c.args.level c.past_name.result n.xs) (word (record_of c.name_parts.result)) _ c.in_ok-count.count (subst (CanOffer c.args.count) n.tokens can) c.in_ok-count.ensures.outcome

pub returns-in_err-count-clause-outcome : goal.returns-in_err-count-clause-outcome
returns-in_err-count-clause-outcome g c = λ i k.
    let p = err_from_is_err_and c.from_residual.result c.from_residual.ensures.1 in
    let n = named g (goal.at.returns-in_err-count-clause-outcome g c).After-past_name i k in
    rw (p.1, p.2)
    (tag_stopped (g.R.RecordSink.refuses c.args.into.now) (g.R.RecordSink.taken c.args.into.now) c.args.count _ (attributes_records c.args.level c.past_name.result n.xs) (record_of c.name_parts.result) _ _ c.name_parts.ensures c.in_err-count.ensures.outcome
    ∙ ap (λ (l : List Record). offer (g.R.RecordSink.refuses c.args.into.now) (g.R.RecordSink.taken c.args.into.now) c.args.count (map word l)) (sym n.tokens))

pub offer_attributes-requires-clause-attributes : goal.offer_attributes-requires-clause-attributes
offer_attributes-requires-clause-attributes g c =
    let t = c.requires.tag in
    let n = named g (goal.at.offer_attributes-requires-clause-attributes g c).After-past_name t.0 t.1 in
    (n.xs, n.space, n.close, n.attributes, room g (goal.at.offer_attributes-requires-clause-attributes g c).In_ok-count t.0 n t.1.can)

pub returns-in_err-reached-clause-outcome : goal.returns-in_err-reached-clause-outcome
returns-in_err-reached-clause-outcome g c = λ i k.
    let p = err_from_is_err_and c.from_residual-in_err-reached.result c.from_residual-in_err-reached.ensures.1 in
    let n = named g (goal.at.returns-in_err-reached-clause-outcome g c).After-past_name i k in
    let r = room g (goal.at.returns-in_err-reached-clause-outcome g c).In_ok-count i n k.can in
    rw (p.1, p.2)
    (tag_passed (g.R.RecordSink.refuses c.args.into.now) (g.R.RecordSink.taken c.args.into.now) c.args.count _ (attributes_records c.args.level c.past_name.result n.xs) (record_of c.name_parts.result) _ _ _ c.in_ok-count.count _ c.name_parts.ensures c.in_ok-count.ensures.outcome c.offer.ensures.test (c.in_err-reached.ensures.outcome n.xs n.space n.close n.attributes r)
    ∙ ap (λ (l : List Record). offer (g.R.RecordSink.refuses c.args.into.now) (g.R.RecordSink.taken c.args.into.now) c.args.count (map word l)) (sym n.tokens))

pub bounds-bytes-reached : goal.bounds-bytes-reached
bounds-bytes-reached g c =
    let t = c.requires.tag in
    let n = named g (goal.at.bounds-bytes-reached g c).After-past_name t.0 t.1 in
    let e = c.in_ok-reached.ensures.reached n.xs n.space n.close n.attributes (room g (goal.at.bounds-bytes-reached g c).In_ok-count t.0 n t.1.can) in
    omega (arith, e, n.inside)

pub overflow_add-result-2 : goal.overflow_add-result-2
overflow_add-result-2 g c =
    let t = c.requires.tag in
    let n = named g (goal.at.overflow_add-result-2 g c).After-past_name t.0 t.1 in
    let e = c.in_ok-reached.ensures.reached n.xs n.space n.close n.attributes (room g (goal.at.overflow_add-result-2 g c).In_ok-count t.0 n t.1.can) in
    omega (arith, e, n.inside, c.requires.size)

answered : (g : given.Over) (c : In_ok-reached g) (i : Item) → BeginsAs c.args.bytes.now c.args.at c.args.level c.args.count beginnings.Tag i
    → outcome (g.R.RecordSink.taken c.offer_attributes.new.into) (Ok c.in_ok-reached.reached.count) ≡ offer (g.R.RecordSink.refuses c.args.into.now) (g.R.RecordSink.taken c.args.into.now) c.args.count (map word (item_records c.args.level c.args.at i))
answered g c i k =
    let n = named_of i c.args.bytes.now c.args.at c.args.level c.past_name.result c.requires.place k.begins k.kind c.past_name.ensures.value in
    let r = tag_room (g.R.RecordSink.refuses c.args.into.now) (g.R.RecordSink.taken c.args.into.now) c.args.count _ (attributes_records c.args.level c.past_name.result n.xs) (word (record_of c.name_parts.result)) _ c.in_ok-count.count (subst (CanOffer c.args.count) n.tokens k.can) c.in_ok-count.ensures.outcome in
    tag_passed (g.R.RecordSink.refuses c.args.into.now) (g.R.RecordSink.taken c.args.into.now) c.args.count _ (attributes_records c.args.level c.past_name.result n.xs) (record_of c.name_parts.result) _ _ _ c.in_ok-count.count _ c.name_parts.ensures c.in_ok-count.ensures.outcome c.offer.ensures.test (c.in_ok-reached.ensures.outcome n.xs n.space n.close n.attributes r)
    ∙ ap (λ (l : List Record). offer (g.R.RecordSink.refuses c.args.into.now) (g.R.RecordSink.taken c.args.into.now) c.args.count (map word l)) (sym n.tokens)

pub returns-then-bytes-reached-eq62-clause-outcome : goal.returns-then-bytes-reached-eq62-clause-outcome
returns-then-bytes-reached-eq62-clause-outcome g c = answered g (goal.at.returns-then-bytes-reached-eq62-clause-outcome g c).In_ok-reached

pub returns-clause-outcome : goal.returns-clause-outcome
returns-clause-outcome g c = answered g (goal.at.returns-clause-outcome g c).In_ok-reached

pub returns-then-bytes-reached-eq62-clause-passed : goal.returns-then-bytes-reached-eq62-clause-passed
returns-then-bytes-reached-eq62-clause-passed g c = λ i k.
    let n = named g (goal.at.returns-then-bytes-reached-eq62-clause-passed g c).After-past_name i k in
    let e = c.in_ok-reached.ensures.reached n.xs n.space n.close n.attributes (room g (goal.at.returns-then-bytes-reached-eq62-clause-passed g c).In_ok-count i n k.can) in
    opened_at c.args.bytes.now c.args.at c.args.level _ c.in_ok-reached.reached.at c.in_ok-reached.reached.count i n.closing e c.if-bytes-reached-eq62.true

pub returns-clause-passed : goal.returns-clause-passed
returns-clause-passed g c = λ i k.
    let n = named g (goal.at.returns-clause-passed g c).After-past_name i k in
    let e = c.in_ok-reached.ensures.reached n.xs n.space n.close n.attributes (room g (goal.at.returns-clause-passed g c).In_ok-count i n k.can) in
    closed_at c.args.bytes.now c.args.at c.args.level _ c.in_ok-reached.reached.at c.in_ok-reached.reached.count i n.closing e c.if-bytes-reached-eq62.false
