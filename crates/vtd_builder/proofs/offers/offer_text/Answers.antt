use Rattle.std.proofs.Common.{◌≡◌, ℕ, [], ◌∷◌, map, sym, ap, subst, ◌∙◌, List}
use Rattle.std.proofs.lemmas.Result.{err_from_is_err_and}
use Rattle.xml_model.specs.Items.{Item}
use Rattle.xml_model.specs.Records.{Record, word}
use Rattle.xml_acceptance.specs.Machine.{item_records}
use Rattle.vtd_builder.specs.declared.offers.Beginning.TheVariants as beginnings
use Rattle.vtd_builder.specs.Offered.{CanOffer, offer}
use Rattle.vtd_builder.specs.Found.{cuts_of}
use Rattle.vtd_builder.specs.Cuts.{BeginsAs}
use Rattle.vtd_builder.proofs.Passing.{Ended, ended_of, text_none, text_some, text_span}
use Rattle.vtd_builder.proofs.offers.offer_text.Given as given
use Rattle.vtd_builder.proofs.offers.offer_text.Goals as goal
use Rattle.vtd_builder.proofs.offers.offer_text.Goals.{After-next_byte-end, After-depth_of}

ended : (g : given.Over) (c : After-next_byte-end g) (i : Item) → BeginsAs c.args.bytes.now c.args.at c.args.level c.args.count beginnings.Text i → Ended c.args.bytes.now c.args.at c.args.level c.next_byte-end.result i
ended g c i k = ended_of i c.args.bytes.now c.args.at c.args.level c.next_byte-end.result k.begins k.kind c.next_byte-end.ensures.value

-- the records of a text that an element holds
records : (g : given.Over) (c : After-depth_of g) (i : Item) → BeginsAs c.args.bytes.now c.args.at c.args.level c.args.count beginnings.Text i →
    ◌≡◌ {A = List Record} (item_records c.args.level c.args.at i) (cuts_of 5 c.depth_of.result record { start = c.args.at; end = c.next_byte-end.result })
records g c i k =
    let e = ended_of i c.args.bytes.now c.args.at c.args.level c.next_byte-end.result k.begins k.kind c.next_byte-end.ensures.value in
    e.tokens ∙ text_some c.args.level (text_span c.args.level c.args.at c.next_byte-end.result) c.if-level-eq0.false
    ∙ ap (λ (d : ℕ). cuts_of 5 d record { start = c.args.at; end = c.next_byte-end.result }) (sym c.depth_of.ensures)

pub returns-then-level-eq0-clause-outcome : goal.returns-then-level-eq0-clause-outcome
returns-then-level-eq0-clause-outcome g c = λ i k.
    let e = ended g (goal.at.returns-then-level-eq0-clause-outcome g c).After-next_byte-end i k in
    ap (λ (l : List Record). offer (g.R.RecordSink.refuses c.args.into.now) (g.R.RecordSink.taken c.args.into.now) c.args.count (map word l)) (sym (e.tokens ∙ text_none c.args.level _ c.if-level-eq0.true))

pub returns-then-level-eq0-clause-passed : goal.returns-then-level-eq0-clause-passed
returns-then-level-eq0-clause-passed g c = λ i k.
    let e = ended g (goal.at.returns-then-level-eq0-clause-passed g c).After-next_byte-end i k in
    record { place = e.place; inside = sym e.inside }

pub offer_content-requires-clause-room : goal.offer_content-requires-clause-room
offer_content-requires-clause-room g c =
    let t = c.requires.text in
    subst (CanOffer c.args.count) (records g (goal.at.offer_content-requires-clause-room g c).After-depth_of t.0 t.1) t.1.can

pub returns-in_err-count-clause-outcome : goal.returns-in_err-count-clause-outcome
returns-in_err-count-clause-outcome g c = λ i k.
    let p = err_from_is_err_and c.from_residual.result c.from_residual.ensures.1 in
    let o = records g (goal.at.returns-in_err-count-clause-outcome g c).After-depth_of i k in
    rw (p.1, p.2)
    (c.in_err-count.ensures.outcome ∙ ap (λ (l : List Record). offer (g.R.RecordSink.refuses c.args.into.now) (g.R.RecordSink.taken c.args.into.now) c.args.count (map word l)) (sym o))

pub returns-clause-outcome : goal.returns-clause-outcome
returns-clause-outcome g c = λ i k.
    let o = records g (goal.at.returns-clause-outcome g c).After-depth_of i k in
    c.in_ok-count.ensures.outcome ∙ ap (λ (l : List Record). offer (g.R.RecordSink.refuses c.args.into.now) (g.R.RecordSink.taken c.args.into.now) c.args.count (map word l)) (sym o)

pub returns-clause-passed : goal.returns-clause-passed
returns-clause-passed g c = λ i k.
    let e = ended g (goal.at.returns-clause-passed g c).After-next_byte-end i k in
    record { place = e.place; inside = sym e.inside }
