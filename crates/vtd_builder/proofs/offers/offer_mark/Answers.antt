use Rattle.std.proofs.Common.{◌≡◌, ℕ, true, map, sym, ap, subst, ◌∙◌}
use Rattle.std.proofs.lemmas.Result.{err_from_is_err_and}
use Rattle.xml_model.specs.Items.{Item, begins_at}
use Rattle.xml_model.specs.Records.{word}
use Rattle.xml_acceptance.specs.Machine.{item_records}
use Rattle.vtd_builder.specs.Offered.{CanOffer, offer}
use Rattle.xml_items.specs.declared.Item.{Item as ItemShown}
use Rattle.vtd_builder.specs.Found.{ShowsItem}
use Rattle.vtd_builder.specs.Cuts.{beginning_of}
use Rattle.vtd_builder.proofs.Beginnings.{shown_here, past_shown}
use Rattle.vtd_builder.proofs.offers.offer_mark.Given as given
use Rattle.vtd_builder.proofs.offers.offer_mark.Goals as goal
use Rattle.vtd_builder.proofs.offers.offer_mark.Goals.{In-Ok-Some}

start : (g : given.Over) (c : In-Ok-Some g) → c.in-Ok-Some.item.span.start ≡ c.args.at
start g c = let e = rw c.in-Ok-Some.field-0-is at c.in-Ok-Some.ensures in e.start

shown : (g : given.Over) (c : In-Ok-Some g) (i : Item) → begins_at c.args.bytes.now c.args.at i ≡ true → ShowsItem c.args.bytes.now c.in-Ok-Some.item i
shown g c i h =
    let e = rw c.in-Ok-Some.field-0-is at c.in-Ok-Some.ensures in
    shown_here c.args.bytes.now c.args.at c.in-Ok-Some.item i c.requires.utf8 c.requires.place e.item e.start h

pub offer_marked-requires-clause-item : goal.offer_marked-requires-clause-item
offer_marked-requires-clause-item g c =
    let t = c.requires.item in
    let here = (goal.at.offer_marked-requires-clause-item g c).In-Ok-Some in
    (t.0, shown g here t.0 t.1.begins, subst (λ (p : ℕ). CanOffer c.args.count (item_records c.args.level p t.0)) (sym (start g here)) t.1.can)

pub offer_marked-requires-clause-kind : goal.offer_marked-requires-clause-kind
offer_marked-requires-clause-kind g c =
    let t = c.requires.item in
    let here = (goal.at.offer_marked-requires-clause-kind g c).In-Ok-Some in
    ap (λ (f : ItemShown). beginning_of f.kind) (shown g here t.0 t.1.begins).shown ∙ t.1.kind

pub returns-in_err-count-clause-outcome : goal.returns-in_err-count-clause-outcome
returns-in_err-count-clause-outcome g c = λ i k.
    let p = err_from_is_err_and c.from_residual.result c.from_residual.ensures.1 in
    let here = (goal.at.returns-in_err-count-clause-outcome g c).In-Ok-Some in
    rw (p.1, p.2)
    (c.in_err-count.ensures.outcome i (shown g here i k.begins) ∙ ap (λ (p : ℕ). offer (g.R.RecordSink.refuses c.args.into.now) (g.R.RecordSink.taken c.args.into.now) c.args.count (map word (item_records c.args.level p i))) (start g here))

pub returns-clause-outcome : goal.returns-clause-outcome
returns-clause-outcome g c = λ i k.
    let here = (goal.at.returns-clause-outcome g c).In-Ok-Some in
    c.in_ok-count.ensures.outcome i (shown g here i k.begins) ∙ ap (λ (p : ℕ). offer (g.R.RecordSink.refuses c.args.into.now) (g.R.RecordSink.taken c.args.into.now) c.args.count (map word (item_records c.args.level p i))) (start g here)

pub returns-clause-passed : goal.returns-clause-passed
returns-clause-passed g c = λ i k.
    let here = (goal.at.returns-clause-passed g c).In-Ok-Some in
    past_shown c.args.bytes.now c.args.at c.args.level c.in_ok-count.count c.in-Ok-Some.item i (shown g here i k.begins) (start g here) k.kind
