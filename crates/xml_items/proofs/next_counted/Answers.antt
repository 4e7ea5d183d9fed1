use Rattle.std.proofs.Common.{◌≡◌, ◌∙◌, sym, ap, arith, length, ◌-◌, List, ℕ}
use Rattle.std.proofs.lemmas.List.{length-drop}
use Rattle.std.proofs.lemmas.Bool.{eqb-false}
use Rattle.xml_items.specs.declared.Item.{Item}
use Rattle.xml_items.proofs.WalkLemmas.{item_sound_at, item_complete_at}
use Rattle.xml_items.proofs.PlaceLaws.{counted_item, item_spans}
use Rattle.xml_items.proofs.next_counted.Goals as goal

pub returns-in-Some-clause-item : goal.returns-in-Some-clause-item
returns-in-Some-clause-item c = (item_sound_at _ _ _ _ _ c.requires.place.0 c.text_at-text.ensures c.text_at-text.utf8 c.is_first_place-first.ensures (sym c.in-Some.is ∙ c.item_of.ensures)).is

pub returns-in-Some-clause-start : goal.returns-in-Some-clause-start
returns-in-Some-clause-start c =
    let f = (item_sound_at _ _ _ _ _ c.requires.place.0 c.text_at-text.ensures c.text_at-text.utf8 c.is_first_place-first.ensures (sym c.in-Some.is ∙ c.item_of.ensures)).is in
    ap (λ (x : Item). x.span.start) f.shown

pub returns-in-Some-clause-place : goal.returns-in-Some-clause-place
returns-in-Some-clause-place c = (item_sound_at _ _ _ _ _ c.requires.place.0 c.text_at-text.ensures c.text_at-text.utf8 c.is_first_place-first.ensures (sym c.in-Some.is ∙ c.item_of.ensures)).boundary

pub returns-in-Some-clause-spans : goal.returns-in-Some-clause-spans
returns-in-Some-clause-spans c =
    let f = (item_sound_at _ _ _ _ _ c.requires.place.0 c.text_at-text.ensures c.text_at-text.utf8 c.is_first_place-first.ensures (sym c.in-Some.is ∙ c.item_of.ensures)).is in
    item_spans c.args.bytes.now c.args.at c.in-Some.counted.item c.requires.utf8 c.requires.place (counted_item c.args.bytes.now c.args.at c.in-Some.counted f)

pub returns-in-None-clause-fault : goal.returns-in-None-clause-fault
returns-in-None-clause-fault c =
    let len : length c.text_at-text.result.now ≡ length c.args.bytes.now - c.args.at = ap (λ (l : List ℕ). length l) c.text_at-text.ensures ∙ length-drop c.args.at c.args.bytes.now in (
      omega (arith, eqb-false (length c.text_at-text.result.now) 0 (sym c.is_empty.ensures ∙ c.if-is_empty.false)),
      item_complete_at _ _ _ _ c.text_at-text.ensures c.text_at-text.utf8 c.is_first_place-first.ensures (sym c.in-None.is ∙ c.item_of.ensures),
    )
