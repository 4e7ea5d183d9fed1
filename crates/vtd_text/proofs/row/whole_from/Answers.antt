use Rattle.std.proofs.Common.{◌≡◌, true, refl, sym, ◌∙◌, arith, le_refl}
use Rattle.vtd_words.specs.Packed.{record_of}
use Rattle.vtd_words.proofs.Shown.{shown_length}
use Rattle.xml_model.specs.Wholes.{goes_on}
use Rattle.xml_model.proofs.Wholes.{GoesOn, goes_parts}
use Rattle.vtd_text.proofs.JoinedLemmas.{wholes_more, wholes_stop, wholes_end}
use Rattle.vtd_text.proofs.row.whole_from.Goals as goal

pub loop-at-init : goal.loop-at-init
loop-at-init g c = record { low = le_refl c.args.next; high = c.requires.next; narrow = c.requires.first; whole = λ rs s least b. (b, refl) }

pub goes_on-requires : goal.goes_on-requires
goes_on-requires g c = c.loop-at.invariant.narrow

pub loop-at-preserved : goal.loop-at-preserved
loop-at-preserved g c =
    let i = c.loop-at.invariant in
    let goes : goes_on (record_of c.loop-at.parts) (record_of c.parts_at-more.result) ≡ true = sym c.goes_on.ensures ∙ c.if-not-goes_on.false in
    let on : GoesOn (record_of c.loop-at.parts) (record_of c.parts_at-more.result) = goes_parts _ _ goes in
    record {
      low = omega (arith, i.low);
      high = omega (arith, c.loop-at-test.true);
      narrow = omega (arith, on.place, c.parts_at-more.ensures.narrow);
      whole = λ rs s least b.
          let w = i.whole rs s least b in (
            w.0,
            w.1
                ∙ wholes_more rs c.loop-at.at (record { past = c.args.past; least = least }) (record_of c.loop-at.parts) (record_of c.parts_at-more.result) c.loop-at-test.true
                (omega (arith, c.requires.past, shown_length _ rs s)) (c.parts_at-more.ensures.parts rs s) w.0 goes,
          );
    }

pub returns-then-not-goes_on-clause-next : goal.returns-then-not-goes_on-clause-next
returns-then-not-goes_on-clause-next g c = c.loop-at.invariant.low

pub returns-then-not-goes_on-clause-whole : goal.returns-then-not-goes_on-clause-whole
returns-then-not-goes_on-clause-whole g c = λ rs s least b.
    let w = c.loop-at.invariant.whole rs s least b in
    w.1
    ∙ wholes_stop rs c.loop-at.at (record { past = c.args.past; least = least }) (record_of c.loop-at.parts) (record_of c.parts_at-more.result) c.loop-at-test.true
    (omega (arith, c.requires.past, shown_length _ rs s)) (c.parts_at-more.ensures.parts rs s) (sym c.goes_on.ensures ∙ c.if-not-goes_on.true)

pub returns-clause-next : goal.returns-clause-next
returns-clause-next g c = c.loop-at.invariant.low

pub returns-clause-past : goal.returns-clause-past
returns-clause-past g c = c.loop-at.invariant.high

pub returns-clause-whole : goal.returns-clause-whole
returns-clause-whole g c = λ rs s least b.
    let w = c.loop-at.invariant.whole rs s least b in
    w.1 ∙ wholes_end rs c.loop-at.at (record { past = c.args.past; least = least }) (record_of c.loop-at.parts) (omega (arith, c.loop-at-test.false))
