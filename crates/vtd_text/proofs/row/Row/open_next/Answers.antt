use Rattle.std.proofs.Common.{◌≡◌, ◌<◌, false, arith, le-leb}
use Rattle.std.proofs.lemmas.Bool.{lt-leb}
use Rattle.xml_model.specs.Scan.{is_within, level_of}
use Rattle.vtd_words.specs.Packed.{record_of}
use Rattle.vtd_text.proofs.JoinedLemmas.{next_readable, later_readable, none_readable, row_ends, token_opens}
use Rattle.vtd_text.proofs.row.Row.open_next.Goals as goal

pub invariant_of-self-clause-readable : goal.invariant_of-self-clause-readable
invariant_of-self-clause-readable g c = none_readable c.args.self.now.bytes.now _ c.args.self.now.at c.args.self.now.end.least c.args.self.now.end c.args.self.now.readable

pub returns-then-level_of-self-clause-content : goal.returns-then-level_of-self-clause-content
returns-then-level_of-self-clause-content g c = λ rs s content h.
    let low : level_of (record_of c.parts_at-parts.result) < c.args.self.now.end.least = omega (arith, c.level_of.ensures, c.if-level_of-self.true) in
    let below : is_within c.args.self.now.end.least (record_of c.parts_at-parts.result) ≡ false = lt-leb _ _ low in
    row_ends c.args.self.now.bytes.now _ rs (record_of c.parts_at-parts.result) c.args.self.now.at c.args.self.now.end content c.requires c.args.self.now.within s (c.parts_at-parts.ensures.parts rs s) below h

pub record_of-self-requires : goal.record_of-self-requires
record_of-self-requires g c =
    next_readable c.args.self.now.bytes.now _ c.args.self.now.at c.args.self.now.end (record_of c.parts_at-parts.result) _ _ c.args.self.now.readable (record {
      inside = c.requires;
      within = c.args.self.now.within;
      first = c.parts_at-parts.ensures.parts;
      level = le-leb c.args.self.now.end.least _ (omega (arith, c.level_of.ensures, c.if-level_of-self.false));
      whole = c.whole_from-whole.ensures.whole;
    })

pub invariant_of-self-2-clause-readable : goal.invariant_of-self-2-clause-readable
invariant_of-self-2-clause-readable g c =
    later_readable c.args.self.now.bytes.now _ c.args.self.now.at c.args.self.now.end (record_of c.parts_at-parts.result) (record_of c.whole_from-whole.result.parts) _ c.args.self.now.readable (record {
      inside = c.requires;
      within = c.args.self.now.within;
      first = c.parts_at-parts.ensures.parts;
      level = le-leb c.args.self.now.end.least _ (omega (arith, c.level_of.ensures, c.if-level_of-self.false));
      whole = c.whole_from-whole.ensures.whole;
    })

pub returns-clause-content : goal.returns-clause-content
returns-clause-content g c = λ rs s content h.
    token_opens c.args.self.now.bytes.now _ rs (record_of c.parts_at-parts.result) (record_of c.whole_from-whole.result.parts) _ _ c.args.self.now.at _ c.args.self.now.end content (record {
      inside = c.requires;
      within = c.args.self.now.within;
      first = c.parts_at-parts.ensures.parts;
      level = le-leb c.args.self.now.end.least _ (omega (arith, c.level_of.ensures, c.if-level_of-self.false));
      whole = c.whole_from-whole.ensures.whole;
    }) s c.record_of-self.ensures h
