use Rattle.std.proofs.Common.{rules}
use Rattle.std.specs.BTreeMap.{get}
use Rattle.std.specs.Ordering.{nat_cmp}
use Rattle.std.specs.Str.{chars}
use Rattle.xml_chars.proofs.Runs.{char_some, char_none}
use Rattle.xpath_values.specs.Translating.{becomes}
use Rattle.xpath_values.proofs.TranslateLemmas.{more_noted, all_noted}
use Rattle.xpath_values.proofs.translating.changes.Goals as goal

pub loop-c-preserved : goal.loop-c-preserved
loop-c-preserved c = record {
  same = λ q.
      more_noted (chars c.loop-c.left.now) (chars c.in-Some.rest.now) (chars c.loop-c.there.now) (chars c.split-d.result.1.now)
      (becomes (chars c.args.from.now) (chars c.args.to.now) q) c.in-Some.c q c.split-d.result.0 (get nat_cmp c.loop-c.found q)
      (get nat_cmp c.note.new.changes q)
      (char_some (chars c.loop-c.left.now) (chars c.in-Some.rest.now) c.in-Some.c c.in-Some.ensures.read)
      c.split-d.ensures (λ other. c.in_ok-note.ensures q other) (c.loop-c.invariant.same q);
  text = search rules;
  other = search rules;
}

pub returns : goal.returns
returns c = λ q.
    all_noted (chars c.loop-c.left.now) (chars c.loop-c.there.now) (becomes (chars c.args.from.now) (chars c.args.to.now) q) q
    (get nat_cmp c.loop-c.found q) (char_none (chars c.loop-c.left.now) c.in_default.ensures.read) (c.loop-c.invariant.same q)
