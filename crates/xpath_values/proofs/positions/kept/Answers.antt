use Rattle.std.proofs.Common.{rules, arith, ◌++◌, ◌+◌, List, ℕ, string_bytes, Bool, sym, ◌∙◌, ap}
use Rattle.std.specs.Prelude.{encode_utf8_all}
use Rattle.std.specs.Str.{chars}
use Rattle.xml_chars.proofs.Runs.{char_some, char_none}
use Rattle.xpath_values.specs.Texts.{at_positions, is_within}
use Rattle.xpath_values.proofs.SubstringLemmas.{position_taken, positions_end}
use Rattle.xpath_values.proofs.positions.kept.Goals as goal

pub loop-c-init : goal.loop-c-init
loop-c-init c = record {
  same = ap (λ (l : List ℕ). l ++ encode_utf8_all (at_positions (is_within c.args.first c.args.count) 1 (chars c.args.text.now))) c.new-held.ensures.bytes;
  room = omega arith;
  text = search rules;
}

pub loop-c-preserved : goal.loop-c-preserved
loop-c-preserved c =
    let test : ℕ → Bool = is_within c.args.first c.args.count in
    record {
      same =
          c.in_ok-keep.ensures (at_positions test (c.loop-c.position + 1) (chars c.in-Some.after.now))
          ∙ ap (λ (l : List ℕ). string_bytes c.loop-c.held ++ encode_utf8_all l)
          (position_taken test c.loop-c.position c.in-Some.c c.is_within.result (chars c.in-Some.after.now) c.is_within.ensures
          ∙ ap (at_positions test c.loop-c.position) (sym (char_some (chars c.loop-c.rest.now)
          (chars c.in-Some.after.now) c.in-Some.c c.in-Some.ensures.read)))
          ∙ c.loop-c.invariant.same;
      room = omega (arith, c.in-Some.ensures.shorter);
      text = search rules;
    }

pub returns : goal.returns
returns c =
    positions_end (string_bytes c.loop-c.held) _ (chars c.loop-c.rest.now) (is_within c.args.first c.args.count) c.loop-c.position
    (char_none (chars c.loop-c.rest.now) c.in_default.ensures.read) c.loop-c.invariant.same
