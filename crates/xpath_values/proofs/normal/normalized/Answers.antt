use Rattle.std.proofs.Common.{rules, ◌++◌, List, ℕ, string_bytes, sym, ◌∙◌, ap}
use Rattle.std.specs.Prelude.{encode_utf8_all}
use Rattle.std.specs.Str.{chars}
use Rattle.xml_chars.proofs.Runs.{char_some, char_none}
use Rattle.xpath_values.specs.Normal.{left}
use Rattle.xpath_values.specs.Texts.{normalize_space}
use Rattle.xpath_values.proofs.KeptLemmas.{piece_written}
use Rattle.xpath_values.proofs.NormalLemmas.{at_end}
use Rattle.xpath_values.proofs.normal.normalized.Goals as goal

pub loop-c-init : goal.loop-c-init
loop-c-init c = record {
  same = ap (λ (l : List ℕ). l ++ encode_utf8_all (normalize_space (chars c.args.text.now))) c.new-held.ensures.bytes;
  text = search rules;
}

pub loop-c-preserved : goal.loop-c-preserved
loop-c-preserved c = record {
  same =
      piece_written (string_bytes c.take_next.new.held) (string_bytes c.push_str.new.self) c.kept.result.0.now _ _ _ c.in_ok-push_str.ensures.bytes
      c.kept.ensures.same
      (c.in_ok-passed.ensures (chars c.in-Some.after.now)
      ∙ ap (λ (l : List ℕ). string_bytes c.loop-c.held ++ encode_utf8_all (left c.loop-c.passed.some c.loop-c.passed.gap l)) (sym (char_some
      (chars c.loop-c.rest.now) (chars c.in-Some.after.now) c.in-Some.c c.in-Some.ensures.read))
      ∙ c.loop-c.invariant.same);
  text = search rules;
}

pub returns : goal.returns
returns c =
    at_end (string_bytes c.loop-c.held) _ (chars c.loop-c.rest.now) c.loop-c.passed.some c.loop-c.passed.gap (char_none
    (chars c.loop-c.rest.now) c.in_default.ensures.read) c.loop-c.invariant.same
