use Rattle.std.proofs.Common.{rules, ℕ, List, [], ◌∷◌, string_bytes, ap, ◌++◌}
use Rattle.std.specs.BTreeMap.{get}
use Rattle.std.specs.List.{flat_map}
use Rattle.std.specs.Ordering.{nat_cmp}
use Rattle.std.specs.Prelude.{encode_utf8_all, option_to_list}
use Rattle.std.specs.Str.{chars}
use Rattle.xml_chars.proofs.Runs.{char_some, char_none}
use Rattle.xpath_values.specs.Translating.{noted}
use Rattle.xpath_values.proofs.TranslateLemmas.{change_written, all_written}
use Rattle.xpath_values.proofs.translating.translated.Goals as goal

pub loop-c-init : goal.loop-c-init
loop-c-init c =
    let f : ℕ → List ℕ = λ q. noted (get nat_cmp c.args.changes.now q) (q ∷ []) in
    record {
      same = ap (λ (l : List ℕ). l ++ encode_utf8_all (flat_map f (chars c.args.text.now))) c.new-held.ensures.bytes;
      text = search rules;
    }

pub loop-c-preserved : goal.loop-c-preserved
loop-c-preserved c =
    let f : ℕ → List ℕ = λ q. noted (get nat_cmp c.args.changes.now q) (q ∷ []) in
    record {
      same =
          change_written f (string_bytes c.loop-c.held) (string_bytes c.push_change.new.held) (chars c.loop-c.rest.now) (chars c.in-Some.after.now)
          (option_to_list c.change_of.result) (encode_utf8_all (flat_map f (chars c.args.text.now))) c.in-Some.c
          (char_some (chars c.loop-c.rest.now) (chars c.in-Some.after.now) c.in-Some.c c.in-Some.ensures.read)
          c.change_of.ensures c.in_ok-push_change.ensures c.loop-c.invariant.same;
      text = search rules;
    }

pub returns : goal.returns
returns c =
    let f : ℕ → List ℕ = λ q. noted (get nat_cmp c.args.changes.now q) (q ∷ []) in
    all_written f (string_bytes c.loop-c.held) (chars c.loop-c.rest.now) (encode_utf8_all (flat_map f (chars c.args.text.now)))
    (char_none (chars c.loop-c.rest.now) c.in_default.ensures.read) c.loop-c.invariant.same
