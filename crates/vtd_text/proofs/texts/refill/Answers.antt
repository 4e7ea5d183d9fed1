use Rattle.std.proofs.Common.{◌≡◌, length, arith}
use Rattle.std.specs.Str.{chars}
use Rattle.std.proofs.lemmas.Grind.{common_steps}
use Rattle.vtd_text.proofs.TextsLemmas.{empty_chars, refilled}
use Rattle.vtd_text.proofs.texts.refill.Goals as goal

pub returns-then-is_empty : goal.returns-then-is_empty
returns-then-is_empty g c =
    let none : length c.args.slice.now ≡ 0 = grind (arith, common_steps) in
    refilled (chars c.args.slice.now) c.args.left.now (chars c.next_plain.result.now) c.next_plain.new.self (empty_chars c.args.slice.now none) c.next_plain.ensures
