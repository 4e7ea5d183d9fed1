use Rattle.std.proofs.Common.{refl, arith, nat_eq}
use Rattle.std.specs.Prelude.{not, ◌&&◌, ◌||◌, nat_le}
use Rattle.std.proofs.lemmas.Bool.{agree_below_at}
use Rattle.xml_model.specs.Chars.{is_char, in_ranges}
use Rattle.xml_items.specs.Plain.{is_plain_byte}
use Rattle.xml_items.proofs.classes.is_plain_byte.Goals as goal

pub returns : goal.returns
unfolding is_char in_ranges
returns c = agree_below_at (λ b. (nat_le 32 b || nat_eq b 10 || nat_eq b 9 || nat_eq b 13) && not (nat_eq b 239)) is_plain_byte 256 c.args.byte refl (omega arith)
