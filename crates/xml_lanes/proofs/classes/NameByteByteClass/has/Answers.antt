use Rattle.std.proofs.Common.{◌+◌, ◌%◌, refl, arith, nat_eq}
use Rattle.std.specs.Prelude.{nat_lt, bit_or, ◌||◌, ◌&&◌, not}
use Rattle.std.proofs.lemmas.Bool.{agree_below_at}
use Rattle.xml_model.specs.Chars.{is_name_start, is_name_char, in_ranges}
use Rattle.xml_lanes.specs.Classes.{is_name_byte}
use Rattle.xml_lanes.proofs.classes.NameByteByteClass.has.Goals as goal

pub returns : goal.returns
unfolding is_name_start is_name_char in_ranges
returns c = agree_below_at (λ b. nat_lt ((bit_or b 32 + 159) % 256) 26 || (nat_lt ((b + 211) % 256) 14 && not (nat_eq b 47)) || nat_eq b 95) is_name_byte 256 c.args.byte refl (omega arith)
