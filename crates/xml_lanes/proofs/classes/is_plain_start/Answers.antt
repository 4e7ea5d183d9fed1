use Rattle.std.proofs.Common.{◌+◌, ◌%◌, refl, arith, nat_eq}
use Rattle.std.specs.Prelude.{nat_lt, bit_or, ◌||◌}
use Rattle.std.proofs.lemmas.Bool.{agree_below_at}
use Rattle.xml_model.specs.Chars.{is_name_start, in_ranges}
use Rattle.xml_lanes.specs.Classes.{is_plain_start}
use Rattle.xml_lanes.proofs.classes.is_plain_start.Goals as goal

pub returns : goal.returns
unfolding is_name_start in_ranges
returns c = agree_below_at (λ b. nat_lt ((bit_or b 32 + 159) % 256) 26 || nat_eq b 95 || nat_eq b 58) is_plain_start 256 c.args.byte refl (omega arith)
