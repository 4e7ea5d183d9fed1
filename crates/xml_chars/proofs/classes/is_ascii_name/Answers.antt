use Rattle.std.proofs.Common.{refl, arith, nat_eq, get_or}
use Rattle.std.specs.Prelude.{not, bit_and}
use Rattle.std.proofs.lemmas.Bool.{agree_below_at}
use Rattle.xml_model.specs.Chars.{is_name_start, is_name_char, in_ranges}
use Rattle.xml_chars.specs.declared.classes.TheConstants.{CLASSES}
use Rattle.xml_chars.specs.Wide.{is_ascii_name}
use Rattle.xml_chars.proofs.classes.is_ascii_name.Goals as goal

pub returns : goal.returns
unfolding is_name_char is_name_start in_ranges
returns c = agree_below_at (λ b. not (nat_eq (bit_and (get_or CLASSES b 0) 2) 0)) is_ascii_name 256 c.args.byte refl (omega arith)
