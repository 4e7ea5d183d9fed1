use Rattle.std.proofs.Common.{refl, arith, nat_eq, get_or}
use Rattle.std.specs.Prelude.{not, bit_and}
use Rattle.std.proofs.lemmas.Bool.{agree_below_at}
use Rattle.xml_model.specs.Chars.{is_char, in_ranges}
use Rattle.xml_items.specs.declared.classes.TheConstants.{CLASSES}
use Rattle.xml_items.specs.Plain.{is_text_byte}
use Rattle.xml_items.proofs.classes.is_text_byte.Goals as goal

pub returns : goal.returns
unfolding is_char in_ranges
returns c = agree_below_at (λ b. not (nat_eq (bit_and (get_or CLASSES b 0) 1) 0)) is_text_byte 256 c.args.byte refl (omega arith)
