use Rattle.std.proofs.Common.{refl, arith, nat_eq, get_or}
use Rattle.std.specs.Prelude.{not, bit_and}
use Rattle.std.proofs.lemmas.Bool.{agree_below_at}
use Rattle.xml_model.specs.Chars.{in_ranges}
use Rattle.xml_items.specs.declared.declarations.TheConstants.{CLASSES}
use Rattle.xml_items.specs.Parts.{is_encoding_char}
use Rattle.xml_items.proofs.declarations.is_encoding_char.Goals as goal

pub returns : goal.returns
unfolding in_ranges
returns c = agree_below_at (λ b. not (nat_eq (bit_and (get_or CLASSES b 0) 2) 0)) is_encoding_char 256 c.args.b refl (omega arith)
