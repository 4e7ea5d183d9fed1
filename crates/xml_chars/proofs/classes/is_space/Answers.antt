use Rattle.std.proofs.Common.{refl, arith, nat_eq, get_or}
use Rattle.std.proofs.lemmas.Bool.{agree_below_at}
use Rattle.xml_model.specs.Chars.{is_space, in_ranges}
use Rattle.xml_chars.specs.declared.classes.TheConstants.{CLASSES}
use Rattle.xml_chars.proofs.classes.is_space.Goals as goal

pub returns : goal.returns
unfolding is_space in_ranges
returns c = agree_below_at (λ b. nat_eq (get_or CLASSES b 0) 49) is_space 256 c.args.byte refl (omega arith)
