use Rattle.std.proofs.Common.{refl, arith, nat_eq, get_or}
use Rattle.std.proofs.lemmas.Bool.{agree_below_at}
use Rattle.xml_model.specs.Chars.{is_name_start, in_ranges}
use Rattle.xml_chars.specs.declared.classes.TheConstants.{CLASSES}
use Rattle.xml_chars.specs.Wide.{is_ascii_start}
use Rattle.xml_chars.proofs.classes.is_ascii_start.Goals as goal

pub returns : goal.returns
unfolding is_name_start in_ranges
returns c = agree_below_at (λ b. nat_eq (get_or CLASSES b 0) 51) is_ascii_start 256 c.args.byte refl (omega arith)
