use Rattle.std.proofs.Common.{sym, ◌∙◌, arith, ap, Bool}
use Rattle.std.specs.Prelude.{◌&&◌}
use Rattle.std.proofs.lemmas.Bool.{lt-ltb}
use Rattle.xml_model.specs.Chars.{is_name_start}
use Rattle.xml_chars.proofs.WideLemmas.{wide_start}
use Rattle.xml_chars.proofs.is_name_start.Goals as goal

pub returns-else-code-lt128 : goal.returns-else-code-lt128
returns-else-code-lt128 c = c.is_wide_start.ensures ∙ sym (wide_start c.args.c (omega arith))

pub returns-then-code-lt128 : goal.returns-then-code-lt128
returns-then-code-lt128 c = c.is_ascii_start.ensures ∙ ap (λ (b : Bool). b && is_name_start c.args.c) (lt-ltb c.args.c 128 (omega arith))
