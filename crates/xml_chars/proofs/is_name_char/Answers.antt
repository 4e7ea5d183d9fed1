use Rattle.std.proofs.Common.{sym, ◌∙◌, arith, ap, Bool}
use Rattle.std.specs.Prelude.{◌&&◌}
use Rattle.std.proofs.lemmas.Bool.{lt-ltb}
use Rattle.xml_model.specs.Chars.{is_name_char}
use Rattle.xml_chars.proofs.WideLemmas.{wide_name, wide_name_by_start}
use Rattle.xml_chars.proofs.is_name_char.Goals as goal

pub returns-then-is_wide_start : goal.returns-then-is_wide_start
returns-then-is_wide_start c = c.if-is_wide_start.true ∙ sym (wide_name_by_start c.args.c (omega arith) (sym c.is_wide_start.ensures ∙ c.if-is_wide_start.true))

pub returns-else-is_wide_start : goal.returns-else-is_wide_start
returns-else-is_wide_start c = c.is_wide_rest.ensures ∙ sym (wide_name c.args.c (omega arith) (sym c.is_wide_start.ensures ∙ c.if-is_wide_start.false))

pub returns-then-code-lt128 : goal.returns-then-code-lt128
returns-then-code-lt128 c = c.is_ascii_name.ensures ∙ ap (λ (b : Bool). b && is_name_char c.args.c) (lt-ltb c.args.c 128 (omega arith))
