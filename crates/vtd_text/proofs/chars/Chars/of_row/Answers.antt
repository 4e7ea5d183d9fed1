use Rattle.vtd_text.proofs.CharsLemmas.{row_left, row_view}
use Rattle.vtd_text.proofs.chars.Chars.of_row.Goals as goal

pub invariant_of-result : goal.invariant_of-result
invariant_of-result g c = row_left _ _ _ _ c.requires.row

pub returns : goal.returns
returns g c = λ rs s content j. row_view _ _ rs _ _ content s j
