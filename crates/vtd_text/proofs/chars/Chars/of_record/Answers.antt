use Rattle.vtd_text.proofs.CharsLemmas.{record_view}
use Rattle.vtd_text.proofs.chars.Chars.of_record.Goals as goal

pub returns : goal.returns
returns g c = λ rs s content k. record_view _ _ rs _ c.args.at _ _ content s c.text_of-text.ensures (c.parts_at.ensures.parts rs s) k
