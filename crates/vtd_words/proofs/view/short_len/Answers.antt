use Rattle.std.proofs.Common.{sym}
use Rattle.vtd_words.proofs.Numbered.{length_words}
use Rattle.vtd_words.proofs.view.short_len.Goals as goal

pub returns : goal.returns
returns c = sym (length_words 4 c.args.bytes.now)
