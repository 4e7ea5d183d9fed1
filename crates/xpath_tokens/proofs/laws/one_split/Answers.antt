use Rattle.xpath_tokens.proofs.Splitting.{one_split as only_split}
use Rattle.xpath_tokens.proofs.laws.one_split.Goals as goal

pub returns : goal.returns
returns c = λ after text ts us d e. only_split d e
