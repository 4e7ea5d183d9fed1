use Rattle.std.proofs.Common.{string_bytes}
use Rattle.xpath_values.proofs.SpelledLemmas.{spelling_made}
use Rattle.xpath_values.proofs.spelled.spelled.Goals as goal

pub returns : goal.returns
returns c =
    spelling_made c.args.millionths c.after_point.result (string_bytes c.in_ok-held.held)
    (string_bytes c.push_point.new.held) c.args.negative c.after_point.ensures c.in_ok-held.ensures c.in_ok-push_point.ensures
