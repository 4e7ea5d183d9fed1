use Rattle.std.proofs.Common.{subst, sym}
use Rattle.std.specs.Str.{IsUtf8}
use Rattle.std.proofs.lemmas.Str.{IsUtf8-drop}
use Rattle.xpath_values.proofs.KeptLemmas.{kept_pieces}
use Rattle.xpath_values.proofs.normal.kept.Goals as goal

pub returns-clause-same : goal.returns-clause-same
returns-clause-same c =
    kept_pieces c.args.passed.some c.args.passed.gap c.args.text.now _ _ c.kept_len.result c.utf8.text
    (subst IsUtf8 (sym c.split_at.ensures.back) (IsUtf8-drop c.args.text.now c.kept_len.result c.utf8.text c.kept_len.ensures.place))
    c.split_at.ensures.front c.split_at.ensures.back c.kept_len.ensures.same
