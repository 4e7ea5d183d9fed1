use Rattle.std.proofs.Common.{◌≡◌, ◌∙◌}
use Rattle.std.specs.List.{starts_with}
use Rattle.std.specs.Prelude.{nat_eq}
use Rattle.xpath_values.proofs.TextLemmas.{begins_same}
use Rattle.xpath_values.proofs.texts.begins_with.Goals as goal

pub returns : goal.returns
returns c =
    let e : c.starts_with.result ≡ starts_with nat_eq c.args.text.now c.args.piece.now =
    rw (c.as_bytes.ensures.value, c.as_bytes-2.ensures.value) at c.starts_with.ensures.value in
    e ∙ begins_same c.args.text.now c.args.piece.now c.utf8.text c.utf8.piece
