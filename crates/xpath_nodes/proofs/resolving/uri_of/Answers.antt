use Rattle.std.proofs.Common.{◌∙◌, ap, sym}
use Rattle.std.specs.Str.{chars}
use Rattle.std.proofs.lemmas.Str.{chars-nil}
use Rattle.xpath_meaning.specs.Context.{uri_of}
use Rattle.xpath_nodes.proofs.NodeFacts.{no_length}
use Rattle.xpath_nodes.proofs.resolving.uri_of.Goals as goal

pub returns-then-is_empty : goal.returns-then-is_empty
returns-then-is_empty c =
    chars-nil ∙ ap (uri_of c.args.bindings.now) (sym (no_length (chars c.args.prefix.now) (sym c.is_empty.ensures ∙ c.if-is_empty.true)))
