-- The nodes of what an expression means are in document order, each once.
use Rattle.std.proofs.Common.{◌≡◌, List, Ok, subst}
use Rattle.xml_model.specs.Contexts.{Rises}
use Rattle.xml_model.specs.Tree.{Entry}
use Rattle.xpath_grammar.specs.Tree.{Tree}
use Rattle.xpath_values.specs.Values.{nodes}
use Rattle.xpath_meaning.specs.Context.{Context}
use Rattle.xpath_meaning.specs.Meaning.{mean}
use Rattle.xpath_meaning.proofs.Orders.{Orderly, mean_orderly}

pub nodes_rise : (t : Tree) (c : Context) (es : List Entry) → Rises c.document → mean t c ≡ Ok (nodes es) → Rises es
nodes_rise t c es r e = subst Orderly e (mean_orderly t c r)
