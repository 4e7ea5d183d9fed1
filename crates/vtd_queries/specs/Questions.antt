-- What the text of an expression answers on a document, with the root as the context node, at the position 1 of 1
-- (XPath 1.0, sections 1 to 4).
use Rattle.std.specs.Prelude.{◌≡◌, ℕ, cond, List, Result, Ok, Err}
use Rattle.xml_model.specs.Nest.{Forest}
use Rattle.xml_model.specs.Tree.{Entry}
use Rattle.xpath_grammar.specs.Functions.{gives_nodes}
use Rattle.xpath_grammar.specs.Tree.{Tree}
use Rattle.xpath_values.specs.Answers.{Answer, with}
use Rattle.xpath_values.specs.Values.{Meant}
use Rattle.xpath_meaning.specs.Context.{Context, nodes_in}
use Rattle.xpath_meaning.specs.Meaning.{mean}
use Rattle.xpath_meaning.specs.Scope.{root_context}
use Rattle.vtd_queries.specs.declared.faults.QueryFault.{QueryFault}
use Rattle.vtd_queries.specs.declared.faults.QueryFault.TheVariants as no
use Rattle.vtd_queries.specs.Faults.{value_fault, and_then}
use Rattle.vtd_queries.specs.Readings.{Reads}

-- an answer of evaluation, its faults being those of the text
abbrev pub evaluated : {X : Type 0} → Answer X → Result X QueryFault
evaluated (Ok x) = Ok x
evaluated (Err fault) = Err (value_fault fault)

-- the value of an expression
abbrev pub value_in : Context → Tree → Result Meant QueryFault
value_in c t = evaluated (mean t c)

-- the nodes of an expression; it is refused where its type is no node-set, before it is evaluated
abbrev pub nodes_of : Context → Tree → Result (List Entry) QueryFault
nodes_of c t = cond (gives_nodes t) (evaluated (with (mean t c) nodes_in)) (Err no.NotNodes)

-- the text answers a value, or is refused
pub record Asks (bytes : List ℕ) (nest : Forest) (bound : List (List ℕ × List ℕ)) (text : List ℕ)
    (answer : Result Meant QueryFault) : Type 0 where
  pub reading : Result Tree QueryFault
  pub read : Reads bound text reading
  pub is : answer ≡ and_then reading (value_in (root_context bytes nest bound))

-- the text answers nodes, in document order, or is refused
pub record AsksNodes (bytes : List ℕ) (nest : Forest) (bound : List (List ℕ × List ℕ)) (text : List ℕ)
    (answer : Result (List Entry) QueryFault) : Type 0 where
  pub reading : Result Tree QueryFault
  pub read : Reads bound text reading
  pub is : answer ≡ and_then reading (nodes_of (root_context bytes nest bound))
