-- What commands tell of the answer of an expression on a document (this project's own). The text of an expression is
-- seen as its UTF-8.
use Rattle.std.specs.Prelude.{◌≡◌, ℕ, List, Result, Ok, Err}
use Rattle.xml_model.specs.Nest.{Forest}
use Rattle.xml_model.specs.Tree.{Entry}
use Rattle.xml_model.specs.Accepted.{Accepted}
use Rattle.vtd_listing.specs.Nodes.{node_listing}
use Rattle.vtd_listing.specs.Escapes.{value_line}
use Rattle.xpath_values.specs.Values.{Meant, string_of}
use Rattle.vtd_queries.specs.Questions.{Asks, AsksNodes}
use Rattle.vtd_queries.specs.declared.faults.QueryFault.{QueryFault}
use Rattle.vtd_queries.specs.declared.faults.QueryFault.TheVariants as faults
use Rattle.vtd_script.specs.declared.refusals.Refusal.{Refusal}
use Rattle.vtd_script.specs.declared.refusals.Refusal.TheVariants as no

-- the refusal of a command by why its expression has no answer; want of memory is the fault of a call, and of no text
abbrev pub query_refusal : QueryFault → Refusal
query_refusal faults.Long = no.ExprLong
query_refusal faults.Deep = no.ExprDeep
query_refusal faults.Syntax = no.ExprSyntax
query_refusal faults.Axis = no.Axis
query_refusal faults.Variable = no.Variable
query_refusal faults.Function = no.Function
query_refusal faults.Arguments = no.Arguments
query_refusal faults.Prefix = no.Prefix
query_refusal faults.LiteralFraction = no.LiteralFraction
query_refusal faults.LiteralRange = no.LiteralRange
query_refusal faults.NeedsNodes = no.NeedsNodes
query_refusal faults.NotNodes = no.NotNodes
query_refusal faults.Fraction = no.Fraction
query_refusal faults.Infinite = no.Infinite
query_refusal faults.Range = no.Range
query_refusal faults.NoMemory = no.Range

-- the lines of the nodes of an expression
abbrev pub selected : Result (List Entry) QueryFault → Result (List ℕ) Refusal
selected (Ok es) = Ok (node_listing es)
selected (Err fault) = Err (query_refusal fault)

-- The nodes of an expression are listed, in document order.
pub record Selects (bytes : List ℕ) (bound : List (List ℕ × List ℕ)) (text : List ℕ)
    (told : Result (List ℕ) Refusal) : Type 0 where
  pub nest : Forest
  pub accepted : Accepted 8 bytes nest
  pub found : Result (List Entry) QueryFault
  pub asked : AsksNodes bytes nest bound text found
  pub is : told ≡ selected found

-- the line of the string of a value (XPath 1.0, section 4.2)
abbrev pub valued : Result Meant QueryFault → Result (List ℕ) Refusal
valued (Ok v) = Ok (value_line (string_of v))
valued (Err fault) = Err (query_refusal fault)

-- The string of an expression is told.
pub record Values (bytes : List ℕ) (bound : List (List ℕ × List ℕ)) (text : List ℕ)
    (told : Result (List ℕ) Refusal) : Type 0 where
  pub nest : Forest
  pub accepted : Accepted 8 bytes nest
  pub found : Result Meant QueryFault
  pub asked : Asks bytes nest bound text found
  pub is : told ≡ valued found
