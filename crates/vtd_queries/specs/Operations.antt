-- What an operation makes of the nodes that the text of an expression answers (this project's own).
use Rattle.std.specs.Prelude.{◌≡◌, ℕ, List, length, Result, Ok, Err}
use Rattle.xml_model.specs.Nest.{Forest}
use Rattle.xml_model.specs.Tree.{Entry}
use Rattle.vtd_edits.specs.declared.splice.Splice.{Splice}
use Rattle.vtd_modifier.specs.declared.operation.EditFault.{EditFault}
use Rattle.vtd_modifier.specs.declared.operation.Operation.{Operation}
use Rattle.vtd_modifier.specs.Outcomes.{outcome}
use Rattle.vtd_queries.specs.declared.faults.OperationFault.{OperationFault}
use Rattle.vtd_queries.specs.declared.faults.OperationFault.TheVariants as no
use Rattle.vtd_queries.specs.declared.faults.QueryFault.{QueryFault}
use Rattle.vtd_queries.specs.declared.operating.Operated.{Operated}
use Rattle.vtd_queries.specs.Faults.{edit_fault}
use Rattle.vtd_queries.specs.Questions.{AsksNodes}

-- the splices of so many nodes
abbrev pub counted : ℕ → Result (List Splice) EditFault → Result Operated OperationFault
counted n (Ok splices) = Ok (record { count = n; splices = splices })
counted n (Err fault) = Err (edit_fault fault)

-- what is made of the nodes that a text answers
abbrev pub operated : List ℕ → Operation → Result (List Entry) QueryFault → Result Operated OperationFault
operated bytes operation (Ok es) = counted (length es) (outcome bytes operation es)
operated bytes operation (Err fault) = Err (no.Query fault)

-- the operation on the nodes of the text makes splices, or is refused
pub record Operates (bytes : List ℕ) (nest : Forest) (bound : List (List ℕ × List ℕ)) (text : List ℕ)
    (operation : Operation) (answer : Result Operated OperationFault) : Type 0 where
  pub found : Result (List Entry) QueryFault
  pub asked : AsksNodes bytes nest bound text found
  pub is : answer ≡ operated bytes operation found
