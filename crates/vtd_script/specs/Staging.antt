-- How an operation on the nodes of an expression is staged, and why it is not (this project's own).
use Rattle.std.specs.Prelude.{ℕ, List, ◌++◌, codes}
use Rattle.std.specs.Borrow.{Bor}
use Rattle.std.specs.Fmt.{decimal}
use Rattle.vtd_listing.specs.Listing.{line_feed}
use Rattle.vtd_queries.specs.declared.faults.OperationFault.{OperationFault}
use Rattle.vtd_queries.specs.declared.faults.OperationFault.TheVariants as faults
use Rattle.vtd_script.specs.Queries.{query_refusal}
use Rattle.vtd_script.specs.declared.refusals.Refusal.{Refusal}
use Rattle.vtd_script.specs.declared.refusals.Refusal.TheVariants as no

-- a text that an operation takes, by its bytes
abbrev pub borrowed : List ℕ → Bor (List ℕ)
borrowed bytes = record { ref_ptr = (0, 0); now = bytes }

-- the line of what was staged, by how many nodes the expression has
abbrev pub staged_line : ℕ → List ℕ
staged_line count = codes "staged " ++ decimal count ++ line_feed

-- the refusal of a command by why an operation makes no splices
abbrev pub operation_refusal : OperationFault → Refusal
operation_refusal (faults.Query fault) = query_refusal fault
operation_refusal faults.Name = no.Name
operation_refusal (faults.Kind at) = no.Kind at
