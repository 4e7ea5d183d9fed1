-- The pieces of the new bytes (this project's own): what private functions promise.
use Rattle.std.specs.Prelude.{◌≡◌, ℕ, Bool, List, ◌++◌, length, drop}
use Rattle.vtd_edits.specs.declared.splice.Splice.{Splice}
use Rattle.vtd_edits.specs.Splices.{spliced}
use Rattle.vtd_edits.specs.Order.{in_order, spliced_by, IsChain}

-- splices that are a chain after a place
pub record HasChain (low len : ℕ) (order : List Splice) : Type 0 where
  pub only : Bool
  pub chain : IsChain low only len order

-- what is done of the new bytes: those up to a splice of the order, and up to where the one before it ends
pub record IsDone (bytes : List ℕ) (staged : List Splice) (i done : ℕ) (out : List ℕ) : Type 0 where
  pub chain : HasChain done (length bytes) (drop i (in_order staged))
  pub made : out ++ spliced_by (drop i (in_order staged)) done (drop done bytes) ≡ spliced bytes staged
