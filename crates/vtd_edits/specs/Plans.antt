-- What edits hold beside their splices (this project's own): what private functions promise.
use Rattle.std.specs.Prelude.{◌≡◌, ℕ, ◌<◌, ◌^◌, List, length}
use Rattle.vtd_edits.specs.declared.splice.Splice.{Splice}
use Rattle.vtd_edits.specs.declared.staging.Plan.{Plan}
use Rattle.vtd_edits.specs.Splices.{text_size, AreEdits}
use Rattle.vtd_edits.specs.Order.{order_of, taken_size}

-- what edits are to hold beside these splices
pub record IsPlan (len : ℕ) (splices : List Splice) (plan : Plan) : Type 0 where
  pub sorted : plan.order.items ≡ order_of splices
  pub edits : AreEdits (record { len = len; splices = splices })
  pub texts : plan.text ≡ text_size splices
  pub takes : plan.taken ≡ taken_size splices
  pub few : length splices < 2 ^ 32
