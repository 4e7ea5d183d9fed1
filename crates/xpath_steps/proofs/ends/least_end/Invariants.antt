use Rattle.std.proofs.Common.{◌≡◌, ◌≤◌, length, drop, min}
use Rattle.xml_model.specs.Contexts.{least_past}
use Rattle.xml_model.specs.Items.{first_place}
use Rattle.xml_model.specs.Records.{records}
use Rattle.xpath_steps.specs.Steps.{ForEachContexts}
use Rattle.xpath_steps.proofs.ends.least_end.Given as goal

abbrev pub invariant-loop-context : goal.invariant-loop-context
invariant-loop-context g l = ForEachContexts l.table.bytes (g.W.Words.lists l.table.words) l.contexts (λ nest cs. record {
  within : l.end ≤ length (records nest (first_place l.table.bytes));
  so_far : least_past (length (records nest (first_place l.table.bytes))) cs
      ≡ min l.end (least_past (length (records nest (first_place l.table.bytes))) (drop l.context-index cs));
})
