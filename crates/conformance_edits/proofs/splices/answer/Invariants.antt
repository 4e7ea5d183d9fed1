use Rattle.std.proofs.Common.{◌≡◌, length}
use Rattle.std.specs.List.{All}
use Rattle.vtd_edits.specs.Splices.{IsWithin}
use Rattle.conformance_edits.proofs.splices.answer.Given as goal

abbrev pub invariant-loop-word : goal.invariant-loop-word
invariant-loop-word l = record {
  made : l.edits.len ≡ length l.document;
  within : All (IsWithin (length l.document)) l.list;
}
