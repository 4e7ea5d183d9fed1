use Rattle.std.proofs.Common.{◌≡◌, None}
use Rattle.conformance_calls.proofs.outside.write_files.Given as goal

abbrev pub invariant-loop-word : goal.invariant-loop-word
invariant-loop-word l =
    (goal.iterator-loop-word).can_next l.word-iterator ×
    (goal.iterator-loop-word).is_finite l.word-iterator ×
    (l.files.opened ≡ None) × (l.files.writing ≡ None)
