use Rattle.std.proofs.Common.{◌≡◌, ◌++◌, take, drop, map}
use Rattle.vtd_words.specs.Exchanged.{moved_by}
use Rattle.vtd_words.proofs.moving.shift_offsets.Given as goal

abbrev pub invariant-loop-word : goal.invariant-loop-word
invariant-loop-word l = l.words ≡ map (moved_by l.fn.by) (take l.word-index l.initial.words) ++ drop l.word-index l.initial.words
