use Rattle.std.proofs.Common.{◌≡◌, ◌*◌, take, drop}
use Rattle.vtd_words.specs.Lists.{list_of}
use Rattle.vtd_words.specs.Numbers.{bytes_of}
use Rattle.vtd_index.proofs.numbers.put_words.Given as goal

abbrev pub invariant-loop-i : goal.invariant-loop-i
invariant-loop-i g l = take (l.size * l.i) l.chunk ≡ bytes_of l.size (take l.i (drop l.at (list_of l.part (g.W.Words.lists l.words))))
