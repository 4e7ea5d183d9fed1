use Rattle.std.proofs.Common.{◌≡◌, ℕ, ◌<◌, get_or}
use Rattle.vtd_words.specs.Lists.{list_of}
use Rattle.views.proofs.same_part.Given as goal

abbrev pub invariant-loop-at : goal.invariant-loop-at
invariant-loop-at g l = (k : ℕ) → k < l.at →
    get_or (list_of l.part (g.W.Words.lists l.one)) k 0 ≡ get_or (list_of l.part (g.V.Words.lists l.other)) k 0
