use Rattle.std.proofs.Common.{◌*◌, ◌≤◌, arith, ℕ, length, sym}
use Rattle.std.proofs.Math.Nat.{mul-le-mul_left}
use Rattle.vtd_words.specs.Lists.{list_of}
use Rattle.vtd_index.proofs.Sending.{one_more}
use Rattle.vtd_index.proofs.numbers.put_words.Goals as goal

more : (size i count n : ℕ) → size * count ≤ n → i ≤ count → size * i ≤ n
more size i count n room h = let m : size * i ≤ size * count = mul-le-mul_left size h in omega arith

pub loop-i-preserved : goal.loop-i-preserved
loop-i-preserved g c =
    let size = c.word_len-size.result in
    let room : size * c.args.count ≤ length c.args.chunk.now = rw c.word_len-size.ensures c.requires.room in
    one_more size _ c.args.at c.loop-i.i c.word.result (list_of c.args.part (g.W.Words.lists c.args.words.now)) c.loop-i.chunk _ _
    (rw c.loop-i.auto.chunk (more size c.loop-i.i c.args.count (length c.args.chunk.now) room (omega arith)))
    (omega (arith, c.requires.within, c.loop-i-test.true)) c.word.ensures.value (rw (sym c.word_len-size.ensures) at c.put_word.ensures) c.loop-i.invariant
