use Rattle.std.proofs.Common.{arith, sym}
use Rattle.std.proofs.lemmas.Result.{err_from_is_err_and}
use Rattle.vtd_words.specs.Lists.{list_of}
use Rattle.vtd_index.proofs.Sending.{sent_more, sent_prefix}
use Rattle.vtd_index.proofs.pieces.append_words.Goals as goal

pub returns-in_err-append_all : goal.returns-in_err-append_all
returns-in_err-append_all g c =
    let p = err_from_is_err_and c.from_residual.result c.from_residual.ensures.1 in
    let put = rw (sym c.word_len-size.ensures) at c.put_words.ensures in
    rw (p.1, p.2, sym c.word_len-size.ensures)
    (sent_prefix (g.F.Files.seen c.args.files.now) (g.F.Files.seen c.loop-at.files) (g.F.Files.seen c.append_all.new.files)
    c.word_len-size.result c.loop-at.at c.min-count.result
    (list_of c.args.part (g.W.Words.lists c.args.words.now)) _ c.in_err-append_all.field-0.0
    c.loop-at.invariant put (rw c.in_err-append_all.was at c.append_all.ensures))

pub loop-at-preserved : goal.loop-at-preserved
loop-at-preserved g c =
    let put = rw (sym c.word_len-size.ensures) at c.put_words.ensures in
    sent_more (g.F.Files.seen c.args.files.now) (g.F.Files.seen c.loop-at.files) (g.F.Files.seen c.append_all.new.files)
    c.word_len-size.result c.loop-at.at c.min-count.result
    (list_of c.args.part (g.W.Words.lists c.args.words.now)) _ c.in_ok-append_all.field-0 c.loop-at.invariant
    (omega (arith, c.min-count.ensures, c.len-len.ensures, c.loop-at-test.true)) put (rw c.in_ok-append_all.was at c.append_all.ensures)
