use Rattle.std.proofs.Common.{◌≡◌, ◌<◌, length, arith, ℕ, List, ap, sym, ◌∙◌}
use Rattle.std.proofs.lemmas.Result.{err_from_is_err_and}
use Rattle.vtd_words.specs.Lists.{Lists}
use Rattle.vtd_index.specs.Layout.{file_of}
use Rattle.vtd_index.specs.declared.pieces.Piece.{Piece}
use Rattle.vtd_index.specs.Pieces.{pieces_bytes, pieces_of}
use Rattle.vtd_index.proofs.Joined.{going_on, going_prefix, whole_file, seventeen, all_taken}
use Rattle.vtd_index.proofs.writing.append_index.Goals as goal

is_file : (bytes : List ℕ) (words : Lists) (ps : List Piece) → ps ≡ pieces_of (length bytes) words → pieces_bytes bytes words ps ≡ file_of bytes words
is_file bytes words ps e = ap (λ (qs : List Piece). pieces_bytes bytes words qs) e ∙ whole_file bytes words

below : {i n : ℕ} → i < 17 → n ≡ 17 → i < n
below h e = omega arith

pub returns-in_err-append_piece : goal.returns-in_err-append_piece
returns-in_err-append_piece g c =
    let p = err_from_is_err_and c.from_residual.result c.from_residual.ensures.1 in
    let e = is_file c.args.bytes.now (g.W.Words.lists c.args.words.now) c.pieces-all.result c.pieces-all.ensures in
    rw (p.1, p.2, sym e) (going_prefix (g.F.Files.seen c.args.files.now) (g.F.Files.seen c.loop-piece.files) (g.F.Files.seen c.append_piece.new.files)
    c.args.bytes.now (g.W.Words.lists c.args.words.now) c.pieces-all.result c.loop-piece.piece-index _
    c.in_err-append_piece.field-0.0
    (below c.loop-piece-test.true (seventeen _ _ _ c.pieces-all.ensures)) c.loop-piece.invariant (rw c.in_err-append_piece.was at c.append_piece.ensures))

pub loop-piece-preserved : goal.loop-piece-preserved
loop-piece-preserved g c =
    going_on (g.F.Files.seen c.args.files.now) (g.F.Files.seen c.loop-piece.files) (g.F.Files.seen c.append_piece.new.files)
    c.args.bytes.now (g.W.Words.lists c.args.words.now) c.pieces-all.result c.loop-piece.piece-index _ c.in_ok-append_piece.field-0
    (below c.loop-piece-test.true (seventeen _ _ _ c.pieces-all.ensures)) c.loop-piece.invariant (rw c.in_ok-append_piece.was at c.append_piece.ensures)

pub returns : goal.returns
returns g c = rw (all_taken c.args.bytes.now (g.W.Words.lists c.args.words.now) c.pieces-all.result c.loop-piece.piece-index c.pieces-all.ensures
    c.loop-piece-test.false) at c.loop-piece.invariant.adds
