use Rattle.vtd_writing.proofs.Finished.{write_unbegun, write_unfinished, write_through}
use Rattle.vtd_index.specs.Layout.{file_of}
use Rattle.vtd_index.proofs.writing.write_parts.Goals as goal

pub returns-in-Err-clause-writes : goal.returns-in-Err-clause-writes
returns-in-Err-clause-writes g c =
    write_unbegun _ _ _ c.args.name.now (file_of c.args.bytes.now (g.W.Words.lists c.args.words.now)) c.in-Err.failed c.in-Err.ensures.begins

pub returns-in-Err-append_index-clause-writes : goal.returns-in-Err-append_index-clause-writes
returns-in-Err-append_index-clause-writes g c =
    write_unfinished (g.F.Files.seen c.args.files.now) (g.F.Files.seen c.begin_write.new.self) (g.F.Files.seen c.append_index.new.files) c.args.name.now
    (file_of c.args.bytes.now (g.W.Words.lists c.args.words.now)) c.in_default.field-0 c.in-Err-append_index.failed c.in_default.ensures.begins
    c.in-Err-append_index.ensures

pub returns-clause-writes : goal.returns-clause-writes
returns-clause-writes g c =
    write_through (g.F.Files.seen c.args.files.now) (g.F.Files.seen c.begin_write.new.self) (g.F.Files.seen c.append_index.new.files)
    (g.F.Files.seen c.finish.new.self) c.args.name.now (file_of c.args.bytes.now
    (g.W.Words.lists c.args.words.now)) c.in_default.field-0 c.in_default-append_index.field-0
    c.finish.result c.in_default.ensures.begins
    c.in_default-append_index.ensures c.finish.ensures.files_stay
