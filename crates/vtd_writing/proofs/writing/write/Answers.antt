use Rattle.vtd_edits.specs.Splices.{spliced}
use Rattle.vtd_writing.proofs.Finished.{write_unbegun, write_unfinished, write_through}
use Rattle.vtd_writing.proofs.writing.write.Goals as goal

pub returns-in-Err-clause-writes : goal.returns-in-Err-clause-writes
returns-in-Err-clause-writes g c =
    write_unbegun _ _ _ c.args.name.now (spliced c.args.bytes.now c.args.edits.now.splices) c.in-Err.failed c.in-Err.ensures.begins

pub returns-in-Err-append_new-clause-writes : goal.returns-in-Err-append_new-clause-writes
returns-in-Err-append_new-clause-writes g c =
    write_unfinished (g.F.Files.seen c.args.files.now) (g.F.Files.seen c.begin_write.new.self) (g.F.Files.seen c.append_new.new.files) c.args.name.now
    (spliced c.args.bytes.now c.args.edits.now.splices) c.in_default.field-0 c.in-Err-append_new.failed c.in_default.ensures.begins c.in-Err-append_new.ensures

pub returns-clause-writes : goal.returns-clause-writes
returns-clause-writes g c =
    write_through (g.F.Files.seen c.args.files.now) (g.F.Files.seen c.begin_write.new.self) (g.F.Files.seen c.append_new.new.files)
    (g.F.Files.seen c.finish.new.self) c.args.name.now (spliced c.args.bytes.now c.args.edits.now.splices) c.in_default.field-0 c.in_default-append_new.field-0
    c.finish.result c.in_default.ensures.begins
    c.in_default-append_new.ensures c.finish.ensures.files_stay
