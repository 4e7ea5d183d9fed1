use Rattle.std.proofs.Common.{arith, inl, refl}
use Rattle.vtd_script.proofs.FileParts.{reads_bytes, reads_failed, reads_long}
use Rattle.vtd_script.proofs.Parts.{gather_failed, one_rose}
use Rattle.vtd_script.proofs.session.Session.file_bytes.Goals as goal

pub returns-then-staged_count-gt0-clause-known : goal.returns-then-staged_count-gt0-clause-known
returns-then-staged_count-gt0-clause-known g c = λ map files. inl (omega (arith, c.staged_count.ensures), refl)

pub returns-in-Err-Failed-clause-known : goal.returns-in-Err-Failed-clause-known
returns-in-Err-Failed-clause-known g c = λ map files.
    reads_failed c.args.limit _ _ _ _ c.args.file.now c.name_of.result.now c.args.self.now map _ (omega (arith, c.staged_count.ensures)) files
    c.name_of.ensures
    (gather_failed c.gather_file.result _ _ _ _ _ c.in-Err-Failed.field-0 c.in-Err-Failed.field-0-is c.in-Err-Failed.ensures.cause)

pub returns-in-Err-Failed-clause-counts : goal.returns-in-Err-Failed-clause-counts
returns-in-Err-Failed-clause-counts g c =
    one_rose _ _ _ _ _ (gather_failed c.gather_file.result _ _ _ _ _ c.in-Err-Failed.field-0 c.in-Err-Failed.field-0-is c.in-Err-Failed.ensures.cause)

pub returns-in-Err-Long-clause-known : goal.returns-in-Err-Long-clause-known
returns-in-Err-Long-clause-known g c = λ map files.
    reads_long c.args.limit ⊥ c.args.file.now c.name_of.result.now c.args.self.now map _ _ c.in-Err-Long.field-0 (omega (arith, c.staged_count.ensures))
    files c.name_of.ensures c.in-Err-Long.field-0-is c.in-Err-Long.ensures.prefix

pub returns-in-Ok-clause-known : goal.returns-in-Ok-clause-known
returns-in-Ok-clause-known g c = λ map files.
    reads_bytes c.args.limit ⊥ c.args.file.now c.name_of.result.now c.in-Ok.held.items c.args.self.now map _ _ (omega (arith, c.staged_count.ensures))
    files c.name_of.ensures c.in-Ok.ensures.all c.in-Ok.ensures.within
