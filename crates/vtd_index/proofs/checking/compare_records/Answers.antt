use Rattle.std.proofs.Common.{arith, refl}
use Rattle.std.proofs.lemmas.Result.{err_from_is_err_and}
use Rattle.vtd_index.proofs.Differing.{first_other, stored_more}
use Rattle.vtd_index.proofs.checking.compare_records.Goals as goal

pub returns-in_err-emit-clause-first : goal.returns-in_err-emit-clause-first
returns-in_err-emit-clause-first c =
    let p = err_from_is_err_and c.from_residual.result c.from_residual.ensures.1 in
    let nest = c.requires.accepted.0 in
    let a = c.requires.accepted.1 in
    rw (p.1, p.2) (record { nest = nest; accepted = a; first = first_other _ _ _ ((c.in_err-emit.ensures.refused nest a _).0 refl) })

pub returns-then-comparer-len-clause-first : goal.returns-then-comparer-len-clause-first
returns-then-comparer-len-clause-first c =
    let nest = c.requires.accepted.0 in
    let a = c.requires.accepted.1 in
    record {
      nest = nest;
      accepted = a;
      first = stored_more c.emit.new.into.at c.args.words.now.records _ (omega (arith, c.if-comparer-len.true, c.len.ensures))
          (rw c.emit.ensures.rest at (c.in_ok-emit.ensures.taken nest a));
    }
