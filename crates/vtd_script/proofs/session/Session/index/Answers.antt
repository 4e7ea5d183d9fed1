use Rattle.std.proofs.Common.{arith}
use Rattle.vtd_script.proofs.IndexParts.{prepares_index, stops_index}
use Rattle.vtd_script.proofs.session.Session.index.Goals as goal

pub returns-in-Ok-clause-known : goal.returns-in-Ok-clause-known
returns-in-Ok-clause-known c = λ files.
    prepares_index ⊥ c.args.file c.document.result _ c.ready.result c.in-Ok.lines.items c.index_length-length.result c.document.ensures
    c.index_length-length.ensures (omega (arith, c.from.ensures)) c.ready.ensures.change c.ready.ensures.lines c.in-Ok.ensures

pub returns-then-length-from-clause-known : goal.returns-then-length-from-clause-known
returns-then-length-from-clause-known c = λ files.
    stops_index ⊥ c.args.file c.document.result _ c.index_length-length.result c.document.ensures
    c.index_length-length.ensures (omega (arith, c.from.ensures))
