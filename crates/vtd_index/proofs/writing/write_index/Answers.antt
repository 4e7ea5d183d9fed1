use Rattle.vtd_index.proofs.Documents.{nav_file}
use Rattle.vtd_index.proofs.writing.write_index.Goals as goal

pub returns-clause-writes : goal.returns-clause-writes
returns-clause-writes g c = λ nest a.
    let e = nav_file c.args.nav.now.bytes (g.W.Words.lists c.args.nav.now.words) nest c.table-table.ensures.nav a in
    rw e (rw (c.bytes.ensures.value, c.words.ensures.value, c.table-table.ensures.value) at c.write_parts.ensures.writes)
