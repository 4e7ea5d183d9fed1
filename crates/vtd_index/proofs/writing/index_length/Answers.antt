use Rattle.vtd_index.proofs.Documents.{nav_file}
use Rattle.vtd_index.proofs.writing.index_length.Goals as goal

pub returns : goal.returns
returns g c = λ nest a.
    let e = nav_file c.args.nav.now.bytes (g.W.Words.lists c.args.nav.now.words) nest c.table-table.ensures.nav a in
    rw e (rw (c.bytes.ensures.value, c.words.ensures.value, c.table-table.ensures.value) at c.file_length.ensures)
