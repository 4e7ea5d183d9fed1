use Rattle.std.proofs.Common.{arith}
use Rattle.vtd_documents.proofs.document.of_bytes.Goals as goal

pub returns : goal.returns
returns c = λ k. let f = c.type_inv.file k in omega (arith, f)
