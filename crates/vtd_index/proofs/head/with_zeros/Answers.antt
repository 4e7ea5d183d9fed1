use Rattle.std.proofs.Common.{◌≡◌, ◌+◌, ◌-◌, ℕ, arith}
use Rattle.vtd_index.specs.Heads.{document_at}
use Rattle.vtd_index.specs.Layout.{padded}
use Rattle.vtd_index.proofs.Heads.{nonzero_spare, nonzero_padding, all_zeros}
use Rattle.vtd_index.proofs.head.with_zeros.Goals as goal

-- how many bytes of padding there are
between : (start document to : ℕ) → to ≡ start + padded document → to - (start + document) ≡ padded document - document
between start document to e = omega arith

pub returns-in-Some : goal.returns-in-Some
returns-in-Some c = nonzero_spare c.args.file.now c.args.head _ (cc (c.first_nonzero.ensures, c.spare_start.ensures.value, c.in-Some.is))

pub returns-in-Some-first_nonzero : goal.returns-in-Some-first_nonzero
returns-in-Some-first_nonzero c =
    let b = between (document_at c.args.head.version) c.args.head.document _ c.records_start.ensures in
    nonzero_padding c.args.file.now c.args.head _ (cc (c.first_nonzero.ensures, c.spare_start.ensures.value, c.in_default.is))
    (cc (b, c.document_start.ensures.value, c.first_nonzero-2.ensures, c.in-Some-first_nonzero.is))

pub returns : goal.returns
returns c =
    let b = between (document_at c.args.head.version) c.args.head.document _ c.records_start.ensures in
    all_zeros c.args.file.now c.args.head (cc (c.first_nonzero.ensures, c.spare_start.ensures.value, c.in_default.is))
    (cc (b, c.document_start.ensures.value, c.first_nonzero-2.ensures, c.in_default-first_nonzero.is))
