use Rattle.std.proofs.Common.{arith}
use Rattle.vtd_index.proofs.Reading.{length_file}
use Rattle.vtd_index.proofs.writing.file_length.Goals as goal

pub returns : goal.returns
returns g c =
    let e = length_file c.args.bytes.now (g.W.Words.lists c.args.words.now) in
    omega (arith, e, c.requires)
