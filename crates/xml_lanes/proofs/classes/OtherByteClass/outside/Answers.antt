use Rattle.std.proofs.Common.{ℕ, arith}
use Rattle.std.specs.Prelude.{not}
use Rattle.std.proofs.lemmas.Simd.{zip2_splat}
use Rattle.xml_lanes.specs.Classes.{is_other}
use Rattle.xml_lanes.proofs.Masks.{masked_each, equal_lane}
use Rattle.xml_lanes.proofs.classes.OtherByteClass.outside.Goals as goal

pub returns : goal.returns
returns c =
    let v = c.args.v in
    let byte = c.args.self.now.byte in
    masked_each _ (λ b. not (is_other byte b)) v _ (omega (arith, c.fits-v.0)) (zip2_splat {Y = ℕ} _ v 16 byte c.fits-v.0) (equal_lane byte)
