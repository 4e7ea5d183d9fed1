use Rattle.std.proofs.Common.{ℕ, leb, cond, refl, arith}
use Rattle.std.specs.Prelude.{not}
use Rattle.std.proofs.lemmas.Simd.{zip2_splat, zip2_of_maps}
use Rattle.xml_model.specs.Chars.{is_name_start, is_name_char, in_ranges}
use Rattle.xml_lanes.specs.Classes.{is_name_byte}
use Rattle.xml_lanes.proofs.Masks.{masked, splat_is}
use Rattle.xml_lanes.proofs.classes.NameByteByteClass.outside.Goals as goal

pub returns : goal.returns
unfolding is_name_start is_name_char in_ranges
returns c =
    let v = c.args.v in
    let long = c.fits-v.0 in
    masked _ (λ b. not (is_name_byte b)) v _ (omega arith) c.fits-v.1
    (zip2_of_maps _ _ _ v (zip2_of_maps _ _ _ v (zip2_of_maps (λ (a b : ℕ). cond (leb a b) 255 0) _ _ v (splat_is v 16 26 long) (zip2_of_maps _ _ _ v (zip2_splat {Y = ℕ} _ v 16 32 long) (splat_is v 16 97 long))) (zip2_of_maps _ _ _ v (zip2_of_maps (λ (a b : ℕ). cond (leb a b) 255 0) _ _ v (splat_is v 16 14 long) (zip2_splat {Y = ℕ} _ v 16 45 long)) (zip2_splat {Y = ℕ} _ v 16 47 long))) (zip2_splat {Y = ℕ} _ v 16 95 long)) refl
