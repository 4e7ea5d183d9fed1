use Rattle.std.proofs.Common.{ℕ, refl, arith}
use Rattle.std.specs.Prelude.{not}
use Rattle.std.proofs.lemmas.Simd.{zip2_splat, zip2_of_maps}
use Rattle.xml_model.specs.Chars.{is_name_start, is_name_char, in_ranges}
use Rattle.xml_lanes.specs.Classes.{is_text_byte}
use Rattle.xml_lanes.proofs.Masks.{masked}
use Rattle.xml_lanes.proofs.classes.TextByteByteClass.outside.Goals as goal

pub returns : goal.returns
unfolding is_name_start is_name_char in_ranges
returns c =
    let v = c.args.v in
    let long = c.fits-v.0 in
    masked _ (λ b. not (is_text_byte b)) v _ (omega arith) c.fits-v.1
    (zip2_of_maps _ _ _ v (zip2_of_maps _ _ _ v (zip2_of_maps _ _ _ v (zip2_of_maps _ _ _ v (zip2_of_maps _ _ _ v (zip2_of_maps _ _ _ v (zip2_of_maps _ _ _ v (zip2_splat {Y = ℕ} _ v 16 32 long) (zip2_splat {Y = ℕ} _ v 16 10 long)) (zip2_splat {Y = ℕ} _ v 16 9 long)) (zip2_splat {Y = ℕ} _ v 16 13 long)) (zip2_splat {Y = ℕ} _ v 16 60 long)) (zip2_splat {Y = ℕ} _ v 16 38 long)) (zip2_splat {Y = ℕ} _ v 16 93 long)) (zip2_splat {Y = ℕ} _ v 16 239 long)) refl
