use Rattle.std.proofs.Common.{◌≡◌, ◌++◌, length}
use Rattle.std.specs.Str.{bytes_eq, chars}
use denote.Shadow.{shadow}
use denote.Text.{Utf8}
use Rattle.vtd_text.proofs.texts.equals.Given as goal

abbrev pub invariant-slices : goal.invariant-slices
invariant-slices g l = record {
  same : bytes_eq l.fn.one l.fn.other ≡ bytes_eq (chars l.left ++ l.one) (chars l.right ++ l.other);
  left_text : shadow (Utf8 l.left);
  right_text : shadow (Utf8 l.right);
}

abbrev pub decreases-slices : goal.decreases-slices
decreases-slices g l = length (chars l.left ++ l.one)
