use Rattle.std.proofs.Common.{◌≡◌, drop}
use Rattle.std.specs.List.{list_any}
use Rattle.vtd_text.specs.Fingerprints.{is_mark_for}
use Rattle.vtd_text.proofs.fingerprints.has_mark.Given as goal

abbrev pub invariant-loop-held : goal.invariant-loop-held
invariant-loop-held l = list_any (is_mark_for l.mark) (drop l.held-index l.bucket) ≡ list_any (is_mark_for l.mark) l.bucket
