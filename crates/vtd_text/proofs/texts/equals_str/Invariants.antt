use Rattle.std.proofs.Common.{◌≡◌, length}
use Rattle.std.specs.Str.{bytes_eq, chars}
use denote.Shadow.{shadow}
use denote.Text.{Utf8}
use Rattle.vtd_text.proofs.texts.equals_str.Given as goal

abbrev pub invariant-loop-c : goal.invariant-loop-c
invariant-loop-c g l = record { same : bytes_eq l.fn.one (chars l.fn.text) ≡ bytes_eq l.one (chars l.rest); text : shadow (Utf8 l.rest) }

abbrev pub decreases-loop-c : goal.decreases-loop-c
decreases-loop-c g l = length l.one
