use Rattle.std.specs.Prelude.{◌<◌, ◌^◌, length}
use Rattle.std.specs.Str.{IsUtf8, IsCharBoundary}
use Rattle.conformance.proofs.items.walk.Given as goal

abbrev pub invariant-loop-count : goal.invariant-loop-count
invariant-loop-count l = record { place : IsCharBoundary l.bytes l.at; utf8 : IsUtf8 l.bytes; few : length l.bytes < 2 ^ 30 }
