-- Steps from one version to another, and their inverse steps (this project's own).
use Rattle.std.specs.Prelude.{ℕ, ◌+◌, ◌-◌, Bool, true, false, cond, nat_eq, nat_le, ◌&&◌, List, [], ◌∷◌, ◌++◌}
use Rattle.std.specs.Prelude.{length, take, drop, Option, Some, None}
use Rattle.vtd_edits.specs.Splices.{Staged}
use Rattle.vtd_edits.specs.declared.splice.Splice.{Splice}
use Rattle.vtd_history.specs.Versions.{Version, version_of, edits_of, unstaged}

-- A step as plain data, in which a document is its bytes: so many splices were staged, and these were taken off;
-- these edits were discarded; the new bytes of this document with these edits were made the document; these bytes
-- were at a range.
pub data PlainStep : Type 0 where
  staged : ℕ → List Splice → PlainStep
  discarded : Staged → PlainStep
  applied : List ℕ → Staged → PlainStep
  patched : ℕ → ℕ → List ℕ → PlainStep

-- where a step leads, and the step back from there
pub record Turned : Type 0 where
  pub version : Version
  pub inverse : PlainStep

abbrev pub turned : Version → PlainStep → Turned
turned version inverse = record { version = version; inverse = inverse }

abbrev pub where_true : {X : Type 0} → Bool → X → Option X
where_true b x = cond b (Some x) None

-- a list without its last items, and these
module _ {X : Type 0} where
  abbrev pub without_last : ℕ → List X → List X
  without_last count xs = take (length xs - count) xs

  abbrev pub last_of : ℕ → List X → List X
  last_of count xs = drop (length xs - count) xs

-- the bytes of a range, and all bytes with others in its place
abbrev pub range : ℕ → ℕ → List ℕ → List ℕ
range start end bytes = take (end - start) (drop start bytes)

abbrev pub with_range : ℕ → ℕ → List ℕ → List ℕ → List ℕ
with_range start end new bytes = take start bytes ++ (new ++ drop end bytes)

abbrev pub is_range : ℕ → ℕ → List ℕ → Bool
is_range start end bytes = nat_le start end && nat_le end (length bytes)

abbrev pub is_none : List Splice → Bool
is_none [] = true
is_none (x ∷ xs) = false

abbrev pub with_splices : List Splice → Version → Version
with_splices splices version = version_of version.bytes (edits_of version.edits.len splices)

-- where a step leads from a version: the table of steps, a row an equation
abbrev pub back : PlainStep → Version → Option Turned
back (staged count []) version = where_true (nat_le count (length version.edits.splices))
    (turned (with_splices (without_last count version.edits.splices) version)
    (staged count (last_of count version.edits.splices)))
back (staged count (x ∷ taken)) version = where_true (nat_eq (length (x ∷ taken)) count)
    (turned (with_splices (version.edits.splices ++ x ∷ taken) version) (staged count []))
back (discarded edits) version = Some (turned (version_of version.bytes edits) (discarded version.edits))
back (applied bytes edits) version =
    Some (turned (version_of bytes edits) (applied version.bytes version.edits))
back (patched start end new) version =
    where_true (is_none version.edits.splices && is_range start end version.bytes)
    (turned (unstaged (with_range start end new version.bytes))
    (patched start (start + length new) (range start end version.bytes)))

-- the steps that take no memory
abbrev pub is_moved : PlainStep → Bool
is_moved (staged count taken) = false
is_moved (discarded edits) = true
is_moved (applied bytes edits) = true
is_moved (patched start end new) = false
