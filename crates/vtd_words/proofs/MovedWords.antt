-- What moving says of records and of the entries of levels.
use Rattle.std.proofs.Common.{◌≡◌, ℕ, ◌+◌, ◌*◌, ◌/◌, ◌%◌, ◌^◌, ◌<◌, ℤ, pos, ap₂, sym, subst, arith}
use Rattle.std.specs.Prelude.{negsuc}
use Rattle.xml_model.specs.Records.{Record, word}
use Rattle.vtd_words.specs.Exchanged.{moved_by, CanMove, CanShift, renumbered, renumbered_pair, CanRenumber, CanRenumberPair, with_offset}

-- a record whose word is moved has its offset moved
pub moved_word : (by : ℤ) (t : Record) → CanMove by (2 ^ 30) t.offset → moved_by by (word t) ≡ word (with_offset (moved_by by t.offset) t)
unfolding word
moved_word (pos n) t h = omega arith
moved_word (negsuc n) t h = omega arith

offset_of_word : (t : Record) → t.offset < 2 ^ 30 → word t % 2 ^ 30 ≡ t.offset
unfolding word
offset_of_word t h = omega arith

-- a record's word can be moved where its offset can
pub can_shift : (by : ℤ) (t : Record) → t.offset < 2 ^ 30 → CanMove by (2 ^ 30) t.offset → CanShift by (word t)
can_shift by t l h = subst (CanMove by (2 ^ 30)) (sym (offset_of_word t l)) h

index_of_pair : (index child : ℕ) → child < 2 ^ 32 → (index * 2 ^ 32 + child) / 2 ^ 32 ≡ index
index_of_pair index child l = omega arith

child_of_pair : (index child : ℕ) → child < 2 ^ 32 → (index * 2 ^ 32 + child) % 2 ^ 32 ≡ child
child_of_pair index child l = omega arith

-- an entry of the first four levels keeps its child
pub renumbered_entry : (from : ℕ) (by : ℤ) (index child : ℕ) → child < 2 ^ 32 → renumbered_pair from by (index * 2 ^ 32 + child) ≡ renumbered from by index * 2 ^ 32 + child
renumbered_entry from by index child l = ap₂ (λ (i c : ℕ). renumbered from by i * 2 ^ 32 + c) (index_of_pair index child l) (child_of_pair index child l)

pub can_renumber_entry : (from : ℕ) (by : ℤ) (index child : ℕ) → child < 2 ^ 32 → CanRenumber from by index → CanRenumberPair from by (index * 2 ^ 32 + child)
can_renumber_entry from by index child l h = subst (CanRenumber from by) (sym (index_of_pair index child l)) h
