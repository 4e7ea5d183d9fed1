-- A text node whose content is set.
use Rattle.std.specs.Prelude.{◌≡◌, ℕ, ◌+◌, ◌≤◌, List, ◌++◌, map, take, drop, length, encode_utf8_all}
use Rattle.std.specs.List.{AllByRecursion}
use Rattle.xml_model.specs.Items.{Leaf, first_place, written_pieces}
use Rattle.xml_model.specs.Nest.{Forest}
use Rattle.xml_model.specs.Records.{Record, records, run_records}
use Rattle.xml_model.specs.Tree.{Entry}
use Rattle.xml_model.specs.Accepted.{Accepted}
use Rattle.xml_nests.specs.Moved.{moved}
use Rattle.xml_patches.specs.Edited.{in_text, set_text}

-- the text as it is written: its bytes in the place of the node's
abbrev pub text_bytes : List ℕ → List ℕ
text_bytes cs = encode_utf8_all (written_pieces (map in_text cs))

-- bytes with others in the place of a range
abbrev pub exchanged : List ℕ → ℕ → ℕ → List ℕ → List ℕ
exchanged bytes start stop put = take start bytes ++ (put ++ drop stop bytes)

-- where the text ends
abbrev pub set_end : Entry → List ℕ → ℕ
set_end e cs = e.start + length (text_bytes cs)

-- the records of the node, and those of the text in its place
abbrev pub old_run : Entry → List Leaf → List Record
old_run e xs = run_records (length e.holders) e.start xs

abbrev pub new_run : Entry → List ℕ → List Record
new_run e cs = run_records (length e.holders) e.start (set_text cs)

-- the document with the text: it is accepted, and its records are the old ones, with those of the text in the place of
-- the node's, and those after them moved, which are of what begins where the node ends or after it
pub record TextPatched (k : ℕ) (bytes : List ℕ) (nest : Forest) (e : Entry) (xs : List Leaf) (cs : List ℕ) : Type 0 where
  pub new : Forest
  pub accepted : Accepted k (exchanged bytes e.start e.stop (text_bytes cs)) new
  pub first : first_place (exchanged bytes e.start e.stop (text_bytes cs)) ≡ first_place bytes
  pub before : List Record
  pub rest : List Record
  pub were : records nest (first_place bytes) ≡ before ++ (old_run e xs ++ rest)
  pub are : records new (first_place bytes) ≡ before ++ (new_run e cs ++ map (moved e.stop (set_end e cs)) rest)
  pub index : e.index ≡ length before
  pub past : e.past ≡ length before + length (old_run e xs)
  pub further : AllByRecursion (λ r. e.stop ≤ r.offset) rest
