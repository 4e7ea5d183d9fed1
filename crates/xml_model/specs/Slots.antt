-- Slots that keep, by depth, the last starting tag that was passed (this project's own). What goes along the records
-- keeps them, and finds in them what holds a node.
use Rattle.std.specs.Prelude.{ℕ, suc, cond, List, [], ◌∷◌, ◌++◌, slice_set}
use Rattle.xml_model.specs.Levels.{is_tag}
use Rattle.xml_model.specs.Records.{Record}
use Rattle.xml_model.specs.Tree.{Holder}

-- the slots after a record with the index n: a starting tag puts its index into the slot of its depth
abbrev pub slots_with : ℕ → List ℕ → Record → List ℕ
slots_with n s r = cond (is_tag r) (slice_set s r.depth n) s

-- the slots after records, the first of which has the index n
abbrev pub slots_after : ℕ → List ℕ → List Record → List ℕ
slots_after n s [] = s
slots_after n s (r ∷ rs) = slots_after (suc n) (slots_with n s r) rs

-- the indexes of the elements that hold a node, the outermost first
abbrev pub holder_indexes : List Holder → List ℕ
holder_indexes [] = []
holder_indexes (x ∷ xs) = holder_indexes xs ++ x.index ∷ []
