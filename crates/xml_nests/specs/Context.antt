-- Where some pieces stand in a nest: all that stands around them. So a nest with other pieces in their place is said
-- without a path.
use Rattle.std.specs.Prelude.{ℕ, suc, ◌+◌, Bool, true, false, List, [], ◌∷◌, ◌++◌}
use Rattle.xml_model.specs.Chars.{size}
use Rattle.xml_model.specs.Items.{Tag, Leaf, Item, leaf, start_tag, empty_tag, end_tag, written_end}
use Rattle.xml_model.specs.Nest.{Forest, done, single, empty, element, flat}
use Rattle.xml_model.specs.Records.{Record, past_leaf, past_empty, past_start, past_forest, past_element}
use Rattle.xml_model.specs.Records.{leaf_records, tag_records, forest_records}

-- pieces, and others after them
abbrev pub join : Forest → Forest → Forest
join done g = g
join (single x f) g = single x (join f g)
join (empty t f) g = empty t (join f g)
join (element t inside space f) g = element t inside space (join f g)

-- leaves that follow one another
abbrev pub leaves : List Leaf → Forest
leaves [] = done
leaves (x ∷ xs) = single x (leaves xs)

-- what stands around some pieces: nothing before them in their list and these after them; or one more piece before;
-- or an element round
-- them, with what is after it
pub data Context : Type 0 where
  before : Forest → Context
  past_single : Leaf → Context → Context
  past_tag : Tag → Context → Context
  past_whole : Tag → Forest → List ℕ → Context → Context
  within : Tag → Context → List ℕ → Forest → Context

-- the nest with the pieces in their place
abbrev pub plug : Context → Forest → Forest
plug (before rest) g = join g rest
plug (past_single x c) g = single x (plug c g)
plug (past_tag t c) g = empty t (plug c g)
plug (past_whole t inside space c) g = element t inside space (plug c g)
plug (within t c space f) g = element t (plug c g) space f

-- the items before the pieces, and after them
abbrev pub items_before : Context → List Item
items_before (before rest) = []
items_before (past_single x c) = leaf x ∷ items_before c
items_before (past_tag t c) = empty_tag t ∷ items_before c
items_before (past_whole t inside space c) =
    (start_tag t ∷ flat inside ++ end_tag t.name space ∷ []) ++ items_before c
items_before (within t c space f) = start_tag t ∷ items_before c

abbrev pub items_after : Context → List Item
items_after (before rest) = flat rest
items_after (past_single x c) = items_after c
items_after (past_tag t c) = items_after c
items_after (past_whole t inside space c) = items_after c
items_after (within t c space f) = items_after c ++ end_tag t.name space ∷ flat f

-- how many elements hold the pieces, if so many hold the nest
abbrev pub level_in : ℕ → Context → ℕ
level_in l (before rest) = l
level_in l (past_single x c) = level_in l c
level_in l (past_tag t c) = level_in l c
level_in l (past_whole t inside space c) = level_in l c
level_in l (within t c space f) = level_in (suc l) c

-- their tags, the nearest first, before those that hold the nest
abbrev pub tags_in : List Tag → Context → List Tag
tags_in tags (before rest) = tags
tags_in tags (past_single x c) = tags_in tags c
tags_in tags (past_tag t c) = tags_in tags c
tags_in tags (past_whole t inside space c) = tags_in tags c
tags_in tags (within t c space f) = tags_in (t ∷ tags) c

-- where the pieces begin, if the nest begins at a place
abbrev pub place_in : ℕ → Context → ℕ
place_in at (before rest) = at
place_in at (past_single x c) = place_in (past_leaf at x) c
place_in at (past_tag t c) = place_in (past_empty at t) c
place_in at (past_whole t inside space c) = place_in (past_element at t inside space) c
place_in at (within t c space f) = place_in (past_start at t) c

-- where the nest ends, if the pieces end at a place
abbrev pub end_in : ℕ → Context → ℕ
end_in stop (before rest) = past_forest stop rest
end_in stop (past_single x c) = end_in stop c
end_in stop (past_tag t c) = end_in stop c
end_in stop (past_whole t inside space c) = end_in stop c
end_in stop (within t c space f) = past_forest (end_in stop c + size (written_end t.name space)) f

-- the records before the pieces, and after them, where the pieces end at a place
abbrev pub records_before : ℕ → ℕ → Context → List Record
records_before l at (before rest) = []
records_before l at (past_single x c) = leaf_records l at x ++ records_before l (past_leaf at x) c
records_before l at (past_tag t c) = tag_records l at t ++ records_before l (past_empty at t) c
records_before l at (past_whole t inside space c) =
    tag_records l at t ++ forest_records (suc l) (past_start at t) inside ++ records_before l
    (past_element at t inside space) c
records_before l at (within t c space f) = tag_records l at t ++ records_before (suc l) (past_start at t) c

abbrev pub records_after : ℕ → ℕ → Context → List Record
records_after l stop (before rest) = forest_records l stop rest
records_after l stop (past_single x c) = records_after l stop c
records_after l stop (past_tag t c) = records_after l stop c
records_after l stop (past_whole t inside space c) = records_after l stop c
records_after l stop (within t c space f) =
    records_after (suc l) stop c ++ forest_records l (end_in stop c + size (written_end t.name space)) f

-- whether an element holds the pieces
abbrev pub is_held : Context → Bool
is_held (before rest) = false
is_held (past_single x c) = is_held c
is_held (past_tag t c) = is_held c
is_held (past_whole t inside space c) = is_held c
is_held (within t c space f) = true
