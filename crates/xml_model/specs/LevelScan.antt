-- A level by one forward scan of the records that counts the starting tags one deeper: what checking and filling of
-- levels go by (this project's own). The law `level_by_scan` ties it to the level.
use Rattle.std.specs.Prelude.{ℕ, suc, Bool, false, cond, ◌&&◌, ◌==◌, List, [], ◌∷◌}
use Rattle.xml_model.specs.Records.{Record}
use Rattle.xml_model.specs.Levels.{level_word, no_child, is_tag}

-- whether the next starting tag has a depth
abbrev pub next_is : ℕ → List Record → Bool
next_is d [] = false
next_is d (r ∷ rs) = cond (is_tag r) (r.depth == d) (next_is d rs)

-- the position of the first child of a starting tag of depth k, where c tags of depth k + 1 are before it and these
-- records after it
abbrev pub child_of : ℕ → ℕ → List Record → ℕ
child_of k c rs = cond (next_is (suc k) rs) c no_child

-- whether a record is a starting tag's of a depth
abbrev pub is_tag_of : ℕ → Record → Bool
is_tag_of d r = is_tag r && r.depth == d

-- one more, where a record is a starting tag's of a depth
abbrev pub count_in : ℕ → Record → ℕ → ℕ
count_in d r c = cond (is_tag_of d r) (suc c) c

-- the entries of level k for the records from n on, where c tags of depth k + 1 are before them
abbrev pub level_from : ℕ → ℕ → ℕ → List Record → List ℕ
level_from k c n [] = []
level_from k c n (r ∷ rs) = head (is_tag_of k r) (level_from k (count_in (suc k) r c) (suc n) rs)
  where
    head : Bool → List ℕ → List ℕ
    head b ws = cond b (level_word (n, child_of k c rs) ∷ ws) ws
