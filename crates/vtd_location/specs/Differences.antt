-- Where levels differ (this project's own): in the first level that differs, at the first entry that differs, is
-- missing or is surplus.
use Rattle.std.specs.Prelude.{ℕ, suc, cond, ◌==◌, List, [], ◌∷◌, Option, Some, None}
use Rattle.xml_model.specs.Levels.{Levels, LevelsOne}
use Rattle.vtd_words.specs.Numbers.{words_in}
use Rattle.vtd_location.specs.declared.checking.CacheDiff.{CacheDiff}

-- the first place at which two lists differ, counted from n on; the end of the shorter list differs too
abbrev pub differ : ℕ → List ℕ → List ℕ → Option ℕ
differ n [] [] = None
differ n (x ∷ xs) (y ∷ ys) = cond (x == y) (differ (suc n) xs ys) (Some n)
differ n _ _ = Some n

-- the difference of a level, where it has one, or else another
abbrev pub or_differ : ℕ → Option ℕ → Option CacheDiff → Option CacheDiff
or_differ level (Some at) otherwise = Some (record { level = level; at = at })
or_differ level None otherwise = otherwise

-- the first difference of five levels
abbrev pub differ_levels : Levels → Levels → Option CacheDiff
differ_levels stored real =
    or_differ 1 (differ 0 stored.level1 real.level1)
    (or_differ 2 (differ 0 stored.level2 real.level2)
    (or_differ 3 (differ 0 stored.level3 real.level3)
    (or_differ 4 (differ 0 stored.level4 real.level4)
    (or_differ 5 (differ 0 stored.level5 real.level5) None))))

-- the three levels of the first version in slices of bytes: the first two have 8 bytes an entry, the third has 4
abbrev pub levels_one_of : List ℕ → List ℕ → List ℕ → LevelsOne
levels_one_of level1 level2 level3 = record {
  level1 = words_in 8 level1;
  level2 = words_in 8 level2;
  level3 = words_in 4 level3;
}

-- the first difference of three levels
abbrev pub differ_levels_one : LevelsOne → LevelsOne → Option CacheDiff
differ_levels_one stored real =
    or_differ 1 (differ 0 stored.level1 real.level1)
    (or_differ 2 (differ 0 stored.level2 real.level2)
    (or_differ 3 (differ 0 stored.level3 real.level3) None))
