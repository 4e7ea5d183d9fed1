-- The location caches of worked documents, by the tree and by the records.
use Rattle.std.proofs.Common.{◌≡◌, [], ◌∷◌, map, refl, codes}
use Rattle.xml_model.specs.Nest.{Forest, done}
use Rattle.xml_model.specs.Records.{records}
use Rattle.xml_model.specs.Tree.{all}
use Rattle.xml_model.specs.Levels.{level, last_level, record_level, level_word, no_child, tree_levels, levels, tree_levels_one, levels_one, child_tags}
use Rattle.xml_examples.proofs.Parts.{opened, elem, hollow}
use Rattle.xml_examples.proofs.Records.{two}

-- <a><b>1</b><b>2</b></a>
two_first : map level_word (level 1 (all two 0)) ≡ 0x0000_0002_FFFF_FFFF ∷ 0x0000_0004_FFFF_FFFF ∷ []
unfolding opened
two_first = refl

two_first_by_records : map level_word (record_level 1 (records two 0)) ≡ 0x0000_0002_FFFF_FFFF ∷ 0x0000_0004_FFFF_FFFF ∷ []
unfolding opened
two_first_by_records = refl

two_second : level 2 (all two 0) ≡ []
unfolding opened
two_second = refl

-- <r><a><b><c/></b></a><a><b/></a></r>: r, a, b, c, a, b are the records 1 to 6
abbrev deep : Forest
deep = elem (codes "r") (elem (codes "a") (elem (codes "b") (hollow (codes "c") done) done) (elem (codes "a") (hollow (codes "b") done) done)) done

deep_levels : tree_levels (all deep 0) ≡ record {
  level1 = 0x0000_0002_0000_0000 ∷ 0x0000_0005_0000_0001 ∷ [];
  level2 = 0x0000_0003_0000_0000 ∷ 0x0000_0006_FFFF_FFFF ∷ [];
  level3 = 0x0000_0004_FFFF_FFFF ∷ [];
  level4 = [];
  level5 = [];
}
unfolding opened
deep_levels = refl

deep_levels_by_records : levels (records deep 0) ≡ tree_levels (all deep 0)
unfolding opened
deep_levels_by_records = refl

deep_levels_one : tree_levels_one (all deep 0) ≡ record {
  level1 = 0x0000_0002_0000_0000 ∷ 0x0000_0005_0000_0001 ∷ [];
  level2 = 0x0000_0003_0000_0000 ∷ 0x0000_0006_FFFF_FFFF ∷ [];
  level3 = 4 ∷ [];
}
unfolding opened
deep_levels_one = refl

deep_levels_one_by_records : levels_one (records deep 0) ≡ tree_levels_one (all deep 0)
unfolding opened
deep_levels_one_by_records = refl

deep_children : child_tags 1 (records deep 0) ≡ 2 ∷ 5 ∷ []
unfolding opened
deep_children = refl

deep_no_children : child_tags 4 (records deep 0) ≡ []
unfolding opened
deep_no_children = refl

-- <a><b><c><d><e/></d></c></b></a>
abbrev deeper : Forest
deeper = elem (codes "a") (elem (codes "b") (elem (codes "c") (elem (codes "d") (hollow (codes "e") done) done) done) done) done

deeper_levels : tree_levels (all deeper 0) ≡ record {
  level1 = 0x0000_0002_0000_0000 ∷ [];
  level2 = 0x0000_0003_0000_0000 ∷ [];
  level3 = 0x0000_0004_0000_0000 ∷ [];
  level4 = 0x0000_0005_FFFF_FFFF ∷ [];
  level5 = [];
}
unfolding opened
deeper_levels = refl

-- seven elements, one in the other: the fifth level has the index of the sixth, and the seventh is in no level
abbrev deepest : Forest
deepest = elem (codes "x") (elem (codes "x") deeper done) done

deepest_levels : tree_levels (all deepest 0) ≡ record {
  level1 = 0x0000_0002_0000_0000 ∷ [];
  level2 = 0x0000_0003_0000_0000 ∷ [];
  level3 = 0x0000_0004_0000_0000 ∷ [];
  level4 = 0x0000_0005_0000_0000 ∷ [];
  level5 = 6 ∷ [];
}
unfolding opened
deepest_levels = refl

deepest_levels_by_records : levels (records deepest 0) ≡ tree_levels (all deepest 0)
unfolding opened
deepest_levels_by_records = refl
