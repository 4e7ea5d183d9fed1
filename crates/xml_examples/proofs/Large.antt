-- The definitions compute on a document of 200 elements: <a> with 199 times <b>1</b> in it, 1,599 bytes.
use Rattle.std.proofs.Common.{◌≡◌, ℕ, zero, suc, [], ◌∷◌, map, length, refl, codes, true}
use Rattle.xml_model.specs.declared.Axis.TheVariants as axes
use Rattle.xml_model.specs.Items.{walk_to_end}
use Rattle.xml_model.specs.Nest.{Forest, done, flat, is_nest}
use Rattle.xml_model.specs.Records.{records, word}
use Rattle.xml_model.specs.Tree.{all, axis_list}
use Rattle.xml_model.specs.Levels.{level, level_word}
use Rattle.xml_examples.proofs.Parts.{opened, elem, words, printed, c}

abbrev bs : ℕ → Forest
bs zero = done
bs (suc n) = elem (codes "b") (words (codes "1") done) (bs n)

abbrev many : Forest
many = elem (codes "a") (bs 199) done

many_bytes : length (printed many) ≡ 1_599
unfolding opened
many_bytes = refl

many_nests : is_nest many ≡ true
unfolding opened
many_nests = refl

many_walks : walk_to_end (printed many) (flat many) ≡ true
unfolding opened
many_walks = refl

many_nodes : length (all many 0) ≡ 400
unfolding opened
many_nodes = refl

many_records : length (map word (records many 0)) ≡ 400
unfolding opened
many_records = refl

many_levels : length (map level_word (level 1 (all many 0))) ≡ 199
unfolding opened
many_levels = refl

-- after the eleventh b, and after the last but two
many_following : length (axis_list axes.Following (c 0 ∷ c 10 ∷ []) (all many 0)) ≡ 376
unfolding opened
many_following = refl

last_following : map (λ e. e.start) (axis_list axes.Following (c 0 ∷ c 196 ∷ []) (all many 0)) ≡ 1_579 ∷ 1_582 ∷ 1_587 ∷ 1_590 ∷ []
unfolding opened
last_following = refl
