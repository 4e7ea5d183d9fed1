-- The words of records, where some that are no starting tags are exchanged for others.
use Rattle.std.proofs.Common.{◌≡◌, ℕ, ◌+◌, ◌-◌, ◌<◌, ◌≤◌, ◌^◌, true, List, ◌++◌, map, length, take, drop, sym, ap, ap₂}
use Rattle.std.proofs.Common.{subst, ◌∙◌, arith, append_assoc, length-append, drop_at}
use Rattle.std.specs.Prelude.{All, ℤ}
use Rattle.std.specs.List.{AllByRecursion as Each}
use Rattle.std.proofs.lemmas.List.{map-append, take_at}
use Rattle.std.proofs.lemmas.List.Elements.{All-from_recursion}
use Rattle.xml_model.specs.Records.{Record, word}
use Rattle.xml_model.specs.Levels.{Levels, level_word, levels, record_level, tags_from}
use Rattle.xml_nests.specs.Moved.{moved}
use Rattle.xml_patches.specs.Renumbered.{is_tagless}
use Rattle.xml_patches.proofs.Renumber.{tags_kept, tags_renumbered, level_renumbered}
use Rattle.vtd_words.specs.Lists.{Lists}
use Rattle.vtd_words.specs.Exchanged.{moved_by, CanShift, CanRenumberLists, CanRenumber, CanRenumberPair, renumbered as renumbered_by, renumbered_pair}
use Rattle.vtd_words.proofs.Shown.{map_length}
use Rattle.vtd_location.specs.Nav.{levels_in}
use Rattle.vtd_builder.specs.Exchanges.{growth, with_records}
use Rattle.vtd_patch.proofs.Moves.{Low, words_moved, words_can_shift, level_same, last_same, can_level, can_last, tags_within}

-- ---- three parts

before_words : (a b z : List Record) → take (length a) (map word (a ++ (b ++ z))) ≡ map word a
before_words a b z =
    ap (take (length a)) (map-append word a (b ++ z)) ∙ take_at (map word a) (map word (b ++ z)) (length a) (map_length a)

rest_words : (a b z : List Record) → drop (length a + length b) (map word (a ++ (b ++ z))) ≡ map word z
rest_words a b z =
    let l : length (map word a ++ map word b) ≡ length a + length b =
    length-append (map word a) (map word b) ∙ ap₂ (λ (m n : ℕ). m + n) (map_length a) (map_length b) in
    ap (drop (length a + length b)) (map-append word a (b ++ z) ∙ ap (λ (ws : List ℕ). map word a ++ ws) (map-append word b z)
    ∙ sym (append_assoc (map word a) (map word b) (map word z)))
    ∙ drop_at (map word a ++ map word b) (map word z) (length a + length b) l

three_words : (a b z : List Record) → map word (a ++ (b ++ z)) ≡ map word a ++ (map word b ++ map word z)
three_words a b z = map-append word a (b ++ z) ∙ ap (λ (ws : List ℕ). map word a ++ ws) (map-append word b z)

-- ---- all words

-- the words of records and of their levels
abbrev pub all_words : List Record → Lists
all_words rs = record {
  records = map word rs;
  level1 = (levels rs).level1;
  level2 = (levels rs).level2;
  level3 = (levels rs).level3;
  level4 = (levels rs).level4;
  level5 = (levels rs).level5;
}

lists_by : (l : Lists) (rs : List Record) → l.records ≡ map word rs → levels_in l ≡ levels rs → l ≡ all_words rs
lists_by l rs e h =
    ap₂ (λ (ws : List ℕ) (v : Levels). let r : Lists = record {
      records = ws;
      level1 = v.level1;
      level2 = v.level2;
      level3 = v.level3;
      level4 = v.level4;
      level5 = v.level5;
    } in r) e h

five : (l m : Levels) → l.level1 ≡ m.level1 → l.level2 ≡ m.level2 → l.level3 ≡ m.level3 → l.level4 ≡ m.level4 → l.level5 ≡ m.level5 → l ≡ m
five l m a b c d e =
    ap₂ (λ (x y : List ℕ). let r : Levels = record { level1 = x; level2 = y; level3 = l.level3; level4 = l.level4; level5 = l.level5 } in r) a b
    ∙ ap₂ (λ (x y : List ℕ). let r : Levels = record { level1 = m.level1; level2 = m.level2; level3 = x; level4 = y; level5 = l.level5 } in r) c d
    ∙ ap (λ (x : List ℕ). let r : Levels = record { level1 = m.level1; level2 = m.level2; level3 = m.level3; level4 = m.level4; level5 = x } in r) e

-- ---- an exchange

-- records before some, these, those in their place, and the rest, for n bytes in the place of those from start to stop
pub record Exchange (a b c z : List Record) (start stop n : ℕ) : Type 0 where
  pub order : start ≤ stop
  pub further : Each (λ r. stop ≤ r.offset) z
  pub old_low : Low z
  pub new_low : Low (map (moved stop (start + n)) z)
  pub old_plain : is_tagless b ≡ true
  pub new_plain : is_tagless c ≡ true
  pub old_few : length a + length b + length z < 2 ^ 32
  pub new_few : length a + length c + length z < 2 ^ 32

length_parts : (a b z : List Record) → length (a ++ (b ++ z)) ≡ length a + length b + length z
length_parts a b z = length-append a (b ++ z) ∙ ap (λ (m : ℕ). length a + m) (length-append b z) ∙ omega arith

same_growth : (a b c : List Record) → growth (length (map word c)) (length a + length b - length a) ≡ growth (length c) (length b)
same_growth a b c = let e : length a + length b - length a ≡ length b = omega arith in ap₂ growth (map_length c) e

one_level : (k : ℕ) (a b c z : List Record) (start stop n : ℕ) (g : ℤ) → g ≡ growth (length c) (length b) → Exchange a b c z start stop n →
    map (renumbered_pair (length a + length b) g) (map level_word (record_level k (a ++ (b ++ z))))
    ≡ map level_word (record_level k (a ++ (c ++ map (moved stop (start + n)) z)))
one_level k a b c z start stop n g e x =
    let old = a ++ (b ++ z) in
    ap (λ (h : ℤ). map (renumbered_pair (length a + length b) h) (map level_word (record_level k old))) e
    ∙ sym (level_same k (length a) (length b) (length c) old (omega (arith, length_parts a b z, x.old_few)) (tags_kept k a b z x.old_plain))
    ∙ sym (ap (map level_word) (level_renumbered k stop (start + n) a b c z x.old_plain x.new_plain))

last_level : (k : ℕ) (a b c z : List Record) (start stop n : ℕ) (g : ℤ) → g ≡ growth (length c) (length b) → Exchange a b c z start stop n →
    map (renumbered_by (length a + length b) g) (tags_from k 0 (a ++ (b ++ z)))
    ≡ tags_from k 0 (a ++ (c ++ map (moved stop (start + n)) z))
last_level k a b c z start stop n g e x =
    let old = a ++ (b ++ z) in
    ap (λ (h : ℤ). map (renumbered_by (length a + length b) h) (tags_from k 0 old)) e
    ∙ sym (last_same (length a) (length b) (length c) (tags_from k 0 old) (tags_kept k a b z x.old_plain))
    ∙ sym (tags_renumbered k stop (start + n) a b c z x.old_plain x.new_plain)

new_levels : (a b c z : List Record) (start stop n : ℕ) → Exchange a b c z start stop n →
    levels_in (with_records (length a) (length a + length b) (map word c) (growth n (stop - start)) (all_words (a ++ (b ++ z))))
    ≡ levels (a ++ (c ++ map (moved stop (start + n)) z))
unfolding levels
new_levels a b c z start stop n x =
    let e = same_growth a b c in
    let g = growth (length (map word c)) (length a + length b - length a) in
    five _ _ (one_level 1 a b c z start stop n g e x) (one_level 2 a b c z start stop n g e x) (one_level 3 a b c z start stop n g e x)
    (one_level 4 a b c z start stop n g e x) (last_level 5 a b c z start stop n g e x)

new_records : (a b c z : List Record) (start stop n : ℕ) → Exchange a b c z start stop n →
    (with_records (length a) (length a + length b) (map word c) (growth n (stop - start)) (all_words (a ++ (b ++ z)))).records
    ≡ map word (a ++ (c ++ map (moved stop (start + n)) z))
new_records a b c z start stop n x =
    ap₂ (λ (p q : List ℕ). p ++ (map word c ++ map (moved_by (growth n (stop - start))) q)) (before_words a b z) (rest_words a b z)
    ∙ ap (λ (ws : List ℕ). map word a ++ (map word c ++ ws)) (words_moved start stop n z x.order x.further x.new_low)
    ∙ sym (three_words a c (map (moved stop (start + n)) z))

-- the law: the words with the new records exchanged, and all after them moved and renumbered, are those of the new records
pub exchanged_words : (a b c z : List Record) (start stop n : ℕ) → Exchange a b c z start stop n →
    with_records (length a) (length a + length b) (map word c) (growth n (stop - start)) (all_words (a ++ (b ++ z)))
    ≡ all_words (a ++ (c ++ map (moved stop (start + n)) z))
exchanged_words a b c z start stop n x =
    lists_by _ (a ++ (c ++ map (moved stop (start + n)) z)) (new_records a b c z start stop n x) (new_levels a b c z start stop n x)

-- and all of it can be moved and renumbered
pub can_shift_rest : (a b c z : List Record) (start stop n : ℕ) → Exchange a b c z start stop n →
    All (CanShift (growth n (stop - start))) (drop (length a + length b) (map word (a ++ (b ++ z))))
can_shift_rest a b c z start stop n x =
    All-from_recursion (CanShift (growth n (stop - start))) (drop (length a + length b) (map word (a ++ (b ++ z))))
    (subst (Each (CanShift (growth n (stop - start)))) (sym (rest_words a b z))
    (words_can_shift start stop n z x.order x.further x.old_low x.new_low))

can_one : (k : ℕ) (a b c z : List Record) (start stop n : ℕ) (g : ℤ) → g ≡ growth (length c) (length b) → Exchange a b c z start stop n →
    All (CanRenumberPair (length a + length b) g) (map level_word (record_level k (a ++ (b ++ z))))
can_one k a b c z start stop n g e x =
    let old = a ++ (b ++ z) in
    let l = length_parts a b z in
    let t = tags_within k 0 (length old) (length b) (length c) old (omega arith) (omega (arith, l, x.new_few)) (omega (arith, l)) in
    subst (λ (h : ℤ). All (CanRenumberPair (length a + length b) h) (map level_word (record_level k old))) (sym e)
    (All-from_recursion (CanRenumberPair (length a + length b) (growth (length c) (length b))) (map level_word (record_level k old))
    (can_level k (length a) (length b) (length c) old (omega (arith, l, x.old_few)) t))

can_five : (k : ℕ) (a b c z : List Record) (start stop n : ℕ) (g : ℤ) → g ≡ growth (length c) (length b) → Exchange a b c z start stop n →
    All (CanRenumber (length a + length b) g) (tags_from k 0 (a ++ (b ++ z)))
can_five k a b c z start stop n g e x =
    let old = a ++ (b ++ z) in
    let l = length_parts a b z in
    let t = tags_within k 0 (length old) (length b) (length c) old (omega arith) (omega (arith, l, x.new_few)) (omega (arith, l)) in
    subst (λ (h : ℤ). All (CanRenumber (length a + length b) h) (tags_from k 0 old)) (sym e)
    (All-from_recursion (CanRenumber (length a + length b) (growth (length c) (length b))) (tags_from k 0 old)
    (can_last (length a) (length b) (length c) (tags_from k 0 old) t))

pub can_renumber_all : (a b c z : List Record) (start stop n : ℕ) → Exchange a b c z start stop n →
    CanRenumberLists (length a + length b) (growth (length (map word c)) (length a + length b - length a)) (all_words (a ++ (b ++ z)))
unfolding levels
can_renumber_all a b c z start stop n x =
    let e = same_growth a b c in
    let g = growth (length (map word c)) (length a + length b - length a) in
    record {
      level1 = can_one 1 a b c z start stop n g e x;
      level2 = can_one 2 a b c z start stop n g e x;
      level3 = can_one 3 a b c z start stop n g e x;
      level4 = can_one 4 a b c z start stop n g e x;
      level5 = can_five 5 a b c z start stop n g e x;
    }
