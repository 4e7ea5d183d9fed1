-- How many starting tags of each depth there are, one record or one list of records after another.
use Rattle.std.proofs.Common.{◌≡◌, ℕ, zero, suc, ◌+◌, ◌≤◌, ◌-◌, ◌^◌, ◌<◌, Bool, true, false, cond, ◌&&◌, ◌==◌, List, [], ◌∷◌, ◌++◌, length, refl, ap, ap₂, sym, ◌∙◌, arith}
use Rattle.std.specs.List.{AllByRecursion as Each}
use Rattle.std.proofs.lemmas.List.{length-append}
use Rattle.xml_model.specs.declared.Counts.{Counts}
use Rattle.xml_model.specs.Chars.{size}
use Rattle.xml_model.specs.Items.{Attribute, Leaf, written_attribute, written_pieces}
use Rattle.xml_model.specs.Records.{Record, declares, attributes_records, declaration_part_records, declaration_attributes, leaf_records, text_records, depth_at}
use Rattle.xml_model.proofs.Cuts.{each_cut}
use Rattle.xml_model.specs.Levels.{is_tag, if_tag_of, tags_from, CountsLevels, one_if, with_element, LevelsAtMost}

-- what is counted from one index or another
pub count_any : (k m n : ℕ) (rs : List Record) → length (tags_from k m rs) ≡ length (tags_from k n rs)
count_any k m n [] = refl
count_any k m n (r ∷ rs) = by (is_tag r && r.depth == k) (count_any k (suc m) (suc n) rs)
  where
    by : (b : Bool) → length (tags_from k (suc m) rs) ≡ length (tags_from k (suc n) rs)
        → length (cond b (m ∷ []) [] ++ tags_from k (suc m) rs) ≡ length (cond b (n ∷ []) [] ++ tags_from k (suc n) rs)
    by true h = ap suc h
    by false h = h

pub count_append : (k : ℕ) (a b : List Record) → length (tags_from k 0 (a ++ b)) ≡ length (tags_from k 0 a) + length (tags_from k 0 b)
count_append k [] b = omega arith
count_append k (r ∷ a) b =
    let more : length (tags_from k 1 (a ++ b)) ≡ length (tags_from k 1 a) + length (tags_from k 0 b) =
    count_any k 1 0 (a ++ b) ∙ count_append k a b ∙ ap (λ (n : ℕ). n + length (tags_from k 0 b)) (count_any k 0 1 a) in
    by (is_tag r && r.depth == k) more
  where
    by : (c : Bool) → length (tags_from k 1 (a ++ b)) ≡ length (tags_from k 1 a) + length (tags_from k 0 b)
        → length (cond c (0 ∷ []) [] ++ tags_from k 1 (a ++ b)) ≡ length (cond c (0 ∷ []) [] ++ tags_from k 1 a) + length (tags_from k 0 b)
    by true h = omega (arith, h)
    by false h = h

pub count_within : (k n : ℕ) (rs : List Record) → length (tags_from k n rs) ≤ length rs
count_within k n [] = omega arith
count_within k n (r ∷ rs) = by (is_tag r && r.depth == k) (count_within k (suc n) rs)
  where
    by : (b : Bool) → length (tags_from k (suc n) rs) ≤ length rs → length (cond b (n ∷ []) [] ++ tags_from k (suc n) rs) ≤ suc (length rs)
    by true h = omega (arith, h)
    by false h = omega (arith, h)

-- records that are no tags
abbrev pub NoTags : List Record → Type 0
NoTags rs = Each (λ r. is_tag r ≡ false) rs

pub no_tags : (k n : ℕ) (rs : List Record) → NoTags rs → tags_from k n rs ≡ []
no_tags k n [] h = refl
no_tags k n (r ∷ rs) h = ap (λ (b : Bool). cond (b && r.depth == k) (n ∷ []) [] ++ tags_from k (suc n) rs) h.0 ∙ no_tags k (suc n) rs h.1

plus_none : (k n : ℕ) (rs more : List Record) → NoTags more → n ≡ length (tags_from k 0 rs) → n ≡ length (tags_from k 0 (rs ++ more))
plus_none k n rs more h e = omega (arith, e, count_append k rs more, ap (λ (l : List ℕ). length l) (no_tags k 0 more h))

-- more records, of which none is a tag
pub counts_same : (c : Counts) (rs more : List Record) → NoTags more → CountsLevels c rs → CountsLevels c (rs ++ more)
counts_same c rs more h s = record {
  level1 = plus_none 1 c.level1 rs more h s.level1;
  level2 = plus_none 2 c.level2 rs more h s.level2;
  level3 = plus_none 3 c.level3 rs more h s.level3;
  level4 = plus_none 4 c.level4 rs more h s.level4;
  level5 = plus_none 5 c.level5 rs more h s.level5;
}

plus_tag : (k n : ℕ) (rs : List Record) (r : Record) (more : List Record) → is_tag r ≡ true → NoTags more → n ≡ length (tags_from k 0 rs) → one_if k r.depth n ≡ length (tags_from k 0 (rs ++ r ∷ more))
plus_tag k n rs r more t h e =
    let none : length (tags_from k 1 more) ≡ 0 = ap (λ (l : List ℕ). length l) (no_tags k 1 more h) in
    let one : length (tags_from k 0 (r ∷ more)) ≡ length (cond (r.depth == k) (0 ∷ []) [] ++ tags_from k 1 more) = ap (λ (b : Bool). length (cond (b && r.depth == k) (0 ∷ []) [] ++ tags_from k 1 more)) t in
    let all = count_append k rs (r ∷ more) in
    by (r.depth == k) (all ∙ ap (λ (m : ℕ). length (tags_from k 0 rs) + m) one) none
  where
    by : (b : Bool) → length (tags_from k 0 (rs ++ r ∷ more)) ≡ length (tags_from k 0 rs) + length (cond b (0 ∷ []) [] ++ tags_from k 1 more) → length (tags_from k 1 more) ≡ 0
        → cond b (suc n) n ≡ length (tags_from k 0 (rs ++ r ∷ more))
    by true a z = omega (arith, a, z, e)
    by false a z = omega (arith, a, z, e)

-- one more tag, and records after it that are none
pub counts_tag : (c : Counts) (rs : List Record) (r : Record) (more : List Record) (depth : ℕ) → depth ≡ r.depth → is_tag r ≡ true → NoTags more → CountsLevels c rs → CountsLevels (with_element depth c) (rs ++ r ∷ more)
counts_tag c rs r more depth d t h s = record {
  level1 = rw d (plus_tag 1 c.level1 rs r more t h s.level1);
  level2 = rw d (plus_tag 2 c.level2 rs r more t h s.level2);
  level3 = rw d (plus_tag 3 c.level3 rs r more t h s.level3);
  level4 = rw d (plus_tag 4 c.level4 rs r more t h s.level4);
  level5 = rw d (plus_tag 5 c.level5 rs r more t h s.level5);
}

pub counts_few : (c : Counts) (rs : List Record) (n : ℕ) → length rs ≤ n → CountsLevels c rs → LevelsAtMost n c
counts_few c rs n h s = record {
  level1 = omega (arith, s.level1, count_within 1 0 rs);
  level2 = omega (arith, s.level2, count_within 2 0 rs);
  level3 = omega (arith, s.level3, count_within 3 0 rs);
  level4 = omega (arith, s.level4, count_within 4 0 rs);
  level5 = omega (arith, s.level5, count_within 5 0 rs);
}

-- ---- of items

pub attributes_no_tags : (others : List Attribute) (d at : ℕ) → NoTags (attributes_records d at others)
attributes_no_tags [] d at = tt
attributes_no_tags (a ∷ others) d at = (by (declares a.name), (refl, attributes_no_tags others d (at + size (written_attribute a))))
  where
    by : (b : Bool) → (cond b 3 2 == 0) ≡ false
    by true = refl
    by false = refl

parts_none : (others : List Attribute) (d at : ℕ) → NoTags (declaration_part_records d at others)
parts_none [] d at = tt
parts_none (a ∷ others) d at = (refl, (refl, parts_none others d (at + size (written_attribute a))))

texts_none : (l : ℕ) (rs : List Record) → NoTags rs → NoTags (text_records l rs)
texts_none zero rs h = tt
texts_none (suc l) rs h = h

pub leaf_no_tags : (l at : ℕ) (x : Leaf) → NoTags (leaf_records l at x)
leaf_no_tags l at (Leaf.text ps) = texts_none l _ (each_cut (λ r. is_tag r ≡ false) 5 (depth_at l) at (size (written_pieces ps)) (λ m o i. refl))
leaf_no_tags l at (Leaf.cdata cs) = each_cut (λ r. is_tag r ≡ false) 11 (depth_at l) (at + 9) (size cs) (λ m o i. refl)
leaf_no_tags l at (Leaf.comment cs) = (refl, tt)
leaf_no_tags l at (Leaf.instruction i) = (refl, (refl, tt))
leaf_no_tags l at (Leaf.declaration d) = parts_none (declaration_attributes d) (depth_at l) (at + 5)
leaf_no_tags l at (Leaf.doctype d) = (refl, tt)

-- a record in front that is no tag
pub counts_front : (c : Counts) (r : Record) (rs : List Record) → is_tag r ≡ false → CountsLevels c rs → CountsLevels c (r ∷ rs)
counts_front c r rs t s = record {
  level1 = s.level1 ∙ front 1;
  level2 = s.level2 ∙ front 2;
  level3 = s.level3 ∙ front 3;
  level4 = s.level4 ∙ front 4;
  level5 = s.level5 ∙ front 5;
}
  where
    front : (k : ℕ) → length (tags_from k 0 rs) ≡ length (tags_from k 0 (r ∷ rs))
    front k = count_any k 0 1 rs ∙ sym (ap (λ (b : Bool). length (cond (b && r.depth == k) (0 ∷ []) [] ++ tags_from k 1 rs)) t)
