-- Levels that are counted, one record after another.
use Rattle.std.proofs.lemmas.Bool.{cases_Bool, eqb-true}
use Rattle.std.proofs.Common.{inl, inr, ◌≡◌, ℕ, suc, ◌+◌, ◌<◌, ◌≤◌, Bool, true, false, cond, ◌==◌, List, [], ◌∷◌, ◌++◌, length, take, ap, sym, subst, ◌∙◌, arith}
use Rattle.std.proofs.lemmas.Grind.{take_at_read}
use Rattle.std.proofs.lemmas.List.{take_all}
use Rattle.xml_model.specs.declared.Counts.{Counts}
use Rattle.xml_model.specs.Records.{Record, document}
use Rattle.xml_model.specs.Scan.{record_at}
use Rattle.xml_model.specs.Levels.{is_tag, CountsLevels, LevelsAtMost, with_element, one_if}
use Rattle.xml_model.proofs.TagCounts.{counts_same, counts_tag}
use Rattle.vtd_words.specs.Packed.{record_of}
use Rattle.vtd_words.specs.Table.{Shows, ArePartsAt}
use Rattle.vtd_words.specs.declared.packing.Parts.{Parts}
use Rattle.vtd_words.proofs.Shown.{shown_length}
use Rattle.vtd_location.specs.Counting.{Counting}

one_more : (k d n m : ℕ) → n ≤ m → one_if k d n ≤ m + 1
one_more k d n m h = by (d == k)
  where
    by : (b : Bool) → cond b (suc n) n ≤ m + 1
    by true = omega arith
    by false = omega arith

more_few : (c : Counts) (d m : ℕ) → LevelsAtMost m c → LevelsAtMost (m + 1) (with_element d c)
more_few c d m h = record {
  level1 = one_more 1 d c.level1 m h.level1;
  level2 = one_more 2 d c.level2 m h.level2;
  level3 = one_more 3 d c.level3 m h.level3;
  level4 = one_more 4 d c.level4 m h.level4;
  level5 = one_more 5 d c.level5 m h.level5;
}

pub few_more : (c : Counts) (n m : ℕ) → n ≤ m → LevelsAtMost n c → LevelsAtMost m c
few_more c n m l h = record {
  level1 = omega (arith, h.level1);
  level2 = omega (arith, h.level2);
  level3 = omega (arith, h.level3);
  level4 = omega (arith, h.level4);
  level5 = omega (arith, h.level5);
}

taken : (rs : List Record) (n : ℕ) → n < length rs → take (n + 1) rs ≡ take n rs ++ record_at n rs ∷ []
taken rs n h = (take_at_read rs n document h).1

pub counting_tag : (words : List ℕ) (c : Counts) (n : ℕ) (parts : Parts) → n < length words → ArePartsAt words n parts → parts.token ≡ 0 → Counting words c n → Counting words (with_element parts.depth c) (n + 1)
counting_tag words c n parts within p t i = record {
  records = i.records;
  few = more_few c parts.depth n i.few;
  levels = λ rs s.
      let r = record_at n rs in
      let same : record_of parts ≡ r = p rs s in
      let in_rs : n < length rs = omega (arith, within, shown_length words rs s) in
      let tag : is_tag r ≡ true = ap is_tag (sym same) ∙ ap (λ (m : ℕ). m == 0) t in
      subst (λ (l : List Record). CountsLevels (with_element parts.depth c) l) (sym (taken rs n in_rs))
      (counts_tag c (take n rs) r [] parts.depth (ap (λ (x : Record). x.depth) same) tag tt (i.levels rs s));
}

pub counting_other : (words : List ℕ) (c : Counts) (n : ℕ) (parts : Parts) → n < length words → ArePartsAt words n parts → (parts.token == 0) ≡ false → Counting words c n → Counting words c (n + 1)
counting_other words c n parts within p t i = record {
  records = i.records;
  few = few_more c n (n + 1) (omega arith) i.few;
  levels = λ rs s.
      let r = record_at n rs in
      let same : record_of parts ≡ r = p rs s in
      let in_rs : n < length rs = omega (arith, within, shown_length words rs s) in
      let other : is_tag r ≡ false = ap is_tag (sym same) ∙ t in
      subst (λ (l : List Record). CountsLevels c l) (sym (taken rs n in_rs)) (counts_same c (take n rs) (r ∷ []) (other, tt) (i.levels rs s));
}

pub counting_end : (words : List ℕ) (c : Counts) (n : ℕ) → length words ≤ n → Counting words c n → (rs : List Record) → Shows words rs → CountsLevels c rs
counting_end words c n past i rs s =
    subst (λ (l : List Record). CountsLevels c l) (take_all n rs (omega (arith, past, shown_length words rs s))) (i.levels rs s)

pub counting_on : (words : List ℕ) (c d : Counts) (n : ℕ) (parts : Parts) → n < length words → ArePartsAt words n parts → d ≡ cond (parts.token == 0) (with_element parts.depth c) c → Counting words c n → Counting words d (n + 1)
counting_on words c d n parts within p e i = subst (λ (x : Counts). Counting words x (n + 1)) (sym e) (elim (cases_Bool (parts.token == 0)) [
  | inl t ↦ rw t (counting_tag words c n parts within p (eqb-true parts.token 0 t) i)
  | inr f ↦ rw f (counting_other words c n parts within p f i)
])
