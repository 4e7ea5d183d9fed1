-- Words that are moved are those of records that are moved, and entries of levels that are renumbered those of their indexes.
use Rattle.std.proofs.Common.{◌≡◌, ℕ, zero, suc, ◌+◌, ◌-◌, ◌*◌, ◌<◌, ◌≤◌, ◌^◌, Bool, true, false, cond, inl, inr, List, [], ◌∷◌, map, length}
use Rattle.std.proofs.Common.{refl, sym, ap, ap₂, ◌∙◌, arith, nat_lt, ◌&&◌, ◌==◌}
use Rattle.std.specs.Prelude.{nat_le, ℤ, pos, negsuc}
use Rattle.std.specs.List.{AllByRecursion as Each}
use Rattle.std.proofs.lemmas.Bool.{and_parts, ltb-true, ltb-false, leb-true, leb-false}
use Rattle.xml_model.specs.Records.{Record, word}
use Rattle.xml_model.specs.Levels.{level_word, record_level, tags_from, child_position, is_tag, if_tag_of}
use Rattle.xml_model.proofs.Each.{each_append}
use Rattle.xml_nests.specs.Moved.{moved}
use Rattle.xml_patches.specs.Renumbered.{renumbered, renumbered_entry}
use Rattle.xml_patches.proofs.Renumber.{Kept}
use Rattle.vtd_words.specs.Packed.{fits, length_fits}
use Rattle.vtd_words.specs.Table.{parts_of_record}
use Rattle.vtd_words.specs.Exchanged.{moved_by, CanMove, CanShift, renumbered as renumbered_by, renumbered_pair, CanRenumber, CanRenumberPair, with_offset}
use Rattle.vtd_words.proofs.MovedWords.{moved_word, can_shift, renumbered_entry as entry_word, can_renumber_entry}
use Rattle.vtd_location.proofs.ChildrenOf.{position_small}
use Rattle.vtd_builder.specs.Exchanges.{growth}

-- ---- one number

less_moved : (new n x : ℕ) (b : Bool) → nat_lt new (suc n) ≡ b → suc n ≤ x →
    moved_by (cond b (negsuc (suc n - suc new)) (pos (new - suc n))) x ≡ x - suc n + new
less_moved new n x true t h = let l : new < suc n = ltb-true new (suc n) t in omega (arith, l, h)
less_moved new n x false f h = let l : suc n ≤ new = ltb-false new (suc n) f in omega (arith, l, h)

-- a number at least as large as what there was, moved by the growth
pub growth_moved : (new old x : ℕ) → old ≤ x → moved_by (growth new old) x ≡ x - old + new
growth_moved new zero x h = omega arith
growth_moved new (suc n) x h = less_moved new n x (nat_lt new (suc n)) refl h

less_can : (new n limit x : ℕ) (b : Bool) → nat_lt new (suc n) ≡ b → suc n ≤ x → x - suc n + new < limit →
    CanMove (cond b (negsuc (suc n - suc new)) (pos (new - suc n))) limit x
less_can new n limit x true t h k = let l : new < suc n = ltb-true new (suc n) t in omega (arith, l, h, k)
less_can new n limit x false f h k = let l : suc n ≤ new = ltb-false new (suc n) f in omega (arith, l, h, k)

pub growth_can : (new old limit x : ℕ) → old ≤ x → x - old + new < limit → CanMove (growth new old) limit x
growth_can new zero limit x h k = omega (arith, k)
growth_can new (suc n) limit x h k = less_can new n limit x (nat_lt new (suc n)) refl h k

-- ---- records

-- a record that fits its word has a low offset
pub low_offset : (r : Record) → fits (parts_of_record r) ≡ true → r.offset < 2 ^ 30
low_offset r h =
    let q = and_parts (nat_lt r.token (2 ^ 4) && nat_lt r.depth (2 ^ 8) && nat_lt r.offset (2 ^ 30)) (length_fits (parts_of_record r)) h in
    ltb-true r.offset (2 ^ 30) (and_parts (nat_lt r.token (2 ^ 4) && nat_lt r.depth (2 ^ 8)) (nat_lt r.offset (2 ^ 30)) q.0).1

can_move : (start stop n : ℕ) (r : Record) → start ≤ stop → stop ≤ r.offset → r.offset - stop + (start + n) < 2 ^ 30 →
    CanMove (growth n (stop - start)) (2 ^ 30) r.offset
can_move start stop n r o h k =
    growth_can n (stop - start) (2 ^ 30) r.offset (omega (arith, o, h)) (omega (arith, o, h, k))

record_moved : (start stop n : ℕ) (r : Record) → start ≤ stop → stop ≤ r.offset → r.offset - stop + (start + n) < 2 ^ 30 →
    moved_by (growth n (stop - start)) (word r) ≡ word (moved stop (start + n) r)
record_moved start stop n r o h k =
    let by : ℤ = growth n (stop - start) in
    let same : moved_by by r.offset ≡ r.offset - stop + (start + n) =
    growth_moved n (stop - start) r.offset (omega (arith, o, h)) ∙ omega (arith, o, h) in
    moved_word by r (can_move start stop n r o h k) ∙ ap (λ (m : ℕ). word (with_offset m r)) same

abbrev pub Low : List Record → Type 0
Low rs = Each (λ r. r.offset < 2 ^ 30) rs

pub words_moved : (start stop n : ℕ) (rs : List Record) → start ≤ stop → Each (λ r. stop ≤ r.offset) rs →
    Low (map (moved stop (start + n)) rs) →
    map (moved_by (growth n (stop - start))) (map word rs) ≡ map word (map (moved stop (start + n)) rs)
words_moved start stop n [] o h k = refl
words_moved start stop n (r ∷ rs) o h k =
    ap₂ (λ (w : ℕ) (ws : List ℕ). w ∷ ws) (record_moved start stop n r o h.0 k.0) (words_moved start stop n rs o h.1 k.1)

pub words_can_shift : (start stop n : ℕ) (rs : List Record) → start ≤ stop → Each (λ r. stop ≤ r.offset) rs → Low rs →
    Low (map (moved stop (start + n)) rs) → Each (CanShift (growth n (stop - start))) (map word rs)
words_can_shift start stop n [] o h l k = tt
words_can_shift start stop n (r ∷ rs) o h l k =
    (can_shift (growth n (stop - start)) r l.0 (can_move start stop n r o h.0 k.0), words_can_shift start stop n rs o h.1 l.1 k.1)

-- ---- levels

index_by : (first x y n : ℕ) (b c : Bool) → nat_le (first + x) n ≡ b → nat_lt n first ≡ c → Kept first x n →
    cond b (moved_by (growth y x) n) n ≡ cond c n (n - x + y)
index_by first x y n true true p q k =
    let l : first + x ≤ n = leb-true (first + x) n p in
    let m : n < first = ltb-true n first q in
    absurd (omega (arith, l, m))
index_by first x y n true false p q k = let l : first + x ≤ n = leb-true (first + x) n p in growth_moved y x n (omega (arith, l))
index_by first x y n false true p q k = refl
index_by first x y n false false p q (inl l) = let m : first ≤ n = ltb-false n first q in absurd (omega (arith, l, m))
index_by first x y n false false p q (inr l) = let m : n < first + x = leb-false (first + x) n p in absurd (omega (arith, l, m))

-- an index that stays, or is renumbered
index_same : (first x y n : ℕ) → Kept first x n → renumbered first x y n ≡ renumbered_by (first + x) (growth y x) n
index_same first x y n k = sym (index_by first x y n (nat_le (first + x) n) (nat_lt n first) refl refl k)

entry_same : (first x y : ℕ) (e : ℕ × ℕ) → Kept first x e.0 → e.1 < 2 ^ 32 →
    level_word (renumbered_entry first x y e) ≡ renumbered_pair (first + x) (growth y x) (level_word e)
unfolding level_word
entry_same first x y e k l =
    ap (λ (i : ℕ). i * 2 ^ 32 + e.1) (index_same first x y e.0 k) ∙ sym (entry_word (first + x) (growth y x) e.0 e.1 l)

entries_same : (first x y : ℕ) (f : ℕ → ℕ) (ns : List ℕ) → ((n : ℕ) → f n < 2 ^ 32) → Each (Kept first x) ns →
    map level_word (map (renumbered_entry first x y) (map {B = ℕ × ℕ} (λ n. (n, f n)) ns))
    ≡ map (renumbered_pair (first + x) (growth y x)) (map level_word (map {B = ℕ × ℕ} (λ n. (n, f n)) ns))
entries_same first x y f [] s k = refl
entries_same first x y f (n ∷ ns) s k =
    ap₂ (λ (w : ℕ) (ws : List ℕ). w ∷ ws) (entry_same first x y (n, f n) k.0 (s n)) (entries_same first x y f ns s k.1)

-- a level with its entries renumbered
pub level_same : (k first x y : ℕ) (rs : List Record) → length rs < 2 ^ 32 → Each (Kept first x) (tags_from k 0 rs) →
    map level_word (map (renumbered_entry first x y) (record_level k rs))
    ≡ map (renumbered_pair (first + x) (growth y x)) (map level_word (record_level k rs))
unfolding record_level
level_same k first x y rs few h = entries_same first x y (child_position k rs) (tags_from k 0 rs) (λ n. position_small k rs n few) h

pub last_same : (first x y : ℕ) (ns : List ℕ) → Each (Kept first x) ns →
    map (renumbered first x y) ns ≡ map (renumbered_by (first + x) (growth y x)) ns
last_same first x y [] h = refl
last_same first x y (n ∷ ns) h = ap₂ (λ (w : ℕ) (ws : List ℕ). w ∷ ws) (index_same first x y n h.0) (last_same first x y ns h.1)

-- ---- indexes that can be renumbered

can_index : (first x y n : ℕ) → n - x + y < 2 ^ 32 → CanRenumber (first + x) (growth y x) n
can_index first x y n h = λ l. growth_can y x (2 ^ 32) n (omega (arith, l)) h

can_entries : (first x y : ℕ) (f : ℕ → ℕ) (ns : List ℕ) → ((n : ℕ) → f n < 2 ^ 32) → Each (λ n. n - x + y < 2 ^ 32) ns →
    Each (CanRenumberPair (first + x) (growth y x)) (map level_word (map {B = ℕ × ℕ} (λ n. (n, f n)) ns))
unfolding level_word
can_entries first x y f [] s k = tt
can_entries first x y f (n ∷ ns) s k = (
  can_renumber_entry (first + x) (growth y x) n (f n) (s n) (can_index first x y n k.0),
  can_entries first x y f ns s k.1,
)

pub can_level : (k first x y : ℕ) (rs : List Record) → length rs < 2 ^ 32 → Each (λ n. n - x + y < 2 ^ 32) (tags_from k 0 rs) →
    Each (CanRenumberPair (first + x) (growth y x)) (map level_word (record_level k rs))
unfolding record_level
can_level k first x y rs few h = can_entries first x y (child_position k rs) (tags_from k 0 rs) (λ n. position_small k rs n few) h

pub can_last : (first x y : ℕ) (ns : List ℕ) → Each (λ n. n - x + y < 2 ^ 32) ns → Each (CanRenumber (first + x) (growth y x)) ns
can_last first x y [] h = tt
can_last first x y (n ∷ ns) h = (can_index first x y n h.0, can_last first x y ns h.1)

tag_in : (P : ℕ → Type 0) (b : Bool) (n : ℕ) → P n → Each P (cond b (n ∷ []) [])
tag_in P true n h = (h, tt)
tag_in P false n h = tt

-- the indexes of starting tags are those of records
pub tags_within : (k n high x y : ℕ) (rs : List Record) → n + length rs ≤ high → high - x + y < 2 ^ 32 → x ≤ high →
    Each (λ m. m - x + y < 2 ^ 32) (tags_from k n rs)
tags_within k n high x y [] l h o = tt
tags_within k n high x y (r ∷ rs) l h o =
    each_append (λ m. m - x + y < 2 ^ 32) (if_tag_of k n r) (tags_from k (suc n) rs)
    (tag_in (λ m. m - x + y < 2 ^ 32) (is_tag r && r.depth == k) n (omega (arith, l, h, o)))
    (tags_within k (suc n) high x y rs (omega (arith, l)) h o)
