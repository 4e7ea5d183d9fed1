-- Levels that are filled, one starting tag after another.
use Rattle.std.proofs.Common.{inl, inr, ◌≡◌, ℕ, suc, ◌+◌, ◌-◌, ◌<◌, ◌≤◌, ◌^◌, Bool, true, false, cond, ◌&&◌, ◌==◌, List, [], ◌∷◌, ◌++◌, length, drop, Option, Some, None, refl, ap, ap₂, sym, subst, ◌∙◌, arith, append_assoc, append-nil}
use Rattle.std.proofs.lemmas.Bool.Decides.{nat_tests}
use Rattle.std.proofs.lemmas.Bool.{cases_Bool, eqb-true}
use Rattle.std.proofs.lemmas.List.{length-append, drop_all}
use Rattle.xml_model.specs.Records.{Record}
use Rattle.xml_model.specs.Scan.{record_at}
use Rattle.xml_model.specs.Levels.{is_tag, level_word, no_child, tags_from, levels}
use Rattle.xml_model.specs.LevelScan.{child_of, count_in, level_from}
use Rattle.xml_model.proofs.LevelScan.{by_scan}
use Rattle.xml_model.proofs.ScanSteps.{from_index}
use Rattle.xml_model.proofs.TagCounts.{count_within}
use Rattle.vtd_words.specs.Lists.{Lists, Growing}
use Rattle.vtd_words.specs.Packed.{record_of}
use Rattle.vtd_words.specs.Table.{Shows, ArePartsAt}
use Rattle.vtd_words.specs.declared.packing.Parts.{Parts}
use Rattle.vtd_words.proofs.Shown.{shown_length}
use Rattle.vtd_words.proofs.Same.{shown_same}
use Rattle.vtd_location.specs.declared.filling.Waiting.{Waiting}
use Rattle.vtd_location.specs.Scanning.{entry_word, with_entry, left_of}
use Rattle.vtd_location.specs.Filling.{HasRoomFor, HasLevelRoom, CanFill, settle_level, settle_last, settled, here, one_waits, waits_in, Waits, CanTake, CanSettle, Fills, FillsLast, Filled, FilledTo}
use Rattle.vtd_location.specs.Nav.{HasLevels, levels_in}
use Rattle.vtd_location.proofs.Passing.{left_tag, left_other}

with_append : (o : Option ℕ) (child : ℕ) (ws : List ℕ) → with_entry o child [] ++ ws ≡ with_entry o child ws
with_append None child ws = refl
with_append (Some tag) child ws = refl

-- the tag that waits, where it is of a level, is not of the next
no_other : (k d : ℕ) → (d == k) ≡ true → (d == suc k) ≡ false
no_other k d t = let e : d ≡ k = eqb-true d k t in grind (arith, nat_tests)

-- what settling appends to a level
settles : (k : ℕ) (w : Option Waiting) (depth : ℕ) (mine : List ℕ) (deeper : ℕ) →
    settle_level k w depth mine deeper ≡ mine ++ with_entry (here k w) (cond (depth == suc k) (deeper + one_waits (suc k) w) no_child) []
settles k None depth mine deeper = sym (append-nil mine)
settles k (Some w) depth mine deeper = elim (cases_Bool (w.level == k)) [
  | inl t ↦
      let o = no_other k w.level t in
      let n : deeper + 0 ≡ deeper = omega arith in
      rw (t, o, n) refl
  | inr f ↦ rw f (sym (append-nil mine))
]

-- how many words a level has after settling
counts_settled : (k : ℕ) (w : Option Waiting) (depth : ℕ) (mine : List ℕ) (deeper : ℕ) → length (settle_level k w depth mine deeper) ≡ length mine + one_waits k w
counts_settled k None depth mine deeper = omega arith
counts_settled k (Some w) depth mine deeper = elim (cases_Bool (w.level == k)) [
  | inl t ↦ rw t (length-append mine (entry_word w.at (cond (depth == suc k) deeper no_child) ∷ []))
  | inr f ↦ rw f (omega arith)
]

counts_last : (k : ℕ) (w : Option Waiting) (mine : List ℕ) → length (settle_last k w mine) ≡ length mine + one_waits k w
counts_last k None mine = omega arith
counts_last k (Some w) mine = elim (cases_Bool (w.level == k)) [
  | inl t ↦ rw t (length-append mine (w.at ∷ []))
  | inr f ↦ rw f (omega arith)
]

-- a level over a starting tag
fills_tag : (k : ℕ) (rs : List Record) (w v : Option Waiting) (n next : ℕ) (r : Record) (mine : List ℕ) (deeper after : ℕ) → next ≡ suc n → drop n rs ≡ r ∷ drop next rs → is_tag r ≡ true →
    here k v ≡ cond (r.depth == k) (Some n) None → after ≡ deeper + one_waits (suc k) w → one_waits (suc k) v ≡ cond (r.depth == suc k) 1 0 →
    Fills k rs w n mine deeper → Fills k rs v next (settle_level k w r.depth mine deeper) after
fills_tag k rs w v n next r mine deeper after e split t h a o f =
    let c = deeper + one_waits (suc k) w in
    let child = cond (r.depth == suc k) c no_child in
    let rest = drop next rs in
    let count : after + one_waits (suc k) v ≡ cond (r.depth == suc k) (suc c) c = ap₂ (λ (x y : ℕ). x + y) a o ∙ one_more (r.depth == suc k) c in
    ap₂ (λ (xs ys : List ℕ). xs ++ ys) (settles k w r.depth mine deeper) (ap₂ (λ (x : Option ℕ) (m : ℕ). left_of x k m next rest) h count)
    ∙ append_assoc mine (with_entry (here k w) child []) (left_of (cond (r.depth == k) (Some n) None) k (cond (r.depth == suc k) (suc c) c) next rest)
    ∙ ap (λ (xs : List ℕ). mine ++ xs) (with_append (here k w) child (left_of (cond (r.depth == k) (Some n) None) k (cond (r.depth == suc k) (suc c) c) next rest) ∙ left_tag (here k w) k c n next r rest e t)
    ∙ ap (λ (xs : List Record). mine ++ left_of (here k w) k c n xs) (sym split) ∙ f
  where
    one_more : (b : Bool) (c : ℕ) → c + cond b 1 0 ≡ cond b (suc c) c
    one_more true c = omega arith
    one_more false c = omega arith

-- a level over another record
fills_other : (k : ℕ) (rs : List Record) (w : Option Waiting) (n next : ℕ) (r : Record) (mine : List ℕ) (deeper : ℕ) → next ≡ suc n → drop n rs ≡ r ∷ drop next rs → is_tag r ≡ false →
    Fills k rs w n mine deeper → Fills k rs w next mine deeper
fills_other k rs w n next r mine deeper e split t f =
    ap (λ (xs : List ℕ). mine ++ xs) (left_other (here k w) k (deeper + one_waits (suc k) w) n next r (drop next rs) e t)
    ∙ ap (λ (xs : List Record). mine ++ left_of (here k w) k (deeper + one_waits (suc k) w) n xs) (sym split) ∙ f

-- the last level over a starting tag
last_tag : (k : ℕ) (rs : List Record) (w v : Option Waiting) (n next : ℕ) (r : Record) (mine : List ℕ) → next ≡ suc n → drop n rs ≡ r ∷ drop next rs → is_tag r ≡ true → here k v ≡ cond (r.depth == k) (Some n) None →
    FillsLast k rs w n mine → FillsLast k rs v next (settle_last k w mine)
last_tag k rs w v n next r mine e split t h f =
    let before = settle_last k w mine in
    ap (λ (xs : List ℕ). xs ++ tags_from k next (drop next rs)) (again v before h)
    ∙ append_assoc before (cond (r.depth == k) (n ∷ []) []) (tags_from k next (drop next rs))
    ∙ ap₂ (λ (b : Bool) (m : ℕ). before ++ (cond (b && r.depth == k) (n ∷ []) [] ++ tags_from k m (drop next rs))) (sym t) e
    ∙ ap (λ (xs : List Record). before ++ tags_from k n xs) (sym split) ∙ f
  where
    again : (v : Option Waiting) (xs : List ℕ) → here k v ≡ cond (r.depth == k) (Some n) None → settle_last k v xs ≡ xs ++ cond (r.depth == k) (n ∷ []) []
    again v xs h = by (r.depth == k) v h
      where
        by : (b : Bool) (v : Option Waiting) → here k v ≡ cond b (Some n) None → settle_last k v xs ≡ xs ++ cond b (n ∷ []) []
        by true None h = absurd cc
        by false None h = sym (append-nil xs)
        by true (Some v) h = elim (cases_Bool (v.level == k)) [
          | inl t ↦ let s : Some v.at ≡ Some n = rw t at h in let at : v.at ≡ n = cc in rw (t, at) refl
          | inr f ↦ let s : ◌≡◌ {A = Option ℕ} None (Some n) = rw f at h in absurd cc
        ]
        by false (Some v) h = elim (cases_Bool (v.level == k)) [
          | inl t ↦ let s : ◌≡◌ {A = Option ℕ} (Some v.at) None = rw t at h in absurd cc
          | inr f ↦ rw f (sym (append-nil xs))
        ]

last_other : (k : ℕ) (rs : List Record) (w : Option Waiting) (n next : ℕ) (r : Record) (mine : List ℕ) → next ≡ suc n → drop n rs ≡ r ∷ drop next rs → is_tag r ≡ false → FillsLast k rs w n mine → FillsLast k rs w next mine
last_other k rs w n next r mine e split t f =
    ap₂ (λ (b : Bool) (m : ℕ). settle_last k w mine ++ (cond (b && r.depth == k) (n ∷ []) [] ++ tags_from k m (drop next rs))) (sym t) e
    ∙ ap (λ (xs : List Record). settle_last k w mine ++ tags_from k n xs) (sym split) ∙ f

-- how many words a level has at last
length_level : (k c n : ℕ) (rs : List Record) → length (level_from k c n rs) ≡ length (tags_from k n rs)
length_level k c n [] = refl
length_level k c n (r ∷ rs) = by (is_tag r && r.depth == k) (length_level k (count_in (suc k) r c) (suc n) rs)
  where
    by : (b : Bool) → length (level_from k (count_in (suc k) r c) (suc n) rs) ≡ length (tags_from k (suc n) rs) →
        length (cond b (level_word (n, child_of k c rs) ∷ level_from k (count_in (suc k) r c) (suc n) rs) (level_from k (count_in (suc k) r c) (suc n) rs)) ≡ length (cond b (n ∷ []) [] ++ tags_from k (suc n) rs)
    by true h = ap suc h
    by false h = h

waits_left : (k c n : ℕ) (w : Option Waiting) (rs : List Record) → one_waits k w ≤ length (left_of (here k w) k c n rs)
waits_left k c n None rs = omega arith
waits_left k c n (Some w) rs = elim (cases_Bool (w.level == k)) [
  | inl t ↦ rw t (omega arith)
  | inr f ↦ rw f (omega arith)
]

can_take : (k : ℕ) (rs : List Record) (w : Option Waiting) (n : ℕ) (mine : List ℕ) (deeper spare : ℕ) → length rs < 2 ^ 32 - 1 → Fills k rs w n mine deeper → HasRoomFor k rs mine spare → CanTake k w mine spare
can_take k rs w n mine deeper spare few f room =
    let whole = ap (λ (xs : List ℕ). length xs) f in
    let parts = length-append mine (left_of (here k w) k (deeper + one_waits (suc k) w) n (drop n rs)) in
    let more = waits_left k (deeper + one_waits (suc k) w) n w (drop n rs) in
    let tags = length_level k 0 0 rs in
    let within = count_within k 0 rs in
    record { room = omega (arith, whole, parts, more, tags, room); few = omega (arith, whole, parts, tags, within, few) }

can_last : (k : ℕ) (rs : List Record) (w : Option Waiting) (n : ℕ) (mine : List ℕ) (spare : ℕ) → length rs < 2 ^ 32 - 1 → FillsLast k rs w n mine → HasRoomFor k rs mine spare → CanTake k w mine spare
can_last k rs w n mine spare few f room =
    let whole = ap (λ (xs : List ℕ). length xs) f in
    let parts = length-append (settle_last k w mine) (tags_from k n (drop n rs)) in
    let more = counts_last k w mine in
    let within = count_within k 0 rs in
    record { room = omega (arith, whole, parts, more, room); few = omega (arith, whole, parts, more, within, few) }

waits_more : (n m : ℕ) (w : Option Waiting) → n ≤ m → waits_in n w → waits_in m w
waits_more n m None h k = tt
waits_more n m (Some w) h k = (k.0, k.1, omega (arith, k.2, h))

pub can_settle : (rs : List Record) (words : List ℕ) (g : Growing) (w : Option Waiting) (n : ℕ) → n ≤ 2 ^ 32 → length rs < 2 ^ 32 - 1 → Filled rs words g w n → CanSettle w g
can_settle rs words g w n l few f = record {
  kept = waits_more n (2 ^ 32) w l f.waits;
  one = can_take 1 rs w n g.lists.level1 (length g.lists.level2) g.room.level1 few f.one f.room.level1;
  two = can_take 2 rs w n g.lists.level2 (length g.lists.level3) g.room.level2 few f.two f.room.level2;
  three = can_take 3 rs w n g.lists.level3 (length g.lists.level4) g.room.level3 few f.three f.room.level3;
  four = can_take 4 rs w n g.lists.level4 (length g.lists.level5) g.room.level4 few f.four f.room.level4;
  five = can_last 5 rs w n g.lists.level5 g.room.level5 few f.five f.room.level5;
}

-- all levels over a starting tag
pub filled_tag : (rs : List Record) (words : List ℕ) (g h : Growing) (w v : Option Waiting) (n next depth : ℕ) → next ≡ n + 1 → n < length rs → is_tag (record_at n rs) ≡ true → depth ≡ (record_at n rs).depth → Waits n depth v →
    h.lists ≡ settled w depth g.lists → HasLevelRoom rs h → Filled rs words g w n → Filled rs words h v next
filled_tag rs words g h w v n next depth e within t d u s room f =
    let r = record_at n rs in
    let n1 : next ≡ suc n = omega arith in
    let split : drop n rs ≡ r ∷ drop next rs = from_index rs n within ∙ ap (λ (m : ℕ). r ∷ drop m rs) (sym e) in
    let at : (k : ℕ) → 1 ≤ k → k ≤ 5 → here k v ≡ cond (r.depth == k) (Some n) None = λ k a b. u.tag k a b ∙ ap (λ (m : ℕ). cond (m == k) (Some n) None) d in
    let one : (k : ℕ) → 1 ≤ k → k ≤ 5 → one_waits k v ≡ cond (r.depth == k) 1 0 = λ k a b. u.one k a b ∙ ap (λ (m : ℕ). cond (m == k) 1 0) d in
    let lists : h.lists ≡ settled w r.depth g.lists = s ∙ ap (λ (m : ℕ). settled w m g.lists) d in
    let l2 = counts_settled 2 w r.depth g.lists.level2 (length g.lists.level3) in
    let l3 = counts_settled 3 w r.depth g.lists.level3 (length g.lists.level4) in
    let l4 = counts_settled 4 w r.depth g.lists.level4 (length g.lists.level5) in
    let l5 = counts_last 5 w g.lists.level5 in
    record {
      records = ap (λ (x : Lists). x.records) lists ∙ f.records;
      waits = waits_more (suc n) next v (omega arith) u.kept;
      one = subst (λ (x : Lists). Fills 1 rs v next x.level1 (length x.level2)) (sym lists)
          (fills_tag 1 rs w v n next r g.lists.level1 (length g.lists.level2) _ n1 split t (at 1 (omega arith) (omega arith)) l2 (one 2 (omega arith) (omega arith)) f.one);
      two = subst (λ (x : Lists). Fills 2 rs v next x.level2 (length x.level3)) (sym lists)
          (fills_tag 2 rs w v n next r g.lists.level2 (length g.lists.level3) _ n1 split t (at 2 (omega arith) (omega arith)) l3 (one 3 (omega arith) (omega arith)) f.two);
      three = subst (λ (x : Lists). Fills 3 rs v next x.level3 (length x.level4)) (sym lists)
          (fills_tag 3 rs w v n next r g.lists.level3 (length g.lists.level4) _ n1 split t (at 3 (omega arith) (omega arith)) l4 (one 4 (omega arith) (omega arith)) f.three);
      four = subst (λ (x : Lists). Fills 4 rs v next x.level4 (length x.level5)) (sym lists)
          (fills_tag 4 rs w v n next r g.lists.level4 (length g.lists.level5) _ n1 split t (at 4 (omega arith) (omega arith)) l5 (one 5 (omega arith) (omega arith)) f.four);
      five = subst (λ (x : Lists). FillsLast 5 rs v next x.level5) (sym lists) (last_tag 5 rs w v n next r g.lists.level5 n1 split t (at 5 (omega arith) (omega arith)) f.five);
      room = room;
    }

-- all levels over another record
pub filled_other : (rs : List Record) (words : List ℕ) (g : Growing) (w : Option Waiting) (n next : ℕ) → next ≡ n + 1 → n < length rs → is_tag (record_at n rs) ≡ false → Filled rs words g w n → Filled rs words g w next
filled_other rs words g w n next e within t f =
    let r = record_at n rs in
    let n1 : next ≡ suc n = omega arith in
    let split : drop n rs ≡ r ∷ drop next rs = from_index rs n within ∙ ap (λ (m : ℕ). r ∷ drop m rs) (sym e) in
    record {
      records = f.records;
      waits = waits_more n next w (omega arith) f.waits;
      one = fills_other 1 rs w n next r g.lists.level1 (length g.lists.level2) n1 split t f.one;
      two = fills_other 2 rs w n next r g.lists.level2 (length g.lists.level3) n1 split t f.two;
      three = fills_other 3 rs w n next r g.lists.level3 (length g.lists.level4) n1 split t f.three;
      four = fills_other 4 rs w n next r g.lists.level4 (length g.lists.level5) n1 split t f.four;
      five = last_other 5 rs w n next r g.lists.level5 n1 split t f.five;
      room = f.room;
    }

-- before the first record
pub filled_first : (g : Growing) (f : CanFill g) → Filled f.tokens g.lists.records g None 0
filled_first g f = record {
  records = refl;
  waits = tt;
  one = rw (f.level1, f.level2) refl;
  two = rw (f.level2, f.level3) refl;
  three = rw (f.level3, f.level4) refl;
  four = rw (f.level4, f.level5) refl;
  five = rw f.level5 refl;
  room = f.room;
}

-- after the last record
none_deeper : (k c : ℕ) → cond (0 == suc k) c no_child ≡ no_child
none_deeper k c = let f : (0 == suc k) ≡ false = grind (arith, nat_tests) in rw f refl

end_level : (k : ℕ) (rs : List Record) (w : Option Waiting) (n : ℕ) (mine : List ℕ) (deeper : ℕ) → length rs ≤ n → Fills k rs w n mine deeper → settle_level k w 0 mine deeper ≡ level_from k 0 0 rs
end_level k rs w n mine deeper past f =
    let none : drop n rs ≡ [] = drop_all n rs past in
    settles k w 0 mine deeper ∙ ap (λ (c : ℕ). mine ++ with_entry (here k w) c []) (none_deeper k (deeper + one_waits (suc k) w)) ∙ ap (λ (xs : List Record). mine ++ left_of (here k w) k (deeper + one_waits (suc k) w) n xs) (sym none) ∙ f

pub filled_end : (rs : List Record) (words : List ℕ) (g h : Growing) (w : Option Waiting) (n : ℕ) → length rs ≤ n → h.lists ≡ settled w 0 g.lists → Filled rs words g w n → HasLevels h.lists rs
unfolding levels
filled_end rs words g h w n past s f =
    let none : drop n rs ≡ [] = drop_all n rs past in
    let one = end_level 1 rs w n g.lists.level1 (length g.lists.level2) past f.one ∙ sym (by_scan 1 rs) in
    let two = end_level 2 rs w n g.lists.level2 (length g.lists.level3) past f.two ∙ sym (by_scan 2 rs) in
    let three = end_level 3 rs w n g.lists.level3 (length g.lists.level4) past f.three ∙ sym (by_scan 3 rs) in
    let four = end_level 4 rs w n g.lists.level4 (length g.lists.level5) past f.four ∙ sym (by_scan 4 rs) in
    let five : settle_last 5 w g.lists.level5 ≡ tags_from 5 0 rs = sym (append-nil (settle_last 5 w g.lists.level5)) ∙ ap (λ (xs : List Record). settle_last 5 w g.lists.level5 ++ tags_from 5 n xs) (sym none) ∙ f.five in
    ap levels_in s ∙ rw (one, two, three, four, five) refl

-- the words that were to be filled

pub filled_to_first : (g : Growing) → CanFill g → FilledTo g.lists.records g None 0
filled_to_first g f = record { tokens = f.tokens; shown = f.shown; few = f.few; filled = filled_first g f }

pub settles_now : (words : List ℕ) (g : Growing) (w : Option Waiting) (n : ℕ) → n ≤ 2 ^ 32 → FilledTo words g w n → CanSettle w g
settles_now words g w n l f = can_settle f.tokens words g w n l (omega (arith, f.few, shown_length words f.tokens f.shown)) f.filled

pub filled_to_tag : (words : List ℕ) (g h : Growing) (w v : Option Waiting) (n : ℕ) (parts : Parts) → n < length words → ArePartsAt words n parts → parts.token ≡ 0 → Waits n parts.depth v →
    h.lists ≡ settled w parts.depth g.lists → ((rs : List Record) → HasLevelRoom rs g → HasLevelRoom rs h) → FilledTo words g w n → FilledTo words h v (n + 1)
filled_to_tag words g h w v n parts within p t u s room f =
    let same : record_of parts ≡ record_at n f.tokens = p f.tokens f.shown in
    let tag : is_tag (record_at n f.tokens) ≡ true = ap is_tag (sym same) ∙ ap (λ (m : ℕ). m == 0) t in
    record {
      tokens = f.tokens;
      shown = f.shown;
      few = f.few;
      filled = filled_tag f.tokens words g h w v n (n + 1) parts.depth refl (omega (arith, within, shown_length words f.tokens f.shown)) tag (ap (λ (x : Record). x.depth) same) u s (room f.tokens f.filled.room) f.filled;
    }

pub filled_to_other : (words : List ℕ) (g : Growing) (w : Option Waiting) (n : ℕ) (parts : Parts) → n < length words → ArePartsAt words n parts → (parts.token == 0) ≡ false → FilledTo words g w n → FilledTo words g w (n + 1)
filled_to_other words g w n parts within p t f =
    let same : record_of parts ≡ record_at n f.tokens = p f.tokens f.shown in
    let other : is_tag (record_at n f.tokens) ≡ false = ap is_tag (sym same) ∙ t in
    record {
      tokens = f.tokens;
      shown = f.shown;
      few = f.few;
      filled = filled_other f.tokens words g w n (n + 1) refl (omega (arith, within, shown_length words f.tokens f.shown)) other f.filled;
    }

pub filled_to_end : (words : List ℕ) (g h : Growing) (w : Option Waiting) (n : ℕ) → length words ≤ n → h.lists ≡ settled w 0 g.lists → FilledTo words g w n → (rs : List Record) → Shows words rs → HasLevels h.lists rs
filled_to_end words g h w n past s f rs shows =
    subst (λ (l : List Record). HasLevels h.lists l) (shown_same words f.tokens rs f.shown shows)
    (filled_end f.tokens words g h w n (omega (arith, past, shown_length words f.tokens f.shown)) s f.filled)
