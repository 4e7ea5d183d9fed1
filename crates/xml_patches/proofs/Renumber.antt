-- The levels by the records, where records that are no tags are exchanged for others: the same entries, renumbered.
use Rattle.std.proofs.Common.{◌≡◌, ℕ, zero, suc, ◌+◌, ◌-◌, ◌<◌, ◌≤◌, Bool, true, false, cond, ◌⊎◌, inl, inr, List, [], ◌∷◌, ◌++◌, map, length, drop, Option}
use Rattle.std.proofs.Common.{Some, None, IfSome, refl, sym, ap, ap₂, subst, ◌∙◌, arith, not, ◌&&◌, length-append, nat_lt, lt-ltb, eq-eqb, ne_eqb}
use Rattle.std.proofs.Common.{append_assoc, length-drop}
use Rattle.std.specs.Prelude.{nat_le, ◌==◌, option_map, option_and_then, position}
use Rattle.std.specs.Option.{unwrap_or}
use Rattle.std.specs.List.{position_or_len, AllByRecursion as Each}
use Rattle.std.proofs.lemmas.Bool.{and_parts, false≢true, not-true, le-ltb, cases_eq}
use Rattle.std.proofs.lemmas.List.{map-append, drop-append-le, length-map}
use Rattle.xml_model.specs.Records.{Record}
use Rattle.xml_model.specs.Levels.{no_child, is_tag, if_tag_of, tags_from, child_from, child_position, record_level}
use Rattle.xml_model.proofs.Each.{each_append}
use Rattle.xml_nests.specs.Moved.{moved}
use Rattle.xml_patches.specs.Renumbered.{renumbered, renumbered_entry, is_tagless}

-- ---- tags

tags_append : (k n : ℕ) (xs ys : List Record) → tags_from k n (xs ++ ys) ≡ tags_from k n xs ++ tags_from k (n + length xs) ys
tags_append k n [] ys = ap (λ (m : ℕ). tags_from k m ys) (omega arith)
tags_append k n (x ∷ xs) ys =
    let e : suc n + length xs ≡ n + suc (length xs) = omega arith in
    ap (λ (l : List ℕ). if_tag_of k n x ++ l) (tags_append k (suc n) xs ys ∙ ap (λ (m : ℕ). tags_from k (suc n) xs ++ tags_from k m ys) e)
    ∙ sym (append_assoc (if_tag_of k n x) (tags_from k (suc n) xs) (tags_from k (n + suc (length xs)) ys))

no_tag_here : (b : Bool) (k n d : ℕ) → b ≡ false → cond (b && d == k) (n ∷ []) [] ≡ []
no_tag_here true k n d e = absurd (false≢true (sym e))
no_tag_here false k n d e = refl

tags_none : (k n : ℕ) (xs : List Record) → is_tagless xs ≡ true → tags_from k n xs ≡ []
tags_none k n [] h = refl
tags_none k n (x ∷ xs) h =
    let q = and_parts (not (is_tag x)) (is_tagless xs) h in
    ap₂ (λ (a b : List ℕ). a ++ b) (no_tag_here (is_tag x) k n x.depth (not-true (is_tag x) q.0)) (tags_none k (suc n) xs q.1)

tags_moved : (k n a b : ℕ) (xs : List Record) → tags_from k n (map (moved a b) xs) ≡ tags_from k n xs
tags_moved k n a b [] = refl
tags_moved k n a b (x ∷ xs) = ap (λ (l : List ℕ). if_tag_of k n x ++ l) (tags_moved k (suc n) a b xs)

above : (a x y n m : ℕ) → a + x ≤ n → m + x ≡ n + y → renumbered a x y n ≡ m
above a x y n m l e = rw (le-ltb n a (omega (arith, l))) (omega (arith, l, e))

below : (a x y n : ℕ) → n < a → renumbered a x y n ≡ n
below a x y n l = rw (lt-ltb n a l) refl

one_renumbered : (b : Bool) (f : ℕ → ℕ) (n m : ℕ) → f n ≡ m → cond b (m ∷ []) [] ≡ map f (cond b (n ∷ []) [])
one_renumbered true f n m e = ap (λ (z : ℕ). z ∷ []) (sym e)
one_renumbered false f n m e = refl

tags_above : (k a x y n m : ℕ) (zs : List Record) → a + x ≤ n → m + x ≡ n + y → tags_from k m zs ≡ map (renumbered a x y) (tags_from k n zs)
tags_above k a x y n m [] l e = refl
tags_above k a x y n m (z ∷ zs) l e =
    ap₂ (λ (p q : List ℕ). p ++ q) (one_renumbered (is_tag z && z.depth == k) (renumbered a x y) n m (above a x y n m l e))
    (tags_above k a x y (suc n) (suc m) zs (omega (arith, l)) (omega (arith, e)))
    ∙ sym (map-append (renumbered a x y) (if_tag_of k n z) (tags_from k (suc n) zs))

tags_below : (k a x y n : ℕ) (zs : List Record) → n + length zs ≤ a → tags_from k n zs ≡ map (renumbered a x y) (tags_from k n zs)
tags_below k a x y n [] l = refl
tags_below k a x y n (z ∷ zs) l =
    ap₂ (λ (p q : List ℕ). p ++ q) (one_renumbered (is_tag z && z.depth == k) (renumbered a x y) n n (below a x y n (omega (arith, l))))
    (tags_below k a x y (suc n) zs (omega (arith, l)))
    ∙ sym (map-append (renumbered a x y) (if_tag_of k n z) (tags_from k (suc n) zs))

-- the indexes of the tags of a depth
pub tags_renumbered : (k from to : ℕ) (before xs ys zs : List Record) → is_tagless xs ≡ true → is_tagless ys ≡ true →
    tags_from k 0 (before ++ (ys ++ map (moved from to) zs)) ≡ map (renumbered (length before) (length xs) (length ys))
    (tags_from k 0 (before ++ (xs ++ zs)))
tags_renumbered k from to before xs ys zs hx hy =
    let a = length before in
    let x = length xs in
    let y = length ys in
    let f = renumbered a x y in
    let left : tags_from k 0 (before ++ (ys ++ map (moved from to) zs)) ≡ tags_from k 0 before ++ tags_from k (0 + a + y) zs =
    tags_append k 0 before (ys ++ map (moved from to) zs)
    ∙ ap (λ (l : List ℕ). tags_from k 0 before ++ l) (tags_append k (0 + a) ys (map (moved from to) zs)
    ∙ ap₂ (λ (p q : List ℕ). p ++ q) (tags_none k (0 + a) ys hy) (tags_moved k (0 + a + y) from to zs)) in
    let right : tags_from k 0 (before ++ (xs ++ zs)) ≡ tags_from k 0 before ++ tags_from k (0 + a + x) zs =
    tags_append k 0 before (xs ++ zs)
    ∙ ap (λ (l : List ℕ). tags_from k 0 before ++ l) (tags_append k (0 + a) xs zs
    ∙ ap (λ (p : List ℕ). p ++ tags_from k (0 + a + x) zs) (tags_none k (0 + a) xs hx)) in
    left
    ∙ ap₂ (λ (p q : List ℕ). p ++ q) (tags_below k a x y 0 before (omega arith)) (tags_above k a x y (0 + a + x) (0 + a + y) zs (omega arith) (omega arith))
    ∙ sym (ap (map f) right ∙ map-append f (tags_from k 0 before) (tags_from k (0 + a + x) zs))

-- ---- first children

child_none : (k n : ℕ) (xs ys : List Record) → is_tagless xs ≡ true → child_from k n (xs ++ ys) ≡ child_from k (n + length xs) ys
child_none k n [] ys h = ap (λ (m : ℕ). child_from k m ys) (omega arith)
child_none k n (x ∷ xs) ys h =
    let q = and_parts (not (is_tag x)) (is_tagless xs) h in
    let e : suc n + length xs ≡ n + suc (length xs) = omega arith in
    skip (is_tag x) (cond (nat_le x.depth k) None (Some n)) (child_from k (suc n) (xs ++ ys)) (not-true (is_tag x) q.0) ∙ child_none k (suc n) xs ys q.1
    ∙ ap (λ (m : ℕ). child_from k m ys) e
  where
    skip : (b : Bool) (o r : Option ℕ) → b ≡ false → cond b o r ≡ r
    skip true o r e = absurd (false≢true (sym e))
    skip false o r e = refl

child_one : (b c : Bool) (f : ℕ → ℕ) (n m : ℕ) (o r : Option ℕ) → f n ≡ m → r ≡ option_map f o →
    cond b (cond c None (Some m)) r ≡ option_map f (cond b (cond c None (Some n)) o)
child_one true true f n m o r e h = refl
child_one true false f n m o r e h = ap (λ (z : ℕ). Some z) (sym e)
child_one false c f n m o r e h = h

child_above : (k a x y n m from to : ℕ) (zs : List Record) → a + x ≤ n → m + x ≡ n + y →
    child_from k m (map (moved from to) zs) ≡ option_map (renumbered a x y) (child_from k n zs)
child_above k a x y n m from to [] l e = refl
child_above k a x y n m from to (z ∷ zs) l e =
    child_one (is_tag z) (nat_le z.depth k) (renumbered a x y) n m (child_from k (suc n) zs) (child_from k (suc m) (map (moved from to) zs))
    (above a x y n m l e) (child_above k a x y (suc n) (suc m) from to zs (omega (arith, l)) (omega (arith, e)))

child_below : (k a from to n : ℕ) (before xs ys zs : List Record) → is_tagless xs ≡ true → is_tagless ys ≡ true → n + length before ≡ a →
    child_from k n (before ++ (ys ++ map (moved from to) zs)) ≡ option_map (renumbered a (length xs) (length ys)) (child_from k n (before ++ (xs ++ zs)))
child_below k a from to n [] xs ys zs hx hy e =
    child_none k n ys (map (moved from to) zs) hy
    ∙ child_above k a (length xs) (length ys) (n + length xs) (n + length ys) from to zs (omega (arith, e)) (omega arith)
    ∙ ap (option_map (renumbered a (length xs) (length ys))) (sym (child_none k n xs zs hx))
child_below k a from to n (z ∷ before) xs ys zs hx hy e =
    child_one (is_tag z) (nat_le z.depth k) (renumbered a (length xs) (length ys)) n n (child_from k (suc n) (before ++ (xs ++ zs)))
    (child_from k (suc n) (before ++ (ys ++ map (moved from to) zs))) (below a (length xs) (length ys) n (omega (arith, e)))
    (child_below k a from to (suc n) before xs ys zs hx hy (omega (arith, e)))

-- ---- indexes that stay apart

-- an index before or after exchanged records
abbrev pub Kept : ℕ → ℕ → ℕ → Type 0
Kept a x n = (n < a) ⊎ (a + x ≤ n)

same_test : (n m p q : ℕ) → (n ≡ m → p ≡ q) → (p ≡ q → n ≡ m) → (p == q) ≡ (n == m)
same_test n m p q f g = elim (cases_eq n m) [
  | inl e ↦ eq-eqb p q (f e) ∙ sym (eq-eqb n m e)
  | inr d ↦ ne_eqb p q (λ e. d (g e)) ∙ sym (ne_eqb n m d)
]

high : (a x y n : ℕ) → a + x ≤ n → renumbered a x y n + x ≡ n + y
high a x y n l = let h = above a x y n (n - x + y) l (omega (arith, l)) in omega (arith, h, l)

apart : (a x y n m : ℕ) → Kept a x n → Kept a x m → (renumbered a x y n == renumbered a x y m) ≡ (n == m)
apart a x y n m (inl p) (inl q) = let u = below a x y n p in let v =
    below a x y m q in same_test n m (renumbered a x y n) (renumbered a x y m) (λ e. ap (renumbered a x y) e) (λ e. omega (arith, u, v, e))
apart a x y n m (inl p) (inr q) = let u = below a x y n p in let v =
    high a x y m q in same_test n m (renumbered a x y n) (renumbered a x y m) (λ e. ap (renumbered a x y) e) (λ e. omega (arith, u, v, e, p, q))
apart a x y n m (inr p) (inl q) = let u = high a x y n p in let v =
    below a x y m q in same_test n m (renumbered a x y n) (renumbered a x y m) (λ e. ap (renumbered a x y) e) (λ e. omega (arith, u, v, e, p, q))
apart a x y n m (inr p) (inr q) = let u = high a x y n p in let v =
    high a x y m q in same_test n m (renumbered a x y n) (renumbered a x y m) (λ e. ap (renumbered a x y) e) (λ e. omega (arith, u, v, e))

len_by : (b c : Bool) (o r : ℕ) → b ≡ c → o ≡ r → cond (not b) (1 + o) 0 ≡ cond (not c) (1 + r) 0
len_by b c o r e h = ap₂ (λ (d : Bool) (p : ℕ). cond (not d) (1 + p) 0) e h

len_kept : (a x y j : ℕ) (l : List ℕ) → Kept a x j → Each (Kept a x) l →
    position_or_len (λ m. m == renumbered a x y j) (map (renumbered a x y) l) ≡ position_or_len (λ m. m == j) l
len_kept a x y j [] k h = refl
len_kept a x y j (m ∷ l) k h = len_by _ _ _ _ (apart a x y m j h.0 k) (len_kept a x y j l k h.1)

position_kept : (a x y j : ℕ) (l : List ℕ) → Kept a x j → Each (Kept a x) l →
    position (λ m. m == renumbered a x y j) (map (renumbered a x y) l) ≡ position (λ m. m == j) l
position_kept a x y j l k h = ap₂ (λ (p n : ℕ). cond (nat_lt p n) (Some p) None) (len_kept a x y j l k h) (length-map l (renumbered a x y))

tag_kept : (P : ℕ → Type 0) (b : Bool) (n : ℕ) → P n → Each P (cond b (n ∷ []) [])
tag_kept P true n h = (h, tt)
tag_kept P false n h = tt

kept_below : (k a x n : ℕ) (zs : List Record) → n + length zs ≤ a → Each (Kept a x) (tags_from k n zs)
kept_below k a x n [] l = tt
kept_below k a x n (z ∷ zs) l =
    each_append (Kept a x) (if_tag_of k n z) (tags_from k (suc n) zs) (tag_kept (Kept a x) (is_tag z && z.depth == k) n (inl (omega (arith, l))))
    (kept_below k a x (suc n) zs (omega (arith, l)))

kept_above : (k a x n : ℕ) (zs : List Record) → a + x ≤ n → Each (Kept a x) (tags_from k n zs)
kept_above k a x n [] l = tt
kept_above k a x n (z ∷ zs) l = each_append (Kept a x) (if_tag_of k n z) (tags_from k (suc n) zs) (tag_kept (Kept a x) (is_tag z && z.depth == k) n (inr l))
    (kept_above k a x (suc n) zs (omega (arith, l)))

-- so are those of the starting tags
pub tags_kept : (k : ℕ) (before xs zs : List Record) → is_tagless xs ≡ true → Each (Kept (length before) (length xs)) (tags_from k 0 (before ++ (xs ++ zs)))
tags_kept k before xs zs hx =
    let a = length before in
    let x = length xs in
    let e : tags_from k 0 (before ++ (xs ++ zs)) ≡ tags_from k 0 before ++ tags_from k (0 + a + x) zs =
    tags_append k 0 before (xs ++ zs)
    ∙ ap (λ (l : List ℕ). tags_from k 0 before ++ l) (tags_append k (0 + a) xs zs
    ∙ ap (λ (p : List ℕ). p ++ tags_from k (0 + a + x) zs) (tags_none k (0 + a) xs hx)) in
    subst (Each (Kept a x)) (sym e) (each_append (Kept a x) (tags_from k 0 before) (tags_from k (0 + a + x) zs) (kept_below k a x 0 before (omega arith))
    (kept_above k a x (0 + a + x) zs (omega arith)))

found_kept : (P : ℕ → Type 0) (b c : Bool) (n : ℕ) (o : Option ℕ) → P n → IfSome o P → IfSome (cond b (cond c None (Some n)) o) P
found_kept P true true n o h k = tt
found_kept P true false n o h k = h
found_kept P false c n o h k = k

child_kept_above : (k a x n : ℕ) (zs : List Record) → a + x ≤ n → IfSome (child_from k n zs) (Kept a x)
child_kept_above k a x n [] l = tt
child_kept_above k a x n (z ∷ zs) l =
    found_kept (Kept a x) (is_tag z) (nat_le z.depth k) n (child_from k (suc n) zs) (inr l) (child_kept_above k a x (suc n) zs (omega (arith, l)))

child_kept_below : (k a n : ℕ) (before xs zs : List Record) → is_tagless xs ≡ true → n + length before ≡ a →
    IfSome (child_from k n (before ++ (xs ++ zs))) (Kept a (length xs))
child_kept_below k a n [] xs zs hx e =
    subst (λ (o : Option ℕ). IfSome o (Kept a (length xs))) (sym (child_none k n xs zs hx))
    (child_kept_above k a (length xs) (n + length xs) zs (omega (arith, e)))
child_kept_below k a n (z ∷ before) xs zs hx e =
    found_kept (Kept a (length xs)) (is_tag z) (nat_le z.depth k) n (child_from k (suc n) (before ++ (xs ++ zs))) (inl (omega (arith, e)))
    (child_kept_below k a (suc n) before xs zs hx (omega (arith, e)))

-- ---- positions of first children

drop_past : (ts bs : List Record) (m k : ℕ) → k ≡ length ts + m → drop k (ts ++ bs) ≡ drop m bs
drop_past [] bs m k e = ap (λ (j : ℕ). drop j bs) (omega (arith, e))
drop_past (x ∷ xs) bs m zero e = absurd (omega (arith, e))
drop_past (x ∷ xs) bs m (suc k) e = drop_past xs bs m k (omega (arith, e))

drop_moved : (from to m : ℕ) (zs : List Record) → drop m (map (moved from to) zs) ≡ map (moved from to) (drop m zs)
drop_moved from to zero zs = refl
drop_moved from to (suc m) [] = refl
drop_moved from to (suc m) (z ∷ zs) = drop_moved from to m zs

child_renumbered : (k from to : ℕ) (before xs ys zs : List Record) (r : ℕ) → is_tagless xs ≡ true → is_tagless ys ≡ true →
    Kept (length before) (length xs) r →
    let f = renumbered (length before) (length xs) (length ys) in
    let old = before ++ (xs ++ zs) in
    let new = before ++ (ys ++ map (moved from to) zs) in
    (child_from k (suc (f r)) (drop (suc (f r)) new) ≡ option_map f (child_from k (suc r) (drop (suc r) old))) × IfSome
    (child_from k (suc r) (drop (suc r) old)) (Kept (length before) (length xs))
child_renumbered k from to before xs ys zs r hx hy (inl l) =
    let a = length before in
    let f = renumbered a (length xs) (length ys) in
    let e : f r ≡ r = below a (length xs) (length ys) r l in
    let some : suc r ≤ length before = omega (arith, l) in
    let d = drop-append-le (suc r) before (ys ++ map (moved from to) zs) some in
    let c = drop-append-le (suc r) before (xs ++ zs) some in
    let n : suc r + length (drop (suc r) before) ≡ a = let h = length-drop (suc r) before in omega (arith, h, some) in (
      ap (λ (q : ℕ). child_from k (suc q) (drop (suc q) (before ++ (ys ++ map (moved from to) zs)))) e ∙ ap (child_from k (suc r)) d
          ∙ child_below k a from to (suc r) (drop (suc r) before) xs ys zs hx hy n ∙ ap (λ (ts : List Record). option_map f (child_from k (suc r) ts)) (sym c),
      subst (λ (ts : List Record). IfSome (child_from k (suc r) ts) (Kept a (length xs))) (sym c)
          (child_kept_below k a (suc r) (drop (suc r) before) xs zs hx n),
    )
child_renumbered k from to before xs ys zs r hx hy (inr l) =
    let a = length before in
    let x = length xs in
    let y = length ys in
    let f = renumbered a x y in
    let m = suc r - (a + x) in
    let h = high a x y r l in
    let p = length-append before xs in
    let q = length-append before ys in
    let d : drop (suc (f r)) (before ++ (ys ++ map (moved from to) zs)) ≡ map (moved from to) (drop m zs) =
    ap (drop (suc (f r))) (sym (append_assoc before ys (map (moved from to) zs)))
    ∙ drop_past (before ++ ys) (map (moved from to) zs) m (suc (f r)) (omega (arith, h, l, q)) ∙ drop_moved from to m zs in
    let c : drop (suc r) (before ++ (xs ++ zs)) ≡ drop m zs = ap (drop (suc r)) (sym (append_assoc before xs zs))
    ∙ drop_past (before ++ xs) zs m (suc r) (omega (arith, l, p)) in (
      ap (child_from k (suc (f r))) d ∙ child_above k a x y (suc r) (suc (f r)) from to (drop m zs) (omega (arith, l)) (omega (arith, h))
          ∙ ap (λ (ts : List Record). option_map f (child_from k (suc r) ts)) (sym c),
      subst (λ (ts : List Record). IfSome (child_from k (suc r) ts) (Kept a x)) (sym c) (child_kept_above k a x (suc r) (drop m zs) (omega (arith, l))),
    )

position_of : (a x y : ℕ) (l : List ℕ) (o : Option ℕ) → Each (Kept a x) l → IfSome o (Kept a x) →
    unwrap_or (option_and_then (λ j. position (λ m. m == j) (map (renumbered a x y) l)) (option_map (renumbered a x y) o)) no_child ≡ unwrap_or
    (option_and_then (λ j. position (λ m. m == j) l) o) no_child
position_of a x y l None h k = refl
position_of a x y l (Some j) h k = ap (λ (p : Option ℕ). unwrap_or p no_child) (position_kept a x y j l k h)

entries : (a x y : ℕ) (f g : ℕ → ℕ) (l : List ℕ) → Each (Kept a x) l → ((r : ℕ) → Kept a x r → f (renumbered a x y r) ≡ g r) →
    map {B = ℕ × ℕ} (λ (r : ℕ). (r, f r)) (map (renumbered a x y) l) ≡ map (renumbered_entry a x y) (map {B = ℕ × ℕ} (λ (r : ℕ). (r, g r)) l)
entries a x y f g [] h s = refl
entries a x y f g (r ∷ l) h s = ap₂ (λ (p : ℕ) (es : List (ℕ × ℕ)). (renumbered a x y r, p) ∷ es) (s r h.0) (entries a x y f g l h.1 s)

-- the law of levels with children
pub level_renumbered : (k from to : ℕ) (before xs ys zs : List Record) → is_tagless xs ≡ true → is_tagless ys ≡ true →
    record_level k (before ++ (ys ++ map (moved from to) zs)) ≡ map (renumbered_entry (length before) (length xs) (length ys))
    (record_level k (before ++ (xs ++ zs)))
unfolding record_level
level_renumbered k from to before xs ys zs hx hy =
    let a = length before in
    let x = length xs in
    let y = length ys in
    let old = before ++ (xs ++ zs) in
    let new = before ++ (ys ++ map (moved from to) zs) in
    ap (map {B = ℕ × ℕ} (λ (r : ℕ). (r, child_position k new r))) (tags_renumbered k from to before xs ys zs hx hy)
    ∙ entries a x y (child_position k new) (child_position k old) (tags_from k 0 old) (tags_kept k before xs zs hx) (λ r kept.
    let c = child_renumbered k from to before xs ys zs r hx hy kept in
    ap₂ (λ (l : List ℕ) (o : Option ℕ). unwrap_or (option_and_then (λ j. position (λ m. m == j) l) o) no_child)
    (tags_renumbered (suc k) from to before xs ys zs hx hy) c.0
    ∙ position_of a x y (tags_from (suc k) 0 old) (child_from k (suc r) (drop (suc r) old)) (tags_kept (suc k) before xs zs hx) c.1)
