-- Names in rounds: where the least number of a name stands, and which name repeats an earlier one.
use Rattle.std.proofs.Common.{◌≡◌, ℕ, zero, suc, ◌+◌, ◌-◌, ◌*◌, ◌<◌, ◌≤◌, ◌⊎◌, inl, inr, Bool, true, false, List, [], ◌∷◌, length, refl, ap, sym, ◌∙◌, subst, arith, Option, Some, None, bytes_eq, ⊎_elim, get_or, set, ◌||◌}
use Rattle.std.specs.Prelude.{IfSome, IsSomeAnd}
use Rattle.std.specs.Borrow.{Bor}
use Rattle.std.specs.List.{list_any}
use Rattle.std.specs.List.Sorted.{IsSorted, IsPermutation}
use Rattle.std.specs.declared.cmp.Ordering.{Ordering}
use Rattle.std.specs.declared.cmp.Ordering.TheVariants.{Less, Equal, Greater}
use Rattle.std.specs.Ordering.{ordering_then, ordering_reverse, nat_cmp, is_lt}
use Rattle.std.specs.Cmp.{IsTotalOrder}
use Rattle.std.specs.Cmp.Lexicographic.{slice_cmp}
use Rattle.std.proofs.lemmas.Bool.{false≢true, false_from_ne_true}
use Rattle.std.proofs.lemmas.Cmp.{ranked, tied_itself, nat_list_cmp_total, nat_cmp_total, on_total, then_total}
use Rattle.std.proofs.lemmas.Map.Lookups.{exact_bytes}
use Rattle.std.proofs.lemmas.List.Sorted.{ranks_by, sorted_far, Contains-permutation, IsPermutation-sym}
use Rattle.std.proofs.lemmas.List.{get_or_default, get_or-set_same, get_or-set_other}
use Rattle.std.proofs.lemmas.Slice.Eq.{bytes_eq-Decides}
use Rattle.xml_model.specs.Items.{Attribute}
use Rattle.xml_model.specs.Records.{Record}
use Rattle.xml_model.specs.Scan.{record_at}
use Rattle.vtd_text.specs.Joined.{slice_of}
use Rattle.vtd_namespaces.specs.Repeats.{names_before, name_of}
use Rattle.vtd_namespaces.specs.Rounds.{numbered_cmp, IsNumbered, AreNamesFrom, IsNamed, IsPlaceFor}
use Rattle.xml_model.specs.Accepted.{repeated}
use Rattle.vtd_words.specs.declared.packing.Parts.{Parts}
use Rattle.vtd_words.specs.Packed.{record_of}
use Rattle.vtd_text.specs.NameRecords.{is_attribute_name}
use Rattle.vtd_namespaces.specs.Faults.{first_of}
use Rattle.vtd_namespaces.proofs.RepeatLemmas.{any_here, Passed, next_name, pass_name}

pub below_or : (a b : ℕ) → (a < b) ⊎ (b ≤ a)
below_or a zero = inr (omega arith)
below_or zero (suc b) = inl (omega arith)
below_or (suc a) (suc b) = ⊎_elim (λ l. inl (omega (arith, l))) (λ l. inr (omega (arith, l))) (below_or a b)

at_least : (a b : ℕ) → (a < b → ⊥) → b ≤ a
at_least a b f = ⊎_elim (λ l. absurd (f l)) (λ l. l) (below_or a b)

pub total : IsTotalOrder numbered_cmp
total = then_total (on_total (λ (t : Bor (List ℕ) × ℕ). t.0) (on_total (λ (s : Bor (List ℕ)). s.now) nat_list_cmp_total)) (on_total (λ (t : Bor (List ℕ) × ℕ). t.1) nat_cmp_total)

same_name : (x y : List ℕ) → x ≡ y → slice_cmp nat_cmp x y ≡ Equal
same_name x y s = ap (λ z. slice_cmp nat_cmp z y) s ∙ tied_itself nat_list_cmp_total y

-- of one name none stands before that with 0
not_before : (e x : Bor (List ℕ) × ℕ) → x.1 ≡ 0 → numbered_cmp e x ≡ Less → e.0.now ≡ x.0.now → ⊥
not_before e x z h s =
    let number : nat_cmp e.1 x.1 ≡ Less = ap (λ o. ordering_then o (nat_cmp e.1 x.1)) (sym (same_name e.0.now x.0.now s)) ∙ h in
    let l : e.1 < x.1 = ranked e.1 x.1 Less (sym number) in
    omega (arith, l, z)

-- of one name the numbers rise
not_after : (e p : Bor (List ℕ) × ℕ) → e.0.now ≡ p.0.now → is_lt (numbered_cmp e p) ≡ false → p.1 ≤ e.1
not_after e p s h = by (nat_cmp e.1 p.1) refl (ap (λ o. is_lt (ordering_then o (nat_cmp e.1 p.1))) (sym (same_name e.0.now p.0.now s)) ∙ h)
  where
    by : (o : Ordering) → nat_cmp e.1 p.1 ≡ o → is_lt (nat_cmp e.1 p.1) ≡ false → p.1 ≤ e.1
    by Less r k = absurd (false≢true (sym k ∙ ap is_lt r))
    by Equal r k = let q : e.1 ≡ p.1 = ranked e.1 p.1 Equal (sym r) in omega (arith, q)
    by Greater r k = let q : p.1 < e.1 = ranked e.1 p.1 Greater (sym r) in omega (arith, q)

-- what stands past a name has another, and a greater one
past : (e p x : Bor (List ℕ) × ℕ) → numbered_cmp p x ≡ Greater → e.0.now ≡ x.0.now → (p.0.now ≡ x.0.now → ⊥) → is_lt (numbered_cmp e p) ≡ true
past e p x h s other = by (slice_cmp nat_cmp p.0.now x.0.now) refl
  where
    by : (o : Ordering) → slice_cmp nat_cmp p.0.now x.0.now ≡ o → is_lt (numbered_cmp e p) ≡ true
    by Less r = absurd (false≢true (sym (ap is_lt h) ∙ ap (λ o. is_lt (ordering_then o (nat_cmp p.1 x.1))) r))
    by Equal r = absurd (other (exact_bytes p.0.now x.0.now r))
    by Greater r =
        let turned : slice_cmp nat_cmp e.0.now p.0.now ≡ Less =
        ap (λ y. slice_cmp nat_cmp y p.0.now) s ∙ (nat_list_cmp_total).antisymm x.0.now p.0.now ∙ ap ordering_reverse r in
        ap (λ o. is_lt (ordering_then o (nat_cmp e.1 p.1))) turned

-- the place that a search tells
pub place_found : (round : List (Bor (List ℕ) × ℕ)) (x : Bor (List ℕ) × ℕ) (at : ℕ) → x.1 ≡ 0 → at < length round → ((d : Bor (List ℕ) × ℕ) → numbered_cmp (get_or round at d) x ≡ Equal) → IsPlaceFor round x.0.now at
place_found round x at z within h = record {
  least = λ d w s n named. let k = number (get_or round at d) (h d) s in omega (arith, k, z);
  none = λ other n named. absurd (other x within (name (get_or round at x) (h x)));
}
  where
    number : (e : Bor (List ℕ) × ℕ) → numbered_cmp e x ≡ Equal → e.0.now ≡ x.0.now → e.1 ≡ x.1
    number e k s = ranked e.1 x.1 Equal (sym (ap (λ o. ordering_then o (nat_cmp e.1 x.1)) (sym (same_name e.0.now x.0.now s)) ∙ k))

    name : (e : Bor (List ℕ) × ℕ) → numbered_cmp e x ≡ Equal → e.0.now ≡ x.0.now
    name e k = by (slice_cmp nat_cmp e.0.now x.0.now) refl
      where
        by : (o : Ordering) → slice_cmp nat_cmp e.0.now x.0.now ≡ o → e.0.now ≡ x.0.now
        by Less r = absurd (false≢true (sym (ap is_lt k) ∙ ap (λ o. is_lt (ordering_then o (nat_cmp e.1 x.1))) r))
        by Equal r = exact_bytes e.0.now x.0.now r
        by Greater r =
            let n : Greater ≡ Equal = sym (ap (λ o. ordering_then o (nat_cmp e.1 x.1)) r) ∙ k in
            absurd (false≢true (ap (λ o. is_lt (ordering_reverse o)) (sym n)))

pub place_between : (round : List (Bor (List ℕ) × ℕ)) (x : Bor (List ℕ) × ℕ) (at : ℕ) → x.1 ≡ 0 → IsSorted numbered_cmp round → ((k : ℕ) (d : Bor (List ℕ) × ℕ) → 0 ≤ k → k < at → numbered_cmp (get_or round k d) x ≡ Less) →
    ((k : ℕ) (d : Bor (List ℕ) × ℕ) → at ≤ k → k < length round → numbered_cmp (get_or round k d) x ≡ Greater) → IsPlaceFor round x.0.now at
place_between round x at z sorted before from = record {
  least = λ d w s n named.
      let e = named.entry in let k = named.there.0 in
      let l : at ≤ k = not_lower named in
      let rise : is_lt (numbered_cmp e (get_or round at d)) ≡ false = subst (λ y. is_lt (numbered_cmp y (get_or round at d)) ≡ false) (get_or_default round k d e named.there.1 ∙ named.there.2) (sorted_far (λ a b. is_lt (numbered_cmp a b)) (ranks_by total (λ a. a)) round sorted at k d l named.there.1) in
      let m = not_after e (get_or round at d) (named.name_is ∙ sym s) rise in
      omega (arith, m, named.number_is);
  none = λ other n named.
      let e = named.entry in let k = named.there.0 in
      let l : at ≤ k = not_lower named in
      let w : at < length round = omega (arith, l, named.there.1) in
      let rise : is_lt (numbered_cmp e (get_or round at e)) ≡ false = subst (λ y. is_lt (numbered_cmp y (get_or round at e)) ≡ false) named.there.2 (sorted_far (λ a b. is_lt (numbered_cmp a b)) (ranks_by total (λ a. a)) round sorted at k e l named.there.1) in
      false≢true (sym rise ∙ past e (get_or round at e) x (from at e (omega arith) w) named.name_is (other e w));
}
  where
    not_lower : {n : ℕ} (named : IsNamed round x.0.now n) → at ≤ named.there.0
    not_lower named =
        let e = named.entry in let k = named.there.0 in
        at_least k at (λ l. not_before e x z (subst (λ y. numbered_cmp y x ≡ Less) named.there.2 (before k e (omega arith) l)) named.name_is)

-- what a round holds, in any order
pub record HasNames (bytes : List ℕ) (rs : List Record) (first start end : ℕ) (round : List (Bor (List ℕ) × ℕ)) : Type 0 where
  pub each : (name : List ℕ) (n : ℕ) → IsNamed round name n → (start ≤ n) × (n < end) × (name ≡ name_of bytes rs first n)
  pub whole : (n : ℕ) → start ≤ n → n < end → IsNamed round (name_of bytes rs first n) n

names_there : (bytes : List ℕ) (rs : List Record) (first start : ℕ) (round : List (Bor (List ℕ) × ℕ)) → AreNamesFrom bytes rs first start (length round) round → HasNames bytes rs first start (start + length round) round
names_there bytes rs first start round h = record {
  each = λ name n named.
      let k = named.there.0 in
      let w : k < length round = named.there.1 in
      let q = subst (IsNumbered bytes rs first (start + k)) named.there.2 (h k named.entry w) in
      let m : n ≡ start + k = sym named.number_is ∙ q.number in
      (omega (arith, m), omega (arith, m, w), sym named.name_is ∙ q.name ∙ ap (name_of bytes rs first) (sym m));
  whole = λ n l m.
      let k : start + (n - start) ≡ n = omega (arith, l) in
      let w : n - start < length round = omega (arith, l, m) in
      there round h n (n - start) k w;
}
  where
    there : (es : List (Bor (List ℕ) × ℕ)) → AreNamesFrom bytes rs first start (length es) es → (n k : ℕ) → start + k ≡ n → k < length es → IsNamed es (name_of bytes rs first n) n
    there [] g n k e w = let z : ⊥ = omega (arith, w) in absurd z
    there (d ∷ es) g n k e w =
        let x = get_or (d ∷ es) k d in
        let q = g k d w in
        record { entry = x; there = (k, w, get_or_default (d ∷ es) k x d w); name_is = q.name ∙ ap (name_of bytes rs first) e; number_is = q.number ∙ e }

pub named_permuted : (old new : List (Bor (List ℕ) × ℕ)) → IsPermutation old new → (name : List ℕ) (n : ℕ) → IsNamed old name n → IsNamed new name n
named_permuted old new p name n named = record { entry = named.entry; there = Contains-permutation old new named.entry p named.there; name_is = named.name_is; number_is = named.number_is }

pub names_sorted : (bytes : List ℕ) (rs : List Record) (first start : ℕ) (old new : List (Bor (List ℕ) × ℕ)) → IsPermutation old new → length new ≡ length old → AreNamesFrom bytes rs first start (length old) old → HasNames bytes rs first start (start + length new) new
names_sorted bytes rs first start old new p len h =
    let g = subst (λ n. HasNames bytes rs first start (start + n) old) (sym len) (names_there bytes rs first start old h) in
    record {
      each = λ name n named. g.each name n (named_permuted new old (IsPermutation-sym old new p) name n named);
      whole = λ n l m. named_permuted old new p (name_of bytes rs first n) n (g.whole n l m);
    }

-- the least number, of a round's, of a name that repeats one among the first so many, or of which a name is among them
-- that repeats one of the round
pub record IsLeast (bytes : List ℕ) (rs : List Record) (first start end i least : ℕ) : Type 0 where
  pub low : start ≤ least
  pub repeat : least < end → list_any (bytes_eq (name_of bytes rs first least)) (names_before bytes rs first least) ≡ true
  pub across : (m n : ℕ) → m < i → m < start → start ≤ n → n < end → name_of bytes rs first m ≡ name_of bytes rs first n → least ≤ n
  pub within : (m n : ℕ) → n < i → start ≤ m → m < n → n < end → name_of bytes rs first m ≡ name_of bytes rs first n → least ≤ n

pub least_at_first : (bytes : List ℕ) (rs : List Record) (first start end : ℕ) → start ≤ end → IsLeast bytes rs first start end 0 end
least_at_first bytes rs first start end o = record {
  low = o;
  repeat = λ l. let z : ⊥ = omega (arith, l) in absurd z;
  across = λ m n l. omega (arith, l);
  within = λ m n l. omega (arith, l);
}

repeats : (bytes : List ℕ) (rs : List Record) (first m n : ℕ) → m < n → name_of bytes rs first m ≡ name_of bytes rs first n → list_any (bytes_eq (name_of bytes rs first n)) (names_before bytes rs first n) ≡ true
repeats bytes rs first m n l e = sym (any_here bytes rs first (name_of bytes rs first n) (name_of bytes rs first m) m n l refl ((bytes_eq-Decides (name_of bytes rs first m) (name_of bytes rs first n)).1 e))

any_where : (bytes : List ℕ) (rs : List Record) (first : ℕ) (x : List ℕ) (n : ℕ) → list_any (bytes_eq x) (names_before bytes rs first n) ≡ true → (m : ℕ) × (m < n) × (x ≡ name_of bytes rs first m)
any_where bytes rs first x zero h = absurd (false≢true h)
any_where bytes rs first x (suc n) h = by (λ k. any_where bytes rs first x n k) (bytes_eq x (name_of bytes rs first n)) refl h
  where
    by : (list_any (bytes_eq x) (names_before bytes rs first n) ≡ true → (m : ℕ) × (m < n) × (x ≡ name_of bytes rs first m)) → (b : Bool) → bytes_eq x (name_of bytes rs first n) ≡ b → (b || list_any (bytes_eq x) (names_before bytes rs first n)) ≡ true → (m : ℕ) × (m < suc n) × (x ≡ name_of bytes rs first m)
    by _ true e k = (n, omega arith, (bytes_eq-Decides x (name_of bytes rs first n)).0 e)
    by before false e k = let w = before k in (w.0, (let l : w.0 < n = w.1 in omega (arith, l)), w.2)

-- what the lesser of two numbers is
pub record IsLesser (least number result : ℕ) (found : Option ℕ) : Type 0 where
  pub below : result ≤ least
  pub later : IfSome found (λ n. n < number → result ≤ number)
  pub earlier : IfSome found (λ n. number < n → result ≤ n)
  pub from : (result ≡ least) ⊎ IsSomeAnd found (λ n. ((n < number) × (result ≡ number)) ⊎ ((number < n) × (result ≡ n)))

pub least_more : (bytes : List ℕ) (rs : List Record) (first start end i least result : ℕ) (round : List (Bor (List ℕ) × ℕ)) (found : Option ℕ) (name : List ℕ) → name ≡ name_of bytes rs first i → HasNames bytes rs first start end round →
    IfSome found (IsNamed round name) → ((n : ℕ) → IsNamed round name n → IsSomeAnd found (λ m. m ≤ n)) → IsLesser least i result found → i < end → IsLeast bytes rs first start end i least → IsLeast bytes rs first start end (i + 1) result
least_more bytes rs first start end i least result round found name is has some smallest less inside h = by found some smallest less.below less.later less.earlier less.from
  where
    by : (o : Option ℕ) → IfSome o (IsNamed round name) → ((n : ℕ) → IsNamed round name n → IsSomeAnd o (λ m. m ≤ n)) → result ≤ least → IfSome o (λ n. n < i → result ≤ i) → IfSome o (λ n. i < n → result ≤ n) →
        ((result ≡ least) ⊎ IsSomeAnd o (λ n. ((n < i) × (result ≡ i)) ⊎ ((i < n) × (result ≡ n)))) → IsLeast bytes rs first start end (i + 1) result
    by None _ g below _ _ from = record {
      low = ⊎_elim (λ e. let a = h.low in omega (arith, e, a)) (λ a. absurd a) from;
      repeat = λ l. ⊎_elim (λ e. subst (λ r. list_any (bytes_eq (name_of bytes rs first r)) (names_before bytes rs first r) ≡ true) (sym e) (h.repeat (omega (arith, l, e)))) (λ a. absurd a) from;
      across = λ m n l k s e q. ⊎_elim
          (λ p. let a = h.across m n p k s e q in omega (arith, a, below))
          (λ p. let t : m ≡ i = omega (arith, p, l) in absurd (g n (subst (λ x. IsNamed round x n) (sym (is ∙ ap (name_of bytes rs first) (sym t) ∙ q)) (has.whole n s e)))) (below_or m i);
      within = λ m n l s k e q. ⊎_elim
          (λ p. let a = h.within m n p s k e q in omega (arith, a, below))
          (λ p. let t : n ≡ i = omega (arith, p, l) in
          let w : m < end = omega (arith, k, e) in absurd (g m (subst (λ x. IsNamed round x m) (sym (is ∙ ap (name_of bytes rs first) (sym t) ∙ sym q)) (has.whole m s w)))) (below_or n i);
    }
    by (Some j) named g below later earlier from =
        let there = has.each name j named in
        let low : start ≤ j = there.0 in
        let same : name_of bytes rs first j ≡ name_of bytes rs first i = sym there.2 ∙ is in
        record {
          low = ⊎_elim (λ e. let a = h.low in omega (arith, e, a)) (λ a. ⊎_elim (λ b. let l : j < i = b.0 in let e : result ≡ i = b.1 in omega (arith, l, e, low)) (λ b. let e : result ≡ j = b.1 in omega (arith, e, low)) a) from;
          repeat = λ l. ⊎_elim
              (λ e. subst (λ r. list_any (bytes_eq (name_of bytes rs first r)) (names_before bytes rs first r) ≡ true) (sym e) (h.repeat (omega (arith, l, e))))
              (λ a. ⊎_elim
              (λ b. subst (λ r. list_any (bytes_eq (name_of bytes rs first r)) (names_before bytes rs first r) ≡ true) (sym b.1) (repeats bytes rs first j i b.0 same))
              (λ b. subst (λ r. list_any (bytes_eq (name_of bytes rs first r)) (names_before bytes rs first r) ≡ true) (sym b.1) (repeats bytes rs first i j b.0 (sym same))) a) from;
          across = λ m n l k s e q. ⊎_elim
              (λ p. let a = h.across m n p k s e q in omega (arith, a, below))
              (λ p. let t : m ≡ i = omega (arith, p, l) in
              let a : j ≤ n = g n (subst (λ x. IsNamed round x n) (sym (is ∙ ap (name_of bytes rs first) (sym t) ∙ q)) (has.whole n s e)) in
              let b : i < j = omega (arith, t, k, low) in
              let c = earlier b in omega (arith, a, c)) (below_or m i);
          within = λ m n l s k e q. ⊎_elim
              (λ p. let a = h.within m n p s k e q in omega (arith, a, below))
              (λ p. let t : n ≡ i = omega (arith, p, l) in
              let w : m < end = omega (arith, k, e) in
              let a : j ≤ m = g m (subst (λ x. IsNamed round x m) (sym (is ∙ ap (name_of bytes rs first) (sym t) ∙ sym q)) (has.whole m s w)) in
              let b : j < i = omega (arith, a, k, t) in
              let c = later b in omega (arith, c, t)) (below_or n i);
        }

-- all names were passed: below the least number none of the round's repeats another
pub none_below : (bytes : List ℕ) (rs : List Record) (first start end i least : ℕ) → IsLeast bytes rs first start end i least → end ≤ i → least ≤ end → (n : ℕ) → start ≤ n → n < least →
    list_any (bytes_eq (name_of bytes rs first n)) (names_before bytes rs first n) ≡ false
none_below bytes rs first start end i least h o b n s l = false_from_ne_true _ (λ t.
    let w = any_where bytes rs first (name_of bytes rs first n) n t in
    let m = w.0 in
    let k : m < n = w.1 in
    let e : n < end = omega (arith, l, b) in
    let c : m < end = omega (arith, k, e) in
    ⊎_elim (λ p. let c' : m < i = omega (arith, c, o) in let a = h.across m n c' p s e (sym w.2) in omega (arith, a, l)) (λ p. let e' : n < i = omega (arith, e, o) in let a = h.within m n e' p k e (sym w.2) in omega (arith, a, l)) (below_or m start))

-- one name more is in a round
pub names_more : (bytes : List ℕ) (rs : List Record) (first start count : ℕ) (round : List (Bor (List ℕ) × ℕ)) (x : Bor (List ℕ) × ℕ) → count < length round → IsNumbered bytes rs first (start + count) x → AreNamesFrom bytes rs first start count round →
    AreNamesFrom bytes rs first start (count + 1) (set round count x)
names_more bytes rs first start count round x w is h = λ k d l. ⊎_elim
    (λ p. subst (IsNumbered bytes rs first (start + k)) (sym (get_or-set_other round count k x d (λ e. omega (arith, e, p)))) (h k d p))
    (λ p. let e : count ≡ k = omega (arith, p, l) in subst (λ j. IsNumbered bytes rs first (start + j) (get_or (set round count x) j d)) e (subst (IsNumbered bytes rs first (start + count)) (sym (get_or-set_same round count x d w)) is)) (below_or k count)

pub kind_more : (rs : List Record) (first start count : ℕ) → is_attribute_name (record_at (first + 2 * (start + count)) rs).token ≡ true → ((n : ℕ) → start ≤ n → n < start + count → is_attribute_name (record_at (first + 2 * n) rs).token ≡ true) →
    (n : ℕ) → start ≤ n → n < start + (count + 1) → is_attribute_name (record_at (first + 2 * n) rs).token ≡ true
kind_more rs first start count is h n l m = ⊎_elim (h n l) (λ p. let e : start + count ≡ n = omega (arith, p, m) in subst (λ j. is_attribute_name (record_at (first + 2 * j) rs).token ≡ true) e is) (below_or n (start + count))

-- names that repeat none are passed
pub pass_more : (bytes : List ℕ) (rs : List Record) (first at : ℕ) (others : List Attribute) (n d : ℕ) → Passed bytes rs first n at others → ((m : ℕ) → n ≤ m → m < n + d → is_attribute_name (record_at (first + 2 * m) rs).token ≡ true) →
    ((m : ℕ) → n ≤ m → m < n + d → list_any (bytes_eq (name_of bytes rs first m)) (names_before bytes rs first m) ≡ false) → Passed bytes rs first (n + d) at others
pass_more bytes rs first at others n zero p kind none = let e : n ≡ n + 0 = omega arith in subst (λ k. Passed bytes rs first k at others) e p
pass_more bytes rs first at others n (suc d) p kind none =
    let w : n + d < n + suc d = omega arith in
    let l : n ≤ n + d = omega arith in
    let before : Passed bytes rs first (n + d) at others =
    pass_more bytes rs first at others n d p (λ m a b. kind m a (omega (arith, b))) (λ m a b. none m a (omega (arith, b))) in
    let e : n + d + 1 ≡ n + suc d = omega arith in
    subst (λ k. Passed bytes rs first k at others) e (pass_name bytes rs first (n + d) at others before (kind (n + d) l w) (none (n + d) l w))

-- where the first name stands that repeats one, in a round after names that repeat none
pub repeat_there : (bytes : List ℕ) (rs : List Record) (first start least at : ℕ) (others : List Attribute) (p : Parts) → Passed bytes rs first start at others → start ≤ least →
    ((m : ℕ) → start ≤ m → m < least + 1 → is_attribute_name (record_at (first + 2 * m) rs).token ≡ true) →
    ((m : ℕ) → start ≤ m → m < least → list_any (bytes_eq (name_of bytes rs first m)) (names_before bytes rs first m) ≡ false) → list_any (bytes_eq (name_of bytes rs first least)) (names_before bytes rs first least) ≡ true →
    record_of p ≡ record_at (first + 2 * least) rs → Some p.offset ≡ first_of (repeated at [] others)
repeat_there bytes rs first start least at others p h l kind none some here =
    let e : start + (least - start) ≡ least = omega (arith, l) in
    let passed = subst (λ k. Passed bytes rs first k at others) e (pass_more bytes rs first at others start (least - start) h (λ m a b. kind m a (omega (arith, b, l))) (λ m a b. none m a (omega (arith, b, l)))) in
    (next_name bytes rs first least at others p (name_of bytes rs first least) passed here (ap (λ r. is_attribute_name r.token) here ∙ kind least l (omega arith)) (ap (slice_of bytes) (sym here))).hit some

pub all_of_round : (bytes : List ℕ) (rs : List Record) (first start end least at : ℕ) (others : List Attribute) → Passed bytes rs first start at others → start ≤ end → end ≤ least → ((m : ℕ) → start ≤ m → m < end → is_attribute_name (record_at (first + 2 * m) rs).token ≡ true) →
    ((m : ℕ) → start ≤ m → m < least → list_any (bytes_eq (name_of bytes rs first m)) (names_before bytes rs first m) ≡ false) → Passed bytes rs first end at others
all_of_round bytes rs first start end least at others h l k kind none =
    let e : start + (end - start) ≡ end = omega (arith, l) in
    subst (λ k. Passed bytes rs first k at others) e (pass_more bytes rs first at others start (end - start) h (λ m a b. kind m a (omega (arith, b, l))) (λ m a b. none m a (omega (arith, b, l, k))))
