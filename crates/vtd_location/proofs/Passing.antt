-- One step of a comparison of levels, and its end.
use Rattle.std.proofs.Common.{◌≡◌, ℕ, suc, ◌+◌, ◌<◌, ◌≤◌, Bool, true, false, cond, ◌&&◌, ◌==◌, nat_lt, List, [], ◌∷◌, length, drop, slice_index, Option, Some, None, refl, ap, sym, ◌∙◌, arith, drop-cons, inl, inr, ◌⊎◌, ap₂, subst}
use Rattle.std.proofs.lemmas.Bool.Decides.{nat_tests}
use Rattle.std.proofs.lemmas.Bool.{cases_eq}
use Rattle.std.proofs.lemmas.List.{drop_all}
use Rattle.xml_model.specs.Records.{Record}
use Rattle.xml_model.specs.Levels.{Levels, no_child, is_tag, levels}
use Rattle.xml_model.specs.LevelScan.{child_of, level_from}
use Rattle.xml_model.specs.Scan.{record_at}
use Rattle.xml_model.proofs.LevelScan.{by_scan}
use Rattle.xml_model.proofs.ScanSteps.{from_index}
use Rattle.vtd_words.specs.Table.{ArePartsAt}
use Rattle.vtd_words.specs.Packed.{record_of}
use Rattle.vtd_words.specs.declared.packing.Parts.{Parts}
use Rattle.vtd_words.proofs.Shown.{shown_length}
use Rattle.vtd_location.specs.Differences.{differ, or_differ, differ_levels}
use Rattle.vtd_location.specs.Scanning.{stored_at, with_entry, left_of, found_or, value_of, last_of, end_of, difference_of, Scanning, ScanningOf, ScanTo, LanesTo, PassesOn, PassesOnLast}
use Rattle.vtd_location.specs.declared.checking.Scan.{Scan}
use Rattle.vtd_location.specs.declared.checking.Lanes.{Lanes}
use Rattle.vtd_location.specs.declared.checking.CacheDiff.{CacheDiff}

-- a stored entry, and another
pub stored_on : (stored : List ℕ) (i next w : ℕ) (ws : List ℕ) → next ≡ suc i → stored_at stored i w ≡ true → differ next (drop next stored) ws ≡ differ i (drop i stored) (w ∷ ws)
stored_on stored i next w ws e t = both (nat_lt i (length stored)) (slice_index stored i == w) refl refl t
  where
    both : (a b : Bool) → nat_lt i (length stored) ≡ a → (slice_index stored i == w) ≡ b → (a && b) ≡ true → differ next (drop next stored) ws ≡ differ i (drop i stored) (w ∷ ws)
    both true true a b t =
        let within : i < length stored = grind (arith, nat_tests, a) in
        rw (e, drop-cons stored i 0 within, b) refl
    both true false a b t = absurd (cc)
    both false b' a b t = absurd (cc)

pub stored_other : (stored : List ℕ) (i w : ℕ) (ws : List ℕ) → stored_at stored i w ≡ false → Some i ≡ differ i (drop i stored) (w ∷ ws)
stored_other stored i w ws t = both (nat_lt i (length stored)) (slice_index stored i == w) refl refl t
  where
    both : (a b : Bool) → nat_lt i (length stored) ≡ a → (slice_index stored i == w) ≡ b → (a && b) ≡ false → Some i ≡ differ i (drop i stored) (w ∷ ws)
    both true true a b t = absurd (cc)
    both true false a b t =
        let within : i < length stored = grind (arith, nat_tests, a) in
        rw (drop-cons stored i 0 within, b) refl
    both false b' a b t =
        let past : length stored ≤ i = grind (arith, nat_tests, a) in
        rw (drop_all i stored past) refl

-- what is left at a record that is no tag, and at a tag
pub left_other : (waiting : Option ℕ) (k c at next : ℕ) (r : Record) (rest : List Record) → next ≡ suc at → is_tag r ≡ false → left_of waiting k c next rest ≡ left_of waiting k c at (r ∷ rest)
left_other waiting k c at next r rest e t = rw (e, t) refl

by_depth : (k c at : ℕ) (r : Record) (rest : List Record) → is_tag r ≡ true → (r.depth ≡ k) ⊎ (r.depth ≡ k → ⊥) → (r.depth ≡ suc k) ⊎ (r.depth ≡ suc k → ⊥)
    → left_of (cond (r.depth == k) (Some at) None) k (cond (r.depth == suc k) (suc c) c) (suc at) rest ≡ level_from k c at (r ∷ rest)
by_depth k c at r rest t (inl same) d =
    let a : (r.depth == k) ≡ true = grind (arith, nat_tests) in
    let b : (r.depth == suc k) ≡ false = grind (arith, nat_tests) in
    rw (t, a, b) refl
by_depth k c at r rest t (inr other) (inl below) =
    let a : (r.depth == k) ≡ false = grind (arith, nat_tests) in
    let b : (r.depth == suc k) ≡ true = grind (arith, nat_tests) in
    rw (t, a, b) refl
by_depth k c at r rest t (inr other) (inr neither) =
    let a : (r.depth == k) ≡ false = grind (arith, nat_tests) in
    let b : (r.depth == suc k) ≡ false = grind (arith, nat_tests) in
    rw (t, a, b) refl

pub left_tag : (waiting : Option ℕ) (k c at next : ℕ) (r : Record) (rest : List Record) → next ≡ suc at → is_tag r ≡ true
    → with_entry waiting (cond (r.depth == suc k) c no_child) (left_of (cond (r.depth == k) (Some at) None) k (cond (r.depth == suc k) (suc c) c) next rest)
    ≡ left_of waiting k c at (r ∷ rest)
left_tag waiting k c at next r rest e t =
    let child : child_of k c (r ∷ rest) ≡ cond (r.depth == suc k) c no_child = rw t refl in
    rw (e, child) (ap (λ (ws : List ℕ). with_entry waiting (cond (r.depth == suc k) c no_child) ws) (by_depth k c at r rest t (cases_eq r.depth k) (cases_eq r.depth (suc k))))

-- more is stored than there is
pub more_stored : (stored : List ℕ) (i : ℕ) → i < length stored → Some i ≡ found_or stored None i []
more_stored stored i within = rw (drop-cons stored i 0 within) refl

-- a record that is no tag
pub passed_other : (stored : List ℕ) (k : ℕ) (s : Scan) (at next : ℕ) (r : Record) (ws : List Record) → next ≡ suc at → is_tag r ≡ false → value_of stored k s next ws ≡ value_of stored k s at (r ∷ ws)
passed_other stored k s at next r ws e t = ap (λ (xs : List ℕ). found_or stored s.found s.settled xs) (left_other s.waiting k s.deeper at next r ws e t)

pub passed_other_last : (stored : List ℕ) (k : ℕ) (s : Scan) (at next : ℕ) (r : Record) (ws : List Record) → next ≡ suc at → (is_tag r && r.depth == k) ≡ false → last_of stored k s next ws ≡ last_of stored k s at (r ∷ ws)
passed_other_last stored k s at next r ws e t = rw (e, t) refl

-- one record on
pub scanned : (stored : List ℕ) (k n : ℕ) (s t : Scan) (r : Record) (rs : List Record) (o : Option ℕ) → n < length rs → r ≡ record_at n rs → PassesOn k stored s n r t → value_of stored k s n (drop n rs) ≡ o → value_of stored k t (n + 1) (drop (n + 1) rs) ≡ o
scanned stored k n s t r rs o within e p v = p (drop (n + 1) rs) ∙ sym (ap (value_of stored k s n) (from_index rs n within ∙ ap (λ (x : Record). x ∷ drop (n + 1) rs) (sym e))) ∙ v

pub scanned_last : (stored : List ℕ) (k n : ℕ) (s t : Scan) (r : Record) (rs : List Record) (o : Option ℕ) → n < length rs → r ≡ record_at n rs → PassesOnLast k stored s n r t → last_of stored k s n (drop n rs) ≡ o → last_of stored k t (n + 1) (drop (n + 1) rs) ≡ o
scanned_last stored k n s t r rs o within e p v = p (drop (n + 1) rs) ∙ sym (ap (last_of stored k s n) (from_index rs n within ∙ ap (λ (x : Record). x ∷ drop (n + 1) rs) (sym e))) ∙ v

pub scanning_on : (stored : Levels) (records : List ℕ) (l t : Lanes) (n : ℕ) (parts : Parts) → n < length records → ArePartsAt records n parts → LanesTo t (n + 1) →
    PassesOn 1 stored.level1 l.one n (record_of parts) t.one → PassesOn 2 stored.level2 l.two n (record_of parts) t.two → PassesOn 3 stored.level3 l.three n (record_of parts) t.three →
    PassesOn 4 stored.level4 l.four n (record_of parts) t.four → PassesOnLast 5 stored.level5 l.five n (record_of parts) t.five → Scanning stored records l n → Scanning stored records t (n + 1)
scanning_on stored records l t n parts within p to one two three four five i = record {
  to = to;
  each = λ rs s.
      let e = i.each rs s in
      let r = record_of parts in
      let in_rs : n < length rs = omega (arith, within, shown_length records rs s) in
      let same = p rs s in
      record {
        one = scanned stored.level1 1 n l.one t.one r rs _ in_rs same one e.one;
        two = scanned stored.level2 2 n l.two t.two r rs _ in_rs same two e.two;
        three = scanned stored.level3 3 n l.three t.three r rs _ in_rs same three e.three;
        four = scanned stored.level4 4 n l.four t.four r rs _ in_rs same four e.four;
        five = scanned_last stored.level5 5 n l.five t.five r rs _ in_rs same five e.five;
      };
}

-- over a starting tag
pub passed_tag : (stored : List ℕ) (k : ℕ) (s : Scan) (at next : ℕ) (r : Record) (found : Option ℕ) (settled : ℕ) (deeper : ℕ) (waiting : Option ℕ) (ws : List Record) → next ≡ at + 1 → is_tag r ≡ true → s.found ≡ None →
    deeper ≡ cond (r.depth == suc k) (suc s.deeper) s.deeper → waiting ≡ cond (r.depth == k) (Some at) None →
    ((xs : List ℕ) → found_or stored found settled xs ≡ found_or stored None s.settled (with_entry s.waiting (cond (r.depth == suc k) s.deeper no_child) xs)) →
    found_or stored found settled (left_of waiting k deeper next ws) ≡ value_of stored k s at (r ∷ ws)
passed_tag stored k s at next r found settled deeper waiting ws e t none d w v =
    let n : next ≡ suc at = omega arith in
    let left = left_tag s.waiting k s.deeper at next r ws n t in
    v (left_of waiting k deeper next ws)
    ∙ ap₂ (λ (o : Option ℕ) (c : ℕ). found_or stored None s.settled (with_entry s.waiting (cond (r.depth == suc k) s.deeper no_child) (left_of o k c next ws))) w d
    ∙ ap (λ (xs : List ℕ). found_or stored None s.settled xs) left
    ∙ ap (λ (f : Option ℕ). found_or stored f s.settled (left_of s.waiting k s.deeper at (r ∷ ws))) (sym none)

pub passed_found : (stored : List ℕ) (at : ℕ) (xs ys : List ℕ) (settled : ℕ) (o : Option ℕ) → o ≡ Some at → found_or stored o settled xs ≡ found_or stored o settled ys
passed_found stored at xs ys settled o e = rw e refl

pub first_scan : (stored : Levels) (records : List ℕ) (l : Lanes) (s : Scan) → s ≡ record { settled = 0; deeper = 0; waiting = None; found = None } → l ≡ record { one = s; two = s; three = s; four = s; five = s } → Scanning stored records l 0
first_scan stored records l s e f =
    let w : l ≡ record { one = START; two = START; three = START; four = START; five = START } = f ∙ ap (λ (x : Scan). record { one = x; two = x; three = x; four = x; five = x }) e in
    subst (λ (x : Lanes). Scanning stored records x 0) (sym w) (record {
      to = record { one = zero_to; two = zero_to; three = zero_to; four = zero_to; five = omega arith; last = refl };
      each = λ rs h. record { one = refl; two = refl; three = refl; four = refl; five = refl };
    })
  where
    START : Scan
    START = record { settled = 0; deeper = 0; waiting = None; found = None }

    zero_to : ScanTo (record { settled = 0; deeper = 0; waiting = None; found = None }) 0
    zero_to = record { settled = omega arith; deeper = omega arith }

-- after the last record
pub end_is : (stored : List ℕ) (k : ℕ) (s : Scan) (n : ℕ) (rs : List Record) → length rs ≤ n → value_of stored k s n (drop n rs) ≡ end_of stored s
end_is stored k s n rs past = rw (drop_all n rs past) refl

pub last_end : (stored : List ℕ) (k : ℕ) (s : Scan) (n : ℕ) (rs : List Record) → length rs ≤ n → s.waiting ≡ None → last_of stored k s n (drop n rs) ≡ end_of stored s
last_end stored k s n rs past e = rw (drop_all n rs past, e) refl

-- all levels are compared
pub compared : (stored : Levels) (l : Lanes) (n : ℕ) (rs : List Record) → ScanningOf stored rs l n → l.five.waiting ≡ None → length rs ≤ n → difference_of stored l ≡ differ_levels stored (levels rs)
unfolding levels
compared stored l n rs s w past =
    let one = sym (end_is stored.level1 1 l.one n rs past) ∙ s.one ∙ ap (differ 0 stored.level1) (sym (by_scan 1 rs)) in
    let two = sym (end_is stored.level2 2 l.two n rs past) ∙ s.two ∙ ap (differ 0 stored.level2) (sym (by_scan 2 rs)) in
    let three = sym (end_is stored.level3 3 l.three n rs past) ∙ s.three ∙ ap (differ 0 stored.level3) (sym (by_scan 3 rs)) in
    let four = sym (end_is stored.level4 4 l.four n rs past) ∙ s.four ∙ ap (differ 0 stored.level4) (sym (by_scan 4 rs)) in
    let five = sym (last_end stored.level5 5 l.five n rs past w) ∙ s.five in
    rw (one, two, three, four, five) refl

-- lists that do not differ are the same
pub same_list : (n : ℕ) (xs ys : List ℕ) → differ n xs ys ≡ None → xs ≡ ys
same_list n [] [] h = refl
same_list n [] (y ∷ ys) h = absurd cc
same_list n (x ∷ xs) [] h = absurd cc
same_list n (x ∷ xs) (y ∷ ys) h = by (cases_eq x y) (λ r. same_list (suc n) xs ys r)
  where
    by : (x ≡ y) ⊎ (x ≡ y → ⊥) → (differ (suc n) xs ys ≡ None → xs ≡ ys) → x ∷ xs ≡ y ∷ ys
    by (inl e) rec =
        let t : (x == y) ≡ true = grind (arith, nat_tests) in
        let rest = rec (sym (ap (λ (b : Bool). cond b (differ (suc n) xs ys) (Some n)) t) ∙ h) in
        rw (e, rest) refl
    by (inr d) rec =
        let t : (x == y) ≡ false = grind (arith, nat_tests) in
        let none : Some n ≡ None = sym (ap (λ (b : Bool). cond b (differ (suc n) xs ys) (Some n)) t) ∙ h in
        absurd cc

pub or_none : (level : ℕ) (o : Option ℕ) (other : Option CacheDiff) → or_differ level o other ≡ None → (o ≡ None) × (other ≡ None)
or_none level None other h = (refl, h)
or_none level (Some at) other h = absurd cc

pub same_levels : (stored real : Levels) → differ_levels stored real ≡ None → stored ≡ real
same_levels stored real h =
    let a = or_none 1 _ _ h in
    let b = or_none 2 _ _ a.1 in
    let c = or_none 3 _ _ b.1 in
    let d = or_none 4 _ _ c.1 in
    let e = or_none 5 _ None d.1 in
    let one = same_list 0 stored.level1 real.level1 a.0 in
    let two = same_list 0 stored.level2 real.level2 b.0 in
    let three = same_list 0 stored.level3 real.level3 c.0 in
    let four = same_list 0 stored.level4 real.level4 d.0 in
    let five = same_list 0 stored.level5 real.level5 e.0 in
    levels_of one two three four five
  where
    levels_of : stored.level1 ≡ real.level1 → stored.level2 ≡ real.level2 → stored.level3 ≡ real.level3 → stored.level4 ≡ real.level4 → stored.level5 ≡ real.level5 → stored ≡ real
    levels_of a b c d e =
        let p : (record { level1 = stored.level1; level2 = stored.level2; level3 = stored.level3; level4 = stored.level4; level5 = stored.level5 }) ≡ real = rw (a, b, c, d, e) refl in p
