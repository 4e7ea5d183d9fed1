-- The inverse step leads back, with the step as its inverse.
use Rattle.std.proofs.Common.{◌≡◌, ℕ, ◌+◌, ◌-◌, ◌≤◌, Bool, true, false, nat_eq, nat_le, ◌&&◌, List, [], ◌∷◌, ◌++◌}
use Rattle.std.proofs.Common.{length, take, drop, Some, refl, sym, ◌∙◌, ap, ap₂, subst, arith}
use Rattle.std.proofs.lemmas.List.{take-append-drop, length-append, length-drop, length-take-le, append-nil, take_at}
use Rattle.std.proofs.lemmas.List.{drop_at, drop-drop}
use Rattle.std.proofs.lemmas.Bool.{and_parts, and_from, le-leb, leb-true, eq-eqb, eqb-true}
use Rattle.std.proofs.Math.Seq.{drop-append_seam, drop-append-add}
use Rattle.vtd_edits.specs.declared.splice.Splice.{Splice}
use Rattle.vtd_history.specs.Versions.{Version, version_of, edits_of, unstaged, IsMade}
use Rattle.vtd_history.specs.Steps.{PlainStep, staged, discarded, applied, patched, Turned, turned, where_true}
use Rattle.vtd_history.specs.Steps.{without_last, last_of, range, with_range, is_none, with_splices, is_range, back}

pub where_some : {X : Type 0} → (b : Bool) (x y : X) → where_true b x ≡ Some y → (b ≡ true) × (x ≡ y)
where_some true x y e = (refl, cc)
where_some false x y e = absurd (cc)

-- splices staged behind others are taken off
pub take_off : (count : ℕ) (xs zs : List Splice) (p : Version) → length zs ≡ count
    → back (staged count []) (with_splices (xs ++ zs) p) ≡ Some (turned (with_splices xs p) (staged count zs))
take_off count xs zs p e =
    let total : length (xs ++ zs) ≡ length xs + length zs = length-append xs zs in
    let at : length xs ≡ length (xs ++ zs) - count = omega arith in
    ap (λ (b : Bool). where_true b (turned (with_splices (without_last count (xs ++ zs)) p) (staged count (last_of count (xs ++ zs)))))
    (le-leb count (length (xs ++ zs)) (omega arith))
    ∙ ap₂ (λ (ys ws : List Splice). Some (turned (with_splices ys p) (staged count ws))) (take_at xs zs (length (xs ++ zs) - count) at)
    (drop_at xs zs (length (xs ++ zs) - count) at)

-- splices that were taken off are staged again
pub put_on : (count : ℕ) (xs zs : List Splice) (p : Version) → length zs ≡ count
    → back (staged count zs) (with_splices xs p) ≡ Some (turned (with_splices (xs ++ zs) p) (staged count []))
put_on count xs [] p e =
    ap (λ (ys : List Splice). back (staged count []) (with_splices ys p)) (sym (append-nil xs))
    ∙ take_off count xs [] p e
    ∙ ap (λ (ys : List Splice). Some (turned (with_splices ys p) (staged count []))) (sym (append-nil xs))
put_on count xs (z ∷ zs) p e =
    ap (λ (b : Bool). where_true b (turned (with_splices (xs ++ z ∷ zs) p) (staged count []))) (eq-eqb (length (z ∷ zs)) count e)

none_is : (xs : List Splice) → is_none xs ≡ true → xs ≡ []
none_is [] e = refl
none_is (x ∷ xs) e = absurd (cc)

-- a range that was put in is taken out again
module _ (start end : ℕ) (new bytes : List ℕ) (low : start ≤ end) (high : end ≤ length bytes) where
  front_length : length (take start bytes) ≡ start
  front_length = length-take-le start bytes (omega arith)

  past_new : drop (start + length new) (with_range start end new bytes) ≡ drop end bytes
  past_new =
      ap (λ (n : ℕ). drop (n + length new) (with_range start end new bytes)) (sym front_length)
      ∙ drop-append-add (take start bytes) (new ++ drop end bytes) (length new)
      ∙ drop-append_seam new (drop end bytes)

  length_with : length (with_range start end new bytes) ≡ start + (length new + (length bytes - end))
  length_with = omega (
    arith,
    front_length,
    length-append (take start bytes) (new ++ drop end bytes),
    length-append new
        (drop end bytes),
    length-drop end bytes,
  )

  front_same : take start (with_range start end new bytes) ≡ take start bytes
  front_same = take_at (take start bytes) (new ++ drop end bytes) start front_length

  new_back : range start (start + length new) (with_range start end new bytes) ≡ new
  new_back =
      let k : start + length new - start ≡ length new = omega arith in
      ap₂ (λ (n : ℕ) (r : List ℕ). take n r) k (drop_at (take start bytes) (new ++ drop end bytes) start front_length)
      ∙ take_at new (drop end bytes) (length new) refl

  range_length : length (range start end bytes) ≡ end - start
  range_length = length-take-le (end - start) (drop start bytes) (omega (arith, length-drop start bytes))

  range_rest : range start end bytes ++ drop end bytes ≡ drop start bytes
  range_rest =
      let k : start + (end - start) ≡ end = omega arith in
      ap (λ (n : ℕ). range start end bytes ++ drop n bytes) (sym k)
      ∙ ap (λ (r : List ℕ). range start end bytes ++ r) (sym (drop-drop (end - start) start bytes))
      ∙ take-append-drop (end - start) (drop start bytes)

  put_back : with_range start (start + length new) (range start end bytes) (with_range start end new bytes) ≡ bytes
  put_back =
      ap₂ (λ (f r : List ℕ). f ++ (range start end bytes ++ r)) front_same past_new
      ∙ ap (λ (r : List ℕ). take start bytes ++ r) range_rest
      ∙ take-append-drop start bytes

  is_range_back : is_range start (start + length new) (with_range start end new bytes) ≡ true
  is_range_back = and_from (nat_le start (start + length new)) (nat_le (start + length new) (length (with_range start end new bytes)))
      (le-leb start (start + length new) (omega arith)) (le-leb (start + length new) (length (with_range start end new bytes))
      (omega (arith, length_with)))

  pub patched_back : back (patched start (start + length new) (range start end bytes))
      (unstaged (with_range start end new bytes)) ≡ Some (turned (unstaged bytes) (patched start end new))
  patched_back =
      let stop : start + length (range start end bytes) ≡ end = omega (arith, range_length) in
      ap (λ (b : Bool). where_true b (turned (unstaged (with_range start (start + length new) (range start end bytes)
      (with_range start end new bytes))) (patched start (start + length (range start end bytes))
      (range start (start + length new) (with_range start end new bytes))))) is_range_back
      ∙ ap (λ (bs : List ℕ). Some (turned (unstaged bs) (patched start (start + length (range start end bytes))
      (range start (start + length new) (with_range start end new bytes))))) put_back
      ∙ ap₂ (λ (n : ℕ) (r : List ℕ). Some (turned (unstaged bytes) (patched start n r))) stop new_back

made_unstaged : (p : Version) → IsMade p → p.edits.splices ≡ [] → p ≡ unstaged p.bytes
made_unstaged p m e = ap₂ (λ (n : ℕ) (xs : List Splice). version_of p.bytes (edits_of n xs)) m e

-- what was turned, in place of what it is equal to
back_from : (step : PlainStep) (p : Version) (t u : Turned) → t ≡ u → back t.inverse t.version ≡ Some (turned p step)
    → back u.inverse u.version ≡ Some (turned p step)
back_from step p t u e h = subst (λ (w : Turned). back w.inverse w.version ≡ Some (turned p step)) e h

-- `back` of the inverse step and of the new version gives the old version and the step again
pub back_back : (step : PlainStep) (p : Version) (t : Turned) → IsMade p → IsMade t.version → back step p ≡ Some t
    → back t.inverse t.version ≡ Some (turned p step)
back_back (staged count []) p t m n e =
    let xs : List Splice = p.edits.splices in
    let k = where_some (nat_le count (length xs)) (turned (with_splices (without_last count xs) p) (staged count (last_of count xs))) t
    e in
    let enough : count ≤ length xs = leb-true count (length xs) k.0 in
    let some : length (last_of count xs) ≡ count = omega (arith, length-drop (length xs - count) xs) in
    back_from (staged count []) p (turned (with_splices (without_last count xs) p) (staged count (last_of count xs))) t k.1
    (put_on count (without_last count xs) (last_of count xs) p some
    ∙ ap (λ (ys : List Splice). Some (turned (with_splices ys p) (staged count []))) (take-append-drop (length xs - count) xs))
back_back (staged count (x ∷ taken)) p t m n e =
    let k = where_some (nat_eq (length (x ∷ taken)) count) (turned (with_splices (p.edits.splices ++ x ∷ taken) p) (staged count [])) t
    e in
    back_from (staged count (x ∷ taken)) p (turned (with_splices (p.edits.splices ++ x ∷ taken) p) (staged count [])) t k.1
    (take_off count p.edits.splices (x ∷ taken) p (eqb-true (length (x ∷ taken)) count k.0))
back_back (discarded edits) p t m n e =
    let k : turned (version_of p.bytes edits) (discarded p.edits) ≡ t = cc in
    back_from (discarded edits) p (turned (version_of p.bytes edits) (discarded p.edits)) t k refl
back_back (applied bytes edits) p t m n e =
    let k : turned (version_of bytes edits) (applied p.bytes p.edits) ≡ t = cc in
    back_from (applied bytes edits) p (turned (version_of bytes edits) (applied p.bytes p.edits)) t k refl
back_back (patched start end new) p t m n e =
    let there : Turned = turned (unstaged (with_range start end new p.bytes))
    (patched start (start + length new) (range start end p.bytes)) in
    let k = where_some (is_none p.edits.splices && is_range start end p.bytes) there t e in
    let parts = and_parts (is_none p.edits.splices) (is_range start end p.bytes) k.0 in
    let ends = and_parts (nat_le start end) (nat_le end (length p.bytes)) parts.1 in
    back_from (patched start end new) p there t k.1
    (patched_back start end new p.bytes (leb-true start end ends.0) (leb-true end (length p.bytes) ends.1)
    ∙ ap (λ (q : Version). Some (turned q (patched start end new))) (sym (made_unstaged p m (none_is p.edits.splices parts.0))))
