-- What is added by one call after another.
use Rattle.std.proofs.Common.{◌≡◌, ℕ, suc, ◌+◌, ◌-◌, ◌≤◌, true, false, List, [], ◌∷◌, ◌++◌, length, take, drop, Some, is_some, Result, Ok, Err, refl, ap, sym}
use Rattle.std.proofs.Common.{subst, ◌∙◌, arith, append_assoc, append-nil}
use Rattle.std.proofs.lemmas.List.{length-append, take-append-le, take_rest, take_all, take-append-drop}
use Rattle.std.proofs.Math.Seq.{take-add}
use Rattle.vtd_outside.specs.declared.Failed.{Failed}
use Rattle.vtd_outside.specs.Causes.{HasFileCause}
use Rattle.vtd_outside.specs.Known.{SeenFiles, Holds, Appends, put_into}
use Rattle.vtd_outside.specs.Written.{Adds, Appending}

abbrev pub okay : {U E : Type 0} → U → Result U E
okay u = Ok u

abbrev pub failing : {U E : Type 0} → E → Result U E
failing e = Err e

take_past : (xs ys : List ℕ) (n : ℕ) → take (length xs + n) (xs ++ ys) ≡ xs ++ take n ys
take_past [] ys n = let e : 0 + n ≡ n = omega arith in rw e refl
take_past (x ∷ xs) ys n = let e : suc (length xs) + n ≡ suc (length xs + n) = omega arith in rw e (ap (λ (zs : List ℕ). x ∷ zs) (take_past xs ys n))

-- the causes of two calls
after_ok : {T U E : Type 0} (u : U) (m0 m1 m2 p0 p1 p2 : ℕ) (r : Result T E) → HasFileCause false m0 m1 p0 p1 (okay {U = U} {E = E} u)
    → HasFileCause false m1 m2 p1 p2 r → HasFileCause false m0 m2 p0 p2 r
after_ok u m0 m1 m2 p0 p1 p2 r a b = rw (sym a.missed_kept, sym a.proper_kept) b

-- nothing is added yet
pub adds_none : {T E : Type 0} (s : SeenFiles) (u : T) → s.is_writing ≡ true → Adds s s [] (okay {U = T} {E = E} u)
adds_none s u w = record {
  added = λ base name held h. h.contents_are ∙ ap (λ (zs : List ℕ). Some (put_into base name zs)) (sym (append-nil held));
  known = refl;
  same_file = refl;
  ok = w;
  err = tt;
  cause = record { missed_later = omega arith; proper_later = omega arith; failed = tt; missed_kept = refl; proper_kept = refl };
}

-- one after another
pub adds_then : {T U E : Type 0} (s t v : SeenFiles) (xs ys : List ℕ) (u : U) (r : Result T E) → Adds s t xs (okay {U = U} {E = E} u) → Adds t v ys r
    → Adds s v (xs ++ ys) r
adds_then s t v xs ys u (Ok x) a b = record {
  added = λ base name held h.
      let mid : Holds t base name (held ++ xs) = record { contents_are = a.added base name held h; named = a.same_file ∙ h.named } in
      b.added base name (held ++ xs) mid ∙ ap (λ (zs : List ℕ). Some (put_into base name zs)) (append_assoc held xs ys);
  known = b.known ∙ a.known;
  same_file = b.same_file ∙ a.same_file;
  ok = b.ok;
  err = b.err;
  cause = after_ok u _ _ _ _ _ _ (Ok x) a.cause b.cause;
}
adds_then s t v xs ys u (Err e) a b = record {
  added = λ base name held h.
      let mid : Holds t base name (held ++ xs) = record { contents_are = a.added base name held h; named = a.same_file ∙ h.named } in
      let f = b.added base name (held ++ xs) mid in
      record {
        count = length xs + f.count;
        within = let w = f.within in rw length-append (omega arith);
        files = f.files
            ∙ ap (λ (zs : List ℕ). Some (put_into base name zs))
            (append_assoc held xs (take f.count ys) ∙ ap (λ (zs : List ℕ). held ++ zs) (sym (take_past xs ys f.count)));
      };
  known = b.known ∙ a.known;
  same_file = tt;
  ok = tt;
  err = b.err;
  cause = after_ok u _ _ _ _ _ _ (Err e) a.cause b.cause;
}

-- a fault before more
pub adds_prefix : {T U E : Type 0} (s t : SeenFiles) (xs ys : List ℕ) (e : E) → Adds s t xs (failing {U = U} {E = E} e)
    → Adds s t (xs ++ ys) (failing {U = T} {E = E} e)
adds_prefix s t xs ys e a = record {
  added = λ base name held h.
      let f = a.added base name held h in
      record {
        count = f.count;
        within = let w = f.within in rw length-append (omega arith);
        files = f.files ∙ ap (λ (zs : List ℕ). Some (put_into base name (held ++ zs))) (let w = f.within in sym (take-append-le _ xs ys w));
      };
  known = a.known;
  same_file = tt;
  ok = tt;
  err = a.err;
  cause = record { missed_later = a.cause.missed_later; proper_later = a.cause.proper_later; failed = a.cause.failed; missed_kept = tt; proper_kept = tt };
}

-- one call, which took the first n bytes or failed
adds_some : (s t : SeenFiles) (part : List ℕ) (n : ℕ) → Appends s t.contents part n → is_some t.contents ≡ is_some s.contents → t.writing ≡ s.writing
    → t.is_writing ≡ true
    → HasFileCause false s.missed t.missed s.proper t.proper (okay {E = Failed} n) → Adds s t (take n part) (okay {U = Unit {0}} {E = Failed} tt)
adds_some s t part n a k w g c = record {
  added = a;
  known = k;
  same_file = w;
  ok = g;
  err = tt;
  cause = record { missed_later = c.missed_later; proper_later = c.proper_later; failed = tt; missed_kept = c.missed_kept; proper_kept = c.proper_kept };
}

adds_nothing : (s t : SeenFiles) (part : List ℕ) (e : Failed) → Appends s t.contents part 0 → is_some t.contents ≡ is_some s.contents → t.is_writing ≡ false
    → HasFileCause false s.missed t.missed s.proper t.proper (failing {U = ℕ} e) → Adds s t part (failing {U = Unit {0}} e)
adds_nothing s t part e a k g c = record {
  added = λ base name held h. record { count = 0; within = omega arith; files = a base name held h };
  known = k;
  same_file = tt;
  ok = tt;
  err = g;
  cause = record { missed_later = c.missed_later; proper_later = c.proper_later; failed = c.failed; missed_kept = tt; proper_kept = tt };
}

-- the loop over the pieces of a slice: what is added so far, one piece more, and a fault
pub append_starts : (s : SeenFiles) (bytes : List ℕ) → s.is_writing ≡ true → Appending s s bytes 0
append_starts s bytes w = record { within = omega arith; adds = adds_none s tt w }

pub append_more : (s t v : SeenFiles) (bytes : List ℕ) (sent n : ℕ) → Appending s t bytes sent → n ≤ length bytes - sent
    → Appends t v.contents (take (length bytes - sent) (drop sent bytes)) n → is_some v.contents ≡ is_some t.contents → v.writing ≡ t.writing
    → v.is_writing ≡ true
    → HasFileCause false t.missed v.missed t.proper v.proper (okay {E = Failed} n) → Appending s v bytes (sent + n)
append_more s t v bytes sent n h l a k w g c =
    let within = h.within in
    let step = adds_then s t v (take sent bytes) (take n (take (length bytes - sent) (drop sent bytes))) tt (okay {E = Failed} tt) h.adds
    (adds_some t v _ n a k w g c) in
    let whole : take sent bytes ++ take n (take (length bytes - sent) (drop sent bytes)) ≡ take (sent + n) bytes =
    ap (λ (part : List ℕ). take sent bytes ++ take n part) (take_rest bytes sent) ∙ sym (take-add sent n bytes) in
    record { within = omega (arith, within, l); adds = subst (λ (xs : List ℕ). Adds s v xs (okay {U = Unit {0}} {E = Failed} tt)) whole step }

pub append_cut : (s t v : SeenFiles) (bytes : List ℕ) (sent : ℕ) (e : Failed) → Appending s t bytes sent
    → Appends t v.contents (take (length bytes - sent) (drop sent bytes)) 0 → is_some v.contents ≡ is_some t.contents → v.is_writing ≡ false
    → HasFileCause false t.missed v.missed t.proper v.proper (failing {U = ℕ} e) → Adds s v bytes (failing {U = Unit {0}} e)
append_cut s t v bytes sent e h a k g c =
    let step = adds_then s t v (take sent bytes) (take (length bytes - sent) (drop sent bytes)) tt (failing {U = Unit {0}} e) h.adds
    (adds_nothing t v _ e a k g c) in
    subst (λ (xs : List ℕ). Adds s v xs (failing {U = Unit {0}} e))
    (ap (λ (part : List ℕ). take sent bytes ++ part) (take_rest bytes sent) ∙ take-append-drop sent bytes) step

pub append_done : (s t : SeenFiles) (bytes : List ℕ) (sent : ℕ) (u : Unit {0}) → Appending s t bytes sent → length bytes ≤ sent
    → Adds s t bytes (okay {E = Failed} u)
append_done s t bytes sent u h l = subst (λ (xs : List ℕ). Adds s t xs (okay {U = Unit {0}} {E = Failed} tt)) (take_all sent bytes l) h.adds
