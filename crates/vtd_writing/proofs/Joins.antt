-- What is joined and added by one call after another.
use Rattle.std.proofs.Common.{◌≡◌, ℕ, ◌+◌, ◌-◌, ◌<◌, ◌^◌, true, List, [], ◌++◌, length, take, drop, Result, Ok, Err, refl, sym, ap, subst, ◌∙◌, arith}
use Rattle.std.proofs.Common.{append_assoc, append-nil}
use Rattle.vtd_outside.specs.declared.Failed.{Failed}
use Rattle.vtd_outside.specs.Known.{SeenFiles}
use Rattle.vtd_outside.specs.Written.{Adds}
use Rattle.vtd_outside.proofs.Adds.{okay, failing, adds_none, adds_then, adds_prefix}
use Rattle.vtd_edits.specs.declared.splice.Splice.{Splice}
use Rattle.vtd_edits.specs.Splices.{start_of, end_of, text_of, splice_at, spliced, AreEdits, Staged}
use Rattle.vtd_edits.specs.Order.{in_order, spliced_by}
use Rattle.vtd_edits.specs.Turns.{IsDone}
use Rattle.vtd_edits.proofs.Turning.{all_done, begin_done, next_done}
use Rattle.vtd_writing.specs.Joins.{Joins, Joining}

-- bytes for which there was room
pub joins_all : (s : SeenFiles) (waiting left bytes : List ℕ) (u : Unit {0}) → s.is_writing ≡ true → left ≡ waiting ++ bytes
    → Joins s s waiting left bytes (okay u)
joins_all s waiting left bytes u w e = ([], adds_none s tt w, e)

-- bytes for which there was room after a flush, one that failed, and bytes for which there was none
pub joins_flushed : (s t : SeenFiles) (waiting empty left bytes : List ℕ) (u x : Unit {0}) → Adds s t waiting (okay {E = Failed} x) → empty ≡ []
    → left ≡ empty ++ bytes → Joins s t waiting left bytes (okay u)
joins_flushed s t waiting empty left bytes u x a n e = (waiting, a, ap (λ (ys : List ℕ). waiting ++ ys) (e ∙ ap (λ (ys : List ℕ). ys ++ bytes) n))

pub joins_failed : (s t : SeenFiles) (waiting left bytes : List ℕ) (e : Failed) → Adds s t waiting (failing {U = Unit {0}} e)
    → Joins s t waiting left bytes (failing e)
joins_failed s t waiting left bytes e a = adds_prefix s t waiting bytes e a

pub joins_past : (s t v : SeenFiles) (waiting empty left bytes : List ℕ) (x : Unit {0}) (r : Result (Unit {0}) Failed) → Adds s t waiting (okay {E = Failed} x)
    → Adds t v bytes r → empty ≡ [] → left ≡ empty → Joins s v waiting left bytes r
joins_past s t v waiting empty left bytes x (Ok y) a b n e = (
  waiting ++ bytes,
  adds_then s t v waiting bytes x (okay {U = Unit {0}} {E = Failed} tt) a b,
  ap (λ (ys : List ℕ). (waiting ++ bytes) ++ ys) (e ∙ n) ∙
      append-nil (waiting ++ bytes),
)
joins_past s t v waiting empty left bytes x (Err y) a b n e = adds_then s t v waiting bytes x (failing {U = Unit {0}} y) a b

-- one after another, and a fault before more
pub joins_then : (s t v : SeenFiles) (waiting mid left xs ys : List ℕ) (u : Unit {0}) (r : Result (Unit {0}) Failed) → Joins s t waiting mid xs (okay u)
    → Joins t v mid left ys r → Joins s v waiting left (xs ++ ys) r
joins_then s t v waiting mid left xs ys u (Ok x) a b = (
  a.0 ++ b.0,
  adds_then s t v a.0 b.0 tt (okay {U = Unit {0}} {E = Failed} tt) a.1 b.1,
  append_assoc a.0 b.0 left ∙ ap (λ (zs : List ℕ). a.0 ++ zs) b.2 ∙ sym (append_assoc a.0 mid ys) ∙ ap (λ (zs : List ℕ). zs ++ ys) a.2 ∙ append_assoc
      waiting xs ys,
)
joins_then s t v waiting mid left xs ys u (Err e) a b =
    subst (λ (zs : List ℕ). Adds s v zs (failing {U = Unit {0}} e))
    (sym (append_assoc a.0 mid ys) ∙ ap (λ (zs : List ℕ). zs ++ ys) a.2 ∙ append_assoc waiting xs ys)
    (adds_then s t v a.0 (mid ++ ys) tt (failing {U = Unit {0}} e) a.1 b)

pub joins_cut : (s t : SeenFiles) (waiting mid left xs ys : List ℕ) (e : Failed) → Joins s t waiting mid xs (failing e)
    → Joins s t waiting left (xs ++ ys) (failing e)
joins_cut s t waiting mid left xs ys e a =
    subst (λ (zs : List ℕ). Adds s t zs (failing {U = Unit {0}} e)) (append_assoc waiting xs ys) (adds_prefix s t (waiting ++ xs) ys e a)

pub joins_writing : (s t : SeenFiles) (waiting left bytes : List ℕ) (u : Unit {0}) → Joins s t waiting left bytes (okay u) → t.is_writing ≡ true
joins_writing s t waiting left bytes u j = j.1.ok

-- The loop over the splices.

pub joining_starts : (s : SeenFiles) (waiting bytes : List ℕ) (edits : Staged) → s.is_writing ≡ true → waiting ≡ [] → AreEdits edits
    → length edits.splices < 2 ^ 32 → length bytes ≡ edits.len
    → Joining s s waiting bytes edits.splices 0 0
joining_starts s waiting bytes edits w e a few l =
    record { out = []; joins = joins_all s [] waiting [] tt w e; is_done = begin_done bytes edits [] a few l refl }

module _ (bytes : List ℕ) (staged : List Splice) (i done end : ℕ) (kept text : List ℕ) (x : Splice) (few : length staged < 2 ^ 32) (below : i < length staged)
    (is : x ≡ splice_at (in_order staged) i) (k : kept ≡ take (start_of x - done) (drop done bytes)) (t : text ≡ text_of x) (e : end ≡ end_of x) where
  turn_done : (out : List ℕ) → IsDone bytes staged i done out → IsDone bytes staged (i + 1) end (out ++ (kept ++ text))
  turn_done out d = next_done bytes staged i done end out kept text (out ++ (kept ++ text)) x few below d is k t e (sym (append_assoc out kept text))

  pub joining_on : (s now v : SeenFiles) (waiting left : List ℕ) (u : Unit {0}) → Joining s now waiting bytes staged i done
      → Joins now v waiting left (kept ++ text) (okay u) → Joining s v left bytes staged (i + 1) end
  joining_on s now v waiting left u j a =
      record {
        out = j.out ++ (kept ++ text);
        joins = joins_then s now v [] waiting left j.out (kept ++ text) tt (okay tt) j.joins a;
        is_done = turn_done j.out
            j.is_done;
      }

  pub joining_cut : (s now v : SeenFiles) (waiting left : List ℕ) (f : Failed) → Joining s now waiting bytes staged i done
      → Joins now v waiting left (kept ++ text) (failing f) → Adds s v (spliced bytes staged) (failing {U = Unit {0}} f)
  joining_cut s now v waiting left f j a =
      let out : List ℕ = j.out ++ (kept ++ text) in
      let d = turn_done j.out j.is_done in
      subst (λ (zs : List ℕ). Adds s v zs (failing {U = Unit {0}} f)) d.made
      (adds_prefix s v out (spliced_by (drop (i + 1) (in_order staged)) end (drop end bytes)) f
      (joins_then s now v [] waiting left j.out (kept ++ text) tt (failing f) j.joins a))

-- the bytes after the last splice
rest_done : (bytes : List ℕ) (staged : List Splice) (i done : ℕ) (out rest : List ℕ) → length staged < 2 ^ 32 → i ≡ length staged
    → IsDone bytes staged i done out → rest ≡ drop done bytes → out ++ rest ≡ spliced bytes staged
rest_done bytes staged i done out rest few e d r =
    ap (λ (zs : List ℕ). out ++ zs) r ∙ all_done bytes staged done out (omega (arith, few)) (subst (λ (n : ℕ). IsDone bytes staged n done out) e d)

pub joining_last_cut : (s now v : SeenFiles) (waiting left rest bytes : List ℕ) (staged : List Splice) (i done : ℕ) (f : Failed) → length staged < 2 ^ 32
    → i ≡ length staged → rest ≡ drop done bytes
    → Joining s now waiting bytes staged i done → Joins now v waiting left rest (failing f) → Adds s v (spliced bytes staged) (failing {U = Unit {0}} f)
joining_last_cut s now v waiting left rest bytes staged i done f few e r j a =
    subst (λ (zs : List ℕ). Adds s v zs (failing {U = Unit {0}} f)) (rest_done bytes staged i done j.out rest few e j.is_done r)
    (joins_then s now v [] waiting left j.out rest tt (failing f) j.joins a)

pub joining_ends : (s now t v : SeenFiles) (waiting left rest bytes : List ℕ) (staged : List Splice) (i done : ℕ) (u : Unit {0}) (r : Result (Unit {0}) Failed)
    → length staged < 2 ^ 32 → i ≡ length staged → rest ≡ drop done bytes
    → Joining s now waiting bytes staged i done → Joins now t waiting left rest (okay u) → Adds t v left r → Adds s v (spliced bytes staged) r
joining_ends s now t v waiting left rest bytes staged i done u r few e d j a b =
    let c = joins_then s now t [] waiting left j.out rest tt (okay tt) j.joins a in
    subst (λ (zs : List ℕ). Adds s v zs r) (c.2 ∙ rest_done bytes staged i done j.out rest few e j.is_done d) (adds_then s t v c.0 left tt r c.1 b)
