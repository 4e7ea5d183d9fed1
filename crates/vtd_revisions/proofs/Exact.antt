-- Undoing and redoing go along one list of moments.
use Rattle.std.proofs.Common.{◌≡◌, ℕ, suc, ◌-◌, List, [], ◌∷◌, ◌++◌, length, drop, reverse, refl, sym, ◌∙◌, ap, ap₂}
use Rattle.std.proofs.Common.{arith, length-append, append_assoc}
use Rattle.std.proofs.lemmas.List.{reverse-append, drop-append-le}
use Rattle.circular_buffer.specs.Buffer.{keep_last}
use Rattle.vtd_edits.specs.declared.splice.Splice.{Splice}
use Rattle.vtd_revisions.specs.Timelines.{Revision, Timeline, now_of, changed, UndoneTo, RedoneTo, reached}

-- the same list with something last
last_same : {X : Type 0} (xs ys : List X) (x y : X) → xs ++ x ∷ [] ≡ ys ++ y ∷ [] → (xs ≡ ys) × (x ≡ y)
last_same [] [] x y e = (refl, cc)
last_same [] (b ∷ []) x y e = absurd (cc)
last_same [] (b ∷ c ∷ ys) x y e = absurd (cc)
last_same (a ∷ []) [] x y e = absurd (cc)
last_same (a ∷ c ∷ xs) [] x y e = absurd (cc)
last_same {X} (a ∷ xs) (b ∷ ys) x y e =
    let head : a ≡ b = cc in
    let rest : xs ++ x ∷ [] ≡ ys ++ y ∷ [] = cc in
    let same = last_same xs ys x y rest in
    (ap₂ (λ (z : X) (zs : List X). z ∷ zs) head same.0, same.1)

same_timeline : (a b : Timeline) → now_of a ≡ now_of b → a.done ≡ b.done → a.undone ≡ b.undone → a ≡ b
same_timeline a b m d u =
    ap (λ (n : Revision). record a { bytes = n.bytes; staged = n.staged }) m
    ∙ ap₂ (λ (xs ys : List Revision). record b { done = xs; undone = ys }) d u

-- one moment is undone to
pub one_undone : (old a b : Timeline) → UndoneTo old a → UndoneTo old b → a ≡ b
one_undone old a b x y =
    let same = last_same a.done b.done (now_of a) (now_of b) (sym x.done ∙ y.done) in
    same_timeline a b same.1 same.0 (x.undone ∙ sym y.undone)

pub one_redone : (old a b : Timeline) → RedoneTo old a → RedoneTo old b → a ≡ b
one_redone old a b x y =
    let same = last_same a.undone b.undone (now_of a) (now_of b) (sym x.undone ∙ y.undone) in
    same_timeline a b same.1 (x.done ∙ sym y.done) same.0

keep_last_more : {X : Type 0} (n : ℕ) (xs : List X) (x : X) → keep_last (suc n) (xs ++ x ∷ []) ≡ drop (length xs - n) xs ++ x ∷ []
keep_last_more n xs x =
    let k : length (xs ++ x ∷ []) - suc n ≡ length xs - n = omega (arith, length-append xs (x ∷ [])) in
    ap (λ m. drop m (xs ++ x ∷ [])) k ∙ drop-append-le (length xs - n) xs (x ∷ []) (omega arith)

-- a change that is undone leads to the moment before it, and redone to the very state behind it
pub undo_of_change : (bytes : List ℕ) (splices : List Splice) (w u : Timeline) → UndoneTo (changed bytes splices w) u
    → now_of u ≡ now_of w
undo_of_change bytes splices w u x =
    let same = last_same (drop (length w.done - 31) w.done) u.done (now_of w) (now_of u)
    (sym (keep_last_more 31 w.done (now_of w)) ∙ x.done) in
    sym same.1

pub redo_of_undo : (w u r : Timeline) → UndoneTo w u → RedoneTo u r → r ≡ w
redo_of_undo w u r x y =
    let same = last_same r.undone w.undone (now_of r) (now_of w) (sym y.undone ∙ x.undone) in
    same_timeline r w same.1 (y.done ∙ sym x.done) same.0

-- undoing keeps the list of all moments, and goes one back in it
pub undone_reached : (old new : Timeline) → UndoneTo old new → reached new ≡ reached old
undone_reached old new x =
    ap (λ (xs : List Revision). new.done ++ now_of new ∷ reverse xs) x.undone
    ∙ ap (λ (xs : List Revision). new.done ++ now_of new ∷ xs) (reverse-append old.undone (now_of old ∷ []))
    ∙ sym (append_assoc new.done (now_of new ∷ []) (now_of old ∷ reverse old.undone))
    ∙ ap (λ (xs : List Revision). xs ++ now_of old ∷ reverse old.undone) (sym x.done)

pub undo_of_redo : (t r u : Timeline) → RedoneTo t r → UndoneTo r u → u ≡ t
undo_of_redo t r u x y =
    let same = last_same u.done t.done (now_of u) (now_of t) (sym y.done ∙ x.done) in
    same_timeline u t same.1 same.0 (y.undone ∙ sym x.undone)

-- a list that is not empty ends in an item
pub ends_in : {X : Type 0} (xs : List X) → (xs ≡ [] → ⊥) → (ys : List X) × (y : X) × (xs ≡ ys ++ y ∷ [])
ends_in [] h = absurd (h refl)
ends_in (x ∷ []) h = ([], x, refl)
ends_in {X} (x ∷ y ∷ xs) h =
    let more = ends_in (y ∷ xs) (λ e. absurd (cc)) in
    (x ∷ more.0, more.1, ap (λ (zs : List X). x ∷ zs) more.2)

pub some_undone : (t : Timeline) → (t.done ≡ [] → ⊥) → (u : Timeline) × UndoneTo t u
some_undone t h =
    let last = ends_in t.done h in
    let u : Timeline = record { bytes = last.1.bytes; staged = last.1.staged; done = last.0; undone = t.undone ++ now_of t ∷ [] } in
    (u, record { done = last.2; undone = refl })

pub some_redone : (t : Timeline) → (t.undone ≡ [] → ⊥) → (r : Timeline) × RedoneTo t r
some_redone t h =
    let last = ends_in t.undone h in
    let r : Timeline = record { bytes = last.1.bytes; staged = last.1.staged; done = t.done ++ now_of t ∷ []; undone = last.0 } in
    (r, record { undone = last.2; done = refl })
