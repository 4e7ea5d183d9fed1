-- What a reader gives is at the start, and what is at the start is given.
use Rattle.std.proofs.Common.{◌≡◌, ℕ, zero, suc, ◌<◌, Bool, true, false, ◌⊎◌, inl, inr, cond, eqb, List, [], ◌∷◌, ◌++◌, length, take, drop, Option, Some, None, refl, sym, ap, subst, ◌∙◌, arith, append_assoc}
use Rattle.std.specs.Prelude.{option_and_then, option_map}
use Rattle.std.specs.List.{prefix_len, list_all, flat_map}
use Rattle.std.proofs.lemmas.List.{take-append-drop, take_at, drop_at, length-append}
use Rattle.std.proofs.lemmas.Bool.{cases_Bool, false≢true, eq-eqb, eqb-true, and_parts, and_from}
use Rattle.xml_model.specs.Chars.{begins}
use Rattle.std.proofs.lemmas.Option.{same_Some, cond_some}
use Rattle.std.proofs.Math.Numerals.{one-add}
use Rattle.xml_chars.specs.Readers.{Reader, both, mapped, kept, run, one_of, many_by, many, skip, word, look_at, choose_by}

pub record IsReader {X : Type 0} (read : Reader X) (spell : X → List ℕ) (Fits : X → List ℕ → Type 0) : Type 0 where
  pub takes : (text : List ℕ) (x : X) (rest : List ℕ) → read text ≡ Some (x, rest) → (text ≡ spell x ++ rest) × Fits x rest
  pub again : (x : X) (rest : List ℕ) → Fits x rest → read (spell x ++ rest) ≡ Some (x, rest)

pub bind_some : {A B : Type 0} (f : A → Option B) (o : Option A) (y : B) → option_and_then f o ≡ Some y → (x : A) × (o ≡ Some x) × (f x ≡ Some y)
bind_some f None y e = absurd cc
bind_some f (Some x) y e = (x, refl, e)

pub map_some : {A B : Type 0} (h : A → B) (o : Option A) (y : B) → option_map h o ≡ Some y → (x : A) × (o ≡ Some x) × (h x ≡ y)
map_some h None y e = absurd cc
map_some h (Some x) y e = (x, refl, cc)

pub chosen : {A : Type 0} (b : Bool) (x y z : A) → cond b x y ≡ z → ((b ≡ true) × (x ≡ z)) ⊎ ((b ≡ false) × (y ≡ z))
chosen true x y z e = inl (refl, e)
chosen false x y z e = inr (refl, e)

-- the same reader by another word for what fits
pub reads_as : {X : Type 0} {read : Reader X} {spell : X → List ℕ} {Fits : X → List ℕ → Type 0} (Other : X → List ℕ → Type 0) → IsReader read spell Fits → ((x : X) (rest : List ℕ) → Fits x rest → Other x rest) → ((x : X) (rest : List ℕ) → Other x rest → Fits x rest) → IsReader read spell Other
reads_as Other r to from = record {
  takes = λ text x rest e. let t = r.takes text x rest e in (t.0, to x rest t.1);
  again = λ x rest h. r.again x rest (from x rest h);
}

-- ---- one thing and then another

abbrev pub spell_both : {X Y : Type 0} → (X → List ℕ) → (X → Y → List ℕ) → X × Y → List ℕ
spell_both s t p = s p.0 ++ t p.0 p.1

abbrev pub FitBoth : {X Y : Type 0} → (X → List ℕ → Type 0) → (X → Y → List ℕ) → (X → Y → List ℕ → Type 0) → X × Y → List ℕ → Type 0
FitBoth F t G p rest = F p.0 (t p.0 p.1 ++ rest) × G p.0 p.1 rest

pub both_reads : {X Y : Type 0} {f : Reader X} {s : X → List ℕ} {F : X → List ℕ → Type 0} {g : X → Reader Y} {t : X → Y → List ℕ} {G : X → Y → List ℕ → Type 0} → IsReader f s F → ((x : X) (r : List ℕ) → F x r → IsReader (g x) (t x) (G x)) → IsReader (both f g) (spell_both s t) (FitBoth F t G)
both_reads {X} {Y} {f} {s} {F} {g} {t} {G} rf rg = record { takes = tk; again = ag }
  where
    tk : (text : List ℕ) (x : X × Y) (rest : List ℕ) → both f g text ≡ Some (x, rest) → (text ≡ spell_both s t x ++ rest) × FitBoth F t G x rest
    tk text x rest e =
        let b = bind_some (λ (p : X × List ℕ). option_and_then (λ (q : Y × List ℕ). Some ((p.0, q.0), q.1)) (g p.0 p.1)) (f text) (x, rest) e in
        let p = b.0 in
        let c = bind_some (λ (q : Y × List ℕ). Some ((p.0, q.0), q.1)) (g p.0 p.1) (x, rest) b.2 in
        let q = c.0 in
        let one = rf.takes text p.0 p.1 b.1 in
        let two = (rg p.0 p.1 one.1).takes p.1 q.0 q.1 c.1 in
        let whole : (text ≡ spell_both s t (p.0, q.0) ++ q.1) × FitBoth F t G (p.0, q.0) q.1 = (
          one.0 ∙ ap (λ (l : List ℕ). s p.0 ++ l) two.0 ∙ sym (append_assoc (s p.0) (t p.0 q.0) q.1),
          (subst (F p.0) two.0 one.1, two.1),
        ) in
        subst (λ (z : (X × Y) × List ℕ). (text ≡ spell_both s t z.0 ++ z.1) × FitBoth F t G z.0 z.1) (same_Some ((p.0, q.0), q.1) (x, rest) c.2) whole

    ag : (x : X × Y) (rest : List ℕ) → FitBoth F t G x rest → both f g (spell_both s t x ++ rest) ≡ Some (x, rest)
    ag x rest h =
        let one : f (spell_both s t x ++ rest) ≡ Some (x.0, t x.0 x.1 ++ rest) = ap f (append_assoc (s x.0) (t x.0 x.1) rest) ∙ rf.again x.0 (t x.0 x.1 ++ rest) h.0 in
        let two = (rg x.0 (t x.0 x.1 ++ rest) h.0).again x.1 rest h.1 in
        ap (option_and_then (λ (p : X × List ℕ). option_and_then (λ (q : Y × List ℕ). Some ((p.0, q.0), q.1)) (g p.0 p.1))) one
        ∙ ap (option_and_then (λ (q : Y × List ℕ). Some ((x.0, q.0), q.1))) two

-- ---- seen by a function

pub mapped_reads : {X Y : Type 0} {f : Reader X} {s : X → List ℕ} {F : X → List ℕ → Type 0} (h : X → Y) (s' : Y → List ℕ) (F' : Y → List ℕ → Type 0) → IsReader f s F → ((x : X) → s' (h x) ≡ s x) → ((x : X) (rest : List ℕ) → F x rest → F' (h x) rest) → ((y : Y) (rest : List ℕ) → F' y rest → (x : X) × (h x ≡ y) × F x rest) → IsReader (mapped h f) s' F'
mapped_reads {X} {Y} {f} {s} {F} h s' F' r spelled there back = record { takes = tk; again = ag }
  where
    tk : (text : List ℕ) (y : Y) (rest : List ℕ) → mapped h f text ≡ Some (y, rest) → (text ≡ s' y ++ rest) × F' y rest
    tk text y rest e =
        let m = map_some (λ (p : X × List ℕ). (h p.0, p.1)) (f text) (y, rest) e in
        let p = m.0 in
        let one = r.takes text p.0 p.1 m.1 in
        let whole : (text ≡ s' (h p.0) ++ p.1) × F' (h p.0) p.1 = (one.0 ∙ ap (λ (l : List ℕ). l ++ p.1) (sym (spelled p.0)), there p.0 p.1 one.1) in
        subst (λ (z : Y × List ℕ). (text ≡ s' z.0 ++ z.1) × F' z.0 z.1) m.2 whole

    ag : (y : Y) (rest : List ℕ) → F' y rest → mapped h f (s' y ++ rest) ≡ Some (y, rest)
    ag y rest fits =
        let b = back y rest fits in
        let same : s' y ≡ s b.0 = ap s' (sym b.1) ∙ spelled b.0 in
        let one : f (s' y ++ rest) ≡ Some (b.0, rest) = ap (λ (l : List ℕ). f (l ++ rest)) same ∙ r.again b.0 rest b.2 in
        ap (option_map (λ (p : X × List ℕ). (h p.0, p.1))) one ∙ ap (λ (z : Y). Some (z, rest)) b.1

-- ---- where it passes a test

pub kept_reads : {X : Type 0} (t : X → Bool) (f : Reader X) (s : X → List ℕ) (F : X → List ℕ → Type 0) → IsReader f s F → IsReader (kept t f) s (λ x rest. F x rest × (t x ≡ true))
kept_reads {X} t f s F r = record { takes = tk; again = ag }
  where
    tk : (text : List ℕ) (x : X) (rest : List ℕ) → kept t f text ≡ Some (x, rest) → (text ≡ s x ++ rest) × (F x rest × (t x ≡ true))
    tk text x rest e =
        let b = bind_some (λ (p : X × List ℕ). cond (t p.0) (Some p) None) (f text) (x, rest) e in
        let c = cond_some (t b.0.0) b.0 (x, rest) b.2 in
        let one = r.takes text b.0.0 b.0.1 b.1 in
        let whole : (text ≡ s b.0.0 ++ b.0.1) × (F b.0.0 b.0.1 × (t b.0.0 ≡ true)) = (one.0, (one.1, c.0)) in
        subst (λ (z : X × List ℕ). (text ≡ s z.0 ++ z.1) × (F z.0 z.1 × (t z.0 ≡ true))) c.1 whole

    ag : (x : X) (rest : List ℕ) → F x rest × (t x ≡ true) → kept t f (s x ++ rest) ≡ Some (x, rest)
    ag x rest h = ap (option_and_then (λ (p : X × List ℕ). cond (t p.0) (Some p) None)) (r.again x rest h.0) ∙ rw h.1 refl

-- ---- the longest prefix

abbrev pub StopsBy : (ℕ → Bool) → List ℕ → Type 0
StopsBy p [] = Unit {0}
StopsBy p (x ∷ rest) = p x ≡ false

abbrev pub FitRun : (ℕ → Bool) → List ℕ → List ℕ → Type 0
FitRun p xs rest = (list_all p xs ≡ true) × StopsBy p rest

pub run_takes : (p : ℕ → Bool) (text : List ℕ) → FitRun p (take (prefix_len p text) text) (drop (prefix_len p text) text)
run_takes p [] = (refl, tt)
run_takes p (x ∷ text) = elim (cases_Bool (p x)) [
  | inl t ↦ let so = run_takes p text in rw (t, one-add) (rw t so.0, so.1)
  | inr f ↦ rw f (refl, f)
]

pub run_again : (p : ℕ → Bool) (xs rest : List ℕ) → FitRun p xs rest → prefix_len p (xs ++ rest) ≡ length xs
run_again p [] [] h = refl
run_again p [] (x ∷ rest) h = rw h.1 refl
run_again p (x ∷ xs) rest h = let q = and_parts (p x) (list_all p xs) h.0 in rw (q.0, run_again p xs rest (q.1, h.1), one-add) refl

pub run_reads : (p : ℕ → Bool) → IsReader (run p) (λ xs. xs) (FitRun p)
run_reads p = record { takes = tk; again = ag }
  where
    tk : (text xs rest : List ℕ) → run p text ≡ Some (xs, rest) → (text ≡ xs ++ rest) × FitRun p xs rest
    tk text xs rest e =
        let n = prefix_len p text in
        let whole : (text ≡ take n text ++ drop n text) × FitRun p (take n text) (drop n text) = (sym (take-append-drop n text), run_takes p text) in
        subst (λ (z : List ℕ × List ℕ). (text ≡ z.0 ++ z.1) × FitRun p z.0 z.1) (same_Some (take n text, drop n text) (xs, rest) e) whole

    ag : (xs rest : List ℕ) → FitRun p xs rest → run p (xs ++ rest) ≡ Some (xs, rest)
    ag xs rest h = let n = run_again p xs rest h in rw (n, take_at xs rest (length xs) refl, drop_at xs rest (length xs) refl) refl

-- ---- one character

pub one_of_reads : (p : ℕ → Bool) → IsReader (one_of p) (λ x. x ∷ []) (λ x rest. p x ≡ true)
one_of_reads p = record { takes = tk; again = λ x rest h. rw h refl }
  where
    tk : (text : List ℕ) (x : ℕ) (rest : List ℕ) → one_of p text ≡ Some (x, rest) → (text ≡ (x ∷ []) ++ rest) × (p x ≡ true)
    tk [] x rest e = absurd cc
    tk (y ∷ text) x rest e =
        let c = cond_some (p y) (y, text) (x, rest) e in
        subst (λ (z : ℕ × List ℕ). (y ∷ text ≡ (z.0 ∷ []) ++ z.1) × (p z.0 ≡ true)) c.1 (refl, c.0)

-- ---- one after another

abbrev pub FitMany : {X : Type 0} → (List ℕ → Bool) → (X → List ℕ) → (X → List ℕ → Type 0) → List X → List ℕ → Type 0
FitMany t s F [] rest = t rest ≡ false
FitMany t s F (x ∷ xs) rest = (t (s x ++ (flat_map s xs ++ rest)) ≡ true) × F x (flat_map s xs ++ rest) × FitMany t s F xs rest

many_by_takes : {X : Type 0} (t : List ℕ → Bool) (f : Reader X) (s : X → List ℕ) (F : X → List ℕ → Type 0) → IsReader f s F → (fuel : ℕ) (text : List ℕ) (xs : List X) (rest : List ℕ) → many_by fuel t f text ≡ Some (xs, rest) → (text ≡ flat_map s xs ++ rest) × FitMany t s F xs rest
many_by_takes t f s F r zero text xs rest e = absurd cc
many_by_takes {X} t f s F r (suc fuel) text xs rest e =
    elim (chosen (t text) (option_and_then (λ (p : X × List ℕ). option_and_then (λ (q : List X × List ℕ). Some (p.0 ∷ q.0, q.1)) (many_by fuel t f p.1)) (f text)) (Some ([], text)) (Some (xs, rest)) e) [
      | inl c ↦
          let b = bind_some (λ (p : X × List ℕ). option_and_then (λ (q : List X × List ℕ). Some (p.0 ∷ q.0, q.1)) (many_by fuel t f p.1)) (f text) (xs, rest) c.1 in
          let p = b.0 in
          let d = bind_some (λ (q : List X × List ℕ). Some (p.0 ∷ q.0, q.1)) (many_by fuel t f p.1) (xs, rest) b.2 in
          let q = d.0 in
          let one = r.takes text p.0 p.1 b.1 in
          let so = many_by_takes t f s F r fuel p.1 q.0 q.1 d.1 in
          let whole : (text ≡ flat_map s (p.0 ∷ q.0) ++ q.1) × FitMany t s F (p.0 ∷ q.0) q.1 =
          let parts : text ≡ s p.0 ++ (flat_map s q.0 ++ q.1) = one.0 ∙ ap (λ (l : List ℕ). s p.0 ++ l) so.0 in
          (parts ∙ sym (append_assoc (s p.0) (flat_map s q.0) q.1), (ap t (sym parts) ∙ c.0, subst (F p.0) so.0 one.1, so.1)) in
          subst (λ (z : List X × List ℕ). (text ≡ flat_map s z.0 ++ z.1) × FitMany t s F z.0 z.1) (same_Some (p.0 ∷ q.0, q.1) (xs, rest) d.2) whole
      | inr c ↦ subst (λ (z : List X × List ℕ). (text ≡ flat_map s z.0 ++ z.1) × FitMany t s F z.0 z.1) (same_Some ([], text) (xs, rest) c.1) (refl, c.0)
    ]

many_by_again : {X : Type 0} (t : List ℕ → Bool) (f : Reader X) (s : X → List ℕ) (F : X → List ℕ → Type 0) → IsReader f s F → (fuel : ℕ) (xs : List X) (rest : List ℕ) → length xs < fuel → FitMany t s F xs rest → many_by fuel t f (flat_map s xs ++ rest) ≡ Some (xs, rest)
many_by_again t f s F r zero xs rest lt h = absurd (omega arith)
many_by_again t f s F r (suc fuel) [] rest lt h = rw h refl
many_by_again {X} t f s F r (suc fuel) (x ∷ xs) rest lt h =
    let so = many_by_again t f s F r fuel xs rest (omega arith) h.2 in
    let parts : (s x ++ flat_map s xs) ++ rest ≡ s x ++ (flat_map s xs ++ rest) = append_assoc (s x) (flat_map s xs) rest in
    let one = r.again x (flat_map s xs ++ rest) h.1 in
    ap (many_by (suc fuel) t f) parts
    ∙ rw (h.0, one) (ap (option_and_then (λ (q : List X × List ℕ). Some (x ∷ q.0, q.1))) so)

long_enough : {X : Type 0} (s : X → List ℕ) → ((x : X) → 0 < length (s x)) → (xs : List X) (rest : List ℕ) → length xs < suc (length (flat_map s xs ++ rest))
long_enough s pos [] rest = omega arith
long_enough s pos (x ∷ xs) rest = omega (arith, long_enough s pos xs rest, pos x, length-append (s x) (flat_map s xs), length-append (s x ++ flat_map s xs) rest, length-append (flat_map s xs) rest)

pub many_reads : {X : Type 0} (t : List ℕ → Bool) (f : Reader X) (s : X → List ℕ) (F : X → List ℕ → Type 0) → ((x : X) → 0 < length (s x)) → IsReader f s F → IsReader (many t f) (flat_map s) (FitMany t s F)
many_reads t f s F pos r = record {
  takes = λ text xs rest e. many_by_takes t f s F r (suc (length text)) text xs rest e;
  again = λ xs rest h. many_by_again t f s F r (suc (length (flat_map s xs ++ rest))) xs rest (long_enough s pos xs rest) h;
}

-- fuel beyond the length changes nothing
pub more_fuel : {X : Type 0} (t : List ℕ → Bool) (f : Reader X) (s : X → List ℕ) (F : X → List ℕ → Type 0) → ((x : X) → 0 < length (s x)) → IsReader f s F → (a b : ℕ) (text : List ℕ) → length text < a → length text < b → many_by a t f text ≡ many_by b t f text
more_fuel t f s F pos r zero b text h k = absurd (omega arith)
more_fuel t f s F pos r (suc a) zero text h k = absurd (omega arith)
more_fuel {X} t f s F pos r (suc a) (suc b) text h k =
    ap (λ (o : Option (List X × List ℕ)). cond (t text) o (Some ([], text))) (go (f text) refl (λ c lt. more_fuel t f s F pos r a b c (omega arith) (omega arith)))
  where
    then_many : ℕ → Option (X × List ℕ) → Option (List X × List ℕ)
    then_many fuel o = option_and_then (λ (p : X × List ℕ). option_and_then {U = List X × List ℕ} (λ (q : List X × List ℕ). Some (p.0 ∷ q.0, q.1)) (many_by fuel t f p.1)) o

    go : (o : Option (X × List ℕ)) → f text ≡ o → ((c : List ℕ) → length c < length text → many_by a t f c ≡ many_by b t f c) → then_many a o ≡ then_many b o
    go None e ih = refl
    go (Some p) e ih =
        let one = r.takes text p.0 p.1 e in
        let lt : length p.1 < length text = omega (arith, pos p.0, ap (λ (l : List ℕ). length l) one.0, length-append (s p.0) p.1) in
        ap (option_and_then (λ (q : List X × List ℕ). Some (p.0 ∷ q.0, q.1))) (ih p.1 lt)

-- ---- the rest alone

pub skip_some : {X : Type 0} (f : Reader X) (text rest : List ℕ) → skip f text ≡ Some rest → (x : X) × (f text ≡ Some (x, rest))
skip_some {X} f text rest e =
    let m = map_some (λ (p : X × List ℕ). p.1) (f text) rest e in
    (m.0.0, m.1 ∙ ap (λ (r : List ℕ). Some (m.0.0, r)) m.2)

skip_none_by : {X : Type 0} (o : Option (X × List ℕ)) → option_map (λ (p : X × List ℕ). p.1) o ≡ None → o ≡ None
skip_none_by None e = refl
skip_none_by (Some p) e = absurd cc

pub skip_none : {X : Type 0} (f : Reader X) (text : List ℕ) → skip f text ≡ None → f text ≡ None
skip_none f text e = skip_none_by (f text) e

skip_push : {X : Type 0} (x : X) (o : Option (List X × List ℕ)) → option_map (λ (p : List X × List ℕ). p.1) (option_and_then (λ (q : List X × List ℕ). Some (x ∷ q.0, q.1)) o) ≡ option_map (λ (p : List X × List ℕ). p.1) o
skip_push x None = refl
skip_push x (Some q) = refl

pub many_more : {X : Type 0} (t : List ℕ → Bool) (f : Reader X) (s : X → List ℕ) (F : X → List ℕ → Type 0) → ((x : X) → 0 < length (s x)) → IsReader f s F → (text rest : List ℕ) → t text ≡ true → skip f text ≡ Some rest → (skip (many t f) text ≡ skip (many t f) rest) × (length rest < length text)
many_more {X} t f s F pos r text rest go e =
    let x = skip_some f text rest e in
    let one = r.takes text x.0 rest x.1 in
    let lt : length rest < length text = omega (arith, pos x.0, ap (λ (l : List ℕ). length l) one.0, length-append (s x.0) rest) in
    let step : skip (many t f) text ≡ option_map (λ (p : List X × List ℕ). p.1) (option_and_then {U = List X × List ℕ} (λ (q : List X × List ℕ). Some (x.0 ∷ q.0, q.1)) (many_by (length text) t f rest)) = rw (go, x.1) refl in
    (step ∙ skip_push x.0 (many_by (length text) t f rest) ∙ ap (option_map (λ (p : List X × List ℕ). p.1)) (more_fuel t f s F pos r (length text) (suc (length rest)) rest lt (omega arith)), lt)

pub many_stuck : {X : Type 0} (t : List ℕ → Bool) (f : Reader X) (text : List ℕ) → t text ≡ true → skip f text ≡ None → skip (many t f) text ≡ None
many_stuck t f text go e = rw (go, skip_none f text e) refl

pub many_done : {X : Type 0} (t : List ℕ → Bool) (f : Reader X) (text : List ℕ) → t text ≡ false → skip (many t f) text ≡ Some text
many_done t f text e = rw e refl

-- ---- these characters

pub begins_split : (w text : List ℕ) → begins w text ≡ true → text ≡ w ++ drop (length w) text
begins_split [] text e = refl
begins_split (c ∷ w) [] e = absurd (false≢true e)
begins_split (c ∷ w) (d ∷ text) e =
    let q = and_parts (eqb c d) (begins w text) e in
    let same : c ≡ d = eqb-true c d q.0 in
    rw same (ap (λ (l : List ℕ). d ∷ l) (begins_split w text q.1))

pub begins_append : (w rest : List ℕ) → begins w (w ++ rest) ≡ true
begins_append [] rest = refl
begins_append (c ∷ w) rest = and_from (eqb c c) _ (eq-eqb c c refl) (begins_append w rest)

pub word_reads : (w : List ℕ) → IsReader (word w) (λ _. w) (λ _ _. Unit {0})
word_reads w = record { takes = tk; again = ag }
  where
    tk : (text : List ℕ) (x : Unit {0}) (rest : List ℕ) → word w text ≡ Some (x, rest) → (text ≡ w ++ rest) × Unit {0}
    tk text x rest e =
        let c = cond_some (begins w text) (tt, drop (length w) text) (x, rest) e in
        let tail : drop (length w) text ≡ rest = ap (λ (z : Unit {0} × List ℕ). z.1) c.1 in
        (begins_split w text c.0 ∙ ap (λ (l : List ℕ). w ++ l) tail, tt)

    ag : (x : Unit {0}) (rest : List ℕ) → Unit {0} → word w (w ++ rest) ≡ Some (x, rest)
    ag x rest h = rw (begins_append w rest, drop_at w rest (length w) refl) refl

-- ---- a look that takes nothing

pub look_at_reads : (t : List ℕ → Bool) → IsReader (look_at t) (λ _. []) (λ _ rest. t rest ≡ true)
look_at_reads t = record { takes = tk; again = λ x rest h. rw h refl }
  where
    tk : (text : List ℕ) (x : Unit {0}) (rest : List ℕ) → look_at t text ≡ Some (x, rest) → (text ≡ [] ++ rest) × (t rest ≡ true)
    tk text x rest e =
        let c = cond_some (t text) (tt, text) (x, rest) e in
        let tail : text ≡ rest = ap (λ (z : Unit {0} × List ℕ). z.1) c.1 in
        (tail, ap t (sym tail) ∙ c.0)

-- ---- one of several

pub choose_by_reads : {K X : Type 0} {f : K → Reader X} {s : X → List ℕ} {F : K → X → List ℕ → Type 0} (look : List ℕ → K) → ((k : K) → IsReader (f k) s (F k)) → IsReader (choose_by look f) s (λ x rest. F (look (s x ++ rest)) x rest)
choose_by_reads {f = f} {s = s} {F = F} look r = record {
  takes = λ text x rest e.
      let one = (r (look text)).takes text x rest e in
      (one.0, subst (λ (l : List ℕ). F (look l) x rest) one.0 one.1);
  again = λ x rest h. (r (look (s x ++ rest))).again x rest h;
}
