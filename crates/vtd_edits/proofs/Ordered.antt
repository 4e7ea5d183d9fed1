-- The new bytes, made in one pass over splices in their order on the bytes, are those made place by place.
use Rattle.std.proofs.Common.{◌⊎◌, ◌≡◌, ℕ, zero, suc, ◌+◌, ◌-◌, ◌<◌, ◌≤◌, Bool, true, false, cond, nat_eq, nat_lt, nat_le, not, ◌&&◌, ◌||◌, List, [], ◌∷◌}
use Rattle.std.proofs.Common.{◌++◌, length, take, drop, refl, sym, ap, ap₂, subst, ◌∙◌, arith, append_assoc, length-drop, inl, inr}
use Rattle.std.specs.List.{flat_map, list_any}
use Rattle.std.proofs.lemmas.List.{append-nil, drop-drop}
use Rattle.std.proofs.lemmas.Bool.{cases_eq, cases_order, eq-eqb, ne_eqb, le-ltb, lt-ltb, le-leb, lt-leb, and_left, and_right, and_from, false≢true}
use Rattle.vtd_edits.specs.declared.splice.Splice.{Splice}
use Rattle.vtd_edits.specs.declared.splice.Splice.TheVariants.{Replace, Insert}
use Rattle.vtd_edits.specs.Splices.{inserted, empty_replaced, replaced, covers, texts_at, spliced_from}
use Rattle.vtd_edits.specs.Order.{IsChain, spliced_by}

-- a splice says nothing at a place
record Silent (x : Splice) (place : ℕ) : Type 0 where
  pub no_insert : inserted place x ≡ []
  pub no_empty : empty_replaced place x ≡ []
  pub no_range : replaced place x ≡ []
  pub no_cover : covers place x ≡ false

-- splices say nothing at a place
pub record Quiet (order : List Splice) (place : ℕ) : Type 0 where
  pub no_insert : flat_map (inserted place) order ≡ []
  pub no_empty : flat_map (empty_replaced place) order ≡ []
  pub no_range : flat_map (replaced place) order ≡ []
  pub no_cover : list_any (covers place) order ≡ false

apart_left : (a b : ℕ) → a < b → nat_eq a b ≡ false
apart_left a b l = ne_eqb a b (λ e. omega (arith, l, e))

apart_right : (a b : ℕ) → a < b → nat_eq b a ≡ false
apart_right a b l = ne_eqb b a (λ e. omega (arith, l, e))

silent_insert : (at place : ℕ) (text : List ℕ) → nat_eq at place ≡ false → Silent (Insert at text) place
silent_insert at place text e = record { no_insert = ap (λ (b : Bool). cond b text []) e; no_empty = refl; no_range = refl; no_cover = refl }

silent_range : (start end place : ℕ) (text : List ℕ) → nat_eq start place ≡ false → (nat_le start place && nat_lt place end) ≡ false
    → Silent (Replace start end text) place
silent_range start end place text e c = record {
  no_insert = refl;
  no_empty = ap (λ (b : Bool). cond b text []) (and_left (nat_eq start place) (nat_eq end place) e);
  no_range = ap (λ (b : Bool). cond b text []) (and_left (nat_eq start place) (not (nat_eq end place)) e);
  no_cover = c;
}

join : (x : Splice) (order : List Splice) (place : ℕ) → Silent x place → Quiet order place → Quiet (x ∷ order) place
join x order place s q = record {
  no_insert = ap₂ (λ (a b : List ℕ). a ++ b) s.no_insert q.no_insert;
  no_empty = ap₂ (λ (a b : List ℕ). a ++ b) s.no_empty q.no_empty;
  no_range = ap₂ (λ (a b : List ℕ). a ++ b) s.no_range q.no_range;
  no_cover = ap₂ (λ (a b : Bool). a || b) s.no_cover q.no_cover;
}

-- no splice says anything before the first
pub quiet : (order : List Splice) (low : ℕ) (only : Bool) (len place : ℕ) → IsChain low only len order → place < low → Quiet order place
quiet [] low only len place c l = record { no_insert = refl; no_empty = refl; no_range = refl; no_cover = refl }
quiet (Insert at text ∷ order) low only len place c l =
    let a : low ≤ at = c.0 in
    join (Insert at text) order place (silent_insert at place text (apart_right place at (omega (arith, a, l))))
    (quiet order at false len place c.2 (omega (arith, a, l)))
quiet (Replace start end text ∷ order) low only len place c l =
    let a : low ≤ start = c.0 in
    let b : start ≤ end = c.1 in
    join (Replace start end text) order place (silent_range start end place text (apart_right place start (omega (arith, a, l)))
    (and_left (nat_le start place) (nat_lt place end) (lt-leb start place (omega (arith, a, l)))))
    (quiet order end (nat_eq start end) len place c.3 (omega (arith, a, b, l)))

pub strictly : (a b : ℕ) → a ≤ b → (a ≡ b → ⊥) → a < b
strictly a b l n = elim (cases_order a b) [
  | inl e ↦ absurd (n e)
  | inr o ↦ elim o [ inl m ↦ m | inr m ↦ absurd (omega (arith, l, m)) ]
]

-- after an empty range, at its place
pub record Only (order : List Splice) (place : ℕ) : Type 0 where
  pub no_insert : flat_map (inserted place) order ≡ []
  pub no_empty : flat_map (empty_replaced place) order ≡ []

quiet_only : (order : List Splice) (place : ℕ) → Quiet order place → Only order place
quiet_only order place q = record { no_insert = q.no_insert; no_empty = q.no_empty }

pub only_ranges : (order : List Splice) (place len : ℕ) → IsChain place true len order → Only order place
only_ranges [] place len c = record { no_insert = refl; no_empty = refl }
only_ranges (Insert at text ∷ order) place len c =
    let l : place < at = c.1 refl in
    quiet_only (Insert at text ∷ order) place (join (Insert at text) order place (silent_insert at place text (apart_right place at l))
    (quiet order at false len place c.2 l))
only_ranges (Replace start end text ∷ order) place len c =
    let a : place ≤ start = c.0 in
    let b : start ≤ end = c.1 in
    elim (cases_eq start end) [
      | inl e ↦
          let l : place < start = c.2 refl e in
          quiet_only (Replace start end text ∷ order) place (quiet (Replace start end text ∷ order) start false len place
          (omega arith, c.1, λ f. absurd (false≢true f), c.3) l)
      | inr n ↦
          let m : start < end = strictly start end b n in
          let q = quiet order end (nat_eq start end) len place c.3 (omega (arith, a, m)) in
          record {
            no_insert = q.no_insert;
            no_empty = ap₂ (λ (x y : List ℕ). x ++ y) (ap (λ (t : Bool). cond t text []) (and_false start end place n)) q.no_empty;
          }
    ]
  where
    and_false : (start end place : ℕ) → (start ≡ end → ⊥) → (nat_eq start place && nat_eq end place) ≡ false
    and_false start end place n = elim (cases_eq start place) [
      | inl e ↦ and_right (nat_eq start place) (nat_eq end place) (ne_eqb end place (λ f. n (e ∙ sym f)))
      | inr d ↦ and_left (nat_eq start place) (nat_eq end place) (ne_eqb start place d)
    ]

quiet_texts : (order : List Splice) (place : ℕ) → Quiet order place → texts_at order place ≡ []
quiet_texts order place q = ap₂ (λ (a b : List ℕ). a ++ b) (ap₂ (λ (a b : List ℕ). a ++ b) q.no_insert q.no_empty) q.no_range

quiet_step : (order : List Splice) (place byte : ℕ) (bytes : List ℕ) → Quiet order place
    → spliced_from order place (byte ∷ bytes) ≡ byte ∷ spliced_from order (suc place) bytes
quiet_step order place byte bytes q =
    ap₂ (λ (t : List ℕ) (b : Bool). (t ++ cond b [] (byte ∷ [])) ++ spliced_from order (suc place) bytes) (quiet_texts order place q) q.no_cover

-- the bytes before the first splice stay
advance : (k : ℕ) (order : List Splice) (place to : ℕ) (rest : List ℕ) (low : ℕ) (only : Bool) (len : ℕ) → IsChain low only len order → place + k ≡ to
    → to ≤ low → k ≤ length rest → spliced_from order place rest ≡ take k rest ++ spliced_from order to (drop k rest)
advance zero order place to rest low only len c e l h = ap (λ (p : ℕ). spliced_from order p rest) (omega (arith, e))
advance (suc k) order place to [] low only len c e l h = absurd (omega (arith, h))
advance (suc k) order place to (byte ∷ bytes) low only len c e l h =
    quiet_step order place byte bytes (quiet order low only len place c (omega (arith, e, l)))
    ∙ ap (λ (xs : List ℕ). byte ∷ xs) (advance k order (suc place) to bytes low only len c (omega (arith, e)) l (omega (arith, h)))

silent_texts : (x : Splice) (order : List Splice) (place : ℕ) → Silent x place → texts_at (x ∷ order) place ≡ texts_at order place
silent_texts x order place s =
    ap₂ (λ (a b : List ℕ). a ++ b)
    (ap₂ (λ (a b : List ℕ). a ++ b) (ap (λ (a : List ℕ). a ++ flat_map (inserted place) order) s.no_insert)
    (ap (λ (a : List ℕ). a ++ flat_map (empty_replaced place) order) s.no_empty))
    (ap (λ (a : List ℕ). a ++ flat_map (replaced place) order) s.no_range)

-- a splice that says nothing more
past : (x : Splice) (order : List Splice) (place : ℕ) (rest : List ℕ) → ((q : ℕ) → place ≤ q → Silent x q)
    → spliced_from (x ∷ order) place rest ≡ spliced_from order place rest
past x order place [] h = silent_texts x order place (h place (omega arith))
past x order place (byte ∷ bytes) h =
    let s = h place (omega arith) in
    ap₂ (λ (t : List ℕ) (b : Bool). (t ++ cond (b || list_any (covers place) order) [] (byte ∷ [])) ++ spliced_from (x ∷ order) (suc place) bytes)
    (silent_texts x order place s) s.no_cover
    ∙ ap (λ (r : List ℕ). (texts_at order place ++ cond (list_any (covers place) order) [] (byte ∷ [])) ++ r)
    (past x order (suc place) bytes (λ q l. h q (omega (arith, l))))

-- an insertion at this place
insert_texts : (at : ℕ) (text : List ℕ) (order : List Splice) → texts_at (Insert at text ∷ order) at ≡ text ++ texts_at order at
insert_texts at text order =
    let i : List ℕ = flat_map (inserted at) order in
    let e : List ℕ = flat_map (empty_replaced at) order in
    let r : List ℕ = flat_map (replaced at) order in
    ap (λ (b : Bool). ((cond b text [] ++ i) ++ e) ++ r) (eq-eqb at at refl) ∙ ap (λ (xs : List ℕ). xs ++ r) (append_assoc text i e)
    ∙ append_assoc text (i ++ e) r

put_insert : (at : ℕ) (text : List ℕ) (order : List Splice) (rest : List ℕ) → spliced_from (Insert at text ∷ order) at rest ≡ text ++ spliced_from order at rest
put_insert at text order [] = insert_texts at text order
put_insert at text order (byte ∷ bytes) =
    let b : List ℕ = cond (list_any (covers at) order) [] (byte ∷ []) in
    ap₂ (λ (t r : List ℕ). (t ++ b) ++ r) (insert_texts at text order) (past (Insert at text) order (suc at) bytes
    (λ q l. silent_insert at q text (apart_left at q (omega (arith, l)))))
    ∙ ap (λ (xs : List ℕ). xs ++ spliced_from order (suc at) bytes) (append_assoc text (texts_at order at) b)
    ∙ append_assoc text (texts_at order at ++ b) (spliced_from order (suc at) bytes)

-- an empty range at this place
empty_texts : (at : ℕ) (text : List ℕ) (order : List Splice) → Only order at → texts_at (Replace at at text ∷ order) at ≡ text ++ texts_at order at
empty_texts at text order o =
    let r : List ℕ = flat_map (replaced at) order in
    let same : nat_eq at at ≡ true = eq-eqb at at refl in
    ap₂ (λ (i : List ℕ) (e : List ℕ). (i ++ (cond (nat_eq at at && nat_eq at at) text [] ++ e)) ++ (cond (nat_eq at at && not (nat_eq at at)) text [] ++ r))
    o.no_insert o.no_empty
    ∙ ap (λ (b : Bool). (cond (b && b) text [] ++ []) ++ (cond (b && not b) text [] ++ r)) same
    ∙ ap (λ (xs : List ℕ). xs ++ r) (append-nil text)
    ∙ ap₂ (λ (i e : List ℕ). text ++ ((i ++ e) ++ r)) (sym o.no_insert) (sym o.no_empty)

empty_silent : (at q : ℕ) (text : List ℕ) → suc at ≤ q → Silent (Replace at at text) q
empty_silent at q text l = silent_range at at q text (apart_left at q (omega (arith, l)))
    (and_right (nat_le at q) (nat_lt q at) (le-ltb q at (omega (arith, l))))

put_empty : (at : ℕ) (text : List ℕ) (order : List Splice) (rest : List ℕ) → Only order at
    → spliced_from (Replace at at text ∷ order) at rest ≡ text ++ spliced_from order at rest
put_empty at text order [] o = empty_texts at text order o
put_empty at text order (byte ∷ bytes) o =
    let b : List ℕ = cond (list_any (covers at) order) [] (byte ∷ []) in
    ap (λ (c : Bool). (texts_at (Replace at at text ∷ order) at ++ cond (c || list_any (covers at) order) [] (byte ∷ [])) ++ spliced_from
    (Replace at at text ∷ order) (suc at) bytes) (and_right (nat_le at at) (nat_lt at at) (le-ltb at at (omega arith)))
    ∙ ap₂ (λ (t r : List ℕ). (t ++ b) ++ r) (empty_texts at text order o) (past (Replace at at text) order (suc at) bytes (λ q l. empty_silent at q text l))
    ∙ ap (λ (xs : List ℕ). xs ++ spliced_from order (suc at) bytes) (append_assoc text (texts_at order at) b)
    ∙ append_assoc text (texts_at order at ++ b) (spliced_from order (suc at) bytes)

-- a range that covers bytes
range_covers : (start end place : ℕ) → start ≤ place → place < end → (nat_le start place && nat_lt place end) ≡ true
range_covers start end place a b = and_from (nat_le start place) (nat_lt place end) (le-leb start place a) (lt-ltb place end b)

range_texts : (start end : ℕ) (text : List ℕ) (order : List Splice) → start < end → Quiet order start → texts_at (Replace start end text ∷ order) start ≡ text
range_texts start end text order l q =
    let same : nat_eq start start ≡ true = eq-eqb start start refl in
    let other : nat_eq end start ≡ false = apart_right start end l in
    ap₂ (λ (i e : List ℕ). (i ++ (cond (nat_eq start start && nat_eq end start) text [] ++ e)) ++ (cond (nat_eq start start && not (nat_eq end start)) text
    [] ++ flat_map (replaced start) order)) q.no_insert q.no_empty
    ∙ ap₂ (λ (b c : Bool). (cond (b && c) text [] ++ []) ++ (cond (b && not c) text [] ++ flat_map (replaced start) order)) same other
    ∙ ap (λ (r : List ℕ). text ++ r) q.no_range
    ∙ append-nil text

covered : (k start end place : ℕ) (text : List ℕ) (order : List Splice) (only : Bool) (len : ℕ) (rest : List ℕ) → place + k ≡ end → start < place
    → IsChain end only len order → k ≤ length rest
    → spliced_from (Replace start end text ∷ order) place rest ≡ spliced_from (Replace start end text ∷ order) end (drop k rest)
covered zero start end place text order only len rest e l c h = ap (λ (p : ℕ). spliced_from (Replace start end text ∷ order) p rest) (omega (arith, e))
covered (suc k) start end place text order only len [] e l c h = absurd (omega (arith, h))
covered (suc k) start end place text order only len (byte ∷ bytes) e l c h =
    let x : Splice = Replace start end text in
    let none : nat_eq start place ≡ false = apart_left start place l in
    let q = quiet order end only len place c (omega (arith, e)) in
    let t : texts_at (x ∷ order) place ≡ [] =
    ap₂ (λ (a b : List ℕ). a ++ b)
    (ap₂ (λ (a b : List ℕ). a ++ b) q.no_insert (ap₂ (λ (a b : List ℕ). a ++ b)
    (ap (λ (b : Bool). cond b text []) (and_left (nat_eq start place) (nat_eq end place) none)) q.no_empty))
    (ap₂ (λ (a b : List ℕ). a ++ b) (ap (λ (b : Bool). cond b text []) (and_left (nat_eq start place) (not (nat_eq end place)) none)) q.no_range) in
    ap₂ (λ (t : List ℕ) (b : Bool). (t ++ cond (b || list_any (covers place) order) [] (byte ∷ [])) ++ spliced_from (x ∷ order) (suc place) bytes) t
    (range_covers start end place (omega (arith, l)) (omega (arith, e)))
    ∙ covered k start end (suc place) text order only len bytes (omega (arith, e)) (omega (arith, l)) c (omega (arith, h))

put_range : (start end k : ℕ) (text : List ℕ) (order : List Splice) (only : Bool) (len : ℕ) (rest : List ℕ) → suc (start + k) ≡ end
    → IsChain end only len order → suc k ≤ length rest
    → spliced_from (Replace start end text ∷ order) start rest ≡ text ++ spliced_from order end (drop (suc k) rest)
put_range start end k text order only len [] e c h = absurd (omega (arith, h))
put_range start end k text order only len (byte ∷ bytes) e c h =
    let x : Splice = Replace start end text in
    ap₂ (λ (t : List ℕ) (b : Bool). (t ++ cond (b || list_any (covers start) order) [] (byte ∷ [])) ++ spliced_from (x ∷ order) (suc start) bytes)
    (range_texts start end text order (omega (arith, e)) (quiet order end only len start c (omega (arith, e))))
    (range_covers start end start (omega arith) (omega (arith, e)))
    ∙ ap (λ (t : List ℕ). t ++ spliced_from (x ∷ order) (suc start) bytes) (append-nil text)
    ∙ ap (λ (r : List ℕ). text ++ r) (covered k start end (suc start) text order only len bytes (omega (arith, e)) (omega arith) c (omega (arith, h)))
    ∙ ap (λ (r : List ℕ). text ++ r) (past x order end (drop k bytes) (λ q l. silent_range start end q text (apart_left start q (omega (arith, l, e)))
    (and_right (nat_le start q) (nat_lt q end) (le-ltb q end l))))

chain_end : (order : List Splice) (low : ℕ) (only : Bool) (len : ℕ) → IsChain low only len order → low ≤ len
chain_end [] low only len c = c
chain_end (Insert at text ∷ order) low only len c = (let a : low ≤ at = c.0 in let b = chain_end order at false len c.2 in omega (arith, a, b))
chain_end (Replace start end text ∷ order) low only len c = (let a : low ≤ start = c.0 in let d : start ≤ end = c.1 in let b = chain_end order end
    (nat_eq start end) len c.3 in omega (arith, a, b, d))

none_left : (place : ℕ) (rest : List ℕ) → spliced_from [] place rest ≡ rest
none_left place [] = refl
none_left place (byte ∷ bytes) = ap (λ (xs : List ℕ). byte ∷ xs) (none_left (suc place) bytes)

-- what is left of the length
left_of : (done at len : ℕ) (rest : List ℕ) → done + length rest ≡ len → done ≤ at → at ≤ len → at + length (drop (at - done) rest) ≡ len
left_of done at len rest e l h = (let d = length-drop (at - done) rest in omega (arith, e, l, h, d))

pub one_pass : (order : List Splice) (done : ℕ) (only : Bool) (len : ℕ) (rest : List ℕ) → done + length rest ≡ len → IsChain done only len order
    → spliced_from order done rest ≡ spliced_by order done rest
one_pass [] done only len rest e c = none_left done rest
one_pass (Insert at text ∷ order) done only len rest e c =
    let a : done ≤ at = c.0 in
    let b : at ≤ len = chain_end order at false len c.2 in
    advance (at - done) (Insert at text ∷ order) done at rest at false len (omega arith, λ f. absurd (false≢true f), c.2) (omega (arith, a)) (omega arith)
    (omega (arith, a, b, e))
    ∙ ap (λ (xs : List ℕ). take (at - done) rest ++ xs) (put_insert at text order (drop (at - done) rest))
    ∙ ap (λ (xs : List ℕ). take (at - done) rest ++ (text ++ xs)) (one_pass order at false len (drop (at - done) rest) (left_of done at len rest e a b) c.2)
one_pass (Replace start end text ∷ order) done only len rest e c =
    let a : done ≤ start = c.0 in
    let d : start ≤ end = c.1 in
    let b : end ≤ len = chain_end order end (nat_eq start end) len c.3 in
    let f = left_of done start len rest e a (omega (arith, b, d)) in
    let whole : (start - done) + (end - start) ≡ end - done = omega (arith, a, d) in
    advance (start - done) (Replace start end text ∷ order) done start rest start false len (omega arith, d, λ f. absurd (false≢true f), c.3)
    (omega (arith, a)) (omega arith) (omega (arith, a, b, d, e))
    ∙ ap (λ (xs : List ℕ). take (start - done) rest ++ xs) (at_start (cases_eq start end) f)
    ∙ ap (λ (xs : List ℕ). take (start - done) rest ++ (text ++ spliced_from order end xs))
    (drop-drop (end - start) (start - done) rest ∙ ap (λ (n : ℕ). drop n rest) whole)
    ∙ ap (λ (xs : List ℕ). take (start - done) rest ++ (text ++ xs)) (one_pass order end (nat_eq start end) len (drop (end - done) rest)
    (left_of done end len rest e (omega (arith, a, d)) b) c.3)
  where
    at_start : (start ≡ end) ⊎ (start ≡ end → ⊥) → start + length (drop (start - done) rest) ≡ len
        → spliced_from (Replace start end text ∷ order) start (drop (start - done) rest) ≡ text ++ spliced_from order end
        (drop (end - start) (drop (start - done) rest))
    at_start (inl s) f =
        let rest' : List ℕ = drop (start - done) rest in
        let P : ℕ → Type 0 = λ e. spliced_from (Replace start e text ∷ order) start rest' ≡ text ++ spliced_from order e (drop (e - start) rest') in
        let Q : Bool → Type 0 = λ b. IsChain end b len order in
        let R : ℕ → Type 0 = λ n. IsChain n true len order in
        let zero_left : 0 ≡ start - start = omega arith in
        subst P s (put_empty start text order rest' (only_ranges order start len (subst R (sym s) (subst Q (eq-eqb start end s) c.3)))
        ∙ ap (λ (n : ℕ). text ++ spliced_from order start (drop n rest')) zero_left)
    at_start (inr n) f =
        let rest' : List ℕ = drop (start - done) rest in
        let d : start ≤ end = c.1 in
        let b : end ≤ len = chain_end order end (nat_eq start end) len c.3 in
        let l : start < end = strictly start end d n in
        let g : start + length rest' ≡ len = f in
        let size : suc (end - suc start) ≡ end - start = omega (arith, l) in
        put_range start end (end - suc start) text order (nat_eq start end) len rest' (omega (arith, l)) c.3 (omega (arith, l, b, g))
        ∙ ap (λ (n : ℕ). text ++ spliced_from order end (drop n rest')) size
