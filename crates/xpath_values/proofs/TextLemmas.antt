-- Where a text is cut, from what a search of its bytes finds.
use Rattle.std.proofs.Common.{◌≡◌, ℕ, ◌+◌, ◌<◌, ◌≤◌, Bool, true, false, cond, List, [], ◌∷◌, ◌++◌, Option, Some, None}
use Rattle.std.proofs.Common.{length, take, drop, get_or, refl, sym, ◌∙◌, ap, subst, arith, append_assoc, length-append, length-drop, ◌⊎◌, inl, inr}
use Rattle.std.proofs.lemmas.Bool.{cases_lt}
use Rattle.std.proofs.lemmas.Grind.{same_number_lists}
use Rattle.std.proofs.lemmas.List.{length-take, get_or-take, get_or-drop, get_or_append_left, take-append-drop, drop-drop}
use lib.Utf8.{encodes, scalars}
use denote.Bor.{Bor}
use Rattle.std.specs.Prelude.{nat_eq, MatchOption, IfOk, Result, Ok, Err, is_some}
use Rattle.std.specs.List.{starts_with}
use Rattle.std.specs.Str.{chars, IsUtf8, IsCharBoundary}
use Rattle.std.specs.Str.Pattern.{LacksTextAt}
use Rattle.memchr.specs.Find.{FindsNeedle, OccursAt}
use Rattle.std.proofs.lemmas.Bool.{false_from_ne_true, true≢false, false≢true}
use Rattle.std.proofs.lemmas.Str.{chars-nil, encodes-append, encodes-chars, chars-append, length-le-encodes, IsCharBoundary-at_seam}
use Rattle.std.proofs.lemmas.Str.{IsUtf8-drop, IsUtf8-take, IsCharBoundary-start, scalars-chars}
use Rattle.xml_chars.proofs.TextLemmas.{pointwise-begins, scalars_back}
use Rattle.xml_chars.proofs.HoldLemmas.{encodes_prefix, holds_prefix}
use Rattle.xml_model.specs.Chars.{begins}
use Rattle.xml_chars.proofs.Readers.{begins_split, begins_append}
use Rattle.xpath_values.specs.Texts.{Cut, cut_at, longer}

drop_own : (a b : List ℕ) → drop (length a) (a ++ b) ≡ b
drop_own [] b = refl
drop_own (c ∷ a) b = drop_own a b

-- one of two, and a cut
abbrev choose : Bool → Option Cut → Option Cut → Option Cut
choose b x y = cond b x y

abbrev cut : List ℕ → List ℕ → Option Cut
cut a b = Some (a, b)

-- at its start
cut_here : (piece rest : List ℕ) → cut_at piece (piece ++ rest) ≡ cut [] rest
cut_here [] [] = refl
cut_here [] (c ∷ cs) = refl
cut_here (p ∷ ps) rest =
    ap (λ b. choose b (cut [] (drop (length (p ∷ ps)) ((p ∷ ps) ++ rest))) (longer p (cut_at (p ∷ ps) (ps ++ rest)))) (begins_append (p ∷ ps) rest)
    ∙ ap (λ (l : List ℕ). cut [] l) (drop_own (p ∷ ps) rest)

-- at the first place: the piece is at no place before it
cut_first : (piece a rest : List ℕ)
    → ((u d : List ℕ) → a ≡ u ++ d → 0 < length d → begins piece (d ++ (piece ++ rest)) ≡ false)
    → cut_at piece (a ++ (piece ++ rest)) ≡ cut a rest
cut_first piece [] rest none = cut_here piece rest
cut_first piece (c ∷ a) rest none =
    let more : 0 < length (c ∷ a) = omega arith in
    ap (λ b. choose b (cut [] (drop (length piece) (c ∷ (a ++ (piece ++ rest))))) (longer c (cut_at piece (a ++ (piece ++ rest))))) (none []
    (c ∷ a) refl more)
    ∙ ap (longer c) (cut_first piece a rest (λ u d e h. none (c ∷ u) d (ap (λ (l : List ℕ). c ∷ l) e) h))

-- nowhere
cut_nowhere : (piece t : List ℕ) → ((u v : List ℕ) → t ≡ u ++ v → begins piece v ≡ false) → cut_at piece t ≡ None
cut_nowhere piece [] none = ap (λ b. choose b (cut [] []) None) (none [] [] refl)
cut_nowhere piece (c ∷ t) none =
    ap (λ b. choose b (cut [] (drop (length piece) (c ∷ t))) (longer c (cut_at piece t))) (none [] (c ∷ t) refl)
    ∙ ap (longer c) (cut_nowhere piece t (λ u v e. none (c ∷ u) v (ap (λ (l : List ℕ). c ∷ l) e)))

-- a piece at a place among the characters is at one among the bytes
bytes_there : (s p u v : List ℕ) → IsUtf8 s → IsUtf8 p → chars s ≡ u ++ v → begins (chars p) v ≡ true
    → drop (length (encodes u)) s ≡ p ++ encodes (drop (length (chars p)) v)
bytes_there s p u v f g e b =
    let w = drop (length (chars p)) v in
    let i : s ≡ encodes u ++ encodes v = sym (encodes-chars s f) ∙ ap encodes e ∙ encodes-append u v in
    let j : encodes v ≡ p ++ encodes w =
    ap encodes (begins_split (chars p) v b) ∙ encodes-append (chars p) w
    ∙ ap (λ (l : List ℕ). l ++ encodes w) (encodes-chars p g) in
    ap (λ (l : List ℕ). drop (length (encodes u)) l) i ∙ drop_own (encodes u) (encodes v) ∙ j

place_fits : (s u v : List ℕ) → IsUtf8 s → chars s ≡ u ++ v → length (encodes u) + length (encodes v) ≡ length s
place_fits s u v f e =
    sym (ap (λ (l : List ℕ). length l) (sym (encodes-chars s f) ∙ ap encodes e ∙ encodes-append u v) ∙ length-append (encodes u) (encodes v))

-- a search of bytes that finds nothing
cut_none : (s p : List ℕ) → IsUtf8 s → IsUtf8 p → ((i : ℕ) → i ≤ length s → LacksTextAt p s i) → cut_at (chars p) (chars s) ≡ None
cut_none s p f g none = cut_nowhere (chars p) (chars s) (λ u v e. false_from_ne_true _ (λ b.
    let k = place_fits s u v f e in
    none (length (encodes u)) (omega arith) _ (bytes_there s p u v f g e b)))

-- a search of bytes that finds a place
cut_some : (s p a b : List ℕ) (i : ℕ) → IsUtf8 s → IsUtf8 p → IsUtf8 a → s ≡ a ++ (p ++ b) → length a ≡ i
    → ((k : ℕ) → k < i → LacksTextAt p s k) → cut_at (chars p) (chars s) ≡ Some (chars a, chars b)
cut_some s p a b i f g h e l none =
    let parts : chars s ≡ chars a ++ (chars p ++ chars b) =
    ap chars e ∙ chars-append a (p ++ b) h ∙ ap (λ (x : List ℕ). chars a ++ x) (chars-append p b g) in
    let first : (u d : List ℕ) → chars a ≡ u ++ d → 0 < length d → begins (chars p) (d ++ (chars p ++ chars b)) ≡ false =
    λ u d q m. false_from_ne_true _ (λ t.
    let c : chars s ≡ u ++ (d ++ (chars p ++ chars b)) =
    parts ∙ ap (λ (x : List ℕ). x ++ (chars p ++ chars b)) q ∙ append_assoc u d (chars p ++ chars b) in
    let k : length (encodes u) + length (encodes d) ≡ length a = place_fits a u d h q in
    let n : length d ≤ length (encodes d) = length-le-encodes d in
    none (length (encodes u)) (omega arith) _ (bytes_there s p u (d ++ (chars p ++ chars b)) f g c t)) in
    ap (cut_at (chars p)) parts ∙ cut_first (chars p) (chars a) (chars b) first

-- bytes that stand at a place
seam : (s p : List ℕ) (k : ℕ) → OccursAt s p k → drop k s ≡ p ++ drop (k + length p) s
seam s p k o =
    let n : length (take (length p) (drop k s)) ≡ length p = omega (arith, o.fits, length-take (length p) (drop k s), length-drop k s) in
    let same : take (length p) (drop k s) ≡ p = same_number_lists _ p n (λ j lt.
    get_or-take (length p) (drop k s) j 0 (omega arith) ∙ get_or-drop k s j 0 ∙ o.reads j (omega arith)) in
    sym (take-append-drop (length p) (drop k s))
    ∙ ap (λ (l : List ℕ). l ++ drop (length p) (drop k s)) same
    ∙ ap (λ (l : List ℕ). p ++ l) (drop-drop (length p) k s)

lacks : (s p : List ℕ) (k : ℕ) → k ≤ length s → ¬ OccursAt s p k → LacksTextAt p s k
lacks s p k within never = λ rest e.
    let n : length (drop k s) ≡ length p + length rest = ap (λ (l : List ℕ). length l) e ∙ length-append p rest in
    never (record {
      fits = omega (arith, n, length-drop k s);
      reads = λ j lt. sym (get_or-drop k s j 0) ∙ ap (λ (l : List ℕ). get_or l j 0) e ∙ get_or_append_left p rest 0 j lt;
    })

-- a character begins where a text was found
found_place : (s p : List ℕ) (k : ℕ) → IsUtf8 s → IsUtf8 p → FindsNeedle s p 0 (Some k) → IsCharBoundary s k
found_place s [] k f g h = this (cases_lt 0 k)
  where
    this : (0 < k) ⊎ (k ≤ 0) → IsCharBoundary s k
    this (inl l) = absurd (h.0.before 0 (omega arith) l (record { fits = omega arith; reads = λ j lt. absurd (omega arith) }))
    this (inr l) = let zero : 0 ≡ k = omega arith in subst (λ i. IsCharBoundary s i) zero (IsCharBoundary-start s f)
found_place s (b ∷ p) k f g h =
    let first : get_or s (k + 0) 0 ≡ b = h.1.reads 0 (omega arith) in
    let here : k ≡ k + 0 = omega arith in
    let same : get_or s k 0 ≡ b = ap (λ i. get_or s i 0) here ∙ first in
    (omega (arith, h.1.fits), λ lt wide. omega (arith, same, (IsCharBoundary-start (b ∷ p) g).1 (omega arith) (omega (arith, same))))

-- what follows a text in a text is one
rest_utf8 : (s p rest : List ℕ) → IsUtf8 s → IsUtf8 p → s ≡ p ++ rest → IsUtf8 rest
rest_utf8 s p rest f g e =
    let q = encodes_prefix (chars p) (chars s) rest (encodes-chars s f ∙ e ∙ ap (λ (l : List ℕ). l ++ rest) (sym (encodes-chars p g))) in
    (q.0, (scalars_back (chars p) q.0 (ap scalars (sym q.1) ∙ scalars-chars s f), q.2))

-- where a text is cut
pub record Cuts (s p : List ℕ) (k : ℕ) : Type 0 where
  pub place : IsCharBoundary s k
  pub end : IsCharBoundary (drop k s) (length p)
  pub same : cut_at (chars p) (chars s) ≡ Some (chars (take k s), chars (drop (length p) (drop k s)))

pub needle_cut : (s p : List ℕ) (k : ℕ) → IsUtf8 s → IsUtf8 p → FindsNeedle s p 0 (Some k) → Cuts s p k
needle_cut s p k f g h =
    let place : IsCharBoundary s k = found_place s p k f g h in
    let there : IsUtf8 (drop k s) = IsUtf8-drop s k f place in
    let e : drop k s ≡ p ++ drop (k + length p) s = seam s p k h.1 in
    let after : IsUtf8 (drop (k + length p) s) = rest_utf8 (drop k s) p (drop (k + length p) s) there g e in
    let whole : s ≡ take k s ++ (p ++ drop (k + length p) s) =
    sym (take-append-drop k s) ∙ ap (λ (l : List ℕ). take k s ++ l) e in
    let n : length (take k s) ≡ k = omega (arith, h.1.fits, length-take k s) in
    record {
      place = place;
      end = IsCharBoundary-at_seam (drop k s) p (drop (k + length p) s) e after;
      same =
          cut_some s p (take k s) (drop (k + length p) s) k f g (IsUtf8-take s k f place) whole n
          (λ i lt. lacks s p i (omega (arith, h.1.fits)) (h.0.before i (omega arith) lt))
          ∙ ap (λ (l : List ℕ). cut (chars (take k s)) (chars l)) (sym (drop-drop (length p) k s));
    }

pub no_needle_cut : (s p : List ℕ) → IsUtf8 s → IsUtf8 p → FindsNeedle s p 0 None → cut_at (chars p) (chars s) ≡ None
no_needle_cut s p f g h = cut_none s p f g (λ i within. lacks s p i within (h i (omega arith) (omega arith)))

pub cut_found : (r : Option (Bor (List ℕ) × Bor (List ℕ))) (q t : List ℕ)
    → MatchOption r (cut_at q t ≡ None) (λ x. cut_at q t ≡ Some (chars x.0.now, chars x.1.now)) → is_some r ≡ is_some (cut_at q t)
cut_found None q t h = sym (ap (λ (o : Option Cut). is_some o) h)
cut_found (Some x) q t h = sym (ap (λ (o : Option Cut). is_some o) h)

-- a text begins with another one where its bytes do
pub begins_same : (bs w : List ℕ) → IsUtf8 bs → IsUtf8 w → starts_with nat_eq bs w ≡ begins (chars w) (chars bs)
begins_same bs w u v = this (starts_with nat_eq bs w) (begins (chars w) (chars bs)) refl refl
  where
    this : (x y : Bool) → starts_with nat_eq bs w ≡ x → begins (chars w) (chars bs) ≡ y → x ≡ y
    this true true h k = refl
    this false false h k = refl
    this true false h k =
        let split : bs ≡ w ++ drop (length w) bs = begins_split w bs (sym (pointwise-begins w bs) ∙ h) in
        let coded : encodes (chars bs) ≡ encodes (chars w) ++ drop (length w) bs =
        encodes-chars bs u ∙ split ∙ ap (λ (l : List ℕ). l ++ drop (length w) bs) (sym (encodes-chars w v)) in
        let f = encodes_prefix (chars w) (chars bs) (drop (length w) bs) coded in
        let q : begins (chars w) (chars bs) ≡ true = ap (begins (chars w)) f.1 ∙ begins_append (chars w) f.0 in
        absurd (true≢false (sym q ∙ k))
    this false true h k =
        let b : begins (encodes (chars w)) bs ≡ true =
        holds_prefix bs (chars w) (drop (length (chars w)) (chars bs)) u (begins_split (chars w) (chars bs) k) in
        absurd (false≢true (sym h ∙ pointwise-begins w bs ∙ ap (λ (l : List ℕ). begins l bs) (sym (encodes-chars w v)) ∙ b))

-- the text of no bytes
pub nothing_made : {E : Type 0} (r : Result (List ℕ) E) → IfOk r (λ t. t ≡ chars []) → IfOk r (λ t. t ≡ [])
nothing_made (Ok t) h = h ∙ chars-nil
nothing_made (Err e) h = h
