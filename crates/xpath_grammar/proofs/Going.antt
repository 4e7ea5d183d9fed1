-- How a scan goes on by one token.
use Rattle.std.proofs.Common.{◌-◌, ◌≡◌, ℕ, zero, suc, ◌+◌, ◌<◌, ◌≤◌, List, [], ◌∷◌, ◌++◌, length, Bool, false, refl, sym, ◌∙◌, ap, subst, arith, append_assoc, length-append, take, drop, get_or, add-one, drop-cons}
use Rattle.std.proofs.lemmas.List.{take_more, take-append-drop, take-append-le, take_at, append_cancel_right}
use Rattle.xpath_grammar.proofs.Ends.{no_appended, same_last}
use Rattle.xpath_tokens.specs.declared.Token.{Token}
use Rattle.xpath_tokens.specs.declared.Token.TheVariants.{Open, Close, OpenSquare, CloseSquare}
use Rattle.xpath_grammar.specs.Grammar.{ends, depth_after, depth, ended}
use Rattle.xpath_grammar.specs.Cutting.{rank, IsOther, Free, CutsAt, AreCuts, no_more, further_cut, FirstAt}
use Rattle.xpath_grammar.proofs.Clean.{depth-append, ended-append, Free-append}

-- what a scan knows: the brackets open so far, and whether an operand ends there
pub record Scanned (done : List Token) (opened : ℕ) (after : Bool) (i : ℕ) : Type 0 where
  pub level : opened ≡ depth 0 done
  pub flag : after ≡ ended false done
  pub low : opened ≤ i
  pub place : length done ≡ i

after_low : (d : ℕ) (t : Token) {i : ℕ} → d ≤ i → depth_after d t ≤ suc i
after_low d Open h = omega arith
after_low d OpenSquare h = omega arith
after_low zero Close h = omega arith
after_low (suc d) Close h = omega arith
after_low zero CloseSquare h = omega arith
after_low (suc d) CloseSquare h = omega arith
after_low d _ h = omega arith

pub scanned_more : (xs : List Token) (t : Token) {opened i : ℕ} {after : Bool} → Scanned xs opened after i → Scanned (xs ++ t ∷ []) (depth_after opened t) (ends t) (suc i)
scanned_more xs t {opened} {i} s = record {
  level = rw (s.level) (sym (depth-append 0 xs (t ∷ [])));
  flag = sym (ended-append false xs (t ∷ []));
  low = after_low opened t s.low;
  place = length-append xs (t ∷ []) ∙ omega (arith, s.place);
}

pub other : (k : ℕ) (t : Token) (opened : ℕ) (after : Bool) → (opened ≡ 0 → rank after t ≡ k → ⊥) → IsOther k opened after t
other k t zero after h = h refl
other k t (suc d) after h = tt

cut_more : (k : ℕ) (xs : List Token) (t : Token) (i : ℕ) → IsOther k (depth 0 xs) (ended false xs) t → CutsAt k xs i → CutsAt k (xs ++ t ∷ []) i
cut_more k xs t i h f =
    let w = f.whole in
    let d : depth (depth_after 0 f.token) f.rest ≡ depth 0 xs = ap (λ x. depth (depth_after x f.token) f.rest) (sym f.cuts.level) ∙ sym (depth-append 0 f.prefix (f.token ∷ f.rest)) ∙ ap (depth 0) (sym w) in
    let e : ended (ends f.token) f.rest ≡ ended false xs = sym (ended-append false f.prefix (f.token ∷ f.rest)) ∙ ap (ended false) (sym w) in
    record {
      prefix = f.prefix;
      token = f.token;
      rest = f.rest ++ t ∷ [];
      whole = ap (λ x. x ++ t ∷ []) w ∙ append_assoc f.prefix (f.token ∷ f.rest) (t ∷ []);
      place = f.place;
      cuts = record { level = f.cuts.level; is = f.cuts.is; later = Free-append k (depth_after 0 f.token) (ends f.token) f.rest (t ∷ []) f.cuts.later (rw (d, e) (h, tt)) };
    }

cut_within : {k : ℕ} {xs : List Token} {i : ℕ} → CutsAt k xs i → i ≤ length xs
cut_within {k} {xs} {i} c = let n = ap length c.whole ∙ length-append c.prefix (c.token ∷ c.rest) in let p = c.place in omega arith

pub cut_inside : {k : ℕ} {xs : List Token} {i : ℕ} → CutsAt k xs i → i < length xs
cut_inside {k} {xs} {i} c = let n = ap length c.whole ∙ length-append c.prefix (c.token ∷ c.rest) in let p = c.place in omega arith

pub first_inside : {k : ℕ} {xs : List Token} {i : ℕ} → FirstAt k xs i → i < length xs
first_inside {k} {xs} {i} c = let n = ap length c.whole ∙ length-append c.prefix (c.token ∷ c.rest) in let p = c.place in omega arith

-- one more token that is no cut, and one that is
pub cuts_more : {k : ℕ} {xs : List Token} {is : List ℕ} (t : Token) → IsOther k (depth 0 xs) (ended false xs) t → AreCuts k xs is → AreCuts k (xs ++ t ∷ []) is
cuts_more {k} {xs} t h (no_more f) = no_more (Free-append k 0 false xs (t ∷ []) f (h, tt))
cuts_more {k} {xs} t h (further_cut is i c a) = further_cut is i (cut_more k xs t i h c) (subst (λ z. AreCuts k z is) (sym (take-append-le i xs (t ∷ []) (cut_within c))) a)

pub cuts_here : {k : ℕ} {xs : List Token} {is : List ℕ} {opened i : ℕ} {after : Bool} (t : Token) → Scanned xs opened after i → opened ≡ 0 → rank after t ≡ k → AreCuts k xs is → AreCuts k (xs ++ t ∷ []) (is ++ i ∷ [])
cuts_here {k} {xs} {is} {opened} {i} t s z r a =
    further_cut is i
    (record {
      prefix = xs;
      token = t;
      rest = [];
      whole = refl;
      place = s.place;
      cuts = record { level = sym s.level ∙ z; is = rw (← s.flag) r; later = tt };
    })
    (subst (λ z. AreCuts k z is) (sym (take_at xs (t ∷ []) i s.place)) a)

-- the last place of a list of cuts
pub record Popped (k : ℕ) (ts : List Token) (is : List ℕ) (i : ℕ) : Type 0 where
  pub last : CutsAt k ts i
  pub others : AreCuts k (take i ts) is

pub cuts_pop : {k : ℕ} {ts : List Token} {xs : List ℕ} (is : List ℕ) (i : ℕ) → AreCuts k ts xs → xs ≡ is ++ i ∷ [] → Popped k ts is i
cuts_pop is i (no_more f) h = absurd (no_appended is i (sym h))
cuts_pop {k} {ts} is i (further_cut js j c a) h =
    let e : j ≡ i = same_last js is j i h in
    let f : js ≡ is = append_cancel_right js is (i ∷ []) (ap (λ z. js ++ z ∷ []) (sym e) ∙ h) in
    record {
      last = subst (λ z. CutsAt k ts z) e c;
      others = subst (λ z. AreCuts k (take z ts) is) e (subst (λ z. AreCuts k (take j ts) z) f a);
    }

-- a list of which the last was asked for, and there was none
pub popped_none : (n : ℕ) (xs ys : List ℕ) → n ≡ 0 → xs ≡ ys ++ [] → ys ≡ take (n - 1) xs → xs ≡ []
popped_none n xs ys z h k =
    let e : take (n - 1) xs ≡ [] = rw z refl in
    h ∙ ap (λ w. w ++ []) (k ∙ e)

pub cuts_none : {k : ℕ} {ts : List Token} {xs : List ℕ} → AreCuts k ts xs → xs ≡ [] → Free k 0 false ts
cuts_none (no_more f) h = f
cuts_none (further_cut is i c a) h = absurd (no_appended is i h)

-- one more token of a list
pub prefix_more : (ts : List Token) (i : ℕ) (t : Token) → i < length ts → t ≡ get_or ts i t → take (i + 1) ts ≡ take i ts ++ t ∷ []
prefix_more ts i t h e = take_more ts i t h ∙ ap (λ x. take i ts ++ x ∷ []) (sym e)

pub goes_on : (ts : List Token) (i : ℕ) (t : Token) {opened : ℕ} {after : Bool} → i < length ts → t ≡ get_or ts i t → Scanned (take i ts) opened after i → Scanned (take (i + 1) ts) (depth_after opened t) (ends t) (i + 1)
goes_on ts i t h e s = rw (prefix_more ts i t h e, add-one i) (scanned_more (take i ts) t s)

pub is_other : (k : ℕ) (ts : List Token) (t : Token) {opened i : ℕ} {after : Bool} → Scanned ts opened after i → ((opened ≡ 0) × (rank after t ≡ k) → ⊥) → IsOther k (depth 0 ts) (ended false ts) t
is_other k ts t {opened} {i} {after} s h = rw (← s.level, ← s.flag) (other k t opened after (λ a b. h (a, b)))

pub finds : {k : ℕ} (ts : List Token) (i : ℕ) (t : Token) {is : List ℕ} {opened : ℕ} {after : Bool} → i < length ts → t ≡ get_or ts i t → Scanned (take i ts) opened after i → opened ≡ 0 → rank after t ≡ k → AreCuts k (take i ts) is → AreCuts k (take (i + 1) ts) (is ++ i ∷ [])
finds ts i t h e s z r a = rw (prefix_more ts i t h e) (cuts_here t s z r a)

pub keeps : {k : ℕ} (ts : List Token) (i : ℕ) (t : Token) {is : List ℕ} {opened : ℕ} {after : Bool} → i < length ts → t ≡ get_or ts i t → Scanned (take i ts) opened after i → ((opened ≡ 0) × (rank after t ≡ k) → ⊥) → AreCuts k (take i ts) is → AreCuts k (take (i + 1) ts) is
keeps {k} ts i t h e s not a = rw (prefix_more ts i t h e) (cuts_more t (is_other k (take i ts) t s not) a)

pub at_place : (ts : List Token) (i : ℕ) (t : Token) → i < length ts → t ≡ get_or ts i t → ts ≡ take i ts ++ t ∷ drop (i + 1) ts
at_place ts i t h e =
    sym (take-append-drop i ts) ∙ ap (λ x. take i ts ++ x) (drop-cons ts i t h ∙ ap (λ x. x ∷ drop (suc i) ts) (sym e) ∙ ap (λ n. t ∷ drop n ts) (sym (add-one i)))

pub cut_here : (k : ℕ) (ts : List Token) (i : ℕ) (t : Token) {opened : ℕ} {after : Bool} → i < length ts → t ≡ get_or ts i t → Scanned (take i ts) opened after i → opened ≡ 0 → rank after t ≡ k → Free k 0 false (take i ts) → FirstAt k ts i
cut_here k ts i t h e s z r f = record {
  prefix = take i ts;
  token = t;
  rest = drop (i + 1) ts;
  whole = at_place ts i t h e;
  place = s.place;
  level = sym s.level ∙ z;
  is = rw (← s.flag) r;
  before = f;
}
