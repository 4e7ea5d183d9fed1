-- How a text that is split from the left splits, and that it splits in one way.
use Rattle.std.proofs.Common.{◌≡◌, ◌≢◌, ℕ, ◌≤◌, Bool, true, false, cond, ◌&&◌, ◌||◌, ◌==◌, nat_le, List, [], ◌∷◌, ◌++◌, length, take, drop, Option, Some, None, refl, sym, ◌∙◌, ap, subst, arith, append_assoc, ◌⊎◌, inl, inr, length-append}
use Rattle.std.specs.List.{list_all}
use Rattle.std.proofs.lemmas.Bool.{eqb-true, eqb-false, leb-true}
use Rattle.std.proofs.lemmas.List.{take-append-drop, append_cancel_left, append-nil, length-take}
use Rattle.xml_model.specs.Chars.{is_space, is_blank, is_ncname, is_name_start, in_ranges}
use Rattle.xpath_tokens.specs.declared.Token.{Token}
use Rattle.xpath_tokens.specs.Tokens.{IsWord, symbol, name, any_in, literal, number, variable, plain, prefixed, whole, pointed, after_point, are_digits, is_decimal_digit, is_quote, is_symbol, is_single, is_pair, IsLongest, IsToken, Splits, done, next, closes_operand, after_space}
use Rattle.std.proofs.Common.{Result, Err}
use Rattle.std.specs.Result.{IsErrAnd}
use Rattle.std.proofs.lemmas.Result.{err_from_is_err_and}
use Rattle.xpath_tokens.specs.declared.Fault.{Fault}
use Rattle.xpath_tokens.specs.declared.Fault.TheVariants.{Syntax, NoMemory}
use Rattle.xpath_tokens.specs.Words.{is_ncname_start, is_ncname_char, word_length, IsFound}
use Rattle.xpath_tokens.specs.Reading.{token_of}
use Rattle.xpath_tokens.proofs.Runs.{and_parts, or_parts, ncname_cons, ncname_nil}
use Rattle.xpath_tokens.proofs.Reading.{is_read, read_is}
use Rattle.xpath_tokens.proofs.Longest.{longest_word, no_longer}

-- no word begins with white space
between : (a b c : ℕ) → (nat_le a c && nat_le c b) ≡ true → (a ≤ c) × (c ≤ b)
between a b c h = let p = and_parts (nat_le a c) (nat_le c b) h in (leb-true a c p.0, leb-true c b p.1)

space_cases : (c : ℕ) → is_space c ≡ true → (c ≡ 32) ⊎ ((c ≡ 9) ⊎ ((c ≡ 10) ⊎ (c ≡ 13)))
unfolding is_space in_ranges
space_cases c h =
    elim (or_parts (nat_le 32 c && nat_le c 32) ((nat_le 9 c && nat_le c 10) || ((nat_le 13 c && nat_le c 13) || false)) h) [
      | inl p ↦ let b = between 32 32 c p in inl (omega arith)
      | inr q ↦
          elim (or_parts (nat_le 9 c && nat_le c 10) ((nat_le 13 c && nat_le c 13) || false) q) [
            | inl p ↦ nine c (between 9 10 c p)
            | inr r ↦
                elim (or_parts (nat_le 13 c && nat_le c 13) false r) [
                  | inl p ↦ let b = between 13 13 c p in inr (inr (inr (omega arith)))
                  | inr p ↦ absurd cc
                ]
          ]
    ]
  where
    nine : (c : ℕ) → (9 ≤ c) × (c ≤ 10) → (c ≡ 32) ⊎ ((c ≡ 9) ⊎ ((c ≡ 10) ⊎ (c ≡ 13)))
    nine c b = this (c == 9) refl
      where
        this : (x : Bool) → (c == 9) ≡ x → (c ≡ 32) ⊎ ((c ≡ 9) ⊎ ((c ≡ 10) ⊎ (c ≡ 13)))
        this true e = inr (inl (eqb-true c 9 e))
        this false e = let k = eqb-false c 9 e in inr (inr (inl (omega (arith, k))))

no_space : (p : ℕ → Bool) → p 32 ≡ false → p 9 ≡ false → p 10 ≡ false → p 13 ≡ false → (c : ℕ) → p c ≡ true → is_space c ≡ false
no_space p a b d f c h = this (is_space c) refl
  where
    at : (x : ℕ) → p x ≡ false → c ≡ x → ⊥
    at x k e = let y = subst (λ z. p z ≡ true) e h in cc

    this : (x : Bool) → is_space c ≡ x → x ≡ false
    this false e = refl
    this true e = elim (space_cases c e) [ inl k ↦ absurd (at 32 a k) | inr k ↦ elim k [ inl l ↦ absurd (at 9 b l) | inr l ↦ elim l [ inl m ↦ absurd (at 10 d m) | inr m ↦ absurd (at 13 f m) ] ] ]

start_no_space : (c : ℕ) → is_ncname_start c ≡ true → is_space c ≡ false
unfolding is_name_start in_ranges
start_no_space c h = no_space is_ncname_start refl refl refl refl c h

kept : (c : ℕ) (cs : List ℕ) → is_space c ≡ false → after_space (c ∷ cs) ≡ c ∷ cs
kept c cs h = ap (λ b. cond b (after_space cs) (c ∷ cs)) h

ncname_kept : (w vs : List ℕ) → is_ncname w ≡ true → after_space (w ++ vs) ≡ w ++ vs
ncname_kept [] vs h = absurd (ncname_nil h)
ncname_kept (c ∷ cs) vs h = kept c (cs ++ vs) (start_no_space c (and_parts (is_ncname_start c) (list_all is_ncname_char cs) (sym (ncname_cons c cs) ∙ h)).0)

digits_kept : (w vs : List ℕ) → are_digits w ≡ true → after_space (w ++ vs) ≡ w ++ vs
digits_kept [] vs h = absurd cc
digits_kept (c ∷ cs) vs h = kept c (cs ++ vs) (no_space is_decimal_digit refl refl refl refl c (and_parts (is_decimal_digit c) (list_all is_decimal_digit cs) h).0)

dot_kept : (vs : List ℕ) → after_space (46 ∷ vs) ≡ 46 ∷ vs
dot_kept vs = kept 46 vs (no_space (λ c. c == 46) refl refl refl refl 46 refl)

symbol_kept : (w vs : List ℕ) → is_symbol w ≡ true → after_space (w ++ vs) ≡ w ++ vs
symbol_kept [] vs h = absurd cc
symbol_kept (c ∷ []) vs h = kept c vs (no_space is_single refl refl refl refl c h)
symbol_kept (c ∷ d ∷ []) vs h = kept c (d ∷ vs) (no_space (λ x. is_pair x d) refl refl refl refl c h)
symbol_kept (c ∷ d ∷ e ∷ w) vs h = absurd cc

word_kept : {w : List ℕ} (vs : List ℕ) → IsWord w → after_space (w ++ vs) ≡ w ++ vs
word_kept {w} vs (symbol h) = symbol_kept w vs h
word_kept {w} vs (name (plain h)) = ncname_kept w vs h
word_kept vs (name (prefixed p n h k)) = ap after_space (append_assoc p (58 ∷ n) vs) ∙ ncname_kept p (58 ∷ (n ++ vs)) h ∙ sym (append_assoc p (58 ∷ n) vs)
word_kept vs (any_in p h) = ap after_space (append_assoc p (58 ∷ 42 ∷ []) vs) ∙ ncname_kept p (58 ∷ 42 ∷ vs) h ∙ sym (append_assoc p (58 ∷ 42 ∷ []) vs)
word_kept vs (literal q t h k) = kept q ((t ++ q ∷ []) ++ vs) (no_space is_quote refl refl refl refl q h)
word_kept {w} vs (number (whole h)) = digits_kept w vs h
word_kept vs (number (pointed ds es h k)) = ap after_space (append_assoc ds (46 ∷ es) vs) ∙ digits_kept ds (46 ∷ (es ++ vs)) h ∙ sym (append_assoc ds (46 ∷ es) vs)
word_kept vs (number (after_point {es} h)) = dot_kept (es ++ vs)
word_kept vs (variable {w} q) = kept 36 (w ++ vs) (no_space (λ c. c == 36) refl refl refl refl 36 refl)

word_some : {w : List ℕ} → IsWord w → w ≢ []
word_some (symbol {w} h) e = let k = ap is_symbol e in cc
word_some (name (plain h)) e = ncname_nil (subst (λ x. is_ncname x ≡ true) e h)
word_some (name (prefixed p n h k)) e = let l = ap length e ∙ refl in let m = length-append p (58 ∷ n) in omega (arith, l, m)
word_some (any_in p h) e = let l = ap length e ∙ refl in let m = length-append p (58 ∷ 42 ∷ []) in omega (arith, l, m)
word_some (literal q t h k) e = cc
word_some (number (whole h)) e = let k = ap are_digits e in cc
word_some (number (pointed ds es h k)) e = let l = ap length e ∙ refl in let m = length-append ds (46 ∷ es) in omega (arith, l, m)
word_some (number (after_point h)) e = cc
word_some (variable q) e = cc

-- white space before a text
blank_nil : is_blank [] ≡ true
unfolding is_blank
blank_nil = refl

blank_none : (cs : List ℕ) → is_blank cs ≡ true → after_space cs ≡ []
unfolding is_blank
blank_none [] h = refl
blank_none (c ∷ cs) h = let p = and_parts (is_space c) (list_all is_space cs) h in rw (p.0) (blank_none cs p.1)

blank_skip : (space cs : List ℕ) → is_blank space ≡ true → after_space cs ≡ cs → after_space (space ++ cs) ≡ cs
unfolding is_blank
blank_skip [] cs h k = k
blank_skip (c ∷ space) cs h k = let p = and_parts (is_space c) (list_all is_space space) h in rw (p.0) (blank_skip space cs p.1 k)

blank-append : (us vs : List ℕ) → is_blank us ≡ true → is_blank vs ≡ true → is_blank (us ++ vs) ≡ true
unfolding is_blank
blank-append [] vs h k = k
blank-append (u ∷ us) vs h k = let p = and_parts (is_space u) (list_all is_space us) h in rw (p.0) (blank-append us vs p.1 k)

blank_cons : (c : ℕ) (cs : List ℕ) → is_space c ≡ true → is_blank cs ≡ true → is_blank (c ∷ cs) ≡ true
unfolding is_blank
blank_cons c cs h k = rw h k

pub record Blank (cs : List ℕ) : Type 0 where
  pub space : List ℕ
  pub blank : is_blank space ≡ true
  pub whole : cs ≡ space ++ after_space cs

blank_split : (cs : List ℕ) → Blank cs
blank_split [] = record { space = []; blank = blank_nil; whole = refl }
blank_split (c ∷ cs) = this (blank_split cs) (is_space c) refl
  where
    this : Blank cs → (b : Bool) → is_space c ≡ b → Blank (c ∷ cs)
    this i true e = record { space = c ∷ i.space; blank = blank_cons c i.space e i.blank; whole = ap (λ x. c ∷ x) i.whole ∙ ap (λ x. (c ∷ i.space) ++ x) (ap (λ b. cond b (after_space cs) (c ∷ cs)) (sym e)) }
    this i false e = record { space = []; blank = blank_nil; whole = ap (λ b. cond b (after_space cs) (c ∷ cs)) (sym e) }

after_twice : (cs : List ℕ) → after_space (after_space cs) ≡ after_space cs
after_twice [] = refl
after_twice (c ∷ cs) = this (after_twice cs) (is_space c) refl
  where
    this : after_space (after_space cs) ≡ after_space cs → (b : Bool) → is_space c ≡ b → after_space (cond b (after_space cs) (c ∷ cs)) ≡ cond b (after_space cs) (c ∷ cs)
    this i true e = i
    this i false e = kept c cs e

-- what a split is after the white space at the start
pub data Canonical (after : Bool) (cs : List ℕ) : List Token → Type 0 where
  ended : after_space cs ≡ [] → Canonical after cs []
  starts : (w rest : List ℕ) {t : Token} {ts : List Token} → after_space cs ≡ w ++ rest → IsWord w → IsLongest w rest → IsToken after rest w t → Splits (closes_operand t) rest ts → Canonical after cs (t ∷ ts)

pub canonical : {after : Bool} {cs : List ℕ} {ts : List Token} → Splits after cs ts → Canonical after cs ts
canonical {cs = cs} (done h) = ended (blank_none cs h)
canonical (next space w rest blank is longest tok d) = starts w rest (blank_skip space (w ++ rest) blank (word_kept rest is)) is longest tok d

unskip_at : {after : Bool} {cs : List ℕ} {ts : List Token} (before : List ℕ) → is_blank before ≡ true → Splits after cs ts → Splits after (before ++ cs) ts
unskip_at {cs = cs} before b (done h) = done (blank-append before cs b h)
unskip_at {after} before b (next space w rest {t} {ts} blank is longest tok d) =
    subst (λ x. Splits after x (t ∷ ts)) (append_assoc before space (w ++ rest)) (next (before ++ space) w rest (blank-append before space b blank) is longest tok d)

pub unskip : {after : Bool} (cs : List ℕ) {ts : List Token} → Splits after (after_space cs) ts → Splits after cs ts
unskip {after} cs {ts} d = let b = blank_split cs in subst (λ x. Splits after x ts) (sym b.whole) (unskip_at b.space b.blank d)

pub skip : {after : Bool} {cs : List ℕ} {ts : List Token} → Splits after cs ts → Splits after (after_space cs) ts
skip {after} {cs} d = this (canonical d)
  where
    this : {ts : List Token} → Canonical after cs ts → Splits after (after_space cs) ts
    this (ended h) = subst (λ x. Splits after x []) (sym h) (done blank_nil)
    this (starts w rest {t} {ts} e is longest tok d) = subst (λ x. Splits after x (t ∷ ts)) (sym e) (next [] w rest blank_nil is longest tok d)

-- one word by its computed length
none_list : (cs : List ℕ) → length cs ≡ 0 → cs ≡ []
none_list [] h = refl
none_list (c ∷ cs) h = absurd (omega arith)

pub is_longest : (cs : List ℕ) → word_length cs ≤ length cs → IsLongest (take (word_length cs) cs) (drop (word_length cs) cs)
is_longest cs h beyond after e w =
    let n = no_longer after w in
    let s : (take (word_length cs) cs ++ beyond) ++ after ≡ cs = append_assoc (take (word_length cs) cs) beyond after ∙ ap (λ x. take (word_length cs) cs ++ x) (sym e) ∙ take-append-drop (word_length cs) cs in
    let m : length (take (word_length cs) cs ++ beyond) ≤ word_length cs = subst (λ x. length (take (word_length cs) cs ++ beyond) ≤ word_length x) s n in
    let l = length-append (take (word_length cs) cs) beyond in
    let t = length-take (word_length cs) cs in
    none_list beyond (omega (arith, m, l, t, h))

pub word_next : {after : Bool} (cs : List ℕ) {t : Token} {ts : List Token} → word_length cs ≢ 0 → word_length cs ≤ length cs → token_of after (take (word_length cs) cs) (drop (word_length cs) cs) ≡ Some t → Splits (closes_operand t) (drop (word_length cs) cs) ts → Splits after cs (t ∷ ts)
word_next {after} cs {t} {ts} n h tok d =
    subst (λ x. Splits after x (t ∷ ts)) (take-append-drop (word_length cs) cs) (next [] (take (word_length cs) cs) (drop (word_length cs) cs) blank_nil (longest_word cs n) (is_longest cs h) (read_is (longest_word cs n) tok) d)

-- two lists that begin one list: one of them begins the other
first_parts : {A : Type 0} (us vs us' vs' : List A) → us ++ vs ≡ us' ++ vs' → ((more : List A) × (us' ≡ us ++ more)) ⊎ ((more : List A) × (us ≡ us' ++ more))
first_parts [] vs us' vs' h = inl (us', refl)
first_parts (u ∷ us) vs [] vs' h = inr (u ∷ us, refl)
first_parts (u ∷ us) vs (x ∷ us') vs' h =
    let e : u ≡ x = cc in
    let t : us ++ vs ≡ us' ++ vs' = cc in
    elim (first_parts us vs us' vs' t) [
      | inl k ↦ inl (k.0, ap (λ z. x ∷ z) k.1 ∙ ap (λ z. z ∷ (us ++ k.0)) (sym e))
      | inr k ↦ inr (k.0, ap (λ z. u ∷ z) k.1 ∙ ap (λ z. z ∷ (us' ++ k.0)) e)
    ]

pub same_words : (w r w' r' : List ℕ) → IsWord w → IsWord w' → IsLongest w r → IsLongest w' r' → w ++ r ≡ w' ++ r' → w ≡ w'
same_words w r w' r' k k' l l' h =
    elim (first_parts w r w' r' h) [
      | inl p ↦
          let e : r ≡ p.0 ++ r' = append_cancel_left w r (p.0 ++ r') (h ∙ ap (λ z. z ++ r') p.1 ∙ append_assoc w p.0 r') in
          let n = l p.0 r' e (subst IsWord p.1 k') in
          sym (p.1 ∙ ap (λ z. w ++ z) n ∙ append-nil w)
      | inr p ↦
          let e : r' ≡ p.0 ++ r = append_cancel_left w' r' (p.0 ++ r) (sym h ∙ ap (λ z. z ++ r) p.1 ∙ append_assoc w' p.0 r) in
          let n = l' p.0 r e (subst IsWord p.1 k) in
          p.1 ∙ ap (λ z. w' ++ z) n ∙ append-nil w'
    ]

pub same_rests : (w r w' r' : List ℕ) → w ≡ w' → w ++ r ≡ w' ++ r' → r ≡ r'
same_rests w r w' r' e h = append_cancel_left w' r r' (ap (λ z. z ++ r) (sym e) ∙ h)

pub one_split : {after : Bool} {cs : List ℕ} {ts us : List Token} → Splits after cs ts → Splits after cs us → ts ≡ us
one_split {after} {cs} (done h) e = this (canonical e)
  where
    this : {us : List Token} → Canonical after cs us → [] ≡ us
    this (ended k) = refl
    this (starts w rest k is longest tok d) = let z = blank_none cs h in absurd (word_some is (nothing w rest (sym k ∙ z)))
      where
        nothing : (w rest : List ℕ) → w ++ rest ≡ [] → w ≡ []
        nothing [] rest h = refl
        nothing (c ∷ w) rest h = absurd cc
one_split {after} (next space w rest {t} {ts} blank is longest tok d) e = this (λ us f. one_split d f) (canonical e)
  where
    nothing : (w rest : List ℕ) → w ++ rest ≡ [] → w ≡ []
    nothing [] rest h = refl
    nothing (c ∷ w) rest h = absurd cc

    this : ((us : List Token) → Splits (closes_operand t) rest us → ts ≡ us) → {us : List Token} → Canonical after (space ++ (w ++ rest)) us → t ∷ ts ≡ us
    this only (ended k) = absurd (word_some is (nothing w rest (sym (blank_skip space (w ++ rest) blank (word_kept rest is)) ∙ k)))
    this only (starts w' rest' {t = t'} {ts = ts'} k is' longest' tok' d') =
        let h : w ++ rest ≡ w' ++ rest' = sym (blank_skip space (w ++ rest) blank (word_kept rest is)) ∙ k in
        let ew = same_words w rest w' rest' is is' longest longest' h in
        let er = same_rests w rest w' rest' ew h in
        let tok1 = is_read tok in
        let tok2 : token_of after w rest ≡ Some t' = ap (λ x. token_of after x rest) ew ∙ ap (token_of after w') er ∙ is_read tok' in
        let et : t ≡ t' = cc in
        let d2 = subst (λ x. Splits (closes_operand x) rest ts') (sym et) (subst (λ x. Splits (closes_operand t') x ts') (sym er) d') in
        ap (λ x. x ∷ ts) et ∙ ap (λ x. t' ∷ x) (only ts' d2)

-- what a lexer knows that goes from the left
pub record Lexed (text : List ℕ) (found : List Token) (after : Bool) (rest : List ℕ) : Type 0 where
  pub sound : (ts : List Token) → Splits after rest ts → Splits false text (found ++ ts)
  pub only : (us : List Token) → Splits false text us → (ts : List Token) × (us ≡ found ++ ts) × Splits after rest ts
  pub trimmed : after_space rest ≡ rest

pub lexed_begin : (text : List ℕ) → Lexed text [] false (after_space text)
lexed_begin text = record {
  sound = λ ts d. unskip text d;
  only = λ us d. (us, refl, skip d);
  trimmed = after_twice text;
}

-- the first token of what is left
pub record First (after : Bool) (rest : List ℕ) (ts : List Token) : Type 0 where
  pub token : Token
  pub others : List Token
  pub whole : ts ≡ token ∷ others
  pub read : token_of after (take (word_length rest) rest) (drop (word_length rest) rest) ≡ Some token
  pub split : Splits (closes_operand token) (drop (word_length rest) rest) others
  pub some : word_length rest ≢ 0

pub first_token : {after : Bool} {rest : List ℕ} {ts : List Token} → after_space rest ≡ rest → rest ≢ [] → word_length rest ≤ length rest → Splits after rest ts → First after rest ts
first_token {after} {rest} trimmed some within d = this (canonical d)
  where
    this : {ts : List Token} → Canonical after rest ts → First after rest ts
    this (ended h) = absurd (some (sym trimmed ∙ h))
    this (starts w r {t} {ts} e is longest tok d) =
        let h : rest ≡ w ++ r = sym trimmed ∙ e in
        let n = no_longer r is in
        let m : length w ≤ word_length rest = subst (λ x. length w ≤ word_length x) (sym h) n in
        let positive : word_length rest ≢ 0 = λ z. word_some is (none_list w (omega (arith, m, z))) in
        let k : take (word_length rest) rest ++ drop (word_length rest) rest ≡ w ++ r = take-append-drop (word_length rest) rest ∙ h in
        let ew = same_words (take (word_length rest) rest) (drop (word_length rest) rest) w r (longest_word rest positive) is (is_longest rest within) longest k in
        let er = same_rests (take (word_length rest) rest) (drop (word_length rest) rest) w r ew k in
        record {
          token = t;
          others = ts;
          whole = refl;
          read = ap (λ x. token_of after x (drop (word_length rest) rest)) ew ∙ ap (token_of after w) er ∙ is_read tok;
          split = subst (λ x. Splits (closes_operand t) x ts) (sym er) d;
          some = positive;
        }

pub lexed_on : {text : List ℕ} {found : List Token} {after : Bool} {rest : List ℕ} (t : Token) → Lexed text found after rest → rest ≢ [] → word_length rest ≢ 0 → word_length rest ≤ length rest → token_of after (take (word_length rest) rest) (drop (word_length rest) rest) ≡ Some t → Lexed text (found ++ t ∷ []) (closes_operand t) (after_space (drop (word_length rest) rest))
lexed_on {text} {found} {after} {rest} t l some n within tok = record {
  sound = λ ts d. subst (Splits false text) (sym (append_assoc found (t ∷ []) ts)) (l.sound (t ∷ ts) (word_next rest n within tok (unskip (drop (word_length rest) rest) d)));
  only = λ us d.
      let x = l.only us d in
      let f = first_token l.trimmed some within x.2 in
      let r = f.read in
      let e : f.token ≡ t = cc in (
        f.others,
        x.1 ∙ ap (λ z. found ++ z) (f.whole ∙ ap (λ z. z ∷ f.others) e) ∙ sym (append_assoc found (t ∷ []) f.others),
        subst (λ z. Splits (closes_operand z) (after_space (drop (word_length rest) rest)) f.others) e (skip f.split),
      );
  trimmed = after_twice (drop (word_length rest) rest);
}

pub lexed_no_word : {text : List ℕ} {found : List Token} {after : Bool} {rest : List ℕ} → Lexed text found after rest → rest ≢ [] → word_length rest ≡ 0 → (ts : List Token) → Splits false text ts → ⊥
lexed_no_word l some z ts d = let x = l.only ts d in (first_token l.trimmed some (omega arith) x.2).some z

pub lexed_no_token : {text : List ℕ} {found : List Token} {after : Bool} {rest : List ℕ} → Lexed text found after rest → rest ≢ [] → word_length rest ≤ length rest → token_of after (take (word_length rest) rest) (drop (word_length rest) rest) ≡ None → (ts : List Token) → Splits false text ts → ⊥
lexed_no_token l some within no' ts d = let x = l.only ts d in let f = first_token l.trimmed some within x.2 in let r = f.read in cc

pub lexed_end : {text : List ℕ} {found : List Token} {after : Bool} {rest : List ℕ} → Lexed text found after rest → rest ≡ [] → Splits false text found
lexed_end {text} {found} {after} l h = subst (Splits false text) (append-nil found) (l.sound [] (subst (λ x. Splits after x []) (sym h) (done blank_nil)))

pub refused_none : (o : Option Token) (f : Fault) → IsFound o (Err f) → f ≡ Syntax → o ≡ None
refused_none o Syntax h e = h
refused_none o NoMemory h e = absurd cc

pub same_fault : {X : Type 0} (r : Result X Fault) (f : Fault) → IsErrAnd r (λ y. y ≡ f) → r ≡ Err Syntax → f ≡ Syntax
same_fault r f h e = let p = err_from_is_err_and r h in let a = p.1 in let b = p.2 in cc
