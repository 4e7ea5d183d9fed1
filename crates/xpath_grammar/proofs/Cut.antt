-- Where a token list is cut.
use Rattle.std.proofs.Common.{◌≡◌, ◌≢◌, ℕ, zero, suc, ◌<◌, List, [], ◌∷◌, ◌++◌, Bool, true, false, cond, eqb, Option, Some, None, refl, sym, ◌∙◌, ap, subst, arith, ◌⊎◌, inl, inr}
use Rattle.std.proofs.lemmas.Bool.{eq-eqb, eqb-true}
use Rattle.xpath_tokens.specs.declared.Token.{Token}
use Rattle.xpath_tokens.specs.declared.Token.TheVariants.{Comma, Or, And, Compare, Arithmetic, Bar, Slash, SlashSlash}
use Rattle.xpath_grammar.specs.Grammar.{MayFollow, Phrase, Derives, or_one, or_more, and_one, and_more, equality_one, equality_more, relational_one, relational_more, additive_one, additive_more, multiplicative_one, multiplicative_more, union_one, union_more, arguments_one, arguments_more, relative_one, relative_slash, relative_slash_slash, ends, depth_after, depth, ended}
use Rattle.xpath_grammar.specs.Cutting.{rank, IsOther, Free, Level, OrLevel, AndLevel, EqualityLevel, RelationalLevel, AdditiveLevel, MultiplicativeLevel, UnionLevel, RelativeLevel, ArgumentLevel, symbol, operand, rank_of, single, combined, Cuts}
use Rattle.xpath_grammar.proofs.Clean.{Clean, clean, least, rank_equality, rank_relational, rank_additive, rank_multiplicative}

pub data Cut : Type 0 where
  cut : List Token → Token → List Token → Cut

abbrev pub here : ℕ → ℕ → Bool → Token → List Token → Option Cut
here k zero b t ts = cond (eqb (rank b t) k) (Some (cut [] t ts)) None
here k (suc d) b t ts = None

abbrev pub further : Token → Option Cut → Option Cut → Option Cut
further u (Some (cut us t vs)) o = Some (cut (u ∷ us) t vs)
further u None o = o

-- the last cut of a list at a rank
abbrev pub last_cut : ℕ → ℕ → Bool → List Token → Option Cut
last_cut k d b [] = None
last_cut k d b (t ∷ ts) = further t (last_cut k (depth_after d t) (ends t) ts) (here k d b t ts)

cond_other : (m k : ℕ) (c : Option Cut) → m ≢ k → cond (eqb m k) c None ≡ None
cond_other m k c ne = go (eqb m k) refl
  where
    go : (b : Bool) → eqb m k ≡ b → cond b c None ≡ None
    go true e = absurd (ne (eqb-true m k e))
    go false e = refl

pub here_none : (k d : ℕ) (b : Bool) (t : Token) (ts : List Token) → IsOther k d b t → here k d b t ts ≡ None
here_none k zero b t ts ne = cond_other (rank b t) k (Some (cut [] t ts)) ne
here_none k (suc d) b t ts ne = refl

pub last_none : (k d : ℕ) (b : Bool) (ts : List Token) → Free k d b ts → last_cut k d b ts ≡ None
last_none k d b [] f = refl
last_none k d b (t ∷ ts) f = ap (λ o. further t o (here k d b t ts)) (last_none k (depth_after d t) (ends t) ts f.1) ∙ here_none k d b t ts f.0

pub last_at : (k d : ℕ) (b : Bool) (us : List Token) (t : Token) (vs : List Token) → depth d us ≡ 0 → rank (ended b us) t ≡ k → Free k (depth_after 0 t) (ends t) vs → last_cut k d b (us ++ t ∷ vs) ≡ Some (cut us t vs)
last_at k zero b [] t vs e r f =
    ap (λ o. further t o (here k 0 b t vs)) (last_none k (depth_after 0 t) (ends t) vs f) ∙ ap (λ x. cond x (Some (cut [] t vs)) None) (eq-eqb (rank b t) k r)
last_at k (suc d) b [] t vs e r f = absurd (omega arith)
last_at k d b (u ∷ us) t vs e r f = ap (λ o. further u o (here k d b u (us ++ t ∷ vs))) (last_at k (depth_after d u) (ends u) us t vs e r f)

pub last_cuts : {k : ℕ} {us vs : List Token} {t : Token} → Cuts k us t vs → last_cut k 0 false (us ++ t ∷ vs) ≡ Some (cut us t vs)
last_cuts {k} {us} {vs} {t} c = last_at k 0 false us t vs c.level c.is c.later

-- a phrase of two parts
pub record Parts (l : Level) (ts : List Token) (e : Phrase) : Type 0 where
  pub prefix : List Token
  pub token : Token
  pub rest : List Token
  pub one : Phrase
  pub other : Phrase
  pub left : Derives (symbol l) prefix one
  pub right : Derives (operand l) rest other
  pub whole : ts ≡ prefix ++ token ∷ rest
  pub cuts : Cuts (rank_of l) prefix token rest
  pub value : e ≡ combined token one other

-- a phrase of one part
pub record Alone (l : Level) (ts : List Token) (e : Phrase) : Type 0 where
  pub part : Phrase
  pub derived : Derives (operand l) ts part
  pub value : e ≡ single l part

pub cuts_of : {m n k : ℕ} {us vs : List Token} (t : Token) → Clean m false us → Clean n (ends t) vs → rank true t ≡ k → depth_after 0 t ≡ 0 → k < n → Cuts k us t vs
cuts_of t c d r plain h = record { level = c.level 0; is = rw c.last r; later = rw plain (d.flat _ h) }

unfoldable pub parts : {us vs : List Token} {x y : Phrase} (l : Level) (t : Token) → Derives (symbol l) us x → Derives (operand l) vs y → MayFollow (symbol l) false → MayFollow (operand l) (ends t) → rank true t ≡ rank_of l → depth_after 0 t ≡ 0 → rank_of l < least (operand l) → Parts l (us ++ t ∷ vs) (combined t x y)
parts {us} {vs} {x} {y} l t c d h h' r plain lt = record {
  prefix = us;
  token = t;
  rest = vs;
  one = x;
  other = y;
  left = c;
  right = d;
  whole = refl;
  cuts = cuts_of t (clean c false h) (clean d (ends t) h') r plain lt;
  value = refl;
}

-- the two forms of a level
pub level_cases : (l : Level) {ts : List Token} {e : Phrase} → Derives (symbol l) ts e → Alone l ts e ⊎ Parts l ts e
level_cases OrLevel (or_one d) = inl (record { part = _; derived = d; value = refl })
level_cases OrLevel (or_more c d) = inr (parts OrLevel Or c d refl refl refl refl (omega arith))
level_cases AndLevel (and_one d) = inl (record { part = _; derived = d; value = refl })
level_cases AndLevel (and_more c d) = inr (parts AndLevel And c d refl refl refl refl (omega arith))
level_cases EqualityLevel (equality_one d) = inl (record { part = _; derived = d; value = refl })
level_cases EqualityLevel (equality_more {how} is c d) = inr (parts EqualityLevel (Compare how) c d refl refl (rank_equality true is) refl (omega arith))
level_cases RelationalLevel (relational_one d) = inl (record { part = _; derived = d; value = refl })
level_cases RelationalLevel (relational_more {how} is c d) = inr (parts RelationalLevel (Compare how) c d refl refl (rank_relational true is) refl (omega arith))
level_cases AdditiveLevel (additive_one d) = inl (record { part = _; derived = d; value = refl })
level_cases AdditiveLevel (additive_more {op} is c d) = inr (parts AdditiveLevel (Arithmetic op) c d refl refl (rank_additive is) refl (omega arith))
level_cases MultiplicativeLevel (multiplicative_one d) = inl (record { part = _; derived = d; value = refl })
level_cases MultiplicativeLevel (multiplicative_more {op} is c d) = inr (parts MultiplicativeLevel (Arithmetic op) c d refl refl (rank_multiplicative true is) refl (omega arith))
level_cases UnionLevel (union_one d) = inl (record { part = _; derived = d; value = refl })
level_cases UnionLevel (union_more c d) = inr (parts UnionLevel Bar c d tt tt refl refl (omega arith))
level_cases RelativeLevel (relative_one d) = inl (record { part = _; derived = d; value = refl })
level_cases RelativeLevel (relative_slash c d) = inr (parts RelativeLevel Slash c d tt tt refl refl (omega arith))
level_cases RelativeLevel (relative_slash_slash c d) = inr (parts RelativeLevel SlashSlash c d tt tt refl refl (omega arith))
level_cases ArgumentLevel (arguments_one d) = inl (record { part = _; derived = d; value = refl })
level_cases ArgumentLevel (arguments_more c d) = inr (parts ArgumentLevel Comma c d refl refl refl refl (omega arith))

holds_operand : (l : Level) → MayFollow (operand l) false
holds_operand OrLevel = refl
holds_operand AndLevel = refl
holds_operand EqualityLevel = refl
holds_operand RelationalLevel = refl
holds_operand AdditiveLevel = refl
holds_operand MultiplicativeLevel = refl
holds_operand UnionLevel = tt
holds_operand RelativeLevel = tt
holds_operand ArgumentLevel = refl

rank_below : (l : Level) → rank_of l < least (operand l)
rank_below OrLevel = omega arith
rank_below AndLevel = omega arith
rank_below EqualityLevel = omega arith
rank_below RelationalLevel = omega arith
rank_below AdditiveLevel = omega arith
rank_below MultiplicativeLevel = omega arith
rank_below UnionLevel = omega arith
rank_below RelativeLevel = omega arith
rank_below ArgumentLevel = omega arith

-- where no operator of the level is outside all brackets there is one part
pub no_cut : (l : Level) {ts : List Token} {e : Phrase} → Derives (symbol l) ts e → Free (rank_of l) 0 false ts → Alone l ts e
no_cut l {ts} {e} d f =
    elim (level_cases l d) [
      | inl a ↦ a
      | inr p ↦
          let none = last_none (rank_of l) 0 false ts f in
          let some = last_cuts p.cuts in
          let same = ap (last_cut (rank_of l) 0 false) p.whole in
          absurd (cc (none, some, same))
    ]

-- where a list is cut at the last operator of the level, each phrase of it is cut there
pub record CutAt (l : Level) (us : List Token) (t : Token) (vs : List Token) (e : Phrase) : Type 0 where
  pub one : Phrase
  pub other : Phrase
  pub left : Derives (symbol l) us one
  pub right : Derives (operand l) vs other
  pub value : e ≡ combined t one other

pub at_cut : (l : Level) {us vs : List Token} {t : Token} {e : Phrase} → Derives (symbol l) (us ++ t ∷ vs) e → Cuts (rank_of l) us t vs → CutAt l us t vs e
at_cut l {us} {vs} {t} {e} d c =
    elim (level_cases l d) [
      | inl a ↦
          let none = last_none (rank_of l) 0 false (us ++ t ∷ vs) ((clean a.derived false (holds_operand l)).flat (rank_of l) (rank_below l)) in
          let some = last_cuts c in
          absurd (cc (none, some))
      | inr p ↦
          let mine = last_cuts c in
          let its = last_cuts p.cuts in
          let same = ap (last_cut (rank_of l) 0 false) p.whole in
          let prefix : p.prefix ≡ us = cc (mine, its, same) in
          let token : p.token ≡ t = cc (mine, its, same) in
          let rest : p.rest ≡ vs = cc (mine, its, same) in
          record {
            one = p.one;
            other = p.other;
            left = subst (λ x. Derives (symbol l) x p.one) prefix p.left;
            right = subst (λ x. Derives (operand l) x p.other) rest p.right;
            value = p.value ∙ ap (λ x. combined x p.one p.other) token;
          }
    ]

-- one phrase only, where the parts have one
pub one_alone : (l : Level) {ts : List Token} {x : Phrase} → Derives (operand l) ts x → ((y : Phrase) → Derives (operand l) ts y → x ≡ y) → (f : Phrase) → Derives (symbol l) ts f → single l x ≡ f
one_alone l {ts} {x} d only f g =
    let a = no_cut l g ((clean d false (holds_operand l)).flat (rank_of l) (rank_below l)) in
    ap (single l) (only a.part a.derived) ∙ sym a.value

pub one_cut : (l : Level) {us vs : List Token} {t : Token} {x y : Phrase} → Cuts (rank_of l) us t vs → ((z : Phrase) → Derives (symbol l) us z → x ≡ z) → ((z : Phrase) → Derives (operand l) vs z → y ≡ z) → (f : Phrase) → Derives (symbol l) (us ++ t ∷ vs) f → combined t x y ≡ f
one_cut l {us} {vs} {t} {x} {y} c left right f g =
    let a = at_cut l g c in
    let p = left a.one a.left in
    let q = right a.other a.right in
    ap (λ z. combined t z y) p ∙ ap (combined t a.one) q ∙ sym a.value
