-- Where the operator of a production with two parts is.
use Rattle.std.proofs.Common.{◌≡◌, ◌≢◌, ℕ, ◌≤◌, Bool, true, false, List, [], ◌∷◌, ◌++◌, refl, sym, ◌∙◌, ap, subst, arith}
use Rattle.xpath_tokens.specs.declared.Token.{Token}
use Rattle.xpath_tokens.specs.declared.Token.TheVariants.{Or, And, Compare, Arithmetic, Bar, Slash, SlashSlash, Comma}
use Rattle.xpath_tokens.specs.declared.Operator.TheVariants.{Subtract}
use Rattle.xpath_grammar.specs.Grammar.{Symbol, OrExpr, AndExpr, EqualityExpr, RelationalExpr, AdditiveExpr, MultiplicativeExpr, UnionExpr, RelativeLocationPath, Derives, Phrase, plus, minus, ends, depth_after, depth, ended}
use Rattle.xpath_grammar.specs.Cutting.{OrLevel, AndLevel, EqualityLevel, RelationalLevel, AdditiveLevel, MultiplicativeLevel, UnionLevel, RelativeLevel, ArgumentLevel, rank, Free, IsOther, Cuts}
use Rattle.xpath_grammar.specs.Laws.{IsForm, by_or, by_and, by_equality, by_relational, by_additive, by_multiplicative, by_bar, by_slash, by_slash_slash, by_comma, IsLastOperator, IsSlash, one, two, IsFirstSlash}
use Rattle.xpath_grammar.proofs.Clean.{depth-append, ended-append, rank_equality, rank_relational, rank_additive, rank_multiplicative}
use Rattle.xpath_grammar.proofs.Cut.{parts}

-- the rank of a symbol's operators
abbrev rank_for : Symbol → ℕ
rank_for OrExpr = 1
rank_for AndExpr = 2
rank_for EqualityExpr = 3
rank_for RelationalExpr = 4
rank_for AdditiveExpr = 5
rank_for MultiplicativeExpr = 6
rank_for UnionExpr = 8
rank_for RelativeLocationPath = 9
rank_for _ = 0

cuts_for : {s o : Symbol} {us vs : List Token} {t : Token} {x y : Phrase} → IsForm s t o → Derives s us x → Derives o vs y → Cuts (rank_for s) us t vs
unfolding parts
cuts_for by_or c d = (parts OrLevel Or c d refl refl refl refl (omega arith)).cuts
cuts_for by_and c d = (parts AndLevel And c d refl refl refl refl (omega arith)).cuts
cuts_for (by_equality {how} is) c d = (parts EqualityLevel (Compare how) c d refl refl (rank_equality true is) refl (omega arith)).cuts
cuts_for (by_relational {how} is) c d = (parts RelationalLevel (Compare how) c d refl refl (rank_relational true is) refl (omega arith)).cuts
cuts_for (by_additive {op} is) c d = (parts AdditiveLevel (Arithmetic op) c d refl refl (rank_additive is) refl (omega arith)).cuts
cuts_for (by_multiplicative {op} is) c d = (parts MultiplicativeLevel (Arithmetic op) c d refl refl (rank_multiplicative true is) refl (omega arith)).cuts
cuts_for by_bar c d = (parts UnionLevel Bar c d tt tt refl refl (omega arith)).cuts
cuts_for by_slash c d = (parts RelativeLevel Slash c d tt tt refl refl (omega arith)).cuts
cuts_for by_slash_slash c d = (parts RelativeLevel SlashSlash c d tt tt refl refl (omega arith)).cuts
cuts_for by_comma c d = (parts ArgumentLevel Comma c d refl refl refl refl (omega arith)).cuts

-- an operator that counts has its symbol's rank
rank_counts : {s o : Symbol} {t : Token} (b : Bool) → IsForm s t o → (t ≡ Arithmetic Subtract → b ≡ true) → rank b t ≡ rank_for s
rank_counts b by_or h = refl
rank_counts b by_and h = refl
rank_counts b (by_equality is) h = rank_equality b is
rank_counts b (by_relational is) h = rank_relational b is
rank_counts b (by_additive plus) h = refl
rank_counts b (by_additive minus) h = rw (h refl) refl
rank_counts b (by_multiplicative is) h = rank_multiplicative b is
rank_counts b by_bar h = refl
rank_counts b by_slash h = refl
rank_counts b by_slash_slash h = refl
rank_counts b by_comma h = refl

rank_small : (s : Symbol) → rank_for s ≤ 9
rank_small OrExpr = omega arith
rank_small AndExpr = omega arith
rank_small EqualityExpr = omega arith
rank_small RelationalExpr = omega arith
rank_small AdditiveExpr = omega arith
rank_small MultiplicativeExpr = omega arith
rank_small UnionExpr = omega arith
rank_small RelativeLocationPath = omega arith
rank_small _ = omega arith

counts_by : (b : Bool) (t : Token) (k : ℕ) → k ≤ 9 → rank b t ≡ k → t ≡ Arithmetic Subtract → b ≡ true
counts_by true t k l h e = refl
counts_by false t k l h e = let z : rank false (Arithmetic Subtract) ≡ k = subst (λ x. rank false x ≡ k) e h in absurd (omega (arith, z, l))

-- a token of a list that is free of a rank has another, outside all brackets
free_at : (k d : ℕ) (b : Bool) (ws xs : List Token) (u : Token) → Free k d b (ws ++ u ∷ xs) → depth d ws ≡ 0 → rank (ended b ws) u ≢ k
free_at k d b [] xs u f h = subst (λ x. IsOther k x b u) h f.0
free_at k d b (w ∷ ws) xs u f h = free_at k (depth_after d w) (ends w) ws xs u f.1 h

pub last_of : {s o : Symbol} {us vs : List Token} {t : Token} {x y : Phrase} → IsForm s t o → Derives s us x → Derives o vs y → IsLastOperator s us t vs
last_of {s} {o} {us} {vs} {t} is c d =
    let k = cuts_for is c d in record {
      outside = k.level;
      counts = counts_by (ended false us) t (rank_for s) (rank_small s) k.is;
      last = λ ws xs u e out p count.
          let inner : depth (depth_after 0 t) ws ≡ 0 = ap (λ n. depth (depth_after n t) ws) (sym k.level) ∙ sym (depth-append 0 us (t ∷ ws)) ∙ out in
          let flag : ended false (us ++ t ∷ ws) ≡ ended (ends t) ws = ended-append false us (t ∷ ws) in
          free_at (rank_for s) (depth_after 0 t) (ends t) ws xs u (subst (Free (rank_for s) (depth_after 0 t) (ends t)) e k.later) inner (rank_counts (ended (ends t) ws) p.1 (λ m. sym flag ∙ count m));
    }

pub first_of : (us : List Token) → depth 0 us ≡ 0 → Free 9 0 false us → IsFirstSlash us
first_of us h f = record {
  outside = h;
  first = λ ws xs u e out s. free_at 9 0 false ws xs u (subst (Free 9 0 false) e f) out (slash_rank (ended false ws) s);
}
  where
    slash_rank : (b : Bool) {u : Token} → IsSlash u → rank b u ≡ 9
    slash_rank b one = refl
    slash_rank b two = refl
