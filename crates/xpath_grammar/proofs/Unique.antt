-- A token list derives at most one phrase from a symbol.
use Rattle.std.proofs.Common.{◌≡◌, ℕ, ◌<◌, List, [], ◌∷◌, ◌++◌, true, false, Some, refl, sym, ◌∙◌, ap, subst, arith, inl, inr}
use Rattle.std.proofs.lemmas.List.{append_cancel_right}
use Rattle.xpath_tokens.specs.declared.Token.{Token}
use Rattle.xpath_tokens.specs.declared.Token.TheVariants.{Open, Close, OpenSquare, CloseSquare, Dot, DotDot, Comma, Or, And, Compare, Arithmetic, Bar, Slash, SlashSlash, Function}
use Rattle.xpath_tokens.specs.declared.Operator.TheVariants.{Subtract}
use Rattle.xml_model.specs.declared.Axis.TheVariants as axis
use Rattle.xpath_tokens.specs.declared.StepAxis.{StepAxis}
use Rattle.xpath_tokens.specs.declared.StepAxis.TheVariants.{Known}
use Rattle.xpath_grammar.specs.declared.expr.StepTest.{StepTest}
use Rattle.xpath_grammar.specs.declared.expr.StepTest.TheVariants as test
use Rattle.xpath_grammar.specs.Tree.{Tree, Trees, Walk, negate, path, from, call, none, stop, go}
use Rattle.xpath_grammar.specs.Grammar.{MayFollow, Symbol, OrExpr, UnaryExpr, UnionExpr, PathExpr, FilterExpr, PrimaryExpr, Arguments, LocationPath, RelativeLocationPath, StepPart, Predicates, Predicate, Phrase, expr, exprs, filtered, walk, appended, filter_tree, any_depth, Derives, or_one, or_more, and_one, and_more, equality_one, equality_more, relational_one, relational_more, additive_one, additive_more, multiplicative_one, multiplicative_more, unary_one, unary_minus, union_one, union_more, path_location, path_filter, path_slash, path_slash_slash, filter_one, filter_more, primary_bracket, primary_variable, primary_literal, primary_number, call_none, call_some, arguments_one, arguments_more, location_relative, location_root, location_slash, location_slash_slash, relative_one, relative_slash, relative_slash_slash, step, step_dot, step_dots, IsAxis, IsTest, predicates_none, predicates_more, predicate, ends, depth_after}
use Rattle.xpath_grammar.specs.Cutting.{rank, Level, OrLevel, AndLevel, EqualityLevel, RelationalLevel, AdditiveLevel, MultiplicativeLevel, UnionLevel, RelativeLevel, ArgumentLevel, symbol, operand, rank_of, combined, after_slash}
use Rattle.xpath_grammar.specs.Shape.{starts_primary, first, axis_of, after_axis, test_of, after_test, dot_axis}
use Rattle.xpath_grammar.proofs.Clean.{clean, least, rank_equality, rank_relational, rank_additive, rank_multiplicative}
use Rattle.xpath_grammar.proofs.Cut.{last_none}
use Rattle.xpath_grammar.proofs.Cut.{one_alone, one_cut, parts, last_none}
use Rattle.xpath_grammar.proofs.Forms.{unary_cases, no_minus, unary_minus_cases, starts, first-append, Fromed, first_cut, first_none, PathForm, is_location, is_filter, is_from, slash_cut, path_cases, same_cuts, square_cut, predicate_cases, filter_cases, predicates_cases, primary_open, primary_call, primary_one, primary_text, primary_name, no_arguments, no_relative, location_first, location_second, location_other, StepForm, is_dot, is_dots, is_step, step_cases, axis_read, test_read, no_dots}

abbrev Only : Symbol → List Token → Phrase → Type 0
Only s ts e = (f : Phrase) → Derives s ts f → e ≡ f

one_union : {ts : List Token} {e : Phrase} → Derives UnionExpr ts e → Only UnionExpr ts e → Only UnaryExpr ts e
one_union d only f g = elim (unary_cases g) [ inl u ↦ only f u | inr m ↦ absurd (no_minus d m.rest m.whole) ]

one_minus : (ts : List Token) (a : Tree) → Only UnaryExpr ts (expr a) → Only UnaryExpr (Arithmetic Subtract ∷ ts) (expr (negate a))
one_minus ts a only f g =
    let m = unary_minus_cases g in
    let h = only (expr m.0) m.1 in
    let v = m.2 in
    cc

from_starts : {ts : List Token} {e : Phrase} → Fromed ts e → first starts_primary ts ≡ true
from_starts p = subst (λ x. first starts_primary x ≡ true) (sym p.whole) (first-append starts_primary p.prefix (p.token ∷ p.rest) (starts p.left))

one_location : {ts : List Token} {e : Phrase} → Derives LocationPath ts e → Only LocationPath ts e → Only PathExpr ts e
one_location {ts} {e} d only f g = this (path_cases g)
  where
    this : PathForm ts f → e ≡ f
    this (is_location k) = only f k
    this (is_filter k v) = let x = starts d in let y = starts k in absurd cc
    this (is_from p) = let x = starts d in let y = from_starts p in absurd cc

one_filter : {ts : List Token} {a : Tree} {ps : Trees} → Derives FilterExpr ts (filtered a ps) → Only FilterExpr ts (filtered a ps) → Only PathExpr ts (expr (filter_tree a ps))
one_filter {ts} {a} {ps} d only f g = this (path_cases g)
  where
    this : PathForm ts f → expr (filter_tree a ps) ≡ f
    this (is_location k) = let x = starts d in let y = starts k in absurd cc
    this (is_filter {a = a'} {ps = ps'} k v) = let h = only (filtered a' ps') k in let h' : a ≡ a' = cc in let h'' : ps ≡ ps' = cc in ap (λ x. expr (filter_tree x ps)) h' ∙ ap (λ x. expr (filter_tree a' x)) h'' ∙ sym v
    this (is_from p) =
        let x = first_none 9 0 false ts ((clean d false tt).flat 9 (omega arith)) in
        let y = p.cuts in
        let z = ap (first_cut 9 0 false) p.whole in
        absurd cc

one_from : {us vs : List Token} {a : Tree} {ps : Trees} {w : Walk} (t : Token) → Derives FilterExpr us (filtered a ps) → rank true t ≡ 9 → Only FilterExpr us (filtered a ps) → Only RelativeLocationPath vs (walk w) → Only PathExpr (us ++ t ∷ vs) (expr (from (filter_tree a ps) (after_slash t w)))
one_from {us} {vs} {a} {ps} {w} t d r only only' f g = this (path_cases g)
  where
    this : PathForm (us ++ t ∷ vs) f → expr (from (filter_tree a ps) (after_slash t w)) ≡ f
    this (is_location k) = let x = first-append starts_primary us (t ∷ vs) (starts d) in let y = starts k in absurd cc
    this (is_filter k v) =
        let x = first_none 9 0 false (us ++ t ∷ vs) ((clean k false tt).flat 9 (omega arith)) in
        let y = slash_cut t vs d r in
        absurd cc
    this (is_from p) =
        let x = slash_cut t vs d r in
        let y = p.cuts in
        let z = ap (first_cut 9 0 false) p.whole in
        let prefix : p.prefix ≡ us = cc in
        let token : p.token ≡ t = cc in
        let rest : p.rest ≡ vs = cc in
        let h = only (filtered p.start p.predicates) (subst (λ x. Derives FilterExpr x (filtered p.start p.predicates)) prefix p.left) in
        let h' = only' (walk p.steps) (subst (λ x. Derives RelativeLocationPath x (walk p.steps)) rest p.right) in
        let start : a ≡ p.start = cc in
        let predicates : ps ≡ p.predicates = cc in
        let steps : w ≡ p.steps = cc in
        rw (start, predicates, steps, ← token) (sym p.value)

one_primary : {ts : List Token} {a : Tree} → Derives PrimaryExpr ts (expr a) → Only PrimaryExpr ts (expr a) → Only FilterExpr ts (filtered a none)
one_primary {ts} {a} d only f g =
    elim (filter_cases g) [
      | inl o ↦ let h = only (expr o.part) o.derived in let v = o.value in cc
      | inr p ↦
          let q = predicate_cases p.right in
          let x = last_none 10 0 false ts ((clean d false tt).flat 10 (omega arith)) in
          let y = square_cut false p.prefix q.inner ((clean p.left false tt).level 0) q.derived in
          let z = p.whole in
          let w = q.whole in
          absurd cc
    ]

one_more : {us vs : List Token} {a p : Tree} {ps : Trees} → Derives FilterExpr us (filtered a ps) → Derives Predicate vs (expr p) → Only FilterExpr us (filtered a ps) → Only Predicate vs (expr p) → Only FilterExpr (us ++ vs) (filtered a (appended ps p))
one_more {us} {vs} {a} {p} {ps} c d only only' f g =
    elim (filter_cases g) [
      | inl o ↦
          let q = predicate_cases d in
          let x = last_none 10 0 false (us ++ vs) ((clean o.derived false tt).flat 10 (omega arith)) in
          let y = square_cut false us q.inner ((clean c false tt).level 0) q.derived in
          let w = q.whole in
          absurd cc
      | inr q ↦
          let same = same_cuts ((clean c false tt).level 0) ((clean q.left false tt).level 0) d q.right q.whole in
          let h = only (filtered q.start q.predicates) (subst (λ x. Derives FilterExpr x (filtered q.start q.predicates)) (sym same.0) q.left) in
          let h' = only' (expr q.part) (subst (λ x. Derives Predicate x (expr q.part)) (sym same.1) q.right) in
          let v = q.value in
          let e0 : a ≡ q.start = cc in
          let e1 : ps ≡ q.predicates = cc in
          let e2 : p ≡ q.part = cc in
          rw (e0, e1, e2) (sym v)
    ]

one_bracket : (ts : List Token) (a : Tree) → Only OrExpr ts (expr a) → Only PrimaryExpr (Open ∷ (ts ++ Close ∷ [])) (expr a)
one_bracket ts a only f g =
    let k = primary_open g in
    let e = append_cancel_right k.0 ts (Close ∷ []) (sym k.3) in
    only (expr k.1) (subst (λ x. Derives OrExpr x (expr k.1)) e k.2) ∙ sym k.4

one_call : (n : List ℕ) → Only PrimaryExpr (Function n ∷ Open ∷ Close ∷ []) (expr (call n none))
one_call n f g =
    elim (primary_call g) [
      | inl k ↦ sym k.1
      | inr k ↦ let e = append_cancel_right k.0 [] (Close ∷ []) (sym k.3) in absurd (no_arguments (subst (λ x. Derives Arguments x (exprs k.1)) e k.2))
    ]

one_call_some : (n : List ℕ) (ts : List Token) (es : Trees) → Derives Arguments ts (exprs es) → Only Arguments ts (exprs es) → Only PrimaryExpr (Function n ∷ Open ∷ (ts ++ Close ∷ [])) (expr (call n es))
one_call_some n ts es d only f g =
    elim (primary_call g) [
      | inl k ↦ let e = append_cancel_right ts [] (Close ∷ []) k.0 in absurd (no_arguments (subst (λ x. Derives Arguments x (exprs es)) e d))
      | inr k ↦
          let e = append_cancel_right k.0 ts (Close ∷ []) (sym k.3) in
          let h = only (exprs k.1) (subst (λ x. Derives Arguments x (exprs k.1)) e k.2) in
          let v = k.4 in
          cc
    ]

one_predicate : (ts : List Token) (a : Tree) → Only OrExpr ts (expr a) → Only Predicate (OpenSquare ∷ (ts ++ CloseSquare ∷ [])) (expr a)
one_predicate ts a only f g =
    let k = predicate_cases g in
    let w = k.whole in
    let w' : ts ++ CloseSquare ∷ [] ≡ k.inner ++ CloseSquare ∷ [] = cc in
    let e = append_cancel_right k.inner ts (CloseSquare ∷ []) (sym w') in
    only (expr k.part) (subst (λ x. Derives OrExpr x (expr k.part)) e k.derived) ∙ sym k.value

one_none : Only Predicates [] (exprs none)
one_none f g =
    elim (predicates_cases g) [
      | inl k ↦ sym k.1
      | inr q ↦
          let k = predicate_cases q.right in
          let x = square_cut true q.prefix k.inner ((clean q.left true refl).level 0) k.derived in
          let y = q.whole in
          let z = k.whole in
          absurd cc
    ]

one_more_predicate : {us vs : List Token} {p : Tree} {ps : Trees} → Derives Predicates us (exprs ps) → Derives Predicate vs (expr p) → Only Predicates us (exprs ps) → Only Predicate vs (expr p) → Only Predicates (us ++ vs) (exprs (appended ps p))
one_more_predicate {us} {vs} {p} {ps} c d only only' f g =
    elim (predicates_cases g) [
      | inl k ↦
          let q = predicate_cases d in
          let x = square_cut true us q.inner ((clean c true refl).level 0) q.derived in
          let y = k.0 in
          let z = q.whole in
          absurd cc
      | inr q ↦
          let same = same_cuts ((clean c true refl).level 0) ((clean q.left true refl).level 0) d q.right q.whole in
          let h = only (exprs q.predicates) (subst (λ x. Derives Predicates x (exprs q.predicates)) (sym same.0) q.left) in
          let h' = only' (expr q.part) (subst (λ x. Derives Predicate x (expr q.part)) (sym same.1) q.right) in
          let v = q.value in
          let e1 : ps ≡ q.predicates = cc in
          let e2 : p ≡ q.part = cc in
          rw (e1, e2) (sym v)
    ]

one_relative : {ts : List Token} {w : Walk} → Derives RelativeLocationPath ts (walk w) → Only RelativeLocationPath ts (walk w) → Only LocationPath ts (expr (path false w))
one_relative d only f g =
    let k = location_other g (starts d) in
    let h = only (walk k.0) k.1 in
    let v = k.2 in
    cc

one_slash : (ts : List Token) (w : Walk) → Derives RelativeLocationPath ts (walk w) → Only RelativeLocationPath ts (walk w) → Only LocationPath (Slash ∷ ts) (expr (path true w))
one_slash ts w d only f g =
    elim (location_first g) [
      | inl k ↦ absurd (no_relative (subst (λ x. Derives RelativeLocationPath x (walk w)) k.0 d))
      | inr k ↦ let h = only (walk k.0) k.1 in let v = k.2 in cc
    ]

one_root : Only LocationPath (Slash ∷ []) (expr (path true stop))
one_root f g = elim (location_first g) [ inl k ↦ sym k.1 | inr k ↦ absurd (no_relative k.1) ]

one_slash_slash : (ts : List Token) (w : Walk) → Only RelativeLocationPath ts (walk w) → Only LocationPath (SlashSlash ∷ ts) (expr (path true (any_depth w)))
one_slash_slash ts w only f g =
    let k = location_second g in
    let h = only (walk k.0) k.1 in
    let v = k.2 in
    cc

one_step : {us vs ws : List Token} {a : StepAxis} {t : StepTest} {ps : Trees} → IsAxis us a → IsTest vs t → Only Predicates ws (exprs ps) → Only StepPart (us ++ (vs ++ ws)) (walk (go a t ps stop))
one_step {us} {vs} {ws} {a} {t} {ps} is_axis is_test only f g = this (step_cases g)
  where
    this : StepForm (us ++ (vs ++ ws)) f → walk (go a t ps stop) ≡ f
    this (is_dot h v) = let n = no_dots ws is_axis is_test in let k = ap dot_axis h in absurd cc
    this (is_dots h v) = let n = no_dots ws is_axis is_test in let k = ap dot_axis h in absurd cc
    this (is_step n s) =
        let x = axis_read ws is_axis is_test in
        let y = test_read ws is_test in
        let w : after_test (after_axis (us ++ (vs ++ ws))) ≡ ws = ap after_test x.1 ∙ y.1 in
        let p = only (exprs s.predicates) (subst (λ z. Derives Predicates z (exprs s.predicates)) w s.derived) in
        let r : test_of (after_axis (us ++ (vs ++ ws))) ≡ Some t = ap test_of x.1 ∙ y.0 in
        let i = s.is_test in
        let e : t ≡ s.test = cc in
        let q : ps ≡ s.predicates = cc in
        let o : a ≡ axis_of (us ++ (vs ++ ws)) = sym x.0 in
        ap (λ z. walk (go z t ps stop)) o ∙ ap (λ z. walk (go (axis_of (us ++ (vs ++ ws))) z ps stop)) e ∙ ap (λ z. walk (go (axis_of (us ++ (vs ++ ws))) s.test z stop)) q ∙ sym s.value

one_dot : Only StepPart (Dot ∷ []) (walk (go (Known axis.Itself) test.Node none stop))
one_dot f g = this (step_cases g)
  where
    this : StepForm (Dot ∷ []) f → walk (go (Known axis.Itself) test.Node none stop) ≡ f
    this (is_dot h v) = sym v
    this (is_dots h v) = absurd cc
    this (is_step n s) = absurd cc

one_dots : Only StepPart (DotDot ∷ []) (walk (go (Known axis.Parent) test.Node none stop))
one_dots f g = this (step_cases g)
  where
    this : StepForm (DotDot ∷ []) f → walk (go (Known axis.Parent) test.Node none stop) ≡ f
    this (is_dot h v) = absurd cc
    this (is_dots h v) = sym v
    this (is_step n s) = absurd cc

level_cut : {us vs : List Token} {x y : Phrase} (l : Level) (t : Token) → Derives (symbol l) us x → Derives (operand l) vs y → MayFollow (symbol l) false → MayFollow (operand l) (ends t) → rank true t ≡ rank_of l → depth_after 0 t ≡ 0 → rank_of l < least (operand l) → Only (symbol l) us x → Only (operand l) vs y → Only (symbol l) (us ++ t ∷ vs) (combined t x y)
unfolding parts
level_cut l t c d h h' r plain lt only only' = one_cut l (parts l t c d h h' r plain lt).cuts only only'

pub unique : {s : Symbol} {ts : List Token} {e : Phrase} → Derives s ts e → (f : Phrase) → Derives s ts f → e ≡ f
unique (or_one d) = one_alone OrLevel d (unique d)
unique (or_more c d) = level_cut OrLevel Or c d refl refl refl refl (omega arith) (unique c) (unique d)
unique (and_one d) = one_alone AndLevel d (unique d)
unique (and_more c d) = level_cut AndLevel And c d refl refl refl refl (omega arith) (unique c) (unique d)
unique (equality_one d) = one_alone EqualityLevel d (unique d)
unique (equality_more {how} is c d) = level_cut EqualityLevel (Compare how) c d refl refl (rank_equality true is) refl (omega arith) (unique c) (unique d)
unique (relational_one d) = one_alone RelationalLevel d (unique d)
unique (relational_more {how} is c d) = level_cut RelationalLevel (Compare how) c d refl refl (rank_relational true is) refl (omega arith) (unique c) (unique d)
unique (additive_one d) = one_alone AdditiveLevel d (unique d)
unique (additive_more {op} is c d) = level_cut AdditiveLevel (Arithmetic op) c d refl refl (rank_additive is) refl (omega arith) (unique c) (unique d)
unique (multiplicative_one d) = one_alone MultiplicativeLevel d (unique d)
unique (multiplicative_more {op} is c d) = level_cut MultiplicativeLevel (Arithmetic op) c d refl refl (rank_multiplicative true is) refl (omega arith) (unique c) (unique d)
unique (unary_one d) = one_union d (unique d)
unique (unary_minus d) = one_minus _ _ (unique d)
unique (union_one d) = one_alone UnionLevel d (unique d)
unique (union_more c d) = level_cut UnionLevel Bar c d tt tt refl refl (omega arith) (unique c) (unique d)
unique (path_location d) = one_location d (unique d)
unique (path_filter d) = one_filter d (unique d)
unique (path_slash c d) = one_from Slash c refl (unique c) (unique d)
unique (path_slash_slash c d) = one_from SlashSlash c refl (unique c) (unique d)
unique (filter_one d) = one_primary d (unique d)
unique (filter_more c d) = one_more c d (unique c) (unique d)
unique (primary_bracket d) = one_bracket _ _ (unique d)
unique primary_variable = λ f g. sym (primary_name g).1
unique primary_literal = λ f g. sym (primary_text g).1
unique primary_number = λ f g. sym (primary_one g).1
unique call_none = one_call _
unique (call_some d) = one_call_some _ _ _ d (unique d)
unique (arguments_one d) = one_alone ArgumentLevel d (unique d)
unique (arguments_more c d) = level_cut ArgumentLevel Comma c d refl refl refl refl (omega arith) (unique c) (unique d)
unique (location_relative d) = one_relative d (unique d)
unique location_root = one_root
unique (location_slash d) = one_slash _ _ d (unique d)
unique (location_slash_slash d) = one_slash_slash _ _ (unique d)
unique (relative_one d) = one_alone RelativeLevel d (unique d)
unique (relative_slash c d) = level_cut RelativeLevel Slash c d tt tt refl refl (omega arith) (unique c) (unique d)
unique (relative_slash_slash c d) = level_cut RelativeLevel SlashSlash c d tt tt refl refl (omega arith) (unique c) (unique d)
unique (step us vs ws a t d) = one_step a t (unique d)
unique step_dot = one_dot
unique step_dots = one_dots
unique predicates_none = one_none
unique (predicates_more c d) = one_more_predicate c d (unique c) (unique d)
unique (predicate d) = one_predicate _ _ (unique d)
