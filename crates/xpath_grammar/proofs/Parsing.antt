-- What the parser's functions rest on.
use Rattle.std.proofs.Common.{◌≡◌, ◌≢◌, ℕ, ◌+◌, ◌≤◌, List, [], ◌∷◌, ◌++◌, length, take, drop, get_or, Bool, true, false, Some, None, Result, Ok, Err, refl, sym, ◌∙◌, ap, subst, arith, ◌-◌, ◌⊎◌, inl, inr, append_assoc, add-one}
use Rattle.std.specs.Result.{IsErrAnd}
use Rattle.std.specs.Borrow.{Bor}
use Rattle.std.proofs.lemmas.Result.{err_from_is_err_and}
use Rattle.std.proofs.lemmas.List.{append_cancel_right, append-nil, take_at, drop_at, length-take, take-append-drop, take_rest}
use Rattle.xpath_tokens.specs.declared.Token.{Token}
use Rattle.xpath_tokens.specs.declared.Token.TheVariants.{Open, Close, OpenSquare, CloseSquare, Dot, DotDot, Comma, Or, And, Compare, Arithmetic, Bar, Slash, SlashSlash, Function, Literal, Number, Variable}
use Rattle.xpath_tokens.specs.declared.Comparison.{Comparison}
use Rattle.xpath_tokens.specs.declared.Comparison.TheVariants.{Equal, Unequal, Less, Greater, AtMost, AtLeast}
use Rattle.xpath_tokens.specs.declared.Operator.{Operator}
use Rattle.xpath_tokens.specs.declared.Operator.TheVariants.{Add, Subtract, Multiply, Divide, Modulo}
use Rattle.xpath_grammar.specs.declared.expr.Expr.{Expr}
use Rattle.xpath_grammar.specs.declared.expr.Step.{Step}
use Rattle.xpath_tokens.specs.declared.Fault.{Fault}
use Rattle.xpath_tokens.specs.declared.Fault.TheVariants.{Syntax, NoMemory}
use Rattle.xml_model.specs.declared.Axis.{Axis}
use Rattle.xml_model.specs.declared.Axis.TheVariants as axis
use Rattle.xpath_tokens.specs.declared.StepAxis.TheVariants.{Known}
use Rattle.xpath_grammar.specs.declared.expr.StepTest.{StepTest}
use Rattle.xpath_grammar.specs.declared.expr.StepTest.TheVariants as test
use Rattle.xpath_grammar.specs.declared.parser.Binary.{Binary}
use Rattle.xpath_grammar.specs.declared.parser.Binary.TheVariants as rust
use Rattle.xpath_grammar.specs.Tree.{tree_of, Tree, Trees, Walk, path, from, filter, literal, number, variable, call, none, more, stop, go}
use Rattle.xpath_grammar.specs.Grammar.{Symbol, OrExpr, UnaryExpr, UnionExpr, PathExpr, FilterExpr, PrimaryExpr, Arguments, LocationPath, RelativeLocationPath, StepPart, Predicates, Phrase, expr, exprs, filtered, walk, appended, joined, filter_tree, any_depth, IsAdditive, plus, minus, IsEquality, equal, unequal, IsRelational, less, greater, at_most, at_least, IsMultiplicative, times, divided, modulo, Derives, or_one, or_more, and_one, and_more, equality_one, equality_more, relational_one, relational_more, additive_one, additive_more, multiplicative_one, multiplicative_more, unary_one, unary_minus, union_one, union_more, path_location, path_filter, path_slash, path_slash_slash, filter_one, filter_more, primary_bracket, primary_variable, primary_literal, primary_number, call_none, call_some, arguments_one, arguments_more, location_relative, location_root, location_slash, location_slash_slash, relative_one, relative_slash, relative_slash_slash, step, step_dot, step_dots, predicates_none, predicates_more, predicate, ended}
use Rattle.xpath_grammar.specs.Cutting.{rank, Free, Level, RelativeLevel, ArgumentLevel, symbol, operand, rank_of, combined, Cuts, CutsAt, FirstAt, after_slash, Answers, AnswersFilter, DerivesFilter, Gives, as_expr, as_step, form, IsBinary, applied, tree_join, leading_minuses, negations}
use Rattle.xpath_grammar.specs.Shape.{starts_primary, first, NotPrimary, Relative, dot_axis, axis_of, after_axis, test_of, after_test, IsStepTest}
use Rattle.xpath_grammar.proofs.Clean.{clean}
use Rattle.xpath_grammar.proofs.Cut.{cut, no_cut, at_cut, last_cut, last_none, last_cuts}
use Rattle.xpath_grammar.proofs.Forms.{no_minus, starts, first-append, first_cut, first_none, first_at, path_cases, PathForm, is_location, is_filter, is_from, predicate_cases, square_cut, filter_cases, predicates_cases, primary_open, primary_call, location_first, location_second, StepForm, is_dot, is_dots, is_step, Stepped, step_cases, axis_split, test_split}
use Rattle.xpath_grammar.proofs.Remaining.{Remaining, adds}
use Rattle.xpath_grammar.proofs.Applied.{applied-push, join-combined}

-- A list that is cut has the parts that slices show.
pub take_cut : (us : List Token) (t : Token) (vs : List Token) (i : ℕ) → length us ≡ i → take i (us ++ t ∷ vs) ≡ us
take_cut [] t vs i e = rw (← e) refl
take_cut (u ∷ us) t vs i e = rw (← e) (ap (λ x. u ∷ x) (take_cut us t vs (length us) refl))

pub drop_cut : (us : List Token) (t : Token) (vs : List Token) (i : ℕ) → length us ≡ i → drop (i + 1) (us ++ t ∷ vs) ≡ vs
drop_cut [] t vs i e = rw (← e) refl
drop_cut (u ∷ us) t vs i e = rw (← e, add-one) (sym (ap (λ n. drop n (us ++ t ∷ vs)) (add-one (length us))) ∙ drop_cut us t vs (length us) refl)

pub get_cut : (us : List Token) (t : Token) (vs : List Token) (i : ℕ) (d : Token) → length us ≡ i → get_or (us ++ t ∷ vs) i d ≡ t
get_cut [] t vs i d e = rw (← e) refl
get_cut (u ∷ us) t vs i d e = rw (← e) (get_cut us t vs (length us) d refl)

-- the cut at a place, in the words of slices
pub record Sliced (k : ℕ) (ts : List Token) (i : ℕ) (t : Token) : Type 0 where
  pub whole : ts ≡ take i ts ++ t ∷ drop (i + 1) ts
  pub cuts : Cuts k (take i ts) t (drop (i + 1) ts)

pub sliced : (k : ℕ) (ts : List Token) (i : ℕ) (c : CutsAt k ts i) → Sliced k ts i c.token
sliced k ts i c =
    let w = c.whole in
    let a : take i ts ≡ c.prefix = ap (take i) w ∙ take_cut c.prefix c.token c.rest i c.place in
    let b : drop (i + 1) ts ≡ c.rest = ap (drop (i + 1)) w ∙ drop_cut c.prefix c.token c.rest i c.place in
    record { whole = rw (a, b) w; cuts = rw (a, b) c.cuts }

pub token_at : (k : ℕ) (ts : List Token) (i : ℕ) (c : CutsAt k ts i) (t : Token) → t ≡ get_or ts i t → c.token ≡ t
token_at k ts i c t e = sym (e ∙ ap (λ x. get_or x i t) c.whole ∙ get_cut c.prefix c.token c.rest i t c.place)

-- a refusal that is passed on
pub refuses : {X Y : Type 0} (s s' : Symbol) (view : X → Phrase) (view' : Y → Phrase) (ts ts' : List Token) (f : Fault) → Answers {X = Y} s' view' ts' (Err f) → ((e : Phrase) → Derives s ts e → (g : Phrase) × Derives s' ts' g) → Answers {X = X} s view ts (Err f)
refuses s s' view view' ts ts' Syntax refused h = λ e d. let x = h e d in refused x.0 x.1
refuses s s' view view' ts ts' NoMemory refused h = tt

-- a call's answer that is made another
pub answers : {X : Type 0} (s s' : Symbol) (view : X → Phrase) (ts ts' : List Token) (r : Result X Fault) → Answers s' view ts' r → ((x : X) → Derives s' ts' (view x) → Derives s ts (view x)) → ((e : Phrase) → Derives s ts e → (g : Phrase) × Derives s' ts' g) → Answers s view ts r
answers s s' view ts ts' (Ok x) a good bad = good x a
answers s s' view ts ts' (Err Syntax) a good bad = λ e d. let x = bad e d in a x.0 x.1
answers s s' view ts ts' (Err NoMemory) a good bad = tt

-- a value that only needs memory
pub makes : {X : Type 0} (s : Symbol) (view : X → Phrase) (ts : List Token) (r : Result X Fault) (P : X → Type 0) → Gives r P → ((x : X) → P x → Derives s ts (view x)) → Answers s view ts r
makes s view ts (Ok x) P g good = good x g
makes s view ts (Err Syntax) P g good = absurd g
makes s view ts (Err NoMemory) P g good = tt

pub binary_one : (l : Binary) {ts : List Token} {a : Tree} → Derives (operand (form l)) ts (expr a) → Derives (symbol (form l)) ts (expr a)
binary_one rust.Or d = or_one d
binary_one rust.And d = and_one d
binary_one rust.Equality d = equality_one d
binary_one rust.Relational d = relational_one d
binary_one rust.Additive d = additive_one d
binary_one rust.Multiplicative d = multiplicative_one d
binary_one rust.Union d = union_one d

pub data Operates : Binary → Token → Type 0 where
  by_or : Operates rust.Or Or
  by_and : Operates rust.And And
  by_equality : {how : Comparison} → IsEquality how → Operates rust.Equality (Compare how)
  by_relational : {how : Comparison} → IsRelational how → Operates rust.Relational (Compare how)
  by_additive : {op : Operator} → IsAdditive op → Operates rust.Additive (Arithmetic op)
  by_multiplicative : {op : Operator} → IsMultiplicative op → Operates rust.Multiplicative (Arithmetic op)
  by_bar : Operates rust.Union Bar

-- where comparisons and arithmetic operators rank
compare_rank : (b : Bool) (how : Comparison) → (3 ≤ rank b (Compare how)) × (rank b (Compare how) ≤ 4)
compare_rank b Equal = (omega arith, omega arith)
compare_rank b Unequal = (omega arith, omega arith)
compare_rank b Less = (omega arith, omega arith)
compare_rank b Greater = (omega arith, omega arith)
compare_rank b AtMost = (omega arith, omega arith)
compare_rank b AtLeast = (omega arith, omega arith)

arithmetic_rank : (b : Bool) (op : Operator) → (5 ≤ rank b (Arithmetic op)) × (rank b (Arithmetic op) ≢ 8) × (rank b (Arithmetic op) ≢ 9) × (rank b (Arithmetic op) ≢ 10)
arithmetic_rank b Add = (omega arith, omega arith, omega arith, omega arith)
arithmetic_rank true Subtract = (omega arith, omega arith, omega arith, omega arith)
arithmetic_rank false Subtract = (omega arith, omega arith, omega arith, omega arith)
arithmetic_rank b Multiply = (omega arith, omega arith, omega arith, omega arith)
arithmetic_rank b Divide = (omega arith, omega arith, omega arith, omega arith)
arithmetic_rank b Modulo = (omega arith, omega arith, omega arith, omega arith)

operates_compare : (l : Binary) (b : Bool) (how : Comparison) → rank b (Compare how) ≡ rank_of (form l) → Operates l (Compare how)
operates_compare rust.Equality b Equal h = by_equality equal
operates_compare rust.Equality b Unequal h = by_equality unequal
operates_compare rust.Relational b Less h = by_relational less
operates_compare rust.Relational b Greater h = by_relational greater
operates_compare rust.Relational b AtMost h = by_relational at_most
operates_compare rust.Relational b AtLeast h = by_relational at_least
operates_compare l b how h = let r = compare_rank b how in let low = r.0 in let high = r.1 in absurd (omega arith)

operates_arithmetic : (l : Binary) (b : Bool) (op : Operator) → rank b (Arithmetic op) ≡ rank_of (form l) → Operates l (Arithmetic op)
operates_arithmetic rust.Additive b Add h = by_additive plus
operates_arithmetic rust.Additive b Subtract h = by_additive minus
operates_arithmetic rust.Multiplicative b Multiply h = by_multiplicative times
operates_arithmetic rust.Multiplicative b Divide h = by_multiplicative divided
operates_arithmetic rust.Multiplicative b Modulo h = by_multiplicative modulo
operates_arithmetic rust.Multiplicative true Subtract h = absurd (omega arith)
operates_arithmetic rust.Multiplicative false Subtract h = absurd (omega arith)
operates_arithmetic l b op h = let r = arithmetic_rank b op in let low = r.0 in let other = r.1 in absurd (omega arith)

pub operates : (l : Binary) (b : Bool) (t : Token) → rank b t ≡ rank_of (form l) → Operates l t
operates rust.Or b Or h = by_or
operates rust.And b And h = by_and
operates l b (Compare how) h = operates_compare l b how h
operates l b (Arithmetic op) h = operates_arithmetic l b op h
operates rust.Union b Bar h = by_bar
operates _ b t h = absurd (omega arith)

pub operates-binary : {l : Binary} {t : Token} → Operates l t → IsBinary t
operates-binary by_or = tt
operates-binary by_and = tt
operates-binary (by_equality is) = tt
operates-binary (by_relational is) = tt
operates-binary (by_additive is) = tt
operates-binary (by_multiplicative is) = tt
operates-binary by_bar = tt

pub binary_more : {l : Binary} {t : Token} {us vs : List Token} {a b : Tree} → Operates l t → Derives (symbol (form l)) us (expr a) → Derives (operand (form l)) vs (expr b) → Derives (symbol (form l)) (us ++ t ∷ vs) (combined t (expr a) (expr b))
binary_more by_or c d = or_more c d
binary_more by_and c d = and_more c d
binary_more (by_equality is) c d = equality_more is c d
binary_more (by_relational is) c d = relational_more is c d
binary_more (by_additive is) c d = additive_more is c d
binary_more (by_multiplicative is) c d = multiplicative_more is c d
binary_more by_bar c d = union_more c d

pub cut_left : (l : Level) {ts : List Token} {i : ℕ} → CutsAt (rank_of l) ts i → (e : Phrase) → Derives (symbol l) ts e → (g : Phrase) × Derives (symbol l) (take i ts) g
cut_left l {ts} {i} c e d =
    let s = sliced (rank_of l) ts i c in
    let a = at_cut l (subst (λ x. Derives (symbol l) x e) s.whole d) s.cuts in
    (a.one, a.left)

pub cut_right : (l : Level) {ts : List Token} {i : ℕ} → CutsAt (rank_of l) ts i → (e : Phrase) → Derives (symbol l) ts e → (g : Phrase) × Derives (operand l) (drop (i + 1) ts) g
cut_right l {ts} {i} c e d =
    let s = sliced (rank_of l) ts i c in
    let a = at_cut l (subst (λ x. Derives (symbol l) x e) s.whole d) s.cuts in
    (a.other, a.right)

pub cut_none : (l : Level) {ts : List Token} → Free (rank_of l) 0 false ts → (e : Phrase) → Derives (symbol l) ts e → (g : Phrase) × Derives (operand l) ts g
cut_none l f e d = let a = no_cut l d f in (a.part, a.derived)

pub cut_both : (l : Binary) {ts : List Token} {i : ℕ} {a b : Tree} (t : Token) → CutsAt (rank_of (form l)) ts i → t ≡ get_or ts i t → Derives (symbol (form l)) (take i ts) (expr a) → Derives (operand (form l)) (drop (i + 1) ts) (expr b) → Derives (symbol (form l)) ts (combined t (expr a) (expr b))
cut_both l {ts} {i} {a} {b} t c at left right =
    let s = sliced (rank_of (form l)) ts i c in
    let e = token_at (rank_of (form l)) ts i c t at in
    let op = operates l (ended false c.prefix) c.token c.cuts.is in
    subst (λ x. Derives (symbol (form l)) ts (combined x (expr a) (expr b))) e (subst (λ x. Derives (symbol (form l)) x (combined c.token (expr a) (expr b))) (sym s.whole) (binary_more op left right))

-- unary expressions
no_leading_minuses : (ts : List Token) → ((us : List Token) → ts ≡ Arithmetic Subtract ∷ us → ⊥) → leading_minuses ts ≡ 0
no_leading_minuses [] h = refl
no_leading_minuses (Arithmetic Subtract ∷ ts) h = absurd (h ts refl)
no_leading_minuses (t ∷ ts) h = refl

pub unary_rest : {ts : List Token} (e : Phrase) → Derives UnaryExpr ts e → (g : Phrase) × Derives UnionExpr (drop (leading_minuses ts) ts) g
unary_rest {ts} e (unary_one d) = (e, subst (λ n. Derives UnionExpr (drop n ts) e) (sym (no_leading_minuses ts (no_minus d))) d)
unary_rest e (unary_minus {a = a} d) = unary_rest (expr a) d

pub unary_made : (ts : List Token) {a : Tree} → Derives UnionExpr (drop (leading_minuses ts) ts) (expr a) → Derives UnaryExpr ts (expr (negations (leading_minuses ts) a))
unary_made [] d = unary_one d
unary_made (Arithmetic Subtract ∷ ts) d = unary_minus (unary_made ts d)
unary_made (t ∷ ts) d = unary_one d

-- paths
pub location_only : {ts : List Token} {e : Phrase} → first starts_primary ts ≡ false → Derives PathExpr ts e → Derives LocationPath ts e
location_only {ts} {e} h d = this (path_cases d)
  where
    this : PathForm ts e → Derives LocationPath ts e
    this (is_location k) = k
    this (is_filter k v) = let x = starts k in absurd cc
    this (is_from p) =
        let x = first-append starts_primary p.prefix (p.token ∷ p.rest) (starts p.left) in
        let y = ap (first starts_primary) p.whole in
        absurd cc

pub absolute_rest : {ts us : List Token} → ts ≡ Slash ∷ us → us ≢ [] → (e : Phrase) → Derives PathExpr ts e → (g : Phrase) × Derives RelativeLocationPath us g
absolute_rest w ne e d =
    elim (location_first (location_only refl (subst (λ x. Derives PathExpr x e) w d))) [
      | inl k ↦ absurd (ne k.0)
      | inr k ↦ (walk k.0, k.1)
    ]

pub deep_rest : {ts us : List Token} → ts ≡ SlashSlash ∷ us → (e : Phrase) → Derives PathExpr ts e → (g : Phrase) × Derives RelativeLocationPath us g
deep_rest w e d = let k = location_second (location_only refl (subst (λ x. Derives PathExpr x e) w d)) in (walk k.0, k.1)

relative_rest : {ts : List Token} {e : Phrase} → Relative ts → Derives LocationPath ts e → (g : Phrase) × Derives RelativeLocationPath ts g
relative_rest r (location_relative d) = (_, d)
relative_rest r location_root = absurd (r.no_slash [] refl)
relative_rest r (location_slash d) = absurd (r.no_slash _ refl)
relative_rest r (location_slash_slash d) = absurd (r.no_deep _ refl)

pub relative_only : {ts : List Token} → Relative ts → (e : Phrase) → Derives PathExpr ts e → (g : Phrase) × Derives RelativeLocationPath ts g
relative_only r e d = relative_rest r (location_only r.no_filter d)

pub root_made : {ts : List Token} → ts ≡ Slash ∷ [] → Derives PathExpr ts (expr (path true stop))
root_made w = rw w (path_location location_root)

pub absolute_made : {ts us : List Token} {w : Walk} → ts ≡ Slash ∷ us → Derives RelativeLocationPath us (walk w) → Derives PathExpr ts (expr (path true w))
absolute_made w d = rw w (path_location (location_slash d))

pub deep_made : {ts us : List Token} {w : Walk} {b : Tree} → ts ≡ SlashSlash ∷ us → Derives RelativeLocationPath us (walk w) → b ≡ path true (any_depth w) → Derives PathExpr ts (expr b)
deep_made w d h = rw (w, h) (path_location (location_slash_slash d))

-- paths after an expression
pub filter_err : (ts : List Token) (f : Fault) → AnswersFilter ts (Err f) → Answers {X = Expr} FilterExpr as_expr ts (Err f)
filter_err ts Syntax a = a
filter_err ts NoMemory a = tt

pub from_none : (ts : List Token) (r : Result Expr Fault) → first starts_primary ts ≡ true → Free 9 0 false ts → AnswersFilter ts r → Answers PathExpr as_expr ts r
from_none ts (Ok e) s f a = rw a.value (path_filter a.derived)
from_none ts (Err Syntax) s f a = λ e d. this e (path_cases d)
  where
    this : (e : Phrase) → PathForm ts e → ⊥
    this e (is_location k) = let x = starts k in cc
    this e (is_filter k v) = a _ k
    this e (is_from p) =
        let x = first_none 9 0 false ts f in
        let y = p.cuts in
        let z = ap (first_cut 9 0 false) p.whole in
        cc
from_none ts (Err NoMemory) s f a = tt

pub first_cuts : {k : ℕ} {ts : List Token} {i : ℕ} (c : FirstAt k ts i) → first_cut k 0 false ts ≡ Some (cut c.prefix c.token c.rest)
first_cuts {k} c = ap (first_cut k 0 false) c.whole ∙ first_at k 0 false c.prefix c.token c.rest c.before c.level c.is

pub record FromParts (ts : List Token) (i : ℕ) : Type 0 where
  pub start : Phrase
  pub steps : Phrase
  pub left : Derives FilterExpr (take i ts) start
  pub right : Derives RelativeLocationPath (drop (i + 1) ts) steps

pub from_parts : {ts : List Token} {i : ℕ} → first starts_primary ts ≡ true → FirstAt 9 ts i → (e : Phrase) → Derives PathExpr ts e → FromParts ts i
from_parts {ts} {i} s c e d = this (path_cases d)
  where
    this : PathForm ts e → FromParts ts i
    this (is_location k) = let x = starts k in absurd cc
    this (is_filter k v) =
        let x = first_none 9 0 false ts ((clean k false tt).flat 9 (omega arith)) in
        let y = first_cuts c in
        absurd cc
    this (is_from p) =
        let y = first_cuts c in
        let x = p.cuts in
        let z = ap (first_cut 9 0 false) p.whole in
        let prefix : p.prefix ≡ c.prefix = cc in
        let rest : p.rest ≡ c.rest = cc in
        let a : take i ts ≡ p.prefix = ap (take i) c.whole ∙ take_cut c.prefix c.token c.rest i c.place ∙ sym prefix in
        let b : drop (i + 1) ts ≡ p.rest = ap (drop (i + 1)) c.whole ∙ drop_cut c.prefix c.token c.rest i c.place ∙ sym rest in
        record { start = filtered p.start p.predicates; steps = walk p.steps; left = rw a p.left; right = rw b p.right }

rank_slash : (b : Bool) (t : Token) → rank b t ≡ 9 → (t ≡ Slash) ⊎ (t ≡ SlashSlash)
rank_slash b Slash h = inl refl
rank_slash b SlashSlash h = inr refl
rank_slash b (Compare how) h = let r = compare_rank b how in let low = r.0 in let high = r.1 in absurd (omega arith)
rank_slash b (Arithmetic op) h = let r = arithmetic_rank b op in let low = r.0 in let second = r.1 in let third = r.2 in let fourth = r.3 in absurd (omega arith)
rank_slash b _ h = absurd (omega arith)

rank_square : (b : Bool) (t : Token) → rank b t ≡ 10 → t ≡ OpenSquare
rank_square b OpenSquare h = refl
rank_square b (Compare how) h = let r = compare_rank b how in let low = r.0 in let high = r.1 in absurd (omega arith)
rank_square b (Arithmetic op) h = let r = arithmetic_rank b op in let low = r.0 in let second = r.1 in let third = r.2 in let fourth = r.3 in absurd (omega arith)
rank_square b _ h = absurd (omega arith)

rank_comma : (b : Bool) (t : Token) → rank b t ≡ 0 → t ≡ Comma
rank_comma b Comma h = refl
rank_comma b (Compare how) h = let r = compare_rank b how in let low = r.0 in let high = r.1 in absurd (omega arith)
rank_comma b (Arithmetic op) h = let r = arithmetic_rank b op in let low = r.0 in let second = r.1 in let third = r.2 in let fourth = r.3 in absurd (omega arith)
rank_comma b _ h = absurd (omega arith)

from_token : {us vs : List Token} {a : Tree} {ps : Trees} {w : Walk} (t : Token) → (t ≡ Slash) ⊎ (t ≡ SlashSlash) → Derives FilterExpr us (filtered a ps) → Derives RelativeLocationPath vs (walk w) → Derives PathExpr (us ++ t ∷ vs) (expr (from (filter_tree a ps) (after_slash t w)))
from_token t s c d = elim s [ inl e ↦ rw e (path_slash c d) | inr e ↦ rw e (path_slash_slash c d) ]

pub from_made : {ts : List Token} {i : ℕ} {a b : Tree} {v w : Walk} (t : Token) → FirstAt 9 ts i → t ≡ get_or ts i t → DerivesFilter (take i ts) a → Derives RelativeLocationPath (drop (i + 1) ts) (walk w) → v ≡ after_slash t w → b ≡ from a v → Derives PathExpr ts (expr b)
from_made {ts} {i} {a} {b} {v} {w} t c at left right hv hb =
    let x : take i ts ≡ c.prefix = ap (take i) c.whole ∙ take_cut c.prefix c.token c.rest i c.place in
    let y : drop (i + 1) ts ≡ c.rest = ap (drop (i + 1)) c.whole ∙ drop_cut c.prefix c.token c.rest i c.place in
    let e : c.token ≡ t = sym (at ∙ ap (λ x. get_or x i t) c.whole ∙ get_cut c.prefix c.token c.rest i t c.place) in
    let whole : ts ≡ take i ts ++ t ∷ drop (i + 1) ts = c.whole ∙ ap (λ z. z ++ c.token ∷ c.rest) (sym x) ∙ ap (λ z. take i ts ++ z ∷ c.rest) e ∙ ap (λ z. take i ts ++ t ∷ z) (sym y) in
    let slash = rank_slash (ended false c.prefix) t (rw (← e) c.is) in
    let d = from_token t slash left.derived right in
    let value : b ≡ from (filter_tree left.start left.predicates) (after_slash t w) = hb ∙ ap (λ z. from z v) left.value ∙ ap (λ z. from (filter_tree left.start left.predicates) z) hv in
    subst (λ z. Derives PathExpr ts (expr z)) (sym value) (subst (λ z. Derives PathExpr z (expr (from (filter_tree left.start left.predicates) (after_slash t w)))) (sym whole) d)

-- filters: a primary expression and then predicates
pub record Split (ts : List Token) (e : Phrase) : Type 0 where
  pub prefix : List Token
  pub rest : List Token
  pub start : Tree
  pub predicates : Trees
  pub left : Derives PrimaryExpr prefix (expr start)
  pub right : Derives Predicates rest (exprs predicates)
  pub whole : ts ≡ prefix ++ rest
  pub value : e ≡ filtered start predicates

pub filter_split : {ts : List Token} {e : Phrase} → Derives FilterExpr ts e → Split ts e
filter_split (filter_one {ts} d) = record { prefix = _; rest = []; start = _; predicates = none; left = d; right = predicates_none; whole = sym (append-nil ts); value = refl }
filter_split (filter_more {us} {vs} {a} {p} {ps} c d) =
    let s = filter_split c in
    let v = s.value in
    let ea : a ≡ s.start = cc in
    let ep : ps ≡ s.predicates = cc in
    record { prefix = s.prefix; rest = s.rest ++ vs; start = s.start; predicates = appended s.predicates p; left = s.left; right = predicates_more s.right d; whole = ap (λ x. x ++ vs) s.whole ∙ append_assoc s.prefix s.rest vs; value = ap (λ z. filtered z (appended ps p)) ea ∙ ap (λ z. filtered s.start (appended z p)) ep }

pub filter_join : {us vs : List Token} {a : Tree} {ps : Trees} → Derives PrimaryExpr us (expr a) → Derives Predicates vs (exprs ps) → Derives FilterExpr (us ++ vs) (filtered a ps)
filter_join {us} p predicates_none = rw (append-nil us) (filter_one p)
filter_join {us} p (predicates_more {us = x} {vs = y} c d) = rw (← append_assoc us x y) (filter_more (filter_join p c) d)

predicates_start : {vs : List Token} {e : Phrase} → Derives Predicates vs e → (vs ≡ []) ⊎ ((ws : List Token) × (vs ≡ OpenSquare ∷ ws))
predicates_start predicates_none = inl refl
predicates_start (predicates_more {us} {vs} c d) =
    elim (predicates_start c) [
      | inl e ↦ let q = predicate_cases d in inr (q.inner ++ CloseSquare ∷ [], ap (λ x. x ++ vs) e ∙ q.whole)
      | inr k ↦ inr (k.0 ++ vs, ap (λ x. x ++ vs) k.1)
    ]

filter_appended : (a p : Tree) (ps : Trees) → filter_tree a (appended ps p) ≡ filter a (appended ps p)
filter_appended a p none = refl
filter_appended a p (more q qs) = refl

some_predicates : {ws : List Token} {ps : Trees} (a : Tree) → Derives Predicates (OpenSquare ∷ ws) (exprs ps) → filter_tree a ps ≡ filter a ps
some_predicates {ws} {ps} a d =
    elim (predicates_cases d) [
      | inl k ↦ let h = k.0 in absurd cc
      | inr m ↦ let v = m.value in let e : ps ≡ appended m.predicates m.part = cc in rw e (filter_appended a m.part m.predicates)
    ]

pub record FilterParts (ts : List Token) (i : ℕ) : Type 0 where
  pub start : Phrase
  pub predicates : Phrase
  pub left : Derives PrimaryExpr (take i ts) start
  pub right : Derives Predicates (drop i ts) predicates

pub filter_parts : {ts : List Token} {i : ℕ} → FirstAt 10 ts i → (e : Phrase) → Derives FilterExpr ts e → FilterParts ts i
filter_parts {ts} {i} c e d =
    let s = filter_split d in
    let free = (clean s.left false tt).flat 10 (omega arith) in
    let y = first_cuts c in
    elim (predicates_start s.right) [
      | inl k ↦
          let w : ts ≡ s.prefix = s.whole ∙ ap (λ x. s.prefix ++ x) k ∙ append-nil s.prefix in
          let x = first_none 10 0 false s.prefix free in
          let z = ap (first_cut 10 0 false) w in
          absurd cc
      | inr k ↦
          let w : ts ≡ s.prefix ++ OpenSquare ∷ k.0 = s.whole ∙ ap (λ x. s.prefix ++ x) k.1 in
          let x = first_at 10 0 false s.prefix OpenSquare k.0 free ((clean s.left false tt).level 0) refl in
          let z = ap (first_cut 10 0 false) w in
          let prefix : s.prefix ≡ c.prefix = cc in
          let place : length s.prefix ≡ i = ap length prefix ∙ c.place in
          let a : take i ts ≡ s.prefix = ap (take i) s.whole ∙ take_at s.prefix s.rest i place in
          let b : drop i ts ≡ s.rest = ap (drop i) s.whole ∙ drop_at s.prefix s.rest i place in
          record { start = expr s.start; predicates = exprs s.predicates; left = rw a s.left; right = rw b s.right }
    ]

pub filter_none : (ts : List Token) (r : Result Expr Fault) → Free 10 0 false ts → Answers PrimaryExpr as_expr ts r → AnswersFilter ts r
filter_none ts (Ok e) f a = record { start = tree_of e; predicates = none; derived = filter_one a; value = refl }
filter_none ts (Err Syntax) f a = λ e d.
    elim (filter_cases d) [
      | inl o ↦ a _ o.derived
      | inr p ↦
          let q = predicate_cases p.right in
          let x = last_none 10 0 false ts f in
          let y = square_cut false p.prefix q.inner ((clean p.left false tt).level 0) q.derived in
          let z = p.whole in
          let w = q.whole in
          cc
    ]
filter_none ts (Err NoMemory) f a = tt

pub filter_refuses : {Y : Type 0} (s : Symbol) (view : Y → Phrase) (ts ts' : List Token) (f : Fault) → Answers {X = Y} s view ts' (Err f) → ((e : Phrase) → Derives FilterExpr ts e → (g : Phrase) × Derives s ts' g) → AnswersFilter ts (Err f)
filter_refuses s view ts ts' Syntax refused h = λ e d. let x = h e d in refused x.0 x.1
filter_refuses s view ts ts' NoMemory refused h = tt

pub filter_made : (ts : List Token) (i : ℕ) (a : Tree) (ps : Trees) (r : Result Expr Fault) → FirstAt 10 ts i → Derives PrimaryExpr (take i ts) (expr a) → Derives Predicates (drop i ts) (exprs ps) → Gives r (λ e. tree_of e ≡ filter a ps) → AnswersFilter ts r
filter_made ts i a ps (Ok e) c left right h =
    let square = rank_square (ended false c.prefix) c.token c.is in
    let w : drop i ts ≡ OpenSquare ∷ c.rest = ap (drop i) c.whole ∙ drop_at c.prefix (c.token ∷ c.rest) i c.place ∙ ap (λ x. x ∷ c.rest) square in
    let x = some_predicates a (subst (λ z. Derives Predicates z (exprs ps)) w right) in
    record { start = a; predicates = ps; derived = subst (λ z. Derives FilterExpr z (filtered a ps)) (take-append-drop i ts) (filter_join left right); value = h ∙ sym x }
filter_made ts i a ps (Err Syntax) c left right h = absurd h
filter_made ts i a ps (Err NoMemory) c left right h = tt

-- primary expressions
pub primary_made : {ts us : List Token} {a : Tree} → ts ≡ Open ∷ (us ++ Close ∷ []) → Derives OrExpr us (expr a) → Derives PrimaryExpr ts (expr a)
primary_made w d = rw w (primary_bracket d)

pub primary_inner : {ts us : List Token} → ts ≡ Open ∷ (us ++ Close ∷ []) → (e : Phrase) → Derives PrimaryExpr ts e → (g : Phrase) × Derives OrExpr us g
primary_inner {ts} {us} w e d =
    let k = primary_open (subst (λ x. Derives PrimaryExpr x e) w d) in
    let h = append_cancel_right k.0 us (Close ∷ []) (sym k.3) in
    (expr k.1, subst (λ x. Derives OrExpr x (expr k.1)) h k.2)

pub variable_made : {ts : List Token} {n : List ℕ} {b : Tree} → ts ≡ Variable n ∷ [] → b ≡ variable n → Derives PrimaryExpr ts (expr b)
variable_made w h = rw (w, h) primary_variable

pub literal_made : {ts : List Token} {t : List ℕ} {b : Tree} → ts ≡ Literal t ∷ [] → b ≡ literal t → Derives PrimaryExpr ts (expr b)
literal_made w h = rw (w, h) primary_literal

pub number_made : {ts : List Token} {n : List ℕ} {b : Tree} → ts ≡ Number n ∷ [] → b ≡ number n → Derives PrimaryExpr ts (expr b)
number_made w h = rw (w, h) primary_number

pub call_made : {ts us : List Token} {f : List ℕ} {es : Trees} {b : Tree} → ts ≡ Function f ∷ Open ∷ (us ++ Close ∷ []) → Derives Arguments us (exprs es) → b ≡ call f es → Derives PrimaryExpr ts (expr b)
call_made w d h = rw (w, h) (call_some d)

pub call_made_none : {ts us : List Token} {f : List ℕ} {b : Tree} → ts ≡ Function f ∷ Open ∷ (us ++ Close ∷ []) → us ≡ [] → b ≡ call f none → Derives PrimaryExpr ts (expr b)
call_made_none w e h = rw (w, e, h) call_none

pub call_inner : {ts us : List Token} {f : List ℕ} → ts ≡ Function f ∷ Open ∷ (us ++ Close ∷ []) → us ≢ [] → (e : Phrase) → Derives PrimaryExpr ts e → (g : Phrase) × Derives Arguments us g
call_inner {ts} {us} w ne e d =
    elim (primary_call (subst (λ x. Derives PrimaryExpr x e) w d)) [
      | inl k ↦ absurd (ne (append_cancel_right us [] (Close ∷ []) k.0))
      | inr k ↦
          let h = append_cancel_right k.0 us (Close ∷ []) (sym k.3) in
          (exprs k.1, subst (λ x. Derives Arguments x (exprs k.1)) h k.2)
    ]

pub no_primary_shape : {ts : List Token} → NotPrimary ts → (e : Phrase) → Derives PrimaryExpr ts e → ⊥
no_primary_shape no' e (primary_bracket d) = no'.bracketed _ refl
no_primary_shape no' e primary_variable = no'.variable _ refl
no_primary_shape no' e primary_literal = no'.literal _ refl
no_primary_shape no' e primary_number = no'.number _ refl
no_primary_shape no' e call_none = no'.call _ [] refl
no_primary_shape no' e (call_some d) = no'.call _ _ refl

-- lists that grow at the start
adds_none : (xs : Trees) → adds xs none ≡ xs
adds_none none = refl
adds_none (more x xs) = ap (more x) (adds_none xs)

adds_appended : (xs : Trees) (y : Tree) (zs : Trees) → adds (appended xs y) zs ≡ adds xs (more y zs)
adds_appended none y zs = refl
adds_appended (more x xs) y zs = ap (more x) (adds_appended xs y zs)

joined_stop : (w : Walk) → joined w stop ≡ w
joined_stop stop = refl
joined_stop (go a t p w) = ap (go a t p) (joined_stop w)

joined_assoc : (u v w : Walk) → joined (joined u v) w ≡ joined u (joined v w)
joined_assoc stop v w = refl
joined_assoc (go a t p u) v w = ap (go a t p) (joined_assoc u v w)

pub trees_begin : (s : Symbol) (ts : List Token) → Remaining s exprs (λ es. adds es none) ts ts
trees_begin s ts = record {
  within = omega arith;
  sound = λ es d. subst (λ x. Derives s ts (exprs x)) (sym (adds_none es)) d;
  only = λ e d. (e, d);
}

pub walks_begin : (ts : List Token) → Remaining RelativeLocationPath walk (λ w. joined w stop) ts ts
walks_begin ts = record {
  within = omega arith;
  sound = λ w d. subst (λ x. Derives RelativeLocationPath ts (walk x)) (sym (joined_stop w)) d;
  only = λ e d. (e, d);
}

take_within : (i : ℕ) (ts : List Token) {n : ℕ} → length ts ≤ n → length (take i ts) ≤ n
take_within i ts h = omega (arith, length-take i ts)

pub arguments_on : {ts rest : List Token} {i : ℕ} {all all' : Trees} {a : Tree} → Remaining Arguments exprs (λ es. adds es all) ts rest → CutsAt 0 rest i → Derives OrExpr (drop (i + 1) rest) (expr a) → all' ≡ more a all → Remaining Arguments exprs (λ es. adds es all') ts (take i rest)
arguments_on {ts} {rest} {i} {all} {all'} {a} r c d h =
    let s = sliced 0 rest i c in
    let comma = rank_comma (ended false c.prefix) c.token c.cuts.is in
    let w : take i rest ++ Comma ∷ drop (i + 1) rest ≡ rest = ap (λ x. take i rest ++ x ∷ drop (i + 1) rest) (sym comma) ∙ sym s.whole in
    record {
      within = take_within i rest r.within;
      sound = λ es k. subst (λ x. Derives Arguments ts (exprs x)) (adds_appended es a all ∙ ap (adds es) (sym h)) (r.sound (appended es a) (subst (λ x. Derives Arguments x (exprs (appended es a))) w (arguments_more k d)));
      only = λ e k. let x = r.only e k in cut_left ArgumentLevel c x.0 x.1;
    }

pub arguments_end : {ts rest : List Token} {all b : Trees} {a : Tree} → Remaining Arguments exprs (λ es. adds es all) ts rest → Derives OrExpr rest (expr a) → b ≡ more a all → Derives Arguments ts (exprs b)
arguments_end {a = a} r d h = rw h (r.sound (more a none) (arguments_one d))

pub record PredicateParts (ts : List Token) (i : ℕ) : Type 0 where
  pub prefix : Phrase
  pub inner : List Token
  pub part : Phrase
  pub left : Derives Predicates (take i ts) prefix
  pub right : Derives OrExpr inner part
  pub whole : drop (i + 1) ts ≡ inner ++ CloseSquare ∷ []

pub predicate_parts : {ts : List Token} {i : ℕ} → CutsAt 10 ts i → (e : Phrase) → Derives Predicates ts e → PredicateParts ts i
predicate_parts {ts} {i} c e d =
    let s = sliced 10 ts i c in
    let mine = ap (last_cut 10 0 false) s.whole ∙ last_cuts s.cuts in
    elim (predicates_cases d) [
      | inl k ↦ let z = ap (last_cut 10 0 false) k.0 in absurd cc
      | inr m ↦
          let q = predicate_cases m.right in
          let its = square_cut false m.prefix q.inner ((clean m.left true refl).level 0) q.derived in
          let w : ts ≡ m.prefix ++ OpenSquare ∷ (q.inner ++ CloseSquare ∷ []) = m.whole ∙ ap (λ x. m.prefix ++ x) q.whole in
          let z = ap (last_cut 10 0 false) w in
          let prefix : take i ts ≡ m.prefix = cc in
          let rest : drop (i + 1) ts ≡ q.inner ++ CloseSquare ∷ [] = cc in
          record { prefix = exprs m.predicates; inner = q.inner; part = expr q.part; left = rw prefix m.left; right = q.derived; whole = rest }
    ]

pub no_predicate : {ts : List Token} → ts ≢ [] → Free 10 0 false ts → (e : Phrase) → Derives Predicates ts e → ⊥
no_predicate {ts} ne f e d =
    elim (predicates_cases d) [
      | inl k ↦ ne k.0
      | inr m ↦
          let q = predicate_cases m.right in
          let its = square_cut false m.prefix q.inner ((clean m.left true refl).level 0) q.derived in
          let w : ts ≡ m.prefix ++ OpenSquare ∷ (q.inner ++ CloseSquare ∷ []) = m.whole ∙ ap (λ x. m.prefix ++ x) q.whole in
          let z = ap (last_cut 10 0 false) w in
          let x = last_none 10 0 false ts f in
          cc
    ]

pub predicate_inner : {ts us : List Token} {i : ℕ} → CutsAt 10 ts i → drop (i + 1) ts ≡ us ++ CloseSquare ∷ [] → (e : Phrase) → Derives Predicates ts e → (g : Phrase) × Derives OrExpr us g
predicate_inner {us = us} c w e d =
    let p = predicate_parts c e d in
    let h = append_cancel_right p.inner us (CloseSquare ∷ []) (sym p.whole ∙ w) in
    (p.part, subst (λ x. Derives OrExpr x p.part) h p.right)

pub predicates_on : {ts rest us : List Token} {i : ℕ} {all all' : Trees} {a : Tree} → Remaining Predicates exprs (λ es. adds es all) ts rest → CutsAt 10 rest i → drop (i + 1) rest ≡ us ++ CloseSquare ∷ [] → Derives OrExpr us (expr a) → all' ≡ more a all → Remaining Predicates exprs (λ es. adds es all') ts (take i rest)
predicates_on {ts} {rest} {us} {i} {all} {all'} {a} r c u d h =
    let s = sliced 10 rest i c in
    let square = rank_square (ended false c.prefix) c.token c.cuts.is in
    let w : take i rest ++ OpenSquare ∷ (us ++ CloseSquare ∷ []) ≡ rest = ap (λ x. take i rest ++ OpenSquare ∷ x) (sym u) ∙ ap (λ x. take i rest ++ x ∷ drop (i + 1) rest) (sym square) ∙ sym s.whole in
    record {
      within = take_within i rest r.within;
      sound = λ es k. subst (λ x. Derives Predicates ts (exprs x)) (adds_appended es a all ∙ ap (adds es) (sym h)) (r.sound (appended es a) (subst (λ x. Derives Predicates x (exprs (appended es a))) w (predicates_more k (predicate d))));
      only = λ e k. let x = r.only e k in let p = predicate_parts c x.0 x.1 in (p.prefix, p.left);
    }

pub predicates_end : {ts rest : List Token} {all : Trees} → Remaining Predicates exprs (λ es. adds es all) ts rest → rest ≡ [] → Derives Predicates ts (exprs all)
predicates_end r e = r.sound none (rw e predicates_none)

-- relative paths
pub relative_on : {ts rest : List Token} {i : ℕ} {all all' v : Walk} {w : Walk} (t : Token) → Remaining RelativeLocationPath walk (λ x. joined x all) ts rest → CutsAt 9 rest i → t ≡ get_or rest i t → Derives StepPart (drop (i + 1) rest) (walk w) → v ≡ joined w all → all' ≡ after_slash t v → Remaining RelativeLocationPath walk (λ x. joined x all') ts (take i rest)
relative_on {ts} {rest} {i} {all} {all'} {v} {w} t r c at d hv h =
    let s = sliced 9 rest i c in
    let e = token_at 9 rest i c t at in
    let slash = rank_slash (ended false c.prefix) t (rw (← e) c.cuts.is) in
    let whole : take i rest ++ t ∷ drop (i + 1) rest ≡ rest = ap (λ x. take i rest ++ x ∷ drop (i + 1) rest) (sym e) ∙ sym s.whole in
    record {
      within = take_within i rest r.within;
      sound = λ x k. elim slash [
        | inl f ↦
            let one = subst (λ z. Derives RelativeLocationPath z (walk (joined x w))) (ap (λ y. take i rest ++ y ∷ drop (i + 1) rest) (sym f) ∙ whole) (relative_slash k d) in
            let same : joined (joined x w) all ≡ joined x all' = joined_assoc x w all ∙ ap (joined x) (sym hv ∙ sym (h ∙ ap (λ y. after_slash y v) f)) in
            subst (λ z. Derives RelativeLocationPath ts (walk z)) same (r.sound (joined x w) one)
        | inr f ↦
            let one = subst (λ z. Derives RelativeLocationPath z (walk (joined x (any_depth w)))) (ap (λ y. take i rest ++ y ∷ drop (i + 1) rest) (sym f) ∙ whole) (relative_slash_slash k d) in
            let same : joined (joined x (any_depth w)) all ≡ joined x all' = joined_assoc x (any_depth w) all ∙ ap (λ y. joined x (any_depth y)) (sym hv) ∙ ap (joined x) (sym (h ∙ ap (λ y. after_slash y v) f)) in
            subst (λ z. Derives RelativeLocationPath ts (walk z)) same (r.sound (joined x (any_depth w)) one)
      ];
      only = λ e k. let x = r.only e k in cut_left RelativeLevel c x.0 x.1;
    }

pub relative_end : {ts rest : List Token} {all b w : Walk} → Remaining RelativeLocationPath walk (λ x. joined x all) ts rest → Derives StepPart rest (walk w) → b ≡ joined w all → Derives RelativeLocationPath ts (walk b)
relative_end {w = w} r d h = rw h (r.sound w (relative_one d))

-- steps
pub dot_made : (ts : List Token) (a : Axis) → dot_axis ts ≡ Some a → Derives StepPart ts (walk (go (Known a) test.Node none stop))
dot_made (Dot ∷ []) a h = let e : axis.Itself ≡ a = cc in subst (λ z. Derives StepPart (Dot ∷ []) (walk (go (Known z) test.Node none stop))) e step_dot
dot_made (DotDot ∷ []) a h = let e : axis.Parent ≡ a = cc in subst (λ z. Derives StepPart (DotDot ∷ []) (walk (go (Known z) test.Node none stop))) e step_dots
dot_made ts a h = absurd cc

pub step_parts : {ts : List Token} → dot_axis ts ≡ None → (e : Phrase) → Derives StepPart ts e → Stepped ts e
step_parts {ts} n e d = this (step_cases d)
  where
    this : StepForm ts e → Stepped ts e
    this (is_dot h v) = let k = ap dot_axis h in absurd cc
    this (is_dots h v) = let k = ap dot_axis h in absurd cc
    this (is_step m s) = s

pub no_step : {ts : List Token} → dot_axis ts ≡ None → test_of (after_axis ts) ≡ None → (e : Phrase) → Derives StepPart ts e → ⊥
no_step n m e d = let s = step_parts n e d in let t = s.is_test in cc

step_refused : (ts : List Token) (f : Fault) → dot_axis ts ≡ None → IsStepTest (after_axis ts) (Err f) → Answers {X = Step} StepPart as_step ts (Err f)
step_refused ts Syntax n h = λ e d. no_step n h e d
step_refused ts NoMemory n h = tt

pub step_refused_at : (ts : List Token) (f : Fault) (r : Result Step Fault) → dot_axis ts ≡ None → IsErrAnd r (λ y. y ≡ f) → IsStepTest (after_axis ts) (Err f) → Answers StepPart as_step ts r
step_refused_at ts f r n h k = let p = err_from_is_err_and r h in rw (p.1, p.2) (step_refused ts f n k)

pub step_rest : {ts : List Token} → dot_axis ts ≡ None → (e : Phrase) → Derives StepPart ts e → (g : Phrase) × Derives Predicates (after_test (after_axis ts)) g
step_rest n e d = let s = step_parts n e d in (exprs s.predicates, s.derived)

pub step_made : (ts : List Token) {t : StepTest} {ps : Trees} → test_of (after_axis ts) ≡ Some t → Derives Predicates (after_test (after_axis ts)) (exprs ps) → Derives StepPart ts (walk (go (axis_of ts) t ps stop))
step_made ts {t} {ps} h d =
    let a = axis_split ts in
    let k = test_split (after_axis ts) t h in
    let w : ts ≡ a.0 ++ (k.0 ++ after_test (after_axis ts)) = a.2 ∙ ap (λ z. a.0 ++ z) k.2 in
    subst (λ z. Derives StepPart z (walk (go (axis_of ts) t ps stop))) (sym w) (step a.0 k.0 (after_test (after_axis ts)) a.1 k.1 d)

-- the exit of a call whose refusal is passed on
pub refuses_at : {X Y : Type 0} (s s' : Symbol) (view : X → Phrase) (view' : Y → Phrase) (ts ts' : List Token) (f : Fault) (r : Result X Fault) → IsErrAnd r (λ y. y ≡ f) → Answers {X = Y} s' view' ts' (Err f) → ((e : Phrase) → Derives s ts e → (g : Phrase) × Derives s' ts' g) → Answers s view ts r
refuses_at s s' view view' ts ts' f r h refused g = let p = err_from_is_err_and r h in rw (p.1, p.2) (refuses s s' view view' ts ts' f refused g)

pub filter_refuses_at : {Y : Type 0} (s : Symbol) (view : Y → Phrase) (ts ts' : List Token) (f : Fault) (r : Result Expr Fault) → IsErrAnd r (λ y. y ≡ f) → Answers {X = Y} s view ts' (Err f) → ((e : Phrase) → Derives FilterExpr ts e → (g : Phrase) × Derives s ts' g) → AnswersFilter ts r
filter_refuses_at s view ts ts' f r h refused g = let p = err_from_is_err_and r h in rw (p.1, p.2) (filter_refuses s view ts ts' f refused g)

-- the same, of a call on what is left of a list from a place on
pub filter_refuses_after : {Y : Type 0} (s : Symbol) (view : Y → Phrase) (ts xs : List Token) (k : ℕ) (f : Fault) (r : Result Expr Fault) → IsErrAnd r (λ y. y ≡ f) → Answers {X = Y} s view (take (length xs - k) (drop k xs)) (Err f) → ((e : Phrase) → Derives FilterExpr ts e → (g : Phrase) × Derives s (drop k xs) g) → AnswersFilter ts r
filter_refuses_after {Y} s view ts xs k f r h refused g =
    filter_refuses_at s view ts (drop k xs) f r h (subst (λ z. Answers {X = Y} s view z (Err f)) (take_rest xs k) refused) g

-- a chain of operators, from the last
pub chain_begin : (s : Symbol) (ts : List Token) → Remaining s expr (λ a. applied a []) ts ts
chain_begin s ts = record { within = omega arith; sound = λ a d. d; only = λ e d. (e, d) }

pub chain_on : (l : Binary) {ts rest : List Token} {i : ℕ} (ps : List (Bor Token × Expr)) (p : Bor Token × Expr) → Remaining (symbol (form l)) expr (λ a. applied a ps) ts rest → CutsAt (rank_of (form l)) rest i → p.0.now ≡ get_or rest i p.0.now → Derives (operand (form l)) (drop (i + 1) rest) (expr (tree_of p.1)) → Remaining (symbol (form l)) expr (λ a. applied a (ps ++ p ∷ [])) ts (take i rest)
chain_on l {ts} {rest} {i} ps p r c at d =
    let op = operates l (ended false c.prefix) c.token c.cuts.is in
    let e = token_at (rank_of (form l)) rest i c p.0.now at in
    let binary : IsBinary p.0.now = subst IsBinary e (operates-binary op) in
    record {
      within = take_within i rest r.within;
      sound = λ a k.
          let one = cut_both l p.0.now c at k d in
          let two = subst (λ z. Derives (symbol (form l)) rest z) (join-combined p.0.now a (tree_of p.1) binary) one in
          subst (λ z. Derives (symbol (form l)) ts (expr z)) (sym (applied-push a ps p)) (r.sound (tree_join p.0.now a (tree_of p.1)) two);
      only = λ f k. let x = r.only f k in cut_left (form l) c x.0 x.1;
    }

pub chain_binary : (l : Binary) {rest : List Token} {i : ℕ} (t : Token) → CutsAt (rank_of (form l)) rest i → t ≡ get_or rest i t → IsBinary t
chain_binary l {rest} {i} t c at = subst IsBinary (token_at (rank_of (form l)) rest i c t at) (operates-binary (operates l (ended false c.prefix) c.token c.cuts.is))
