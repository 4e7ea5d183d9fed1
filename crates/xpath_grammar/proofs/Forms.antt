-- The forms of the symbols that have no operator between two parts of one kind.
use Rattle.std.proofs.Common.{◌≡◌, ℕ, zero, suc, List, [], ◌∷◌, ◌++◌, Bool, true, false, cond, Option, Some, None, refl, sym, ◌∙◌, ap, subst, arith, ◌⊎◌, inl, inr}
use Rattle.std.proofs.lemmas.Bool.{eq-eqb}
use Rattle.xpath_tokens.specs.declared.Token.{Token}
use Rattle.xpath_tokens.specs.declared.Token.TheVariants.{Open, Close, OpenSquare, CloseSquare, Dot, DotDot, At, ColonColon, Any, AnyIn, Named, Kind, Arithmetic, Slash, SlashSlash, Function, AxisName, Literal, Number, Variable}
use Rattle.xpath_tokens.specs.declared.Operator.TheVariants.{Subtract}
use Rattle.xml_model.specs.declared.Axis.TheVariants as axis
use Rattle.xpath_tokens.specs.declared.StepAxis.{StepAxis}
use Rattle.xpath_tokens.specs.declared.StepAxis.TheVariants.{Known}
use Rattle.xpath_tokens.specs.declared.NodeType.{NodeType}
use Rattle.xpath_tokens.specs.declared.NodeType.TheVariants as kind
use Rattle.xpath_grammar.specs.declared.expr.StepTest.{StepTest}
use Rattle.xpath_grammar.specs.declared.expr.StepTest.TheVariants as test
use Rattle.xpath_grammar.specs.Tree.{Tree, Trees, Walk, negate, path, from, literal, number, variable, call, none, stop, go}
use Rattle.xpath_grammar.specs.Grammar.{Symbol, OrExpr, UnaryExpr, UnionExpr, PathExpr, FilterExpr, PrimaryExpr, Arguments, LocationPath, RelativeLocationPath, StepPart, Predicates, Predicate, Phrase, expr, exprs, filtered, walk, appended, filter_tree, any_depth, Derives, unary_one, unary_minus, path_location, path_filter, path_slash, path_slash_slash, filter_one, filter_more, primary_bracket, primary_variable, primary_literal, primary_number, call_none, call_some, location_relative, location_root, location_slash, location_slash_slash, relative_one, relative_slash, relative_slash_slash, step, step_dot, step_dots, IsAxis, axis_name, axis_at, axis_child, IsTest, test_any, test_any_in, test_named, test_kind, test_target, kind_test, predicates_none, predicates_more, predicate, ends, depth_after, depth, ended}
use Rattle.xpath_grammar.specs.Cutting.{rank, Free, after_slash}
use Rattle.xpath_grammar.specs.Shape.{starts_primary, first, axis_of, after_axis, test_of, after_test, dot_axis}
use Rattle.xpath_grammar.proofs.Clean.{clean, Free-append}
use Rattle.xpath_grammar.proofs.Cut.{Cut, cut, here, here_none, last_cut, last_at}

-- a unary expression is a union, or a minus and a unary expression
pub record Minused (ts : List Token) (e : Phrase) : Type 0 where
  pub rest : List Token
  pub part : Tree
  pub derived : Derives UnaryExpr rest (expr part)
  pub whole : ts ≡ Arithmetic Subtract ∷ rest
  pub value : e ≡ expr (negate part)

pub unary_cases : {ts : List Token} {e : Phrase} → Derives UnaryExpr ts e → Derives UnionExpr ts e ⊎ Minused ts e
unary_cases (unary_one d) = inl d
unary_cases (unary_minus d) = inr (record { rest = _; part = _; derived = d; whole = refl; value = refl })

pub no_minus : {ts : List Token} {e : Phrase} → Derives UnionExpr ts e → (us : List Token) → ts ≡ Arithmetic Subtract ∷ us → ⊥
no_minus {ts} {e} d us h = ((clean (subst (λ x. Derives UnionExpr x e) h d) true tt).flat 5 (omega arith)).0 refl

pub unary_minus_cases : {us : List Token} {e : Phrase} → Derives UnaryExpr (Arithmetic Subtract ∷ us) e → (a : Tree) × Derives UnaryExpr us (expr a) × (e ≡ expr (negate a))
unary_minus_cases {us} d =
    elim (unary_cases d) [
      | inl u ↦ absurd (no_minus u us refl)
      | inr m ↦ let same : m.rest ≡ us = let w = m.whole in cc in (m.part, subst (λ x. Derives UnaryExpr x (expr m.part)) same m.derived, m.value)
    ]

-- what the first token shows
abbrev pub starts_step : Token → Bool
starts_step Any = true
starts_step (AnyIn p) = true
starts_step (Named p n) = true
starts_step (Kind k) = true
starts_step (AxisName a) = true
starts_step At = true
starts_step Dot = true
starts_step DotDot = true
starts_step _ = false

pub first-append : (p : Token → Bool) (us vs : List Token) → first p us ≡ true → first p (us ++ vs) ≡ true
first-append p [] vs h = cc
first-append p (u ∷ us) vs h = h

no_primary : (t : Token) → starts_step t ≡ true → starts_primary t ≡ false
no_primary Any h = refl
no_primary (AnyIn p) h = refl
no_primary (Named p n) h = refl
no_primary (Kind k) h = refl
no_primary (AxisName a) h = refl
no_primary DotDot h = refl
no_primary At h = refl
no_primary Dot h = refl
no_primary _ h = cc

no_primary_first : (ts : List Token) → first starts_step ts ≡ true → first starts_primary ts ≡ false
no_primary_first [] h = cc
no_primary_first (t ∷ ts) h = no_primary t h

abbrev pub Starts : Symbol → List Token → Type 0
Starts PrimaryExpr ts = first starts_primary ts ≡ true
Starts FilterExpr ts = first starts_primary ts ≡ true
Starts LocationPath ts = first starts_primary ts ≡ false
Starts RelativeLocationPath ts = first starts_step ts ≡ true
Starts StepPart ts = first starts_step ts ≡ true
Starts _ ts = Unit {0}

starts_test : {vs : List Token} (ws : List Token) {t : StepTest} → IsTest vs t → first starts_step (vs ++ ws) ≡ true
starts_test ws test_any = refl
starts_test ws test_any_in = refl
starts_test ws test_named = refl
starts_test ws test_kind = refl
starts_test ws test_target = refl

starts_axis : {us : List Token} (ts : List Token) {a : StepAxis} → IsAxis us a → first starts_step ts ≡ true → first starts_step (us ++ ts) ≡ true
starts_axis ts axis_name h = refl
starts_axis ts axis_at h = refl
starts_axis ts axis_child h = h

pub starts : {s : Symbol} {ts : List Token} {e : Phrase} → Derives s ts e → Starts s ts
starts (filter_one d) = starts d
starts (filter_more {us} {vs} c d) = first-append starts_primary us vs (starts c)
starts (primary_bracket d) = refl
starts primary_variable = refl
starts primary_literal = refl
starts primary_number = refl
starts call_none = refl
starts (call_some d) = refl
starts (location_relative {ts} d) = no_primary_first ts (starts d)
starts location_root = refl
starts (location_slash d) = refl
starts (location_slash_slash d) = refl
starts (relative_one d) = starts d
starts (relative_slash {us} {vs} c d) = first-append starts_step us (Slash ∷ vs) (starts c)
starts (relative_slash_slash {us} {vs} c d) = first-append starts_step us (SlashSlash ∷ vs) (starts c)
starts (step us vs ws a t d) = starts_axis (vs ++ ws) a (starts_test ws t)
starts step_dot = refl
starts step_dots = refl
starts _ = tt

-- the first cut of a list at a rank
abbrev pub earlier : Option Cut → Token → Option Cut → Option Cut
earlier (Some c) u o = Some c
earlier None u (Some (cut us t vs)) = Some (cut (u ∷ us) t vs)
earlier None u None = None

abbrev pub first_cut : ℕ → ℕ → Bool → List Token → Option Cut
first_cut k d b [] = None
first_cut k d b (t ∷ ts) = earlier (here k d b t ts) t (first_cut k (depth_after d t) (ends t) ts)

pub first_none : (k d : ℕ) (b : Bool) (ts : List Token) → Free k d b ts → first_cut k d b ts ≡ None
first_none k d b [] f = refl
first_none k d b (t ∷ ts) f =
    ap (λ o. earlier o t (first_cut k (depth_after d t) (ends t) ts)) (here_none k d b t ts f.0) ∙ ap (earlier None t) (first_none k (depth_after d t) (ends t) ts f.1)

pub first_at : (k d : ℕ) (b : Bool) (us : List Token) (t : Token) (vs : List Token) → Free k d b us → depth d us ≡ 0 → rank (ended b us) t ≡ k → first_cut k d b (us ++ t ∷ vs) ≡ Some (cut us t vs)
first_at k zero b [] t vs f e r = ap (λ x. earlier (cond x (Some (cut [] t vs)) None) t (first_cut k (depth_after 0 t) (ends t) vs)) (eq-eqb (rank b t) k r)
first_at k (suc d) b [] t vs f e r = absurd (omega arith)
first_at k d b (u ∷ us) t vs f e r =
    ap (λ o. earlier o u (first_cut k (depth_after d u) (ends u) (us ++ t ∷ vs))) (here_none k d b u (us ++ t ∷ vs) f.0) ∙ ap (earlier None u) (first_at k (depth_after d u) (ends u) us t vs f.1 e r)

pub record Fromed (ts : List Token) (e : Phrase) : Type 0 where
  pub prefix : List Token
  pub token : Token
  pub rest : List Token
  pub start : Tree
  pub predicates : Trees
  pub steps : Walk
  pub left : Derives FilterExpr prefix (filtered start predicates)
  pub right : Derives RelativeLocationPath rest (walk steps)
  pub whole : ts ≡ prefix ++ token ∷ rest
  pub cuts : first_cut 9 0 false (prefix ++ token ∷ rest) ≡ Some (cut prefix token rest)
  pub value : e ≡ expr (from (filter_tree start predicates) (after_slash token steps))

pub data PathForm (ts : List Token) (e : Phrase) : Type 0 where
  is_location : Derives LocationPath ts e → PathForm ts e
  is_filter : {a : Tree} {ps : Trees} → Derives FilterExpr ts (filtered a ps) → e ≡ expr (filter_tree a ps) → PathForm ts e
  is_from : Fromed ts e → PathForm ts e

pub slash_cut : {us : List Token} {x : Phrase} (t : Token) (vs : List Token) → Derives FilterExpr us x → rank true t ≡ 9 → first_cut 9 0 false (us ++ t ∷ vs) ≡ Some (cut us t vs)
slash_cut {us} t vs d r =
    let c = clean d false tt in
    first_at 9 0 false us t vs (c.flat 9 (omega arith)) (c.level 0) (rw c.last r)

pub path_cases : {ts : List Token} {e : Phrase} → Derives PathExpr ts e → PathForm ts e
path_cases (path_location d) = is_location d
path_cases (path_filter d) = is_filter d refl
path_cases (path_slash c d) = is_from (record { prefix = _; token = Slash; rest = _; start = _; predicates = _; steps = _; left = c; right = d; whole = refl; cuts = slash_cut Slash _ c refl; value = refl })
path_cases (path_slash_slash c d) = is_from (record { prefix = _; token = SlashSlash; rest = _; start = _; predicates = _; steps = _; left = c; right = d; whole = refl; cuts = slash_cut SlashSlash _ c refl; value = refl })

-- a predicate after something
pub record Bracketed (vs : List Token) (e : Phrase) : Type 0 where
  pub inner : List Token
  pub part : Tree
  pub derived : Derives OrExpr inner (expr part)
  pub whole : vs ≡ OpenSquare ∷ (inner ++ CloseSquare ∷ [])
  pub value : e ≡ expr part

pub predicate_cases : {vs : List Token} {e : Phrase} → Derives Predicate vs e → Bracketed vs e
predicate_cases (predicate d) = record { inner = _; part = _; derived = d; whole = refl; value = refl }

pub square_cut : (b : Bool) (us inner : List Token) {x : Phrase} → depth 0 us ≡ 0 → Derives OrExpr inner x → last_cut 10 0 b (us ++ OpenSquare ∷ (inner ++ CloseSquare ∷ [])) ≡ Some (cut us OpenSquare (inner ++ CloseSquare ∷ []))
square_cut b us inner e d =
    let c = clean d false refl in
    last_at 10 0 b us OpenSquare (inner ++ CloseSquare ∷ []) e refl (Free-append 10 1 false inner (CloseSquare ∷ []) (c.deep 10 0) (rw (c.level 1) (tt, tt)))

pub same_cuts : {us vs us' vs' : List Token} {e f : Phrase} → depth 0 us ≡ 0 → depth 0 us' ≡ 0 → Derives Predicate vs e → Derives Predicate vs' f → us ++ vs ≡ us' ++ vs' → (us ≡ us') × (vs ≡ vs')
same_cuts {us} {vs} {us'} {vs'} h h' d d' same =
    let p = predicate_cases d in
    let q = predicate_cases d' in
    let x = square_cut true us p.inner h p.derived in
    let y = square_cut true us' q.inner h' q.derived in
    let pw = p.whole in
    let qw = q.whole in
    let z : us ++ OpenSquare ∷ (p.inner ++ CloseSquare ∷ []) ≡ us' ++ OpenSquare ∷ (q.inner ++ CloseSquare ∷ []) = cc in
    let w = ap (last_cut 10 0 true) z in
    (cc (w, x, y), cc (w, x, y))

pub record Filtered (ts : List Token) (e : Phrase) : Type 0 where
  pub prefix : List Token
  pub rest : List Token
  pub start : Tree
  pub predicates : Trees
  pub part : Tree
  pub left : Derives FilterExpr prefix (filtered start predicates)
  pub right : Derives Predicate rest (expr part)
  pub whole : ts ≡ prefix ++ rest
  pub value : e ≡ filtered start (appended predicates part)

pub record OnePrimary (ts : List Token) (e : Phrase) : Type 0 where
  pub part : Tree
  pub derived : Derives PrimaryExpr ts (expr part)
  pub value : e ≡ filtered part none

pub filter_cases : {ts : List Token} {e : Phrase} → Derives FilterExpr ts e → OnePrimary ts e ⊎ Filtered ts e
filter_cases (filter_one d) = inl (record { part = _; derived = d; value = refl })
filter_cases (filter_more c d) = inr (record { prefix = _; rest = _; start = _; predicates = _; part = _; left = c; right = d; whole = refl; value = refl })

pub record More (ts : List Token) (e : Phrase) : Type 0 where
  pub prefix : List Token
  pub rest : List Token
  pub predicates : Trees
  pub part : Tree
  pub left : Derives Predicates prefix (exprs predicates)
  pub right : Derives Predicate rest (expr part)
  pub whole : ts ≡ prefix ++ rest
  pub value : e ≡ exprs (appended predicates part)

pub predicates_cases : {ts : List Token} {e : Phrase} → Derives Predicates ts e → ((ts ≡ []) × (e ≡ exprs none)) ⊎ More ts e
predicates_cases predicates_none = inl (refl, refl)
predicates_cases (predicates_more c d) = inr (record { prefix = _; rest = _; predicates = _; part = _; left = c; right = d; whole = refl; value = refl })

-- the forms that the first tokens show
pub primary_open : {us : List Token} {e : Phrase} → Derives PrimaryExpr (Open ∷ us) e → (ts : List Token) × (a : Tree) × Derives OrExpr ts (expr a) × (us ≡ ts ++ Close ∷ []) × (e ≡ expr a)
primary_open {us} {e} d = go d refl
  where
    go : {ts : List Token} {e : Phrase} → Derives PrimaryExpr ts e → ts ≡ Open ∷ us → (ts : List Token) × (a : Tree) × Derives OrExpr ts (expr a) × (us ≡ ts ++ Close ∷ []) × (e ≡ expr a)
    go (primary_bracket d) h = (_, _, d, cc, refl)
    go primary_variable h = cc
    go primary_literal h = cc
    go primary_number h = cc
    go call_none h = cc
    go (call_some d) h = cc

pub no_arguments : {e : Phrase} → Derives Arguments [] e → ⊥
no_arguments d = let h = (clean d false refl).last in cc

pub primary_call : {f : List ℕ} {us : List Token} {e : Phrase} → Derives PrimaryExpr (Function f ∷ Open ∷ us) e → ((us ≡ Close ∷ []) × (e ≡ expr (call f none))) ⊎ ((ts : List Token) × (es : Trees) × Derives Arguments ts (exprs es) × (us ≡ ts ++ Close ∷ []) × (e ≡ expr (call f es)))
primary_call {f} {us} d = go d refl
  where
    go : {ts : List Token} {e : Phrase} → Derives PrimaryExpr ts e → ts ≡ Function f ∷ Open ∷ us → ((us ≡ Close ∷ []) × (e ≡ expr (call f none))) ⊎ ((ts : List Token) × (es : Trees) × Derives Arguments ts (exprs es) × (us ≡ ts ++ Close ∷ []) × (e ≡ expr (call f es)))
    go (primary_bracket d) h = cc
    go primary_variable h = cc
    go primary_literal h = cc
    go primary_number h = cc
    go call_none h = inl (cc, cc)
    go (call_some d) h = inr (_, _, d, cc, cc)

pub primary_one : {n : List ℕ} {us : List Token} {e : Phrase} → Derives PrimaryExpr (Number n ∷ us) e → (us ≡ []) × (e ≡ expr (number n))
primary_one {n} {us} d = go d refl
  where
    go : {ts : List Token} {e : Phrase} → Derives PrimaryExpr ts e → ts ≡ Number n ∷ us → (us ≡ []) × (e ≡ expr (number n))
    go (primary_bracket d) h = cc
    go primary_variable h = cc
    go primary_literal h = cc
    go primary_number h = (cc, cc)
    go call_none h = cc
    go (call_some d) h = cc

pub primary_text : {t : List ℕ} {us : List Token} {e : Phrase} → Derives PrimaryExpr (Literal t ∷ us) e → (us ≡ []) × (e ≡ expr (literal t))
primary_text {t} {us} d = go d refl
  where
    go : {ts : List Token} {e : Phrase} → Derives PrimaryExpr ts e → ts ≡ Literal t ∷ us → (us ≡ []) × (e ≡ expr (literal t))
    go (primary_bracket d) h = cc
    go primary_variable h = cc
    go primary_literal h = (cc, cc)
    go primary_number h = cc
    go call_none h = cc
    go (call_some d) h = cc

pub primary_name : {n : List ℕ} {us : List Token} {e : Phrase} → Derives PrimaryExpr (Variable n ∷ us) e → (us ≡ []) × (e ≡ expr (variable n))
primary_name {n} {us} d = go d refl
  where
    go : {ts : List Token} {e : Phrase} → Derives PrimaryExpr ts e → ts ≡ Variable n ∷ us → (us ≡ []) × (e ≡ expr (variable n))
    go (primary_bracket d) h = cc
    go primary_variable h = (cc, cc)
    go primary_literal h = cc
    go primary_number h = cc
    go call_none h = cc
    go (call_some d) h = cc

pub no_relative : {e : Phrase} → Derives RelativeLocationPath [] e → ⊥
no_relative d = let h = starts d in cc

pub relative_first : {t : Token} {us : List Token} {e : Phrase} → Derives RelativeLocationPath (t ∷ us) e → starts_step t ≡ true
relative_first d = starts d

pub location_first : {us : List Token} {e : Phrase} → Derives LocationPath (Slash ∷ us) e → ((us ≡ []) × (e ≡ expr (path true stop))) ⊎ ((w : Walk) × Derives RelativeLocationPath us (walk w) × (e ≡ expr (path true w)))
location_first {us} d = go d refl
  where
    go : {ts : List Token} {e : Phrase} → Derives LocationPath ts e → ts ≡ Slash ∷ us → ((us ≡ []) × (e ≡ expr (path true stop))) ⊎ ((w : Walk) × Derives RelativeLocationPath us (walk w) × (e ≡ expr (path true w)))
    go (location_relative {w} d) h = let k = relative_first (subst (λ x. Derives RelativeLocationPath x (walk w)) h d) in absurd cc
    go location_root h = inl (cc, refl)
    go (location_slash {ts} {w} d) h = let e : ts ≡ us = cc in inr (w, subst (λ x. Derives RelativeLocationPath x (walk w)) e d, refl)
    go (location_slash_slash d) h = cc

pub location_second : {us : List Token} {e : Phrase} → Derives LocationPath (SlashSlash ∷ us) e → (w : Walk) × Derives RelativeLocationPath us (walk w) × (e ≡ expr (path true (any_depth w)))
location_second {us} d = go d refl
  where
    go : {ts : List Token} {e : Phrase} → Derives LocationPath ts e → ts ≡ SlashSlash ∷ us → (w : Walk) × Derives RelativeLocationPath us (walk w) × (e ≡ expr (path true (any_depth w)))
    go (location_relative {w} d) h = let k = relative_first (subst (λ x. Derives RelativeLocationPath x (walk w)) h d) in absurd cc
    go location_root h = cc
    go (location_slash d) h = cc
    go (location_slash_slash {ts} {w} d) h = let e : ts ≡ us = cc in (w, subst (λ x. Derives RelativeLocationPath x (walk w)) e d, refl)

pub location_other : {ts : List Token} {e : Phrase} → Derives LocationPath ts e → first starts_step ts ≡ true → (w : Walk) × Derives RelativeLocationPath ts (walk w) × (e ≡ expr (path false w))
location_other (location_relative d) h = (_, d, refl)
location_other location_root h = cc
location_other (location_slash d) h = cc
location_other (location_slash_slash d) h = cc

-- the parts of a step that its first tokens show
pub axis_read : {us vs : List Token} (ws : List Token) {a : StepAxis} {t : StepTest} → IsAxis us a → IsTest vs t → (axis_of (us ++ (vs ++ ws)) ≡ a) × (after_axis (us ++ (vs ++ ws)) ≡ vs ++ ws)
axis_read ws axis_name t = (refl, refl)
axis_read ws axis_at t = (refl, refl)
axis_read ws axis_child test_any = (refl, refl)
axis_read ws axis_child test_any_in = (refl, refl)
axis_read ws axis_child test_named = (refl, refl)
axis_read ws axis_child test_kind = (refl, refl)
axis_read ws axis_child test_target = (refl, refl)

read_kind : (k : NodeType) (ws : List Token) → (test_of (Kind k ∷ Open ∷ Close ∷ ws) ≡ Some (kind_test k)) × (after_test (Kind k ∷ Open ∷ Close ∷ ws) ≡ ws)
read_kind k ws = (refl, refl)

pub test_read : {vs : List Token} (ws : List Token) {t : StepTest} → IsTest vs t → (test_of (vs ++ ws) ≡ Some t) × (after_test (vs ++ ws) ≡ ws)
test_read ws test_any = (refl, refl)
test_read ws test_any_in = (refl, refl)
test_read ws test_named = (refl, refl)
test_read ws (test_kind {k}) = read_kind k ws
test_read ws test_target = (refl, refl)

pub record Stepped (ts : List Token) (e : Phrase) : Type 0 where
  pub test : StepTest
  pub predicates : Trees
  pub is_test : test_of (after_axis ts) ≡ Some test
  pub derived : Derives Predicates (after_test (after_axis ts)) (exprs predicates)
  pub value : e ≡ walk (go (axis_of ts) test predicates stop)

pub data StepForm (ts : List Token) (e : Phrase) : Type 0 where
  is_dot : ts ≡ Dot ∷ [] → e ≡ walk (go (Known axis.Itself) test.Node none stop) → StepForm ts e
  is_dots : ts ≡ DotDot ∷ [] → e ≡ walk (go (Known axis.Parent) test.Node none stop) → StepForm ts e
  is_step : dot_axis ts ≡ None → Stepped ts e → StepForm ts e

pub no_dots : {us vs : List Token} (ws : List Token) {a : StepAxis} {t : StepTest} → IsAxis us a → IsTest vs t → dot_axis (us ++ (vs ++ ws)) ≡ None
no_dots ws axis_name t = refl
no_dots ws axis_at t = refl
no_dots ws axis_child test_any = refl
no_dots ws axis_child test_any_in = refl
no_dots ws axis_child test_named = refl
no_dots ws axis_child test_kind = refl
no_dots ws axis_child test_target = refl

pub step_cases : {ts : List Token} {e : Phrase} → Derives StepPart ts e → StepForm ts e
step_cases (step us vs ws {t = t} {ps} a test d) =
    let x = axis_read ws a test in
    let y = test_read ws test in
    is_step (no_dots ws a test) (record {
      test = t;
      predicates = ps;
      is_test = ap test_of x.1 ∙ y.0;
      derived = subst (λ z. Derives Predicates z (exprs ps)) (sym (ap after_test x.1 ∙ y.1)) d;
      value = ap (λ z. walk (go z t ps stop)) (sym x.0);
    })
step_cases step_dot = is_dot refl refl
step_cases step_dots = is_dots refl refl

-- the tokens of an axis part and of a node test
pub axis_split : (ts : List Token) → (us : List Token) × IsAxis us (axis_of ts) × (ts ≡ us ++ after_axis ts)
axis_split [] = ([], axis_child, refl)
axis_split (AxisName a ∷ ColonColon ∷ ts) = (AxisName a ∷ ColonColon ∷ [], axis_name, refl)
axis_split (At ∷ ts) = (At ∷ [], axis_at, refl)
axis_split ts = ([], axis_child, refl)

pub test_split : (ts : List Token) (t : StepTest) → test_of ts ≡ Some t → (vs : List Token) × IsTest vs t × (ts ≡ vs ++ after_test ts)
test_split (Any ∷ ts) t h = let e : test.Any ≡ t = cc in (Any ∷ [], subst (λ z. IsTest (Any ∷ []) z) e test_any, refl)
test_split (AnyIn p ∷ ts) t h = let e : test.AnyIn p ≡ t = cc in (AnyIn p ∷ [], subst (λ z. IsTest (AnyIn p ∷ []) z) e test_any_in, refl)
test_split (Named p n ∷ ts) t h = let e : test.Named p n ≡ t = cc in (Named p n ∷ [], subst (λ z. IsTest (Named p n ∷ []) z) e test_named, refl)
test_split (Kind k ∷ Open ∷ Close ∷ ts) t h = let e : kind_test k ≡ t = cc in (Kind k ∷ Open ∷ Close ∷ [], subst (λ z. IsTest (Kind k ∷ Open ∷ Close ∷ []) z) e test_kind, refl)
test_split (Kind kind.Instruction ∷ Open ∷ Literal l ∷ Close ∷ ts) t h = let e : test.Target l ≡ t = cc in (Kind kind.Instruction ∷ Open ∷ Literal l ∷ Close ∷ [], subst (λ z. IsTest (Kind kind.Instruction ∷ Open ∷ Literal l ∷ Close ∷ []) z) e test_target, refl)
test_split ts t h = absurd cc
