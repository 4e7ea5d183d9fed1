-- Which minus is binary.
use Rattle.std.proofs.Common.{◌≡◌, List, [], ◌∷◌, ◌++◌, Bool, true, false, refl, ◌∙◌, ap}
use Rattle.std.proofs.lemmas.List.{append-nil}
use Rattle.xpath_tokens.specs.declared.Token.{Token}
use Rattle.xpath_tokens.specs.declared.Token.TheVariants.{Close, CloseSquare, Comma, Or, And, Compare, Arithmetic, Bar, Slash, SlashSlash}
use Rattle.xpath_tokens.specs.declared.Operator.TheVariants.{Add, Subtract, Multiply, Divide, Modulo}
use Rattle.xpath_tokens.specs.declared.StepAxis.{StepAxis}
use Rattle.xpath_grammar.specs.declared.expr.StepTest.{StepTest}
use Rattle.xpath_grammar.specs.Grammar.{MayFollow, Symbol, Phrase, Derives, or_one, or_more, and_one, and_more, equality_one, equality_more, relational_one, relational_more, additive_one, additive_more, multiplicative_one, multiplicative_more, unary_one, unary_minus, union_one, union_more, path_location, path_filter, path_slash, path_slash_slash, filter_one, filter_more, primary_bracket, primary_variable, primary_literal, primary_number, call_none, call_some, arguments_one, arguments_more, location_relative, location_root, location_slash, location_slash_slash, relative_one, relative_slash, relative_slash_slash, step, step_dot, step_dots, IsAxis, axis_name, axis_at, axis_child, IsTest, test_any, test_any_in, test_named, test_kind, test_target, predicates_none, predicates_more, predicate, plus, minus, times, divided, modulo, ends, ended}
use Rattle.xpath_grammar.specs.Laws.{minuses, flags}
use Rattle.xpath_grammar.proofs.Clean.{clean}

flags-append : (b : Bool) (us vs : List Token) → flags b (us ++ vs) ≡ flags b us ++ flags (ended b us) vs
flags-append b [] vs = refl
flags-append b (Arithmetic Subtract ∷ us) vs = ap (λ x. b ∷ x) (flags-append false us vs)
flags-append b (u ∷ us) vs = flags-append (ends u) us vs

-- two parts, where an operand ends the first
both : (b : Bool) (us vs : List Token) {xs ys : List Bool} → ended b us ≡ true → flags b us ≡ xs → flags true vs ≡ ys → flags b (us ++ vs) ≡ xs ++ ys
both b us vs e h k = flags-append b us vs ∙ rw (e, h, k) refl

closed : (us : List Token) (t : Token) {xs : List Bool} → flags (ended false us) (t ∷ []) ≡ [] → flags false us ≡ xs → flags false (us ++ t ∷ []) ≡ xs
closed us t {xs} h k = flags-append false us (t ∷ []) ∙ rw (h, k) (append-nil xs)

-- no minus is in an axis part or a node test
axis_minus : {us vs : List Token} (ws : List Token) {a : StepAxis} {t : StepTest} → IsAxis us a → IsTest vs t → (b : Bool) → flags b (us ++ (vs ++ ws)) ≡ flags true ws
axis_minus ws axis_name test_any b = refl
axis_minus ws axis_name test_any_in b = refl
axis_minus ws axis_name test_named b = refl
axis_minus ws axis_name test_kind b = refl
axis_minus ws axis_name test_target b = refl
axis_minus ws axis_at test_any b = refl
axis_minus ws axis_at test_any_in b = refl
axis_minus ws axis_at test_named b = refl
axis_minus ws axis_at test_kind b = refl
axis_minus ws axis_at test_target b = refl
axis_minus ws axis_child test_any b = refl
axis_minus ws axis_child test_any_in b = refl
axis_minus ws axis_child test_named b = refl
axis_minus ws axis_child test_kind b = refl
axis_minus ws axis_child test_target b = refl

pub minus_law : {s : Symbol} {ts : List Token} {e : Phrase} (d : Derives s ts e) (b : Bool) → MayFollow s b → flags b ts ≡ minuses d
minus_law (or_one d) b h = minus_law d b h
minus_law (or_more {us} {vs} c d) b h = both b us (Or ∷ vs) (clean c b h).last (minus_law c b h) (minus_law d false refl)
minus_law (and_one d) b h = minus_law d b h
minus_law (and_more {us} {vs} c d) b h = both b us (And ∷ vs) (clean c b h).last (minus_law c b h) (minus_law d false refl)
minus_law (equality_one d) b h = minus_law d b h
minus_law (equality_more {us} {vs} {how = how} is c d) b h = both b us (Compare how ∷ vs) (clean c b h).last (minus_law c b h) (minus_law d false refl)
minus_law (relational_one d) b h = minus_law d b h
minus_law (relational_more {us} {vs} {how = how} is c d) b h = both b us (Compare how ∷ vs) (clean c b h).last (minus_law c b h) (minus_law d false refl)
minus_law (additive_one d) b h = minus_law d b h
minus_law (additive_more {us} {vs} plus c d) b h = both b us (Arithmetic Add ∷ vs) (clean c b h).last (minus_law c b h) (minus_law d false refl)
minus_law (additive_more {us} {vs} minus c d) b h = both b us (Arithmetic Subtract ∷ vs) (clean c b h).last (minus_law c b h) (ap (λ x. true ∷ x) (minus_law d false refl))
minus_law (multiplicative_one d) b h = minus_law d b h
minus_law (multiplicative_more {us} {vs} times c d) b h = both b us (Arithmetic Multiply ∷ vs) (clean c b h).last (minus_law c b h) (minus_law d false refl)
minus_law (multiplicative_more {us} {vs} divided c d) b h = both b us (Arithmetic Divide ∷ vs) (clean c b h).last (minus_law c b h) (minus_law d false refl)
minus_law (multiplicative_more {us} {vs} modulo c d) b h = both b us (Arithmetic Modulo ∷ vs) (clean c b h).last (minus_law c b h) (minus_law d false refl)
minus_law (unary_one d) b h = minus_law d b tt
minus_law (unary_minus d) b h = rw h (ap (λ x. false ∷ x) (minus_law d false refl))
minus_law (union_one d) b h = minus_law d b tt
minus_law (union_more {us} {vs} c d) b h = both b us (Bar ∷ vs) (clean c b tt).last (minus_law c b tt) (minus_law d false tt)
minus_law (path_location d) b h = minus_law d b tt
minus_law (path_filter d) b h = minus_law d b tt
minus_law (path_slash {us} {vs} c d) b h = both b us (Slash ∷ vs) (clean c b tt).last (minus_law c b tt) (minus_law d true tt)
minus_law (path_slash_slash {us} {vs} c d) b h = both b us (SlashSlash ∷ vs) (clean c b tt).last (minus_law c b tt) (minus_law d false tt)
minus_law (filter_one d) b h = minus_law d b tt
minus_law (filter_more {us} {vs} c d) b h = both b us vs (clean c b tt).last (minus_law c b tt) (minus_law d true tt)
minus_law (primary_bracket {ts} d) b h = closed ts Close refl (minus_law d false refl)
minus_law primary_variable b h = refl
minus_law primary_literal b h = refl
minus_law primary_number b h = refl
minus_law call_none b h = refl
minus_law (call_some {ts} d) b h = closed ts Close refl (minus_law d false refl)
minus_law (arguments_one d) b h = minus_law d b h
minus_law (arguments_more {us} {vs} c d) b h = both b us (Comma ∷ vs) (clean c b h).last (minus_law c b h) (minus_law d false refl)
minus_law (location_relative d) b h = minus_law d b tt
minus_law location_root b h = refl
minus_law (location_slash d) b h = minus_law d true tt
minus_law (location_slash_slash d) b h = minus_law d false tt
minus_law (relative_one d) b h = minus_law d b tt
minus_law (relative_slash {us} {vs} c d) b h = both b us (Slash ∷ vs) (clean c b tt).last (minus_law c b tt) (minus_law d true tt)
minus_law (relative_slash_slash {us} {vs} c d) b h = both b us (SlashSlash ∷ vs) (clean c b tt).last (minus_law c b tt) (minus_law d false tt)
minus_law (step us vs ws a t d) b h = axis_minus ws a t b ∙ minus_law d true refl
minus_law step_dot b h = refl
minus_law step_dots b h = refl
minus_law predicates_none b h = refl
minus_law (predicates_more {us} {vs} c d) b h = both b us vs (clean c b h).last (minus_law c b h) (minus_law d true tt)
minus_law (predicate {ts} d) b h = closed ts CloseSquare refl (minus_law d false refl)
