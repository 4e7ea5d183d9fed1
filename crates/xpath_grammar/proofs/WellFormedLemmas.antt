-- What the parser gives is well formed.
use Rattle.std.proofs.Common.{◌≡◌, ℕ, Bool, true, false, cond, List, [], ◌∷◌, ◌++◌, Some, Result, Ok, Err, IfOk, subst}
use Rattle.std.specs.Str.{bytes_eq}
use Rattle.xpath_tokens.specs.declared.Token.{Token}
use Rattle.xpath_tokens.specs.declared.Token.TheVariants.{Close, CloseSquare, Comma, Or, And, Compare, Arithmetic, Bar, Slash, SlashSlash, Number}
use Rattle.xpath_tokens.specs.Tokens.{find_named, delimiters, operator_signs, operator_names, IsNumber, IsToken, is_delimiter, is_sign, is_times}
use Rattle.xpath_tokens.specs.Tokens.{is_operator_name, is_node_type, is_function, is_axis, is_any, is_any_in, is_name, is_prefixed, is_literal, is_number}
use Rattle.xpath_tokens.specs.Tokens.{is_variable, Splits, done, next}
use Rattle.xpath_grammar.specs.declared.expr.Expr.{Expr}
use Rattle.xpath_grammar.specs.declared.entry.GrammarFault.{GrammarFault}
use Rattle.xpath_grammar.specs.Tree.{tree_of, Tree, Trees, Walk, none, more, stop, go}
use Rattle.xpath_grammar.specs.Grammar.{Symbol, Phrase, expr, exprs, filtered, walk, appended, joined, filter_tree, Derives, or_one, or_more, and_one}
use Rattle.xpath_grammar.specs.Grammar.{and_more, equality_one, equality_more, relational_one, relational_more, additive_one, additive_more}
use Rattle.xpath_grammar.specs.Grammar.{multiplicative_one, multiplicative_more, unary_one, unary_minus, union_one, union_more, path_location, path_filter}
use Rattle.xpath_grammar.specs.Grammar.{path_slash, path_slash_slash, filter_one, filter_more, primary_bracket, primary_variable, primary_literal}
use Rattle.xpath_grammar.specs.Grammar.{primary_number, call_none, call_some, arguments_one, arguments_more, location_relative, location_root}
use Rattle.xpath_grammar.specs.Grammar.{location_slash, location_slash_slash, relative_one, relative_slash, relative_slash_slash, step, step_dot, step_dots}
use Rattle.xpath_grammar.specs.Grammar.{predicates_none, predicates_more, predicate}
use Rattle.xpath_grammar.specs.TokenParse.{ParsesTokens}
use Rattle.xpath_grammar.specs.Passes.{WellFormed, AllWellFormed, StepsWellFormed, HasStep}

-- a number among tokens is spelled as one
abbrev IsSpelled : Token → Type 0
IsSpelled (Number n) = IsNumber n
IsSpelled _ = Unit {0}

abbrev AreSpelled : List Token → Type 0
AreSpelled [] = Unit {0}
AreSpelled (t ∷ ts) = IsSpelled t × AreSpelled ts

abbrev RowsSpelled : List (List ℕ × Token) → Type 0
RowsSpelled [] = Unit {0}
RowsSpelled (p ∷ ps) = IsSpelled p.1 × RowsSpelled ps

found_spelled : (ps : List (List ℕ × Token)) (w : List ℕ) {t : Token} → RowsSpelled ps → find_named ps w ≡ Some t → IsSpelled t
found_spelled [] w r h = absurd cc
found_spelled (p ∷ ps) w {t} r h = this (λ k. found_spelled ps w r.1 k) (bytes_eq w p.0) h
  where
    this : (find_named ps w ≡ Some t → IsSpelled t) → (b : Bool) → cond b (Some p.1) (find_named ps w) ≡ Some t → IsSpelled t
    this i true k = let e : p.1 ≡ t = cc in subst IsSpelled e r.0
    this i false k = i k

token_spelled : {after : Bool} {rest w : List ℕ} {t : Token} → IsToken after rest w t → IsSpelled t
token_spelled {w = w} (is_delimiter h) = found_spelled delimiters w (tt, (tt, (tt, (tt, (tt, (tt, (tt, (tt, (tt, tt))))))))) h
token_spelled {w = w} (is_sign h) = found_spelled operator_signs w (tt, (tt, (tt, (tt, (tt, (tt, (tt, (tt, (tt, (tt, (tt, tt))))))))))) h
token_spelled (is_times h) = tt
token_spelled {w = w} (is_operator_name h k) = found_spelled operator_names w (tt, (tt, (tt, (tt, tt)))) k
token_spelled (is_node_type h k l) = tt
token_spelled (is_function h k l m) = tt
token_spelled (is_axis h k l) = tt
token_spelled (is_any h) = tt
token_spelled (is_any_in h) = tt
token_spelled (is_name h k l m) = tt
token_spelled (is_prefixed h k l m) = tt
token_spelled (is_literal h k) = tt
token_spelled (is_number h) = h
token_spelled (is_variable h) = tt

pub split_spelled : {after : Bool} {text : List ℕ} {ts : List Token} → Splits after text ts → AreSpelled ts
split_spelled (done h) = tt
split_spelled (next space w rest b i l t d) = (token_spelled t, split_spelled d)

parts : (us vs : List Token) → AreSpelled (us ++ vs) → AreSpelled us × AreSpelled vs
parts [] vs h = (tt, h)
parts (u ∷ us) vs h = let p = parts us vs h.1 in ((h.0, p.0), p.1)

abbrev PhraseFormed : Phrase → Type 0
PhraseFormed (expr a) = WellFormed a
PhraseFormed (exprs es) = AllWellFormed es
PhraseFormed (filtered a ps) = WellFormed a × AllWellFormed ps
PhraseFormed (walk w) = HasStep w × StepsWellFormed w

filter_formed : (a : Tree) (ps : Trees) → WellFormed a × AllWellFormed ps → WellFormed (filter_tree a ps)
filter_formed a none h = h.0
filter_formed a (more p ps) h = (h.0, (tt, h.1))

appended_formed : (ps : Trees) (p : Tree) → AllWellFormed ps → WellFormed p → AllWellFormed (appended ps p)
appended_formed none p h k = (k, tt)
appended_formed (more q qs) p h k = (h.0, appended_formed qs p h.1 k)

joined_formed : (v w : Walk) → StepsWellFormed v → StepsWellFormed w → StepsWellFormed (joined v w)
joined_formed stop w h k = k
joined_formed (go a t ps v) w h k = (h.0, joined_formed v w h.1 k)

joined_step : (v w : Walk) → HasStep v → HasStep (joined v w)
joined_step stop w h = absurd h
joined_step (go a t ps v) w h = tt

formed : {s : Symbol} {ts : List Token} {e : Phrase} → Derives s ts e → AreSpelled ts → PhraseFormed e
formed (or_one d) h = formed d h
formed (or_more {us} {vs} c d) h = let p = parts us (Or ∷ vs) h in (formed c p.0, formed d p.1.1)
formed (and_one d) h = formed d h
formed (and_more {us} {vs} c d) h = let p = parts us (And ∷ vs) h in (formed c p.0, formed d p.1.1)
formed (equality_one d) h = formed d h
formed (equality_more {us} {vs} {how = how} is c d) h = let p = parts us (Compare how ∷ vs) h in (formed c p.0, formed d p.1.1)
formed (relational_one d) h = formed d h
formed (relational_more {us} {vs} {how = how} is c d) h = let p = parts us (Compare how ∷ vs) h in (formed c p.0, formed d p.1.1)
formed (additive_one d) h = formed d h
formed (additive_more {us} {vs} {op = op} is c d) h = let p = parts us (Arithmetic op ∷ vs) h in (formed c p.0, formed d p.1.1)
formed (multiplicative_one d) h = formed d h
formed (multiplicative_more {us} {vs} {op = op} is c d) h = let p = parts us (Arithmetic op ∷ vs) h in (formed c p.0, formed d p.1.1)
formed (unary_one d) h = formed d h
formed (unary_minus d) h = formed d h.1
formed (union_one d) h = formed d h
formed (union_more {us} {vs} c d) h = let p = parts us (Bar ∷ vs) h in (formed c p.0, formed d p.1.1)
formed (path_location d) h = formed d h
formed (path_filter {a = a} {ps = ps} d) h = filter_formed a ps (formed d h)
formed (path_slash {us} {vs} {a} {ps} c d) h = let p = parts us (Slash ∷ vs) h in (filter_formed a ps (formed c p.0), formed d p.1.1)
formed (path_slash_slash {us} {vs} {a} {ps} c d) h =
    let p = parts us (SlashSlash ∷ vs) h in
    let w = formed d p.1.1 in
    (filter_formed a ps (formed c p.0), (tt, (tt, w.1)))
formed (filter_one d) h = (formed d h, tt)
formed (filter_more {us} {vs} {a} {p} {ps} c d) h =
    let x = parts us vs h in
    let f = formed c x.0 in
    (f.0, appended_formed ps p f.1 (formed d x.1))
formed (primary_bracket {ts} d) h = formed d (parts ts (Close ∷ []) h.1).0
formed primary_variable h = tt
formed primary_literal h = tt
formed primary_number h = h.0
formed call_none h = tt
formed (call_some {ts = ts} d) h = formed d (parts ts (Close ∷ []) h.1.1).0
formed (arguments_one d) h = (formed d h, tt)
formed (arguments_more {us} {vs} {a} {es} c d) h = let p = parts us (Comma ∷ vs) h in appended_formed es a (formed c p.0) (formed d p.1.1)
formed (location_relative d) h = formed d h
formed location_root h = (tt, tt)
formed (location_slash d) h = let w = formed d h.1 in (tt, w.1)
formed (location_slash_slash d) h = let w = formed d h.1 in (tt, (tt, w.1))
formed (relative_one d) h = formed d h
formed (relative_slash {us} {vs} {v} {w} c d) h =
    let p = parts us (Slash ∷ vs) h in
    let x = formed c p.0 in
    let y = formed d p.1.1 in
    (joined_step v w x.0, joined_formed v w x.1 y.1)
formed (relative_slash_slash {us} {vs} {v} {w} c d) h =
    let p = parts us (SlashSlash ∷ vs) h in
    let x = formed c p.0 in
    let y = formed d p.1.1 in
    (joined_step v _ x.0, joined_formed v _ x.1 (tt, y.1))
formed (step us vs ws axis test d) h = let p = parts us (vs ++ ws) h in (tt, (formed d (parts vs ws p.1).1, tt))
formed step_dot h = (tt, (tt, tt))
formed step_dots h = (tt, (tt, tt))
formed predicates_none h = tt
formed (predicates_more {us} {vs} {p} {ps} c d) h = let x = parts us vs h in appended_formed ps p (formed c x.0) (formed d x.1)
formed (predicate {ts} d) h = formed d (parts ts (CloseSquare ∷ []) h.1).0

pub formed_parse : {after : Bool} {text : List ℕ} (ts : List Token) (r : Result Expr GrammarFault) → Splits after text ts → ParsesTokens ts r
    → IfOk r (λ e. WellFormed (tree_of e))
formed_parse ts (Ok e) s p = formed p.derived (split_spelled s)
formed_parse ts (Err f) s p = tt
