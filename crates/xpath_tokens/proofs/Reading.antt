-- The token that the working functions find is the token that a word is.
use Rattle.std.proofs.Common.{◌≡◌, ℕ, ◌-◌, Bool, true, false, cond, not, ◌||◌, ◌==◌, List, [], ◌∷◌, ◌++◌, length, take, Option, Some, None, refl, sym, ◌∙◌, ap, subst, arith, length-append, ◌⊎◌, inl, inr}
use Rattle.std.specs.Prelude.{codes, option_map}
use Rattle.std.specs.List.{list_all, list_any}
use Rattle.std.specs.Str.{bytes_eq}
use Rattle.std.proofs.Math.Seq.{take-append_seam}
use Rattle.std.proofs.lemmas.Bool.{eqb-true}
use Rattle.std.proofs.lemmas.List.Folds.{list_any-append}
use Rattle.xml_model.specs.Chars.{is_ncname, is_name_start, is_name_char, in_ranges, has_colon, before_colon, after_colon, prefix_of, local_of}
use Rattle.xpath_tokens.specs.declared.NodeType.{NodeType}
use Rattle.xpath_tokens.specs.declared.StepAxis.{StepAxis}
use Rattle.xpath_tokens.specs.declared.lexer.WordKind.{WordKind}
use Rattle.xpath_tokens.specs.declared.lexer.WordKind.TheVariants as word
use Rattle.xpath_tokens.specs.declared.Token.{Token}
use Rattle.xpath_tokens.specs.declared.Token.TheVariants.{AnyIn, Named, AxisName, Literal, Number, Variable}
use Rattle.xpath_tokens.specs.Tokens.{IsWord, symbol, name, any_in, literal, number, variable, IsQName, plain, prefixed, IsNumber, whole, pointed, after_point, are_digits, is_decimal_digit, is_quote, is_symbol, find_named, delimiters, operator_signs, operator_names, node_types, axis_names, before_open, before_colons, after_space, starts_open, starts_colons, IsToken, is_delimiter, is_sign, is_times, is_operator_name, is_node_type, is_function, is_axis, is_any, is_any_in, is_name as is_name_token, is_prefixed, is_literal, is_number, is_variable}
use Rattle.xpath_tokens.specs.Words.{is_ncname_start, is_ncname_char}
use Rattle.xpath_tokens.specs.Reading.{token_of, token_by_kind, kind_of, symbol_token, fixed_token, or_else, star_token, name_token, named_token, axis_token, call_token, Place, place, at_open, at_colons, elsewhere, without_last, has_star}
use Rattle.xpath_tokens.proofs.Runs.{and_parts, ncname_cons, ncname_nil}
use Rattle.xml_model.proofs.SameText.{same_bytes}

-- a fact on each row of a table
abbrev Rows : {X : Type 0} → (List ℕ → X → Type 0) → List (List ℕ × X) → Type 0
Rows P [] = Unit {0}
Rows P (p ∷ ps) = P p.0 p.1 × Rows P ps

found_row : {X : Type 0} (P : List ℕ → X → Type 0) (ps : List (List ℕ × X)) → Rows P ps → (w : List ℕ) (x : X) → find_named ps w ≡ Some x → P w x
found_row P [] r w x h = absurd cc
found_row P (p ∷ ps) r w x h = this (found_row P ps r.1 w x) (bytes_eq w p.0) refl h
  where
    this : (find_named ps w ≡ Some x → P w x) → (b : Bool) → bytes_eq w p.0 ≡ b → cond b (Some p.1) (find_named ps w) ≡ Some x → P w x
    this i true e k =
        let s : p.1 ≡ x = cc in
        subst (λ z. P z x) (sym (same_bytes w p.0 e)) (subst (P p.0) s r.0)
    this i false e k = i k

-- a character that passes a test is none of those that do not
other : (p : ℕ → Bool) (x c : ℕ) → p x ≡ false → p c ≡ true → (c == x) ≡ false
other p x c h k = this (c == x) refl
  where
    this : (b : Bool) → (c == x) ≡ b → b ≡ false
    this true e = let z = subst (λ y. p y ≡ true) (eqb-true c x e) k in absurd cc
    this false e = refl

other_symmetric : (p : ℕ → Bool) (x c : ℕ) → p x ≡ false → p c ≡ true → (x == c) ≡ false
other_symmetric p x c h k = this (x == c) refl
  where
    this : (b : Bool) → (x == c) ≡ b → b ≡ false
    this true e = let z = subst (λ y. p y ≡ true) (sym (eqb-true x c e)) k in absurd cc
    this false e = refl

outside : (p : ℕ → Bool) (xs : List ℕ) → list_any p xs ≡ false → (c : ℕ) → p c ≡ true → list_any (λ s. s == c) xs ≡ false
outside p [] h c k = refl
outside p (x ∷ xs) h c k = this (λ l. outside p xs l c k) (p x) refl h
  where
    this : (list_any p xs ≡ false → list_any (λ s. s == c) xs ≡ false) → (b : Bool) → p x ≡ b → (b || list_any p xs) ≡ false → ((x == c) || list_any (λ s. s == c) xs) ≡ false
    this i true e l = absurd cc
    this i false e l = rw (other_symmetric p x c e k) (i l)

lacking : (p : ℕ → Bool) (x : ℕ) → p x ≡ false → (cs : List ℕ) → list_all p cs ≡ true → list_any (λ c. c == x) cs ≡ false
lacking p x h [] k = refl
lacking p x h (c ∷ cs) k = let a = and_parts (p c) (list_all p cs) k in rw (other p x c h a.0) (lacking p x h cs a.1)

-- no word of two or more kinds: a word that begins with such a character is no symbol
no_symbol : (p : ℕ → Bool) → list_any p (codes "()[].@,*|+-=<>/") ≡ false → p 58 ≡ false → list_any p (codes "!<>") ≡ false → p 46 ≡ false → p 47 ≡ false → (c : ℕ) (cs : List ℕ) → p c ≡ true → is_symbol (c ∷ cs) ≡ false
no_symbol p singles colon signs dot slash c [] h = outside p (codes "()[].@,*|+-=<>/") singles c h
no_symbol p singles colon signs dot slash c (d ∷ []) h = rw (other p 46 c dot h, other p 58 c colon h, other p 47 c slash h, outside p (codes "!<>") signs c h) refl
no_symbol p singles colon signs dot slash c (d ∷ e ∷ cs) h = refl

start_symbol : (c : ℕ) (cs : List ℕ) → is_ncname_start c ≡ true → is_symbol (c ∷ cs) ≡ false
unfolding is_name_start in_ranges
start_symbol c cs h = no_symbol is_ncname_start refl refl refl refl refl c cs h

start_quote : (c : ℕ) → is_ncname_start c ≡ true → is_quote c ≡ false
unfolding is_name_start in_ranges
start_quote c h = rw (other is_ncname_start 34 c refl h, other is_ncname_start 39 c refl h) refl

start_dollar : (c : ℕ) → is_ncname_start c ≡ true → (c == 36) ≡ false
unfolding is_name_start in_ranges
start_dollar c h = other is_ncname_start 36 c refl h

start_digit : (c : ℕ) → is_ncname_start c ≡ true → (is_decimal_digit c || c == 46) ≡ false
unfolding is_name_start in_ranges
start_digit c h = rw (outside is_ncname_start (codes "0123456789") refl c h, other is_ncname_start 46 c refl h) refl

-- a word that begins as a name, by whether it has a *
name_kind : (c : ℕ) (cs : List ℕ) (b : Bool) → is_ncname_start c ≡ true → has_star cs ≡ b → kind_of (c ∷ cs) ≡ cond b word.AnyIn word.Name
name_kind c cs b h k = rw (start_symbol c cs h, start_quote c h, start_dollar c h, start_digit c h, k) refl

ncname_star : (cs : List ℕ) → list_all is_ncname_char cs ≡ true → has_star cs ≡ false
unfolding is_name_char is_name_start in_ranges
ncname_star cs h = lacking is_ncname_char 42 refl cs h

start_char : (c : ℕ) → is_ncname_start c ≡ true → is_ncname_char c ≡ true
unfolding is_name_char
start_char c h = let p = and_parts (not (c == 58)) (is_name_start c) h in rw (p.0, p.1) refl

ncname_chars : (n : List ℕ) → is_ncname n ≡ true → list_all is_ncname_char n ≡ true
ncname_chars [] h = refl
ncname_chars (c ∷ cs) h = let a = and_parts (is_ncname_start c) (list_all is_ncname_char cs) (sym (ncname_cons c cs) ∙ h) in rw (start_char c a.0) a.1

qname_kind : {w : List ℕ} → IsQName w → kind_of w ≡ word.Name
qname_kind {w} (plain h) = this w h
  where
    this : (w : List ℕ) → is_ncname w ≡ true → kind_of w ≡ word.Name
    this [] h = absurd (ncname_nil h)
    this (c ∷ cs) h = let a = and_parts (is_ncname_start c) (list_all is_ncname_char cs) (sym (ncname_cons c cs) ∙ h) in name_kind c cs false a.0 (ncname_star cs a.1)
qname_kind (prefixed p n h k) = this p h
  where
    this : (p : List ℕ) → is_ncname p ≡ true → kind_of (p ++ 58 ∷ n) ≡ word.Name
    this [] h = absurd (ncname_nil h)
    this (c ∷ cs) h =
        let a = and_parts (is_ncname_start c) (list_all is_ncname_char cs) (sym (ncname_cons c cs) ∙ h) in
        let s : has_star (cs ++ 58 ∷ n) ≡ false = list_any-append (λ x. x == 42) cs (58 ∷ n) ∙ rw (ncname_star cs a.1, ncname_star n (ncname_chars n k)) refl in
        name_kind c (cs ++ 58 ∷ n) false a.0 s

or_true : (b : Bool) → (b || true) ≡ true
or_true true = refl
or_true false = refl

any_in_kind : (p : List ℕ) → is_ncname p ≡ true → kind_of (p ++ 58 ∷ 42 ∷ []) ≡ word.AnyIn
any_in_kind [] h = absurd (ncname_nil h)
any_in_kind (c ∷ cs) h =
    let a = and_parts (is_ncname_start c) (list_all is_ncname_char cs) (sym (ncname_cons c cs) ∙ h) in
    name_kind c (cs ++ 58 ∷ 42 ∷ []) true a.0 (list_any-append (λ x. x == 42) cs (58 ∷ 42 ∷ []) ∙ or_true (has_star cs))

quote_symbol : (c : ℕ) (cs : List ℕ) → is_quote c ≡ true → is_symbol (c ∷ cs) ≡ false
quote_symbol c cs h = no_symbol is_quote refl refl refl refl refl c cs h

literal_kind : (q : ℕ) (cs : List ℕ) → is_quote q ≡ true → kind_of (q ∷ cs) ≡ word.Literal
literal_kind q cs h = rw (quote_symbol q cs h, h) refl

digit_kind : (c : ℕ) (cs : List ℕ) → is_decimal_digit c ≡ true → kind_of (c ∷ cs) ≡ word.Number
digit_kind c cs h =
    let s = no_symbol is_decimal_digit refl refl refl refl refl c cs h in
    rw (s, other is_decimal_digit 34 c refl h, other is_decimal_digit 39 c refl h, other is_decimal_digit 36 c refl h, h) refl

point_kind : (es : List ℕ) → are_digits es ≡ true → kind_of (46 ∷ es) ≡ word.Number
point_kind [] h = absurd cc
point_kind (d ∷ []) h = let a = and_parts (is_decimal_digit d) (list_all is_decimal_digit []) h in rw (other is_decimal_digit 46 d refl a.0) refl
point_kind (d ∷ e ∷ es) h = refl

number_kind : {w : List ℕ} → IsNumber w → kind_of w ≡ word.Number
number_kind {w} (whole h) = this w h
  where
    this : (w : List ℕ) → are_digits w ≡ true → kind_of w ≡ word.Number
    this [] h = absurd cc
    this (c ∷ cs) h = digit_kind c cs (and_parts (is_decimal_digit c) (list_all is_decimal_digit cs) h).0
number_kind (pointed ds es h k) = this ds h
  where
    this : (ds : List ℕ) → are_digits ds ≡ true → kind_of (ds ++ 46 ∷ es) ≡ word.Number
    this [] h = absurd cc
    this (c ∷ cs) h = digit_kind c (cs ++ 46 ∷ es) (and_parts (is_decimal_digit c) (list_all is_decimal_digit cs) h).0
number_kind (after_point {es} h) = point_kind es h

dollar_symbol : (cs : List ℕ) → is_symbol (36 ∷ cs) ≡ false
dollar_symbol [] = refl
dollar_symbol (d ∷ []) = refl
dollar_symbol (d ∷ e ∷ cs) = refl

variable_kind : (cs : List ℕ) → kind_of (36 ∷ cs) ≡ word.Variable
variable_kind cs = rw (dollar_symbol cs) refl

-- prefixes and local parts
no_colon : (n : List ℕ) → is_ncname n ≡ true → has_colon n ≡ false
no_colon n h = lacking is_ncname_char 58 refl n (ncname_chars n h)

colon_within : (p r : List ℕ) → has_colon (p ++ 58 ∷ r) ≡ true
colon_within p r = list_any-append (λ c. c == 58) p (58 ∷ r) ∙ or_true (has_colon p)

before_is : (p r : List ℕ) → has_colon p ≡ false → before_colon (p ++ 58 ∷ r) ≡ p
before_is [] r h = refl
before_is (c ∷ p) r h = this (before_is p r) (c == 58) h
  where
    this : (has_colon p ≡ false → before_colon (p ++ 58 ∷ r) ≡ p) → (b : Bool) → (b || has_colon p) ≡ false → cond b [] (c ∷ before_colon (p ++ 58 ∷ r)) ≡ c ∷ p
    this i true k = absurd cc
    this i false k = ap (λ x. c ∷ x) (i k)

after_is : (p r : List ℕ) → has_colon p ≡ false → after_colon (p ++ 58 ∷ r) ≡ r
after_is [] r h = refl
after_is (c ∷ p) r h = this (after_is p r) (c == 58) h
  where
    this : (has_colon p ≡ false → after_colon (p ++ 58 ∷ r) ≡ r) → (b : Bool) → (b || has_colon p) ≡ false → cond b (p ++ 58 ∷ r) (after_colon (p ++ 58 ∷ r)) ≡ r
    this i true k = absurd cc
    this i false k = i k

prefix_is : (p r : List ℕ) → is_ncname p ≡ true → prefix_of (p ++ 58 ∷ r) ≡ p
unfolding prefix_of
prefix_is p r h = rw (colon_within p r) (before_is p r (no_colon p h))

named_plain : (n : List ℕ) → is_ncname n ≡ true → named_token n ≡ Named [] n
unfolding prefix_of local_of
named_plain n h = rw (no_colon n h) refl

named_prefixed : (p n : List ℕ) → is_ncname p ≡ true → named_token (p ++ 58 ∷ n) ≡ Named p n
unfolding local_of
named_prefixed p n h = rw (prefix_is p n h, colon_within p n, after_is p n (no_colon p h)) refl

inner_is : (t : List ℕ) (q : ℕ) → without_last (t ++ q ∷ []) ≡ t
inner_is t q =
    let l = length-append t (q ∷ []) in
    let n : length (t ++ q ∷ []) - 1 ≡ length t = omega (arith, l) in
    ap (λ k. take k (t ++ q ∷ [])) n ∙ take-append_seam t (q ∷ [])

-- the rows of the tables
row_kind : (after : Bool) (w rest : List ℕ) (k : WordKind) → kind_of w ≡ k → token_of after w rest ≡ token_by_kind k after w rest
row_kind after w rest k h = ap (λ x. token_by_kind x after w rest) h

delimiter_read : (after : Bool) (rest w : List ℕ) (t : Token) → find_named delimiters w ≡ Some t → token_of after w rest ≡ Some t
delimiter_read after rest w t h = found_row (λ w t. token_of after w rest ≡ Some t) delimiters (refl, (refl, (refl, (refl, (refl, (refl, (refl, (refl, (refl, tt))))))))) w t h

sign_read : (after : Bool) (rest w : List ℕ) (t : Token) → find_named operator_signs w ≡ Some t → token_of after w rest ≡ Some t
sign_read after rest w t h = found_row (λ w t. token_of after w rest ≡ Some t) operator_signs (refl, (refl, (refl, (refl, (refl, (refl, (refl, (refl, (refl, (refl, (refl, tt))))))))))) w t h

operator_kind : (w : List ℕ) (t : Token) → find_named operator_names w ≡ Some t → kind_of w ≡ word.Name
operator_kind w t h = found_row (λ w t. kind_of w ≡ word.Name) operator_names (refl, (refl, (refl, (refl, tt)))) w t h

node_kind : (w : List ℕ) (k : NodeType) → find_named node_types w ≡ Some k → kind_of w ≡ word.Name
node_kind w k h = found_row (λ w k. kind_of w ≡ word.Name) node_types (refl, (refl, (refl, (refl, tt)))) w k h

axis_kind : (w : List ℕ) (a : StepAxis) → find_named axis_names w ≡ Some a → kind_of w ≡ word.Name
axis_kind w a h = found_row (λ w a. kind_of w ≡ word.Name) axis_names (refl, (refl, (refl, (refl, (refl, (refl, (refl, (refl, (refl, (refl, (refl, (refl, (refl, tt))))))))))))) w a h

axis_plain : (w : List ℕ) (a : StepAxis) → find_named axis_names w ≡ Some a → has_colon w ≡ false
axis_plain w a h = found_row (λ w a. has_colon w ≡ false) axis_names (refl, (refl, (refl, (refl, (refl, (refl, (refl, (refl, (refl, (refl, (refl, (refl, (refl, tt))))))))))))) w a h

-- what is before two colons is before no bracket
colons_open : (cs : List ℕ) → starts_colons cs ≡ true → starts_open cs ≡ false
colons_open [] h = refl
colons_open (c ∷ []) h = absurd cc
colons_open (c ∷ d ∷ cs) h = let e = eqb-true c 58 (and_parts (c == 58) (d == 58) h).0 in subst (λ x. (x == 40) ≡ false) (sym e) refl

at_name : (w rest : List ℕ) (p : Place) → kind_of w ≡ word.Name → place false rest ≡ p → token_of false w rest ≡ name_token w p
at_name w rest p h k = row_kind false w rest word.Name h ∙ ap (name_token w) k

at_operand : (w rest : List ℕ) → kind_of w ≡ word.Name → token_of true w rest ≡ find_named operator_names w
at_operand w rest h = row_kind true w rest word.Name h

place_open : (rest : List ℕ) → before_open rest ≡ true → place false rest ≡ at_open
place_open rest h = rw h refl

place_colons : (rest : List ℕ) → before_open rest ≡ false → before_colons rest ≡ true → place false rest ≡ at_colons
place_colons rest h k = rw (h, k) refl

place_elsewhere : (rest : List ℕ) → before_open rest ≡ false → before_colons rest ≡ false → place false rest ≡ elsewhere
place_elsewhere rest h k = rw (h, k) refl

axis_read : (w : List ℕ) (a : StepAxis) → find_named axis_names w ≡ Some a → axis_token w ≡ Some (AxisName a)
axis_read w a h = rw (axis_plain w a h, h) refl

prefixed_read : (p n : List ℕ) (place : Place) → place ≡ at_colons ⊎ place ≡ elsewhere → is_ncname p ≡ true → name_token (p ++ 58 ∷ n) place ≡ Some (Named p n)
prefixed_read p n q (inl e) h = ap (name_token (p ++ 58 ∷ n)) e ∙ rw (colon_within p n) (ap Some (named_prefixed p n h))
prefixed_read p n q (inr e) h = ap (name_token (p ++ 58 ∷ n)) e ∙ ap Some (named_prefixed p n h)

prefixed_place : (rest : List ℕ) → before_open rest ≡ false → place false rest ≡ at_colons ⊎ place false rest ≡ elsewhere
prefixed_place rest h = this (before_colons rest) refl
  where
    this : (b : Bool) → before_colons rest ≡ b → place false rest ≡ at_colons ⊎ place false rest ≡ elsewhere
    this true e = inl (place_colons rest h e)
    this false e = inr (place_elsewhere rest h e)

-- what a word is is what is found
pub is_read : {after : Bool} {rest w : List ℕ} {t : Token} → IsToken after rest w t → token_of after w rest ≡ Some t
is_read {after} {rest} {w} {t} (is_delimiter h) = delimiter_read after rest w t h
is_read {after} {rest} {w} {t} (is_sign h) = sign_read after rest w t h
is_read (is_times h) = rw h refl
is_read {after} {rest} {w} {t} (is_operator_name h k) = rw h (at_operand w rest (operator_kind w t k) ∙ k)
is_read {after} {rest} {w} (is_node_type {k = k} h o f) = rw h (at_name w rest at_open (node_kind w k f) (place_open rest o) ∙ ap (λ x. Some (call_token w x)) f)
is_read {after} {rest} {w} (is_function h o f q) = rw h (at_name w rest at_open (qname_kind q) (place_open rest o) ∙ ap (λ x. Some (call_token w x)) f)
is_read {after} {rest} {w} (is_axis {a = a} h o f) = rw h (at_name w rest at_colons (axis_kind w a f) (place_colons rest (colons_open (after_space rest) o) o) ∙ axis_read w a f)
is_read (is_any h) = rw h refl
is_read {after} {rest} (is_any_in {p} h) = row_kind after (p ++ 58 ∷ 42 ∷ []) rest word.AnyIn (any_in_kind p h) ∙ ap (λ x. Some (AnyIn x)) (prefix_is p (42 ∷ []) h)
is_read {after} {rest} {w} (is_name_token h o k n) = rw h (at_name w rest elsewhere (qname_kind (plain n)) (place_elsewhere rest o k) ∙ ap Some (named_plain w n))
is_read {after} {rest} (is_prefixed {p} {n} h o i j) = rw h (row_kind false (p ++ 58 ∷ n) rest word.Name (qname_kind (prefixed p n i j)) ∙ prefixed_read p n (place false rest) (prefixed_place rest o) i)
is_read {after} {rest} (is_literal {q} {t} h k) = row_kind after (q ∷ (t ++ q ∷ [])) rest word.Literal (literal_kind q (t ++ q ∷ []) h) ∙ ap (λ x. Some (Literal x)) (inner_is t q)
is_read {after} {rest} {w} (is_number h) = row_kind after w rest word.Number (number_kind h)
is_read {after} {rest} (is_variable {n} h) = row_kind after (36 ∷ n) rest word.Variable (variable_kind n)

-- what is found is what the word is
star_is : (after : Bool) (rest : List ℕ) (t : Token) → star_token after ≡ t → IsToken after rest (codes "*") t
star_is true rest t h = subst (IsToken true rest (codes "*")) h (is_times refl)
star_is false rest t h = subst (IsToken false rest (codes "*")) h (is_any refl)

fixed_is : (after : Bool) (rest w : List ℕ) (t : Token) (o : Option Token) → find_named delimiters w ≡ o → or_else o (find_named operator_signs w) ≡ Some t → IsToken after rest w t
fixed_is after rest w t (Some x) e h = is_delimiter (e ∙ h)
fixed_is after rest w t None e h = is_sign h

symbol_is : (after : Bool) (rest w : List ℕ) (t : Token) → symbol_token after w ≡ Some t → IsToken after rest w t
symbol_is after rest w t h = this (bytes_eq w (codes "*")) refl h
  where
    this : (b : Bool) → bytes_eq w (codes "*") ≡ b → cond b (Some (star_token after)) (fixed_token w) ≡ Some t → IsToken after rest w t
    this true e k = let s : star_token after ≡ t = cc in subst (λ x. IsToken after rest x t) (sym (same_bytes w (codes "*") e)) (star_is after rest t s)
    this false e k = fixed_is after rest w t (find_named delimiters w) refl k

call_is : (rest w : List ℕ) (t : Token) (o : Option NodeType) → IsQName w → before_open rest ≡ true → find_named node_types w ≡ o → call_token w o ≡ t → IsToken false rest w t
call_is rest w t (Some k) q b e h = subst (IsToken false rest w) h (is_node_type refl b e)
call_is rest w t None q b e h = subst (IsToken false rest w) h (is_function refl b e q)

axis_is : (rest w : List ℕ) (t : Token) (o : Option StepAxis) → before_colons rest ≡ true → find_named axis_names w ≡ o → option_map AxisName o ≡ Some t → IsToken false rest w t
axis_is rest w t (Some a) b e h = let s : AxisName a ≡ t = cc in subst (IsToken false rest w) s (is_axis refl b e)
axis_is rest w t None b e h = absurd cc

colons_is : (rest w : List ℕ) (t : Token) → IsQName w → before_open rest ≡ false → before_colons rest ≡ true → axis_token w ≡ Some t → IsToken false rest w t
colons_is rest w t (plain h) o b k = axis_is rest w t (find_named axis_names w) b refl (rw (no_colon w h) at k)
colons_is rest w t (prefixed p n h j) o b k =
    let s : named_token (p ++ 58 ∷ n) ≡ t = let l = rw (colon_within p n) at k in cc in
    subst (IsToken false rest (p ++ 58 ∷ n)) (sym (named_prefixed p n h) ∙ s) (is_prefixed refl o h j)

elsewhere_is : (rest w : List ℕ) (t : Token) → IsQName w → before_open rest ≡ false → before_colons rest ≡ false → named_token w ≡ t → IsToken false rest w t
elsewhere_is rest w t (plain h) o b k = subst (IsToken false rest w) (sym (named_plain w h) ∙ k) (is_name_token refl o b h)
elsewhere_is rest w t (prefixed p n h j) o b k = subst (IsToken false rest (p ++ 58 ∷ n)) (sym (named_prefixed p n h) ∙ k) (is_prefixed refl o h j)

name_is : (after : Bool) (rest w : List ℕ) (t : Token) → IsQName w → name_token w (place after rest) ≡ Some t → IsToken after rest w t
name_is true rest w t q h = is_operator_name refl h
name_is false rest w t q h = this (before_open rest) (before_colons rest) refl refl
  where
    this : (x y : Bool) → before_open rest ≡ x → before_colons rest ≡ y → IsToken false rest w t
    this true y e f =
        let k : call_token w (find_named node_types w) ≡ t = let l = rw (place_open rest e) at h in cc in
        call_is rest w t (find_named node_types w) q e refl k
    this false true e f = colons_is rest w t q e f (rw (place_colons rest e f) at h)
    this false false e f =
        let k : named_token w ≡ t = let l = rw (place_elsewhere rest e f) at h in cc in
        elsewhere_is rest w t q e f k

by_kind : (after : Bool) (rest w : List ℕ) (t : Token) (k : WordKind) → kind_of w ≡ k → token_of after w rest ≡ Some t → token_by_kind k after w rest ≡ Some t
by_kind after rest w t k e h = sym (row_kind after w rest k e) ∙ h

pub read_is : {after : Bool} {rest w : List ℕ} {t : Token} → IsWord w → token_of after w rest ≡ Some t → IsToken after rest w t
read_is {after} {rest} {w} {t} (symbol s) h = symbol_is after rest w t (by_kind after rest w t word.Symbol (rw s refl) h)
read_is {after} {rest} {w} {t} (name q) h = name_is after rest w t q (by_kind after rest w t word.Name (qname_kind q) h)
read_is {after} {rest} {w} {t} (any_in p n) h =
    let k = by_kind after rest (p ++ 58 ∷ 42 ∷ []) t word.AnyIn (any_in_kind p n) h in
    let s : AnyIn (prefix_of (p ++ 58 ∷ 42 ∷ [])) ≡ t = cc in
    subst (IsToken after rest (p ++ 58 ∷ 42 ∷ [])) (ap AnyIn (sym (prefix_is p (42 ∷ []) n)) ∙ s) (is_any_in n)
read_is {after} {rest} {w} {t} (literal q u i j) h =
    let k = by_kind after rest (q ∷ (u ++ q ∷ [])) t word.Literal (literal_kind q (u ++ q ∷ []) i) h in
    let s : Literal (without_last (u ++ q ∷ [])) ≡ t = cc in
    subst (IsToken after rest (q ∷ (u ++ q ∷ []))) (ap Literal (sym (inner_is u q)) ∙ s) (is_literal i j)
read_is {after} {rest} {w} {t} (number n) h =
    let k = by_kind after rest w t word.Number (number_kind n) h in
    let s : Number w ≡ t = cc in
    subst (IsToken after rest w) s (is_number n)
read_is {after} {rest} {w} {t} (variable {w = n} q) h =
    let k = by_kind after rest (36 ∷ n) t word.Variable (variable_kind n) h in
    let s : Variable n ≡ t = cc in
    subst (IsToken after rest (36 ∷ n)) s (is_variable q)
