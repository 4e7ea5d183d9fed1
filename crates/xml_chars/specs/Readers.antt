-- What callers read: readers, which give what is at the start of a text and what is left, or None. A text is a list of
-- code points.
use Rattle.std.specs.Prelude.{ℕ, suc, zero, Bool, cond, List, [], ◌∷◌, length, take, drop, Option, Some, None}
use Rattle.std.specs.Prelude.{option_and_then, option_map, ◌≡◌}
use Rattle.std.specs.List.{prefix_len}
use Rattle.xml_model.specs.Chars.{begins}

abbrev pub Reader : Type 0 → Type 0
Reader X = List ℕ → Option (X × List ℕ)

-- one thing and then another, which may hang on the first
abbrev pub both : {X Y : Type 0} → Reader X → (X → Reader Y) → Reader (X × Y)
both f g text = option_and_then (λ p. option_and_then (λ q. Some ((p.0, q.0), q.1)) (g p.0 p.1)) (f text)

-- what is read, seen by a function
abbrev pub mapped : {X Y : Type 0} → (X → Y) → Reader X → Reader Y
mapped h f text = option_map (λ p. (h p.0, p.1)) (f text)

-- only what passes a test
abbrev pub kept : {X : Type 0} → (X → Bool) → Reader X → Reader X
kept t f text = option_and_then (λ p. cond (t p.0) (Some p) None) (f text)

-- the longest prefix whose characters pass a test
abbrev pub run : (ℕ → Bool) → Reader (List ℕ)
run p text = Some (take (prefix_len p text) text, drop (prefix_len p text) text)

-- what follows that prefix
abbrev pub after_run : (ℕ → Bool) → List ℕ → List ℕ
after_run p text = drop (prefix_len p text) text

-- one character that passes a test
abbrev pub one_of : (ℕ → Bool) → Reader ℕ
one_of p [] = None
one_of p (c ∷ text) = cond (p c) (Some (c, text)) None

-- these characters
abbrev pub word : List ℕ → Reader (Unit {0})
word w text = cond (begins w text) (Some (tt, drop (length w) text)) None

-- nothing, where a look at the text says so
abbrev pub look_at : (List ℕ → Bool) → Reader (Unit {0})
look_at t text = cond (t text) (Some (tt, text)) None

-- by a look at the text, one of several
abbrev pub choose_by : {K X : Type 0} → (List ℕ → K) → (K → Reader X) → Reader X
choose_by look f text = f (look text) text

-- one after another, while a look at the text says so; with fuel
abbrev pub many_by : {X : Type 0} → ℕ → (List ℕ → Bool) → Reader X → Reader (List X)
many_by zero t f text = None
many_by (suc fuel) t f text =
    cond (t text) (option_and_then (λ p. option_and_then (λ q. Some (p.0 ∷ q.0, q.1)) (many_by fuel t f p.1)) (f text))
    (Some ([], text))

abbrev pub many : {X : Type 0} → (List ℕ → Bool) → Reader X → Reader (List X)
many t f text = many_by (suc (length text)) t f text

-- what is left alone
abbrev pub skip : {X : Type 0} → Reader X → List ℕ → Option (List ℕ)
skip f text = option_map (λ p. p.1) (f text)

-- what a function returned, seen by a view, is what a reader reads
abbrev pub Gives : {X Y : Type 0} → (X → Y) → Option X → Option Y → Type 0
Gives view None read = read ≡ None
Gives view (Some x) read = read ≡ Some (view x)
