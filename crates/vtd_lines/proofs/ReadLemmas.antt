-- What a line asks for, by its fields.
use Rattle.std.proofs.Common.{◌≡◌, ℕ, ◌<◌, ◌≤◌, true, false, List, [], ◌∷◌, length, Option, Some, None, option_map, is_some, Result, Ok, Err, refl, sym, ap}
use Rattle.std.proofs.Common.{ap₂}
use Rattle.std.proofs.Common.{subst, ◌∙◌, arith, inl, inr, ◌==◌}
use Rattle.std.specs.Str.{IsUtf8, bytes_eq, chars, is_utf8}
use Rattle.std.proofs.lemmas.Bool.{cases_Bool, false_from_ne_true, eqb-true, lt-ltb, le-ltb}
use Rattle.std.proofs.lemmas.Slice.Eq.{bytes_eq-Decides}
use Rattle.std.proofs.lemmas.Str.{IsUtf8-from_is_utf8, is_utf8-from_IsUtf8}
use Rattle.vtd_lines.specs.Fields.{fields, unescaped}
use Rattle.vtd_lines.specs.Commands.{bare_command, of_two, of_word_with_two, with_two as command_of_two, command_with_one, command_with_two, command}
use Rattle.vtd_lines.specs.Commands.{line_limit, read}
use Rattle.vtd_lines.specs.declared.commands.TwoFields.{TwoFields}
use Rattle.vtd_lines.specs.Readings.{Reads, IsCommand, IsFieldFault, fields_of}
use Rattle.vtd_lines.specs.declared.commands.Command.{Command}
use Rattle.vtd_lines.specs.declared.commands.LineFault.{LineFault}
use Rattle.vtd_lines.specs.declared.commands.LineFault.TheVariants as faults
use Rattle.vtd_lines.specs.Commands.{Wrong, line_too_long, line_no_text, no_such_command}

-- another word
pub other_word : (word known : List ℕ) → (word ≡ known → ⊥) → bytes_eq word known ≡ false
other_word word known other = false_from_ne_true _ (λ t. other ((bytes_eq-Decides word known).0 t))

-- a fault in either of two texts
pub first_wrong : (make : List ℕ → List ℕ → Command) (first second : Option (List ℕ)) (fault : LineFault) → IsFieldFault first fault
    → IsCommand (Err fault) (of_two make first second)
first_wrong make first second faults.Long h = absurd h
first_wrong make first second faults.Utf8 h = absurd h
first_wrong make first second faults.Command h = absurd h
first_wrong make first second faults.Escape h = ap (λ (o : Option (List ℕ)). of_two make o second) h
first_wrong make first second faults.NoMemory h = tt

pub second_wrong : (make : List ℕ → List ℕ → Command) (text : List ℕ) (first second : Option (List ℕ)) (fault : LineFault) → first ≡ Some text
    → IsFieldFault second fault → IsCommand (Err fault) (of_two make first second)
second_wrong make text first second faults.Long e h = absurd h
second_wrong make text first second faults.Utf8 e h = absurd h
second_wrong make text first second faults.Command e h = absurd h
second_wrong make text first second faults.Escape e h = ap₂ (λ (o p : Option (List ℕ)). of_two make o p) e h
second_wrong make text first second faults.NoMemory e h = tt

-- the command of a line with one field, two, three or more
pub with_one : (word : List ℕ) (fs : List (List ℕ)) (result : Result Command LineFault) → fs ≡ word ∷ [] → IsCommand result (bare_command word)
    → IsCommand result (command fs)
with_one word fs result e h = let P : List (List ℕ) → Type 0 = λ xs. IsCommand result (command xs) in subst P (sym e) h

pub with_three : (word first second : List ℕ) (fs : List (List ℕ)) (result : Result Command LineFault) → fs ≡ word ∷ first ∷ second ∷ []
    → IsCommand result (command_with_two word first second) → IsCommand result (command fs)
with_three word first second fs result e h = let P : List (List ℕ) → Type 0 = λ xs. IsCommand result (command xs) in subst P (sym e) h

pub with_two : (word first : List ℕ) (fs : List (List ℕ)) (result : Result Command LineFault) → fs ≡ word ∷ first ∷ []
    → IsCommand result (command_with_one word first) → IsCommand result (command fs)
with_two word first fs result e h = let P : List (List ℕ) → Type 0 = λ xs. IsCommand result (command xs) in subst P (sym e) h

-- a line has some field
some_field : (line : List ℕ) → (first : List ℕ) × (others : List (List ℕ)) × (fields line ≡ first ∷ others)
some_field [] = ([], [], refl)
some_field (b ∷ line) = let h = some_field line in elim (cases_Bool (b == 9)) [
  | inl t ↦ ([], fields line, rw t refl)
  | inr f ↦ (b ∷ h.0, h.1, rw (f, h.2) refl)
]

pub with_more : (word first second line : List ℕ) (fs : List (List ℕ)) → fs ≡ word ∷ first ∷ second ∷ fields line → command fs ≡ Err no_such_command
with_more word first second line fs e = let h = some_field line in ap command (e ∙ ap (λ (xs : List (List ℕ)). word ∷ first ∷ second ∷ xs) h.2)

pub more_than_three : {A : Type 0} (f : A → List ℕ) (line word first second : List ℕ) (a b d : Option A) (x y : A) → fields line ≡ word ∷ fields_of (option_map f a) → a ≡ Some x
    → fields (f x) ≡ first ∷ fields_of (option_map f b) → b ≡ Some y → fields (f y) ≡ second ∷ fields_of (option_map f d) → is_some d ≡ true
    → command (fields line) ≡ Err no_such_command
more_than_three f line word first second a b None x y e p g q h s = absurd cc
more_than_three f line word first second a b (Some z) x y e p g q h s =
    with_more word first second (f z) (fields line)
    (e ∙ ap (λ o. word ∷ fields_of (option_map f o)) p
    ∙ ap (λ (fs : List (List ℕ)). word ∷ fs) (g ∙ ap (λ o. first ∷ fields_of (option_map f o)) q ∙ ap (λ (fs : List (List ℕ)). first ∷ fs) h))

-- the faults before the command
pub reads_nothing : (line : List ℕ) → (length line == 0) ≡ true → read line ≡ None
unfolding read
reads_nothing [] e = refl
reads_nothing (b ∷ line) e = absurd (let n = eqb-true (length (b ∷ line)) 0 e in omega arith)

pub reads_long : (line : List ℕ) → line_limit < length line → read line ≡ Some (Err line_too_long)
unfolding read
reads_long [] l = absurd (omega arith)
reads_long (b ∷ line) l = rw (lt-ltb line_limit (length (b ∷ line)) l) refl

-- a line that is not empty, and not too long
pub record IsFit (line : List ℕ) : Type 0 where
  pub some : (length line == 0) ≡ false
  pub within : length line ≤ line_limit

pub reads_wrong : (line : List ℕ) → IsFit line → (IsUtf8 line → ⊥) → read line ≡ Some (Err line_no_text)
unfolding read
reads_wrong [] f w = absurd (let n = f.some in cc)
reads_wrong (b ∷ line) f w = rw (
  le-ltb line_limit (length (b ∷ line)) f.within,
  false_from_ne_true (is_utf8 (b ∷ line)) (λ t. w (IsUtf8-from_is_utf8
      (b ∷ line) t)),
) refl

pub reads_command : (line given : List ℕ) → IsFit line → given ≡ line → IsUtf8 line → read line ≡ Some (command (fields given))
unfolding read
reads_command [] given f e u = absurd (let n = f.some in cc)
reads_command (b ∷ line) given f e u =
    rw (le-ltb line_limit (length (b ∷ line)) f.within, is_utf8-from_IsUtf8 (b ∷ line) u) (ap (λ (xs : List ℕ). Some (command (fields xs))) (sym e))

-- what was read, by what the fields ask for
pub reads_ok : (line : List ℕ) (asked : Result Command Wrong) (command : Command) → read line ≡ Some asked → IsCommand (Ok command) asked
    → Reads (Ok (Some command)) (read line)
reads_ok line asked command e h = e ∙ ap (λ (x : Result Command Wrong). Some x) h

pub reads_err : (line : List ℕ) (asked : Result Command Wrong) (fault : LineFault) → read line ≡ Some asked → IsCommand (Err fault) asked
    → Reads (Err fault) (read line)
reads_err line asked faults.Long e h = absurd h
reads_err line asked faults.Utf8 e h = absurd h
reads_err line asked faults.Command e h = e ∙ ap (λ (x : Result Command Wrong). Some x) h
reads_err line asked faults.Escape e h = e ∙ ap (λ (x : Result Command Wrong). Some x) h
reads_err line asked faults.NoMemory e h = tt

-- why a field stands for nothing, by its characters
pub fault_same : (given known : List ℕ) (fault : LineFault) → given ≡ known → IsFieldFault (unescaped given) fault → IsFieldFault (unescaped known) fault
fault_same given known fault e h = let P : List ℕ → Type 0 = λ cs. IsFieldFault (unescaped cs) fault in subst P e h

-- the command of a word that two fields follow, by its word
pub two_as : (result : Result Command LineFault) (found : Option TwoFields) (word : TwoFields) (first second : List ℕ) → found ≡ Some word
    → IsCommand result (of_two (command_of_two word) (unescaped (chars first)) (unescaped (chars second)))
    → IsCommand result (of_word_with_two found first second)
two_as result found word first second e h = let P : Option TwoFields → Type 0 = λ o. IsCommand result (of_word_with_two o first second) in subst P (sym e) h
