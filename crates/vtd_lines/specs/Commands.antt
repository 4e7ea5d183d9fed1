-- What a line asks for (this project's own).
use Rattle.std.specs.Prelude.{ℕ, cond, nat_lt, List, [], ◌∷◌, length, codes, Option, Some, None, Result, Ok, Err}
use Rattle.std.specs.Str.{bytes_eq, chars, is_utf8}
use Rattle.xml_model.specs.Items.{is_nil}
use Rattle.vtd_lines.specs.Fields.{fields, unescaped}
use Rattle.vtd_lines.specs.declared.commands.Command.{Command}
use Rattle.vtd_lines.specs.declared.commands.Command.TheVariants.{Elements, Ns, Select, Value, Remove, Replace}
use Rattle.vtd_lines.specs.declared.commands.Command.TheVariants.{Before, After, First, Last, Attr, Set, Rename}
use Rattle.vtd_lines.specs.declared.commands.Command.TheVariants.{Discard, Apply, Undo, Redo, Save, Index, Open, Load}
use Rattle.vtd_lines.specs.declared.commands.TwoFields.{TwoFields}
use Rattle.vtd_lines.specs.declared.commands.TwoFields.TheVariants as two
use Rattle.vtd_lines.specs.declared.commands.OneField.{OneField}
use Rattle.vtd_lines.specs.declared.commands.OneField.TheVariants as one

-- why a line asks for no command
pub data Wrong : Type 0 where
  line_too_long : Wrong
  line_no_text : Wrong
  no_such_command : Wrong
  no_such_escape : Wrong

-- the command of a word that no field follows
abbrev pub bare_command : List ℕ → Result Command Wrong
bare_command word =
    cond (bytes_eq word (codes "elements")) (Ok Elements)
    (cond (bytes_eq word (codes "discard")) (Ok Discard)
    (cond (bytes_eq word (codes "apply")) (Ok Apply)
    (cond (bytes_eq word (codes "undo")) (Ok Undo)
    (cond (bytes_eq word (codes "redo")) (Ok Redo) (Err no_such_command)))))

-- a command of one text, which may hold a wrong escape
abbrev pub of_one : (List ℕ → Command) → Option (List ℕ) → Result Command Wrong
of_one make None = Err no_such_escape
of_one make (Some text) = Ok (make text)

-- the words that one field follows
abbrev pub word_with_one : List ℕ → Option OneField
word_with_one word =
    cond (bytes_eq word (codes "select")) (Some one.Select)
    (cond (bytes_eq word (codes "value")) (Some one.Value)
    (cond (bytes_eq word (codes "remove")) (Some one.Remove)
    (cond (bytes_eq word (codes "save")) (Some one.Save)
    (cond (bytes_eq word (codes "index")) (Some one.Index)
    (cond (bytes_eq word (codes "open")) (Some one.Open)
    (cond (bytes_eq word (codes "load")) (Some one.Load) None))))))

-- the command of such a word and the text of its field
abbrev pub with_one : OneField → List ℕ → Command
with_one one.Select expr = Select expr
with_one one.Value expr = Value expr
with_one one.Remove expr = Remove expr
with_one one.Save file = Save file
with_one one.Index file = Index file
with_one one.Open file = Open file
with_one one.Load file = Load file

-- the command of a word that one field follows
abbrev pub of_word_with_one : Option OneField → List ℕ → Result Command Wrong
of_word_with_one None first = Err no_such_command
of_word_with_one (Some word) first = of_one (with_one word) (unescaped (chars first))

abbrev pub command_with_one : List ℕ → List ℕ → Result Command Wrong
command_with_one word first = of_word_with_one (word_with_one word) first

-- a command of two texts, either of which may hold a wrong escape
abbrev pub of_two : (List ℕ → List ℕ → Command) → Option (List ℕ) → Option (List ℕ) → Result Command Wrong
of_two make None second = Err no_such_escape
of_two make (Some first) None = Err no_such_escape
of_two make (Some first) (Some second) = Ok (make first second)

-- the words that two fields follow
abbrev pub word_with_two : List ℕ → Option TwoFields
word_with_two word =
    cond (bytes_eq word (codes "ns")) (Some two.Ns)
    (cond (bytes_eq word (codes "replace")) (Some two.Replace)
    (cond (bytes_eq word (codes "before")) (Some two.Before)
    (cond (bytes_eq word (codes "after")) (Some two.After)
    (cond (bytes_eq word (codes "first")) (Some two.First)
    (cond (bytes_eq word (codes "last")) (Some two.Last)
    (cond (bytes_eq word (codes "attr")) (Some two.Attr)
    (cond (bytes_eq word (codes "set")) (Some two.Set)
    (cond (bytes_eq word (codes "rename")) (Some two.Rename) None))))))))

-- the command of such a word and the texts of its fields
abbrev pub with_two : TwoFields → List ℕ → List ℕ → Command
with_two two.Ns prefix uri = Ns prefix uri
with_two two.Replace expr text = Replace expr text
with_two two.Before expr text = Before expr text
with_two two.After expr text = After expr text
with_two two.First expr text = First expr text
with_two two.Last expr text = Last expr text
with_two two.Attr expr text = Attr expr text
with_two two.Set expr text = Set expr text
with_two two.Rename expr name = Rename expr name

-- the command of a word that two fields follow
abbrev pub of_word_with_two : Option TwoFields → List ℕ → List ℕ → Result Command Wrong
of_word_with_two None first second = Err no_such_command
of_word_with_two (Some word) first second =
    of_two (with_two word) (unescaped (chars first)) (unescaped (chars second))

abbrev pub command_with_two : List ℕ → List ℕ → List ℕ → Result Command Wrong
command_with_two word first second = of_word_with_two (word_with_two word) first second

-- A word that no command has with so many fields comes before a wrong escape in one of them.
abbrev pub command : List (List ℕ) → Result Command Wrong
command (word ∷ []) = bare_command word
command (word ∷ first ∷ []) = command_with_one word first
command (word ∷ first ∷ second ∷ []) = command_with_two word first second
command _ = Err no_such_command

abbrev pub line_limit : ℕ
line_limit = 65_536

-- What a line asks for: nothing where it is empty, else a command or the first of the four faults.
unfoldable pub read : List ℕ → Option (Result Command Wrong)
read line =
    cond (is_nil line) None
    (Some (cond (nat_lt line_limit (length line)) (Err line_too_long)
    (cond (is_utf8 line) (command (fields line)) (Err line_no_text))))
