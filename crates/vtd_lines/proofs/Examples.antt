-- Scripts with their lines, and lines with what they ask for.
use Rattle.std.proofs.Common.{◌≡◌, [], ◌∷◌, codes, Some, None, Ok, Err, refl}
use Rattle.std.specs.Str.{chars, is_utf8}
use Rattle.vtd_lines.specs.Lines.{lines}
use Rattle.vtd_lines.specs.Fields.{fields, unescaped}
use Rattle.vtd_lines.specs.Commands.{read}
use Rattle.vtd_lines.specs.declared.commands.Command.TheVariants.{Elements, Ns, Select, Remove, Set, Discard, Apply, Save, Index, Open, Load}
use Rattle.vtd_lines.specs.Commands.{line_no_text, no_such_command, no_such_escape}

no_lines : lines [] ≡ []
unfolding lines
no_lines = refl

-- each line feed ends a line, the last line may lack it, and one return before it belongs to it
ends : lines (codes "a\r\n\nb\rc\r\r\n") ≡ codes "a" ∷ [] ∷ codes "b\rc\r" ∷ []
unfolding lines
ends = refl

unended : lines (codes "a\nb\r") ≡ codes "a" ∷ codes "b\r" ∷ []
unfolding lines
unended = refl

separate : fields (codes "ns\t\tu") ≡ codes "ns" ∷ [] ∷ codes "u" ∷ []
separate = refl

one_alone : fields [] ≡ [] ∷ []
one_alone = refl

escapes : unescaped (codes "a\\tb\\n\\r\\\\t") ≡ Some (codes "a\tb\n\r\\t")
escapes = refl

none_begins : unescaped (codes "a\\q") ≡ None
none_begins = refl

none_ends : unescaped (codes "a\\") ≡ None
none_ends = refl

elements : read (codes "elements") ≡ Some (Ok Elements)
unfolding read is_utf8 chars lib.Utf8.encode
elements = refl

binds : read (codes "ns\ta\\tb\tc\\\\n") ≡ Some (Ok (Ns (codes "a\tb") (codes "c\\n")))
unfolding read is_utf8 chars lib.Utf8.encode
binds = refl

selects : read (codes "select\t//a") ≡ Some (Ok (Select (codes "//a")))
unfolding read is_utf8 chars lib.Utf8.encode
selects = refl

sets : read (codes "set\t//a\tb\\tc") ≡ Some (Ok (Set (codes "//a") (codes "b\tc")))
unfolding read is_utf8 chars lib.Utf8.encode
sets = refl

removes : read (codes "remove\ta") ≡ Some (Ok (Remove (codes "a")))
unfolding read is_utf8 chars lib.Utf8.encode
removes = refl

removes_no_text : read (codes "remove\ta\tb") ≡ Some (Err no_such_command)
unfolding read is_utf8 chars lib.Utf8.encode
removes_no_text = refl

empty_fields : read (codes "ns\t\t") ≡ Some (Ok (Ns [] []))
unfolding read is_utf8 chars lib.Utf8.encode
empty_fields = refl

discards : read (codes "discard") ≡ Some (Ok Discard)
unfolding read is_utf8 chars lib.Utf8.encode
discards = refl

applies : read (codes "apply") ≡ Some (Ok Apply)
unfolding read is_utf8 chars lib.Utf8.encode
applies = refl

saves : read (codes "save\ta\\tb") ≡ Some (Ok (Save (codes "a\tb")))
unfolding read is_utf8 chars lib.Utf8.encode
saves = refl

indexes : read (codes "index\ta") ≡ Some (Ok (Index (codes "a")))
unfolding read is_utf8 chars lib.Utf8.encode
indexes = refl

loads : read (codes "load\ta") ≡ Some (Ok (Load (codes "a")))
unfolding read is_utf8 chars lib.Utf8.encode
loads = refl

opens : read (codes "open\t") ≡ Some (Ok (Open []))
unfolding read is_utf8 chars lib.Utf8.encode
opens = refl

no_file : read (codes "save") ≡ Some (Err no_such_command)
unfolding read is_utf8 chars lib.Utf8.encode
no_file = refl

two_files : read (codes "open\ta\\q\tb") ≡ Some (Err no_such_command)
unfolding read is_utf8 chars lib.Utf8.encode
two_files = refl

wrong_name : read (codes "open\ta\\q") ≡ Some (Err no_such_escape)
unfolding read is_utf8 chars lib.Utf8.encode
wrong_name = refl

nothing : read [] ≡ None
unfolding read
nothing = refl

-- a wrong number of fields comes before a wrong escape, and an empty field is a field
too_many : read (codes "ns\ta\tb\\q\tc") ≡ Some (Err no_such_command)
unfolding read is_utf8 chars lib.Utf8.encode
too_many = refl

one_too_many : read (codes "elements\t") ≡ Some (Err no_such_command)
unfolding read is_utf8 chars lib.Utf8.encode
one_too_many = refl

wrong_escape : read (codes "ns\ta\\q\tb") ≡ Some (Err no_such_escape)
unfolding read is_utf8 chars lib.Utf8.encode
wrong_escape = refl

no_text : read (255 ∷ []) ≡ Some (Err line_no_text)
unfolding read is_utf8 chars lib.Utf8.encode
no_text = refl
