-- What the words of a command line ask for, by clap's exact rule for a simple command (this project's own).
use Rattle.std.specs.Prelude.{ℕ, Bool, true, false, ◌&&◌, nat_le, List, [], ◌∷◌, length, codes}
use Rattle.std.specs.Prelude.{Option, Some, None, if◌then◌else◌}
use Rattle.std.specs.Option.{option_map_or}
use Rattle.std.specs.Str.{all_ascii_digits, bytes_eq}
use Rattle.std.specs.Str.Parse.{digits_value}
use Rattle.clap.specs.Walk.{Row, Rule, Text, first_of, is_empty}
use Rattle.clap.specs.Simple.{App, matches_of, new_rule, new_shape}
use Rattle.clap.specs.Kinds.{Kinds}
use Rattle.clap.specs.Faults.{fault_of}
use Rattle.clap.specs.declared.builder.action.ArgAction.TheVariants.{Set, SetTrue}

-- the flags -k and -x, the option -g with its value, and the name of a document
abbrev pub keep_rule : Rule
keep_rule = record (new_rule (codes "keep")) { short = Some 107; action = Some SetTrue }

abbrev pub index_rule : Rule
index_rule = record (new_rule (codes "index")) { short = Some 120; action = Some SetTrue }

abbrev pub generate_rule : Rule
generate_rule = record (new_rule (codes "generate")) { short = Some 103; action = Some Set }

abbrev pub doc_rule : Rule
doc_rule = record (new_rule (codes "doc")) { action = Some Set }

-- the command: no help and no version
abbrev pub vtd_app : App
vtd_app = record {
  top = record (new_shape (codes "vtd")) {
    rules = keep_rule ∷ index_rule ∷ generate_rule ∷ doc_rule ∷ [];
    no_binary_name = true;
    disable_help_flag = true;
  };
  subs = [];
}

-- what the words ask for: a document, or an index file, by its name, with whether refused commands are passed over; the
-- generated document of so many orders; or nothing
pub data Form : Type 0 where
  document : List ℕ → Bool → Form
  index_file : List ℕ → Bool → Form
  generation : ℕ → Form
  no_form : Form

-- whether a text is one to seven decimal digits whose number is 1 to 1,000,000
abbrev pub is_count : Text → Bool
is_count text =
    all_ascii_digits text && nat_le 1 (length text) && nat_le (length text) 7
    && nat_le 1 (digits_value 10 text) && nat_le (digits_value 10 text) 1_000_000

-- how many orders a text asks for
abbrev pub count_of : Text → Option ℕ
count_of text = if is_count text then Some (digits_value 10 text) else None

abbrev pub generation_of : Option ℕ → Form
generation_of (Some count) = generation count
generation_of None = no_form

abbrev pub is_set : Option Text → Bool
is_set value = option_map_or (λ v. bytes_eq v (codes "true")) value false

-- Exactly one of a name and a number of orders is asked for, and -k and -x only beside a name, which is that of an index
-- file exactly with -x.
abbrev pub choose : Option Text → Option Text → Bool → Bool → Form
choose (Some doc) None keep false = document doc keep
choose (Some doc) None keep true = index_file doc keep
choose (Some doc) (Some count) keep indexed = no_form
choose None (Some count) false false = generation_of (count_of count)
choose None (Some count) false true = no_form
choose None (Some count) true indexed = no_form
choose None None keep indexed = no_form

abbrev pub form_of_rows : List Row → Form
form_of_rows rows =
    choose (first_of (codes "doc") rows) (first_of (codes "generate") rows)
    (is_set (first_of (codes "keep") rows)) (is_set (first_of (codes "index") rows))

-- what clap refuses of the words, and what it finds in them (unfoldable, so that no goal computes clap's walk)
unfoldable pub faults : List Text → Kinds
faults words = fault_of vtd_app words

unfoldable pub rows : List Text → List Row
rows words = matches_of vtd_app words

abbrev pub form : List Text → Form
form words = if is_empty (faults words) then form_of_rows (rows words) else no_form
