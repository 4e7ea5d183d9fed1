-- What a parse of the words says of their form.
use Rattle.std.proofs.Common.{rules, ◌≡◌, List, [], ◌∷◌, codes, refl, true, false, Bool, ap, sym, inl, inr, if◌then◌else◌}
use Rattle.clap.specs.Walk.{Text, is_empty, rows_of}
use Rattle.clap.specs.Matches.{first_value}
use Rattle.clap.specs.Kinds.{Kinds, IsAmong, HasKind}
use Rattle.clap.specs.Values.{kind_of}
use Rattle.clap.specs.Simple.{is_simple, matches_of}
use Rattle.clap.specs.Faults.{fault_of, is_simple_and_free}
use Rattle.clap.proofs.WalkLemmas.{first_value-rows}
use Rattle.clap.specs.declared.error.Error.{Error}
use Rattle.clap.specs.declared.error.kind.ErrorKind.{ErrorKind}
use Rattle.clap.specs.declared.error.kind.ErrorKind.TheVariants as kind
use Rattle.clap.specs.declared.parser.matches.Found.{Found}
use Rattle.vtd_running.specs.Form.{choose, faults, rows, form, form_of_rows, is_set, no_form, vtd_app}

pub vtd_simple_and_free : is_simple_and_free vtd_app ≡ true
vtd_simple_and_free = refl

pub vtd_simple : is_simple vtd_app ≡ true
vtd_simple = refl

some_kind : (k : ErrorKind) (ks : Kinds) → IsAmong k ks → is_empty ks ≡ false
some_kind k [] h = elim h [ ]
some_kind k (x ∷ xs) h = search rules

pub form_refused : (words : List Text) (e : Error) → (kind_of e ≡ kind.OutOfMemory → ⊥)
    → HasKind (fault_of vtd_app words) e → form words ≡ no_form
unfolding faults rows
form_refused words e other (inl h) = absurd (other h)
form_refused words e other (inr h) =
    ap (λ (b : Bool). if b then form_of_rows (rows words) else no_form) (some_kind (kind_of e) (faults words) h)

pub form_taken : (words : List Text) (found : Found) → fault_of vtd_app words ≡ [] → rows_of found ≡ matches_of vtd_app words
    → choose (first_value found (codes "doc")) (first_value found (codes "generate")) (is_set (first_value found (codes "keep")))
    (is_set (first_value found (codes "index"))) ≡ form words
unfolding faults rows
form_taken words found none same =
    rw (
      first_value-rows found (codes "doc"),
      first_value-rows found (codes "generate"),
      first_value-rows found (codes "keep"),
      first_value-rows found (codes "index"),
      same,
    )
    (ap (λ (k : Kinds). if is_empty k then form_of_rows (rows words) else no_form) (sym none))
