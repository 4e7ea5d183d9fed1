-- What the first fault of a document's names, or that there is none, says of the document.
use Rattle.std.proofs.Common.{◌≡◌, ℕ, ◌≤◌, List, [], sym, ◌∙◌, arith, Option, Some, None}
use Rattle.xml_model.specs.declared.DocFault.TheVariants as faults
use Rattle.xml_model.specs.Items.{first_place}
use Rattle.xml_model.specs.Nest.{Forest}
use Rattle.xml_model.specs.Accepted.{Faults, over_names, repeats, offences, RefusesName, Accepted, AcceptedTo, IsRefusal}
use Rattle.xml_model.proofs.Bridge.{no_refusal_from_accepted}
use Rattle.xml_items.proofs.OneItem.{one_item_on_walks}
use Rattle.vtd_words.specs.Lists.{Lists}
use Rattle.vtd_words.specs.Table.{IsTable, IsNestOf}
use Rattle.vtd_namespaces.specs.Faults.{first_of}
use Rattle.vtd_namespaces.proofs.FaultLemmas.{none_listed, some_listed}

refuses_name : (w : Faults) (bytes : List ℕ) (lists : Lists) (nest : Forest) → IsNestOf bytes lists nest → (at : ℕ) → Some at ≡ first_of (over_names w [] (first_place bytes) nest) → RefusesName w bytes at
refuses_name w bytes lists nest s at h =
    let l = some_listed (over_names w [] (first_place bytes) nest) at (sym h) in
    record { nest = nest; document = s.accepted.document; others = l.0; first = l.1 }

-- accepted as far as layer 7, or whole
accepted_more : (k : ℕ) (bytes : List ℕ) (nest : Forest) → Accepted 6 bytes nest → over_names repeats [] (first_place bytes) nest ≡ [] → (8 ≤ k → over_names offences [] (first_place bytes) nest ≡ []) → Accepted k bytes nest
accepted_more k bytes nest a t n = record { utf8 = a.utf8; document = a.document; entities = a.entities; encoding = a.encoding; widths = a.widths; twice = λ h. t; names = n }

pub accepted_whole : (bytes : List ℕ) (lists : Lists) (nest : Forest) → IsNestOf bytes lists nest → (r o : Option ℕ) → r ≡ None → o ≡ None → r ≡ first_of (over_names repeats [] (first_place bytes) nest) →
    (over_names repeats [] (first_place bytes) nest ≡ [] → o ≡ first_of (over_names offences [] (first_place bytes) nest)) → Accepted 8 bytes nest
accepted_whole bytes lists nest s r o e f h k =
    let t = none_listed (over_names repeats [] (first_place bytes) nest) (sym h ∙ e) in
    accepted_more 8 bytes nest s.accepted t (λ l. none_listed (over_names offences [] (first_place bytes) nest) (sym (k t) ∙ f))

pub twice_refused : (bytes : List ℕ) (lists : Lists) → IsTable bytes lists → (at : ℕ) (r : Option ℕ) → r ≡ Some at → ((nest : Forest) → IsNestOf bytes lists nest → r ≡ first_of (over_names repeats [] (first_place bytes) nest)) → IsRefusal bytes (faults.Twice at)
twice_refused bytes lists t at r e h =
    let none : AcceptedTo bytes 6 = no_refusal_from_accepted 6 bytes t.nest (one_item_on_walks bytes) t.shown.accepted in
    record { refuses = refuses_name repeats bytes lists t.nest t.shown at (sym e ∙ h t.nest t.shown); first = λ fault l. none fault (omega (arith, l)) }

pub namespace_refused : (bytes : List ℕ) (lists : Lists) → IsTable bytes lists → (at : ℕ) (r o : Option ℕ) → r ≡ None → o ≡ Some at → ((nest : Forest) → IsNestOf bytes lists nest → r ≡ first_of (over_names repeats [] (first_place bytes) nest)) →
    ((nest : Forest) → IsNestOf bytes lists nest → over_names repeats [] (first_place bytes) nest ≡ [] → o ≡ first_of (over_names offences [] (first_place bytes) nest)) → IsRefusal bytes (faults.Namespace at)
namespace_refused bytes lists t at r o e f h k =
    let twice = none_listed (over_names repeats [] (first_place bytes) t.nest) (sym (h t.nest t.shown) ∙ e) in
    let seven : Accepted 7 bytes t.nest = accepted_more 7 bytes t.nest t.shown.accepted twice (λ l. absurd (omega (arith, l))) in
    let none : AcceptedTo bytes 7 = no_refusal_from_accepted 7 bytes t.nest (one_item_on_walks bytes) seven in
    record { refuses = refuses_name offences bytes lists t.nest t.shown at (sym f ∙ k t.nest t.shown twice); first = λ fault l. none fault (omega (arith, l)) }
