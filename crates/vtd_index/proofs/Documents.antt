-- Documents beside their words.
use Rattle.std.proofs.Common.{◌≡◌, ℕ, ◌<◌, ◌^◌, List, length, ap, sym, subst, ◌∙◌, Result, Ok}
use Rattle.xml_model.specs.Accepted.{Accepted}
use Rattle.xml_model.specs.Items.{first_place}
use Rattle.xml_model.specs.Nest.{Forest}
use Rattle.xml_model.specs.Records.{records}
use Rattle.xml_acceptance.proofs.OneAnswer.{one_document}
use Rattle.vtd_words.specs.Lists.{Lists}
use Rattle.vtd_words.specs.Table.{IsNestTo, Shows}
use Rattle.vtd_words.proofs.Fitting.{nest_shown}
use Rattle.vtd_location.specs.Nav.{HasLevels, IsNav}
use Rattle.vtd_builder.specs.Documents.{words_of, IsDoc}
use Rattle.vtd_builder.proofs.Built.{words_are}
use Rattle.vtd_index.specs.declared.faults.IndexFault.{IndexFault}
use Rattle.vtd_index.specs.declared.head.Head.{Head}
use Rattle.vtd_index.specs.Heads.{head_of, document_in, lists_at}
use Rattle.vtd_index.specs.Index.{index_of}
use Rattle.vtd_index.specs.Layout.{file_of}
use Rattle.vtd_index.specs.Loading.{IsLoaded}

-- the words of a document that is accepted whole are those of its nest
pub nav_words : (bytes : List ℕ) (lists : Lists) (nest : Forest) → IsNav bytes lists → Accepted 8 bytes nest → lists ≡ words_of bytes nest
nav_words bytes lists nest n a =
    let same : n.nest ≡ nest = one_document bytes n.nest nest n.shown.accepted.document a.document in
    words_are bytes lists n.nest n.shown.recorded n.shown.leveled ∙ ap (λ (f : Forest). words_of bytes f) same

pub shows : (bytes : List ℕ) (stored : Lists) (nest : Forest) → length bytes < 2 ^ 30 → IsNestTo 6 bytes stored nest
    → Shows stored.records (records nest (first_place bytes))
shows bytes stored nest few r = nest_shown bytes stored nest few r

pub is_doc : (bytes : List ℕ) (stored : Lists) (nest : Forest) → length bytes < 2 ^ 30 → Accepted 8 bytes nest → IsNestTo 6 bytes stored nest
    → HasLevels stored (records nest (first_place bytes)) → IsDoc bytes stored
is_doc bytes stored nest few a r h = record { few = few; nest = nest; accepted = a; recorded = words_are bytes stored nest r.recorded h }

same_head : (g h : Head) → ◌≡◌ {A = Result Head IndexFault} (Ok g) (Ok h) → g ≡ h
same_head g h e = cc

pub loaded_at : (file : List ℕ) (h : Head) → IsLoaded file → head_of file ≡ Ok h → IsDoc (document_in file h) (lists_at file h)
loaded_at file h l e =
    let P : Head → Type 0 = λ x. IsDoc (document_in file x) (lists_at file x) in
    subst P (same_head l.head h (sym l.found ∙ e)) l.document

-- the index file of a document by its words
pub nav_file : (bytes : List ℕ) (lists : Lists) (nest : Forest) → IsNav bytes lists → Accepted 8 bytes nest → index_of bytes nest ≡ file_of bytes lists
nav_file bytes lists nest n a = sym (ap (λ (x : Lists). file_of bytes x) (nav_words bytes lists nest n a))
