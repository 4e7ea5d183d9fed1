-- A file loads one document, or has one fault.
use Rattle.std.proofs.Common.{◌⊎◌, ◌≡◌, ◌↔◌, ℕ, false, List, Result, Ok, Err, IfOk, IfErr, inl, inr, refl, subst}
use Rattle.vtd_words.specs.Numbers.{AreBytes}
use Rattle.vtd_index.specs.Index.{IsFault, IsFileBy, IsIndexBy}
use Rattle.vtd_index.specs.Opening.{IsLoadFault, IsOpened}
use Rattle.vtd_index.specs.declared.faults.IndexFault.{IndexFault}
use Rattle.vtd_index.specs.declared.head.Version.{Version}
use Rattle.vtd_index.specs.declared.head.Version.TheVariants.{One, Two}
use Rattle.vtd_index.specs.declared.opening.Opened.{Opened}
use Rattle.vtd_index.specs.declared.opening.Opened.TheVariants as opens
use Rattle.vtd_index.specs.declared.opening.LoadFault.{LoadFault}
use Rattle.vtd_index.specs.declared.opening.LoadFault.TheVariants as loads
use Rattle.vtd_index.proofs.Verdicts.{not_both, one_document, one_version, some_answer}
use Rattle.vtd_held.specs.Holding.{is_filed, opened_bytes}
use Rattle.vtd_documents.specs.Loads.{IsFileOf}

pub file_of_index : (version : Version) (file bytes : List ℕ) → IsIndexBy version file bytes → IsFileOf file bytes
file_of_index version file bytes i = record { nest = i.nest; accepted = i.accepted; version = version; index = i }

one_by : (v w : Version) (file a b : List ℕ) → IsIndexBy v file a → IsIndexBy w file b → a ≡ b
one_by One One file a b i j = one_document One file a b i j
one_by Two Two file a b i j = one_document Two file a b i j
one_by One Two file a b i j = absurd (one_version file a b i j)
one_by Two One file a b i j = absurd (one_version file b a j i)

pub one_loaded : (file a b : List ℕ) → IsFileOf file a → IsFileOf file b → a ≡ b
one_loaded file a b i j = one_by i.version j.version file a b i.index j.index

pub loaded_no_fault : (file bytes : List ℕ) (fault : IndexFault) → IsFileOf file bytes → IsFault file fault → ⊥
loaded_no_fault file bytes fault i q = not_both file fault (i.version, (bytes, i.index)) q

pub some_load : (file : List ℕ) → AreBytes file → ((bytes : List ℕ) × IsFileOf file bytes) ⊎ ((fault : IndexFault) × IsFault file fault)
some_load file y = elim (some_answer file y) [
  | inl i ↦ inl (i.1.0, file_of_index i.0 file i.1.0 i.1.1)
  | inr f ↦ inr f
]

-- the fault of a file, by its case
pub fault_of : (file : List ℕ) (given : LoadFault) (fault : IndexFault) → given ≡ loads.Index fault → IsLoadFault file given → IsFault file fault
fault_of file given fault e h = let P : LoadFault → Type 0 = λ x. IsLoadFault file x in subst P e h

pub load_fault : (file : List ℕ) (given : LoadFault) → ((fault : IndexFault) → (given ≡ loads.Index fault) ↔ IsFault file fault)
    → (given ≡ loads.NoMemory → IsFileBy One file) → IsLoadFault file given
load_fault file (loads.Index fault) f m = (f fault).0 refl
load_fault file loads.NoMemory f m = m refl

-- what a call answers of a file
pub load_faults : {T B : Type 0} (file : List ℕ) (result : Result T (B × LoadFault))
    → IfErr result (λ e. (fault : IndexFault) → (e.1 ≡ loads.Index fault) ↔ IsFault file fault)
    → IfErr result (λ e. e.1 ≡ loads.NoMemory → IsFileBy One file) → IfErr result (λ e. IsLoadFault file e.1)
load_faults file (Ok held) f m = tt
load_faults file (Err e) f m = load_fault file e.1 f m

opened_file : (file : List ℕ) (held : Opened) → IsOpened file held → IsFileOf file (opened_bytes held)
opened_file file (opens.View loaded) h = file_of_index Two file loaded.bytes h.index
opened_file file (opens.Built doc) h = file_of_index One file doc.bytes h.index

pub load_answer : {E : Type 0} (file : List ℕ) (result : Result Opened E) → IfOk result (IsOpened file)
    → IfOk result (λ held. IsFileOf file (opened_bytes held))
load_answer file (Ok held) h = opened_file file held h
load_answer file (Err e) h = tt

-- what was copied came of a file of the first version
pub copied_file : (file : List ℕ) (held : Opened) → is_filed held ≡ false → IsOpened file held → IsLoadFault file loads.NoMemory
copied_file file (opens.View loaded) e h = absurd (cc)
copied_file file (opens.Built doc) e h = (doc.bytes, h.index)
