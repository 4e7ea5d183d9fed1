-- What opening an index file answers.
use Rattle.std.proofs.Common.{◌≡◌, ◌↔◌, ℕ, ◌^◌, ◌<◌, List, length, Option, Some, None, Result, Ok, Err, refl, ap, sym, subst, ◌∙◌}
use Rattle.xml_model.specs.declared.DocFault.{DocFault}
use Rattle.xml_model.specs.Accepted.{Accepted, IsRefusal}
use Rattle.xml_model.specs.Nest.{Forest}
use Rattle.xml_acceptance.proofs.OneAnswer as answers
use Rattle.vtd_builder.specs.Documents.{Document}
use Rattle.vtd_index.specs.declared.faults.IndexFault.{IndexFault}
use Rattle.vtd_index.specs.declared.head.Version.{Version}
use Rattle.vtd_index.specs.declared.head.Version.TheVariants.{One, Two}
use Rattle.vtd_index.specs.declared.opening.LoadFault.{LoadFault}
use Rattle.vtd_index.specs.declared.opening.LoadFault.TheVariants as loads
use Rattle.vtd_index.specs.Answers.{IsView}
use Rattle.vtd_index.specs.Holding.{head_for}
use Rattle.vtd_index.specs.Index.{IsFault, IsFileBy, IsIndexOf}
use Rattle.vtd_index.specs.Loading.{held_by, held_in}
use Rattle.vtd_index.specs.Opening.{IsBuilt, IsCopy, IsLoadFault}
use Rattle.vtd_index.proofs.Checks.{held_at, view_here}
use Rattle.vtd_index.proofs.Verdicts.{index_read, layer_within, not_both, one_fault, one_version}
use Rattle.vtd_index.proofs.Versions.{words_by}

-- a file of the second version is what is kept of it
pub view_of : (file : List ℕ) → length file < 2 ^ 32 → IsFileBy Two file → IsView file (held_in file)
view_of file few (bytes, i) =
    let words = words_by Two bytes i.nest in
    let h = head_for Two bytes words in
    let back = index_read Two file bytes i in
    let p : Document = held_by file (Ok h) in
    let i2 = subst (λ (x : List ℕ). IsIndexOf file x) (sym back.document) i in
    let here : IsView file p = view_here file h p few back.head refl refl i2 in
    subst (λ (x : Document). IsView file x) (held_at file h p back.head refl refl) here

-- a file that is not opened is none of the second version
pub not_view : (file : List ℕ) (fault : LoadFault) → IsLoadFault file fault → (◌≡◌ {A = Option Version} None (Some Two)) ↔ IsFileBy Two file
not_view file fault l = (to, from fault l)
  where
    to : ◌≡◌ {A = Option Version} None (Some Two) → IsFileBy Two file
    to e = absurd cc

    from : (fault : LoadFault) → IsLoadFault file fault → IsFileBy Two file → ◌≡◌ {A = Option Version} None (Some Two)
    from (loads.Index f) l i = absurd (not_both file f (Two, i) l)
    from loads.NoMemory (a, i) (b, j) = absurd (one_version file a b i j)

-- the fault of a file that is not opened
pub exactly_fault : (file : List ℕ) (load : LoadFault) → IsLoadFault file load → (fault : IndexFault) → (load ≡ loads.Index fault) ↔ IsFault file fault
exactly_fault file load l fault = (to, from load l)
  where
    to : load ≡ loads.Index fault → IsFault file fault
    to e = subst (λ (x : LoadFault). IsLoadFault file x) e l

    from : (load : LoadFault) → IsLoadFault file load → IsFault file fault → load ≡ loads.Index fault
    from (loads.Index f) l g = ap (λ (x : IndexFault). loads.Index x) (one_fault file f fault l g)
    from loads.NoMemory i g = absurd (not_both file fault (One, i) g)

pub only_first : (file : List ℕ) (load : LoadFault) → IsLoadFault file load → load ≡ loads.NoMemory → IsFileBy One file
only_first file load l e = subst (λ (x : LoadFault). IsLoadFault file x) e l

-- what was built, where it is known what it is
pub built_none : (file bytes : List ℕ) (r : Result (Option Document) LoadFault) (o : Option Document) → bytes ≡ file → r ≡ Ok o → o ≡ None
    → IsBuilt bytes r → IsFileBy Two file
built_none file bytes r o b e f h =
    let same : r ≡ Ok None = e ∙ ap (λ (x : Option Document). Ok x) f in
    let i : IsFileBy Two bytes = subst (λ (x : Result (Option Document) LoadFault). IsBuilt bytes x) same h in
    subst (λ (x : List ℕ). IsFileBy Two x) b i

pub built_some : (file bytes : List ℕ) (r : Result (Option Document) LoadFault) (o : Option Document) (d : Document) → bytes ≡ file → r ≡ Ok o
    → o ≡ Some d → IsBuilt bytes r → IsFileBy One file
built_some file bytes r o d b e f h =
    let same : r ≡ Ok (Some d) = e ∙ ap (λ (x : Option Document). Ok x) f in
    let i : IsCopy bytes d = subst (λ (x : Result (Option Document) LoadFault). IsBuilt bytes x) same h in
    subst (λ (x : List ℕ). IsFileBy One x) b (d.bytes, i.index)

pub built_fault : (file bytes : List ℕ) (r : Result (Option Document) LoadFault) (fault : LoadFault) → bytes ≡ file → r ≡ Err fault
    → IsBuilt bytes r → IsLoadFault file fault
built_fault file bytes r fault b e h =
    let l : IsLoadFault bytes fault = subst (λ (x : Result (Option Document) LoadFault). IsBuilt bytes x) e h in
    subst (λ (x : List ℕ). IsLoadFault x fault) b l

-- an accepted document is not refused
pub not_refused : (bytes copy : List ℕ) (fault : DocFault) → copy ≡ bytes → (nest : Forest) × Accepted 8 bytes nest → IsRefusal copy fault → ⊥
not_refused bytes copy fault e (nest, a) r =
    answers.not_both 8 bytes nest fault a (layer_within fault) (subst (λ (x : List ℕ). IsRefusal x fault) e r)
