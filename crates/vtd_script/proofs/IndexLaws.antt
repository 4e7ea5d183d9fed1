-- Commands of index files have one answer, and some, and leave a state with a document.
use Rattle.std.proofs.Common.{◌⊎◌, ◌≡◌, ◌≤◌, ◌<◌, ℕ, List, [], ◌∷◌, length, refl, ap, subst, ◌∙◌, inl, inr, arith}
use Rattle.std.specs.Prelude.{slice_index, zero, suc}
use Rattle.std.proofs.lemmas.Bool.{cases_lt}
use Rattle.xml_model.specs.Items.{first_place}
use Rattle.xml_model.specs.Nest.{Forest}
use Rattle.xml_model.specs.Records.{records}
use Rattle.xml_model.specs.Accepted.{Accepted}
use Rattle.xml_acceptance.proofs.OneAnswer as documents
use Rattle.vtd_words.specs.Numbers.{AreBytes}
use Rattle.vtd_index.specs.Index.{index_of}
use Rattle.vtd_documents.specs.Loads.{IsFileOf}
use Rattle.vtd_documents.proofs.Loading.{loaded_no_fault, one_loaded, some_load}
use Rattle.vtd_index.specs.declared.faults.IndexFault.{IndexFault}
use Rattle.vtd_index.proofs.Verdicts.{one_fault}
use Rattle.vtd_script.specs.States.{State, Answer, printed, refused, missing, state_after}
use Rattle.vtd_script.specs.Steps.{HasDocument, Indexes, PutsIndex, TakesIndex, document_line, index_limit, index_no_file, index_put, index_refusal}
use Rattle.vtd_script.specs.Steps.{index_taken, index_too_long, index_unfit, indexed_line, not_put, with_document, with_file}
use Rattle.vtd_script.proofs.UndoLaws.{kept_files, kept_opened}
use Rattle.vtd_script.specs.declared.refusals.Refusal.TheVariants as no

-- the answer of an index file that is taken
abbrev taken : List ℕ → Forest → State → Answer
taken bytes nest s = printed (document_line (length bytes) (length (records nest (first_place bytes)))) (with_document bytes s)

one_taken : (file a b : List ℕ) (s : State) (i : IsFileOf file a) (j : IsFileOf file b)
    → printed (document_line (length a) (length (records i.nest (first_place a)))) (with_document a s)
    ≡ printed (document_line (length b) (length (records j.nest (first_place b)))) (with_document b s)
one_taken file a b s i j =
    let same : a ≡ b = one_loaded file a b i j in
    let P : List ℕ → Type 0 = λ x. Accepted 8 x i.nest in
    let nests : i.nest ≡ j.nest = documents.one_document b i.nest j.nest (subst P same i.accepted).document j.accepted.document in
    let Q : List ℕ → Type 0 = λ x. taken a i.nest s ≡ taken x i.nest s in
    subst Q same refl ∙ ap (λ (n : Forest). taken b n s) nests

pub one_takes_index : (file : List ℕ) (s : State) (a b : Answer) → TakesIndex file s a → TakesIndex file s b → a ≡ b
one_takes_index file s a b (index_too_long l) (index_too_long m) = refl
one_takes_index file s a b (index_too_long l) (index_unfit m y g r) = absurd (omega arith)
one_takes_index file s a b (index_too_long l) (index_taken m y d j) = absurd (omega arith)
one_takes_index file s a b (index_too_long l) (index_no_file m n) = absurd (omega arith)
one_takes_index file s a b (index_unfit l x f q) (index_too_long m) = absurd (omega arith)
one_takes_index file s a b (index_unfit l x f q) (index_unfit m y g r) = ap (λ (z : IndexFault). refused (index_refusal z)) (one_fault file f g q r)
one_takes_index file s a b (index_unfit l x f q) (index_taken m y d j) = absurd (loaded_no_fault file d f j q)
one_takes_index file s a b (index_unfit l x f q) (index_no_file m n) = absurd (n x)
one_takes_index file s a b (index_taken l x c i) (index_too_long m) = absurd (omega arith)
one_takes_index file s a b (index_taken l x c i) (index_unfit m y g r) = absurd (loaded_no_fault file c g i r)
one_takes_index file s a b (index_taken l x c i) (index_taken m y d j) = one_taken file c d s i j
one_takes_index file s a b (index_taken l x c i) (index_no_file m n) = absurd (n x)
one_takes_index file s a b (index_no_file l n) (index_too_long m) = absurd (omega arith)
one_takes_index file s a b (index_no_file l n) (index_unfit m y g r) = absurd (n y)
one_takes_index file s a b (index_no_file l n) (index_taken m y d j) = absurd (n y)
one_takes_index file s a b (index_no_file l n) (index_no_file m o) = refl

-- whether a list is of bytes is decided
more_bytes : (x : ℕ) (xs : List ℕ) → x < 256 → AreBytes xs → AreBytes (x ∷ xs)
more_bytes x xs l h zero = l
more_bytes x xs l h (suc k) = h k

pub are_bytes : (xs : List ℕ) → AreBytes xs ⊎ (AreBytes xs → ⊥)
are_bytes [] = inl (λ k. no_entry k)
  where
    no_entry : (k : ℕ) → slice_index [] k < 256
    no_entry zero = omega arith
    no_entry (suc k) = omega arith
are_bytes (x ∷ xs) = by (are_bytes xs)
  where
    by : (AreBytes xs ⊎ (AreBytes xs → ⊥)) → AreBytes (x ∷ xs) ⊎ (AreBytes (x ∷ xs) → ⊥)
    by (inr n) = inr (λ h. n (λ k. h (suc k)))
    by (inl y) = elim (cases_lt x 256) [
      | inl l ↦ inl (more_bytes x xs l y)
      | inr l ↦ inr (λ h. let z : x < 256 = h zero in absurd (omega (arith, l, z)))
    ]

some_index_answer : (file : List ℕ) (s : State) → length file ≤ index_limit → AreBytes file → (a : Answer) × TakesIndex file s a
some_index_answer file s l y = elim (some_load file y) [
  | inl i ↦ (printed (document_line (length i.0) (length (records i.1.nest (first_place i.0)))) (with_document i.0 s), index_taken l y i.0 i.1)
  | inr f ↦ (refused (index_refusal f.0), index_unfit l y f.0 f.1)
]

pub some_takes_index : (file : List ℕ) (s : State) → (a : Answer) × TakesIndex file s a
some_takes_index file s = elim (cases_lt index_limit (length file)) [
  | inl l ↦ (refused no.FileLong, index_too_long l)
  | inr l ↦ (elim (are_bytes file) [
    | inl y ↦ some_index_answer file s l y
    | inr n ↦ (missing, index_no_file l n)
  ])
]

pub kept_takes_index : (file : List ℕ) (s : State) (a : Answer) → TakesIndex file s a → HasDocument s → HasDocument (state_after s a)
kept_takes_index file s a (index_too_long l) w = w
kept_takes_index file s a (index_unfit l y f r) w = w
kept_takes_index file s a (index_taken l y bytes i) w = kept_opened s bytes i.nest i.accepted
kept_takes_index file s a (index_no_file l n) w = w

one_puts_index : (name file : List ℕ) (s : State) (a b : Answer) → PutsIndex name file s a → PutsIndex name file s b → a ≡ b
one_puts_index name file s a b (not_put l) (not_put m) = refl
one_puts_index name file s a b (not_put l) (index_put m) = absurd (omega arith)
one_puts_index name file s a b (index_put l) (not_put m) = absurd (omega arith)
one_puts_index name file s a b (index_put l) (index_put m) = refl

pub one_indexes : (name : List ℕ) (s : State) (a b : Answer) → Indexes name s a → Indexes name s b → a ≡ b
one_indexes name s a b h k =
    let same : h.0 ≡ k.0 = documents.one_document s.work.bytes h.0 k.0 h.1.document k.1.document in
    let P : Forest → Type 0 = λ n. PutsIndex name (index_of s.work.bytes n) s a in
    one_puts_index name (index_of s.work.bytes k.0) s a b (subst P same h.2) k.2

some_puts_index : (name file : List ℕ) (s : State) → (a : Answer) × PutsIndex name file s a
some_puts_index name file s = elim (cases_lt index_limit (length file)) [
  | inl l ↦ (refused no.IndexLong, not_put l)
  | inr l ↦ (printed (indexed_line (length file)) (with_file name file s), index_put l)
]

pub some_indexes : (name : List ℕ) (s : State) → HasDocument s → (a : Answer) × Indexes name s a
some_indexes name s w = let h = some_puts_index name (index_of s.work.bytes w.nest) s in (h.0, (w.nest, w.accepted, h.1))

kept_puts_index : (name file : List ℕ) (s : State) (a : Answer) → PutsIndex name file s a → HasDocument s → HasDocument (state_after s a)
kept_puts_index name file s a (not_put l) w = w
kept_puts_index name file s a (index_put l) w = kept_files s _ w

pub kept_indexes : (name : List ℕ) (s : State) (a : Answer) → Indexes name s a → HasDocument s → HasDocument (state_after s a)
kept_indexes name s a h w = kept_puts_index name (index_of s.work.bytes h.0) s a h.2 w
