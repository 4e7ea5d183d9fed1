-- Each file of bytes is the index file of one document, or has one fault.
use Rattle.std.proofs.Common.{◌≡◌, ◌↔◌, ℕ, ◌^◌, ◌<◌, ◌≤◌, Bool, true, false, cond, nat_lt, List, length, take, Option, Some, None}
use Rattle.std.proofs.Common.{Result, Ok, Err}
use Rattle.std.proofs.Common.{inl, inr, refl, ap, sym, subst, ◌∙◌, arith}
use Rattle.std.proofs.lemmas.Bool.{cases_lt}
use Rattle.xml_model.specs.declared.DocFault.{DocFault}
use Rattle.xml_model.specs.declared.DocFault.TheVariants as refusals
use Rattle.xml_model.specs.Accepted.{Accepted, layer}
use Rattle.xml_model.specs.Items.{first_place}
use Rattle.xml_model.specs.Nest.{Forest}
use Rattle.xml_model.specs.Records.{records}
use Rattle.xml_acceptance.specs.Laws as acceptance
use Rattle.xml_acceptance.proofs.OneAnswer as answers
use Rattle.xml_acceptance.proofs.SomeAnswer as some
use Rattle.vtd_words.specs.Lists.{Lists}
use Rattle.vtd_words.specs.Numbers.{AreBytes}
use Rattle.vtd_words.specs.Table.{IsNestTo}
use Rattle.vtd_location.specs.declared.checking.CacheDiff.{CacheDiff}
use Rattle.vtd_location.specs.Differences.{differ}
use Rattle.vtd_location.proofs.NavLaws.{fewer_layers}
use Rattle.vtd_location.proofs.Passing.{same_list}
use Rattle.vtd_builder.specs.Offered.{record_words}
use Rattle.vtd_index.specs.declared.faults.IndexFault.{IndexFault}
use Rattle.vtd_index.specs.declared.faults.IndexFault.TheVariants as faults
use Rattle.vtd_index.specs.declared.head.Head.{Head}
use Rattle.vtd_index.specs.declared.head.Version.{Version}
use Rattle.vtd_index.specs.declared.head.Version.TheVariants.{One, Two}
use Rattle.vtd_index.specs.Heads.{document_at, document_in, head_of, lists_at}
use Rattle.vtd_index.specs.Holding.{file_by, head_for, ReadBack}
use Rattle.vtd_index.specs.Index.{differ_by, index_by, IsIndexBy, IsIndexFile, RefusesDocument, RefusesRecords, RefusesCaches, RefusesParts}
use Rattle.vtd_index.specs.Index.{FaultBy, IsFault}
use Rattle.vtd_index.specs.Laws.{Answer, NotBoth, OneDocument, OneFault, OneIndex, OneVersion, PrefixesRefused, SomeAnswer, SomeIndex}
use Rattle.vtd_index.proofs.Differing.{same_none}
use Rattle.vtd_index.proofs.Fitting.{can_by}
use Rattle.vtd_index.proofs.Heads.{is_head, length_slice}
use Rattle.vtd_index.proofs.Reading.{one_head, one_read, prefix_read, reads_file}
use Rattle.vtd_index.proofs.Versions.{file_index, none_by, records_by, shape_by, words_by, words_same}
use Rattle.vtd_index.proofs.Written.{is_file, shaped}

-- an index file is read back
pub index_read : (v : Version) (file bytes : List ℕ) (i : IsIndexBy v file bytes) → ReadBack v file bytes (words_by v bytes i.nest)
index_read v file bytes i =
    reads_file v file bytes (words_by v bytes i.nest) (can_by v bytes i.nest i.few i.accepted) (shape_by v bytes i.nest)
    (i.written ∙ file_index v bytes i.nest)

-- the index file of one document is that of no other, and a document has one index file of each version
pub one_document : OneDocument
one_document v file a b i j =
    one_read v v file a b (words_by v a i.nest) (words_by v b j.nest) (index_read v file a i) (index_read v file b j)

pub one_index : OneIndex
one_index v bytes f g i j =
    let same : i.nest ≡ j.nest = answers.one_document bytes i.nest j.nest i.accepted.document j.accepted.document in
    i.written ∙ ap (λ (nest : Forest). index_by v bytes nest) same ∙ sym j.written

pub some_index : SomeIndex
some_index v bytes nest few a = record { few = few; nest = nest; accepted = a; written = refl }

-- no file is one of both versions
one_two : ◌≡◌ {A = Version} One Two → ⊥
one_two e = absurd cc

pub one_version : OneVersion
one_version file a b i j =
    let same = one_head One Two file a b (words_by One a i.nest) (words_by Two b j.nest) (index_read One file a i) (index_read Two file b j) in
    one_two (ap (λ (h : Head). h.version) same)

-- lists that are the same do not differ
levels_none : (stored real : List ℕ) → stored ≡ real → differ 0 stored real ≡ None
levels_none stored real e = subst (λ (xs : List ℕ). differ 0 stored xs ≡ None) e (same_none 0 stored)

pub layer_within : (fault : DocFault) → layer fault ≤ 8
layer_within (refusals.Utf8 at) = omega arith
layer_within (refusals.Syntax at) = omega arith
layer_within (refusals.Entity at) = omega arith
layer_within (refusals.Encoding at) = omega arith
layer_within (refusals.Nesting at) = omega arith
layer_within (refusals.Depth at) = omega arith
layer_within (refusals.Width field at) = omega arith
layer_within (refusals.Twice at) = omega arith
layer_within (refusals.Namespace at) = omega arith

-- the words of a document have no fault
some_none : {A : Type 0} (x : A) → ◌≡◌ {A = Option A} None (Some x) → ⊥
some_none x e = absurd cc

no_records : (v : Version) (bytes : List ℕ) (nest : Forest) (at : ℕ) → Accepted 8 bytes nest → RefusesRecords bytes (words_by v bytes nest) at → ⊥
no_records v bytes nest at a r =
    let same : r.nest ≡ nest = answers.one_document bytes r.nest nest r.accepted.document a.document in
    let e = subst (λ (f : Forest). differ 0 (words_by v bytes nest).records (record_words bytes f) ≡ Some at) same r.first in
    let d = subst (λ (ws : List ℕ). differ 0 ws (record_words bytes nest) ≡ Some at) (records_by v bytes nest) e in
    some_none at (sym (same_none 0 (record_words bytes nest)) ∙ d)

no_caches : (v : Version) (bytes : List ℕ) (nest : Forest) (level at : ℕ) → Accepted 8 bytes nest → RefusesCaches v bytes (words_by v bytes nest) level at → ⊥
no_caches v bytes nest level at a r =
    let same : r.nest ≡ nest = answers.one_document bytes r.nest nest r.recorded.accepted.document a.document in
    let diff : CacheDiff = record { level = level; at = at } in
    let e = subst (λ (f : Forest). differ_by v (words_by v bytes nest) (records f (first_place bytes)) ≡ Some diff) same r.first in
    some_none diff (sym (none_by v bytes nest) ∙ e)

no_fault : (v : Version) (bytes : List ℕ) (nest : Forest) (fault : IndexFault) → Accepted 8 bytes nest
    → RefusesParts v bytes (words_by v bytes nest) fault → ⊥
no_fault v bytes nest (faults.Doc fault) a r = answers.not_both 8 bytes nest fault a (layer_within fault) r.refusal
no_fault v bytes nest (faults.Records at) a r = no_records v bytes nest at a r
no_fault v bytes nest (faults.Caches level at) a r = no_caches v bytes nest level at a r
no_fault v bytes nest faults.Short a r = r
no_fault v bytes nest faults.Magic a r = r
no_fault v bytes nest faults.Size a r = r
no_fault v bytes nest (faults.Padding at) a r = r

-- by the head, which is found
fault_at : (file : List ℕ) (h : Head) (fault : IndexFault) → head_of file ≡ Ok h → IsFault file fault
    → RefusesParts h.version (document_in file h) (lists_at file h) fault
fault_at file h fault e f = subst (λ (r : Result Head IndexFault). FaultBy file fault r) e f

pub not_both : NotBoth
not_both file fault (v, (bytes, i)) f =
    let words = words_by v bytes i.nest in
    let back = index_read v file bytes i in
    let r = fault_at file (head_for v bytes words) fault back.head f in
    let s = subst (λ (b : List ℕ). RefusesParts v b (lists_at file (head_for v bytes words)) fault) back.document r in
    no_fault v bytes i.nest fault i.accepted (subst (λ (w : Lists). RefusesParts v bytes w fault) back.words s)

-- a document and stored words have one fault at most
module _ (v : Version) (bytes : List ℕ) (stored : Lists) where
  -- stored records that are those of a document do not differ from them
  recorded_none : (n m : Forest) (at : ℕ) → Accepted 6 bytes n → IsNestTo 6 bytes stored m → differ 0 stored.records (record_words bytes n) ≡ Some at → ⊥
  recorded_none n m at a r e =
      let same : m ≡ n = answers.one_document bytes m n r.accepted.document a.document in
      let is : stored.records ≡ record_words bytes n = r.recorded ∙ ap (λ (f : Forest). record_words bytes f) same in
      some_none at (sym (levels_none stored.records (record_words bytes n) is) ∙ e)

  fewer : (n : Forest) → IsNestTo 8 bytes stored n → IsNestTo 6 bytes stored n
  fewer n r = record { accepted = fewer_layers 8 bytes n r.accepted; recorded = r.recorded }

  document_records : (f : DocFault) (at : ℕ) → RefusesDocument bytes stored f → RefusesRecords bytes stored at → ⊥
  document_records f at r s = elim (cases_lt (layer f) 7) [
    | inl low ↦ answers.not_both 6 bytes s.nest f s.accepted (omega (arith, low)) r.refusal
    | inr high ↦ let n = r.recorded (omega (arith, high)) in recorded_none s.nest n.0 at s.accepted n.1 s.first
  ]

  document_caches : (f : DocFault) (level at : ℕ) → RefusesDocument bytes stored f → RefusesCaches v bytes stored level at → ⊥
  document_caches f level at r s = answers.not_both 8 bytes s.nest f s.recorded.accepted (layer_within f) r.refusal

  records_caches : (i level at : ℕ) → RefusesRecords bytes stored i → RefusesCaches v bytes stored level at → ⊥
  records_caches i level at r s = recorded_none r.nest s.nest i r.accepted (fewer s.nest s.recorded) r.first

  records_once : (i j : ℕ) → RefusesRecords bytes stored i → RefusesRecords bytes stored j → i ≡ j
  records_once i j r s =
      let same : r.nest ≡ s.nest = answers.one_document bytes r.nest s.nest r.accepted.document s.accepted.document in
      let e : ◌≡◌ {A = Option ℕ} (Some i) (Some j) = sym r.first ∙ ap (λ (f : Forest). differ 0 stored.records (record_words bytes f)) same ∙ s.first in
      cc

  caches_once : (k i l j : ℕ) → RefusesCaches v bytes stored k i → RefusesCaches v bytes stored l j → faults.Caches k i ≡ faults.Caches l j
  caches_once k i l j r s =
      let same : r.nest ≡ s.nest = answers.one_document bytes r.nest s.nest r.recorded.accepted.document s.recorded.accepted.document in
      let one : CacheDiff = record { level = k; at = i } in
      let two : CacheDiff = record { level = l; at = j } in
      let e : ◌≡◌ {A = Option CacheDiff} (Some one) (Some two) =
      sym r.first ∙ ap (λ (f : Forest). differ_by v stored (records f (first_place bytes))) same ∙ s.first in
      let d : one ≡ two = cc in
      ap (λ (c : CacheDiff). faults.Caches c.level c.at) d

  one_parts : (f g : IndexFault) → RefusesParts v bytes stored f → RefusesParts v bytes stored g → f ≡ g
  one_parts (faults.Doc f) (faults.Doc g) r s = ap (λ (x : DocFault). faults.Doc x) (answers.one_refusal bytes f g r.refusal s.refusal)
  one_parts (faults.Doc f) (faults.Records at) r s = absurd (document_records f at r s)
  one_parts (faults.Doc f) (faults.Caches level at) r s = absurd (document_caches f level at r s)
  one_parts (faults.Records at) (faults.Doc g) r s = absurd (document_records g at s r)
  one_parts (faults.Records at) (faults.Records i) r s = ap (λ (x : ℕ). faults.Records x) (records_once at i r s)
  one_parts (faults.Records at) (faults.Caches level i) r s = absurd (records_caches at level i r s)
  one_parts (faults.Caches level at) (faults.Doc g) r s = absurd (document_caches g level at s r)
  one_parts (faults.Caches level at) (faults.Records i) r s = absurd (records_caches i level at s r)
  one_parts (faults.Caches level at) (faults.Caches l i) r s = caches_once level at l i r s
  one_parts (faults.Doc f) faults.Short r s = absurd s
  one_parts (faults.Doc f) faults.Magic r s = absurd s
  one_parts (faults.Doc f) faults.Size r s = absurd s
  one_parts (faults.Doc f) (faults.Padding i) r s = absurd s
  one_parts (faults.Records at) faults.Short r s = absurd s
  one_parts (faults.Records at) faults.Magic r s = absurd s
  one_parts (faults.Records at) faults.Size r s = absurd s
  one_parts (faults.Records at) (faults.Padding i) r s = absurd s
  one_parts (faults.Caches level at) faults.Short r s = absurd s
  one_parts (faults.Caches level at) faults.Magic r s = absurd s
  one_parts (faults.Caches level at) faults.Size r s = absurd s
  one_parts (faults.Caches level at) (faults.Padding i) r s = absurd s
  one_parts faults.Short g r s = absurd r
  one_parts faults.Magic g r s = absurd r
  one_parts faults.Size g r s = absurd r
  one_parts (faults.Padding at) g r s = absurd r

pub one_fault : OneFault
one_fault file f g r s = by_head (head_of file) r s
  where
    by_head : (h : Result Head IndexFault) → FaultBy file f h → FaultBy file g h → f ≡ g
    by_head (Err first) a b = a ∙ sym b
    by_head (Ok h) a b = one_parts h.version (document_in file h) (lists_at file h) f g a b

-- a file of bytes is one or has one
module _ (file : List ℕ) (a : AreBytes file) (h : Head) (found : head_of file ≡ Ok h) where
  fault_is : (fault : IndexFault) → RefusesParts h.version (document_in file h) (lists_at file h) fault → Answer file
  fault_is fault r = inr (fault, subst (λ (x : Result Head IndexFault). FaultBy file fault x) (sym found) r)

  short_document : length (document_in file h) < 2 ^ 30
  short_document =
      let i = is_head file h found in
      let l = length_slice (document_at h.version) h.document file (omega (arith, i.fills)) in
      omega (arith, l, i.short)

  pub index_here : (n : Forest) → Accepted 8 (document_in file h) n → (lists_at file h).records ≡ record_words (document_in file h) n
      → differ_by h.version (lists_at file h) (records n (first_place (document_in file h))) ≡ None → IsIndexBy h.version file (document_in file h)
  index_here n accepted e d =
      let v = h.version in
      let bytes = document_in file h in
      let i = is_head file h found in
      let same : lists_at file h ≡ words_by v bytes n = words_same v bytes (lists_at file h) n (shaped v file h i.front) e d in
      record {
        few = short_document;
        nest = n;
        accepted = accepted;
        written = is_file file h a i ∙ ap (λ (w : Lists). file_by v bytes w) same ∙ sym (file_index v bytes n);
      }

  by_levels : (n : Forest) → Accepted 8 (document_in file h) n → (lists_at file h).records ≡ record_words (document_in file h) n
      → (o : Option CacheDiff) → differ_by h.version (lists_at file h) (records n (first_place (document_in file h))) ≡ o → Answer file
  by_levels n accepted e (Some diff) d =
      fault_is (faults.Caches diff.level diff.at) (record { nest = n; recorded = record { accepted = accepted; recorded = e }; first = d })
  by_levels n accepted e None d = inl (h.version, (document_in file h, index_here n accepted e d))

  by_names : (n : Forest) → Accepted 6 (document_in file h) n → (lists_at file h).records ≡ record_words (document_in file h) n
      → acceptance.Answer 8 (document_in file h) → Answer file
  by_names n accepted e (inr (fault, l, r)) = fault_is (faults.Doc fault)
      (record { refusal = r; recorded = λ x. (n, record { accepted = accepted; recorded = e }) })
  by_names n accepted e (inl (m, b)) =
      let bytes = document_in file h in
      let same : m ≡ n = answers.one_document bytes m n b.document accepted.document in
      let whole = subst (λ (f : Forest). Accepted 8 bytes f) same b in
      by_levels n whole e (differ_by h.version (lists_at file h) (records n (first_place bytes))) refl

  by_records : (n : Forest) → Accepted 6 (document_in file h) n → (o : Option ℕ)
      → differ 0 (lists_at file h).records (record_words (document_in file h) n) ≡ o → Answer file
  by_records n accepted (Some at) d = fault_is (faults.Records at) (record { nest = n; accepted = accepted; first = d })
  by_records n accepted None d =
      by_names n accepted (same_list 0 (lists_at file h).records (record_words (document_in file h) n) d)
      (some.some_answer (document_in file h) 8 (omega arith))

  by_document : acceptance.Answer 6 (document_in file h) → Answer file
  by_document (inr (fault, l, r)) = fault_is (faults.Doc fault) (record { refusal = r; recorded = λ x. absurd (omega (arith, x, l)) })
  by_document (inl (n, accepted)) = by_records n accepted (differ 0 (lists_at file h).records (record_words (document_in file h) n)) refl

pub some_answer : SomeAnswer
some_answer file a = by_head (head_of file) refl
  where
    by_head : (r : Result Head IndexFault) → head_of file ≡ r → Answer file
    by_head (Err fault) e = inr (fault, subst (λ (x : Result Head IndexFault). FaultBy file fault x) (sym e) refl)
    by_head (Ok h) e = by_document file a h e (some.some_answer (document_in file h) 6 (omega arith))

-- a prefix of an index file has a fault of its head
pub prefixes_refused : PrefixesRefused
prefixes_refused v file bytes n i low =
    by_test (nat_lt n (document_at v)) (prefix_read v file bytes (words_by v bytes i.nest) n (index_read v file bytes i) low)
  where
    by_test : (b : Bool) → head_of (take n file) ≡ cond b (Err faults.Short) (Err faults.Size) → IsFault (take n file) (cond b faults.Short faults.Size)
    by_test true e = subst (λ (r : Result Head IndexFault). FaultBy (take n file) faults.Short r) (sym e) refl
    by_test false e = subst (λ (r : Result Head IndexFault). FaultBy (take n file) faults.Size r) (sym e) refl

-- what an answer says, in both directions
pub exactly_err : (file : List ℕ) (first : IndexFault) {T : Type 0} → IsFault file first → (fault : IndexFault)
    → ◌≡◌ {A = Result T IndexFault} (Err first) (Err fault) ↔ IsFault file fault
exactly_err file first {T} f fault = (to, from)
  where
    to : ◌≡◌ {A = Result T IndexFault} (Err first) (Err fault) → IsFault file fault
    to e = let same : first ≡ fault = cc in subst (λ (x : IndexFault). IsFault file x) same f

    from : IsFault file fault → ◌≡◌ {A = Result T IndexFault} (Err first) (Err fault)
    from g = ap (λ (x : IndexFault). Err x) (one_fault file first fault f g)

pub exactly_ok : (file : List ℕ) {T : Type 0} (x : T) → IsIndexFile file → (fault : IndexFault)
    → ◌≡◌ {A = Result T IndexFault} (Ok x) (Err fault) ↔ IsFault file fault
exactly_ok file {T} x i fault = (to, from)
  where
    to : ◌≡◌ {A = Result T IndexFault} (Ok x) (Err fault) → IsFault file fault
    to e = absurd cc

    from : IsFault file fault → ◌≡◌ {A = Result T IndexFault} (Ok x) (Err fault)
    from g = absurd (not_both file fault i g)

pub accepted_err : (file : List ℕ) (first : IndexFault) → IsFault file first → (false ≡ true) ↔ IsIndexFile file
accepted_err file first f = ((λ e. absurd cc), (λ i. absurd (not_both file first i f)))

pub accepted_ok : (file : List ℕ) → IsIndexFile file → (true ≡ true) ↔ IsIndexFile file
accepted_ok file i = ((λ e. i), (λ j. refl))

-- a fault of the parts is the file's
pub parts_fault : (file : List ℕ) (h : Head) (bytes : List ℕ) (words : Lists) (fault : IndexFault) → head_of file ≡ Ok h → bytes ≡ document_in file h
    → words ≡ lists_at file h → RefusesParts h.version bytes words fault → IsFault file fault
parts_fault file h bytes words fault e b w r =
    let s = subst (λ (x : List ℕ). RefusesParts h.version x words fault) b r in
    let t = subst (λ (x : Lists). RefusesParts h.version (document_in file h) x fault) w s in
    subst (λ (x : Result Head IndexFault). FaultBy file fault x) (sym e) t

pub head_fault : (file : List ℕ) (fault : IndexFault) → head_of file ≡ Err fault → IsFault file fault
head_fault file fault e = subst (λ (x : Result Head IndexFault). FaultBy file fault x) (sym e) refl
