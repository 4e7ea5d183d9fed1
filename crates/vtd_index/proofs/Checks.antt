-- What a check of an index file answers.
use Rattle.std.proofs.Common.{◌≡◌, ◌↔◌, ℕ, ◌-◌, ◌^◌, ◌<◌, List, length, Option, Some, None, Result, Ok, Err, refl, ap, sym, subst, ◌∙◌, arith}
use Rattle.std.specs.Prelude.{OnOk}
use Rattle.xml_model.specs.Items.{first_place}
use Rattle.xml_model.specs.Levels.{LevelsOne, levels, levels_one}
use Rattle.xml_model.specs.Nest.{Forest}
use Rattle.xml_model.specs.Records.{Record, records}
use Rattle.vtd_words.specs.Lists.{Lists}
use Rattle.vtd_words.specs.Numbers.{AreBytes}
use Rattle.vtd_words.specs.Table.{IsNestTo, Shows}
use Rattle.vtd_words.proofs.Numbered.{length_words}
use Rattle.vtd_location.specs.declared.checking.CacheDiff.{CacheDiff}
use Rattle.vtd_location.specs.Differences.{differ_levels, differ_levels_one, levels_one_of}
use Rattle.vtd_location.specs.Nav.{HasLevels, levels_in}
use Rattle.vtd_location.specs.ScanningOne.{levels_one_in}
use Rattle.vtd_location.proofs.NavLaws.{fewer_layers}
use Rattle.vtd_builder.specs.Documents.{Document, IsDoc, words_of}
use Rattle.vtd_index.specs.declared.faults.IndexFault.{IndexFault}
use Rattle.vtd_index.specs.declared.head.Head.{Head}
use Rattle.vtd_index.specs.declared.head.Version.{Version}
use Rattle.vtd_index.specs.declared.head.Version.TheVariants.{One, Two}
use Rattle.vtd_index.specs.Answers.{IsView}
use Rattle.vtd_index.specs.Heads.{document_at, document_in, head_of, level1_at, level2_at, level5_at, lists_at, records_at, slice}
use Rattle.vtd_index.specs.Holding.{head_for, ReadBack}
use Rattle.vtd_index.specs.Index.{differ_by, IsFault, IsFileBy, IsIndexBy, IsIndexOf}
use Rattle.vtd_index.specs.Loading.{held_by, held_in}
use Rattle.vtd_index.proofs.Differing.{same_none}
use Rattle.vtd_index.proofs.Documents.{shows}
use Rattle.vtd_index.proofs.Heads.{is_head, length_slice}
use Rattle.vtd_index.proofs.Reading.{same_head}
use Rattle.vtd_index.proofs.Verdicts.{index_here, index_read, not_both, one_version}

-- from one fact of a call that went well to another
pub on_ok : {E : Type 0} (r : Result (Unit {0}) E) (P Q : Type 0) → OnOk r P → (P → Q) → OnOk r Q
on_ok (Ok x) P Q p f = f p
on_ok (Err e) P Q p f = tt

-- how long the document is, and how many records there are
pub short_document : (file : List ℕ) (h : Head) (bytes : List ℕ) → head_of file ≡ Ok h → bytes ≡ document_in file h → length bytes < 2 ^ 30
short_document file h bytes e b =
    let i = is_head file h e in
    let l = length_slice (document_at h.version) h.document file (omega (arith, i.fills)) in
    omega (arith, i.short, l, ap length b)

pub few_records : (file : List ℕ) (h : Head) (words : Lists) → length file < 2 ^ 32 → head_of file ≡ Ok h → words ≡ lists_at file h
    → length words.records < 2 ^ 32 - 1
few_records file h words few e w =
    let i = is_head file h e in
    let l = length_slice (records_at h) h.records file (omega (arith, i.fills)) in
    let n = length_words 8 (slice (records_at h) h.records file) in
    let all = i.fills in
    omega (arith, l, n, few, all, ap (λ (x : Lists). length x.records) w)

-- the levels of a file of the first version, as they lie in it
pub levels_lie : (file : List ℕ) (h : Head) (words : Lists) (a b c : List ℕ) → words ≡ lists_at file h → a ≡ slice (level1_at h) h.level1 file
    → b ≡ slice (level2_at h) h.level2 file → c ≡ slice (level5_at h) h.level5 file → levels_one_of a b c ≡ levels_one_in words
levels_lie file h words a b c e x y z = rw (e, x, y, z) refl

-- levels that are those of the records do not differ from them, by version
pub same_one : (v : Version) (words : Lists) (rs : List Record) (l : LevelsOne) → v ≡ One → l ≡ levels_one_in words → l ≡ levels_one rs
    → differ_by v words rs ≡ None
same_one v words rs l e is same =
    let k = levels_one_in words in
    rw (e, sym same, is, same_none 0 k.level1, same_none 0 k.level2, same_none 0 k.level3) refl

pub differ_one : (v : Version) (words : Lists) (rs : List Record) (l : LevelsOne) (diff : CacheDiff) → v ≡ One → l ≡ levels_one_in words
    → differ_levels_one l (levels_one rs) ≡ Some diff → differ_by v words rs ≡ Some diff
differ_one v words rs l diff e is d = rw e (ap (λ (k : LevelsOne). differ_levels_one k (levels_one rs)) (sym is) ∙ d)

pub same_two : (v : Version) (words : Lists) (rs : List Record) → v ≡ Two → HasLevels words rs → differ_by v words rs ≡ None
same_two v words rs e same =
    let k = levels_in words in
    rw (
      e,
      sym same,
      same_none 0 k.level1,
      same_none 0 k.level2,
      same_none 0 k.level3,
      same_none 0 k.level4,
      same_none 0 k.level5,
    ) refl

pub differ_two : (v : Version) (words : Lists) (rs : List Record) (diff : CacheDiff) → v ≡ Two
    → differ_levels (levels_in words) (levels rs) ≡ Some diff → differ_by v words rs ≡ Some diff
differ_two v words rs diff e d = rw e d

-- the stored records show those of the document
pub shown : (bytes : List ℕ) (stored : Lists) (nest : Forest) → length bytes < 2 ^ 30 → IsNestTo 8 bytes stored nest
    → Shows stored.records (records nest (first_place bytes))
shown bytes stored nest few r = shows bytes stored nest few (record { accepted = fewer_layers 8 bytes nest r.accepted; recorded = r.recorded })

-- an index file, found by its parts
pub parts_index : (file : List ℕ) (h : Head) (bytes : List ℕ) (words : Lists) (nest : Forest) → AreBytes file → head_of file ≡ Ok h
    → bytes ≡ document_in file h → words ≡ lists_at file h → IsNestTo 8 bytes words nest
    → differ_by h.version words (records nest (first_place bytes)) ≡ None → IsIndexBy h.version file bytes
parts_index file h bytes words nest a e b w r d =
    let P : List ℕ → Lists → Type 0 = λ x y. IsNestTo 8 x y nest in
    let D : List ℕ → Lists → Type 0 = λ x y. differ_by h.version y (records nest (first_place x)) ≡ None in
    let r1 = subst (λ (x : List ℕ). P x words) b r in
    let r2 = subst (λ (y : Lists). P (document_in file h) y) w r1 in
    let d1 = subst (λ (x : List ℕ). D x words) b d in
    let d2 = subst (λ (y : Lists). D (document_in file h) y) w d1 in
    subst (λ (x : List ℕ). IsIndexBy h.version file x) (sym b) (index_here file a h e nest r2.accepted r2.recorded d2)

-- the document and the words of a file of the second version
pub index_doc : (file bytes : List ℕ) (h : Head) → IsIndexOf file bytes → head_of file ≡ Ok h → IsDoc (document_in file h) (lists_at file h)
index_doc file bytes h i e =
    let words = words_of bytes i.nest in
    let back : ReadBack Two file bytes words = index_read Two file bytes i in
    let same : head_for Two bytes words ≡ h = same_head (head_for Two bytes words) h (sym back.head ∙ e) in
    let here : IsDoc bytes words = record { few = i.few; nest = i.nest; accepted = i.accepted; recorded = refl } in
    let P : Head → Type 0 = λ x. IsDoc (document_in file x) (lists_at file x) in
    let b = subst (λ (x : List ℕ). IsDoc x words) (sym back.document) here in
    subst P same (subst (λ (y : Lists). IsDoc (document_in file (head_for Two bytes words)) y) (sym back.words) b)

pub held_at : (file : List ℕ) (h : Head) (held : Document) → head_of file ≡ Ok h → held.bytes ≡ document_in file h → held.words ≡ lists_at file h
    → held ≡ held_in file
held_at file h held e b w =
    let p : held ≡ held_by file (Ok h) = rw (sym b, sym w) refl in
    p ∙ ap (λ (r : Result Head IndexFault). held_by file r) (sym e)

pub view_here : (file : List ℕ) (h : Head) (held : Document) → length file < 2 ^ 32 → head_of file ≡ Ok h → held.bytes ≡ document_in file h
    → held.words ≡ lists_at file h → IsIndexOf file held.bytes → IsView file held
view_here file h held few e b w i = record {
  parts = held_at file h held e b w;
  index = i;
  loaded = record { few = few; head = h; found = e; document = index_doc file held.bytes h i e };
}

-- which version a file has
some_two : {A : Type 0} (x : A) → ◌≡◌ {A = Option A} None (Some x) → ⊥
some_two x e = absurd cc

pub exactly_version : (file : List ℕ) (v : Version) → IsFileBy v file → (u : Version) → ◌≡◌ {A = Option Version} (Some v) (Some u) ↔ IsFileBy u file
exactly_version file v i u = (to, from v u i)
  where
    to : ◌≡◌ {A = Option Version} (Some v) (Some u) → IsFileBy u file
    to e = let same : v ≡ u = cc in subst (λ (x : Version). IsFileBy x file) same i

    from : (v u : Version) → IsFileBy v file → IsFileBy u file → ◌≡◌ {A = Option Version} (Some v) (Some u)
    from One One i j = refl
    from Two Two i j = refl
    from One Two (a, i) (b, j) = absurd (one_version file a b i j)
    from Two One (a, i) (b, j) = absurd (one_version file b a j i)

pub no_version : (file : List ℕ) (fault : IndexFault) → IsFault file fault → (u : Version) → ◌≡◌ {A = Option Version} None (Some u) ↔ IsFileBy u file
no_version file fault f u = (to, from)
  where
    to : ◌≡◌ {A = Option Version} None (Some u) → IsFileBy u file
    to e = absurd (some_two u e)

    from : IsFileBy u file → ◌≡◌ {A = Option Version} None (Some u)
    from i = absurd (not_both file fault (u, i) f)
