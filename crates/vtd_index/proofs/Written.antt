-- A file whose head has no fault is that of its document and its words, by the layout of its version.
use Rattle.std.proofs.Common.{◌≡◌, ℕ, zero, suc, ◌+◌, ◌-◌, ◌*◌, ◌≤◌, Bool, true, false, cond, ◌==◌, List, [], ◌∷◌, ◌++◌, length, take, drop}
use Rattle.std.proofs.Common.{Some, None, refl, ap, sym, ◌∙◌, arith, replicate}
use Rattle.std.specs.Prelude.{bytes_eq}
use Rattle.std.proofs.lemmas.List.{length-drop, take-append-drop, drop-drop}
use Rattle.std.proofs.lemmas.Bool.Decides.{nat_tests}
use Rattle.std.proofs.lemmas.Slice.Eq.{bytes_eq-Decides}
use Rattle.vtd_words.specs.Numbers.{number, number_bytes, bytes_of, words_in, AreBytes}
use Rattle.std.specs.List.{concat}
use Rattle.vtd_words.specs.Lists.{Lists}
use Rattle.vtd_words.proofs.Back.{take_bytes, drop_bytes, number_back, words_back}
use Rattle.vtd_words.proofs.Numbered.{length_words}
use Rattle.vtd_index.specs.declared.head.Head.{Head}
use Rattle.vtd_index.specs.declared.head.Version.{Version}
use Rattle.vtd_index.specs.declared.head.Version.TheVariants.{One, Two}
use Rattle.vtd_index.specs.Layout.{padded, file_of, file_one}
use Rattle.vtd_index.specs.Holding.{file_by, Shape}
use Rattle.vtd_index.specs.Heads.{slice, magic, document_at, first_nonzero, end_of, records_at, level1_at, level2_at, level3_at, level4_at, level5_at}
use Rattle.vtd_index.specs.Heads.{document_in, lists_at}
use Rattle.vtd_index.proofs.Heads.{HeadAt, IsHead, length_slice, whole}

-- a part, and what is after it
piece : (p n q : ℕ) (file x rest : List ℕ) → q ≡ p + n → slice p n file ≡ x → drop q file ≡ rest → drop p file ≡ x ++ rest
unfolding slice
piece p n q file x rest e s r =
    let after : drop n (drop p file) ≡ drop q file = drop-drop n p file ∙ ap (λ (j : ℕ). drop j file) (sym e) in
    sym (take-append-drop n (drop p file)) ∙ ap (λ (y : List ℕ). y ++ drop n (drop p file)) s ∙ ap (λ (y : List ℕ). x ++ y) (after ∙ r)

nothing : (k : ℕ) (file : List ℕ) → length file ≡ k → drop k file ≡ []
nothing zero [] h = refl
nothing zero (b ∷ bs) h = absurd (omega arith)
nothing (suc k) [] h = refl
nothing (suc k) (b ∷ bs) h = nothing k bs (omega arith)

-- bytes of which none is another than zero
zero_first : (t : Bool) (b n : ℕ) (bs : List ℕ) → (b == 0) ≡ t → (first_nonzero (n + 1) bs ≡ None → bs ≡ replicate (length bs) 0)
    → cond t (first_nonzero (n + 1) bs) (Some n) ≡ None → b ∷ bs ≡ replicate (suc (length bs)) 0
zero_first true b n bs z ih e =
    let zero_is : b ≡ 0 = grind (arith, nat_tests, z) in
    let rest = ih e in cc
zero_first false b n bs z ih e = absurd (cc)

zeros : (n : ℕ) (bytes : List ℕ) → first_nonzero n bytes ≡ None → bytes ≡ replicate (length bytes) 0
zeros n [] e = refl
zeros n (b ∷ bs) e = zero_first (b == 0) b n bs refl (zeros (n + 1) bs) e

slice_bytes : (p n : ℕ) (file : List ℕ) → AreBytes file → AreBytes (slice p n file)
unfolding slice
slice_bytes p n file a = take_bytes n (drop p file) (drop_bytes p file a)

-- what the file begins with
magic_part : (x file : List ℕ) → bytes_eq x (take 8 file) ≡ true → slice 0 8 file ≡ x
unfolding slice
magic_part x file e = sym ((bytes_eq-Decides x (take 8 file)).0 e)

-- a number of the head
stored_number : (n p x : ℕ) (file : List ℕ) → AreBytes file → p + n ≤ length file → number n (drop p file) ≡ x → slice p n file ≡ number_bytes n x
unfolding slice
stored_number n p x file a within e =
    sym (number_back n (drop p file) (drop_bytes p file a) (rw length-drop (omega arith))) ∙ ap (λ (y : ℕ). number_bytes n y) e

-- how many words of 8 bytes, and of 4, a part has
count_long : (p n k : ℕ) (file : List ℕ) → p + n ≤ length file → n ≡ 8 * k → k ≡ length (words_in 8 (slice p n file))
count_long p n k file within e =
    let l = length_slice p n file within in
    let w = length_words 8 (slice p n file) in
    omega arith

count_short : (p n k : ℕ) (file : List ℕ) → p + n ≤ length file → n ≡ 4 * k → k ≡ length (words_in 4 (slice p n file))
count_short p n k file within e =
    let l = length_slice p n file within in
    let w = length_words 4 (slice p n file) in
    omega arith

-- a part of words
long_part : (p n k : ℕ) (file : List ℕ) → AreBytes file → p + n ≤ length file → n ≡ 8 * k → slice p n file ≡ bytes_of 8 (words_in 8 (slice p n file))
long_part p n k file a within e =
    let l = length_slice p n file within in
    sym (words_back 8 (slice p n file) (slice_bytes p n file a) (omega arith))

short_part : (p n k : ℕ) (file : List ℕ) → AreBytes file → p + n ≤ length file → n ≡ 4 * k → slice p n file ≡ bytes_of 4 (words_in 4 (slice p n file))
short_part p n k file a within e =
    let l = length_slice p n file within in
    sym (words_back 4 (slice p n file) (slice_bytes p n file a) (omega arith))

-- spare and padding bytes
zero_part : (p n m : ℕ) (file : List ℕ) → p + n ≤ length file → m ≡ n → first_nonzero p (slice p n file) ≡ None → slice p n file ≡ replicate m 0
zero_part p n m file within e d =
    let l = length_slice p n file within in
    zeros p (slice p n file) d ∙ ap (λ (k : ℕ). replicate k 0) (l ∙ sym e)

-- what is after the head, in both versions: the document with its zeros, and the words
abbrev pub body_of : List ℕ → Lists → List ℕ
body_of bytes words = concat (
    bytes
    ∷ replicate (padded (length bytes) - length bytes) 0
    ∷ bytes_of 8 words.records
    ∷ bytes_of 8 words.level1
    ∷ bytes_of 8 words.level2
    ∷ bytes_of 8 words.level3
    ∷ bytes_of 8 words.level4
    ∷ bytes_of 4 words.level5
    ∷ [])

is_body : (file : List ℕ) (h : Head) → AreBytes file → IsHead file h → drop (document_at h.version) file ≡ body_of (document_in file h) (lists_at file h)
is_body file h a i =
    let w = whole file h i in
    let all : length file ≡ end_of h = i.fills in
    let s : ℕ = document_at h.version in
    let doc : length (slice s h.document file) ≡ h.document = length_slice s h.document file (omega arith) in
    piece s h.document (s + h.document) file _ _ refl refl
    (piece (s + h.document) (padded h.document - h.document) (records_at h) file _ _ (omega arith)
    (zero_part _ _ _ file (omega arith) (ap (λ (n : ℕ). padded n - n) doc) i.padding)
    (piece (records_at h) h.records (level1_at h) file _ _ refl (long_part _ _ _ file a (omega arith) w.records.1)
    (piece (level1_at h) h.level1 (level2_at h) file _ _ refl (long_part _ _ _ file a (omega arith) w.level1.1)
    (piece (level2_at h) h.level2 (level3_at h) file _ _ refl (long_part _ _ _ file a (omega arith) w.level2.1)
    (piece (level3_at h) h.level3 (level4_at h) file _ _ refl (long_part _ _ _ file a (omega arith) w.level3.1)
    (piece (level4_at h) h.level4 (level5_at h) file _ _ refl (long_part _ _ _ file a (omega arith) w.level4.1)
    (piece (level5_at h) h.level5 (end_of h) file _ _ refl (short_part _ _ _ file a (omega arith) w.level5.1)
    (nothing (end_of h) file all))))))))

-- no bytes hold no words
none_in : (p n : ℕ) (file : List ℕ) → n ≡ 0 → words_in 8 (slice p n file) ≡ []
unfolding slice words_in
none_in p n file e = rw e refl

-- the first version has no third and no fourth level in the places of the second
pub shaped : (v : Version) (file : List ℕ) (h : Head) → HeadAt v file h → Shape v (lists_at file h)
shaped One file h i =
    rw (none_in (level3_at h) h.level3 file (ap (λ (x : Head). x.level3) i.is), none_in (level4_at h) h.level4 file (ap (λ (x : Head). x.level4) i.is)) refl
shaped Two file h i = tt

-- by the version of the head
written_by : (v : Version) (file : List ℕ) (h : Head) → AreBytes file → length file ≡ end_of h → document_at h.version ≡ document_at v → HeadAt v file h
    → drop (document_at v) file ≡ body_of (document_in file h) (lists_at file h) → file ≡ file_by v (document_in file h) (lists_at file h)
unfolding file_of file_one
written_by One file h a all same i rest =
    let document : h.document ≡ number 4 (drop 8 file) = ap (λ (x : Head). x.document) i.is in
    let records : h.records ≡ 8 * number 4 (drop 12 file) = ap (λ (x : Head). x.records) i.is in
    let level1 : h.level1 ≡ 8 * number 4 (drop 16 file) = ap (λ (x : Head). x.level1) i.is in
    let level2 : h.level2 ≡ 8 * number 4 (drop 20 file) = ap (λ (x : Head). x.level2) i.is in
    let level5 : h.level5 ≡ 4 * number 4 (drop 24 file) = ap (λ (x : Head). x.level5) i.is in
    let long = i.long in
    let doc : length (document_in file h) ≡ h.document = length_slice (document_at h.version) h.document file (omega arith) in
    let shape = ap (λ (w : Lists). body_of (document_in file h) w) (shaped One file h i) in
    piece 0 8 8 file _ _ refl (magic_part (magic One) file i.magic)
    (piece 8 4 12 file _ _ refl (stored_number 4 8 _ file a (omega arith) (sym document ∙ sym doc))
    (piece 12 4 16 file _ _ refl (stored_number 4 12 _ file a (omega arith) (count_long (records_at h) h.records _ file (omega arith) records))
    (piece 16 4 20 file _ _ refl (stored_number 4 16 _ file a (omega arith) (count_long (level1_at h) h.level1 _ file (omega arith) level1))
    (piece 20 4 24 file _ _ refl (stored_number 4 20 _ file a (omega arith) (count_long (level2_at h) h.level2 _ file (omega arith) level2))
    (piece 24 4 28 file _ _ refl (stored_number 4 24 _ file a (omega arith) (count_short (level5_at h) h.level5 _ file (omega arith) level5))
    (piece 28 4 32 file _ _ refl (zero_part 28 4 4 file (omega arith) refl i.spare) (rest ∙ shape)))))))
written_by Two file h a all same i rest =
    let document : h.document ≡ number 4 (drop 8 file) = ap (λ (x : Head). x.document) i.is in
    let records : h.records ≡ 8 * number 4 (drop 12 file) = ap (λ (x : Head). x.records) i.is in
    let level1 : h.level1 ≡ 8 * number 4 (drop 16 file) = ap (λ (x : Head). x.level1) i.is in
    let level2 : h.level2 ≡ 8 * number 4 (drop 20 file) = ap (λ (x : Head). x.level2) i.is in
    let level3 : h.level3 ≡ 8 * number 4 (drop 24 file) = ap (λ (x : Head). x.level3) i.is in
    let level4 : h.level4 ≡ 8 * number 4 (drop 28 file) = ap (λ (x : Head). x.level4) i.is in
    let level5 : h.level5 ≡ 4 * number 4 (drop 32 file) = ap (λ (x : Head). x.level5) i.is in
    let long = i.long in
    let doc : length (document_in file h) ≡ h.document = length_slice (document_at h.version) h.document file (omega arith) in
    piece 0 8 8 file _ _ refl (magic_part (magic Two) file i.magic)
    (piece 8 4 12 file _ _ refl (stored_number 4 8 _ file a (omega arith) (sym document ∙ sym doc))
    (piece 12 4 16 file _ _ refl (stored_number 4 12 _ file a (omega arith) (count_long (records_at h) h.records _ file (omega arith) records))
    (piece 16 4 20 file _ _ refl (stored_number 4 16 _ file a (omega arith) (count_long (level1_at h) h.level1 _ file (omega arith) level1))
    (piece 20 4 24 file _ _ refl (stored_number 4 20 _ file a (omega arith) (count_long (level2_at h) h.level2 _ file (omega arith) level2))
    (piece 24 4 28 file _ _ refl (stored_number 4 24 _ file a (omega arith) (count_long (level3_at h) h.level3 _ file (omega arith) level3))
    (piece 28 4 32 file _ _ refl (stored_number 4 28 _ file a (omega arith) (count_long (level4_at h) h.level4 _ file (omega arith) level4))
    (piece 32 4 36 file _ _ refl (stored_number 4 32 _ file a (omega arith) (count_short (level5_at h) h.level5 _ file (omega arith) level5))
    (piece 36 4 40 file _ _ refl (zero_part 36 4 4 file (omega arith) refl i.spare) rest))))))))

pub is_file : (file : List ℕ) (h : Head) → AreBytes file → IsHead file h → file ≡ file_by h.version (document_in file h) (lists_at file h)
is_file file h a i = written_by h.version file h a i.fills refl i.front (is_body file h a i)
