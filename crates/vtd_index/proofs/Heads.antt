-- What a head that is found says of the file.
use Rattle.std.proofs.Common.{◌≡◌, ℕ, zero, suc, ◌+◌, ◌-◌, ◌*◌, ◌^◌, ◌<◌, ◌≤◌, Bool, true, false, cond, not, nat_lt, ◌==◌, List, [], ◌∷◌, length}
use Rattle.std.proofs.Common.{drop, get_or, Option, Some, None, Result, Ok, Err, refl, ap, subst, arith}
use Rattle.std.specs.List.{position, position_or_len}
use Rattle.std.proofs.lemmas.Bool.Decides.{nat_tests}
use Rattle.std.proofs.lemmas.List.{length-take, length-drop}
use Rattle.std.proofs.lemmas.List.Quantifiers.{position-Some}
use Rattle.vtd_words.specs.Numbers.{number, AreWords}
use Rattle.vtd_words.specs.View.{CanView}
use Rattle.vtd_index.specs.declared.head.Head.{Head}
use Rattle.vtd_index.specs.declared.head.Version.{Version}
use Rattle.vtd_index.specs.declared.head.Version.TheVariants.{One, Two}
use Rattle.vtd_index.specs.declared.faults.IndexFault.{IndexFault}
use Rattle.vtd_index.specs.declared.faults.IndexFault.TheVariants.{Short, Magic, Size, Padding}
use Rattle.vtd_index.specs.Layout.{padded}
use Rattle.vtd_index.specs.Heads.{slice, begins, spare_at, document_at, head_in, end_of, first_nonzero, with_zeros, with_size, or_padding, head_from, head_of}
use Rattle.vtd_index.specs.Heads.{records_at, level1_at, level2_at, level3_at, level4_at, level5_at}

-- what a file of a version begins with, and its lengths
pub record HeadAt (version : Version) (file : List ℕ) (h : Head) : Type 0 where
  pub long : document_at version ≤ length file
  pub magic : begins version file ≡ true
  pub is : h ≡ head_in version file
  pub spare : first_nonzero (spare_at version) (slice (spare_at version) 4 file) ≡ None

pub record IsHead (file : List ℕ) (h : Head) : Type 0 where
  pub front : HeadAt h.version file h
  pub short : h.document < 2 ^ 30
  pub fills : length file ≡ end_of h
  pub padding : first_nonzero (document_at h.version + h.document) (slice (document_at h.version + h.document) (padded h.document - h.document) file) ≡ None

record Passed (b : Bool) (r : Result Head IndexFault) (h : Head) : Type 0 where
  pub test : b ≡ false
  pub rest : r ≡ Ok h

past : (b : Bool) (f : IndexFault) (r : Result Head IndexFault) (h : Head) → cond b (Err f) r ≡ Ok h → Passed b r h
past true f r h e = absurd (cc)
past false f r h e = record { test = refl; rest = e }

record Met (b : Bool) (r : Result Head IndexFault) (h : Head) : Type 0 where
  pub test : b ≡ true
  pub rest : r ≡ Ok h

met : (b : Bool) (f : IndexFault) (r : Result Head IndexFault) (h : Head) → cond b r (Err f) ≡ Ok h → Met b r h
met true f r h e = record { test = refl; rest = e }
met false f r h e = absurd (cc)

record Clean (o : Option ℕ) (r : Result Head IndexFault) (h : Head) : Type 0 where
  pub test : o ≡ None
  pub rest : r ≡ Ok h

past_zeros : (o : Option ℕ) (r : Result Head IndexFault) (h : Head) → or_padding o r ≡ Ok h → Clean o r h
past_zeros (Some at) r h e = absurd (cc)
past_zeros None r h e = record { test = refl; rest = e }

same_ok : (g h : Head) → ◌≡◌ {A = Result Head IndexFault} (Ok g) (Ok h) → g ≡ h
same_ok g h e = cc

sized : (file : List ℕ) (g h : Head) → with_size file g ≡ Ok h → document_at g.version ≤ length file → begins g.version file ≡ true
    → g ≡ head_in g.version file → IsHead file h
sized file g h e long magic is =
    let a = past (nat_lt 1073741823 g.document) Size (cond (length file == end_of g) (with_zeros file g) (Err Size)) h e in
    let b = met (length file == end_of g) Size (with_zeros file g) h a.rest in
    let spare = first_nonzero (spare_at g.version) (slice (spare_at g.version) 4 file) in
    let start = document_at g.version + g.document in
    let padding = first_nonzero start (slice start (padded g.document - g.document) file) in
    let c = past_zeros spare (or_padding padding (Ok g)) h b.rest in
    let d = past_zeros padding (Ok g) h c.rest in
    let short : g.document < 2 ^ 30 = grind (arith, nat_tests, a.test) in
    let fills : length file ≡ end_of g = grind (arith, nat_tests, b.test) in
    let P : Head → Type 0 = λ x. IsHead file x in
    subst P (same_ok g h d.rest)
    (record { front = record { long = long; magic = magic; is = is; spare = c.test }; short = short; fills = fills; padding = d.test })

headed : (v : Version) (file : List ℕ) (h : Head) → head_from v file ≡ Ok h → begins v file ≡ true → IsHead file h
headed One file h e magic =
    let c = past (nat_lt (length file) 32) Short _ h e in
    let long : 32 ≤ length file = grind (arith, nat_tests, c.test) in
    sized file (head_in One file) h c.rest long magic refl
headed Two file h e magic =
    let c = past (nat_lt (length file) 40) Short _ h e in
    let long : 40 ≤ length file = grind (arith, nat_tests, c.test) in
    sized file (head_in Two file) h c.rest long magic refl

pub is_head : (file : List ℕ) (h : Head) → head_of file ≡ Ok h → IsHead file h
is_head file h e = by_first (begins One file) refl (past (nat_lt (length file) 32) Short _ h e).rest
  where
    by_first : (t : Bool) → begins One file ≡ t → cond t (head_from One file) (cond (begins Two file) (head_from Two file) (Err Magic)) ≡ Ok h
        → IsHead file h
    by_first true b r = headed One file h r b
    by_first false b r = let m = met (begins Two file) Magic (head_from Two file) h r in headed Two file h m.rest m.test

-- the lengths of words are multiples
abbrev Multiple : ℕ → ℕ → Type 0
Multiple n x = (k : ℕ) × x ≡ n * k

pub record Whole (h : Head) : Type 0 where
  pub records : Multiple 8 h.records
  pub level1 : Multiple 8 h.level1
  pub level2 : Multiple 8 h.level2
  pub level3 : Multiple 8 h.level3
  pub level4 : Multiple 8 h.level4
  pub level5 : Multiple 4 h.level5

whole_in : (v : Version) (file : List ℕ) (h : Head) → h ≡ head_in v file → Whole h
whole_in One file h e = record {
  records = (number 4 (drop 12 file), ap (λ (x : Head). x.records) e);
  level1 = (number 4 (drop 16 file), ap (λ (x : Head). x.level1) e);
  level2 = (number 4 (drop 20 file), ap (λ (x : Head). x.level2) e);
  level3 = (0, ap (λ (x : Head). x.level3) e);
  level4 = (0, ap (λ (x : Head). x.level4) e);
  level5 = (number 4 (drop 24 file), ap (λ (x : Head). x.level5) e);
}
whole_in Two file h e = record {
  records = (number 4 (drop 12 file), ap (λ (x : Head). x.records) e);
  level1 = (number 4 (drop 16 file), ap (λ (x : Head). x.level1) e);
  level2 = (number 4 (drop 20 file), ap (λ (x : Head). x.level2) e);
  level3 = (number 4 (drop 24 file), ap (λ (x : Head). x.level3) e);
  level4 = (number 4 (drop 28 file), ap (λ (x : Head). x.level4) e);
  level5 = (number 4 (drop 32 file), ap (λ (x : Head). x.level5) e);
}

pub whole : (file : List ℕ) (h : Head) → IsHead file h → Whole h
whole file h i = whole_in h.version file h i.front.is

-- a part has the length that it is cut to
pub length_slice : (at n : ℕ) (bytes : List ℕ) → at + n ≤ length bytes → length (slice at n bytes) ≡ n
unfolding slice
length_slice at n bytes within = grind (arith, length-take {A = ℕ}, length-drop {A = ℕ})

-- so many numbers of some bytes are whole words
are_long : (at n k : ℕ) (bytes : List ℕ) → at + n ≤ length bytes → length bytes < 2 ^ 32 → n ≡ 8 * k → AreWords 8 (slice at n bytes)
are_long at n k bytes within few e =
    let l : length (slice at n bytes) ≡ n = length_slice at n bytes within in
    record { whole = rw (l, e) (omega arith); few = rw l (omega arith) }

are_short : (at n k : ℕ) (bytes : List ℕ) → at + n ≤ length bytes → length bytes < 2 ^ 32 → n ≡ 4 * k → AreWords 4 (slice at n bytes)
are_short at n k bytes within few e =
    let l : length (slice at n bytes) ≡ n = length_slice at n bytes within in
    record { whole = rw (l, e) (omega arith); few = rw l (omega arith) }

pub can_view : (file : List ℕ) (h : Head) → IsHead file h → length file < 2 ^ 32
    → CanView (slice (records_at h) h.records file) (slice (level1_at h) h.level1 file) (slice (level2_at h) h.level2 file)
    (slice (level3_at h) h.level3 file) (slice (level4_at h) h.level4 file) (slice (level5_at h) h.level5 file)
can_view file h i few =
    let w = whole file h i in
    record {
      records = are_long _ _ w.records.0 file (omega (arith, i.fills)) few w.records.1;
      level1 = are_long _ _ w.level1.0 file (omega (arith, i.fills)) few w.level1.1;
      level2 = are_long _ _ w.level2.0 file (omega (arith, i.fills)) few w.level2.1;
      level3 = are_long _ _ w.level3.0 file (omega (arith, i.fills)) few w.level3.1;
      level4 = are_long _ _ w.level4.0 file (omega (arith, i.fills)) few w.level4.1;
      level5 = are_short _ _ w.level5.0 file (omega (arith, i.fills)) few w.level5.1;
    }

-- the first byte that is not zero, as a search for it finds it
nonzero_at : (n i m : ℕ) (bs : List ℕ) → i < length bs → not (get_or bs i 0 == 0) ≡ true → ((k : ℕ) → k < i → not (get_or bs k 0 == 0) ≡ false) → m ≡ n + i
    → first_nonzero n bs ≡ Some m
nonzero_at n i m [] within here before e = absurd (omega arith)
nonzero_at n zero m (b ∷ bs) within here before e =
    let t : (b == 0) ≡ false = flip (b == 0) here in
    let f : n ≡ m = omega arith in rw t (ap Some f)
  where
    flip : (t : Bool) → not t ≡ true → t ≡ false
    flip true h = absurd (cc)
    flip false h = refl
nonzero_at n (suc i) m (b ∷ bs) within here before e =
    let t : (b == 0) ≡ true = flip (b == 0) (before 0 (omega arith)) in
    rw t (nonzero_at (n + 1) i m bs (omega arith) here (λ k l. before (suc k) (omega arith)) (omega arith))
  where
    flip : (t : Bool) → not t ≡ false → t ≡ true
    flip true h = refl
    flip false h = absurd (cc)

pub found_nonzero : (n i : ℕ) (bs : List ℕ) → position (λ b. not (b == 0)) bs ≡ Some i → first_nonzero n bs ≡ Some (n + i)
found_nonzero n i bs e =
    let s = position-Some (λ (b : ℕ). not (b == 0)) bs i 0 e in
    nonzero_at n i (n + i) bs s.0 s.1 s.2 refl

pub nonzero_within : (i : ℕ) (bs : List ℕ) → position (λ b. not (b == 0)) bs ≡ Some i → i < length bs
nonzero_within i bs e = (position-Some (λ (b : ℕ). not (b == 0)) bs i 0 e).0

-- where the search finds none, the bytes are zero
all_pass : (n : ℕ) (bs : List ℕ) → length bs ≤ position_or_len (λ b. not (b == 0)) bs → first_nonzero n bs ≡ None
all_pass n [] h = refl
all_pass n (b ∷ bs) h = by_test (b == 0) refl h (all_pass (n + 1) bs)
  where
    by_test : (t : Bool) → (b == 0) ≡ t → length (b ∷ bs) ≤ position_or_len (λ x. not (x == 0)) (b ∷ bs)
        → (length bs ≤ position_or_len (λ x. not (x == 0)) bs → first_nonzero (n + 1) bs ≡ None) → cond t (first_nonzero (n + 1) bs) (Some n) ≡ None
    by_test true e l ih = ih (let m = rw e at l in omega arith)
    by_test false e l ih = let m = rw e at l in absurd (omega arith)

pub none_nonzero : (n : ℕ) (bs : List ℕ) → position (λ b. not (b == 0)) bs ≡ None → first_nonzero n bs ≡ None
none_nonzero n bs e = by_test (nat_lt (position_or_len (λ (b : ℕ). not (b == 0)) bs) (length bs)) refl e
  where
    by_test : (t : Bool) → nat_lt (position_or_len (λ b. not (b == 0)) bs) (length bs) ≡ t
        → cond t (Some (position_or_len (λ b. not (b == 0)) bs)) None ≡ None → first_nonzero n bs ≡ None
    by_test true t h = absurd (cc)
    by_test false t h = all_pass n bs (grind (arith, nat_tests, t))

-- what the tests of bytes that are to be zero answer
pub nonzero_spare : (file : List ℕ) (h : Head) (at : ℕ) → first_nonzero (spare_at h.version) (slice (spare_at h.version) 4 file) ≡ Some at
    → ◌≡◌ {A = Result Head IndexFault} (Err (Padding at)) (with_zeros file h)
nonzero_spare file h at e = rw e refl

pub nonzero_padding : (file : List ℕ) (h : Head) (at : ℕ) → first_nonzero (spare_at h.version) (slice (spare_at h.version) 4 file) ≡ None
    → first_nonzero (document_at h.version + h.document) (slice (document_at h.version + h.document) (padded h.document - h.document) file) ≡ Some at
    → ◌≡◌ {A = Result Head IndexFault} (Err (Padding at)) (with_zeros file h)
nonzero_padding file h at d e = rw (d, e) refl

pub all_zeros : (file : List ℕ) (h : Head) → first_nonzero (spare_at h.version) (slice (spare_at h.version) 4 file) ≡ None
    → first_nonzero (document_at h.version + h.document) (slice (document_at h.version + h.document) (padded h.document - h.document) file) ≡ None
    → ◌≡◌ {A = Result Head IndexFault} (Ok h) (with_zeros file h)
all_zeros file h d e = rw (d, e) refl
