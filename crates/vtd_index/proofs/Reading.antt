-- The file of a document and its words is read back: its head has no fault, and the parts are those.
use Rattle.std.proofs.Common.{◌≡◌, ℕ, zero, suc, ◌+◌, ◌-◌, ◌*◌, ◌^◌, ◌<◌, true, false, cond, nat_lt, ◌==◌, List, [], ◌∷◌, ◌++◌, length, take, drop}
use Rattle.std.proofs.Common.{codes, replicate, None, Result, Ok, Err, refl, ap, sym, subst, ◌≤◌, ◌∙◌, arith}
use Rattle.std.specs.Prelude.{bytes_eq}
use Rattle.std.proofs.lemmas.Bool.Decides.{nat_tests}
use Rattle.std.proofs.lemmas.Slice.Eq.{bytes_eq-Decides}
use Rattle.std.proofs.lemmas.List.{length-append, take_at, drop-drop}
use Rattle.std.proofs.Math.Nat.{mul-suc, mul-zero}
use Rattle.byteorder.specs.Numbers.{big_number-reads_back}
use Rattle.vtd_words.specs.Numbers.{number, number_bytes, bytes_of, words_in}
use Rattle.vtd_words.specs.Lists.{Lists}
use Rattle.vtd_words.proofs.Back.{words_there}
use Rattle.vtd_index.specs.declared.head.Head.{Head}
use Rattle.vtd_index.specs.declared.head.Version.{Version}
use Rattle.vtd_index.specs.declared.head.Version.TheVariants.{One, Two}
use Rattle.vtd_index.specs.declared.faults.IndexFault.{IndexFault}
use Rattle.vtd_index.specs.declared.faults.IndexFault.TheVariants.{Short, Size}
use Rattle.vtd_index.specs.Layout.{padded, file_of, file_one}
use Rattle.vtd_index.specs.Heads.{slice, begins, spare_at, document_at, first_nonzero, head_in, end_of, with_size, head_from, head_of, records_at, level1_at}
use Rattle.vtd_index.specs.Heads.{level2_at, level3_at, level4_at, level5_at, document_in}
use Rattle.vtd_index.specs.Holding.{Fit, CanHold, file_by, head_for, lists_one, ReadBack, Shape}
use Rattle.vtd_location.specs.ScanningOne.{levels_one_in}
use Rattle.vtd_index.proofs.Sending.{length_number}
use Rattle.vtd_index.proofs.Heads.{all_zeros, is_head}
use Rattle.vtd_index.proofs.Prefixes.{prefix_refused, document_from, head_begun}
use Rattle.vtd_index.proofs.Written.{body_of}

pub length_bytes : (n : ℕ) (xs : List ℕ) → length (bytes_of n xs) ≡ n * length xs
length_bytes n [] = sym (mul-zero n)
length_bytes n (x ∷ xs) =
    let ih = length_bytes n xs in
    let l = length_number n x in
    let m = mul-suc n (length xs) in
    length-append (number_bytes n x) (bytes_of n xs) ∙ omega arith

-- a number is read back
read_back : (n x : ℕ) (rest : List ℕ) → x < 256 ^ n → number n (number_bytes n x ++ rest) ≡ x
unfolding number number_bytes
read_back n x rest small = big_number-reads_back n x rest small

drop_first : (xs ys : List ℕ) → drop (length xs) (xs ++ ys) ≡ ys
drop_first [] ys = refl
drop_first (x ∷ xs) ys = drop_first xs ys

-- zeros are zero
zeros_pass : (n k : ℕ) → first_nonzero n (replicate k 0) ≡ None
zeros_pass n zero = refl
zeros_pass n (suc k) = zeros_pass (n + 1) k

-- a part is at a place, and others are after it
record At (file : List ℕ) (p n q : ℕ) (x rest : List ℕ) : Type 0 where
  pub place : q ≡ p + n
  pub here : drop p file ≡ x ++ rest
  pub long : length x ≡ n
  pub total : length file ≡ p + n + length rest

after : (file : List ℕ) (p n q : ℕ) (x rest : List ℕ) → At file p n q x rest → drop q file ≡ rest
after file p n q x rest a =
    ap (λ (k : ℕ). drop k file) a.place ∙ sym (drop-drop n p file) ∙ ap (λ (ys : List ℕ). drop n ys) a.here
    ∙ ap (λ (k : ℕ). drop k (x ++ rest)) (sym a.long) ∙ drop_first x rest

part_is : (file : List ℕ) (p n q : ℕ) (x rest : List ℕ) → At file p n q x rest → slice p n file ≡ x
unfolding slice
part_is file p n q x rest a = ap (λ (ys : List ℕ). take n ys) a.here ∙ take_at x rest n a.long

number_is : (file : List ℕ) (p n q y : ℕ) (rest : List ℕ) → At file p n q (number_bytes n y) rest → y < 256 ^ n → number n (drop p file) ≡ y
number_is file p n q y rest a small = ap (λ (ys : List ℕ). number n ys) a.here ∙ read_back n y rest small

magic_is : (x file rest : List ℕ) → At file 0 8 8 x rest → bytes_eq x (take 8 file) ≡ true
unfolding slice
magic_is x file rest a = (bytes_eq-Decides x (take 8 file)).1 (sym (part_is file 0 8 8 x rest a))

-- the next part
next : (file : List ℕ) (p n q m r : ℕ) (x y rest : List ℕ) → At file p n q x (y ++ rest) → length y ≡ m → r ≡ q + m → At file q m r y rest
next file p n q m r x y rest a l e = record {
  place = e;
  here = after file p n q x (y ++ rest) a;
  long = l;
  total = let t = a.total in let s = a.place in let both = length-append y rest in omega arith;
}

first : (file : List ℕ) (n : ℕ) (x rest : List ℕ) → file ≡ x ++ rest → length x ≡ n → At file 0 n n x rest
first file n x rest e l = record { place = omega arith; here = e; long = l; total = ap length e ∙ length-append x rest ∙ omega arith }

zeros_in : (file : List ℕ) (p n q at : ℕ) (rest : List ℕ) → At file p n q (replicate n 0) rest → first_nonzero at (slice p n file) ≡ None
zeros_in file p n q at rest a = rw (part_is file p n q (replicate n 0) rest a) (zeros_pass at n)

length_zeros : (n : ℕ) → length {A = ℕ} (replicate n 0) ≡ n
length_zeros zero = refl
length_zeros (suc n) = ap suc (length_zeros n)

read_words : (n : ℕ) (xs : List ℕ) → 0 < n → Fit n xs → words_in n (bytes_of n xs) ≡ xs
read_words n xs p f = words_there n xs p f.each

-- where the document and the words are, after the head of a version
record Body (v : Version) (f bytes : List ℕ) (w : Lists) : Type 0 where
  pub rest1 : List ℕ
  pub document : At f (document_at v) (length bytes) (document_at v + length bytes) bytes rest1
  pub rest2 : List ℕ
  pub padding : At f (document_at v + length bytes) (padded (length bytes) - length bytes) (records_at (head_for v bytes w))
      (replicate (padded (length bytes) - length bytes) 0) rest2
  pub rest3 : List ℕ
  pub records : At f (records_at (head_for v bytes w)) (8 * length w.records) (level1_at (head_for v bytes w)) (bytes_of 8 w.records) rest3
  pub rest4 : List ℕ
  pub level1 : At f (level1_at (head_for v bytes w)) (8 * length w.level1) (level2_at (head_for v bytes w)) (bytes_of 8 w.level1) rest4
  pub rest5 : List ℕ
  pub level2 : At f (level2_at (head_for v bytes w)) (8 * length w.level2) (level3_at (head_for v bytes w)) (bytes_of 8 w.level2) rest5
  pub rest6 : List ℕ
  pub level3 : At f (level3_at (head_for v bytes w)) (8 * length w.level3) (level4_at (head_for v bytes w)) (bytes_of 8 w.level3) rest6
  pub rest7 : List ℕ
  pub level4 : At f (level4_at (head_for v bytes w)) (8 * length w.level4) (level5_at (head_for v bytes w)) (bytes_of 8 w.level4) rest7
  pub level5 : At f (level5_at (head_for v bytes w)) (4 * length w.level5) (end_of (head_for v bytes w)) (bytes_of 4 w.level5) []

body : (v : Version) (f bytes : List ℕ) (w : Lists) → At f (spare_at v) 4 (document_at v) (replicate 4 0) (body_of bytes w) → Body v f bytes w
body v f bytes w a0 =
    let h = head_for v bytes w in
    let s : ℕ = document_at v in
    let a1 = next f (spare_at v) 4 s (length bytes) (s + length bytes) _ bytes _ a0 refl refl in
    let a2 = next f s (length bytes) (s + length bytes) (padded (length bytes) - length bytes) (records_at h) _
    (replicate (padded (length bytes) - length bytes) 0) _ a1
    (length_zeros _) (omega arith) in
    let a3 = next f (s + length bytes) (padded (length bytes) - length bytes) (records_at h) h.records (level1_at h) _ (bytes_of 8 w.records) _ a2
    (length_bytes 8 _) refl in
    let a4 = next f (records_at h) h.records (level1_at h) h.level1 (level2_at h) _ (bytes_of 8 w.level1) _ a3 (length_bytes 8 _) refl in
    let a5 = next f (level1_at h) h.level1 (level2_at h) h.level2 (level3_at h) _ (bytes_of 8 w.level2) _ a4 (length_bytes 8 _) refl in
    let a6 = next f (level2_at h) h.level2 (level3_at h) h.level3 (level4_at h) _ (bytes_of 8 w.level3) _ a5 (length_bytes 8 _) refl in
    let a7 = next f (level3_at h) h.level3 (level4_at h) h.level4 (level5_at h) _ (bytes_of 8 w.level4) _ a6 (length_bytes 8 _) refl in
    let a8 = next f (level4_at h) h.level4 (level5_at h) h.level5 (end_of h) _ (bytes_of 4 w.level5) [] a7 (length_bytes 4 _) refl in
    record {
      rest1 = _;
      document = a1;
      rest2 = _;
      padding = a2;
      rest3 = _;
      records = a3;
      rest4 = _;
      level1 = a4;
      rest5 = _;
      level2 = a5;
      rest6 = _;
      level3 = a6;
      rest7 = _;
      level4 = a7;
      level5 = a8;
    }

-- the numbers before the document, in the second version and in the first
record Second (f bytes : List ℕ) (w : Lists) : Type 0 where
  pub rest0 : List ℕ
  pub magic : At f 0 8 8 (codes "VTDIDX02") rest0
  pub rest1 : List ℕ
  pub document : At f 8 4 12 (number_bytes 4 (length bytes)) rest1
  pub rest2 : List ℕ
  pub records : At f 12 4 16 (number_bytes 4 (length w.records)) rest2
  pub rest3 : List ℕ
  pub level1 : At f 16 4 20 (number_bytes 4 (length w.level1)) rest3
  pub rest4 : List ℕ
  pub level2 : At f 20 4 24 (number_bytes 4 (length w.level2)) rest4
  pub rest5 : List ℕ
  pub level3 : At f 24 4 28 (number_bytes 4 (length w.level3)) rest5
  pub rest6 : List ℕ
  pub level4 : At f 28 4 32 (number_bytes 4 (length w.level4)) rest6
  pub rest7 : List ℕ
  pub level5 : At f 32 4 36 (number_bytes 4 (length w.level5)) rest7
  pub spare : At f 36 4 40 (replicate 4 0) (body_of bytes w)

second : (f bytes : List ℕ) (w : Lists) → f ≡ file_of bytes w → Second f bytes w
unfolding file_of
second f bytes w e =
    let a0 = first f 8 (codes "VTDIDX02") _ e refl in
    let a1 = next f 0 8 8 4 12 _ (number_bytes 4 (length bytes)) _ a0 (length_number 4 _) refl in
    let a2 = next f 8 4 12 4 16 _ (number_bytes 4 (length w.records)) _ a1 (length_number 4 _) refl in
    let a3 = next f 12 4 16 4 20 _ (number_bytes 4 (length w.level1)) _ a2 (length_number 4 _) refl in
    let a4 = next f 16 4 20 4 24 _ (number_bytes 4 (length w.level2)) _ a3 (length_number 4 _) refl in
    let a5 = next f 20 4 24 4 28 _ (number_bytes 4 (length w.level3)) _ a4 (length_number 4 _) refl in
    let a6 = next f 24 4 28 4 32 _ (number_bytes 4 (length w.level4)) _ a5 (length_number 4 _) refl in
    let a7 = next f 28 4 32 4 36 _ (number_bytes 4 (length w.level5)) _ a6 (length_number 4 _) refl in
    let a8 = next f 32 4 36 4 40 _ (replicate 4 0) (body_of bytes w) a7 refl refl in
    record {
      rest0 = _;
      magic = a0;
      rest1 = _;
      document = a1;
      rest2 = _;
      records = a2;
      rest3 = _;
      level1 = a3;
      rest4 = _;
      level2 = a4;
      rest5 = _;
      level3 = a5;
      rest6 = _;
      level4 = a6;
      rest7 = _;
      level5 = a7;
      spare = a8;
    }

record First (f bytes : List ℕ) (w : Lists) : Type 0 where
  pub rest0 : List ℕ
  pub magic : At f 0 8 8 (codes "VTDIDX01") rest0
  pub rest1 : List ℕ
  pub document : At f 8 4 12 (number_bytes 4 (length bytes)) rest1
  pub rest2 : List ℕ
  pub records : At f 12 4 16 (number_bytes 4 (length w.records)) rest2
  pub rest3 : List ℕ
  pub level1 : At f 16 4 20 (number_bytes 4 (length w.level1)) rest3
  pub rest4 : List ℕ
  pub level2 : At f 20 4 24 (number_bytes 4 (length w.level2)) rest4
  pub rest5 : List ℕ
  pub level5 : At f 24 4 28 (number_bytes 4 (length w.level5)) rest5
  pub spare : At f 28 4 32 (replicate 4 0) (body_of bytes (lists_one w.records (levels_one_in w)))

first_version : (f bytes : List ℕ) (w : Lists) → f ≡ file_one bytes w.records (levels_one_in w) → First f bytes w
unfolding file_one
first_version f bytes w e =
    let a0 = first f 8 (codes "VTDIDX01") _ e refl in
    let a1 = next f 0 8 8 4 12 _ (number_bytes 4 (length bytes)) _ a0 (length_number 4 _) refl in
    let a2 = next f 8 4 12 4 16 _ (number_bytes 4 (length w.records)) _ a1 (length_number 4 _) refl in
    let a3 = next f 12 4 16 4 20 _ (number_bytes 4 (length w.level1)) _ a2 (length_number 4 _) refl in
    let a4 = next f 16 4 20 4 24 _ (number_bytes 4 (length w.level2)) _ a3 (length_number 4 _) refl in
    let a5 = next f 20 4 24 4 28 _ (number_bytes 4 (length w.level5)) _ a4 (length_number 4 _) refl in
    let a6 = next f 24 4 28 4 32 _ (replicate 4 0) (body_of bytes (lists_one w.records (levels_one_in w))) a5 refl refl in
    record {
      rest0 = _;
      magic = a0;
      rest1 = _;
      document = a1;
      rest2 = _;
      records = a2;
      rest3 = _;
      level1 = a3;
      rest4 = _;
      level2 = a4;
      rest5 = _;
      level5 = a5;
      spare = a6;
    }

-- what is read of the head, and where the body is
record Front (v : Version) (f bytes : List ℕ) (w : Lists) : Type 0 where
  pub magic : begins v f ≡ true
  pub is : head_in v f ≡ head_for v bytes w
  pub rest : List ℕ
  pub spare : At f (spare_at v) 4 (document_at v) (replicate 4 0) rest
  pub body : Body v f bytes w

front : (v : Version) (f bytes : List ℕ) (w : Lists) → CanHold bytes w → Shape v w → f ≡ file_by v bytes w → Front v f bytes w
front One f bytes w c s e =
    let p = first_version f bytes w e in
    let spare : At f 28 4 32 (replicate 4 0) (body_of bytes w) = subst (λ (x : Lists). At f 28 4 32 (replicate 4 0) (body_of bytes x)) (sym s) p.spare in
    let n1 = number_is f 8 4 12 (length bytes) p.rest1 p.document (let x = c.few in omega arith) in
    let n2 = number_is f 12 4 16 (length w.records) p.rest2 p.records (let x = c.records.few in omega arith) in
    let n3 = number_is f 16 4 20 (length w.level1) p.rest3 p.level1 (let x = c.level1.few in omega arith) in
    let n4 = number_is f 20 4 24 (length w.level2) p.rest4 p.level2 (let x = c.level2.few in omega arith) in
    let n5 = number_is f 24 4 28 (length w.level5) p.rest5 p.level5 (let x = c.level5.few in omega arith) in
    let n6 : length w.level3 ≡ 0 = ap (λ (x : Lists). length x.level3) s in
    let n7 : length w.level4 ≡ 0 = ap (λ (x : Lists). length x.level4) s in
    record {
      magic = magic_is (codes "VTDIDX01") f p.rest0 p.magic;
      is = rw (n1, n2, n3, n4, n5, n6, n7) refl;
      rest = _;
      spare = spare;
      body = body One f bytes w spare;
    }
front Two f bytes w c s e =
    let p = second f bytes w e in
    let n1 = number_is f 8 4 12 (length bytes) p.rest1 p.document (let x = c.few in omega arith) in
    let n2 = number_is f 12 4 16 (length w.records) p.rest2 p.records (let x = c.records.few in omega arith) in
    let n3 = number_is f 16 4 20 (length w.level1) p.rest3 p.level1 (let x = c.level1.few in omega arith) in
    let n4 = number_is f 20 4 24 (length w.level2) p.rest4 p.level2 (let x = c.level2.few in omega arith) in
    let n5 = number_is f 24 4 28 (length w.level3) p.rest5 p.level3 (let x = c.level3.few in omega arith) in
    let n6 = number_is f 28 4 32 (length w.level4) p.rest6 p.level4 (let x = c.level4.few in omega arith) in
    let n7 = number_is f 32 4 36 (length w.level5) p.rest7 p.level5 (let x = c.level5.few in omega arith) in
    record {
      magic = magic_is (codes "VTDIDX02") f p.rest0 p.magic;
      is = rw (n1, n2, n3, n4, n5, n6, n7) refl;
      rest = _;
      spare = p.spare;
      body = body Two f bytes w p.spare;
    }

-- how long it is
pub length_file : (bytes : List ℕ) (w : Lists) → length (file_of bytes w) ≡ end_of (head_for Two bytes w)
length_file bytes w = let p = body Two (file_of bytes w) bytes w (second (file_of bytes w) bytes w refl).spare in p.level5.total ∙ omega arith

sized_ok : (v : Version) (f bytes : List ℕ) (w : Lists) → document_at v ≤ length f → head_in v f ≡ head_for v bytes w
    → length f ≡ end_of (head_for v bytes w) → length bytes < 2 ^ 30 → first_nonzero (spare_at v) (slice (spare_at v) 4 f) ≡ None
    → first_nonzero (document_at v + length bytes) (slice (document_at v + length bytes) (padded (length bytes) - length bytes) f) ≡ None
    → head_from v f ≡ Ok (head_for v bytes w)
sized_ok v f bytes w long is all few spare padding =
    let t1 : nat_lt (length f) (document_at v) ≡ false = grind (arith, nat_tests) in
    let t2 : nat_lt 1073741823 (length bytes) ≡ false = grind (arith, nat_tests) in
    let t3 : (length f == end_of (head_for v bytes w)) ≡ true = grind (arith, nat_tests) in
    let s : with_size f (head_for v bytes w) ≡ Ok (head_for v bytes w) = rw (t2, t3) (sym (all_zeros f (head_for v bytes w) spare padding)) in
    rw t1 (ap (λ (x : Head). with_size f x) is ∙ s)

pub reads_file : (v : Version) (f bytes : List ℕ) (w : Lists) → CanHold bytes w → Shape v w → f ≡ file_by v bytes w → ReadBack v f bytes w
reads_file v f bytes w c s e =
    let h = head_for v bytes w in
    let fr = front v f bytes w c s e in
    let p = fr.body in
    let all : length f ≡ end_of h = p.level5.total ∙ omega arith in
    let long : document_at v ≤ length f = omega (arith, all) in
    let from = document_from v in
    let spare = zeros_in f (spare_at v) 4 (document_at v) (spare_at v) fr.rest fr.spare in
    let padding = zeros_in f (document_at v + length bytes) (padded (length bytes) - length bytes) (records_at h) (document_at v + length bytes)
    p.rest2 p.padding in
    record {
      head = head_begun v f (omega (arith, long, from)) fr.magic ∙ sized_ok v f bytes w long fr.is all c.few spare padding;
      document = part_is f (document_at v) (length bytes) (document_at v + length bytes) bytes p.rest1 p.document;
      words = rw (
        part_is f (records_at h) h.records (level1_at h) (bytes_of 8 w.records) p.rest3 p.records,
        part_is f (level1_at h) h.level1 (level2_at h) (bytes_of 8 w.level1) p.rest4 p.level1,
        part_is f (level2_at h) h.level2 (level3_at h) (bytes_of 8 w.level2) p.rest5 p.level2,
        part_is f (level3_at h) h.level3 (level4_at h) (bytes_of 8 w.level3) p.rest6 p.level3,
        part_is f (level4_at h) h.level4 (level5_at h) (bytes_of 8 w.level4) p.rest7 p.level4,
        part_is f (level5_at h) h.level5 (end_of h) (bytes_of 4 w.level5) [] p.level5,
        read_words 8 w.records (omega arith) c.records,
        read_words 8 w.level1 (omega arith) c.level1,
        read_words 8 w.level2 (omega arith) c.level2,
        read_words 8 w.level3 (omega arith) c.level3,
        read_words 8 w.level4 (omega arith) c.level4,
        read_words 4 w.level5 (omega arith) c.level5,
      ) refl;
    }

-- heads that are read are the same
pub same_head : (g h : Head) → ◌≡◌ {A = Result Head IndexFault} (Ok g) (Ok h) → g ≡ h
same_head g h e = cc

-- a file is that of one version, of one document and of one list of words
pub one_head : (v u : Version) (f a b : List ℕ) (x y : Lists) → ReadBack v f a x → ReadBack u f b y → head_for v a x ≡ head_for u b y
one_head v u f a b x y r s = same_head _ _ (sym r.head ∙ s.head)

pub one_read : (v u : Version) (f a b : List ℕ) (x y : Lists) → ReadBack v f a x → ReadBack u f b y → a ≡ b
one_read v u f a b x y r s = sym r.document ∙ ap (λ (z : Head). document_in f z) (one_head v u f a b x y r s) ∙ s.document

pub prefix_read : (v : Version) (f bytes : List ℕ) (w : Lists) (n : ℕ) → ReadBack v f bytes w → n < length f
    → head_of (take n f) ≡ cond (nat_lt n (document_at v)) (Err Short) (Err Size)
prefix_read v f bytes w n r low = prefix_refused f (head_for v bytes w) n (is_head f (head_for v bytes w) r.head) low
