-- The tags that are open at a record, by depth: the last starting tag of each depth before it.
use Rattle.std.proofs.Common.{
  ◌≡◌,
  ℕ,
  zero,
  suc,
  ◌+◌,
  ◌<◌,
  ◌≤◌,
  Bool,
  true,
  false,
  cond,
  ◌&&◌,
  ◌==◌,
  nat_lt,
  List,
  [],
  ◌∷◌,
  ◌++◌,
  length,
  take,
  refl,
  ap,
  ap₂,
  sym,
  ◌∙◌,
  subst,
  arith,
  Some,
  slice_set,
  add-zero,
  zero-add,
  ne_eqb,
  length-append,
}
use Rattle.std.specs.Prelude.{replicate}
use Rattle.std.specs.List.{slice_index_or, Contains}
use Rattle.std.proofs.lemmas.Bool.{eq-eqb}
use Rattle.std.proofs.lemmas.List.{get_or-take, get_or-append-add, length-set, length-take-le, take-take, take_at}
use Rattle.std.proofs.Math.Seq.{take-suc-set}
use Rattle.xml_model.specs.Records.{Record, records}
use Rattle.xml_model.specs.declared.Kind.TheVariants as kinds
use Rattle.xml_model.specs.Levels.{is_tag}
use Rattle.xml_model.specs.Scan.{record_at, level_of, tag_or, last_tag}
use Rattle.xml_model.specs.Slots.{slots_with, slots_after, holder_indexes}
use Rattle.xml_model.specs.Tree.{Entry, Holder, all, kind_of}
use Rattle.xml_model.specs.Nest.{Forest, is_nest}
use Rattle.xml_model.specs.Laws.{holder_index, FirstRecordShows}
use Rattle.xml_model.proofs.Each.{each_at}
use Rattle.xml_model.proofs.Levels.{Shallow}
use Rattle.xml_model.proofs.Owners.{Owned, owners_by_scan}
use Rattle.xml_model.proofs.FirstRecords.{first_records}
use Rattle.xml_model.proofs.Bounds.{nest_shallow}
use Rattle.xml_model.proofs.Slots.{holders_in_slots}
use Rattle.xml_model.specs.Items.{first_place}
use Rattle.vtd_words.specs.Lists.{Lists}
use Rattle.vtd_words.specs.Table.{IsTable, Shows}
use Rattle.vtd_words.proofs.Fitting.{nest_shown}
use Rattle.vtd_words.proofs.Nodes.{some_record}
use Rattle.vtd_words.proofs.Shown.{shown_length}
use Rattle.vtd_text.proofs.FingerprintLemmas.{zeros}
use Rattle.vtd_namespaces.specs.OpenTags.{no_tags, open_before}
use Rattle.vtd_namespaces.specs.Scope.{Chain, Opened}
use Rattle.vtd_namespaces.proofs.NodeLemmas.{element_token}

-- of a holder: its tag's record, and what holds it
pub record HolderHolds (whole : List Record) (x : Holder) (xs : List Holder) : Type 0 where
  pub token : (record_at x.index whole).token ≡ 0
  pub depth : (record_at x.index whole).depth ≡ length xs
  pub owned : Owned whole xs x.index
  pub before : holder_index xs < x.index

abbrev pub ChainHolds : List Record → List Holder → Type 0
ChainHolds whole [] = Unit {0}
ChainHolds whole (x ∷ xs) = HolderHolds whole x xs × ChainHolds whole xs

last_low : (rs : List Record) (l n d high : ℕ) → d < high → n + length rs ≤ high → last_tag l n d rs < high
last_low [] l n d high h k = h
last_low (r ∷ rs) l n d high h k = last_low rs l (suc n) (tag_or l n d r) high (by (r.token == 0 && nat_lt r.depth l)) (omega arith)
  where
    by : (b : Bool) → cond b n d < high
    by true = omega arith
    by false = h

pub shown_depth : (r : Record) → r.token ≡ 0 → level_of r ≡ r.depth
shown_depth r t = ap (λ b. cond b r.depth (cond (r.depth == 255) 0 (suc r.depth))) (eq-eqb r.token 0 t)

first_token : (nest : Forest) (first n : ℕ) → (record_at n (records nest first)).token ≡ 0 → 0 < n
unfolding records
first_token nest first zero t = absurd (omega (arith, t))
first_token nest first (suc n) t = omega arith

-- an element is among the records
pub element_holds : (nest : Forest) (first : ℕ) → Shallow 0 nest → (e : Entry) → Contains (all nest first) e → kind_of e.what ≡ kinds.Element →
    (x : Holder) → e.index ≡ x.index → (xs : List Holder) → e.holders ≡ xs → HolderHolds (records nest first) x xs
element_holds nest first s e c k x p xs h =
    let whole = records nest first in
    let f = each_at (FirstRecordShows whole) (all nest first) e (first_records nest first s) c in
    let o : Owned whole xs x.index = subst (λ n. Owned whole xs n) p (subst (λ l. Owned whole l e.index) h (each_at (λ y. Owned whole y.holders y.index) (all nest first) e (owners_by_scan nest first s) c)) in
    let token : (record_at e.index whole).token ≡ 0 = element_token _ (f.kind ∙ ap (λ y. Some y) k) in
    let there : (record_at x.index whole).token ≡ 0 = ap (λ n. (record_at n whole).token) (sym p) ∙ token in
    let some : 0 < x.index = first_token nest first x.index there in
    let low : last_tag (length xs) 0 0 o.prefix < x.index = last_low o.prefix (length xs) 0 0 x.index some (omega (arith, o.begins)) in
    record {
      token = there;
      depth = ap (λ n. (record_at n whole).depth) (sym p) ∙ sym (shown_depth (record_at e.index whole) token) ∙ f.level ∙ ap length h;
      owned = o;
      before = omega (arith, low, o.owner);
    }

pub chain_holds : (nest : Forest) (first : ℕ) → Shallow 0 nest → (hs : List Holder) → Chain (all nest first) hs → ChainHolds (records nest first) hs
chain_holds nest first s [] c = tt
chain_holds nest first s (x ∷ xs) c = (element_holds nest first s c.0.entry c.0.there (ap kind_of c.0.what) x c.0.index xs c.0.holders, chain_holds nest first s xs c.1)

-- the slots, one record after another

set_within : (s : List ℕ) (d n high k : ℕ) → n < high → ((j : ℕ) → slice_index_or s j 0 < high) → slice_index_or (slice_set s d n) k 0 < high
set_within [] d n high k l h = h k
set_within (x ∷ s) zero n high zero l h = l
set_within (x ∷ s) zero n high (suc k) l h = h (suc k)
set_within (x ∷ s) (suc d) n high zero l h = h 0
set_within (x ∷ s) (suc d) n high (suc k) l h = set_within s d n high k l (λ j. h (suc j))

with_within : (n high : ℕ) (s : List ℕ) (r : Record) → n < high → ((j : ℕ) → slice_index_or s j 0 < high) → (k : ℕ) →
    slice_index_or (slots_with n s r) k 0 < high
with_within n high s r l h k = by (is_tag r)
  where
    by : (b : Bool) → slice_index_or (cond b (slice_set s r.depth n) s) k 0 < high
    by true = set_within s r.depth n high k l h
    by false = h k

after_within : (rs : List Record) (n high : ℕ) (s : List ℕ) → n + length rs ≤ high → ((j : ℕ) → slice_index_or s j 0 < high) → (k : ℕ) →
    slice_index_or (slots_after n s rs) k 0 < high
after_within [] n high s l h = h
after_within (r ∷ rs) n high s l h = after_within rs (suc n) high (slots_with n s r) (omega arith) (with_within n high s r (omega arith) h)

with_length : (n : ℕ) (s : List ℕ) (r : Record) → length (slots_with n s r) ≡ length s
with_length n s r = by (is_tag r)
  where
    by : (b : Bool) → length (cond b (slice_set s r.depth n) s) ≡ length s
    by true = length-set s r.depth n
    by false = refl

after_length : (rs : List Record) (n : ℕ) (s : List ℕ) → length (slots_after n s rs) ≡ length s
after_length [] n s = refl
after_length (r ∷ rs) n s = after_length rs (suc n) (slots_with n s r) ∙ with_length n s r

after_more : (rs : List Record) (n m : ℕ) (s : List ℕ) → n < length rs →
    slots_after m s (take (suc n) rs) ≡ slots_with (m + n) (slots_after m s (take n rs)) (record_at n rs)
after_more [] n m s h = absurd (omega arith)
after_more (r ∷ rs) zero m s h = ap (λ k. slots_with k s r) (sym (add-zero m))
after_more (r ∷ rs) (suc n) m s h =
    let moved : suc m + n ≡ m + suc n = omega arith in
    after_more rs n (suc m) (slots_with m s r) (omega arith) ∙ ap (λ k. slots_with k (slots_after (suc m) (slots_with m s r) (take n rs)) (record_at n rs)) moved

-- open tags

pub open_within : (rs : List Record) (n : ℕ) → n ≤ length rs → 0 < length rs → (k : ℕ) → slice_index_or (open_before n rs) k 0 < length rs
unfolding no_tags
open_within rs n l h = after_within (take n rs) 0 (length rs) (replicate 256 0) (omega (arith, length-take-le n rs l)) (λ k. omega (arith, zeros 256 k, h))

open_length : (rs : List Record) (n : ℕ) → length (open_before n rs) ≡ 256
unfolding no_tags
open_length rs n = after_length (take n rs) 0 (replicate 256 0)

pub open_first : (tags : List ℕ) (rs : List Record) → tags ≡ replicate 256 0 → tags ≡ open_before 0 rs
unfolding no_tags
open_first tags rs h = h

pub open_more : (rs : List Record) (n : ℕ) → n < length rs → open_before (n + 1) rs ≡ slots_with n (open_before n rs) (record_at n rs)
open_more rs n h = let next : n + 1 ≡ suc n = omega arith in ap (λ m. open_before m rs) next ∙ after_more rs n 0 no_tags h ∙ ap (λ m. slots_with m (open_before n rs) (record_at n rs)) (zero-add n)

-- a record that is passed
pub passed : (tags next : List ℕ) (rs : List Record) (n : ℕ) (r : Record) → next ≡ slots_with n tags r → n < length rs → r ≡ record_at n rs →
    tags ≡ open_before n rs → next ≡ open_before (n + 1) rs
passed tags next rs n r e h here o = e ∙ ap₂ (slots_with n) o here ∙ sym (open_more rs n h)

-- what the slots have after a record that is a starting tag's, and after another
pub put_is : (inside tags : List ℕ) (n : ℕ) (r : Record) → inside ≡ tags → r.token ≡ 0 → slice_set inside r.depth n ≡ slots_with n tags r
put_is inside tags n r e t = ap (λ s. slice_set s r.depth n) e ∙ sym (ap (λ b. cond b (slice_set tags r.depth n) tags) (eq-eqb r.token 0 t))

pub kept_is : (tags : List ℕ) (n : ℕ) (r : Record) → (r.token ≡ 0 → ⊥) → tags ≡ slots_with n tags r
kept_is tags n r t = sym (ap (λ b. cond b (slice_set tags r.depth n) tags) (ne_eqb r.token 0 t))

indexes_length : (hs : List Holder) → length (holder_indexes hs) ≡ length hs
indexes_length [] = refl
indexes_length (x ∷ xs) = omega (arith, length-append (holder_indexes xs) (x.index ∷ []), indexes_length xs)

-- slots that begin with the indexes of holders have each by its depth
pub opened_by : (hs : List Holder) (tags : List ℕ) → take (length hs) tags ≡ holder_indexes hs → Opened tags hs
opened_by [] tags h = tt
opened_by (x ∷ xs) tags h =
    let l = length xs in
    let many : length (holder_indexes xs) ≡ l = indexes_length xs in
    let end : length (holder_indexes xs) + 0 ≡ l = omega (arith, many) in
    let one : slice_index_or tags l 0 ≡ slice_index_or (take (suc l) tags) l 0 = sym (get_or-take (suc l) tags l 0 (omega arith)) in
    let two : slice_index_or (holder_indexes xs ++ x.index ∷ []) l 0 ≡ x.index =
    ap (λ k. slice_index_or (holder_indexes xs ++ x.index ∷ []) k 0) (sym end) ∙ get_or-append-add (holder_indexes xs) (x.index ∷ []) 0 0 in
    let left : take l tags ≡ take l (take (suc l) tags) = sym (take-take l (suc l) tags (omega arith)) in (
      one ∙ ap (λ s. slice_index_or s l 0) h ∙ two,
      opened_by xs tags (left ∙ ap (take l) h ∙ take_at (holder_indexes xs) (x.index ∷ []) l many),
    )

open_slots : (nest : Forest) (first : ℕ) → is_nest nest ≡ true → (e : Entry) → Contains (all nest first) e →
    take (length e.holders) (open_before e.index (records nest first)) ≡ holder_indexes e.holders
open_slots nest first n e c = holders_in_slots no_tags (omega (arith, open_length [] 0)) nest first n e c

-- the tags that are open where an element begins, its own included
pub opened_at : (nest : Forest) (first : ℕ) → is_nest nest ≡ true → (e : Entry) → Contains (all nest first) e → kind_of e.what ≡ kinds.Element →
    (x : Holder) → e.index ≡ x.index →
    (tags : List ℕ) → tags ≡ open_before (x.index + 1) (records nest first) → length e.holders < 256 → Opened tags (x ∷ e.holders)
opened_at nest first n e c k x p tags o low =
    let whole = records nest first in
    let l = length e.holders in
    let y = element_holds nest first (nest_shallow nest n) e c k x p e.holders refl in
    let within : x.index < length whole = omega (arith, (each_at (FirstRecordShows whole) (all nest first) e (first_records nest first (nest_shallow nest n)) c).within, p) in
    let before = open_before x.index whole in
    let put : tags ≡ slice_set before l x.index =
    o ∙ open_more whole x.index within ∙ ap (λ b. cond b (slice_set before (record_at x.index whole).depth x.index) before) (eq-eqb (record_at x.index whole).token 0 y.token) ∙ ap (λ d. slice_set before d x.index) y.depth in
    let held : take l before ≡ holder_indexes e.holders = ap (λ m. take l (open_before m whole)) (sym p) ∙ open_slots nest first n e c in
    opened_by (x ∷ e.holders) tags
    (ap (take (suc l)) put ∙ take-suc-set before l x.index (omega (arith, open_length whole x.index)) ∙ ap (λ s. s ++ x.index ∷ []) held)

-- the tags that are open where another node begins
pub opened_before : (nest : Forest) (first : ℕ) → is_nest nest ≡ true → (e : Entry) → Contains (all nest first) e →
    ((record_at e.index (records nest first)).token ≡ 0 → ⊥) →
    (tags : List ℕ) → tags ≡ open_before (e.index + 1) (records nest first) → Opened tags e.holders
opened_before nest first n e c t tags o =
    let whole = records nest first in
    let within = (each_at (FirstRecordShows whole) (all nest first) e (first_records nest first (nest_shallow nest n)) c).within in
    let before = open_before e.index whole in
    let kept : tags ≡ before =
    o ∙ open_more whole e.index within ∙ ap (λ b. cond b (slice_set before (record_at e.index whole).depth e.index) before) (ne_eqb (record_at e.index whole).token 0 t) in
    opened_by e.holders tags (ap (take (length e.holders)) kept ∙ open_slots nest first n e c)

-- of a table, the open tags have records
pub tags_within : (bytes : List ℕ) (lists : Lists) → IsTable bytes lists → (tags : List ℕ) (n : ℕ) → n ≤ length lists.records →
    ((rs : List Record) → Shows lists.records rs → tags ≡ open_before n rs) → (k : ℕ) → slice_index_or tags k 0 < length lists.records
tags_within bytes lists t tags n l o k =
    let rs = records t.nest (first_place bytes) in
    let shows = nest_shown bytes lists t.nest t.few t.shown in
    let many = shown_length lists.records rs shows in
    let some = some_record bytes lists t in
    omega (arith, ap (λ s. slice_index_or s k 0) (o rs shows), open_within rs n (omega (arith, many, l)) (omega (arith, many, some)) k, many)
