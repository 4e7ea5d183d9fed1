-- A pass over the items of a document, one after another.
use Rattle.std.proofs.Common.{◌≡◌, ℕ, zero, suc, ◌+◌, ◌^◌, Ok, Err, ◌<◌, ◌≤◌, true, inl, inr, List, [], ◌∷◌, ◌++◌, length, drop, map, refl, sym, ap, ap₂, subst, ◌∙◌, arith}
use Rattle.std.specs.Prelude.{◌==◌}
use Rattle.std.specs.List.{AllByRecursion}
use Rattle.std.specs.Str.{IsUtf8, IsCharBoundary}
use Rattle.std.proofs.lemmas.Bool.{and_parts, cases_Bool, eqb-true}
use Rattle.std.proofs.lemmas.List.{drop-drop}
use Rattle.std.proofs.lemmas.Str.{IsUtf8-drop, IsCharBoundary-start, IsCharBoundary-past_char, IsCharBoundary-from_drop, scalars-chars}
use lib.Utf8.{encode, encodes, scalar, scalars}
use Rattle.xml_model.specs.Chars.{begins, size}
use Rattle.xml_model.specs.Items.{Leaf, Item, written, leaf, start_tag, empty_tag, end_tag, spelling, begins_at, byte_order_mark, first_place, walk, walk_from, walk_to_end, end_of_items}
use Rattle.xml_model.specs.Nest.{Forest, flat}
use Rattle.xml_model.specs.Records.{Record, document, records, word}
use Rattle.xml_model.specs.Accepted.{Accepted, IsDocument}
use Rattle.vtd_words.specs.Lists.{Lists}
use Rattle.vtd_words.specs.Packed.{fits}
use Rattle.vtd_words.specs.Table.{parts_of_record}
use Rattle.vtd_words.proofs.Fitting.{nest_shown}
use Rattle.xml_chars.proofs.Readers.{begins_split, begins_append}
use Rattle.xml_chars.proofs.HoldLemmas.{prefix_holds}
use Rattle.xml_items.proofs.SpanLemmas.{spelled}
use Rattle.vtd_builder.proofs.Recorded.{item_placed}
use Rattle.vtd_builder.proofs.Placed.{placed_end}
use Rattle.xml_acceptance.specs.Machine.{item_records, level_after, items_records}
use Rattle.xml_acceptance.proofs.Tokens.{tokens_whole}
use Rattle.vtd_builder.specs.Offered.{CanOffer, record_words, Outcome, outcome, offer}
use Rattle.vtd_builder.proofs.InParts.{Test, Offers, can_first, offers_more, offers_stopped, offers_all}
use Rattle.vtd_builder.proofs.Counted.{begun_meets, item_long, items_few, items_rise}

-- the items begin one after another from the place to the end of the bytes
pub record GoesOn (bytes : List ℕ) (at : ℕ) (rest : List Item) : Type 0 where
  pub walked : walk_from bytes at rest ≡ true
  pub ends : end_of_items at rest ≡ length bytes

-- ---- the first place

mark_is : byte_order_mark ≡ encode 0xFEFF
unfolding encode
mark_is = refl

pub first_boundary : (bytes : List ℕ) → IsUtf8 bytes → IsCharBoundary bytes (first_place bytes)
unfolding first_place
first_boundary bytes u = elim (cases_Bool (begins byte_order_mark bytes)) [
  | inl t ↦
      let split : drop 0 bytes ≡ encode 0xFEFF ++ drop 3 bytes = begins_split byte_order_mark bytes t ∙ ap (λ (l : List ℕ). l ++ drop 3 bytes) mark_is in
      rw t (IsCharBoundary-past_char bytes (drop 3 bytes) 0 0xFEFF (omega arith) u split)
  | inr f ↦ rw f (IsCharBoundary-start bytes u)
]

-- ---- the whole document

pub goes_whole : (bytes : List ℕ) (nest : Forest) → IsDocument bytes nest → GoesOn bytes (first_place bytes) (flat nest)
unfolding walk walk_to_end
goes_whole bytes nest d =
    let w = and_parts (walk_from bytes (first_place bytes) (flat nest)) (end_of_items (first_place bytes) (flat nest) == length bytes) d.walked in
    record { walked = w.0; ends = eqb-true _ _ w.1 }

records_split : (bytes : List ℕ) (nest : Forest) → records nest (first_place bytes) ≡ document ∷ items_records 0 (first_place bytes) (flat nest)
unfolding records
records_split bytes nest = ap (λ (l : List Record). document ∷ l) (sym (tokens_whole nest (first_place bytes)))

pub can_all : (bytes : List ℕ) (nest : Forest) → length bytes < 2 ^ 30 → Accepted 6 bytes nest → CanOffer 0 (document ∷ items_records 0 (first_place bytes) (flat nest))
can_all bytes nest small a =
    let lists : Lists = record { records = record_words bytes nest; level1 = []; level2 = []; level3 = []; level4 = []; level5 = [] } in
    let fit = (nest_shown bytes lists nest small (record { accepted = a; recorded = refl })).fit in
    let g = goes_whole bytes nest a.document in
    record {
      fit = subst (λ (l : List Record). AllByRecursion (λ r. fits (parts_of_record r) ≡ true) l) (records_split bytes nest) fit;
      counted = omega (arith, items_few (flat nest) bytes 0 (first_place bytes) g.walked, g.ends);
    }

-- ---- one item

-- a start tag's own record bounds the elements that are open
pub level_low : (i : Item) (level at count : ℕ) → CanOffer count (item_records level at i) → level ≤ 256 → level_after i level ≤ 256
level_low (leaf (Leaf.text x)) level at count c l = l
level_low (leaf (Leaf.cdata x)) level at count c l = l
level_low (leaf (Leaf.comment x)) level at count c l = l
level_low (leaf (Leaf.instruction x)) level at count c l = l
level_low (leaf (Leaf.declaration x)) level at count c l = l
level_low (leaf (Leaf.doctype x)) level at count c l = l
level_low (start_tag t) level at count c l =
    let f = c.fit.0 in
    let low : level < 256 = grind (arith, f) in
    omega arith
level_low (empty_tag t) level at count c l = l
level_low (end_tag name space) zero at count c l = l
level_low (end_tag name space) (suc n) at count c l = omega arith

-- ---- the end

pub ends_at : (rest : List Item) (bytes : List ℕ) (at : ℕ) → at ≡ length bytes → GoesOn bytes at rest → rest ≡ []
ends_at [] bytes at e g = refl
ends_at (j ∷ others) bytes at e g =
    let h = and_parts (begins_at bytes at j) (walk_from bytes (at + length (spelling j)) others) g.walked in
    absurd (omega (arith, (item_long j 0 at (begun_meets bytes at j h.0)).some, items_rise others (at + length (spelling j)), g.ends, e))

-- ---- the pass

-- of a nest: what is left of its items, and that offering their records answers as offering all of its records does
pub record Ahead (bytes : List ℕ) (nest : Forest) (first : Test) (before : List ℕ) (at level : ℕ) (now : Test) (taken : List ℕ) (count : ℕ) : Type 0 where
  pub rest : List Item
  pub goes : GoesOn bytes at rest
  pub offers : Offers first before 0 (records nest (first_place bytes)) now taken count (items_records level at rest)

pub ahead_first : (bytes : List ℕ) (nest : Forest) (first now : Test) (before taken : List ℕ) (count : ℕ) → length bytes < 2 ^ 30 → Accepted 6 bytes nest → outcome taken (Ok count) ≡ offer first before 0 (word document ∷ []) → now ≡ first
    → Ahead bytes nest first before (first_place bytes) 0 now taken count
ahead_first bytes nest first now before taken count small a e t =
    let all = document ∷ items_records 0 (first_place bytes) (flat nest) in
    let start : Offers first before 0 (records nest (first_place bytes)) first before 0 all = record { test = refl; can = can_all bytes nest small a; same = ap (λ (l : List Record). offer first before 0 (map word l)) (records_split bytes nest) } in
    record {
      rest = flat nest;
      goes = goes_whole bytes nest a.document;
      offers = offers_more first before 0 (records nest (first_place bytes)) first before 0 (document ∷ []) (items_records 0 (first_place bytes) (flat nest)) now taken count start e t;
    }

pub stopped_first : (bytes : List ℕ) (nest : Forest) (first : Test) (before taken : List ℕ) (k : ℕ) → length bytes < 2 ^ 30 → Accepted 6 bytes nest → outcome taken (Err k) ≡ offer first before 0 (word document ∷ [])
    → outcome taken (Err k) ≡ offer first before 0 (record_words bytes nest)
stopped_first bytes nest first before taken k small a e =
    let all = document ∷ items_records 0 (first_place bytes) (flat nest) in
    let start : Offers first before 0 (records nest (first_place bytes)) first before 0 all = record { test = refl; can = can_all bytes nest small a; same = ap (λ (l : List Record). offer first before 0 (map word l)) (records_split bytes nest) } in
    offers_stopped first before 0 (records nest (first_place bytes)) first before 0 (document ∷ []) (items_records 0 (first_place bytes) (flat nest)) taken k start e

-- the head of what is left of a nest
pub record Head (bytes : List ℕ) (nest : Forest) (first : Test) (before : List ℕ) (at level : ℕ) (now : Test) (taken : List ℕ) (count : ℕ) : Type 0 where
  pub item : Item
  pub others : List Item
  pub begins : begins_at bytes at item ≡ true
  pub after : GoesOn bytes (at + length (spelling item)) others
  pub can : CanOffer count (item_records level at item)
  pub offers : Offers first before 0 (records nest (first_place bytes)) now taken count (item_records level at item ++ items_records (level_after item level) (at + length (spelling item)) others)
  pub longer : at < at + length (spelling item)
  pub within : at + length (spelling item) ≤ length bytes

pub head_of : (bytes : List ℕ) (nest : Forest) (first : Test) (before : List ℕ) (at level : ℕ) (now : Test) (taken : List ℕ) (count : ℕ) → Ahead bytes nest first before at level now taken count → at < length bytes → Head bytes nest first before at level now taken count
head_of bytes nest first before at level now taken count a lt = go a.rest a.goes a.offers
  where
    go : (rest : List Item) → GoesOn bytes at rest → Offers first before 0 (records nest (first_place bytes)) now taken count (items_records level at rest) → Head bytes nest first before at level now taken count
    go [] g o = absurd (omega (arith, g.ends))
    go (i ∷ others) g o =
        let h = and_parts (begins_at bytes at i) (walk_from bytes (at + length (spelling i)) others) g.walked in
        let long = item_long i level at (begun_meets bytes at i h.0) in
        record {
          item = i;
          others = others;
          begins = h.0;
          after = record { walked = h.1; ends = g.ends };
          can = can_first count (item_records level at i) (items_records (level_after i level) (at + length (spelling i)) others) o.can;
          offers = o;
          longer = omega (arith, long.some);
          within = omega (arith, items_rise others (at + length (spelling i)), g.ends);
        }

-- what offering the records of an item answers
abbrev pub Answers : List ℕ → ℕ → ℕ → Test → List ℕ → ℕ → Outcome → Type 0
Answers bytes at level now taken count answer = (i : Item) → begins_at bytes at i ≡ true → CanOffer count (item_records level at i) → answer ≡ offer now taken count (map word (item_records level at i))

pub ahead_more : (bytes : List ℕ) (nest : Forest) (first : Test) (before : List ℕ) (at level : ℕ) (now later : Test) (taken taken1 : List ℕ) (count n : ℕ) (past after : ℕ)
    → (f : Head bytes nest first before at level now taken count) → Answers bytes at level now taken count (outcome taken1 (Ok n)) → later ≡ now → past ≡ at + length (spelling f.item) → after ≡ level_after f.item level → Ahead bytes nest first before past after later taken1 n
ahead_more bytes nest first before at level now later taken taken1 count n past after f e t p l = record {
  rest = f.others;
  goes = subst (λ (m : ℕ). GoesOn bytes m f.others) (sym p) f.after;
  offers = subst (λ (o : List Record). Offers first before 0 (records nest (first_place bytes)) later taken1 n o) (ap₂ (λ (x y : ℕ). items_records x y f.others) (sym l) (sym p))
      (offers_more first before 0 (records nest (first_place bytes)) now taken count (item_records level at f.item) (items_records (level_after f.item level) (at + length (spelling f.item)) f.others) later taken1 n f.offers (e f.item f.begins f.can) t);
}

pub stopped_more : (bytes : List ℕ) (nest : Forest) (first : Test) (before : List ℕ) (at level : ℕ) (now : Test) (taken taken1 : List ℕ) (count k : ℕ)
    → Head bytes nest first before at level now taken count → Answers bytes at level now taken count (outcome taken1 (Err k)) → outcome taken1 (Err k) ≡ offer first before 0 (record_words bytes nest)
stopped_more bytes nest first before at level now taken taken1 count k f e =
    offers_stopped first before 0 (records nest (first_place bytes)) now taken count (item_records level at f.item) (items_records (level_after f.item level) (at + length (spelling f.item)) f.others) taken1 k f.offers (e f.item f.begins f.can)

-- nothing is left
pub ahead_end : (bytes : List ℕ) (nest : Forest) (first : Test) (before : List ℕ) (at level : ℕ) (now : Test) (taken : List ℕ) (count : ℕ) → Ahead bytes nest first before at level now taken count → at ≡ length bytes
    → outcome taken (Ok count) ≡ offer first before 0 (record_words bytes nest)
ahead_end bytes nest first before at level now taken count a e =
    offers_all first before 0 (records nest (first_place bytes)) now taken count (items_records level at a.rest) a.offers (ap (items_records level at) (ends_at a.rest bytes at e a.goes))

-- where an item ends, a character may begin
pub past_boundary : (bytes : List ℕ) (at : ℕ) (i : Item) → IsUtf8 bytes → IsCharBoundary bytes at → begins_at bytes at i ≡ true → IsCharBoundary bytes (at + length (spelling i))
past_boundary bytes at i u b h =
    let k = item_placed bytes at i b.0 h in
    let f = prefix_holds (drop at bytes) (written i) (IsUtf8-drop bytes at u b) (ap (begins (encodes (written i))) k.here ∙ begins_append (encodes (written i)) k.more) in
    let back : drop (at + size (written i)) bytes ≡ encodes f.0 = sym (drop-drop (size (written i)) at bytes) ∙ sym f.2 in
    let s : scalars f.0 ≡ true = scalar_back (written i) f.0 (ap scalars (sym f.1) ∙ scalars-chars (drop at bytes) (IsUtf8-drop bytes at u b)) in
    let v : IsUtf8 (drop (at + size (written i)) bytes) = (f.0, (s, sym back)) in
    subst (λ (m : ℕ). IsCharBoundary bytes (at + m)) (sym (spelled i)) (IsCharBoundary-from_drop bytes (at + size (written i)) (placed_end bytes at (written i) k) v)
  where
    scalar_back : (v w : List ℕ) → scalars (v ++ w) ≡ true → scalars w ≡ true
    scalar_back [] w h = h
    scalar_back (c ∷ v) w h = scalar_back v w (and_parts (scalar c) (scalars (v ++ w)) h).1

-- how far the pass has come, whichever nest the bytes have
pub record Passing (bytes : List ℕ) (first : Test) (before : List ℕ) (at level : ℕ) (now : Test) (taken : List ℕ) (count : ℕ) : Type 0 where
  pub boundary : IsCharBoundary bytes at
  pub low : level ≤ 256
  pub each : (nest : Forest) → Accepted 6 bytes nest → Ahead bytes nest first before at level now taken count
