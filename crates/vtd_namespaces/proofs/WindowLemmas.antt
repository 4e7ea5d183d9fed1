-- The prefixes that a tag declares, in rounds, and what is found for those of a window.
use Rattle.std.proofs.Common.{◌≡◌, ℕ, zero, suc, ◌+◌, ◌-◌, ◌*◌, ◌<◌, ◌≤◌, ◌⊎◌, inl, inr, true, false, List, [], ◌∷◌, ◌++◌, length, take, drop, set, get_or, refl, ap, sym, ◌∙◌, subst, arith, Option, Some, None, is_some, bytes_eq, ⊎_elim, codes}
use Rattle.std.specs.Prelude.{IfSome, IsSomeAnd, MatchOption, encode_utf8_all}
use Rattle.std.specs.Borrow.{Bor}
use Rattle.std.proofs.lemmas.Bool.{false≢true, cases_Bool}
use Rattle.std.proofs.lemmas.List.{get_or-take, get_or-drop, length-take, drop_at, get_or_default, get_or_past, get_or_append_left, get_or-append_right, get_or-set_same, get_or-set_other}
use Rattle.std.proofs.lemmas.Slice.Eq.{bytes_eq-Decides}
use Rattle.std.specs.List.Sorted.{IsPermutation}
use Rattle.std.proofs.lemmas.List.Sorted.{IsPermutation-sym}
use Rattle.xml_model.specs.Chars.{size, prefix_of}
use Rattle.xml_model.specs.Items.{Tag, first_place}
use Rattle.xml_model.specs.Nest.{Forest}
use Rattle.xml_model.specs.Tree.{Entry, Holder}
use Rattle.xml_model.specs.Names.{declaring}
use Rattle.xml_model.specs.Records.{Record, records}
use Rattle.xml_model.specs.Scan.{record_at}
use Rattle.vtd_words.specs.Table.{parts_of_record, IsNestOf, nodes_of}
use Rattle.vtd_words.specs.Lists.{Lists}
use Rattle.vtd_text.specs.Joined.{slice_of}
use Rattle.vtd_text.specs.NameRecords.{is_attribute_name, IsDeclaration}
use Rattle.vtd_namespaces.specs.Offences.{AreDeclarations}
use Rattle.vtd_namespaces.specs.Rounds.{IsNamed}
use Rattle.vtd_namespaces.specs.Scope.{IsDeclaredAt, IsDeclarationIn, IsNearestAt, IsNearest}
use Rattle.vtd_namespaces.specs.Windows.{Declares, HasPrefix, IsDeclaredName, IsAmong, ArePrefixes, PutsPrefix, PutsOrSkips, IsLeastIn, KeepsOrFinds, KeepsOrDeclares, KeepsFound, IsWindow}
use Rattle.vtd_namespaces.specs.NameRecords.{AreAttributeRecords, IsNameRecord}
use Rattle.vtd_namespaces.specs.Repeats.{HasNoAttribute}
use Rattle.vtd_namespaces.proofs.DeclarationLemmas.{Sought, Left, next_tag, next_sought, with_mark, empty_encoded, none_sought, all_sought, none_left}
use Rattle.vtd_namespaces.proofs.NameRecordLemmas.{document_holds}
use Rattle.vtd_namespaces.proofs.QNameLemmas.{prefix_taken}
use Rattle.vtd_namespaces.proofs.MemoLemmas.{equal_or}
use Rattle.vtd_namespaces.proofs.RepeatLemmas.{eq_encoded}
use Rattle.vtd_namespaces.proofs.RoundLemmas.{below_or, named_permuted}

-- what a search in a round tells, where nothing was found before
pub least_found : (round : List (Bor (List ℕ) × ℕ)) (name prefix : List ℕ) (earlier found : Option ℕ) → is_some earlier ≡ false → name ≡ prefix → IfSome found (IsNamed round name) →
    ((n : ℕ) → IsNamed round name n → IsSomeAnd found (λ m. m ≤ n)) → KeepsOrFinds round prefix earlier found
least_found round name prefix (Some n) found e s f l = absurd (false≢true (sym e))
least_found round name prefix None found e s f l = subst (λ q. IsLeastIn round q found) s (by found f l)
  where
    by : (o : Option ℕ) → IfSome o (IsNamed round name) → ((n : ℕ) → IsNamed round name n → IsSomeAnd o (λ m. m ≤ n)) → IsLeastIn round name o
    by None f l = λ n h. l n h
    by (Some m) f l = record { there = f; least = λ n h. l n h }

-- ---- the prefixes in a round

wider : (bytes : List ℕ) (rs : List Record) (first start end : ℕ) (e : Bor (List ℕ) × ℕ) → IsDeclaredName bytes rs first start end e → IsDeclaredName bytes rs first start (end + 1) e
wider bytes rs first start end e h = record { number = h.number; low = h.low; high = omega (arith, h.high); index = h.index; declares = h.declares }

same_prefix : (bytes : List ℕ) (r : Record) (p q : List ℕ) → Declares bytes r p → Declares bytes r q → p ≡ q
same_prefix bytes r p q h k = sym (drop_at (codes "xmlns:") p 6 refl) ∙ ap (λ l. drop 6 l) (sym h.name ∙ k.name) ∙ drop_at (codes "xmlns:") q 6 refl

among_more : (count : ℕ) (round : List (Bor (List ℕ) × ℕ)) (x : Bor (List ℕ) × ℕ) (p : List ℕ) (n : ℕ) → IsAmong count round p n → IsAmong (count + 1) (set round count x) p n
among_more count round x p n h =
    let l : h.place < count = h.within in
    record {
      place = h.place;
      within = omega (arith, l);
      name = λ d. ap (λ e. e.0.now) (get_or-set_other round count h.place x d (λ e. omega (arith, e, l))) ∙ h.name d;
      index = λ d. ap (λ e. e.1) (get_or-set_other round count h.place x d (λ e. omega (arith, e, l))) ∙ h.index d;
    }

pub no_prefixes : (bytes : List ℕ) (rs : List Record) (first start : ℕ) (round : List (Bor (List ℕ) × ℕ)) → ArePrefixes bytes rs first start start 0 round
no_prefixes bytes rs first start round = record {
  each = λ k d l. let z : ⊥ = omega (arith, l) in absurd z;
  whole = λ j p l m. let z : ⊥ = omega (arith, l, m) in absurd z;
}

one_put : (bytes : List ℕ) (rs : List Record) (first start end count : ℕ) (r : Record) (old new : List (Bor (List ℕ) × ℕ)) → start ≤ end → count < length old → r ≡ record_at (first + 2 * end) rs → PutsPrefix bytes r (first + 2 * end) count old new →
    ArePrefixes bytes rs first start end count old → ArePrefixes bytes rs first start (end + 1) (count + 1) new
one_put bytes rs first start end count r old new o w is put h = subst (ArePrefixes bytes rs first start (end + 1) (count + 1)) (sym put.put) record {
  each = λ k d l. ⊎_elim
      (λ m. subst (IsDeclaredName bytes rs first start (end + 1)) (sym (get_or-set_other old count k put.entry d (λ e. omega (arith, e, m)))) (wider bytes rs first start end (get_or old k d) (h.each k d m)))
      (λ m.
      let e : count ≡ k = omega (arith, m, l) in
      let there : get_or (set old count put.entry) k d ≡ put.entry = ap (λ i. get_or (set old count put.entry) i d) (sym e) ∙ get_or-set_same old count put.entry d w in
      subst (IsDeclaredName bytes rs first start (end + 1)) (sym there) record { number = end; low = o; high = omega arith; index = put.index; declares = subst (λ x. Declares bytes x put.entry.0.now) is put.declares }) (below_or k count);
  whole = λ j p l m d. ⊎_elim
      (λ n. among_more count old put.entry p (first + 2 * j) (h.whole j p l n d))
      (λ n.
      let e : end ≡ j = omega (arith, m, n) in
      let same : put.entry.0.now ≡ p = same_prefix bytes r put.entry.0.now p put.declares (subst (λ x. Declares bytes x p) (ap (λ i. record_at (first + 2 * i) rs) (sym e) ∙ sym is) d) in
      record {
        place = count;
        within = omega arith;
        name = λ z. ap (λ x. x.0.now) (get_or-set_same old count put.entry z w) ∙ same;
        index = λ z. ap (λ x. x.1) (get_or-set_same old count put.entry z w) ∙ put.index ∙ ap (λ i. first + 2 * i) e;
      }) (below_or j end);
}

one_skipped : (bytes : List ℕ) (rs : List Record) (first start end count : ℕ) (r : Record) (round : List (Bor (List ℕ) × ℕ)) → r ≡ record_at (first + 2 * end) rs → ((prefix : List ℕ) → Declares bytes r prefix → ⊥) →
    ArePrefixes bytes rs first start end count round → ArePrefixes bytes rs first start (end + 1) count round
one_skipped bytes rs first start end count r round is none h = record {
  each = λ k d l. wider bytes rs first start end (get_or round k d) (h.each k d l);
  whole = λ j p l m d. ⊎_elim
      (λ n. h.whole j p l n d)
      (λ n.
      let e : end ≡ j = omega (arith, m, n) in
      absurd (none p (subst (λ x. Declares bytes x p) (ap (λ i. record_at (first + 2 * i) rs) (sym e) ∙ sym is) d))) (below_or j end);
}

pub prefixes_more : (bytes : List ℕ) (rs : List Record) (first start end count after : ℕ) (r : Record) (old new : List (Bor (List ℕ) × ℕ)) → start ≤ end → count < length old → r ≡ record_at (first + 2 * end) rs →
    PutsOrSkips bytes r (first + 2 * end) count after old new → ArePrefixes bytes rs first start end count old → ArePrefixes bytes rs first start (end + 1) after new
prefixes_more bytes rs first start end count after r old new o w is h k = ⊎_elim
    (λ put. subst (λ n. ArePrefixes bytes rs first start (end + 1) n new) (sym put.0) (one_put bytes rs first start end count r old new o w is put.1 k))
    (λ skip. subst (λ n. ArePrefixes bytes rs first start (end + 1) n new) (sym skip.0) (subst (ArePrefixes bytes rs first start (end + 1) count) (sym skip.1) (one_skipped bytes rs first start end count r old is skip.2 k))) h

-- what a round holds, in any order
pub record PrefixRound (bytes : List ℕ) (rs : List Record) (first start end : ℕ) (round : List (Bor (List ℕ) × ℕ)) : Type 0 where
  pub each : (p : List ℕ) (n : ℕ) → IsNamed round p n → (j : ℕ) × (start ≤ j) × (j < end) × (n ≡ first + 2 * j) × Declares bytes (record_at (first + 2 * j) rs) p
  pub whole : (j : ℕ) (p : List ℕ) → start ≤ j → j < end → Declares bytes (record_at (first + 2 * j) rs) p → IsNamed round p (first + 2 * j)

named_there : (count : ℕ) (round : List (Bor (List ℕ) × ℕ)) (p : List ℕ) (n : ℕ) → count ≤ length round → IsAmong count round p n → IsNamed (take count round) p n
named_there count [] p n w h = let l : h.place < count = h.within in let z : ⊥ = omega (arith, w, l) in absurd z
named_there count (d ∷ es) p n w h =
    let l : h.place < count = h.within in
    let x = get_or (d ∷ es) h.place d in
    let inside : h.place < length (take count (d ∷ es)) = omega (arith, l, w, length-take count (d ∷ es)) in
    record {
      entry = x;
      there = (h.place, inside, get_or-take count (d ∷ es) h.place x l ∙ get_or_default (d ∷ es) h.place x d (omega (arith, l, w)));
      name_is = h.name d;
      number_is = h.index d;
    }

pub prefix_round : (bytes : List ℕ) (rs : List Record) (first start end count : ℕ) (round : List (Bor (List ℕ) × ℕ)) → count ≤ length round → ArePrefixes bytes rs first start end count round → PrefixRound bytes rs first start end (take count round)
prefix_round bytes rs first start end count round w h = record {
  each = λ p n named.
      let k = named.there.0 in
      let within : k < length (take count round) = named.there.1 in
      let l : k < count = omega (arith, within, length-take count round) in
      let same : get_or round k named.entry ≡ named.entry = sym (get_or-take count round k named.entry l) ∙ named.there.2 in
      let q = subst (IsDeclaredName bytes rs first start end) same (h.each k named.entry l) in
      (q.number, q.low, q.high, sym named.number_is ∙ q.index, subst (Declares bytes (record_at (first + 2 * q.number) rs)) named.name_is q.declares);
  whole = λ j p l m d. named_there count round p (first + 2 * j) w (h.whole j p l m d);
}

-- ---- a tag's names, of which some declare

some_encoded : (p : List ℕ) → (p ≡ [] → ⊥) → encode_utf8_all (declaring p) ≡ codes "xmlns:" ++ encode_utf8_all p
some_encoded p some = with_mark (encode_utf8_all p) p refl (λ z. some (empty_encoded p z))

sought_next : (bytes : List ℕ) (rs : List Record) (first n : ℕ) (t : Tag) (p : List ℕ) → (p ≡ [] → ⊥) → is_attribute_name (record_at (first + 2 * n) rs).token ≡ true → (Declares bytes (record_at (first + 2 * n) rs) (encode_utf8_all p) → ⊥) →
    Sought bytes rs first n t p → Sought bytes rs first (n + 1) t p
sought_next bytes rs first n t p some kind none s =
    let r = record_at (first + 2 * n) rs in
    let next = next_sought bytes rs first n t p (parts_of_record r) (slice_of bytes r) s refl kind refl in
    ⊎_elim
    (λ three. elim (cases_Bool (bytes_eq next.characters (declaring p))) [
      | inl e ↦ absurd (none record { token = three; name = next.written ∙ ap encode_utf8_all ((bytes_eq-Decides next.characters (declaring p)).0 e) ∙ some_encoded p some })
      | inr e ↦ next.miss e
    ])
    (λ other. next.other other) (equal_or r.token 3)

sought_hit : (bytes : List ℕ) (rs : List Record) (first n : ℕ) (t : Tag) (p : List ℕ) → (p ≡ [] → ⊥) → is_attribute_name (record_at (first + 2 * n) rs).token ≡ true → Declares bytes (record_at (first + 2 * n) rs) (encode_utf8_all p) →
    Sought bytes rs first n t p → IsDeclaredAt first t p (first + 2 * n)
sought_hit bytes rs first n t p some kind d s =
    let r = record_at (first + 2 * n) rs in
    let next = next_sought bytes rs first n t p (parts_of_record r) (slice_of bytes r) s refl kind refl in
    let same : encode_utf8_all next.characters ≡ encode_utf8_all (declaring p) = sym next.written ∙ d.name ∙ sym (some_encoded p some) in
    next.hit (sym (eq_encoded next.characters (declaring p)) ∙ (bytes_eq-Decides (encode_utf8_all next.characters) (encode_utf8_all (declaring p))).1 same)

sought_along : (bytes : List ℕ) (rs : List Record) (first n : ℕ) (t : Tag) (p : List ℕ) (d : ℕ) → (p ≡ [] → ⊥) → ((j : ℕ) → n ≤ j → j < n + d → is_attribute_name (record_at (first + 2 * j) rs).token ≡ true) →
    ((j : ℕ) → n ≤ j → j < n + d → Declares bytes (record_at (first + 2 * j) rs) (encode_utf8_all p) → ⊥) → Sought bytes rs first n t p → Sought bytes rs first (n + d) t p
sought_along bytes rs first n t p zero some kind none s = let e : n ≡ n + 0 = omega arith in subst (λ k. Sought bytes rs first k t p) e s
sought_along bytes rs first n t p (suc d) some kind none s =
    let w : n + d < n + suc d = omega arith in
    let l : n ≤ n + d = omega arith in
    let e : n + d + 1 ≡ n + suc d = omega arith in
    let before = sought_along bytes rs first n t p d some (λ j a b. kind j a (omega (arith, b))) (λ j a b. none j a (omega (arith, b))) s in
    subst (λ k. Sought bytes rs first k t p) e (sought_next bytes rs first (n + d) t p some (kind (n + d) l w) (none (n + d) l w) before)

-- what is found in a tag for a prefix, by its names up to a number: what was found before the tag stays
abbrev pub IsFoundTo : List ℕ → List Record → ℕ → ℕ → Tag → List ℕ → Option ℕ → Option ℕ → Type 0
IsFoundTo bytes rs first n t p old found = MatchOption old (MatchOption found (Sought bytes rs first n t p) (IsDeclaredAt first t p)) (λ m. found ≡ old)

pub found_more : (bytes : List ℕ) (rs : List Record) (first start end : ℕ) (t : Tag) (p : List ℕ) (round : List (Bor (List ℕ) × ℕ)) (old found new : Option ℕ) → (p ≡ [] → ⊥) → start ≤ end → PrefixRound bytes rs first start end round →
    ((j : ℕ) → start ≤ j → j < end → is_attribute_name (record_at (first + 2 * j) rs).token ≡ true) → KeepsOrFinds round (encode_utf8_all p) found new → IsFoundTo bytes rs first start t p old found → IsFoundTo bytes rs first end t p old new
found_more bytes rs first start end t p round (Some n) (Some m) new some o r kind k h = k ∙ h
found_more bytes rs first start end t p round (Some n) None new some o r kind k h = absurd cc
found_more bytes rs first start end t p round None (Some m) new some o r kind k h = subst (λ x. MatchOption x (Sought bytes rs first end t p) (IsDeclaredAt first t p)) (sym k) h
found_more bytes rs first start end t p round None None None some o r kind k h =
    let e : start + (end - start) ≡ end = omega (arith, o) in
    subst (λ i. Sought bytes rs first i t p) e
    (sought_along bytes rs first start t p (end - start) some (λ j a b. kind j a (omega (arith, b, o))) (λ j a b d. k (first + 2 * j) (r.whole j (encode_utf8_all p) a (omega (arith, b, o)) d)) h)
found_more bytes rs first start end t p round None None (Some m) some o r kind k h =
    let w = r.each (encode_utf8_all p) m k.there in
    let j = w.0 in
    let low : start ≤ j = w.1 in
    let high : j < end = w.2 in
    let e : start + (j - start) ≡ j = omega (arith, low) in
    let s : Sought bytes rs first j t p = subst (λ i. Sought bytes rs first i t p) e
    (sought_along bytes rs first start t p (j - start) some (λ i a b. kind i a (omega (arith, b, low, high))) (λ i a b d.
    let least : m ≤ first + 2 * i = k.least (first + 2 * i) (r.whole i (encode_utf8_all p) a (omega (arith, b, low, high)) d) in
    let is : m ≡ first + 2 * j = w.3 in
    omega (arith, least, is, b, low)) h) in
    subst (IsDeclaredAt first t p) (sym w.3) (sought_hit bytes rs first j t p some (kind j low high) w.4 s)

pub kinds_more : (rs : List Record) (first start end : ℕ) → is_attribute_name (record_at (first + 2 * end) rs).token ≡ true → ((n : ℕ) → start ≤ n → n < end → is_attribute_name (record_at (first + 2 * n) rs).token ≡ true) →
    (n : ℕ) → start ≤ n → n < end + 1 → is_attribute_name (record_at (first + 2 * n) rs).token ≡ true
kinds_more rs first start end is h n l m = ⊎_elim (h n l) (λ p. let e : end ≡ n = omega (arith, p, m) in subst (λ j. is_attribute_name (record_at (first + 2 * j) rs).token ≡ true) e is) (below_or n end)

-- ---- a round, and what is found for each name

least_permuted : (round sorted : List (Bor (List ℕ) × ℕ)) (p : List ℕ) (o : Option ℕ) → IsPermutation round sorted → IsLeastIn sorted p o → IsLeastIn round p o
least_permuted round sorted p None s h = λ n named. h n (named_permuted round sorted s p n named)
least_permuted round sorted p (Some m) s h = record { there = named_permuted sorted round (IsPermutation-sym round sorted s) p m h.there; least = λ n named. h.least n (named_permuted round sorted s p n named) }

keeps_permuted : (round sorted : List (Bor (List ℕ) × ℕ)) (p : List ℕ) (old new : Option ℕ) → IsPermutation round sorted → KeepsOrFinds sorted p old new → KeepsOrFinds round p old new
keeps_permuted round sorted p None new s h = least_permuted round sorted p new s h
keeps_permuted round sorted p (Some n) new s h = h

pub names_found : (bytes : List ℕ) (rs : List Record) (at number : ℕ) (round sorted : List (Bor (List ℕ) × ℕ)) (first old : List (Option ℕ)) (earlier result : Option ℕ) (r : Record) → IsPermutation round sorted → number < length old →
    r ≡ record_at (at + 2 * number) rs → earlier ≡ get_or old number None → ((p : List ℕ) → HasPrefix bytes r p → KeepsOrFinds sorted (encode_utf8_all p) earlier result) → ((k : ℕ) → number ≤ k → get_or old k None ≡ get_or first k None) →
    ((k : ℕ) (p : List ℕ) → k < number → HasPrefix bytes (record_at (at + 2 * k) rs) p → KeepsOrFinds round (encode_utf8_all p) (get_or first k None) (get_or old k None)) →
    (k : ℕ) (p : List ℕ) → k < number + 1 → HasPrefix bytes (record_at (at + 2 * k) rs) p → KeepsOrFinds round (encode_utf8_all p) (get_or first k None) (get_or (set old number result) k None)
names_found bytes rs at number round sorted first old earlier result r s w is same f left h k p l has = ⊎_elim
    (λ m. subst (KeepsOrFinds round (encode_utf8_all p) (get_or first k None)) (sym (get_or-set_other old number k result None (λ e. omega (arith, e, m)))) (h k p m has))
    (λ m.
    let e : number ≡ k = omega (arith, m, l) in
    let there : get_or (set old number result) k None ≡ result = ap (λ i. get_or (set old number result) i None) (sym e) ∙ get_or-set_same old number result None w in
    let before : earlier ≡ get_or first k None = same ∙ left number (omega arith) ∙ ap (λ i. get_or first i None) e in
    let here : HasPrefix bytes r p = subst (λ x. HasPrefix bytes x p) (ap (λ i. record_at (at + 2 * i) rs) (sym e) ∙ sym is) has in
    subst (KeepsOrFinds round (encode_utf8_all p) (get_or first k None)) (sym there)
    (subst (λ o. KeepsOrFinds round (encode_utf8_all p) o result) before (keeps_permuted round sorted (encode_utf8_all p) earlier result s (f p here)))) (below_or k number)

pub others_left : (number : ℕ) (first old : List (Option ℕ)) (result : Option ℕ) → ((k : ℕ) → number ≤ k → get_or old k None ≡ get_or first k None) → (k : ℕ) → number + 1 ≤ k → get_or (set old number result) k None ≡ get_or first k None
others_left number first old result left k l = get_or-set_other old number k result None (λ e. omega (arith, e, l)) ∙ left k (omega (arith, l))

-- what is found for a name was so before, or is an index in a round
abbrev pub IsThere : List (Bor (List ℕ) × ℕ) → Option ℕ → Option ℕ → Type 0
IsThere round old new = IfSome new (λ n. (old ≡ new) ⊎ ((prefix : List ℕ) × IsNamed round prefix n))

there_permuted : (round sorted : List (Bor (List ℕ) × ℕ)) (earlier old new : Option ℕ) → IsPermutation round sorted → earlier ≡ old → IsThere sorted earlier new → IsThere round old new
there_permuted round sorted earlier old None s e h = tt
there_permuted round sorted earlier old (Some n) s e h = ⊎_elim (λ k. inl (sym e ∙ k)) (λ k. inr (k.0, named_permuted sorted round (IsPermutation-sym round sorted s) k.0 n k.1)) h

pub names_there : (number : ℕ) (round sorted : List (Bor (List ℕ) × ℕ)) (first old : List (Option ℕ)) (earlier result : Option ℕ) → IsPermutation round sorted → number < length old → earlier ≡ get_or old number None → IsThere sorted earlier result →
    ((k : ℕ) → number ≤ k → get_or old k None ≡ get_or first k None) → ((m : ℕ) → IsThere round (get_or first m None) (get_or old m None)) → (m : ℕ) → IsThere round (get_or first m None) (get_or (set old number result) m None)
names_there number round sorted first old earlier result s w same f left h m = ⊎_elim
    (λ e.
    let there : get_or (set old number result) m None ≡ result = ap (λ i. get_or (set old number result) i None) e ∙ get_or-set_same old number result None w in
    let before : earlier ≡ get_or first m None = same ∙ left number (omega arith) ∙ ap (λ i. get_or first i None) (sym e) in
    subst (IsThere round (get_or first m None)) (sym there) (there_permuted round sorted earlier (get_or first m None) result s before f))
    (λ e. subst (IsThere round (get_or first m None)) (sym (get_or-set_other old number m result None e)) (h m)) (equal_or m number)

pub names_kept : (number : ℕ) (first old : List (Option ℕ)) (earlier result : Option ℕ) → number < length old → earlier ≡ get_or old number None → IfSome earlier (λ n. result ≡ earlier) →
    ((k : ℕ) → number ≤ k → get_or old k None ≡ get_or first k None) → KeepsFound first old → KeepsFound first (set old number result)
names_kept number first old earlier result w same f left h m = ⊎_elim
    (λ e.
    let there : get_or (set old number result) m None ≡ result = ap (λ i. get_or (set old number result) i None) e ∙ get_or-set_same old number result None w in
    let before : earlier ≡ get_or first m None = same ∙ left number (omega arith) ∙ ap (λ i. get_or first i None) (sym e) in
    subst (λ o. IfSome (get_or first m None) (λ n. o ≡ get_or first m None)) (sym there) (subst (λ o. IfSome o (λ n. result ≡ o)) before f))
    (λ e. subst (λ o. IfSome (get_or first m None) (λ n. o ≡ get_or first m None)) (sym (get_or-set_other old number m result None e)) (h m)) (equal_or m number)

pub all_kept : (found : List (Option ℕ)) → KeepsFound found found
all_kept found m = by (get_or found m None)
  where
    by : (o : Option ℕ) → IfSome o (λ n. o ≡ o)
    by None = tt
    by (Some n) = refl

pub kept_along : (a b c : List (Option ℕ)) → KeepsFound a b → KeepsFound b c → KeepsFound a c
kept_along a b c h k m = by (get_or a m None) (get_or b m None) (get_or c m None) (h m) (k m)
  where
    by : (x y z : Option ℕ) → IfSome x (λ n. y ≡ x) → IfSome y (λ n. z ≡ y) → IfSome x (λ n. z ≡ x)
    by None y z e f = tt
    by (Some n) None z e f = absurd cc
    by (Some n) (Some m) z e f = f ∙ e

pub known_more : (bytes : List ℕ) (rs : List Record) (first start end : ℕ) (round : List (Bor (List ℕ) × ℕ)) (old new : Option ℕ) → PrefixRound bytes rs first start end round → IsThere round old new → IfSome old (λ n. (record_at n rs).token ≡ 3) →
    IfSome new (λ n. (record_at n rs).token ≡ 3)
known_more bytes rs first start end round old None r h k = tt
known_more bytes rs first start end round old (Some n) r h k = ⊎_elim
    (λ e. subst (λ o. IfSome o (λ i. (record_at i rs).token ≡ 3)) e k)
    (λ w. let t = r.each w.0 n w.1 in subst (λ i. (record_at i rs).token ≡ 3) (sym t.3) t.4.token) h

pub found_nothing : (bytes : List ℕ) (rs : List Record) (first place : ℕ) (t : Tag) (p : List ℕ) (o : Option ℕ) → AreAttributeRecords bytes rs first place t.attributes → IsFoundTo bytes rs first 0 t p o o
found_nothing bytes rs first place t p None hold = none_sought bytes rs first place t p hold
found_nothing bytes rs first place t p (Some n) hold = refl

pub found_all : (bytes : List ℕ) (rs : List Record) (first n : ℕ) (t : Tag) (p : List ℕ) (old new : Option ℕ) → HasNoAttribute rs (first + 2 * n) → IsFoundTo bytes rs first n t p old new → KeepsOrDeclares first t p old new
found_all bytes rs first n t p (Some m) new none h = h
found_all bytes rs first n t p None (Some m) none h = h
found_all bytes rs first n t p None None none h = all_sought bytes rs first n t p h none

pub found_undeclared : (first : ℕ) (t : Tag) (p : List ℕ) (o : Option ℕ) → IsDeclarationIn first t p None → KeepsOrDeclares first t p o o
found_undeclared first t p None h = h
found_undeclared first t p (Some n) h = refl

-- ---- the open tags, from the innermost one out

-- a prefix's nearest declaration was found, or no tag down to a level declares the prefix
abbrev pub IsFoundOr : List Entry → List ℕ → List Holder → List ℕ → ℕ → Option ℕ → Type 0
IsFoundOr es open_tags hs p level o = MatchOption o (Left es open_tags hs p level) (IsNearestAt es hs p)

pub level_more : (bytes : List ℕ) (lists : Lists) (nest : Forest) → IsNestOf bytes lists nest → (open_tags : List ℕ) (hs : List Holder) (p : List ℕ) (level : ℕ) (old new : Option ℕ) → 0 < level →
    ((at : ℕ) (t : Tag) → AreAttributeRecords bytes (records nest (first_place bytes)) (get_or open_tags (level - 1) 0 + 1) at t.attributes → KeepsOrDeclares (get_or open_tags (level - 1) 0 + 1) t p old new) →
    IfSome old (λ n. new ≡ old) → IsFoundOr (nodes_of bytes nest) open_tags hs p level old → IsFoundOr (nodes_of bytes nest) open_tags hs p (level - 1) new
level_more bytes lists nest s open_tags hs p level (Some n) new l f k h = subst (IsFoundOr (nodes_of bytes nest) open_tags hs p (level - 1)) (sym k) h
level_more bytes lists nest s open_tags hs p level None new l f k h = by new f
  where
    by : (o : Option ℕ) → ((at : ℕ) (t : Tag) → AreAttributeRecords bytes (records nest (first_place bytes)) (get_or open_tags (level - 1) 0 + 1) at t.attributes → IsDeclarationIn (get_or open_tags (level - 1) 0 + 1) t p o) → IsFoundOr (nodes_of bytes nest) open_tags hs p (level - 1) o
    by o d =
        let one : level ≡ level - 1 + 1 = omega (arith, l) in
        let next = next_tag bytes (records nest (first_place bytes)) (nodes_of bytes nest) (document_holds bytes nest s.accepted.document) open_tags hs p (level - 1) (get_or open_tags (level - 1) 0 + 1) o (subst (Left (nodes_of bytes nest) open_tags hs p) one h) refl d in
        of_next o next.found next.missing
      where
        of_next : (x : Option ℕ) → ((n : ℕ) → x ≡ Some n → IsNearestAt (nodes_of bytes nest) hs p n) → (x ≡ None → Left (nodes_of bytes nest) open_tags hs p (level - 1)) → IsFoundOr (nodes_of bytes nest) open_tags hs p (level - 1) x
        of_next None a b = b refl
        of_next (Some n) a b = a n refl

pub levels_done : (es : List Entry) (open_tags : List ℕ) (hs : List Holder) (p : List ℕ) (level : ℕ) (o : Option ℕ) → level ≡ 0 → IsFoundOr es open_tags hs p level o → IsNearest es hs p o
levels_done es open_tags hs p level None z h = none_left es open_tags hs p level h z
levels_done es open_tags hs p level (Some n) z h = h

-- a name with a prefix
size_of_nothing : (p : List ℕ) → p ≡ [] → size p ≡ 0
unfolding size
size_of_nothing p e = ap size e

pub has_prefix : (bytes : List ℕ) (r : Record) (name : List ℕ) → IsNameRecord bytes r name → (r.token ≡ 3 → ⊥) → (r.prefix ≡ 0 → ⊥) → HasPrefix bytes r (prefix_of name)
has_prefix bytes r name h t z = record {
  undeclared = t;
  long = z;
  some = λ e. z (h.prefix ∙ size_of_nothing (prefix_of name) e);
  written = prefix_taken (slice_of bytes r) name r.prefix h.slice h.prefix;
}

-- a window of no names
pub no_window : (bytes : List ℕ) (lists : Lists) (open_tags : List ℕ) (depth first start end : ℕ) (found : List (Option ℕ)) → end ≡ 0 → ((k : ℕ) → get_or found k None ≡ None) → IsWindow bytes lists open_tags depth first start end found
no_window bytes lists open_tags depth first start end found z none = record {
  nearest = λ nest hs s j p low high has. let no : ⊥ = omega (arith, z, high) in absurd no;
  declarations = λ m. subst (λ o. IfSome o (IsDeclaration bytes lists)) (sym (none m)) tt;
  room = omega (arith, z);
}

-- ---- the first part of what is found

pub nothing_taken : (found : List (Option ℕ)) (n : ℕ) → ((k : ℕ) → get_or found k None ≡ None) → (k : ℕ) → get_or (take n found) k None ≡ None
nothing_taken found n h k = ⊎_elim
    (λ l. get_or-take n found k None l ∙ h k)
    (λ l. get_or_past (take n found) k None (omega (arith, l, length-take n found))) (below_or k n)

pub first_part : (P : Option ℕ → Type 0) (xs ys : List (Option ℕ)) (k : ℕ) → k < length xs → P (get_or xs k None) → P (get_or (xs ++ ys) k None)
first_part P xs ys k l h = subst P (sym (get_or_append_left xs ys None k l)) h

pub parts_declare : (bytes : List ℕ) (lists : Lists) (xs old : List (Option ℕ)) (n : ℕ) → AreDeclarations bytes lists xs → ((k : ℕ) → get_or old k None ≡ None) → AreDeclarations bytes lists (xs ++ drop n old)
parts_declare bytes lists xs old n h none = λ m. ⊎_elim
    (λ l. first_part (λ o. IfSome o (IsDeclaration bytes lists)) xs (drop n old) m l (h m))
    (λ l. subst (λ o. IfSome o (IsDeclaration bytes lists)) (sym (get_or-append_right xs (drop n old) (length xs) m None refl l ∙ get_or-drop n old (m - length xs) None ∙ none (n + (m - length xs)))) tt) (below_or m (length xs))
