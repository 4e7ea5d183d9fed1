-- What a map of bindings shows after a call, and what a look-up finds in it.
use Rattle.std.proofs.Common.{◌≡◌, ℕ, Bool, true, false, cond, not, ◌&&◌, ◌==◌, List, [], ◌∷◌, length, Some, refl, sym, ◌∙◌, ap, subst}
use Rattle.std.specs.Prelude.{string_bytes, String, encode_utf8_all}
use Rattle.std.specs.declared.cmp.Ordering.{Ordering}
use Rattle.std.specs.declared.cmp.Ordering.TheVariants.{Less, Equal, Greater}
use Rattle.std.specs.Ordering.{nat_cmp, is_eq, match_ordering}
use Rattle.std.specs.Cmp.Lexicographic.{slice_cmp}
use Rattle.std.specs.String.{string_cmp}
use Rattle.std.specs.BTreeMap.{insert_entry, is_at}
use Rattle.std.specs.Map as map
use Rattle.std.specs.List.{list_all}
use Rattle.std.specs.Str.{bytes_eq, chars, IsUtf8}
use Rattle.std.proofs.lemmas.Str.{encodes-chars, encodes_same, IsUtf8-string_bytes}
use Rattle.std.proofs.lemmas.Map.Text.{is_eq-slice_cmp}
use Rattle.xml_model.specs.Chars.{is_ncname}
use Rattle.xml_model.proofs.SameText.{same_bytes, bytes_same, same_text}
use Rattle.xpath_tokens.proofs.Runs.{and_parts}
use Rattle.xpath_grammar.specs.Bindings.{lookup, uri_in, can_bind, xml, xmlns, xml_uri, AreBound, prefix_order, bound_in}
use Rattle.xpath_grammar.specs.Held.{shown}

-- the order of prefixes is that of the strings which hold them
order_same : {Z : Type 0} (j k : String Z) → prefix_order (chars (string_bytes j)) (chars (string_bytes k)) ≡ string_cmp j k
order_same j k =
    ap (λ x. slice_cmp nat_cmp x (encode_utf8_all (chars (string_bytes k)))) (encodes-chars (string_bytes j) (IsUtf8-string_bytes j))
    ∙ ap (λ x. slice_cmp nat_cmp (string_bytes j) x) (encodes-chars (string_bytes k) (IsUtf8-string_bytes k))

pub shown_insert : {Z : Type 0} (es : List (String Z × List ℕ)) (k : String Z) (u : List ℕ)
    → shown (insert_entry string_cmp es k u) ≡ bound_in (shown es) (chars (string_bytes k)) u
shown_insert [] k u = refl
shown_insert (e ∷ es) k u =
    this (shown_insert es k u) (string_cmp k e.0)
    ∙ ap (λ o. match_ordering o ((chars (string_bytes k), u) ∷ shown (e ∷ es)) ((chars (string_bytes e.0), u) ∷ shown es)
    ((chars (string_bytes e.0), e.1) ∷ bound_in (shown es) (chars (string_bytes k)) u)) (sym (order_same k e.0))
  where
    this : shown (insert_entry string_cmp es k u) ≡ bound_in (shown es) (chars (string_bytes k)) u → (o : Ordering)
        → shown (match_ordering o ((k, u) ∷ e ∷ es) ((e.0, u) ∷ es) (e ∷ insert_entry string_cmp es k u))
        ≡ match_ordering o ((chars (string_bytes k), u) ∷ shown (e ∷ es)) ((chars (string_bytes e.0), u) ∷ shown es)
        ((chars (string_bytes e.0), e.1) ∷ bound_in (shown es) (chars (string_bytes k)) u)
    this i Less = refl
    this i Equal = refl
    this i Greater = ap (λ x. (chars (string_bytes e.0), e.1) ∷ x) i

-- a text that is sought among strings, and their code points
sought : {Z : Type 0} (bs : List ℕ) (k : String Z) → IsUtf8 bs → is_eq (slice_cmp nat_cmp bs (string_bytes k)) ≡ bytes_eq (chars bs) (chars (string_bytes k))
sought bs k u = is_eq-slice_cmp bs (string_bytes k) ∙ same_text bs (string_bytes k) u (IsUtf8-string_bytes k)

pub shown_lookup : {Z : Type 0} (es : List (String Z × List ℕ)) (bs : List ℕ) → IsUtf8 bs
    → map.lookup (is_at (λ k. slice_cmp nat_cmp bs (string_bytes k))) es ≡ lookup (shown es) (chars bs)
shown_lookup [] bs u = refl
shown_lookup (e ∷ es) bs u =
    ap (λ b. cond b (Some e.1) (map.lookup (is_at (λ k. slice_cmp nat_cmp bs (string_bytes k))) es)) (sought bs e.0 u)
    ∙ ap (cond (bytes_eq (chars bs) (chars (string_bytes e.0))) (Some e.1)) (shown_lookup es bs u)

-- prefixes that are equal in order are the same
order_equal : (p q : List ℕ) → prefix_order p q ≡ Equal → p ≡ q
order_equal p q h =
    encodes_same p q (same_bytes (encode_utf8_all p) (encode_utf8_all q) (sym (is_eq-slice_cmp (encode_utf8_all p) (encode_utf8_all q)) ∙ ap is_eq h))

order_after : (p q : List ℕ) → prefix_order p q ≡ Greater → p ≡ q → ⊥
order_after p q h e =
    let s : bytes_eq (encode_utf8_all p) (encode_utf8_all q) ≡ true =
    subst (λ z. bytes_eq (encode_utf8_all p) (encode_utf8_all z) ≡ true) e (bytes_same (encode_utf8_all p)) in
    let f : bytes_eq (encode_utf8_all p) (encode_utf8_all q) ≡ false = sym (is_eq-slice_cmp (encode_utf8_all p) (encode_utf8_all q)) ∙ ap is_eq h in
    cc

-- what a look-up finds after a prefix was bound
pub lookup_bound : (bs : List (List ℕ × List ℕ)) (p u q : List ℕ) → lookup (bound_in bs p u) q ≡ cond (bytes_eq q p) (Some u) (lookup bs q)
lookup_bound [] p u q = refl
lookup_bound (b ∷ bs) p u q = this (lookup_bound bs p u q) (prefix_order p b.0) refl
  where
    same : (x : Bool) (y z : List ℕ) → cond x (Some y) (lookup bs q) ≡ cond x (Some y) (cond x (Some z) (lookup bs q))
    same true y z = refl
    same false y z = refl

    other : (x y : Bool) → bytes_eq q b.0 ≡ x → bytes_eq q p ≡ y → (p ≡ b.0 → ⊥)
        → cond x (Some b.1) (cond y (Some u) (lookup bs q)) ≡ cond y (Some u) (cond x (Some b.1) (lookup bs q))
    other true true e f n = absurd (n (sym (same_bytes q p f) ∙ same_bytes q b.0 e))
    other true false e f n = refl
    other false y e f n = refl

    this : lookup (bound_in bs p u) q ≡ cond (bytes_eq q p) (Some u) (lookup bs q) → (o : Ordering) → prefix_order p b.0 ≡ o
        → lookup (match_ordering o ((p, u) ∷ b ∷ bs) ((b.0, u) ∷ bs) (b ∷ bound_in bs p u)) q
        ≡ cond (bytes_eq q p) (Some u) (cond (bytes_eq q b.0) (Some b.1) (lookup bs q))
    this i Less h = refl
    this i Equal h =
        let e = order_equal p b.0 h in
        same (bytes_eq q b.0) u b.1 ∙ ap (λ z. cond (bytes_eq q z) (Some u) (cond (bytes_eq q b.0) (Some b.1) (lookup bs q))) (sym e)
    this i Greater h =
        ap (cond (bytes_eq q b.0) (Some b.1)) i ∙ other (bytes_eq q b.0) (bytes_eq q p) refl refl (order_after p b.0 h)

not_xml : (p u : List ℕ) → can_bind p u ≡ true → bytes_eq xml p ≡ false
not_xml p u h = this (bytes_eq xml p) (is_ncname p) h
  where
    this : (x n : Bool) → (n && not x && not (bytes_eq xmlns p) && not (length u == 0)) ≡ true → x ≡ false
    this false n k = refl
    this true true k = absurd cc
    this true false k = absurd cc

pub uri_bound : (bs : List (List ℕ × List ℕ)) (p u q : List ℕ) → can_bind p u ≡ true → uri_in (bound_in bs p u) q ≡ cond (bytes_eq q p) (Some u) (uri_in bs q)
uri_bound bs p u q h = this (bytes_eq xml q) (bytes_eq q p) refl refl
  where
    this : (x y : Bool) → bytes_eq xml q ≡ x → bytes_eq q p ≡ y
        → cond x (Some xml_uri) (lookup (bound_in bs p u) q) ≡ cond y (Some u) (cond x (Some xml_uri) (lookup bs q))
    this true true e f =
        let n = not_xml p u h in
        let k : bytes_eq xml p ≡ true = subst (λ z. bytes_eq xml z ≡ true) (same_bytes q p f) e in
        absurd cc
    this true false e f = refl
    this false y e f = lookup_bound bs p u q ∙ ap (λ z. cond z (Some u) (lookup bs q)) f

-- each prefix may still be bound to its URI
pub bound_still : (bs : List (List ℕ × List ℕ)) (p u : List ℕ) → AreBound bs → can_bind p u ≡ true → AreBound (bound_in bs p u)
bound_still [] p u h k = rw k refl
bound_still (b ∷ bs) p u h k =
    let s = and_parts (can_bind b.0 b.1) (list_all (λ c. can_bind c.0 c.1) bs) h in
    this s.0 (bound_still bs p u s.1 k) s.1 (prefix_order p b.0) refl
  where
    this : can_bind b.0 b.1 ≡ true → AreBound (bound_in bs p u) → AreBound bs → (o : Ordering) → prefix_order p b.0 ≡ o
        → AreBound (match_ordering o ((p, u) ∷ b ∷ bs) ((b.0, u) ∷ bs) (b ∷ bound_in bs p u))
    this one i others Less e = rw k h
    this one i others Equal e = let g : can_bind b.0 u ≡ true = subst (λ z. can_bind z u ≡ true) (order_equal p b.0 e) k in rw g others
    this one i others Greater e = rw one i

-- no URI is empty
xml_there : xml_uri ≡ [] → ⊥
unfolding chars
xml_there h = cc

some_there : (x n a : Bool) (u : List ℕ) → (n && not x && not a && not (length u == 0)) ≡ true → u ≡ [] → ⊥
some_there x n a u h e =
    let z : (length u == 0) ≡ true = rw e refl in
    let k : not (length u == 0) ≡ true = (and_parts (n && not x && not a) (not (length u == 0)) h).1 in
    cc

lookup_there : (bs : List (List ℕ × List ℕ)) (p u : List ℕ) → AreBound bs → lookup bs p ≡ Some u → u ≡ [] → ⊥
lookup_there [] p u h k e = cc
lookup_there (b ∷ bs) p u h k e =
    let s = and_parts (can_bind b.0 b.1) (list_all (λ c. can_bind c.0 c.1) bs) h in
    this (λ j. lookup_there bs p u s.1 j e) s.0 (bytes_eq p b.0) k
  where
    this : (lookup bs p ≡ Some u → ⊥) → can_bind b.0 b.1 ≡ true → (x : Bool) → cond x (Some b.1) (lookup bs p) ≡ Some u → ⊥
    this i can true j =
        let same : b.1 ≡ u = cc in
        some_there (bytes_eq xml b.0) (is_ncname b.0) (bytes_eq xmlns b.0) b.1 can (same ∙ e)
    this i can false j = i j

pub uri_there : (bs : List (List ℕ × List ℕ)) (p u : List ℕ) → AreBound bs → uri_in bs p ≡ Some u → u ≡ [] → ⊥
uri_there bs p u h k e = this (bytes_eq xml p) k
  where
    this : (x : Bool) → cond x (Some xml_uri) (lookup bs p) ≡ Some u → ⊥
    this true j = let same : xml_uri ≡ u = cc in xml_there (same ∙ e)
    this false j = lookup_there bs p u h j e
