-- The names of a tag one after another: which repeats an earlier one.
use Rattle.std.proofs.Common.{◌≡◌, ℕ, zero, suc, ◌+◌, ◌*◌, ◌<◌, Bool, true, false, cond, List, [], ◌∷◌, ◌++◌, map, refl, ap, ap₂, sym, ◌∙◌, subst, arith, Some, None, bytes_eq, ⊎_elim, ◌-◌, not}
use Rattle.std.specs.Prelude.{encode_utf8_all, ◌||◌}
use Rattle.std.specs.List.{list_any}
use Rattle.std.proofs.lemmas.Bool.{false≢true, false_from_ne_true}
use Rattle.std.proofs.lemmas.Str.{encodes_same}
use Rattle.std.proofs.lemmas.Slice.Eq.{bytes_eq-Decides}
use Rattle.xml_model.specs.Chars.{size}
use Rattle.xml_model.specs.Items.{Attribute, written_attribute}
use Rattle.xml_model.specs.Records.{Record, declares}
use Rattle.xml_model.specs.Scan.{record_at}
use Rattle.xml_model.specs.Accepted.{repeated, name_place}
use Rattle.vtd_words.specs.declared.packing.Parts.{Parts}
use Rattle.vtd_words.specs.Packed.{record_of}
use Rattle.vtd_text.specs.Joined.{slice_of}
use Rattle.vtd_text.specs.NameRecords.{is_attribute_name}
use Rattle.vtd_namespaces.specs.NameRecords.{IsAttributeRecord, AreAttributeRecords}
use Rattle.vtd_namespaces.specs.Repeats.{names_before, HasNoAttribute}
use Rattle.vtd_namespaces.specs.Faults.{first_of}

-- texts are equal where their bytes are
pub eq_encoded : (x y : List ℕ) → bytes_eq (encode_utf8_all x) (encode_utf8_all y) ≡ bytes_eq x y
eq_encoded x y = by (bytes_eq x y) refl
  where
    by : (b : Bool) → bytes_eq x y ≡ b → bytes_eq (encode_utf8_all x) (encode_utf8_all y) ≡ b
    by true e = (bytes_eq-Decides (encode_utf8_all x) (encode_utf8_all y)).1 (ap encode_utf8_all ((bytes_eq-Decides x y).0 e))
    by false e =
        false_from_ne_true _ (λ t. false≢true (sym e ∙ (bytes_eq-Decides x y).1 (encodes_same x y ((bytes_eq-Decides (encode_utf8_all x) (encode_utf8_all y)).0 t))))

any_encoded : (x : List ℕ) (seen : List (List ℕ)) → list_any (bytes_eq (encode_utf8_all x)) (map encode_utf8_all seen) ≡ list_any (bytes_eq x) seen
any_encoded x [] = refl
any_encoded x (y ∷ seen) = ap₂ (λ a b. a || b) (eq_encoded x y) (any_encoded x seen)

-- a name of either type is an attribute's
pub name_is_attribute : (b : Bool) → is_attribute_name (cond b 3 2) ≡ true
name_is_attribute true = refl
name_is_attribute false = refl

pub record_is_attribute : (bytes : List ℕ) (rs : List Record) (n at : ℕ) (a : Attribute) → IsAttributeRecord bytes rs n at a → is_attribute_name (record_at n rs).token ≡ true
record_is_attribute bytes rs n at a r = ap is_attribute_name r.token ∙ name_is_attribute (declares a.name)

pub no_attribute_there : (bytes : List ℕ) (rs : List Record) (n at : ℕ) (a : Attribute) → IsAttributeRecord bytes rs n at a → HasNoAttribute rs n → ⊥
no_attribute_there bytes rs n at a r h = ⊎_elim (λ e. false≢true (sym e ∙ record_is_attribute bytes rs n at a r)) (λ l. omega (arith, r.room, l)) h

pub index_more : (first n : ℕ) → first + 2 * n + 2 ≡ first + 2 * (n + 1)
index_more first n = omega arith

-- so many names are passed, and none repeats an earlier one
pub record Passed (bytes : List ℕ) (rs : List Record) (first n at : ℕ) (others : List Attribute) : Type 0 where
  pub place : ℕ
  pub seen : List (List ℕ)
  pub left : List Attribute
  pub hold : AreAttributeRecords bytes rs (first + 2 * n) place left
  pub names : names_before bytes rs first n ≡ map encode_utf8_all seen
  pub same : first_of (repeated at [] others) ≡ first_of (repeated place seen left)

pub none_passed : (bytes : List ℕ) (rs : List Record) (first at : ℕ) (others : List Attribute) → AreAttributeRecords bytes rs first at others → Passed bytes rs first 0 at others
none_passed bytes rs first at others s =
    let e : first ≡ first + 2 * 0 = omega arith in
    record { place = at; seen = []; left = others; hold = subst (λ k. AreAttributeRecords bytes rs k at others) e s; names = refl; same = refl }

pub all_passed : (bytes : List ℕ) (rs : List Record) (first n at : ℕ) (others : List Attribute) → Passed bytes rs first n at others → HasNoAttribute rs (first + 2 * n) → None ≡ first_of (repeated at [] others)
all_passed bytes rs first n at others p h = by p.left p.hold p.same
  where
    by : (left : List Attribute) → AreAttributeRecords bytes rs (first + 2 * n) p.place left → first_of (repeated at [] others) ≡ first_of (repeated p.place p.seen left) → None ≡ first_of (repeated at [] others)
    by [] s e = sym e
    by (a ∷ left) s e = absurd (no_attribute_there bytes rs (first + 2 * n) (name_place p.place a) a s.0 h)

-- the next name, by whether one before it has its bytes
pub record Next (bytes : List ℕ) (rs : List Record) (first n at : ℕ) (others : List Attribute) (p : Parts) (name : List ℕ) : Type 0 where
  pub hit : list_any (bytes_eq name) (names_before bytes rs first n) ≡ true → Some p.offset ≡ first_of (repeated at [] others)
  pub miss : list_any (bytes_eq name) (names_before bytes rs first n) ≡ false → Passed bytes rs first (n + 1) at others

pub next_name : (bytes : List ℕ) (rs : List Record) (first n at : ℕ) (others : List Attribute) (p : Parts) (name : List ℕ) → Passed bytes rs first n at others → record_of p ≡ record_at (first + 2 * n) rs → is_attribute_name p.token ≡ true →
    name ≡ slice_of bytes (record_of p) → Next bytes rs first n at others p name
next_name bytes rs first n at others p name d here kind is = by d.left d.hold d.same
  where
    by : (left : List Attribute) → AreAttributeRecords bytes rs (first + 2 * n) d.place left → first_of (repeated at [] others) ≡ first_of (repeated d.place d.seen left) → Next bytes rs first n at others p name
    by [] s e = absurd (false≢true (sym s ∙ ap (λ r. is_attribute_name r.token) (sym here) ∙ kind))
    by (a ∷ left) s e =
        let slice : name ≡ encode_utf8_all a.name = is ∙ ap (slice_of bytes) here ∙ s.0.name.slice in
        let place : p.offset ≡ name_place d.place a = ap (λ r. r.offset) here ∙ s.0.offset in
        let among : list_any (bytes_eq name) (names_before bytes rs first n) ≡ list_any (bytes_eq a.name) d.seen =
        ap₂ (λ x y. list_any (bytes_eq x) y) slice d.names ∙ any_encoded a.name d.seen in
        let more = repeated (d.place + size (written_attribute a)) (a.name ∷ d.seen) left in
        record {
          hit = λ h. ap (λ x. Some x) place ∙ sym (e ∙ ap (λ b. first_of (cond b (name_place d.place a ∷ []) [] ++ more)) (sym among ∙ h));
          miss = λ h. record {
            place = d.place + size (written_attribute a);
            seen = a.name ∷ d.seen;
            left = left;
            hold = subst (λ k. AreAttributeRecords bytes rs k (d.place + size (written_attribute a)) left) (index_more first n) s.1;
            names = named (ap₂ (λ x y. x ∷ y) (s.0.name.slice) d.names);
            same = e ∙ ap (λ b. first_of (cond b (name_place d.place a ∷ []) [] ++ more)) (sym among ∙ h);
          };
        }
      where
        named : ◌≡◌ {A = List (List ℕ)} (slice_of bytes (record_at (first + 2 * n) rs) ∷ names_before bytes rs first n) (encode_utf8_all a.name ∷ map encode_utf8_all d.seen) →
            names_before bytes rs first (n + 1) ≡ map encode_utf8_all (a.name ∷ d.seen)
        named h = let k : n + 1 ≡ suc n = omega arith in ap (names_before bytes rs first) k ∙ h

pub pass_name : (bytes : List ℕ) (rs : List Record) (first n at : ℕ) (others : List Attribute) → Passed bytes rs first n at others → is_attribute_name (record_at (first + 2 * n) rs).token ≡ true →
    list_any (bytes_eq (slice_of bytes (record_at (first + 2 * n) rs))) (names_before bytes rs first n) ≡ false → Passed bytes rs first (n + 1) at others
pass_name bytes rs first n at others d kind none =
    let r = record_at (first + 2 * n) rs in
    let p : Parts = record { token = r.token; depth = r.depth; prefix = r.prefix; length = r.len; offset = r.offset } in
    (next_name bytes rs first n at others p (slice_of bytes r) d refl kind refl).miss none

-- one of the first names has these bytes
any_more : (bytes : List ℕ) (rs : List Record) (first : ℕ) (x : List ℕ) (m n : ℕ) → list_any (bytes_eq x) (names_before bytes rs first m) ≡ true → list_any (bytes_eq x) (names_before bytes rs first (m + n)) ≡ true
any_more bytes rs first x m zero h = let e : m + 0 ≡ m = omega arith in ap (λ k. list_any (bytes_eq x) (names_before bytes rs first k)) e ∙ h
any_more bytes rs first x m (suc n) h =
    let e : m + suc n ≡ suc (m + n) = omega arith in
    ap (λ k. list_any (bytes_eq x) (names_before bytes rs first k)) e ∙ either (bytes_eq x (slice_of bytes (record_at (first + 2 * (m + n)) rs))) _ (any_more bytes rs first x m n h)
  where
    either : (a b : Bool) → b ≡ true → (a || b) ≡ true
    either true b e = refl
    either false b e = e

or_first : (a b : Bool) → a ≡ true → (a || b) ≡ true
or_first a b h = ap (λ x. x || b) h

pub any_here : (bytes : List ℕ) (rs : List Record) (first : ℕ) (x y : List ℕ) (m n : ℕ) → m < n → y ≡ slice_of bytes (record_at (first + 2 * m) rs) → bytes_eq y x ≡ true →
    true ≡ list_any (bytes_eq x) (names_before bytes rs first n)
any_here bytes rs first x y m n l e h =
    let same : bytes_eq x (slice_of bytes (record_at (first + 2 * m) rs)) ≡ true = (bytes_eq-Decides x (slice_of bytes (record_at (first + 2 * m) rs))).1 (sym ((bytes_eq-Decides y x).0 h) ∙ e) in
    let k : suc m + (n - suc m) ≡ n = omega arith in
    sym (ap (λ j. list_any (bytes_eq x) (names_before bytes rs first j)) (sym k) ∙ any_more bytes rs first x (suc m) (n - suc m) (or_first _ _ same))

pub not_not : (r t : Bool) → r ≡ not t → (r ≡ true) → t ≡ false
not_not r true e h = absurd (false≢true (sym e ∙ h))
not_not r false e h = refl
