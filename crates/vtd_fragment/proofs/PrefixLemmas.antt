-- Names that declare a prefix, and what is noted of the declarations of a tag.
use Rattle.std.proofs.Common.{◌≡◌, ℕ, ◌+◌, ◌*◌, ◌<◌, ◌≤◌, Bool, true, false, cond, List, [], ◌∷◌, ◌++◌, length, take, drop, refl, ap, ap₂, sym, ◌∙◌, subst, arith, append_assoc, append-nil, codes, bytes_eq, ◌&&◌, ◌||◌, Option, Some, None}
use Rattle.std.specs.Prelude.{encode_utf8_all, find, is_some, option_map, max}
use Rattle.std.specs.List.{list_any}
use Rattle.std.specs.BTreeMap.{BTreeMap}
use Rattle.std.proofs.lemmas.Bool.{false≢true}
use Rattle.std.proofs.lemmas.List.Folds.{list_any-append}
use Rattle.std.proofs.lemmas.Slice.Eq.{bytes_eq-Decides}
use denote.Ref.{Bor}
use Rattle.xml_model.specs.Chars.{size}
use Rattle.xml_model.specs.Items.{Attribute, Tag, written_attribute}
use Rattle.xml_model.specs.Records.{Record, declares}
use Rattle.xml_model.specs.Scan.{record_at}
use Rattle.xml_model.specs.Names.{declaring}
use Rattle.vtd_words.specs.declared.packing.Parts.{Parts}
use Rattle.vtd_words.specs.Packed.{record_of}
use Rattle.vtd_text.specs.Joined.{slice_of}
use Rattle.vtd_text.specs.NameRecords.{is_attribute_name}
use Rattle.vtd_namespaces.specs.NameRecords.{AreAttributeRecords}
use Rattle.vtd_namespaces.specs.Repeats.{HasNoAttribute}
use Rattle.vtd_namespaces.proofs.DeclarationLemmas.{default_encoded, declares_prefix, other_length, empty_encoded, no_declaration, token_two}
use Rattle.vtd_namespaces.proofs.RepeatLemmas.{eq_encoded, no_attribute_there, index_more}
use Rattle.xml_fragments.specs.Cut.{has_declaration}
use Rattle.vtd_fragment.specs.Prefixes.{known, raised}
use Rattle.vtd_fragment.specs.declared.prefixes.Declared.{Declared}

-- ---- the prefix that a name declares

encoded_some : (c : ℕ) (p : List ℕ) → length (encode_utf8_all (c ∷ p)) ≡ 0 → ⊥
encoded_some c p e = let z : ◌≡◌ {A = List ℕ} (c ∷ p) [] = empty_encoded (c ∷ p) e in cc

default_same : (name cs : List ℕ) → name ≡ encode_utf8_all cs → bytes_eq name (codes "xmlns") ≡ bytes_eq cs (codes "xmlns")
default_same name cs e = ap₂ bytes_eq e (sym default_encoded) ∙ eq_encoded cs (codes "xmlns")

pub declares_none : (name cs : List ℕ) → name ≡ encode_utf8_all cs → bytes_eq name (codes "xmlns") ≡ true → (p : List ℕ) → bytes_eq [] (encode_utf8_all p) ≡ bytes_eq cs (declaring p)
declares_none name cs e h p = eq_encoded [] p ∙ by p ∙ ap (λ (q : List ℕ). bytes_eq q (declaring p)) (sym ((bytes_eq-Decides cs (codes "xmlns")).0 (sym (default_same name cs e) ∙ h)))
  where
    by : (p : List ℕ) → bytes_eq [] p ≡ bytes_eq (codes "xmlns") (declaring p)
    by [] = refl
    by (c ∷ p) = refl

pub declares_short : (name cs : List ℕ) → name ≡ encode_utf8_all cs → bytes_eq name (codes "xmlns") ≡ false → length name ≤ 6 → (p : List ℕ) → bytes_eq cs (declaring p) ≡ false
declares_short name cs e h l [] = sym (default_same name cs e) ∙ h
declares_short name cs e h l (c ∷ p) =
    let some = encoded_some c p in
    sym (other_length name (encode_utf8_all (c ∷ p)) cs (c ∷ p) e refl some (λ m. some (omega (arith, m, l))))

pub declares_other : (name cs mark : List ℕ) → name ≡ encode_utf8_all cs → bytes_eq name (codes "xmlns") ≡ false → 6 < length name → mark ≡ take 6 name → bytes_eq mark (codes "xmlns:") ≡ false → (p : List ℕ) → bytes_eq cs (declaring p) ≡ false
declares_other name cs mark e h l m k [] = sym (default_same name cs e) ∙ h
declares_other name cs mark e h l m k (c ∷ p) =
    sym (declares_prefix name (encode_utf8_all (c ∷ p)) cs (c ∷ p) e refl (encoded_some c p) (omega (arith, l)))
    ∙ ap (λ (b : Bool). b && bytes_eq (drop 6 name) (encode_utf8_all (c ∷ p))) (ap (λ (x : List ℕ). bytes_eq x (codes "xmlns:")) (sym m) ∙ k)

pub declares_own : (name cs mark rest : List ℕ) → name ≡ encode_utf8_all cs → bytes_eq name (codes "xmlns") ≡ false → 6 < length name → mark ≡ take 6 name → rest ≡ drop 6 name → 0 < length rest → bytes_eq mark (codes "xmlns:") ≡ true → (p : List ℕ) →
    bytes_eq rest (encode_utf8_all p) ≡ bytes_eq cs (declaring p)
declares_own name cs mark [] e h l m r some k p = absurd (omega (arith, some))
declares_own name cs mark (x ∷ rest) e h l m r some k [] = sym h ∙ default_same name cs e
declares_own name cs mark (x ∷ rest) e h l m r some k (c ∷ p) =
    ap (λ (y : List ℕ). bytes_eq y (encode_utf8_all (c ∷ p))) r
    ∙ sym (ap (λ (b : Bool). b && bytes_eq (drop 6 name) (encode_utf8_all (c ∷ p))) (ap (λ (y : List ℕ). bytes_eq y (codes "xmlns:")) (sym m) ∙ k))
    ∙ declares_prefix name (encode_utf8_all (c ∷ p)) cs (c ∷ p) e refl (encoded_some c p) (omega (arith, l))

-- ---- what is noted of a name

abbrev pub Map : Type 0
Map = BTreeMap (Bor (List ℕ)) Declared

-- a change of what is known of the prefix that a name declares
abbrev pub ChangesName : (Option Declared → Option Declared) → Map → Map → List ℕ → Type 0
ChangesName f old new cs = (p : List ℕ) → known new (encode_utf8_all p) ≡ cond (bytes_eq cs (declaring p)) (f (known old (encode_utf8_all p))) (known old (encode_utf8_all p))

-- ---- and of those of a tag

abbrev named : List ℕ → Attribute → Bool
named p a = bytes_eq a.name (declaring p)

declared_any : (p : List ℕ) (xs : List Attribute) → is_some (find (named p) xs) ≡ list_any (named p) xs
declared_any p [] = refl
declared_any p (x ∷ xs) = by (named p x) (declared_any p xs)
  where
    by : (b : Bool) → is_some (find (named p) xs) ≡ list_any (named p) xs → is_some (cond b (Some x) (find (named p) xs)) ≡ (b || list_any (named p) xs)
    by true h = refl
    by false h = h

-- so many names are passed
pub record Along (f : Option Declared → Option Declared) (old new : Map) (bytes : List ℕ) (rs : List Record) (first n : ℕ) (t : Tag) : Type 0 where
  pub before : List Attribute
  pub left : List Attribute
  pub split : t.attributes ≡ before ++ left
  pub place : ℕ
  pub hold : AreAttributeRecords bytes rs (first + 2 * n) place left
  pub is : (p : List ℕ) → known new (encode_utf8_all p) ≡ cond (list_any (named p) before) (f (known old (encode_utf8_all p))) (known old (encode_utf8_all p))

pub none_along : (f : Option Declared → Option Declared) (old : Map) (bytes : List ℕ) (rs : List Record) (first at : ℕ) (t : Tag) → AreAttributeRecords bytes rs first at t.attributes → Along f old old bytes rs first 0 t
none_along f old bytes rs first at t s =
    let zero : first ≡ first + 2 * 0 = omega arith in
    record { before = []; left = t.attributes; split = refl; place = at; hold = subst (λ k. AreAttributeRecords bytes rs k at t.attributes) zero s; is = λ p. refl }

twice : (f : Option Declared → Option Declared) → ((o : Option Declared) → f (f o) ≡ f o) → (b c : Bool) (o : Option Declared) → cond c (f (cond b (f o) o)) (cond b (f o) o) ≡ cond (b || (c || false)) (f o) o
twice f i true true o = i o
twice f i true false o = refl
twice f i false true o = refl
twice f i false false o = refl

pub next_along : (f : Option Declared → Option Declared) → ((o : Option Declared) → f (f o) ≡ f o) → (old now new : Map) (bytes : List ℕ) (rs : List Record) (first n : ℕ) (t : Tag) (p : Parts) (name : List ℕ) → Along f old now bytes rs first n t →
    record_of p ≡ record_at (first + 2 * n) rs → is_attribute_name p.token ≡ true → name ≡ slice_of bytes (record_of p) → ((cs : List ℕ) → name ≡ encode_utf8_all cs → ChangesName f now new cs) → Along f old new bytes rs first (n + 1) t
next_along f i old now new bytes rs first n t p name s here kind slice more = by s.left s.split s.hold
  where
    by : (left : List Attribute) → t.attributes ≡ s.before ++ left → AreAttributeRecords bytes rs (first + 2 * n) s.place left → Along f old new bytes rs first (n + 1) t
    by [] e h = absurd (false≢true (sym h ∙ ap (λ r. is_attribute_name r.token) (sym here) ∙ kind))
    by (a ∷ left) e h =
        let change = more a.name (slice ∙ ap (slice_of bytes) here ∙ h.0.name.slice) in
        record {
          before = s.before ++ a ∷ [];
          left = left;
          split = e ∙ sym (append_assoc s.before (a ∷ []) left);
          place = s.place + size (written_attribute a);
          hold = subst (λ k. AreAttributeRecords bytes rs k (s.place + size (written_attribute a)) left) (index_more first n) h.1;
          is = λ q.
              let o = known old (encode_utf8_all q) in
              change q ∙ ap (λ (x : Option Declared). cond (bytes_eq a.name (declaring q)) (f x) x) (s.is q)
              ∙ twice f i (list_any (named q) s.before) (named q a) o ∙ ap (λ (b : Bool). cond b (f o) o) (sym (list_any-append (named q) s.before (a ∷ [])));
        }

pub all_along : (f : Option Declared → Option Declared) (old new : Map) (bytes : List ℕ) (rs : List Record) (first n : ℕ) (t : Tag) → Along f old new bytes rs first n t → HasNoAttribute rs (first + 2 * n) → (p : List ℕ) →
    known new (encode_utf8_all p) ≡ cond (has_declaration p t) (f (known old (encode_utf8_all p))) (known old (encode_utf8_all p))
all_along f old new bytes rs first n t s none p = by s.left s.split s.hold
  where
    by : (left : List Attribute) → t.attributes ≡ s.before ++ left → AreAttributeRecords bytes rs (first + 2 * n) s.place left →
        known new (encode_utf8_all p) ≡ cond (has_declaration p t) (f (known old (encode_utf8_all p))) (known old (encode_utf8_all p))
    by [] e h =
        let all : list_any (named p) s.before ≡ has_declaration p t = ap (list_any (named p)) (sym (append-nil s.before) ∙ sym e) ∙ sym (declared_any p t.attributes) in
        s.is p ∙ ap (λ (b : Bool). cond b (f (known old (encode_utf8_all p))) (known old (encode_utf8_all p))) all
    by (a ∷ left) e h = absurd (no_attribute_there bytes rs (first + 2 * n) _ a h.0 none)

max_twice : (h n : ℕ) → max (max h n) n ≡ max h n
max_twice h n = omega arith

pub raised_twice : (past : ℕ) (o : Option Declared) → option_map (raised past) (option_map (raised past) o) ≡ option_map (raised past) o
raised_twice past None = refl
raised_twice past (Some d) = ap (λ (h : ℕ). Some (record { level = d.level; hidden = h; is_used = d.is_used })) (max_twice d.hidden past)

-- ---- a tag without declarations

-- so many names are passed, and none declares a prefix
pub record Plain (bytes : List ℕ) (rs : List Record) (first n : ℕ) (t : Tag) : Type 0 where
  pub before : List Attribute
  pub left : List Attribute
  pub split : t.attributes ≡ before ++ left
  pub place : ℕ
  pub hold : AreAttributeRecords bytes rs (first + 2 * n) place left
  pub none : (p : List ℕ) → list_any (named p) before ≡ false

pub none_plain : (bytes : List ℕ) (rs : List Record) (first at : ℕ) (t : Tag) → AreAttributeRecords bytes rs first at t.attributes → Plain bytes rs first 0 t
none_plain bytes rs first at t s =
    let zero : first ≡ first + 2 * 0 = omega arith in
    record { before = []; left = t.attributes; split = refl; place = at; hold = subst (λ k. AreAttributeRecords bytes rs k at t.attributes) zero s; none = λ p. refl }

pub next_plain : (bytes : List ℕ) (rs : List Record) (first n : ℕ) (t : Tag) (p : Parts) → Plain bytes rs first n t → record_of p ≡ record_at (first + 2 * n) rs → is_attribute_name p.token ≡ true → (p.token ≡ 3 → ⊥) → Plain bytes rs first (n + 1) t
next_plain bytes rs first n t p s here kind other = by s.left s.split s.hold
  where
    by : (left : List Attribute) → t.attributes ≡ s.before ++ left → AreAttributeRecords bytes rs (first + 2 * n) s.place left → Plain bytes rs first (n + 1) t
    by [] e h = absurd (false≢true (sym h ∙ ap (λ r. is_attribute_name r.token) (sym here) ∙ kind))
    by (a ∷ left) e h =
        let silent = token_two (declares a.name) (λ z. other (ap (λ r. r.token) here ∙ h.0.token ∙ z)) in
        record {
          before = s.before ++ a ∷ [];
          left = left;
          split = e ∙ sym (append_assoc s.before (a ∷ []) left);
          place = s.place + size (written_attribute a);
          hold = subst (λ k. AreAttributeRecords bytes rs k (s.place + size (written_attribute a)) left) (index_more first n) h.1;
          none = λ q. list_any-append (named q) s.before (a ∷ []) ∙ ap₂ (λ (b c : Bool). b || (c || false)) (s.none q) (no_declaration a.name q silent);
        }

pub all_plain : (bytes : List ℕ) (rs : List Record) (first n : ℕ) (t : Tag) → Plain bytes rs first n t → HasNoAttribute rs (first + 2 * n) → (p : List ℕ) → has_declaration p t ≡ false
all_plain bytes rs first n t s none p = by s.left s.split s.hold
  where
    by : (left : List Attribute) → t.attributes ≡ s.before ++ left → AreAttributeRecords bytes rs (first + 2 * n) s.place left → has_declaration p t ≡ false
    by [] e h = declared_any p t.attributes ∙ ap (list_any (named p)) (e ∙ append-nil s.before) ∙ s.none p
    by (a ∷ left) e h = absurd (no_attribute_there bytes rs (first + 2 * n) _ a h.0 none)
