-- The declarations in a tag, one after another, and in the tags that hold something.
use Rattle.std.proofs.Common.{◌≡◌, ℕ, suc, ◌+◌, ◌*◌, ◌<◌, ◌≤◌, Bool, true, false, cond, ◌&&◌, List, [], ◌∷◌, ◌++◌, length, take, drop, refl, ap, ap₂, sym, ◌∙◌, subst, arith, Option, Some, None, bytes_eq, find, codes, length-append, ◌-◌, ◌^◌, is_some}
use Rattle.std.specs.Prelude.{encode_utf8_all, slice_get, ◌==◌}
use Rattle.std.specs.List.{AllByRecursion as Each, slice_index_or}
use Rattle.xml_model.proofs.Each.{each_at}
use Rattle.std.proofs.Math.Utf8.{encode}
use Rattle.std.proofs.lemmas.Bool.{false≢true, false_from_ne_true}
use Rattle.std.proofs.lemmas.Str.{encodes-append, length-encode, len_utf8_bounds}
use Rattle.std.proofs.lemmas.Slice.Eq.{bytes_eq-Decides}
use Rattle.xml_model.specs.Chars.{size}
use Rattle.xml_model.specs.Items.{Attribute, Tag, first_place, written_attribute}
use Rattle.xml_model.specs.Nest.{Forest}
use Rattle.xml_model.specs.Records.{Record, records, declares, attributes_place}
use Rattle.xml_model.specs.Scan.{record_at}
use Rattle.xml_model.specs.Tree.{Entry, Holder}
use Rattle.xml_model.specs.Names.{declaring, declaration_of, nearest, first_of}
use Rattle.xml_model.specs.Accepted.{name_place}
use Rattle.vtd_words.specs.declared.packing.Parts.{Parts}
use Rattle.vtd_words.specs.Packed.{record_of}
use Rattle.vtd_text.specs.Joined.{slice_of}
use Rattle.vtd_text.specs.NameRecords.{is_attribute_name}
use Rattle.vtd_namespaces.specs.NameRecords.{AreAttributeRecords, IsTagRecord, IsRecordOfThing, HasNameRecord}
use Rattle.vtd_namespaces.specs.Repeats.{HasNoAttribute}
use Rattle.vtd_namespaces.specs.Scope.{IsDeclaredAt, IsDeclarationIn, IsNearestAt, IsNearest, HolderIn, Chain, Opened, tags_in}
use Rattle.vtd_words.specs.Lists.{Lists}
use Rattle.vtd_words.specs.Table.{IsNestOf, Shows, nodes_of}
use Rattle.vtd_words.proofs.Fitting.{nest_shown}
use Rattle.vtd_namespaces.proofs.NameRecordLemmas.{document_holds}
use Rattle.vtd_namespaces.proofs.RepeatLemmas.{eq_encoded, no_attribute_there, index_more}

-- names that declare a prefix

pub empty_encoded : (p : List ℕ) → length (encode_utf8_all p) ≡ 0 → p ≡ []
empty_encoded [] h = refl
empty_encoded (c ∷ p) h = absurd (omega (arith, length-append (encode c) (encode_utf8_all p), length-encode c, (len_utf8_bounds c).0))

pub default_encoded : encode_utf8_all (codes "xmlns") ≡ codes "xmlns"
unfolding encode
default_encoded = refl

mark_encoded : encode_utf8_all (codes "xmlns:") ≡ codes "xmlns:"
unfolding encode
mark_encoded = refl

pub declares_default : (name prefix cs p : List ℕ) → name ≡ encode_utf8_all cs → prefix ≡ encode_utf8_all p → length prefix ≡ 0 → bytes_eq name (codes "xmlns") ≡ bytes_eq cs (declaring p)
declares_default name prefix cs p e f z =
    let none : p ≡ [] = empty_encoded p (sym (ap length f) ∙ z) in
    ap₂ bytes_eq e (sym default_encoded) ∙ eq_encoded cs (codes "xmlns") ∙ ap (λ q. bytes_eq cs (declaring q)) (sym none)

pub with_mark : (prefix p : List ℕ) → prefix ≡ encode_utf8_all p → (length prefix ≡ 0 → ⊥) → encode_utf8_all (declaring p) ≡ codes "xmlns:" ++ prefix
with_mark prefix [] f z = absurd (z (ap length f))
with_mark prefix (c ∷ p) f z = encodes-append (codes "xmlns:") (c ∷ p) ∙ ap₂ (λ x y. x ++ y) mark_encoded (sym f)

eq_split : (w xs ys : List ℕ) → length w ≤ length xs → (bytes_eq (take (length w) xs) w && bytes_eq (drop (length w) xs) ys) ≡ bytes_eq xs (w ++ ys)
eq_split [] xs ys h = refl
eq_split (c ∷ w) [] ys h = absurd (omega arith)
eq_split (c ∷ w) (x ∷ xs) ys h = and_assoc (Rattle.std.specs.Prelude.nat_eq x c) _ _ ∙ ap (λ b. Rattle.std.specs.Prelude.nat_eq x c && b) (eq_split w xs ys (omega arith))
  where
    and_assoc : (a b c : Bool) → ((a && b) && c) ≡ (a && (b && c))
    and_assoc true b c = refl
    and_assoc false b c = refl

pub declares_prefix : (name prefix cs p : List ℕ) → name ≡ encode_utf8_all cs → prefix ≡ encode_utf8_all p → (length prefix ≡ 0 → ⊥) → 6 ≤ length name →
    (bytes_eq (take 6 name) (codes "xmlns:") && bytes_eq (drop 6 name) prefix) ≡ bytes_eq cs (declaring p)
declares_prefix name prefix cs p e f z l = eq_split (codes "xmlns:") name prefix l ∙ ap₂ bytes_eq e (sym (with_mark prefix p f z)) ∙ eq_encoded cs (declaring p)

and_there : (a b : Bool) → b ≡ true → a ≡ (a && b)
and_there true b h = sym h
and_there false b h = refl

and_missing : (a b : Bool) → b ≡ false → b ≡ (a && b)
and_missing true b h = refl
and_missing false b h = h

pub rest_there : (name prefix mark rest cs p : List ℕ) → name ≡ encode_utf8_all cs → prefix ≡ encode_utf8_all p → (length prefix ≡ 0 → ⊥) → length name ≡ 6 + length prefix → mark ≡ take 6 name → rest ≡ drop 6 name →
    (r : Bool) → r ≡ bytes_eq mark (codes "xmlns:") → bytes_eq rest prefix ≡ true → r ≡ bytes_eq cs (declaring p)
rest_there name prefix mark rest cs p e f z l g h r k t =
    k ∙ ap (λ x. bytes_eq x (codes "xmlns:")) g ∙ and_there (bytes_eq (take 6 name) (codes "xmlns:")) (bytes_eq (drop 6 name) prefix) (ap (λ x. bytes_eq x prefix) (sym h) ∙ t) ∙ declares_prefix name prefix cs p e f z (omega (arith, l))

pub rest_missing : (name prefix rest cs p : List ℕ) → name ≡ encode_utf8_all cs → prefix ≡ encode_utf8_all p → (length prefix ≡ 0 → ⊥) → length name ≡ 6 + length prefix → rest ≡ drop 6 name →
    (r : Bool) → r ≡ bytes_eq rest prefix → r ≡ false → r ≡ bytes_eq cs (declaring p)
rest_missing name prefix rest cs p e f z l h r k t =
    let same : r ≡ bytes_eq (drop 6 name) prefix = k ∙ ap (λ x. bytes_eq x prefix) h in
    same ∙ and_missing (bytes_eq (take 6 name) (codes "xmlns:")) (bytes_eq (drop 6 name) prefix) (sym same ∙ t) ∙ declares_prefix name prefix cs p e f z (omega (arith, l))

pub other_length : (name prefix cs p : List ℕ) → name ≡ encode_utf8_all cs → prefix ≡ encode_utf8_all p → (length prefix ≡ 0 → ⊥) → (length name ≡ 6 + length prefix → ⊥) → false ≡ bytes_eq cs (declaring p)
other_length name prefix cs p e f z l = sym (false_from_ne_true _ (λ t.
    let same : name ≡ codes "xmlns:" ++ prefix = e ∙ ap encode_utf8_all ((bytes_eq-Decides cs (declaring p)).0 t) ∙ with_mark prefix p f z in
    l (ap length same ∙ length-append (codes "xmlns:") prefix)))

declares_own : (p : List ℕ) → declares (declaring p) ≡ true
unfolding declares
declares_own [] = refl
declares_own (c ∷ p) = refl

pub no_declaration : (cs p : List ℕ) → declares cs ≡ false → bytes_eq cs (declaring p) ≡ false
no_declaration cs p h = false_from_ne_true _ (λ t. false≢true (sym h ∙ ap declares ((bytes_eq-Decides cs (declaring p)).0 t) ∙ declares_own p))

pub token_three : (b : Bool) → ◌≡◌ {A = ℕ} (cond b 3 2) 3 → b ≡ true
token_three true h = refl
token_three false h = absurd (omega (arith, h))

pub token_two : (b : Bool) → (◌≡◌ {A = ℕ} (cond b 3 2) 3 → ⊥) → b ≡ false
token_two true h = absurd (h refl)
token_two false h = refl

-- a tag's declarations

-- so many names are passed, and none declares the prefix
pub record Sought (bytes : List ℕ) (rs : List Record) (first n : ℕ) (t : Tag) (p : List ℕ) : Type 0 where
  pub place : ℕ
  pub left : List Attribute
  pub hold : AreAttributeRecords bytes rs (first + 2 * n) place left
  pub same : declaration_of p t ≡ find (λ a. bytes_eq a.name (declaring p)) left
  pub number : (k : ℕ) → slice_get t.attributes (n + k) ≡ slice_get left k

pub none_sought : (bytes : List ℕ) (rs : List Record) (first at : ℕ) (t : Tag) (p : List ℕ) → AreAttributeRecords bytes rs first at t.attributes → Sought bytes rs first 0 t p
none_sought bytes rs first at t p s =
    let e : first ≡ first + 2 * 0 = omega arith in
    record { place = at; left = t.attributes; hold = subst (λ k. AreAttributeRecords bytes rs k at t.attributes) e s; same = refl; number = λ k. let z : 0 + k ≡ k = omega arith in ap (slice_get t.attributes) z }

pub all_sought : (bytes : List ℕ) (rs : List Record) (first n : ℕ) (t : Tag) (p : List ℕ) → Sought bytes rs first n t p → HasNoAttribute rs (first + 2 * n) → declaration_of p t ≡ None
all_sought bytes rs first n t p s h = by s.left s.hold s.same
  where
    by : (left : List Attribute) → AreAttributeRecords bytes rs (first + 2 * n) s.place left → declaration_of p t ≡ find (λ a. bytes_eq a.name (declaring p)) left → declaration_of p t ≡ None
    by [] k e = e
    by (a ∷ left) k e = absurd (no_attribute_there bytes rs (first + 2 * n) (name_place s.place a) a k.0 h)

-- the next name, by whether it declares the prefix
pub record NextSought (bytes : List ℕ) (rs : List Record) (first n : ℕ) (t : Tag) (p : List ℕ) (parts : Parts) (name : List ℕ) : Type 0 where
  pub characters : List ℕ
  pub written : name ≡ encode_utf8_all characters
  pub hit : bytes_eq characters (declaring p) ≡ true → IsDeclaredAt first t p (first + 2 * n)
  pub miss : bytes_eq characters (declaring p) ≡ false → Sought bytes rs first (n + 1) t p
  pub other : (parts.token ≡ 3 → ⊥) → Sought bytes rs first (n + 1) t p

pub next_sought : (bytes : List ℕ) (rs : List Record) (first n : ℕ) (t : Tag) (p : List ℕ) (parts : Parts) (name : List ℕ) → Sought bytes rs first n t p → record_of parts ≡ record_at (first + 2 * n) rs → is_attribute_name parts.token ≡ true →
    name ≡ slice_of bytes (record_of parts) → NextSought bytes rs first n t p parts name
next_sought bytes rs first n t p parts name s here kind is = by s.left s.hold s.same s.number
  where
    by : (left : List Attribute) → AreAttributeRecords bytes rs (first + 2 * n) s.place left → declaration_of p t ≡ find (λ a. bytes_eq a.name (declaring p)) left → ((k : ℕ) → slice_get t.attributes (n + k) ≡ slice_get left k) →
        NextSought bytes rs first n t p parts name
    by [] k e i = absurd (false≢true (sym k ∙ ap (λ r. is_attribute_name r.token) (sym here) ∙ kind))
    by (a ∷ left) k e i =
        let here_zero : n + 0 ≡ n = omega arith in
        let miss : bytes_eq a.name (declaring p) ≡ false → Sought bytes rs first (n + 1) t p = λ h. record {
          place = s.place + size (written_attribute a);
          left = left;
          hold = subst (λ m. AreAttributeRecords bytes rs m (s.place + size (written_attribute a)) left) (index_more first n) k.1;
          same = e ∙ ap (λ b. cond b (Some a) (find (λ a. bytes_eq a.name (declaring p)) left)) h;
          number = λ j. let m : n + 1 + j ≡ n + suc j = omega arith in ap (slice_get t.attributes) m ∙ i (suc j);
        } in
        record {
          characters = a.name;
          written = is ∙ ap (slice_of bytes) here ∙ k.0.name.slice;
          hit = λ h. record {
            declaration = a;
            found = e ∙ ap (λ b. cond b (Some a) (find (λ a. bytes_eq a.name (declaring p)) left)) h;
            number = n;
            holds = ap (slice_get t.attributes) (sym here_zero) ∙ i 0;
            index = refl;
          };
          miss = miss;
          other = λ h. miss (no_declaration a.name p (token_two (declares a.name) (λ z. h (ap (λ r. r.token) here ∙ k.0.token ∙ z))));
        }

-- the tags that hold something

pub chain_attributes : (bytes : List ℕ) (rs : List Record) (es : List Entry) → Each (HasNameRecord bytes rs) es → (x : Holder) (xs : List Holder) → HolderIn es x xs →
    (at : ℕ) × AreAttributeRecords bytes rs (x.index + 1) at x.tag.attributes
chain_attributes bytes rs es s x xs h =
    let w : IsRecordOfThing bytes rs h.entry.index h.entry.start h.entry.what = each_at (HasNameRecord bytes rs) es h.entry s h.there in
    let t : IsTagRecord bytes rs h.entry.index h.entry.start x.tag = subst (IsRecordOfThing bytes rs h.entry.index h.entry.start) h.what w in
    (attributes_place h.entry.start x.tag, subst (λ n. AreAttributeRecords bytes rs (n + 1) (attributes_place h.entry.start x.tag) x.tag.attributes) h.index t.attributes)

-- what is left to be searched, if no tag nearer by has a declaration of the prefix
pub record Left (es : List Entry) (open_tags : List ℕ) (hs : List Holder) (p : List ℕ) (depth : ℕ) : Type 0 where
  pub left : List Holder
  pub chain : Chain es left
  pub opened : Opened open_tags left
  pub many : length left ≡ depth
  pub same : nearest p (tags_in hs) ≡ nearest p (tags_in left)

-- a declaration by another number for the first record
abbrev moved : (first to : ℕ) (t : Tag) (p : List ℕ) (n : ℕ) → first ≡ to → IsDeclaredAt first t p n → IsDeclaredAt to t p n
moved first to t p n e d = record { declaration = d.declaration; found = d.found; number = d.number; holds = d.holds; index = d.index ∙ ap (λ m. m + 2 * d.number) e }

-- the next tag
pub record NextTag (es : List Entry) (open_tags : List ℕ) (hs : List Holder) (p : List ℕ) (depth : ℕ) (r : Option ℕ) : Type 0 where
  pub found : (n : ℕ) → r ≡ Some n → IsNearestAt es hs p n
  pub missing : r ≡ None → Left es open_tags hs p depth

pub next_tag : (bytes : List ℕ) (rs : List Record) (es : List Entry) → Each (HasNameRecord bytes rs) es → (open_tags : List ℕ) (hs : List Holder) (p : List ℕ) (depth first : ℕ) (r : Option ℕ) → Left es open_tags hs p (depth + 1) → first ≡ slice_index_or open_tags depth 0 + 1 →
    ((at : ℕ) (t : Tag) → AreAttributeRecords bytes rs first at t.attributes → IsDeclarationIn first t p r) → NextTag es open_tags hs p depth r
next_tag bytes rs es s open_tags hs p depth first r l f known = by l.left l.chain l.opened l.many l.same
  where
    by : (left : List Holder) → Chain es left → Opened open_tags left → length left ≡ depth + 1 → nearest p (tags_in hs) ≡ nearest p (tags_in left) → NextTag es open_tags hs p depth r
    by [] c o m e = absurd (omega arith)
    by (x ∷ xs) c o m e =
        let few : length xs ≡ depth = omega (arith, m) in
        let there : first ≡ x.index + 1 = f ∙ ap (λ k. slice_index_or open_tags k 0 + 1) (sym few) ∙ ap (λ k. k + 1) o.0 in
        let a = chain_attributes bytes rs es s x xs c.0 in
        let t : IsDeclarationIn first x.tag p r = known a.0 x.tag (subst (λ n. AreAttributeRecords bytes rs n a.0 x.tag.attributes) (sym there) a.1) in
        record {
          found = λ n k.
              let d : IsDeclaredAt first x.tag p n = subst (IsDeclarationIn first x.tag p) k t in
              record {
                entry = c.0.entry;
                there = c.0.there;
                tag = x.tag;
                inside = c.0.inside;
                what = c.0.what;
                declared = moved first (c.0.entry.index + 1) x.tag p n (there ∙ ap (λ m. m + 1) (sym c.0.index)) d;
                nearest_says = e ∙ ap (λ q. first_of q (nearest p (tags_in xs))) d.found;
              };
          missing = λ k.
              let d : declaration_of p x.tag ≡ None = subst (IsDeclarationIn first x.tag p) k t in
              record { left = xs; chain = c.1; opened = o.1; many = few; same = e ∙ ap (λ q. first_of q (nearest p (tags_in xs))) d };
        }

pub some_length : (xs : List ℕ) → (length xs == 0) ≡ false → length xs ≡ 0 → ⊥
some_length [] h e = false≢true (sym h)
some_length (x ∷ xs) h e = omega arith

pub step_back : (bytes : List ℕ) (lists : Lists) → length bytes < 2 ^ 30 → (nest : Forest) → IsNestOf bytes lists nest → (open_tags : List ℕ) (hs : List Holder) (p : List ℕ) (depth : ℕ) (r : Option ℕ) → 0 < depth →
    Left (nodes_of bytes nest) open_tags hs p depth →
    ((rs : List Record) → Shows lists.records rs → (at : ℕ) (t : Tag) → AreAttributeRecords bytes rs (slice_index_or open_tags (depth - 1) 0 + 1) at t.attributes → IsDeclarationIn (slice_index_or open_tags (depth - 1) 0 + 1) t p r) →
    NextTag (nodes_of bytes nest) open_tags hs p (depth - 1) r
step_back bytes lists few nest s open_tags hs p depth r h l known =
    let rs = records nest (first_place bytes) in
    let one : depth ≡ depth - 1 + 1 = omega arith in
    next_tag bytes rs (nodes_of bytes nest) (document_holds bytes nest s.accepted.document) open_tags hs p (depth - 1) (slice_index_or open_tags (depth - 1) 0 + 1) r
    (subst (Left (nodes_of bytes nest) open_tags hs p) one l) refl (known rs (nest_shown bytes lists nest few s))

pub step_found : (es : List Entry) (open_tags : List ℕ) (hs : List Holder) (p : List ℕ) (depth : ℕ) (r : Option ℕ) → NextTag es open_tags hs p depth r → is_some r ≡ true → IsNearest es hs p r
step_found es open_tags hs p depth None t h = absurd (false≢true h)
step_found es open_tags hs p depth (Some n) t h = t.found n refl

pub step_missing : (es : List Entry) (open_tags : List ℕ) (hs : List Holder) (p : List ℕ) (depth : ℕ) (r : Option ℕ) → NextTag es open_tags hs p depth r → is_some r ≡ false → Left es open_tags hs p depth
step_missing es open_tags hs p depth None t h = t.missing refl
step_missing es open_tags hs p depth (Some n) t h = absurd (false≢true (sym h))

pub all_left : (es : List Entry) (open_tags : List ℕ) (hs : List Holder) (p : List ℕ) (depth : ℕ) → Chain es hs → Opened open_tags hs → length hs ≡ depth → Left es open_tags hs p depth
all_left es open_tags hs p depth c o m = record { left = hs; chain = c; opened = o; many = m; same = refl }

pub none_left : (es : List Entry) (open_tags : List ℕ) (hs : List Holder) (p : List ℕ) (depth : ℕ) → Left es open_tags hs p depth → depth ≡ 0 → nearest p (tags_in hs) ≡ None
none_left es open_tags hs p depth l z = l.same ∙ by l.left (l.many ∙ z)
  where
    by : (left : List Holder) → length left ≡ 0 → nearest p (tags_in left) ≡ None
    by [] m = refl
    by (x ∷ xs) m = absurd (omega (arith, m))
