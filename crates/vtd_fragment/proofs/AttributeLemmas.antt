-- The two records of an attribute of a tag, and its bytes from its name to its closing quote.
use Rattle.std.proofs.Common.{◌≡◌, ℕ, suc, ◌+◌, ◌*◌, true, List, [], ◌∷◌, ◌++◌, length, take, drop, refl, ap, ap₂, sym, ◌∙◌, subst, arith, append_assoc, append-nil, codes}
use Rattle.std.specs.Prelude.{encode_utf8_all, ◌&&◌, Bool, false, cond, filter}
use Rattle.std.specs.List.{flat_map}
use Rattle.std.proofs.Math.Seq.{get_or-append_seam}
use Rattle.std.proofs.Math.Utf8.{encode}
use Rattle.std.proofs.lemmas.Bool.{and_parts}
use Rattle.std.proofs.lemmas.List.{drop-take}
use Rattle.std.proofs.lemmas.Str.{encodes-append}
use Rattle.xml_model.specs.Chars.{size, begins}
use Rattle.xml_model.specs.Items.{Attribute, Tag, Item, start_tag, empty_tag, meets, written, spelling, begins_at, ends_well, may_begin_at, first_place, before_value, written_attribute, written_attributes, written_pieces, written_tag, quote_char}
use Rattle.xml_model.specs.Nest.{Forest}
use Rattle.xml_model.specs.Records.{Record, document, records, plain, named, name_token, kind_number, attribute_records, attributes_records, attributes_place, tag_records, forest_records, past_start}
use Rattle.xml_model.specs.declared.TokenKind.TheVariants as token
use Rattle.xml_model.specs.Scan.{record_at}
use Rattle.xml_model.specs.Laws.{records_of}
use Rattle.xml_model.specs.Tree.{Thing, Holder}
use Rattle.xml_model.specs.Accepted.{IsDocument}
use Rattle.xml_model.proofs.Each.{each_at}
use Rattle.xml_model.proofs.Fits.{after_length}
use Rattle.xml_model.proofs.NodeLaws.{records_of_node}
use Rattle.vtd_words.specs.Table.{nodes_of}
use Rattle.vtd_text.specs.Joined.{slice_of}
use Rattle.vtd_namespaces.specs.Scope.{HolderIn}
use Rattle.vtd_namespaces.proofs.SpelledLemmas.{Spelled, spelled_from, spelled_prefix, spelled_back, spelled_slice, spelled_at, size_append, size_angle}
use Rattle.vtd_cursor.proofs.Closing.{Closes, ClosesIn, ElementCloses, by_itself, by_end_tag, all_close, attribute_size}
use Rattle.xml_fragments.specs.Cut.{spaced}
use Rattle.vtd_fragment.specs.Round.{inserted}

-- an attribute from its name to its closing quote
abbrev pub bare : Attribute → List ℕ
bare a = before_value a ++ written_pieces a.value ++ quote_char a.quote ∷ []

-- the record with an index is of the name of an attribute, the next one of its value, and the attribute is at the
-- name's place
pub record AttributeAt (bytes : List ℕ) (rs : List Record) (n : ℕ) (a : Attribute) : Type 0 where
  pub at : ℕ
  pub depth : ℕ
  pub name : record_at n rs ≡ named (name_token a.name) depth a.name at
  pub value : record_at (n + 1) rs ≡ plain (kind_number token.Value) depth (written_pieces a.value) (at + size (before_value a))
  pub spelled : Spelled bytes at (bare a)

at_prefix : (whole prefix rest : List Record) (r : Record) (n : ℕ) → whole ≡ prefix ++ (r ∷ rest) → length prefix ≡ n → record_at n whole ≡ r
at_prefix whole prefix rest r n e l = ap₂ record_at (sym l) e ∙ get_or-append_seam prefix r rest document

written_is : (a : Attribute) → written_attribute a ≡ a.space ++ bare a
written_is a =
    ap (λ (l : List ℕ). l ++ quote_char a.quote ∷ []) (append_assoc a.space (before_value a) (written_pieces a.value))
    ∙ append_assoc a.space (before_value a ++ written_pieces a.value) (quote_char a.quote ∷ [])

attribute_here : (bytes : List ℕ) (whole prefix rest : List Record) (d n at : ℕ) (a : Attribute) → whole ≡ prefix ++ (attribute_records d (at + size a.space) a ++ rest) → length prefix ≡ n →
    Spelled bytes at (written_attribute a) → AttributeAt bytes whole n a
attribute_here bytes whole prefix rest d n at a e l s =
    let place = at + size a.space in
    let first : Record = named (name_token a.name) d a.name place in
    let second : Record = plain (kind_number token.Value) d (written_pieces a.value) (place + size (before_value a)) in
    record {
      at = place;
      depth = d;
      name = at_prefix whole prefix (second ∷ rest) first n e l;
      value = at_prefix whole (prefix ++ first ∷ []) rest second (n + 1) (e ∙ sym (append_assoc prefix (first ∷ []) (second ∷ rest))) (after_length prefix (first ∷ []) n l);
      spelled = spelled_back bytes at a.space (bare a) (subst (Spelled bytes at) (written_is a) s);
    }

attribute_among : (before : List Attribute) (a : Attribute) (after : List Attribute) (bytes : List ℕ) (whole prefix rest : List Record) (d n at : ℕ) →
    whole ≡ prefix ++ (attributes_records d at (before ++ a ∷ after) ++ rest) → length prefix ≡ n → Spelled bytes at (written_attributes (before ++ a ∷ after)) →
    AttributeAt bytes whole (n + 2 * length before) a
attribute_among [] a after bytes whole prefix rest d n at e l s =
    let mine = attribute_records d (at + size a.space) a in
    let more = attributes_records d (at + size (written_attribute a)) after in
    let zero : n ≡ n + 2 * 0 = omega arith in
    subst (λ k. AttributeAt bytes whole k a) zero
    (attribute_here bytes whole prefix (more ++ rest) d n at a (e ∙ ap (λ x. prefix ++ x) (append_assoc mine more rest)) l (spelled_prefix bytes at (written_attribute a) (written_attributes after) s))
attribute_among (b ∷ before) a after bytes whole prefix rest d n at e l s =
    let mine = attribute_records d (at + size b.space) b in
    let to = at + size (written_attribute b) in
    let others = before ++ a ∷ after in
    let more = attributes_records d to others in
    let next : n + 2 + 2 * length before ≡ n + 2 * length (b ∷ before) = omega arith in
    subst (λ k. AttributeAt bytes whole k a) next
    (attribute_among before a after bytes whole (prefix ++ mine) rest d (n + 2) to (e ∙ ap (λ x. prefix ++ x) (append_assoc mine more rest) ∙ sym (append_assoc prefix mine (more ++ rest)))
    (after_length prefix mine n l) (spelled_back bytes at (written_attribute b) (written_attributes others) s))

attribute_in_tag : (bytes : List ℕ) (whole prefix rest : List Record) (l n at : ℕ) (t : Tag) (before after : List Attribute) (a : Attribute) → t.attributes ≡ before ++ a ∷ after →
    whole ≡ prefix ++ (tag_records l at t ++ rest) → length prefix ≡ n → Spelled bytes at (written_tag t) → AttributeAt bytes whole (n + 1 + 2 * length before) a
attribute_in_tag bytes whole prefix rest l n at t before after a is e k s =
    let r : Record = named (kind_number token.StartTag) l t.name (at + 1) in
    let others = attributes_records l (attributes_place at t) t.attributes in
    let one = spelled_prefix bytes at (codes "<" ++ t.name ++ written_attributes t.attributes) t.space s in
    let place : at + size (codes "<" ++ t.name) ≡ attributes_place at t = omega (arith, size_append (codes "<") t.name, size_angle) in
    let two = spelled_at bytes (at + size (codes "<" ++ t.name)) (attributes_place at t) (written_attributes t.attributes) place (spelled_back bytes at (codes "<" ++ t.name) (written_attributes t.attributes) one) in
    attribute_among before a after bytes whole (prefix ++ r ∷ []) rest l (n + 1) (attributes_place at t)
    (e ∙ sym (append_assoc prefix (r ∷ []) (others ++ rest)) ∙ ap (λ (xs : List Attribute). (prefix ++ r ∷ []) ++ (attributes_records l (attributes_place at t) xs ++ rest)) is)
    (after_length prefix (r ∷ []) n k) (subst (λ (xs : List Attribute). Spelled bytes (attributes_place at t) (written_attributes xs)) is two)

item_spelled : (bytes : List ℕ) (at : ℕ) (i : Item) → begins_at bytes at i ≡ true → Spelled bytes at (written i)
unfolding begins_at spelling
item_spelled bytes at i h =
    let one = and_parts (meets i && begins (spelling i) (drop at bytes) && ends_well i (drop (at + length (spelling i)) bytes)) (may_begin_at i (first_place bytes) at) h in
    let two = and_parts (meets i && begins (spelling i) (drop at bytes)) (ends_well i (drop (at + length (spelling i)) bytes)) one.0 in
    spelled_from bytes (written i) at (and_parts (meets i) (begins (spelling i) (drop at bytes)) two.0).1

tag_spelled : (bytes : List ℕ) (t : Tag) (inside : Forest) (start stop : ℕ) → ElementCloses bytes t inside start stop → Spelled bytes start (written_tag t)
tag_spelled bytes t inside start stop (by_itself d b e) = spelled_prefix bytes start (written_tag t) (codes "/>") (item_spelled bytes start (empty_tag t) b)
tag_spelled bytes t inside start stop (by_end_tag space b p q e) = spelled_prefix bytes start (written_tag t) (codes ">") (item_spelled bytes start (start_tag t) b)

-- the attributes of an element that holds a node
pub attribute_of_holder : (bytes : List ℕ) (nest : Forest) → IsDocument bytes nest → (x : Holder) (xs : List Holder) → HolderIn (nodes_of bytes nest) x xs →
    (before after : List Attribute) (a : Attribute) → x.tag.attributes ≡ before ++ a ∷ after → (at : ℕ) → at ≡ x.index + 1 + 2 * length before →
    AttributeAt bytes (records nest (first_place bytes)) at a
attribute_of_holder bytes nest d x xs h before after a is at i =
    let whole = records nest (first_place bytes) in
    let e = h.entry in
    let y = records_of_node nest (first_place bytes) d.nests e h.there in
    let l = length e.holders in
    let c : Closes bytes e.what l e.start e.stop = each_at (ClosesIn bytes) (nodes_of bytes nest) e (all_close bytes nest d) h.there in
    let closes : ElementCloses bytes x.tag h.inside e.start e.stop = subst (λ (w : Thing). Closes bytes w l e.start e.stop) h.what c in
    let tag = tag_records l e.start x.tag in
    let inner = forest_records (suc l) (past_start e.start x.tag) h.inside in
    let split : whole ≡ y.prefix ++ (tag ++ (inner ++ y.rest)) =
    y.split ∙ ap (λ (w : Thing). y.prefix ++ records_of w l e.start ++ y.rest) h.what
    ∙ append_assoc y.prefix (tag ++ inner) y.rest ∙ ap (λ (rs : List Record). y.prefix ++ rs) (append_assoc tag inner y.rest) in
    let place : e.index + 1 + 2 * length before ≡ at = omega (arith, h.index, i) in
    subst (λ k. AttributeAt bytes whole k a) place
    (attribute_in_tag bytes whole y.prefix (inner ++ y.rest) l e.index e.start x.tag before after a is split y.begins (tag_spelled bytes x.tag h.inside e.start e.stop closes))

-- the bytes of a name
name_spelled : (bytes : List ℕ) (at : ℕ) (a : Attribute) → Spelled bytes at (bare a) → Spelled bytes at a.name
name_spelled bytes at a s =
    let q = quote_char a.quote ∷ [] in
    let one = spelled_prefix bytes at (before_value a ++ written_pieces a.value) q s in
    let two = spelled_prefix bytes at (before_value a) (written_pieces a.value) one in
    let three = spelled_prefix bytes at (a.name ++ a.left ++ codes "=" ++ a.right) q two in
    let four = spelled_prefix bytes at (a.name ++ a.left ++ codes "=") a.right three in
    let five = spelled_prefix bytes at (a.name ++ a.left) (codes "=") four in
    spelled_prefix bytes at a.name a.left five

pub name_slice : (bytes : List ℕ) (rs : List Record) (n : ℕ) (a : Attribute) (h : AttributeAt bytes rs n a) (name : Record) → name ≡ record_at n rs → slice_of bytes name ≡ encode_utf8_all a.name
name_slice bytes rs n a h name e = ap (slice_of bytes) (e ∙ h.name) ∙ spelled_slice bytes h.at a.name (name_spelled bytes h.at a h.spelled)

-- the bytes of an attribute
bare_size : (a : Attribute) → size (bare a) ≡ size (before_value a) + size (written_pieces a.value) + 1
bare_size a = omega (arith, attribute_size a, ap size (written_is a), size_append a.space (bare a))

pub bare_bytes : (bytes : List ℕ) (rs : List Record) (n : ℕ) (a : Attribute) (h : AttributeAt bytes rs n a) (name value : Record) → name ≡ record_at n rs → value ≡ record_at (n + 1) rs →
    drop name.offset (take (value.offset + value.len + 1) bytes) ≡ encode_utf8_all (bare a)
bare_bytes bytes rs n a h name value e f =
    let from : name.offset ≡ h.at = ap (λ r. r.offset) (e ∙ h.name) in
    let to : value.offset + value.len + 1 ≡ h.at + size (bare a) = omega (arith, ap (λ r. r.offset) (f ∙ h.value), ap (λ r. r.len) (f ∙ h.value), bare_size a) in
    ap₂ (λ i j. drop i (take j bytes)) from to ∙ drop-take h.at (size (bare a)) bytes ∙ spelled_slice bytes h.at (bare a) h.spelled

-- what is inserted
spaced_encoded : (a : Attribute) → encode_utf8_all (written_attribute (spaced a)) ≡ 32 ∷ encode_utf8_all (bare a)
unfolding encode
spaced_encoded a = ap encode_utf8_all (written_is (spaced a)) ∙ encodes-append (codes " ") (bare a)

pub inserted_one : (a : Attribute) → inserted (a ∷ []) ≡ 32 ∷ encode_utf8_all (bare a)
inserted_one a = ap encode_utf8_all (append-nil (written_attribute (spaced a))) ∙ spaced_encoded a

spaced_append : (xs ys : List Attribute) → flat_map (λ a. written_attribute (spaced a)) (xs ++ ys) ≡ flat_map (λ a. written_attribute (spaced a)) xs ++ flat_map (λ a. written_attribute (spaced a)) ys
spaced_append [] ys = refl
spaced_append (x ∷ xs) ys =
    let f = λ (a : Attribute). written_attribute (spaced a) in
    ap (λ (l : List ℕ). f x ++ l) (spaced_append xs ys) ∙ sym (append_assoc (f x) (flat_map f xs) (flat_map f ys))

pub inserted_append : (xs ys : List Attribute) → inserted (xs ++ ys) ≡ inserted xs ++ inserted ys
inserted_append xs ys =
    let f = λ (a : Attribute). written_attribute (spaced a) in
    ap encode_utf8_all (spaced_append xs ys) ∙ encodes-append (flat_map f xs) (flat_map f ys)

-- what is appended for one attribute
pub one_not : (q : Attribute → Bool) (a : Attribute) (out : List ℕ) → q a ≡ false → out ≡ out ++ inserted (filter q (a ∷ []))
one_not q a out e = sym (ap (λ (b : Bool). out ++ inserted (cond b (a ∷ []) [])) e ∙ append-nil out)

pub one_there : (q : Attribute → Bool) (a : Attribute) (out new bytes : List ℕ) → q a ≡ true → bytes ≡ encode_utf8_all (bare a) → new ≡ (out ++ 32 ∷ []) ++ bytes → new ≡ out ++ inserted (filter q (a ∷ []))
one_there q a out new bytes e f g =
    g ∙ append_assoc out (32 ∷ []) bytes ∙ ap (λ (l : List ℕ). out ++ 32 ∷ l) f ∙ sym (ap (λ (l : List ℕ). out ++ l) (ap (λ (b : Bool). inserted (cond b (a ∷ []) [])) e ∙ inserted_one a))
