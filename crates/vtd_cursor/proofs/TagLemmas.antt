-- The tags of an element of a table, and the value of an attribute.
use Rattle.std.proofs.Common.{◌≡◌, ℕ, suc, ◌+◌, ◌-◌, ◌<◌, ◌^◌, Bool, true, false, List, ◌++◌, length, refl, ap, sym, ◌∙◌, subst, arith, length-append}
use Rattle.std.specs.Str.{IsUtf8}
use Rattle.std.proofs.lemmas.Bool.{false≢true, false_from_ne_true}
use Rattle.xml_model.specs.declared.Kind.{Kind}
use Rattle.xml_model.specs.declared.Kind.TheVariants as kinds
use Rattle.xml_model.specs.declared.Node.{Node}
use Rattle.xml_model.specs.Chars.{size}
use Rattle.xml_model.specs.Items.{Attribute, Tag, start_tag, empty_tag, begins_at, before_value, written_pieces, first_place}
use Rattle.xml_model.specs.Nest.{Forest}
use Rattle.xml_model.specs.Records.{Record, named, records, tag_records, forest_records, past_empty, past_start, past_forest}
use Rattle.xml_model.specs.Tree.{Thing, Entry, Identifies, all, kind_of}
use Rattle.xml_model.specs.Scan.{record_at}
use Rattle.xml_model.specs.Laws.{HasRecords, records_of}
use Rattle.xml_model.proofs.Each.{each_at}
use Rattle.xml_model.proofs.NodeLaws.{records_of_node}
use Rattle.xml_items.specs.Reading.{tag_item}
use Rattle.xml_items.proofs.OneItem.{one_item}
use Rattle.xml_model.proofs.Things.{attribute_of, element_of}
use Rattle.vtd_words.specs.Lists.{Lists}
use Rattle.vtd_words.specs.declared.packing.Parts.{Parts}
use Rattle.vtd_words.specs.Packed.{record_of}
use Rattle.vtd_words.specs.Table.{ArePartsAt, IsNestOf, IsNodeOf, Shows, nodes_of}
use Rattle.vtd_words.proofs.Fitting.{nest_shown}
use Rattle.vtd_words.proofs.Nodes.{record_shown}
use Rattle.xml_model.specs.declared.Span.{Span}
use Rattle.xml_chars.specs.Places.{span_from}
use Rattle.xml_items.specs.declared.Item.{Item as ItemShown}
use Rattle.xml_items.specs.declared.ItemKind.TheVariants as item_kinds
use Rattle.xml_items.specs.Shown.{item_shown}
use Rattle.vtd_cursor.specs.declared.spans.Tags.{Tags}
use Rattle.vtd_cursor.specs.Tags.{tags_by, HasEndTag}
use Rattle.vtd_cursor.specs.Endings.{IsTagOf, HasTagOf, IsEnding, HasEnding}
use Rattle.vtd_cursor.proofs.Closing.{Closes, ClosesIn, ElementCloses, by_itself, by_end_tag, all_close}
use Rattle.vtd_cursor.proofs.LastPieces.{inside_ending, start_spelled, empty_spelled}
use Rattle.xml_model.proofs.Inside.{in_place}
use Rattle.vtd_cursor.proofs.NodeSpans.{first_in, NodeShown, node_shown}
use Rattle.vtd_cursor.proofs.PieceLemmas.{FindsTag, empty_kind, start_kind, tag_kind_of}
use Rattle.vtd_cursor.proofs.SpanLemmas.{PastOf}

-- what the first record of an element and the bytes say of its tags
pub record TagsShown (bytes : List ℕ) (rs : List Record) (t : Tag) (inside : Forest) (l start stop place past : ℕ) : Type 0 where
  pub closed : Bool
  pub is_closed : begins_at bytes start (empty_tag t) ≡ closed
  pub tag : IsTagOf bytes rs place start closed t
  pub itself : closed ≡ true → stop ≡ past_empty start t
  pub inner : closed ≡ false → IsEnding bytes rs (suc l) (past_forest (past_start start t) inside) past

own_tag : (bytes : List ℕ) (rs prefix rest : List Record) (t : Tag) (inside : Forest) (l start place : ℕ) (closed : Bool) →
    rs ≡ prefix ++ (tag_records l start t ++ forest_records (suc l) (past_start start t) inside) ++ rest → length prefix ≡ place →
    begins_at bytes start (tag_item closed t) ≡ true → IsTagOf bytes rs place start closed t
own_tag bytes rs prefix rest t inside l start place closed e n b =
    let head : record_at place rs ≡ named 0 l t.name (start + 1) =
    first_in rs prefix (tag_records l start t ++ forest_records (suc l) (past_start start t) inside) rest place e n (omega arith) in
    record {
      first = place;
      nearest = record {
        within = omega arith;
        tag = ap (λ r. r.token) head;
        none = λ k low high z. omega
            (arith, low, high);
      };
      offset = ap (λ r. r.offset) head;
      begins = b;
    }

-- a start tag and an empty tag do not begin at one place
one_tag : (bytes : List ℕ) (at : ℕ) (t : Tag) → IsUtf8 bytes → begins_at bytes at (start_tag t) ≡ true → begins_at bytes at (empty_tag t) ≡ false
one_tag bytes at t u b = false_from_ne_true _ (λ c.
    let same : start_tag t ≡ empty_tag t = one_item bytes at (start_tag t) (empty_tag t) b c in
    cc)

tags_shown : (bytes : List ℕ) (rs prefix rest : List Record) (t : Tag) (inside : Forest) (l start stop place past : ℕ) → IsUtf8 bytes →
    rs ≡ prefix ++ (tag_records l start t ++ forest_records (suc l) (past_start start t) inside) ++ rest → length prefix ≡ place →
    place + length (tag_records l start t ++ forest_records (suc l) (past_start start t) inside) ≡ past → ElementCloses bytes t inside start stop →
    TagsShown bytes rs t inside l start stop place past
tags_shown bytes rs prefix rest t inside l start stop place past u e n p (by_itself i b s) =
    record {
      closed = true;
      is_closed = b;
      tag = own_tag bytes rs prefix rest t inside l start place true e n b;
      itself = λ h. s;
      inner =
          λ h. absurd (false≢true (sym h));
    }
tags_shown bytes rs prefix rest t inside l start stop place past u e n p (by_end_tag space b k m s) =
    let tag = tag_records l start t in
    let within = forest_records (suc l) (past_start start t) inside in
    let count : length (prefix ++ tag) + length within ≡ past = omega (arith, n, p, length-append prefix tag, length-append tag within) in
    record {
      closed = false;
      is_closed = one_tag bytes start t u b;
      tag = own_tag bytes rs prefix rest t inside l start place false e n b;
      itself = λ h. absurd (false≢true h);
      inner = λ h. subst (λ c. IsEnding bytes rs (suc l) (past_forest (past_start start t) inside) c) count
          (inside_ending t inside bytes rs prefix rest l start e b k);
    }

pub element_tags : (bytes : List ℕ) (lists : Lists) (nest : Forest) → IsNestOf bytes lists nest → (kind : Kind) (at : ℕ) (e : Entry) →
    Identifies kind at e (nodes_of bytes nest) → (t : Tag) (inside : Forest) → e.what ≡ Thing.element t inside →
    TagsShown bytes (records nest (first_place bytes)) t inside (length e.holders) e.start e.stop at e.past
element_tags bytes lists nest s kind at e w t inside is =
    let first = first_place bytes in
    let rs = records nest first in
    let l = length e.holders in
    let d = s.accepted.document in
    let r : HasRecords rs e = records_of_node nest first d.nests e w.0 in
    let c : ClosesIn bytes e = each_at (ClosesIn bytes) (all nest first) e (all_close bytes nest d) w.0 in
    let mine : records_of e.what l e.start ≡ tag_records l e.start t ++ forest_records (suc l) (past_start e.start t) inside =
    ap (λ x. records_of x l e.start) is in
    let closes : ElementCloses bytes t inside e.start e.stop = subst (λ x. Closes bytes x l e.start e.stop) is c in
    subst (λ n. TagsShown bytes rs t inside l e.start e.stop n e.past) w.2
    (tags_shown bytes rs r.prefix r.rest t inside l e.start e.stop e.index e.past s.accepted.utf8
    (r.split ∙ ap (λ ts. r.prefix ++ ts ++ r.rest) mine) r.begins (ap (λ ts. e.index + length ts) (sym mine) ∙ r.stops) closes)

-- the second record of an attribute is that of its value
pub record ValueShown (rs : List Record) (a : Attribute) (start stop place past : ℕ) : Type 0 where
  pub two : past ≡ place + 2
  pub offset : (record_at (place + 1) rs).offset ≡ start + size (before_value a)
  pub len : (record_at (place + 1) rs).len ≡ size (written_pieces a.value)
  pub stops : stop ≡ start + size (before_value a) + size (written_pieces a.value) + 1

pub attribute_value : (bytes : List ℕ) (lists : Lists) (nest : Forest) → IsNestOf bytes lists nest → (kind : Kind) (at : ℕ) (e : Entry) →
    Identifies kind at e (nodes_of bytes nest) → (a : Attribute) → e.what ≡ Thing.attribute a →
    ValueShown (records nest (first_place bytes)) a e.start e.stop at e.past
attribute_value bytes lists nest s kind at e w a is =
    let first = first_place bytes in
    let rs = records nest first in
    let l = length e.holders in
    let d = s.accepted.document in
    let r : HasRecords rs e = records_of_node nest first d.nests e w.0 in
    let c : ClosesIn bytes e = each_at (ClosesIn bytes) (all nest first) e (all_close bytes nest d) w.0 in
    let mine = records_of (Thing.attribute a) l e.start in
    let split : rs ≡ r.prefix ++ mine ++ r.rest = r.split ∙ ap (λ x. r.prefix ++ records_of x l e.start ++ r.rest) is in
    let place : length r.prefix + 1 ≡ at + 1 = omega (arith, r.begins, w.2) in
    let second : record_at (at + 1) rs ≡ record_at 1 mine = ap (λ n. record_at n rs) (sym place)
    ∙ in_place rs r.prefix mine r.rest 1 split (omega arith) in
    record {
      two = omega (arith, w.2, r.stops, ap (λ x. length (records_of x l e.start)) is);
      offset = ap (λ r. r.offset) second;
      len = ap (λ r. r.len) second;
      stops = (subst (λ x. Closes bytes x l e.start e.stop) is c).0;
    }

-- What the calls answer.

inside_ends : (bytes : List ℕ) (lists : Lists) → length bytes < 2 ^ 30 → (node : Node) → (parts : Parts) → ArePartsAt lists.records node.at parts →
    (past : ℕ) → PastOf bytes lists node past → (nest : Forest) → IsNestOf bytes lists nest →
    (e : Entry) → Identifies node.kind node.at e (nodes_of bytes nest) → (t : Tag) (inside : Forest) → e.what ≡ Thing.element t inside →
    begins_at bytes e.start (empty_tag t) ≡ false →
    IsEnding bytes (records nest (first_place bytes)) (parts.depth + 1) (past_forest (past_start e.start t) inside) (suc (past - 1))
inside_ends bytes lists few node parts p past q nest s e w t inside is o =
    let rs = records nest (first_place bytes) in
    let shown : NodeShown bytes rs node.kind node.at e = node_shown bytes lists nest s node.kind node.at e w in
    let tags : TagsShown bytes rs t inside (length e.holders) e.start e.stop node.at e.past =
    element_tags bytes lists nest s node.kind node.at e w t inside is in
    let depth : (record_at node.at rs).depth ≡ length e.holders = shown.span.depth (sym w.1 ∙ ap kind_of is) in
    let level : suc (length e.holders) ≡ parts.depth + 1 = omega (arith, depth, ap (λ r. r.depth) (p rs (nest_shown bytes lists nest few s))) in
    let count : e.past ≡ suc (past - 1) = omega (arith, q nest s e w, shown.some) in
    let stop = past_forest (past_start e.start t) inside in
    subst (λ n. IsEnding bytes rs (parts.depth + 1) stop n) count
    (subst (λ l. IsEnding bytes rs l stop e.past) level (tags.inner (sym tags.is_closed ∙ o)))

pub inside_has : (bytes : List ℕ) (lists : Lists) → length bytes < 2 ^ 30 → (node : Node) → HasEndTag bytes lists node → (parts : Parts) →
    ArePartsAt lists.records node.at parts → (past : ℕ) → PastOf bytes lists node past → HasEnding bytes lists.records (parts.depth + 1) (past - 1)
inside_has bytes lists few node h parts p past q =
    record {
      rs = records h.nest (first_place bytes);
      shows = nest_shown bytes lists h.nest few h.shown;
      stop = _;
      is =
          inside_ends bytes lists few node parts p past q h.nest h.shown h.entry h.holds h.tag h.inside h.is h.open_tag;
    }

pub inside_found : (bytes : List ℕ) (lists : Lists) → length bytes < 2 ^ 30 → (node : Node) → (parts : Parts) →
    ArePartsAt lists.records node.at parts → (past : ℕ) → PastOf bytes lists node past → (result : ℕ) →
    ((rs : List Record) → Shows lists.records rs → (stop : ℕ) → IsEnding bytes rs (parts.depth + 1) stop (suc (past - 1)) → result ≡ stop) →
    (nest : Forest) → IsNestOf bytes lists nest →
    (e : Entry) → Identifies node.kind node.at e (nodes_of bytes nest) → (t : Tag) (inside : Forest) → e.what ≡ Thing.element t inside →
    begins_at bytes e.start (empty_tag t) ≡ false → result ≡ past_forest (past_start e.start t) inside
inside_found bytes lists few node parts p past q result r nest s e w t inside is o =
    r (records nest (first_place bytes)) (nest_shown bytes lists nest few s) _ (inside_ends bytes lists few node parts p past q nest s e w t inside is o)

pub tag_has : (bytes : List ℕ) (lists : Lists) → length bytes < 2 ^ 30 → (node : Node) → IsNodeOf bytes lists node → node.kind ≡ kinds.Element →
    HasTagOf bytes lists.records node.at
tag_has bytes lists few node n k =
    let rs = records n.nest (first_place bytes) in
    let x = element_of n.entry.what (n.holds.1 ∙ k) in
    let tags : TagsShown bytes rs x.0 x.1 (length n.entry.holders) n.entry.start n.entry.stop node.at n.entry.past =
    element_tags bytes lists n.nest n.shown node.kind node.at n.entry n.holds x.0 x.1 x.2 in
    record { rs = rs; shows = nest_shown bytes lists n.nest few n.shown; at = n.entry.start; closed = tags.closed; tag = x.0; is = tags.tag }

abbrev pub Finds : List ℕ → Lists → ℕ → ItemShown → Type 0
Finds bytes lists at found = (rs : List Record) → Shows lists.records rs → FindsTag bytes rs at found

same_tags : (name name' : Span) (a a' b b' : ℕ) (c c' : Bool) → name ≡ name' → a ≡ a' → b ≡ b' → c ≡ c' →
    ◌≡◌ {A = Tags} (record { name = name; head_end = a; tail_start = b; empty = c }) (record { name = name'; head_end = a'; tail_start = b'; empty = c' })
same_tags name name' a a' b b' c c' p q r s = cc

tag_name : (closed : Bool) (at : ℕ) (t : Tag) → (item_shown at (tag_item closed t)).name ≡ span_from (at + 1) t.name
tag_name true at t = refl
tag_name false at t = refl

pub empty_tags : (bytes : List ℕ) (lists : Lists) → length bytes < 2 ^ 30 → (node : Node) → (found : ItemShown) → Finds bytes lists node.at found →
    found.kind ≡ item_kinds.EmptyTag → (nest : Forest) → IsNestOf bytes lists nest →
    (e : Entry) → Identifies node.kind node.at e (nodes_of bytes nest) → (t : Tag) (inside : Forest) → e.what ≡ Thing.element t inside →
    ◌≡◌ {A = Tags} (record { name = found.name; head_end = found.span.end; tail_start = found.span.end; empty = true })
    (tags_by (begins_at bytes e.start (empty_tag t)) t inside e.start e.stop)
empty_tags bytes lists few node found f k nest s e w t inside is =
    let rs = records nest (first_place bytes) in
    let tags : TagsShown bytes rs t inside (length e.holders) e.start e.stop node.at e.past =
    element_tags bytes lists nest s node.kind node.at e w t inside is in
    let shown : found ≡ item_shown e.start (tag_item tags.closed t) = f rs (nest_shown bytes lists nest few s) e.start tags.closed t tags.tag in
    let closed : tags.closed ≡ true = empty_kind found.kind tags.closed k (ap (λ x. x.kind) shown ∙ tag_kind_of tags.closed e.start t) in
    let end : found.span.end ≡ e.stop = ap (λ x. x.span.end) shown ∙ ap (λ c. (item_shown e.start (tag_item c t)).span.end) closed
    ∙ empty_spelled t e.start ∙ sym (tags.itself closed) in
    same_tags _ _ _ _ _ _ _ _ (ap (λ x. x.name) shown ∙ tag_name tags.closed e.start t) end end refl
    ∙ ap (λ c. tags_by c t inside e.start e.stop) (sym (tags.is_closed ∙ closed))

pub two_tags : (bytes : List ℕ) (lists : Lists) → length bytes < 2 ^ 30 → (node : Node) → (found : ItemShown) → Finds bytes lists node.at found →
    (found.kind ≡ item_kinds.EmptyTag → ⊥) → (tail : ℕ) →
    ((nest : Forest) → IsNestOf bytes lists nest → (e : Entry) → Identifies node.kind node.at e (nodes_of bytes nest) → (t : Tag) (inside : Forest) →
    e.what ≡ Thing.element t inside → begins_at bytes e.start (empty_tag t) ≡ false → tail ≡ past_forest (past_start e.start t) inside) →
    (nest : Forest) → IsNestOf bytes lists nest → (e : Entry) → Identifies node.kind node.at e (nodes_of bytes nest) → (t : Tag) (inside : Forest) →
    e.what ≡ Thing.element t inside →
    ◌≡◌ {A = Tags} (record { name = found.name; head_end = found.span.end; tail_start = tail; empty = false })
    (tags_by (begins_at bytes e.start (empty_tag t)) t inside e.start e.stop)
two_tags bytes lists few node found f k tail r nest s e w t inside is =
    let rs = records nest (first_place bytes) in
    let tags : TagsShown bytes rs t inside (length e.holders) e.start e.stop node.at e.past =
    element_tags bytes lists nest s node.kind node.at e w t inside is in
    let shown : found ≡ item_shown e.start (tag_item tags.closed t) = f rs (nest_shown bytes lists nest few s) e.start tags.closed t tags.tag in
    let closed : tags.closed ≡ false = start_kind found.kind tags.closed k (ap (λ x. x.kind) shown ∙ tag_kind_of tags.closed e.start t) in
    let end : found.span.end ≡ past_start e.start t = ap (λ x. x.span.end) shown ∙ ap (λ c. (item_shown e.start (tag_item c t)).span.end) closed
    ∙ start_spelled t e.start in
    same_tags _ _ _ _ _ _ _ _ (ap (λ x. x.name) shown ∙ tag_name tags.closed e.start t) end (r nest s e w t inside is (tags.is_closed ∙ closed)) refl
    ∙ ap (λ c. tags_by c t inside e.start e.stop) (sym (tags.is_closed ∙ closed))

-- an element whose first tag is no empty tag has an end tag
pub has_end_tag : (bytes : List ℕ) (lists : Lists) → length bytes < 2 ^ 30 → (node : Node) → IsNodeOf bytes lists node → node.kind ≡ kinds.Element →
    (found : ItemShown) → Finds bytes lists node.at found → (found.kind ≡ item_kinds.EmptyTag → ⊥) →
    HasEndTag bytes lists node
has_end_tag bytes lists few node n k found f o =
    let rs = records n.nest (first_place bytes) in
    let e = n.entry in
    let x = element_of e.what (n.holds.1 ∙ k) in
    let tags : TagsShown bytes rs x.0 x.1 (length e.holders) e.start e.stop node.at e.past =
    element_tags bytes lists n.nest n.shown node.kind node.at e n.holds x.0 x.1 x.2 in
    let shown : found ≡ item_shown e.start (tag_item tags.closed x.0) =
    f rs (nest_shown bytes lists n.nest few n.shown) e.start tags.closed x.0 tags.tag in
    let closed : tags.closed ≡ false = start_kind found.kind tags.closed o (ap (λ y. y.kind) shown ∙ tag_kind_of tags.closed e.start x.0) in
    record { nest = n.nest; shown = n.shown; entry = e; holds = n.holds; tag = x.0; inside = x.1; is = x.2; open_tag = tags.is_closed ∙ closed }

pub record ValueFound (a : Attribute) (start stop : ℕ) (parts : Parts) : Type 0 where
  pub offset : parts.offset ≡ start + size (before_value a)
  pub len : parts.length ≡ size (written_pieces a.value)
  pub stops : stop ≡ start + size (before_value a) + size (written_pieces a.value) + 1

value_of : (bytes : List ℕ) (lists : Lists) → length bytes < 2 ^ 30 → (node : Node) → (past : ℕ) → PastOf bytes lists node past → (parts : Parts) →
    ArePartsAt lists.records (past - 1) parts → (nest : Forest) → IsNestOf bytes lists nest →
    (e : Entry) → Identifies node.kind node.at e (nodes_of bytes nest) → (a : Attribute) → e.what ≡ Thing.attribute a → ValueFound a e.start e.stop parts
value_of bytes lists few node past q parts p nest s e w a is =
    let rs = records nest (first_place bytes) in
    let shown : ValueShown rs a e.start e.stop node.at e.past = attribute_value bytes lists nest s node.kind node.at e w a is in
    let span : NodeShown bytes rs node.kind node.at e = node_shown bytes lists nest s node.kind node.at e w in
    let last : past - 1 ≡ node.at + 1 = omega (arith, q nest s e w, shown.two) in
    let same : record_of parts ≡ record_at (node.at + 1) rs = p rs (nest_shown bytes lists nest few s) ∙ ap (λ n. record_at n rs) last in
    record { offset = ap (λ r. r.offset) same ∙ shown.offset; len = ap (λ r. r.len) same ∙ shown.len; stops = shown.stops }

same_span : (a a' b b' : ℕ) → a ≡ a' → b ≡ b' → ◌≡◌ {A = Span} (record { start = a; end = b }) (record { start = a'; end = b' })
same_span a a' b b' p q = cc

-- the first record of an element is that of its name
pub name_found : (bytes : List ℕ) (lists : Lists) → length bytes < 2 ^ 30 → (node : Node) (parts : Parts) → ArePartsAt lists.records node.at parts →
    (nest : Forest) → IsNestOf bytes lists nest → (e : Entry) → Identifies node.kind node.at e (nodes_of bytes nest) →
    (t : Tag) (inside : Forest) → e.what ≡ Thing.element t inside →
    ◌≡◌ {A = Span} (record { start = parts.offset; end = parts.offset + parts.length }) (span_from (e.start + 1) t.name)
name_found bytes lists few node parts p nest s e w t inside is =
    let first = first_place bytes in
    let rs = records nest first in
    let l = length e.holders in
    let own = tag_records l e.start t ++ forest_records (suc l) (past_start e.start t) inside in
    let r : HasRecords rs e = records_of_node nest first s.accepted.document.nests e w.0 in
    let mine : records_of e.what l e.start ≡ own = ap (λ x. records_of x l e.start) is in
    let head : record_at e.index rs ≡ named 0 l t.name (e.start + 1) =
    first_in rs r.prefix own r.rest e.index (r.split ∙ ap (λ ts. r.prefix ++ ts ++ r.rest) mine) r.begins (omega arith) in
    let same : record_of parts ≡ named 0 l t.name (e.start + 1) =
    record_shown bytes lists few node.at parts p nest s ∙ ap (λ n. record_at n rs) (sym w.2) ∙ head in
    same_span _ _ _ _ (ap (λ x. x.offset) same) (ap (λ x. x.offset + x.len) same)

pub value_found : (bytes : List ℕ) (lists : Lists) → length bytes < 2 ^ 30 → (node : Node) → (past : ℕ) → PastOf bytes lists node past →
    (parts : Parts) → ArePartsAt lists.records (past - 1) parts → (nest : Forest) → IsNestOf bytes lists nest →
    (e : Entry) → Identifies node.kind node.at e (nodes_of bytes nest) → (a : Attribute) → e.what ≡ Thing.attribute a →
    ◌≡◌ {A = Span} (record { start = parts.offset; end = parts.offset + parts.length })
    (span_from (e.start + size (before_value a)) (written_pieces a.value))
value_found bytes lists few node past q parts p nest s e w a is =
    let v : ValueFound a e.start e.stop parts = value_of bytes lists few node past q parts p nest s e w a is in
    same_span _ _ _ _ v.offset (omega (arith, v.offset, v.len))

pub quote_found : (bytes : List ℕ) (lists : Lists) → length bytes < 2 ^ 30 → (node : Node) → node.kind ≡ kinds.Attribute → (past : ℕ) →
    PastOf bytes lists node past → (parts : Parts) → ArePartsAt lists.records (past - 1) parts → (nest : Forest) → IsNestOf bytes lists nest →
    (e : Entry) → Identifies node.kind node.at e (nodes_of bytes nest) → parts.offset + parts.length + 1 ≡ e.stop
quote_found bytes lists few node k past q parts p nest s e w =
    let x = attribute_of e.what (w.1 ∙ k) in
    let v : ValueFound x.0 e.start e.stop parts = value_of bytes lists few node past q parts p nest s e w x.0 x.1 in
    omega (arith, v.offset, v.len, v.stops)
