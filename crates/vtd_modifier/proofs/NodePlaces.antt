-- What the calls on the parts of a node answer, of the node in each nest of its table.
use Rattle.std.proofs.Common.{◌≡◌, ℕ, suc, ◌+◌, ◌-◌, ◌<◌, ◌≤◌, ◌^◌, Bool, true, false, ◌==◌, List, ◌++◌, length, get_or, refl, ap, sym, ◌∙◌, subst, arith}
use Rattle.std.proofs.lemmas.Bool.{false_from_ne_true, eqb-true}
use Rattle.xml_model.specs.declared.Kind.TheVariants as kinds
use Rattle.xml_model.specs.declared.Kind.{Kind}
use Rattle.xml_model.specs.declared.Node.{Node}
use Rattle.xml_model.specs.declared.Span.{Span}
use Rattle.xml_model.specs.Chars.{size}
use Rattle.xml_model.specs.Items.{Attribute, Instruction, first_place, quote_char}
use Rattle.xml_model.specs.Laws.{HasRecords, records_of}
use Rattle.xml_model.specs.Nest.{Forest}
use Rattle.xml_model.specs.Records.{Record, records}
use Rattle.xml_model.specs.Scan.{record_at}
use Rattle.xml_model.specs.Tree.{Thing, Entry, Identifies, all, one_if}
use Rattle.xml_model.proofs.Each.{each_at}
use Rattle.xml_model.proofs.NodeLaws.{records_of_node}
use Rattle.xml_model.proofs.Things.{attribute_of}
use Rattle.xml_chars.specs.Places.{span_from}
use Rattle.vtd_words.specs.declared.packing.Parts.{Parts}
use Rattle.vtd_words.specs.Lists.{Lists}
use Rattle.vtd_words.specs.Packed.{record_of}
use Rattle.vtd_words.specs.Table.{ArePartsAt, IsNestOf, IsNodeOf, nodes_of}
use Rattle.vtd_words.proofs.Nodes.{record_shown}
use Rattle.vtd_cursor.proofs.Closing.{Closes, ClosesIn, all_close}
use Rattle.vtd_cursor.proofs.NodeSpans.{first_in}
use Rattle.vtd_modifier.specs.Parts.{parts_of, part_of}
use Rattle.vtd_modifier.specs.Rows.{IsPart}
use Rattle.vtd_modifier.proofs.AttributePlaces.{AttributeShown, Shown, ShownOf, all_shown, token_end}
use Rattle.vtd_modifier.proofs.BytesThere.{ByteIs}
use Rattle.vtd_modifier.proofs.ElementPlaces.{are_tags}

-- the first record of a node
head_record : (bytes : List ℕ) (lists : Lists) → length bytes < 2 ^ 30 → (node : Node) (parts : Parts) → ArePartsAt lists.records node.at parts →
    (nest : Forest) → IsNestOf bytes lists nest → (e : Entry) → Identifies node.kind node.at e (nodes_of bytes nest) →
    (what : Thing) → e.what ≡ what → 0 < length (records_of what (length e.holders) e.start) →
    record_of parts ≡ record_at 0 (records_of what (length e.holders) e.start)
head_record bytes lists few node parts p nest s e w what is some =
    let first = first_place bytes in
    let rs = records nest first in
    let own = records_of what (length e.holders) e.start in
    let r : HasRecords rs e = records_of_node nest first s.accepted.document.nests e w.0 in
    let split : rs ≡ r.prefix ++ own ++ r.rest = r.split ∙ ap (λ x. r.prefix ++ records_of x (length e.holders) e.start ++ r.rest) is in
    record_shown bytes lists few node.at parts p nest s ∙ ap (λ n. record_at n rs) (sym w.2)
    ∙ first_in rs r.prefix own r.rest e.index split r.begins some

same_span : (a a' b b' : ℕ) → a ≡ a' → b ≡ b' → ◌≡◌ {A = Span} (record { start = a; end = b }) (record { start = a'; end = b' })
same_span a a' b b' p q = cc

pub attribute_name : (bytes : List ℕ) (lists : Lists) → length bytes < 2 ^ 30 → (node : Node) (parts : Parts) → ArePartsAt lists.records node.at parts →
    (nest : Forest) → IsNestOf bytes lists nest → (e : Entry) → Identifies node.kind node.at e (nodes_of bytes nest) →
    (a : Attribute) → e.what ≡ Thing.attribute a →
    ◌≡◌ {A = Span} (record { start = parts.offset; end = parts.offset + parts.length }) (span_from e.start a.name)
attribute_name bytes lists few node parts p nest s e w a is =
    let same = head_record bytes lists few node parts p nest s e w (Thing.attribute a) is (omega arith) in
    same_span _ _ _ _ (ap (λ x. x.offset) same) (ap (λ x. x.offset + x.len) same)

pub instruction_target : (bytes : List ℕ) (lists : Lists) → length bytes < 2 ^ 30 → (node : Node) (parts : Parts) → ArePartsAt lists.records node.at parts →
    (nest : Forest) → IsNestOf bytes lists nest → (e : Entry) → Identifies node.kind node.at e (nodes_of bytes nest) →
    (i : Instruction) → e.what ≡ Thing.instruction i →
    ◌≡◌ {A = Span} (record { start = parts.offset; end = parts.offset + parts.length }) (span_from (e.start + 2) i.target)
instruction_target bytes lists few node parts p nest s e w i is =
    let same = head_record bytes lists few node parts p nest s e w (Thing.instruction i) is (omega arith) in
    same_span _ _ _ _ (ap (λ x. x.offset) same) (ap (λ x. x.offset + x.len) same)

-- what the records and the bytes say of an attribute
shown_at : (bytes : List ℕ) (lists : Lists) (nest : Forest) → IsNestOf bytes lists nest → (kind : Kind) (at : ℕ) (e : Entry) →
    Identifies kind at e (nodes_of bytes nest) → (a : Attribute) → e.what ≡ Thing.attribute a →
    AttributeShown bytes (records nest (first_place bytes)) a at e.start e.stop
shown_at bytes lists nest s kind at e w a is =
    let first = first_place bytes in
    let rs = records nest first in
    let mine : Shown bytes rs e = each_at (Shown bytes rs) (all nest first) e (all_shown bytes nest s.accepted.document) w.0 in
    subst (λ n. AttributeShown bytes rs a n e.start e.stop) w.2 (subst (λ x. ShownOf bytes rs x e.index e.start e.stop) is mine)

pub later_record : (bytes : List ℕ) (lists : Lists) (node : Node) → IsNodeOf bytes lists node → node.kind ≡ kinds.Attribute → 1 ≤ node.at
later_record bytes lists node n k =
    let x = attribute_of n.entry.what (n.holds.1 ∙ k) in
    let shown : AttributeShown bytes (records n.nest (first_place bytes)) x.0 node.at n.entry.start n.entry.stop =
    shown_at bytes lists n.nest n.shown node.kind node.at n.entry n.holds x.0 x.1 in
    shown.some

space_at : (bytes : List ℕ) (lists : Lists) → length bytes < 2 ^ 30 → (node : Node) (parts : Parts) → ArePartsAt lists.records (node.at - 1) parts →
    (nest : Forest) → IsNestOf bytes lists nest → (e : Entry) → Identifies node.kind node.at e (nodes_of bytes nest) →
    (a : Attribute) → e.what ≡ Thing.attribute a → (b : Bool) → (parts.token == 4) ≡ b →
    parts.offset + parts.length + one_if b ≡ e.start - size a.space
space_at bytes lists few node parts p nest s e w a is b t =
    let rs = records nest (first_place bytes) in
    let shown : AttributeShown bytes rs a node.at e.start e.stop = shown_at bytes lists nest s node.kind node.at e w a is in
    let same : record_of parts ≡ record_at (node.at - 1) rs = record_shown bytes lists few (node.at - 1) parts p nest s in
    ap (λ c. parts.offset + parts.length + one_if c) (sym t) ∙ ap token_end same ∙ shown.before

pub space_after_value : (bytes : List ℕ) (lists : Lists) → length bytes < 2 ^ 30 → (node : Node) (parts : Parts) → ArePartsAt lists.records (node.at - 1) parts →
    parts.token ≡ 4 → (nest : Forest) → IsNestOf bytes lists nest → (e : Entry) → Identifies node.kind node.at e (nodes_of bytes nest) →
    (a : Attribute) → e.what ≡ Thing.attribute a → parts.offset + parts.length + 1 ≡ e.start - size a.space
space_after_value bytes lists few node parts p t nest s e w a is =
    space_at bytes lists few node parts p nest s e w a is true (ap (λ n. n == 4) t)

pub space_after_name : (bytes : List ℕ) (lists : Lists) → length bytes < 2 ^ 30 → (node : Node) (parts : Parts) → ArePartsAt lists.records (node.at - 1) parts →
    (parts.token ≡ 4 → ⊥) → (nest : Forest) → IsNestOf bytes lists nest → (e : Entry) → Identifies node.kind node.at e (nodes_of bytes nest) →
    (a : Attribute) → e.what ≡ Thing.attribute a → parts.offset + parts.length ≡ e.start - size a.space
space_after_name bytes lists few node parts p t nest s e w a is =
    let end : parts.offset + parts.length + 0 ≡ e.start - size a.space =
    space_at bytes lists few node parts p nest s e w a is false (false_from_ne_true _ (λ h. t (eqb-true parts.token 4 h))) in
    omega (arith, end)

-- the byte before the end of an attribute is its quote
pub quote_at : (bytes : List ℕ) (lists : Lists) (node : Node) (at : ℕ) (nest : Forest) → IsNestOf bytes lists nest → (e : Entry) →
    Identifies node.kind node.at e (nodes_of bytes nest) → at + 1 ≡ e.stop → (a : Attribute) → e.what ≡ Thing.attribute a →
    ByteIs bytes at (quote_char a.quote)
quote_at bytes lists node at nest s e w stop a is =
    let shown : AttributeShown bytes (records nest (first_place bytes)) a node.at e.start e.stop = shown_at bytes lists nest s node.kind node.at e w a is in
    let last : shown.last ≡ at = omega (arith, stop, shown.stops) in
    subst (λ n. ByteIs bytes n (quote_char a.quote)) last shown.quote

pub quote_room : (bytes : List ℕ) (lists : Lists) (node : Node) → IsNodeOf bytes lists node → node.kind ≡ kinds.Attribute → (at : ℕ) →
    ((nest : Forest) → IsNestOf bytes lists nest → (e : Entry) → Identifies node.kind node.at e (nodes_of bytes nest) → at + 1 ≡ e.stop) →
    at < length bytes
quote_room bytes lists node n k at stop =
    let x = attribute_of n.entry.what (n.holds.1 ∙ k) in
    let byte : ByteIs bytes at (quote_char x.0.quote) =
    quote_at bytes lists node at n.nest n.shown n.entry n.holds (stop n.nest n.shown n.entry n.holds) x.0 x.1 in
    byte.within

parts_within : (bytes : List ℕ) (what : Thing) (l start stop : ℕ) → length bytes < 2 ^ 30 → Closes bytes what l start stop →
    IsPart (length bytes) (parts_of bytes what start stop)
parts_within bytes (Thing.root first f) l start stop few c = tt
parts_within bytes (Thing.element t inside) l start stop few c = are_tags bytes t inside start stop few c
parts_within bytes (Thing.attribute a) l start stop few c = tt
parts_within bytes (Thing.text xs) l start stop few c = tt
parts_within bytes (Thing.comment cs) l start stop few c = tt
parts_within bytes (Thing.instruction i) l start stop few c = tt

pub part_within : (bytes : List ℕ) (lists : Lists) → length bytes < 2 ^ 30 → (nest : Forest) → IsNestOf bytes lists nest → (kind : Kind) (at : ℕ) (e : Entry) →
    Identifies kind at e (nodes_of bytes nest) → IsPart (length bytes) (part_of bytes e)
part_within bytes lists few nest s kind at e w =
    let first = first_place bytes in
    let c : ClosesIn bytes e = each_at (ClosesIn bytes) (all nest first) e (all_close bytes nest s.accepted.document) w.0 in
    parts_within bytes e.what (length e.holders) e.start e.stop few c
