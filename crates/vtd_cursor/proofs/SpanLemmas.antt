-- What the calls on spans answer, of a node in each nest of its table.
use Rattle.std.proofs.Common.{◌≡◌, ℕ, suc, ◌+◌, ◌-◌, ◌<◌, ◌≤◌, ◌^◌, List, length, ap, sym, ◌∙◌, subst, arith}
use Rattle.xml_model.specs.declared.Kind.TheVariants as kinds
use Rattle.xml_model.specs.declared.Node.{Node}
use Rattle.xml_model.specs.Items.{first_place}
use Rattle.xml_model.specs.Nest.{Forest}
use Rattle.xml_model.specs.Records.{Record, records}
use Rattle.xml_model.specs.Tree.{Entry, Identifies}
use Rattle.xml_model.specs.Scan.{record_at}
use Rattle.vtd_words.specs.declared.packing.Parts.{Parts}
use Rattle.vtd_words.specs.Lists.{Lists}
use Rattle.vtd_words.specs.Packed.{record_of}
use Rattle.vtd_words.specs.Table.{ArePartsAt, IsNestOf, IsNodeOf, Shows, nodes_of}
use Rattle.vtd_words.proofs.Fitting.{nest_shown}
use Rattle.vtd_cursor.specs.Endings.{opening, record_end, IsEnding, HasEnding}
use Rattle.vtd_cursor.proofs.NodeSpans.{Begins, NodeShown, node_shown}
use Rattle.vtd_words.proofs.Shown.{shown_length}

-- the first record past a node's, in each nest
abbrev pub PastOf : List ℕ → Lists → Node → ℕ → Type 0
PastOf bytes lists node past = (nest : Forest) → IsNestOf bytes lists nest → (e : Entry) → Identifies node.kind node.at e (nodes_of bytes nest) →
    past ≡ e.past

begins_of : (bytes : List ℕ) (lists : Lists) → length bytes < 2 ^ 30 → (node : Node) → (node.kind ≡ kinds.Root → ⊥) → (parts : Parts) →
    ArePartsAt lists.records node.at parts → (nest : Forest) → IsNestOf bytes lists nest →
    (e : Entry) → Identifies node.kind node.at e (nodes_of bytes nest) → parts.offset ≡ e.start + opening parts.token
begins_of bytes lists few node k parts p nest s e w =
    let rs = records nest (first_place bytes) in
    let same : record_of parts ≡ record_at node.at rs = p rs (nest_shown bytes lists nest few s) in
    let shown : NodeShown bytes rs node.kind node.at e = node_shown bytes lists nest s node.kind node.at e w in
    let begins : Begins rs e.start node.at = shown.span.begins k in
    ap (λ r. r.offset) same ∙ begins ∙ ap (λ r. e.start + opening r.token) (sym same)

pub start_opens : (bytes : List ℕ) (lists : Lists) → length bytes < 2 ^ 30 → (node : Node) → IsNodeOf bytes lists node → (node.kind ≡ kinds.Root → ⊥) →
    (parts : Parts) → ArePartsAt lists.records node.at parts → opening parts.token ≤ parts.offset
start_opens bytes lists few node n k parts p = omega (arith, begins_of bytes lists few node k parts p n.nest n.shown n.entry n.holds)

pub start_found : (bytes : List ℕ) (lists : Lists) → length bytes < 2 ^ 30 → (node : Node) → (node.kind ≡ kinds.Root → ⊥) → (parts : Parts) →
    ArePartsAt lists.records node.at parts → (result : ℕ) → result ≡ parts.offset - opening parts.token →
    (nest : Forest) → IsNestOf bytes lists nest → (e : Entry) → Identifies node.kind node.at e (nodes_of bytes nest) → result ≡ e.start
start_found bytes lists few node k parts p result r nest s e w = omega (arith, r, begins_of bytes lists few node k parts p nest s e w)

-- the last record of a node
pub record LastRoom (words : List ℕ) (past : ℕ) : Type 0 where
  pub some : 1 ≤ past
  pub within : past - 1 < length words

pub last_room : (bytes : List ℕ) (lists : Lists) → length bytes < 2 ^ 30 → (node : Node) → IsNodeOf bytes lists node → (past : ℕ) →
    PastOf bytes lists node past → LastRoom lists.records past
last_room bytes lists few node n past p =
    let rs = records n.nest (first_place bytes) in
    let shown : NodeShown bytes rs node.kind node.at n.entry = node_shown bytes lists n.nest n.shown node.kind node.at n.entry n.holds in
    let same : past ≡ n.entry.past = p n.nest n.shown n.entry n.holds in
    let many : length lists.records ≡ length rs = shown_length lists.records rs (nest_shown bytes lists n.nest few n.shown) in
    record { some = omega (arith, same, shown.some); within = omega (arith, same, shown.some, shown.within, many) }

-- an element of a table ends where the end tags after its last piece do
ending_of : (bytes : List ℕ) (lists : Lists) → length bytes < 2 ^ 30 → (node : Node) → node.kind ≡ kinds.Element → (parts : Parts) →
    ArePartsAt lists.records node.at parts → (past : ℕ) → PastOf bytes lists node past →
    (nest : Forest) → IsNestOf bytes lists nest → (e : Entry) → Identifies node.kind node.at e (nodes_of bytes nest) →
    IsEnding bytes (records nest (first_place bytes)) parts.depth e.stop (suc (past - 1))
ending_of bytes lists few node k parts p past q nest s e w =
    let rs = records nest (first_place bytes) in
    let shown : NodeShown bytes rs node.kind node.at e = node_shown bytes lists nest s node.kind node.at e w in
    let level : length e.holders ≡ parts.depth = sym (shown.span.depth k) ∙ sym (ap (λ r. r.depth) (p rs (nest_shown bytes lists nest few s))) in
    let count : e.past ≡ suc (past - 1) = omega (arith, q nest s e w, shown.some) in
    subst (λ n. IsEnding bytes rs parts.depth e.stop n) count (subst (λ l. IsEnding bytes rs l e.stop e.past) level (shown.span.element k))

pub element_has : (bytes : List ℕ) (lists : Lists) → length bytes < 2 ^ 30 → (node : Node) → IsNodeOf bytes lists node → node.kind ≡ kinds.Element →
    (parts : Parts) → ArePartsAt lists.records node.at parts → (past : ℕ) → PastOf bytes lists node past →
    HasEnding bytes lists.records parts.depth (past - 1)
element_has bytes lists few node n k parts p past q =
    record {
      rs = records n.nest (first_place bytes);
      shows = nest_shown bytes lists n.nest few n.shown;
      stop = n.entry.stop;
      is =
          ending_of bytes lists few node k parts p past q n.nest n.shown n.entry n.holds;
    }

pub element_found : (bytes : List ℕ) (lists : Lists) → length bytes < 2 ^ 30 → (node : Node) → node.kind ≡ kinds.Element → (parts : Parts) →
    ArePartsAt lists.records node.at parts → (past : ℕ) → PastOf bytes lists node past → (result : ℕ) →
    ((rs : List Record) → Shows lists.records rs → (stop : ℕ) → IsEnding bytes rs parts.depth stop (suc (past - 1)) → result ≡ stop) →
    (nest : Forest) → IsNestOf bytes lists nest → (e : Entry) → Identifies node.kind node.at e (nodes_of bytes nest) → result ≡ e.stop
element_found bytes lists few node k parts p past q result r nest s e w =
    r (records nest (first_place bytes)) (nest_shown bytes lists nest few s) e.stop (ending_of bytes lists few node k parts p past q nest s e w)

-- any other node ends where its last record says
pub last_found : (bytes : List ℕ) (lists : Lists) → length bytes < 2 ^ 30 → (node : Node) → (node.kind ≡ kinds.Root → ⊥) →
    (node.kind ≡ kinds.Element → ⊥) → (past : ℕ) → PastOf bytes lists node past →
    (parts : Parts) → ArePartsAt lists.records (past - 1) parts → (result : ℕ) → result ≡ record_end (record_of parts) →
    (nest : Forest) → IsNestOf bytes lists nest → (e : Entry) → Identifies node.kind node.at e (nodes_of bytes nest) → result ≡ e.stop
last_found bytes lists few node k m past q parts p result r nest s e w =
    let rs = records nest (first_place bytes) in
    let shown : NodeShown bytes rs node.kind node.at e = node_shown bytes lists nest s node.kind node.at e w in
    r ∙ ap record_end (p rs (nest_shown bytes lists nest few s)) ∙ ap (λ n. record_end (record_at (n - 1) rs)) (q nest s e w) ∙ shown.span.other k m

pub root_span : (bytes : List ℕ) (lists : Lists) (node : Node) → node.kind ≡ kinds.Root → (nest : Forest) → IsNestOf bytes lists nest → (e : Entry) →
    Identifies node.kind node.at e (nodes_of bytes nest) → (e.start ≡ 0) × (e.stop ≡ length bytes)
root_span bytes lists node k nest s e w = (node_shown bytes lists nest s node.kind node.at e w).span.root k
