-- What the records of a table say of a node, by its place among them.
use Rattle.std.proofs.Common.{◌≡◌, ℕ, zero, suc, ◌+◌, ◌-◌, ◌<◌, ◌≤◌, ◌^◌, List, [], ◌∷◌, ◌++◌, length, take, drop, refl, sym, ap, subst, ◌∙◌, arith, append_assoc, length-append, zero-add, suc-add, ◌⊎◌, inl, inr, ap₂, Bool, cond, le-leb}
use Rattle.std.specs.List.{AllByRecursion as Each}
use Rattle.std.proofs.lemmas.Bool.{lt-leb}
use Rattle.std.proofs.lemmas.List.{take_at, drop_at}
use Rattle.xml_model.specs.declared.Kind.{Kind}
use Rattle.xml_model.specs.declared.Kind.TheVariants as kinds
use Rattle.xml_model.specs.declared.Node.{Node}
use Rattle.xml_model.specs.Nest.{Forest}
use Rattle.xml_model.specs.Items.{Tag, first_place}
use Rattle.xml_model.specs.Records.{Record, named, records, run_records}
use Rattle.xml_model.specs.Wholes.{wholes}
use Rattle.xml_model.specs.Tree.{Thing, Entry, Identifies, kind_of, all}
use Rattle.xml_model.specs.Scan.{record_at, level_of}
use Rattle.xml_model.specs.Content.{content}
use Rattle.xml_model.specs.Laws.{HasRecords, records_of}
use Rattle.xml_model.proofs.Each.{each_at}
use Rattle.xml_model.proofs.Fits.{Fits, Below, second_part}
use Rattle.xml_model.proofs.Inside.{fits_of}
use Rattle.xml_model.proofs.NodeLaws.{records_of_node}
use Rattle.vtd_words.specs.Lists.{Lists}
use Rattle.vtd_words.specs.Table.{IsNestOf, IsNodeOf, Shows, nodes_of, fewest_records}
use Rattle.vtd_words.proofs.Nodes.{node_room}
use Rattle.vtd_words.proofs.Shown.{shown_length}
use Rattle.vtd_words.proofs.Fitting.{nest_shown}
use Rattle.vtd_text.specs.declared.token.Rule.{Rule}
use Rattle.vtd_text.specs.declared.token.Rule.TheVariants.{Literal, Value}
use Rattle.vtd_text.specs.declared.row.RowEnd.{RowEnd}
use Rattle.vtd_text.specs.Joined.{Joined, row, within}
use Rattle.vtd_text.specs.Resolved.{IsResolved, IsRow, IsRecord}
use Rattle.vtd_text.proofs.Leaves.{Told}
use Rattle.vtd_text.proofs.Written.{SaysOf, Says, all_say, inside_records}

-- ---- parts of a list

pub record_after : (prefix more : List Record) (k : ℕ) → record_at (length prefix + k) (prefix ++ more) ≡ record_at k more
record_after [] more k = ap (λ (n : ℕ). record_at n more) (zero-add k)
record_after (r ∷ prefix) more k = ap (λ (n : ℕ). record_at n (r ∷ (prefix ++ more))) (suc-add (length prefix) k) ∙ record_after prefix more k

pub part_of : (whole prefix mine rest : List Record) (index past : ℕ) → whole ≡ prefix ++ mine ++ rest → length prefix ≡ index → index + length mine ≡ past → take (past - index) (drop index whole) ≡ mine
part_of whole prefix mine rest index past s b e =
    let n : past - index ≡ length mine = omega arith in
    let d : drop index whole ≡ mine ++ rest = ap (drop index) (s ∙ append_assoc prefix mine rest) ∙ drop_at prefix (mine ++ rest) index b in
    ap (λ (l : List Record). take (past - index) l) d ∙ take_at mine rest (past - index) (sym n)

pub record_in : (whole prefix mine rest : List Record) (index k : ℕ) → whole ≡ prefix ++ mine ++ rest → length prefix ≡ index → record_at (index + k) whole ≡ record_at k (mine ++ rest)
record_in whole prefix mine rest index k s b =
    ap (record_at (index + k)) (s ∙ append_assoc prefix mine rest) ∙ ap (λ (n : ℕ). record_at (n + k) (prefix ++ (mine ++ rest))) (sym b) ∙ record_after prefix (mine ++ rest) k

-- ---- a node

-- the node's records, where they are
pub record Holding (bytes : List ℕ) (rs : List Record) (e : Entry) : Type 0 where
  pub says : Says bytes e
  pub hold : HasRecords rs e

pub holding : (bytes : List ℕ) (lists : Lists) (nest : Forest) → IsNestOf bytes lists nest → (kind : Kind) (at : ℕ) (e : Entry) → Identifies kind at e (nodes_of bytes nest) → Holding bytes (records nest (first_place bytes)) e
holding bytes lists nest s kind at e w = record {
  says = each_at (Says bytes) (all nest (first_place bytes)) e (all_say bytes nest s.accepted.utf8 s.accepted.document) w.0;
  hold = records_of_node nest (first_place bytes) s.accepted.document.nests e w.0;
}

-- where the row of records is that has the content of a node of a kind, which has the records from index up to past, of n, and is at a
-- level
pub record IsRowOf (least index past at : ℕ) (end : RowEnd) : Type 0 where
  pub begins : at ≡ index
  pub ends : end.past ≡ past
  pub level : end.least ≡ least

abbrev pub RowBy : Kind → (level index past n : ℕ) → ℕ → RowEnd → Type 0
RowBy kinds.Root level index past n at end = IsRowOf 0 index past at end
RowBy kinds.Element level index past n at end = IsRowOf (level + 1) (index + 1) n at end
RowBy kinds.Text level index past n at end = IsRowOf 0 index past at end
RowBy _ level index past n at end = ⊥

-- the records in it
row_records : Thing → ℕ → ℕ → List Record
row_records (Thing.root first f) l at = records_of (Thing.root first f) l at
row_records (Thing.element t inside) l at = inside_records l at t inside
row_records (Thing.text xs) l at = run_records l at xs
row_records _ l at = []

pub all_within : (rs : List Record) → within 0 rs ≡ rs
all_within [] = refl
all_within (r ∷ rs) = ap (λ (c : Bool). cond c (r ∷ within 0 rs) []) (le-leb 0 (level_of r) (omega arith)) ∙ ap (λ (xs : List Record). r ∷ xs) (all_within rs)

within_part : (l : ℕ) (body rest : List Record) → Each (λ r. suc l ≤ level_of r) body → Below (suc l) rest → within (suc l) (body ++ rest) ≡ body
within_part l [] [] h b = refl
within_part l [] (r ∷ rest) h b = ap (λ (c : Bool). cond c (r ∷ within (suc l) rest) []) (lt-leb (suc l) (level_of r) b)
within_part l (r ∷ body) rest h b =
    ap (λ (c : Bool). cond c (r ∷ within (suc l) (body ++ rest)) []) (le-leb (suc l) (level_of r) h.0) ∙ ap (λ (xs : List Record). r ∷ xs) (within_part l body rest h.1 b)

take_whole : (rs : List Record) (n : ℕ) → length rs ≤ n → take n rs ≡ rs
take_whole [] zero h = refl
take_whole [] (suc n) h = refl
take_whole (r ∷ rs) zero h = absurd (omega arith)
take_whole (r ∷ rs) (suc n) h = ap (λ (xs : List Record). r ∷ xs) (take_whole rs n (omega arith))

same_end : (end : RowEnd) (past least : ℕ) → end.past ≡ past → end.least ≡ least → end ≡ record { past = past; least = least }
same_end end past least p l = ap₂ (λ (a b : ℕ). let e : RowEnd = record { past = a; least = b } in e) p l

plain_row : (rs prefix mine rest : List Record) (index past at : ℕ) (end : RowEnd) → rs ≡ prefix ++ mine ++ rest → length prefix ≡ index → index + length mine ≡ past → IsRowOf 0 index past at end → row at end rs ≡ mine
plain_row rs prefix mine rest index past at end s b e k =
    ap₂ (λ (a : ℕ) (x : RowEnd). row a x rs) k.begins (same_end end past 0 k.ends k.level) ∙ all_within _ ∙ part_of rs prefix mine rest index past s b e

element_row : (rs : List Record) (t : Tag) (inside : Forest) (l start index past at : ℕ) (end : RowEnd) → Fits rs (Thing.element t inside) l start index past → IsRowOf (l + 1) (index + 1) (length rs) at end → row at end rs ≡ inside_records l start t inside
element_row rs t inside l start index past at end h k =
    let head = named 0 l t.name (start + 1) ∷ [] in
    let body = inside_records l start t inside in
    let split : rs ≡ (h.prefix ++ head) ++ (body ++ h.rest) = second_part rs h.prefix head body h.rest h.split ∙ append_assoc (h.prefix ++ head) body h.rest in
    let reach : length (h.prefix ++ head) ≡ index + 1 = length-append h.prefix head ∙ omega (arith, h.begins) in
    let left : drop (index + 1) rs ≡ body ++ h.rest = ap (drop (index + 1)) split ∙ drop_at (h.prefix ++ head) (body ++ h.rest) (index + 1) reach in
    let few : length (body ++ h.rest) ≤ length rs - (index + 1) = omega (arith, ap length split, length-append (h.prefix ++ head) (body ++ h.rest), reach) in
    let up : l + 1 ≡ suc l = omega arith in
    ap₂ (λ (a : ℕ) (x : RowEnd). row a x rs) k.begins (same_end end (length rs) (suc l) k.ends (k.level ∙ up))
    ∙ ap (λ (xs : List Record). within (suc l) (take (length rs - (index + 1)) xs)) left ∙ ap (within (suc l)) (take_whole (body ++ h.rest) (length rs - (index + 1)) few)
    ∙ within_part l body h.rest h.ends.0 h.ends.1

row_is : (rs : List Record) (what : Thing) (l start index past at : ℕ) (end : RowEnd) → Fits rs what l start index past → RowBy (kind_of what) l index past (length rs) at end → row at end rs ≡ row_records what l start
unfolding row_records
row_is rs (Thing.root first f) l start index past at end h k = plain_row rs h.prefix _ h.rest index past at end h.split h.begins h.stops k
row_is rs (Thing.element t inside) l start index past at end h k = element_row rs t inside l start index past at end h k
row_is rs (Thing.text xs) l start index past at end h k = plain_row rs h.prefix _ h.rest index past at end h.split h.begins h.stops k
row_is rs (Thing.attribute a) l start index past at end h k = absurd k
row_is rs (Thing.comment cs) l start index past at end h k = absurd k
row_is rs (Thing.instruction i) l start index past at end h k = absurd k

says_row : (bytes : List ℕ) (what : Thing) (l start index past n at : ℕ) (end : RowEnd) → RowBy (kind_of what) l index past n at end → SaysOf bytes what l start → Told bytes (wholes (row_records what l start)) (content what)
unfolding content row_records
says_row bytes (Thing.root first f) l start index past n at end k s = s
says_row bytes (Thing.element t inside) l start index past n at end k s = s.0
says_row bytes (Thing.text xs) l start index past n at end k s = s.0
says_row bytes (Thing.attribute a) l start index past n at end k s = absurd k
says_row bytes (Thing.comment cs) l start index past n at end k s = absurd k
says_row bytes (Thing.instruction i) l start index past n at end k s = absurd k

-- where it is, of a node of a table
abbrev pub RowOf : List ℕ → Lists → Kind → ℕ → RowEnd → Forest → Entry → Type 0
RowOf bytes lists kind at end nest e = RowBy kind (length e.holders) e.index e.past (length lists.records) at end

-- the content of a node with a row of records
pub row_told : (bytes : List ℕ) (lists : Lists) → length bytes < 2 ^ 30 → (nest : Forest) → IsNestOf bytes lists nest → (kind : Kind) (index at : ℕ) (end : RowEnd) → (e : Entry) → Identifies kind index e (nodes_of bytes nest) → RowOf bytes lists kind at end nest e →
    Told bytes (wholes (row at end (records nest (first_place bytes)))) (content e.what)
row_told bytes lists few nest s kind index at end e w k =
    let d = holding bytes lists nest s kind index e w in
    let rs = records nest (first_place bytes) in
    let all_of = shown_length lists.records rs (nest_shown bytes lists nest few s) in
    let by : RowBy (kind_of e.what) (length e.holders) e.index e.past (length rs) at end =
    subst (λ (n : ℕ). RowBy (kind_of e.what) (length e.holders) e.index e.past n at end) all_of (subst (λ (x : Kind). RowBy x (length e.holders) e.index e.past (length lists.records) at end) (sym w.1) k) in
    let f : Fits rs e.what (length e.holders) e.start e.index e.past = fits_of nest (first_place bytes) s.accepted.document.nests e w.0 in
    subst (λ (l : List Record). Told bytes (wholes l) (content e.what)) (sym (row_is rs e.what (length e.holders) e.start e.index e.past at end f by))
    (says_row bytes e.what (length e.holders) e.start e.index e.past (length rs) at end by d.says)

pub row_of : (bytes : List ℕ) (lists : Lists) → length bytes < 2 ^ 30 → (node : Node) (at : ℕ) (end : RowEnd) → IsNodeOf bytes lists node →
    ((nest : Forest) → IsNestOf bytes lists nest → (e : Entry) → Identifies node.kind node.at e (nodes_of bytes nest) → RowOf bytes lists node.kind at end nest e) → IsRow bytes lists.records at end
row_of bytes lists few node at end n p =
    let t = row_told bytes lists few n.nest n.shown node.kind node.at at end n.entry n.holds (p n.nest n.shown n.entry n.holds) in
    record {
      rs = records n.nest (first_place bytes);
      shown = nest_shown bytes lists n.nest few n.shown;
      readable = t.fine;
      content = content n.entry.what;
      joined = t.joined;
    }

-- the rule for the record that has the content of a node, and where it is after the first
abbrev pub HasRecord : Kind → Rule → ℕ → Type 0
HasRecord kinds.Attribute rule k = (rule ≡ Value) × (k ≡ 1)
HasRecord kinds.Comment rule k = (rule ≡ Literal) × (k ≡ 0)
HasRecord kinds.Instruction rule k = (rule ≡ Literal) × (k ≡ 1)
HasRecord _ rule k = ⊥

says_record : (bytes : List ℕ) (what : Thing) (l at : ℕ) (rule : Rule) (k : ℕ) (rest : List Record) → HasRecord (kind_of what) rule k → SaysOf bytes what l at → IsResolved bytes rule (record_at k (records_of what l at ++ rest)) (content what)
unfolding content
says_record bytes (Thing.attribute a) l at rule k rest h s = rw (h.0, h.1) s.0
says_record bytes (Thing.comment cs) l at rule k rest h s = rw (h.0, h.1) s.0
says_record bytes (Thing.instruction i) l at rule k rest h s = rw (h.0, h.1) s.0
says_record bytes (Thing.root first f) l at rule k rest h s = absurd h
says_record bytes (Thing.element t inside) l at rule k rest h s = absurd h
says_record bytes (Thing.text xs) l at rule k rest h s = absurd h

-- the content of a node with one record
pub record_content : (bytes : List ℕ) (lists : Lists) (nest : Forest) → IsNestOf bytes lists nest → (kind : Kind) (at k : ℕ) (rule : Rule) → HasRecord kind rule k → (e : Entry) → Identifies kind at e (nodes_of bytes nest) →
    IsResolved bytes rule (record_at (at + k) (records nest (first_place bytes))) (content e.what)
record_content bytes lists nest s kind at k rule h e w =
    let d = holding bytes lists nest s kind at e w in
    let rs = records nest (first_place bytes) in
    let mine = records_of e.what (length e.holders) e.start in
    let there : record_at (at + k) rs ≡ record_at k (mine ++ d.hold.rest) = record_in rs d.hold.prefix mine d.hold.rest at k d.hold.split (d.hold.begins ∙ w.2) in
    subst (λ (r : Record). IsResolved bytes rule r (content e.what)) (sym there)
    (says_record bytes e.what (length e.holders) e.start rule k d.hold.rest (subst (λ (x : Kind). HasRecord x rule k) (sym w.1) h) d.says)

pub record_of : (bytes : List ℕ) (lists : Lists) → length bytes < 2 ^ 30 → (node : Node) (k : ℕ) (rule : Rule) → HasRecord node.kind rule k → IsNodeOf bytes lists node → IsRecord bytes lists.records rule (node.at + k)
record_of bytes lists few node k rule h n = record {
  rs = records n.nest (first_place bytes);
  shown = nest_shown bytes lists n.nest few n.shown;
  content = content n.entry.what;
  resolved = record_content bytes lists n.nest n.shown node.kind node.at k rule h n.entry n.holds;
}

-- ---- the node's records are among those of the table

pub past_within : (rs : List Record) (e : Entry) → HasRecords rs e → e.past ≤ length rs
past_within rs e r =
    let mine = records_of e.what (length e.holders) e.start in
    omega (arith, r.begins, r.stops, ap length r.split, length-append (r.prefix ++ mine) r.rest, length-append r.prefix mine)

pub row_within : (bytes : List ℕ) (lists : Lists) → length bytes < 2 ^ 30 → (node : Node) (past : ℕ) → IsNodeOf bytes lists node →
    ((nest : Forest) → IsNestOf bytes lists nest → (e : Entry) → Identifies node.kind node.at e (nodes_of bytes nest) → past ≡ e.past) → past ≤ length lists.records
row_within bytes lists few node past n p =
    let rs = records n.nest (first_place bytes) in
    let d = holding bytes lists n.nest n.shown node.kind node.at n.entry n.holds in
    omega (arith, p n.nest n.shown n.entry n.holds, past_within rs n.entry d.hold, shown_length lists.records rs (nest_shown bytes lists n.nest few n.shown))

enough_records : (kind : Kind) (rule : Rule) (k : ℕ) → HasRecord kind rule k → k < fewest_records kind
enough_records kinds.Root rule k h = absurd h
enough_records kinds.Element rule k h = absurd h
enough_records kinds.Text rule k h = absurd h
enough_records kinds.Attribute rule k h = omega (arith, h.1)
enough_records kinds.Comment rule k h = omega (arith, h.1)
enough_records kinds.Instruction rule k h = omega (arith, h.1)

pub record_within : (bytes : List ℕ) (lists : Lists) → length bytes < 2 ^ 30 → (node : Node) (k : ℕ) (rule : Rule) → HasRecord node.kind rule k → IsNodeOf bytes lists node → node.at + k < length lists.records
record_within bytes lists few node k rule h n = omega (arith, enough_records node.kind rule k h, node_room bytes lists few node n)

-- ---- by the kind

pub whole_row : (kind : Kind) → (kind ≡ kinds.Root) ⊎ (kind ≡ kinds.Text) → (level index past n at : ℕ) (end : RowEnd) → IsRowOf 0 index past at end → RowBy kind level index past n at end
whole_row kind (inl e) level index past n at end h = rw e h
whole_row kind (inr e) level index past n at end h = rw e h

pub inner_row : (kind : Kind) → kind ≡ kinds.Element → (level index past n at : ℕ) (end : RowEnd) → IsRowOf (level + 1) (index + 1) n at end → RowBy kind level index past n at end
inner_row kind e level index past n at end h = rw e h

pub attribute_record : (kind : Kind) → kind ≡ kinds.Attribute → HasRecord kind Value 1
attribute_record kind e = rw e (refl, refl)

pub comment_record : (kind : Kind) → kind ≡ kinds.Comment → HasRecord kind Literal 0
comment_record kind e = rw e (refl, refl)

pub instruction_record : (kind : Kind) → kind ≡ kinds.Instruction → HasRecord kind Literal 1
instruction_record kind e = rw e (refl, refl)

-- ---- what a call on a row, or on a record, gives

pub row_gives : (bytes : List ℕ) (lists : Lists) → length bytes < 2 ^ 30 → (node : Node) (at : ℕ) (end : RowEnd) (result : List ℕ) →
    ((rs : List Record) → Shows lists.records rs → (cs : List ℕ) → Joined bytes (wholes (row at end rs)) cs → result ≡ cs) →
    (nest : Forest) → IsNestOf bytes lists nest → (e : Entry) → Identifies node.kind node.at e (nodes_of bytes nest) → RowOf bytes lists node.kind at end nest e → result ≡ content e.what
row_gives bytes lists few node at end result f nest s e w k =
    f (records nest (first_place bytes)) (nest_shown bytes lists nest few s) (content e.what) (row_told bytes lists few nest s node.kind node.at at end e w k).joined

pub record_gives : (bytes : List ℕ) (lists : Lists) → length bytes < 2 ^ 30 → (kind : Kind) (at k : ℕ) (rule : Rule) (result : List ℕ) → HasRecord kind rule k →
    ((rs : List Record) → Shows lists.records rs → (cs : List ℕ) → IsResolved bytes rule (record_at (at + k) rs) cs → result ≡ cs) →
    (nest : Forest) → IsNestOf bytes lists nest → (e : Entry) → Identifies kind at e (nodes_of bytes nest) → result ≡ content e.what
record_gives bytes lists few kind at k rule result h f nest s e w =
    f (records nest (first_place bytes)) (nest_shown bytes lists nest few s) (content e.what) (record_content bytes lists nest s kind at k rule h e w)

pub one_after : (kind : Kind) → (kind ≡ kinds.Attribute) ⊎ (kind ≡ kinds.Instruction) → (rule : Rule) × HasRecord kind rule 1
one_after kind (inl e) = (Value, attribute_record kind e)
one_after kind (inr e) = (Literal, instruction_record kind e)
