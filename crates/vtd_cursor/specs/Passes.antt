-- A pass along the records that ends the listed elements (this project's own): what private functions promise.
use Rattle.std.specs.Prelude.{◌≡◌, ℕ, suc, ◌+◌, ◌-◌, ◌<◌, ◌≤◌, List, length, drop, All}
use Rattle.std.specs.List.{slice_index_or}
use Rattle.xml_model.specs.declared.Kind.TheVariants as kinds
use Rattle.xml_model.specs.declared.Node.{Node}
use Rattle.xml_model.specs.declared.Span.{Span}
use Rattle.xml_model.specs.Items.{first_place}
use Rattle.xml_model.specs.Nest.{Forest}
use Rattle.xml_model.specs.Records.{Record, records}
use Rattle.xml_model.specs.Scan.{level_of, record_at, end_by_scan, end_from}
use Rattle.xml_model.specs.Tree.{Entry, Identifies}
use Rattle.vtd_words.specs.Lists.{Lists}
use Rattle.vtd_words.specs.Table.{ForEachNest, IsNodeOf, nodes_of}
use Rattle.vtd_cursor.specs.declared.slots.Slot.{Slot}
use Rattle.vtd_cursor.specs.Endings.{IsEnding, IsLastPiece}
use Rattle.vtd_cursor.specs.Moves.{root_node}

-- a slot that holds no element
abbrev pub free_slot : Slot
free_slot = record { number = 0; outer = 0 }

abbrev pub slot_at : ℕ → List Slot → Slot
slot_at d slots = slice_index_or slots d free_slot

-- the number of the open element of a level, and 0 where none is
abbrev pub number_at : ℕ → List Slot → ℕ
number_at d slots = (slot_at d slots).number

abbrev pub no_span : Span
no_span = record { start = 0; end = 0 }

abbrev pub span_at : ℕ → List Span → Span
span_at k spans = slice_index_or spans k no_span

abbrev pub listed_at : ℕ → List Node → Node
listed_at k nodes = slice_index_or nodes k root_node

-- the level of a listed node, by its first record
abbrev pub listed_level : List Record → ℕ → List Node → ℕ
listed_level rs k nodes = level_of (record_at (listed_at k nodes).at rs)

-- of an open element of a level, its slot leads to the next one outside it
pub record LeadsOut (slots : List Slot) (d outer : ℕ) : Type 0 where
  pub lower : outer ≤ d
  pub none : (m : ℕ) → outer ≤ m → m < d → number_at m slots ≡ 0
  pub next : 0 < outer → 0 < number_at (outer - 1) slots

-- the slots of 256 levels, below a bound which is just above the innermost
pub record AreSlots (slots : List Slot) (bound : ℕ) : Type 0 where
  pub long : length slots ≡ 256
  pub small : bound ≤ 256
  pub free : (d : ℕ) → bound ≤ d → number_at d slots ≡ 0
  pub top : 0 < bound → 0 < number_at (bound - 1) slots
  pub leads : (d : ℕ) → 0 < number_at d slots → LeadsOut slots d (slot_at d slots).outer

-- an element of a list begins before a record and was not seen to end before it
pub record IsOpen (rs : List Record) (nodes : List Node) (done at d k : ℕ) : Type 0 where
  pub listed : k < done
  pub element : (listed_at k nodes).kind ≡ kinds.Element
  pub level : listed_level rs k nodes ≡ d
  pub begun : (listed_at k nodes).at < at
  pub goes : end_by_scan (listed_at k nodes).at rs ≡ end_from d at (drop at rs)

-- where a node ends
abbrev pub IsEnd : List ℕ → Forest → Node → ℕ → Type 0
IsEnd bytes nest node stop = (e : Entry) → Identifies node.kind node.at e (nodes_of bytes nest) → stop ≡ e.stop

-- where a node is, but for the end of an element
pub record IsBegun (bytes : List ℕ) (nest : Forest) (node : Node) (span : Span) : Type 0 where
  pub start : (e : Entry) → Identifies node.kind node.at e (nodes_of bytes nest) → span.start ≡ e.start
  pub end : (node.kind ≡ kinds.Element → ⊥) → IsEnd bytes nest node span.end

-- where nodes are, but for the ends of elements
pub record AreBegun (bytes : List ℕ) (nest : Forest) (nodes : List Node) (spans : List Span) : Type 0 where
  pub long : length spans ≡ length nodes
  pub each : (k : ℕ) → k < length nodes → IsBegun bytes nest (listed_at k nodes) (span_at k spans)

-- the same of the first so many
pub record IsBegunTo (bytes : List ℕ) (lists : Lists) (nodes : List Node) (spans : List Span) (n : ℕ) : Type 0 where
  pub long : length spans ≡ n
  pub each : ForEachNest bytes lists (λ nest. (k : ℕ) → k < n →
      IsBegun bytes nest (listed_at k nodes) (span_at k spans))

-- of spans, the one at a place was given an end
pub record EndsOne (old new : List Span) (k stop : ℕ) : Type 0 where
  pub long : length new ≡ length old
  pub start : (span_at k new).start ≡ (span_at k old).start
  pub end : (span_at k new).end ≡ stop
  pub others : (j : ℕ) → (j ≡ k → ⊥) → span_at j new ≡ span_at j old

-- before a record, of so many nodes of a list: the elements that are open are in the slots, and the others have ends
pub record IsPass (bytes : List ℕ) (nest : Forest) (nodes : List Node) (spans : List Span) (slots : List Slot)
    (bound done at : ℕ) : Type 0 where
  pub begun : AreBegun bytes nest nodes spans
  pub few : done ≤ length nodes
  pub levels : AreSlots slots bound
  pub going : (d k : ℕ) → number_at d slots ≡ suc k → IsOpen (records nest (first_place bytes)) nodes done at d k
  pub ended : (k : ℕ) → k < done → (listed_at k nodes).kind ≡ kinds.Element →
      (number_at (listed_level (records nest (first_place bytes)) k nodes) slots ≡ suc k → ⊥) →
      IsEnd bytes nest (listed_at k nodes) (span_at k spans).end

-- the same in every nest
abbrev pub PassOf : List ℕ → Lists → List Node → List Span → List Slot → ℕ → ℕ → ℕ → Type 0
PassOf bytes lists nodes spans slots bound done at =
    ForEachNest bytes lists (λ nest. IsPass bytes nest nodes spans slots bound done at)

-- such a pass of some list
pub record HasPass (bytes : List ℕ) (lists : Lists) (spans : List Span) (slots : List Slot) (bound at : ℕ) : Type 0
  where
    pub nodes : List Node
    pub are : All (IsNodeOf bytes lists) nodes
    pub done : ℕ
    pub pass : PassOf bytes lists nodes spans slots bound done at

-- after some of the end tags behind the last piece: where the next ones follow, and how many elements are open there
pub record IsReached (bytes : List ℕ) (rs : List Record) (last opened place : ℕ) : Type 0 where
  pub ends : (stop : ℕ) → IsEnding bytes rs opened stop (suc last) → place ≡ stop
  pub most : (level end above : ℕ) → IsLastPiece bytes rs level last end above → opened ≤ level + above

-- before a record at which open elements end: what a pass keeps from spans, slots and a bound on, and how far the end
-- tags are read
pub record IsClosing (bytes : List ℕ) (lists : Lists) (spans₀ : List Span) (slots₀ : List Slot) (bound₀ : ℕ)
    (spans : List Span) (slots : List Slot) (bound at opened place : ℕ) : Type 0 where
  pub kept : (nodes : List Node) (done : ℕ) → PassOf bytes lists nodes spans₀ slots₀ bound₀ done at →
      PassOf bytes lists nodes spans slots bound done at
  pub has : HasPass bytes lists spans slots bound at
  pub reached : ForEachNest bytes lists (λ nest.
      IsReached bytes (records nest (first_place bytes)) (at - 1) opened place)
  pub deep : bound ≤ suc opened

-- what a pass from one record to another keeps
pub record IsPassing (bytes : List ℕ) (lists : Lists) (spans₀ : List Span) (slots₀ : List Slot) (bound₀ from : ℕ)
    (spans : List Span) (slots : List Slot) (bound at : ℕ) : Type 0 where
  pub kept : (nodes : List Node) (done : ℕ) → PassOf bytes lists nodes spans₀ slots₀ bound₀ done from →
      PassOf bytes lists nodes spans slots bound done at
  pub has : HasPass bytes lists spans slots bound at

-- a pass over the first nodes of a list, up to a record that none of the others begins before
pub record IsPassTo (bytes : List ℕ) (lists : Lists) (nodes : List Node) (spans : List Span) (slots : List Slot)
    (bound done at : ℕ) : Type 0 where
  pub pass : PassOf bytes lists nodes spans slots bound done at
  pub within : at ≤ length lists.records
  pub first : done ≡ 0 → at ≡ 0
  pub follows : (k : ℕ) → suc k ≡ done → at ≤ suc (listed_at k nodes).at
