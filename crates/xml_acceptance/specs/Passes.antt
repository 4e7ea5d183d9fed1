-- What private functions promise: what a pass over the items of a document has found so far (this project's own).
use Rattle.std.specs.Prelude.{◌≡◌, ℕ, suc, ◌≤◌, Bool, true, false, List, [], ◌∷◌, ◌++◌, length, Option, Some, None}
use Rattle.xml_model.specs.declared.DocFault.{DocFault}
use Rattle.xml_model.specs.declared.DocFault.TheVariants as faults
use Rattle.xml_model.specs.Items.{Item, walk, first_place, end_of_items}
use Rattle.xml_model.specs.Levels.{CountsLevels}
use Rattle.xml_model.specs.Accepted.{unknown_item, encoding_item, over_items, first_wide}
use Rattle.xml_acceptance.specs.declared.findings.Findings.{Findings}
use Rattle.xml_acceptance.specs.declared.nest_so_far.NestSoFar.{NestSoFar}
use Rattle.xml_acceptance.specs.declared.checking.Pass.{Pass}
use Rattle.xml_acceptance.specs.Ampersands.{first, next_ampersand}
use Rattle.xml_acceptance.specs.Machine.{State, whole, step, run, items_records}
use Rattle.xml_acceptance.specs.Open.{Shows, is_deep}

-- where items from the first place on end
abbrev pub past_items : List ℕ → List Item → ℕ
past_items bytes items = end_of_items (first_place bytes) items

-- the first faults of references and of the encoding in items so far, and where the next & is
pub record Finds (bytes : List ℕ) (found : Findings) (items : List Item) : Type 0 where
  pub next : found.next.at ≡ next_ampersand bytes (past_items bytes items)
  pub entity : found.entity ≡ first (over_items unknown_item (first_place bytes) items)
  pub encoding : found.encoding ≡ first (over_items encoding_item (first_place bytes) items)

-- some nest begins with the items: what is open, how many records and elements of each level there are, and which of
-- them is the first that is too wide
pub record Goes (bytes : List ℕ) (nest : NestSoFar) (items : List Item) : Type 0 where
  pub now : State
  pub ran : run [] whole items ≡ Some now
  pub shows : Shows bytes nest.tags now.names now.phase
  pub counted : nest.records ≡ suc (length (items_records 0 (first_place bytes) items))
  pub leveled : CountsLevels nest.levels (items_records 0 (first_place bytes) items)
  pub few : nest.records ≤ suc (past_items bytes items)
  pub wide : nest.wide ≡ first_wide (items_records 0 (first_place bytes) items)

abbrev pub nesting_fault : ℕ → Bool → DocFault
nesting_fault at false = faults.Nesting at
nesting_fault at true = faults.Depth at

-- no nest begins with the items: the longest prefix with which one does, and the fault
pub record Stops (bytes : List ℕ) (fault : DocFault) (items : List Item) : Type 0 where
  pub prefix : List Item
  pub item : Item
  pub rest : List Item
  pub split : items ≡ prefix ++ item ∷ rest
  pub now : State
  pub ran : run [] whole prefix ≡ Some now
  pub stuck : step now.names now.phase item ≡ None
  pub fault_is : fault ≡ nesting_fault (past_items bytes prefix) (is_deep now.names item)

abbrev pub NestsBy : Option DocFault → List ℕ → NestSoFar → List Item → Type 0
NestsBy None bytes nest items = Goes bytes nest items
NestsBy (Some fault) bytes nest items = Stops bytes fault items

abbrev pub Nests : List ℕ → NestSoFar → List Item → Type 0
Nests bytes nest items = NestsBy nest.fault bytes nest items

-- some items that end at a place nest so
pub record NestsTo (bytes : List ℕ) (nest : NestSoFar) (at : ℕ) : Type 0 where
  pub items : List Item
  pub ends : past_items bytes items ≡ at
  pub nests : Nests bytes nest items

-- the items so far, which end at a place
pub record Passes (bytes : List ℕ) (pass : Pass) (at : ℕ) : Type 0 where
  pub items : List Item
  pub walked : walk bytes items ≡ true
  pub ends : past_items bytes items ≡ at
  pub finds : Finds bytes pass.found items
  pub nests : Nests bytes pass.nest items
