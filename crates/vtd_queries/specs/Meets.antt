-- How what calls answer stands for what is meant (this project's own). Want of memory may come in place of any answer.
use Rattle.std.specs.Prelude.{◌≡◌, ℕ, List, [], Result, Ok, Err}
use Rattle.xml_model.specs.declared.Node.{Node}
use Rattle.xpath_values.specs.declared.Value.{Value}
use Rattle.xpath_values.specs.declared.Value.TheVariants as held
use Rattle.xpath_values.specs.Values.{Meant, string_of}
use Rattle.vtd_queries.specs.declared.faults.OperationFault.{OperationFault}
use Rattle.vtd_queries.specs.declared.faults.OperationFault.TheVariants as operation
use Rattle.vtd_queries.specs.declared.faults.QueryFault.{QueryFault}
use Rattle.vtd_queries.specs.declared.faults.QueryFault.TheVariants as query
use Rattle.vtd_queries.specs.declared.operating.Operated.{Operated}

-- a fault is the answer, or memory was not to be had
abbrev pub IsRefused : {Y : Type 0} → (Result Y QueryFault → Type 0) → QueryFault → Type 0
IsRefused Answers query.NoMemory = Unit {0}
IsRefused Answers fault = Answers (Err fault)

-- the answer is something that a program holds as x
pub record IsAnswer {X Y : Type 0} (IsHeld : X → Y → Type 0) (Answers : Result Y QueryFault → Type 0) (x : X) : Type 0
  where
    pub value : Y
    pub held : IsHeld x value
    pub answers : Answers (Ok value)

-- a call's answer stands for the one of a text
abbrev pub Meets :
    {X Y : Type 0} → (X → Y → Type 0) → (Result Y QueryFault → Type 0) → Result X QueryFault → Type 0
Meets IsHeld Answers (Ok x) = IsAnswer IsHeld Answers x
Meets IsHeld Answers (Err fault) = IsRefused Answers fault

-- the string of a value: XPath 1.0, section 4.2
abbrev pub IsString : List ℕ → Meant → Type 0
IsString x v = x ≡ string_of v

-- a call's answer is the one of an operation
abbrev pub Makes : (Result Operated OperationFault → Type 0) → Result Operated OperationFault → Type 0
Makes Answers (Err (operation.Query query.NoMemory)) = Unit {0}
Makes Answers result = Answers result

-- What private functions promise.

-- the nodes of a value that a program holds
abbrev pub held_nodes : Value → List Node
held_nodes (held.Nodes nodes) = nodes
held_nodes _ = []
