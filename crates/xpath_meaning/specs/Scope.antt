-- How a program's places, values and lists of nodes stand for contexts, values and nodes (this project's own).
use Rattle.std.specs.Prelude.{◌≡◌, ℕ, ◌+◌, ◌<◌, ◌≤◌, ◌^◌, Bool, true, false, List, [], ◌∷◌, ◌++◌, map, length, Contains}
use Rattle.std.specs.Prelude.{slice_index_or}
use Rattle.std.specs.List.{AllByRecursion}
use Rattle.std.specs.List.Sorted.{IsStrictlyIncreasing}
use Rattle.xml_model.specs.declared.Node.{Node}
use Rattle.xml_model.specs.Items.{first_place}
use Rattle.xml_model.specs.Nest.{Forest}
use Rattle.xml_model.specs.Tree.{Entry, Identifies, root_entry}
use Rattle.vtd_words.specs.Lists.{Lists}
use Rattle.vtd_words.specs.Table.{node_of, nodes_of}
use Rattle.vtd_location.specs.Nav.{IsNavOf}
use Rattle.xpath_values.specs.declared.Value.{Value}
use Rattle.xpath_values.specs.declared.Value.TheVariants as held
use Rattle.xpath_values.specs.Answers.{Answer, with}
use Rattle.xpath_values.specs.Numbers.{IsNumber}
use Rattle.xpath_values.specs.Values.{Meant, held_as, AreAmong, IsHeld}
use Rattle.xpath_meaning.specs.declared.scope.Place.{Place}
use Rattle.xpath_meaning.specs.Meets.{Meets}
use Rattle.xpath_meaning.specs.Context.{Context}

-- a document: its bytes and the lists of its records and levels
pub record Source : Type 0 where
  pub bytes : List ℕ
  pub lists : Lists

-- what an expression is evaluated over: a document, and bindings
pub record ScopeOf : Type 0 where
  pub bytes : List ℕ
  pub lists : Lists
  pub bindings : List (List ℕ × List ℕ)

abbrev pub source_of : ScopeOf → Source
source_of s = record { bytes = s.bytes; lists = s.lists }

-- the context is one of that document with those bindings
pub record IsScope (s : ScopeOf) (c : Context) : Type 0 where
  pub nest : Forest
  pub shown : IsNavOf s.bytes s.lists nest
  pub document : c.document ≡ nodes_of s.bytes nest
  pub bindings : c.bindings ≡ s.bindings

-- the same, with the node, the position and the size of a place
pub record IsContext (s : ScopeOf) (p : Place) (c : Context) : Type 0 where
  pub scope : IsScope s c
  pub stands : Identifies p.node.kind p.node.at c.node c.document
  pub position : c.position ≡ p.position
  pub size : c.size ≡ p.size

-- nodes, as kinds and indexes, stand for entries of a document
pub record AreNodes (document : List Entry) (ns : List Node) (es : List Entry) : Type 0 where
  pub same : ns ≡ map node_of es
  pub within : AllByRecursion (λ x. Contains document x) es

-- a number is in range, and a node-set has fewer nodes than 2 to the power 32
abbrev pub Fits : Value → Type 0
Fits (held.Nodes ns) = length ns < 2 ^ 32
Fits (held.Number x) = IsNumber x
Fits _ = Unit {0}

-- the nodes of a value are in document order, each once
abbrev pub IsInOrder : Value → Type 0
IsInOrder (held.Nodes ns) = IsStrictlyIncreasing (map (λ n. n.at) ns)
IsInOrder _ = Unit {0}

-- values that a program holds stand for values
pub record AreHeld (document : List Entry) (hs : List Value) (vs : List Meant) : Type 0 where
  pub same : hs ≡ map held_as vs
  pub among : AllByRecursion (AreAmong document) vs

-- something has this value, or fault, in each context that a place stands for
pub record Means (s : ScopeOf) (p : Place) (result : Answer Value) (meant : Context → Answer Meant) : Type 0 where
  pub yields : (c : Context) → IsContext s p c → Meets (IsHeld c.document) result (meant c)

-- from some nodes these are found, or a fault
pub record Finds (s : ScopeOf) (ns : List Node) (result : Answer (List Node))
    (meant : Context → List Entry → Answer (List Entry)) : Type 0 where
  pub yields : (c : Context) → IsScope s c → (es : List Entry) → AreNodes c.document ns es →
      Meets (AreNodes c.document) result (meant c es)

-- what is evaluated in turn, after values that are known, has these values, or a fault
pub record ListMeans (s : ScopeOf) (p : Place) (done : List Value) (result : Answer (List Value))
    (meant : Context → Answer (List Meant)) : Type 0 where
  pub yields : (c : Context) → IsContext s p c → (vs : List Meant) → AreHeld c.document done vs →
      Meets (AreHeld c.document) result (with (meant c) (λ ws. vs ++ ws))

-- a function's answer to values
pub record Answers (s : ScopeOf) (p : Place) (hs : List Value) (result : Answer Value)
    (meant : Context → List Meant → Answer Meant) : Type 0 where
  pub yields : (c : Context) → IsContext s p c → (vs : List Meant) → AreHeld c.document hs vs →
      Meets (IsHeld c.document) result (meant c vs)

-- a place whose node is of the document
pub record HasEntry (document : List Entry) (p : Place) : Type 0 where
  pub entry : Entry
  pub stands : Identifies p.node.kind p.node.at entry document

-- the place is one among fewer than 2 to the power 32 nodes, and its node is of the document
pub record IsPlace (s : ScopeOf) (p : Place) : Type 0 where
  pub each : (c : Context) → IsScope s c → HasEntry c.document p
  pub within : p.position ≤ p.size
  pub few : p.size < 2 ^ 32

-- nodes of the document
pub record HaveEntries (document : List Entry) (ns : List Node) : Type 0 where
  pub entries : List Entry
  pub nodes : AreNodes document ns entries

pub record AreOf (s : ScopeOf) (ns : List Node) : Type 0 where
  pub each : (c : Context) → IsScope s c → HaveEntries c.document ns

-- the same, and they are fewer than 2 to the power 32
pub record AreFewOf (s : ScopeOf) (ns : List Node) : Type 0 where
  pub of : AreOf s ns
  pub few : length ns < 2 ^ 32

-- a value of the document
pub record HasValue (document : List Entry) (h : Value) : Type 0 where
  pub value : Meant
  pub held : IsHeld document h value

-- a value of the document, in range
pub record IsOf (s : ScopeOf) (h : Value) : Type 0 where
  pub each : (c : Context) → IsScope s c → HasValue c.document h
  pub fits : Fits h

-- values of the document
pub record HaveValues (document : List Entry) (hs : List Value) : Type 0 where
  pub values : List Meant
  pub held : AreHeld document hs values

pub record AreValuesOf (s : ScopeOf) (hs : List Value) : Type 0 where
  pub each : (c : Context) → IsScope s c → HaveValues c.document hs
  pub fit : AllByRecursion Fits hs

-- the place of the node with an index in a list
pub record IsAt (ns : List Node) (i : ℕ) (p : Place) : Type 0 where
  pub node : p.node ≡ slice_index_or ns i p.node
  pub position : p.position ≡ i + 1
  pub size : p.size ≡ length ns

-- a node, where it is passed
abbrev pub node_if : Bool → Node → List Node
node_if true n = n ∷ []
node_if false n = []

-- the root of a document as the context node: at the position 1 of 1
abbrev pub root_context : List ℕ → Forest → List (List ℕ × List ℕ) → Context
root_context bytes nest bindings =
    record {
      document = nodes_of bytes nest;
      bindings = bindings;
      node = root_entry nest (first_place bytes);
      position = 1;
      size = 1;
    }
