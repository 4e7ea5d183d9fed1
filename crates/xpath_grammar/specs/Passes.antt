-- Expressions part by part: which have no static refusal, and what the parser gives besides.
use Rattle.std.specs.Prelude.{◌≡◌, ℕ, Bool, true, false, List, None}
use Rattle.xpath_tokens.specs.Tokens.{IsNumber}
use Rattle.xpath_grammar.specs.Tree.{Tree, Trees, Walk, or, and, union, compare, arithmetic, negate, path, from}
use Rattle.xpath_grammar.specs.Tree.{filter, literal, number, variable, call, none, more, stop, go}
use Rattle.xpath_grammar.specs.Functions.{signature_of, gives_nodes}
use Rattle.xpath_grammar.specs.Static.{number_fault, axis_fault, test_fault, call_fault, wants_nodes}

-- an expression gives nodes, where nodes are needed of it
abbrev pub GivesWhere : Bool → Tree → Type 0
GivesWhere true e = gives_nodes e ≡ true
GivesWhere false e = Unit {0}

-- nothing of an expression is refused, with these prefixes bound
abbrev mutual
  pub Passes : List (List ℕ × List ℕ) → Tree → Type 0
  Passes bs (or a b) = Passes bs a × Passes bs b
  Passes bs (and a b) = Passes bs a × Passes bs b
  Passes bs (compare how a b) = Passes bs a × Passes bs b
  Passes bs (arithmetic op a b) = Passes bs a × Passes bs b
  Passes bs (negate a) = Passes bs a
  Passes bs (union a b) = ((gives_nodes a ≡ true) × Passes bs a) × ((gives_nodes b ≡ true) × Passes bs b)
  Passes bs (path absolute w) = StepsPass bs w
  Passes bs (from e w) = ((gives_nodes e ≡ true) × Passes bs e) × StepsPass bs w
  Passes bs (filter e ps) = ((gives_nodes e ≡ true) × Passes bs e) × ListPasses bs false ps
  Passes bs (literal t) = Unit {0}
  Passes bs (number t) = number_fault t ≡ None
  Passes bs (variable n) = ⊥
  Passes bs (call f es) = (call_fault f es ≡ None) × ListPasses bs (wants_nodes (signature_of f)) es

  -- of a list, of which the first is needed as nodes, or not
  pub ListPasses : List (List ℕ × List ℕ) → Bool → Trees → Type 0
  ListPasses bs nodes none = Unit {0}
  ListPasses bs nodes (more e es) = (GivesWhere nodes e × Passes bs e) × ListPasses bs false es

  pub StepsPass : List (List ℕ × List ℕ) → Walk → Type 0
  StepsPass bs stop = Unit {0}
  StepsPass bs (go a t ps w) =
      ((axis_fault a ≡ None) × (test_fault bs t ≡ None)) × (ListPasses bs false ps × StepsPass bs w)

-- at least one step, and at least one expression
abbrev pub HasStep : Walk → Type 0
HasStep stop = ⊥
HasStep (go a t ps w) = Unit {0}

abbrev pub HasPart : Trees → Type 0
HasPart none = ⊥
HasPart (more e es) = Unit {0}

-- a path has a step, unless it is the root alone
abbrev pub IsBegun : Bool → Walk → Type 0
IsBegun true w = Unit {0}
IsBegun false w = HasStep w

-- each number is spelled as a token is, each path but the root has a step, and each filter a predicate
abbrev mutual
  pub WellFormed : Tree → Type 0
  WellFormed (or a b) = WellFormed a × WellFormed b
  WellFormed (and a b) = WellFormed a × WellFormed b
  WellFormed (compare how a b) = WellFormed a × WellFormed b
  WellFormed (arithmetic op a b) = WellFormed a × WellFormed b
  WellFormed (negate a) = WellFormed a
  WellFormed (union a b) = WellFormed a × WellFormed b
  WellFormed (path absolute w) = IsBegun absolute w × StepsWellFormed w
  WellFormed (from e w) = WellFormed e × (HasStep w × StepsWellFormed w)
  WellFormed (filter e ps) = WellFormed e × (HasPart ps × AllWellFormed ps)
  WellFormed (literal t) = Unit {0}
  WellFormed (number t) = IsNumber t
  WellFormed (variable n) = Unit {0}
  WellFormed (call f es) = AllWellFormed es

  pub AllWellFormed : Trees → Type 0
  AllWellFormed none = Unit {0}
  AllWellFormed (more e es) = WellFormed e × AllWellFormed es

  pub StepsWellFormed : Walk → Type 0
  StepsWellFormed stop = Unit {0}
  StepsWellFormed (go a t ps w) = AllWellFormed ps × StepsWellFormed w
