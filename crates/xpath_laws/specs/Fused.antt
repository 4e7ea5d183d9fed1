-- Documents as far as a descendant step asks (this project's own).
use Rattle.std.specs.Prelude.{◌≡◌, ℕ, Bool, true, not, ◌&&◌, List, [], ◌∷◌, ◌⊎◌, filter, Ok}
use Rattle.xml_model.specs.Tree.{Entry, steps, is_self, is_child, ends_in_child}
use Rattle.xpath_grammar.specs.Tree.{Trees, none, more}
use Rattle.xpath_values.specs.Answers.{Answer}
use Rattle.xpath_values.specs.Values.{Meant}
use Rattle.xpath_meaning.specs.Context.{Context, at, is_passed}
use Rattle.xpath_meaning.specs.Meaning.{filtered}
use Rattle.xpath_laws.specs.Analysis.{reads_position}
use Rattle.xpath_laws.specs.Faults.{kind_of, is_number}

-- a node is one of a list
pub data Among : Entry → List Entry → Type 0 where
  here : (x : Entry) (xs : List Entry) → Among x (x ∷ xs)
  next : (x y : Entry) (xs : List Entry) → Among x xs → Among x (y ∷ xs)

pub record HasHolder (es : List Entry) (d : Entry) : Type 0 where
  pub holder : Entry
  pub there : Among holder es
  pub above : is_child (steps holder.path d.path) ≡ true

-- one node has a path; a child stands under a node; what children stand under is the root or a child
pub record IsTree (es : List Entry) : Type 0 where
  pub one : (x y : Entry) → Among x es → Among y es → is_self (steps x.path y.path) ≡ true → x ≡ y
  pub holders : (d : Entry) → Among d es → ends_in_child d.path ≡ true → HasHolder es d
  pub bare : (y d : Entry) → Among y es → Among d es → is_child (steps y.path d.path) ≡ true →
      (y.path ≡ []) ⊎ (ends_in_child y.path ≡ true)

-- all nodes of a list are of another
abbrev pub AllAmong : List Entry → List Entry → Type 0
AllAmong [] es = Unit {0}
AllAmong (x ∷ xs) es = Among x es × AllAmong xs es

-- a predicate has a value, without a fault, that passes the position exactly where b says
pub record Passes (meant : Answer Meant) (position : ℕ) (b : Bool) : Type 0 where
  pub value : Meant
  pub is : meant ≡ Ok value
  pub passed : is_passed value position ≡ b

-- a predicate has no fault on the document's nodes, and passes those that q passes, at whatever position
pub record IsPlain (c : Context) (predicate : Context → Answer Meant) (q : Entry → Bool) : Type 0 where
  pub passes : (e : Entry) → Among e c.document → (position size : ℕ) →
      Passes (predicate (at c e position size)) position (q e)

-- predicates have no fault on the document's nodes, and leave those that q passes
pub record ArePlain (c : Context) (predicates : Trees) (q : Entry → Bool) : Type 0 where
  pub leave : (xs : List Entry) → AllAmong xs c.document → filtered predicates c xs ≡ Ok (filter q xs)

-- predicates that do not ask for the position: none reads it, and none is a number
abbrev pub are_positionless : Trees → Bool
are_positionless none = true
are_positionless (more p ps) = not (reads_position p) && (not (is_number (kind_of p)) && are_positionless ps)
