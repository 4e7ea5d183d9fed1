-- What is asked of the nodes that steps find, one after another (this project's own).
use Rattle.std.specs.Prelude.{◌≡◌, ℕ, Bool, true, false, not, is_ok, List, bytes_eq, Ok}
use Rattle.std.specs.List.{list_any}
use Rattle.std.specs.Str.{chars}
use Rattle.xml_model.specs.Nest.{Forest}
use Rattle.xml_model.specs.declared.Node.{Node}
use Rattle.xml_model.specs.Tree.{Entry, Identifies}
use Rattle.vtd_words.specs.Lists.{Lists}
use Rattle.vtd_words.specs.Table.{IsNestOf, nodes_of}
use Rattle.xpath_grammar.specs.Tree.{Walk, none, more, path, stop, go}
use Rattle.xpath_values.specs.Answers.{Answer, with}
use Rattle.xpath_values.specs.Numbers.{compare_numbers, number_of_text}
use Rattle.xpath_values.specs.declared.Value.{Value}
use Rattle.xpath_values.specs.Values.{Meant, nodes, by_equality, held_as, is_number, string_value, truth_of}
use Rattle.xpath_meaning.specs.declared.scope.Place.{Place}
use Rattle.xpath_meaning.specs.Context.{Context, is_passed, stepped}
use Rattle.xpath_meaning.specs.Meaning.{mean}
use Rattle.xpath_meaning.specs.Meets.{Meets}
use Rattle.xpath_meaning.specs.Scope.{ScopeOf, IsContext}
use Rattle.xpath_predicates.specs.declared.asked.Asked.{Asked}
use Rattle.xpath_predicates.specs.declared.asked.Asked.TheVariants as asked

abbrev pub is_yes : Answer Bool → Bool
is_yes (Ok b) = b
is_yes _ = false

-- whether a node is as it is asked
abbrev pub is_right : Asked → Entry → Bool
is_right asked.Any e = true
is_right (asked.Text how t) e = by_equality how (bytes_eq (string_value e) (chars t.now))
is_right (asked.Number how x) e = is_yes (with (number_of_text (string_value e)) (λ y. compare_numbers how y x))

-- whether there is a fault where it is asked of a node
abbrev pub is_bad : Asked → Entry → Bool
is_bad (asked.Number how x) e = not (is_ok (number_of_text (string_value e)))
is_bad _ e = false

-- whether no node can have a fault
abbrev pub is_sure : Asked → Bool
is_sure (asked.Number how x) = false
is_sure _ = true

-- whether no step has predicates
abbrev pub are_bare : Walk → Bool
are_bare stop = true
are_bare (go axis t none w) = are_bare w
are_bare (go axis t (more p ps) w) = false

-- whether some node that steps without predicates find from a node passes a test
abbrev pub any_found : Walk → Context → (Entry → Bool) → Entry → Bool
any_found stop c q e = q e
any_found (go axis test ps w) c q e = list_any (any_found w c q) (stepped axis test c e)

-- of nodes none is bad, and the answer says whether one is right
pub record Decides (a : Asked) (any : (Entry → Bool) → Bool) (b : Bool) : Type 0 where
  pub sound : any (is_bad a) ≡ false
  pub right : any (is_right a) ≡ b

-- in each context of a document with bindings, for each entry that a node denotes
abbrev pub ForEachContext : List ℕ → Lists → List (List ℕ × List ℕ) → Node → (Context → Entry → Type 0) → Type 0
ForEachContext bytes lists bindings node P =
    (nest : Forest) → IsNestOf bytes lists nest → (c : Context) → c.document ≡ nodes_of bytes nest →
    c.bindings ≡ bindings → (e : Entry) → Identifies node.kind node.at e c.document → P c e

-- something has a value that is no number, and that is true or not
pub record Holds (meant : Answer Meant) (b : Bool) : Type 0 where
  pub value : Meant
  pub is : meant ≡ Ok value
  pub plain : is_number value ≡ false
  pub truth : truth_of value ≡ b

-- the nodes of a path from the context node, of which none is bad; the answer says whether one is right
pub record FromHere (w : Walk) (c : Context) (a : Asked) (b : Bool) : Type 0 where
  pub found : List Entry
  pub is : mean (path false w) c ≡ Ok (nodes found)
  pub sound : list_any (is_bad a) found ≡ false
  pub right : list_any (is_right a) found ≡ b

-- a value that a predicate has passes a position, where another value does
pub record PassesLike (position : ℕ) (h : Value) (v : Meant) : Type 0 where
  pub shown : Meant
  pub held : h ≡ held_as shown
  pub alike : is_passed shown position ≡ is_passed v position

-- a predicate passes the node of a place as a value does, or has a fault
pub record PassesAt (s : ScopeOf) (p : Place) (result : Answer Value) (meant : Context → Answer Meant) : Type 0 where
  pub yields : (c : Context) → IsContext s p c → Meets (PassesLike p.position) result (meant c)
