-- The root is a node of each document; and saved nodes.
use Rattle.std.proofs.Common.{◌≡◌, ℕ, List, [], ◌∷◌, ◌++◌, map, refl, ap, subst, ◌∙◌}
use Rattle.std.proofs.lemmas.List.{map-append}
use Rattle.std.specs.List.{Contains, AllByRecursion as Each}
use Rattle.xml_model.specs.declared.Node.{Node}
use Rattle.xml_model.specs.Items.{first_place}
use Rattle.xml_model.specs.Nest.{Forest}
use Rattle.xml_model.specs.Tree.{all, root_entry}
use Rattle.xml_model.proofs.Each.{contains_here, each_left, each_right}
use Rattle.vtd_words.specs.Lists.{Lists}
use Rattle.vtd_words.specs.Table.{IsNodeOf}
use Rattle.vtd_location.specs.Nav.{IsNav}
use Rattle.vtd_location.proofs.NavLaws.{nest_of_table}
use Rattle.vtd_cursor.specs.Moves.{root_node}

root_there : (nest : Forest) (first : ℕ) → Contains (all nest first) (root_entry nest first)
unfolding all
root_there nest first = contains_here (root_entry nest first) _

pub root_holds : (bytes : List ℕ) (lists : Lists) → IsNav bytes lists → IsNodeOf bytes lists root_node
root_holds bytes lists n =
    record { nest = n.nest; shown = nest_of_table bytes lists n.nest n.shown; entry = root_entry n.nest (first_place bytes); holds = (root_there n.nest (first_place bytes), refl, refl) }

-- beside any node of a document is its root
pub root_beside : (bytes : List ℕ) (lists : Lists) (node : Node) → IsNodeOf bytes lists node → IsNodeOf bytes lists root_node
root_beside bytes lists node n = record { nest = n.nest; shown = n.shown; entry = root_entry n.nest (first_place bytes); holds = (root_there n.nest (first_place bytes), refl, refl) }

-- what holds of saved nodes holds of the last and of those before it
pub last_saved : {X Y : Type 0} (P : Y → Type 0) (f : X → Y) (old new : List X) (last : X) → old ≡ new ++ last ∷ [] → Each P (map f old) → P (f last) × Each P (map f new)
last_saved P f old new last e h =
    let split : map f old ≡ map f new ++ f last ∷ [] = ap (map f) e ∙ map-append f new (last ∷ []) in
    let all : Each P (map f new ++ f last ∷ []) = subst (λ ys. Each P ys) split h in
    ((each_right P (map f new) (f last ∷ []) all).0, each_left P (map f new) (f last ∷ []) all)
