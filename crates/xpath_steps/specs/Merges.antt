-- Two lists of nodes in document order (this project's own).
use Rattle.std.specs.Prelude.{◌≡◌, Bool, true, false, ◌||◌, nat_le, List, [], ◌∷◌, ◌++◌}
use Rattle.std.specs.Prelude.{map, filter, Option, option_to_list, IfNone}
use Rattle.xml_model.specs.declared.Node.{Node}
use Rattle.xml_model.specs.Contexts.{Rises}
use Rattle.xml_model.specs.Tree.{Entry}
use Rattle.vtd_words.specs.Table.{node_of}

-- whether the first node of a list comes no later than that of another
abbrev pub is_first : List Node → List Node → Bool
is_first [] ys = false
is_first (x ∷ xs) [] = true
is_first (x ∷ xs) (y ∷ ys) = nat_le x.at y.at

-- a node, if there is one, is the first of those that pass one test or another, and lists are of those after it that
-- pass the one and the other
pub record IsStep (P Q : Entry → Bool) (es : List Entry) (node : Option Node) (one other : List Node) : Type 0 where
  pub rest : List Entry
  pub rises : Rises rest
  pub first : one ≡ map node_of (filter P rest)
  pub second : other ≡ map node_of (filter Q rest)
  pub found : map node_of (filter (λ e. P e || Q e) es)
      ≡ option_to_list node ++ map node_of (filter (λ e. P e || Q e) rest)
  pub end : IfNone node (map node_of (filter (λ e. P e || Q e) rest) ≡ [])
