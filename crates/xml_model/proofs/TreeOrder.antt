-- What the indexes of the nodes of a tree say of each other.
use Rattle.std.proofs.Common.{◌≡◌, ℕ, ◌<◌, Bool, true, false, List, [], ◌∷◌, length, refl, ap, sym, ◌∙◌, arith, Option, nat_lt}
use Rattle.std.specs.List.{Contains}
use Rattle.std.proofs.lemmas.Bool.{false≢true, and_from, and_parts, lt-ltb, ltb-true}
use Rattle.xml_model.specs.Nest.{Forest, is_nest}
use Rattle.xml_model.specs.Records.{records}
use Rattle.xml_model.specs.Tree.{Entry, Path, all, steps, steps_under, step_eq, is_some_steps}
use Rattle.xml_model.specs.Laws.{is_under, nodes_above, IsNode}
use Rattle.xml_model.proofs.Each.{each_at}
use Rattle.xml_model.proofs.Axes.{Formed, formed, step_is}
use Rattle.xml_model.proofs.Indexes.{all_rise}
use Rattle.xml_model.proofs.Intervals.{all_some}
use Rattle.xml_model.proofs.NodeLaws.{places_of_two, first_record_of_node}
use Rattle.xml_model.specs.Contexts.{Rises}

some_under : (b : Bool) (o : Option Path) → is_some_steps (steps_under b o) ≡ true → (b ≡ true) × (is_some_steps o ≡ true)
some_under true o h = (refl, h)
some_under false o h = absurd (false≢true h)

-- what is under what is under a path is under it
steps_on : (p q r : Path) → is_some_steps (steps p q) ≡ true → is_some_steps (steps q r) ≡ true → is_some_steps (steps p r) ≡ true
steps_on [] [] r h k = absurd (false≢true h)
steps_on [] (t ∷ q) [] h k = absurd (false≢true k)
steps_on [] (t ∷ q) (u ∷ r) h k = refl
steps_on (s ∷ p) [] r h k = absurd (false≢true h)
steps_on (s ∷ p) (t ∷ q) [] h k = absurd (false≢true k)
steps_on (s ∷ p) (t ∷ q) (u ∷ r) h k =
    let a = some_under (step_eq s t) (steps p q) h in
    let b = some_under (step_eq t u) (steps q r) k in
    ap (λ x. is_some_steps (steps_under (step_eq x u) (steps p r))) (step_is s t a.0) ∙ ap (λ c. is_some_steps (steps_under c (steps p r))) b.0
    ∙ steps_on p q r a.1 b.1

-- the indexes rise up to a bound, each node has a record, and what is under what is under a node is under it
pub record InOrder (bound : ℕ) (es : List Entry) : Type 0 where
  pub rises : Rises es
  pub some : (e : Entry) → Contains es e → e.index < e.past
  pub within : (e : Entry) → Contains es e → e.index < bound
  pub on : (x y z : Entry) → Contains es x → Contains es y → Contains es z → is_under x y ≡ true → is_under y z ≡ true → is_under x z ≡ true

pub under_is : (x y : Entry) → x.index < y.index → y.index < x.past → is_under x y ≡ true
under_is x y h k = and_from _ _ (lt-ltb x.index y.index h) (lt-ltb y.index x.past k)

pub under_within : (x y : Entry) → is_under x y ≡ true → (x.index < y.index) × (y.index < x.past)
under_within x y h =
    let p = and_parts (nat_lt x.index y.index) (nat_lt y.index x.past) h in (ltb-true x.index y.index p.0, ltb-true y.index x.past p.1)

longer : (p q : Path) → is_some_steps (steps p q) ≡ true → length p < length q
longer [] [] h = absurd (false≢true h)
longer [] (t ∷ q) h = omega arith
longer (s ∷ p) [] h = absurd (false≢true h)
longer (s ∷ p) (t ∷ q) h = omega (arith, longer p q (some_under (step_eq s t) (steps p q) h).1)

-- what is under a node has more nodes above it
pub more_above : (nest : Forest) (first : ℕ) (x y : Entry) → IsNode nest first x → IsNode nest first y → is_under x y ≡ true →
    nodes_above x < nodes_above y
more_above nest first x y c d h =
    let f : Formed x = each_at Formed (all nest first) x (formed nest first) c in
    let g : Formed y = each_at Formed (all nest first) y (formed nest first) d in
    omega (arith, f.depth, g.depth, longer x.path y.path ((places_of_two nest first x y c d).under ∙ h))

pub in_order : (nest : Forest) (first : ℕ) → is_nest nest ≡ true → InOrder (length (records nest first)) (all nest first)
in_order nest first n =
    let es = all nest first in record {
      rises = all_rise nest first;
      some = λ e c. each_at (λ e. e.index < e.past) es e (all_some nest first) c;
      within = λ e c. (first_record_of_node nest first n e c).within;
      on = λ x y z a b c h k.
          sym (places_of_two nest first x z a c).under
          ∙ steps_on x.path y.path z.path ((places_of_two nest first x y a b).under ∙ h) ((places_of_two nest first y z b c).under ∙ k);
    }
