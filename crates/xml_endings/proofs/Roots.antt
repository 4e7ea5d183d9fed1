-- Where only leaves are left of a document's items, its root element has ended.
use Rattle.std.proofs.Common.{◌≡◌, ℕ, ◌+◌, ◌≤◌, Bool, true, false, cond, inl, inr, List, [], ◌∷◌, ◌++◌, length, Some, None, refl, sym, ap}
use Rattle.std.proofs.Common.{ap₂, subst, ◌∙◌, arith, ◌&&◌, le_refl}
use Rattle.std.specs.Prelude.{option_and_then}
use Rattle.std.specs.List.{list_all}
use Rattle.std.proofs.lemmas.Bool.{and_parts, or_cases, false≢true}
use Rattle.std.proofs.lemmas.List.Folds.{list_all-append}
use Rattle.std.proofs.lemmas.Option.{none-some, cond_some}
use Rattle.xml_model.specs.Chars.{size}
use Rattle.xml_model.specs.Items.{Leaf, Item, leaf, start_tag, empty_tag, end_tag, spelling, end_of_items, written_end}
use Rattle.xml_model.specs.Nest.{Forest, done, single, empty, element, flat, is_nest, is_head, is_body, is_misc, is_doctype}
use Rattle.xml_model.specs.Nest.{is_declaration}
use Rattle.xml_model.specs.Records.{past_leaf, past_empty, past_start, past_forest, past_element}
use Rattle.xml_acceptance.specs.Machine.{Phase, tail, State, state, step, run}
use Rattle.xml_acceptance.proofs.Nests.{run_some, stepped}
use Rattle.xml_endings.specs.Endings.{root_end}

abbrev pub is_leaf : Item → Bool
is_leaf (leaf x) = true
is_leaf _ = false

abbrev has_root : Forest → Bool
has_root done = false
has_root (single x f) = has_root f
has_root (empty t f) = true
has_root (element t inside space f) = true

body_root : (f : Forest) → is_body f ≡ true → has_root f ≡ true
unfolding is_body
body_root done h = absurd (false≢true h)
body_root (single x f) h = body_root f (and_parts _ (is_body f) h).1
body_root (empty t f) h = refl
body_root (element t inside space f) h = refl

head_root : (f : Forest) → is_head f ≡ true → has_root f ≡ true
unfolding is_head
head_root done h = body_root done h
head_root (single x f) h =
    elim (or_cases (is_misc x && is_head f) (is_doctype x && is_body f) h) [
      | inl t ↦ head_root f
          (and_parts (is_misc x) (is_head f) t).1
      | inr t ↦ body_root f (and_parts (is_doctype x) (is_body f) t).1
    ]
head_root (empty t f) h = refl
head_root (element t inside space f) h = refl

nest_root : (f : Forest) → is_nest f ≡ true → has_root f ≡ true
unfolding is_nest
nest_root done h = head_root done h
nest_root (single x f) h =
    elim (or_cases (is_declaration x && is_head f) (is_head (single x f)) h) [
      | inl t ↦ head_root f
          (and_parts (is_declaration x) (is_head f) t).1
      | inr t ↦ head_root (single x f) t
    ]
nest_root (empty t f) h = refl
nest_root (element t inside space f) h = refl

root_no_leaf : (f : Forest) → has_root f ≡ true → list_all is_leaf (flat f) ≡ true → ⊥
unfolding flat
root_no_leaf done h l = false≢true h
root_no_leaf (single x f) h l = root_no_leaf f h l
root_no_leaf (empty t f) h l = false≢true l
root_no_leaf (element t inside space f) h l = false≢true l

end_le : (at : ℕ) (is : List Item) → at ≤ end_of_items at is
end_le at [] = le_refl at
end_le at (i ∷ is) = omega (arith, end_le (at + length (spelling i)) is)

end_append : (at : ℕ) (xs ys : List Item) → end_of_items at (xs ++ ys) ≡ end_of_items (end_of_items at xs) ys
end_append at [] ys = refl
end_append at (x ∷ xs) ys = end_append (at + length (spelling x)) xs ys

end_flat : (at : ℕ) (f : Forest) → end_of_items at (flat f) ≡ past_forest at f
unfolding flat spelling size
end_flat at done = refl
end_flat at (single x f) = end_flat (past_leaf at x) f
end_flat at (empty t f) = end_flat (past_empty at t) f
end_flat at (element t inside space f) =
    end_append (past_start at t) (flat inside) (end_tag t.name space ∷ flat f)
    ∙ ap (λ (n : ℕ). end_of_items (n + size (written_end t.name space)) (flat f)) (end_flat (past_start at t) inside)
    ∙ end_flat (past_element at t inside space) f

same_items : (x y : Item) (xs ys : List Item) → x ∷ xs ≡ y ∷ ys → (x ≡ y) × (xs ≡ ys)
same_items x y xs ys e = (cc, cc)

-- an item that is no leaf, before nothing but leaves, is in the first list
in_front : (xs ys front rest : List Item) (e : Item) → is_leaf e ≡ false → list_all is_leaf rest ≡ true → xs ++ e ∷ ys ≡ front ++ rest →
    (m : List Item) × (front ≡ (xs ++ e ∷ []) ++ m)
in_front xs ys [] rest e n l h =
    let q = and_parts _ _ (sym (list_all-append is_leaf xs (e ∷ ys)) ∙ ap (list_all is_leaf) h ∙ l) in
    absurd (false≢true (sym n ∙ (and_parts (is_leaf e) _ q.1).0))
in_front [] ys (i ∷ front) rest e n l h = let q = same_items e i ys (front ++ rest) h in (front, ap (λ (j : Item). j ∷ front) (sym q.0))
in_front (x ∷ xs) ys (i ∷ front) rest e n l h =
    let q = same_items x i (xs ++ e ∷ ys) (front ++ rest) h in
    let r = in_front xs ys front rest e n l q.1 in
    (r.0, ap₂ (λ (j : Item) (is : List Item). j ∷ is) (sym q.0) r.1)

root_ended : (f : Forest) (at : ℕ) (front rest : List Item) → has_root f ≡ true → flat f ≡ front ++ rest → list_all is_leaf rest ≡ true →
    root_end at f ≤ end_of_items at front
unfolding flat spelling size
root_ended done at front rest h e l = absurd (false≢true h)
root_ended (single x f) at [] rest h e l = absurd (root_no_leaf f h (and_parts (is_leaf (leaf x)) _ (ap (list_all is_leaf) e ∙ l)).1)
root_ended (single x f) at (i ∷ front) rest h e l =
    let q = same_items (leaf x) i (flat f) (front ++ rest) e in
    subst (λ (j : Item). root_end (past_leaf at x) f ≤ end_of_items (at + length (spelling j)) front) q.0
    (root_ended f (past_leaf at x) front rest h q.1 l)
root_ended (empty t f) at [] rest h e l = absurd (false≢true (ap (list_all is_leaf) e ∙ l))
root_ended (empty t f) at (i ∷ front) rest h e l =
    let q = same_items (empty_tag t) i (flat f) (front ++ rest) e in
    subst (λ (j : Item). past_empty at t ≤ end_of_items (at + length (spelling j)) front) q.0 (end_le (past_empty at t) front)
root_ended (element t inside space f) at front rest h e l =
    let q = in_front (start_tag t ∷ flat inside) (flat f) front rest (end_tag t.name space) refl l e in
    let upto : end_of_items at ((start_tag t ∷ flat inside) ++ end_tag t.name space ∷ []) ≡ past_element at t inside space =
    end_append (past_start at t) (flat inside) (end_tag t.name space ∷ [])
    ∙ ap (λ (n : ℕ). n + size (written_end t.name space)) (end_flat (past_start at t) inside) in
    let parts : end_of_items at front ≡ end_of_items (past_element at t inside space) q.0 =
    ap (end_of_items at) q.1 ∙ end_append at ((start_tag t ∷ flat inside) ++ end_tag t.name space ∷ []) q.0
    ∙ ap (λ (n : ℕ). end_of_items n q.0) upto in
    subst (λ (n : ℕ). past_element at t inside space ≤ n) (sym parts) (end_le (past_element at t inside space) q.0)

pub nest_ended : (f : Forest) (at : ℕ) (front rest : List Item) → is_nest f ≡ true → flat f ≡ front ++ rest →
    list_all is_leaf rest ≡ true → root_end at f ≤ end_of_items at front
nest_ended f at front rest h e l = root_ended f at front rest (nest_root f h) e l

from_tail : (x : Leaf) (s : State) → step [] tail (leaf x) ≡ Some s → s ≡ state [] tail
unfolding step
from_tail x s a =
    let q = stepped (cond (is_misc x) (Some tail) None) [] s a in
    let r = cond_some (is_misc x) tail q.0 q.1 in
    sym q.2 ∙ ap (λ (p : Phase). state [] p) (sym r.1)

no_step : (i : Item) (is : List Item) → is_leaf i ≡ false →
    option_and_then (λ s. run s.names s.phase is) (step [] tail i) ≡ Some (state [] tail) → ⊥
unfolding step
no_step (leaf x) is h e = false≢true (sym h)
no_step (start_tag t) is h e = none-some (state [] tail) e
no_step (empty_tag t) is h e = none-some (state [] tail) e
no_step (end_tag name space) is h e = none-some (state [] tail) e

-- after a whole document there are leaves alone
pub tail_leaves : (is : List Item) → run [] tail is ≡ Some (state [] tail) → list_all is_leaf is ≡ true
unfolding run
tail_leaves [] e = refl
tail_leaves (leaf x ∷ is) e =
    let r = run_some (step [] tail (leaf x)) is (state [] tail) e in
    tail_leaves is (ap (λ (s : State). run s.names s.phase is) (sym (from_tail x r.0 r.1)) ∙ r.2)
tail_leaves (start_tag t ∷ is) e = absurd (no_step (start_tag t) is refl e)
tail_leaves (empty_tag t ∷ is) e = absurd (no_step (empty_tag t) is refl e)
tail_leaves (end_tag name space ∷ is) e = absurd (no_step (end_tag name space) is refl e)
