-- The splices of the rows of nodes, one node after another.
use Rattle.std.proofs.Common.{◌≡◌, ℕ, zero, suc, ◌+◌, ◌<◌, ◌≤◌, Bool, true, false, cond, List, [], ◌∷◌, ◌++◌, length, drop, refl, ap, sym, ◌∙◌, subst, arith, append_assoc, append-nil, add-one, Option, Some, None, Result, Ok, Err}
use Rattle.std.specs.Prelude.{slice_index_or}
use Rattle.xml_model.specs.declared.Node.{Node}
use Rattle.xml_model.specs.Tree.{Entry, Identifies}
use Rattle.vtd_edits.specs.declared.splice.Splice.{Splice}
use Rattle.vtd_modifier.specs.declared.operation.EditFault.{EditFault}
use Rattle.vtd_modifier.specs.declared.operation.EditFault.TheVariants as faults
use Rattle.vtd_modifier.specs.declared.operation.Operation.{Operation}
use Rattle.vtd_modifier.specs.Outcomes.{ahead, with_row, rows, has_name, outcome, IsRefused, Denote, TakesRow, IsRowRefused}
use Rattle.vtd_modifier.specs.Parts.{part_of}
use Rattle.vtd_modifier.specs.Rows.{row}

pub ahead_none : (answer : Result (List Splice) EditFault) → ahead [] answer ≡ answer
ahead_none (Ok others) = refl
ahead_none (Err fault) = refl

ahead_both : (first second : List Splice) (answer : Result (List Splice) EditFault) → ahead first (ahead second answer) ≡ ahead (first ++ second) answer
ahead_both first second (Ok others) = ap (λ xs. Ok xs) (sym (append_assoc first second others))
ahead_both first second (Err fault) = refl

-- the entry of a node of a list, and those of the nodes after it
pub record Here (all : List Entry) (node : Node) (es : List Entry) (i : ℕ) : Type 0 where
  pub entry : Entry
  pub holds : Identifies node.kind node.at entry all
  pub are : drop i es ≡ entry ∷ drop (i + 1) es

here_by : (nodes : List Node) (all es : List Entry) (i : ℕ) (d : Node) → Denote all nodes es → i < length nodes →
    (e : Entry) × (Identifies (slice_index_or nodes i d).kind (slice_index_or nodes i d).at e all) × (drop i es ≡ e ∷ drop (suc i) es)
here_by [] all es i d k h = absurd (omega arith)
here_by (node ∷ nodes) all [] i d k h = absurd k
here_by (node ∷ nodes) all (e ∷ es) zero d k h = (e, k.0, refl)
here_by (node ∷ nodes) all (e ∷ es) (suc i) d k h = here_by nodes all es i d k.1 (omega arith)

pub here : (nodes : List Node) (all es : List Entry) (i : ℕ) (d : Node) → Denote all nodes es → i < length nodes →
    Here all (slice_index_or nodes i d) es i
here nodes all es i d k h =
    let r = here_by nodes all es i d k h in
    record { entry = r.0; holds = r.1; are = r.2 ∙ ap (λ n. r.0 ∷ drop n es) (sym (add-one i)) }

pub many : (nodes : List Node) (all es : List Entry) → Denote all nodes es → length es ≡ length nodes
many [] all [] k = refl
many [] all (e ∷ es) k = absurd k
many (node ∷ nodes) all [] k = absurd k
many (node ∷ nodes) all (e ∷ es) k = ap suc (many nodes all es k.1)

-- a node whose row is there
pub one_more : (bytes : List ℕ) (operation : Operation) (all es : List Entry) (node : Node) (i : ℕ) (old new : List Splice) (h : Here all node es i) →
    rows bytes operation es ≡ ahead old (rows bytes operation (drop i es)) → TakesRow (row bytes operation (part_of bytes h.entry)) old new →
    rows bytes operation es ≡ ahead new (rows bytes operation (drop (i + 1) es))
one_more bytes operation all es node i old new h so t =
    let rest = rows bytes operation (drop (i + 1) es) in
    so ∙ ap (λ xs. ahead old (rows bytes operation xs)) h.are ∙ ap (λ x. ahead old (with_row h.entry.start x rest)) t.is
    ∙ ahead_both old t.mine rest ∙ ap (λ xs. ahead xs rest) (sym t.added)

drop_all : {X : Type 0} (xs : List X) (n : ℕ) → length xs ≤ n → drop n xs ≡ []
drop_all [] zero h = refl
drop_all [] (suc n) h = refl
drop_all (x ∷ xs) zero h = absurd (omega arith)
drop_all (x ∷ xs) (suc n) h = drop_all xs n (omega arith)

-- after the last node
pub no_more : (bytes : List ℕ) (operation : Operation) (es : List Entry) (i : ℕ) (made : List Splice) → length es ≤ i → has_name operation ≡ true →
    rows bytes operation es ≡ ahead made (rows bytes operation (drop i es)) → outcome bytes operation es ≡ Ok made
no_more bytes operation es i made h n so =
    ap (λ b. cond b (rows bytes operation es) (Err faults.Name)) n ∙ so ∙ ap (λ xs. ahead made (rows bytes operation xs)) (drop_all es i h)
    ∙ ap (λ xs. Ok xs) (append-nil made)

refused_by : (fault : EditFault) (old : List Splice) (found : Option (List Splice)) (start : ℕ) (others answer : Result (List Splice) EditFault) →
    answer ≡ ahead old (with_row start found others) → IsRowRefused found start fault → IsRefused answer fault
refused_by faults.NoMemory old found start others answer e h = tt
refused_by faults.Name old found start others answer e h = absurd h
refused_by (faults.Kind at) old found start others answer e h =
    e ∙ ap (λ x. ahead old (with_row start x others)) h.0 ∙ ap (λ n. Err (faults.Kind n)) (sym h.1)

-- a node whose row is not there
pub refused : (bytes : List ℕ) (operation : Operation) (all es : List Entry) (node : Node) (i : ℕ) (old : List Splice) (fault : EditFault) (h : Here all node es i) →
    has_name operation ≡ true → rows bytes operation es ≡ ahead old (rows bytes operation (drop i es)) →
    IsRowRefused (row bytes operation (part_of bytes h.entry)) h.entry.start fault → IsRefused (outcome bytes operation es) fault
refused bytes operation all es node i old fault h n so r =
    refused_by fault old (row bytes operation (part_of bytes h.entry)) h.entry.start (rows bytes operation (drop (i + 1) es)) (outcome bytes operation es)
    (ap (λ b. cond b (rows bytes operation es) (Err faults.Name)) n ∙ so ∙ ap (λ xs. ahead old (rows bytes operation xs)) h.are) r
