-- A prefix of items begins some nest exactly where the machine does not stop.
use Rattle.std.proofs.Common.{◌≡◌, ℕ, true, List, [], ◌∷◌, ◌++◌, length, Option, Some, None, refl, sym, ap, ◌∙◌}
use Rattle.std.specs.Prelude.{option_and_then, codes}
use Rattle.std.proofs.lemmas.Option.{same_Some, none-some, cond_some}
use Rattle.xml_model.specs.Items.{Tag, Item, leaf, start_tag, empty_tag, end_tag}
use Rattle.xml_model.specs.Nest.{Forest, flat, is_nest}
use Rattle.xml_model.specs.Accepted.{BeginsNest, open_after}
use Rattle.xml_acceptance.specs.Machine.{Phase, whole, head, body, tail, State, state, outside, begun, step, run, is_final}
use Rattle.xml_acceptance.proofs.Nests.{run_some, run_one, step_end, stepped, sound, complete}

pub run-append : (xs ys : List Item) (names : List (List ℕ)) (phase : Phase) → run names phase (xs ++ ys) ≡ option_and_then (λ s. run s.names s.phase ys) (run names phase xs)
unfolding run
run-append [] ys names phase = refl
run-append (x ∷ xs) ys names phase = go (step names phase x) (λ m p. run-append xs ys m p)
  where
    go : (o : Option State) → ((m : List (List ℕ)) (p : Phase) → run m p (xs ++ ys) ≡ option_and_then (λ s. run s.names s.phase ys) (run m p xs)) → option_and_then (λ s. run s.names s.phase (xs ++ ys)) o ≡ option_and_then (λ s. run s.names s.phase ys) (option_and_then (λ s. run s.names s.phase xs) o)
    go None ih = refl
    go (Some s) ih = ih s.names s.phase

pub run_then : (xs ys : List Item) (names : List (List ℕ)) (phase : Phase) (s : State) → run names phase xs ≡ Some s → run names phase (xs ++ ys) ≡ run s.names s.phase ys
run_then xs ys names phase s e = run-append xs ys names phase ∙ ap (option_and_then (λ t. run t.names t.phase ys)) e

pub one_step : (s : State) (i : Item) (t : State) → step s.names s.phase i ≡ Some t → run s.names s.phase (i ∷ []) ≡ Some t
unfolding run
one_step s i t e = run_one s.names s.phase i [] t e

-- what begins a nest is taken
pub begins_taken : (items : List Item) → BeginsNest items → (s : State) × (run [] whole items ≡ Some s)
begins_taken items b =
    let e : run [] whole (items ++ b.rest) ≡ Some (state [] tail) = ap (run [] whole) (sym b.split) ∙ complete b.nest b.nests in
    let r = run_some (run [] whole items) b.rest (state [] tail) (sym (run-append items b.rest [] whole) ∙ e) in
    (r.0, r.1)

-- what is open can be closed
closing : List (List ℕ) → List Item
closing [] = []
closing (n ∷ names) = end_tag n [] ∷ closing names

closing_taken : (names : List (List ℕ)) (phase : Phase) → run names phase (closing names) ≡ Some (state [] phase)
unfolding run closing
closing_taken [] phase = refl
closing_taken (n ∷ names) phase = run_one (n ∷ names) phase (end_tag n []) (closing names) (state names phase) (step_end n names phase []) ∙ closing_taken names phase

-- a tag without attributes
abbrev bare : List ℕ → Tag
bare name = record { name = name; attributes = []; space = [] }

-- and an element added, where none has begun
ending : (phase : Phase) → (items : List Item) × (p : Phase) × (is_final p ≡ true) × (run [] phase items ≡ Some (state [] p))
unfolding run step
ending whole = (empty_tag (bare (codes "a")) ∷ [], tail, refl, refl)
ending head = (empty_tag (bare (codes "a")) ∷ [], tail, refl, refl)
ending body = (empty_tag (bare (codes "a")) ∷ [], tail, refl, refl)
ending tail = ([], tail, refl, refl)

-- what is taken begins a nest
pub taken_begins : (items : List Item) (s : State) → run [] whole items ≡ Some s → BeginsNest items
taken_begins items s e =
    let last = ending s.phase in
    let more = closing s.names ++ last.0 in
    let runs : run [] whole (items ++ more) ≡ Some (state [] last.1) =
    run_then items more [] whole s e ∙ run_then (closing s.names) last.0 s.names s.phase (state [] s.phase) (closing_taken s.names s.phase) ∙ last.3 in
    let c = sound (items ++ more) [] whole last.1 last.2 runs in
    record { nest = c.0; rest = more; nests = c.1; split = c.2 }

-- where the machine stops at an item, the prefix with it begins no nest
pub stops_begins : (items : List Item) (i : Item) (s : State) → run [] whole items ≡ Some s → step s.names s.phase i ≡ None → BeginsNest (items ++ i ∷ []) → ⊥
unfolding run
stops_begins items i s e none b =
    let t = begins_taken (items ++ i ∷ []) b in
    let r = run_some (step s.names s.phase i) [] t.0 (sym (run_then items (i ∷ []) [] whole s e) ∙ t.1) in
    none-some r.0 (sym none ∙ r.1)

-- where the machine does not end, the items are no nest
pub open_no_nest : (items : List Item) (s : State) → run [] whole items ≡ Some s → (s ≡ state [] tail → ⊥) → (nest : Forest) → is_nest nest ≡ true → flat nest ≡ items → ⊥
open_no_nest items s e unended nest n is = unended (same_Some s (state [] tail) (sym e ∙ ap (run [] whole) (sym is) ∙ complete nest n))

-- how many elements are open, by the tags alone
same_open : (items : List Item) (names : List (List ℕ)) (phase : Phase) (t : State) → state names phase ≡ t → open_after (length names) items ≡ open_after (length t.names) items
same_open items names phase t e = ap (λ (u : State). open_after (length u.names) items) e

open_step : (i : Item) (items : List Item) (names : List (List ℕ)) (phase : Phase) (t : State) → step names phase i ≡ Some t → open_after (length names) (i ∷ items) ≡ open_after (length t.names) items
unfolding step
open_step (leaf x) items [] phase t e = let q = stepped (outside phase x) [] t e in same_open items [] q.0 t q.2
open_step (leaf x) items (n ∷ names) phase t e = same_open items (n ∷ names) phase t (cond_some _ _ t e).1
open_step (start_tag u) items [] phase t e = let q = stepped (begun phase) (u.name ∷ []) t e in same_open items (u.name ∷ []) q.0 t q.2
open_step (start_tag u) items (n ∷ names) phase t e = same_open items (u.name ∷ n ∷ names) phase t (cond_some _ _ t e).1
open_step (empty_tag u) items [] phase t e = let q = stepped (begun phase) [] t e in same_open items [] q.0 t q.2
open_step (empty_tag u) items (n ∷ names) phase t e = same_open items (n ∷ names) phase t (cond_some _ _ t e).1
open_step (end_tag name space) items [] phase t e = absurd (none-some t e)
open_step (end_tag name space) items (n ∷ names) phase t e = same_open items names phase t (cond_some _ _ t e).1

pub open_taken : (items : List Item) (names : List (List ℕ)) (phase : Phase) (s : State) → run names phase items ≡ Some s → open_after (length names) items ≡ length s.names
unfolding run
open_taken [] names phase s e = ap (λ (t : State). length t.names) (same_Some (state names phase) s e)
open_taken (i ∷ items) names phase s e =
    let r = run_some (step names phase i) items s e in
    open_step i items names phase r.0 r.1 ∙ open_taken items r.0.names r.0.phase s r.2

-- the items of a nest, and those that the machine takes to the end
pub nest_ends : (items : List Item) → (nest : Forest) × (is_nest nest ≡ true) × (flat nest ≡ items) → run [] whole items ≡ Some (state [] tail)
nest_ends items n = ap (run [] whole) (sym n.2) ∙ complete n.0 n.1

pub ends_nest : (items : List Item) → run [] whole items ≡ Some (state [] tail) → (nest : Forest) × (is_nest nest ≡ true) × (flat nest ≡ items)
ends_nest items e = sound items [] whole tail refl e
