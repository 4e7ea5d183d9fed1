-- What the rings of a history hold when a step is kept, undone, redone or put back.
use Rattle.std.proofs.Common.{◌≡◌, ℕ, ◌+◌, ◌≤◌, true, List, [], ◌∷◌, ◌++◌, length, take, drop, map, Some, sym, ◌∙◌}
use Rattle.std.proofs.Common.{ap, ap₂, subst, slice_get}
use Rattle.std.proofs.lemmas.List.{take_all, take-map}
use Rattle.circular_buffer.specs.Buffer.{Buffer, buffer, keep_last}
use Rattle.vtd_history.specs.Versions.{Version}
use Rattle.vtd_history.specs.Steps.{PlainStep, turned, back, is_moved}
use Rattle.vtd_history.specs.Chains.{Steps, steps_of, done_of, Fits, Keeps, Undoes, Redoes, BeginsMoved}
use Rattle.vtd_history.specs.Kept.{plain, HasDepth}
use Rattle.vtd_history.specs.declared.steps.Step.{Step}
use Rattle.vtd_history.proofs.Following.{keep_fits, keep_done, moves_rings, undoes, redoes}

abbrev pub seen : Buffer Step → Buffer Step → Steps
seen done undone = steps_of (map plain done.items) (map plain undone.items)

-- a step was kept
pub record KeptIn (old : Steps) (done undone done' undone' : Buffer Step) (step : Step) : Type 0 where
  pub view_is : seen done undone ≡ old
  pub depth : HasDepth done undone
  pub pushed : done' ≡ buffer (take done.capacity (step ∷ done.items)) done.capacity
  pub cleared : undone' ≡ buffer [] undone.capacity

kept_seen : (old : Steps) (done undone done' undone' : Buffer Step) (step : Step) → KeptIn old done undone done' undone' step
    → seen done' undone' ≡ steps_of (take 32 (plain step ∷ old.done)) []
kept_seen old done undone done' undone' step k =
    ap₂ seen k.pushed k.cleared
    ∙ ap (λ (n : ℕ). steps_of (map plain (take n (step ∷ done.items))) []) (k.depth.0)
    ∙ ap (λ (xs : List PlainStep). steps_of xs []) (sym (take-map plain 32 (step ∷ done.items)))
    ∙ ap (λ (s : Steps). steps_of (take 32 (plain step ∷ s.done)) []) k.view_is

pub kept_fits : (old : Steps) (done undone done' undone' : Buffer Step) (step : Step) (before after : Version)
    → KeptIn old done undone done' undone' step → Keeps old (plain step) before after → Fits (seen done' undone') after
kept_fits old done undone done' undone' step before after k h =
    subst (λ (s : Steps). Fits s after) (sym (kept_seen old done undone done' undone' step k))
    (keep_fits old (plain step) before after h)

pub kept_done : (old : Steps) (done undone done' undone' : Buffer Step) (step : Step) (before after : Version)
    → KeptIn old done undone done' undone' step → Keeps old (plain step) before after
    → done_of (seen done' undone') after ≡ keep_last 32 (done_of old before ++ before ∷ [])
kept_done old done undone done' undone' step before after k h =
    ap (λ (s : Steps). done_of s after) (kept_seen old done undone done' undone' step k) ∙ keep_done old (plain step) before after h

-- a step was taken off one ring, made, and its inverse put onto the other
pub record MovedIn (from to from' to' : Buffer Step) (step inverse : Step) (before after : Version) : Type 0 where
  pub few : length from.items + length to.items ≤ 32
  pub depth : to.capacity ≡ 32
  pub taken : slice_get from.items 0 ≡ Some step
  pub popped : from' ≡ buffer (drop 1 from.items) from.capacity
  pub pushed : to' ≡ buffer (take to.capacity (inverse ∷ to.items)) to.capacity
  pub turned : back (plain step) before ≡ Some (turned after (plain inverse))

pub undone_in : (old : Steps) (done undone done' undone' : Buffer Step) (step inverse : Step) (before after : Version)
    → seen done undone ≡ old → MovedIn done undone done' undone' step inverse before after → Fits old before
    → Undoes old (seen done' undone') before after
undone_in old done undone done' undone' step inverse before after v m f =
    let g : Fits (seen done undone) before = subst (λ (s : Steps). Fits s before) (sym v) f in
    let rings : seen done' undone' ≡ steps_of (map plain (drop 1 done.items)) (map plain (take 32 (inverse ∷ undone.items))) =
    ap₂ seen m.popped m.pushed ∙ ap (λ (n : ℕ). steps_of (map plain (drop 1 done.items)) (map plain (take n (inverse ∷ undone.items))))
    m.depth in
    subst (λ (s : Steps). Undoes s (seen done' undone') before after) v
    (subst (λ (s : Steps). Undoes (seen done undone) s before after) (sym rings)
    (undoes (map plain done.items) (map plain undone.items) (map plain (drop 1 done.items))
    (map plain (take 32 (inverse ∷ undone.items))) before after
    (moves_rings done.items undone.items step inverse before after m.taken m.few g.sound g.done g.undone m.turned)))

pub redone_in : (old : Steps) (done undone done' undone' : Buffer Step) (step inverse : Step) (before after : Version)
    → seen done undone ≡ old → MovedIn undone done undone' done' step inverse before after → Fits old before
    → Redoes old (seen done' undone') before after
redone_in old done undone done' undone' step inverse before after v m f =
    let g : Fits (seen done undone) before = subst (λ (s : Steps). Fits s before) (sym v) f in
    let rings : seen done' undone' ≡ steps_of (map plain (take 32 (inverse ∷ done.items))) (map plain (drop 1 undone.items)) =
    ap₂ seen m.pushed m.popped ∙ ap (λ (n : ℕ). steps_of (map plain (take n (inverse ∷ done.items))) (map plain (drop 1 undone.items)))
    m.depth in
    subst (λ (s : Steps). Redoes s (seen done' undone') before after) v
    (subst (λ (s : Steps). Redoes (seen done undone) s before after) (sym rings)
    (redoes (map plain done.items) (map plain undone.items) (map plain (take 32 (inverse ∷ done.items)))
    (map plain (drop 1 undone.items)) before after
    (moves_rings undone.items done.items step inverse before after m.taken m.few g.sound g.undone g.done m.turned)))

first_back : {X : Type 0} (xs : List X) (x : X) (n : ℕ) → slice_get xs 0 ≡ Some x → length xs ≤ n → take n (x ∷ drop 1 xs) ≡ xs
first_back [] x n g l = absurd (cc)
first_back {X} (y ∷ xs) x n g l =
    let same : x ≡ y = cc in
    ap (λ (z : X). take n (z ∷ xs)) same ∙ take_all n (y ∷ xs) l

-- a step that was taken off a ring and put back
pub put_back : (ring popped pushed : Buffer Step) (step same : Step) → length ring.items ≤ ring.capacity
    → slice_get ring.items 0 ≡ Some step → popped ≡ buffer (drop 1 ring.items) ring.capacity → same ≡ step
    → pushed ≡ buffer (take popped.capacity (same ∷ popped.items)) popped.capacity → pushed ≡ ring
put_back ring popped pushed step same l g p s e =
    e
    ∙ ap₂ (λ (b : Buffer Step) (x : Step). buffer (take b.capacity (x ∷ b.items)) b.capacity) p s
    ∙ ap (λ (xs : List Step). buffer xs ring.capacity) (first_back ring.items step ring.capacity g l)

pub begins_moved : (from : List Step) (step : Step) → slice_get from 0 ≡ Some step → BeginsMoved (map plain from)
    → is_moved (plain step) ≡ true
begins_moved [] step g m = absurd (cc)
begins_moved (x ∷ from) step g m =
    let same : x ≡ step = cc in
    subst (λ (y : Step). is_moved (plain y) ≡ true) same m
