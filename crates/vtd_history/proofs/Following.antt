-- What follows for the chains of a history when a step is kept, undone or redone.
use Rattle.std.proofs.Common.{◌≡◌, ℕ, zero, suc, ◌+◌, ◌-◌, ◌≤◌, List, [], ◌∷◌, ◌++◌, length, take, drop, map, reverse}
use Rattle.std.proofs.Common.{Option, Some, None, refl, sym, ◌∙◌, ap, subst, arith, slice_get}
use Rattle.std.proofs.lemmas.List.{take-append-drop, length-drop, length-reverse, reverse-append, drop_at, take_all}
use Rattle.circular_buffer.specs.Buffer.{keep_last}
use Rattle.vtd_history.specs.Versions.{Version, IsSound}
use Rattle.vtd_history.specs.Steps.{PlainStep, Turned, turned, back}
use Rattle.vtd_history.specs.Chains.{led_on, chain, Leads, IsChained, Steps, steps_of, done_of, Fits, Keeps, Undoes, Redoes, CanTurn}
use Rattle.vtd_history.specs.Kept.{plain}
use Rattle.vtd_history.specs.declared.steps.Step.{Step}
use Rattle.vtd_history.proofs.Backs.{back_back}

leads_more : (o : Option Turned) (P Q : Version → Type 0) → ((q : Version) → P q → Q q) → Leads o P → Leads o Q
leads_more None P Q f h = h
leads_more (Some t) P Q f h = (h.0, f t.version h.1)

led_take : (n : ℕ) (o : Option Turned) (f g : Version → List Version) → ((q : Version) → g q ≡ take n (f q))
    → led_on o g ≡ take (suc n) (led_on o f)
led_take n None f g h = refl
led_take n (Some t) f g h = ap (λ (r : List Version). t.version ∷ r) (h t.version)

-- the first steps of a chain
pub chained_take : (n : ℕ) (steps : List PlainStep) (p : Version) → IsChained steps p → IsChained (take n steps) p
chained_take zero steps p c = tt
chained_take (suc n) [] p c = tt
chained_take (suc n) (s ∷ ss) p c = leads_more (back s p) (IsChained ss) (IsChained (take n ss)) (chained_take n ss) c

pub chain_take : (n : ℕ) (steps : List PlainStep) (p : Version) → chain (take n steps) p ≡ take n (chain steps p)
chain_take zero steps p = refl
chain_take (suc n) [] p = refl
chain_take (suc n) (s ∷ ss) p = led_take n (back s p) (chain ss) (chain (take n ss)) (chain_take n ss)

reverse_take : {X : Type 0} (n : ℕ) (xs : List X) → reverse (take n xs) ≡ keep_last n (reverse xs)
reverse_take n xs =
    let parts : reverse xs ≡ reverse (drop n xs) ++ reverse (take n xs) = ap reverse (sym (take-append-drop n xs))
    ∙ reverse-append (take n xs) (drop n xs) in
    let count : length (reverse (drop n xs)) ≡ length (reverse xs) - n = length-reverse (drop n xs) ∙ length-drop n xs
    ∙ ap (λ (k : ℕ). k - n) (sym (length-reverse xs)) in
    sym (ap (drop (length (reverse xs) - n)) parts ∙ drop_at (reverse (drop n xs)) (reverse (take n xs)) (length (reverse xs) - n)
    count)

reverse_first : {X : Type 0} (x : X) (xs : List X) → reverse (x ∷ xs) ≡ reverse xs ++ x ∷ []
reverse_first x xs = reverse-append (x ∷ []) xs

-- a step that leads to a version, in front of a chain from there
pub chain_on : (step : PlainStep) (steps : List PlainStep) (p q : Version) (inverse : PlainStep) → back step p ≡ Some (turned q inverse)
    → chain (step ∷ steps) p ≡ q ∷ chain steps q
chain_on step steps p q inverse e = ap (λ (o : Option Turned). led_on o (chain steps)) e

pub chained_on : (step : PlainStep) (steps : List PlainStep) (p q : Version) (inverse : PlainStep)
    → back step p ≡ Some (turned q inverse) → IsSound q → IsChained steps q → IsChained (step ∷ steps) p
chained_on step steps p q inverse e s c = subst (λ (o : Option Turned). Leads o (IsChained steps)) (sym e) (s, c)

chained_off : (step : PlainStep) (steps : List PlainStep) (p q : Version) (inverse : PlainStep) → back step p ≡ Some (turned q inverse)
    → IsChained (step ∷ steps) p → IsSound q × IsChained steps q
chained_off step steps p q inverse e c = subst (λ (o : Option Turned). Leads o (IsChained steps)) e c

pub keep_fits : (steps : Steps) (step : PlainStep) (before after : Version) → Keeps steps step before after
    → Fits (steps_of (take 32 (step ∷ steps.done)) []) after
keep_fits steps step before after k = record {
  sound = k.sound;
  done = chained_take 32 (step ∷ steps.done) after (chained_on step steps.done after before k.inverse k.back k.fits.sound k.fits.done);
  undone = tt;
}

pub keep_done : (steps : Steps) (step : PlainStep) (before after : Version) → Keeps steps step before after
    → done_of (steps_of (take 32 (step ∷ steps.done)) []) after ≡ keep_last 32 (done_of steps before ++ before ∷ [])
keep_done steps step before after k =
    ap reverse (chain_take 32 (step ∷ steps.done) after ∙ ap (take 32) (chain_on step steps.done after before k.inverse k.back))
    ∙ reverse_take 32 (before ∷ chain steps.done before)
    ∙ ap (keep_last 32) (reverse_first before (chain steps.done before))

-- one step of a chain made: it is taken off, and its inverse stands in front of the other chain
pub record Moves (from to from' to' : List PlainStep) (before after : Version) : Type 0 where
  pub off : reverse (chain from before) ≡ reverse (chain from' after) ++ after ∷ []
  pub on : reverse (chain to' after) ≡ reverse (chain to before) ++ before ∷ []
  pub sound : IsSound after
  pub from_chained : IsChained from' after
  pub to_chained : IsChained to' after

pub moves : (step inverse : PlainStep) (rest to : List PlainStep) (before after : Version) → IsSound before
    → IsChained (step ∷ rest) before → IsChained to before → back step before ≡ Some (turned after inverse)
    → Moves (step ∷ rest) to rest (inverse ∷ to) before after
moves step inverse rest to before after s c d e =
    let on : IsSound after × IsChained rest after = chained_off step rest before after inverse e c in
    let again : back inverse after ≡ Some (turned before step) = back_back step before (turned after inverse) s.made (on.0).made e in
    record {
      off = ap reverse (chain_on step rest before after inverse e) ∙ reverse_first after (chain rest after);
      on = ap reverse (chain_on inverse to after before step again) ∙ reverse_first before (chain to before);
      sound = on.0;
      from_chained = on.1;
      to_chained = chained_on inverse to after before step again s d;
    }

-- the same on the rings' items
pub moves_rings : (from to : List Step) (step inverse : Step) (before after : Version) → slice_get from 0 ≡ Some step
    → length from + length to ≤ 32 → IsSound before → IsChained (map plain from) before → IsChained (map plain to) before
    → back (plain step) before ≡ Some (turned after (plain inverse))
    → Moves (map plain from) (map plain to) (map plain (drop 1 from)) (map plain (take 32 (inverse ∷ to))) before after
moves_rings [] to step inverse before after g l s c d e = absurd (cc)
moves_rings (x ∷ from) to step inverse before after g l s c d e =
    let same : x ≡ step = cc in
    let few : length (inverse ∷ to) ≤ 32 = omega arith in
    subst (λ (ys : List Step). Moves (map plain (x ∷ from)) (map plain to) (map plain from) (map plain ys) before after)
    (sym (take_all 32 (inverse ∷ to) few))
    (moves (plain x) (plain inverse) (map plain from) (map plain to) before after s c d
    (ap (λ (y : Step). back (plain y) before) same ∙ e))

pub undoes : (done undone done' undone' : List PlainStep) (before after : Version) → Moves done undone done' undone' before after
    → Undoes (steps_of done undone) (steps_of done' undone') before after
undoes done undone done' undone' before after m = record
    { done = m.off; undone = m.on; fits = record { sound = m.sound; done = m.from_chained; undone = m.to_chained } }

pub redoes : (done undone done' undone' : List PlainStep) (before after : Version) → Moves undone done undone' done' before after
    → Redoes (steps_of done undone) (steps_of done' undone') before after
redoes done undone done' undone' before after m = record
    { undone = m.off; done = m.on; fits = record { sound = m.sound; done = m.to_chained; undone = m.from_chained } }

-- the step at the front of a ring can be made
pub can_turn : (from : List Step) (step : Step) (p : Version) → slice_get from 0 ≡ Some step → IsChained (map plain from) p
    → CanTurn (plain step) p
can_turn [] step p g c = absurd (cc)
can_turn (x ∷ from) step p g c =
    let same : x ≡ step = cc in
    subst (λ (y : Step). CanTurn (plain y) p) same (leads_more (back (plain x) p) (IsChained (map plain from)) (λ q. Unit {0})
    (λ q h. tt) c)
