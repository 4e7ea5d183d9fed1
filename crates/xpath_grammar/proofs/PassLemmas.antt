-- An expression is refused nowhere exactly where each of its parts passes.
use Rattle.std.proofs.Common.{◌≡◌, ℕ, Bool, true, false, not, ◌&&◌, List, [], ◌++◌, Option, Some, None, refl, sym, ◌∙◌, ap}
use Rattle.xpath_tokens.specs.Reading.{or_else}
use Rattle.xpath_grammar.specs.Tree.{Tree, Trees, Walk, or, and, union, compare, arithmetic, negate, path, from, filter, literal, number, variable, call}
use Rattle.xpath_grammar.specs.Tree.{none, more, stop, go}
use Rattle.xpath_grammar.specs.Functions.{signature_of, gives_nodes}
use Rattle.xpath_grammar.specs.Static.{Mark, function_word, wanted, wants_nodes, axis_fault, test_fault, call_fault, marks, list_marks, step_marks, refusals}
use Rattle.xpath_grammar.specs.Checking.{head, first_in}
use Rattle.xpath_grammar.specs.Passes.{GivesWhere, Passes, ListPasses, StepsPass}
use Rattle.xpath_grammar.proofs.FirstFault.{first_in-append, first_in-plain, begun_step, wanted_lacking, wanted_fine, prefix_own, steps_first, no_refusal}

-- no refusal is at these tokens
abbrev IsClear : List (List ℕ × List ℕ) → List Mark → Type 0
IsClear bs ms = first_in bs ms ≡ None

none_parts : {X : Type 0} (a b : Option X) → or_else a b ≡ None → (a ≡ None) × (b ≡ None)
none_parts None b h = (refl, h)
none_parts (Some x) b h = absurd cc

none_both : {X : Type 0} (a b : Option X) → a ≡ None → b ≡ None → or_else a b ≡ None
none_both None b h k = k
none_both (Some x) b h k = absurd cc

split : (bs : List (List ℕ × List ℕ)) (ms ns : List Mark) → IsClear bs (ms ++ ns) → IsClear bs ms × IsClear bs ns
split bs ms ns h = none_parts (first_in bs ms) (first_in bs ns) (sym (first_in-append bs ms ns) ∙ h)

join : (bs : List (List ℕ × List ℕ)) (ms ns : List Mark) → IsClear bs ms → IsClear bs ns → IsClear bs (ms ++ ns)
join bs ms ns h k = first_in-append bs ms ns ∙ none_both (first_in bs ms) (first_in bs ns) h k

needed_parts : (bs : List (List ℕ × List ℕ)) (nodes : Bool) (e : Tree) → IsClear bs (wanted nodes e (marks e)) → GivesWhere nodes e × IsClear bs (marks e)
needed_parts bs false e h = (tt, h)
needed_parts bs true e h = this (gives_nodes e) refl
  where
    this : (b : Bool) → gives_nodes e ≡ b → (gives_nodes e ≡ true) × IsClear bs (marks e)
    this true g =
        let fine : (true && not (gives_nodes e)) ≡ false = ap not g in
        (g, ap (first_in bs) (sym (wanted_fine true e (marks e) fine)) ∙ h)
    this false g =
        let lacks : (true && not (gives_nodes e)) ≡ true = ap not g in
        let w = wanted_lacking bs true e lacks in
        absurd cc

needed_join : (bs : List (List ℕ × List ℕ)) (nodes : Bool) (e : Tree) → GivesWhere nodes e → IsClear bs (marks e) → IsClear bs (wanted nodes e (marks e))
needed_join bs false e g h = h
needed_join bs true e g h = ap (first_in bs) (wanted_fine true e (marks e) (ap not g)) ∙ h

mutual
  passes : (bs : List (List ℕ × List ℕ)) (e : Tree) → IsClear bs (marks e) → Passes bs e
  passes bs (or a b) h = let p = split bs (marks a) (marks b) h in (passes bs a p.0, passes bs b p.1)
  passes bs (and a b) h = let p = split bs (marks a) (marks b) h in (passes bs a p.0, passes bs b p.1)
  passes bs (compare how a b) h = let p = split bs (marks a) (marks b) h in (passes bs a p.0, passes bs b p.1)
  passes bs (arithmetic op a b) h = let p = split bs (marks a) (marks b) h in (passes bs a p.0, passes bs b p.1)
  passes bs (negate a) h = passes bs a h
  passes bs (union a b) h =
      let p = split bs (wanted true a (marks a)) (wanted true b (marks b)) h in
      let x = needed_parts bs true a p.0 in
      let y = needed_parts bs true b p.1 in
      ((x.0, passes bs a x.1), (y.0, passes bs b y.1))
  passes bs (path true w) h = steps_pass bs w h
  passes bs (path false stop) h = tt
  passes bs (path false (go a t ps w)) h = steps_pass bs (go a t ps w) (ap (first_in bs) (sym (begun_step a t ps w)) ∙ h)
  passes bs (from e w) h =
      let p = split bs (wanted true e (marks e)) (step_marks w) h in
      let x = needed_parts bs true e p.0 in
      ((x.0, passes bs e x.1), steps_pass bs w p.1)
  passes bs (filter e ps) h =
      let p = split bs (wanted true e (marks e)) (list_marks false ps) h in
      let x = needed_parts bs true e p.0 in
      ((x.0, passes bs e x.1), list_passes bs false ps p.1)
  passes bs (literal t) h = tt
  passes bs (number t) h = sym (prefix_own bs (number t) refl) ∙ h
  passes bs (variable n) h = absurd cc
  passes bs (call f es) h =
      let p = none_parts (call_fault f es) (first_in bs (list_marks (wants_nodes (signature_of f)) es))
      (sym (first_in-plain bs (function_word f es) (list_marks (wants_nodes (signature_of f)) es)) ∙ h) in
      (p.0, list_passes bs (wants_nodes (signature_of f)) es p.1)

  list_passes : (bs : List (List ℕ × List ℕ)) (nodes : Bool) (es : Trees) → IsClear bs (list_marks nodes es) → ListPasses bs nodes es
  list_passes bs nodes none h = tt
  list_passes bs nodes (more e es) h =
      let p = split bs (wanted nodes e (marks e)) (list_marks false es) h in
      let x = needed_parts bs nodes e p.0 in
      ((x.0, passes bs e x.1), list_passes bs false es p.1)

  steps_pass : (bs : List (List ℕ × List ℕ)) (w : Walk) → IsClear bs (step_marks w) → StepsPass bs w
  steps_pass bs stop h = tt
  steps_pass bs (go a t ps w) h =
      let p = none_parts (or_else (or_else (axis_fault a) (test_fault bs t)) (first_in bs (list_marks false ps))) (first_in bs (step_marks w))
      (sym (steps_first bs a t ps w) ∙ h) in
      let q = none_parts (or_else (axis_fault a) (test_fault bs t)) (first_in bs (list_marks false ps)) p.0 in
      (none_parts (axis_fault a) (test_fault bs t) q.0, (list_passes bs false ps q.1, steps_pass bs w p.1))

mutual
  clear : (bs : List (List ℕ × List ℕ)) (e : Tree) → Passes bs e → IsClear bs (marks e)
  clear bs (or a b) h = join bs (marks a) (marks b) (clear bs a h.0) (clear bs b h.1)
  clear bs (and a b) h = join bs (marks a) (marks b) (clear bs a h.0) (clear bs b h.1)
  clear bs (compare how a b) h = join bs (marks a) (marks b) (clear bs a h.0) (clear bs b h.1)
  clear bs (arithmetic op a b) h = join bs (marks a) (marks b) (clear bs a h.0) (clear bs b h.1)
  clear bs (negate a) h = clear bs a h
  clear bs (union a b) h =
      join bs (wanted true a (marks a)) (wanted true b (marks b))
      (needed_join bs true a h.0.0 (clear bs a h.0.1))
      (needed_join bs true b h.1.0 (clear bs b h.1.1))
  clear bs (path true w) h = steps_clear bs w h
  clear bs (path false stop) h = refl
  clear bs (path false (go a t ps w)) h = ap (first_in bs) (begun_step a t ps w) ∙ steps_clear bs (go a t ps w) h
  clear bs (from e w) h = join bs (wanted true e (marks e)) (step_marks w) (needed_join bs true e h.0.0 (clear bs e h.0.1)) (steps_clear bs w h.1)
  clear bs (filter e ps) h = join bs (wanted true e (marks e)) (list_marks false ps) (needed_join bs true e h.0.0 (clear bs e h.0.1))
      (list_clear bs false ps h.1)
  clear bs (literal t) h = refl
  clear bs (number t) h = prefix_own bs (number t) refl ∙ h
  clear bs (variable n) h = absurd h
  clear bs (call f es) h =
      first_in-plain bs (function_word f es) (list_marks (wants_nodes (signature_of f)) es)
      ∙ none_both (call_fault f es) (first_in bs (list_marks (wants_nodes (signature_of f)) es)) h.0 (list_clear bs (wants_nodes (signature_of f)) es h.1)

  list_clear : (bs : List (List ℕ × List ℕ)) (nodes : Bool) (es : Trees) → ListPasses bs nodes es → IsClear bs (list_marks nodes es)
  list_clear bs nodes none h = refl
  list_clear bs nodes (more e es) h = join bs (wanted nodes e (marks e)) (list_marks false es) (needed_join bs nodes e h.0.0 (clear bs e h.0.1))
      (list_clear bs false es h.1)

  steps_clear : (bs : List (List ℕ × List ℕ)) (w : Walk) → StepsPass bs w → IsClear bs (step_marks w)
  steps_clear bs stop h = refl
  steps_clear bs (go a t ps w) h =
      let own = none_both (axis_fault a) (test_fault bs t) h.0.0 h.0.1 in
      let list = none_both (or_else (axis_fault a) (test_fault bs t)) (first_in bs (list_marks false ps)) own (list_clear bs false ps h.1.0) in
      steps_first bs a t ps w ∙ none_both (or_else (or_else (axis_fault a) (test_fault bs t)) (first_in bs (list_marks false ps)))
      (first_in bs (step_marks w)) list (steps_clear bs w h.1.1)

pub first_passes : (bs : List (List ℕ × List ℕ)) (e : Tree) → first_in bs (marks e) ≡ None → Passes bs e
first_passes bs e h = passes bs e h

pub no_refusals_pass : (bs : List (List ℕ × List ℕ)) (e : Tree) → refusals bs e ≡ [] → Passes bs e
no_refusals_pass bs e h = passes bs e (ap head h)

pub passes_no_refusals : (bs : List (List ℕ × List ℕ)) (e : Tree) → Passes bs e → refusals bs e ≡ []
passes_no_refusals bs e h = no_refusal (refusals bs e) (clear bs e h)
