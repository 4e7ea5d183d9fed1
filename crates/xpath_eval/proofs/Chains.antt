-- Loops over predicates, steps and arguments: what is left of them leads on from what was found so far.
use Rattle.std.proofs.Common.{◌≡◌, ℕ, Bool, suc, ◌+◌, ◌≤◌, List, [], ◌∷◌, ◌++◌, length, refl, sym, ◌∙◌, ap, subst, arith, true, Ok, Err}
use Rattle.xml_model.specs.declared.Node.{Node}
use Rattle.xml_model.specs.Tree.{Entry}
use Rattle.xpath_tokens.specs.declared.StepAxis.{StepAxis}
use Rattle.xpath_grammar.specs.declared.expr.Step.{Step}
use Rattle.xpath_grammar.specs.declared.expr.StepTest.{StepTest}
use Rattle.xpath_grammar.specs.Checking.{weight, list_weight, step_weight}
use Rattle.xpath_grammar.specs.Tree.{Tree, Trees, Walk, none, more, stop, go, trees_of}
use Rattle.xpath_values.specs.declared.Value.{Value}
use Rattle.xpath_values.specs.declared.ValueFault.{ValueFault}
use Rattle.xpath_values.specs.Answers.{Answer, and_then, with}
use Rattle.xpath_values.specs.Values.{IsHeld}
use Rattle.xpath_meaning.specs.declared.scope.Place.{Place}
use Rattle.xpath_meaning.specs.Context.{Context}
use Rattle.xpath_meaning.specs.Meets.{Meets}
use Rattle.xpath_meaning.specs.Meaning.{mean, listed, filtered, walked, kept, step_from}
use Rattle.xpath_meaning.specs.Scope.{ScopeOf, AreHeld, AreNodes, Finds, ListMeans, Means}
use Rattle.xpath_sweeps.specs.Sweeps.{is_scan}
use Rattle.xpath_eval.proofs.Meanings.{go_on, go_fault, filter_on, list_end, list_on, same_fault}
use Rattle.xpath_eval.proofs.Scans.{scanned_on, scanned_fault, two_steps}

-- what the predicates that are left pass of the nodes found so far is what all of them pass of the first nodes
pub record Filters (s : ScopeOf) (ns : List Node) (whole : Trees) (found : List Node) (rest : Trees) : Type 0 where
  pub leads : (r : Answer (List Node)) → Finds s found r (filtered rest) → Finds s ns r (filtered whole)
  pub within : list_weight rest ≤ list_weight whole

pub filters_begin : (s : ScopeOf) (ns : List Node) (whole : Trees) → Filters s ns whole ns whole
filters_begin s ns whole = record { leads = λ r h. h; within = omega arith }

pub filters_on : (s : ScopeOf) (ns found slice next : List Node) (whole rest : Trees) (e e' : Tree) (ps ps' : Trees) → Filters s ns whole found rest → slice ≡ found → e' ≡ e → ps' ≡ ps → rest ≡ more e ps →
    Finds s slice (Ok next) (λ c es. kept (mean e') c (length es) 1 es) → Filters s ns whole next ps'
filters_on s ns found slice next whole rest e e' ps ps' k e1 e2 e3 e4 one = record {
  leads = λ r two. k.leads r (filter_on s found slice next e e' ps ps' rest r e1 e2 e3 e4 one two);
  within =
      let a : list_weight rest ≡ suc (weight e + list_weight ps) = ap list_weight e4 in
      let b : list_weight ps' ≡ list_weight ps = ap list_weight e3 in
      let m = k.within in
      omega (arith, a, b, m);
}

pub filters_fault : (s : ScopeOf) (ns found slice : List Node) (whole rest : Trees) (e e' : Tree) (ps : Trees) (f : ValueFault) → Filters s ns whole found rest → slice ≡ found → e' ≡ e → rest ≡ more e ps →
    Finds s slice (Err f) (λ c es. kept (mean e') c (length es) 1 es) → Finds s ns (Err f) (filtered whole)
filters_fault s ns found slice whole rest e e' ps f k e1 e2 e4 one =
    let one' : Finds s found (Err f) (λ c es. kept (mean e) c (length es) 1 es) =
    subst (λ x. Finds s x (Err f) (λ c es. kept (mean e) c (length es) 1 es)) e1
    (subst (λ x. Finds s slice (Err f) (λ c es. kept (mean x) c (length es) 1 es)) e2 one) in
    k.leads (Err f) (subst (λ x. Finds s found (Err f) (filtered x)) (sym e4) (record {
      yields = λ c hc es a.
          same_fault (AreNodes c.document) (AreNodes c.document) f (kept (mean e) c (length es) 1 es) (filtered (more e ps) c es)
          (λ d q. ap (λ m. and_then m (filtered ps c)) q) (one'.yields c hc es a);
    }))

-- nodes are left as they are
nothing_done : (s : ScopeOf) (ns : List Node) → Finds s ns (Ok ns) (λ c es. Ok es)
nothing_done s ns = record { yields = λ c hc es a. record { value = es; meant_is = refl; held = a } }

pub filters_end : (s : ScopeOf) (ns found : List Node) (whole rest : Trees) → Filters s ns whole found rest → rest ≡ none → Finds s ns (Ok found) (filtered whole)
filters_end s ns found whole rest k e = k.leads (Ok found) (subst (λ x. Finds s found (Ok found) (filtered x)) (sym e) (nothing_done s found))

-- the same for steps
pub record Walks (s : ScopeOf) (ns : List Node) (whole : Walk) (found : List Node) (rest : Walk) : Type 0 where
  pub leads : (r : Answer (List Node)) → Finds s found r (walked rest) → Finds s ns r (walked whole)
  pub within : step_weight rest ≤ step_weight whole

pub walks_begin : (s : ScopeOf) (ns : List Node) (whole : Walk) → Walks s ns whole ns whole
walks_begin s ns whole = record { leads = λ r h. h; within = omega arith }

pub walks_on : (s : ScopeOf) (ns found slice next : List Node) (whole rest : Walk) (axis axis' : StepAxis) (test test' : StepTest) (ps ps' : Trees) (w w' : Walk) → Walks s ns whole found rest →
    slice ≡ found → axis' ≡ axis → test' ≡ test → ps' ≡ ps → w' ≡ w → rest ≡ go axis test ps w →
    Finds s slice (Ok next) (step_from (filtered ps') axis' test') → Walks s ns whole next w'
walks_on s ns found slice next whole rest axis axis' test test' ps ps' w w' k e1 e2 e3 e4 e5 e6 one = record {
  leads = λ r two. k.leads r (go_on s found slice next axis axis' test test' ps ps' w w' rest r e1 e2 e3 e4 e5 e6 one two);
  within =
      let a : step_weight rest ≡ suc (list_weight ps + step_weight w) = ap step_weight e6 in
      let b : step_weight w' ≡ step_weight w = ap step_weight e5 in
      let m = k.within in
      omega (arith, a, b, m);
}

pub walks_fault : (s : ScopeOf) (ns found slice : List Node) (whole rest : Walk) (axis axis' : StepAxis) (test test' : StepTest) (ps ps' : Trees) (w : Walk) (e : ValueFault) → Walks s ns whole found rest →
    slice ≡ found → axis' ≡ axis → test' ≡ test → ps' ≡ ps → rest ≡ go axis test ps w →
    Finds s slice (Err e) (step_from (filtered ps') axis' test') → Finds s ns (Err e) (walked whole)
walks_fault s ns found slice whole rest axis axis' test test' ps ps' w e k e1 e2 e3 e4 e6 one =
    k.leads (Err e) (go_fault s found slice axis axis' test test' ps ps' w rest e e1 e2 e3 e4 e6 one)

pub walks_scanned : (s : ScopeOf) (ns found slice slice' next : List Node) (whole rest more_rest : Walk) (step step' after after' : Step) (test : StepTest) (ps : Trees) (w w' : Walk) (b : Bool) → Walks s ns whole found rest →
    slice ≡ found → slice' ≡ found → step' ≡ step → after' ≡ after → b ≡ is_scan slice step' after' → b ≡ true → test ≡ after.test → ps ≡ trees_of after.predicates →
    rest ≡ go step.axis step.test (trees_of step.predicates) more_rest → more_rest ≡ go after.axis after.test (trees_of after.predicates) w → w' ≡ w →
    Finds s slice' (Ok next) (two_steps test ps) → Walks s ns whole next w'
walks_scanned s ns found slice slice' next whole rest more_rest step step' after after' test ps w w' b k e1 e2 e3 e4 e5 e6 e7 e8 e9 e10 e11 one = record {
  leads = λ r two. k.leads r (scanned_on s found slice slice' next step step' after after' test ps w w' more_rest rest b r e1 e2 e3 e4 e5 e6 e7 e8 e9 e10 e11 one two);
  within =
      let a : step_weight rest ≡ suc (list_weight (trees_of step.predicates) + step_weight more_rest) = ap step_weight e9 in
      let o : step_weight more_rest ≡ suc (list_weight (trees_of after.predicates) + step_weight w) = ap step_weight e10 in
      let n : step_weight w' ≡ step_weight w = ap step_weight e11 in
      let m = k.within in
      omega (arith, a, o, n, m);
}

pub walks_scan_fault : (s : ScopeOf) (ns found slice slice' : List Node) (whole rest more_rest : Walk) (step step' after after' : Step) (test : StepTest) (ps : Trees) (w : Walk) (b : Bool) (e : ValueFault) → Walks s ns whole found rest →
    slice ≡ found → slice' ≡ found → step' ≡ step → after' ≡ after → b ≡ is_scan slice step' after' → b ≡ true → test ≡ after.test → ps ≡ trees_of after.predicates →
    rest ≡ go step.axis step.test (trees_of step.predicates) more_rest → more_rest ≡ go after.axis after.test (trees_of after.predicates) w →
    Finds s slice' (Err e) (two_steps test ps) → Finds s ns (Err e) (walked whole)
walks_scan_fault s ns found slice slice' whole rest more_rest step step' after after' test ps w b e k e1 e2 e3 e4 e5 e6 e7 e8 e9 e10 one =
    k.leads (Err e) (scanned_fault s found slice slice' step step' after after' test ps w more_rest rest b e e1 e2 e3 e4 e5 e6 e7 e8 e9 e10 one)

pub walks_end : (s : ScopeOf) (ns found : List Node) (whole rest : Walk) → Walks s ns whole found rest → rest ≡ stop → Finds s ns (Ok found) (walked whole)
walks_end s ns found whole rest k e = k.leads (Ok found) (subst (λ x. Finds s found (Ok found) (walked x)) (sym e) (nothing_done s found))

-- the same for arguments
pub record Lists (s : ScopeOf) (p : Place) (done : List Value) (whole : Trees) (values : List Value) (rest : Trees) : Type 0 where
  pub leads : (r : Answer (List Value)) → ListMeans s p values r (listed rest) → ListMeans s p done r (listed whole)
  pub within : list_weight rest ≤ list_weight whole

pub lists_begin : (s : ScopeOf) (p : Place) (done : List Value) (whole : Trees) → Lists s p done whole done whole
lists_begin s p done whole = record { leads = λ r h. h; within = omega arith }

pub lists_on : (s : ScopeOf) (p : Place) (done values longer : List Value) (h : Value) (whole rest : Trees) (e e' : Tree) (es es' : Trees) → Lists s p done whole values rest → e' ≡ e → es' ≡ es → rest ≡ more e es →
    longer ≡ values ++ h ∷ [] → Means s p (Ok h) (mean e') → Lists s p done whole longer es'
lists_on s p done values longer h whole rest e e' es es' k e1 e2 e3 e4 one = record {
  leads = λ r two. k.leads r (list_on s p values longer h e e' es es' rest r e1 e2 e3 e4 one two);
  within =
      let a : list_weight rest ≡ suc (weight e + list_weight es) = ap list_weight e3 in
      let b : list_weight es' ≡ list_weight es = ap list_weight e2 in
      let m = k.within in
      omega (arith, a, b, m);
}

pub lists_fault : (s : ScopeOf) (p : Place) (done values : List Value) (whole rest : Trees) (e e' : Tree) (es : Trees) (f : ValueFault) → Lists s p done whole values rest → e' ≡ e → rest ≡ more e es →
    Means s p (Err f) (mean e') → ListMeans s p done (Err f) (listed whole)
lists_fault s p done values whole rest e e' es f k e1 e3 one =
    let one' : Means s p (Err f) (mean e) = subst (λ x. Means s p (Err f) (mean x)) e1 one in
    k.leads (Err f) (subst (λ x. ListMeans s p values (Err f) (listed x)) (sym e3) (record {
      yields = λ c hc vs a.
          same_fault (IsHeld c.document) (AreHeld c.document) f (mean e c) (with (listed (more e es) c) (λ ws. vs ++ ws))
          (λ d q. ap (λ m. with (and_then m (λ v. with (listed es c) (λ ws. v ∷ ws))) (λ ws. vs ++ ws)) q) (one'.yields c hc);
    }))

pub lists_end : (s : ScopeOf) (p : Place) (done values : List Value) (whole rest : Trees) → Lists s p done whole values rest → rest ≡ none → ListMeans s p done (Ok values) (listed whole)
lists_end s p done values whole rest k e = k.leads (Ok values) (subst (λ x. ListMeans s p values (Ok values) (listed x)) (sym e) (list_end s p values))

-- what means the same in each context
pub means_same : (s : ScopeOf) (p : Place) (r : Answer Value) (m n : Tree) → ((c : Context) → mean m c ≡ mean n c) → Means s p r (mean m) → Means s p r (mean n)
means_same s p r m n e k = record { yields = λ c hc. subst (Meets (IsHeld c.document) r) (e c) (k.yields c hc) }
