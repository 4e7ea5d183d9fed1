-- The node with an index in a list, its place and its context.
use Rattle.std.proofs.Common.{◌≡◌, ℕ, suc, ◌<◌, List, [], ◌∷◌, ◌+◌, length, drop, refl, sym, ◌∙◌, ap, arith, true, false, Bool}
use Rattle.std.specs.List.{Contains}
use Rattle.xml_model.specs.declared.Node.{Node}
use Rattle.xml_model.specs.Tree.{Entry, Identifies}
use Rattle.vtd_words.specs.Table.{node_of}
use Rattle.xpath_meaning.specs.declared.scope.Place.{Place}
use Rattle.xpath_meaning.specs.Context.{Context, at}
use Rattle.xpath_meaning.specs.Meaning.{one_if}
use Rattle.xpath_meaning.specs.Scope.{ScopeOf, IsScope, IsContext, IsPlace, AreNodes, AreFewOf, IsAt, node_if}
use Rattle.xpath_meaning.proofs.Lists.{node_at, same_length}

pub record Here (c : Context) (es : List Entry) (i : ℕ) (p : Place) : Type 0 where
  pub entry : Entry
  pub node : p.node ≡ node_of entry
  pub inside : Contains c.document entry
  pub front : drop i es ≡ entry ∷ drop (suc i) es
  pub size : p.size ≡ length es

pub here : (c : Context) (ns : List Node) (es : List Entry) (i : ℕ) (p : Place) → AreNodes c.document ns es → i < length ns → IsAt ns i p → Here c es i p
here c ns es i p a h at =
    let k = node_at c.document i ns es p.node a h in
    record { entry = k.entry; node = at.node ∙ k.is; inside = k.inside; front = k.front; size = at.size ∙ same_length c.document ns es a }

-- its context
abbrev pub inner : (c : Context) (es : List Entry) (i : ℕ) (p : Place) → Here c es i p → Context
inner c es i p k = at c k.entry (suc i) (length es)

pub stands_here : (c : Context) (es : List Entry) (i : ℕ) (p : Place) (k : Here c es i p) → Identifies p.node.kind p.node.at k.entry c.document
stands_here c es i p k = (k.inside, sym (ap (λ m. m.kind) k.node), sym (ap (λ m. m.at) k.node))

pub there : (s : ScopeOf) (c : Context) (es : List Entry) (i : ℕ) (p : Place) → IsScope s c → p.position ≡ i + 1 → (k : Here c es i p) → IsContext s p (inner c es i p k)
there s c es i p h e k = record {
  scope = record { nest = h.nest; shown = h.shown; document = h.document; bindings = h.bindings };
  stands = stands_here c es i p k;
  position = omega (arith, e);
  size = sym k.size;
}

pub is_place : (s : ScopeOf) (ns : List Node) (i : ℕ) (p : Place) → AreFewOf s ns → i < length ns → IsAt ns i p → IsPlace s p
is_place s ns i p a h at = record {
  each = λ c hc. let es = a.of.each c hc in let k = here c ns es.entries i p es.nodes h at in record { entry = k.entry; stands = stands_here c es.entries i p k };
  within = omega (arith, at.position, at.size, h);
  few = omega (arith, at.size, a.few);
}

pub one_node : (document : List Entry) (n : Node) (e : Entry) (b : Bool) → n ≡ node_of e → Contains document e → AreNodes document (node_if b n) (one_if b e)
one_node document n e true p q = record { same = ap (λ m. m ∷ []) p; within = (q, tt) }
one_node document n e false p q = record { same = refl; within = tt }
