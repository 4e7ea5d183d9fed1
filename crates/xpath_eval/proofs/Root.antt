-- What is known of a value that is meant at the root.
use Rattle.std.proofs.Common.{◌≡◌, ℕ, List, Ok, Err, subst, sym}
use Rattle.std.specs.Prelude.{IfOk}
use Rattle.xml_model.specs.Items.{first_place}
use Rattle.xml_model.proofs.Indexes.{all_rise}
use Rattle.vtd_words.specs.Lists.{Lists}
use Rattle.vtd_location.specs.Nav.{IsNav}
use Rattle.xpath_grammar.specs.Tree.{Tree}
use Rattle.xpath_values.specs.declared.Value.{Value}
use Rattle.xpath_values.specs.Answers.{Answer}
use Rattle.xpath_values.specs.Values.{HasNodesOf, IsHeld}
use Rattle.xpath_meaning.specs.declared.scope.Place.{Place}
use Rattle.xpath_meaning.specs.Context.{Context}
use Rattle.xpath_meaning.specs.Meaning.{mean}
use Rattle.xpath_meaning.specs.Meets.{IsHeldFor}
use Rattle.xpath_meaning.specs.Scope.{ScopeOf, Fits, IsContext, IsInOrder, IsOf, Means, root_context}
use Rattle.xpath_meaning.proofs.Nodes.{has_nodes_in, root_at, root_stands}
use Rattle.xpath_meaning.proofs.Orders.{meant_in_order}

pub nodes_known : (s : ScopeOf) (bytes : List ℕ) (lists : Lists) (r : Answer Value) → bytes ≡ s.bytes → lists ≡ s.lists → IsNav s.bytes s.lists → IfOk r (IsOf s) → IfOk r (HasNodesOf bytes lists)
nodes_known s bytes lists (Ok x) e1 e2 n k = has_nodes_in s bytes lists x e1 e2 n k
nodes_known s bytes lists (Err e) e1 e2 n k = tt

pub all_fit : (s : ScopeOf) (r : Answer Value) → IfOk r (IsOf s) → IfOk r Fits
all_fit s (Ok x) k = k.fits
all_fit s (Err e) k = tt

pub all_ordered : (s : ScopeOf) (p : Place) (t : Tree) (r : Answer Value) → p ≡ root_at → IsNav s.bytes s.lists → Means s p r (mean t) → IfOk r IsInOrder
all_ordered s p t (Ok x) e n m =
    let c : Context = root_context s.bytes n.nest s.bindings in
    let k : IsHeldFor (IsHeld c.document) x (mean t c) = m.yields c (subst (λ q. IsContext s q c) (sym e) (root_stands s n.nest n.shown)) in
    meant_in_order t c x (all_rise n.nest (first_place s.bytes)) k
all_ordered s p t (Err d) e n m = tt
