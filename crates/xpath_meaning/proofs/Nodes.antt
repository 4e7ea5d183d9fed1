-- Nodes and values of a document, as look-ups ask for them.
use Rattle.std.proofs.Common.{◌≡◌, ℕ, List, [], ◌∷◌, map, filter, Bool, true, false, ◌&&◌, ◌==◌, Ok, Err, refl, sym, ◌∙◌, ap, ap₂, subst, arith}
use Rattle.std.specs.Prelude.{IfOk, IfErr}
use Rattle.std.proofs.lemmas.Bool.{false≢true, eq-eqb, and_from, and_parts}
use Rattle.std.specs.List.{AllByRecursion, Contains}
use Rattle.xml_model.specs.declared.Node.{Node}
use Rattle.xml_model.specs.Items.{first_place}
use Rattle.xml_model.specs.Nest.{Forest}
use Rattle.xml_model.specs.Tree.{Entry, Identifies, all, root_entry}
use Rattle.xml_model.specs.declared.Kind.TheVariants.{Root}
use Rattle.xml_model.specs.Nest.{is_nest}
use Rattle.xml_model.specs.Tree.{kind_of}
use Rattle.xml_model.proofs.Each.{contains_here}
use Rattle.xml_model.proofs.Filters.{filter_same, same_test, one_here}
use Rattle.xml_model.proofs.Inside.{root_first}
use Rattle.xml_model.proofs.TreeOrder as tree
use Rattle.vtd_words.specs.Lists.{Lists}
use Rattle.vtd_words.specs.Table.{IsNestOf, IsNodeOf, ForEachEntry, node_of, nodes_of}
use Rattle.vtd_location.specs.Nav.{IsNav, IsNavOf}
use Rattle.vtd_location.proofs.NavLaws.{nest_of_table}
use Rattle.xpath_values.specs.declared.Value.{Value}
use Rattle.xpath_values.specs.declared.Value.TheVariants as held
use Rattle.xpath_values.specs.Values.{Meant, nodes, truth, number, text, held_as, AreAmong, IsHeld, HasNodesOf, ForEachMeant}
use Rattle.xpath_meaning.specs.declared.scope.Place.{Place}
use Rattle.xpath_values.specs.declared.ValueFault.TheVariants.{NoMemory}
use Rattle.xpath_values.specs.Answers.{Answer}
use Rattle.xpath_meaning.specs.Context.{Context, start, is_root, nodes_in}
use Rattle.xpath_meaning.specs.Meets.{Meets}
use Rattle.xpath_meaning.specs.Scope.{ScopeOf, IsScope, IsContext, IsPlace, HasEntry, HasValue, IsOf, AreNodes, AreFewOf, Fits, root_context}

-- a document that is there has a context
pub some_scope : (s : ScopeOf) (n : IsNav s.bytes s.lists) → IsScope s (root_context s.bytes n.nest s.bindings)
some_scope s n = record { nest = n.nest; shown = n.shown; document = refl; bindings = refl }

nodes_known : (bytes : List ℕ) (lists : Lists) (nest : Forest) → IsNestOf bytes lists nest → (es : List Entry) → AllByRecursion (λ x. Contains (nodes_of bytes nest) x) es → AllByRecursion (λ x. IsNodeOf bytes lists x) (map node_of es)
nodes_known bytes lists nest is [] h = tt
nodes_known bytes lists nest is (e ∷ es) h = (record { nest = nest; shown = is; entry = e; holds = (h.0, refl, refl) }, nodes_known bytes lists nest is es h.1)

value_known : (bytes : List ℕ) (lists : Lists) (nest : Forest) → IsNestOf bytes lists nest → (v : Meant) → AreAmong (nodes_of bytes nest) v → HasNodesOf bytes lists (held_as v)
value_known bytes lists nest is (nodes es) h = nodes_known bytes lists nest is es h
value_known bytes lists nest is (truth b) h = tt
value_known bytes lists nest is (number x) h = tt
value_known bytes lists nest is (text t) h = tt

pub has_nodes : (s : ScopeOf) (x : Value) → IsNav s.bytes s.lists → IsOf s x → HasNodesOf s.bytes s.lists x
has_nodes s x n k =
    let v : HasValue (nodes_of s.bytes n.nest) x = k.each _ (some_scope s n) in
    rw v.held.same (value_known s.bytes s.lists n.nest (nest_of_table s.bytes s.lists n.nest n.shown) v.value v.held.among)

pub has_nodes_in : (s : ScopeOf) (bytes : List ℕ) (lists : Lists) (x : Value) → bytes ≡ s.bytes → lists ≡ s.lists → IsNav s.bytes s.lists → IsOf s x → HasNodesOf bytes lists x
has_nodes_in s bytes lists x e1 e2 n k = rw (e1, e2) (has_nodes s x n k)

pub node_known : (s : ScopeOf) (p : Place) → IsNav s.bytes s.lists → IsPlace s p → IsNodeOf s.bytes s.lists p.node
node_known s p n a =
    let x : HasEntry (nodes_of s.bytes n.nest) p = a.each _ (some_scope s n) in
    record { nest = n.nest; shown = nest_of_table s.bytes s.lists n.nest n.shown; entry = x.entry; holds = x.stands }

pub node_known_in : (s : ScopeOf) (bytes : List ℕ) (lists : Lists) (p : Place) → bytes ≡ s.bytes → lists ≡ s.lists → IsNav s.bytes s.lists → IsPlace s p → IsNodeOf bytes lists p.node
node_known_in s bytes lists p e1 e2 n k = rw (e1, e2) (node_known s p n k)

-- what a look-up says of every meaning of a value
pub meant_in : (s : ScopeOf) (bytes : List ℕ) (lists : Lists) (x : Value) (P : Meant → Type 0) → bytes ≡ s.bytes → lists ≡ s.lists → ForEachMeant bytes lists x P →
    (c : Context) → IsScope s c → (v : Meant) → IsHeld c.document x v → P v
meant_in s bytes lists x P e1 e2 f c h v k =
    let g : ForEachMeant s.bytes s.lists x P = subst (λ b. ForEachMeant b s.lists x P) e1 (subst (λ l. ForEachMeant bytes l x P) e2 f) in
    g h.nest (nest_of_table s.bytes s.lists h.nest h.shown) v (subst (λ es. IsHeld es x v) h.document k)

-- what a look-up says of every entry of a node
pub entry_in : (s : ScopeOf) (bytes : List ℕ) (lists : Lists) (n : Node) (P : Entry → Type 0) → bytes ≡ s.bytes → lists ≡ s.lists → ForEachEntry bytes lists n (λ nest e. P e) →
    (c : Context) → IsScope s c → (e : Entry) → Identifies n.kind n.at e c.document → P e
entry_in s bytes lists n P e1 e2 f c h e k =
    let g : ForEachEntry s.bytes s.lists n (λ nest e. P e) = subst (λ b. ForEachEntry b s.lists n (λ nest e. P e)) e1 (subst (λ l. ForEachEntry bytes l n (λ nest e. P e)) e2 f) in
    g h.nest (nest_of_table s.bytes s.lists h.nest h.shown) e (subst (λ es. Identifies n.kind n.at e es) h.document k)

pub node_here : (p : Place) (e : Entry) (es : List Entry) → Identifies p.node.kind p.node.at e es → p.node ≡ node_of e
node_here p e es h = let f : (m : Node) → kind_of e.what ≡ m.kind → e.index ≡ m.at → m ≡ node_of e = λ m a b. same_node m e a b in f p.node h.1 h.2
  where
    same_node : (m : Node) (e : Entry) → kind_of e.what ≡ m.kind → e.index ≡ m.at → m ≡ node_of e
    same_node m e a b = ap₂ (λ k n. record { kind = k; at = n }) (sym a) (sym b)

-- the nodes of a value

pub nodes_meant : (document : List Entry) (x : Value) (ns : List Node) (v : Meant) → x ≡ held.Nodes ns → IsHeld document x v → AreNodes document ns (nodes_in v)
nodes_meant document x ns (nodes es) e h = let q : held.Nodes ns ≡ held.Nodes (map node_of es) = sym e ∙ h.same in record { same = cc; within = h.among }
nodes_meant document x ns (truth b) e h = let q : held.Nodes ns ≡ held.Truth b = sym e ∙ h.same in absurd (cc)
nodes_meant document x ns (number n) e h = let q : held.Nodes ns ≡ held.Number n = sym e ∙ h.same in absurd (cc)
nodes_meant document x ns (text t) e h = let q : held.Nodes ns ≡ held.Text t = sym e ∙ h.same in absurd (cc)

abbrev pub is_nodes : Value → Bool
is_nodes (held.Nodes ns) = true
is_nodes _ = false

pub none_meant : (document : List Entry) (x : Value) (v : Meant) → is_nodes x ≡ false → IsHeld document x v → AreNodes document [] (nodes_in v)
none_meant document x (nodes es) e h = absurd (false≢true (sym e ∙ ap is_nodes h.same))
none_meant document x (truth b) e h = record { same = refl; within = tt }
none_meant document x (number n) e h = record { same = refl; within = tt }
none_meant document x (text t) e h = record { same = refl; within = tt }

pub few_in : (s : ScopeOf) (x : Value) (ns : List Node) → x ≡ held.Nodes ns → IsOf s x → AreFewOf s ns
few_in s x ns e k = record {
  of = record { each = λ c hc. let v = k.each c hc in record { entries = nodes_in v.value; nodes = nodes_meant c.document x ns v.value e v.held } };
  few = subst Fits e k.fits;
}

pub few_none : (s : ScopeOf) → AreFewOf s []
few_none s = record { of = record { each = λ c hc. record { entries = []; nodes = record { same = refl; within = tt } } }; few = omega arith }

pub value_of_nodes : (s : ScopeOf) (ns : List Node) → AreFewOf s ns → IsOf s (held.Nodes ns)
value_of_nodes s ns a = record {
  each = λ c hc. let es = a.of.each c hc in record { value = nodes es.entries; held = record { same = ap held.Nodes es.nodes.same; among = es.nodes.within } };
  fits = a.few;
}

-- the root

root_there : (nest : Forest) (first : ℕ) → Contains (all nest first) (root_entry nest first)
unfolding all
root_there nest first = contains_here (root_entry nest first) _

-- the root alone is the root
roots : (nest : Forest) (first : ℕ) → is_nest nest ≡ true → filter is_root (all nest first) ≡ root_entry nest first ∷ []
roots nest first h =
    filter_same is_root (λ e. e.index == 0 && is_root e) (all nest first) (λ e c. same_test _ _
    (λ t. and_from _ _ (eq-eqb e.index 0 (root_first nest first h e c t)) t)
    (λ t. (and_parts (e.index == 0) (is_root e) t).1))
    ∙ one_here is_root 0 (all nest first) (tree.in_order nest first h).rises (root_entry nest first) (root_there nest first) refl refl

abbrev pub root_node : Node
root_node = record { kind = Root; at = 0 }

pub root_starts : (s : ScopeOf) (r : Answer (List Node)) → IfOk r (λ l. l ≡ root_node ∷ []) → IfErr r (λ e. e ≡ NoMemory) → (c : Context) → IsScope s c → Meets (AreNodes c.document) r (Ok (start true c))
root_starts s (Ok l) h k c i =
    let d : filter is_root c.document ≡ root_entry i.nest (first_place s.bytes) ∷ [] = ap (filter is_root) i.document ∙ roots i.nest (first_place s.bytes) i.shown.accepted.document.nests in
    record { value = start true c; meant_is = refl; held = record { same = h ∙ sym (ap (map node_of) d); within = subst (AllByRecursion (λ x. Contains c.document x)) (sym d) (subst (λ es. Contains es (root_entry i.nest (first_place s.bytes))) (sym i.document) (root_there i.nest (first_place s.bytes)), tt) } }
root_starts s (Err e) h k c i = rw k tt

pub own_starts : (s : ScopeOf) (p : Place) (r : Answer (List Node)) → IfOk r (λ l. l ≡ p.node ∷ []) → IfErr r (λ e. e ≡ NoMemory) → (c : Context) → IsContext s p c → Meets (AreNodes c.document) r (Ok (start false c))
own_starts s p (Ok l) h k c i = record { value = c.node ∷ []; meant_is = refl; held = record { same = h ∙ ap (λ n. n ∷ []) (node_here p c.node c.document i.stands); within = (i.stands.0, tt) } }
own_starts s p (Err e) h k c i = rw k tt

pub root_few : (s : ScopeOf) (r : Answer (List Node)) → IfOk r (λ l. l ≡ root_node ∷ []) → IfOk r (AreFewOf s)
root_few s (Ok l) h = rw h (record {
  of = record { each = λ c hc. record { entries = root_entry hc.nest (first_place s.bytes) ∷ []; nodes = record { same = refl; within = (subst (λ es. Contains es (root_entry hc.nest (first_place s.bytes))) (sym hc.document) (root_there hc.nest (first_place s.bytes)), tt) } } };
  few = omega arith;
})
root_few s (Err e) h = tt

pub own_few : (s : ScopeOf) (p : Place) (r : Answer (List Node)) → IsPlace s p → IfOk r (λ l. l ≡ p.node ∷ []) → IfOk r (AreFewOf s)
own_few s p (Ok l) a h = rw h (record {
  of = record { each = λ c hc. let x = a.each c hc in record { entries = x.entry ∷ []; nodes = record { same = ap (λ n. n ∷ []) (node_here p x.entry c.document x.stands); within = (x.stands.0, tt) } } };
  few = omega arith;
})
own_few s p (Err e) a h = tt

abbrev pub root_at : Place
root_at = record { node = record { kind = Root; at = 0 }; position = 1; size = 1 }

pub root_is_place : (s : ScopeOf) → IsPlace s root_at
root_is_place s = record {
  each = λ c hc. record { entry = root_entry hc.nest (first_place s.bytes); stands = rw hc.document (root_there hc.nest (first_place s.bytes), refl, refl) };
  within = omega arith;
  few = omega arith;
}

pub root_stands : (s : ScopeOf) (nest : Forest) → IsNavOf s.bytes s.lists nest → IsContext s root_at (root_context s.bytes nest s.bindings)
root_stands s nest h = record {
  scope = record { nest = nest; shown = h; document = refl; bindings = refl };
  stands = (root_there nest (first_place s.bytes), refl, refl);
  position = refl;
  size = refl;
}

pub own_list : (s : ScopeOf) (p : Place) (r : Answer (List Node)) → IfOk r (λ l. l ≡ p.node ∷ []) → IfOk r (λ l. (c : Context) → IsContext s p c → AreNodes c.document l (c.node ∷ []))
own_list s p (Ok l) h = λ c i. record { same = h ∙ ap (λ n. n ∷ []) (node_here p c.node c.document i.stands); within = (i.stands.0, tt) }
own_list s p (Err e) h = tt
