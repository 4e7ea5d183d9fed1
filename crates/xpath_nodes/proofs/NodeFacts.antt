-- Nodes and values of a document, as comparisons and document order ask for them.
use Rattle.std.proofs.Common.{◌≡◌, ℕ, ◌<◌, ◌≤◌, ◌^◌, ◌↔◌, List, [], ◌∷◌, ◌++◌, map, length, ◌==◌, true, Ok, refl, sym, ◌∙◌, ap, subst, arith}
use Rattle.std.specs.List.{Contains}
use Rattle.std.specs.List.Sorted.{IsStrictlyIncreasing}
use Rattle.std.proofs.lemmas.Bool.{eqb-true}
use Rattle.std.proofs.lemmas.List.{length-map}
use Rattle.xml_model.specs.declared.Node.{Node}
use Rattle.xml_model.specs.Items.{first_place}
use Rattle.xml_model.specs.Records.{records, word}
use Rattle.xml_model.specs.Tree.{Entry}
use Rattle.vtd_words.specs.Lists.{Lists}
use Rattle.vtd_words.specs.Table.{ForEachNest, nodes_of}
use Rattle.vtd_location.specs.Nav.{IsNav}
use Rattle.vtd_location.proofs.NavLaws.{nest_of_table}
use Rattle.xpath_values.specs.declared.Value.{Value}
use Rattle.xpath_values.specs.declared.Value.TheVariants as held
use Rattle.xpath_values.specs.Values.{Meant, IsHeld}
use Rattle.xpath_meaning.specs.Context.{Context, in_order, is_in, nodes_in}
use Rattle.xpath_meaning.specs.Meaning.{united}
use Rattle.xpath_meaning.specs.Meets.{Meets}
use Rattle.xpath_meaning.specs.Scope.{ScopeOf, IsScope, AreNodes, AreOf, AreFewOf, HaveEntries, root_context}
use Rattle.xpath_meaning.proofs.Lists.{same_length, joined}
use Rattle.xpath_meaning.proofs.Nodes.{some_scope}
use Rattle.xpath_nodes.proofs.OrderingLemmas.{ordered_nodes, one_node_at, few_nodes, filter_length}

-- what a look-up says of every meaning of two values
pub pair_in : (s : ScopeOf) (bytes : List ℕ) (lists : Lists) (x y : Value) (P : Meant → Meant → Type 0) → bytes ≡ s.bytes → lists ≡ s.lists →
    ForEachNest bytes lists (λ nest. (v w : Meant) → IsHeld (nodes_of bytes nest) x v → IsHeld (nodes_of bytes nest) y w → P v w) →
    (c : Context) → IsScope s c → (v w : Meant) → IsHeld c.document x v → IsHeld c.document y w → P v w
pair_in s bytes lists x y P e1 e2 f c h v w k l =
    let Q : List ℕ → Lists → Type 0 = λ b m. ForEachNest b m (λ nest. (v w : Meant) → IsHeld (nodes_of b nest) x v → IsHeld (nodes_of b nest) y w → P v w) in
    let g : Q s.bytes s.lists = subst (λ b. Q b s.lists) e1 (subst (λ m. Q bytes m) e2 f) in
    g h.nest (nest_of_table s.bytes s.lists h.nest h.shown) v w (subst (λ es. IsHeld es x v) h.document k) (subst (λ es. IsHeld es y w) h.document l)

pub order_asks : (s : ScopeOf) (found : List Node) → IsNav s.bytes s.lists → AreOf s found → (m n : Node) → Contains found m → Contains found n → m.at ≡ n.at → m ≡ n
order_asks s found n a =
    let e : HaveEntries (nodes_of s.bytes n.nest) found = a.each (root_context s.bytes n.nest s.bindings) (some_scope s n) in
    one_node_at n.nest (first_place s.bytes) n.shown.accepted.document.nests found e.entries e.nodes

pub order_gives : (s : ScopeOf) (found ns : List Node) → IsStrictlyIncreasing (map (λ n. n.at) ns) → ((n : Node) → Contains ns n ↔ Contains found n) →
    (c : Context) → IsScope s c → (es : List Entry) → AreNodes c.document found es → AreNodes c.document ns (in_order c.document es)
order_gives s found ns i k c h es a =
    subst (λ d. AreNodes d found es → AreNodes d ns (in_order d es)) (sym h.document)
    (λ b. ordered_nodes h.nest (first_place s.bytes) h.shown.accepted.document.nests ns found es b i k) a

in_length : (document es : List Entry) → length (in_order document es) ≤ length document
unfolding in_order
in_length document es = filter_length (is_in es) document

pub order_few : (s : ScopeOf) (found ns : List Node) → IsNav s.bytes s.lists → length s.lists.records < 2 ^ 32 → AreOf s found → IsStrictlyIncreasing (map (λ n. n.at) ns) → ((n : Node) → Contains ns n ↔ Contains found n) → AreFewOf s ns
order_few s found ns n l a i k =
    let c : Context = root_context s.bytes n.nest s.bindings in
    let e : HaveEntries (nodes_of s.bytes n.nest) found = a.each c (some_scope s n) in
    let g : AreNodes (nodes_of s.bytes n.nest) ns (in_order (nodes_of s.bytes n.nest) e.entries) = order_gives s found ns i k c (some_scope s n) e.entries e.nodes in
    let p = same_length (nodes_of s.bytes n.nest) ns (in_order (nodes_of s.bytes n.nest) e.entries) g in
    let q = in_length (nodes_of s.bytes n.nest) e.entries in
    let r = few_nodes n.nest (first_place s.bytes) n.shown.accepted.document.nests in
    let t : length s.lists.records ≡ length (records n.nest (first_place s.bytes)) = ap length n.shown.recorded ∙ length-map (records n.nest (first_place s.bytes)) word in
    record {
      of = record { each = λ d h. let x = a.each d h in record { entries = in_order d.document x.entries; nodes = order_gives s found ns i k d h x.entries x.nodes } };
      few = omega (arith, p, q, r, t, l);
    }

pub both_of : (s : ScopeOf) (ms ns all : List Node) → AreFewOf s ms → AreFewOf s ns → all ≡ ms ++ ns → AreOf s all
both_of s ms ns all a b e = subst (AreOf s) (sym e) (record {
  each = λ c h. let x = a.of.each c h in let y = b.of.each c h in record { entries = x.entries ++ y.entries; nodes = joined c.document ms ns x.entries y.entries x.nodes y.nodes };
})

pub union_meets : (document : List Entry) (x : Value) (ms ns all us : List Node) (v w : Meant) → x ≡ held.Nodes us → AreNodes document ms (nodes_in v) → AreNodes document ns (nodes_in w) → all ≡ ms ++ ns →
    ((es : List Entry) → AreNodes document all es → AreNodes document us (in_order document es)) → Meets (IsHeld document) (Ok x) (Ok (united document v w))
union_meets document x ms ns all us v w e a b q f =
    let g : AreNodes document us (in_order document (nodes_in v ++ nodes_in w)) = f (nodes_in v ++ nodes_in w) (subst (λ l. AreNodes document l (nodes_in v ++ nodes_in w)) (sym q) (joined document ms ns (nodes_in v) (nodes_in w) a b)) in
    record { value = united document v w; meant_is = refl; held = record { same = e ∙ ap held.Nodes g.same; among = g.within } }

pub no_length : (cs : List ℕ) → (length cs == 0) ≡ true → cs ≡ []
no_length [] h = refl
no_length (d ∷ cs) h = absurd (omega (arith, eqb-true (length (d ∷ cs)) 0 h))
