-- What holds a node is a chain of elements, whose tags a scan backwards finds.
use Rattle.std.proofs.Common.{◌≡◌, ℕ, suc, ◌+◌, List, [], ◌∷◌, ◌++◌, map, refl, Option, Some, None, IfSome}
use Rattle.std.specs.List.{AllByRecursion as Each, Contains, cons_option}
use Rattle.std.proofs.lemmas.List.Elements.{Contains-append_left, Contains-append_right}
use Rattle.xml_model.specs.Chars.{size}
use Rattle.xml_model.specs.Items.{Attribute, Tag, Leaf, text, cdata, declaration, doctype, written_attribute}
use Rattle.xml_model.specs.Nest.{Forest, done, single, empty, element}
use Rattle.xml_model.specs.Records.{declares, attributes_place, past_empty, past_element}
use Rattle.xml_model.specs.Tree.{Step, Entry, Here, Holder, attributes, attribute_entry, nodes, all, at_first, root_entry, leaf_node, begins_run, run, after_leaf, inside_of, after_element, element_entry, tag_attributes, under, held}
use Rattle.xml_model.proofs.Each.{each_append, each_option, each_map, if_some_cond, if_some_second, contains_here, contains_next, contains_map}
use Rattle.vtd_namespaces.specs.Scope.{HolderIn, Chain}

-- the same node, but for its path
pub record Alike (es : List Entry) (e : Entry) : Type 0 where
  pub entry : Entry
  pub there : Contains es entry
  pub what : entry.what ≡ e.what
  pub index : entry.index ≡ e.index
  pub holders : entry.holders ≡ e.holders

abbrev pub Among : List Entry → List Entry → Type 0
Among es few = (e : Entry) → Contains few e → Alike es e

attributes_chain : (others : List Attribute) (es : List Entry) (holders : List Holder) (at place i : ℕ) → Chain es holders → Each (λ e. Chain es e.holders) (attributes holders at place i others)
attributes_chain [] es holders at place i c = tt
attributes_chain (a ∷ others) es holders at place i c =
    each_option (λ e. Chain es e.holders) (attribute_entry holders at place i a) _ (if_some_second (λ e. Chain es e.holders) (declares a.name) _ c)
    (attributes_chain others es holders (at + size (written_attribute a)) (place + 2) _ c)

leaf_chain : (x : Leaf) (f : Forest) (h : Here) (es : List Entry) → Chain es h.holders → IfSome (leaf_node h x f) (λ e. Chain es e.holders)
leaf_chain (text ps) f h es c = if_some_cond (λ e. Chain es e.holders) (begins_run h.holders h.joins (text ps ∷ run f)) _ c
leaf_chain (cdata cs) f h es c = if_some_cond (λ e. Chain es e.holders) (begins_run h.holders h.joins (cdata cs ∷ run f)) _ c
leaf_chain (Leaf.comment cs) f h es c = c
leaf_chain (Leaf.instruction i) f h es c = c
leaf_chain (declaration d) f h es c = tt
leaf_chain (doctype d) f h es c = tt

option_more : (o : Option Entry) (es : List Entry) (e : Entry) → Contains es e → Contains (cons_option o es) e
option_more None es e c = c
option_more (Some x) es e c = contains_next x es e c

-- an element among the nodes is a holder
holder_in : (es : List Entry) (h : Here) (t : Tag) (inside : Forest) (stop : ℕ) → Alike es (under (Step.child h.number) (element_entry h t inside stop)) → HolderIn es (record { tag = t; index = h.index }) h.holders
holder_in es h t inside stop a = record { entry = a.entry; there = a.there; inside = inside; what = a.what; index = a.index; holders = a.holders }

-- of what is in an element
inner_among : (es own more : List Entry) (s : Step) → Among es (map (under s) own ++ more) → Among es own
inner_among es own more s a e c =
    let k = a (under s e) (Contains-append_left (map (under s) own) more (under s e) (contains_map (under s) own e c)) in
    record { entry = k.entry; there = k.there; what = k.what; index = k.index; holders = k.holders }

own_chain : (t : Tag) (inside : Forest) (h : Here) (stop : ℕ) (es within more : List Entry) → Among es (map (under (Step.child h.number)) (element_entry h t inside stop ∷ tag_attributes h t ++ within) ++ more) → Chain es h.holders →
    Each (λ e. Chain es e.holders) within → Each (λ e. Chain es e.holders) (map (under (Step.child h.number)) (element_entry h t inside stop ∷ tag_attributes h t ++ within))
own_chain t inside h stop es within more a c w =
    let own = element_entry h t inside stop ∷ tag_attributes h t ++ within in
    let me : HolderIn es (record { tag = t; index = h.index }) h.holders =
    holder_in es h t inside stop (a (under (Step.child h.number) (element_entry h t inside stop)) (contains_here _ _)) in
    each_map (λ e. Chain es e.holders) (under (Step.child h.number)) own
    (c, each_append (λ e. Chain es e.holders) (tag_attributes h t) within (attributes_chain t.attributes es (held h t) (attributes_place h.at t) (suc h.index) 0 (me, c)) w)

nodes_chain : (f : Forest) (h : Here) (es : List Entry) → Among es (nodes h f) → Chain es h.holders → Each (λ e. Chain es e.holders) (nodes h f)
nodes_chain done h es a c = tt
nodes_chain (single x f) h es a c =
    each_option (λ e. Chain es e.holders) (leaf_node h x f) (nodes (after_leaf h x f) f) (leaf_chain x f h es c)
    (nodes_chain f (after_leaf h x f) es (λ e k. a e (option_more (leaf_node h x f) (nodes (after_leaf h x f) f) e k)) c)
nodes_chain (empty t f) h es a c =
    let stop = past_empty h.at t in
    let more = nodes (after_element h t done stop) f in
    let own = element_entry h t done stop ∷ tag_attributes h t in
    let me : HolderIn es (record { tag = t; index = h.index }) h.holders = holder_in es h t done stop (a (under (Step.child h.number) (element_entry h t done stop)) (contains_here _ _)) in
    each_append (λ e. Chain es e.holders) (map (under (Step.child h.number)) own) more
    (each_map (λ e. Chain es e.holders) (under (Step.child h.number)) own (c, attributes_chain t.attributes es (held h t) (attributes_place h.at t) (suc h.index) 0 (me, c)))
    (nodes_chain f (after_element h t done stop) es (λ e k. a e (Contains-append_right (map (under (Step.child h.number)) own) more e k)) c)
nodes_chain (element t inside space f) h es a c =
    let stop = past_element h.at t inside space in
    let more = nodes (after_element h t inside stop) f in
    let within = nodes (inside_of h t) inside in
    let own = element_entry h t inside stop ∷ tag_attributes h t ++ within in
    let me : HolderIn es (record { tag = t; index = h.index }) h.holders = holder_in es h t inside stop (a (under (Step.child h.number) (element_entry h t inside stop)) (contains_here _ _)) in
    let inner : Among es within =
    λ e k. inner_among es own more (Step.child h.number) a e (contains_next (element_entry h t inside stop) (tag_attributes h t ++ within) e (Contains-append_right (tag_attributes h t) within e k)) in
    each_append (λ e. Chain es e.holders) (map (under (Step.child h.number)) own) more
    (own_chain t inside h stop es within more a c (nodes_chain inside (inside_of h t) es inner (me, c)))
    (nodes_chain f (after_element h t inside stop) es (λ e k. a e (Contains-append_right (map (under (Step.child h.number)) own) more e k)) c)

-- what holds each node of a document is a chain of its nodes
pub document_chain : (nest : Forest) (first : ℕ) → Each (λ e. Chain (all nest first) e.holders) (all nest first)
unfolding all
document_chain nest first =
    let es = root_entry nest first ∷ nodes (at_first first) nest in
    (tt, nodes_chain nest (at_first first) es (λ e c. record { entry = e; there = contains_next (root_entry nest first) (nodes (at_first first) nest) e c; what = refl; index = refl; holders = refl }) tt)
