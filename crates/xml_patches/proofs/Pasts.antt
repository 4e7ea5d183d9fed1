-- The first record past each text node is past the records of its pieces.
use Rattle.std.proofs.Common.{◌≡◌, ℕ, suc, ◌+◌, Bool, true, false, cond, List, [], ◌∷◌, ◌++◌, map, length, Some, None, IfSome, refl, subst, not}
use Rattle.std.specs.List.{AllByRecursion as Each}
use Rattle.std.specs.Prelude.{Contains}
use Rattle.std.proofs.lemmas.List.Elements.{All-contains, All-from_recursion}
use Rattle.xml_model.specs.Items.{Attribute, Leaf, text, cdata, declaration, doctype, written_attribute}
use Rattle.xml_model.specs.Chars.{size}
use Rattle.xml_model.specs.Nest.{Forest, done, single, empty, element}
use Rattle.xml_model.specs.Records.{declares, attributes_place, past_empty, past_element, run_records}
use Rattle.xml_model.specs.Tree.{Step, Thing, Entry, Holder, Here, attributes, attribute_entry, nodes, all, at_first, leaf_node}
use Rattle.xml_model.specs.Tree.{text_node, begins_run, run, after_leaf, inside_of, after_element, element_entry, tag_attributes, under}
use Rattle.xml_model.specs.Tree.{held, one_if}
use Rattle.xml_model.proofs.Each.{each_append, each_option, each_map, if_some_cond}

-- where the records of a text end
abbrev EndsBy : Thing → List Holder → ℕ → ℕ → ℕ → Type 0
EndsBy (Thing.text xs) holders start index past = past ≡ index + length (run_records (length holders) start xs)
EndsBy _ holders start index past = Unit {0}

abbrev Ends : Entry → Type 0
Ends e = EndsBy e.what e.holders e.start e.index e.past

text_ends : (h : Here) (xs : List Leaf) → IfSome (text_node h xs) Ends
text_ends h xs = if_some_cond Ends (begins_run h.holders h.joins xs) _ refl

leaf_ends : (h : Here) (x : Leaf) (f : Forest) → IfSome (leaf_node h x f) Ends
leaf_ends h (text ps) f = text_ends h (text ps ∷ run f)
leaf_ends h (cdata cs) f = text_ends h (cdata cs ∷ run f)
leaf_ends h (Leaf.comment cs) f = tt
leaf_ends h (Leaf.instruction i) f = tt
leaf_ends h (declaration d) f = tt
leaf_ends h (doctype d) f = tt

attribute_ends : (b : Bool) (e : Entry) → Ends e → IfSome (cond b None (Some e)) Ends
attribute_ends true e s = tt
attribute_ends false e s = s

attributes_end : (hs : List Holder) (at index i : ℕ) (others : List Attribute) → Each Ends (attributes hs at index i others)
attributes_end hs at index i [] = tt
attributes_end hs at index i (a ∷ others) =
    each_option Ends (attribute_entry hs at index i a) _ (attribute_ends (declares a.name) _ tt)
    (attributes_end hs (at + size (written_attribute a)) (index + 2) (i + one_if (not (declares a.name))) others)

nodes_end : (f : Forest) (h : Here) → Each Ends (nodes h f)
nodes_end done h = tt
nodes_end (single x f) h =
    each_option Ends (leaf_node h x f) (nodes (after_leaf h x f) f) (leaf_ends h x f) (nodes_end f (after_leaf h x f))
nodes_end (empty t f) h =
    let b = after_element h t done (past_empty h.at t) in
    each_append Ends (map (under (Step.child h.number)) (element_entry h t done (past_empty h.at t) ∷ tag_attributes h t)) (nodes b f)
    (each_map Ends (under (Step.child h.number)) (element_entry h t done (past_empty h.at t) ∷ tag_attributes h t)
    (tt, attributes_end (held h t) (attributes_place h.at t) (suc h.index) 0 t.attributes))
    (nodes_end f b)
nodes_end (element t inside space f) h =
    let stop = past_element h.at t inside space in
    let b = after_element h t inside stop in
    let i = inside_of h t in
    each_append Ends
    (map (under (Step.child h.number)) (element_entry h t inside stop ∷ tag_attributes h t ++ nodes i inside)) (nodes b f)
    (each_map Ends (under (Step.child h.number)) (element_entry h t inside stop ∷ tag_attributes h t ++ nodes i inside) (
      tt,
      each_append Ends (tag_attributes h t) (nodes i inside)
          (attributes_end (held h t) (attributes_place h.at t) (suc h.index) 0 t.attributes) (nodes_end inside i),
    ))
    (nodes_end f b)

all_end : (nest : Forest) (first : ℕ) → Each Ends (all nest first)
unfolding all
all_end nest first = (tt, nodes_end nest (at_first first))

-- the records of a text node are up to the first record past it
pub text_past : (nest : Forest) (first : ℕ) (e : Entry) (xs : List Leaf) → Contains (all nest first) e → e.what ≡ Thing.text xs →
    e.past ≡ e.index + length (run_records (length e.holders) e.start xs)
text_past nest first e xs c w =
    subst (λ (x : Thing). EndsBy x e.holders e.start e.index e.past) w
    (All-contains Ends (all nest first) e (All-from_recursion Ends (all nest first) (all_end nest first)) c)
