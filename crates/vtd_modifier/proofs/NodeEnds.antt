-- Each node is within the document.
use Rattle.std.proofs.Common.{◌≡◌, ℕ, suc, ◌+◌, ◌≤◌, List, [], ◌∷◌, ◌++◌, length, map, refl, arith, IfSome}
use Rattle.std.specs.Prelude.{codes, not}
use Rattle.std.specs.List.{AllByRecursion as Each}
use Rattle.xml_model.specs.Chars.{size}
use Rattle.xml_model.specs.Items.{Attribute, Tag, Leaf, first_place, written_attribute, written_attributes, written_tag, written_start, written_empty, written_end}
use Rattle.xml_model.specs.Nest.{Forest, done, empty, element}
use Rattle.xml_model.specs.Records.{declares, attributes_place, past_leaf, past_run, past_empty, past_start, past_element, past_forest}
use Rattle.xml_model.specs.Tree.{Step, Entry, Holder, Here, all, attributes, attribute_entry, at_first, after_leaf, after_element, begins_run}
use Rattle.xml_model.specs.Tree.{element_entry, inside_of, leaf_node, nodes, one_if, run, tag_attributes, text_node, under, held}
use Rattle.xml_model.specs.Accepted.{IsDocument}
use Rattle.xml_model.proofs.Each.{each_append, each_map, each_option, if_some_cond, if_some_second}
use Rattle.xml_model.proofs.TextPlaces.{forest_grows}
use Rattle.xml_chars.proofs.HoldLemmas.{size-append}
use Rattle.vtd_cursor.proofs.Closing.{attribute_size}
use Rattle.vtd_cursor.proofs.Placed.{document_ends}

abbrev pub Ends : ℕ → Entry → Type 0
Ends high e = (e.start ≤ e.stop) × (e.stop ≤ high)

size_1 : size (codes "<") ≡ 1
unfolding size Rattle.std.proofs.Math.Utf8.encode
size_1 = refl

tag_parts : (t : Tag) → 1 + size t.name + size (written_attributes t.attributes) ≤ size (written_tag t)
tag_parts t =
    omega (
      arith,
      size-append (codes "<" ++ t.name ++ written_attributes t.attributes) t.space,
      size-append (codes "<" ++ t.name) (written_attributes t.attributes),
      size-append (codes "<") t.name,
      size_1,
    )

start_parts : (t : Tag) → size (written_tag t) ≤ size (written_start t)
start_parts t = omega (arith, size-append (written_tag t) (codes ">"))

empty_parts : (t : Tag) → size (written_tag t) ≤ size (written_empty t)
empty_parts t = omega (arith, size-append (written_tag t) (codes "/>"))

attributes_end : (others : List Attribute) (holders : List Holder) (at index i high : ℕ) → at + size (written_attributes others) ≤ high →
    Each (Ends high) (attributes holders at index i others)
attributes_end [] holders at index i high k = tt
attributes_end (a ∷ others) holders at index i high k =
    let both : size (written_attributes (a ∷ others)) ≡ size (written_attribute a) + size (written_attributes others) =
    size-append (written_attribute a) (written_attributes others) in
    each_option (Ends high) (attribute_entry holders at index i a) _
    (if_some_second (Ends high) (declares a.name) _ (omega (arith, attribute_size a), omega (arith, both, k)))
    (attributes_end others holders (at + size (written_attribute a)) (index + 2) (i + one_if (not (declares a.name))) high (omega (arith, both, k)))

run_grows : (xs : List Leaf) (at : ℕ) → at ≤ past_run at xs
run_grows [] at = omega arith
run_grows (x ∷ xs) at = omega (arith, run_grows xs (past_leaf at x))

run_within : (f : Forest) (at : ℕ) → past_run at (run f) ≤ past_forest at f
run_within done at = omega arith
run_within (empty t f) at = forest_grows (empty t f) at
run_within (element t inside space f) at = forest_grows (element t inside space f) at
run_within (Forest.single (Leaf.text ps) f) at = run_within f (past_leaf at (Leaf.text ps))
run_within (Forest.single (Leaf.cdata cs) f) at = run_within f (past_leaf at (Leaf.cdata cs))
run_within (Forest.single (Leaf.comment cs) f) at = forest_grows (Forest.single (Leaf.comment cs) f) at
run_within (Forest.single (Leaf.instruction x) f) at = forest_grows (Forest.single (Leaf.instruction x) f) at
run_within (Forest.single (Leaf.declaration d) f) at = forest_grows (Forest.single (Leaf.declaration d) f) at
run_within (Forest.single (Leaf.doctype d) f) at = forest_grows (Forest.single (Leaf.doctype d) f) at

text_ends : (h : Here) (x : Leaf) (f : Forest) (high : ℕ) → past_forest (past_leaf h.at x) f ≤ high → IfSome (text_node h (x ∷ run f)) (Ends high)
text_ends h x f high k =
    if_some_cond (Ends high) (begins_run h.holders h.joins (x ∷ run f)) _
    (run_grows (x ∷ run f) h.at, omega (arith, k, run_within f (past_leaf h.at x)))

leaf_ends : (x : Leaf) (f : Forest) (h : Here) (high : ℕ) → past_forest (past_leaf h.at x) f ≤ high → IfSome (leaf_node h x f) (Ends high)
leaf_ends (Leaf.text ps) f h high k = text_ends h (Leaf.text ps) f high k
leaf_ends (Leaf.cdata cs) f h high k = text_ends h (Leaf.cdata cs) f high k
leaf_ends (Leaf.comment cs) f h high k = (omega arith, omega (arith, k, forest_grows f (past_leaf h.at (Leaf.comment cs))))
leaf_ends (Leaf.instruction x) f h high k = (omega arith, omega (arith, k, forest_grows f (past_leaf h.at (Leaf.instruction x))))
leaf_ends (Leaf.declaration d) f h high k = tt
leaf_ends (Leaf.doctype d) f h high k = tt

nodes_end : (f : Forest) (h : Here) (high : ℕ) → past_forest h.at f ≤ high → Each (Ends high) (nodes h f)
nodes_end done h high k = tt
nodes_end (Forest.single x f) h high k =
    each_option (Ends high) (leaf_node h x f) _ (leaf_ends x f h high k) (nodes_end f (after_leaf h x f) high k)
nodes_end (empty t f) h high k =
    let stop = past_empty h.at t in
    let own = element_entry h t done stop ∷ tag_attributes h t in
    let low : stop ≤ high = omega (arith, k, forest_grows f stop) in
    each_append (Ends high) (map (under (Step.child h.number)) own) (nodes (after_element h t done stop) f)
    (each_map (Ends high) (under (Step.child h.number)) own (
      (omega arith, low),
      attributes_end t.attributes (held h t) (attributes_place h.at t) (suc h.index) 0 high (omega (arith, low, tag_parts t, empty_parts t)),
    ))
    (nodes_end f (after_element h t done stop) high k)
nodes_end (element t inside space f) h high k =
    let stop = past_element h.at t inside space in
    let own = element_entry h t inside stop ∷ tag_attributes h t ++ nodes (inside_of h t) inside in
    let low : stop ≤ high = omega (arith, k, forest_grows f stop) in
    let first : past_start h.at t ≤ past_forest (past_start h.at t) inside = forest_grows inside (past_start h.at t) in
    each_append (Ends high) (map (under (Step.child h.number)) own) (nodes (after_element h t inside stop) f)
    (each_map (Ends high) (under (Step.child h.number)) own (
      (omega (arith, first), low),
      each_append (Ends high) (tag_attributes h t) (nodes (inside_of h t) inside)
          (attributes_end t.attributes (held h t) (attributes_place h.at t) (suc h.index) 0 high (omega (arith, low, first, tag_parts t, start_parts t)))
          (nodes_end inside (inside_of h t) high (omega (arith, low))),
    ))
    (nodes_end f (after_element h t inside stop) high k)

pub all_end : (bytes : List ℕ) (nest : Forest) → IsDocument bytes nest → Each (Ends (length bytes)) (all nest (first_place bytes))
unfolding all
all_end bytes nest d =
    let end : past_forest (first_place bytes) nest ≤ length bytes = omega (arith, document_ends bytes nest d) in
    ((omega arith, end), nodes_end nest (at_first (first_place bytes)) (length bytes) end)
