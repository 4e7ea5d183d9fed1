-- Along all nodes the places rise.
use Rattle.std.proofs.Common.{ℕ, suc, ◌+◌, ◌<◌, ◌≤◌, Bool, List, [], ◌∷◌, ◌++◌, map, arith, le_refl, length, length-append, IfSome}
use Rattle.xml_model.specs.Chars.{size}
use Rattle.xml_model.specs.Items.{Attribute, Tag, Leaf, written_attribute, written_pieces}
use Rattle.xml_model.specs.Nest.{Forest, done, single, empty, element}
use Rattle.xml_model.specs.Records.{declares, attributes_records, attributes_place, tag_records, leaf_records, forest_records, past_leaf, past_empty, past_start, past_element}
use Rattle.xml_model.specs.Tree.{Holder, held, Step, Entry, Here, attributes, attribute_entry, nodes, all, at_first, leaf_node, text_node, begins_run, run, after_leaf, inside_of, after_element, element_past, element_entry, tag_attributes, under}
use Rattle.xml_model.proofs.Cuts.{some_cuts}
use Rattle.xml_model.proofs.Each.{Rising, rising_append, rising_map, rising_option, rising_up, if_some_cond, if_some_second}

abbrev pub index : Entry → ℕ
index e = e.index

abbrev BeginsIn : ℕ → ℕ → Entry → Type 0
BeginsIn low n e = (low ≤ e.index) × (e.index < low + n)

rising_attributes : (others : List Attribute) (tags : List Holder) (at first i d : ℕ) → Rising index first (attributes tags at first i others) (first + length (attributes_records d at others))
rising_attributes [] tags at first i d = omega arith
rising_attributes (a ∷ others) tags at first i d =
    rising_option index first (first + 2) _ (attribute_entry tags at first i a) _ (omega arith)
    (if_some_second (BeginsIn first 2) (declares a.name) _ (le_refl first, omega arith))
    (rising_up index (first + 2) _ _ _ (omega arith) (rising_attributes others tags (at + size (written_attribute a)) (first + 2) _ d))

text_place : (n : ℕ) → 0 < n → (xs : List Leaf) (t : Holder) (tags : List Holder) (at first number : ℕ) (joins : Bool) →
    IfSome (text_node (record { holders = t ∷ tags; at = at; index = first; number = number; joins = joins }) xs) (BeginsIn first n)
text_place n some xs t tags at first number joins = if_some_cond (BeginsIn first n) (begins_run (t ∷ tags) joins xs) _ (le_refl first, omega arith)

-- the node that begins at a leaf has its first record there
leaf_place : (x : Leaf) (f : Forest) (tags : List Holder) (at first number : ℕ) (joins : Bool) →
    IfSome (leaf_node (record { holders = tags; at = at; index = first; number = number; joins = joins }) x f) (BeginsIn first (length (leaf_records (length tags) at x)))
leaf_place (Leaf.text ps) f [] at first number joins = tt
leaf_place (Leaf.text ps) f (t ∷ tags) at first number joins = text_place _ (some_cuts 5 (length tags) at (size (written_pieces ps))) (Leaf.text ps ∷ run f) t tags at first number joins
leaf_place (Leaf.cdata cs) f [] at first number joins = tt
leaf_place (Leaf.cdata cs) f (t ∷ tags) at first number joins = text_place _ (some_cuts 11 (length tags) (at + 9) (size cs)) (Leaf.cdata cs ∷ run f) t tags at first number joins
leaf_place (Leaf.comment cs) f tags at first number joins = (le_refl first, omega arith)
leaf_place (Leaf.instruction i) f tags at first number joins = (le_refl first, omega arith)
leaf_place (Leaf.declaration d) f tags at first number joins = tt
leaf_place (Leaf.doctype d) f tags at first number joins = tt

rising_tag : (h : Here) (t : Tag) → Rising index (suc h.index) (tag_attributes h t) (h.index + length (tag_records (length h.holders) h.at t))
rising_tag h t = rising_up index (suc h.index) _ _ _ (omega arith) (rising_attributes t.attributes (held h t) (attributes_place h.at t) (suc h.index) 0 (length h.holders))

pub rising_nodes : (f : Forest) (h : Here) → Rising index h.index (nodes h f) (h.index + length (forest_records (length h.holders) h.at f))
rising_nodes done h = omega arith
rising_nodes (single x f) h =
    rising_option index h.index (h.index + length (leaf_records (length h.holders) h.at x)) _ (leaf_node h x f) _ (omega arith)
    (leaf_place x f h.holders h.at h.index h.number h.joins)
    (rising_up index _ _ _ _ (omega (arith, length-append (leaf_records (length h.holders) h.at x) (forest_records (length h.holders) (past_leaf h.at x) f))) (rising_nodes f (after_leaf h x f)))
rising_nodes (empty t f) h =
    let l = length h.holders in
    let own = tag_records l h.at t in
    let next = after_element h t done (past_empty h.at t) in
    let rest = forest_records l (past_empty h.at t) f in
    let mine = element_entry h t done (past_empty h.at t) ∷ tag_attributes h t in
    rising_append index h.index (element_past h t done) _ (map (under (Step.child h.number)) mine) (nodes next f)
    (rising_map index (under (Step.child h.number)) h.index (element_past h t done) mine
    (le_refl h.index, rising_up index (suc h.index) (h.index + length own) (element_past h t done) (tag_attributes h t) (omega arith) (rising_tag h t)))
    (rising_up index next.index (next.index + length rest) _ (nodes next f) (omega (arith, length-append own rest)) (rising_nodes f next))
rising_nodes (element t inside space f) h =
    let l = length h.holders in
    let tag = tag_records l h.at t in
    let within = forest_records (suc l) (past_start h.at t) inside in
    let stop = past_element h.at t inside space in
    let next = after_element h t inside stop in
    let rest = forest_records l stop f in
    let mine = element_entry h t inside stop ∷ tag_attributes h t ++ nodes (inside_of h t) inside in
    rising_append index h.index (element_past h t inside) _ (map (under (Step.child h.number)) mine) (nodes next f)
    (rising_map index (under (Step.child h.number)) h.index (element_past h t inside) mine
    (le_refl h.index, rising_append index (suc h.index) (h.index + length tag) (element_past h t inside) (tag_attributes h t) (nodes (inside_of h t) inside) (rising_tag h t) (rising_nodes inside (inside_of h t))))
    (rising_up index next.index (next.index + length rest) _ (nodes next f) (omega (arith, length-append (tag ++ within) rest, length-append tag within)) (rising_nodes f next))

-- the law: from the root on each node has a place after those before it, and all are below the number of records
pub indexes_rise : (nest : Forest) (first : ℕ) → Rising index 0 (all nest first) (suc (length (forest_records 0 first nest)))
unfolding all
indexes_rise nest first = (le_refl 0, rising_up index 1 _ _ _ (omega arith) (rising_nodes nest (at_first first)))
