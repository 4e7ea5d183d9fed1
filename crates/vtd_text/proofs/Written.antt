-- The pieces of a nest where they are in the bytes, and what the nodes' records say.
use Rattle.std.proofs.Common.{subst, ◌≡◌, ℕ, suc, ◌+◌, Bool, true, not, ◌==◌, List, [], ◌∷◌, ◌++◌, length, map, refl, sym, ap, ◌∙◌, append_assoc, append-nil, IfSome}
use Rattle.std.specs.List.{AllByRecursion as Each, flat_map}
use Rattle.std.specs.Str.{IsUtf8}
use Rattle.std.proofs.lemmas.Bool.{and_parts}
use Rattle.xml_model.specs.Chars.{size}
use Rattle.xml_model.specs.Items.{Attribute, Tag, Leaf, Item, leaf, start_tag, empty_tag, end_tag, meets, meets_leaf, meets_tag, written, written_leaf, written_tag, written_pieces, written_attribute, before_value, spelling, begins_at, walk, walk_from, walk_to_end, end_of_items, first_place}
use Rattle.xml_model.specs.Nest.{Forest, done, single, empty, element, flat}
use Rattle.xml_model.specs.Records.{Record, declares, plain, document, attributes_records, attributes_place, depth_at, run_records, tag_records, forest_records, past_leaf, past_empty, past_start, past_element, past_forest}
use Rattle.xml_model.specs.Tree.{Thing, Entry, child, Holder, Here, under, attributes, attribute_entry, tag_attributes, element_entry, leaf_node, text_node, begins_run, run, after_leaf, inside_of, after_element, nodes, at_first, all, one_if}
use Rattle.xml_model.specs.Content.{value_content, literal_content, leaf_content, inner_content, top_content}
use Rattle.xml_model.specs.Accepted.{IsDocument}
use Rattle.xml_model.specs.Laws.{records_of}
use Rattle.xml_model.proofs.Each.{each_append, each_map, each_option, if_some_cond, if_some_second}
use Rattle.xml_model.proofs.Starts.{Proper}
use Rattle.xml_model.proofs.Proper.{document_proper}
use Rattle.xml_model.specs.Wholes.{wholes, run_wholes}
use Rattle.xml_model.proofs.TextsApart.{Separate, document_separate}
use Rattle.xml_model.proofs.Wholes.{silent_wholes}
use Rattle.xml_model.proofs.TextPlaces.{attributes_none, tag_none, single_wholes, empty_wholes, element_wholes, run_whole, run_are}
use Rattle.vtd_text.specs.declared.token.Rule.TheVariants.{Literal, Value}
use Rattle.vtd_text.specs.Resolved.{IsResolved}
use Rattle.vtd_text.proofs.Holding.{HasNameRecord, ItemHolds, item_holds, holds_left, holds_past, first_holds}
use Rattle.vtd_text.proofs.Leaves.{WrittenIs, LeafIs, text_is, cdata_is, ValuesAre, Told, told_append, told_none, leaf_told, outside_told, comment_resolved, instruction_resolved, tag_values}

-- a tag that is at a place
pub record IsTagRecord (bytes : List ℕ) (at : ℕ) (t : Tag) : Type 0 where
  pub meet : meets_tag t ≡ true
  pub holds : HasNameRecord bytes at (written_tag t)

-- a leaf that is at a place
pub record LeafHolds (bytes : List ℕ) (at : ℕ) (x : Leaf) : Type 0 where
  pub meet : meets_leaf x ≡ true
  pub holds : HasNameRecord bytes at (written_leaf x)

-- each leaf and each tag of a list of pieces is in its place
abbrev pub Written : List ℕ → ℕ → Forest → Type 0
Written bytes at done = Unit {0}
Written bytes at (single x f) = LeafHolds bytes at x × Written bytes (past_leaf at x) f
Written bytes at (empty t f) = IsTagRecord bytes at t × Written bytes (past_empty at t) f
Written bytes at (element t inside space f) = IsTagRecord bytes at t × Written bytes (past_start at t) inside × Written bytes (past_element at t inside space) f

-- what a walk over the items of a list of pieces, and over others after them, says
record Walked (bytes : List ℕ) (at : ℕ) (f : Forest) (rest : List Item) : Type 0 where
  pub pieces : Written bytes at f
  pub others : walk_from bytes (past_forest at f) rest ≡ true
  pub past : HasNameRecord bytes (past_forest at f) []

-- an item, and those after it
record Step (bytes : List ℕ) (at : ℕ) (i : Item) (rest : List Item) : Type 0 where
  pub meet : meets i ≡ true
  pub holds : HasNameRecord bytes at (written i)
  pub past : HasNameRecord bytes (at + size (written i)) []
  pub others : walk_from bytes (at + size (written i)) rest ≡ true

step_of : (bytes : List ℕ) (at : ℕ) (i : Item) (rest : List Item) → HasNameRecord bytes at [] → walk_from bytes at (i ∷ rest) ≡ true → Step bytes at i rest
unfolding spelling size
step_of bytes at i rest s w =
    let p = and_parts (begins_at bytes at i) (walk_from bytes (at + length (spelling i)) rest) w in
    let k : ItemHolds bytes at i = item_holds bytes at i s p.0 in
    record { meet = k.meet; holds = k.holds; past = holds_past bytes at (written i) k.holds; others = p.1 }

leaf_meets : (x : Leaf) → meets (leaf x) ≡ true → meets_leaf x ≡ true
unfolding meets
leaf_meets x h = h

start_meets : (t : Tag) → meets (start_tag t) ≡ true → meets_tag t ≡ true
unfolding meets
start_meets t h = h

empty_meets : (t : Tag) → meets (empty_tag t) ≡ true → meets_tag t ≡ true
unfolding meets
empty_meets t h = h

walked : (bytes : List ℕ) (f : Forest) (rest : List Item) (at : ℕ) → HasNameRecord bytes at [] → walk_from bytes at (flat f ++ rest) ≡ true → Walked bytes at f rest
unfolding flat
walked bytes done rest at s w = record { pieces = tt; others = w; past = s }
walked bytes (single x f) rest at s w =
    let one = step_of bytes at (leaf x) (flat f ++ rest) s w in
    let so = walked bytes f rest (past_leaf at x) one.past one.others in
    record { pieces = (record { meet = leaf_meets x one.meet; holds = one.holds }, so.pieces); others = so.others; past = so.past }
walked bytes (empty t f) rest at s w =
    let one = step_of bytes at (empty_tag t) (flat f ++ rest) s w in
    let so = walked bytes f rest (past_empty at t) one.past one.others in
    record { pieces = (record { meet = empty_meets t one.meet; holds = holds_left bytes at (written_tag t) _ one.holds }, so.pieces); others = so.others; past = so.past }
walked bytes (element t inside space f) rest at s w =
    let after_element : List Item = end_tag t.name space ∷ (flat f ++ rest) in
    let one = step_of bytes at (start_tag t) (flat inside ++ after_element) s (ap (λ (l : List Item). walk_from bytes at (start_tag t ∷ l)) (sym (append_assoc (flat inside) (end_tag t.name space ∷ flat f) rest)) ∙ w) in
    let within = walked bytes inside after_element (past_start at t) one.past one.others in
    let end = step_of bytes (past_forest (past_start at t) inside) (end_tag t.name space) (flat f ++ rest) within.past within.others in
    let so = walked bytes f rest (past_element at t inside space) end.past end.others in
    record {
      pieces = (record { meet = start_meets t one.meet; holds = holds_left bytes at (written_tag t) _ one.holds }, within.pieces, so.pieces);
      others = so.others;
      past = so.past;
    }

pub written_nest : (bytes : List ℕ) (nest : Forest) → IsUtf8 bytes → IsDocument bytes nest → Written bytes (first_place bytes) nest
unfolding walk walk_to_end
written_nest bytes nest u d =
    let p = and_parts (walk bytes (flat nest)) (end_of_items (first_place bytes) (flat nest) == length bytes) d.walked in
    let w : walk_from bytes (first_place bytes) (flat nest ++ []) ≡ true = ap (walk_from bytes (first_place bytes)) (append-nil (flat nest)) ∙ p.0 in
    (walked bytes nest [] (first_place bytes) (first_holds bytes u) w).pieces

-- ---- the content of lists of pieces

forest_told : (bytes : List ℕ) (f : Forest) (d at : ℕ) → Written bytes at f → Separate f → Told bytes (wholes (forest_records (suc d) at f)) (inner_content f)
forest_told bytes done d at w s = told_none bytes [] tt
forest_told bytes (single x f) d at w s =
    subst (λ (rs : List Record). Told bytes rs (inner_content (single x f))) (sym (single_wholes x f (suc d) at s))
    (told_append bytes _ _ (leaf_content x) (inner_content f) (leaf_told bytes x d at w.0.meet w.0.holds) (forest_told bytes f d (past_leaf at x) w.1 s.1))
forest_told bytes (empty t f) d at w s =
    subst (λ (rs : List Record). Told bytes rs (inner_content f)) (sym (empty_wholes t f (suc d) at))
    (told_append bytes (tag_records (suc d) at t) _ [] (inner_content f) (told_none bytes _ (tag_none (suc d) at t)) (forest_told bytes f d (past_empty at t) w.1 s))
forest_told bytes (element t inside space f) d at w s =
    subst (λ (rs : List Record). Told bytes rs (inner_content inside ++ inner_content f)) (sym (element_wholes t inside space f (suc d) at))
    (told_append bytes _ _ (inner_content inside) (inner_content f)
    (told_append bytes (tag_records (suc d) at t) _ [] (inner_content inside) (told_none bytes _ (tag_none (suc d) at t)) (forest_told bytes inside (suc d) (past_start at t) w.1 s.0))
    (forest_told bytes f d (past_element at t inside space) w.2 s.1))

top_told : (bytes : List ℕ) (f : Forest) (at : ℕ) → Proper 0 f → Written bytes at f → Separate f → Told bytes (wholes (forest_records 0 at f)) (top_content f)
top_told bytes done at p w s = told_none bytes [] tt
top_told bytes (single x f) at p w s =
    subst (λ (rs : List Record). Told bytes rs (top_content f)) (sym (single_wholes x f 0 at s))
    (told_append bytes _ _ [] (top_content f) (outside_told bytes x at p.0) (top_told bytes f (past_leaf at x) p.1 w.1 s.1))
top_told bytes (empty t f) at p w s =
    subst (λ (rs : List Record). Told bytes rs (top_content f)) (sym (empty_wholes t f 0 at))
    (told_append bytes (tag_records 0 at t) _ [] (top_content f) (told_none bytes _ (tag_none 0 at t)) (top_told bytes f (past_empty at t) p w.1 s))
top_told bytes (element t inside space f) at p w s =
    subst (λ (rs : List Record). Told bytes rs (inner_content inside ++ top_content f)) (sym (element_wholes t inside space f 0 at))
    (told_append bytes _ _ (inner_content inside) (top_content f)
    (told_append bytes (tag_records 0 at t) _ [] (inner_content inside) (told_none bytes _ (tag_none 0 at t)) (forest_told bytes inside 0 (past_start at t) w.1 s.0))
    (top_told bytes f (past_element at t inside space) p.1 w.2 s.1))

-- one leaf more before a run
more : (bytes : List ℕ) (x : Leaf) (f : Forest) (d at : ℕ) → Written bytes at (single x f) → Separate (single x f) → Told bytes (wholes (run_records (suc d) (past_leaf at x) (run f))) (flat_map leaf_content (run f)) →
    Told bytes (wholes (run_records (suc d) at (x ∷ run f))) (flat_map leaf_content (x ∷ run f))
more bytes x f d at w s k =
    subst (λ (rs : List Record). Told bytes rs (flat_map leaf_content (x ∷ run f))) (sym (run_whole x f (suc d) at s))
    (told_append bytes _ _ (leaf_content x) (flat_map leaf_content (run f)) (leaf_told bytes x d at w.0.meet w.0.holds) k)

-- the texts and CDATA sections that a list of pieces begins with
run_told : (bytes : List ℕ) (f : Forest) (d at : ℕ) → Written bytes at f → Separate f → Told bytes (wholes (run_records (suc d) at (run f))) (flat_map leaf_content (run f))
run_told bytes done d at w s = told_none bytes [] tt
run_told bytes (empty t f) d at w s = told_none bytes [] tt
run_told bytes (element t inside space f) d at w s = told_none bytes [] tt
run_told bytes (single (Leaf.text ps) f) d at w s = more bytes (Leaf.text ps) f d at w s (run_told bytes f d (past_leaf at (Leaf.text ps)) w.1 s.1)
run_told bytes (single (Leaf.cdata cs) f) d at w s = more bytes (Leaf.cdata cs) f d at w s (run_told bytes f d (past_leaf at (Leaf.cdata cs)) w.1 s.1)
run_told bytes (single (Leaf.comment cs) f) d at w s = told_none bytes [] tt
run_told bytes (single (Leaf.instruction i) f) d at w s = told_none bytes [] tt
run_told bytes (single (Leaf.declaration v) f) d at w s = told_none bytes [] tt
run_told bytes (single (Leaf.doctype v) f) d at w s = told_none bytes [] tt

-- ---- what the records of each node say

-- what the first of some texts and CDATA sections is of
abbrev pub FirstIs : List ℕ → ℕ → ℕ → List Leaf → Type 0
FirstIs bytes l at [] = ⊥
FirstIs bytes l at (x ∷ xs) = LeafIs bytes l at x

-- texts and CDATA sections have a token each
abbrev pub RunIs : List ℕ → ℕ → ℕ → List Leaf → Type 0
RunIs bytes l at xs = (wholes (run_records l at xs) ≡ run_wholes l at xs) × ((length (run_wholes l at xs) ≡ length xs) × FirstIs bytes l at xs)

run_length : (f : Forest) (l at : ℕ) → length (run_wholes l at (run f)) ≡ length (run f)
run_length done l at = refl
run_length (empty t f) l at = refl
run_length (element t inside space f) l at = refl
run_length (single (Leaf.text ps) f) l at = ap suc (run_length f l (past_leaf at (Leaf.text ps)))
run_length (single (Leaf.cdata cs) f) l at = ap suc (run_length f l (past_leaf at (Leaf.cdata cs)))
run_length (single (Leaf.comment cs) f) l at = refl
run_length (single (Leaf.instruction i) f) l at = refl
run_length (single (Leaf.declaration v) f) l at = refl
run_length (single (Leaf.doctype v) f) l at = refl

-- the records of an element but for the first, which is its tag's own
abbrev pub inside_records : ℕ → ℕ → Tag → Forest → List Record
inside_records l at t inside = attributes_records l (attributes_place at t) t.attributes ++ forest_records (suc l) (past_start at t) inside

-- the content of what is at a level and at a place
abbrev pub SaysOf : List ℕ → Thing → ℕ → ℕ → Type 0
SaysOf bytes (Thing.root first f) l at = Told bytes (wholes (records_of (Thing.root first f) l at)) (top_content f)
SaysOf bytes (Thing.element t inside) l at = Told bytes (wholes (inside_records l at t inside)) (inner_content inside) × ValuesAre bytes l (attributes_place at t) t.attributes
SaysOf bytes (Thing.attribute a) l at =
    IsResolved bytes Value (plain 4 (depth_at l) (written_pieces a.value) (at + size (before_value a))) (value_content a.value) × WrittenIs bytes (plain 4 (depth_at l) (written_pieces a.value) (at + size (before_value a))) (written_pieces a.value)
SaysOf bytes (Thing.text xs) l at = Told bytes (wholes (run_records l at xs)) (flat_map leaf_content xs) × RunIs bytes l at xs
SaysOf bytes (Thing.comment cs) l at = IsResolved bytes Literal (plain 6 (depth_at l) cs (at + 4)) (literal_content cs) × WrittenIs bytes (plain 6 (depth_at l) cs (at + 4)) cs
SaysOf bytes (Thing.instruction i) l at =
    IsResolved bytes Literal (plain 8 (depth_at l) i.content (at + 2 + size i.target + size i.space)) (literal_content i.content) × WrittenIs bytes (plain 8 (depth_at l) i.content (at + 2 + size i.target + size i.space)) i.content

abbrev pub Says : List ℕ → Entry → Type 0
Says bytes e = SaysOf bytes e.what (length e.holders) e.start

text_says : (bytes : List ℕ) (holders : List Holder) (at index number : ℕ) (joins : Bool) (xs : List Leaf) → ((d : ℕ) → length holders ≡ suc d → Told bytes (wholes (run_records (suc d) at xs)) (flat_map leaf_content xs) × RunIs bytes (suc d) at xs) →
    IfSome (text_node (record { holders = holders; at = at; index = index; number = number; joins = joins }) xs) (Says bytes)
text_says bytes [] at index number joins xs k = tt
text_says bytes (t ∷ hs) at index number joins xs k = if_some_cond (Says bytes) (begins_run (t ∷ hs) joins xs) _ (k (length hs) refl)

leaf_says : (bytes : List ℕ) (h : Here) (x : Leaf) (f : Forest) → Written bytes h.at (single x f) → Separate (single x f) → IfSome (leaf_node h x f) (Says bytes)
leaf_says bytes h (Leaf.text ps) f w s =
    text_says bytes h.holders h.at h.index h.number h.joins (Leaf.text ps ∷ run f) (λ d e. (run_told bytes (single (Leaf.text ps) f) d h.at w s, (run_are (single (Leaf.text ps) f) d h.at s, (run_length (single (Leaf.text ps) f) (suc d) h.at, text_is bytes ps (suc d) h.at w.0.holds))))
leaf_says bytes h (Leaf.cdata cs) f w s =
    text_says bytes h.holders h.at h.index h.number h.joins (Leaf.cdata cs ∷ run f) (λ d e. (run_told bytes (single (Leaf.cdata cs) f) d h.at w s, (run_are (single (Leaf.cdata cs) f) d h.at s, (run_length (single (Leaf.cdata cs) f) (suc d) h.at, cdata_is bytes cs (suc d) h.at w.0.holds))))
leaf_says bytes h (Leaf.comment cs) f w s = comment_resolved bytes (depth_at (length h.holders)) h.at cs w.0.holds
leaf_says bytes h (Leaf.instruction i) f w s = instruction_resolved bytes (depth_at (length h.holders)) h.at i w.0.holds
leaf_says bytes h (Leaf.declaration v) f w s = tt
leaf_says bytes h (Leaf.doctype v) f w s = tt

attributes_say : (bytes : List ℕ) (x : Holder) (hs : List Holder) (at index i : ℕ) (others : List Attribute) → ValuesAre bytes (length hs) at others → Each (Says bytes) (attributes (x ∷ hs) at index i others)
attributes_say bytes x hs at index i [] v = tt
attributes_say bytes x hs at index i (a ∷ others) v =
    each_option (Says bytes) (attribute_entry (x ∷ hs) at index i a) _ (if_some_second (Says bytes) (declares a.name) _ v.0)
    (attributes_say bytes x hs (at + size (written_attribute a)) (index + 2) (i + one_if (not (declares a.name))) others v.1)

-- the records of an element, from those of what is in it
element_told : (bytes : List ℕ) (l at : ℕ) (t : Tag) (inside : Forest) → Told bytes (wholes (forest_records (suc l) (past_start at t) inside)) (inner_content inside) → Told bytes (wholes (inside_records l at t inside)) (inner_content inside)
element_told bytes l at t inside k =
    let own = attributes_records l (attributes_place at t) t.attributes in
    let none = attributes_none t.attributes l (attributes_place at t) in
    subst (λ (rs : List Record). Told bytes rs (inner_content inside)) (sym (silent_wholes own (forest_records (suc l) (past_start at t) inside) none))
    (told_append bytes own _ [] (inner_content inside) (told_none bytes own none) k)

pub nodes_say : (bytes : List ℕ) (f : Forest) (h : Here) → Written bytes h.at f → Separate f → Each (Says bytes) (nodes h f)
nodes_say bytes done h w s = tt
nodes_say bytes (single x f) h w s = each_option (Says bytes) (leaf_node h x f) (nodes (after_leaf h x f) f) (leaf_says bytes h x f w s) (nodes_say bytes f (after_leaf h x f) w.1 s.1)
nodes_say bytes (empty t f) h w s =
    let l = length h.holders in
    let v = tag_values bytes l h.at t w.0.meet w.0.holds in
    let own : Each (Says bytes) (element_entry h t done (past_empty h.at t) ∷ tag_attributes h t) =
    ((element_told bytes l h.at t done (told_none bytes [] tt), v), attributes_say bytes (record { tag = t; index = h.index }) h.holders (attributes_place h.at t) (suc h.index) 0 t.attributes v) in
    each_append (Says bytes) (map (under (child h.number)) (element_entry h t done (past_empty h.at t) ∷ tag_attributes h t)) _
    (each_map (Says bytes) (under (child h.number)) (element_entry h t done (past_empty h.at t) ∷ tag_attributes h t) own)
    (nodes_say bytes f (after_element h t done (past_empty h.at t)) w.1 s)
nodes_say bytes (element t inside space f) h w s =
    let l = length h.holders in
    let past = past_element h.at t inside space in
    let v = tag_values bytes l h.at t w.0.meet w.0.holds in
    let own : Each (Says bytes) (element_entry h t inside past ∷ tag_attributes h t) =
    ((element_told bytes l h.at t inside (forest_told bytes inside l (past_start h.at t) w.1 s.0), v), attributes_say bytes (record { tag = t; index = h.index }) h.holders (attributes_place h.at t) (suc h.index) 0 t.attributes v) in
    each_append (Says bytes) (map (under (child h.number)) (element_entry h t inside past ∷ tag_attributes h t ++ nodes (inside_of h t) inside)) _
    (each_map (Says bytes) (under (child h.number)) (element_entry h t inside past ∷ tag_attributes h t ++ nodes (inside_of h t) inside)
    (each_append (Says bytes) (element_entry h t inside past ∷ tag_attributes h t) (nodes (inside_of h t) inside) own (nodes_say bytes inside (inside_of h t) w.1 s.0)))
    (nodes_say bytes f (after_element h t inside past) w.2 s.1)

-- each node of a document
pub all_say : (bytes : List ℕ) (nest : Forest) → IsUtf8 bytes → IsDocument bytes nest → Each (Says bytes) (all nest (first_place bytes))
unfolding all
all_say bytes nest u d =
    let w = written_nest bytes nest u d in
    let s = document_separate bytes nest d in
    let fs = forest_records 0 (first_place bytes) nest in (
      subst (λ (rs : List Record). Told bytes rs (top_content nest)) (sym (silent_wholes (document ∷ []) fs (refl, tt)))
          (told_append bytes (document ∷ []) (wholes fs) [] (top_content nest) (told_none bytes (document ∷ []) (refl, tt)) (top_told bytes nest (first_place bytes) (document_proper bytes nest d) w s)),
      nodes_say bytes nest (at_first (first_place bytes)) w s,
    )
