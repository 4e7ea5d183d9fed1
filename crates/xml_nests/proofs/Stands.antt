-- Each text and each element of the tree has its place in the nest.
use Rattle.std.proofs.Common.{◌≡◌, ℕ, suc, ◌+◌, ◌≤◌, Bool, true, false, cond, inl, inr, List, [], ◌∷◌, ◌++◌, map, length, Some, None}
use Rattle.std.proofs.Common.{IfSome, refl, sym, ap, ◌∙◌, arith, add-zero, length-append, not}
use Rattle.std.specs.List.{list_all, AllByRecursion as Each}
use Rattle.std.specs.Prelude.{Contains}
use Rattle.std.proofs.lemmas.List.Elements.{All-contains, All-from_recursion}
use Rattle.std.proofs.lemmas.Bool.{false≢true}
use Rattle.xml_model.specs.Chars.{size}
use Rattle.xml_model.proofs.Fits.{after_run}
use Rattle.xml_model.specs.Items.{Attribute, Tag, Leaf, text, cdata, declaration, doctype, Item, start_tag, end_tag, written_attribute}
use Rattle.xml_model.specs.Nest.{Forest, done, single, empty, element, flat}
use Rattle.xml_model.specs.Records.{declares, attributes_place, past_leaf, past_empty, past_start, past_forest, past_element, past_run}
use Rattle.xml_model.specs.Records.{leaf_records, tag_records, forest_records}
use Rattle.xml_model.specs.Tree.{Step, Thing, Entry, Holder, Here, attributes, attribute_entry, nodes, all, at_first, leaf_node}
use Rattle.xml_model.specs.Tree.{text_node, begins_run, run, after_leaf, inside_of, after_element, element_entry, tag_attributes, under}
use Rattle.xml_model.specs.Tree.{held, one_if, is_text}
use Rattle.xml_model.proofs.Each.{each_append, each_option, each_more, each_map}
use Rattle.xml_nests.specs.Fits.{begins_with_text}
use Rattle.xml_nests.specs.Context.{join, leaves, Context, before, past_single, past_tag, past_whole, within, plug, items_before}
use Rattle.xml_nests.specs.Context.{items_after, level_in, tags_in, place_in, records_before}
use Rattle.xml_nests.specs.Stand.{Stand, is_run_item, ends_in_run, StandsBy, NodeStands}

-- ---- from a list of pieces to one with more around it

abbrev Wrap : Type 0
Wrap = Context → Context

-- the same pieces, further in
record Further (h h' : Here) (f f' : Forest) (w : Wrap) : Type 0 where
  split : (c : Context) (g : Forest) → f ≡ plug c g → f' ≡ plug (w c) g
  level : (c : Context) → level_in (length h.holders) c ≡ level_in (length h'.holders) (w c)
  tags : (c : Context) → tags_in (map (λ (x : Holder). x.tag) h.holders) c ≡ tags_in (map (λ (x : Holder). x.tag) h'.holders) (w c)
  place : (c : Context) → place_in h.at c ≡ place_in h'.at (w c)
  record_at : (c : Context) →
      h.index + length (records_before (length h.holders) h.at c) ≡ h'.index + length (records_before (length h'.holders) h'.at (w c))
  front : (c : Context) → ends_in_run h.joins (items_before c) ≡ ends_in_run h'.joins (items_before (w c))
  back : (c : Context) → begins_with_text (items_after c) ≡ false → begins_with_text (items_after (w c)) ≡ false

further_stand : (h h' : Here) (f f' g : Forest) (w : Wrap) (hs : List Holder) (start stop place : ℕ) → Further h h' f f' w →
    Stand h f g hs start stop place → Stand h' f' g hs start stop place
further_stand h h' f f' g w hs start stop place u s = record {
  around = w s.around;
  split = u.split s.around g s.split;
  level = s.level ∙ u.level s.around;
  tags = s.tags ∙ u.tags s.around;
  starts = s.starts ∙ u.place s.around;
  stops = s.stops ∙ ap (λ (n : ℕ). past_forest n g) (u.place s.around);
  record_at = s.record_at ∙ u.record_at s.around;
}

further_by : (x : Thing) (h h' : Here) (f f' : Forest) (w : Wrap) (hs : List Holder) (start stop place : ℕ) → Further h h' f f' w →
    StandsBy x h f hs start stop place → StandsBy x h' f' hs start stop place
unfolding further_stand
further_by (Thing.root first g) h h' f f' w hs start stop place u s = tt
further_by (Thing.element t inside) h h' f f' w hs start stop place u s =
    (s.0, s.1, further_stand h h' f f' s.0 w hs start stop place u s.2)
further_by (Thing.attribute a) h h' f f' w hs start stop place u s = tt
further_by (Thing.text xs) h h' f f' w hs start stop place u s = record {
  stand = further_stand h h' f f' (leaves xs) w hs start stop place u s.stand;
  inside = s.inside;
  texts = s.texts;
  apart_before = sym (u.front s.stand.around) ∙ s.apart_before;
  apart_after = u.back s.stand.around s.apart_after;
}
further_by (Thing.comment cs) h h' f f' w hs start stop place u s = tt
further_by (Thing.instruction i) h h' f f' w hs start stop place u s = tt

further_nodes : (h h' : Here) (f f' : Forest) (w : Wrap) (es : List Entry) → Further h h' f f' w → Each (NodeStands h f) es →
    Each (NodeStands h' f') es
further_nodes h h' f f' w es u s =
    each_more (NodeStands h f) (NodeStands h' f') (λ e. further_by e.what h h' f f' w e.holders e.start e.stop e.index u) es s

further_leaf : (h : Here) (x : Leaf) (f : Forest) → Further (after_leaf h x f) h f (single x f) (past_single x)
further_leaf h x f = record {
  split = λ c g e. ap (single x) e;
  level = λ c. refl;
  tags = λ c. refl;
  place = λ c. refl;
  record_at = λ c. let l =
      length-append (leaf_records (length h.holders) h.at x) (records_before (length h.holders) (past_leaf h.at x) c) in omega (arith, l);
  front = λ c. refl;
  back = λ c e. e;
}

further_empty : (h : Here) (t : Tag) (f : Forest) → Further (after_element h t done (past_empty h.at t)) h f (empty t f) (past_tag t)
further_empty h t f = record {
  split = λ c g e. ap (empty t) e;
  level = λ c. refl;
  tags = λ c. refl;
  place = λ c. refl;
  record_at = λ c. let l =
      length-append (tag_records (length h.holders) h.at t) (records_before (length h.holders) (past_empty h.at t) c) in omega (arith, l);
  front = λ c. refl;
  back = λ c e. e;
}

run_past_end : (xs ys : List Item) (b : Bool) (n s : List ℕ) → ends_in_run b ((xs ++ end_tag n s ∷ []) ++ ys) ≡ ends_in_run false ys
run_past_end [] ys b n s = refl
run_past_end (x ∷ xs) ys b n s = run_past_end xs ys (is_run_item x) n s

further_after : (h : Here) (t : Tag) (inside : Forest) (space : List ℕ) (f : Forest) →
    Further (after_element h t inside (past_element h.at t inside space)) h f (element t inside space f) (past_whole t inside space)
further_after h t inside space f = record {
  split = λ c g e. ap (element t inside space) e;
  level = λ c. refl;
  tags = λ c. refl;
  place = λ c. refl;
  record_at = λ c.
      let a = tag_records (length h.holders) h.at t in
      let b = forest_records (suc (length h.holders)) (past_start h.at t) inside in
      let l = length-append (a ++ b) (records_before (length h.holders) (past_element h.at t inside space) c) in
      let m = length-append a b in omega (arith, l, m);
  front = λ c. sym (run_past_end (start_tag t ∷ flat inside) (items_before c) h.joins t.name space);
  back = λ c e. e;
}

no_text_before_end : (xs ys : List Item) (n s : List ℕ) → begins_with_text xs ≡ false → begins_with_text (xs ++ end_tag n s ∷ ys) ≡ false
no_text_before_end [] ys n s e = refl
no_text_before_end (x ∷ xs) ys n s e = e

further_inside : (h : Here) (t : Tag) (inside : Forest) (space : List ℕ) (f : Forest) →
    Further (inside_of h t) h inside (element t inside space f) (λ c. within t c space f)
further_inside h t inside space f = record {
  split = λ c g e. ap (λ (x : Forest). element t x space f) e;
  level = λ c. refl;
  tags = λ c. refl;
  place = λ c. refl;
  record_at = λ c. let l =
      length-append (tag_records (length h.holders) h.at t) (records_before (suc (length h.holders)) (past_start h.at t) c) in omega
      (arith, l);
  front = λ c. refl;
  back = λ c e. no_text_before_end (items_after c) (flat f) t.name space e;
}

-- ---- a run

run_join : (f : Forest) → f ≡ join (leaves (run f)) (after_run f)
run_join done = refl
run_join (single (text ps) f) = ap (single (text ps)) (run_join f)
run_join (single (cdata cs) f) = ap (single (cdata cs)) (run_join f)
run_join (single (Leaf.comment cs) f) = refl
run_join (single (Leaf.instruction i) f) = refl
run_join (single (declaration d) f) = refl
run_join (single (doctype d) f) = refl
run_join (empty t f) = refl
run_join (element t inside space f) = refl

run_ends : (f : Forest) → begins_with_text (flat (after_run f)) ≡ false
unfolding flat
run_ends done = refl
run_ends (single (text ps) f) = run_ends f
run_ends (single (cdata cs) f) = run_ends f
run_ends (single (Leaf.comment cs) f) = refl
run_ends (single (Leaf.instruction i) f) = refl
run_ends (single (declaration d) f) = refl
run_ends (single (doctype d) f) = refl
run_ends (empty t f) = refl
run_ends (element t inside space f) = refl

past_leaves : (at : ℕ) (xs : List Leaf) → past_run at xs ≡ past_forest at (leaves xs)
past_leaves at [] = refl
past_leaves at (x ∷ xs) = past_leaves (past_leaf at x) xs

no_text_run : (hs : List Holder) (joins : Bool) (xs : List Leaf) → begins_run hs joins xs ≡ true → joins ≡ false
no_text_run [] joins xs e = absurd (false≢true e)
no_text_run (t ∷ hs) true xs e = absurd (false≢true e)
no_text_run (t ∷ hs) false xs e = refl

if_some_by : (P : Entry → Type 0) (b : Bool) (e : Entry) → (b ≡ true → P e) → IfSome (cond b (Some e) None) P
if_some_by P true e h = h refl
if_some_by P false e h = tt

run_held : (hs : List Holder) (joins : Bool) (xs : List Leaf) → begins_run hs joins xs ≡ true → 1 ≤ length hs
run_held [] joins xs e = absurd (false≢true e)
run_held (t ∷ hs) joins xs e = omega arith

run_texts : (f : Forest) → list_all is_text (run f) ≡ true
run_texts done = refl
run_texts (single (text ps) f) = run_texts f
run_texts (single (cdata cs) f) = run_texts f
run_texts (single (Leaf.comment cs) f) = refl
run_texts (single (Leaf.instruction i) f) = refl
run_texts (single (declaration d) f) = refl
run_texts (single (doctype d) f) = refl
run_texts (empty t f) = refl
run_texts (element t inside space f) = refl

text_stands : (h : Here) (x : Leaf) (f : Forest) → list_all is_text (x ∷ run f) ≡ true →
    single x f ≡ join (leaves (x ∷ run f)) (after_run f) → IfSome (text_node h (x ∷ run f)) (NodeStands h (single x f))
text_stands h x f texts e = if_some_by (NodeStands h (single x f)) (begins_run h.holders h.joins (x ∷ run f)) _ (λ b. record {
  stand = record {
    around = before (after_run f);
    split = e;
    level = refl;
    tags = refl;
    starts = refl;
    stops = past_leaves h.at (x ∷ run f);
    record_at = sym (add-zero h.index);
  };
  inside = run_held h.holders h.joins (x ∷ run f) b;
  texts = texts;
  apart_before = no_text_run h.holders h.joins (x ∷ run f) b;
  apart_after = run_ends f;
})

leaf_stands : (h : Here) (x : Leaf) (f : Forest) → IfSome (leaf_node h x f) (NodeStands h (single x f))
leaf_stands h (text ps) f = text_stands h (text ps) f (run_texts f) (run_join (single (text ps) f))
leaf_stands h (cdata cs) f = text_stands h (cdata cs) f (run_texts f) (run_join (single (cdata cs) f))
leaf_stands h (Leaf.comment cs) f = tt
leaf_stands h (Leaf.instruction i) f = tt
leaf_stands h (declaration d) f = tt
leaf_stands h (doctype d) f = tt

attribute_stands_by : (b : Bool) (h : Here) (f : Forest) (e : Entry) → NodeStands h f e → IfSome (cond b None (Some e)) (NodeStands h f)
attribute_stands_by true h f e s = tt
attribute_stands_by false h f e s = s

attributes_stand : (h : Here) (f : Forest) (hs : List Holder) (at place i : ℕ) (others : List Attribute) →
    Each (NodeStands h f) (attributes hs at place i others)
attributes_stand h f hs at place i [] = tt
attributes_stand h f hs at place i (a ∷ others) =
    each_option (NodeStands h f) (attribute_entry hs at place i a) _
    (attribute_stands_by (declares a.name) h f
    (record {
      path = Step.attribute i ∷ [];
      what = Thing.attribute a;
      holders = hs;
      start = at + size a.space;
      stop = at + size
          (written_attribute a);
      index = place;
      past = place + 2;
    }) tt)
    (attributes_stand h f hs (at + size (written_attribute a)) (place + 2) (i + one_if (not (declares a.name))) others)

-- the law: each text and each element of a list of pieces stands in it
pub nodes_stand : (f : Forest) (h : Here) → Each (NodeStands h f) (nodes h f)
nodes_stand done h = tt
nodes_stand (single x f) h =
    each_option (NodeStands h (single x f)) (leaf_node h x f) (nodes (after_leaf h x f) f) (leaf_stands h x f)
    (further_nodes (after_leaf h x f) h f (single x f) (past_single x) (nodes (after_leaf h x f) f) (further_leaf h x f)
    (nodes_stand f (after_leaf h x f)))
nodes_stand (empty t f) h =
    let stop = past_empty h.at t in
    let b = after_element h t done stop in
    let own : NodeStands h (empty t f) (element_entry h t done stop) = (
      empty t done,
      inr
          (refl, refl),
      record {
        around = before f;
        split = refl;
        level = refl;
        tags = refl;
        starts = refl;
        stops = refl;
        record_at = sym
            (add-zero h.index);
      },
    ) in
    each_append (NodeStands h (empty t f)) (map (under (Step.child h.number)) (element_entry h t done stop ∷ tag_attributes h t))
    (nodes b f)
    (each_map (NodeStands h (empty t f)) (under (Step.child h.number)) (element_entry h t done stop ∷ tag_attributes h t)
    (own, attributes_stand h (empty t f) (held h t) (attributes_place h.at t) (suc h.index) 0 t.attributes))
    (further_nodes b h f (empty t f) (past_tag t) (nodes b f) (further_empty h t f) (nodes_stand f b))
nodes_stand (element t inside space f) h =
    let stop = past_element h.at t inside space in
    let b = after_element h t inside stop in
    let i = inside_of h t in
    let whole = element t inside space f in
    let own : NodeStands h whole (element_entry h t inside stop) = (
      element t inside space done,
      inl
          (space, refl),
      record {
        around = before f;
        split = refl;
        level = refl;
        tags = refl;
        starts = refl;
        stops = refl;
        record_at = sym
            (add-zero h.index);
      },
    ) in
    let deep = further_nodes i h inside whole (λ c. within t c space f) (nodes i inside) (further_inside h t inside space f)
    (nodes_stand inside i) in
    each_append (NodeStands h whole)
    (map (under (Step.child h.number)) (element_entry h t inside stop ∷ tag_attributes h t ++ nodes i inside)) (nodes b f)
    (each_map (NodeStands h whole) (under (Step.child h.number)) (element_entry h t inside stop ∷ tag_attributes h t ++ nodes i inside) (
      own,
      each_append (NodeStands h whole) (tag_attributes h t) (nodes i inside)
          (attributes_stand h whole (held h t) (attributes_place h.at t) (suc h.index) 0 t.attributes) deep,
    ))
    (further_nodes b h f whole (past_whole t inside space) (nodes b f) (further_after h t inside space f) (nodes_stand f b))

each_at : (P : Entry → Type 0) (es : List Entry) → Each P es → (e : Entry) → Contains es e → P e
each_at P es h e c = All-contains P es e (All-from_recursion P es h) c

root_stands : (nest : Forest) (first : ℕ) → Each (NodeStands (at_first first) nest) (all nest first)
unfolding all
root_stands nest first = (tt, nodes_stand nest (at_first first))

-- each of a whole nest
pub each_stands : (nest : Forest) (first : ℕ) (e : Entry) → Contains (all nest first) e → NodeStands (at_first first) nest e
each_stands nest first e c = each_at (NodeStands (at_first first) nest) (all nest first) (root_stands nest first) e c
