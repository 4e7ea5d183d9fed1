-- Where each node ends: its stop, by what is there.
use Rattle.std.proofs.Common.{◌≡◌, ℕ, suc, ◌+◌, ◌<◌, Bool, true, false, List, [], ◌∷◌, ◌++◌, length, map, refl, arith, IfSome}
use Rattle.std.specs.Prelude.{codes}
use Rattle.std.specs.List.{AllByRecursion as Each, cons_option}
use Rattle.xml_model.specs.Chars.{size}
use Rattle.xml_model.specs.Items.{Attribute, Tag, Leaf, start_tag, empty_tag, end_tag, begins_at, first_place, before_value, written_pieces, written_attribute, quote_char, Quote}
use Rattle.xml_model.specs.Nest.{Forest, done, empty, element, is_content_leaf}
use Rattle.xml_model.specs.Records.{past_leaf, past_empty, past_start, past_forest, past_element, past_run, attributes_place, declares}
use Rattle.xml_model.specs.Tree.{Step, Thing, Entry, Holder, Here, all, attributes, attribute_entry, at_first, after_leaf, after_element, element_entry, inside_of, is_text, cons_text, leaf_node, nodes, one_if, run, tag_attributes, text_node, begins_run, under}
use Rattle.xml_model.specs.Accepted.{IsDocument}
use Rattle.xml_model.proofs.Each.{each_append, each_map, each_option, if_some_cond, if_some_second}
use Rattle.xml_chars.proofs.HoldLemmas.{size-append}
use Rattle.vtd_cursor.proofs.Placed.{any_leaf, Placed, document_placed, document_ends}

-- an element ends with its own empty tag, or with its end tag, before which its content is
pub data ElementCloses (bytes : List ℕ) (t : Tag) (inside : Forest) (start stop : ℕ) : Type 0 where
  by_itself : inside ≡ done → begins_at bytes start (empty_tag t) ≡ true → stop ≡ past_empty start t → ElementCloses bytes t inside start stop
  by_end_tag : (space : List ℕ) → begins_at bytes start (start_tag t) ≡ true → Placed is_content_leaf bytes (past_start start t) inside →
      begins_at bytes (past_forest (past_start start t) inside) (end_tag t.name space) ≡ true → stop ≡ past_element start t inside space → ElementCloses bytes t inside start stop

-- a text node is a run of texts and CDATA sections in some element
pub record TextCloses (xs : List Leaf) (l start stop : ℕ) : Type 0 where
  pub head : Leaf
  pub others : List Leaf
  pub are : xs ≡ head ∷ others
  pub texts : Each (λ x. is_text x ≡ true) xs
  pub depth : ℕ
  pub level : l ≡ suc depth
  pub ends : stop ≡ past_run start xs

abbrev pub Closes : List ℕ → Thing → ℕ → ℕ → ℕ → Type 0
Closes bytes (Thing.root first f) l start stop = (start ≡ 0) × (stop ≡ length bytes)
Closes bytes (Thing.element t inside) l start stop = ElementCloses bytes t inside start stop
Closes bytes (Thing.attribute a) l start stop = (stop ≡ start + size (before_value a) + size (written_pieces a.value) + 1) × (0 < l)
Closes bytes (Thing.text xs) l start stop = TextCloses xs l start stop
Closes bytes (Thing.comment cs) l start stop = stop ≡ past_leaf start (Leaf.comment cs)
Closes bytes (Thing.instruction i) l start stop = stop ≡ past_leaf start (Leaf.instruction i)

abbrev pub ClosesIn : List ℕ → Entry → Type 0
ClosesIn bytes e = Closes bytes e.what (length e.holders) e.start e.stop

quote_size : (q : Quote) → size (quote_char q ∷ []) ≡ 1
unfolding size Rattle.std.proofs.Math.Utf8.encode
quote_size Quote.single = refl
quote_size Quote.double = refl

pub attribute_size : (a : Attribute) → size (written_attribute a) ≡ size a.space + size (before_value a) + size (written_pieces a.value) + 1
attribute_size a =
    omega (arith, size-append (a.space ++ before_value a ++ written_pieces a.value) (quote_char a.quote ∷ []), size-append (a.space ++ before_value a) (written_pieces a.value), size-append a.space (before_value a), quote_size a.quote)

attributes_close : (others : List Attribute) (bytes : List ℕ) (tag : Holder) (holders : List Holder) (at index i : ℕ) → Each (ClosesIn bytes) (attributes (tag ∷ holders) at index i others)
attributes_close [] bytes tag holders at index i = tt
attributes_close (a ∷ others) bytes tag holders at index i =
    each_option (ClosesIn bytes) (attribute_entry (tag ∷ holders) at index i a) _ (if_some_second (ClosesIn bytes) (declares a.name) _ (omega (arith, attribute_size a), omega arith))
    (attributes_close others bytes tag holders (at + size (written_attribute a)) (index + 2) (i + one_if (Rattle.std.specs.Prelude.not (declares a.name))))

run_texts : (f : Forest) → Each (λ x. is_text x ≡ true) (run f)
run_texts done = tt
run_texts (empty t f) = tt
run_texts (element t inside space f) = tt
run_texts (Forest.single x f) = by (is_text x) refl (run_texts f)
  where
    by : (b : Bool) → is_text x ≡ b → Each (λ y. is_text y ≡ true) (run f) → Each (λ y. is_text y ≡ true) (cons_text b x (run f))
    by true h k = (h, k)
    by false h k = tt

text_closes : (holders : List Holder) (bytes : List ℕ) (at index number : ℕ) (joins : Bool) (x : Leaf) (f : Forest) → is_text x ≡ true →
    IfSome (text_node (record { holders = holders; at = at; index = index; number = number; joins = joins }) (x ∷ run f)) (ClosesIn bytes)
text_closes [] bytes at index number joins x f h = tt
text_closes (t ∷ holders) bytes at index number joins x f h =
    if_some_cond (ClosesIn bytes) (begins_run (t ∷ holders) joins (x ∷ run f)) _
    (record { head = x; others = run f; are = refl; texts = (h, run_texts f); depth = length holders; level = refl; ends = refl })

leaf_closes : (x : Leaf) (f : Forest) (h : Here) (bytes : List ℕ) → IfSome (leaf_node h x f) (ClosesIn bytes)
leaf_closes (Leaf.text ps) f h bytes = text_closes h.holders bytes h.at h.index h.number h.joins (Leaf.text ps) f refl
leaf_closes (Leaf.cdata cs) f h bytes = text_closes h.holders bytes h.at h.index h.number h.joins (Leaf.cdata cs) f refl
leaf_closes (Leaf.comment cs) f h bytes = refl
leaf_closes (Leaf.instruction i) f h bytes = refl
leaf_closes (Leaf.declaration d) f h bytes = tt
leaf_closes (Leaf.doctype d) f h bytes = tt

nodes_close : (f : Forest) (h : Here) (may : Leaf → Bool) (bytes : List ℕ) → Placed may bytes h.at f → Each (ClosesIn bytes) (nodes h f)
nodes_close done h may bytes p = tt
nodes_close (Forest.single x f) h may bytes p = each_option (ClosesIn bytes) (leaf_node h x f) _ (leaf_closes x f h bytes) (nodes_close f (after_leaf h x f) may bytes p.1)
nodes_close (empty t f) h may bytes p =
    let stop = past_empty h.at t in
    let mine = element_entry h t done stop ∷ tag_attributes h t in
    each_append (ClosesIn bytes) (map (under (Step.child h.number)) mine) (nodes (after_element h t done stop) f)
    (each_map (ClosesIn bytes) (under (Step.child h.number)) mine (by_itself refl p.0 refl, attributes_close t.attributes bytes (record { tag = t; index = h.index }) h.holders (attributes_place h.at t) (suc h.index) 0))
    (nodes_close f (after_element h t done stop) may bytes p.1)
nodes_close (element t inside space f) h may bytes p =
    let stop = past_element h.at t inside space in
    let mine = element_entry h t inside stop ∷ tag_attributes h t ++ nodes (inside_of h t) inside in
    each_append (ClosesIn bytes) (map (under (Step.child h.number)) mine) (nodes (after_element h t inside stop) f)
    (each_map (ClosesIn bytes) (under (Step.child h.number)) mine (
      by_end_tag space p.0 p.1 p.2 refl,
      each_append (ClosesIn bytes) (tag_attributes h t) (nodes (inside_of h t) inside)
          (attributes_close t.attributes bytes (record { tag = t; index = h.index }) h.holders (attributes_place h.at t) (suc h.index) 0)
          (nodes_close inside (inside_of h t) is_content_leaf bytes p.1),
    ))
    (nodes_close f (after_element h t inside stop) may bytes p.3)

pub all_close : (bytes : List ℕ) (nest : Forest) → IsDocument bytes nest → Each (ClosesIn bytes) (all nest (first_place bytes))
unfolding all
all_close bytes nest d = ((refl, document_ends bytes nest d), nodes_close nest (at_first (first_place bytes)) any_leaf bytes (document_placed bytes nest d))
