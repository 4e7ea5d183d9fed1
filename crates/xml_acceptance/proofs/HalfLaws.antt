-- A document has at most half as many records as bytes: each item but a text has more bytes than twice its records, no text follows a
-- text, and the root element makes up for the document's own record.
use Rattle.std.proofs.Common.{◌≡◌, ℕ, suc, ◌+◌, ◌*◌, ◌<◌, ◌≤◌, Bool, true, false, inl, inr, cond, not, List, [], ◌∷◌, ◌++◌, length, Option}
use Rattle.std.proofs.Common.{Some, None, refl, sym, ap, ◌∙◌, arith}
use Rattle.std.specs.Prelude.{codes, option_to_list, ◌&&◌, ◌||◌, ◌==◌, bytes_eq, encode_utf8_all}
use Rattle.std.specs.List.{list_all}
use Rattle.std.proofs.lemmas.Bool.{and_parts, or_cases, eqb-true, false≢true}
use Rattle.std.proofs.lemmas.List.{length-append}
use Rattle.std.proofs.lemmas.List.Folds.{list_all-append}
use Rattle.xml_model.specs.Chars.{size, is_name, is_white, is_blank}
use Rattle.xml_model.specs.Items.{Attribute, Tag, Declaration, Instruction, Leaf, Item, leaf, empty_tag, end_tag, written_pieces}
use Rattle.xml_model.specs.Items.{written_attribute, written_attributes, written_option, written_leaf, written_start, written_empty, written_end}
use Rattle.xml_model.specs.Items.{written_tag, before_value, quote_char, spelling, meets, meets_attribute, meets_tag, meets_part, meets_part_if_there}
use Rattle.xml_model.specs.Items.{meets_instruction, meets_declaration, is_version, is_encoding_name, is_yes_or_no, begins_with_space, is_nil}
use Rattle.xml_model.specs.Items.{first_place, walk, walk_to_end, end_of_items}
use Rattle.xml_model.specs.Nest.{Forest, done, single, empty, element, flat, is_nest, is_head, is_body, is_tail, is_misc, is_doctype, is_declaration}
use Rattle.xml_model.specs.Records.{records, forest_records, leaf_records, tag_records, attributes_place, declaration_attributes, depth_at, past_leaf}
use Rattle.xml_model.specs.Records.{past_empty, past_start, past_element, past_forest}
use Rattle.xml_model.specs.Accepted.{IsDocument}
use Rattle.xml_model.proofs.Cuts.{half_cuts, empty_cuts}
use Rattle.xml_model.proofs.Proper.{walk_to_end_meets}
use Rattle.xml_chars.proofs.HoldLemmas.{size-append}
use Rattle.xml_model.proofs.TextsApart.{is_text, begins_text, apart, apart-append, document_apart}
use Rattle.xml_acceptance.proofs.Placement.{long, written_pos}
use Rattle.xml_acceptance.proofs.RecordLaws.{attributes_count, parts_count}

-- ---- an item

name_some : (cs : List ℕ) → is_name cs ≡ true → 1 ≤ length cs
unfolding is_name
name_some [] h = absurd (false≢true h)
name_some (c ∷ cs) h = omega arith

attribute_four : (a : Attribute) → meets_attribute a ≡ true → 4 ≤ length (written_attribute a)
attribute_four a m =
    let v = and_parts (is_white a.space && is_name a.name && is_blank a.left && is_blank a.right) _ m in
    let r = and_parts (is_white a.space && is_name a.name && is_blank a.left) (is_blank a.right) v.0 in
    let l = and_parts (is_white a.space && is_name a.name) (is_blank a.left) r.0 in
    let n = and_parts (is_white a.space) (is_name a.name) l.0 in
    omega (
      arith,
      name_some a.name n.1,
      length-append (a.space ++ before_value a ++ written_pieces a.value) (quote_char a.quote ∷ []),
      length-append (a.space ++ before_value a) (written_pieces a.value),
      length-append a.space (before_value a),
      length-append (a.name ++ a.left ++ codes "=" ++ a.right) (quote_char a.quote ∷ []),
      length-append (a.name ++ a.left ++ codes "=") a.right,
      length-append (a.name ++ a.left) (codes "="),
      length-append a.name a.left,
    )

attributes_four : (xs : List Attribute) → list_all meets_attribute xs ≡ true → 4 * length xs ≤ length (written_attributes xs)
attributes_four [] m = omega arith
attributes_four (a ∷ xs) m =
    let q = and_parts (meets_attribute a) (list_all meets_attribute xs) m in
    omega (arith, length-append (written_attribute a) (written_attributes xs), attribute_four a q.0, attributes_four xs q.1)

tag_half : (t : Tag) (close : List ℕ) → meets_tag t ≡ true → 2 + 4 * length t.attributes + length close ≤ length (written_tag t ++ close)
tag_half t close m =
    let s = and_parts (is_name t.name && list_all meets_attribute t.attributes) (is_blank t.space) m in
    let n = and_parts (is_name t.name) (list_all meets_attribute t.attributes) s.0 in
    omega (
      arith,
      name_some t.name n.0,
      attributes_four t.attributes n.1,
      length-append (written_tag t) close,
      length-append (codes "<" ++ t.name ++ written_attributes t.attributes) t.space,
      length-append (codes "<" ++ t.name) (written_attributes t.attributes),
      length-append (codes "<") t.name,
    )

start_half : (l at : ℕ) (t : Tag) → meets_tag t ≡ true → 2 * length (tag_records l at t) + 1 ≤ size (written_start t)
start_half l at t m = omega (arith, attributes_count l (attributes_place at t) t.attributes, tag_half t (codes ">") m, long (written_start t))

empty_half : (l at : ℕ) (t : Tag) → meets_tag t ≡ true → 2 * length (tag_records l at t) + 2 ≤ size (written_empty t)
empty_half l at t m = omega (arith, attributes_count l (attributes_place at t) t.attributes, tag_half t (codes "/>") m, long (written_empty t))

end_four : (name space : List ℕ) → is_name name ≡ true → 4 ≤ size (written_end name space)
end_four name space n =
    omega (
      arith,
      name_some name n,
      long (written_end name space),
      length-append (codes "</" ++ name ++ space) (codes ">"),
      length-append (codes "</" ++ name) space,
      length-append (codes "</") name,
    )

option_four : (name : List ℕ) (test : List ℕ → Bool) (o : Option Attribute) → meets_part_if_there name test o ≡ true →
    4 * length (option_to_list o) ≤ length (written_option o)
option_four name test None m = omega arith
option_four name test (Some a) m =
    attribute_four a (and_parts (meets_attribute a) _ (and_parts (meets_attribute a && bytes_eq a.name name) _ m).0).0

declaration_half : (d : Declaration) → meets_declaration d ≡ true →
    4 * length (declaration_attributes d) + 1 ≤ length (written_leaf (Leaf.declaration d))
declaration_half d m =
    let v = written_attribute d.version in
    let e = written_option d.encoding in
    let s = written_option d.standalone in
    let x = and_parts _ (is_blank d.space) m in
    let y = and_parts _ (meets_part_if_there (codes "standalone") is_yes_or_no d.standalone) x.0 in
    let z = and_parts (meets_part (codes "version") is_version d.version) (meets_part_if_there (codes "encoding") is_encoding_name d.encoding) y.0 in
    let a = and_parts (meets_attribute d.version) _ (and_parts (meets_attribute d.version && bytes_eq d.version.name (codes "version")) _ z.0).0 in
    omega (
      arith,
      attribute_four d.version a.0,
      option_four (codes "encoding") is_encoding_name d.encoding z.1,
      option_four (codes "standalone") is_yes_or_no d.standalone y.1,
      length-append (codes "<?xml" ++ v ++ e ++ s ++ d.space) (codes "?>"),
      length-append (codes "<?xml" ++ v ++ e ++ s) d.space,
      length-append (codes "<?xml" ++ v ++ e) s,
      length-append (codes "<?xml" ++ v) e,
      length-append (codes "<?xml") v,
      length-append (option_to_list d.encoding) (option_to_list d.standalone),
    )

instruction_five : (i : Instruction) → meets_instruction i ≡ true → 5 ≤ length (written_leaf (Leaf.instruction i))
instruction_five i m =
    let a = and_parts _ (not (is_nil i.space) || is_nil i.content) m in
    let b = and_parts _ (not (begins_with_space i.content)) a.0 in
    let c = and_parts _ _ b.0 in
    let d = and_parts _ _ c.0 in
    let e = and_parts _ _ d.0 in
    let n = and_parts (is_name i.target) _ e.0 in
    omega (
      arith,
      name_some i.target n.0,
      length-append (codes "<?" ++ i.target ++ i.space ++ i.content) (codes "?>"),
      length-append (codes "<?" ++ i.target ++ i.space) i.content,
      length-append (codes "<?" ++ i.target) i.space,
      length-append (codes "<?") i.target,
    )

cdata_half : (l at : ℕ) (cs : List ℕ) → 2 * length (leaf_records l at (Leaf.cdata cs)) + 1 ≤ size (written_leaf (Leaf.cdata cs))
cdata_half l at cs =
    omega (
      arith,
      empty_cuts 11 (depth_at l) (at + 9) (size cs),
      size-append (codes "<![CDATA[" ++ cs) (codes "]]>"),
      size-append (codes "<![CDATA[") cs,
      long (codes "]]>"),
    )

-- a text has a record of its own and perhaps one byte
leaf_half : (l at : ℕ) (x : Leaf) → meets (leaf x) ≡ true →
    2 * length (leaf_records (suc l) at x) + 1 ≤ size (written_leaf x) + cond (is_text (leaf x)) 2 0
unfolding meets
leaf_half l at (Leaf.text ps) m =
    let some : 0 < size (written_pieces ps) = omega (arith, long (written_leaf (Leaf.text ps)), written_pos (leaf (Leaf.text ps)) m) in
    omega (arith, half_cuts 5 (depth_at (suc l)) at (size (written_pieces ps)) some)
leaf_half l at (Leaf.cdata cs) m = omega (arith, cdata_half (suc l) at cs)
leaf_half l at (Leaf.comment cs) m = omega (arith, long (written_leaf (Leaf.comment cs)), length-append (codes "<!--" ++ cs) (codes "-->"))
leaf_half l at (Leaf.instruction i) m = omega (arith, long (written_leaf (Leaf.instruction i)), instruction_five i m)
leaf_half l at (Leaf.declaration d) m =
    omega (arith, long (written_leaf (Leaf.declaration d)), parts_count (depth_at (suc l)) (at + 5) (declaration_attributes d), declaration_half d m)
leaf_half l at (Leaf.doctype d) m = omega (arith, long (written_leaf (Leaf.doctype d)))

outer_half : (at : ℕ) (x : Leaf) → meets (leaf x) ≡ true → 2 * length (leaf_records 0 at x) ≤ size (written_leaf x)
unfolding meets
outer_half at (Leaf.text ps) m = omega arith
outer_half at (Leaf.cdata cs) m = omega (arith, cdata_half 0 at cs)
outer_half at (Leaf.comment cs) m = omega (arith, leaf_half 0 at (Leaf.comment cs) m)
outer_half at (Leaf.instruction i) m = omega (arith, leaf_half 0 at (Leaf.instruction i) m)
outer_half at (Leaf.declaration d) m =
    omega (arith, long (written_leaf (Leaf.declaration d)), parts_count (depth_at 0) (at + 5) (declaration_attributes d), declaration_half d m)
outer_half at (Leaf.doctype d) m = omega (arith, leaf_half 0 at (Leaf.doctype d) m)

-- ---- what is in an element

at_most_one : (b : Bool) → cond b 1 0 ≤ 1
at_most_one true = omega arith
at_most_one false = omega arith

-- a leaf with n records and s bytes, and what follows it with r records, up to a place
joined : (b d : Bool) (at n s r past : ℕ) → not (b && d) ≡ true → 2 * n + 1 ≤ s + cond b 2 0 → at + s + 2 * r ≤ past + cond d 1 0 →
    at + 2 * (n + r) ≤ past + cond b 1 0
joined true true at n s r past h x y = absurd (false≢true h)
joined true false at n s r past h x y = omega (arith, x, y)
joined false true at n s r past h x y = omega (arith, x, y)
joined false false at n s r past h x y = omega (arith, x, y)

-- an element is flat: its tag, what is in it, its end tag, and what follows it
record ElementMeets (t : Tag) (inside : Forest) (space : List ℕ) (f : Forest) : Type 0 where
  tag : meets_tag t ≡ true
  content : list_all meets (flat inside) ≡ true
  end : is_name t.name ≡ true
  after : list_all meets (flat f) ≡ true

element_meets : (t : Tag) (inside : Forest) (space : List ℕ) (f : Forest) → list_all meets (flat (element t inside space f)) ≡ true →
    ElementMeets t inside space f
unfolding flat meets
element_meets t inside space f m =
    let a = and_parts (meets_tag t) (list_all meets (flat inside ++ end_tag t.name space ∷ flat f)) m in
    let b = and_parts (list_all meets (flat inside)) _ (sym (list_all-append meets (flat inside) (end_tag t.name space ∷ flat f)) ∙ a.1) in
    let c = and_parts (is_name t.name && is_blank space) (list_all meets (flat f)) b.1 in
    record { tag = a.0; content = b.0; end = (and_parts (is_name t.name) _ c.0).0; after = c.1 }

element_apart : (t : Tag) (inside : Forest) (space : List ℕ) (f : Forest) → apart (flat (element t inside space f)) ≡ true →
    (apart (flat inside) ≡ true) × (apart (flat f) ≡ true)
unfolding flat
element_apart t inside space f h = apart-append (flat inside) (end_tag t.name space ∷ flat f) h

tag_of : (t : Tag) → meets (empty_tag t) ≡ true → meets_tag t ≡ true
unfolding meets
tag_of t h = h

content_half : (f : Forest) (l at : ℕ) → list_all meets (flat f) ≡ true → apart (flat f) ≡ true →
    at + 2 * length (forest_records (suc l) at f) ≤ past_forest at f + cond (begins_text (flat f)) 1 0
unfolding flat
content_half done l at m h = omega arith
content_half (single x f) l at m h =
    let q = and_parts (meets (leaf x)) (list_all meets (flat f)) m in
    let p = and_parts (not (is_text (leaf x) && begins_text (flat f))) (apart (flat f)) h in
    let s = size (written_leaf x) in
    let ns = leaf_records (suc l) at x in
    let rs = forest_records (suc l) (past_leaf at x) f in
    let j = joined (is_text (leaf x)) (begins_text (flat f)) at (length ns) s (length rs) (past_forest (past_leaf at x) f) p.0 (leaf_half l at x q.0)
    (content_half f l (past_leaf at x) q.1 p.1) in
    omega (arith, j, length-append ns rs)
content_half (empty t f) l at m h =
    let q = and_parts (meets (empty_tag t)) (list_all meets (flat f)) m in
    let ns = tag_records (suc l) at t in
    let rs = forest_records (suc l) (past_empty at t) f in
    omega (
      arith,
      empty_half (suc l) at t (tag_of t q.0),
      content_half f l (past_empty at t) q.1 h,
      at_most_one (begins_text (flat f)),
      length-append ns rs,
    )
content_half (element t inside space f) l at m h =
    let e = element_meets t inside space f m in
    let a = element_apart t inside space f h in
    let ns = tag_records (suc l) at t in
    let is = forest_records (suc (suc l)) (past_start at t) inside in
    let rs = forest_records (suc l) (past_element at t inside space) f in
    omega (
      arith,
      start_half (suc l) at t e.tag,
      content_half inside (suc l) (past_start at t) e.content a.0,
      at_most_one (begins_text (flat inside)),
      end_four t.name space e.end,
      content_half f l (past_element at t inside space) e.after a.1,
      at_most_one (begins_text (flat f)),
      length-append (ns ++ is) rs,
      length-append ns is,
    )

-- ---- what is outside of the root element

empty_meets : (t : Tag) (f : Forest) → list_all meets (flat (empty t f)) ≡ true → (meets_tag t ≡ true) × (list_all meets (flat f) ≡ true)
unfolding flat meets
empty_meets t f m = and_parts (meets_tag t) (list_all meets (flat f)) m

single_meets : (x : Leaf) (f : Forest) → list_all meets (flat (single x f)) ≡ true → (meets (leaf x) ≡ true) × (list_all meets (flat f) ≡ true)
unfolding flat
single_meets x f m = and_parts (meets (leaf x)) (list_all meets (flat f)) m

single_apart : (x : Leaf) (f : Forest) → apart (flat (single x f)) ≡ true → apart (flat f) ≡ true
unfolding flat
single_apart x f h = (and_parts _ (apart (flat f)) h).1

tail_half : (f : Forest) (at : ℕ) → is_tail f ≡ true → list_all meets (flat f) ≡ true → at + 2 * length (forest_records 0 at f) ≤ past_forest at f
unfolding is_tail
tail_half done at k m = omega arith
tail_half (single x f) at k m =
    let q = single_meets x f m in
    omega (
      arith,
      outer_half at x q.0,
      tail_half f (past_leaf at x) (and_parts (is_misc x) (is_tail f) k).1 q.1,
      length-append (leaf_records 0 at x) (forest_records 0 (past_leaf at x) f),
    )
tail_half (empty t f) at k m = absurd (false≢true k)
tail_half (element t inside space f) at k m = absurd (false≢true k)

-- two bytes more than twice the records
abbrev Half : Forest → ℕ → Type 0
Half f at = at + 2 * length (forest_records 0 at f) + 2 ≤ past_forest at f

single_half : (x : Leaf) (f : Forest) (at : ℕ) → meets (leaf x) ≡ true → Half f (past_leaf at x) → Half (single x f) at
single_half x f at m h = omega (arith, outer_half at x m, h, length-append (leaf_records 0 at x) (forest_records 0 (past_leaf at x) f))

body_half : (f : Forest) (at : ℕ) → is_body f ≡ true → list_all meets (flat f) ≡ true → apart (flat f) ≡ true → Half f at
unfolding is_body
body_half done at k m h = absurd (false≢true k)
body_half (single x f) at k m h =
    let q = single_meets x f m in
    single_half x f at q.0 (body_half f (past_leaf at x) (and_parts (is_misc x) (is_body f) k).1 q.1 (single_apart x f h))
body_half (empty t f) at k m h =
    let q = empty_meets t f m in
    omega (
      arith,
      empty_half 0 at t q.0,
      tail_half f (past_empty at t) k q.1,
      length-append (tag_records 0 at t) (forest_records 0 (past_empty at t) f),
    )
body_half (element t inside space f) at k m h =
    let e = element_meets t inside space f m in
    let a = element_apart t inside space f h in
    let ns = tag_records 0 at t in
    let is = forest_records 1 (past_start at t) inside in
    let rs = forest_records 0 (past_element at t inside space) f in
    omega (
      arith,
      start_half 0 at t e.tag,
      content_half inside 0 (past_start at t) e.content a.0,
      at_most_one (begins_text (flat inside)),
      end_four t.name space e.end,
      tail_half f (past_element at t inside space) (and_parts _ (is_tail f) k).1 e.after,
      length-append (ns ++ is) rs,
      length-append ns is,
    )

head_half : (f : Forest) (at : ℕ) → is_head f ≡ true → list_all meets (flat f) ≡ true → apart (flat f) ≡ true → Half f at
unfolding is_head
head_half done at k m h = body_half done at k m h
head_half (single x f) at k m h =
    let q = single_meets x f m in
    let a = single_apart x f h in
    single_half x f at q.0 (elim (or_cases (is_misc x && is_head f) (is_doctype x && is_body f) k) [
      | inl s ↦ head_half f (past_leaf at x) (and_parts (is_misc x) (is_head f) s).1 q.1 a
      | inr s ↦ body_half f (past_leaf at x) (and_parts (is_doctype x) (is_body f) s).1 q.1 a
    ])
head_half (empty t f) at k m h = body_half (empty t f) at k m h
head_half (element t inside space f) at k m h = body_half (element t inside space f) at k m h

nest_half : (f : Forest) (at : ℕ) → is_nest f ≡ true → list_all meets (flat f) ≡ true → apart (flat f) ≡ true → Half f at
unfolding is_nest
nest_half done at k m h = head_half done at k m h
nest_half (single x f) at k m h = elim (or_cases (is_declaration x && is_head f) (is_head (single x f)) k) [
  | inl s ↦
      let q = single_meets x f m in
      single_half x f at q.0 (head_half f (past_leaf at x) (and_parts (is_declaration x) (is_head f) s).1 q.1 (single_apart x f h))
  | inr s ↦ head_half (single x f) at s m h
]
nest_half (empty t f) at k m h = head_half (empty t f) at k m h
nest_half (element t inside space f) at k m h = head_half (element t inside space f) at k m h

-- ---- the whole document

items_append : (is js : List Item) (p : ℕ) → end_of_items p (is ++ js) ≡ end_of_items (end_of_items p is) js
items_append [] js p = refl
items_append (i ∷ is) js p = items_append is js (p + length (spelling i))

past_items : (f : Forest) (p : ℕ) → past_forest p f ≡ end_of_items p (flat f)
unfolding flat size spelling
past_items done p = refl
past_items (single x f) p = past_items f (past_leaf p x)
past_items (empty t f) p = past_items f (past_empty p t)
past_items (element t inside space f) p =
    past_items f (past_element p t inside space)
    ∙ ap (λ n. end_of_items (n + length (encode_utf8_all (written_end t.name space))) (flat f)) (past_items inside (past_start p t))
    ∙ sym (items_append (flat inside) (end_tag t.name space ∷ flat f) (past_start p t))

document_ends : (bytes : List ℕ) (nest : Forest) → IsDocument bytes nest → past_forest (first_place bytes) nest ≡ length bytes
unfolding walk_to_end
document_ends bytes nest d =
    past_items nest (first_place bytes)
    ∙ eqb-true _ _ (and_parts (walk bytes (flat nest)) (end_of_items (first_place bytes) (flat nest) == length bytes) d.walked).1

pub document_half : (bytes : List ℕ) (nest : Forest) → IsDocument bytes nest → 2 * length (records nest (first_place bytes)) ≤ length bytes
unfolding records
document_half bytes nest d =
    let first = first_place bytes in
    let meet = walk_to_end_meets bytes (flat nest) d.walked in
    omega (arith, nest_half nest first d.nests meet (document_apart bytes nest d), document_ends bytes nest d)
