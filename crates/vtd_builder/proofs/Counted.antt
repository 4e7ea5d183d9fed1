-- An item is at least as long as it has records, and never empty.
use Rattle.std.proofs.Common.{◌≡◌, ℕ, zero, suc, ◌+◌, ◌<◌, ◌≤◌, true, false, List, [], ◌∷◌, ◌++◌, length, drop, Option, Some, None, refl, arith}
use Rattle.std.specs.Prelude.{codes, ◌&&◌, not}
use Rattle.std.specs.List.{list_all}
use Rattle.std.proofs.lemmas.Bool.{and_parts, false≢true}
use Rattle.std.proofs.lemmas.List.{length-append}
use lib.Utf8.{encode, encodes}
use Rattle.xml_model.specs.Chars.{begins, size, lacks}
use Rattle.xml_model.specs.Items.{Attribute, Tag, Leaf, text, cdata, declaration, doctype, Item, leaf, start_tag, empty_tag, end_tag, quote_char, written, written_pieces, written_attribute, written_attributes, written_option, written_tag, written_units, before_value, spelling, meets, meets_piece, meets_leaf, ends_well, may_begin_at, first_place, begins_at, is_nil, walk_from, end_of_items}
use Rattle.xml_model.specs.Records.{cut_records, Record, attributes_records, declaration_part_records, declaration_attributes, attributes_place, depth_at, plain, text_records}
use Rattle.xml_model.proofs.Cuts.{few_cuts, empty_cuts}
use Rattle.xml_chars.proofs.Points.{encode_pos}
use Rattle.xml_chars.proofs.HoldLemmas.{size-append}
use Rattle.xml_items.proofs.SpanLemmas.{spelled, size_1, size_comment, size_cdata, size_xml}
use Rattle.xml_acceptance.specs.Machine.{item_records, level_after, items_records}

one_pos : (c : ℕ) (cs : List ℕ) → 1 ≤ size (c ∷ cs)
unfolding size
one_pos c cs = omega (arith, length-append (encode c) (encodes cs), encode_pos c)

size_pos : (cs : List ℕ) → not (is_nil cs) ≡ true → 1 ≤ size cs
size_pos [] h = absurd (false≢true h)
size_pos (c ∷ cs) h = one_pos c cs

attribute_long : (a : Attribute) → 2 ≤ size (written_attribute a)
attribute_long a =
    let q = quote_char a.quote in
    let w = size-append (a.space ++ before_value a ++ written_pieces a.value) (q ∷ []) in
    let v = size-append (a.space ++ before_value a) (written_pieces a.value) in
    let u = size-append a.space (before_value a) in
    let b : size (before_value a) ≡ size (a.name ++ a.left ++ codes "=" ++ a.right) + size (q ∷ []) = size-append (a.name ++ a.left ++ codes "=" ++ a.right) (q ∷ []) in
    omega (arith, w, v, u, b, one_pos q [])

few_attributes : (xs : List Attribute) (depth at : ℕ) → length (attributes_records depth at xs) ≤ size (written_attributes xs)
few_attributes [] depth at = omega arith
few_attributes (a ∷ xs) depth at = omega (arith, few_attributes xs depth (at + size (written_attribute a)), attribute_long a, size-append (written_attribute a) (written_attributes xs))

few_parts : (v : Attribute) (e s : Option Attribute) (sp : List ℕ) (depth at : ℕ) → length (declaration_part_records depth at (declaration_attributes record { version = v; encoding = e; standalone = s; space = sp })) ≤ 6
few_parts v None None sp depth at = omega arith
few_parts v None (Some s) sp depth at = omega arith
few_parts v (Some e) None sp depth at = omega arith
few_parts v (Some e) (Some s) sp depth at = omega arith

few_texts : (level depth at n : ℕ) → 0 < n → length (text_records level (cut_records 5 depth at n)) ≤ n
few_texts zero depth at n h = omega arith
few_texts (suc level) depth at n h = few_cuts 5 depth at n h

size_end : size (codes "?>") ≡ 2
unfolding size encode
size_end = refl

pub record Long (i : Item) (level at : ℕ) : Type 0 where
  pub some : 0 < length (spelling i)
  pub few : length (item_records level at i) ≤ length (spelling i)

long_by : (i : Item) (level at : ℕ) → 0 < size (written i) → length (item_records level at i) ≤ size (written i) → Long i level at
long_by i level at p f = record { some = omega (arith, p, spelled i); few = omega (arith, f, spelled i) }

long_leaf : (x : Leaf) (level at : ℕ) → meets_leaf x ≡ true → Long (leaf x) level at
long_leaf (text ps) level at m =
    let a = and_parts (not (is_nil (written_pieces ps)) && list_all (meets_piece (λ c. false)) ps) (lacks (codes "]]>") (written_pieces ps)) m in
    let b = size_pos (written_pieces ps) (and_parts (not (is_nil (written_pieces ps))) (list_all (meets_piece (λ c. false)) ps) a.0).0 in
    long_by (leaf (text ps)) level at (omega (arith, b)) (few_texts level (depth_at level) at (size (written_pieces ps)) b)
long_leaf (cdata cs) level at m =
    let s : size (written (leaf (cdata cs))) ≡ size (codes "<![CDATA[" ++ cs) + size (codes "]]>") = size-append (codes "<![CDATA[" ++ cs) (codes "]]>") in
    let t = size-append (codes "<![CDATA[") cs in
    long_by (leaf (cdata cs)) level at (omega (arith, s, t, size_cdata)) (omega (arith, s, t, size_cdata, empty_cuts 11 (depth_at level) (at + 9) (size cs)))
long_leaf (Leaf.comment cs) level at m =
    let s : size (written (leaf (Leaf.comment cs))) ≡ size (codes "<!--" ++ cs) + size (codes "-->") = size-append (codes "<!--" ++ cs) (codes "-->") in
    let t = size-append (codes "<!--") cs in
    long_by (leaf (Leaf.comment cs)) level at (omega (arith, s, t, size_comment)) (omega (arith, s, t, size_comment))
long_leaf (Leaf.instruction i) level at m =
    let s : size (written (leaf (Leaf.instruction i))) ≡ size (codes "<?" ++ i.target ++ i.space ++ i.content) + size (codes "?>") = size-append (codes "<?" ++ i.target ++ i.space ++ i.content) (codes "?>") in
    long_by (leaf (Leaf.instruction i)) level at (omega (arith, s, size_end)) (omega (arith, s, size_end))
long_leaf (declaration d) level at m =
    let body = codes "<?xml" ++ written_attribute d.version ++ written_option d.encoding ++ written_option d.standalone ++ d.space in
    let s : size (written (leaf (declaration d))) ≡ size body + size (codes "?>") = size-append body (codes "?>") in
    let t = size-append (codes "<?xml" ++ written_attribute d.version ++ written_option d.encoding ++ written_option d.standalone) d.space in
    let u = size-append (codes "<?xml" ++ written_attribute d.version ++ written_option d.encoding) (written_option d.standalone) in
    let v = size-append (codes "<?xml" ++ written_attribute d.version) (written_option d.encoding) in
    let w = size-append (codes "<?xml") (written_attribute d.version) in
    let f = few_parts d.version d.encoding d.standalone d.space (depth_at level) (at + 5) in
    long_by (leaf (declaration d)) level at (omega (arith, s, size_end)) (omega (arith, s, t, u, v, w, f, size_end, size_xml))
long_leaf (doctype d) level at m =
    let body = codes "<!DOCTYPE" ++ d.space ++ d.name ++ written_units d.units in
    let s : size (written (leaf (doctype d))) ≡ size body + size (codes ">") = size-append body (codes ">") in
    long_by (leaf (doctype d)) level at (omega (arith, s, one_pos 62 [])) (omega (arith, s, one_pos 62 []))

size_tag : (t : Tag) → size (written_tag t) ≡ 1 + size t.name + size (written_attributes t.attributes) + size t.space
size_tag t =
    let s = size-append (codes "<" ++ t.name ++ written_attributes t.attributes) t.space in
    let u = size-append (codes "<" ++ t.name) (written_attributes t.attributes) in
    let v = size-append (codes "<") t.name in
    omega (arith, s, u, v, size_1)

pub item_long : (i : Item) (level at : ℕ) → meets i ≡ true → Long i level at
unfolding meets
item_long (leaf x) level at m = long_leaf x level at m
item_long (start_tag t) level at m =
    let s : size (written (start_tag t)) ≡ size (written_tag t) + size (codes ">") = size-append (written_tag t) (codes ">") in
    long_by (start_tag t) level at (omega (arith, s, size_tag t)) (omega (arith, s, size_tag t, few_attributes t.attributes level (attributes_place at t)))
item_long (empty_tag t) level at m =
    let s : size (written (empty_tag t)) ≡ size (written_tag t) + size (codes "/>") = size-append (written_tag t) (codes "/>") in
    long_by (empty_tag t) level at (omega (arith, s, size_tag t)) (omega (arith, s, size_tag t, few_attributes t.attributes level (attributes_place at t)))
item_long (end_tag name space) level at m =
    let s : size (written (end_tag name space)) ≡ size (codes "</" ++ name ++ space) + size (codes ">") = size-append (codes "</" ++ name ++ space) (codes ">") in
    long_by (end_tag name space) level at (omega (arith, s, one_pos 62 [])) (omega (arith, s))

pub begun_meets : (bytes : List ℕ) (at : ℕ) (i : Item) → begins_at bytes at i ≡ true → meets i ≡ true
unfolding begins_at
begun_meets bytes at i h =
    let x = and_parts (meets i && begins (spelling i) (drop at bytes) && ends_well i (drop (at + length (spelling i)) bytes)) (may_begin_at i (first_place bytes) at) h in
    let y = and_parts (meets i && begins (spelling i) (drop at bytes)) (ends_well i (drop (at + length (spelling i)) bytes)) x.0 in
    (and_parts (meets i) (begins (spelling i) (drop at bytes)) y.0).0

-- items in a row have at most as many records as bytes
pub items_few : (is : List Item) (bytes : List ℕ) (level at : ℕ) → walk_from bytes at is ≡ true → at + length (items_records level at is) ≤ end_of_items at is
items_few [] bytes level at w = omega arith
items_few (i ∷ is) bytes level at w =
    let h = and_parts (begins_at bytes at i) (walk_from bytes (at + length (spelling i)) is) w in
    let l = item_long i level at (begun_meets bytes at i h.0) in
    let so = items_few is bytes (level_after i level) (at + length (spelling i)) h.1 in
    omega (arith, l.few, so, length-append (item_records level at i) (items_records (level_after i level) (at + length (spelling i)) is))

pub items_rise : (is : List Item) (at : ℕ) → at ≤ end_of_items at is
items_rise [] at = omega arith
items_rise (i ∷ is) at = omega (arith, items_rise is (at + length (spelling i)))
