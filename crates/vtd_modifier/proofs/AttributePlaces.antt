-- Where the white space before an attribute begins, by the record before it; and the byte of its closing quote.
use Rattle.std.proofs.Common.{◌≡◌, ℕ, zero, suc, ◌+◌, ◌-◌, ◌<◌, ◌≤◌, Bool, true, false, not, ◌==◌, List, [], ◌∷◌, ◌++◌, length, map, refl, ap, sym, ◌∙◌, subst, arith, IfSome, length-append, append-nil}
use Rattle.std.specs.Prelude.{codes}
use Rattle.std.specs.List.{AllByRecursion as Each}
use Rattle.xml_model.specs.Chars.{size}
use Rattle.xml_model.specs.Items.{Attribute, Tag, Leaf, start_tag, empty_tag, begins_at, first_place, before_value, written_pieces, written_attribute, written_attributes, quote_char}
use Rattle.xml_model.specs.Nest.{Forest, done, empty, element, is_content_leaf}
use Rattle.xml_model.specs.Records.{Record, document, declares, named, plain, records, attribute_records, attributes_records, attributes_place, depth_at, tag_records, leaf_records, forest_records, past_leaf, past_empty, past_start, past_element}
use Rattle.xml_model.specs.Scan.{record_at}
use Rattle.xml_model.specs.Tree.{Step, Thing, Entry, Holder, Here, Identifies, all, attributes, attribute_entry, at_first, after_leaf, after_element, element_entry, inside_of, leaf_node, nodes, one_if, run, tag_attributes, text_node, begins_run, under}
use Rattle.xml_model.specs.Accepted.{IsDocument}
use Rattle.xml_model.proofs.Each.{each_append, each_at, each_map, each_option, if_some_cond, if_some_second}
use Rattle.xml_model.proofs.Fits.{first_part, second_part}
use Rattle.xml_model.proofs.Inside.{in_place}
use Rattle.xml_chars.proofs.HoldLemmas.{size-append}
use Rattle.vtd_cursor.proofs.Closing.{attribute_size}
use Rattle.vtd_cursor.proofs.Placed.{any_leaf, Placed, document_placed}
use Rattle.vtd_modifier.proofs.BytesThere.{There, there_left, there_right, item_there, ByteIs, quote_there}

-- where what a record in a tag is of ends: a name, or a value with its quote
abbrev pub token_end : Record → ℕ
token_end r = r.offset + r.len + one_if (r.token == 4)

-- the white space before an attribute, and its closing quote
pub record AttributeShown (bytes : List ℕ) (whole : List Record) (a : Attribute) (index start stop : ℕ) : Type 0 where
  pub room : size a.space ≤ start
  pub some : 1 ≤ index
  pub before : token_end (record_at (index - 1) whole) ≡ start - size a.space
  pub last : ℕ
  pub stops : stop ≡ last + 1
  pub quote : ByteIs bytes last (quote_char a.quote)

abbrev pub ShownOf : List ℕ → List Record → Thing → ℕ → ℕ → ℕ → Type 0
ShownOf bytes whole (Thing.attribute a) index start stop = AttributeShown bytes whole a index start stop
ShownOf bytes whole _ index start stop = Unit {0}

abbrev pub Shown : List ℕ → List Record → Entry → Type 0
Shown bytes whole e = ShownOf bytes whole e.what e.index e.start e.stop

-- the record before an index ends at a place
record EndsBefore (whole : List Record) (index at : ℕ) : Type 0 where
  some : 1 ≤ index
  ends : token_end (record_at (index - 1) whole) ≡ at

size_1 : size (codes "<") ≡ 1
unfolding size Rattle.std.proofs.Math.Utf8.encode
size_1 = refl

closing_quote : (bytes : List ℕ) (at : ℕ) (a : Attribute) → There bytes at (written_attribute a) →
    ByteIs bytes (at + size (a.space ++ before_value a ++ written_pieces a.value)) (quote_char a.quote)
closing_quote bytes at a h =
    quote_there bytes _ a.quote (there_right bytes at (a.space ++ before_value a ++ written_pieces a.value) (quote_char a.quote ∷ []) h)

attribute_shown : (bytes : List ℕ) (whole : List Record) (a : Attribute) (index at : ℕ) → EndsBefore whole index at →
    There bytes at (written_attribute a) → AttributeShown bytes whole a index (at + size a.space) (at + size (written_attribute a))
attribute_shown bytes whole a index at b h =
    let before = a.space ++ before_value a ++ written_pieces a.value in
    record {
      room = omega arith;
      some = b.some;
      before = b.ends ∙ omega arith;
      last = at + size before;
      stops = omega (arith, attribute_size a, size-append (a.space ++ before_value a) (written_pieces a.value), size-append a.space (before_value a));
      quote = closing_quote bytes at a h;
    }

-- the record of an attribute's value ends where the attribute does
value_ends : (whole prefix rest : List Record) (a : Attribute) (depth index at : ℕ) →
    whole ≡ prefix ++ attribute_records depth (at + size a.space) a ++ rest → length prefix ≡ index →
    EndsBefore whole (index + 2) (at + size (written_attribute a))
value_ends whole prefix rest a depth index at e n =
    let mine = attribute_records depth (at + size a.space) a in
    let value : record_at (length prefix + 1) whole ≡ plain 4 depth (written_pieces a.value) (at + size a.space + size (before_value a)) =
    in_place whole prefix mine rest 1 e (omega arith) in
    let place : index + 2 - 1 ≡ length prefix + 1 = omega (arith, n) in
    record {
      some = omega arith;
      ends = ap (λ k. token_end (record_at k whole)) place ∙ ap token_end value ∙ omega (arith, attribute_size a);
    }

attributes_shown : (others : List Attribute) (bytes : List ℕ) (whole prefix rest : List Record) (x : Holder) (holders : List Holder)
    (depth at index i : ℕ) → whole ≡ prefix ++ attributes_records depth at others ++ rest → length prefix ≡ index → EndsBefore whole index at →
    There bytes at (written_attributes others) → Each (Shown bytes whole) (attributes (x ∷ holders) at index i others)
attributes_shown [] bytes whole prefix rest x holders depth at index i e n b h = tt
attributes_shown (a ∷ others) bytes whole prefix rest x holders depth at index i e n b h =
    let mine = attribute_records depth (at + size a.space) a in
    let past = at + size (written_attribute a) in
    let more = attributes_records depth past others in
    let own = there_left bytes at (written_attribute a) (written_attributes others) h in
    each_option (Shown bytes whole) (attribute_entry (x ∷ holders) at index i a) _
    (if_some_second (Shown bytes whole) (declares a.name) _ (attribute_shown bytes whole a index at b own))
    (attributes_shown others bytes whole (prefix ++ mine) rest x holders depth past (index + 2) (i + one_if (not (declares a.name)))
    (second_part whole prefix mine more rest e) (length-append prefix mine ∙ ap (λ k. k + 2) n)
    (value_ends whole prefix (more ++ rest) a depth index at (first_part whole prefix mine more rest e) n)
    (there_right bytes at (written_attribute a) (written_attributes others) h))

-- the attributes of a tag that is there
tag_shown : (bytes : List ℕ) (whole prefix rest : List Record) (h : Here) (t : Tag) (end : List ℕ) →
    whole ≡ prefix ++ tag_records (length h.holders) h.at t ++ rest → length prefix ≡ h.index →
    There bytes h.at (codes "<" ++ t.name ++ written_attributes t.attributes ++ t.space ++ end) → Each (Shown bytes whole) (tag_attributes h t)
tag_shown bytes whole prefix rest h t end e n k =
    let l = length h.holders in
    let head = named 0 l t.name (h.at + 1) in
    let others = attributes_records l (attributes_place h.at t) t.attributes in
    let first : record_at (length prefix + 0) whole ≡ head = in_place whole prefix (head ∷ others) rest 0 e (omega arith) in
    let place : h.index + 1 - 1 ≡ length prefix + 0 = omega (arith, n) in
    let written = there_left bytes h.at (codes "<" ++ t.name ++ written_attributes t.attributes) t.space
    (there_left bytes h.at (codes "<" ++ t.name ++ written_attributes t.attributes ++ t.space) end k) in
    let at : h.at + size (codes "<" ++ t.name) ≡ attributes_place h.at t = omega (arith, size-append (codes "<") t.name, size_1) in
    let there : There bytes (attributes_place h.at t) (written_attributes t.attributes) =
    subst (λ p. There bytes p (written_attributes t.attributes)) at
    (there_right bytes h.at (codes "<" ++ t.name) (written_attributes t.attributes) written) in
    let one : whole ≡ prefix ++ ((head ∷ []) ++ others) ++ rest = e in
    attributes_shown t.attributes bytes whole (prefix ++ (head ∷ [])) rest (record { tag = t; index = h.index }) h.holders l
    (attributes_place h.at t) (suc h.index) 0
    (second_part whole prefix (head ∷ []) others rest one) (length-append prefix (head ∷ []) ∙ omega (arith, n))
    (record { some = omega arith; ends = ap (λ m. token_end (record_at m whole)) (omega (arith, n)) ∙ ap token_end first ∙ omega arith })
    there

text_none : (bytes : List ℕ) (whole : List Record) (h : Here) (xs : List Leaf) → IfSome (text_node h xs) (Shown bytes whole)
text_none bytes whole h xs = if_some_cond (Shown bytes whole) (begins_run h.holders h.joins xs) _ tt

leaf_none : (x : Leaf) (f : Forest) (h : Here) (bytes : List ℕ) (whole : List Record) → IfSome (leaf_node h x f) (Shown bytes whole)
leaf_none (Leaf.text ps) f h bytes whole = text_none bytes whole h (Leaf.text ps ∷ run f)
leaf_none (Leaf.cdata cs) f h bytes whole = text_none bytes whole h (Leaf.cdata cs ∷ run f)
leaf_none (Leaf.comment cs) f h bytes whole = tt
leaf_none (Leaf.instruction i) f h bytes whole = tt
leaf_none (Leaf.declaration d) f h bytes whole = tt
leaf_none (Leaf.doctype d) f h bytes whole = tt

nodes_shown : (f : Forest) (h : Here) (may : Leaf → Bool) (bytes : List ℕ) (whole prefix rest : List Record) →
    whole ≡ prefix ++ forest_records (length h.holders) h.at f ++ rest → length prefix ≡ h.index → Placed may bytes h.at f →
    Each (Shown bytes whole) (nodes h f)
nodes_shown done h may bytes whole prefix rest e n p = tt
nodes_shown (Forest.single x f) h may bytes whole prefix rest e n p =
    let l = length h.holders in
    let mine = leaf_records l h.at x in
    let more = forest_records l (past_leaf h.at x) f in
    each_option (Shown bytes whole) (leaf_node h x f) _ (leaf_none x f h bytes whole)
    (nodes_shown f (after_leaf h x f) may bytes whole (prefix ++ mine) rest (second_part whole prefix mine more rest e)
    (length-append prefix mine ∙ ap (λ k. k + length mine) n) p.1)
nodes_shown (empty t f) h may bytes whole prefix rest e n p =
    let l = length h.holders in
    let stop = past_empty h.at t in
    let mine = tag_records l h.at t in
    let more = forest_records l stop f in
    let own = element_entry h t done stop ∷ tag_attributes h t in
    each_append (Shown bytes whole) (map (under (Step.child h.number)) own) (nodes (after_element h t done stop) f)
    (each_map (Shown bytes whole) (under (Step.child h.number)) own
    (tt, tag_shown bytes whole prefix (more ++ rest) h t (codes "/>") (first_part whole prefix mine more rest e) n (item_there bytes h.at (empty_tag t) p.0)))
    (nodes_shown f (after_element h t done stop) may bytes whole (prefix ++ mine) rest (second_part whole prefix mine more rest e)
    (omega (arith, length-append prefix mine, n)) p.1)
nodes_shown (element t inside space f) h may bytes whole prefix rest e n p =
    let l = length h.holders in
    let stop = past_element h.at t inside space in
    let tag = tag_records l h.at t in
    let within = forest_records (suc l) (past_start h.at t) inside in
    let mine = tag ++ within in
    let more = forest_records l stop f in
    let own = element_entry h t inside stop ∷ tag_attributes h t ++ nodes (inside_of h t) inside in
    let e' : whole ≡ prefix ++ mine ++ (more ++ rest) = first_part whole prefix mine more rest e in
    each_append (Shown bytes whole) (map (under (Step.child h.number)) own) (nodes (after_element h t inside stop) f)
    (each_map (Shown bytes whole) (under (Step.child h.number)) own (
      tt,
      each_append (Shown bytes whole) (tag_attributes h t) (nodes (inside_of h t) inside)
          (tag_shown bytes whole prefix (within ++ (more ++ rest)) h t (codes ">") (first_part whole prefix tag within (more ++ rest) e') n
          (item_there bytes h.at (start_tag t) p.0))
          (nodes_shown inside (inside_of h t) is_content_leaf bytes whole (prefix ++ tag) (more ++ rest) (second_part whole prefix tag within (more ++ rest) e')
          (length-append prefix tag ∙ ap (λ k. k + length tag) n) p.1),
    ))
    (nodes_shown f (after_element h t inside stop) may bytes whole (prefix ++ mine) rest (second_part whole prefix mine more rest e)
    (omega (arith, length-append prefix mine, length-append tag within, n)) p.3)

pub all_shown : (bytes : List ℕ) (nest : Forest) → IsDocument bytes nest →
    Each (Shown bytes (records nest (first_place bytes))) (all nest (first_place bytes))
unfolding all records
all_shown bytes nest d =
    let first = first_place bytes in
    let fs = forest_records 0 first nest in
    let whole = document ∷ fs in
    (tt, nodes_shown nest (at_first first) any_leaf bytes whole (document ∷ []) [] (sym (append-nil whole)) refl (document_placed bytes nest d))
