-- Whether places are found does not hang on where the search begins.
use Rattle.std.proofs.Common.{◌≡◌, ℕ, ◌+◌, Bool, true, false, cond, List, [], ◌∷◌, ◌++◌, length, Option, Some, None, refl, sym, ap, ap₂}
use Rattle.std.proofs.Common.{◌∙◌, ◌&&◌}
use Rattle.std.specs.Prelude.{bytes_eq}
use Rattle.std.specs.List.{list_all, list_any}
use Rattle.std.proofs.lemmas.Bool.{and_parts, false≢true}
use Rattle.xml_model.specs.Chars.{size, has_colon}
use Rattle.xml_model.specs.Items.{Piece, Attribute, Tag, Instruction, Leaf, text, cdata, declaration, doctype, Item, leaf, start_tag}
use Rattle.xml_model.specs.Items.{empty_tag, end_tag, is_nil, written_piece, written_pieces, written_attribute, spelling}
use Rattle.xml_model.specs.Nest.{Forest, done, single, empty, element}
use Rattle.xml_model.specs.Records.{attributes_place, past_leaf, past_empty, past_start, past_element}
use Rattle.xml_model.specs.Names.{Expanded}
use Rattle.xml_model.specs.Accepted.{Faults, is_unknown, unknown_pieces, unknown_attributes, unknown_item, unknown_encoding}
use Rattle.xml_model.specs.Accepted.{encoding_item, over_items, over_names, leaf_faults, value_place, name_place, is_known_encoding}
use Rattle.xml_model.specs.Accepted.{repeated, repeats, offences, offending_attributes, attribute_offends, tag_offends, seen_with}

pub nil_is : (xs : List ℕ) → is_nil xs ≡ true → xs ≡ []
nil_is [] h = refl
nil_is (x ∷ xs) h = absurd (false≢true h)

pub nil_append : (xs ys : List ℕ) → is_nil (xs ++ ys) ≡ (is_nil xs && is_nil ys)
nil_append [] ys = refl
nil_append (x ∷ xs) ys = refl

pub both : (xs ys xs' ys' : List ℕ) → is_nil xs ≡ is_nil xs' → is_nil ys ≡ is_nil ys' → is_nil (xs ++ ys) ≡ is_nil (xs' ++ ys')
both xs ys xs' ys' a b = nil_append xs ys ∙ ap₂ (λ (x y : Bool). x && y) a b ∙ sym (nil_append xs' ys')

pub if_one : (b : Bool) (at to : ℕ) → is_nil (cond b (at ∷ []) []) ≡ is_nil (cond b (to ∷ []) [])
if_one true at to = refl
if_one false at to = refl

unless_one : (b : Bool) (at to : ℕ) → is_nil (cond b [] (at ∷ [])) ≡ is_nil (cond b [] (to ∷ []))
unless_one true at to = refl
unless_one false at to = refl

-- ---- references and the encoding

pub pieces_any : (at to : ℕ) (ps : List Piece) → is_nil (unknown_pieces at ps) ≡ is_nil (unknown_pieces to ps)
pieces_any at to [] = refl
pieces_any at to (p ∷ ps) =
    both (cond (is_unknown p) (at ∷ []) []) _ (cond (is_unknown p) (to ∷ []) []) _ (if_one (is_unknown p) at to)
    (pieces_any (at + size (written_piece p)) (to + size (written_piece p)) ps)

attributes_any : (at to : ℕ) (others : List Attribute) → is_nil (unknown_attributes at others) ≡ is_nil (unknown_attributes to others)
attributes_any at to [] = refl
attributes_any at to (a ∷ others) =
    both (unknown_pieces (value_place at a) a.value) _ (unknown_pieces (value_place to a) a.value) _
    (pieces_any (value_place at a) (value_place to a) a.value)
    (attributes_any (at + size (written_attribute a)) (to + size (written_attribute a)) others)

pub entities_any : (at : ℕ) (i : Item) → is_nil (unknown_item at i) ≡ is_nil (unknown_item 0 i)
entities_any at (leaf (text ps)) = pieces_any at 0 ps
entities_any at (leaf (cdata cs)) = refl
entities_any at (leaf (Leaf.comment cs)) = refl
entities_any at (leaf (Leaf.instruction i)) = refl
entities_any at (leaf (declaration d)) = refl
entities_any at (leaf (doctype d)) = refl
entities_any at (start_tag t) = attributes_any (attributes_place at t) (attributes_place 0 t) t.attributes
entities_any at (empty_tag t) = attributes_any (attributes_place at t) (attributes_place 0 t) t.attributes
entities_any at (end_tag name space) = refl

encoding_one : (at to : ℕ) (o : Option Attribute) → is_nil (unknown_encoding at o) ≡ is_nil (unknown_encoding to o)
encoding_one at to None = refl
encoding_one at to (Some a) = unless_one (is_known_encoding (written_pieces a.value)) (value_place at a) (value_place to a)

pub encoding_any : (at : ℕ) (i : Item) → is_nil (encoding_item at i) ≡ is_nil (encoding_item 0 i)
encoding_any at (leaf (text ps)) = refl
encoding_any at (leaf (cdata cs)) = refl
encoding_any at (leaf (Leaf.comment cs)) = refl
encoding_any at (leaf (Leaf.instruction i)) = refl
encoding_any at (leaf (declaration d)) =
    encoding_one (at + 5 + size (written_attribute d.version)) (0 + 5 + size (written_attribute d.version)) d.encoding
encoding_any at (leaf (doctype d)) = refl
encoding_any at (start_tag t) = refl
encoding_any at (empty_tag t) = refl
encoding_any at (end_tag name space) = refl

pub over_none : (places : ℕ → Item → List ℕ) → ((at : ℕ) (i : Item) → is_nil (places at i) ≡ is_nil (places 0 i)) →
    (at : ℕ) (is : List Item) → list_all (λ i. is_nil (places 0 i)) is ≡ true → over_items places at is ≡ []
over_none places any at [] h = refl
over_none places any at (i ∷ is) h =
    let q = and_parts (is_nil (places 0 i)) _ h in
    ap₂ (λ (xs ys : List ℕ). xs ++ ys) (nil_is (places at i) (any at i ∙ q.0)) (over_none places any (at + length (spelling i)) is q.1)

pub none_over : (places : ℕ → Item → List ℕ) → ((at : ℕ) (i : Item) → is_nil (places at i) ≡ is_nil (places 0 i)) →
    (at : ℕ) (is : List Item) → is_nil (over_items places at is) ≡ list_all (λ i. is_nil (places 0 i)) is
none_over places any at [] = refl
none_over places any at (i ∷ is) = nil_append (places at i) (over_items places (at + length (spelling i)) is)
    ∙ ap₂ (λ (x y : Bool). x && y) (any at i) (none_over places any (at + length (spelling i)) is)

-- ---- names

pub record Placeless (w : Faults) : Type 0 where
  pub instruction : (at to : ℕ) (i : Instruction) → is_nil (w.instruction at i) ≡ is_nil (w.instruction to i)
  pub tag : (at to : ℕ) (tags : List Tag) (t : Tag) → is_nil (w.tag at tags t) ≡ is_nil (w.tag to tags t)

pub leaf_any : (w : Faults) → Placeless w → (at to : ℕ) (x : Leaf) → is_nil (leaf_faults w at x) ≡ is_nil (leaf_faults w to x)
leaf_any w p at to (text ps) = refl
leaf_any w p at to (cdata cs) = refl
leaf_any w p at to (Leaf.comment cs) = refl
leaf_any w p at to (Leaf.instruction i) = p.instruction (at + 2) (to + 2) i
leaf_any w p at to (declaration d) = refl
leaf_any w p at to (doctype d) = refl

pub names_any : (w : Faults) → Placeless w → (tags : List Tag) (at to : ℕ) (f : Forest) →
    is_nil (over_names w tags at f) ≡ is_nil (over_names w tags to f)
names_any w p tags at to done = refl
names_any w p tags at to (single x f) =
    both (leaf_faults w at x) _ (leaf_faults w to x) _ (leaf_any w p at to x) (names_any w p tags (past_leaf at x) (past_leaf to x) f)
names_any w p tags at to (empty t f) =
    both (w.tag at tags t) _ (w.tag to tags t) _ (p.tag at to tags t) (names_any w p tags (past_empty at t) (past_empty to t) f)
names_any w p tags at to (element t inside space f) =
    both (w.tag at tags t ++ over_names w (t ∷ tags) (past_start at t) inside) _
    (w.tag to tags t ++ over_names w (t ∷ tags) (past_start to t) inside) _
    (both (w.tag at tags t) _ (w.tag to tags t) _ (p.tag at to tags t)
    (names_any w p (t ∷ tags) (past_start at t) (past_start to t) inside))
    (names_any w p tags (past_element at t inside space) (past_element to t inside space) f)

pub repeated_any : (at to : ℕ) (seen : List (List ℕ)) (others : List Attribute) →
    is_nil (repeated at seen others) ≡ is_nil (repeated to seen others)
repeated_any at to seen [] = refl
repeated_any at to seen (a ∷ others) =
    let b = list_any (bytes_eq a.name) seen in
    both (cond b (name_place at a ∷ []) []) _ (cond b (name_place to a ∷ []) []) _ (if_one b (name_place at a) (name_place to a))
    (repeated_any (at + size (written_attribute a)) (to + size (written_attribute a)) (a.name ∷ seen) others)

pub repeats_placeless : Placeless repeats
repeats_placeless =
    record {
      instruction = λ at to i. refl;
      tag = λ at to tags t. repeated_any (attributes_place at t)
          (attributes_place to t) [] t.attributes;
    }

offending_any : (tags : List Tag) (at to : ℕ) (seen : List Expanded) (others : List Attribute) →
    is_nil (offending_attributes tags at seen others) ≡ is_nil (offending_attributes tags to seen others)
offending_any tags at to seen [] = refl
offending_any tags at to seen (a ∷ others) =
    let b = attribute_offends tags seen a in
    both (cond b (name_place at a ∷ []) []) _ (cond b (name_place to a ∷ []) []) _ (if_one b (name_place at a) (name_place to a))
    (offending_any tags (at + size (written_attribute a)) (to + size (written_attribute a)) (seen_with tags a seen) others)

pub offences_placeless : Placeless offences
offences_placeless = record {
  instruction = λ at to i. if_one (has_colon i.target) at to;
  tag = λ at to tags t.
      both (cond (tag_offends (t ∷ tags) t.name) ((at + 1) ∷ []) []) _ (cond (tag_offends (t ∷ tags) t.name) ((to + 1) ∷ []) []) _
      (if_one (tag_offends (t ∷ tags) t.name) (at + 1) (to + 1))
      (offending_any (t ∷ tags) (attributes_place at t) (attributes_place to t) [] t.attributes);
}

pub no_names_anywhere : (w : Faults) → Placeless w → (tags : List Tag) (at to : ℕ) (f : Forest) → over_names w tags at f ≡ [] →
    over_names w tags to f ≡ []
no_names_anywhere w p tags at to f e = nil_is _ (names_any w p tags to at f ∙ ap is_nil e)
