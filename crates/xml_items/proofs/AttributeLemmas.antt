-- The attributes of an item, one by one.
use Rattle.std.proofs.Common.{◌≡◌, ℕ, ◌+◌, ◌-◌, ◌<◌, ◌≤◌, true, false, List, [], ◌∷◌, ◌++◌, length, drop, get_or, Option, Some, None, refl, sym, ap, subst, ◌∙◌, arith, lit<, add-zero, append_assoc}
use Rattle.std.specs.Prelude.{codes, ◌&&◌, option_map, option_and_then, is_some}
use Rattle.std.specs.Str.{IsUtf8, chars, IsCharBoundary}
use Rattle.std.specs.List.{list_all}
use lib.Utf8.{scalars, encodes}
use Rattle.xml_chars.specs.Reading.{begins_name}
use Rattle.xml_items.specs.Shown.{item_shown, item_kind, item_content}
use Rattle.xml_items.specs.declared.Item.{Item as ItemShown}
use Rattle.xml_items.specs.Suffixes.{after_space_of, after_name_of, value_of, after_value_of}
use Rattle.xml_items.proofs.DeclarationLaws.{Declared, declared, part_of, space_63}
use Rattle.std.specs.Prelude.{option_to_list}
use Rattle.xml_model.specs.Chars.{is_name_start, in_ranges}
use Rattle.xml_chars.proofs.Readers.{begins_split}
use Rattle.std.proofs.lemmas.List.{append-nil, drop-drop, length-drop, append_cancel_left, get_or-drop}
use Rattle.std.proofs.lemmas.Str.{chars-encodes, scalars-chars, IsCharBoundary-from_drop, IsCharBoundary-before_ascii, IsUtf8-drop, encode_ascii}
use Rattle.std.proofs.lemmas.Bool.{false≢true, and_parts, and_from}
use Rattle.xml_model.specs.Chars.{size, begins, is_name, is_blank}
use Rattle.xml_model.specs.Items.{Attribute, Tag, Declaration, Item, leaf, Leaf, start_tag, empty_tag, end_tag, before_value, written, written_pieces, written_attribute, written_attributes, written_option, meets, meets_attribute, begins_at, spelling, ends_well, may_begin_at, first_place, meets_part_if_there, is_version, is_encoding_name, is_yes_or_no}
use Rattle.xml_model.specs.Records.{declaration_attributes}
use Rattle.xml_chars.proofs.HoldLemmas.{prefix_holds, holds_prefix, size-append}
use Rattle.xml_items.specs.Reading.{read_attribute, begins_attribute, read_attributes}
use Rattle.xml_items.specs.Suffixes.{Suffixes, suffixes, suffixes_seen}
use Rattle.xml_items.specs.AttributeList.{attribute_shown, shown_of, item_attributes, has_attributes}
use Rattle.xml_items.specs.declared.tags.AttributeText.{AttributeText}
use Rattle.xml_items.specs.declared.AttributeItem.{AttributeItem}
use Rattle.xml_items.proofs.TagLaws.{attribute_reads, attribute_pos, FitAttribute, attributes_reads, tagged, no_more, close_space, close_start}
use Rattle.xml_items.proofs.UnitLemmas.{many_first, many_none, many_end}
use Rattle.xml_items.proofs.StepLemmas.{suffixes_some, suffixes_none}
use Rattle.xml_items.proofs.SpanLemmas.{size_of, size_1, size_slash, size_xml}
use Rattle.xml_chars.proofs.TextLemmas.{scalars_back}

abbrev pub push : Attribute → Option (List Attribute × List ℕ) → Option (List Attribute × List ℕ)
push a o = option_and_then {U = List Attribute × List ℕ} (λ (q : List Attribute × List ℕ). Some (a ∷ q.0, q.1)) o

pub attributes_first : (s r : List ℕ) (a : Attribute) → begins_attribute s ≡ true → read_attribute s ≡ Some (a, r) → read_attributes s ≡ push a (read_attributes r)
unfolding read_attributes
attributes_first s r a go e = many_first begins_attribute read_attribute written_attribute FitAttribute attribute_pos attribute_reads s a r go e

pub attributes_end : (s : List ℕ) (at : ℕ) → begins_attribute s ≡ false → shown_of at (read_attributes s) ≡ []
unfolding read_attributes
attributes_end s at h = ap (shown_of at) (many_end begins_attribute read_attribute s h)

pub attributes_stop : (s : List ℕ) → is_some (read_attributes s) ≡ true → begins_attribute s ≡ true → option_map suffixes (read_attribute s) ≡ None → ⊥
unfolding read_attributes
attributes_stop s some go e =
    let n = many_none begins_attribute read_attribute s go (suffixes_none (read_attribute s) e) in
    false≢true (ap is_some (sym n) ∙ some)

push_some : (a : Attribute) (o : Option (List Attribute × List ℕ)) → is_some (push a o) ≡ true → is_some o ≡ true
push_some a None h = h
push_some a (Some p) h = refl

push_shown : (a : Attribute) (at : ℕ) (o : Option (List Attribute × List ℕ)) → is_some o ≡ true → shown_of at (push a o) ≡ attribute_shown at a ∷ shown_of (at + size (written_attribute a)) o
push_shown a at None h = absurd (false≢true h)
push_shown a at (Some p) h = refl

-- the item of the attribute at the start, and what is left
pub record Next (s : List ℕ) (at : ℕ) (text : List ℕ) (f : AttributeText) : Type 0 where
  pub read : is_some (read_attributes (chars f.rest.now)) ≡ true
  pub shown : shown_of at (read_attributes (chars text)) ≡ record {
    name = record { start = at + (length text - length f.after_space.now); end = at + (length text - length f.after_name.now) };
    value = record { start = at + (length text - length f.value.now); end = at + (length text - length f.after_value.now) };
  } ∷ shown_of (at + (length text - length f.rest.now)) (read_attributes (chars f.rest.now))

same_attribute : (a b c d a' b' c' d' : ℕ) → a ≡ a' → b ≡ b' → c ≡ c' → d ≡ d' → let x : AttributeItem = record { name = record { start = a; end = b }; value = record { start = c; end = d } } in let y : AttributeItem = record { name = record { start = a'; end = b' }; value = record { start = c'; end = d' } } in x ≡ y
same_attribute a b c d a' b' c' d' p q r s = rw (p, q, r, s) refl

spaced : (a : Attribute) (r : List ℕ) → written_attribute a ++ r ≡ a.space ++ after_space_of a r
spaced a r = simp append_assoc

valued : (a : Attribute) (r : List ℕ) → written_attribute a ++ r ≡ (a.space ++ before_value a) ++ value_of a r
valued a r = simp append_assoc

abbrev next_by : ℕ → List ℕ → AttributeText → AttributeItem
next_by at text f = record {
  name = record { start = at + (length text - length f.after_space.now); end = at + (length text - length f.after_name.now) };
  value = record { start = at + (length text - length f.value.now); end = at + (length text - length f.after_value.now) };
}

pub next_of : (at : ℕ) (text : List ℕ) (f : AttributeText) → IsUtf8 text → IsUtf8 f.after_space.now → IsUtf8 f.after_name.now → IsUtf8 f.value.now → IsUtf8 f.after_value.now → IsUtf8 f.rest.now
    → is_some (read_attributes (chars text)) ≡ true → begins_attribute (chars text) ≡ true → option_map suffixes (read_attribute (chars text)) ≡ Some (suffixes_seen f) → Next (chars text) at text f
next_of at text f ut ua ub uc ud ue some go e =
    let m = suffixes_some (read_attribute (chars text)) (suffixes_seen f) e in
    let a = m.0 in
    let r = chars f.rest.now in
    let first = attributes_first (chars text) r a go m.1 in
    let whole : chars text ≡ written_attribute a ++ r = (attribute_reads.takes (chars text) a r m.1).0 in
    let s1 : after_space_of a r ≡ chars f.after_space.now = ap (λ (x : Suffixes). x.after_space) m.2 in
    let s2 : after_name_of a r ≡ chars f.after_name.now = ap (λ (x : Suffixes). x.after_name) m.2 in
    let s3 : value_of a r ≡ chars f.value.now = ap (λ (x : Suffixes). x.value) m.2 in
    let s4 : after_value_of a r ≡ chars f.after_value.now = ap (λ (x : Suffixes). x.after_value) m.2 in
    let z : length text ≡ size (written_attribute a) + length f.rest.now = size_of text f.rest.now (written_attribute a) ut ue whole in
    let z1 : length text ≡ size a.space + length f.after_space.now = size_of text f.after_space.now a.space ut ua (whole ∙ spaced a r ∙ ap (λ (l : List ℕ). a.space ++ l) s1) in
    let z2 : length f.after_space.now ≡ size a.name + length f.after_name.now = size_of f.after_space.now f.after_name.now a.name ua ub (sym s1 ∙ ap (λ (l : List ℕ). a.name ++ l) s2) in
    let z3 : length text ≡ size (a.space ++ before_value a) + length f.value.now = size_of text f.value.now (a.space ++ before_value a) ut uc (whole ∙ valued a r ∙ ap (λ (l : List ℕ). (a.space ++ before_value a) ++ l) s3) in
    let z4 : length f.value.now ≡ size (written_pieces a.value) + length f.after_value.now = size_of f.value.now f.after_value.now (written_pieces a.value) uc ud (sym s3 ∙ ap (λ (l : List ℕ). written_pieces a.value ++ l) s4) in
    let left : is_some (read_attributes r) ≡ true = push_some a (read_attributes r) (ap is_some (sym first) ∙ some) in
    let places : attribute_shown at a ≡ record {
      name = record { start = at + (length text - length f.after_space.now); end = at + (length text - length f.after_name.now) };
      value = record { start = at + (length text - length f.value.now); end = at + (length text - length f.after_value.now) };
    } = sym (same_attribute (at + (length text - length f.after_space.now)) (at + (length text - length f.after_name.now)) (at + (length text - length f.value.now)) (at + (length text - length f.after_value.now))
    (at + size a.space) (at + size a.space + size a.name) (at + size a.space + size (before_value a)) (at + size a.space + size (before_value a) + size (written_pieces a.value))
    (omega arith) (omega arith) (omega (arith, size-append a.space (before_value a))) (omega (arith, size-append a.space (before_value a)))) in
    let step : at + size (written_attribute a) ≡ at + (length text - length f.rest.now) = omega arith in
    record {
      read = left;
      shown = ap (shown_of at) first ∙ push_shown a at (read_attributes r) left ∙ ap (λ (x : AttributeItem). x ∷ shown_of (at + size (written_attribute a)) (read_attributes r)) places
          ∙ ap (λ (k : ℕ). next_by at text f ∷ shown_of k (read_attributes r)) step;
    }

-- ---- the attributes of an item

pub record Listed (bytes : List ℕ) (p : ℕ) (xs : List Attribute) : Type 0 where
  pub boundary : IsCharBoundary bytes p
  pub rest : List ℕ
  pub read : read_attributes (chars (drop p bytes)) ≡ Some (xs, rest)

listed_by : (bytes : List ℕ) (at : ℕ) (w after : List ℕ) (xs : List Attribute) → IsUtf8 bytes → IsCharBoundary bytes at → chars (drop at bytes) ≡ w ++ (written_attributes xs ++ after) → list_all meets_attribute xs ≡ true → begins_attribute after ≡ false → Listed bytes (at + size w) xs
listed_by bytes at w after xs u b e all stop =
    let bs = drop at bytes in
    let ub : IsUtf8 bs = IsUtf8-drop bytes at u b in
    let v = written_attributes xs ++ after in
    let s : scalars v ≡ true = scalars_back w v (ap scalars (sym e) ∙ scalars-chars bs ub) in
    let f = prefix_holds bs w ub (holds_prefix bs w v ub e) in
    let same : f.0 ≡ v = append_cancel_left w f.0 v (sym f.1 ∙ e) in
    let there : drop (at + size w) bytes ≡ encodes v = sym (drop-drop (size w) at bytes) ∙ sym f.2 ∙ ap encodes same in
    let uv : IsUtf8 (drop (at + size w) bytes) = (v, (s, sym there)) in
    let len : length bs ≡ size w + length (encodes v) = size_of bs (encodes v) w ub (v, (s, refl)) (e ∙ ap (λ (l : List ℕ). w ++ l) (sym (chars-encodes v s))) in
    let within : at + size w ≤ length bytes = omega (arith, length-drop at bytes, b.0) in
    record {
      boundary = IsCharBoundary-from_drop bytes (at + size w) within uv;
      rest = after;
      read = ap (λ (l : List ℕ). read_attributes (chars l)) there ∙ ap read_attributes (chars-encodes v s) ∙ attributes_reads.again xs after (all, stop);
    }

-- an item that begins with < is where a character begins
open_boundary : (bytes w : List ℕ) (at : ℕ) → begins (encodes (60 ∷ w)) (drop at bytes) ≡ true → IsCharBoundary bytes at
open_boundary bytes w at h =
    let e : drop at bytes ≡ encodes (60 ∷ w) ++ drop (length (encodes (60 ∷ w))) (drop at bytes) = begins_split (encodes (60 ∷ w)) (drop at bytes) h in
    let one : encodes (60 ∷ w) ≡ 60 ∷ encodes w = ap (λ (l : List ℕ). l ++ encodes w) (encode_ascii 60 (lit< tt)) in
    let split : drop at bytes ≡ 60 ∷ (encodes w ++ drop (length (encodes (60 ∷ w))) (drop at bytes)) = e ∙ ap (λ (l : List ℕ). l ++ drop (length (encodes (60 ∷ w))) (drop at bytes)) one in
    let byte : get_or bytes at 0 ≡ 60 = sym (ap (λ (n : ℕ). get_or bytes n 0) (add-zero at)) ∙ sym (get_or-drop at bytes 0 0) ∙ ap (λ (l : List ℕ). get_or l 0 0) split in
    let some : 0 < length (drop at bytes) = omega (arith, ap (λ (l : List ℕ). length l) split) in
    IsCharBoundary-before_ascii bytes at (omega (arith, length-drop at bytes)) (omega arith)

start_split : (n w sp rest : List ℕ) → (codes "<" ++ n ++ w ++ sp ++ codes ">") ++ rest ≡ (60 ∷ n) ++ (w ++ (sp ++ 62 ∷ rest))
start_split n w sp rest = simp append_assoc

empty_split : (n w sp rest : List ℕ) → (codes "<" ++ n ++ w ++ sp ++ codes "/>") ++ rest ≡ (60 ∷ n) ++ (w ++ (sp ++ 47 ∷ 62 ∷ rest))
empty_split n w sp rest = simp append_assoc

tag_size : (n : List ℕ) (at : ℕ) → at + size (60 ∷ n) ≡ at + 1 + size n
tag_size n at = omega (arith, size-append (60 ∷ []) n, size_1)

pub listed_start : (bytes : List ℕ) (at : ℕ) (t : Tag) → IsUtf8 bytes → begins_at bytes at (start_tag t) ≡ true → Listed bytes (at + 1 + size t.name) t.attributes
unfolding begins_at spelling meets
listed_start bytes at t u h =
    let i = start_tag t in
    let x = and_parts (meets i && begins (encodes (written i)) (drop at bytes) && ends_well i (drop (at + length (encodes (written i))) bytes)) (may_begin_at i (first_place bytes) at) h in
    let y = and_parts (meets i && begins (encodes (written i)) (drop at bytes)) (ends_well i (drop (at + length (encodes (written i))) bytes)) x.0 in
    let z = and_parts (meets i) (begins (encodes (written i)) (drop at bytes)) y.0 in
    let k = tagged t z.0 in
    let b : IsCharBoundary bytes at = open_boundary bytes (t.name ++ written_attributes t.attributes ++ t.space ++ codes ">") at z.1 in
    let f = prefix_holds (drop at bytes) (written i) (IsUtf8-drop bytes at u b) z.1 in
    subst (λ (p : ℕ). Listed bytes p t.attributes) (tag_size t.name at)
    (listed_by bytes at (60 ∷ t.name) (t.space ++ 62 ∷ f.0) t.attributes u b (f.1 ∙ start_split t.name (written_attributes t.attributes) t.space f.0) k.attributes (no_more t.space (62 ∷ f.0) k.space (close_space false f.0) (close_start false f.0)))

pub listed_empty : (bytes : List ℕ) (at : ℕ) (t : Tag) → IsUtf8 bytes → begins_at bytes at (empty_tag t) ≡ true → Listed bytes (at + 1 + size t.name) t.attributes
unfolding begins_at spelling meets
listed_empty bytes at t u h =
    let i = empty_tag t in
    let x = and_parts (meets i && begins (encodes (written i)) (drop at bytes) && ends_well i (drop (at + length (encodes (written i))) bytes)) (may_begin_at i (first_place bytes) at) h in
    let y = and_parts (meets i && begins (encodes (written i)) (drop at bytes)) (ends_well i (drop (at + length (encodes (written i))) bytes)) x.0 in
    let z = and_parts (meets i) (begins (encodes (written i)) (drop at bytes)) y.0 in
    let k = tagged t z.0 in
    let b : IsCharBoundary bytes at = open_boundary bytes (t.name ++ written_attributes t.attributes ++ t.space ++ codes "/>") at z.1 in
    let f = prefix_holds (drop at bytes) (written i) (IsUtf8-drop bytes at u b) z.1 in
    subst (λ (p : ℕ). Listed bytes p t.attributes) (tag_size t.name at)
    (listed_by bytes at (60 ∷ t.name) (t.space ++ 47 ∷ 62 ∷ f.0) t.attributes u b (f.1 ∙ empty_split t.name (written_attributes t.attributes) t.space f.0) k.attributes (no_more t.space (47 ∷ 62 ∷ f.0) k.space (close_space true f.0) (close_start true f.0)))

by_parts : (v e s sp rest : List ℕ) → (codes "<?xml" ++ v ++ e ++ s ++ sp ++ codes "?>") ++ rest ≡ codes "<?xml" ++ (v ++ (e ++ (s ++ (sp ++ 63 ∷ 62 ∷ rest))))
by_parts v e s sp rest = simp append_assoc

two : (v a r : List ℕ) → v ++ (a ++ r) ≡ (v ++ (a ++ [])) ++ r
two v a r = sym (append_assoc v (a ++ []) r ∙ ap (λ (l : List ℕ). v ++ (l ++ r)) (append-nil a))

three : (v a b r : List ℕ) → v ++ (a ++ (b ++ r)) ≡ (v ++ (a ++ (b ++ []))) ++ r
three v a b r = sym (append_assoc v (a ++ (b ++ [])) r ∙ ap (λ (l : List ℕ). v ++ l) (append_assoc a (b ++ []) r ∙ ap (λ (l : List ℕ). a ++ (l ++ r)) (append-nil b)))

pub parts_split : (v : Attribute) (en st : Option Attribute) (sp rest : List ℕ) → (codes "<?xml" ++ written_attribute v ++ written_option en ++ written_option st ++ sp ++ codes "?>") ++ rest ≡ codes "<?xml" ++ (written_attributes (declaration_attributes record { version = v; encoding = en; standalone = st; space = sp }) ++ (sp ++ 63 ∷ 62 ∷ rest))
parts_split v None None sp rest = by_parts (written_attribute v) [] [] sp rest ∙ ap (λ (l : List ℕ). codes "<?xml" ++ l) (sym (append_assoc (written_attribute v) [] (sp ++ 63 ∷ 62 ∷ rest)))
parts_split v (Some a) None sp rest = by_parts (written_attribute v) (written_attribute a) [] sp rest ∙ ap (λ (l : List ℕ). codes "<?xml" ++ l) (two (written_attribute v) (written_attribute a) (sp ++ 63 ∷ 62 ∷ rest))
parts_split v None (Some b) sp rest = by_parts (written_attribute v) [] (written_attribute b) sp rest ∙ ap (λ (l : List ℕ). codes "<?xml" ++ l) (two (written_attribute v) (written_attribute b) (sp ++ 63 ∷ 62 ∷ rest))
parts_split v (Some a) (Some b) sp rest = by_parts (written_attribute v) (written_attribute a) (written_attribute b) sp rest ∙ ap (λ (l : List ℕ). codes "<?xml" ++ l) (three (written_attribute v) (written_attribute a) (written_attribute b) (sp ++ 63 ∷ 62 ∷ rest))

all_parts : (d : Declaration) → Declared d → list_all meets_attribute (declaration_attributes d) ≡ true
all_parts d h = go d.version d.encoding d.standalone (part_of (codes "version") is_version d.version h.version).meets h.encoding h.standalone
  where
    go : (v : Attribute) (en st : Option Attribute) → meets_attribute v ≡ true → meets_part_if_there (codes "encoding") is_encoding_name en ≡ true → meets_part_if_there (codes "standalone") is_yes_or_no st ≡ true → list_all meets_attribute (v ∷ option_to_list en ++ option_to_list st) ≡ true
    go v None None m e s = and_from _ _ m refl
    go v (Some a) None m e s = and_from _ _ m (and_from _ _ (part_of (codes "encoding") is_encoding_name a e).meets refl)
    go v None (Some b) m e s = and_from _ _ m (and_from _ _ (part_of (codes "standalone") is_yes_or_no b s).meets refl)
    go v (Some a) (Some b) m e s = and_from _ _ m (and_from _ _ (part_of (codes "encoding") is_encoding_name a e).meets (and_from _ _ (part_of (codes "standalone") is_yes_or_no b s).meets refl))

start_63 : (rest : List ℕ) → begins_name (63 ∷ rest) ≡ false
unfolding is_name_start in_ranges
start_63 rest = refl

pub listed_declaration : (bytes : List ℕ) (at : ℕ) (d : Declaration) → IsUtf8 bytes → begins_at bytes at (leaf (Leaf.declaration d)) ≡ true → Listed bytes (at + 5) (declaration_attributes d)
unfolding begins_at spelling meets
listed_declaration bytes at d u h =
    let i : Item = leaf (Leaf.declaration d) in
    let x = and_parts (meets i && begins (encodes (written i)) (drop at bytes) && ends_well i (drop (at + length (encodes (written i))) bytes)) (may_begin_at i (first_place bytes) at) h in
    let y = and_parts (meets i && begins (encodes (written i)) (drop at bytes)) (ends_well i (drop (at + length (encodes (written i))) bytes)) x.0 in
    let z = and_parts (meets i) (begins (encodes (written i)) (drop at bytes)) y.0 in
    let k = declared d z.0 in
    let b : IsCharBoundary bytes at = open_boundary bytes (codes "?xml" ++ written_attribute d.version ++ written_option d.encoding ++ written_option d.standalone ++ d.space ++ codes "?>") at z.1 in
    let f = prefix_holds (drop at bytes) (written i) (IsUtf8-drop bytes at u b) z.1 in
    subst (λ (p : ℕ). Listed bytes p (declaration_attributes d)) (ap (λ (n : ℕ). at + n) size_xml)
    (listed_by bytes at (codes "<?xml") (d.space ++ 63 ∷ 62 ∷ f.0) (declaration_attributes d) u b (f.1 ∙ parts_split d.version d.encoding d.standalone d.space f.0) (all_parts d k) (no_more d.space (63 ∷ 62 ∷ f.0) k.space space_63 (start_63 (62 ∷ f.0))))

end_split : (n sp rest : List ℕ) → (codes "</" ++ n ++ sp ++ codes ">") ++ rest ≡ (60 ∷ 47 ∷ n) ++ ([] ++ (sp ++ 62 ∷ rest))
end_split n sp rest = simp append_assoc

end_size : (n : List ℕ) (at : ℕ) → at + size (60 ∷ 47 ∷ n) ≡ at + 2 + size n
end_size n at = omega (arith, size-append (60 ∷ 47 ∷ []) n, size_slash)

-- an end tag has no attributes
pub listed_end : (bytes : List ℕ) (at : ℕ) (n sp : List ℕ) → IsUtf8 bytes → begins_at bytes at (end_tag n sp) ≡ true → Listed bytes (at + 2 + size n) []
unfolding begins_at spelling meets
listed_end bytes at n sp u h =
    let i = end_tag n sp in
    let x = and_parts (meets i && begins (encodes (written i)) (drop at bytes) && ends_well i (drop (at + length (encodes (written i))) bytes)) (may_begin_at i (first_place bytes) at) h in
    let y = and_parts (meets i && begins (encodes (written i)) (drop at bytes)) (ends_well i (drop (at + length (encodes (written i))) bytes)) x.0 in
    let z = and_parts (meets i) (begins (encodes (written i)) (drop at bytes)) y.0 in
    let k = and_parts (is_name n) (is_blank sp) z.0 in
    let b : IsCharBoundary bytes at = open_boundary bytes (codes "/" ++ n ++ sp ++ codes ">") at z.1 in
    let f = prefix_holds (drop at bytes) (written i) (IsUtf8-drop bytes at u b) z.1 in
    subst (λ (p : ℕ). Listed bytes p []) (end_size n at)
    (listed_by bytes at (60 ∷ 47 ∷ n) (sp ++ 62 ∷ f.0) [] u b (f.1 ∙ end_split n sp f.0) refl (no_more sp (62 ∷ f.0) k.1 (close_space false f.0) (close_start false f.0)))

pub listed_item : (bytes : List ℕ) (at : ℕ) (i : Item) → IsUtf8 bytes → begins_at bytes at i ≡ true → has_attributes (item_kind i) ≡ true → Listed bytes (item_content at i).start (item_attributes i)
listed_item bytes at (start_tag t) u h k = listed_start bytes at t u h
listed_item bytes at (empty_tag t) u h k = listed_empty bytes at t u h
listed_item bytes at (leaf (Leaf.declaration d)) u h k = listed_declaration bytes at d u h
listed_item bytes at (end_tag n s) u h k = listed_end bytes at n s u h
listed_item bytes at (leaf (Leaf.text x)) u h k = absurd (false≢true k)
listed_item bytes at (leaf (Leaf.cdata x)) u h k = absurd (false≢true k)
listed_item bytes at (leaf (Leaf.comment x)) u h k = absurd (false≢true k)
listed_item bytes at (leaf (Leaf.instruction x)) u h k = absurd (false≢true k)
listed_item bytes at (leaf (Leaf.doctype x)) u h k = absurd (false≢true k)

pub listed_shown : (bytes : List ℕ) (found : ItemShown) (i : Item) → IsUtf8 bytes → has_attributes found.kind ≡ true → begins_at bytes found.span.start i ≡ true → found ≡ item_shown found.span.start i → Listed bytes found.content.start (item_attributes i)
listed_shown bytes found i u k h e =
    let kind : has_attributes (item_kind i) ≡ true = ap (λ (x : ItemShown). has_attributes x.kind) (sym e) ∙ k in
    subst (λ (p : ℕ). Listed bytes p (item_attributes i)) (ap (λ (x : ItemShown). x.content.start) (sym e)) (listed_item bytes found.span.start i u h kind)
