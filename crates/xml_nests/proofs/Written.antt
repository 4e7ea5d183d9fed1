-- Each character of an item that meets its row is a Char, so what it spells is UTF-8.
use Rattle.std.proofs.Common.{◌≡◌, ℕ, ◌≤◌, Bool, true, false, inl, inr, List, [], ◌∷◌, ◌++◌, Option, Some, None, refl, ◌∙◌, arith, not}
use Rattle.std.specs.Prelude.{nat_le, codes, ◌&&◌, ◌||◌, ◌==◌, bytes_eq}
use Rattle.std.specs.Char.{is_digit, digit_value}
use Rattle.std.specs.List.{list_all, flat_map}
use Rattle.std.proofs.lemmas.Bool.{and_parts, and_from, or_cases, or_left, or_right, leb-true, le-leb, false≢true, cases_lt, lt-ltb}
use Rattle.std.proofs.lemmas.Bool.{ltb-true}
use Rattle.std.proofs.lemmas.List.Folds.{list_all-append}
use Rattle.xml_model.specs.Chars.{in_ranges, is_char, is_space, is_blank, is_white, is_name, is_name_start, is_name_char}
use Rattle.xml_model.specs.Chars.{name_start_ranges, begins, lacks}
use Rattle.xml_model.specs.Items.{Piece, literal, entity, decimal, hexadecimal, Quote, quote_char, Attribute, Tag, Instruction}
use Rattle.xml_model.specs.Items.{Declaration, Doctype, SubsetUnit, DoctypeUnit, Leaf, text, cdata, declaration, doctype, Item, leaf}
use Rattle.xml_model.specs.Items.{start_tag, empty_tag, end_tag, written, written_leaf, written_piece, written_pieces, written_attribute}
use Rattle.xml_model.specs.Items.{written_attributes, written_option, written_inner, written_unit, written_units, written_tag}
use Rattle.xml_model.specs.Items.{before_value, in_quotes, meets, meets_piece, meets_attribute, meets_tag, meets_instruction}
use Rattle.xml_model.specs.Items.{meets_declaration, meets_part, meets_part_if_there, meets_doctype, meets_unit, meets_inner}
use Rattle.xml_model.specs.Items.{meets_quoted, has_one_subset, is_number, is_comment_text, is_nil, begins_with_space}
use Rattle.xml_model.specs.Items.{begins_with_name_char, is_version, is_encoding_name, is_yes_or_no}
use Rattle.xml_chars.proofs.NumberLemmas.{digit_low}

-- all of a text are Chars
abbrev pub Good : List ℕ → Type 0
Good cs = list_all is_char cs ≡ true

pub good_append : (xs ys : List ℕ) → Good xs → Good ys → Good (xs ++ ys)
good_append xs ys a b = list_all-append is_char xs ys ∙ and_from _ _ a b

good_map : (X : Type 0) (p : X → Bool) (f : X → List ℕ) → ((x : X) → p x ≡ true → Good (f x)) → (xs : List X) → list_all p xs ≡ true →
    Good (flat_map f xs)
good_map X p f h [] e = refl
good_map X p f h (x ∷ xs) e = let q =
    and_parts (p x) (list_all p xs) e in good_append (f x) (flat_map f xs) (h x q.0) (good_map X p f h xs q.1)

good_by : (p : ℕ → Bool) → ((c : ℕ) → p c ≡ true → is_char c ≡ true) → (cs : List ℕ) → list_all p cs ≡ true → Good cs
good_by p h [] e = refl
good_by p h (c ∷ cs) e = let q = and_parts (p c) (list_all p cs) e in and_from _ _ (h c q.0) (good_by p h cs q.1)

-- a range lies in one of some others
abbrev within : List (ℕ × ℕ) → ℕ × ℕ → Bool
within [] r = false
within (s ∷ ss) r = (nat_le s.0 r.0 && nat_le r.1 s.1) || within ss r

range_in : (ss : List (ℕ × ℕ)) (r : ℕ × ℕ) (c : ℕ) → within ss r ≡ true → nat_le r.0 c ≡ true → nat_le c r.1 ≡ true →
    in_ranges ss c ≡ true
unfolding in_ranges
range_in [] r c h a b = absurd (false≢true h)
range_in (s ∷ ss) r c h a b = elim (or_cases (nat_le s.0 r.0 && nat_le r.1 s.1) (within ss r) h) [
  | inl t ↦
      let q = and_parts (nat_le s.0 r.0) (nat_le r.1 s.1) t in
      or_left _ _ (and_from _ _ (le-leb s.0 c (omega (arith, leb-true s.0 r.0 q.0, leb-true r.0 c a)))
      (le-leb c s.1 (omega (arith, leb-true r.1 s.1 q.1, leb-true c r.1 b))))
  | inr t ↦ or_right _ _ (range_in ss r c t a b)
]

ranges_in : (rs ss : List (ℕ × ℕ)) (c : ℕ) → list_all (within ss) rs ≡ true → in_ranges rs c ≡ true → in_ranges ss c ≡ true
unfolding in_ranges
ranges_in [] ss c h e = absurd (false≢true e)
ranges_in (r ∷ rs) ss c h e =
    let q = and_parts (within ss r) (list_all (within ss) rs) h in
    elim (or_cases (nat_le r.0 c && nat_le c r.1) _ e) [
      | inl t ↦ let b = and_parts (nat_le r.0 c) (nat_le c r.1) t in range_in ss r c q.0 b.0 b.1
      | inr t ↦ ranges_in rs ss c q.1 t
    ]

abbrev char_ranges : List (ℕ × ℕ)
char_ranges = (0x9, 0xA) ∷ (0xD, 0xD) ∷ (0x20, 0xD7FF) ∷ (0xE000, 0xFFFD) ∷ (0x1_0000, 0x10_FFFF) ∷ []

pub space_char : (c : ℕ) → is_space c ≡ true → is_char c ≡ true
unfolding is_space is_char
space_char c h = ranges_in ((0x20, 0x20) ∷ (0x9, 0xA) ∷ (0xD, 0xD) ∷ []) char_ranges c refl h

start_char : (c : ℕ) → is_name_start c ≡ true → is_char c ≡ true
unfolding is_name_start is_char
start_char c h = ranges_in name_start_ranges char_ranges c refl h

pub name_char : (c : ℕ) → is_name_char c ≡ true → is_char c ≡ true
unfolding is_name_char is_char
name_char c h = elim (or_cases (is_name_start c) _ h) [
  | inl t ↦ start_char c t
  | inr t ↦ ranges_in ((45, 46) ∷ (48, 57) ∷ (0xB7, 0xB7) ∷ (0x300, 0x36F) ∷ (0x203F, 0x2040) ∷ []) char_ranges c refl t
]

digit_char : (base : ℕ) → base ≤ 36 → (c : ℕ) → is_digit c base ≡ true → is_char c ≡ true
unfolding is_char
digit_char base le c h = elim (cases_lt c 48) [
  | inl lt ↦
      let e : digit_value c ≡ 36 = rw (lt-ltb c 48 lt) refl in
      absurd (omega (arith, ltb-true (digit_value c) base h))
  | inr ge ↦ range_in char_ranges (48, 128) c refl (le-leb 48 c ge) (le-leb c 128 (omega (arith, digit_low base le c h)))
]

pub good_blank : (cs : List ℕ) → is_blank cs ≡ true → Good cs
unfolding is_blank
good_blank cs h = good_by is_space space_char cs h

pub good_white : (cs : List ℕ) → is_white cs ≡ true → Good cs
unfolding is_white
good_white [] h = absurd (false≢true h)
good_white (c ∷ cs) h = good_by is_space space_char (c ∷ cs) h

pub good_name : (cs : List ℕ) → is_name cs ≡ true → Good cs
unfolding is_name
good_name [] h = absurd (false≢true h)
good_name (c ∷ cs) h = let q = and_parts (is_name_start c) _ h in and_from _ _ (start_char c q.0) (good_by is_name_char name_char cs q.1)

good_number : (base : ℕ) → base ≤ 36 → (ds : List ℕ) → is_number base ds ≡ true → Good ds
good_number base le [] h = refl
good_number base le (d ∷ ds) h = let q =
    and_parts (list_all (λ c. is_digit c base) (d ∷ ds)) _ h in good_by (λ c. is_digit c base) (digit_char base le) (d ∷ ds) q.0

three : (a b c : List ℕ) → Good a → Good b → Good c → Good (a ++ b ++ c)
three a b c x y z = good_append (a ++ b) c (good_append a b x y) z

good_piece : (stops : ℕ → Bool) (p : Piece) → meets_piece stops p ≡ true → Good (written_piece p)
unfolding is_char in_ranges
good_piece stops (literal c) h =
    let a = and_parts (is_char c && not (c == 60) && not (c == 38)) (not (stops c)) h in
    let b = and_parts (is_char c && not (c == 60)) (not (c == 38)) a.0 in
    and_from _ _ (and_parts (is_char c) (not (c == 60)) b.0).0 refl
good_piece stops (entity name) h = three (codes "&") name (codes ";") refl (good_name name h) refl
good_piece stops (decimal ds) h = three (codes "&#") ds (codes ";") refl (good_number 10 (omega arith) ds h) refl
good_piece stops (hexadecimal ds) h = three (codes "&#x") ds (codes ";") refl (good_number 16 (omega arith) ds h) refl

pub good_pieces : (stops : ℕ → Bool) (ps : List Piece) → list_all (meets_piece stops) ps ≡ true → Good (written_pieces ps)
good_pieces stops ps h = good_map Piece (meets_piece stops) written_piece (good_piece stops) ps h

good_quote : (q : Quote) → Good (quote_char q ∷ [])
unfolding is_char in_ranges
good_quote Quote.single = refl
good_quote Quote.double = refl

good_equals : Good (codes "=")
unfolding is_char in_ranges
good_equals = refl

pub good_attribute : (a : Attribute) → meets_attribute a ≡ true → Good (written_attribute a)
good_attribute a h =
    let v = and_parts (is_white a.space && is_name a.name && is_blank a.left && is_blank a.right) _ h in
    let r = and_parts (is_white a.space && is_name a.name && is_blank a.left) (is_blank a.right) v.0 in
    let l = and_parts (is_white a.space && is_name a.name) (is_blank a.left) r.0 in
    let n = and_parts (is_white a.space) (is_name a.name) l.0 in
    let q = good_quote a.quote in
    let b1 : Good (a.name ++ a.left) = good_append a.name a.left (good_name a.name n.1) (good_blank a.left l.1) in
    let b2 : Good (a.name ++ a.left ++ codes "=") = good_append (a.name ++ a.left) (codes "=") b1 good_equals in
    let b3 : Good (a.name ++ a.left ++ codes "=" ++ a.right) =
    good_append (a.name ++ a.left ++ codes "=") a.right b2 (good_blank a.right r.1) in
    let b4 : Good (before_value a) = good_append (a.name ++ a.left ++ codes "=" ++ a.right) (quote_char a.quote ∷ []) b3 q in
    let b5 : Good (a.space ++ before_value a) = good_append a.space (before_value a) (good_white a.space n.0) b4 in
    let b6 : Good (a.space ++ before_value a ++ written_pieces a.value) =
    good_append (a.space ++ before_value a) (written_pieces a.value) b5 (good_pieces _ a.value v.1) in
    good_append (a.space ++ before_value a ++ written_pieces a.value) (quote_char a.quote ∷ []) b6 q

good_tag : (t : Tag) (mark : List ℕ) → Good mark → meets_tag t ≡ true → Good (written_tag t ++ mark)
unfolding is_char in_ranges
good_tag t mark m h =
    let s = and_parts (is_name t.name && list_all meets_attribute t.attributes) (is_blank t.space) h in
    let n = and_parts (is_name t.name) (list_all meets_attribute t.attributes) s.0 in
    let b1 : Good (codes "<" ++ t.name) = good_append (codes "<") t.name refl (good_name t.name n.0) in
    let b2 : Good (codes "<" ++ t.name ++ written_attributes t.attributes) =
    good_append (codes "<" ++ t.name) (written_attributes t.attributes) b1
    (good_map Attribute meets_attribute written_attribute good_attribute t.attributes n.1) in
    good_append (written_tag t) mark
    (good_append (codes "<" ++ t.name ++ written_attributes t.attributes) t.space b2 (good_blank t.space s.1)) m

good_comment : (cs : List ℕ) → is_comment_text cs ≡ true → Good (codes "<!--" ++ cs ++ codes "-->")
unfolding is_char in_ranges
good_comment cs h = three (codes "<!--") cs (codes "-->") refl (and_parts (list_all is_char cs) _ h).0 refl

good_cdata : (cs : List ℕ) → Good cs → Good (codes "<![CDATA[" ++ cs ++ codes "]]>")
unfolding is_char in_ranges
good_cdata cs h = three (codes "<![CDATA[") cs (codes "]]>") refl h refl

good_passed : (cs : List ℕ) → Good cs → Good (codes "<?" ++ cs ++ codes "?>")
unfolding is_char in_ranges
good_passed cs h = three (codes "<?") cs (codes "?>") refl h refl

good_instruction : (i : Instruction) → meets_instruction i ≡ true → Good (codes "<?" ++ i.target ++ i.space ++ i.content ++ codes "?>")
unfolding is_char in_ranges
good_instruction i h =
    let a = and_parts _ (not (is_nil i.space) || is_nil i.content) h in
    let b = and_parts _ (not (begins_with_space i.content)) a.0 in
    let c = and_parts _ (lacks (codes "?>") i.content) b.0 in
    let d = and_parts _ (list_all is_char i.content) c.0 in
    let e = and_parts _ (is_blank i.space) d.0 in
    let f = and_parts (is_name i.target) _ e.0 in
    let g1 : Good (codes "<?" ++ i.target) = good_append (codes "<?") i.target refl (good_name i.target f.0) in
    let g2 : Good (codes "<?" ++ i.target ++ i.space) = good_append (codes "<?" ++ i.target) i.space g1 (good_blank i.space e.1) in
    let g3 : Good (codes "<?" ++ i.target ++ i.space ++ i.content) = good_append (codes "<?" ++ i.target ++ i.space) i.content g2 d.1 in
    good_append (codes "<?" ++ i.target ++ i.space ++ i.content) (codes "?>") g3 refl

good_option : (name : List ℕ) (test : List ℕ → Bool) (o : Option Attribute) → meets_part_if_there name test o ≡ true →
    Good (written_option o)
good_option name test None h = refl
good_option name test (Some a) h =
    good_attribute a (and_parts (meets_attribute a) _ (and_parts (meets_attribute a && bytes_eq a.name name) _ h).0).0

good_declaration : (d : Declaration) → meets_declaration d ≡ true → Good (written_leaf (declaration d))
unfolding is_char in_ranges
good_declaration d h =
    let s = and_parts _ (is_blank d.space) h in
    let t = and_parts _ (meets_part_if_there (codes "standalone") is_yes_or_no d.standalone) s.0 in
    let e = and_parts (meets_part (codes "version") is_version d.version)
    (meets_part_if_there (codes "encoding") is_encoding_name d.encoding) t.0 in
    let v = and_parts (meets_attribute d.version) _
    (and_parts (meets_attribute d.version && bytes_eq d.version.name (codes "version")) _ e.0).0 in
    let b1 : Good (codes "<?xml" ++ written_attribute d.version) =
    good_append (codes "<?xml") (written_attribute d.version) refl (good_attribute d.version v.0) in
    let b2 : Good (codes "<?xml" ++ written_attribute d.version ++ written_option d.encoding) =
    good_append (codes "<?xml" ++ written_attribute d.version) (written_option d.encoding) b1
    (good_option (codes "encoding") is_encoding_name d.encoding e.1) in
    let b3 : Good (codes "<?xml" ++ written_attribute d.version ++ written_option d.encoding ++ written_option d.standalone) =
    good_append (codes "<?xml" ++ written_attribute d.version ++ written_option d.encoding) (written_option d.standalone) b2
    (good_option (codes "standalone") is_yes_or_no d.standalone t.1) in
    let b4 = good_append
    (codes "<?xml" ++ written_attribute d.version ++ written_option d.encoding ++ written_option d.standalone) d.space b3
    (good_blank d.space s.1) in
    good_append (codes "<?xml" ++ written_attribute d.version ++ written_option d.encoding ++ written_option d.standalone ++ d.space)
    (codes "?>") b4 refl

good_quoted : (q : Quote) (cs : List ℕ) → meets_quoted q cs ≡ true → Good (in_quotes q cs)
good_quoted q cs h =
    let inner : Good cs = good_by (λ c. is_char c && not (c == quote_char q)) (λ c e. (and_parts (is_char c) _ e).0) cs h in
    good_append (quote_char q ∷ cs) (quote_char q ∷ []) (good_append (quote_char q ∷ []) cs (good_quote q) inner) (good_quote q)

good_inner : (us : List SubsetUnit) → meets_inner us ≡ true → Good (flat_map written_inner us)
good_inner [] h = refl
good_inner (SubsetUnit.comment cs ∷ us) h = let q =
    and_parts (is_comment_text cs) (meets_inner us) h in good_append (codes "<!--" ++ cs ++ codes "-->") (flat_map written_inner us)
    (good_comment cs q.0) (good_inner us q.1)
good_inner (SubsetUnit.instruction cs ∷ us) h =
    let q = and_parts (list_all is_char cs && lacks (codes "?>") cs) (meets_inner us) h in good_append (codes "<?" ++ cs ++ codes "?>")
    (flat_map written_inner us) (good_passed cs (and_parts (list_all is_char cs) _ q.0).0) (good_inner us q.1)
good_inner (SubsetUnit.quoted q cs ∷ us) h = let r =
    and_parts (meets_quoted q cs) (meets_inner us) h in good_append (in_quotes q cs) (flat_map written_inner us) (good_quoted q cs r.0)
    (good_inner us r.1)
good_inner (SubsetUnit.char c ∷ us) h =
    let q = and_parts _ (meets_inner us) h in
    let r = and_parts _ (not (begins (codes "<?") (c ∷ flat_map written_inner us))) q.0 in
    let s = and_parts _ (not (begins (codes "<!--") (c ∷ flat_map written_inner us))) r.0 in
    and_from _ _ (and_parts (is_char c) _ s.0).0 (good_inner us q.1)

good_unit : (u : DoctypeUnit) → meets_unit u ≡ true → Good (written_unit u)
unfolding is_char in_ranges
good_unit (DoctypeUnit.quoted q cs) h = good_quoted q cs h
good_unit (DoctypeUnit.char c) h = and_from _ _ (and_parts (is_char c) _ h).0 refl
good_unit (DoctypeUnit.subset us) h = three (codes "[") (flat_map written_inner us) (codes "]") refl (good_inner us h) refl

good_doctype : (d : Doctype) → meets_doctype d ≡ true → Good (written_leaf (doctype d))
unfolding is_char in_ranges
good_doctype d h =
    let o = and_parts _ (has_one_subset d.units) h in
    let u = and_parts _ (list_all meets_unit d.units) o.0 in
    let b = and_parts _ (not (begins_with_name_char (written_units d.units))) u.0 in
    let n = and_parts (is_white d.space) (is_name d.name) b.0 in
    let b1 : Good (codes "<!DOCTYPE" ++ d.space) = good_append (codes "<!DOCTYPE") d.space refl (good_white d.space n.0) in
    let b2 : Good (codes "<!DOCTYPE" ++ d.space ++ d.name) =
    good_append (codes "<!DOCTYPE" ++ d.space) d.name b1 (good_name d.name n.1) in
    let b3 : Good (codes "<!DOCTYPE" ++ d.space ++ d.name ++ written_units d.units) =
    good_append (codes "<!DOCTYPE" ++ d.space ++ d.name) (written_units d.units) b2
    (good_map DoctypeUnit meets_unit written_unit good_unit d.units u.1) in
    good_append (codes "<!DOCTYPE" ++ d.space ++ d.name ++ written_units d.units) (codes ">") b3 refl

good_end : (name space : List ℕ) → is_name name ≡ true → is_blank space ≡ true → Good (written (end_tag name space))
unfolding is_char in_ranges
good_end name space n s =
    let b1 : Good (codes "</" ++ name) = good_append (codes "</") name refl (good_name name n) in
    let b2 : Good (codes "</" ++ name ++ space) = good_append (codes "</" ++ name) space b1 (good_blank space s) in
    good_append (codes "</" ++ name ++ space) (codes ">") b2 refl

good_close : Good (codes ">")
unfolding is_char in_ranges
good_close = refl

good_empty : Good (codes "/>")
unfolding is_char in_ranges
good_empty = refl

-- the law: what is written of an item that meets its row are Chars
pub good_item : (i : Item) → meets i ≡ true → Good (written i)
unfolding meets
good_item (leaf (text ps)) h = let q = and_parts _ (lacks (codes "]]>") (written_pieces ps)) h in good_pieces (λ c. false) ps
    (and_parts (not (is_nil (written_pieces ps))) _ q.0).1
good_item (leaf (cdata cs)) h = good_cdata cs (and_parts (list_all is_char cs) _ h).0
good_item (leaf (Leaf.comment cs)) h = good_comment cs h
good_item (leaf (Leaf.instruction i)) h = good_instruction i h
good_item (leaf (declaration d)) h = good_declaration d h
good_item (leaf (doctype d)) h = good_doctype d h
good_item (start_tag t) h = good_tag t (codes ">") good_close h
good_item (empty_tag t) h = good_tag t (codes "/>") good_empty h
good_item (end_tag name space) h = let q = and_parts (is_name name) (is_blank space) h in good_end name space q.0 q.1
