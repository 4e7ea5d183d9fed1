-- The parts of the XML declaration, by bytes.
use Rattle.std.proofs.Common.{◌≡◌, ℕ, ◌+◌, ◌-◌, ◌<◌, Bool, true, false, inl, inr, cond, List, [], ◌∷◌, ◌++◌, length, take, drop, get_or, Option, Some, None, refl, sym, ap, ◌∙◌, arith}
use Rattle.std.specs.Prelude.{codes, ◌==◌, ◌&&◌, not, option_map, option_and_then, option_to_list, bytes_eq, nat_lt, nat_le}
use Rattle.std.specs.Str.{IsUtf8, chars}
use Rattle.std.specs.List.{list_all}
use Rattle.std.specs.Char.{is_ascii_digit}
use lib.Utf8.{encode, encodes}
use Rattle.std.proofs.lemmas.Slice.Eq.{bytes_eq-Decides}
use Rattle.std.proofs.lemmas.Str.{encodes-chars, encode_ascii, char_from_byte}
use Rattle.std.proofs.lemmas.List.{length-append}
use Rattle.std.proofs.lemmas.Bool.{cases_Bool, false≢true, and_parts, or_cases, ltb-true, leb-true, lt-ltb, le-ltb, eqb-false, false_from_ne_true}
use Rattle.xml_model.specs.Chars.{size, is_space}
use Rattle.xml_model.specs.Items.{Attribute, Declaration, Item, leaf, Leaf, written, spelling, written_pieces, written_attribute, written_attributes, written_option, is_nil, is_letter, is_version, is_encoding_name, is_yes_or_no}
use Rattle.xml_model.specs.Records.{declaration_attributes}
use Rattle.xml_chars.specs.Readers.{Reader, skip, word, mapped}
use Rattle.xml_chars.specs.Reading.{read_name, read_space}
use Rattle.xml_chars.proofs.Readers.{skip_some, skip_none, word_reads}
use Rattle.xml_chars.proofs.NameLaws.{space_reads}
use Rattle.xml_chars.proofs.NumberLemmas.{ascii_chars}
use Rattle.xml_chars.proofs.Points.{encode_pos, Cut, cut_of}
use Rattle.xml_chars.proofs.HoldLemmas.{size-append}
use Rattle.xml_items.specs.Reading.{read_attribute, is_part, read_part, is_name_read, begins_part, read_option_by, read_option, read_declaration}
use Rattle.xml_items.specs.Suffixes.{Suffixes, suffixes, suffixes_seen}
use Rattle.xml_items.specs.declared.tags.AttributeText.{AttributeText}
use Rattle.std.proofs.lemmas.Option.{same_Some}
use Rattle.std.specs.List.{prefix_len}
use Rattle.xml_chars.proofs.Ranges.{in_range, in_none}
use Rattle.xml_chars.proofs.ReferenceLemmas.{word_none}
use Rattle.xml_items.specs.Parts.{read_named, value_text, is_encoding_char}
use Rattle.xml_items.specs.declared.ItemKind.TheVariants as kinds
use Rattle.xml_items.proofs.StepLemmas.{suffixes_some, suffixes_none}
use Rattle.xml_items.proofs.DeclarationLaws.{part_reads, option_reads, declaration_reads}
use Rattle.xml_items.proofs.MarkSpans.{nil_is, nil_size}
use Rattle.xml_items.specs.Counting.{with_count}
use Rattle.xml_items.proofs.CountLemmas.{counts, counted_some}
use Rattle.xml_items.proofs.TagLaws.{attribute_pos}
use Rattle.xml_items.proofs.SpanLemmas.{size_of, spelled, size_xml, item_by, same_item}
use Rattle.xml_chars.proofs.HoldLemmas.{size_nil}

-- ---- tests of ASCII by bytes

abbrev low_word : List ℕ → Type 0
low_word w = list_all (λ b. nat_lt b 128) w ≡ true

word_low : (w : List ℕ) → low_word w → chars w ≡ w
word_low w h = ascii_chars (λ b. nat_lt b 128) (λ c k. ltb-true c 128 k) w h

pub same_word : (bs w : List ℕ) → IsUtf8 bs → low_word w → bytes_eq bs w ≡ bytes_eq (chars bs) w
same_word bs w u h = elim (cases_Bool (bytes_eq bs w)) [
  | inl t ↦
      let e : bs ≡ w = (bytes_eq-Decides bs w).0 t in
      let f : chars bs ≡ w = ap chars e ∙ word_low w h in
      t ∙ sym ((bytes_eq-Decides (chars bs) w).1 f)
  | inr f ↦ f ∙ sym (false_from_ne_true _ (λ t.
      let e : chars bs ≡ w = (bytes_eq-Decides (chars bs) w).0 t in
      let g : bs ≡ w = sym (encodes-chars bs u) ∙ ap encodes (e ∙ sym (word_low w h)) ∙ encoded w h in
      false≢true (sym f ∙ (bytes_eq-Decides bs w).1 g)))
]
  where
    low_encodes : (w : List ℕ) → low_word w → encodes w ≡ w
    low_encodes [] h = refl
    low_encodes (b ∷ w) h =
        let q = and_parts (nat_lt b 128) (list_all (λ b. nat_lt b 128) w) h in
        ap (λ (l : List ℕ). l ++ encodes w) (encode_ascii b (ltb-true b 128 q.0)) ∙ ap (λ (l : List ℕ). b ∷ l) (low_encodes w q.1)

    encoded : (w : List ℕ) → low_word w → encodes (chars w) ≡ w
    encoded w h = ap encodes (word_low w h) ∙ low_encodes w h

-- the first byte of a character that is not ASCII fails
first_fails : (p : ℕ → Bool) → ((b : ℕ) → p b ≡ true → b < 128) → (c : ℕ) (bs : List ℕ) → p c ≡ false → p (get_or (encode c ++ bs) 0 0) ≡ false
first_fails p low c bs f = false_from_ne_true _ (λ t.
    let lt : 0 < length (encode c ++ bs) = omega (arith, length-append (encode c) bs, encode_pos c) in
    let same : c ≡ get_or (encode c ++ bs) 0 0 = char_from_byte (encode c ++ bs) bs c refl (low _ t) lt in
    false≢true (sym f ∙ ap p same ∙ t))

all_first : (p : ℕ → Bool) (xs : List ℕ) → 0 < length xs → p (get_or xs 0 0) ≡ false → list_all p xs ≡ false
all_first p [] lt h = absurd (omega arith)
all_first p (x ∷ xs) lt h = rw h refl

pub all_bytes : (p : ℕ → Bool) → ((b : ℕ) → p b ≡ true → b < 128) → (cs : List ℕ) → list_all p (encodes cs) ≡ list_all p cs
all_bytes p low [] = refl
all_bytes p low (c ∷ cs) = elim (cases_Bool (p c)) [
  | inl t ↦ ap (λ (l : List ℕ). list_all p (l ++ encodes cs)) (encode_ascii c (low c t)) ∙ ap (λ (b : Bool). p c && b) (all_bytes p low cs)
  | inr f ↦ all_first p (encode c ++ encodes cs) (omega (arith, length-append (encode c) (encodes cs), encode_pos c)) (first_fails p low c (encodes cs) f) ∙ sym (ap (λ (b : Bool). b && list_all p cs) f)
]

pub digit_low : (b : ℕ) → is_ascii_digit b ≡ true → b < 128
digit_low b h = omega (arith, leb-true b 57 (and_parts (nat_le 48 b) (nat_le b 57) h).1)

pub some_digits : (bs hay : List ℕ) (b e : Bool) → IsUtf8 bs → hay ≡ bs → e ≡ (length bs == 0) → e ≡ false → b ≡ list_all is_ascii_digit hay → b ≡ (not (is_nil (chars bs)) && list_all is_ascii_digit (chars bs))
some_digits bs hay b e u h z f is =
    let some : is_nil (chars bs) ≡ false = nil_is bs u ∙ sym z ∙ f in
    let same : list_all is_ascii_digit bs ≡ list_all is_ascii_digit (chars bs) = ap (list_all is_ascii_digit) (sym (encodes-chars bs u)) ∙ all_bytes is_ascii_digit digit_low (chars bs) in
    is ∙ ap (list_all is_ascii_digit) h ∙ same ∙ sym (ap (λ (x : Bool). not x && list_all is_ascii_digit (chars bs)) some)

pub no_digits : (bs : List ℕ) (e : Bool) → IsUtf8 bs → e ≡ (length bs == 0) → e ≡ true → (not (is_nil (chars bs)) && list_all is_ascii_digit (chars bs)) ≡ false
no_digits bs e u z t = ap (λ (x : Bool). not x && list_all is_ascii_digit (chars bs)) (nil_is bs u ∙ sym z ∙ t)

pub version_yes : (s r : List ℕ) → word (codes "1.") s ≡ Some (tt, r) → is_version s ≡ (not (is_nil r) && list_all is_ascii_digit r)
version_yes s r e = ap is_version ((word_reads (codes "1.")).takes s tt r e).0

pub version_no : (s : List ℕ) → word (codes "1.") s ≡ None → is_version s ≡ false
version_no s e = ap (λ (b : Bool). b && not (is_nil (drop 2 s)) && list_all is_ascii_digit (drop 2 s)) (word_none (codes "1.") s e)

pub letter_low : (b : ℕ) → is_letter b ≡ true → b < 128
letter_low b h = elim (in_range 65 90 b _ h) [
  | inl q ↦ omega (arith, q.1)
  | inr k ↦ elim (in_range 97 122 b _ k) [ inl q ↦ omega (arith, q.1) | inr n ↦ absurd (in_none b n) ]
]

encoding_char_low : (b : ℕ) → is_encoding_char b ≡ true → b < 128
encoding_char_low b h = elim (or_cases (is_letter b) _ h) [
  | inl k ↦ letter_low b k
  | inr k ↦ elim (in_range 48 57 b _ k) [
    | inl q ↦ omega (arith, q.1)
    | inr k ↦ elim (in_range 45 46 b _ k) [
      | inl q ↦ omega (arith, q.1)
      | inr k ↦ elim (in_range 95 95 b _ k) [ inl q ↦ omega (arith, q.1) | inr n ↦ absurd (in_none b n) ]
    ]
  ]
]

encoding_first : (xs : List ℕ) → 0 < length xs → is_letter (get_or xs 0 0) ≡ false → is_encoding_name xs ≡ false
encoding_first [] lt h = absurd (omega arith)
encoding_first (x ∷ xs) lt h = ap (λ (b : Bool). b && list_all is_encoding_char xs) h

encoding_encodes : (cs : List ℕ) → is_encoding_name (encodes cs) ≡ is_encoding_name cs
encoding_encodes [] = refl
encoding_encodes (c ∷ cs) = elim (cases_Bool (is_letter c)) [
  | inl t ↦ ap (λ (l : List ℕ). is_encoding_name (l ++ encodes cs)) (encode_ascii c (letter_low c t)) ∙ ap (λ (b : Bool). is_letter c && b) (all_bytes is_encoding_char encoding_char_low cs)
  | inr f ↦ encoding_first (encode c ++ encodes cs) (omega (arith, length-append (encode c) (encodes cs), encode_pos c)) (first_fails is_letter letter_low c (encodes cs) f) ∙ sym (ap (λ (b : Bool). b && list_all is_encoding_char cs) f)
]

pub encoding_bytes : (bs : List ℕ) → IsUtf8 bs → is_encoding_name bs ≡ is_encoding_name (chars bs)
encoding_bytes bs u = ap is_encoding_name (sym (encodes-chars bs u)) ∙ encoding_encodes (chars bs)

-- ---- one part

pub part_begins : (name s sp r : List ℕ) → read_space s ≡ Some (sp, r) → begins_part name s ≡ is_name_read name (read_name r)
unfolding begins_part read_space
part_begins name s sp r e =
    let same = same_Some (take (prefix_len is_space s) s, drop (prefix_len is_space s) s) (sp, r) e in
    ap (λ (l : List ℕ). is_name_read name (read_name l)) (ap (λ (z : List ℕ × List ℕ). z.1) same)

pub record PartSeen (s : List ℕ) (p : AttributeText) : Type 0 where
  pub attribute : Attribute
  pub read : read_attribute s ≡ Some (attribute, chars p.rest.now)
  pub name_is : chars p.after_space.now ≡ attribute.name ++ chars p.after_name.now
  pub value_is : chars p.value.now ≡ written_pieces attribute.value ++ chars p.after_value.now

pub part_seen : (s : List ℕ) (p : AttributeText) → option_map suffixes (read_attribute s) ≡ Some (suffixes_seen p) → PartSeen s p
part_seen s p e =
    let m = suffixes_some (read_attribute s) (suffixes_seen p) e in
    record {
      attribute = m.0;
      read = m.1;
      name_is = sym (ap (λ (f : Suffixes). f.after_space) m.2) ∙ ap (λ (l : List ℕ). m.0.name ++ l) (ap (λ (f : Suffixes). f.after_name) m.2);
      value_is = sym (ap (λ (f : Suffixes). f.value) m.2) ∙ ap (λ (l : List ℕ). written_pieces m.0.value ++ l) (ap (λ (f : Suffixes). f.after_value) m.2);
    }

pub part_cut_name : (s : List ℕ) (p : AttributeText) → (x : PartSeen s p) → IsUtf8 p.after_space.now → IsUtf8 p.after_name.now → Cut p.after_space.now p.after_name.now x.attribute.name
part_cut_name s p x u v = cut_of p.after_space.now p.after_name.now x.attribute.name u v x.name_is

pub part_cut_value : (s : List ℕ) (p : AttributeText) → (x : PartSeen s p) → IsUtf8 p.value.now → IsUtf8 p.after_value.now → Cut p.value.now p.after_value.now (written_pieces x.attribute.value)
part_cut_value s p x u v = cut_of p.value.now p.after_value.now (written_pieces x.attribute.value) u v x.value_is

pub named_none : (name s : List ℕ) → option_map suffixes (read_attribute s) ≡ None → mapped value_text (read_named name) s ≡ None
named_none name s e = let n = suffixes_none (read_attribute s) e in rw n refl

pub named_other : (name s : List ℕ) (p : AttributeText) → (x : PartSeen s p) → bytes_eq x.attribute.name name ≡ false → mapped value_text (read_named name) s ≡ None
named_other name s p x f = named_other_by name s x.attribute (chars p.rest.now) x.read f
  where
    named_other_by : (name s : List ℕ) (a : Attribute) (r : List ℕ) → read_attribute s ≡ Some (a, r) → bytes_eq a.name name ≡ false → mapped value_text (read_named name) s ≡ None
    named_other_by name s a r e f = rw (e, f) refl

pub named_yes : (name s v : List ℕ) (p : AttributeText) → (x : PartSeen s p) → bytes_eq x.attribute.name name ≡ true → v ≡ written_pieces x.attribute.value → mapped value_text (read_named name) s ≡ Some (v, chars p.rest.now)
named_yes name s v p x t i = named_by name s v x.attribute (chars p.rest.now) x.read t i
  where
    named_by : (name s v : List ℕ) (a : Attribute) (r : List ℕ) → read_attribute s ≡ Some (a, r) → bytes_eq a.name name ≡ true → v ≡ written_pieces a.value → mapped value_text (read_named name) s ≡ Some (v, r)
    named_by name s v a r e t i = rw (e, t, i) refl

-- ---- a part with its test

named_of : (name : List ℕ) (o : Option (Attribute × List ℕ)) (test : List ℕ → Bool) → option_map (λ (p : Attribute × List ℕ). let q : List ℕ × List ℕ = (value_text p.0, p.1) in q) (option_and_then (λ (p : Attribute × List ℕ). cond (bytes_eq p.0.name name) (Some p) None) o) ≡ None → option_and_then (λ (p : Attribute × List ℕ). cond (is_part name test p.0) (Some p) None) o ≡ None
named_of name None test e = refl
named_of name (Some p) test e = elim (cases_Bool (bytes_eq p.0.name name)) [
  | inl t ↦ absurd (let n : ◌≡◌ {A = Option (List ℕ × List ℕ)} (Some (value_text p.0, p.1)) None = rw t at e in cc)
  | inr f ↦ rw f refl
]

pub part_none : (name : List ℕ) (test : List ℕ → Bool) (s : List ℕ) → mapped value_text (read_named name) s ≡ None → skip (read_part name test) s ≡ None
unfolding read_part
part_none name test s e = ap (option_map (λ (p : Attribute × List ℕ). p.1)) (named_of name (read_attribute s) test e)

part_by : (name : List ℕ) (o : Option (Attribute × List ℕ)) (test : List ℕ → Bool) (v r : List ℕ) (b : Bool) → test v ≡ b → option_map (λ (p : Attribute × List ℕ). let q : List ℕ × List ℕ = (value_text p.0, p.1) in q) (option_and_then (λ (p : Attribute × List ℕ). cond (bytes_eq p.0.name name) (Some p) None) o) ≡ Some (v, r)
    → option_map (λ (p : Attribute × List ℕ). p.1) (option_and_then (λ (p : Attribute × List ℕ). cond (is_part name test p.0) (Some p) None) o) ≡ cond b (Some r) None
part_by name None test v r b t e = absurd (cc)
part_by name (Some p) test v r b t e = elim (cases_Bool (bytes_eq p.0.name name)) [
  | inl y ↦
      let n : ◌≡◌ {A = Option (List ℕ × List ℕ)} (Some (value_text p.0, p.1)) (Some (v, r)) = rw y at e in
      let same = same_Some (value_text p.0, p.1) (v, r) n in
      let k : test (written_pieces p.0.value) ≡ b = ap test (ap (λ (z : List ℕ × List ℕ). z.0) same) ∙ t in
      let w : p.1 ≡ r = ap (λ (z : List ℕ × List ℕ). z.1) same in
      rw (y, k) (last b p.1 r w)
  | inr f ↦ absurd (let n : ◌≡◌ {A = Option (List ℕ × List ℕ)} None (Some (v, r)) = rw f at e in cc)
]
  where
    last : (b : Bool) (x r : List ℕ) → x ≡ r → option_map (λ (p : Attribute × List ℕ). p.1) (cond b (Some (p.0, x)) None) ≡ cond b (Some r) None
    last true x r w = ap Some w
    last false x r w = refl

pub part_yes : (name : List ℕ) (test : List ℕ → Bool) (s v r : List ℕ) → mapped value_text (read_named name) s ≡ Some (v, r) → test v ≡ true → skip (read_part name test) s ≡ Some r
unfolding read_part
part_yes name test s v r e t = part_by name (read_attribute s) test v r true t e

pub part_no : (name : List ℕ) (test : List ℕ → Bool) (s v r : List ℕ) → mapped value_text (read_named name) s ≡ Some (v, r) → test v ≡ false → skip (read_part name test) s ≡ None
unfolding read_part
part_no name test s v r e t = part_by name (read_attribute s) test v r false t e

pub option_none : (name : List ℕ) (test : List ℕ → Bool) (s : List ℕ) → begins_part name s ≡ false → skip (read_option name test) s ≡ Some s
unfolding read_option
option_none name test s h = ap (λ (b : Bool). skip (read_option_by name test b) s) h

pub option_some : (name : List ℕ) (test : List ℕ → Bool) (s : List ℕ) → begins_part name s ≡ true → skip (read_option name test) s ≡ skip (read_part name test) s
unfolding read_option
option_some name test s h = ap (λ (b : Bool). skip (read_option_by name test b) s) h ∙ go (read_part name test s)
  where
    go : (o : Option (Attribute × List ℕ)) → option_map (λ (p : Option Attribute × List ℕ). p.1) (option_map (λ (p : Attribute × List ℕ). let q : Option Attribute × List ℕ = (Some p.0, p.1) in q) o) ≡ option_map (λ (p : Attribute × List ℕ). p.1) o
    go None = refl
    go (Some p) = refl

-- ---- the declaration

abbrev read_encoding : Reader (Option Attribute)
read_encoding = read_option (codes "encoding") is_encoding_name

abbrev read_standalone : Reader (Option Attribute)
read_standalone = read_option (codes "standalone") is_yes_or_no

abbrev read_version : Reader Attribute
read_version = read_part (codes "version") is_version

pub declaration_1 : (at : ℕ) (s : List ℕ) → word (codes "<?xml") s ≡ None → counts at (read_declaration s) ≡ None
unfolding read_declaration
declaration_1 at s e1 = rw e1 refl

pub declaration_2 : (at : ℕ) (s a : List ℕ) → word (codes "<?xml") s ≡ Some (tt, a) → None ≡ skip read_version a → counts at (read_declaration s) ≡ None
unfolding read_declaration
declaration_2 at s a e1 e2 = let n = skip_none read_version a (sym e2) in rw (e1, n) refl

pub declaration_3 : (at : ℕ) (s a b : List ℕ) → word (codes "<?xml") s ≡ Some (tt, a) → Some b ≡ skip read_version a → None ≡ skip read_encoding b → counts at (read_declaration s) ≡ None
unfolding read_declaration
declaration_3 at s a b e1 e2 e3 =
    let x = (skip_some read_version a b (sym e2)).1 in
    let n = skip_none read_encoding b (sym e3) in
    rw (e1, x, n) refl

pub declaration_4 : (at : ℕ) (s a b c : List ℕ) → word (codes "<?xml") s ≡ Some (tt, a) → Some b ≡ skip read_version a → Some c ≡ skip read_encoding b → None ≡ skip read_standalone c → counts at (read_declaration s) ≡ None
unfolding read_declaration
declaration_4 at s a b c e1 e2 e3 e4 =
    let x = (skip_some read_version a b (sym e2)).1 in
    let y = (skip_some read_encoding b c (sym e3)).1 in
    let n = skip_none read_standalone c (sym e4) in
    rw (e1, x, y, n) refl

pub declaration_5 : (at : ℕ) (s a b c d sp e : List ℕ) → word (codes "<?xml") s ≡ Some (tt, a) → Some b ≡ skip read_version a → Some c ≡ skip read_encoding b → Some d ≡ skip read_standalone c → read_space d ≡ Some (sp, e) → word (codes "?>") e ≡ None → counts at (read_declaration s) ≡ None
unfolding read_declaration
declaration_5 at s a b c d sp e e1 e2 e3 e4 e5 e6 =
    let x = (skip_some read_version a b (sym e2)).1 in
    let y = (skip_some read_encoding b c (sym e3)).1 in
    let z = (skip_some read_standalone c d (sym e4)).1 in
    rw (e1, x, y, z, e5, e6) refl

declaration_read : (s a b c d sp e f : List ℕ) (v : Attribute) (en st : Option Attribute) → word (codes "<?xml") s ≡ Some (tt, a) → read_version a ≡ Some (v, b) → read_encoding b ≡ Some (en, c) → read_standalone c ≡ Some (st, d) → read_space d ≡ Some (sp, e) → word (codes "?>") e ≡ Some (tt, f)
    → read_declaration s ≡ Some (leaf (Leaf.declaration record { version = v; encoding = en; standalone = st; space = sp }), f)
unfolding read_declaration
declaration_read s a b c d sp e f v en st e1 e2 e3 e4 e5 e6 = rw (e1, e2, e3, e4, e5, e6) refl

declared_size : (v : Attribute) (en st : Option Attribute) (sp : List ℕ) → size (written_attributes (declaration_attributes record { version = v; encoding = en; standalone = st; space = sp })) ≡ size (written_attribute v) + size (written_option en) + size (written_option st)
declared_size v None None sp = omega (arith, size-append (written_attribute v) [], size_nil)
declared_size v (Some a) None sp = omega (arith, size-append (written_attribute v) (written_attribute a ++ []), size-append (written_attribute a) [], size_nil)
declared_size v None (Some b) sp = omega (arith, size-append (written_attribute v) (written_attribute b ++ []), size-append (written_attribute b) [], size_nil)
declared_size v (Some a) (Some b) sp = omega (arith, size-append (written_attribute v) (written_attribute a ++ (written_attribute b ++ [])), size-append (written_attribute a) (written_attribute b ++ []), size-append (written_attribute b) [], size_nil)

option_part : (b c : List ℕ) (o : Option Attribute) → length b ≡ size (written_option o) + length c → cond (nat_lt (length c) (length b)) 1 0 ≡ length (option_to_list o)
option_part b c None e = ap (λ (t : Bool). cond t 1 0) (le-ltb (length c) (length b) (omega (arith, size_nil)))
option_part b c (Some a) e =
    let some : is_nil (written_attribute a) ≡ false = not_nil (written_attribute a) (attribute_pos a) in
    let pos : (size (written_attribute a) == 0) ≡ false = sym (nil_size (written_attribute a)) ∙ some in
    ap (λ (t : Bool). cond t 1 0) (lt-ltb (length c) (length b) (omega (arith, eqb-false (size (written_attribute a)) 0 pos)))
  where
    not_nil : (w : List ℕ) → 0 < length w → is_nil w ≡ false
    not_nil [] h = absurd (omega arith)
    not_nil (c ∷ w) h = refl

parts_number : (b c d : List ℕ) (v : Attribute) (en st : Option Attribute) (sp : List ℕ) → length b ≡ size (written_option en) + length c → length c ≡ size (written_option st) + length d
    → 1 + (cond (nat_lt (length c) (length b)) 1 0 + cond (nat_lt (length d) (length c)) 1 0) ≡ length (declaration_attributes record { version = v; encoding = en; standalone = st; space = sp })
parts_number b c d v en st sp e f =
    let n : cond (nat_lt (length c) (length b)) 1 0 ≡ length (option_to_list en) = option_part b c en e in
    let m : cond (nat_lt (length d) (length c)) 1 0 ≡ length (option_to_list st) = option_part c d st f in
    omega (arith, n, m, length-append (option_to_list en) (option_to_list st))

pub declaration_6 : (at : ℕ) (s a b c d sp e f : List ℕ) → IsUtf8 s → IsUtf8 a → IsUtf8 b → IsUtf8 c → IsUtf8 d → IsUtf8 e → IsUtf8 f → word (codes "<?xml") (chars s) ≡ Some (tt, chars a) → Some (chars b) ≡ skip read_version (chars a) → Some (chars c) ≡ skip read_encoding (chars b) → Some (chars d) ≡ skip read_standalone (chars c) → read_space (chars d) ≡ Some (sp, chars e) → word (codes "?>") (chars e) ≡ Some (tt, chars f)
    → Some (with_count (1 + (cond (nat_lt (length c) (length b)) 1 0 + cond (nat_lt (length d) (length c)) 1 0)) (item_by kinds.Declaration (at + (length s - length s)) (at + (length s - length f)) (at + (length s - length s)) (at + (length s - length s)) (at + (length s - length a)) (at + (length s - length e)))) ≡ counts at (read_declaration (chars s))
declaration_6 at s a b c d sp e f us ua ub uc ud ue uf e1 e2 e3 e4 e5 e6 =
    let x = skip_some read_version (chars a) (chars b) (sym e2) in
    let y = skip_some read_encoding (chars b) (chars c) (sym e3) in
    let z = skip_some read_standalone (chars c) (chars d) (sym e4) in
    let decl : Declaration = record { version = x.0; encoding = y.0; standalone = z.0; space = sp } in
    let i : Item = leaf (Leaf.declaration decl) in
    let read = declaration_read (chars s) (chars a) (chars b) (chars c) (chars d) sp (chars e) (chars f) x.0 y.0 z.0 e1 x.1 y.1 z.1 e5 e6 in
    let z1 : length s ≡ size (codes "<?xml") + length a = size_of s a (codes "<?xml") us ua ((word_reads (codes "<?xml")).takes (chars s) tt (chars a) e1).0 in
    let z2 : length a ≡ size (written_attribute x.0) + length b = size_of a b (written_attribute x.0) ua ub ((part_reads (codes "version") is_version).takes (chars a) x.0 (chars b) x.1).0 in
    let z3 : length b ≡ size (written_option y.0) + length c = size_of b c (written_option y.0) ub uc ((option_reads (codes "encoding") is_encoding_name).takes (chars b) y.0 (chars c) y.1).0 in
    let z4 : length c ≡ size (written_option z.0) + length d = size_of c d (written_option z.0) uc ud ((option_reads (codes "standalone") is_yes_or_no).takes (chars c) z.0 (chars d) z.1).0 in
    let z5 : length d ≡ size sp + length e = size_of d e sp ud ue (space_reads.takes (chars d) sp (chars e) e5).0 in
    let total : length s ≡ size (written i) + length f = size_of s f (written i) us uf (declaration_reads.takes (chars s) i (chars f) read).0 in
    counted_some at _ (read_declaration (chars s)) i (chars f) _ read
    (same_item kinds.Declaration _ _ _ _ _ _ at (at + length (spelling i)) at at (at + 5) (at + 5 + size (written_attributes (declaration_attributes decl) ++ sp))
    (omega arith) (omega (arith, spelled i)) (omega arith) (omega arith) (omega (arith, size_xml)) (omega (arith, size_xml, declared_size x.0 y.0 z.0 sp, size-append (written_attributes (declaration_attributes decl)) sp)))
    (parts_number b c d x.0 y.0 z.0 sp z3 z4)
