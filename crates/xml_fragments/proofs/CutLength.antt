-- A cut element is no longer than its document: what it needs is before it, with white space before each.
use Rattle.std.proofs.Common.{◌≡◌, ℕ, ◌+◌, ◌≤◌, Bool, true, false, cond, List, [], ◌∷◌, ◌++◌, length, refl, ap, ◌∙◌, arith}
use Rattle.std.proofs.Common.{append_assoc, length-append}
use Rattle.std.specs.Prelude.{codes, filter, ◌&&◌, ◌==◌}
use Rattle.std.specs.List.{flat_map, list_all}
use lib.Utf8.{encode, encodes}
use Rattle.std.proofs.lemmas.Bool.{and_parts, false≢true}
use Rattle.std.proofs.lemmas.Str.{encodes-append, length-encode, len_utf8_bounds}
use Rattle.xml_model.specs.Chars.{size, is_name, is_blank, is_white}
use Rattle.xml_model.specs.Items.{Attribute, Tag, written_pieces, before_value, meets_attribute, meets_piece, quote_char, written_start}
use Rattle.xml_model.specs.Items.{written_attribute, written_attributes}
use Rattle.xml_model.specs.Nest.{Forest}
use Rattle.xml_model.specs.Records.{past_leaf, past_empty, past_start, past_element}
use Rattle.xml_nests.specs.Context.{Context, before, past_single, past_tag, past_whole, within, tags_in, place_in}
use Rattle.xml_nests.proofs.Bytes.{past_spelled}
use Rattle.xml_fragments.specs.Cut.{spaced, is_needed, needed}

size_nil : size [] ≡ 0
unfolding size
size_nil = refl

pub size_append : (xs ys : List ℕ) → size (xs ++ ys) ≡ size xs + size ys
unfolding size
size_append xs ys = ap length (encodes-append xs ys) ∙ length-append (encodes xs) (encodes ys)

some_white : (s : List ℕ) → is_white s ≡ true → 1 ≤ size s
unfolding is_white size
some_white [] h = absurd (false≢true h)
some_white (c ∷ s) h = let l = length-append (encode c) (encodes s) in omega (arith, l, length-encode c, len_utf8_bounds c)

-- an attribute with one space before it is no longer than with its own white space
spaced_size : (a : Attribute) → meets_attribute a ≡ true → size (written_attribute (spaced a)) ≤ size (written_attribute a)
unfolding size encode
spaced_size a h =
    let v = and_parts (is_white a.space && is_name a.name && is_blank a.left && is_blank a.right)
    (list_all (meets_piece (λ c. c == quote_char a.quote)) a.value) h in
    let r = and_parts (is_white a.space && is_name a.name && is_blank a.left) (is_blank a.right) v.0 in
    let l = and_parts (is_white a.space && is_name a.name) (is_blank a.left) r.0 in
    let n = and_parts (is_white a.space) (is_name a.name) l.0 in
    let w = some_white a.space n.0 in
    let one = own (codes " ") a in
    let two = own a.space a in
    omega (arith, w, one, two, space_size)
  where
    bare : Attribute → List ℕ
    bare a = written_attribute (record a { space = [] })

    own : (s : List ℕ) (a : Attribute) → size (written_attribute (record a { space = s })) ≡ size s + size (bare a)
    own s a = ap size (apart s (before_value a) (written_pieces a.value) (quote_char a.quote ∷ [])) ∙ size_append s (bare a)
      where
        apart : (s b v q : List ℕ) → ((s ++ b) ++ v) ++ q ≡ s ++ ((b ++ v) ++ q)
        apart s b v q = simp append_assoc refl

    space_size : size (codes " ") ≡ 1
    space_size = refl

-- ---- what is needed

abbrev pub spaced_all : List Attribute → List ℕ
spaced_all xs = flat_map (λ a. written_attribute (spaced a)) xs

spaced_append : (xs ys : List Attribute) → size (spaced_all (xs ++ ys)) ≡ size (spaced_all xs) + size (spaced_all ys)
spaced_append [] ys = omega (arith, size_nil)
spaced_append (x ∷ xs) ys =
    let a = size_append (written_attribute (spaced x)) (spaced_all (xs ++ ys)) in
    let b = size_append (written_attribute (spaced x)) (spaced_all xs) in
    omega (arith, a, b, spaced_append xs ys)

filter_size : (r : Attribute → Bool) (xs : List Attribute) → list_all meets_attribute xs ≡ true →
    size (spaced_all (filter r xs)) ≤ size (written_attributes xs)
filter_size r [] h = omega arith
filter_size r (x ∷ xs) h =
    let q = and_parts (meets_attribute x) (list_all meets_attribute xs) h in
    by (r x) x (filter r xs) (written_attributes xs) (spaced_size x q.0) (filter_size r xs q.1)
  where
    by : (b : Bool) (x : Attribute) (ys : List Attribute) (w : List ℕ) →
        size (written_attribute (spaced x)) ≤ size (written_attribute x) → size (spaced_all ys) ≤ size w →
        size (spaced_all (cond b (x ∷ ys) ys)) ≤ size (written_attribute x ++ w)
    by true x ys w h k =
        omega (arith, h, k, size_append (written_attribute (spaced x)) (spaced_all ys), size_append (written_attribute x) w)
    by false x ys w h k = omega (arith, k, size_append (written_attribute x) w)

-- the bytes of the attributes of tags
abbrev pub weight : List Tag → ℕ
weight [] = 0
weight (t ∷ tags) = size (written_attributes t.attributes) + weight tags

pub needed_size : (t : Tag) (inside : Forest) (tags nearer : List Tag) →
    list_all (λ u. list_all meets_attribute u.attributes) tags ≡ true →
    size (spaced_all (needed t inside nearer tags)) ≤ weight tags
needed_size t inside [] nearer h = omega (arith, size_nil)
needed_size t inside (u ∷ tags) nearer h =
    let q = and_parts (list_all meets_attribute u.attributes) (list_all (λ u. list_all meets_attribute u.attributes) tags) h in
    let r = is_needed t inside nearer in
    omega (
      arith,
      needed_size t inside tags (u ∷ nearer) q.1,
      filter_size r u.attributes q.0,
      spaced_append
          (needed t inside (u ∷ nearer) tags) (filter r u.attributes),
    )

-- the tags round a place are before it
start_size : (t : Tag) → size (written_attributes t.attributes) ≤ size (written_start t)
start_size t =
    let a = codes "<" ++ t.name in
    let b = written_attributes t.attributes in
    omega (arith, size_append a b, size_append (a ++ b) t.space, size_append ((a ++ b) ++ t.space) (codes ">"))

pub tags_weigh : (c : Context) (at : ℕ) (tags : List Tag) → weight (tags_in tags c) + at ≤ weight tags + place_in at c
tags_weigh (before rest) at tags = omega arith
tags_weigh (past_single x c) at tags = omega (arith, tags_weigh c (past_leaf at x) tags)
tags_weigh (past_tag t c) at tags = omega (arith, tags_weigh c (past_empty at t) tags)
tags_weigh (past_whole t inside space c) at tags =
    omega (arith, tags_weigh c (past_element at t inside space) tags, past_spelled (past_start at t) inside)
tags_weigh (within t c space f) at tags = omega (arith, tags_weigh c (past_start at t) (t ∷ tags), start_size t)
