-- A tag begins with <, so its place is where a character begins.
use Rattle.std.proofs.Common.{◌≡◌, ℕ, ◌+◌, ◌<◌, true, List, [], ◌∷◌, ◌++◌, length, drop, refl, ap, sym, ◌∙◌, arith, get_or, eqb-true, lit<, add-zero}
use Rattle.std.specs.Prelude.{encode_utf8_all, ◌==◌, ◌&&◌}
use Rattle.std.specs.Str.{IsCharBoundary}
use Rattle.std.proofs.lemmas.List.{get_or-drop, length-drop}
use Rattle.std.proofs.lemmas.Bool.{and_parts, false≢true}
use Rattle.std.proofs.lemmas.Str.{IsCharBoundary-before_ascii, encode_ascii}
use Rattle.xml_model.specs.Chars.{begins}
use Rattle.xml_model.specs.Items.{Item, leaf, start_tag, empty_tag, end_tag, begins_at, meets, ends_well, spelling, written}
use Rattle.vtd_cursor.specs.Endings.{is_tag_item, HasTagAt}

-- where a list begins with a byte
head_there : (b : ℕ) (more text : List ℕ) → begins (b ∷ more) text ≡ true → (0 < length text) × (get_or text 0 0 ≡ b)
head_there b more [] h = absurd (false≢true h)
head_there b more (c ∷ text) h = (omega arith, sym (eqb-true b c (and_parts (b == c) _ h).0))

tag_head : (i : Item) → is_tag_item i ≡ true → (more : List ℕ) × (written i ≡ 60 ∷ more)
tag_head (leaf x) h = absurd (false≢true h)
tag_head (start_tag t) h = (_, refl)
tag_head (empty_tag t) h = (_, refl)
tag_head (end_tag name space) h = (_, refl)

tag_spelling : (i : Item) (more : List ℕ) → written i ≡ 60 ∷ more → spelling i ≡ 60 ∷ encode_utf8_all more
unfolding spelling
tag_spelling i more e = ap encode_utf8_all e ∙ ap (λ xs. xs ++ encode_utf8_all more) (encode_ascii 60 (lit< tt))

item_holds : (bytes : List ℕ) (at : ℕ) (i : Item) → begins_at bytes at i ≡ true → begins (spelling i) (drop at bytes) ≡ true
unfolding begins_at
item_holds bytes at i h = (and_parts (meets i) _ (and_parts (meets i && begins (spelling i) (drop at bytes)) _ (and_parts (meets i && begins (spelling i) (drop at bytes) && ends_well i (drop (at + length (spelling i)) bytes)) _ h).0).0).1

pub record TagPlace (bytes : List ℕ) (at : ℕ) : Type 0 where
  pub within : at < length bytes
  pub boundary : IsCharBoundary bytes at

pub tag_place : (bytes : List ℕ) (at : ℕ) → HasTagAt bytes at → TagPlace bytes at
tag_place bytes at h =
    let w = tag_head h.item h.tags in
    let holds : begins (60 ∷ encode_utf8_all w.0) (drop at bytes) ≡ true = ap (λ s. begins s (drop at bytes)) (sym (tag_spelling h.item w.0 w.1)) ∙ item_holds bytes at h.item h.begins in
    let t = head_there 60 (encode_utf8_all w.0) (drop at bytes) holds in
    let within : at < length bytes = omega (arith, t.0, length-drop at bytes) in
    let byte : get_or bytes at 0 ≡ 60 = ap (λ k. get_or bytes k 0) (sym (add-zero at)) ∙ sym (get_or-drop at bytes 0 0) ∙ t.1 in
    record { within = within; boundary = IsCharBoundary-before_ascii bytes at within (omega (arith, byte)) }
