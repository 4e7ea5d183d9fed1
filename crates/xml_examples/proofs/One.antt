-- At most one item begins at each place that a walk of <a>&x;</b> reaches: a start tag at 0, a text at 3, an end tag at 6, and none at 10.
use Rattle.std.proofs.Common.{◌≡◌, ℕ, ◌+◌, List, [], ◌∷◌, ◌++◌, refl, ap, ap₂, sym, ◌∙◌, subst, length, drop, codes, Bool, true, false, not, ◌&&◌, ◌==◌, eqb-true}
use Rattle.std.specs.List.{list_all}
use Rattle.std.proofs.lemmas.Bool.{false≢true, and_parts}
use Rattle.xml_model.specs.Chars.{begins, is_char, is_space, is_blank, is_white, is_name, is_name_start, is_name_char}
use Rattle.xml_model.specs.Items.{Piece, literal, entity, decimal, hexadecimal, Attribute, Tag, Leaf, Item, leaf, start_tag, empty_tag, end_tag, written, before_value, quote_char, written_pieces, written_attributes, meets, meets_piece, meets_attribute, meets_tag, ends_well, may_begin_at, first_place, begins_at, spelling}
use Rattle.xml_model.specs.Laws.{OneItem}
use Rattle.xml_model.proofs.Bridge.{OneFrom, spelling_some}
use Rattle.xml_examples.proofs.Parts.{opened, tag}
use Rattle.xml_examples.proofs.Stops.{is_ascii, ascii_prefix, no_prefix, row_of, literal_row, both, Row}

abbrev pub doc : List ℕ
doc = codes "<a>&x;</b>"

abbrev Shown : List ℕ → Item → Type 0
Shown text i = (meets i ≡ true) × (begins (written i) text ≡ true)

shown : (p : ℕ) (i : Item) → is_ascii (drop p doc) ≡ true → begins_at doc p i ≡ true → Shown (drop p doc) i
unfolding begins_at spelling
shown p i a h =
    let x = and_parts (meets i && begins (spelling i) (drop p doc) && ends_well i (drop (p + length (spelling i)) doc)) (may_begin_at i (first_place doc) p) h in
    let y = and_parts (meets i && begins (spelling i) (drop p doc)) (ends_well i (drop (p + length (spelling i)) doc)) x.0 in
    let z = and_parts (meets i) (begins (spelling i) (drop p doc)) y.0 in
    (z.0, (ascii_prefix (written i) (drop p doc) a z.1).1)

no_char : (test : ℕ → Bool) (c d : ℕ) → test d ≡ false → (c == d) ≡ true → test c ≡ true → ⊥
no_char test c d f e h = false≢true (sym f ∙ ap test (sym (eqb-true c d e)) ∙ h)

-- no text begins with <
no_text : (text : List ℕ) (ps : List Piece) → Row ps → begins (written_pieces ps) (60 ∷ text) ≡ true → ⊥
no_text text [] r h = false≢true r.some
no_text text (literal c ∷ ps) r h = both (c == 60) (and_parts (c == 60) _ h).0 (literal_row c ps r).0
no_text text (entity name ∷ ps) r h = false≢true h
no_text text (decimal digits ∷ ps) r h = false≢true h
no_text text (hexadecimal digits ∷ ps) r h = false≢true h

-- no name begins with /
no_slash : (name others space last text : List ℕ) → is_name name ≡ true → begins (name ++ others ++ space ++ last) (47 ∷ text) ≡ true → ⊥
unfolding opened
no_slash [] others space last text n h = false≢true n
no_slash (c ∷ name) others space last text n h = no_char is_name_start c 47 refl (and_parts (c == 47) _ h).0 (and_parts (is_name_start c) _ n).0

-- after a name is > alone: no attributes and no white space
abbrev Alone : List Attribute → List ℕ → Type 0
Alone others space = (others ≡ []) × (space ≡ [])

space_no : is_space 62 ≡ false
unfolding opened
space_no = refl

name_no : is_name_char 62 ≡ false
unfolding opened
name_no = refl

semicolon_no : is_name_char 59 ≡ false
unfolding opened
semicolon_no = refl

no_white : (space name value quote others blank last text : List ℕ) → is_white space ≡ true → begins (space ++ name ++ value ++ quote ++ others ++ blank ++ last) (62 ∷ text) ≡ true → ⊥
unfolding is_white
no_white [] name value quote others blank last text w h = false≢true w
no_white (c ∷ space) name value quote others blank last text w h = no_char is_space c 62 space_no (and_parts (c == 62) _ h).0 (and_parts (is_space c) _ w).0

tag_name : (t : Tag) → meets_tag t ≡ true → is_name t.name ≡ true
tag_name t m = (and_parts (is_name t.name) _ (and_parts _ _ m).0).0

only_name : (others : List Attribute) (space last text : List ℕ) → list_all meets_attribute others ≡ true → is_blank space ≡ true → begins (written_attributes others ++ space ++ last) (62 ∷ text) ≡ true →
    Alone others space × (begins last (62 ∷ text) ≡ true)
unfolding is_blank
only_name [] [] last text m b h = ((refl, refl), h)
only_name [] (c ∷ space) last text m b h = absurd (no_char is_space c 62 space_no (and_parts (c == 62) _ h).0 (and_parts (is_space c) _ b).0)
only_name (a ∷ others) space last text m b h =
    let x = and_parts (meets_attribute a) _ m in
    let y = and_parts _ (list_all _ a.value) x.0 in
    let z = and_parts _ (is_blank a.right) y.0 in
    let u = and_parts _ (is_blank a.left) z.0 in
    let v = and_parts (is_white a.space) (is_name a.name) u.0 in
    absurd (no_white a.space (before_value a) (written_pieces a.value) (quote_char a.quote ∷ []) (written_attributes others) space last text v.0 h)

record IsA (name : List ℕ) (others : List Attribute) (space last : List ℕ) : Type 0 where
  is_a : name ≡ codes "a"
  alone : Alone others space
  ended : begins last (codes ">&x;</b>") ≡ true

tag_at : (name : List ℕ) (others : List Attribute) (space last : List ℕ) → is_name name ≡ true → list_all meets_attribute others ≡ true → is_blank space ≡ true →
    begins (name ++ written_attributes others ++ space ++ last) (codes "a>&x;</b>") ≡ true → IsA name others space last
unfolding is_name
tag_at [] others space last n m b h = absurd (false≢true n)
tag_at (c ∷ []) others space last n m b h =
    let x = and_parts (c == 97) _ h in
    let y = only_name others space last (codes "&x;</b>") m b x.1 in
    record { is_a = ap (λ d. d ∷ []) (eqb-true c 97 x.0); alone = y.0; ended = y.1 }
tag_at (c ∷ d ∷ name) others space last n m b h =
    let x = and_parts (c == 97) _ h in
    let y = and_parts (is_name_start c) _ n in
    absurd (no_char is_name_char d 62 name_no (and_parts (d == 62) _ x.1).0 (and_parts (is_name_char d) _ y.1).0)

tag_shown : (t : Tag) (last : List ℕ) → meets_tag t ≡ true → begins (t.name ++ written_attributes t.attributes ++ t.space ++ last) (codes "a>&x;</b>") ≡ true → IsA t.name t.attributes t.space last
tag_shown t last m h =
    let x = and_parts (is_name t.name && list_all meets_attribute t.attributes) (is_blank t.space) m in
    let y = and_parts (is_name t.name) (list_all meets_attribute t.attributes) x.0 in
    tag_at t.name t.attributes t.space last y.0 y.1 x.1 h

abbrev made : List ℕ → List Attribute → List ℕ → Item
made name others space = start_tag (record { name = name; attributes = others; space = space })

at_0 : (i : Item) → Shown doc i → i ≡ start_tag (tag (codes "a"))
unfolding meets
at_0 (leaf (Leaf.text ps)) t = absurd (no_text (codes "a>&x;</b>") ps (row_of ps t.0) t.1)
at_0 (leaf (Leaf.cdata cs)) t = absurd (false≢true t.1)
at_0 (leaf (Leaf.comment cs)) t = absurd (false≢true t.1)
at_0 (leaf (Leaf.instruction i)) t = absurd (false≢true t.1)
at_0 (leaf (Leaf.declaration d)) t = absurd (false≢true t.1)
at_0 (leaf (Leaf.doctype d)) t = absurd (false≢true t.1)
at_0 (start_tag u) t =
    let x = tag_shown u (codes ">") t.0 t.1 in ap (λ n. made n u.attributes u.space) x.is_a ∙ ap₂ (made (codes "a")) x.alone.0 x.alone.1
at_0 (empty_tag u) t = let x = tag_shown u (codes "/>") t.0 t.1 in absurd (false≢true x.ended)
at_0 (end_tag name space) t = absurd (false≢true t.1)

abbrev x_text : List Piece
x_text = entity (codes "x") ∷ []

x_alone : (c : ℕ) (ps : List Piece) → c ≡ 120 → list_all (meets_piece (λ d. false)) ps ≡ true → begins (written_pieces ps) (codes "</b>") ≡ true → entity (c ∷ []) ∷ ps ≡ x_text
x_alone c [] e m h = ap (λ d. entity (d ∷ []) ∷ []) e
x_alone c (literal d ∷ ps) e m h =
    let p = and_parts (meets_piece (λ k. false) (literal d)) _ m in
    let q = and_parts (is_char d && not (d == 60) && not (d == 38)) true p.0 in
    let s = and_parts (is_char d && not (d == 60)) (not (d == 38)) q.0 in
    absurd (both (d == 60) (and_parts (d == 60) _ h).0 (and_parts (is_char d) (not (d == 60)) s.0).1)
x_alone c (entity name ∷ ps) e m h = absurd (false≢true h)
x_alone c (decimal digits ∷ ps) e m h = absurd (false≢true h)
x_alone c (hexadecimal digits ∷ ps) e m h = absurd (false≢true h)

x_name : (name : List ℕ) (ps : List Piece) → is_name name ≡ true → list_all (meets_piece (λ d. false)) ps ≡ true → begins ((name ++ codes ";") ++ written_pieces ps) (codes "x;</b>") ≡ true → entity name ∷ ps ≡ x_text
unfolding is_name
x_name [] ps n m h = absurd (false≢true n)
x_name (c ∷ []) ps n m h = let x = and_parts (c == 120) _ h in x_alone c ps (eqb-true c 120 x.0) m x.1
x_name (c ∷ d ∷ name) ps n m h =
    let x = and_parts (c == 120) _ h in
    let y = and_parts (is_name_start c) _ n in
    absurd (no_char is_name_char d 59 semicolon_no (and_parts (d == 59) _ x.1).0 (and_parts (is_name_char d) _ y.1).0)

x_pieces : (ps : List Piece) → Row ps → begins (written_pieces ps) (codes "&x;</b>") ≡ true → ps ≡ x_text
x_pieces [] r h = absurd (false≢true r.some)
x_pieces (literal c ∷ ps) r h = absurd (both (c == 38) (and_parts (c == 38) _ h).0 (literal_row c ps r).1)
x_pieces (entity name ∷ ps) r h = let x = and_parts (is_name name) _ r.pieces in x_name name ps x.0 x.1 h
x_pieces (decimal digits ∷ ps) r h = absurd (false≢true h)
x_pieces (hexadecimal digits ∷ ps) r h = absurd (false≢true h)

at_3 : (i : Item) → Shown (drop 3 doc) i → i ≡ leaf (Leaf.text x_text)
at_3 (leaf (Leaf.text ps)) t = ap (λ qs. leaf (Leaf.text qs)) (x_pieces ps (row_of ps t.0) t.1)
at_3 (leaf (Leaf.cdata cs)) t = absurd (false≢true t.1)
at_3 (leaf (Leaf.comment cs)) t = absurd (false≢true t.1)
at_3 (leaf (Leaf.instruction i)) t = absurd (false≢true t.1)
at_3 (leaf (Leaf.declaration d)) t = absurd (false≢true t.1)
at_3 (leaf (Leaf.doctype d)) t = absurd (false≢true t.1)
at_3 (start_tag u) t = absurd (false≢true t.1)
at_3 (empty_tag u) t = absurd (false≢true t.1)
at_3 (end_tag name space) t = absurd (false≢true t.1)

end_at : (name space : List ℕ) → is_name name ≡ true → is_blank space ≡ true → begins (name ++ space ++ codes ">") (codes "b>") ≡ true → end_tag name space ≡ end_tag (codes "b") []
unfolding is_name is_blank
end_at [] space n b h = absurd (false≢true n)
end_at (c ∷ []) [] n b h = ap (λ d. end_tag (d ∷ []) []) (eqb-true c 98 (and_parts (c == 98) _ h).0)
end_at (c ∷ []) (s ∷ space) n b h =
    let x = and_parts (c == 98) _ h in absurd (no_char is_space s 62 space_no (and_parts (s == 62) _ x.1).0 (and_parts (is_space s) _ b).0)
end_at (c ∷ d ∷ name) space n b h =
    let x = and_parts (c == 98) _ h in
    let y = and_parts (is_name_start c) _ n in
    absurd (no_char is_name_char d 62 name_no (and_parts (d == 62) _ x.1).0 (and_parts (is_name_char d) _ y.1).0)

at_6 : (i : Item) → Shown (drop 6 doc) i → i ≡ end_tag (codes "b") []
unfolding meets
at_6 (leaf (Leaf.text ps)) t = absurd (no_text (codes "/b>") ps (row_of ps t.0) t.1)
at_6 (leaf (Leaf.cdata cs)) t = absurd (false≢true t.1)
at_6 (leaf (Leaf.comment cs)) t = absurd (false≢true t.1)
at_6 (leaf (Leaf.instruction i)) t = absurd (false≢true t.1)
at_6 (leaf (Leaf.declaration d)) t = absurd (false≢true t.1)
at_6 (leaf (Leaf.doctype d)) t = absurd (false≢true t.1)
at_6 (start_tag u) t = absurd (no_slash u.name (written_attributes u.attributes) u.space (codes ">") (codes "b>") (tag_name u t.0) t.1)
at_6 (empty_tag u) t = absurd (no_slash u.name (written_attributes u.attributes) u.space (codes "/>") (codes "b>") (tag_name u t.0) t.1)
at_6 (end_tag name space) t = let x = and_parts (is_name name) (is_blank space) t.0 in end_at name space x.0 x.1 t.1

-- from place to place
none_at_10 : (i : Item) → begins_at doc 10 i ≡ true → ⊥
unfolding begins_at
none_at_10 i h =
    let x = and_parts (meets i && begins (spelling i) [] && ends_well i (drop (10 + length (spelling i)) doc)) (may_begin_at i (first_place doc) 10) h in
    let y = and_parts (meets i && begins (spelling i) []) _ x.0 in
    no_prefix (spelling i) (spelling_some doc 10 i h) (and_parts (meets i) (begins (spelling i) []) y.0).1

one_from_10 : OneFrom doc 10
one_from_10 [] w i j h k = absurd (none_at_10 i h)
one_from_10 (a ∷ items) w i j h k = absurd (none_at_10 a (and_parts (begins_at doc 10 a) _ w).0)

step : (p q : ℕ) (x : Item) → ((i : Item) → begins_at doc p i ≡ true → i ≡ x) → p + length (spelling x) ≡ q → OneFrom doc q → OneFrom doc p
step p q x only e one [] w i j h k = only i h ∙ sym (only j k)
step p q x only e one (a ∷ items) w i j h k =
    let y = and_parts (begins_at doc p a) _ w in
    let m : p + length (spelling a) ≡ q = ap (λ z. p + length (spelling z)) (only a y.0) ∙ e in
    let there : OneFrom doc (p + length (spelling a)) = subst (λ n. OneFrom doc n) (sym m) one in
    there items y.1 i j h k

pub one_at_each : OneItem doc
unfolding opened
one_at_each =
    step 0 3 (start_tag (tag (codes "a"))) (λ i h. at_0 i (shown 0 i refl h)) refl
    (step 3 6 (leaf (Leaf.text x_text)) (λ i h. at_3 i (shown 3 i refl h)) refl (step 6 10 (end_tag (codes "b") []) (λ i h. at_6 i (shown 6 i refl h)) refl one_from_10))
