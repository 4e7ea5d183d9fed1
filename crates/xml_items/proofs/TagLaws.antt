-- What the readers of attributes and tags read, and that they read it.
use Rattle.std.proofs.Common.{◌≡◌, ℕ, ◌<◌, Bool, true, false, inl, inr, List, [], ◌∷◌, ◌++◌, length, refl, sym, ap, subst, ◌∙◌, arith, append_assoc}
use Rattle.std.specs.Prelude.{codes, ◌&&◌, ◌==◌}
use Rattle.std.specs.List.{list_all, flat_map}
use Rattle.std.proofs.lemmas.List.{length-append, drop_at}
use Rattle.std.proofs.lemmas.Bool.{cases_Bool, false≢true, and_parts, and_from, eqb-true, eqb-false, false_from_ne_true}
use Rattle.xml_model.specs.Chars.{in_ranges, is_space, is_blank, is_white, is_name_start, is_name_char, is_name}
use Rattle.xml_model.specs.Items.{Quote, single, double, Attribute, Tag, Item, start_tag, empty_tag, end_tag, leaf, quote_char, written_pieces, written_attribute, written_attributes, written, meets_piece, meets_attribute, meets_tag}
use Rattle.xml_chars.specs.Readers.{after_run}
use Rattle.xml_chars.specs.Reading.{ascii_head, begins_name, read_space}
use Rattle.xml_chars.proofs.Readers.{IsReader, reads_as, both_reads, mapped_reads, kept_reads, run_again, word_reads, choose_by_reads, many_reads, StopsBy, FitMany}
use Rattle.xml_chars.proofs.NameLaws.{name_reads, FitName, space_reads, FitSpace}
use Rattle.xml_chars.proofs.Ranges.{in_range, in_none}
use Rattle.xml_items.specs.Reading.{ends_value, some_space, AttributeParts, attribute_of, read_attribute, begins_attribute, read_attributes, closes_empty, read_close_by, read_close, tag_item, tag_of, read_tag, read_end_tag}
use Rattle.xml_items.proofs.PieceLaws.{written_quote, quote_reads, value_reads, value_ends}

-- ---- classes of characters

by_space : (p : ℕ → Bool) → p 32 ≡ false → p 9 ≡ false → p 10 ≡ false → p 13 ≡ false → (c : ℕ) → is_space c ≡ true → p c ≡ false
unfolding is_space
by_space p a b d e c h = elim (in_range 0x20 0x20 c _ h) [
  | inl q ↦ let same : c ≡ 32 = omega (arith, q.0, q.1) in ap p same ∙ a
  | inr h ↦ elim (in_range 0x9 0xA c _ h) [
    | inl q ↦ elim (cases_Bool (c == 9)) [
      | inl t ↦ ap p (eqb-true c 9 t) ∙ b
      | inr f ↦ let same : c ≡ 10 = omega (arith, q.0, q.1, eqb-false c 9 f) in ap p same ∙ d
    ]
    | inr h ↦ elim (in_range 0xD 0xD c _ h) [
      | inl q ↦ let same : c ≡ 13 = omega (arith, q.0, q.1) in ap p same ∙ e
      | inr h ↦ absurd (in_none c h)
    ]
  ]
]

pub space_no_name : (c : ℕ) → is_space c ≡ true → is_name_char c ≡ false
unfolding is_name_char is_name_start in_ranges
space_no_name c h = by_space is_name_char refl refl refl refl c h

pub space_no_start : (c : ℕ) → is_space c ≡ true → is_name_start c ≡ false
unfolding is_name_start in_ranges
space_no_start c h = by_space is_name_start refl refl refl refl c h

pub start_no_space : (c : ℕ) → is_name_start c ≡ true → is_space c ≡ false
start_no_space c h = false_from_ne_true _ (λ s. false≢true (sym (space_no_start c s) ∙ h))

pub name_stops_space : (n rest : List ℕ) → is_name n ≡ true → StopsBy is_space (n ++ rest)
unfolding is_name
name_stops_space [] rest h = absurd (false≢true h)
name_stops_space (c ∷ n) rest h = start_no_space c (and_parts (is_name_start c) (list_all is_name_char n) h).0

pub space_stops_name : (sp rest : List ℕ) → is_blank sp ≡ true → StopsBy is_name_char rest → StopsBy is_name_char (sp ++ rest)
unfolding is_blank
space_stops_name [] rest h stops = stops
space_stops_name (c ∷ sp) rest h stops = space_no_name c (and_parts (is_space c) (list_all is_space sp) h).0

pub white_stops_name : (sp rest : List ℕ) → is_white sp ≡ true → StopsBy is_name_char (sp ++ rest)
unfolding is_white
white_stops_name [] rest h = absurd (false≢true h)
white_stops_name (c ∷ sp) rest h = space_no_name c (and_parts (is_space c) (list_all is_space sp) h).0

pub white_from : (sp : List ℕ) → is_blank sp ≡ true → some_space sp ≡ true → is_white sp ≡ true
unfolding is_blank is_white
white_from [] h s = absurd (false≢true s)
white_from (c ∷ sp) h s = h

pub white_blank : (sp : List ℕ) → is_white sp ≡ true → is_blank sp ≡ true
unfolding is_blank is_white
white_blank [] h = refl
white_blank (c ∷ sp) h = h

pub white_some : (sp : List ℕ) → is_white sp ≡ true → some_space sp ≡ true
unfolding is_white
white_some [] h = absurd (false≢true h)
white_some (c ∷ sp) h = refl

space_61 : is_space 61 ≡ false
unfolding is_space in_ranges
space_61 = refl

pub name_61 : is_name_char 61 ≡ false
unfolding is_name_char is_name_start in_ranges
name_61 = refl

quote_space : (q : Quote) → is_space (quote_char q) ≡ false
unfolding is_space in_ranges
quote_space single = refl
quote_space double = refl

-- ---- attributes

pub record Attributed (a : Attribute) : Type 0 where
  pub space : is_white a.space ≡ true
  pub name : is_name a.name ≡ true
  pub left : is_blank a.left ≡ true
  pub right : is_blank a.right ≡ true
  pub value : list_all (meets_piece (ends_value a.quote)) a.value ≡ true

pub attributed : (a : Attribute) → meets_attribute a ≡ true → Attributed a
attributed a h =
    let v = and_parts (is_white a.space && is_name a.name && is_blank a.left && is_blank a.right) (list_all (meets_piece (ends_value a.quote)) a.value) h in
    let r = and_parts (is_white a.space && is_name a.name && is_blank a.left) (is_blank a.right) v.0 in
    let l = and_parts (is_white a.space && is_name a.name) (is_blank a.left) r.0 in
    let n = and_parts (is_white a.space) (is_name a.name) l.0 in
    record { space = n.0; name = n.1; left = l.1; right = r.1; value = v.1 }

pub attributed_from : (a : Attribute) → Attributed a → meets_attribute a ≡ true
attributed_from a h = and_from _ _ (and_from _ _ (and_from _ _ (and_from _ _ h.space h.name) h.left) h.right) h.value

abbrev pub FitAttribute : Attribute → List ℕ → Type 0
FitAttribute a rest = meets_attribute a ≡ true

attribute_spelled : (p : AttributeParts) → written_attribute (attribute_of p) ≡ p.0 ++ (p.1.0 ++ (p.1.1.0 ++ (61 ∷ [] ++ (p.1.1.1.1.0 ++ (written_quote p.1.1.1.1.1.0 ++ (written_pieces p.1.1.1.1.1.1.0 ++ written_quote p.1.1.1.1.1.0))))))
attribute_spelled p = simp append_assoc

pub attribute_reads : IsReader read_attribute written_attribute FitAttribute
unfolding read_attribute
attribute_reads =
    mapped_reads attribute_of written_attribute FitAttribute
    (both_reads (kept_reads some_space read_space (λ s. s) FitSpace space_reads)
    (λ _ _ _. both_reads name_reads (λ _ _ _. both_reads space_reads (λ _ _ _. both_reads (word_reads (codes "=")) (λ _ _ _. both_reads space_reads (λ _ _ _. both_reads quote_reads (λ q _ _. both_reads (value_reads q) (λ _ _ _. word_reads (quote_char q ∷ [])))))))))
    attribute_spelled
    (λ p rest h. attributed_from (attribute_of p) record {
      space = white_from p.0 h.0.0.0 h.0.1;
      name = h.1.0.0;
      left = h.1.1.0.0;
      right = h.1.1.1.1.0.0;
      value = h.1.1.1.1.1.1.0.0;
    })
    (λ a rest m. let h = attributed a m in (
      (a.space, (a.name, (a.left, (tt, (a.right, (a.quote, (a.value, tt))))))),
      refl,
      (
        ((white_blank a.space h.space, by_assoc is_space a.name _ rest (name_stops_space a.name _ h.name)), white_some a.space h.space),
        (
          (h.name, by_assoc is_name_char a.left _ rest (space_stops_name a.left _ h.left name_61)),
          ((h.left, space_61), (tt, ((h.right, quote_space a.quote), (tt, ((h.value, value_ends a.quote rest), tt))))),
        ),
      ),
    ))
  where
    by_assoc : (p : ℕ → Bool) (x y rest : List ℕ) → StopsBy p (x ++ (y ++ rest)) → StopsBy p ((x ++ y) ++ rest)
    by_assoc p x y rest h = subst (StopsBy p) (sym (append_assoc x y rest)) h

pub attribute_pos : (a : Attribute) → 0 < length (written_attribute a)
attribute_pos a = omega (arith, length-append (a.space ++ (a.name ++ a.left ++ codes "=" ++ a.right ++ quote_char a.quote ∷ []) ++ written_pieces a.value) (quote_char a.quote ∷ []))

pub by_assoc : (p : ℕ → Bool) (x y rest : List ℕ) → StopsBy p (x ++ (y ++ rest)) → StopsBy p ((x ++ y) ++ rest)
by_assoc p x y rest h = subst (StopsBy p) (sym (append_assoc x y rest)) h

-- ---- lists of attributes

pub after_space : (sp rest : List ℕ) → is_blank sp ≡ true → StopsBy is_space rest → after_run is_space (sp ++ rest) ≡ rest
unfolding is_blank
after_space sp rest h stops = rw (run_again is_space sp rest (h, stops), drop_at sp rest (length sp) refl) refl

begins_name_at : (n rest : List ℕ) → is_name n ≡ true → begins_name (n ++ rest) ≡ true
unfolding is_name
begins_name_at [] rest h = absurd (false≢true h)
begins_name_at (c ∷ n) rest h = (and_parts (is_name_start c) (list_all is_name_char n) h).0

-- an attribute as its white space, its name and what follows
abbrev pub attribute_tail : Attribute → List ℕ
attribute_tail a = a.left ++ (61 ∷ a.right ++ (quote_char a.quote ∷ (written_pieces a.value ++ quote_char a.quote ∷ [])))

pub attribute_split : (a : Attribute) (rest : List ℕ) → written_attribute a ++ rest ≡ a.space ++ (a.name ++ (attribute_tail a ++ rest))
attribute_split a rest = simp append_assoc

pub begins : (a : Attribute) (rest : List ℕ) → meets_attribute a ≡ true → begins_attribute (written_attribute a ++ rest) ≡ true
unfolding begins_attribute
begins a rest m =
    let h = attributed a m in
    ap (λ (l : List ℕ). begins_name (after_run is_space l)) (attribute_split a rest)
    ∙ ap begins_name (after_space a.space (a.name ++ (attribute_tail a ++ rest)) (white_blank a.space h.space) (name_stops_space a.name (attribute_tail a ++ rest) h.name))
    ∙ begins_name_at a.name (attribute_tail a ++ rest) h.name

abbrev pub FitAttributes : List Attribute → List ℕ → Type 0
FitAttributes xs rest = (list_all meets_attribute xs ≡ true) × (begins_attribute rest ≡ false)

attributes_to : (xs : List Attribute) (rest : List ℕ) → FitMany begins_attribute written_attribute FitAttribute xs rest → FitAttributes xs rest
attributes_to [] rest h = (refl, h)
attributes_to (a ∷ xs) rest h = let so = attributes_to xs rest h.2 in (and_from (meets_attribute a) _ h.1 so.0, so.1)

attributes_from : (xs : List Attribute) (rest : List ℕ) → FitAttributes xs rest → FitMany begins_attribute written_attribute FitAttribute xs rest
attributes_from [] rest h = h.1
attributes_from (a ∷ xs) rest h = let q = and_parts (meets_attribute a) (list_all meets_attribute xs) h.0 in (begins a (flat_map written_attribute xs ++ rest) q.0, q.0, attributes_from xs rest (q.1, h.1))

pub attributes_reads : IsReader read_attributes written_attributes FitAttributes
unfolding read_attributes
attributes_reads = reads_as FitAttributes (many_reads begins_attribute read_attribute written_attribute FitAttribute attribute_pos attribute_reads) attributes_to attributes_from

-- no attribute begins with white space and then no name
pub no_more : (sp rest : List ℕ) → is_blank sp ≡ true → StopsBy is_space rest → begins_name rest ≡ false → begins_attribute (sp ++ rest) ≡ false
unfolding begins_attribute
no_more sp rest h stops no_start = ap begins_name (after_space sp rest h stops) ∙ no_start

-- ---- tags

abbrev pub written_close : Bool → List ℕ
written_close true = codes "/>"
written_close false = codes ">"

abbrev Is : Bool → Bool → List ℕ → Type 0
Is k b rest = k ≡ b

close_form : (b : Bool) (rest : List ℕ) → closes_empty (written_close b ++ rest) ≡ b
unfolding closes_empty ascii_head
close_form true rest = refl
close_form false rest = refl

close_by_reads : (k : Bool) → IsReader (read_close_by k) written_close (Is k)
close_by_reads true = mapped_reads (λ _. true) written_close (Is true) (word_reads (codes "/>")) (λ x. refl) (λ x rest h. refl) (λ b rest h. (tt, h, tt))
close_by_reads false = mapped_reads (λ _. false) written_close (Is false) (word_reads (codes ">")) (λ x. refl) (λ x rest h. refl) (λ b rest h. (tt, h, tt))

pub close_reads : IsReader read_close written_close (λ b rest. Unit {0})
unfolding read_close
close_reads = reads_as (λ b rest. Unit {0}) (choose_by_reads {F = Is} closes_empty close_by_reads) (λ b rest h. tt) (λ b rest h. close_form b rest)

pub close_space : (b : Bool) (rest : List ℕ) → StopsBy is_space (written_close b ++ rest)
unfolding is_space in_ranges
close_space true rest = refl
close_space false rest = refl

close_name : (b : Bool) (rest : List ℕ) → StopsBy is_name_char (written_close b ++ rest)
unfolding is_name_char is_name_start in_ranges
close_name true rest = refl
close_name false rest = refl

pub close_start : (b : Bool) (rest : List ℕ) → begins_name (written_close b ++ rest) ≡ false
unfolding is_name_start in_ranges
close_start true rest = refl
close_start false rest = refl

-- what follows the name of a tag is no character of a name
attributes_stop : (xs : List Attribute) (after : List ℕ) → list_all meets_attribute xs ≡ true → StopsBy is_name_char after → StopsBy is_name_char (written_attributes xs ++ after)
attributes_stop [] after h stops = stops
attributes_stop (a ∷ xs) after h stops =
    let q = and_parts (meets_attribute a) (list_all meets_attribute xs) h in
    subst (StopsBy is_name_char) (sym (append_assoc (written_attribute a) (written_attributes xs) after ∙ attribute_split a (written_attributes xs ++ after))) (white_stops_name a.space (a.name ++ (attribute_tail a ++ (written_attributes xs ++ after))) (attributed a q.0).space)

pub record Tagged (t : Tag) : Type 0 where
  pub name : is_name t.name ≡ true
  pub attributes : list_all meets_attribute t.attributes ≡ true
  pub space : is_blank t.space ≡ true

pub tagged : (t : Tag) → meets_tag t ≡ true → Tagged t
tagged t h =
    let s = and_parts (is_name t.name && list_all meets_attribute t.attributes) (is_blank t.space) h in
    let n = and_parts (is_name t.name) (list_all meets_attribute t.attributes) s.0 in
    record { name = n.0; attributes = n.1; space = s.1 }

pub tagged_from : (t : Tag) → Tagged t → meets_tag t ≡ true
tagged_from t h = and_from _ _ (and_from _ _ h.name h.attributes) h.space

abbrev pub FitTag : Item → List ℕ → Type 0
FitTag (start_tag t) rest = meets_tag t ≡ true
FitTag (empty_tag t) rest = meets_tag t ≡ true
FitTag _ rest = ⊥

abbrev TagParts : Type 0
TagParts = Unit {0} × (List ℕ × (List Attribute × (List ℕ × Bool)))

tag_spelled : (name : List ℕ) (xs : List Attribute) (sp : List ℕ) (b : Bool) → written (tag_item b record { name = name; attributes = xs; space = sp }) ≡ 60 ∷ [] ++ (name ++ (written_attributes xs ++ (sp ++ written_close b)))
tag_spelled name xs sp true = simp append_assoc
tag_spelled name xs sp false = simp append_assoc

FitParts : TagParts → List ℕ → Type 0
FitParts p rest = Unit {0} × (FitName p.1.0 ((written_attributes p.1.1.0 ++ (p.1.1.1.0 ++ written_close p.1.1.1.1)) ++ rest) × (FitAttributes p.1.1.0 ((p.1.1.1.0 ++ written_close p.1.1.1.1) ++ rest) × (FitSpace p.1.1.1.0 (written_close p.1.1.1.1 ++ rest) × Unit {0})))

tag_fits : (name : List ℕ) (xs : List Attribute) (sp : List ℕ) (b : Bool) (rest : List ℕ) → meets_tag record { name = name; attributes = xs; space = sp } ≡ true → FitParts (tt, (name, (xs, (sp, b)))) rest
unfolding FitParts
tag_fits name xs sp b rest m =
    let t : Tag = record { name = name; attributes = xs; space = sp } in
    let h = tagged t m in (
      tt,
      (
        (h.name, by_assoc is_name_char (written_attributes xs) (sp ++ written_close b) rest (attributes_stop xs ((sp ++ written_close b) ++ rest) h.attributes (by_assoc is_name_char sp (written_close b) rest (space_stops_name sp (written_close b ++ rest) h.space (close_name b rest))))),
        (
          (h.attributes, ap begins_attribute (append_assoc sp (written_close b) rest) ∙ no_more sp (written_close b ++ rest) h.space (close_space b rest) (close_start b rest)),
          ((h.space, close_space b rest), tt),
        ),
      ),
    )

tag_there : (name : List ℕ) (xs : List Attribute) (sp : List ℕ) (b : Bool) (rest : List ℕ) → Tagged record { name = name; attributes = xs; space = sp } → FitTag (tag_item b record { name = name; attributes = xs; space = sp }) rest
tag_there name xs sp true rest h = tagged_from record { name = name; attributes = xs; space = sp } h
tag_there name xs sp false rest h = tagged_from record { name = name; attributes = xs; space = sp } h

tag_back : (i : Item) (rest : List ℕ) → FitTag i rest → (p : TagParts) × (tag_of p ≡ i) × FitParts p rest
tag_back (start_tag t) rest h = ((tt, (t.name, (t.attributes, (t.space, false)))), refl, tag_fits t.name t.attributes t.space false rest h)
tag_back (empty_tag t) rest h = ((tt, (t.name, (t.attributes, (t.space, true)))), refl, tag_fits t.name t.attributes t.space true rest h)
tag_back (leaf l) rest h = absurd h
tag_back (end_tag n s) rest h = absurd h

pub tag_reads : IsReader read_tag written FitTag
unfolding read_tag FitParts
tag_reads =
    mapped_reads tag_of written FitTag
    (both_reads (word_reads (codes "<")) (λ _ _ _. both_reads name_reads (λ _ _ _. both_reads attributes_reads (λ _ _ _. both_reads space_reads (λ _ _ _. close_reads)))))
    (λ p. tag_spelled p.1.0 p.1.1.0 p.1.1.1.0 p.1.1.1.1)
    (λ p rest h. tag_there p.1.0 p.1.1.0 p.1.1.1.0 p.1.1.1.1 rest record { name = h.1.0.0; attributes = h.1.1.0.0; space = h.1.1.1.0.0 })
    tag_back

abbrev pub FitEnd : Item → List ℕ → Type 0
FitEnd (end_tag n s) rest = (is_name n && is_blank s) ≡ true
FitEnd _ rest = ⊥

close_62 : (rest : List ℕ) → StopsBy is_name_char (62 ∷ rest) × StopsBy is_space (62 ∷ rest)
close_62 rest = (close_name false rest, close_space false rest)

end_back : (i : Item) (rest : List ℕ) → FitEnd i rest → (p : Unit {0} × (List ℕ × (List ℕ × Unit {0}))) × (end_tag p.1.0 p.1.1.0 ≡ i) × (Unit {0} × (FitName p.1.0 ((p.1.1.0 ++ 62 ∷ []) ++ rest) × (FitSpace p.1.1.0 (62 ∷ rest) × Unit {0})))
end_back (end_tag n s) rest h =
    let q = and_parts (is_name n) (is_blank s) h in
    ((tt, (n, (s, tt))), refl, (tt, ((q.0, by_assoc is_name_char s (62 ∷ []) rest (space_stops_name s (62 ∷ rest) q.1 (close_62 rest).0)), ((q.1, (close_62 rest).1), tt))))
end_back (leaf l) rest h = absurd h
end_back (start_tag t) rest h = absurd h
end_back (empty_tag t) rest h = absurd h

pub end_reads : IsReader read_end_tag written FitEnd
unfolding read_end_tag
end_reads =
    mapped_reads (λ p. end_tag p.1.0 p.1.1.0) written FitEnd
    (both_reads (word_reads (codes "</")) (λ _ _ _. both_reads name_reads (λ _ _ _. both_reads space_reads (λ _ _ _. word_reads (codes ">")))))
    (λ p. simp append_assoc)
    (λ p rest h. and_from (is_name p.1.0) (is_blank p.1.1.0) h.1.0.0 h.1.1.0.0)
    end_back
