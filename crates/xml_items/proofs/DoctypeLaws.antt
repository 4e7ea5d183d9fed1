-- What the reader of a document type declaration reads, and that it reads it.
use Rattle.std.proofs.Common.{◌≡◌, ℕ, ◌<◌, Bool, true, false, cond, List, [], ◌∷◌, ◌++◌, length, refl, sym, ap, subst, ◌∙◌, arith, lit<, append_assoc}
use Rattle.std.specs.Prelude.{codes, ◌&&◌, ◌==◌, not}
use Rattle.std.specs.List.{list_all, flat_map}
use Rattle.std.proofs.lemmas.Bool.{and_parts, and_from, and_right, not-true, not_from_false}
use Rattle.xml_model.specs.Chars.{in_ranges, is_char, is_space, is_white, is_name_start, is_name_char, is_name, begins, lacks}
use Rattle.xml_model.specs.Items.{Leaf, cdata, declaration, doctype, Quote, single, double, SubsetUnit, DoctypeUnit, Doctype, Item, start_tag, empty_tag, end_tag, leaf, quote_char, in_quotes, written, written_inner, written_unit, written_units, meets_quoted, meets_inner, meets_unit, meets_doctype, has_one_subset, is_comment_text, begins_with_name_char}
use Rattle.xml_chars.specs.Readers.{many}
use Rattle.xml_chars.specs.Reading.{ascii_head, read_space}
use Rattle.xml_chars.proofs.Readers.{IsReader, reads_as, both_reads, mapped_reads, kept_reads, run_reads, one_of_reads, word_reads, choose_by_reads, many_reads, StopsBy, FitMany}
use Rattle.xml_chars.proofs.NameLaws.{name_reads, FitName, space_reads, FitSpace}
use Rattle.xml_items.specs.Reading.{some_space, read_quoted, InnerForm, in_comment, in_instruction, in_quotes as by_quotes, in_character, inner_form, is_inner_char, read_inner_by, read_inner, in_subset, read_subset, UnitForm, with_quotes, with_subset, with_character, unit_form, is_unit_char, read_unit_by, read_unit, in_doctype, read_units, doctype_of, read_doctype}
use Rattle.xml_items.proofs.PieceLaws.{head_of}
use Rattle.xml_items.proofs.TagLaws.{by_assoc, name_stops_space, white_from, white_blank, white_some}
use Rattle.xml_items.proofs.MarkLaws.{comment_text_reads, read_until_reads, FitCharsUntil, question_fits, question_lacks}

-- ---- quoted literals

abbrev FitQuoted : Quote → List ℕ → List ℕ → Type 0
FitQuoted q cs rest = meets_quoted q cs ≡ true

quote_stops : (q : Quote) (rest : List ℕ) → StopsBy (λ c. is_char c && not (c == quote_char q)) (quote_char q ∷ rest)
quote_stops single rest = and_right (is_char 39) false refl
quote_stops double rest = and_right (is_char 34) false refl

pub quoted_reads : (q : Quote) → IsReader (read_quoted q) (in_quotes q) (FitQuoted q)
unfolding read_quoted
quoted_reads q = mapped_reads (λ p. p.1.0) (in_quotes q) (FitQuoted q)
    (both_reads (word_reads (quote_char q ∷ [])) (λ _ _ _. both_reads (run_reads (λ c. is_char c && not (c == quote_char q))) (λ _ _ _. word_reads (quote_char q ∷ []))))
    (λ p. refl) (λ p rest h. h.1.0.0) (λ cs rest h. ((tt, (cs, tt)), refl, (tt, ((h, quote_stops q rest), tt))))

-- ---- the units of a subset

abbrev FitInnerBy : InnerForm → SubsetUnit → List ℕ → Type 0
FitInnerBy in_comment (SubsetUnit.comment cs) rest = is_comment_text cs ≡ true
FitInnerBy in_instruction (SubsetUnit.instruction cs) rest = (list_all is_char cs ≡ true) × (lacks (codes "?>") cs ≡ true)
FitInnerBy (by_quotes q) (SubsetUnit.quoted r cs) rest = (q ≡ r) × (meets_quoted q cs ≡ true)
FitInnerBy in_character (SubsetUnit.char c) rest = is_inner_char c ≡ true
FitInnerBy _ _ rest = ⊥

inner_comment_back : (u : SubsetUnit) (rest : List ℕ) → FitInnerBy in_comment u rest → (p : Unit {0} × (List ℕ × Unit {0})) × (SubsetUnit.comment p.1.0 ≡ u) × (Unit {0} × (is_comment_text p.1.0 ≡ true))
inner_comment_back (SubsetUnit.comment cs) rest h = ((tt, (cs, tt)), refl, (tt, h))
inner_comment_back (SubsetUnit.instruction cs) rest h = absurd h
inner_comment_back (SubsetUnit.quoted q cs) rest h = absurd h
inner_comment_back (SubsetUnit.char c) rest h = absurd h

inner_instruction_back : (u : SubsetUnit) (rest : List ℕ) → FitInnerBy in_instruction u rest → (p : Unit {0} × (List ℕ × Unit {0})) × (SubsetUnit.instruction p.1.0 ≡ u) × (Unit {0} × (FitCharsUntil (codes "?>") p.1.0 (63 ∷ 62 ∷ rest) × Unit {0}))
inner_instruction_back (SubsetUnit.instruction cs) rest h = ((tt, (cs, tt)), refl, (tt, (question_fits cs rest h.0 h.1, tt)))
inner_instruction_back (SubsetUnit.comment cs) rest h = absurd h
inner_instruction_back (SubsetUnit.quoted q cs) rest h = absurd h
inner_instruction_back (SubsetUnit.char c) rest h = absurd h

inner_quoted_back : (q : Quote) (u : SubsetUnit) (rest : List ℕ) → FitInnerBy (by_quotes q) u rest → (cs : List ℕ) × (SubsetUnit.quoted q cs ≡ u) × (meets_quoted q cs ≡ true)
inner_quoted_back q (SubsetUnit.quoted r cs) rest h = (cs, ap (λ (s : Quote). SubsetUnit.quoted s cs) h.0, h.1)
inner_quoted_back q (SubsetUnit.comment cs) rest h = absurd h
inner_quoted_back q (SubsetUnit.instruction cs) rest h = absurd h
inner_quoted_back q (SubsetUnit.char c) rest h = absurd h

inner_char_back : (u : SubsetUnit) (rest : List ℕ) → FitInnerBy in_character u rest → (c : ℕ) × (SubsetUnit.char c ≡ u) × (is_inner_char c ≡ true)
inner_char_back (SubsetUnit.char c) rest h = (c, refl, h)
inner_char_back (SubsetUnit.comment cs) rest h = absurd h
inner_char_back (SubsetUnit.instruction cs) rest h = absurd h
inner_char_back (SubsetUnit.quoted q cs) rest h = absurd h

inner_by_reads : (k : InnerForm) → IsReader (read_inner_by k) written_inner (FitInnerBy k)
inner_by_reads in_comment = mapped_reads (λ p. SubsetUnit.comment p.1.0) written_inner (FitInnerBy in_comment) (both_reads (word_reads (codes "<!--")) (λ _ _ _. comment_text_reads)) (λ p. refl) (λ p rest h. h.1) inner_comment_back
inner_by_reads in_instruction =
    mapped_reads (λ p. SubsetUnit.instruction p.1.0) written_inner (FitInnerBy in_instruction) (both_reads (word_reads (codes "<?")) (λ _ _ _. both_reads (read_until_reads (codes "?>") refl) (λ _ _ _. word_reads (codes "?>"))))
    (λ p. refl) (λ p rest h. (h.1.0.1, question_lacks p.1.0 rest h.1.0)) inner_instruction_back
inner_by_reads (by_quotes q) = mapped_reads (SubsetUnit.quoted q) written_inner (FitInnerBy (by_quotes q)) (quoted_reads q) (λ cs. refl) (λ cs rest h. (refl, h)) (inner_quoted_back q)
inner_by_reads in_character = mapped_reads SubsetUnit.char written_inner (FitInnerBy in_character) (one_of_reads is_inner_char) (λ c. refl) (λ c rest h. h) inner_char_back

abbrev pub FitInner : SubsetUnit → List ℕ → Type 0
FitInner (SubsetUnit.comment cs) rest = is_comment_text cs ≡ true
FitInner (SubsetUnit.instruction cs) rest = (list_all is_char cs ≡ true) × (lacks (codes "?>") cs ≡ true)
FitInner (SubsetUnit.quoted q cs) rest = meets_quoted q cs ≡ true
FitInner (SubsetUnit.char c) rest = (is_inner_char c ≡ true) × (begins (codes "<!--") (c ∷ rest) ≡ false) × (begins (codes "<?") (c ∷ rest) ≡ false)

char_form : (c : ℕ) (rest : List ℕ) (a b d e : Bool) → FitInnerBy (cond a in_comment (cond b in_instruction (cond d (by_quotes double) (cond e (by_quotes single) in_character)))) (SubsetUnit.char c) rest → (is_inner_char c ≡ true) × (a ≡ false) × (b ≡ false)
char_form c rest true b d e h = absurd h
char_form c rest false true d e h = absurd h
char_form c rest false false true e h = absurd h
char_form c rest false false false true h = absurd h
char_form c rest false false false false h = (h, refl, refl)

quoted_to : (k : InnerForm) (q : Quote) (cs rest : List ℕ) → FitInnerBy k (SubsetUnit.quoted q cs) rest → meets_quoted q cs ≡ true
quoted_to in_comment q cs rest h = absurd h
quoted_to in_instruction q cs rest h = absurd h
quoted_to (by_quotes r) q cs rest h = subst (λ (s : Quote). meets_quoted s cs ≡ true) h.0 h.1
quoted_to in_character q cs rest h = absurd h

comment_to : (k : InnerForm) (cs rest : List ℕ) → FitInnerBy k (SubsetUnit.comment cs) rest → is_comment_text cs ≡ true
comment_to in_comment cs rest h = h
comment_to in_instruction cs rest h = absurd h
comment_to (by_quotes r) cs rest h = absurd h
comment_to in_character cs rest h = absurd h

instruction_to : (k : InnerForm) (cs rest : List ℕ) → FitInnerBy k (SubsetUnit.instruction cs) rest → (list_all is_char cs ≡ true) × (lacks (codes "?>") cs ≡ true)
instruction_to in_instruction cs rest h = h
instruction_to in_comment cs rest h = absurd h
instruction_to (by_quotes r) cs rest h = absurd h
instruction_to in_character cs rest h = absurd h

inner_to : (u : SubsetUnit) (rest : List ℕ) → FitInnerBy (inner_form (written_inner u ++ rest)) u rest → FitInner u rest
unfolding inner_form
inner_to (SubsetUnit.comment cs) rest h = comment_to (inner_form (written_inner (SubsetUnit.comment cs) ++ rest)) cs rest h
inner_to (SubsetUnit.instruction cs) rest h = instruction_to (inner_form (written_inner (SubsetUnit.instruction cs) ++ rest)) cs rest h
inner_to (SubsetUnit.quoted q cs) rest h = quoted_to (inner_form (written_inner (SubsetUnit.quoted q cs) ++ rest)) q cs rest h
inner_to (SubsetUnit.char c) rest h = char_form c rest (begins (codes "<!--") (c ∷ rest)) (begins (codes "<?") (c ∷ rest)) (ascii_head (c ∷ rest) == 34) (ascii_head (c ∷ rest) == 39) h

pub record InnerChar (c : ℕ) : Type 0 where
  pub char : is_char c ≡ true
  pub no_double : (c == 34) ≡ false
  pub no_single : (c == 39) ≡ false
  pub no_end : (c == 93) ≡ false

pub inner_char : (c : ℕ) → is_inner_char c ≡ true → InnerChar c
inner_char c h =
    let a = and_parts (is_char c) _ h in
    let d = and_parts (not (c == 34)) _ a.1 in
    let s = and_parts (not (c == 39)) _ d.1 in
    let e = and_parts (not (c == 93)) true s.1 in
    record { char = a.0; no_double = not-true _ d.0; no_single = not-true _ s.0; no_end = not-true _ e.0 }

char_form_is : (c : ℕ) (rest : List ℕ) → FitInner (SubsetUnit.char c) rest → inner_form (c ∷ rest) ≡ in_character
unfolding inner_form
char_form_is c rest h =
    let k = inner_char c h.0 in
    rw (h.1, h.2, head_of c rest 34 (lit< tt), k.no_double, head_of c rest 39 (lit< tt), k.no_single) refl

inner_from : (u : SubsetUnit) (rest : List ℕ) → FitInner u rest → FitInnerBy (inner_form (written_inner u ++ rest)) u rest
unfolding inner_form ascii_head
inner_from (SubsetUnit.comment cs) rest h = h
inner_from (SubsetUnit.instruction cs) rest h = h
inner_from (SubsetUnit.quoted single cs) rest h = (refl, h)
inner_from (SubsetUnit.quoted double cs) rest h = (refl, h)
inner_from (SubsetUnit.char c) rest h = subst (λ (k : InnerForm). FitInnerBy k (SubsetUnit.char c) rest) (sym (char_form_is c rest h)) h.0

pub inner_reads : IsReader read_inner written_inner FitInner
unfolding read_inner
inner_reads = reads_as FitInner (choose_by_reads inner_form inner_by_reads) inner_to inner_from

pub inner_pos : (u : SubsetUnit) → 0 < length (written_inner u)
inner_pos (SubsetUnit.comment cs) = omega arith
inner_pos (SubsetUnit.instruction cs) = omega arith
inner_pos (SubsetUnit.quoted q cs) = omega arith
inner_pos (SubsetUnit.char c) = omega arith

-- what follows a subset begins neither mark
same_comment : (c : ℕ) (w rest : List ℕ) → begins (codes "<!--") (c ∷ w) ≡ begins (codes "<!--") (c ∷ (w ++ 93 ∷ rest))
same_comment c [] rest = refl
same_comment c (d ∷ []) rest = refl
same_comment c (d ∷ e ∷ []) rest = refl
same_comment c (d ∷ e ∷ f ∷ w) rest = refl

same_instruction : (c : ℕ) (w rest : List ℕ) → begins (codes "<?") (c ∷ w) ≡ begins (codes "<?") (c ∷ (w ++ 93 ∷ rest))
same_instruction c [] rest = refl
same_instruction c (d ∷ w) rest = refl

in_subset_is : (c : ℕ) (rest : List ℕ) → in_subset (c ∷ rest) ≡ not (c == 93)
unfolding in_subset
in_subset_is c rest = ap not (head_of c rest 93 (lit< tt))

goes_on : (u : SubsetUnit) (rest after : List ℕ) → FitInner u after → in_subset (written_inner u ++ rest) ≡ true
goes_on (SubsetUnit.comment cs) rest after h = in_subset_is 60 _
goes_on (SubsetUnit.instruction cs) rest after h = in_subset_is 60 _
goes_on (SubsetUnit.quoted single cs) rest after h = in_subset_is 39 _
goes_on (SubsetUnit.quoted double cs) rest after h = in_subset_is 34 _
goes_on (SubsetUnit.char c) rest after h = in_subset_is c rest ∙ not_from_false _ (inner_char c h.0).no_end

subset_to : (us : List SubsetUnit) (rest : List ℕ) → FitMany in_subset written_inner FitInner us (93 ∷ rest) → meets_inner us ≡ true
subset_to [] rest h = refl
subset_to (SubsetUnit.comment cs ∷ us) rest h = and_from _ _ h.1 (subset_to us rest h.2)
subset_to (SubsetUnit.instruction cs ∷ us) rest h = and_from _ _ (and_from _ _ h.1.0 h.1.1) (subset_to us rest h.2)
subset_to (SubsetUnit.quoted q cs ∷ us) rest h = and_from _ _ h.1 (subset_to us rest h.2)
subset_to (SubsetUnit.char c ∷ us) rest h =
    let w = flat_map written_inner us in
    and_from _ _ (and_from _ _ (and_from _ _ h.1.0 (not_from_false _ (same_comment c w rest ∙ h.1.1))) (not_from_false _ (same_instruction c w rest ∙ h.1.2))) (subset_to us rest h.2)

subset_from : (us : List SubsetUnit) (rest : List ℕ) → meets_inner us ≡ true → FitMany in_subset written_inner FitInner us (93 ∷ rest)
subset_from [] rest h = in_subset_is 93 rest
subset_from (SubsetUnit.comment cs ∷ us) rest h =
    let q = and_parts (is_comment_text cs) (meets_inner us) h in
    (goes_on (SubsetUnit.comment cs) _ [] q.0, q.0, subset_from us rest q.1)
subset_from (SubsetUnit.instruction cs ∷ us) rest h =
    let q = and_parts (list_all is_char cs && lacks (codes "?>") cs) (meets_inner us) h in
    let p = and_parts (list_all is_char cs) (lacks (codes "?>") cs) q.0 in
    (goes_on (SubsetUnit.instruction cs) _ [] (p.0, p.1), (p.0, p.1), subset_from us rest q.1)
subset_from (SubsetUnit.quoted r cs ∷ us) rest h =
    let q = and_parts (meets_quoted r cs) (meets_inner us) h in
    (goes_on (SubsetUnit.quoted r cs) _ [] q.0, q.0, subset_from us rest q.1)
subset_from (SubsetUnit.char c ∷ us) rest h =
    let w = flat_map written_inner us in
    let q = and_parts (is_inner_char c && not (begins (codes "<!--") (c ∷ w)) && not (begins (codes "<?") (c ∷ w))) (meets_inner us) h in
    let b = and_parts (is_inner_char c && not (begins (codes "<!--") (c ∷ w))) (not (begins (codes "<?") (c ∷ w))) q.0 in
    let a = and_parts (is_inner_char c) (not (begins (codes "<!--") (c ∷ w))) b.0 in
    let fit : FitInner (SubsetUnit.char c) (w ++ 93 ∷ rest) = (a.0, sym (same_comment c w rest) ∙ not-true _ a.1, sym (same_instruction c w rest) ∙ not-true _ b.1) in
    (goes_on (SubsetUnit.char c) _ (w ++ 93 ∷ rest) fit, fit, subset_from us rest q.1)

-- ---- the units of a declaration

abbrev FitUnitBy : UnitForm → DoctypeUnit → List ℕ → Type 0
FitUnitBy (with_quotes q) (DoctypeUnit.quoted r cs) rest = (q ≡ r) × (meets_quoted q cs ≡ true)
FitUnitBy with_subset (DoctypeUnit.subset us) rest = meets_inner us ≡ true
FitUnitBy with_character (DoctypeUnit.char c) rest = is_unit_char c ≡ true
FitUnitBy _ _ rest = ⊥

unit_quoted_back : (q : Quote) (u : DoctypeUnit) (rest : List ℕ) → FitUnitBy (with_quotes q) u rest → (cs : List ℕ) × (DoctypeUnit.quoted q cs ≡ u) × (meets_quoted q cs ≡ true)
unit_quoted_back q (DoctypeUnit.quoted r cs) rest h = (cs, ap (λ (s : Quote). DoctypeUnit.quoted s cs) h.0, h.1)
unit_quoted_back q (DoctypeUnit.subset cs) rest h = absurd h
unit_quoted_back q (DoctypeUnit.char c) rest h = absurd h

unit_subset_back : (u : DoctypeUnit) (rest : List ℕ) → FitUnitBy with_subset u rest → (p : Unit {0} × (List SubsetUnit × Unit {0})) × (DoctypeUnit.subset p.1.0 ≡ u) × (Unit {0} × (FitMany in_subset written_inner FitInner p.1.0 (93 ∷ rest) × Unit {0}))
unit_subset_back (DoctypeUnit.subset us) rest h = ((tt, (us, tt)), refl, (tt, (subset_from us rest h, tt)))
unit_subset_back (DoctypeUnit.quoted r cs) rest h = absurd h
unit_subset_back (DoctypeUnit.char c) rest h = absurd h

unit_char_back : (u : DoctypeUnit) (rest : List ℕ) → FitUnitBy with_character u rest → (c : ℕ) × (DoctypeUnit.char c ≡ u) × (is_unit_char c ≡ true)
unit_char_back (DoctypeUnit.char c) rest h = (c, refl, h)
unit_char_back (DoctypeUnit.subset cs) rest h = absurd h
unit_char_back (DoctypeUnit.quoted q cs) rest h = absurd h

pub subset_reads : IsReader read_subset (flat_map written_inner) (FitMany in_subset written_inner FitInner)
unfolding read_subset
subset_reads = many_reads in_subset read_inner written_inner FitInner inner_pos inner_reads

unit_by_reads : (k : UnitForm) → IsReader (read_unit_by k) written_unit (FitUnitBy k)
unit_by_reads (with_quotes q) = mapped_reads (DoctypeUnit.quoted q) written_unit (FitUnitBy (with_quotes q)) (quoted_reads q) (λ cs. refl) (λ cs rest h. (refl, h)) (unit_quoted_back q)
unit_by_reads with_subset =
    mapped_reads (λ p. DoctypeUnit.subset p.1.0) written_unit (FitUnitBy with_subset) (both_reads (word_reads (codes "[")) (λ _ _ _. both_reads subset_reads (λ _ _ _. word_reads (codes "]"))))
    (λ p. refl) (λ p rest h. subset_to p.1.0 rest h.1.0) unit_subset_back
unit_by_reads with_character = mapped_reads DoctypeUnit.char written_unit (FitUnitBy with_character) (one_of_reads is_unit_char) (λ c. refl) (λ c rest h. h) unit_char_back

abbrev pub FitUnit : DoctypeUnit → List ℕ → Type 0
FitUnit u rest = meets_unit u ≡ true

unit_to : (k : UnitForm) (u : DoctypeUnit) (rest : List ℕ) → FitUnitBy k u rest → FitUnit u rest
unit_to (with_quotes r) (DoctypeUnit.quoted q cs) rest h = subst (λ (s : Quote). meets_quoted s cs ≡ true) h.0 h.1
unit_to (with_quotes r) (DoctypeUnit.subset us) rest h = absurd h
unit_to (with_quotes r) (DoctypeUnit.char c) rest h = absurd h
unit_to with_subset (DoctypeUnit.subset us) rest h = h
unit_to with_subset (DoctypeUnit.quoted q cs) rest h = absurd h
unit_to with_subset (DoctypeUnit.char c) rest h = absurd h
unit_to with_character (DoctypeUnit.char c) rest h = h
unit_to with_character (DoctypeUnit.quoted q cs) rest h = absurd h
unit_to with_character (DoctypeUnit.subset us) rest h = absurd h

pub record UnitChar (c : ℕ) : Type 0 where
  pub char : is_char c ≡ true
  pub no_double : (c == 34) ≡ false
  pub no_single : (c == 39) ≡ false
  pub no_open : (c == 91) ≡ false
  pub no_end : (c == 62) ≡ false

pub unit_char : (c : ℕ) → is_unit_char c ≡ true → UnitChar c
unit_char c h =
    let a = and_parts (is_char c) _ h in
    let d = and_parts (not (c == 34)) _ a.1 in
    let s = and_parts (not (c == 39)) _ d.1 in
    let o = and_parts (not (c == 91)) _ s.1 in
    let e = and_parts (not (c == 93)) _ o.1 in
    let l = and_parts (not (c == 60)) _ e.1 in
    let g = and_parts (not (c == 62)) true l.1 in
    record { char = a.0; no_double = not-true _ d.0; no_single = not-true _ s.0; no_open = not-true _ o.0; no_end = not-true _ g.0 }

unit_form_is : (c : ℕ) (rest : List ℕ) → is_unit_char c ≡ true → unit_form (c ∷ rest) ≡ with_character
unfolding unit_form
unit_form_is c rest h =
    let k = unit_char c h in
    rw (head_of c rest 34 (lit< tt), k.no_double, head_of c rest 39 (lit< tt), k.no_single, head_of c rest 91 (lit< tt), k.no_open) refl

unit_from : (u : DoctypeUnit) (rest : List ℕ) → FitUnit u rest → FitUnitBy (unit_form (written_unit u ++ rest)) u rest
unfolding unit_form ascii_head
unit_from (DoctypeUnit.quoted single cs) rest h = (refl, h)
unit_from (DoctypeUnit.quoted double cs) rest h = (refl, h)
unit_from (DoctypeUnit.subset us) rest h = h
unit_from (DoctypeUnit.char c) rest h = subst (λ (k : UnitForm). FitUnitBy k (DoctypeUnit.char c) rest) (sym (unit_form_is c rest h)) h

pub unit_reads : IsReader read_unit written_unit FitUnit
unfolding read_unit
unit_reads = reads_as FitUnit (choose_by_reads unit_form unit_by_reads) (λ u rest h. unit_to (unit_form (written_unit u ++ rest)) u rest h) unit_from

pub unit_pos : (u : DoctypeUnit) → 0 < length (written_unit u)
unit_pos (DoctypeUnit.quoted q cs) = omega arith
unit_pos (DoctypeUnit.subset us) = omega arith
unit_pos (DoctypeUnit.char c) = omega arith

in_doctype_is : (c : ℕ) (rest : List ℕ) → in_doctype (c ∷ rest) ≡ not (c == 62)
unfolding in_doctype
in_doctype_is c rest = ap not (head_of c rest 62 (lit< tt))

unit_goes_on : (u : DoctypeUnit) (rest : List ℕ) → meets_unit u ≡ true → in_doctype (written_unit u ++ rest) ≡ true
unit_goes_on (DoctypeUnit.quoted single cs) rest h = in_doctype_is 39 _
unit_goes_on (DoctypeUnit.quoted double cs) rest h = in_doctype_is 34 _
unit_goes_on (DoctypeUnit.subset us) rest h = in_doctype_is 91 _
unit_goes_on (DoctypeUnit.char c) rest h = in_doctype_is c rest ∙ not_from_false _ (unit_char c h).no_end

abbrev pub FitUnits : List DoctypeUnit → List ℕ → Type 0
FitUnits us rest = FitMany in_doctype written_unit FitUnit us rest × (has_one_subset us ≡ true)

pub units_reads : IsReader read_units written_units FitUnits
unfolding read_units
units_reads = kept_reads has_one_subset (many in_doctype read_unit) written_units (FitMany in_doctype written_unit FitUnit) (many_reads in_doctype read_unit written_unit FitUnit unit_pos unit_reads)

units_to : (us : List DoctypeUnit) (rest : List ℕ) → FitMany in_doctype written_unit FitUnit us rest → list_all meets_unit us ≡ true
units_to [] rest h = refl
units_to (u ∷ us) rest h = and_from (meets_unit u) _ h.1 (units_to us rest h.2)

units_from : (us : List DoctypeUnit) (rest : List ℕ) → list_all meets_unit us ≡ true → FitMany in_doctype written_unit FitUnit us (62 ∷ rest)
units_from [] rest h = in_doctype_is 62 rest
units_from (u ∷ us) rest h = let q = and_parts (meets_unit u) (list_all meets_unit us) h in (unit_goes_on u _ q.0, q.0, units_from us rest q.1)

-- ---- the declaration

name_62 : is_name_char 62 ≡ false
unfolding is_name_char is_name_start in_ranges
name_62 = refl

units_stop : (w rest : List ℕ) → begins_with_name_char w ≡ false → StopsBy is_name_char (w ++ 62 ∷ rest)
units_stop [] rest h = name_62
units_stop (c ∷ w) rest h = h

units_begin : (w rest : List ℕ) → StopsBy is_name_char ((w ++ 62 ∷ []) ++ rest) → begins_with_name_char w ≡ false
units_begin [] rest h = refl
units_begin (c ∷ w) rest h = h

abbrev pub FitDoctype : Item → List ℕ → Type 0
FitDoctype (leaf (doctype d)) rest = meets_doctype d ≡ true
FitDoctype _ rest = ⊥

abbrev DoctypeParts : Type 0
DoctypeParts = Unit {0} × (List ℕ × (List ℕ × (List DoctypeUnit × Unit {0})))

FitDoctypeParts : DoctypeParts → List ℕ → Type 0
FitDoctypeParts p rest =
    Unit {0} × ((FitSpace p.1.0 ((p.1.1.0 ++ (written_units p.1.1.1.0 ++ 62 ∷ [])) ++ rest) × (some_space p.1.0 ≡ true)) × (FitName p.1.1.0 ((written_units p.1.1.1.0 ++ 62 ∷ []) ++ rest) × (FitUnits p.1.1.1.0 (62 ∷ rest) × Unit {0})))

pub record Doctyped (d : Doctype) : Type 0 where
  pub space : is_white d.space ≡ true
  pub name : is_name d.name ≡ true
  pub no_name : begins_with_name_char (written_units d.units) ≡ false
  pub units : list_all meets_unit d.units ≡ true
  pub one : has_one_subset d.units ≡ true

pub doctyped : (d : Doctype) → meets_doctype d ≡ true → Doctyped d
doctyped d h =
    let o = and_parts _ (has_one_subset d.units) h in
    let u = and_parts _ (list_all meets_unit d.units) o.0 in
    let b = and_parts _ (not (begins_with_name_char (written_units d.units))) u.0 in
    let n = and_parts (is_white d.space) (is_name d.name) b.0 in
    record { space = n.0; name = n.1; no_name = not-true _ b.1; units = u.1; one = o.1 }

pub doctyped_from : (d : Doctype) → Doctyped d → meets_doctype d ≡ true
doctyped_from d h = and_from _ _ (and_from _ _ (and_from _ _ (and_from _ _ h.space h.name) (not_from_false _ h.no_name)) h.units) h.one

doctype_fits : (d : Doctype) (rest : List ℕ) → meets_doctype d ≡ true → FitDoctypeParts (tt, (d.space, (d.name, (d.units, tt)))) rest
unfolding FitDoctypeParts
doctype_fits d rest m =
    let h = doctyped d m in (
      tt,
      (
        ((white_blank d.space h.space, by_assoc is_space d.name _ rest (name_stops_space d.name _ h.name)), white_some d.space h.space),
        ((h.name, by_assoc is_name_char (written_units d.units) (62 ∷ []) rest (units_stop (written_units d.units) rest h.no_name)), ((units_from d.units rest h.units, h.one), tt)),
      ),
    )

doctype_back : (i : Item) (rest : List ℕ) → FitDoctype i rest → (p : DoctypeParts) × (doctype_of p ≡ i) × FitDoctypeParts p rest
doctype_back (leaf (doctype d)) rest h = ((tt, (d.space, (d.name, (d.units, tt)))), refl, doctype_fits d rest h)
doctype_back (leaf (Leaf.text ps)) rest h = absurd h
doctype_back (leaf (cdata cs)) rest h = absurd h
doctype_back (leaf (Leaf.comment cs)) rest h = absurd h
doctype_back (leaf (Leaf.instruction x)) rest h = absurd h
doctype_back (leaf (declaration d)) rest h = absurd h
doctype_back (start_tag t) rest h = absurd h
doctype_back (empty_tag t) rest h = absurd h
doctype_back (end_tag n s) rest h = absurd h

doctype_spelled : (s n w : List ℕ) → codes "<!DOCTYPE" ++ s ++ n ++ w ++ codes ">" ≡ codes "<!DOCTYPE" ++ (s ++ (n ++ (w ++ codes ">")))
doctype_spelled s n w = simp append_assoc

pub doctype_reads : IsReader read_doctype written FitDoctype
unfolding read_doctype FitDoctypeParts
doctype_reads = mapped_reads doctype_of written FitDoctype
    (both_reads (word_reads (codes "<!DOCTYPE")) (λ _ _ _. both_reads (kept_reads some_space read_space (λ s. s) FitSpace space_reads) (λ _ _ _. both_reads name_reads (λ _ _ _. both_reads units_reads (λ _ _ _. word_reads (codes ">"))))))
    (λ p. doctype_spelled p.1.0 p.1.1.0 (written_units p.1.1.1.0))
    (λ p rest h. doctyped_from record { space = p.1.0; name = p.1.1.0; units = p.1.1.1.0 } record {
      space = white_from p.1.0 h.1.0.0.0 h.1.0.1;
      name = h.1.1.0.0;
      no_name = units_begin (written_units p.1.1.1.0) rest h.1.1.0.1;
      units = units_to p.1.1.1.0 (62 ∷ rest) h.1.1.1.0.0;
      one = h.1.1.1.0.1;
    })
    doctype_back
