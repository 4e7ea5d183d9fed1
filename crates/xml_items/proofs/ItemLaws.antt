-- What the reader of items reads, and that it reads it.
use Rattle.std.proofs.Common.{◌≡◌, ℕ, Bool, true, false, cond, List, [], ◌∷◌, ◌++◌, Option, None, refl, sym, ap, subst, ◌∙◌, append_assoc}
use Rattle.std.specs.Prelude.{codes, ◌&&◌, ◌==◌, not, bytes_eq}
use Rattle.std.specs.List.{list_all}
use Rattle.std.proofs.lemmas.Slice.Eq.{bytes_eq-Decides}
use Rattle.std.proofs.lemmas.Bool.{false≢true, and_parts, ne_eqb, eq-eqb, not-true, false_from_ne_true}
use Rattle.xml_model.specs.Chars.{in_ranges, is_char, is_name_start, is_name_char, is_name}
use Rattle.xml_model.specs.Items.{Piece, literal, entity, decimal, hexadecimal, Leaf, cdata, declaration, doctype, Instruction, Declaration, Doctype, Tag, Item, start_tag, empty_tag, end_tag, leaf, written, written_piece, written_pieces, written_units, written_attributes, written_attribute, written_option, meets, meets_piece, ends_well, is_nil, is_version}
use Rattle.xml_chars.specs.Readers.{Reader}
use Rattle.xml_chars.proofs.Readers.{IsReader, reads_as, choose_by_reads, StopsBy}
use Rattle.xml_chars.proofs.NameLaws.{name_reads}
use Rattle.xml_items.specs.Reading.{ends_text, is_name_read, is_xml, ItemForm, as_text, as_tag, as_end_tag, as_comment, as_cdata, as_doctype, as_instruction, as_declaration, item_form, read_by, read_item}
use Rattle.xml_items.specs.MayBegin.{may_begin}
use Rattle.xml_items.proofs.TagLaws.{FitTag, tag_reads, FitEnd, end_reads, tagged, attributed, attribute_split, attribute_tail, white_stops_name}
use Rattle.xml_items.proofs.MarkLaws.{FitComment, comment_reads, FitCdata, cdata_reads, FitInstruction, instruction_reads, instructed, target_stops}
use Rattle.xml_items.proofs.DeclarationLaws.{FitDeclaration, declaration_reads, declared, part_of}
use Rattle.xml_items.proofs.DoctypeLaws.{FitDoctype, doctype_reads}
use Rattle.xml_items.proofs.TextLaws.{none, FitText, text_reads}

abbrev pub FitItem : Bool → Item → List ℕ → Type 0
FitItem first i rest = (meets i ≡ true) × (ends_well i rest ≡ true) × (may_begin first i ≡ true)

-- ---- the readers by form

abbrev FitBy : Bool → ItemForm → Item → List ℕ → Type 0
FitBy first as_text i rest = FitText i rest
FitBy first as_tag i rest = FitTag i rest
FitBy first as_end_tag i rest = FitEnd i rest
FitBy first as_comment i rest = FitComment i rest
FitBy first as_cdata i rest = FitCdata i rest
FitBy first as_doctype i rest = FitDoctype i rest
FitBy first as_instruction i rest = FitInstruction i rest
FitBy true as_declaration i rest = FitDeclaration i rest
FitBy false as_declaration i rest = ⊥

abbrev nothing : Reader Item
nothing text = None

nothing_reads : IsReader nothing written (λ i rest. ⊥)
nothing_reads = record { takes = λ text x rest e. absurd (cc); again = λ x rest h. absurd h }

by_reads : (first : Bool) (k : ItemForm) → IsReader (read_by first k) written (FitBy first k)
by_reads first as_text = text_reads
by_reads first as_tag = tag_reads
by_reads first as_end_tag = end_reads
by_reads first as_comment = comment_reads
by_reads first as_cdata = cdata_reads
by_reads first as_doctype = doctype_reads
by_reads first as_instruction = instruction_reads
by_reads true as_declaration = declaration_reads
by_reads false as_declaration = nothing_reads

holds_any : (first : Bool) (i : Item) → may_begin false i ≡ true → may_begin first i ≡ true
holds_any true i h = refl
holds_any false i h = h

as_text_to : (first : Bool) (i : Item) (rest : List ℕ) → FitText i rest → FitItem first i rest
unfolding meets
as_text_to first (leaf (Leaf.text ps)) rest h = (h.0, h.1, holds_any first (leaf (Leaf.text ps)) refl)
as_text_to first (leaf (cdata cs)) rest h = absurd h
as_text_to first (leaf (Leaf.comment cs)) rest h = absurd h
as_text_to first (leaf (Leaf.instruction x)) rest h = absurd h
as_text_to first (leaf (declaration d)) rest h = absurd h
as_text_to first (leaf (doctype d)) rest h = absurd h
as_text_to first (start_tag t) rest h = absurd h
as_text_to first (empty_tag t) rest h = absurd h
as_text_to first (end_tag n s) rest h = absurd h

as_tag_to : (first : Bool) (i : Item) (rest : List ℕ) → FitTag i rest → FitItem first i rest
unfolding meets
as_tag_to first (leaf (Leaf.text ps)) rest h = absurd h
as_tag_to first (leaf (cdata cs)) rest h = absurd h
as_tag_to first (leaf (Leaf.comment cs)) rest h = absurd h
as_tag_to first (leaf (Leaf.instruction x)) rest h = absurd h
as_tag_to first (leaf (declaration d)) rest h = absurd h
as_tag_to first (leaf (doctype d)) rest h = absurd h
as_tag_to first (start_tag t) rest h = (h, refl, holds_any first (start_tag t) refl)
as_tag_to first (empty_tag t) rest h = (h, refl, holds_any first (empty_tag t) refl)
as_tag_to first (end_tag n s) rest h = absurd h

as_end_tag_to : (first : Bool) (i : Item) (rest : List ℕ) → FitEnd i rest → FitItem first i rest
unfolding meets
as_end_tag_to first (leaf (Leaf.text ps)) rest h = absurd h
as_end_tag_to first (leaf (cdata cs)) rest h = absurd h
as_end_tag_to first (leaf (Leaf.comment cs)) rest h = absurd h
as_end_tag_to first (leaf (Leaf.instruction x)) rest h = absurd h
as_end_tag_to first (leaf (declaration d)) rest h = absurd h
as_end_tag_to first (leaf (doctype d)) rest h = absurd h
as_end_tag_to first (start_tag t) rest h = absurd h
as_end_tag_to first (empty_tag t) rest h = absurd h
as_end_tag_to first (end_tag n s) rest h = (h, refl, holds_any first (end_tag n s) refl)

as_comment_to : (first : Bool) (i : Item) (rest : List ℕ) → FitComment i rest → FitItem first i rest
unfolding meets
as_comment_to first (leaf (Leaf.text ps)) rest h = absurd h
as_comment_to first (leaf (cdata cs)) rest h = absurd h
as_comment_to first (leaf (Leaf.comment cs)) rest h = (h, refl, holds_any first (leaf (Leaf.comment cs)) refl)
as_comment_to first (leaf (Leaf.instruction x)) rest h = absurd h
as_comment_to first (leaf (declaration d)) rest h = absurd h
as_comment_to first (leaf (doctype d)) rest h = absurd h
as_comment_to first (start_tag t) rest h = absurd h
as_comment_to first (empty_tag t) rest h = absurd h
as_comment_to first (end_tag n s) rest h = absurd h

as_cdata_to : (first : Bool) (i : Item) (rest : List ℕ) → FitCdata i rest → FitItem first i rest
unfolding meets
as_cdata_to first (leaf (Leaf.text ps)) rest h = absurd h
as_cdata_to first (leaf (cdata cs)) rest h = (h, refl, holds_any first (leaf (cdata cs)) refl)
as_cdata_to first (leaf (Leaf.comment cs)) rest h = absurd h
as_cdata_to first (leaf (Leaf.instruction x)) rest h = absurd h
as_cdata_to first (leaf (declaration d)) rest h = absurd h
as_cdata_to first (leaf (doctype d)) rest h = absurd h
as_cdata_to first (start_tag t) rest h = absurd h
as_cdata_to first (empty_tag t) rest h = absurd h
as_cdata_to first (end_tag n s) rest h = absurd h

as_doctype_to : (first : Bool) (i : Item) (rest : List ℕ) → FitDoctype i rest → FitItem first i rest
unfolding meets
as_doctype_to first (leaf (Leaf.text ps)) rest h = absurd h
as_doctype_to first (leaf (cdata cs)) rest h = absurd h
as_doctype_to first (leaf (Leaf.comment cs)) rest h = absurd h
as_doctype_to first (leaf (Leaf.instruction x)) rest h = absurd h
as_doctype_to first (leaf (declaration d)) rest h = absurd h
as_doctype_to first (leaf (doctype d)) rest h = (h, refl, holds_any first (leaf (doctype d)) refl)
as_doctype_to first (start_tag t) rest h = absurd h
as_doctype_to first (empty_tag t) rest h = absurd h
as_doctype_to first (end_tag n s) rest h = absurd h

as_instruction_to : (first : Bool) (i : Item) (rest : List ℕ) → FitInstruction i rest → FitItem first i rest
unfolding meets
as_instruction_to first (leaf (Leaf.text ps)) rest h = absurd h
as_instruction_to first (leaf (cdata cs)) rest h = absurd h
as_instruction_to first (leaf (Leaf.comment cs)) rest h = absurd h
as_instruction_to first (leaf (Leaf.instruction x)) rest h = (h, refl, holds_any first (leaf (Leaf.instruction x)) refl)
as_instruction_to first (leaf (declaration d)) rest h = absurd h
as_instruction_to first (leaf (doctype d)) rest h = absurd h
as_instruction_to first (start_tag t) rest h = absurd h
as_instruction_to first (empty_tag t) rest h = absurd h
as_instruction_to first (end_tag n s) rest h = absurd h

as_declaration_to : (i : Item) (rest : List ℕ) → FitDeclaration i rest → FitItem true i rest
unfolding meets
as_declaration_to (leaf (Leaf.text ps)) rest h = absurd h
as_declaration_to (leaf (cdata cs)) rest h = absurd h
as_declaration_to (leaf (Leaf.comment cs)) rest h = absurd h
as_declaration_to (leaf (Leaf.instruction x)) rest h = absurd h
as_declaration_to (leaf (declaration d)) rest h = (h, refl, refl)
as_declaration_to (leaf (doctype d)) rest h = absurd h
as_declaration_to (start_tag t) rest h = absurd h
as_declaration_to (empty_tag t) rest h = absurd h
as_declaration_to (end_tag n s) rest h = absurd h

item_to : (first : Bool) (k : ItemForm) (i : Item) (rest : List ℕ) → FitBy first k i rest → FitItem first i rest
item_to first as_text i rest h = as_text_to first i rest h
item_to first as_tag i rest h = as_tag_to first i rest h
item_to first as_end_tag i rest h = as_end_tag_to first i rest h
item_to first as_comment i rest h = as_comment_to first i rest h
item_to first as_cdata i rest h = as_cdata_to first i rest h
item_to first as_doctype i rest h = as_doctype_to first i rest h
item_to first as_instruction i rest h = as_instruction_to first i rest h
item_to true as_declaration i rest h = as_declaration_to i rest h
item_to false as_declaration i rest h = absurd h

-- ---- the form of an item by its first characters

start_47 : is_name_start 47 ≡ false
unfolding is_name_start in_ranges
start_47 = refl

start_63 : is_name_start 63 ≡ false
unfolding is_name_start in_ranges
start_63 = refl

start_33 : is_name_start 33 ≡ false
unfolding is_name_start in_ranges
start_33 = refl

not_start : (b c : ℕ) → is_name_start b ≡ false → is_name_start c ≡ true → (b == c) ≡ false
not_start b c f h = ne_eqb b c (λ e. false≢true (sym f ∙ ap is_name_start e ∙ h))

tag_form : (n rest : List ℕ) → is_name n ≡ true → item_form (60 ∷ (n ++ rest)) ≡ as_tag
unfolding item_form is_name
tag_form [] rest h = absurd (false≢true h)
tag_form (c ∷ n) rest h =
    let s = (and_parts (is_name_start c) (list_all is_name_char n) h).0 in
    rw (not_start 47 c start_47 s, not_start 63 c start_63 s, not_start 33 c start_33 s) refl

text_form : (c : ℕ) (rest : List ℕ) → (c == 60) ≡ false → item_form (c ∷ rest) ≡ as_text
unfolding item_form
text_form c rest h = rw (ne_eqb 60 c (λ e. false≢true (sym h ∙ eq-eqb c 60 (sym e)))) refl

question_form : (n rest : List ℕ) (b : Bool) → is_name n ≡ true → StopsBy is_name_char rest → bytes_eq n (codes "xml") ≡ b → item_form (60 ∷ 63 ∷ (n ++ rest)) ≡ cond b as_declaration as_instruction
unfolding item_form
question_form n rest b h stops e = ap (λ (o : Option (List ℕ × List ℕ)). cond (is_name_read (codes "xml") o) as_declaration as_instruction) (name_reads.again n rest (h, stops)) ∙ ap (λ (x : Bool). cond x as_declaration as_instruction) e

not_xml : (n : List ℕ) → not (is_xml n) ≡ true → bytes_eq n (codes "xml") ≡ false
not_xml n h = false_from_ne_true _ (λ t.
    let is : n ≡ codes "xml" = (bytes_eq-Decides n (codes "xml")).0 t in
    let no : not (is_xml n) ≡ false = ap (λ (l : List ℕ). not (is_xml l)) is in
    false≢true (sym no ∙ h))

instruction_split : (i : Instruction) (rest : List ℕ) → written (leaf (Leaf.instruction i)) ++ rest ≡ 60 ∷ 63 ∷ (i.target ++ (i.space ++ (i.content ++ 63 ∷ 62 ∷ rest)))
instruction_split i rest = simp append_assoc

declaration_split : (v e s sp rest : List ℕ) → (codes "<?xml" ++ v ++ e ++ s ++ sp ++ codes "?>") ++ rest ≡ 60 ∷ 63 ∷ (codes "xml" ++ (v ++ (e ++ (s ++ (sp ++ 63 ∷ 62 ∷ rest)))))
declaration_split v e s sp rest = simp append_assoc

xml_name : is_name (codes "xml") ≡ true
unfolding is_name is_name_start is_name_char in_ranges
xml_name = refl

declaration_form : (d : Declaration) (rest : List ℕ) → meets (leaf (declaration d)) ≡ true → item_form (written (leaf (declaration d)) ++ rest) ≡ as_declaration
unfolding meets
declaration_form d rest m =
    let h = declared d m in
    let v = part_of (codes "version") is_version d.version h.version in
    let after = written_option d.encoding ++ (written_option d.standalone ++ (d.space ++ 63 ∷ 62 ∷ rest)) in
    let stops : StopsBy is_name_char (written_attribute d.version ++ after) = subst (StopsBy is_name_char) (sym (attribute_split d.version after)) (white_stops_name d.version.space (d.version.name ++ (attribute_tail d.version ++ after)) (attributed d.version v.meets).space) in
    ap item_form (declaration_split (written_attribute d.version) (written_option d.encoding) (written_option d.standalone) d.space rest)
    ∙ question_form (codes "xml") (written_attribute d.version ++ after) true xml_name stops refl

tag_split : (n w sp rest : List ℕ) → (codes "<" ++ n ++ w ++ sp) ++ rest ≡ 60 ∷ (n ++ (w ++ (sp ++ rest)))
tag_split n w sp rest = simp append_assoc

-- a text begins with no <
piece_head : (p : Piece) (w : List ℕ) → meets_piece none p ≡ true → item_form (written_piece p ++ w) ≡ as_text
piece_head (literal c) w h =
    let a = and_parts (is_char c && not (c == 60) && not (c == 38)) (not false) h in
    let b = and_parts (is_char c && not (c == 60)) (not (c == 38)) a.0 in
    text_form c w (not-true _ (and_parts (is_char c) (not (c == 60)) b.0).1)
piece_head (entity n) w h = text_form 38 _ refl
piece_head (decimal n) w h = text_form 38 _ refl
piece_head (hexadecimal n) w h = text_form 38 _ refl

pieces_form : (ps : List Piece) (rest : List ℕ) → not (is_nil (written_pieces ps)) ≡ true → list_all (meets_piece none) ps ≡ true → item_form (written_pieces ps ++ rest) ≡ as_text
pieces_form [] rest h m = absurd (false≢true h)
pieces_form (p ∷ ps) rest h m = ap item_form (append_assoc (written_piece p) (written_pieces ps) rest) ∙ piece_head p (written_pieces ps ++ rest) (and_parts (meets_piece none p) (list_all (meets_piece none) ps) m).0

ends_is : (rest : List ℕ) (ps : List Piece) → ends_well (leaf (Leaf.text ps)) rest ≡ true → ends_text rest ≡ true
ends_is [] ps h = refl
ends_is (b ∷ rest) ps h = h

cdata_form : (w : List ℕ) → item_form (codes "<![CDATA[" ++ w) ≡ as_cdata
unfolding item_form
cdata_form w = refl

comment_form : (w : List ℕ) → item_form (codes "<!--" ++ w) ≡ as_comment
unfolding item_form
comment_form w = refl

doctype_form_by : (w : List ℕ) → item_form (codes "<!DOCTYPE" ++ w) ≡ as_doctype
unfolding item_form
doctype_form_by w = refl

doctype_form : (d : Doctype) (rest : List ℕ) → item_form (written (leaf (doctype d)) ++ rest) ≡ as_doctype
doctype_form d rest = doctype_form_by ((d.space ++ d.name ++ written_units d.units ++ codes ">") ++ rest)

end_form_by : (w : List ℕ) → item_form (codes "</" ++ w) ≡ as_end_tag
unfolding item_form
end_form_by w = refl

end_form : (n s rest : List ℕ) → item_form (written (end_tag n s) ++ rest) ≡ as_end_tag
end_form n s rest = end_form_by ((n ++ s ++ codes ">") ++ rest)

instruction_form : (i : Instruction) (rest : List ℕ) → meets (leaf (Leaf.instruction i)) ≡ true → item_form (written (leaf (Leaf.instruction i)) ++ rest) ≡ as_instruction
unfolding meets
instruction_form i rest m =
    let h = instructed i m in
    ap item_form (instruction_split i rest) ∙ question_form i.target (i.space ++ (i.content ++ 63 ∷ 62 ∷ rest)) false h.name (target_stops i.space i.content rest h.space h.parts) (not_xml i.target h.other)

start_form : (t : Tag) (rest : List ℕ) → meets (start_tag t) ≡ true → item_form (written (start_tag t) ++ rest) ≡ as_tag
unfolding meets
start_form t rest m = ap item_form (append_assoc (codes "<" ++ t.name ++ written_attributes t.attributes ++ t.space) (codes ">") rest ∙ tag_split t.name (written_attributes t.attributes) t.space (62 ∷ rest)) ∙ tag_form t.name (written_attributes t.attributes ++ (t.space ++ 62 ∷ rest)) (tagged t m).name

empty_form : (t : Tag) (rest : List ℕ) → meets (empty_tag t) ≡ true → item_form (written (empty_tag t) ++ rest) ≡ as_tag
unfolding meets
empty_form t rest m = ap item_form (append_assoc (codes "<" ++ t.name ++ written_attributes t.attributes ++ t.space) (codes "/>") rest ∙ tag_split t.name (written_attributes t.attributes) t.space (47 ∷ 62 ∷ rest)) ∙ tag_form t.name (written_attributes t.attributes ++ (t.space ++ 47 ∷ 62 ∷ rest)) (tagged t m).name

pub form_is : (first : Bool) (i : Item) (rest : List ℕ) → FitItem first i rest → FitBy first (item_form (written i ++ rest)) i rest
unfolding meets
form_is first (leaf (Leaf.text ps)) rest h =
    let l = and_parts (not (is_nil (written_pieces ps)) && list_all (meets_piece none) ps) _ h.0 in
    let q = and_parts (not (is_nil (written_pieces ps))) (list_all (meets_piece none) ps) l.0 in
    subst (λ (k : ItemForm). FitBy first k (leaf (Leaf.text ps)) rest) (sym (pieces_form ps rest q.0 q.1)) (h.0, ends_is rest ps h.1)
form_is first (leaf (cdata cs)) rest h = subst (λ (k : ItemForm). FitBy first k (leaf (cdata cs)) rest) (sym (cdata_form ((cs ++ codes "]]>") ++ rest))) h.0
form_is first (leaf (Leaf.comment cs)) rest h = subst (λ (k : ItemForm). FitBy first k (leaf (Leaf.comment cs)) rest) (sym (comment_form ((cs ++ codes "-->") ++ rest))) h.0
form_is first (leaf (Leaf.instruction x)) rest h = subst (λ (k : ItemForm). FitBy first k (leaf (Leaf.instruction x)) rest) (sym (instruction_form x rest h.0)) h.0
form_is true (leaf (declaration d)) rest h = subst (λ (k : ItemForm). FitBy true k (leaf (declaration d)) rest) (sym (declaration_form d rest h.0)) h.0
form_is false (leaf (declaration d)) rest h = absurd (false≢true h.2)
form_is first (leaf (doctype d)) rest h = subst (λ (k : ItemForm). FitBy first k (leaf (doctype d)) rest) (sym (doctype_form d rest)) h.0
form_is first (start_tag t) rest h = subst (λ (k : ItemForm). FitBy first k (start_tag t) rest) (sym (start_form t rest h.0)) h.0
form_is first (empty_tag t) rest h = subst (λ (k : ItemForm). FitBy first k (empty_tag t) rest) (sym (empty_form t rest h.0)) h.0
form_is first (end_tag n s) rest h = subst (λ (k : ItemForm). FitBy first k (end_tag n s) rest) (sym (end_form n s rest)) h.0

pub item_reads : (first : Bool) → IsReader (read_item first) written (FitItem first)
unfolding read_item
item_reads first = reads_as (FitItem first) (choose_by_reads item_form (by_reads first)) (λ i rest h. item_to first (item_form (written i ++ rest)) i rest h) (form_is first)
