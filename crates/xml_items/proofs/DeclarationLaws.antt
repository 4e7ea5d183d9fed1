-- What the reader of the XML declaration reads, and that it reads it.
use Rattle.std.proofs.Common.{◌≡◌, ℕ, Bool, true, false, List, [], ◌∷◌, ◌++◌, Option, Some, None, refl, sym, ap, subst, ◌∙◌, append_assoc}
use Rattle.std.specs.Prelude.{codes, ◌&&◌, bytes_eq}
use Rattle.std.proofs.lemmas.Slice.Eq.{bytes_eq-Decides}
use Rattle.std.proofs.lemmas.Bool.{and_parts, and_from}
use Rattle.xml_model.specs.Chars.{in_ranges, is_space, is_blank, is_name_start, is_name_char}
use Rattle.xml_model.specs.Items.{Leaf, cdata, declaration, doctype, Attribute, Declaration, Item, start_tag, empty_tag, end_tag, leaf, written, written_attribute, written_option, written_pieces, meets_attribute, meets_part, meets_part_if_there, meets_declaration, is_version, is_encoding_name, is_yes_or_no}
use Rattle.xml_chars.specs.Readers.{after_run}
use Rattle.xml_chars.specs.Reading.{read_name}
use Rattle.xml_chars.proofs.Readers.{IsReader, reads_as, both_reads, mapped_reads, kept_reads, word_reads, look_at_reads, choose_by_reads, StopsBy}
use Rattle.xml_chars.proofs.NameLaws.{name_reads, space_reads, FitSpace}
use Rattle.xml_items.specs.Reading.{is_part, read_part, is_name_read, begins_part, read_option_by, read_option, declaration_of, read_declaration, read_attribute}
use Rattle.xml_items.proofs.TagLaws.{attribute_reads, FitAttribute, attributed, attribute_tail, attribute_split, after_space, white_blank, name_stops_space, space_stops_name, by_assoc}
use Rattle.xml_items.proofs.TagLaws.{name_61}

-- ---- one part

abbrev pub FitPart : List ℕ → (List ℕ → Bool) → Attribute → List ℕ → Type 0
FitPart name test a rest = meets_part name test a ≡ true

part_to : (name : List ℕ) (test : List ℕ → Bool) (a : Attribute) → meets_attribute a ≡ true → is_part name test a ≡ true → meets_part name test a ≡ true
part_to name test a m p = let q = and_parts (bytes_eq a.name name) (test (written_pieces a.value)) p in and_from _ _ (and_from _ _ m q.0) q.1

pub record Part (name : List ℕ) (test : List ℕ → Bool) (a : Attribute) : Type 0 where
  pub meets : meets_attribute a ≡ true
  pub named : bytes_eq a.name name ≡ true
  pub tested : test (written_pieces a.value) ≡ true

pub part_of : (name : List ℕ) (test : List ℕ → Bool) (a : Attribute) → meets_part name test a ≡ true → Part name test a
part_of name test a h =
    let t = and_parts (meets_attribute a && bytes_eq a.name name) (test (written_pieces a.value)) h in
    let n = and_parts (meets_attribute a) (bytes_eq a.name name) t.0 in
    record { meets = n.0; named = n.1; tested = t.1 }

pub part_reads : (name : List ℕ) (test : List ℕ → Bool) → IsReader (read_part name test) written_attribute (FitPart name test)
unfolding read_part
part_reads name test = reads_as (FitPart name test) (kept_reads (is_part name test) read_attribute written_attribute FitAttribute attribute_reads)
    (λ a rest h. part_to name test a h.0 h.1) (λ a rest h. let p = part_of name test a h in (p.meets, and_from _ _ p.named p.tested))

pub part_name : (name : List ℕ) (a : Attribute) (rest : List ℕ) → meets_attribute a ≡ true → begins_part name (written_attribute a ++ rest) ≡ bytes_eq a.name name
unfolding begins_part
part_name name a rest m =
    let h = attributed a m in
    let stops : StopsBy is_name_char (attribute_tail a ++ rest) = by_assoc is_name_char a.left _ rest (space_stops_name a.left _ h.left name_61) in
    ap (λ (l : List ℕ). is_name_read name (read_name (after_run is_space l))) (attribute_split a rest)
    ∙ ap (λ (l : List ℕ). is_name_read name (read_name l)) (after_space a.space (a.name ++ (attribute_tail a ++ rest)) (white_blank a.space h.space) (name_stops_space a.name (attribute_tail a ++ rest) h.name))
    ∙ ap (is_name_read name) (name_reads.again a.name (attribute_tail a ++ rest) (h.name, stops))

-- ---- a part that may be left out

abbrev FitOptionBy : List ℕ → (List ℕ → Bool) → Bool → Option Attribute → List ℕ → Type 0
FitOptionBy name test true (Some a) rest = meets_part name test a ≡ true
FitOptionBy name test false None rest = Unit {0}
FitOptionBy name test _ _ rest = ⊥

some_back : (name : List ℕ) (test : List ℕ → Bool) (o : Option Attribute) (rest : List ℕ) → FitOptionBy name test true o rest → (a : Attribute) × (Some a ≡ o) × (meets_part name test a ≡ true)
some_back name test None rest h = absurd h
some_back name test (Some a) rest h = (a, refl, h)

none_back : (name : List ℕ) (test : List ℕ → Bool) (o : Option Attribute) (rest : List ℕ) → FitOptionBy name test false o rest → (u : Unit {0}) × ◌≡◌ {A = Option Attribute} None o × (true ≡ true)
none_back name test None rest h = (tt, refl, refl)
none_back name test (Some a) rest h = absurd h

option_by_reads : (name : List ℕ) (test : List ℕ → Bool) (b : Bool) → IsReader (read_option_by name test b) written_option (FitOptionBy name test b)
option_by_reads name test true = mapped_reads Some written_option (FitOptionBy name test true) (part_reads name test) (λ x. refl) (λ x rest h. h) (some_back name test)
option_by_reads name test false = mapped_reads (λ _. None) written_option (FitOptionBy name test false) (look_at_reads (λ _. true)) (λ x. refl) (λ x rest h. tt) (none_back name test)

abbrev pub FitOption : List ℕ → (List ℕ → Bool) → Option Attribute → List ℕ → Type 0
FitOption name test None rest = begins_part name rest ≡ false
FitOption name test (Some a) rest = meets_part name test a ≡ true

option_to : (name : List ℕ) (test : List ℕ → Bool) (o : Option Attribute) (rest : List ℕ) (b : Bool) → begins_part name (written_option o ++ rest) ≡ b → FitOptionBy name test b o rest → FitOption name test o rest
option_to name test None rest true e h = absurd h
option_to name test None rest false e h = e
option_to name test (Some a) rest true e h = h
option_to name test (Some a) rest false e h = absurd h

option_from : (name : List ℕ) (test : List ℕ → Bool) (o : Option Attribute) (rest : List ℕ) → FitOption name test o rest → FitOptionBy name test (begins_part name (written_option o ++ rest)) o rest
option_from name test None rest h = subst (λ (b : Bool). FitOptionBy name test b None rest) (sym h) tt
option_from name test (Some a) rest h =
    let p = part_of name test a h in
    subst (λ (b : Bool). FitOptionBy name test b (Some a) rest) (sym (part_name name a rest p.meets ∙ p.named)) h

pub option_reads : (name : List ℕ) (test : List ℕ → Bool) → IsReader (read_option name test) written_option (FitOption name test)
unfolding read_option
option_reads name test = reads_as (FitOption name test) (choose_by_reads (begins_part name) (option_by_reads name test))
    (λ o rest h. option_to name test o rest (begins_part name (written_option o ++ rest)) refl h) (option_from name test)

-- ---- the declaration

pub space_63 : is_space 63 ≡ false
unfolding is_space in_ranges
space_63 = refl

no_name_63 : (name rest : List ℕ) → is_name_read name (read_name (63 ∷ 62 ∷ rest)) ≡ false
unfolding read_name is_name_char is_name_start in_ranges
no_name_63 name rest = refl

no_part_at_end : (name sp rest : List ℕ) → is_blank sp ≡ true → begins_part name (sp ++ 63 ∷ 62 ∷ rest) ≡ false
unfolding begins_part
no_part_at_end name sp rest h =
    ap (λ (l : List ℕ). is_name_read name (read_name l)) (after_space sp (63 ∷ 62 ∷ rest) h space_63) ∙ no_name_63 name rest

there : (name : List ℕ) (test : List ℕ → Bool) (o : Option Attribute) (rest : List ℕ) → meets_part_if_there name test o ≡ true → begins_part name rest ≡ false → FitOption name test o rest
there name test None rest h e = e
there name test (Some a) rest h e = h

is_there : (name : List ℕ) (test : List ℕ → Bool) (o : Option Attribute) (rest : List ℕ) → FitOption name test o rest → meets_part_if_there name test o ≡ true
is_there name test None rest h = refl
is_there name test (Some a) rest h = h

-- no encoding is where a standalone or the end does
not_encoding : (o : Option Attribute) (sp rest : List ℕ) → meets_part_if_there (codes "standalone") is_yes_or_no o ≡ true → is_blank sp ≡ true → begins_part (codes "encoding") (written_option o ++ (sp ++ 63 ∷ 62 ∷ rest)) ≡ false
not_encoding None sp rest h b = no_part_at_end (codes "encoding") sp rest b
not_encoding (Some a) sp rest h b =
    let p = part_of (codes "standalone") is_yes_or_no a h in
    let is : a.name ≡ codes "standalone" = (bytes_eq-Decides a.name (codes "standalone")).0 p.named in
    part_name (codes "encoding") a (sp ++ 63 ∷ 62 ∷ rest) p.meets ∙ ap (λ (l : List ℕ). bytes_eq l (codes "encoding")) is

abbrev pub FitDeclaration : Item → List ℕ → Type 0
FitDeclaration (leaf (declaration d)) rest = meets_declaration d ≡ true
FitDeclaration _ rest = ⊥

abbrev DeclarationParts : Type 0
DeclarationParts = Unit {0} × (Attribute × (Option Attribute × (Option Attribute × (List ℕ × Unit {0}))))

FitDeclarationParts : DeclarationParts → List ℕ → Type 0
FitDeclarationParts p rest =
    Unit {0} × (FitPart (codes "version") is_version p.1.0 ((written_option p.1.1.0 ++ (written_option p.1.1.1.0 ++ (p.1.1.1.1.0 ++ 63 ∷ 62 ∷ []))) ++ rest)
    × (FitOption (codes "encoding") is_encoding_name p.1.1.0 ((written_option p.1.1.1.0 ++ (p.1.1.1.1.0 ++ 63 ∷ 62 ∷ [])) ++ rest) × (FitOption (codes "standalone") is_yes_or_no p.1.1.1.0 ((p.1.1.1.1.0 ++ 63 ∷ 62 ∷ []) ++ rest) × (FitSpace p.1.1.1.1.0 (63 ∷ 62 ∷ rest) × Unit {0}))))

pub record Declared (d : Declaration) : Type 0 where
  pub version : meets_part (codes "version") is_version d.version ≡ true
  pub encoding : meets_part_if_there (codes "encoding") is_encoding_name d.encoding ≡ true
  pub standalone : meets_part_if_there (codes "standalone") is_yes_or_no d.standalone ≡ true
  pub space : is_blank d.space ≡ true

pub declared : (d : Declaration) → meets_declaration d ≡ true → Declared d
declared d h =
    let s = and_parts _ (is_blank d.space) h in
    let a = and_parts _ (meets_part_if_there (codes "standalone") is_yes_or_no d.standalone) s.0 in
    let e = and_parts (meets_part (codes "version") is_version d.version) (meets_part_if_there (codes "encoding") is_encoding_name d.encoding) a.0 in
    record { version = e.0; encoding = e.1; standalone = a.1; space = s.1 }

pub declared_from : (d : Declaration) → Declared d → meets_declaration d ≡ true
declared_from d h = and_from _ _ (and_from _ _ (and_from _ _ h.version h.encoding) h.standalone) h.space

declaration_fits : (d : Declaration) (rest : List ℕ) → meets_declaration d ≡ true → FitDeclarationParts (tt, (d.version, (d.encoding, (d.standalone, (d.space, tt))))) rest
unfolding FitDeclarationParts
declaration_fits d rest m =
    let h = declared d m in
    let no_encoding : begins_part (codes "encoding") ((written_option d.standalone ++ (d.space ++ 63 ∷ 62 ∷ [])) ++ rest) ≡ false =
    ap (begins_part (codes "encoding")) (regroup (written_option d.standalone) d.space rest) ∙ not_encoding d.standalone d.space rest h.standalone h.space in
    let no_standalone : begins_part (codes "standalone") ((d.space ++ 63 ∷ 62 ∷ []) ++ rest) ≡ false = ap (begins_part (codes "standalone")) (append_assoc d.space (63 ∷ 62 ∷ []) rest) ∙ no_part_at_end (codes "standalone") d.space rest h.space in
    (tt, (h.version, (there (codes "encoding") is_encoding_name d.encoding _ h.encoding no_encoding, (there (codes "standalone") is_yes_or_no d.standalone _ h.standalone no_standalone, ((h.space, space_63), tt)))))
  where
    regroup : (w sp rest : List ℕ) → (w ++ (sp ++ 63 ∷ 62 ∷ [])) ++ rest ≡ w ++ (sp ++ 63 ∷ 62 ∷ rest)
    regroup w sp rest = append_assoc w (sp ++ 63 ∷ 62 ∷ []) rest ∙ ap (λ (l : List ℕ). w ++ l) (append_assoc sp (63 ∷ 62 ∷ []) rest)

declaration_back : (i : Item) (rest : List ℕ) → FitDeclaration i rest → (p : DeclarationParts) × (declaration_of p ≡ i) × FitDeclarationParts p rest
declaration_back (leaf (declaration d)) rest h = ((tt, (d.version, (d.encoding, (d.standalone, (d.space, tt))))), refl, declaration_fits d rest h)
declaration_back (leaf (Leaf.text ps)) rest h = absurd h
declaration_back (leaf (cdata cs)) rest h = absurd h
declaration_back (leaf (Leaf.comment cs)) rest h = absurd h
declaration_back (leaf (Leaf.instruction x)) rest h = absurd h
declaration_back (leaf (doctype d)) rest h = absurd h
declaration_back (start_tag t) rest h = absurd h
declaration_back (empty_tag t) rest h = absurd h
declaration_back (end_tag n s) rest h = absurd h

declaration_spelled : (v e s sp : List ℕ) → codes "<?xml" ++ v ++ e ++ s ++ sp ++ codes "?>" ≡ codes "<?xml" ++ (v ++ (e ++ (s ++ (sp ++ codes "?>"))))
declaration_spelled v e s sp = simp append_assoc

pub declaration_reads : IsReader read_declaration written FitDeclaration
unfolding read_declaration FitDeclarationParts
declaration_reads = mapped_reads declaration_of written FitDeclaration
    (both_reads (word_reads (codes "<?xml")) (λ _ _ _. both_reads (part_reads (codes "version") is_version) (λ _ _ _. both_reads (option_reads (codes "encoding") is_encoding_name) (λ _ _ _. both_reads (option_reads (codes "standalone") is_yes_or_no) (λ _ _ _. both_reads space_reads (λ _ _ _. word_reads (codes "?>")))))))
    (λ p. declaration_spelled (written_attribute p.1.0) (written_option p.1.1.0) (written_option p.1.1.1.0) p.1.1.1.1.0)
    (λ p rest h. declared_from record { version = p.1.0; encoding = p.1.1.0; standalone = p.1.1.1.0; space = p.1.1.1.1.0 } record {
      version = h.1.0;
      encoding = is_there (codes "encoding") is_encoding_name p.1.1.0 _ h.1.1.0;
      standalone = is_there (codes "standalone") is_yes_or_no p.1.1.1.0 _ h.1.1.1.0;
      space = h.1.1.1.1.0.0;
    })
    declaration_back
