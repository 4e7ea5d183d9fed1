-- What the readers of comments, CDATA sections and instructions read, and that they read it.
use Rattle.std.proofs.Common.{◌≡◌, ℕ, true, false, inl, inr, List, [], ◌∷◌, ◌++◌, Option, Some, None, refl, sym, ap, subst, ◌∙◌, append_assoc}
use Rattle.std.specs.Prelude.{codes, ◌&&◌, ◌||◌, not}
use Rattle.std.specs.List.{list_all}
use Rattle.std.proofs.lemmas.List.{append-nil}
use Rattle.std.proofs.lemmas.Option.{same_Some}
use Rattle.std.proofs.lemmas.Bool.{false≢true, and_parts, and_from, not-true, not_from_false}
use Rattle.xml_model.specs.Chars.{in_ranges, is_char, is_space, is_blank, is_name_start, is_name_char, is_name, begins, lacks}
use Rattle.xml_model.specs.Items.{Leaf, cdata, declaration, doctype, Instruction, Item, start_tag, empty_tag, end_tag, leaf, written, meets_instruction, is_comment_text, begins_with_space, is_nil}
use Rattle.xml_chars.specs.Reading.{read_name}
use Rattle.xml_chars.proofs.Readers.{IsReader, reads_as, both_reads, mapped_reads, kept_reads, word_reads, StopsBy, chosen}
use Rattle.xml_chars.proofs.NameLaws.{name_reads, FitName, space_reads, FitSpace}
use Rattle.xml_items.specs.Reading.{push, until, read_until, read_comment_text, read_comment, read_cdata, is_xml, parted, instruction_of, read_instruction}
use Rattle.xml_items.proofs.TagLaws.{by_assoc, space_no_name}

-- ---- up to a mark

abbrev pub NoneBegins : List ℕ → List ℕ → List ℕ → Type 0
NoneBegins mark [] rest = Unit {0}
NoneBegins mark (c ∷ cs) rest = (begins mark (c ∷ (cs ++ rest)) ≡ false) × NoneBegins mark cs rest

abbrev pub FitUntil : List ℕ → List ℕ → List ℕ → Type 0
FitUntil mark cs rest = (begins mark rest ≡ true) × NoneBegins mark cs rest

push_some : (c : ℕ) (o : Option (List ℕ × List ℕ)) (cs rest : List ℕ) → push c o ≡ Some (cs, rest) → (ds : List ℕ) × (o ≡ Some (ds, rest)) × (cs ≡ c ∷ ds)
push_some c None cs rest e = absurd (cc)
push_some c (Some p) cs rest e =
    let same = same_Some (c ∷ p.0, p.1) (cs, rest) e in
    (p.0, ap (λ (r : List ℕ). Some (p.0, r)) (ap (λ (z : List ℕ × List ℕ). z.1) same), sym (ap (λ (z : List ℕ × List ℕ). z.0) same))

pub until_takes : (mark text cs rest : List ℕ) → until mark text ≡ Some (cs, rest) → (text ≡ cs ++ rest) × FitUntil mark cs rest
until_takes mark [] cs rest e = absurd (cc)
until_takes mark (c ∷ text) cs rest e = elim (chosen (begins mark (c ∷ text)) (Some ([], c ∷ text)) (push c (until mark text)) (Some (cs, rest)) e) [
  | inl q ↦
      let same = same_Some ([], c ∷ text) (cs, rest) q.1 in
      subst (λ (z : List ℕ × List ℕ). (c ∷ text ≡ z.0 ++ z.1) × FitUntil mark z.0 z.1) same (refl, (q.0, tt))
  | inr q ↦
      let p = push_some c (until mark text) cs rest q.1 in
      let so = until_takes mark text p.0 rest p.1 in
      let whole : c ∷ text ≡ c ∷ (p.0 ++ rest) = ap (λ (l : List ℕ). c ∷ l) so.0 in
      subst (λ (l : List ℕ). (c ∷ text ≡ l ++ rest) × FitUntil mark l rest) (sym p.2) (whole, (so.1.0, (ap (begins mark) (sym whole) ∙ q.0, so.1.1)))
]

until_again : (mark : List ℕ) → begins mark [] ≡ false → (cs rest : List ℕ) → FitUntil mark cs rest → until mark (cs ++ rest) ≡ Some (cs, rest)
until_again mark ne [] [] h = absurd (false≢true (sym ne ∙ h.0))
until_again mark ne [] (c ∷ rest) h = rw h.0 refl
until_again mark ne (c ∷ cs) rest h = rw h.1.0 (ap (push c) (until_again mark ne cs rest (h.0, h.1.1)))

pub until_reads : (mark : List ℕ) → begins mark [] ≡ false → IsReader (until mark) (λ cs. cs) (FitUntil mark)
until_reads mark ne = record { takes = until_takes mark; again = until_again mark ne }

abbrev pub FitCharsUntil : List ℕ → List ℕ → List ℕ → Type 0
FitCharsUntil mark cs rest = FitUntil mark cs rest × (list_all is_char cs ≡ true)

pub read_until_reads : (mark : List ℕ) → begins mark [] ≡ false → IsReader (read_until mark) (λ cs. cs) (FitCharsUntil mark)
unfolding read_until
read_until_reads mark ne = kept_reads (list_all is_char) (until mark) (λ cs. cs) (FitUntil mark) (until_reads mark ne)

-- the mark begins nowhere in front of itself, where the text has it nowhere
lacks_to : (mark t u : List ℕ) → lacks mark t ≡ true → ((c : ℕ) (cs : List ℕ) → begins mark (c ∷ (cs ++ t)) ≡ begins mark (c ∷ (cs ++ u))) → (cs : List ℕ) → NoneBegins mark cs u → lacks mark (cs ++ t) ≡ true
lacks_to mark t u none same [] h = none
lacks_to mark t u none same (c ∷ cs) h = and_from _ _ (not_from_false _ (same c cs ∙ h.0)) (lacks_to mark t u none same cs h.1)

lacks_from : (mark t u : List ℕ) → ((c : ℕ) (cs : List ℕ) → begins mark (c ∷ (cs ++ t)) ≡ begins mark (c ∷ (cs ++ u))) → (cs : List ℕ) → lacks mark (cs ++ t) ≡ true → NoneBegins mark cs u
lacks_from mark t u same [] h = tt
lacks_from mark t u same (c ∷ cs) h =
    let q = and_parts (not (begins mark (c ∷ (cs ++ t)))) (lacks mark (cs ++ t)) h in
    (sym (same c cs) ∙ not-true _ q.0, lacks_from mark t u same cs q.1)

same_dashes : (rest : List ℕ) (c : ℕ) (cs : List ℕ) → begins (codes "--") (c ∷ (cs ++ 45 ∷ [])) ≡ begins (codes "--") (c ∷ (cs ++ 45 ∷ 45 ∷ 62 ∷ rest))
same_dashes rest c [] = refl
same_dashes rest c (d ∷ cs) = refl

same_end : (rest : List ℕ) (c : ℕ) (cs : List ℕ) → begins (codes "]]>") (c ∷ (cs ++ [])) ≡ begins (codes "]]>") (c ∷ (cs ++ 93 ∷ 93 ∷ 62 ∷ rest))
same_end rest c [] = refl
same_end rest c (d ∷ []) = refl
same_end rest c (d ∷ e ∷ cs) = refl

same_question : (rest : List ℕ) (c : ℕ) (cs : List ℕ) → begins (codes "?>") (c ∷ (cs ++ [])) ≡ begins (codes "?>") (c ∷ (cs ++ 63 ∷ 62 ∷ rest))
same_question rest c [] = refl
same_question rest c (d ∷ cs) = refl

lacks_all : (mark cs : List ℕ) → lacks mark (cs ++ []) ≡ lacks mark cs
lacks_all mark cs = ap (lacks mark) (append-nil cs)

pub cdata_fits : (cs rest : List ℕ) → list_all is_char cs ≡ true → lacks (codes "]]>") cs ≡ true → FitCharsUntil (codes "]]>") cs (93 ∷ 93 ∷ 62 ∷ rest)
cdata_fits cs rest h l = ((refl, lacks_from (codes "]]>") [] (93 ∷ 93 ∷ 62 ∷ rest) (same_end rest) cs (lacks_all (codes "]]>") cs ∙ l)), h)

pub cdata_lacks : (cs rest : List ℕ) → FitCharsUntil (codes "]]>") cs (93 ∷ 93 ∷ 62 ∷ rest) → lacks (codes "]]>") cs ≡ true
cdata_lacks cs rest h = sym (lacks_all (codes "]]>") cs) ∙ lacks_to (codes "]]>") [] (93 ∷ 93 ∷ 62 ∷ rest) refl (same_end rest) cs h.0.1

pub question_fits : (cs rest : List ℕ) → list_all is_char cs ≡ true → lacks (codes "?>") cs ≡ true → FitCharsUntil (codes "?>") cs (63 ∷ 62 ∷ rest)
question_fits cs rest h l = ((refl, lacks_from (codes "?>") [] (63 ∷ 62 ∷ rest) (same_question rest) cs (lacks_all (codes "?>") cs ∙ l)), h)

pub question_lacks : (cs rest : List ℕ) → FitCharsUntil (codes "?>") cs (63 ∷ 62 ∷ rest) → lacks (codes "?>") cs ≡ true
question_lacks cs rest h = sym (lacks_all (codes "?>") cs) ∙ lacks_to (codes "?>") [] (63 ∷ 62 ∷ rest) refl (same_question rest) cs h.0.1

pub comment_fits : (cs rest : List ℕ) → is_comment_text cs ≡ true → FitCharsUntil (codes "--") cs (45 ∷ 45 ∷ 62 ∷ rest)
comment_fits cs rest h =
    let q = and_parts (list_all is_char cs) (lacks (codes "--") (cs ++ 45 ∷ [])) h in
    ((refl, lacks_from (codes "--") (45 ∷ []) (45 ∷ 45 ∷ 62 ∷ rest) (same_dashes rest) cs q.1), q.0)

pub comment_is : (cs rest : List ℕ) → FitCharsUntil (codes "--") cs (45 ∷ 45 ∷ 62 ∷ rest) → is_comment_text cs ≡ true
comment_is cs rest h = and_from (list_all is_char cs) _ h.1 (lacks_to (codes "--") (45 ∷ []) (45 ∷ 45 ∷ 62 ∷ rest) refl (same_dashes rest) cs h.0.1)

-- ---- comments

abbrev pub written_comment_text : List ℕ × Unit {0} → List ℕ
written_comment_text p = p.0 ++ codes "-->"

pub comment_text_reads : IsReader read_comment_text written_comment_text (λ p rest. is_comment_text p.0 ≡ true)
comment_text_reads = reads_as (λ p rest. is_comment_text p.0 ≡ true)
    (both_reads (read_until_reads (codes "--") refl) (λ _ _ _. word_reads (codes "-->")))
    (λ p rest h. comment_is p.0 rest h.0) (λ p rest h. (comment_fits p.0 rest h, tt))

abbrev pub FitComment : Item → List ℕ → Type 0
FitComment (leaf (Leaf.comment cs)) rest = is_comment_text cs ≡ true
FitComment _ rest = ⊥

comment_back : (i : Item) (rest : List ℕ) → FitComment i rest → (p : Unit {0} × (List ℕ × Unit {0})) × (leaf (Leaf.comment p.1.0) ≡ i) × (Unit {0} × (is_comment_text p.1.0 ≡ true))
comment_back (leaf (Leaf.comment cs)) rest h = ((tt, (cs, tt)), refl, (tt, h))
comment_back (leaf (Leaf.text ps)) rest h = absurd h
comment_back (leaf (cdata ps)) rest h = absurd h
comment_back (leaf (Leaf.instruction ps)) rest h = absurd h
comment_back (leaf (declaration ps)) rest h = absurd h
comment_back (leaf (doctype ps)) rest h = absurd h
comment_back (start_tag t) rest h = absurd h
comment_back (empty_tag t) rest h = absurd h
comment_back (end_tag n s) rest h = absurd h

pub comment_reads : IsReader read_comment written FitComment
unfolding read_comment
comment_reads = mapped_reads (λ p. leaf (Leaf.comment p.1.0)) written FitComment (both_reads (word_reads (codes "<!--")) (λ _ _ _. comment_text_reads)) (λ p. refl) (λ p rest h. h.1) comment_back

-- ---- CDATA sections

abbrev pub FitCdata : Item → List ℕ → Type 0
FitCdata (leaf (cdata cs)) rest = (list_all is_char cs && lacks (codes "]]>") cs) ≡ true
FitCdata _ rest = ⊥

cdata_back : (i : Item) (rest : List ℕ) → FitCdata i rest → (p : Unit {0} × (List ℕ × Unit {0})) × (leaf (cdata p.1.0) ≡ i) × (Unit {0} × (FitCharsUntil (codes "]]>") p.1.0 (93 ∷ 93 ∷ 62 ∷ rest) × Unit {0}))
cdata_back (leaf (cdata cs)) rest h = let q = and_parts (list_all is_char cs) (lacks (codes "]]>") cs) h in ((tt, (cs, tt)), refl, (tt, (cdata_fits cs rest q.0 q.1, tt)))
cdata_back (leaf (Leaf.text ps)) rest h = absurd h
cdata_back (leaf (Leaf.comment ps)) rest h = absurd h
cdata_back (leaf (Leaf.instruction ps)) rest h = absurd h
cdata_back (leaf (declaration ps)) rest h = absurd h
cdata_back (leaf (doctype ps)) rest h = absurd h
cdata_back (start_tag t) rest h = absurd h
cdata_back (empty_tag t) rest h = absurd h
cdata_back (end_tag n s) rest h = absurd h

pub cdata_reads : IsReader read_cdata written FitCdata
unfolding read_cdata
cdata_reads = mapped_reads (λ p. leaf (cdata p.1.0)) written FitCdata
    (both_reads (word_reads (codes "<![CDATA[")) (λ _ _ _. both_reads (read_until_reads (codes "]]>") refl) (λ _ _ _. word_reads (codes "]]>"))))
    (λ p. refl) (λ p rest h. and_from (list_all is_char p.1.0) _ h.1.0.1 (cdata_lacks p.1.0 rest h.1.0)) cdata_back

-- ---- instructions

question_name : is_name_char 63 ≡ false
unfolding is_name_char is_name_start in_ranges
question_name = refl

question_space : is_space 63 ≡ false
unfolding is_space in_ranges
question_space = refl

content_stops : (cs rest : List ℕ) → begins_with_space cs ≡ false → StopsBy is_space (cs ++ 63 ∷ 62 ∷ rest)
content_stops [] rest h = question_space
content_stops (c ∷ cs) rest h = h

content_no_space : (cs rest : List ℕ) → StopsBy is_space ((cs ++ 63 ∷ 62 ∷ []) ++ rest) → begins_with_space cs ≡ false
content_no_space [] rest h = refl
content_no_space (c ∷ cs) rest h = h

pub target_stops : (sp cs rest : List ℕ) → is_blank sp ≡ true → (not (is_nil sp) || is_nil cs) ≡ true → StopsBy is_name_char (sp ++ (cs ++ 63 ∷ 62 ∷ rest))
unfolding is_blank
target_stops [] [] rest h p = question_name
target_stops [] (c ∷ cs) rest h p = absurd (false≢true p)
target_stops (c ∷ sp) cs rest h p = space_no_name c (and_parts (is_space c) (list_all is_space sp) h).0

pub record Instructed (i : Instruction) : Type 0 where
  pub name : is_name i.target ≡ true
  pub other : not (is_xml i.target) ≡ true
  pub space : is_blank i.space ≡ true
  pub chars : list_all is_char i.content ≡ true
  pub lacks_end : lacks (codes "?>") i.content ≡ true
  pub no_space : begins_with_space i.content ≡ false
  pub parts : (not (is_nil i.space) || is_nil i.content) ≡ true

pub instructed : (i : Instruction) → meets_instruction i ≡ true → Instructed i
instructed i h =
    let p = and_parts _ (not (is_nil i.space) || is_nil i.content) h in
    let n = and_parts _ (not (begins_with_space i.content)) p.0 in
    let l = and_parts _ (lacks (codes "?>") i.content) n.0 in
    let c = and_parts _ (list_all is_char i.content) l.0 in
    let s = and_parts _ (is_blank i.space) c.0 in
    let x = and_parts (is_name i.target) (not (is_xml i.target)) s.0 in
    record { name = x.0; other = x.1; space = s.1; chars = c.1; lacks_end = l.1; no_space = not-true _ n.1; parts = p.1 }

pub instructed_from : (i : Instruction) → Instructed i → meets_instruction i ≡ true
instructed_from i h = and_from _ _ (and_from _ _ (and_from _ _ (and_from _ _ (and_from _ _ (and_from _ _ h.name h.other) h.space) h.chars) h.lacks_end) (not_from_false _ h.no_space)) h.parts

abbrev pub FitInstruction : Item → List ℕ → Type 0
FitInstruction (leaf (Leaf.instruction i)) rest = meets_instruction i ≡ true
FitInstruction _ rest = ⊥

abbrev InstructionParts : Type 0
InstructionParts = Unit {0} × (List ℕ × (List ℕ × (List ℕ × Unit {0})))

FitInstructionParts : InstructionParts → List ℕ → Type 0
FitInstructionParts p rest = Unit {0} × (((FitName p.1.0 ((p.1.1.0 ++ (p.1.1.1.0 ++ 63 ∷ 62 ∷ [])) ++ rest) × (not (is_xml p.1.0) ≡ true)) × (FitSpace p.1.1.0 ((p.1.1.1.0 ++ 63 ∷ 62 ∷ []) ++ rest) × (FitCharsUntil (codes "?>") p.1.1.1.0 (63 ∷ 62 ∷ rest) × Unit {0}))) × (parted p.1 ≡ true))

instruction_fits : (i : Instruction) (rest : List ℕ) → meets_instruction i ≡ true → FitInstructionParts (tt, (i.target, (i.space, (i.content, tt)))) rest
unfolding FitInstructionParts
instruction_fits i rest m =
    let h = instructed i m in (
      tt,
      (
        (
          ((h.name, by_assoc is_name_char i.space (i.content ++ 63 ∷ 62 ∷ []) rest (subst (λ (l : List ℕ). StopsBy is_name_char (i.space ++ l)) (sym (append_assoc i.content (63 ∷ 62 ∷ []) rest)) (target_stops i.space i.content rest h.space h.parts))), h.other),
          ((h.space, by_assoc is_space i.content (63 ∷ 62 ∷ []) rest (content_stops i.content rest h.no_space)), (question_fits i.content rest h.chars h.lacks_end, tt)),
        ),
        h.parts,
      ),
    )

instruction_back : (y : Item) (rest : List ℕ) → FitInstruction y rest → (p : InstructionParts) × (instruction_of p ≡ y) × FitInstructionParts p rest
instruction_back (leaf (Leaf.instruction i)) rest h = ((tt, (i.target, (i.space, (i.content, tt)))), refl, instruction_fits i rest h)
instruction_back (leaf (Leaf.text ps)) rest h = absurd h
instruction_back (leaf (cdata ps)) rest h = absurd h
instruction_back (leaf (Leaf.comment ps)) rest h = absurd h
instruction_back (leaf (declaration ps)) rest h = absurd h
instruction_back (leaf (doctype ps)) rest h = absurd h
instruction_back (start_tag t) rest h = absurd h
instruction_back (empty_tag t) rest h = absurd h
instruction_back (end_tag n s) rest h = absurd h

pub instruction_reads : IsReader read_instruction written FitInstruction
unfolding read_instruction FitInstructionParts
instruction_reads = mapped_reads instruction_of written FitInstruction
    (both_reads (word_reads (codes "<?"))
    (λ _ _ _. kept_reads parted _ _ _ (both_reads (kept_reads (λ n. not (is_xml n)) read_name (λ n. n) FitName name_reads) (λ _ _ _. both_reads space_reads (λ _ _ _. both_reads (read_until_reads (codes "?>") refl) (λ _ _ _. word_reads (codes "?>")))))))
    (λ p. simp append_assoc)
    (λ p rest h. instructed_from record { target = p.1.0; space = p.1.1.0; content = p.1.1.1.0 } record {
      name = h.1.0.0.0.0;
      other = h.1.0.0.1;
      space = h.1.0.1.0.0;
      chars = h.1.0.1.1.0.1;
      lacks_end = question_lacks p.1.1.1.0 rest h.1.0.1.1.0;
      no_space = content_no_space p.1.1.1.0 rest h.1.0.1.0.1;
      parts = h.1.1;
    })
    instruction_back
