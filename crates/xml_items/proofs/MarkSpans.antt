-- The spans of comments, CDATA sections, instructions and texts.
use Rattle.std.proofs.Common.{◌≡◌, ℕ, ◌+◌, ◌-◌, true, false, List, [], ◌∷◌, length, Option, Some, None, refl, sym, ap, ◌∙◌, arith, inl, inr}
use Rattle.std.specs.Prelude.{codes, option_map, ◌==◌, ◌||◌, not}
use Rattle.std.specs.Str.{IsUtf8, chars}
use Rattle.std.proofs.lemmas.Bool.{cases_Bool, eqb-true, eqb-false, eq-eqb, ne_eqb}
use Rattle.std.proofs.lemmas.List.{nil_from_length}
use Rattle.std.proofs.lemmas.Str.{chars-nil}
use Rattle.xml_model.specs.Chars.{size}
use Rattle.xml_model.specs.Items.{Item, leaf, Leaf, written, spelling, written_pieces, is_nil, Piece}
use Rattle.xml_chars.specs.Readers.{skip, word}
use Rattle.xml_chars.specs.Reading.{read_name, read_space}
use Rattle.xml_chars.proofs.Readers.{skip_some, skip_none, word_reads}
use Rattle.xml_chars.proofs.NameLaws.{name_reads, space_reads}
use Rattle.xml_chars.proofs.Points.{first_of, encode_pos}
use Rattle.xml_items.specs.declared.ItemKind.TheVariants as kinds
use Rattle.xml_items.specs.declared.Item.{Item as ItemShown}
use lib.Utf8.{encode, encodes}
use Rattle.std.proofs.lemmas.List.{length-append}
use Rattle.xml_items.specs.Shown.{item_shown}
use Rattle.xml_items.specs.Reading.{read_until, read_comment, read_cdata, read_instruction, is_xml, read_pieces, read_text, ends_text}
use Rattle.xml_items.proofs.MarkLaws.{read_until_reads, comment_reads, cdata_reads, instruction_reads}
use Rattle.xml_items.proofs.TextLaws.{pieces_reads}
use Rattle.xml_items.proofs.SpanLemmas.{size_of, spelled, size_comment, size_cdata, size_question, item_by, same_item, shown_some}

abbrev pub shows : ℕ → Option (Item × List ℕ) → Option ItemShown
shows at o = option_map (λ (p : Item × List ℕ). item_shown at p.0) o

-- ---- comments

comment_read : (s a b c cs : List ℕ) → word (codes "<!--") s ≡ Some (tt, a) → read_until (codes "--") a ≡ Some (cs, b) → word (codes "-->") b ≡ Some (tt, c) → read_comment s ≡ Some (leaf (Leaf.comment cs), c)
unfolding read_comment
comment_read s a b c cs e1 e2 e3 = rw (e1, e2, e3) refl

pub comment_1 : (at : ℕ) (s : List ℕ) → word (codes "<!--") s ≡ None → shows at (read_comment s) ≡ None
unfolding read_comment
comment_1 at s e1 = rw e1 refl

pub comment_2 : (at : ℕ) (s a : List ℕ) → word (codes "<!--") s ≡ Some (tt, a) → None ≡ skip (read_until (codes "--")) a → shows at (read_comment s) ≡ None
unfolding read_comment
comment_2 at s a e1 e2 = let n = skip_none (read_until (codes "--")) a (sym e2) in rw (e1, n) refl

pub comment_3 : (at : ℕ) (s a b : List ℕ) → word (codes "<!--") s ≡ Some (tt, a) → Some b ≡ skip (read_until (codes "--")) a → word (codes "-->") b ≡ None → shows at (read_comment s) ≡ None
unfolding read_comment
comment_3 at s a b e1 e2 e3 = let x = (skip_some (read_until (codes "--")) a b (sym e2)).1 in rw (e1, x, e3) refl

pub comment_4 : (at : ℕ) (s a b c : List ℕ) → IsUtf8 s → IsUtf8 a → IsUtf8 b → IsUtf8 c → word (codes "<!--") (chars s) ≡ Some (tt, chars a) → Some (chars b) ≡ skip (read_until (codes "--")) (chars a) → word (codes "-->") (chars b) ≡ Some (tt, chars c)
    → Some (item_by kinds.Comment (at + (length s - length s)) (at + (length s - length c)) (at + (length s - length s)) (at + (length s - length s)) (at + (length s - length a)) (at + (length s - length b))) ≡ shows at (read_comment (chars s))
comment_4 at s a b c us ua ub uc e1 e2 e3 =
    let x = skip_some (read_until (codes "--")) (chars a) (chars b) (sym e2) in
    let cs = x.0 in
    let i = leaf (Leaf.comment cs) in
    let read = comment_read (chars s) (chars a) (chars b) (chars c) cs e1 x.1 e3 in
    let z1 : length s ≡ size (codes "<!--") + length a = size_of s a (codes "<!--") us ua ((word_reads (codes "<!--")).takes (chars s) tt (chars a) e1).0 in
    let z2 : length a ≡ size cs + length b = size_of a b cs ua ub ((read_until_reads (codes "--") refl).takes (chars a) cs (chars b) x.1).0 in
    let z : length s ≡ size (written i) + length c = size_of s c (written i) us uc (comment_reads.takes (chars s) i (chars c) read).0 in
    shown_some at (read_comment (chars s)) i (chars c) _ read
    (same_item kinds.Comment _ _ _ _ _ _ at (at + length (spelling i)) at at (at + 4) (at + 4 + size cs)
    (omega arith) (omega (arith, spelled i)) (omega arith) (omega arith) (omega (arith, size_comment)) (omega (arith, size_comment)))

-- ---- CDATA sections

cdata_read : (s a b c cs : List ℕ) → word (codes "<![CDATA[") s ≡ Some (tt, a) → read_until (codes "]]>") a ≡ Some (cs, b) → word (codes "]]>") b ≡ Some (tt, c) → read_cdata s ≡ Some (leaf (Leaf.cdata cs), c)
unfolding read_cdata
cdata_read s a b c cs e1 e2 e3 = rw (e1, e2, e3) refl

pub cdata_1 : (at : ℕ) (s : List ℕ) → word (codes "<![CDATA[") s ≡ None → shows at (read_cdata s) ≡ None
unfolding read_cdata
cdata_1 at s e1 = rw e1 refl

pub cdata_2 : (at : ℕ) (s a : List ℕ) → word (codes "<![CDATA[") s ≡ Some (tt, a) → None ≡ skip (read_until (codes "]]>")) a → shows at (read_cdata s) ≡ None
unfolding read_cdata
cdata_2 at s a e1 e2 = let n = skip_none (read_until (codes "]]>")) a (sym e2) in rw (e1, n) refl

pub cdata_3 : (at : ℕ) (s a b : List ℕ) → word (codes "<![CDATA[") s ≡ Some (tt, a) → Some b ≡ skip (read_until (codes "]]>")) a → word (codes "]]>") b ≡ None → shows at (read_cdata s) ≡ None
unfolding read_cdata
cdata_3 at s a b e1 e2 e3 = let x = (skip_some (read_until (codes "]]>")) a b (sym e2)).1 in rw (e1, x, e3) refl

pub cdata_4 : (at : ℕ) (s a b c : List ℕ) → IsUtf8 s → IsUtf8 a → IsUtf8 b → IsUtf8 c → word (codes "<![CDATA[") (chars s) ≡ Some (tt, chars a) → Some (chars b) ≡ skip (read_until (codes "]]>")) (chars a) → word (codes "]]>") (chars b) ≡ Some (tt, chars c)
    → Some (item_by kinds.Cdata (at + (length s - length s)) (at + (length s - length c)) (at + (length s - length s)) (at + (length s - length s)) (at + (length s - length a)) (at + (length s - length b))) ≡ shows at (read_cdata (chars s))
cdata_4 at s a b c us ua ub uc e1 e2 e3 =
    let x = skip_some (read_until (codes "]]>")) (chars a) (chars b) (sym e2) in
    let cs = x.0 in
    let i = leaf (Leaf.cdata cs) in
    let read = cdata_read (chars s) (chars a) (chars b) (chars c) cs e1 x.1 e3 in
    let z1 : length s ≡ size (codes "<![CDATA[") + length a = size_of s a (codes "<![CDATA[") us ua ((word_reads (codes "<![CDATA[")).takes (chars s) tt (chars a) e1).0 in
    let z2 : length a ≡ size cs + length b = size_of a b cs ua ub ((read_until_reads (codes "]]>") refl).takes (chars a) cs (chars b) x.1).0 in
    let z : length s ≡ size (written i) + length c = size_of s c (written i) us uc (cdata_reads.takes (chars s) i (chars c) read).0 in
    shown_some at (read_cdata (chars s)) i (chars c) _ read
    (same_item kinds.Cdata _ _ _ _ _ _ at (at + length (spelling i)) at at (at + 9) (at + 9 + size cs)
    (omega arith) (omega (arith, spelled i)) (omega arith) (omega arith) (omega (arith, size_cdata)) (omega (arith, size_cdata)))

-- ---- instructions

pub nil_is : (bs : List ℕ) → IsUtf8 bs → is_nil (chars bs) ≡ (length bs == 0)
nil_is bs u = elim (cases_Bool (length bs == 0)) [
  | inl t ↦ ap (λ (l : List ℕ). is_nil (chars l)) (nil_from_length bs (eqb-true (length bs) 0 t)) ∙ ap is_nil chars-nil ∙ sym t
  | inr f ↦ ap is_nil (first_of bs u (omega (arith, eqb-false (length bs) 0 f))).points ∙ sym f
]

pub nil_size : (cs : List ℕ) → is_nil cs ≡ (size cs == 0)
unfolding size
nil_size [] = refl
nil_size (c ∷ cs) = sym (ne_eqb _ 0 (λ e. omega (arith, encode_pos c, length-append (encode c) (encodes cs))))

parted_is : (space content end : List ℕ) (cs : List ℕ) → IsUtf8 space → length content ≡ size cs + length end → (not (length space == 0) || length content == length end) ≡ (not (is_nil (chars space)) || is_nil cs)
parted_is space content end cs u z =
    let two : (length content == length end) ≡ is_nil cs = elim (cases_Bool (is_nil cs)) [
      | inl t ↦ eq-eqb (length content) (length end) (omega (arith, eqb-true (size cs) 0 (sym (nil_size cs) ∙ t))) ∙ sym t
      | inr f ↦ ne_eqb (length content) (length end) (λ e. eqb-false (size cs) 0 (sym (nil_size cs) ∙ f) (omega arith)) ∙ sym f
    ] in
    rw (nil_is space u, two) refl

instruction_read : (s a b c d e target space cs : List ℕ) → word (codes "<?") s ≡ Some (tt, a) → read_name a ≡ Some (target, b) → is_xml target ≡ false → read_space b ≡ Some (space, c) → read_until (codes "?>") c ≡ Some (cs, d) → word (codes "?>") d ≡ Some (tt, e) → (not (is_nil space) || is_nil cs) ≡ true
    → read_instruction s ≡ Some (leaf (Leaf.instruction record { target = target; space = space; content = cs }), e)
unfolding read_instruction
instruction_read s a b c d e target space cs e1 e2 x e3 e4 e5 p = rw (e1, e2, x, e3, e4, e5, p) refl

pub instruction_1 : (at : ℕ) (s : List ℕ) → word (codes "<?") s ≡ None → shows at (read_instruction s) ≡ None
unfolding read_instruction
instruction_1 at s e1 = rw e1 refl

pub instruction_2 : (at : ℕ) (s a : List ℕ) → word (codes "<?") s ≡ Some (tt, a) → read_name a ≡ None → shows at (read_instruction s) ≡ None
unfolding read_instruction
instruction_2 at s a e1 e2 = rw (e1, e2) refl

pub instruction_3 : (at : ℕ) (s a target b : List ℕ) → word (codes "<?") s ≡ Some (tt, a) → read_name a ≡ Some (target, b) → is_xml target ≡ true → shows at (read_instruction s) ≡ None
unfolding read_instruction
instruction_3 at s a target b e1 e2 x = rw (e1, e2, x) refl

pub instruction_4 : (at : ℕ) (s a target b space c : List ℕ) → word (codes "<?") s ≡ Some (tt, a) → read_name a ≡ Some (target, b) → is_xml target ≡ false → read_space b ≡ Some (space, c) → None ≡ skip (read_until (codes "?>")) c → shows at (read_instruction s) ≡ None
unfolding read_instruction
instruction_4 at s a target b space c e1 e2 x e3 e4 = let n = skip_none (read_until (codes "?>")) c (sym e4) in rw (e1, e2, x, e3, n) refl

pub instruction_5 : (at : ℕ) (s a target b space c d : List ℕ) → word (codes "<?") s ≡ Some (tt, a) → read_name a ≡ Some (target, b) → is_xml target ≡ false → read_space b ≡ Some (space, c) → Some d ≡ skip (read_until (codes "?>")) c → word (codes "?>") d ≡ None → shows at (read_instruction s) ≡ None
unfolding read_instruction
instruction_5 at s a target b space c d e1 e2 x e3 e4 e5 = let y = (skip_some (read_until (codes "?>")) c d (sym e4)).1 in rw (e1, e2, x, e3, y, e5) refl

pub instruction_6 : (at : ℕ) (s a target b space c d e : List ℕ) → IsUtf8 space → IsUtf8 c → IsUtf8 d → word (codes "<?") (chars s) ≡ Some (tt, chars a) → read_name (chars a) ≡ Some (target, chars b) → is_xml target ≡ false → read_space (chars b) ≡ Some (chars space, chars c) → Some (chars d) ≡ skip (read_until (codes "?>")) (chars c) → word (codes "?>") (chars d) ≡ Some (tt, chars e)
    → (not (length space == 0) || length c == length d) ≡ false → shows at (read_instruction (chars s)) ≡ None
unfolding read_instruction
instruction_6 at s a target b space c d e us uc ud e1 e2 x e3 e4 e5 p =
    let y = skip_some (read_until (codes "?>")) (chars c) (chars d) (sym e4) in
    let z : length c ≡ size y.0 + length d = size_of c d y.0 uc ud ((read_until_reads (codes "?>") refl).takes (chars c) y.0 (chars d) y.1).0 in
    let q : (not (is_nil (chars space)) || is_nil y.0) ≡ false = sym (parted_is space c d y.0 us z) ∙ p in
    rw (e1, e2, x, e3, y.1, e5, q) refl

pub instruction_7 : (at : ℕ) (s a target b space c d e : List ℕ) → IsUtf8 s → IsUtf8 a → IsUtf8 b → IsUtf8 space → IsUtf8 c → IsUtf8 d → IsUtf8 e → word (codes "<?") (chars s) ≡ Some (tt, chars a) → read_name (chars a) ≡ Some (target, chars b) → is_xml target ≡ false → read_space (chars b) ≡ Some (chars space, chars c) → Some (chars d) ≡ skip (read_until (codes "?>")) (chars c) → word (codes "?>") (chars d) ≡ Some (tt, chars e)
    → (not (length space == 0) || length c == length d) ≡ true
    → Some (item_by kinds.Instruction (at + (length s - length s)) (at + (length s - length e)) (at + (length s - length a)) (at + (length s - length b)) (at + (length s - length c)) (at + (length s - length d))) ≡ shows at (read_instruction (chars s))
instruction_7 at s a target b space c d e us ua ub usp uc ud ue e1 e2 x e3 e4 e5 p =
    let y = skip_some (read_until (codes "?>")) (chars c) (chars d) (sym e4) in
    let cs = y.0 in
    let z4 : length c ≡ size cs + length d = size_of c d cs uc ud ((read_until_reads (codes "?>") refl).takes (chars c) cs (chars d) y.1).0 in
    let q : (not (is_nil (chars space)) || is_nil cs) ≡ true = sym (parted_is space c d cs usp z4) ∙ p in
    let i : Item = leaf (Leaf.instruction record { target = target; space = chars space; content = cs }) in
    let read = instruction_read (chars s) (chars a) (chars b) (chars c) (chars d) (chars e) target (chars space) cs e1 e2 x e3 y.1 e5 q in
    let z1 : length s ≡ size (codes "<?") + length a = size_of s a (codes "<?") us ua ((word_reads (codes "<?")).takes (chars s) tt (chars a) e1).0 in
    let z2 : length a ≡ size target + length b = size_of a b target ua ub (name_reads.takes (chars a) target (chars b) e2).0 in
    let z3 : length b ≡ size (chars space) + length c = size_of b c (chars space) ub uc (space_reads.takes (chars b) (chars space) (chars c) e3).0 in
    let z : length s ≡ size (written i) + length e = size_of s e (written i) us ue (instruction_reads.takes (chars s) i (chars e) read).0 in
    shown_some at (read_instruction (chars s)) i (chars e) _ read
    (same_item kinds.Instruction _ _ _ _ _ _ at (at + length (spelling i)) (at + 2) (at + 2 + size target) (at + 2 + size target + size (chars space)) (at + 2 + size target + size (chars space) + size cs)
    (omega arith) (omega (arith, spelled i)) (omega (arith, size_question)) (omega (arith, size_question)) (omega (arith, size_question)) (omega (arith, size_question)))

-- ---- texts

pub text_1 : (at : ℕ) (s : List ℕ) → None ≡ skip read_pieces s → shows at (read_text s) ≡ None
unfolding read_text
text_1 at s e1 = let n = skip_none read_pieces s (sym e1) in rw n refl

text_empty : (at : ℕ) (s a : List ℕ) (ps : List Piece) → read_pieces s ≡ Some (ps, a) → is_nil (written_pieces ps) ≡ true → shows at (read_text s) ≡ None
unfolding read_text
text_empty at s a ps e1 h = rw (e1, h) refl

text_part : (at : ℕ) (s a : List ℕ) (ps : List Piece) → read_pieces s ≡ Some (ps, a) → ends_text a ≡ false → shows at (read_text s) ≡ None
unfolding read_text
text_part at s a ps e1 h = elim (cases_Bool (is_nil (written_pieces ps))) [
  | inl t ↦ rw (e1, t) refl
  | inr f ↦ rw (e1, f, h) refl
]

text_read : (s a : List ℕ) (ps : List Piece) → read_pieces s ≡ Some (ps, a) → is_nil (written_pieces ps) ≡ false → ends_text a ≡ true → read_text s ≡ Some (leaf (Leaf.text ps), a)
unfolding read_text
text_read s a ps e1 f h = rw (e1, f, h) refl

pub text_2 : (at : ℕ) (s a : List ℕ) → IsUtf8 s → IsUtf8 a → Some (chars a) ≡ skip read_pieces (chars s) → length a ≡ length s → shows at (read_text (chars s)) ≡ None
text_2 at s a us ua e1 h =
    let x = skip_some read_pieces (chars s) (chars a) (sym e1) in
    let z : length s ≡ size (written_pieces x.0) + length a = size_of s a (written_pieces x.0) us ua (pieces_reads.takes (chars s) x.0 (chars a) x.1).0 in
    text_empty at (chars s) (chars a) x.0 x.1 (nil_size (written_pieces x.0) ∙ eq-eqb (size (written_pieces x.0)) 0 (omega arith))

pub text_3 : (at : ℕ) (s a : List ℕ) → Some (chars a) ≡ skip read_pieces (chars s) → ends_text (chars a) ≡ false → shows at (read_text (chars s)) ≡ None
text_3 at s a e1 h = let x = skip_some read_pieces (chars s) (chars a) (sym e1) in text_part at (chars s) (chars a) x.0 x.1 h

pub text_4 : (at : ℕ) (s a : List ℕ) → IsUtf8 s → IsUtf8 a → Some (chars a) ≡ skip read_pieces (chars s) → (length a ≡ length s → ⊥) → ends_text (chars a) ≡ true
    → Some (item_by kinds.Text (at + (length s - length s)) (at + (length s - length a)) (at + (length s - length s)) (at + (length s - length s)) (at + (length s - length s)) (at + (length s - length a))) ≡ shows at (read_text (chars s))
text_4 at s a us ua e1 ne h =
    let x = skip_some read_pieces (chars s) (chars a) (sym e1) in
    let ps = x.0 in
    let i = leaf (Leaf.text ps) in
    let z1 : length s ≡ size (written_pieces ps) + length a = size_of s a (written_pieces ps) us ua (pieces_reads.takes (chars s) ps (chars a) x.1).0 in
    let some : is_nil (written_pieces ps) ≡ false = nil_size (written_pieces ps) ∙ ne_eqb (size (written_pieces ps)) 0 (λ e. ne (omega arith)) in
    let read = text_read (chars s) (chars a) ps x.1 some h in
    shown_some at (read_text (chars s)) i (chars a) _ read
    (same_item kinds.Text _ _ _ _ _ _ at (at + length (spelling i)) at at at (at + size (written_pieces ps))
    (omega arith) (omega (arith, spelled i)) (omega arith) (omega arith) (omega arith) (omega arith))
