-- Three documents in which the items stop after <a>: a reference without its ;, a text with ]]>, and an XML declaration that does not
-- are first. Each is refused with Syntax at 3, where no item begins.
use Rattle.std.proofs.Common.{◌≡◌, ℕ, ◌+◌, ◌<◌, ◌≤◌, List, [], ◌∷◌, ◌++◌, refl, ap, ap₂, sym, ◌∙◌, arith, subst, length, length-append, drop, map, codes, bytes_eq, get_or, Bool, true, false, not, ◌&&◌, ◌||◌, ◌==◌, ⊎_elim, nat_lt, ltb-true, eqb-true, encode_utf8_all}
use Rattle.std.specs.Char.{encode_utf8, to_ascii_lowercase}
use Rattle.std.specs.List.{list_all}
use Rattle.std.proofs.lemmas.Bool.{false≢true, and_parts, cases_lt}
use Rattle.std.proofs.lemmas.Str.{length-encode, len_utf8_bounds, encode_ascii, char_from_byte}
use Rattle.xml_model.specs.declared.DocFault.TheVariants as faults
use Rattle.xml_model.specs.Chars.{begins, lacks, is_char, is_space, is_blank, is_name, is_name_start, is_name_char}
use Rattle.xml_model.specs.Items.{Piece, literal, entity, decimal, hexadecimal, Tag, Instruction, Leaf, Item, leaf, start_tag, empty_tag, end_tag, written, written_pieces, written_attributes, meets, meets_piece, meets_tag, meets_instruction, is_nil, ends_well, may_begin_at, first_place, begins_at, spelling}
use Rattle.xml_model.specs.Accepted.{Refuses}
use Rattle.xml_examples.proofs.Parts.{opened, tag}

-- A text whose bytes are the start of ASCII bytes is the start of their characters.

abbrev pub is_ascii : List ℕ → Bool
is_ascii bs = list_all (λ b. nat_lt b 128) bs

first_byte : (xs : List ℕ) (d : ℕ) (text : List ℕ) → 0 < length xs → begins xs (d ∷ text) ≡ true → get_or xs 0 0 ≡ d
first_byte [] d text l h = absurd (omega arith)
first_byte (x ∷ xs) d text l h = eqb-true x d (and_parts (x == d) _ h).0

pub no_prefix : (xs : List ℕ) → 0 < length xs → begins xs [] ≡ true → ⊥
no_prefix [] l h = absurd (omega arith)
no_prefix (x ∷ xs) l h = false≢true h

abbrev pub IsPrefix : List ℕ → List ℕ → Type 0
IsPrefix cs text = (encode_utf8_all cs ≡ cs) × (begins cs text ≡ true)

-- one character below 128 before others
one_more : (c : ℕ) (cs text : List ℕ) → c < 128 → is_ascii text ≡ true → ((rest : List ℕ) → is_ascii rest ≡ true → begins (encode_utf8_all cs) rest ≡ true → IsPrefix cs rest) →
    begins (c ∷ encode_utf8_all cs) text ≡ true → IsPrefix (c ∷ cs) text
one_more c cs [] l a more h = absurd (false≢true h)
one_more c cs (d ∷ text) l a more h =
    let p = and_parts (c == d) (begins (encode_utf8_all cs) text) h in
    let k = more text (and_parts (nat_lt d 128) _ a).1 p.1 in
    (ap (λ x. x ++ encode_utf8_all cs) (encode_ascii c l) ∙ ap (λ xs. c ∷ xs) k.0, ap₂ (λ x y. x && y) p.0 k.1)

-- and none above
none_above : (c : ℕ) (cs text : List ℕ) → 128 ≤ c → is_ascii text ≡ true → begins (encode_utf8 c ++ encode_utf8_all cs) text ≡ true → ⊥
none_above c cs text l a h = by text a h
  where
    some : 0 < length (encode_utf8 c ++ encode_utf8_all cs)
    some = omega (arith, length-append (encode_utf8 c) (encode_utf8_all cs), length-encode c, (len_utf8_bounds c).0)

    by : (text : List ℕ) → is_ascii text ≡ true → begins (encode_utf8 c ++ encode_utf8_all cs) text ≡ true → ⊥
    by [] a h = no_prefix (encode_utf8 c ++ encode_utf8_all cs) some h
    by (d ∷ text) a h =
        let first = first_byte (encode_utf8 c ++ encode_utf8_all cs) d text some h in
        let less : d < 128 = ltb-true d 128 (and_parts (nat_lt d 128) _ a).0 in
        let same = char_from_byte (encode_utf8 c ++ encode_utf8_all cs) (encode_utf8_all cs) c refl (omega (arith, first, less)) some in
        absurd (omega (arith, first, less, same, l))

pub ascii_prefix : (cs text : List ℕ) → is_ascii text ≡ true → begins (encode_utf8_all cs) text ≡ true → IsPrefix cs text
ascii_prefix [] text a h = (refl, refl)
ascii_prefix (c ∷ cs) text a h =
    ⊎_elim (λ l. one_more c cs text l a (λ rest. ascii_prefix cs rest) (subst (λ x. begins (x ++ encode_utf8_all cs) text ≡ true) (encode_ascii c l) h)) (λ l. absurd (none_above c cs text l a h)) (cases_lt c 128)

-- after <a>
abbrev after_a : List ℕ → List ℕ
after_a text = 60 ∷ 97 ∷ 62 ∷ text

-- what an item that begins there says
record Known (text : List ℕ) (i : Item) : Type 0 where
  row : meets i ≡ true
  prefix : begins (written i) text ≡ true
  ends : ends_well i (drop (3 + length (written i)) (after_a text)) ≡ true
  holds : may_begin_at i 0 3 ≡ true

known : (text : List ℕ) (i : Item) → is_ascii text ≡ true → begins_at (after_a text) 3 i ≡ true → Known text i
unfolding begins_at spelling first_place
known text i a h =
    let p = and_parts (meets i && begins (spelling i) text && ends_well i (drop (3 + length (spelling i)) (after_a text))) (may_begin_at i 0 3) h in
    let q = and_parts (meets i && begins (spelling i) text) (ends_well i (drop (3 + length (spelling i)) (after_a text))) p.0 in
    let r = and_parts (meets i) (begins (spelling i) text) q.0 in
    let f = ascii_prefix (written i) text a r.1 in
    record { row = r.0; prefix = f.1; ends = subst (λ n. ends_well i (drop (3 + length n) (after_a text)) ≡ true) f.0 q.1; holds = p.1 }

-- so no item begins there whose telling is refuted
none_there : (text : List ℕ) → is_ascii text ≡ true → ((i : Item) → Known text i → ⊥) → (i : Item) → begins_at (after_a text) 3 i ≡ false
none_there text a none i = by (begins_at (after_a text) 3 i) refl
  where
    by : (b : Bool) → begins_at (after_a text) 3 i ≡ b → b ≡ false
    by true h = absurd (none i (known text i a h))
    by false h = refl

-- what a text's row says
pub record Row (ps : List Piece) : Type 0 where
  pub some : not (is_nil (written_pieces ps)) ≡ true
  pub pieces : list_all (meets_piece (λ c. false)) ps ≡ true
  pub open_end : lacks (codes "]]>") (written_pieces ps) ≡ true

pub row_of : (ps : List Piece) → meets (leaf (Leaf.text ps)) ≡ true → Row ps
unfolding meets
row_of ps h =
    let p = and_parts (not (is_nil (written_pieces ps)) && list_all (meets_piece (λ c. false)) ps) (lacks (codes "]]>") (written_pieces ps)) h in
    let q = and_parts (not (is_nil (written_pieces ps))) (list_all (meets_piece (λ c. false)) ps) p.0 in
    record { some = q.0; pieces = q.1; open_end = p.1 }

-- of a literal: it is no < and no &
pub literal_row : (c : ℕ) (ps : List Piece) → Row (literal c ∷ ps) → (not (c == 60) ≡ true) × (not (c == 38) ≡ true)
literal_row c ps r =
    let p = and_parts (meets_piece (λ d. false) (literal c)) _ r.pieces in
    let q = and_parts (is_char c && not (c == 60) && not (c == 38)) true p.0 in
    let s = and_parts (is_char c && not (c == 60)) (not (c == 38)) q.0 in
    ((and_parts (is_char c) (not (c == 60)) s.0).1, s.1)

pub both : (b : Bool) → b ≡ true → not b ≡ true → ⊥
both true h k = false≢true k
both false h k = false≢true h

-- &lt without a ;

abbrev amp : List ℕ
amp = codes "&lt</a>"

no_name : (name rest : List ℕ) → is_name name ≡ true → begins ((name ++ codes ";") ++ rest) (codes "lt</a>") ≡ true → ⊥
unfolding opened
no_name [] rest n h = false≢true n
no_name (c ∷ []) rest n h = absurd (false≢true (and_parts (c == 108) false h).1)
no_name (c ∷ d ∷ []) rest n h = absurd (false≢true (and_parts (d == 116) false (and_parts (c == 108) _ h).1).1)
no_name (c ∷ d ∷ e ∷ name) rest n h =
    let k : e ≡ 60 = eqb-true e 60 (and_parts (e == 60) _ (and_parts (d == 116) _ (and_parts (c == 108) _ h).1).1).0 in
    let m = and_parts (is_name_char d) _ (and_parts (is_name_start c) _ n).1 in
    let l = and_parts (is_name_char e) _ m.1 in
    false≢true (subst (λ x. is_name_char x ≡ true) k l.0)

amp_text : (ps : List Piece) → Known amp (leaf (Leaf.text ps)) → Row ps → ⊥
amp_text [] t r = false≢true r.some
amp_text (literal c ∷ ps) t r = both (c == 38) (and_parts (c == 38) _ t.prefix).0 (literal_row c ps r).1
amp_text (entity name ∷ ps) t r = no_name name (written_pieces ps) (and_parts (is_name name) _ r.pieces).0 t.prefix
amp_text (decimal digits ∷ ps) t r = false≢true t.prefix
amp_text (hexadecimal digits ∷ ps) t r = false≢true t.prefix

amp_item : (i : Item) → Known amp i → ⊥
amp_item (leaf (Leaf.text ps)) t = amp_text ps t (row_of ps t.row)
amp_item (leaf (Leaf.cdata cs)) t = false≢true t.prefix
amp_item (leaf (Leaf.comment cs)) t = false≢true t.prefix
amp_item (leaf (Leaf.instruction i)) t = false≢true t.prefix
amp_item (leaf (Leaf.declaration d)) t = false≢true t.prefix
amp_item (leaf (Leaf.doctype d)) t = false≢true t.prefix
amp_item (start_tag u) t = false≢true t.prefix
amp_item (empty_tag u) t = false≢true t.prefix
amp_item (end_tag name space) t = false≢true t.prefix

pub reference_not_ended : Refuses (codes "<a>&lt</a>") (faults.Syntax 3)
unfolding opened
reference_not_ended = record { items = start_tag (tag (codes "a")) ∷ []; walked = refl; ends = refl; within = omega arith; none = none_there amp refl amp_item }

-- ]]> in a text

abbrev close : List ℕ
close = codes "]]></a>"

close_text : (ps : List Piece) (cs : List ℕ) → not (is_nil cs) ≡ true → lacks (codes "]]>") cs ≡ true → begins cs close ≡ true → ends_well (leaf (Leaf.text ps)) (drop (3 + length cs) (after_a close)) ≡ true → ⊥
close_text ps [] s l h e = false≢true s
close_text ps (a ∷ []) s l h e = false≢true e
close_text ps (a ∷ b ∷ []) s l h e = false≢true e
close_text ps (a ∷ b ∷ c ∷ cs) s l h e =
    let p = and_parts (a == 93) _ h in
    let q = and_parts (b == 93) _ p.1 in
    let r = and_parts (c == 62) _ q.1 in
    let x : a ≡ 93 = eqb-true a 93 p.0 in
    let y : b ≡ 93 = eqb-true b 93 q.0 in
    let z : c ≡ 62 = eqb-true c 62 r.0 in
    let same : a ∷ b ∷ c ∷ cs ≡ 93 ∷ 93 ∷ 62 ∷ cs = cc in
    false≢true (subst (λ xs. lacks (codes "]]>") xs ≡ true) same l)

close_item : (i : Item) → Known close i → ⊥
close_item (leaf (Leaf.text ps)) t = let r = row_of ps t.row in close_text ps (written_pieces ps) r.some r.open_end t.prefix t.ends
close_item (leaf (Leaf.cdata cs)) t = false≢true t.prefix
close_item (leaf (Leaf.comment cs)) t = false≢true t.prefix
close_item (leaf (Leaf.instruction i)) t = false≢true t.prefix
close_item (leaf (Leaf.declaration d)) t = false≢true t.prefix
close_item (leaf (Leaf.doctype d)) t = false≢true t.prefix
close_item (start_tag u) t = false≢true t.prefix
close_item (empty_tag u) t = false≢true t.prefix
close_item (end_tag name space) t = false≢true t.prefix

closed_in_text : Refuses (codes "<a>]]></a>") (faults.Syntax 3)
unfolding opened
closed_in_text = record { items = start_tag (tag (codes "a")) ∷ []; walked = refl; ends = refl; within = omega arith; none = none_there close refl close_item }

-- an XML declaration that does not be first, and is no instruction

abbrev late : List ℕ
late = codes "<?xml version=\"1.0\"?></a>"

no_tag : (name others space last : List ℕ) → is_name name ≡ true → begins (name ++ others ++ space ++ last) (codes "?xml version=\"1.0\"?></a>") ≡ true → ⊥
unfolding opened
no_tag [] others space last n h = false≢true n
no_tag (c ∷ name) others space last n h =
    let k : c ≡ 63 = eqb-true c 63 (and_parts (c == 63) _ h).0 in
    false≢true (subst (λ x. is_name_start x ≡ true) k (and_parts (is_name_start c) _ n).0)

-- after the target is neither white space nor ?>
no_gap : (space content : List ℕ) (d : ℕ) (text : List ℕ) → is_space d ≡ false → (63 == d) ≡ false → is_blank space ≡ true → (not (is_nil space) || is_nil content) ≡ true → begins (space ++ content ++ codes "?>") (d ∷ text) ≡ true → ⊥
unfolding is_blank
no_gap [] [] d text s q b n h = false≢true (sym q ∙ (and_parts (63 == d) _ h).0)
no_gap [] (c ∷ content) d text s q b n h = false≢true n
no_gap (c ∷ space) content d text s q b n h =
    let k : c ≡ d = eqb-true c d (and_parts (c == d) _ h).0 in
    false≢true (sym s ∙ ap is_space (sym k) ∙ (and_parts (is_space c) _ b).0)

late_target : (target space content : List ℕ) → is_name target ≡ true → not (bytes_eq (map to_ascii_lowercase target) (codes "xml")) ≡ true → is_blank space ≡ true → (not (is_nil space) || is_nil content) ≡ true →
    begins (target ++ space ++ content ++ codes "?>") (codes "xml version=\"1.0\"?></a>") ≡ true → ⊥
unfolding opened
late_target [] space content t x b n h = false≢true t
late_target (c ∷ []) space content t x b n h = no_gap space content 109 (codes "l version=\"1.0\"?></a>") refl refl b n (and_parts (c == 120) _ h).1
late_target (c ∷ d ∷ []) space content t x b n h = no_gap space content 108 (codes " version=\"1.0\"?></a>") refl refl b n (and_parts (d == 109) _ (and_parts (c == 120) _ h).1).1
late_target (c ∷ d ∷ e ∷ []) space content t x b n h =
    let p = and_parts (c == 120) _ h in
    let q = and_parts (d == 109) _ p.1 in
    let r = and_parts (e == 108) _ q.1 in
    let i : c ≡ 120 = eqb-true c 120 p.0 in
    let j : d ≡ 109 = eqb-true d 109 q.0 in
    let k : e ≡ 108 = eqb-true e 108 r.0 in
    let same : c ∷ d ∷ e ∷ [] ≡ 120 ∷ 109 ∷ 108 ∷ [] = cc in
    false≢true (subst (λ xs. not (bytes_eq (map to_ascii_lowercase xs) (codes "xml")) ≡ true) same x)
late_target (c ∷ d ∷ e ∷ f ∷ target) space content t x b n h =
    let p = and_parts (c == 120) _ h in
    let q = and_parts (d == 109) _ p.1 in
    let r = and_parts (e == 108) _ q.1 in
    let k : f ≡ 32 = eqb-true f 32 (and_parts (f == 32) _ r.1).0 in
    let m = and_parts (is_name_char d) _ (and_parts (is_name_start c) _ t).1 in
    let l = and_parts (is_name_char f) _ (and_parts (is_name_char e) _ m.1).1 in
    false≢true (subst (λ x. is_name_char x ≡ true) k l.0)

late_instruction : (i : Instruction) → meets_instruction i ≡ true → begins (i.target ++ i.space ++ i.content ++ codes "?>") (codes "xml version=\"1.0\"?></a>") ≡ true → ⊥
late_instruction i m h =
    let a = and_parts _ (not (is_nil i.space) || is_nil i.content) m in
    let b = and_parts _ _ a.0 in
    let c = and_parts _ _ b.0 in
    let d = and_parts _ _ c.0 in
    let e = and_parts _ (is_blank i.space) d.0 in
    let f = and_parts (is_name i.target) (not (bytes_eq (map to_ascii_lowercase i.target) (codes "xml"))) e.0 in
    late_target i.target i.space i.content f.0 f.1 e.1 a.1 h

late_text : (ps : List Piece) → Known late (leaf (Leaf.text ps)) → Row ps → ⊥
late_text [] t r = false≢true r.some
late_text (literal c ∷ ps) t r = both (c == 60) (and_parts (c == 60) _ t.prefix).0 (literal_row c ps r).0
late_text (entity name ∷ ps) t r = false≢true t.prefix
late_text (decimal digits ∷ ps) t r = false≢true t.prefix
late_text (hexadecimal digits ∷ ps) t r = false≢true t.prefix

named_tag : (t : Tag) → meets_tag t ≡ true → is_name t.name ≡ true
named_tag t m = (and_parts (is_name t.name) _ (and_parts _ _ m).0).0

late_item : (i : Item) → Known late i → ⊥
unfolding meets
late_item (leaf (Leaf.text ps)) t = late_text ps t (row_of ps t.row)
late_item (leaf (Leaf.cdata cs)) t = false≢true t.prefix
late_item (leaf (Leaf.comment cs)) t = false≢true t.prefix
late_item (leaf (Leaf.instruction i)) t = late_instruction i t.row t.prefix
late_item (leaf (Leaf.declaration d)) t = false≢true t.holds
late_item (leaf (Leaf.doctype d)) t = false≢true t.prefix
late_item (start_tag u) t = no_tag u.name (written_attributes u.attributes) u.space (codes ">") (named_tag u t.row) t.prefix
late_item (empty_tag u) t = no_tag u.name (written_attributes u.attributes) u.space (codes "/>") (named_tag u t.row) t.prefix
late_item (end_tag name space) t = false≢true t.prefix

declaration_late : Refuses (codes "<a><?xml version=\"1.0\"?></a>") (faults.Syntax 3)
unfolding opened
declaration_late = record { items = start_tag (tag (codes "a")) ∷ []; walked = refl; ends = refl; within = omega arith; none = none_there late refl late_item }
