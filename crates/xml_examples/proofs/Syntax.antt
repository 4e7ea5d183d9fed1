-- A document in which the items stop before the end: after <a/> in <a/>< no item begins.
use Rattle.std.proofs.Common.{◌≡◌, ℕ, ◌+◌, ◌<◌, ◌≤◌, List, [], ◌∷◌, ◌++◌, refl, ap, sym, ◌∙◌, arith, subst, length, length-append, drop, codes, Bool, true, false, not, ◌&&◌, ◌==◌, ⊎_elim, cond, nat_lt, le-ltb, encode_utf8_all}
use Rattle.std.specs.Char.{encode_utf8, len_utf8}
use Rattle.std.specs.List.{list_all}
use Rattle.std.proofs.lemmas.Bool.{false≢true, and_parts, cases_lt}
use Rattle.std.proofs.lemmas.Str.{length-le-encodes, length-encode, encode_ascii}
use Rattle.xml_model.specs.declared.DocFault.TheVariants as faults
use Rattle.xml_model.specs.Chars.{begins, lacks, is_char}
use Rattle.xml_model.specs.Items.{Piece, literal, entity, decimal, hexadecimal, Leaf, Item, leaf, start_tag, empty_tag, end_tag, written, written_pieces, written_tag, meets, meets_piece, ends_well, may_begin_at, spelling}
use Rattle.xml_model.specs.Accepted.{Refuses}
use Rattle.xml_model.proofs.Siblings.{and_no}
use Rattle.xml_examples.proofs.Parts.{opened, tag}

too_long : (prefix text : List ℕ) → length text < length prefix → begins prefix text ≡ false
too_long [] text h = absurd (omega arith)
too_long (c ∷ prefix) [] h = refl
too_long (c ∷ prefix) (d ∷ text) h = ap (λ b. c == d && b) (too_long prefix text (omega (arith, h))) ∙ and_no (c == d)

abbrev alone : Item → Bool
alone i = meets i && begins (spelling i) (60 ∷ [])

long_item : (i : Item) → 1 < length (written i) → alone i ≡ false
unfolding spelling
long_item i h = ap (λ b. meets i && b) (too_long (spelling i) (60 ∷ []) (omega (arith, h, length-le-encodes (written i)))) ∙ and_no (meets i)

long_char : (c : ℕ) → 128 ≤ c → 1 < length (encode_utf8 c)
long_char c h = omega (arith, length-encode c, by (nat_lt c 0x800) (nat_lt c 0x1_0000))
  where
    two : (b d : Bool) → 1 < cond b 2 (cond d 3 4)
    two true d = omega arith
    two false true = omega arith
    two false false = omega arith

    by : (b d : Bool) → 1 < len_utf8 c
    by b d = subst (λ (n : ℕ). 1 < n) (sym (ap (λ e. cond e 1 (cond (nat_lt c 0x800) 2 (cond (nat_lt c 0x1_0000) 3 4))) (le-ltb c 0x80 h))) (two (nat_lt c 0x800) (nat_lt c 0x1_0000))

not_true : (b : Bool) → not b ≡ true → b ≡ false
not_true true h = absurd (false≢true h)
not_true false h = refl

-- a literal is no <
other_char : (c : ℕ) (ps : List Piece) → (c == 60) ≡ false → begins (spelling (leaf (Leaf.text (literal c ∷ ps)))) (60 ∷ []) ≡ false
unfolding spelling
other_char c ps n =
    ⊎_elim (λ l. ap (λ bs. begins (bs ++ encode_utf8_all (written_pieces ps)) (60 ∷ [])) (encode_ascii c l) ∙ ap (λ b. b && begins (encode_utf8_all (written_pieces ps)) []) n)
    (λ l. too_long (encode_utf8 c ++ encode_utf8_all (written_pieces ps)) (60 ∷ []) (omega (arith, length-append (encode_utf8 c) (encode_utf8_all (written_pieces ps)), long_char c l)))
    (cases_lt c 128)

not_less : (c : ℕ) (ps : List Piece) → meets (leaf (Leaf.text (literal c ∷ ps))) ≡ true → (c == 60) ≡ false
unfolding meets
not_less c ps h =
    let all = list_all (meets_piece (λ d. false)) ps in
    let one = is_char c && not (c == 60) && not (c == 38) && true in
    let whole = and_parts (one && all) (lacks (codes "]]>") (c ∷ written_pieces ps)) h in
    let first = and_parts one all whole.0 in
    let tests = and_parts (is_char c && not (c == 60) && not (c == 38)) true first.0 in
    let two = and_parts (is_char c && not (c == 60)) (not (c == 38)) tests.0 in
    not_true (c == 60) (and_parts (is_char c) (not (c == 60)) two.0).1

text_alone : (ps : List Piece) → alone (leaf (Leaf.text ps)) ≡ false
unfolding meets spelling encode_utf8
text_alone [] = refl
text_alone (entity name ∷ ps) = and_no (meets (leaf (Leaf.text (entity name ∷ ps))))
text_alone (decimal digits ∷ ps) = and_no (meets (leaf (Leaf.text (decimal digits ∷ ps))))
text_alone (hexadecimal digits ∷ ps) = and_no (meets (leaf (Leaf.text (hexadecimal digits ∷ ps))))
text_alone (literal c ∷ ps) = by (meets (leaf (Leaf.text (literal c ∷ ps)))) refl
  where
    by : (b : Bool) → meets (leaf (Leaf.text (literal c ∷ ps))) ≡ b → (b && begins (spelling (leaf (Leaf.text (literal c ∷ ps)))) (60 ∷ [])) ≡ false
    by false h = refl
    by true h = other_char c ps (not_less c ps h)

no_item_alone : (i : Item) → alone i ≡ false
no_item_alone (leaf (Leaf.text ps)) = text_alone ps
no_item_alone (leaf (Leaf.cdata cs)) = long_item (leaf (Leaf.cdata cs)) (omega arith)
no_item_alone (leaf (Leaf.comment cs)) = long_item (leaf (Leaf.comment cs)) (omega arith)
no_item_alone (leaf (Leaf.instruction i)) = long_item (leaf (Leaf.instruction i)) (omega arith)
no_item_alone (leaf (Leaf.declaration d)) = long_item (leaf (Leaf.declaration d)) (omega arith)
no_item_alone (leaf (Leaf.doctype d)) = long_item (leaf (Leaf.doctype d)) (omega arith)
no_item_alone (start_tag t) = long_item (start_tag t) (omega (arith, length-append (written_tag t) (codes ">")))
no_item_alone (empty_tag t) = long_item (empty_tag t) (omega (arith, length-append (written_tag t) (codes "/>")))
no_item_alone (end_tag name space) = long_item (end_tag name space) (omega arith)

-- so the refusal is Syntax at 4
syntax_at_four : Refuses (codes "<a/><") (faults.Syntax 4)
unfolding opened
syntax_at_four = record {
  items = empty_tag (tag (codes "a")) ∷ [];
  walked = refl;
  ends = refl;
  within = omega arith;
  none = λ i. ap (λ b. b && ends_well i (drop (4 + length (spelling i)) (codes "<a/><")) && may_begin_at i 0 4) (no_item_alone i);
}
