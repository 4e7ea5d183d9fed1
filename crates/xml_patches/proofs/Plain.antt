-- What is written for a plain text meets its row exactly where all of it are Chars.
use Rattle.std.proofs.Common.{◌≡◌, ℕ, ◌+◌, Bool, true, false, inl, inr, List, [], ◌∷◌, ◌++◌, map, refl, sym, ap, ap₂, ◌∙◌, not, ◌&&◌, eqb-true}
use Rattle.std.specs.Prelude.{codes, ◌==◌}
use Rattle.std.specs.List.{list_all}
use Rattle.std.proofs.lemmas.Bool.{and_parts, and_from, false≢true, cases_Bool, not-true, not_from_false, false_from_ne_true}
use Rattle.std.proofs.lemmas.List.Folds.{list_all-append}
use Rattle.xml_model.specs.Chars.{is_char, in_ranges, begins, lacks, is_name, is_name_start, is_name_char, size}
use Rattle.xml_model.specs.Items.{Piece, literal, entity, decimal, hexadecimal, Quote, quote_char, Leaf, leaf, written_piece, written_pieces, meets}
use Rattle.xml_model.specs.Items.{meets_piece, is_nil, is_number}
use Rattle.xml_model.specs.Accepted.{is_unknown, unknown_pieces}
use Rattle.xml_nests.specs.Fits.{is_resolved}
use Rattle.xml_patches.specs.Edited.{in_text, in_value, quote_name, quote_code}

-- what is wanted of the piece for a character
abbrev pub Text : ℕ → Piece → Type 0
Text c p = (meets_piece (λ d. false) p ≡ is_char c) × (list_all (λ d. not (d == 62)) (written_piece p) ≡ true) × (is_unknown p ≡ false)

abbrev pub InQuotes : Quote → ℕ → Piece → Type 0
InQuotes q c p = (meets_piece (λ d. d == quote_char q) p ≡ is_char c) × (is_unknown p ≡ false)

abbrev written_chars : List ℕ
written_chars = 9 ∷ 10 ∷ 13 ∷ 34 ∷ 38 ∷ 39 ∷ 60 ∷ 62 ∷ []

are_chars : list_all is_char written_chars ≡ true
unfolding is_char in_ranges
are_chars = refl

one_char : (c n : ℕ) (xs ys : List ℕ) → xs ++ n ∷ ys ≡ written_chars → (c == n) ≡ true → is_char c ≡ true
one_char c n xs ys w e =
    let q = and_parts _ _ (sym (list_all-append is_char xs (n ∷ ys)) ∙ ap (list_all is_char) w ∙ are_chars) in ap is_char (eqb-true c n e)
    ∙ (and_parts (is_char n) _ q.1).0

plain_text : (b : Bool) → (b && true && true && true) ≡ b
plain_text true = refl
plain_text false = refl

-- references that are written
number_meets : (ds : List ℕ) (stops : ℕ → Bool) → is_number 10 ds ≡ true → meets_piece stops (decimal ds) ≡ true
number_meets ds stops h = h

return_number : is_number 10 (codes "13") ≡ true
unfolding is_char in_ranges
return_number = refl

tab_number : is_number 10 (codes "9") ≡ true
unfolding is_char in_ranges
tab_number = refl

line_number : is_number 10 (codes "10") ≡ true
unfolding is_char in_ranges
line_number = refl

names_are : (is_name (codes "amp") ≡ true) × (is_name (codes "lt") ≡ true) × (is_name (codes "gt") ≡ true) × (is_name (codes "quot") ≡ true) ×
    (is_name (codes "apos") ≡ true)
unfolding is_name is_name_start is_name_char in_ranges
names_are = (refl, refl, refl, refl, refl)

pub text_piece : (c : ℕ) → Text c (in_text c)
text_piece c = elim (cases_Bool (c == 38)) [
  | inl t ↦ rw t (names_are.0 ∙ sym (one_char c 38 (9 ∷ 10 ∷ 13 ∷ 34 ∷ []) (39 ∷ 60 ∷ 62 ∷ []) refl t), refl, refl)
  | inr f ↦ elim (cases_Bool (c == 60)) [
    | inl t ↦ rw (f, t) (names_are.1 ∙ sym (one_char c 60 (9 ∷ 10 ∷ 13 ∷ 34 ∷ 38 ∷ 39 ∷ []) (62 ∷ []) refl t), refl, refl)
    | inr g ↦ elim (cases_Bool (c == 62)) [
      | inl t ↦ rw (f, g, t) (names_are.2 ∙ sym (one_char c 62 (9 ∷ 10 ∷ 13 ∷ 34 ∷ 38 ∷ 39 ∷ 60 ∷ []) [] refl t), refl, refl)
      | inr h ↦ elim (cases_Bool (c == 13)) [
        | inl t ↦ rw (f, g, h, t) (return_number ∙ sym (one_char c 13 (9 ∷ 10 ∷ []) (34 ∷ 38 ∷ 39 ∷ 60 ∷ 62 ∷ []) refl t), refl, refl)
        | inr k ↦
            let x : (is_char c && not (c == 60) && not (c == 38) && not false) ≡ is_char c = rw (f, g) (plain_text (is_char c)) in
            let y : (not (c == 62) && true) ≡ true = rw h refl in
            rw (f, g, h, k) (x, y, refl)
      ]
    ]
  ]
]

-- all of them
pub text_meets : (cs : List ℕ) → list_all (meets_piece (λ d. false)) (map in_text cs) ≡ list_all is_char cs
text_meets [] = refl
text_meets (c ∷ cs) = ap₂ (λ (x y : Bool). x && y) (text_piece c).0 (text_meets cs)

no_closing : (cs : List ℕ) → list_all (λ d. not (d == 62)) (written_pieces (map in_text cs)) ≡ true
no_closing [] = refl
no_closing (c ∷ cs) = list_all-append (λ d. not (d == 62)) (written_piece (in_text c)) (written_pieces (map in_text cs))
    ∙ and_from _ _ (text_piece c).1 (no_closing cs)

begun_all : (p : ℕ → Bool) (w text : List ℕ) → begins w text ≡ true → list_all p text ≡ true → list_all p w ≡ true
begun_all p [] text b h = refl
begun_all p (c ∷ w) [] b h = absurd (false≢true b)
begun_all p (c ∷ w) (d ∷ text) b h =
    let q = and_parts (c == d) (begins w text) b in
    let r = and_parts (p d) (list_all p text) h in
    and_from _ _ (ap p (eqb-true c d q.0) ∙ r.0) (begun_all p w text q.1 r.1)

lacks_by : (p : ℕ → Bool) (w text : List ℕ) → list_all p w ≡ false → list_all p text ≡ true → lacks w text ≡ true
lacks_by p w [] n h = refl
lacks_by p w (c ∷ text) n h = and_from _ _ (not_from_false _ (false_from_ne_true _ (λ b. false≢true (sym n ∙ begun_all p w (c ∷ text) b h))))
    (lacks_by p w text n (and_parts (p c) _ h).1)

piece_some : (p : Piece) → is_nil (written_piece p) ≡ false
piece_some (literal c) = refl
piece_some (entity name) = refl
piece_some (decimal ds) = refl
piece_some (hexadecimal ds) = refl

append_some : (xs ys : List ℕ) → is_nil xs ≡ false → is_nil (xs ++ ys) ≡ false
append_some [] ys h = absurd (false≢true (sym h))
append_some (x ∷ xs) ys h = refl

-- the text that is written meets its row exactly where all are Chars
pub set_text_meets : (c : ℕ) (cs : List ℕ) → meets (leaf (Leaf.text (map in_text (c ∷ cs)))) ≡ list_all is_char (c ∷ cs)
unfolding meets
set_text_meets c cs =
    let n : is_nil (written_pieces (map in_text (c ∷ cs))) ≡ false =
    append_some (written_piece (in_text c)) (written_pieces (map in_text cs)) (piece_some (in_text c)) in
    let l : lacks (codes "]]>") (written_pieces (map in_text (c ∷ cs))) ≡ true = lacks_by (λ d. not (d == 62)) (codes "]]>")
    (written_pieces (map in_text (c ∷ cs))) refl (no_closing (c ∷ cs)) in
    rw (n, l, text_meets (c ∷ cs)) (last (list_all is_char (c ∷ cs)))
  where
    last : (b : Bool) → (true && b && true) ≡ b
    last true = refl
    last false = refl

pieces_known : (ps : List Piece) (at : ℕ) → list_all (λ p. not (is_unknown p)) ps ≡ true → is_nil (unknown_pieces at ps) ≡ true
pieces_known [] at h = refl
pieces_known (p ∷ ps) at h =
    let q = and_parts (not (is_unknown p)) _ h in
    let u : is_unknown p ≡ false = not-true (is_unknown p) q.0 in
    rw u (pieces_known ps (at + size (written_piece p)) q.1)

text_known : (cs : List ℕ) → list_all (λ p. not (is_unknown p)) (map in_text cs) ≡ true
text_known [] = refl
text_known (c ∷ cs) = and_from _ _ (not_from_false _ (text_piece c).2) (text_known cs)

pub set_text_resolved : (cs : List ℕ) → is_resolved (leaf (Leaf.text (map in_text cs))) ≡ true
set_text_resolved cs = pieces_known (map in_text cs) 0 (text_known cs)

-- ---- the same in a value

plain_value : (b d : Bool) → d ≡ false → (b && true && true && not d) ≡ b
plain_value true d e = rw e refl
plain_value false d e = refl

quote_same : (q : Quote) (c : ℕ) (b : Bool) → (c == quote_code q) ≡ b → (c == quote_char q) ≡ b
quote_same Quote.single c b e = e
quote_same Quote.double c b e = e

quote_is_char : (q : Quote) (c : ℕ) → (c == quote_code q) ≡ true → is_char c ≡ true
quote_is_char Quote.single c e = one_char c 39 (9 ∷ 10 ∷ 13 ∷ 34 ∷ 38 ∷ []) (60 ∷ 62 ∷ []) refl e
quote_is_char Quote.double c e = one_char c 34 (9 ∷ 10 ∷ 13 ∷ []) (38 ∷ 39 ∷ 60 ∷ 62 ∷ []) refl e

quote_meets : (q : Quote) → is_name (quote_name q) ≡ true
quote_meets Quote.single = names_are.4
quote_meets Quote.double = names_are.3

quote_known : (q : Quote) → is_unknown (entity (quote_name q)) ≡ false
quote_known Quote.single = refl
quote_known Quote.double = refl

pub value_piece : (q : Quote) (c : ℕ) → InQuotes q c (in_value q c)
value_piece q c = elim (cases_Bool (c == 38)) [
  | inl t ↦ rw t (names_are.0 ∙ sym (one_char c 38 (9 ∷ 10 ∷ 13 ∷ 34 ∷ []) (39 ∷ 60 ∷ 62 ∷ []) refl t), refl)
  | inr f ↦ elim (cases_Bool (c == 60)) [
    | inl t ↦ rw (f, t) (names_are.1 ∙ sym (one_char c 60 (9 ∷ 10 ∷ 13 ∷ 34 ∷ 38 ∷ 39 ∷ []) (62 ∷ []) refl t), refl)
    | inr g ↦ elim (cases_Bool (c == quote_code q)) [
      | inl t ↦ rw (f, g, t) (quote_meets q ∙ sym (quote_is_char q c t), quote_known q)
      | inr o ↦ elim (cases_Bool (c == 9)) [
        | inl t ↦ rw (f, g, o, t) (tab_number ∙ sym (one_char c 9 [] (10 ∷ 13 ∷ 34 ∷ 38 ∷ 39 ∷ 60 ∷ 62 ∷ []) refl t), refl)
        | inr h ↦ elim (cases_Bool (c == 10)) [
          | inl t ↦ rw (f, g, o, h, t) (line_number ∙ sym (one_char c 10 (9 ∷ []) (13 ∷ 34 ∷ 38 ∷ 39 ∷ 60 ∷ 62 ∷ []) refl t), refl)
          | inr k ↦ elim (cases_Bool (c == 13)) [
            | inl t ↦ rw (f, g, o, h, k, t) (return_number ∙ sym (one_char c 13 (9 ∷ 10 ∷ []) (34 ∷ 38 ∷ 39 ∷ 60 ∷ 62 ∷ []) refl t), refl)
            | inr m ↦
                let x : (is_char c && not (c == 60) && not (c == 38) && not (c == quote_char q)) ≡ is_char c =
                rw (f, g) (plain_value (is_char c) (c == quote_char q) (quote_same q c false o)) in
                rw (f, g, o, h, k, m) (x, refl)
          ]
        ]
      ]
    ]
  ]
]

pub value_meets : (q : Quote) (cs : List ℕ) → list_all (meets_piece (λ d. d == quote_char q)) (map (in_value q) cs) ≡ list_all is_char cs
value_meets q [] = refl
value_meets q (c ∷ cs) = ap₂ (λ (x y : Bool). x && y) (value_piece q c).0 (value_meets q cs)

pub value_known : (q : Quote) (cs : List ℕ) → list_all (λ p. not (is_unknown p)) (map (in_value q) cs) ≡ true
value_known q [] = refl
value_known q (c ∷ cs) = and_from _ _ (not_from_false _ (value_piece q c).1) (value_known q cs)
