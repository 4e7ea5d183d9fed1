-- A document that ends before its root element does is refused, for a reason that its end explains.
use Rattle.std.proofs.Common.{◌≡◌, ℕ, zero, suc, ◌+◌, ◌-◌, ◌<◌, ◌≤◌, Bool, true, false, cond, ◌⊎◌, inl, inr, List, [], ◌∷◌, ◌++◌, length}
use Rattle.std.proofs.Common.{take, drop, Some, refl, sym, ap, ap₂, subst, ◌∙◌, arith, not, ◌&&◌, append_assoc, append-nil}
use Rattle.std.proofs.Common.{length-append, eqb-true, eq-eqb, length-drop}
use Rattle.std.specs.Prelude.{codes, ◌==◌, IsUtf8}
use Rattle.std.specs.Str.{chars, is_utf8}
use Rattle.std.specs.List.{list_all}
use lib.Utf8.{encode, encodes}
use Rattle.std.proofs.lemmas.Bool.{and_parts, and_from, false≢true, cases_Bool, cases_lt, false_from_ne_true}
use Rattle.std.proofs.lemmas.List.{take-append-drop, length-take-le, drop-append-le}
use Rattle.std.proofs.lemmas.List.Folds.{list_all-append}
use Rattle.std.proofs.lemmas.Option.{same_Some, none-some, cond_some}
use Rattle.std.proofs.lemmas.Str.{encode_same, IsUtf8-drop, IsUtf8-nil, is_utf8-from_IsUtf8, length-encode, len_utf8_bounds}
use Rattle.xml_model.specs.declared.DocFault.{DocFault}
use Rattle.xml_model.specs.declared.DocFault.TheVariants as faults
use Rattle.xml_model.specs.Chars.{begins, lacks, size}
use Rattle.xml_model.specs.Items.{Piece, literal, Leaf, text, cdata, declaration, doctype, Item, leaf, start_tag, empty_tag, end_tag}
use Rattle.xml_model.specs.Items.{written_piece, written_pieces, spelling, meets, meets_piece, is_nil, ends_well, may_begin_at, begins_at}
use Rattle.xml_model.specs.Items.{first_place, byte_order_mark, walk, walk_from, walk_to_end, end_of_items}
use Rattle.xml_model.specs.Nest.{Forest, flat, is_nest, is_literal_space, is_misc}
use Rattle.xml_model.specs.Accepted.{IsDocument, RefusesUtf8, RefusesItem, Refuses, IsRefusal, layer, is_unknown, unknown_pieces}
use Rattle.xml_model.specs.Accepted.{unknown_item, encoding_item, over_items}
use Rattle.xml_model.proofs.Bridge.{one_walk, no_syntax, no_utf8}
use Rattle.xml_chars.proofs.Readers.{begins_split}
use Rattle.xml_items.specs.Reading.{read_piece}
use Rattle.xml_items.proofs.PieceLaws.{piece_reads}
use Rattle.xml_items.proofs.WalkLemmas.{item_or_none}
use Rattle.xml_items.proofs.OneItem.{one_item_on_walks}
use Rattle.xml_items.proofs.PlaceLaws.{walk_boundary}
use Rattle.xml_acceptance.specs.Machine.{Phase, whole, head, body, tail, State, state, in_head, outside, step, run, is_final}
use Rattle.xml_acceptance.proofs.Nests.{run_some, complete, stepped}
use Rattle.xml_acceptance.proofs.Prefixes.{run_then, one_step, begins_taken, taken_begins, open_no_nest}
use Rattle.xml_acceptance.proofs.OneAnswer.{utf8_or_not}
use Rattle.xml_acceptance.proofs.Layers.{walk_more, end_more}
use Rattle.xml_nests.proofs.Walks.{begins_here, opens}
use Rattle.xml_nests.proofs.Back.{here, not_angle, fits_from_accepted}
use Rattle.xml_nests.proofs.Lists.{nil_append, over_none, entities_any, encoding_any}
use Rattle.xml_nests.specs.Fits.{is_resolved, is_readable, is_text_item}
use Rattle.xml_endings.specs.Endings.{root_end, IsOfEnd, CutShort}
use Rattle.xml_endings.proofs.Refusals.{syntax_refusal}
use Rattle.xml_endings.proofs.Roots.{nest_ended, tail_leaves}

-- ---- a prefix of a text

-- characters that come first in bytes
chars_prefix : (xs ys a b : List ℕ) → length (encodes xs) ≤ length (encodes ys) → encodes xs ++ a ≡ encodes ys ++ b →
    (w : List ℕ) × (ys ≡ xs ++ w)
chars_prefix [] ys a b l e = (ys, refl)
chars_prefix (c ∷ xs) [] a b l e =
    let n : length (encode c ++ encodes xs) ≡ length (encode c) + length (encodes xs) = length-append (encode c) (encodes xs) in
    absurd (omega (arith, l, n, len_utf8_bounds c, length-encode c))
chars_prefix (c ∷ xs) (d ∷ ys) a b l e =
    let q = encode_same c d (encodes xs ++ a) (encodes ys ++ b)
    (sym (append_assoc (encode c) (encodes xs) a) ∙ e ∙ append_assoc (encode d) (encodes ys) b) in
    let n : length (encode c ++ encodes xs) ≡ length (encode c) + length (encodes xs) = length-append (encode c) (encodes xs) in
    let m : length (encode d ++ encodes ys) ≡ length (encode d) + length (encodes ys) = length-append (encode d) (encodes ys) in
    let k : length (encode c) ≡ length (encode d) = ap (λ (x : ℕ). length (encode x)) q.0 in
    let r = chars_prefix xs ys a b (omega (arith, l, n, m, k)) q.1 in
    (r.0, ap₂ (λ (x : ℕ) (zs : List ℕ). x ∷ zs) (sym q.0) r.1)

-- pieces are fixed by what is written
piece_same : (p q : Piece) (x y : List ℕ) → (stops : ℕ → Bool) → meets_piece stops p ≡ true → meets_piece stops q ≡ true →
    written_piece p ++ x ≡ written_piece q ++ y → (p ≡ q) × (x ≡ y)
piece_same p q x y stops h k e =
    let r = same_Some (p, x) (q, y) (sym ((piece_reads stops).again p x h) ∙ ap (read_piece stops) e ∙ (piece_reads stops).again q y k) in
    (ap (λ (v : Piece × List ℕ). v.0) r, ap (λ (v : Piece × List ℕ). v.1) r)

pieces_prefix : (qs ps : List Piece) (w : List ℕ) (stops : ℕ → Bool) → list_all (meets_piece stops) qs ≡ true →
    list_all (meets_piece stops) ps ≡ true → written_pieces ps ≡ written_pieces qs ++ w → (rest : List Piece) × (ps ≡ qs ++ rest)
pieces_prefix [] ps w stops h k e = (ps, refl)
pieces_prefix (q ∷ qs) [] w stops h k e =
    absurd (some q (written_pieces qs ++ w) (e ∙ append_assoc (written_piece q) (written_pieces qs) w))
  where
    some : (q : Piece) (more : List ℕ) → [] ≡ written_piece q ++ more → ⊥
    some (literal c) more e = cc
    some (Piece.entity n) more e = cc
    some (Piece.decimal n) more e = cc
    some (Piece.hexadecimal n) more e = cc
pieces_prefix (q ∷ qs) (p ∷ ps) w stops h k e =
    let i = and_parts (meets_piece stops q) (list_all (meets_piece stops) qs) h in
    let j = and_parts (meets_piece stops p) (list_all (meets_piece stops) ps) k in
    let r = piece_same p q (written_pieces ps) (written_pieces qs ++ w) stops j.0 i.0
    (e ∙ append_assoc (written_piece q) (written_pieces qs) w) in
    let t = pieces_prefix qs ps w stops i.1 j.1 r.1 in
    (t.0, ap₂ (λ (x : Piece) (xs : List Piece). x ∷ xs) r.0 t.1)

pieces_meet : (ps : List Piece) → meets (leaf (text ps)) ≡ true → list_all (meets_piece (λ c. false)) ps ≡ true
unfolding meets
pieces_meet ps m =
    let q = and_parts (not (is_nil (written_pieces ps)) && list_all (meets_piece (λ c. false)) ps) (lacks (codes "]]>")
    (written_pieces ps)) m in
    (and_parts (not (is_nil (written_pieces ps))) (list_all (meets_piece (λ c. false)) ps) q.0).1

text_prefix : (qs ps : List Piece) (a b : List ℕ) → meets (leaf (text qs)) ≡ true → meets (leaf (text ps)) ≡ true →
    length (spelling (leaf (text qs))) ≤ length (spelling (leaf (text ps))) →
    spelling (leaf (text qs)) ++ a ≡ spelling (leaf (text ps)) ++ b →
    (rest : List Piece) × (ps ≡ qs ++ rest)
unfolding spelling
text_prefix qs ps a b m n l e =
    let w = chars_prefix (written_pieces qs) (written_pieces ps) a b l e in
    pieces_prefix qs ps w.0 (λ c. false) (pieces_meet qs m) (pieces_meet ps n) w.1

known_prefix : (qs rest : List Piece) (at : ℕ) → is_nil (unknown_pieces at (qs ++ rest)) ≡ true → is_nil (unknown_pieces at qs) ≡ true
known_prefix [] rest at h = refl
known_prefix (q ∷ qs) rest at h =
    let x = cond (is_unknown q) (at ∷ []) [] in
    let s = at + size (written_piece q) in
    let r = and_parts (is_nil x) (is_nil (unknown_pieces s (qs ++ rest))) (sym (nil_append x (unknown_pieces s (qs ++ rest))) ∙ h) in
    nil_append x (unknown_pieces s qs) ∙ and_from _ _ r.0 (known_prefix qs rest s r.1)

misc_prefix : (qs rest : List Piece) → is_misc (text (qs ++ rest)) ≡ true → is_misc (text qs) ≡ true
misc_prefix qs rest h =
    (and_parts (list_all is_literal_space qs) (list_all is_literal_space rest) (sym (list_all-append is_literal_space qs rest) ∙ h)).0

-- a shorter text may be where the longer one is
in_head_text : (ps : List Piece) (p : Phase) → in_head (text ps) ≡ Some p → (is_misc (text ps) ≡ true) × (head ≡ p)
in_head_text ps p e = elim (cases_Bool (is_misc (text ps))) [
  | inl t ↦ (t, same_Some head p (sym (rw t refl) ∙ e))
  | inr f ↦ absurd (none-some p (sym (rw f refl) ∙ e))
]

outside_prefix : (qs rest : List Piece) (phase p : Phase) → outside phase (text (qs ++ rest)) ≡ Some p → outside phase (text qs) ≡ Some p
outside_prefix qs rest whole p e = let q = in_head_text (qs ++ rest) p e in rw (misc_prefix qs rest q.0) (ap (λ (x : Phase). Some x) q.1)
outside_prefix qs rest head p e = let q = in_head_text (qs ++ rest) p e in rw (misc_prefix qs rest q.0) (ap (λ (x : Phase). Some x) q.1)
outside_prefix qs rest body p e = let q =
    cond_some (is_misc (text (qs ++ rest))) body p e in rw (misc_prefix qs rest q.0) (ap (λ (x : Phase). Some x) q.1)
outside_prefix qs rest tail p e = let q =
    cond_some (is_misc (text (qs ++ rest))) tail p e in rw (misc_prefix qs rest q.0) (ap (λ (x : Phase). Some x) q.1)

step_by : (qs rest : List Piece) (t : State) (names : List (List ℕ)) (phase : Phase) →
    step names phase (leaf (text (qs ++ rest))) ≡ Some t → step names phase (leaf (text qs)) ≡ Some t
unfolding step
step_by qs rest t [] phase e =
    let q = stepped (outside phase (text (qs ++ rest))) [] t e in
    rw (outside_prefix qs rest phase q.0 q.1) (ap (λ (x : State). Some x) q.2)
step_by qs rest t (n ∷ names) phase e = e

step_prefix : (qs rest : List Piece) (s t : State) → step s.names s.phase (leaf (text (qs ++ rest))) ≡ Some t →
    step s.names s.phase (leaf (text qs)) ≡ Some t
step_prefix qs rest s t e = step_by qs rest t s.names s.phase e

-- ---- the refusal of items that are left open

none_at : (f : ℕ → Item → List ℕ) (bytes : List ℕ) (items : List Item) (at : ℕ) → IsUtf8 bytes → walk_to_end bytes items ≡ true →
    over_items f (first_place bytes) items ≡ [] → RefusesItem f bytes at → ⊥
none_at f bytes items at u w e r =
    let same : r.items ≡ items = one_walk bytes (one_item_on_walks bytes) r.items items r.walked w in
    let h : at ∷ r.others ≡ [] = sym r.first ∙ ap (over_items f (first_place bytes)) same ∙ e in
    cc

none_below : (bytes : List ℕ) (items : List Item) → IsUtf8 bytes → walk_to_end bytes items ≡ true →
    over_items unknown_item (first_place bytes) items ≡ [] → over_items encoding_item (first_place bytes) items ≡ [] →
    (other : DocFault) → layer other < 5 → Refuses bytes other → ⊥
none_below bytes items u w a b (faults.Utf8 at) l r = no_utf8 bytes at u r
none_below bytes items u w a b (faults.Syntax at) l r = no_syntax bytes items at (one_item_on_walks bytes) w r
none_below bytes items u w a b (faults.Entity at) l r = none_at unknown_item bytes items at u w a r
none_below bytes items u w a b (faults.Encoding at) l r = none_at encoding_item bytes items at u w b r
none_below bytes items u w a b (faults.Nesting at) l r = omega (arith, l)
none_below bytes items u w a b (faults.Depth at) l r = omega (arith, l)
none_below bytes items u w a b (faults.Width field at) l r = omega (arith, l)
none_below bytes items u w a b (faults.Twice at) l r = omega (arith, l)
none_below bytes items u w a b (faults.Namespace at) l r = omega (arith, l)

nesting_refusal : (bytes : List ℕ) (items : List Item) (t : State) → IsUtf8 bytes → walk_to_end bytes items ≡ true →
    list_all is_resolved items ≡ true → list_all is_readable items ≡ true → run [] whole items ≡ Some t → (t ≡ state [] tail → ⊥) →
    IsRefusal bytes (faults.Nesting (length bytes))
unfolding walk_to_end
nesting_refusal bytes items t u w known readable ran unended = record {
  refuses = record {
    prefix = items;
    rest = [];
    walked = ap (walk_to_end bytes) (append-nil items) ∙ w;
    begins = taken_begins items t ran;
    longest = open_no_nest items t ran unended;
    place = eqb-true _ _ (and_parts (walk bytes items) (end_of_items (first_place bytes) items == length bytes) w).1;
    deep = refl;
  };
  first = none_below bytes items u w (over_none unknown_item entities_any (first_place bytes) items known)
      (over_none encoding_item encoding_any (first_place bytes) items readable);
}

-- ---- one item of the whole document, in its prefix

take_past : (xs ys : List ℕ) (m k : ℕ) → k ≡ length xs + m → take k (xs ++ ys) ≡ xs ++ take m ys
take_past [] ys m k e = ap (λ (j : ℕ). take j ys) (omega (arith, e))
take_past (x ∷ xs) ys m zero e = absurd (omega (arith, e))
take_past (x ∷ xs) ys m (suc k) e = ap (λ (l : List ℕ). x ∷ l) (take_past xs ys m k (omega (arith, e)))

ends_take : (i : Item) (m : ℕ) (z : List ℕ) → ends_well i z ≡ true → ends_well i (take m z) ≡ true
ends_take (leaf (text ps)) zero z h = refl
ends_take (leaf (text ps)) (suc m) [] h = refl
ends_take (leaf (text ps)) (suc m) (b ∷ z) h = h
ends_take (leaf (cdata cs)) m z h = refl
ends_take (leaf (Leaf.comment cs)) m z h = refl
ends_take (leaf (Leaf.instruction i)) m z h = refl
ends_take (leaf (declaration d)) m z h = refl
ends_take (leaf (doctype d)) m z h = refl
ends_take (start_tag t) m z h = refl
ends_take (empty_tag t) m z h = refl
ends_take (end_tag name space) m z h = refl

stands_here : (bytes : List ℕ) (p : ℕ) (i : Item) → begins_at bytes p i ≡ true → may_begin_at i (first_place bytes) p ≡ true
unfolding begins_at
stands_here bytes p i h =
    (and_parts (meets i && begins (spelling i) (drop p bytes) && ends_well i (drop (p + length (spelling i)) bytes))
    (may_begin_at i (first_place bytes) p) h).1

-- what is known on the way: the items so far, whole in the first n bytes
record Way (bytes short : List ℕ) (n : ℕ) (nest : Forest) (items rest : List Item) : Type 0 where
  is_short : short ≡ take n bytes
  few : n ≤ length bytes
  first : first_place short ≡ first_place bytes
  split : flat nest ≡ items ++ rest
  here_walked : walk short items ≡ true
  there_walked : walk bytes items ≡ true
  reached : end_of_items (first_place bytes) items ≤ n
  goes_on : walk_from bytes (end_of_items (first_place bytes) items) rest ≡ true

abbrev past : List ℕ → List Item → ℕ
past bytes items = end_of_items (first_place bytes) items

-- an item that ends within n begins in the prefix too
begins_short : (bytes short : List ℕ) (n p : ℕ) (i : Item) → short ≡ take n bytes → n ≤ length bytes →
    first_place short ≡ first_place bytes → begins_at bytes p i ≡ true → p + length (spelling i) ≤ n → begins_at short p i ≡ true
begins_short bytes short n p i is few f b l =
    let h = here bytes p i b in
    let front = take p bytes in
    let z = drop (p + length (spelling i)) bytes in
    let m = n - (p + length (spelling i)) in
    let len : length front ≡ p = length-take-le p bytes (omega (arith, l, few)) in
    let two : length (front ++ spelling i) ≡ length front + length (spelling i) = length-append front (spelling i) in
    let whole : bytes ≡ (front ++ spelling i) ++ z = sym (take-append-drop p bytes) ∙ ap (λ (x : List ℕ). front ++ x) h.split
    ∙ sym (append_assoc front (spelling i) z) in
    let e : short ≡ front ++ (spelling i ++ take m z) =
    is ∙ ap (take n) whole ∙ take_past (front ++ spelling i) z m n (omega (arith, l, len, two))
    ∙ append_assoc front (spelling i) (take m z) in
    let s : may_begin_at i (first_place short) (length front) ≡ true = ap₂ (λ (x y : ℕ). may_begin_at i x y) f len
    ∙ stands_here bytes p i b in
    ap (λ (x : ℕ). begins_at short x i) (sym len) ∙ begins_here front (take m z) i short e h.meets_row (ends_take i m z h.ends) s

-- and what begins in the prefix does in the whole, if it may end there
begins_whole : (bytes short : List ℕ) (n p : ℕ) (j : Item) → short ≡ take n bytes → first_place short ≡ first_place bytes →
    p ≤ length short → begins_at short p j ≡ true → ends_well j (drop (p + length (spelling j)) short ++ drop n bytes) ≡ true →
    begins_at bytes p j ≡ true
begins_whole bytes short n p j is f l b w =
    let h = here short p j b in
    let front = take p short in
    let z = drop (p + length (spelling j)) short in
    let len : length front ≡ p = length-take-le p short l in
    let e : bytes ≡ front ++ (spelling j ++ (z ++ drop n bytes)) =
    sym (take-append-drop n bytes)
    ∙ ap (λ (x : List ℕ). x ++ drop n bytes) (sym is ∙ sym (take-append-drop p short) ∙ ap (λ (x : List ℕ). front ++ x) h.split)
    ∙ append_assoc front (spelling j ++ z) (drop n bytes)
    ∙ ap (λ (x : List ℕ). front ++ x) (append_assoc (spelling j) z (drop n bytes)) in
    let s : may_begin_at j (first_place bytes) (length front) ≡ true = ap₂ (λ (x y : ℕ). may_begin_at j x y) (sym f) len
    ∙ stands_here short p j b in
    ap (λ (x : ℕ). begins_at bytes x j) (sym len) ∙ begins_here front (z ++ drop n bytes) j bytes e h.meets_row w s

-- ---- the last item, which is cut in two

abbrev Result : List ℕ → ℕ → Type 0
Result short n = (fault : DocFault) × IsRefusal short fault × IsOfEnd n fault

-- the state after the items is not that of a whole document, where the root element ends further on
still_open : (bytes : List ℕ) (nest : Forest) (n : ℕ) (items rest : List Item) (s : State) → is_nest nest ≡ true →
    n < root_end (first_place bytes) nest → flat nest ≡ items ++ rest → past bytes items ≤ n → run [] whole items ≡ Some s →
    s ≡ state [] tail → ⊥
still_open bytes nest n items rest s ok l split reached ran e =
    let all : run [] whole (items ++ rest) ≡ Some (state [] tail) = ap (run [] whole) (sym split) ∙ complete nest ok in
    let more : run [] tail rest ≡ Some (state [] tail) = ap (λ (t : State). run t.names t.phase rest) (sym e)
    ∙ sym (run_then items rest [] whole s ran) ∙ all in
    let r = nest_ended nest (first_place bytes) items rest ok split (tail_leaves rest more) in
    omega (arith, r, l, reached)

-- and so after one item more, of which a prefix is a text
still_open_past : (bytes : List ℕ) (nest : Forest) (n : ℕ) (items rest : List Item) (ps : List Piece) (s t : State) →
    is_nest nest ≡ true → n < root_end (first_place bytes) nest → flat nest ≡ items ++ leaf (text ps) ∷ rest → past bytes items ≤ n →
    run [] whole items ≡ Some s → step s.names s.phase (leaf (text ps)) ≡ Some t → t ≡ state [] tail → ⊥
unfolding run
still_open_past bytes nest n items rest ps s t ok l split reached ran one e =
    let all : run [] whole (items ++ leaf (text ps) ∷ rest) ≡ Some (state [] tail) = ap (run [] whole) (sym split) ∙ complete nest ok in
    let x : run s.names s.phase (leaf (text ps) ∷ rest) ≡ Some (state [] tail) =
    sym (run_then items (leaf (text ps) ∷ rest) [] whole s ran) ∙ all in
    let r = run_some (step s.names s.phase (leaf (text ps))) rest (state [] tail) x in
    let same : r.0 ≡ state [] tail = sym (same_Some t r.0 (sym one ∙ r.1)) ∙ e in
    let more : run [] tail rest ≡ Some (state [] tail) = ap (λ (v : State). run v.names v.phase rest) (sym same) ∙ r.2 in
    let q = nest_ended nest (first_place bytes) items (leaf (text ps) ∷ rest) ok split (tail_leaves rest more) in
    omega (arith, q, l, reached)

parts_of : (p : Item → Bool) (nest : Forest) (items rest : List Item) → flat nest ≡ items ++ rest → list_all p (flat nest) ≡ true →
    (list_all p items ≡ true) × (list_all p rest ≡ true)
parts_of p nest items rest split h =
    and_parts (list_all p items) (list_all p rest) (sym (list_all-append p items rest) ∙ ap (list_all p) (sym split) ∙ h)

-- what the last item of the prefix is: a text at its end, of which the whole document's item is a longer one
record CutText (short : List ℕ) (p : ℕ) (i j : Item) : Type 0 where
  qs : List Piece
  more : List Piece
  is_j : j ≡ leaf (text qs)
  is_i : i ≡ leaf (text (qs ++ more))
  at_end : drop (p + length (spelling j)) short ≡ []

rest_short : (bytes short : List ℕ) (n p : ℕ) → short ≡ take n bytes → p ≤ length short → drop p short ++ drop n bytes ≡ drop p bytes
rest_short bytes short n p is l =
    sym (drop-append-le p short (drop n bytes) l) ∙ ap (drop p) (ap (λ (x : List ℕ). x ++ drop n bytes) is ∙ take-append-drop n bytes)

starts_angle : (i : Item) (qs : List Piece) (a b : List ℕ) → is_text_item i ≡ false → meets (leaf (text qs)) ≡ true →
    spelling (leaf (text qs)) ++ a ≡ spelling i ++ b → ⊥
starts_angle i qs a b n m e = let o = opens i n in not_angle qs a (o.0 ++ b) m (e ∙ ap (λ (x : List ℕ). x ++ b) o.1)

by_kind : (i : Item) (qs : List Piece) (short a b : List ℕ) (p : ℕ) → meets i ≡ true → meets (leaf (text qs)) ≡ true →
    length (spelling (leaf (text qs))) ≤ length (spelling i) → drop (p + length (spelling (leaf (text qs)))) short ≡ [] →
    spelling (leaf (text qs)) ++ a ≡ spelling i ++ b → CutText short p i (leaf (text qs))
by_kind (leaf (text ps)) qs short a b p m n le z e =
    let r = text_prefix qs ps a b n m le e in record {
      qs = qs;
      more = r.0;
      is_j = refl;
      is_i = ap
          (λ (x : List Piece). leaf (text x)) r.1;
      at_end = z;
    }
by_kind (leaf (cdata cs)) qs short a b p m n le z e = absurd (starts_angle (leaf (cdata cs)) qs a b refl n e)
by_kind (leaf (Leaf.comment cs)) qs short a b p m n le z e = absurd (starts_angle (leaf (Leaf.comment cs)) qs a b refl n e)
by_kind (leaf (Leaf.instruction x)) qs short a b p m n le z e = absurd (starts_angle (leaf (Leaf.instruction x)) qs a b refl n e)
by_kind (leaf (declaration d)) qs short a b p m n le z e = absurd (starts_angle (leaf (declaration d)) qs a b refl n e)
by_kind (leaf (doctype d)) qs short a b p m n le z e = absurd (starts_angle (leaf (doctype d)) qs a b refl n e)
by_kind (start_tag t) qs short a b p m n le z e = absurd (starts_angle (start_tag t) qs a b refl n e)
by_kind (empty_tag t) qs short a b p m n le z e = absurd (starts_angle (empty_tag t) qs a b refl n e)
by_kind (end_tag name space) qs short a b p m n le z e = absurd (starts_angle (end_tag name space) qs a b refl n e)

text_longer : (bytes short : List ℕ) (n p : ℕ) (qs : List Piece) (i : Item) → short ≡ take n bytes → p ≤ length short →
    begins_at bytes p i ≡ true → begins_at short p (leaf (text qs)) ≡ true → length (spelling (leaf (text qs))) ≤ length (spelling i) →
    drop (p + length (spelling (leaf (text qs)))) short ≡ [] → CutText short p i (leaf (text qs))
text_longer bytes short n p qs i is l b c le z =
    let h = here short p (leaf (text qs)) c in
    let g = here bytes p i b in
    let e : spelling (leaf (text qs)) ++ ([] ++ drop n bytes) ≡ spelling i ++ drop (p + length (spelling i)) bytes =
    sym (append_assoc (spelling (leaf (text qs))) [] (drop n bytes))
    ∙ ap (λ (x : List ℕ). (spelling (leaf (text qs)) ++ x) ++ drop n bytes) (sym z)
    ∙ ap (λ (x : List ℕ). x ++ drop n bytes) (sym h.split) ∙ rest_short bytes short n p is l ∙ g.split in
    by_kind i qs short ([] ++ drop n bytes) (drop (p + length (spelling i)) bytes) p g.meets_row h.meets_row le z e

-- so an item that is not one of the whole is a text at the end
at_end : (j : Item) (z d : List ℕ) → ends_well j z ≡ true → (ends_well j (z ++ d) ≡ true → ⊥) →
    (qs : List Piece) × (j ≡ leaf (text qs)) × (z ≡ [])
at_end (leaf (text ps)) [] d e not_there = (ps, refl, refl)
at_end (leaf (text ps)) (b ∷ z) d e not_there = absurd (not_there e)
at_end (leaf (cdata cs)) z d e not_there = absurd (not_there refl)
at_end (leaf (Leaf.comment cs)) z d e not_there = absurd (not_there refl)
at_end (leaf (Leaf.instruction x)) z d e not_there = absurd (not_there refl)
at_end (leaf (declaration x)) z d e not_there = absurd (not_there refl)
at_end (leaf (doctype x)) z d e not_there = absurd (not_there refl)
at_end (start_tag t) z d e not_there = absurd (not_there refl)
at_end (empty_tag t) z d e not_there = absurd (not_there refl)
at_end (end_tag name space) z d e not_there = absurd (not_there refl)

-- the item that the prefix begins with at the place where an item of the whole is cut: a text at the end
cut_item : (bytes short : List ℕ) (n p : ℕ) (i j : Item) →
    ((x y : Item) → begins_at bytes p x ≡ true → begins_at bytes p y ≡ true → x ≡ y) → short ≡ take n bytes → n ≤ length bytes →
    first_place short ≡ first_place bytes → p ≤ n →
    begins_at bytes p i ≡ true → n < p + length (spelling i) → begins_at short p j ≡ true → CutText short p i j
cut_item bytes short n p i j one is few f l b cut c =
    let h = here short p j c in
    let len : length short ≡ n = ap length is ∙ length-take-le n bytes few in
    let z = drop (p + length (spelling j)) short in
    let size : length (drop p short) ≡ length (spelling j) + length z = ap length h.split ∙ length-append (spelling j) z in
    let left : length (drop p short) ≡ length short - p = length-drop p short in
    let within : p ≤ length short = omega (arith, len, l) in
    let not_there = λ (w : ends_well j (z ++ drop n bytes) ≡ true).
    let same : i ≡ j = one i j b (begins_whole bytes short n p j is f within c w) in
    let e : length (spelling i) ≡ length (spelling j) = ap (λ (x : Item). length (spelling x)) same in
    let bad : ⊥ = omega (arith, e, size, left, len, cut, l) in bad in
    let q = at_end j z (drop n bytes) h.ends not_there in
    let le : length (spelling (leaf (text q.0))) ≤ length (spelling i) =
    let e : length (spelling j) ≡ length (spelling (leaf (text q.0))) =
    ap (λ (x : Item). length (spelling x)) q.1 in omega (arith, e, size, left, len, cut, l) in
    subst (λ (x : Item). CutText short p i x) (sym q.1)
    (text_longer bytes short n p q.0 i is within b (subst (λ (x : Item). begins_at short p x ≡ true) q.1 c) le
    (subst (λ (x : Item). drop (p + length (spelling x)) short ≡ []) q.1 q.2))

-- ---- on the way

way_more : (bytes short : List ℕ) (n : ℕ) (nest : Forest) (items rest : List Item) (i : Item) → Way bytes short n nest items (i ∷ rest) →
    past bytes items + length (spelling i) ≤ n → Way bytes short n nest (items ++ i ∷ []) rest
unfolding walk
way_more bytes short n nest items rest i w l =
    let q = and_parts (begins_at bytes (past bytes items) i) (walk_from bytes (past bytes items + length (spelling i)) rest) w.goes_on in
    let same : past short items ≡ past bytes items = ap (λ (x : ℕ). end_of_items x items) w.first in
    let b = begins_short bytes short n (past bytes items) i w.is_short w.few w.first q.0 l in
    let next = end_more (first_place bytes) items i in
    record {
      is_short = w.is_short;
      few = w.few;
      first = w.first;
      split = w.split ∙ sym (append_assoc items (i ∷ []) rest);
      here_walked = walk_more short (first_place short) items i w.here_walked (ap (λ (x : ℕ). begins_at short x i) same ∙ b);
      there_walked = walk_more bytes (first_place bytes) items i w.there_walked q.0;
      reached = subst (λ (x : ℕ). x ≤ n) (sym next) l;
      goes_on = ap (λ (x : ℕ). walk_from bytes x rest) next ∙ q.1;
    }

record Document (bytes short : List ℕ) (n : ℕ) (nest : Forest) : Type 0 where
  utf8 : IsUtf8 bytes
  short_utf8 : IsUtf8 short
  nests : is_nest nest ≡ true
  known : list_all is_resolved (flat nest) ≡ true
  readable : list_all is_readable (flat nest) ≡ true
  ends_later : n < root_end (first_place bytes) nest

-- whole items end at n
at_seam : (bytes short : List ℕ) (n : ℕ) (nest : Forest) (items rest : List Item) → Document bytes short n nest →
    Way bytes short n nest items rest → past bytes items ≡ n → Result short n
unfolding walk_to_end
at_seam bytes short n nest items rest d w e =
    let len : length short ≡ n = ap length w.is_short ∙ length-take-le n bytes w.few in
    let same : past short items ≡ past bytes items = ap (λ (x : ℕ). end_of_items x items) w.first in
    let ends : walk_to_end short items ≡ true =
    and_from _ _ w.here_walked (eq-eqb (past short items) (length short) (same ∙ e ∙ sym len)) in
    let s = begins_taken items (record { nest = nest; rest = rest; nests = d.nests; split = w.split }) in
    let r = nesting_refusal short items s.0 d.short_utf8 ends (parts_of is_resolved nest items rest w.split d.known).0
    (parts_of is_readable nest items rest w.split d.readable).0 s.1
    (still_open bytes nest n items rest s.0 d.nests d.ends_later w.split w.reached s.1) in
    (faults.Nesting (length short), r, len)

-- a text is cut in two
step_of : (s : State) (i : Item) (rest : List Item) → run s.names s.phase (i ∷ rest) ≡ Some (state [] tail) →
    (t : State) × (step s.names s.phase i ≡ Some t)
unfolding run
step_of s i rest e = let r = run_some (step s.names s.phase i) rest (state [] tail) e in (r.0, r.1)

at_text : (bytes short : List ℕ) (n : ℕ) (nest : Forest) (items rest : List Item) (qs more : List Piece) → Document bytes short n nest →
    Way bytes short n nest items (leaf (text (qs ++ more)) ∷ rest) → begins_at short (past short items) (leaf (text qs)) ≡ true →
    past short items ≤ length short → drop (past short items + length (spelling (leaf (text qs)))) short ≡ [] → Result short n
unfolding walk_to_end walk
at_text bytes short n nest items rest qs more d w b l z =
    let j = leaf (text qs) in
    let i = leaf (text (qs ++ more)) in
    let p = past short items in
    let len : length short ≡ n = ap length w.is_short ∙ length-take-le n bytes w.few in
    let h = here short p j b in
    let size : length (drop p short) ≡ length (spelling j) + length (drop (p + length (spelling j)) short) = ap length h.split
    ∙ length-append (spelling j) (drop (p + length (spelling j)) short) in
    let none : length (drop (p + length (spelling j)) short) ≡ 0 = ap length z in
    let left : length (drop p short) ≡ length short - p = length-drop p short in
    let next = end_more (first_place short) items j in
    let stop : past short (items ++ j ∷ []) ≡ length short = next ∙ omega (arith, size, none, left, l) in
    let ends : walk_to_end short (items ++ j ∷ []) ≡ true =
    and_from _ _ (walk_more short (first_place short) items j w.here_walked b) (eq-eqb _ _ stop) in
    let s = begins_taken items (record { nest = nest; rest = i ∷ rest; nests = d.nests; split = w.split }) in
    let all : run [] whole (items ++ i ∷ rest) ≡ Some (state [] tail) = ap (run [] whole) (sym w.split) ∙ complete nest d.nests in
    let t = step_of s.0 i rest (sym (run_then items (i ∷ rest) [] whole s.0 s.1) ∙ all) in
    let ran : run [] whole (items ++ j ∷ []) ≡ Some t.0 = run_then items (j ∷ []) [] whole s.0 s.1
    ∙ one_step s.0 j t.0 (step_prefix qs more s.0 t.0 t.1) in
    let known = parts_of is_resolved nest items (i ∷ rest) w.split d.known in
    let readable = parts_of is_readable nest items (i ∷ rest) w.split d.readable in
    let own : is_resolved j ≡ true = known_prefix qs more 0 (and_parts (is_resolved i) (list_all is_resolved rest) known.1).0 in
    let known2 : list_all is_resolved (items ++ j ∷ []) ≡ true = list_all-append is_resolved items (j ∷ [])
    ∙ and_from _ _ known.0 (and_from _ _ own refl) in
    let readable2 : list_all is_readable (items ++ j ∷ []) ≡ true = list_all-append is_readable items (j ∷ [])
    ∙ and_from _ _ readable.0 refl in
    let r = nesting_refusal short (items ++ j ∷ []) t.0 d.short_utf8 ends known2 readable2 ran
    (still_open_past bytes nest n items rest (qs ++ more) s.0 t.0 d.nests d.ends_later w.split w.reached s.1 t.1) in
    (faults.Nesting (length short), r, len)

-- an item is cut in two
at_cut : (bytes short : List ℕ) (n : ℕ) (nest : Forest) (items rest : List Item) (i : Item) → Document bytes short n nest →
    Way bytes short n nest items (i ∷ rest) → past bytes items < n → n < past bytes items + length (spelling i) → Result short n
at_cut bytes short n nest items rest i d w below cut = by (item_or_none short p (omega (arith, same, len, below)) rest_utf8)
  where
    p : ℕ
    p = past short items

    same : past short items ≡ past bytes items
    same = ap (λ (x : ℕ). end_of_items x items) w.first

    len : length short ≡ n
    len = ap length w.is_short ∙ length-take-le n bytes w.few

    rest_utf8 : IsUtf8 (drop (past short items) short)
    rest_utf8 = IsUtf8-drop short (past short items) d.short_utf8 (walk_boundary short items d.short_utf8 w.here_walked)

    text_there : (j : Item) → begins_at short (past short items) j ≡ true → CutText short (past short items) i j → Result short n
    text_there j b c =
        let l : past short items ≤ length short = omega (arith, same, len, below) in
        at_text bytes short n nest items rest c.qs c.more d (subst (λ (x : Item). Way bytes short n nest items (x ∷ rest)) c.is_i w)
        (subst (λ (x : Item). begins_at short (past short items) x ≡ true) c.is_j b) l
        (subst (λ (x : Item). drop (past short items + length (spelling x)) short ≡ []) c.is_j c.at_end)

    item_there : (j : Item) → begins_at short (past short items) j ≡ true → Result short n
    item_there j b =
        let q = and_parts (begins_at bytes (past bytes items) i)
        (walk_from bytes (past bytes items + length (spelling i)) rest) w.goes_on in
        let b2 : begins_at short (past bytes items) j ≡ true = ap (λ (x : ℕ). begins_at short x j) (sym same) ∙ b in
        let c = cut_item bytes short n (past bytes items) i j
        (λ x y. one_item_on_walks bytes items w.there_walked x y) w.is_short w.few w.first (omega (arith, below)) q.0 cut b2 in
        text_there j b (subst (λ (x : ℕ). CutText short x i j) (sym same) c)

    by : ((j : Item) × (begins_at short (past short items) j ≡ true)) ⊎ ((j : Item) → begins_at short (past short items) j ≡ false) →
        Result short n
    by (inr none) =
        let r = syntax_refusal short items (past short items) d.short_utf8 w.here_walked refl (omega (arith, same, len, below)) none in
        (faults.Syntax (past short items), r, tt)
    by (inl x) = item_there x.0 x.1

along : (bytes short : List ℕ) (n : ℕ) (nest : Forest) (rest items : List Item) → Document bytes short n nest →
    Way bytes short n nest items rest → Result short n
along bytes short n nest [] items d w =
    let r = nest_ended nest (first_place bytes) items [] d.nests w.split refl in
    absurd (omega (arith, r, d.ends_later, w.reached))
along bytes short n nest (i ∷ rest) items d w = elim (cases_lt n (past bytes items + length (spelling i))) [
  | inr ge ↦ along bytes short n nest rest (items ++ i ∷ []) d (way_more bytes short n nest items rest i w ge)
  | inl lt ↦ elim (cases_lt (past bytes items) n) [
    | inl below ↦ at_cut bytes short n nest items rest i d w below lt
    | inr ge ↦ at_seam bytes short n nest items (i ∷ rest) d w (omega (arith, ge, w.reached))
  ]
]

-- ---- the law

begins_take : (w bytes : List ℕ) (n : ℕ) → begins w (take n bytes) ≡ true → begins w bytes ≡ true
begins_take [] bytes n h = refl
begins_take (c ∷ w) bytes zero h = absurd (false≢true h)
begins_take (c ∷ w) [] (suc n) h = h
begins_take (c ∷ w) (b ∷ bytes) (suc n) h = let q =
    and_parts (c == b) (begins w (take n bytes)) h in and_from _ _ q.0 (begins_take w bytes n q.1)

one_byte : is_utf8 (0xEF ∷ []) ≡ false
unfolding is_utf8 chars lib.Utf8.encode
one_byte = refl

two_bytes : is_utf8 (0xEF ∷ 0xBB ∷ []) ≡ false
unfolding is_utf8 chars lib.Utf8.encode
two_bytes = refl

marked_same : (rest : List ℕ) (n : ℕ) → IsUtf8 (take (suc n) (byte_order_mark ++ rest)) →
    first_place (take (suc n) (byte_order_mark ++ rest)) ≡ first_place (byte_order_mark ++ rest)
unfolding first_place
marked_same rest zero u = absurd (false≢true (sym one_byte ∙ is_utf8-from_IsUtf8 (0xEF ∷ []) u))
marked_same rest (suc zero) u = absurd (false≢true (sym two_bytes ∙ is_utf8-from_IsUtf8 (0xEF ∷ 0xBB ∷ []) u))
marked_same rest (suc (suc n)) u = refl

unmarked : (bytes : List ℕ) → begins byte_order_mark bytes ≡ false → first_place bytes ≡ 0
unfolding first_place
unmarked bytes f = rw f refl

first_same : (bytes : List ℕ) (n : ℕ) → IsUtf8 (take (suc n) bytes) → first_place (take (suc n) bytes) ≡ first_place bytes
first_same bytes n u = elim (cases_Bool (begins byte_order_mark bytes)) [
  | inl t ↦
      let rest = drop 3 bytes in
      let e : bytes ≡ byte_order_mark ++ rest = begins_split byte_order_mark bytes t in
      subst (λ (b : List ℕ). first_place (take (suc n) b) ≡ first_place b) (sym e)
      (marked_same rest n (subst (λ (b : List ℕ). IsUtf8 (take (suc n) b)) e u))
  | inr f ↦ unmarked (take (suc n) bytes) (false_from_ne_true _ (λ t. false≢true (sym f ∙ begins_take byte_order_mark bytes (suc n) t)))
      ∙ sym (unmarked bytes f)
]

not_whole : state [] whole ≡ state [] tail → ⊥
not_whole e = false≢true (ap (λ (s : State). is_final s.phase) e)

nothing : Result [] 0
unfolding walk_to_end walk first_place run
nothing = (faults.Nesting 0, nesting_refusal [] [] (state [] whole) IsUtf8-nil refl refl refl refl not_whole, refl)

first_layer : (bytes : List ℕ) (at : ℕ) → RefusesUtf8 bytes at → IsRefusal bytes (faults.Utf8 at)
first_layer bytes at r = record { refuses = r; first = λ other l. none other l }
  where
    none : (other : DocFault) → layer other < 1 → Refuses bytes other → ⊥
    none (faults.Utf8 n) l s = omega (arith, l)
    none (faults.Syntax n) l s = omega (arith, l)
    none (faults.Entity n) l s = omega (arith, l)
    none (faults.Encoding n) l s = omega (arith, l)
    none (faults.Nesting n) l s = omega (arith, l)
    none (faults.Depth n) l s = omega (arith, l)
    none (faults.Width field n) l s = omega (arith, l)
    none (faults.Twice n) l s = omega (arith, l)
    none (faults.Namespace n) l s = omega (arith, l)

document_end : (bytes : List ℕ) (nest : Forest) → IsDocument bytes nest →
    (walk_from bytes (first_place bytes) (flat nest) ≡ true) × (past bytes (flat nest) ≡ length bytes)
unfolding walk_to_end walk
document_end bytes nest d = let q =
    and_parts (walk_from bytes (first_place bytes) (flat nest))
    (end_of_items (first_place bytes) (flat nest) == length bytes) d.walked in (q.0, eqb-true _ _ q.1)

walk_none : (bytes : List ℕ) → walk bytes [] ≡ true
unfolding walk
walk_none bytes = refl

-- a byte order mark that the prefix has lies in it
begins_length : (w bytes : List ℕ) → begins w bytes ≡ true → length w ≤ length bytes
begins_length [] bytes h = omega arith
begins_length (c ∷ w) [] h = absurd (false≢true h)
begins_length (c ∷ w) (b ∷ bytes) h = omega (arith, begins_length w bytes (and_parts (c == b) (begins w bytes) h).1)

first_within : (bytes : List ℕ) → first_place bytes ≤ length bytes
unfolding first_place
first_within bytes = elim (cases_Bool (begins byte_order_mark bytes)) [
  | inl t ↦ rw t (begins_length byte_order_mark bytes t)
  | inr f ↦ rw f (omega arith)
]

first_reached : (bytes : List ℕ) (n : ℕ) → IsUtf8 (take (suc n) bytes) → suc n ≤ length bytes → first_place bytes ≤ suc n
first_reached bytes n u l =
    let w : first_place (take (suc n) bytes) ≤ length (take (suc n) bytes) = first_within (take (suc n) bytes) in
    omega (arith, w, first_same bytes n u, length-take-le (suc n) bytes l)

pub cut_short : CutShort
cut_short k zero bytes nest a l = nothing
cut_short k (suc n) bytes nest a l =
    let f = fits_from_accepted k bytes nest a in
    let whole_doc = document_end bytes nest a.document in
    let r = nest_ended nest (first_place bytes) (flat nest) [] a.document.nests (sym (append-nil (flat nest))) refl in
    let few : suc n ≤ length bytes = omega (arith, r, whole_doc.1, l) in
    elim (utf8_or_not (take (suc n) bytes)) [
      | inr x ↦ (faults.Utf8 x.0, first_layer (take (suc n) bytes) x.0 x.1, tt)
      | inl u ↦
          along bytes (take (suc n) bytes) (suc n) nest (flat nest) []
          (record { utf8 = a.utf8; short_utf8 = u; nests = a.document.nests; known = f.entities; readable = f.encoding; ends_later = l })
          (record {
            is_short = refl;
            few = few;
            first = first_same bytes n u;
            split = refl;
            here_walked = walk_none (take (suc n) bytes);
            there_walked = walk_none bytes;
            reached = first_reached bytes n u few;
            goes_on = whole_doc.0;
          })
    ]
