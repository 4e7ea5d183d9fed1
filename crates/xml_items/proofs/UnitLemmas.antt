-- The units of a document type declaration, step by step.
use Rattle.std.proofs.Common.{◌≡◌, ℕ, suc, ◌+◌, ◌-◌, ◌<◌, Bool, true, false, inl, inr, cond, List, [], ◌∷◌, ◌++◌, length, Option, Some, None, refl, sym, ap, ◌∙◌, arith, lit<}
use Rattle.std.proofs.lemmas.List.{length-append}
use Rattle.xml_items.proofs.PieceLaws.{head_of}
use Rattle.std.specs.Prelude.{codes, ◌==◌, ◌&&◌, ◌||◌, not, option_map, option_and_then}
use Rattle.std.specs.Str.{IsUtf8, chars}
use Rattle.std.specs.List.{list_all}
use Rattle.std.proofs.lemmas.Bool.{cases_Bool, and_parts, and_from, not_from_false, not_from_true, ne_eqb, eq-eqb, or_left}
use Rattle.xml_model.specs.Chars.{begins, is_char, size}
use Rattle.xml_model.specs.Items.{Quote, single, double, SubsetUnit, DoctypeUnit, Item, leaf, Leaf, quote_char, written, spelling, written_inner, written_unit, written_units, has_one_subset, is_subset, meets_unit}
use Rattle.xml_chars.specs.Readers.{Reader, skip, after_run, word, many, many_by}
use Rattle.xml_chars.specs.Reading.{ascii_head, read_name, read_space}
use Rattle.xml_chars.proofs.Readers.{IsReader, skip_some, skip_none, word_reads, many_more, many_stuck, many_done, more_fuel}
use Rattle.xml_chars.proofs.NameLaws.{name_reads, space_reads}
use Rattle.xml_chars.proofs.HoldLemmas.{size-append}
use denote.Bor.{Bor}
use Rattle.std.specs.Option.{option_copied}
use Rattle.xml_chars.specs.Readers.{Gives}
use Rattle.xml_items.specs.Plain.{is_plain_value}
use Rattle.xml_items.specs.Reading.{read_until, read_quoted, InnerForm, in_comment, in_instruction, in_character, inner_form, is_inner_char, read_inner_by, read_inner, in_subset, read_subset, with_subset, with_character, unit_form, is_unit_char, read_unit_by, read_unit, in_doctype, read_units, read_doctype, some_space}
use Rattle.xml_items.specs.declared.ItemKind.TheVariants as kinds
use Rattle.xml_items.proofs.PlainLemmas.{plain_value, plain_is}
use Rattle.xml_items.proofs.DoctypeLaws.{inner_reads, inner_pos, FitInner, unit_reads, unit_pos, FitUnit, units_reads, doctype_reads, unit_char}
use Rattle.xml_items.proofs.MarkSpans.{shows}
use Rattle.xml_items.proofs.SpanLemmas.{size_of, spelled, size_doctype, item_by, same_item, shown_some}

-- ---- quoted literals

abbrev pub quoted_char : ℕ → ℕ → Bool
quoted_char quote c = is_char c && not (c == quote)

pub plain_quoted : (q : Quote) (quote : ℕ) → quote_char q ≡ quote → (c : ℕ) → is_plain_value c ≡ true → quoted_char quote c ≡ true
plain_quoted q quote e c h =
    let k = plain_value c h in
    and_from _ _ (plain_is c k.plain) (not_from_false _ (ap (λ (x : ℕ). c == x) (sym e) ∙ k.no_quote q))

rest_of_mapped : {X Y : Type 0} (h : X → Y) (o : Option (X × List ℕ)) → option_map (λ (p : Y × List ℕ). p.1) (option_map (λ (p : X × List ℕ). let z : Y × List ℕ = (h p.0, p.1) in z) o) ≡ option_map (λ (p : X × List ℕ). p.1) o
rest_of_mapped h None = refl
rest_of_mapped h (Some p) = refl

pub quoted_1 : (q : Quote) (s : List ℕ) → word (quote_char q ∷ []) s ≡ None → skip (read_quoted q) s ≡ None
unfolding read_quoted
quoted_1 q s e = rw e refl

pub quoted_2 : (q : Quote) (quote : ℕ) (s a b : List ℕ) → quote_char q ≡ quote → word (quote_char q ∷ []) s ≡ Some (tt, a) → b ≡ after_run (quoted_char quote) a → word (quote_char q ∷ []) b ≡ None → skip (read_quoted q) s ≡ None
unfolding read_quoted
quoted_2 q quote s a b i e1 e2 e3 =
    let n : word (quote_char q ∷ []) (after_run (quoted_char (quote_char q)) a) ≡ None = ap (λ (k : ℕ). word (quote_char q ∷ []) (after_run (quoted_char k) a)) i ∙ ap (word (quote_char q ∷ [])) (sym e2) ∙ e3 in
    rw (e1, n) refl

pub quoted_3 : (q : Quote) (quote : ℕ) (s a b c : List ℕ) → quote_char q ≡ quote → word (quote_char q ∷ []) s ≡ Some (tt, a) → b ≡ after_run (quoted_char quote) a → word (quote_char q ∷ []) b ≡ Some (tt, c) → skip (read_quoted q) s ≡ Some c
unfolding read_quoted
quoted_3 q quote s a b c i e1 e2 e3 =
    let n : word (quote_char q ∷ []) (after_run (quoted_char (quote_char q)) a) ≡ Some (tt, c) = ap (λ (k : ℕ). word (quote_char q ∷ []) (after_run (quoted_char k) a)) i ∙ ap (word (quote_char q ∷ [])) (sym e2) ∙ e3 in
    rw (e1, n) refl

pub quoted_last : (q : Quote) (quote : ℕ) (s a b : List ℕ) (o : Option (Bor (List ℕ))) → quote_char q ≡ quote → word (quote_char q ∷ []) s ≡ Some (tt, a) → b ≡ after_run (quoted_char quote) a → Gives (λ (r : Bor (List ℕ)). (tt, chars r.now)) o (word (quote_char q ∷ []) b)
    → option_map chars (option_copied o) ≡ skip (read_quoted q) s
quoted_last q quote s a b None i e1 e2 g = sym (quoted_2 q quote s a b i e1 e2 g)
quoted_last q quote s a b (Some r) i e1 e2 g = sym (quoted_3 q quote s a b (chars r.now) i e1 e2 g)

-- ---- the units of a subset

pub comment_1 : (s : List ℕ) → word (codes "<!--") s ≡ None → skip (read_inner_by in_comment) s ≡ None
comment_1 s e1 = rw e1 refl

pub comment_2 : (s a : List ℕ) → word (codes "<!--") s ≡ Some (tt, a) → None ≡ skip (read_until (codes "--")) a → skip (read_inner_by in_comment) s ≡ None
comment_2 s a e1 e2 = let n = skip_none (read_until (codes "--")) a (sym e2) in rw (e1, n) refl

pub comment_3 : (s a b : List ℕ) → word (codes "<!--") s ≡ Some (tt, a) → Some b ≡ skip (read_until (codes "--")) a → word (codes "-->") b ≡ None → skip (read_inner_by in_comment) s ≡ None
comment_3 s a b e1 e2 e3 = let x = (skip_some (read_until (codes "--")) a b (sym e2)).1 in rw (e1, x, e3) refl

pub comment_4 : (s a b c : List ℕ) → word (codes "<!--") s ≡ Some (tt, a) → Some b ≡ skip (read_until (codes "--")) a → word (codes "-->") b ≡ Some (tt, c) → skip (read_inner_by in_comment) s ≡ Some c
comment_4 s a b c e1 e2 e3 = let x = (skip_some (read_until (codes "--")) a b (sym e2)).1 in rw (e1, x, e3) refl

pub instruction_1 : (s : List ℕ) → word (codes "<?") s ≡ None → skip (read_inner_by in_instruction) s ≡ None
instruction_1 s e1 = rw e1 refl

pub instruction_2 : (s a : List ℕ) → word (codes "<?") s ≡ Some (tt, a) → None ≡ skip (read_until (codes "?>")) a → skip (read_inner_by in_instruction) s ≡ None
instruction_2 s a e1 e2 = let n = skip_none (read_until (codes "?>")) a (sym e2) in rw (e1, n) refl

pub instruction_3 : (s a b : List ℕ) → word (codes "<?") s ≡ Some (tt, a) → Some b ≡ skip (read_until (codes "?>")) a → word (codes "?>") b ≡ None → skip (read_inner_by in_instruction) s ≡ None
instruction_3 s a b e1 e2 e3 = let x = (skip_some (read_until (codes "?>")) a b (sym e2)).1 in rw (e1, x, e3) refl

pub instruction_4 : (s a b c : List ℕ) → word (codes "<?") s ≡ Some (tt, a) → Some b ≡ skip (read_until (codes "?>")) a → word (codes "?>") b ≡ Some (tt, c) → skip (read_inner_by in_instruction) s ≡ Some c
instruction_4 s a b c e1 e2 e3 = let x = (skip_some (read_until (codes "?>")) a b (sym e2)).1 in rw (e1, x, e3) refl

-- the form of what is at the start

inner_is_comment : (s : List ℕ) → begins (codes "<!--") s ≡ true → inner_form s ≡ in_comment
unfolding inner_form
inner_is_comment s h = rw h refl

inner_is_instruction : (s : List ℕ) → begins (codes "<!--") s ≡ false → begins (codes "<?") s ≡ true → inner_form s ≡ in_instruction
unfolding inner_form
inner_is_instruction s h k = rw (h, k) refl

pub form_comment : (s : List ℕ) → begins (codes "<!--") s ≡ true → skip read_inner s ≡ skip (read_inner_by in_comment) s
unfolding read_inner
form_comment s h = let k : inner_form s ≡ in_comment = inner_is_comment s h in ap (λ (f : InnerForm). skip (read_inner_by f) s) k

pub form_instruction : (s : List ℕ) → begins (codes "<!--") s ≡ false → begins (codes "<?") s ≡ true → skip read_inner s ≡ skip (read_inner_by in_instruction) s
unfolding read_inner
form_instruction s h k = let f : inner_form s ≡ in_instruction = inner_is_instruction s h k in ap (λ (f : InnerForm). skip (read_inner_by f) s) f

pub form_double : (s : List ℕ) → begins (codes "<!--") s ≡ false → begins (codes "<?") s ≡ false → ascii_head s ≡ 34 → skip read_inner s ≡ skip (read_quoted double) s
unfolding read_inner inner_form
form_double s h k e = rw (h, k, e) (rest_of_mapped (SubsetUnit.quoted double) (read_quoted double s))

pub form_single : (s : List ℕ) → begins (codes "<!--") s ≡ false → begins (codes "<?") s ≡ false → ascii_head s ≡ 39 → skip read_inner s ≡ skip (read_quoted single) s
unfolding read_inner inner_form
form_single s h k e = rw (h, k, e) (rest_of_mapped (SubsetUnit.quoted single) (read_quoted single s))

pub form_character : (s : List ℕ) → begins (codes "<!--") s ≡ false → begins (codes "<?") s ≡ false → (ascii_head s ≡ 34 → ⊥) → (ascii_head s ≡ 39 → ⊥) → skip read_inner s ≡ skip (read_inner_by in_character) s
unfolding read_inner inner_form
form_character s h k d e = rw (h, k, ne_eqb (ascii_head s) 34 d, ne_eqb (ascii_head s) 39 e) refl

pub inner_nil : (s : List ℕ) → s ≡ [] → skip (read_inner_by in_character) s ≡ None
inner_nil s e = rw e refl

pub inner_yes : (s rest : List ℕ) (c : ℕ) → s ≡ c ∷ rest → is_inner_char c ≡ true → skip (read_inner_by in_character) s ≡ Some rest
inner_yes s rest c e h = ap (skip (read_inner_by in_character)) e ∙ (one c rest h)
  where
    one : (c : ℕ) (rest : List ℕ) → is_inner_char c ≡ true → skip (read_inner_by in_character) (c ∷ rest) ≡ Some rest
    one c rest h = rw h refl

pub inner_no : (s rest : List ℕ) (c : ℕ) → s ≡ c ∷ rest → is_inner_char c ≡ false → skip (read_inner_by in_character) s ≡ None
inner_no s rest c e h = ap (skip (read_inner_by in_character)) e ∙ (one c rest h)
  where
    one : (c : ℕ) (rest : List ℕ) → is_inner_char c ≡ false → skip (read_inner_by in_character) (c ∷ rest) ≡ None
    one c rest h = rw h refl

-- ---- a subset

pub subset_more : (s rest : List ℕ) → (ascii_head s ≡ 93 → ⊥) → skip read_inner s ≡ Some rest → skip read_subset s ≡ skip read_subset rest
unfolding read_subset in_subset
subset_more s rest n e = (many_more in_subset read_inner written_inner FitInner inner_pos inner_reads s rest (not_from_false _ (ne_eqb (ascii_head s) 93 n)) e).0

pub subset_stuck : (s : List ℕ) → (ascii_head s ≡ 93 → ⊥) → skip read_inner s ≡ None → skip read_subset s ≡ None
unfolding read_subset in_subset
subset_stuck s n e = many_stuck in_subset read_inner s (not_from_false _ (ne_eqb (ascii_head s) 93 n)) e

pub subset_done : (s : List ℕ) → ascii_head s ≡ 93 → skip read_subset s ≡ Some s
unfolding read_subset in_subset
subset_done s e = many_done in_subset read_inner s (not_from_true _ (eq-eqb (ascii_head s) 93 e))

-- ---- the units of a declaration

pub unit_double : (s : List ℕ) → ascii_head s ≡ 34 → skip read_unit s ≡ skip (read_quoted double) s
unfolding read_unit unit_form
unit_double s e = rw e (rest_of_mapped (DoctypeUnit.quoted double) (read_quoted double s))

pub unit_single : (s : List ℕ) → ascii_head s ≡ 39 → skip read_unit s ≡ skip (read_quoted single) s
unfolding read_unit unit_form
unit_single s e = rw e (rest_of_mapped (DoctypeUnit.quoted single) (read_quoted single s))

pub unit_subset : (s : List ℕ) → ascii_head s ≡ 91 → skip read_unit s ≡ skip (read_unit_by with_subset) s
unfolding read_unit unit_form
unit_subset s e = rw e refl

pub unit_character : (s : List ℕ) → (ascii_head s ≡ 34 → ⊥) → (ascii_head s ≡ 39 → ⊥) → (ascii_head s ≡ 91 → ⊥) → skip read_unit s ≡ skip (read_unit_by with_character) s
unfolding read_unit unit_form
unit_character s d e o = rw (ne_eqb (ascii_head s) 34 d, ne_eqb (ascii_head s) 39 e, ne_eqb (ascii_head s) 91 o) refl

pub char_nil : (s : List ℕ) → s ≡ [] → skip (read_unit_by with_character) s ≡ None
char_nil s e = rw e refl

pub char_yes : (s rest : List ℕ) (c : ℕ) → s ≡ c ∷ rest → is_unit_char c ≡ true → skip (read_unit_by with_character) s ≡ Some rest
char_yes s rest c e h = ap (skip (read_unit_by with_character)) e ∙ (one c rest h)
  where
    one : (c : ℕ) (rest : List ℕ) → is_unit_char c ≡ true → skip (read_unit_by with_character) (c ∷ rest) ≡ Some rest
    one c rest h = rw h refl

pub char_no : (s rest : List ℕ) (c : ℕ) → s ≡ c ∷ rest → is_unit_char c ≡ false → skip (read_unit_by with_character) s ≡ None
char_no s rest c e h = ap (skip (read_unit_by with_character)) e ∙ (one c rest h)
  where
    one : (c : ℕ) (rest : List ℕ) → is_unit_char c ≡ false → skip (read_unit_by with_character) (c ∷ rest) ≡ None
    one c rest h = rw h refl

-- ---- the units, of which one at most is a subset

-- whether the units may follow, where a subset stood before or did not
abbrev pub may_follow : Bool → List DoctypeUnit → Bool
may_follow true us = list_all (λ v. not (is_subset v)) us
may_follow false us = has_one_subset us

abbrev pub push_unit : DoctypeUnit → Option (List DoctypeUnit × List ℕ) → Option (List DoctypeUnit × List ℕ)
push_unit u o = option_and_then {U = List DoctypeUnit × List ℕ} (λ (q : List DoctypeUnit × List ℕ). Some (u ∷ q.0, q.1)) o

-- the first step of many
pub many_first : {X : Type 0} (t : List ℕ → Bool) (f : Reader X) (s : X → List ℕ) (F : X → List ℕ → Type 0) → ((x : X) → 0 < length (s x)) → IsReader f s F → (text : List ℕ) (x : X) (rest : List ℕ) → t text ≡ true → f text ≡ Some (x, rest)
    → many t f text ≡ option_and_then {U = List X × List ℕ} (λ (q : List X × List ℕ). Some (x ∷ q.0, q.1)) (many t f rest)
many_first {X} t f s F pos r text x rest go e =
    let one = r.takes text x rest e in
    let lt : length rest < length text = omega (arith, pos x, ap (λ (l : List ℕ). length l) one.0, length-append (s x) rest) in
    let step : many t f text ≡ option_and_then {U = List X × List ℕ} (λ (q : List X × List ℕ). Some (x ∷ q.0, q.1)) (many_by (length text) t f rest) = rw (go, e) refl in
    step ∙ ap (option_and_then {U = List X × List ℕ} (λ (q : List X × List ℕ). Some (x ∷ q.0, q.1))) (more_fuel t f s F pos r (length text) (suc (length rest)) rest lt (omega arith))

pub many_none : {X : Type 0} (t : List ℕ → Bool) (f : Reader X) (text : List ℕ) → t text ≡ true → f text ≡ None → many t f text ≡ None
many_none t f text go e = rw (go, e) refl

pub many_end : {X : Type 0} (t : List ℕ → Bool) (f : Reader X) (text : List ℕ) → t text ≡ false → many t f text ≡ Some ([], text)
many_end t f text e = rw e refl

abbrev pub units_by : Bool → Option (List DoctypeUnit × List ℕ) → Option (List ℕ)
units_by seen None = None
units_by seen (Some p) = cond (may_follow seen p.0) (Some p.1) None

pub units_after : Bool → List ℕ → Option (List ℕ)
units_after seen s = units_by seen (many in_doctype read_unit s)

pub units_start : (s : List ℕ) → skip read_units s ≡ units_after false s
unfolding read_units units_after
units_start s = go (many in_doctype read_unit s)
  where
    go : (o : Option (List DoctypeUnit × List ℕ)) → option_map (λ (p : List DoctypeUnit × List ℕ). p.1) (option_and_then (λ (p : List DoctypeUnit × List ℕ). cond (has_one_subset p.0) (Some p) None) o) ≡ units_by false o
    go None = refl
    go (Some p) = elim (cases_Bool (has_one_subset p.0)) [ inl t ↦ rw t refl | inr f ↦ rw f refl ]

units_push : (s rest : List ℕ) (u : DoctypeUnit) (seen : Bool) → in_doctype s ≡ true → read_unit s ≡ Some (u, rest) → units_after seen s ≡ units_by seen (push_unit u (many in_doctype read_unit rest))
unfolding units_after
units_push s rest u seen go e = ap (units_by seen) (many_first in_doctype read_unit written_unit FitUnit unit_pos unit_reads s u rest go e)

follow_push : (u : DoctypeUnit) (seen : Bool) (us : List DoctypeUnit) → (seen && is_subset u) ≡ false → may_follow seen (u ∷ us) ≡ may_follow (seen || is_subset u) us
follow_push u true us h = ap (λ (b : Bool). not b && list_all (λ v. not (is_subset v)) us) h
follow_push u false us h = elim (cases_Bool (is_subset u)) [
  | inl t ↦ rw t (one_by us)
  | inr f ↦ rw f refl
]
  where
    none_one : (us : List DoctypeUnit) → list_all (λ v. not (is_subset v)) us ≡ true → has_one_subset us ≡ true
    none_one [] h = refl
    none_one (v ∷ us) h = let q = and_parts (not (is_subset v)) (list_all (λ v. not (is_subset v)) us) h in and_from _ _ (or_left (not (is_subset v)) _ q.0) (none_one us q.1)

    one_by : (us : List DoctypeUnit) → (list_all (λ v. not (is_subset v)) us && has_one_subset us) ≡ list_all (λ v. not (is_subset v)) us
    one_by us = elim (cases_Bool (list_all (λ v. not (is_subset v)) us)) [
      | inl t ↦ rw t (none_one us t)
      | inr f ↦ rw f refl
    ]

by_push : (u : DoctypeUnit) (seen : Bool) (o : Option (List DoctypeUnit × List ℕ)) → (seen && is_subset u) ≡ false → units_by seen (push_unit u o) ≡ units_by (seen || is_subset u) o
by_push u seen None h = refl
by_push u seen (Some p) h = ap (λ (b : Bool). cond b (Some p.1) None) (follow_push u seen p.0 h)

by_twice : (u : DoctypeUnit) (o : Option (List DoctypeUnit × List ℕ)) → is_subset u ≡ true → units_by true (push_unit u o) ≡ None
by_twice u None h = refl
by_twice u (Some p) h = rw h refl

goes : (s : List ℕ) → (ascii_head s ≡ 62 → ⊥) → in_doctype s ≡ true
unfolding in_doctype
goes s n = not_from_false _ (ne_eqb (ascii_head s) 62 n)

-- a unit is a subset where it begins with [
opens_is : (s rest : List ℕ) (u : DoctypeUnit) → read_unit s ≡ Some (u, rest) → (ascii_head s == 91) ≡ is_subset u
opens_is s rest u e =
    let t = unit_reads.takes s u rest e in
    ap (λ (l : List ℕ). ascii_head l == 91) t.0 ∙ by_unit u rest t.1
  where
    by_unit : (u : DoctypeUnit) (rest : List ℕ) → meets_unit u ≡ true → (ascii_head (written_unit u ++ rest) == 91) ≡ is_subset u
    by_unit (DoctypeUnit.quoted single cs) rest h = head_of 39 _ 91 (lit< tt)
    by_unit (DoctypeUnit.quoted double cs) rest h = head_of 34 _ 91 (lit< tt)
    by_unit (DoctypeUnit.subset us) rest h = head_of 91 _ 91 (lit< tt)
    by_unit (DoctypeUnit.char c) rest h = head_of c rest 91 (lit< tt) ∙ (unit_char c h).no_open

pub units_more : (s rest : List ℕ) (seen : Bool) → (ascii_head s ≡ 62 → ⊥) → ((ascii_head s == 91) && seen) ≡ false → Some rest ≡ skip read_unit s → units_after seen s ≡ units_after (seen || ascii_head s == 91) rest
unfolding units_after
units_more s rest seen n h e =
    let x = skip_some read_unit s rest (sym e) in
    let o : (ascii_head s == 91) ≡ is_subset x.0 = opens_is s rest x.0 x.1 in
    let k : (seen && is_subset x.0) ≡ false = and_comm seen (is_subset x.0) (ap (λ (b : Bool). b && seen) (sym o) ∙ h) in
    units_push s rest x.0 seen (goes s n) x.1 ∙ by_push x.0 seen (many in_doctype read_unit rest) k ∙ ap (λ (b : Bool). units_by (seen || b) (many in_doctype read_unit rest)) (sym o)
  where
    and_comm : (a b : Bool) → (b && a) ≡ false → (a && b) ≡ false
    and_comm true true h = h
    and_comm true false h = refl
    and_comm false b h = refl

pub units_stuck : (s : List ℕ) (seen : Bool) → (ascii_head s ≡ 62 → ⊥) → None ≡ skip read_unit s → units_after seen s ≡ None
unfolding units_after
units_stuck s seen n e = let x = skip_none read_unit s (sym e) in ap (units_by seen) (many_none in_doctype read_unit s (goes s n) x)

pub units_twice : (s : List ℕ) → (ascii_head s ≡ 62 → ⊥) → ascii_head s ≡ 91 → units_after true s ≡ None
units_twice s n h = go (read_unit s) refl
  where
    go : (o : Option (DoctypeUnit × List ℕ)) → read_unit s ≡ o → units_after true s ≡ None
    go None e = units_stuck s true n (sym (ap (option_map (λ (p : DoctypeUnit × List ℕ). p.1)) e))
    go (Some p) e = units_push s p.1 p.0 true (goes s n) e ∙ by_twice p.0 (many in_doctype read_unit p.1) (sym (opens_is s p.1 p.0 e) ∙ eq-eqb (ascii_head s) 91 h)

pub units_done : (s : List ℕ) (seen : Bool) → ascii_head s ≡ 62 → units_after seen s ≡ Some s
unfolding units_after in_doctype
units_done s seen e = ap (units_by seen) (many_end in_doctype read_unit s (stop s e)) ∙ follow_nil seen s
  where
    stop : (s : List ℕ) → ascii_head s ≡ 62 → not (ascii_head s == 62) ≡ false
    stop s e = not_from_true _ (eq-eqb (ascii_head s) 62 e)

    follow_nil : (seen : Bool) (s : List ℕ) → units_by seen (Some ([], s)) ≡ Some s
    follow_nil true s = refl
    follow_nil false s = refl

-- ---- the declaration

pub doctype_1 : (at : ℕ) (s : List ℕ) → word (codes "<!DOCTYPE") s ≡ None → shows at (read_doctype s) ≡ None
unfolding read_doctype
doctype_1 at s e1 = rw e1 refl

pub doctype_2 : (at : ℕ) (s a sp b : List ℕ) → word (codes "<!DOCTYPE") s ≡ Some (tt, a) → read_space a ≡ Some (sp, b) → some_space sp ≡ false → shows at (read_doctype s) ≡ None
unfolding read_doctype
doctype_2 at s a sp b e1 e2 f = rw (e1, e2, f) refl

pub doctype_3 : (at : ℕ) (s a sp b : List ℕ) → word (codes "<!DOCTYPE") s ≡ Some (tt, a) → read_space a ≡ Some (sp, b) → some_space sp ≡ true → read_name b ≡ None → shows at (read_doctype s) ≡ None
unfolding read_doctype
doctype_3 at s a sp b e1 e2 t e3 = rw (e1, e2, t, e3) refl

pub doctype_4 : (at : ℕ) (s a sp b n c : List ℕ) → word (codes "<!DOCTYPE") s ≡ Some (tt, a) → read_space a ≡ Some (sp, b) → some_space sp ≡ true → read_name b ≡ Some (n, c) → None ≡ skip read_units c → shows at (read_doctype s) ≡ None
unfolding read_doctype
doctype_4 at s a sp b n c e1 e2 t e3 e4 = let x = skip_none read_units c (sym e4) in rw (e1, e2, t, e3, x) refl

pub doctype_5 : (at : ℕ) (s a sp b n c d : List ℕ) → word (codes "<!DOCTYPE") s ≡ Some (tt, a) → read_space a ≡ Some (sp, b) → some_space sp ≡ true → read_name b ≡ Some (n, c) → Some d ≡ skip read_units c → word (codes ">") d ≡ None → shows at (read_doctype s) ≡ None
unfolding read_doctype
doctype_5 at s a sp b n c d e1 e2 t e3 e4 e5 = let x = (skip_some read_units c d (sym e4)).1 in rw (e1, e2, t, e3, x, e5) refl

doctype_read : (s a sp b n c d e : List ℕ) (us : List DoctypeUnit) → word (codes "<!DOCTYPE") s ≡ Some (tt, a) → read_space a ≡ Some (sp, b) → some_space sp ≡ true → read_name b ≡ Some (n, c) → read_units c ≡ Some (us, d) → word (codes ">") d ≡ Some (tt, e)
    → read_doctype s ≡ Some (leaf (Leaf.doctype record { space = sp; name = n; units = us }), e)
unfolding read_doctype
doctype_read s a sp b n c d e us e1 e2 t e3 e4 e5 = rw (e1, e2, t, e3, e4, e5) refl

pub doctype_6 : (at : ℕ) (s a sp b n c d e : List ℕ) → IsUtf8 s → IsUtf8 a → IsUtf8 b → IsUtf8 c → IsUtf8 d → IsUtf8 e → word (codes "<!DOCTYPE") (chars s) ≡ Some (tt, chars a) → read_space (chars a) ≡ Some (sp, chars b) → some_space sp ≡ true → read_name (chars b) ≡ Some (n, chars c) → Some (chars d) ≡ skip read_units (chars c) → word (codes ">") (chars d) ≡ Some (tt, chars e)
    → Some (item_by kinds.Doctype (at + (length s - length s)) (at + (length s - length e)) (at + (length s - length b)) (at + (length s - length c)) (at + (length s - length a)) (at + (length s - length d))) ≡ shows at (read_doctype (chars s))
doctype_6 at s a sp b n c d e us ua ub uc ud ue e1 e2 t e3 e4 e5 =
    let x = skip_some read_units (chars c) (chars d) (sym e4) in
    let xs = x.0 in
    let i : Item = leaf (Leaf.doctype record { space = sp; name = n; units = xs }) in
    let read = doctype_read (chars s) (chars a) sp (chars b) n (chars c) (chars d) (chars e) xs e1 e2 t e3 x.1 e5 in
    let z1 : length s ≡ size (codes "<!DOCTYPE") + length a = size_of s a (codes "<!DOCTYPE") us ua ((word_reads (codes "<!DOCTYPE")).takes (chars s) tt (chars a) e1).0 in
    let z2 : length a ≡ size sp + length b = size_of a b sp ua ub (space_reads.takes (chars a) sp (chars b) e2).0 in
    let z3 : length b ≡ size n + length c = size_of b c n ub uc (name_reads.takes (chars b) n (chars c) e3).0 in
    let z4 : length c ≡ size (written_units xs) + length d = size_of c d (written_units xs) uc ud (units_reads.takes (chars c) xs (chars d) x.1).0 in
    let z : length s ≡ size (written i) + length e = size_of s e (written i) us ue (doctype_reads.takes (chars s) i (chars e) read).0 in
    shown_some at (read_doctype (chars s)) i (chars e) _ read
    (same_item kinds.Doctype _ _ _ _ _ _ at (at + length (spelling i)) (at + 9 + size sp) (at + 9 + size sp + size n) (at + 9) (at + 9 + size (sp ++ n ++ written_units xs))
    (omega arith) (omega (arith, spelled i)) (omega (arith, size_doctype)) (omega (arith, size_doctype)) (omega (arith, size_doctype)) (omega (arith, size_doctype, size-append (sp ++ n) (written_units xs), size-append sp n)))
