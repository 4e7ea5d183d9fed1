-- A text before and after its first colon, and whether a text is a Name.
use Rattle.std.proofs.Common.{◌≡◌, ℕ, ◌<◌, Bool, true, false, inl, inr, List, [], ◌∷◌, length, take, drop, Some, None, refl, sym, ap, ◌∙◌, arith}
use Rattle.std.specs.Prelude.{◌==◌, not}
use Rattle.std.specs.Str.{IsUtf8, chars}
use Rattle.std.specs.List.{prefix_len}
use Rattle.std.proofs.Math.Numerals.{one-add}
use Rattle.std.proofs.lemmas.List.{append-nil}
use Rattle.std.proofs.lemmas.Bool.{cases_Bool, not-false, eqb-true, ne_eqb, false_from_ne_true}
use Rattle.std.proofs.lemmas.Option.{same_Some}
use Rattle.std.proofs.lemmas.List.{drop_all}
use Rattle.std.proofs.lemmas.Str.{chars-nil}
use Rattle.memchr.specs.Find.{IsFirstByte, is_byte}
use Rattle.xml_chars.proofs.TextLemmas.{Split, split_stop, run_from_first}
use Rattle.xml_model.specs.Chars.{has_colon, before_colon, after_colon, is_name}
use Rattle.xml_chars.specs.Reading.{read_name}
use Rattle.xml_chars.proofs.NameLaws.{name_reads}
use Rattle.xml_chars.proofs.HoldLemmas.{no_chars, some_chars}
use Rattle.xml_chars.proofs.PlaceLemmas.{start_reads}

abbrev pub no_colon : ℕ → Bool
no_colon c = not (c == 58)

pub colon_low : (b : ℕ) → no_colon b ≡ false → b < 128
colon_low b h = omega (arith, eqb-true b 58 (not-false (b == 58) h))

-- the text as a run without a colon and what follows
pub record Colon (text : List ℕ) : Type 0 where
  pub none : drop (prefix_len no_colon text) text ≡ [] → has_colon text ≡ false
  pub some : (c : ℕ) (rest : List ℕ) → drop (prefix_len no_colon text) text ≡ c ∷ rest → (has_colon text ≡ true) × (take (prefix_len no_colon text) text ≡ before_colon text) × (rest ≡ after_colon text)

pub colon_of : (text : List ℕ) → Colon text
colon_of [] = record { none = λ e. refl; some = λ c rest e. absurd (cc) }
colon_of (d ∷ text) = elim (cases_Bool (d == 58)) [
  | inl t ↦ record {
    none = λ e. absurd (let n : ◌≡◌ {A = List ℕ} (d ∷ text) [] = rw t at e in cc);
    some = λ c rest e.
        let n : ◌≡◌ {A = List ℕ} (d ∷ text) (c ∷ rest) = rw t at e in
        let same : text ≡ rest = cc in
        (rw t refl, rw t refl, rw t (sym same));
  }
  | inr f ↦
      let so = colon_of text in record {
        none = λ e. let n : drop (prefix_len no_colon text) text ≡ [] = rw (f, one-add) at e in rw f (so.none n);
        some = λ c rest e.
            let n : drop (prefix_len no_colon text) text ≡ c ∷ rest = rw (f, one-add) at e in
            let q = so.some c rest n in
            (rw f q.0, rw (f, one-add) (ap (λ (l : List ℕ). d ∷ l) q.1), rw f q.2);
      }
]

pub whole_name : (text n : List ℕ) → read_name text ≡ Some (n, []) → is_name text ≡ true
whole_name text n e =
    let t = name_reads.takes text n [] e in
    ap is_name (t.0 ∙ append-nil n) ∙ t.1.0

pub part_name : (text n rest : List ℕ) (c : ℕ) → read_name text ≡ Some (n, c ∷ rest) → is_name text ≡ false
part_name text n rest c e = false_from_ne_true _ (λ t.
    let yes : read_name text ≡ Some (text, []) = ap read_name (sym (append-nil text)) ∙ name_reads.again text [] (t, tt) in
    let same = same_Some (n, c ∷ rest) (text, []) (sym e ∙ yes) in
    let bad : ◌≡◌ {A = List ℕ} (c ∷ rest) [] = ap (λ (z : List ℕ × List ℕ). z.1) same in
    absurd (cc))

pub no_part_name : (text : List ℕ) → read_name text ≡ None → is_name text ≡ false
no_part_name text e = false_from_ne_true _ (λ t. start_reads text [] t (ap read_name (append-nil text) ∙ e))

pub name_by_rest : (text n rest : List ℕ) → IsUtf8 rest → read_name text ≡ Some (n, chars rest) → (length rest == 0) ≡ is_name text
name_by_rest text n rest u e = go (chars rest) refl
  where
    go : (cs : List ℕ) → chars rest ≡ cs → (length rest == 0) ≡ is_name text
    go [] s =
        let none : length rest ≡ 0 = no_chars rest u s in
        let whole : is_name text ≡ true = whole_name text n (e ∙ ap (λ (l : List ℕ). Some (n, l)) s) in
        rw (none, whole) refl
    go (c ∷ cs) s =
        let some : 0 < length rest = some_chars rest c cs s in
        let part : is_name text ≡ false = part_name text n cs c (e ∙ ap (λ (l : List ℕ). Some (n, l)) s) in
        ne_eqb (length rest) 0 (λ z. omega arith) ∙ sym part

pub colon_split : (bs hay : List ℕ) (n : ℕ) → hay ≡ bs → IsUtf8 bs → IsFirstByte (is_byte 58) hay (Some n) → Split bs n (prefix_len no_colon (chars bs))
colon_split bs hay n e u h =
    let m : prefix_len no_colon hay ≡ n = run_from_first (is_byte 58) hay (Some n) h in
    split_stop no_colon colon_low bs n u (sym m ∙ ap (prefix_len no_colon) e)

pub no_colon_split : (bs hay : List ℕ) → hay ≡ bs → IsUtf8 bs → IsFirstByte (is_byte 58) hay None → has_colon (chars bs) ≡ false
no_colon_split bs hay e u h =
    let m : prefix_len no_colon hay ≡ length hay = run_from_first (is_byte 58) hay None h in
    let all : length bs ≡ prefix_len no_colon bs = sym (ap (λ (l : List ℕ). length l) e) ∙ sym m ∙ ap (prefix_len no_colon) e in
    let s : Split bs (length bs) (prefix_len no_colon (chars bs)) = split_stop no_colon colon_low bs (length bs) u all in
    (colon_of (chars bs)).none (sym s.back ∙ ap chars (drop_all (length bs) bs (omega arith)) ∙ chars-nil)
