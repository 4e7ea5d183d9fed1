-- The first place of a mark, by runs.
use Rattle.std.proofs.Common.{◌≡◌, ℕ, zero, suc, ◌-◌, ◌<◌, Bool, true, false, inl, inr, List, [], ◌∷◌, length, take, get_or, Option, Some, None, refl, sym, ap, ◌∙◌, arith, lit<}
use Rattle.std.specs.Prelude.{codes, ◌==◌, not, option_map, unwrap_or, map}
use Rattle.std.specs.Str.{IsUtf8, chars, IsAscii}
use Rattle.std.specs.Char.{to_ascii_lowercase}
use Rattle.std.specs.List.{prefix_len, list_all}
use Rattle.std.proofs.Math.Numerals.{one-add}
use Rattle.std.proofs.lemmas.Bool.{cases_Bool, cases_lt, false≢true, not-true, eqb-false, ne_eqb, le-ltb, false_from_ne_true}
use Rattle.std.proofs.lemmas.Str.{encodes-chars, chars-IsAscii, encodes-IsAscii}
use Rattle.std.proofs.lemmas.Slice.Eq.{bytes_eq-Decides}
use Rattle.memchr.specs.Find.{IsFirstByte, is_byte}
use Rattle.xml_model.specs.Chars.{begins, is_char}
use Rattle.xml_chars.specs.Readers.{skip, after_run, word}
use Rattle.xml_chars.proofs.Readers.{skip_some, skip_none}
use Rattle.xml_chars.proofs.Points.{Cut, cut_of}
use Rattle.xml_chars.proofs.TextLemmas.{Split, split_stop, run_from_first}
use denote.Bor.{Bor}
use Rattle.std.specs.Prelude.{IsTrue, ◌↔◌, is_none}
use Rattle.xml_chars.specs.Readers.{Gives}
use Rattle.xml_items.proofs.PlainLemmas.{word_some}
use Rattle.xml_chars.proofs.ReferenceLemmas.{word_none}
use Rattle.xml_items.specs.Reading.{push, until, read_until, is_xml}
use Rattle.xml_items.proofs.MarkLaws.{until_takes}
use Rattle.xml_chars.proofs.ByteLemmas.{other_low}

abbrev pub other : ℕ → ℕ → Bool
other byte c = not (c == byte)

pub other_split : (byte : ℕ) → byte < 128 → (bs hay : List ℕ) (r : Option ℕ) (n : ℕ) → hay ≡ bs → IsUtf8 bs → IsFirstByte (is_byte byte) hay r → n ≡ unwrap_or r (length bs) → Split bs n (prefix_len (other byte) (chars bs))
other_split byte lt bs hay r n e u h is =
    let m : prefix_len (other byte) hay ≡ unwrap_or r (length hay) = run_from_first (is_byte byte) hay r h in
    split_stop (other byte) (other_low byte lt) bs n u (is ∙ ap (λ (l : List ℕ). unwrap_or r (length l)) (sym e) ∙ sym m ∙ ap (prefix_len (other byte)) e)

-- ---- steps

skip_push : (c : ℕ) (o : Option (List ℕ × List ℕ)) → option_map (λ (p : List ℕ × List ℕ). p.1) (push c o) ≡ option_map (λ (p : List ℕ × List ℕ). p.1) o
skip_push c None = refl
skip_push c (Some p) = refl

pub until_more : (mark text rest : List ℕ) (c : ℕ) → text ≡ c ∷ rest → begins mark text ≡ false → skip (until mark) text ≡ skip (until mark) rest
until_more mark text rest c e h =
    let f : begins mark (c ∷ rest) ≡ false = ap (begins mark) (sym e) ∙ h in
    let step : skip (until mark) (c ∷ rest) ≡ skip (until mark) rest = rw f (skip_push c (until mark rest)) in
    ap (skip (until mark)) e ∙ step

pub until_none : (mark text : List ℕ) → text ≡ [] → skip (until mark) text ≡ None
until_none mark text e = ap (skip (until mark)) e

pub until_done : (mark text : List ℕ) → 0 < length mark → begins mark text ≡ true → skip (until mark) text ≡ Some text
until_done [] text lt h = absurd (omega arith)
until_done (m ∷ mark) [] lt h = absurd (false≢true h)
until_done (m ∷ mark) (c ∷ text) lt h = rw h refl

run_step : (m : ℕ) (mark : List ℕ) (c : ℕ) (text : List ℕ) → other m c ≡ true → begins (m ∷ mark) (c ∷ text) ≡ false
run_step m mark c text h = rw (ne_eqb m c (λ e. eqb-false c m (not-true (c == m) h) (sym e))) refl

until_run_by : (m : ℕ) (mark text : List ℕ) → skip (until (m ∷ mark)) text ≡ skip (until (m ∷ mark)) (after_run (other m) text)
until_run_by m mark [] = refl
until_run_by m mark (c ∷ text) = elim (cases_Bool (other m c)) [
  | inl y ↦
      let e : after_run (other m) (c ∷ text) ≡ after_run (other m) text = rw (y, one-add) refl in
      until_more (m ∷ mark) (c ∷ text) text c refl (run_step m mark c text y) ∙ until_run_by m mark text ∙ ap (skip (until (m ∷ mark))) (sym e)
  | inr n ↦ rw n refl
]

pub until_run : (mark : List ℕ) (first : ℕ) (text : List ℕ) → 0 < length mark → get_or mark 0 0 ≡ first → skip (until mark) text ≡ skip (until mark) (after_run (other first) text)
until_run [] first text lt e = absurd (omega arith)
until_run (m ∷ mark) first text lt e = until_run_by m mark text ∙ ap (λ (k : ℕ). skip (until (m ∷ mark)) (after_run (other k) text)) e

-- ---- with a test of what is before

pub record PrefixOf (mark text rest : List ℕ) : Type 0 where
  pub cut : (cs : List ℕ) × Cut text rest cs
  pub yes : list_all is_char (chars (take (length text - length rest) text)) ≡ true → skip (read_until mark) (chars text) ≡ Some (chars rest)
  pub none : list_all is_char (chars (take (length text - length rest) text)) ≡ false → skip (read_until mark) (chars text) ≡ None

pub prefix_of : (mark text rest : List ℕ) → IsUtf8 text → IsUtf8 rest → Some (chars rest) ≡ skip (until mark) (chars text) → PrefixOf mark text rest
unfolding read_until
prefix_of mark text rest u v e =
    let x = skip_some (until mark) (chars text) (chars rest) (sym e) in
    let t = until_takes mark (chars text) x.0 (chars rest) x.1 in
    let k = cut_of text rest x.0 u v t.0 in
    record {
      cut = (x.0, k);
      yes = λ h. let all : list_all is_char x.0 ≡ true = ap (list_all is_char) (sym k.points) ∙ h in rw (x.1, all) refl;
      none = λ h. let no-all : list_all is_char x.0 ≡ false = ap (list_all is_char) (sym k.points) ∙ h in rw (x.1, no-all) refl;
    }

pub prefix_none : (mark text : List ℕ) → None ≡ skip (until mark) text → skip (read_until mark) text ≡ None
unfolding read_until
prefix_none mark text e = let n = skip_none (until mark) text (sym e) in rw n refl

-- ---- the name xml

lower_low : (c : ℕ) → to_ascii_lowercase c < 128 → c < 128
lower_low c h = elim (cases_lt c 128) [
  | inl lt ↦ lt
  | inr ge ↦
      let e : to_ascii_lowercase c ≡ c = rw (le-ltb c 65 (omega arith), le-ltb c 91 (omega arith)) refl in
      absurd (omega arith)
]

ascii_by_lower : (cs : List ℕ) (a b d : ℕ) → a < 128 → b < 128 → d < 128 → map to_ascii_lowercase cs ≡ a ∷ b ∷ d ∷ [] → IsAscii cs
ascii_by_lower [] a b d la lb ld e i = omega arith
ascii_by_lower (x ∷ []) a b d la lb ld e i = absurd (cc)
ascii_by_lower (x ∷ y ∷ []) a b d la lb ld e i = absurd (cc)
ascii_by_lower (x ∷ y ∷ z ∷ []) a b d la lb ld e zero = lower_low x (let s : to_ascii_lowercase x ≡ a = cc in omega arith)
ascii_by_lower (x ∷ y ∷ z ∷ []) a b d la lb ld e (suc zero) = lower_low y (let s : to_ascii_lowercase y ≡ b = cc in omega arith)
ascii_by_lower (x ∷ y ∷ z ∷ []) a b d la lb ld e (suc (suc zero)) = lower_low z (let s : to_ascii_lowercase z ≡ d = cc in omega arith)
ascii_by_lower (x ∷ y ∷ z ∷ []) a b d la lb ld e (suc (suc (suc i))) = omega arith
ascii_by_lower (x ∷ y ∷ z ∷ w ∷ cs) a b d la lb ld e i = absurd (cc)

xml_ascii : (cs : List ℕ) → map to_ascii_lowercase cs ≡ codes "xml" → IsAscii cs
xml_ascii cs e = ascii_by_lower cs 120 109 108 (lit< tt) (lit< tt) (lit< tt) e

pub xml_yes : (bs : List ℕ) → map to_ascii_lowercase bs ≡ codes "xml" → is_xml (chars bs) ≡ true
xml_yes bs e = ap is_xml (chars-IsAscii bs (xml_ascii bs e)) ∙ (bytes_eq-Decides (map to_ascii_lowercase bs) (codes "xml")).1 e

pub xml_no : (bs : List ℕ) → IsUtf8 bs → (map to_ascii_lowercase bs ≡ codes "xml" → ⊥) → is_xml (chars bs) ≡ false
xml_no bs u no-xml = false_from_ne_true _ (λ t.
    let e : map to_ascii_lowercase (chars bs) ≡ codes "xml" = (bytes_eq-Decides (map to_ascii_lowercase (chars bs)) (codes "xml")).0 t in
    let same : chars bs ≡ bs = sym (encodes-IsAscii (chars bs) (xml_ascii (chars bs) e)) ∙ encodes-chars bs u in
    no-xml (ap (map to_ascii_lowercase) (sym same) ∙ e))

pub xml_is : (bs hay : List ℕ) (b : Bool) → hay ≡ bs → IsUtf8 bs → (IsTrue b ↔ (map to_ascii_lowercase hay ≡ map to_ascii_lowercase (codes "xml"))) → b ≡ is_xml (chars bs)
xml_is bs hay true e u h = sym (xml_yes bs (ap (map to_ascii_lowercase) (sym e) ∙ h.0 refl))
xml_is bs hay false e u h = sym (xml_no bs u (λ x. false≢true (h.1 (ap (map to_ascii_lowercase) e ∙ x))))

-- ---- whether the mark is there

pub not_begun : (mark text : List ℕ) (o : Option (Bor (List ℕ))) → Gives (λ (r : Bor (List ℕ)). (tt, chars r.now)) o (word mark text) → is_none o ≡ true → begins mark text ≡ false
not_begun mark text None g h = word_none mark text g
not_begun mark text (Some r) g h = absurd (false≢true h)

pub begun : (mark text : List ℕ) (o : Option (Bor (List ℕ))) → Gives (λ (r : Bor (List ℕ)). (tt, chars r.now)) o (word mark text) → is_none o ≡ false → begins mark text ≡ true
begun mark text None g h = absurd (false≢true (sym h))
begun mark text (Some r) g h = word_some mark text (chars r.now) g
