-- An attribute, step by step, and a list of attributes one by one.
use Rattle.std.proofs.Common.{◌≡◌, ℕ, ◌<◌, true, false, List, [], ◌∷◌, ◌++◌, length, Option, Some, None, refl, sym, ap, ◌∙◌, arith}
use Rattle.std.specs.Prelude.{codes, ◌==◌, option_map, option_and_then}
use Rattle.std.specs.Str.{IsUtf8, chars}
use Rattle.std.proofs.lemmas.Str.{chars-nil}
use Rattle.std.proofs.lemmas.List.{nil_from_length}
use Rattle.std.proofs.lemmas.Bool.{eqb-true, eqb-false}
use Rattle.xml_model.specs.Items.{Quote, single, double, Attribute, quote_char, written_pieces, Piece}
use Rattle.xml_chars.specs.Readers.{skip, word, mapped}
use Rattle.xml_chars.specs.Reading.{read_name, read_space, ascii_head}
use Rattle.xml_chars.proofs.Readers.{skip_some, skip_none, word_reads, map_some}
use Rattle.xml_chars.proofs.NameLaws.{name_reads, space_reads}
use Rattle.xml_chars.proofs.Points.{first_of}
use Rattle.xml_items.specs.Reading.{quote_form, read_quote, read_value, some_space, BareParts, read_bare_parts, attribute_of, read_bare, read_attribute}
use Rattle.xml_items.specs.Suffixes.{Suffixes, suffixes}
use Rattle.xml_items.proofs.PieceLaws.{quote_reads, value_reads}

-- ---- quotes

pub single_quote : (text rest : List ℕ) → word (codes "'") text ≡ Some (tt, rest) → read_quote text ≡ Some (single, rest)
unfolding read_quote quote_form ascii_head
single_quote text rest e = rw ((word_reads (codes "'")).takes text tt rest e).0 refl

pub double_quote : (text rest : List ℕ) → word (codes "\"") text ≡ Some (tt, rest) → read_quote text ≡ Some (double, rest)
unfolding read_quote quote_form ascii_head
double_quote text rest e = rw ((word_reads (codes "\"")).takes text tt rest e).0 refl

pub no_quote : (text : List ℕ) → word (codes "'") text ≡ None → word (codes "\"") text ≡ None → read_quote text ≡ None
unfolding read_quote
no_quote text s d = go (quote_form text)
  where
    go : (q : Quote) → mapped (λ _. q) (word (quote_char q ∷ [])) text ≡ None
    go single = rw s refl
    go double = rw d refl

-- ---- white space that is there

pub space_there : (bs : List ℕ) → IsUtf8 bs → (length bs == 0) ≡ false → some_space (chars bs) ≡ true
space_there bs u h =
    let lt : 0 < length bs = omega (arith, eqb-false (length bs) 0 h) in
    ap some_space (first_of bs u lt).points

pub space_gone : (bs : List ℕ) → (length bs == 0) ≡ true → some_space (chars bs) ≡ false
space_gone bs h = ap (λ (l : List ℕ). some_space (chars l)) (nil_from_length bs (eqb-true (length bs) 0 h)) ∙ ap some_space chars-nil

-- ---- an attribute, step by step

pub attribute_1 : (s space a : List ℕ) → read_space s ≡ Some (space, a) → some_space space ≡ false → read_attribute s ≡ None
unfolding read_attribute
attribute_1 s space a e1 f = rw (e1, f) refl

pub bare_1 : (a : List ℕ) → read_name a ≡ None → read_bare a ≡ None
unfolding read_bare
bare_1 a e2 = rw e2 refl

pub bare_2 : (a name b left c : List ℕ) → read_name a ≡ Some (name, b) → read_space b ≡ Some (left, c) → word (codes "=") c ≡ None → read_bare a ≡ None
unfolding read_bare
bare_2 a name b left c e2 e3 e4 = rw (e2, e3, e4) refl

pub bare_3 : (a name b left c d right e : List ℕ) → read_name a ≡ Some (name, b) → read_space b ≡ Some (left, c) → word (codes "=") c ≡ Some (tt, d) → read_space d ≡ Some (right, e) → read_quote e ≡ None → read_bare a ≡ None
unfolding read_bare
bare_3 a name b left c d right e e2 e3 e4 e5 e6 = rw (e2, e3, e4, e5, e6) refl

pub bare_4 : (a name b left c d right e : List ℕ) (q : Quote) (f : List ℕ) → read_name a ≡ Some (name, b) → read_space b ≡ Some (left, c) → word (codes "=") c ≡ Some (tt, d) → read_space d ≡ Some (right, e) → read_quote e ≡ Some (q, f) → None ≡ skip (read_value q) f → read_bare a ≡ None
unfolding read_bare
bare_4 a name b left c d right e q f e2 e3 e4 e5 e6 e7 = let none = skip_none (read_value q) f (sym e7) in rw (e2, e3, e4, e5, e6, none) refl

pub bare_5 : (a name b left c d right e : List ℕ) (q : Quote) (f g : List ℕ) → read_name a ≡ Some (name, b) → read_space b ≡ Some (left, c) → word (codes "=") c ≡ Some (tt, d) → read_space d ≡ Some (right, e) → read_quote e ≡ Some (q, f) → Some g ≡ skip (read_value q) f → word (quote_char q ∷ []) g ≡ None → read_bare a ≡ None
unfolding read_bare
bare_5 a name b left c d right e q f g e2 e3 e4 e5 e6 e7 e8 = let v = (skip_some (read_value q) f g (sym e7)).1 in rw (e2, e3, e4, e5, e6, v, e8) refl

bare_by : (a name b left c d right e : List ℕ) (q : Quote) (f g h : List ℕ) (v : List Piece) → read_name a ≡ Some (name, b) → read_space b ≡ Some (left, c) → word (codes "=") c ≡ Some (tt, d) → read_space d ≡ Some (right, e) → read_quote e ≡ Some (q, f) → read_value q f ≡ Some (v, g) → word (quote_char q ∷ []) g ≡ Some (tt, h)
    → read_bare a ≡ Some (record { space = []; name = name; left = left; right = right; quote = q; value = v }, h)
unfolding read_bare
bare_by a name b left c d right e q f g h v e2 e3 e4 e5 e6 e7 e8 = rw (e2, e3, e4, e5, e6, e7, e8) refl

suffixes_are : (a b c d e f g h name left right : List ℕ) (q : Quote) (v : List Piece) → a ≡ name ++ b → b ≡ left ++ c → c ≡ 61 ∷ d → d ≡ right ++ e → e ≡ quote_char q ∷ f → f ≡ written_pieces v ++ g → g ≡ quote_char q ∷ h
    → Some (suffixes (record { space = []; name = name; left = left; right = right; quote = q; value = v }, h)) ≡ Some record { after_space = a; after_name = b; value = f; after_value = g; rest = h }
suffixes_are a b c d e f g h name left right q v a_is b_is c_is d_is e_is f_is g_is = rw (a_is, b_is, c_is, d_is, e_is, f_is, g_is) refl

pub bare_6 : (a name b left c d right e : List ℕ) (q : Quote) (f g h : List ℕ) → read_name a ≡ Some (name, b) → read_space b ≡ Some (left, c) → word (codes "=") c ≡ Some (tt, d) → read_space d ≡ Some (right, e) → read_quote e ≡ Some (q, f) → Some g ≡ skip (read_value q) f → word (quote_char q ∷ []) g ≡ Some (tt, h)
    → option_map suffixes (read_bare a) ≡ Some record { after_space = a; after_name = b; value = f; after_value = g; rest = h }
bare_6 a name b left c d right e q f g h e2 e3 e4 e5 e6 e7 e8 =
    let v = skip_some (read_value q) f g (sym e7) in
    let a_is : a ≡ name ++ b = (name_reads.takes a name b e2).0 in
    let b_is : b ≡ left ++ c = (space_reads.takes b left c e3).0 in
    let c_is : c ≡ 61 ∷ d = ((word_reads (codes "=")).takes c tt d e4).0 in
    let d_is : d ≡ right ++ e = (space_reads.takes d right e e5).0 in
    let e_is : e ≡ quote_char q ∷ f = (quote_reads.takes e q f e6).0 in
    let f_is : f ≡ written_pieces v.0 ++ g = ((value_reads q).takes f v.0 g v.1).0 in
    let g_is : g ≡ quote_char q ∷ h = ((word_reads (quote_char q ∷ [])).takes g tt h e8).0 in
    ap (option_map suffixes) (bare_by a name b left c d right e q f g h v.0 e2 e3 e4 e5 e6 v.1 e8) ∙ suffixes_are a b c d e f g h name left right q v.0 a_is b_is c_is d_is e_is f_is g_is

-- with the white space before it

pub attribute_bare : (s space a : List ℕ) → read_space s ≡ Some (space, a) → some_space space ≡ true → option_map suffixes (read_attribute s) ≡ option_map suffixes (read_bare a)
unfolding read_attribute read_bare
attribute_bare s space a e t = rw (e, t) (go (read_bare_parts a))
  where
    go : (o : Option (BareParts × List ℕ)) → option_map suffixes (option_map (λ (p : (List ℕ × BareParts) × List ℕ). let z : Attribute × List ℕ = (attribute_of p.0, p.1) in z) (option_and_then (λ (q : BareParts × List ℕ). let z : (List ℕ × BareParts) × List ℕ = ((space, q.0), q.1) in Some z) o))
        ≡ option_map suffixes (option_map (λ (p : BareParts × List ℕ). let z : Attribute × List ℕ = (attribute_of ([], p.0), p.1) in z) o)
    go None = refl
    go (Some q) = refl

-- ---- the attributes one by one

pub suffixes_some : (o : Option (Attribute × List ℕ)) (f : Suffixes) → option_map suffixes o ≡ Some f → (a : Attribute) × (o ≡ Some (a, f.rest)) × (suffixes (a, f.rest) ≡ f)
suffixes_some o f e =
    let m = map_some suffixes o f e in
    let same : m.0.1 ≡ f.rest = ap (λ (z : Suffixes). z.rest) m.2 in
    (m.0.0, m.1 ∙ ap (λ (r : List ℕ). Some (m.0.0, r)) same, ap (λ (r : List ℕ). suffixes (m.0.0, r)) (sym same) ∙ m.2)

pub suffixes_none : (o : Option (Attribute × List ℕ)) → option_map suffixes o ≡ None → o ≡ None
suffixes_none None e = refl
suffixes_none (Some p) e = absurd (cc)
