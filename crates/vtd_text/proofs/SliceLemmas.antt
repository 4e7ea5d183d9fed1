-- The slice of the bytes that pieces are written in, and its content.
use Rattle.std.proofs.Common.{◌≡◌, ℕ, true, List, ◌++◌, take, drop, refl, sym, ap, ◌∙◌}
use Rattle.std.specs.Str.{IsUtf8, chars}
use Rattle.std.specs.List.{list_all}
use lib.Utf8.{scalars, encodes}
use Rattle.std.proofs.lemmas.Str.{scalars-chars, chars_from_encodes}
use Rattle.xml_model.specs.Chars.{begins, size}
use Rattle.xml_model.specs.Items.{Piece, written_pieces}
use Rattle.xml_chars.proofs.Points.{Cut, cut_of}
use Rattle.xml_chars.proofs.HoldLemmas.{prefix_holds}
use Rattle.vtd_text.proofs.Holding.{scalars_back}
use Rattle.vtd_text.specs.declared.token.Rule.{Rule}
use Rattle.vtd_text.specs.Tokens.{HasContent, may_begin_at, content_by}

-- where characters are at the start of a text, the slice of their size is they
pub slice_chars : (bs w : List ℕ) → IsUtf8 bs → begins (encodes w) bs ≡ true → chars (take (size w) bs) ≡ w
unfolding size
slice_chars bs w u h =
    let f = prefix_holds bs w u h in
    let s : scalars f.0 ≡ true = scalars_back w f.0 (ap scalars (sym f.1) ∙ scalars-chars bs u) in
    let v : IsUtf8 (drop (size w) bs) = (f.0, (s, f.2)) in
    let e : chars bs ≡ w ++ chars (drop (size w) bs) = f.1 ∙ ap (λ (l : List ℕ). w ++ l) (chars_from_encodes f.0 (drop (size w) bs) v f.2) in
    let k : Cut bs (drop (size w) bs) w = cut_of bs (drop (size w) bs) w u v e in
    ap (λ (n : ℕ). chars (take n bs)) (sym k.len) ∙ k.points

-- the pieces that are at the start of a text are the content of the slice of their size
pub slice_content : (rule : Rule) (bs : List ℕ) (ps : List Piece) → IsUtf8 bs → list_all (may_begin_at rule) ps ≡ true → begins (encodes (written_pieces ps)) bs ≡ true
    → HasContent rule (chars (take (size (written_pieces ps)) bs)) (content_by rule ps)
slice_content rule bs ps u f h = record { pieces = ps; fit = f; written = sym (slice_chars bs (written_pieces ps) u h); resolved = refl }
