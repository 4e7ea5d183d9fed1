-- The records of one text or CDATA section as one record (this project's own). Records of one token are told from those
-- of two by where they begin and end.
use Rattle.std.specs.Prelude.{◌≡◌, ℕ, ◌+◌, Bool, cond, ◌&&◌, ◌==◌, List, [], ◌∷◌, ◌++◌}
use Rattle.xml_model.specs.Chars.{size}
use Rattle.xml_model.specs.Items.{Leaf, text, cdata, written_pieces}
use Rattle.xml_model.specs.Records.{Record, cut, depth_at, kind_number, past_leaf}
use Rattle.xml_model.specs.Scan.{is_text_token}
use Rattle.xml_model.specs.declared.TokenKind.TheVariants as token

-- whether the record s goes on where r ends: both are of texts or of CDATA sections, of one depth, and s begins at the
-- end of r
abbrev pub goes_on : Record → Record → Bool
goes_on r s = is_text_token r.token && (r.token == s.token && (r.depth == s.depth && r.offset + r.len == s.offset))

-- the record r with the bytes of s after its own
abbrev pub joined_with : Record → Record → Record
joined_with r s = record {
  token = r.token;
  depth = r.depth;
  prefix = r.prefix;
  len = r.len + s.len;
  offset = r.offset;
}

-- the record r, and those after it, where each that goes on where the one before it ends is joined with that
abbrev pub wholes_from : Record → List Record → List Record
wholes_from r [] = r ∷ []
wholes_from r (s ∷ ss) = cond (goes_on r s) (wholes_from (joined_with r s) ss) (r ∷ wholes_from s ss)

-- records, where each that goes on where the one before it ends is joined with that
abbrev pub wholes : List Record → List Record
wholes [] = []
wholes (r ∷ rs) = wholes_from r rs

-- the record that a text or a CDATA section would have at a level, however long
abbrev pub whole_records : ℕ → ℕ → Leaf → List Record
whole_records l at (text ps) = cut (kind_number token.Text) (depth_at l) (size (written_pieces ps)) at ∷ []
whole_records l at (cdata cs) = cut (kind_number token.Cdata) (depth_at l) (size cs) (at + 9) ∷ []
whole_records l at _ = []

-- one for each of some texts and CDATA sections that follow one another
abbrev pub run_wholes : ℕ → ℕ → List Leaf → List Record
run_wholes l at [] = []
run_wholes l at (x ∷ xs) = whole_records l at x ++ run_wholes l (past_leaf at x) xs
