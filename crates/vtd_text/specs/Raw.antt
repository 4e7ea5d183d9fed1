-- A node's content where it is in the document as it is (this project's own).
use Rattle.std.specs.Prelude.{◌≡◌, ℕ, Bool, cond, not, ◌==◌, ◌||◌, List, [], ◌∷◌, encode_utf8_all, bytes_eq, Option}
use Rattle.std.specs.Prelude.{Some, None, option_and_then}
use Rattle.std.specs.List.{list_all}
use Rattle.xml_model.specs.Items.{Leaf, written_pieces}
use Rattle.xml_model.specs.Records.{Record}
use Rattle.xml_model.specs.Tree.{Thing}
use Rattle.xml_model.specs.Content.{content}
use Rattle.vtd_text.specs.Joined.{IsText, slice_of}

-- the characters that the content of a node is written in, where they are in one piece: not for the root, an element,
-- or a text of several texts or CDATA sections
abbrev pub written_content : Thing → Option (List ℕ)
written_content (Thing.attribute a) = Some (written_pieces a.value)
written_content (Thing.text (Leaf.text ps ∷ [])) = Some (written_pieces ps)
written_content (Thing.text (Leaf.cdata cs ∷ [])) = Some cs
written_content (Thing.comment cs) = Some cs
written_content (Thing.instruction i) = Some i.content
written_content _ = None

-- the UTF-8 of a node's string-value (XPath 1.0, section 5), where its content is written in just these characters, in
-- one piece
unfoldable pub raw_content : Thing → Option (List ℕ)
raw_content t = option_and_then (λ w. cond (bytes_eq (content t) w) (Some (encode_utf8_all w)) None) (written_content t)

-- a record is of the characters that the content is written in
pub record IsWritten (bytes : List ℕ) (r : Record) (content : Option (List ℕ)) : Type 0 where
  pub written : List ℕ
  pub is : content ≡ Some written
  pub text : IsText bytes r
  pub slice : slice_of bytes r ≡ encode_utf8_all written

-- whether no character of a text may stand for another one, or begin a reference: none is a tab, a line feed, a carriage
-- return or an ampersand (XML 1.0, sections 2.11, 3.3.3 and 4.1)
abbrev pub are_plain : List ℕ → Bool
are_plain cs = list_all (λ c. not (c == 9 || c == 10 || c == 13 || c == 38)) cs
