-- What the records of a leaf and of a tag say, where it is in the bytes.
use Rattle.std.proofs.Common.{◌≡◌, ℕ, suc, ◌+◌, Bool, true, false, cond, not, ◌&&◌, ◌||◌, ◌==◌, List, [], ◌∷◌, ◌++◌, map, codes, refl, sym, ap, subst, ◌∙◌, append_assoc, append-nil, Option, Some, None, drop}
use Rattle.std.specs.List.{AllByRecursion as Each, list_all}
use Rattle.std.proofs.lemmas.Bool.{and_parts, and_from, false≢true}
use lib.Utf8.{encode, encodes}
use Rattle.xml_model.specs.Chars.{is_char, size, lacks, is_white, is_name, is_blank}
use Rattle.xml_model.specs.Items.{Piece, literal, entity, decimal, hexadecimal, Attribute, Tag, Instruction, Leaf, text, cdata, declaration, doctype, quote_char, before_value, written_pieces, written_attribute, written_attributes, written_leaf, written_tag, meets_piece, meets_attribute, meets_tag, meets_leaf, is_nil}
use Rattle.xml_model.specs.Records.{Record, plain, attributes_place, declaration_attributes, depth_at, leaf_records}
use Rattle.xml_model.specs.Content.{text_content, value_content, literal_content, leaf_content}
use Rattle.xml_model.specs.Scan.{is_text_token}
use Rattle.xml_model.specs.Wholes.{wholes}
use Rattle.xml_model.proofs.Each.{each_more, each_append}
use Rattle.xml_model.proofs.Wholes.{NoText, none_wholes}
use Rattle.xml_model.proofs.TextPlaces.{parts_none, text_whole}
use Rattle.xml_model.proofs.Starts.{ProperLeaf}
use Rattle.vtd_text.specs.declared.token.Rule.{Rule}
use Rattle.vtd_text.specs.declared.token.Rule.TheVariants.{Text, Literal, Value}
use Rattle.vtd_text.specs.Tokens.{may_begin_at, content_by}
use Rattle.vtd_text.specs.Joined.{rule_of, slice_of, Gives, Joined, IsText, Fine}
use Rattle.vtd_text.specs.Resolved.{IsResolved}
use Rattle.vtd_text.proofs.Holding.{HasNameRecord, slice_is, holds_left, holds_right, holds_middle}
use Rattle.vtd_text.proofs.SliceLemmas.{slice_content}

-- ---- rows of records

-- a record that is of no text and of no CDATA section
abbrev pub Silent : Record → Type 0
Silent r = rule_of r.token ≡ None

pub silent_joined : (bytes : List ℕ) (rs : List Record) → Each Silent rs → Joined bytes rs []
silent_joined bytes [] h = refl
silent_joined bytes (r ∷ rs) h = record {
  head = [];
  tail = [];
  whole = refl;
  first = none (rule_of r.token) h.0;
  rest = silent_joined bytes rs h.1;
}
  where
    none : (o : Option Rule) → o ≡ None → Gives o (slice_of bytes r) []
    none o e = subst (λ (p : Option Rule). Gives p (slice_of bytes r) []) (sym e) refl

pub joined_append : (bytes : List ℕ) (rs ss : List Record) (a b : List ℕ) → Joined bytes rs a → Joined bytes ss b → Joined bytes (rs ++ ss) (a ++ b)
joined_append bytes [] ss a b h k = subst (λ (l : List ℕ). Joined bytes ss (l ++ b)) (sym h) k
joined_append bytes (r ∷ rs) ss a b h k = record {
  head = h.head;
  tail = h.tail ++ b;
  whole = ap (λ (l : List ℕ). l ++ b) h.whole ∙ append_assoc h.head h.tail b;
  first = h.first;
  rest = joined_append bytes rs ss h.tail b h.rest k;
}

-- ---- pieces

plain_fit : (cs : List ℕ) → list_all (may_begin_at Literal) (map literal cs) ≡ true
plain_fit [] = refl
plain_fit (c ∷ cs) = plain_fit cs

plain_written : (cs : List ℕ) → written_pieces (map literal cs) ≡ cs
plain_written [] = refl
plain_written (c ∷ cs) = ap (λ (l : List ℕ). c ∷ l) (plain_written cs)

looser_literal : (s : Bool) (a b c : Bool) → (a && b && c && not s) ≡ true → (a && b && c && true) ≡ true
looser_literal s a b c h = let p = and_parts (a && b && c) (not s) h in and_from (a && b && c) true p.0 refl

looser : (stops : ℕ → Bool) (p : Piece) → meets_piece stops p ≡ true → meets_piece (λ c. false) p ≡ true
looser stops (literal c) h = looser_literal (stops c) (is_char c) (not (c == 60)) (not (c == 38)) h
looser stops (entity n) h = h
looser stops (decimal n) h = h
looser stops (hexadecimal n) h = h

value_fit : (stops : ℕ → Bool) (ps : List Piece) → list_all (meets_piece stops) ps ≡ true → list_all (may_begin_at Value) ps ≡ true
value_fit stops [] h = refl
value_fit stops (p ∷ ps) h =
    let q = and_parts (meets_piece stops p) (list_all (meets_piece stops) ps) h in
    and_from (meets_piece (λ c. false) p) (list_all (may_begin_at Value) ps) (looser stops p q.0) (value_fit stops ps q.1)

-- ---- one token

pub resolved_at : (bytes : List ℕ) (rule : Rule) (token depth at : ℕ) (ps : List Piece) → list_all (may_begin_at rule) ps ≡ true → HasNameRecord bytes at (written_pieces ps) →
    IsResolved bytes rule (plain token depth (written_pieces ps) at) (content_by rule ps)
resolved_at bytes rule token depth at ps f s =
    let t = slice_is bytes at (written_pieces ps) s in
    record { text = (t.within, t.utf8); resolved = slice_content rule (drop at bytes) ps s.utf8 f s.there }

-- a record is of the bytes of these characters
pub record WrittenIs (bytes : List ℕ) (r : Record) (w : List ℕ) : Type 0 where
  pub text : IsText bytes r
  pub slice : slice_of bytes r ≡ encodes w

pub written_at : (bytes : List ℕ) (token depth at : ℕ) (w : List ℕ) → HasNameRecord bytes at w → WrittenIs bytes (plain token depth w at) w
written_at bytes token depth at w s = let t = slice_is bytes at w s in record { text = (t.within, t.utf8); slice = t.bytes_are }

literal_is : (cs : List ℕ) → content_by Literal (map literal cs) ≡ literal_content cs
unfolding literal_content
literal_is cs = refl

pub literal_at : (bytes : List ℕ) (token depth at : ℕ) (cs : List ℕ) → HasNameRecord bytes at cs → IsResolved bytes Literal (plain token depth cs at) (literal_content cs)
literal_at bytes token depth at cs s =
    let w = plain_written cs in
    let r : IsResolved bytes Literal (plain token depth (written_pieces (map literal cs)) at) (content_by Literal (map literal cs)) =
    resolved_at bytes Literal token depth at (map literal cs) (plain_fit cs) (subst (λ (l : List ℕ). HasNameRecord bytes at l) (sym w) s) in
    subst (λ (l : List ℕ). IsResolved bytes Literal (plain token depth l at) (literal_content cs)) w (subst (λ (l : List ℕ). IsResolved bytes Literal (plain token depth (written_pieces (map literal cs)) at) l) (literal_is cs) r)

-- one record of a text or a CDATA section
one_joined : (bytes : List ℕ) (rule : Rule) (r : Record) (content : List ℕ) → rule_of r.token ≡ Some rule → IsResolved bytes rule r content → Joined bytes (r ∷ []) content
one_joined bytes rule r content e k = record {
  head = content;
  tail = [];
  whole = sym (append-nil content);
  first = subst (λ (o : Option Rule). Gives o (slice_of bytes r) content) (sym e) k.resolved;
  rest = refl;
}

-- ---- leaves

mark_cdata : size (codes "<![CDATA[") ≡ 9
unfolding size encode
mark_cdata = refl

mark_comment : size (codes "<!--") ≡ 4
unfolding size encode
mark_comment = refl

mark_instruction : size (codes "<?") ≡ 2
unfolding size encode
mark_instruction = refl

cdata_holds : (bytes : List ℕ) (at : ℕ) (cs : List ℕ) → HasNameRecord bytes at (written_leaf (cdata cs)) → HasNameRecord bytes (at + 9) cs
cdata_holds bytes at cs s = subst (λ (n : ℕ). HasNameRecord bytes (at + n) cs) mark_cdata (holds_middle bytes at (codes "<![CDATA[") cs (codes "]]>") s)

comment_holds : (bytes : List ℕ) (at : ℕ) (cs : List ℕ) → HasNameRecord bytes at (written_leaf (Leaf.comment cs)) → HasNameRecord bytes (at + 4) cs
comment_holds bytes at cs s = subst (λ (n : ℕ). HasNameRecord bytes (at + n) cs) mark_comment (holds_middle bytes at (codes "<!--") cs (codes "-->") s)

-- the data of an instruction
instruction_holds : (bytes : List ℕ) (at : ℕ) (i : Instruction) → HasNameRecord bytes at (written_leaf (Leaf.instruction i)) → HasNameRecord bytes (at + 2 + size i.target + size i.space) i.content
instruction_holds bytes at i s =
    let a : HasNameRecord bytes (at + size (codes "<?")) (i.target ++ (i.space ++ (i.content ++ codes "?>"))) =
    holds_right bytes at (codes "<?") (i.target ++ (i.space ++ (i.content ++ codes "?>"))) (subst (λ (l : List ℕ). HasNameRecord bytes at l) (five (codes "<?") i.target i.space i.content (codes "?>")) s) in
    let b : HasNameRecord bytes (at + 2) (i.target ++ (i.space ++ (i.content ++ codes "?>"))) = subst (λ (n : ℕ). HasNameRecord bytes (at + n) (i.target ++ (i.space ++ (i.content ++ codes "?>")))) mark_instruction a in
    holds_middle bytes (at + 2 + size i.target) i.space i.content (codes "?>") (holds_right bytes (at + 2) i.target (i.space ++ (i.content ++ codes "?>")) b)
  where
    five : (a b c d e : List ℕ) → a ++ b ++ c ++ d ++ e ≡ a ++ (b ++ (c ++ (d ++ e)))
    five a b c d e = simp append_assoc

text_resolved : (bytes : List ℕ) (depth at : ℕ) (ps : List Piece) → meets_leaf (text ps) ≡ true → HasNameRecord bytes at (written_pieces ps) → IsResolved bytes Text (plain 5 depth (written_pieces ps) at) (text_content ps)
text_resolved bytes depth at ps m s =
    let p = and_parts (not (is_nil (written_pieces ps)) && list_all (meets_piece (λ c. false)) ps) (lacks (codes "]]>") (written_pieces ps)) m in
    resolved_at bytes Text 5 depth at ps (and_parts (not (is_nil (written_pieces ps))) (list_all (meets_piece (λ c. false)) ps) p.0).1 s

-- ---- records with their content, each of a text

pub record Told (bytes : List ℕ) (rs : List Record) (content : List ℕ) : Type 0 where
  pub joined : Joined bytes rs content
  pub fine : Each (Fine bytes) rs

pub told_append : (bytes : List ℕ) (rs ss : List Record) (a b : List ℕ) → Told bytes rs a → Told bytes ss b → Told bytes (rs ++ ss) (a ++ b)
told_append bytes rs ss a b h k = record { joined = joined_append bytes rs ss a b h.joined k.joined; fine = each_append (Fine bytes) rs ss h.fine k.fine }

no_rule : (n : ℕ) → is_text_token n ≡ false → rule_of n ≡ None
no_rule n = by (n == 5) (n == 11)
  where
    by : (a b : Bool) → (a || b) ≡ false → ◌≡◌ {A = Option Rule} (cond a (Some Text) (cond b (Some Literal) None)) None
    by true b h = absurd (false≢true (sym h))
    by false true h = absurd (false≢true (sym h))
    by false false h = refl

-- of no text
pub told_none : (bytes : List ℕ) (rs : List Record) → Each NoText rs → Told bytes rs []
told_none bytes rs h = record {
  joined = silent_joined bytes rs (each_more NoText Silent (λ r n. no_rule r.token n) rs h);
  fine = each_more NoText (Fine bytes) (λ r n t. absurd (false≢true (sym n ∙ t))) rs h;
}

pub told_wholes : (bytes : List ℕ) (rs : List Record) → Each NoText rs → Told bytes (wholes rs) []
told_wholes bytes rs h = subst (λ (xs : List Record). Told bytes xs []) (sym (none_wholes rs h)) (told_none bytes rs h)

-- one token
told_one : (bytes : List ℕ) (rule : Rule) (r : Record) (content : List ℕ) → rule_of r.token ≡ Some rule → IsResolved bytes rule r content → Told bytes (r ∷ []) content
told_one bytes rule r content e k = record { joined = one_joined bytes rule r content e k; fine = (λ t. k.text, tt) }

-- the tokens of a leaf that an element holds
pub leaf_told : (bytes : List ℕ) (x : Leaf) (d at : ℕ) → meets_leaf x ≡ true → HasNameRecord bytes at (written_leaf x) → Told bytes (wholes (leaf_records (suc d) at x)) (leaf_content x)
leaf_told bytes (text ps) d at m s =
    subst (λ (rs : List Record). Told bytes rs (text_content ps)) (sym (text_whole d at (text ps) refl)) (told_one bytes Text _ (text_content ps) refl (text_resolved bytes d at ps m s))
leaf_told bytes (cdata cs) d at m s =
    subst (λ (rs : List Record). Told bytes rs (literal_content cs)) (sym (text_whole d at (cdata cs) refl)) (told_one bytes Literal _ (literal_content cs) refl (literal_at bytes 11 d (at + 9) cs (cdata_holds bytes at cs s)))
leaf_told bytes (Leaf.comment cs) d at m s = told_wholes bytes (leaf_records (suc d) at (Leaf.comment cs)) (refl, tt)
leaf_told bytes (Leaf.instruction i) d at m s = told_wholes bytes (leaf_records (suc d) at (Leaf.instruction i)) (refl, (refl, tt))
leaf_told bytes (declaration v) d at m s = told_wholes bytes (leaf_records (suc d) at (declaration v)) (parts_none (declaration_attributes v) d (at + 5))
leaf_told bytes (doctype v) d at m s = told_wholes bytes (leaf_records (suc d) at (doctype v)) (refl, tt)

-- and of one outside the root element
pub outside_told : (bytes : List ℕ) (x : Leaf) (at : ℕ) → ProperLeaf 0 x → Told bytes (wholes (leaf_records 0 at x)) []
outside_told bytes (text ps) at p = told_wholes bytes [] tt
outside_told bytes (cdata cs) at p = absurd p
outside_told bytes (Leaf.comment cs) at p = told_wholes bytes (leaf_records 0 at (Leaf.comment cs)) (refl, tt)
outside_told bytes (Leaf.instruction i) at p = told_wholes bytes (leaf_records 0 at (Leaf.instruction i)) (refl, (refl, tt))
outside_told bytes (declaration v) at p = told_wholes bytes (leaf_records 0 at (declaration v)) (parts_none (declaration_attributes v) 255 (at + 5))
outside_told bytes (doctype v) at p = told_wholes bytes (leaf_records 0 at (doctype v)) (refl, tt)

pub comment_resolved : (bytes : List ℕ) (depth at : ℕ) (cs : List ℕ) → HasNameRecord bytes at (written_leaf (Leaf.comment cs)) →
    IsResolved bytes Literal (plain 6 depth cs (at + 4)) (literal_content cs) × WrittenIs bytes (plain 6 depth cs (at + 4)) cs
comment_resolved bytes depth at cs s = let t = comment_holds bytes at cs s in (literal_at bytes 6 depth (at + 4) cs t, written_at bytes 6 depth (at + 4) cs t)

pub instruction_resolved : (bytes : List ℕ) (depth at : ℕ) (i : Instruction) → HasNameRecord bytes at (written_leaf (Leaf.instruction i)) →
    IsResolved bytes Literal (plain 8 depth i.content (at + 2 + size i.target + size i.space)) (literal_content i.content) × WrittenIs bytes (plain 8 depth i.content (at + 2 + size i.target + size i.space)) i.content
instruction_resolved bytes depth at i s =
    let t = instruction_holds bytes at i s in
    (literal_at bytes 8 depth (at + 2 + size i.target + size i.space) i.content t, written_at bytes 8 depth (at + 2 + size i.target + size i.space) i.content t)

-- what the record of a text or of a CDATA section is of
abbrev pub LeafIs : List ℕ → ℕ → ℕ → Leaf → Type 0
LeafIs bytes l at (text ps) = WrittenIs bytes (plain 5 (depth_at l) (written_pieces ps) at) (written_pieces ps)
LeafIs bytes l at (cdata cs) = WrittenIs bytes (plain 11 (depth_at l) cs (at + 9)) cs
LeafIs bytes l at _ = ⊥

pub text_is : (bytes : List ℕ) (ps : List Piece) (l at : ℕ) → HasNameRecord bytes at (written_leaf (text ps)) → LeafIs bytes l at (text ps)
text_is bytes ps l at s = written_at bytes 5 (depth_at l) at (written_pieces ps) s

pub cdata_is : (bytes : List ℕ) (cs : List ℕ) (l at : ℕ) → HasNameRecord bytes at (written_leaf (cdata cs)) → LeafIs bytes l at (cdata cs)
cdata_is bytes cs l at s = written_at bytes 11 (depth_at l) (at + 9) cs (cdata_holds bytes at cs s)

-- ---- tags

-- the value of an attribute, if the white space before it is at a place
abbrev pub ValueIs : List ℕ → ℕ → ℕ → Attribute → Type 0
ValueIs bytes depth at a =
    IsResolved bytes Value (plain 4 depth (written_pieces a.value) (at + size a.space + size (before_value a))) (value_content a.value)
    × WrittenIs bytes (plain 4 depth (written_pieces a.value) (at + size a.space + size (before_value a))) (written_pieces a.value)

abbrev pub ValuesAre : List ℕ → ℕ → ℕ → List Attribute → Type 0
ValuesAre bytes depth at [] = Unit {0}
ValuesAre bytes depth at (a ∷ others) = ValueIs bytes depth at a × ValuesAre bytes depth (at + size (written_attribute a)) others

value_is : (bytes : List ℕ) (depth at : ℕ) (a : Attribute) → meets_attribute a ≡ true → HasNameRecord bytes at (written_attribute a) → ValueIs bytes depth at a
value_is bytes depth at a m s =
    let p = and_parts (is_white a.space && is_name a.name && is_blank a.left && is_blank a.right) (list_all (meets_piece (λ c. c == quote_char a.quote)) a.value) m in
    let t : HasNameRecord bytes at (a.space ++ (before_value a ++ (written_pieces a.value ++ quote_char a.quote ∷ []))) = subst (λ (l : List ℕ). HasNameRecord bytes at l) (four a.space (before_value a) (written_pieces a.value) (quote_char a.quote ∷ [])) s in
    let u : HasNameRecord bytes (at + size a.space) (before_value a ++ (written_pieces a.value ++ quote_char a.quote ∷ [])) = holds_right bytes at a.space (before_value a ++ (written_pieces a.value ++ quote_char a.quote ∷ [])) t in
    let v : HasNameRecord bytes (at + size a.space + size (before_value a)) (written_pieces a.value) = holds_middle bytes (at + size a.space) (before_value a) (written_pieces a.value) (quote_char a.quote ∷ []) u in (
      resolved_at bytes Value 4 depth (at + size a.space + size (before_value a)) a.value (value_fit (λ c. c == quote_char a.quote) a.value p.1) v,
      written_at bytes 4 depth (at + size a.space + size (before_value a)) (written_pieces a.value) v,
    )
  where
    four : (a b c d : List ℕ) → a ++ b ++ c ++ d ≡ a ++ (b ++ (c ++ d))
    four a b c d = simp append_assoc

values_are : (bytes : List ℕ) (depth at : ℕ) (others : List Attribute) → list_all meets_attribute others ≡ true → HasNameRecord bytes at (written_attributes others) → ValuesAre bytes depth at others
values_are bytes depth at [] m s = tt
values_are bytes depth at (a ∷ others) m s =
    let p = and_parts (meets_attribute a) (list_all meets_attribute others) m in
    (value_is bytes depth at a p.0 (holds_left bytes at (written_attribute a) (written_attributes others) s), values_are bytes depth (at + size (written_attribute a)) others p.1 (holds_right bytes at (written_attribute a) (written_attributes others) s))

mark_tag : size (codes "<") ≡ 1
unfolding size encode
mark_tag = refl

pub tag_values : (bytes : List ℕ) (depth at : ℕ) (t : Tag) → meets_tag t ≡ true → HasNameRecord bytes at (written_tag t) → ValuesAre bytes depth (attributes_place at t) t.attributes
tag_values bytes depth at t m s =
    let p = and_parts (is_name t.name && list_all meets_attribute t.attributes) (is_blank t.space) m in
    let a : HasNameRecord bytes at (codes "<" ++ (t.name ++ (written_attributes t.attributes ++ t.space))) = subst (λ (l : List ℕ). HasNameRecord bytes at l) (four (codes "<") t.name (written_attributes t.attributes) t.space) s in
    let b : HasNameRecord bytes (at + 1) (t.name ++ (written_attributes t.attributes ++ t.space)) =
    subst (λ (n : ℕ). HasNameRecord bytes (at + n) (t.name ++ (written_attributes t.attributes ++ t.space))) mark_tag (holds_right bytes at (codes "<") (t.name ++ (written_attributes t.attributes ++ t.space)) a) in
    values_are bytes depth (attributes_place at t) t.attributes (and_parts (is_name t.name) (list_all meets_attribute t.attributes) p.0).1 (holds_middle bytes (at + 1) t.name (written_attributes t.attributes) t.space b)
  where
    four : (a b c d : List ℕ) → a ++ b ++ c ++ d ≡ a ++ (b ++ (c ++ d))
    four a b c d = simp append_assoc
