-- Texts whose characters all stand for themselves, and rows of one record.
use Rattle.std.proofs.Common.{◌≡◌, ℕ, Bool, true, false, cond, not, ◌==◌, ◌||◌, List, [], ◌∷◌, ◌++◌, length, ◌+◌, ◌^◌, ◌<◌, ◌≤◌, Option, Some, None, refl, sym, ap, subst, ◌∙◌, append-nil, arith, le-leb}
use Rattle.std.specs.Borrow.{Bor}
use Rattle.std.specs.Prelude.{IfSome, nat_lt}
use Rattle.std.specs.List.{AllByRecursion, list_all}
use Rattle.std.specs.Str.{chars}
use Rattle.std.proofs.lemmas.Bool.{false≢true, and_parts, and_from, lt-leb, ltb-true}
use Rattle.xml_model.specs.declared.Kind.{Kind}
use Rattle.xml_model.specs.declared.Node.{Node}
use Rattle.xml_model.specs.Content.{content}
use Rattle.xml_model.specs.Items.{first_place}
use Rattle.xml_model.specs.Nest.{Forest}
use Rattle.xml_model.specs.Records.{Record, records}
use Rattle.xml_model.specs.Tree.{Entry, Identifies}
use Rattle.xml_model.specs.Scan.{record_at, is_text_token, is_within, level_of}
use Rattle.xml_model.specs.Wholes.{wholes}
use Rattle.vtd_words.specs.Lists.{Lists}
use Rattle.vtd_words.specs.Table.{IsNestOf, Shows, nodes_of}
use Rattle.vtd_words.proofs.Fitting.{nest_shown}
use Rattle.vtd_words.proofs.Shown.{shown_length}
use Rattle.vtd_text.specs.declared.row.RowEnd.{RowEnd}
use Rattle.vtd_text.specs.declared.token.Rule.{Rule}
use Rattle.vtd_text.specs.declared.token.Rule.TheVariants.{Text, Literal, Value}
use Rattle.vtd_text.specs.Raw.{are_plain}
use Rattle.vtd_text.specs.Tokens.{HasContent, is_special}
use Rattle.vtd_text.specs.Joined.{Fine, Gives, IsText, Joined, row, rule_of, slice_of}
use Rattle.vtd_text.specs.Resolved.{IsResolved, IsRow}
use Rattle.vtd_text.proofs.PieceLemmas.{no_content, plain_prefix}
use Rattle.vtd_text.proofs.JoinedLemmas.{row_in, row_none, row_out}
use Rattle.vtd_text.proofs.NodeFacts.{HasRecord, RowOf, record_content, row_told}

fewer : (rule : Rule) (a b c d : Bool) → not (a || b || c || d) ≡ true → (not (c || d) ≡ true) × (not c ≡ true)
fewer rule true b c d h = absurd (false≢true h)
fewer rule false true c d h = absurd (false≢true h)
fewer rule false false true d h = absurd (false≢true h)
fewer rule false false false true h = absurd (false≢true h)
fewer rule false false false false h = (refl, refl)

-- what stands for itself under every rule does so under one
not_special : (rule : Rule) (c : ℕ) → not (c == 9 || c == 10 || c == 13 || c == 38) ≡ true → not (is_special rule c) ≡ true
not_special Text c h = (fewer Text (c == 9) (c == 10) (c == 13) (c == 38) h).0
not_special Literal c h = (fewer Text (c == 9) (c == 10) (c == 13) (c == 38) h).1
not_special Value c h = h

none_special : (rule : Rule) (cs : List ℕ) → are_plain cs ≡ true → list_all (λ c. not (is_special rule c)) cs ≡ true
none_special rule [] h = refl
none_special rule (c ∷ cs) h =
    let p = and_parts (not (c == 9 || c == 10 || c == 13 || c == 38)) (are_plain cs) h in
    and_from (not (is_special rule c)) (list_all (λ d. not (is_special rule d)) cs) (not_special rule c p.0) (none_special rule cs p.1)

-- such a text is its own content
pub plain_itself : (rule : Rule) (cs content : List ℕ) → are_plain cs ≡ true → HasContent rule cs content → content ≡ cs
plain_itself rule cs content h k =
    let p = plain_prefix rule cs [] cs content (sym (append-nil cs)) (none_special rule cs h) k in
    p.whole ∙ ap (λ (l : List ℕ). cs ++ l) (no_content rule [] p.tail refl p.rest) ∙ append-nil cs

-- the content of a record of a text or a CDATA section
gives_plain : (n : ℕ) (slice head : List ℕ) → is_text_token n ≡ true → are_plain (chars slice) ≡ true → Gives (rule_of n) slice head → head ≡ chars slice
gives_plain n slice head t h g = by (n == 5) (n == 11) t g
  where
    by : (a b : Bool) → (a || b) ≡ true → Gives (cond a (Some Text) (cond b (Some Literal) None)) slice head → head ≡ chars slice
    by true b t g = plain_itself Text (chars slice) head h g
    by false true t g = plain_itself Literal (chars slice) head h g
    by false false t g = absurd (false≢true t)

-- ---- rows

-- a row ends before a record that is below its level
pub row_below : (words : List ℕ) (at : ℕ) (end : RowEnd) (r : Record) (level : ℕ) → at < end.past → end.past ≤ length words → ((rs : List Record) → Shows words rs → r ≡ record_at at rs) →
    level ≡ level_of r → nat_lt level end.least ≡ true → (rs : List Record) → Shows words rs → row at end rs ≡ []
row_below words at end r level l m f e b rs s =
    row_out rs at end r l (omega (arith, m, shown_length words rs s)) (f rs s) (lt-leb end.least (level_of r) (omega (arith, e, ltb-true level end.least b)))

-- what is known of a row of one record
pub record Only (words : List ℕ) (at : ℕ) (end : RowEnd) (r : Record) : Type 0 where
  pub inside : at < end.past
  pub within : end.past ≤ length words
  pub first : (rs : List Record) → Shows words rs → r ≡ record_at at rs
  pub level : (rs : List Record) → Shows words rs → is_within end.least (record_at at rs) ≡ true
  pub last : (rs : List Record) → Shows words rs → row (at + 1) end rs ≡ []

-- a run of one record
pub only_of_run : (words : List ℕ) (at past : ℕ) (r : Record) → past ≡ at + 1 → past ≤ length words → ((rs : List Record) → Shows words rs → r ≡ record_at at rs) → Only words at (record { past = past; least = 0 }) r
only_of_run words at past r e m f = record {
  inside = omega (arith, e);
  within = m;
  first = f;
  level = λ rs s. le-leb 0 (level_of (record_at at rs)) (omega arith);
  last = λ rs s. row_none rs (at + 1) (record { past = past; least = 0 }) (omega (arith, e));
}

only_row : (words : List ℕ) (at : ℕ) (end : RowEnd) (r : Record) → Only words at end r → (rs : List Record) → Shows words rs → row at end rs ≡ r ∷ []
only_row words at end r o rs s =
    let f = o.first rs s in
    row_in rs at end r o.inside (omega (arith, o.within, shown_length words rs s)) f (ap (is_within end.least) f ∙ o.level rs s) ∙ ap (λ (xs : List Record). r ∷ xs) (o.last rs s)

-- the record is a text
pub only_text : (bytes words : List ℕ) (at : ℕ) (end : RowEnd) (r : Record) → IsRow bytes words at end → Only words at end r → is_text_token r.token ≡ true → IsText bytes r
only_text bytes words at end r i o t = (subst (λ (xs : List Record). AllByRecursion (Fine bytes) (wholes xs)) (only_row words at end r o i.rs i.shown) i.readable).0 t

-- its characters are the content of the row
pub only_content : (bytes words : List ℕ) (at : ℕ) (end : RowEnd) (r : Record) (text : List ℕ) → Only words at end r → is_text_token r.token ≡ true → text ≡ slice_of bytes r →
    (rs : List Record) → Shows words rs → (cs : List ℕ) → Joined bytes (wholes (row at end rs)) cs → are_plain (chars text) ≡ true → cs ≡ chars text
only_content bytes words at end r text o t e rs s cs j p =
    let k : Joined bytes (r ∷ []) cs = subst (λ (xs : List Record). Joined bytes (wholes xs) cs) (only_row words at end r o rs s) j in
    let q : are_plain (chars (slice_of bytes r)) ≡ true = ap (λ (l : List ℕ). are_plain (chars l)) (sym e) ∙ p in
    k.whole ∙ ap (λ (l : List ℕ). k.head ++ l) k.rest ∙ append-nil k.head ∙ gives_plain r.token (slice_of bytes r) k.head t q k.first ∙ ap chars (sym e)

-- the value of an attribute
pub value_content : (bytes : List ℕ) (r : Record) (text cs : List ℕ) → text ≡ slice_of bytes r → IsResolved bytes Value r cs → are_plain (chars text) ≡ true → cs ≡ chars text
value_content bytes r text cs e k p = plain_itself Value (chars text) cs p (subst (λ (l : List ℕ). HasContent Value (chars l) cs) (sym e) k.resolved)

-- ---- what a call on the row of a node, or on its record, gives

-- what is known of a text that a call answers, where the content is known
abbrev IsItself : List ℕ → Option (Bor (List ℕ)) → Type 0
IsItself cs found = IfSome found (λ text. are_plain (chars text.now) ≡ true → cs ≡ chars text.now)

pub row_plain : (bytes : List ℕ) (lists : Lists) → length bytes < 2 ^ 30 → (node : Node) (at : ℕ) (end : RowEnd) (found : Option (Bor (List ℕ))) →
    ((rs : List Record) → Shows lists.records rs → (cs : List ℕ) → Joined bytes (wholes (row at end rs)) cs → IsItself cs found) →
    (nest : Forest) → IsNestOf bytes lists nest → (e : Entry) → Identifies node.kind node.at e (nodes_of bytes nest) → RowOf bytes lists node.kind at end nest e → IsItself (content e.what) found
row_plain bytes lists few node at end found f nest s e w k =
    f (records nest (first_place bytes)) (nest_shown bytes lists nest few s) (content e.what) (row_told bytes lists few nest s node.kind node.at at end e w k).joined

pub record_plain : (bytes : List ℕ) (lists : Lists) → length bytes < 2 ^ 30 → (kind : Kind) (at k : ℕ) (rule : Rule) (text : List ℕ) → HasRecord kind rule k →
    ((rs : List Record) → Shows lists.records rs → (cs : List ℕ) → IsResolved bytes rule (record_at (at + k) rs) cs → are_plain (chars text) ≡ true → cs ≡ chars text) →
    (nest : Forest) → IsNestOf bytes lists nest → (e : Entry) → Identifies kind at e (nodes_of bytes nest) → are_plain (chars text) ≡ true → content e.what ≡ chars text
record_plain bytes lists few kind at k rule text h f nest s e w =
    f (records nest (first_place bytes)) (nest_shown bytes lists nest few s) (content e.what) (record_content bytes lists nest s kind at k rule h e w)
