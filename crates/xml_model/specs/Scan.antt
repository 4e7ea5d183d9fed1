-- What the records alone show: levels, where a node's records end, what holds it, and which records begin a node. All
-- of it is this project's own. The laws of module `laws` tie it to the tree.
use Rattle.std.specs.Prelude.{◌≡◌, ℕ, zero, suc, ◌+◌, ◌<◌, ◌≤◌, Bool, true, false, cond, not, ◌&&◌, ◌||◌, List, []}
use Rattle.std.specs.Prelude.{◌∷◌, ◌++◌, length, take, drop, leb, nat_le, nat_lt, ◌==◌, Option, Some, None}
use Rattle.std.specs.List.{AllByRecursion, slice_index_or}
use Rattle.xml_model.specs.declared.Kind.{Kind}
use Rattle.xml_model.specs.declared.Kind.TheVariants as kinds
use Rattle.xml_model.specs.Nest.{Forest}
use Rattle.xml_model.specs.Records.{Record, document}
use Rattle.xml_model.specs.Tree.{Thing, all}
use Rattle.xml_model.specs.Records.{kind_number}
use Rattle.xml_model.specs.declared.TokenKind.TheVariants as token

-- the level of a record: a starting tag's depth, 0 for what no element holds, and one more than the depth of anything
-- else. It is the number of elements that hold what the record is of
abbrev pub level_of : Record → ℕ
level_of r = cond (r.token == kind_number token.StartTag) r.depth (cond (r.depth == 255) 0 (suc r.depth))

-- the record with an index
abbrev pub record_at : ℕ → List Record → Record
record_at n rs = slice_index_or rs n document

-- whether a record is at a level or deeper
abbrev pub is_within : ℕ → Record → Bool
is_within level r = nat_le level (level_of r)

-- whether a record is a part of an attribute or a declaration at a level
abbrev pub is_attribute_part : ℕ → Record → Bool
is_attribute_part level r =
    (r.token == kind_number token.AttributeName || r.token == kind_number token.NamespaceName
    || r.token == kind_number token.Value) && level_of r == level

-- the records from one index up to another pass a test
abbrev pub Passes : (Record → Bool) → List Record → ℕ → ℕ → Type 0
Passes pass rs from to = (k : ℕ) → from ≤ k → k < to → pass (record_at k rs) ≡ true

-- Ends.

-- the index, from n on, of the first record of at most a level
abbrev pub end_from : ℕ → ℕ → List Record → ℕ
end_from l n [] = n
end_from l n (r ∷ rs) = cond (leb (level_of r) l) n (end_from l (suc n) rs)

-- the index of the first record past those of the element whose first record has the index n
abbrev pub end_by_scan : ℕ → List Record → ℕ
end_by_scan n rs = end_from (level_of (record_at n rs)) (suc n) (drop (suc n) rs)

-- the type of a text's record, or of a CDATA section's
abbrev pub is_text_token : ℕ → Bool
is_text_token n = n == kind_number token.Text || n == kind_number token.Cdata

-- a record of a text or a CDATA section of a level, as those of one run are
abbrev pub is_run : ℕ → Record → Bool
is_run l r = is_text_token r.token && level_of r == l

-- the index, from n on, of the first record that is not of a run of a level
abbrev pub run_from : ℕ → ℕ → List Record → ℕ
run_from l n [] = n
run_from l n (r ∷ rs) = cond (is_run l r) (run_from l (suc n) rs) n

-- the index of the first record past those of the node of a kind whose first record has the index n
abbrev pub past_by_scan : Kind → ℕ → List Record → ℕ
past_by_scan kinds.Root n rs = length rs
past_by_scan kinds.Element n rs = end_by_scan n rs
past_by_scan kinds.Text n rs = run_from (level_of (record_at n rs)) n (drop n rs)
past_by_scan kinds.Attribute n rs = n + 2
past_by_scan kinds.Instruction n rs = n + 2
past_by_scan kinds.Comment n rs = n + 1

-- Holders.

-- the index n, where its record is a starting tag's of a depth below l, or else d
abbrev pub tag_or : ℕ → ℕ → ℕ → Record → ℕ
tag_or l n d r = cond (r.token == kind_number token.StartTag && nat_lt r.depth l) n d

-- the index, counted from n on, of the last starting tag of a depth below l, or else d
abbrev pub last_tag : ℕ → ℕ → ℕ → List Record → ℕ
last_tag l n d [] = d
last_tag l n d (r ∷ rs) = last_tag l (suc n) (tag_or l n d r) rs

-- the index of the last starting tag before record n whose depth is below that record's level; 0, the root's, where
-- there is none
abbrev pub holder_by_scan : ℕ → List Record → ℕ
holder_by_scan n rs = last_tag (level_of (record_at n rs)) 0 0 (take n rs)

-- Beginnings.

-- the kind of the node that a record of a type may begin
abbrev pub kind_of_token : ℕ → Option Kind
kind_of_token n =
    cond (n == kind_number token.Document) (Some kinds.Root)
    (cond (n == kind_number token.StartTag) (Some kinds.Element)
    (cond (n == kind_number token.AttributeName) (Some kinds.Attribute)
    (cond (is_text_token n) (Some kinds.Text)
    (cond (n == kind_number token.Comment) (Some kinds.Comment)
    (cond (n == kind_number token.Target) (Some kinds.Instruction) None)))))

-- the types of records that always begin a node: a starting tag, an attribute, a comment, an instruction
abbrev pub is_start_token : ℕ → Bool
is_start_token n =
    n == kind_number token.StartTag || n == kind_number token.AttributeName || n == kind_number token.Comment
    || n == kind_number token.Target

-- whether the run that the records begin with has a byte
abbrev pub run_has : ℕ → List Record → Bool
run_has l [] = false
run_has l (r ∷ rs) = is_run l r && (nat_lt 0 r.len || run_has l rs)

-- the level of a record, where it is of a text or a CDATA section: what the next record may join
abbrev pub next_prev : Record → Option ℕ
next_prev r = cond (is_text_token r.token) (Some (level_of r)) None

-- whether a text or a CDATA section of a level joins what is before it
abbrev pub joins_prev : Option ℕ → ℕ → Bool
joins_prev None l = false
joins_prev (Some m) l = m == l

-- whether the record r, with rs after it, begins a node
abbrev pub begins_node : Option ℕ → Record → List Record → Bool
begins_node prev r rs =
    is_start_token r.token
    || (is_text_token r.token && not (joins_prev prev (level_of r)) && run_has (level_of r) (r ∷ rs))

-- the indexes, from n on, of the records that begin a node
abbrev pub starts : ℕ → Option ℕ → List Record → List ℕ
starts n prev [] = []
starts n prev (r ∷ rs) = cond (begins_node prev r rs) (n ∷ []) [] ++ starts (suc n) (next_prev r) rs

-- the indexes of the records that begin a node: the first record, and those after it by the scan
abbrev pub starts_by_scan : List Record → List ℕ
starts_by_scan rs = 0 ∷ starts 1 None (drop 1 rs)

-- whether the second record of a list begins a node
abbrev pub second_begins : List Record → Bool
second_begins (q ∷ r ∷ rest) = begins_node (next_prev q) r rest
second_begins _ = false

-- whether the record with an index begins a node, by it, the record before it and those after it
abbrev pub begins_by_scan : ℕ → List Record → Bool
begins_by_scan zero rs = true
begins_by_scan (suc n) rs = second_begins (drop n rs)

-- the kind of the node that begins at a record, or none
abbrev pub kind_by_scan : ℕ → List Record → Option Kind
kind_by_scan n rs = cond (begins_by_scan n rs) (kind_of_token (record_at n rs).token) None

-- Elements.

-- the fact that a node is an element
abbrev pub IsElement : Thing → Type 0
IsElement (Thing.element t inside) = Unit {0}
IsElement _ = ⊥

-- every element with its first record at an index ends its records at another
abbrev pub EndsAt : Forest → ℕ → ℕ → ℕ → Type 0
EndsAt nest first at past = AllByRecursion (λ e. IsElement e.what → e.index ≡ at → e.past ≡ past) (all nest first)
