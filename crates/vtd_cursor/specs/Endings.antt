-- Where pieces of a document begin and end, by its records and its bytes (this project's own): what private functions
-- promise.
use Rattle.std.specs.Prelude.{◌≡◌, ℕ, zero, suc, ◌+◌, ◌<◌, ◌≤◌, Bool, true, false, cond, not, ◌||◌, ◌==◌, List, length}
use Rattle.xml_model.specs.Items.{Tag, Item, leaf, end_tag, begins_at, spelling}
use Rattle.xml_model.specs.Records.{Record, kind_number}
use Rattle.xml_model.specs.Tree.{one_if}
use Rattle.xml_model.specs.Scan.{record_at}
use Rattle.xml_items.specs.Reading.{tag_item}
use Rattle.vtd_words.specs.Table.{Shows}
use Rattle.xml_model.specs.declared.TokenKind.TheVariants as token

-- how many bytes of a piece are before the token of its first record: `<` of a tag, `<![CDATA[`, `<!--`, `<?`
abbrev pub opening : ℕ → ℕ
opening n =
    cond (n == kind_number token.StartTag) 1
    (cond (n == kind_number token.Cdata) 9
    (cond (n == kind_number token.Comment) 4 (cond (n == kind_number token.Target) 2 0)))

-- how many bytes of a piece are after the token of its last record: the quote of a value, `?>`, `]]>`, `-->`
abbrev pub closing : ℕ → ℕ
closing n =
    cond (n == kind_number token.Value) 1
    (cond (n == kind_number token.Data) 2
    (cond (n == kind_number token.Cdata || n == kind_number token.Comment) 3 0))

-- where the piece ends whose last record this is
abbrev pub record_end : Record → ℕ
record_end r = r.offset + r.len + closing r.token

-- whether a record is the last of some tag: its name, or the value of an attribute or a declaration
abbrev pub ends_tag : ℕ → Bool
ends_tag n = n == kind_number token.StartTag || n == kind_number token.Value

-- an end tag at a place
pub record EndTagAt (bytes : List ℕ) (at : ℕ) : Type 0 where
  pub name : List ℕ
  pub space : List ℕ
  pub begins : begins_at bytes at (end_tag name space) ≡ true

-- so many end tags follow one another, from a place to another
abbrev pub EndTags : List ℕ → ℕ → ℕ → ℕ → Type 0
EndTags bytes zero from to = from ≡ to
EndTags bytes (suc n) from to =
    (tag : EndTagAt bytes from) × EndTags bytes n (from + length (spelling (end_tag tag.name tag.space))) to

-- some place where so many end tags end
pub record HasEndTags (bytes : List ℕ) (n from : ℕ) : Type 0 where
  pub to : ℕ
  pub hold : EndTags bytes n from to

-- of the starting tags up to record n, that with the highest index
pub record IsNearestTag (rs : List Record) (n m : ℕ) : Type 0 where
  pub within : m ≤ n
  pub tag : (record_at m rs).token ≡ kind_number token.StartTag
  pub none : (k : ℕ) → m < k → k ≤ n → (record_at k rs).token ≡ kind_number token.StartTag → ⊥

-- the tag that record n is of, as its name or in one of its attributes: which item is there, and where
pub record IsTagOf (bytes : List ℕ) (rs : List Record) (n at : ℕ) (closed : Bool) (t : Tag) : Type 0 where
  pub first : ℕ
  pub nearest : IsNearestTag rs n first
  pub offset : (record_at first rs).offset ≡ at + 1
  pub begins : begins_at bytes at (tag_item closed t) ≡ true

-- some tag that record n is of
pub record HasTagOf (bytes words : List ℕ) (n : ℕ) : Type 0 where
  pub rs : List Record
  pub shows : Shows words rs
  pub at : ℕ
  pub closed : Bool
  pub tag : Tag
  pub is : IsTagOf bytes rs n at closed tag

-- an item that begins with a <: a tag of any kind
abbrev pub is_tag_item : Item → Bool
is_tag_item (leaf x) = false
is_tag_item _ = true

-- some tag at a place
pub record HasTagAt (bytes : List ℕ) (at : ℕ) : Type 0 where
  pub item : Item
  pub tags : is_tag_item item ≡ true
  pub begins : begins_at bytes at item ≡ true

-- the piece whose last record has an index: where it ends, and how many elements are open there from a level on
pub data IsLastPiece (bytes : List ℕ) (rs : List Record) (level last place opened : ℕ) : Type 0 where
  in_leaf : ends_tag (record_at last rs).token ≡ false → place ≡ record_end (record_at last rs) →
      (record_at last rs).depth + 1 ≡ level + opened → IsLastPiece bytes rs level last place opened
  in_tag : (at : ℕ) (closed : Bool) (t : Tag) → ends_tag (record_at last rs).token ≡ true →
      IsTagOf bytes rs last at closed t → place ≡ at + length (spelling (tag_item closed t)) →
      (record_at last rs).depth + one_if (not closed) ≡ level + opened → IsLastPiece bytes rs level last place opened

-- some piece whose last record has an index
pub record HasLastPiece (bytes words : List ℕ) (last : ℕ) : Type 0 where
  pub rs : List Record
  pub shows : Shows words rs
  pub level : ℕ
  pub place : ℕ
  pub opened : ℕ
  pub piece : IsLastPiece bytes rs level last place opened

-- after the first c records end tags alone are up to a place, for the elements that are open from a level on
pub record IsEnding (bytes : List ℕ) (rs : List Record) (level stop c : ℕ) : Type 0 where
  pub last : ℕ
  pub count : c ≡ suc last
  pub place : ℕ
  pub opened : ℕ
  pub piece : IsLastPiece bytes rs level last place opened
  pub tags : EndTags bytes opened place stop

-- such an ending after the records up to one with an index
pub record HasEnding (bytes words : List ℕ) (level last : ℕ) : Type 0 where
  pub rs : List Record
  pub shows : Shows words rs
  pub stop : ℕ
  pub is : IsEnding bytes rs level stop (suc last)
