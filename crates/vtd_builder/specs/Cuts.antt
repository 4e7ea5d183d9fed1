-- Where the parts of a tag lie, known by the bytes that end them (this project's own). The tag is one of an accepted
-- document.
use Rattle.std.specs.Prelude.{◌≡◌, ℕ, ◌+◌, ◌≤◌, Bool, true, cond, ◌&&◌, ◌||◌, ◌==◌, not, nat_le, nat_lt, bytes_eq}
use Rattle.std.specs.Prelude.{Result, Ok, Err, List, [], ◌∷◌, ◌++◌, length, drop, codes, encode_utf8_all}
use Rattle.std.specs.List.{list_all}
use Rattle.xml_model.specs.Chars.{size, is_space}
use Rattle.xml_model.specs.Items.{Item, spelling, begins_at, Attribute, quote_char, before_value, written_pieces}
use Rattle.xml_model.specs.Items.{written_attributes, meets_attribute}
use Rattle.xml_chars.specs.Places.{span_from}
use Rattle.xml_items.specs.declared.ItemKind.{ItemKind}
use Rattle.xml_items.specs.declared.ItemKind.TheVariants as kinds
use Rattle.vtd_builder.specs.declared.tags.AttributeCut.{AttributeCut}
use Rattle.xml_items.specs.Shown.{item_kind}
use Rattle.vtd_builder.specs.declared.offers.Beginning.{Beginning}
use Rattle.vtd_builder.specs.declared.offers.Beginning.TheVariants as beginnings
use Rattle.vtd_builder.specs.declared.offers.Reached.{Reached}
use Rattle.vtd_builder.specs.declared.offers.Passed.{Passed}
use Rattle.xml_acceptance.specs.Machine.{item_records, level_after}
use Rattle.vtd_builder.specs.Offered.{CanOffer}

-- no white space, and none of / = >
abbrev pub in_name : ℕ → Bool
in_name b = nat_lt 32 b && not (b == 47) && not (b == 61) && not (b == 62)

-- white space: no other character of a tag is as low outside of its values
abbrev pub is_low : ℕ → Bool
is_low b = nat_le b 32

-- no such byte
abbrev pub is_other : ℕ → ℕ → Bool
is_other byte b = not (b == byte)

-- the characters are at the place, and more bytes follow
pub record Placed (bytes : List ℕ) (at : ℕ) (cs : List ℕ) : Type 0 where
  pub more : List ℕ
  pub here : drop at bytes ≡ encode_utf8_all cs ++ more
  pub within : at ≤ length bytes

-- what follows the name of an attribute
abbrev pub past_name : Attribute → List ℕ
past_name a = a.left ++ (codes "="
    ++ (a.right ++ (quote_char a.quote ∷ (written_pieces a.value ++ quote_char a.quote ∷ []))))

-- an attribute whose name begins at the place
pub record AttributeAt (bytes : List ℕ) (at : ℕ) (a : Attribute) : Type 0 where
  pub meets : meets_attribute a ≡ true
  pub placed : Placed bytes at (a.name ++ past_name a)

-- where it lies, and where it ends
abbrev pub cut_of : ℕ → Attribute → AttributeCut
cut_of at a = record {
  item = record { name = span_from at a.name; value = span_from (at + size (before_value a)) (written_pieces a.value) };
  end = at + size (before_value a) + size (written_pieces a.value) + 1;
}

-- a byte with which what closes a tag begins
abbrev pub closes_tag : ℕ → Bool
closes_tag b = b == 62 || b == 47

-- what closes a tag after its white space: > or />
abbrev pub is_close : List ℕ → Bool
is_close close = bytes_eq close (codes ">") || bytes_eq close (codes "/>")

-- the attributes of a tag are at the place, each after white space, and then the white space and what closes it
pub record AttributesAt (bytes : List ℕ) (at : ℕ) (xs : List Attribute) (space close : List ℕ) : Type 0 where
  pub placed : Placed bytes at (written_attributes xs ++ (space ++ close))
  pub meets : list_all meets_attribute xs ≡ true
  pub blank : list_all is_space space ≡ true
  pub closed : is_close close ≡ true

-- how many records there were, or the number of the one that was refused
abbrev pub counted : Result Reached ℕ → Result ℕ ℕ
counted (Ok r) = Ok r.count
counted (Err k) = Err k

-- what an item of a kind is by its first bytes
abbrev pub beginning_of : ItemKind → Beginning
beginning_of kinds.Text = beginnings.Text
beginning_of kinds.StartTag = beginnings.Tag
beginning_of kinds.EmptyTag = beginnings.Tag
beginning_of kinds.EndTag = beginnings.EndTag
beginning_of _ = beginnings.Mark

-- the same by its first two bytes: a < begins all but a text, and / or one of the marks ! and ? follows it but in a tag
abbrev pub beginning_by : ℕ → ℕ → Beginning
beginning_by first second = cond (first == 60) (cond (second == 47) beginnings.EndTag (cond (second == 33
    || second == 63) beginnings.Mark beginnings.Tag)) beginnings.Text

-- an item begins at a place that is such by its first bytes, and its records can be offered
pub record BeginsAs (bytes : List ℕ) (at level count : ℕ) (beginning : Beginning) (i : Item) : Type 0 where
  pub begins : begins_at bytes at i ≡ true
  pub kind : beginning_of (item_kind i) ≡ beginning
  pub can : CanOffer count (item_records level at i)

-- what was passed is an item that begins at a place, with so many elements open round it
pub record IsPast (at level : ℕ) (i : Item) (p : Passed) : Type 0 where
  pub place : p.at ≡ at + length (spelling i)
  pub inside : p.level ≡ level_after i level

abbrev pub passed_count : Result Passed ℕ → Result ℕ ℕ
passed_count (Ok p) = Ok p.count
passed_count (Err k) = Err k
