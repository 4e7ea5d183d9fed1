-- The elements that hold what is at a record, with the declarations in their tags (this project's own).
use Rattle.std.specs.Prelude.{◌≡◌, ℕ, ◌+◌, ◌*◌, List, [], ◌∷◌, map, length, Option, Some, None, Contains}
use Rattle.std.specs.Prelude.{slice_get, MatchOption, ⊤}
use Rattle.std.specs.List.{slice_index_or}
use Rattle.xml_model.specs.Items.{Attribute, Tag}
use Rattle.xml_model.specs.Nest.{Forest}
use Rattle.xml_model.specs.Tree.{Thing, Entry, Holder}
use Rattle.xml_model.specs.Content.{value_content}
use Rattle.xml_model.specs.Names.{declaration_of, nearest}

-- an element that holds others is a node, which others hold
pub record HolderIn (es : List Entry) (x : Holder) (xs : List Holder) : Type 0 where
  pub entry : Entry
  pub there : Contains es entry
  pub inside : Forest
  pub what : entry.what ≡ Thing.element x.tag inside
  pub index : entry.index ≡ x.index
  pub holders : entry.holders ≡ xs

-- elements each of which the next ones hold
abbrev pub Chain : List Entry → List Holder → Type 0
Chain es [] = ⊤
Chain es (x ∷ xs) = HolderIn es x xs × Chain es xs

-- a list has the index of the tag of each, by its depth
abbrev pub Opened : List ℕ → List Holder → Type 0
Opened open_tags [] = ⊤
Opened open_tags (x ∷ xs) = (slice_index_or open_tags (length xs) 0 ≡ x.index) × Opened open_tags xs

-- the tags of elements
abbrev pub tags_in : List Holder → List Tag
tags_in hs = map (λ x. x.tag) hs

-- the record with an index is of the name of a tag's declaration of a prefix; the records of the tag's attributes begin
-- at another
pub record IsDeclaredAt (first : ℕ) (t : Tag) (prefix : List ℕ) (n : ℕ) : Type 0 where
  pub declaration : Attribute
  pub found : declaration_of prefix t ≡ Some declaration
  pub number : ℕ
  pub holds : slice_get t.attributes number ≡ Some declaration
  pub index : n ≡ first + 2 * number

-- the record of a tag's declaration of a prefix, or none
abbrev pub IsDeclarationIn : ℕ → Tag → List ℕ → Option ℕ → Type 0
IsDeclarationIn first t prefix r = MatchOption r (declaration_of prefix t ≡ None) (IsDeclaredAt first t prefix)

-- the record with an index is of the name of the nearest declaration of a prefix
pub record IsNearestAt (es : List Entry) (hs : List Holder) (prefix : List ℕ) (n : ℕ) : Type 0 where
  pub entry : Entry
  pub there : Contains es entry
  pub tag : Tag
  pub inside : Forest
  pub what : entry.what ≡ Thing.element tag inside
  pub declared : IsDeclaredAt (entry.index + 1) tag prefix n
  pub nearest_says : nearest prefix (tags_in hs) ≡ Some (value_content declared.declaration.value)

-- the record of the nearest declaration of a prefix, or none
abbrev pub IsNearest : List Entry → List Holder → List ℕ → Option ℕ → Type 0
IsNearest es hs prefix r = MatchOption r (nearest prefix (tags_in hs) ≡ None) (IsNearestAt es hs prefix)
