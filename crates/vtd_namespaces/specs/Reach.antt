-- Which declarations reach a node, and how they are looked up (this project's own).
use Rattle.std.specs.Prelude.{◌≡◌, ℕ, ◌+◌, ◌<◌, ◌≤◌, ◌^◌, ◌==◌, List, ◌∷◌, length, Option, Some, None, Bool}
use Rattle.std.specs.Prelude.{true, false, bytes_eq, cond, zero, suc, take, drop, encode_utf8_all, IfSome}
use Rattle.std.specs.List.{slice_index_or}
use Rattle.xml_model.specs.declared.TokenKind.TheVariants as token
use Rattle.xml_model.specs.Items.{Tag}
use Rattle.xml_model.specs.Scan.{record_at}
use Rattle.xml_model.specs.declared.Kind.TheVariants as kinds
use Rattle.xml_model.specs.Levels.{is_tag}
use Rattle.xml_model.specs.Nest.{Forest}
use Rattle.xml_model.specs.Records.{Record, kind_number}
use Rattle.xml_model.specs.Tree.{Thing, Entry, Holder}
use Rattle.vtd_words.specs.Lists.{Lists}
use Rattle.vtd_words.specs.Table.{IsNestOf, IsNodeOf, Shows, nodes_of}
use Rattle.vtd_namespaces.specs.OpenTags.{open_before}
use Rattle.vtd_namespaces.specs.NameRecords.{AreAttributeRecords}
use Rattle.vtd_namespaces.specs.Scope.{Chain, Opened, IsDeclarationIn}
use Rattle.vtd_namespaces.specs.Undeclared.{NoneDeclared}

-- the elements whose declarations reach a thing at a record, which others hold
abbrev pub with_own : Thing → ℕ → List Holder → List Holder
with_own (Thing.element t inside) at hs = record { tag = t; index = at } ∷ hs
with_own _ at hs = hs

-- the elements whose declarations reach a node: itself, where it is one, and those that hold it
abbrev pub reaching : Entry → List Holder
reaching e = with_own e.what e.index e.holders

-- an element of a table, by its first record
abbrev pub IsElementAt : List ℕ → Lists → ℕ → Type 0
IsElementAt bytes lists at = IsNodeOf bytes lists (record { kind = kinds.Element; at = at })

-- how many elements' declarations reach an element or an attribute, by its record
abbrev pub reach_of : Record → ℕ
reach_of r = cond (is_tag r) (r.depth + 1) (cond (r.depth == 255) 0 (r.depth + 1))

-- in a nest of a table these elements hold what is looked at, the nearest one first, which is at a depth; a list has
-- the indexes of their tags
pub record IsScope (bytes : List ℕ) (lists : Lists) (open_tags : List ℕ) (depth : ℕ) (nest : Forest)
    (hs : List Holder) : Type 0 where
  pub few : length bytes < 2 ^ 30
  pub shown : IsNestOf bytes lists nest
  pub chain : Chain (nodes_of bytes nest) hs
  pub opened : Opened open_tags hs
  pub many : length hs ≡ depth + 1

-- what a number stands for that is no index of a name: 0 is for none
abbrev pub some_of : ℕ → Option ℕ
some_of zero = None
some_of (suc n) = Some (suc n)

-- the record of the name of a tag's declaration of the prefix that the bytes at a place are, or none, by the tag's
-- record
pub record IsKnown (bytes words : List ℕ) (tag offset len declaration : ℕ) : Type 0 where
  pub found : (rs : List Record) → Shows words rs → (at : ℕ) (t : Tag) →
      AreAttributeRecords bytes rs (tag + 1) at t.attributes →
      (p : List ℕ) → take len (drop offset bytes) ≡ encode_utf8_all p →
      IsDeclarationIn (tag + 1) t p (some_of declaration)
  pub declares : (rs : List Record) → Shows words rs →
      IfSome (some_of declaration) (λ n. (record_at n rs).token ≡ kind_number token.NamespaceName)

-- what a memo notes at each of its places, where it is not free, is known
abbrev pub IsMemo : List ℕ → List ℕ → List ℕ → List ℕ → List ℕ → List ℕ → Type 0
IsMemo bytes words tags offsets lens declarations = (k : ℕ) → 0 < slice_index_or tags k 0 →
    IsKnown bytes words (slice_index_or tags k 0) (slice_index_or offsets k 0) (slice_index_or lens k 0)
    (slice_index_or declarations k 0)

-- the open tags of a resolver are those after the records that it passed, it knows where the declarations end, and its
-- memo is of the document
pub record IsResolver (bytes : List ℕ) (lists : Lists) (open_tags : List ℕ) (passed end : ℕ)
    (tags offsets lens declarations : List ℕ) : Type 0 where
  pub few : length bytes < 2 ^ 30
  pub within : passed ≤ length lists.records
  pub opened : (rs : List Record) → Shows lists.records rs → open_tags ≡ open_before passed rs
  pub undeclared : NoneDeclared lists.records end
  pub known : IsMemo bytes lists.records tags offsets lens declarations

-- whether two expanded names have one URI, or none: Namespaces in XML 1.0, section 2.1
abbrev pub same_uri : Option (List ℕ) → Option (List ℕ) → Bool
same_uri None None = true
same_uri (Some a) (Some b) = bytes_eq a b
same_uri _ _ = false
