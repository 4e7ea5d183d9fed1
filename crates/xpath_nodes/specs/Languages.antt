-- Where the attribute stands that says the language of a node: XML 1.0, section 2.12 (this project's own).
use Rattle.std.specs.Prelude.{◌≡◌, ℕ, ◌+◌, ◌*◌, List, Option, Some, None, MatchOption, bytes_eq, codes, find, slice_get}
use Rattle.xml_model.specs.Content.{content, value_content}
use Rattle.xml_model.specs.Items.{Attribute, Tag}
use Rattle.xml_model.specs.declared.Node.{Node}
use Rattle.xml_model.specs.Tree.{Entry, Holder, Identifies}
use Rattle.vtd_namespaces.specs.Scope.{tags_in}
use Rattle.xpath_meaning.specs.Functions.{language}

-- a tag's attribute that is written xml:lang
abbrev pub lang_of : Tag → Option Attribute
lang_of t = find (λ a. bytes_eq a.name (codes "xml:lang")) t.attributes

-- the record with an index is of its name; the records of the tag's attributes begin at another
pub record IsLangAt (first : ℕ) (t : Tag) (n : ℕ) : Type 0 where
  pub attribute : Attribute
  pub found : lang_of t ≡ Some attribute
  pub number : ℕ
  pub holds : slice_get t.attributes number ≡ Some attribute
  pub index : n ≡ first + 2 * number

-- the record of its name, or none
abbrev pub IsLangIn : ℕ → Tag → Option ℕ → Type 0
IsLangIn first t r = MatchOption r (lang_of t ≡ None) (IsLangAt first t)

-- a node stands for the attribute
pub record IsLangNode (es : List Entry) (t : Tag) (node : Node) : Type 0 where
  pub attribute : Attribute
  pub found : lang_of t ≡ Some attribute
  pub entry : Entry
  pub stands : Identifies node.kind node.at entry es
  pub says : content entry.what ≡ value_content attribute.value

-- the node of a tag's attribute, or none
abbrev pub IsLangOf : List Entry → Tag → Option Node → Type 0
IsLangOf es t r = MatchOption r (lang_of t ≡ None) (IsLangNode es t)

-- a node stands for the attribute of the nearest of some elements that have one
pub record IsNearestNode (es : List Entry) (hs : List Holder) (node : Node) : Type 0 where
  pub entry : Entry
  pub stands : Identifies node.kind node.at entry es
  pub says : language (tags_in hs) ≡ Some (content entry.what)

-- the node of that attribute, or none
abbrev pub IsNearestLang : List Entry → List Holder → Option Node → Type 0
IsNearestLang es hs r = MatchOption r (language (tags_in hs) ≡ None) (IsNearestNode es hs)
