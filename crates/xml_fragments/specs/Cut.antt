-- What an element needs, by its tag and by what is in it, under the tags round it; and its tag with all of that. All
-- of
-- it is this project's own: the proofs go by it, and `needed_of` says the same by nodes.
use Rattle.std.specs.Prelude.{◌≡◌, ℕ, Bool, true, false, not, ◌&&◌, ◌||◌, List, [], ◌∷◌, ◌++◌, map, codes, bytes_eq}
use Rattle.std.specs.Prelude.{Option, Some, is_some, filter}
use Rattle.std.specs.List.{list_any}
use Rattle.xml_model.specs.declared.Kind.{Kind}
use Rattle.xml_model.specs.Chars.{prefix_of, after_colon}
use Rattle.xml_model.specs.Items.{Attribute, Tag, is_nil}
use Rattle.xml_model.specs.Nest.{Forest, done, single, empty, element}
use Rattle.xml_model.specs.Records.{declares}
use Rattle.xml_model.specs.Content.{content, value_content}
use Rattle.xml_model.specs.Names.{Expanded, declaration_of, expanded}
use Rattle.xml_model.specs.Accepted.{repeated}
use Rattle.xml_model.specs.Tree.{Entry, Holder, Here, kind_of, nodes, inside_of, element_entry, tag_attributes}

-- what a cut keeps of a node
pub record Shown : Type 0 where
  pub kind : Kind
  pub name : Option Expanded
  pub text : List ℕ

-- that of an entry
abbrev pub shown : Entry → Shown
shown e = record { kind = kind_of e.what; name = expanded e; text = content e.what }

-- whether a tag has a declaration of a prefix; the empty one is the default
abbrev pub has_declaration : List ℕ → Tag → Bool
has_declaration prefix t = is_some (declaration_of prefix t)

-- whether an attribute that is no declaration is written with a prefix
abbrev pub is_written_with : List ℕ → Attribute → Bool
is_written_with prefix a = not (declares a.name) && bytes_eq (prefix_of a.name) prefix

-- whether a tag or one of its attributes is written with a prefix; an attribute without one does not ask for the
-- default
abbrev pub tag_uses : List ℕ → Tag → Bool
tag_uses prefix t =
    bytes_eq (prefix_of t.name) prefix || (not (is_nil prefix) && list_any (is_written_with prefix) t.attributes)

-- whether some name in pieces is written with a prefix that no tag between them and the name declares
abbrev pub uses : List ℕ → Forest → Bool
uses prefix done = false
uses prefix (single x f) = uses prefix f
uses prefix (empty t f) = (not (has_declaration prefix t) && tag_uses prefix t) || uses prefix f
uses prefix (element t inside space f) =
    (not (has_declaration prefix t) && (tag_uses prefix t || uses prefix inside)) || uses prefix f

-- whether some name of an element or in it is bound by a declaration outside of it
abbrev pub is_free : List ℕ → Tag → Forest → Bool
is_free prefix t inside = not (has_declaration prefix t) && (tag_uses prefix t || uses prefix inside)

-- the prefix that a declaration declares
abbrev pub declared_prefix : Attribute → List ℕ
declared_prefix a = after_colon a.name

-- whether a declaration is needed by an element, where these tags stand between the two
abbrev pub is_needed : Tag → Forest → List Tag → Attribute → Bool
is_needed t inside nearer a =
    declares a.name && not (is_nil (value_content a.value)) && not
    (bytes_eq (declared_prefix a) (codes "xml")) && not
    (list_any (has_declaration (declared_prefix a)) nearer) && is_free (declared_prefix a) t inside

-- the declarations that an element needs of the tags round it, the nearest first, in record order
abbrev pub needed : Tag → Forest → List Tag → List Tag → List Attribute
needed t inside nearer [] = []
needed t inside nearer (u ∷ tags) =
    needed t inside (u ∷ nearer) tags ++ filter (is_needed t inside nearer) u.attributes

-- a declaration after one space
abbrev pub spaced : Attribute → Attribute
spaced a = record a { space = codes " " }

-- the tag of the cut element, under the tags round it
abbrev pub cut_tag : Tag → Forest → List Tag → Tag
cut_tag t inside tags = record t { attributes = map spaced (needed t inside [] tags) ++ t.attributes }

-- an element with its attributes and what is in it, in document order
abbrev pub whole_nodes : Here → Tag → Forest → ℕ → List Entry
whole_nodes h t inside stop = element_entry h t inside stop ∷ tag_attributes h t ++ nodes (inside_of h t) inside

-- the tags of elements
abbrev pub tags_held : List Holder → List Tag
tags_held hs = map (λ x. x.tag) hs

-- a tag of an accepted document: no name stands twice, and no declaration of a prefix is empty
pub record Clean (u : Tag) : Type 0 where
  pub once : repeated 0 [] u.attributes ≡ []
  pub filled : (p : List ℕ) (a : Attribute) → declaration_of p u ≡ Some a → is_nil (value_content a.value) ≡ true →
      p ≡ []

-- so each of some tags
abbrev pub AllClean : List Tag → Type 0
AllClean [] = Unit {0}
AllClean (u ∷ tags) = Clean u × AllClean tags
