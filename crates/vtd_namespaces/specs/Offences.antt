-- The offences of a tag's names, name by name.
use Rattle.std.specs.Prelude.{◌≡◌, ◌≢◌, ℕ, ◌<◌, Bool, true, false, not, Option, None, IfSome, ◌&&◌, List, [], ◌∷◌, ◌++◌, length}
use Rattle.std.specs.Prelude.{encode_utf8_all}
use Rattle.std.specs.List.{slice_index_or}
use Rattle.std.specs.Option.{unwrap_or}
use Rattle.xml_model.specs.Chars.{size, prefix_of, is_name, is_qname}
use Rattle.xml_model.specs.Items.{Attribute, Tag}
use Rattle.xml_model.specs.declared.TokenKind.TheVariants as token
use Rattle.xml_model.specs.Nest.{Forest}
use Rattle.xml_model.specs.Records.{Record, declares, kind_number}
use Rattle.xml_model.specs.Tree.{Holder}
use Rattle.vtd_words.specs.Lists.{Lists}
use Rattle.vtd_words.specs.Table.{nodes_of}
use Rattle.vtd_namespaces.specs.Reach.{some_of}
use Rattle.vtd_namespaces.specs.Scope.{IsNearest}
use Rattle.xml_model.specs.Names.{Expanded}
use Rattle.xml_model.specs.Accepted.{expanded_of, seen_with, same_expanded, is_bound}
use Rattle.vtd_text.specs.Fingerprints.{is_taken}
use Rattle.vtd_text.specs.NameRecords.{IsDeclaration}

-- whether an attribute under tags has the expanded name of another; a declaration has none: Namespaces in XML 1.0,
-- section 6.3
abbrev pub is_twin : List Tag → Attribute → Attribute → Bool
is_twin tags a b = not (declares b.name) && same_expanded (expanded_of tags a) (expanded_of tags b)

-- the expanded names seen after more attributes
abbrev pub seen_after : List Tag → List Expanded → List Attribute → List Expanded
seen_after tags seen [] = seen
seen_after tags seen (a ∷ others) = seen_after tags (seen_with tags a seen) others

-- a name that does not offend by itself: a qualified one whose prefix is bound
pub record IsFine (tags : List Tag) (a : Attribute) : Type 0 where
  pub qualified : is_qname a.name ≡ true
  pub bound : not (declares a.name) ≡ true → is_bound (prefix_of a.name) tags ≡ true

-- an attribute's name, by its bytes and the length of its prefix
pub record IsWritten (name : List ℕ) (prefix : ℕ) (a : Attribute) : Type 0 where
  pub bytes : name ≡ encode_utf8_all a.name
  pub prefix_size : prefix ≡ size (prefix_of a.name)
  pub named : is_name a.name ≡ true

-- the key of an attribute in a filter: its URI and the bytes of its local part
abbrev pub key_of : List Tag → Attribute → List ℕ
key_of tags a = unwrap_or (expanded_of tags a).uri [] ++ encode_utf8_all (expanded_of tags a).name

-- a filter has noted an attribute, where it is one with a prefix and no declaration
abbrev pub IsNoted : List Tag → List ℕ → Attribute → Type 0
IsNoted tags slots a = not (declares a.name) ≡ true → (prefix_of a.name ≡ [] → ⊥) →
    is_taken slots (key_of tags a) ≡ true

-- a declaration is the nearest one of an attribute's prefix, where the attribute has a prefix and is no declaration, by
-- the record of its name
abbrev pub NearestOf : List ℕ → Forest → List Holder → Record → Attribute → Option ℕ → Type 0
NearestOf bytes nest hs r a declaration = r.token ≢ kind_number token.NamespaceName → r.prefix ≢ 0 →
    IsNearest (nodes_of bytes nest) hs (prefix_of a.name) declaration

-- a declaration is the nearest one of an attribute's prefix, where the attribute has a prefix and is no declaration
abbrev pub NearestFor : List ℕ → Forest → List Holder → Attribute → Option ℕ → Type 0
NearestFor bytes nest hs a declaration = declares a.name ≡ false → (prefix_of a.name ≡ [] → ⊥) →
    IsNearest (nodes_of bytes nest) hs (prefix_of a.name) declaration

-- notes have the nearest declarations of the prefixes of so many attributes, as far as they go; 0 is for none
abbrev pub AreNearest : List ℕ → Forest → List Holder → List Attribute → ℕ → List ℕ → Type 0
AreNearest bytes nest hs attributes count noted = (m : ℕ) (d : Attribute) → m < count → m < length noted →
    NearestFor bytes nest hs (slice_index_or attributes m d) (some_of (slice_index_or noted m 0))

-- what is noted are declarations, by the records of their names
abbrev pub AreNotes : List ℕ → Lists → List ℕ → Type 0
AreNotes bytes lists noted = (m : ℕ) → IfSome (some_of (slice_index_or noted m 0)) (IsDeclaration bytes lists)

-- what a list has are declarations, by the records of their names
abbrev pub AreDeclarations : List ℕ → Lists → List (Option ℕ) → Type 0
AreDeclarations bytes lists found = (m : ℕ) → IfSome (slice_index_or found m None) (IsDeclaration bytes lists)
