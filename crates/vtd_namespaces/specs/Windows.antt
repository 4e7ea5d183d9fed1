-- The declarations of the prefixes of a window of names, by rounds of declarations (this project's own).
use Rattle.std.specs.Prelude.{◌≡◌, ◌≢◌, ℕ, ◌+◌, ◌*◌, ◌<◌, ◌-◌, ◌≤◌, ◌⊎◌, List, [], ◌++◌, length, take, slice_set}
use Rattle.std.specs.Prelude.{codes, encode_utf8_all, Option, None, IfSome, MatchOption}
use Rattle.std.specs.Borrow.{Bor}
use Rattle.std.specs.List.{slice_index_or}
use Rattle.xml_model.specs.declared.TokenKind.TheVariants as token
use Rattle.xml_model.specs.Items.{Tag, first_place}
use Rattle.xml_model.specs.Nest.{Forest}
use Rattle.xml_model.specs.Records.{Record, kind_number, records}
use Rattle.xml_model.specs.Scan.{record_at}
use Rattle.xml_model.specs.Tree.{Holder}
use Rattle.vtd_words.specs.Lists.{Lists}
use Rattle.vtd_words.specs.Table.{Shows, nodes_of}
use Rattle.vtd_text.specs.Joined.{slice_of}
use Rattle.vtd_namespaces.specs.Offences.{AreDeclarations}
use Rattle.vtd_namespaces.specs.Reach.{IsScope}
use Rattle.vtd_namespaces.specs.Rounds.{IsNamed}
use Rattle.vtd_namespaces.specs.Scope.{IsDeclarationIn, IsNearest}

-- a record is of a name that declares nothing and has this prefix, which is not empty
pub record HasPrefix (bytes : List ℕ) (r : Record) (p : List ℕ) : Type 0 where
  pub undeclared : r.token ≢ kind_number token.NamespaceName
  pub long : r.prefix ≢ 0
  pub some : p ≡ [] → ⊥
  pub written : take r.prefix (slice_of bytes r) ≡ encode_utf8_all p

-- a record is of the name of a declaration of the prefix that these bytes are
pub record Declares (bytes : List ℕ) (r : Record) (prefix : List ℕ) : Type 0 where
  pub token : r.token ≡ kind_number token.NamespaceName
  pub name : slice_of bytes r ≡ codes "xmlns:" ++ prefix

-- a round has a prefix that the name with a number declares, which is one of those from a number to another, by the
-- index of its record
pub record IsDeclaredName (bytes : List ℕ) (rs : List Record) (first start end : ℕ) (e : Bor (List ℕ) × ℕ) : Type 0
  where
    pub number : ℕ
    pub low : start ≤ number
    pub high : number < end
    pub index : e.1 ≡ first + 2 * number
    pub declares : Declares bytes (record_at (first + 2 * number) rs) e.0.now

-- one of the first so many entries of a round is a prefix with an index
pub record IsAmong (count : ℕ) (round : List (Bor (List ℕ) × ℕ)) (prefix : List ℕ) (n : ℕ) : Type 0 where
  pub place : ℕ
  pub within : place < count
  pub name : (d : Bor (List ℕ) × ℕ) → (slice_index_or round place d).0.now ≡ prefix
  pub index : (d : Bor (List ℕ) × ℕ) → (slice_index_or round place d).1 ≡ n

-- the first so many entries of a round are the prefixes that the names from a number to another declare
pub record ArePrefixes (bytes : List ℕ) (rs : List Record) (first start end count : ℕ)
    (round : List (Bor (List ℕ) × ℕ)) : Type 0 where
  pub each : (k : ℕ) (d : Bor (List ℕ) × ℕ) → k < count →
      IsDeclaredName bytes rs first start end (slice_index_or round k d)
  pub whole : (j : ℕ) (prefix : List ℕ) → start ≤ j → j < end →
      Declares bytes (record_at (first + 2 * j) rs) prefix → IsAmong count round prefix (first + 2 * j)

-- a name's prefix is put into a round after so many, where it declares one
pub record PutsPrefix (bytes : List ℕ) (r : Record) (at count : ℕ) (old new : List (Bor (List ℕ) × ℕ)) : Type 0 where
  pub entry : Bor (List ℕ) × ℕ
  pub put : new ≡ slice_set old count entry
  pub index : entry.1 ≡ at
  pub declares : Declares bytes r entry.0.now

-- the prefix that a name declares is put into a round after so many, or it declares none, and the round is as before;
-- then it has so many
abbrev pub PutsOrSkips : List ℕ → Record → ℕ → ℕ → ℕ → List (Bor (List ℕ) × ℕ) → List (Bor (List ℕ) × ℕ) → Type 0
PutsOrSkips bytes r at count after old new =
    ((after ≡ count + 1) × PutsPrefix bytes r at count old new) ⊎
    ((after ≡ count) × (new ≡ old) × ((prefix : List ℕ) → Declares bytes r prefix → ⊥))

-- the least index that a prefix has in a round, or none
pub record IsLeastOf (round : List (Bor (List ℕ) × ℕ)) (prefix : List ℕ) (n : ℕ) : Type 0 where
  pub there : IsNamed round prefix n
  pub least : (m : ℕ) → IsNamed round prefix m → n ≤ m

abbrev pub IsLeastIn : List (Bor (List ℕ) × ℕ) → List ℕ → Option ℕ → Type 0
IsLeastIn round prefix r = MatchOption r ((n : ℕ) → IsNamed round prefix n → ⊥) (IsLeastOf round prefix)

-- what was found stays, and else what is found is the least index of a prefix in a round
abbrev pub KeepsOrFinds : List (Bor (List ℕ) × ℕ) → List ℕ → Option ℕ → Option ℕ → Type 0
KeepsOrFinds round prefix old new = MatchOption old (IsLeastIn round prefix new) (λ n. new ≡ old)

-- what was found stays, and else what is found is a tag's declaration of a prefix, or none
abbrev pub KeepsOrDeclares : ℕ → Tag → List ℕ → Option ℕ → Option ℕ → Type 0
KeepsOrDeclares first t p old new = MatchOption old (IsDeclarationIn first t p new) (λ n. new ≡ old)

-- what was found for each name stays
abbrev pub KeepsFound : List (Option ℕ) → List (Option ℕ) → Type 0
KeepsFound old new = (m : ℕ) →
    IfSome (slice_index_or old m None) (λ n. slice_index_or new m None ≡ slice_index_or old m None)

-- what is found are indexes of the names of declarations
abbrev pub AreFound : List ℕ → List (Option ℕ) → Type 0
AreFound words found = (rs : List Record) → Shows words rs → (m : ℕ) →
    IfSome (slice_index_or found m None) (λ n. (record_at n rs).token ≡ kind_number token.NamespaceName)

-- of the names from a number to another it is known which declaration is the nearest one of the prefix; the first
-- name's record has an index
pub record IsWindow (bytes : List ℕ) (lists : Lists) (open_tags : List ℕ) (depth first start end : ℕ)
    (found : List (Option ℕ)) : Type 0 where
  pub nearest : (nest : Forest) (hs : List Holder) → IsScope bytes lists open_tags depth nest hs →
      (j : ℕ) (p : List ℕ) → start ≤ j → j < end →
      HasPrefix bytes (record_at (first + 2 * j) (records nest (first_place bytes))) p →
      IsNearest (nodes_of bytes nest) hs p (slice_index_or found (j - start) None)
  pub declarations : AreDeclarations bytes lists found
  pub room : end ≤ start + length found
