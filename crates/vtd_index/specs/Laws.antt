-- What callers read: the laws of module `laws` on index files (this project's own).
use Rattle.std.specs.Prelude.{◌≡◌, ◌⊎◌, ℕ, ◌<◌, ◌^◌, cond, nat_lt, List, length, take}
use Rattle.xml_model.specs.Accepted.{Accepted}
use Rattle.xml_model.specs.Nest.{Forest}
use Rattle.vtd_words.specs.Numbers.{AreBytes}
use Rattle.vtd_index.specs.declared.faults.IndexFault.{IndexFault}
use Rattle.vtd_index.specs.declared.faults.IndexFault.TheVariants.{Short, Size}
use Rattle.vtd_index.specs.declared.head.Version.{Version}
use Rattle.vtd_index.specs.Heads.{document_at}
use Rattle.vtd_index.specs.Index.{index_by, IsFault, IsIndexBy, IsIndexFile, IsIndexOf, IsIndexOneOf}

-- each document that is accepted, of fewer than 2 to the power 30 bytes, has an index file of each version
abbrev pub SomeIndex : Type 0
SomeIndex =
    (version : Version) (bytes : List ℕ) (nest : Forest) → length bytes < 2 ^ 30 → Accepted 8 bytes nest →
    IsIndexBy version (index_by version bytes nest) bytes

-- and it has one alone of each
abbrev pub OneIndex : Type 0
OneIndex = (version : Version) (bytes f g : List ℕ) → IsIndexBy version f bytes → IsIndexBy version g bytes → f ≡ g

-- the index file of a document is that of no other
abbrev pub OneDocument : Type 0
OneDocument = (version : Version) (file a b : List ℕ) → IsIndexBy version file a → IsIndexBy version file b → a ≡ b

-- no file is an index file of both versions
abbrev pub OneVersion : Type 0
OneVersion = (file a b : List ℕ) → IsIndexOneOf file a → IsIndexOf file b → ⊥

-- no file is an index file and has a fault
abbrev pub NotBoth : Type 0
NotBoth = (file : List ℕ) (fault : IndexFault) → IsIndexFile file → IsFault file fault → ⊥

-- a file has one fault at most
abbrev pub OneFault : Type 0
OneFault = (file : List ℕ) (f g : IndexFault) → IsFault file f → IsFault file g → f ≡ g

-- a file is an index file, or has a fault
abbrev pub Answer : List ℕ → Type 0
Answer file = IsIndexFile file ⊎ ((fault : IndexFault) × IsFault file fault)

-- each file is one or has one
abbrev pub SomeAnswer : Type 0
SomeAnswer = (file : List ℕ) → AreBytes file → Answer file

-- a proper prefix of an index file is too short for the head of its version, or has another length than its head tells
abbrev pub PrefixesRefused : Type 0
PrefixesRefused =
    (version : Version) (file bytes : List ℕ) (n : ℕ) → IsIndexBy version file bytes → n < length file →
    IsFault (take n file) (cond (nat_lt n (document_at version)) Short Size)
