-- What private functions promise: what is known of the prefixes that the elements round an element declare.
use Rattle.std.specs.Prelude.{◌≡◌, ℕ, ◌+◌, ◌<◌, ◌≤◌, ◌⊎◌, ◌==◌, Bool, true, false, ◌&&◌, ◌||◌, nat_le, List, ◌∷◌, ◌++◌}
use Rattle.std.specs.Prelude.{length, encode_utf8_all, bytes_eq, max, Option, Some, None, Contains, MatchOption, cond, option_map}
use Rattle.std.specs.Prelude.{is_some}
use Rattle.std.specs.List.{list_any}
use Rattle.std.specs.BTreeMap.{BTreeMap, get_by}
use Rattle.std.specs.Cmp.Lexicographic.{slice_cmp}
use Rattle.std.specs.Ordering.{nat_cmp}
use denote.Ref.{Bor}
use Rattle.xml_model.specs.Items.{Tag}
use Rattle.xml_model.specs.Names.{declaring}
use Rattle.xml_model.specs.Nest.{Forest}
use Rattle.xml_model.specs.Tree.{Thing, Entry, Holder, kind_of, steps}
use Rattle.xml_model.specs.declared.Kind.TheVariants as kinds
use Rattle.xml_model.specs.declared.Node.{Node}
use Rattle.vtd_words.specs.Lists.{Lists}
use Rattle.vtd_words.specs.Table.{ForEachEntry, nodes_of}
use Rattle.vtd_namespaces.specs.Scope.{tags_in}
use Rattle.xml_fragments.specs.Cut.{has_declaration}
use Rattle.vtd_fragment.specs.Round.{is_hit}
use Rattle.vtd_fragment.specs.declared.prefixes.Declared.{Declared}

-- what a map says of a prefix, by its UTF-8
abbrev pub known : BTreeMap (Bor (List ℕ)) Declared → List ℕ → Option Declared
known m bs = get_by (λ k. slice_cmp nat_cmp bs k.now) m

-- the prefix that a name declares, in UTF-8, or none
abbrev pub IsDeclared : List ℕ → Option (Bor (List ℕ)) → Type 0
IsDeclared name r = MatchOption r ((p : List ℕ) → bytes_eq name (declaring p) ≡ false)
    (λ x. (p : List ℕ) → bytes_eq x.now (encode_utf8_all p) ≡ bytes_eq name (declaring p))

-- a declaration of an element that so many hold
abbrev pub fresh : ℕ → Declared
fresh level = record { level = level; hidden = 0; is_used = false }

-- the same, declared again up to a record
abbrev pub raised : ℕ → Declared → Declared
raised past d = record { level = d.level; hidden = max d.hidden past; is_used = d.is_used }

-- the same, where a name at a record is written with the prefix
abbrev pub marked : ℕ → Declared → Declared
marked at d = record { level = d.level; hidden = d.hidden; is_used = d.is_used || nat_le d.hidden at }

-- the nearest of some elements that declares a prefix
pub record IsNearest (hs : List Holder) (p : List ℕ) (level : ℕ) : Type 0 where
  pub near : List Holder
  pub far : List Holder
  pub holder : Holder
  pub split : hs ≡ near ++ holder ∷ far
  pub many : length far ≡ level
  pub declares : has_declaration p holder.tag ≡ true
  pub nearest : list_any (has_declaration p) (tags_in near) ≡ false

-- of each prefix the nearest of some elements that declares it is known, and nothing else yet
abbrev pub AreNoted : BTreeMap (Bor (List ℕ)) Declared → List Holder → Type 0
AreNoted m hs = (p : List ℕ) → MatchOption (known m (encode_utf8_all p))
    (list_any (has_declaration p) (tags_in hs) ≡ false)
    (λ d. IsNearest hs p d.level × (d.hidden ≡ 0) × (d.is_used ≡ false))

-- an element at or under another declares a prefix, and begins before a record
pub record Redeclares (es : List Entry) (e : Entry) (at : ℕ) (p : List ℕ) (y : Entry) : Type 0 where
  pub there : Contains es y
  pub tag : Tag
  pub inside : Forest
  pub what : y.what ≡ Thing.element tag inside
  pub declares : has_declaration p tag ≡ true
  pub from : e.index ≤ y.index
  pub before : y.index < at

-- what is known of a prefix once the tags before a record and the names before another one are passed: the nearest
-- element that declares it, where the last of those that declare it again ends, and whether a name is bound by it
pub record Passed (es : List Entry) (e : Entry) (tags names : ℕ) (p : List ℕ) (d : Declared) : Type 0 where
  pub nearest : IsNearest e.holders p d.level
  pub hides : (y : Entry) → Redeclares es e tags p y → y.past ≤ d.hidden
  pub hidden : (d.hidden ≡ 0) ⊎ ((y : Entry) × Redeclares es e tags p y × (y.past ≡ d.hidden))
  pub used : d.is_used ≡ true → (x : Entry) × Contains es x × (is_some (steps e.path x.path) ≡ true) ×
      (is_hit p nearest.holder x ≡ true)
  pub all : (x : Entry) → Contains es x → is_some (steps e.path x.path) ≡ true → x.index < names →
      is_hit p nearest.holder x ≡ true → d.is_used ≡ true

-- so of each prefix
abbrev pub ArePassed : BTreeMap (Bor (List ℕ)) Declared → List Entry → Entry → ℕ → ℕ → Type 0
ArePassed m es e tags names = (p : List ℕ) → MatchOption (known m (encode_utf8_all p))
    (list_any (has_declaration p) (tags_in e.holders) ≡ false) (Passed es e tags names p)

-- so of each prefix, where all of an element is passed
abbrev pub AreFound : BTreeMap (Bor (List ℕ)) Declared → List ℕ → Forest → Entry → Type 0
AreFound m bytes nest e = ArePassed m (nodes_of bytes nest) e e.past e.past

-- a name is passed
abbrev pub PassesName : List ℕ → Lists → Node → BTreeMap (Bor (List ℕ)) Declared → BTreeMap (Bor (List ℕ)) Declared →
    Type 0
PassesName bytes lists name old new = ForEachEntry bytes lists name (λ nest x.
    (e : Entry) → Contains (nodes_of bytes nest) e → kind_of e.what ≡ kinds.Element →
    is_some (steps e.path x.path) ≡ true → ArePassed old (nodes_of bytes nest) e name.at name.at →
    ArePassed new (nodes_of bytes nest) e (name.at + 1) (name.at + 1))

-- whether the nearest declaration of a prefix is of a level, and used
abbrev pub is_bound_at : ℕ → Option Declared → Bool
is_bound_at level None = false
is_bound_at level (Some d) = (d.level == level) && d.is_used

-- the prefixes that an element's tag declares are noted as declared again in the element
abbrev pub HidesIn : List ℕ → Lists → Node → BTreeMap (Bor (List ℕ)) Declared → BTreeMap (Bor (List ℕ)) Declared →
    Type 0
HidesIn bytes lists name old new = ForEachEntry bytes lists name (λ nest x.
    (t : Tag) (inside : Forest) → x.what ≡ Thing.element t inside → (p : List ℕ) →
    known new (encode_utf8_all p) ≡ cond (has_declaration p t) (option_map (raised x.past) (known old (encode_utf8_all p)))
    (known old (encode_utf8_all p)))
