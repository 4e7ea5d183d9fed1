-- Which URI a prefix is bound to (XPath 1.0, section 1; Namespaces in XML 1.0, section 3).
use Rattle.std.specs.Prelude.{◌≡◌, ℕ, Bool, true, cond, not, ◌&&◌, ◌==◌, List, [], ◌∷◌, length, codes, Option, Some}
use Rattle.std.specs.Prelude.{None, encode_utf8_all}
use Rattle.std.specs.declared.cmp.Ordering.{Ordering}
use Rattle.std.specs.Ordering.{nat_cmp}
use Rattle.std.specs.Cmp.Lexicographic.{slice_cmp}
use Rattle.std.specs.BTreeMap.{insert_entry}
use Rattle.std.specs.List.{list_all}
use Rattle.std.specs.Str.{bytes_eq, chars}
use Rattle.xml_model.specs.Chars.{is_ncname}

-- the text that a row of ASCII characters is
abbrev pub xml : List ℕ
xml = chars (codes "xml")

abbrev pub xmlns : List ℕ
xmlns = chars (codes "xmlns")

abbrev pub xml_uri : List ℕ
xml_uri = chars (codes "http://www.w3.org/XML/1998/namespace")

-- the URI that a prefix was bound to, in a list of prefixes with their URIs
abbrev pub lookup : List (List ℕ × List ℕ) → List ℕ → Option (List ℕ)
lookup [] p = None
lookup (b ∷ bs) p = cond (bytes_eq p b.0) (Some b.1) (lookup bs p)

-- the prefix xml is always bound
abbrev pub uri_in : List (List ℕ × List ℕ) → List ℕ → Option (List ℕ)
uri_in bs p = cond (bytes_eq xml p) (Some xml_uri) (lookup bs p)

-- a prefix that may be bound to a URI: an NCName other than xml and xmlns, and a URI that is not empty
abbrev pub can_bind : List ℕ → List ℕ → Bool
can_bind p u = is_ncname p && not (bytes_eq xml p) && not (bytes_eq xmlns p) && not (length u == 0)

-- each prefix of a list may be bound to its URI
abbrev pub AreBound : List (List ℕ × List ℕ) → Type 0
AreBound bs = list_all (λ b. can_bind b.0 b.1) bs ≡ true

-- the order of prefixes in a list, that of their UTF-8
abbrev pub prefix_order : List ℕ → List ℕ → Ordering
prefix_order p q = slice_cmp nat_cmp (encode_utf8_all p) (encode_utf8_all q)

-- the list with a prefix bound to a URI, in place of an earlier binding
abbrev pub bound_in : List (List ℕ × List ℕ) → List ℕ → List ℕ → List (List ℕ × List ℕ)
bound_in bs p u = insert_entry prefix_order bs p u
