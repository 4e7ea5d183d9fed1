-- Names that need no look at namespaces (this project's own).
use Rattle.std.specs.Prelude.{◌≡◌, ◌≢◌, ℕ, ◌<◌, true, false, List, length, encode_utf8_all}
use Rattle.xml_model.specs.declared.TokenKind.TheVariants as token
use Rattle.xml_model.specs.Chars.{size, prefix_of, is_name, is_qname, has_colon}
use Rattle.xml_model.specs.Records.{Record, kind_number}
use Rattle.xml_model.specs.Scan.{record_at}
use Rattle.vtd_text.specs.Joined.{slice_of}

-- a record is of a qualified name without a prefix
pub record HasPlainName (bytes : List ℕ) (r : Record) : Type 0 where
  pub unprefixed : r.prefix ≡ 0
  pub qualified : (cs : List ℕ) → is_name cs ≡ true → slice_of bytes r ≡ encode_utf8_all cs →
      r.prefix ≡ size (prefix_of cs) → is_qname cs ≡ true

-- a record is of no declaration, and if it is of a name, of a plain one; a target has no colon
pub record IsPlain (bytes : List ℕ) (r : Record) : Type 0 where
  pub undeclared : r.token ≢ kind_number token.NamespaceName
  pub tag : r.token ≡ kind_number token.StartTag → HasPlainName bytes r
  pub attribute : r.token ≡ kind_number token.AttributeName → HasPlainName bytes r
  pub target : r.token ≡ kind_number token.Target → (cs : List ℕ) → slice_of bytes r ≡ encode_utf8_all cs →
      has_colon cs ≡ false

-- all records are
abbrev pub ArePlain : List ℕ → List Record → Type 0
ArePlain bytes rs = (n : ℕ) → n < length rs → IsPlain bytes (record_at n rs)
