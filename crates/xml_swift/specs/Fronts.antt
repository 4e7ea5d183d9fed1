-- What private functions promise: what is between two places of some bytes.
use Rattle.std.specs.Prelude.{◌≡◌, ℕ, ◌+◌, true, List, ◌++◌, length, drop, encode_utf8_all}
use Rattle.std.specs.List.{list_all}
use Rattle.xml_model.specs.Chars.{size, is_name, is_blank}
use Rattle.xml_model.specs.Items.{Attribute, meets_attribute, written_attribute, written_attributes}

-- these characters are between the places
pub record Front (bytes : List ℕ) (at end : ℕ) (cs : List ℕ) : Type 0 where
  pub there : drop at bytes ≡ encode_utf8_all cs ++ drop end bytes
  pub ends : end ≡ at + size cs

-- a Name is
pub record HasName (bytes : List ℕ) (at end : ℕ) : Type 0 where
  pub name : List ℕ
  pub fits : is_name name ≡ true
  pub front : Front bytes at end name

-- white space is, or nothing
pub record HasSpace (bytes : List ℕ) (at end : ℕ) : Type 0 where
  pub space : List ℕ
  pub fits : is_blank space ≡ true
  pub front : Front bytes at end space

-- an attribute is, with the white space before it
pub record HasAttribute (bytes : List ℕ) (at end : ℕ) : Type 0 where
  pub attribute : Attribute
  pub meets : meets_attribute attribute ≡ true
  pub front : Front bytes at end (written_attribute attribute)

-- so many attributes are
pub record HasAttributes (bytes : List ℕ) (at end count : ℕ) : Type 0 where
  pub attributes : List Attribute
  pub meets : list_all meets_attribute attributes ≡ true
  pub counted : count ≡ length attributes
  pub front : Front bytes at end (written_attributes attributes)
