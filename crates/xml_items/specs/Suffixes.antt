-- What private functions promise: what follows each part of an attribute that was read.
use Rattle.std.specs.Prelude.{List, ◌∷◌, ◌++◌, ℕ}
use Rattle.std.specs.Str.{chars}
use Rattle.xml_model.specs.Items.{Attribute, quote_char, written_pieces}
use Rattle.xml_items.specs.declared.tags.AttributeText.{AttributeText}

pub record Suffixes : Type 0 where
  pub after_space : List ℕ
  pub after_name : List ℕ
  pub value : List ℕ
  pub after_value : List ℕ
  pub rest : List ℕ

abbrev pub after_value_of : Attribute → List ℕ → List ℕ
after_value_of a rest = quote_char a.quote ∷ rest

abbrev pub value_of : Attribute → List ℕ → List ℕ
value_of a rest = written_pieces a.value ++ after_value_of a rest

abbrev pub after_name_of : Attribute → List ℕ → List ℕ
after_name_of a rest = a.left ++ (61 ∷ (a.right ++ (quote_char a.quote ∷ value_of a rest)))

abbrev pub after_space_of : Attribute → List ℕ → List ℕ
after_space_of a rest = a.name ++ after_name_of a rest

abbrev pub suffixes : Attribute × List ℕ → Suffixes
suffixes p =
    record {
      after_space = after_space_of p.0 p.1;
      after_name = after_name_of p.0 p.1;
      value = value_of p.0 p.1;
      after_value = after_value_of p.0 p.1;
      rest = p.1;
    }

-- what follows each part of what code hands out
abbrev pub suffixes_seen : AttributeText → Suffixes
suffixes_seen f =
    record {
      after_space = chars f.after_space.now;
      after_name = chars f.after_name.now;
      value = chars f.value.now;
      after_value = chars f.after_value.now;
      rest = chars f.rest.now;
    }
