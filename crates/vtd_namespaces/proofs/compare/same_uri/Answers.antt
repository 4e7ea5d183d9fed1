use Rattle.std.proofs.Common.{◌≡◌, ◌∙◌, ap, ap₂, sym, bytes_eq, codes, refl}
use Rattle.std.specs.Str.{chars}
use Rattle.xml_model.specs.Names.{xml_uri}
use Rattle.vtd_namespaces.specs.Reach.{same_uri}
use Rattle.vtd_namespaces.specs.Uris.{uri_value}
use Rattle.vtd_namespaces.proofs.ScopeLemmas.{eq_turned}
use Rattle.vtd_namespaces.proofs.compare.same_uri.Goals as goal

xml_chars : chars (codes "http://www.w3.org/XML/1998/namespace") ≡ xml_uri
unfolding chars
xml_chars = refl

pub returns-in-Xml-Declared : goal.returns-in-Xml-Declared
returns-in-Xml-Declared g c =
    c.equals_str.ensures ∙ ap (bytes_eq c.in-Xml-Declared.chars) xml_chars ∙ eq_turned c.in-Xml-Declared.chars xml_uri ∙ sym (ap₂ (λ x y. same_uri (uri_value x) (uri_value y)) c.in-Xml-Declared.is-0 c.in-Xml-Declared.is-1)

pub returns-in-Declared-Xml : goal.returns-in-Declared-Xml
returns-in-Declared-Xml g c =
    c.equals_str-in-Declared-Xml.ensures ∙ ap (bytes_eq c.in-Declared-Xml.chars) xml_chars ∙ sym (ap₂ (λ x y. same_uri (uri_value x) (uri_value y)) c.in-Declared-Xml.is-0 c.in-Declared-Xml.is-1)
