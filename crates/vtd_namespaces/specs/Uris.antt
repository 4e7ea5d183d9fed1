-- The URI that a look-up answers.
use Rattle.std.specs.Prelude.{ℕ, List, Option, Some, None}
use Rattle.xml_model.specs.Names.{xml_uri}
use Rattle.vtd_namespaces.specs.declared.uri.Uri.{Uri}
use Rattle.vtd_namespaces.specs.declared.uri.Uri.TheVariants as uris

-- the URI, or none
abbrev pub uri_value : {W : Type 0} → Uri W → Option (List ℕ)
uri_value uris.None = None
uri_value uris.Xml = Some xml_uri
uri_value (uris.Declared cs) = Some cs
