-- Cut elements, computed from the definitions.
use Rattle.std.proofs.Common.{◌≡◌, ℕ, List, [], ◌∷◌, map, refl}
use Rattle.std.specs.Prelude.{codes}
use Rattle.xml_model.specs.Chars.{prefix_of}
use Rattle.xml_model.specs.Items.{literal, Quote, Attribute, Tag, written_empty, written_start}
use Rattle.xml_model.specs.Nest.{done, empty}
use Rattle.xml_model.specs.Records.{declares}
use Rattle.xml_model.specs.Content.{value_content}
use Rattle.xml_fragments.specs.Cut.{cut_tag}

-- an attribute behind one space, in double quotes
abbrev with : List ℕ → List ℕ → Attribute
with name value = record { space = codes " "; name = name; left = []; right = []; quote = Quote.double; value = map literal value }

abbrev tag : List ℕ → List Attribute → Tag
tag name others = record { name = name; attributes = others; space = [] }

-- of two declarations the one that is used
order : written_empty
    (cut_tag (tag (codes "c:item") (with (codes "sku") (codes "B2") ∷ with (codes "cents") (codes "399") ∷ [])) done
    (tag (codes "po") (with (codes "xmlns") (codes "urn:po") ∷ with (codes "xmlns:c") (codes "urn:c") ∷ []) ∷ []))
    ≡ codes "<c:item xmlns:c=\"urn:c\" sku=\"B2\" cents=\"399\"/>"
unfolding declares value_content prefix_of
order = refl

-- the default, for the element and not for its attribute
default : written_empty
    (cut_tag (tag (codes "b") (with (codes "c") (codes "1") ∷ [])) done (tag (codes "a") (with (codes "xmlns") (codes "u") ∷ []) ∷ []))
    ≡ codes "<b xmlns=\"u\" c=\"1\"/>"
unfolding declares value_content prefix_of
default = refl

-- a nearer declaration, an empty one, one that stands inside, and xml
nearer : written_start
    (cut_tag (tag (codes "p:e") [])
    (empty (tag (codes "q:f") (with (codes "xmlns:q") (codes "3") ∷ with (codes "xml:lang") (codes "en") ∷ [])) done)
    (tag (codes "b") (with (codes "xmlns") [] ∷ with (codes "xmlns:p") (codes "2") ∷ []) ∷ tag (codes "a")
    (with (codes "xmlns:p") (codes "1") ∷ with (codes "xmlns:q") (codes "1") ∷ with (codes "xmlns") (codes "1") ∷ with
    (codes "xmlns:xml") (codes "x") ∷ []) ∷ []))
    ≡ codes "<p:e xmlns:p=\"2\">"
unfolding declares value_content prefix_of
nearer = refl

-- the outer tag's declarations come first
record_order : written_start (cut_tag (tag (codes "e") []) (empty (tag (codes "p:f") (with (codes "q:g") (codes "3") ∷ [])) done)
    (tag (codes "b") (with (codes "xmlns:p") (codes "2") ∷ []) ∷ tag (codes "a")
    (with (codes "xmlns:q") (codes "1") ∷ with (codes "xmlns") (codes "0") ∷ []) ∷ []))
    ≡ codes "<e xmlns:q=\"1\" xmlns=\"0\" xmlns:p=\"2\">"
unfolding declares value_content prefix_of
record_order = refl
