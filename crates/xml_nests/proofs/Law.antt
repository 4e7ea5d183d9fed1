-- A nest that fits is the nest of the bytes that it spells.
use Rattle.std.proofs.Common.{ℕ, Bool, []}
use Rattle.xml_model.specs.Items.{first_place}
use Rattle.xml_model.specs.Nest.{Forest, flat}
use Rattle.xml_model.specs.Accepted.{Accepted, unknown_item, encoding_item, repeats, offences}
use Rattle.xml_nests.specs.Fits.{document_of, Fits}
use Rattle.xml_nests.proofs.Walks.{document_from_nest, document_utf8}
use Rattle.xml_nests.proofs.Shift.{widths_anywhere}
use Rattle.xml_nests.proofs.Lists.{over_none, entities_any, encoding_any, no_names_anywhere, repeats_placeless, offences_placeless}

pub accepted_from_nest : (k : ℕ) (marked : Bool) (nest : Forest) → Fits k nest → Accepted k (document_of marked nest) nest
accepted_from_nest k marked nest h =
    let p = first_place (document_of marked nest) in
    record {
      utf8 = document_utf8 marked nest h.meets_all;
      document = document_from_nest marked nest h.nests h.meets_all h.apart;
      entities = over_none unknown_item entities_any p (flat nest) h.entities;
      encoding = over_none encoding_item encoding_any p (flat nest) h.encoding;
      widths = widths_anywhere nest 0 p h.widths;
      twice = λ m. no_names_anywhere repeats repeats_placeless [] 0 p nest (h.twice m);
      names = λ m. no_names_anywhere offences offences_placeless [] 0 p nest (h.names m);
    }
