use Rattle.std.proofs.Common.{[], false}
use Rattle.xml_model.specs.Nest.{done}
use Rattle.xml_nests.specs.Context.{tags_in, plug}
use Rattle.xml_fragments.specs.Cut.{cut_tag}
use Rattle.xml_nests.proofs.Law.{accepted_from_nest}
use Rattle.xml_nests.proofs.Back.{fits_from_accepted}
use Rattle.xml_fragments.proofs.CutFits.{one}
use Rattle.xml_fragments.proofs.CutDocument.{cut_fits}
use Rattle.xml_fragments.proofs.CutEmpty.{alone, alone_fits}
use Rattle.xml_fragments.proofs.laws.cut_is_accepted.Goals as goal

pub returns : goal.returns
returns c = record {
  whole = λ bytes x t inside space a. accepted_from_nest 8 false (one (cut_tag t inside (tags_in [] x)) inside space)
      (cut_fits x t inside space (fits_from_accepted 8 bytes (plug x (one t inside space)) a));
  without_end =
      λ bytes x t a. accepted_from_nest 8 false (alone (cut_tag t done (tags_in [] x)))
      (alone_fits x t (fits_from_accepted 8 bytes (plug x (alone t)) a));
}
