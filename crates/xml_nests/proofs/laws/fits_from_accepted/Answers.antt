use Rattle.xml_nests.proofs.Back.{fits_from_accepted}
use Rattle.xml_nests.proofs.laws.fits_from_accepted.Goals as goal

pub returns : goal.returns
returns c = fits_from_accepted
