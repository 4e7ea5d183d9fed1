use Rattle.xpath_values.proofs.ReadLemmas.{scanned_fits}
use Rattle.xpath_values.proofs.reading.scanned.Goals as goal

pub returns-clause-fits : goal.returns-clause-fits
returns-clause-fits c = scanned_fits c.args.scan c.scan_value.result c.scan_value.ensures
