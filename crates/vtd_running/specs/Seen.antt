-- The answer of the reading of words, as what they ask for.
use Rattle.vtd_running.specs.Form.{Form, document, generation, index_file, no_form}
use Rattle.vtd_running.specs.declared.words.Words.{Words}
use Rattle.vtd_running.specs.declared.words.Words.TheVariants.{Document, Generation, IndexFile, NoForm}

abbrev pub form_seen : Words → Form
form_seen (Document doc keep) = document doc.now keep
form_seen (IndexFile file keep) = index_file file.now keep
form_seen (Generation count) = generation count
form_seen NoForm = no_form
