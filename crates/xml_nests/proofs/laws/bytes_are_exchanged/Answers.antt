use Rattle.xml_nests.proofs.Bytes.{exchanged_bytes}
use Rattle.xml_nests.proofs.laws.bytes_are_exchanged.Goals as goal

pub returns : goal.returns
returns c = exchanged_bytes
