use Rattle.std.proofs.Common.{◌∙◌, sym}
use Rattle.vtd_index.proofs.Documents.{loaded_at}
use Rattle.vtd_index.proofs.opening.Loaded.parts.Goals as goal

pub of-requires : goal.of-requires
of-requires c =
    rw (c.document.ensures, c.words.ensures)
    (loaded_at c.as_slice-file.result.now c.in-Ok.head (rw c.as_slice-file.ensures.value c.self.invariant) (sym c.read_head.ensures ∙ c.in-Ok.is))
