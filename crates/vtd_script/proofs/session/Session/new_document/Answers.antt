use Rattle.std.proofs.Common.{◌≡◌, List, ℕ, length, ap, arith}
use Rattle.vtd_script.specs.States.{new_bytes}
use Rattle.vtd_script.specs.Steps.{too_long}
use Rattle.vtd_script.proofs.FileParts.{made_from}
use Rattle.vtd_script.proofs.session.Session.new_document.Goals as goal

pub returns-then-new_length-gt-DOCUMENT_LIMIT : goal.returns-then-new_length-gt-DOCUMENT_LIMIT
returns-then-new_length-gt-DOCUMENT_LIMIT c = λ s. too_long (omega (arith, c.new_length.ensures))

pub returns-in-Ok : goal.returns-in-Ok
returns-in-Ok c =
    let m : length c.in-Ok.bytes.items ≡ length (new_bytes c.args.self.now) = ap (λ (b : List ℕ). length b) c.in-Ok.ensures in
    made_from _ c.in-Ok.bytes.items c.read_document.result c.in-Ok.ensures (omega (arith, c.new_length.ensures, m)) c.read_document.ensures.reads
