use Rattle.std.proofs.Common.{◌∙◌, ap, refl}
use Rattle.vtd_text.specs.Fingerprints.{is_taken}
use Rattle.vtd_text.proofs.FingerprintLemmas.{by_fingerprint}
use Rattle.vtd_text.proofs.fingerprints.FingerprintFilter.may_have.Goals as goal

pub returns : goal.returns
returns c = λ key e.
    c.has_mark.ensures ∙ by_fingerprint c.self.inside.slots key _ c.args.fingerprint c.mark_of.result c.bucket_of-first.result e c.mark_of.ensures c.bucket_of-first.ensures.bucket refl ∙ ap (λ s. is_taken s key) c.self.view_is
