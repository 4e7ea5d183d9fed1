use Rattle.std.proofs.Common.{◌≡◌, ◌∙◌, ◌+◌, ◌*◌, ◌-◌, ap, refl, sym, not, length, drop, arith, rules}
use Rattle.std.proofs.lemmas.List.{length-take}
use Rattle.vtd_text.specs.Fingerprints.{is_taken, is_mark_for, mark_of, bucket_of}
use Rattle.vtd_text.proofs.FingerprintLemmas.{by_fingerprint, noted_by, still_taken}
use Rattle.vtd_text.proofs.fingerprints.FingerprintFilter.note_fingerprint.Goals as goal

pub returns-then-has_mark-clause-new : goal.returns-then-has_mark-clause-new
returns-then-has_mark-clause-new c = λ key e.
    sym (ap not (ap (λ s. is_taken s key) (sym c.self.view_is) ∙ sym (by_fingerprint c.self.inside.slots key _ c.args.fingerprint c.mark_of-mark.result c.bucket_of-first.result e c.mark_of-mark.ensures c.bucket_of-first.ensures.bucket refl) ∙ sym c.has_mark.ensures ∙ c.if-has_mark.true))

pub returns-then-has_mark-clause-noted : goal.returns-then-has_mark-clause-noted
returns-then-has_mark-clause-noted c = λ key e.
    ap (λ s. is_taken s key) (sym c.self.view_is) ∙ sym (by_fingerprint c.self.inside.slots key _ c.args.fingerprint c.mark_of-mark.result c.bucket_of-first.result e c.mark_of-mark.ensures c.bucket_of-first.ensures.bucket refl) ∙ sym c.has_mark.ensures ∙ c.if-has_mark.true

pub returns-clause-new : goal.returns-clause-new
returns-clause-new c = λ key e.
    sym (ap not (ap (λ s. is_taken s key) (sym c.self.view_is) ∙ sym (by_fingerprint c.self.inside.slots key _ c.args.fingerprint c.mark_of-mark.result c.bucket_of-first.result e c.mark_of-mark.ensures c.bucket_of-first.ensures.bucket refl) ∙ sym c.has_mark.ensures ∙ c.if-has_mark.false))

pub returns-clause-noted : goal.returns-clause-noted
returns-clause-noted c = λ key e.
    let long : length c.self.inside.slots ≡ 131072 = search rules in
    let first = 16 * c.bucket_of-first.result in
    noted_by c.self.inside.slots key c.args.fingerprint c.mark_of-mark.result c.bucket_of-first.result c.free_place.result c.taken_by.result e c.mark_of-mark.ensures c.bucket_of-first.ensures.bucket
    (omega (arith, c.free_place.ensures, length-take (first + 16 - first) (drop first c.self.inside.slots))) (omega (arith, long, c.bucket_of-first.ensures.within)) c.taken_by.ensures.noted

pub returns-clause-kept : goal.returns-clause-kept
returns-clause-kept c = λ other h.
    still_taken (is_mark_for (mark_of other)) c.self.inside.slots (bucket_of other) _ c.taken_by.result (c.taken_by.ensures.kept (mark_of other) (omega arith)) (ap (λ s. is_taken s other) c.self.view_is ∙ h)
