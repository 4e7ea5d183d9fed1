use Rattle.std.proofs.Common.{◌≡◌, ℕ, arith}
use Rattle.vtd_namespaces.specs.Scope.{tags_in}
use Rattle.vtd_namespaces.specs.Offences.{key_of}
use Rattle.vtd_namespaces.proofs.AttributeLemmas.{some_prefix}
use Rattle.vtd_namespaces.proofs.SieveLemmas.{key_number}
use Rattle.vtd_namespaces.proofs.sieve.note_name.Goals as goal

pub returns-clause-new : goal.returns-clause-new
returns-clause-new g c = λ nest hs s a w near.
    let z : ◌≡◌ {A = ℕ} c.args.prefix_len 0 → ⊥ = λ e. omega (arith, e, c.requires.prefix) in
    c.note_fingerprint.ensures.new (key_of (tags_in hs) a) (key_number (tags_in hs) a c.args.name.now c.args.prefix_len w c.requires.prefix c.number_of_uri-uri.result c.mix_bytes.result _ c.after_prefix.result.now c.number_of_uri-uri.ensures.number
    (c.uri_by.ensures nest hs s _ (c.prefix_of.ensures a.name w.bytes w.prefix_size) (some_prefix _ c.args.prefix_len w.prefix_size z) near) (c.after_prefix.ensures a.name w.bytes w.prefix_size z) c.mix_bytes.ensures.fingerprint)

pub returns-clause-noted : goal.returns-clause-noted
returns-clause-noted g c = λ nest hs s a w near.
    let z : ◌≡◌ {A = ℕ} c.args.prefix_len 0 → ⊥ = λ e. omega (arith, e, c.requires.prefix) in
    c.note_fingerprint.ensures.noted (key_of (tags_in hs) a) (key_number (tags_in hs) a c.args.name.now c.args.prefix_len w c.requires.prefix c.number_of_uri-uri.result c.mix_bytes.result _ c.after_prefix.result.now c.number_of_uri-uri.ensures.number
    (c.uri_by.ensures nest hs s _ (c.prefix_of.ensures a.name w.bytes w.prefix_size) (some_prefix _ c.args.prefix_len w.prefix_size z) near) (c.after_prefix.ensures a.name w.bytes w.prefix_size z) c.mix_bytes.ensures.fingerprint)
