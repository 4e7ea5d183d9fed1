use Rattle.std.proofs.Common.{◌≡◌, ◌∙◌, ◌<◌, sym, arith, length, get_or, ◌∷◌}
use Rattle.xml_model.specs.Items.{first_place}
use Rattle.xml_model.specs.Records.{records}
use Rattle.vtd_words.proofs.Fitting.{nest_shown}
use Rattle.vtd_namespaces.specs.Scope.{tags_in}
use Rattle.vtd_namespaces.specs.Offences.{is_twin}
use Rattle.vtd_namespaces.proofs.OffenceLemmas.{scope_attribute, any_found, any_passed}
use Rattle.vtd_namespaces.proofs.offences.has_twin.Goals as goal

pub returns-then-is_twin_at : goal.returns-then-is_twin_at
returns-then-is_twin_at g c = λ nest x xs s e m k a w u near.
    let within : c.loop-number.number < length x.tag.attributes = omega (arith, m, c.loop-number-test.true) in
    let r = scope_attribute _ _ _ _ nest x xs s c.args.first c.loop-number.number a e within in
    let same = c.is_twin_at.ensures nest (x ∷ xs) s a w u near (records nest (first_place _)) (nest_shown _ _ nest s.few s.shown) r.0 (get_or x.tag.attributes c.loop-number.number a) r.1 (k c.loop-number.number a c.loop-number-test.true) in
    any_found (is_twin (tags_in (x ∷ xs)) a) x.tag.attributes c.loop-number.number c.args.count a within c.loop-number-test.true (sym same ∙ c.if-is_twin_at.true)

pub loop-number-preserved : goal.loop-number-preserved
loop-number-preserved g c = λ nest x xs s e m k a w u near.
    let within : c.loop-number.number < length x.tag.attributes = omega (arith, m, c.loop-number-test.true) in
    let r = scope_attribute _ _ _ _ nest x xs s c.args.first c.loop-number.number a e within in
    let same = c.is_twin_at.ensures nest (x ∷ xs) s a w u near (records nest (first_place _)) (nest_shown _ _ nest s.few s.shown) r.0 (get_or x.tag.attributes c.loop-number.number a) r.1 (k c.loop-number.number a c.loop-number-test.true) in
    any_passed (is_twin (tags_in (x ∷ xs)) a) x.tag.attributes c.loop-number.number a within (c.loop-number.invariant nest x xs s e m k a w u near) (sym same ∙ c.if-is_twin_at.false)

pub returns : goal.returns
returns g c = λ nest x xs s e m k a w u near.
    let end : c.loop-number.number ≡ c.args.count = omega (arith, c.loop-number-test.false, c.loop-number.auto.number-end) in
    rw (← end) (sym (c.loop-number.invariant nest x xs s e m k a w u near))
