use Rattle.vtd_namespaces.proofs.CheckLemmas.{twice_refused, namespace_refused, accepted_whole}
use Rattle.vtd_namespaces.proofs.check.check_names.Goals as goal

pub returns-in-Some-clause-refused : goal.returns-in-Some-clause-refused
returns-in-Some-clause-refused g c =
    let first = rw (c.bytes.ensures.value, c.words.ensures.value) at c.first_repeat.ensures in
    twice_refused _ _ c.bytes.ensures.table c.in-Some.at c.first_repeat.result c.in-Some.is first

pub returns-in-Some-first_offence-clause-refused : goal.returns-in-Some-first_offence-clause-refused
returns-in-Some-first_offence-clause-refused g c =
    let first = rw (c.bytes.ensures.value, c.words.ensures.value) at c.first_repeat.ensures in
    namespace_refused _ _ c.bytes.ensures.table c.in-Some-first_offence.at c.first_repeat.result c.first_offence.result c.in_default.is c.in-Some-first_offence.is first c.first_offence.ensures

pub returns-clause-accepted : goal.returns-clause-accepted
returns-clause-accepted g c = λ nest s.
    let first = rw (c.bytes.ensures.value, c.words.ensures.value) at c.first_repeat.ensures in
    accepted_whole _ _ nest s c.first_repeat.result c.first_offence.result c.in_default.is c.in_default-first_offence.is (first nest s) (c.first_offence.ensures nest s)
