use Rattle.std.proofs.Common.{◌+◌, arith}
use Rattle.xml_model.specs.Items.{first_place}
use Rattle.xml_model.specs.Records.{records}
use Rattle.vtd_words.proofs.Fitting.{nest_shown}
use Rattle.vtd_namespaces.proofs.OpenLemmas.{tags_within}
use Rattle.vtd_namespaces.proofs.TagLemmas.{element_offence}
use Rattle.vtd_namespaces.proofs.walk.element_offence.Goals as goal

pub returns-clause-offence : goal.returns-clause-offence
returns-clause-offence g c = λ nest s h.
    let rs = records nest (first_place c.args.table.now.bytes) in
    let shows = nest_shown _ _ nest c.words.ensures.table.few s in
    element_offence _ _ nest c.words.ensures.table.few s h c.args.open_tags.now c.args.at c.args.depth c.tag_offence.result (c.requires.opened rs shows) (c.requires.tag rs shows) (c.requires.depth rs shows) (omega arith) (λ x xs k e start w f. c.tag_offence.ensures.offence nest x xs k e start w f)

pub invariant_of-scope-clause-within : goal.invariant_of-scope-clause-within
invariant_of-scope-clause-within g c = tags_within _ _ c.words.ensures.table c.args.open_tags.now (c.args.at + 1) (omega (arith, c.requires.room)) c.requires.opened
