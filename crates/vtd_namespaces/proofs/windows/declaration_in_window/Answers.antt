use Rattle.std.proofs.Common.{subst}
use Rattle.xml_model.specs.Chars.{prefix_of}
use Rattle.xml_model.specs.Items.{first_place}
use Rattle.xml_model.specs.Records.{records}
use Rattle.vtd_words.specs.Packed.{record_of}
use Rattle.vtd_words.proofs.Fitting.{nest_shown}
use Rattle.vtd_namespaces.specs.Windows.{HasPrefix}
use Rattle.vtd_namespaces.proofs.WindowLemmas.{has_prefix}
use Rattle.vtd_namespaces.proofs.windows.declaration_in_window.Goals as goal

pub returns-clause-found : goal.returns-clause-found
returns-clause-found g c = λ nest hs s a named t z.
    let rs = records nest (first_place c.args.scope.now.table.now.bytes) in
    c.reach.ensures.filled.nearest nest hs s c.args.number (prefix_of a.name) c.reach.ensures.start c.reach.ensures.end
    (subst (λ r. HasPrefix c.args.scope.now.table.now.bytes r (prefix_of a.name)) (c.requires.here rs (nest_shown _ _ nest s.few s.shown)) (has_prefix c.args.scope.now.table.now.bytes (record_of c.args.parts) a.name named t z))
