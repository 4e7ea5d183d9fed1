use Rattle.std.proofs.Common.{◌∙◌, ap}
use Rattle.vtd_words.specs.Packed.{record_of}
use Rattle.vtd_text.specs.Joined.{slice_of}
use Rattle.vtd_namespaces.proofs.offences.prefix_declaration.Goals as goal

pub returns-clause-found : goal.returns-clause-found
returns-clause-found g c = λ nest hs s a r t p.
    c.declaration_known.ensures.found nest hs s _ (c.prefix_of.ensures a.name (c.slice_of.ensures ∙ ap (λ b. slice_of b (record_of c.args.parts)) c.bytes.ensures.value ∙ r.slice) r.prefix)
