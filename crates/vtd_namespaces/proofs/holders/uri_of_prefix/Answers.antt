use Rattle.std.proofs.Common.{◌∙◌, sym}
use Rattle.vtd_namespaces.specs.Scope.{tags_in}
use Rattle.vtd_namespaces.proofs.UriLemmas.{bind_xml}
use Rattle.vtd_namespaces.proofs.holders.uri_of_prefix.Goals as goal

pub returns-then-eq : goal.returns-then-eq
returns-then-eq g c = λ nest s hs k h p e. bind_xml c.args.prefix.now p (tags_in hs) e (sym c.eq.ensures ∙ c.if-eq.true)

pub returns : goal.returns
returns g c = λ nest s hs k h p e. c.uri_by.ensures nest s hs p e (c.declaration_above.ensures.found nest s hs k h p e)
