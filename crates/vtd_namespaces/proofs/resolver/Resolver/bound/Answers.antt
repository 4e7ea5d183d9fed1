use Rattle.std.proofs.Common.{◌∙◌, sym}
use Rattle.vtd_namespaces.specs.Reach.{reaching}
use Rattle.vtd_namespaces.specs.Scope.{tags_in}
use Rattle.vtd_namespaces.proofs.UriLemmas.{bind_xml}
use Rattle.vtd_namespaces.proofs.resolver.Resolver.bound.Goals as goal

pub returns-then-eq-clause-uri : goal.returns-then-eq-clause-uri
returns-then-eq-clause-uri g c = λ nest s e w p h. bind_xml c.args.prefix.now p (tags_in (reaching e)) h (sym c.eq.ensures ∙ c.if-eq.true)

pub returns-clause-uri : goal.returns-clause-uri
returns-clause-uri g c =
    let uri = rw (c.self.view_is, c.declaration-declaration.ensures.table) at c.uri_by.ensures in
    λ nest s e w p h. uri nest s (reaching e) p h (c.declaration-declaration.ensures.found nest s e w p h)
