use Rattle.std.proofs.Common.{◌∙◌, sym}
use Rattle.vtd_namespaces.specs.Scope.{tags_in}
use Rattle.vtd_namespaces.proofs.ScopeLemmas.{uri_xml, uri_found, uri_missing}
use Rattle.vtd_namespaces.proofs.scope.Scope.uri_by.Goals as goal

pub returns-then-eq : goal.returns-then-eq
returns-then-eq g c = λ nest hs s p e h f. uri_xml c.args.prefix.now p (tags_in hs) e h (sym c.eq.ensures ∙ c.if-eq.true)

pub returns-in-Some : goal.returns-in-Some
returns-in-Some g c = λ nest hs s p e h f.
    uri_found c.args.self.now.table.now.bytes nest hs c.args.prefix.now p c.args.declaration c.in-Some.at c.of_declaration.result e h (sym c.eq.ensures ∙ c.if-eq.false) c.in-Some.is f (c.of_declaration.ensures nest s.shown)

pub returns-in-None : goal.returns-in-None
returns-in-None g c = λ nest hs s p e h f. uri_missing _ hs c.args.prefix.now p c.args.declaration e h (sym c.eq.ensures ∙ c.if-eq.false) c.in-None.is f
