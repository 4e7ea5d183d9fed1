use Rattle.std.proofs.Common.{◌∙◌, ap, sym, subst}
use Rattle.vtd_namespaces.specs.NodeNames.{test_of, HasExpandedName}
use Rattle.vtd_namespaces.specs.Uris.{uri_value}
use Rattle.vtd_namespaces.proofs.UriLemmas.{passes_any, passes_any_in, passes_named, passes_other}
use Rattle.vtd_namespaces.proofs.resolver.Resolver.matches.Goals as goal

pub returns-in-Any-clause-passes : goal.returns-in-Any-clause-passes
returns-in-Any-clause-passes g c = λ nest s e w. passes_any e (test_of c.args.test.now) (subst HasExpandedName (sym w.1) c.requires.named) (ap test_of c.in-Any.is)

pub returns-in-AnyIn-clause-passes : goal.returns-in-AnyIn-clause-passes
returns-in-AnyIn-clause-passes g c = λ nest s e w. passes_any_in e (test_of c.args.test.now) _ (uri_value c.uri.result) c.is_uri.result (subst HasExpandedName (sym w.1) c.requires.named) (ap test_of c.in-AnyIn.is) (c.uri.ensures.uri nest s e w) c.is_uri.ensures

pub returns-then-eq-clause-passes : goal.returns-then-eq-clause-passes
returns-then-eq-clause-passes g c =
    let local = rw c.self.view_is at c.local_of.ensures in
    λ nest s e w.
    passes_named e (test_of c.args.test.now) _ c.local_of.result.now c.in-Named.local.now c.as_bytes.result.now (uri_value c.uri-then-eq.result) c.is_uri-then-eq.result (subst HasExpandedName (sym w.1) c.requires.named) (ap test_of c.in-Named.is) (c.uri-then-eq.ensures.uri nest s e w)
    (local nest s e w) c.as_bytes.ensures.value c.as_bytes.ensures.utf8 (sym c.eq.ensures ∙ c.if-eq.true) c.is_uri-then-eq.ensures

pub returns-else-eq-clause-passes : goal.returns-else-eq-clause-passes
returns-else-eq-clause-passes g c =
    let local = rw c.self.view_is at c.local_of.ensures in
    λ nest s e w.
    passes_other e (test_of c.args.test.now) _ c.local_of.result.now c.in-Named.local.now c.as_bytes.result.now (subst HasExpandedName (sym w.1) c.requires.named) (ap test_of c.in-Named.is) (local nest s e w) c.as_bytes.ensures.value c.as_bytes.ensures.utf8
    (sym c.eq.ensures ∙ c.if-eq.false)
