use Rattle.std.proofs.Common.{◌∙◌, ap, sym, subst}
use Rattle.vtd_namespaces.specs.NodeNames.{test_of, HasExpandedName}
use Rattle.vtd_namespaces.specs.Uris.{uri_value}
use Rattle.vtd_namespaces.proofs.UriLemmas.{passes_any, passes_any_in, passes_named, passes_other}
use Rattle.vtd_namespaces.proofs.nodes.matches.Goals as goal

pub returns-in-Any : goal.returns-in-Any
returns-in-Any g c = λ nest s e w. passes_any e (test_of c.args.test.now) (subst HasExpandedName (sym w.1) c.requires.named) (ap test_of c.in-Any.is)

pub returns-in-AnyIn : goal.returns-in-AnyIn
returns-in-AnyIn g c = λ nest s e w. passes_any_in e (test_of c.args.test.now) _ (uri_value c.uri_of.result) c.is_uri.result (subst HasExpandedName (sym w.1) c.requires.named) (ap test_of c.in-AnyIn.is) (c.uri_of.ensures nest s e w) c.is_uri.ensures

pub returns-then-eq : goal.returns-then-eq
returns-then-eq g c = λ nest s e w.
    passes_named e (test_of c.args.test.now) _ c.local_of.result.now c.in-Named.local.now c.as_bytes.result.now (uri_value c.uri_of-then-eq.result) c.is_uri-then-eq.result (subst HasExpandedName (sym w.1) c.requires.named) (ap test_of c.in-Named.is) (c.uri_of-then-eq.ensures nest s e w)
    (c.local_of.ensures nest s e w) c.as_bytes.ensures.value c.as_bytes.ensures.utf8 (sym c.eq.ensures ∙ c.if-eq.true) c.is_uri-then-eq.ensures

pub returns-else-eq : goal.returns-else-eq
returns-else-eq g c = λ nest s e w.
    passes_other e (test_of c.args.test.now) _ c.local_of.result.now c.in-Named.local.now c.as_bytes.result.now (subst HasExpandedName (sym w.1) c.requires.named) (ap test_of c.in-Named.is) (c.local_of.ensures nest s e w) c.as_bytes.ensures.value c.as_bytes.ensures.utf8
    (sym c.eq.ensures ∙ c.if-eq.false)
