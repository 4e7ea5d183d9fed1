use Rattle.std.proofs.Common.{◌∙◌, sym, arith}
use Rattle.vtd_words.specs.Packed.{record_of}
use Rattle.vtd_namespaces.specs.Reach.{reaching}
use Rattle.vtd_namespaces.proofs.OpenLemmas.{tags_within}
use Rattle.vtd_namespaces.proofs.ResolverLemmas.{reached, none_reaches}
use Rattle.vtd_namespaces.proofs.ScopeLemmas.{declaration_there}
use Rattle.vtd_namespaces.proofs.resolver.Resolver.declaration.Goals as goal

pub returns-then-self-eq0-clause-found : goal.returns-then-self-eq0-clause-found
returns-then-self-eq0-clause-found g c =
    rw (← c.self.view_is) (λ nest s e w p h.
    none_reaches _ _ c.self.invariant.few c.self.inside.end c.if-self-eq0.true c.self.invariant.undeclared nest s e w.0 p)

pub nearest_known-requires-clause-bound : goal.nearest_known-requires-clause-bound
nearest_known-requires-clause-bound g c = rw c.words-3.ensures.value c.after_first-past.ensures.bound

pub nearest_known-requires-clause-tags : goal.nearest_known-requires-clause-tags
nearest_known-requires-clause-tags g c =
    rw c.words-3.ensures.value
    (tags_within _ _ c.words.ensures.table c.go_to.new.open_tags c.after_first-past.result c.after_first-past.ensures.room (rw c.words.ensures.value at c.go_to.ensures))

pub returns-clause-found : goal.returns-clause-found
returns-clause-found g c =
    let parts = rw c.words-2.ensures.value at c.parts_at-parts.ensures.parts in
    let opened = rw (c.words.ensures.value, c.after_first-past.ensures.index) at c.go_to.ensures in
    let found = rw (c.bytes.ensures.value, c.words-3.ensures.value) at c.nearest_known.ensures.found in
    rw (← c.self.view_is) (λ nest s e w p h.
    let r =
    reached _ _ c.self.invariant.few nest s c.args.node.kind c.args.node.at c.requires.named e w (record_of c.parts_at-parts.result) parts (omega arith)
    c.go_to.new.open_tags opened in
    found nest s (reaching e) r.chain r.opened (r.many ∙ sym c.reach_of.ensures.count) p h)

pub returns-clause-declares : goal.returns-clause-declares
returns-clause-declares g c =
    rw (← c.self.view_is)
    (declaration_there _ _ c.words.ensures.table c.nearest_known.result (rw c.words-3.ensures.value at c.nearest_known.ensures.declares))
