use Rattle.std.proofs.Common.{◌∙◌, sym}
use Rattle.std.proofs.lemmas.Bool.{eqb-true}
use Rattle.vtd_namespaces.specs.Scope.{tags_in}
use Rattle.vtd_namespaces.proofs.DeclarationLemmas.{some_length}
use Rattle.vtd_namespaces.proofs.ScopeLemmas.{bound_none, bound_xml, bound_by}
use Rattle.vtd_namespaces.proofs.scope.Scope.is_bound.Goals as goal

pub returns-then-is_empty : goal.returns-then-is_empty
returns-then-is_empty g c = λ nest hs s p e f. bound_none c.args.prefix.now p (tags_in hs) e (eqb-true _ _ (sym c.is_empty.ensures ∙ c.if-is_empty.true))

pub returns-then-eq : goal.returns-then-eq
returns-then-eq g c = λ nest hs s p e f. bound_xml c.args.prefix.now p (tags_in hs) e (sym c.eq.ensures ∙ c.if-eq.true)

pub returns : goal.returns
returns g c = λ nest hs s p e f.
    c.is_some.ensures ∙ bound_by _ hs c.args.prefix.now p c.args.declaration e (some_length c.args.prefix.now (sym c.is_empty.ensures ∙ c.if-is_empty.false)) (sym c.eq.ensures ∙ c.if-eq.false) f
