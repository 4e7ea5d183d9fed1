use Rattle.std.proofs.Common.{◌≡◌, ◌∷◌, [], ◌++◌, ◌∙◌, arith, sym}
use Rattle.std.proofs.lemmas.Grind.{common_steps}
use Rattle.xpath_steps.proofs.ParentLemmas.{none_gathered, none_waited, parent_gathered}
use Rattle.xpath_steps.proofs.parents.append_parent.Goals as goal

pub returns-in_default-clause-gathered : goal.returns-in_default-clause-gathered
returns-in_default-clause-gathered g c = λ nest s ds h.
    none_gathered nest _ s.accepted.document.nests ds c.args.at _ _ h ((rw c.in_default.is at c.holder_at.ensures.none) nest s)

pub returns-then-not-has-clause-gathered : goal.returns-then-not-has-clause-gathered
returns-then-not-has-clause-gathered g c = λ nest s ds h.
    none_waited nest _ s.accepted.document.nests ds c.args.at _ _ h c.in-Some.holder.node c.in-Some.holder.inside (c.in-Some.ensures.holder nest s)
    (sym c.has.ensures ∙ c.if-not-has.true)

pub returns-clause-gathered : goal.returns-clause-gathered
returns-clause-gathered g c = λ nest s ds h.
    let more : c.push.new.self.items ≡ c.args.held.now.items ++ (c.in-Some.holder.node ∷ []) = grind (arith, common_steps) in
    parent_gathered nest _ s.accepted.document.nests ds c.args.at _ _ h c.in-Some.holder.node c.in-Some.holder.inside (c.in-Some.ensures.holder nest s)
    (sym c.has.ensures ∙ c.if-not-has.false) _ c.put.ensures _ more
