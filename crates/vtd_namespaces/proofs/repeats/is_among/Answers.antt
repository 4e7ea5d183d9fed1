use Rattle.std.proofs.Common.{◌∙◌, ap, sym}
use Rattle.vtd_text.specs.Joined.{slice_of}
use Rattle.vtd_namespaces.proofs.RepeatLemmas.{any_here}
use Rattle.vtd_namespaces.proofs.repeats.is_among.Goals as goal

pub returns-then-eq : goal.returns-then-eq
returns-then-eq g c = λ rs s.
    any_here c.args.bytes.now rs c.args.first c.args.name.now _ c.loop-number.number c.args.count c.loop-number-test.true (c.slice_of.ensures ∙ ap (slice_of c.args.bytes.now) (c.parts_at.ensures.parts rs s)) (sym c.eq.ensures ∙ c.if-eq.true)
