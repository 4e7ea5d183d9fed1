use Rattle.std.proofs.Common.{◌≡◌, ◌∙◌, length, arith, sym}
use Rattle.std.proofs.lemmas.List.{ext_get_or}
use Rattle.vtd_words.specs.Lists.{list_of}
use Rattle.views.proofs.same_part.Goals as goal

pub returns : goal.returns
returns g c = λ _.
    let one = list_of c.args.part (g.W.Words.lists c.args.one.now) in
    let other = list_of c.args.part (g.V.Words.lists c.args.other.now) in
    let long : length one ≡ length other = sym c.len.ensures ∙ c.if-len.false ∙ c.len-2.ensures in
    ext_get_or 0 one other long (λ i h. c.loop-at.invariant i (omega (arith, h, c.loop-at-test.false, c.len-at-end.ensures)))
