use Rattle.std.proofs.Common.{◌∙◌, ap, subst, sym}
use Rattle.vtd_location.specs.Children.{IsLeveled}
use Rattle.vtd_location.proofs.NavLaws.{is_leveled}
use Rattle.vtd_location.proofs.Nav.meter.Goals as goal

pub returns-clause-leveled : goal.returns-clause-leveled
returns-clause-leveled g c =
    let lists = c.over.ensures.lists ∙ ap (λ w. g.W.Words.lists w) c.words.ensures.value in
    subst IsLeveled (sym lists) (is_leveled c.self.inside.table.bytes (g.W.Words.lists c.self.inside.table.words) c.self.invariant)
