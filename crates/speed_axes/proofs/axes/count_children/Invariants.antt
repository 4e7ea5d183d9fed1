use Rattle.speed_axes.proofs.axes.count_children.Given as goal

abbrev pub invariant-loop-at : goal.invariant-loop-at
invariant-loop-at g l = g.N.Names.knows l.names l.fn.nav
