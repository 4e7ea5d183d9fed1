use Rattle.vtd_history.specs.Versions.{version_at}
use Rattle.vtd_history.proofs.Rings.{kept_fits, kept_done}
use Rattle.vtd_history.proofs.history.History.keep.Goals as goal

pub returns-clause-fits : goal.returns-clause-fits
returns-clause-fits c = kept_fits c.args.self.now c.self.inside.done c.self.inside.undone c.push_front.new.self c.clear.new.self
    c.args.step c.requires.0 (version_at c.args.document.now c.args.edits.now)
    (record { view_is = c.self.view_is; depth = c.self.invariant; pushed = c.push_front.ensures.items; cleared = c.clear.ensures })
    c.requires.1

pub returns-clause-done : goal.returns-clause-done
returns-clause-done c before keeps = kept_done c.args.self.now c.self.inside.done c.self.inside.undone c.push_front.new.self
    c.clear.new.self c.args.step before (version_at c.args.document.now c.args.edits.now)
    (record { view_is = c.self.view_is; depth = c.self.invariant; pushed = c.push_front.ensures.items; cleared = c.clear.ensures })
    keeps
