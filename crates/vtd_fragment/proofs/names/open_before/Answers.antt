use Rattle.vtd_fragment.proofs.names.open_before.Goals as goal

pub loop-index-init : goal.loop-index-init
loop-index-init g c = λ rs s. c.new-open_tags.ensures rs
