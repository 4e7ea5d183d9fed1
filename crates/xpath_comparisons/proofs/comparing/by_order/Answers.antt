use Rattle.std.proofs.Common.{◌∙◌, ap, Ok}
use Rattle.xpath_comparisons.specs.Comparing.{beside, numbers_seen}
use Rattle.xpath_comparisons.proofs.ExtentLemmas.{extents_found, left_fault, right_fault}
use Rattle.xpath_comparisons.proofs.comparing.by_order.Goals as goal

pub returns-in-Err : goal.returns-in-Err
returns-in-Err g c = λ ts us h k e.
    left_fault c.args.how (numbers_seen (beside c.args.right.now c.args.left.now) ts) (numbers_seen (beside c.args.left.now c.args.right.now) us)
    c.in-Err.fault (c.in-Err.ensures ts h)

pub returns-in-Err-extent_beside : goal.returns-in-Err-extent_beside
returns-in-Err-extent_beside g c = λ ts us h k e.
    right_fault c.args.how (numbers_seen (beside c.args.right.now c.args.left.now) ts) (numbers_seen (beside c.args.left.now c.args.right.now) us)
    c.in-Err-extent_beside.fault c.in-Ok.one (c.in-Ok.ensures ts h) (c.in-Err-extent_beside.ensures us k)

pub returns-in-Ok-extent_beside : goal.returns-in-Ok-extent_beside
returns-in-Ok-extent_beside g c = λ ts us h k e.
    ap Ok c.compare_extents.ensures
    ∙ extents_found c.args.how e (numbers_seen (beside c.args.right.now c.args.left.now) ts) (numbers_seen (beside c.args.left.now c.args.right.now) us)
    c.in-Ok.one c.in-Ok-extent_beside.other (c.in-Ok.ensures ts h) (c.in-Ok-extent_beside.ensures us k)
