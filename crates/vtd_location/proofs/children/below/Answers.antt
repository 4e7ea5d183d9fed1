use Rattle.std.proofs.Common.{◌≡◌, ℕ, ◌+◌, ◌%◌, ◌^◌, ◌<◌, ◌∙◌, ap, arith, drop, length, slice_index, subst, sym}
use Rattle.vtd_words.specs.Lists.{Lists, list_of}
use Rattle.vtd_location.specs.Children.{before_bound, entry_records, first_of, left_in}
use Rattle.vtd_location.proofs.ChildrenOf.{own_never_falls, own_within, own_small, below_told}
use Rattle.vtd_location.proofs.children.below.Goals as goal

pub position_of-at-requires : goal.position_of-at-requires
position_of-at-requires g c = own_never_falls c.args.meter.now.lists c.args.own c.args.deeper c.args.parent c.requires

pub word-requires : goal.word-requires
word-requires g c =
    let within = own_within c.args.meter.now.lists c.args.own c.args.deeper c.args.parent c.position_of-at.result c.requires c.position_of-at.ensures.found in
    subst (λ (x : Lists). c.position_of-at.result < length (list_of c.args.own x)) (sym c.position_of-at.ensures.lists) within

pub overflow_add-at : goal.overflow_add-at
overflow_add-at g c = omega (arith, own_small c.args.meter.now.lists c.args.own c.args.deeper c.args.parent c.position_of-at.result c.requires c.position_of-at.ensures.found)

pub returns-clause-left : goal.returns-clause-left
returns-clause-left g c = λ rs shows.
    let lists = c.args.meter.now.lists in
    let own = c.args.own in
    let deeper = c.args.deeper in
    let at = c.position_of-at.result in
    let first = c.word.result % 2 ^ 32 in
    let bound = c.bound_at-bound.result in
    let one = c.position_of-at.ensures.lists in
    let two = c.word.ensures.lists ∙ one in
    let three = c.bound_at-bound.ensures.lists ∙ two in
    let low : first ≡ slice_index (list_of own lists) at % 2 ^ 32 =
    ap (λ (w : ℕ). w % 2 ^ 32) (c.word.ensures.value ∙ ap (λ (x : Lists). slice_index (list_of own x) at) one) in
    let past : bound ≡ first_of (drop (at + 1) (entry_records own lists)) (length lists.records) =
    c.bound_at-bound.ensures.value ∙ ap (λ (x : Lists). first_of (drop (at + 1) (entry_records own x)) (length x.records)) two in
    subst (λ (x : Lists). left_in x c.from_position.result ≡ before_bound bound (drop first (entry_records deeper x))) three c.from_position.ensures.left
    ∙ below_told lists own deeper c.args.parent at first bound c.requires c.position_of-at.ensures.found low past rs shows
