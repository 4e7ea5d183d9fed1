use Rattle.std.proofs.Common.{arith}
use Rattle.xml_model.specs.Accepted.{repeats}
use Rattle.vtd_namespaces.proofs.NodeLemmas.{none_before_first, no_tag, tag_passed, tag_repeats, all_before}
use Rattle.vtd_namespaces.proofs.repeats.first_repeat.Goals as goal

pub loop-at-init : goal.loop-at-init
loop-at-init g c = λ nest s. none_before_first repeats _

pub loop-at-preserved-then-parts_at : goal.loop-at-preserved-then-parts_at
loop-at-preserved-then-parts_at g c = λ nest s. no_tag c.args.bytes.now _ nest c.requires s c.loop-at.at c.parts_at.result c.parts_at.ensures.parts c.if-parts_at.true (c.loop-at.invariant nest s)

pub returns-in-Some : goal.returns-in-Some
returns-in-Some g c = λ nest s.
    tag_repeats c.args.bytes.now _ nest c.requires s c.loop-at.at c.in-Some.place c.parts_at.result c.repeat_in.result c.parts_at.ensures.parts c.if-parts_at.false (omega (arith, c.len-records.ensures, c.loop-at-test.true)) c.repeat_in.ensures c.in-Some.is (c.loop-at.invariant nest s)

pub loop-at-preserved : goal.loop-at-preserved
loop-at-preserved g c = λ nest s. tag_passed c.args.bytes.now _ nest c.requires s c.loop-at.at c.parts_at.result c.repeat_in.result c.parts_at.ensures.parts c.if-parts_at.false c.repeat_in.ensures c.in_default.is (c.loop-at.invariant nest s)

pub returns : goal.returns
returns g c = λ nest s. all_before repeats c.args.bytes.now _ nest c.requires s c.loop-at.at (omega (arith, c.len-records.ensures, c.loop-at-test.false)) (c.loop-at.invariant nest s)
