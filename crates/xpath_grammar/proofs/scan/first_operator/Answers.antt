use Rattle.std.proofs.Common.{arith, refl, take}
use Rattle.std.proofs.lemmas.List.{take_all}
use Rattle.xpath_grammar.proofs.Going.{goes_on, is_other, prefix_more, cut_here}
use Rattle.xpath_grammar.proofs.Clean.{Free-append}
use Rattle.xpath_grammar.proofs.scan.first_operator.Goals as goal

pub loop-i-init : goal.loop-i-init
loop-i-init c = record { scanned = record { level = refl; flag = refl; low = omega arith; place = refl }; free = tt }

pub loop-i-preserved : goal.loop-i-preserved
loop-i-preserved c =
    let ts = c.args.tokens.now in
    let i = c.loop-i.i in
    let t = c.index-tokens-i.result in
    let s = c.loop-i.invariant.scanned in
    record {
      scanned = rw (c.depth_after-depth.ensures, c.ends-after.ensures) (goes_on ts i t c.loop-i-test.true c.index-tokens-i.is s);
      free = rw (prefix_more ts i t c.loop-i-test.true c.index-tokens-i.is) (Free-append c.args.wanted 0 _ (take i ts) _ c.loop-i.invariant.free (is_other c.args.wanted (take i ts) t s (λ h. let yes = c.is_cut.ensures.1 h in let no = c.if-is_cut.false in cc), tt));
    }

pub returns : goal.returns
returns c =
    let ts = c.args.tokens.now in
    let all = take_all c.loop-i.i ts c.loop-i-test.false in
    rw all at c.loop-i.invariant.free

pub returns-then-is_cut : goal.returns-then-is_cut
returns-then-is_cut c =
    let h = c.is_cut.ensures.0 c.if-is_cut.true in
    cut_here c.args.wanted c.args.tokens.now c.loop-i.i c.index-tokens-i.result c.loop-i-test.true c.index-tokens-i.is c.loop-i.invariant.scanned h.0 h.1 c.loop-i.invariant.free
