use Rattle.std.proofs.Common.{arith, refl, [], sym, subst}
use Rattle.std.proofs.lemmas.List.{take_all}
use Rattle.xpath_grammar.specs.Cutting.{AreCuts, no_more}
use Rattle.xpath_grammar.proofs.Going.{goes_on, finds, keeps}
use Rattle.xpath_grammar.proofs.scan.operators.Goals as goal
use Rattle.xpath_grammar.proofs.scan.operators.Goals.{then-is_cut+in_ok-push, else-is_cut}

pub loop-i-init : goal.loop-i-init
loop-i-init c = record { scanned = record { level = refl; flag = refl; low = omega arith; place = refl }; cuts = subst (λ z. AreCuts c.args.wanted [] z) (sym c.new-found.ensures.items) (no_more tt) }

pub loop-i-preserved : goal.loop-i-preserved
loop-i-preserved c =
    let ts = c.args.tokens.now in
    let i = c.loop-i.i in
    let t = c.index-tokens-i.result in
    let inside = c.loop-i-test.true in
    let s = c.loop-i.invariant.scanned in
    record {
      scanned = rw (c.depth_after-depth.ensures, c.ends-after.ensures) (goes_on ts i t inside c.index-tokens-i.is s);
      cuts = elim c.if-is_cut.branch [
        | then-is_cut+in_ok-push w ↦
            let h = c.is_cut.ensures.0 w.if-is_cut.true in
            rw (w.found-is, w.in_ok-push.ensures.items) (finds ts i t inside c.index-tokens-i.is s h.0 h.1 c.loop-i.invariant.cuts)
        | else-is_cut w ↦
            rw w.found-is (keeps ts i t inside c.index-tokens-i.is s (λ h. let yes = c.is_cut.ensures.1 h in let no = w.if-is_cut.false in cc) c.loop-i.invariant.cuts)
      ];
    }

pub returns : goal.returns
returns c =
    let ts = c.args.tokens.now in
    let all = take_all c.loop-i.i ts c.loop-i-test.false in
    rw all at c.loop-i.invariant.cuts
