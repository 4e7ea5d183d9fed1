use Rattle.std.proofs.Common.{List, ℕ, ◌++◌, ap, ◌∙◌}
use Rattle.std.specs.List.{flat_map}
use Rattle.vtd_listing.specs.Escapes.{doubled_char}
use Rattle.vtd_listing.proofs.EscapeLemmas.{doubled_before, doubled_none, last_run, one_run}
use Rattle.vtd_listing.proofs.values.push_doubled.Goals as goal

pub loop-before-preserved : goal.loop-before-preserved
loop-before-preserved c =
    let rest = c.loop-before.rest.now in
    ap (λ (xs : List ℕ). c.push_text-in-Some.new.lines.items ++ flat_map doubled_char xs) c.split_at-in-Some.ensures.back
    ∙ one_run c.args.line.now.items c.loop-before.line.items _ _ _ _ _ _ _ c.loop-before.invariant (doubled_before rest c.in-Some.before c.in-Some.ensures)
    (c.in_ok-push_text.ensures ∙ ap (λ (xs : List ℕ). c.loop-before.line.items ++ xs) c.split_at.ensures.front) c.in_ok-push_text-2.ensures

pub returns : goal.returns
returns c =
    last_run c.push_text-2.result c.args.line.now.items c.loop-before.line.items c.push_text-2.new.lines.items c.loop-before.rest.now
    (flat_map doubled_char c.loop-before.rest.now) (flat_map doubled_char c.args.text.now)
    c.loop-before.invariant (doubled_none c.loop-before.rest.now c.in_default.ensures) c.push_text-2.ensures
