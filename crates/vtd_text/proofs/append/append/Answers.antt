use Rattle.std.proofs.Common.{◌∙◌}
use Rattle.vtd_text.proofs.AppendLemmas.{prefix_appended, more_appended, kept_prefix, kept_start}
use Rattle.vtd_text.proofs.append.append.Goals as goal

pub loop-c-init : goal.loop-c-init
loop-c-init g c = record {
  same = prefix_appended _ c.args.left c.next_plain.result.now c.next_plain.new.self _ c.next_plain.utf8 c.next_plain.ensures c.in_ok-push_str.ensures.bytes;
  kept = kept_start _ c.next_plain.result.now _ c.in_ok-push_str.ensures.bytes;
}

pub loop-c-preserved : goal.loop-c-preserved
loop-c-preserved g c =
    let n = c.next_plain-in-Some in
    record {
      same = c.loop-c.invariant.same ∙ more_appended _ c.loop-c.left c.next.new.self n.result.now n.new.self _ _ c.in-Some.c n.utf8 c.in-Some.ensures.steps n.ensures c.in_ok-push.ensures.bytes c.in_ok-push_str-2.ensures.bytes;
      kept = kept_prefix _ _ n.result.now _ (kept_prefix _ _ _ _ c.loop-c.invariant.kept c.in_ok-push.ensures.bytes) c.in_ok-push_str-2.ensures.bytes;
    }
