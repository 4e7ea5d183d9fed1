use Rattle.std.proofs.Common.{◌∙◌, ◌+◌, ◌<◌, length, refl, arith, take, drop, length-append}
use Rattle.std.proofs.lemmas.List.{length-take, length-drop}
use Rattle.vtd_namespaces.proofs.UndeclaredLemmas.{tag_declares_none}
use Rattle.vtd_namespaces.proofs.WindowLemmas.{found_nothing, found_more, found_all, found_undeclared, prefix_round, known_more, all_kept, kept_along}
use Rattle.vtd_namespaces.proofs.windows.seek_in_tag.Goals as goal

pub returns-then-tag-end-clause-found : goal.returns-then-tag-end-clause-found
returns-then-tag-end-clause-found g c = λ rs s place t hold k p l has.
    found_undeclared (c.args.tag + 1) t p _ (tag_declares_none c.args.bytes.now rs c.args.tag c.args.end place t p (c.requires.undeclared rs s) (omega arith) hold)

pub returns-then-tag-end-clause-kept : goal.returns-then-tag-end-clause-kept
returns-then-tag-end-clause-kept g c = all_kept c.args.found.now

pub loop-round-init : goal.loop-round-init
loop-round-init g c = record {
  round_len = refl;
  len = refl;
  room = omega (arith, c.requires.tag);
  bound = omega (arith, c.requires.tag, c.requires.few);
  known = c.requires.known;
  kept = all_kept c.args.found.now;
  found = λ rs s place t hold k p l has. found_nothing c.args.bytes.now rs (c.args.tag + 1) place t p _ hold;
}

pub loop-round-preserved : goal.loop-round-preserved
loop-round-preserved g c =
    let count = c.gather_prefixes-gathered.result.count in
    let end = c.gather_prefixes-gathered.result.end in
    let round = c.gather_prefixes-gathered.new.round in
    record {
      round_len = length-append c.seek.new.round (drop count round) ∙ omega (arith, c.seek.ensures.round_len, length-take count round, length-drop count round, c.gather_prefixes-gathered.ensures.within, c.gather_prefixes-gathered.ensures.len, c.loop-round.invariant.round_len);
      len = c.seek.ensures.len ∙ c.loop-round.invariant.len;
      room = c.gather_prefixes-gathered.ensures.room;
      bound = c.gather_prefixes-gathered.ensures.bound;
      known = λ rs s m.
          known_more c.args.bytes.now rs (c.args.tag + 1) c.loop-round.start end (take count round) _ _
          (prefix_round c.args.bytes.now rs (c.args.tag + 1) c.loop-round.start end count round (omega (arith, c.gather_prefixes-gathered.ensures.within, c.gather_prefixes-gathered.ensures.len)) (c.gather_prefixes-gathered.ensures.prefixes rs s))
          (c.seek.ensures.there m) (c.loop-round.invariant.known rs s m);
      kept = kept_along c.args.found.now c.loop-round.found c.seek.new.found c.loop-round.invariant.kept c.seek.ensures.kept;
      found = λ rs s place t hold k p l has.
          found_more c.args.bytes.now rs (c.args.tag + 1) c.loop-round.start end t p (take count round) _ _ _ has.some c.gather_prefixes-gathered.ensures.more
          (prefix_round c.args.bytes.now rs (c.args.tag + 1) c.loop-round.start end count round (omega (arith, c.gather_prefixes-gathered.ensures.within, c.gather_prefixes-gathered.ensures.len)) (c.gather_prefixes-gathered.ensures.prefixes rs s))
          (c.gather_prefixes-gathered.ensures.kind rs s) (c.seek.ensures.found rs s k p (omega (arith, l, c.loop-round.invariant.len)) has) (c.loop-round.invariant.found rs s place t hold k p l has);
    }

pub returns-then-gathered-round-clause-found : goal.returns-then-gathered-round-clause-found
returns-then-gathered-round-clause-found g c = λ rs s place t hold k p l has.
    let count = c.gather_prefixes-gathered.result.count in
    let end = c.gather_prefixes-gathered.result.end in
    let round = c.gather_prefixes-gathered.new.round in
    let less : count < length round = omega (arith, c.if-gathered-round.true, length-append c.seek.new.round (drop count round), c.seek.ensures.round_len, length-take count round, length-drop count round) in
    found_all c.args.bytes.now rs (c.args.tag + 1) end t p _ _ (c.gather_prefixes-gathered.ensures.end rs s (omega (arith, less, c.gather_prefixes-gathered.ensures.len)))
    (found_more c.args.bytes.now rs (c.args.tag + 1) c.loop-round.start end t p (take count round) _ _ _ has.some c.gather_prefixes-gathered.ensures.more
    (prefix_round c.args.bytes.now rs (c.args.tag + 1) c.loop-round.start end count round (omega (arith, c.gather_prefixes-gathered.ensures.within, c.gather_prefixes-gathered.ensures.len)) (c.gather_prefixes-gathered.ensures.prefixes rs s))
    (c.gather_prefixes-gathered.ensures.kind rs s) (c.seek.ensures.found rs s k p (omega (arith, l, c.loop-round.invariant.len)) has) (c.loop-round.invariant.found rs s place t hold k p l has))
