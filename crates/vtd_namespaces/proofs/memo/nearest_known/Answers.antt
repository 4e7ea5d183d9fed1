use Rattle.std.proofs.Common.{◌∙◌, ◌-◌, sym, arith}
use Rattle.vtd_namespaces.proofs.DeclarationLemmas.{step_back, step_found, step_missing, all_left, none_left}
use Rattle.vtd_namespaces.proofs.memo.nearest_known.Goals as goal

pub loop-level-init : goal.loop-level-init
loop-level-init g c = record { known = c.requires.known; found = λ nest s hs h o m p e. all_left _ c.args.open_tags.now hs p c.args.count h o m }

pub returns-then-is_some-clause-found : goal.returns-then-is_some-clause-found
returns-then-is_some-clause-found g c = λ nest s hs h o m p e.
    step_found _ c.args.open_tags.now hs p (c.loop-level.level - 1) c.known_declaration-found.result
    (step_back c.args.bytes.now _ c.requires.few nest s c.args.open_tags.now hs p c.loop-level.level c.known_declaration-found.result c.loop-level-test.true (c.loop-level.invariant.found nest s hs h o m p e) (λ rs k at t hold. (rw c.tag_at-tag.ensures at c.known_declaration-found.ensures.found) rs k at t hold p e))
    (sym c.is_some.ensures ∙ c.if-is_some.true)

pub loop-level-preserved : goal.loop-level-preserved
loop-level-preserved g c = record {
  known = c.known_declaration-found.ensures.known;
  found = λ nest s hs h o m p e.
      step_missing _ c.args.open_tags.now hs p (c.loop-level.level - 1) c.known_declaration-found.result
      (step_back c.args.bytes.now _ c.requires.few nest s c.args.open_tags.now hs p c.loop-level.level c.known_declaration-found.result c.loop-level-test.true (c.loop-level.invariant.found nest s hs h o m p e) (λ rs k at t hold. (rw c.tag_at-tag.ensures at c.known_declaration-found.ensures.found) rs k at t hold p e))
      (sym c.is_some.ensures ∙ c.if-is_some.false);
}

pub returns-clause-found : goal.returns-clause-found
returns-clause-found g c = λ nest s hs h o m p e. none_left _ c.args.open_tags.now hs p c.loop-level.level (c.loop-level.invariant.found nest s hs h o m p e) (omega (arith, c.loop-level-test.false))

pub known_declaration-found-requires-clause-room : goal.known_declaration-found-requires-clause-room
known_declaration-found-requires-clause-room g c = rw c.tag_at-tag.ensures (c.requires.tags _)
