use Rattle.std.proofs.Common.{◌∙◌, sym}
use Rattle.vtd_namespaces.proofs.ScopeLemmas.{declaration_there}
use Rattle.vtd_namespaces.proofs.HolderLemmas.{all_above, none_above, next_above}
use Rattle.vtd_namespaces.proofs.holders.declaration_above.Goals as goal

pub loop-at-init : goal.loop-at-init
loop-at-init g c = record { element = c.requires; above = λ nest s hs k h p e. all_above _ hs p c.args.tag k h }

pub returns-then-is_some-clause-found : goal.returns-then-is_some-clause-found
returns-then-is_some-clause-found g c = λ nest s hs k h p e.
    let known = rw (c.bytes.ensures.value, c.words.ensures.value) at c.declaration_in-found.ensures.found in
    (next_above _ _ c.bytes.ensures.table.few nest s hs p c.loop-at.at c.first_attribute-first.result c.declaration_in-found.result (c.loop-at.invariant.above nest s hs k h p e) c.loop-at-test.true c.first_attribute-first.ensures.index
    (λ rs w start t hold. known rs w start t hold p e)).found (sym c.is_some.ensures ∙ c.if-is_some.true)

pub returns-then-is_some-clause-declares : goal.returns-then-is_some-clause-declares
returns-then-is_some-clause-declares g c = declaration_there _ _ c.bytes.ensures.table c.declaration_in-found.result (rw (← c.words.ensures.value) c.declaration_in-found.ensures.declares)

pub loop-at-preserved : goal.loop-at-preserved
loop-at-preserved g c = record {
  element = c.holder_of-at.ensures.element;
  above = λ nest s hs k h p e.
      let known = rw (c.bytes.ensures.value, c.words.ensures.value) at c.declaration_in-found.ensures.found in
      (next_above _ _ c.bytes.ensures.table.few nest s hs p c.loop-at.at c.first_attribute-first.result c.declaration_in-found.result (c.loop-at.invariant.above nest s hs k h p e) c.loop-at-test.true c.first_attribute-first.ensures.index
      (λ rs w start t hold. known rs w start t hold p e)).missing (sym c.is_some.ensures ∙ c.if-is_some.false) c.holder_of-at.result (c.holder_of-at.ensures.found nest s);
}

pub returns-clause-found : goal.returns-clause-found
returns-clause-found g c = λ nest s hs k h p e. none_above _ _ nest s hs p c.loop-at.at (c.loop-at.invariant.above nest s hs k h p e) c.loop-at-test.false
