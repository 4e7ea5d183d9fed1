use Rattle.std.proofs.Common.{◌∙◌, sym}
use Rattle.xpath_nodes.proofs.LanguageLemmas.{all_above, none_above, next_above}
use Rattle.xpath_nodes.proofs.languages.language_above.Goals as goal

pub loop-at-init : goal.loop-at-init
loop-at-init g c = record { element = c.requires; above = λ nest s hs k h. all_above _ hs c.args.tag k h }

pub returns-then-is_some-clause-found : goal.returns-then-is_some-clause-found
returns-then-is_some-clause-found g c = λ nest s hs k h.
    (next_above _ hs c.loop-at.at c.language_of_tag-found.result (c.loop-at.invariant.above nest s hs k h) c.loop-at-test.true
    (c.language_of_tag-found.ensures.found nest s)).found (sym c.is_some.ensures ∙ c.if-is_some.true)

pub loop-at-preserved : goal.loop-at-preserved
loop-at-preserved g c = record {
  element = c.holder_of-at.ensures.element;
  above = λ nest s hs k h.
      (next_above _ hs c.loop-at.at c.language_of_tag-found.result (c.loop-at.invariant.above nest s hs k h) c.loop-at-test.true
      (c.language_of_tag-found.ensures.found nest s)).missing (sym c.is_some.ensures ∙ c.if-is_some.false)
      c.holder_of-at.result (c.holder_of-at.ensures.found nest s);
}

pub returns-clause-found : goal.returns-clause-found
returns-clause-found g c = λ nest s hs k h. none_above _ _ nest s hs c.loop-at.at (c.loop-at.invariant.above nest s hs k h) c.loop-at-test.false
