use Rattle.std.proofs.Common.{sym, ◌∙◌, arith, rules}
use Rattle.std.specs.Str.{IsUtf8}
use Rattle.xml_items.specs.Suffixes.{suffixes_seen}
use Rattle.xml_items.proofs.StepLemmas.{space_there, space_gone}
use Rattle.xml_items.proofs.CountLemmas.{number_done, number_unspaced, number_stuck, number_more}
use Rattle.xml_items.proofs.tags.after_attributes.Goals as goal

pub returns-then-not-begins_name-clause-read : goal.returns-then-not-begins_name-clause-read
returns-then-not-begins_name-clause-read c = sym c.loop-space.invariant.same ∙ number_done c.loop-space.count _ _ _ c.space_of.ensures.read (sym c.begins_name.ensures ∙ c.if-not-begins_name.true)

pub returns-then-is_empty-clause-read : goal.returns-then-is_empty-clause-read
returns-then-is_empty-clause-read c = sym c.loop-space.invariant.same ∙ number_unspaced c.loop-space.count _ _ _ c.space_of.ensures.read (sym c.begins_name.ensures ∙ c.if-not-begins_name.false) (space_gone c.space_of.result.0.now (sym c.is_empty.ensures ∙ c.if-is_empty.true))

pub returns-in_err-rest-clause-read : goal.returns-in_err-rest-clause-read
returns-in_err-rest-clause-read c =
    let v : IsUtf8 c.space_of.result.0.now = search rules in
    rw c.from_residual.ensures (sym c.loop-space.invariant.same ∙ number_stuck c.loop-space.count _ _ _ c.space_of.ensures.read (sym c.begins_name.ensures ∙ c.if-not-begins_name.false) (space_there c.space_of.result.0.now v (sym c.is_empty.ensures ∙ c.if-is_empty.false)) c.in_err-rest.ensures.read)

pub loop-space-preserved : goal.loop-space-preserved
loop-space-preserved c =
    let u : IsUtf8 c.space_of.result.0.now = search rules in
    let v : IsUtf8 c.in_ok-rest.field-0.rest.now = search rules in
    record {
      same = number_more c.loop-space.count _ _ _ (suffixes_seen c.in_ok-rest.field-0) c.space_of.ensures.read (sym c.begins_name.ensures ∙ c.if-not-begins_name.false) (space_there c.space_of.result.0.now u (sym c.is_empty.ensures ∙ c.if-is_empty.false)) c.in_ok-rest.ensures.read ∙ c.loop-space.invariant.same;
      shorter = omega (arith, c.in_ok-rest.ensures.first.0, c.in_ok-rest.ensures.first.1, c.in_ok-rest.ensures.later.0, c.in_ok-rest.ensures.later.1, c.in_ok-rest.ensures.later.2);
      utf8 = v;
    }
