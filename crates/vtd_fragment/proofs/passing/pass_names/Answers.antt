use Rattle.std.proofs.Common.{◌∙◌, ◌+◌, ◌<◌, sym, ap, subst, arith}
use Rattle.xml_model.specs.Items.{first_place}
use Rattle.xml_model.proofs.Intervals.{all_some}
use Rattle.xml_model.proofs.Each.{each_at}
use Rattle.vtd_words.specs.Table.{nodes_of}
use Rattle.vtd_cursor.proofs.SpanLemmas.{last_room}
use Rattle.vtd_fragment.specs.Prefixes.{ArePassed}
use Rattle.vtd_fragment.proofs.HiddenLemmas.{inside_from_range}
use Rattle.vtd_fragment.proofs.PassLemmas.{passed_none, passed_unnamed}
use Rattle.vtd_fragment.proofs.passing.pass_names.Goals as goal

pub loop-at-init : goal.loop-at-init
loop-at-init g c = record {
  low = omega arith;
  passed = λ nest s e w noted.
      subst (λ n. ArePassed c.args.prefixes.now (nodes_of c.args.table.now.bytes nest) e n n) w.2 (passed_none nest (first_place c.args.table.now.bytes) s.accepted.document.nests e w.0 c.args.prefixes.now noted);
}

pub parts_at-requires : goal.parts_at-requires
parts_at-requires g c =
    rw c.words-words.ensures.value
    (omega (arith, c.loop-at-test.true, (last_room _ _ c.words-words.ensures.table.few c.args.node c.requires.node c.end_of-at-end.result c.end_of-at-end.ensures).within))

pub name_at-requires-clause-within : goal.name_at-requires-clause-within
name_at-requires-clause-within g c =
    omega (arith, c.loop-at-test.true, (last_room _ _ c.words-words.ensures.table.few c.args.node c.requires.node c.end_of-at-end.result c.end_of-at-end.ensures).within)

pub loop-at-preserved-in_default : goal.loop-at-preserved-in_default
loop-at-preserved-in_default g c = record {
  low = omega (arith, c.loop-at.invariant.low);
  passed = λ nest s e w noted.
      passed_unnamed nest (first_place c.args.table.now.bytes) s.accepted.document.nests e w.0 c.loop-at.prefixes c.loop-at.at (c.loop-at.invariant.passed nest s e w noted) (c.in_default.ensures.at nest s);
}

pub loop-at-preserved : goal.loop-at-preserved
loop-at-preserved g c = record {
  low = omega (arith, c.loop-at.invariant.low);
  passed = λ nest s e w noted.
      let es = nodes_of c.args.table.now.bytes nest in
      let k = c.in-Some.ensures.at nest s in
      let x = k.entry in
      let here = ap (λ z. z.at) k.shown ∙ k.index in
      let inside = inside_from_range nest (first_place c.args.table.now.bytes) e x w.0 k.there (omega (arith, c.loop-at.invariant.low, k.index, w.2)) (omega (arith, c.loop-at-test.true, c.end_of-at-end.ensures nest s e w, k.index)) in
      subst (λ n. ArePassed c.pass_name.new.prefixes es e (n + 1) (n + 1)) here
      (c.in_ok-pass_name.ensures nest s x (k.there, sym (ap (λ z. z.kind) k.shown), sym (ap (λ z. z.at) k.shown)) e w.0 (w.1 ∙ c.requires.element) inside
      (subst (λ n. ArePassed c.loop-at.prefixes es e n n) (sym here) (c.loop-at.invariant.passed nest s e w noted)));
}

pub returns : goal.returns
returns g c = λ nest s e w noted.
    let es = nodes_of c.args.table.now.bytes nest in
    let some = each_at (λ x. x.index < x.past) es e (all_some nest (first_place c.args.table.now.bytes)) w.0 in
    let past = c.end_of-at-end.ensures nest s e w in
    subst (λ n. ArePassed c.loop-at.prefixes es e n n) (omega (arith, c.loop-at-test.false, past, some, w.2, c.loop-at.auto.at-end)) (c.loop-at.invariant.passed nest s e w noted)
