use Rattle.std.proofs.Common.{◌+◌, ap, arith}
use Rattle.xml_model.specs.Items.{first_place}
use Rattle.xml_model.specs.Records.{records}
use Rattle.vtd_words.proofs.Fitting.{nest_shown}
use Rattle.vtd_fragment.specs.Round.{nodes_in}
use Rattle.vtd_fragment.proofs.PushLemmas.{none_pushed, next_pushed, all_pushed}
use Rattle.vtd_fragment.proofs.needed.push_needed.Goals as goal

pub loop-name-init : goal.loop-name-init
loop-name-init g c = record {
  room = omega arith;
  bound = omega arith;
  pushed = λ node k r found f. none_pushed c.args.table.now.bytes (g.W.Words.lists c.args.table.now.words) node c.args.level r (nodes_in r.nest r.entry c.args.table.now.bytes) c.args.out.now.items;
}

pub loop-name-preserved : goal.loop-name-preserved
loop-name-preserved g c = record {
  room = omega (arith, c.in-Some.ensures.room);
  bound = omega (arith, c.in-Some.ensures.bound);
  pushed = λ node k r found f.
      let bytes = c.args.table.now.bytes in
      let lists = g.W.Words.lists c.args.table.now.words in
      let rs = records r.nest (first_place bytes) in
      let shown = nest_shown bytes lists r.nest c.words-words.ensures.table.few r.shown in
      let some = (rw c.words-words.ensures.value at c.in-Some.ensures.some) rs shown in
      next_pushed bytes rs (nodes_in r.nest r.entry bytes) r.holder (c.args.tag + 1) c.loop-name.number c.args.out.now.items c.loop-name.out.items c.push_if_needed.new.out.items c.in-Some.name f
      (c.loop-name.invariant.pushed node k r found f) some c.in-Some.ensures.kind (λ before after a is at. c.in_ok-push_if_needed.ensures node k r found before after a is at);
}

pub returns : goal.returns
returns g c = λ node k r found f.
    let bytes = c.args.table.now.bytes in
    let lists = g.W.Words.lists c.args.table.now.words in
    let rs = records r.nest (first_place bytes) in
    let shown = nest_shown bytes lists r.nest c.words-words.ensures.table.few r.shown in
    let first = ap (λ n. n + 1) f in
    all_pushed bytes rs (nodes_in r.nest r.entry bytes) r.holder (c.args.tag + 1) c.loop-name.number c.args.out.now.items c.loop-name.out.items first (c.loop-name.invariant.pushed node k r found first)
    ((rw c.words-words.ensures.value at c.in_default.ensures.none) rs shown)
