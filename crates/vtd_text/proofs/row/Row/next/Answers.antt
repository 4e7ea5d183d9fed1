use Rattle.std.proofs.Common.{◌≤◌, ap, ◌∙◌, arith}
use Rattle.vtd_text.proofs.JoinedLemmas.{some_step, none_step, end_step}
use Rattle.vtd_text.proofs.row.Row.next.Goals as goal

pub returns-in-Some-next_of_token-clause-content : goal.returns-in-Some-next_of_token-clause-content
returns-in-Some-next_of_token-clause-content g c =
    let i = c.loop-self.invariant in
    let o = c.open_next in
    let n = c.next_of_token-in-loop-self in
    λ rs s content h. some_step
    c.args.self.now.bytes.now c.loop-self.self.bytes.now o.new.self.bytes.now (g.W.Words.lists c.args.self.now.words.now).records (g.W.Words.lists c.loop-self.self.words.now).records
    c.loop-self.self.at o.new.self.at n.new.self.at c.loop-self.self.end o.new.self.end n.new.self.end
    o.new.self.token.rule n.new.self.token.rule o.new.self.token.text.now n.new.self.token.text.now c.in-Some-next_of_token.c
    (ap (λ x. x.now) i.bytes) (ap (λ x. x.now) o.ensures.bytes) (ap (λ x. (g.W.Words.lists x.now).records) i.words) n.ensures.at n.ensures.end o.ensures.content c.in-Some-next_of_token.ensures.content
    rs s content (i.left rs s content h).rest

pub loop-self-init : goal.loop-self-init
loop-self-init g c =
    let n = c.next_of_token in
    record {
      bytes = n.ensures.bytes;
      words = n.ensures.words;
      left = λ rs s content h. rw (n.ensures.at, n.ensures.end) (c.in_default.ensures.content rs content h);
    }

pub loop-self-preserved : goal.loop-self-preserved
loop-self-preserved g c =
    let i = c.loop-self.invariant in
    let o = c.open_next in
    let n = c.next_of_token-in-loop-self in
    record {
      bytes = n.ensures.bytes ∙ o.ensures.bytes ∙ i.bytes;
      words = n.ensures.words ∙ o.ensures.words ∙ i.words;
      left = λ rs s content h. none_step
          c.args.self.now.bytes.now c.loop-self.self.bytes.now o.new.self.bytes.now (g.W.Words.lists c.args.self.now.words.now).records (g.W.Words.lists c.loop-self.self.words.now).records
          c.loop-self.self.at o.new.self.at n.new.self.at c.loop-self.self.end o.new.self.end n.new.self.end
          o.new.self.token.rule n.new.self.token.rule o.new.self.token.text.now n.new.self.token.text.now
          (ap (λ x. x.now) i.bytes) (ap (λ x. x.now) o.ensures.bytes) (ap (λ x. (g.W.Words.lists x.now).records) i.words) n.ensures.at n.ensures.end o.ensures.content c.in_default-next_of_token.ensures.content
          rs s content (i.left rs s content h).rest;
    }

pub loop-self-smaller : goal.loop-self-smaller
loop-self-smaller g c =
    let n = c.next_of_token-in-loop-self in
    omega (arith, c.open_next.ensures.shorter, n.ensures.at, ap (λ x. x.past) n.ensures.end)

pub returns-clause-content : goal.returns-clause-content
returns-clause-content g c = λ rs s content h.
    let i = c.loop-self.invariant in
    let l : c.loop-self.self.end.past ≤ c.loop-self.self.at = omega (arith, c.loop-self-test.false) in
    end_step c.args.self.now.bytes.now rs c.loop-self.self.token.rule c.loop-self.self.token.text.now content c.loop-self.self.end c.loop-self.self.at l (i.left rs s content h)
