use Rattle.std.proofs.Common.{◌-◌, ◌≡◌, ℕ, List}
use Rattle.xml_model.specs.Records.{Record}
use Rattle.vtd_words.specs.Table.{Shows}
use Rattle.vtd_text.specs.Joined.{IsLeft, BetweenTokens}
use Rattle.vtd_text.proofs.row.Row.next.Given as goal

abbrev pub invariant-loop-self : goal.invariant-loop-self
invariant-loop-self g l = record {
  bytes : l.self.bytes ≡ l.fn.self.bytes;
  words : l.self.words ≡ l.fn.self.words;
  left : (rs : List Record) → Shows (g.W.Words.lists l.fn.self.words.now).records rs → (content : List ℕ) →
      IsLeft l.fn.self.bytes.now rs l.fn.self.token.rule l.fn.self.token.text.now l.fn.self.at l.fn.self.end content →
      BetweenTokens l.fn.self.bytes.now rs l.self.token.rule l.self.token.text.now l.self.at l.self.end content;
}

abbrev pub decreases-loop-self : goal.decreases-loop-self
decreases-loop-self g l = l.self.end.past - l.self.at
