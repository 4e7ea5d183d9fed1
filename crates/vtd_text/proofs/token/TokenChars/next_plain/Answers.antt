use Rattle.std.proofs.Common.{◌≡◌, ◌∙◌, length, take, rules}
use Rattle.std.specs.Str.{IsUtf8}
use Rattle.vtd_text.proofs.PieceLemmas.{plain_split}
use Rattle.vtd_text.proofs.token.TokenChars.next_plain.Goals as goal

pub split_at-requires : goal.split_at-requires
split_at-requires c =
    let u : IsUtf8 c.args.self.now.text.now = search rules in
    let bytes = c.as_bytes.result.now in
    let near : bytes ≡ take (length c.near.result.now) c.args.self.now.text.now = c.as_bytes.ensures.value ∙ c.near.ensures.prefix in
    (plain_split c.args.self.now.rule c.args.self.now.text.now bytes (length c.near.result.now) c.plain_len-plain.result near u c.near.ensures.boundary c.plain_len-plain.ensures).boundary

pub returns-clause-content : goal.returns-clause-content
returns-clause-content c = λ content h.
    let u : IsUtf8 c.args.self.now.text.now = search rules in
    let bytes = c.as_bytes.result.now in
    let near : bytes ≡ take (length c.near.result.now) c.args.self.now.text.now = c.as_bytes.ensures.value ∙ c.near.ensures.prefix in
    rw (c.split_at.ensures.front, c.split_at.ensures.back)
    ((plain_split c.args.self.now.rule c.args.self.now.text.now bytes (length c.near.result.now) c.plain_len-plain.result near u c.near.ensures.boundary c.plain_len-plain.ensures).content content h)
