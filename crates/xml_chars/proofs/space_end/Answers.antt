use Rattle.std.proofs.Common.{rules}
use Rattle.std.specs.Str.{IsUtf8}
use Rattle.xml_chars.proofs.PlaceLemmas.{space_at}
use Rattle.xml_chars.proofs.space_end.Goals as goal

pub returns-clause-space : goal.returns-clause-space
returns-clause-space c =
    let v : IsUtf8 c.space_of.result.1.now = search rules in
    (space_at c.args.bytes.now c.text_at.result.now _ c.space_of.result.1.now c.args.at c.requires.place.0 c.text_at.ensures c.text_at.utf8 v c.space_of.ensures.read).0

pub returns-clause-place : goal.returns-clause-place
returns-clause-place c =
    let v : IsUtf8 c.space_of.result.1.now = search rules in
    (space_at c.args.bytes.now c.text_at.result.now _ c.space_of.result.1.now c.args.at c.requires.place.0 c.text_at.ensures c.text_at.utf8 v c.space_of.ensures.read).1
