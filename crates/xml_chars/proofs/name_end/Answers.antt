use Rattle.std.proofs.Common.{rules}
use Rattle.std.specs.Str.{IsUtf8}
use Rattle.xml_chars.proofs.PlaceLemmas.{no_name_at, name_at}
use Rattle.xml_chars.proofs.name_end.Goals as goal

pub returns-clause-name : goal.returns-clause-name
returns-clause-name c =
    let v : IsUtf8 c.in_ok-rest.rest.now = search rules in
    (name_at c.args.bytes.now c.text_at.result.now _ c.in_ok-rest.rest.now c.args.at c.requires.place.0 c.text_at.ensures c.text_at.utf8 v c.in_ok-rest.ensures.read).0

pub returns-clause-place : goal.returns-clause-place
returns-clause-place c =
    let v : IsUtf8 c.in_ok-rest.rest.now = search rules in
    (name_at c.args.bytes.now c.text_at.result.now _ c.in_ok-rest.rest.now c.args.at c.requires.place.0 c.text_at.ensures c.text_at.utf8 v c.in_ok-rest.ensures.read).1

pub returns-in_err-rest-clause-none : goal.returns-in_err-rest-clause-none
returns-in_err-rest-clause-none c = rw c.from_residual.ensures (no_name_at c.args.bytes.now c.text_at.result.now c.args.at c.text_at.ensures c.text_at.utf8 c.in_err-rest.ensures.read)
