use Rattle.std.proofs.Common.{rules, ◌≡◌}
use Rattle.std.specs.Str.{IsUtf8, chars}
use Rattle.std.specs.Prelude.{Some}
use Rattle.xml_chars.specs.Readers.{mapped}
use Rattle.xml_chars.specs.Reading.{read_reference}
use Rattle.xml_chars.specs.Shown.{character, name, shown}
use Rattle.xml_chars.proofs.PlaceLemmas.{reference_found, no_reference_at, char_reference, named_reference}
use Rattle.xml_chars.proofs.SpanPlaces.{reference_places}
use Rattle.xml_chars.proofs.reference_at.Goals as goal

pub returns-in_err-referred-clause-none : goal.returns-in_err-referred-clause-none
returns-in_err-referred-clause-none c = rw c.from_residual.ensures (no_reference_at c.args.bytes.now c.text_at.result.now c.args.at c.text_at.ensures c.text_at.utf8 c.in_err-referred.ensures.read)

pub returns-in-Char : goal.returns-in-Char
returns-in-Char c =
    let v : IsUtf8 c.in_ok-referred.rest.now = search rules in
    let e : mapped shown read_reference (chars c.text_at.result.now) ≡ Some (character c.in-Char.value, chars c.in_ok-referred.rest.now) = rw c.in-Char.is at c.in_ok-referred.ensures.read in
    let found = char_reference c.args.bytes.now c.in_ok-referred.rest.now c.args.at c.in-Char.value (reference_found c.args.bytes.now c.text_at.result.now c.in_ok-referred.rest.now c.args.at (character c.in-Char.value) c.requires.place.0 c.text_at.ensures c.text_at.utf8 v e) in
    record { reference = found; none = tt; place = reference_places c.args.bytes.now c.args.at _ c.requires.utf8 c.requires.place found }

pub returns-in-Named : goal.returns-in-Named
returns-in-Named c =
    let v : IsUtf8 c.in_ok-referred.rest.now = search rules in
    let e : mapped shown read_reference (chars c.text_at.result.now) ≡ Some (name (chars c.in-Named.field-0.now), chars c.in_ok-referred.rest.now) = rw c.in-Named.is at c.in_ok-referred.ensures.read in
    let found = named_reference c.args.bytes.now c.in_ok-referred.rest.now (chars c.in-Named.field-0.now) c.args.at (reference_found c.args.bytes.now c.text_at.result.now c.in_ok-referred.rest.now c.args.at (name (chars c.in-Named.field-0.now)) c.requires.place.0 c.text_at.ensures c.text_at.utf8 v e) in
    record { reference = found; none = tt; place = reference_places c.args.bytes.now c.args.at _ c.requires.utf8 c.requires.place found }
