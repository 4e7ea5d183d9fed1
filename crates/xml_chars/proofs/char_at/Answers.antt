use Rattle.std.proofs.Common.{ap, ◌∙◌, ◌≡◌, List, ℕ, ◌∷◌, [], rules, arith, length, ◌-◌, refl}
use Rattle.std.specs.Str.{IsUtf8}
use Rattle.std.proofs.lemmas.List.{length-drop}
use Rattle.xml_chars.proofs.Runs.{char_some, char_none}
use Rattle.xml_chars.proofs.HoldLemmas.{read_to, no_chars}
use Rattle.xml_chars.proofs.char_at.Goals as goal

pub returns-clause-char : goal.returns-clause-char
returns-clause-char c =
    let v : IsUtf8 c.in_ok-c.rest.now = search rules in
    let t = read_to c.args.bytes.now c.text_at.result.now c.in_ok-c.rest.now c.args.at (c.in_ok-c.c ∷ []) c.requires.place.0 c.text_at.ensures c.text_at.utf8 v (char_some _ _ _ c.in_ok-c.ensures.read) in
    record { there = t.holds; end = t.end }

pub returns-clause-place : goal.returns-clause-place
returns-clause-place c =
    let v : IsUtf8 c.in_ok-c.rest.now = search rules in
    (read_to c.args.bytes.now c.text_at.result.now c.in_ok-c.rest.now c.args.at (c.in_ok-c.c ∷ []) c.requires.place.0 c.text_at.ensures c.text_at.utf8 v (char_some _ _ _ c.in_ok-c.ensures.read)).boundary

pub returns-in_err-c-clause-end : goal.returns-in_err-c-clause-end
returns-in_err-c-clause-end c =
    let none : length c.text_at.result.now ≡ 0 = no_chars c.text_at.result.now c.text_at.utf8 (char_none _ c.in_err-c.ensures.read) in
    let len : length c.text_at.result.now ≡ length c.args.bytes.now - c.args.at = ap (λ (l : List ℕ). length l) c.text_at.ensures ∙ length-drop c.args.at c.args.bytes.now in
    let same : c.args.at ≡ length c.args.bytes.now = omega (arith, c.requires.place.0) in
    (λ _. same, λ _. rw c.from_residual.ensures refl)
