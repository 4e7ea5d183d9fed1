use Rattle.std.proofs.Common.{ℕ, ◌+◌, arith, subst}
use Rattle.std.specs.Str.{IsCharBoundary}
use Rattle.std.proofs.lemmas.Str.{IsCharBoundary-after_ascii}
use Rattle.xml_swift.proofs.ItemLemmas.{end_there}
use Rattle.xml_swift.proofs.items.end_tag.Goals as goal

pub name_end-requires-clause-place : goal.name_end-requires-clause-place
name_end-requires-clause-place c = subst (λ (k : ℕ). IsCharBoundary c.args.bytes.now k) (omega arith) (IsCharBoundary-after_ascii c.args.bytes.now (c.args.at + 1) c.requires.utf8 (omega (arith, c.requires.room)) (omega (arith, c.requires.slash)))

pub returns : goal.returns
returns c =
    let close = c.in_ok-close.close in
    rw (c.span.ensures, c.span-2.ensures, c.span-3.ensures) (end_there c.args.bytes.now c.args.at close (omega (arith, c.requires.room)) (omega (arith, c.in_ok-close.ensures.behind)) c.requires.open c.requires.slash c.in_ok-close.ensures.name c.if-bytes-close-ne62.false)
