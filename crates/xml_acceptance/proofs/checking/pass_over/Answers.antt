use Rattle.std.proofs.Common.{ℕ, ◌≤◌, length, sym, subst, arith}
use Rattle.std.specs.Str.{IsCharBoundary}
use Rattle.xml_items.specs.Counted.{IsCountedAt}
use Rattle.xml_items.proofs.PlaceLaws.{first_boundary}
use Rattle.xml_acceptance.proofs.Exits.{refused_syntax, later_end}
use Rattle.xml_acceptance.proofs.checking.pass_over.Goals as goal

pub new-pass-requires-clause-within : goal.new-pass-requires-clause-within
new-pass-requires-clause-within c = subst (λ (n : ℕ). n ≤ length c.args.bytes.now) (sym c.first_place-at.ensures) (first_boundary c.args.bytes.now c.requires.utf8).0

pub items-init : goal.items-init
items-init c = record {
  passes = c.new-pass.ensures;
  boundary = subst (λ (n : ℕ). IsCharBoundary c.args.bytes.now n) (sym c.first_place-at.ensures) (first_boundary c.args.bytes.now c.requires.utf8);
}

pub items-smaller : goal.items-smaller
items-smaller c =
    let a : IsCountedAt c.args.bytes.now c.items.at c.in-Ok-Some.counted = rw c.in-Ok-Some.field-0-is at c.in-Ok-Some.ensures.item in
    omega (arith, later_end c.args.bytes.now c.items.at c.in-Ok-Some.counted a)

pub returns-in-Err-clause-refused : goal.returns-in-Err-clause-refused
returns-in-Err-clause-refused c = let f = c.in-Err.ensures.fault in refused_syntax c.args.bytes.now c.items.pass c.items.at c.requires.utf8 c.items.invariant.passes f.0 f.1
