use Rattle.std.proofs.Common.{refl}
use Rattle.vtd_text.proofs.EntityLemmas.{entity_by_bytes, other_name}
use Rattle.vtd_text.proofs.entities.entity_char.Goals as goal

pub returns-in-lt : goal.returns-in-lt
returns-in-lt c = rw (entity_by_bytes c.args.name.now c.utf8.name, c.in-lt.is) refl

pub returns-in-gt : goal.returns-in-gt
returns-in-gt c = rw (entity_by_bytes c.args.name.now c.utf8.name, c.in-gt.is) refl

pub returns-in-amp : goal.returns-in-amp
returns-in-amp c = rw (entity_by_bytes c.args.name.now c.utf8.name, c.in-amp.is) refl

pub returns-in-apos : goal.returns-in-apos
returns-in-apos c = rw (entity_by_bytes c.args.name.now c.utf8.name, c.in-apos.is) refl

pub returns-in-quot : goal.returns-in-quot
returns-in-quot c = rw (entity_by_bytes c.args.name.now c.utf8.name, c.in-quot.is) refl

pub returns-in_default : goal.returns-in_default
returns-in_default c =
    rw (entity_by_bytes c.args.name.now c.utf8.name, other_name c.args.name.now c.in_default.not-lt c.in_default.not-gt c.in_default.not-amp c.in_default.not-apos c.in_default.not-quot) refl
