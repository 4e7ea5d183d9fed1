use Rattle.std.proofs.Common.{arith, refl}
use Rattle.std.proofs.lemmas.Grind.{common_steps}
use Rattle.xpath_meaning.proofs.PlaceLemmas.{is_place}
use Rattle.xpath_meaning.proofs.places.place_at.Goals as goal

pub returns-clause-place : goal.returns-clause-place
returns-clause-place g c = is_place c.args.scope.now c.args.nodes.now c.args.i _ c.requires.of c.requires.within (record { node = grind (arith, common_steps); position = refl; size = grind (arith, common_steps) })
