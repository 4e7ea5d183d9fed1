use Rattle.std.proofs.Common.{◌≡◌, length, ap, ◌∙◌}
use Rattle.xml_model.specs.Nest.{Forest}
use Rattle.xml_model.specs.Tree.{Entry}
use Rattle.vtd_patch.proofs.Answered.{entries_there}
use Rattle.vtd_patch.proofs.patching.run_of.Goals as goal

pub returns-clause-level : goal.returns-clause-level
returns-clause-level c =
    entries_there c.args.doc.now.bytes c.table-2.result.now.bytes c.args.doc.now.words c.table-2.result.now.words.lists c.args.node
    (λ (nest : Forest) (e : Entry). c.level_at.result ≡ length e.holders) (ap (λ t. t.bytes) c.table-2.ensures.value ∙ c.nav-nav.ensures.bytes)
    (ap (λ t. t.words.lists) c.table-2.ensures.value ∙ c.nav-nav.ensures.words) c.level_at.ensures.level
