use Rattle.vtd_words.specs.Packed.{record_of}
use Rattle.vtd_namespaces.proofs.OpenLemmas.{passed, put_is, kept_is}
use Rattle.vtd_namespaces.proofs.open_tags.OpenTags.pass.Goals as goal

pub returns-then-parts-clause-passed : goal.returns-then-parts-clause-passed
returns-then-parts-clause-passed c = λ rs l h o.
    passed c.args.self.now _ rs c.args.index (record_of c.args.parts) (put_is c.self.inside.tags c.args.self.now c.args.index (record_of c.args.parts) c.self.view_is c.if-parts.true) l h o

pub returns-else-parts-clause-passed : goal.returns-else-parts-clause-passed
returns-else-parts-clause-passed c = λ rs l h o.
    passed c.args.self.now _ rs c.args.index (record_of c.args.parts) (kept_is c.args.self.now c.args.index (record_of c.args.parts) c.if-parts.false) l h o
