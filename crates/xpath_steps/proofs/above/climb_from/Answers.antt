use Rattle.std.proofs.Common.{◌∙◌, refl, sym, ap, None}
use Rattle.xml_model.specs.Items.{first_place}
use Rattle.xml_model.specs.Records.{records}
use Rattle.xml_model.specs.Scan.{level_of, record_at}
use Rattle.xml_model.proofs.Inside.{levels_shown}
use Rattle.vtd_words.specs.Table.{nodes_of}
use Rattle.vtd_words.proofs.Same.{node_holds}
use Rattle.xpath_axes.proofs.BackLemmas.{back_starts}
use Rattle.xpath_steps.proofs.above.climb_from.Goals as goal

pub returns-clause-back : goal.returns-clause-back
returns-clause-back g c = λ nest s.
    let e = node_holds _ _ c.words-words.ensures.table.few c.args.node c.requires nest s in
    back_starts (records nest (first_place c.args.table.now.bytes)) (nodes_of c.args.table.now.bytes nest) e.0 e.1.0
    (record { at = c.args.node.at; from = c.args.node.at; low = c.level_at.result; floor = 0; level = None }) e.1.2 refl
    (c.level_at.ensures.level nest s e.0 e.1 ∙ sym (levels_shown nest _ s.accepted.document.nests e.0 e.1.0)
    ∙ ap (λ n. level_of (record_at n (records nest (first_place c.args.table.now.bytes)))) e.1.2)
