use Rattle.std.proofs.Common.{◌∙◌, refl, sym, ap, Some, true}
use Rattle.xml_model.specs.Items.{first_place}
use Rattle.xml_model.specs.Records.{records}
use Rattle.xml_model.specs.Scan.{level_of, record_at}
use Rattle.xml_model.proofs.Inside.{levels_shown}
use Rattle.xml_model.proofs.Things.{thing_child}
use Rattle.vtd_words.specs.Table.{nodes_of}
use Rattle.xpath_axes.proofs.BackLemmas.{back_starts, preceding_siblings}
use Rattle.xpath_axes.proofs.back.preceding_siblings_of.Goals as goal

pub returns-clause-axis : goal.returns-clause-axis
returns-clause-axis g c = λ nest s e w test.
    preceding_siblings nest _ s.accepted.document.nests e w.0 test c.args.node.at w.2 c.level_at-level.result
    (thing_child c.args.node.kind true e.what w.1 c.requires.child) c.level_at-level.result (c.level_at-level.ensures.level nest s e w)

pub returns-clause-back : goal.returns-clause-back
returns-clause-back g c = λ nest s.
    let e = c.requires.each nest s in
    back_starts (records nest (first_place c.args.table.now.bytes)) (nodes_of c.args.table.now.bytes nest) e.0 e.1.0
    (record {
      at = c.args.node.at;
      from = c.args.node.at;
      low = c.level_at-level.result;
      floor = c.level_at-level.result;
      level = Some
          c.level_at-level.result;
    }) e.1.2 refl
    (c.level_at-level.ensures.level nest s e.0 e.1 ∙ sym (levels_shown nest _ s.accepted.document.nests e.0 e.1.0)
    ∙ ap (λ n. level_of (record_at n (records nest (first_place c.args.table.now.bytes)))) e.1.2)
