use Rattle.std.proofs.Common.{◌∙◌, map, arith}
use Rattle.xml_model.specs.Records.{cut_records, word}
use Rattle.vtd_patch.proofs.Cuts.{cut_more, cut_last, run_is}
use Rattle.vtd_patch.proofs.cutting.text_words.Goals as goal

pub cuts-preserved : goal.cuts-preserved
cuts-preserved c = record {
  made = cut_more c.depth_of-depth.result c.cuts.at c.cuts.left c.cuts.words.items c.push_cut.new.words.items
      (map word (cut_records 5 c.depth_of-depth.result c.args.start c.args.len)) c.cuts.invariant.made (omega (arith, c.cuts-test.true))
      c.in_ok-push_cut.ensures;
  ends = omega (arith, c.cuts.invariant.ends, c.cuts-test.true);
  some = omega (arith, c.cuts-test.true);
}

pub returns : goal.returns
returns c =
    cut_last c.depth_of-depth.result c.cuts.at c.cuts.left c.cuts.words.items c.push_cut-2.new.words.items
    (map word (cut_records 5 c.depth_of-depth.result c.args.start c.args.len)) c.cuts.invariant.made (omega (arith, c.cuts-test.false))
    c.in_ok-push_cut-2.ensures
    ∙ run_is c.args.level c.args.start c.args.len c.depth_of-depth.result (omega (arith, c.if-len-eq0.false)) c.depth_of-depth.ensures
