use Rattle.std.proofs.Common.{◌≡◌, IfSome, ◌∙◌, refl, sym, subst, arith}
use Rattle.xml_model.specs.Items.{first_place}
use Rattle.xml_model.specs.Records.{records}
use Rattle.xml_model.specs.Scan.{record_at}
use Rattle.vtd_words.specs.Table.{nodes_of}
use Rattle.vtd_words.proofs.Fitting.{nest_shown}
use Rattle.vtd_namespaces.proofs.DeclarationLemmas.{all_left}
use Rattle.vtd_namespaces.proofs.WindowLemmas.{IsFoundOr, level_more, levels_done}
use Rattle.vtd_namespaces.proofs.windows.seek_in_tags.Goals as goal

pub loop-level-init : goal.loop-level-init
loop-level-init g c = record {
  len = refl;
  known = λ rs s m. subst (λ o. IfSome o (λ n. (record_at n rs).token ≡ 3)) (sym (c.requires.none m)) tt;
  found = λ nest s hs h o m k p l has. subst (IsFoundOr (nodes_of c.args.bytes.now nest) c.args.open_tags.now hs p c.args.levels) (sym (c.requires.none k)) (all_left (nodes_of c.args.bytes.now nest) c.args.open_tags.now hs p c.args.levels h o m);
}

pub loop-level-preserved : goal.loop-level-preserved
loop-level-preserved g c = record {
  len = c.seek_in_tag.ensures.len ∙ c.loop-level.invariant.len;
  known = c.seek_in_tag.ensures.known;
  found = λ nest s hs h o m k p l has.
      level_more c.args.bytes.now _ nest s c.args.open_tags.now hs p c.loop-level.level _ _ c.loop-level-test.true
      (λ at t hold. (rw c.tag_at-tag.ensures at c.seek_in_tag.ensures.found) (records nest (first_place c.args.bytes.now)) (nest_shown _ _ nest c.requires.few s) at t hold k p (omega (arith, l, c.loop-level.invariant.len)) has) (c.seek_in_tag.ensures.kept k) (c.loop-level.invariant.found nest s hs h o m k p l has);
}

pub returns-clause-found : goal.returns-clause-found
returns-clause-found g c = λ nest s hs h o m k p l has.
    levels_done (nodes_of c.args.bytes.now nest) c.args.open_tags.now hs p c.loop-level.level _ (omega (arith, c.loop-level-test.false)) (c.loop-level.invariant.found nest s hs h o m k p l has)
