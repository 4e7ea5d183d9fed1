use Rattle.std.proofs.Common.{refl, sym, ◌∙◌}
use Rattle.vtd_words.specs.Packed.{record_of}
use Rattle.vtd_text.proofs.PlainLemmas.{only_text, only_content}
use Rattle.vtd_text.proofs.slices.only_text.Goals as goal

pub text_of-requires : goal.text_of-requires
text_of-requires g c =
    only_text c.args.bytes.now _ c.args.at c.args.end (record_of c.parts_at-parts.result) c.requires.row (record {
      inside = c.if-ends.ensures.goes_on refl;
      within = c.requires.within;
      first = c.parts_at-parts.ensures.parts;
      level = c.if-ends.ensures.within refl;
      last = c.if-not-ends.ensures.ended refl;
    }) (sym c.is_text.ensures ∙ c.if-not-is_text.false)

pub returns : goal.returns
returns g c =
    only_content c.args.bytes.now _ c.args.at c.args.end (record_of c.parts_at-parts.result) c.text_of.result.now (record {
      inside = c.if-ends.ensures.goes_on refl;
      within = c.requires.within;
      first = c.parts_at-parts.ensures.parts;
      level = c.if-ends.ensures.within refl;
      last = c.if-not-ends.ensures.ended refl;
    }) (sym c.is_text.ensures ∙ c.if-not-is_text.false) c.text_of.ensures
