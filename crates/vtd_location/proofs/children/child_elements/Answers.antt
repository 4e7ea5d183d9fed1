use Rattle.std.proofs.Common.{◌≡◌, ◌∙◌, ap, arith, drop, subst, sym}
use Rattle.xml_model.specs.Records.{Record}
use Rattle.xml_model.specs.Scan.{record_at}
use Rattle.vtd_words.specs.declared.word_vec.Part.TheVariants as parts
use Rattle.vtd_words.specs.Lists.{Lists}
use Rattle.vtd_words.specs.Packed.{record_of}
use Rattle.vtd_words.proofs.Shown.{token_shown}
use Rattle.vtd_location.specs.Children.{before_bound, entry_records, IsAround, left_in}
use Rattle.vtd_location.proofs.ChildrenOf.{around_one, around_two, around_three, around_four, root_told}
use Rattle.vtd_location.proofs.children.child_elements.Goals as goal

pub below-requires : goal.below-requires
below-requires g c =
    let l = c.requires.leveled in
    let tag = c.requires.tag in
    let same : record_of c.unpack.result ≡ record_at c.args.parent l.tokens =
    token_shown _ l.tokens c.args.parent c.word.result c.unpack.result l.shown tag.within c.word.ensures.value c.unpack.ensures.unpacked in
    let depth : (record_at c.args.parent l.tokens).depth ≡ 1 = sym (ap (λ (r : Record). r.depth) same) ∙ c.in-1.is in
    subst (λ (x : Lists). IsAround x parts.Level1 parts.Level2 c.args.parent) (sym c.word.ensures.lists)
    (around_one c.args.meter.now.lists c.args.parent l (omega (arith, c.len-records.ensures)) tag.within (tag.tag l.tokens l.shown) depth)

pub below-requires-in-2 : goal.below-requires-in-2
below-requires-in-2 g c =
    let l = c.requires.leveled in
    let tag = c.requires.tag in
    let same : record_of c.unpack.result ≡ record_at c.args.parent l.tokens =
    token_shown _ l.tokens c.args.parent c.word.result c.unpack.result l.shown tag.within c.word.ensures.value c.unpack.ensures.unpacked in
    let depth : (record_at c.args.parent l.tokens).depth ≡ 2 = sym (ap (λ (r : Record). r.depth) same) ∙ c.in-2.is in
    subst (λ (x : Lists). IsAround x parts.Level2 parts.Level3 c.args.parent) (sym c.word.ensures.lists)
    (around_two c.args.meter.now.lists c.args.parent l (omega (arith, c.len-records.ensures)) tag.within (tag.tag l.tokens l.shown) depth)

pub below-requires-in-3 : goal.below-requires-in-3
below-requires-in-3 g c =
    let l = c.requires.leveled in
    let tag = c.requires.tag in
    let same : record_of c.unpack.result ≡ record_at c.args.parent l.tokens =
    token_shown _ l.tokens c.args.parent c.word.result c.unpack.result l.shown tag.within c.word.ensures.value c.unpack.ensures.unpacked in
    let depth : (record_at c.args.parent l.tokens).depth ≡ 3 = sym (ap (λ (r : Record). r.depth) same) ∙ c.in-3.is in
    subst (λ (x : Lists). IsAround x parts.Level3 parts.Level4 c.args.parent) (sym c.word.ensures.lists)
    (around_three c.args.meter.now.lists c.args.parent l (omega (arith, c.len-records.ensures)) tag.within (tag.tag l.tokens l.shown) depth)

pub below-requires-in_default : goal.below-requires-in_default
below-requires-in_default g c =
    let l = c.requires.leveled in
    let tag = c.requires.tag in
    let same : record_of c.unpack.result ≡ record_at c.args.parent l.tokens =
    token_shown _ l.tokens c.args.parent c.word.result c.unpack.result l.shown tag.within c.word.ensures.value c.unpack.ensures.unpacked in
    let deep = ap (λ (r : Record). r.depth) same in
    let shallow = tag.shallow l.tokens l.shown in
    let depth : (record_at c.args.parent l.tokens).depth ≡ 4 = omega (arith, deep, shallow) in
    subst (λ (x : Lists). IsAround x parts.Level4 parts.Level5 c.args.parent) (sym c.word.ensures.lists)
    (around_four c.args.meter.now.lists c.args.parent l (omega (arith, c.len-records.ensures)) tag.within (tag.tag l.tokens l.shown) depth)

pub returns-in-0-clause-left : goal.returns-in-0-clause-left
returns-in-0-clause-left g c = λ rs shows.
    let l = c.requires.leveled in
    let tag = c.requires.tag in
    let same : record_of c.unpack.result ≡ record_at c.args.parent l.tokens =
    token_shown _ l.tokens c.args.parent c.word.result c.unpack.result l.shown tag.within c.word.ensures.value c.unpack.ensures.unpacked in
    let depth : (record_at c.args.parent l.tokens).depth ≡ 0 = sym (ap (λ (r : Record). r.depth) same) ∙ c.in-0.is in
    subst (λ (x : Lists). left_in x c.from_position.result ≡ before_bound c.len-records.result (drop 0 (entry_records parts.Level1 x))) c.word.ensures.lists c.from_position.ensures.left
    ∙ root_told c.args.meter.now.lists c.args.parent c.len-records.result l (omega (arith, c.len-records.ensures)) c.len-records.ensures tag.within (tag.tag l.tokens l.shown) depth rs shows
