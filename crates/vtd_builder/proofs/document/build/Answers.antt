use Rattle.std.proofs.Common.{◌≡◌, ℕ, ◌<◌, ◌^◌, List, [], length, ap, sym, subst, ◌∙◌, arith}
use Rattle.xml_model.specs.Items.{first_place}
use Rattle.xml_model.specs.Nest.{Forest}
use Rattle.xml_model.specs.Records.{records}
use Rattle.xml_model.specs.Accepted.{Accepted}
use Rattle.vtd_words.specs.Lists.{Lists}
use Rattle.vtd_words.proofs.Shown.{map_length}
use Rattle.vtd_location.proofs.NavLaws.{fewer_layers}
use Rattle.vtd_builder.specs.Documents.{words_of}
use Rattle.vtd_builder.specs.Offered.{record_words, IsFirstRefused}
use Rattle.vtd_builder.proofs.Built.{shows_nest, can_fill, words_are, on_ok, err_is, never_refused, all_taken}
use Rattle.vtd_builder.proofs.document.build.Goals as goal

pub unreachable-requires : goal.unreachable-requires
unreachable-requires c =
    let k = err_is c.emit.result (sym c.is_err.ensures.value ∙ c.if-is_err.true) in
    let a = c.in-Ok.ensures.accepted in
    let same : c.deref.result.now ≡ c.deref-2.result.now = c.deref.ensures.value ∙ sym c.deref-2.ensures.value in
    let there : Accepted 6 c.deref-2.result.now a.0 = subst (λ (b : List ℕ). Accepted 6 b a.0) same a.1 in
    let first = (c.emit.ensures.refused a.0 there k.0).0 k.1 in
    let most : c.in-Ok-reserve.sink.most ≡ length (record_words c.deref-2.result.now a.0) =
    c.in-Ok-reserve.ensures.most ∙ c.in-Ok.ensures.records a.0 a.1 ∙ ap (λ (b : List ℕ). length (records a.0 (first_place b))) same ∙ sym (map_length (records a.0 (first_place c.deref-2.result.now))) in
    never_refused c.in-Ok-reserve.sink.most c.in-Ok-reserve.sink.words.lists.records (record_words c.deref-2.result.now a.0) k.0 (ap (λ (l : Lists). l.records) c.in-Ok-reserve.ensures.reserved.empty) most first

pub fill_levels-requires : goal.fill_levels-requires
fill_levels-requires c =
    let a = c.in-Ok.ensures.accepted in
    let same : c.deref.result.now ≡ c.deref-2.result.now = c.deref.ensures.value ∙ sym c.deref-2.ensures.value in
    let there : Accepted 6 c.deref-2.result.now a.0 = subst (λ (b : List ℕ). Accepted 6 b a.0) same a.1 in
    let none = ap (λ (l : Lists). l.records) c.in-Ok-reserve.ensures.reserved.empty in
    let taken = on_ok c.emit.result _ (sym c.is_err.ensures.value ∙ c.if-is_err.false) (c.emit.ensures.taken a.0 there) in
    let recorded : c.emit.new.into.words.lists.records ≡ record_words c.deref.result.now a.0 =
    all_taken c.deref-2.result.now a.0 _ _ none taken ∙ ap (λ (b : List ℕ). record_words b a.0) (sym same) in
    can_fill c.deref.result.now c.in-Ok.counts c.in-Ok-reserve.sink.words c.emit.new.into.words a.0 (omega (arith, c.deref.ensures.len, c.requires)) c.in-Ok.ensures.half a.1
    (c.in-Ok.ensures.levels a.0 a.1) (c.in-Ok.ensures.records a.0 a.1) c.in-Ok-reserve.ensures.reserved c.emit.ensures.rest recorded

pub of-requires : goal.of-requires
of-requires c =
    let bytes = c.args.bytes.items in
    let a = c.in-Ok.ensures.accepted in
    let second : Accepted 6 c.deref-2.result.now a.0 = subst (λ (b : List ℕ). Accepted 6 b a.0) (c.deref.ensures.value ∙ sym c.deref-2.ensures.value) a.1 in
    let third : Accepted 6 c.deref-3.result.now a.0 = subst (λ (b : List ℕ). Accepted 6 b a.0) (c.deref.ensures.value ∙ sym c.deref-3.ensures.value) a.1 in
    let here : Accepted 6 bytes a.0 = subst (λ (b : List ℕ). Accepted 6 b a.0) c.deref.ensures.value a.1 in
    let small : length bytes < 2 ^ 30 = omega (arith, c.deref.ensures.len, ap (λ (l : List ℕ). length l) c.deref.ensures.value, c.requires) in
    let none = ap (λ (l : Lists). l.records) c.in-Ok-reserve.ensures.reserved.empty in
    let taken = on_ok c.emit.result _ (sym c.is_err.ensures.value ∙ c.if-is_err.false) (c.emit.ensures.taken a.0 second) in
    let recorded : c.emit.new.into.words.lists.records ≡ record_words bytes a.0 = all_taken c.deref-2.result.now a.0 _ _ none taken ∙ ap (λ (b : List ℕ). record_words b a.0) c.deref-2.ensures.value in
    record {
      few = small;
      nest = a.0;
      accepted = subst (λ (b : List ℕ). Accepted 8 b a.0) c.deref-3.ensures.value (c.in_default-check_recorded.ensures.accepted a.0 third);
      recorded = words_are bytes c.fill_levels.new.words.lists a.0 (c.fill_levels.ensures.records ∙ recorded)
          (c.fill_levels.ensures.levels (records a.0 (first_place bytes)) (shows_nest bytes c.emit.new.into.words.lists a.0 small here recorded));
    }

pub returns-clause-words : goal.returns-clause-words
returns-clause-words c = λ nest a8.
    let bytes = c.args.bytes.items in
    let here : Accepted 6 bytes nest = fewer_layers 8 bytes nest a8 in
    let second : Accepted 6 c.deref-2.result.now nest = subst (λ (b : List ℕ). Accepted 6 b nest) (sym c.deref-2.ensures.value) here in
    let small : length bytes < 2 ^ 30 = omega (arith, c.deref.ensures.len, ap (λ (l : List ℕ). length l) c.deref.ensures.value, c.requires) in
    let none = ap (λ (l : Lists). l.records) c.in-Ok-reserve.ensures.reserved.empty in
    let taken = on_ok c.emit.result _ (sym c.is_err.ensures.value ∙ c.if-is_err.false) (c.emit.ensures.taken nest second) in
    let recorded : c.emit.new.into.words.lists.records ≡ record_words bytes nest = all_taken c.deref-2.result.now nest _ _ none taken ∙ ap (λ (b : List ℕ). record_words b nest) c.deref-2.ensures.value in
    c.of.ensures.words
    ∙ words_are bytes c.fill_levels.new.words.lists nest (c.fill_levels.ensures.records ∙ recorded)
    (c.fill_levels.ensures.levels (records nest (first_place bytes)) (shows_nest bytes c.emit.new.into.words.lists nest small here recorded))
