-- Documents that are built: records that are emitted, and levels that are filled.
use Rattle.std.proofs.Common.{◌≡◌, ℕ, ◌+◌, ◌*◌, ◌-◌, ◌<◌, ◌≤◌, ◌^◌, List, [], ◌∷◌, length, map, refl, ap, sym, subst, ◌∙◌, arith, ap₂, slice_index, ◌++◌, take, nat_le, true, false, Ok, Err, length-append}
use Rattle.std.specs.Result.{is_err, OnOk}
use Rattle.std.proofs.lemmas.Bool.{true≢false, false≢true, leb-true}
use Rattle.std.proofs.lemmas.List.{length-take-le}
use Rattle.xml_model.specs.declared.Counts.{Counts}
use Rattle.xml_model.specs.Items.{first_place}
use Rattle.xml_model.specs.Levels.{CountsLevels, Levels, levels}
use Rattle.xml_model.specs.Nest.{Forest}
use Rattle.xml_model.specs.Records.{Record, records, word}
use Rattle.xml_model.specs.Accepted.{Accepted}
use Rattle.vtd_words.specs.Lists.{Lists, Growing, HasRoom, none}
use Rattle.vtd_words.specs.Table.{Shows}
use Rattle.vtd_words.proofs.Fitting.{nest_shown}
use Rattle.vtd_words.proofs.Shown.{map_length}
use Rattle.vtd_location.specs.Filling.{CanFill}
use Rattle.vtd_location.specs.Nav.{HasLevels, levels_in}
use Rattle.vtd_builder.specs.Documents.{levels_of, words_of, IsReserved}
use Rattle.vtd_builder.specs.Offered.{record_words, IsFirstRefused}
use Rattle.vtd_builder.proofs.Refused.{Answer}

-- words that are the records of a nest show them
pub shows_nest : (bytes : List ℕ) (lists : Lists) (nest : Forest) → length bytes < 2 ^ 30 → Accepted 6 bytes nest → lists.records ≡ record_words bytes nest → Shows lists.records (records nest (first_place bytes))
shows_nest bytes lists nest small a e = nest_shown bytes lists nest small (record { accepted = a; recorded = e })

empty_list : (xs : List ℕ) → length xs ≡ 0 → xs ≡ []
empty_list [] e = refl
empty_list (x ∷ xs) e = absurd (omega arith)

-- what emitting leaves alone: the levels are empty still, and have their room
pub can_fill : (bytes : List ℕ) (counts : Counts) (g h : Growing) (nest : Forest) → length bytes < 2 ^ 30 → 2 * counts.records ≤ length bytes → Accepted 6 bytes nest →
    CountsLevels counts (records nest (first_place bytes)) → counts.records ≡ length (records nest (first_place bytes)) → IsReserved counts g → levels_of h ≡ levels_of g →
    h.lists.records ≡ record_words bytes nest → CanFill h
can_fill bytes counts g h nest small half a c n r same e =
    let rs = records nest (first_place bytes) in
    let long : length h.lists.records ≡ length rs = ap (λ (l : List ℕ). length l) e ∙ map_length rs in
    let at : (i : ℕ) → slice_index (levels_of h) i ≡ slice_index (levels_of g) i = λ i. ap (λ (l : List ℕ). slice_index l i) same in
    let one : length h.lists.level1 ≡ 0 = at 0 ∙ ap (λ (l : Lists). length l.level1) r.empty in
    let two : length h.lists.level2 ≡ 0 = at 1 ∙ ap (λ (l : Lists). length l.level2) r.empty in
    let three : length h.lists.level3 ≡ 0 = at 2 ∙ ap (λ (l : Lists). length l.level3) r.empty in
    let four : length h.lists.level4 ≡ 0 = at 3 ∙ ap (λ (l : Lists). length l.level4) r.empty in
    let five : length h.lists.level5 ≡ 0 = at 4 ∙ ap (λ (l : Lists). length l.level5) r.empty in
    let room1 : h.room.level1 ≡ g.room.level1 = at 5 in
    let room2 : h.room.level2 ≡ g.room.level2 = at 6 in
    let room3 : h.room.level3 ≡ g.room.level3 = at 7 in
    let room4 : h.room.level4 ≡ g.room.level4 = at 8 in
    let room5 : h.room.level5 ≡ g.room.level5 = at 9 in
    record {
      tokens = rs;
      shown = shows_nest bytes h.lists nest small a e;
      few = omega (arith, long, n, half, small);
      level1 = empty_list h.lists.level1 one;
      level2 = empty_list h.lists.level2 two;
      level3 = empty_list h.lists.level3 three;
      level4 = empty_list h.lists.level4 four;
      level5 = empty_list h.lists.level5 five;
      room = record {
        level1 = omega (arith, c.level1, r.room.level1, room1);
        level2 = omega (arith, c.level2, r.room.level2, room2);
        level3 = omega (arith, c.level3, r.room.level3, room3);
        level4 = omega (arith, c.level4, r.room.level4, room4);
        level5 = omega (arith, c.level5, r.room.level5, room5);
      };
    }

-- records and levels make up all words of a document
pub words_are : (bytes : List ℕ) (lists : Lists) (nest : Forest) → lists.records ≡ record_words bytes nest → HasLevels lists (records nest (first_place bytes)) → lists ≡ words_of bytes nest
words_are bytes lists nest e h =
    let l : lists ≡ record { records = lists.records; level1 = (levels_in lists).level1; level2 = (levels_in lists).level2; level3 = (levels_in lists).level3; level4 = (levels_in lists).level4; level5 = (levels_in lists).level5 } = refl in
    l ∙ ap₂ (λ (ws : List ℕ) (x : Levels). record { records = ws; level1 = x.level1; level2 = x.level2; level3 = x.level3; level4 = x.level4; level5 = x.level5 }) e h

-- an answer that is no error, and one that is
pub on_ok : (r : Answer) (P : Type 0) → is_err r ≡ false → OnOk r P → P
on_ok (Ok x) P h p = p
on_ok (Err k) P h p = absurd (true≢false h)

pub err_is : (r : Answer) → is_err r ≡ true → (k : ℕ) × (r ≡ Err k)
err_is (Ok x) h = absurd (false≢true h)
err_is (Err k) h = (k, refl)

-- where there is room for all words, none is refused
pub never_refused : (most : ℕ) (taken ws : List ℕ) (k : ℕ) → taken ≡ [] → most ≡ length ws → IsFirstRefused (λ t w. nat_le most (length t)) taken ws k → ⊥
never_refused most taken ws k none e f =
    let full : most ≤ length (taken ++ take k ws) = leb-true most (length (taken ++ take k ws)) f.refused in
    let long = length-append taken (take k ws) in
    let few = length-take-le k ws (omega (arith, f.within)) in
    omega (arith, full, long, few, ap (λ (l : List ℕ). length l) none, e, f.within)

-- the words that were taken, where none was before
pub all_taken : (bytes : List ℕ) (nest : Forest) (taken old : List ℕ) → old ≡ [] → taken ≡ old ++ record_words bytes nest → taken ≡ record_words bytes nest
all_taken bytes nest taken old e t = t ∙ ap (λ (l : List ℕ). l ++ record_words bytes nest) e
