-- One step of a comparison of the three levels of the first version, and its end.
use Rattle.std.proofs.Common.{◌≡◌, ℕ, ◌+◌, ◌<◌, ◌≤◌, List, length, None, refl, ap, sym, subst, ◌∙◌, arith}
use Rattle.xml_model.specs.Records.{Record}
use Rattle.xml_model.specs.Levels.{LevelsOne, levels_one}
use Rattle.xml_model.proofs.LevelScan.{by_scan}
use Rattle.vtd_words.specs.Table.{ArePartsAt}
use Rattle.vtd_words.specs.Packed.{record_of}
use Rattle.vtd_words.specs.declared.packing.Parts.{Parts}
use Rattle.vtd_words.proofs.Shown.{shown_length}
use Rattle.vtd_location.specs.Differences.{differ, differ_levels_one}
use Rattle.vtd_location.specs.Scanning.{ScanTo, PassesOn, PassesOnLast}
use Rattle.vtd_location.specs.ScanningOne.{difference_of_one, LanesOneTo, ScanningOne, ScanningOneOf}
use Rattle.vtd_location.specs.declared.checking.Scan.{Scan}
use Rattle.vtd_location.specs.declared.checking_one.LanesOne.{LanesOne}
use Rattle.vtd_location.proofs.Passing.{scanned, scanned_last, end_is, last_end, same_list, or_none}

pub scanning_one_on : (stored : LevelsOne) (records : List ℕ) (l t : LanesOne) (n : ℕ) (parts : Parts) → n < length records →
    ArePartsAt records n parts → LanesOneTo t (n + 1) →
    PassesOn 1 stored.level1 l.one n (record_of parts) t.one → PassesOn 2 stored.level2 l.two n (record_of parts) t.two →
    PassesOnLast 3 stored.level3 l.three n (record_of parts) t.three → ScanningOne stored records l n → ScanningOne stored records t (n + 1)
scanning_one_on stored records l t n parts within p to one two three i = record {
  to = to;
  each = λ rs s.
      let e = i.each rs s in
      let r = record_of parts in
      let in_rs : n < length rs = omega (arith, within, shown_length records rs s) in
      let same = p rs s in
      record {
        one = scanned stored.level1 1 n l.one t.one r rs _ in_rs same one e.one;
        two = scanned stored.level2 2 n l.two t.two r rs _ in_rs same two e.two;
        three = scanned_last stored.level3 3 n l.three t.three r rs _ in_rs same three e.three;
      };
}

pub first_scan_one : (stored : LevelsOne) (records : List ℕ) (l : LanesOne) (s : Scan) → s ≡ record { settled = 0; deeper = 0; waiting = None; found = None } →
    l ≡ record { one = s; two = s; three = s } → ScanningOne stored records l 0
first_scan_one stored records l s e f =
    let w : l ≡ record { one = START; two = START; three = START } = f ∙ ap (λ (x : Scan). record { one = x; two = x; three = x }) e in
    subst (λ (x : LanesOne). ScanningOne stored records x 0) (sym w) (record {
      to = record { one = zero_to; two = zero_to; three = omega arith; last = refl };
      each = λ rs h. record { one = refl; two = refl; three = refl };
    })
  where
    START : Scan
    START = record { settled = 0; deeper = 0; waiting = None; found = None }

    zero_to : ScanTo (record { settled = 0; deeper = 0; waiting = None; found = None }) 0
    zero_to = record { settled = omega arith; deeper = omega arith }

-- all three levels are compared
pub compared_one : (stored : LevelsOne) (l : LanesOne) (n : ℕ) (rs : List Record) → ScanningOneOf stored rs l n → l.three.waiting ≡ None →
    length rs ≤ n → difference_of_one stored l ≡ differ_levels_one stored (levels_one rs)
unfolding levels_one
compared_one stored l n rs s w past =
    let one = sym (end_is stored.level1 1 l.one n rs past) ∙ s.one ∙ ap (differ 0 stored.level1) (sym (by_scan 1 rs)) in
    let two = sym (end_is stored.level2 2 l.two n rs past) ∙ s.two ∙ ap (differ 0 stored.level2) (sym (by_scan 2 rs)) in
    let three = sym (last_end stored.level3 3 l.three n rs past w) ∙ s.three in
    rw (one, two, three) refl

-- three levels that do not differ are the same
pub same_levels_one : (stored real : LevelsOne) → differ_levels_one stored real ≡ None → stored ≡ real
same_levels_one stored real h =
    let a = or_none 1 _ _ h in
    let b = or_none 2 _ _ a.1 in
    let c = or_none 3 _ None b.1 in
    levels_of (same_list 0 stored.level1 real.level1 a.0) (same_list 0 stored.level2 real.level2 b.0) (same_list 0 stored.level3 real.level3 c.0)
  where
    levels_of : stored.level1 ≡ real.level1 → stored.level2 ≡ real.level2 → stored.level3 ≡ real.level3 → stored ≡ real
    levels_of a b c =
        let p : (record { level1 = stored.level1; level2 = stored.level2; level3 = stored.level3 }) ≡ real = rw (a, b, c) refl in p
