-- Child elements that are left.
use Rattle.std.proofs.Common.{◌≡◌, ℕ, zero, suc, ◌+◌, ◌<◌, ◌≤◌, Bool, true, false, cond, List, [], ◌∷◌, length, map, drop, slice_index, nat_lt, refl, ap, sym, ◌∙◌, arith, lt-ltb, le-ltb}
use Rattle.std.proofs.lemmas.List.{drop_all, drop_more, get_or-map}
use Rattle.vtd_words.specs.declared.word_vec.Part.{Part}
use Rattle.vtd_words.specs.Lists.{Lists, list_of}
use Rattle.vtd_location.specs.Children.{entry_record, entry_records, before_bound}

drop_of_map : (f : ℕ → ℕ) (n : ℕ) (xs : List ℕ) → drop n (map f xs) ≡ map f (drop n xs)
drop_of_map f zero xs = refl
drop_of_map f (suc n) [] = refl
drop_of_map f (suc n) (x ∷ xs) = drop_of_map f n xs

-- the entry at a position
pub entry_next : (part : Part) (lists : Lists) (at : ℕ) → at < length (list_of part lists) →
    drop at (entry_records part lists) ≡ entry_record part (slice_index (list_of part lists) at) ∷ drop (at + 1) (entry_records part lists)
entry_next part lists at within =
    let f = entry_record part in
    let xs = list_of part lists in
    drop_of_map f at xs ∙ ap (map f) (drop_more xs at 0 within) ∙ ap (λ (ys : List ℕ). f (slice_index xs at) ∷ ys) (sym (drop_of_map f (at + 1) xs))

pub next_some : (part : Part) (lists : Lists) (at bound n : ℕ) → at < length (list_of part lists) →
    n ≡ entry_record part (slice_index (list_of part lists) at) → n < bound →
    before_bound bound (drop at (entry_records part lists)) ≡ n ∷ before_bound bound (drop (at + 1) (entry_records part lists))
next_some part lists at bound n within e h =
    let t : nat_lt n bound ≡ true = lt-ltb n bound h in
    ap (before_bound bound) (entry_next part lists at within ∙ ap (λ (x : ℕ). x ∷ drop (at + 1) (entry_records part lists)) (sym e))
    ∙ ap (λ (b : Bool). cond b (n ∷ before_bound bound (drop (at + 1) (entry_records part lists))) []) t

pub next_past : (part : Part) (lists : Lists) (at bound n : ℕ) → at < length (list_of part lists) →
    n ≡ entry_record part (slice_index (list_of part lists) at) → bound ≤ n →
    before_bound bound (drop at (entry_records part lists)) ≡ []
next_past part lists at bound n within e h =
    let t : nat_lt n bound ≡ false = le-ltb n bound h in
    ap (before_bound bound) (entry_next part lists at within ∙ ap (λ (x : ℕ). x ∷ drop (at + 1) (entry_records part lists)) (sym e))
    ∙ ap (λ (b : Bool). cond b (n ∷ before_bound bound (drop (at + 1) (entry_records part lists))) []) t

map_long : (f : ℕ → ℕ) (xs : List ℕ) → length (map f xs) ≡ length xs
map_long f [] = refl
map_long f (x ∷ xs) = ap suc (map_long f xs)

pub next_none : (part : Part) (lists : Lists) (at bound : ℕ) → length (list_of part lists) ≤ at → before_bound bound (drop at (entry_records part lists)) ≡ []
next_none part lists at bound past = ap (before_bound bound) (drop_all at (entry_records part lists) (omega (arith, map_long (entry_record part) (list_of part lists))))

-- the record of the entry at a position
pub entry_at : (part : Part) (lists : Lists) (at : ℕ) → at < length (list_of part lists) →
    slice_index (entry_records part lists) at ≡ entry_record part (slice_index (list_of part lists) at)
entry_at part lists at within = get_or-map (entry_record part) (list_of part lists) at 0 0 within
