-- A search that halves a range of positions.
use Rattle.std.proofs.Common.{◌≡◌, ℕ, zero, suc, ◌+◌, ◌-◌, ◌/◌, ◌*◌, ◌^◌, ◌<◌, ◌≤◌, List, length, slice_index, arith}
use Rattle.std.proofs.Math.Nat.{pow-suc}
use Rattle.vtd_location.specs.Children.{NeverFalls, Halves, Searching, FirstNotBelow}

-- half of a range takes one step less
halved : (span part now next most : ℕ) → 0 < span → part ≤ span / 2 → next ≤ now + 1 → Halves span now most → Halves part next most
halved span part now next most pos p r h = by h.steps h.range h.reads
  where
    by : (s : ℕ) → span < 2 ^ s → now + s ≤ most → Halves part next most
    by zero a b = absurd (omega (arith, a, pos))
    by (suc s) a b =
        let two : 2 ^ suc s ≡ 2 ^ s * 2 = pow-suc 2 s in
        record { steps = s; range = omega (arith, a, two, p); reads = omega (arith, b, r) }

pub search_higher : (xs : List ℕ) (wanted start now next low high middle : ℕ) → NeverFalls xs → low < high → middle ≡ low + (high - low) / 2 →
    slice_index xs middle < wanted → next ≤ now + 1 →
    Searching xs wanted start now low high → Searching xs wanted start next (middle + 1) high
search_higher xs wanted start now next low high middle f l m below r s = record {
  order = omega (arith, l, m);
  within = s.within;
  below = λ i h. let up = f i middle (omega (arith, h)) (omega (arith, l, m, s.within)) in omega (arith, up, below);
  above = s.above;
  reads = λ d k. halved (high - low) (high - (middle + 1)) now next (start + d) (omega (arith, l)) (omega (arith, l, m)) r (s.reads d k);
}

pub search_lower : (xs : List ℕ) (wanted start now next low high middle : ℕ) → NeverFalls xs → low < high → middle ≡ low + (high - low) / 2 →
    wanted ≤ slice_index xs middle → next ≤ now + 1 →
    Searching xs wanted start now low high → Searching xs wanted start next low middle
search_lower xs wanted start now next low high middle f l m above r s = record {
  order = omega (arith, m);
  within = omega (arith, l, m, s.within);
  below = s.below;
  above = λ i h k. let up = f middle i h k in omega (arith, up, above);
  reads = λ d k. halved (high - low) (middle - low) now next (start + d) (omega (arith, l)) (omega (arith, l, m)) r (s.reads d k);
}

pub search_first : (xs : List ℕ) (wanted start high : ℕ) → high ≡ length xs → Searching xs wanted start start 0 high
search_first xs wanted start high e = record {
  order = omega arith;
  within = omega (arith, e);
  below = λ i h. absurd (omega (arith, h));
  above = λ i h k. absurd (omega (arith, h, k, e));
  reads = λ d k. record { steps = d; range = omega (arith, k, e); reads = omega arith };
}

pub search_end : (xs : List ℕ) (wanted start now low high : ℕ) → high ≤ low → Searching xs wanted start now low high → FirstNotBelow xs wanted low
search_end xs wanted start now low high h s = record { within = omega (arith, s.order, s.within); below = s.below; above = λ i a b. s.above i (omega (arith, a, h, s.order)) b }

pub search_reads : (xs : List ℕ) (wanted start now low high d : ℕ) → length xs < 2 ^ d → Searching xs wanted start now low high → now ≤ start + d
search_reads xs wanted start now low high d h s = omega (arith, (s.reads d h).reads)
