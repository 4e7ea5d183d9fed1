-- What edits hold: nothing, with a list more, with the last splices taken off.
use Rattle.std.proofs.Common.{◌≡◌, ℕ, ◌+◌, ◌-◌, ◌%◌, ◌^◌, ◌<◌, ◌≤◌, true, false, nat_lt, List, [], ◌++◌, length, take, drop, filter}
use Rattle.std.proofs.Common.{refl, sym, ap, subst, ◌∙◌, arith, inl, inr, length-append, take-append-drop, replicate}
use Rattle.std.specs.List.{All}
use Rattle.std.proofs.lemmas.Bool.{both_ways, cases_lt}
use Rattle.std.proofs.lemmas.List.{length-replicate, length-take-le, get_or-take}
use Rattle.std.proofs.lemmas.List.Elements.{All-append, All-nil, All-take, All-weaker}
use Rattle.std.proofs.lemmas.List.Sums.{sum_by-append}
use Rattle.std.proofs.Math.ListN.{get_or-append}
use Rattle.vtd_edits.specs.declared.splice.Splice.{Splice}
use Rattle.vtd_edits.specs.declared.splice.Splice.TheVariants.{Replace, Insert}
use Rattle.vtd_edits.specs.declared.staging.Plan.{Plan}
use Rattle.vtd_edits.specs.Splices.{end_of, overlap, splice_at, spliced, start_of, text_limit, text_of, text_size, AreApart, AreEdits, HasFirstOverlap}
use Rattle.vtd_edits.specs.Splices.{IsWithin}
use Rattle.vtd_edits.specs.Order.{apart_to, order_of, taken_size, IsFirstPartner, IsHeld}
use Rattle.vtd_edits.specs.Plans.{IsPlan}
use Rattle.vtd_edits.proofs.Staged.{order_cut}
use Rattle.vtd_edits.proofs.Overlaps.{all_apart, apart_all, AreApartTo}
use Rattle.vtd_edits.proofs.Texts.{spliced_size}

pub held_none : (len : ℕ) (staged : List Splice) (order : List ℕ) → len < 2 ^ 30 → staged ≡ [] → order ≡ [] → IsHeld len staged order 0 0
unfolding order_of
held_none len staged order h e f =
    let P : List Splice → Type 0 = λ xs. IsHeld len xs order 0 0 in
    subst P (sym e) (record {
      sorted = f;
      edits = record { within = All-nil (IsWithin len); apart = λ i j l m. absurd (omega (arith, m)); short = omega arith };
      texts = refl;
      takes = refl;
      few = omega arith;
      small = h;
    })

-- How many bytes there are.

size_of : (len : ℕ) (staged : List Splice) (bytes : List ℕ) → AreEdits (record { len = len; splices = staged }) → length staged ≤ 2 ^ 32 → length bytes ≡ len
    → length (spliced bytes staged) + taken_size staged ≡ len + text_size staged
size_of len staged bytes e few h =
    let w : All (IsWithin (length bytes)) staged = subst (λ (n : ℕ). All (IsWithin n) staged) (sym h) e.within in
    spliced_size bytes staged few w e.apart ∙ ap (λ (n : ℕ). n + text_size staged) h

-- no more bytes are taken away than there are
pub taken_bound : (len : ℕ) (staged : List Splice) → AreEdits (record { len = len; splices = staged }) → length staged ≤ 2 ^ 32
    → taken_size staged ≤ len + text_size staged
taken_bound len staged e few =
    let bytes : List ℕ = replicate len 0 in
    let size = size_of len staged bytes e few (length-replicate len 0) in
    omega (arith, size)

pub held_room : (len : ℕ) (staged : List Splice) (order : List ℕ) (text taken : ℕ) → IsHeld len staged order text taken → taken ≤ len + text
held_room len staged order text taken h =
    let b = taken_bound len staged h.edits (let f = h.few in omega (arith, f)) in
    let t = h.texts in
    let u = h.takes in
    omega (arith, b, t, u)

pub held_length : (len : ℕ) (staged : List Splice) (order : List ℕ) (text taken : ℕ) → IsHeld len staged order text taken
    → (bytes : List ℕ) → length bytes ≡ len → len + text - taken ≡ length (spliced bytes staged)
held_length len staged order text taken h bytes e =
    let size = size_of len staged bytes h.edits (let f = h.few in omega (arith, f)) e in
    let t = h.texts in
    let u = h.takes in
    omega (arith, size, t, u)

-- With a list more.

low_start : (len : ℕ) → len < 2 ^ 30 → (x : Splice) → IsWithin len x → start_of x < 2 ^ 30
low_start len h (Insert at text) w = omega (arith, h, w)
low_start len h (Replace start end text) w = (let a = w.0 in let b = w.1 in omega (arith, h, a, b))

pub low_starts : (len : ℕ) (list : List Splice) → len < 2 ^ 30 → All (IsWithin len) list → All (λ x. start_of x < 2 ^ 30) list
low_starts len list h w = All-weaker (IsWithin len) (λ x. start_of x < 2 ^ 30) (low_start len h) list w

pub whole_apart : (len : ℕ) (staged list : List Splice) (order : List ℕ) → order ≡ order_of (staged ++ list) → length staged + length list < 2 ^ 32
    → All (IsWithin len) staged → All (IsWithin len) list → apart_to (staged ++ list) order (length staged + length list) ≡ true → AreApart (staged ++ list)
whole_apart len staged list order o few w v a =
    let e = length-append staged list in
    let b : apart_to (staged ++ list) (order_of (staged ++ list)) (length staged + length list) ≡ true =
    sym (ap (λ (ks : List ℕ). apart_to (staged ++ list) ks (length staged + length list)) o) ∙ a in
    let all = all_apart (staged ++ list) len (length staged + length list) (omega (arith, few, e)) (All-append (IsWithin len) staged list w v)
    (omega (arith, e)) b in
    λ i j l m. all i j l (omega (arith, m, e))

-- the staged ones among all
pub prefix_apart : (staged list : List Splice) (order : List ℕ) → order ≡ order_of (staged ++ list) → length staged + length list < 2 ^ 32
    → AreApart staged → apart_to (staged ++ list) order (length staged) ≡ true
prefix_apart staged list order o few a =
    let e = length-append staged list in
    let same : (i : ℕ) → i < length staged → splice_at (staged ++ list) i ≡ splice_at staged i = λ i h. get_or-append staged list (Insert 0 []) i h in
    let b : AreApartTo (staged ++ list) (length staged) =
    λ i j l m. ap (λ (x : Splice). overlap x (splice_at (staged ++ list) i)) (same j m) ∙ ap (overlap (splice_at staged j)) (same i (omega (arith, l, m)))
    ∙ a i j l m in
    ap (λ (ks : List ℕ). apart_to (staged ++ list) ks (length staged)) o ∙ apart_all (staged ++ list) (length staged) (omega (arith, few, e)) b

-- where the first overlap is
pub found_overlap : (splices : List Splice) (len later earlier : ℕ) (order : List ℕ) → order ≡ order_of splices → length splices < 2 ^ 32
    → All (IsWithin len) splices
    → later < length splices → apart_to splices order later ≡ true → IsFirstPartner splices later earlier
    → (m n : ℕ) (x y : Splice) → m ≡ start_of x → x ≡ splice_at splices earlier → n ≡ start_of y → y ≡ splice_at splices later → HasFirstOverlap splices m n
found_overlap splices len later earlier order o few w h a p m n x y d e f g =
    let b : apart_to splices (order_of splices) later ≡ true = sym (ap (λ (ks : List ℕ). apart_to splices ks later) o) ∙ a in
    let before : AreApartTo splices later = all_apart splices len later (omega (arith, few)) w (omega (arith, h)) b in
    record {
      i = earlier;
      j = later;
      order = p.below;
      below = h;
      overlaps = p.overlaps;
      first = λ k l q r. before k l q r;
      partner = λ k q. p.first k q;
      start = d ∙ ap start_of e;
      other_start = f ∙ ap start_of g;
    }

-- and it is there
pub overlap_there : (splices : List Splice) (len later : ℕ) (order : List ℕ) → order ≡ order_of splices → length splices < 2 ^ 32 → All (IsWithin len) splices
    → later < length splices → apart_to splices order later ≡ true → apart_to splices order (later + 1) ≡ false
    → ((k : ℕ) → k < later → overlap (splice_at splices later) (splice_at splices k) ≡ false) → ⊥
overlap_there splices len later order o few w h a f none =
    let b : apart_to splices (order_of splices) later ≡ true = sym (ap (λ (ks : List ℕ). apart_to splices ks later) o) ∙ a in
    let before : AreApartTo splices later = all_apart splices len later (omega (arith, few)) w (omega (arith, h)) b in
    let more : AreApartTo splices (later + 1) = λ i j l m. one_more before i j l m in
    both_ways (apart_to splices order (later + 1)) f (ap (λ (ks : List ℕ). apart_to splices ks (later + 1)) o
    ∙ apart_all splices (later + 1) (omega (arith, few)) more)
  where
    one_more : AreApartTo splices later → (i j : ℕ) → i < j → j < later + 1 → overlap (splice_at splices j) (splice_at splices i) ≡ false
    one_more before i j l m = elim (cases_lt j later) [
      | inl n ↦ before i j l n
      | inr n ↦
          let e : later ≡ j = omega (arith, m, n) in
          subst (λ (q : ℕ). overlap (splice_at splices q) (splice_at splices i) ≡ false) e (none i (omega (arith, l, e)))
    ]

pub plan_of : (len : ℕ) (staged list : List Splice) (plan : Plan) (order : List ℕ) (text taken : ℕ) → IsHeld len staged order text taken
    → All (IsWithin len) list
    → length staged + length list < 2 ^ 32 → plan.order.items ≡ order_of (staged ++ list) → AreApart (staged ++ list)
    → plan.text ≡ text + text_size list → plan.text ≤ text_limit → plan.taken ≡ taken + taken_size list → IsPlan len (staged ++ list) plan
plan_of len staged list plan order text taken h w few o a t u v =
    let texts : plan.text ≡ text_size (staged ++ list) =
    t ∙ ap (λ (n : ℕ). n + text_size list) h.texts ∙ sym (sum_by-append (λ x. length (text_of x)) staged list) in
    record {
      sorted = o;
      edits = record { within = All-append (IsWithin len) staged list h.edits.within w; apart = a; short = subst (λ (n : ℕ). n ≤ text_limit) texts u };
      texts = texts;
      takes = v ∙ ap (λ (n : ℕ). n + taken_size list) h.takes ∙ sym (sum_by-append (λ x. end_of x - start_of x) staged list);
      few = (let e = length-append staged list in omega (arith, few, e));
    }

-- all the texts are too long
pub too_long : (len : ℕ) (staged list : List Splice) (order : List ℕ) (text taken : ℕ) → IsHeld len staged order text taken
    → text_limit < text + text_size list → text_limit < text_size (staged ++ list)
too_long len staged list order text taken h l =
    let e = sum_by-append (λ x. length (text_of x)) staged list in
    let t = h.texts in
    omega (arith, l, e, t)

-- what all take away fits
pub taken_fits : (len : ℕ) (staged list : List Splice) (order : List ℕ) (text taken more : ℕ) → IsHeld len staged order text taken → All (IsWithin len) list
    → length staged + length list < 2 ^ 32 → AreApart (staged ++ list) → more ≡ text + text_size list → more ≤ text_limit → taken + taken_size list < 2 ^ 32
taken_fits len staged list order text taken more h w few a t u =
    let e = length-append staged list in
    let s = sum_by-append (λ x. length (text_of x)) staged list in
    let v = sum_by-append (λ x. end_of x - start_of x) staged list in
    let p = h.texts in
    let q = h.takes in
    let edits : AreEdits (record { len = len; splices = staged ++ list }) =
    record { within = All-append (IsWithin len) staged list h.edits.within w; apart = a; short = omega (arith, s, p, t, u) } in
    let b = taken_bound len (staged ++ list) edits (omega (arith, few, e)) in
    let small = h.small in
    omega (arith, b, s, v, p, q, t, u, small)

pub held_plan : (len : ℕ) (all splices : List Splice) (plan : Plan) → len < 2 ^ 30 → IsPlan len splices plan → all ≡ splices
    → IsHeld len all plan.order.items plan.text plan.taken
held_plan len all splices plan h p e =
    subst (λ (xs : List Splice). IsHeld len xs plan.order.items plan.text plan.taken) (sym e)
    (record { sorted = p.sorted; edits = p.edits; texts = p.texts; takes = p.takes; few = p.few; small = h })

-- With the last splices taken off.

-- sizes of the two parts
pub record Parts (staged : List Splice) (n text taken : ℕ) : Type 0 where
  pub texts : text_size (take n staged) + text_size (drop n staged) ≡ text
  pub takes : taken_size (take n staged) + taken_size (drop n staged) ≡ taken
  pub short : text < 2 ^ 32
  pub few : taken < 2 ^ 32

pub parts_of : (len : ℕ) (staged : List Splice) (order : List ℕ) (text taken n : ℕ) → IsHeld len staged order text taken → Parts staged n text taken
parts_of len staged order text taken n h =
    let b = held_room len staged order text taken h in
    let t = h.texts in
    let s = h.edits.short in
    let small = h.small in
    record {
      texts = sym (sum_by-append (λ x. length (text_of x)) (take n staged) (drop n staged)) ∙ ap text_size (take-append-drop n staged) ∙ sym h.texts;
      takes = sym (sum_by-append (λ x. end_of x - start_of x) (take n staged) (drop n staged)) ∙ ap taken_size (take-append-drop n staged) ∙ sym h.takes;
      short = omega (arith, t, s);
      few = omega (arith, b, t, s, small);
    }

pub held_cut : (len : ℕ) (staged left : List Splice) (order kept : List ℕ) (text taken n rest_text rest_taken : ℕ) → IsHeld len staged order text taken
    → n ≤ length staged
    → left ≡ take n staged → kept ≡ filter (λ k. nat_lt (k % 2 ^ 32) n) order
    → rest_text ≡ text - text_size (drop n staged) → rest_taken ≡ taken - taken_size (drop n staged) → IsHeld len left kept rest_text rest_taken
held_cut len staged left order kept text taken n rest_text rest_taken h m l k t u =
    let f = h.few in
    let size : length (take n staged) ≡ n = length-take-le n staged m in
    let parts = parts_of len staged order text taken n h in
    let p = parts.texts in
    let q = parts.takes in
    let s = h.edits.short in
    let v = h.texts in
    let same : (i : ℕ) → i < n → splice_at (take n staged) i ≡ splice_at staged i = λ i o. get_or-take n staged i (Insert 0 []) o in
    subst (λ (xs : List Splice). IsHeld len xs kept rest_text rest_taken) (sym l) (record {
      sorted = k ∙ ap (filter (λ (k : ℕ). nat_lt (k % 2 ^ 32) n)) h.sorted ∙ order_cut staged n (omega (arith, f));
      edits = record {
        within = All-take (IsWithin len) n staged h.edits.within;
        apart = λ i j o r.
            (let a : j < n = omega (arith, r, size) in
            ap (λ (x : Splice). overlap x (splice_at (take n staged) i)) (same j a)
            ∙ ap (overlap (splice_at staged j)) (same i (omega (arith, a, o)))
            ∙ h.edits.apart i j o (omega (arith, a, m)));
        short = omega (arith, p, s, v);
      };
      texts = omega (arith, t, p);
      takes = omega (arith, u, q);
      few = omega (arith, size, m, f);
      small = h.small;
    })

-- what the splices that are taken off have
pub record Cut (ys : List Splice) (text taken : ℕ) : Type 0 where
  pub texts : text_size ys ≤ text
  pub takes : taken_size ys ≤ taken
  pub short : text_size ys < 2 ^ 32
  pub few : taken_size ys < 2 ^ 32

pub cut_of : (len : ℕ) (staged : List Splice) (order : List ℕ) (text taken n : ℕ) (ys : List Splice) → IsHeld len staged order text taken → ys ≡ drop n staged
    → Cut ys text taken
cut_of len staged order text taken n ys h e =
    let parts = parts_of len staged order text taken n h in
    let p = parts.texts in
    let q = parts.takes in
    let s = parts.short in
    let f = parts.few in
    subst (λ (xs : List Splice). Cut xs text taken) (sym e)
    (record { texts = omega (arith, p); takes = omega (arith, q); short = omega (arith, p, s); few = omega (arith, q, f) })

-- the same of lists that are equal
pub held_seen : (len : ℕ) (xs ys : List Splice) (ks ls : List ℕ) (text taken : ℕ) → IsHeld len xs ks text taken → ys ≡ xs → ls ≡ ks
    → IsHeld len ys ls text taken
held_seen len xs ys ks ls text taken h e f =
    let P : List ℕ → Type 0 = λ ms. IsHeld len ys ms text taken in
    subst P (sym f) (subst (λ (zs : List Splice). IsHeld len zs ks text taken) (sym e) h)
