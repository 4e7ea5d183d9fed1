-- Whether an element between a node and the elements round another element declares a prefix, by indexes.
use Rattle.std.proofs.Common.{◌≡◌, ℕ, suc, ◌+◌, ◌<◌, ◌≤◌, Bool, true, false, inl, inr, List, [], ◌∷◌, ◌++◌, refl, ap, ap₂, sym, ◌∙◌, subst, arith, append_assoc, ◌&&◌, ◌||◌, not, ◌==◌, eqb-true, eq-eqb}
use Rattle.std.specs.Prelude.{Contains}
use Rattle.std.specs.List.{list_any}
use Rattle.std.proofs.lemmas.Bool.{false≢true, false_from_ne_true, or_cases, or_left, or_right, and_parts, not-true, cases_lt}
use Rattle.xml_model.specs.Items.{Tag}
use Rattle.xml_model.specs.Laws.{is_root_thing, is_under}
use Rattle.xml_model.specs.Nest.{Forest, is_nest}
use Rattle.xml_model.specs.Tree.{Thing, Entry, Holder, all, kind_of, steps}
use Rattle.xml_model.proofs.Each.{each_at}
use Rattle.xml_model.proofs.Indexes.{one_node}
use Rattle.xml_model.proofs.NodeLaws.{places_of_two}
use Rattle.xml_model.proofs.Intervals.{all_some}
use Rattle.xml_model.proofs.TreeOrder.{under_is, under_within}
use Rattle.vtd_namespaces.specs.Scope.{Chain, tags_in}
use Rattle.vtd_namespaces.proofs.ChainLemmas.{document_chain}
use Rattle.xml_fragments.specs.Cut.{has_declaration}
use Rattle.xml_fragments.specs.Fragment.{binds, is_written, reaching}
use Rattle.xml_fragments.proofs.NeededBy.{binds_far}
use Rattle.xml_fragments.proofs.Subtree.{Falls, steps_are}
use Rattle.vtd_fragment.specs.Named.{is_named}
use Rattle.vtd_fragment.specs.declared.prefixes.Declared.{Declared}
use Rattle.vtd_fragment.specs.Prefixes.{IsNearest, Passed}
use Rattle.vtd_fragment.specs.Round.{is_hit}
use Rattle.vtd_fragment.proofs.HoldLemmas.{Above, above_holds, holder_above}
use Rattle.vtd_fragment.proofs.SearchLemmas.{OwnFalls, all_fall, reaching_falls, reaching_extends, is_inside, extends_at}

-- ---- lists whose indexes fall

falls_after : (n : ℕ) (a b hs : List Holder) (h g : Holder) → Falls n (a ++ h ∷ (b ++ g ∷ hs)) → g.index < h.index
falls_after n [] b hs h g f = by h.index b f.1
  where
    by : (n : ℕ) (b : List Holder) → Falls n (b ++ g ∷ hs) → g.index < n
    by n [] f = f.0
    by n (x ∷ b) f = omega (arith, by x.index b f.1, f.0)
falls_after n (x ∷ a) b hs h g f = falls_after x.index a b hs h g f.1

-- what is high enough is among the first
among_first : (q : Tag → Bool) (n : ℕ) (xs hs a b : List Holder) (h : Holder) → xs ++ hs ≡ a ++ h ∷ b → Falls n hs → n ≤ h.index → q h.tag ≡ true → list_any q (tags_in xs) ≡ true
among_first q n [] hs a b h e f l t = absurd (omega (arith, low n a (subst (Falls n) e f), l))
  where
    low : (n : ℕ) (a : List Holder) → Falls n (a ++ h ∷ b) → h.index < n
    low n [] f = f.0
    low n (x ∷ a) f = omega (arith, low x.index a f.1, f.0)
among_first q n (x ∷ xs) hs [] b h e f l t =
    let same : x ≡ h = cc in ap (λ (c : Bool). c || list_any q (tags_in xs)) (ap (λ (y : Holder). q y.tag) same ∙ t)
among_first q n (x ∷ xs) hs (y ∷ a) b h e f l t =
    let rest : xs ++ hs ≡ a ++ h ∷ b = cc in or_right (q x.tag) (list_any q (tags_in xs)) (among_first q n xs hs a b h rest f l t)

-- one of them passes
record Passing (q : Tag → Bool) (xs : List Holder) : Type 0 where
  before : List Holder
  after : List Holder
  holder : Holder
  split : xs ≡ before ++ holder ∷ after
  passes : q holder.tag ≡ true

passing : (q : Tag → Bool) (xs : List Holder) → list_any q (tags_in xs) ≡ true → Passing q xs
passing q [] h = absurd (false≢true h)
passing q (x ∷ xs) h = elim (or_cases (q x.tag) (list_any q (tags_in xs)) h) [
  | inl t ↦ record { before = []; after = xs; holder = x; split = refl; passes = t }
  | inr t ↦ let p = passing q xs t in record { before = x ∷ p.before; after = p.after; holder = p.holder; split = ap (λ (l : List Holder). x ∷ l) p.split; passes = p.passes }
]

-- ---- elements that reach a node

-- an element that covers a node: itself or one above it
record Cover (nest : Forest) (first : ℕ) (h : Holder) (x : Entry) : Type 0 where
  entry : Entry
  there : Contains (all nest first) entry
  inside : Forest
  what : entry.what ≡ Thing.element h.tag inside
  index : entry.index ≡ h.index
  low : entry.index ≤ x.index
  high : x.index < entry.past

cover_above : (nest : Forest) (first : ℕ) (h : Holder) (x : Entry) → Above nest first h x → Cover nest first h x
cover_above nest first h x a =
    let w = under_within a.entry x a.under in record { entry = a.entry; there = a.there; inside = a.inside; what = a.what; index = a.index; low = omega (arith, w.0); high = w.1 }

no_root_named : (what : Thing) → is_named what ≡ true → is_root_thing what ≡ false
no_root_named (Thing.element t inside) h = refl
no_root_named (Thing.attribute a) h = refl
no_root_named (Thing.root first f) h = absurd (false≢true h)
no_root_named (Thing.text xs) h = absurd (false≢true h)
no_root_named (Thing.comment cs) h = absurd (false≢true h)
no_root_named (Thing.instruction i) h = absurd (false≢true h)

chain_at : (nest : Forest) (first : ℕ) (x : Entry) → Contains (all nest first) x → Chain (all nest first) x.holders
chain_at nest first x c = each_at (λ y. Chain (all nest first) y.holders) (all nest first) x (document_chain nest first) c

some_at : (nest : Forest) (first : ℕ) (x : Entry) → Contains (all nest first) x → x.index < x.past
some_at nest first x c = each_at (λ (y : Entry). y.index < y.past) (all nest first) x (all_some nest first) c

reach_covers : (nest : Forest) (first : ℕ) → is_nest nest ≡ true → (x : Entry) → Contains (all nest first) x → is_named x.what ≡ true → (a b : List Holder) (h : Holder) → reaching x ≡ a ++ h ∷ b → Cover nest first h x
reach_covers nest first n x c k a b h e = by x.what refl k a e
  where
    held : is_named x.what ≡ true → (a : List Holder) → x.holders ≡ a ++ h ∷ b → Cover nest first h x
    held k a e = cover_above nest first h x (holder_above nest first n a b h x c (no_root_named x.what k) e (subst (Chain (all nest first)) e (chain_at nest first x c)))

    by : (what : Thing) → x.what ≡ what → is_named what ≡ true → (a : List Holder) → reaching (record x { what = what }) ≡ a ++ h ∷ b → Cover nest first h x
    by (Thing.element t inside) w k [] e =
        let same : ◌≡◌ {A = Holder} (record { tag = t; index = x.index }) h = cc in
        record { entry = x; there = c; inside = inside; what = w ∙ ap (λ (y : Holder). Thing.element y.tag inside) same; index = ap (λ (y : Holder). y.index) same; low = omega arith; high = some_at nest first x c }
    by (Thing.element t inside) w k (g ∷ a) e = let rest : x.holders ≡ a ++ h ∷ b = cc in held (ap is_named w) a rest
    by (Thing.attribute q) w k a e = held (ap is_named w) a e
    by (Thing.root u f) w k a e = absurd (false≢true k)
    by (Thing.text xs) w k a e = absurd (false≢true k)
    by (Thing.comment cs) w k a e = absurd (false≢true k)
    by (Thing.instruction i) w k a e = absurd (false≢true k)

-- an element that covers a node reaches it
record Reach (y x : Entry) : Type 0 where
  before : List Holder
  after : List Holder
  holder : Holder
  split : reaching x ≡ before ++ holder ∷ after
  index : y.index ≡ holder.index
  inside : Forest
  what : y.what ≡ Thing.element holder.tag inside

reach_more : (x : Entry) (a b : List Holder) (h : Holder) → x.holders ≡ a ++ h ∷ b → (before : List Holder) × (reaching x ≡ before ++ h ∷ b)
reach_more x a b h e = by x.what
  where
    by : (what : Thing) → (before : List Holder) × (reaching (record x { what = what }) ≡ before ++ h ∷ b)
    by (Thing.element t inside) = let own : Holder = record { tag = t; index = x.index } in (own ∷ a, ap (λ (l : List Holder). own ∷ l) e)
    by (Thing.attribute q) = (a, e)
    by (Thing.root u f) = (a, e)
    by (Thing.text xs) = (a, e)
    by (Thing.comment cs) = (a, e)
    by (Thing.instruction i) = (a, e)

cover_reaches : (nest : Forest) (first : ℕ) → is_nest nest ≡ true → (y x : Entry) → Contains (all nest first) y → Contains (all nest first) x → (t : Tag) (inside : Forest) → y.what ≡ Thing.element t inside → y.index ≤ x.index → x.index < y.past → Reach y x
cover_reaches nest first n y x c d t inside w low high = elim (cases_lt y.index x.index) [
  | inl above ↦
      let a = above_holds nest first n (suc x.index) y x c d (ap kind_of w) x.holders refl (chain_at nest first x d) (omega arith) (under_is y x above high) in
      let r = reach_more x a.near a.far a.holder a.split in
      record { before = r.0; after = a.far; holder = a.holder; split = r.1; index = a.index; inside = a.inside; what = a.what }
  | inr not_above ↦
      let same : y ≡ x = one_node nest first y x c d (omega (arith, low, not_above)) in
      own x (ap (λ (z : Entry). z.what) (sym same) ∙ w) (ap (λ (z : Entry). z.index) same)
]
  where
    own : (x : Entry) → x.what ≡ Thing.element t inside → y.index ≡ x.index → Reach y x
    own x e i =
        let h : Holder = record { tag = t; index = x.index } in
        record { before = []; after = x.holders; holder = h; split = ap (λ (q : Thing). reaching (record x { what = q })) e; index = i; inside = inside; what = w }

-- ---- whether a name is bound by the nearest of the elements round another element

pub inside_range : (nest : Forest) (first : ℕ) (e x : Entry) → Contains (all nest first) e → Contains (all nest first) x → is_inside e x ≡ true → (e.index ≤ x.index) × (x.index < e.past)
inside_range nest first e x c d h =
    let w = places_of_two nest first e x c d in
    elim (or_cases (e.index == x.index) (is_under e x) (ap₂ (λ (a b : Bool). a || b) (sym w.same) (sym w.under) ∙ sym (steps_are (steps e.path x.path)) ∙ h)) [
      | inl t ↦ let i = eqb-true e.index x.index t in (omega (arith, i), omega (arith, i, some_at nest first e c))
      | inr t ↦ let u = under_within e x t in (omega (arith, u.0), u.1)
    ]

pub inside_from_range : (nest : Forest) (first : ℕ) (e x : Entry) → Contains (all nest first) e → Contains (all nest first) x → e.index ≤ x.index → x.index < e.past → is_inside e x ≡ true
inside_from_range nest first e x c d low high =
    let w = places_of_two nest first e x c d in
    steps_are (steps e.path x.path) ∙ ap₂ (λ (a b : Bool). a || b) w.same w.under ∙ elim (cases_lt e.index x.index) [
      | inl lt ↦ or_right (e.index == x.index) _ (under_is e x lt high)
      | inr ge ↦ or_left (e.index == x.index) _ (eq-eqb e.index x.index (omega (arith, ge, low)))
    ]

any_append : (q : Tag → Bool) (a b : List Holder) → list_any q (tags_in b) ≡ false → list_any q (tags_in (a ++ b)) ≡ list_any q (tags_in a)
any_append q [] b h = h
any_append q (x ∷ a) b h = ap (λ (c : Bool). q x.tag || c) (any_append q a b h)

both_ways : (b w h : Bool) → b ≡ not h → (b && w) ≡ (w && not h)
both_ways true w h e = turn w ∙ ap (λ (c : Bool). w && c) e
  where
    turn : (w : Bool) → w ≡ (w && true)
    turn true = refl
    turn false = refl
both_ways false w h e = turn w ∙ ap (λ (c : Bool). w && c) e
  where
    turn : (w : Bool) → false ≡ (w && false)
    turn true = refl
    turn false = refl

written_named : (p : List ℕ) (what : Thing) → is_written p what ≡ true → is_named what ≡ true
written_named p (Thing.element t inside) h = refl
written_named p (Thing.attribute a) h = refl
written_named p (Thing.root u f) h = absurd (false≢true h)
written_named p (Thing.text xs) h = absurd (false≢true h)
written_named p (Thing.comment cs) h = absurd (false≢true h)
written_named p (Thing.instruction i) h = absurd (false≢true h)

-- what is bound has a name
pub hit_other : (x : Entry) (p : List ℕ) (u : Holder) → is_hit p u x ≡ true → is_named x.what ≡ true
hit_other x p u h = written_named p x.what (and_parts (binds p u (reaching x)) (is_written p x.what) h).1

any_later : (q : Tag → Bool) (a b : List Holder) → list_any q (tags_in b) ≡ true → list_any q (tags_in (a ++ b)) ≡ true
any_later q [] b h = h
any_later q (x ∷ a) b h = or_right (q x.tag) (list_any q (tags_in (a ++ b))) (any_later q a b h)

module _ (nest : Forest) (first : ℕ) (n : is_nest nest ≡ true) (e : Entry) (own : Contains (all nest first) e) (t : Tag) (inner : Forest) (element_is : e.what ≡ Thing.element t inner) where
  -- the elements that reach a node at or under the element
  record Near (x : Entry) : Type 0 where
    near : List Holder
    split : reaching x ≡ near ++ e.holders
    falls : Falls (suc x.index) (near ++ e.holders)

  near_of : (x : Entry) → Contains (all nest first) x → is_inside e x ≡ true → Near x
  near_of x c h =
      let k = reaching_extends x e.holders (extends_at nest first e t inner x own element_is c h) in
      record { near = k.0; split = k.1; falls = subst (Falls (suc x.index)) k.1 (reaching_falls x (each_at OwnFalls (all nest first) x (all_fall nest first) c)) }

  hit_near : (x : Entry) (k : Near x) (p : List ℕ) (level : ℕ) (s : IsNearest e.holders p level) → is_hit p s.holder x ≡ (is_written p x.what && not (list_any (has_declaration p) (tags_in k.near)))
  hit_near x k p level s =
      let is : reaching x ≡ (k.near ++ s.near) ++ s.holder ∷ s.far = k.split ∙ ap (λ (l : List Holder). k.near ++ l) s.split ∙ sym (append_assoc k.near s.near (s.holder ∷ s.far)) in
      let falls = subst (Falls (suc x.index)) (sym k.split ∙ is) k.falls in
      both_ways (binds p s.holder (reaching x)) (is_written p x.what) (list_any (has_declaration p) (tags_in k.near))
      (ap (binds p s.holder) is ∙ binds_far (k.near ++ s.near) s.far s.holder p (suc x.index) falls s.declares ∙ ap not (any_append (has_declaration p) k.near s.near s.nearest))

  -- what is bound is written, and not hidden
  pub hit_out : (x : Entry) → Contains (all nest first) x → is_inside e x ≡ true → (names : ℕ) (p : List ℕ) (d : Declared) (s : Passed (all nest first) e (x.index + 1) names p d) → is_hit p s.nearest.holder x ≡ true →
      (is_written p x.what ≡ true) × (d.hidden ≤ x.index)
  hit_out x c h names p d s hit =
      let k = near_of x c h in
      let q = has_declaration p in
      let parts = and_parts (is_written p x.what) (not (list_any q (tags_in k.near))) (sym (hit_near x k p d.level s.nearest) ∙ hit) in
      let none : list_any q (tags_in k.near) ≡ false = not-true (list_any q (tags_in k.near)) parts.1 in (
        parts.0,
        elim (cases_lt x.index d.hidden) [
          | inr done ↦ done
          | inl over ↦ elim s.hidden [
            | inl zero ↦ absurd (omega (arith, zero, over))
            | inr w ↦
                let y = w.0 in
                let r = cover_reaches nest first n y x w.1.there c w.1.tag w.1.inside w.1.what (omega (arith, w.1.before)) (omega (arith, w.2, over)) in
                let tags : ◌≡◌ {A = Thing} (Thing.element w.1.tag w.1.inside) (Thing.element r.holder.tag r.inside) = sym w.1.what ∙ r.what in
                let tag : w.1.tag ≡ r.holder.tag = cc in
                let own_falls = each_at OwnFalls (all nest first) e (all_fall nest first) own in
                absurd (false≢true (sym none ∙ among_first q e.index k.near e.holders r.before r.after r.holder (sym k.split ∙ r.split) own_falls (omega (arith, w.1.from, r.index)) (ap q (sym tag) ∙ w.1.declares)))
          ]
        ],
      )

  -- and what is written and not hidden is bound
  pub hit_back : (x : Entry) → Contains (all nest first) x → is_inside e x ≡ true → is_named x.what ≡ true → (names : ℕ) (p : List ℕ) (d : Declared) (s : Passed (all nest first) e (x.index + 1) names p d) → is_written p x.what ≡ true → d.hidden ≤ x.index →
      is_hit p s.nearest.holder x ≡ true
  hit_back x c h named names p d s written open_ =
      let k = near_of x c h in
      let q = has_declaration p in
      let none : list_any q (tags_in k.near) ≡ false = false_from_ne_true (list_any q (tags_in k.near)) (λ some. against x c h named k p d names s open_ (passing q k.near some)) in
      hit_near x k p d.level s.nearest ∙ ap₂ (λ (a b : Bool). a && not b) written none
    where
      against : (x : Entry) → Contains (all nest first) x → is_inside e x ≡ true → is_named x.what ≡ true → (k : Near x) (p : List ℕ) (d : Declared) (names : ℕ) (s : Passed (all nest first) e (x.index + 1) names p d) → d.hidden ≤ x.index → Passing (has_declaration p) k.near → ⊥
      against x c h named k p d names s open_ v =
          let is : reaching x ≡ v.before ++ v.holder ∷ (v.after ++ e.holders) = k.split ∙ ap (λ (l : List Holder). l ++ e.holders) v.split ∙ append_assoc v.before (v.holder ∷ v.after) e.holders in
          let y = reach_covers nest first n x c named v.before (v.after ++ e.holders) v.holder is in
          let range = inside_range nest first e x own c h in
          elim (cases_lt y.entry.index e.index) [
            | inl outer ↦
                let a = above_holds nest first n (suc e.index) y.entry e y.there own (ap kind_of y.what) e.holders refl (chain_at nest first e own) (omega arith) (under_is y.entry e outer (omega (arith, y.high, range.0))) in
                let long : k.near ++ e.holders ≡ v.before ++ v.holder ∷ ((v.after ++ a.near) ++ a.holder ∷ a.far) =
                sym k.split ∙ is ∙ ap (λ (l : List Holder). v.before ++ v.holder ∷ l) (ap (λ (l : List Holder). v.after ++ l) a.split ∙ sym (append_assoc v.after a.near (a.holder ∷ a.far))) in
                let lower = falls_after (suc x.index) v.before (v.after ++ a.near) a.far v.holder a.holder (subst (Falls (suc x.index)) long k.falls) in
                omega (arith, lower, y.index, a.index)
            | inr inner_ ↦
                let past = s.hides y.entry (record { there = y.there; tag = v.holder.tag; inside = y.inside; what = y.what; declares = v.passes; from = inner_; before = omega (arith, y.low) }) in
                omega (arith, past, open_, y.high)
          ]

  -- no name is bound by a declaration that a nearer one hides
  pub hit_hidden : (x : Entry) → Contains (all nest first) x → is_inside e x ≡ true → (near far : List Holder) (h : Holder) → e.holders ≡ near ++ h ∷ far → (p : List ℕ) → has_declaration p h.tag ≡ true →
      list_any (has_declaration p) (tags_in near) ≡ true → is_hit p h x ≡ false
  hit_hidden x c i near far h split p declares some =
      let k = near_of x c i in
      let is : reaching x ≡ (k.near ++ near) ++ h ∷ far = k.split ∙ ap (λ (l : List Holder). k.near ++ l) split ∙ sym (append_assoc k.near near (h ∷ far)) in
      let falls = subst (Falls (suc x.index)) (sym k.split ∙ is) k.falls in
      ap (λ (b : Bool). b && is_written p x.what) (ap (binds p h) is ∙ binds_far (k.near ++ near) far h p (suc x.index) falls declares ∙ ap not (any_later (has_declaration p) k.near near some))
