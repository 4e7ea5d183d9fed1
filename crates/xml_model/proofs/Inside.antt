-- What is in a node, by the levels of records; and which nodes hold others.
use Rattle.std.proofs.Common.{◌≡◌, ℕ, zero, suc, ◌+◌, ◌-◌, ◌<◌, ◌≤◌, ◌⊎◌, Bool, true, false, cond, ◌&&◌, ◌||◌, ◌==◌, List, [], ◌∷◌, ◌++◌, length}
use Rattle.std.proofs.Common.{take, refl, ap, ap₂, sym, ◌∙◌, subst, arith, Some, inl, inr, length-append, nat_lt, eq-eqb, eqb-true, lt-ltb}
use Rattle.std.proofs.Common.{ltb-true}
use Rattle.std.specs.List.{Contains, AllByRecursion as Each}
use Rattle.std.proofs.lemmas.Bool.{cases_lt, false≢true, false_from_ne_true, and_parts}
use Rattle.std.proofs.lemmas.List.{get_or_append_left, get_or-append-add, get_or-take, length-take}
use Rattle.xml_model.specs.declared.Kind.{Kind}
use Rattle.xml_model.specs.declared.Kind.TheVariants as kinds
use Rattle.xml_model.specs.declared.Axis.TheVariants as axes
use Rattle.xml_model.specs.Contexts.{Rises}
use Rattle.xml_model.specs.Items.{Tag, Leaf}
use Rattle.xml_model.specs.Nest.{Forest, is_nest}
use Rattle.xml_model.specs.Records.{Record, document, declares, depth_at, records, named, attributes_records, attributes_place, forest_records, past_start}
use Rattle.xml_model.specs.Tree.{Thing, Entry, all, at_first, kind_of, nodes}
use Rattle.xml_model.specs.Scan.{level_of, record_at, kind_of_token, last_tag, tag_or, holder_by_scan, is_run, past_by_scan}
use Rattle.xml_model.specs.Laws.{FirstRecordShows, HasParent, nodes_above, is_child_thing, is_root_thing, is_under}
use Rattle.xml_model.specs.Laws.{is_one_under, records_of}
use Rattle.xml_model.proofs.Bounds.{nest_shallow}
use Rattle.xml_model.proofs.Each.{each_at, each_more}
use Rattle.xml_model.proofs.Fits.{FitsIn, Fits, Below, Ends, each_fits}
use Rattle.xml_model.proofs.Indexes.{all_rise, one_node}
use Rattle.xml_model.proofs.Intervals.{all_some}
use Rattle.xml_model.proofs.Levels.{FromLevel, leaf_from, level_at}
use Rattle.xml_model.proofs.NodeLaws.{first_record_of_node, past_of_node, parent_there, axis_of_two}
use Rattle.xml_model.proofs.Parents.{KnownNode, Named, known_each}
use Rattle.xml_model.proofs.Things.{root_kind, root_by_kind, no_root_element, element_of, child_no_root}
use Rattle.xml_model.proofs.TreeOrder.{more_above, under_is, under_within}

-- Records in their place.

pub in_place : (whole prefix mine rest : List Record) (n : ℕ) → whole ≡ prefix ++ mine ++ rest → n < length mine →
    record_at (length prefix + n) whole ≡ record_at n mine
in_place whole prefix mine rest n e h =
    ap (λ xs. record_at (length prefix + n) xs) e ∙ get_or_append_left (prefix ++ mine) rest document (length prefix + n) (omega
    (arith, h, length-append prefix mine)) ∙ get_or-append-add prefix mine n document

pub each_record : (P : Record → Type 0) (rs : List Record) (n : ℕ) → Each P rs → n < length rs → P (record_at n rs)
each_record P [] n h k = absurd (omega arith)
each_record P (r ∷ rs) zero h k = h.0
each_record P (r ∷ rs) (suc n) h k = each_record P rs n h.1 (omega arith)

-- One under another.

above_of : (e : Entry) (w : Thing) → e.what ≡ w → is_root_thing w ≡ false → nodes_above e ≡ suc (length e.holders)
above_of e (Thing.root first f) h r = absurd (false≢true (sym r))
above_of e (Thing.element t inside) h r = ap (λ x. nodes_above (record e { what = x })) h
above_of e (Thing.attribute a) h r = ap (λ x. nodes_above (record e { what = x })) h
above_of e (Thing.text xs) h r = ap (λ x. nodes_above (record e { what = x })) h
above_of e (Thing.comment cs) h r = ap (λ x. nodes_above (record e { what = x })) h
above_of e (Thing.instruction i) h r = ap (λ x. nodes_above (record e { what = x })) h

pub above_held : (e : Entry) → is_root_thing e.what ≡ false → nodes_above e ≡ suc (length e.holders)
above_held e r = above_of e e.what refl r

above_none : (e : Entry) (w : Thing) → e.what ≡ w → is_root_thing w ≡ true → nodes_above e ≡ 0
above_none e (Thing.root first f) h r = ap (λ x. nodes_above (record e { what = x })) h
above_none e (Thing.element t inside) h r = absurd (false≢true r)
above_none e (Thing.attribute a) h r = absurd (false≢true r)
above_none e (Thing.text xs) h r = absurd (false≢true r)
above_none e (Thing.comment cs) h r = absurd (false≢true r)
above_none e (Thing.instruction i) h r = absurd (false≢true r)

pub above_root : (e : Entry) → is_root_thing e.what ≡ true → nodes_above e ≡ 0
above_root e r = above_none e e.what refl r

-- of a node directly under another
pub record OneUnder (z y : Entry) (level : ℕ) : Type 0 where
  pub after : z.index < y.index
  pub before : y.index < z.past
  pub held : length y.holders ≡ level

pub one_under_out : (z y : Entry) (level : ℕ) → nodes_above z ≡ level → is_root_thing y.what ≡ false → is_one_under z y ≡ true → OneUnder z y level
one_under_out z y level a r h =
    let p = and_parts (is_under z y) (nodes_above y == suc (nodes_above z)) h in
    let q = and_parts (nat_lt z.index y.index) (nat_lt y.index z.past) p.0 in
    record {
      after = ltb-true z.index y.index q.0;
      before = ltb-true y.index z.past q.1;
      held =
          omega (arith, above_held y r, eqb-true (nodes_above y) (suc (nodes_above z)) p.1, a);
    }

pub one_under_back : (z y : Entry) (level : ℕ) → nodes_above z ≡ level → is_root_thing y.what ≡ false → OneUnder z y level → is_one_under z y ≡ true
one_under_back z y level a r o =
    ap₂ (λ b c. b && c) (ap₂ (λ b c. b && c) (lt-ltb z.index y.index o.after) (lt-ltb y.index z.past o.before))
    (eq-eqb (nodes_above y) (suc (nodes_above z)) (omega (arith, above_held y r, a, o.held)))

-- The records of a node.

-- what the records say of a node that holds others: those of its inside are of at least a level, and the next after it is of a lower one
pub record Holds (rs : List Record) (z : Entry) (level : ℕ) : Type 0 where
  pub some : z.index < z.past
  pub inside : (k : ℕ) → z.index < k → k < z.past → level ≤ level_of (record_at k rs)
  pub after : z.past < length rs → level_of (record_at z.past rs) < level
  pub own : 0 < z.index → level_of (record_at z.index rs) < level
  pub above : nodes_above z ≡ level

-- what is known of each node of a list
pub record RecordsShow (rs : List Record) (es : List Entry) : Type 0 where
  pub rises : Rises es
  pub levels : (x : Entry) → Contains es x → level_of (record_at x.index rs) ≡ length x.holders
  pub within : (x : Entry) → Contains es x → x.index < length rs

-- the records of a node are of at least its level
pub record Keeps (rs : List Record) (e : Entry) : Type 0 where
  pub some : e.index < e.past
  pub within : e.past ≤ length rs
  pub levels : (k : ℕ) → e.index < k → k < e.past → length e.holders ≤ level_of (record_at k rs)

-- a node that begins in another ends in it
pub nested : (rs : List Record) (z e : Entry) (level : ℕ) → Holds rs z level → Keeps rs e → level ≤ length e.holders → e.index < z.past → e.past ≤ z.past
nested rs z e level h k l b = elim (cases_lt z.past e.past) [
  | inl over ↦ absurd (let a = k.levels z.past b over in omega (arith, a, l, h.after (omega (arith, over, k.within))))
  | inr not_over ↦ not_over
]

pub name_levels : (b : Bool) (d : ℕ) → cond (cond b 3 2 == 0) d (cond (d == 255) 0 (suc d)) ≡ cond (d == 255) 0 (suc d)
name_levels true d = refl
name_levels false d = refl

pub own_levels : (what : Thing) (l at : ℕ) (rest : List Record) → l ≤ 255 → is_root_thing what ≡ false → Ends what l at rest →
    FromLevel l (records_of what l at)
own_levels (Thing.root first f) l at rest b r e = absurd (false≢true (sym r))
own_levels (Thing.element t inside) l at rest b r e = (omega arith, each_more _ _ (λ x h. omega (arith, h)) _ e.0)
own_levels (Thing.attribute a) l at rest b r e = (
  omega (arith, name_levels (declares a.name) (depth_at l), level_at l b),
  (omega (arith, level_at l b), tt),
)
own_levels (Thing.text xs) l at rest b r e = each_more (λ x. is_run l x ≡ true) (λ x. l ≤ level_of x) (λ x h. omega
    (arith, eqb-true (level_of x) l (and_parts (x.token == 5 || x.token == 11) _ h).1)) _ e.0
own_levels (Thing.comment cs) l at rest b r e = leaf_from l at (Leaf.comment cs) b
own_levels (Thing.instruction i) l at rest b r e = leaf_from l at (Leaf.instruction i) b

pub tag_level : (r : Record) → r.token ≡ 0 → level_of r ≡ r.depth
tag_level r t = ap (λ n. cond (n == 0) r.depth (cond (r.depth == 255) 0 (suc r.depth))) t

pub levels_shown : (nest : Forest) (first : ℕ) → is_nest nest ≡ true → (x : Entry) → Contains (all nest first) x →
    level_of (record_at x.index (records nest first)) ≡ length x.holders
levels_shown nest first n x c = let f : FirstRecordShows (records nest first) x = first_record_of_node nest first n x c in f.level

pub records_show : (nest : Forest) (first : ℕ) → is_nest nest ≡ true → RecordsShow (records nest first) (all nest first)
records_show nest first n = record {
  rises = all_rise nest first;
  levels = levels_shown nest first n;
  within = λ x c. let f : FirstRecordShows (records nest first) x = first_record_of_node nest first n x c in f.within;
}

-- The root.

-- all but the root are after it
pub in_nodes : (nest : Forest) (first : ℕ) (e : Entry) → Contains (all nest first) e → is_root_thing e.what ≡ false →
    Contains (nodes (at_first first) nest) e
unfolding all
in_nodes nest first e (zero, l, s) r = absurd (false≢true (sym r ∙ ap (λ x. is_root_thing x.what) (sym s)))
in_nodes nest first e (suc n, l, s) r = (n, omega (arith, l), s)

root_index : (nest : Forest) (first : ℕ) (e : Entry) → is_root_thing e.what ≡ true → Contains (all nest first) e →
    (Contains (nodes (at_first first) nest) e → ⊥) → e.index ≡ 0
unfolding all
root_index nest first e r (zero, l, s) n = sym (ap (λ x. x.index) s)
root_index nest first e r (suc k, l, s) n = absurd (n (k, omega (arith, l), s))

no_root_named : (w : Thing) → is_root_thing w ≡ true → Named w → ⊥
no_root_named (Thing.root first f) r h = h
no_root_named (Thing.element t inside) r h = false≢true r
no_root_named (Thing.attribute a) r h = false≢true r
no_root_named (Thing.text xs) r h = false≢true r
no_root_named (Thing.comment cs) r h = false≢true r
no_root_named (Thing.instruction i) r h = false≢true r

pub known_node : (nest : Forest) (first : ℕ) → is_nest nest ≡ true → (e : Entry) → Contains (nodes (at_first first) nest) e → KnownNode (all nest first) e
known_node nest first n e c =
    each_at (KnownNode (all nest first)) (nodes (at_first first) nest) e (known_each nest first (nest_shallow nest n)) c

pub root_first : (nest : Forest) (first : ℕ) → is_nest nest ≡ true → (e : Entry) → Contains (all nest first) e → is_root_thing e.what ≡ true → e.index ≡ 0
root_first nest first n e c r = root_index nest first e r c (λ d. no_root_named e.what r (known_node nest first n e d).names)

past_root : (k : Kind) (n past : ℕ) (rs : List Record) → k ≡ kinds.Root → past ≡ past_by_scan k n rs → past ≡ length rs
past_root k n past rs h e = e ∙ ap (λ x. past_by_scan x n rs) h

some_of : (nest : Forest) (first : ℕ) (e : Entry) → Contains (all nest first) e → e.index < e.past
some_of nest first e c = each_at (λ x. x.index < x.past) (all nest first) e (all_some nest first) c

pub root_holds : (nest : Forest) (first : ℕ) → is_nest nest ≡ true → (e : Entry) → Contains (all nest first) e → is_root_thing e.what ≡ true →
    Holds (records nest first) e 0
root_holds nest first n e c r =
    let rs = records nest first in
    let past : e.past ≡ length rs = past_root _ _ _ rs (root_kind e.what r) (past_of_node nest first n e c) in
    let zero : e.index ≡ 0 = root_first nest first n e c r in
    record {
      some = some_of nest first e c;
      inside = λ k l h. omega arith;
      after = λ h. absurd (omega (arith, h, past));
      own = λ h. absurd (omega (arith, h, zero));
      above = above_root e r;
    }

pub kind_of_first : (nest : Forest) (first : ℕ) → kind_of_token (record_at 0 (records nest first)).token ≡ Some kinds.Root
unfolding records
kind_of_first nest first = refl

root_at_zero : (nest : Forest) (first : ℕ) → is_nest nest ≡ true → (z : Entry) → Contains (all nest first) z → z.index ≡ 0 → is_root_thing z.what ≡ true
root_at_zero nest first n z c h =
    let f : FirstRecordShows (records nest first) z = first_record_of_node nest first n z c in
    root_by_kind z.what (sym (kind_of_first nest first) ∙ sym (ap (λ n. kind_of_token (record_at n (records nest first)).token) h) ∙ f.kind)

-- Elements.

below_head : (l : ℕ) (rest : List Record) → Below l rest → 0 < length rest → level_of (record_at 0 rest) < l
below_head l [] b h = absurd (omega arith)
below_head l (r ∷ rest) b h = b

record RecordsInside (rs : List Record) (l index past : ℕ) : Type 0 where
  inside : (k : ℕ) → index < k → k < past → suc l ≤ level_of (record_at k rs)
  after : past < length rs → level_of (record_at past rs) < suc l

fits_inside : (rs : List Record) (t : Tag) (inside : Forest) (l at index past : ℕ) → Fits rs (Thing.element t inside) l at index past →
    RecordsInside rs l index past
fits_inside rs t inside l at index past h =
    let own = named 0 l t.name (at + 1) in
    let body = attributes_records l (attributes_place at t) t.attributes ++ forest_records (suc l) (past_start at t) inside in
    let begins = h.begins in
    let stops = h.stops in
    let count : index + suc (length body) ≡ past = stops in
    let total : length rs ≡ length h.prefix + suc (length body) + length h.rest = ap length h.split ∙ length-append (h.prefix ++ (own ∷ body)) h.rest
    ∙ ap (λ n. n + length h.rest) (length-append h.prefix (own ∷ body)) in
    record {
      inside = λ k a b.
          let j : ℕ = k - suc index in
          let is : k ≡ length h.prefix + suc j = omega (arith, a, begins) in
          let within : j < length body = omega (arith, a, b, count) in
          let there : record_at k rs ≡ record_at j body = ap (λ n. record_at n rs) is
          ∙ in_place rs h.prefix (own ∷ body) h.rest (suc j) h.split (omega (arith, within)) in
          let low : suc l ≤ level_of (record_at j body) = each_record (λ r. suc l ≤ level_of r) body j h.ends.0 within in
          omega (arith, low, ap level_of there);
      after = λ b.
          let is : past ≡ length (h.prefix ++ (own ∷ body)) + 0 = omega (arith, begins, count, length-append h.prefix (own ∷ body)) in
          let there : record_at past rs ≡ record_at 0 h.rest = ap₂ (λ n xs. record_at n xs) is h.split
          ∙ get_or-append-add (h.prefix ++ (own ∷ body)) h.rest 0 document in
          let low : level_of (record_at 0 h.rest) < suc l = below_head (suc l) h.rest h.ends.1 (omega (arith, b, total, begins, count)) in
          omega (arith, low, ap level_of there);
    }

pub fits_of : (nest : Forest) (first : ℕ) → is_nest nest ≡ true → (e : Entry) → Contains (all nest first) e → FitsIn (records nest first) e
fits_of nest first n e c = each_at (FitsIn (records nest first)) (all nest first) e (each_fits nest first (nest_shallow nest n)) c

pub element_holds : (nest : Forest) (first : ℕ) → is_nest nest ≡ true → (e : Entry) → Contains (all nest first) e → kind_of e.what ≡ kinds.Element →
    Holds (records nest first) e (suc (length e.holders))
element_holds nest first n e c k =
    let rs = records nest first in
    let x = element_of e.what k in
    let f : Fits rs (Thing.element x.0 x.1) (length e.holders) e.start e.index e.past =
    subst (λ w. Fits rs w (length e.holders) e.start e.index e.past) x.2 (fits_of nest first n e c) in
    let h = fits_inside rs x.0 x.1 (length e.holders) e.start e.index e.past f in
    record {
      some = some_of nest first e c;
      inside = h.inside;
      after = h.after;
      own = λ z. omega (arith, levels_shown nest first n e c);
      above =
          above_held e (no_root_element e.what k);
    }

fits_keeps : (rs : List Record) (what : Thing) (l at index past : ℕ) → l ≤ 255 → is_root_thing what ≡ false → Fits rs what l at index past →
    (past ≤ length rs) × ((k : ℕ) → index < k → k < past → l ≤ level_of (record_at k rs))
fits_keeps rs what l at index past b r h =
    let mine = records_of what l at in
    let total : length rs ≡ length h.prefix + length mine + length h.rest = ap length h.split ∙ length-append (h.prefix ++ mine) h.rest
    ∙ ap (λ n. n + length h.rest) (length-append h.prefix mine) in (
      omega (arith, total, h.begins, h.stops),
      λ k a c.
          let j : ℕ = k - index in
          let is : k ≡ length h.prefix + j = omega (arith, a, h.begins) in
          let within : j < length mine = omega (arith, a, c, h.stops) in
          let there : record_at k rs ≡ record_at j mine = ap (λ n. record_at n rs) is ∙ in_place rs h.prefix mine h.rest j h.split within in
          let low : l ≤ level_of (record_at j mine) = each_record (λ r. l ≤ level_of r) mine j (own_levels what l at h.rest b r h.ends) within in
          omega (arith, low, ap level_of there),
    )

pub keeps : (nest : Forest) (first : ℕ) → is_nest nest ≡ true → (e : Entry) → Contains (all nest first) e → is_root_thing e.what ≡ false →
    Keeps (records nest first) e
keeps nest first n e c r =
    let rs = records nest first in
    let k : KnownNode (all nest first) e = known_node nest first n e (in_nodes nest first e c r) in
    let h = fits_keeps rs e.what (length e.holders) e.start e.index e.past k.bounded r (fits_of nest first n e c) in
    record { some = some_of nest first e c; within = h.0; levels = h.1 }

-- Parents.

record TagAt (l n : ℕ) (ts : List Record) (found : ℕ) : Type 0 where
  k : ℕ
  within : k < length ts
  is : found ≡ n + k
  token : (record_at k ts).token ≡ 0

last_tag_is : (ts : List Record) (l n d : ℕ) → (last_tag l n d ts ≡ d) ⊎ TagAt l n ts (last_tag l n d ts)
last_tag_is [] l n d = inl refl
last_tag_is (r ∷ ts) l n d = elim (last_tag_is ts l (suc n) (tag_or l n d r)) [
  | inr t ↦ inr (record { k = suc t.k; within = omega (arith, t.within); is = omega (arith, t.is); token = t.token })
  | inl e ↦ by (r.token == 0 && nat_lt r.depth l) refl e
]
  where
    by : (b : Bool) → (r.token == 0 && nat_lt r.depth l) ≡ b → last_tag l (suc n) (tag_or l n d r) ts ≡ cond b n d →
        (last_tag l n d (r ∷ ts) ≡ d) ⊎ TagAt l n (r ∷ ts) (last_tag l n d (r ∷ ts))
    by true h e = inr
        (record { k = 0; within = omega arith; is = omega (arith, e); token = eqb-true r.token 0 (and_parts (r.token == 0) (nat_lt r.depth l) h).0 })
    by false h e = inl e

holder_tag : (rs : List Record) (n : ℕ) → (holder_by_scan n rs ≡ 0) ⊎ ((record_at (holder_by_scan n rs) rs).token ≡ 0)
holder_tag rs n = elim (last_tag_is (take n rs) (level_of (record_at n rs)) 0 0) [
  | inl e ↦ inl e
  | inr t ↦ inr (
      let short : t.k < n = omega (arith, t.within, length-take n rs) in
      let is : holder_by_scan n rs ≡ t.k = omega (arith, t.is) in
      ap (λ m. (record_at m rs).token) is ∙ ap (λ r. r.token) (sym (get_or-take n rs t.k document short)) ∙ t.token
      )
]

token_kind : (n : ℕ) (k : Kind) → n ≡ 0 → kind_of_token n ≡ Some k → k ≡ kinds.Element
token_kind n k z h = let e : Some kinds.Element ≡ Some k = ap kind_of_token (sym z) ∙ h in cc

-- what the parent of a node is
pub record HeldBy (rs : List Record) (es : List Entry) (e z : Entry) : Type 0 where
  pub there : Contains es z
  pub above : is_one_under z e ≡ true
  pub holds : Holds rs z (nodes_above z)
  pub kind : (is_root_thing z.what ≡ true) ⊎ (kind_of z.what ≡ kinds.Element)

pub holds_by_kind : (nest : Forest) (first : ℕ) → is_nest nest ≡ true → (z : Entry) → Contains (all nest first) z →
    (is_root_thing z.what ≡ true) ⊎ (kind_of z.what ≡ kinds.Element) →
    Holds (records nest first) z (nodes_above z)
holds_by_kind nest first n z c k = elim k [
  | inl r ↦ subst (λ n. Holds (records nest first) z n) (sym (above_root z r)) (root_holds nest first n z c r)
  | inr e ↦ subst (λ n. Holds (records nest first) z n) (sym (above_held z (no_root_element z.what e))) (element_holds nest first n z c e)
]

pub held_by : (nest : Forest) (first : ℕ) → is_nest nest ≡ true → (e : Entry) → Contains (all nest first) e → is_root_thing e.what ≡ false →
    (z : Entry) × HeldBy (records nest first) (all nest first) e z
held_by nest first n e c r =
    let rs = records nest first in
    let p : HasParent nest first e = parent_there nest first n e c r in
    let z = p.parent in
    let f : FirstRecordShows rs z = first_record_of_node nest first n z p.there in
    let kind : (is_root_thing z.what ≡ true) ⊎ (kind_of z.what ≡ kinds.Element) = elim (holder_tag rs e.index) [
      | inl none ↦ inl (root_at_zero nest first n z p.there (p.index ∙ none))
      | inr tag ↦ inr (token_kind _ (kind_of z.what) (ap (λ m. (record_at m rs).token) p.index ∙ tag) f.kind)
    ] in (
      z,
      record {
        there = p.there;
        above = sym (axis_of_two nest first n axes.Parent e z c p.there) ∙ p.above;
        holds =
            holds_by_kind nest first n z p.there kind;
        kind = kind;
      },
    )

-- a node under which another is is the root or an element
pub under_kind : (nest : Forest) (first : ℕ) → is_nest nest ≡ true → (z y : Entry) → Contains (all nest first) z → Contains (all nest first) y →
    is_under z y ≡ true → (is_root_thing z.what ≡ true) ⊎ (kind_of z.what ≡ kinds.Element)
under_kind nest first n z y c d h = below (suc y.index) y d (omega arith) h
  where
    below : (bound : ℕ) (y : Entry) → Contains (all nest first) y → y.index < bound → is_under z y ≡ true →
        (is_root_thing z.what ≡ true) ⊎ (kind_of z.what ≡ kinds.Element)
    below zero y d l h = absurd (omega (arith, l))
    below (suc bound) y d l h =
        let u = under_within z y h in
        let no_root : is_root_thing y.what ≡ false = false_from_ne_true (is_root_thing y.what) (λ r. omega (arith, root_first nest first n y d r, u.0)) in
        let p = held_by nest first n y d no_root in
        let x = p.0 in
        let o = and_parts (is_under x y) (nodes_above y == suc (nodes_above x)) p.1.above in
        let v = under_within x y o.0 in
        elim (cases_lt z.index x.index) [
          | inl above ↦ below bound x p.1.there (omega (arith, v.0, l)) (under_is z x above (omega (arith, v.0, u.1)))
          | inr not_above ↦ elim (cases_lt x.index z.index) [
            | inl lower ↦
                let a = more_above nest first x z p.1.there c (under_is x z lower (omega (arith, u.0, v.1))) in
                let b = more_above nest first z y c d h in
                absurd (omega (arith, a, b, eqb-true (nodes_above y) (suc (nodes_above x)) o.1))
            | inr same ↦
                let is : x ≡ z = one_node nest first x z p.1.there c (omega (arith, not_above, same)) in
                subst (λ w. (is_root_thing w.what ≡ true) ⊎ (kind_of w.what ≡ kinds.Element)) is p.1.kind
          ]
        ]

-- of two nodes that as many hold, the later is after the end of the earlier
pub later_after : (nest : Forest) (first : ℕ) (e y : Entry) → Contains (all nest first) e → Contains (all nest first) y → nodes_above e ≡ nodes_above y →
    e.index < y.index → e.past ≤ y.index
later_after nest first e y c d a l = elim (cases_lt y.index e.past) [
  | inr after ↦ after
  | inl inside ↦ absurd (omega (arith, more_above nest first e y c d (under_is e y l inside), a))
]

-- a child is no first record: that is the root's
pub child_after : (nest : Forest) (first : ℕ) → is_nest nest ≡ true → (x : Entry) → Contains (all nest first) x →
    is_child_thing x.what ≡ true → 0 < x.index
child_after nest first n x c w = elim (cases_lt 0 x.index) [
  | inl later ↦ later
  | inr here ↦ absurd (false≢true (sym (child_no_root x.what w) ∙ root_at_zero nest first n x c (omega (arith, here))))
]
