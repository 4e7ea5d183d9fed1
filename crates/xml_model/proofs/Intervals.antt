-- Of two nodes the later one is under the earlier one exactly where its place is before the earlier one's end.
use Rattle.std.proofs.Common.{◌≡◌, ℕ, suc, ◌+◌, ◌<◌, ◌≤◌, Bool, true, false, cond, List, [], ◌∷◌, ◌++◌, map, refl, ap, ap₂, sym, ◌∙◌, arith, le_trans, le_refl, subst, length, append-nil, length-append, Some, None, IfSome, is_some, not, ◌&&◌, ◌||◌, ltb, eq-eqb, ne_eqb, le-ltb, lt-ltb}
use Rattle.std.specs.List.{AllByRecursion as Each, cons_option}
use Rattle.xml_model.specs.Chars.{size}
use Rattle.xml_model.specs.Items.{Attribute, Tag, Leaf, written_attribute, written_pieces}
use Rattle.xml_model.specs.Nest.{Forest, done, single, empty, element}
use Rattle.xml_model.specs.Records.{declares, attributes_records, attributes_place, tag_records, leaf_records, run_records, forest_records, past_run, past_leaf, past_empty, past_start, past_element}
use Rattle.xml_model.specs.Tree.{Holder, held, Path, Step, step_eq, step_before, before, steps, steps_under, is_some_steps, is_self, Entry, Here, Thing, attributes, attribute_entry, nodes, all, root_entry, at_first, leaf_node, text_node, begins_run, run, after_leaf, inside_of, after_element, element_past, element_entry, tag_attributes, under, one_if}
use Rattle.xml_model.proofs.Each.{Pairs, pairs_more, pairs_append, pairs_option, pairs_map, each_cross, each_append, each_option, each_map, each_more, each_both, if_some_cond, if_some_second}
use Rattle.xml_model.proofs.Cuts.{some_cuts}
use Rattle.xml_model.proofs.Fits.{run_split, after_run}

-- x is before y
pub record Ordered (x y : Entry) : Type 0 where
  pub under : is_some_steps (steps x.path y.path) ≡ ltb y.index x.past
  pub above : steps y.path x.path ≡ None
  pub order : before x.path y.path ≡ true
  pub other : is_self (steps x.path y.path) ≡ false

-- steps that differ, the first one first
pub record Differ (s t : Step) : Type 0 where
  pub order : step_before s t ≡ true
  pub there : step_eq s t ≡ false
  pub back : step_eq t s ≡ false

-- a node whose path begins with such a step, and whose records are in a range
pub record In (IsFirst : Step → Type 0) (low high : ℕ) (e : Entry) : Type 0 where
  pub step : Step
  pub rest : Path
  pub path : e.path ≡ step ∷ rest
  pub first : IsFirst step
  pub low_end : low ≤ e.index
  pub some : e.index < e.past
  pub high_end : e.past ≤ high

abbrev pub ChildFrom : ℕ → Step → Type 0
ChildFrom k (Step.child j) = k ≤ j
ChildFrom k (Step.attribute j) = ⊥

abbrev pub ChildOf : ℕ → Step → Type 0
ChildOf k (Step.child j) = k ≡ j
ChildOf k (Step.attribute j) = ⊥

abbrev pub AttributeFrom : ℕ → Step → Type 0
AttributeFrom k (Step.child j) = ⊥
AttributeFrom k (Step.attribute j) = k ≤ j

abbrev pub AttributeOf : ℕ → Step → Type 0
AttributeOf k (Step.child j) = ⊥
AttributeOf k (Step.attribute j) = k ≡ j

-- nodes in ranges apart, under steps that differ
apart : (P Q : Step → Type 0) (low middle high : ℕ) → ((s t : Step) → P s → Q t → Differ s t) → (x y : Entry) → In P low middle x → In Q middle high y → Ordered x y
apart P Q low middle high d x y h k =
    let e = d h.step k.step h.first k.first in
    record {
      under = ap₂ (λ p q. is_some_steps (steps p q)) h.path k.path ∙ ap (λ b. is_some_steps (steps_under b (steps h.rest k.rest))) e.there ∙ sym (le-ltb y.index x.past (le_trans h.high_end k.low_end));
      above = ap₂ steps k.path h.path ∙ ap (λ b. steps_under b (steps k.rest h.rest)) e.back;
      order = ap₂ before h.path k.path ∙ ap (λ b. b || (step_eq h.step k.step && before h.rest k.rest)) e.order;
      other = ap₂ (λ p q. is_self (steps p q)) h.path k.path ∙ ap (λ b. is_self (steps_under b (steps h.rest k.rest))) e.there;
    }

step_same : (s : Step) → step_eq s s ≡ true
step_same (Step.attribute i) = eq-eqb i i refl
step_same (Step.child i) = eq-eqb i i refl

or_second : (b c : Bool) → c ≡ true → b || c ≡ true
or_second true c e = refl
or_second false c e = e

-- one step further down both
deeper : (s : Step) (x y : Entry) → Ordered x y → Ordered (under s x) (under s y)
deeper s x y h = record {
  under = ap (λ b. is_some_steps (steps_under b (steps x.path y.path))) (step_same s) ∙ h.under;
  above = ap (λ b. steps_under b (steps y.path x.path)) (step_same s) ∙ h.above;
  order = or_second (step_before s s) _ (ap (λ b. b && before x.path y.path) (step_same s) ∙ h.order);
  other = ap (λ b. is_self (steps_under b (steps x.path y.path))) (step_same s) ∙ h.other;
}

-- an element before what it holds
holds : (P : Step → Type 0) (low : ℕ) (x y : Entry) → x.path ≡ [] → In P low x.past y → Ordered x y
holds P low x y e h = record {
  under = ap₂ (λ p q. is_some_steps (steps p q)) e h.path ∙ sym (lt-ltb y.index x.past (omega (arith, h.some, h.high_end)));
  above = ap₂ steps h.path e;
  order = ap₂ before e h.path;
  other = ap₂ (λ p q. is_self (steps p q)) e h.path;
}

differ_children : (k : ℕ) (s t : Step) → ChildOf k s → ChildFrom (suc k) t → Differ s t
differ_children k (Step.child i) (Step.child j) h l =
    record { order = lt-ltb i j (omega (arith, h)); there = ne_eqb i j (λ e. omega (arith, h, e)); back = ne_eqb j i (λ e. omega (arith, h, e)) }
differ_children k (Step.child i) (Step.attribute j) h l = absurd l
differ_children k (Step.attribute i) t h l = absurd h

differ_attributes : (k : ℕ) (s t : Step) → AttributeOf k s → AttributeFrom (suc k) t → Differ s t
differ_attributes k (Step.attribute i) (Step.attribute j) h l =
    record { order = lt-ltb i j (omega (arith, h)); there = ne_eqb i j (λ e. omega (arith, h, e)); back = ne_eqb j i (λ e. omega (arith, h, e)) }
differ_attributes k (Step.attribute i) (Step.child j) h l = absurd l
differ_attributes k (Step.child i) t h l = absurd h

differ_both : (k m : ℕ) (s t : Step) → AttributeFrom k s → ChildFrom m t → Differ s t
differ_both k m (Step.attribute i) (Step.child j) h l = record { order = refl; there = refl; back = refl }
differ_both k m (Step.attribute i) (Step.attribute j) h l = absurd l
differ_both k m (Step.child i) t h l = absurd h

-- a wider range
in_wider : (P Q : Step → Type 0) (low less high more : ℕ) → ((s : Step) → P s → Q s) → less ≤ low → high ≤ more → (e : Entry) → In P low high e → In Q less more e
in_wider P Q low less high more f l m e h =
    record { step = h.step; rest = h.rest; path = h.path; first = f h.step h.first; low_end = le_trans l h.low_end; some = h.some; high_end = le_trans h.high_end m }

-- one step further down
in_under : (P : Step → Type 0) (s : Step) (low high : ℕ) → P s → (e : Entry) → low ≤ e.index → e.index < e.past → e.past ≤ high → In P low high (under s e)
in_under P s low high p e a b c = record { step = s; rest = e.path; path = refl; first = p; low_end = a; some = b; high_end = c }

attribute_later : (i j : ℕ) → i ≤ j → (s : Step) → AttributeFrom j s → AttributeFrom i s
attribute_later i j l (Step.attribute k) h = le_trans l h
attribute_later i j l (Step.child k) h = h

attributes_in : (others : List Attribute) (tags : List Holder) (at first i d : ℕ) → Each (In (AttributeFrom i) first (first + length (attributes_records d at others))) (attributes tags at first i others)
attributes_in [] tags at first i d = tt
attributes_in (a ∷ others) tags at first i d =
    let high = first + suc (suc (length (attributes_records d (at + size (written_attribute a)) others))) in
    each_option (In (AttributeFrom i) first high) (attribute_entry tags at first i a) _
    (if_some_second (In (AttributeFrom i) first high) (declares a.name) _ (record { step = Step.attribute i; rest = []; path = refl; first = le_refl i; low_end = le_refl first; some = omega arith; high_end = omega arith }))
    (each_more _ (In (AttributeFrom i) first high)
    (in_wider (AttributeFrom (i + one_if (not (declares a.name)))) (AttributeFrom i) (first + 2) first _ high (attribute_later i _ (omega arith)) (omega arith) (omega arith)) _
    (attributes_in others tags (at + size (written_attribute a)) (first + 2) (i + one_if (not (declares a.name))) d))

attribute_ordered : (b : Bool) (a : Attribute) (others : List Attribute) (tags : List Holder) (at first i d : ℕ) → Pairs Ordered (attributes tags (at + size (written_attribute a)) (first + 2) (i + one_if (not b)) others) →
    Pairs Ordered (cons_option (cond b None (Some (record { path = Step.attribute i ∷ []; what = Thing.attribute a; holders = tags; start = at + size a.space; stop = at + size (written_attribute a); index = first; past = first + 2 })))
    (attributes tags (at + size (written_attribute a)) (first + 2) (i + one_if (not b)) others))
attribute_ordered true a others tags at first i d h = h
attribute_ordered false a others tags at first i d h =
    let at' = at + size (written_attribute a) in
    let high = first + 2 + length (attributes_records d at' others) in
    let e : Entry = record { path = Step.attribute i ∷ []; what = Thing.attribute a; holders = tags; start = at + size a.space; stop = at'; index = first; past = first + 2 } in (
      each_more (In (AttributeFrom (i + 1)) (first + 2) high) (Ordered e)
          (λ y k. apart (AttributeOf i) (AttributeFrom (i + 1)) first (first + 2) high (λ s t p q. differ_attributes i s t p (attribute_later (suc i) (i + 1) (omega arith) t q)) e y
          (record { step = Step.attribute i; rest = []; path = refl; first = refl; low_end = le_refl first; some = omega arith; high_end = omega arith }) k)
          _ (attributes_in others tags at' (first + 2) (i + 1) d),
      h,
    )

attributes_ordered : (others : List Attribute) (tags : List Holder) (at first i d : ℕ) → Pairs Ordered (attributes tags at first i others)
attributes_ordered [] tags at first i d = tt
attributes_ordered (a ∷ others) tags at first i d = attribute_ordered (declares a.name) a others tags at first i d (attributes_ordered others tags (at + size (written_attribute a)) (first + 2) (i + one_if (not (declares a.name))) d)

child_later : (i j : ℕ) → i ≤ j → (s : Step) → ChildFrom j s → ChildFrom i s
child_later i j l (Step.child k) h = le_trans l h
child_later i j l (Step.attribute k) h = h

-- the node that begins at a leaf
leaf_in : (x : Leaf) (f : Forest) (tags : List Holder) (at first number : ℕ) (joins : Bool) →
    IfSome (leaf_node (record { holders = tags; at = at; index = first; number = number; joins = joins }) x f) (In (ChildFrom number) first (first + length (forest_records (length tags) at (single x f))))
leaf_in (Leaf.text ps) f [] at first number joins = tt
leaf_in (Leaf.cdata cs) f [] at first number joins = tt
leaf_in (Leaf.text ps) f (t ∷ tags) at first number joins =
    let l = suc (length tags) in
    let x = Leaf.text ps in
    let mine = run_records l at (x ∷ run f) in
    let rest = forest_records l (past_run at (x ∷ run f)) (after_run f) in
    if_some_cond (In (ChildFrom number) first (first + length (forest_records l at (single x f)))) (begins_run (t ∷ tags) joins (x ∷ run f)) _
    (record { step = Step.child number; rest = []; path = refl; first = le_refl number; low_end = le_refl first; some = omega (arith, some_cuts 5 (length tags) at (size (written_pieces ps)), length-append (leaf_records l at x) (run_records l (past_leaf at x) (run f))); high_end = omega (arith, length-append mine rest, ap length (run_split (single x f) l at)) })
leaf_in (Leaf.cdata cs) f (t ∷ tags) at first number joins =
    let l = suc (length tags) in
    let x = Leaf.cdata cs in
    let mine = run_records l at (x ∷ run f) in
    let rest = forest_records l (past_run at (x ∷ run f)) (after_run f) in
    if_some_cond (In (ChildFrom number) first (first + length (forest_records l at (single x f)))) (begins_run (t ∷ tags) joins (x ∷ run f)) _
    (record { step = Step.child number; rest = []; path = refl; first = le_refl number; low_end = le_refl first; some = omega (arith, some_cuts 11 (length tags) (at + 9) (size cs), length-append (leaf_records l at x) (run_records l (past_leaf at x) (run f))); high_end = omega (arith, length-append mine rest, ap length (run_split (single x f) l at)) })
leaf_in (Leaf.comment cs) f tags at first number joins =
    record { step = Step.child number; rest = []; path = refl; first = le_refl number; low_end = le_refl first; some = omega arith; high_end = omega arith }
leaf_in (Leaf.instruction i) f tags at first number joins =
    record { step = Step.child number; rest = []; path = refl; first = le_refl number; low_end = le_refl first; some = omega arith; high_end = omega arith }
leaf_in (Leaf.declaration d) f tags at first number joins = tt
leaf_in (Leaf.doctype d) f tags at first number joins = tt

-- the nodes of an element, from the element's holder: under its number
own_in : (t : Tag) (inside : Forest) (h : Here) (stop : ℕ) →
    Each (In (ChildFrom 0) (inside_of h t).index (element_past h t inside)) (nodes (inside_of h t) inside) →
    Each (In (ChildOf h.number) h.index (element_past h t inside)) (map (under (Step.child h.number)) (element_entry h t inside stop ∷ tag_attributes h t ++ nodes (inside_of h t) inside))
own_in t inside h stop k =
    let past = element_past h t inside in
    let P = ChildOf h.number in
    let s = Step.child h.number in
    let l = length h.holders in
    let more = length (attributes_records l (attributes_place h.at t) t.attributes) in
    let In' : Entry → Type 0 = λ e. In P h.index past (under s e) in
    each_map (In P h.index past) (under s) (element_entry h t inside stop ∷ tag_attributes h t ++ nodes (inside_of h t) inside) (
      in_under P s h.index past refl (element_entry h t inside stop) (le_refl _) (omega arith) (le_refl _),
      each_append In' (tag_attributes h t) (nodes (inside_of h t) inside)
          (each_more (In (AttributeFrom 0) (suc h.index) (suc h.index + more)) In' (λ e m. in_under P s h.index past refl e (omega (arith, m.low_end)) m.some (omega (arith, m.high_end))) (tag_attributes h t)
          (attributes_in t.attributes (held h t) (attributes_place h.at t) (suc h.index) 0 l))
          (each_more (In (ChildFrom 0) (inside_of h t).index past) In' (λ e m. in_under P s h.index past refl e (omega (arith, m.low_end)) m.some m.high_end) (nodes (inside_of h t) inside) k),
    )

from_of : (k : ℕ) (s : Step) → ChildOf k s → ChildFrom k s
from_of k (Step.child j) h = omega (arith, h)
from_of k (Step.attribute j) h = h

-- the nodes of an element, and those of the pieces after it
abbrev pub own_nodes : Here → Tag → Forest → ℕ → List Entry
own_nodes h t inside stop = map (under (Step.child h.number)) (element_entry h t inside stop ∷ tag_attributes h t ++ nodes (inside_of h t) inside)

piece_in : (t : Tag) (inside : Forest) (h : Here) (stop n high : ℕ) (more : List Entry) → element_past h t inside + n ≡ high →
    Each (In (ChildFrom 0) (inside_of h t).index (element_past h t inside)) (nodes (inside_of h t) inside) →
    Each (In (ChildFrom (suc h.number)) (element_past h t inside) (element_past h t inside + n)) more →
    Each (In (ChildFrom h.number) h.index high) (own_nodes h t inside stop ++ more)
piece_in t inside h stop n high more e k m =
    let past = element_past h t inside in
    each_append (In (ChildFrom h.number) h.index high) (own_nodes h t inside stop) more
    (each_more (In (ChildOf h.number) h.index past) (In (ChildFrom h.number) h.index high) (in_wider (ChildOf h.number) (ChildFrom h.number) h.index h.index past high (from_of h.number) (le_refl _) (omega (arith, e)))
    (own_nodes h t inside stop) (own_in t inside h stop k))
    (each_more (In (ChildFrom (suc h.number)) past (past + n)) (In (ChildFrom h.number) h.index high)
    (in_wider (ChildFrom (suc h.number)) (ChildFrom h.number) past h.index (past + n) high (child_later h.number (suc h.number) (omega arith)) (omega arith) (omega (arith, e)))
    more m)

-- an empty tag is as an element with nothing inside
pub empty_as_element : (P : List Entry → Type 0) (t : Tag) (h : Here) (stop : ℕ) (more : List Entry) → P (own_nodes h t done stop ++ more) →
    P (map (under (Step.child h.number)) (element_entry h t done stop ∷ tag_attributes h t) ++ more)
empty_as_element P t h stop more k = subst (λ xs. P (map (under (Step.child h.number)) (element_entry h t done stop ∷ xs) ++ more)) (append-nil (tag_attributes h t)) k

nodes_in : (f : Forest) (h : Here) → Each (In (ChildFrom h.number) h.index (h.index + length (forest_records (length h.holders) h.at f))) (nodes h f)
nodes_in done h = tt
nodes_in (single x f) h =
    let l = length h.holders in
    let high = h.index + length (forest_records l h.at (single x f)) in
    let next = after_leaf h x f in
    each_option (In (ChildFrom h.number) h.index high) (leaf_node h x f) (nodes next f) (leaf_in x f h.holders h.at h.index h.number h.joins)
    (each_more (In (ChildFrom next.number) next.index (next.index + length (forest_records l next.at f))) (In (ChildFrom h.number) h.index high)
    (in_wider (ChildFrom next.number) (ChildFrom h.number) next.index h.index _ high (child_later h.number next.number (omega arith)) (omega arith) (omega (arith, length-append (leaf_records l h.at x) (forest_records l (past_leaf h.at x) f))))
    (nodes next f) (nodes_in f next))
nodes_in (empty t f) h =
    let l = length h.holders in
    let stop = past_empty h.at t in
    let rest = forest_records l stop f in
    let next = after_element h t done stop in
    let high = h.index + length (tag_records l h.at t ++ rest) in
    empty_as_element (Each (In (ChildFrom h.number) h.index high)) t h stop (nodes next f)
    (piece_in t done h stop (length rest) high (nodes next f) (omega (arith, length-append (tag_records l h.at t) rest)) tt (nodes_in f next))
nodes_in (element t inside space f) h =
    let l = length h.holders in
    let tag = tag_records l h.at t in
    let within = forest_records (suc l) (past_start h.at t) inside in
    let stop = past_element h.at t inside space in
    let rest = forest_records l stop f in
    let next = after_element h t inside stop in
    piece_in t inside h stop (length rest) (h.index + length (tag ++ within ++ rest)) (nodes next f) (omega (arith, length-append (tag ++ within) rest, length-append tag within))
    (nodes_in inside (inside_of h t)) (nodes_in f next)

-- where the last piece joins a run, no node begins before the run ends
abbrev joined : List Holder → ℕ → ℕ → ℕ → Here
joined tags at first number = record { holders = tags; at = at; index = first; number = number; joins = true }

no_run : (tags : List Holder) (xs : List Leaf) → begins_run tags true xs ≡ false
no_run [] xs = refl
no_run (t ∷ tags) xs = refl

abbrev From : ℕ → Entry → Type 0
From low e = low ≤ e.index

no_text : (tags : List Holder) (at first number low : ℕ) (xs : List Leaf) → IfSome (text_node (joined tags at first number) xs) (From low)
no_text [] at first number low xs = tt
no_text (t ∷ tags) at first number low xs = tt

from_in : (P : Step → Type 0) (low high less : ℕ) → less ≤ low → (e : Entry) → In P low high e → From less e
from_in P low high less l e h = le_trans l h.low_end

all_from : (f : Forest) (h : Here) (less : ℕ) → less ≤ h.index → Each (From less) (nodes h f)
all_from f h less l = each_more (In (ChildFrom h.number) h.index (h.index + length (forest_records (length h.holders) h.at f))) (From less) (from_in (ChildFrom h.number) h.index _ less l) (nodes h f) (nodes_in f h)

joined_from : (f : Forest) (tags : List Holder) (at first number : ℕ) → Each (From (first + length (run_records (length tags) at (run f)))) (nodes (joined tags at first number) f)
joined_from done tags at first number = tt
joined_from (empty t f) tags at first number = all_from (empty t f) (joined tags at first number) (first + 0) (omega arith)
joined_from (element t inside space f) tags at first number = all_from (element t inside space f) (joined tags at first number) (first + 0) (omega arith)
joined_from (single (Leaf.text ps) f) tags at first number =
    let l = length tags in
    let x = Leaf.text ps in
    let mine = leaf_records l at x in
    let more = run_records l (past_leaf at x) (run f) in
    let low = first + length (mine ++ more) in
    let next = after_leaf (joined tags at first number) x f in
    each_option (From low) (text_node (joined tags at first number) (x ∷ run f)) (nodes next f) (no_text tags at first number low (x ∷ run f))
    (each_more (From (next.index + length more)) (From low) (λ e k. omega (arith, k, length-append mine more)) (nodes next f) (joined_from f tags next.at next.index next.number))
joined_from (single (Leaf.cdata cs) f) tags at first number =
    let l = length tags in
    let x = Leaf.cdata cs in
    let mine = leaf_records l at x in
    let more = run_records l (past_leaf at x) (run f) in
    let low = first + length (mine ++ more) in
    let next = after_leaf (joined tags at first number) x f in
    each_option (From low) (text_node (joined tags at first number) (x ∷ run f)) (nodes next f) (no_text tags at first number low (x ∷ run f))
    (each_more (From (next.index + length more)) (From low) (λ e k. omega (arith, k, length-append mine more)) (nodes next f) (joined_from f tags next.at next.index next.number))
joined_from (single (Leaf.comment cs) f) tags at first number = all_from (single (Leaf.comment cs) f) (joined tags at first number) (first + 0) (omega arith)
joined_from (single (Leaf.instruction i) f) tags at first number = all_from (single (Leaf.instruction i) f) (joined tags at first number) (first + 0) (omega arith)
joined_from (single (Leaf.declaration d) f) tags at first number = all_from (single (Leaf.declaration d) f) (joined tags at first number) (first + 0) (omega arith)
joined_from (single (Leaf.doctype d) f) tags at first number = all_from (single (Leaf.doctype d) f) (joined tags at first number) (first + 0) (omega arith)

-- a node before those that come after its records, under higher numbers
before_later : (e : Entry) (number k first middle low high : ℕ) (ys : List Entry) → suc number ≤ k → In (ChildOf number) first middle e →
    Each (In (ChildFrom k) low high) ys → Each (From middle) ys → Each (Ordered e) ys
before_later e number k first middle low high ys l m p q =
    each_both (In (ChildFrom k) low high) (From middle) (Ordered e)
    (λ y a b. apart (ChildOf number) (ChildFrom k) first middle high (λ s t u v. differ_children number s t u (child_later (suc number) k l t v)) e y m
    (record { step = a.step; rest = a.rest; path = a.path; first = a.first; low_end = b; some = a.some; high_end = a.high_end }))
    ys p q

abbrev text_entry : Leaf → Forest → List Holder → ℕ → ℕ → ℕ → Entry
text_entry x f tags at first number =
    record { path = Step.child number ∷ []; what = Thing.text (x ∷ run f); holders = tags; start = at; stop = past_run at (x ∷ run f); index = first; past = first + length (run_records (length tags) at (x ∷ run f)) }

text_ordered : (b : Bool) (x : Leaf) (f : Forest) (tags : List Holder) (at first number : ℕ) → 0 < length (leaf_records (length tags) at x) →
    IfSome (cond b (Some (text_entry x f tags at first number)) None)
    (λ e. Each (Ordered e) (nodes (joined tags (past_leaf at x) (first + length (leaf_records (length tags) at x)) (number + one_if (is_some (cond b (Some (text_entry x f tags at first number)) None)))) f))
text_ordered false x f tags at first number k = tt
text_ordered true x f tags at first number k =
    let l = length tags in
    let next = joined tags (past_leaf at x) (first + length (leaf_records l at x)) (number + 1) in
    let low = next.index + length (run_records l (past_leaf at x) (run f)) in
    let e = length-append (leaf_records l at x) (run_records l (past_leaf at x) (run f)) in
    before_later (text_entry x f tags at first number) number (number + 1) first low next.index (next.index + length (forest_records l (past_leaf at x) f)) (nodes next f) (omega arith)
    (record { step = Step.child number; rest = []; path = refl; first = refl; low_end = le_refl first; some = omega (arith, e, k); high_end = omega (arith, e) })
    (nodes_in f next) (joined_from f tags (past_leaf at x) next.index (number + 1))

leaf_ordered : (x : Leaf) (f : Forest) (tags : List Holder) (at first number : ℕ) (joins : Bool) →
    let h : Here = record { holders = tags; at = at; index = first; number = number; joins = joins } in IfSome (leaf_node h x f) (λ e. Each (Ordered e) (nodes (after_leaf h x f) f))
leaf_ordered (Leaf.text ps) f [] at first number joins = tt
leaf_ordered (Leaf.cdata cs) f [] at first number joins = tt
leaf_ordered (Leaf.text ps) f (t ∷ tags) at first number joins = text_ordered (begins_run (t ∷ tags) joins (Leaf.text ps ∷ run f)) (Leaf.text ps) f (t ∷ tags) at first number (some_cuts 5 (length tags) at (size (written_pieces ps)))
leaf_ordered (Leaf.cdata cs) f (t ∷ tags) at first number joins = text_ordered (begins_run (t ∷ tags) joins (Leaf.cdata cs ∷ run f)) (Leaf.cdata cs) f (t ∷ tags) at first number (some_cuts 11 (length tags) (at + 9) (size cs))
leaf_ordered (Leaf.comment cs) f tags at first number joins =
    let h : Here = record { holders = tags; at = at; index = first; number = number; joins = joins } in
    let next = after_leaf h (Leaf.comment cs) f in
    before_later _ number (number + 1) first (first + 1) next.index (next.index + length (forest_records (length tags) next.at f)) (nodes next f) (omega arith)
    (record { step = Step.child number; rest = []; path = refl; first = refl; low_end = le_refl first; some = omega arith; high_end = omega arith })
    (nodes_in f next) (all_from f next (first + 1) (le_refl _))
leaf_ordered (Leaf.instruction i) f tags at first number joins =
    let h : Here = record { holders = tags; at = at; index = first; number = number; joins = joins } in
    let next = after_leaf h (Leaf.instruction i) f in
    before_later _ number (number + 1) first (first + 2) next.index (next.index + length (forest_records (length tags) next.at f)) (nodes next f) (omega arith)
    (record { step = Step.child number; rest = []; path = refl; first = refl; low_end = le_refl first; some = omega arith; high_end = omega arith })
    (nodes_in f next) (all_from f next (first + 2) (le_refl _))
leaf_ordered (Leaf.declaration d) f tags at first number joins = tt
leaf_ordered (Leaf.doctype d) f tags at first number joins = tt

-- an element and what it holds, and then the pieces after it
own_ordered : (t : Tag) (inside : Forest) (h : Here) (stop : ℕ) → Pairs Ordered (nodes (inside_of h t) inside) → Pairs Ordered (own_nodes h t inside stop)
own_ordered t inside h stop k =
    let s = Step.child h.number in
    let l = length h.holders in
    let past = element_past h t inside in
    let me = element_entry h t inside stop in
    let middle = suc h.index + length (attributes_records l (attributes_place h.at t) t.attributes) in
    let within = (inside_of h t).index + length (forest_records (suc l) (past_start h.at t) inside) in
    let mine = attributes_in t.attributes (held h t) (attributes_place h.at t) (suc h.index) 0 l in
    let is = nodes_in inside (inside_of h t) in
    let P : Step → Type 0 = λ s. Unit {0} in
    let yes : (Q : Step → Type 0) (s : Step) → Q s → P s = λ Q s q. tt in
    pairs_map Ordered (under s) (me ∷ tag_attributes h t ++ nodes (inside_of h t) inside) (
      each_more (Ordered me) (λ y. Ordered (under s me) (under s y)) (λ y o. deeper s me y o) (tag_attributes h t ++ nodes (inside_of h t) inside)
          (each_append (Ordered me) (tag_attributes h t) (nodes (inside_of h t) inside)
          (each_more (In (AttributeFrom 0) (suc h.index) middle) (Ordered me) (λ y m. holds P h.index me y refl (in_wider (AttributeFrom 0) P (suc h.index) h.index middle past (yes (AttributeFrom 0)) (omega arith) (omega arith) y m)) (tag_attributes h t) mine)
          (each_more (In (ChildFrom 0) (inside_of h t).index within) (Ordered me) (λ y m. holds P h.index me y refl (in_wider (ChildFrom 0) P (inside_of h t).index h.index within past (yes (ChildFrom 0)) (omega arith) (omega arith) y m)) (nodes (inside_of h t) inside) is)),
      pairs_more Ordered (λ x y. Ordered (under s x) (under s y)) (deeper s) (tag_attributes h t ++ nodes (inside_of h t) inside)
          (pairs_append Ordered (tag_attributes h t) (nodes (inside_of h t) inside) (attributes_ordered t.attributes (held h t) (attributes_place h.at t) (suc h.index) 0 l) k
          (each_cross (In (AttributeFrom 0) (suc h.index) middle) (In (ChildFrom 0) (inside_of h t).index within) Ordered
          (λ x y a b. apart (AttributeFrom 0) (ChildFrom 0) (suc h.index) middle within (differ_both 0 0) x y a
          (in_wider (ChildFrom 0) (ChildFrom 0) (inside_of h t).index middle within within (λ s q. q) (omega arith) (le_refl _) y b))
          (tag_attributes h t) (nodes (inside_of h t) inside) mine is)),
    )

piece_ordered : (t : Tag) (inside : Forest) (h : Here) (stop high : ℕ) (more : List Entry) → Pairs Ordered (nodes (inside_of h t) inside) →
    Each (In (ChildFrom (suc h.number)) (element_past h t inside) high) more → Pairs Ordered more → Pairs Ordered (own_nodes h t inside stop ++ more)
piece_ordered t inside h stop high more k m o =
    let past = element_past h t inside in
    pairs_append Ordered (own_nodes h t inside stop) more (own_ordered t inside h stop k) o
    (each_cross (In (ChildOf h.number) h.index past) (In (ChildFrom (suc h.number)) past high) Ordered (λ x y a b. apart (ChildOf h.number) (ChildFrom (suc h.number)) h.index past high (differ_children h.number) x y a b)
    (own_nodes h t inside stop) more (own_in t inside h stop (nodes_in inside (inside_of h t))) m)

pub nodes_ordered : (f : Forest) (h : Here) → Pairs Ordered (nodes h f)
nodes_ordered done h = tt
nodes_ordered (single x f) h = pairs_option Ordered (leaf_node h x f) (nodes (after_leaf h x f) f) (leaf_ordered x f h.holders h.at h.index h.number h.joins) (nodes_ordered f (after_leaf h x f))
nodes_ordered (empty t f) h =
    let stop = past_empty h.at t in
    let next = after_element h t done stop in
    empty_as_element (Pairs Ordered) t h stop (nodes next f) (piece_ordered t done h stop _ (nodes next f) tt (nodes_in f next) (nodes_ordered f next))
nodes_ordered (element t inside space f) h =
    let stop = past_element h.at t inside space in
    let next = after_element h t inside stop in
    piece_ordered t inside h stop _ (nodes next f) (nodes_ordered inside (inside_of h t)) (nodes_in f next) (nodes_ordered f next)

-- the law: of two nodes the earlier one is first, and it holds the later one exactly where that one's place is before its end
pub all_ordered : (nest : Forest) (first : ℕ) → Pairs Ordered (all nest first)
unfolding all
all_ordered nest first =
    let P : Step → Type 0 = λ s. Unit {0} in
    let high = 1 + length (forest_records 0 first nest) in (
      each_more (In (ChildFrom 0) 1 high) (Ordered (root_entry nest first))
          (λ y m. holds P 0 (root_entry nest first) y refl (in_wider (ChildFrom 0) P 1 0 high (suc (length (forest_records 0 first nest))) (λ s q. tt) (omega arith) (omega arith) y m))
          (nodes (at_first first) nest) (nodes_in nest (at_first first)),
      nodes_ordered nest (at_first first),
    )

pub all_some : (nest : Forest) (first : ℕ) → Each (λ e. e.index < e.past) (all nest first)
unfolding all
all_some nest first = (omega arith, each_more (In (ChildFrom 0) 1 (1 + length (forest_records 0 first nest))) (λ e. e.index < e.past) (λ e m. m.some) (nodes (at_first first) nest) (nodes_in nest (at_first first)))
