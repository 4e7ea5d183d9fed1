-- The nodes at and under an element are one part of all nodes, paths aside.
use Rattle.std.proofs.Common.{◌≡◌, ℕ, suc, ◌+◌, ◌<◌, ◌≤◌, Bool, true, false, cond, inl, inr, List, [], ◌∷◌, ◌++◌, map, length, refl, sym}
use Rattle.std.proofs.Common.{ap, ap₂, ◌∙◌}
use Rattle.std.proofs.Common.{arith, le_refl, le_trans, append_assoc, append-nil, length-append, ◌&&◌, ◌||◌, ◌==◌, nat_lt, Option, Some}
use Rattle.std.proofs.Common.{None, IfSome, not}
use Rattle.std.proofs.Common.{eq-eqb, ne_eqb, le-ltb, lt-ltb, subst}
use Rattle.std.specs.Prelude.{is_some, filter, Contains}
use Rattle.std.specs.List.{cons_option, AllByRecursion as Each}
use Rattle.std.proofs.lemmas.Bool.{cases_lt, or_left, or_right, and_from, and_right}
use Rattle.std.proofs.lemmas.List.{map-append}
use Rattle.std.proofs.lemmas.List.Elements.{filter-append, All-contains, All-from_recursion}
use Rattle.xml_model.specs.Chars.{size}
use Rattle.xml_model.specs.Items.{Attribute, Tag, Leaf, text, cdata, declaration, doctype, written_attribute}
use Rattle.xml_model.specs.Nest.{Forest, done, single, empty, element}
use Rattle.xml_model.specs.Records.{declares, attributes_place, tag_records, leaf_records, forest_records, past_leaf, past_empty}
use Rattle.xml_model.specs.Records.{past_start, past_element}
use Rattle.xml_model.specs.Tree.{Step, Path, Thing, Entry, Holder, Here, attributes, attribute_entry, nodes, all, root_entry, at_first}
use Rattle.xml_model.specs.Tree.{leaf_node, begins_run}
use Rattle.xml_model.specs.Tree.{run, after_leaf, inside_of, after_element, element_past, element_entry, tag_attributes, under, held}
use Rattle.xml_model.specs.Tree.{one_if, steps, is_self, is_some_steps}
use Rattle.xml_model.proofs.Each.{each_append, each_option, each_more, each_map, each_left, each_right, each_both, if_some_cond}
use Rattle.xml_model.proofs.Each.{Rising, rising_map}
use Rattle.xml_model.proofs.Rise.{index, rising_nodes, indexes_rise}
use Rattle.xml_model.proofs.Filters.{filter_same}
use Rattle.xml_model.proofs.NodeLaws.{places_of_two}
use Rattle.xml_fragments.specs.Cut.{whole_nodes}
use Rattle.xml_fragments.specs.Fragment.{subtree}

-- a node without its path
abbrev pub pathless : Entry → Entry
pathless x = record x { path = [] }

pathless_under : (s : Step) (es : List Entry) → map pathless (map (under s) es) ≡ map pathless es
pathless_under s [] = refl
pathless_under s (e ∷ es) = ap (λ (xs : List Entry). pathless e ∷ xs) (pathless_under s es)

-- the indexes of holders fall, from below a number on
abbrev pub Falls : ℕ → List Holder → Type 0
Falls n [] = Unit {0}
Falls n (x ∷ xs) = (x.index < n) × Falls x.index xs

falls_more : (n m : ℕ) (hs : List Holder) → n ≤ m → Falls n hs → Falls m hs
falls_more n m [] l f = tt
falls_more n m (x ∷ hs) l f = (omega (arith, l, f.0), f.1)

-- the nodes of an element, of this index and with these holders, are one part of nodes
pub record Together (es : List Entry) (t : Tag) (inside : Forest) (hs : List Holder) (n past high : ℕ) : Type 0 where
  pub here : Here
  pub stop : ℕ
  pub prefix : List Entry
  pub rest : List Entry
  pub split : map pathless es ≡ map pathless prefix ++ (map pathless (whole_nodes here t inside stop) ++ map pathless rest)
  pub holders : here.holders ≡ hs
  pub begins : here.index ≡ n
  pub ends : element_past here t inside ≡ past
  pub most : past ≤ high
  pub after : Each (λ x. past ≤ x.index) rest
  pub falls : Falls n hs

abbrev pub TogetherBy : Thing → List Entry → List Holder → ℕ → ℕ → ℕ → Type 0
TogetherBy (Thing.element t inside) es hs n past high = Together es t inside hs n past high
TogetherBy _ es hs n past high = Unit {0}

-- ---- from some nodes to more

part_in : (xs a w z ys : List Entry) → xs ++ ((a ++ (w ++ z)) ++ ys) ≡ (xs ++ a) ++ (w ++ (z ++ ys))
part_in xs a w z ys = simp append_assoc refl

wider : (x : Thing) (pre es post whole : List Entry) (hs : List Holder) (n past high more : ℕ) →
    map pathless whole ≡ map pathless pre ++ (map pathless es ++ map pathless post) → high ≤ more →
    Each (λ y. high ≤ y.index) post → TogetherBy x es hs n past high → TogetherBy x whole hs n past more
wider (Thing.root first g) pre es post whole hs n past high more e l k s = tt
wider (Thing.attribute a) pre es post whole hs n past high more e l k s = tt
wider (Thing.text xs) pre es post whole hs n past high more e l k s = tt
wider (Thing.comment cs) pre es post whole hs n past high more e l k s = tt
wider (Thing.instruction i) pre es post whole hs n past high more e l k s = tt
wider (Thing.element t inside) pre es post whole hs n past high more e l k s =
    let w = map pathless (whole_nodes s.here t inside s.stop) in
    record {
      here = s.here;
      stop = s.stop;
      prefix = pre ++ s.prefix;
      rest = s.rest ++ post;
      split = e
          ∙ ap (λ (ys : List Entry). map pathless pre ++ (ys ++ map pathless post)) s.split
          ∙ part_in (map pathless pre) (map pathless s.prefix) w (map pathless s.rest) (map pathless post)
          ∙ ap₂ (λ (ys zs : List Entry). ys ++ (w ++ zs)) (sym (map-append pathless pre s.prefix))
          (sym (map-append pathless s.rest post));
      holders = s.holders;
      begins = s.begins;
      ends = s.ends;
      most = le_trans s.most l;
      after = each_append (λ y. past ≤ y.index) s.rest post s.after
          (each_more (λ y. high ≤ y.index) (λ y. past ≤ y.index) (λ y h. le_trans s.most h) post k);
      falls = s.falls;
    }

wider_all : (pre es post whole : List Entry) (high more : ℕ) →
    map pathless whole ≡ map pathless pre ++ (map pathless es ++ map pathless post) →
    high ≤ more → Each (λ y. high ≤ y.index) post → (xs : List Entry) →
    Each (λ x. TogetherBy x.what es x.holders x.index x.past high) xs →
    Each (λ x. TogetherBy x.what whole x.holders x.index x.past more) xs
wider_all pre es post whole high more e l k xs h =
    each_more (λ x. TogetherBy x.what es x.holders x.index x.past high) (λ x. TogetherBy x.what whole x.holders x.index x.past more)
    (λ x s. wider x.what pre es post whole x.holders x.index x.past high more e l k s) xs h

-- ---- indexes

pub rising_bound : (low high : ℕ) (xs : List Entry) → Rising index low xs high → low ≤ high
rising_bound low high [] h = h
rising_bound low high (x ∷ xs) h = omega (arith, h.0, rising_bound (suc x.index) high xs h.1)

pub rising_low : (low high : ℕ) (xs : List Entry) → Rising index low xs high → Each (λ x. low ≤ x.index) xs
rising_low low high [] h = tt
rising_low low high (x ∷ xs) h = (
  h.0,
  each_more (λ y. suc x.index ≤ y.index) (λ y. low ≤ y.index) (λ y k. omega (arith, h.0, k)) xs
      (rising_low (suc x.index) high xs h.1),
)

pub rising_high : (low high : ℕ) (xs : List Entry) → Rising index low xs high → Each (λ x. x.index < high) xs
rising_high low high [] h = tt
rising_high low high (x ∷ xs) h = (rising_bound (suc x.index) high xs h.1, rising_high (suc x.index) high xs h.1)

pub rising_before : (low high n : ℕ) (xs ys : List Entry) → Rising index low (xs ++ ys) high →
    ((m : ℕ) → Each (λ y. m ≤ y.index) ys → m ≤ n) →
    Each (λ x. x.index < n) xs
rising_before low high n [] ys h first = tt
rising_before low high n (x ∷ xs) ys h first = (
  first (suc x.index) (each_right (λ y. suc x.index ≤ y.index) xs ys (rising_low (suc x.index) high (xs ++ ys) h.1)),
  rising_before (suc x.index) high n xs ys h.1 first,
)

nodes_from : (f : Forest) (h : Here) → Each (λ x. h.index ≤ x.index) (nodes h f)
nodes_from f h = rising_low h.index (h.index + length (forest_records (length h.holders) h.at f)) (nodes h f) (rising_nodes f h)

-- ---- the law of one list of pieces

abbrev high_of : Here → Forest → ℕ
high_of h f = h.index + length (forest_records (length h.holders) h.at f)

abbrev All : Here → Forest → List Entry → Type 0
All h f xs = Each (λ x. TogetherBy x.what (nodes h f) x.holders x.index x.past (high_of h f)) xs

attribute_by : (b : Bool) (P : Entry → Type 0) (e : Entry) → P e → IfSome (cond b None (Some e)) P
attribute_by true P e s = tt
attribute_by false P e s = s

attributes_all : (h : Here) (f : Forest) (hs : List Holder) (at n i : ℕ) (others : List Attribute) → All h f (attributes hs at n i others)
attributes_all h f hs at n i [] = tt
attributes_all h f hs at n i (a ∷ others) =
    let P : Entry → Type 0 = λ x. TogetherBy x.what (nodes h f) x.holders x.index x.past (high_of h f) in
    each_option P (attribute_entry hs at n i a) _
    (attribute_by (declares a.name) P
    (record {
      path = Step.attribute i ∷ [];
      what = Thing.attribute a;
      holders = hs;
      start = at + size a.space;
      stop = at + size
          (written_attribute a);
      index = n;
      past = n + 2;
    }) tt)
    (attributes_all h f hs (at + size (written_attribute a)) (n + 2) (i + one_if (not (declares a.name))) others)

option_apart : (o : Option Entry) (xs : List Entry) →
    map pathless (cons_option o xs) ≡ map pathless (cons_option o []) ++ (map pathless xs ++ [])
option_apart None xs = sym (append-nil (map pathless xs))
option_apart (Some x) xs = ap (λ (ys : List Entry). pathless x ∷ ys) (sym (append-nil (map pathless xs)))

own_all : (h : Here) (t : Tag) (inside : Forest) (stop : ℕ) (s : Step) (whole rest : List Entry) (high : ℕ) → Falls h.index h.holders →
    map pathless whole ≡ map pathless (whole_nodes h t inside stop) ++ map pathless rest → element_past h t inside ≤ high →
    Each (λ x. element_past h t inside ≤ x.index) rest → Together whole t inside h.holders h.index (element_past h t inside) high
own_all h t inside stop s whole rest high f e l k = record {
  here = h;
  stop = stop;
  prefix = [];
  rest = rest;
  split = e;
  holders = refl;
  begins = refl;
  ends = refl;
  most = l;
  after = k;
  falls = f;
}

pub together : (f : Forest) (h : Here) → Falls h.index h.holders → All h f (nodes h f)
together done h fall = tt
together (single x f) h fall =
    let a = after_leaf h x f in
    let P : Entry → Type 0 = λ y. TogetherBy y.what (nodes h (single x f)) y.holders y.index y.past (high_of h (single x f)) in
    let l = length-append (leaf_records (length h.holders) h.at x) (forest_records (length h.holders) (past_leaf h.at x) f) in
    each_option P (leaf_node h x f) (nodes a f) (leaf_is x f h)
    (wider_all (cons_option (leaf_node h x f) []) (nodes a f) [] (nodes h (single x f)) (high_of a f) (high_of h (single x f))
    (option_apart (leaf_node h x f) (nodes a f)) (omega (arith, l)) tt (nodes a f)
    (together f a (falls_more h.index a.index h.holders (omega arith) fall)))
  where
    leaf_is : (x : Leaf) (f : Forest) (h : Here) →
        IfSome (leaf_node h x f) (λ y. TogetherBy y.what (nodes h (single x f)) y.holders y.index y.past (high_of h (single x f)))
    leaf_is (text ps) f h =
        if_some_cond
        (λ (y : Entry). TogetherBy y.what (nodes h (single (text ps) f)) y.holders y.index y.past (high_of h (single (text ps) f)))
        (begins_run h.holders h.joins (text ps ∷ run f)) _ tt
    leaf_is (cdata cs) f h =
        if_some_cond
        (λ (y : Entry). TogetherBy y.what (nodes h (single (cdata cs) f)) y.holders y.index y.past (high_of h (single (cdata cs) f)))
        (begins_run h.holders h.joins (cdata cs ∷ run f)) _ tt
    leaf_is (Leaf.comment cs) f h = tt
    leaf_is (Leaf.instruction i) f h = tt
    leaf_is (declaration d) f h = tt
    leaf_is (doctype d) f h = tt
together (empty t f) h fall =
    let stop = past_empty h.at t in
    let b = after_element h t done stop in
    let es = element_entry h t done stop ∷ tag_attributes h t in
    let s = Step.child h.number in
    let whole = empty t f in
    let P : Entry → Type 0 = λ y. TogetherBy y.what (nodes h whole) y.holders y.index y.past (high_of h whole) in
    let l = length-append (tag_records (length h.holders) h.at t) (forest_records (length h.holders) stop f) in
    let e : map pathless (nodes h whole) ≡ map pathless es ++ map pathless (nodes b f) =
    map-append pathless (map (under s) es) (nodes b f) ∙ ap (λ (ys : List Entry). ys ++ map pathless (nodes b f)) (pathless_under s es) in
    let one : es ++ [] ≡ es = append-nil es in
    let own = own_all h t done stop s (nodes h whole) (nodes b f) (high_of h whole) fall
    (e ∙ ap (λ (ys : List Entry). map pathless ys ++ map pathless (nodes b f)) (sym one)) (omega (arith, l)) (nodes_from f b) in
    each_append P (map (under s) es) (nodes b f)
    (each_map P (under s) es (own, attributes_all h whole (held h t) (attributes_place h.at t) (suc h.index) 0 t.attributes))
    (wider_all es (nodes b f) [] (nodes h whole) (high_of b f) (high_of h whole)
    (e ∙ ap (λ (ys : List Entry). map pathless es ++ ys) (sym (append-nil (map pathless (nodes b f))))) (omega (arith, l)) tt
    (nodes b f)
    (together f b (falls_more h.index b.index h.holders (omega arith) fall)))
together (element t inside space f) h fall =
    let stop = past_element h.at t inside space in
    let b = after_element h t inside stop in
    let i = inside_of h t in
    let tag = tag_records (length h.holders) h.at t in
    let deep = forest_records (suc (length h.holders)) (past_start h.at t) inside in
    let head = element_entry h t inside stop ∷ tag_attributes h t in
    let es = whole_nodes h t inside stop in
    let s = Step.child h.number in
    let whole = element t inside space f in
    let P : Entry → Type 0 = λ y. TogetherBy y.what (nodes h whole) y.holders y.index y.past (high_of h whole) in
    let l = length-append (tag ++ deep) (forest_records (length h.holders) stop f) in
    let m = length-append tag deep in
    let e : map pathless (nodes h whole) ≡ map pathless es ++ map pathless (nodes b f) =
    map-append pathless (map (under s) es) (nodes b f) ∙ ap (λ (ys : List Entry). ys ++ map pathless (nodes b f)) (pathless_under s es) in
    let own = own_all h t inside stop s (nodes h whole) (nodes b f) (high_of h whole) fall e (omega (arith, l, m)) (nodes_from f b) in
    let apart : map pathless es ++ map pathless (nodes b f) ≡ map pathless head ++
    (map pathless (nodes i inside) ++ map pathless (nodes b f)) =
    ap (λ (ys : List Entry). ys ++ map pathless (nodes b f)) (map-append pathless head (nodes i inside))
    ∙ append_assoc (map pathless head) (map pathless (nodes i inside)) (map pathless (nodes b f)) in
    each_append P (map (under s) es) (nodes b f)
    (each_map P (under s) es (
      own,
      each_append P (tag_attributes h t) (nodes i inside)
          (attributes_all h whole (held h t) (attributes_place h.at t) (suc h.index) 0 t.attributes)
          (wider_all head (nodes i inside) (nodes b f) (nodes h whole) (high_of i inside) (high_of h whole) (e ∙ apart)
          (omega (arith, l, m))
          (nodes_from f b) (nodes i inside)
          (together inside i (omega arith, fall))),
    ))
    (wider_all es (nodes b f) [] (nodes h whole) (high_of b f) (high_of h whole)
    (e ∙ ap (λ (ys : List Entry). map pathless es ++ ys) (sym (append-nil (map pathless (nodes b f))))) (omega (arith, l, m)) tt
    (nodes b f)
    (together f b (falls_more h.index b.index h.holders (omega arith) fall)))

-- ---- which nodes are in an element

-- whether an index is in a range that has its first number
abbrev pub is_in : ℕ → ℕ → Entry → Bool
is_in n past x = (n == x.index) || (nat_lt n x.index && nat_lt x.index past)

in_before : (n past : ℕ) (x : Entry) → x.index < n → is_in n past x ≡ false
in_before n past x l =
    ap₂ (λ (a b : Bool). a || (b && nat_lt x.index past)) (ne_eqb n x.index (λ e. omega (arith, l, e)))
    (le-ltb n x.index (omega (arith, l)))

in_after : (n past : ℕ) (x : Entry) → n < past → past ≤ x.index → is_in n past x ≡ false
in_after n past x m l =
    ap₂ (λ (a b : Bool). a || (nat_lt n x.index && b)) (ne_eqb n x.index (λ e. omega (arith, l, m, e))) (le-ltb x.index past l)
    ∙ and_right (nat_lt n x.index) false refl

in_range : (n past : ℕ) (x : Entry) → n ≤ x.index → x.index < past → is_in n past x ≡ true
in_range n past x l m = elim (cases_lt n x.index) [
  | inl lt ↦ or_right (n == x.index) _ (and_from _ _ (lt-ltb n x.index lt) (lt-ltb x.index past m))
  | inr ge ↦ or_left (n == x.index) _ (eq-eqb n x.index (omega (arith, l, ge)))
]

filter_yes : (p : Entry → Bool) (xs : List Entry) → Each (λ x. p x ≡ true) xs → filter p xs ≡ xs
filter_yes p [] h = refl
filter_yes p (x ∷ xs) h = ap (λ (b : Bool). cond b (x ∷ filter p xs) (filter p xs)) h.0
    ∙ ap (λ (ys : List Entry). x ∷ ys) (filter_yes p xs h.1)

filter_no : (p : Entry → Bool) (xs : List Entry) → Each (λ x. p x ≡ false) xs → filter p xs ≡ []
filter_no p [] h = refl
filter_no p (x ∷ xs) h = ap (λ (b : Bool). cond b (x ∷ filter p xs) (filter p xs)) h.0 ∙ filter_no p xs h.1

pathless_cond : (b : Bool) (x : Entry) (xs ys : List Entry) → ys ≡ map pathless xs →
    cond b (pathless x ∷ ys) ys ≡ map pathless (cond b (x ∷ xs) xs)
pathless_cond true x xs ys e = ap (λ (zs : List Entry). pathless x ∷ zs) e
pathless_cond false x xs ys e = e

filter_pathless : (n past : ℕ) (xs : List Entry) → filter (is_in n past) (map pathless xs) ≡ map pathless (filter (is_in n past) xs)
filter_pathless n past [] = refl
filter_pathless n past (x ∷ xs) =
    pathless_cond (is_in n past x) x (filter (is_in n past) xs) (filter (is_in n past) (map pathless xs)) (filter_pathless n past xs)

each_under : (P : Entry → Type 0) (s : Step) (xs : List Entry) → Each P (map (under s) xs) → Each (λ x. P (under s x)) xs
each_under P s [] h = tt
each_under P s (x ∷ xs) h = (h.0, each_under P s xs h.1)

-- the nodes of an element have its indexes
whole_range : (h : Here) (t : Tag) (inside : Forest) (stop : ℕ) →
    Each (λ x. (h.index ≤ x.index) × (x.index < element_past h t inside)) (whole_nodes h t inside stop)
whole_range h t inside stop =
    let g = element t inside [] done in
    let tag = tag_records (length h.holders) h.at t in
    let deep = forest_records (suc (length h.holders)) (past_start h.at t) inside in
    let high = h.index + length (forest_records (length h.holders) h.at g) in
    let l = length-append (tag ++ deep) [] in
    let m = length-append tag deep in
    let s = Step.child h.number in
    let es = whole_nodes h t inside (past_element h.at t inside []) in
    let r = rising_nodes g h in
    let low = each_under (λ x. h.index ≤ x.index) s es
    (each_left (λ x. h.index ≤ x.index) (map (under s) es) [] (rising_low h.index high (nodes h g) r)) in
    let top = each_under (λ x. x.index < high) s es
    (each_left (λ x. x.index < high) (map (under s) es) [] (rising_high h.index high (nodes h g) r)) in
    each_both (λ x. h.index ≤ x.index) (λ x. x.index < high) (λ x. (h.index ≤ x.index) × (x.index < element_past h t inside))
    (λ x a b. (a, omega (arith, b, l, m))) (whole_nodes h t inside stop) low top

pub steps_are : (o : Option Path) → is_some o ≡ (is_self o || is_some_steps o)
steps_are None = refl
steps_are (Some []) = refl
steps_are (Some (s ∷ p)) = refl

-- the nodes of an element of a nest, paths aside
pub record Nodes (nest : Forest) (first : ℕ) (e : Entry) (t : Tag) (inside : Forest) : Type 0 where
  pub here : Here
  pub stop : ℕ
  pub holders : here.holders ≡ e.holders
  pub begins : here.index ≡ e.index
  pub falls : Falls e.index e.holders
  pub are : map pathless (subtree e.path (all nest first)) ≡ map pathless (whole_nodes here t inside stop)

all_together : (nest : Forest) (first : ℕ) →
    Each (λ x. TogetherBy x.what (all nest first) x.holders x.index x.past (high_of (at_first first) nest)) (all nest first)
unfolding all
all_together nest first =
    let h = at_first first in (
      tt,
      wider_all (root_entry nest first ∷ []) (nodes h nest) [] (root_entry nest first ∷ nodes h nest) (high_of h nest) (high_of h nest)
          (ap (λ (ys : List Entry). pathless (root_entry nest first) ∷ ys) (sym (append-nil (map pathless (nodes h nest)))))
          (le_refl (high_of h nest)) tt (nodes h nest) (together nest h tt),
    )

nodes_by : (nest : Forest) (first : ℕ) (e : Entry) (t : Tag) (inside : Forest) (high : ℕ) → Contains (all nest first) e →
    Together (all nest first) t inside e.holders e.index e.past high → Nodes nest first e t inside
nodes_by nest first e t inside high there s =
    let es = all nest first in
    let r = is_in e.index e.past in
    let w = whole_nodes s.here t inside s.stop in
    let range = each_map (λ x. (e.index ≤ x.index) × (x.index < e.past)) pathless w
    (each_more (λ x. (s.here.index ≤ x.index) × (x.index < element_past s.here t inside)) (λ x. (e.index ≤ x.index) × (x.index < e.past))
    (λ x k. (omega (arith, k.0, s.begins), omega (arith, k.1, s.ends))) w (whole_range s.here t inside s.stop)) in
    let some : e.index < e.past = omega (arith, range.0.0, range.0.1) in
    let top = suc (length (forest_records 0 first nest)) in
    let rises : Rising index 0 (map pathless es) top = rising_map index pathless 0 top es (indexes_rise nest first) in
    let p = map pathless s.prefix in
    let z = map pathless s.rest in
    let low : Each (λ x. x.index < e.index) p =
    rising_before 0 top e.index p (map pathless w ++ z) (subst (λ (ys : List Entry). Rising index 0 ys top) s.split rises)
    (λ m k. omega (arith, k.0, s.begins)) in
    let by_index : filter r es ≡ subtree e.path es =
    sym (filter_same (λ x. is_some (steps e.path x.path)) r es
    (λ x c. let d = places_of_two nest first e x there c in
    steps_are (steps e.path x.path) ∙ ap₂ (λ (a b : Bool). a || b) d.same d.under)) in
    record {
      here = s.here;
      stop = s.stop;
      holders = s.holders;
      begins = s.begins;
      falls = s.falls;
      are = ap (map pathless) (sym by_index)
          ∙ sym (filter_pathless e.index e.past es)
          ∙ ap (filter r) s.split
          ∙ filter-append r p (map pathless w ++ z)
          ∙ ap₂ (λ (xs ys : List Entry). xs ++ ys)
          (filter_no r p (each_more (λ x. x.index < e.index) (λ x. r x ≡ false) (λ x k. in_before e.index e.past x k) p low))
          (filter-append r (map pathless w) z
          ∙ ap₂ (λ (xs ys : List Entry). xs ++ ys)
          (filter_yes r (map pathless w)
          (each_more (λ x. (e.index ≤ x.index) × (x.index < e.past)) (λ x. r x ≡ true) (λ x k. in_range e.index e.past x k.0 k.1)
          (map pathless w) range))
          (filter_no r z (each_map (λ x. r x ≡ false) pathless s.rest
          (each_more (λ x. e.past ≤ x.index) (λ x. r x ≡ false) (λ x k. in_after e.index e.past x some k) s.rest s.after)))
          ∙ append-nil (map pathless w));
    }

pub nodes_of : (nest : Forest) (first : ℕ) (e : Entry) (t : Tag) (inside : Forest) → Contains (all nest first) e →
    e.what ≡ Thing.element t inside →
    Nodes nest first e t inside
nodes_of nest first e t inside there is =
    let high = high_of (at_first first) nest in
    let es = all nest first in
    nodes_by nest first e t inside high there
    (subst (λ (x : Thing). TogetherBy x es e.holders e.index e.past high) is
    (All-contains (λ x. TogetherBy x.what es x.holders x.index x.past high) es e
    (All-from_recursion (λ x. TogetherBy x.what es x.holders x.index x.past high) es (all_together nest first)) there))
