-- The levels of the records of a nest are those of its tree, and so are the child elements of an element.
use Rattle.std.specs.List.{AllByRecursion as Each}
use Rattle.std.proofs.Common.{subst, add-one, ◌≡◌, ℕ, zero, suc, ◌+◌, ◌<◌, ◌≤◌, Bool, true, false, cond, not, ◌&&◌, ◌==◌, ◌⊎◌, inl, inr, nat_lt, List, [], ◌∷◌, ◌++◌, length, drop, take, map, filter, Option, Some, None, refl, ap, ap₂, sym, ◌∙◌, arith}
use Rattle.std.specs.List.{position, position_or_len, Contains, list_all}
use Rattle.std.specs.Option.{unwrap_or}
use Rattle.std.proofs.lemmas.Bool.{and_parts, and_from, eqb-true, eq-eqb, cases_Bool, false≢true}
use Rattle.std.proofs.lemmas.Bool.Decides.{nat_tests}
use Rattle.xml_model.specs.declared.Axis.TheVariants as axes
use Rattle.xml_model.specs.Items.{meets, Tag}
use Rattle.xml_model.specs.Nest.{Forest, is_nest, flat}
use Rattle.xml_model.specs.Records.{Record, records}
use Rattle.xml_model.specs.Scan.{level_of, record_at, end_from, end_by_scan, kind_of_token, IsElement}
use Rattle.xml_model.specs.Tree.{Thing, Entry, all, on_axis, steps, is_child, kind_of}
use Rattle.xml_model.specs.Laws.{IsNode, FirstRecordShows, by_indexes, is_under, is_one_under, nodes_above, is_child_thing}
use Rattle.xml_model.specs.Levels.{is_element, at_depth, first_child, level, last_level, level_word, no_child, tree_levels, tree_levels_one, is_tag, tags_from, child_position, record_level, levels, levels_one, child_tags, child_elements, StepsDown, deepest_next, AreNested}
use Rattle.xml_model.specs.LevelScan.{next_is, child_of}
use Rattle.xml_model.proofs.Each.{each_at, contains_here, contains_next}
use Rattle.xml_model.proofs.Filters.{filter_same, same_test}
use Rattle.xml_model.proofs.LevelScan.{Below, below_more, Split, split_on, child_is, or_none}
use Rattle.xml_model.proofs.ScanSteps.{from_index}
use Rattle.xml_model.proofs.NodeLaws.{first_record_of_node, axis_of_two, end_of_element}
use Rattle.xml_model.proofs.Depths.{depth_by_records}
use Rattle.xml_model.proofs.Nested.{nests_are_nested}
use Rattle.xml_model.proofs.ChildTags.{child_position_by_end, tag_level, after_tag}
use Rattle.xml_model.proofs.Things.{element_token, kind_element}

-- ---- records alone

-- the tags of a depth before an index, and those from it on
pub split_at : (k n : ℕ) (whole : List Record) → n ≤ length whole → (before : List ℕ) × Split k n whole before (drop n whole)
split_at k zero whole h = ([], record { rest = refl; low = tt; tags = refl })
split_at k (suc n) whole h =
    let s = split_at k n whole (omega (arith, h)) in
    let cons : drop n whole ≡ record_at n whole ∷ drop (suc n) whole = from_index whole n (omega (arith, h)) ∙ ap (λ m. record_at n whole ∷ drop m whole) (add-one n) in
    let at : Split k n whole s.0 (record_at n whole ∷ drop (suc n) whole) = subst (λ rs. Split k n whole s.0 rs) cons s.1 in
    (_, split_on k n whole s.0 (record_at n whole) (drop (suc n) whole) at)

pub steps_at : (rs : List Record) (n l : ℕ) → StepsDown l rs → n < length rs → StepsDown (deepest_next (record_at n rs)) (drop (suc n) rs)
steps_at [] n l s h = absurd (omega arith)
steps_at (r ∷ rs) zero l s h = s.1
steps_at (r ∷ rs) (suc n) l s h = steps_at rs n (deepest_next r) s.1 (omega (arith, h))

-- the position of the first child is that of the first tag one deeper among the records of the tag
position_is : (rs : List Record) (k n : ℕ) → StepsDown 0 rs → n < length rs → is_tag (record_at n rs) ≡ true → (record_at n rs).depth ≡ k →
    unwrap_or (position (λ j. nat_lt n j && nat_lt j (end_by_scan n rs)) (tags_from (suc k) 0 rs)) no_child ≡ child_position k rs n
position_is rs k n steps within t d =
    let r = record_at n rs in
    let rest = drop (suc n) rs in
    let s = split_at k n rs (omega (arith, within)) in
    let cons : drop n rs ≡ r ∷ rest = from_index rs n within ∙ ap (λ m. r ∷ drop m rs) (add-one n) in
    let at : Split k n rs s.0 (r ∷ rest) = subst (λ xs. Split k n rs s.0 xs) cons s.1 in
    let here : (is_tag r && r.depth == k) ≡ true = and_from _ _ t (eq-eqb r.depth k d) in
    let other : (is_tag r && r.depth == suc k) ≡ false = ap (λ b. b && r.depth == suc k) t ∙ not_deeper r.depth k d in
    let tags : tags_from (suc k) 0 rs ≡ s.0 ++ tags_from (suc k) (suc n) rest = at.tags ∙ ap (λ b. s.0 ++ (cond b (n ∷ []) [] ++ tags_from (suc k) (suc n) rest)) other in
    let level : level_of r ≡ k = tag_level r t ∙ d in
    let next : deepest_next r ≡ suc k = after_tag r t ∙ ap suc d in
    let deep : StepsDown (suc k) rest = subst (λ m. StepsDown m rest) next (steps_at rs n 0 steps within) in
    let found = child_position_by_end k n s.0 rest (below_more n s.0 at.low) deep in
    let past : end_by_scan n rs ≡ end_from k (suc n) rest = ap (λ m. end_from m (suc n) rest) level in
    ap₂ (λ (e : ℕ) (ts : List ℕ). unwrap_or (position (λ j. nat_lt n j && nat_lt j e) ts) no_child) past tags
    ∙ ap (λ (o : Option ℕ). unwrap_or o no_child) found ∙ or_none (next_is (suc k) rest) (length s.0)
    ∙ sym (child_is k n (length s.0) rs s.0 r rest at here refl)
  where
    not_deeper : (d k : ℕ) → d ≡ k → (d == suc k) ≡ false
    not_deeper d k e = grind (arith, nat_tests)

-- ---- lists of nodes

each_filter : (P : Entry → Bool) (Q : Entry → Type 0) (es : List Entry) → ((x : Entry) → Contains es x → P x ≡ true → Q x) → Each Q (filter P es)
each_filter P Q [] f = tt
each_filter P Q (x ∷ es) f = by (P x) refl (each_filter P Q es (λ y c. f y (contains_next x es y c)))
  where
    by : (b : Bool) → P x ≡ b → Each Q (filter P es) → Each Q (cond b (x ∷ filter P es) (filter P es))
    by true t h = (f x (contains_here x es) t, h)
    by false t h = h

first_of_map : (p : ℕ → Bool) (es : List Entry) → position_or_len p (map (λ e. e.index) es) ≡ position_or_len (λ e. p e.index) es
first_of_map p [] = refl
first_of_map p (e ∷ es) = by (p e.index) (first_of_map p es)
  where
    by : (b : Bool) → position_or_len p (map (λ e. e.index) es) ≡ position_or_len (λ e. p e.index) es
        → cond (not b) (1 + position_or_len p (map (λ e. e.index) es)) 0 ≡ cond (not b) (1 + position_or_len (λ e. p e.index) es) 0
    by true h = refl
    by false h = ap (λ (n : ℕ). 1 + n) h

length_of_map : (es : List Entry) → length (map (λ e. e.index) es) ≡ length es
length_of_map [] = refl
length_of_map (e ∷ es) = ap suc (length_of_map es)

position_of_map : (p : ℕ → Bool) (es : List Entry) → position p (map (λ e. e.index) es) ≡ position (λ e. p e.index) es
position_of_map p es = ap₂ (λ (i n : ℕ). cond (nat_lt i n) (Some i) None) (first_of_map p es) (length_of_map es)

first_same : (P Q : Entry → Bool) (es : List Entry) → Each (λ e. P e ≡ Q e) es → position_or_len P es ≡ position_or_len Q es
first_same P Q [] h = refl
first_same P Q (e ∷ es) h = ap₂ (λ (b : Bool) (n : ℕ). cond (not b) (1 + n) 0) h.0 (first_same P Q es h.1)

position_same : (P Q : Entry → Bool) (es : List Entry) → Each (λ e. P e ≡ Q e) es → position P es ≡ position Q es
position_same P Q es h = ap (λ (i : ℕ). cond (nat_lt i (length es)) (Some i) None) (first_same P Q es h)

words_same : (f : Entry → ℕ) (g : ℕ → ℕ) (es : List Entry) → Each (λ e. f e ≡ g e.index) es →
    map level_word (map (λ e. (e.index, f e)) es) ≡ map level_word (map (λ r. (r, g r)) (map (λ e. e.index) es))
words_same f g [] h = refl
words_same f g (e ∷ es) h = ap₂ (λ (n : ℕ) (ws : List ℕ). level_word (e.index, n) ∷ ws) h.0 (words_same f g es h.1)

filter_of_map : (p : ℕ → Bool) (es : List Entry) → filter p (map (λ e. e.index) es) ≡ map (λ e. e.index) (filter (λ e. p e.index) es)
filter_of_map p [] = refl
filter_of_map p (e ∷ es) = by (p e.index) (filter_of_map p es)
  where
    by : (b : Bool) → filter p (map (λ e. e.index) es) ≡ map (λ e. e.index) (filter (λ e. p e.index) es)
        → cond b (e.index ∷ filter p (map (λ e. e.index) es)) (filter p (map (λ e. e.index) es)) ≡ map (λ e. e.index) (cond b (e ∷ filter (λ e. p e.index) es) (filter (λ e. p e.index) es))
    by true h = ap (λ ns. e.index ∷ ns) h
    by false h = h

filter_twice : (P Q : Entry → Bool) (es : List Entry) → filter P (filter Q es) ≡ filter (λ e. Q e && P e) es
filter_twice P Q [] = refl
filter_twice P Q (e ∷ es) = by (Q e) (filter_twice P Q es)
  where
    by : (b : Bool) → filter P (filter Q es) ≡ filter (λ e. Q e && P e) es
        → filter P (cond b (e ∷ filter Q es) (filter Q es)) ≡ cond (b && P e) (e ∷ filter (λ e. Q e && P e) es) (filter (λ e. Q e && P e) es)
    by true h = ap (λ xs. cond (P e) (e ∷ xs) xs) h
    by false h = h

-- ---- the tree

-- an element's first record is a starting tag of its depth
pub record Tagged (rs : List Record) (e : Entry) : Type 0 where
  pub within : e.index < length rs
  pub tag : is_tag (record_at e.index rs) ≡ true
  pub depth : (record_at e.index rs).depth ≡ length e.holders

pub tagged : (nest : Forest) (first : ℕ) → is_nest nest ≡ true → (e : Entry) → IsNode nest first e → is_element e.what ≡ true → Tagged (records nest first) e
tagged nest first n e c t =
    let f : FirstRecordShows (records nest first) e = first_record_of_node nest first n e c in
    let r = record_at e.index (records nest first) in
    let token : r.token ≡ 0 = element_token r.token (f.kind ∙ ap (λ z. Some z) (kind_element e.what t)) in
    let tag : is_tag r ≡ true = eq-eqb r.token 0 token in
    record { within = f.within; tag = tag; depth = sym (tag_level r tag) ∙ f.level }

-- an element, by what it is
element_is : (w : Thing) → is_element w ≡ true → IsElement w
element_is (Thing.element t inside) h = tt
element_is (Thing.root first f) h = absurd (false≢true h)
element_is (Thing.attribute a) h = absurd (false≢true h)
element_is (Thing.text xs) h = absurd (false≢true h)
element_is (Thing.comment cs) h = absurd (false≢true h)
element_is (Thing.instruction i) h = absurd (false≢true h)

element_child : (w : Thing) → is_element w ≡ true → is_child_thing w ≡ true
element_child (Thing.element t inside) h = refl
element_child (Thing.root first f) h = absurd (false≢true h)
element_child (Thing.attribute a) h = absurd (false≢true h)
element_child (Thing.text xs) h = absurd (false≢true h)
element_child (Thing.comment cs) h = absurd (false≢true h)
element_child (Thing.instruction i) h = absurd (false≢true h)

record OfTag (w : Thing) : Type 0 where
  tag : Tag
  inside : Forest
  same : w ≡ Thing.element tag inside

of_tag : (w : Thing) → is_element w ≡ true → OfTag w
of_tag (Thing.element t inside) h = record { tag = t; inside = inside; same = refl }
of_tag (Thing.root first f) h = absurd (false≢true h)
of_tag (Thing.attribute a) h = absurd (false≢true h)
of_tag (Thing.text xs) h = absurd (false≢true h)
of_tag (Thing.comment cs) h = absurd (false≢true h)
of_tag (Thing.instruction i) h = absurd (false≢true h)

above_element : (e : Entry) → is_element e.what ≡ true → nodes_above e ≡ suc (length e.holders)
above_element e h = let w = of_tag e.what h in rw w.same refl

and_true : (b : Bool) → (b && true) ≡ b
and_true true = refl
and_true false = refl

one_less : (a b : ℕ) → (suc a == suc b) ≡ (a == b)
one_less a b = same_test (suc a == suc b) (a == b) (λ h. eq-eqb a b (let e : suc a ≡ suc b = eqb-true (suc a) (suc b) h in omega arith)) (λ h. eq-eqb (suc a) (suc b) (ap suc (eqb-true a b h)))

-- where both are elements, one is a child of the other where its depth is one more and it begins among the other's records
child_by_indexes : (nest : Forest) (first : ℕ) → is_nest nest ≡ true → (x y : Entry) → IsNode nest first x → IsNode nest first y → is_element x.what ≡ true → is_element y.what ≡ true →
    on_axis axes.Child x.path y.path ≡ ((nat_lt x.index y.index && nat_lt y.index (end_by_scan x.index (records nest first))) && (length y.holders == suc (length x.holders)))
child_by_indexes nest first n x y c d ex ey =
    let rs = records nest first in
    let past : x.past ≡ end_by_scan x.index rs = each_at (λ e. IsElement e.what → e.index ≡ x.index → e.past ≡ end_by_scan x.index rs) (all nest first) x (end_of_element nest first n x.index) c (element_is x.what ex) refl in
    axis_of_two nest first n axes.Child x y c d
    ∙ ap₂ (λ (a b : ℕ). ((nat_lt x.index y.index && nat_lt y.index x.past) && a == suc b) && is_child_thing y.what) (above_element y ey) (above_element x ex)
    ∙ ap (λ (b : Bool). ((nat_lt x.index y.index && nat_lt y.index x.past) && suc (length y.holders) == suc (suc (length x.holders))) && b) (element_child y.what ey)
    ∙ and_true ((nat_lt x.index y.index && nat_lt y.index x.past) && suc (length y.holders) == suc (suc (length x.holders)))
    ∙ ap₂ (λ (p : ℕ) (b : Bool). (nat_lt x.index y.index && nat_lt y.index p) && b) past (one_less (length y.holders) (suc (length x.holders)))

module _ (nest : Forest) (first : ℕ) (nests : is_nest nest ≡ true) (met : list_all meets (flat nest) ≡ true) where
  first_child_is : (k : ℕ) (e : Entry) → IsNode nest first e → (is_element e.what && length e.holders == k) ≡ true →
      first_child (at_depth (suc k) (all nest first)) e ≡ child_position k (records nest first) e.index
  unfolding on_axis
  first_child_is k e c t =
      let rs = records nest first in
      let es = all nest first in
      let p = and_parts (is_element e.what) (length e.holders == k) t in
      let held : length e.holders ≡ k = eqb-true (length e.holders) k p.1 in
      let here = tagged nest first nests e c p.0 in
      let inside : ℕ → Bool = λ j. nat_lt e.index j && nat_lt j (end_by_scan e.index rs) in
      let same : Each (λ y. is_child (steps e.path y.path) ≡ inside y.index) (at_depth (suc k) es) =
      each_filter (λ y. is_element y.what && length y.holders == suc k) (λ y. is_child (steps e.path y.path) ≡ inside y.index) es (λ y d u.
      let q = and_parts (is_element y.what) (length y.holders == suc k) u in
      let deep : length y.holders ≡ suc k = eqb-true (length y.holders) (suc k) q.1 in
      child_steps e y c d p.0 q.0 (omega (arith, deep, held))) in
      ap (λ (o : Option ℕ). unwrap_or o no_child)
      (position_same (λ y. is_child (steps e.path y.path)) (λ y. inside y.index) (at_depth (suc k) es) same ∙ sym (position_of_map inside (at_depth (suc k) es))
      ∙ ap (position inside) (depth_by_records nest first nests met (suc k)))
      ∙ position_is rs k e.index (nests_are_nested nest first nests).steps here.within here.tag (here.depth ∙ held)
    where
      child_steps : (x y : Entry) → IsNode nest first x → IsNode nest first y → is_element x.what ≡ true → is_element y.what ≡ true → length y.holders ≡ suc (length x.holders) →
          is_child (steps x.path y.path) ≡ (nat_lt x.index y.index && nat_lt y.index (end_by_scan x.index (records nest first)))
      child_steps x y c d ex ey l =
          child_by_indexes nest first nests x y c d ex ey
          ∙ ap (λ (b : Bool). (nat_lt x.index y.index && nat_lt y.index (end_by_scan x.index (records nest first))) && b) (eq-eqb (length y.holders) (suc (length x.holders)) l)
          ∙ and_true (nat_lt x.index y.index && nat_lt y.index (end_by_scan x.index (records nest first)))

  level_is : (k : ℕ) → map level_word (level k (all nest first)) ≡ map level_word (record_level k (records nest first))
  unfolding level record_level
  level_is k =
      let es = all nest first in
      let rs = records nest first in
      words_same (first_child (at_depth (suc k) es)) (child_position k rs) (at_depth k es)
      (each_filter (λ y. is_element y.what && length y.holders == k) (λ e. first_child (at_depth (suc k) es) e ≡ child_position k rs e.index) es (λ e c t. first_child_is k e c t))
      ∙ ap (λ (ns : List ℕ). map level_word (map (λ r. (r, child_position k rs r)) ns)) (depth_by_records nest first nests met k)

  last_is : (k : ℕ) → last_level k (all nest first) ≡ tags_from k 0 (records nest first)
  unfolding last_level
  last_is k = depth_by_records nest first nests met k

  pub levels_are : tree_levels (all nest first) ≡ levels (records nest first)
  unfolding tree_levels levels
  levels_are = rw (level_is 1, level_is 2, level_is 3, level_is 4, last_is 5) refl

  pub levels_one_are : tree_levels_one (all nest first) ≡ levels_one (records nest first)
  unfolding tree_levels_one levels_one
  levels_one_are = rw (level_is 1, level_is 2, last_is 3) refl

  pub children_are : (x : Entry) → IsNode nest first x → is_element x.what ≡ true →
      map (λ e. e.index) (child_elements x (all nest first)) ≡ child_tags x.index (records nest first)
  children_are x c t =
      let rs = records nest first in
      let es = all nest first in
      let here = tagged nest first nests x c t in
      let inside : ℕ → Bool = λ j. nat_lt x.index j && nat_lt j (end_by_scan x.index rs) in
      let l = length x.holders in
      ap (map (λ e. e.index)) (filter_same (λ e. is_element e.what && on_axis axes.Child x.path e.path) (λ e. (is_element e.what && length e.holders == suc l) && inside e.index) es (λ y d. one y d (cases_Bool (is_element y.what)))
      ∙ sym (filter_twice (λ e. inside e.index) (λ e. is_element e.what && length e.holders == suc l) es))
      ∙ sym (filter_of_map inside (at_depth (suc l) es))
      ∙ ap (filter inside) (depth_by_records nest first nests met (suc l))
      ∙ ap (λ (d : ℕ). filter inside (tags_from (suc d) 0 rs)) (sym here.depth)
    where
      swap : (a b : Bool) → (a && b) ≡ (b && a)
      swap true true = refl
      swap true false = refl
      swap false true = refl
      swap false false = refl

      one : (y : Entry) → IsNode nest first y → (is_element y.what ≡ true) ⊎ (is_element y.what ≡ false) →
          (is_element y.what && on_axis axes.Child x.path y.path)
          ≡ ((is_element y.what && length y.holders == suc (length x.holders)) && (nat_lt x.index y.index && nat_lt y.index (end_by_scan x.index (records nest first))))
      one y d (inl e) = rw e (child_by_indexes nest first nests x y c d t e ∙ swap (nat_lt x.index y.index && nat_lt y.index (end_by_scan x.index (records nest first))) (length y.holders == suc (length x.holders)))
      one y d (inr o) = rw o refl
