-- The records of a nest step down one element at a time, and one of them is the root element's.
use Rattle.std.proofs.Common.{◌≡◌, ℕ, zero, suc, ◌+◌, ◌≤◌, Bool, true, false, cond, ◌&&◌, ◌==◌, List, [], ◌∷◌, ◌++◌, refl, ap, sym, ◌∙◌, arith, le_refl, le_trans, length, subst, ⊎_elim}
use Rattle.std.specs.List.{AllByRecursion as Each}
use Rattle.std.proofs.lemmas.Bool.{and_parts, or_cases, false≢true}
use Rattle.std.proofs.lemmas.Bool.Decides.{nat_tests}
use Rattle.xml_model.specs.Chars.{size}
use Rattle.xml_model.specs.Items.{Attribute, Leaf, Tag, written_attribute, written_pieces}
use Rattle.xml_model.specs.Nest.{Forest, done, single, empty, element, is_content, is_tail, is_body, is_head, is_nest, is_misc, is_declaration, is_doctype}
use Rattle.xml_model.specs.Records.{Record, named, name_token, declares, attributes_records, attributes_place, tag_records, declaration_part_records, declaration_attributes, leaf_records, text_records, depth_at, forest_records, records, document, past_leaf, past_empty, past_start, past_element, kind_number}
use Rattle.xml_model.specs.Scan.{level_of}
use Rattle.xml_model.specs.Levels.{is_tag, if_tag_of, tags_from, deepest_next, StepsDown, AreNested}
use Rattle.xml_model.proofs.Cuts.{each_cut}
use Rattle.xml_model.proofs.Each.{each_append}
use Rattle.xml_model.proofs.Levels.{Shallow, FromLevel, level_at, shown_level, leaf_from, attributes_from, forest_from, deeper}
use Rattle.xml_model.proofs.Bounds.{nest_shallow}

-- more may follow where the first record may be deeper
steps_more : (l m : ℕ) (rs : List Record) → l ≤ m → StepsDown l rs → StepsDown m rs
steps_more l m [] h s = tt
steps_more l m (r ∷ rs) h s = (le_trans s.0 h, s.1)

next_from : (r : Record) (l : ℕ) → l ≤ level_of r → l ≤ deepest_next r
next_from r l h = by (r.token == 0) h
  where
    by : (b : Bool) → l ≤ cond b r.depth (cond (r.depth == 255) 0 (suc r.depth)) → l ≤ cond b (suc r.depth) (cond b r.depth (cond (r.depth == 255) 0 (suc r.depth)))
    by true k = omega (arith, k)
    by false k = k

-- one list after another, where the first stays at the other's level
steps_append : (a b : List Record) (l m : ℕ) → l ≤ m → FromLevel l a → StepsDown m a → StepsDown l b → StepsDown m (a ++ b)
steps_append [] b l m h f s t = steps_more l m b h t
steps_append (r ∷ a) b l m h f s t = (s.0, steps_append a b l (deepest_next r) (next_from r l f.0) f.1 s.1 t)

-- records that are no tags, all at one level
abbrev Level : ℕ → Record → Type 0
Level l r = (is_tag r ≡ false) × (level_of r ≡ l)

steps_level : (rs : List Record) (l : ℕ) → Each (Level l) rs → StepsDown l rs
steps_level [] l h = tt
steps_level (r ∷ rs) l h =
    let here : level_of r ≤ l = omega (arith, h.0.1) in
    let next : deepest_next r ≡ l = ap (λ b. cond b (suc r.depth) (level_of r)) h.0.0 ∙ h.0.1 in
    (here, subst (λ n. StepsDown n rs) (sym next) (steps_level rs l h.1))

parts_level : (others : List Attribute) (l at d : ℕ) → cond (d == 255) 0 (suc d) ≡ l → Each (Level l) (declaration_part_records d at others)
parts_level [] l at d k = tt
parts_level (a ∷ others) l at d k = ((refl, k), ((refl, k), parts_level others l _ d k))

texts_level : (l : ℕ) (rs : List Record) → Each (Level l) rs → Each (Level l) (text_records l rs)
texts_level zero rs h = tt
texts_level (suc l) rs h = h

leaf_level : (l at : ℕ) (x : Leaf) → l ≤ 255 → Each (Level l) (leaf_records l at x)
leaf_level l at (Leaf.text ps) h = texts_level l _ (each_cut (Level l) 5 (depth_at l) at (size (written_pieces ps)) (λ m o i. (refl, level_at l h)))
leaf_level l at (Leaf.cdata cs) h = each_cut (Level l) 11 (depth_at l) (at + 9) (size cs) (λ m o i. (refl, level_at l h))
leaf_level l at (Leaf.comment cs) h = ((refl, level_at l h), tt)
leaf_level l at (Leaf.instruction i) h = ((refl, level_at l h), ((refl, level_at l h), tt))
leaf_level l at (Leaf.declaration d) h = parts_level (declaration_attributes d) l (at + 5) (depth_at l) (level_at l h)
leaf_level l at (Leaf.doctype d) h = ((refl, level_at l h), tt)

name_level : (name : List ℕ) (d o : ℕ) → d ≤ 254 → Level (suc d) (named (name_token name) d name o)
name_level name d o h = by (declares name)
  where
    by : (b : Bool) → ((cond b 3 2 == 0) ≡ false) × (cond (cond b 3 2 == 0) d (cond (d == 255) 0 (suc d)) ≡ suc d)
    by true = (refl, shown_level d h)
    by false = (refl, shown_level d h)

attributes_level : (others : List Attribute) (d at : ℕ) → d ≤ 254 → Each (Level (suc d)) (attributes_records d at others)
attributes_level [] d at h = tt
attributes_level (a ∷ others) d at h = (name_level a.name d (at + size a.space) h, ((refl, shown_level d h), attributes_level others d (at + size (written_attribute a)) h))

forest_steps : (f : Forest) (l at : ℕ) → l ≤ 255 → Shallow l f → StepsDown l (forest_records l at f)
forest_steps done l at h s = tt
forest_steps (single x f) l at h s =
    steps_append (leaf_records l at x) (forest_records l (past_leaf at x) f) l l (le_refl l) (leaf_from l at x h) (steps_level _ l (leaf_level l at x h)) (forest_steps f l (past_leaf at x) h s)
forest_steps (empty t f) l at h s =
    let more = forest_records l (past_empty at t) f in
    let ats = attributes_records l (attributes_place at t) t.attributes in (
      le_refl l,
      steps_append ats more l (suc l) (omega arith) (deeper l ats (attributes_from t.attributes l (attributes_place at t) s.0)) (steps_level ats (suc l) (attributes_level t.attributes l (attributes_place at t) s.0))
          (forest_steps f l (past_empty at t) h s.1),
    )
forest_steps (element t inside space f) l at h s =
    let more = forest_records l (past_element at t inside space) f in
    let within = forest_records (suc l) (past_start at t) inside in
    let ats = attributes_records l (attributes_place at t) t.attributes in
    let from : FromLevel (suc l) ats = attributes_from t.attributes l (attributes_place at t) s.0 in
    let steps : StepsDown (suc l) (ats ++ within) = steps_append ats within (suc l) (suc l) (le_refl (suc l)) from (steps_level ats (suc l) (attributes_level t.attributes l (attributes_place at t) s.0))
    (forest_steps inside (suc l) (past_start at t) (omega (arith, s.0)) s.1) in
    let low : FromLevel (suc l) (ats ++ within) = each_append (λ r. suc l ≤ level_of r) ats within from (forest_from inside (suc l) (past_start at t) (omega (arith, s.0)) s.1) in
    (le_refl l, steps_append (ats ++ within) more l (suc l) (omega arith) (deeper l (ats ++ within) low) steps (forest_steps f l (past_element at t inside space) h s.2))

-- ---- one root element

-- where no record is a tag of a depth
none_before : (a b : List Record) (k n : ℕ) → Each (λ r. (is_tag r && r.depth == k) ≡ false) a → length (tags_from k n (a ++ b)) ≡ length (tags_from k (n + length a) b)
none_before [] b k n h = ap (λ m. length (tags_from k m b)) (let z : n ≡ n + 0 = omega arith in z)
none_before (r ∷ a) b k n h =
    ap (λ t. length (cond t (n ∷ []) [] ++ tags_from k (suc n) (a ++ b))) h.0
    ∙ none_before a b k (suc n) h.1 ∙ ap (λ m. length (tags_from k m b)) (let z : suc n + length a ≡ n + suc (length a) = omega arith in z)

no_tag : (l k : ℕ) (rs : List Record) → Each (Level l) rs → Each (λ r. (is_tag r && r.depth == k) ≡ false) rs
no_tag l k [] h = tt
no_tag l k (r ∷ rs) h = (ap (λ b. b && r.depth == k) h.0.0, no_tag l k rs h.1)

no_root : (rs : List Record) → FromLevel 1 rs → Each (λ r. (is_tag r && r.depth == 0) ≡ false) rs
no_root [] h = tt
no_root (r ∷ rs) h = (by (r.token == 0) h.0, no_root rs h.1)
  where
    by : (b : Bool) → 1 ≤ cond b r.depth (cond (r.depth == 255) 0 (suc r.depth)) → (b && r.depth == 0) ≡ false
    by true k = grind (arith, nat_tests, k)
    by false k = refl

leaf_none : (x : Leaf) (at : ℕ) → Each (λ r. (is_tag r && r.depth == 0) ≡ false) (leaf_records 0 at x)
leaf_none x at = no_tag 0 0 (leaf_records 0 at x) (leaf_level 0 at x (omega arith))

tail_none : (f : Forest) (at n : ℕ) → is_tail f ≡ true → length (tags_from 0 n (forest_records 0 at f)) ≡ 0
unfolding is_tail
tail_none done at n h = refl
tail_none (single x f) at n h = none_before (leaf_records 0 at x) (forest_records 0 (past_leaf at x) f) 0 n (leaf_none x at) ∙ tail_none f (past_leaf at x) _ (and_parts (is_misc x) _ h).1
tail_none (empty t f) at n h = absurd (false≢true h)
tail_none (element t inside space f) at n h = absurd (false≢true h)

body_one : (f : Forest) (at n : ℕ) → Shallow 0 f → is_body f ≡ true → length (tags_from 0 n (forest_records 0 at f)) ≡ 1
unfolding is_body
body_one done at n s h = absurd (false≢true h)
body_one (single x f) at n s h = none_before (leaf_records 0 at x) (forest_records 0 (past_leaf at x) f) 0 n (leaf_none x at) ∙ body_one f (past_leaf at x) _ s (and_parts (is_misc x) _ h).1
body_one (empty t f) at n s h =
    let ats = attributes_records 0 (attributes_place at t) t.attributes in
    ap suc (none_before ats (forest_records 0 (past_empty at t) f) 0 (suc n) (no_root ats (attributes_from t.attributes 0 (attributes_place at t) s.0)) ∙ tail_none f (past_empty at t) _ h)
body_one (element t inside space f) at n s h =
    let p = and_parts (is_content 1 inside) _ h in
    let ats = attributes_records 0 (attributes_place at t) t.attributes in
    let within = forest_records 1 (past_start at t) inside in
    let low : FromLevel 1 (ats ++ within) = each_append (λ r. 1 ≤ level_of r) ats within (attributes_from t.attributes 0 (attributes_place at t) s.0) (forest_from inside 1 (past_start at t) (omega arith) s.1) in
    ap suc (none_before (ats ++ within) (forest_records 0 (past_element at t inside space) f) 0 (suc n) (no_root (ats ++ within) low) ∙ tail_none f (past_element at t inside space) _ p.1)

head_one : (f : Forest) (at n : ℕ) → Shallow 0 f → is_head f ≡ true → length (tags_from 0 n (forest_records 0 at f)) ≡ 1
unfolding is_head
head_one done at n s h = body_one done at n s h
head_one (single x f) at n s h =
    none_before (leaf_records 0 at x) (forest_records 0 (past_leaf at x) f) 0 n (leaf_none x at)
    ∙ ⊎_elim (λ k. head_one f (past_leaf at x) _ s (and_parts (is_misc x) _ k).1) (λ k. body_one f (past_leaf at x) _ s (and_parts (is_doctype x) _ k).1) (or_cases (is_misc x && is_head f) _ h)
head_one (empty t f) at n s h = body_one (empty t f) at n s h
head_one (element t inside space f) at n s h = body_one (element t inside space f) at n s h

nest_one : (f : Forest) (at n : ℕ) → Shallow 0 f → is_nest f ≡ true → length (tags_from 0 n (forest_records 0 at f)) ≡ 1
unfolding is_nest
nest_one done at n s h = head_one done at n s h
nest_one (single x f) at n s h =
    ⊎_elim (λ k. none_before (leaf_records 0 at x) (forest_records 0 (past_leaf at x) f) 0 n (leaf_none x at) ∙ head_one f (past_leaf at x) _ s (and_parts (is_declaration x) _ k).1)
    (λ k. head_one (single x f) at n s k) (or_cases (is_declaration x && is_head f) _ h)
nest_one (empty t f) at n s h = head_one (empty t f) at n s h
nest_one (element t inside space f) at n s h = head_one (element t inside space f) at n s h

-- the law
pub nests_are_nested : (nest : Forest) (first : ℕ) → is_nest nest ≡ true → AreNested (records nest first)
unfolding records
nests_are_nested nest first n =
    let s = nest_shallow nest n in
    record { steps = (omega arith, forest_steps nest 0 first (omega arith) s); root = nest_one nest first 1 s n }
