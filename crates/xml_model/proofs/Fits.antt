-- Each node's records are one part of all records, and where that part ends is seen from the levels of the records.
use Rattle.std.proofs.Common.{◌≡◌, ℕ, zero, suc, ◌+◌, ◌<◌, ◌≤◌, true, false, cond, List, [], ◌∷◌, ◌++◌, map, refl, ap, sym, ◌∙◌, arith, subst, length, append_assoc, append-nil, add-one, add-zero, length-append, IfSome, ◌||◌, ◌==◌, eq-eqb, ne_eqb}
use Rattle.std.proofs.lemmas.Bool.{and_right}
use Rattle.std.specs.Prelude.{⊤}
use Rattle.std.specs.List.{AllByRecursion as Each}
use Rattle.xml_model.specs.Chars.{size}
use Rattle.xml_model.specs.Items.{Attribute, Tag, Leaf, Piece, written_attribute, written_pieces}
use Rattle.xml_model.specs.Nest.{Forest, done, single, empty, element}
use Rattle.xml_model.specs.Records.{Record, declares, declaration_attributes, attribute_records, attributes_records, attributes_place, tag_records, leaf_records, run_records, cut_records, depth_at, forest_records, past_run, past_leaf, past_empty, past_start, past_element, document, records}
use Rattle.xml_model.specs.Tree.{Holder, held, Step, Entry, Here, Thing, attributes, attribute_entry, nodes, all, at_first, leaf_node, text_node, begins_run, run, after_leaf, inside_of, after_element, element_past, element_entry, tag_attributes, under}
use Rattle.xml_model.proofs.Cuts.{each_cut, first_cut}
use Rattle.xml_model.proofs.Each.{each_append, each_option, each_map, if_some_cond, if_some_second}
pub use Rattle.xml_model.specs.Scan.{is_run}
pub use Rattle.xml_model.specs.Laws.{records_of}
use Rattle.xml_model.proofs.Levels.{level_of, level_at, Shallow, FromLevel, forest_from, attributes_from}

-- the list is empty, or its first record is below the level
abbrev pub Below : ℕ → List Record → Type 0
Below l [] = ⊤
Below l (r ∷ rs) = level_of r < l

-- a list that begins with no record of a run at a level
abbrev pub NoRun : ℕ → List Record → Type 0
NoRun l [] = ⊤
NoRun l (r ∷ rs) = is_run l r ≡ false

-- what the records of a node and those after them show of where the node ends
abbrev pub Ends : Thing → ℕ → ℕ → List Record → Type 0
Ends (Thing.element t inside) l at rest = FromLevel (suc l) (attributes_records l (attributes_place at t) t.attributes ++ forest_records (suc l) (past_start at t) inside) × Below (suc l) rest
Ends (Thing.text xs) l at rest = Each (λ r. is_run l r ≡ true) (run_records l at xs) × NoRun l rest
Ends _ l at rest = ⊤

pub record Fits (whole : List Record) (what : Thing) (l at index past : ℕ) : Type 0 where
  pub prefix : List Record
  pub rest : List Record
  pub split : whole ≡ prefix ++ records_of what l at ++ rest
  pub begins : length prefix ≡ index
  pub stops : index + length (records_of what l at) ≡ past
  pub ends : Ends what l at rest

abbrev pub FitsIn : List Record → Entry → Type 0
FitsIn whole e = Fits whole e.what (length e.holders) e.start e.index e.past

-- three tokens regrouped
pub regroup : {X : Type 0} (a b c d : List X) → a ++ (b ++ c) ++ d ≡ a ++ b ++ (c ++ d)
regroup a b c d = ap (λ x. x ++ d) (sym (append_assoc a b c)) ∙ append_assoc (a ++ b) c d

-- the first of two tokens in its place, and the second in its
pub first_part : {X : Type 0} (whole prefix a b rest : List X) → whole ≡ prefix ++ (a ++ b) ++ rest → whole ≡ prefix ++ a ++ (b ++ rest)
first_part whole prefix a b rest e = e ∙ regroup prefix a b rest

pub second_part : {X : Type 0} (whole prefix a b rest : List X) → whole ≡ prefix ++ (a ++ b) ++ rest → whole ≡ (prefix ++ a) ++ b ++ rest
second_part whole prefix a b rest e = e ∙ ap (λ x. x ++ rest) (sym (append_assoc prefix a b))

pub after_length : {X : Type 0} (prefix a : List X) (n : ℕ) → length prefix ≡ n → length (prefix ++ a) ≡ n + length a
after_length prefix a n e = length-append prefix a ∙ ap (λ k. k + length a) e

fits_attributes : (others : List Attribute) (tags : List Holder) (at index i : ℕ) (whole prefix rest : List Record) →
    whole ≡ prefix ++ attributes_records (depth_at (length tags)) at others ++ rest → length prefix ≡ index → Each (FitsIn whole) (attributes tags at index i others)
fits_attributes [] tags at index i whole prefix rest e n = tt
fits_attributes (a ∷ others) tags at index i whole prefix rest e n =
    let d = depth_at (length tags) in
    let mine = attribute_records d (at + size a.space) a in
    let more = attributes_records d (at + size (written_attribute a)) others in
    each_option (FitsIn whole) (attribute_entry tags at index i a) _
    (if_some_second (FitsIn whole) (declares a.name) _ (record { prefix = prefix; rest = more ++ rest; split = first_part whole prefix mine more rest e; begins = n; stops = refl; ends = tt }))
    (fits_attributes others tags (at + size (written_attribute a)) (index + 2) _ whole (prefix ++ mine) rest (second_part whole prefix mine more rest e) (after_length prefix mine index n))

-- the list of pieces without the run that it begins with
abbrev pub after_run : Forest → Forest
after_run (single (Leaf.text ps) f) = after_run f
after_run (single (Leaf.cdata cs) f) = after_run f
after_run f = f

pub run_split : (f : Forest) (l at : ℕ) → forest_records l at f ≡ run_records l at (run f) ++ forest_records l (past_run at (run f)) (after_run f)
run_split done l at = refl
run_split (empty t f) l at = refl
run_split (element t inside space f) l at = refl
run_split (single (Leaf.text ps) f) l at = ap (λ x. leaf_records l at (Leaf.text ps) ++ x) (run_split f l (past_leaf at (Leaf.text ps))) ∙ sym (append_assoc (leaf_records l at (Leaf.text ps)) _ _)
run_split (single (Leaf.cdata cs) f) l at = ap (λ x. leaf_records l at (Leaf.cdata cs) ++ x) (run_split f l (past_leaf at (Leaf.cdata cs))) ∙ sym (append_assoc (leaf_records l at (Leaf.cdata cs)) _ _)
run_split (single (Leaf.comment cs) f) l at = refl
run_split (single (Leaf.instruction i) f) l at = refl
run_split (single (Leaf.declaration d) f) l at = refl
run_split (single (Leaf.doctype d) f) l at = refl

-- the records of a run, and that those after it belong to none
run_marks : (f : Forest) (l at : ℕ) → l ≤ 255 → Each (λ r. is_run l r ≡ true) (run_records l at (run f))
run_marks done l at k = tt
run_marks (empty t f) l at k = tt
run_marks (element t inside space f) l at k = tt
run_marks (single (Leaf.text ps) f) l at k =
    each_append (λ r. is_run l r ≡ true) (leaf_records l at (Leaf.text ps)) (run_records l (past_leaf at (Leaf.text ps)) (run f)) (text_mark l) (run_marks f l (past_leaf at (Leaf.text ps)) k)
  where
    text_mark : (m : ℕ) → Each (λ r. is_run l r ≡ true) (Rattle.xml_model.specs.Records.text_records m (cut_records 5 (depth_at l) at (size (written_pieces ps))))
    text_mark zero = tt
    text_mark (suc d) = each_cut (λ r. is_run l r ≡ true) 5 (depth_at l) at (size (written_pieces ps)) (λ m o i. eq-eqb _ l (level_at l k))
run_marks (single (Leaf.cdata cs) f) l at k =
    each_append (λ r. is_run l r ≡ true) (leaf_records l at (Leaf.cdata cs)) (run_records l (past_leaf at (Leaf.cdata cs)) (run f))
    (each_cut (λ r. is_run l r ≡ true) 11 (depth_at l) (at + 9) (size cs) (λ m o i. eq-eqb _ l (level_at l k))) (run_marks f l (past_leaf at (Leaf.cdata cs)) k)
run_marks (single (Leaf.comment cs) f) l at k = tt
run_marks (single (Leaf.instruction i) f) l at k = tt
run_marks (single (Leaf.declaration d) f) l at k = tt
run_marks (single (Leaf.doctype d) f) l at k = tt

pub below_no_run : (l : ℕ) (rest : List Record) → Below l rest → NoRun l rest
below_no_run l [] b = tt
below_no_run l (r ∷ rs) b = and_right (r.token == 5 || r.token == 11) _ (ne_eqb (level_of r) l (λ e. omega (arith, e, b)))

pub no_run_after : (f : Forest) (l at : ℕ) (rest : List Record) → Below l rest → NoRun l (forest_records l at (after_run f) ++ rest)
no_run_after done l at rest b = below_no_run l rest b
no_run_after (empty t f) l at rest b = refl
no_run_after (element t inside space f) l at rest b = refl
no_run_after (single (Leaf.text ps) f) l at rest b = no_run_after f l at rest b
no_run_after (single (Leaf.cdata cs) f) l at rest b = no_run_after f l at rest b
no_run_after (single (Leaf.comment cs) f) l at rest b = refl
no_run_after (single (Leaf.instruction i) f) l at rest b = refl
no_run_after (single (Leaf.declaration d) f) l at rest b = refl
no_run_after (single (Leaf.doctype d) f) l at rest b = refl

fits_text : (x : Leaf) (f : Forest) (h : Here) (whole prefix rest : List Record) →
    whole ≡ prefix ++ (run_records (length h.holders) h.at (x ∷ run f) ++ rest) → length prefix ≡ h.index →
    Each (λ r. is_run (length h.holders) r ≡ true) (run_records (length h.holders) h.at (x ∷ run f)) → NoRun (length h.holders) rest → IfSome (text_node h (x ∷ run f)) (FitsIn whole)
fits_text x f h whole prefix rest e n m o =
    let mine = run_records (length h.holders) h.at (x ∷ run f) in
    if_some_cond (FitsIn whole) (begins_run h.holders h.joins (x ∷ run f)) _
    (record { prefix = prefix; rest = rest; split = e ∙ sym (append_assoc prefix mine rest); begins = n; stops = refl; ends = (m, o) })

run_in_place : (x : Leaf) (f : Forest) (l at : ℕ) (prefix rest : List Record) → run (single x f) ≡ x ∷ run f →
    prefix ++ forest_records l at (single x f) ++ rest ≡ prefix ++ (run_records l at (x ∷ run f) ++ (forest_records l (past_run at (x ∷ run f)) (after_run (single x f)) ++ rest))
run_in_place x f l at prefix rest e =
    let p : List Leaf → List Record = λ r. prefix ++ (run_records l at r ++ (forest_records l (past_run at r) (after_run (single x f)) ++ rest)) in
    append_assoc prefix _ rest ∙ ap (λ y. prefix ++ (y ++ rest)) (run_split (single x f) l at) ∙ ap (λ y. prefix ++ y) (append_assoc _ _ rest) ∙ ap p e

fits_leaf : (x : Leaf) (f : Forest) (h : Here) (whole prefix rest : List Record) →
    whole ≡ prefix ++ forest_records (length h.holders) h.at (single x f) ++ rest → length prefix ≡ h.index → length h.holders ≤ 255 → Below (length h.holders) rest → IfSome (leaf_node h x f) (FitsIn whole)
fits_leaf (Leaf.text ps) f h whole prefix rest e n k b =
    let x = Leaf.text ps in
    let l = length h.holders in
    fits_text x f h whole prefix _ (e ∙ run_in_place x f l h.at prefix rest refl) n (run_marks (single x f) l h.at k) (no_run_after f l (past_run h.at (x ∷ run f)) rest b)
fits_leaf (Leaf.cdata cs) f h whole prefix rest e n k b =
    let x = Leaf.cdata cs in
    let l = length h.holders in
    fits_text x f h whole prefix _ (e ∙ run_in_place x f l h.at prefix rest refl) n (run_marks (single x f) l h.at k) (no_run_after f l (past_run h.at (x ∷ run f)) rest b)
fits_leaf (Leaf.comment cs) f h whole prefix rest e n k b =
    record { prefix = prefix; rest = forest_records (length h.holders) (past_leaf h.at (Leaf.comment cs)) f ++ rest; split = e ∙ regroup prefix _ _ rest; begins = n; stops = refl; ends = tt }
fits_leaf (Leaf.instruction i) f h whole prefix rest e n k b =
    record { prefix = prefix; rest = forest_records (length h.holders) (past_leaf h.at (Leaf.instruction i)) f ++ rest; split = e ∙ regroup prefix _ _ rest; begins = n; stops = refl; ends = tt }
fits_leaf (Leaf.declaration d) f h whole prefix rest e n k b = tt
fits_leaf (Leaf.doctype d) f h whole prefix rest e n k b = tt

below_weaker : (l m : ℕ) (rs : List Record) → l ≤ m → Below l rs → Below m rs
below_weaker l m [] k h = tt
below_weaker l m (r ∷ rs) k h = omega (arith, h)

-- after a list of pieces, or at its first one, the level is at most that of the pieces
head_below : (x : Leaf) (l at : ℕ) (rest : List Record) → l ≤ 255 → Below (suc l) rest → Below (suc l) (leaf_records l at x ++ rest)
head_below x l at rest k h = by x
  where
    enough : cond (depth_at l == 255) 0 (suc (depth_at l)) < suc l
    enough = omega (arith, level_at l k)

    text_cuts : (o n : ℕ) → Below (suc l) (cut_records 5 (depth_at l) o n ++ rest)
    text_cuts o n = let c = first_cut 5 (depth_at l) o n in subst (λ rs. Below (suc l) (rs ++ rest)) (sym c.is) enough

    cdata_cuts : (o n : ℕ) → Below (suc l) (cut_records 11 (depth_at l) o n ++ rest)
    cdata_cuts o n = let c = first_cut 11 (depth_at l) o n in subst (λ rs. Below (suc l) (rs ++ rest)) (sym c.is) enough

    text_below : (m : ℕ) (rs : List Record) → Below (suc l) (rs ++ rest) → Below (suc l) (Rattle.xml_model.specs.Records.text_records m rs ++ rest)
    text_below zero rs j = h
    text_below (suc m) rs j = j

    by : (x : Leaf) → Below (suc l) (leaf_records l at x ++ rest)
    by (Leaf.text ps) = text_below l _ (text_cuts at (size (written_pieces ps)))
    by (Leaf.cdata cs) = cdata_cuts (at + 9) (size cs)
    by (Leaf.comment cs) = enough
    by (Leaf.instruction i) = enough
    by (Leaf.declaration d) = enough
    by (Leaf.doctype d) = enough

pub pieces_below : (f : Forest) (l at : ℕ) (rest : List Record) → l ≤ 255 → Below l rest → Below (suc l) (forest_records l at f ++ rest)
pieces_below done l at rest k h = below_weaker l (suc l) rest (omega arith) h
pieces_below (single x f) l at rest k h =
    let more = forest_records l (past_leaf at x) f in
    subst (Below (suc l)) (sym (append_assoc (leaf_records l at x) more rest)) (head_below x l at (more ++ rest) k (pieces_below f l (past_leaf at x) rest k h))
pieces_below (empty t f) l at rest k h = omega arith
pieces_below (element t inside space f) l at rest k h = omega arith

-- an element, from where its own records are
fits_element : (t : Tag) (inside : Forest) (h : Here) (whole prefix rest : List Record) → whole ≡ prefix ++ (tag_records (length h.holders) h.at t ++ forest_records (suc (length h.holders)) (past_start h.at t) inside) ++ rest →
    length prefix ≡ h.index → length h.holders ≤ 254 → Shallow (suc (length h.holders)) inside → Below (suc (length h.holders)) rest → Fits whole (Thing.element t inside) (length h.holders) h.at h.index (element_past h t inside)
fits_element t inside h whole prefix rest e n k s b =
    let l = length h.holders in
    let within = forest_records (suc l) (past_start h.at t) inside in
    record {
      prefix = prefix;
      rest = rest;
      split = e;
      begins = n;
      stops = omega (arith, length-append (tag_records l h.at t) within);
      ends = (each_append (λ r. suc l ≤ level_of r) (attributes_records l (attributes_place h.at t) t.attributes) within (attributes_from t.attributes l (attributes_place h.at t) k) (forest_from inside (suc l) (past_start h.at t) (omega arith) s), b);
    }

-- its attributes, which follow the tag's own record
fits_tag : (h : Here) (t : Tag) (whole prefix rest : List Record) → whole ≡ prefix ++ tag_records (length h.holders) h.at t ++ rest → length prefix ≡ h.index → Each (FitsIn whole) (tag_attributes h t)
fits_tag h t whole prefix rest e n =
    let l = length h.holders in
    let first = Rattle.xml_model.specs.Records.named 0 l t.name (h.at + 1) ∷ [] in
    let others = attributes_records l (attributes_place h.at t) t.attributes in
    fits_attributes t.attributes (held h t) (attributes_place h.at t) (suc h.index) 0 whole (prefix ++ first) rest (second_part whole prefix first others rest e) (after_length prefix first h.index n ∙ add-one h.index)

pub fits_nodes : (f : Forest) (h : Here) (whole prefix rest : List Record) → whole ≡ prefix ++ forest_records (length h.holders) h.at f ++ rest → length prefix ≡ h.index →
    length h.holders ≤ 255 → Shallow (length h.holders) f → Below (length h.holders) rest → Each (FitsIn whole) (nodes h f)
fits_nodes done h whole prefix rest e n k s b = tt
fits_nodes (single x f) h whole prefix rest e n k s b =
    let l = length h.holders in
    let mine = leaf_records l h.at x in
    let more = forest_records l (past_leaf h.at x) f in
    each_option (FitsIn whole) (leaf_node h x f) (nodes (after_leaf h x f) f) (fits_leaf x f h whole prefix rest e n k b)
    (fits_nodes f (after_leaf h x f) whole (prefix ++ mine) rest (second_part whole prefix mine more rest e) (after_length prefix mine h.index n) k s b)
fits_nodes (empty t f) h whole prefix rest e n k s b =
    let l = length h.holders in
    let stop = past_empty h.at t in
    let mine = tag_records l h.at t in
    let more = forest_records l stop f in
    let next = after_element h t done stop in
    let mine_nodes = element_entry h t done stop ∷ tag_attributes h t in
    let e' : whole ≡ prefix ++ mine ++ (more ++ rest) = first_part whole prefix mine more rest e in
    let after : length (prefix ++ mine) ≡ next.index = after_length prefix mine h.index n ∙ sym (add-zero _) in
    each_append (FitsIn whole) (map (under (Step.child h.number)) mine_nodes) (nodes next f)
    (each_map (FitsIn whole) (under (Step.child h.number)) mine_nodes (
      fits_element t done h whole prefix (more ++ rest) (e' ∙ ap (λ x. prefix ++ x ++ (more ++ rest)) (sym (append-nil mine))) n s.0 tt (pieces_below f l stop rest k b),
      fits_tag h t whole prefix (more ++ rest) e' n,
    ))
    (fits_nodes f next whole (prefix ++ mine) rest (second_part whole prefix mine more rest e) after k s.1 b)
fits_nodes (element t inside space f) h whole prefix rest e n k s b =
    let l = length h.holders in
    let stop = past_element h.at t inside space in
    let tag = tag_records l h.at t in
    let within = forest_records (suc l) (past_start h.at t) inside in
    let mine = tag ++ within in
    let more = forest_records l stop f in
    let next = after_element h t inside stop in
    let mine_nodes = element_entry h t inside stop ∷ tag_attributes h t ++ nodes (inside_of h t) inside in
    let e' : whole ≡ prefix ++ mine ++ (more ++ rest) = first_part whole prefix mine more rest e in
    let b' : Below (suc l) (more ++ rest) = pieces_below f l stop rest k b in
    let after : length (prefix ++ mine) ≡ next.index = omega (arith, after_length prefix mine h.index n, length-append tag within) in
    each_append (FitsIn whole) (map (under (Step.child h.number)) mine_nodes) (nodes next f)
    (each_map (FitsIn whole) (under (Step.child h.number)) mine_nodes (
      fits_element t inside h whole prefix (more ++ rest) e' n s.0 s.1 b',
      each_append (FitsIn whole) (tag_attributes h t) (nodes (inside_of h t) inside)
          (fits_tag h t whole prefix (within ++ (more ++ rest)) (first_part whole prefix tag within (more ++ rest) e') n)
          (fits_nodes inside (inside_of h t) whole (prefix ++ tag) (more ++ rest) (second_part whole prefix tag within (more ++ rest) e') (after_length prefix tag h.index n) (omega arith) s.1 b'),
    ))
    (fits_nodes f next whole (prefix ++ mine) rest (second_part whole prefix mine more rest e) after k s.2 b)

-- the law: each node's records are in the records of the nest from its place on
pub each_fits : (nest : Forest) (first : ℕ) → Shallow 0 nest → Each (FitsIn (records nest first)) (all nest first)
unfolding all records
each_fits nest first s =
    let whole = document ∷ forest_records 0 first nest in (
      record { prefix = []; rest = []; split = sym (append-nil whole); begins = refl; stops = omega arith; ends = tt },
      fits_nodes nest (at_first first) whole (document ∷ []) [] (ap (λ x. document ∷ x) (sym (append-nil (forest_records 0 first nest)))) refl (omega arith) s tt,
    )
