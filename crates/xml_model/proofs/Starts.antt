-- The places of the nodes, by a scan of the records.
use Rattle.std.proofs.Common.{◌≡◌, ℕ, zero, suc, ◌+◌, ◌<◌, ◌≤◌, Bool, true, false, cond, List, [], ◌∷◌, ◌++◌, map, refl, ap, ap₂, sym, ◌∙◌, arith, subst, le_refl, ◌-◌, ◌==◌, length, length-append, append_assoc, append-nil, add-one, add-zero, Option, Some, None, not, ◌&&◌, ◌||◌, nat_lt, lt-ltb, eq-eqb, ne_eqb}
use Rattle.std.specs.Prelude.{⊤, option_to_list}
use Rattle.std.specs.List.{AllByRecursion as Each, cons_option, list_any}
use Rattle.std.proofs.lemmas.List.{map-append}
use Rattle.xml_model.specs.Chars.{size}
use Rattle.xml_model.specs.Items.{Attribute, Tag, Leaf, written_attribute, before_value, written_pieces}
use Rattle.xml_model.specs.Nest.{Forest, done, single, empty, element}
use Rattle.xml_model.specs.Records.{Record, cut, cuts, full_cuts, cut_records, plain, named, declares, declaration_attributes, attributes_records, attributes_place, declaration_part_records, tag_records, leaf_records, depth_at, forest_records, past_leaf, past_empty, past_start, past_element}
use Rattle.xml_model.specs.Tree.{Step, Entry, Holder, Here, Thing, attributes, nodes, all, at_first, leaf_node, text_node, begins_run, has_content, is_text, run, after_leaf, inside_of, after_element, element_past, element_entry, tag_attributes, under, held, one_if}
pub use Rattle.xml_model.specs.Scan.{is_start_token, is_text_token, run_has, joins_prev, begins_node, next_prev, starts}
use Rattle.xml_model.proofs.Cuts.{Cut, full_cut, first_cut, each_cut}
use Rattle.xml_model.proofs.Levels.{level_of, level_at, Shallow}
use Rattle.xml_model.proofs.Fits.{Below, below_no_run, pieces_below}
use Rattle.xml_model.proofs.Rise.{index}
use Rattle.xml_model.proofs.Intervals.{own_nodes}

-- a text has a byte, and no CDATA section is outside the root element
abbrev pub ProperLeaf : ℕ → Leaf → Type 0
ProperLeaf zero (Leaf.cdata cs) = ⊥
ProperLeaf (suc l) (Leaf.text ps) = 0 < size (written_pieces ps)
ProperLeaf (suc l) (Leaf.cdata cs) = nat_lt 0 (size cs) ≡ has_content (Leaf.cdata cs)
ProperLeaf l x = ⊤

abbrev pub Proper : ℕ → Forest → Type 0
Proper l done = ⊤
Proper l (single x f) = ProperLeaf l x × Proper l f
Proper l (empty t f) = Proper l f
Proper l (element t inside space f) = Proper (suc l) inside × Proper l f

-- where n records follow, of which some nodes begin
abbrev Aligned : ℕ → Option ℕ → List Record → List ℕ → ℕ → Option ℕ → List Record → Type 0
Aligned n prev rs places m after rest = starts n prev rs ≡ places ++ starts m after rest

-- a name and its value
attribute_start : (b : Bool) (n d o v : ℕ) (name cs : List ℕ) (more : List Record) (e : Entry) (es : List Entry) (others : List ℕ) → e.index ≡ n → starts (suc (suc n)) None more ≡ map index es ++ others →
    starts n None (named (cond b 3 2) d name o ∷ plain 4 d cs v ∷ more) ≡ map index (cons_option (cond b None (Some e)) es) ++ others
attribute_start true n d o v name cs more e es others h g = g
attribute_start false n d o v name cs more e es others h g = ap₂ (λ x xs. x ∷ xs) (sym h) g

attributes_start : (others : List Attribute) (holders : List Holder) (at n i d : ℕ) (rest : List Record) →
    Aligned n None (attributes_records d at others ++ rest) (map index (attributes holders at n i others)) (n + length (attributes_records d at others)) None rest
attributes_start [] holders at n i d rest = ap (λ m. starts m None rest) (sym (add-zero n))
attributes_start (a ∷ others) holders at n i d rest =
    let b = declares a.name in
    let at' = at + size (written_attribute a) in
    let more = attributes_records d at' others in
    let es = attributes holders at' (n + 2) (i + one_if (not b)) others in
    let h = attributes_start others holders at' (n + 2) (i + one_if (not b)) d rest in
    let two : suc (suc n) ≡ n + 2 = omega arith in
    let next : starts (suc (suc n)) None (more ++ rest) ≡ map index es ++ starts (n + suc (suc (length more))) None rest =
    ap (λ m. starts m None (more ++ rest)) two ∙ h ∙ ap (λ m. map index es ++ starts m None rest) (omega arith) in
    attribute_start b n d (at + size a.space) (at + size a.space + size (before_value a)) a.name (written_pieces a.value) (more ++ rest)
    (record { path = Step.attribute i ∷ []; what = Thing.attribute a; holders = holders; start = at + size a.space; stop = at'; index = n; past = n + 2 }) es _ refl next

-- The flag that is left says of no level below that of the pieces.
abbrev pub Above : ℕ → Option ℕ → Type 0
Above l prev = (m : ℕ) → m < l → joins_prev prev m ≡ false

abbrev pub Joins : ℕ → Option ℕ → Bool → Type 0
Joins zero prev joins = ⊤
Joins (suc l) prev joins = joins_prev prev (suc l) ≡ joins

-- the tokens of an XML declaration begin no node
declaration_start : (others : List Attribute) (d at n : ℕ) (prev : Option ℕ) (rest : List Record) → (after : Option ℕ) × Aligned n prev (declaration_part_records d at others ++ rest) [] (n + length (declaration_part_records d at others)) after rest × (((m : ℕ) → joins_prev prev m ≡ false) → (m : ℕ) → joins_prev after m ≡ false)
declaration_start [] d at n prev rest = (prev, ap (λ m. starts m prev rest) (sym (add-zero n)), λ h. h)
declaration_start (a ∷ others) d at n prev rest =
    let more = declaration_part_records d (at + size (written_attribute a)) others in
    let h = declaration_start others d (at + size (written_attribute a)) (suc (suc n)) None rest in
    (h.0, h.1 ∙ ap (λ m. starts m h.0 rest) (omega arith), λ k. h.2 (λ m. refl))

-- the cuts of a token have a byte where it has one
have_of_cuts : (k l token d at n : ℕ) (rest : List Record) → Cut k n → is_text_token token ≡ true → cond (token == 0) d (cond (d == 255) 0 (suc d)) ≡ l →
    run_has l (cuts k token d at n ++ rest) ≡ (nat_lt 0 n || run_has l rest)
have_of_cuts zero l token d at n rest c t e = ap₂ (λ a b. (a && b) && (nat_lt 0 n || run_has l rest)) t (eq-eqb _ l e)
have_of_cuts (suc k) l token d at n rest c t e =
    ap₂ (λ a b. (a && b) && (nat_lt 0 1_048_575 || run_has l (cuts k token d (at + 1_048_575) (n - 1_048_575) ++ rest))) t (eq-eqb _ l e)
    ∙ sym (ap (λ b. b || run_has l rest) (lt-ltb 0 n (omega (arith, c.least))))

cuts_have : (l token d at n : ℕ) (rest : List Record) → is_text_token token ≡ true → cond (token == 0) d (cond (d == 255) 0 (suc d)) ≡ l →
    run_has l (cut_records token d at n ++ rest) ≡ (nat_lt 0 n || run_has l rest)
unfolding cut_records
cuts_have l token d at n rest t e = have_of_cuts (full_cuts n) l token d at n rest (full_cut n) t e

-- what is of a run and joins another begins no node
cuts_join : (rs : List Record) (l n : ℕ) (rest : List Record) → Each (λ r. (is_start_token r.token ≡ false) × (is_text_token r.token ≡ true) × (level_of r ≡ l)) rs →
    starts n (Some l) (rs ++ rest) ≡ starts (n + length rs) (Some l) rest
cuts_join [] l n rest h = ap (λ m. starts m (Some l) rest) (sym (add-zero n))
cuts_join (r ∷ rs) l n rest h =
    let joins : joins_prev (Some l) (level_of r) ≡ true = eq-eqb l (level_of r) (sym h.0.2) in
    ap₂ (λ a b. cond (a || (b && not (joins_prev (Some l) (level_of r)) && run_has (level_of r) (r ∷ (rs ++ rest)))) (n ∷ []) [] ++ starts (suc n) (cond b (Some (level_of r)) None) (rs ++ rest)) h.0.0 h.0.1
    ∙ ap (λ c. cond (not c && run_has (level_of r) (r ∷ (rs ++ rest))) (n ∷ []) [] ++ starts (suc n) (Some (level_of r)) (rs ++ rest)) joins
    ∙ ap (λ m. starts (suc n) (Some m) (rs ++ rest)) h.0.2 ∙ cuts_join rs l (suc n) rest h.1 ∙ ap (λ m. starts m (Some l) rest) (omega arith)

-- a run has a byte where one of its leaves has content
run_content : (f : Forest) (l at : ℕ) (rest : List Record) → suc l ≤ 255 → Proper (suc l) f → Below (suc l) rest → run_has (suc l) (forest_records (suc l) at f ++ rest) ≡ list_any has_content (run f)
run_content done l at [] k p b = refl
run_content done l at (r ∷ rest) k p b = ap (λ t. t && (nat_lt 0 r.len || run_has (suc l) rest)) (below_no_run (suc l) (r ∷ rest) b)
run_content (empty t f) l at rest k p b = refl
run_content (element t inside space f) l at rest k p b = refl
run_content (single (Leaf.text ps) f) l at rest k p b =
    let more = forest_records (suc l) (past_leaf at (Leaf.text ps)) f in
    ap (run_has (suc l)) (append_assoc (cut_records 5 l at (size (written_pieces ps))) more rest)
    ∙ cuts_have (suc l) 5 l at (size (written_pieces ps)) (more ++ rest) refl (level_at (suc l) k)
    ∙ ap (λ u. u || run_has (suc l) (more ++ rest)) (lt-ltb 0 (size (written_pieces ps)) p.0)
run_content (single (Leaf.cdata cs) f) l at rest k p b =
    let more = forest_records (suc l) (past_leaf at (Leaf.cdata cs)) f in
    ap (run_has (suc l)) (append_assoc (cut_records 11 l (at + 9) (size cs)) more rest)
    ∙ cuts_have (suc l) 11 l (at + 9) (size cs) (more ++ rest) refl (level_at (suc l) k)
    ∙ ap₂ (λ u v. u || v) p.0 (run_content f l (past_leaf at (Leaf.cdata cs)) rest k p.1 b)
run_content (single (Leaf.comment cs) f) l at rest k p b = refl
run_content (single (Leaf.instruction i) f) l at rest k p b = refl
run_content (single (Leaf.declaration d) f) l at rest k p b = refl
run_content (single (Leaf.doctype d) f) l at rest k p b = refl

-- Aligned, with a flag that is left, and the level that it doesn't say of.
pub record Scanned (l n : ℕ) (prev : Option ℕ) (rs : List Record) (places : List ℕ) (m : ℕ) (rest : List Record) : Type 0 where
  pub after : Option ℕ
  pub aligned : starts n prev rs ≡ places ++ starts m after rest
  pub above : Above l after

not_above : (l : ℕ) → Above l (Some l)
not_above l m k = ne_eqb l m (λ e. omega (arith, e))

joins_none : (l : ℕ) → Joins l None false
joins_none zero = tt
joins_none (suc l) = refl

-- one leaf, and the flag after it
pub record LeafScanned (l n : ℕ) (prev : Option ℕ) (mine rest : List Record) (places : List ℕ) (joins : Bool) : Type 0 where
  pub after : Option ℕ
  pub aligned : starts n prev (mine ++ rest) ≡ places ++ starts (n + length mine) after rest
  pub above : Above l after
  pub joined : Joins l after joins

abbrev place_if : Bool → ℕ → List ℕ
place_if b n = cond b (n ∷ []) []

places_of : (b : Bool) (e : Entry) → map index (cons_option (cond b (Some e) None) []) ≡ place_if b e.index
places_of true e = refl
places_of false e = refl

begins_by : (joins : Bool) (t : Holder) (hs : List Holder) (xs : List Leaf) → (not joins && list_any has_content xs) ≡ begins_run (t ∷ hs) joins xs
begins_by true t hs xs = refl
begins_by false t hs xs = refl

-- the records of a text or a CDATA section at a level
abbrev OfText : ℕ → Record → Type 0
OfText l r = (is_start_token r.token ≡ false) × (is_text_token r.token ≡ true) × (level_of r ≡ l)

text_start : (r : Record) (rs : List Record) (x : Leaf) (f : Forest) (t : Holder) (hs : List Holder) (at n number : ℕ) (joins : Bool) (prev : Option ℕ) (rest : List Record) →
    Each (OfText (suc (length hs))) (r ∷ rs) →
    run_has (suc (length hs)) (r ∷ (rs ++ rest)) ≡ list_any has_content (x ∷ run f) → joins_prev prev (suc (length hs)) ≡ joins →
    LeafScanned (suc (length hs)) n prev (r ∷ rs) rest (map index (cons_option (text_node (record { holders = t ∷ hs; at = at; index = n; number = number; joins = joins }) (x ∷ run f)) [])) true
text_start r rs x f t hs at n number joins prev rest o c j =
    let l = suc (length hs) in
    let s = o.0.0 in
    let u = o.0.1 in
    let e = o.0.2 in
    let more = rs ++ rest in
    let run_here : (is_start_token r.token || (is_text_token r.token && not (joins_prev prev (level_of r)) && run_has (level_of r) (r ∷ more))) ≡ begins_run (t ∷ hs) joins (x ∷ run f) =
    ap₂ (λ a b. a || (b && not (joins_prev prev (level_of r)) && run_has (level_of r) (r ∷ more))) s u
    ∙ ap (λ m. not (joins_prev prev m) && run_has m (r ∷ more)) e ∙ ap₂ (λ a b. not a && b) j c ∙ begins_by joins t hs (x ∷ run f) in
    record {
      after = Some l;
      aligned = ap₂ (λ a b. place_if a n ++ starts (suc n) (cond b (Some (level_of r)) None) more) run_here u
          ∙ ap (λ m. place_if (begins_run (t ∷ hs) joins (x ∷ run f)) n ++ starts (suc n) (Some m) more) e
          ∙ ap (λ z. place_if (begins_run (t ∷ hs) joins (x ∷ run f)) n ++ z) (cuts_join rs l (suc n) rest o.1)
          ∙ ap₂ (λ a m. a ++ starts m (Some l) rest) (sym (places_of (begins_run (t ∷ hs) joins (x ∷ run f)) _)) (omega arith);
      above = not_above l;
      joined = eq-eqb l l refl;
    }

-- the same of all its cuts
cuts_start : (token off size : ℕ) (x : Leaf) (f : Forest) (t : Holder) (hs : List Holder) (at n number : ℕ) (joins : Bool) (prev : Option ℕ) (rest : List Record) →
    is_start_token token ≡ false → is_text_token token ≡ true → cond (token == 0) (length hs) (cond (length hs == 255) 0 (suc (length hs))) ≡ suc (length hs) →
    run_has (suc (length hs)) (cut_records token (length hs) off size ++ rest) ≡ list_any has_content (x ∷ run f) → joins_prev prev (suc (length hs)) ≡ joins →
    LeafScanned (suc (length hs)) n prev (cut_records token (length hs) off size) rest (map index (cons_option (text_node (record { holders = t ∷ hs; at = at; index = n; number = number; joins = joins }) (x ∷ run f)) [])) true
cuts_start token off size x f t hs at n number joins prev rest s u e c j =
    let l = suc (length hs) in
    let d = length hs in
    let h = first_cut token d off size in
    let each : Each (OfText l) (cut_records token d off size) = each_cut (OfText l) token d off size (λ m o i. (s, u, e)) in
    let places = map index (cons_option (text_node (record { holders = t ∷ hs; at = at; index = n; number = number; joins = joins }) (x ∷ run f)) []) in
    subst (λ rs. LeafScanned l n prev rs rest places true) (sym h.is)
    (text_start (cut token d h.len off) h.rest x f t hs at n number joins prev rest (subst (Each (OfText l)) h.is each)
    (ap (λ rs. run_has l (rs ++ rest)) (sym h.is) ∙ c) j)

leaf_start : (x : Leaf) (f : Forest) (holders : List Holder) (at n number : ℕ) (joins : Bool) (prev : Option ℕ) (rest : List Record) → length holders ≤ 255 → Proper (length holders) (single x f) → Below (length holders) rest →
    Above (length holders) prev → Joins (length holders) prev joins →
    LeafScanned (length holders) n prev (leaf_records (length holders) at x) (forest_records (length holders) (past_leaf at x) f ++ rest)
    (map index (cons_option (leaf_node (record { holders = holders; at = at; index = n; number = number; joins = joins }) x f) [])) (is_text x)
leaf_start (Leaf.text ps) f [] at n number joins prev rest k p b a j = record { after = prev; aligned = ap (λ m. starts m prev (forest_records 0 (past_leaf at (Leaf.text ps)) f ++ rest)) (sym (add-zero n)); above = a; joined = tt }
leaf_start (Leaf.cdata cs) f [] at n number joins prev rest k p b a j = absurd p.0
leaf_start (Leaf.text ps) f (t ∷ hs) at n number joins prev rest k p b a j =
    let more = forest_records (suc (length hs)) (past_leaf at (Leaf.text ps)) f in
    cuts_start 5 at (size (written_pieces ps)) (Leaf.text ps) f t hs at n number joins prev (more ++ rest) refl refl (level_at (suc (length hs)) k)
    (ap (run_has (suc (length hs))) (sym (append_assoc (cut_records 5 (length hs) at (size (written_pieces ps))) more rest)) ∙ run_content (single (Leaf.text ps) f) (length hs) at rest k p b) j
leaf_start (Leaf.cdata cs) f (t ∷ hs) at n number joins prev rest k p b a j =
    let more = forest_records (suc (length hs)) (past_leaf at (Leaf.cdata cs)) f in
    cuts_start 11 (at + 9) (size cs) (Leaf.cdata cs) f t hs at n number joins prev (more ++ rest) refl refl (level_at (suc (length hs)) k)
    (ap (run_has (suc (length hs))) (sym (append_assoc (cut_records 11 (length hs) (at + 9) (size cs)) more rest)) ∙ run_content (single (Leaf.cdata cs) f) (length hs) at rest k p b) j
leaf_start (Leaf.comment cs) f holders at n number joins prev rest k p b a j =
    let more = forest_records (length holders) (past_leaf at (Leaf.comment cs)) f ++ rest in
    record { after = None; aligned = ap (λ m. n ∷ starts m None more) (sym (add-one n)); above = λ m i. refl; joined = joins_none (length holders) }
leaf_start (Leaf.instruction i) f holders at n number joins prev rest k p b a j =
    let more = forest_records (length holders) (past_leaf at (Leaf.instruction i)) f ++ rest in
    let two : suc (suc n) ≡ n + 2 = omega arith in
    record { after = None; aligned = ap (λ m. n ∷ starts m None more) two; above = λ m i. refl; joined = joins_none (length holders) }
leaf_start (Leaf.declaration d) f holders at n number joins prev rest k p b a j =
    let ds = declaration_attributes d in
    let l = length holders in
    let others = option_to_list d.encoding ++ option_to_list d.standalone in
    let more = forest_records l (past_leaf at (Leaf.declaration d)) f ++ rest in
    let h = declaration_start others (depth_at l) (at + 5 + size (written_attribute d.version)) (suc (suc n)) None more in
    record {
      after = h.0;
      aligned = h.1 ∙ ap (λ m. starts m h.0 more) (omega arith);
      above = λ m i. h.2 (λ m. refl) m;
      joined = joins_none_at l h.0 (h.2 (λ m. refl));
    }
  where
    joins_none_at : (l : ℕ) (after : Option ℕ) → ((m : ℕ) → joins_prev after m ≡ false) → Joins l after false
    joins_none_at zero after h = tt
    joins_none_at (suc l) after h = h (suc l)
leaf_start (Leaf.doctype d) f holders at n number joins prev rest k p b a j =
    let more = forest_records (length holders) (past_leaf at (Leaf.doctype d)) f ++ rest in
    record { after = None; aligned = ap (λ m. starts m None more) (sym (add-one n)); above = λ m i. refl; joined = joins_none (length holders) }

option_places : (o : Option Entry) (es : List Entry) (others : List ℕ) → map index (cons_option o []) ++ (map index es ++ others) ≡ map index (cons_option o es) ++ others
option_places None es others = refl
option_places (Some e) es others = refl

map_under : (s : Step) (es : List Entry) → map index (map (under s) es) ≡ map index es
map_under s [] = refl
map_under s (e ∷ es) = ap (λ xs. e.index ∷ xs) (map_under s es)

joins_above : (l : ℕ) (prev : Option ℕ) → Above (suc l) prev → Joins l prev false
joins_above zero prev a = tt
joins_above (suc l) prev a = a (suc l) (le_refl (suc (suc l)))

piece_places : (t : Tag) (inside : Forest) (h : Here) (stop : ℕ) (more : List Entry) →
    map index (own_nodes h t inside stop ++ more) ≡ h.index ∷ (map index (tag_attributes h t) ++ (map index (nodes (inside_of h t) inside) ++ map index more))
piece_places t inside h stop more =
    let mine = tag_attributes h t ++ nodes (inside_of h t) inside in
    map-append index (own_nodes h t inside stop) more ∙ ap (λ xs. h.index ∷ (xs ++ map index more)) (map_under (Step.child h.number) mine ∙ map-append index (tag_attributes h t) (nodes (inside_of h t) inside))
    ∙ ap (λ xs. h.index ∷ xs) (append_assoc (map index (tag_attributes h t)) (map index (nodes (inside_of h t) inside)) (map index more))

-- an element, from what is found of its inside and of what follows
piece_start : (t : Tag) (inside f : Forest) (h : Here) (stop high : ℕ) (prev : Option ℕ) (rest : List Record) →
    (within : Scanned (suc (length h.holders)) (inside_of h t).index None (forest_records (suc (length h.holders)) (past_start h.at t) inside ++ (forest_records (length h.holders) stop f ++ rest))
    (map index (nodes (inside_of h t) inside)) (element_past h t inside) (forest_records (length h.holders) stop f ++ rest)) →
    Scanned (length h.holders) (element_past h t inside) within.after (forest_records (length h.holders) stop f ++ rest) (map index (nodes (after_element h t inside stop) f)) high rest →
    Scanned (length h.holders) h.index prev ((tag_records (length h.holders) h.at t ++ forest_records (suc (length h.holders)) (past_start h.at t) inside ++ forest_records (length h.holders) stop f) ++ rest)
    (map index (own_nodes h t inside stop ++ nodes (after_element h t inside stop) f)) high rest
piece_start t inside f h stop high prev rest within next =
    let l = length h.holders in
    let ats = attributes_records l (attributes_place h.at t) t.attributes in
    let is = forest_records (suc l) (past_start h.at t) inside in
    let fs = forest_records l stop f in
    let as' = map index (tag_attributes h t) in
    let is' = map index (nodes (inside_of h t) inside) in
    let fs' = map index (nodes (after_element h t inside stop) f) in
    let step : suc h.index + length ats ≡ (inside_of h t).index = omega arith in
    let all_of : starts (suc h.index) None (ats ++ (is ++ (fs ++ rest))) ≡ as' ++ (is' ++ (fs' ++ starts high next.after rest)) =
    attributes_start t.attributes (held h t) (attributes_place h.at t) (suc h.index) 0 l (is ++ (fs ++ rest))
    ∙ ap (λ m. as' ++ starts m None (is ++ (fs ++ rest))) step ∙ ap (λ x. as' ++ x) within.aligned ∙ ap (λ x. as' ++ (is' ++ x)) next.aligned in
    record {
      after = next.after;
      aligned = ap (λ x. h.index ∷ starts (suc h.index) None x) (append_assoc (ats ++ is) fs rest ∙ append_assoc ats is (fs ++ rest)) ∙ ap (λ x. h.index ∷ x) all_of
          ∙ sym (ap (λ x. x ++ starts high next.after rest) (piece_places t inside h stop (nodes (after_element h t inside stop) f)) ∙ ap (λ x. h.index ∷ x) (append_assoc as' (is' ++ fs') _ ∙ ap (λ x. as' ++ x) (append_assoc is' fs' _)));
      above = next.above;
    }

starts_nodes : (f : Forest) (h : Here) (prev : Option ℕ) (rest : List Record) → length h.holders ≤ 255 → Shallow (length h.holders) f → Proper (length h.holders) f → Below (length h.holders) rest →
    Above (length h.holders) prev → Joins (length h.holders) prev h.joins → Scanned (length h.holders) h.index prev (forest_records (length h.holders) h.at f ++ rest) (map index (nodes h f)) (h.index + length (forest_records (length h.holders) h.at f)) rest
starts_nodes done h prev rest k s p b a j = record { after = prev; aligned = ap (λ m. starts m prev rest) (sym (add-zero h.index)); above = a }
starts_nodes (single x f) h prev rest k s p b a j =
    let l = length h.holders in
    let mine = leaf_records l h.at x in
    let more = forest_records l (past_leaf h.at x) f in
    let here = leaf_start x f h.holders h.at h.index h.number h.joins prev rest k p b a j in
    let next = starts_nodes f (after_leaf h x f) here.after rest k s p.1 b here.above here.joined in
    record {
      after = next.after;
      aligned = ap (starts h.index prev) (append_assoc mine more rest) ∙ here.aligned ∙ ap (λ ys. map index (cons_option (leaf_node h x f) []) ++ ys) next.aligned
          ∙ option_places (leaf_node h x f) (nodes (after_leaf h x f) f) _ ∙ ap (λ m. map index (nodes h (single x f)) ++ starts m next.after rest) (omega (arith, length-append mine more));
      above = next.above;
    }
starts_nodes (empty t f) h prev rest k s p b a j =
    let l = length h.holders in
    let stop = past_empty h.at t in
    let tag = tag_records l h.at t in
    let more = forest_records l stop f in
    let here : Scanned (suc l) (inside_of h t).index None (more ++ rest) [] (element_past h t done) (more ++ rest) =
    record { after = None; aligned = ap (λ m. starts m None (more ++ rest)) (sym (add-zero _)); above = λ m i. refl } in
    let next = starts_nodes f (after_element h t done stop) None rest k s.1 p b (λ m i. refl) (joins_none l) in
    let high : element_past h t done + length more ≡ h.index + length (tag ++ more) = omega (arith, length-append tag more) in
    let whole = piece_start t done f h stop (element_past h t done + length more) prev rest here next in
    record {
      after = whole.after;
      aligned = ap (λ x. starts h.index prev (x ++ more ++ rest)) (sym (append-nil tag)) ∙ whole.aligned ∙ ap (λ m. map index (own_nodes h t done stop ++ nodes (after_element h t done stop) f) ++ starts m whole.after rest) high
          ∙ ap (λ xs. map index (map (under (Step.child h.number)) (element_entry h t done stop ∷ xs) ++ nodes (after_element h t done stop) f) ++ starts (h.index + length (tag ++ more)) whole.after rest) (append-nil (tag_attributes h t));
      above = whole.above;
    }
starts_nodes (element t inside space f) h prev rest k s p b a j =
    let l = length h.holders in
    let stop = past_element h.at t inside space in
    let tag = tag_records l h.at t in
    let within = forest_records (suc l) (past_start h.at t) inside in
    let more = forest_records l stop f in
    let here = starts_nodes inside (inside_of h t) None (more ++ rest) (omega arith) s.1 p.0 (pieces_below f l stop rest k b) (λ m i. refl) (joins_none (suc l)) in
    let next = starts_nodes f (after_element h t inside stop) here.after rest k s.2 p.1 b (λ m i. here.above m (omega arith)) (joins_above l here.after here.above) in
    let high : element_past h t inside + length more ≡ h.index + length (tag ++ within ++ more) = omega (arith, length-append (tag ++ within) more, length-append tag within) in
    let whole = piece_start t inside f h stop (element_past h t inside + length more) prev rest here next in
    record {
      after = whole.after;
      aligned = whole.aligned ∙ ap (λ m. map index (nodes h (element t inside space f)) ++ starts m whole.after rest) high;
      above = whole.above;
    }

-- the law: the places of the nodes after the root are those that the scan finds
pub indexes_by_scan : (nest : Forest) (first : ℕ) → Shallow 0 nest → Proper 0 nest → map index (all nest first) ≡ 0 ∷ starts 1 None (forest_records 0 first nest)
unfolding all
indexes_by_scan nest first s p =
    let h = starts_nodes nest (at_first first) None [] (omega arith) s p tt (λ m i. refl) tt in
    ap (λ xs. 0 ∷ xs) (sym (ap (starts 1 None) (sym (append-nil (forest_records 0 first nest))) ∙ h.aligned ∙ append-nil (map index (nodes (at_first first) nest))))
