-- The holder of a node is the last starting tag before it of a lower level.
use Rattle.std.proofs.Common.{◌≡◌, ℕ, suc, ◌+◌, ◌≤◌, Bool, true, false, cond, List, [], ◌∷◌, ◌++◌, refl, ap, sym, ◌∙◌, arith, le_refl, length, length-append, append_assoc, append-nil, add-one, add-zero, IfSome, ◌&&◌, ◌==◌, nat_lt, lt-ltb, le-ltb, subst}
use Rattle.std.specs.List.{AllByRecursion as Each}
use Rattle.xml_model.specs.Chars.{size}
use Rattle.xml_model.specs.Items.{Attribute, Tag, Leaf, written_attribute}
use Rattle.xml_model.specs.Nest.{Forest, done, single, empty, element}
use Rattle.xml_model.specs.Records.{Record, named, document, records, declares, attribute_records, attributes_records, attributes_place, tag_records, leaf_records, forest_records, past_leaf, past_empty, past_start, past_element}
use Rattle.xml_model.specs.Tree.{Step, Entry, Holder, Here, attributes, attribute_entry, nodes, all, at_first, leaf_node, begins_run, run, after_leaf, inside_of, after_element, element_entry, tag_attributes, under, held}
pub use Rattle.xml_model.specs.Scan.{tag_or, last_tag}
pub use Rattle.xml_model.specs.Laws.{holder_index}
use Rattle.xml_model.proofs.Each.{each_append, each_option, each_map, each_left, if_some_cond, if_some_second}
use Rattle.xml_model.proofs.Levels.{level_of, Shallow, FromLevel, leaf_from, forest_from, attributes_from, deeper}
use Rattle.xml_model.proofs.Fits.{first_part, second_part, after_length}
use Rattle.xml_model.proofs.Intervals.{own_nodes, empty_as_element}

pub last_tag_append : (a b : List Record) (l n d : ℕ) → last_tag l n d (a ++ b) ≡ last_tag l (n + length a) (last_tag l n d a) b
last_tag_append [] b l n d = ap (λ m. last_tag l m d b) (sym (add-zero n))
last_tag_append (r ∷ a) b l n d = last_tag_append a b l (suc n) (tag_or l n d r) ∙ ap (λ m. last_tag l m (last_tag l (suc n) (tag_or l n d r) a) b) (omega arith)

no_tag : (l n d : ℕ) (r : Record) → l ≤ level_of r → tag_or l n d r ≡ d
no_tag l n d r h = by (r.token == 0) h
  where
    by : (b : Bool) → l ≤ cond b r.depth (cond (r.depth == 255) 0 (suc r.depth)) → cond (b && nat_lt r.depth l) n d ≡ d
    by true k = ap (λ b. cond b n d) (le-ltb r.depth l k)
    by false k = refl

-- records of the level or deeper have none
last_tag_from : (rs : List Record) (l n d : ℕ) → FromLevel l rs → last_tag l n d rs ≡ d
last_tag_from [] l n d h = refl
last_tag_from (r ∷ rs) l n d h = ap (λ m. last_tag l (suc n) m rs) (no_tag l n d r h.0) ∙ last_tag_from rs l (suc n) d h.1

past_from : (prefix more : List Record) (l o : ℕ) → last_tag l 0 0 prefix ≡ o → FromLevel l more → last_tag l 0 0 (prefix ++ more) ≡ o
past_from prefix more l o e h = last_tag_append prefix more l 0 0 ∙ last_tag_from more l (0 + length prefix) (last_tag l 0 0 prefix) h ∙ e

pub record Owned (whole : List Record) (holders : List Holder) (index : ℕ) : Type 0 where
  pub prefix : List Record
  pub rest : List Record
  pub split : whole ≡ prefix ++ rest
  pub begins : length prefix ≡ index
  pub owner : last_tag (length holders) 0 0 prefix ≡ holder_index holders

abbrev pub OwnedIn : List Record → Entry → Type 0
OwnedIn whole e = Owned whole e.holders e.index

owned_attributes : (others : List Attribute) (holders : List Holder) (at index i d : ℕ) (whole prefix rest : List Record) → suc d ≡ length holders → d ≤ 254 →
    whole ≡ prefix ++ attributes_records d at others ++ rest → length prefix ≡ index → last_tag (length holders) 0 0 prefix ≡ holder_index holders →
    Each (OwnedIn whole) (attributes holders at index i others)
owned_attributes [] holders at index i d whole prefix rest l k e n o = tt
owned_attributes (a ∷ others) holders at index i d whole prefix rest l k e n o =
    let mine = attribute_records d (at + size a.space) a in
    let more = attributes_records d (at + size (written_attribute a)) others in
    let from : FromLevel (suc d) mine = each_left (λ r. suc d ≤ level_of r) mine [] (attributes_from (a ∷ []) d at k) in
    let from' : FromLevel (length holders) mine = subst (λ m. FromLevel m mine) l from in
    each_option (OwnedIn whole) (attribute_entry holders at index i a) _
    (if_some_second (OwnedIn whole) (declares a.name) _ (record { prefix = prefix; rest = mine ++ (more ++ rest); split = first_part whole prefix mine more rest e ∙ append_assoc prefix mine (more ++ rest); begins = n; owner = o }))
    (owned_attributes others holders (at + size (written_attribute a)) (index + 2) _ d whole (prefix ++ mine) rest l k (second_part whole prefix mine more rest e) (after_length prefix mine index n) (past_from prefix mine (length holders) _ o from'))

owned_leaf : (x : Leaf) (f : Forest) (h : Here) (whole : List Record) → Owned whole h.holders h.index → IfSome (leaf_node h x f) (OwnedIn whole)
owned_leaf (Leaf.text ps) f h whole o = if_some_cond (OwnedIn whole) (begins_run h.holders h.joins (Leaf.text ps ∷ run f)) _ o
owned_leaf (Leaf.cdata cs) f h whole o = if_some_cond (OwnedIn whole) (begins_run h.holders h.joins (Leaf.cdata cs ∷ run f)) _ o
owned_leaf (Leaf.comment cs) f h whole o = o
owned_leaf (Leaf.instruction i) f h whole o = o
owned_leaf (Leaf.declaration d) f h whole o = tt
owned_leaf (Leaf.doctype d) f h whole o = tt

-- in an element the element's tag is the last one
inner_tag : (prefix : List Record) (l index at : ℕ) (t : Tag) → length prefix ≡ index → last_tag (suc l) 0 0 (prefix ++ named 0 l t.name (at + 1) ∷ []) ≡ index
inner_tag prefix l index at t n =
    last_tag_append prefix (named 0 l t.name (at + 1) ∷ []) (suc l) 0 0 ∙ ap (λ b. cond b (0 + length prefix) (last_tag (suc l) 0 0 prefix)) (lt-ltb l (suc l) (le_refl (suc l))) ∙ omega (arith, n)

owned_piece : (t : Tag) (inside : Forest) (h : Here) (stop : ℕ) (whole prefix rest : List Record) (more : List Entry) →
    whole ≡ prefix ++ (tag_records (length h.holders) h.at t ++ forest_records (suc (length h.holders)) (past_start h.at t) inside) ++ rest → length prefix ≡ h.index → length h.holders ≤ 254 →
    last_tag (length h.holders) 0 0 prefix ≡ holder_index h.holders →
    Each (OwnedIn whole) (nodes (inside_of h t) inside) → Each (OwnedIn whole) more → Each (OwnedIn whole) (own_nodes h t inside stop ++ more)
owned_piece t inside h stop whole prefix rest more e n k o i m =
    let l = length h.holders in
    let head = named 0 l t.name (h.at + 1) ∷ [] in
    let others = attributes_records l (attributes_place h.at t) t.attributes in
    let within = forest_records (suc l) (past_start h.at t) inside in
    let e' : whole ≡ (prefix ++ head) ++ others ++ (within ++ rest) = second_part whole prefix head others (within ++ rest) (first_part whole prefix (head ++ others) within rest e) in
    each_append (OwnedIn whole) (own_nodes h t inside stop) more
    (each_map (OwnedIn whole) (under (Step.child h.number)) (element_entry h t inside stop ∷ tag_attributes h t ++ nodes (inside_of h t) inside) (
      record { prefix = prefix; rest = (tag_records l h.at t ++ within) ++ rest; split = e ∙ append_assoc prefix (tag_records l h.at t ++ within) rest; begins = n; owner = o },
      each_append (OwnedIn whole) (tag_attributes h t) (nodes (inside_of h t) inside)
          (owned_attributes t.attributes (held h t) (attributes_place h.at t) (suc h.index) 0 l whole (prefix ++ head) (within ++ rest) refl k e' (after_length prefix head h.index n ∙ add-one h.index) (inner_tag prefix l h.index h.at t n))
          i,
    ))
    m

pub owned_nodes : (f : Forest) (h : Here) (whole prefix rest : List Record) → whole ≡ prefix ++ forest_records (length h.holders) h.at f ++ rest → length prefix ≡ h.index →
    length h.holders ≤ 255 → Shallow (length h.holders) f → last_tag (length h.holders) 0 0 prefix ≡ holder_index h.holders → Each (OwnedIn whole) (nodes h f)
owned_nodes done h whole prefix rest e n k s o = tt
owned_nodes (single x f) h whole prefix rest e n k s o =
    let l = length h.holders in
    let mine = leaf_records l h.at x in
    let more = forest_records l (past_leaf h.at x) f in
    each_option (OwnedIn whole) (leaf_node h x f) (nodes (after_leaf h x f) f)
    (owned_leaf x f h whole (record { prefix = prefix; rest = (mine ++ more) ++ rest; split = e ∙ append_assoc prefix (mine ++ more) rest; begins = n; owner = o }))
    (owned_nodes f (after_leaf h x f) whole (prefix ++ mine) rest (second_part whole prefix mine more rest e) (after_length prefix mine h.index n) k s (past_from prefix mine l _ o (leaf_from l h.at x k)))
owned_nodes (empty t f) h whole prefix rest e n k s o =
    let l = length h.holders in
    let stop = past_empty h.at t in
    let mine = tag_records l h.at t in
    let more = forest_records l stop f in
    let next = after_element h t done stop in
    let from : FromLevel l mine = (le_refl l, deeper l _ (attributes_from t.attributes l (attributes_place h.at t) s.0)) in
    empty_as_element (Each (OwnedIn whole)) t h stop (nodes next f)
    (owned_piece t done h stop whole prefix (more ++ rest) (nodes next f) (first_part whole prefix mine more rest e ∙ ap (λ x. prefix ++ x ++ (more ++ rest)) (sym (append-nil mine))) n s.0 o tt
    (owned_nodes f next whole (prefix ++ mine) rest (second_part whole prefix mine more rest e) (after_length prefix mine h.index n ∙ sym (add-zero _)) k s.1 (past_from prefix mine l _ o from)))
owned_nodes (element t inside space f) h whole prefix rest e n k s o =
    let l = length h.holders in
    let stop = past_element h.at t inside space in
    let head = named 0 l t.name (h.at + 1) ∷ [] in
    let others = attributes_records l (attributes_place h.at t) t.attributes in
    let tag = tag_records l h.at t in
    let within = forest_records (suc l) (past_start h.at t) inside in
    let mine = tag ++ within in
    let more = forest_records l stop f in
    let next = after_element h t inside stop in
    let e' : whole ≡ prefix ++ mine ++ (more ++ rest) = first_part whole prefix mine more rest e in
    let ats : FromLevel (suc l) others = attributes_from t.attributes l (attributes_place h.at t) s.0 in
    let is : FromLevel (suc l) within = forest_from inside (suc l) (past_start h.at t) (omega arith) s.1 in
    let from : FromLevel l mine = (le_refl l, deeper l (others ++ within) (each_append (λ r. suc l ≤ level_of r) others within ats is)) in
    let after : length (prefix ++ mine) ≡ next.index = omega (arith, after_length prefix mine h.index n, length-append tag within) in
    let inner : last_tag (suc l) 0 0 (prefix ++ tag) ≡ h.index =
    ap (last_tag (suc l) 0 0) (sym (append_assoc prefix head others)) ∙ past_from (prefix ++ head) others (suc l) h.index (inner_tag prefix l h.index h.at t n) ats in
    owned_piece t inside h stop whole prefix (more ++ rest) (nodes next f) e' n s.0 o
    (owned_nodes inside (inside_of h t) whole (prefix ++ tag) (more ++ rest) (second_part whole prefix tag within (more ++ rest) e') (after_length prefix tag h.index n) (omega arith) s.1 inner)
    (owned_nodes f next whole (prefix ++ mine) rest (second_part whole prefix mine more rest e) after k s.2 (past_from prefix mine l _ o from))

pub owners_by_scan : (nest : Forest) (first : ℕ) → Shallow 0 nest → Each (OwnedIn (records nest first)) (all nest first)
unfolding all records
owners_by_scan nest first s =
    let whole = document ∷ forest_records 0 first nest in (
      record { prefix = []; rest = whole; split = refl; begins = refl; owner = refl },
      owned_nodes nest (at_first first) whole (document ∷ []) [] (ap (λ x. document ∷ x) (sym (append-nil (forest_records 0 first nest)))) refl (omega arith) s refl,
    )
