-- The slots by depth: before a node's first record, those below its level have the indexes of what holds it.
use Rattle.std.proofs.Common.{◌≡◌, ℕ, suc, ◌+◌, ◌≤◌, Bool, true, false, cond, List, [], ◌∷◌, ◌++◌, refl, ap, ap₂, sym, ◌∙◌, arith, le_refl}
use Rattle.std.proofs.Common.{length, length-append, append_assoc, append-nil, add-one, add-zero, IfSome, ◌==◌, subst, take, slice_set}
use Rattle.std.specs.List.{AllByRecursion as Each, Contains}
use Rattle.std.proofs.lemmas.List.{take-set-le, length-set, take-append-le, take_all}
use Rattle.std.proofs.Math.Seq.{take-suc-set}
use Rattle.xml_model.specs.declared.TokenKind.TheVariants as token
use Rattle.xml_model.specs.Chars.{size}
use Rattle.xml_model.specs.Items.{Attribute, Tag, Leaf, written_attribute}
use Rattle.xml_model.specs.Nest.{is_nest, Forest, done, single, empty, element}
use Rattle.xml_model.specs.Records.{Record, kind_number, named, document, records, declares, attribute_records, attributes_records}
use Rattle.xml_model.specs.Records.{attributes_place, tag_records, leaf_records, forest_records, past_leaf, past_empty, past_start, past_element}
use Rattle.xml_model.specs.Tree.{Step, Entry, Holder, Here, attributes, attribute_entry, nodes, all, at_first, leaf_node, begins_run, run}
use Rattle.xml_model.specs.Tree.{after_leaf, inside_of, after_element, element_entry, tag_attributes, under, held}
use Rattle.xml_model.specs.Levels.{is_tag}
use Rattle.xml_model.specs.Scan.{level_of}
use Rattle.xml_model.specs.Slots.{slots_with, slots_after, holder_indexes}
use Rattle.xml_model.proofs.Bounds.{nest_shallow}
use Rattle.xml_model.proofs.Each.{each_at, each_append, each_option, each_map, each_left, if_some_cond, if_some_second}
use Rattle.xml_model.proofs.Levels.{Shallow, FromLevel, leaf_from, forest_from, attributes_from, deeper}
use Rattle.xml_model.proofs.Fits.{first_part, second_part, after_length}
use Rattle.xml_model.proofs.Intervals.{own_nodes, empty_as_element}

append_slots : (a b : List Record) (n : ℕ) (t : List ℕ) → slots_after n t (a ++ b) ≡ slots_after (n + length a) (slots_after n t a) b
append_slots [] b n t = ap (λ m. slots_after m t b) (sym (add-zero n))
append_slots (r ∷ a) b n t =
    append_slots a b (suc n) (slots_with n t r) ∙ ap (λ m. slots_after m (slots_after (suc n) (slots_with n t r) a) b) (omega arith)

-- a record of a level or deeper leaves the slots below the level as they are
slot_keeps : (l n : ℕ) (t : List ℕ) (r : Record) → l ≤ level_of r → take l (slots_with n t r) ≡ take l t
slot_keeps l n t r h = by (is_tag r) h
  where
    by : (b : Bool) → l ≤ cond b r.depth (cond (r.depth == 255) 0 (suc r.depth)) → take l (cond b (slice_set t r.depth n) t) ≡ take l t
    by true k = take-set-le l t r.depth n k
    by false k = refl

slots_keep : (rs : List Record) (l n : ℕ) (t : List ℕ) → FromLevel l rs → take l (slots_after n t rs) ≡ take l t
slots_keep [] l n t h = refl
slots_keep (r ∷ rs) l n t h = slots_keep rs l (suc n) (slots_with n t r) h.1 ∙ slot_keeps l n t r h.0

slot_length : (n : ℕ) (t : List ℕ) (r : Record) → length (slots_with n t r) ≡ length t
slot_length n t r = by (is_tag r)
  where
    by : (b : Bool) → length (cond b (slice_set t r.depth n) t) ≡ length t
    by true = length-set t r.depth n
    by false = refl

slots_length : (rs : List Record) (n : ℕ) (t : List ℕ) → length (slots_after n t rs) ≡ length t
slots_length [] n t = refl
slots_length (r ∷ rs) n t = slots_length rs (suc n) (slots_with n t r) ∙ slot_length n t r

kept_past : (s : List ℕ) (prefix more : List Record) (l : ℕ) (o : List ℕ) → take l (slots_after 0 s prefix) ≡ o → FromLevel l more →
    take l (slots_after 0 s (prefix ++ more)) ≡ o
kept_past s prefix more l o e h = ap (take l) (append_slots prefix more 0 s) ∙ slots_keep more l (0 + length prefix) (slots_after 0 s prefix) h ∙ e

-- the records before an index leave the indexes of some holders in the slots from the first on
record InSlots (s : List ℕ) (whole : List Record) (holders : List Holder) (index : ℕ) : Type 0 where
  pub prefix : List Record
  pub rest : List Record
  pub split : whole ≡ prefix ++ rest
  pub begins : length prefix ≡ index
  pub slots : take (length holders) (slots_after 0 s prefix) ≡ holder_indexes holders

abbrev HeldIn : List ℕ → List Record → Entry → Type 0
HeldIn s whole e = InSlots s whole e.holders e.index

slots_of_attributes : (s : List ℕ) (others : List Attribute) (holders : List Holder) (at index i d : ℕ) (whole prefix rest : List Record) →
    suc d ≡ length holders → d ≤ 254 → whole ≡ prefix ++ attributes_records d at others ++ rest → length prefix ≡ index →
    take (length holders) (slots_after 0 s prefix) ≡ holder_indexes holders → Each (HeldIn s whole) (attributes holders at index i others)
slots_of_attributes s [] holders at index i d whole prefix rest l k e n o = tt
slots_of_attributes s (a ∷ others) holders at index i d whole prefix rest l k e n o =
    let mine = attribute_records d (at + size a.space) a in
    let more = attributes_records d (at + size (written_attribute a)) others in
    let from : FromLevel (suc d) mine = each_left (λ r. suc d ≤ level_of r) mine [] (attributes_from (a ∷ []) d at k) in
    let from' : FromLevel (length holders) mine = subst (λ m. FromLevel m mine) l from in
    each_option (HeldIn s whole) (attribute_entry holders at index i a) _
    (if_some_second (HeldIn s whole) (declares a.name) _ (record {
      prefix = prefix;
      rest = mine ++ (more ++ rest);
      split = first_part whole prefix mine more rest e ∙ append_assoc prefix mine (more ++ rest);
      begins = n;
      slots = o;
    }))
    (slots_of_attributes s others holders (at + size (written_attribute a)) (index + 2) _ d whole (prefix ++ mine) rest l k
    (second_part whole prefix mine more rest e) (after_length prefix mine index n) (kept_past s prefix mine (length holders) _ o from'))

slots_of_leaf : (s : List ℕ) (x : Leaf) (f : Forest) (h : Here) (whole : List Record) → InSlots s whole h.holders h.index →
    IfSome (leaf_node h x f) (HeldIn s whole)
slots_of_leaf s (Leaf.text ps) f h whole o = if_some_cond (HeldIn s whole) (begins_run h.holders h.joins (Leaf.text ps ∷ run f)) _ o
slots_of_leaf s (Leaf.cdata cs) f h whole o = if_some_cond (HeldIn s whole) (begins_run h.holders h.joins (Leaf.cdata cs ∷ run f)) _ o
slots_of_leaf s (Leaf.comment cs) f h whole o = o
slots_of_leaf s (Leaf.instruction i) f h whole o = o
slots_of_leaf s (Leaf.declaration d) f h whole o = tt
slots_of_leaf s (Leaf.doctype d) f h whole o = tt

-- in an element the element's tag is in the slot of its depth
inner_tag : (s : List ℕ) (prefix : List Record) (l index at : ℕ) (t : Tag) (o : List ℕ) → 255 ≤ length s → l ≤ 254 → length prefix ≡ index →
    take l (slots_after 0 s prefix) ≡ o →
    take (suc l) (slots_after 0 s (prefix ++ named (kind_number token.StartTag) l t.name (at + 1) ∷ [])) ≡ o ++ index ∷ []
inner_tag s prefix l index at t o many k n e =
    ap (take (suc l)) (append_slots prefix (named (kind_number token.StartTag) l t.name (at + 1) ∷ []) 0 s)
    ∙ take-suc-set (slots_after 0 s prefix) l (0 + length prefix) (omega (arith, slots_length prefix 0 s, many, k))
    ∙ ap (λ xs. xs ++ (0 + length prefix) ∷ []) e ∙ ap (λ m. o ++ m ∷ []) (omega (arith, n))

slots_of_piece : (s : List ℕ) → 255 ≤ length s → (t : Tag) (inside : Forest) (h : Here) (stop : ℕ) (whole prefix rest : List Record) (more : List Entry) →
    whole ≡ prefix ++ (tag_records (length h.holders) h.at t ++ forest_records (suc (length h.holders)) (past_start h.at t) inside) ++ rest →
    length prefix ≡ h.index → length h.holders ≤ 254 → take (length h.holders) (slots_after 0 s prefix) ≡ holder_indexes h.holders →
    Each (HeldIn s whole) (nodes (inside_of h t) inside) → Each (HeldIn s whole) more →
    Each (HeldIn s whole) (own_nodes h t inside stop ++ more)
slots_of_piece s many t inside h stop whole prefix rest more e n k o i m =
    let l = length h.holders in
    let head = named (kind_number token.StartTag) l t.name (h.at + 1) ∷ [] in
    let others = attributes_records l (attributes_place h.at t) t.attributes in
    let within = forest_records (suc l) (past_start h.at t) inside in
    let e' : whole ≡ (prefix ++ head) ++ others ++ (within ++ rest) =
    second_part whole prefix head others (within ++ rest) (first_part whole prefix (head ++ others) within rest e) in
    each_append (HeldIn s whole) (own_nodes h t inside stop) more
    (each_map (HeldIn s whole) (under (Step.child h.number)) (element_entry h t inside stop ∷ tag_attributes h t ++ nodes (inside_of h t) inside) (
      record {
        prefix = prefix;
        rest = (tag_records l h.at t ++ within) ++ rest;
        split = e ∙ append_assoc prefix (tag_records l h.at t ++ within) rest;
        begins = n;
        slots = o;
      },
      each_append (HeldIn s whole) (tag_attributes h t) (nodes (inside_of h t) inside)
          (slots_of_attributes s t.attributes (held h t) (attributes_place h.at t) (suc h.index) 0 l whole (prefix ++ head) (within ++ rest) refl k e'
          (after_length prefix head h.index n ∙ add-one h.index) (inner_tag s prefix l h.index h.at t (holder_indexes h.holders) many k n o))
          i,
    ))
    m

slots_of_nodes : (s : List ℕ) → 255 ≤ length s → (f : Forest) (h : Here) (whole prefix rest : List Record) →
    whole ≡ prefix ++ forest_records (length h.holders) h.at f ++ rest → length prefix ≡ h.index → length h.holders ≤ 255 → Shallow (length h.holders) f →
    take (length h.holders) (slots_after 0 s prefix) ≡ holder_indexes h.holders → Each (HeldIn s whole) (nodes h f)
slots_of_nodes s many done h whole prefix rest e n k d o = tt
slots_of_nodes s many (single x f) h whole prefix rest e n k d o =
    let l = length h.holders in
    let mine = leaf_records l h.at x in
    let more = forest_records l (past_leaf h.at x) f in
    each_option (HeldIn s whole) (leaf_node h x f) (nodes (after_leaf h x f) f)
    (slots_of_leaf s x f h whole (record {
      prefix = prefix;
      rest = (mine ++ more) ++ rest;
      split = e ∙ append_assoc prefix (mine ++ more) rest;
      begins = n;
      slots = o;
    }))
    (slots_of_nodes s many f (after_leaf h x f) whole (prefix ++ mine) rest (second_part whole prefix mine more rest e)
    (after_length prefix mine h.index n) k d (kept_past s prefix mine l _ o (leaf_from l h.at x k)))
slots_of_nodes s many (empty t f) h whole prefix rest e n k d o =
    let l = length h.holders in
    let stop = past_empty h.at t in
    let mine = tag_records l h.at t in
    let more = forest_records l stop f in
    let next = after_element h t done stop in
    let from : FromLevel l mine = (le_refl l, deeper l _ (attributes_from t.attributes l (attributes_place h.at t) d.0)) in
    empty_as_element (Each (HeldIn s whole)) t h stop (nodes next f)
    (slots_of_piece s many t done h stop whole prefix (more ++ rest) (nodes next f)
    (first_part whole prefix mine more rest e ∙ ap (λ x. prefix ++ x ++ (more ++ rest)) (sym (append-nil mine))) n d.0 o tt
    (slots_of_nodes s many f next whole (prefix ++ mine) rest (second_part whole prefix mine more rest e)
    (after_length prefix mine h.index n ∙ sym (add-zero _)) k d.1 (kept_past s prefix mine l _ o from)))
slots_of_nodes s many (element t inside space f) h whole prefix rest e n k d o =
    let l = length h.holders in
    let stop = past_element h.at t inside space in
    let head = named (kind_number token.StartTag) l t.name (h.at + 1) ∷ [] in
    let others = attributes_records l (attributes_place h.at t) t.attributes in
    let tag = tag_records l h.at t in
    let within = forest_records (suc l) (past_start h.at t) inside in
    let mine = tag ++ within in
    let more = forest_records l stop f in
    let next = after_element h t inside stop in
    let e' : whole ≡ prefix ++ mine ++ (more ++ rest) = first_part whole prefix mine more rest e in
    let ats : FromLevel (suc l) others = attributes_from t.attributes l (attributes_place h.at t) d.0 in
    let is : FromLevel (suc l) within = forest_from inside (suc l) (past_start h.at t) (omega arith) d.1 in
    let from : FromLevel l mine = (le_refl l, deeper l (others ++ within) (each_append (λ r. suc l ≤ level_of r) others within ats is)) in
    let after : length (prefix ++ mine) ≡ next.index = omega (arith, after_length prefix mine h.index n, length-append tag within) in
    let inner : take (suc l) (slots_after 0 s (prefix ++ tag)) ≡ holder_indexes h.holders ++ h.index ∷ [] =
    ap (λ x. take (suc l) (slots_after 0 s x)) (sym (append_assoc prefix head others))
    ∙ kept_past s (prefix ++ head) others (suc l) _ (inner_tag s prefix l h.index h.at t (holder_indexes h.holders) many d.0 n o) ats in
    slots_of_piece s many t inside h stop whole prefix (more ++ rest) (nodes next f) e' n d.0 o
    (slots_of_nodes s many inside (inside_of h t) whole (prefix ++ tag) (more ++ rest) (second_part whole prefix tag within (more ++ rest) e')
    (after_length prefix tag h.index n) (omega arith) d.1 inner)
    (slots_of_nodes s many f next whole (prefix ++ mine) rest (second_part whole prefix mine more rest e) after k d.2 (kept_past s prefix mine l _ o from))

take_prefix : (prefix rest : List Record) → take (length prefix) (prefix ++ rest) ≡ prefix
take_prefix prefix rest =
    take-append-le (length prefix) prefix rest (le_refl (length prefix)) ∙ take_all (length prefix) prefix (le_refl (length prefix))

slots_of_all : (s : List ℕ) → 255 ≤ length s → (nest : Forest) (first : ℕ) → Shallow 0 nest → Each (HeldIn s (records nest first)) (all nest first)
unfolding all records
slots_of_all s many nest first d =
    let whole = document ∷ forest_records 0 first nest in (
      record { prefix = []; rest = whole; split = refl; begins = refl; slots = refl },
      slots_of_nodes s many nest (at_first first) whole (document ∷ []) []
          (ap (λ x. document ∷ x) (sym (append-nil (forest_records 0 first nest)))) refl (omega arith) d refl,
    )

-- the law: before a node's first record, the slots below its level have the indexes of what holds it, the outermost first
pub holders_in_slots : (s : List ℕ) → 255 ≤ length s → (nest : Forest) (first : ℕ) → is_nest nest ≡ true → (e : Entry) → Contains (all nest first) e →
    take (length e.holders) (slots_after 0 s (take e.index (records nest first))) ≡ holder_indexes e.holders
holders_in_slots s many nest first n e c =
    let o = each_at (HeldIn s (records nest first)) (all nest first) e (slots_of_all s many nest first (nest_shallow nest n)) c in
    ap (λ r. take (length e.holders) (slots_after 0 s r)) (ap₂ take (sym o.begins) o.split ∙ take_prefix o.prefix o.rest) ∙ o.slots
