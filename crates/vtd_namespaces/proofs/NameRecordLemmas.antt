-- The names of an accepted document are in its bytes and its records.
use Rattle.std.proofs.Common.{◌≡◌, ℕ, zero, suc, ◌+◌, ◌<◌, true, false, ◌&&◌, List, [], ◌∷◌, ◌++◌, length, take, drop, refl, ap, ap₂, sym, ◌∙◌, subst, arith, append_assoc, append-nil, length-append, add-one, add-zero, codes, IfSome, map}
use Rattle.std.specs.Prelude.{encode_utf8_all}
use Rattle.std.specs.List.{AllByRecursion as Each, list_all}
use Rattle.std.proofs.lemmas.Bool.{and_parts}
use Rattle.std.proofs.Math.Seq.{get_or-append_seam}
use Rattle.std.proofs.lemmas.List.{get_or-append-add}
use Rattle.xml_model.specs.Chars.{size, begins, is_name, is_blank}
use Rattle.xml_model.specs.Items.{Attribute, Tag, Leaf, text, cdata, declaration, doctype, Item, leaf, start_tag, empty_tag, end_tag, meets, meets_tag, meets_attribute, meets_instruction, written, spelling, begins_at, ends_well, may_begin_at, walk, walk_from, walk_to_end, end_of_items, first_place, before_value, written_attribute, written_attributes, written_pieces, written_tag, written_end, written_leaf, quote_char}
use Rattle.xml_model.specs.Nest.{Forest, done, single, empty, element, flat}
use Rattle.xml_model.specs.Records.{depth_at, Record, document, records, named, name_token, attribute_records, attributes_records, attributes_place, tag_records, leaf_records, forest_records, past_leaf, past_empty, past_start, past_element, past_forest, declares}
use Rattle.xml_model.specs.Scan.{record_at}
use Rattle.xml_model.specs.Tree.{Step, Entry, Here, Holder, attributes, attribute_entry, nodes, all, at_first, leaf_node, begins_run, run, after_leaf, inside_of, after_element, element_entry, tag_attributes, under, held}
use Rattle.xml_model.specs.Accepted.{IsDocument, name_place}
use Rattle.xml_model.proofs.Cuts.{first_cut}
use Rattle.xml_model.proofs.Each.{each_append, each_option, each_map, if_some_cond, if_some_second}
use Rattle.xml_model.proofs.Fits.{first_part, second_part, after_length}
use Rattle.vtd_words.proofs.Fitting.{past_items}
use Rattle.vtd_text.specs.NameRecords.{is_attribute_name}
use Rattle.vtd_namespaces.specs.NameRecords.{IsNameRecord, IsAttributeRecord, AreAttributeRecords, IsTagRecord, IsInstructionRecord, HasNameRecord}
use Rattle.vtd_namespaces.proofs.SpelledLemmas.{Spelled, spelled_from, spelled_prefix, spelled_back, spelled_slice, spelled_at, size_append, size_angle, size_question}

-- records by their index

at_prefix : (whole prefix rest : List Record) (r : Record) (n : ℕ) → whole ≡ prefix ++ (r ∷ rest) → length prefix ≡ n → record_at n whole ≡ r
at_prefix whole prefix rest r n e l = ap₂ record_at (sym l) e ∙ get_or-append_seam prefix r rest document

at_rest : (whole prefix rest : List Record) (n : ℕ) → whole ≡ prefix ++ rest → length prefix ≡ n → record_at n whole ≡ record_at 0 rest
at_rest whole prefix rest n e l =
    ap₂ record_at (sym l ∙ sym (add-zero (length prefix))) e ∙ get_or-append-add prefix rest 0 document

-- the first record is of no attribute
abbrev pub NoAttribute : List Record → Type 0
NoAttribute rest = is_attribute_name (record_at 0 rest).token ≡ false

no_attribute_leaf : (x : Leaf) (l at : ℕ) (rest : List Record) → NoAttribute rest → NoAttribute (leaf_records l at x ++ rest)
no_attribute_leaf (text ps) zero at rest h = h
no_attribute_leaf (text ps) (suc l) at rest h =
    let c = first_cut 5 l at (size (written_pieces ps)) in
    subst (λ (rs : List Record). NoAttribute (rs ++ rest)) (sym c.is) refl
no_attribute_leaf (cdata cs) l at rest h =
    let c = first_cut 11 (depth_at l) (at + 9) (size cs) in
    subst (λ (rs : List Record). NoAttribute (rs ++ rest)) (sym c.is) refl
no_attribute_leaf (Leaf.comment cs) l at rest h = refl
no_attribute_leaf (Leaf.instruction i) l at rest h = refl
no_attribute_leaf (declaration d) l at rest h = refl
no_attribute_leaf (doctype d) l at rest h = refl

no_attribute : (f : Forest) (l at : ℕ) (rest : List Record) → NoAttribute rest → NoAttribute (forest_records l at f ++ rest)
no_attribute done l at rest h = h
no_attribute (single x f) l at rest h =
    let more = forest_records l (past_leaf at x) f in
    subst NoAttribute (sym (append_assoc (leaf_records l at x) more rest)) (no_attribute_leaf x l at (more ++ rest) (no_attribute f l (past_leaf at x) rest h))
no_attribute (empty t f) l at rest h = refl
no_attribute (element t inside space f) l at rest h = refl

-- the name of an attribute

attribute_name : (bytes : List ℕ) (at : ℕ) (a : Attribute) → Spelled bytes at (written_attribute a) → Spelled bytes (name_place at a) a.name
attribute_name bytes at a s =
    let q = quote_char a.quote ∷ [] in
    let v = before_value a in
    let one = spelled_prefix bytes at (a.space ++ v ++ written_pieces a.value) q s in
    let two = spelled_prefix bytes at (a.space ++ v) (written_pieces a.value) one in
    let three = spelled_back bytes at a.space v two in
    let at' = name_place at a in
    let four = spelled_prefix bytes at' (a.name ++ a.left ++ codes "=" ++ a.right) q three in
    let five = spelled_prefix bytes at' (a.name ++ a.left ++ codes "=") a.right four in
    let six = spelled_prefix bytes at' (a.name ++ a.left) (codes "=") five in
    spelled_prefix bytes at' a.name a.left six

attribute_meets : (a : Attribute) → meets_attribute a ≡ true → is_name a.name ≡ true
attribute_meets a m =
    let one = and_parts _ _ m in
    let two = and_parts _ _ one.0 in
    let three = and_parts _ _ two.0 in
    (and_parts _ _ three.0).1

two_more : (whole prefix rest : List Record) (a b : Record) (n : ℕ) → whole ≡ prefix ++ (a ∷ b ∷ rest) → length prefix ≡ n → n + 1 < length whole
two_more whole prefix rest a b n e l = omega (arith, ap length e, length-append prefix (a ∷ b ∷ rest), l)

attribute_holds : (bytes : List ℕ) (whole prefix rest : List Record) (d n at : ℕ) (a : Attribute) → whole ≡ prefix ++ (attribute_records d (at + size a.space) a ++ rest) → length prefix ≡ n →
    Spelled bytes at (written_attribute a) → meets_attribute a ≡ true → IsAttributeRecord bytes whole n (name_place at a) a
attribute_holds bytes whole prefix rest d n at a e l s m =
    let r = named (name_token a.name) d a.name (at + size a.space) in
    let is : record_at n whole ≡ r = at_prefix whole prefix _ r n e l in
    record {
      token = ap (λ x. x.token) is;
      name = subst (λ x. IsNameRecord bytes x a.name) (sym is) (record { slice = spelled_slice bytes (name_place at a) a.name (attribute_name bytes at a s); prefix = refl; named = attribute_meets a m });
      offset = ap (λ x. x.offset) is;
      room = two_more whole prefix rest r _ n e l;
    }

attributes_hold : (others : List Attribute) (bytes : List ℕ) (whole prefix rest : List Record) (d n at : ℕ) → whole ≡ prefix ++ (attributes_records d at others ++ rest) → length prefix ≡ n →
    Spelled bytes at (written_attributes others) → list_all meets_attribute others ≡ true → NoAttribute rest → AreAttributeRecords bytes whole n at others
attributes_hold [] bytes whole prefix rest d n at e l s m b = ap (λ r. is_attribute_name r.token) (at_rest whole prefix rest n e l) ∙ b
attributes_hold (a ∷ others) bytes whole prefix rest d n at e l s m b =
    let mine = attribute_records d (at + size a.space) a in
    let more = attributes_records d (at + size (written_attribute a)) others in
    let p = and_parts (meets_attribute a) (list_all meets_attribute others) m in (
      attribute_holds bytes whole prefix (more ++ rest) d n at a (e ∙ ap (λ x. prefix ++ x) (append_assoc mine more rest)) l (spelled_prefix bytes at (written_attribute a) (written_attributes others) s) p.0,
      attributes_hold others bytes whole (prefix ++ mine) rest d (n + 2) (at + size (written_attribute a)) (e ∙ ap (λ x. prefix ++ x) (append_assoc mine more rest) ∙ sym (append_assoc prefix mine (more ++ rest)))
          (after_length prefix mine n l) (spelled_back bytes at (written_attribute a) (written_attributes others) s) p.1 b,
    )

-- a tag

tag_holds : (bytes : List ℕ) (whole prefix rest : List Record) (l n at : ℕ) (t : Tag) → whole ≡ prefix ++ (tag_records l at t ++ rest) → length prefix ≡ n →
    Spelled bytes at (written_tag t) → meets_tag t ≡ true → NoAttribute rest → IsTagRecord bytes whole n at t
tag_holds bytes whole prefix rest l n at t e k s m b =
    let r = named 0 l t.name (at + 1) in
    let others = attributes_records l (attributes_place at t) t.attributes in
    let is : record_at n whole ≡ r = at_prefix whole prefix (others ++ rest) r n e k in
    let one = spelled_prefix bytes at (codes "<" ++ t.name ++ written_attributes t.attributes) t.space s in
    let two = spelled_prefix bytes at (codes "<" ++ t.name) (written_attributes t.attributes) one in
    let three : Spelled bytes (at + 1) t.name = spelled_at bytes (at + size (codes "<")) (at + 1) t.name (ap (λ x. at + x) size_angle) (spelled_back bytes at (codes "<") t.name two) in
    let place : at + size (codes "<" ++ t.name) ≡ attributes_place at t = omega (arith, size_append (codes "<") t.name, size_angle) in
    let four = spelled_at bytes (at + size (codes "<" ++ t.name)) (attributes_place at t) (written_attributes t.attributes) place (spelled_back bytes at (codes "<" ++ t.name) (written_attributes t.attributes) one) in
    let p = and_parts (is_name t.name && list_all meets_attribute t.attributes) (is_blank t.space) m in
    let q = and_parts (is_name t.name) (list_all meets_attribute t.attributes) p.0 in
    record {
      token = ap (λ x. x.token) is;
      within = omega (arith, ap length e, length-append prefix (r ∷ (others ++ rest)), k);
      name = subst (λ x. IsNameRecord bytes x t.name) (sym is) (record { slice = spelled_slice bytes (at + 1) t.name three; prefix = refl; named = q.0 });
      offset = ap (λ x. x.offset) is;
      attributes = attributes_hold t.attributes bytes whole (prefix ++ r ∷ []) rest l (n + 1) (attributes_place at t) (e ∙ sym (append_assoc prefix (r ∷ []) (others ++ rest))) (after_length prefix (r ∷ []) n k) four q.1 b;
    }

-- the node of an attribute

attribute_nodes : (others : List Attribute) (holders : List Holder) (bytes : List ℕ) (whole : List Record) (at place i : ℕ) → AreAttributeRecords bytes whole place at others →
    Each (HasNameRecord bytes whole) (attributes holders at place i others)
attribute_nodes [] holders bytes whole at place i s = tt
attribute_nodes (a ∷ others) holders bytes whole at place i s =
    each_option (HasNameRecord bytes whole) (attribute_entry holders at place i a) _ (if_some_second (HasNameRecord bytes whole) (declares a.name) _ s.0)
    (attribute_nodes others holders bytes whole (at + size (written_attribute a)) (place + 2) _ s.1)

tag_nodes : (h : Here) (t : Tag) (bytes : List ℕ) (whole : List Record) → IsTagRecord bytes whole h.index h.at t → Each (HasNameRecord bytes whole) (tag_attributes h t)
tag_nodes h t bytes whole s =
    attribute_nodes t.attributes (held h t) bytes whole (attributes_place h.at t) (suc h.index) 0
    (subst (λ n. AreAttributeRecords bytes whole n (attributes_place h.at t) t.attributes) (add-one h.index) s.attributes)

-- items that begin one after another

pub record Begins (bytes : List ℕ) (at : ℕ) (i : Item) : Type 0 where
  pub meets : meets i ≡ true
  pub spelled : Spelled bytes at (written i)

item_begins : (bytes : List ℕ) (at : ℕ) (i : Item) → begins_at bytes at i ≡ true → Begins bytes at i
unfolding begins_at spelling
item_begins bytes at i h =
    let one = and_parts (meets i && begins (spelling i) (drop at bytes) && ends_well i (drop (at + length (spelling i)) bytes)) (may_begin_at i (first_place bytes) at) h in
    let two = and_parts (meets i && begins (spelling i) (drop at bytes)) (ends_well i (drop (at + length (spelling i)) bytes)) one.0 in
    let three = and_parts (meets i) (begins (spelling i) (drop at bytes)) two.0 in
    record { meets = three.0; spelled = spelled_from bytes (written i) at three.1 }

walk_append : (bytes : List ℕ) (is js : List Item) (p : ℕ) → walk_from bytes p (is ++ js) ≡ true → (walk_from bytes p is ≡ true) × (walk_from bytes (end_of_items p is) js ≡ true)
walk_append bytes [] js p h = (refl, h)
walk_append bytes (i ∷ is) js p h =
    let one = and_parts (begins_at bytes p i) (walk_from bytes (p + length (spelling i)) (is ++ js)) h in
    let two = walk_append bytes is js (p + length (spelling i)) one.1 in
    (ap₂ (λ x y. x && y) one.0 two.0, two.1)

-- a leaf

instruction_holds : (bytes : List ℕ) (whole prefix rest : List Record) (l n at : ℕ) (i : Rattle.xml_model.specs.Items.Instruction) → whole ≡ prefix ++ (leaf_records l at (Leaf.instruction i) ++ rest) → length prefix ≡ n →
    Spelled bytes at (written_leaf (Leaf.instruction i)) → IsInstructionRecord bytes whole n at i
instruction_holds bytes whole prefix rest l n at i e k s =
    let is = at_prefix whole prefix _ _ n e k in
    let one = spelled_prefix bytes at (codes "<?" ++ i.target ++ i.space ++ i.content) (codes "?>") s in
    let two = spelled_prefix bytes at (codes "<?" ++ i.target ++ i.space) i.content one in
    let three = spelled_prefix bytes at (codes "<?" ++ i.target) i.space two in
    let four = spelled_at bytes (at + size (codes "<?")) (at + 2) i.target (ap (λ x. at + x) size_question) (spelled_back bytes at (codes "<?") i.target three) in
    record {
      token = ap (λ x. x.token) is;
      slice = subst (λ x. take x.len (drop x.offset bytes) ≡ encode_utf8_all i.target) (sym is) (spelled_slice bytes (at + 2) i.target four);
      offset = ap (λ x. x.offset) is;
    }

leaf_holds : (x : Leaf) (f : Forest) (h : Here) (bytes : List ℕ) (whole prefix rest : List Record) → whole ≡ prefix ++ (leaf_records (length h.holders) h.at x ++ rest) → length prefix ≡ h.index →
    Spelled bytes h.at (written_leaf x) → IfSome (leaf_node h x f) (HasNameRecord bytes whole)
leaf_holds (text ps) f h bytes whole prefix rest e n s = if_some_cond (HasNameRecord bytes whole) (begins_run h.holders h.joins (text ps ∷ run f)) _ tt
leaf_holds (cdata cs) f h bytes whole prefix rest e n s = if_some_cond (HasNameRecord bytes whole) (begins_run h.holders h.joins (cdata cs ∷ run f)) _ tt
leaf_holds (Leaf.comment cs) f h bytes whole prefix rest e n s = tt
leaf_holds (Leaf.instruction i) f h bytes whole prefix rest e n s = instruction_holds bytes whole prefix rest (length h.holders) h.index h.at i e n s
leaf_holds (declaration d) f h bytes whole prefix rest e n s = tt
leaf_holds (doctype d) f h bytes whole prefix rest e n s = tt

-- the nodes of a list of pieces

own_nodes : (t : Tag) (inside : Forest) (h : Here) (stop : ℕ) (bytes : List ℕ) (whole : List Record) (more : List Entry) → IsTagRecord bytes whole h.index h.at t → Each (HasNameRecord bytes whole) more →
    Each (HasNameRecord bytes whole) (map (under (Step.child h.number)) (element_entry h t inside stop ∷ tag_attributes h t ++ more))
own_nodes t inside h stop bytes whole more s m =
    each_map (HasNameRecord bytes whole) (under (Step.child h.number)) (element_entry h t inside stop ∷ tag_attributes h t ++ more)
    (s, each_append (HasNameRecord bytes whole) (tag_attributes h t) more (tag_nodes h t bytes whole s) m)

pub nodes_hold : (f : Forest) (h : Here) (bytes : List ℕ) (whole prefix rest : List Record) → whole ≡ prefix ++ forest_records (length h.holders) h.at f ++ rest → length prefix ≡ h.index →
    NoAttribute rest → walk_from bytes h.at (flat f) ≡ true → Each (HasNameRecord bytes whole) (nodes h f)
unfolding flat size spelling meets
nodes_hold done h bytes whole prefix rest e n b w = tt
nodes_hold (single x f) h bytes whole prefix rest e n b w =
    let l = length h.holders in
    let mine = leaf_records l h.at x in
    let more = forest_records l (past_leaf h.at x) f in
    let p = and_parts (begins_at bytes h.at (leaf x)) (walk_from bytes (past_leaf h.at x) (flat f)) w in
    let e' : whole ≡ prefix ++ (mine ++ (more ++ rest)) = first_part whole prefix mine more rest e ∙ append_assoc prefix mine (more ++ rest) in
    each_option (HasNameRecord bytes whole) (leaf_node h x f) (nodes (after_leaf h x f) f)
    (leaf_holds x f h bytes whole prefix (more ++ rest) e' n (item_begins bytes h.at (leaf x) p.0).spelled)
    (nodes_hold f (after_leaf h x f) bytes whole (prefix ++ mine) rest (second_part whole prefix mine more rest e) (after_length prefix mine h.index n) b p.1)
nodes_hold (empty t f) h bytes whole prefix rest e n b w =
    let l = length h.holders in
    let stop = past_empty h.at t in
    let mine = tag_records l h.at t in
    let more = forest_records l stop f in
    let next = after_element h t done stop in
    let p = and_parts (begins_at bytes h.at (empty_tag t)) (walk_from bytes stop (flat f)) w in
    let i = item_begins bytes h.at (empty_tag t) p.0 in
    let e' : whole ≡ prefix ++ (mine ++ (more ++ rest)) = first_part whole prefix mine more rest e ∙ append_assoc prefix mine (more ++ rest) in
    let s = tag_holds bytes whole prefix (more ++ rest) l h.index h.at t e' n (spelled_prefix bytes h.at (written_tag t) (codes "/>") i.spelled) i.meets (no_attribute f l stop rest b) in
    each_append (HasNameRecord bytes whole) (map (under (Step.child h.number)) (element_entry h t done stop ∷ tag_attributes h t)) (nodes next f)
    (each_map (HasNameRecord bytes whole) (under (Step.child h.number)) (element_entry h t done stop ∷ tag_attributes h t) (s, tag_nodes h t bytes whole s))
    (nodes_hold f next bytes whole (prefix ++ mine) rest (second_part whole prefix mine more rest e) (after_length prefix mine h.index n ∙ sym (add-zero _)) b p.1)
nodes_hold (element t inside space f) h bytes whole prefix rest e n b w =
    let l = length h.holders in
    let stop = past_element h.at t inside space in
    let tag = tag_records l h.at t in
    let within = forest_records (suc l) (past_start h.at t) inside in
    let mine = tag ++ within in
    let more = forest_records l stop f in
    let next = after_element h t inside stop in
    let first = past_start h.at t in
    let p = and_parts (begins_at bytes h.at (start_tag t)) (walk_from bytes first (flat inside ++ end_tag t.name space ∷ flat f)) w in
    let i = item_begins bytes h.at (start_tag t) p.0 in
    let v = walk_append bytes (flat inside) (end_tag t.name space ∷ flat f) first p.1 in
    let last : walk_from bytes (past_forest first inside) (end_tag t.name space ∷ flat f) ≡ true = ap (λ k. walk_from bytes k (end_tag t.name space ∷ flat f)) (past_items inside first) ∙ v.1 in
    let q = and_parts (begins_at bytes (past_forest first inside) (end_tag t.name space)) (walk_from bytes stop (flat f)) last in
    let e' : whole ≡ prefix ++ mine ++ (more ++ rest) = first_part whole prefix mine more rest e in
    let e'' : whole ≡ prefix ++ (tag ++ (within ++ (more ++ rest))) = first_part whole prefix tag within (more ++ rest) e' ∙ append_assoc prefix tag (within ++ (more ++ rest)) in
    let b' = no_attribute f l stop rest b in
    let b'' = no_attribute inside (suc l) first (more ++ rest) b' in
    let s = tag_holds bytes whole prefix (within ++ (more ++ rest)) l h.index h.at t e'' n (spelled_prefix bytes h.at (written_tag t) (codes ">") i.spelled) i.meets b'' in
    let after : length (prefix ++ mine) ≡ next.index = omega (arith, after_length prefix mine h.index n, length-append tag within) in
    each_append (HasNameRecord bytes whole) (map (under (Step.child h.number)) (element_entry h t inside stop ∷ tag_attributes h t ++ nodes (inside_of h t) inside)) (nodes next f)
    (own_nodes t inside h stop bytes whole (nodes (inside_of h t) inside) s
    (nodes_hold inside (inside_of h t) bytes whole (prefix ++ tag) (more ++ rest) (second_part whole prefix tag within (more ++ rest) e') (after_length prefix tag h.index n) b' v.0))
    (nodes_hold f next bytes whole (prefix ++ mine) rest (second_part whole prefix mine more rest e) after b q.1)

-- what has a name is in the bytes and the records of a document
pub document_holds : (bytes : List ℕ) (nest : Forest) → IsDocument bytes nest → Each (HasNameRecord bytes (records nest (first_place bytes))) (all nest (first_place bytes))
unfolding all records walk walk_to_end
document_holds bytes nest d =
    let first = first_place bytes in
    let whole = document ∷ forest_records 0 first nest in
    let w = and_parts (walk bytes (flat nest)) _ d.walked in (
      tt,
      nodes_hold nest (at_first first) bytes whole (document ∷ []) [] (ap (λ x. document ∷ x) (sym (append-nil (forest_records 0 first nest)))) refl refl w.0,
    )
