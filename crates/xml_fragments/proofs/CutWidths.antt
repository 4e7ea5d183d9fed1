-- The records of the cut element have room.
use Rattle.std.proofs.Common.{◌≡◌, ℕ, zero, suc, ◌+◌, ◌-◌, Bool, true, false, List, [], ◌∷◌, ◌++◌, map, Option, None, refl, sym, ap, ap₂}
use Rattle.std.proofs.Common.{◌∙◌, not, ◌&&◌, ◌||◌, append-nil}
use Rattle.std.specs.Prelude.{is_some}
use Rattle.std.specs.List.{list_all}
use Rattle.std.proofs.lemmas.Bool.{and_from, or_parts, or_from, not_from_true, not-false}
use Rattle.std.proofs.lemmas.List.{map-append}
use Rattle.xml_model.specs.declared.Field.{Field}
use Rattle.xml_model.specs.Chars.{size}
use Rattle.xml_model.specs.Items.{Attribute, Tag, Leaf, text, cdata, declaration, doctype, written_attribute, written_pieces}
use Rattle.xml_model.specs.Nest.{Forest, done, single, empty, element}
use Rattle.xml_model.specs.Records.{Record, cut, cuts, cut_limit, full_cuts, cut_records, named, attribute_records, attributes_records}
use Rattle.xml_model.specs.Records.{attributes_place, declaration_part_records, declaration_attributes, tag_records, leaf_records}
use Rattle.xml_model.specs.Records.{forest_records, records, past_leaf, past_empty, past_start, past_forest, past_element}
use Rattle.xml_model.specs.Accepted.{first_wide, too_wide}
use Rattle.xml_nests.specs.Context.{Context, before, past_single, past_tag, past_whole, within, plug, level_in, place_in, tags_in}
use Rattle.xml_nests.specs.Context.{records_before, records_after}
use Rattle.xml_fragments.specs.Cut.{cut_tag}
use Rattle.xml_nests.proofs.Shift.{after_document}
use Rattle.xml_nests.proofs.Around.{records_plug}
use Rattle.xml_nests.proofs.Exchange.{wide_append, wide_one, none_is}
use Rattle.xml_fragments.proofs.CutFits.{one, cut_attributes}

-- whether a record is too wide hangs on its type and its lengths alone
abbrev bare : Record → Record
bare r = record r { depth = 0; offset = 0 }

abbrev pub wide : List Record → Bool
wide rs = is_some (first_wide rs)

wide_bare : (rs : List Record) → wide rs ≡ wide (map bare rs)
unfolding first_wide
wide_bare [] = refl
wide_bare (r ∷ rs) = wide_one (too_wide r) r.offset 0 (first_wide rs) (first_wide (map bare rs)) (wide_bare rs)

bare_attributes : (d e at to : ℕ) (others : List Attribute) →
    map bare (attributes_records d at others) ≡ map bare (attributes_records e to others)
bare_attributes d e at to [] = refl
bare_attributes d e at to (a ∷ others) =
    ap (λ (rs : List Record). map bare (attribute_records 0 0 a) ++ rs)
    (bare_attributes d e (at + size (written_attribute a)) (to + size (written_attribute a)) others)

bare_tag : (d e at to : ℕ) (t : Tag) → map bare (tag_records d at t) ≡ map bare (tag_records e to t)
bare_tag d e at to t =
    ap (λ (rs : List Record). bare (named 0 0 t.name 0) ∷ rs)
    (bare_attributes d e (attributes_place at t) (attributes_place to t) t.attributes)

bare_parts : (d e at to : ℕ) (others : List Attribute) →
    map bare (declaration_part_records d at others) ≡ map bare (declaration_part_records e to others)
bare_parts d e at to [] = refl
bare_parts d e at to (a ∷ others) =
    ap (λ (rs : List Record). map bare (declaration_part_records 0 0 (a ∷ [])) ++ rs)
    (bare_parts d e (at + size (written_attribute a)) (to + size (written_attribute a)) others)

bare_cuts : (k token d e at to n : ℕ) → map bare (cuts k token d at n) ≡ map bare (cuts k token e to n)
bare_cuts zero token d e at to n = refl
bare_cuts (suc k) token d e at to n =
    ap (λ (rs : List Record). bare (cut token d cut_limit at) ∷ rs)
    (bare_cuts k token d e (at + cut_limit) (to + cut_limit) (n - cut_limit))

bare_cut : (token d e at to n : ℕ) → map bare (cut_records token d at n) ≡ map bare (cut_records token e to n)
unfolding cut_records
bare_cut token d e at to n = bare_cuts (full_cuts n) token d e at to n

bare_leaf : (l m at to : ℕ) (x : Leaf) → map bare (leaf_records (suc l) at x) ≡ map bare (leaf_records (suc m) to x)
bare_leaf l m at to (text ps) = bare_cut 5 l m at to (size (written_pieces ps))
bare_leaf l m at to (cdata cs) = bare_cut 11 l m (at + 9) (to + 9) (size cs)
bare_leaf l m at to (Leaf.comment cs) = refl
bare_leaf l m at to (Leaf.instruction i) = refl
bare_leaf l m at to (declaration d) = bare_parts l m (at + 5) (to + 5) (declaration_attributes d)
bare_leaf l m at to (doctype d) = refl

bare_join : (xs ys xs' ys' : List Record) → map bare xs ≡ map bare xs' → map bare ys ≡ map bare ys' →
    map bare (xs ++ ys) ≡ map bare (xs' ++ ys')
bare_join xs ys xs' ys' a b = map-append bare xs ys ∙ ap₂ (λ (x y : List Record). x ++ y) a b ∙ sym (map-append bare xs' ys')

bare_records : (l m at to : ℕ) (f : Forest) → map bare (forest_records (suc l) at f) ≡ map bare (forest_records (suc m) to f)
bare_records l m at to done = refl
bare_records l m at to (single x f) =
    bare_join (leaf_records (suc l) at x) (forest_records (suc l) (past_leaf at x) f) (leaf_records (suc m) to x)
    (forest_records (suc m) (past_leaf to x) f) (bare_leaf l m at to x) (bare_records l m (past_leaf at x) (past_leaf to x) f)
bare_records l m at to (empty t f) =
    bare_join (tag_records (suc l) at t) (forest_records (suc l) (past_empty at t) f) (tag_records (suc m) to t)
    (forest_records (suc m) (past_empty to t) f) (bare_tag (suc l) (suc m) at to t)
    (bare_records l m (past_empty at t) (past_empty to t) f)
bare_records l m at to (element t inside space f) =
    bare_join (tag_records (suc l) at t ++ forest_records (suc (suc l)) (past_start at t) inside)
    (forest_records (suc l) (past_element at t inside space) f)
    (tag_records (suc m) to t ++ forest_records (suc (suc m)) (past_start to t) inside)
    (forest_records (suc m) (past_element to t inside space) f)
    (bare_join (tag_records (suc l) at t) (forest_records (suc (suc l)) (past_start at t) inside) (tag_records (suc m) to t)
    (forest_records (suc (suc m)) (past_start to t) inside) (bare_tag (suc l) (suc m) at to t)
    (bare_records (suc l) (suc m) (past_start at t) (past_start to t) inside))
    (bare_records l m (past_element at t inside space) (past_element to t inside space) f)

same_wide : (xs ys : List Record) → map bare xs ≡ map bare ys → wide xs ≡ wide ys
same_wide xs ys e = wide_bare xs ∙ ap wide e ∙ sym (wide_bare ys)

-- ---- attributes one by one

abbrev pub narrow : Attribute → Bool
narrow a = not (wide (attribute_records 0 0 a))

de_morgan : (x y : Bool) → (x || not y) ≡ not (not x && y)
de_morgan true y = refl
de_morgan false y = refl

attributes_narrow : (d at : ℕ) (others : List Attribute) → wide (attributes_records d at others) ≡ not (list_all narrow others)
unfolding first_wide
attributes_narrow d at [] = refl
attributes_narrow d at (a ∷ others) =
    let mine = attribute_records d (at + size a.space) a in
    let rest = attributes_records d (at + size (written_attribute a)) others in
    wide_append mine rest
    ∙ ap₂ (λ (x y : Bool). x || y) (same_wide mine (attribute_records 0 0 a) refl)
    (attributes_narrow d (at + size (written_attribute a)) others)
    ∙ de_morgan (wide (attribute_records 0 0 a)) (list_all narrow others)

pub tag_narrow : (d at : ℕ) (t : Tag) → wide (tag_records d at t) ≡ false →
    (wide (named 0 0 t.name 0 ∷ []) ≡ false) × (list_all narrow t.attributes ≡ true)
tag_narrow d at t e =
    let q = or_parts _ _
    (sym (wide_append (named 0 d t.name (at + 1) ∷ []) (attributes_records d (attributes_place at t) t.attributes)) ∙ e) in (
      same_wide (named 0 0 t.name 0 ∷ []) (named 0 d t.name (at + 1) ∷ []) refl
          ∙ q.0,
      not-false (list_all narrow t.attributes) (sym (attributes_narrow d (attributes_place at t) t.attributes) ∙ q.1),
    )

pub narrow_tag : (d at : ℕ) (t : Tag) → wide (named 0 0 t.name 0 ∷ []) ≡ false → list_all narrow t.attributes ≡ true →
    wide (tag_records d at t) ≡ false
narrow_tag d at t a b =
    wide_append (named 0 d t.name (at + 1) ∷ []) (attributes_records d (attributes_place at t) t.attributes)
    ∙ or_from _ _ (same_wide (named 0 d t.name (at + 1) ∷ []) (named 0 0 t.name 0 ∷ []) refl ∙ a)
    (attributes_narrow d (attributes_place at t) t.attributes ∙ not_from_true _ b)

pub parts : (xs ys : List Record) → wide (xs ++ ys) ≡ false → (wide xs ≡ false) × (wide ys ≡ false)
parts xs ys e = or_parts _ _ (sym (wide_append xs ys) ∙ e)

pub tags_narrow : (c : Context) (l at : ℕ) (tags : List Tag) → wide (records_before l at c) ≡ false →
    list_all (λ u. list_all narrow u.attributes) tags ≡ true → list_all (λ u. list_all narrow u.attributes) (tags_in tags c) ≡ true
tags_narrow (before rest) l at tags e h = h
tags_narrow (past_single x c) l at tags e h =
    tags_narrow c l (past_leaf at x) tags (parts (leaf_records l at x) (records_before l (past_leaf at x) c) e).1 h
tags_narrow (past_tag t c) l at tags e h =
    tags_narrow c l (past_empty at t) tags (parts (tag_records l at t) (records_before l (past_empty at t) c) e).1 h
tags_narrow (past_whole t inside space c) l at tags e h =
    tags_narrow c l (past_element at t inside space) tags
    (parts (tag_records l at t ++ forest_records (suc l) (past_start at t) inside)
    (records_before l (past_element at t inside space) c) e).1 h
tags_narrow (within t c space f) l at tags e h =
    let q = parts (tag_records l at t) (records_before (suc l) (past_start at t) c) e in
    tags_narrow c (suc l) (past_start at t) (t ∷ tags) q.1 (and_from _ _ (tag_narrow l at t q.0).1 h)

-- the law: the records of the cut element have room
pub cut_widths : (c : Context) (t : Tag) (inside : Forest) (space : List ℕ) →
    first_wide (records (plug c (one t inside space)) 0) ≡ None →
    first_wide (records (one (cut_tag t inside (tags_in [] c)) inside space) 0) ≡ None
unfolding records
cut_widths c t inside space e =
    let l = level_in 0 c in
    let at = place_in 0 c in
    let g = one t inside space in
    let u = cut_tag t inside (tags_in [] c) in
    let head = tag_records l at t in
    let deep = forest_records (suc l) (past_start at t) inside in
    let all : wide (forest_records 0 0 (plug c g)) ≡ false = sym (after_document (forest_records 0 0 (plug c g)))
    ∙ ap (λ (o : Option (Field × ℕ)). is_some o) e in
    let x = parts (records_before 0 0 c) (forest_records l at g ++ records_after 0 (past_forest at g) c)
    (sym (ap wide (records_plug 0 0 c g)) ∙ all) in
    let y = parts (forest_records l at g) (records_after 0 (past_forest at g) c) x.1 in
    let z = parts head deep (ap wide (sym (append-nil (head ++ deep))) ∙ y.0) in
    let own = tag_narrow l at t z.0 in
    let tags = tags_narrow c 0 0 [] x.0 refl in
    let new : wide (tag_records 0 0 u) ≡ false =
    narrow_tag 0 0 u own.0 (cut_attributes narrow (λ a h. h) t inside (tags_in [] c) tags own.1) in
    let inner : wide (forest_records 1 (past_start 0 u) inside) ≡ false =
    same_wide (forest_records 1 (past_start 0 u) inside) deep (bare_records 0 l (past_start 0 u) (past_start at t) inside) ∙ z.1 in
    none_is _ (after_document (forest_records 0 0 (one u inside space))
    ∙ ap wide (append-nil (tag_records 0 0 u ++ forest_records 1 (past_start 0 u) inside))
    ∙ wide_append (tag_records 0 0 u) (forest_records 1 (past_start 0 u) inside) ∙ or_from _ _ new inner)
