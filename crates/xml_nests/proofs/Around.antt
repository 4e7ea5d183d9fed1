-- What stands around exchanged pieces stays: items, records, names.
use Rattle.std.proofs.Common.{◌≡◌, ℕ, suc, ◌+◌, List, [], ◌∷◌, ◌++◌, map, length, take, drop, refl, sym, ap, ap₂, ◌∙◌, arith}
use Rattle.std.proofs.Common.{append_assoc, length-append, drop_at}
use Rattle.std.proofs.lemmas.List.{map-append, take_at}
use Rattle.xml_model.specs.Chars.{size}
use Rattle.xml_model.specs.Items.{Item, leaf, start_tag, empty_tag, end_tag, written_end}
use Rattle.xml_model.specs.Nest.{Forest, done, single, empty, element, flat}
use Rattle.xml_model.specs.Records.{Record, past_leaf, past_empty, past_start, past_forest, past_element, leaf_records, tag_records}
use Rattle.xml_model.specs.Records.{forest_records, records, document}
use Rattle.xml_nests.specs.Moved.{later, moved}
use Rattle.xml_nests.specs.Context.{join, Context, before, past_single, past_tag, past_whole, within, plug, items_before, items_after}
use Rattle.xml_nests.specs.Context.{level_in, place_in, end_in, records_before, records_after}
use Rattle.xml_nests.proofs.Shift.{past_later, records_later, map_moved}

-- ---- items

pub flat_join : (f g : Forest) → flat (join f g) ≡ flat f ++ flat g
unfolding flat
flat_join done g = refl
flat_join (single x f) g = ap (λ (is : List Item). leaf x ∷ is) (flat_join f g)
flat_join (empty t f) g = ap (λ (is : List Item). empty_tag t ∷ is) (flat_join f g)
flat_join (element t inside space f) g = ap (λ (is : List Item). start_tag t ∷ flat inside ++ end_tag t.name space ∷ is) (flat_join f g)
    ∙ sym (append_assoc (start_tag t ∷ flat inside) (end_tag t.name space ∷ flat f) (flat g))

pub flat_plug : (c : Context) (g : Forest) → flat (plug c g) ≡ items_before c ++ (flat g ++ items_after c)
unfolding flat
flat_plug (before rest) g = flat_join g rest
flat_plug (past_single x c) g = ap (λ (is : List Item). leaf x ∷ is) (flat_plug c g)
flat_plug (past_tag t c) g = ap (λ (is : List Item). empty_tag t ∷ is) (flat_plug c g)
flat_plug (past_whole t inside space c) g =
    ap (λ (is : List Item). start_tag t ∷ flat inside ++ end_tag t.name space ∷ is) (flat_plug c g)
    ∙ sym (ap (λ (is : List Item). start_tag t ∷ is)
    (append_assoc (flat inside ++ end_tag t.name space ∷ []) (items_before c) (flat g ++ items_after c)
    ∙ append_assoc (flat inside) (end_tag t.name space ∷ []) (items_before c ++ (flat g ++ items_after c))))
flat_plug (within t c space f) g =
    ap (λ (is : List Item). start_tag t ∷ is ++ end_tag t.name space ∷ flat f) (flat_plug c g)
    ∙ ap (λ (is : List Item). start_tag t ∷ is)
    (append_assoc (items_before c) (flat g ++ items_after c) (end_tag t.name space ∷ flat f)
    ∙ ap (λ (is : List Item). items_before c ++ is) (append_assoc (flat g) (items_after c) (end_tag t.name space ∷ flat f)))

-- ---- records

records_join : (l at : ℕ) (f g : Forest) → forest_records l at (join f g) ≡ forest_records l at f ++ forest_records l (past_forest at f) g
records_join l at done g = refl
records_join l at (single x f) g = ap (λ (rs : List Record). leaf_records l at x ++ rs) (records_join l (past_leaf at x) f g)
    ∙ sym (append_assoc (leaf_records l at x) (forest_records l (past_leaf at x) f) (forest_records l (past_forest (past_leaf at x) f) g))
records_join l at (empty t f) g = ap (λ (rs : List Record). tag_records l at t ++ rs) (records_join l (past_empty at t) f g)
    ∙ sym (append_assoc (tag_records l at t) (forest_records l (past_empty at t) f)
    (forest_records l (past_forest (past_empty at t) f) g))
records_join l at (element t inside space f) g =
    let head = tag_records l at t ++ forest_records (suc l) (past_start at t) inside in
    let p = past_element at t inside space in
    ap (λ (rs : List Record). head ++ rs) (records_join l p f g)
    ∙ sym (append_assoc head (forest_records l p f) (forest_records l (past_forest p f) g))

past_join : (at : ℕ) (f g : Forest) → past_forest at (join f g) ≡ past_forest (past_forest at f) g
past_join at done g = refl
past_join at (single x f) g = past_join (past_leaf at x) f g
past_join at (empty t f) g = past_join (past_empty at t) f g
past_join at (element t inside space f) g = past_join (past_element at t inside space) f g

past_plug : (at : ℕ) (c : Context) (g : Forest) → past_forest at (plug c g) ≡ end_in (past_forest (place_in at c) g) c
past_plug at (before rest) g = past_join at g rest
past_plug at (past_single x c) g = past_plug (past_leaf at x) c g
past_plug at (past_tag t c) g = past_plug (past_empty at t) c g
past_plug at (past_whole t inside space c) g = past_plug (past_element at t inside space) c g
past_plug at (within t c space f) g =
    ap (λ (n : ℕ). past_forest (n + size (written_end t.name space)) f) (past_plug (past_start at t) c g)

pub records_plug : (l at : ℕ) (c : Context) (g : Forest) →
    forest_records l at (plug c g) ≡ records_before l at c ++
    (forest_records (level_in l c) (place_in at c) g ++ records_after l (past_forest (place_in at c) g) c)
records_plug l at (before rest) g = records_join l at g rest
records_plug l at (past_single x c) g = ap (λ (rs : List Record). leaf_records l at x ++ rs) (records_plug l (past_leaf at x) c g)
    ∙ sym (append_assoc (leaf_records l at x) (records_before l (past_leaf at x) c) _)
records_plug l at (past_tag t c) g = ap (λ (rs : List Record). tag_records l at t ++ rs) (records_plug l (past_empty at t) c g)
    ∙ sym (append_assoc (tag_records l at t) (records_before l (past_empty at t) c) _)
records_plug l at (past_whole t inside space c) g =
    let head = tag_records l at t ++ forest_records (suc l) (past_start at t) inside in
    let p = past_element at t inside space in
    ap (λ (rs : List Record). head ++ rs) (records_plug l p c g) ∙ sym (append_assoc head (records_before l p c) _)
records_plug l at (within t c space f) g =
    let p = past_start at t in
    let stop = past_forest (place_in p c) g in
    let mid = forest_records (level_in (suc l) c) (place_in p c) g in
    let a = records_before (suc l) p c in
    let b = records_after (suc l) stop c in
    let z = forest_records l (end_in stop c + size (written_end t.name space)) f in
    ap₂ (λ (rs : List Record) (n : ℕ). (tag_records l at t ++ rs) ++ forest_records l (n + size (written_end t.name space)) f)
    (records_plug (suc l) p c g) (past_plug p c g)
    ∙ ap (λ (rs : List Record). rs ++ z) (sym (append_assoc (tag_records l at t) a (mid ++ b)))
    ∙ append_assoc (tag_records l at t ++ a) (mid ++ b) z
    ∙ ap (λ (rs : List Record). (tag_records l at t ++ a) ++ rs) (append_assoc mid b z)

end_later : (stop to n : ℕ) (c : Context) → to ≡ stop + n → end_in to c ≡ end_in stop c + n
end_later stop to n (before rest) e = past_later stop to n rest e
end_later stop to n (past_single x c) e = end_later stop to n c e
end_later stop to n (past_tag t c) e = end_later stop to n c e
end_later stop to n (past_whole t inside space c) e = end_later stop to n c e
end_later stop to n (within t c space f) e =
    let h = end_later stop to n c e in past_later (end_in stop c + size (written_end t.name space))
    (end_in to c + size (written_end t.name space)) n f (omega (arith, h))

after_later : (l stop to n : ℕ) (c : Context) → to ≡ stop + n → records_after l to c ≡ map (later n) (records_after l stop c)
after_later l stop to n (before rest) e = records_later l stop to n rest e
after_later l stop to n (past_single x c) e = after_later l stop to n c e
after_later l stop to n (past_tag t c) e = after_later l stop to n c e
after_later l stop to n (past_whole t inside space c) e = after_later l stop to n c e
after_later l stop to n (within t c space f) e =
    let h = end_later stop to n c e in
    let b = end_in stop c + size (written_end t.name space) in
    ap₂ (λ (xs ys : List Record). xs ++ ys) (after_later (suc l) stop to n c e)
    (records_later l b (end_in to c + size (written_end t.name space)) n f (omega (arith, h)))
    ∙ sym (map-append (later n) (records_after (suc l) stop c) (forest_records l b f))

pub after_moved : (l from to : ℕ) (c : Context) → records_after l to c ≡ map (moved from to) (records_after l from c)
after_moved l from to c =
    after_later l 0 to to c (omega arith) ∙ sym (map_moved from to (records_after l 0 c))
    ∙ ap (map (moved from to)) (sym (after_later l 0 from from c (omega arith)))

-- a list in three parts, of which the middle goes and the last changes
cut_in : (X : Type 0) (a b z : List X) (whole : List X) → whole ≡ a ++ (b ++ z) →
    (take (length a) whole ≡ a) × (drop (length a + length b) whole ≡ z)
cut_in X a b z whole e = (
  ap (take (length a)) e ∙ take_at a (b ++ z) (length a) refl,
  ap (drop (length a + length b)) (e ∙ sym (append_assoc a b z))
      ∙ drop_at (a ++ b) z (length a + length b) (length-append a b),
)

-- The law of exchange: where pieces are exchanged for others, the records are those before them as they were, the records of the new
-- pieces, and those after them, each as far on as the new pieces end after the old ones.
pub records_exchanged : (first : ℕ) (c : Context) (g h : Forest) →
    let l = level_in 0 c in
    let at = place_in first c in
    let start = suc (length (records_before 0 first c)) in
    let old = records (plug c g) first in
    records (plug c h) first ≡ take start old ++
    (forest_records l at h ++ map (moved (past_forest at g) (past_forest at h)) (drop (start + length (forest_records l at g)) old))
unfolding records
records_exchanged first c g h =
    let l = level_in 0 c in
    let at = place_in first c in
    let a = document ∷ records_before 0 first c in
    let z = records_after 0 (past_forest at g) c in
    let w = cut_in Record a (forest_records l at g) z (document ∷ forest_records 0 first (plug c g))
    (ap (λ (rs : List Record). document ∷ rs) (records_plug 0 first c g)) in
    ap (λ (rs : List Record). document ∷ rs) (records_plug 0 first c h)
    ∙ ap₂ (λ (xs ys : List Record). xs ++ (forest_records l at h ++ ys)) (sym w.0)
    (after_moved 0 (past_forest at g) (past_forest at h) c ∙ ap (map (moved (past_forest at g) (past_forest at h))) (sym w.1))
