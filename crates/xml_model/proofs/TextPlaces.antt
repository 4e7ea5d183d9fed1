-- Where the records of texts and CDATA sections are, and that no two of them that are of two touch.
use Rattle.std.proofs.Common.{◌≡◌, ℕ, zero, suc, ◌+◌, ◌<◌, ◌≤◌, Bool, true, false, cond, ◌&&◌, ◌==◌, List, [], ◌∷◌, ◌++◌, map, length, codes, refl, ap, sym, ◌∙◌, arith, subst, append_assoc, append-nil, length-append, le_refl, IfSome}
use Rattle.std.specs.Prelude.{⊤, encode_utf8_all}
use Rattle.std.specs.List.{AllByRecursion as Each}
use Rattle.std.proofs.lemmas.Bool.{false≢true}
use Rattle.std.proofs.lemmas.Str.{encodes-append, length-le-encodes}
use Rattle.std.proofs.Math.Utf8.{encode}
use Rattle.xml_model.specs.Chars.{size}
use Rattle.xml_model.specs.Items.{Attribute, Tag, Leaf, leaf, written_leaf, written_pieces, written_attribute, written_start, written_empty, written_end, first_place}
use Rattle.xml_model.specs.Nest.{Forest, done, single, empty, element, flat}
use Rattle.xml_model.specs.Records.{Record, declares, depth_at, cut, cut_records, attributes_records, attributes_place, declaration_part_records, declaration_attributes, tag_records, leaf_records, run_records, forest_records, past_leaf, past_run, past_empty, past_start, past_element, past_forest}
use Rattle.xml_model.specs.Tree.{Holder, held, Step, Entry, Here, Thing, attributes, attribute_entry, nodes, all, at_first, leaf_node, text_node, begins_run, run, after_leaf, inside_of, after_element, element_entry, tag_attributes, under}
use Rattle.xml_model.specs.Scan.{is_text_token}
use Rattle.xml_model.specs.Wholes.{wholes, whole_records, run_wholes}
use Rattle.xml_model.specs.Accepted.{IsDocument}
use Rattle.xml_model.specs.Laws.{IsNode}
use Rattle.xml_model.proofs.Each.{each_at, each_append, each_more, each_left, each_option, each_map, if_some_cond, if_some_second}
use Rattle.xml_model.proofs.Cuts.{each_cut}
use Rattle.xml_model.proofs.Fits.{run_split, after_run}
use Rattle.xml_model.proofs.TextsApart.{is_text, begins_text, Separate, document_separate}
use Rattle.xml_model.proofs.Wholes.{EndsBy, BeginsPast, NoText, seam, silent_wholes, none_wholes, wholes_cuts}

-- ---- sizes

some_size : (cs : List ℕ) → 0 < length cs → 0 < size cs
unfolding size
some_size cs h = omega (arith, length-le-encodes cs)

size_both : (xs ys : List ℕ) → size (xs ++ ys) ≡ size xs + size ys
unfolding size
size_both xs ys = ap length (encodes-append xs ys) ∙ length-append (encode_utf8_all xs) (encode_utf8_all ys)

opening : size (codes "<![CDATA[") ≡ 9
unfolding size encode
opening = refl

cdata_past : (at : ℕ) (cs : List ℕ) → at + 9 + size cs < past_leaf at (Leaf.cdata cs)
cdata_past at cs =
    omega (arith, size_both (codes "<![CDATA[" ++ cs) (codes "]]>"), size_both (codes "<![CDATA[") cs, opening, some_size (codes "]]>") (omega arith))

start_past : (at : ℕ) (t : Tag) → at < past_start at t
start_past at t = omega (arith, some_size (written_start t) (omega arith))

empty_past : (at : ℕ) (t : Tag) → at < past_empty at t
empty_past at t = omega (arith, some_size (written_empty t) (omega arith))

end_past : (name space : List ℕ) → 0 < size (written_end name space)
end_past name space = some_size (written_end name space) (omega arith)

pub forest_grows : (f : Forest) (at : ℕ) → at ≤ past_forest at f
forest_grows done at = le_refl at
forest_grows (single x f) at = omega (arith, forest_grows f (past_leaf at x))
forest_grows (empty t f) at = omega (arith, forest_grows f (past_empty at t))
forest_grows (element t inside space f) at = omega (arith, forest_grows inside (past_start at t), forest_grows f (past_element at t inside space))

-- ---- what is of no text

pub attributes_none : (others : List Attribute) (d at : ℕ) → Each NoText (attributes_records d at others)
attributes_none [] d at = tt
attributes_none (a ∷ others) d at = (by (declares a.name), (refl, attributes_none others d (at + size (written_attribute a))))
  where
    by : (b : Bool) → is_text_token (cond b 3 2) ≡ false
    by true = refl
    by false = refl

pub tag_none : (l at : ℕ) (t : Tag) → Each NoText (tag_records l at t)
tag_none l at t = (refl, attributes_none t.attributes l (attributes_place at t))

pub parts_none : (others : List Attribute) (d at : ℕ) → Each NoText (declaration_part_records d at others)
parts_none [] d at = tt
parts_none (a ∷ others) d at = (refl, (refl, parts_none others d (at + size (written_attribute a))))

module _ (P : Record → Type 0) where
  pub of_none : (rs : List Record) → ((r : Record) → NoText r → P r) → Each NoText rs → Each P rs
  of_none rs f h = each_more NoText P f rs h

not_text : (p : ℕ) (r : Record) → NoText r → EndsBy p r
not_text p r h t = absurd (false≢true (sym h ∙ t))

not_after : (p : ℕ) (r : Record) → NoText r → BeginsPast p r
not_after p r h t = absurd (false≢true (sym h ∙ t))

-- ---- where they end

abbrev pub BeginsFrom : ℕ → Record → Type 0
BeginsFrom p r = is_text_token r.token ≡ true → p ≤ r.offset

not_from : (p : ℕ) (r : Record) → NoText r → BeginsFrom p r
not_from p r h t = absurd (false≢true (sym h ∙ t))

ends_later : (p q : ℕ) → p ≤ q → (rs : List Record) → Each (EndsBy p) rs → Each (EndsBy q) rs
ends_later p q h rs e = each_more (EndsBy p) (EndsBy q) (λ r k t. omega (arith, h, k t)) rs e

text_cuts_end : (l at n : ℕ) → Each (EndsBy (at + n)) (Rattle.xml_model.specs.Records.text_records l (cut_records 5 (depth_at l) at n))
text_cuts_end zero at n = tt
text_cuts_end (suc d) at n = each_cut (EndsBy (at + n)) 5 d at n (λ m o i t. i.stops)

leaf_ends : (x : Leaf) (l at : ℕ) → Each (EndsBy (past_leaf at x)) (leaf_records l at x)
leaf_ends (Leaf.text ps) l at = text_cuts_end l at (size (written_pieces ps))
leaf_ends (Leaf.cdata cs) l at = each_cut (EndsBy (past_leaf at (Leaf.cdata cs))) 11 (depth_at l) (at + 9) (size cs) (λ m o i t. omega (arith, i.stops, cdata_past at cs))
leaf_ends (Leaf.comment cs) l at = of_none (EndsBy (past_leaf at (Leaf.comment cs))) (leaf_records l at (Leaf.comment cs)) (not_text (past_leaf at (Leaf.comment cs))) (refl, tt)
leaf_ends (Leaf.instruction i) l at = of_none (EndsBy (past_leaf at (Leaf.instruction i))) (leaf_records l at (Leaf.instruction i)) (not_text (past_leaf at (Leaf.instruction i))) (refl, (refl, tt))
leaf_ends (Leaf.declaration d) l at = of_none (EndsBy (past_leaf at (Leaf.declaration d))) (leaf_records l at (Leaf.declaration d)) (not_text (past_leaf at (Leaf.declaration d))) (parts_none (declaration_attributes d) (depth_at l) (at + 5))
leaf_ends (Leaf.doctype d) l at = of_none (EndsBy (past_leaf at (Leaf.doctype d))) (leaf_records l at (Leaf.doctype d)) (not_text (past_leaf at (Leaf.doctype d))) (refl, tt)

pub ends_by : (f : Forest) (l at : ℕ) → Each (EndsBy (past_forest at f)) (forest_records l at f)
ends_by done l at = tt
ends_by (single x f) l at =
    each_append _ (leaf_records l at x) _ (ends_later (past_leaf at x) _ (forest_grows f (past_leaf at x)) _ (leaf_ends x l at)) (ends_by f l (past_leaf at x))
ends_by (empty t f) l at =
    let p = past_forest at (empty t f) in
    each_append (EndsBy p) (tag_records l at t) _ (of_none (EndsBy p) (tag_records l at t) (not_text p) (tag_none l at t)) (ends_by f l (past_empty at t))
ends_by (element t inside space f) l at =
    let past = past_element at t inside space in
    each_append _ (tag_records l at t ++ forest_records (suc l) (past_start at t) inside) _
    (each_append _ (tag_records l at t) _ (of_none (EndsBy (past_forest past f)) (tag_records l at t) (not_text (past_forest past f)) (tag_none l at t))
    (ends_later (past_forest (past_start at t) inside) _ (omega (arith, forest_grows f past)) _ (ends_by inside (suc l) (past_start at t))))
    (ends_by f l past)

-- ---- where they begin

from_earlier : (p q : ℕ) → p ≤ q → (rs : List Record) → Each (BeginsFrom q) rs → Each (BeginsFrom p) rs
from_earlier p q h rs e = each_more (BeginsFrom q) (BeginsFrom p) (λ r k t. omega (arith, h, k t)) rs e

past_from : (p q : ℕ) → p < q → (rs : List Record) → Each (BeginsFrom q) rs → Each (BeginsPast p) rs
past_from p q h rs e = each_more (BeginsFrom q) (BeginsPast p) (λ r k t. omega (arith, h, k t)) rs e

text_cuts_begin : (l at n : ℕ) → Each (BeginsFrom at) (Rattle.xml_model.specs.Records.text_records l (cut_records 5 (depth_at l) at n))
text_cuts_begin zero at n = tt
text_cuts_begin (suc d) at n = each_cut (BeginsFrom at) 5 d at n (λ m o i t. i.starts)

leaf_begins : (x : Leaf) (l at : ℕ) → Each (BeginsFrom at) (leaf_records l at x)
leaf_begins (Leaf.text ps) l at = text_cuts_begin l at (size (written_pieces ps))
leaf_begins (Leaf.cdata cs) l at = each_cut (BeginsFrom at) 11 (depth_at l) (at + 9) (size cs) (λ m o i t. omega (arith, i.starts))
leaf_begins (Leaf.comment cs) l at = of_none (BeginsFrom at) (leaf_records l at (Leaf.comment cs)) (not_from at) (refl, tt)
leaf_begins (Leaf.instruction i) l at = of_none (BeginsFrom at) (leaf_records l at (Leaf.instruction i)) (not_from at) (refl, (refl, tt))
leaf_begins (Leaf.declaration d) l at = of_none (BeginsFrom at) (leaf_records l at (Leaf.declaration d)) (not_from at) (parts_none (declaration_attributes d) (depth_at l) (at + 5))
leaf_begins (Leaf.doctype d) l at = of_none (BeginsFrom at) (leaf_records l at (Leaf.doctype d)) (not_from at) (refl, tt)

pub begins_from : (f : Forest) (l at : ℕ) → Each (BeginsFrom at) (forest_records l at f)
begins_from done l at = tt
begins_from (single x f) l at = each_append _ (leaf_records l at x) _ (leaf_begins x l at) (from_earlier at (past_leaf at x) (omega arith) _ (begins_from f l (past_leaf at x)))
begins_from (empty t f) l at =
    each_append _ (tag_records l at t) _ (of_none (BeginsFrom at) (tag_records l at t) (not_from at) (tag_none l at t)) (from_earlier at (past_empty at t) (omega arith) _ (begins_from f l (past_empty at t)))
begins_from (element t inside space f) l at =
    let past = past_element at t inside space in
    each_append _ (tag_records l at t ++ forest_records (suc l) (past_start at t) inside) _
    (each_append _ (tag_records l at t) _ (of_none (BeginsFrom at) (tag_records l at t) (not_from at) (tag_none l at t))
    (from_earlier at (past_start at t) (omega arith) _ (begins_from inside (suc l) (past_start at t))))
    (from_earlier at past (omega (arith, forest_grows inside (past_start at t))) _ (begins_from f l past))

-- a list of pieces that begins with no text has none right at its place
begins_past : (f : Forest) (l at : ℕ) → begins_text (flat f) ≡ false → Each (BeginsPast at) (forest_records l at f)
unfolding flat
begins_past done l at h = tt
begins_past (single (Leaf.text ps) f) l at h = absurd (false≢true (sym h))
begins_past (single (Leaf.cdata cs) f) l at h =
    each_append _ (leaf_records l at (Leaf.cdata cs)) _
    (each_cut (BeginsPast at) 11 (depth_at l) (at + 9) (size cs) (λ m o i t. omega (arith, i.starts)))
    (past_from at (past_leaf at (Leaf.cdata cs)) (omega (arith, cdata_past at cs)) _ (begins_from f l (past_leaf at (Leaf.cdata cs))))
begins_past (single (Leaf.comment cs) f) l at h =
    each_append (BeginsPast at) (leaf_records l at (Leaf.comment cs)) _ (of_none (BeginsPast at) (leaf_records l at (Leaf.comment cs)) (not_after at) (refl, tt))
    (past_from at (past_leaf at (Leaf.comment cs)) (omega (arith, some_size (written_leaf (Leaf.comment cs)) (omega arith))) _ (begins_from f l (past_leaf at (Leaf.comment cs))))
begins_past (single (Leaf.instruction i) f) l at h =
    each_append (BeginsPast at) (leaf_records l at (Leaf.instruction i)) _ (of_none (BeginsPast at) (leaf_records l at (Leaf.instruction i)) (not_after at) (refl, (refl, tt)))
    (past_from at (past_leaf at (Leaf.instruction i)) (omega (arith, some_size (written_leaf (Leaf.instruction i)) (omega arith))) _ (begins_from f l (past_leaf at (Leaf.instruction i))))
begins_past (single (Leaf.declaration d) f) l at h =
    each_append _ (leaf_records l at (Leaf.declaration d)) _ (of_none (BeginsPast at) (leaf_records l at (Leaf.declaration d)) (not_after at) (parts_none (declaration_attributes d) (depth_at l) (at + 5)))
    (past_from at (past_leaf at (Leaf.declaration d)) (omega (arith, some_size (written_leaf (Leaf.declaration d)) (omega arith))) _ (begins_from f l (past_leaf at (Leaf.declaration d))))
begins_past (single (Leaf.doctype d) f) l at h =
    each_append (BeginsPast at) (leaf_records l at (Leaf.doctype d)) _ (of_none (BeginsPast at) (leaf_records l at (Leaf.doctype d)) (not_after at) (refl, tt))
    (past_from at (past_leaf at (Leaf.doctype d)) (omega (arith, some_size (written_leaf (Leaf.doctype d)) (omega arith))) _ (begins_from f l (past_leaf at (Leaf.doctype d))))
begins_past (empty t f) l at h =
    each_append _ (tag_records l at t) _ (of_none (BeginsPast at) (tag_records l at t) (not_after at) (tag_none l at t)) (past_from at (past_empty at t) (empty_past at t) _ (begins_from f l (past_empty at t)))
begins_past (element t inside space f) l at h =
    let past = past_element at t inside space in
    each_append _ (tag_records l at t ++ forest_records (suc l) (past_start at t) inside) _
    (each_append _ (tag_records l at t) _ (of_none (BeginsPast at) (tag_records l at t) (not_after at) (tag_none l at t))
    (past_from at (past_start at t) (start_past at t) _ (begins_from inside (suc l) (past_start at t))))
    (past_from at past (omega (arith, forest_grows inside (past_start at t), start_past at t)) _ (begins_from f l past))

-- ---- the wholes of pieces

leaf_none : (x : Leaf) (l at : ℕ) → is_text (leaf x) ≡ false → (ys : List Record) → Each (BeginsFrom (past_leaf at x)) ys → wholes (leaf_records l at x ++ ys) ≡ wholes (leaf_records l at x) ++ wholes ys
leaf_none (Leaf.text ps) l at h ys k = absurd (false≢true (sym h))
leaf_none (Leaf.cdata cs) l at h ys k =
    seam (at + 9 + size cs) (leaf_records l at (Leaf.cdata cs)) ys (each_cut (EndsBy (at + 9 + size cs)) 11 (depth_at l) (at + 9) (size cs) (λ m o i t. i.stops)) (past_from _ _ (cdata_past at cs) ys k)
leaf_none (Leaf.comment cs) l at h ys k = silent_wholes (leaf_records l at (Leaf.comment cs)) ys (refl, tt)
leaf_none (Leaf.instruction i) l at h ys k = silent_wholes (leaf_records l at (Leaf.instruction i)) ys (refl, (refl, tt))
leaf_none (Leaf.declaration d) l at h ys k =
    let n = parts_none (declaration_attributes d) (depth_at l) (at + 5) in
    silent_wholes (leaf_records l at (Leaf.declaration d)) ys n ∙ ap (λ zs. zs ++ wholes ys) (sym (none_wholes (leaf_records l at (Leaf.declaration d)) n))
leaf_none (Leaf.doctype d) l at h ys k = silent_wholes (leaf_records l at (Leaf.doctype d)) ys (refl, tt)

-- a leaf, and what begins where it ends; if it is a text, what begins later
leaf_wholes : (x : Leaf) (l at : ℕ) (ys : List Record) → Each (BeginsFrom (past_leaf at x)) ys → (is_text (leaf x) ≡ true → Each (BeginsPast (past_leaf at x)) ys) →
    wholes (leaf_records l at x ++ ys) ≡ wholes (leaf_records l at x) ++ wholes ys
leaf_wholes (Leaf.text ps) l at ys k j = seam (past_leaf at (Leaf.text ps)) (leaf_records l at (Leaf.text ps)) ys (leaf_ends (Leaf.text ps) l at) (j refl)
leaf_wholes (Leaf.cdata cs) l at ys k j = leaf_none (Leaf.cdata cs) l at refl ys k
leaf_wholes (Leaf.comment cs) l at ys k j = leaf_none (Leaf.comment cs) l at refl ys k
leaf_wholes (Leaf.instruction i) l at ys k j = leaf_none (Leaf.instruction i) l at refl ys k
leaf_wholes (Leaf.declaration d) l at ys k j = leaf_none (Leaf.declaration d) l at refl ys k
leaf_wholes (Leaf.doctype d) l at ys k j = leaf_none (Leaf.doctype d) l at refl ys k

text_then_none : (a b : Bool) → (a && b) ≡ false → a ≡ true → b ≡ false
text_then_none true b h e = h
text_then_none false b h e = absurd (false≢true e)

pub single_wholes : (x : Leaf) (f : Forest) (l at : ℕ) → Separate (single x f) →
    wholes (forest_records l at (single x f)) ≡ wholes (leaf_records l at x) ++ wholes (forest_records l (past_leaf at x) f)
single_wholes x f l at s =
    leaf_wholes x l at (forest_records l (past_leaf at x) f) (begins_from f l (past_leaf at x)) (λ e. begins_past f l (past_leaf at x) (text_then_none _ _ s.0 e))

pub run_whole : (x : Leaf) (f : Forest) (l at : ℕ) → Separate (single x f) →
    wholes (leaf_records l at x ++ run_records l (past_leaf at x) (run f)) ≡ wholes (leaf_records l at x) ++ wholes (run_records l (past_leaf at x) (run f))
run_whole x f l at s =
    let p = past_leaf at x in
    leaf_wholes x l at (run_records l p (run f))
    (each_left (BeginsFrom p) (run_records l p (run f)) (forest_records l (past_run p (run f)) (after_run f)) (subst (Each (BeginsFrom p)) (run_split f l p) (begins_from f l p)))
    (λ e. each_left (BeginsPast p) (run_records l p (run f)) (forest_records l (past_run p (run f)) (after_run f)) (subst (Each (BeginsPast p)) (run_split f l p) (begins_past f l p (text_then_none _ _ s.0 e))))

pub empty_wholes : (t : Tag) (f : Forest) (l at : ℕ) → wholes (forest_records l at (empty t f)) ≡ tag_records l at t ++ wholes (forest_records l (past_empty at t) f)
empty_wholes t f l at = silent_wholes (tag_records l at t) (forest_records l (past_empty at t) f) (tag_none l at t)

pub element_wholes : (t : Tag) (inside : Forest) (space : List ℕ) (f : Forest) (l at : ℕ) →
    wholes (forest_records l at (element t inside space f)) ≡ (tag_records l at t ++ wholes (forest_records (suc l) (past_start at t) inside)) ++ wholes (forest_records l (past_element at t inside space) f)
element_wholes t inside space f l at =
    let tag = tag_records l at t in
    let is = forest_records (suc l) (past_start at t) inside in
    let fs = forest_records l (past_element at t inside space) f in
    let p = past_forest (past_start at t) inside in
    ap wholes (append_assoc tag is fs) ∙ silent_wholes tag (is ++ fs) (tag_none l at t)
    ∙ ap (λ zs. tag ++ zs) (seam p is fs (ends_by inside (suc l) (past_start at t)) (past_from p (past_element at t inside space) (omega (arith, end_past t.name space)) fs (begins_from f l (past_element at t inside space))))
    ∙ sym (append_assoc tag (wholes is) (wholes fs))

-- the records of a leaf that an element holds
pub text_whole : (d at : ℕ) (x : Leaf) → Rattle.xml_model.specs.Tree.is_text x ≡ true → wholes (leaf_records (suc d) at x) ≡ whole_records (suc d) at x
text_whole d at (Leaf.text ps) h = wholes_cuts 5 d at (size (written_pieces ps)) refl
text_whole d at (Leaf.cdata cs) h = wholes_cuts 11 d (at + 9) (size cs) refl
text_whole d at (Leaf.comment cs) h = absurd (false≢true h)
text_whole d at (Leaf.instruction i) h = absurd (false≢true h)
text_whole d at (Leaf.declaration v) h = absurd (false≢true h)
text_whole d at (Leaf.doctype v) h = absurd (false≢true h)

-- ---- the law, of each node

pub run_are : (f : Forest) (d at : ℕ) → Separate f → wholes (run_records (suc d) at (run f)) ≡ run_wholes (suc d) at (run f)
run_are done d at s = refl
run_are (empty t f) d at s = refl
run_are (element t inside space f) d at s = refl
run_are (single (Leaf.text ps) f) d at s =
    run_whole (Leaf.text ps) f (suc d) at s ∙ ap (λ zs. zs ++ wholes (run_records (suc d) (past_leaf at (Leaf.text ps)) (run f))) (text_whole d at (Leaf.text ps) refl)
    ∙ ap (λ zs. whole_records (suc d) at (Leaf.text ps) ++ zs) (run_are f d (past_leaf at (Leaf.text ps)) s.1)
run_are (single (Leaf.cdata cs) f) d at s =
    run_whole (Leaf.cdata cs) f (suc d) at s ∙ ap (λ zs. zs ++ wholes (run_records (suc d) (past_leaf at (Leaf.cdata cs)) (run f))) (text_whole d at (Leaf.cdata cs) refl)
    ∙ ap (λ zs. whole_records (suc d) at (Leaf.cdata cs) ++ zs) (run_are f d (past_leaf at (Leaf.cdata cs)) s.1)
run_are (single (Leaf.comment cs) f) d at s = refl
run_are (single (Leaf.instruction i) f) d at s = refl
run_are (single (Leaf.declaration v) f) d at s = refl
run_are (single (Leaf.doctype v) f) d at s = refl

abbrev WholesOf : Thing → ℕ → ℕ → Type 0
WholesOf (Thing.text xs) l at = wholes (run_records l at xs) ≡ run_wholes l at xs
WholesOf _ l at = Unit {0}

abbrev Wholes : Entry → Type 0
Wholes e = WholesOf e.what (length e.holders) e.start

text_are : (xs : List Leaf) (holders : List Holder) (at index number : ℕ) (joins : Bool) → ((d : ℕ) → wholes (run_records (suc d) at xs) ≡ run_wholes (suc d) at xs) →
    IfSome (text_node (record { holders = holders; at = at; index = index; number = number; joins = joins }) xs) Wholes
text_are xs [] at index number joins k = tt
text_are xs (t ∷ hs) at index number joins k = if_some_cond Wholes (begins_run (t ∷ hs) joins xs) _ (k (length hs))

leaf_are : (x : Leaf) (f : Forest) (h : Here) → Separate (single x f) → IfSome (leaf_node h x f) Wholes
leaf_are (Leaf.text ps) f h s = text_are (Leaf.text ps ∷ run f) h.holders h.at h.index h.number h.joins (λ d. run_are (single (Leaf.text ps) f) d h.at s)
leaf_are (Leaf.cdata cs) f h s = text_are (Leaf.cdata cs ∷ run f) h.holders h.at h.index h.number h.joins (λ d. run_are (single (Leaf.cdata cs) f) d h.at s)
leaf_are (Leaf.comment cs) f h s = tt
leaf_are (Leaf.instruction i) f h s = tt
leaf_are (Leaf.declaration v) f h s = tt
leaf_are (Leaf.doctype v) f h s = tt

attributes_are : (others : List Attribute) (holders : List Holder) (at index i : ℕ) → Each Wholes (attributes holders at index i others)
attributes_are [] holders at index i = tt
attributes_are (a ∷ others) holders at index i =
    each_option Wholes (attribute_entry holders at index i a) _ (if_some_second Wholes (declares a.name) _ tt) (attributes_are others holders _ (index + 2) _)

nodes_are : (f : Forest) (h : Here) → Separate f → Each Wholes (nodes h f)
nodes_are done h s = tt
nodes_are (single x f) h s = each_option Wholes (leaf_node h x f) (nodes (after_leaf h x f) f) (leaf_are x f h s) (nodes_are f (after_leaf h x f) s.1)
nodes_are (empty t f) h s =
    let stop = past_empty h.at t in
    each_append Wholes (map (under (Step.child h.number)) (element_entry h t done stop ∷ tag_attributes h t)) (nodes (after_element h t done stop) f)
    (each_map Wholes (under (Step.child h.number)) (element_entry h t done stop ∷ tag_attributes h t) (tt, attributes_are t.attributes (held h t) (attributes_place h.at t) (suc h.index) 0))
    (nodes_are f (after_element h t done stop) s)
nodes_are (element t inside space f) h s =
    let stop = past_element h.at t inside space in
    let mine = element_entry h t inside stop ∷ tag_attributes h t ++ nodes (inside_of h t) inside in
    each_append Wholes (map (under (Step.child h.number)) mine) (nodes (after_element h t inside stop) f)
    (each_map Wholes (under (Step.child h.number)) mine
    (tt, each_append Wholes (tag_attributes h t) (nodes (inside_of h t) inside) (attributes_are t.attributes (held h t) (attributes_place h.at t) (suc h.index) 0) (nodes_are inside (inside_of h t) s.0)))
    (nodes_are f (after_element h t inside stop) s.1)

document_wholes : (bytes : List ℕ) (nest : Forest) → IsDocument bytes nest → Each Wholes (all nest (first_place bytes))
unfolding all
document_wholes bytes nest d = (tt, nodes_are nest (at_first (first_place bytes)) (document_separate bytes nest d))

pub wholes_of_node : (bytes : List ℕ) (nest : Forest) → IsDocument bytes nest → (e : Entry) → IsNode nest (first_place bytes) e → (xs : List Leaf) → e.what ≡ Thing.text xs →
    wholes (run_records (length e.holders) e.start xs) ≡ run_wholes (length e.holders) e.start xs
wholes_of_node bytes nest d e n xs w = subst (λ t. WholesOf t (length e.holders) e.start) w (each_at Wholes (all nest (first_place bytes)) e (document_wholes bytes nest d) n)
