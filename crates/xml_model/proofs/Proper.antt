-- The items of a walk meet their rows, so no text is empty; and in a nest no CDATA section is outside the root element.
use Rattle.std.proofs.Common.{◌≡◌, ℕ, suc, ◌+◌, ◌<◌, Bool, true, false, List, [], ◌∷◌, ◌++◌, refl, sym, ◌∙◌, arith, length, not, ◌&&◌, nat_lt, lt-ltb, ⊎_elim}
use Rattle.std.specs.List.{list_all}
use Rattle.std.proofs.lemmas.Bool.{and_parts, and_from, or_cases, false≢true}
use Rattle.std.proofs.lemmas.List.Folds.{list_all-append}
use Rattle.std.proofs.lemmas.Str.{length-le-encodes}
use Rattle.xml_model.specs.Chars.{size}
use Rattle.xml_model.specs.Items.{Item, Leaf, leaf, start_tag, empty_tag, end_tag, meets, begins_at, spelling, walk, walk_from, walk_to_end, first_place, written_pieces, is_nil}
use Rattle.xml_model.specs.Nest.{Forest, done, single, empty, element, flat, is_nest, is_head, is_body, is_tail, is_content, is_misc, is_doctype, is_declaration}
use Rattle.xml_model.specs.Accepted.{IsDocument}
use Rattle.xml_model.proofs.Starts.{Proper, ProperLeaf}

first_of_and : (a b : Bool) → (a && b) ≡ true → a ≡ true
first_of_and a b h = (and_parts a b h).0

pub begins_meets : (bytes : List ℕ) (p : ℕ) (i : Item) → begins_at bytes p i ≡ true → meets i ≡ true
unfolding begins_at
begins_meets bytes p i h = first_of_and (meets i) _ (first_of_and _ _ (first_of_and _ _ h))

walk_from_meets : (bytes : List ℕ) (p : ℕ) (is : List Item) → walk_from bytes p is ≡ true → list_all meets is ≡ true
walk_from_meets bytes p [] h = refl
walk_from_meets bytes p (i ∷ is) h =
    let q = and_parts (begins_at bytes p i) _ h in and_from (meets i) _ (begins_meets bytes p i q.0) (walk_from_meets bytes (p + length (spelling i)) is q.1)

-- the law: the items of a walk meet their rows
pub walk_meets : (bytes : List ℕ) (is : List Item) → walk bytes is ≡ true → list_all meets is ≡ true
unfolding walk
walk_meets bytes is h = walk_from_meets bytes (first_place bytes) is h

pub walk_to_end_meets : (bytes : List ℕ) (is : List Item) → walk_to_end bytes is ≡ true → list_all meets is ≡ true
unfolding walk_to_end
walk_to_end_meets bytes is h = walk_meets bytes is (first_of_and (walk bytes is) _ h)

-- some characters take some bytes
some_size : (cs : List ℕ) → is_nil cs ≡ false → 0 < size cs
unfolding size
some_size [] h = absurd (false≢true (sym h))
some_size (c ∷ cs) h = omega (arith, length-le-encodes (c ∷ cs))

no_size : nat_lt 0 (size []) ≡ false
unfolding size
no_size = refl

cdata_size : (cs : List ℕ) → nat_lt 0 (size cs) ≡ not (is_nil cs)
cdata_size [] = no_size
cdata_size (c ∷ cs) = lt-ltb 0 (size (c ∷ cs)) (some_size (c ∷ cs) refl)

not_true : (b : Bool) → not b ≡ true → b ≡ false
not_true true h = absurd (false≢true h)
not_true false h = refl

leaf_proper : (l : ℕ) (x : Leaf) → meets (leaf x) ≡ true → ProperLeaf (suc l) x
unfolding meets
leaf_proper l (Leaf.text ps) h = some_size (written_pieces ps) (not_true (is_nil (written_pieces ps)) (first_of_and _ _ (first_of_and _ _ h)))
leaf_proper l (Leaf.cdata cs) h = cdata_size cs
leaf_proper l (Leaf.comment cs) h = tt
leaf_proper l (Leaf.instruction i) h = tt
leaf_proper l (Leaf.declaration d) h = tt
leaf_proper l (Leaf.doctype d) h = tt

misc_proper : (x : Leaf) → is_misc x ≡ true → ProperLeaf 0 x
misc_proper (Leaf.text ps) h = tt
misc_proper (Leaf.cdata cs) h = absurd (false≢true h)
misc_proper (Leaf.comment cs) h = tt
misc_proper (Leaf.instruction i) h = tt
misc_proper (Leaf.declaration d) h = tt
misc_proper (Leaf.doctype d) h = tt

doctype_proper : (x : Leaf) → is_doctype x ≡ true → ProperLeaf 0 x
doctype_proper (Leaf.text ps) h = tt
doctype_proper (Leaf.cdata cs) h = absurd (false≢true h)
doctype_proper (Leaf.comment cs) h = tt
doctype_proper (Leaf.instruction i) h = tt
doctype_proper (Leaf.declaration d) h = tt
doctype_proper (Leaf.doctype d) h = tt

declaration_proper : (x : Leaf) → is_declaration x ≡ true → ProperLeaf 0 x
declaration_proper (Leaf.text ps) h = tt
declaration_proper (Leaf.cdata cs) h = absurd (false≢true h)
declaration_proper (Leaf.comment cs) h = tt
declaration_proper (Leaf.instruction i) h = tt
declaration_proper (Leaf.declaration d) h = tt
declaration_proper (Leaf.doctype d) h = tt

-- the items of what is in an element and of what is after it
inside_meets : (inside rest : List Item) (i : Item) → list_all meets (inside ++ i ∷ rest) ≡ true → (list_all meets inside ≡ true) × (list_all meets rest ≡ true)
inside_meets inside rest i h =
    let p = and_parts (list_all meets inside) (list_all meets (i ∷ rest)) (sym (list_all-append meets inside (i ∷ rest)) ∙ h) in
    (p.0, (and_parts (meets i) (list_all meets rest) p.1).1)

inner_proper : (f : Forest) (l : ℕ) → list_all meets (flat f) ≡ true → Proper (suc l) f
unfolding flat
inner_proper done l h = tt
inner_proper (single x f) l h = let p = and_parts (meets (leaf x)) _ h in (leaf_proper l x p.0, inner_proper f l p.1)
inner_proper (empty t f) l h = inner_proper f l (and_parts (meets (empty_tag t)) _ h).1
inner_proper (element t inside space f) l h =
    let p = inside_meets (flat inside) (flat f) (end_tag t.name space) (and_parts (meets (start_tag t)) _ h).1 in
    (inner_proper inside (suc l) p.0, inner_proper f l p.1)

tail_proper : (f : Forest) → is_tail f ≡ true → Proper 0 f
unfolding is_tail
tail_proper done h = tt
tail_proper (single x f) h = let p = and_parts (is_misc x) _ h in (misc_proper x p.0, tail_proper f p.1)
tail_proper (empty t f) h = absurd (false≢true h)
tail_proper (element t inside space f) h = absurd (false≢true h)

body_proper : (f : Forest) → is_body f ≡ true → list_all meets (flat f) ≡ true → Proper 0 f
unfolding is_body flat
body_proper done h m = tt
body_proper (single x f) h m = let p = and_parts (is_misc x) _ h in (misc_proper x p.0, body_proper f p.1 (and_parts (meets (leaf x)) _ m).1)
body_proper (empty t f) h m = tail_proper f h
body_proper (element t inside space f) h m =
    let p = inside_meets (flat inside) (flat f) (end_tag t.name space) (and_parts (meets (start_tag t)) _ m).1 in
    (inner_proper inside 0 p.0, tail_proper f (and_parts (is_content 1 inside) _ h).1)

head_proper : (f : Forest) → is_head f ≡ true → list_all meets (flat f) ≡ true → Proper 0 f
unfolding is_head flat
head_proper done h m = tt
head_proper (single x f) h m =
    let n = (and_parts (meets (leaf x)) _ m).1 in
    ⊎_elim (λ k. let p = and_parts (is_misc x) _ k in (misc_proper x p.0, head_proper f p.1 n)) (λ k. let p = and_parts (is_doctype x) _ k in (doctype_proper x p.0, body_proper f p.1 n))
    (or_cases (is_misc x && is_head f) _ h)
head_proper (empty t f) h m = body_proper (empty t f) h m
head_proper (element t inside space f) h m = body_proper (element t inside space f) h m

pub nest_proper : (f : Forest) → is_nest f ≡ true → list_all meets (flat f) ≡ true → Proper 0 f
unfolding is_nest flat
nest_proper done h m = tt
nest_proper (single x f) h m =
    let n = (and_parts (meets (leaf x)) _ m).1 in
    ⊎_elim (λ k. let p = and_parts (is_declaration x) _ k in (declaration_proper x p.0, head_proper f p.1 n)) (λ k. head_proper (single x f) k m) (or_cases (is_declaration x && is_head f) _ h)
nest_proper (empty t f) h m = head_proper (empty t f) h m
nest_proper (element t inside space f) h m = head_proper (element t inside space f) h m

-- the law: the nest of a document has no empty text, and no CDATA section outside the root element
pub document_proper : (bytes : List ℕ) (nest : Forest) → IsDocument bytes nest → Proper 0 nest
document_proper bytes nest d = nest_proper nest d.nests (walk_to_end_meets bytes (flat nest) d.walked)

-- the law: the items of a document meet their rows
pub document_meets : (bytes : List ℕ) (nest : Forest) → IsDocument bytes nest → list_all meets (flat nest) ≡ true
document_meets bytes nest d = walk_to_end_meets bytes (flat nest) d.walked
