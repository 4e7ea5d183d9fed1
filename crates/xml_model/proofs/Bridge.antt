-- 'Accepted with this nest' and 'no layer refuses': from the second to the first where a nest is there, and from the first to the
-- second where at most one item begins at each place that a walk reaches, which the readers of items show.
use Rattle.std.proofs.Common.{◌≡◌, ℕ, ◌+◌, ◌<◌, ◌≤◌, Bool, true, false, ◌&&◌, List, [], ◌∷◌, ◌++◌, refl, ap, ap₂, sym, ◌∙◌, arith, subst, length, append_assoc, append-nil, le_refl, not, Option, Some, None, eqb-true}
use Rattle.std.specs.Prelude.{IsUtf8}
use Rattle.std.proofs.Math.Seq.{take-length}
use Rattle.std.proofs.lemmas.Bool.{and_parts, false≢true}
use Rattle.std.proofs.lemmas.Str.{length-le-encodes}
use Rattle.xml_model.specs.declared.Field.{Field}
use Rattle.xml_model.specs.declared.DocFault.TheVariants as faults
use Rattle.xml_model.specs.Items.{Item, Leaf, leaf, start_tag, empty_tag, end_tag, written, written_pieces, meets, is_nil, begins_at, spelling, walk, walk_from, walk_to_end, first_place, end_of_items}
use Rattle.xml_model.specs.Nest.{Forest, is_nest, flat}
use Rattle.xml_model.specs.Records.{records}
use Rattle.xml_model.specs.Accepted.{RefusesUtf8, RefusesSyntax, RefusesItem, RefusesNesting, RefusesName, RefusesWidth, DoesNotBegin, IsDocument, Faults, over_items, over_names, unknown_item, encoding_item, repeats, offences, first_wide, AcceptedTo, Accepted}
pub use Rattle.xml_model.specs.Laws.{OneItem}
use Rattle.xml_model.proofs.Proper.{begins_meets}
use Rattle.xml_model.proofs.Unique.{one_nest}

-- From no refusal to the nest that is there.

no_items : (f : ℕ → Item → List ℕ) (bytes : List ℕ) (is : List Item) → walk_to_end bytes is ≡ true → ((at : ℕ) → RefusesItem f bytes at → ⊥) → (ns : List ℕ) → over_items f (first_place bytes) is ≡ ns → ns ≡ []
no_items f bytes is w h [] e = refl
no_items f bytes is w h (at ∷ others) e = absurd (h at (record { items = is; walked = w; others = others; first = e }))

no_names : (w : Faults) (bytes : List ℕ) (nest : Forest) → IsDocument bytes nest → ((at : ℕ) → RefusesName w bytes at → ⊥) → (ns : List ℕ) → over_names w [] (first_place bytes) nest ≡ ns → ns ≡ []
no_names w bytes nest d h [] e = refl
no_names w bytes nest d h (at ∷ others) e = absurd (h at (record { nest = nest; document = d; others = others; first = e }))

no_width : (bytes : List ℕ) (nest : Forest) → IsDocument bytes nest → ((field : Field) (at : ℕ) → RefusesWidth bytes field at → ⊥) → (o : Option (Field × ℕ)) → first_wide (records nest (first_place bytes)) ≡ o → o ≡ None
no_width bytes nest d h None e = refl
no_width bytes nest d h (Some x) e = absurd (h x.0 x.1 (record { nest = nest; document = d; first = e }))

pub accepted_from_no_refusal : (k : ℕ) (bytes : List ℕ) (nest : Forest) → 6 ≤ k → IsUtf8 bytes → IsDocument bytes nest → AcceptedTo bytes k → Accepted k bytes nest
accepted_from_no_refusal k bytes nest l u d h = record {
  utf8 = u;
  document = d;
  entities = no_items unknown_item bytes (flat nest) d.walked (λ at r. h (faults.Entity at) (omega arith) r) (over_items unknown_item (first_place bytes) (flat nest)) refl;
  encoding = no_items encoding_item bytes (flat nest) d.walked (λ at r. h (faults.Encoding at) (omega arith) r) (over_items encoding_item (first_place bytes) (flat nest)) refl;
  widths = no_width bytes nest d (λ field at r. h (faults.Width field at) l r) (first_wide (records nest (first_place bytes))) refl;
  twice = λ m. no_names repeats bytes nest d (λ at r. h (faults.Twice at) m r) (over_names repeats [] (first_place bytes) nest) refl;
  names = λ m. no_names offences bytes nest d (λ at r. h (faults.Namespace at) m r) (over_names offences [] (first_place bytes) nest) refl;
}

-- From a nest to no refusal.

-- an item that begins somewhere has a byte
written_some : (i : Item) → meets i ≡ true → 0 < length (written i)
unfolding meets
written_some (leaf (Leaf.text ps)) h = by (written_pieces ps) (and_parts _ _ (and_parts _ _ h).0).0
  where
    by : (cs : List ℕ) → not (is_nil cs) ≡ true → 0 < length cs
    by [] k = absurd (false≢true k)
    by (c ∷ cs) k = omega arith
written_some (leaf (Leaf.cdata cs)) h = omega arith
written_some (leaf (Leaf.comment cs)) h = omega arith
written_some (leaf (Leaf.instruction i)) h = omega arith
written_some (leaf (Leaf.declaration d)) h = omega arith
written_some (leaf (Leaf.doctype d)) h = omega arith
written_some (start_tag t) h = omega arith
written_some (empty_tag t) h = omega arith
written_some (end_tag name space) h = omega arith

pub spelling_some : (bytes : List ℕ) (p : ℕ) (i : Item) → begins_at bytes p i ≡ true → 0 < length (spelling i)
unfolding spelling
spelling_some bytes p i h = omega (arith, length-le-encodes (written i), written_some i (begins_meets bytes p i h))

ends_after : (p : ℕ) (is : List Item) → p ≤ end_of_items p is
ends_after p [] = le_refl p
ends_after p (i ∷ is) = omega (arith, ends_after (p + length (spelling i)) is)

-- at most one item begins at each place that a walk from p reaches
abbrev pub OneFrom : List ℕ → ℕ → Type 0
OneFrom bytes p = (items : List Item) → walk_from bytes p items ≡ true → (i j : Item) → begins_at bytes (end_of_items p items) i ≡ true → begins_at bytes (end_of_items p items) j ≡ true → i ≡ j

one_after : (bytes : List ℕ) (p : ℕ) (i : Item) → OneFrom bytes p → begins_at bytes p i ≡ true → OneFrom bytes (p + length (spelling i))
one_after bytes p i one h items w = one (i ∷ items) (ap₂ (λ a b. a && b) h w)

pub one_from : (bytes : List ℕ) → OneItem bytes → OneFrom bytes (first_place bytes)
unfolding walk
one_from bytes one = one

one_walk_from : (bytes : List ℕ) (p e : ℕ) (is js : List Item) → OneFrom bytes p → walk_from bytes p is ≡ true → walk_from bytes p js ≡ true → end_of_items p is ≡ e → end_of_items p js ≡ e → is ≡ js
one_walk_from bytes p e [] [] one w v a b = refl
one_walk_from bytes p e [] (j ∷ js) one w v a b =
    let h = and_parts (begins_at bytes p j) _ v in absurd (omega (arith, a, b, spelling_some bytes p j h.0, ends_after (p + length (spelling j)) js))
one_walk_from bytes p e (i ∷ is) [] one w v a b =
    let h = and_parts (begins_at bytes p i) _ w in absurd (omega (arith, a, b, spelling_some bytes p i h.0, ends_after (p + length (spelling i)) is))
one_walk_from bytes p e (i ∷ is) (j ∷ js) one w v a b =
    let h = and_parts (begins_at bytes p i) _ w in
    let k = and_parts (begins_at bytes p j) _ v in
    let same : j ≡ i = one [] refl j i k.0 h.0 in
    let next : ℕ → Type 0 = λ n. (walk_from bytes (p + n) js ≡ true) × (end_of_items (p + n) js ≡ e) in
    let moved = subst next (ap (λ x. length (spelling x)) same) (k.1, b) in
    ap₂ (λ x xs. x ∷ xs) (sym same) (one_walk_from bytes (p + length (spelling i)) e is js (one_after bytes p i one h.0) h.1 moved.0 a moved.1)

-- two walks to the end are the same
pub one_walk : (bytes : List ℕ) → OneItem bytes → (is js : List Item) → walk_to_end bytes is ≡ true → walk_to_end bytes js ≡ true → is ≡ js
unfolding walk_to_end walk
one_walk bytes one is js w v =
    let h = and_parts (walk_from bytes (first_place bytes) is) _ w in
    let k = and_parts (walk_from bytes (first_place bytes) js) _ v in
    one_walk_from bytes (first_place bytes) (length bytes) is js (one_from bytes one) h.0 k.0 (eqb-true _ _ h.1) (eqb-true _ _ k.1)

-- a walk that stops before the end of a walk to the end stops where an item begins
pub item_there : (bytes : List ℕ) (p e at : ℕ) (is js : List Item) → OneFrom bytes p → walk_from bytes p is ≡ true → end_of_items p is ≡ e → walk_from bytes p js ≡ true → end_of_items p js ≡ at → at < e → ((i : Item) → begins_at bytes at i ≡ false) → ⊥
item_there bytes p e at [] js one w a v b l none = omega (arith, a, b, l, ends_after p js)
item_there bytes p e at (i ∷ is) [] one w a v b l none =
    let h = and_parts (begins_at bytes p i) _ w in false≢true (sym (none i) ∙ ap (λ n. begins_at bytes n i) (sym b) ∙ h.0)
item_there bytes p e at (i ∷ is) (j ∷ js) one w a v b l none =
    let h = and_parts (begins_at bytes p i) _ w in
    let k = and_parts (begins_at bytes p j) _ v in
    let same : j ≡ i = one [] refl j i k.0 h.0 in
    let next : ℕ → Type 0 = λ n. (walk_from bytes (p + n) js ≡ true) × (end_of_items (p + n) js ≡ at) in
    let moved = subst next (ap (λ x. length (spelling x)) same) (k.1, b) in
    item_there bytes (p + length (spelling i)) e at is js (one_after bytes p i one h.0) h.1 a moved.0 moved.1 l none

pub same_nest : (bytes : List ℕ) → OneItem bytes → (f g : Forest) → IsDocument bytes f → IsDocument bytes g → g ≡ f
same_nest bytes one f g d e = one_nest g f (one_walk bytes one (flat g) (flat f) e.walked d.walked)

no_faulty_item : (f : ℕ → Item → List ℕ) (bytes : List ℕ) (nest : Forest) (at : ℕ) → OneItem bytes → IsDocument bytes nest → over_items f (first_place bytes) (flat nest) ≡ [] → RefusesItem f bytes at → ⊥
no_faulty_item f bytes nest at one d e r =
    let same : r.items ≡ flat nest = one_walk bytes one r.items (flat nest) r.walked d.walked in
    let h : at ∷ r.others ≡ [] = sym r.first ∙ ap (over_items f (first_place bytes)) same ∙ e in
    cc

no_faulty_name : (w : Faults) (bytes : List ℕ) (nest : Forest) (at : ℕ) → OneItem bytes → IsDocument bytes nest → over_names w [] (first_place bytes) nest ≡ [] → RefusesName w bytes at → ⊥
no_faulty_name w bytes nest at one d e r =
    let h : at ∷ r.others ≡ [] = sym r.first ∙ ap (over_names w [] (first_place bytes)) (same_nest bytes one nest r.nest d r.document) ∙ e in cc

no_longest : (prefix rest : List Item) (nest : Forest) → is_nest nest ≡ true → flat nest ≡ prefix ++ rest → DoesNotBegin prefix rest → ⊥
no_longest prefix [] nest n e h = h nest n (e ∙ append-nil prefix)
no_longest prefix (i ∷ is) nest n e h = h (record { nest = nest; rest = is; nests = n; split = e ∙ sym (append_assoc prefix (i ∷ []) is) })

no_nesting : (bytes : List ℕ) (nest : Forest) (at : ℕ) (deep : Bool) → OneItem bytes → IsDocument bytes nest → RefusesNesting bytes at deep → ⊥
no_nesting bytes nest at deep one d r = no_longest r.prefix r.rest nest d.nests (one_walk bytes one (flat nest) (r.prefix ++ r.rest) d.walked r.walked) r.longest

pub no_syntax : (bytes : List ℕ) (items : List Item) (at : ℕ) → OneItem bytes → walk_to_end bytes items ≡ true → RefusesSyntax bytes at → ⊥
unfolding walk_to_end walk
no_syntax bytes items at one w r =
    let h = and_parts (walk_from bytes (first_place bytes) items) _ w in
    item_there bytes (first_place bytes) (length bytes) at items r.items (one_from bytes one) h.0 (eqb-true _ _ h.1) r.walked r.ends r.within r.none

pub no_utf8 : (bytes : List ℕ) (at : ℕ) → IsUtf8 bytes → RefusesUtf8 bytes at → ⊥
no_utf8 bytes at u r = r.longest (length bytes) r.within (le_refl (length bytes)) (subst IsUtf8 (sym (take-length bytes)) u)

no_wide : (bytes : List ℕ) (nest : Forest) (field : Field) (at : ℕ) → OneItem bytes → IsDocument bytes nest → first_wide (records nest (first_place bytes)) ≡ None → RefusesWidth bytes field at → ⊥
no_wide bytes nest field at one d e r =
    not_none (field, at) (sym r.first ∙ ap (λ f. first_wide (records f (first_place bytes))) (same_nest bytes one nest r.nest d r.document) ∙ e)
  where
    not_none : (x : Field × ℕ) → ◌≡◌ {A = Option (Field × ℕ)} (Some x) None → ⊥
    not_none x h = cc

pub no_refusal_from_accepted : (k : ℕ) (bytes : List ℕ) (nest : Forest) → OneItem bytes → Accepted k bytes nest → AcceptedTo bytes k
no_refusal_from_accepted k bytes nest one a (faults.Utf8 at) l = no_utf8 bytes at a.utf8
no_refusal_from_accepted k bytes nest one a (faults.Syntax at) l = no_syntax bytes (flat nest) at one a.document.walked
no_refusal_from_accepted k bytes nest one a (faults.Entity at) l = no_faulty_item unknown_item bytes nest at one a.document a.entities
no_refusal_from_accepted k bytes nest one a (faults.Encoding at) l = no_faulty_item encoding_item bytes nest at one a.document a.encoding
no_refusal_from_accepted k bytes nest one a (faults.Nesting at) l = no_nesting bytes nest at false one a.document
no_refusal_from_accepted k bytes nest one a (faults.Depth at) l = no_nesting bytes nest at true one a.document
no_refusal_from_accepted k bytes nest one a (faults.Width field at) l = no_wide bytes nest field at one a.document a.widths
no_refusal_from_accepted k bytes nest one a (faults.Twice at) l = no_faulty_name repeats bytes nest at one a.document (a.twice l)
no_refusal_from_accepted k bytes nest one a (faults.Namespace at) l = no_faulty_name offences bytes nest at one a.document (a.names l)
