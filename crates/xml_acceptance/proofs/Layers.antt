-- Where whole items pass the lower layers, those layers do not refuse; and a fault of the next layer is the refusal.
use Rattle.std.proofs.Common.{◌≡◌, ℕ, suc, ◌+◌, ◌≤◌, Bool, true, false, List, [], ◌∷◌, ◌++◌, length, refl, sym, ap, ◌∙◌, arith, append-nil}
use Rattle.std.proofs.Common.{append_assoc}
use Rattle.std.specs.Prelude.{IsUtf8, Some}
use Rattle.xml_model.specs.declared.DocFault.{DocFault}
use Rattle.xml_model.specs.declared.DocFault.TheVariants as faults
use Rattle.xml_model.specs.Items.{Item, spelling, begins_at, walk_from, walk_to_end, first_place, end_of_items}
use Rattle.xml_model.specs.Nest.{Forest, is_nest, flat}
use Rattle.xml_model.specs.Accepted.{RefusesItem, RefusesNesting, DoesNotBegin, over_items, unknown_item, encoding_item, Refuses, IsRefusal}
use Rattle.xml_model.specs.Accepted.{AcceptedTo, layer}
use Rattle.xml_model.proofs.Bridge.{one_walk, no_syntax, no_utf8}
use Rattle.std.proofs.lemmas.Bool.{and_parts, and_from}
use Rattle.xml_items.proofs.OneItem.{one_item_on_walks}
use Rattle.xml_acceptance.specs.Machine.{whole, tail, state, run}
use Rattle.xml_acceptance.specs.Passes.{nesting_fault}
use Rattle.xml_acceptance.proofs.Prefixes.{ends_nest}

-- ---- one item more

pub walk_more : (bytes : List ℕ) (p : ℕ) (is : List Item) (i : Item) → walk_from bytes p is ≡ true → begins_at bytes (end_of_items p is) i ≡ true →
    walk_from bytes p (is ++ i ∷ []) ≡ true
walk_more bytes p [] i w b = and_from _ _ b refl
walk_more bytes p (j ∷ is) i w b =
    let h = and_parts (begins_at bytes p j) (walk_from bytes (p + length (spelling j)) is) w in
    and_from _ _ h.0 (walk_more bytes (p + length (spelling j)) is i h.1 b)

pub end_more : (p : ℕ) (is : List Item) (i : Item) → end_of_items p (is ++ i ∷ []) ≡ end_of_items p is + length (spelling i)
end_more p [] i = refl
end_more p (j ∷ is) i = end_more (p + length (spelling j)) is i

-- ---- which layers do not refuse

-- items that go to the end
pub record Whole (bytes : List ℕ) (items : List Item) : Type 0 where
  pub utf8 : IsUtf8 bytes
  pub walked : walk_to_end bytes items ≡ true

no_item : (f : ℕ → Item → List ℕ) (bytes : List ℕ) (items : List Item) (at : ℕ) → Whole bytes items → over_items f (first_place bytes) items ≡ [] →
    RefusesItem f bytes at → ⊥
no_item f bytes items at w e r =
    let same : r.items ≡ items = one_walk bytes (one_item_on_walks bytes) r.items items r.walked w.walked in
    let h : at ∷ r.others ≡ [] = sym r.first ∙ ap (over_items f (first_place bytes)) same ∙ e in
    cc

no_longest : (prefix rest : List Item) (nest : Forest) → is_nest nest ≡ true → flat nest ≡ prefix ++ rest → DoesNotBegin prefix rest → ⊥
no_longest prefix [] nest n e h = h nest n (e ∙ append-nil prefix)
no_longest prefix (i ∷ is) nest n e h = h (record { nest = nest; rest = is; nests = n; split = e ∙ sym (append_assoc prefix (i ∷ []) is) })

no_nesting : (bytes : List ℕ) (items : List Item) (at : ℕ) (deep : Bool) → Whole bytes items → run [] whole items ≡ Some (state [] tail) →
    RefusesNesting bytes at deep → ⊥
no_nesting bytes items at deep w ends r =
    let n = ends_nest items ends in
    no_longest r.prefix r.rest n.0 n.1 (n.2 ∙ one_walk bytes (one_item_on_walks bytes) items (r.prefix ++ r.rest) w.walked r.walked) r.longest

-- what whole items pass of the layers up to one
pub record PassesTo (k : ℕ) (bytes : List ℕ) (items : List Item) : Type 0 where
  pub entities : 3 ≤ k → over_items unknown_item (first_place bytes) items ≡ []
  pub encoding : 4 ≤ k → over_items encoding_item (first_place bytes) items ≡ []
  pub nests : 5 ≤ k → run [] whole items ≡ Some (state [] tail)

pub none_to : (bytes : List ℕ) (items : List Item) (k : ℕ) → Whole bytes items → k ≤ 5 → PassesTo k bytes items → AcceptedTo bytes k
none_to bytes items k w m p (faults.Utf8 at) l = no_utf8 bytes at w.utf8
none_to bytes items k w m p (faults.Syntax at) l = no_syntax bytes items at (one_item_on_walks bytes) w.walked
none_to bytes items k w m p (faults.Entity at) l = no_item unknown_item bytes items at w (p.entities l)
none_to bytes items k w m p (faults.Encoding at) l = no_item encoding_item bytes items at w (p.encoding l)
none_to bytes items k w m p (faults.Nesting at) l = no_nesting bytes items at false w (p.nests l)
none_to bytes items k w m p (faults.Depth at) l = no_nesting bytes items at true w (p.nests l)
none_to bytes items k w m p (faults.Width field at) l = absurd (omega (arith, l, m))
none_to bytes items k w m p (faults.Twice at) l = absurd (omega (arith, l, m))
none_to bytes items k w m p (faults.Namespace at) l = absurd (omega (arith, l, m))

pub layer_some : (fault : DocFault) → 1 ≤ layer fault
layer_some (faults.Utf8 at) = omega arith
layer_some (faults.Syntax at) = omega arith
layer_some (faults.Entity at) = omega arith
layer_some (faults.Encoding at) = omega arith
layer_some (faults.Nesting at) = omega arith
layer_some (faults.Depth at) = omega arith
layer_some (faults.Width field at) = omega arith
layer_some (faults.Twice at) = omega arith
layer_some (faults.Namespace at) = omega arith

-- only the first layer is below the second
pub utf8_to : (bytes : List ℕ) → IsUtf8 bytes → AcceptedTo bytes 1
utf8_to bytes u (faults.Utf8 at) l = no_utf8 bytes at u
utf8_to bytes u (faults.Syntax at) l = absurd (omega (arith, l))
utf8_to bytes u (faults.Entity at) l = absurd (omega (arith, l))
utf8_to bytes u (faults.Encoding at) l = absurd (omega (arith, l))
utf8_to bytes u (faults.Nesting at) l = absurd (omega (arith, l))
utf8_to bytes u (faults.Depth at) l = absurd (omega (arith, l))
utf8_to bytes u (faults.Width field at) l = absurd (omega (arith, l))
utf8_to bytes u (faults.Twice at) l = absurd (omega (arith, l))
utf8_to bytes u (faults.Namespace at) l = absurd (omega (arith, l))

-- ---- the refusal

-- the fault is the refusal, where no lower layer refuses
pub is_refusal : (bytes : List ℕ) (fault : DocFault) (k : ℕ) → layer fault ≡ suc k → AcceptedTo bytes k → Refuses bytes fault → IsRefusal bytes fault
is_refusal bytes fault k e none r = record { refuses = r; first = λ other l. none other (omega (arith, l, e)) }

-- no layer is below the first
pub first_refusal : (bytes : List ℕ) (at : ℕ) → Refuses bytes (faults.Utf8 at) → IsRefusal bytes (faults.Utf8 at)
first_refusal bytes at r = is_refusal bytes (faults.Utf8 at) 0 refl (λ other l. absurd (omega (arith, l, layer_some other))) r

pub nesting_layer : (at : ℕ) (deep : Bool) → layer (nesting_fault at deep) ≡ 5
nesting_layer at false = refl
nesting_layer at true = refl

pub nesting_refusal : (bytes : List ℕ) (at : ℕ) (deep : Bool) → AcceptedTo bytes 4 → RefusesNesting bytes at deep →
    IsRefusal bytes (nesting_fault at deep)
nesting_refusal bytes at false none r = is_refusal bytes (faults.Nesting at) 4 refl none r
nesting_refusal bytes at true none r = is_refusal bytes (faults.Depth at) 4 refl none r
