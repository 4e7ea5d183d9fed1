-- A document has one refusal: the first layer that refuses does so at one place and in one way, where at most one item begins at each
-- place that a walk reaches.
use Rattle.std.proofs.Common.{◌≡◌, ℕ, zero, suc, ◌<◌, Bool, true, false, List, [], ◌∷◌, ◌++◌, refl, ap, ap₂, sym, ◌∙◌, arith, subst, append_assoc, Option, Some, None, ⊎_elim, ◌⊎◌, inl, inr}
use Rattle.std.proofs.lemmas.Bool.{cases_lt}
use Rattle.xml_model.specs.declared.Field.{Field}
use Rattle.xml_model.specs.declared.DocFault.{DocFault}
use Rattle.xml_model.specs.declared.DocFault.TheVariants as faults
use Rattle.xml_model.specs.Items.{Item, walk, first_place, end_of_items}
use Rattle.xml_model.specs.Records.{records}
use Rattle.xml_model.specs.Accepted.{RefusesUtf8, RefusesSyntax, RefusesItem, RefusesNesting, RefusesName, RefusesWidth, BeginsNest, DoesNotBegin, Faults, over_items, over_names, unknown_item, encoding_item, repeats, offences, first_wide, is_too_deep, layer, Refuses, IsRefusal}
use Rattle.xml_model.specs.Laws.{OneItem}
use Rattle.xml_model.proofs.Unique.{same_head}
use Rattle.xml_model.proofs.Bridge.{one_from, one_walk, item_there, same_nest}

one_number : (a b : ℕ) → (a < b → ⊥) → (b < a → ⊥) → a ≡ b
one_number a b f g = ⊎_elim (λ l. absurd (f l)) (λ h. ⊎_elim (λ l. absurd (g l)) (λ k. omega (arith, h, k)) (cases_lt b a)) (cases_lt a b)

one_utf8 : (bytes : List ℕ) (a b : ℕ) → RefusesUtf8 bytes a → RefusesUtf8 bytes b → a ≡ b
one_utf8 bytes a b r s = one_number a b (λ l. r.longest b l (omega (arith, s.within)) s.prefix) (λ l. s.longest a l (omega (arith, r.within)) r.prefix)

one_syntax : (bytes : List ℕ) (a b : ℕ) → OneItem bytes → RefusesSyntax bytes a → RefusesSyntax bytes b → a ≡ b
unfolding walk
one_syntax bytes a b one r s =
    one_number a b (λ l. item_there bytes (first_place bytes) b a s.items r.items (one_from bytes one) s.walked s.ends r.walked r.ends l r.none)
    (λ l. item_there bytes (first_place bytes) a b r.items s.items (one_from bytes one) r.walked r.ends s.walked s.ends l s.none)

one_item : (f : ℕ → Item → List ℕ) (bytes : List ℕ) (a b : ℕ) → OneItem bytes → RefusesItem f bytes a → RefusesItem f bytes b → a ≡ b
one_item f bytes a b one r s =
    let same : r.items ≡ s.items = one_walk bytes one r.items s.items r.walked s.walked in
    let h : a ∷ r.others ≡ b ∷ s.others = sym r.first ∙ ap (over_items f (first_place bytes)) same ∙ s.first in
    cc

-- Of two prefixes of a list one is the other, or longer.
record Longer (prefix rest other : List Item) : Type 0 where
  next : Item
  more : List Item
  left : List Item
  rests : rest ≡ next ∷ left
  split : other ≡ prefix ++ next ∷ more

abbrev Prefixes : List Item → List Item → List Item → List Item → Type 0
Prefixes f r g s = ((f ≡ g) × (r ≡ s)) ⊎ (Longer f r g ⊎ Longer g s f)

longer_too : (i j : Item) (f r g : List Item) → i ≡ j → Longer f r g → Longer (i ∷ f) r (j ∷ g)
longer_too i j f r g e l = record { next = l.next; more = l.more; left = l.left; rests = l.rests; split = ap₂ (λ x xs. x ∷ xs) (sym e) l.split }

prefixes : (f r g s : List Item) → f ++ r ≡ g ++ s → Prefixes f r g s
prefixes [] r [] s e = inl (refl, e)
prefixes [] r (j ∷ g) s e = inr (inl (record { next = j; more = g; left = g ++ s; rests = e; split = refl }))
prefixes (i ∷ f) r [] s e = inr (inr (record { next = i; more = f; left = f ++ r; rests = sym e; split = refl }))
prefixes (i ∷ f) r (j ∷ g) s e =
    let p = same_head i j (f ++ r) (g ++ s) e in
    ⊎_elim (λ q. inl (ap₂ (λ x xs. x ∷ xs) p.0 q.0, q.1)) (λ o. ⊎_elim (λ l. inr (inl (longer_too i j f r g p.0 l))) (λ l. inr (inr (longer_too j i g s f (sym p.0) l))) o) (prefixes f r g s p.1)

not_longer : (f r g : List Item) → DoesNotBegin f r → BeginsNest g → Longer f r g → ⊥
not_longer f r g d b l =
    let none : DoesNotBegin f (l.next ∷ l.left) = subst (DoesNotBegin f) l.rests d in
    let whole : g ++ b.rest ≡ (f ++ l.next ∷ []) ++ (l.more ++ b.rest) = ap (λ x. x ++ b.rest) l.split ∙ append_assoc f (l.next ∷ l.more) b.rest ∙ sym (append_assoc f (l.next ∷ []) (l.more ++ b.rest)) in
    none (record { nest = b.nest; rest = l.more ++ b.rest; nests = b.nests; split = b.split ∙ whole })

one_nesting : (bytes : List ℕ) (a b : ℕ) (x y : Bool) → OneItem bytes → RefusesNesting bytes a x → RefusesNesting bytes b y → (a ≡ b) × (x ≡ y)
one_nesting bytes a b x y one r s =
    let both : (r.prefix ≡ s.prefix) × (r.rest ≡ s.rest) =
    ⊎_elim (λ q. q) (λ o. ⊎_elim (λ l. absurd (not_longer r.prefix r.rest s.prefix r.longest s.begins l)) (λ l. absurd (not_longer s.prefix s.rest r.prefix s.longest r.begins l)) o)
    (prefixes r.prefix r.rest s.prefix s.rest (one_walk bytes one (r.prefix ++ r.rest) (s.prefix ++ s.rest) r.walked s.walked)) in
    (sym r.place ∙ ap (end_of_items (first_place bytes)) both.0 ∙ s.place, sym r.deep ∙ ap₂ is_too_deep both.0 both.1 ∙ s.deep)

one_name : (w : Faults) (bytes : List ℕ) (a b : ℕ) → OneItem bytes → RefusesName w bytes a → RefusesName w bytes b → a ≡ b
one_name w bytes a b one r s =
    let h : a ∷ r.others ≡ b ∷ s.others = sym r.first ∙ ap (over_names w [] (first_place bytes)) (same_nest bytes one s.nest r.nest s.document r.document) ∙ s.first in cc

abbrev wide_fault : Option (Field × ℕ) → DocFault
wide_fault None = faults.Utf8 0
wide_fault (Some x) = faults.Width x.0 x.1

one_width : (bytes : List ℕ) (f g : Field) (a b : ℕ) → OneItem bytes → RefusesWidth bytes f a → RefusesWidth bytes g b → faults.Width f a ≡ faults.Width g b
one_width bytes f g a b one r s =
    ap wide_fault (sym r.first ∙ ap (λ nest. first_wide (records nest (first_place bytes))) (same_nest bytes one s.nest r.nest s.document r.document) ∙ s.first)

-- The faults of a layer.

abbrev nesting_fault : ℕ → Bool → DocFault
nesting_fault at false = faults.Nesting at
nesting_fault at true = faults.Depth at

abbrev OfLayer : List ℕ → DocFault → ℕ → Type 0
OfLayer bytes f (suc zero) = (at : ℕ) × (f ≡ faults.Utf8 at) × RefusesUtf8 bytes at
OfLayer bytes f (suc (suc zero)) = (at : ℕ) × (f ≡ faults.Syntax at) × RefusesSyntax bytes at
OfLayer bytes f (suc (suc (suc zero))) = (at : ℕ) × (f ≡ faults.Entity at) × RefusesItem unknown_item bytes at
OfLayer bytes f (suc (suc (suc (suc zero)))) = (at : ℕ) × (f ≡ faults.Encoding at) × RefusesItem encoding_item bytes at
OfLayer bytes f (suc (suc (suc (suc (suc zero))))) = (at : ℕ) × (deep : Bool) × (f ≡ nesting_fault at deep) × RefusesNesting bytes at deep
OfLayer bytes f (suc (suc (suc (suc (suc (suc zero)))))) = (at : ℕ) × (field : Field) × (f ≡ faults.Width field at) × RefusesWidth bytes field at
OfLayer bytes f (suc (suc (suc (suc (suc (suc (suc zero))))))) = (at : ℕ) × (f ≡ faults.Twice at) × RefusesName repeats bytes at
OfLayer bytes f (suc (suc (suc (suc (suc (suc (suc (suc zero)))))))) = (at : ℕ) × (f ≡ faults.Namespace at) × RefusesName offences bytes at
OfLayer bytes f _ = ⊥

of_layer : (bytes : List ℕ) (f : DocFault) → Refuses bytes f → OfLayer bytes f (layer f)
of_layer bytes (faults.Utf8 at) r = (at, refl, r)
of_layer bytes (faults.Syntax at) r = (at, refl, r)
of_layer bytes (faults.Entity at) r = (at, refl, r)
of_layer bytes (faults.Encoding at) r = (at, refl, r)
of_layer bytes (faults.Nesting at) r = (at, false, refl, r)
of_layer bytes (faults.Depth at) r = (at, true, refl, r)
of_layer bytes (faults.Width field at) r = (at, field, refl, r)
of_layer bytes (faults.Twice at) r = (at, refl, r)
of_layer bytes (faults.Namespace at) r = (at, refl, r)

one_of_layer : (bytes : List ℕ) (n : ℕ) (f g : DocFault) → OneItem bytes → OfLayer bytes f n → OfLayer bytes g n → f ≡ g
one_of_layer bytes zero f g one x y = absurd x
one_of_layer bytes (suc zero) f g one x y = x.1 ∙ ap (λ n. faults.Utf8 n) (one_utf8 bytes x.0 y.0 x.2 y.2) ∙ sym y.1
one_of_layer bytes (suc (suc zero)) f g one x y = x.1 ∙ ap (λ n. faults.Syntax n) (one_syntax bytes x.0 y.0 one x.2 y.2) ∙ sym y.1
one_of_layer bytes (suc (suc (suc zero))) f g one x y = x.1 ∙ ap (λ n. faults.Entity n) (one_item unknown_item bytes x.0 y.0 one x.2 y.2) ∙ sym y.1
one_of_layer bytes (suc (suc (suc (suc zero)))) f g one x y = x.1 ∙ ap (λ n. faults.Encoding n) (one_item encoding_item bytes x.0 y.0 one x.2 y.2) ∙ sym y.1
one_of_layer bytes (suc (suc (suc (suc (suc zero))))) f g one x y = let p = one_nesting bytes x.0 y.0 x.1 y.1 one x.3 y.3 in x.2 ∙ ap₂ nesting_fault p.0 p.1 ∙ sym y.2
one_of_layer bytes (suc (suc (suc (suc (suc (suc zero)))))) f g one x y = x.2 ∙ one_width bytes x.1 y.1 x.0 y.0 one x.3 y.3 ∙ sym y.2
one_of_layer bytes (suc (suc (suc (suc (suc (suc (suc zero))))))) f g one x y = x.1 ∙ ap (λ n. faults.Twice n) (one_name repeats bytes x.0 y.0 one x.2 y.2) ∙ sym y.1
one_of_layer bytes (suc (suc (suc (suc (suc (suc (suc (suc zero)))))))) f g one x y = x.1 ∙ ap (λ n. faults.Namespace n) (one_name offences bytes x.0 y.0 one x.2 y.2) ∙ sym y.1
one_of_layer bytes (suc (suc (suc (suc (suc (suc (suc (suc (suc m))))))))) f g one x y = absurd x

-- two refusals of a document are one
pub one_refusal : (bytes : List ℕ) → OneItem bytes → (f g : DocFault) → IsRefusal bytes f → IsRefusal bytes g → f ≡ g
one_refusal bytes one f g r s =
    let same : layer f ≡ layer g = one_number (layer f) (layer g) (λ l. s.first f l r.refuses) (λ l. r.first g l s.refuses) in
    one_of_layer bytes (layer f) f g one (of_layer bytes f r.refuses) (subst (OfLayer bytes g) (sym same) (of_layer bytes g s.refuses))
