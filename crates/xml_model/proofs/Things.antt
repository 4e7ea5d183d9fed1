-- Things by their kinds, and kinds by the types of first records.
use Rattle.std.proofs.Common.{◌≡◌, ℕ, Bool, true, false, cond, ◌==◌, refl, ap, sym, ◌∙◌, Option, Some, None}
use Rattle.std.proofs.lemmas.Bool.{false≢true, eqb-true}
use Rattle.xml_model.specs.declared.Kind.{Kind}
use Rattle.xml_model.specs.declared.Kind.TheVariants as kinds
use Rattle.xml_model.specs.Items.{Attribute, Tag}
use Rattle.xml_model.specs.Levels.{is_element}
use Rattle.xml_model.specs.Nest.{Forest}
use Rattle.xml_model.specs.Tree.{Thing, kind_of}
use Rattle.xml_model.specs.Scan.{kind_of_token, is_text_token}
use Rattle.xml_model.specs.Laws.{is_attribute_thing, is_child_kind, is_child_thing, is_root_thing}

pub child_kind : (what : Thing) → is_child_thing what ≡ is_child_kind (kind_of what)
child_kind (Thing.root first f) = refl
child_kind (Thing.element t inside) = refl
child_kind (Thing.attribute a) = refl
child_kind (Thing.text xs) = refl
child_kind (Thing.comment cs) = refl
child_kind (Thing.instruction i) = refl

pub attribute_thing : (what : Thing) → kind_of what ≡ kinds.Attribute → is_attribute_thing what ≡ true
attribute_thing (Thing.root first f) h = absurd cc
attribute_thing (Thing.element t inside) h = absurd cc
attribute_thing (Thing.attribute a) h = refl
attribute_thing (Thing.text xs) h = absurd cc
attribute_thing (Thing.comment cs) h = absurd cc
attribute_thing (Thing.instruction i) h = absurd cc

pub attribute_kind : (what : Thing) → is_attribute_thing what ≡ true → kind_of what ≡ kinds.Attribute
attribute_kind (Thing.root first f) h = absurd (false≢true h)
attribute_kind (Thing.element t inside) h = absurd (false≢true h)
attribute_kind (Thing.attribute a) h = refl
attribute_kind (Thing.text xs) h = absurd (false≢true h)
attribute_kind (Thing.comment cs) h = absurd (false≢true h)
attribute_kind (Thing.instruction i) h = absurd (false≢true h)

pub kind_root : (w : Thing) → kind_of w ≡ kinds.Root → is_root_thing w ≡ true
kind_root (Thing.root first f) h = refl
kind_root (Thing.element t inside) h = absurd cc
kind_root (Thing.attribute a) h = absurd cc
kind_root (Thing.text xs) h = absurd cc
kind_root (Thing.comment cs) h = absurd cc
kind_root (Thing.instruction i) h = absurd cc

pub root_kind : (w : Thing) → is_root_thing w ≡ true → kind_of w ≡ kinds.Root
root_kind (Thing.root first f) r = refl
root_kind (Thing.element t inside) r = absurd (false≢true r)
root_kind (Thing.attribute a) r = absurd (false≢true r)
root_kind (Thing.text xs) r = absurd (false≢true r)
root_kind (Thing.comment cs) r = absurd (false≢true r)
root_kind (Thing.instruction i) r = absurd (false≢true r)

pub root_by_kind : (w : Thing) → Some kinds.Root ≡ Some (kind_of w) → is_root_thing w ≡ true
root_by_kind (Thing.root first f) h = refl
root_by_kind (Thing.element t inside) h = absurd cc
root_by_kind (Thing.attribute a) h = absurd cc
root_by_kind (Thing.text xs) h = absurd cc
root_by_kind (Thing.comment cs) h = absurd cc
root_by_kind (Thing.instruction i) h = absurd cc

pub no_root_element : (w : Thing) → kind_of w ≡ kinds.Element → is_root_thing w ≡ false
no_root_element (Thing.root first f) h = absurd cc
no_root_element (Thing.element t inside) h = refl
no_root_element (Thing.attribute a) h = refl
no_root_element (Thing.text xs) h = refl
no_root_element (Thing.comment cs) h = refl
no_root_element (Thing.instruction i) h = refl

pub child_no_root : (w : Thing) → is_child_thing w ≡ true → is_root_thing w ≡ false
child_no_root (Thing.root first f) h = absurd (false≢true h)
child_no_root (Thing.element t inside) h = refl
child_no_root (Thing.attribute a) h = refl
child_no_root (Thing.text xs) h = refl
child_no_root (Thing.comment cs) h = refl
child_no_root (Thing.instruction i) h = refl

pub attribute_no_root : (w : Thing) → is_attribute_thing w ≡ true → is_root_thing w ≡ false
attribute_no_root (Thing.root first f) h = absurd (false≢true h)
attribute_no_root (Thing.element t inside) h = refl
attribute_no_root (Thing.attribute a) h = refl
attribute_no_root (Thing.text xs) h = refl
attribute_no_root (Thing.comment cs) h = refl
attribute_no_root (Thing.instruction i) h = refl

pub element_of : (what : Thing) → kind_of what ≡ kinds.Element → (t : Tag) × (inside : Forest) × (what ≡ Thing.element t inside)
element_of (Thing.root first f) h = absurd cc
element_of (Thing.element t inside) h = (t, inside, refl)
element_of (Thing.attribute a) h = absurd cc
element_of (Thing.text xs) h = absurd cc
element_of (Thing.comment cs) h = absurd cc
element_of (Thing.instruction i) h = absurd cc

pub attribute_of : (what : Thing) → kind_of what ≡ kinds.Attribute → (a : Attribute) × (what ≡ Thing.attribute a)
attribute_of (Thing.root first f) h = absurd cc
attribute_of (Thing.element t inside) h = absurd cc
attribute_of (Thing.attribute a) h = (a, refl)
attribute_of (Thing.text xs) h = absurd cc
attribute_of (Thing.comment cs) h = absurd cc
attribute_of (Thing.instruction i) h = absurd cc

pub attribute_token : (n : ℕ) → kind_of_token n ≡ Some kinds.Attribute → n ≡ 2
attribute_token n h = by (n == 13) (n == 0) (n == 2) refl h
  where
    last : (t u v : Bool) → ◌≡◌ {A = Option Kind} (cond t (Some kinds.Text) (cond u (Some kinds.Comment) (cond v (Some kinds.Instruction) None)))
        (Some kinds.Attribute) → ⊥
    last true u v k = cc
    last false true v k = cc
    last false false true k = cc
    last false false false k = cc

    by : (a b c : Bool) → (n == 2) ≡ c → cond a (Some kinds.Root) (cond b (Some kinds.Element)
        (cond c (Some kinds.Attribute) (cond (is_text_token n) (Some kinds.Text)
        (cond (n == 6) (Some kinds.Comment) (cond (n == 7) (Some kinds.Instruction) None))))) ≡ Some kinds.Attribute → n ≡ 2
    by true b c e k = absurd cc
    by false true c e k = absurd cc
    by false false true e k = eqb-true n 2 e
    by false false false e k = absurd (last (is_text_token n) (n == 6) (n == 7) k)

pub thing_child : (kind : Kind) (b : Bool) (what : Thing) → kind_of what ≡ kind → is_child_kind kind ≡ b → is_child_thing what ≡ b
thing_child kind b what k h = child_kind what ∙ ap is_child_kind k ∙ h

pub thing_kind : (kind other : Kind) (what : Thing) → kind_of what ≡ kind → (kind ≡ other → ⊥) → kind_of what ≡ other → ⊥
thing_kind kind other what k h e = h (sym k ∙ e)

pub is_element_kind : (w : Thing) → kind_of w ≡ kinds.Element → is_element w ≡ true
is_element_kind (Thing.root first f) h = absurd cc
is_element_kind (Thing.element t inside) h = refl
is_element_kind (Thing.attribute a) h = absurd cc
is_element_kind (Thing.text xs) h = absurd cc
is_element_kind (Thing.comment cs) h = absurd cc
is_element_kind (Thing.instruction i) h = absurd cc

pub kind_element : (w : Thing) → is_element w ≡ true → kind_of w ≡ kinds.Element
kind_element (Thing.root first f) h = absurd (false≢true h)
kind_element (Thing.element t inside) h = refl
kind_element (Thing.attribute a) h = absurd (false≢true h)
kind_element (Thing.text xs) h = absurd (false≢true h)
kind_element (Thing.comment cs) h = absurd (false≢true h)
kind_element (Thing.instruction i) h = absurd (false≢true h)

-- the type of an element's first record
pub element_token : (n : ℕ) → kind_of_token n ≡ Some kinds.Element → n ≡ 0
element_token n h = by (n == 13) (n == 0) refl h
  where
    last : (c d e f : Bool) → ◌≡◌ {A = Option Kind} (cond c (Some kinds.Attribute)
        (cond d (Some kinds.Text) (cond e (Some kinds.Comment) (cond f (Some kinds.Instruction) None)))) (Some kinds.Element) → ⊥
    last true d e f k = cc
    last false true e f k = cc
    last false false true f k = cc
    last false false false true k = cc
    last false false false false k = cc

    by : (a b : Bool) → (n == 0) ≡ b → cond a (Some kinds.Root) (cond b (Some kinds.Element)
        (cond (n == 2) (Some kinds.Attribute) (cond (is_text_token n) (Some kinds.Text)
        (cond (n == 6) (Some kinds.Comment) (cond (n == 7) (Some kinds.Instruction) None))))) ≡ Some kinds.Element → n ≡ 0
    by true b e k = absurd cc
    by false true e k = eqb-true n 0 e
    by false false e k = absurd (last (n == 2) (is_text_token n) (n == 6) (n == 7) k)
