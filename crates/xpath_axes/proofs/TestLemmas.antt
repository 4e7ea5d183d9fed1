-- Node tests by kinds.
use Rattle.std.proofs.Common.{◌≡◌, ℕ, Bool, true, false, ◌&&◌, List, refl, ap, sym, ◌∙◌, bytes_eq, Bor}
use Rattle.std.specs.Prelude.{encode_utf8_all, IsUtf8}
use Rattle.std.specs.Str.{chars}
use Rattle.std.proofs.lemmas.Bool.{false≢true}
use Rattle.xml_model.specs.declared.Kind.{Kind}
use Rattle.xml_model.specs.declared.Kind.TheVariants as kinds
use Rattle.xml_model.specs.declared.NodeTest.{NodeTest as Tested}
use Rattle.xml_model.specs.declared.NodeTest.TheVariants as tested
use Rattle.xml_model.specs.Names.{passes, name_passes, expanded, is_text_node, is_comment, is_instruction, is_principal}
use Rattle.xml_model.specs.Tree.{Thing, Entry, kind_of}
use Rattle.vtd_namespaces.specs.NodeNames.{test_of, node_local, HasName, HasExpandedName}
use Rattle.vtd_namespaces.proofs.NodeNameLemmas.{text_same}
use Rattle.xpath_axes.specs.Tests.{node_test, is_text_kind, is_comment_kind, is_instruction_kind, is_principal_kind}

thing_text : (w : Thing) → is_text_node w ≡ is_text_kind (kind_of w)
thing_text (Thing.root first f) = refl
thing_text (Thing.element t inside) = refl
thing_text (Thing.attribute a) = refl
thing_text (Thing.text xs) = refl
thing_text (Thing.comment cs) = refl
thing_text (Thing.instruction i) = refl

thing_comment : (w : Thing) → is_comment w ≡ is_comment_kind (kind_of w)
thing_comment (Thing.root first f) = refl
thing_comment (Thing.element t inside) = refl
thing_comment (Thing.attribute a) = refl
thing_comment (Thing.text xs) = refl
thing_comment (Thing.comment cs) = refl
thing_comment (Thing.instruction i) = refl

thing_instruction : (p : List ℕ → Bool) (w : Thing) → is_instruction p w ≡ (is_instruction_kind (kind_of w) && p (node_local w))
thing_instruction p (Thing.root first f) = refl
thing_instruction p (Thing.element t inside) = refl
thing_instruction p (Thing.attribute a) = refl
thing_instruction p (Thing.text xs) = refl
thing_instruction p (Thing.comment cs) = refl
thing_instruction p (Thing.instruction i) = refl

thing_principal : (b : Bool) (w : Thing) → is_principal b w ≡ is_principal_kind b (kind_of w)
thing_principal true (Thing.root first f) = refl
thing_principal true (Thing.element t inside) = refl
thing_principal true (Thing.attribute a) = refl
thing_principal true (Thing.text xs) = refl
thing_principal true (Thing.comment cs) = refl
thing_principal true (Thing.instruction i) = refl
thing_principal false (Thing.root first f) = refl
thing_principal false (Thing.element t inside) = refl
thing_principal false (Thing.attribute a) = refl
thing_principal false (Thing.text xs) = refl
thing_principal false (Thing.comment cs) = refl
thing_principal false (Thing.instruction i) = refl

and_yes : (b : Bool) → (b && true) ≡ b
and_yes true = refl
and_yes false = refl

module _ (t : Tested) (b : Bool) (e : Entry) (kind : Kind) (k : kind_of e.what ≡ kind) where
  at_test : (u : Tested) → t ≡ u → passes (node_test u) b e ≡ passes (node_test t) b e
  at_test u h = ap (λ x. passes (node_test x) b e) (sym h)

  pub node_passes : t ≡ tested.Node → true ≡ passes (node_test t) b e
  unfolding passes
  node_passes h = at_test tested.Node h

  pub text_passes : (r : Bool) → t ≡ tested.Text → r ≡ is_text_kind kind → r ≡ passes (node_test t) b e
  unfolding passes
  text_passes r h i = i ∙ ap is_text_kind (sym k) ∙ sym (thing_text e.what) ∙ at_test tested.Text h

  pub comment_passes : (r : Bool) → t ≡ tested.Comment → r ≡ is_comment_kind kind → r ≡ passes (node_test t) b e
  unfolding passes
  comment_passes r h i = i ∙ ap is_comment_kind (sym k) ∙ sym (thing_comment e.what) ∙ at_test tested.Comment h

  pub instruction_passes : (r : Bool) → t ≡ tested.Instruction → r ≡ is_instruction_kind kind → r ≡ passes (node_test t) b e
  unfolding passes
  instruction_passes r h i = i ∙ ap is_instruction_kind (sym k) ∙ sym (thing_instruction (λ x. true) e.what ∙ and_yes _) ∙ at_test tested.Instruction h

  pub target_other : (target : Bor (List ℕ)) (r : Bool) → t ≡ tested.Target target → r ≡ is_instruction_kind kind → r ≡ false → false ≡ passes (node_test t) b e
  unfolding passes
  target_other target r h i f =
      sym (ap (λ x. x && bytes_eq (node_local e.what) (chars target.now)) (ap is_instruction_kind k ∙ sym i ∙ f))
      ∙ sym (thing_instruction (λ x. bytes_eq x (chars target.now)) e.what) ∙ at_test (tested.Target target) h

  pub target_passes : (target : Bor (List ℕ)) (q r : Bool) (bytes text : List ℕ) → t ≡ tested.Target target → q ≡ is_instruction_kind kind → q ≡ true →
      bytes ≡ encode_utf8_all (node_local e.what) → text ≡ target.now → IsUtf8 text → r ≡ bytes_eq bytes text → r ≡ passes (node_test t) b e
  unfolding passes
  target_passes target q r bytes text h i f n x u m =
      m ∙ ap (λ z. bytes_eq z text) n ∙ text_same (node_local e.what) text u ∙ ap (λ z. bytes_eq (node_local e.what) (chars z)) x
      ∙ sym (ap (λ z. z && bytes_eq (node_local e.what) (chars target.now)) (ap is_instruction_kind k ∙ sym i ∙ f))
      ∙ sym (thing_instruction (λ z. bytes_eq z (chars target.now)) e.what) ∙ at_test (tested.Target target) h

  pub name_other : (name : Rattle.xml_model.specs.declared.NameTest.NameTest) (r : Bool) → t ≡ tested.Name name → r ≡ is_principal_kind b kind →
      r ≡ false → false ≡ passes (node_test t) b e
  unfolding passes
  name_other name r h i f = sym (ap (λ x. x && name_passes (test_of name) (expanded e)) (thing_principal b e.what ∙ ap (is_principal_kind b) k ∙ sym i
      ∙ f)) ∙ at_test (tested.Name name) h

  pub name_is : (name : Rattle.xml_model.specs.declared.NameTest.NameTest) (q r : Bool) → t ≡ tested.Name name → q ≡ is_principal_kind b kind → q ≡ true →
      r ≡ name_passes (test_of name) (expanded e) → r ≡ passes (node_test t) b e
  unfolding passes
  name_is name q r h i f m = m ∙ sym (ap (λ x. x && name_passes (test_of name) (expanded e)) (thing_principal b e.what ∙ ap (is_principal_kind b) k
      ∙ sym i ∙ f)) ∙ at_test (tested.Name name) h

pub principal_named : (b : Bool) (kind : Kind) (q : Bool) → q ≡ is_principal_kind b kind → q ≡ true → HasExpandedName kind
principal_named b kinds.Root q h k = false≢true (sym h ∙ k)
principal_named b kinds.Element q h k = tt
principal_named b kinds.Attribute q h k = tt
principal_named b kinds.Text q h k = false≢true (sym h ∙ k)
principal_named b kinds.Comment q h k = false≢true (sym h ∙ k)
principal_named b kinds.Instruction q h k = false≢true (sym h ∙ k)

pub instruction_named : (kind : Kind) (q : Bool) → q ≡ is_instruction_kind kind → q ≡ true → HasName kind
instruction_named kinds.Root q h k = false≢true (sym h ∙ k)
instruction_named kinds.Element q h k = tt
instruction_named kinds.Attribute q h k = tt
instruction_named kinds.Text q h k = false≢true (sym h ∙ k)
instruction_named kinds.Comment q h k = false≢true (sym h ∙ k)
instruction_named kinds.Instruction q h k = tt
