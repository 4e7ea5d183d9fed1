-- Nodes that have an expanded name, and texts that are empty.
use Rattle.std.proofs.Common.{◌≡◌, ℕ, Bool, true, false, List, [], ◌∷◌, length, refl, ap, sym, ◌∙◌, ◌==◌}
use Rattle.std.specs.Prelude.{encode_utf8_all}
use Rattle.std.proofs.lemmas.Bool.{false≢true}
use Rattle.xml_model.specs.declared.Kind.{Kind}
use Rattle.xml_model.specs.Items.{is_nil}
use Rattle.xml_model.specs.Tree.{Thing, kind_of}
use Rattle.vtd_fragment.specs.Named.{is_named, is_named_kind}

pub kind_named : (kind : Kind) → is_named_kind kind ≡ true → (what : Thing) → kind_of what ≡ kind → is_named what ≡ true
kind_named kind h what e = ap is_named_kind e ∙ h

pub kind_unnamed : (kind : Kind) → is_named_kind kind ≡ false → (what : Thing) → kind_of what ≡ kind → is_named what ≡ true → ⊥
kind_unnamed kind h what e n = false≢true (sym h ∙ sym (ap is_named_kind e) ∙ n)

pub nil_encoded : (p : List ℕ) → (length (encode_utf8_all p) == 0) ≡ is_nil p
nil_encoded [] = refl
nil_encoded (c ∷ p) = Rattle.std.proofs.Common.ne_eqb (length (encode_utf8_all (c ∷ p))) 0 (λ e. not_nil c p e)
  where
    not_nil : (c : ℕ) (p : List ℕ) → length (encode_utf8_all (c ∷ p)) ≡ 0 → ⊥
    not_nil c p e = let z : ◌≡◌ {A = List ℕ} (c ∷ p) [] = Rattle.vtd_namespaces.proofs.DeclarationLemmas.empty_encoded (c ∷ p) e in absurd (cc)
