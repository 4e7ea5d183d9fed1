-- The bytes that one splice makes, and the splice that sets a node.
use Rattle.std.proofs.Common.{◌≡◌, ℕ, ◌-◌, ◌≤◌, false, List, [], ◌∷◌, ◌++◌, length, take, drop, refl, ap, ap₂, ◌∙◌}
use Rattle.std.proofs.Common.{arith}
use Rattle.std.specs.Option.{unwrap_or}
use Rattle.std.proofs.lemmas.Bool.{false≢true}
use Rattle.xml_model.specs.declared.Kind.TheVariants as kinds
use Rattle.xml_model.specs.Items.{Leaf}
use Rattle.xml_model.specs.Tree.{Entry, Thing, kind_of}
use Rattle.vtd_edits.specs.declared.splice.Splice.TheVariants.{Replace}
use Rattle.vtd_edits.specs.Splices.{spliced}
use Rattle.vtd_edits.proofs.Ordered.{one_pass}
use Rattle.vtd_modifier.specs.Rows.{one, set_to}
use Rattle.vtd_modifier.specs.Parts.{part_of}
use Rattle.vtd_builder.specs.Exchanges.{with_range}
use Rattle.vtd_patch.specs.Patches.{patched}

minus_zero : (n : ℕ) → n - 0 ≡ n
minus_zero n = omega arith

-- one range with other bytes
pub one_spliced : (bytes : List ℕ) (start end : ℕ) (text : List ℕ) → start ≤ end → end ≤ length bytes →
    spliced bytes (Replace start end text ∷ []) ≡ with_range start end text bytes
unfolding spliced
one_spliced bytes start end text o w =
    one_pass (Replace start end text ∷ []) 0 false (length bytes) bytes (omega arith)
    (omega arith, o, λ f. absurd (false≢true f), w)
    ∙ ap₂ (λ (a b : ℕ). take a bytes ++ (text ++ drop b bytes)) (minus_zero start) (minus_zero end)

-- the bytes with a node set
pub patched_is : (bytes text put : List ℕ) (e : Entry) (start end : ℕ) → start ≤ end → end ≤ length bytes →
    set_to bytes text (part_of bytes e) ≡ one (Replace start end put) → patched bytes text e ≡ with_range start end put bytes
patched_is bytes text put e start end o w h =
    ap (λ r. spliced bytes (unwrap_or r [])) h ∙ one_spliced bytes start end put o w

text_of_kind : (x : Thing) → kind_of x ≡ kinds.Text → (xs : List Leaf) × (x ≡ Thing.text xs)
text_of_kind (Thing.root first f) k = absurd cc
text_of_kind (Thing.element t inside) k = absurd cc
text_of_kind (Thing.attribute a) k = absurd cc
text_of_kind (Thing.text xs) k = (xs, refl)
text_of_kind (Thing.comment cs) k = absurd cc
text_of_kind (Thing.instruction i) k = absurd cc

-- the pieces of a text node
pub text_leaves : (e : Entry) → kind_of e.what ≡ kinds.Text → (xs : List Leaf) × (e.what ≡ Thing.text xs)
text_leaves e k = text_of_kind e.what k
