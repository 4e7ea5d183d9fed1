-- The bytes of a cut, in three parts, and the document that they are.
use Rattle.std.proofs.Common.{◌≡◌, ℕ, zero, suc, ◌-◌, List, [], ◌∷◌, ◌++◌, take, drop, refl, ap, ap₂, sym, ◌∙◌, subst, arith}
use Rattle.xml_model.specs.Nest.{Forest}
use Rattle.xml_model.specs.Tree.{Entry}
use Rattle.xml_model.specs.Accepted.{Accepted}
use Rattle.xml_model.proofs.Bridge.{same_nest}
use Rattle.xml_items.proofs.OneItem.{one_item_on_walks}
use Rattle.vtd_words.specs.Lists.{Lists}
use Rattle.vtd_words.specs.Table.{IsNestOf, nodes_of}
use Rattle.vtd_location.specs.Nav.{IsNav}
use Rattle.xml_fragments.specs.Fragment.{IsDocumentOfItsOwn, cut_of, name_end, needed_of, subtree}
use Rattle.vtd_fragment.specs.Document.{IsDocumentWith}
use Rattle.vtd_fragment.specs.Round.{inserted}

-- what is from one place up to another
pub drop_take : (s e : ℕ) (xs : List ℕ) → drop s (take e xs) ≡ take (e - s) (drop s xs)
drop_take zero e xs = let same : e ≡ e - 0 = omega arith in ap (λ n. take n xs) same
drop_take (suc s) zero xs = let none : 0 ≡ 0 - suc s = omega arith in ap (λ n. take n (drop (suc s) xs)) none
drop_take (suc s) (suc e) [] = of_none (suc e - suc s)
  where
    of_none : (n : ℕ) → ◌≡◌ {A = List ℕ} [] (take n [])
    of_none zero = refl
    of_none (suc n) = refl
drop_take (suc s) (suc e) (x ∷ xs) = let same : e - s ≡ suc e - suc s = omega arith in drop_take s e xs ∙ ap (λ n. take n (drop s xs)) same

pub cut_made : (bytes : List ℕ) (es : List Entry) (e : Entry) (start name stop : ℕ) (first second third : List ℕ) → start ≡ e.start → name ≡ name_end e → stop ≡ e.stop →
    first ≡ [] ++ drop start (take name bytes) → second ≡ first ++ inserted (needed_of (subtree e.path es) e.holders) → third ≡ second ++ drop name (take stop bytes) → third ≡ cut_of bytes es e
cut_made bytes es e start name stop first second third i j k f g h =
    let middle = inserted (needed_of (subtree e.path es) e.holders) in
    let one : first ≡ take (name_end e - e.start) (drop e.start bytes) = f ∙ ap₂ (λ m n. drop m (take n bytes)) i j ∙ drop_take e.start (name_end e) bytes in
    let two : drop name (take stop bytes) ≡ take (e.stop - name_end e) (drop (name_end e) bytes) = ap₂ (λ m n. drop m (take n bytes)) j k ∙ drop_take (name_end e) e.stop bytes in
    h ∙ ap₂ (λ (a b : List ℕ). a ++ b) (g ∙ ap (λ (a : List ℕ). a ++ middle) one) two

pub accepted_whole : (bytes : List ℕ) (lists : Lists) (nest : Forest) → IsNav bytes lists → IsNestOf bytes lists nest → Accepted 8 bytes nest
accepted_whole bytes lists nest n s =
    subst (Accepted 8 bytes) (same_nest bytes (one_item_on_walks bytes) nest n.nest s.accepted.document n.shown.accepted.document) n.shown.accepted

pub document_with : (bytes : List ℕ) (nest : Forest) (e : Entry) (out : List ℕ) → IsDocumentOfItsOwn bytes nest e → out ≡ cut_of bytes (nodes_of bytes nest) e → IsDocumentWith bytes nest e out
document_with bytes nest e out d is = subst (IsDocumentWith bytes nest e) (sym is) (record { new = d.new; accepted = d.accepted; no_longer = d.no_longer; same = d.same })
