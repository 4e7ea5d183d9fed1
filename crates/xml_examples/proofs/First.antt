-- Of the layers that refuse a document the first decides: documents with their one refusal. Where a later layer refuses too, that is
-- beside it.
use Rattle.std.proofs.Common.{◌≡◌, ℕ, ◌<◌, List, [], ◌∷◌, ◌++◌, refl, ap, sym, ◌∙◌, arith, codes, bytes_eq, true}
use Rattle.std.specs.Prelude.{IsUtf8}
use Rattle.std.proofs.lemmas.Bool.{false≢true}
use Rattle.std.specs.Char.{encode_utf8}
use Rattle.xml_model.specs.declared.DocFault.{DocFault}
use Rattle.xml_model.specs.declared.DocFault.TheVariants as faults
use Rattle.xml_model.specs.Items.{entity, Tag, Leaf, Item, leaf, start_tag, empty_tag, end_tag, walk_to_end}
use Rattle.xml_model.specs.Nest.{Forest, done, single, empty, element, flat}
use Rattle.xml_model.specs.Accepted.{layer, Refuses, IsRefusal, BeginsNest, Accepted}
use Rattle.xml_model.specs.Laws.{OneItem}
use Rattle.xml_model.proofs.Bridge.{no_utf8, no_syntax, no_refusal_from_accepted}
use Rattle.xml_examples.proofs.Parts.{opened, tag, attr, elem}
use Rattle.xml_examples.proofs.Refusals.{a_opened, unknown_in_text, with_attributes}
use Rattle.xml_examples.proofs.Stops.{reference_not_ended}
use Rattle.xml_examples.proofs.One.{one_at_each}
use Rattle.xml_model.proofs.Unique.{same_head}

-- what is UTF-8 is not refused before layer 2
not_before_items : (bytes : List ℕ) → IsUtf8 bytes → (other : DocFault) → layer other < 2 → Refuses bytes other → ⊥
not_before_items bytes u (faults.Utf8 at) l = no_utf8 bytes at u
not_before_items bytes u (faults.Syntax at) l = absurd (omega arith)
not_before_items bytes u (faults.Entity at) l = absurd (omega arith)
not_before_items bytes u (faults.Encoding at) l = absurd (omega arith)
not_before_items bytes u (faults.Nesting at) l = absurd (omega arith)
not_before_items bytes u (faults.Depth at) l = absurd (omega arith)
not_before_items bytes u (faults.Width field at) l = absurd (omega arith)
not_before_items bytes u (faults.Twice at) l = absurd (omega arith)
not_before_items bytes u (faults.Namespace at) l = absurd (omega arith)

-- and what is walked to its end not before layer 3
not_before_references : (bytes : List ℕ) (items : List Item) → OneItem bytes → IsUtf8 bytes → walk_to_end bytes items ≡ true → (other : DocFault) → layer other < 3 → Refuses bytes other → ⊥
not_before_references bytes items one u w (faults.Utf8 at) l = no_utf8 bytes at u
not_before_references bytes items one u w (faults.Syntax at) l = no_syntax bytes items at one w
not_before_references bytes items one u w (faults.Entity at) l = absurd (omega arith)
not_before_references bytes items one u w (faults.Encoding at) l = absurd (omega arith)
not_before_references bytes items one u w (faults.Nesting at) l = absurd (omega arith)
not_before_references bytes items one u w (faults.Depth at) l = absurd (omega arith)
not_before_references bytes items one u w (faults.Width field at) l = absurd (omega arith)
not_before_references bytes items one u w (faults.Twice at) l = absurd (omega arith)
not_before_references bytes items one u w (faults.Namespace at) l = absurd (omega arith)

-- <a>&lt</a> is refused with Syntax at 3

reference_first : IsRefusal (codes "<a>&lt</a>") (faults.Syntax 3)
unfolding encode_utf8
reference_first = record { refuses = reference_not_ended; first = not_before_items (codes "<a>&lt</a>") (codes "<a>&lt</a>", (refl, refl)) }

-- <a>&x;</b> is refused with Entity at 3, though it does not nest, which would be refused at 6

abbrev x_and_b : List Item
x_and_b = start_tag (tag (codes "a")) ∷ leaf (Leaf.text (entity (codes "x") ∷ [])) ∷ end_tag (codes "b") [] ∷ []

x_walks : walk_to_end (codes "<a>&x;</b>") x_and_b ≡ true
unfolding opened
x_walks = refl

entity_first : IsRefusal (codes "<a>&x;</b>") (faults.Entity 3)
unfolding encode_utf8
entity_first = record { refuses = unknown_in_text; first = not_before_references (codes "<a>&x;</b>") x_and_b one_at_each (codes "<a>&x;</b>", (refl, refl)) x_walks }

-- after <a>&x; no end tag of another name
abbrev x_leaf : Leaf
x_leaf = Leaf.text (entity (codes "x") ∷ [])

other_end : (f : Forest) (rest : List Item) → flat f ≡ a_opened ∷ leaf x_leaf ∷ end_tag (codes "b") [] ∷ rest → ⊥
unfolding flat
other_end done rest e = cc
other_end (single x f) rest e = let k : leaf x ≡ a_opened = (same_head (leaf x) a_opened (flat f) _ e).0 in absurd cc
other_end (empty t f) rest e = let k : empty_tag t ≡ a_opened = (same_head (empty_tag t) a_opened (flat f) _ e).0 in absurd cc
other_end (element t inside space f) rest e =
    let p = same_head (start_tag t) a_opened (flat inside ++ end_tag t.name space ∷ flat f) (leaf x_leaf ∷ end_tag (codes "b") [] ∷ rest) e in inner inside t space f rest p.0 p.1
  where
    ended : (inside : Forest) (t : Tag) (space : List ℕ) (f : Forest) (rest : List Item) → start_tag t ≡ a_opened → flat inside ++ end_tag t.name space ∷ flat f ≡ end_tag (codes "b") [] ∷ rest → ⊥
    ended done t space f rest s k =
        let same : t ≡ tag (codes "a") = cc in
        let q : end_tag t.name space ≡ end_tag (codes "b") [] = (same_head (end_tag t.name space) (end_tag (codes "b") []) (flat f) rest k).0 in
        let name : t.name ≡ codes "b" = cc in
        let both : codes "a" ≡ codes "b" = sym (ap (λ x. x.name) same) ∙ name in
        false≢true (ap (λ n. bytes_eq n (codes "b")) both)
    ended (single x g) t space f rest s k = let q : leaf x ≡ end_tag (codes "b") [] = (same_head (leaf x) (end_tag (codes "b") []) _ rest k).0 in absurd cc
    ended (empty u g) t space f rest s k = let q : empty_tag u ≡ end_tag (codes "b") [] = (same_head (empty_tag u) (end_tag (codes "b") []) _ rest k).0 in absurd cc
    ended (element u g blank h) t space f rest s k = let q : start_tag u ≡ end_tag (codes "b") [] = (same_head (start_tag u) (end_tag (codes "b") []) _ rest k).0 in absurd cc

    inner : (inside : Forest) (t : Tag) (space : List ℕ) (f : Forest) (rest : List Item) → start_tag t ≡ a_opened → flat inside ++ end_tag t.name space ∷ flat f ≡ leaf x_leaf ∷ end_tag (codes "b") [] ∷ rest → ⊥
    inner done t space f rest s k = let q : end_tag t.name space ≡ leaf x_leaf = (same_head (end_tag t.name space) (leaf x_leaf) (flat f) _ k).0 in absurd cc
    inner (single x g) t space f rest s k = ended g t space f rest s (same_head (leaf x) (leaf x_leaf) (flat g ++ end_tag t.name space ∷ flat f) (end_tag (codes "b") [] ∷ rest) k).1
    inner (empty u g) t space f rest s k = let q : empty_tag u ≡ leaf x_leaf = (same_head (empty_tag u) (leaf x_leaf) _ _ k).0 in absurd cc
    inner (element u g blank h) t space f rest s k = let q : start_tag u ≡ leaf x_leaf = (same_head (start_tag u) (leaf x_leaf) _ _ k).0 in absurd cc

abbrev begins_open : BeginsNest (a_opened ∷ leaf x_leaf ∷ [])
begins_open = record { nest = elem (codes "a") (single x_leaf done) done; rest = end_tag (codes "a") [] ∷ []; nests = unfold opened in refl; split = unfold opened in refl }

other_end_at_six : Refuses (codes "<a>&x;</b>") (faults.Nesting 6)
unfolding opened
other_end_at_six = record {
  prefix = a_opened ∷ leaf x_leaf ∷ [];
  rest = end_tag (codes "b") [] ∷ [];
  walked = refl;
  begins = begins_open;
  longest = λ b. other_end b.nest b.rest b.split;
  place = refl;
  deep = refl;
}

-- <p:a b="1" b="2"/> is refused with Twice at 11, though nothing binds p and b repeats a name, which would be refused at 1 and at 11

abbrev b_and_b : Forest
b_and_b = with_attributes (codes "p:a") (attr (codes "b") (codes "1") ∷ attr (codes "b") (codes "2") ∷ [])

b_twice : Refuses (codes "<p:a b=\"1\" b=\"2\"/>") (faults.Twice 11)
unfolding opened
b_twice = record { nest = b_and_b; document = record { nests = refl; walked = refl }; others = []; first = refl }

p_unbound : Refuses (codes "<p:a b=\"1\" b=\"2\"/>") (faults.Namespace 1)
unfolding opened
p_unbound = record { nest = b_and_b; document = record { nests = refl; walked = refl }; others = 11 ∷ []; first = refl }

b_accepted : Accepted 6 (codes "<p:a b=\"1\" b=\"2\"/>") b_and_b
unfolding opened
b_accepted = record {
  utf8 = (codes "<p:a b=\"1\" b=\"2\"/>", (refl, refl));
  document = record { nests = refl; walked = refl };
  entities = refl;
  encoding = refl;
  widths = refl;
  twice = λ h. absurd (omega arith);
  names = λ h. absurd (omega arith);
}

twice_first : OneItem (codes "<p:a b=\"1\" b=\"2\"/>") → IsRefusal (codes "<p:a b=\"1\" b=\"2\"/>") (faults.Twice 11)
twice_first one = record { refuses = b_twice; first = λ other l. no_refusal_from_accepted 6 (codes "<p:a b=\"1\" b=\"2\"/>") b_and_b one b_accepted other (omega (arith, l)) }
