-- Tags after the last declaration of a document declare nothing.
use Rattle.std.proofs.Common.{◌≡◌, ℕ, zero, suc, ◌+◌, ◌≤◌, false, cond, List, [], ◌∷◌, length, refl, ap, ◌∙◌, subst, arith, Some, None, bytes_eq, find, ⊎_elim}
use Rattle.std.specs.List.{AllByRecursion as Each, Contains}
use Rattle.std.proofs.lemmas.Bool.{cases_lt}
use Rattle.xml_model.specs.Chars.{size}
use Rattle.xml_model.specs.Items.{Attribute, Tag, first_place, written_attribute}
use Rattle.xml_model.specs.Names.{declaring, declaration_of, nearest, first_of, scope, tags_of}
use Rattle.xml_model.specs.Nest.{Forest}
use Rattle.xml_model.specs.Records.{Record, records, declares}
use Rattle.xml_model.specs.Scan.{record_at}
use Rattle.xml_model.specs.Tree.{Thing, Entry, Holder}
use Rattle.xml_model.proofs.Each.{each_at}
use Rattle.vtd_words.specs.Lists.{Lists}
use Rattle.vtd_words.specs.Table.{IsNestOf, nodes_of}
use Rattle.vtd_namespaces.specs.NameRecords.{AreAttributeRecords, HasNameRecord}
use Rattle.vtd_namespaces.specs.Scope.{Chain, HolderIn, tags_in}
use Rattle.vtd_namespaces.specs.Undeclared.{NoneDeclares}
use Rattle.vtd_namespaces.proofs.ChainLemmas.{document_chain}
use Rattle.vtd_namespaces.proofs.DeclarationLemmas.{chain_attributes, no_declaration, token_two}
use Rattle.vtd_namespaces.proofs.NameRecordLemmas.{document_holds}

-- after the last record there is none
past_records : (rs : List Record) (j : ℕ) → length rs ≤ j → (record_at j rs).token ≡ 13
past_records [] j h = refl
past_records (r ∷ rs) zero h = absurd (omega arith)
past_records (r ∷ rs) (suc j) h = past_records rs j (omega arith)

pub none_after : (rs : List Record) (n : ℕ) → length rs ≤ n → NoneDeclares rs n
none_after rs n l j h t = omega (arith, past_records rs j (omega arith), t)

pub none_from : (rs : List Record) (n : ℕ) → NoneDeclares rs (n + 1) → ((record_at n rs).token ≡ 3 → ⊥) → NoneDeclares rs n
none_from rs n more here j h = ⊎_elim (λ l. more j (omega arith)) (λ l. let same : n ≡ j = omega arith in subst (λ k. (record_at k rs).token ≡ 3 → ⊥) same here) (cases_lt n j)

-- of attributes whose names are none
pub none_declared : (bytes : List ℕ) (rs : List Record) (n at : ℕ) (others : List Attribute) (p : List ℕ) → NoneDeclares rs n →
    AreAttributeRecords bytes rs n at others →
    find (λ a. bytes_eq a.name (declaring p)) others ≡ None
none_declared bytes rs n at [] p h s = refl
none_declared bytes rs n at (a ∷ others) p h s =
    let plain : declares a.name ≡ false = token_two (declares a.name) (λ z. h n (omega arith) (s.0.token ∙ z)) in
    ap (λ b. cond b (Some a) (find (λ a. bytes_eq a.name (declaring p)) others)) (no_declaration a.name p plain)
    ∙ none_declared bytes rs (n + 2) (at + size (written_attribute a)) others p (λ j l. h j (omega arith)) s.1

from_more : (rs : List Record) (n m : ℕ) → n ≤ m → NoneDeclares rs n → NoneDeclares rs m
from_more rs n m l h j k = h j (omega arith)

pub tag_declares_none : (bytes : List ℕ) (rs : List Record) (tag n at : ℕ) (t : Tag) (p : List ℕ) → NoneDeclares rs n → n ≤ tag + 1 →
    AreAttributeRecords bytes rs (tag + 1) at t.attributes → declaration_of p t ≡ None
tag_declares_none bytes rs tag n at t p h l s = none_declared bytes rs (tag + 1) at t.attributes p (from_more rs n (tag + 1) l h) s

holder_declares_none : (bytes : List ℕ) (rs : List Record) (es : List Entry) → Each (HasNameRecord bytes rs) es → (n : ℕ) → NoneDeclares rs n →
    (x : Holder) (xs : List Holder) → HolderIn es x xs → n ≤ x.index + 1 → (p : List ℕ) →
    declaration_of p x.tag ≡ None
holder_declares_none bytes rs es s n h x xs c l p = let a = chain_attributes bytes rs es s x xs c in tag_declares_none bytes rs x.index n a.0 x.tag p h l a.1

-- where no record is of a declaration's name
pub nearest_none_declared : (bytes : List ℕ) (rs : List Record) (es : List Entry) → Each (HasNameRecord bytes rs) es → NoneDeclares rs 0 →
    (hs : List Holder) → Chain es hs → (p : List ℕ) → nearest p (tags_in hs) ≡ None
nearest_none_declared bytes rs es s h [] c p = refl
nearest_none_declared bytes rs es s h (x ∷ xs) c p =
    ap (λ o. first_of o (nearest p (tags_in xs))) (holder_declares_none bytes rs es s 0 h x xs c.0 (omega arith) p) ∙ nearest_none_declared bytes rs es s h xs c.1 p

-- an element after the last declaration
pub element_declares_none : (bytes : List ℕ) (lists : Lists) (nest : Forest) → IsNestOf bytes lists nest → (n : ℕ) →
    NoneDeclares (records nest (first_place bytes)) n → (e : Entry) → Contains (nodes_of bytes nest) e →
    (t : Tag) (inside : Forest) → e.what ≡ Thing.element t inside → n ≤ e.index + 1 → (p : List ℕ) → declaration_of p t ≡ None
element_declares_none bytes lists nest s n h e c t inside w l p =
    holder_declares_none bytes (records nest (first_place bytes)) (nodes_of bytes nest) (document_holds bytes nest s.accepted.document) n h (record { tag = t; index = e.index }) e.holders
    (record { entry = e; there = c; inside = inside; what = w; index = refl; holders = refl }) l p

-- a document without declarations
pub none_in_scope : (bytes : List ℕ) (lists : Lists) (nest : Forest) → IsNestOf bytes lists nest → NoneDeclares (records nest (first_place bytes)) 0 →
    (e : Entry) → Contains (nodes_of bytes nest) e → (p : List ℕ) → nearest p (scope e) ≡ None
none_in_scope bytes lists nest s h e c p = by e.what refl
  where
    above : nearest p (tags_of e) ≡ None
    above =
        nearest_none_declared bytes (records nest (first_place bytes)) (nodes_of bytes nest) (document_holds bytes nest s.accepted.document) h e.holders
        (each_at (λ x. Chain (nodes_of bytes nest) x.holders) (nodes_of bytes nest) e (document_chain nest (first_place bytes)) c) p

    by : (what : Thing) → e.what ≡ what → nearest p (scope (record e { what = what })) ≡ None
    by (Thing.element t inside) w = ap (λ o. first_of o (nearest p (tags_of e))) (element_declares_none bytes lists nest s 0 h e c t inside w (omega arith) p) ∙ above
    by (Thing.root first f) w = above
    by (Thing.attribute a) w = above
    by (Thing.text xs) w = above
    by (Thing.comment cs) w = above
    by (Thing.instruction i) w = above
