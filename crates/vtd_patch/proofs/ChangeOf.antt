-- The splice that sets a text node or an attribute.
use Rattle.std.proofs.Common.{◌≡◌, ◌⊎◌, inl, inr, ℕ, zero, suc, ◌-◌, ◌<◌, List, [], ◌∷◌, length, refl, sym, ap, ap₂, subst, ◌∙◌, arith}
use Rattle.std.proofs.Common.{Result, Ok, Err, Option, Some, None}
use Rattle.std.specs.List.{All, slice_index_or}
use Rattle.std.proofs.lemmas.List.Elements.{All-head}
use Rattle.xml_model.specs.declared.Kind.TheVariants as kinds
use Rattle.xml_model.specs.declared.Node.{Node}
use Rattle.xml_model.specs.Tree.{Entry, Thing, kind_of}
use Rattle.vtd_edits.specs.declared.splice.Splice.{Splice}
use Rattle.vtd_edits.specs.declared.splice.Splice.TheVariants.{Replace}
use Rattle.vtd_words.specs.Lists.{Lists}
use Rattle.vtd_words.specs.Table.{IsNodeOf, ForEachEntry, nodes_of}
use Rattle.vtd_modifier.specs.declared.operation.EditFault.{EditFault}
use Rattle.vtd_modifier.specs.Rows.{one, set_to}
use Rattle.vtd_modifier.specs.Parts.{part_of, parts_of}
use Rattle.vtd_modifier.specs.declared.operation.EditFault.TheVariants as faults
use Rattle.vtd_modifier.specs.Outcomes.{with_row, AreNodesOf, Denote, ForEachEntries, IsRefused}
use Rattle.vtd_edits.specs.Splices.{IsWithin}
use Rattle.vtd_patch.specs.declared.change.Change.{Change}
use Rattle.vtd_patch.specs.Changes.{IsChange, IsIn, IsOnly}

-- a list of one node of a table
pub nodes_are : (bytes : List ℕ) (lists : Lists) (node : Node) (nodes : List Node) → nodes ≡ node ∷ [] → IsNodeOf bytes lists node →
    AreNodesOf bytes lists nodes
nodes_are bytes lists node nodes e h = subst (AreNodesOf bytes lists) (sym e) alone
  where
    alone : AreNodesOf bytes lists (node ∷ [])
    alone zero d l = h
    alone (suc k) d l = absurd (omega (arith, l))

-- the one splice that sets a node
pub record SetBy (bytes text : List ℕ) (e : Entry) : Type 0 where
  pub start : ℕ
  pub end : ℕ
  pub put : List ℕ
  pub row : set_to bytes text (part_of bytes e) ≡ one (Replace start end put)

set_thing : (bytes text : List ℕ) (x : Thing) (start stop : ℕ) → (kind_of x ≡ kinds.Text) ⊎ (kind_of x ≡ kinds.Attribute) →
    (a b : ℕ) × (put : List ℕ) × (set_to bytes text (parts_of bytes x start stop) ≡ one (Replace a b put))
set_thing bytes text (Thing.text xs) start stop k = (_, _, _, refl)
set_thing bytes text (Thing.attribute a) start stop k = (_, _, _, refl)
set_thing bytes text (Thing.root first f) start stop (inl k) = absurd cc
set_thing bytes text (Thing.root first f) start stop (inr k) = absurd cc
set_thing bytes text (Thing.element t inside) start stop (inl k) = absurd cc
set_thing bytes text (Thing.element t inside) start stop (inr k) = absurd cc
set_thing bytes text (Thing.comment cs) start stop (inl k) = absurd cc
set_thing bytes text (Thing.comment cs) start stop (inr k) = absurd cc
set_thing bytes text (Thing.instruction i) start stop (inl k) = absurd cc
set_thing bytes text (Thing.instruction i) start stop (inr k) = absurd cc

-- a text node or an attribute has one
pub set_by : (bytes text : List ℕ) (e : Entry) → (kind_of e.what ≡ kinds.Text) ⊎ (kind_of e.what ≡ kinds.Attribute) → SetBy bytes text e
set_by bytes text e k =
    let s = set_thing bytes text e.what e.start e.stop k in record { start = s.0; end = s.1; put = s.2; row = s.3 }

kind_is : (node : Node) (e : Entry) → (node.kind ≡ kinds.Text) ⊎ (node.kind ≡ kinds.Attribute) → kind_of e.what ≡ node.kind →
    (kind_of e.what ≡ kinds.Text) ⊎ (kind_of e.what ≡ kinds.Attribute)
kind_is node e (inl t) k = inl (k ∙ t)
kind_is node e (inr t) k = inr (k ∙ t)

-- what comes of a list of one node
pub made_by : (bytes text : List ℕ) (e : Entry) (s : SetBy bytes text e) →
    with_row e.start (set_to bytes text (part_of bytes e)) (Ok []) ≡ Ok (Replace s.start s.end s.put ∷ [])
made_by bytes text e s = ap (λ r. with_row e.start r (Ok [])) s.row

-- what the answer to a list of one node says of each entry that it denotes
pub one_denoted : (bytes : List ℕ) (lists : Lists) (node : Node) (nodes : List Node) (P : List Entry → Type 0) → nodes ≡ node ∷ [] →
    ForEachEntries bytes lists nodes P → ForEachEntry bytes lists node (λ nest e. P (e ∷ []))
one_denoted bytes lists node nodes P one h nest shown e i =
    h nest shown (e ∷ []) (subst (λ (ns : List Node). Denote (nodes_of bytes nest) ns (e ∷ [])) (sym one) (i, tt))

-- it is no refusal
pub never_refused : (bytes text : List ℕ) (lists : Lists) (node : Node) (nodes : List Node)
    (answer : List Entry → Result (List Splice) EditFault) (fault other : EditFault) → nodes ≡ node ∷ [] → IsNodeOf bytes lists node →
    (node.kind ≡ kinds.Text) ⊎ (node.kind ≡ kinds.Attribute) → fault ≡ other →
    ((f : EditFault) → f ≡ other → (r : Result (List Splice) EditFault) → IsRefused r f → r ≡ Err other) →
    ForEachEntries bytes lists nodes (λ es. IsRefused (answer es) fault) →
    ((e : Entry) → answer (e ∷ []) ≡ with_row e.start (set_to bytes text (part_of bytes e)) (Ok [])) → ⊥
never_refused bytes text lists node nodes answer fault other one n k is say h same =
    let e = n.entry in
    let set = set_by bytes text e (kind_is node e k n.holds.1) in
    let refused : answer (e ∷ []) ≡ Err other =
    say fault is (answer (e ∷ [])) (one_denoted bytes lists node nodes (λ es. IsRefused (answer es) fault) one h n.nest n.shown e n.holds) in
    let made : answer (e ∷ []) ≡ Ok (Replace set.start set.end set.put ∷ []) = same e ∙ made_by bytes text e set in
    ok_no_err (Replace set.start set.end set.put ∷ []) other (sym made ∙ refused)
  where
    ok_no_err : (xs : List Splice) (f : EditFault) → ◌≡◌ {A = Result (List Splice) EditFault} (Ok xs) (Err f) → ⊥
    ok_no_err xs f e = absurd cc

pub says_name : (f : EditFault) → f ≡ faults.Name → (r : Result (List Splice) EditFault) → IsRefused r f → r ≡ Err faults.Name
says_name f e r h = subst (λ (g : EditFault). IsRefused r g) e h

pub says_kind : (at : ℕ) (f : EditFault) → f ≡ faults.Kind at → (r : Result (List Splice) EditFault) → IsRefused r f → r ≡ Err (faults.Kind at)
says_kind at f e r h = subst (λ (g : EditFault). IsRefused r g) e h

-- it is the one splice of the node
pub one_made : (bytes text : List ℕ) (lists : Lists) (node : Node) (nodes : List Node)
    (answer : List Entry → Result (List Splice) EditFault) (splices : List Splice) → nodes ≡ node ∷ [] →
    (node.kind ≡ kinds.Text) ⊎ (node.kind ≡ kinds.Attribute) → ForEachEntries bytes lists nodes (λ es. answer es ≡ Ok splices) →
    ((e : Entry) → answer (e ∷ []) ≡ with_row e.start (set_to bytes text (part_of bytes e)) (Ok [])) →
    ForEachEntry bytes lists node (λ nest e. (set : SetBy bytes text e) × (splices ≡ Replace set.start set.end set.put ∷ []))
one_made bytes text lists node nodes answer splices one k h same nest shown e i =
    let set = set_by bytes text e (kind_is node e k i.1) in
    let made : answer (e ∷ []) ≡ Ok (Replace set.start set.end set.put ∷ []) = same e ∙ made_by bytes text e set in (
      set,
      oks_same splices (Replace set.start set.end set.put ∷ [])
          (sym (one_denoted bytes lists node nodes (λ es. answer es ≡ Ok splices) one h nest shown e i) ∙ made),
    )
  where
    oks_same : (xs ys : List Splice) → ◌≡◌ {A = Result (List Splice) EditFault} (Ok xs) (Ok ys) → xs ≡ ys
    oks_same xs ys e = cc

-- the change that is found in the splices
pub found_is : (bytes text : List ℕ) (e : Entry) (splices : List Splice) (found : Option Change) (change : Change) → IsOnly splices found →
    found ≡ Some change → (set : SetBy bytes text e) × (splices ≡ Replace set.start set.end set.put ∷ []) → IsChange bytes text e change
found_is bytes text e splices found change only some made =
    let set = made.0 in
    let same : change ≡ record { start = set.start; end = set.end; text = set.put } =
    somes_same change _ (sym some ∙ only set.start set.end set.put made.1) in
    set.row ∙ ap (λ (c : Change). one (Replace c.start c.end c.text)) (sym same)
  where
    somes_same : (a b : Change) → ◌≡◌ {A = Option Change} (Some a) (Some b) → a ≡ b
    somes_same a b e = cc

-- there is one
pub found_some : (bytes text : List ℕ) (e : Entry) (splices : List Splice) (found : Option Change) → IsOnly splices found →
    found ≡ None → (set : SetBy bytes text e) × (splices ≡ Replace set.start set.end set.put ∷ []) → ⊥
found_some bytes text e splices found only none made =
    let set = made.0 in none_some _ (sym none ∙ only set.start set.end set.put made.1)
  where
    none_some : (a : Change) → ◌≡◌ {A = Option Change} None (Some a) → ⊥
    none_some a e = absurd cc

-- its range
pub found_in : (bytes text : List ℕ) (e : Entry) (splices : List Splice) (change : Change) → IsChange bytes text e change →
    (set : SetBy bytes text e) × (splices ≡ Replace set.start set.end set.put ∷ []) → All (IsWithin (length bytes)) splices → IsIn bytes change
found_in bytes text e splices change is made all =
    let set = made.0 in
    let same : ◌≡◌ {A = Option (List Splice)} (one (Replace change.start change.end change.text)) (one (Replace set.start set.end set.put)) =
    sym is ∙ set.row in
    let within : IsWithin (length bytes) (Replace set.start set.end set.put) =
    All-head (IsWithin (length bytes)) (Replace set.start set.end set.put) []
    (subst (λ (xs : List Splice). All (IsWithin (length bytes)) xs) made.1 all) in
    let s : change.start ≡ set.start = starts_same change.start change.end set.start set.end change.text set.put same in
    let t : change.end ≡ set.end = ends_same change.start change.end set.start set.end change.text set.put same in
    record { order = omega (arith, within.0, s, t); within = omega (arith, within.1, t) }
  where
    starts_same : (a b c d : ℕ) (p q : List ℕ) → ◌≡◌ {A = Option (List Splice)} (one (Replace a b p)) (one (Replace c d q)) → a ≡ c
    starts_same a b c d p q e = cc

    ends_same : (a b c d : ℕ) (p q : List ℕ) → ◌≡◌ {A = Option (List Splice)} (one (Replace a b p)) (one (Replace c d q)) → b ≡ d
    ends_same a b c d p q e = cc

-- ---- the one splice of a list

-- the last of a list of one
pub last_is : (xs items : List Splice) (len : ℕ) (last : Option Splice) (x : Splice) → items ≡ xs → xs ≡ x ∷ [] → len ≡ length items →
    ((d : Splice) → 0 < len → last ≡ Some (slice_index_or items (len - 1) d)) → last ≡ Some x
last_is xs items len last x e one l h =
    let is : items ≡ x ∷ [] = e ∙ one in
    let size : len ≡ 1 = l ∙ ap (λ (ys : List Splice). length ys) is in
    h x (omega (arith, size)) ∙ ap₂ (λ (ys : List Splice) (n : ℕ). Some (slice_index_or ys (n - 1) x)) is size

pub last_change : (last : Option Splice) (x : Splice) (a b start end : ℕ) (p text : List ℕ) → last ≡ Some x → x ≡ Replace a b p →
    last ≡ Some (Replace start end text) →
    ◌≡◌ {A = Option Change} (Some (record { start = a; end = b; text = p })) (Some (record { start = start; end = end; text = text }))
last_change last x a b start end p text e f g =
    let same : ◌≡◌ {A = Option Splice} (Some (Replace a b p)) (Some (Replace start end text)) =
    ap (λ (y : Splice). Some y) (sym f) ∙ sym e ∙ g in
    let r : a ≡ start = cc in
    let s : b ≡ end = cc in
    let t : p ≡ text = cc in
    cc
