-- The elements of a tree, one record after another, and their spans.
use Rattle.std.proofs.Common.{◌≡◌, ℕ, zero, suc, ◌+◌, ◌<◌, ◌≤◌, ◌^◌, Bool, true, false, cond, not, List, [], ◌∷◌, ◌++◌, Option, Some, None, map, length, refl, sym, ap, ap₂, subst, ◌∙◌}
use Rattle.std.proofs.Common.{arith, inl, inr, nat_lt, ◌==◌, option_map, add-one, append_assoc, append-nil, slice_index, All}
use Rattle.std.specs.Prelude.{filter, find, option_to_list}
use Rattle.std.specs.List.{AllByRecursion as Each, AllZip, Contains}
use Rattle.std.specs.List.Sorted.{IsStrictlyIncreasing}
use Rattle.std.proofs.lemmas.Bool.{cases_lt, lt-ltb, le-ltb, eq-eqb, ne_eqb}
use Rattle.std.proofs.lemmas.List.Elements.{All-nil, All-push}
use Rattle.std.proofs.lemmas.Option.{same_Some, none-some}
use Rattle.xml_model.specs.declared.Kind.TheVariants as kinds
use Rattle.xml_model.specs.declared.Node.{Node}
use Rattle.xml_model.specs.declared.Span.{Span}
use Rattle.xml_model.specs.Items.{first_place}
use Rattle.xml_model.specs.Levels.{is_element}
use Rattle.xml_model.specs.Nest.{Forest}
use Rattle.xml_model.specs.Records.{forest_records, records}
use Rattle.xml_model.specs.Tree.{Thing, Entry, Identifies, at_index, kind_of}
use Rattle.xml_model.proofs.Each.{Rising, contains_here, contains_next}
use Rattle.xml_model.proofs.Rise.{index, indexes_rise}
use Rattle.vtd_words.specs.Lists.{Lists}
use Rattle.vtd_words.specs.Table.{IsNestOf, IsNodeOf, IsTable, node_of, nodes_of}
use Rattle.vtd_words.proofs.Fitting.{nest_shown}
use Rattle.vtd_words.proofs.Shown.{shown_length}
use Rattle.vtd_cursor.specs.Elements.{span_of, elements_in, if_element, element_node_at}
use Rattle.vtd_cursor.specs.Listed.{IsSpanOf}

-- the nodes whose first record has an index or a higher one
abbrev pub from_index : ℕ → List Entry → List Entry
from_index n es = filter (λ e. not (nat_lt e.index n)) es

-- the nodes of the elements among nodes
abbrev pub element_nodes : List Entry → List Node
element_nodes es = map node_of (elements_in es)

-- of rising places, none is below the first bound
absent : (n low high : ℕ) (es : List Entry) → Rising index low es high → n < low → at_index n es ≡ None
unfolding at_index
absent n low high [] h l = refl
absent n low high (e ∷ es) h l = ap (λ b. cond b (Some e) (find (λ x. x.index == n) es)) (ne_eqb e.index n (λ same. omega (arith, h.0, l, same)))
    ∙ absent n (suc e.index) high es h.1 (omega (arith, h.0, l))

from_all : (n low high : ℕ) (es : List Entry) → Rising index low es high → n ≤ low → from_index n es ≡ es
from_all n low high [] h l = refl
from_all n low high (e ∷ es) h l = ap (λ b. cond (not b) (e ∷ from_index n es) (from_index n es)) (le-ltb e.index n (omega (arith, h.0, l)))
    ∙ ap (λ xs. e ∷ xs) (from_all n (suc e.index) high es h.1 (omega (arith, h.0, l)))

rising_within : (low high : ℕ) (es : List Entry) → Rising index low es high → low ≤ high
rising_within low high [] h = h
rising_within low high (e ∷ es) h = omega (arith, h.0, rising_within (suc e.index) high es h.1)

from_end : (n low high : ℕ) (es : List Entry) → Rising index low es high → high ≤ n → from_index n es ≡ []
from_end n low high [] h l = refl
from_end n low high (e ∷ es) h l =
    let within : e.index < high = rising_within (suc e.index) high es h.1 in
    ap (λ b. cond (not b) (e ∷ from_index n es) (from_index n es)) (lt-ltb e.index n (omega (arith, within, l))) ∙ from_end n (suc e.index) high es h.1 l

from_next : (n low high : ℕ) (es : List Entry) → Rising index low es high → from_index n es ≡ option_to_list (at_index n es) ++ from_index (suc n) es
unfolding at_index
from_next n low high [] h = refl
from_next n low high (e ∷ es) h =
    elim (cases_lt e.index n) [
      | inl l ↦
          ap (λ b. cond (not b) (e ∷ from_index n es) (from_index n es)) (lt-ltb e.index n l) ∙ from_next n (suc e.index) high es h.1
          ∙ sym (ap₂ (λ b c. option_to_list (cond b (Some e) (at_index n es)) ++ cond (not c) (e ∷ from_index (suc n) es) (from_index (suc n) es))
          (ne_eqb e.index n (λ same. omega (arith, l, same))) (lt-ltb e.index (suc n) (omega (arith, l))))
      | inr l ↦ elim (cases_lt n e.index) [
        | inl k ↦
            ap (λ b. cond (not b) (e ∷ from_index n es) (from_index n es)) (le-ltb e.index n l)
            ∙ ap (λ xs. e ∷ xs) (from_all n (suc e.index) high es h.1 (omega (arith, l)))
            ∙ sym (ap₂ (λ o c. option_to_list o ++ cond (not c) (e ∷ from_index (suc n) es) (from_index (suc n) es)) (absent n (suc n) high (e ∷ es)
            (omega (arith, k), h.1) (omega arith)) (le-ltb e.index (suc n) (omega (arith, k)))
            ∙ ap (λ xs. e ∷ xs) (from_all (suc n) (suc e.index) high es h.1 (omega (arith, k))))
        | inr k ↦
            let same : e.index ≡ n = omega (arith, l, k) in
            ap (λ b. cond (not b) (e ∷ from_index n es) (from_index n es)) (le-ltb e.index n l)
            ∙ ap (λ xs. e ∷ xs) (from_all n (suc e.index) high es h.1 (omega (arith, l)))
            ∙ sym (ap₂ (λ b c. option_to_list (cond b (Some e) (at_index n es)) ++ cond (not c) (e ∷ from_index (suc n) es) (from_index (suc n) es))
            (eq-eqb e.index n same) (lt-ltb e.index (suc n) (omega (arith, same)))
            ∙ ap (λ xs. e ∷ xs) (from_all (suc n) (suc e.index) high es h.1 (omega (arith, same))))
      ]
    ]

nodes_cons : (o : Option Entry) (es : List Entry) → element_nodes (option_to_list o ++ es) ≡ option_to_list (option_map node_of (if_element o)) ++ element_nodes es
nodes_cons None es = refl
nodes_cons (Some e) es = by (is_element e.what)
  where
    by : (b : Bool) → map node_of (cond b (e ∷ elements_in es) (elements_in es)) ≡ option_to_list (option_map node_of (cond b (Some e) None)) ++ element_nodes es
    by true = refl
    by false = refl

-- the elements from a record on: the one that begins there, if one does, and those after it
nodes_next : (n low high : ℕ) (es : List Entry) → Rising index low es high → element_nodes (from_index n es) ≡ option_to_list (element_node_at n es) ++ element_nodes (from_index (suc n) es)
nodes_next n low high es h = ap element_nodes (from_next n low high es h) ∙ nodes_cons (at_index n es) (from_index (suc n) es)

-- The element that begins at a record.

element_kind : (w : Thing) → kind_of w ≡ kinds.Element → is_element w ≡ true
element_kind (Thing.element t f) h = refl
element_kind (Thing.root first f) h = absurd cc
element_kind (Thing.attribute a) h = absurd cc
element_kind (Thing.text xs) h = absurd cc
element_kind (Thing.comment cs) h = absurd cc
element_kind (Thing.instruction i) h = absurd cc

other_kind : (w : Thing) → (kind_of w ≡ kinds.Element → ⊥) → is_element w ≡ false
other_kind (Thing.element t f) h = absurd (h refl)
other_kind (Thing.root first f) h = refl
other_kind (Thing.attribute a) h = refl
other_kind (Thing.text xs) h = refl
other_kind (Thing.comment cs) h = refl
other_kind (Thing.instruction i) h = refl

pub element_found : (node : Node) (o : Option Entry) → Some node ≡ option_map node_of o → node.kind ≡ kinds.Element → Some node ≡ option_map node_of (if_element o)
element_found node None h k = absurd (none-some node (sym h))
element_found node (Some e) h k =
    let same : node ≡ node_of e = same_Some node (node_of e) h in
    let kind : kind_of e.what ≡ kinds.Element = ap (λ (n : Node). n.kind) (sym same) ∙ k in
    h ∙ ap (λ t. option_map node_of (cond t (Some e) None)) (sym (element_kind e.what kind))

pub other_found : (node : Node) (o : Option Entry) → Some node ≡ option_map node_of o → (node.kind ≡ kinds.Element → ⊥) → None ≡ option_map node_of (if_element o)
other_found node None h k = absurd (none-some node (sym h))
other_found node (Some e) h k =
    let same : node ≡ node_of e = same_Some node (node_of e) h in
    sym (ap (λ t. option_map node_of (cond t (Some e) None)) (other_kind e.what (λ x. k (ap (λ (n : Node). n.kind) same ∙ x))))

pub none_found : (o : Option Entry) → None ≡ option_map node_of o → None ≡ option_map node_of (if_element o)
none_found None h = refl
none_found (Some e) h = absurd (none-some (node_of e) h)

-- The elements so far, and those that are left.

-- the elements so far are before those from a record on
abbrev pub AreElementsTo : List ℕ → Lists → List Node → ℕ → Type 0
AreElementsTo bytes lists nodes at = (nest : Forest) → IsNestOf bytes lists nest → nodes ++ element_nodes (from_index at (nodes_of bytes nest)) ≡ element_nodes (nodes_of bytes nest)

-- such elements, which are nodes of the table
pub record IsElementsTo (bytes : List ℕ) (lists : Lists) (nodes : List Node) (at : ℕ) : Type 0 where
  pub are : AreElementsTo bytes lists nodes at
  pub nodes_are : All (IsNodeOf bytes lists) nodes

pub none_yet : (bytes : List ℕ) (lists : Lists) (nodes : List Node) → nodes ≡ [] → AreElementsTo bytes lists nodes 0
none_yet bytes lists nodes e = λ nest s.
    ap (λ xs. xs ++ element_nodes (from_index 0 (nodes_of bytes nest))) e ∙ ap element_nodes (from_all 0 _ _ (nodes_of bytes nest) (indexes_rise nest (first_place bytes)) (omega arith))

pub one_more : (bytes : List ℕ) (lists : Lists) (nodes : List Node) (at : ℕ) (node : Option Node) → AreElementsTo bytes lists nodes at →
    ((nest : Forest) → IsNestOf bytes lists nest → node ≡ element_node_at at (nodes_of bytes nest)) → AreElementsTo bytes lists (nodes ++ option_to_list node) (at + 1)
one_more bytes lists nodes at node h f = λ nest s.
    let es = nodes_of bytes nest in
    ap (λ (k : ℕ). nodes ++ option_to_list node ++ element_nodes (from_index k es)) (add-one at)
    ∙ append_assoc nodes (option_to_list node) (element_nodes (from_index (suc at) es))
    ∙ ap (λ (o : Option Node). nodes ++ (option_to_list o ++ element_nodes (from_index (suc at) es))) (f nest s)
    ∙ ap (λ xs. nodes ++ xs) (sym (nodes_next at _ _ es (indexes_rise nest (first_place bytes)))) ∙ h nest s

pub started : (bytes : List ℕ) (lists : Lists) (nodes : List Node) → nodes ≡ [] → IsElementsTo bytes lists nodes 0
started bytes lists nodes e = record {
  are = none_yet bytes lists nodes e;
  nodes_are = subst (All (IsNodeOf bytes lists)) (sym e) (All-nil (IsNodeOf bytes lists));
}

pub one_found : (bytes : List ℕ) (lists : Lists) (nodes new : List Node) (at : ℕ) (node : Node) (found : Option Node) → IsElementsTo bytes lists nodes at →
    found ≡ Some node → ((nest : Forest) → IsNestOf bytes lists nest → found ≡ element_node_at at (nodes_of bytes nest)) → IsNodeOf bytes lists node →
    new ≡ nodes ++ node ∷ [] → IsElementsTo bytes lists new (at + 1)
one_found bytes lists nodes new at node found h f e n w = record {
  are = subst (λ (xs : List Node). AreElementsTo bytes lists xs (at + 1)) (sym w) (one_more bytes lists nodes at (Some node) h.are (λ nest s. sym f ∙ e nest s));
  nodes_are = subst (All (IsNodeOf bytes lists)) (sym w) (All-push (IsNodeOf bytes lists) nodes node h.nodes_are n);
}

pub none_found_here : (bytes : List ℕ) (lists : Lists) (nodes : List Node) (at : ℕ) (found : Option Node) → IsElementsTo bytes lists nodes at → found ≡ None →
    ((nest : Forest) → IsNestOf bytes lists nest → found ≡ element_node_at at (nodes_of bytes nest)) → IsElementsTo bytes lists nodes (at + 1)
none_found_here bytes lists nodes at found h f e = record {
  are = subst (λ (xs : List Node). AreElementsTo bytes lists xs (at + 1)) (append-nil nodes) (one_more bytes lists nodes at None h.are (λ nest s. sym f ∙ e nest s));
  nodes_are = h.nodes_are;
}

all_records : (nest : Forest) (first : ℕ) → length (records nest first) ≡ suc (length (forest_records 0 first nest))
unfolding records
all_records nest first = refl

pub all_found : (bytes : List ℕ) (lists : Lists) (nodes : List Node) (at : ℕ) → length bytes < 2 ^ 30 → length lists.records ≤ at → AreElementsTo bytes lists nodes at →
    (nest : Forest) → IsNestOf bytes lists nest → nodes ≡ element_nodes (nodes_of bytes nest)
all_found bytes lists nodes at few l h nest s =
    let es = nodes_of bytes nest in
    let many : length lists.records ≡ length (records nest (first_place bytes)) = shown_length lists.records (records nest (first_place bytes)) (nest_shown bytes lists nest few s) in
    sym (append-nil nodes) ∙ ap (λ xs. nodes ++ element_nodes xs) (sym (from_end at _ _ es (indexes_rise nest (first_place bytes)) (omega (arith, l, many, all_records nest (first_place bytes))))) ∙ h nest s

-- Their order.

abbrev ats : List Entry → List ℕ
ats es = map (λ n. n.at) (map node_of es)

lower_rises : (low less high : ℕ) (es : List Entry) → less ≤ low → Rising index low es high → Rising index less es high
lower_rises low less high [] l h = omega (arith, l, h)
lower_rises low less high (e ∷ es) l h = (omega (arith, l, h.0), h.1)

filter_rises : (p : Entry → Bool) (low high : ℕ) (es : List Entry) → Rising index low es high → Rising index low (filter p es) high
filter_rises p low high [] h = h
filter_rises p low high (e ∷ es) h = by (p e) (filter_rises p (suc e.index) high es h.1)
  where
    by : (b : Bool) → Rising index (suc e.index) (filter p es) high → Rising index low (cond b (e ∷ filter p es) (filter p es)) high
    by true rest = (h.0, rest)
    by false rest = lower_rises (suc e.index) low high (filter p es) (omega (arith, h.0)) rest

ats_rise : (low high : ℕ) (es : List Entry) → Rising index low es high → (k : ℕ) → suc k < length (ats es) → slice_index (ats es) k < slice_index (ats es) (suc k)
ats_rise low high [] h k l = absurd (omega (arith, l))
ats_rise low high (e ∷ []) h k l = absurd (omega (arith, l))
ats_rise low high (e ∷ f ∷ es) h zero l = omega (arith, h.1.0)
ats_rise low high (e ∷ f ∷ es) h (suc k) l = ats_rise (suc e.index) high (f ∷ es) h.1 k (omega (arith, l))

pub in_order : (bytes : List ℕ) (lists : Lists) (nodes : List Node) → IsTable bytes lists →
    ((nest : Forest) → IsNestOf bytes lists nest → nodes ≡ element_nodes (nodes_of bytes nest)) → IsStrictlyIncreasing (map (λ n. n.at) nodes)
in_order bytes lists nodes t f =
    let es = elements_in (nodes_of bytes t.nest) in
    let rise : Rising index 0 es _ = filter_rises (λ e. is_element e.what) 0 _ (nodes_of bytes t.nest) (lower_rises _ 0 _ (nodes_of bytes t.nest) (omega arith) (indexes_rise t.nest (first_place bytes))) in
    subst (λ (ns : List Node). IsStrictlyIncreasing (map (λ n. n.at) ns)) (sym (f t.nest t.shown))
    (λ k l. subst (λ n. slice_index (ats es) k < slice_index (ats es) n) (sym (add-one k)) (ats_rise 0 _ es rise k (subst (λ n. n < length (ats es)) (add-one k) l)))

-- Their spans.

each_inside : (es : List Entry) → Each (Contains es) es
each_inside [] = tt
each_inside (e ∷ es) = (contains_here e es, more es (each_inside es))
  where
    more : (xs : List Entry) → Each (Contains es) xs → Each (Contains (e ∷ es)) xs
    more [] h = tt
    more (x ∷ xs) h = (contains_next e es x h.0, more xs h.1)

each_filtered : {X : Type 0} (P : X → Type 0) (p : X → Bool) (xs : List X) → Each P xs → Each P (filter p xs)
each_filtered P p [] h = tt
each_filtered P p (x ∷ xs) h = by (p x) (each_filtered P p xs h.1)
  where
    by : (b : Bool) → Each P (filter p xs) → Each P (cond b (x ∷ filter p xs) (filter p xs))
    by true rest = (h.0, rest)
    by false rest = rest

spans_same : (bytes : List ℕ) (lists : Lists) (nest : Forest) (es : List Entry) (spans : List Span) → IsNestOf bytes lists nest → Each (Contains (nodes_of bytes nest)) es →
    AllZip (IsSpanOf bytes lists) (map node_of es) spans → spans ≡ map span_of es
spans_same bytes lists nest [] [] s c z = refl
spans_same bytes lists nest [] (x ∷ spans) s c z = absurd z
spans_same bytes lists nest (e ∷ es) [] s c z = absurd z
spans_same bytes lists nest (e ∷ es) (x ∷ spans) s c z =
    let holds : Identifies (kind_of e.what) e.index e (nodes_of bytes nest) = (c.0, refl, refl) in
    ap₂ (λ (y : Span) (ys : List Span). y ∷ ys) (ap₂ (λ a b. record { start = a; end = b }) (z.0.start nest s e holds) (z.0.end nest s e holds))
    (spans_same bytes lists nest es spans s c.1 z.1)

pub element_spans_are : (bytes : List ℕ) (lists : Lists) (nodes : List Node) (spans : List Span) →
    ((nest : Forest) → IsNestOf bytes lists nest → nodes ≡ element_nodes (nodes_of bytes nest)) → AllZip (IsSpanOf bytes lists) nodes spans →
    (nest : Forest) → IsNestOf bytes lists nest → spans ≡ map span_of (elements_in (nodes_of bytes nest))
element_spans_are bytes lists nodes spans f z nest s =
    spans_same bytes lists nest (elements_in (nodes_of bytes nest)) spans s (each_filtered (Contains (nodes_of bytes nest)) (λ e. is_element e.what) (nodes_of bytes nest) (each_inside (nodes_of bytes nest)))
    (subst (λ ns. AllZip (IsSpanOf bytes lists) ns spans) (f nest s) z)

pub at_end : (words : List ℕ) (count at : ℕ) → count ≡ length words → count ≤ at → length words ≤ at
at_end words count at e l = omega (arith, e, l)
