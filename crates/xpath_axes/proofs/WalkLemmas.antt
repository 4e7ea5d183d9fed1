-- Steps of walks along the records.
use Rattle.std.proofs.Common.{◌≡◌, ℕ, suc, ◌+◌, ◌<◌, ◌≤◌, ◌^◌, Bool, true, false, cond, ◌&&◌, ◌||◌, ◌==◌, List, [], ◌∷◌, ◌++◌}
use Rattle.std.proofs.Common.{length, drop, map, refl, ap, ap₂, sym, ◌∙◌, subst, arith, filter, nat_lt, nat_le, inl, inr, Some, None}
use Rattle.std.proofs.Common.{option_map, append_assoc, append-nil, bytes_eq}
use Rattle.std.specs.List.{Contains}
use Rattle.std.proofs.lemmas.Bool.{false≢true, and_parts, and_from, or_cases, or_left, or_right, cases_lt, ltb-true, leb-true, eqb-true, eq-eqb}
use Rattle.std.proofs.lemmas.Bool.{lt-ltb, le-leb}
use Rattle.std.proofs.lemmas.List.{drop_more, drop_all, map-append}
use Rattle.xml_model.specs.declared.Kind.{Kind}
use Rattle.xml_model.specs.declared.Kind.TheVariants as kinds
use Rattle.xml_model.specs.declared.Node.{Node}
use Rattle.xml_model.specs.Contexts.{Rises}
use Rattle.xml_model.specs.Items.{first_place}
use Rattle.xml_model.specs.Names.{Test, passes, is_text_node, is_comment, is_instruction, is_principal, name_passes, expanded}
use Rattle.xml_model.specs.Nest.{Forest}
use Rattle.xml_model.specs.Records.{Record, document, records}
use Rattle.xml_model.specs.Scan.{level_of, record_at, kind_of_token, is_text_token}
use Rattle.xml_model.specs.Tree.{Thing, Entry, Identifies, kind_of, at_index}
use Rattle.xml_model.specs.Laws.{is_child_kind, is_child_thing, is_attribute_thing, FirstRecordShows}
use Rattle.xml_model.proofs.Filters.{same_test, filter_same, none_of, one_here, split_or}
use Rattle.xml_model.proofs.Indexes.{one_kind}
use Rattle.xml_model.proofs.Inside.{levels_shown}
use Rattle.xml_model.proofs.NodeLaws.{first_record_of_node}
use Rattle.xml_model.proofs.Things.{child_kind}
use Rattle.xml_model.proofs.TreeOrder.{InOrder, in_order}
use Rattle.vtd_words.specs.Lists.{Lists}
use Rattle.vtd_words.specs.declared.packing.Parts.{Parts}
use Rattle.vtd_words.specs.Found.{IsNodeAt}
use Rattle.vtd_words.specs.Packed.{record_of}
use Rattle.vtd_words.specs.Table.{ArePartsAt, IsNestOf, node_of, nodes_of}
use Rattle.vtd_words.proofs.Fitting.{nest_shown}
use Rattle.vtd_words.proofs.Found.{none_at, wanted_at}
use Rattle.vtd_words.proofs.Nodes.{record_shown}
use Rattle.vtd_words.proofs.Shown.{shown_length}
use Rattle.xpath_axes.specs.declared.walk.Walk.{Walk}
use Rattle.xpath_axes.specs.Tests.{is_attribute_kind, may_pass}
use Rattle.xpath_axes.specs.Walks.{goes_on, is_sought, left_of, level_is, nodes_left, stop_from, stop_of, wants}

-- One place.

pub none_here : (P : Entry → Bool) (at : ℕ) (es : List Entry) → ((e : Entry) → Contains es e → e.index ≡ at → P e ≡ true → ⊥) →
    ◌≡◌ {A = List Node} [] (map node_of (filter (λ e. e.index == at && P e) es))
none_here P at es h = sym (ap (map node_of) (none_of (λ e. e.index == at && P e) es (λ e c t.
    let p = and_parts (e.index == at) (P e) t in h e c (eqb-true e.index at p.0) p.1)))

-- What a walk seeks at a record.

pub attribute_kind : (what : Thing) → is_attribute_thing what ≡ is_attribute_kind (kind_of what)
attribute_kind (Thing.root first f) = refl
attribute_kind (Thing.element t inside) = refl
attribute_kind (Thing.attribute a) = refl
attribute_kind (Thing.text xs) = refl
attribute_kind (Thing.comment cs) = refl
attribute_kind (Thing.instruction i) = refl

wanted_kind : (b : Bool) (what : Thing) → cond b (is_attribute_thing what) (is_child_thing what)
    ≡ cond b (is_attribute_kind (kind_of what)) (is_child_kind (kind_of what))
wanted_kind true what = attribute_kind what
wanted_kind false what = child_kind what

pub other_level : (bytes : List ℕ) (lists : Lists) (nest : Forest) → IsNestOf bytes lists nest →
    (w : Walk) (test : Test) (at level : ℕ) (parts : Parts) (b : Bool) →
    record_of parts ≡ record_at at (records nest (first_place bytes)) → level ≡ level_of (record_of parts) → b ≡ level_is w.level level → b ≡ false →
    ◌≡◌ {A = List Node} [] (map node_of (filter (λ e. e.index == at && is_sought w test e) (nodes_of bytes nest)))
other_level bytes lists nest s w test at level parts b r l h f = none_here (is_sought w test) at (nodes_of bytes nest) (λ e c p t.
    let held : length e.holders ≡ level = sym (levels_shown nest (first_place bytes) s.accepted.document.nests e c)
    ∙ ap (λ n. level_of (record_at n (records nest (first_place bytes)))) p ∙ sym (l ∙ ap level_of r) in
    false≢true (sym f ∙ h ∙ ap (level_is w.level) (sym held) ∙ (and_parts (level_is w.level (length e.holders)) _
    (and_parts (wants w e.what (length e.holders)) (passes test w.attributes e) t).0).0))

-- the kind that a type of record says
pick : Kind → Bool → Bool → Bool → Bool → Bool → Bool → Bool
pick kinds.Root a b c d e f = a
pick kinds.Element a b c d e f = b
pick kinds.Attribute a b c d e f = c
pick kinds.Text a b c d e f = d
pick kinds.Comment a b c d e f = e
pick kinds.Instruction a b c d e f = f

picked : (a b c d e f : Bool) (k : Kind) → cond a (Some kinds.Root) (cond b (Some kinds.Element) (cond c (Some kinds.Attribute) (cond d (Some kinds.Text)
    (cond e (Some kinds.Comment) (cond f (Some kinds.Instruction) None))))) ≡ Some k → pick k a b c d e f ≡ true
unfolding pick
picked true b c d e f k h = let i : kinds.Root ≡ k = cc in subst (λ z. pick z true b c d e f ≡ true) i refl
picked false true c d e f k h = let i : kinds.Element ≡ k = cc in subst (λ z. pick z false true c d e f ≡ true) i refl
picked false false true d e f k h = let i : kinds.Attribute ≡ k = cc in subst (λ z. pick z false false true d e f ≡ true) i refl
picked false false false true e f k h = let i : kinds.Text ≡ k = cc in subst (λ z. pick z false false false true e f ≡ true) i refl
picked false false false false true f k h = let i : kinds.Comment ≡ k = cc in subst (λ z. pick z false false false false true f ≡ true) i refl
picked false false false false false true k h = let i : kinds.Instruction ≡ k = cc in subst (λ z. pick z false false false false false true ≡ true) i refl
picked false false false false false false k h = absurd cc

token_of_kind : (n : ℕ) (k : Kind) → kind_of_token n ≡ Some k → pick k (n == 13) (n == 0) (n == 2) (is_text_token n) (n == 6) (n == 7) ≡ true
token_of_kind n k h = picked (n == 13) (n == 0) (n == 2) (is_text_token n) (n == 6) (n == 7) k h

no : (b : Bool) → false ≡ true → b ≡ true
no b h = absurd (false≢true h)

token_passes : (test : Test) (b : Bool) (e : Entry) (w : Thing) (n : ℕ) → e.what ≡ w →
    pick (kind_of w) (n == 13) (n == 0) (n == 2) (is_text_token n) (n == 6) (n == 7) ≡ true → passes test b e ≡ true → may_pass test b n ≡ true
unfolding pick passes
token_passes Test.node b e w n h k p = refl
token_passes Test.text b e (Thing.text xs) n h k p = k
token_passes Test.text b e (Thing.root first f) n h k p = no _ (ap is_text_node (sym h) ∙ p)
token_passes Test.text b e (Thing.element t f) n h k p = no _ (ap is_text_node (sym h) ∙ p)
token_passes Test.text b e (Thing.attribute a) n h k p = no _ (ap is_text_node (sym h) ∙ p)
token_passes Test.text b e (Thing.comment cs) n h k p = no _ (ap is_text_node (sym h) ∙ p)
token_passes Test.text b e (Thing.instruction i) n h k p = no _ (ap is_text_node (sym h) ∙ p)
token_passes Test.comment b e (Thing.comment cs) n h k p = k
token_passes Test.comment b e (Thing.root first f) n h k p = no _ (ap is_comment (sym h) ∙ p)
token_passes Test.comment b e (Thing.element t f) n h k p = no _ (ap is_comment (sym h) ∙ p)
token_passes Test.comment b e (Thing.attribute a) n h k p = no _ (ap is_comment (sym h) ∙ p)
token_passes Test.comment b e (Thing.text xs) n h k p = no _ (ap is_comment (sym h) ∙ p)
token_passes Test.comment b e (Thing.instruction i) n h k p = no _ (ap is_comment (sym h) ∙ p)
token_passes Test.instruction b e (Thing.instruction i) n h k p = k
token_passes Test.instruction b e (Thing.root first f) n h k p = no _ (ap (is_instruction (λ t. true)) (sym h) ∙ p)
token_passes Test.instruction b e (Thing.element t f) n h k p = no _ (ap (is_instruction (λ t. true)) (sym h) ∙ p)
token_passes Test.instruction b e (Thing.attribute a) n h k p = no _ (ap (is_instruction (λ t. true)) (sym h) ∙ p)
token_passes Test.instruction b e (Thing.text xs) n h k p = no _ (ap (is_instruction (λ t. true)) (sym h) ∙ p)
token_passes Test.instruction b e (Thing.comment cs) n h k p = no _ (ap (is_instruction (λ t. true)) (sym h) ∙ p)
token_passes (Test.target cs) b e (Thing.instruction i) n h k p = k
token_passes (Test.target cs) b e (Thing.root first f) n h k p = no _ (ap (is_instruction (λ t. bytes_eq t cs)) (sym h) ∙ p)
token_passes (Test.target cs) b e (Thing.element t f) n h k p = no _ (ap (is_instruction (λ t. bytes_eq t cs)) (sym h) ∙ p)
token_passes (Test.target cs) b e (Thing.attribute a) n h k p = no _ (ap (is_instruction (λ t. bytes_eq t cs)) (sym h) ∙ p)
token_passes (Test.target cs) b e (Thing.text xs) n h k p = no _ (ap (is_instruction (λ t. bytes_eq t cs)) (sym h) ∙ p)
token_passes (Test.target cs) b e (Thing.comment ds) n h k p = no _ (ap (is_instruction (λ t. bytes_eq t cs)) (sym h) ∙ p)
token_passes (Test.name test) true e (Thing.attribute a) n h k p = k
token_passes (Test.name test) false e (Thing.element t f) n h k p = k
token_passes (Test.name test) true e (Thing.root first f) n h k p = no _ (sym (ap (is_principal true) h)
    ∙ (and_parts (is_principal true e.what) (name_passes test (expanded e)) p).0)
token_passes (Test.name test) true e (Thing.element t f) n h k p = no _ (sym (ap (is_principal true) h)
    ∙ (and_parts (is_principal true e.what) (name_passes test (expanded e)) p).0)
token_passes (Test.name test) true e (Thing.text xs) n h k p = no _ (sym (ap (is_principal true) h)
    ∙ (and_parts (is_principal true e.what) (name_passes test (expanded e)) p).0)
token_passes (Test.name test) true e (Thing.comment cs) n h k p = no _ (sym (ap (is_principal true) h)
    ∙ (and_parts (is_principal true e.what) (name_passes test (expanded e)) p).0)
token_passes (Test.name test) true e (Thing.instruction i) n h k p = no _ (sym (ap (is_principal true) h)
    ∙ (and_parts (is_principal true e.what) (name_passes test (expanded e)) p).0)
token_passes (Test.name test) false e (Thing.root first f) n h k p = no _ (sym (ap (is_principal false) h)
    ∙ (and_parts (is_principal false e.what) (name_passes test (expanded e)) p).0)
token_passes (Test.name test) false e (Thing.attribute a) n h k p = no _ (sym (ap (is_principal false) h)
    ∙ (and_parts (is_principal false e.what) (name_passes test (expanded e)) p).0)
token_passes (Test.name test) false e (Thing.text xs) n h k p = no _ (sym (ap (is_principal false) h)
    ∙ (and_parts (is_principal false e.what) (name_passes test (expanded e)) p).0)
token_passes (Test.name test) false e (Thing.comment cs) n h k p = no _ (sym (ap (is_principal false) h)
    ∙ (and_parts (is_principal false e.what) (name_passes test (expanded e)) p).0)
token_passes (Test.name test) false e (Thing.instruction i) n h k p = no _ (sym (ap (is_principal false) h)
    ∙ (and_parts (is_principal false e.what) (name_passes test (expanded e)) p).0)

-- the record that begins a node that passes may begin one
pub may_begin_node : (bytes : List ℕ) (lists : Lists) (nest : Forest) → IsNestOf bytes lists nest → (test : Test) (b : Bool) (at : ℕ) (parts : Parts) →
    record_of parts ≡ record_at at (records nest (first_place bytes)) → (e : Entry) → Contains (nodes_of bytes nest) e → e.index ≡ at →
    passes test b e ≡ true → may_pass test b parts.token ≡ true
may_begin_node bytes lists nest s test b at parts r e c p t =
    let g : FirstRecordShows (records nest (first_place bytes)) e = first_record_of_node nest (first_place bytes) s.accepted.document.nests e c in
    let kind : kind_of_token parts.token ≡ Some (kind_of e.what) =
    ap (λ x. kind_of_token x.token) (r ∙ ap (λ n. record_at n (records nest (first_place bytes))) (sym p)) ∙ g.kind in
    token_passes test b e e.what parts.token refl (token_of_kind parts.token (kind_of e.what) kind) t

pub other_token : (bytes : List ℕ) (lists : Lists) (nest : Forest) → IsNestOf bytes lists nest → (w : Walk) (test : Test) (at : ℕ) (parts : Parts) (b : Bool) →
    record_of parts ≡ record_at at (records nest (first_place bytes)) → b ≡ may_pass test w.attributes parts.token → b ≡ false →
    ◌≡◌ {A = List Node} [] (map node_of (filter (λ e. e.index == at && is_sought w test e) (nodes_of bytes nest)))
other_token bytes lists nest s w test at parts b r h f = none_here (is_sought w test) at (nodes_of bytes nest) (λ e c p t.
    false≢true (sym f ∙ h ∙ may_begin_node bytes lists nest s test w.attributes at parts r e c p
    (and_parts (wants w e.what (length e.holders)) (passes test w.attributes e) t).1))

pub no_node : (bytes : List ℕ) (nest : Forest) (w : Walk) (test : Test) (at : ℕ) → None ≡ option_map node_of (at_index at (nodes_of bytes nest)) →
    ◌≡◌ {A = List Node} [] (map node_of (filter (λ e. e.index == at && is_sought w test e) (nodes_of bytes nest)))
no_node bytes nest w test at h = none_here (is_sought w test) at (nodes_of bytes nest) (λ e c p t. none_at (λ x. true) (nodes_of bytes nest) at h e c refl p)

pub node_here : (bytes : List ℕ) (nest : Forest) (at : ℕ) (node : Node) → Some node ≡ option_map node_of (at_index at (nodes_of bytes nest)) →
    IsNodeAt (λ x. true) (nodes_of bytes nest) at node
node_here bytes nest at node h = wanted_at (λ x. true) (nodes_of bytes nest) at node h (λ x k. refl)

pub other_kind : (bytes : List ℕ) (lists : Lists) (nest : Forest) → IsNestOf bytes lists nest →
    (w : Walk) (test : Test) (at : ℕ) (node : Node) (b : Bool) → Some node ≡ option_map node_of (at_index at (nodes_of bytes nest)) →
    b ≡ cond w.attributes (is_attribute_kind node.kind) (is_child_kind node.kind) → b ≡ false →
    ◌≡◌ {A = List Node} [] (map node_of (filter (λ e. e.index == at && is_sought w test e) (nodes_of bytes nest)))
other_kind bytes lists nest s w test at node b h k f =
    let y = node_here bytes nest at node h in
    none_here (is_sought w test) at (nodes_of bytes nest) (λ e c p t.
    let same : kind_of e.what ≡ node.kind = one_kind nest (first_place bytes) e y.entry c y.there (p ∙ sym y.index) ∙ sym (ap (λ n. n.kind) y.shown) in
    false≢true (sym f ∙ k ∙ ap (λ z. cond w.attributes (is_attribute_kind z) (is_child_kind z)) (sym same) ∙ sym (wanted_kind w.attributes e.what)
    ∙ (and_parts (level_is w.level (length e.holders)) _ (and_parts (wants w e.what (length e.holders)) (passes test w.attributes e) t).0).1))

pub sought_fails : (bytes : List ℕ) (lists : Lists) (nest : Forest) → IsNestOf bytes lists nest →
    (w : Walk) (test : Test) (at : ℕ) (node : Node) (b : Bool) → Some node ≡ option_map node_of (at_index at (nodes_of bytes nest)) →
    ((e : Entry) → Identifies node.kind node.at e (nodes_of bytes nest) → b ≡ passes test w.attributes e) → b ≡ false →
    ◌≡◌ {A = List Node} [] (map node_of (filter (λ e. e.index == at && is_sought w test e) (nodes_of bytes nest)))
sought_fails bytes lists nest s w test at node b h k f =
    let y = node_here bytes nest at node h in
    none_here (is_sought w test) at (nodes_of bytes nest) (λ e c p t.
    let same : kind_of e.what ≡ node.kind = one_kind nest (first_place bytes) e y.entry c y.there (p ∙ sym y.index) ∙ sym (ap (λ n. n.kind) y.shown) in
    let place : e.index ≡ node.at = p ∙ sym y.index ∙ sym (ap (λ n. n.at) y.shown) in
    false≢true (sym f ∙ k e (c, same, place) ∙ (and_parts (wants w e.what (length e.holders)) (passes test w.attributes e) t).1))

pub sought_found : (bytes : List ℕ) (lists : Lists) (nest : Forest) → IsNestOf bytes lists nest →
    (w : Walk) (test : Test) (at level : ℕ) (parts : Parts) (node : Node) (a b c : Bool) →
    record_of parts ≡ record_at at (records nest (first_place bytes)) → level ≡ level_of (record_of parts) → a ≡ level_is w.level level → a ≡ true →
    Some node ≡ option_map node_of (at_index at (nodes_of bytes nest)) → b ≡ cond w.attributes (is_attribute_kind node.kind) (is_child_kind node.kind) →
    b ≡ true →
    ((e : Entry) → Identifies node.kind node.at e (nodes_of bytes nest) → c ≡ passes test w.attributes e) → c ≡ true →
    node ∷ [] ≡ map node_of (filter (λ e. e.index == at && is_sought w test e) (nodes_of bytes nest))
sought_found bytes lists nest s w test at level parts node a b c r l al at' h bk bt k ct =
    let y = node_here bytes nest at node h in
    let e = y.entry in
    let held : length e.holders ≡ level = sym (levels_shown nest (first_place bytes) s.accepted.document.nests e y.there)
    ∙ ap (λ n. level_of (record_at n (records nest (first_place bytes)))) y.index ∙ sym (l ∙ ap level_of r) in
    let kind : kind_of e.what ≡ node.kind = sym (ap (λ n. n.kind) y.shown) in
    let place : e.index ≡ node.at = sym (ap (λ n. n.at) y.shown) in
    let sought : is_sought w test e ≡ true = and_from _ _ (and_from _ _ (ap (level_is w.level) held ∙ sym al ∙ at') (wanted_kind w.attributes e.what
    ∙ ap (λ z. cond w.attributes (is_attribute_kind z) (is_child_kind z)) kind ∙ sym bk ∙ bt)) (sym (k e (y.there, kind, place)) ∙ ct) in
    ap (λ n. n ∷ []) y.shown ∙ sym (ap (map node_of) (one_here (is_sought w test) at (nodes_of bytes nest) (in_order nest
    (first_place bytes) s.accepted.document.nests).rises e y.there y.index sought))

-- Steps.

pub stop_later : (pass : Record → Bool) (n : ℕ) (rs : List Record) → n ≤ stop_from pass n rs
stop_later pass n [] = omega arith
stop_later pass n (r ∷ rs) = by (pass r) (stop_later pass (suc n) rs)
  where
    by : (b : Bool) → suc n ≤ stop_from pass (suc n) rs → n ≤ cond b (stop_from pass (suc n) rs) n
    by true h = omega (arith, h)
    by false h = omega arith

stop_on : (pass : Record → Bool) (at next : ℕ) (rs : List Record) → at < length rs → next ≡ at + 1 → pass (record_at at rs) ≡ true →
    stop_from pass at (drop at rs) ≡ stop_from pass next (drop next rs)
stop_on pass at next rs l e h =
    ap (stop_from pass at) (drop_more rs at document l) ∙ ap (λ b. cond b (stop_from pass (suc at) (drop (at + 1) rs)) at) h
    ∙ ap₂ (λ n m. stop_from pass n (drop m rs)) (omega (arith, e)) (sym e)

stop_here : (pass : Record → Bool) (at : ℕ) (rs : List Record) → at < length rs → pass (record_at at rs) ≡ false → stop_from pass at (drop at rs) ≡ at
stop_here pass at rs l h = ap (stop_from pass at) (drop_more rs at document l) ∙ ap (λ b. cond b (stop_from pass (suc at) (drop (at + 1) rs)) at) h

module _ (w : Walk) (test : Test) (rs : List Record) (es : List Entry) where
  pass : Record → Bool
  pass r = goes_on w.attributes w.floor r

  -- the walk at another record
  abbrev pub walk_at : ℕ → Walk
  walk_at n = record w { at = n }

  pub left_on : (at next : ℕ) → Rises es → at < length rs → next ≡ at + 1 → goes_on w.attributes w.floor (record_at at rs) ≡ true →
      left_of (walk_at at) test rs es ≡ filter (λ e. e.index == at && is_sought w test e) es ++ left_of (walk_at next) test rs es
  left_on at next r l e h =
      let go = goes_on w.attributes w.floor in
      let stop = stop_from go at (drop at rs) in
      let same : stop ≡ stop_from go next (drop next rs) = stop_on go at next rs l e h in
      let beyond : next ≤ stop = omega (arith, same, stop_later go next (drop next rs)) in
      filter_same _ (λ x. (x.index == at && is_sought w test x) || (nat_le next x.index && (nat_lt x.index stop && is_sought w test x))) es
      (λ x c. same_test _ _
      (λ t. let p = and_parts (nat_le at x.index) _ t in
      let q = and_parts (nat_lt x.index stop) (is_sought w test x) p.1 in
      elim (cases_lt at x.index) [
        | inl later ↦ or_right (x.index == at && is_sought w test x) _ (and_from _ _ (le-leb next x.index (omega (arith, e, later))) p.1)
        | inr low ↦ or_left _ _ (and_from _ _ (eq-eqb x.index at (omega (arith, low, leb-true at x.index p.0))) q.1)
      ])
      (λ t. elim (or_cases (x.index == at && is_sought w test x) _ t) [
        | inl u ↦
            let p = and_parts (x.index == at) (is_sought w test x) u in
            let is : x.index ≡ at = eqb-true x.index at p.0 in
            and_from _ _ (le-leb at x.index (omega (arith, is))) (and_from _ _ (lt-ltb x.index stop (omega (arith, is, e, beyond))) p.1)
        | inr u ↦ let p = and_parts (nat_le next x.index) _ u in and_from _ _ (le-leb at x.index (omega (arith, e, leb-true next x.index p.0))) p.1
      ]))
      ∙ split_or (λ x. x.index == at && is_sought w test x) (λ x. nat_le next x.index && (nat_lt x.index stop && is_sought w test x)) next es r
      (λ x c t. omega (arith, e, eqb-true x.index at (and_parts (x.index == at) (is_sought w test x) t).0))
      (λ x c t. leb-true next x.index (and_parts (nat_le next x.index) _ t).0)
      ∙ ap (λ n. filter (λ e. e.index == at && is_sought w test e) es ++ filter (λ x. nat_le next x.index && (nat_lt x.index n && is_sought w test x)) es) same

  pub left_stopped : (at : ℕ) → at < length rs → goes_on w.attributes w.floor (record_at at rs) ≡ false → left_of (walk_at at) test rs es ≡ []
  left_stopped at l h =
      let go = goes_on w.attributes w.floor in
      let stop : stop_from go at (drop at rs) ≡ at = stop_here go at rs l h in
      none_of _ es (λ x c t.
      let p = and_parts (nat_le at x.index) _ t in
      let q = and_parts (nat_lt x.index (stop_from go at (drop at rs))) (is_sought w test x) p.1 in
      omega (arith, leb-true at x.index p.0, ltb-true x.index _ q.0, stop))

  pub left_ended : (at : ℕ) → ((e : Entry) → Contains es e → e.index < length rs) → length rs ≤ at → left_of (walk_at at) test rs es ≡ []
  left_ended at f l = none_of _ es (λ x c t. let p = and_parts (nat_le at x.index) _ t in omega (arith, f x c, leb-true at x.index p.0, l))

-- Steps of the walk of a table.

-- the end of a table's words is that of its records
pub at_end : (bytes : List ℕ) (lists : Lists) → length bytes < 2 ^ 30 → (nest : Forest) → IsNestOf bytes lists nest → (at : ℕ) →
    length lists.records ≤ at → length (records nest (first_place bytes)) ≤ at
at_end bytes lists few nest s at h = omega (arith, h, shown_length lists.records _ (nest_shown bytes lists nest few s))

module _ (bytes : List ℕ) (lists : Lists) (few : length bytes < 2 ^ 30) (nest : Forest) (s : IsNestOf bytes lists nest) (w : Walk) (test : Test) where
  many : length lists.records ≡ length (records nest (first_place bytes))
  many = shown_length lists.records _ (nest_shown bytes lists nest few s)

  known : InOrder (length (records nest (first_place bytes))) (nodes_of bytes nest)
  known = in_order nest (first_place bytes) s.accepted.document.nests

  pub ended : (at end : ℕ) → length lists.records ≤ at → length lists.records ≤ end →
      nodes_left (record w { at = at }) test (records nest (first_place bytes)) (nodes_of bytes nest)
      ≡ nodes_left (record w { at = end }) test (records nest (first_place bytes)) (nodes_of bytes nest)
  ended at end h k =
      ap (map node_of) (left_ended w test _ _ at known.within (omega (arith, h, many)) ∙ sym (left_ended w test _ _ end known.within (omega (arith, k, many))))

  pub nothing_left : (at : ℕ) → length lists.records ≤ at → nodes_left (record w { at = at }) test (records nest (first_place bytes)) (nodes_of bytes nest) ≡ []
  nothing_left at h = ap (map node_of) (left_ended w test _ _ at known.within (omega (arith, h, many)))

  pub stops_at_end : (at : ℕ) → length lists.records ≤ at → stop_of (record w { at = at }) (records nest (first_place bytes)) ≡ at
  stops_at_end at h = ap (stop_from (goes_on w.attributes w.floor) at) (drop_all at _ (omega (arith, h, many)))

  module _ (at : ℕ) (parts : Parts) (p : ArePartsAt lists.records at parts) (b : Bool) (g : b
      ≡ goes_on w.attributes w.floor (record_of parts)) (l : at < length lists.records) where
    goes : goes_on w.attributes w.floor (record_at at (records nest (first_place bytes))) ≡ b
    goes = ap (goes_on w.attributes w.floor) (sym (record_shown bytes lists few at parts p nest s)) ∙ sym g

    pub stopped : (end : ℕ) → length lists.records ≤ end → b ≡ false →
        nodes_left (record w { at = at }) test (records nest (first_place bytes)) (nodes_of bytes nest)
        ≡ nodes_left (record w { at = end }) test (records nest (first_place bytes)) (nodes_of bytes nest)
    stopped end k f = ap (map node_of) (left_stopped w test _ _ at (omega (arith, l, many)) (goes ∙ f)
        ∙ sym (left_ended w test _ _ end known.within (omega (arith, k, many))))

    pub stopped_none : b ≡ false → nodes_left (record w { at = at }) test (records nest (first_place bytes)) (nodes_of bytes nest) ≡ []
    stopped_none f = ap (map node_of) (left_stopped w test _ _ at (omega (arith, l, many)) (goes ∙ f))

    pub stops_here : b ≡ false → stop_of (record w { at = at }) (records nest (first_place bytes)) ≡ at
    stops_here f = stop_here (goes_on w.attributes w.floor) at _ (omega (arith, l, many)) (goes ∙ f)

    pub stops_on : (next : ℕ) → next ≡ at + 1 → b ≡ true → stop_of (record w { at = at }) (records nest (first_place bytes))
        ≡ stop_of (record w { at = next }) (records nest (first_place bytes))
    stops_on next e f = stop_on (goes_on w.attributes w.floor) at next _ (omega (arith, l, many)) e (goes ∙ f)

    pub went_on : (next : ℕ) (found : List Node) → next ≡ at + 1 → b ≡ true →
        found ≡ map node_of (filter (λ e. e.index == at && is_sought w test e) (nodes_of bytes nest)) →
        nodes_left (record w { at = at }) test (records nest (first_place bytes)) (nodes_of bytes nest)
        ≡ found ++ nodes_left (record w { at = next }) test (records nest (first_place bytes)) (nodes_of bytes nest)
    went_on next found e f h =
        ap (map node_of) (left_on w test _ _ at next known.rises (omega (arith, l, many)) e (goes ∙ f)) ∙ map-append node_of _ _
        ∙ ap (λ xs. xs ++ nodes_left (record w { at = next }) test (records nest (first_place bytes)) (nodes_of bytes nest)) (sym h)

-- what was gathered, and what is left

pub all_gathered : (whole held left : List Node) → whole ≡ held ++ left → left ≡ [] → held ≡ whole
all_gathered whole held left e n = sym (e ∙ ap (λ xs. held ++ xs) n ∙ append-nil held)

pub gathered_on : (whole held held' found left left' : List Node) → whole ≡ held ++ left → left ≡ found ++ left' → held' ≡ held ++ found →
    whole ≡ held' ++ left'
gathered_on whole held held' found left left' e f g = e ∙ ap (λ xs. held ++ xs) f ∙ sym (append_assoc held found left') ∙ ap (λ xs. xs ++ left') (sym g)
