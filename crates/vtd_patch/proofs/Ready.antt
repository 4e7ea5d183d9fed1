-- A text node of a document with its words: what is known of it where it is set.
use Rattle.std.proofs.Common.{◌≡◌, ℕ, ◌+◌, ◌-◌, ◌<◌, ◌≤◌, ◌^◌, true, false, List, ◌++◌, map, length, take, drop, sym, ap, ap₂}
use Rattle.std.proofs.Common.{subst, ◌∙◌, arith, length-append, Option}
use Rattle.std.specs.Prelude.{IsUtf8}
use Rattle.std.specs.Str.{chars}
use Rattle.std.specs.List.{list_all, flat_map}
use Rattle.std.proofs.lemmas.Str.{encodes-chars}
use Rattle.std.proofs.lemmas.List.{length-take-le, length-drop}
use Rattle.xml_model.specs.declared.Kind.TheVariants as kinds
use Rattle.xml_model.specs.declared.DocFault.TheVariants as faults
use Rattle.xml_model.specs.declared.Node.{Node}
use Rattle.xml_model.specs.Chars.{is_char}
use Rattle.xml_model.specs.Items.{Leaf, first_place}
use Rattle.xml_model.specs.Nest.{Forest}
use Rattle.xml_model.specs.Records.{word}
use Rattle.xml_model.specs.Tree.{Thing, Entry, Identifies}
use Rattle.xml_model.specs.Accepted.{Accepted, IsRefusal}
use Rattle.xml_patches.specs.Patched.{exchanged, text_bytes, new_run}
use Rattle.xml_patches.proofs.TextNode.{text_stand}
use Rattle.vtd_edits.specs.declared.splice.Splice.{Splice}
use Rattle.vtd_edits.specs.declared.splice.Splice.TheVariants.{Replace}
use Rattle.vtd_words.specs.Lists.{Lists}
use Rattle.vtd_words.specs.Table.{IsNestOf, IsNodeOf, ForEachEntry, nodes_of}
use Rattle.vtd_words.proofs.Same.{node_holds}
use Rattle.vtd_location.proofs.NavLaws.{fewer_layers}
use Rattle.vtd_modifier.specs.Escapes.{escaped_in_text}
use Rattle.vtd_modifier.specs.Rows.{one, set_to}
use Rattle.vtd_modifier.specs.Parts.{part_of, parts_of}
use Rattle.vtd_builder.specs.Documents.{IsDoc, words_of}
use Rattle.vtd_builder.specs.Exchanges.{with_range}
use Rattle.vtd_patch.specs.declared.change.Change.{Change}
use Rattle.vtd_patch.specs.Changes.{IsChange, IsIn, text_run, CanExchange}
use Rattle.vtd_patch.proofs.Escaped.{escaped_text}
use Rattle.vtd_patch.proofs.OneSplice.{text_leaves}
use Rattle.vtd_patch.proofs.Setting.{can_set, set_run, set_refused}

-- the entry of a text node in the nest of the document
pub record TextAt (bytes : List ℕ) (lists : Lists) (node : Node) : Type 0 where
  pub nest : Forest
  pub accepted : Accepted 8 bytes nest
  pub recorded : lists ≡ words_of bytes nest
  pub shown : IsNestOf bytes lists nest
  pub entry : Entry
  pub holds : Identifies node.kind node.at entry (nodes_of bytes nest)
  pub leaves : List Leaf
  pub is : entry.what ≡ Thing.text leaves

pub text_at : (bytes : List ℕ) (lists : Lists) (node : Node) → IsDoc bytes lists → IsNodeOf bytes lists node → node.kind ≡ kinds.Text →
    TextAt bytes lists node
text_at bytes lists node d n k =
    let shown : IsNestOf bytes lists d.nest =
    record { accepted = fewer_layers 8 bytes d.nest d.accepted; recorded = ap (λ (l : Lists). l.records) d.recorded } in
    let h = node_holds bytes lists d.few node n d.nest shown in
    let t = text_leaves h.0 (h.1.1 ∙ k) in
    record {
      nest = d.nest;
      accepted = d.accepted;
      recorded = d.recorded;
      shown = shown;
      entry = h.0;
      holds = h.1;
      leaves = t.0;
      is = t.1;
    }

splices_same : (a b c d : ℕ) (p q : List ℕ) → ◌≡◌ {A = Option (List Splice)} (one (Replace a b p)) (one (Replace c d q)) →
    (a ≡ c) × (b ≡ d) × (p ≡ q)
splices_same a b c d p q e =
    let x : a ≡ c = cc in
    let y : b ≡ d = cc in
    let z : p ≡ q = cc in
    (x, y, z)

-- the change of a text node
text_change : (bytes text : List ℕ) (e : Entry) (xs : List Leaf) (c : Change) → e.what ≡ Thing.text xs → IsChange bytes text e c →
    (c.start ≡ e.start) × (c.end ≡ e.stop) × (c.text ≡ flat_map escaped_in_text text)
text_change bytes text e xs c w h =
    let row : set_to bytes text (part_of bytes e) ≡ one (Replace e.start e.stop (flat_map escaped_in_text text)) =
    ap (λ (x : Thing). set_to bytes text (parts_of bytes x e.start e.stop)) w in
    splices_same c.start c.end e.start e.stop c.text (flat_map escaped_in_text text) (sym h ∙ row)

-- a text that is escaped
put_is : (text : List ℕ) → IsUtf8 text → flat_map escaped_in_text text ≡ text_bytes (chars text)
put_is text u = ap (λ (bs : List ℕ). flat_map escaped_in_text bs) (sym (encodes-chars text u)) ∙ escaped_text (chars text)

module _ (bytes : List ℕ) (lists : Lists) (node : Node) (text : List ℕ) (c : Change) (d : IsDoc bytes lists) (n : IsNodeOf bytes lists node)
    (k : node.kind ≡ kinds.Text) (h : ForEachEntry bytes lists node (λ nest e. IsChange bytes text e c)) (within : IsIn bytes c)
    (short : length (with_range c.start c.end c.text bytes) < 2 ^ 30) (u : IsUtf8 text) where
  same_bytes : (t : TextAt bytes lists node) →
      with_range c.start c.end c.text bytes ≡ exchanged bytes t.entry.start t.entry.stop (text_bytes (chars text))
  same_bytes t =
      let x = text_change bytes text t.entry t.leaves c t.is (h t.nest t.shown t.entry t.holds) in
      ap₂ (λ (a b : ℕ). with_range a b c.text bytes) x.0 x.1
      ∙ ap (λ (p : List ℕ). with_range t.entry.start t.entry.stop p bytes) (x.2 ∙ put_is text u)

  -- where it has another character than Chars, the new bytes are refused
  pub refused : list_all is_char (chars text) ≡ false → IsRefusal (with_range c.start c.end c.text bytes) (faults.Syntax c.start)
  refused bad =
      let t = text_at bytes lists node d n k in
      let x = text_change bytes text t.entry t.leaves c t.is (h t.nest t.shown t.entry t.holds) in
      subst (λ (s : ℕ). IsRefusal (with_range c.start c.end c.text bytes) (faults.Syntax s)) (sym x.0)
      (subst (λ (l : List ℕ). IsRefusal l (faults.Syntax t.entry.start)) (sym (same_bytes t))
      (set_refused bytes t.nest t.entry t.leaves text t.accepted t.holds.0 t.is u bad))

  -- and else its bytes and records can be exchanged
  pub ready : (past level : ℕ) (put words : List ℕ) → list_all is_char (chars text) ≡ true →
      ForEachEntry bytes lists node (λ nest e. past ≡ e.past) → ForEachEntry bytes lists node (λ nest e. level ≡ length e.holders) →
      put ≡ c.text → words ≡ map word (text_run level c.start (length c.text)) →
      CanExchange bytes lists c.start c.end put node.at past words
  ready past level put words good p l same w =
      let t = text_at bytes lists node d n k in
      let e = t.entry in
      let cs = chars text in
      let x = text_change bytes text e t.leaves c t.is (h t.nest t.shown e t.holds) in
      let s = text_stand t.nest (first_place bytes) e t.leaves t.holds.0 t.is in
      let put_bytes : put ≡ text_bytes cs = same ∙ x.2 ∙ put_is text u in
      let run : map word (new_run e cs) ≡ words =
      ap (map word) (set_run (length e.holders) e.start cs s.inside)
      ∙ ap₂ (λ (a b : ℕ). map word (text_run a b (length (text_bytes cs)))) (sym (l t.nest t.shown e t.holds)) (sym x.0)
      ∙ ap (λ (bs : List ℕ). map word (text_run level c.start (length bs))) (sym (x.2 ∙ put_is text u)) ∙ sym w in
      let can = can_set bytes lists t.nest e t.leaves cs t.accepted t.recorded t.holds.0 t.is d.few
      (subst (λ (bs : List ℕ). length bs < 2 ^ 30) (same_bytes t) short) (omega (arith, within.order, x.0, x.1))
      (omega (arith, within.within, x.1)) good in
      let one1 = subst (λ (ws : List ℕ). CanExchange bytes lists e.start e.stop (text_bytes cs) e.index e.past ws) run can in
      let two = subst (λ (m : ℕ). CanExchange bytes lists e.start e.stop (text_bytes cs) e.index m words) (sym (p t.nest t.shown e t.holds)) one1 in
      let three = subst (λ (m : ℕ). CanExchange bytes lists e.start e.stop (text_bytes cs) m past words) t.holds.2 two in
      let four = subst (λ (bs : List ℕ). CanExchange bytes lists e.start e.stop bs node.at past words) (sym put_bytes) three in
      let five1 = subst (λ (m : ℕ). CanExchange bytes lists e.start m put node.at past words) (sym x.1) four in
      subst (λ (m : ℕ). CanExchange bytes lists m c.end put node.at past words) (sym x.0) five1

-- how many bytes there are with a range exchanged
pub range_length : (bytes put : List ℕ) (start end : ℕ) → start ≤ end → end ≤ length bytes →
    length bytes - (end - start) + length put ≡ length (with_range start end put bytes)
range_length bytes put start end o w =
    let a = length-append (take start bytes) (put ++ drop end bytes) in
    let b = length-append put (drop end bytes) in
    let l = length-take-le start bytes (omega (arith, o, w)) in
    let m = length-drop end bytes in
    omega (arith, a, b, l, m, o, w)
