-- The node that begins at a record, by what a look-up answers.
use Rattle.std.proofs.Common.{◌≡◌, ℕ, Bool, true, List, refl, ap, sym, ◌∙◌, Option, Some, None, is_some, option_map}
use Rattle.std.specs.List.{Contains}
use Rattle.std.proofs.lemmas.Bool.{false≢true}
use Rattle.std.proofs.lemmas.Option.{none-some}
use Rattle.xml_model.specs.declared.Node.{Node}
use Rattle.xml_model.specs.Items.{first_place}
use Rattle.xml_model.specs.Nest.{Forest}
use Rattle.xml_model.specs.Tree.{Thing, Entry, at_index, kind_of}
use Rattle.xml_model.proofs.Indexes.{index_found, is_there, one_kind}
use Rattle.vtd_words.specs.Found.{NodeAt}
use Rattle.vtd_words.specs.Table.{node_of, nodes_of}

none_there : (o : Option Entry) → None ≡ option_map node_of o → is_some o ≡ true → ⊥
none_there None h k = false≢true k
none_there (Some e) h k = none-some _ h

pub none_at : (want : Thing → Bool) (es : List Entry) (at : ℕ) → None ≡ option_map node_of (at_index at es) → NodeAt want es at None
none_at want es at h = λ x c w p. none_there (at_index at es) h (is_there at es x c p)

record NodeThere (es : List Entry) (at : ℕ) (node : Node) : Type 0 where
  entry : Entry
  contains : Contains es entry
  shown : node ≡ node_of entry
  index : entry.index ≡ at

some_there : (es : List Entry) (at : ℕ) (node : Node) (o : Option Entry) → at_index at es ≡ o → Some node ≡ option_map node_of o → NodeThere es at node
some_there es at node None e h = absurd (none-some _ (sym h))
some_there es at node (Some x) e h = let f = index_found at es x e in record { entry = x; contains = f.0; shown = cc; index = f.1 }

-- a node that was found is wanted, or it is not
pub wanted_at : (want : Thing → Bool) (es : List Entry) (at : ℕ) (node : Node) → Some node ≡ option_map node_of (at_index at es) →
    ((what : Thing) → kind_of what ≡ node.kind → want what ≡ true) → NodeAt want es at (Some node)
wanted_at want es at node h w =
    let n = some_there es at node (at_index at es) refl h in
    record { entry = n.entry; there = n.contains; shown = n.shown; index = n.index; wanted = w n.entry.what (sym (ap (λ k. k.kind) n.shown)) }

pub unwanted_at : (bytes : List ℕ) (nest : Forest) (want : Thing → Bool) (at : ℕ) (node : Node) →
    Some node ≡ option_map node_of (at_index at (nodes_of bytes nest)) →
    ((what : Thing) → kind_of what ≡ node.kind → want what ≡ true → ⊥) → NodeAt want (nodes_of bytes nest) at None
unwanted_at bytes nest want at node h w = λ x c t p.
    let es = nodes_of bytes nest in
    let n = some_there es at node (at_index at es) refl h in
    w x.what (one_kind nest (first_place bytes) x n.entry c n.contains (p ∙ sym n.index) ∙ sym (ap (λ k. k.kind) n.shown)) t
