-- An item that begins at a place: its bytes are there.
use Rattle.std.proofs.Common.{◌≡◌, ℕ, ◌+◌, ◌<◌, ◌≤◌, true, List, [], ◌∷◌, ◌++◌, length, take, drop, refl, sym, ap, ◌∙◌, arith}
use Rattle.std.specs.Prelude.{◌&&◌, not, codes, false}
use Rattle.std.specs.List.{list_all}
use Rattle.std.proofs.lemmas.List.{drop-drop, length-drop, length-append, take_at, append_assoc, drop_at}
use Rattle.std.proofs.lemmas.Bool.{false≢true, and_parts}
use Rattle.std.proofs.lemmas.Str.{length-le-encodes}
use Rattle.xml_model.specs.Chars.{size, begins, lacks}
use Rattle.xml_model.specs.Items.{Leaf, Item, leaf, start_tag, empty_tag, end_tag, written, written_pieces, meets, meets_piece, spelling, begins_at, ends_well, may_begin_at, first_place, is_nil}
use Rattle.xml_chars.proofs.Readers.{begins_split}
use Rattle.xml_items.specs.Shown.{item_shown}
use Rattle.xml_items.specs.declared.Item.{Item as ItemShown}
pub use Rattle.xml_items.proofs.SpanLemmas.{spelled}

pub long : (cs : List ℕ) → length cs ≤ size cs
unfolding size
long cs = length-le-encodes cs

not_nil : (cs : List ℕ) → not (is_nil cs) ≡ true → 0 < length cs
not_nil [] h = absurd (false≢true h)
not_nil (c ∷ cs) h = omega arith

pub written_pos : (i : Item) → meets i ≡ true → 0 < length (written i)
unfolding meets
written_pos (leaf (Leaf.text ps)) h =
    let a = and_parts (not (is_nil (written_pieces ps)) && list_all (meets_piece (λ c. false)) ps) (lacks (codes "]]>") (written_pieces ps)) h in
    not_nil (written_pieces ps) (and_parts (not (is_nil (written_pieces ps))) _ a.0).0
written_pos (leaf (Leaf.cdata cs)) h = omega arith
written_pos (leaf (Leaf.comment cs)) h = omega arith
written_pos (leaf (Leaf.instruction x)) h = omega arith
written_pos (leaf (Leaf.declaration d)) h = omega arith
written_pos (leaf (Leaf.doctype d)) h = omega arith
written_pos (start_tag t) h = omega arith
written_pos (empty_tag t) h = omega arith
written_pos (end_tag n s) h = omega arith

pub record Hold (bytes : List ℕ) (at : ℕ) (i : Item) : Type 0 where
  pub meets : meets i ≡ true
  pub some : 0 < length (spelling i)
  pub whole : drop at bytes ≡ spelling i ++ drop (at + length (spelling i)) bytes
  pub within : at + length (spelling i) ≤ length bytes

pub hold : (bytes : List ℕ) (at : ℕ) (i : Item) → begins_at bytes at i ≡ true → Hold bytes at i
unfolding begins_at
hold bytes at i h =
    let x = and_parts (meets i && begins (spelling i) (drop at bytes) && ends_well i (drop (at + length (spelling i)) bytes)) (may_begin_at i (first_place bytes) at) h in
    let y = and_parts (meets i && begins (spelling i) (drop at bytes)) (ends_well i (drop (at + length (spelling i)) bytes)) x.0 in
    let z = and_parts (meets i) (begins (spelling i) (drop at bytes)) y.0 in
    let some : 0 < length (spelling i) = omega (arith, spelled i, long (written i), written_pos i z.0) in
    let split : drop at bytes ≡ spelling i ++ drop (length (spelling i)) (drop at bytes) = begins_split (spelling i) (drop at bytes) z.1 in
    record {
      meets = z.0;
      some = some;
      whole = split ∙ ap (λ (l : List ℕ). spelling i ++ l) (drop-drop (length (spelling i)) at bytes);
      within = omega (arith, ap (λ (l : List ℕ). length l) split, length-append (spelling i) (drop (length (spelling i)) (drop at bytes)), length-drop at bytes);
    }

-- a part of what is there: from w bytes on, n bytes
pub part_of : (bytes w v rest : List ℕ) (at from n : ℕ) → drop at bytes ≡ (w ++ v) ++ rest → from ≡ at + length w → n ≡ length v → take n (drop from bytes) ≡ v
part_of bytes w v rest at from n whole e l =
    ap (λ (k : ℕ). take n (drop k bytes)) e ∙ ap (λ (x : List ℕ). take n x) (sym (drop-drop (length w) at bytes) ∙ ap (drop (length w)) whole ∙ back) ∙ take_at v rest n (sym l)
  where
    back : drop (length w) ((w ++ v) ++ rest) ≡ v ++ rest
    back = ap (drop (length w)) (append_assoc w v rest) ∙ drop_at w (v ++ rest) (length w) refl

pub end_of : (found : ItemShown) (i : Item) (at : ℕ) → found ≡ item_shown at i → found.span.end ≡ at + length (spelling i)
end_of found i at e = ap (λ (x : ItemShown). x.span.end) e
