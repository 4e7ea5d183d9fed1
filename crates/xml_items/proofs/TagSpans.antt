-- The spans of tags.
use Rattle.std.proofs.Common.{◌≡◌, ℕ, ◌+◌, ◌-◌, Bool, true, false, List, ◌++◌, length, take, Option, Some, None, refl, sym, ap, ◌∙◌, arith, append_assoc}
use Rattle.std.specs.List.{prefix_len}
use Rattle.std.specs.Prelude.{codes, option_map}
use Rattle.std.specs.Str.{IsUtf8, chars}
use Rattle.xml_model.specs.Chars.{size, is_space}
use Rattle.xml_model.specs.Items.{Attribute, Tag, Item, end_tag, written, spelling, written_attributes}
use Rattle.xml_chars.specs.Readers.{word, after_run}
use Rattle.xml_chars.specs.Reading.{read_name, read_space, ascii_head}
use Rattle.xml_chars.proofs.Readers.{map_some, word_reads}
use Rattle.xml_chars.proofs.NameLaws.{name_reads, space_reads}
use Rattle.xml_items.specs.declared.ItemKind.TheVariants as kinds
use Rattle.xml_items.specs.Shown.{item_shown, tag_kind}
use Rattle.xml_items.specs.Reading.{closes_empty, read_close, read_close_by, read_attributes, read_tag, read_end_tag, tag_item}
use Rattle.xml_items.specs.AttributeList.{item_attributes}
use Rattle.xml_items.specs.Counting.{counted, with_count}
use Rattle.xml_items.proofs.CountLemmas.{counts, counted_some}
use Rattle.xml_items.proofs.TagLaws.{attributes_reads, tag_reads, end_reads}
use Rattle.xml_items.proofs.SpanLemmas.{size_of, spelled, size_1, size_slash, item_by, same_item, shown_some}

pub close_empty : (text rest : List ℕ) → word (codes "/>") text ≡ Some (tt, rest) → read_close text ≡ Some (true, rest)
unfolding read_close closes_empty ascii_head
close_empty text rest e = rw ((word_reads (codes "/>")).takes text tt rest e).0 refl

pub close_start : (text rest : List ℕ) → word (codes ">") text ≡ Some (tt, rest) → read_close text ≡ Some (false, rest)
unfolding read_close closes_empty ascii_head
close_start text rest e = rw ((word_reads (codes ">")).takes text tt rest e).0 refl

pub no_close : (text : List ℕ) → word (codes "/>") text ≡ None → word (codes ">") text ≡ None → read_close text ≡ None
unfolding read_close
no_close text e s = go (closes_empty text)
  where
    go : (b : Bool) → read_close_by b text ≡ None
    go true = rw e refl
    go false = rw s refl

tag_read : (s a b c d e name sp : List ℕ) (xs : List Attribute) (close : Bool) → word (codes "<") s ≡ Some (tt, a) → read_name a ≡ Some (name, b) → read_attributes b ≡ Some (xs, c) → read_space c ≡ Some (sp, d) → read_close d ≡ Some (close, e)
    → read_tag s ≡ Some (tag_item close record { name = name; attributes = xs; space = sp }, e)
unfolding read_tag
tag_read s a b c d e name sp xs close e1 e2 e3 e4 e5 = rw (e1, e2, e3, e4, e5) refl

tag_shown : (at end a b c d : ℕ) (close : Bool) (t : Tag) → end ≡ at + length (spelling (tag_item close t)) → a ≡ at + 1 → b ≡ at + 1 + size t.name → c ≡ at + 1 + size t.name → d ≡ at + 1 + size t.name + size (written_attributes t.attributes ++ t.space)
    → item_by (tag_kind close) at end a b c d ≡ item_shown at (tag_item close t)
tag_shown at end a b c d true t p q r s u = same_item (tag_kind true) at end a b c d _ _ _ _ _ _ refl p q r s u
tag_shown at end a b c d false t p q r s u = same_item (tag_kind false) at end a b c d _ _ _ _ _ _ refl p q r s u

pub tag_counted : (s : List ℕ) (n : ℕ) (d : List ℕ) → option_map counted (read_attributes s) ≡ Some (n, d) → (xs : List Attribute) × (c : List ℕ) × (read_attributes s ≡ Some (xs, c)) × (length xs ≡ n) × (read_space c ≡ Some (take (prefix_len is_space c) c, d))
unfolding read_space
tag_counted s n d e =
    let m = map_some counted (read_attributes s) (n, d) e in
    let rest : after_run is_space m.0.1 ≡ d = ap (λ (p : ℕ × List ℕ). p.1) m.2 in
    (m.0.0, m.0.1, m.1, ap (λ (p : ℕ × List ℕ). p.0) m.2, ap (λ (l : List ℕ). Some (take (prefix_len is_space m.0.1) m.0.1, l)) rest)

length_tag : (close : Bool) (t : Tag) → length t.attributes ≡ length (item_attributes (tag_item close t))
length_tag true t = refl
length_tag false t = refl

pub tag_at : (at n : ℕ) (s a b d e name : List ℕ) (close : Bool) → IsUtf8 s → IsUtf8 a → IsUtf8 b → IsUtf8 d → IsUtf8 e
    → word (codes "<") (chars s) ≡ Some (tt, chars a) → read_name (chars a) ≡ Some (name, chars b) → option_map counted (read_attributes (chars b)) ≡ Some (n, chars d) → read_close (chars d) ≡ Some (close, chars e)
    → Some (with_count n (item_by (tag_kind close) (at + (length s - length s)) (at + (length s - length e)) (at + (length s - length a)) (at + (length s - length b)) (at + (length s - length b)) (at + (length s - length d)))) ≡ counts at (read_tag (chars s))
tag_at at n s a b d e name close us ua ub ud ue e1 e2 e3 e5 =
    let x = tag_counted (chars b) n (chars d) e3 in
    let xs = x.0 in
    let c = x.1 in
    let sp : List ℕ = take (prefix_len is_space c) c in
    let t : Tag = record { name = name; attributes = xs; space = sp } in
    let read = tag_read (chars s) (chars a) (chars b) c (chars d) (chars e) name sp xs close e1 e2 x.2 x.4 e5 in
    let whole : chars b ≡ (written_attributes xs ++ sp) ++ chars d = (attributes_reads.takes (chars b) xs c x.2).0 ∙ ap (λ (l : List ℕ). written_attributes xs ++ l) (space_reads.takes c sp (chars d) x.4).0 ∙ sym (append_assoc (written_attributes xs) sp (chars d)) in
    let z1 : length s ≡ size (codes "<") + length a = size_of s a (codes "<") us ua ((word_reads (codes "<")).takes (chars s) tt (chars a) e1).0 in
    let z2 : length a ≡ size name + length b = size_of a b name ua ub (name_reads.takes (chars a) name (chars b) e2).0 in
    let z3 : length b ≡ size (written_attributes xs ++ sp) + length d = size_of b d (written_attributes xs ++ sp) ub ud whole in
    let z5 : length s ≡ size (written (tag_item close t)) + length e = size_of s e (written (tag_item close t)) us ue (tag_reads.takes (chars s) (tag_item close t) (chars e) read).0 in
    counted_some at n (read_tag (chars s)) (tag_item close t) (chars e) _ read
    (shift at (length s) (length e) (length a) (length b) (length d) close t
    (omega (arith, spelled (tag_item close t))) (omega (arith, size_1)) (omega (arith, size_1)) (omega (arith, size_1)))
    (sym x.3 ∙ length_tag close t)
  where
    shift : (at s e a b d : ℕ) (close : Bool) (t : Tag) → at + (s - e) ≡ at + length (spelling (tag_item close t)) → at + (s - a) ≡ at + 1 → at + (s - b) ≡ at + 1 + size t.name → at + (s - d) ≡ at + 1 + size t.name + size (written_attributes t.attributes ++ t.space)
        → item_by (tag_kind close) (at + (s - s)) (at + (s - e)) (at + (s - a)) (at + (s - b)) (at + (s - b)) (at + (s - d)) ≡ item_shown at (tag_item close t)
    shift at s e a b d close t p q r u =
        let zero_off : at + (s - s) ≡ at = omega arith in
        rw zero_off (tag_shown at (at + (s - e)) (at + (s - a)) (at + (s - b)) (at + (s - b)) (at + (s - d)) close t p q r r u)

end_read : (s a b c d name sp : List ℕ) → word (codes "</") s ≡ Some (tt, a) → read_name a ≡ Some (name, b) → read_space b ≡ Some (sp, c) → word (codes ">") c ≡ Some (tt, d) → read_end_tag s ≡ Some (end_tag name sp, d)
unfolding read_end_tag
end_read s a b c d name sp e1 e2 e3 e4 = rw (e1, e2, e3, e4) refl

pub end_at : (at : ℕ) (s a b c d name sp : List ℕ) → IsUtf8 s → IsUtf8 a → IsUtf8 b → IsUtf8 c → IsUtf8 d
    → word (codes "</") (chars s) ≡ Some (tt, chars a) → read_name (chars a) ≡ Some (name, chars b) → read_space (chars b) ≡ Some (sp, chars c) → word (codes ">") (chars c) ≡ Some (tt, chars d)
    → Some (item_by kinds.EndTag (at + (length s - length s)) (at + (length s - length d)) (at + (length s - length a)) (at + (length s - length b)) (at + (length s - length b)) (at + (length s - length c))) ≡ option_map (λ (p : Item × List ℕ). item_shown at p.0) (read_end_tag (chars s))
end_at at s a b c d name sp us ua ub uc ud e1 e2 e3 e4 =
    let read = end_read (chars s) (chars a) (chars b) (chars c) (chars d) name sp e1 e2 e3 e4 in
    let z1 : length s ≡ size (codes "</") + length a = size_of s a (codes "</") us ua ((word_reads (codes "</")).takes (chars s) tt (chars a) e1).0 in
    let z2 : length a ≡ size name + length b = size_of a b name ua ub (name_reads.takes (chars a) name (chars b) e2).0 in
    let z3 : length b ≡ size sp + length c = size_of b c sp ub uc (space_reads.takes (chars b) sp (chars c) e3).0 in
    let z5 : length s ≡ size (written (end_tag name sp)) + length d = size_of s d (written (end_tag name sp)) us ud (end_reads.takes (chars s) (end_tag name sp) (chars d) read).0 in
    shown_some at (read_end_tag (chars s)) (end_tag name sp) (chars d) _ read
    (same_item kinds.EndTag _ _ _ _ _ _ at (at + length (spelling (end_tag name sp))) (at + 2) (at + 2 + size name) (at + 2 + size name) (at + 2 + size name + size sp)
    (omega arith) (omega (arith, spelled (end_tag name sp))) (omega (arith, size_slash)) (omega (arith, size_slash)) (omega (arith, size_slash)) (omega (arith, size_slash)))

pub no_attributes : (text : List ℕ) → option_map counted (read_attributes text) ≡ None → read_attributes text ≡ None
no_attributes text e = go (read_attributes text) e
  where
    go : (o : Option (List Attribute × List ℕ)) → option_map counted o ≡ None → o ≡ None
    go None e = refl
    go (Some p) e = absurd (cc)

pub no_end : (s a b d name : List ℕ) (at n : ℕ) → word (codes "<") s ≡ Some (tt, a) → read_name a ≡ Some (name, b) → option_map counted (read_attributes b) ≡ Some (n, d) → read_close d ≡ None → None ≡ counts at (read_tag s)
unfolding read_tag
no_end s a b d name at n e1 e2 e3 e5 = let x = tag_counted b n d e3 in let e : read_attributes b ≡ Some (x.0, x.1) = x.2 in let f = x.4 in rw (e1, e2, e, f, e5) refl
