-- Items of fronts.
use Rattle.std.proofs.Common.{◌≡◌, ◌≢◌, ℕ, ◌+◌, ◌-◌, ◌<◌, Bool, true, false, List, [], ◌∷◌, ◌++◌, map, length, drop, get_or, refl, sym, ap, ◌∙◌, subst, arith, append_assoc}
use Rattle.std.specs.Prelude.{◌&&◌, ◌==◌, not, nat_le, codes, Option, Some, None, IfSome}
use Rattle.std.specs.Str.{IsUtf8, IsCharBoundary, chars}
use Rattle.std.specs.List.{list_all, prefix_len}
use lib.Utf8.{encodes}
use Rattle.std.proofs.lemmas.Bool.{and_parts, and_from, ne_eqb, eq-eqb, false≢true, not-true, not_from_false}
use Rattle.std.proofs.lemmas.List.{append-nil, length-append, drop_more}
use Rattle.std.proofs.lemmas.Str.{IsUtf8-drop, IsCharBoundary-after_ascii, length-le-encodes}
use Rattle.xml_model.specs.Chars.{begins, size, is_blank, is_char, is_white, is_space, in_ranges, lacks}
use Rattle.xml_model.specs.Items.{Attribute, Tag, Item, leaf, Leaf, start_tag, empty_tag, end_tag, literal, Quote, quote_char, written, spelling, meets, meets_attribute, ends_well, may_begin_at, begins_at, first_place, written_attribute, written_attributes, written_pieces, meets_piece, before_value, is_nil}
use Rattle.xml_chars.specs.Readers.{skip}
use Rattle.xml_chars.proofs.Readers.{begins_append, skip_some}
use Rattle.xml_chars.proofs.HoldLemmas.{size-append}
use Rattle.xml_items.specs.Reading.{read_attribute}
use Rattle.xml_items.specs.Plain.{is_plain_char, is_plain_text}
use Rattle.xml_items.specs.declared.ItemKind.TheVariants as kinds
use Rattle.xml_items.specs.declared.Counted.{Counted}
use Rattle.xml_items.specs.declared.Item.{Item as ItemShown}
use Rattle.xml_items.specs.Shown.{HasTextSpans}
use Rattle.xml_items.specs.Counted.{IsCountedAt}
use Rattle.xml_items.specs.Counting.{with_count}
use Rattle.xml_items.proofs.SpanLemmas.{spelled, item_by, same_item}
use Rattle.xml_items.proofs.PlaceLaws.{item_ends, item_spans, counted_item}
use Rattle.xml_items.proofs.PlainLemmas.{plain_is}
use Rattle.xml_items.proofs.ByteRuns.{ByBytes}
use Rattle.xml_items.proofs.TagLaws.{attribute_reads, attribute_pos}
use Rattle.xml_lanes.specs.Classes.{is_text_byte, is_value_byte, is_single_value_byte}
use Rattle.xml_swift.specs.Fronts.{Front, HasName, HasSpace, HasAttribute, HasAttributes}
use Rattle.xml_swift.proofs.FrontLemmas.{nothing, join, one, run_there, read_front}
use Rattle.xml_swift.proofs.Bytes.{is_common_value, is_single_value, text_classes, value_classes, single_value_classes}

pub item_begins : (bytes : List ℕ) (at end : ℕ) (i : Item) → Front bytes at end (written i) → meets i ≡ true → ends_well i (drop end bytes) ≡ true → may_begin_at i (first_place bytes) at ≡ true → begins_at bytes at i ≡ true
unfolding begins_at spelling size
item_begins bytes at end i f m e s =
    let there : begins (encodes (written i)) (drop at bytes) ≡ true = ap (begins (encodes (written i))) f.there ∙ begins_append (encodes (written i)) (drop end bytes) in
    let well : ends_well i (drop (at + length (encodes (written i))) bytes) ≡ true = ap (λ (k : ℕ). ends_well i (drop k bytes)) (sym f.ends) ∙ e in
    and_from _ _ (and_from _ _ (and_from _ _ m there) well) s

size_0 : size [] ≡ 0
unfolding size
size_0 = refl

moved : (bytes : List ℕ) (at p q : ℕ) (w : List ℕ) → p ≡ q → Front bytes at p w → Front bytes at q w
moved bytes at p q w e f = subst (λ (k : ℕ). Front bytes at k w) e f

-- ---- tags

pub end_there : (bytes : List ℕ) (at close : ℕ) → at + 1 < length bytes → close < length bytes → get_or bytes at 0 ≡ 60 → get_or bytes (at + 1) 0 ≡ 47 → HasName bytes (at + 2) close → get_or bytes close 0 ≡ 62
    → IsCountedAt bytes at (with_count 0 (item_by kinds.EndTag at (close + 1) (at + 2) close close close))
unfolding meets is_blank
end_there bytes at close lt within opens slash n e =
    let i = end_tag n.name [] in
    let mark : Front bytes at (at + 2) (codes "</") = moved bytes at (at + 1 + 1) (at + 2) _ (omega arith) (join bytes at (at + 1) (at + 1 + 1) (60 ∷ []) (47 ∷ []) (one bytes at 60 (omega arith) opens (omega arith)) (one bytes (at + 1) 47 lt slash (omega arith))) in
    let f : Front bytes at (close + 1) (written i) = join bytes at close (close + 1) _ _ (join bytes at close close _ _ (join bytes at (at + 2) close _ _ mark n.front) (nothing bytes close)) (one bytes close 62 within e (omega arith)) in
    record {
      item = i;
      begins = item_begins bytes at (close + 1) i f (and_from _ _ n.fits refl) refl refl;
      shown = same_item kinds.EndTag _ _ _ _ _ _ at (at + length (spelling i)) (at + 2) (at + 2 + size n.name) (at + 2 + size n.name) (at + 2 + size n.name + size [])
          refl (omega (arith, spelled i, f.ends)) refl (omega (arith, n.front.ends)) (omega (arith, n.front.ends)) (omega (arith, n.front.ends, size_0));
      counted = refl;
    }

abbrev tag_by : (bytes : List ℕ) (at name place close count : ℕ) → HasName bytes (at + 1) name → HasAttributes bytes name place count → HasSpace bytes place close → Tag
tag_by bytes at name place close count n a s = record { name = n.name; attributes = a.attributes; space = s.space }

-- a tag up to its > or />
tag_front : (bytes : List ℕ) (at name place close : ℕ) (nm xs sp : List ℕ) → at < length bytes → get_or bytes at 0 ≡ 60 → Front bytes (at + 1) name nm → Front bytes name place xs → Front bytes place close sp → Front bytes at close (codes "<" ++ nm ++ xs ++ sp)
tag_front bytes at name place close nm xs sp lt opens n a s = join bytes at place close _ _ (join bytes at name place _ _ (join bytes at (at + 1) name _ _ (one bytes at 60 lt opens (omega arith)) n) a) s

pub tag_there : (bytes : List ℕ) (at name place close count : ℕ) → at < length bytes → close < length bytes → get_or bytes at 0 ≡ 60 → HasName bytes (at + 1) name → HasAttributes bytes name place count → HasSpace bytes place close → get_or bytes close 0 ≡ 62
    → IsCountedAt bytes at (with_count count (item_by kinds.StartTag at (close + 1) (at + 1) name name close))
unfolding meets
tag_there bytes at name place close count lt within opens n a s e =
    let i = start_tag (tag_by bytes at name place close count n a s) in
    let f : Front bytes at (close + 1) (written i) = join bytes at close (close + 1) _ _ (tag_front bytes at name place close _ _ _ lt opens n.front a.front s.front) (one bytes close 62 within e (omega arith)) in
    record {
      item = i;
      begins = item_begins bytes at (close + 1) i f (and_from _ _ (and_from _ _ n.fits a.meets) s.fits) refl refl;
      shown = same_item kinds.StartTag _ _ _ _ _ _ at (at + length (spelling i)) (at + 1) (at + 1 + size n.name) (at + 1 + size n.name) (at + 1 + size n.name + size (written_attributes a.attributes ++ s.space))
          refl (omega (arith, spelled i, f.ends)) refl (omega (arith, n.front.ends)) (omega (arith, n.front.ends)) (omega (arith, n.front.ends, a.front.ends, s.front.ends, size-append (written_attributes a.attributes) s.space));
      counted = a.counted;
    }

pub empty_there : (bytes : List ℕ) (at name place close count : ℕ) → at < length bytes → close + 1 < length bytes → get_or bytes at 0 ≡ 60 → HasName bytes (at + 1) name → HasAttributes bytes name place count → HasSpace bytes place close → get_or bytes close 0 ≡ 47 → get_or bytes (close + 1) 0 ≡ 62
    → IsCountedAt bytes at (with_count count (item_by kinds.EmptyTag at (close + 2) (at + 1) name name close))
unfolding meets
empty_there bytes at name place close count lt within opens n a s slash e =
    let i = empty_tag (tag_by bytes at name place close count n a s) in
    let mark : Front bytes close (close + 2) (codes "/>") = moved bytes close (close + 1 + 1) (close + 2) _ (omega arith) (join bytes close (close + 1) (close + 1 + 1) (47 ∷ []) (62 ∷ []) (one bytes close 47 (omega arith) slash (omega arith)) (one bytes (close + 1) 62 within e (omega arith))) in
    let f : Front bytes at (close + 2) (written i) = join bytes at close (close + 2) _ _ (tag_front bytes at name place close _ _ _ lt opens n.front a.front s.front) mark in
    record {
      item = i;
      begins = item_begins bytes at (close + 2) i f (and_from _ _ (and_from _ _ n.fits a.meets) s.fits) refl refl;
      shown = same_item kinds.EmptyTag _ _ _ _ _ _ at (at + length (spelling i)) (at + 1) (at + 1 + size n.name) (at + 1 + size n.name) (at + 1 + size n.name + size (written_attributes a.attributes ++ s.space))
          refl (omega (arith, spelled i, f.ends)) refl (omega (arith, n.front.ends)) (omega (arith, n.front.ends)) (omega (arith, n.front.ends, a.front.ends, s.front.ends, size-append (written_attributes a.attributes) s.space));
      counted = a.counted;
    }

-- ---- attributes

pub no_attributes : (bytes : List ℕ) (at : ℕ) → HasAttributes bytes at at 0
no_attributes bytes at = record { attributes = []; meets = refl; counted = refl; front = nothing bytes at }

written_more : (xs : List Attribute) (a : Attribute) → written_attributes (xs ++ a ∷ []) ≡ written_attributes xs ++ written_attribute a
written_more [] a = append-nil (written_attribute a)
written_more (b ∷ xs) a = ap (λ (l : List ℕ). written_attribute b ++ l) (written_more xs a) ∙ sym (append_assoc (written_attribute b) (written_attributes xs) (written_attribute a))

meets_more : (xs : List Attribute) (a : Attribute) → list_all meets_attribute xs ≡ true → meets_attribute a ≡ true → list_all meets_attribute (xs ++ a ∷ []) ≡ true
meets_more [] a h m = and_from _ _ m refl
meets_more (b ∷ xs) a h m = let k = and_parts (meets_attribute b) (list_all meets_attribute xs) h in and_from _ _ k.0 (meets_more xs a k.1 m)

pub more_attributes : (bytes : List ℕ) (at place end count : ℕ) → HasAttributes bytes at place count → HasAttribute bytes place end → HasAttributes bytes at end (count + 1)
more_attributes bytes at place end count s a = record {
  attributes = s.attributes ++ a.attribute ∷ [];
  meets = meets_more s.attributes a.attribute s.meets a.meets;
  counted = omega (arith, s.counted, length-append s.attributes (a.attribute ∷ []));
  front = subst (λ (l : List ℕ). Front bytes at end l) (sym (written_more s.attributes a.attribute)) (join bytes at place end _ _ s.front a.front);
}

-- an attribute that the reader of all items reads
pub attribute_read : (bytes : List ℕ) (at : ℕ) (rest : List ℕ) → IsUtf8 bytes → IsCharBoundary bytes at → IsUtf8 rest → skip read_attribute (chars (drop at bytes)) ≡ Some (chars rest) → HasAttribute bytes at (length bytes - length rest)
attribute_read bytes at rest u b v e =
    let x = skip_some read_attribute (chars (drop at bytes)) (chars rest) e in
    let t = attribute_reads.takes (chars (drop at bytes)) x.0 (chars rest) x.1 in
    record {
      attribute = x.0;
      meets = t.1;
      front = read_front bytes at (written_attribute x.0) rest b.0 (IsUtf8-drop bytes at u b) v t.0;
    }

size_pos : (a : Attribute) → 0 < size (written_attribute a)
unfolding size
size_pos a = omega (arith, attribute_pos a, length-le-encodes (written_attribute a))

pub attribute_some : (bytes : List ℕ) (at end : ℕ) → HasAttribute bytes at end → at < end
attribute_some bytes at end h = omega (arith, h.front.ends, size_pos h.attribute)

-- ---- literals

written_literals : (cs : List ℕ) → written_pieces (map literal cs) ≡ cs
written_literals [] = refl
written_literals (c ∷ cs) = ap (λ (l : List ℕ). c ∷ l) (written_literals cs)

value_literal : (c : ℕ) → is_common_value c ≡ true → meets_piece (λ c. c == 34) (literal c) ≡ true
value_literal c h =
    let q = and_parts _ (not (c == 34)) h in
    let a = and_parts _ (not (c == 38)) q.0 in
    let o = and_parts _ (not (c == 60)) a.0 in
    let l = and_parts (is_plain_char c) (nat_le 32 c) o.0 in
    and_from _ _ (and_from _ _ (and_from _ _ (plain_is c l.0) o.1) a.1) q.1

single_literal : (c : ℕ) → is_single_value c ≡ true → meets_piece (λ c. c == 39) (literal c) ≡ true
single_literal c h =
    let q = and_parts _ (not (c == 39)) h in
    let a = and_parts _ (not (c == 38)) q.0 in
    let o = and_parts _ (not (c == 60)) a.0 in
    let l = and_parts (is_plain_char c) (nat_le 32 c) o.0 in
    and_from _ _ (and_from _ _ (and_from _ _ (plain_is c l.0) o.1) a.1) q.1

literals : (p : ℕ → Bool) (b : ℕ) → ((c : ℕ) → p c ≡ true → meets_piece (λ c. c == b) (literal c) ≡ true) → (cs : List ℕ) → list_all p cs ≡ true → list_all (meets_piece (λ c. c == b)) (map literal cs) ≡ true
literals p b each [] h = refl
literals p b each (c ∷ cs) h = let k = and_parts (p c) (list_all p cs) h in and_from _ _ (each c k.0) (literals p b each cs k.1)

white_of : (sp : List ℕ) → is_blank sp ≡ true → 0 < size sp → is_white sp ≡ true
unfolding is_white is_blank
white_of [] h s = absurd (omega (arith, s, size_0))
white_of (c ∷ cs) h s = h

pub one_blank : (bytes : List ℕ) (at : ℕ) → at < length bytes → get_or bytes at 0 ≡ 32 → HasSpace bytes at (at + 1)
unfolding is_blank is_space in_ranges
one_blank bytes at lt e = record { space = 32 ∷ []; fits = refl; front = one bytes at 32 lt e (omega arith) }

attribute_by : (quote : Quote) (p q : ℕ → Bool) → ByBytes p q → ((c : ℕ) → p c ≡ true → meets_piece (λ c. c == quote_char quote) (literal c) ≡ true) → quote_char quote < 128
    → (bytes : List ℕ) (at first name end : ℕ) → IsUtf8 bytes → at < first → HasSpace bytes at first → HasName bytes first name → get_or bytes name 0 ≡ 61 → get_or bytes (name + 1) 0 ≡ quote_char quote → name + 1 < length bytes → end < length bytes
    → end ≡ name + 2 + prefix_len q (drop (name + 2) bytes) → get_or bytes end 0 ≡ quote_char quote → HasAttribute bytes at (end + 1)
unfolding is_blank
attribute_by quote p q same each low bytes at first name end u some s n equals opens inside within is close =
    let v : ℕ = name + 2 in
    let b : IsCharBoundary bytes v = subst (λ (k : ℕ). IsCharBoundary bytes k) (omega arith) (IsCharBoundary-after_ascii bytes (name + 1) u inside (omega (arith, opens, low))) in
    let run = run_there p q same bytes v end u b is in
    let cs = run.cs in
    let a : Attribute = record { space = s.space; name = n.name; left = []; right = []; quote = quote; value = map literal cs } in
    let before : Front bytes first v (before_value a) = moved bytes first (name + 1 + 1) v _ (omega arith)
    (join bytes first (name + 1) (name + 1 + 1) _ _ (join bytes first (name + 1) (name + 1) _ _ (join bytes first name (name + 1) _ _ (join bytes first name name _ _ n.front (nothing bytes name))
    (one bytes name 61 (omega arith) equals (omega arith))) (nothing bytes (name + 1))) (one bytes (name + 1) (quote_char quote) (omega arith) opens low)) in
    let pieces : Front bytes v end (written_pieces (map literal cs)) = subst (λ (l : List ℕ). Front bytes v end l) (sym (written_literals cs)) run.front in
    let white : is_white s.space ≡ true = white_of s.space s.fits (omega (arith, some, s.front.ends)) in
    record {
      attribute = a;
      meets = and_from _ _ (and_from _ _ (and_from _ _ (and_from _ _ white n.fits) refl) refl) (literals p (quote_char quote) each cs run.all);
      front = join bytes at end (end + 1) _ _ (join bytes at v end _ _ (join bytes at first v _ _ s.front before) pieces) (one bytes end (quote_char quote) within close low);
    }

pub attribute_there : (bytes : List ℕ) (at first name end : ℕ) → IsUtf8 bytes → at < first → HasSpace bytes at first → HasName bytes first name → get_or bytes name 0 ≡ 61 → get_or bytes (name + 1) 0 ≡ 34 → name + 1 < length bytes → end < length bytes
    → end ≡ name + 2 + prefix_len is_value_byte (drop (name + 2) bytes) → get_or bytes end 0 ≡ 34 → HasAttribute bytes at (end + 1)
attribute_there = attribute_by Quote.double is_common_value is_value_byte value_classes value_literal (omega arith)

pub single_there : (bytes : List ℕ) (at first name end : ℕ) → IsUtf8 bytes → at < first → HasSpace bytes at first → HasName bytes first name → get_or bytes name 0 ≡ 61 → get_or bytes (name + 1) 0 ≡ 39 → name + 1 < length bytes → end < length bytes
    → end ≡ name + 2 + prefix_len is_single_value_byte (drop (name + 2) bytes) → get_or bytes end 0 ≡ 39 → HasAttribute bytes at (end + 1)
single_there = attribute_by Quote.single is_single_value is_single_value_byte single_value_classes single_literal (omega arith)

-- ---- texts

pub record Literal (c : ℕ) : Type 0 where
  pub char : is_char c ≡ true
  pub no_open : not (c == 60) ≡ true
  pub no_and : not (c == 38) ≡ true
  pub no_bracket : not (c == 93) ≡ true

literal_of : (c : ℕ) → is_plain_text c ≡ true → Literal c
literal_of c h =
    let q = and_parts _ (not (c == 93)) h in
    let a = and_parts _ (not (c == 38)) q.0 in
    let o = and_parts (is_plain_char c) (not (c == 60)) a.0 in
    record { char = plain_is c o.0; no_open = o.1; no_and = a.1; no_bracket = q.1 }

text_literals : (cs : List ℕ) → list_all is_plain_text cs ≡ true → list_all (meets_piece (λ c. false)) (map literal cs) ≡ true
text_literals [] h = refl
text_literals (c ∷ cs) h =
    let k = and_parts (is_plain_text c) (list_all is_plain_text cs) h in
    let p = literal_of c k.0 in
    and_from _ _ (and_from _ _ (and_from _ _ (and_from _ _ p.char p.no_open) p.no_and) refl) (text_literals cs k.1)

no_end : (cs : List ℕ) → list_all is_plain_text cs ≡ true → lacks (codes "]]>") cs ≡ true
no_end [] h = refl
no_end (c ∷ cs) h =
    let k = and_parts (is_plain_text c) (list_all is_plain_text cs) h in
    let p = literal_of c k.0 in
    let other : (93 == c) ≡ false = ne_eqb 93 c (λ e. false≢true (sym (not-true _ p.no_bracket) ∙ eq-eqb c 93 (sym e))) in
    let none : begins (codes "]]>") (c ∷ cs) ≡ false = ap (λ (b : Bool). b && begins (codes "]>") cs) other in
    and_from _ _ (not_from_false _ none) (no_end cs k.1)

some_written : (cs : List ℕ) → 0 < size cs → not (is_nil (written_pieces (map literal cs))) ≡ true
some_written [] h = absurd (omega (arith, h, size_0))
some_written (c ∷ cs) h = refl

pub text_there : (bytes : List ℕ) (at end : ℕ) → IsUtf8 bytes → IsCharBoundary bytes at → end < length bytes → get_or bytes at 0 ≢ 60 → end ≡ at + prefix_len is_text_byte (drop at bytes) → get_or bytes end 0 ≡ 60
    → IsCountedAt bytes at (with_count 0 (item_by kinds.Text at end at at at end))
unfolding meets
text_there bytes at end u b within other is opens =
    let run = run_there is_plain_text is_text_byte text_classes bytes at end u b is in
    let cs = run.cs in
    let apart : end ≢ at = λ e. other (ap (λ (k : ℕ). get_or bytes k 0) (sym e) ∙ opens) in
    let some : 0 < size cs = omega (arith, apart, run.front.ends) in
    let i = leaf (Leaf.text (map literal cs)) in
    let f : Front bytes at end (written i) = subst (λ (l : List ℕ). Front bytes at end l) (sym (written_literals cs)) run.front in
    let lack : lacks (codes "]]>") (written_pieces (map literal cs)) ≡ true = ap (lacks (codes "]]>")) (written_literals cs) ∙ no_end cs run.all in
    let well : ends_well i (drop end bytes) ≡ true = ap (ends_well i) (drop_more bytes end 0 within) ∙ eq-eqb _ 60 opens in
    record {
      item = i;
      begins = item_begins bytes at end i f (and_from _ _ (and_from _ _ (some_written cs some) (text_literals cs run.all)) lack) well refl;
      shown = same_item kinds.Text _ _ _ _ _ _ at (at + length (spelling i)) at at at (at + size (written_pieces (map literal cs)))
          refl (omega (arith, spelled i, f.ends)) refl refl refl (omega (arith, f.ends));
      counted = refl;
    }

-- ---- the other clauses

pub some_so : {X : Type 0} (P Q : X → Type 0) (o : Option X) → ((x : X) → P x → Q x) → IfSome o P → IfSome o Q
some_so P Q None f h = h
some_so P Q (Some x) f h = f x h

pub ends_there : (bytes : List ℕ) (at : ℕ) (found : Counted) → IsUtf8 bytes → IsCharBoundary bytes at → IsCountedAt bytes at found → IsCharBoundary bytes found.item.span.end
ends_there bytes at found u b a =
    let end : found.item.span.end ≡ at + length (spelling a.item) = ap (λ (x : ItemShown). x.span.end) a.shown in
    subst (λ (n : ℕ). IsCharBoundary bytes n) (sym end) (item_ends bytes at a.item u b a.begins)

pub spans_there : (bytes : List ℕ) (at : ℕ) (found : Counted) → IsUtf8 bytes → IsCharBoundary bytes at → IsCountedAt bytes at found → HasTextSpans bytes found.item
spans_there bytes at found u b a = item_spans bytes at found.item u b (counted_item bytes at found a)
