-- The last piece of an element, and the end tags after it.
use Rattle.std.proofs.Common.{◌≡◌, ℕ, zero, suc, ◌+◌, ◌-◌, ◌<◌, Bool, true, false, cond, not, List, [], ◌∷◌, ◌++◌, length, refl, ap, sym, ◌∙◌, subst, arith, append-nil, length-append, add-zero, add-one}
use Rattle.std.specs.Prelude.{codes}
use Rattle.std.specs.List.{AllByRecursion as Each}
use Rattle.std.proofs.lemmas.Bool.{false≢true}
use Rattle.xml_model.specs.Chars.{size}
use Rattle.xml_model.specs.Items.{Attribute, Tag, Instruction, Leaf, end_tag, begins_at, spelling, written_attribute, written_pieces, written_leaf, written_end, before_value, start_tag}
use Rattle.xml_model.specs.Nest.{Forest, done, single, empty, element, is_content_leaf}
use Rattle.xml_model.specs.Records.{Record, cut, full_cuts, named, plain, declares, attributes_records, attributes_place, tag_records, leaf_records, forest_records, past_leaf, past_empty, past_start, past_forest, past_element}
use Rattle.xml_model.specs.Tree.{one_if}
use Rattle.xml_model.specs.Scan.{record_at}
use Rattle.xml_model.proofs.Inside.{each_record, in_place}
use Rattle.xml_model.proofs.Cuts.{last_cut, length_cuts}
use Rattle.xml_model.proofs.Fits.{first_part, second_part}
use Rattle.xml_chars.proofs.HoldLemmas.{size-append}
use Rattle.xml_items.specs.Reading.{tag_item}
use Rattle.vtd_cursor.specs.Endings.{record_end, ends_tag, EndTagAt, EndTags, IsNearestTag, IsLastPiece, in_leaf, in_tag, IsEnding}
use Rattle.vtd_cursor.proofs.Placed.{Placed}
use Rattle.vtd_cursor.proofs.Closing.{ElementCloses, by_itself, by_end_tag}

-- The last record of a tag.

abbrev EndsTag : ℕ → Record → Type 0
EndsTag d r = (ends_tag r.token ≡ true) × (r.depth ≡ d)

attributes_end : (others : List Attribute) (d at : ℕ) (r : Record) → EndsTag d r → EndsTag d (record_at (length (attributes_records d at others)) (r ∷ attributes_records d at others))
attributes_end [] d at r h = h
attributes_end (a ∷ others) d at r h = attributes_end others d (at + size (written_attribute a)) (plain 4 d (written_pieces a.value) (at + size a.space + size (before_value a))) (refl, refl)

no_name : (b : Bool) → ◌≡◌ {A = ℕ} (cond b 3 2) 0 → ⊥
no_name true h = omega (arith, h)
no_name false h = omega (arith, h)

no_tags : (others : List Attribute) (d at : ℕ) → Each (λ r. r.token ≡ 0 → ⊥) (attributes_records d at others)
no_tags [] d at = tt
no_tags (a ∷ others) d at = (no_name (declares a.name), ((λ (h : ◌≡◌ {A = ℕ} 4 0). omega (arith, h)), no_tags others d (at + size (written_attribute a))))

-- the records of a tag are its own and those of its attributes, and say where the tag is
tag_piece : (bytes : List ℕ) (whole prefix rest : List Record) (closed : Bool) (t : Tag) (l at level opened : ℕ) → whole ≡ prefix ++ tag_records l at t ++ rest → begins_at bytes at (tag_item closed t) ≡ true →
    l + one_if (not closed) ≡ level + opened → IsLastPiece bytes whole level (length prefix + length (attributes_records l (attributes_place at t) t.attributes)) (at + length (spelling (tag_item closed t))) opened
tag_piece bytes whole prefix rest closed t l at level opened e b d =
    let own = named 0 l t.name (at + 1) in
    let others = attributes_records l (attributes_place at t) t.attributes in
    let n = length prefix + length others in
    let last : record_at n whole ≡ record_at (length others) (own ∷ others) = in_place whole prefix (own ∷ others) rest (length others) e (omega arith) in
    let ends : EndsTag l (record_at (length others) (own ∷ others)) = attributes_end t.attributes l (attributes_place at t) own (refl, refl) in
    let first : record_at (length prefix) whole ≡ own = ap (λ k. record_at k whole) (sym (add-zero (length prefix))) ∙ in_place whole prefix (own ∷ others) rest 0 e (omega arith) in
    let near : IsNearestTag whole n (length prefix) = record {
      within = omega arith;
      tag = ap (λ r. r.token) first;
      none = λ k low high z.
          let j : ℕ = k - suc (length prefix) in
          let is : k ≡ length prefix + suc j = omega (arith, low) in
          let within : j < length others = omega (arith, high, low) in
          let there : record_at k whole ≡ record_at j others = ap (λ i. record_at i whole) is ∙ in_place whole prefix (own ∷ others) rest (suc j) e (omega (arith, within)) in
          each_record (λ r. r.token ≡ 0 → ⊥) others j (no_tags t.attributes l (attributes_place at t)) within (ap (λ r. r.token) (sym there) ∙ z);
    } in
    in_tag at closed t (ap (λ r. ends_tag r.token) last ∙ ends.0) (record { first = length prefix; nearest = near; offset = ap (λ r. r.offset) first; begins = b }) refl (ap (λ r. r.depth + one_if (not closed)) last ∙ ap (λ n. n + one_if (not closed)) ends.1 ∙ d)

tag_ending : (bytes : List ℕ) (whole prefix rest : List Record) (closed : Bool) (t : Tag) (l at level : ℕ) → whole ≡ prefix ++ tag_records l at t ++ rest → begins_at bytes at (tag_item closed t) ≡ true →
    l + one_if (not closed) ≡ level → IsEnding bytes whole level (at + length (spelling (tag_item closed t))) (length prefix + length (tag_records l at t))
tag_ending bytes whole prefix rest closed t l at level e b d = record {
  last = length prefix + length (attributes_records l (attributes_place at t) t.attributes);
  count = omega arith;
  place = at + length (spelling (tag_item closed t));
  opened = 0;
  piece = tag_piece bytes whole prefix rest closed t l at level 0 e b (d ∙ sym (add-zero level));
  tags = refl;
}

-- The last record of a leaf.

leaf_ending : (bytes : List ℕ) (whole prefix mine rest : List Record) (n l stop : ℕ) → whole ≡ prefix ++ mine ++ rest → length mine ≡ suc n → ends_tag (record_at n mine).token ≡ false → stop ≡ record_end (record_at n mine) →
    (record_at n mine).depth + 1 ≡ l → IsEnding bytes whole l stop (length prefix + length mine)
leaf_ending bytes whole prefix mine rest n l stop e m t s d =
    let last : record_at (length prefix + n) whole ≡ record_at n mine = in_place whole prefix mine rest n e (omega (arith, m)) in
    record {
      last = length prefix + n;
      count = omega (arith, m);
      place = stop;
      opened = 0;
      piece = in_leaf (ap (λ r. ends_tag r.token) last ∙ t) (s ∙ ap record_end (sym last)) (ap (λ r. r.depth + 1) last ∙ d ∙ sym (add-zero l));
      tags = refl;
    }

size_2 : size (codes "<?") ≡ 2
unfolding size Rattle.std.proofs.Math.Utf8.encode
size_2 = refl

size_2' : size (codes "?>") ≡ 2
unfolding size Rattle.std.proofs.Math.Utf8.encode
size_2' = refl

size_3 : size (codes "]]>") ≡ 3
unfolding size Rattle.std.proofs.Math.Utf8.encode
size_3 = refl

size_3' : size (codes "-->") ≡ 3
unfolding size Rattle.std.proofs.Math.Utf8.encode
size_3' = refl

size_4 : size (codes "<!--") ≡ 4
unfolding size Rattle.std.proofs.Math.Utf8.encode
size_4 = refl

size_9 : size (codes "<![CDATA[") ≡ 9
unfolding size Rattle.std.proofs.Math.Utf8.encode
size_9 = refl

pub cdata_size : (cs : List ℕ) → size (written_leaf (Leaf.cdata cs)) ≡ 9 + size cs + 3
cdata_size cs = omega (arith, size-append (codes "<![CDATA[" ++ cs) (codes "]]>"), size-append (codes "<![CDATA[") cs, size_9, size_3)

pub comment_size : (cs : List ℕ) → size (written_leaf (Leaf.comment cs)) ≡ 4 + size cs + 3
comment_size cs = omega (arith, size-append (codes "<!--" ++ cs) (codes "-->"), size-append (codes "<!--") cs, size_4, size_3')

pub instruction_size : (i : Instruction) → size (written_leaf (Leaf.instruction i)) ≡ 2 + size i.target + size i.space + size i.content + 2
instruction_size i =
    omega (arith, size-append (codes "<?" ++ i.target ++ i.space ++ i.content) (codes "?>"), size-append (codes "<?" ++ i.target ++ i.space) i.content, size-append (codes "<?" ++ i.target) i.space, size-append (codes "<?") i.target, size_2, size_2')

content_ending : (x : Leaf) (bytes : List ℕ) (whole prefix rest : List Record) (d at : ℕ) → whole ≡ prefix ++ leaf_records (suc d) at x ++ rest → is_content_leaf x ≡ true →
    IsEnding bytes whole (suc d) (past_leaf at x) (length prefix + length (leaf_records (suc d) at x))
content_ending (Leaf.text ps) bytes whole prefix rest d at e h =
    let n = size (written_pieces ps) in
    let l = last_cut 5 d at n in
    let stop : record_end (cut 5 d l.len l.offset) ≡ past_leaf at (Leaf.text ps) = omega (arith, l.ends) in
    leaf_ending bytes whole prefix (leaf_records (suc d) at (Leaf.text ps)) rest (full_cuts n) (suc d) (past_leaf at (Leaf.text ps)) e (length_cuts 5 d at n) (ap (λ (r : Record). ends_tag r.token) l.is)
    (sym (ap record_end l.is ∙ stop)) (ap (λ (r : Record). r.depth + 1) l.is ∙ add-one d)
content_ending (Leaf.cdata cs) bytes whole prefix rest d at e h =
    let n = size cs in
    let l = last_cut 11 d (at + 9) n in
    let stop : record_end (cut 11 d l.len l.offset) ≡ past_leaf at (Leaf.cdata cs) = omega (arith, l.ends, cdata_size cs) in
    leaf_ending bytes whole prefix (leaf_records (suc d) at (Leaf.cdata cs)) rest (full_cuts n) (suc d) (past_leaf at (Leaf.cdata cs)) e (length_cuts 11 d (at + 9) n) (ap (λ (r : Record). ends_tag r.token) l.is)
    (sym (ap record_end l.is ∙ stop)) (ap (λ (r : Record). r.depth + 1) l.is ∙ add-one d)
content_ending (Leaf.comment cs) bytes whole prefix rest d at e h = leaf_ending bytes whole prefix _ rest 0 (suc d) _ e refl refl (omega (arith, comment_size cs)) (add-one d)
content_ending (Leaf.instruction i) bytes whole prefix rest d at e h = leaf_ending bytes whole prefix _ rest 1 (suc d) _ e refl refl (omega (arith, instruction_size i)) (add-one d)
content_ending (Leaf.declaration x) bytes whole prefix rest d at e h = absurd (false≢true h)
content_ending (Leaf.doctype x) bytes whole prefix rest d at e h = absurd (false≢true h)

-- End tags.

end_tags_more : (n : ℕ) (bytes : List ℕ) (from to : ℕ) (tag : EndTagAt bytes to) → EndTags bytes n from to → EndTags bytes (suc n) from (to + length (spelling (end_tag tag.name tag.space)))
end_tags_more zero bytes from to tag h = subst (λ k. EndTags bytes 1 k (to + length (spelling (end_tag tag.name tag.space)))) (sym h) (tag, refl)
end_tags_more (suc n) bytes from to tag h = (h.0, end_tags_more n bytes _ to tag h.1)

-- one level further out, one element more is open
further_out : (bytes : List ℕ) (rs : List Record) (level last place opened : ℕ) → IsLastPiece bytes rs (suc level) last place opened → IsLastPiece bytes rs level last place (suc opened)
further_out bytes rs level last place opened (in_leaf t p d) = in_leaf t p (omega (arith, d))
further_out bytes rs level last place opened (in_tag at closed t e n p d) = in_tag at closed t e n p (omega (arith, d))

closed_ending : (bytes : List ℕ) (rs : List Record) (level stop c : ℕ) (tag : EndTagAt bytes stop) → IsEnding bytes rs (suc level) stop c → IsEnding bytes rs level (stop + length (spelling (end_tag tag.name tag.space))) c
closed_ending bytes rs level stop c tag h = record {
  last = h.last;
  count = h.count;
  place = h.place;
  opened = suc h.opened;
  piece = further_out bytes rs level h.last h.place h.opened h.piece;
  tags = end_tags_more h.opened bytes h.place stop tag h.tags;
}

ending_at : (bytes : List ℕ) (rs : List Record) (level stop stop' c c' : ℕ) → stop ≡ stop' → c ≡ c' → IsEnding bytes rs level stop c → IsEnding bytes rs level stop' c'
ending_at bytes rs level stop stop' c c' e k h = subst (λ n. IsEnding bytes rs level stop' n) k (subst (λ n. IsEnding bytes rs level n c) e h)

joined_length : (prefix a b : List Record) → length (prefix ++ a) + length b ≡ length prefix + length (a ++ b)
joined_length prefix a b = omega (arith, length-append prefix a, length-append a b)

pub start_spelled : (t : Tag) (at : ℕ) → at + length (spelling (tag_item false t)) ≡ past_start at t
unfolding spelling size
start_spelled t at = refl

pub empty_spelled : (t : Tag) (at : ℕ) → at + length (spelling (tag_item true t)) ≡ past_empty at t
unfolding spelling size
empty_spelled t at = refl

end_spelled : (name space : List ℕ) (at : ℕ) → at + length (spelling (end_tag name space)) ≡ at + size (written_end name space)
unfolding spelling size
end_spelled name space at = refl

-- a tag, with its records after others
tag_after : (bytes : List ℕ) (whole prefix rest : List Record) (closed : Bool) (t : Tag) (l at level stop : ℕ) → whole ≡ prefix ++ tag_records l at t ++ rest → begins_at bytes at (tag_item closed t) ≡ true →
    l + one_if (not closed) ≡ level → at + length (spelling (tag_item closed t)) ≡ stop → IsEnding bytes whole level stop (length (prefix ++ tag_records l at t))
tag_after bytes whole prefix rest closed t l at level stop e b d s = ending_at bytes whole level _ stop _ _ s (sym (length-append prefix (tag_records l at t))) (tag_ending bytes whole prefix rest closed t l at level e b d)

-- an element, where what is in it is after its start tag
element_closed : (t : Tag) (inside : Forest) (space : List ℕ) (bytes : List ℕ) (whole prefix : List Record) (l at : ℕ) → begins_at bytes (past_forest (past_start at t) inside) (end_tag t.name space) ≡ true →
    IsEnding bytes whole (suc l) (past_forest (past_start at t) inside) (length (prefix ++ tag_records l at t) + length (forest_records (suc l) (past_start at t) inside)) →
    IsEnding bytes whole l (past_element at t inside space) (length prefix + length (tag_records l at t ++ forest_records (suc l) (past_start at t) inside))
element_closed t inside space bytes whole prefix l at b h =
    ending_at bytes whole l _ _ _ _ (end_spelled t.name space (past_forest (past_start at t) inside)) (joined_length prefix (tag_records l at t) (forest_records (suc l) (past_start at t) inside))
    (closed_ending bytes whole l (past_forest (past_start at t) inside) _ (record { name = t.name; space = space; begins = b }) h)

-- after the last piece of what is in an element there are end tags alone
pub forest_ending : (f : Forest) (bytes : List ℕ) (whole prefix rest : List Record) (d at : ℕ) → whole ≡ prefix ++ forest_records (suc d) at f ++ rest → Placed is_content_leaf bytes at f → IsEnding bytes whole (suc d) at (length prefix) →
    IsEnding bytes whole (suc d) (past_forest at f) (length prefix + length (forest_records (suc d) at f))
forest_ending done bytes whole prefix rest d at e p h = ending_at bytes whole (suc d) at at _ _ refl (sym (add-zero (length prefix))) h
forest_ending (single x f) bytes whole prefix rest d at e p h =
    let mine = leaf_records (suc d) at x in
    let more = forest_records (suc d) (past_leaf at x) f in
    let here = content_ending x bytes whole prefix (more ++ rest) d at (first_part whole prefix mine more rest e) p.0 in
    ending_at bytes whole (suc d) _ _ _ _ refl (joined_length prefix mine more)
    (forest_ending f bytes whole (prefix ++ mine) rest d (past_leaf at x) (second_part whole prefix mine more rest e) p.1 (ending_at bytes whole (suc d) _ _ _ _ refl (sym (length-append prefix mine)) here))
forest_ending (empty t f) bytes whole prefix rest d at e p h =
    let mine = tag_records (suc d) at t in
    let more = forest_records (suc d) (past_empty at t) f in
    let here = tag_after bytes whole prefix (more ++ rest) true t (suc d) at (suc d) (past_empty at t) (first_part whole prefix mine more rest e) p.0 (add-zero (suc d)) (empty_spelled t at) in
    ending_at bytes whole (suc d) _ _ _ _ refl (joined_length prefix mine more) (forest_ending f bytes whole (prefix ++ mine) rest d (past_empty at t) (second_part whole prefix mine more rest e) p.1 here)
forest_ending (element t inside space f) bytes whole prefix rest d at e p h =
    let l = suc d in
    let stop = past_element at t inside space in
    let tag = tag_records l at t in
    let within = forest_records (suc l) (past_start at t) inside in
    let mine = tag ++ within in
    let more = forest_records l stop f in
    let e' : whole ≡ prefix ++ mine ++ (more ++ rest) = first_part whole prefix mine more rest e in
    let start = tag_after bytes whole prefix (within ++ (more ++ rest)) false t l at (suc l) (past_start at t) (first_part whole prefix tag within (more ++ rest) e') p.0 (add-one l) (start_spelled t at) in
    let inner = forest_ending inside bytes whole (prefix ++ tag) (more ++ rest) l (past_start at t) (second_part whole prefix tag within (more ++ rest) e') p.1 start in
    let here = element_closed t inside space bytes whole prefix l at p.2 inner in
    ending_at bytes whole l _ _ _ _ refl (joined_length prefix mine more)
    (forest_ending f bytes whole (prefix ++ mine) rest d stop (second_part whole prefix mine more rest e) p.3 (ending_at bytes whole l _ _ _ _ refl (sym (length-append prefix mine)) here))

-- after the last piece of what is between the tags of an element, with the start tag counted to it
pub inside_ending : (t : Tag) (inside : Forest) (bytes : List ℕ) (whole prefix rest : List Record) (l start : ℕ) → whole ≡ prefix ++ (tag_records l start t ++ forest_records (suc l) (past_start start t) inside) ++ rest →
    begins_at bytes start (start_tag t) ≡ true → Placed is_content_leaf bytes (past_start start t) inside →
    IsEnding bytes whole (suc l) (past_forest (past_start start t) inside) (length (prefix ++ tag_records l start t) + length (forest_records (suc l) (past_start start t) inside))
inside_ending t inside bytes whole prefix rest l start e b p =
    let tag = tag_records l start t in
    let within = forest_records (suc l) (past_start start t) inside in
    let first = tag_after bytes whole prefix (within ++ rest) false t l start (suc l) (past_start start t) (first_part whole prefix tag within rest e) b (add-one l) (start_spelled t start) in
    forest_ending inside bytes whole (prefix ++ tag) rest l (past_start start t) (second_part whole prefix tag within rest e) p first

-- and so after the last piece of an element
pub element_ending : (t : Tag) (inside : Forest) (bytes : List ℕ) (whole prefix rest : List Record) (l start stop : ℕ) → whole ≡ prefix ++ (tag_records l start t ++ forest_records (suc l) (past_start start t) inside) ++ rest →
    ElementCloses bytes t inside start stop → IsEnding bytes whole l stop (length prefix + length (tag_records l start t ++ forest_records (suc l) (past_start start t) inside))
element_ending t inside bytes whole prefix rest l start stop e (by_itself i b s) =
    let tag = tag_records l start t in
    let none : forest_records (suc l) (past_start start t) inside ≡ [] = ap (forest_records (suc l) (past_start start t)) i in
    let mine : tag ++ forest_records (suc l) (past_start start t) inside ≡ tag = ap (λ xs. tag ++ xs) none ∙ append-nil tag in
    ending_at bytes whole l _ stop _ _ (empty_spelled t start ∙ sym s) (ap (λ xs. length prefix + length xs) (sym mine))
    (tag_ending bytes whole prefix rest true t l start l (e ∙ ap (λ xs. prefix ++ xs ++ rest) mine) b (add-zero l))
element_ending t inside bytes whole prefix rest l start stop e (by_end_tag space b p k s) =
    ending_at bytes whole l _ stop _ _ (sym s) refl (element_closed t inside space bytes whole prefix l start k (inside_ending t inside bytes whole prefix rest l start e b p))
