-- What the searches over records and bytes find.
use Rattle.std.proofs.Common.{◌≡◌, ℕ, suc, ◌+◌, ◌-◌, ◌<◌, Bool, true, false, not, List, refl, ap, sym, ◌∙◌, subst, arith}
use Rattle.std.specs.Str.{IsUtf8}
use Rattle.std.proofs.lemmas.Bool.{false≢true}
use Rattle.xml_model.specs.Items.{Tag, Item, end_tag, begins_at}
use Rattle.xml_model.specs.Records.{Record}
use Rattle.xml_model.specs.Tree.{one_if}
use Rattle.xml_model.specs.Scan.{record_at}
use Rattle.xml_items.specs.declared.Item.{Item as ItemShown}
use Rattle.xml_items.specs.declared.ItemKind.{ItemKind}
use Rattle.xml_items.specs.declared.ItemKind.TheVariants as kinds
use Rattle.vtd_words.specs.declared.packing.Parts.{Parts}
use Rattle.vtd_words.specs.Packed.{record_of}
use Rattle.xml_items.specs.Reading.{tag_item}
use Rattle.xml_items.specs.Shown.{item_shown, tag_kind, IsItemAt}
use Rattle.xml_items.proofs.OneItem.{one_item}
use Rattle.vtd_cursor.specs.Endings.{ends_tag, is_tag_item, EndTagAt, EndTags, HasTagAt, IsTagOf, IsLastPiece, in_leaf, in_tag, IsEnding}

-- an item found at a place is the one that begins there
pub item_is : (bytes : List ℕ) (at : ℕ) (found : ItemShown) (i : Item) → IsUtf8 bytes → HasTagAt bytes at → IsItemAt bytes at found → begins_at bytes at i ≡ true → found ≡ item_shown at i
item_is bytes at found i u h f b = f.shown ∙ ap (item_shown at) (one_item bytes at f.item i f.begins b)

tag_tags : (closed : Bool) (t : Tag) → is_tag_item (tag_item closed t) ≡ true
tag_tags true t = refl
tag_tags false t = refl

pub tag_there : (bytes : List ℕ) (at : ℕ) (closed : Bool) (t : Tag) → begins_at bytes at (tag_item closed t) ≡ true → HasTagAt bytes at
tag_there bytes at closed t b = record { item = tag_item closed t; tags = tag_tags closed t; begins = b }

pub end_tag_there : (bytes : List ℕ) (at : ℕ) → EndTagAt bytes at → HasTagAt bytes at
end_tag_there bytes at tag = record { item = end_tag tag.name tag.space; tags = refl; begins = tag.begins }

-- the last of the records so far
pub ending_last : (bytes : List ℕ) (rs : List Record) (level stop last : ℕ) (h : IsEnding bytes rs level stop (suc last)) → IsLastPiece bytes rs level last h.place h.opened
ending_last bytes rs level stop last h = subst (λ n. IsLastPiece bytes rs level n h.place h.opened) (omega (arith, h.count)) h.piece

-- of a tag that a record is of, the place
pub tag_found : (bytes : List ℕ) (rs : List Record) (n place first : ℕ) (closed : Bool) (t : Tag) (parts : Parts) → (is : IsTagOf bytes rs n place closed t) → first ≡ is.first → record_of parts ≡ record_at first rs → parts.offset ≡ place + 1
tag_found bytes rs n place first closed t parts is f p = ap (λ r. r.offset) p ∙ ap (λ k. (record_at k rs).offset) f ∙ is.offset

pub found_there : (bytes : List ℕ) (rs : List Record) (n place offset : ℕ) (closed : Bool) (t : Tag) → IsTagOf bytes rs n place closed t → offset ≡ place + 1 → HasTagAt bytes (offset - 1)
found_there bytes rs n place offset closed t is e =
    let before : place ≡ offset - 1 = omega (arith, e) in subst (HasTagAt bytes) before (tag_there bytes place closed t is.begins)

-- The last piece, where it is a tag.

abbrev pub FindsTag : List ℕ → List Record → ℕ → ItemShown → Type 0
FindsTag bytes rs last found = (place : ℕ) (closed : Bool) (t : Tag) → IsTagOf bytes rs last place closed t → found ≡ item_shown place (tag_item closed t)

pub tag_kind_of : (closed : Bool) (place : ℕ) (t : Tag) → (item_shown place (tag_item closed t)).kind ≡ tag_kind closed
tag_kind_of true place t = refl
tag_kind_of false place t = refl

pub tag_piece_end : (bytes : List ℕ) (rs : List Record) (level last place opened : ℕ) (parts : Parts) (found : ItemShown) → record_of parts ≡ record_at last rs → ends_tag parts.token ≡ true → FindsTag bytes rs last found →
    IsLastPiece bytes rs level last place opened → found.span.end ≡ place
tag_piece_end bytes rs level last place opened parts found p e f (in_leaf t q d) = absurd (false≢true (sym t ∙ ap (λ r. ends_tag r.token) (sym p) ∙ e))
tag_piece_end bytes rs level last place opened parts found p e f (in_tag at closed t k is q d) = ap (λ x. x.span.end) (f at closed t is) ∙ sym q

pub tag_piece_opened : (bytes : List ℕ) (rs : List Record) (level last place opened : ℕ) (parts : Parts) (found : ItemShown) (b : Bool) → record_of parts ≡ record_at last rs → ends_tag parts.token ≡ true → FindsTag bytes rs last found →
    ((c : Bool) → found.kind ≡ tag_kind c → c ≡ b) → IsLastPiece bytes rs level last place opened → parts.depth + one_if (not b) ≡ level + opened
tag_piece_opened bytes rs level last place opened parts found b p e f k (in_leaf t q d) = absurd (false≢true (sym t ∙ ap (λ r. ends_tag r.token) (sym p) ∙ e))
tag_piece_opened bytes rs level last place opened parts found b p e f k (in_tag at closed t h is q d) =
    let same : closed ≡ b = k closed (ap (λ x. x.kind) (f at closed t is) ∙ tag_kind_of closed at t) in
    ap (λ c. parts.depth + one_if (not c)) (sym same) ∙ ap (λ r. r.depth + one_if (not closed)) p ∙ d

pub empty_kind : (kind : ItemKind) (c : Bool) → kind ≡ kinds.EmptyTag → kind ≡ tag_kind c → c ≡ true
empty_kind kind true e h = refl
empty_kind kind false e h = absurd cc

pub start_kind : (kind : ItemKind) (c : Bool) → (kind ≡ kinds.EmptyTag → ⊥) → kind ≡ tag_kind c → c ≡ false
start_kind kind true e h = absurd (e h)
start_kind kind false e h = refl

-- End tags, one after another.

pub tags_left : (bytes : List ℕ) (count i at to : ℕ) → i < count → EndTags bytes (count - i) at to → EndTags bytes (suc (count - (i + 1))) at to
tags_left bytes count i at to h t = let e : count - i ≡ suc (count - (i + 1)) = omega (arith, h) in subst (λ n. EndTags bytes n at to) e t

pub tag_passed : (bytes : List ℕ) (n at to : ℕ) (found : ItemShown) → ((i : Item) → begins_at bytes at i ≡ true → found ≡ item_shown at i) → EndTags bytes (suc n) at to → EndTags bytes n found.span.end to
tag_passed bytes n at to found f t = subst (λ k. EndTags bytes n k to) (sym (ap (λ x. x.span.end) (f (end_tag t.0.name t.0.space) t.0.begins))) t.1

-- the end tags of an ending, by what was found of its last piece
pub end_tags_at : (bytes : List ℕ) (opened place stop level found end : ℕ) → found ≡ level + opened → end ≡ place → EndTags bytes opened place stop → EndTags bytes (found - level) end stop
end_tags_at bytes opened place stop level found end f e t =
    let count : opened ≡ found - level = omega (arith, f) in subst (λ p. EndTags bytes (found - level) p stop) (sym e) (subst (λ n. EndTags bytes n place stop) count t)
