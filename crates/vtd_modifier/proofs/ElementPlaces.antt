-- The places of an element's tags are within the document.
use Rattle.std.proofs.Common.{◌≡◌, ℕ, suc, ◌+◌, ◌<◌, ◌≤◌, ◌^◌, Bool, true, false, List, [], ◌∷◌, ◌++◌, length, refl, ap, sym, ◌∙◌, subst, arith}
use Rattle.std.specs.Prelude.{codes}
use Rattle.std.specs.List.{AllByRecursion as Each}
use Rattle.xml_model.specs.Chars.{size}
use Rattle.xml_model.specs.Items.{Tag, start_tag, empty_tag, end_tag, begins_at, written_tag, written_start, written_empty, written_end, written_attributes}
use Rattle.xml_model.specs.Nest.{Forest, done}
use Rattle.xml_model.specs.Records.{past_forest, past_start, past_empty, past_element}
use Rattle.xml_chars.proofs.HoldLemmas.{size-append}
use Rattle.vtd_cursor.specs.Tags.{tags_by}
use Rattle.vtd_cursor.proofs.Closing.{ElementCloses, by_itself, by_end_tag}
use Rattle.vtd_modifier.specs.Rows.{AreTags}
use Rattle.vtd_modifier.proofs.BytesThere.{there_fits, item_there}

size_1 : size (codes "<") ≡ 1
unfolding size Rattle.std.proofs.Math.Utf8.encode
size_1 = refl

size_1' : size (codes ">") ≡ 1
unfolding size Rattle.std.proofs.Math.Utf8.encode
size_1' = refl

size_2 : size (codes "/>") ≡ 2
unfolding size Rattle.std.proofs.Math.Utf8.encode
size_2 = refl

size_2' : size (codes "</") ≡ 2
unfolding size Rattle.std.proofs.Math.Utf8.encode
size_2' = refl

tag_size : (t : Tag) → 1 + size t.name ≤ size (written_tag t)
tag_size t =
    omega (
      arith,
      size-append (codes "<" ++ t.name ++ written_attributes t.attributes) t.space,
      size-append (codes "<" ++ t.name) (written_attributes t.attributes),
      size-append (codes "<") t.name,
      size_1,
    )

start_size : (t : Tag) → size (written_start t) ≡ size (written_tag t) + 1
start_size t = omega (arith, size-append (written_tag t) (codes ">"), size_1')

empty_size : (t : Tag) → size (written_empty t) ≡ size (written_tag t) + 2
empty_size t = omega (arith, size-append (written_tag t) (codes "/>"), size_2)

end_size : (name space : List ℕ) → 2 ≤ size (written_end name space)
end_size name space =
    omega (arith, size-append (codes "</" ++ name ++ space) (codes ">"), size-append (codes "</" ++ name) space, size-append (codes "</") name, size_2')

-- the places of both forms of an element's tags
record Room (len : ℕ) (t : Tag) (inside : Forest) (start stop : ℕ) : Type 0 where
  name : start + 1 + size t.name ≤ len
  head : 2 ≤ past_start start t
  tail : past_forest (past_start start t) inside ≤ len
  low : 2 ≤ stop
  high : stop ≤ len

room : (bytes : List ℕ) (t : Tag) (inside : Forest) (start stop : ℕ) → ElementCloses bytes t inside start stop → Room (length bytes) t inside start stop
room bytes t inside start stop (by_itself i b s) =
    let fits : start + size (written_empty t) ≤ length bytes =
    there_fits bytes start (written_empty t) (omega (arith, empty_size t)) (item_there bytes start (empty_tag t) b) in
    let tail : past_forest (past_start start t) inside ≡ past_start start t = ap (past_forest (past_start start t)) i in
    record {
      name = omega (arith, fits, empty_size t, tag_size t);
      head = omega (arith, start_size t, tag_size t);
      tail = omega (arith, tail, fits, start_size t, empty_size t);
      low = omega (arith, s, empty_size t);
      high = omega (arith, s, fits);
    }
room bytes t inside start stop (by_end_tag space b k m s) =
    let tail = past_forest (past_start start t) inside in
    let first : start + size (written_start t) ≤ length bytes =
    there_fits bytes start (written_start t) (omega (arith, start_size t)) (item_there bytes start (start_tag t) b) in
    let last : tail + size (written_end t.name space) ≤ length bytes =
    there_fits bytes tail (written_end t.name space) (omega (arith, end_size t.name space)) (item_there bytes tail (end_tag t.name space) m) in
    record {
      name = omega (arith, first, start_size t, tag_size t);
      head = omega (arith, start_size t, tag_size t);
      tail = omega (arith, last);
      low = omega (arith, s, end_size t.name space);
      high = omega (arith, s, last);
    }

tags_in : (closed : Bool) (len : ℕ) (t : Tag) (inside : Forest) (start stop : ℕ) → len < 2 ^ 30 → Room len t inside start stop →
    AreTags len (tags_by closed t inside start stop)
tags_in true len t inside start stop few r =
    record { name = omega arith; within = r.name; tag = r.low; end = omega (arith, few, r.name, r.high) }
tags_in false len t inside start stop few r =
    record { name = omega arith; within = r.name; tag = r.head; end = omega (arith, few, r.name, r.tail) }

pub are_tags : (bytes : List ℕ) (t : Tag) (inside : Forest) (start stop : ℕ) → length bytes < 2 ^ 30 → ElementCloses bytes t inside start stop →
    AreTags (length bytes) (tags_by (begins_at bytes start (empty_tag t)) t inside start stop)
are_tags bytes t inside start stop few c = tags_in _ (length bytes) t inside start stop few (room bytes t inside start stop c)
