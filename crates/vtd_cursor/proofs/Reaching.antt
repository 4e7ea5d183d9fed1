-- End tags behind the last piece, some after others.
use Rattle.std.proofs.Common.{◌≡◌, ℕ, zero, suc, ◌+◌, ◌-◌, ◌≤◌, List, refl, sym, ◌∙◌, subst, arith, length}
use Rattle.xml_model.specs.Items.{end_tag, spelling}
use Rattle.xml_model.specs.Records.{Record}
use Rattle.vtd_cursor.specs.Endings.{EndTags, IsLastPiece, in_leaf, in_tag, IsEnding}
use Rattle.vtd_cursor.specs.Passes.{IsReached}
use Rattle.vtd_cursor.proofs.PieceLemmas.{ending_last}

-- of end tags that follow one another, some and then the others
record Parted (bytes : List ℕ) (a b from to : ℕ) : Type 0 where
  mid : ℕ
  first : EndTags bytes a from mid
  second : EndTags bytes b mid to

parted : (bytes : List ℕ) (a b n from to : ℕ) → n ≡ a + b → EndTags bytes n from to → Parted bytes a b from to
parted bytes zero b n from to e t = record { mid = from; first = refl; second = let same : n ≡ b = omega (arith, e) in subst (λ k. EndTags bytes k from to) same t }
parted bytes (suc a) b n from to e t =
    let same : n ≡ suc (a + b) = omega (arith, e) in
    let u : EndTags bytes (suc (a + b)) from to = subst (λ k. EndTags bytes k from to) same t in
    let p : Parted bytes a b (from + length (spelling (end_tag u.0.name u.0.space))) to = parted bytes a b (a + b) (from + length (spelling (end_tag u.0.name u.0.space))) to refl u.1 in
    record { mid = p.mid; first = (u.0, p.first); second = p.second }

-- the same piece, counted from a deeper level
deeper : (bytes : List ℕ) (rs : List Record) (level last place opened l o : ℕ) → level + opened ≡ l + o → IsLastPiece bytes rs level last place opened → IsLastPiece bytes rs l last place o
deeper bytes rs level last place opened l o e (in_leaf t p d) = in_leaf t p (d ∙ e)
deeper bytes rs level last place opened l o e (in_tag at closed g t is p d) = in_tag at closed g t is p (d ∙ e)

-- the end tags that are left from a level that was reached to a lower one
pub tags_on : (bytes : List ℕ) (rs : List Record) (last opened place level stop : ℕ) → IsReached bytes rs last opened place → level ≤ opened → IsEnding bytes rs level stop (suc last) → EndTags bytes (opened - level) place stop
tags_on bytes rs last opened place level stop r l h =
    let piece = ending_last bytes rs level stop last h in
    let most : opened ≤ level + h.opened = r.most level h.place h.opened piece in
    let a = level + h.opened - opened in
    let count : h.opened ≡ a + (opened - level) = omega (arith, most, l) in
    let p = parted bytes a (opened - level) h.opened h.place stop count h.tags in
    let ending : IsEnding bytes rs opened p.mid (suc last) = record {
      last = last;
      count = refl;
      place = h.place;
      opened = a;
      piece = deeper bytes rs level last h.place h.opened opened a (omega (arith, most)) piece;
      tags = p.first;
    } in
    subst (λ at. EndTags bytes (opened - level) at stop) (sym (r.ends p.mid ending)) p.second

-- after these end tags the lower level is reached
pub reached_on : (bytes : List ℕ) (rs : List Record) (last opened place level result : ℕ) → IsReached bytes rs last opened place → level ≤ opened →
    ((to : ℕ) → EndTags bytes (opened - level) place to → result ≡ to) → IsReached bytes rs last level result
reached_on bytes rs last opened place level result r l f =
    record { ends = λ stop h. f stop (tags_on bytes rs last opened place level stop r l h); most = λ m p o h. omega (arith, l, r.most m p o h) }

none_left : (bytes : List ℕ) (n from to : ℕ) → n ≡ 0 → EndTags bytes n from to → from ≡ to
none_left bytes n from to e t = subst (λ k. EndTags bytes k from to) e t

-- behind the last piece itself
pub reached_first : (bytes : List ℕ) (rs : List Record) (last opened place : ℕ) →
    ((l p o : ℕ) → IsLastPiece bytes rs l last p o → place ≡ p) → ((l p o : ℕ) → IsLastPiece bytes rs l last p o → opened ≡ l + o) → IsReached bytes rs last opened place
reached_first bytes rs last opened place e f = record {
  ends = λ stop h.
      let piece = ending_last bytes rs opened stop last h in
      e opened h.place h.opened piece ∙ none_left bytes h.opened h.place stop (omega (arith, f opened h.place h.opened piece)) h.tags;
  most = λ m p o h. omega (arith, f m p o h);
}
