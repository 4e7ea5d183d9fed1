use Rattle.std.proofs.Common.{◌≡◌, ℕ, List, Some, None, subst, sym, ap, ◌∙◌, length, drop}
use Rattle.std.specs.Str.{IsCharBoundary, chars}
use Rattle.memchr.specs.Find.{FindsNeedle}
use Rattle.xpath_values.proofs.TextLemmas.{needle_cut, no_needle_cut}
use Rattle.xpath_values.proofs.texts.cut_at.Goals as goal

found : (s p t q : List ℕ) (k : ℕ) → t ≡ s → q ≡ p → FindsNeedle t q 0 (Some k) → FindsNeedle s p 0 (Some k)
found s p t q k e f h = subst (λ (l : List ℕ). FindsNeedle l p 0 (Some k)) e (subst (λ (l : List ℕ). FindsNeedle t l 0 (Some k)) f h)

missed : (s p t q : List ℕ) → t ≡ s → q ≡ p → FindsNeedle t q 0 None → FindsNeedle s p 0 None
missed s p t q e f h = subst (λ (l : List ℕ). FindsNeedle l p 0 None) e (subst (λ (l : List ℕ). FindsNeedle t l 0 None) f h)

pub split_at-requires : goal.split_at-requires
split_at-requires c =
    (needle_cut c.args.text.now c.args.piece.now c.in-Some.place c.utf8.text c.utf8.piece (found c.args.text.now c.args.piece.now _ _ c.in-Some.place
    c.as_bytes.ensures.value c.as_bytes-2.ensures.value c.in-Some.ensures)).place

pub split_at-requires-in-Some : goal.split_at-requires-in-Some
split_at-requires-in-Some c =
    subst (λ (l : List ℕ). IsCharBoundary l (length c.args.piece.now)) (sym c.split_at.ensures.back)
    (needle_cut c.args.text.now c.args.piece.now c.in-Some.place c.utf8.text c.utf8.piece (found c.args.text.now c.args.piece.now _ _ c.in-Some.place
    c.as_bytes.ensures.value c.as_bytes-2.ensures.value c.in-Some.ensures)).end

pub returns-in-None : goal.returns-in-None
returns-in-None c =
    no_needle_cut c.args.text.now c.args.piece.now c.utf8.text c.utf8.piece (missed c.args.text.now c.args.piece.now _ _
    c.as_bytes.ensures.value c.as_bytes-2.ensures.value c.in-None.ensures)

pub returns-in-Some : goal.returns-in-Some
returns-in-Some c =
    (needle_cut c.args.text.now c.args.piece.now c.in-Some.place c.utf8.text c.utf8.piece (found c.args.text.now c.args.piece.now _ _ c.in-Some.place
    c.as_bytes.ensures.value c.as_bytes-2.ensures.value c.in-Some.ensures)).same
    ∙ ap (λ (l : List ℕ). Some (chars l, chars (drop (length c.args.piece.now) (drop c.in-Some.place c.args.text.now)))) (sym c.split_at.ensures.front)
    ∙ ap (λ (l : List ℕ). Some (chars c.split_at.result.0.now, chars (drop (length c.args.piece.now) l))) (sym c.split_at.ensures.back)
    ∙ ap (λ (l : List ℕ). Some (chars c.split_at.result.0.now, chars l)) (sym c.split_at-in-Some.ensures.back)
