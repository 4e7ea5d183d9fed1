-- A change is undone and redone exactly, and bytes tell their words.
use Rattle.std.proofs.Common.{◌≡◌, ◌+◌, ◌-◌, List, [], ◌∷◌, ◌++◌, length, drop, sym, ◌∙◌, ap, arith}
use Rattle.std.proofs.lemmas.List.{drop-append-le, length-append}
use Rattle.circular_buffer.specs.Buffer.{keep_last}
use Rattle.xml_model.specs.Nest.{Forest}
use Rattle.xml_acceptance.proofs.OneAnswer.{one_document}
use Rattle.vtd_builder.specs.Documents.{words_of}
use Rattle.vtd_history.specs.Chains.{done_of, undone_of}
use Rattle.vtd_history.specs.Laws.{UndoesChange, RedoesChange, OneOfBytes}

-- lists that end in one item each
pub same_end : {X : Type 0} (xs ys : List X) (x y : X) → xs ++ x ∷ [] ≡ ys ++ y ∷ [] → x ≡ y
same_end [] [] x y e = cc
same_end [] (b ∷ []) x y e = absurd (cc)
same_end [] (b ∷ c ∷ ys) x y e = absurd (cc)
same_end (a ∷ []) [] x y e = absurd (cc)
same_end (a ∷ c ∷ xs) [] x y e = absurd (cc)
same_end (a ∷ xs) (b ∷ ys) x y e = same_end xs ys x y (cc)

-- the last item of a list is among its last 32
keep_end : {X : Type 0} (xs : List X) (x : X) → keep_last 32 (xs ++ x ∷ []) ≡ drop (length (xs ++ x ∷ []) - 32) xs ++ x ∷ []
keep_end xs x =
    let total : length (xs ++ x ∷ []) ≡ length xs + 1 = length-append xs (x ∷ []) in
    drop-append-le (length (xs ++ x ∷ []) - 32) xs (x ∷ []) (omega (arith, total))

pub undoes_change : UndoesChange
undoes_change old kept undone before after there h u =
    same_end (done_of undone there) (drop (length (done_of old before ++ before ∷ []) - 32) (done_of old before)) there before
    (sym u.done ∙ h ∙ keep_end (done_of old before) before)

pub redoes_change : RedoesChange
redoes_change kept undone redone after before there u r =
    same_end (undone_of redone there) (undone_of kept after) there after (sym r.undone ∙ u.undone)

pub one_of_bytes : OneOfBytes
one_of_bytes bytes words others d e =
    d.recorded
    ∙ ap (λ (n : Forest). words_of bytes n) (one_document bytes d.nest e.nest d.accepted.document e.accepted.document)
    ∙ sym e.recorded
