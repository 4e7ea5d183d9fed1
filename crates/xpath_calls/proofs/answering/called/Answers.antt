use Rattle.std.proofs.Common.{ℕ, ◌*◌, true, false, List, length, Ok, refl, ap}
use Rattle.std.specs.Prelude.{not, pos}
use Rattle.std.specs.List.{flat_map, slice_get}
use Rattle.xml_model.specs.Names.{scope}
use Rattle.xpath_values.specs.Answers.{Answer, and_then, with}
use Rattle.xpath_values.specs.Numbers as numbers
use Rattle.xpath_values.specs.Numbers.{counted, in_range, one}
use Rattle.xpath_values.specs.Texts as texts
use Rattle.xpath_values.specs.Values.{Meant, number, text, number_of, string_of, truth_of, sum_of_nodes}
use Rattle.xpath_meaning.specs.declared.function.Function.TheVariants as f
use Rattle.xpath_meaning.specs.Context.{nodes_in}
use Rattle.xpath_meaning.specs.Functions.{called, argument, own, of_first, local_name, uri_text, whole_name, substring_of, is_some_language, language}
use Rattle.xpath_meaning.proofs.Meetings.{one_number}
use Rattle.xpath_calls.proofs.Told.{number_told, text_told, truth_told, fine, fine_all, exact, answers_same, text_after, of_function}
use Rattle.xpath_calls.proofs.answering.called.Goals as goal

-- the part of the first argument, by numbers that are converted
abbrev converted : List Meant → Answer (List ℕ)
converted vs = and_then (number_of (argument 1 vs)) (λ from. substring_of (string_of (argument 0 vs)) from (slice_get vs 2))

pub returns-in-Last-clause-means : goal.returns-in-Last-clause-means
returns-in-Last-clause-means g c = of_function _ _ _ _ _ f.Last c.in-Last.is (
    number_told _ _ _ _ (Ok c.last.result) (λ d vs. Ok (counted d.size)) c.number_value.ensures.value (λ d h vs a. ap Ok (c.last.ensures.number d h)))

pub returns-in-Position-clause-means : goal.returns-in-Position-clause-means
returns-in-Position-clause-means g c = of_function _ _ _ _ _ f.Position c.in-Position.is (
    number_told _ _ _ _ (Ok c.position.result) (λ d vs. Ok (counted d.position)) c.number_value-in-Position.ensures.value
    (λ d h vs a. ap Ok (c.position.ensures.number d h)))

pub returns-in-Count-clause-means : goal.returns-in-Count-clause-means
returns-in-Count-clause-means g c = of_function _ _ _ _ _ f.Count c.in-Count.is (
    number_told _ _ _ _ (Ok c.count.result) (λ d vs. Ok (counted (length (nodes_in (argument 0 vs))))) c.number_value-in-Count.ensures.value
    (λ d h vs a. ap Ok (c.count.ensures.number d h.scope vs a)))

pub returns-in-LocalName-clause-means : goal.returns-in-LocalName-clause-means
returns-in-LocalName-clause-means g c = of_function _ _ _ _ _ f.LocalName c.in-LocalName.is (
    text_told _ _ _ _ c.local_name.result (λ d vs. Ok (of_first local_name (nodes_in (own d vs)))) c.text_held.ensures.value (fine _ _ _ _
    (λ d vs. of_first local_name (nodes_in (own d vs))) c.local_name.ensures.full c.local_name.ensures.text))

pub returns-in-NamespaceUri-clause-means : goal.returns-in-NamespaceUri-clause-means
returns-in-NamespaceUri-clause-means g c = of_function _ _ _ _ _ f.NamespaceUri c.in-NamespaceUri.is (
    text_told _ _ _ _ c.namespace.result (λ d vs. Ok (of_first uri_text (nodes_in (own d vs)))) c.text_held-in-NamespaceUri.ensures.value (fine _ _ _ _
    (λ d vs. of_first uri_text (nodes_in (own d vs))) c.namespace.ensures.full c.namespace.ensures.text))

pub returns-in-Name-clause-means : goal.returns-in-Name-clause-means
returns-in-Name-clause-means g c = of_function _ _ _ _ _ f.Name c.in-Name.is (
    text_told _ _ _ _ c.written_name.result (λ d vs. Ok (of_first whole_name (nodes_in (own d vs)))) c.text_held-in-Name.ensures.value (fine _ _ _ _
    (λ d vs. of_first whole_name (nodes_in (own d vs))) c.written_name.ensures.full c.written_name.ensures.text))

pub returns-in-AsString-clause-means : goal.returns-in-AsString-clause-means
returns-in-AsString-clause-means g c = of_function _ _ _ _ _ f.AsString c.in-AsString.is (
    text_told _ _ _ _ c.own_text.result (λ d vs. Ok (string_of (own d vs))) c.text_held-in-AsString.ensures.value (fine _ _ _ _
    (λ d vs. string_of (own d vs)) c.own_text.ensures.full c.own_text.ensures.text))

pub returns-in-Concat-clause-means : goal.returns-in-Concat-clause-means
returns-in-Concat-clause-means g c = of_function _ _ _ _ _ f.Concat c.in-Concat.is (
    text_told _ _ _ _ c.joined.result (λ d vs. Ok (flat_map string_of vs)) c.text_held-in-Concat.ensures.value (fine_all _ _ _ _
    (λ d vs. flat_map string_of vs) c.joined.ensures.full c.joined.ensures.text))

pub returns-in-StartsWith-clause-means : goal.returns-in-StartsWith-clause-means
returns-in-StartsWith-clause-means g c = of_function _ _ _ _ _ f.StartsWith c.in-StartsWith.is (
    truth_told _ _ _ _ c.starts.result (λ d vs. Ok (texts.starts_with (string_of (argument 0 vs)) (string_of (argument 1 vs))))
    c.truth_value.ensures.value (fine_all _ _ _ _ (λ d vs. texts.starts_with (string_of (argument 0 vs)) (string_of (argument 1 vs)))
    c.starts.ensures.full c.starts.ensures.truth))

pub returns-in-Contains-clause-means : goal.returns-in-Contains-clause-means
returns-in-Contains-clause-means g c = of_function _ _ _ _ _ f.Contains c.in-Contains.is (
    truth_told _ _ _ _ c.has.result (λ d vs. Ok (texts.contains (string_of (argument 0 vs)) (string_of (argument 1 vs))))
    c.truth_value-in-Contains.ensures.value (fine_all _ _ _ _ (λ d vs. texts.contains (string_of (argument 0 vs)) (string_of (argument 1 vs)))
    c.has.ensures.full c.has.ensures.truth))

pub returns-in-SubstringBefore-clause-means : goal.returns-in-SubstringBefore-clause-means
returns-in-SubstringBefore-clause-means g c = of_function _ _ _ _ _ f.SubstringBefore c.in-SubstringBefore.is (
    text_told _ _ _ _ c.before-in-SubstringBefore.result (λ d vs. Ok (texts.substring_before (string_of (argument 0 vs)) (string_of (argument 1 vs))))
    c.text_held-in-SubstringBefore.ensures.value (fine_all _ _ _ _
    (λ d vs. texts.substring_before (string_of (argument 0 vs)) (string_of (argument 1 vs))) c.before-in-SubstringBefore.ensures.full
    c.before-in-SubstringBefore.ensures.text))

pub returns-in-SubstringAfter-clause-means : goal.returns-in-SubstringAfter-clause-means
returns-in-SubstringAfter-clause-means g c = of_function _ _ _ _ _ f.SubstringAfter c.in-SubstringAfter.is (
    text_told _ _ _ _ c.after.result (λ d vs. Ok (texts.substring_after (string_of (argument 0 vs)) (string_of (argument 1 vs))))
    c.text_held-in-SubstringAfter.ensures.value (fine_all _ _ _ _
    (λ d vs. texts.substring_after (string_of (argument 0 vs)) (string_of (argument 1 vs))) c.after.ensures.full c.after.ensures.text))

pub returns-in-Substring-clause-means : goal.returns-in-Substring-clause-means
returns-in-Substring-clause-means g c = of_function _ _ _ _ _ f.Substring c.in-Substring.is (
    answers_same _ _ _ _ (λ d vs. with (converted vs) text) (called f.Substring)
    (λ d vs. text_after (number_of (argument 1 vs)) (λ from. substring_of (string_of (argument 0 vs)) from (slice_get vs 2)))
    (text_told _ _ _ _ c.part.result (λ d vs. converted vs) c.text_held-in-Substring.ensures.value (λ d h vs a. c.part.ensures d h.scope vs a)))

pub returns-in-StringLength-clause-means : goal.returns-in-StringLength-clause-means
returns-in-StringLength-clause-means g c = of_function _ _ _ _ _ f.StringLength c.in-StringLength.is (
    number_told _ _ _ _ c.length.result (λ d vs. in_range (pos (one * length (string_of (own d vs)))))
    c.number_value-in-StringLength.ensures.value (c.length.ensures.number))

pub returns-in-NormalizeSpace-clause-means : goal.returns-in-NormalizeSpace-clause-means
returns-in-NormalizeSpace-clause-means g c = of_function _ _ _ _ _ f.NormalizeSpace c.in-NormalizeSpace.is (
    text_told _ _ _ _ c.normalized.result (λ d vs. Ok (texts.normalize_space (string_of (own d vs))))
    c.text_held-in-NormalizeSpace.ensures.value (fine _ _ _ _ (λ d vs. texts.normalize_space (string_of (own d vs))) c.normalized.ensures.full
    c.normalized.ensures.text))

pub returns-in-Translate-clause-means : goal.returns-in-Translate-clause-means
returns-in-Translate-clause-means g c = of_function _ _ _ _ _ f.Translate c.in-Translate.is (
    text_told _ _ _ _ c.translated.result
    (λ d vs. Ok (texts.translate (string_of (argument 0 vs)) (string_of (argument 1 vs)) (string_of (argument 2 vs))))
    c.text_held-in-Translate.ensures.value (fine_all _ _ _ _
    (λ d vs. texts.translate (string_of (argument 0 vs)) (string_of (argument 1 vs)) (string_of (argument 2 vs))) c.translated.ensures.full
    c.translated.ensures.text))

pub returns-in-AsBoolean-clause-means : goal.returns-in-AsBoolean-clause-means
returns-in-AsBoolean-clause-means g c = of_function _ _ _ _ _ f.AsBoolean c.in-AsBoolean.is (
    truth_told _ _ _ _ (Ok c.truth_at.result) (λ d vs. Ok (truth_of (argument 0 vs))) c.truth_value-in-AsBoolean.ensures.value
    (λ d h vs a. ap Ok (c.truth_at.ensures d.document vs a)))

pub returns-in-Not-clause-means : goal.returns-in-Not-clause-means
returns-in-Not-clause-means g c = of_function _ _ _ _ _ f.Not c.in-Not.is (
    truth_told _ _ _ _ (Ok (not c.truth_at-in-Not.result)) (λ d vs. Ok (not (truth_of (argument 0 vs)))) c.truth_value-in-Not.ensures.value
    (λ d h vs a. ap (λ b. Ok (not b)) (c.truth_at-in-Not.ensures d.document vs a)))

pub returns-in-IsTrue-clause-means : goal.returns-in-IsTrue-clause-means
returns-in-IsTrue-clause-means g c = of_function _ _ _ _ _ f.IsTrue c.in-IsTrue.is (
    truth_told _ _ _ _ (Ok true) (λ d vs. Ok true) c.truth_value-in-IsTrue.ensures.value (λ d h vs a. refl))

pub returns-in-IsFalse-clause-means : goal.returns-in-IsFalse-clause-means
returns-in-IsFalse-clause-means g c = of_function _ _ _ _ _ f.IsFalse c.in-IsFalse.is (
    truth_told _ _ _ _ (Ok false) (λ d vs. Ok false) c.truth_value-in-IsFalse.ensures.value (λ d h vs a. refl))

pub returns-in-Lang-clause-means : goal.returns-in-Lang-clause-means
returns-in-Lang-clause-means g c = of_function _ _ _ _ _ f.Lang c.in-Lang.is (
    truth_told _ _ _ _ c.lang.result (λ d vs. Ok (is_some_language (string_of (argument 0 vs)) (language (scope d.node))))
    c.truth_value-in-Lang.ensures.value (fine _ _ _ _ (λ d vs. is_some_language (string_of (argument 0 vs)) (language (scope d.node)))
    c.lang.ensures.full c.lang.ensures.truth))

pub returns-in-AsNumber-clause-means : goal.returns-in-AsNumber-clause-means
returns-in-AsNumber-clause-means g c = of_function _ _ _ _ _ f.AsNumber c.in-AsNumber.is (
    number_told _ _ _ _ c.own_number.result (λ d vs. number_of (own d vs)) c.number_value-in-AsNumber.ensures.value
    (λ d h vs a. exact _ _ (c.own_number.ensures.number d h vs a)))

pub returns-in-Sum-clause-means : goal.returns-in-Sum-clause-means
returns-in-Sum-clause-means g c = of_function _ _ _ _ _ f.Sum c.in-Sum.is (
    number_told _ _ _ _ c.sum.result (λ d vs. sum_of_nodes (nodes_in (argument 0 vs))) c.number_value-in-Sum.ensures.value
    (λ d h vs a. exact _ _ (c.sum.ensures.number d h.scope vs a)))

pub returns-in-Floor-clause-means : goal.returns-in-Floor-clause-means
returns-in-Floor-clause-means g c = of_function _ _ _ _ _ f.Floor c.in-Floor.is (
    answers_same _ _ _ _ (λ d vs. with (with (number_of (argument 0 vs)) numbers.floor) number) (called f.Floor)
    (λ d vs. one_number (number_of (argument 0 vs)) numbers.floor)
    (number_told _ _ _ _ c.floor_of.result (λ d vs. with (number_of (argument 0 vs)) numbers.floor) c.number_value-in-Floor.ensures.value
    (λ d h vs a. exact _ _ (c.floor_of.ensures.number d h.scope vs a))))

pub returns-in-Ceiling-clause-means : goal.returns-in-Ceiling-clause-means
returns-in-Ceiling-clause-means g c = of_function _ _ _ _ _ f.Ceiling c.in-Ceiling.is (
    answers_same _ _ _ _ (λ d vs. with (with (number_of (argument 0 vs)) numbers.ceiling) number) (called f.Ceiling)
    (λ d vs. one_number (number_of (argument 0 vs)) numbers.ceiling)
    (number_told _ _ _ _ c.ceiling_of.result (λ d vs. with (number_of (argument 0 vs)) numbers.ceiling) c.number_value-in-Ceiling.ensures.value
    (λ d h vs a. exact _ _ (c.ceiling_of.ensures.number d h.scope vs a))))

pub returns-in-Round-clause-means : goal.returns-in-Round-clause-means
returns-in-Round-clause-means g c = of_function _ _ _ _ _ f.Round c.in-Round.is (
    answers_same _ _ _ _ (λ d vs. with (with (number_of (argument 0 vs)) numbers.round) number) (called f.Round)
    (λ d vs. one_number (number_of (argument 0 vs)) numbers.round)
    (number_told _ _ _ _ c.round_of.result (λ d vs. with (number_of (argument 0 vs)) numbers.round) c.number_value-in-Round.ensures.value
    (λ d h vs a. exact _ _ (c.round_of.ensures.number d h.scope vs a))))
