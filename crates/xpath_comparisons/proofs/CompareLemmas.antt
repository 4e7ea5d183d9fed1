-- Comparisons of what is held are those of what is meant.
use Rattle.std.proofs.Common.{◌≡◌, Bool, cond, List, [], ◌∷◌, Ok, refl, ◌∙◌, ap, subst}
use Rattle.std.specs.Prelude.{map, bytes_eq}
use Rattle.xml_model.specs.Tree.{Entry}
use Rattle.vtd_words.specs.Table.{node_of}
use Rattle.xpath_tokens.specs.declared.Comparison.{Comparison}
use Rattle.xpath_values.specs.declared.Value.{Value}
use Rattle.xpath_values.specs.Answers.{Answer, Gives, and_then, with, each}
use Rattle.xpath_values.specs.Numbers.{compare_numbers, number_of_text}
use Rattle.xpath_values.specs.Values as values
use Rattle.xpath_values.specs.Values.{Meant, nodes, truth, number, text, held_as, IsHeld, by_equality, is_equality, is_some_list, same_truth, some_pair}
use Rattle.xpath_values.specs.Values.{string_value}
use Rattle.xpath_values.proofs.SeenLemmas.{texts}
use Rattle.xpath_values.proofs.ValueLemmas.{truth_same}
use Rattle.xpath_comparisons.specs.Comparing as seen
use Rattle.xpath_comparisons.specs.Comparing.{compared, takes_memory}

each_same : (es : List Entry) → each number_of_text (map string_value es) ≡ values.numbers_of_nodes es
each_same [] = refl
each_same (e ∷ es) = ap (λ a. and_then (number_of_text (string_value e)) (λ y. with a (λ ys. y ∷ ys))) (each_same es)

numbers_same : (v : Meant) → seen.numbers_seen (held_as v) (texts v) ≡ values.numbers v
numbers_same (nodes es) = each_same es
numbers_same (truth b) = refl
numbers_same (number x) = refl
numbers_same (text t) = refl

strings_same : (v : Meant) → seen.strings_seen (held_as v) (texts v) ≡ values.strings v
strings_same (nodes es) = refl
strings_same (truth b) = refl
strings_same (number x) = refl
strings_same (text t) = refl

some_same : (es : List Entry) → is_some_list (map node_of es) ≡ is_some_list es
some_same [] = refl
some_same (e ∷ es) = refl

-- beside a boolean
numbers_beside : (w v : Meant) → seen.numbers_seen (seen.beside (held_as w) (held_as v)) (texts v) ≡ values.numbers (values.beside w v)
numbers_beside (truth b) (nodes es) = ap (λ c. Ok (values.number_of_truth c ∷ [])) (some_same es)
numbers_beside (truth b) (truth c) = refl
numbers_beside (truth b) (number x) = refl
numbers_beside (truth b) (text t) = refl
numbers_beside (nodes fs) v = numbers_same v
numbers_beside (number y) v = numbers_same v
numbers_beside (text u) v = numbers_same v

by_order_same : (how : Comparison) (v w : Meant)
    → seen.by_numbers how (seen.beside (held_as w) (held_as v)) (texts v) (seen.beside (held_as v) (held_as w)) (texts w)
    ≡ values.by_numbers how (values.beside w v) (values.beside v w)
by_order_same how v w =
    ap (λ a. and_then a (λ xs. with (seen.numbers_seen (seen.beside (held_as v) (held_as w)) (texts w)) (λ ys. some_pair (compare_numbers how) xs ys))) (numbers_beside w v)
    ∙ ap (λ b. and_then (values.numbers (values.beside w v)) (λ xs. with b (λ ys. some_pair (compare_numbers how) xs ys))) (numbers_beside v w)

by_numbers_same : (how : Comparison) (v w : Meant) → seen.by_numbers how (held_as v) (texts v) (held_as w) (texts w) ≡ values.by_numbers how v w
by_numbers_same how v w =
    ap (λ a. and_then a (λ xs. with (seen.numbers_seen (held_as w) (texts w)) (λ ys. some_pair (compare_numbers how) xs ys))) (numbers_same v)
    ∙ ap (λ b. and_then (values.numbers v) (λ xs. with b (λ ys. some_pair (compare_numbers how) xs ys))) (numbers_same w)

by_strings_same : (how : Comparison) (v w : Meant) → seen.by_strings how (seen.strings_seen (held_as v) (texts v)) (seen.strings_seen (held_as w) (texts w))
    ≡ some_pair (λ s t. by_equality how (bytes_eq s t)) (values.strings v) (values.strings w)
by_strings_same how v w = rw (strings_same v, strings_same w) refl

is_truth_same : (v : Meant) → seen.is_truth (held_as v) ≡ values.is_truth v
is_truth_same (nodes es) = refl
is_truth_same (truth b) = refl
is_truth_same (number x) = refl
is_truth_same (text t) = refl

is_number_same : (v : Meant) → seen.is_number (held_as v) ≡ values.is_number v
is_number_same (nodes es) = refl
is_number_same (truth b) = refl
is_number_same (number x) = refl
is_number_same (text t) = refl

by_kind_same : (how : Comparison) (v w : Meant) → seen.by_kind how (held_as v) (texts v) (held_as w) (texts w) ≡ values.by_kind how v w
by_kind_same how v w =
    rw (is_truth_same v, is_truth_same w, is_number_same v, is_number_same w, truth_same v, truth_same w, by_numbers_same how v w, by_strings_same how v w) refl

-- by kind it is no matter whether a node-set beside a boolean is one
by_kind_beside : (how : Comparison) (v w : Meant) → values.by_kind how v w ≡ values.by_kind how (values.beside w v) (values.beside v w)
by_kind_beside how (nodes es) (truth b) = refl
by_kind_beside how (truth b) (nodes es) = refl
by_kind_beside how (nodes es) (nodes fs) = refl
by_kind_beside how (nodes es) (number y) = refl
by_kind_beside how (nodes es) (text u) = refl
by_kind_beside how (truth b) (truth c) = refl
by_kind_beside how (truth b) (number y) = refl
by_kind_beside how (truth b) (text u) = refl
by_kind_beside how (number x) (nodes fs) = refl
by_kind_beside how (number x) (truth c) = refl
by_kind_beside how (number x) (number y) = refl
by_kind_beside how (number x) (text u) = refl
by_kind_beside how (text t) (nodes fs) = refl
by_kind_beside how (text t) (truth c) = refl
by_kind_beside how (text t) (number y) = refl
by_kind_beside how (text t) (text u) = refl

compared_same : (how : Comparison) (v w : Meant) → compared how (held_as v) (texts v) (held_as w) (texts w) ≡ values.compare how v w
compared_same how v w =
    ap (λ a. cond (is_equality how) a (seen.by_numbers how (seen.beside (held_as w) (held_as v)) (texts v) (seen.beside (held_as v) (held_as w)) (texts w)))
    (by_kind_same how v w ∙ by_kind_beside how v w)
    ∙ ap (λ a. cond (is_equality how) (values.by_kind how (values.beside w v) (values.beside v w)) a) (by_order_same how v w)

pub compared_meant : (es : List Entry) (how : Comparison) (x y : Value) (v w : Meant) (r : Answer Bool) → IsHeld es x v → IsHeld es y w
    → Gives (takes_memory how x y) r (compared how x (texts v) y (texts w)) → Gives (takes_memory how x y) r (values.compare how v w)
compared_meant es how x y v w r h k g =
    let e : compared how x (texts v) y (texts w) ≡ values.compare how v w =
    ap (λ z. compared how z (texts v) y (texts w)) h.same ∙ ap (λ z. compared how (held_as v) (texts v) z (texts w)) k.same ∙ compared_same how v w in
    let P : Answer Bool → Type 0 = λ m. Gives (takes_memory how x y) r m in
    subst P e g
