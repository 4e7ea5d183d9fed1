-- How many attributes there are.
use Rattle.std.proofs.Common.{◌≡◌, ℕ, suc, ◌+◌, true, false, List, [], length, take, Option, Some, None, refl, sym, ap, ◌∙◌, arith, add-zero}
use Rattle.std.specs.Prelude.{option_map, is_some}
use Rattle.std.proofs.lemmas.Bool.{false≢true, true_from_ne_false}
use Rattle.std.specs.List.{prefix_len}
use Rattle.std.proofs.lemmas.Option.{same_Some}
use Rattle.xml_model.specs.Chars.{is_space}
use Rattle.xml_model.specs.Items.{Attribute, Item}
use Rattle.xml_chars.specs.Readers.{after_run}
use Rattle.xml_chars.specs.Reading.{read_space, begins_name}
use Rattle.xml_items.specs.Reading.{some_space, read_bare, read_attribute, begins_attribute, read_attributes, read_text, read_end_tag, read_instruction, read_comment, read_cdata, read_doctype}
use Rattle.xml_items.specs.Suffixes.{Suffixes, suffixes}
use Rattle.xml_items.specs.Shown.{item_shown}
use Rattle.xml_items.specs.AttributeList.{item_attributes}
use Rattle.xml_items.specs.Counting.{counted_from, with_count, counted_shown}
use Rattle.xml_items.specs.declared.Item.{Item as ItemShown}
use Rattle.xml_items.specs.declared.Counted.{Counted}
use Rattle.xml_items.proofs.MarkSpans.{shows}
use Rattle.xml_items.proofs.StepLemmas.{attribute_1, attribute_bare, suffixes_some, suffixes_none}
use Rattle.xml_items.proofs.AttributeLemmas.{push, attributes_first}
use Rattle.xml_items.proofs.UnitLemmas.{many_none, many_end}

abbrev pub counts : ℕ → Option (Item × List ℕ) → Option Counted
counts at o = option_map (λ (p : Item × List ℕ). counted_shown at p.0) o

abbrev pub number_from : ℕ → List ℕ → Option (ℕ × List ℕ)
number_from n s = option_map (counted_from n) (read_attributes s)

pub after_space : (s space a : List ℕ) → read_space s ≡ Some (space, a) → a ≡ after_run is_space s
unfolding read_space
after_space s space a e = sym (ap (λ (p : List ℕ × List ℕ). p.1) (same_Some (take (prefix_len is_space s) s, after_run is_space s) (space, a) e))

pub attribute_goes : (s space a : List ℕ) → read_space s ≡ Some (space, a) → begins_attribute s ≡ begins_name a
unfolding begins_attribute
attribute_goes s space a e = ap begins_name (sym (after_space s space a e))

-- where there are attributes, white space is before each
pub attributes_spaced : (s space a : List ℕ) → is_some (read_attributes s) ≡ true → read_space s ≡ Some (space, a) → begins_name a ≡ true → some_space space ≡ true
unfolding read_attributes
attributes_spaced s space a some e go = true_from_ne_false _ (λ f. false≢true (sym (ap is_some (many_none begins_attribute read_attribute s (attribute_goes s space a e ∙ go) (attribute_1 s space a e f))) ∙ some))

pub number_done : (n : ℕ) (s space a : List ℕ) → read_space s ≡ Some (space, a) → begins_name a ≡ false → number_from n s ≡ Some (n, a)
unfolding read_attributes
number_done n s space a e h =
    let none = many_end begins_attribute read_attribute s (attribute_goes s space a e ∙ h) in
    ap (option_map (counted_from n)) none ∙ ap (λ (k : ℕ). Some (k, after_run is_space s)) (add-zero n) ∙ ap (λ (l : List ℕ). Some (n, l)) (sym (after_space s space a e))

pub number_unspaced : (n : ℕ) (s space a : List ℕ) → read_space s ≡ Some (space, a) → begins_name a ≡ true → some_space space ≡ false → number_from n s ≡ None
unfolding read_attributes
number_unspaced n s space a e h f = ap (option_map (counted_from n)) (many_none begins_attribute read_attribute s (attribute_goes s space a e ∙ h) (attribute_1 s space a e f))

pub number_stuck : (n : ℕ) (s space a : List ℕ) → read_space s ≡ Some (space, a) → begins_name a ≡ true → some_space space ≡ true → option_map suffixes (read_bare a) ≡ None → number_from n s ≡ None
unfolding read_attributes
number_stuck n s space a e h t none =
    let gone : read_attribute s ≡ None = suffixes_none (read_attribute s) (attribute_bare s space a e t ∙ none) in
    ap (option_map (counted_from n)) (many_none begins_attribute read_attribute s (attribute_goes s space a e ∙ h) gone)

push_counted : (n : ℕ) (a : Attribute) (o : Option (List Attribute × List ℕ)) → option_map (counted_from n) (push a o) ≡ option_map (counted_from (n + 1)) o
push_counted n a None = refl
push_counted n a (Some p) = let z : n + suc (length p.0) ≡ n + 1 + length p.0 = omega arith in ap (λ (k : ℕ). Some (k, after_run is_space p.1)) z

pub number_more : (n : ℕ) (s space a : List ℕ) (f : Suffixes) → read_space s ≡ Some (space, a) → begins_name a ≡ true → some_space space ≡ true → option_map suffixes (read_bare a) ≡ Some f → number_from (n + 1) f.rest ≡ number_from n s
number_more n s space a f e h t some =
    let m = suffixes_some (read_attribute s) f (attribute_bare s space a e t ∙ some) in
    sym (ap (option_map (counted_from n)) (attributes_first s f.rest m.0 (attribute_goes s space a e ∙ h) m.1) ∙ push_counted n m.0 (read_attributes f.rest))

-- ---- items with and without attributes

pub counted_some : (at n : ℕ) (o : Option (Item × List ℕ)) (i : Item) (rest : List ℕ) (found : ItemShown) → o ≡ Some (i, rest) → found ≡ item_shown at i → n ≡ length (item_attributes i) → Some (with_count n found) ≡ counts at o
counted_some at n o i rest found e f k = ap (λ (x : ItemShown). Some (with_count n x)) f ∙ ap (λ (m : ℕ). Some (with_count m (item_shown at i))) k ∙ sym (ap (counts at) e)

pub no_attributes_by : {X : Type 0} (at : ℕ) (h : X → Item) (o : Option (X × List ℕ)) → ((x : X) → item_attributes (h x) ≡ []) → option_map (with_count 0) (shows at (option_map (λ (p : X × List ℕ). let z : Item × List ℕ = (h p.0, p.1) in z) o)) ≡ counts at (option_map (λ (p : X × List ℕ). let z : Item × List ℕ = (h p.0, p.1) in z) o)
no_attributes_by at h None none = refl
no_attributes_by at h (Some p) none = ap (λ (m : ℕ). Some (with_count m (item_shown at (h p.0)))) (sym (ap (λ (l : List Attribute). length l) (none p.0)))

pub text_counts : (at : ℕ) (s : List ℕ) → option_map (with_count 0) (shows at (read_text s)) ≡ counts at (read_text s)
unfolding read_text
text_counts at s = no_attributes_by at _ _ (λ _. refl)

pub end_counts : (at : ℕ) (s : List ℕ) → option_map (with_count 0) (shows at (read_end_tag s)) ≡ counts at (read_end_tag s)
unfolding read_end_tag
end_counts at s = no_attributes_by at _ _ (λ _. refl)

pub instruction_counts : (at : ℕ) (s : List ℕ) → option_map (with_count 0) (shows at (read_instruction s)) ≡ counts at (read_instruction s)
unfolding read_instruction
instruction_counts at s = no_attributes_by at _ _ (λ _. refl)

pub comment_counts : (at : ℕ) (s : List ℕ) → option_map (with_count 0) (shows at (read_comment s)) ≡ counts at (read_comment s)
unfolding read_comment
comment_counts at s = no_attributes_by at _ _ (λ _. refl)

pub cdata_counts : (at : ℕ) (s : List ℕ) → option_map (with_count 0) (shows at (read_cdata s)) ≡ counts at (read_cdata s)
unfolding read_cdata
cdata_counts at s = no_attributes_by at _ _ (λ _. refl)

pub doctype_counts : (at : ℕ) (s : List ℕ) → option_map (with_count 0) (shows at (read_doctype s)) ≡ counts at (read_doctype s)
unfolding read_doctype
doctype_counts at s = no_attributes_by at _ _ (λ _. refl)
