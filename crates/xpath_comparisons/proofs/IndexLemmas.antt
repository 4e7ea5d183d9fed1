-- An index of string-values by their hashes, and of one hash by their characters.
use Rattle.std.proofs.Common.{◌≡◌, ℕ, Bool, true, false, cond, List, [], ◌∷◌, length, refl, sym, ◌∙◌, ap, subst, arith}
use Rattle.std.specs.Prelude.{bytes_eq, ◌||◌}
use Rattle.std.specs.BTreeMap.{is_at}
use Rattle.std.specs.BTreeSet.{BTreeSet, contains}
use Rattle.std.specs.Cmp.Lexicographic.{slice_cmp}
use Rattle.std.specs.List.{list_any}
use Rattle.std.specs.Ordering.{nat_cmp, ordering_then, is_eq}
use Rattle.std.specs.declared.cmp.Ordering.{Ordering}
use Rattle.std.specs.declared.cmp.Ordering.TheVariants.{Less, Equal, Greater}
use Rattle.std.proofs.lemmas.Bool.{false_from_ne_true, false≢true}
use Rattle.std.proofs.lemmas.Bool.Decides.{nat_tests}
use Rattle.std.proofs.lemmas.Cmp.{same_from_slice_cmp, tied_itself, nat_cmp_total}
use Rattle.xml_model.proofs.SameText.{bytes_same, same_bytes}
use Rattle.xml_model.specs.declared.Node.{Node}
use Rattle.vtd_words.specs.Lists.{Lists}
use Rattle.xpath_values.specs.Seen.{HasString, HaveStrings, IsLeft}
use Rattle.xpath_values.specs.Values.{some_pair}
use Rattle.xpath_values.proofs.SeenLemmas.{next_left, last_left}
use Rattle.xpath_comparisons.specs.Sets.{TextKey, hash_of, key_of, key_cmp, IsIndex, IsIndexing}

-- two texts are tied exactly where they are the same
text_tied : (one other : List ℕ) → is_eq (slice_cmp nat_cmp one other) ≡ bytes_eq one other
text_tied one other =
    same_from_slice_cmp nat_cmp is_eq bytes_eq refl (λ _ _. refl) (λ _ _. refl) (λ x y xs ys o h. grind (arith, nat_tests))
    one other (slice_cmp nat_cmp one other) refl

then_tied : (one other : Ordering) → is_eq (ordering_then one other) ≡ true → is_eq other ≡ true
then_tied Less other e = absurd (false≢true e)
then_tied Equal other e = e
then_tied Greater other e = absurd (false≢true e)

-- so are their keys
key_tied : (W : Type 0) (one other : List ℕ) → is_eq (key_cmp {W = W} (key_of one) (key_of other)) ≡ bytes_eq other one
key_tied W one other = by_case (bytes_eq other one) refl
  where
    by_case : (b : Bool) → bytes_eq other one ≡ b → is_eq (key_cmp {W = W} (key_of one) (key_of other)) ≡ bytes_eq other one
    by_case true t =
        let same : other ≡ one = same_bytes other one t in
        subst (λ (l : List ℕ). is_eq (key_cmp {W = W} (key_of one) (key_of l)) ≡ bytes_eq l one) (sym same)
        (ap (λ o. is_eq (ordering_then o (slice_cmp nat_cmp one one))) (tied_itself nat_cmp_total (hash_of one)) ∙ text_tied one one)
    by_case false f =
        false_from_ne_true _ (λ t.
        let e : bytes_eq one other ≡ true =
        sym (text_tied one other) ∙ then_tied (nat_cmp (hash_of one) (hash_of other)) (slice_cmp nat_cmp one other) t in
        let same : one ≡ other = same_bytes one other e in
        false≢true (sym f ∙ ap (λ (l : List ℕ). bytes_eq other l) same ∙ bytes_same other))
        ∙ sym f

either_part : (a b c : Bool) → (a || (b || c)) ≡ (cond b true a || c)
either_part true true c = refl
either_part true false c = refl
either_part false true c = refl
either_part false false c = refl

-- the first of what is left is noted
pub more_indexed : (W : Type 0) (bytes : List ℕ) (lists : Lists) (old new : BTreeSet (TextKey W)) (left rest : List Node) (node : Node) (ts : List (List ℕ)) (key : TextKey W)
    → left ≡ node ∷ rest → ((t : List ℕ) → HasString bytes lists node t → key ≡ key_of t)
    → ((q : TextKey W) → contains key_cmp new q ≡ cond (is_eq (key_cmp key q)) true (contains key_cmp old q))
    → IsLeft bytes lists left (IsIndexing W old ts) → IsLeft bytes lists rest (IsIndexing W new ts)
more_indexed W bytes lists old new left rest node ts key e g u i =
    let n = next_left bytes lists left rest node (IsIndexing W old ts) e i in
    let same : key ≡ key_of n.text = g n.text n.string in
    record {
      texts = n.after.texts;
      shown = n.after.shown;
      holds = record {
        has = λ q.
            let tied : is_eq (key_cmp key (key_of q)) ≡ bytes_eq q n.text =
            ap (λ (k : TextKey W). is_eq (key_cmp k (key_of q))) same ∙ key_tied W n.text q in
            n.after.holds.has q ∙ either_part (contains key_cmp old (key_of q)) (bytes_eq q n.text) (list_any (bytes_eq q) n.after.texts)
            ∙ ap (λ b. b || list_any (bytes_eq q) n.after.texts)
            (ap (λ b. cond b true (contains key_cmp old (key_of q))) (sym tied) ∙ sym (u (key_of q)));
      };
    }

pub begin_indexed : (W : Type 0) (bytes : List ℕ) (lists : Lists) (index : BTreeSet (TextKey W)) (xs : List Node) (ts : List (List ℕ)) → index.keys ≡ []
    → HaveStrings bytes lists xs ts → IsLeft bytes lists xs (IsIndexing W index ts)
begin_indexed W bytes lists index xs ts n h =
    record {
      texts = ts;
      shown = h;
      holds = record {
        has = λ q. ap (λ (l : List (TextKey W)). list_any (is_at (key_cmp (key_of q))) l || list_any (bytes_eq q) ts) (sym n);
      };
    }

or_false : (b : Bool) → (b || false) ≡ b
or_false true = refl
or_false false = refl

pub all_indexed : (W : Type 0) (bytes : List ℕ) (lists : Lists) (index : BTreeSet (TextKey W)) (left : List Node) (ts : List (List ℕ)) → length left ≡ 0
    → IsLeft bytes lists left (IsIndexing W index ts) → IsIndex index ts
all_indexed W bytes lists index left ts e i =
    let l : IsIndexing W index ts [] = last_left bytes lists left (IsIndexing W index ts) e i in
    λ q. sym (l.has q ∙ or_false (contains key_cmp index (key_of q)))

-- Looking up the other node-set.
abbrev pub IsSought : List (List ℕ) → Bool → List (List ℕ) → Type 0
IsSought us whole ss = some_pair bytes_eq ss us ≡ whole

pub found_one : (bytes : List ℕ) (lists : Lists) (left rest : List Node) (node : Node) (us : List (List ℕ)) (whole : Bool) → left ≡ node ∷ rest
    → ((t : List ℕ) → HasString bytes lists node t → true ≡ list_any (bytes_eq t) us) → IsLeft bytes lists left (IsSought us whole) → true ≡ whole
found_one bytes lists left rest node us whole e g i =
    let n = next_left bytes lists left rest node (IsSought us whole) e i in
    sym (ap (λ b. b || some_pair bytes_eq n.after.texts us) (sym (g n.text n.string))) ∙ n.after.holds

pub found_none : (bytes : List ℕ) (lists : Lists) (left rest : List Node) (node : Node) (us : List (List ℕ)) (whole : Bool) → left ≡ node ∷ rest
    → ((t : List ℕ) → HasString bytes lists node t → false ≡ list_any (bytes_eq t) us) → IsLeft bytes lists left (IsSought us whole)
    → IsLeft bytes lists rest (IsSought us whole)
found_none bytes lists left rest node us whole e g i =
    let n = next_left bytes lists left rest node (IsSought us whole) e i in
    record {
      texts = n.after.texts;
      shown = n.after.shown;
      holds = sym (ap (λ b. b || some_pair bytes_eq n.after.texts us) (sym (g n.text n.string))) ∙ n.after.holds;
    }

pub sought_all : (bytes : List ℕ) (lists : Lists) (left : List Node) (us : List (List ℕ)) (whole : Bool) → length left ≡ 0
    → IsLeft bytes lists left (IsSought us whole) → false ≡ whole
sought_all bytes lists left us whole e i = last_left bytes lists left (IsSought us whole) e i
