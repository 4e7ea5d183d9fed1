-- What a memo notes of tags and prefixes.
use Rattle.std.proofs.Common.{◌≡◌, ℕ, zero, suc, ◌+◌, ◌<◌, ◌≤◌, List, length, set, refl, ap, sym, ◌∙◌, subst, arith, Option, Some, None, IfSome, ◌⊎◌, ⊎_elim, inl, inr, get_or-set_same, get_or-set_other}
use Rattle.std.specs.Prelude.{take, drop, encode_utf8_all}
use Rattle.std.specs.Option.{unwrap_or}
use Rattle.std.specs.List.{slice_index_or}
use Rattle.std.proofs.lemmas.Bool.{cases_lt}
use Rattle.xml_model.specs.declared.TokenKind.TheVariants as token
use Rattle.xml_model.specs.Items.{Tag}
use Rattle.xml_model.specs.Records.{Record, kind_number}
use Rattle.xml_model.specs.Scan.{record_at}
use Rattle.vtd_words.specs.Table.{Shows}
use Rattle.vtd_namespaces.specs.NameRecords.{AreAttributeRecords}
use Rattle.vtd_namespaces.specs.Reach.{some_of, IsKnown, IsMemo}
use Rattle.vtd_namespaces.specs.Scope.{IsDeclarationIn}

-- an index that is not 0
pub none_of : (n : ℕ) → n ≡ 0 → None ≡ some_of n
none_of n z = sym (ap some_of z)

pub index_of : (n : ℕ) → (n ≡ 0 → ⊥) → Some n ≡ some_of n
index_of zero h = absurd (h refl)
index_of (suc n) h = refl

pub number_back : (found : Option ℕ) (least : ℕ) → 0 < least → IfSome found (λ n. least ≤ n) → some_of (unwrap_or found 0) ≡ found
number_back None least h k = refl
number_back (Some n) least h k = sym (index_of n (λ z. omega arith))

known_along : (bytes words : List ℕ) (a b c d a' b' c' d' : ℕ) → a' ≡ a → b' ≡ b → c' ≡ c → d' ≡ d → IsKnown bytes words a b c d →
    IsKnown bytes words a' b' c' d'
known_along bytes words a b c d a' b' c' d' e f g h k =
    subst (λ n. IsKnown bytes words n b' c' d') (sym e) (subst (λ n. IsKnown bytes words a n c' d') (sym f)
    (subst (λ n. IsKnown bytes words a b n d') (sym g) (subst (λ n. IsKnown bytes words a b c n) (sym h) k)))

pub equal_or : (m n : ℕ) → (m ≡ n) ⊎ (m ≡ n → ⊥)
equal_or m n = ⊎_elim (λ s. inr (λ e. omega arith)) (λ s. ⊎_elim (λ t. inr (λ e. omega arith)) (λ t. inl (omega arith)) (cases_lt n m)) (cases_lt m n)

-- a memo with one place more
pub memo_more : (bytes words tags offsets lens declarations : List ℕ) (place tag offset len declaration : ℕ) → place < length tags →
    place < length offsets → place < length lens → place < length declarations →
    IsMemo bytes words tags offsets lens declarations → IsKnown bytes words tag offset len declaration →
    IsMemo bytes words (set tags place tag) (set offsets place offset) (set lens place len) (set declarations place declaration)
memo_more bytes words tags offsets lens declarations place tag offset len declaration h i j l m k = λ n some. ⊎_elim
    (λ e.
    known_along bytes words tag offset len declaration _ _ _ _
    (ap (λ x. slice_index_or (set tags place tag) x 0) e ∙ get_or-set_same tags place tag 0 h)
    (ap (λ x. slice_index_or (set offsets place offset) x 0) e ∙ get_or-set_same offsets place offset 0 i)
    (ap (λ x. slice_index_or (set lens place len) x 0) e ∙ get_or-set_same lens place len 0 j)
    (ap (λ x. slice_index_or (set declarations place declaration) x 0) e ∙ get_or-set_same declarations place declaration 0 l) k)
    (λ e.
    let same : slice_index_or (set tags place tag) n 0 ≡ slice_index_or tags n 0 = get_or-set_other tags place n tag 0 e in
    known_along bytes words _ _ _ _ _ _ _ _ same (get_or-set_other offsets place n offset 0 e) (get_or-set_other lens place n len 0 e)
    (get_or-set_other declarations place n declaration 0 e) (m n (omega (arith, some, same))))
    (equal_or n place)

-- what is noted, out of the memo
pub known_at : (bytes words tags offsets lens declarations : List ℕ) → IsMemo bytes words tags offsets lens declarations → (place tag : ℕ) → 0 < tag →
    slice_index_or tags place 0 ≡ tag →
    IsKnown bytes words tag (slice_index_or offsets place 0) (slice_index_or lens place 0) (slice_index_or declarations place 0)
known_at bytes words tags offsets lens declarations m place tag some e =
    subst (λ n. IsKnown bytes words n (slice_index_or offsets place 0) (slice_index_or lens place 0) (slice_index_or declarations place 0)) e (m place (omega (arith, e, some)))

-- what was found by a look along the names
pub known_by : (bytes words prefix : List ℕ) (tag offset len : ℕ) (found : Option ℕ) → take len (drop offset bytes) ≡ prefix →
    IfSome found (λ n. tag + 1 ≤ n) →
    ((rs : List Record) → Shows words rs → (at : ℕ) (t : Tag) → AreAttributeRecords bytes rs (tag + 1) at t.attributes → (p : List ℕ) →
    prefix ≡ encode_utf8_all p → IsDeclarationIn (tag + 1) t p found) →
    ((rs : List Record) → Shows words rs → IfSome found (λ n. (record_at n rs).token ≡ kind_number token.NamespaceName)) →
    IsKnown bytes words tag offset len (unwrap_or found 0)
known_by bytes words prefix tag offset len found e later f d =
    let back : found ≡ some_of (unwrap_or found 0) = sym (number_back found (tag + 1) (omega arith) later) in
    record {
      found = λ rs s at t hold p h. subst (IsDeclarationIn (tag + 1) t p) back (f rs s at t hold p (sym e ∙ h));
      declares = λ rs s. subst (λ o. IfSome o (λ n. (record_at n rs).token ≡ kind_number token.NamespaceName)) back (d rs s);
    }
