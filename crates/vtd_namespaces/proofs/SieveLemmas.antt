-- The sieve: attributes of one expanded name have one key.
use Rattle.std.proofs.Common.{◌≡◌, ℕ, ◌+◌, ◌<◌, Bool, true, false, cond, not, ◌||◌, List, [], ◌∷◌, ◌++◌, length, take, refl, ap, ap₂, sym, ◌∙◌, subst, arith, Option, Some, None, is_some, bytes_eq, fold, length-append, append_assoc}
use Rattle.std.specs.Prelude.{encode_utf8_all}
use Rattle.std.specs.Option.{unwrap_or}
use Rattle.std.specs.List.{list_any, AllByRecursion as Each}
use Rattle.std.proofs.Math.Seq.{take-append_seam}
use Rattle.std.proofs.lemmas.Bool.{false≢true, false_from_ne_true, and_parts}
use Rattle.std.proofs.lemmas.List.Sums.{fold-append}
use Rattle.std.proofs.lemmas.Slice.Eq.{bytes_eq-Decides}
use Rattle.xml_model.specs.Chars.{size, prefix_of, local_of, after_colon}
use Rattle.xml_model.specs.Items.{Attribute, Tag}
use Rattle.xml_model.specs.Records.{declares, name_token}
use Rattle.xml_model.specs.Names.{attribute_uri}
use Rattle.xml_model.specs.Accepted.{expanded_of, same_expanded}
use Rattle.xml_model.proofs.Each.{each_append}
use Rattle.vtd_text.specs.Fingerprints.{mixed, is_taken}
use Rattle.vtd_namespaces.specs.Reach.{same_uri}
use Rattle.vtd_namespaces.specs.Offences.{is_twin, key_of, IsNoted, IsWritten}
use Rattle.vtd_namespaces.proofs.OffenceLemmas.{OtherName, same_expanded_is}
use Rattle.vtd_namespaces.proofs.AttributeLemmas.{taken}
use Rattle.vtd_namespaces.specs.NameRecords.{IsNameRecord}
use Rattle.vtd_words.specs.declared.packing.Parts.{Parts}
use Rattle.vtd_words.specs.Packed.{record_of}
use Rattle.vtd_namespaces.proofs.DeclarationLemmas.{empty_encoded}
use Rattle.vtd_namespaces.proofs.QNameLemmas.{prefixed}

-- the number of an attribute's key, by that of its URI and its local part
pub key_number : (tags : List Tag) (a : Attribute) (name : List ℕ) (prefix : ℕ) → IsWritten name prefix a → 0 < prefix → (u r : ℕ) (o : Option (List ℕ)) (local : List ℕ) → u ≡ fold mixed 0 (unwrap_or o []) → o ≡ attribute_uri (prefix_of a.name) tags →
    local ≡ encode_utf8_all (after_colon a.name) → r ≡ fold mixed u local → r ≡ fold mixed 0 (key_of tags a)
key_number tags a name prefix w h u r o local d e f g =
    let p = prefixed a.name (λ z. omega (arith, h, w.prefix_size, z)) in
    g ∙ ap₂ (λ x y. fold mixed x y) (d ∙ ap (λ x. fold mixed 0 (unwrap_or x [])) e) (f ∙ ap encode_utf8_all (sym p.local))
    ∙ sym (fold-append mixed 0 (unwrap_or (attribute_uri (prefix_of a.name) tags) []) (encode_utf8_all (local_of a.name)))

same_one : (o q : Option (List ℕ)) → same_uri o q ≡ true → o ≡ q
same_one None None h = refl
same_one None (Some v) h = absurd (false≢true h)
same_one (Some u) None h = absurd (false≢true h)
same_one (Some u) (Some v) h = ap (λ x. Some x) ((bytes_eq-Decides u v).0 h)

not_twin : (tags : List Tag) (slots : List ℕ) (a b : Attribute) → is_some (attribute_uri (prefix_of a.name) tags) ≡ true → IsNoted tags slots b → is_taken slots (key_of tags a) ≡ false → is_twin tags a b ≡ false
not_twin tags slots a b some noted free = false_from_ne_true _ twin
  where
    twin : is_twin tags a b ≡ true → ⊥
    twin t =
        let p = and_parts (not (declares b.name)) (same_expanded (expanded_of tags a) (expanded_of tags b)) t in
        let q = and_parts (same_uri (attribute_uri (prefix_of a.name) tags) (attribute_uri (prefix_of b.name) tags)) (bytes_eq (local_of a.name) (local_of b.name)) (sym (same_expanded_is (expanded_of tags a) (expanded_of tags b)) ∙ p.1) in
        let uri = same_one (attribute_uri (prefix_of a.name) tags) (attribute_uri (prefix_of b.name) tags) q.0 in
        let local = (bytes_eq-Decides (local_of a.name) (local_of b.name)).0 q.1 in
        let key : key_of tags a ≡ key_of tags b = ap₂ (λ x y. unwrap_or x [] ++ encode_utf8_all y) uri local in
        let prefix : prefix_of b.name ≡ [] → ⊥ = λ z. false≢true (sym (ap is_some (uri ∙ ap (λ x. attribute_uri x tags) z)) ∙ some) in
        false≢true (sym free ∙ ap (is_taken slots) key ∙ noted p.0 prefix)

-- an attribute whose slot is free has no twin among those that are noted
no_noted_twin : (tags : List Tag) (slots : List ℕ) (a : Attribute) (done : List Attribute) → is_some (attribute_uri (prefix_of a.name) tags) ≡ true → Each (IsNoted tags slots) done → is_taken slots (key_of tags a) ≡ false → list_any (is_twin tags a) done ≡ false
no_noted_twin tags slots a [] some noted free = refl
no_noted_twin tags slots a (b ∷ done) some noted free = ap₂ (λ x y. x || y) (not_twin tags slots a b some noted.0 free) (no_noted_twin tags slots a done some noted.1 free)

-- one more is noted
still_noted : (tags : List Tag) (old new : List ℕ) (done : List Attribute) → ((key : List ℕ) → is_taken old key ≡ true → is_taken new key ≡ true) → Each (IsNoted tags old) done → Each (IsNoted tags new) done
still_noted tags old new [] kept noted = tt
still_noted tags old new (b ∷ done) kept noted = (λ d p. kept (key_of tags b) (noted.0 d p), still_noted tags old new done kept noted.1)

taken_more : (attributes done left : List Attribute) (a : Attribute) (number : ℕ) → attributes ≡ done ++ (a ∷ left) → length done ≡ number → take (number + 1) attributes ≡ done ++ (a ∷ [])
taken_more attributes done left a number split many =
    ap₂ take (sym (length-append done (a ∷ []) ∙ ap (λ k. k + 1) many)) (split ∙ sym (append_assoc done (a ∷ []) left)) ∙ take-append_seam (done ++ (a ∷ [])) left

pub noted_more : (tags : List Tag) (old new : List ℕ) (attributes done left : List Attribute) (a : Attribute) (number : ℕ) → attributes ≡ done ++ (a ∷ left) → length done ≡ number → ((key : List ℕ) → is_taken old key ≡ true → is_taken new key ≡ true) →
    Each (IsNoted tags old) (take number attributes) → IsNoted tags new a → Each (IsNoted tags new) (take (number + 1) attributes)
noted_more tags old new attributes done left a number split many kept noted here =
    let before = subst (Each (IsNoted tags old)) (taken attributes done left a number split many) noted in
    subst (Each (IsNoted tags new)) (sym (taken_more attributes done left a number split many)) (each_append (IsNoted tags new) done (a ∷ []) (still_noted tags old new done kept before) (here, tt))

-- an attribute whose slot is free is new
pub known_new : (tags : List Tag) (slots : List ℕ) (attributes done left : List Attribute) (a : Attribute) (number : ℕ) → attributes ≡ done ++ (a ∷ left) → length done ≡ number → Each (IsNoted tags slots) (take number attributes) →
    is_taken slots (key_of tags a) ≡ false → is_some (attribute_uri (prefix_of a.name) tags) ≡ true → list_any (is_twin tags a) done ≡ false
known_new tags slots attributes done left a number split many noted free some =
    no_noted_twin tags slots a done some (subst (Each (IsNoted tags slots)) (taken attributes done left a number split many) noted) free

pub known_record : (bytes : List ℕ) (p : Parts) (a : Attribute) → OtherName bytes p a → IsNameRecord bytes (record_of p) a.name
known_record bytes p a o = record { slice = o.slice; prefix = o.prefix; named = o.named }

-- what the sieve passes over: declarations, and attributes without a prefix
pub no_declaration : (a : Attribute) (n : ℕ) → n ≡ name_token a.name → n ≡ 3 → not (declares a.name) ≡ true → ⊥
no_declaration a n e h k = by (declares a.name) e k
  where
    by : (b : Bool) → n ≡ cond b 3 2 → not b ≡ true → ⊥
    by true e k = false≢true k
    by false e k = omega (arith, e, h)

pub no_prefix : (a : Attribute) (n : ℕ) → n ≡ size (prefix_of a.name) → n ≡ 0 → prefix_of a.name ≡ []
unfolding size
no_prefix a n e h = empty_encoded (prefix_of a.name) (sym e ∙ h)

pub not_known : {X : Type 0} {n : Bool} → false ≡ true → X → n ≡ false
not_known e x = absurd (false≢true e)
