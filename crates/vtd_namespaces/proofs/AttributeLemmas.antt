-- Whether an attribute or a declaration offends.
use Rattle.std.proofs.Common.{◌≡◌, ℕ, ◌+◌, ◌*◌, ◌<◌, Bool, true, false, cond, not, ◌&&◌, ◌||◌, List, [], ◌∷◌, ◌++◌, length, take, get_or, refl, ap, ap₂, sym, ◌∙◌, subst, arith, Option, Some, None, is_some, bytes_eq, codes, ◌⊎◌, ⊎_elim, inl, inr, length-append}
use Rattle.std.specs.Prelude.{slice_get}
use Rattle.std.specs.List.{list_any, AllByRecursion as Each}
use Rattle.std.proofs.Math.Seq.{take-append_seam, get_or-append_seam}
use Rattle.std.proofs.lemmas.Bool.{false≢true, cases_Bool}
use Rattle.xml_model.specs.Chars.{size, prefix_of, local_of, is_qname}
use Rattle.xml_model.specs.Items.{Attribute, Tag, first_place}
use Rattle.xml_model.specs.Nest.{Forest}
use Rattle.xml_model.specs.Records.{Record, records, declares}
use Rattle.xml_model.specs.Scan.{record_at}
use Rattle.xml_model.specs.Tree.{Holder}
use Rattle.xml_model.specs.Content.{value_content}
use Rattle.xml_model.specs.Names.{Expanded, attribute_uri, nearest, xml_uri}
use Rattle.xml_model.specs.Accepted.{is_bound, declaration_offends, attribute_offends, expanded_of, same_expanded, seen_with}
use Rattle.vtd_words.specs.declared.packing.Parts.{Parts}
use Rattle.vtd_words.specs.Packed.{record_of}
use Rattle.vtd_words.specs.Lists.{Lists}
use Rattle.vtd_words.specs.Table.{IsTable, Shows, nodes_of}
use Rattle.vtd_words.proofs.Fitting.{nest_shown}
use Rattle.vtd_text.specs.NameRecords.{IsDeclaration, IsNameOf}
use Rattle.vtd_namespaces.specs.NameRecords.{IsAttributeRecord}
use Rattle.vtd_namespaces.specs.Scope.{HolderIn}
use Rattle.vtd_namespaces.specs.Reach.{IsScope, same_uri}
use Rattle.vtd_namespaces.specs.Offences.{is_twin, seen_after, IsFine}
use Rattle.vtd_namespaces.proofs.DeclarationLemmas.{token_three, token_two}
use Rattle.vtd_namespaces.proofs.QNameLemmas.{unprefixed}
use Rattle.vtd_namespaces.proofs.ScopeLemmas.{uri_by}
use Rattle.vtd_namespaces.proofs.OffenceLemmas.{OtherName, other_name, scope_attribute, same_expanded_is}

-- the names seen and the attributes before

any_swapped : (a b c : Bool) → (a || (b || c)) ≡ ((b || a) || c)
any_swapped true true c = refl
any_swapped true false c = refl
any_swapped false true c = refl
any_swapped false false c = refl

seen_one : (f : Expanded → Bool) (tags : List Tag) (b : Attribute) (seen : List Expanded) → list_any f (seen_with tags b seen) ≡ ((not (declares b.name) && f (expanded_of tags b)) || list_any f seen)
seen_one f tags b seen = by (declares b.name)
  where
    by : (d : Bool) → list_any f (cond d [] (expanded_of tags b ∷ []) ++ seen) ≡ ((not d && f (expanded_of tags b)) || list_any f seen)
    by true = refl
    by false = refl

seen_any : (f : Expanded → Bool) (tags : List Tag) (done : List Attribute) (seen : List Expanded) → list_any f (seen_after tags seen done) ≡ (list_any (λ b. not (declares b.name) && f (expanded_of tags b)) done || list_any f seen)
seen_any f tags [] seen = refl
seen_any f tags (b ∷ done) seen =
    seen_any f tags done (seen_with tags b seen) ∙ ap (λ z. list_any (λ b. not (declares b.name) && f (expanded_of tags b)) done || z) (seen_one f tags b seen)
    ∙ any_swapped (list_any (λ b. not (declares b.name) && f (expanded_of tags b)) done) (not (declares b.name) && f (expanded_of tags b)) (list_any f seen)

pub twins_seen : (tags : List Tag) (a : Attribute) (done : List Attribute) → list_any (same_expanded (expanded_of tags a)) (seen_after tags [] done) ≡ list_any (is_twin tags a) done
twins_seen tags a done = seen_any (same_expanded (expanded_of tags a)) tags done [] ∙ or_false (list_any (is_twin tags a) done)
  where
    or_false : (z : Bool) → (z || false) ≡ z
    or_false true = refl
    or_false false = refl

-- a prefix that is bound has a URI

pub bound_uri : (p : List ℕ) (tags : List Tag) → (p ≡ [] → ⊥) → is_bound p tags ≡ true → is_some (attribute_uri p tags) ≡ true
bound_uri [] tags h b = absurd (h refl)
bound_uri (c ∷ p) tags h b = by (bytes_eq (c ∷ p) (codes "xml")) refl
  where
    by : (z : Bool) → bytes_eq (c ∷ p) (codes "xml") ≡ z → is_some (attribute_uri (c ∷ p) tags) ≡ true
    by true e = ap is_some (uri_by (c ∷ p) tags h ∙ ap (λ x. cond x (Some xml_uri) (nearest (c ∷ p) tags)) e)
    by false e = ap is_some (uri_by (c ∷ p) tags h ∙ ap (λ x. cond x (Some xml_uri) (nearest (c ∷ p) tags)) e) ∙ sym (ap (λ x. x || is_some (nearest (c ∷ p) tags)) e) ∙ b

-- by the answers of the tests

attribute_by : (tags : List Tag) (seen : List Expanded) (a : Attribute) (q d b : Bool) → is_qname a.name ≡ q → declares a.name ≡ d → is_bound (prefix_of a.name) tags ≡ b →
    attribute_offends tags seen a ≡ (not q || cond d (declaration_offends a.name (value_content a.value)) (not b || list_any (same_expanded (expanded_of tags a)) seen))
attribute_by tags seen a q d b e f g =
    ap₂ (λ x y. not x || cond y (declaration_offends a.name (value_content a.value)) (not (is_bound (prefix_of a.name) tags) || list_any (same_expanded (expanded_of tags a)) seen)) e f
    ∙ ap (λ z. not q || cond d (declaration_offends a.name (value_content a.value)) (not z || list_any (same_expanded (expanded_of tags a)) seen)) g

-- no earlier attribute has the expanded name of one without a prefix

size_nil : size [] ≡ 0
unfolding size
size_nil = refl

pub some_prefix : (p : List ℕ) (n : ℕ) → n ≡ size p → (n ≡ 0 → ⊥) → p ≡ [] → ⊥
some_prefix p n e h z = h (e ∙ ap size z ∙ size_nil)

no_twin : (tags : List Tag) (a b : Attribute) → prefix_of a.name ≡ [] → local_of a.name ≡ a.name → IsFine tags b → bytes_eq a.name b.name ≡ false → is_twin tags a b ≡ false
no_twin tags a b none local f n = ⊎_elim declared other (cases_Bool (declares b.name))
  where
    declared : declares b.name ≡ true → is_twin tags a b ≡ false
    declared d = ap (λ x. not x && same_expanded (expanded_of tags a) (expanded_of tags b)) d

    apart : declares b.name ≡ false → (same_uri (attribute_uri (prefix_of a.name) tags) (attribute_uri (prefix_of b.name) tags) && bytes_eq (local_of a.name) (local_of b.name)) ≡ false → is_twin tags a b ≡ false
    apart d e = ap (λ x. not x && same_expanded (expanded_of tags a) (expanded_of tags b)) d ∙ same_expanded_is (expanded_of tags a) (expanded_of tags b) ∙ e

    left : (q : List ℕ) → same_uri (attribute_uri (prefix_of a.name) tags) (attribute_uri q tags) ≡ same_uri None (attribute_uri q tags)
    left q = ap (λ p. same_uri (attribute_uri p tags) (attribute_uri q tags)) none

    some_apart : (o : Option (List ℕ)) → is_some o ≡ true → same_uri None o ≡ false
    some_apart None h = absurd (false≢true h)
    some_apart (Some u) h = refl

    and_no : (z : Bool) → (z && false) ≡ false
    and_no true = refl
    and_no false = refl

    with_prefix : declares b.name ≡ false → (prefix_of b.name ≡ [] → ⊥) → is_twin tags a b ≡ false
    with_prefix d h =
        let u = bound_uri (prefix_of b.name) tags h (f.bound (ap not d)) in
        apart d (ap (λ z. z && bytes_eq (local_of a.name) (local_of b.name)) (left (prefix_of b.name) ∙ some_apart (attribute_uri (prefix_of b.name) tags) u))

    without : declares b.name ≡ false → prefix_of b.name ≡ [] → is_twin tags a b ≡ false
    without d h =
        let l : local_of b.name ≡ b.name = (unprefixed b.name (ap size h ∙ size_nil)).local f.qualified in
        apart d (ap₂ (λ y z. y && z) refl (ap₂ bytes_eq local l ∙ n) ∙ and_no _)

    nil_or : (q : List ℕ) → (q ≡ []) ⊎ (q ≡ [] → ⊥)
    nil_or [] = inl refl
    nil_or (c ∷ q) = inr (λ z. cc)

    other : declares b.name ≡ false → is_twin tags a b ≡ false
    other d = ⊎_elim (without d) (with_prefix d) (nil_or (prefix_of b.name))

pub no_twins : (tags : List Tag) (a : Attribute) (done : List Attribute) → prefix_of a.name ≡ [] → local_of a.name ≡ a.name → Each (IsFine tags) done → Each (λ b. bytes_eq a.name b.name ≡ false) done → list_any (is_twin tags a) done ≡ false
no_twins tags a [] none local f n = refl
no_twins tags a (b ∷ done) none local f n = ap₂ (λ x y. x || y) (no_twin tags a b none local f.0 n.0) (no_twins tags a done none local f.1 n.1)

-- an attribute of the nearest tag, by its record

get_seam : (done left : List Attribute) (a : Attribute) → slice_get (done ++ (a ∷ left)) (length done) ≡ Some a
get_seam [] left a = refl
get_seam (b ∷ done) left a = get_seam done left a

pub record Attends (bytes : List ℕ) (nest : Forest) (p : Parts) (n : ℕ) (a : Attribute) : Type 0 where
  pub other : OtherName bytes p a
  pub holds : IsNameOf bytes nest n a

pub attends : (bytes : List ℕ) (lists : Lists) (open_tags : List ℕ) (depth : ℕ) (nest : Forest) (x : Holder) (xs : List Holder) → IsScope bytes lists open_tags depth nest (x ∷ xs) → (first number : ℕ) → first ≡ x.index + 1 →
    (done left : List Attribute) (a : Attribute) → x.tag.attributes ≡ done ++ (a ∷ left) → length done ≡ number → (p : Parts) → ((rs : List Record) → Shows lists.records rs → record_of p ≡ record_at (first + 2 * number) rs) → Attends bytes nest p (first + 2 * number) a
attends bytes lists open_tags depth nest x xs s first number e done left a split many p here =
    let rs = records nest (first_place bytes) in
    let within : number < length x.tag.attributes = omega (arith, ap (λ l. length l) split, length-append done (a ∷ left), many) in
    let r = scope_attribute bytes lists open_tags depth nest x xs s first number a e within in
    let same : get_or x.tag.attributes number a ≡ a = ap₂ (λ l k. get_or l k a) split (sym many) ∙ get_or-append_seam done a left a in
    let rec : IsAttributeRecord bytes rs (first + 2 * number) r.0 a = subst (λ b. IsAttributeRecord bytes rs (first + 2 * number) r.0 b) same r.1 in
    let h : HolderIn (nodes_of bytes nest) x xs = s.chain.0 in
    record {
      other = other_name bytes rs (first + 2 * number) r.0 p a (here rs (nest_shown bytes lists nest s.few s.shown)) rec;
      holds = record {
        entry = h.entry;
        there = h.there;
        tag = x.tag;
        inside = h.inside;
        element = h.what;
        number = number;
        holds = ap₂ slice_get split (sym many) ∙ get_seam done left a;
        index = ap (λ m. m + 2 * number) (e ∙ ap (λ m. m + 1) (sym h.index));
      };
    }

pub taken : (attributes done left : List Attribute) (a : Attribute) (number : ℕ) → attributes ≡ done ++ (a ∷ left) → length done ≡ number → take number attributes ≡ done
taken attributes done left a number split many = ap₂ take (sym many) split ∙ take-append_seam done (a ∷ left)

-- the answers

pub not_qualified : (tags : List Tag) (seen : List Expanded) (a : Attribute) → is_qname a.name ≡ false → true ≡ attribute_offends tags seen a
not_qualified tags seen a q = sym (attribute_by tags seen a false _ _ q refl refl)

pub by_declaration : (bytes : List ℕ) (p : Parts) (tags : List Tag) (seen : List Expanded) (a : Attribute) (r : Bool) → OtherName bytes p a → is_qname a.name ≡ true → p.token ≡ 3 → r ≡ declaration_offends a.name (value_content a.value) → r ≡ attribute_offends tags seen a
by_declaration bytes p tags seen a r o q t e = e ∙ sym (attribute_by tags seen a true true _ q (token_three (declares a.name) (sym o.token ∙ t)) refl)

pub by_no_prefix : (bytes : List ℕ) (p : Parts) (tags : List Tag) (done : List Attribute) (a : Attribute) → OtherName bytes p a → is_qname a.name ≡ true → (p.token ≡ 3 → ⊥) → p.prefix ≡ 0 → Each (IsFine tags) done → Each (λ b. bytes_eq a.name b.name ≡ false) done →
    false ≡ attribute_offends tags (seen_after tags [] done) a
by_no_prefix bytes p tags done a o q t z f n =
    let u = unprefixed a.name (sym o.prefix ∙ z) in
    let d : declares a.name ≡ false = token_two (declares a.name) (λ k. t (o.token ∙ k)) in
    let b : is_bound (prefix_of a.name) tags ≡ true = ap (λ y. is_bound y tags) u.none in
    sym (attribute_by tags (seen_after tags [] done) a true false true q d b ∙ twins_seen tags a done ∙ no_twins tags a done u.none (u.local q) f n)

pub by_unbound : (bytes : List ℕ) (p : Parts) (tags : List Tag) (seen : List Expanded) (a : Attribute) → OtherName bytes p a → is_qname a.name ≡ true → (p.token ≡ 3 → ⊥) → is_bound (prefix_of a.name) tags ≡ false → true ≡ attribute_offends tags seen a
by_unbound bytes p tags seen a o q t b = sym (attribute_by tags seen a true false false q (token_two (declares a.name) (λ k. t (o.token ∙ k))) b)

pub by_twins : (bytes : List ℕ) (p : Parts) (tags : List Tag) (done : List Attribute) (a : Attribute) (r : Bool) → OtherName bytes p a → is_qname a.name ≡ true → (p.token ≡ 3 → ⊥) → is_bound (prefix_of a.name) tags ≡ true → r ≡ list_any (is_twin tags a) done →
    r ≡ attribute_offends tags (seen_after tags [] done) a
by_twins bytes p tags done a r o q t b e =
    e ∙ sym (twins_seen tags a done) ∙ sym (attribute_by tags (seen_after tags [] done) a true false true q (token_two (declares a.name) (λ k. t (o.token ∙ k))) b)

pub declaration_at : (bytes : List ℕ) (lists : Lists) → IsTable bytes lists → (p : Parts) (n : ℕ) → ((rs : List Record) → Shows lists.records rs → record_of p ≡ record_at n rs) → p.token ≡ 3 → IsDeclaration bytes lists n
declaration_at bytes lists t p n here e =
    record { nest = t.nest; shown = t.shown; declaration = ap (λ r. r.token) (sym (here (records t.nest (first_place bytes)) (nest_shown bytes lists t.nest t.few t.shown))) ∙ e }
