-- No name of the cut tag stands twice, and so the cut element is a document.
use Rattle.std.proofs.Common.{◌≡◌, ℕ, ◌+◌, Bool, true, false, cond, inl, inr, List, [], ◌∷◌, ◌++◌, map, Option, Some, None, refl, sym, ap}
use Rattle.std.proofs.Common.{ap₂, ◌∙◌, not, ◌&&◌, ◌||◌}
use Rattle.std.specs.Prelude.{is_some, bytes_eq, codes, filter, find, option_map, drop}
use Rattle.std.specs.List.{list_all, list_any, AllByRecursion as Each}
use Rattle.std.proofs.lemmas.Bool.{and_parts, or_cases, or_parts, or_from, false≢true, not-true}
use Rattle.std.proofs.lemmas.Slice.Eq.{bytes_eq-Decides}
use Rattle.xml_model.specs.Chars.{size, after_colon, begins, is_qname, is_ncname, is_name, is_name_start, is_name_char, in_ranges}
use Rattle.xml_model.specs.Items.{Attribute, Tag, is_nil, written_attribute}
use Rattle.xml_model.specs.Nest.{Forest}
use Rattle.xml_model.specs.Records.{declares}
use Rattle.xml_model.specs.Content.{value_content}
use Rattle.xml_model.specs.Names.{declaring, declaration_of}
use Rattle.xml_model.specs.Accepted.{repeated, name_place, declaration_offends}
use Rattle.xml_model.proofs.Each.{each_append, each_more}
use Rattle.xml_chars.proofs.Readers.{begins_split}
use Rattle.xml_fragments.specs.Cut.{AllClean, is_needed, needed, spaced, declared_prefix, has_declaration, is_free}
use Rattle.xml_fragments.proofs.Needed.{filter_none, find_right, none_of, later_none, append_nil_parts}
use Rattle.xml_fragments.proofs.CutNames.{is_sound, all_sound}
use Rattle.xml_fragments.proofs.CutShown.{needed_declares}

abbrev called : List ℕ → Attribute → Bool
called n a = bytes_eq a.name n

-- no name of a list stands again further on
abbrev Once : List Attribute → Type 0
Once [] = Unit {0}
Once (x ∷ xs) = (find (called x.name) xs ≡ None) × Once xs

same_name : (n : List ℕ) → bytes_eq n n ≡ true
same_name n = (bytes_eq-Decides n n).1 refl

once_from : (at : ℕ) (seen : List (List ℕ)) (xs : List Attribute) → repeated at seen xs ≡ [] → Once xs
once_from at seen [] e = tt
once_from at seen (x ∷ xs) e =
    let p = append_nil_parts (cond (list_any (bytes_eq x.name) seen) (name_place at x ∷ []) [])
    (repeated (at + size (written_attribute x)) (x.name ∷ seen) xs) e in (
      later_none x.name (at + size (written_attribute x)) (x.name ∷ seen) xs p.1
          (ap (λ (b : Bool). b || list_any (bytes_eq x.name) seen) (same_name x.name)),
      once_from (at + size (written_attribute x))
          (x.name ∷ seen) xs p.1,
    )

-- names that stand nowhere in a list
abbrev Absent : List (List ℕ) → List Attribute → Type 0
Absent [] xs = Unit {0}
Absent (n ∷ seen) xs = (find (called n) xs ≡ None) × Absent seen xs

unseen : (seen : List (List ℕ)) (x : Attribute) (xs : List Attribute) → Absent seen (x ∷ xs) →
    (list_any (bytes_eq x.name) seen ≡ false) × Absent seen xs
unseen [] x xs h = (refl, tt)
unseen (n ∷ seen) x xs h =
    let q = none_of (called n x) x (find (called n) xs) h.0 in
    let r = unseen seen x xs h.1 in
    (or_from _ _ q.0 r.0, (q.1, r.1))

once_to : (at : ℕ) (seen : List (List ℕ)) (xs : List Attribute) → Once xs → Absent seen xs → repeated at seen xs ≡ []
once_to at seen [] o h = refl
once_to at seen (x ∷ xs) o h =
    let q = unseen seen x xs h in
    ap₂ (λ (b : Bool) (ys : List ℕ). cond b (name_place at x ∷ []) [] ++ ys) q.0
    (once_to (at + size (written_attribute x)) (x.name ∷ seen) xs o.1 (o.0, q.1))

once_append : (xs ys : List Attribute) → Once xs → Once ys → Each (λ x. find (called x.name) ys ≡ None) xs → Once (xs ++ ys)
once_append [] ys o p h = p
once_append (x ∷ xs) ys o p h = (find_right (called x.name) xs ys o.0 ∙ h.0, once_append xs ys o.1 p h.1)

once_filter_by : (b : Bool) (r : Attribute → Bool) (x : Attribute) (xs : List Attribute) → find (called x.name) (filter r xs) ≡ None →
    Once (filter r xs) → Once (cond b (x ∷ filter r xs) (filter r xs))
once_filter_by true r x xs e o = (e, o)
once_filter_by false r x xs e o = o

once_filter : (r : Attribute → Bool) (xs : List Attribute) → Once xs → Once (filter r xs)
once_filter r [] o = tt
once_filter r (x ∷ xs) o = once_filter_by (r x) r x xs (filter_none (called x.name) r xs o.0) (once_filter r xs o.1)

spaced_by : (b : Bool) (x : Attribute) (o r : Option Attribute) → r ≡ option_map spaced o →
    cond b (Some (spaced x)) r ≡ option_map spaced (cond b (Some x) o)
spaced_by true x o r e = refl
spaced_by false x o r e = e

find_spaced : (n : List ℕ) (xs : List Attribute) → find (called n) (map spaced xs) ≡ option_map spaced (find (called n) xs)
find_spaced n [] = refl
find_spaced n (x ∷ xs) = spaced_by (called n x) x (find (called n) xs) (find (called n) (map spaced xs)) (find_spaced n xs)

once_spaced : (xs : List Attribute) → Once xs → Once (map spaced xs)
once_spaced [] o = tt
once_spaced (x ∷ xs) o = (find_spaced x.name xs ∙ ap (option_map spaced) o.0, once_spaced xs o.1)

each_spaced : (ys xs : List Attribute) → Each (λ x. find (called x.name) ys ≡ None) xs →
    Each (λ x. find (called x.name) ys ≡ None) (map spaced xs)
each_spaced ys [] h = tt
each_spaced ys (x ∷ xs) h = (h.0, each_spaced ys xs h.1)

-- ---- the name of a declaration that does not offend

bare_colon : is_qname (codes "xmlns:") ≡ false
unfolding is_qname is_ncname is_name is_name_start is_name_char in_ranges
bare_colon = refl

pub declared_name : (n : List ℕ) → declares n ≡ true → is_qname n ≡ true → n ≡ declaring (after_colon n)
unfolding declares
declared_name n d q = elim (or_cases (bytes_eq n (codes "xmlns")) (begins (codes "xmlns:") n) d) [
  | inl t ↦ let e = (bytes_eq-Decides n (codes "xmlns")).0 t in e ∙ ap (λ (m : List ℕ). declaring (after_colon m)) (sym e)
  | inr t ↦ behind n (drop 6 n) (begins_split (codes "xmlns:") n t) q
]
  where
    behind : (n rest : List ℕ) → n ≡ codes "xmlns:" ++ rest → is_qname n ≡ true → n ≡ declaring (after_colon n)
    behind n [] e q = absurd (false≢true (sym bare_colon ∙ sym (ap is_qname e) ∙ q))
    behind n (c ∷ rest) e q = e ∙ ap (λ (m : List ℕ). declaring (after_colon m)) (sym e)

pub sound_name : (d q x : Bool) → d ≡ true → (not d || not (not q || x)) ≡ true → q ≡ true
sound_name true true x e s = refl
sound_name true false x e s = s
sound_name false q x e s = absurd (false≢true e)

-- what a needed declaration is: of a prefix that no nearer tag declares and that is free
record Wanted (t : Tag) (inside : Forest) (nearer : List Tag) (x : Attribute) : Type 0 where
  prefix : List ℕ
  name : x.name ≡ declaring prefix
  hidden : list_any (has_declaration prefix) nearer ≡ false
  free : is_free prefix t inside ≡ true

wanted : (t : Tag) (inside : Forest) (nearer : List Tag) (x : Attribute) → is_needed t inside nearer x ≡ true → is_sound x ≡ true →
    Wanted t inside nearer x
wanted t inside nearer x h s =
    let p = declared_prefix x in
    let b = and_parts
    (declares x.name && not (is_nil (value_content x.value)) && not (bytes_eq p (codes "xml")) && not
    (list_any (has_declaration p) nearer)) (is_free p t inside) h in
    let c = and_parts (declares x.name && not (is_nil (value_content x.value)) && not (bytes_eq p (codes "xml")))
    (not (list_any (has_declaration p) nearer)) b.0 in
    let d = needed_declares t inside nearer x h in
    record {
      prefix = p;
      name = declared_name x.name d
          (sound_name (declares x.name) (is_qname x.name) (declaration_offends x.name (value_content x.value)) d s);
      hidden =
          not-true (list_any (has_declaration p) nearer) c.1;
      free = b.1;
    }

wanted_filter : (t : Tag) (inside : Forest) (nearer : List Tag) (xs : List Attribute) → list_all is_sound xs ≡ true →
    Each (Wanted t inside nearer) (filter (is_needed t inside nearer) xs)
wanted_filter t inside nearer [] h = tt
wanted_filter t inside nearer (x ∷ xs) h =
    by (is_needed t inside nearer x) (and_parts (is_sound x) (list_all is_sound xs) h).0 (wanted t inside nearer x)
    (wanted_filter t inside nearer xs (and_parts (is_sound x) (list_all is_sound xs) h).1)
  where
    by : (b : Bool) → is_sound x ≡ true → (b ≡ true → is_sound x ≡ true → Wanted t inside nearer x) →
        Each (Wanted t inside nearer) (filter (is_needed t inside nearer) xs) →
        Each (Wanted t inside nearer) (cond b (x ∷ filter (is_needed t inside nearer) xs) (filter (is_needed t inside nearer) xs))
    by true s w r = (w refl s, r)
    by false s w r = r

all_wanted : (t : Tag) (inside : Forest) (tags nearer : List Tag) → all_sound tags ≡ true →
    Each (Wanted t inside nearer) (needed t inside nearer tags)
all_wanted t inside [] nearer h = tt
all_wanted t inside (u ∷ tags) nearer h =
    let q = and_parts (list_all is_sound u.attributes) (all_sound tags) h in
    each_append (Wanted t inside nearer) (needed t inside (u ∷ nearer) tags) (filter (is_needed t inside nearer) u.attributes)
    (each_more (Wanted t inside (u ∷ nearer)) (Wanted t inside nearer)
    (λ x w. record { prefix = w.prefix; name = w.name; hidden = (or_parts _ _ w.hidden).1; free = w.free })
    (needed t inside (u ∷ nearer) tags) (all_wanted t inside tags (u ∷ nearer) q.1))
    (wanted_filter t inside nearer u.attributes q.0)

none_there : (o : Option Attribute) → is_some o ≡ false → o ≡ None
none_there None h = refl
none_there (Some a) h = absurd cc

-- the needed declarations, each once
needed_once : (t : Tag) (inside : Forest) (tags nearer : List Tag) → AllClean tags → all_sound tags ≡ true →
    Once (needed t inside nearer tags)
needed_once t inside [] nearer c h = tt
needed_once t inside (u ∷ tags) nearer c h =
    let q = and_parts (list_all is_sound u.attributes) (all_sound tags) h in
    let r = is_needed t inside nearer in
    let far = needed t inside (u ∷ nearer) tags in
    once_append far (filter r u.attributes) (needed_once t inside tags (u ∷ nearer) c.1 q.1)
    (once_filter r u.attributes (once_from 0 [] u.attributes c.0.once))
    (each_more (Wanted t inside (u ∷ nearer)) (λ x. find (called x.name) (filter r u.attributes) ≡ None) (λ x w.
    let none = none_there (declaration_of w.prefix u)
    (or_parts (has_declaration w.prefix u) (list_any (has_declaration w.prefix) nearer) w.hidden).0 in
    ap (λ (n : List ℕ). find (called n) (filter r u.attributes)) w.name
    ∙ filter_none (called (declaring w.prefix)) r u.attributes none) far (all_wanted t inside tags (u ∷ nearer) q.1))

-- the law: no name of the cut tag stands twice
pub cut_once : (t : Tag) (inside : Forest) (tags : List Tag) (at : ℕ) → AllClean tags → all_sound tags ≡ true →
    repeated 0 [] t.attributes ≡ [] → repeated at [] (map spaced (needed t inside [] tags) ++ t.attributes) ≡ []
cut_once t inside tags at c h own =
    once_to at [] (map spaced (needed t inside [] tags) ++ t.attributes)
    (once_append (map spaced (needed t inside [] tags)) t.attributes
    (once_spaced (needed t inside [] tags) (needed_once t inside tags [] c h)) (once_from 0 [] t.attributes own)
    (each_spaced t.attributes (needed t inside [] tags)
    (each_more (Wanted t inside []) (λ x. find (called x.name) t.attributes ≡ None) (λ x w.
    let none = none_there (declaration_of w.prefix t)
    (not-true (has_declaration w.prefix t) (and_parts (not (has_declaration w.prefix t)) _ w.free).0) in
    ap (λ (n : List ℕ). find (called n) t.attributes) w.name ∙ none) (needed t inside [] tags) (all_wanted t inside tags [] h)))) tt
