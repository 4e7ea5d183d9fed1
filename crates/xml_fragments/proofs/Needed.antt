-- The declarations that a cut element is given bind what it uses as they were bound.
use Rattle.std.proofs.Common.{◌≡◌, ℕ, ◌+◌, Bool, true, false, cond, ◌⊎◌, inl, inr, List, [], ◌∷◌, ◌++◌, map, Option, Some, None, refl}
use Rattle.std.proofs.Common.{sym, ap, ap₂, ◌∙◌, not, ◌&&◌, ◌||◌}
use Rattle.std.specs.Prelude.{is_some, bytes_eq, codes, filter, find, option_map}
use Rattle.std.specs.List.{list_any}
use Rattle.std.proofs.lemmas.Bool.{and_from, and_left, and_right, or_left, or_right, false≢true, cases_Bool, not_from_false}
use Rattle.std.proofs.lemmas.Bool.{not_from_true, false_from_ne_true, or_from}
use Rattle.std.proofs.lemmas.Option.{same_Some}
use Rattle.std.proofs.lemmas.Slice.Eq.{bytes_eq-Decides}
use Rattle.xml_model.specs.Chars.{size, after_colon}
use Rattle.xml_model.specs.Items.{Attribute, Tag, is_nil, written_attribute}
use Rattle.xml_model.specs.Nest.{Forest}
use Rattle.xml_model.specs.Records.{declares}
use Rattle.xml_model.specs.Content.{value_content}
use Rattle.xml_model.specs.Names.{declaring, declaration_of, first_of, nearest, binding, declared, xml_uri}
use Rattle.xml_model.specs.Accepted.{repeated, name_place}
use Rattle.xml_fragments.specs.Cut.{has_declaration, tag_uses, uses, is_free, declared_prefix, is_needed, needed, spaced, cut_tag, Clean}
use Rattle.xml_fragments.specs.Cut.{AllClean}
use Rattle.xml_fragments.proofs.ShownNodes.{Same}

-- whether an attribute declares a prefix
abbrev pub names : List ℕ → Attribute → Bool
names p a = bytes_eq a.name (declaring p)

-- ---- searches

find_left : (q : Attribute → Bool) (xs ys : List Attribute) → find q ys ≡ None → find q (xs ++ ys) ≡ find q xs
find_left q [] ys e = e
find_left q (x ∷ xs) ys e = ap (λ (o : Option Attribute). cond (q x) (Some x) o) (find_left q xs ys e)

pub some_none : (x : Attribute) → ◌≡◌ {A = Option Attribute} (Some x) None → ⊥
some_none x h = cc

right_by : (b : Bool) (x : Attribute) (o more r : Option Attribute) → (o ≡ None → more ≡ r) → cond b (Some x) o ≡ None →
    cond b (Some x) more ≡ r
right_by true x o more r h e = absurd (some_none x e)
right_by false x o more r h e = h e

pub find_right : (q : Attribute → Bool) (xs ys : List Attribute) → find q xs ≡ None → find q (xs ++ ys) ≡ find q ys
find_right q [] ys e = refl
find_right q (x ∷ xs) ys e = right_by (q x) x (find q xs) (find q (xs ++ ys)) (find q ys) (find_right q xs ys) e

pub none_of : (b : Bool) (x : Attribute) (o : Option Attribute) → cond b (Some x) o ≡ None → (b ≡ false) × (o ≡ None)
none_of true x o e = absurd (some_none x e)
none_of false x o e = (refl, e)

-- of an attribute that the search takes or passes by
taken : (b : Bool) (x a : Attribute) (o : Option Attribute) → b ≡ true → cond b (Some x) o ≡ Some a → x ≡ a
taken true x a o t e = same_Some x a e
taken false x a o t e = absurd (false≢true t)

passed : (b : Bool) (x : Attribute) (o r : Option Attribute) → b ≡ false → cond b (Some x) o ≡ r → o ≡ r
passed true x o r f e = absurd (false≢true (sym f))
passed false x o r f e = e

kept : (b : Bool) (q : Attribute → Bool) (x : Attribute) (ys : List Attribute) → q x ≡ false → find q (cond b (x ∷ ys) ys) ≡ find q ys
kept true q x ys f = ap (λ (b : Bool). cond b (Some x) (find q ys)) f
kept false q x ys f = refl

pub filter_none : (q r : Attribute → Bool) (xs : List Attribute) → find q xs ≡ None → find q (filter r xs) ≡ None
filter_none q r [] e = refl
filter_none q r (x ∷ xs) e = let n = none_of (q x) x (find q xs) e in kept (r x) q x (filter r xs) n.0 ∙ filter_none q r xs n.1

dropped_one : (b : Bool) (x : Attribute) (ys : List Attribute) → b ≡ false → cond b (x ∷ ys) ys ≡ ys
dropped_one true x ys f = absurd (false≢true (sym f))
dropped_one false x ys f = refl

kept_one : (b : Bool) (x : Attribute) (ys : List Attribute) → b ≡ true → cond b (x ∷ ys) ys ≡ x ∷ ys
kept_one true x ys f = refl
kept_one false x ys f = absurd (false≢true f)

filter_dropped : (q r : Attribute → Bool) (xs : List Attribute) → ((x : Attribute) → q x ≡ true → r x ≡ false) →
    find q (filter r xs) ≡ None
filter_dropped q r [] h = refl
filter_dropped q r (x ∷ xs) h = elim (cases_Bool (q x)) [
  | inl t ↦ ap (find q) (dropped_one (r x) x (filter r xs) (h x t)) ∙ filter_dropped q r xs h
  | inr f ↦ kept (r x) q x (filter r xs) f ∙ filter_dropped q r xs h
]

find_kept : (q r : Attribute → Bool) (xs : List Attribute) (a : Attribute) → find q xs ≡ Some a → r a ≡ true →
    find q (filter r xs) ≡ Some a
find_kept q r [] a e k = e
find_kept q r (x ∷ xs) a e k = elim (cases_Bool (q x)) [
  | inl t ↦
      let same = taken (q x) x a (find q xs) t e in
      ap (find q) (kept_one (r x) x (filter r xs) (ap r same ∙ k)) ∙ ap (λ (b : Bool). cond b (Some x) (find q (filter r xs))) t
      ∙ ap (λ (y : Attribute). Some y) same
  | inr f ↦ kept (r x) q x (filter r xs) f ∙ find_kept q r xs a (passed (q x) x (find q xs) (Some a) f e) k
]

-- ---- a name stands once in a tag

pub append_nil_parts : (xs ys : List ℕ) → xs ++ ys ≡ [] → (xs ≡ []) × (ys ≡ [])
append_nil_parts [] ys e = (refl, e)
append_nil_parts (x ∷ xs) ys e = absurd cc

one_false : (b : Bool) (n : ℕ) → cond b (n ∷ []) [] ≡ [] → b ≡ false
one_false true n e = absurd cc
one_false false n e = refl

pub later_none : (n : List ℕ) (at : ℕ) (seen : List (List ℕ)) (xs : List Attribute) → repeated at seen xs ≡ [] →
    list_any (bytes_eq n) seen ≡ true → find (λ a. bytes_eq a.name n) xs ≡ None
later_none n at seen [] e s = refl
later_none n at seen (x ∷ xs) e s =
    let p = append_nil_parts (cond (list_any (bytes_eq x.name) seen) (name_place at x ∷ []) [])
    (repeated (at + size (written_attribute x)) (x.name ∷ seen) xs) e in
    let fresh = one_false (list_any (bytes_eq x.name) seen) (name_place at x) p.0 in
    let other : bytes_eq x.name n ≡ false =
    false_from_ne_true _
    (λ t. let same = (bytes_eq-Decides x.name n).0 t in false≢true
    (sym fresh ∙ ap (λ (m : List ℕ). list_any (bytes_eq m) seen) same ∙ s)) in
    ap (λ (b : Bool). cond b (Some x) (find (λ a. bytes_eq a.name n) xs)) other
    ∙ later_none n (at + size (written_attribute x)) (x.name ∷ seen) xs p.1 (or_right _ _ s)

first_alone : (n : List ℕ) (r : Attribute → Bool) (at : ℕ) (seen : List (List ℕ)) (xs : List Attribute) (a : Attribute) →
    repeated at seen xs ≡ [] → find (λ a. bytes_eq a.name n) xs ≡ Some a → r a ≡ false →
    find (λ a. bytes_eq a.name n) (filter r xs) ≡ None
first_alone n r at seen [] a e f k = absurd cc
first_alone n r at seen (x ∷ xs) a e f k =
    let q = λ (y : Attribute). bytes_eq y.name n in
    let p = append_nil_parts (cond (list_any (bytes_eq x.name) seen) (name_place at x ∷ []) [])
    (repeated (at + size (written_attribute x)) (x.name ∷ seen) xs) e in
    elim (cases_Bool (bytes_eq x.name n)) [
      | inl t ↦
          let same = taken (bytes_eq x.name n) x a (find q xs) t f in
          let is = (bytes_eq-Decides x.name n).0 t in
          let again : list_any (bytes_eq n) (x.name ∷ seen) ≡ true = or_left _ _ ((bytes_eq-Decides n x.name).1 (sym is)) in
          ap (find q) (dropped_one (r x) x (filter r xs) (ap r same ∙ k))
          ∙ filter_none q r xs (later_none n (at + size (written_attribute x)) (x.name ∷ seen) xs p.1 again)
      | inr g ↦ kept (r x) q x (filter r xs) g
          ∙ first_alone n r (at + size (written_attribute x)) (x.name ∷ seen) xs a p.1
          (passed (bytes_eq x.name n) x (find q xs) (Some a) g f) k
    ]

-- ---- what is needed

declaring_declares : (p : List ℕ) → declares (declaring p) ≡ true
unfolding declares
declaring_declares [] = refl
declaring_declares (c ∷ p) = refl

declaring_prefix : (p : List ℕ) → after_colon (declaring p) ≡ p
declaring_prefix [] = refl
declaring_prefix (c ∷ p) = refl

pub named_prefix : (p : List ℕ) (a : Attribute) → names p a ≡ true → (declares a.name ≡ true) × (declared_prefix a ≡ p)
named_prefix p a e = let same =
    (bytes_eq-Decides a.name (declaring p)).0 e in (ap declares same ∙ declaring_declares p, ap after_colon same ∙ declaring_prefix p)

abbrev is_needed_by : Tag → Forest → List Tag → Bool → Bool → List ℕ → Bool
is_needed_by t inside nearer d n p =
    d && not n && not (bytes_eq p (codes "xml")) && not (list_any (has_declaration p) nearer) && is_free p t inside

needed_is : (t : Tag) (inside : Forest) (nearer : List Tag) (p : List ℕ) (a : Attribute) → names p a ≡ true →
    is_needed t inside nearer a ≡ is_needed_by t inside nearer true (is_nil (value_content a.value)) p
needed_is t inside nearer p a e = let n =
    named_prefix p a e in ap₂ (λ (d : Bool) (q : List ℕ). is_needed_by t inside nearer d (is_nil (value_content a.value)) q) n.0 n.1

needed_yes : (t : Tag) (inside : Forest) (nearer : List Tag) (p : List ℕ) (a : Attribute) → names p a ≡ true →
    is_nil (value_content a.value) ≡ false → bytes_eq p (codes "xml") ≡ false → list_any (has_declaration p) nearer ≡ false →
    is_free p t inside ≡ true →
    is_needed t inside nearer a ≡ true
needed_yes t inside nearer p a e v x n f = needed_is t inside nearer p a e
    ∙ and_from _ _ (and_from _ _ (and_from _ _ (not_from_false _ v) (not_from_false _ x)) (not_from_false _ n)) f

needed_empty : (t : Tag) (inside : Forest) (nearer : List Tag) (p : List ℕ) (a : Attribute) → names p a ≡ true →
    is_nil (value_content a.value) ≡ true → is_needed t inside nearer a ≡ false
needed_empty t inside nearer p a e v = needed_is t inside nearer p a e ∙ and_left _ _ (and_left _ _ (and_left _ _ (not_from_true _ v)))

abbrev Unneeded : Tag → Forest → List Tag → List ℕ → Type 0
Unneeded t inside nearer p = (list_any (has_declaration p) nearer ≡ true) ⊎ (is_free p t inside ≡ false)

needed_no : (t : Tag) (inside : Forest) (nearer : List Tag) (p : List ℕ) (a : Attribute) → names p a ≡ true →
    Unneeded t inside nearer p → is_needed t inside nearer a ≡ false
needed_no t inside nearer p a e (inl s) = needed_is t inside nearer p a e ∙ and_left _ _ (and_right _ _ (not_from_true _ s))
needed_no t inside nearer p a e (inr f) = needed_is t inside nearer p a e ∙ and_right _ _ f

more_near : (t : Tag) (inside : Forest) (nearer : List Tag) (p : List ℕ) (u : Tag) → Unneeded t inside nearer p →
    Unneeded t inside (u ∷ nearer) p
more_near t inside nearer p u (inl s) = inl (or_right _ _ s)
more_near t inside nearer p u (inr f) = inr f

unneeded : (t : Tag) (inside : Forest) (tags nearer : List Tag) (p : List ℕ) → Unneeded t inside nearer p →
    find (names p) (needed t inside nearer tags) ≡ None
unneeded t inside [] nearer p h = refl
unneeded t inside (u ∷ tags) nearer p h =
    find_right (names p) (needed t inside (u ∷ nearer) tags) (filter (is_needed t inside nearer) u.attributes)
    (unneeded t inside tags (u ∷ nearer) p (more_near t inside nearer p u h))
    ∙ filter_dropped (names p) (is_needed t inside nearer) u.attributes (λ a e. needed_no t inside nearer p a e h)

-- what a declaration that was found says
abbrev said : Option Attribute → Option (List ℕ)
said o = first_of o None

pub found_named : (q : Attribute → Bool) (xs : List Attribute) (a : Attribute) → find q xs ≡ Some a → q a ≡ true
found_named q [] a e = absurd cc
found_named q (x ∷ xs) a e = elim (cases_Bool (q x)) [
  | inl t ↦ sym (ap q (taken (q x) x a (find q xs) t e)) ∙ t
  | inr f ↦ found_named q xs a (passed (q x) x (find q xs) (Some a) f e)
]

nil_is_nil : (xs : List ℕ) → is_nil xs ≡ true → xs ≡ []
nil_is_nil [] h = refl
nil_is_nil (x ∷ xs) h = absurd (false≢true h)

-- the declaration of the nearest tag that has one, or none where it is empty
here_said : (t : Tag) (inside : Forest) (nearer : List Tag) (p : List ℕ) (u : Tag) (a : Attribute) (o : Option (List ℕ)) → Clean u →
    bytes_eq p (codes "xml") ≡ false → list_any (has_declaration p) nearer ≡ false → is_free p t inside ≡ true →
    declaration_of p u ≡ Some a →
    declared p (Some (value_content a.value)) ≡ declared p (said (find (names p) (filter (is_needed t inside nearer) u.attributes)))
here_said t inside nearer p u a o clean x n f e =
    let r = is_needed t inside nearer in
    let named = found_named (names p) u.attributes a e in
    elim (cases_Bool (is_nil (value_content a.value))) [
      | inl v ↦
          let none = first_alone (declaring p) r 0 [] u.attributes a clean.once e (needed_empty t inside nearer p a named v) in
          let is : p ≡ [] = clean.filled p a e v in
          let w : value_content a.value ≡ [] = nil_is_nil (value_content a.value) v in
          ap₂ (λ (q v : List ℕ). declared q (Some v)) is w
          ∙ sym (ap₂ (λ (q : List ℕ) (s : Option Attribute). declared q (said s)) is none)
      | inr v ↦ sym
          (ap (λ (s : Option Attribute). declared p (said s))
          (find_kept (names p) r u.attributes a e (needed_yes t inside nearer p a named v x n f)))
    ]

say_by : (t : Tag) (inside : Forest) (tags nearer : List Tag) (p : List ℕ) (u : Tag) → AllClean (u ∷ tags) →
    bytes_eq p (codes "xml") ≡ false → list_any (has_declaration p) nearer ≡ false → is_free p t inside ≡ true → (o : Option Attribute) →
    declaration_of p u ≡ o →
    (list_any (has_declaration p) (u ∷ nearer) ≡ false → is_free p t inside ≡ true →
    declared p (nearest p tags) ≡ declared p (said (find (names p) (needed t inside (u ∷ nearer) tags)))) →
    declared p (nearest p (u ∷ tags)) ≡ declared p (said (find (names p) (needed t inside nearer (u ∷ tags))))
say_by t inside tags nearer p u c x n f (Some a) e ih =
    let has : has_declaration p u ≡ true = ap (λ (o : Option Attribute). is_some o) e in
    let far = unneeded t inside tags (u ∷ nearer) p (inl (or_left _ _ has)) in
    ap (λ (o : Option Attribute). declared p (first_of o (nearest p tags))) e
    ∙ here_said t inside nearer p u a None c.0 x n f e
    ∙ sym (ap (λ (o : Option Attribute). declared p (said o))
    (find_right (names p) (needed t inside (u ∷ nearer) tags) (filter (is_needed t inside nearer) u.attributes) far))
say_by t inside tags nearer p u c x n f None e ih =
    let has : has_declaration p u ≡ false = ap (λ (o : Option Attribute). is_some o) e in
    let near = filter_none (names p) (is_needed t inside nearer) u.attributes e in
    ap (λ (o : Option Attribute). declared p (first_of o (nearest p tags))) e
    ∙ ih (or_from _ _ has n) f
    ∙ sym (ap (λ (o : Option Attribute). declared p (said o))
    (find_left (names p) (needed t inside (u ∷ nearer) tags) (filter (is_needed t inside nearer) u.attributes) near))

-- the law: of the tags round an element, the needed declarations say of each prefix that is free in it what the nearest one says
needed_say : (t : Tag) (inside : Forest) (tags nearer : List Tag) (p : List ℕ) → AllClean tags → bytes_eq p (codes "xml") ≡ false →
    list_any (has_declaration p) nearer ≡ false → is_free p t inside ≡ true →
    declared p (nearest p tags) ≡ declared p (said (find (names p) (needed t inside nearer tags)))
needed_say t inside [] nearer p c x n f = refl
needed_say t inside (u ∷ tags) nearer p c x n f =
    say_by t inside tags nearer p u c x n f (declaration_of p u) refl (needed_say t inside tags (u ∷ nearer) p c.1 x)

-- ---- the tag of the cut element

spaced_value : (o : Option Attribute) (x : Option (List ℕ)) → first_of (option_map spaced o) x ≡ first_of o x
spaced_value None x = refl
spaced_value (Some a) x = refl

spaced_one : (b : Bool) (x : Attribute) (o r : Option Attribute) → r ≡ option_map spaced o →
    cond b (Some (spaced x)) r ≡ option_map spaced (cond b (Some x) o)
spaced_one true x o r e = refl
spaced_one false x o r e = e

find_spaced : (p : List ℕ) (xs : List Attribute) → find (names p) (map spaced xs) ≡ option_map spaced (find (names p) xs)
find_spaced p [] = refl
find_spaced p (x ∷ xs) = spaced_one (names p x) x (find (names p) xs) (find (names p) (map spaced xs)) (find_spaced p xs)

cut_declared : (t : Tag) (inside : Forest) (tags : List Tag) (p : List ℕ) → is_free p t inside ≡ false →
    declaration_of p (cut_tag t inside tags) ≡ declaration_of p t
cut_declared t inside tags p f =
    let none = unneeded t inside tags [] p (inr f) in
    find_right (names p) (map spaced (needed t inside [] tags)) t.attributes
    (find_spaced p (needed t inside [] tags) ∙ ap (option_map spaced) none)

-- the law: the cut tag, alone, binds each prefix that the element uses as it was bound
pub cut_binds : (t : Tag) (inside : Forest) (tags : List Tag) → AllClean tags → (p : List ℕ) → (tag_uses p t || uses p inside) ≡ true →
    Same (t ∷ tags) (cut_tag t inside tags ∷ []) p
unfolding binding
cut_binds t inside tags c p used = elim (cases_Bool (bytes_eq p (codes "xml"))) [
  | inl x ↦ xml_both (bytes_eq p (codes "xml")) (declared p (nearest p (t ∷ tags)))
      (declared p (nearest p (cut_tag t inside tags ∷ []))) x
  | inr x ↦ ap (λ (o : Option (List ℕ)). cond (bytes_eq p (codes "xml")) (Some xml_uri) o) (elim (cases_Bool (has_declaration p t)) [
    | inl h ↦
        let free : is_free p t inside ≡ false = and_left _ _ (not_from_true _ h) in
        ap (declared p)
        (has_both (declaration_of p t) (nearest p tags) h
        ∙ sym (ap (λ (o : Option Attribute). first_of o None) (cut_declared t inside tags p free)))
    | inr h ↦
        let free : is_free p t inside ≡ true = and_from _ _ (not_from_false _ h) used in
        let own : declaration_of p t ≡ None = none_there (declaration_of p t) h in
        let left : declaration_of p (cut_tag t inside tags) ≡ option_map spaced (find (names p) (needed t inside [] tags)) =
        find_left (names p) (map spaced (needed t inside [] tags)) t.attributes own ∙ find_spaced p (needed t inside [] tags) in
        ap (λ (o : Option Attribute). declared p (first_of o (nearest p tags))) own
        ∙ needed_say t inside tags [] p c x refl free
        ∙ ap (declared p) (sym (spaced_value (find (names p) (needed t inside [] tags)) None))
        ∙ sym (ap (λ (o : Option Attribute). declared p (first_of o None)) left)
  ])
]
  where
    xml_both : (b : Bool) (o r : Option (List ℕ)) → b ≡ true → cond b (Some xml_uri) o ≡ cond b (Some xml_uri) r
    xml_both true o r t = refl
    xml_both false o r t = absurd (false≢true t)

    has_both : (o : Option Attribute) (x : Option (List ℕ)) → is_some o ≡ true → first_of o x ≡ first_of o None
    has_both None x h = absurd (false≢true h)
    has_both (Some a) x h = refl

    none_there : (o : Option Attribute) → is_some o ≡ false → o ≡ None
    none_there None h = refl
    none_there (Some a) h = absurd cc
