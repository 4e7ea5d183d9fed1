-- An element of an accepted document is cut: the tags round it are clean, so the cut tag binds what it uses.
use Rattle.std.proofs.Common.{◌≡◌, ℕ, ◌+◌, Bool, true, false, cond, List, [], ◌∷◌, ◌++◌, map, Option, Some, refl, sym, ap, ap₂, subst}
use Rattle.std.proofs.Common.{◌∙◌, arith, not, ◌||◌}
use Rattle.std.specs.Prelude.{bytes_eq, codes, find, Contains}
use Rattle.std.specs.List.{list_all, list_any}
use Rattle.std.proofs.lemmas.Bool.{and_parts, and_from, false≢true, not_from_false}
use Rattle.std.proofs.lemmas.Option.{same_Some}
use Rattle.std.proofs.lemmas.Slice.Eq.{bytes_eq-Decides}
use Rattle.xml_model.specs.Chars.{size, prefix_of, is_qname}
use Rattle.xml_model.specs.Items.{Attribute, Tag, is_nil, written_attribute, first_place}
use Rattle.xml_model.specs.Nest.{Forest}
use Rattle.xml_model.specs.Records.{declares, attributes_place, past_leaf, past_empty, past_start, past_element}
use Rattle.xml_model.specs.Content.{value_content}
use Rattle.xml_model.specs.Names.{Expanded, declaring, xml_uri}
use Rattle.xml_model.specs.Tree.{Thing, Entry, Here, all, at_first}
use Rattle.xml_model.specs.Accepted.{Accepted, repeats, offences, over_names, leaf_faults, offending_attributes, offending_tag}
use Rattle.xml_model.specs.Accepted.{tag_offends, attribute_offends, declaration_offends, is_bound, same_expanded, expanded_of, seen_with}
use Rattle.xml_model.specs.Accepted.{repeated, name_place, is_reserved}
use Rattle.xml_nests.specs.Context.{Context, before, past_single, past_tag, past_whole, within, plug, tags_in}
use Rattle.xml_nests.specs.Stand.{StandsBy}
use Rattle.xml_fragments.specs.Cut.{Clean, AllClean, shown, whole_nodes, tags_held, cut_tag}
use Rattle.xml_nests.proofs.Lists.{nil_is, nil_append, repeated_any}
use Rattle.xml_fragments.proofs.Needed.{names, found_named}
use Rattle.xml_fragments.proofs.CutNames.{is_sound, all_sound}
use Rattle.xml_fragments.proofs.CutShown.{cut_shown}
use Rattle.xml_nests.proofs.Back.{fits_from_accepted}
use Rattle.xml_nests.proofs.Stands.{each_stands}

-- ---- a tag without offences

quiet_is : (b : Bool) (at : ℕ) (ys : List ℕ) → is_nil (cond b (at ∷ []) [] ++ ys) ≡ true → (b ≡ false) × (is_nil ys ≡ true)
quiet_is true at ys e = absurd (false≢true e)
quiet_is false at ys e = (refl, e)

sound_is : (d q x y : Bool) → (not q || cond d x y) ≡ false → (not d || not (not q || x)) ≡ true
sound_is true q x y e = not_from_false (not q || x) e
sound_is false q x y e = refl

attributes_sound : (tags : List Tag) (at : ℕ) (seen : List Expanded) (others : List Attribute) →
    is_nil (offending_attributes tags at seen others) ≡ true → list_all is_sound others ≡ true
attributes_sound tags at seen [] e = refl
attributes_sound tags at seen (a ∷ others) e =
    let q = quiet_is (attribute_offends tags seen a) (name_place at a)
    (offending_attributes tags (at + size (written_attribute a)) (seen_with tags a seen) others) e in
    and_from _ _
    (sound_is (declares a.name) (is_qname a.name) (declaration_offends a.name (value_content a.value))
    (not (is_bound (prefix_of a.name) tags) || list_any (same_expanded (expanded_of tags a)) seen) q.0)
    (attributes_sound tags (at + size (written_attribute a)) (seen_with tags a seen) others q.1)

pub tag_sound : (at : ℕ) (tags : List Tag) (t : Tag) → is_nil (offending_tag at tags t) ≡ true → list_all is_sound t.attributes ≡ true
tag_sound at tags t e =
    attributes_sound (t ∷ tags) (attributes_place at t) [] t.attributes
    (quiet_is (tag_offends (t ∷ tags) t.name) (at + 1) (offending_attributes (t ∷ tags) (attributes_place at t) [] t.attributes) e).1

found_by : (b : Bool) (x a : Attribute) (o : Option Attribute) → is_sound x ≡ true → (o ≡ Some a → is_sound a ≡ true) →
    cond b (Some x) o ≡ Some a → is_sound a ≡ true
found_by true x a o h k e = ap is_sound (sym (same_Some x a e)) ∙ h
found_by false x a o h k e = k e

found_sound : (q : Attribute → Bool) (xs : List Attribute) (a : Attribute) → find q xs ≡ Some a → list_all is_sound xs ≡ true →
    is_sound a ≡ true
found_sound q [] a e h = absurd cc
found_sound q (x ∷ xs) a e h =
    let p = and_parts (is_sound x) (list_all is_sound xs) h in found_by (q x) x a (find q xs) p.0 (λ k. found_sound q xs a k p.1) e

empty_offends : (c : ℕ) (p : List ℕ) → declaration_offends (declaring (c ∷ p)) [] ≡ true
empty_offends c p = by (bytes_eq (declaring (c ∷ p)) (codes "xmlns:xml")) (bytes_eq (declaring (c ∷ p)) (codes "xmlns:xmlns"))
  where
    by : (b d : Bool) → cond b (not (bytes_eq [] xml_uri)) (d || true || is_reserved []) ≡ true
    by true d = refl
    by false true = refl
    by false false = refl

declares_it : (c : ℕ) (p : List ℕ) → declares (declaring (c ∷ p)) ≡ true
unfolding declares
declares_it c p = refl

not_filled : (p : List ℕ) (a : Attribute) → a.name ≡ declaring p → is_nil (value_content a.value) ≡ true → is_sound a ≡ true → p ≡ []
not_filled [] a e v s = refl
not_filled (c ∷ p) a e v s =
    let d : declares a.name ≡ true = ap declares e ∙ declares_it c p in
    let o : declaration_offends a.name (value_content a.value) ≡ true =
    ap₂ (λ (n w : List ℕ). declaration_offends n w) e (nil_is (value_content a.value) v) ∙ empty_offends c p in
    absurd (bad (declares a.name) (not (is_qname a.name)) (declaration_offends a.name (value_content a.value)) d o s)
  where
    bad : (d q x : Bool) → d ≡ true → x ≡ true → (not d || not (q || x)) ≡ true → ⊥
    bad true true true d x s = false≢true s
    bad true true false d x s = false≢true x
    bad true false true d x s = false≢true s
    bad true false false d x s = false≢true x
    bad false q x d o s = false≢true d

pub clean_tag : (at : ℕ) (t : Tag) → is_nil (repeated at [] t.attributes) ≡ true → list_all is_sound t.attributes ≡ true → Clean t
clean_tag at t r s = record {
  once = nil_is _ (repeated_any 0 at [] t.attributes ∙ r);
  filled = λ p a e v. not_filled p a ((bytes_eq-Decides a.name (declaring p)).0 (found_named (names p) t.attributes a e)) v
      (found_sound (names p) t.attributes a e s);
}

-- ---- the tags round a place

pub parts : (xs ys : List ℕ) → is_nil (xs ++ ys) ≡ true → (is_nil xs ≡ true) × (is_nil ys ≡ true)
parts xs ys e = and_parts (is_nil xs) (is_nil ys) (sym (nil_append xs ys) ∙ e)

pub clean_in : (c : Context) (tags : List Tag) (at : ℕ) (g : Forest) → is_nil (over_names repeats tags at (plug c g)) ≡ true →
    is_nil (over_names offences tags at (plug c g)) ≡ true → AllClean tags → all_sound tags ≡ true →
    AllClean (tags_in tags c) × (all_sound (tags_in tags c) ≡ true)
clean_in (before rest) tags at g r o k s = (k, s)
clean_in (past_single x c) tags at g r o k s =
    clean_in c tags (past_leaf at x) g (parts (leaf_faults repeats at x) (over_names repeats tags (past_leaf at x) (plug c g)) r).1
    (parts (leaf_faults offences at x) (over_names offences tags (past_leaf at x) (plug c g)) o).1 k s
clean_in (past_tag t c) tags at g r o k s =
    clean_in c tags (past_empty at t) g (parts (repeats.tag at tags t) (over_names repeats tags (past_empty at t) (plug c g)) r).1
    (parts (offences.tag at tags t) (over_names offences tags (past_empty at t) (plug c g)) o).1 k s
clean_in (past_whole t inside space c) tags at g r o k s =
    let p = past_element at t inside space in
    clean_in c tags p g
    (parts (repeats.tag at tags t ++ over_names repeats (t ∷ tags) (past_start at t) inside)
    (over_names repeats tags p (plug c g)) r).1
    (parts (offences.tag at tags t ++ over_names offences (t ∷ tags) (past_start at t) inside)
    (over_names offences tags p (plug c g)) o).1 k s
clean_in (within t c space f) tags at g r o k s =
    let p = past_element at t (plug c g) space in
    let x = parts (repeats.tag at tags t ++ over_names repeats (t ∷ tags) (past_start at t) (plug c g)) (over_names repeats tags p f) r in
    let y = parts (offences.tag at tags t ++ over_names offences (t ∷ tags) (past_start at t) (plug c g))
    (over_names offences tags p f) o in
    let x2 = parts (repeats.tag at tags t) (over_names repeats (t ∷ tags) (past_start at t) (plug c g)) x.0 in
    let y2 = parts (offences.tag at tags t) (over_names offences (t ∷ tags) (past_start at t) (plug c g)) y.0 in
    let sound = tag_sound at tags t y2.0 in
    clean_in c (t ∷ tags) (past_start at t) g x2.1 y2.1 (clean_tag (attributes_place at t) t x2.0 sound, k) (and_from _ _ sound s)

-- the law: of an element of an accepted document
pub cut_node : (bytes : List ℕ) (nest : Forest) (e : Entry) (t : Tag) (inside : Forest) (h first : Here) (stop stop' : ℕ) →
    Accepted 8 bytes nest → Contains (all nest (first_place bytes)) e → e.what ≡ Thing.element t inside → h.holders ≡ e.holders →
    first.holders ≡ [] →
    map shown (whole_nodes h t inside stop) ≡ map shown (whole_nodes first (cut_tag t inside (tags_held h.holders)) inside stop')
cut_node bytes nest e t inside h first stop stop' a there w hs none =
    let s = subst (λ (x : Thing). StandsBy x (at_first (first_place bytes)) nest e.holders e.start e.stop e.index) w
    (each_stands nest (first_place bytes) e there) in
    let f = fits_from_accepted 8 bytes nest a in
    let c = s.2.around in
    let split = s.2.split in
    let r = ap (λ (n : Forest). is_nil (over_names repeats [] 0 n)) (sym split) ∙ ap is_nil (f.twice (omega arith)) in
    let o = ap (λ (n : Forest). is_nil (over_names offences [] 0 n)) (sym split) ∙ ap is_nil (f.names (omega arith)) in
    let clean = clean_in c [] 0 s.0 r o tt refl in
    let same : tags_held h.holders ≡ tags_in [] c = ap tags_held hs ∙ s.2.tags in
    cut_shown t inside h first stop stop' (subst AllClean (sym same) clean.0) none
