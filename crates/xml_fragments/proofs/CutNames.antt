-- No name of the cut element offends, where none of the element did.
use Rattle.std.proofs.Common.{◌≡◌, ℕ, ◌+◌, Bool, true, false, cond, List, [], ◌∷◌, ◌++◌, map, refl, sym, ap, ◌∙◌, not, ◌&&◌, ◌||◌}
use Rattle.std.specs.Prelude.{bytes_eq, codes, filter}
use Rattle.std.specs.List.{list_all, list_any}
use Rattle.std.proofs.lemmas.Bool.{and_parts, and_from, or_left, or_right, false≢true, not_from_false, not-true}
use Rattle.std.proofs.lemmas.List.Folds.{list_all-append}
use Rattle.std.proofs.lemmas.Slice.Eq.{bytes_eq-Decides}
use Rattle.xml_model.specs.Chars.{size, prefix_of, is_qname}
use Rattle.xml_model.specs.Items.{Attribute, Tag, is_nil, written_attribute}
use Rattle.xml_model.specs.Nest.{Forest, done, element}
use Rattle.xml_model.specs.Records.{declares, attributes_place, past_start}
use Rattle.xml_model.specs.Content.{value_content}
use Rattle.xml_model.specs.Names.{Expanded}
use Rattle.xml_model.specs.Accepted.{declaration_offends, attribute_offends, offending_attributes, offending_tag, tag_offends, offences}
use Rattle.xml_model.specs.Accepted.{over_names, seen_with, expanded_of, is_bound, same_expanded, name_place}
use Rattle.xml_fragments.specs.Cut.{is_needed, needed, spaced, cut_tag, AllClean}
use Rattle.xml_nests.proofs.Lists.{both}
use Rattle.xml_fragments.proofs.NamesSame.{bound_same, attributes_offend, names_same, one_same}
use Rattle.xml_fragments.proofs.Needed.{cut_binds}
use Rattle.xml_fragments.proofs.CutShown.{is_declaring, cut_declares, filter_by}

-- an attribute that is no declaration, or a declaration that does not offend
abbrev pub is_sound : Attribute → Bool
is_sound a = not (declares a.name) || not (not (is_qname a.name) || declaration_offends a.name (value_content a.value))

abbrev pub all_sound : List Tag → Bool
all_sound tags = list_all (λ u. list_all is_sound u.attributes) tags

sub_sound : (r : Attribute → Bool) (xs : List Attribute) → list_all is_sound xs ≡ true → list_all is_sound (filter r xs) ≡ true
sub_sound r [] h = refl
sub_sound r (x ∷ xs) h = let q =
    and_parts (is_sound x) (list_all is_sound xs) h in filter_by (r x) is_sound x (filter r xs) (λ t. q.0) (sub_sound r xs q.1)

needed_sound : (t : Tag) (inside : Forest) (tags nearer : List Tag) → all_sound tags ≡ true →
    list_all is_sound (needed t inside nearer tags) ≡ true
needed_sound t inside [] nearer h = refl
needed_sound t inside (u ∷ tags) nearer h =
    let q = and_parts (list_all is_sound u.attributes) (all_sound tags) h in
    list_all-append is_sound (needed t inside (u ∷ nearer) tags) (filter (is_needed t inside nearer) u.attributes)
    ∙ and_from _ _ (needed_sound t inside tags (u ∷ nearer) q.1) (sub_sound (is_needed t inside nearer) u.attributes q.0)

spaced_sound : (xs : List Attribute) → list_all is_sound (map spaced xs) ≡ list_all is_sound xs
spaced_sound [] = refl
spaced_sound (x ∷ xs) = ap (λ (b : Bool). is_sound x && b) (spaced_sound xs)

sound_by : (d q x : Bool) (y : Bool) → d ≡ true → (not d || not (not q || x)) ≡ true → (not q || cond d x y) ≡ false
sound_by true q x y t h = not-true (not q || x) h
sound_by false q x y t h = absurd (false≢true t)

unseen : (d : Bool) (e : Expanded) (seen : List Expanded) → d ≡ true → cond d [] (e ∷ []) ++ seen ≡ seen
unseen true e seen t = refl
unseen false e seen t = absurd (false≢true t)

quiet : (b : Bool) (at : ℕ) (ys : List ℕ) → b ≡ false → is_nil (cond b (at ∷ []) [] ++ ys) ≡ is_nil ys
quiet true at ys f = absurd (false≢true (sym f))
quiet false at ys f = refl

skip_offend : (ds others : List Attribute) (tags tags' : List Tag) (at to : ℕ) (seen : List Expanded) → list_all is_declaring ds ≡ true →
    list_all is_sound ds ≡ true →
    ((at to : ℕ) → is_nil (offending_attributes tags at seen others) ≡ is_nil (offending_attributes tags' to seen others)) →
    is_nil (offending_attributes tags at seen others) ≡ is_nil (offending_attributes tags' to seen (ds ++ others))
skip_offend [] others tags tags' at to seen d s h = h at to
skip_offend (a ∷ ds) others tags tags' at to seen d s h =
    let p = and_parts (declares a.name) (list_all is_declaring ds) d in
    let q = and_parts (is_sound a) (list_all is_sound ds) s in
    let off : attribute_offends tags' seen a ≡ false =
    sound_by (declares a.name) (is_qname a.name) (declaration_offends a.name (value_content a.value))
    (not (is_bound (prefix_of a.name) tags') || list_any (same_expanded (expanded_of tags' a)) seen) p.0 q.0 in
    let next : seen_with tags' a seen ≡ seen = unseen (declares a.name) (expanded_of tags' a) seen p.0 in
    skip_offend ds others tags tags' at (to + size (written_attribute a)) seen p.1 q.1 h
    ∙ sym (quiet (attribute_offends tags' seen a) (name_place to a)
    (offending_attributes tags' (to + size (written_attribute a)) (seen_with tags' a seen) (ds ++ others)) off
    ∙ ap (λ (x : List Expanded). is_nil (offending_attributes tags' (to + size (written_attribute a)) x (ds ++ others))) next)

-- the law: names of the cut element offend exactly where those of the element do
pub cut_names : (t : Tag) (inside : Forest) (space : List ℕ) (tags : List Tag) (at to : ℕ) → AllClean tags → all_sound tags ≡ true →
    is_nil (over_names offences tags at (element t inside space done)) ≡ is_nil
    (over_names offences [] to (element (cut_tag t inside tags) inside space done))
cut_names t inside space tags at to c s =
    let u = cut_tag t inside tags in
    let binds = cut_binds t inside tags c in
    let ds = map spaced (needed t inside [] tags) in
    let own = binds (prefix_of t.name) (or_left _ _ (or_left _ _ ((bytes_eq-Decides (prefix_of t.name) (prefix_of t.name)).1 refl))) in
    let b : tag_offends (t ∷ tags) t.name ≡ tag_offends (u ∷ []) t.name =
    ap (λ (x : Bool). not (is_qname t.name) || bytes_eq (prefix_of t.name) (codes "xmlns") || not x)
    (bound_same (prefix_of t.name) (t ∷ tags) (u ∷ []) own) in
    let attrs : is_nil (offending_attributes (t ∷ tags) (attributes_place at t) [] t.attributes) ≡ is_nil
    (offending_attributes (u ∷ []) (attributes_place to u) [] (ds ++ t.attributes)) =
    skip_offend ds t.attributes (t ∷ tags) (u ∷ []) (attributes_place at t) (attributes_place to u) [] (cut_declares t inside tags)
    (spaced_sound (needed t inside [] tags) ∙ needed_sound t inside tags [] s)
    (λ x y. attributes_offend t.attributes (t ∷ tags) (u ∷ []) x y []
    (λ p n w. binds p (or_left _ _ (or_right _ _ (and_from _ _ (not_from_false _ n) w))))) in
    let tag : is_nil (offending_tag at tags t) ≡ is_nil (offending_tag to [] u) =
    both (cond (tag_offends (t ∷ tags) t.name) ((at + 1) ∷ []) []) _ (cond (tag_offends (u ∷ []) t.name) ((to + 1) ∷ []) []) _
    (one_same _ _ (at + 1) (to + 1) b) attrs in
    both (offending_tag at tags t ++ over_names offences (t ∷ tags) (past_start at t) inside) _
    (offending_tag to [] u ++ over_names offences (u ∷ []) (past_start to u) inside) _
    (both (offending_tag at tags t) _ (offending_tag to [] u) _ tag
    (names_same inside (t ∷ tags) (u ∷ []) (past_start at t) (past_start to u) (λ p w. binds p (or_right _ _ w))))
    refl
