-- Under tags that bind alike what pieces use, the same names offend.
use Rattle.std.proofs.Common.{◌≡◌, ℕ, ◌+◌, Bool, true, false, cond, inl, inr, List, [], ◌∷◌, ◌++◌, Option, Some, refl, sym, ap, ap₂, ◌∙◌}
use Rattle.std.proofs.Common.{not, ◌||◌}
use Rattle.std.specs.Prelude.{is_some, bytes_eq, codes}
use Rattle.std.specs.List.{list_any}
use Rattle.std.proofs.lemmas.Bool.{and_from, or_left, or_right, false≢true, cases_Bool, not_from_false}
use Rattle.std.proofs.lemmas.Slice.Eq.{bytes_eq-Decides}
use Rattle.xml_model.specs.Chars.{size, prefix_of, local_of, is_qname}
use Rattle.xml_model.specs.Items.{Attribute, Tag, is_nil, written_attribute}
use Rattle.xml_model.specs.Nest.{Forest, done, single, empty, element}
use Rattle.xml_model.specs.Records.{declares, attributes_place, past_empty, past_element, past_leaf, past_start}
use Rattle.xml_model.specs.Content.{value_content}
use Rattle.xml_model.specs.Names.{Expanded, nearest, binding, xml_uri}
use Rattle.xml_model.specs.Accepted.{is_bound, same_expanded, expanded_of, declaration_offends, attribute_offends, seen_with}
use Rattle.xml_model.specs.Accepted.{offending_attributes, tag_offends, offending_tag, offences, over_names, leaf_faults, name_place}
use Rattle.xml_fragments.specs.Cut.{tag_uses, uses}
use Rattle.xml_nests.proofs.Lists.{both, if_one, leaf_any, offences_placeless}
use Rattle.xml_fragments.proofs.ShownNodes.{Same, SameTag, SameIn, SameAttributes, inner_same, attribute_same}

strip : (b : Bool) (u x y : Option (List ℕ)) → b ≡ false → cond b u x ≡ cond b u y → x ≡ y
strip true u x y f e = absurd (false≢true (sym f))
strip false u x y f e = e

xml_any : (b x y : Bool) → b ≡ true → (false || b || x) ≡ (false || b || y)
xml_any true x y e = refl
xml_any false x y e = absurd (false≢true e)

-- whether a prefix is bound is seen from what it is bound to
pub bound_same : (p : List ℕ) (tags others : List Tag) → Same tags others p → is_bound p tags ≡ is_bound p others
unfolding binding
bound_same [] tags others s = refl
bound_same (c ∷ p) tags others s = elim (cases_Bool (bytes_eq (c ∷ p) (codes "xml"))) [
  | inl t ↦ xml_any (bytes_eq (c ∷ p) (codes "xml")) (is_some (nearest (c ∷ p) tags)) (is_some (nearest (c ∷ p) others)) t
  | inr f ↦
      let e = strip (bytes_eq (c ∷ p) (codes "xml")) (Some xml_uri) (nearest (c ∷ p) tags) (nearest (c ∷ p) others) f s in
      ap (λ (o : Option (List ℕ)). false || bytes_eq (c ∷ p) (codes "xml") || is_some o) e
]

attribute_bound : (a : Attribute) (tags others : List Tag) →
    ((p : List ℕ) → is_nil p ≡ false → bytes_eq (prefix_of a.name) p ≡ true → Same tags others p) →
    is_bound (prefix_of a.name) tags ≡ is_bound (prefix_of a.name) others
attribute_bound a tags others s = by (prefix_of a.name) refl
  where
    by : (q : List ℕ) → prefix_of a.name ≡ q → is_bound q tags ≡ is_bound q others
    by [] e = refl
    by (c ∷ q) e = bound_same (c ∷ q) tags others (s (c ∷ q) refl ((bytes_eq-Decides (prefix_of a.name) (c ∷ q)).1 e))

offends_by : (d q : Bool) (x : Bool) (b b' : Bool) (e e' : Expanded) (seen : List Expanded) → (d ≡ false → b ≡ b') →
    (d ≡ false → e ≡ e') →
    (q || cond d x (not b || list_any (same_expanded e) seen)) ≡ (q || cond d x (not b' || list_any (same_expanded e') seen))
offends_by true q x b b' e e' seen s t = refl
offends_by false q x b b' e e' seen s t =
    ap₂ (λ (y : Bool) (z : Expanded). q || (not y || list_any (same_expanded z) seen)) (s refl) (t refl)

seen_by : (d : Bool) (e e' : Expanded) (seen : List Expanded) → (d ≡ false → e ≡ e') →
    cond d [] (e ∷ []) ++ seen ≡ cond d [] (e' ∷ []) ++ seen
seen_by true e e' seen s = refl
seen_by false e e' seen s = ap (λ (x : Expanded). x ∷ seen) (s refl)

pub one_same : (b b' : Bool) (at to : ℕ) → b ≡ b' → is_nil (cond b (at ∷ []) []) ≡ is_nil (cond b' (to ∷ []) [])
one_same b b' at to e = ap (λ (x : Bool). is_nil (cond x (at ∷ []) [])) e ∙ if_one b' at to

pub attributes_offend : (others : List Attribute) (tags tags' : List Tag) (at to : ℕ) (seen : List Expanded) →
    SameAttributes others tags tags' →
    is_nil (offending_attributes tags at seen others) ≡ is_nil (offending_attributes tags' to seen others)
attributes_offend [] tags tags' at to seen s = refl
attributes_offend (a ∷ others) tags tags' at to seen s =
    let own = λ (d : declares a.name ≡ false) (p : List ℕ) (n : is_nil p ≡ false) (e : bytes_eq (prefix_of a.name) p ≡ true). s p n
    (or_left _ _ (and_from _ _ (not_from_false _ d) e)) in
    let uri = λ (d : declares a.name ≡ false). ap (λ (u : Option (List ℕ)). record { uri = u; name = local_of a.name })
    (attribute_same a tags tags' (own d)) in
    let bound = λ (d : declares a.name ≡ false). attribute_bound a tags tags' (own d) in
    let off : attribute_offends tags seen a ≡ attribute_offends tags' seen a =
    offends_by (declares a.name) (not (is_qname a.name)) (declaration_offends a.name (value_content a.value))
    (is_bound (prefix_of a.name) tags) (is_bound (prefix_of a.name) tags') (expanded_of tags a)
    (expanded_of tags' a) seen bound uri in
    let next : seen_with tags a seen ≡ seen_with tags' a seen =
    seen_by (declares a.name) (expanded_of tags a) (expanded_of tags' a) seen uri in
    both (cond (attribute_offends tags seen a) (name_place at a ∷ []) []) _
    (cond (attribute_offends tags' seen a) (name_place to a ∷ []) []) _ (one_same _ _ (name_place at a) (name_place to a) off)
    (attributes_offend others tags tags' (at + size (written_attribute a)) (to + size (written_attribute a)) (seen_with tags a seen)
    (λ p n u. s p n (or_right _ _ u))
    ∙ ap (λ (x : List Expanded). is_nil (offending_attributes tags' (to + size (written_attribute a)) x others)) next)

pub tag_offend : (t : Tag) (tags others : List Tag) (at to : ℕ) → SameTag t (t ∷ tags) (t ∷ others) →
    is_nil (offending_tag at tags t) ≡ is_nil (offending_tag to others t)
tag_offend t tags others at to s =
    let own = s (prefix_of t.name) (or_left _ _ ((bytes_eq-Decides (prefix_of t.name) (prefix_of t.name)).1 refl)) in
    let b : tag_offends (t ∷ tags) t.name ≡ tag_offends (t ∷ others) t.name =
    ap (λ (x : Bool). not (is_qname t.name) || bytes_eq (prefix_of t.name) (codes "xmlns") || not x)
    (bound_same (prefix_of t.name) (t ∷ tags) (t ∷ others) own) in
    both (cond (tag_offends (t ∷ tags) t.name) ((at + 1) ∷ []) []) _ (cond (tag_offends (t ∷ others) t.name) ((to + 1) ∷ []) []) _
    (one_same _ _ (at + 1) (to + 1) b)
    (attributes_offend t.attributes (t ∷ tags) (t ∷ others) (attributes_place at t) (attributes_place to t) []
    (λ p n u. s p (or_right _ _ (and_from _ _ (not_from_false _ n) u))))

-- the law: the same names offend
pub names_same : (f : Forest) (tags others : List Tag) (at to : ℕ) → SameIn f tags others →
    is_nil (over_names offences tags at f) ≡ is_nil (over_names offences others to f)
names_same done tags others at to s = refl
names_same (single x f) tags others at to s =
    both (leaf_faults offences at x) _ (leaf_faults offences to x) _ (leaf_any offences offences_placeless at to x)
    (names_same f tags others (past_leaf at x) (past_leaf to x) s)
names_same (empty t f) tags others at to s =
    both (offending_tag at tags t) _ (offending_tag to others t) _
    (tag_offend t tags others at to (inner_same t (λ p. tag_uses p t) tags others (λ p u. s p (or_left _ _ u))))
    (names_same f tags others (past_empty at t) (past_empty to t) (λ p u. s p (or_right _ _ u)))
names_same (element t inside space f) tags others at to s =
    let free = inner_same t (λ p. tag_uses p t || uses p inside) tags others (λ p u. s p (or_left _ _ u)) in
    both (offending_tag at tags t ++ over_names offences (t ∷ tags) (past_start at t) inside) _
    (offending_tag to others t ++ over_names offences (t ∷ others) (past_start to t) inside) _
    (both (offending_tag at tags t) _ (offending_tag to others t) _ (tag_offend t tags others at to (λ p u. free p (or_left _ _ u)))
    (names_same inside (t ∷ tags) (t ∷ others) (past_start at t) (past_start to t) (λ p u. free p (or_right _ _ u))))
    (names_same f tags others (past_element at t inside space) (past_element to t inside space) (λ p u. s p (or_right _ _ u)))
