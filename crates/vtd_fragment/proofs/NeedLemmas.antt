-- When an element needs a declaration of an element round it.
use Rattle.std.proofs.Common.{◌≡◌, ℕ, ◌+◌, ◌*◌, Bool, true, false, cond, List, [], ◌∷◌, ◌++◌, length, map, refl, ap, ap₂, sym, ◌∙◌, subst, arith, codes, bytes_eq, not, ◌&&◌, ◌==◌, eqb-true, eq-eqb, ne_eqb, Result, Ok, Err, OnOk}
use Rattle.std.specs.Prelude.{encode_utf8_all, Contains, find, is_some, Some}
use Rattle.std.specs.List.{list_all, list_any}
use Rattle.std.proofs.Math.Utf8.{encode}
use Rattle.std.proofs.lemmas.Bool.{and_parts, false≢true, false_from_ne_true}
use Rattle.std.proofs.lemmas.List.Folds.{list_all-append}
use Rattle.std.proofs.lemmas.Slice.Eq.{bytes_eq-Decides}
use Rattle.xml_model.specs.declared.Kind.TheVariants as kinds
use Rattle.xml_model.specs.declared.Node.{Node}
use Rattle.xml_model.specs.Chars.{size, is_qname, after_colon}
use Rattle.xml_model.specs.Items.{Attribute, Tag, Piece, literal, entity, decimal, hexadecimal, is_nil, first_place, written_pieces}
use Rattle.xml_model.specs.Nest.{Forest}
use Rattle.xml_model.specs.Records.{Record, records, declares, name_token}
use Rattle.xml_model.specs.Content.{value_content, with_line_ends, line_end, is_literal, begins_with, char_in_value}
use Rattle.xml_model.specs.Names.{declaring}
use Rattle.xml_model.specs.Tree.{Thing, Entry, Holder, at_first}
use Rattle.xml_model.specs.Accepted.{Accepted, declaration_offends, over_names, repeats, offences}
use Rattle.xml_model.proofs.Each.{each_at}
use Rattle.xml_model.proofs.Things.{element_of}
use Rattle.vtd_words.specs.Lists.{Lists}
use Rattle.vtd_words.specs.Packed.{record_of}
use Rattle.vtd_words.specs.Table.{nodes_of}
use Rattle.vtd_words.specs.declared.packing.Parts.{Parts}
use Rattle.vtd_namespaces.specs.Scope.{HolderIn, Chain}
use Rattle.vtd_namespaces.proofs.ChainLemmas.{document_chain}
use Rattle.vtd_namespaces.proofs.DeclarationLemmas.{token_two, token_three}
use Rattle.vtd_namespaces.proofs.RepeatLemmas.{eq_encoded}
use Rattle.xml_nests.specs.Stand.{StandsBy}
use Rattle.xml_nests.proofs.Back.{fits_from_accepted}
use Rattle.xml_nests.proofs.Stands.{each_stands}
use Rattle.xml_fragments.specs.Cut.{has_declaration, tags_held}
use Rattle.xml_fragments.specs.Fragment.{needs}
use Rattle.xml_fragments.proofs.CutNames.{is_sound, all_sound}
use Rattle.xml_fragments.proofs.CutNode.{clean_in}
use Rattle.xml_fragments.proofs.CutOnce.{declared_name, sound_name}
use Rattle.vtd_fragment.specs.Round.{AtLevel, is_hit}
use Rattle.vtd_fragment.proofs.AttributeLemmas.{AttributeAt, attribute_of_holder}
use Rattle.vtd_fragment.proofs.NamedLemmas.{nil_encoded}

-- ---- the holders of a node

pub chain_split : (es : List Entry) (near far : List Holder) (x : Holder) → Chain es (near ++ x ∷ far) → HolderIn es x far
chain_split es [] far x c = c.0
chain_split es (y ∷ near) far x c = chain_split es near far x c.1

pub chain_of : (bytes : List ℕ) (nest : Forest) (e : Entry) → Contains (nodes_of bytes nest) e → Chain (nodes_of bytes nest) e.holders
chain_of bytes nest e c = each_at (λ x. Chain (nodes_of bytes nest) x.holders) (nodes_of bytes nest) e (document_chain nest (first_place bytes)) c

-- an attribute of the element round an element that has a level
pub attribute_at_level : (bytes : List ℕ) (lists : Lists) (node : Node) (level : ℕ) (r : AtLevel bytes lists node level) (before after : List Attribute) (a : Attribute) → r.holder.tag.attributes ≡ before ++ a ∷ after →
    (at : ℕ) → at ≡ r.holder.index + 1 + 2 * length before → AttributeAt bytes (records r.nest (first_place bytes)) at a
attribute_at_level bytes lists node level r before after a is at i =
    let c = subst (Chain (nodes_of bytes r.nest)) r.split (chain_of bytes r.nest r.entry r.holds.0) in
    attribute_of_holder bytes r.nest r.accepted.document r.holder r.far (chain_split (nodes_of bytes r.nest) r.near r.far r.holder c) before after a is at i

pub token_other : (name : Parts) (a : Attribute) (r : Record) → record_of name ≡ r → r.token ≡ name_token a.name → (name.token ≡ 3 → ⊥) → declares a.name ≡ false
token_other name a r e t f = token_two (declares a.name) (λ z. f (ap (λ x. x.token) e ∙ t ∙ z))

pub token_own : (name : Parts) (a : Attribute) (r : Record) → record_of name ≡ r → r.token ≡ name_token a.name → name.token ≡ 3 → declares a.name ≡ true
token_own name a r e t f = token_three (declares a.name) (sym t ∙ sym (ap (λ x. x.token) e) ∙ f)

holders_sound : (bytes : List ℕ) (nest : Forest) (e : Entry) (t : Tag) (inside : Forest) → Accepted 8 bytes nest → Contains (nodes_of bytes nest) e → e.what ≡ Thing.element t inside →
    all_sound (tags_held e.holders) ≡ true
holders_sound bytes nest e t inside a there w =
    let s = subst (λ (x : Thing). StandsBy x (at_first (first_place bytes)) nest e.holders e.start e.stop e.index) w (each_stands nest (first_place bytes) e there) in
    let f = fits_from_accepted 8 bytes nest a in
    let c = s.2.around in
    let split = s.2.split in
    let r = ap (λ (n : Forest). is_nil (over_names repeats [] 0 n)) (sym split) ∙ ap is_nil (f.twice (omega arith)) in
    let o = ap (λ (n : Forest). is_nil (over_names offences [] 0 n)) (sym split) ∙ ap is_nil (f.names (omega arith)) in
    ap all_sound s.2.tags ∙ (clean_in c [] 0 s.0 r o tt refl).1

one_sound : (near far : List Holder) (x : Holder) → all_sound (tags_held (near ++ x ∷ far)) ≡ true → list_all is_sound x.tag.attributes ≡ true
one_sound [] far x h = (and_parts (list_all is_sound x.tag.attributes) (all_sound (tags_held far)) h).0
one_sound (y ∷ near) far x h = one_sound near far x (and_parts (list_all is_sound y.tag.attributes) (all_sound (tags_held (near ++ x ∷ far))) h).1

sound_of : (before after : List Attribute) (a : Attribute) → list_all is_sound (before ++ a ∷ after) ≡ true → is_sound a ≡ true
sound_of before after a h = (and_parts (is_sound a) (list_all is_sound after) (and_parts (list_all is_sound before) (list_all is_sound (a ∷ after)) (sym (list_all-append is_sound before (a ∷ after)) ∙ h)).1).0

-- the name of a declaration of a holder
pub declaring_name : (bytes : List ℕ) (lists : Lists) (node : Node) (level : ℕ) → node.kind ≡ kinds.Element → (r : AtLevel bytes lists node level) → (before after : List Attribute) (a : Attribute) →
    r.holder.tag.attributes ≡ before ++ a ∷ after → declares a.name ≡ true → a.name ≡ declaring (after_colon a.name)
declaring_name bytes lists node level k r before after a is d =
    let w = element_of r.entry.what (r.holds.1 ∙ k) in
    let s = holders_sound bytes r.nest r.entry w.0 w.1 r.accepted r.holds.0 w.2 in
    let t = one_sound r.near r.far r.holder (ap (λ (hs : List Holder). all_sound (tags_held hs)) (sym r.split) ∙ s) in
    let sound = sound_of before after a (ap (list_all is_sound) (sym is) ∙ t) in
    declared_name a.name d (sound_name (declares a.name) (is_qname a.name) (declaration_offends a.name (value_content a.value)) d sound)

-- ---- an attribute among those of a tag

find_there : (p : Attribute → Bool) (before after : List Attribute) (a : Attribute) → p a ≡ true → is_some (find p (before ++ a ∷ after)) ≡ true
find_there p [] after a h = ap (λ (b : Bool). is_some (cond b (Some a) (find p after))) h
find_there p (x ∷ before) after a h = by (p x) (find_there p before after a h)
  where
    by : (b : Bool) → is_some (find p (before ++ a ∷ after)) ≡ true → is_some (cond b (Some x) (find p (before ++ a ∷ after))) ≡ true
    by true k = refl
    by false k = k

pub declaration_there : (t : Tag) (before after : List Attribute) (a : Attribute) (p : List ℕ) → t.attributes ≡ before ++ a ∷ after → a.name ≡ declaring p → has_declaration p t ≡ true
declaration_there t before after a p is e =
    let named = λ (x : Attribute). bytes_eq x.name (declaring p) in
    ap (λ (xs : List Attribute). is_some (find named xs)) is ∙ find_there named before after a ((bytes_eq-Decides a.name (declaring p)).1 e)

-- ---- a value that is empty

abbrev none : List Piece → Bool
none [] = true
none (p ∷ ps) = false

not_both : (c : ℕ) → (c == 10) ≡ true → (c == 13) ≡ true → ⊥
not_both c h k = omega (arith, eqb-true c 10 h, eqb-true c 13 k)

line_feed : (ps : List Piece) → begins_with 10 ps ≡ true → none (with_line_ends ps) ≡ false
line_feed [] h = absurd (false≢true h)
line_feed (literal c ∷ qs) h = by (c == 13) refl
  where
    by : (b : Bool) → (c == 13) ≡ b → none (cond (b && begins_with 10 qs) [] (line_end (literal c) ∷ []) ++ with_line_ends qs) ≡ false
    by true k = absurd (not_both c h k)
    by false k = refl
line_feed (entity n ∷ qs) h = refl
line_feed (decimal n ∷ qs) h = refl
line_feed (hexadecimal n ∷ qs) h = refl

line_ends_none : (ps : List Piece) → none (with_line_ends ps) ≡ none ps
line_ends_none [] = refl
line_ends_none (p ∷ ps) = by (is_literal 13 p && begins_with 10 ps) refl
  where
    by : (b : Bool) → (is_literal 13 p && begins_with 10 ps) ≡ b → none (cond b [] (line_end p ∷ []) ++ with_line_ends ps) ≡ false
    by true h = line_feed ps (and_parts (is_literal 13 p) (begins_with 10 ps) h).1
    by false h = refl

map_none : (ps : List Piece) → is_nil (map char_in_value ps) ≡ none ps
map_none [] = refl
map_none (p ∷ ps) = refl

written_none : (ps : List Piece) → is_nil (written_pieces ps) ≡ none ps
written_none [] = refl
written_none (literal c ∷ ps) = refl
written_none (entity n ∷ ps) = refl
written_none (decimal n ∷ ps) = refl
written_none (hexadecimal n ∷ ps) = refl

pub value_nil : (ps : List Piece) → (size (written_pieces ps) == 0) ≡ is_nil (value_content ps)
unfolding size value_content
value_nil ps = nil_encoded (written_pieces ps) ∙ written_none ps ∙ sym (line_ends_none ps) ∙ sym (map_none (with_line_ends ps))

-- ---- the four tests of what is needed

abbrev pub need : Bool → Bool → Bool → Bool → Bool
need declared empty fixed used = declared && not empty && not fixed && used

pub need_undeclared : (d n x u : Bool) → d ≡ false → false ≡ need d n x u
need_undeclared true n x u h = absurd (false≢true (sym h))
need_undeclared false n x u h = refl

pub need_empty : (d n x u : Bool) → n ≡ true → false ≡ need d n x u
need_empty true true x u h = refl
need_empty false true x u h = refl
need_empty d false x u h = absurd (false≢true h)

pub need_fixed : (d n x u : Bool) → x ≡ true → false ≡ need d n x u
need_fixed true true true u h = refl
need_fixed true false true u h = refl
need_fixed false n true u h = refl
need_fixed d n false u h = absurd (false≢true h)

pub need_used : (d n x u : Bool) → d ≡ true → n ≡ false → x ≡ false → u ≡ need d n x u
need_used true false false u h i j = refl
need_used false n x u h i j = absurd (false≢true h)
need_used true true x u h i j = absurd (false≢true (sym i))
need_used true false true u h i j = absurd (false≢true (sym j))

xml_encoded : encode_utf8_all (codes "xml") ≡ codes "xml"
unfolding encode
xml_encoded = refl

pub fixed_prefix : (prefix p : List ℕ) → prefix ≡ encode_utf8_all p → bytes_eq prefix (codes "xml") ≡ bytes_eq p (codes "xml")
fixed_prefix prefix p e = ap₂ bytes_eq e (sym xml_encoded) ∙ eq_encoded p (codes "xml")

-- ---- the tests of a declaration, by its records

pub needs_undeclared : (es : List Entry) (x : Holder) (a : Attribute) → declares a.name ≡ false → false ≡ needs es x a
needs_undeclared es x a = need_undeclared (declares a.name) (is_nil (value_content a.value)) (bytes_eq (after_colon a.name) (codes "xml")) (list_any (is_hit (after_colon a.name) x) es)

pub needs_empty : (es : List Entry) (x : Holder) (a : Attribute) → is_nil (value_content a.value) ≡ true → false ≡ needs es x a
needs_empty es x a = need_empty (declares a.name) (is_nil (value_content a.value)) (bytes_eq (after_colon a.name) (codes "xml")) (list_any (is_hit (after_colon a.name) x) es)

pub needs_fixed : (es : List Entry) (x : Holder) (a : Attribute) → bytes_eq (after_colon a.name) (codes "xml") ≡ true → false ≡ needs es x a
needs_fixed es x a = need_fixed (declares a.name) (is_nil (value_content a.value)) (bytes_eq (after_colon a.name) (codes "xml")) (list_any (is_hit (after_colon a.name) x) es)

pub needs_used : (es : List Entry) (x : Holder) (a : Attribute) (r : Bool) → r ≡ list_any (is_hit (after_colon a.name) x) es → declares a.name ≡ true → is_nil (value_content a.value) ≡ false → bytes_eq (after_colon a.name) (codes "xml") ≡ false →
    r ≡ needs es x a
needs_used es x a r e d n f = e ∙ need_used (declares a.name) (is_nil (value_content a.value)) (bytes_eq (after_colon a.name) (codes "xml")) (list_any (is_hit (after_colon a.name) x) es) d n f

pub value_empty : (value : Parts) (a : Attribute) (r : Record) → record_of value ≡ r → r.len ≡ size (written_pieces a.value) → value.length ≡ 0 → is_nil (value_content a.value) ≡ true
value_empty value a r e l z = sym (value_nil a.value) ∙ eq-eqb (size (written_pieces a.value)) 0 (sym l ∙ sym (ap (λ x. x.len) e) ∙ z)

pub value_full : (value : Parts) (a : Attribute) (r : Record) → record_of value ≡ r → r.len ≡ size (written_pieces a.value) → (value.length ≡ 0 → ⊥) → is_nil (value_content a.value) ≡ false
value_full value a r e l z = sym (value_nil a.value) ∙ ne_eqb (size (written_pieces a.value)) 0 (λ k. z (ap (λ x. x.len) e ∙ l ∙ k))

-- a name that declares no prefix is no sound declaration's
pub declares_nothing : (bytes : List ℕ) (lists : Lists) (node : Node) (level : ℕ) → node.kind ≡ kinds.Element → (r : AtLevel bytes lists node level) → (before after : List Attribute) (a : Attribute) →
    r.holder.tag.attributes ≡ before ++ a ∷ after → ((p : List ℕ) → bytes_eq a.name (declaring p) ≡ false) → declares a.name ≡ false
declares_nothing bytes lists node level k r before after a is h =
    false_from_ne_true (declares a.name) (λ d. false≢true (sym (h (after_colon a.name)) ∙ (bytes_eq-Decides a.name (declaring (after_colon a.name))).1 (declaring_name bytes lists node level k r before after a is d)))

-- a prefix that is declared is the part after the colon
pub declares_this : (bytes : List ℕ) (lists : Lists) (node : Node) (level : ℕ) → node.kind ≡ kinds.Element → (r : AtLevel bytes lists node level) → (before after : List Attribute) (a : Attribute) →
    r.holder.tag.attributes ≡ before ++ a ∷ after → (prefix : List ℕ) → ((p : List ℕ) → bytes_eq prefix (encode_utf8_all p) ≡ bytes_eq a.name (declaring p)) → declares a.name ≡ true → prefix ≡ encode_utf8_all (after_colon a.name)
declares_this bytes lists node level k r before after a is prefix own d =
    let p = after_colon a.name in
    (bytes_eq-Decides prefix (encode_utf8_all p)).0 (own p ∙ (bytes_eq-Decides a.name (declaring p)).1 (declaring_name bytes lists node level k r before after a is d))

pub on_ok : {T E : Type 0} (r : Result T E) (P Q : Type 0) → (P → Q) → OnOk r P → OnOk r Q
on_ok (Ok x) P Q f h = f h
on_ok (Err e) P Q f h = h
