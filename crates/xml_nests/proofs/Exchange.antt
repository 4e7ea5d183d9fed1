-- Where pieces are exchanged, what has to be tested of the new ones.
use Rattle.std.proofs.Common.{◌≡◌, ℕ, suc, ◌+◌, ◌-◌, ◌≤◌, Bool, true, false, List, [], ◌∷◌, ◌++◌, map, Option, Some, None, refl, sym, ap}
use Rattle.std.proofs.Common.{ap₂, ◌∙◌, ◌&&◌, ◌||◌}
use Rattle.std.specs.Prelude.{nat_le, is_some}
use Rattle.std.specs.List.{list_all}
use Rattle.std.proofs.lemmas.Bool.{and_parts, and_from, or_parts, or_from, false≢true}
use Rattle.std.proofs.lemmas.List.Folds.{list_all-append}
use Rattle.xml_model.specs.declared.Field.{Field}
use Rattle.xml_model.specs.Items.{Tag, Item, meets, is_nil}
use Rattle.xml_model.specs.Nest.{Forest, done, single, empty, element, flat, is_content, is_content_leaf, is_tail, is_body, is_head}
use Rattle.xml_model.specs.Nest.{is_nest, is_misc, is_doctype, is_declaration}
use Rattle.xml_model.specs.Records.{Record, past_leaf, past_empty, past_start, past_forest, past_element, forest_records, records}
use Rattle.xml_model.specs.Records.{document}
use Rattle.xml_model.specs.Accepted.{Faults, over_names, leaf_faults, repeats, offences, first_wide, too_wide, wide_here}
use Rattle.xml_nests.specs.Moved.{moved}
use Rattle.xml_nests.specs.Fits.{Fits, texts_apart, is_resolved, is_readable}
use Rattle.xml_nests.specs.Context.{join, Context, before, past_single, past_tag, past_whole, within, plug, items_before, items_after}
use Rattle.xml_nests.specs.Context.{level_in, tags_in, place_in, records_before, records_after, is_held}
use Rattle.xml_nests.proofs.Shift.{records_moved}
use Rattle.xml_nests.proofs.Lists.{both, nil_is, nil_append, Placeless, leaf_any, names_any, repeats_placeless, offences_placeless}
use Rattle.xml_nests.proofs.Around.{flat_plug, records_plug, after_moved}

-- ---- names

and_assoc : (a b d : Bool) → (a && (b && d)) ≡ ((a && b) && d)
and_assoc true b d = refl
and_assoc false b d = refl

pub names_join : (w : Faults) → Placeless w → (tags : List Tag) (at to : ℕ) (g r : Forest) →
    is_nil (over_names w tags at (join g r)) ≡ (is_nil (over_names w tags at g) && is_nil (over_names w tags to r))
names_join w p tags at to done r = names_any w p tags at to r
names_join w p tags at to (single x f) r =
    let a = leaf_faults w at x in
    let b = over_names w tags (past_leaf at x) f in
    nil_append a _ ∙ ap (λ (z : Bool). is_nil a && z) (names_join w p tags (past_leaf at x) to f r) ∙ and_assoc (is_nil a) (is_nil b) _
    ∙ ap (λ (z : Bool). z && is_nil (over_names w tags to r)) (sym (nil_append a b))
names_join w p tags at to (empty t f) r =
    let a = w.tag at tags t in
    let b = over_names w tags (past_empty at t) f in
    nil_append a _ ∙ ap (λ (z : Bool). is_nil a && z) (names_join w p tags (past_empty at t) to f r) ∙ and_assoc (is_nil a) (is_nil b) _
    ∙ ap (λ (z : Bool). z && is_nil (over_names w tags to r)) (sym (nil_append a b))
names_join w p tags at to (element t inside space f) r =
    let a = w.tag at tags t ++ over_names w (t ∷ tags) (past_start at t) inside in
    let b = over_names w tags (past_element at t inside space) f in
    nil_append a _ ∙ ap (λ (z : Bool). is_nil a && z) (names_join w p tags (past_element at t inside space) to f r)
    ∙ and_assoc (is_nil a) (is_nil b) _ ∙ ap (λ (z : Bool). z && is_nil (over_names w tags to r)) (sym (nil_append a b))

-- two lists of pieces have names that offend, or both have none, under some tags
abbrev pub SameNames : Faults → List Tag → Forest → Forest → Type 0
SameNames w tags g h = (at to : ℕ) → is_nil (over_names w tags at g) ≡ is_nil (over_names w tags to h)

pub names_plug : (w : Faults) → Placeless w → (tags : List Tag) (c : Context) (g h : Forest) → SameNames w (tags_in tags c) g h →
    SameNames w tags (plug c g) (plug c h)
names_plug w p tags (before rest) g h s at to = names_join w p tags at 0 g rest
    ∙ ap (λ (z : Bool). z && is_nil (over_names w tags 0 rest)) (s at to) ∙ sym (names_join w p tags to 0 h rest)
names_plug w p tags (past_single x c) g h s at to =
    both (leaf_faults w at x) _ (leaf_faults w to x) _ (leaf_any w p at to x)
    (names_plug w p tags c g h s (past_leaf at x) (past_leaf to x))
names_plug w p tags (past_tag t c) g h s at to =
    both (w.tag at tags t) _ (w.tag to tags t) _ (p.tag at to tags t) (names_plug w p tags c g h s (past_empty at t) (past_empty to t))
names_plug w p tags (past_whole t inside space c) g h s at to =
    both (w.tag at tags t ++ over_names w (t ∷ tags) (past_start at t) inside) _
    (w.tag to tags t ++ over_names w (t ∷ tags) (past_start to t) inside) _
    (both (w.tag at tags t) _ (w.tag to tags t) _ (p.tag at to tags t)
    (names_any w p (t ∷ tags) (past_start at t) (past_start to t) inside))
    (names_plug w p tags c g h s (past_element at t inside space) (past_element to t inside space))
names_plug w p tags (within t c space f) g h s at to =
    both (w.tag at tags t ++ over_names w (t ∷ tags) (past_start at t) (plug c g)) _
    (w.tag to tags t ++ over_names w (t ∷ tags) (past_start to t) (plug c h)) _
    (both (w.tag at tags t) _ (w.tag to tags t) _ (p.tag at to tags t)
    (names_plug w p (t ∷ tags) c g h s (past_start at t) (past_start to t)))
    (names_any w p tags (past_element at t (plug c g) space) (past_element to t (plug c h) space) f)

names_kept : (w : Faults) → Placeless w → (c : Context) (g h : Forest) → SameNames w (tags_in [] c) g h →
    over_names w [] 0 (plug c g) ≡ [] → over_names w [] 0 (plug c h) ≡ []
names_kept w p c g h s e = nil_is _ (sym (names_plug w p [] c g h s 0 0) ∙ ap is_nil e)

-- ---- nesting, in an element

content_join : (m : ℕ) (g r : Forest) → is_content m (join g r) ≡ (is_content m g && is_content m r)
unfolding is_content
content_join m done r = refl
content_join m (single x f) r = ap (λ (z : Bool). is_content_leaf x && z) (content_join m f r)
    ∙ and_assoc (is_content_leaf x) (is_content m f) (is_content m r)
content_join m (empty t f) r = ap (λ (z : Bool). nat_le m 254 && z) (content_join m f r)
    ∙ and_assoc (nat_le m 254) (is_content m f) (is_content m r)
content_join m (element t inside space f) r =
    ap (λ (z : Bool). (nat_le m 254 && is_content (suc m) inside) && z) (content_join m f r)
    ∙ and_assoc (nat_le m 254 && is_content (suc m) inside) (is_content m f) (is_content m r)

-- two lists of pieces are content of an element alike
abbrev pub SameContent : Forest → Forest → Type 0
SameContent g h = (m : ℕ) → is_content m g ≡ is_content m h

content_plug : (c : Context) (m : ℕ) (g h : Forest) → SameContent g h → is_content m (plug c g) ≡ is_content m (plug c h)
unfolding is_content
content_plug (before rest) m g h s = content_join m g rest ∙ ap (λ (z : Bool). z && is_content m rest) (s m) ∙ sym (content_join m h rest)
content_plug (past_single x c) m g h s = ap (λ (z : Bool). is_content_leaf x && z) (content_plug c m g h s)
content_plug (past_tag t c) m g h s = ap (λ (z : Bool). nat_le m 254 && z) (content_plug c m g h s)
content_plug (past_whole t inside space c) m g h s =
    ap (λ (z : Bool). (nat_le m 254 && is_content (suc m) inside) && z) (content_plug c m g h s)
content_plug (within t c space f) m g h s = ap (λ (z : Bool). (nat_le m 254 && z) && is_content m f) (content_plug c (suc m) g h s)

tail_plug : (c : Context) (g h : Forest) → is_held c ≡ true → SameContent g h → is_tail (plug c g) ≡ is_tail (plug c h)
unfolding is_tail
tail_plug (before rest) g h e s = absurd (false≢true e)
tail_plug (past_single x c) g h e s = ap (λ (z : Bool). is_misc x && z) (tail_plug c g h e s)
tail_plug (past_tag t c) g h e s = refl
tail_plug (past_whole t inside space c) g h e s = refl
tail_plug (within t c space f) g h e s = refl

body_plug : (c : Context) (g h : Forest) → is_held c ≡ true → SameContent g h → is_body (plug c g) ≡ is_body (plug c h)
unfolding is_body
body_plug (before rest) g h e s = absurd (false≢true e)
body_plug (past_single x c) g h e s = ap (λ (z : Bool). is_misc x && z) (body_plug c g h e s)
body_plug (past_tag t c) g h e s = tail_plug c g h e s
body_plug (past_whole t inside space c) g h e s = ap (λ (z : Bool). is_content 1 inside && z) (tail_plug c g h e s)
body_plug (within t c space f) g h e s = ap (λ (z : Bool). z && is_tail f) (content_plug c 1 g h s)

head_plug : (c : Context) (g h : Forest) → is_held c ≡ true → SameContent g h → is_head (plug c g) ≡ is_head (plug c h)
unfolding is_head
head_plug (before rest) g h e s = absurd (false≢true e)
head_plug (past_single x c) g h e s =
    ap₂ (λ (y z : Bool). (is_misc x && y) || (is_doctype x && z)) (head_plug c g h e s) (body_plug c g h e s)
head_plug (past_tag t c) g h e s = body_plug (past_tag t c) g h e s
head_plug (past_whole t inside space c) g h e s = body_plug (past_whole t inside space c) g h e s
head_plug (within t c space f) g h e s = body_plug (within t c space f) g h e s

pub nest_plug : (c : Context) (g h : Forest) → is_held c ≡ true → SameContent g h → is_nest (plug c g) ≡ is_nest (plug c h)
unfolding is_nest
nest_plug (before rest) g h e s = absurd (false≢true e)
nest_plug (past_single x c) g h e s =
    ap₂ (λ (y z : Bool). (is_declaration x && y) || z) (head_plug c g h e s) (head_plug (past_single x c) g h e s)
nest_plug (past_tag t c) g h e s = head_plug (past_tag t c) g h e s
nest_plug (past_whole t inside space c) g h e s = head_plug (past_whole t inside space c) g h e s
nest_plug (within t c space f) g h e s = head_plug (within t c space f) g h e s

-- ---- widths

wide_or : (o : Option Field) (at : ℕ) (p q : Option (Field × ℕ)) (b : Bool) → is_some p ≡ (is_some q || b) →
    is_some (wide_here o at p) ≡ (is_some (wide_here o at q) || b)
wide_or None at p q b e = e
wide_or (Some f) at p q b e = refl

pub wide_append : (xs ys : List Record) → is_some (first_wide (xs ++ ys)) ≡ (is_some (first_wide xs) || is_some (first_wide ys))
unfolding first_wide
wide_append [] ys = refl
wide_append (x ∷ xs) ys =
    wide_or (too_wide x) x.offset (first_wide (xs ++ ys)) (first_wide xs) (is_some (first_wide ys)) (wide_append xs ys)

pub wide_one : (o : Option Field) (at to : ℕ) (p q : Option (Field × ℕ)) → is_some p ≡ is_some q →
    is_some (wide_here o at p) ≡ is_some (wide_here o to q)
wide_one None at to p q e = e
wide_one (Some f) at to p q e = refl

wide_moved : (from to : ℕ) (rs : List Record) → is_some (first_wide (map (moved from to) rs)) ≡ is_some (first_wide rs)
unfolding first_wide
wide_moved from to [] = refl
wide_moved from to (r ∷ rs) =
    wide_one (too_wide r) (r.offset - from + to) r.offset (first_wide (map (moved from to) rs)) (first_wide rs) (wide_moved from to rs)

pub none_is : (o : Option (Field × ℕ)) → is_some o ≡ false → o ≡ None
none_is None e = refl
none_is (Some x) e = absurd cc

widths_kept : (c : Context) (g h : Forest) → first_wide (records (plug c g) 0) ≡ None →
    first_wide (forest_records (level_in 0 c) 0 h) ≡ None → first_wide (records (plug c h) 0) ≡ None
unfolding records
widths_kept c g h e n =
    let l = level_in 0 c in
    let at = place_in 0 c in
    let a = document ∷ records_before 0 0 c in
    let x = forest_records l at g in
    let y = forest_records l at h in
    let z = records_after 0 (past_forest at g) c in
    let z' = records_after 0 (past_forest at h) c in
    let old : first_wide (a ++ (x ++ z)) ≡ None = ap (λ (rs : List Record). first_wide (document ∷ rs)) (sym (records_plug 0 0 c g))
    ∙ e in
    let p = or_parts _ _ (sym (wide_append a (x ++ z)) ∙ ap (λ (o : Option (Field × ℕ)). is_some o) old) in
    let q = or_parts _ _ (sym (wide_append x z) ∙ p.1) in
    let new : is_some (first_wide y) ≡ false = ap (λ (rs : List Record). is_some (first_wide rs)) (records_moved l 0 at h)
    ∙ wide_moved 0 at (forest_records l 0 h) ∙ ap (λ (o : Option (Field × ℕ)). is_some o) n in
    let after : is_some (first_wide z') ≡ false =
    ap (λ (rs : List Record). is_some (first_wide rs)) (after_moved 0 (past_forest at g) (past_forest at h) c)
    ∙ wide_moved (past_forest at g) (past_forest at h) z ∙ q.1 in
    none_is _ (
    ap (λ (rs : List Record). is_some (first_wide (document ∷ rs))) (records_plug 0 0 c h) ∙ wide_append a (y ++ z')
    ∙ or_from _ _ p.0 (wide_append y z' ∙ or_from _ _ new after)
    )

-- ---- all of it

-- what has to be tested of new pieces
pub record Suits (k : ℕ) (c : Context) (g h : Forest) : Type 0 where
  pub held : is_held c ≡ true
  pub content : SameContent g h
  pub meets_all : list_all meets (flat h) ≡ true
  pub apart : texts_apart (flat (plug c h)) ≡ true
  pub entities : list_all is_resolved (flat h) ≡ true
  pub encoding : list_all is_readable (flat h) ≡ true
  pub widths : first_wide (forest_records (level_in 0 c) 0 h) ≡ None
  pub twice : 7 ≤ k → SameNames repeats (tags_in [] c) g h
  pub names : 8 ≤ k → SameNames offences (tags_in [] c) g h

all_kept : (p : Item → Bool) (c : Context) (g h : Forest) → list_all p (flat (plug c g)) ≡ true → list_all p (flat h) ≡ true →
    list_all p (flat (plug c h)) ≡ true
all_kept p c g h e n =
    let x = and_parts _ _
    (sym (list_all-append p (items_before c) (flat g ++ items_after c)) ∙ ap (list_all p) (sym (flat_plug c g)) ∙ e) in
    let y = and_parts _ _ (sym (list_all-append p (flat g) (items_after c)) ∙ x.1) in
    ap (list_all p) (flat_plug c h) ∙ list_all-append p (items_before c) (flat h ++ items_after c)
    ∙ and_from _ _ x.0 (list_all-append p (flat h) (items_after c) ∙ and_from _ _ n y.1)

-- the law: a nest that fits still does where pieces are exchanged for others that suit
pub fits_exchanged : (k : ℕ) (c : Context) (g h : Forest) → Fits k (plug c g) → Suits k c g h → Fits k (plug c h)
fits_exchanged k c g h f s = record {
  nests = sym (nest_plug c g h s.held s.content) ∙ f.nests;
  meets_all = all_kept meets c g h f.meets_all s.meets_all;
  apart = s.apart;
  entities = all_kept is_resolved c g h f.entities s.entities;
  encoding = all_kept is_readable c g h f.encoding s.encoding;
  widths = widths_kept c g h f.widths s.widths;
  twice = λ m. names_kept repeats repeats_placeless c g h (s.twice m) (f.twice m);
  names = λ m. names_kept offences offences_placeless c g h (s.names m) (f.names m);
}
