-- One pass over the names of an element: what is known of each prefix that is declared round it.
use Rattle.std.proofs.Common.{◌≡◌, ℕ, ◌+◌, ◌<◌, ◌≤◌, Bool, true, false, cond, inl, inr, List, [], ◌∷◌, ◌++◌, length, refl, ap, ap₂, sym, ◌∙◌, subst, arith, append_assoc, length-append, ◌==◌, ◌&&◌, ◌||◌, not, eqb-true, bytes_eq, Option, Some, None}
use Rattle.std.specs.Prelude.{Contains, encode_utf8_all, option_map, max, nat_le, MatchOption}
use Rattle.std.specs.List.{list_any}
use Rattle.std.proofs.lemmas.Bool.{false≢true, or_cases, or_left, or_right, and_from, cases_lt, le-leb, leb-true, eq-eqb}
use Rattle.xml_model.specs.declared.Kind.TheVariants as kinds
use Rattle.xml_model.specs.Accepted.{IsDocument}
use Rattle.xml_model.specs.Chars.{prefix_of}
use Rattle.xml_model.specs.Items.{Tag, first_place, is_nil}
use Rattle.xml_model.specs.Records.{records, attributes_place}
use Rattle.xml_model.proofs.Each.{each_at}
use Rattle.vtd_words.specs.Table.{nodes_of}
use Rattle.vtd_namespaces.specs.NameRecords.{AreAttributeRecords, HasNameRecord, IsRecordOfThing, IsTagRecord}
use Rattle.vtd_namespaces.specs.NodeNames.{node_prefix}
use Rattle.vtd_namespaces.proofs.NameRecordLemmas.{document_holds}
use Rattle.vtd_fragment.proofs.NamedLemmas.{nil_encoded}
use Rattle.xml_model.specs.Nest.{Forest, is_nest}
use Rattle.xml_model.specs.Tree.{Thing, Entry, Holder, all, kind_of}
use Rattle.xml_model.proofs.Filters.{any_in, any_same}
use Rattle.xml_model.proofs.Indexes.{one_node}
use Rattle.vtd_words.specs.Found.{NodeAt}
use Rattle.std.specs.Map.{lookup}
use Rattle.std.specs.BTreeMap.{is_at}
use Rattle.std.specs.Cmp.Lexicographic.{slice_cmp}
use Rattle.std.specs.Ordering.{nat_cmp}
use denote.Ref.{Bor}
use Rattle.vtd_namespaces.specs.Scope.{Chain, tags_in}
use Rattle.vtd_namespaces.proofs.DeclarationLemmas.{chain_attributes}
use Rattle.vtd_fragment.proofs.NeedLemmas.{chain_of, chain_split}
use Rattle.vtd_namespaces.proofs.RepeatLemmas.{eq_encoded}
use Rattle.xml_fragments.specs.Cut.{has_declaration}
use Rattle.xml_fragments.specs.Fragment.{is_written, subtree}
use Rattle.vtd_fragment.specs.Named.{is_named}
use Rattle.vtd_fragment.specs.Prefixes.{known, fresh, raised, marked, IsNearest, AreNoted, Redeclares, Passed, ArePassed, is_bound_at}
use Rattle.vtd_fragment.specs.Round.{is_hit}
use Rattle.vtd_fragment.specs.declared.prefixes.Declared.{Declared}
use Rattle.vtd_fragment.proofs.HiddenLemmas.{inside_range, hit_out, hit_back, hit_other, hit_hidden}
use Rattle.vtd_fragment.proofs.PrefixLemmas.{Map}
use Rattle.vtd_fragment.proofs.SearchLemmas.{is_inside, any_filter, any_false}

-- ---- the declarations round the element

pub noted_none : (m : Map) → ((p : List ℕ) → known m (encode_utf8_all p) ≡ None) → AreNoted m []
noted_none m h p = subst (λ (o : Option Declared). MatchOption o (false ≡ false) (λ d. IsNearest [] p d.level × (d.hidden ≡ 0) × (d.is_used ≡ false))) (sym (h p)) refl

abbrev NotedOf : List Holder → List ℕ → Option Declared → Type 0
NotedOf hs p o = MatchOption o (list_any (has_declaration p) (tags_in hs) ≡ false) (λ d. IsNearest hs p d.level × (d.hidden ≡ 0) × (d.is_used ≡ false))

pub noted_next : (old new : Map) (hs : List Holder) (x : Holder) (level : ℕ) → length hs ≡ level → AreNoted old hs →
    ((p : List ℕ) → known new (encode_utf8_all p) ≡ cond (has_declaration p x.tag) (Some (fresh level)) (known old (encode_utf8_all p))) → AreNoted new (x ∷ hs)
noted_next old new hs x level l h k p = subst (NotedOf (x ∷ hs) p) (sym (k p)) (by (has_declaration p x.tag) refl (known old (encode_utf8_all p)) (h p))
  where
    by : (b : Bool) → has_declaration p x.tag ≡ b → (o : Option Declared) → NotedOf hs p o → NotedOf (x ∷ hs) p (cond b (Some (fresh level)) o)
    by true e o n = (record { near = []; far = hs; holder = x; split = refl; many = l; declares = e; nearest = refl }, refl, refl)
    by false e None n = ap₂ (λ (a b : Bool). a || b) e n
    by false e (Some d) n =
        let s = n.0 in (
          record {
            near = x ∷ s.near;
            far = s.far;
            holder = s.holder;
            split = ap (λ (q : List Holder). x ∷ q) s.split;
            many = s.many;
            declares = s.declares;
            nearest = ap₂ (λ (a b : Bool). a || b) e s.nearest;
          },
          n.1,
          n.2,
        )

-- ---- before the first name

module _ (nest : Forest) (first : ℕ) (n : is_nest nest ≡ true) (e : Entry) (own : Contains (all nest first) e) where
  abbrev PassedOf : ℕ → ℕ → List ℕ → Option Declared → Type 0
  PassedOf tags names p o = MatchOption o (list_any (has_declaration p) (tags_in e.holders) ≡ false) (Passed (all nest first) e tags names p)

  pub passed_none : (m : Map) → AreNoted m e.holders → ArePassed m (all nest first) e e.index e.index
  passed_none m h p = by (known m (encode_utf8_all p)) (h p)
    where
      by : (o : Option Declared) → NotedOf e.holders p o → PassedOf e.index e.index p o
      by None k = k
      by (Some d) k = record {
        nearest = k.0;
        hides = λ y r. absurd (omega (arith, r.from, r.before));
        hidden = inl k.1;
        used = λ u. absurd (false≢true (sym k.2 ∙ u));
        all = λ x c i l h. absurd (omega (arith, (inside_range nest first e x own c i).0, l));
      }

  -- ---- a record at which no name is

  more_tags : (tags names : ℕ) (p : List ℕ) (d : Declared) → Passed (all nest first) e tags names p d → ((y : Entry) → Redeclares (all nest first) e (tags + 1) p y → y.index ≡ tags → ⊥) → Passed (all nest first) e (tags + 1) names p d
  more_tags tags names p d s none = record {
    nearest = s.nearest;
    hides = λ y r. elim (cases_lt y.index tags) [
      | inl lt ↦ s.hides y (record { there = r.there; tag = r.tag; inside = r.inside; what = r.what; declares = r.declares; from = r.from; before = lt })
      | inr ge ↦ absurd (none y r (omega (arith, ge, r.before)))
    ];
    hidden = elim s.hidden [
      | inl z ↦ inl z
      | inr w ↦ let r = w.1 in inr (w.0, record { there = r.there; tag = r.tag; inside = r.inside; what = r.what; declares = r.declares; from = r.from; before = omega (arith, r.before) }, w.2)
    ];
    used = s.used;
    all = s.all;
  }

  more_names : (tags names : ℕ) (p : List ℕ) (d : Declared) (s : Passed (all nest first) e tags names p d) → ((x : Entry) → Contains (all nest first) x → is_inside e x ≡ true → x.index ≡ names → is_hit p s.nearest.holder x ≡ true → ⊥) → Passed (all nest first) e tags (names + 1) p d
  more_names tags names p d s none = record {
    nearest = s.nearest;
    hides = s.hides;
    hidden = s.hidden;
    used = s.used;
    all = λ x c i l h. elim (cases_lt x.index names) [
      | inl lt ↦ s.all x c i lt h
      | inr ge ↦ absurd (none x c i (omega (arith, ge, l)) h)
    ];
  }

  no_hit : (x : Entry) (p : List ℕ) (u : Holder) → is_hit p u x ≡ true → is_named x.what ≡ true
  no_hit x p u h = hit_other x p u h

  pub passed_unnamed : (m : Map) (at : ℕ) → ArePassed m (all nest first) e at at → NodeAt is_named (all nest first) at None → ArePassed m (all nest first) e (at + 1) (at + 1)
  passed_unnamed m at h none p = by (known m (encode_utf8_all p)) (h p)
    where
      by : (o : Option Declared) → PassedOf at at p o → PassedOf (at + 1) (at + 1) p o
      by None k = k
      by (Some d) s =
          let t = more_tags at at p d s (λ y r i. none y r.there (ap is_named r.what) i) in
          more_names (at + 1) at p d t (λ x c inside i hit. none x c (no_hit x p t.nearest.holder hit) i)

  -- ---- a tag

  max_is : (h m : ℕ) → m ≤ h → max h m ≡ h
  max_is h m l = omega arith

  max_other : (h m : ℕ) → h ≤ m → max h m ≡ m
  max_other h m l = omega arith

  -- the element at the record declares the prefix
  tag_raises : (x : Entry) → Contains (all nest first) x → (t : Tag) (inside : Forest) → x.what ≡ Thing.element t inside → is_inside e x ≡ true → (p : List ℕ) → has_declaration p t ≡ true → (d : Declared) → Passed (all nest first) e x.index x.index p d →
      Passed (all nest first) e (x.index + 1) x.index p (raised x.past d)
  tag_raises x c t inside w i p q d s =
      let mine : Redeclares (all nest first) e (x.index + 1) p x = record { there = c; tag = t; inside = inside; what = w; declares = q; from = (inside_range nest first e x own c i).0; before = omega arith } in
      record {
        nearest = s.nearest;
        hides = λ y r. elim (cases_lt y.index x.index) [
          | inl lt ↦
              let old = s.hides y (record { there = r.there; tag = r.tag; inside = r.inside; what = r.what; declares = r.declares; from = r.from; before = lt }) in omega (arith, old)
          | inr ge ↦
              let same : y ≡ x = one_node nest first y x r.there c (omega (arith, ge, r.before)) in
              let past : y.past ≡ x.past = ap (λ (z : Entry). z.past) same in
              omega (arith, past)
        ];
        hidden = elim (cases_lt x.past d.hidden) [
          | inr le ↦ inr (x, mine, sym (max_other d.hidden x.past le))
          | inl lt ↦ elim s.hidden [
            | inl z ↦ absurd (omega (arith, z, lt))
            | inr v ↦
                let r = v.1 in
                inr (v.0, record { there = r.there; tag = r.tag; inside = r.inside; what = r.what; declares = r.declares; from = r.from; before = omega (arith, r.before) }, v.2 ∙ sym (max_is d.hidden x.past (omega (arith, lt))))
          ]
        ];
        used = s.used;
        all = s.all;
      }

  pub passed_tag : (old new : Map) (x : Entry) → Contains (all nest first) x → (t : Tag) (inside : Forest) → x.what ≡ Thing.element t inside → is_inside e x ≡ true → (at past : ℕ) → at ≡ x.index → past ≡ x.past →
      ((p : List ℕ) → known new (encode_utf8_all p) ≡ cond (has_declaration p t) (option_map (raised past) (known old (encode_utf8_all p))) (known old (encode_utf8_all p))) →
      ArePassed old (all nest first) e at at → ArePassed new (all nest first) e (at + 1) at
  passed_tag old new x c t inside w i at past ia ip k h p =
      subst (PassedOf (at + 1) at p) (sym (k p))
      (subst (λ j. PassedOf (at + 1) at p (cond (has_declaration p t) (option_map (raised j) (known old (encode_utf8_all p))) (known old (encode_utf8_all p)))) (sym ip)
      (subst (λ j. PassedOf (j + 1) j p (cond (has_declaration p t) (option_map (raised x.past) (known old (encode_utf8_all p))) (known old (encode_utf8_all p)))) (sym ia)
      (by (has_declaration p t) refl (known old (encode_utf8_all p)) (subst (λ j. PassedOf j j p (known old (encode_utf8_all p))) ia (h p)))))
    where
      by : (b : Bool) → has_declaration p t ≡ b → (o : Option Declared) → PassedOf x.index x.index p o → PassedOf (x.index + 1) x.index p (cond b (option_map (raised x.past) o) o)
      by true q None s = s
      by true q (Some d) s = tag_raises x c t inside w i p q d s
      by false q None s = s
      by false q (Some d) s = more_tags x.index x.index p d s (λ y r j.
          let same : y ≡ x = one_node nest first y x r.there c j in
          let tags : ◌≡◌ {A = Thing} (Thing.element r.tag r.inside) (Thing.element t inside) = sym r.what ∙ ap (λ (z : Entry). z.what) same ∙ w in
          let tag : r.tag ≡ t = cc in
          false≢true (sym q ∙ ap (has_declaration p) (sym tag) ∙ r.declares))

  -- ---- an attribute, whose record is no element's

  pub passed_no_tag : (m : Map) (x : Entry) → Contains (all nest first) x → (kind_of x.what ≡ kinds.Element → ⊥) → (at : ℕ) → at ≡ x.index → ArePassed m (all nest first) e at at → ArePassed m (all nest first) e (at + 1) at
  passed_no_tag m x c other at ia h p = by (known m (encode_utf8_all p)) (h p)
    where
      by : (o : Option Declared) → PassedOf at at p o → PassedOf (at + 1) at p o
      by None k = k
      by (Some d) s = more_tags at at p d s (λ y r j.
          let same : y ≡ x = one_node nest first y x r.there c (j ∙ ia) in
          other (ap (λ (z : Entry). kind_of z.what) (sym same) ∙ ap kind_of r.what))

  -- ---- a name

  le_true : (a b : ℕ) → a ≤ b → nat_le a b ≡ true
  le_true a b l = le-leb a b l

  -- the name at the record is written with the prefix
  name_marks : (t : Tag) (inner : Forest) → e.what ≡ Thing.element t inner → (x : Entry) → Contains (all nest first) x → is_inside e x ≡ true → is_named x.what ≡ true → (p : List ℕ) → is_written p x.what ≡ true → (d : Declared) →
      Passed (all nest first) e (x.index + 1) x.index p d → Passed (all nest first) e (x.index + 1) (x.index + 1) p (marked x.index d)
  name_marks t inner w x c i named p written d s = record {
    nearest = s.nearest;
    hides = s.hides;
    hidden = s.hidden;
    used = λ u. elim (or_cases d.is_used (nat_le d.hidden x.index) u) [
      | inl old ↦ s.used old
      | inr low ↦ (x, c, i, hit_back nest first n e own t inner w x c i named x.index p d s written (leb-true d.hidden x.index low))
    ];
    all = λ y k j l h. elim (cases_lt y.index x.index) [
      | inl lt ↦ or_left d.is_used (nat_le d.hidden x.index) (s.all y k j lt h)
      | inr ge ↦
          let same : y ≡ x = one_node nest first y x k c (omega (arith, ge, l)) in
          let hit = ap (is_hit p s.nearest.holder) (sym same) ∙ h in
          or_right d.is_used (nat_le d.hidden x.index) (le_true d.hidden x.index (hit_out nest first n e own t inner w x c i x.index p d s hit).1)
    ];
  }

  pub passed_name : (old new : Map) (t : Tag) (inner : Forest) → e.what ≡ Thing.element t inner → (x : Entry) → Contains (all nest first) x → is_inside e x ≡ true → is_named x.what ≡ true → (at : ℕ) → at ≡ x.index → (prefix : List ℕ) →
      ((p : List ℕ) → bytes_eq prefix (encode_utf8_all p) ≡ is_written p x.what) →
      ((bs : List ℕ) → known new bs ≡ cond (bytes_eq prefix bs) (option_map (marked at) (known old bs)) (known old bs)) →
      ArePassed old (all nest first) e (at + 1) at → ArePassed new (all nest first) e (at + 1) (at + 1)
  passed_name old new t inner w x c i named at ia prefix writes k h p =
      subst (PassedOf (at + 1) (at + 1) p) (sym (k (encode_utf8_all p)))
      (subst (λ (b : Bool). PassedOf (at + 1) (at + 1) p (cond b (option_map (marked at) (known old (encode_utf8_all p))) (known old (encode_utf8_all p)))) (sym (writes p))
      (subst (λ j. PassedOf (j + 1) (j + 1) p (cond (is_written p x.what) (option_map (marked j) (known old (encode_utf8_all p))) (known old (encode_utf8_all p)))) (sym ia)
      (by (is_written p x.what) refl (known old (encode_utf8_all p)) (subst (λ j. PassedOf (j + 1) j p (known old (encode_utf8_all p))) ia (h p)))))
    where
      by : (b : Bool) → is_written p x.what ≡ b → (o : Option Declared) → PassedOf (x.index + 1) x.index p o → PassedOf (x.index + 1) (x.index + 1) p (cond b (option_map (marked x.index) o) o)
      by true q None s = s
      by true q (Some d) s = name_marks t inner w x c i named p q d s
      by false q None s = s
      by false q (Some d) s = more_names (x.index + 1) x.index p d s (λ y a j l hit.
          let same : y ≡ x = one_node nest first y x a c l in
          false≢true (sym q ∙ (hit_out nest first n e own t inner w x c i x.index p d s (ap (is_hit p s.nearest.holder) (sym same) ∙ hit)).0))

  pub passed_unwritten : (m : Map) (t : Tag) (inner : Forest) → e.what ≡ Thing.element t inner → (x : Entry) → Contains (all nest first) x → is_inside e x ≡ true → ((p : List ℕ) → is_written p x.what ≡ false) → (at : ℕ) → at ≡ x.index →
      ArePassed m (all nest first) e (at + 1) at → ArePassed m (all nest first) e (at + 1) (at + 1)
  passed_unwritten m t inner w x c i none at ia h p =
      subst (λ j. PassedOf (j + 1) (j + 1) p (known m (encode_utf8_all p))) (sym ia) (by (known m (encode_utf8_all p)) (subst (λ j. PassedOf (j + 1) j p (known m (encode_utf8_all p))) ia (h p)))
    where
      by : (o : Option Declared) → PassedOf (x.index + 1) x.index p o → PassedOf (x.index + 1) (x.index + 1) p o
      by None s = s
      by (Some d) s = more_names (x.index + 1) x.index p d s (λ y a j l hit.
          let same : y ≡ x = one_node nest first y x a c l in
          false≢true (sym (none p) ∙ (hit_out nest first n e own t inner w x c i x.index p d s (ap (is_hit p s.nearest.holder) (sym same) ∙ hit)).0))

  -- ---- at the end

  used_by : (r : Bool) (f : Entry → Bool) → (r ≡ true → (x : Entry) × Contains (all nest first) x × (is_inside e x ≡ true) × (f x ≡ true)) → ((x : Entry) → Contains (all nest first) x → is_inside e x ≡ true → f x ≡ true → r ≡ true) →
      r ≡ list_any f (subtree e.path (all nest first))
  used_by true f some each =
      let x = some refl in sym (any_filter (is_inside e) f (all nest first) ∙ any_in (λ y. is_inside e y && f y) (all nest first) x.0 x.1 (and_from (is_inside e x.0) (f x.0) x.2 x.3))
  used_by false f some each =
      sym (any_filter (is_inside e) f (all nest first) ∙ any_same (λ y. is_inside e y && f y) (λ y. false) (all nest first) (λ x c. by x c (is_inside e x) refl (f x) refl) ∙ any_false (all nest first))
    where
      by : (x : Entry) → Contains (all nest first) x → (a : Bool) → is_inside e x ≡ a → (b : Bool) → f x ≡ b → (a && b) ≡ false
      by x c true i true h = absurd (false≢true (each x c i h))
      by x c true i false h = refl
      by x c false i b h = refl

  -- two of the elements round the element, by how many hold them
  split_same : (xs ys vs ws : List Holder) (h g : Holder) → xs ++ h ∷ ys ≡ vs ++ g ∷ ws → length ys ≡ length ws → h ≡ g
  split_same [] ys [] ws h g q l = cc
  split_same [] ys (v ∷ vs) ws h g q l = let rest : ys ≡ vs ++ g ∷ ws = cc in absurd (omega (arith, ap length rest, length-append vs (g ∷ ws), l))
  split_same (x ∷ xs) ys [] ws h g q l = let rest : xs ++ h ∷ ys ≡ ws = cc in absurd (omega (arith, ap length rest, length-append xs (h ∷ ys), l))
  split_same (x ∷ xs) ys (v ∷ vs) ws h g q l = let rest : xs ++ h ∷ ys ≡ vs ++ g ∷ ws = cc in split_same xs ys vs ws h g rest l

  split_near : (xs ys vs ws : List Holder) (h g : Holder) → xs ++ h ∷ ys ≡ vs ++ g ∷ ws → length ys < length ws → (mid : List Holder) × (xs ≡ vs ++ g ∷ mid)
  split_near [] ys vs ws h g q l = absurd (omega (arith, ap length q, length-append vs (g ∷ ws), l))
  split_near (x ∷ xs) ys [] ws h g q l = let same : x ≡ g = cc in (xs, ap (λ (y : Holder). y ∷ xs) same)
  split_near (x ∷ xs) ys (v ∷ vs) ws h g q l =
      let rest : xs ++ h ∷ ys ≡ vs ++ g ∷ ws = cc in
      let same : x ≡ v = cc in
      let k = split_near xs ys vs ws h g rest l in
      (k.0, ap₂ (λ (y : Holder) (z : List Holder). y ∷ z) same k.1)

  any_mid : (q : Tag → Bool) (xs ys : List Holder) (h : Holder) → q h.tag ≡ true → list_any q (tags_in (xs ++ h ∷ ys)) ≡ true
  any_mid q [] ys h t = ap (λ (b : Bool). b || list_any q (tags_in ys)) t
  any_mid q (x ∷ xs) ys h t = or_right (q x.tag) (list_any q (tags_in (xs ++ h ∷ ys))) (any_mid q xs ys h t)

  pub bound_is : (t : Tag) (inner : Forest) → e.what ≡ Thing.element t inner → (m : Map) → ArePassed m (all nest first) e e.past e.past → (near far : List Holder) (h : Holder) → e.holders ≡ near ++ h ∷ far → (p : List ℕ) → has_declaration p h.tag ≡ true →
      (level : ℕ) → length far ≡ level → is_bound_at level (known m (encode_utf8_all p)) ≡ list_any (is_hit p h) (subtree e.path (all nest first))
  bound_is t inner w m k near far h split p declares level many = by (known m (encode_utf8_all p)) (k p)
    where
      other : (d : Declared) (s : Passed (all nest first) e e.past e.past p d) → (d.level == level) ≡ false → (x : Entry) → Contains (all nest first) x → is_inside e x ≡ true → is_hit p h x ≡ true → ⊥
      other d s differ x c i hit = elim (cases_lt level d.level) [
        | inl nearer ↦
            let v = split_near near far s.nearest.near s.nearest.far h s.nearest.holder (sym split ∙ s.nearest.split) (omega (arith, nearer, many, s.nearest.many)) in
            let some = ap (λ (l : List Holder). list_any (has_declaration p) (tags_in l)) v.1 ∙ any_mid (has_declaration p) s.nearest.near v.0 s.nearest.holder s.nearest.declares in
            false≢true (sym (hit_hidden nest first n e own t inner w x c i near far h split p declares some) ∙ hit)
        | inr not_nearer ↦ elim (cases_lt d.level level) [
          | inl further ↦
              let v = split_near s.nearest.near s.nearest.far near far s.nearest.holder h (sym s.nearest.split ∙ split) (omega (arith, further, many, s.nearest.many)) in
              let some = ap (λ (l : List Holder). list_any (has_declaration p) (tags_in l)) v.1 ∙ any_mid (has_declaration p) near v.0 h declares in
              false≢true (sym s.nearest.nearest ∙ some)
          | inr not_further ↦ false≢true (sym differ ∙ eq-eqb d.level level (omega (arith, not_nearer, not_further)))
        ]
      ]

      own_level : (d : Declared) (s : Passed (all nest first) e e.past e.past p d) → (b : Bool) → (d.level == level) ≡ b → (b && d.is_used) ≡ list_any (is_hit p h) (subtree e.path (all nest first))
      own_level d s true e' =
          let same : s.nearest.holder ≡ h = split_same s.nearest.near s.nearest.far near far s.nearest.holder h (sym s.nearest.split ∙ split) (omega (arith, s.nearest.many, many, eqb-true d.level level e')) in
          used_by d.is_used (is_hit p h) (λ u. let v = s.used u in (v.0, v.1, v.2, ap (λ (g : Holder). is_hit p g v.0) (sym same) ∙ v.3))
          (λ x c i hit. s.all x c i (inside_range nest first e x own c i).1 (ap (λ (g : Holder). is_hit p g x) same ∙ hit))
      own_level d s false e' = used_by false (is_hit p h) (λ u. absurd (false≢true u)) (λ x c i hit. absurd (other d s e' x c i hit))

      by : (o : Option Declared) → PassedOf e.past e.past p o → is_bound_at level o ≡ list_any (is_hit p h) (subtree e.path (all nest first))
      by None s = absurd (false≢true (sym s ∙ ap (λ (l : List Holder). list_any (has_declaration p) (tags_in l)) split ∙ any_mid (has_declaration p) near far h declares))
      by (Some d) s = own_level d s (d.level == level) refl

-- ---- names with their prefixes

pub element_written : (what : Thing) (own : List ℕ) → kind_of what ≡ kinds.Element → own ≡ encode_utf8_all (node_prefix what) → (p : List ℕ) → bytes_eq own (encode_utf8_all p) ≡ is_written p what
element_written (Thing.element t inside) own k e p = ap (λ (x : List ℕ). bytes_eq x (encode_utf8_all p)) e ∙ eq_encoded (prefix_of t.name) p
element_written (Thing.attribute a) own k e p = absurd cc
element_written (Thing.root u f) own k e p = absurd cc
element_written (Thing.text xs) own k e p = absurd cc
element_written (Thing.comment cs) own k e p = absurd cc
element_written (Thing.instruction i) own k e p = absurd cc

some_prefix : (own name : List ℕ) → own ≡ encode_utf8_all name → (length own == 0) ≡ false → is_nil name ≡ false
some_prefix own name e h = sym (ap (λ (x : List ℕ). length x == 0) e ∙ nil_encoded name) ∙ h

no_prefix : (own name : List ℕ) → own ≡ encode_utf8_all name → (length own == 0) ≡ true → is_nil name ≡ true
no_prefix own name e h = sym (ap (λ (x : List ℕ). length x == 0) e ∙ nil_encoded name) ∙ h

pub attribute_written : (what : Thing) (own : List ℕ) → kind_of what ≡ kinds.Attribute → own ≡ encode_utf8_all (node_prefix what) → (length own == 0) ≡ false → (p : List ℕ) → bytes_eq own (encode_utf8_all p) ≡ is_written p what
attribute_written (Thing.attribute a) own k e h p = ap (λ (x : List ℕ). bytes_eq x (encode_utf8_all p)) e ∙ eq_encoded (prefix_of a.name) p ∙ by (prefix_of a.name) (some_prefix own (prefix_of a.name) e h) p
  where
    by : (name : List ℕ) → is_nil name ≡ false → (p : List ℕ) → bytes_eq name p ≡ (not (is_nil p) && bytes_eq name p)
    by [] h p = absurd (false≢true (sym h))
    by (c ∷ name) h [] = refl
    by (c ∷ name) h (d ∷ p) = refl
attribute_written (Thing.element t inside) own k e h p = absurd cc
attribute_written (Thing.root u f) own k e h p = absurd cc
attribute_written (Thing.text xs) own k e h p = absurd cc
attribute_written (Thing.comment cs) own k e h p = absurd cc
attribute_written (Thing.instruction i) own k e h p = absurd cc

pub attribute_unwritten : (what : Thing) (own : List ℕ) → kind_of what ≡ kinds.Attribute → own ≡ encode_utf8_all (node_prefix what) → (length own == 0) ≡ true → (p : List ℕ) → is_written p what ≡ false
attribute_unwritten (Thing.attribute a) own k e h p = by (prefix_of a.name) (no_prefix own (prefix_of a.name) e h) p
  where
    by : (name : List ℕ) → is_nil name ≡ true → (p : List ℕ) → (not (is_nil p) && bytes_eq name p) ≡ false
    by [] h [] = refl
    by [] h (d ∷ p) = refl
    by (c ∷ name) h p = absurd (false≢true h)
attribute_unwritten (Thing.element t inside) own k e h p = absurd cc
attribute_unwritten (Thing.root u f) own k e h p = absurd cc
attribute_unwritten (Thing.text xs) own k e h p = absurd cc
attribute_unwritten (Thing.comment cs) own k e h p = absurd cc
attribute_unwritten (Thing.instruction i) own k e h p = absurd cc

pub no_element : (what : Thing) → kind_of what ≡ kinds.Attribute → kind_of what ≡ kinds.Element → ⊥
no_element what a e = let z : kinds.Attribute ≡ kinds.Element = sym a ∙ e in cc

-- the records of the attributes of an element
pub tag_attributes_at : (bytes : List ℕ) (nest : Forest) → IsDocument bytes nest → (x : Entry) → Contains (nodes_of bytes nest) x → (t : Tag) (inside : Forest) → x.what ≡ Thing.element t inside → (at : ℕ) → at ≡ x.index →
    (place : ℕ) × AreAttributeRecords bytes (records nest (first_place bytes)) (at + 1) place t.attributes
tag_attributes_at bytes nest d x c t inside w at i =
    let rs = records nest (first_place bytes) in
    let h : IsRecordOfThing bytes rs x.index x.start x.what = each_at (HasNameRecord bytes rs) (nodes_of bytes nest) x (document_holds bytes nest d) c in
    let r : IsTagRecord bytes rs x.index x.start t = subst (IsRecordOfThing bytes rs x.index x.start) w h in
    (attributes_place x.start t, subst (λ n. AreAttributeRecords bytes rs (n + 1) (attributes_place x.start t) t.attributes) (sym i) r.attributes)

-- the records of the attributes of an element that holds another one
pub holder_attributes : (bytes : List ℕ) (nest : Forest) → IsDocument bytes nest → (e : Entry) → Contains (nodes_of bytes nest) e → (near far : List Holder) (x : Holder) → e.holders ≡ near ++ x ∷ far → (at : ℕ) → at ≡ x.index →
    (place : ℕ) × AreAttributeRecords bytes (records nest (first_place bytes)) (at + 1) place x.tag.attributes
holder_attributes bytes nest d e c near far x is at i =
    let rs = records nest (first_place bytes) in
    let chain = subst (Chain (nodes_of bytes nest)) is (chain_of bytes nest e c) in
    let a = chain_attributes bytes rs (nodes_of bytes nest) (document_holds bytes nest d) x far (chain_split (nodes_of bytes nest) near far x chain) in
    (a.0, subst (λ n. AreAttributeRecords bytes rs (n + 1) a.0 x.tag.attributes) (sym i) a.1)

-- ---- one element round the element after another

pub noted_begin : (m : Map) → m.entries ≡ [] → (far : List Holder) → length far ≡ 0 → AreNoted m far
noted_begin m e [] n = noted_none m (λ p. ap (λ (l : List (Bor (List ℕ) × Declared)). lookup (is_at (λ k. slice_cmp nat_cmp (encode_utf8_all p) k.now)) l) e)
noted_begin m e (x ∷ far) n = absurd (omega (arith, n))

pub noted_more : (old new : Map) (hs : List Holder) (level : ℕ) → ((near far : List Holder) → hs ≡ near ++ far → length far ≡ level → AreNoted old far) →
    ((near far : List Holder) (x : Holder) → hs ≡ near ++ x ∷ far → length far ≡ level → (p : List ℕ) → known new (encode_utf8_all p) ≡ cond (has_declaration p x.tag) (Some (fresh level)) (known old (encode_utf8_all p))) →
    (near far : List Holder) → hs ≡ near ++ far → length far ≡ level + 1 → AreNoted new far
noted_more old new hs level before more near [] e n = absurd (omega (arith, n))
noted_more old new hs level before more near (x ∷ far) e n =
    let few : length far ≡ level = omega (arith, n) in
    noted_next old new far x level few (before (near ++ x ∷ []) far (e ∙ sym (append_assoc near (x ∷ []) far)) few) (more near far x e few)
