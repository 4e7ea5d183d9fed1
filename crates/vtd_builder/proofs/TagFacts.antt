-- What is at a tag of an accepted document.
use Rattle.std.proofs.Common.{◌≡◌, ℕ, ◌+◌, ◌<◌, ◌≤◌, true, inl, inr, ◌⊎◌, List, [], ◌∷◌, ◌++◌, length, drop, get_or, map, Result, Ok, Err, refl, sym, ap, subst, ◌∙◌, arith, append_assoc}
use Rattle.std.specs.Prelude.{codes, ◌&&◌, ◌==◌}
use Rattle.std.specs.List.{list_all, prefix_len}
use Rattle.std.proofs.lemmas.Bool.{and_parts, false≢true, eqb-true, eq-eqb}
use Rattle.xml_model.specs.Chars.{size, is_space, is_white, is_name, is_blank}
use Rattle.xml_model.specs.Items.{Attribute, Tag, Leaf, text, cdata, declaration, doctype, Item, leaf, start_tag, empty_tag, end_tag, written, written_tag, written_attribute, written_attributes, meets, meets_tag, meets_attribute, spelling, begins_at}
use Rattle.xml_model.specs.Records.{Record, word, attributes_records}
use Rattle.xml_model.specs.declared.Span.{Span}
use Rattle.vtd_builder.specs.Offered.{outcome, offer, CanOffer}
use Rattle.vtd_builder.proofs.InParts.{Test, offer_ok, offer_err, offer_count, can_rest}
use lib.Utf8.{encode}
use Rattle.xml_chars.specs.Places.{span_from}
use Rattle.xml_chars.proofs.HoldLemmas.{size-append}
use Rattle.xml_items.specs.Shown.{leaf_kind, item_kind}
use Rattle.vtd_builder.specs.declared.offers.Beginning.TheVariants as beginnings
use Rattle.xml_items.proofs.SpanLemmas.{spelled, size_1}
use Rattle.xml_acceptance.specs.Machine.{item_records, level_after}
use Rattle.vtd_builder.specs.Found.{IsWithin, named_span}
use Rattle.vtd_builder.specs.Cuts.{in_name, is_close, Placed, past_name, AttributesAt, beginning_of, IsPast}
use Rattle.vtd_builder.proofs.Placed.{placed_prefix, placed_back, placed_as, placed_span}
use Rattle.vtd_builder.proofs.Recorded.{named_is, item_placed}
use Rattle.vtd_builder.proofs.Counted.{begun_meets}
use Rattle.vtd_builder.proofs.Cutting.{Stops, stops_at, space_low, space_ends_name, space_stops, name_run, parted, first_byte}
use Rattle.vtd_builder.proofs.Tagging.{past_split, begins_with, close_is}

close_stops : (close : List ℕ) → is_close close ≡ true → Stops in_name close
close_stops close h = elim (close_is close h) [
  | inl e ↦ subst (Stops in_name) (sym e) (stops_at in_name 62 [] (omega arith) refl)
  | inr e ↦ subst (Stops in_name) (sym e) (stops_at in_name 47 (62 ∷ []) (omega arith) refl)
]

white_stops : (sp w : List ℕ) → is_white sp ≡ true → Stops in_name (sp ++ w)
unfolding is_white
white_stops [] w h = absurd (false≢true h)
white_stops (c ∷ sp) w h =
    let q = (and_parts (is_space c) (list_all is_space sp) h).0 in
    let l = space_low c q in
    stops_at in_name c (sp ++ w) (omega (arith, l)) (space_ends_name c q)

attributes_stop : (xs : List Attribute) (space close : List ℕ) → list_all meets_attribute xs ≡ true → list_all is_space space ≡ true → is_close close ≡ true → Stops in_name (written_attributes xs ++ (space ++ close))
attributes_stop [] space close m b c = space_stops space close b (close_stops close c)
attributes_stop (a ∷ others) space close m b c =
    let h = parted a (and_parts (meets_attribute a) (list_all meets_attribute others) m).0 in
    let w = written_attributes others ++ (space ++ close) in
    subst (Stops in_name) (sym (append_assoc (written_attribute a) (written_attributes others) (space ++ close) ∙ past_split a w)) (white_stops a.space (a.name ++ (past_name a ++ w)) h.space)

-- how a tag closes, at the place of its > or />
abbrev pub Closing : List ℕ → ℕ → ℕ → Item → ℕ → Type 0
Closing bytes at level i z =
    ((get_or bytes z 0 ≡ 62) × (at + length (spelling i) ≡ z + 1) × (level_after i level ≡ level + 1)) ⊎ ((get_or bytes z 0 ≡ 47) × (at + length (spelling i) ≡ z + 2) × (level_after i level ≡ level))

pub record TagFacts (bytes : List ℕ) (at level : ℕ) (i : Item) : Type 0 where
  pub tag : Tag
  pub close : List ℕ
  pub first : at + 1 ≤ length bytes
  pub name : prefix_len in_name (drop (at + 1) bytes) ≡ size tag.name
  pub within : IsWithin bytes (span_from (at + 1) tag.name)
  pub attributes : AttributesAt bytes (at + 1 + size tag.name) tag.attributes tag.space close
  pub tokens : item_records level at i ≡ named_span bytes 0 level (span_from (at + 1) tag.name) ∷ attributes_records level (at + 1 + size tag.name) tag.attributes
  pub inside : at + 1 + size tag.name + size (written_attributes tag.attributes) + size tag.space < length bytes
  pub closing : Closing bytes at level i (at + 1 + size tag.name + size (written_attributes tag.attributes) + size tag.space)

record Common (bytes : List ℕ) (at level : ℕ) (t : Tag) (c : ℕ) (close : List ℕ) : Type 0 where
  pub first : at + 1 ≤ length bytes
  pub name : prefix_len in_name (drop (at + 1) bytes) ≡ size t.name
  pub within : IsWithin bytes (span_from (at + 1) t.name)
  pub attributes : AttributesAt bytes (at + 1 + size t.name) t.attributes t.space (c ∷ close)
  pub tokens : ◌≡◌ {A = List Record} (item_records level at (start_tag t)) (named_span bytes 0 level (span_from (at + 1) t.name) ∷ attributes_records level (at + 1 + size t.name) t.attributes)
  pub inside : at + 1 + size t.name + size (written_attributes t.attributes) + size t.space < length bytes
  pub byte : get_or bytes (at + 1 + size t.name + size (written_attributes t.attributes) + size t.space) 0 ≡ c

common : (bytes : List ℕ) (at level : ℕ) (t : Tag) (c : ℕ) (close : List ℕ) → meets_tag t ≡ true → c < 128 → is_close (c ∷ close) ≡ true → Placed bytes at (codes "<" ++ (t.name ++ (written_attributes t.attributes ++ (t.space ++ (c ∷ close))))) → Common bytes at level t c close
unfolding is_blank
common bytes at level t c close m low closes p =
    let x = and_parts (is_name t.name && list_all meets_attribute t.attributes) (list_all is_space t.space) m in
    let y = and_parts (is_name t.name) (list_all meets_attribute t.attributes) x.0 in
    let w = t.space ++ (c ∷ close) in
    let rest = written_attributes t.attributes ++ w in
    let n : Placed bytes (at + 1) (t.name ++ rest) = subst (λ (k : ℕ). Placed bytes (at + k) (t.name ++ rest)) size_1 (placed_back bytes at (codes "<") (t.name ++ rest) p) in
    let name = placed_prefix bytes (at + 1) t.name rest n in
    let a = placed_back bytes (at + 1) t.name rest n in
    let s = placed_back bytes (at + 1 + size t.name) (written_attributes t.attributes) w a in
    let e = placed_back bytes (at + 1 + size t.name + size (written_attributes t.attributes)) t.space (c ∷ close) s in
    record {
      first = n.within;
      name = name_run bytes (at + 1) t.name rest y.0 n (attributes_stop t.attributes t.space (c ∷ close) y.1 x.1 closes);
      within = placed_span bytes (at + 1) t.name name;
      attributes = record { placed = a; meets = y.1; blank = x.1; closed = closes };
      tokens = ap (λ (r : Record). r ∷ attributes_records level (at + 1 + size t.name) t.attributes) (named_is bytes 0 level (at + 1) t.name name);
      inside = (begins_with bytes (at + 1 + size t.name + size (written_attributes t.attributes) + size t.space) c close e).within;
      byte = first_byte bytes (at + 1 + size t.name + size (written_attributes t.attributes) + size t.space) c close low e;
    }

start_split : (n w sp : List ℕ) → codes "<" ++ n ++ w ++ sp ++ codes ">" ≡ codes "<" ++ (n ++ (w ++ (sp ++ codes ">")))
start_split n w sp = simp append_assoc

empty_split : (n w sp : List ℕ) → codes "<" ++ n ++ w ++ sp ++ codes "/>" ≡ codes "<" ++ (n ++ (w ++ (sp ++ codes "/>")))
empty_split n w sp = simp append_assoc

size_tag : (t : Tag) → size (written_tag t) ≡ 1 + size t.name + size (written_attributes t.attributes) + size t.space
size_tag t =
    let s = size-append (codes "<" ++ t.name ++ written_attributes t.attributes) t.space in
    let u = size-append (codes "<" ++ t.name) (written_attributes t.attributes) in
    let v = size-append (codes "<") t.name in
    omega (arith, s, u, v, size_1)

size_close : size (codes ">") ≡ 1
unfolding size encode
size_close = refl

size_slash : size (codes "/>") ≡ 2
unfolding size encode
size_slash = refl

no_leaf : (x : Leaf) → beginning_of (leaf_kind x) ≡ beginnings.Tag → ⊥
no_leaf (text ps) h = cc
no_leaf (cdata cs) h = cc
no_leaf (Leaf.comment cs) h = cc
no_leaf (Leaf.instruction i) h = cc
no_leaf (declaration d) h = cc
no_leaf (doctype d) h = cc

pub tag_facts : (i : Item) (bytes : List ℕ) (at level : ℕ) → at ≤ length bytes → begins_at bytes at i ≡ true → beginning_of (item_kind i) ≡ beginnings.Tag → TagFacts bytes at level i
unfolding meets
tag_facts (leaf x) bytes at level within h k = absurd (no_leaf x k)
tag_facts (end_tag name space) bytes at level within h k = absurd cc
tag_facts (start_tag t) bytes at level within h k =
    let c = common bytes at level t 62 [] (begun_meets bytes at (start_tag t) h) (omega arith) refl
    (placed_as bytes at (written (start_tag t)) (codes "<" ++ (t.name ++ (written_attributes t.attributes ++ (t.space ++ codes ">")))) (start_split t.name (written_attributes t.attributes) t.space) (item_placed bytes at (start_tag t) within h)) in
    let s : size (written (start_tag t)) ≡ size (written_tag t) + size (codes ">") = size-append (written_tag t) (codes ">") in
    record {
      tag = t;
      close = codes ">";
      first = c.first;
      name = c.name;
      within = c.within;
      attributes = c.attributes;
      tokens = c.tokens;
      inside = c.inside;
      closing = inl (c.byte, omega (arith, s, size_tag t, size_close, spelled (start_tag t)), omega arith);
    }
tag_facts (empty_tag t) bytes at level within h k =
    let c = common bytes at level t 47 (62 ∷ []) (begun_meets bytes at (empty_tag t) h) (omega arith) refl
    (placed_as bytes at (written (empty_tag t)) (codes "<" ++ (t.name ++ (written_attributes t.attributes ++ (t.space ++ codes "/>")))) (empty_split t.name (written_attributes t.attributes) t.space) (item_placed bytes at (empty_tag t) within h)) in
    let s : size (written (empty_tag t)) ≡ size (written_tag t) + size (codes "/>") = size-append (written_tag t) (codes "/>") in
    record {
      tag = t;
      close = codes "/>";
      first = c.first;
      name = c.name;
      within = c.within;
      attributes = c.attributes;
      tokens = c.tokens;
      inside = c.inside;
      closing = inr (c.byte, omega (arith, s, size_tag t, size_slash, spelled (empty_tag t)), refl);
    }

-- ---- offering the name and then the attributes

pub tag_passed : (first : Test) (before : List ℕ) (start : ℕ) (name : Record) (others : List Record) (token : Record) (now : Test) (taken taken2 : List ℕ) (n : ℕ) (answer : Result ℕ ℕ)
    → token ≡ name → outcome taken (Ok n) ≡ offer first before start (word token ∷ []) → now ≡ first → outcome taken2 answer ≡ offer now taken n (map word others) → outcome taken2 answer ≡ offer first before start (map word (name ∷ others))
tag_passed first before start name others token now taken taken2 n answer s e t f =
    let g : outcome taken (Ok n) ≡ offer first before start (word name ∷ []) = e ∙ ap (λ (x : Record). offer first before start (word x ∷ [])) s in
    f ∙ ap (λ (r : Test). offer r taken n (map word others)) t ∙ sym (offer_ok first before start (word name ∷ []) (map word others) taken n g)

pub tag_stopped : (first : Test) (before : List ℕ) (start : ℕ) (name : Record) (others : List Record) (token : Record) (taken : List ℕ) (k : ℕ)
    → token ≡ name → outcome taken (Err k) ≡ offer first before start (word token ∷ []) → outcome taken (Err k) ≡ offer first before start (map word (name ∷ others))
tag_stopped first before start name others token taken k s e =
    offer_err first before start (word name ∷ []) (map word others) taken k (e ∙ ap (λ (x : Record). offer first before start (word x ∷ [])) s)

pub tag_room : (first : Test) (before : List ℕ) (start : ℕ) (name : Record) (others : List Record) (w : ℕ) (taken : List ℕ) (n : ℕ) → CanOffer start (name ∷ others) → outcome taken (Ok n) ≡ offer first before start (w ∷ []) → CanOffer n others
tag_room first before start name others w taken n c e = can_rest start n (name ∷ []) others c (offer_count first before start (w ∷ []) taken n e)

-- the name's span
pub span_is : (at e : ℕ) (n : List ℕ) (bytes : List ℕ) → e ≡ at + prefix_len in_name (drop at bytes) → prefix_len in_name (drop at bytes) ≡ size n → ◌≡◌ {A = Span} record { start = at; end = e } (span_from at n)
span_is at e n bytes h k = ap (λ (m : ℕ). let s : Span = record { start = at; end = m } in s) (h ∙ ap (λ (m : ℕ). at + m) k)

-- what was passed
past_opened : (bytes : List ℕ) (at level z count : ℕ) (i : Item) → Closing bytes at level i z → (get_or bytes z 0 == 62) ≡ true → IsPast at level i record { count = count; at = z + 1; level = level + 1 }
past_opened bytes at level z count i (inl c) h = record { place = sym c.1; inside = sym c.2 }
past_opened bytes at level z count i (inr c) h = absurd (omega (arith, eqb-true (get_or bytes z 0) 62 h, c.0))

past_closed : (bytes : List ℕ) (at level z count : ℕ) (i : Item) → Closing bytes at level i z → (get_or bytes z 0 ≡ 62 → ⊥) → IsPast at level i record { count = count; at = z + 2; level = level }
past_closed bytes at level z count i (inl c) h = absurd (h c.0)
past_closed bytes at level z count i (inr c) h = record { place = sym c.1; inside = sym c.2 }

pub opened_at : (bytes : List ℕ) (at level z y count : ℕ) (i : Item) → Closing bytes at level i z → y ≡ z → get_or bytes y 0 ≡ 62 → IsPast at level i record { count = count; at = y + 1; level = level + 1 }
opened_at bytes at level z y count i c e h =
    subst (λ (m : ℕ). IsPast at level i record { count = count; at = m + 1; level = level + 1 }) (sym e) (past_opened bytes at level z count i c (eq-eqb (get_or bytes z 0) 62 (ap (λ (m : ℕ). get_or bytes m 0) (sym e) ∙ h)))

pub closed_at : (bytes : List ℕ) (at level z y count : ℕ) (i : Item) → Closing bytes at level i z → y ≡ z → (get_or bytes y 0 ≡ 62 → ⊥) → IsPast at level i record { count = count; at = y + 2; level = level }
closed_at bytes at level z y count i c e h =
    subst (λ (m : ℕ). IsPast at level i record { count = count; at = m + 2; level = level }) (sym e) (past_closed bytes at level z count i c (λ k. h (ap (λ (m : ℕ). get_or bytes m 0) e ∙ k)))

-- all that is known of a tag once the end of its name is found
pub record Named (bytes : List ℕ) (at level e : ℕ) (i : Item) : Type 0 where
  pub xs : List Attribute
  pub space : List ℕ
  pub close : List ℕ
  pub attributes : AttributesAt bytes e xs space close
  pub tokens : item_records level at i ≡ named_span bytes 0 level record { start = at + 1; end = e } ∷ attributes_records level e xs
  pub closing : Closing bytes at level i (e + size (written_attributes xs) + size space)
  pub inside : e + size (written_attributes xs) + size space < length bytes

pub named_of : (i : Item) (bytes : List ℕ) (at level e : ℕ) → at ≤ length bytes → begins_at bytes at i ≡ true → beginning_of (item_kind i) ≡ beginnings.Tag → e ≡ at + 1 + prefix_len in_name (drop (at + 1) bytes) → Named bytes at level e i
named_of i bytes at level e within b t h =
    let f = tag_facts i bytes at level within b t in
    let place : at + 1 + size f.tag.name ≡ e = sym (h ∙ ap (λ (m : ℕ). at + 1 + m) f.name) in
    record {
      xs = f.tag.attributes;
      space = f.tag.space;
      close = f.close;
      attributes = subst (λ (m : ℕ). AttributesAt bytes m f.tag.attributes f.tag.space f.close) place f.attributes;
      tokens = f.tokens ∙ ap (λ (m : ℕ). named_span bytes 0 level record { start = at + 1; end = m } ∷ attributes_records level m f.tag.attributes) place;
      closing = subst (λ (m : ℕ). Closing bytes at level i (m + size (written_attributes f.tag.attributes) + size f.tag.space)) place f.closing;
      inside = subst (λ (m : ℕ). m + size (written_attributes f.tag.attributes) + size f.tag.space < length bytes) place f.inside;
    }
