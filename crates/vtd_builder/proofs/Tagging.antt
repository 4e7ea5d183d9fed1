-- The attributes of a tag, one after another.
use Rattle.std.proofs.Common.{◌≡◌, ℕ, ◌+◌, ◌<◌, ◌≤◌, true, false, inl, inr, ◌⊎◌, List, [], ◌∷◌, ◌++◌, length, drop, get_or, map, Ok, Err, add-zero, refl, sym, ap, ap₂, subst, ◌∙◌, arith, append_assoc}
use Rattle.std.specs.Prelude.{codes, ◌==◌, bytes_eq}
use Rattle.std.specs.List.{list_all, prefix_len}
use Rattle.std.proofs.lemmas.Bool.{and_parts, false≢true, eqb-true, or_cases, false_from_ne_true}
use Rattle.std.proofs.lemmas.List.{length-append, length-drop, get_or-drop}
use Rattle.std.proofs.lemmas.Slice.Eq.{bytes_eq-Decides}
use lib.Utf8.{encode, encodes}
use Rattle.xml_model.specs.Chars.{size, is_space, is_white, is_name_char, is_name}
use Rattle.xml_model.specs.Items.{Attribute, quote_char, before_value, written_pieces, written_attribute, written_attributes, meets_attribute}
use Rattle.xml_model.specs.Records.{Record, named, name_token, attribute_records, attributes_records}
use Rattle.xml_chars.specs.Places.{span_from}
use Rattle.xml_chars.proofs.Points.{encode_pos}
use Rattle.xml_chars.proofs.HoldLemmas.{size-append}
use Rattle.xml_model.specs.Records.{word}
use Rattle.vtd_builder.specs.declared.tags.AttributeCut.{AttributeCut}
use Rattle.vtd_builder.specs.Offered.{outcome, offer, CanOffer}
use Rattle.vtd_builder.proofs.InParts.{Test, Offers, offers_none, offers_more, offers_stopped, offers_all}
use Rattle.vtd_builder.specs.Found.{bytes_of, attribute_found, HasPlaces}
use Rattle.vtd_builder.specs.Cuts.{is_low, closes_tag, is_close, Placed, past_name, AttributeAt, AttributesAt, cut_of}
use Rattle.vtd_builder.proofs.Placed.{placed_prefix, placed_back, placed_as, placed_end, placed_span}
use Rattle.vtd_builder.proofs.Recorded.{plain_is, named_is, kind_is}
use Rattle.vtd_builder.proofs.Cutting.{Stops, stops_at, stops_char, byte_is, space_run, parted, one_byte, first_byte, name_chars, name_high, quote_ascii, no_47, no_62}

low_ascii : (b : ℕ) → is_low b ≡ true → b < 128
low_ascii b h = grind (arith, h)

name_not_low : (c : ℕ) → is_name_char c ≡ true → is_low c ≡ false
name_not_low c h = let l = name_high c h in grind (arith, l)

-- the first byte of what is placed
pub record Begins (bytes : List ℕ) (at : ℕ) (w : List ℕ) : Type 0 where
  pub byte : ℕ
  pub rest : List ℕ
  pub is : encodes w ≡ byte ∷ rest
  pub here : get_or bytes at 0 ≡ byte
  pub within : at < length bytes

first_of : (xs : List ℕ) → 0 < length xs → (b : ℕ) × (rest : List ℕ) × (xs ≡ b ∷ rest)
first_of [] h = absurd (omega arith)
first_of (b ∷ rest) h = (b, rest, refl)

pub begins_with : (bytes : List ℕ) (at c : ℕ) (w : List ℕ) → Placed bytes at (c ∷ w) → Begins bytes at (c ∷ w)
begins_with bytes at c w k =
    let x = first_of (encode c ++ encodes w) (omega (arith, length-append (encode c) (encodes w), encode_pos c)) in
    let here : drop at bytes ≡ x.0 ∷ (x.1 ++ k.more) = k.here ∙ ap (λ (l : List ℕ). l ++ k.more) x.2 in
    record {
      byte = x.0;
      rest = x.1;
      is = x.2;
      here = sym (ap (λ (n : ℕ). get_or bytes n 0) (add-zero at)) ∙ sym (get_or-drop at bytes 0 0) ∙ ap (λ (l : List ℕ). get_or l 0 0) here;
      within = omega (arith, length-drop at bytes, ap (λ (l : List ℕ). length l) here);
    }

size_nil : size [] ≡ 0
unfolding size
size_nil = refl

pub nil_no_name : is_name [] ≡ false
unfolding is_name
nil_no_name = refl

-- a name begins with no byte that closes a tag
name_opens : (bytes : List ℕ) (at : ℕ) (n w : List ℕ) → is_name n ≡ true → Placed bytes at (n ++ w) → (closes_tag (get_or bytes at 0) ≡ false) × (at < length bytes)
name_opens bytes at [] w h k = absurd (let bad : is_name [] ≡ true = h in false≢true (sym nil_no_name ∙ bad))
name_opens bytes at (c ∷ n) w h k =
    let b = begins_with bytes at c (n ++ w) k in
    let name : is_name_char c ≡ true = (and_parts (is_name_char c) (list_all is_name_char n) (name_chars (c ∷ n) h)).0 in (
      ap closes_tag b.here ∙ false_from_ne_true _ (λ t. no_close c b.byte name (byte_is c b.byte (n ++ w) b.rest b.is (close_low b.byte t)) t),
      b.within,
    )
  where
    close_low : (b : ℕ) → closes_tag b ≡ true → b < 128
    close_low b t = grind (arith, t)

    no_close : (c b : ℕ) → is_name_char c ≡ true → c ≡ b → closes_tag b ≡ true → ⊥
    no_close c b name e t = elim (or_cases (b == 62) (b == 47) t) [
      | inl x ↦ false≢true (sym no_62 ∙ ap is_name_char (sym (e ∙ eqb-true b 62 x)) ∙ name)
      | inr x ↦ false≢true (sym no_47 ∙ ap is_name_char (sym (e ∙ eqb-true b 47 x)) ∙ name)
    ]

white_list : (sp : List ℕ) → is_white sp ≡ true → list_all is_space sp ≡ true
unfolding is_white
white_list [] h = absurd (false≢true h)
white_list (c ∷ sp) h = h

name_stops : (n w : List ℕ) → is_name n ≡ true → Stops is_low (n ++ w)
name_stops [] w h = absurd (false≢true (sym nil_no_name ∙ h))
name_stops (c ∷ n) w h = stops_char is_low low_ascii c (n ++ w) (name_not_low c (and_parts (is_name_char c) (list_all is_name_char n) (name_chars (c ∷ n) h)).0)

attribute_is : (bytes : List ℕ) (depth at : ℕ) (a : Attribute) (w : List ℕ) → Placed bytes at (a.name ++ w) → attribute_records depth at a ≡ attribute_found bytes depth (cut_of at a).item
attribute_is bytes depth at a w k =
    let n = placed_prefix bytes at a.name w k in
    ap₂ (λ (x y : Record). x ∷ (y ∷ []))
    (ap (λ (t : ℕ). named t depth a.name at) (kind_is bytes at a.name n) ∙ named_is bytes (name_token (bytes_of bytes (span_from at a.name))) depth at a.name n)
    (plain_is 4 depth (at + size (before_value a)) (written_pieces a.value))

pub record OpenAt (bytes : List ℕ) (p depth : ℕ) (a : Attribute) (others : List Attribute) (space close : List ℕ) : Type 0 where
  pub name : prefix_len is_low (drop p bytes) ≡ size a.space
  pub attribute : AttributeAt bytes (p + size a.space) a
  pub opens : closes_tag (get_or bytes (p + size a.space) 0) ≡ false
  pub within : p + size a.space < length bytes
  pub places : HasPlaces bytes (cut_of (p + size a.space) a).item
  pub found : attribute_records depth (p + size a.space) a ≡ attribute_found bytes depth (cut_of (p + size a.space) a).item
  pub end : (cut_of (p + size a.space) a).end ≡ p + size (written_attribute a)
  pub past : p + size (written_attribute a) ≤ length bytes
  pub after : AttributesAt bytes (p + size (written_attribute a)) others space close

pub past_split : (a : Attribute) (w : List ℕ) → written_attribute a ++ w ≡ a.space ++ (a.name ++ (past_name a ++ w))
past_split a w = simp append_assoc

pub attributes_open : (bytes : List ℕ) (p depth : ℕ) (a : Attribute) (others : List Attribute) (space close : List ℕ) → AttributesAt bytes p (a ∷ others) space close → OpenAt bytes p depth a others space close
attributes_open bytes p depth a others space close k =
    let m = and_parts (meets_attribute a) (list_all meets_attribute others) k.meets in
    let h = parted a m.0 in
    let w = written_attributes others ++ (space ++ close) in
    let q = p + size a.space in
    let all : Placed bytes p (written_attribute a ++ w) = placed_as bytes p (written_attributes (a ∷ others) ++ (space ++ close)) (written_attribute a ++ w) (append_assoc (written_attribute a) (written_attributes others) (space ++ close)) k.placed in
    let s : Placed bytes p (a.space ++ (a.name ++ (past_name a ++ w))) = placed_as bytes p (written_attribute a ++ w) (a.space ++ (a.name ++ (past_name a ++ w))) (past_split a w) all in
    let n = placed_back bytes p a.space (a.name ++ (past_name a ++ w)) s in
    let o = name_opens bytes q a.name (past_name a ++ w) h.name n in
    let f = placed_prefix bytes q (a.name ++ past_name a) w (placed_as bytes q (a.name ++ (past_name a ++ w)) ((a.name ++ past_name a) ++ w) (sym (append_assoc a.name (past_name a) w)) n) in
    let x = size-append (a.space ++ before_value a ++ written_pieces a.value) (quote_char a.quote ∷ []) in
    let y = size-append (a.space ++ before_value a) (written_pieces a.value) in
    let z = size-append a.space (before_value a) in
    record {
      name = space_run bytes p a.space (a.name ++ (past_name a ++ w)) (white_list a.space h.space) s (name_stops a.name (past_name a ++ w) h.name);
      attribute = record { meets = m.0; placed = f };
      opens = o.0;
      within = o.1;
      places = record { name = placed_span bytes q a.name (placed_prefix bytes q a.name (past_name a ++ w) n); value = omega arith };
      found = attribute_is bytes depth q a (past_name a ++ w) n;
      end = omega (arith, x, y, z, one_byte (quote_char a.quote) (quote_ascii a.quote));
      past = placed_end bytes p (written_attribute a) (placed_prefix bytes p (written_attribute a) w all);
      after = record { placed = placed_back bytes p (written_attribute a) w all; meets = m.1; blank = k.blank; closed = k.closed };
    }

pub record ClosedAt (bytes : List ℕ) (p : ℕ) (space : List ℕ) : Type 0 where
  pub name : prefix_len is_low (drop p bytes) ≡ size space
  pub closes : closes_tag (get_or bytes (p + size space) 0) ≡ true
  pub within : p + size space < length bytes

pub close_is : (close : List ℕ) → is_close close ≡ true → (close ≡ codes ">") ⊎ (close ≡ codes "/>")
close_is close h = elim (or_cases (bytes_eq close (codes ">")) (bytes_eq close (codes "/>")) h) [
  | inl x ↦ inl ((bytes_eq-Decides close (codes ">")).0 x)
  | inr x ↦ inr ((bytes_eq-Decides close (codes "/>")).0 x)
]

closed_by : (bytes : List ℕ) (p c : ℕ) (space w : List ℕ) → list_all is_space space ≡ true → c < 128 → is_low c ≡ false → closes_tag c ≡ true → Placed bytes p (space ++ (c ∷ w)) → ClosedAt bytes p space
closed_by bytes p c space w b h l t k =
    let q = placed_back bytes p space (c ∷ w) k in
    record {
      name = space_run bytes p space (c ∷ w) b k (stops_at is_low c w h l);
      closes = ap closes_tag (first_byte bytes (p + size space) c w h q) ∙ t;
      within = (begins_with bytes (p + size space) c w q).within;
    }

pub attributes_closed : (bytes : List ℕ) (p : ℕ) (space close : List ℕ) → AttributesAt bytes p [] space close → ClosedAt bytes p space
attributes_closed bytes p space close k = elim (close_is close k.closed) [
  | inl e ↦ closed_by bytes p 62 space [] k.blank (omega arith) refl refl (placed_as bytes p (space ++ close) (space ++ codes ">") (ap (λ (l : List ℕ). space ++ l) e) k.placed)
  | inr e ↦ closed_by bytes p 47 space (62 ∷ []) k.blank (omega arith) refl refl (placed_as bytes p (space ++ close) (space ++ codes "/>") (ap (λ (l : List ℕ). space ++ l) e) k.placed)
]

-- ---- the loop over the attributes

-- the attributes that are left, and that offering their records answers as offering those of all does
pub record LeftAt (bytes : List ℕ) (begin depth : ℕ) (xs : List Attribute) (space close : List ℕ) (first : Test) (before : List ℕ) (start name : ℕ) (now : Test) (taken : List ℕ) (count : ℕ) : Type 0 where
  pub place : ℕ
  pub left : List Attribute
  pub holds : AttributesAt bytes place left space close
  pub named : name ≡ place + prefix_len is_low (drop place bytes)
  pub offers : Offers first before start (attributes_records depth begin xs) now taken count (attributes_records depth place left)
  pub sum : place + size (written_attributes left) ≡ begin + size (written_attributes xs)

pub left_first : (bytes : List ℕ) (begin depth : ℕ) (xs : List Attribute) (space close : List ℕ) (first : Test) (before : List ℕ) (start name : ℕ) → CanOffer start (attributes_records depth begin xs) → AttributesAt bytes begin xs space close → name ≡ begin + prefix_len is_low (drop begin bytes)
    → LeftAt bytes begin depth xs space close first before start name first before start
left_first bytes begin depth xs space close first before start name c k e = record { place = begin; left = xs; holds = k; named = e; offers = offers_none first before start (attributes_records depth begin xs) c; sum = refl }

pub record Turn (bytes : List ℕ) (begin depth : ℕ) (xs : List Attribute) (space close : List ℕ) (first : Test) (before : List ℕ) (start name : ℕ) (now : Test) (taken : List ℕ) (count : ℕ) : Type 0 where
  pub a : Attribute
  pub others : List Attribute
  pub attribute : AttributeAt bytes name a
  pub within : name < length bytes
  pub places : HasPlaces bytes (cut_of name a).item
  pub offers : Offers first before start (attributes_records depth begin xs) now taken count (attribute_found bytes depth (cut_of name a).item ++ attributes_records depth (cut_of name a).end others)
  pub past : (cut_of name a).end ≤ length bytes
  pub after : AttributesAt bytes (cut_of name a).end others space close
  pub sum : (cut_of name a).end + size (written_attributes others) ≡ begin + size (written_attributes xs)

pub turn_of : (bytes : List ℕ) (begin depth : ℕ) (xs : List Attribute) (space close : List ℕ) (first : Test) (before : List ℕ) (start name : ℕ) (now : Test) (taken : List ℕ) (count : ℕ)
    → LeftAt bytes begin depth xs space close first before start name now taken count → closes_tag (get_or bytes name 0) ≡ false → Turn bytes begin depth xs space close first before start name now taken count
turn_of bytes begin depth xs space close first before start name now taken count k f = go k.left k.holds k.offers k.sum
  where
    go : (ys : List Attribute) → AttributesAt bytes k.place ys space close → Offers first before start (attributes_records depth begin xs) now taken count (attributes_records depth k.place ys) → k.place + size (written_attributes ys) ≡ begin + size (written_attributes xs)
        → Turn bytes begin depth xs space close first before start name now taken count
    go [] s o e =
        let c = attributes_closed bytes k.place space close s in
        let at : name ≡ k.place + size space = k.named ∙ ap (λ (m : ℕ). k.place + m) c.name in
        absurd (false≢true (sym f ∙ ap (λ (m : ℕ). closes_tag (get_or bytes m 0)) at ∙ c.closes))
    go (a ∷ others) s o e =
        let c = attributes_open bytes k.place depth a others space close s in
        let at : k.place + size a.space ≡ name = sym (k.named ∙ ap (λ (m : ℕ). k.place + m) c.name) in
        let end : k.place + size (written_attribute a) ≡ (cut_of name a).end = sym c.end ∙ ap (λ (m : ℕ). (cut_of m a).end) at in
        let tokens : attributes_records depth k.place (a ∷ others) ≡ attribute_found bytes depth (cut_of name a).item ++ attributes_records depth (cut_of name a).end others =
        ap₂ (λ (x y : List Record). x ++ y) (c.found ∙ ap (λ (m : ℕ). attribute_found bytes depth (cut_of m a).item) at) (ap (λ (m : ℕ). attributes_records depth m others) end) in
        record {
          a = a;
          others = others;
          attribute = subst (λ (m : ℕ). AttributeAt bytes m a) at c.attribute;
          within = subst (λ (m : ℕ). m < length bytes) at c.within;
          places = subst (λ (m : ℕ). HasPlaces bytes (cut_of m a).item) at c.places;
          offers = subst (λ (l : List Record). Offers first before start (attributes_records depth begin xs) now taken count l) tokens o;
          past = subst (λ (m : ℕ). m ≤ length bytes) end c.past;
          after = subst (λ (m : ℕ). AttributesAt bytes m others space close) end c.after;
          sum = omega (arith, e, end, size-append (written_attribute a) (written_attributes others));
        }

pub left_more : (bytes : List ℕ) (begin depth : ℕ) (xs : List Attribute) (space close : List ℕ) (first : Test) (before : List ℕ) (start name : ℕ) (now : Test) (taken : List ℕ) (count : ℕ) (later : Test) (taken1 : List ℕ) (n next : ℕ) (cut : AttributeCut)
    → (t : Turn bytes begin depth xs space close first before start name now taken count) → cut ≡ cut_of name t.a → outcome taken1 (Ok n) ≡ offer now taken count (map word (attribute_found bytes depth cut.item)) → later ≡ now → next ≡ cut.end + prefix_len is_low (drop cut.end bytes)
    → LeftAt bytes begin depth xs space close first before start next later taken1 n
left_more bytes begin depth xs space close first before start name now taken count later taken1 n next cut t c e l m =
    let end : cut.end ≡ (cut_of name t.a).end = ap (λ (x : AttributeCut). x.end) c in
    record {
      place = (cut_of name t.a).end;
      left = t.others;
      holds = t.after;
      named = m ∙ ap (λ (p : ℕ). p + prefix_len is_low (drop p bytes)) end;
      offers = offers_more first before start (attributes_records depth begin xs) now taken count (attribute_found bytes depth (cut_of name t.a).item) (attributes_records depth (cut_of name t.a).end t.others) later taken1 n t.offers
          (e ∙ ap (λ (x : AttributeCut). offer now taken count (map word (attribute_found bytes depth x.item))) c) l;
      sum = t.sum;
    }

pub left_stopped : (bytes : List ℕ) (begin depth : ℕ) (xs : List Attribute) (space close : List ℕ) (first : Test) (before : List ℕ) (start name : ℕ) (now : Test) (taken : List ℕ) (count : ℕ) (taken1 : List ℕ) (k : ℕ) (cut : AttributeCut)
    → (t : Turn bytes begin depth xs space close first before start name now taken count) → cut ≡ cut_of name t.a → outcome taken1 (Err k) ≡ offer now taken count (map word (attribute_found bytes depth cut.item)) → outcome taken1 (Err k) ≡ offer first before start (map word (attributes_records depth begin xs))
left_stopped bytes begin depth xs space close first before start name now taken count taken1 k cut t c e =
    offers_stopped first before start (attributes_records depth begin xs) now taken count (attribute_found bytes depth (cut_of name t.a).item) (attributes_records depth (cut_of name t.a).end t.others) taken1 k t.offers
    (e ∙ ap (λ (x : AttributeCut). offer now taken count (map word (attribute_found bytes depth x.item))) c)

pub record Ended (bytes : List ℕ) (begin depth : ℕ) (xs : List Attribute) (space : List ℕ) (first : Test) (before : List ℕ) (start name : ℕ) (taken : List ℕ) (count : ℕ) : Type 0 where
  pub answer : outcome taken (Ok count) ≡ offer first before start (map word (attributes_records depth begin xs))
  pub place : name ≡ begin + size (written_attributes xs) + size space

pub left_end : (bytes : List ℕ) (begin depth : ℕ) (xs : List Attribute) (space close : List ℕ) (first : Test) (before : List ℕ) (start name : ℕ) (now : Test) (taken : List ℕ) (count : ℕ)
    → LeftAt bytes begin depth xs space close first before start name now taken count → closes_tag (get_or bytes name 0) ≡ true → Ended bytes begin depth xs space first before start name taken count
left_end bytes begin depth xs space close first before start name now taken count k f = go k.left k.holds k.offers k.sum
  where
    go : (ys : List Attribute) → AttributesAt bytes k.place ys space close → Offers first before start (attributes_records depth begin xs) now taken count (attributes_records depth k.place ys) → k.place + size (written_attributes ys) ≡ begin + size (written_attributes xs)
        → Ended bytes begin depth xs space first before start name taken count
    go [] s o e =
        let c = attributes_closed bytes k.place space close s in
        record { answer = offers_all first before start (attributes_records depth begin xs) now taken count [] o refl; place = omega (arith, k.named, c.name, e, size_nil) }
    go (a ∷ others) s o e =
        let c = attributes_open bytes k.place depth a others space close s in
        let at : k.place + size a.space ≡ name = sym (k.named ∙ ap (λ (m : ℕ). k.place + m) c.name) in
        absurd (false≢true (sym c.opens ∙ ap (λ (m : ℕ). closes_tag (get_or bytes m 0)) at ∙ f))

-- whatever the name's place is, it lies in the bytes
pub left_within : (bytes : List ℕ) (begin depth : ℕ) (xs : List Attribute) (space close : List ℕ) (first : Test) (before : List ℕ) (start name : ℕ) (now : Test) (taken : List ℕ) (count : ℕ)
    → LeftAt bytes begin depth xs space close first before start name now taken count → name < length bytes
left_within bytes begin depth xs space close first before start name now taken count k = go k.left k.holds
  where
    go : (ys : List Attribute) → AttributesAt bytes k.place ys space close → name < length bytes
    go [] s = let c = attributes_closed bytes k.place space close s in omega (arith, k.named, c.name, c.within)
    go (a ∷ others) s = let c = attributes_open bytes k.place depth a others space close s in omega (arith, k.named, c.name, c.within)

-- the loop's state, whatever the attributes are
pub record Attributing (bytes : List ℕ) (begin depth : ℕ) (first : Test) (before : List ℕ) (start name : ℕ) (now : Test) (taken : List ℕ) (count : ℕ) : Type 0 where
  pub each : (xs : List Attribute) (space close : List ℕ) → AttributesAt bytes begin xs space close → CanOffer start (attributes_records depth begin xs) → LeftAt bytes begin depth xs space close first before start name now taken count
