-- What a walk along the records knows on its way.
use Rattle.std.proofs.Common.{◌≡◌, ℕ, ◌+◌, ◌-◌, ◌<◌, ◌≤◌, Bool, true, false, List, length, ap, sym, ◌∙◌, subst, arith, inl, inr, Option}
use Rattle.std.proofs.Common.{Some, None}
use Rattle.std.specs.List.{Contains}
use Rattle.std.proofs.lemmas.Bool.{cases_lt, false≢true, le-leb, lt-leb}
use Rattle.xml_model.specs.declared.Kind.{Kind}
use Rattle.xml_model.specs.declared.Kind.TheVariants as kinds
use Rattle.xml_model.specs.declared.Node.{Node}
use Rattle.xml_model.specs.Items.{first_place}
use Rattle.xml_model.specs.Nest.{Forest}
use Rattle.xml_model.specs.Records.{Record, records}
use Rattle.xml_model.specs.Tree.{Thing, Entry, kind_of}
use Rattle.xml_model.specs.Scan.{level_of, record_at, is_within, is_attribute_part, Passes}
use Rattle.xml_model.specs.Laws.{is_attribute_thing, is_child_thing, is_child_kind}
use Rattle.vtd_words.specs.Lists.{Lists}
use Rattle.vtd_words.specs.Table.{IsNestOf, nodes_of}
use Rattle.xml_model.proofs.Things.{attribute_kind, attribute_thing, child_kind}
use Rattle.xml_model.proofs.AttributeRuns.{attribute_level, attribute_part}
use Rattle.xml_model.proofs.Inside.{levels_shown, child_after}
use Rattle.vtd_cursor.specs.Searches.{IsWanted, NodeOfLevel, FirstFrom, LastBefore}
use Rattle.vtd_words.specs.Found.{NodeAt}

pub child_wanted : (kind : Kind) → is_child_kind kind ≡ true → (what : Thing) → kind_of what ≡ kind → is_child_thing what ≡ true
child_wanted kind h what e = child_kind what ∙ ap is_child_kind e ∙ h

pub child_unwanted : (kind : Kind) → is_child_kind kind ≡ false → (what : Thing) → kind_of what ≡ kind → is_child_thing what ≡ true → ⊥
child_unwanted kind h what e t = false≢true (sym h ∙ ap is_child_kind (sym e) ∙ sym (child_kind what) ∙ t)

pub attribute_wanted : (kind : Kind) → kind ≡ kinds.Attribute → (what : Thing) → kind_of what ≡ kind → is_attribute_thing what ≡ true
attribute_wanted kind h what e = attribute_thing what (e ∙ h)

pub attribute_unwanted : (kind : Kind) → (kind ≡ kinds.Attribute → ⊥) → (what : Thing) → kind_of what ≡ kind → is_attribute_thing what ≡ true → ⊥
attribute_unwanted kind h what e t = h (sym e ∙ attribute_kind what t)

-- What the records passed so far leave.

pub record PassedFrom (pass : Record → Bool) (want : Thing → Bool) (level : ℕ) (rs : List Record) (es : List Entry) (from at : ℕ) : Type 0 where
  pub passes : Passes pass rs from at
  pub none : (x : Entry) → Contains es x → IsWanted want level x → from ≤ x.index → x.index < at → ⊥

pub record PassedBefore (pass : Record → Bool) (want : Thing → Bool) (level : ℕ) (rs : List Record) (es : List Entry) (end at : ℕ) : Type 0 where
  pub passes : Passes pass rs at end
  pub none : (x : Entry) → Contains es x → IsWanted want level x → at ≤ x.index → x.index < end → ⊥

-- no wanted node is at an index
abbrev pub NoneAt : (Thing → Bool) → ℕ → List Entry → ℕ → Type 0
NoneAt want level es at = (x : Entry) → Contains es x → IsWanted want level x → x.index ≡ at → ⊥

-- the first record of a wanted node passes
abbrev pub WantedPass : (Record → Bool) → (Thing → Bool) → ℕ → List Record → List Entry → Type 0
WantedPass pass want level rs es = (x : Entry) → Contains es x → IsWanted want level x → pass (record_at x.index rs) ≡ true

pub on_from : (pass : Record → Bool) (want : Thing → Bool) (level : ℕ) (rs : List Record) (es : List Entry) (from at : ℕ) →
    PassedFrom pass want level rs es from at → pass (record_at at rs) ≡ true → NoneAt want level es at →
    PassedFrom pass want level rs es from (at + 1)
on_from pass want level rs es from at p r n = record {
  passes = λ k l h. elim (cases_lt k at) [
    | inl low ↦ p.passes k l low
    | inr high ↦ let same : at ≡ k = omega (arith, high, h) in subst (λ j. pass (record_at j rs) ≡ true) same r
  ];
  none = λ x c w l h. elim (cases_lt x.index at) [
    | inl low ↦ p.none x c w l low
    | inr high ↦ n x c w (omega (arith, high, h))
  ];
}

pub on_before : (pass : Record → Bool) (want : Thing → Bool) (level : ℕ) (rs : List Record) (es : List Entry) (end at : ℕ) →
    PassedBefore pass want level rs es end (at + 1) → pass (record_at at rs) ≡ true → NoneAt want level es at →
    PassedBefore pass want level rs es end at
on_before pass want level rs es end at p r n = record {
  passes = λ k l h. elim (cases_lt at k) [
    | inl low ↦ p.passes k (omega (arith, low)) h
    | inr high ↦ let same : at ≡ k = omega (arith, high, l) in subst (λ j. pass (record_at j rs) ≡ true) same r
  ];
  none = λ x c w l h. elim (cases_lt at x.index) [
    | inl low ↦ p.none x c w (omega (arith, low)) h
    | inr high ↦ n x c w (omega (arith, high, l))
  ];
}

-- the walk stops at a record that does not pass
pub stop_from : (pass : Record → Bool) (want : Thing → Bool) (level : ℕ) (rs : List Record) (es : List Entry) (from at : ℕ) → from ≤ at →
    PassedFrom pass want level rs es from at → WantedPass pass want level rs es → pass (record_at at rs) ≡ false →
    FirstFrom pass want level rs es from None
stop_from pass want level rs es from at f p q r = λ x c w l h. elim (cases_lt x.index at) [
  | inl low ↦ p.none x c w l low
  | inr high ↦ elim (cases_lt at x.index) [
    | inl later ↦ false≢true (sym r ∙ h at f later)
    | inr here ↦ let same : x.index ≡ at = omega (arith, high, here) in false≢true (sym r ∙ ap (λ k. pass (record_at k rs)) (sym same) ∙ q x c w)
  ]
]

pub stop_before : (pass : Record → Bool) (want : Thing → Bool) (level : ℕ) (rs : List Record) (es : List Entry) (end at : ℕ) → at < end →
    PassedBefore pass want level rs es end (at + 1) → WantedPass pass want level rs es → pass (record_at at rs) ≡ false →
    LastBefore pass want level rs es end None
stop_before pass want level rs es end at f p q r = λ x c w l h. elim (cases_lt at x.index) [
  | inl later ↦ p.none x c w (omega (arith, later)) l
  | inr low ↦ elim (cases_lt x.index at) [
    | inl before ↦ false≢true (sym r ∙ h at before f)
    | inr here ↦ let same : x.index ≡ at = omega (arith, low, here) in false≢true (sym r ∙ ap (λ k. pass (record_at k rs)) (sym same) ∙ q x c w)
  ]
]

-- the walk comes to its end
pub end_from_there : (pass : Record → Bool) (want : Thing → Bool) (level : ℕ) (rs : List Record) (es : List Entry) (from at : ℕ) →
    PassedFrom pass want level rs es from at → ((x : Entry) → Contains es x → x.index < at) → FirstFrom pass want level rs es from None
end_from_there pass want level rs es from at p b = λ x c w l h. p.none x c w l (b x c)

-- the walk finds a node
pub found_from : (pass : Record → Bool) (want : Thing → Bool) (level : ℕ) (rs : List Record) (es : List Entry) (from at : ℕ) (node : Node) →
    from ≤ at → PassedFrom pass want level rs es from at →
    ((x : Entry) → Contains es x → level_of (record_at x.index rs) ≡ length x.holders) → level_of (record_at at rs) ≡ level →
    NodeAt want es at (Some node) → FirstFrom pass want level rs es from (Some node)
found_from pass want level rs es from at node f p s l n = record {
  entry = n.entry;
  there = n.there;
  shown = n.shown;
  is = record { held = sym (s n.entry n.there) ∙ ap (λ k. level_of (record_at k rs)) n.index ∙ l; wanted = n.wanted };
  after = omega (arith, f, n.index);
  passes = λ k a b. p.passes k a (omega (arith, b, n.index));
  least = λ x c w a. elim (cases_lt x.index at) [
    | inl low ↦ absurd (p.none x c w a low)
    | inr high ↦ omega (arith, high, n.index)
  ];
}

pub found_before : (pass : Record → Bool) (want : Thing → Bool) (level : ℕ) (rs : List Record) (es : List Entry) (end at : ℕ) (node : Node) →
    at < end → PassedBefore pass want level rs es end (at + 1) →
    ((x : Entry) → Contains es x → level_of (record_at x.index rs) ≡ length x.holders) → level_of (record_at at rs) ≡ level →
    NodeAt want es at (Some node) → LastBefore pass want level rs es end (Some node)
found_before pass want level rs es end at node f p s l n = record {
  entry = n.entry;
  there = n.there;
  shown = n.shown;
  is = record { held = sym (s n.entry n.there) ∙ ap (λ k. level_of (record_at k rs)) n.index ∙ l; wanted = n.wanted };
  before = omega (arith, f, n.index);
  passes = λ k a b. p.passes k (omega (arith, a, n.index)) b;
  greatest = λ x c w a. elim (cases_lt at x.index) [
    | inl high ↦ absurd (p.none x c w (omega (arith, high)) a)
    | inr low ↦ omega (arith, low, n.index)
  ];
}

-- The walks over a table.

pub lower_stops : (bytes : List ℕ) (nest : Forest) (level found at : ℕ) → found ≡ level_of (record_at at (records nest (first_place bytes))) →
    found < level → is_within level (record_at at (records nest (first_place bytes))) ≡ false
lower_stops bytes nest level found at e h = lt-leb level (level_of (record_at at (records nest (first_place bytes)))) (omega (arith, e, h))

pub higher_passes : (bytes : List ℕ) (nest : Forest) (level found at : ℕ) → found ≡ level_of (record_at at (records nest (first_place bytes))) →
    level ≤ found → is_within level (record_at at (records nest (first_place bytes))) ≡ true
higher_passes bytes nest level found at e h = le-leb level (level_of (record_at at (records nest (first_place bytes)))) (omega (arith, e, h))

pub child_pass : (bytes : List ℕ) (lists : Lists) (nest : Forest) → IsNestOf bytes lists nest → (level : ℕ) →
    WantedPass (is_within level) is_child_thing level (records nest (first_place bytes)) (nodes_of bytes nest)
child_pass bytes lists nest s level x c w =
    higher_passes bytes nest level (length x.holders) x.index (sym (levels_shown nest (first_place bytes) s.accepted.document.nests x c))
    (omega (arith, w.held))

pub attribute_pass : (bytes : List ℕ) (lists : Lists) (nest : Forest) → IsNestOf bytes lists nest → (level : ℕ) →
    WantedPass (is_attribute_part level) is_attribute_thing level (records nest (first_place bytes)) (nodes_of bytes nest)
attribute_pass bytes lists nest s level x c w =
    ap (λ l. is_attribute_part l (record_at x.index (records nest (first_place bytes)))) (sym w.held)
    ∙ attribute_part nest (first_place bytes) s.accepted.document.nests x c w.wanted

pub other_level : (bytes : List ℕ) (lists : Lists) (nest : Forest) → IsNestOf bytes lists nest → (want : Thing → Bool) (level found at : ℕ) →
    found ≡ level_of (record_at at (records nest (first_place bytes))) → (found ≡ level → ⊥) →
    NodeOfLevel want level found (nodes_of bytes nest) at None
other_level bytes lists nest s want level found at f n = λ x c w p.
    n (f ∙ ap (λ k. level_of (record_at k (records nest (first_place bytes)))) (sym p)
    ∙ levels_shown nest (first_place bytes) s.accepted.document.nests x c ∙ w.held)

pub this_level : (want : Thing → Bool) (level found : ℕ) (es : List Entry) (at : ℕ) (o : Option Node) → found ≡ level → NodeAt want es at o →
    NodeOfLevel want level found es at o
this_level want level found es at None e n = λ x c w p. n x c w.wanted p
this_level want level found es at (Some node) e n = (e, n)

pub none_of_level : (want : Thing → Bool) (level : ℕ) (es : List Entry) (at : ℕ) → NodeAt want es at None → NoneAt want level es at
none_of_level want level es at n = λ x c w p. n x c w.wanted p

pub attribute_found : (bytes : List ℕ) (lists : Lists) (nest : Forest) → IsNestOf bytes lists nest → (level from at : ℕ) (node : Node) → from ≤ at →
    PassedFrom (is_attribute_part level) is_attribute_thing level (records nest (first_place bytes)) (nodes_of bytes nest) from at →
    is_attribute_part level (record_at at (records nest (first_place bytes))) ≡ true →
    NodeAt is_attribute_thing (nodes_of bytes nest) at (Some node) →
    FirstFrom (is_attribute_part level) is_attribute_thing level (records nest (first_place bytes)) (nodes_of bytes nest) from (Some node)
attribute_found bytes lists nest s level from at node f p h n =
    found_from (is_attribute_part level) is_attribute_thing level (records nest (first_place bytes)) (nodes_of bytes nest) from at node f p
    (levels_shown nest (first_place bytes) s.accepted.document.nests) (attribute_level level (record_at at (records nest (first_place bytes))) h) n

pub end_before_there : (bytes : List ℕ) (lists : Lists) (nest : Forest) → IsNestOf bytes lists nest → (pass : Record → Bool) (level end at : ℕ) →
    PassedBefore pass is_child_thing level (records nest (first_place bytes)) (nodes_of bytes nest) end at → at ≤ 1 →
    LastBefore pass is_child_thing level (records nest (first_place bytes)) (nodes_of bytes nest) end None
end_before_there bytes lists nest s pass level end at p h =
    λ x c w l k. p.none x c w (omega (arith, h, child_after nest (first_place bytes) s.accepted.document.nests x c w.wanted)) l

pub before_again : (pass : Record → Bool) (want : Thing → Bool) (level : ℕ) (rs : List Record) (es : List Entry) (end at : ℕ) → 1 ≤ at →
    PassedBefore pass want level rs es end at → PassedBefore pass want level rs es end (at - 1 + 1)
before_again pass want level rs es end at h p = let one : at ≡ at - 1 + 1 = omega (arith, h) in subst (λ n. PassedBefore pass want level rs es end n) one p
