-- What is in a node, by levels of records: the walks over a level find the ends of axes.
use Rattle.std.proofs.Common.{◌≡◌, ℕ, suc, ◌<◌, ◌≤◌, Bool, true, List, ap, sym, ◌∙◌, arith, filter, Option, Some, None, inl, inr}
use Rattle.std.specs.List.{Contains}
use Rattle.std.proofs.lemmas.Bool.{cases_lt}
use Rattle.xml_model.specs.declared.Node.{Node}
use Rattle.xml_model.specs.Records.{Record}
use Rattle.xml_model.specs.Tree.{Thing, Entry}
use Rattle.xml_model.specs.Scan.{level_of, record_at, Passes}
use Rattle.vtd_cursor.specs.Moves.{first_of, last_of}
use Rattle.vtd_cursor.specs.Searches.{IsWanted, FirstFrom, LastBefore}
use Rattle.xml_model.proofs.Filters.{none_of}
use Rattle.xml_model.proofs.Inside.{Holds, RecordsShow}
use Rattle.vtd_cursor.proofs.AxisEnds.{first_is, last_is}

-- a test of nodes is whether they are wanted at a level and are after an index in a node
pub record Meets (P : Entry → Bool) (want : Thing → Bool) (es : List Entry) (z : Entry) (level from to : ℕ) : Type 0 where
  pub out : (y : Entry) → Contains es y → P y ≡ true → IsWanted want level y × (from ≤ y.index) × (y.index < to)
  pub back : (y : Entry) → Contains es y → IsWanted want level y → from ≤ y.index → y.index < to → P y ≡ true

-- the walk forward finds the first node of a test
pub first_meets : (P : Entry → Bool) (want : Thing → Bool) (pass : Record → Bool) (rs : List Record) (es : List Entry) (z : Entry) (level from : ℕ) →
    RecordsShow rs es → Holds rs z level → from ≤ z.past → Meets P want es z level from z.past →
    ((r : Record) → pass r ≡ true → level ≤ level_of r) → ((y : Entry) → Contains es y → P y ≡ true → Passes pass rs from y.index) →
    (o : Option Node) → FirstFrom pass want level rs es from o → o ≡ first_of (filter P es)
first_meets P want pass rs es z level from k h b m low passes None f =
    sym (ap first_of (none_of P es (λ y c p. let q = m.out y c p in f y c q.0 q.1 (passes y c p))))
first_meets P want pass rs es z level from k h b m low passes (Some node) f =
    let y = f.entry in
    let at : level_of (record_at y.index rs) ≡ level = k.levels y f.there ∙ f.is.held in
    let before : y.index < z.past = elim (cases_lt y.index z.past) [
      | inl yet ↦ yet
      | inr past_it ↦ absurd (elim (cases_lt z.past y.index) [
        | inl later ↦ let a = low _ (f.passes z.past b later) in omega (arith, a, h.after (omega (arith, later, k.within y f.there)))
        | inr same ↦
            let e : z.past ≡ y.index = omega (arith, past_it, same) in
            let a : level_of (record_at z.past rs) ≡ level = ap (λ n. level_of (record_at n rs)) e ∙ at in
            omega (arith, a, h.after (omega (arith, e, k.within y f.there)))
      ])
    ] in
    ap (λ n. Some n) f.shown ∙ sym (first_is P es k.rises y f.there (m.back y f.there f.is f.after before)
    (λ x c p. let q = m.out x c p in f.least x c q.0 q.1))

-- the walk backward finds the last node of a test
pub last_meets : (P : Entry → Bool) (want : Thing → Bool) (pass : Record → Bool) (rs : List Record) (es : List Entry) (z : Entry) (level end : ℕ) →
    RecordsShow rs es → Holds rs z level → z.index < end → end ≤ z.past → Meets P want es z level (suc z.index) end →
    ((y : Entry) → Contains es y → want y.what ≡ true → 0 < y.index) → ((r : Record) → pass r ≡ true → level ≤ level_of r) →
    ((y : Entry) → Contains es y → P y ≡ true → Passes pass rs (suc y.index) end) → (o : Option Node) →
    LastBefore pass want level rs es end o → o ≡ last_of (filter P es)
last_meets P want pass rs es z level end k h a b m some low passes None f =
    sym (ap last_of (none_of P es (λ y c p. let q = m.out y c p in f y c q.0 q.2 (passes y c p))))
last_meets P want pass rs es z level end k h a b m some low passes (Some node) f =
    let y = f.entry in
    let at : level_of (record_at y.index rs) ≡ level = k.levels y f.there ∙ f.is.held in
    let first : 0 < y.index = some y f.there f.is.wanted in
    let after : z.index < y.index = elim (cases_lt z.index y.index) [
      | inl yet ↦ yet
      | inr past_it ↦ absurd (elim (cases_lt y.index z.index) [
        | inl later ↦ let c = low _ (f.passes z.index later a) in omega (arith, c, h.own (omega (arith, later)))
        | inr same ↦
            let e : z.index ≡ y.index = omega (arith, past_it, same) in
            let c : level_of (record_at z.index rs) ≡ level = ap (λ n. level_of (record_at n rs)) e ∙ at in
            omega (arith, c, h.own (omega (arith, e, first)))
      ])
    ] in
    ap (λ n. Some n) f.shown ∙ sym (last_is P es k.rises y f.there (m.back y f.there f.is after f.before)
    (λ x c p. let q = m.out x c p in f.greatest x c q.0 q.2))
