-- The steps of a pass along the records, in every nest of a table.
use Rattle.std.proofs.Common.{◌≡◌, ℕ, zero, suc, ◌+◌, ◌-◌, ◌<◌, ◌≤◌, ◌^◌, List, [], ◌∷◌, ◌++◌, length, map, refl, ap, sym, ◌∙◌, subst, arith, inl, inr, slice_index, All, add-one}
use Rattle.std.proofs.Math.ListN.{set}
use Rattle.std.proofs.lemmas.Bool.{cases_lt}
use Rattle.std.proofs.lemmas.List.{get_or_past, get_or-map, get_or_push, length_push, get_or_append_left}
use Rattle.std.specs.List.{AllZip, slice_index_or}
use Rattle.std.specs.List.Sorted.{IsStrictlyIncreasing}
use Rattle.xml_model.specs.declared.Kind.TheVariants as kinds
use Rattle.xml_model.specs.declared.Node.{Node}
use Rattle.xml_model.specs.declared.Span.{Span}
use Rattle.xml_model.specs.Items.{first_place}
use Rattle.xml_model.specs.Nest.{Forest}
use Rattle.xml_model.specs.Records.{Record, document, records}
use Rattle.xml_model.specs.Scan.{level_of, record_at}
use Rattle.xml_model.specs.Tree.{Entry, Identifies}
use Rattle.xml_model.proofs.NodeLaws.{first_record_of_node}
use Rattle.vtd_words.specs.Lists.{Lists}
use Rattle.vtd_words.specs.Table.{IsNestOf, IsNodeOf, IsTable, Shows, nodes_of}
use Rattle.vtd_words.proofs.Fitting.{nest_shown}
use Rattle.vtd_words.proofs.Same.{node_holds}
use Rattle.vtd_words.proofs.Shown.{shown_length}
use Rattle.vtd_cursor.specs.declared.slots.Slot.{Slot}
use Rattle.vtd_cursor.specs.Endings.{EndTags, HasEndTags, HasLastPiece, IsEnding, IsLastPiece}
use Rattle.vtd_cursor.specs.Moves.{root_node}
use Rattle.vtd_cursor.specs.Listed.{IsSpanOf}
use Rattle.vtd_cursor.specs.Passes.{free_slot, slot_at, number_at, span_at, listed_at, no_span, AreBegun, AreSlots, EndsOne, IsBegun, IsBegunTo, IsEnd, IsOpen, IsPass, PassOf, HasPass, IsReached, IsClosing, IsPassing, IsPassTo}
use Rattle.vtd_cursor.proofs.PieceLemmas.{ending_last}
use Rattle.vtd_cursor.proofs.Reaching.{tags_on, reached_on, reached_first}
use Rattle.vtd_cursor.proofs.PassLemmas.{pass_closed, pass_stepped, pass_skipped, pass_opened, pass_other, pass_done, pass_started, top_ending}

-- the level of what is at a record, in each nest
abbrev pub LevelAt : List ℕ → Lists → ℕ → ℕ → Type 0
LevelAt bytes lists at level = (nest : Forest) → IsNestOf bytes lists nest → level ≡ level_of (record_at at (records nest (first_place bytes)))

-- the number of an open element is one more than its place
some_number : (n : ℕ) → 0 < n → n ≡ suc (n - 1)
some_number n h = omega (arith, h)

-- in some nest the innermost open element ends before a record
pub record TopEnds (bytes : List ℕ) (lists : Lists) (bound at : ℕ) : Type 0 where
  pub rs : List Record
  pub shows : Shows lists.records rs
  pub nest : Forest
  pub shown : IsNestOf bytes lists nest
  pub are : rs ≡ records nest (first_place bytes)
  pub stop : ℕ
  pub ending : IsEnding bytes rs (bound - 1) stop at

pub top_ends : (bytes : List ℕ) (lists : Lists) (spans : List Span) (slots : List Slot) (bound at level : ℕ) → IsTable bytes lists → LevelAt bytes lists at level →
    HasPass bytes lists spans slots bound at → level < bound → TopEnds bytes lists bound at
top_ends bytes lists spans slots bound at level t f h l =
    let p : IsPass bytes t.nest h.nodes spans slots bound h.done at = h.pass t.nest t.shown in
    let rs = records t.nest (first_place bytes) in
    let k = number_at (bound - 1) slots - 1 in
    let n : number_at (bound - 1) slots ≡ suc k = some_number _ (p.levels.top (omega (arith, l))) in
    let o : IsOpen rs h.nodes h.done at (bound - 1) k = p.going (bound - 1) k n in
    let held = node_holds bytes lists t.few (listed_at k h.nodes) (h.are k root_node (omega (arith, o.listed, p.few))) t.nest t.shown in
    let low : level_of (record_at at rs) ≤ bound - 1 = omega (arith, l, f t.nest t.shown) in
    record {
      rs = rs;
      shows = nest_shown bytes lists t.nest t.few t.shown;
      nest = t.nest;
      shown = t.shown;
      are = refl;
      stop = held.0.stop;
      ending = top_ending bytes t.nest h.nodes spans slots bound h.done at p lists (bound - 1) k t.shown n low held.0 held.1;
    }

-- the index before
pub at_last : (bytes : List ℕ) (lists : Lists) (bound at : ℕ) → TopEnds bytes lists bound at → at ≡ suc (at - 1)
at_last bytes lists bound at t = omega (arith, t.ending.count)

ending_before : (bytes : List ℕ) (rs : List Record) (level stop at : ℕ) → at ≡ suc (at - 1) → IsEnding bytes rs level stop at → IsEnding bytes rs level stop (suc (at - 1))
ending_before bytes rs level stop at e h = subst (λ n. IsEnding bytes rs level stop n) e h

pub has_last : (bytes : List ℕ) (lists : Lists) (bound at : ℕ) → TopEnds bytes lists bound at → HasLastPiece bytes lists.records (at - 1)
has_last bytes lists bound at t =
    let e = ending_before bytes t.rs (bound - 1) t.stop at (at_last bytes lists bound at t) t.ending in
    record { rs = t.rs; shows = t.shows; level = bound - 1; place = e.place; opened = e.opened; piece = ending_last bytes t.rs (bound - 1) t.stop (at - 1) e }

abbrev pub EndOfPiece : List ℕ → List ℕ → ℕ → ℕ → Type 0
EndOfPiece bytes words last end = (rs : List Record) → Shows words rs → (level place opened : ℕ) → IsLastPiece bytes rs level last place opened → end ≡ place

abbrev pub OpenAfterPiece : List ℕ → List ℕ → ℕ → ℕ → Type 0
OpenAfterPiece bytes words last found = (rs : List Record) → Shows words rs → (level place opened : ℕ) → IsLastPiece bytes rs level last place opened → found ≡ level + opened

-- behind the last piece, before any end tag
pub closing_starts : (bytes : List ℕ) (lists : Lists) (spans : List Span) (slots : List Slot) (bound at level opened place : ℕ) → IsTable bytes lists → LevelAt bytes lists at level →
    HasPass bytes lists spans slots bound at → level < bound → EndOfPiece bytes lists.records (at - 1) place → OpenAfterPiece bytes lists.records (at - 1) opened →
    IsClosing bytes lists spans slots bound spans slots bound at opened place
closing_starts bytes lists spans slots bound at level opened place t f h l e o =
    let top = top_ends bytes lists spans slots bound at level t f h l in
    let ending = ending_before bytes top.rs (bound - 1) top.stop at (at_last bytes lists bound at top) top.ending in
    let count : opened ≡ bound - 1 + ending.opened = o top.rs top.shows (bound - 1) ending.place ending.opened (ending_last bytes top.rs (bound - 1) top.stop (at - 1) ending) in
    record {
      kept = λ nodes done p. p;
      has = h;
      reached = λ nest s. let w = nest_shown bytes lists nest t.few s in
          reached_first bytes (records nest (first_place bytes)) (at - 1) opened place (e (records nest (first_place bytes)) w) (o (records nest (first_place bytes)) w);
      deep = omega (arith, count);
    }

-- the end tags of the innermost element that are left
pub tags_there : (bytes : List ℕ) (lists : Lists) (spans₀ : List Span) (slots₀ : List Slot) (bound₀ : ℕ) (spans : List Span) (slots : List Slot) (bound at opened place level : ℕ) → IsTable bytes lists →
    LevelAt bytes lists at level → IsClosing bytes lists spans₀ slots₀ bound₀ spans slots bound at opened place → level < bound → HasEndTags bytes (opened - (bound - 1)) place
tags_there bytes lists spans₀ slots₀ bound₀ spans slots bound at opened place level t f c l =
    let top = top_ends bytes lists spans slots bound at level t f c.has l in
    let e = ending_before bytes top.rs (bound - 1) top.stop at (at_last bytes lists bound at top) top.ending in
    let r : IsReached bytes top.rs (at - 1) opened place = subst (λ rs. IsReached bytes rs (at - 1) opened place) (sym top.are) (c.reached top.nest top.shown) in
    record { to = top.stop; hold = tags_on bytes top.rs (at - 1) opened place (bound - 1) top.stop r (omega (arith, c.deep)) e }

-- the innermost element is given its end in one nest
closed_in : (bytes : List ℕ) (lists : Lists) (nest : Forest) (nodes : List Node) (spans new : List Span) (slots : List Slot) (bound done at opened place level result : ℕ) →
    IsNestOf bytes lists nest → LevelAt bytes lists at level → level < bound → at ≡ suc (at - 1) → bound ≤ suc opened →
    IsReached bytes (records nest (first_place bytes)) (at - 1) opened place → ((to : ℕ) → EndTags bytes (opened - (bound - 1)) place to → result ≡ to) →
    EndsOne spans new (number_at (bound - 1) slots - 1) result → IsPass bytes nest nodes spans slots bound done at →
    IsPass bytes nest nodes new (set slots (bound - 1) free_slot) (slot_at (bound - 1) slots).outer done at
closed_in bytes lists nest nodes spans new slots bound done at opened place level result s f l b deep r g w p =
    let rs = records nest (first_place bytes) in
    let k = number_at (bound - 1) slots - 1 in
    let n : number_at (bound - 1) slots ≡ suc k = some_number _ (p.levels.top (omega (arith, l))) in
    let low : level_of (record_at at rs) ≤ bound - 1 = omega (arith, l, f nest s) in
    let end : IsEnd bytes nest (listed_at k nodes) result = λ e i.
    g e.stop (tags_on bytes rs (at - 1) opened place (bound - 1) e.stop r (omega (arith, deep))
    (ending_before bytes rs (bound - 1) e.stop at b (top_ending bytes nest nodes spans slots bound done at p lists (bound - 1) k s n low e i))) in
    pass_closed bytes nest nodes spans slots bound done at p new k result (omega (arith, l)) n end w

pub closing_on : (bytes : List ℕ) (lists : Lists) (spans₀ : List Span) (slots₀ : List Slot) (bound₀ : ℕ) (spans new : List Span) (slots : List Slot) (bound at opened place level result : ℕ) →
    IsTable bytes lists → LevelAt bytes lists at level → IsClosing bytes lists spans₀ slots₀ bound₀ spans slots bound at opened place → level < bound →
    ((to : ℕ) → EndTags bytes (opened - (bound - 1)) place to → result ≡ to) → EndsOne spans new (number_at (bound - 1) slots - 1) result →
    IsClosing bytes lists spans₀ slots₀ bound₀ new (set slots (bound - 1) free_slot) (slot_at (bound - 1) slots).outer at (bound - 1) result
closing_on bytes lists spans₀ slots₀ bound₀ spans new slots bound at opened place level result t f c l g w =
    let top = top_ends bytes lists spans slots bound at level t f c.has l in
    let b = at_last bytes lists bound at top in
    let p = c.has.pass t.nest t.shown in
    let lower = (p.levels.leads (bound - 1) (p.levels.top (omega (arith, l)))).lower in
    let on = λ (nodes : List Node) (done : ℕ) (q : PassOf bytes lists nodes spans slots bound done at) (nest : Forest) (s : IsNestOf bytes lists nest).
    closed_in bytes lists nest nodes spans new slots bound done at opened place level result s f l b c.deep (c.reached nest s) g w (q nest s) in
    record {
      kept = λ nodes done q nest s. on nodes done (c.kept nodes done q) nest s;
      has = record { nodes = c.has.nodes; are = c.has.are; done = c.has.done; pass = on c.has.nodes c.has.done c.has.pass };
      reached = λ nest s. reached_on bytes (records nest (first_place bytes)) (at - 1) opened place (bound - 1) result (c.reached nest s) (omega (arith, c.deep)) g;
      deep = omega (arith, lower);
    }

-- the place of the innermost element is one of the list
pub number_fits : (bytes : List ℕ) (lists : Lists) (spans : List Span) (slots : List Slot) (bound at : ℕ) → IsTable bytes lists → HasPass bytes lists spans slots bound at → 0 < bound →
    (0 < number_at (bound - 1) slots) × (number_at (bound - 1) slots - 1 < length spans)
number_fits bytes lists spans slots bound at t h b =
    let p : IsPass bytes t.nest h.nodes spans slots bound h.done at = h.pass t.nest t.shown in
    let some = p.levels.top b in
    let o = p.going (bound - 1) (number_at (bound - 1) slots - 1) (some_number _ some) in
    (some, omega (arith, o.listed, p.few, p.begun.long))

pub bound_fits : (bytes : List ℕ) (lists : Lists) (spans : List Span) (slots : List Slot) (bound at : ℕ) → IsTable bytes lists → HasPass bytes lists spans slots bound at → bound ≤ 256
bound_fits bytes lists spans slots bound at t h = (h.pass t.nest t.shown).levels.small

-- past the record whose elements have ended
pub passed_record : (bytes : List ℕ) (lists : Lists) (nodes : List Node) (spans : List Span) (slots : List Slot) (bound done at level : ℕ) → length bytes < 2 ^ 30 → LevelAt bytes lists at level →
    at ≤ length lists.records → bound ≤ level → PassOf bytes lists nodes spans slots bound done at → PassOf bytes lists nodes spans slots bound done (suc at)
passed_record bytes lists nodes spans slots bound done at level few f w b p = λ nest s.
    let rs = records nest (first_place bytes) in
    let many : length lists.records ≡ length rs = shown_length lists.records rs (nest_shown bytes lists nest few s) in
    elim (cases_lt at (length rs)) [
      | inl k ↦ pass_stepped bytes nest nodes spans slots bound done at (p nest s) k (omega (arith, b, f nest s))
      | inr k ↦
          let zero_level : level ≡ 0 = f nest s ∙ ap level_of (get_or_past rs at document k) in
          pass_skipped bytes nest nodes spans slots bound done at (p nest s) (suc at) (omega (arith, b, zero_level))
    ]

-- the level at the end of the records
pub level_at_end : (bytes : List ℕ) (lists : Lists) (at : ℕ) → length bytes < 2 ^ 30 → length lists.records ≤ at → LevelAt bytes lists at 0
level_at_end bytes lists at few w = λ nest s.
    let rs = records nest (first_place bytes) in
    let many : length lists.records ≡ length rs = shown_length lists.records rs (nest_shown bytes lists nest few s) in
    sym (ap level_of (get_or_past rs at document (omega (arith, w, many))))

pub skipped : (bytes : List ℕ) (lists : Lists) (nodes : List Node) (spans : List Span) (slots : List Slot) (bound done at to : ℕ) → bound ≡ 0 →
    PassOf bytes lists nodes spans slots bound done at → PassOf bytes lists nodes spans slots bound done to
skipped bytes lists nodes spans slots bound done at to b p = λ nest s. pass_skipped bytes nest nodes spans slots bound done at (p nest s) to b

-- The list.

in_order : (nodes : List Node) (k : ℕ) → IsStrictlyIncreasing (map (λ n. n.at) nodes) → suc k < length nodes → (listed_at k nodes).at < (listed_at (suc k) nodes).at
in_order nodes k h l =
    let at : Node → ℕ = λ n. n.at in
    let many : length (map at nodes) ≡ length nodes = mapped nodes in
    let below : slice_index (map at nodes) k < slice_index (map at nodes) (k + 1) = h k (omega (arith, l, many)) in
    let one : slice_index (map at nodes) k ≡ (listed_at k nodes).at = get_or-map at nodes k root_node 0 (omega (arith, l)) in
    let next : slice_index (map at nodes) (k + 1) ≡ (listed_at (suc k) nodes).at = ap (slice_index (map at nodes)) (add-one k) ∙ get_or-map at nodes (suc k) root_node 0 l in
    omega (arith, below, one, next)
  where
    mapped : (ns : List Node) → length (map (λ (n : Node). n.at) ns) ≡ length ns
    mapped [] = refl
    mapped (n ∷ ns) = ap suc (mapped ns)

-- the next node does not begin before the record where the pass is
pub begins_on : (bytes : List ℕ) (lists : Lists) (nodes : List Node) (spans : List Span) (slots : List Slot) (bound done at : ℕ) → IsStrictlyIncreasing (map (λ n. n.at) nodes) →
    IsPassTo bytes lists nodes spans slots bound done at → done < length nodes → at ≤ (listed_at done nodes).at
begins_on bytes lists nodes spans slots bound zero at h p l = omega (arith, p.first refl)
begins_on bytes lists nodes spans slots bound (suc k) at h p l = omega (arith, p.follows k refl, in_order nodes k h l)

pub has_pass : (bytes : List ℕ) (lists : Lists) (nodes : List Node) (spans : List Span) (slots : List Slot) (bound done at : ℕ) → All (IsNodeOf bytes lists) nodes →
    PassOf bytes lists nodes spans slots bound done at → HasPass bytes lists spans slots bound at
has_pass bytes lists nodes spans slots bound done at a p = record { nodes = nodes; are = a; done = done; pass = p }

-- the record before one is there
pub last_within : (words : List ℕ) (at : ℕ) → at ≡ suc (at - 1) → at ≤ length words → at - 1 < length words
last_within words at e h = omega (arith, e, h)

pub passing_on : (bytes : List ℕ) (lists : Lists) (spans₀ : List Span) (slots₀ : List Slot) (bound₀ from : ℕ) (spans new : List Span) (slots more : List Slot) (bound high at : ℕ) →
    IsPassing bytes lists spans₀ slots₀ bound₀ from spans slots bound at →
    ((nodes : List Node) (done : ℕ) → PassOf bytes lists nodes spans slots bound done at → PassOf bytes lists nodes new more high done (suc at)) →
    IsPassing bytes lists spans₀ slots₀ bound₀ from new more high (at + 1)
passing_on bytes lists spans₀ slots₀ bound₀ from spans new slots more bound high at h f =
    subst (λ n. IsPassing bytes lists spans₀ slots₀ bound₀ from new more high n) (sym (add-one at)) (record {
      kept = λ nodes done p. f nodes done (h.kept nodes done p);
      has = record { nodes = h.has.nodes; are = h.has.are; done = h.has.done; pass = f h.has.nodes h.has.done h.has.pass };
    })

pub passed_to : (bytes : List ℕ) (lists : Lists) (nodes : List Node) (spans : List Span) (slots : List Slot) (bound done at to : ℕ) → at ≡ to →
    PassOf bytes lists nodes spans slots bound done at → PassOf bytes lists nodes spans slots bound done to
passed_to bytes lists nodes spans slots bound done at to e p = λ nest s. subst (λ n. IsPass bytes nest nodes spans slots bound done n) e (p nest s)

-- a node's level by the elements that hold it is that of its first record
pub level_of_node : (bytes : List ℕ) (lists : Lists) (node : Node) (level : ℕ) → length bytes < 2 ^ 30 → IsNodeOf bytes lists node →
    ((nest : Forest) → IsNestOf bytes lists nest → (e : Entry) → Identifies node.kind node.at e (nodes_of bytes nest) → level ≡ length e.holders) → LevelAt bytes lists node.at level
level_of_node bytes lists node level few n f = λ nest s.
    let held = node_holds bytes lists few node n nest s in
    f nest s held.0 held.1 ∙ sym (first_record_of_node nest (first_place bytes) s.accepted.document.nests held.0 held.1.0).level
    ∙ ap (λ j. level_of (record_at j (records nest (first_place bytes)))) held.1.2

-- one more node of the list is passed, an element
pub element_passed : (bytes : List ℕ) (lists : Lists) (nodes : List Node) (spans : List Span) (slots more : List Slot) (bound high i level next : ℕ) →
    PassOf bytes lists nodes spans slots bound i (suc (listed_at i nodes).at) → i < length nodes → (listed_at i nodes).kind ≡ kinds.Element →
    LevelAt bytes lists (listed_at i nodes).at level → bound ≤ level → level ≤ 255 → (listed_at i nodes).at < length lists.records →
    more ≡ set slots level (record { number = i + 1; outer = bound }) → high ≡ level + 1 → next ≡ (listed_at i nodes).at + 1 →
    IsPassTo bytes lists nodes spans more high (i + 1) next
element_passed bytes lists nodes spans slots more bound high i level next p w element f b small within m h n =
    let place = (listed_at i nodes).at in
    record {
      pass = λ nest s.
          let q : IsPass bytes nest nodes spans (set slots level (record { number = i + 1; outer = bound })) (level + 1) (i + 1) (suc place) =
          pass_opened bytes nest nodes spans slots bound i (suc place) (p nest s) level w element refl (f nest s) b small in
          subst (λ x. IsPass bytes nest nodes spans x high (i + 1) next) (sym m) (subst (λ x. IsPass bytes nest nodes spans (set slots level (record { number = i + 1; outer = bound })) x (i + 1) next) (sym h)
          (subst (λ x. IsPass bytes nest nodes spans (set slots level (record { number = i + 1; outer = bound })) (level + 1) (i + 1) x) (sym (n ∙ add-one place)) q));
      within = omega (arith, within, n);
      first = λ z. absurd (omega (arith, z));
      follows = λ k e. let same : k ≡ i = omega (arith, e) in subst (λ j. next ≤ suc (listed_at j nodes).at) (sym same) (omega (arith, n));
    }

-- one more node of the list is passed, which is no element
pub other_passed : (bytes : List ℕ) (lists : Lists) (nodes : List Node) (spans : List Span) (slots : List Slot) (bound i next : ℕ) → IsStrictlyIncreasing (map (λ n. n.at) nodes) →
    IsPassTo bytes lists nodes spans slots bound i next → i < length nodes → ((listed_at i nodes).kind ≡ kinds.Element → ⊥) → IsPassTo bytes lists nodes spans slots bound (i + 1) next
other_passed bytes lists nodes spans slots bound i next order p w other = record {
  pass = λ nest s. pass_other bytes nest nodes spans slots bound i next (p.pass nest s) w other;
  within = p.within;
  first = λ z. absurd (omega (arith, z));
  follows = λ k e.
      let same : k ≡ i = omega (arith, e) in
      let low : next ≤ (listed_at i nodes).at = begins_on bytes lists nodes spans slots bound i next order p w in
      subst (λ j. next ≤ suc (listed_at j nodes).at) (sym same) (omega (arith, low));
}

-- before the first node
pub none_passed : (bytes : List ℕ) (lists : Lists) (nodes : List Node) (spans : List Span) (slots : List Slot) (bound : ℕ) → AreSlots slots 0 → bound ≡ 0 →
    ((nest : Forest) → IsNestOf bytes lists nest → AreBegun bytes nest nodes spans) → IsPassTo bytes lists nodes spans slots bound 0 0
none_passed bytes lists nodes spans slots bound h z b = record {
  pass = λ nest s. pass_started bytes nest nodes spans slots bound 0 (b nest s) (subst (AreSlots slots) (sym z) h) z;
  within = omega arith;
  first = λ e. refl;
  follows = λ k e. absurd (omega (arith, e));
}

-- place by place
zipped : {X Y : Type 0} (R : X → Y → Type 0) (xs : List X) (ys : List Y) (d : X) (e : Y) → length ys ≡ length xs →
    ((k : ℕ) → k < length xs → R (slice_index_or xs k d) (slice_index_or ys k e)) → AllZip R xs ys
zipped R [] [] d e l f = tt
zipped R [] (y ∷ ys) d e l f = absurd (omega (arith, l))
zipped R (x ∷ xs) [] d e l f = absurd (omega (arith, l))
zipped R (x ∷ xs) (y ∷ ys) d e l f = (f 0 (omega arith), zipped R xs ys d e (omega (arith, l)) (λ k h. f (suc k) (omega (arith, h))))

-- at the end each node has its span
pub all_spans : (bytes : List ℕ) (lists : Lists) (nodes : List Node) (spans : List Span) (slots : List Slot) (bound done at : ℕ) → IsTable bytes lists →
    PassOf bytes lists nodes spans slots bound done at → length nodes ≤ done → length lists.records < at → AllZip (IsSpanOf bytes lists) nodes spans
all_spans bytes lists nodes spans slots bound done at t p all w =
    zipped (IsSpanOf bytes lists) nodes spans root_node no_span (p t.nest t.shown).begun.long (λ k l. record {
      start = λ nest s e i. ((p nest s).begun.each k l).start e i;
      end = λ nest s e i.
          let many : length lists.records ≡ length (records nest (first_place bytes)) = shown_length lists.records (records nest (first_place bytes)) (nest_shown bytes lists nest t.few s) in
          pass_done bytes lists nest nodes spans slots bound done at s (p nest s) all (omega (arith, w, many)) k l e i;
    })

-- one more span is begun
pub begun_more : (bytes : List ℕ) (lists : Lists) (nodes : List Node) (spans new : List Span) (i : ℕ) (span : Span) → IsBegunTo bytes lists nodes spans i → new ≡ spans ++ span ∷ [] →
    ((nest : Forest) → IsNestOf bytes lists nest → IsBegun bytes nest (listed_at i nodes) span) → IsBegunTo bytes lists nodes new (i + 1)
begun_more bytes lists nodes spans new i span h e b =
    let last : span_at i new ≡ span = ap (λ xs. span_at i xs) e ∙ get_or_push spans span no_span i h.long in
    record {
      long = ap length e ∙ length_push spans span ∙ ap (λ n. n + 1) h.long;
      each = λ nest s k l. elim (cases_lt k i) [
        | inl q ↦
            let same : span_at k new ≡ span_at k spans = ap (λ xs. span_at k xs) e ∙ get_or_append_left spans (span ∷ []) no_span k (omega (arith, q, h.long)) in
            subst (IsBegun bytes nest (listed_at k nodes)) (sym same) (h.each nest s k q)
        | inr q ↦
            let here : k ≡ i = omega (arith, q, l) in
            subst (λ j. IsBegun bytes nest (listed_at j nodes) (span_at j new)) (sym here) (subst (IsBegun bytes nest (listed_at i nodes)) (sym last) (b nest s))
      ];
    }

-- the count of records is past them all
pub past_all : (words : List ℕ) (count : ℕ) → count ≡ length words → length words < suc count
past_all words count e = omega (arith, e)
