-- What a pass along the records keeps, as elements are opened and closed.
use Rattle.std.proofs.Common.{◌≡◌, ℕ, suc, ◌+◌, ◌-◌, ◌<◌, ◌≤◌, ◌⊎◌, cond, List, drop, length, refl, ap, ap₂, sym, ◌∙◌, subst, arith, inl, inr, add-one, length-set}
use Rattle.std.proofs.Math.ListN.{set}
use Rattle.std.proofs.lemmas.Bool.{cases_eq, cases_lt, le-leb}
use Rattle.std.proofs.lemmas.List.{drop_all, get_or-set_same, get_or-set_other}
use Rattle.xml_model.specs.declared.Kind.{Kind}
use Rattle.xml_model.specs.declared.Kind.TheVariants as kinds
use Rattle.xml_model.specs.declared.Node.{Node}
use Rattle.xml_model.specs.declared.Span.{Span}
use Rattle.xml_model.specs.Items.{first_place}
use Rattle.xml_model.specs.Nest.{Forest}
use Rattle.xml_model.specs.Records.{Record, records}
use Rattle.xml_model.specs.Scan.{level_of, record_at, end_by_scan, end_from, past_by_scan}
use Rattle.xml_model.specs.Tree.{Entry, Identifies}
use Rattle.xml_model.proofs.NodeLaws.{first_record_of_node, past_of_node}
use Rattle.xml_model.proofs.ScanSteps.{end_step, from_index}
use Rattle.vtd_words.specs.Lists.{Lists}
use Rattle.vtd_words.specs.Table.{IsNestOf, nodes_of}
use Rattle.vtd_cursor.specs.declared.slots.Slot.{Slot}
use Rattle.vtd_cursor.specs.Endings.{IsEnding}
use Rattle.vtd_cursor.specs.Passes.{free_slot, slot_at, number_at, no_span, span_at, listed_at, listed_level, AreSlots, IsOpen, IsEnd, IsBegun, AreBegun, EndsOne, IsPass}
use Rattle.vtd_cursor.proofs.NodeSpans.{NodeShown, node_shown}
use Rattle.vtd_cursor.proofs.SlotLemmas.{number_there, number_other, slots_closed, slots_opened}

-- one end is written
pub end_written : (spans : List Span) (k stop : ℕ) → k < length spans → EndsOne spans (set spans k (record { start = (span_at k spans).start; end = stop })) k stop
end_written spans k stop h =
    let s : Span = record { start = (span_at k spans).start; end = stop } in
    record {
      long = length-set spans k s;
      start = ap (λ (x : Span). x.start) (get_or-set_same spans k s no_span h);
      end = ap (λ (x : Span). x.end) (get_or-set_same spans k s no_span h);
      others = λ j n. get_or-set_other spans k j s no_span n;
    }

-- an open element is below the bound
below_bound : (slots : List Slot) (bound d k : ℕ) → AreSlots slots bound → number_at d slots ≡ suc k → d < bound
below_bound slots bound d k h e = elim (cases_lt d bound) [ inl l ↦ l | inr g ↦ absurd (omega (arith, e, h.free d g)) ]

-- where the scan for an element's end stops
end_here : (l at : ℕ) (rs : List Record) → level_of (record_at at rs) ≤ l → end_from l at (drop at rs) ≡ at
end_here l at rs h = elim (cases_lt at (length rs)) [
  | inl w ↦ ap (end_from l at) (from_index rs at w) ∙ ap (λ b. cond b at (end_from l (suc at) (drop (at + 1) rs))) (le-leb (level_of (record_at at rs)) l h)
  | inr g ↦ ap (end_from l at) (drop_all at rs g)
]

module _ (bytes : List ℕ) (nest : Forest) (nodes : List Node) (spans : List Span) (slots : List Slot) (bound done at : ℕ)
    (h : IsPass bytes nest nodes spans slots bound done at) where
  -- the innermost open element is given its end
  pub pass_closed : (new : List Span) (k stop : ℕ) → 0 < bound → number_at (bound - 1) slots ≡ suc k → IsEnd bytes nest (listed_at k nodes) stop →
      EndsOne spans new k stop → IsPass bytes nest nodes new (set slots (bound - 1) free_slot) (slot_at (bound - 1) slots).outer done at
  pass_closed new k stop b n e w =
      let rs = records nest (first_place bytes) in
      let i = bound - 1 in
      let s = h.levels in
      let there : i < length slots = omega (arith, s.long, s.small, b) in
      let gone : number_at i (set slots i free_slot) ≡ 0 = number_there slots i free_slot there in
      let here : IsOpen rs nodes done at i k = h.going i k n in
      let begun : (j : ℕ) → j < length nodes → IsBegun bytes nest (listed_at j nodes) (span_at j new) = λ j l. elim (cases_eq j k) [
        | inl q ↦ subst (λ m. IsBegun bytes nest (listed_at m nodes) (span_at m new)) (sym q) (record {
          start = λ x y. w.start ∙ (h.begun.each k (subst (λ m. m < length nodes) q l)).start x y;
          end = λ other. absurd (other here.element);
        })
        | inr q ↦ subst (IsBegun bytes nest (listed_at j nodes)) (sym (w.others j q)) (h.begun.each j l)
      ] in
      record {
        begun = record { long = w.long ∙ h.begun.long; each = begun };
        few = h.few;
        levels = slots_closed slots bound s b;
        going = λ d j m. elim (cases_eq d i) [
          | inl q ↦ absurd (omega (arith, m, ap (λ x. number_at x (set slots i free_slot)) q ∙ gone))
          | inr q ↦ h.going d j (sym (number_other slots i d free_slot q) ∙ m)
        ];
        ended = λ j l x free. elim (cases_eq j k) [
          | inl q ↦ subst (λ m. IsEnd bytes nest (listed_at m nodes) (span_at m new).end) (sym q) (λ y z. w.end ∙ e y z)
          | inr q ↦ subst (λ (v : Span). IsEnd bytes nest (listed_at j nodes) v.end) (sym (w.others j q)) (h.ended j l x (λ m.
              elim (cases_eq (listed_level rs j nodes) i) [
                | inl o ↦ q (omega (arith, sym m ∙ ap (λ y. number_at y slots) o ∙ n))
                | inr o ↦ free (number_other slots i (listed_level rs j nodes) free_slot o ∙ m)
              ]))
        ];
      }

  -- a record is passed, at which no open element ends
  pub pass_stepped : at < length (records nest (first_place bytes)) → bound ≤ level_of (record_at at (records nest (first_place bytes))) →
      IsPass bytes nest nodes spans slots bound done (suc at)
  pass_stepped w l =
      let rs = records nest (first_place bytes) in
      record {
        begun = h.begun;
        few = h.few;
        levels = h.levels;
        going = λ d k n.
            let o : IsOpen rs nodes done at d k = h.going d k n in
            let low : d < bound = below_bound slots bound d k h.levels n in
            let step : end_from d at (drop at rs) ≡ end_from d (suc at) (drop (suc at) rs) = end_step d at rs w (omega (arith, low, l)) ∙ ap (λ m. end_from d m (drop m rs)) (add-one at) in
            record { listed = o.listed; element = o.element; level = o.level; begun = omega (arith, o.begun); goes = o.goes ∙ step };
        ended = h.ended;
      }

  -- where none is open, a pass may be anywhere
  pub pass_skipped : (to : ℕ) → bound ≡ 0 → IsPass bytes nest nodes spans slots bound done to
  pass_skipped to b = record {
    begun = h.begun;
    few = h.few;
    levels = h.levels;
    going = λ d k n. absurd (omega (arith, b, below_bound slots bound d k h.levels n));
    ended = h.ended;
  }

  -- the next node of the list is no element
  pub pass_other : done < length nodes → ((listed_at done nodes).kind ≡ kinds.Element → ⊥) → IsPass bytes nest nodes spans slots bound (done + 1) at
  pass_other w other = record {
    begun = h.begun;
    few = omega (arith, w);
    levels = h.levels;
    going = λ d k n.
        let o = h.going d k n in
        record { listed = omega (arith, o.listed); element = o.element; level = o.level; begun = o.begun; goes = o.goes };
    ended = λ k l e m. elim (cases_lt k done) [
      | inl q ↦ h.ended k q e m
      | inr q ↦ let same : k ≡ done = omega (arith, l, q) in absurd (other (ap (λ j. (listed_at j nodes).kind) (sym same) ∙ e))
    ];
  }

  -- the next node of the list is an element, which begins at the record before
  pub pass_opened : (level : ℕ) → done < length nodes → (listed_at done nodes).kind ≡ kinds.Element → at ≡ suc (listed_at done nodes).at →
      level ≡ listed_level (records nest (first_place bytes)) done nodes → bound ≤ level → level ≤ 255 →
      IsPass bytes nest nodes spans (set slots level (record { number = done + 1; outer = bound })) (level + 1) (done + 1) at
  pass_opened level w element place deep b small =
      let rs = records nest (first_place bytes) in
      let s : Slot = record { number = done + 1; outer = bound } in
      let new = set slots level s in
      let there : level < length slots = omega (arith, h.levels.long, small) in
      let own : number_at level new ≡ done + 1 = number_there slots level s there in
      let goes : end_by_scan (listed_at done nodes).at rs ≡ end_from level at (drop at rs) =
      ap₂ (λ l n. end_from l n (drop n rs)) (sym deep) (sym place) in
      record {
        begun = h.begun;
        few = omega (arith, w);
        levels = slots_opened slots bound level (done + 1) h.levels b small (omega arith);
        going = λ d k n. elim (cases_eq d level) [
          | inl q ↦
              let same : done ≡ k = omega (arith, sym own ∙ ap (λ x. number_at x new) (sym q) ∙ n) in
              subst (λ x. IsOpen rs nodes (done + 1) at x k) (sym q) (subst (IsOpen rs nodes (done + 1) at level) same
              (record { listed = omega arith; element = element; level = sym deep; begun = omega (arith, place); goes = goes }))
          | inr q ↦
              let o = h.going d k (sym (number_other slots level d s q) ∙ n) in
              record { listed = omega (arith, o.listed); element = o.element; level = o.level; begun = o.begun; goes = o.goes }
        ];
        ended = λ k l e free. elim (cases_lt k done) [
          | inl q ↦ h.ended k q e (λ m.
              let low : listed_level rs k nodes < bound = below_bound slots bound (listed_level rs k nodes) k h.levels m in
              free (number_other slots level (listed_level rs k nodes) s (λ x. omega (arith, x, low, b)) ∙ m))
          | inr q ↦
              let same : k ≡ done = omega (arith, l, q) in
              absurd (free (ap (λ j. number_at (listed_level rs j nodes) new) same ∙ ap (λ x. number_at x new) (sym deep) ∙ own ∙ omega (arith, same)))
        ];
      }

  -- before a record at which the innermost open element ends, that is where its end tags lead
  pub top_ending : (lists : Lists) (d k : ℕ) → IsNestOf bytes lists nest → number_at d slots ≡ suc k → level_of (record_at at (records nest (first_place bytes))) ≤ d →
      (e : Entry) → Identifies (listed_at k nodes).kind (listed_at k nodes).at e (nodes_of bytes nest) → IsEnding bytes (records nest (first_place bytes)) d e.stop at
  top_ending lists d k s n l e w =
      let rs = records nest (first_place bytes) in
      let node = listed_at k nodes in
      let o : IsOpen rs nodes done at d k = h.going d k n in
      let first = first_place bytes in
      let is_nest = s.accepted.document.nests in
      let scan : past_by_scan node.kind node.at rs ≡ end_by_scan node.at rs = ap (λ x. past_by_scan x node.at rs) o.element in
      let past : e.past ≡ at = past_of_node nest first is_nest e w.0 ∙ ap₂ (λ x y. past_by_scan x y rs) w.1 w.2 ∙ scan ∙ o.goes ∙ end_here d at rs l in
      let shown : NodeShown bytes rs node.kind node.at e = node_shown bytes lists nest s node.kind node.at e w in
      let level : length e.holders ≡ d = sym (first_record_of_node nest first is_nest e w.0).level ∙ ap (λ j. level_of (record_at j rs)) w.2 ∙ o.level in
      subst (λ x. IsEnding bytes rs x e.stop at) level (subst (λ x. IsEnding bytes rs (length e.holders) e.stop x) past (shown.span.element o.element))

  -- past the last record, no element is open
  none_left : (lists : Lists) (d k : ℕ) → IsNestOf bytes lists nest → length (records nest (first_place bytes)) < at → number_at d slots ≡ suc k →
      (e : Entry) → Identifies (listed_at k nodes).kind (listed_at k nodes).at e (nodes_of bytes nest) → ⊥
  none_left lists d k s w n e i =
      let rs = records nest (first_place bytes) in
      let node = listed_at k nodes in
      let o : IsOpen rs nodes done at d k = h.going d k n in
      let first = first_place bytes in
      let shown : NodeShown bytes rs node.kind node.at e = node_shown bytes lists nest s node.kind node.at e i in
      let scan : past_by_scan node.kind node.at rs ≡ end_by_scan node.at rs = ap (λ x. past_by_scan x node.at rs) o.element in
      let past : e.past ≡ end_from d at (drop at rs) = past_of_node nest first s.accepted.document.nests e i.0 ∙ ap₂ (λ x y. past_by_scan x y rs) i.1 i.2 ∙ scan ∙ o.goes in
      let end : end_from d at (drop at rs) ≡ at = ap (end_from d at) (drop_all at rs (omega (arith, w))) in
      omega (arith, shown.within, w, past, end)

element_or : (kind : Kind) → (kind ≡ kinds.Element) ⊎ (kind ≡ kinds.Element → ⊥)
element_or kinds.Root = inr (λ e. cc)
element_or kinds.Element = inl refl
element_or kinds.Attribute = inr (λ e. cc)
element_or kinds.Text = inr (λ e. cc)
element_or kinds.Comment = inr (λ e. cc)
element_or kinds.Instruction = inr (λ e. cc)

-- at the end of the pass each node has its end
pub pass_done : (bytes : List ℕ) (lists : Lists) (nest : Forest) (nodes : List Node) (spans : List Span) (slots : List Slot) (bound done at : ℕ) → IsNestOf bytes lists nest →
    IsPass bytes nest nodes spans slots bound done at → length nodes ≤ done → length (records nest (first_place bytes)) < at → (k : ℕ) → k < length nodes →
    IsEnd bytes nest (listed_at k nodes) (span_at k spans).end
pass_done bytes lists nest nodes spans slots bound done at s h all w k l e i = elim (element_or (listed_at k nodes).kind) [
  | inl x ↦ h.ended k (omega (arith, l, all)) x (λ n. none_left bytes nest nodes spans slots bound done at h lists (listed_level (records nest (first_place bytes)) k nodes) k s w n e i) e i
  | inr x ↦ (h.begun.each k l).end x e i
]

-- before the first record
pub pass_started : (bytes : List ℕ) (nest : Forest) (nodes : List Node) (spans : List Span) (slots : List Slot) (bound at : ℕ) → AreBegun bytes nest nodes spans → AreSlots slots bound → bound ≡ 0 →
    IsPass bytes nest nodes spans slots bound 0 at
pass_started bytes nest nodes spans slots bound at b s z = record {
  begun = b;
  few = omega arith;
  levels = s;
  going = λ d k n. absurd (omega (arith, z, below_bound slots bound d k s n));
  ended = λ k l e n. absurd (omega (arith, l));
}
