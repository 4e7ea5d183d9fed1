-- What the first record of a node shows, and where its records end and what holds it, by the records alone.
use Rattle.std.proofs.Common.{◌≡◌, ℕ, suc, ◌+◌, ◌<◌, ◌≤◌, true, cond, List, [], ◌∷◌, ◌++◌, refl, ap, ap₂, sym, ◌∙◌, arith, length, take, drop, append_assoc, length-append, Some, ⊎_elim, ◌==◌, eqb-true, take_at}
use Rattle.std.specs.List.{AllByRecursion as Each, slice_index_or}
use Rattle.std.proofs.lemmas.Bool.{and_parts, or_cases}
use Rattle.std.proofs.lemmas.List.{get_or_at}
use Rattle.xml_model.specs.declared.Kind.TheVariants as kinds
use Rattle.xml_model.specs.Items.{Leaf}
use Rattle.xml_model.specs.Nest.{Forest}
use Rattle.xml_model.specs.Records.{Record, document, records, named, plain, depth_at, run_records, forest_records}
use Rattle.xml_model.specs.Tree.{Thing, Entry, kind_of, nodes, all, root_entry, at_first}
use Rattle.xml_model.specs.Scan.{level_of, record_at, is_text_token, is_run, kind_of_token, past_by_scan, last_tag, holder_by_scan, end_from, run_from}
use Rattle.xml_model.specs.Laws.{records_of, FirstRecordShows, HasRecords, holder_index}
use Rattle.xml_model.proofs.Each.{each_both, each_more}
use Rattle.xml_model.proofs.Levels.{level_at, Shallow}
use Rattle.xml_model.proofs.Fits.{FitsIn, Ends, each_fits}
use Rattle.xml_model.proofs.Scans.{EndIs, ends_by_scan}
use Rattle.xml_model.proofs.Owners.{OwnedIn, owners_by_scan}
use Rattle.xml_model.proofs.Intervals.{all_some}
use Rattle.xml_model.proofs.Parents.{Named, KnownNode, known_each}

-- the first of the records of what is at a level
pub record Shown (what : Thing) (l at : ℕ) : Type 0 where
  pub head : Record
  pub body : List Record
  pub mine : records_of what l at ≡ head ∷ body
  pub level : level_of head ≡ l
  pub kind : kind_of_token head.token ≡ Some (kind_of what)

text_kind : (n : ℕ) → is_text_token n ≡ true → kind_of_token n ≡ Some kinds.Text
text_kind n h = ⊎_elim (λ e. ap kind_of_token (eqb-true n 5 e)) (λ e. ap kind_of_token (eqb-true n 11 e)) (or_cases (n == 5) (n == 11) h)

text_shown : (xs : List Leaf) (l at : ℕ) (rs : List Record) → run_records l at xs ≡ rs → 0 < length rs → Each (λ r. is_run l r ≡ true) rs → Shown (Thing.text xs) l at
text_shown xs l at [] e h k = absurd (omega arith)
text_shown xs l at (r ∷ rs) e h k =
    let p = and_parts (is_text_token r.token) (level_of r == l) k.0 in
    record { head = r; body = rs; mine = e; level = eqb-true (level_of r) l p.1; kind = text_kind r.token p.0 }

shown : (what : Thing) (l at : ℕ) (rest : List Record) → l ≤ 255 → Named what → 0 < length (records_of what l at) → Ends what l at rest → Shown what l at
shown (Thing.root first f) l at rest k n s e = absurd n
shown (Thing.element t inside) l at rest k n s e = record { head = named 0 l t.name (at + 1); body = _; mine = refl; level = refl; kind = refl }
shown (Thing.attribute a) l at rest k n s e = record {
  head = _;
  body = _;
  mine = refl;
  level = ap (λ b. level_of (named (cond b 3 2) (depth_at l) a.name at)) n ∙ level_at l k;
  kind = ap (λ b. kind_of_token (cond b 3 2)) n;
}
shown (Thing.text xs) l at rest k n s e = text_shown xs l at (run_records l at xs) refl s e.0
shown (Thing.comment cs) l at rest k n s e = record { head = plain 6 (depth_at l) cs (at + 4); body = []; mine = refl; level = level_at l k; kind = refl }
shown (Thing.instruction i) l at rest k n s e = record { head = plain 7 (depth_at l) i.target (at + 2); body = _; mine = refl; level = level_at l k; kind = refl }

first_shows : (whole : List Record) (e : Entry) → FitsIn whole e → 0 < length (records_of e.what (length e.holders) e.start) → Shown e.what (length e.holders) e.start → FirstRecordShows whole e
first_shows whole e h s w =
    let own = records_of e.what (length e.holders) e.start in
    let there : record_at e.index whole ≡ w.head =
    ap (λ xs. slice_index_or xs e.index document) (h.split ∙ append_assoc h.prefix own h.rest ∙ ap (λ xs. h.prefix ++ (xs ++ h.rest)) w.mine) ∙ get_or_at h.prefix w.head (w.body ++ h.rest) document e.index h.begins in
    record {
      within = omega (arith, h.begins, s, ap length h.split, length-append (h.prefix ++ own) h.rest, length-append h.prefix own);
      level = ap level_of there ∙ w.level;
      kind = ap (λ r. kind_of_token r.token) there ∙ w.kind;
    }

own_some : (whole : List Record) (e : Entry) → FitsIn whole e → e.index < e.past → 0 < length (records_of e.what (length e.holders) e.start)
own_some whole e h s = omega (arith, h.stops)

-- the law: of each node
pub first_records : (nest : Forest) (first : ℕ) → Shallow 0 nest → Each (FirstRecordShows (records nest first)) (all nest first)
unfolding all records
first_records nest first s =
    let whole = document ∷ forest_records 0 first nest in
    let es = nodes (at_first first) nest in
    let fits = each_fits nest first s in
    let some = all_some nest first in
    let top : Shown (Thing.root first nest) 0 0 = record { head = document; body = forest_records 0 first nest; mine = refl; level = refl; kind = refl } in (
      first_shows whole (root_entry nest first) fits.0 (own_some whole (root_entry nest first) fits.0 some.0) top,
      each_both (λ e. FitsIn whole e × (e.index < e.past)) (KnownNode (all nest first)) (FirstRecordShows whole)
          (λ e h k. let n = own_some whole e h.0 h.1 in first_shows whole e h.0 n (shown e.what (length e.holders) e.start h.0.rest k.bounded k.names n h.0.ends))
          es (each_both (FitsIn whole) (λ e. e.index < e.past) (λ e. FitsIn whole e × (e.index < e.past)) (λ e a b. (a, b)) es fits.1 some.1) (known_each nest first s),
    )

-- the law: each node's records are a part of all records
pub nodes_have_records : (nest : Forest) (first : ℕ) → Shallow 0 nest → Each (HasRecords (records nest first)) (all nest first)
nodes_have_records nest first s =
    each_more (FitsIn (records nest first)) (HasRecords (records nest first)) (λ e h. record { prefix = h.prefix; rest = h.rest; split = h.split; begins = h.begins; stops = h.stops }) (all nest first) (each_fits nest first s)

-- the law: where a node's records end
abbrev pub EndsByScan : List Record → Entry → Type 0
EndsByScan whole e = e.past ≡ past_by_scan (kind_of e.what) e.index whole

past_is : (whole : List Record) (what : Thing) (l index past : ℕ) → Named what → level_of (record_at index whole) ≡ l → EndIs whole what l index past → past ≡ past_by_scan (kind_of what) index whole
past_is whole (Thing.root first f) l index past n e h = absurd n
past_is whole (Thing.element t inside) l index past n e h = h ∙ ap (λ m. end_from m (suc index) (drop (suc index) whole)) (sym e)
past_is whole (Thing.attribute a) l index past n e h = h
past_is whole (Thing.text xs) l index past n e h = h ∙ ap (λ m. run_from m index (drop index whole)) (sym e)
past_is whole (Thing.comment cs) l index past n e h = h
past_is whole (Thing.instruction i) l index past n e h = h

pub pasts_by_scan : (nest : Forest) (first : ℕ) → Shallow 0 nest → Each (EndsByScan (records nest first)) (all nest first)
unfolding all records
pasts_by_scan nest first s =
    let whole = document ∷ forest_records 0 first nest in
    let es = nodes (at_first first) nest in
    let ends : Each (λ e. EndIs whole e.what (length e.holders) e.index e.past) es = (ends_by_scan nest first s).1 in
    let firsts : Each (FirstRecordShows whole) es = (first_records nest first s).1 in (
      refl,
      each_both (λ e. EndIs whole e.what (length e.holders) e.index e.past × FirstRecordShows whole e) (KnownNode (all nest first)) (EndsByScan whole)
          (λ e h k. past_is whole e.what (length e.holders) e.index e.past k.names h.1.level h.0)
          es
          (each_both (λ e. EndIs whole e.what (length e.holders) e.index e.past) (FirstRecordShows whole) (λ e. EndIs whole e.what (length e.holders) e.index e.past × FirstRecordShows whole e) (λ e a b. (a, b)) es ends firsts)
          (known_each nest first s),
    )

-- the law: the nearest holder is the last starting tag before of a lower depth
abbrev pub HolderByScan : List Record → Entry → Type 0
HolderByScan whole e = holder_by_scan e.index whole ≡ holder_index e.holders

pub holders_by_scan : (nest : Forest) (first : ℕ) → Shallow 0 nest → Each (HolderByScan (records nest first)) (all nest first)
holders_by_scan nest first s =
    let whole = records nest first in
    each_both (OwnedIn whole) (FirstRecordShows whole) (HolderByScan whole)
    (λ e h k. ap₂ (λ l xs. last_tag l 0 0 xs) k.level (ap (take e.index) h.split ∙ take_at h.prefix h.rest e.index h.begins) ∙ h.owner)
    (all nest first) (owners_by_scan nest first s) (first_records nest first s)
