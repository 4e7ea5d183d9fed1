-- What a pass over the items has found gives the answer, by the order of the layers.
use Rattle.std.proofs.Common.{◌≡◌, ℕ, ◌+◌, ◌*◌, ◌<◌, ◌≤◌, true, false, List, [], ◌∷◌, ◌++◌, length, Option, Some, None, refl, sym, ap, subst, ◌∙◌, arith, append-nil}
use Rattle.std.specs.Prelude.{IsUtf8, ◌&&◌, ◌==◌}
use Rattle.std.specs.Str.{IsValidUpTo}
use Rattle.std.proofs.lemmas.Bool.{and_from, eq-eqb, false≢true}
use Rattle.std.proofs.lemmas.Option.{same_Some}
use Rattle.xml_model.specs.declared.Field.{Field}
use Rattle.xml_model.specs.declared.DocFault.{DocFault}
use Rattle.xml_model.specs.declared.DocFault.TheVariants as faults
use Rattle.xml_model.specs.Items.{Item, spelling, begins_at, walk, walk_to_end, first_place}
use Rattle.xml_model.specs.declared.Counts.{Counts}
use Rattle.xml_model.specs.Levels.{CountsLevels}
use Rattle.xml_model.proofs.TagCounts.{counts_front}
use Rattle.xml_acceptance.specs.Verdicts.{CountsLevelsOf}
use Rattle.xml_model.specs.Nest.{Forest, flat}
use Rattle.xml_model.specs.Records.{Record, document, records}
use Rattle.xml_model.specs.Accepted.{RefusesItem, RefusesNesting, is_opening, IsDocument, over_items, unknown_item, encoding_item, first_wide, IsRefusal, Accepted, AcceptedTo, layer}
use Rattle.xml_items.specs.declared.Item.{Item as ItemShown}
use Rattle.xml_items.specs.declared.Counted.{Counted}
use Rattle.xml_items.specs.Counted.{IsCountedAt}
use Rattle.xml_items.specs.Shown.{item_shown, HasNoItem}
use Rattle.xml_acceptance.specs.declared.checking.Pass.{Pass}
use Rattle.xml_acceptance.specs.declared.nest_so_far.NestSoFar.{NestSoFar}
use Rattle.xml_acceptance.specs.Ampersands.{first}
use Rattle.xml_acceptance.specs.Machine.{Phase, whole, head, body, tail, State, state, run, items_records}
use Rattle.xml_acceptance.specs.Open.{is_end, is_deep}
use Rattle.xml_acceptance.specs.Passes.{past_items, Finds, Goes, Stops, NestsBy, Nests, Passes}
use Rattle.xml_acceptance.proofs.Placement.{hold}
use Rattle.xml_acceptance.proofs.Tokens.{tokens_whole}
use Rattle.xml_acceptance.proofs.Prefixes.{taken_begins, stops_begins, open_no_nest, open_taken, ends_nest}
use Rattle.xml_acceptance.proofs.OneAnswer.{one_document}
use Rattle.xml_acceptance.proofs.Layers.{walk_more, Whole, none_to, utf8_to, is_refusal, first_refusal, nesting_layer, nesting_refusal}
use Rattle.xml_acceptance.proofs.OneMore.{past_more}
use Rattle.xml_acceptance.proofs.HalfLaws.{document_half}

-- two counts have the same levels
pub record CountsSame (c d : Counts) : Type 0 where
  pub level1 : c.level1 ≡ d.level1
  pub level2 : c.level2 ≡ d.level2
  pub level3 : c.level3 ≡ d.level3
  pub level4 : c.level4 ≡ d.level4
  pub level5 : c.level5 ≡ d.level5

counts_like : (c d : Counts) (rs : List Record) → CountsSame c d → CountsLevels d rs → CountsLevels c rs
counts_like c d rs s l = record {
  level1 = s.level1 ∙ l.level1;
  level2 = s.level2 ∙ l.level2;
  level3 = s.level3 ∙ l.level3;
  level4 = s.level4 ∙ l.level4;
  level5 = s.level5 ∙ l.level5;
}

-- ---- one item more

pub passes_more : (bytes : List ℕ) (old new : Pass) (at : ℕ) (found : ItemShown) (i : Item) → (p : Passes bytes old at) → begins_at bytes at i ≡ true → found ≡ item_shown at i → Finds bytes new.found (p.items ++ i ∷ []) → Nests bytes new.nest (p.items ++ i ∷ [])
    → Passes bytes new found.span.end
unfolding walk
passes_more bytes old new at found i p b s f n = record {
  items = p.items ++ i ∷ [];
  walked = walk_more bytes (first_place bytes) p.items i p.walked (ap (λ (m : ℕ). begins_at bytes m i) p.ends ∙ b);
  ends = past_more bytes p.items i ∙ ap (λ (m : ℕ). m + length (spelling i)) p.ends ∙ sym (ap (λ (x : ItemShown). x.span.end) s);
  finds = f;
  nests = n;
}

-- the place goes on, and stays within the bytes
pub later_end : (bytes : List ℕ) (at : ℕ) (found : Counted) → IsCountedAt bytes at found → (at < found.item.span.end) × (found.item.span.end ≤ length bytes)
later_end bytes at found a =
    let end : found.item.span.end ≡ at + length (spelling a.item) = ap (λ (x : ItemShown). x.span.end) a.shown in
    let s = hold bytes at a.item a.begins in
    (omega (arith, end, s.some), omega (arith, end, s.within))

-- ---- whole items

pub whole_pass : (bytes : List ℕ) (pass : Pass) → IsUtf8 bytes → (p : Passes bytes pass (length bytes)) → Whole bytes p.items
unfolding walk_to_end
whole_pass bytes pass u p = record { utf8 = u; walked = and_from _ _ p.walked (eq-eqb (past_items bytes p.items) (length bytes) p.ends) }

-- ---- the faults

pub refused_utf8 : (bytes : List ℕ) (at : ℕ) → IsValidUpTo bytes at → IsRefusal bytes (faults.Utf8 at)
refused_utf8 bytes at v = first_refusal bytes at (record { within = v.short; prefix = v.front; longest = λ n l m. v.longest n l })

pub refused_syntax : (bytes : List ℕ) (pass : Pass) (at : ℕ) → IsUtf8 bytes → Passes bytes pass at → at < length bytes → HasNoItem bytes at → IsRefusal bytes (faults.Syntax at)
refused_syntax bytes pass at u p l none = is_refusal bytes (faults.Syntax at) 1 refl (utf8_to bytes u) (record { items = p.items; walked = p.walked; ends = p.ends; within = l; none = none })

-- the first of some places, or none
first_is : (l : List ℕ) (at : ℕ) → first l ≡ Some at → (others : List ℕ) × (l ≡ at ∷ others)
first_is [] at e = absurd cc
first_is (x ∷ xs) at e = (xs, ap (λ (y : ℕ). y ∷ xs) (same_Some x at e))

first_none : (l : List ℕ) → first l ≡ None → l ≡ []
first_none [] e = refl
first_none (x ∷ xs) e = absurd cc

refuses_item : (f : ℕ → Item → List ℕ) (bytes : List ℕ) (items : List Item) (at : ℕ) → Whole bytes items → first (over_items f (first_place bytes) items) ≡ Some at → RefusesItem f bytes at
refuses_item f bytes items at w e = let o = first_is (over_items f (first_place bytes) items) at e in record { items = items; walked = w.walked; others = o.0; first = o.1 }

pub refused_entity : (bytes : List ℕ) (pass : Pass) (at : ℕ) → IsUtf8 bytes → Passes bytes pass (length bytes) → pass.found.entity ≡ Some at → IsRefusal bytes (faults.Entity at)
refused_entity bytes pass at u p e =
    let w = whole_pass bytes pass u p in
    let none = none_to bytes p.items 2 w (omega arith) (record {
      entities = λ l. absurd (omega (arith, l));
      encoding = λ l. absurd (omega (arith, l));
      nests = λ l. absurd (omega (arith, l));
    }) in
    is_refusal bytes (faults.Entity at) 2 refl none (refuses_item unknown_item bytes p.items at w (sym p.finds.entity ∙ e))

no_entities : (bytes : List ℕ) (pass : Pass) (at : ℕ) → (p : Passes bytes pass at) → pass.found.entity ≡ None → over_items unknown_item (first_place bytes) p.items ≡ []
no_entities bytes pass at p e = first_none (over_items unknown_item (first_place bytes) p.items) (sym p.finds.entity ∙ e)

no_encoding : (bytes : List ℕ) (pass : Pass) (at : ℕ) → (p : Passes bytes pass at) → pass.found.encoding ≡ None → over_items encoding_item (first_place bytes) p.items ≡ []
no_encoding bytes pass at p e = first_none (over_items encoding_item (first_place bytes) p.items) (sym p.finds.encoding ∙ e)

pub refused_encoding : (bytes : List ℕ) (pass : Pass) (at : ℕ) → IsUtf8 bytes → Passes bytes pass (length bytes) → pass.found.entity ≡ None → pass.found.encoding ≡ Some at → IsRefusal bytes (faults.Encoding at)
refused_encoding bytes pass at u p none e =
    let w = whole_pass bytes pass u p in
    let lower = none_to bytes p.items 3 w (omega arith) (record {
      entities = λ l. no_entities bytes pass (length bytes) p none;
      encoding = λ l. absurd (omega (arith, l));
      nests = λ l. absurd (omega (arith, l));
    }) in
    is_refusal bytes (faults.Encoding at) 3 refl lower (refuses_item encoding_item bytes p.items at w (sym p.finds.encoding ∙ e))

-- ---- nesting

-- what the pass found of the lower layers
pub record IsPlain (pass : Pass) : Type 0 where
  pub entity : pass.found.entity ≡ None
  pub encoding : pass.found.encoding ≡ None

below_nesting : (bytes : List ℕ) (pass : Pass) → (w : IsUtf8 bytes) → Passes bytes pass (length bytes) → IsPlain pass → AcceptedTo bytes 4
below_nesting bytes pass u p n =
    none_to bytes p.items 4 (whole_pass bytes pass u p) (omega arith) (record {
      entities = λ l. no_entities bytes pass (length bytes) p n.entity;
      encoding = λ l. no_encoding bytes pass (length bytes) p n.encoding;
      nests = λ l. absurd (omega (arith, l));
    })

stops_refuses : (bytes : List ℕ) (fault : DocFault) (items : List Item) → Whole bytes items → (s : Stops bytes fault items) → RefusesNesting bytes (past_items bytes s.prefix) (is_deep s.now.names s.item)
stops_refuses bytes fault items w s = record {
  prefix = s.prefix;
  rest = s.item ∷ s.rest;
  walked = ap (walk_to_end bytes) (sym s.split) ∙ w.walked;
  begins = taken_begins s.prefix s.now s.ran;
  longest = stops_begins s.prefix s.item s.now s.ran s.stuck;
  place = refl;
  deep = ap (λ (n : ℕ). is_opening s.item && n == 255) (open_taken s.prefix [] whole s.now s.ran);
}

-- the fault that the pass kept
pub fault_of : (o : Option DocFault) (fault : DocFault) (bytes : List ℕ) (nest : NestSoFar) (items : List Item) → o ≡ Some fault → NestsBy o bytes nest items → Stops bytes fault items
fault_of o fault bytes nest items e n = subst (λ (x : Option DocFault). NestsBy x bytes nest items) e n

pub refused_nesting : (bytes : List ℕ) (pass : Pass) (fault : DocFault) → IsUtf8 bytes → Passes bytes pass (length bytes) → IsPlain pass → pass.nest.fault ≡ Some fault → IsRefusal bytes fault × (layer fault ≡ 5)
refused_nesting bytes pass fault u p n e =
    let s = fault_of pass.nest.fault fault bytes pass.nest p.items e p.nests in
    let at = past_items bytes s.prefix in
    let deep = is_deep s.now.names s.item in
    let r = nesting_refusal bytes at deep (below_nesting bytes pass u p n) (stops_refuses bytes fault p.items (whole_pass bytes pass u p) s) in
    (subst (IsRefusal bytes) (sym s.fault_is) r, ap layer s.fault_is ∙ nesting_layer at deep)

pub fault_none : (o : Option DocFault) (bytes : List ℕ) (nest : NestSoFar) (items : List Item) → o ≡ None → NestsBy o bytes nest items → Goes bytes nest items
fault_none o bytes nest items e n = subst (λ (x : Option DocFault). NestsBy x bytes nest items) e n

is_end_true : (s : State) → is_end s ≡ true → s ≡ state [] tail
is_end_true s e = go s.names s.phase e
  where
    go : (names : List (List ℕ)) (phase : Phase) → is_end (state names phase) ≡ true → state names phase ≡ state [] tail
    go [] tail e = refl
    go [] whole e = absurd (false≢true e)
    go [] head e = absurd (false≢true e)
    go [] body e = absurd (false≢true e)
    go (n ∷ names) phase e = absurd (false≢true e)

is_end_false : (s : State) → is_end s ≡ false → s ≡ state [] tail → ⊥
is_end_false s f e = false≢true (sym f ∙ ap is_end e)

pub refused_open : (bytes : List ℕ) (pass : Pass) → IsUtf8 bytes → (p : Passes bytes pass (length bytes)) → IsPlain pass → (g : Goes bytes pass.nest p.items) → is_end g.now ≡ false → IsRefusal bytes (faults.Nesting (length bytes))
refused_open bytes pass u p n g open_still =
    is_refusal bytes (faults.Nesting (length bytes)) 4 refl (below_nesting bytes pass u p n) (record {
      prefix = p.items;
      rest = [];
      walked = ap (walk_to_end bytes) (append-nil p.items) ∙ (whole_pass bytes pass u p).walked;
      begins = taken_begins p.items g.now g.ran;
      longest = λ nest is flat_is. open_no_nest p.items g.now g.ran (is_end_false g.now open_still) nest is flat_is;
      place = p.ends;
      deep = refl;
    })

-- ---- a nest

ran_to_end : (bytes : List ℕ) (nest : NestSoFar) (items : List Item) → (g : Goes bytes nest items) → is_end g.now ≡ true → run [] whole items ≡ Some (state [] tail)
ran_to_end bytes nest items g e = g.ran ∙ ap (λ (s : State). Some s) (is_end_true g.now e)

-- the nest of the document, and its records
pub record HasNest (bytes : List ℕ) (items : List Item) : Type 0 where
  pub nest : Forest
  pub is_flat : flat nest ≡ items
  pub is_document : IsDocument bytes nest
  pub records_are : records nest (first_place bytes) ≡ document ∷ items_records 0 (first_place bytes) items

pub has_nest : (bytes : List ℕ) (items : List Item) → Whole bytes items → run [] whole items ≡ Some (state [] tail) → HasNest bytes items
unfolding records
has_nest bytes items w ends =
    let n = ends_nest items ends in
    record {
      nest = n.0;
      is_flat = n.2;
      is_document = record { nests = n.1; walked = ap (walk_to_end bytes) n.2 ∙ w.walked };
      records_are = ap (λ (l : List Record). document ∷ l) (sym (tokens_whole n.0 (first_place bytes)) ∙ ap (items_records 0 (first_place bytes)) n.2);
    }

-- the document's own record is not too wide
document_fits : (l : List Record) → first_wide (document ∷ l) ≡ first_wide l
unfolding first_wide
document_fits l = refl

widths_are : (bytes : List ℕ) (nest : NestSoFar) (items : List Item) → (h : HasNest bytes items) → Goes bytes nest items → first_wide (records h.nest (first_place bytes)) ≡ nest.wide
widths_are bytes nest items h g = ap first_wide h.records_are ∙ document_fits (items_records 0 (first_place bytes) items) ∙ sym g.wide

pub refused_width : (bytes : List ℕ) (pass : Pass) (field : Field) (at : ℕ) → IsUtf8 bytes → (p : Passes bytes pass (length bytes)) → IsPlain pass → (g : Goes bytes pass.nest p.items) → is_end g.now ≡ true → pass.nest.wide ≡ Some (field, at)
    → IsRefusal bytes (faults.Width field at)
refused_width bytes pass field at u p n g e wide =
    let w = whole_pass bytes pass u p in
    let ends = ran_to_end bytes pass.nest p.items g e in
    let h = has_nest bytes p.items w ends in
    let none = none_to bytes p.items 5 w (omega arith) (record {
      entities = λ l. no_entities bytes pass (length bytes) p n.entity;
      encoding = λ l. no_encoding bytes pass (length bytes) p n.encoding;
      nests = λ l. ends;
    }) in
    is_refusal bytes (faults.Width field at) 5 refl none (record { nest = h.nest; document = h.is_document; first = widths_are bytes pass.nest p.items h g ∙ wide })

pub accepted_nest : (bytes : List ℕ) (pass : Pass) → IsUtf8 bytes → (p : Passes bytes pass (length bytes)) → IsPlain pass → (g : Goes bytes pass.nest p.items) → is_end g.now ≡ true → pass.nest.wide ≡ None → (nest : Forest) × Accepted 6 bytes nest
accepted_nest bytes pass u p n g e wide =
    let w = whole_pass bytes pass u p in
    let h = has_nest bytes p.items w (ran_to_end bytes pass.nest p.items g e) in (
      h.nest,
      record {
        utf8 = u;
        document = h.is_document;
        entities = ap (over_items unknown_item (first_place bytes)) h.is_flat ∙ no_entities bytes pass (length bytes) p n.entity;
        encoding = ap (over_items encoding_item (first_place bytes)) h.is_flat ∙ no_encoding bytes pass (length bytes) p n.encoding;
        widths = widths_are bytes pass.nest p.items h g ∙ wide;
        twice = λ l. absurd (omega (arith, l));
        names = λ l. absurd (omega (arith, l));
      },
    )

pub counted_records : (bytes : List ℕ) (pass : Pass) → IsUtf8 bytes → (p : Passes bytes pass (length bytes)) → (g : Goes bytes pass.nest p.items) → is_end g.now ≡ true → (nest : Forest) → Accepted 6 bytes nest → pass.nest.records ≡ length (records nest (first_place bytes))
counted_records bytes pass u p g e nest a =
    let h = has_nest bytes p.items (whole_pass bytes pass u p) (ran_to_end bytes pass.nest p.items g e) in
    g.counted ∙ ap (λ (l : List Record). length l) (sym h.records_are) ∙ ap (λ (f : Forest). length (records f (first_place bytes))) (one_document bytes h.nest nest h.is_document a.document)

pub half_records : (bytes : List ℕ) (pass : Pass) → IsUtf8 bytes → (p : Passes bytes pass (length bytes)) → (g : Goes bytes pass.nest p.items) → is_end g.now ≡ true → 2 * pass.nest.records ≤ length bytes
half_records bytes pass u p g e =
    let h = has_nest bytes p.items (whole_pass bytes pass u p) (ran_to_end bytes pass.nest p.items g e) in
    omega (arith, document_half bytes h.nest h.is_document, g.counted, ap (λ (l : List Record). length l) h.records_are)

pub counted_levels : (bytes : List ℕ) (pass : Pass) (c : Counts) → IsUtf8 bytes → (p : Passes bytes pass (length bytes)) → (g : Goes bytes pass.nest p.items) → is_end g.now ≡ true → CountsSame c pass.nest.levels → CountsLevelsOf bytes c
counted_levels bytes pass c u p g e s nest a =
    let h = has_nest bytes p.items (whole_pass bytes pass u p) (ran_to_end bytes pass.nest p.items g e) in
    let all : CountsLevels pass.nest.levels (document ∷ items_records 0 (first_place bytes) p.items) = counts_front pass.nest.levels document (items_records 0 (first_place bytes) p.items) refl g.leveled in
    let same : document ∷ items_records 0 (first_place bytes) p.items ≡ records nest (first_place bytes) =
    sym h.records_are ∙ ap (λ (f : Forest). records f (first_place bytes)) (one_document bytes h.nest nest h.is_document a.document) in
    counts_like c pass.nest.levels (records nest (first_place bytes)) s (subst (λ (l : List Record). CountsLevels pass.nest.levels l) same all)
