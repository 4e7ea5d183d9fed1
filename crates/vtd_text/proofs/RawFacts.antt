-- The record of a node whose content is in one piece.
use Rattle.std.proofs.Common.{◌≡◌, ℕ, ◌+◌, ◌-◌, ◌<◌, ◌≤◌, ◌^◌, Bool, true, false, cond, ◌⊎◌, inl, inr, List, [], ◌∷◌, ◌++◌, length, take, drop, Some, None, refl, sym, ap, subst, ◌∙◌, arith, le-leb}
use Rattle.std.specs.Prelude.{option_and_then}
use Rattle.std.specs.Str.{IsUtf8, chars, bytes_eq}
use lib.Utf8.{encodes}
use Rattle.std.proofs.lemmas.Str.{encodes_same, encodes-chars}
use Rattle.xml_model.specs.declared.Kind.{Kind}
use Rattle.xml_model.specs.declared.Kind.TheVariants as kinds
use Rattle.xml_model.specs.declared.Node.{Node}
use Rattle.xml_model.specs.Items.{Leaf, first_place, written_pieces}
use Rattle.xml_model.specs.Nest.{Forest}
use Rattle.xml_model.specs.Chars.{size}
use Rattle.xml_model.specs.Records.{Record, cut, depth_at, records, run_records}
use Rattle.xml_model.specs.Wholes.{goes_on, joined_with, wholes, wholes_from, run_wholes}
use Rattle.xml_model.specs.Tree.{Thing, Entry, Identifies, all, kind_of}
use Rattle.xml_model.specs.Scan.{record_at, is_within, level_of}
use Rattle.xml_model.specs.Content.{content}
use Rattle.xml_model.specs.Laws.{records_of}
use Rattle.vtd_words.specs.Lists.{Lists}
use Rattle.vtd_words.specs.Table.{IsNestOf, IsNodeOf, Shows, nodes_of}
use Rattle.vtd_words.proofs.Fitting.{nest_shown}
use Rattle.vtd_text.specs.declared.token.Rule.{Rule}
use Rattle.xml_model.proofs.Each.{each_at}
use Rattle.xml_model.proofs.Intervals.{all_some}
use Rattle.vtd_text.specs.Joined.{IsText, row, slice_of}
use Rattle.vtd_text.specs.Raw.{written_content, raw_content, IsWritten}
use Rattle.vtd_text.proofs.Leaves.{WrittenIs}
use Rattle.vtd_text.proofs.Written.{SaysOf, RunIs}
use Rattle.vtd_text.proofs.JoinedLemmas.{row_none, take_one}
use Rattle.vtd_text.proofs.NodeFacts.{HasRecord, holding, record_in, part_of, past_within, all_within}

-- ---- a node with one record

written_by : (bytes : List ℕ) (r : Record) (w : List ℕ) → WrittenIs bytes r w → IsWritten bytes r (Some w)
written_by bytes r w k = record { written = w; is = refl; text = k.text; slice = k.slice }

says_written : (bytes : List ℕ) (what : Thing) (l at : ℕ) (rule : Rule) (k : ℕ) (rest : List Record) → HasRecord (kind_of what) rule k → SaysOf bytes what l at → IsWritten bytes (record_at k (records_of what l at ++ rest)) (written_content what)
says_written bytes (Thing.attribute a) l at rule k rest h s = rw h.1 (written_by bytes _ (written_pieces a.value) s.1)
says_written bytes (Thing.comment cs) l at rule k rest h s = rw h.1 (written_by bytes _ cs s.1)
says_written bytes (Thing.instruction i) l at rule k rest h s = rw h.1 (written_by bytes _ i.content s.1)
says_written bytes (Thing.root first f) l at rule k rest h s = absurd h
says_written bytes (Thing.element t inside) l at rule k rest h s = absurd h
says_written bytes (Thing.text xs) l at rule k rest h s = absurd h

pub record_written : (bytes : List ℕ) (lists : Lists) → length bytes < 2 ^ 30 → (kind : Kind) (at k : ℕ) (rule : Rule) (r : Record) → HasRecord kind rule k → ((rs : List Record) → Shows lists.records rs → r ≡ record_at (at + k) rs) →
    (nest : Forest) → IsNestOf bytes lists nest → (e : Entry) → Identifies kind at e (nodes_of bytes nest) → IsWritten bytes r (written_content e.what)
record_written bytes lists few kind at k rule r h f nest s e w =
    let d = holding bytes lists nest s kind at e w in
    let rs = records nest (first_place bytes) in
    let mine = records_of e.what (length e.holders) e.start in
    let there : record_at (at + k) rs ≡ record_at k (mine ++ d.hold.rest) = record_in rs d.hold.prefix mine d.hold.rest at k d.hold.split (d.hold.begins ∙ w.2) in
    subst (λ (x : Record). IsWritten bytes x (written_content e.what)) (sym (f rs (nest_shown bytes lists nest few s) ∙ there))
    (says_written bytes e.what (length e.holders) e.start rule k d.hold.rest (subst (λ (x : Kind). HasRecord x rule k) (sym w.1) h) d.says)

-- ---- the root and elements

written_none : (what : Thing) → (kind_of what ≡ kinds.Root) ⊎ (kind_of what ≡ kinds.Element) → written_content what ≡ None
written_none (Thing.root first f) h = refl
written_none (Thing.element t inside) h = refl
written_none (Thing.attribute a) (inl e) = absurd cc
written_none (Thing.attribute a) (inr e) = absurd cc
written_none (Thing.text xs) (inl e) = absurd cc
written_none (Thing.text xs) (inr e) = absurd cc
written_none (Thing.comment cs) (inl e) = absurd cc
written_none (Thing.comment cs) (inr e) = absurd cc
written_none (Thing.instruction i) (inl e) = absurd cc
written_none (Thing.instruction i) (inr e) = absurd cc

pub holder_written : (bytes : List ℕ) (kind : Kind) (at : ℕ) → (kind ≡ kinds.Root) ⊎ (kind ≡ kinds.Element) → (nest : Forest) (e : Entry) → Identifies kind at e (nodes_of bytes nest) → written_content e.what ≡ None
holder_written bytes kind at h nest e w = written_none e.what (along h)
  where
    along : (kind ≡ kinds.Root) ⊎ (kind ≡ kinds.Element) → (kind_of e.what ≡ kinds.Root) ⊎ (kind_of e.what ≡ kinds.Element)
    along (inl p) = inl (w.1 ∙ p)
    along (inr p) = inr (w.1 ∙ p)

-- ---- texts

-- the run of a text, whose first whole token is this, where it is all of the run or not
one_written : (bytes : List ℕ) (xs : List Leaf) (l at : ℕ) (w : Record) → RunIs bytes l at xs → wholes (run_records l at xs) ≡ w ∷ [] → IsWritten bytes w (written_content (Thing.text xs))
one_written bytes [] l at w k e = absurd k.1.1
one_written bytes (x ∷ xs) l at w k e = by x xs k (sym k.0 ∙ e)
  where
    by : (x : Leaf) (xs : List Leaf) → RunIs bytes l at (x ∷ xs) → run_wholes l at (x ∷ xs) ≡ w ∷ [] → IsWritten bytes w (written_content (Thing.text (x ∷ xs)))
    by (Leaf.text ps) [] k h =
        let e : cut 5 (depth_at l) (size (written_pieces ps)) at ≡ w = cc in
        subst (λ (r : Record). IsWritten bytes r (Some (written_pieces ps))) e (written_by bytes _ (written_pieces ps) k.1.1)
    by (Leaf.cdata cs) [] k h =
        let e : cut 11 (depth_at l) (size cs) (at + 9) ≡ w = cc in
        subst (λ (r : Record). IsWritten bytes r (Some cs)) e (written_by bytes _ cs k.1.1)
    by x (y ∷ ys) k h = absurd (omega (arith, k.1.0, ap (λ (l : List Record). length l) h))
    by (Leaf.comment cs) [] k h = absurd k.1.1
    by (Leaf.instruction i) [] k h = absurd k.1.1
    by (Leaf.declaration v) [] k h = absurd k.1.1
    by (Leaf.doctype v) [] k h = absurd k.1.1

more_unwritten : (x y : Leaf) (ys : List Leaf) → written_content (Thing.text (x ∷ y ∷ ys)) ≡ None
more_unwritten (Leaf.text ps) y ys = refl
more_unwritten (Leaf.cdata cs) y ys = refl
more_unwritten (Leaf.comment cs) y ys = refl
more_unwritten (Leaf.instruction i) y ys = refl
more_unwritten (Leaf.declaration v) y ys = refl
more_unwritten (Leaf.doctype v) y ys = refl

several_unwritten : (bytes : List ℕ) (xs : List Leaf) (l at : ℕ) (w z : Record) (ws : List Record) → RunIs bytes l at xs → wholes (run_records l at xs) ≡ w ∷ z ∷ ws → written_content (Thing.text xs) ≡ None
several_unwritten bytes [] l at w z ws k e = absurd k.1.1
several_unwritten bytes (x ∷ []) l at w z ws k e = absurd (omega (arith, k.1.0, ap (λ (l : List Record). length l) (sym k.0 ∙ e)))
several_unwritten bytes (x ∷ y ∷ ys) l at w z ws k e = more_unwritten x y ys

says_one : (bytes : List ℕ) (what : Thing) (l at : ℕ) (w : Record) → kind_of what ≡ kinds.Text → SaysOf bytes what l at → wholes (records_of what l at) ≡ w ∷ [] → IsWritten bytes w (written_content what)
says_one bytes (Thing.text xs) l at w h s e = one_written bytes xs l at w s.1 e
says_one bytes (Thing.root first f) l at w h s e = absurd cc
says_one bytes (Thing.element t inside) l at w h s e = absurd cc
says_one bytes (Thing.attribute a) l at w h s e = absurd cc
says_one bytes (Thing.comment cs) l at w h s e = absurd cc
says_one bytes (Thing.instruction i) l at w h s e = absurd cc

says_several : (bytes : List ℕ) (what : Thing) (l at : ℕ) (w z : Record) (ws : List Record) → kind_of what ≡ kinds.Text → SaysOf bytes what l at → wholes (records_of what l at) ≡ w ∷ z ∷ ws → written_content what ≡ None
says_several bytes (Thing.text xs) l at w z ws h s e = several_unwritten bytes xs l at w z ws s.1 e
says_several bytes (Thing.root first f) l at w z ws h s e = absurd cc
says_several bytes (Thing.element t inside) l at w z ws h s e = absurd cc
says_several bytes (Thing.attribute a) l at w z ws h s e = absurd cc
says_several bytes (Thing.comment cs) l at w z ws h s e = absurd cc
says_several bytes (Thing.instruction i) l at w z ws h s e = absurd cc

-- what is known of a text node's first token: the first of its records, all of them as one, and the record after them
pub record Token (words : List ℕ) (at past : ℕ) (r w : Record) (next : ℕ) : Type 0 where
  pub first : (rs : List Record) → Shows words rs → r ≡ record_at at rs
  pub in_run : next ≤ past
  pub whole : (rs : List Record) → Shows words rs → (least : ℕ) → is_within least r ≡ true →
      wholes_from r (row (at + 1) (record { past = past; least = least }) rs) ≡ w ∷ wholes (row next (record { past = past; least = least }) rs)

-- the records of a text node
record TextNode (bytes : List ℕ) (lists : Lists) (at past : ℕ) (w : Record) (next : ℕ) (e : Entry) : Type 0 where
  says : SaysOf bytes e.what (length e.holders) e.start
  kind : kind_of e.what ≡ kinds.Text
  rest : List Record
  is : wholes (records_of e.what (length e.holders) e.start) ≡ w ∷ rest
  none : next ≡ past → rest ≡ []
  some : next < past → (z : Record) × (ws : List Record) × (rest ≡ z ∷ ws)

some_wholes : (r : Record) (rs : List Record) → (z : Record) × (ws : List Record) × (wholes_from r rs ≡ z ∷ ws)
some_wholes r [] = (r, [], refl)
some_wholes r (s ∷ ss) = by (goes_on r s) (some_wholes (joined_with r s) ss)
  where
    by : (b : Bool) → (z : Record) × (ws : List Record) × (wholes_from (joined_with r s) ss ≡ z ∷ ws) →
        (z : Record) × (ws : List Record) × (cond b (wholes_from (joined_with r s) ss) (r ∷ wholes_from s ss) ≡ z ∷ ws)
    by true h = h
    by false h = (r, wholes_from s ss, refl)

some_list : (rs : List Record) → 0 < length rs → (z : Record) × (ws : List Record) × (wholes rs ≡ z ∷ ws)
some_list [] h = absurd (omega arith)
some_list (r ∷ rs) h = some_wholes r rs

text_node_is : (bytes : List ℕ) (lists : Lists) → length bytes < 2 ^ 30 → (kind : Kind) (at past : ℕ) (r w : Record) (next : ℕ) → kind ≡ kinds.Text → Token lists.records at past r w next →
    (nest : Forest) → IsNestOf bytes lists nest → (e : Entry) → Identifies kind at e (nodes_of bytes nest) → past ≡ e.past → TextNode bytes lists at past w next e
text_node_is bytes lists few kind at past r w next h t nest s e i p =
    let d = holding bytes lists nest s kind at e i in
    let rs = records nest (first_place bytes) in
    let shown = nest_shown bytes lists nest few s in
    let mine = records_of e.what (length e.holders) e.start in
    let inside = past_within rs e d.hold in
    let some : e.index < e.past = each_at (λ x. x.index < x.past) (all nest (first_place bytes)) e (all_some nest (first_place bytes)) i.0 in
    let own : take (past - at) (drop at rs) ≡ mine = part_of rs d.hold.prefix mine d.hold.rest at past d.hold.split (d.hold.begins ∙ i.2) (omega (arith, d.hold.stops, i.2, p)) in
    let less : at < past = omega (arith, some, i.2, p) in
    let few_records : past ≤ length rs = omega (arith, inside, p) in
    let rest_row : List Record = row next (record { past = past; least = 0 }) rs in
    let part : rest_row ≡ take (past - next) (drop next rs) = all_within (take (past - next) (drop next rs)) in
    let is : wholes mine ≡ w ∷ wholes rest_row =
    ap wholes (sym own ∙ take_one rs at past less few_records ∙ ap (λ x. x ∷ take (past - (at + 1)) (drop (at + 1) rs)) (sym (t.first rs shown)))
    ∙ ap (wholes_from r) (sym (all_within (take (past - (at + 1)) (drop (at + 1) rs)))) ∙ t.whole rs shown 0 (le-leb 0 (level_of r) (omega arith)) in
    record {
      says = d.says;
      kind = i.1 ∙ h;
      rest = wholes rest_row;
      is = is;
      none = λ g. ap wholes (row_none rs next (record { past = past; least = 0 }) (omega (arith, g)));
      some = λ g. some_list rest_row (omega (arith, ap length part, ap length (take_one rs next past g few_records)));
    }

pub text_written : (bytes : List ℕ) (lists : Lists) → length bytes < 2 ^ 30 → (kind : Kind) (at past : ℕ) (r w : Record) (next : ℕ) → kind ≡ kinds.Text → Token lists.records at past r w next → next ≡ past →
    (nest : Forest) → IsNestOf bytes lists nest → (e : Entry) → Identifies kind at e (nodes_of bytes nest) → past ≡ e.past → IsWritten bytes w (written_content e.what)
text_written bytes lists few kind at past r w next h t n nest s e i p =
    let d = text_node_is bytes lists few kind at past r w next h t nest s e i p in
    says_one bytes e.what (length e.holders) e.start w d.kind d.says (d.is ∙ ap (λ xs. w ∷ xs) (d.none n))

pub text_unwritten : (bytes : List ℕ) (lists : Lists) → length bytes < 2 ^ 30 → (kind : Kind) (at past : ℕ) (r w : Record) (next : ℕ) → kind ≡ kinds.Text → Token lists.records at past r w next → (next ≡ past → ⊥) →
    (nest : Forest) → IsNestOf bytes lists nest → (e : Entry) → Identifies kind at e (nodes_of bytes nest) → past ≡ e.past → written_content e.what ≡ None
text_unwritten bytes lists few kind at past r w next h t n nest s e i p =
    let d = text_node_is bytes lists few kind at past r w next h t nest s e i p in
    let less : next < past = omega (arith, t.in_run, n) in
    let more = d.some less in
    says_several bytes e.what (length e.holders) e.start w more.0 more.1 d.kind d.says (d.is ∙ ap (λ xs. w ∷ xs) more.2)

-- the end of a text's run is after its first record
pub run_after : (bytes : List ℕ) (lists : Lists) (node : Node) (past : ℕ) → IsNodeOf bytes lists node → ((nest : Forest) → IsNestOf bytes lists nest → (e : Entry) → Identifies node.kind node.at e (nodes_of bytes nest) → past ≡ e.past) → node.at + 1 ≤ past
run_after bytes lists node past n p =
    let some : n.entry.index < n.entry.past = each_at (λ x. x.index < x.past) (all n.nest (first_place bytes)) n.entry (all_some n.nest (first_place bytes)) n.holds.0 in
    omega (arith, some, n.holds.2, p n.nest n.shown n.entry n.holds)

-- ---- what is answered

pub raw_none : (what : Thing) → written_content what ≡ None → raw_content what ≡ None
unfolding raw_content
raw_none what e = ap (option_and_then (λ (w : List ℕ). cond (bytes_eq (content what) w) (Some (encodes w)) None)) e

raw_some : (what : Thing) (w : List ℕ) (b : Bool) → written_content what ≡ Some w → bytes_eq (content what) w ≡ b → raw_content what ≡ cond b (Some (encodes w)) None
unfolding raw_content
raw_some what w b e f = ap (option_and_then (λ (w : List ℕ). cond (bytes_eq (content what) w) (Some (encodes w)) None)) e ∙ ap (λ (x : Bool). cond x (Some (encodes w)) None) f

-- the bytes of the record are those of the characters
same_chars : (slice w : List ℕ) → IsUtf8 slice → slice ≡ encodes w → chars slice ≡ w
same_chars slice w u e = encodes_same (chars slice) w (encodes-chars slice u ∙ e)

pub raw_found : (bytes : List ℕ) (r : Record) (what : Thing) (text cs : List ℕ) (b : Bool) → IsWritten bytes r (written_content what) → text ≡ slice_of bytes r → cs ≡ content what → b ≡ bytes_eq cs (chars text) → raw_content what ≡ cond b (Some text) None
raw_found bytes r what text cs b k t c e =
    let w : chars text ≡ k.written = ap chars t ∙ same_chars (slice_of bytes r) k.written k.text.1 k.slice in
    let same : bytes_eq (content what) k.written ≡ b = ap (λ (l : List ℕ). bytes_eq l k.written) (sym c) ∙ ap (bytes_eq cs) (sym w) ∙ sym e in
    raw_some what k.written b k.is same ∙ ap (λ (l : List ℕ). cond b (Some l) None) (sym (t ∙ k.slice))

-- ---- the parts of a record, and the node's content

abbrev pub InEach : List ℕ → Lists → Kind → ℕ → (Forest → Entry → Type 0) → Type 0
InEach bytes lists kind at P = (nest : Forest) → IsNestOf bytes lists nest → (e : Entry) → Identifies kind at e (nodes_of bytes nest) → P nest e

pub text_there : (bytes : List ℕ) (lists : Lists) (node : Node) (r : Record) → IsNodeOf bytes lists node → InEach bytes lists node.kind node.at (λ nest e. IsWritten bytes r (written_content e.what)) → IsText bytes r
text_there bytes lists node r n k = (k n.nest n.shown n.entry n.holds).text

pub raw_answer : (bytes : List ℕ) (lists : Lists) (node : Node) (r : Record) (text cs : List ℕ) (b : Bool) →
    InEach bytes lists node.kind node.at (λ nest e. IsWritten bytes r (written_content e.what)) → text ≡ slice_of bytes r →
    InEach bytes lists node.kind node.at (λ nest e. cs ≡ content e.what) → b ≡ bytes_eq cs (chars text) → InEach bytes lists node.kind node.at (λ nest e. cond b (Some text) None ≡ raw_content e.what)
raw_answer bytes lists node r text cs b k t c h nest s e w = sym (raw_found bytes r e.what text cs b (k nest s e w) t (c nest s e w) h)
