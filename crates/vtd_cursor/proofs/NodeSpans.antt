-- What a node's first and last records and the bytes say of its span.
use Rattle.std.proofs.Common.{◌≡◌, ℕ, suc, ◌+◌, ◌-◌, ◌<◌, ◌≤◌, Bool, true, false, cond, List, [], ◌∷◌, ◌++◌, length, refl, ap, sym, ◌∙◌, subst, arith, length-append, add-zero, ap₂, append-nil, append_assoc}
use Rattle.std.specs.List.{AllByRecursion as Each}
use Rattle.std.proofs.lemmas.Bool.{false≢true}
use Rattle.xml_model.specs.declared.Kind.{Kind}
use Rattle.xml_model.specs.declared.Kind.TheVariants as kinds
use Rattle.xml_model.specs.Items.{Leaf, written_pieces, first_place}
use Rattle.xml_model.specs.Nest.{Forest}
use Rattle.xml_model.specs.Chars.{size}
use Rattle.xml_model.specs.Records.{Record, cut, cut_records, full_cuts, leaf_records, declares, named, records, run_records, tag_records, forest_records, past_leaf, past_run, past_start}
use Rattle.xml_model.specs.Tree.{Thing, Entry, Identifies, all, kind_of, is_text}
use Rattle.xml_model.specs.Scan.{record_at}
use Rattle.xml_model.specs.Laws.{HasRecords, records_of}
use Rattle.xml_model.proofs.Cuts.{first_cut, last_cut, length_cuts}
use Rattle.xml_model.proofs.Each.{each_at}
use Rattle.xml_model.proofs.Intervals.{all_some}
use Rattle.xml_model.proofs.NodeLaws.{records_of_node}
use Rattle.vtd_words.specs.Lists.{Lists}
use Rattle.vtd_words.specs.Table.{IsNestOf, nodes_of}
use Rattle.vtd_cursor.specs.Endings.{opening, record_end, IsEnding}
use Rattle.vtd_cursor.proofs.Closing.{Closes, ClosesIn, TextCloses, all_close}
use Rattle.vtd_cursor.proofs.LastPieces.{element_ending, cdata_size, comment_size, instruction_size}
use Rattle.xml_model.proofs.Inside.{in_place}

abbrev pub Begins : List Record → ℕ → ℕ → Type 0
Begins rs start index = (record_at index rs).offset ≡ start + opening (record_at index rs).token

-- what a node of a kind at a level shows of its start and its stop
pub record SpanShown (bytes : List ℕ) (rs : List Record) (kind : Kind) (l start stop index past : ℕ) : Type 0 where
  pub root : kind ≡ kinds.Root → (start ≡ 0) × (stop ≡ length bytes)
  pub begins : (kind ≡ kinds.Root → ⊥) → Begins rs start index
  pub depth : kind ≡ kinds.Element → (record_at index rs).depth ≡ l
  pub element : kind ≡ kinds.Element → IsEnding bytes rs l stop past
  pub other : (kind ≡ kinds.Root → ⊥) → (kind ≡ kinds.Element → ⊥) → record_end (record_at (past - 1) rs) ≡ stop

pub first_in : (whole prefix mine rest : List Record) (index : ℕ) → whole ≡ prefix ++ mine ++ rest → length prefix ≡ index → 0 < length mine → record_at index whole ≡ record_at 0 mine
first_in whole prefix mine rest index e n h = ap (λ k. record_at k whole) (sym n ∙ sym (add-zero (length prefix))) ∙ in_place whole prefix mine rest 0 e h

last_in : (whole prefix mine rest : List Record) (n index past : ℕ) → whole ≡ prefix ++ mine ++ rest → length prefix ≡ index → length mine ≡ suc n → index + length mine ≡ past → record_at (past - 1) whole ≡ record_at n mine
last_in whole prefix mine rest n index past e b m p =
    let is : past - 1 ≡ length prefix + n = omega (arith, b, m, p) in ap (λ k. record_at k whole) is ∙ in_place whole prefix mine rest n e (omega (arith, m))

begins_at_head : (rs : List Record) (start index : ℕ) (r : Record) → record_at index rs ≡ r → r.offset ≡ start + opening r.token → Begins rs start index
begins_at_head rs start index r e h = ap (λ x. x.offset) e ∙ h ∙ ap (λ x. start + opening x.token) (sym e)

-- the first record of a text or a CDATA section, and its last
record TwoEnds (mine : List Record) (start stop : ℕ) : Type 0 where
  last : ℕ
  count : length mine ≡ suc last
  begins : Begins mine start 0
  ends : record_end (record_at last mine) ≡ stop

leaf_ends : (x : Leaf) (d at : ℕ) → is_text x ≡ true → TwoEnds (leaf_records (suc d) at x) at (past_leaf at x)
leaf_ends (Leaf.text ps) d at h =
    let n = size (written_pieces ps) in
    let c = first_cut 5 d at n in
    let l = last_cut 5 d at n in
    let stop : record_end (cut 5 d l.len l.offset) ≡ past_leaf at (Leaf.text ps) = omega (arith, l.ends) in
    record { last = full_cuts n; count = length_cuts 5 d at n; begins = begins_at_head (cut_records 5 d at n) at 0 (cut 5 d c.len at) (ap (record_at 0) c.is) (sym (add-zero at)); ends = ap record_end l.is ∙ stop }
leaf_ends (Leaf.cdata cs) d at h =
    let n = size cs in
    let c = first_cut 11 d (at + 9) n in
    let l = last_cut 11 d (at + 9) n in
    let stop : record_end (cut 11 d l.len l.offset) ≡ past_leaf at (Leaf.cdata cs) = omega (arith, l.ends, cdata_size cs) in
    record { last = full_cuts n; count = length_cuts 11 d (at + 9) n; begins = begins_at_head (cut_records 11 d (at + 9) n) at 0 (cut 11 d c.len (at + 9)) (ap (record_at 0) c.is) refl; ends = ap record_end l.is ∙ stop }
leaf_ends (Leaf.comment cs) d at h = absurd (false≢true h)
leaf_ends (Leaf.instruction i) d at h = absurd (false≢true h)
leaf_ends (Leaf.declaration x) d at h = absurd (false≢true h)
leaf_ends (Leaf.doctype x) d at h = absurd (false≢true h)

-- after records of which the last ends at a place, the last of a run from there on
run_end : (xs : List Leaf) (d at : ℕ) (before : List Record) (n : ℕ) → Each (λ x. is_text x ≡ true) xs → length before ≡ suc n → record_end (record_at n before) ≡ at →
    record_end (record_at (n + length (run_records (suc d) at xs)) (before ++ run_records (suc d) at xs)) ≡ past_run at xs
run_end [] d at before n k m h = ap₂ (λ (j : ℕ) (rs : List Record). record_end (record_at j rs)) (add-zero n) (append-nil before) ∙ h
run_end (x ∷ xs) d at before n k m h =
    let mine = leaf_records (suc d) at x in
    let more = run_records (suc d) (past_leaf at x) xs in
    let o = leaf_ends x d at k.0 in
    let there : record_at (length before + o.last) (before ++ mine) ≡ record_at o.last mine = in_place (before ++ mine) before mine [] o.last (sym (append-nil (before ++ mine))) (omega (arith, o.count)) in
    let at_last : n + length mine ≡ length before + o.last = omega (arith, m, o.count) in
    let count : length (before ++ mine) ≡ suc (n + length mine) = omega (arith, length-append before mine, m) in
    let sum : n + length (mine ++ more) ≡ n + length mine + length more = omega (arith, length-append mine more) in
    ap₂ (λ (j : ℕ) (rs : List Record). record_end (record_at j rs)) sum (sym (append_assoc before mine more))
    ∙ run_end xs d (past_leaf at x) (before ++ mine) (n + length mine) k.1 count (ap (λ (j : ℕ). record_end (record_at j (before ++ mine))) at_last ∙ ap record_end there ∙ o.ends)

name_begins : (b : Bool) → opening (cond b 3 2) ≡ 0
name_begins true = refl
name_begins false = refl

-- the first record and the last of a node that is no element
two_ends : (bytes : List ℕ) (rs : List Record) (kind : Kind) (l start stop index past : ℕ) → (kind ≡ kinds.Root → ⊥) → (kind ≡ kinds.Element → ⊥) → Begins rs start index → record_end (record_at (past - 1) rs) ≡ stop →
    SpanShown bytes rs kind l start stop index past
two_ends bytes rs kind l start stop index past r e b s = record { root = λ h. absurd (r h); begins = λ h. b; depth = λ h. absurd (e h); element = λ h. absurd (e h); other = λ h k. s }

run_shown : (bytes : List ℕ) (rs prefix rest : List Record) (head : Leaf) (others : List Leaf) (d start stop index past : ℕ) → rs ≡ prefix ++ run_records (suc d) start (head ∷ others) ++ rest → length prefix ≡ index →
    index + length (run_records (suc d) start (head ∷ others)) ≡ past → Each (λ x. is_text x ≡ true) (head ∷ others) → stop ≡ past_run start (head ∷ others) → SpanShown bytes rs kinds.Text (suc d) start stop index past
run_shown bytes rs prefix rest x others d start stop index past e n p k s =
    let mine = leaf_records (suc d) start x in
    let more = run_records (suc d) (past_leaf start x) others in
    let o = leaf_ends x d start k.0 in
    let some : 0 < length (mine ++ more) = omega (arith, length-append mine more, o.count) in
    let count : length (mine ++ more) ≡ suc (o.last + length more) = omega (arith, length-append mine more, o.count) in
    let first : record_at index rs ≡ record_at 0 mine = first_in rs prefix (mine ++ more) rest index e n some ∙ in_place (mine ++ more) [] mine more 0 refl (omega (arith, o.count)) in
    two_ends bytes rs kinds.Text (suc d) start stop index past (λ h. cc) (λ h. cc) (begins_at_head rs start index (record_at 0 mine) first o.begins)
    (ap record_end (last_in rs prefix (mine ++ more) rest (o.last + length more) index past e n count p) ∙ run_end others d (past_leaf start x) mine o.last k.1 o.count o.ends ∙ sym s)

text_shown : (bytes : List ℕ) (rs prefix rest : List Record) (xs : List Leaf) (l start stop index past : ℕ) → rs ≡ prefix ++ run_records l start xs ++ rest → length prefix ≡ index → index + length (run_records l start xs) ≡ past →
    TextCloses xs l start stop → SpanShown bytes rs kinds.Text l start stop index past
text_shown bytes rs prefix rest xs l start stop index past e n p c =
    let level = c.level in
    let are = c.are in
    let same : run_records l start xs ≡ run_records (suc c.depth) start (c.head ∷ c.others) = ap (λ m. run_records m start xs) level ∙ ap (run_records (suc c.depth) start) are in
    subst (λ m. SpanShown bytes rs kinds.Text m start stop index past) (sym level)
    (run_shown bytes rs prefix rest c.head c.others c.depth start stop index past (e ∙ ap (λ ts. prefix ++ ts ++ rest) same) n (ap (λ ts. index + length ts) (sym same) ∙ p)
    (subst (λ ys. Each (λ x. is_text x ≡ true) ys) are c.texts) (c.ends ∙ ap (past_run start) are))

shown : (bytes : List ℕ) (rs prefix rest : List Record) (what : Thing) (l start stop index past : ℕ) → rs ≡ prefix ++ records_of what l start ++ rest → length prefix ≡ index → index + length (records_of what l start) ≡ past →
    Closes bytes what l start stop → SpanShown bytes rs (kind_of what) l start stop index past
shown bytes rs prefix rest (Thing.root first f) l start stop index past e n p c =
    record { root = λ h. c; begins = λ h. absurd (h refl); depth = λ h. absurd cc; element = λ h. absurd cc; other = λ h k. absurd (h refl) }
shown bytes rs prefix rest (Thing.element t inside) l start stop index past e n p c =
    let mine = tag_records l start t ++ forest_records (suc l) (past_start start t) inside in
    let head : record_at index rs ≡ named 0 l t.name (start + 1) = first_in rs prefix mine rest index e n (omega arith) in
    record {
      root = λ h. absurd cc;
      begins = λ h. begins_at_head rs start index _ head refl;
      depth = λ h. ap (λ r. r.depth) head;
      element = λ h. subst (λ k. IsEnding bytes rs l stop k) (ap (λ k. k + length mine) n ∙ p) (element_ending t inside bytes rs prefix rest l start stop e c);
      other = λ h k. absurd (k refl);
    }
shown bytes rs prefix rest (Thing.attribute a) l start stop index past e n p c =
    two_ends bytes rs kinds.Attribute l start stop index past (λ h. cc) (λ h. cc)
    (begins_at_head rs start index _ (first_in rs prefix _ rest index e n (omega arith)) (sym (ap (λ k. start + k) (name_begins (declares a.name)) ∙ add-zero start)))
    (ap record_end (last_in rs prefix _ rest 1 index past e n refl p) ∙ sym c.0)
shown bytes rs prefix rest (Thing.text xs) l start stop index past e n p c = text_shown bytes rs prefix rest xs l start stop index past e n p c
shown bytes rs prefix rest (Thing.comment cs) l start stop index past e n p c =
    two_ends bytes rs kinds.Comment l start stop index past (λ h. cc) (λ h. cc) (begins_at_head rs start index _ (first_in rs prefix _ rest index e n (omega arith)) refl)
    (ap record_end (last_in rs prefix _ rest 0 index past e n refl p) ∙ omega (arith, c, comment_size cs))
shown bytes rs prefix rest (Thing.instruction i) l start stop index past e n p c =
    two_ends bytes rs kinds.Instruction l start stop index past (λ h. cc) (λ h. cc) (begins_at_head rs start index _ (first_in rs prefix _ rest index e n (omega arith)) refl)
    (ap record_end (last_in rs prefix _ rest 1 index past e n refl p) ∙ omega (arith, c, instruction_size i))

-- of a node of a table
pub record NodeShown (bytes : List ℕ) (rs : List Record) (kind : Kind) (at : ℕ) (e : Entry) : Type 0 where
  pub some : at < e.past
  pub within : e.past ≤ length rs
  pub span : SpanShown bytes rs kind (length e.holders) e.start e.stop at e.past

pub node_shown : (bytes : List ℕ) (lists : Lists) (nest : Forest) → IsNestOf bytes lists nest → (kind : Kind) (at : ℕ) (e : Entry) → Identifies kind at e (nodes_of bytes nest) →
    NodeShown bytes (records nest (first_place bytes)) kind at e
node_shown bytes lists nest s kind at e w =
    let first = first_place bytes in
    let rs = records nest first in
    let d = s.accepted.document in
    let r : HasRecords rs e = records_of_node nest first d.nests e w.0 in
    let c : ClosesIn bytes e = each_at (ClosesIn bytes) (all nest first) e (all_close bytes nest d) w.0 in
    let mine = records_of e.what (length e.holders) e.start in
    let some : e.index < e.past = each_at (λ x. x.index < x.past) (all nest first) e (all_some nest first) w.0 in
    let total : length rs ≡ length r.prefix + length mine + length r.rest =
    ap length r.split ∙ length-append (r.prefix ++ mine) r.rest ∙ ap (λ k. k + length r.rest) (length-append r.prefix mine) in
    let span : SpanShown bytes rs (kind_of e.what) (length e.holders) e.start e.stop e.index e.past = shown bytes rs r.prefix r.rest e.what (length e.holders) e.start e.stop e.index e.past r.split r.begins r.stops c in
    record {
      some = subst (λ k. k < e.past) w.2 some;
      within = omega (arith, total, r.begins, r.stops);
      span = subst (λ k. SpanShown bytes rs k (length e.holders) e.start e.stop at e.past) w.1 (subst (λ k. SpanShown bytes rs (kind_of e.what) (length e.holders) e.start e.stop k e.past) w.2 span);
    }
