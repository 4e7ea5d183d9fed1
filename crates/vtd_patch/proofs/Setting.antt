-- A text node of a document with its words is set: what the exchange of bytes and words asks for, and the refusal of the new bytes.
use Rattle.std.proofs.Common.{◌≡◌, ℕ, zero, suc, ◌+◌, ◌*◌, ◌<◌, ◌≤◌, ◌^◌, Bool, true, false, List, [], ◌∷◌, ◌++◌, map, length, take}
use Rattle.std.proofs.Common.{drop}
use Rattle.std.proofs.Common.{refl, sym, ap, ap₂, subst, ◌∙◌, arith, append-nil, length-append, ◌&&◌}
use Rattle.std.specs.Prelude.{Contains, IsUtf8, fold, ◌==◌}
use Rattle.std.specs.Str.{chars}
use Rattle.std.specs.List.{list_all}
use lib.Utf8.{scalars}
use Rattle.std.proofs.lemmas.Bool.{ne_eqb}
use Rattle.std.proofs.lemmas.List.{length-map}
use Rattle.std.proofs.lemmas.Str.{scalars-chars, length-le-encodes}
use Rattle.xml_model.specs.declared.DocFault.TheVariants as faults
use Rattle.xml_model.specs.Chars.{is_char, size}
use Rattle.xml_model.specs.Items.{Piece, literal, entity, decimal, hexadecimal, Leaf, first_place, written_piece, written_pieces}
use Rattle.xml_model.specs.Nest.{Forest}
use Rattle.xml_model.specs.Records.{Record, records, word, run_records, cut_records}
use Rattle.xml_model.specs.Tree.{Thing, Entry, all, is_text}
use Rattle.xml_model.specs.Accepted.{Accepted, IsRefusal}
use Rattle.xml_model.proofs.Each.{each_right, each_more}
use Rattle.xml_acceptance.proofs.HalfLaws.{document_half}
use Rattle.xml_nests.specs.Moved.{moved}
use Rattle.xml_patches.specs.Edited.{in_text, set_text}
use Rattle.xml_patches.specs.Patched.{exchanged, text_bytes, set_end, old_run, new_run, TextPatched}
use Rattle.xml_patches.proofs.Tagless.{run_tagless, set_tagless}
use Rattle.xml_patches.proofs.TextNode.{text_stand, text_node_patched}
use Rattle.xml_patches.proofs.Walked.{text_node_refused}
use Rattle.vtd_words.specs.Lists.{Lists}
use Rattle.vtd_words.specs.Table.{parts_of_record}
use Rattle.vtd_words.specs.Packed.{fits}
use Rattle.vtd_words.proofs.Fitting.{nest_shown}
use Rattle.vtd_words.proofs.Shown.{map_length}
use Rattle.vtd_location.proofs.NavLaws.{fewer_layers}
use Rattle.vtd_builder.specs.Documents.{words_of}
use Rattle.vtd_patch.specs.Changes.{both, text_run, CanExchange}
use Rattle.vtd_patch.proofs.Moves.{Low, low_offset}
use Rattle.vtd_patch.proofs.Words.{all_words, Exchange, exchanged_words, can_shift_rest, can_renumber_all}

-- ---- Chars

all_both : (b : Bool) (cs : List ℕ) → fold both b cs ≡ (b && list_all is_char cs)
all_both true [] = refl
all_both false [] = refl
all_both true (c ∷ cs) = all_both (is_char c) cs
all_both false (c ∷ cs) = all_both false cs

-- whether all are Chars
pub chars_by : (cs : List ℕ) → fold both true cs ≡ list_all is_char cs
chars_by cs = all_both true cs

-- a first character that is none
pub record FirstBad (cs : List ℕ) : Type 0 where
  pub good : List ℕ
  pub bad : ℕ
  pub more : List ℕ
  pub split : cs ≡ good ++ bad ∷ more
  pub all_good : list_all is_char good ≡ true
  pub is_bad : is_char bad ≡ false

first_bad_by : (c : ℕ) (cs : List ℕ) (b : Bool) → is_char c ≡ b → (list_all is_char cs ≡ false → FirstBad cs) →
    (b && list_all is_char cs) ≡ false → FirstBad (c ∷ cs)
first_bad_by c cs true t more h =
    let r = more h in
    record {
      good = c ∷ r.good;
      bad = r.bad;
      more = r.more;
      split = ap (λ (l : List ℕ). c ∷ l) r.split;
      all_good = ap₂ (λ (a b : Bool). a && b) t r.all_good;
      is_bad = r.is_bad;
    }
first_bad_by c cs false f more h = record { good = []; bad = c; more = cs; split = refl; all_good = refl; is_bad = f }

first_bad : (cs : List ℕ) → list_all is_char cs ≡ false → FirstBad cs
first_bad [] h = absurd cc
first_bad (c ∷ cs) h = first_bad_by c cs (is_char c) refl (first_bad cs) h

-- ---- what an exchange asks for

length_three : (a b z : List Record) → length (a ++ (b ++ z)) ≡ length a + length b + length z
length_three a b z = length-append a (b ++ z) ∙ ap (λ (m : ℕ). length a + m) (length-append b z) ∙ omega arith

-- the offsets of the records of a document
offsets_low : (bytes : List ℕ) (nest : Forest) → Accepted 8 bytes nest → length bytes < 2 ^ 30 → Low (records nest (first_place bytes))
offsets_low bytes nest a small =
    let s = nest_shown bytes (words_of bytes nest) nest small (record { accepted = fewer_layers 8 bytes nest a; recorded = refl }) in
    each_more (λ r. fits (parts_of_record r) ≡ true) (λ r. r.offset < 2 ^ 30) low_offset (records nest (first_place bytes)) s.fit

rest_low : (a b z : List Record) → Low (a ++ (b ++ z)) → Low z
rest_low a b z h = each_right (λ r. r.offset < 2 ^ 30) b z (each_right (λ r. r.offset < 2 ^ 30) a (b ++ z) h)

new_are : (bytes : List ℕ) (nest : Forest) (e : Entry) (xs : List Leaf) (cs : List ℕ) (p : TextPatched 8 bytes nest e xs cs) →
    records p.new (first_place (exchanged bytes e.start e.stop (text_bytes cs)))
    ≡ p.before ++ (new_run e cs ++ map (moved e.stop (set_end e cs)) p.rest)
new_are bytes nest e xs cs p = ap (records p.new) p.first ∙ p.are

text_exchange_of : (bytes : List ℕ) (nest : Forest) (e : Entry) (xs : List Leaf) (cs : List ℕ) (p : TextPatched 8 bytes nest e xs cs) →
    Accepted 8 bytes nest → length bytes < 2 ^ 30 → length (exchanged bytes e.start e.stop (text_bytes cs)) < 2 ^ 30 → e.start ≤ e.stop →
    list_all is_text xs ≡ true → Exchange p.before (old_run e xs) (new_run e cs) p.rest e.start e.stop (length (text_bytes cs))
text_exchange_of bytes nest e xs cs p a small short o texts =
    let nb = exchanged bytes e.start e.stop (text_bytes cs) in
    let after = map (moved e.stop (set_end e cs)) p.rest in
    let old_half : 2 * length (records nest (first_place bytes)) ≤ length bytes = document_half bytes nest a.document in
    let old_length : length (records nest (first_place bytes)) ≡ length p.before + length (old_run e xs) + length p.rest =
    ap (λ (l : List Record). length l) p.were ∙ length_three p.before (old_run e xs) p.rest in
    let new_half : 2 * length (records p.new (first_place nb)) ≤ length nb = document_half nb p.new p.accepted.document in
    let new_length : length (records p.new (first_place nb)) ≡ length p.before + length (new_run e cs) + length after =
    ap (λ (l : List Record). length l) (new_are bytes nest e xs cs p) ∙ length_three p.before (new_run e cs) after in
    let same : length after ≡ length p.rest = length-map p.rest (moved e.stop (set_end e cs)) in
    record {
      order = o;
      further = p.further;
      old_low = rest_low p.before (old_run e xs) p.rest (subst Low p.were (offsets_low bytes nest a small));
      new_low = rest_low p.before (new_run e cs) after (subst Low (new_are bytes nest e xs cs p) (offsets_low nb p.new p.accepted short));
      old_plain = run_tagless (length e.holders) e.start xs texts;
      new_plain = set_tagless (length e.holders) e.start cs;
      old_few = omega (arith, old_half, old_length, small);
      new_few = omega (arith, new_half, new_length, short, same);
    }

few_new : (bytes : List ℕ) (nest : Forest) (e : Entry) (xs : List Leaf) (cs : List ℕ) (p : TextPatched 8 bytes nest e xs cs) →
    length (exchanged bytes e.start e.stop (text_bytes cs)) < 2 ^ 30 → length (new_run e cs) < 2 ^ 30
few_new bytes nest e xs cs p short =
    let nb = exchanged bytes e.start e.stop (text_bytes cs) in
    let after = map (moved e.stop (set_end e cs)) p.rest in
    let half : 2 * length (records p.new (first_place nb)) ≤ length nb = document_half nb p.new p.accepted.document in
    let long : length (records p.new (first_place nb)) ≡ length p.before + length (new_run e cs) + length after =
    ap (λ (l : List Record). length l) (new_are bytes nest e xs cs p) ∙ length_three p.before (new_run e cs) after in
    omega (arith, half, long, short)

-- over the parts of the records
can_by_parts : (bytes : List ℕ) (nest : Forest) (e : Entry) (xs : List Leaf) (cs : List ℕ) (p : TextPatched 8 bytes nest e xs cs) →
    Exchange p.before (old_run e xs) (new_run e cs) p.rest e.start e.stop (length (text_bytes cs)) →
    length (exchanged bytes e.start e.stop (text_bytes cs)) < 2 ^ 30 → e.stop ≤ length bytes →
    CanExchange bytes (all_words (p.before ++ (old_run e xs ++ p.rest))) e.start e.stop (text_bytes cs) (length p.before)
    (length p.before + length (old_run e xs)) (map word (new_run e cs))
can_by_parts bytes nest e xs cs p x short inside =
    let a = p.before in
    let b = old_run e xs in
    let c = new_run e cs in
    let z = p.rest in
    let n = length (text_bytes cs) in
    let nb = exchanged bytes e.start e.stop (text_bytes cs) in
    let old_length : length (map word (a ++ (b ++ z))) ≡ length a + length b + length z =
    map_length (a ++ (b ++ z)) ∙ length_three a b z in
    let new_length : length (map word c) ≡ length c = map_length c in
    let l = length-append (take e.start bytes) (text_bytes cs ++ drop e.stop bytes) in
    let m = length-append (text_bytes cs) (drop e.stop bytes) in
    record {
      range = x.order;
      inside = inside;
      order = omega arith;
      small = omega (arith, l, m, short);
      within = omega (arith, old_length);
      few = omega (arith, few_new bytes nest e xs cs p short, new_length);
      fewer = omega (arith, old_length, new_length, x.new_few);
      offsets = can_shift_rest a b c z e.start e.stop n x;
      indexes = can_renumber_all a b c z e.start e.stop n x;
      document = record {
        few = short;
        nest = p.new;
        accepted = p.accepted;
        recorded = exchanged_words a b c z e.start e.stop n x ∙ ap all_words (sym (new_are bytes nest e xs cs p));
      };
    }

-- over the node
can_by_node : (bytes : List ℕ) (lists : Lists) (nest : Forest) (e : Entry) (xs : List Leaf) (cs : List ℕ) (p : TextPatched 8 bytes nest e xs cs) →
    lists ≡ words_of bytes nest → CanExchange bytes (all_words (p.before ++ (old_run e xs ++ p.rest))) e.start e.stop (text_bytes cs)
    (length p.before) (length p.before + length (old_run e xs)) (map word (new_run e cs)) →
    CanExchange bytes lists e.start e.stop (text_bytes cs) e.index e.past (map word (new_run e cs))
can_by_node bytes lists nest e xs cs p is h =
    let w = map word (new_run e cs) in
    let t = text_bytes cs in
    let one = subst (λ (l : Lists). CanExchange bytes l e.start e.stop t (length p.before) (length p.before + length (old_run e xs)) w)
    (ap all_words (sym p.were) ∙ sym is) h in
    let two = subst (λ (i : ℕ). CanExchange bytes lists e.start e.stop t i (length p.before + length (old_run e xs)) w) (sym p.index) one in
    subst (λ (i : ℕ). CanExchange bytes lists e.start e.stop t e.index i w) (sym p.past) two

-- the law: where a text of Chars is put in, the exchange can be made
pub can_set : (bytes : List ℕ) (lists : Lists) (nest : Forest) (e : Entry) (xs : List Leaf) (cs : List ℕ) → Accepted 8 bytes nest →
    lists ≡ words_of bytes nest → Contains (all nest (first_place bytes)) e → e.what ≡ Thing.text xs → length bytes < 2 ^ 30 →
    length (exchanged bytes e.start e.stop (text_bytes cs)) < 2 ^ 30 → e.start ≤ e.stop → e.stop ≤ length bytes → list_all is_char cs ≡ true →
    CanExchange bytes lists e.start e.stop (text_bytes cs) e.index e.past (map word (new_run e cs))
can_set bytes lists nest e xs cs a is there w small short o inside good =
    let p = text_node_patched 8 bytes nest e xs cs a there w good in
    let s = text_stand nest (first_place bytes) e xs there w in
    let x = text_exchange_of bytes nest e xs cs p a small short o s.texts in
    can_by_node bytes lists nest e xs cs p is (can_by_parts bytes nest e xs cs p x short inside)

-- ---- the records of the text

held_run : (d at n : ℕ) → 1 ≤ n → text_run (suc d) at n ≡ cut_records 5 d at n
held_run d at n k = let f : (n == 0) ≡ false = ne_eqb n 0 (λ z. omega (arith, z, k)) in rw f refl

written_some : (p : Piece) → 1 ≤ length (written_piece p)
written_some (literal c) = omega arith
written_some (entity name) = omega arith
written_some (decimal ds) = omega arith
written_some (hexadecimal ds) = omega arith

some_bytes : (c : ℕ) (cs : List ℕ) → 1 ≤ length (text_bytes (c ∷ cs))
some_bytes c cs =
    let l = length-le-encodes (written_pieces (map in_text (c ∷ cs))) in
    let m = length-append (written_piece (in_text c)) (written_pieces (map in_text cs)) in
    omega (arith, l, m, written_some (in_text c))

-- those that are put in
pub set_run : (l at : ℕ) (cs : List ℕ) → 1 ≤ l → run_records l at (set_text cs) ≡ text_run l at (length (text_bytes cs))
unfolding size
set_run l at [] h = refl
set_run zero at (c ∷ cs) h = absurd (omega (arith, h))
set_run (suc d) at (c ∷ cs) h =
    let n = length (text_bytes (c ∷ cs)) in append-nil (cut_records 5 d at n) ∙ sym (held_run d at n (some_bytes c cs))

-- ---- the refusal

-- the law: where a text with another character is put in, the bytes are refused at its start
pub set_refused : (bytes : List ℕ) (nest : Forest) (e : Entry) (xs : List Leaf) (text : List ℕ) → Accepted 8 bytes nest →
    Contains (all nest (first_place bytes)) e → e.what ≡ Thing.text xs → IsUtf8 text → list_all is_char (chars text) ≡ false →
    IsRefusal (exchanged bytes e.start e.stop (text_bytes (chars text))) (faults.Syntax e.start)
set_refused bytes nest e xs text a there w u h =
    let b = first_bad (chars text) h in
    let s : scalars (b.good ++ b.bad ∷ b.more) ≡ true = ap scalars (sym b.split) ∙ scalars-chars text u in
    subst (λ (cs : List ℕ). IsRefusal (exchanged bytes e.start e.stop (text_bytes cs)) (faults.Syntax e.start)) (sym b.split)
    (text_node_refused 8 bytes nest e xs b.good b.more b.bad a there w s b.all_good b.is_bad)
