-- A document and its words fit into an index file.
use Rattle.std.specs.List.{AllByRecursion as Each}
use Rattle.std.proofs.Common.{◌≡◌, ℕ, suc, ◌+◌, ◌*◌, ◌^◌, ◌<◌, ◌≤◌, Bool, true, false, cond, ◌&&◌, ◌==◌, nat_lt, List, [], ◌∷◌, map}
use Rattle.std.proofs.Common.{length, refl, ap, arith}
use Rattle.std.proofs.lemmas.Bool.{and_parts, ltb-true}
use Rattle.xml_model.specs.Accepted.{Accepted, is_name_token}
use Rattle.xml_model.specs.Items.{first_place}
use Rattle.xml_model.specs.Levels.{child_position, if_tag_of, is_tag, level_word, levels, levels_one, record_level, tags_from}
use Rattle.xml_model.specs.Nest.{Forest}
use Rattle.xml_model.specs.Records.{Record, records, word}
use Rattle.xml_model.proofs.Each.{each_append, each_more}
use Rattle.xml_model.proofs.TagCounts.{count_within}
use Rattle.xml_acceptance.proofs.HalfLaws.{document_half}
use Rattle.vtd_words.specs.Packed.{fits, length_fits}
use Rattle.vtd_words.specs.Table.{parts_of_record}
use Rattle.vtd_words.proofs.Fitting.{nest_shown}
use Rattle.vtd_words.proofs.Shown.{map_length}
use Rattle.vtd_location.proofs.ChildrenOf.{position_small}
use Rattle.vtd_location.proofs.NavLaws.{fewer_layers}
use Rattle.vtd_builder.specs.Documents.{words_of}
use Rattle.vtd_index.specs.Holding.{Fit, CanHold}
use Rattle.vtd_index.specs.declared.head.Version.{Version}
use Rattle.vtd_index.specs.declared.head.Version.TheVariants.{One, Two}
use Rattle.vtd_index.proofs.Versions.{words_by, words_one}

-- the length of a record, and that of its prefix, have 20 bits in all
wide_fits : (prefix len : ℕ) (name : Bool) → cond name (nat_lt prefix (2 ^ 9) && nat_lt len (2 ^ 11)) (prefix == 0 && nat_lt len (2 ^ 20)) ≡ true
    → prefix * 2 ^ 11 + len < 2 ^ 20
wide_fits prefix len true e =
    let p = and_parts (nat_lt prefix (2 ^ 9)) (nat_lt len (2 ^ 11)) e in
    let a = ltb-true prefix (2 ^ 9) p.0 in
    let b = ltb-true len (2 ^ 11) p.1 in
    omega arith
wide_fits prefix len false e =
    let p = and_parts (prefix == 0) (nat_lt len (2 ^ 20)) e in
    let a : prefix ≡ 0 = grind (arith, p.0) in
    let b = ltb-true len (2 ^ 20) p.1 in
    omega arith

word_fits : (r : Record) → fits (parts_of_record r) ≡ true → word r < 256 ^ 8
unfolding word
word_fits r h =
    let parts = parts_of_record r in
    let p = and_parts (nat_lt r.token (2 ^ 4) && nat_lt r.depth (2 ^ 8) && nat_lt r.offset (2 ^ 30)) (length_fits parts) h in
    let q = and_parts (nat_lt r.token (2 ^ 4) && nat_lt r.depth (2 ^ 8)) (nat_lt r.offset (2 ^ 30)) p.0 in
    let t = and_parts (nat_lt r.token (2 ^ 4)) (nat_lt r.depth (2 ^ 8)) q.0 in
    let a = ltb-true r.token (2 ^ 4) t.0 in
    let b = ltb-true r.depth (2 ^ 8) t.1 in
    let c = ltb-true r.offset (2 ^ 30) q.1 in
    let d = wide_fits r.prefix r.len (is_name_token r.token) p.1 in
    omega arith

each_word : (rs : List Record) → Each (λ r. fits (parts_of_record r) ≡ true) rs → Each (λ w. w < 256 ^ 8) (map word rs)
each_word [] h = h
each_word (r ∷ rs) h = (word_fits r h.0, each_word rs h.1)

-- the tags of a level are among the records
one_below : (b : Bool) (n m : ℕ) → n < m → Each (λ t. t < m) (cond b (n ∷ []) [])
one_below true n m h = (h, tt)
one_below false n m h = tt

tags_below : (k n m : ℕ) (rs : List Record) → n + length rs ≤ m → Each (λ t. t < m) (tags_from k n rs)
tags_below k n m [] h = tt
tags_below k n m (r ∷ rs) h =
    each_append (λ (t : ℕ). t < m) (if_tag_of k n r) (tags_from k (suc n) rs) (one_below (is_tag r && r.depth == k) n m (omega arith))
    (tags_below k (suc n) m rs (omega arith))

-- the entries of a level
entry_fits : (t c : ℕ) → t < 2 ^ 32 → c < 2 ^ 32 → level_word (t, c) < 256 ^ 8
unfolding level_word
entry_fits t c a b = omega arith

each_entry : (child : ℕ → ℕ) (ts : List ℕ) → ((t : ℕ) → child t < 2 ^ 32) → Each (λ t. t < 2 ^ 32) ts
    → Each (λ w. w < 256 ^ 8) (map level_word (map (λ t. (t, child t)) ts))
each_entry child [] c h = tt
each_entry child (t ∷ ts) c h = (entry_fits t (child t) h.0 (c t), each_entry child ts c h.1)

length_entries : (child : ℕ → ℕ) (ts : List ℕ) → length (map level_word (map (λ t. (t, child t)) ts)) ≡ length ts
length_entries child [] = refl
length_entries child (t ∷ ts) = ap suc (length_entries child ts)

level_fits : (k : ℕ) (rs : List Record) → length rs < 2 ^ 32 → Fit 8 (map level_word (record_level k rs))
unfolding record_level
level_fits k rs few = record {
  each = each_entry (child_position k rs) (tags_from k 0 rs) (λ t. position_small k rs t few) (tags_below k 0 (2 ^ 32) rs (omega arith));
  few = let l = length_entries (child_position k rs) (tags_from k 0 rs) in let w = count_within k 0 rs in omega arith;
}

last_fits : (k : ℕ) (rs : List Record) → length rs < 2 ^ 32 → Fit 4 (tags_from k 0 rs)
last_fits k rs few = record {
  each = each_more (λ (t : ℕ). t < 2 ^ 32) (λ (w : ℕ). w < 256 ^ 4) (λ t h. omega arith) (tags_from k 0 rs) (tags_below k 0 (2 ^ 32) rs (omega arith));
  few = let w = count_within k 0 rs in omega arith;
}

few_records : (bytes : List ℕ) (nest : Forest) → length bytes < 2 ^ 30 → Accepted 8 bytes nest → length (records nest (first_place bytes)) < 2 ^ 30
few_records bytes nest few a = let h = document_half bytes nest a.document in omega arith

pub can_hold : (bytes : List ℕ) (nest : Forest) → length bytes < 2 ^ 30 → Accepted 8 bytes nest → CanHold bytes (words_of bytes nest)
unfolding levels
can_hold bytes nest few a =
    let rs = records nest (first_place bytes) in
    let low = few_records bytes nest few a in
    let small : length rs < 2 ^ 32 = omega arith in
    let shown = nest_shown bytes (words_of bytes nest) nest few (record { accepted = fewer_layers 8 bytes nest a; recorded = refl }) in
    record {
      few = few;
      records = record { each = each_word rs shown.fit; few = let l = map_length rs in omega arith };
      level1 = level_fits 1 rs small;
      level2 = level_fits 2 rs small;
      level3 = level_fits 3 rs small;
      level4 = level_fits 4 rs small;
      level5 = last_fits 5 rs small;
    }

none_fit : Fit 8 []
none_fit = record { each = tt; few = omega arith }

pub can_hold_one : (bytes : List ℕ) (nest : Forest) → length bytes < 2 ^ 30 → Accepted 8 bytes nest → CanHold bytes (words_one bytes nest)
unfolding levels_one
can_hold_one bytes nest few a =
    let rs = records nest (first_place bytes) in
    let low = few_records bytes nest few a in
    let small : length rs < 2 ^ 32 = omega arith in
    let both = can_hold bytes nest few a in
    record {
      few = few;
      records = both.records;
      level1 = level_fits 1 rs small;
      level2 = level_fits 2 rs small;
      level3 = none_fit;
      level4 = none_fit;
      level5 = last_fits 3 rs small;
    }

pub can_by : (v : Version) (bytes : List ℕ) (nest : Forest) → length bytes < 2 ^ 30 → Accepted 8 bytes nest → CanHold bytes (words_by v bytes nest)
can_by One bytes nest few a = can_hold_one bytes nest few a
can_by Two bytes nest few a = can_hold bytes nest few a
