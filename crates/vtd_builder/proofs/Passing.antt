-- End tags and texts of an accepted document: the byte that ends them says where they end.
use Rattle.std.proofs.Common.{◌≡◌, ℕ, zero, suc, ◌+◌, ◌-◌, ◌≤◌, true, false, List, [], ◌∷◌, ◌++◌, length, drop, refl, sym, ap, subst, ◌∙◌, arith, append_assoc}
use Rattle.std.specs.Prelude.{codes, ◌&&◌, ◌==◌, not}
use Rattle.std.specs.List.{list_all, prefix_len}
use Rattle.std.proofs.lemmas.Bool.{and_parts}
use Rattle.std.proofs.lemmas.List.{append-nil, drop-drop}
use lib.Utf8.{encode, encodes}
use Rattle.xml_model.specs.Chars.{size, lacks, begins, in_ranges, is_char, is_space, is_blank, is_name, is_name_start, is_name_char}
use Rattle.xml_model.specs.Items.{Piece, literal, Leaf, text, cdata, declaration, doctype, Item, leaf, start_tag, empty_tag, end_tag, written, written_pieces, meets, meets_piece, is_nil, begins_at, spelling, ends_well, may_begin_at, first_place}
use Rattle.xml_model.specs.Records.{Record, cut_records, depth_at, text_records}
use Rattle.xml_chars.proofs.HoldLemmas.{size-append}
use Rattle.xml_items.specs.Shown.{leaf_kind, item_kind}
use Rattle.xml_items.proofs.SpanLemmas.{spelled}
use Rattle.xml_chars.proofs.Readers.{begins_split}
use Rattle.xml_acceptance.specs.Machine.{item_records, level_after, one_less}
use Rattle.vtd_builder.specs.declared.offers.Beginning.TheVariants as beginnings
use Rattle.vtd_builder.specs.Found.{cuts_of}
use Rattle.vtd_builder.specs.Cuts.{is_other, Placed, beginning_of}
use Rattle.vtd_builder.proofs.Placed.{placed_back, placed_as}
use Rattle.vtd_builder.proofs.Recorded.{item_placed}
use Rattle.vtd_builder.proofs.Counted.{begun_meets}
use Rattle.vtd_builder.proofs.Cutting.{Apart, full_run, all_of, append_all, name_other, pieces_other, other_bytes, other_run, space_low, one_byte, no_62}

-- ---- end tags

space_other : (c : ℕ) → is_space c ≡ true → is_other 62 c ≡ true
space_other c h = let l = space_low c h in grind (arith, l)

end_split : (n sp : List ℕ) → codes "</" ++ n ++ sp ++ codes ">" ≡ codes "</" ++ ((n ++ sp) ++ codes ">")
end_split n sp = simp append_assoc

size_open : size (codes "</") ≡ 2
unfolding size encode
size_open = refl

-- where the end tag at a place ends, and how many elements are open after it; it has no record
pub record EndFacts (bytes : List ℕ) (at level : ℕ) (i : Item) : Type 0 where
  pub first : at + 2 ≤ length bytes
  pub past : at + length (spelling i) ≡ at + 2 + prefix_len (is_other 62) (drop (at + 2) bytes) + 1
  pub tokens : ◌≡◌ {A = List Record} (item_records level at i) []
  pub inside : level_after i level ≡ level - 1

one_less_is : (level : ℕ) → one_less level ≡ level - 1
one_less_is zero = refl
one_less_is (suc n) = omega arith

no_leaf_ends : (x : Leaf) → beginning_of (leaf_kind x) ≡ beginnings.EndTag → ⊥
no_leaf_ends (text ps) h = cc
no_leaf_ends (cdata cs) h = cc
no_leaf_ends (Leaf.comment cs) h = cc
no_leaf_ends (Leaf.instruction i) h = cc
no_leaf_ends (declaration d) h = cc
no_leaf_ends (doctype d) h = cc

pub end_facts : (i : Item) (bytes : List ℕ) (at level : ℕ) → at ≤ length bytes → begins_at bytes at i ≡ true → beginning_of (item_kind i) ≡ beginnings.EndTag → EndFacts bytes at level i
unfolding meets is_blank
end_facts (leaf x) bytes at level within h k = absurd (no_leaf_ends x k)
end_facts (start_tag t) bytes at level within h k = absurd cc
end_facts (empty_tag t) bytes at level within h k = absurd cc
end_facts (end_tag name space) bytes at level within h k =
    let m = and_parts (is_name name) (list_all is_space space) (begun_meets bytes at (end_tag name space) h) in
    let inner = append_all (is_other 62) name space (name_other 62 name no_62 m.0) (all_of is_space (is_other 62) space_other space m.1) in
    let here = placed_as bytes at (written (end_tag name space)) (codes "</" ++ ((name ++ space) ++ codes ">")) (end_split name space) (item_placed bytes at (end_tag name space) within h) in
    let p : Placed bytes (at + 2) ((name ++ space) ++ codes ">") = subst (λ (n : ℕ). Placed bytes (at + n) ((name ++ space) ++ codes ">")) size_open (placed_back bytes at (codes "</") ((name ++ space) ++ codes ">") here) in
    let run = other_run bytes (at + 2) 62 (name ++ space) [] (omega arith) inner p in
    let s1 : size (written (end_tag name space)) ≡ size (codes "</" ++ ((name ++ space) ++ codes ">")) = ap size (end_split name space) in
    let s2 = size-append (codes "</") ((name ++ space) ++ codes ">") in
    let s3 = size-append (name ++ space) (codes ">") in
    record {
      first = p.within;
      past = omega (arith, run, spelled (end_tag name space), s1, s2, s3, size_open, one_byte 62 (omega arith));
      tokens = refl;
      inside = one_less_is level;
    }

-- ---- texts

no_60 : is_name_char 60 ≡ false
unfolding is_name_char is_name_start in_ranges
no_60 = refl

less_apart : Apart 60
less_apart = record { low = omega arith; name = no_60; digit = refl; hexadecimal_digit = refl; entity_mark = refl; decimal_mark = refl; hexadecimal_mark = refl; last = refl }

text_literal : (c : ℕ) → meets_piece (λ c. false) (literal c) ≡ true → is_other 60 c ≡ true
text_literal c h =
    let a = and_parts (is_char c && not (c == 60) && not (c == 38)) (not false) h in
    let b = and_parts (is_char c && not (c == 60)) (not (c == 38)) a.0 in
    (and_parts (is_char c) (not (c == 60)) b.0).1

-- a text runs to the next < or to the end
run_well : (ps : List Piece) (more : List ℕ) → prefix_len (is_other 60) (encodes (written_pieces ps)) ≡ length (encodes (written_pieces ps)) → ends_well (leaf (text ps)) more ≡ true
    → prefix_len (is_other 60) (encodes (written_pieces ps) ++ more) ≡ length (encodes (written_pieces ps))
run_well ps [] e h = ap (prefix_len (is_other 60)) (append-nil (encodes (written_pieces ps))) ∙ e
run_well ps (b ∷ more) e h = full_run (is_other 60) (encodes (written_pieces ps)) b more e (ap not h)

pub record TextFacts (bytes : List ℕ) (at level : ℕ) (i : Item) : Type 0 where
  pub run : prefix_len (is_other 60) (drop at bytes) ≡ length (spelling i)
  pub tokens : item_records level at i ≡ text_records level (cuts_of 5 (depth_at level) record { start = at; end = at + length (spelling i) })
  pub inside : level_after i level ≡ level

text_run : (ps : List Piece) (bytes : List ℕ) (at : ℕ) → begins_at bytes at (leaf (text ps)) ≡ true → list_all (is_other 60) (written_pieces ps) ≡ true → prefix_len (is_other 60) (drop at bytes) ≡ length (spelling (leaf (text ps)))
unfolding begins_at spelling
text_run ps bytes at h o =
    let i = leaf (text ps) in
    let x = and_parts (meets i && begins (spelling i) (drop at bytes) && ends_well i (drop (at + length (spelling i)) bytes)) (may_begin_at i (first_place bytes) at) h in
    let y = and_parts (meets i && begins (spelling i) (drop at bytes)) (ends_well i (drop (at + length (spelling i)) bytes)) x.0 in
    let z = and_parts (meets i) (begins (spelling i) (drop at bytes)) y.0 in
    let split : drop at bytes ≡ encodes (written_pieces ps) ++ drop (at + length (spelling i)) bytes =
    begins_split (spelling i) (drop at bytes) z.1 ∙ ap (λ (l : List ℕ). encodes (written_pieces ps) ++ l) (drop-drop (length (spelling i)) at bytes) in
    ap (prefix_len (is_other 60)) split ∙ run_well ps (drop (at + length (spelling i)) bytes) (other_bytes 60 (written_pieces ps) (omega arith) o) y.1

same_len : (at n : ℕ) → n ≡ at + n - at
same_len at n = omega arith

text_facts_of : (ps : List Piece) (bytes : List ℕ) (at level : ℕ) → begins_at bytes at (leaf (text ps)) ≡ true → TextFacts bytes at level (leaf (text ps))
unfolding meets
text_facts_of ps bytes at level h =
    let i = leaf (text ps) in
    let m = and_parts (not (is_nil (written_pieces ps)) && list_all (meets_piece (λ c. false)) ps) (lacks (codes "]]>") (written_pieces ps)) (begun_meets bytes at i h) in
    let n = and_parts (not (is_nil (written_pieces ps))) (list_all (meets_piece (λ c. false)) ps) m.0 in
    let end : size (written_pieces ps) ≡ length (spelling i) = sym (spelled i) in
    record {
      run = text_run ps bytes at h (pieces_other 60 (λ c. false) less_apart text_literal ps n.1);
      tokens = ap (λ (m : ℕ). text_records level (cut_records 5 (depth_at level) at m)) (same_len at (size (written_pieces ps))
          ∙ ap (λ (m : ℕ). at + m - at) end);
      inside = refl;
    }

pub text_facts : (i : Item) (bytes : List ℕ) (at level : ℕ) → begins_at bytes at i ≡ true → beginning_of (item_kind i) ≡ beginnings.Text → TextFacts bytes at level i
text_facts (leaf (text ps)) bytes at level h k = text_facts_of ps bytes at level h
text_facts (leaf (cdata cs)) bytes at level h k = absurd cc
text_facts (leaf (Leaf.comment cs)) bytes at level h k = absurd cc
text_facts (leaf (Leaf.instruction i)) bytes at level h k = absurd cc
text_facts (leaf (declaration d)) bytes at level h k = absurd cc
text_facts (leaf (doctype d)) bytes at level h k = absurd cc
text_facts (start_tag t) bytes at level h k = absurd cc
text_facts (empty_tag t) bytes at level h k = absurd cc
text_facts (end_tag name space) bytes at level h k = absurd cc

-- the records of a text that ends at a place
abbrev pub text_span : ℕ → ℕ → ℕ → List Record
text_span level at end = cuts_of 5 (depth_at level) record { start = at; end = end }

-- the records of a text, where an element holds it
pub text_none : (level : ℕ) (rs : List Record) → level ≡ 0 → text_records level rs ≡ []
text_none zero rs h = refl
text_none (suc d) rs h = absurd (omega arith)

pub text_some : (level : ℕ) (rs : List Record) → (level ≡ 0 → ⊥) → text_records level rs ≡ rs
text_some zero rs h = absurd (h refl)
text_some (suc d) rs h = refl

-- all that is known of a text once its end is found
pub record Ended (bytes : List ℕ) (at level end : ℕ) (i : Item) : Type 0 where
  pub place : end ≡ at + length (spelling i)
  pub tokens : item_records level at i ≡ text_records level (text_span level at end)
  pub inside : level_after i level ≡ level

pub ended_of : (i : Item) (bytes : List ℕ) (at level end : ℕ) → begins_at bytes at i ≡ true → beginning_of (item_kind i) ≡ beginnings.Text → end ≡ at + prefix_len (is_other 60) (drop at bytes) → Ended bytes at level end i
ended_of i bytes at level end b k e =
    let f = text_facts i bytes at level b k in
    let p : end ≡ at + length (spelling i) = e ∙ ap (λ (n : ℕ). at + n) f.run in
    record { place = p; tokens = f.tokens ∙ ap (λ (n : ℕ). text_records level (text_span level at n)) (sym p); inside = f.inside }
