-- The records of an item are those of the places where it is found.
use Rattle.std.proofs.Common.{◌≡◌, ℕ, ◌+◌, ◌-◌, ◌≤◌, Bool, true, cond, List, length, drop, sym, ap, ap₂, ◌∙◌, arith}
use Rattle.std.specs.Prelude.{◌&&◌}
use Rattle.std.proofs.lemmas.Bool.{and_parts}
use Rattle.xml_model.specs.Chars.{begins, size, prefix_of}
use Rattle.xml_model.specs.Items.{Item, written, spelling, meets, ends_well, may_begin_at, first_place, begins_at}
use Rattle.xml_model.specs.Records.{Record, plain, named, name_token}
use Rattle.xml_chars.specs.Places.{span_from}
use Rattle.xml_chars.proofs.Readers.{begins_split}
use Rattle.vtd_builder.specs.Found.{bytes_of, plain_span, named_span}
use Rattle.xml_chars.proofs.PrefixLemmas.{prefix_bytes}
use Rattle.vtd_builder.proofs.Colons.{declares_bytes}
use Rattle.vtd_builder.specs.Cuts.{Placed}
use Rattle.vtd_builder.proofs.Placed.{placed_bytes}

-- ---- one record

pub plain_is : (token depth at : ℕ) (cs : List ℕ) → plain token depth cs at ≡ plain_span token depth (span_from at cs)
plain_is token depth at cs =
    let n : size cs ≡ at + size cs - at = omega arith in
    ap (λ (k : ℕ). let r : Record = record { token = token; depth = depth; prefix = 0; len = k; offset = at } in r) n

pub named_is : (bytes : List ℕ) (token depth at : ℕ) (cs : List ℕ) → Placed bytes at cs → named token depth cs at ≡ named_span bytes token depth (span_from at cs)
named_is bytes token depth at cs p =
    let n : size cs ≡ at + size cs - at = omega arith in
    let q : size (prefix_of cs) ≡ length (prefix_of (bytes_of bytes (span_from at cs))) = sym (ap (λ (l : List ℕ). length (prefix_of l)) (placed_bytes bytes at cs p) ∙ prefix_bytes cs) in
    ap₂ (λ (j k : ℕ). let r : Record = record { token = token; depth = depth; prefix = j; len = k; offset = at } in r) q n

pub kind_is : (bytes : List ℕ) (at : ℕ) (cs : List ℕ) → Placed bytes at cs → name_token cs ≡ name_token (bytes_of bytes (span_from at cs))
kind_is bytes at cs p = sym (ap name_token (placed_bytes bytes at cs p) ∙ ap (λ (b : Bool). cond b 3 2) (declares_bytes cs))

-- ---- items

pub item_placed : (bytes : List ℕ) (at : ℕ) (i : Item) → at ≤ length bytes → begins_at bytes at i ≡ true → Placed bytes at (written i)
unfolding begins_at spelling
item_placed bytes at i within h =
    let x = and_parts (meets i && begins (spelling i) (drop at bytes) && ends_well i (drop (at + length (spelling i)) bytes)) (may_begin_at i (first_place bytes) at) h in
    let y = and_parts (meets i && begins (spelling i) (drop at bytes)) (ends_well i (drop (at + length (spelling i)) bytes)) x.0 in
    let z = and_parts (meets i) (begins (spelling i) (drop at bytes)) y.0 in
    record { more = drop (length (spelling i)) (drop at bytes); here = begins_split (spelling i) (drop at bytes) z.1; within = within }
