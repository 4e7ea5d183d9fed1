-- Fronts of some bytes, put together.
use Rattle.std.proofs.Common.{◌≡◌, ℕ, ◌+◌, ◌-◌, ◌<◌, ◌≤◌, Bool, true, List, [], ◌∷◌, ◌++◌, length, take, drop, get_or, refl, sym, ap, ◌∙◌, subst, arith, append_assoc}
use Rattle.std.specs.Prelude.{nat_lt}
use Rattle.std.specs.List.{prefix_len, list_all}
use Rattle.std.specs.Str.{IsUtf8, IsCharBoundary, chars}
use lib.Utf8.{encode, encodes}
use Rattle.std.proofs.lemmas.List.{take-append-drop, drop-drop, drop_more, length-take-le, length-drop, get_or-drop}
use Rattle.std.proofs.lemmas.List.Sums.{prefix_len-le-length}
use Rattle.std.proofs.Math.Numerals.{one-add}
use Rattle.std.proofs.lemmas.Str.{encode_ascii, encodes-append, IsUtf8-drop}
use Rattle.std.proofs.lemmas.Bool.{and_parts, and_from, ltb-true, or_left}
use Rattle.xml_model.specs.Chars.{size, is_name, is_name_char, is_name_start, is_blank}
use Rattle.xml_chars.specs.Places.{holds, IsLongestName, IsLongestSpace}
use Rattle.xml_chars.proofs.HoldLemmas.{size-append, read_to}
use Rattle.xml_chars.proofs.Points.{cut_of}
use Rattle.xml_chars.proofs.Readers.{run_takes, begins_split}
use Rattle.xml_items.proofs.ByteRuns.{ByBytes, agrees_by, split_bytes}
use Rattle.xml_lanes.specs.Classes.{is_name_byte, is_plain_start}
use Rattle.xml_swift.specs.Fronts.{Front, HasName, HasSpace}

pub nothing : (bytes : List ℕ) (at : ℕ) → Front bytes at at []
unfolding size
nothing bytes at = record { there = refl; ends = omega arith }

pub join : (bytes : List ℕ) (at p q : ℕ) (v w : List ℕ) → Front bytes at p v → Front bytes p q w → Front bytes at q (v ++ w)
join bytes at p q v w f g = record {
  there = f.there ∙ ap (λ (l : List ℕ). encodes v ++ l) g.there ∙ sym (append_assoc (encodes v) (encodes w) (drop q bytes)) ∙ ap (λ (l : List ℕ). l ++ drop q bytes) (sym (encodes-append v w));
  ends = omega (arith, f.ends, g.ends, size-append v w);
}

-- one character of ASCII
pub one : (bytes : List ℕ) (at b : ℕ) → at < length bytes → get_or bytes at 0 ≡ b → b < 128 → Front bytes at (at + 1) (b ∷ [])
unfolding size
one bytes at b lt e low =
    let same : encode b ≡ b ∷ [] = encode_ascii b low in
    record {
      there = drop_more bytes at 0 lt ∙ ap (λ (x : ℕ). x ∷ drop (at + 1) bytes) e ∙ ap (λ (l : List ℕ). (l ++ []) ++ drop (at + 1) bytes) (sym same);
      ends = ap (λ (l : List ℕ). at + length (l ++ [])) (sym same);
    }

pub spelled_ascii : (q : ℕ → Bool) → ((b : ℕ) → q b ≡ true → b < 128) → (xs : List ℕ) → list_all q xs ≡ true → encodes xs ≡ xs
spelled_ascii q low [] h = refl
spelled_ascii q low (x ∷ xs) h =
    let k = and_parts (q x) (list_all q xs) h in
    ap (λ (l : List ℕ). l ++ encodes xs) (encode_ascii x (low x k.0)) ∙ ap (λ (l : List ℕ). x ∷ l) (spelled_ascii q low xs k.1)

-- a run of ASCII
pub ascii_front : (q : ℕ → Bool) → ((b : ℕ) → q b ≡ true → b < 128) → (bytes : List ℕ) (at n : ℕ) → at + n ≤ length bytes → list_all q (take n (drop at bytes)) ≡ true → Front bytes at (at + n) (take n (drop at bytes))
unfolding size
ascii_front q low bytes at n room h =
    let d = drop at bytes in
    let same : encodes (take n d) ≡ take n d = spelled_ascii q low (take n d) h in
    let long : length (take n d) ≡ n = length-take-le n d (omega (arith, length-drop at bytes)) in
    record {
      there = sym (take-append-drop n d) ∙ ap (λ (l : List ℕ). take n d ++ l) (drop-drop n at bytes) ∙ ap (λ (l : List ℕ). l ++ drop (at + n) bytes) (sym same);
      ends = ap (λ (k : ℕ). at + k) (sym (ap (λ (l : List ℕ). length l) same ∙ long));
    }

-- ---- names

low_name : (b : ℕ) → is_name_byte b ≡ true → b < 128
low_name b h = ltb-true b 128 (and_parts (nat_lt b 128) (is_name_char b) h).0

names : (xs : List ℕ) → list_all is_name_byte xs ≡ true → list_all is_name_char xs ≡ true
names [] h = refl
names (x ∷ xs) h =
    let k = and_parts (is_name_byte x) (list_all is_name_byte xs) h in
    and_from (is_name_char x) (list_all is_name_char xs) (and_parts (nat_lt x 128) (is_name_char x) k.0).1 (names xs k.1)

start_is_name : (b : ℕ) → is_plain_start b ≡ true → is_name_byte b ≡ true
unfolding is_name_char
start_is_name b h =
    let l = and_parts (nat_lt b 128) (is_name_start b) h in
    and_from _ _ l.0 (or_left (is_name_start b) _ l.1)

name_fits : (xs : List ℕ) → 0 < length xs → is_plain_start (get_or xs 0 0) ≡ true → is_name (take (prefix_len is_name_byte xs) xs) ≡ true
unfolding is_name
name_fits [] some s = absurd (omega arith)
name_fits (x ∷ xs) some s =
    let t = start_is_name x s in
    let h : list_all is_name_byte (take (prefix_len is_name_byte xs) xs) ≡ true = (run_takes is_name_byte xs).0 in
    rw (t, one-add) (and_from (is_name_start x) _ (and_parts (nat_lt x 128) (is_name_start x) s).1 (names (take (prefix_len is_name_byte xs) xs) h))

-- the name that begins with an ASCII character, up to the first byte of another kind
pub name_there : (bytes : List ℕ) (at end : ℕ) → at < length bytes → is_plain_start (get_or bytes at 0) ≡ true → end ≡ at + prefix_len is_name_byte (drop at bytes) → HasName bytes at end
name_there bytes at end room s is =
    let d = drop at bytes in
    let r = prefix_len is_name_byte d in
    let long : 0 < length d = omega (arith, length-drop at bytes) in
    let few : r ≤ length d = prefix_len-le-length is_name_byte d in
    let first : get_or d 0 0 ≡ get_or bytes at 0 = get_or-drop at bytes 0 0 ∙ ap (λ (k : ℕ). get_or bytes k 0) (omega arith) in
    let start : is_plain_start (get_or d 0 0) ≡ true = ap is_plain_start first ∙ s in
    let front : Front bytes at (at + r) (take r d) = ascii_front is_name_byte low_name bytes at r (omega (arith, few, length-drop at bytes)) (run_takes is_name_byte d).0 in
    record {
      name = take r d;
      fits = name_fits d long start;
      front = subst (λ (k : ℕ). Front bytes at k (take r d)) (sym is) front;
    }

-- ---- what other readers hold to be there

pub front_of : (bytes : List ℕ) (at end : ℕ) (cs : List ℕ) → at ≤ length bytes → holds bytes at cs ≡ true → end ≡ at + size cs → Front bytes at end cs
unfolding size
front_of bytes at end cs within h is = record {
  there = begins_split (encodes cs) (drop at bytes) h ∙ ap (λ (l : List ℕ). encodes cs ++ l) (drop-drop (length (encodes cs)) at bytes ∙ ap (λ (k : ℕ). drop k bytes) (sym is));
  ends = is;
}

pub name_held : (bytes : List ℕ) (at end : ℕ) → at ≤ length bytes → IsLongestName bytes at end → HasName bytes at end
name_held bytes at end within n = record { name = n.name; fits = n.fits; front = front_of bytes at end n.name within n.there n.end }

pub space_held : (bytes : List ℕ) (at end : ℕ) → at ≤ length bytes → IsLongestSpace bytes at end → HasSpace bytes at end
space_held bytes at end within n = record { space = n.space; fits = n.fits; front = front_of bytes at end n.space within n.there n.end }

pub no_space : (bytes : List ℕ) (at : ℕ) → HasSpace bytes at at
unfolding is_blank
no_space bytes at = record { space = []; fits = refl; front = nothing bytes at }

-- what was read up to a rest
pub read_front : (bytes : List ℕ) (at : ℕ) (w rest : List ℕ) → at ≤ length bytes → IsUtf8 (drop at bytes) → IsUtf8 rest → chars (drop at bytes) ≡ w ++ chars rest → Front bytes at (length bytes - length rest) w
unfolding size
read_front bytes at w rest within u v e =
    let k = cut_of (drop at bytes) rest w u v e in
    let t = read_to bytes (drop at bytes) rest at w within refl u v e in
    record {
      there = k.whole ∙ ap (λ (l : List ℕ). encodes w ++ l) (sym t.after);
      ends = t.end;
    }

-- ---- runs of bytes that only characters of a class have

pub record Run (p : ℕ → Bool) (bytes : List ℕ) (at end : ℕ) : Type 0 where
  pub cs : List ℕ
  pub all : list_all p cs ≡ true
  pub front : Front bytes at end cs

pub run_there : (p q : ℕ → Bool) → ByBytes p q → (bytes : List ℕ) (at end : ℕ) → IsUtf8 bytes → IsCharBoundary bytes at → end ≡ at + prefix_len q (drop at bytes) → Run p bytes at end
unfolding size
run_there p q same bytes at end u b is =
    let d = drop at bytes in
    let n = prefix_len q d in
    let m = prefix_len p (chars d) in
    let v : IsUtf8 d = IsUtf8-drop bytes at u b in
    let s = split_bytes p q (agrees_by p q same) d n v refl in
    let cs = take m (chars d) in
    let e : chars d ≡ cs ++ chars (drop n d) = sym (take-append-drop m (chars d)) ∙ ap (λ (l : List ℕ). cs ++ l) (sym s.back) in
    let k = cut_of d (drop n d) cs v s.utf8 e in
    record {
      cs = cs;
      all = (run_takes p (chars d)).0;
      front = record {
        there = k.whole ∙ ap (λ (l : List ℕ). encodes cs ++ l) (drop-drop n at bytes ∙ ap (λ (j : ℕ). drop j bytes) (sym is));
        ends = omega (arith, is, k.len, length-drop n d, prefix_len-le-length q d);
      };
    }
