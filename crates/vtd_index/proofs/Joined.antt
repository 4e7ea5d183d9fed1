-- Pieces that are added one after another.
use Rattle.std.proofs.Common.{◌≡◌, ℕ, suc, ◌+◌, ◌<◌, ◌≤◌, true, List, [], ◌∷◌, ◌++◌, length, take, drop, get_or, refl, ap, sym, ◌∙◌, arith}
use Rattle.std.proofs.Common.{append_assoc, append-nil}
use Rattle.std.proofs.lemmas.List.{take-append-drop, take_all}
use Rattle.std.proofs.Math.Seq.{take-suc}
use Rattle.vtd_outside.specs.declared.Failed.{Failed}
use Rattle.vtd_outside.specs.Known.{SeenFiles}
use Rattle.vtd_outside.specs.Written.{Adds}
use Rattle.vtd_outside.proofs.Adds.{okay, failing, adds_none, adds_then, adds_prefix}
use Rattle.vtd_words.specs.Lists.{Lists}
use Rattle.vtd_index.specs.declared.pieces.Piece.{Piece}
use Rattle.vtd_index.specs.Layout.{file_of}
use Rattle.vtd_index.specs.Pieces.{piece_bytes, pieces_of, pieces_bytes, Going}

pub pieces_append : (bytes : List ℕ) (words : Lists) (xs ys : List Piece)
    → pieces_bytes bytes words (xs ++ ys) ≡ pieces_bytes bytes words xs ++ pieces_bytes bytes words ys
pieces_append bytes words [] ys = refl
pieces_append bytes words (x ∷ xs) ys =
    ap (λ (zs : List ℕ). piece_bytes bytes words x ++ zs) (pieces_append bytes words xs ys)
    ∙ sym (append_assoc (piece_bytes bytes words x) (pieces_bytes bytes words xs) (pieces_bytes bytes words ys))

one_piece : (bytes : List ℕ) (words : Lists) (ps : List Piece) (n : ℕ) (d : Piece) → n < length ps
    → pieces_bytes bytes words (take n ps) ++ piece_bytes bytes words (get_or ps n d) ≡ pieces_bytes bytes words (take (n + 1) ps)
one_piece bytes words ps n d within =
    let e : n + 1 ≡ suc n = omega arith in
    let t : take (n + 1) ps ≡ take n ps ++ get_or ps n d ∷ [] = ap (λ (j : ℕ). take j ps) e ∙ take-suc ps n d within in
    sym (ap (λ (qs : List Piece). pieces_bytes bytes words qs) t ∙ pieces_append bytes words (take n ps) (get_or ps n d ∷ [])
    ∙ ap (λ (zs : List ℕ). pieces_bytes bytes words (take n ps) ++ zs) (append-nil (piece_bytes bytes words (get_or ps n d))))

pub going_starts : (s : SeenFiles) (bytes : List ℕ) (words : Lists) (ps : List Piece) → s.is_writing ≡ true → Going s s bytes words ps 0
going_starts s bytes words ps w = record { adds = adds_none s tt w; writing = w }

pub going_on : (s l t : SeenFiles) (bytes : List ℕ) (words : Lists) (ps : List Piece) (n : ℕ) (d : Piece) (u : Unit {0}) → n < length ps
    → Going s l bytes words ps n
    → Adds l t (piece_bytes bytes words (get_or ps n d)) (okay {U = Unit {0}} {E = Failed} u) → Going s t bytes words ps (n + 1)
going_on s l t bytes words ps n d u within k a = record {
  adds = rw (sym (one_piece bytes words ps n d within)) (adds_then s l t (pieces_bytes bytes words (take n ps))
      (piece_bytes bytes words (get_or ps n d)) tt (okay {U = Unit {0}} {E = Failed} u) k.adds a);
  writing = a.ok;
}

pub going_prefix : (s l t : SeenFiles) (bytes : List ℕ) (words : Lists) (ps : List Piece) (n : ℕ) (d : Piece) (f : Failed) → n < length ps
    → Going s l bytes words ps n
    → Adds l t (piece_bytes bytes words (get_or ps n d)) (failing {U = Unit {0}} {E = Failed} f)
    → Adds s t (pieces_bytes bytes words ps) (failing {U = Unit {0}} {E = Failed} f)
going_prefix s l t bytes words ps n d f within k a =
    let both = adds_then s l t (pieces_bytes bytes words (take n ps)) (piece_bytes bytes words (get_or ps n d)) tt
    (failing {U = Unit {0}} {E = Failed} f) k.adds a in
    let whole : pieces_bytes bytes words ps ≡ (pieces_bytes bytes words (take n ps) ++ piece_bytes bytes words
    (get_or ps n d)) ++ pieces_bytes bytes words (drop (n + 1) ps) =
    ap (λ (qs : List Piece). pieces_bytes bytes words qs) (sym (take-append-drop (n + 1) ps)) ∙ pieces_append bytes words (take (n + 1) ps) (drop (n + 1) ps)
    ∙ ap (λ (zs : List ℕ). zs ++ pieces_bytes bytes words (drop (n + 1) ps)) (sym (one_piece bytes words ps n d within)) in
    rw whole (adds_prefix s t _ (pieces_bytes bytes words (drop (n + 1) ps)) f both)

-- the pieces are the file
pub whole_file : (bytes : List ℕ) (words : Lists) → pieces_bytes bytes words (pieces_of (length bytes) words) ≡ file_of bytes words
unfolding pieces_of file_of
whole_file bytes words = refl

pub seventeen : (n : ℕ) (words : Lists) (ps : List Piece) → ps ≡ pieces_of n words → length ps ≡ 17
unfolding pieces_of
seventeen n words ps e = ap length e

pub all_taken : (bytes : List ℕ) (words : Lists) (ps : List Piece) (i : ℕ) → ps ≡ pieces_of (length bytes) words → 17 ≤ i
    → pieces_bytes bytes words (take i ps) ≡ file_of bytes words
all_taken bytes words ps i e past =
    let l = seventeen (length bytes) words ps e in
    ap (λ (qs : List Piece). pieces_bytes bytes words qs) (take_all i ps (omega arith) ∙ e) ∙ whole_file bytes words
