-- The bytes of a nest where pieces are exchanged are the old ones but for those of the pieces.
use Rattle.std.proofs.Common.{◌≡◌, ℕ, ◌+◌, Bool, true, false, List, [], ◌∷◌, ◌++◌, length, take, drop, refl, sym, ap, ap₂, ◌∙◌, arith}
use Rattle.std.proofs.Common.{append_assoc, append-nil, length-append, drop_at}
use Rattle.std.proofs.lemmas.List.{take_at}
use Rattle.xml_model.specs.Chars.{size, begins}
use Rattle.xml_model.specs.Items.{Item, leaf, start_tag, empty_tag, end_tag, spelling, first_place, byte_order_mark}
use Rattle.xml_model.specs.Nest.{Forest, done, single, empty, element, flat}
use Rattle.xml_model.specs.Records.{past_leaf, past_empty, past_start, past_forest, past_element}
use Rattle.xml_model.specs.Accepted.{Accepted}
use Rattle.xml_nests.specs.Fits.{spelled, mark, mark_length, document_of}
use Rattle.xml_nests.specs.Context.{Context, before, past_single, past_tag, past_whole, within, plug, items_before, items_after, place_in}
use Rattle.xml_nests.proofs.Walks.{first_place_of}
use Rattle.xml_nests.proofs.Back.{document_spelled, fits_from_accepted}
use Rattle.xml_nests.proofs.Around.{flat_plug}

pub spelled_append : (xs ys : List Item) → spelled (xs ++ ys) ≡ spelled xs ++ spelled ys
spelled_append [] ys = refl
spelled_append (x ∷ xs) ys = ap (λ (l : List ℕ). spelling x ++ l) (spelled_append xs ys)
    ∙ sym (append_assoc (spelling x) (spelled xs) (spelled ys))

pub past_spelled : (at : ℕ) (f : Forest) → past_forest at f ≡ at + length (spelled (flat f))
unfolding flat spelling size
past_spelled at done = omega arith
past_spelled at (single x f) =
    let h = past_spelled (past_leaf at x) f in let l = length-append (spelling (leaf x)) (spelled (flat f)) in omega (arith, h, l)
past_spelled at (empty t f) =
    let h = past_spelled (past_empty at t) f in let l = length-append (spelling (empty_tag t)) (spelled (flat f)) in omega (arith, h, l)
past_spelled at (element t inside space f) =
    let h = past_spelled (past_start at t) inside in
    let k = past_spelled (past_element at t inside space) f in
    let e = spelling (end_tag t.name space) in
    let all = spelled_append (flat inside) (end_tag t.name space ∷ flat f) in
    let l = length-append (spelling (start_tag t)) (spelled (flat inside ++ end_tag t.name space ∷ flat f)) in
    let m : length (spelled (flat inside ++ end_tag t.name space ∷ flat f)) ≡ length (spelled (flat inside)) + length
    (e ++ spelled (flat f)) = ap length all ∙ length-append (spelled (flat inside)) (e ++ spelled (flat f)) in
    let n = length-append e (spelled (flat f)) in
    omega (arith, h, k, l, m, n)

pub place_spelled : (at : ℕ) (c : Context) → place_in at c ≡ at + length (spelled (items_before c))
unfolding spelling size
place_spelled at (before rest) = omega arith
place_spelled at (past_single x c) = let h = place_spelled (past_leaf at x) c in let l =
    length-append (spelling (leaf x)) (spelled (items_before c)) in omega (arith, h, l)
place_spelled at (past_tag t c) = let h = place_spelled (past_empty at t) c in let l =
    length-append (spelling (empty_tag t)) (spelled (items_before c)) in omega (arith, h, l)
place_spelled at (past_whole t inside space c) =
    let h = place_spelled (past_element at t inside space) c in
    let i = past_spelled (past_start at t) inside in
    let e = spelling (end_tag t.name space) in
    let a = spelled_append (start_tag t ∷ flat inside ++ end_tag t.name space ∷ []) (items_before c) in
    let b : length (spelled ((start_tag t ∷ flat inside ++ end_tag t.name space ∷ []) ++ items_before c)) ≡ length
    (spelled (start_tag t ∷ flat inside ++ end_tag t.name space ∷ [])) + length (spelled (items_before c)) =
    ap length a ∙ length-append (spelled (start_tag t ∷ flat inside ++ end_tag t.name space ∷ [])) (spelled (items_before c)) in
    let l = length-append (spelling (start_tag t)) (spelled (flat inside ++ end_tag t.name space ∷ [])) in
    let m : length (spelled (flat inside ++ end_tag t.name space ∷ [])) ≡ length (spelled (flat inside)) + length (e ++ []) =
    ap length (spelled_append (flat inside) (end_tag t.name space ∷ [])) ∙ length-append (spelled (flat inside)) (e ++ []) in
    let n = ap length (append-nil e) in
    omega (arith, h, i, b, l, m, n)
place_spelled at (within t c space f) = let h = place_spelled (past_start at t) c in let l =
    length-append (spelling (start_tag t)) (spelled (items_before c)) in omega (arith, h, l)

-- bytes in three parts
pub three_parts : (a x y z whole : List ℕ) (s e : ℕ) → whole ≡ a ++ (x ++ z) → s ≡ length a → e ≡ s + length x →
    a ++ (y ++ z) ≡ take s whole ++ (y ++ drop e whole)
three_parts a x y z whole s e is at stop =
    let p : take s whole ≡ a = ap (take s) is ∙ take_at a (x ++ z) s (sym at) in
    let l : length (a ++ x) ≡ e = length-append a x ∙ omega (arith, at, stop) in
    let q : drop e whole ≡ z = ap (drop e) (is ∙ sym (append_assoc a x z)) ∙ drop_at (a ++ x) z e l in
    ap₂ (λ (u v : List ℕ). u ++ (y ++ v)) (sym p) (sym q)

pub document_parts : (m : Bool) (c : Context) (g : Forest) →
    document_of m (plug c g) ≡ (mark m ++ spelled (items_before c)) ++ (spelled (flat g) ++ spelled (items_after c))
unfolding document_of
document_parts m c g =
    ap (λ (is : List Item). mark m ++ spelled is) (flat_plug c g)
    ∙ ap (λ (l : List ℕ). mark m ++ l)
    (spelled_append (items_before c) (flat g ++ items_after c)
    ∙ ap (λ (l : List ℕ). spelled (items_before c) ++ l) (spelled_append (flat g) (items_after c)))
    ∙ sym (append_assoc (mark m) (spelled (items_before c)) (spelled (flat g) ++ spelled (items_after c)))

pub mark_size : (m : Bool) → mark_length m ≡ length (mark m)
mark_size true = refl
mark_size false = refl

pub bytes_exchanged : (m : Bool) (c : Context) (g h : Forest) →
    let s = place_in (mark_length m) c in
    let old = document_of m (plug c g) in
    document_of m (plug c h) ≡ take s old ++ (spelled (flat h) ++ drop (past_forest s g) old)
bytes_exchanged m c g h =
    let s = place_in (mark_length m) c in
    let a = mark m ++ spelled (items_before c) in
    let p = place_spelled (mark_length m) c in
    let l = length-append (mark m) (spelled (items_before c)) in
    document_parts m c h
    ∙ three_parts a (spelled (flat g)) (spelled (flat h)) (spelled (items_after c)) (document_of m (plug c g)) s (past_forest s g)
    (document_parts m c g) (omega (arith, p, l, mark_size m)) (past_spelled s g)

-- the place of the first item of a document is the length of its byte order mark
pub first_is_mark : (k : ℕ) (bytes : List ℕ) (nest : Forest) → Accepted k bytes nest →
    first_place bytes ≡ mark_length (begins byte_order_mark bytes)
first_is_mark k bytes nest a =
    let f = fits_from_accepted k bytes nest a in
    ap first_place (document_spelled bytes nest a.document)
    ∙ first_place_of (begins byte_order_mark bytes) nest f.nests f.meets_all

-- where pieces of a document are exchanged, the bytes before them and those after them stay
pub exchanged_bytes : (k : ℕ) (bytes : List ℕ) (c : Context) (g h : Forest) → Accepted k bytes (plug c g) →
    let start = place_in (first_place bytes) c in
    document_of (begins byte_order_mark bytes) (plug c h) ≡ take start bytes ++ (spelled (flat h) ++ drop (past_forest start g) bytes)
exchanged_bytes k bytes c g h a =
    let m = begins byte_order_mark bytes in
    bytes_exchanged m c g h
    ∙ ap₂ (λ (n : ℕ) (l : List ℕ). take (place_in n c) l ++ (spelled (flat h) ++ drop (past_forest (place_in n c) g) l))
    (sym (first_is_mark k bytes (plug c g) a)) (sym (document_spelled bytes (plug c g) a.document))
