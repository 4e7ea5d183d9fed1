-- The bytes of a cut element are those that its nest under the cut tag spells.
use Rattle.std.proofs.Common.{◌≡◌, ℕ, ◌+◌, ◌-◌, List, [], ◌∷◌, ◌++◌, map, length, take, drop, refl, sym, ap}
use Rattle.std.proofs.Common.{ap₂, ◌∙◌}
use Rattle.std.proofs.Common.{arith, append_assoc, length-append, drop_at}
use Rattle.std.specs.Prelude.{codes}
use Rattle.std.specs.List.{flat_map}
use lib.Utf8.{encodes}
use Rattle.std.proofs.lemmas.List.{take_at}
use Rattle.std.proofs.lemmas.Str.{encodes-append}
use Rattle.xml_model.specs.Items.{Attribute, Tag, end_tag, spelling, written_tag}
use Rattle.xml_model.specs.Items.{written_attribute, written_attributes}
use Rattle.xml_model.specs.Nest.{Forest, done, empty, element, flat}
use Rattle.xml_nests.specs.Fits.{spelled}
use Rattle.xml_fragments.specs.Cut.{spaced, needed, cut_tag}

-- ---- a span with an insertion

-- bytes in four parts: what is before the span, its front, the rest of it, what is after it
pub inserted : (a x r z y bytes : List ℕ) (start name stop : ℕ) → bytes ≡ a ++ ((x ++ r) ++ z) → length a ≡ start →
    name ≡ start + length x → stop ≡ start + length (x ++ r) →
    take (name - start) (drop start bytes) ++ y ++ take (stop - name) (drop name bytes) ≡ x ++ (y ++ r)
inserted a x r z y bytes start name stop e la n s =
    let len : length (x ++ r) ≡ length x + length r = length-append x r in
    let one : drop start bytes ≡ (x ++ r) ++ z = ap (drop start) e ∙ drop_at a ((x ++ r) ++ z) start la in
    let front : take (name - start) (drop start bytes) ≡ x =
    ap (take (name - start)) (one ∙ append_assoc x r z) ∙ take_at x (r ++ z) (name - start) (omega (arith, n)) in
    let two : length (a ++ x) ≡ name = length-append a x ∙ omega (arith, la, n) in
    let back : drop name bytes ≡ r ++ z =
    ap (drop name) (e ∙ ap (λ (l : List ℕ). a ++ l) (append_assoc x r z) ∙ sym (append_assoc a x (r ++ z)))
    ∙ drop_at (a ++ x) (r ++ z) name two in
    let tail : take (stop - name) (drop name bytes) ≡ r =
    ap (take (stop - name)) back ∙ take_at r z (stop - name) (omega (arith, n, s, len)) in
    ap₂ (λ (u v : List ℕ). u ++ y ++ v) front tail ∙ append_assoc x y r

-- ---- a tag in two parts, at its name

abbrev pub front_of : Tag → List ℕ
front_of t = encodes (codes "<" ++ t.name)

abbrev pub back_of : Tag → List ℕ → List ℕ
back_of t mark = encodes ((written_attributes t.attributes ++ t.space) ++ mark)

regroup : (n a s m : List ℕ) → ((n ++ a) ++ s) ++ m ≡ n ++ ((a ++ s) ++ m)
regroup n a s m = simp append_assoc refl

pub tag_parts : (t : Tag) (mark : List ℕ) → encodes (written_tag t ++ mark) ≡ front_of t ++ back_of t mark
tag_parts t mark =
    ap encodes (regroup (codes "<" ++ t.name) (written_attributes t.attributes) t.space mark)
    ∙ encodes-append (codes "<" ++ t.name) ((written_attributes t.attributes ++ t.space) ++ mark)

attributes_join : (xs ys : List Attribute) → written_attributes (xs ++ ys) ≡ written_attributes xs ++ written_attributes ys
attributes_join [] ys = refl
attributes_join (x ∷ xs) ys =
    ap (λ (l : List ℕ). written_attribute x ++ l) (attributes_join xs ys)
    ∙ sym (append_assoc (written_attribute x) (written_attributes xs) (written_attributes ys))

attributes_spaced : (xs : List Attribute) → written_attributes (map spaced xs) ≡ flat_map (λ a. written_attribute (spaced a)) xs
attributes_spaced [] = refl
attributes_spaced (x ∷ xs) = ap (λ (l : List ℕ). written_attribute (spaced x) ++ l) (attributes_spaced xs)

-- what is put in
abbrev pub inserts : List Attribute → List ℕ
inserts ds = encodes (flat_map (λ a. written_attribute (spaced a)) ds)

regroup_back : (i a s m : List ℕ) → ((i ++ a) ++ s) ++ m ≡ i ++ ((a ++ s) ++ m)
regroup_back i a s m = simp append_assoc refl

pub back_parts : (t : Tag) (inside : Forest) (tags : List Tag) (mark : List ℕ) →
    back_of (cut_tag t inside tags) mark ≡ inserts (needed t inside [] tags) ++ back_of t mark
back_parts t inside tags mark =
    let ds = needed t inside [] tags in
    let i = flat_map (λ a. written_attribute (spaced a)) ds in
    ap (λ (l : List ℕ). encodes ((l ++ t.space) ++ mark))
    (attributes_join (map spaced ds) t.attributes ∙ ap (λ (l : List ℕ). l ++ written_attributes t.attributes) (attributes_spaced ds))
    ∙ ap encodes (regroup_back i (written_attributes t.attributes) t.space mark)
    ∙ encodes-append i ((written_attributes t.attributes ++ t.space) ++ mark)

-- ---- the pieces of an element, and of a cut one

pub record Parts (g : Forest) (u : Forest) (t : Tag) (y : List ℕ) : Type 0 where
  pub rest : List ℕ
  pub old : spelled (flat g) ≡ front_of t ++ rest
  pub new : spelled (flat u) ≡ front_of t ++ (y ++ rest)

pub whole_parts : (t : Tag) (inside : Forest) (space : List ℕ) (tags : List Tag) →
    Parts (element t inside space done) (element (cut_tag t inside tags) inside space done) t (inserts (needed t inside [] tags))
unfolding flat spelling
whole_parts t inside space tags =
    let u = cut_tag t inside tags in
    let deep = spelled (flat inside ++ end_tag t.name space ∷ []) in
    let y = inserts (needed t inside [] tags) in
    record {
      rest = back_of t (codes ">") ++ deep;
      old = ap (λ (l : List ℕ). l ++ deep) (tag_parts t (codes ">")) ∙ append_assoc (front_of t) (back_of t (codes ">")) deep;
      new = ap (λ (l : List ℕ). l ++ deep)
          (tag_parts u (codes ">") ∙ ap (λ (l : List ℕ). front_of t ++ l) (back_parts t inside tags (codes ">")))
          ∙ append_assoc (front_of t) (y ++ back_of t (codes ">")) deep
          ∙ ap (λ (l : List ℕ). front_of t ++ l) (append_assoc y (back_of t (codes ">")) deep);
    }

pub alone_parts : (t : Tag) (tags : List Tag) →
    Parts (empty t done) (empty (cut_tag t done tags) done) t (inserts (needed t done [] tags))
unfolding flat spelling
alone_parts t tags =
    let u = cut_tag t done tags in
    let y = inserts (needed t done [] tags) in
    record {
      rest = back_of t (codes "/>") ++ [];
      old = ap (λ (l : List ℕ). l ++ []) (tag_parts t (codes "/>")) ∙ append_assoc (front_of t) (back_of t (codes "/>")) [];
      new = ap (λ (l : List ℕ). l ++ [])
          (tag_parts u (codes "/>") ∙ ap (λ (l : List ℕ). front_of t ++ l) (back_parts t done tags (codes "/>")))
          ∙ append_assoc (front_of t) (y ++ back_of t (codes "/>")) []
          ∙ ap (λ (l : List ℕ). front_of t ++ l) (append_assoc y (back_of t (codes "/>")) []);
    }
