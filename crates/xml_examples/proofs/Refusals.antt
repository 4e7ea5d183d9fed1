-- Why and where worked documents are refused: each of the nine faults, and each way in which a name offends.
use Rattle.std.proofs.Common.{◌≡◌, ℕ, zero, suc, ◌+◌, ◌≤◌, List, [], ◌∷◌, ◌++◌, refl, ap, sym, ◌∙◌, arith, subst, take, codes, bytes_eq, true, false, None, Some, replicate, append-nil, append_assoc}
use Rattle.std.specs.List.{flat_map}
use Rattle.std.specs.Prelude.{IsUtf8}
use Rattle.std.specs.Char.{encode_utf8}
use Rattle.std.specs.Str.{is_utf8, chars}
use Rattle.std.proofs.lemmas.Bool.{false≢true, and_parts}
use Rattle.std.proofs.lemmas.Str.{is_utf8-from_IsUtf8}
use Rattle.xml_model.specs.declared.Field.TheVariants as fields
use Rattle.xml_model.specs.declared.DocFault.TheVariants as faults
use Rattle.xml_model.specs.Items.{Piece, literal, entity, Attribute, Tag, Leaf, Item, leaf, start_tag, empty_tag, end_tag, written, meets, begins_at, spelling, walk, walk_to_end}
use Rattle.xml_model.specs.Nest.{Forest, done, single, empty, element, flat, is_nest, is_head, is_body, is_tail, is_misc}
use Rattle.xml_model.specs.Accepted.{Refuses, BeginsNest, over_names, offences, Accepted}
use Rattle.xml_model.specs.Names.{xml_uri, xmlns_uri}
use Rattle.xml_model.proofs.Bounds.{nest_shallow}
use Rattle.xml_model.proofs.Levels.{Shallow}
use Rattle.xml_model.proofs.Unique.{Closing, same_head}
use Rattle.xml_examples.proofs.Parts.{opened, elem, hollow, text_of, tag, tag_with, attr}
use Rattle.xml_examples.proofs.Records.{two, lone}

-- 1. <a and the byte FF: two bytes are UTF-8

abbrev pub not_utf8 : List ℕ
not_utf8 = 0x3C ∷ 0x61 ∷ 0xFF ∷ []

pub utf8_at_two : Refuses not_utf8 (faults.Utf8 2)
unfolding encode_utf8 is_utf8 chars
utf8_at_two = record {
  within = omega arith;
  prefix = (codes "<a", (refl, refl));
  longest = λ n l m u. let three : n ≡ 3 = omega (arith, l, m) in false≢true (is_utf8-from_IsUtf8 not_utf8 (subst (λ k. IsUtf8 (take k not_utf8)) three u));
}

-- 2. is in ExamplesSyntax

-- 3. the reference in <a>&x;</b> is at 3, and that in <a b="&x;"/> at 6

pub unknown_in_text : Refuses (codes "<a>&x;</b>") (faults.Entity 3)
unfolding opened
unknown_in_text = record { items = start_tag (tag (codes "a")) ∷ leaf (Leaf.text (entity (codes "x") ∷ [])) ∷ end_tag (codes "b") [] ∷ []; walked = refl; others = []; first = refl }

unknown_in_value : Refuses (codes "<a b=\"&x;\"/>") (faults.Entity 6)
unfolding opened
unknown_in_value = record {
  items = empty_tag (tag_with (codes "a") (record { space = codes " "; name = codes "b"; left = []; right = []; quote = Rattle.xml_model.specs.Items.Quote.double; value = entity (codes "x") ∷ [] } ∷ [])) ∷ [];
  walked = refl;
  others = [];
  first = refl;
}

-- 4. UTF-16 in <?xml version="1.0" encoding="UTF-16"?><a/> is at 30

other_encoding : Refuses (codes "<?xml version=\"1.0\" encoding=\"UTF-16\"?><a/>") (faults.Encoding 30)
unfolding opened
other_encoding = record {
  items = leaf (Leaf.declaration (record { version = attr (codes "version") (codes "1.0"); encoding = Some (attr (codes "encoding") (codes "UTF-16")); standalone = None; space = [] })) ∷ empty_tag (tag (codes "a")) ∷ [];
  walked = refl;
  others = [];
  first = refl;
}

-- 5. an empty file, <a>, <a></b>, <a/>x and <a/><b/> do not nest

nothing_nests : (f : Forest) → is_nest f ≡ true → flat f ≡ [] → ⊥
unfolding is_nest is_head is_body flat
nothing_nests done h e = false≢true h
nothing_nests (single x f) h e = cc
nothing_nests (empty t f) h e = cc
nothing_nests (element t inside space f) h e = cc

empty_file : Refuses [] (faults.Nesting 0)
unfolding opened
empty_file = record { prefix = []; rest = []; walked = refl; begins = record { nest = lone; rest = flat lone; nests = refl; split = refl }; longest = nothing_nests; place = refl; deep = refl }

some_left : (xs : List Item) (y : Item) (ys : List Item) → xs ++ y ∷ ys ≡ [] → ⊥
some_left [] y ys e = cc
some_left (x ∷ xs) y ys e = cc

abbrev pub a_opened : Item
a_opened = start_tag (tag (codes "a"))

abbrev begins_open : BeginsNest (a_opened ∷ [])
begins_open = record { nest = elem (codes "a") done done; rest = end_tag (codes "a") [] ∷ []; nests = unfold opened in refl; split = unfold opened in refl }

one_start : (f : Forest) → is_nest f ≡ true → flat f ≡ a_opened ∷ [] → ⊥
unfolding flat
one_start done h e = cc
one_start (single x f) h e = let k : leaf x ≡ a_opened = (same_head (leaf x) a_opened (flat f) [] e).0 in absurd cc
one_start (empty t f) h e = let k : empty_tag t ≡ a_opened = (same_head (empty_tag t) a_opened (flat f) [] e).0 in absurd cc
one_start (element t inside space f) h e = some_left (flat inside) (end_tag t.name space) (flat f) (same_head (start_tag t) a_opened (flat inside ++ end_tag t.name space ∷ flat f) [] e).1

not_ended : Refuses (codes "<a>") (faults.Nesting 3)
unfolding opened
not_ended = record { prefix = a_opened ∷ []; rest = []; walked = refl; begins = begins_open; longest = one_start; place = refl; deep = refl }

-- after <a> no end tag of another name
other_end : (f : Forest) (rest : List Item) → flat f ≡ a_opened ∷ end_tag (codes "b") [] ∷ rest → ⊥
unfolding flat
other_end done rest e = cc
other_end (single x f) rest e = let k : leaf x ≡ a_opened = (same_head (leaf x) a_opened (flat f) _ e).0 in absurd cc
other_end (empty t f) rest e = let k : empty_tag t ≡ a_opened = (same_head (empty_tag t) a_opened (flat f) _ e).0 in absurd cc
other_end (element t inside space f) rest e =
    let p = same_head (start_tag t) a_opened (flat inside ++ end_tag t.name space ∷ flat f) (end_tag (codes "b") [] ∷ rest) e in inner inside t space f rest p.0 p.1
  where
    inner : (inside : Forest) (t : Tag) (space : List ℕ) (f : Forest) (rest : List Item) → start_tag t ≡ a_opened → flat inside ++ end_tag t.name space ∷ flat f ≡ end_tag (codes "b") [] ∷ rest → ⊥
    inner done t space f rest s k =
        let same : t ≡ tag (codes "a") = cc in
        let q : end_tag t.name space ≡ end_tag (codes "b") [] = (same_head (end_tag t.name space) (end_tag (codes "b") []) (flat f) rest k).0 in
        let name : t.name ≡ codes "b" = cc in
        let both : codes "a" ≡ codes "b" = sym (ap (λ x. x.name) same) ∙ name in
        false≢true (ap (λ n. bytes_eq n (codes "b")) both)
    inner (single x g) t space f rest s k = let q : leaf x ≡ end_tag (codes "b") [] = (same_head (leaf x) (end_tag (codes "b") []) _ rest k).0 in absurd cc
    inner (empty u g) t space f rest s k = let q : empty_tag u ≡ end_tag (codes "b") [] = (same_head (empty_tag u) (end_tag (codes "b") []) _ rest k).0 in absurd cc
    inner (element u g blank h) t space f rest s k = let q : start_tag u ≡ end_tag (codes "b") [] = (same_head (start_tag u) (end_tag (codes "b") []) _ rest k).0 in absurd cc

wrong_end : Refuses (codes "<a></b>") (faults.Nesting 3)
unfolding opened
wrong_end = record { prefix = a_opened ∷ []; rest = end_tag (codes "b") [] ∷ []; walked = refl; begins = begins_open; longest = λ b. other_end b.nest b.rest b.split; place = refl; deep = refl }

-- after the root element no text but S, and no other element
abbrev a_alone : Item
a_alone = empty_tag (tag (codes "a"))

only_misc : (i : Item) → ((x : Leaf) → i ≡ leaf x → is_misc x ≡ false) → (f : Forest) (rest : List Item) → is_nest f ≡ true → flat f ≡ a_alone ∷ i ∷ rest → ⊥
unfolding is_nest is_head is_body is_tail flat
only_misc i m done rest h e = cc
only_misc i m (single x f) rest h e = let k : leaf x ≡ a_alone = (same_head (leaf x) a_alone (flat f) _ e).0 in absurd cc
only_misc i m (element t inside space f) rest h e = let k : start_tag t ≡ a_alone = (same_head (start_tag t) a_alone _ _ e).0 in absurd cc
only_misc i m (empty t done) rest h e = cc
only_misc i m (empty t (single x f)) rest h e =
    let p = same_head (empty_tag t) a_alone (leaf x ∷ flat f) (i ∷ rest) e in
    let q : leaf x ≡ i = (same_head (leaf x) i (flat f) rest p.1).0 in
    false≢true (sym (m x (sym q)) ∙ (and_parts (is_misc x) _ h).0)
only_misc i m (empty t (empty u f)) rest h e = false≢true h
only_misc i m (empty t (element u inside space f)) rest h e = false≢true h

abbrev begins_alone : BeginsNest (a_alone ∷ [])
begins_alone = record { nest = lone; rest = []; nests = unfold opened in refl; split = unfold opened in refl }

text_x : Leaf
text_x = text_of (codes "x")

text_is_none : (x : Leaf) → leaf (text_of (codes "x")) ≡ leaf x → is_misc x ≡ false
unfolding opened
text_is_none (Leaf.text ps) e = let same : ps ≡ literal 120 ∷ [] = cc in ap (λ qs. is_misc (Leaf.text qs)) same
text_is_none (Leaf.cdata cs) e = refl
text_is_none (Leaf.comment cs) e = absurd cc
text_is_none (Leaf.instruction i) e = absurd cc
text_is_none (Leaf.declaration d) e = refl
text_is_none (Leaf.doctype d) e = refl

text_after : Refuses (codes "<a/>x") (faults.Nesting 4)
unfolding opened
text_after = record {
  prefix = a_alone ∷ [];
  rest = leaf (text_of (codes "x")) ∷ [];
  walked = refl;
  begins = begins_alone;
  longest = λ b. only_misc (leaf (text_of (codes "x"))) text_is_none b.nest b.rest b.nests b.split;
  place = refl;
  deep = refl;
}

tag_is_none : (x : Leaf) → empty_tag (tag (codes "b")) ≡ leaf x → is_misc x ≡ false
tag_is_none x e = absurd cc

two_roots : Refuses (codes "<a/><b/>") (faults.Nesting 4)
unfolding opened
two_roots = record {
  prefix = a_alone ∷ [];
  rest = empty_tag (tag (codes "b")) ∷ [];
  walked = refl;
  begins = begins_alone;
  longest = λ b. only_misc (empty_tag (tag (codes "b"))) tag_is_none b.nest b.rest b.nests b.split;
  place = refl;
  deep = refl;
}

-- 255 elements may be in one another; the 256th is at 765

abbrev nested : ℕ → Forest
nested zero = done
nested (suc n) = elem (codes "a") (nested n) done

abbrev starts : ℕ → List Item
starts n = replicate n a_opened

abbrev ends : ℕ → List Item
ends n = replicate n (end_tag (codes "a") [])

deep_nests : is_nest (nested 255) ≡ true
unfolding opened
deep_nests = refl

-- a nest at a level begins with so many start tags at most
open_tags : (f : Forest) (l n : ℕ) (x rest : List Item) → Shallow l f → l ≤ 255 → Closing x → flat f ++ x ≡ starts n ++ rest → n + l ≤ 255
unfolding flat
open_tags f l zero x rest s h k e = omega (arith, h)
open_tags done l (suc n) [] rest s h k e = absurd cc
open_tags done l (suc n) (end_tag name space ∷ x) rest s h k e = let p : end_tag name space ≡ a_opened = (same_head (end_tag name space) a_opened x _ e).0 in absurd cc
open_tags done l (suc n) (leaf y ∷ x) rest s h k e = absurd k
open_tags done l (suc n) (start_tag t ∷ x) rest s h k e = absurd k
open_tags done l (suc n) (empty_tag t ∷ x) rest s h k e = absurd k
open_tags (single y f) l (suc n) x rest s h k e = let p : leaf y ≡ a_opened = (same_head (leaf y) a_opened (flat f ++ x) _ e).0 in absurd cc
open_tags (empty t f) l (suc n) x rest s h k e = let p : empty_tag t ≡ a_opened = (same_head (empty_tag t) a_opened (flat f ++ x) _ e).0 in absurd cc
open_tags (element t inside space f) l (suc n) x rest s h k e =
    let p = same_head (start_tag t) a_opened _ (starts n ++ rest) e in
    let q : flat inside ++ (end_tag t.name space ∷ (flat f ++ x)) ≡ starts n ++ rest = sym (append_assoc (flat inside) (end_tag t.name space ∷ flat f) x) ∙ p.1 in
    omega (arith, open_tags inside (suc l) n (end_tag t.name space ∷ (flat f ++ x)) rest s.1 (omega (arith, s.0)) tt q)

too_deep : BeginsNest (starts 256) → ⊥
too_deep b = absurd (omega (arith, open_tags b.nest 0 256 [] b.rest (nest_shallow b.nest b.nests) (omega arith) tt (append-nil (flat b.nest) ∙ b.split)))

deep_bytes : List ℕ
deep_bytes = flat_map (λ i. written i) (starts 256 ++ ends 256)

depth_at_765 : Refuses deep_bytes (faults.Depth 765)
unfolding opened deep_bytes
depth_at_765 = record {
  prefix = starts 255;
  rest = starts 1 ++ ends 256;
  walked = refl;
  begins = record { nest = nested 255; rest = ends 255; nests = refl; split = refl };
  longest = too_deep;
  place = refl;
  deep = refl;
}

-- 6. a name of 2,048 bytes is at 1

name_too_wide : Refuses (codes "<" ++ replicate 2_048 97 ++ codes "/>") (faults.Width fields.Name 1)
unfolding opened
name_too_wide = record { nest = hollow (replicate 2_048 97) done; document = record { nests = refl; walked = refl }; first = refl }

-- 7. the second b in <a b="1" b="2"/> is at 9

abbrev pub with_attributes : List ℕ → List Attribute → Forest
with_attributes name others = empty (tag_with name others) done

repeated_name : Refuses (codes "<a b=\"1\" b=\"2\"/>") (faults.Twice 9)
unfolding opened
repeated_name = record { nest = with_attributes (codes "a") (attr (codes "b") (codes "1") ∷ attr (codes "b") (codes "2") ∷ []); document = record { nests = refl; walked = refl }; others = []; first = refl }

-- 8. in <p:a/> the name is at 1; of <a xmlns:p="u" xmlns:q="u" p:x="1" q:x="2"/> the last attribute, at 35, is p:x once more

unbound_prefix : Refuses (codes "<p:a/>") (faults.Namespace 1)
unfolding opened
unbound_prefix = record { nest = hollow (codes "p:a") done; document = record { nests = refl; walked = refl }; others = []; first = refl }

same_names : Refuses (codes "<a xmlns:p=\"u\" xmlns:q=\"u\" p:x=\"1\" q:x=\"2\"/>") (faults.Namespace 35)
unfolding opened
same_names = record {
  nest = with_attributes (codes "a") (attr (codes "xmlns:p") (codes "u") ∷ attr (codes "xmlns:q") (codes "u") ∷ attr (codes "p:x") (codes "1") ∷ attr (codes "q:x") (codes "2") ∷ []);
  document = record { nests = refl; walked = refl };
  others = [];
  first = refl;
}

-- The ways in which a name offends, each with the places of the names that do.

abbrev offending : Forest → List ℕ
offending f = over_names offences [] 0 f

-- no qualified name: two colons, in a tag and in an attribute
two_colons : offending (with_attributes (codes "a:b:c") (attr (codes ":d") [] ∷ [])) ≡ 1 ∷ 7 ∷ []
unfolding opened
two_colons = refl

-- an instruction's target with a colon
target_with_colon : offending (single (Leaf.instruction (record { target = codes "p:q"; space = []; content = [] })) lone) ≡ 2 ∷ []
unfolding opened
target_with_colon = refl

-- a prefix of an attribute that nothing binds, and one that a later attribute of the tag does
unbound_attribute : offending (with_attributes (codes "a") (attr (codes "p:b") [] ∷ attr (codes "q:c") [] ∷ attr (codes "xmlns:q") (codes "u") ∷ [])) ≡ 3 ∷ []
unfolding opened
unbound_attribute = refl

-- the prefix xmlns, of a tag and as what is declared
xmlns_tag : offending (hollow (codes "xmlns:a") done) ≡ 1 ∷ []
unfolding opened
xmlns_tag = refl

xmlns_declared : offending (with_attributes (codes "a") (attr (codes "xmlns:xmlns") (codes "u") ∷ [])) ≡ 3 ∷ []
unfolding opened
xmlns_declared = refl

-- xml is bound to its own name alone, and nothing else to that name or to that of xmlns
xml_rightly : offending (with_attributes (codes "a") (attr (codes "xmlns:xml") xml_uri ∷ [])) ≡ []
unfolding opened
xml_rightly = refl

xml_wrongly : offending (with_attributes (codes "a") (attr (codes "xmlns:xml") (codes "u") ∷ [])) ≡ 3 ∷ []
unfolding opened
xml_wrongly = refl

other_for_xml : offending (with_attributes (codes "a") (attr (codes "xmlns:p") xml_uri ∷ [])) ≡ 3 ∷ []
unfolding opened
other_for_xml = refl

default_for_xmlns : offending (with_attributes (codes "a") (attr (codes "xmlns") xmlns_uri ∷ [])) ≡ 3 ∷ []
unfolding opened
default_for_xmlns = refl

other_for_xmlns : offending (with_attributes (codes "a") (attr (codes "xmlns:p") xmlns_uri ∷ [])) ≡ 3 ∷ []
unfolding opened
other_for_xmlns = refl

default_for_xml : offending (with_attributes (codes "a") (attr (codes "xmlns") xml_uri ∷ [])) ≡ 3 ∷ []
unfolding opened
default_for_xml = refl

-- declarations whose names are no qualified names
declared_badly : offending (with_attributes (codes "a") (attr (codes "xmlns:") (codes "u") ∷ attr (codes "xmlns:p:q") (codes "u") ∷ [])) ≡ 3 ∷ 14 ∷ []
unfolding opened
declared_badly = refl

-- a prefix that an element declares does not reach the one after it
prefix_of_a_sibling : offending (elem (codes "a") (empty (tag_with (codes "p:b") (attr (codes "xmlns:p") (codes "u") ∷ [])) (hollow (codes "p:c") done)) done) ≡ 22 ∷ []
unfolding opened
prefix_of_a_sibling = refl

-- an empty value for a prefix; the prefix is bound all the same
empty_prefix : offending (with_attributes (codes "p:a") (attr (codes "xmlns:p") [] ∷ [])) ≡ 5 ∷ []
unfolding opened
empty_prefix = refl

-- an empty URI is not none, so p:b is another name than b
empty_is_some : offending (with_attributes (codes "e") (attr (codes "b") [] ∷ attr (codes "p:b") [] ∷ attr (codes "xmlns:p") [] ∷ [])) ≡ 15 ∷ []
unfolding opened
empty_is_some = refl

-- xml means its own name also where it is declared wrongly
xml_stays : offending (with_attributes (codes "e") (attr (codes "xml:b") [] ∷ attr (codes "p:b") [] ∷ attr (codes "xmlns:p") (codes "u") ∷ attr (codes "xmlns:xml") (codes "u") ∷ [])) ≡ 31 ∷ []
unfolding opened
xml_stays = refl

-- the default does not reach attributes
default_not_for_attributes : offending (with_attributes (codes "a") (attr (codes "xmlns") (codes "u") ∷ attr (codes "xmlns:p") (codes "u") ∷ attr (codes "b") [] ∷ attr (codes "p:b") [] ∷ [])) ≡ []
unfolding opened
default_not_for_attributes = refl

-- A document that is accepted whole.

accepted_whole : Accepted 8 (codes "<a><b>1</b><b>2</b></a>") two
unfolding opened
accepted_whole = record {
  utf8 = (codes "<a><b>1</b><b>2</b></a>", (refl, refl));
  document = record { nests = refl; walked = refl };
  entities = refl;
  encoding = refl;
  widths = refl;
  twice = λ h. refl;
  names = λ h. refl;
}
