-- An element of an accepted document, cut out, is a document of its own that shows the same.
use Rattle.std.proofs.Common.{◌≡◌, ℕ, ◌+◌, ◌-◌, ◌≤◌, true, false, inl, inr, List, [], ◌∷◌, ◌++◌, map, length, take, drop, refl}
use Rattle.std.proofs.Common.{sym, ap, subst, ◌∙◌}
use Rattle.std.proofs.Common.{arith, length-append}
use Rattle.std.specs.Prelude.{codes, Contains}
use Rattle.std.specs.List.{list_all}
use lib.Utf8.{encode, encodes}
use Rattle.xml_model.specs.declared.Kind.TheVariants as kinds
use Rattle.xml_model.specs.Chars.{size, begins}
use Rattle.xml_model.specs.Items.{Attribute, Tag, start_tag, meets, meets_attribute, first_place, byte_order_mark, is_nil}
use Rattle.xml_model.specs.Nest.{Forest, done, empty, element, flat}
use Rattle.xml_model.specs.Records.{past_forest, past_empty, past_element}
use Rattle.xml_model.specs.Tree.{Step, Thing, Entry, kind_of, all, at_first, nodes, under, element_entry, tag_attributes}
use Rattle.xml_model.specs.Tree.{inside_of, root_entry}
use Rattle.xml_model.specs.Accepted.{Accepted}
use Rattle.xml_model.specs.Names.{expanded}
use Rattle.xml_model.proofs.Things.{element_of}
use Rattle.xml_model.proofs.Each.{contains_here, contains_next}
use Rattle.xml_nests.specs.Fits.{document_of, spelled, mark, mark_length, Fits}
use Rattle.xml_nests.specs.Context.{Context, plug, tags_in, place_in, items_before, items_after}
use Rattle.xml_nests.specs.Stand.{Stand, StandsBy, IsElement}
use Rattle.xml_nests.proofs.Law.{accepted_from_nest}
use Rattle.xml_nests.proofs.Back.{fits_from_accepted, document_spelled}
use Rattle.xml_nests.proofs.Stands.{each_stands}
use Rattle.xml_nests.proofs.Bytes.{past_spelled, place_spelled, document_parts, mark_size, first_is_mark}
use Rattle.xml_fragments.specs.Cut.{shown, Shown, cut_tag, needed, tags_held, whole_nodes}
use Rattle.xml_fragments.specs.Fragment.{subtree, needed_of, name_end, name_size, cut_of, IsDocumentOfItsOwn}
use Rattle.xml_fragments.proofs.Subtree.{pathless, Falls, Nodes, nodes_of}
use Rattle.xml_fragments.proofs.NeededBy.{needed_same}
use Rattle.xml_fragments.proofs.CutNode.{cut_node, clean_in}
use Rattle.xml_fragments.proofs.CutNames.{all_sound}
use Rattle.xml_fragments.proofs.CutFits.{one, parts_of, tags_items, all_more, start_attributes}
use Rattle.xml_fragments.proofs.CutDocument.{cut_fits}
use Rattle.xml_fragments.proofs.CutEmpty.{alone_fits}
use Rattle.xml_fragments.proofs.CutBytes.{inserted, front_of, inserts, Parts, whole_parts, alone_parts}
use Rattle.xml_fragments.proofs.CutLength.{size_append, spaced_all, needed_size, tags_weigh}

-- an element in its place, and the same under the cut tag
record Place (bytes : List ℕ) (nest : Forest) (e : Entry) (t : Tag) (inside : Forest) : Type 0 where
  around : Context
  old : Forest
  new : Forest
  split : nest ≡ plug around old
  tags : tags_held e.holders ≡ tags_in [] around
  starts : e.start ≡ place_in (first_place bytes) around
  stops : e.stop ≡ past_forest (place_in (first_place bytes) around) old
  fits : Fits 8 new
  parts : Parts old new t (inserts (needed t inside [] (tags_in [] around)))
  there : (first : ℕ) →
      (d : Entry) × Contains (all new first) d × (d.what ≡ Thing.element (cut_tag t inside (tags_in [] around)) inside) ×
      (d.path ≡ Step.child 0 ∷ []) × (d.holders ≡ [])

second : (x y : Entry) (ys : List Entry) → Contains (x ∷ y ∷ ys) y
second x y ys = contains_next x (y ∷ ys) y (contains_here y ys)

whole_there : (u : Tag) (inside : Forest) (space : List ℕ) (first : ℕ) →
    (d : Entry) × Contains (all (element u inside space done) first) d × (d.what ≡ Thing.element u inside) ×
    (d.path ≡ Step.child 0 ∷ []) × (d.holders ≡ [])
unfolding all
whole_there u inside space first =
    let h = at_first first in
    let s = Step.child 0 in
    let d = under s (element_entry h u inside (past_element h.at u inside space)) in (
      d,
      second (root_entry (element u inside space done) first) d
          (map (under s) (tag_attributes h u ++ nodes (inside_of h u) inside) ++ []),
      refl,
      refl,
      refl,
    )

alone_there : (u : Tag) (first : ℕ) →
    (d : Entry) × Contains (all (empty u done) first) d × (d.what ≡ Thing.element u done) × (d.path ≡ Step.child 0 ∷ []) ×
    (d.holders ≡ [])
unfolding all
alone_there u first =
    let h = at_first first in
    let s = Step.child 0 in
    let d = under s (element_entry h u done (past_empty h.at u)) in
    (d, second (root_entry (empty u done) first) d (map (under s) (tag_attributes h u) ++ []), refl, refl, refl)

place_whole : (bytes : List ℕ) (nest : Forest) (e : Entry) (t : Tag) (inside g : Forest) → Accepted 8 bytes nest → IsElement t inside g →
    Stand (at_first (first_place bytes)) nest g e.holders e.start e.stop e.index → Place bytes nest e t inside
place_whole bytes nest e t inside g a (inl (space, is)) s =
    let c = s.around in
    let f : Fits 8 (plug c (one t inside space)) = subst (Fits 8) (s.split ∙ ap (plug c) is) (fits_from_accepted 8 bytes nest a) in
    record {
      around = c;
      old = element t inside space done;
      new = element (cut_tag t inside (tags_in [] c)) inside space done;
      split = s.split ∙ ap (plug c) is;
      tags = s.tags;
      starts = s.starts;
      stops = s.stops ∙ ap (past_forest (place_in (first_place bytes) c)) is;
      fits = cut_fits c t inside space f;
      parts = whole_parts t inside space (tags_in [] c);
      there = whole_there (cut_tag t inside (tags_in [] c)) inside space;
    }
place_whole bytes nest e t inside g a (inr is) s =
    subst (λ (f : Forest). Place bytes nest e t f) (sym is.1)
    (place_alone s.around (s.split ∙ ap (plug s.around) is.0) s.tags s.starts
    (s.stops ∙ ap (past_forest (place_in (first_place bytes) s.around)) is.0))
  where
    place_alone : (c : Context) → nest ≡ plug c (empty t done) → tags_held e.holders ≡ tags_in [] c →
        e.start ≡ place_in (first_place bytes) c →
        e.stop ≡ past_forest (place_in (first_place bytes) c) (empty t done) → Place bytes nest e t done
    place_alone c split tags starts stops = record {
      around = c;
      old = empty t done;
      new = empty (cut_tag t done (tags_in [] c)) done;
      split = split;
      tags = tags;
      starts = starts;
      stops = stops;
      fits = alone_fits c t (subst (Fits 8) split (fits_from_accepted 8 bytes nest a));
      parts = alone_parts t (tags_in [] c);
      there = alone_there (cut_tag t done (tags_in [] c));
    }

shown_pathless : (es : List Entry) → map shown (map pathless es) ≡ map shown es
unfolding expanded
shown_pathless [] = refl
shown_pathless (e ∷ es) = ap (λ (xs : List Shown). shown e ∷ xs) (shown_pathless es)

-- ---- what is needed, and the bytes

needed_is : (bytes : List ℕ) (nest : Forest) (e : Entry) (t : Tag) (inside : Forest) → Accepted 8 bytes nest →
    (s : Place bytes nest e t inside) →
    Nodes nest (first_place bytes) e t inside →
    needed_of (subtree e.path (all nest (first_place bytes))) e.holders ≡ needed t inside [] (tags_in [] s.around)
needed_is bytes nest e t inside a s n =
    let c = s.around in
    let f : Fits 8 (plug c s.old) = subst (Fits 8) s.split (fits_from_accepted 8 bytes nest a) in
    let clean = clean_in c [] 0 s.old (ap is_nil (f.twice (omega arith))) (ap is_nil (f.names (omega arith))) tt refl in
    let sound : all_sound (tags_held e.holders) ≡ true = ap all_sound s.tags ∙ clean.1 in
    needed_same (subtree e.path (all nest (first_place bytes))) n.here t inside n.stop n.are [] e.holders [] n.holders
    (subst (λ (k : ℕ). Falls k e.holders) (sym n.begins) n.falls) sound (λ p. refl)
    ∙ ap (λ (ts : List Tag). needed t inside [] ts) s.tags

front_length : (t : Tag) → length (front_of t) ≡ 1 + size t.name
unfolding size encode
front_length t = size_append (codes "<") t.name

-- the bytes of the cut are what the new nest spells
cut_is : (bytes : List ℕ) (nest : Forest) (e : Entry) (t : Tag) (inside : Forest) → Accepted 8 bytes nest →
    e.what ≡ Thing.element t inside →
    (s : Place bytes nest e t inside) → (n : Nodes nest (first_place bytes) e t inside) →
    cut_of bytes (all nest (first_place bytes)) e ≡ document_of false s.new
unfolding document_of
cut_is bytes nest e t inside a is s n =
    let c = s.around in
    let p = s.parts in
    let m = begins byte_order_mark bytes in
    let before = mark m ++ spelled (items_before c) in
    let placed : Accepted 8 bytes (plug c s.old) = subst (Accepted 8 bytes) s.split a in
    let whole : bytes ≡ before ++ ((front_of t ++ p.rest) ++ spelled (items_after c)) =
    document_spelled bytes (plug c s.old) placed.document ∙ document_parts m c s.old
    ∙ ap (λ (l : List ℕ). before ++ (l ++ spelled (items_after c))) p.old in
    let start : length before ≡ e.start =
    length-append (mark m) (spelled (items_before c))
    ∙ omega (arith, s.starts, place_spelled (first_place bytes) c, first_is_mark 8 bytes (plug c s.old) placed, mark_size m) in
    let name : name_end e ≡ e.start + length (front_of t) =
    ap (λ (w : Thing). e.start + 1 + name_size w) is ∙ omega (arith, front_length t) in
    let stop : e.stop ≡ e.start + length (front_of t ++ p.rest) =
    omega (arith, s.starts, s.stops, past_spelled (place_in (first_place bytes) c) s.old, ap length p.old) in
    ap (λ (ds : List Attribute). take (name_end e - e.start) (drop e.start bytes) ++ encodes (spaced_all ds) ++ take
    (e.stop - name_end e) (drop (name_end e) bytes))
    (needed_is bytes nest e t inside a s n)
    ∙ inserted before (front_of t) p.rest (spelled (items_after c)) (inserts (needed t inside [] (tags_in [] c))) bytes e.start
    (name_end e) e.stop whole start name stop
    ∙ sym p.new

-- ---- its length

cut_length : (bytes : List ℕ) (nest : Forest) (e : Entry) (t : Tag) (inside : Forest) → Accepted 8 bytes nest →
    (s : Place bytes nest e t inside) →
    length (document_of false s.new) ≤ length bytes
unfolding document_of size
cut_length bytes nest e t inside a s =
    let c = s.around in
    let p = s.parts in
    let m = begins byte_order_mark bytes in
    let tags = tags_in [] c in
    let y = inserts (needed t inside [] tags) in
    let placed : Accepted 8 bytes (plug c s.old) = subst (Accepted 8 bytes) s.split a in
    let f = fits_from_accepted 8 bytes (plug c s.old) placed in
    let q = parts_of meets c s.old f.meets_all in
    let meet = all_more (λ u. meets (start_tag u)) (λ u. list_all meets_attribute u.attributes) start_attributes tags
    (tags_items meets c [] q.0 refl) in
    let few = needed_size t inside tags [] meet in
    let round = tags_weigh c (mark_length m) [] in
    let before = mark m ++ spelled (items_before c) in
    let whole : length bytes ≡ length (before ++ (spelled (flat s.old) ++ spelled (items_after c))) =
    ap length (document_spelled bytes (plug c s.old) placed.document ∙ document_parts m c s.old) in
    let one = length-append before (spelled (flat s.old) ++ spelled (items_after c)) in
    let two = length-append (spelled (flat s.old)) (spelled (items_after c)) in
    let three = length-append (mark m) (spelled (items_before c)) in
    let old : length (spelled (flat s.old)) ≡ length (front_of t) + length p.rest = ap length p.old ∙ length-append (front_of t) p.rest in
    let new : length (spelled (flat s.new)) ≡ length (front_of t) + (length y + length p.rest) =
    ap length p.new ∙ length-append (front_of t) (y ++ p.rest) ∙ ap (λ (k : ℕ). length (front_of t) + k) (length-append y p.rest) in
    let at = place_spelled (mark_length m) c in
    omega (arith, few, round, whole, one, two, three, old, new, at, mark_size m)

-- ---- its nodes

cut_nodes : (bytes : List ℕ) (nest : Forest) (e : Entry) (t : Tag) (inside : Forest) (first : ℕ) → Accepted 8 bytes nest →
    Contains (all nest (first_place bytes)) e → e.what ≡ Thing.element t inside → (s : Place bytes nest e t inside) →
    Nodes nest (first_place bytes) e t inside →
    map shown (subtree e.path (all nest (first_place bytes))) ≡ map shown (subtree (Step.child 0 ∷ []) (all s.new first))
cut_nodes bytes nest e t inside first a there is s n =
    let d = s.there first in
    let u = cut_tag t inside (tags_in [] s.around) in
    let k = nodes_of s.new first d.0 u inside d.1 d.2 in
    let es = subtree e.path (all nest (first_place bytes)) in
    let ds = subtree d.0.path (all s.new first) in
    let same : tags_held n.here.holders ≡ tags_in [] s.around = ap tags_held n.holders ∙ s.tags in
    sym (shown_pathless es) ∙ ap (map shown) n.are ∙ shown_pathless (whole_nodes n.here t inside n.stop)
    ∙ cut_node bytes nest e t inside n.here k.here n.stop k.stop a there is n.holders (k.holders ∙ d.4)
    ∙ ap (λ (ts : List Tag). map shown (whole_nodes k.here (cut_tag t inside ts) inside k.stop)) same
    ∙ sym (shown_pathless (whole_nodes k.here u inside k.stop)) ∙ ap (map shown) (sym k.are) ∙ shown_pathless ds
    ∙ ap (λ (p : List Step). map shown (subtree p (all s.new first))) d.3

-- ---- the law

cut_by : (bytes : List ℕ) (nest : Forest) (e : Entry) (t : Tag) (inside : Forest) → Accepted 8 bytes nest →
    Contains (all nest (first_place bytes)) e →
    e.what ≡ Thing.element t inside → Place bytes nest e t inside → Nodes nest (first_place bytes) e t inside →
    IsDocumentOfItsOwn bytes nest e
cut_by bytes nest e t inside a there is s n =
    let same = cut_is bytes nest e t inside a is s n in
    let cut = cut_of bytes (all nest (first_place bytes)) e in
    record {
      new = s.new;
      accepted = subst (λ (l : List ℕ). Accepted 8 l s.new) (sym same) (accepted_from_nest 8 false s.new s.fits);
      no_longer = omega (arith, ap length same, cut_length bytes nest e t inside a s);
      same = cut_nodes bytes nest e t inside (first_place cut) a there is s n;
    }

pub cut_is_document : (bytes : List ℕ) (nest : Forest) (e : Entry) → Accepted 8 bytes nest → Contains (all nest (first_place bytes)) e →
    kind_of e.what ≡ kinds.Element →
    IsDocumentOfItsOwn bytes nest e
cut_is_document bytes nest e a there k =
    let w = element_of e.what k in
    let first = first_place bytes in
    let s = subst (λ (x : Thing). StandsBy x (at_first first) nest e.holders e.start e.stop e.index) w.2
    (each_stands nest first e there) in
    cut_by bytes nest e w.0 w.1 a there w.2 (place_whole bytes nest e w.0 w.1 s.0 a s.1 s.2) (nodes_of nest first e w.0 w.1 there w.2)

-- what the nodes of an element need is what its tag and what is in it need of the tags round it
pub needed_by_tags : (bytes : List ℕ) (nest : Forest) (e : Entry) (t : Tag) (inside : Forest) → Accepted 8 bytes nest →
    Contains (all nest (first_place bytes)) e → e.what ≡ Thing.element t inside →
    needed_of (subtree e.path (all nest (first_place bytes))) e.holders ≡ needed t inside [] (tags_held e.holders)
needed_by_tags bytes nest e t inside a there is =
    let first = first_place bytes in
    let s = subst (λ (x : Thing). StandsBy x (at_first first) nest e.holders e.start e.stop e.index) is
    (each_stands nest first e there) in
    let p = place_whole bytes nest e t inside s.0 a s.1 s.2 in
    needed_is bytes nest e t inside a p (nodes_of nest first e t inside there is)
    ∙ ap (λ (ts : List Tag). needed t inside [] ts) (sym p.tags)
