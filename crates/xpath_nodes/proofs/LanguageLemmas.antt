-- The attribute of the nearest element that says the language of a node.
use Rattle.std.proofs.Common.{◌≡◌, ℕ, zero, suc, ◌+◌, ◌*◌, ◌<◌, ◌^◌, Bool, true, false, not, cond, List, [], ◌∷◌, ◌++◌, length, map, refl, ap, ap₂, sym, ◌∙◌}
use Rattle.std.proofs.Common.{subst, arith, Option, Some, None, IfSome, is_some, bytes_eq, codes, find}
use Rattle.std.specs.Prelude.{encode_utf8_all, slice_get}
use Rattle.std.specs.List.{AllByRecursion as Each, Contains, cons_option}
use Rattle.std.proofs.Math.Utf8.{encode}
use Rattle.std.proofs.lemmas.Bool.{false≢true}
use Rattle.std.proofs.lemmas.List.{append-nil}
use Rattle.std.proofs.lemmas.List.Elements.{Contains-append_left, Contains-append_right}
use Rattle.std.proofs.lemmas.Slice.Eq.{bytes_eq-Decides}
use Rattle.xml_model.specs.declared.Kind.{Kind}
use Rattle.xml_model.specs.declared.Kind.TheVariants as kinds
use Rattle.xml_model.specs.declared.Node.{Node}
use Rattle.xml_model.specs.Chars.{size}
use Rattle.xml_model.specs.Items.{Attribute, Tag, Leaf, first_place, written_attribute}
use Rattle.xml_model.specs.Nest.{Forest, done, single, empty, element}
use Rattle.xml_model.specs.Records.{Record, declares, records, attributes_place, past_empty, past_element}
use Rattle.xml_model.specs.Scan.{record_at}
use Rattle.xml_model.specs.Tree.{Step, Thing, Entry, Here, Holder, Identifies, attributes, attribute_entry, nodes, all, at_first, root_entry, leaf_node}
use Rattle.xml_model.specs.Tree.{after_leaf, inside_of, after_element, element_entry, tag_attributes, under, held, kind_of, one_if, begins_run, run}
use Rattle.xml_model.specs.Content.{content}
use Rattle.xml_model.specs.Names.{scope, first_of}
use Rattle.xml_model.specs.Laws.{holder_index}
use Rattle.xml_model.specs.Laws.{is_root_thing}
use Rattle.xml_model.specs.Scan.{holder_by_scan}
use Rattle.xml_model.proofs.Inside.{root_first}
use Rattle.xml_model.proofs.NodeLaws.{holder_of_node}
use Rattle.xml_model.proofs.Things.{kind_root}
use Rattle.xml_model.proofs.Each.{each_at, each_append, each_map, each_more, each_option, if_some_cond, if_some_second, contains_here, contains_next}
use Rattle.xml_model.proofs.Each.{contains_map}
use Rattle.vtd_words.specs.declared.packing.Parts.{Parts}
use Rattle.vtd_words.specs.Packed.{record_of}
use Rattle.vtd_words.specs.Lists.{Lists}
use Rattle.vtd_words.specs.Table.{IsNestOf, IsNodeOf, Shows, nodes_of}
use Rattle.vtd_words.proofs.Fitting.{nest_shown}
use Rattle.vtd_text.specs.Joined.{slice_of}
use Rattle.vtd_text.specs.NameRecords.{is_attribute_name}
use Rattle.vtd_namespaces.specs.NameRecords.{AreAttributeRecords}
use Rattle.vtd_namespaces.specs.Reach.{reaching, with_own, IsElementAt}
use Rattle.vtd_namespaces.specs.Repeats.{HasNoAttribute}
use Rattle.vtd_namespaces.specs.Scope.{Chain, HolderIn, tags_in}
use Rattle.vtd_namespaces.proofs.DeclarationLemmas.{chain_attributes}
use Rattle.vtd_namespaces.proofs.HolderLemmas.{element_at, holder_lower}
use Rattle.vtd_namespaces.proofs.NameRecordLemmas.{document_holds}
use Rattle.vtd_namespaces.proofs.RepeatLemmas.{eq_encoded, no_attribute_there, index_more}
use Rattle.xpath_values.specs.Texts.{is_language}
use Rattle.xpath_meaning.specs.Functions.{language, is_some_language}
use Rattle.xpath_nodes.specs.Languages.{lang_of, IsLangAt, IsLangIn, IsLangNode, IsLangOf, IsNearestNode, IsNearestLang}

-- the name

lang_encoded : encode_utf8_all (codes "xml:lang") ≡ codes "xml:lang"
unfolding encode
lang_encoded = refl

no_declaration : declares (codes "xml:lang") ≡ false
unfolding declares
no_declaration = refl

-- a tag's attributes, one after another

-- so many names are passed, and none is the name
pub record Sought (bytes : List ℕ) (rs : List Record) (first n : ℕ) (t : Tag) : Type 0 where
  pub place : ℕ
  pub left : List Attribute
  pub hold : AreAttributeRecords bytes rs (first + 2 * n) place left
  pub same : lang_of t ≡ find (λ a. bytes_eq a.name (codes "xml:lang")) left
  pub number : (k : ℕ) → slice_get t.attributes (n + k) ≡ slice_get left k

pub none_sought : (bytes : List ℕ) (rs : List Record) (first at : ℕ) (t : Tag) → AreAttributeRecords bytes rs first at t.attributes → Sought bytes rs first 0 t
none_sought bytes rs first at t s =
    let e : first ≡ first + 2 * 0 = omega arith in
    record {
      place = at;
      left = t.attributes;
      hold = subst (λ k. AreAttributeRecords bytes rs k at t.attributes) e s;
      same = refl;
      number = λ k. let z : 0 +
          k ≡ k = omega arith in ap (slice_get t.attributes) z;
    }

pub all_sought : (bytes : List ℕ) (rs : List Record) (first n : ℕ) (t : Tag) → Sought bytes rs first n t → HasNoAttribute rs (first + 2 * n) → lang_of t ≡ None
all_sought bytes rs first n t s h = by s.left s.hold s.same
  where
    by : (left : List Attribute) → AreAttributeRecords bytes rs (first + 2 * n) s.place left → lang_of t ≡ find (λ a. bytes_eq a.name (codes "xml:lang")) left →
        lang_of t ≡ None
    by [] k e = e
    by (a ∷ left) k e = absurd (no_attribute_there bytes rs (first + 2 * n) _ a k.0 h)

-- the next name, by whether it is the name
pub record NextSought (bytes : List ℕ) (rs : List Record) (first n : ℕ) (t : Tag) (name : List ℕ) : Type 0 where
  pub hit : bytes_eq name (codes "xml:lang") ≡ true → IsLangAt first t (first + 2 * n)
  pub miss : bytes_eq name (codes "xml:lang") ≡ false → Sought bytes rs first (n + 1) t

pub next_sought : (bytes : List ℕ) (rs : List Record) (first n : ℕ) (t : Tag) (parts : Parts) (name : List ℕ) → Sought bytes rs first n t →
    record_of parts ≡ record_at (first + 2 * n) rs → is_attribute_name parts.token ≡ true →
    name ≡ slice_of bytes (record_of parts) → NextSought bytes rs first n t name
next_sought bytes rs first n t parts name s here kind is = by s.left s.hold s.same s.number
  where
    by : (left : List Attribute) → AreAttributeRecords bytes rs (first + 2 * n) s.place left → lang_of t ≡ find (λ a. bytes_eq a.name (codes "xml:lang")) left →
        ((k : ℕ) → slice_get t.attributes (n + k) ≡ slice_get left k) →
        NextSought bytes rs first n t name
    by [] k e i = absurd (false≢true (sym k ∙ ap (λ r. is_attribute_name r.token) (sym here) ∙ kind))
    by (a ∷ left) k e i =
        let here_zero : n + 0 ≡ n = omega arith in
        let written : name ≡ encode_utf8_all a.name = is ∙ ap (slice_of bytes) here ∙ k.0.name.slice in
        let test : bytes_eq name (codes "xml:lang") ≡ bytes_eq a.name (codes "xml:lang") = ap₂ bytes_eq written (sym lang_encoded)
        ∙ eq_encoded a.name (codes "xml:lang") in
        record {
          hit = λ h. record {
            attribute = a;
            found = e ∙ ap (λ b. cond b (Some a) (find (λ a. bytes_eq a.name (codes "xml:lang")) left)) (sym test ∙ h);
            number = n;
            holds = ap (slice_get t.attributes) (sym here_zero) ∙ i 0;
            index = refl;
          };
          miss = λ h. record {
            place = s.place + size (written_attribute a);
            left = left;
            hold = subst (λ m. AreAttributeRecords bytes rs m (s.place + size (written_attribute a)) left) (index_more first n) k.1;
            same = e ∙ ap (λ b. cond b (Some a) (find (λ a. bytes_eq a.name (codes "xml:lang")) left)) (sym test ∙ h);
            number = λ j. let m : n + 1 + j ≡ n + suc j = omega arith in ap (slice_get t.attributes) m ∙ i (suc j);
          };
        }

-- an attribute that is found has the name
found_by : (a b : Attribute) (left : Option Attribute) (t : Bool) → bytes_eq b.name (codes "xml:lang") ≡ t → cond t (Some b) left ≡ Some a →
    (left ≡ Some a → declares a.name ≡ false) → declares a.name ≡ false
found_by a b left true k e h =
    let same : b ≡ a = cc in
    ap (λ x. declares x.name) (sym same) ∙ ap declares ((bytes_eq-Decides b.name (codes "xml:lang")).0 k) ∙ no_declaration
found_by a b left false k e h = h e

found_named : (a : Attribute) (others : List Attribute) → find (λ a. bytes_eq a.name (codes "xml:lang")) others ≡ Some a → declares a.name ≡ false
found_named a [] e = absurd cc
found_named a (b ∷ others) e = found_by a b (find (λ a. bytes_eq a.name (codes "xml:lang")) others) (bytes_eq b.name (codes "xml:lang")) refl
    e (found_named a others)

-- the attributes of an element are nodes

abbrev twice : ℕ → ℕ
twice zero = zero
twice (suc j) = suc (suc (twice j))

twice_is : (j : ℕ) → twice j ≡ 2 * j
twice_is zero = refl
twice_is (suc j) = omega (arith, twice_is j)

-- the node of an attribute, at an index
pub record AttributeIn (es : List Entry) (n : ℕ) (a : Attribute) : Type 0 where
  pub entry : Entry
  pub there : Contains es entry
  pub what : entry.what ≡ Thing.attribute a
  pub index : entry.index ≡ n

in_more : (es fs : List Entry) (n m : ℕ) (a : Attribute) → ((e : Entry) → Contains es e → Contains fs e) → n ≡ m → AttributeIn es n a → AttributeIn fs m a
in_more es fs n m a f e k = record { entry = k.entry; there = f k.entry k.there; what = k.what; index = k.index ∙ e }

in_under : (s : Step) (es : List Entry) (n : ℕ) (a : Attribute) → AttributeIn es n a → AttributeIn (map (under s) es) n a
in_under s es n a k = record { entry = under s k.entry; there = contains_map (under s) es k.entry k.there; what = k.what; index = k.index }

option_more : (o : Option Entry) (es : List Entry) (e : Entry) → Contains es e → Contains (cons_option o es) e
option_more None es e c = c
option_more (Some x) es e c = contains_next x es e c

first_in : (t : Bool) → t ≡ false → (es : List Entry) (e : Entry) (n : ℕ) (a : Attribute) → e.what ≡ Thing.attribute a → e.index ≡ n →
    AttributeIn (cons_option (cond t None (Some e)) es) (n + 0) a
first_in true k es e n a w p = absurd (false≢true (sym k))
first_in false k es e n a w p = record { entry = e; there = contains_here e es; what = w; index = omega (arith, p) }

attribute_in : (others : List Attribute) (holders : List Holder) (at index i k : ℕ) (a : Attribute) → slice_get others k ≡ Some a → declares a.name ≡ false →
    AttributeIn (attributes holders at index i others) (index + twice k) a
attribute_in [] holders at index i k a g d = absurd cc
attribute_in (b ∷ others) holders at index i zero a g d =
    let same : b ≡ a = cc in
    first_in (declares b.name) (ap (λ x. declares x.name) same ∙ d)
    (attributes holders (at + size (written_attribute b)) (index + 2) (i + one_if (not (declares b.name))) others)
    (record {
      path = Step.attribute i ∷ [];
      what = Thing.attribute b;
      holders = holders;
      start = at + size b.space;
      stop = at + size (written_attribute b);
      index = index;
      past = index + 2;
    })
    index a (ap Thing.attribute same) refl
attribute_in (b ∷ others) holders at index i (suc k) a g d =
    in_more (attributes holders (at + size (written_attribute b)) (index + 2) (i + one_if (not (declares b.name))) others) _ (index + 2 + twice k)
    (index + suc (suc (twice k))) a
    (option_more (attribute_entry holders at index i b) _) (omega arith)
    (attribute_in others holders (at + size (written_attribute b)) (index + 2) (i + one_if (not (declares b.name))) k a g d)

-- an element's attributes are among some nodes
record HasOwn (es : List Entry) (e : Entry) : Type 0 where
  pub own : (t : Tag) (inside : Forest) → e.what ≡ Thing.element t inside → (k : ℕ) (a : Attribute) → slice_get t.attributes k ≡ Some a →
      declares a.name ≡ false → AttributeIn es (e.index + suc (twice k)) a

own_none : (es : List Entry) (e : Entry) → ((t : Tag) (inside : Forest) → e.what ≡ Thing.element t inside → ⊥) → HasOwn es e
own_none es e never = record { own = λ t inside w k a g d. absurd (never t inside w) }

own_more : (es fs : List Entry) (e : Entry) → ((x : Entry) → Contains es x → Contains fs x) → HasOwn es e → HasOwn fs e
own_more es fs e f h = record {
  own = λ t inside w k a g d. in_more es fs (e.index + suc (twice k)) (e.index + suc (twice k)) a f refl
      (h.own t inside w k a g d);
}

own_under : (s : Step) (es : List Entry) (e : Entry) → HasOwn es e → HasOwn (map (under s) es) (under s e)
own_under s es e h = record { own = λ t inside w k a g d. in_under s es (e.index + suc (twice k)) a (h.own t inside w k a g d) }

all_own_more : (es fs few : List Entry) → ((x : Entry) → Contains es x → Contains fs x) → Each (HasOwn es) few → Each (HasOwn fs) few
all_own_more es fs few f h = each_more (HasOwn es) (HasOwn fs) (λ e k. own_more es fs e f k) few h

attributes_own : (others : List Attribute) (es : List Entry) (holders : List Holder) (at place i : ℕ) → Each (HasOwn es) (attributes holders at place i others)
attributes_own [] es holders at place i = tt
attributes_own (a ∷ others) es holders at place i =
    each_option (HasOwn es) (attribute_entry holders at place i a) _ (if_some_second (HasOwn es) (declares a.name) _ (own_none es _ (λ t inside w. cc)))
    (attributes_own others es holders (at + size (written_attribute a)) (place + 2) (i + one_if (not (declares a.name))))

leaf_own : (x : Leaf) (f : Forest) (h : Here) (es : List Entry) → IfSome (leaf_node h x f) (HasOwn es)
leaf_own (Leaf.text ps) f h es = if_some_cond (HasOwn es) (begins_run h.holders h.joins (Leaf.text ps ∷ run f)) _ (own_none es _ (λ t inside w. cc))
leaf_own (Leaf.cdata cs) f h es = if_some_cond (HasOwn es) (begins_run h.holders h.joins (Leaf.cdata cs ∷ run f)) _ (own_none es _ (λ t inside w. cc))
leaf_own (Leaf.comment cs) f h es = own_none es _ (λ t inside w. cc)
leaf_own (Leaf.instruction i) f h es = own_none es _ (λ t inside w. cc)
leaf_own (Leaf.declaration d) f h es = tt
leaf_own (Leaf.doctype d) f h es = tt

own_here : (h : Here) (t : Tag) (inside : Forest) (stop : ℕ) (more : List Entry) →
    HasOwn (element_entry h t inside stop ∷ tag_attributes h t ++ more) (element_entry h t inside stop)
own_here h t inside stop more = record {
  own = λ u within w k a g d.
      let same : t ≡ u = cc in
      let n : suc h.index + twice k ≡ h.index + suc (twice k) = omega arith in
      in_more (tag_attributes h t) _ (suc h.index + twice k) (h.index + suc (twice k)) a
      (λ e c. contains_next (element_entry h t inside stop) (tag_attributes h t ++ more) e (Contains-append_left (tag_attributes h t) more e c)) n
      (attribute_in t.attributes (held h t) (attributes_place h.at t) (suc h.index) 0 k a (ap (λ x. slice_get x.attributes k) same ∙ g) d);
}

-- of what is under one step
step_own : (s : Step) (own more : List Entry) → Each (HasOwn own) own → Each (HasOwn (map (under s) own ++ more)) (map (under s) own)
step_own s own more h =
    all_own_more (map (under s) own) _ (map (under s) own) (Contains-append_left (map (under s) own) more)
    (each_map (HasOwn (map (under s) own)) (under s) own (each_more (HasOwn own) (λ e. HasOwn (map (under s) own) (under s e)) (own_under s own) own h))

nodes_own : (f : Forest) (h : Here) → Each (HasOwn (nodes h f)) (nodes h f)
nodes_own done h = tt
nodes_own (single x f) h =
    each_option (HasOwn (nodes h (single x f))) (leaf_node h x f) (nodes (after_leaf h x f) f) (leaf_own x f h _)
    (all_own_more (nodes (after_leaf h x f) f) _ _ (option_more (leaf_node h x f) (nodes (after_leaf h x f) f)) (nodes_own f (after_leaf h x f)))
nodes_own (empty t f) h =
    let stop = past_empty h.at t in
    let more = nodes (after_element h t done stop) f in
    let own = element_entry h t done stop ∷ tag_attributes h t in
    let first : HasOwn own (element_entry h t done stop) =
    subst (λ es. HasOwn (element_entry h t done stop ∷ es) (element_entry h t done stop)) (append-nil (tag_attributes h t)) (own_here h t done stop []) in
    each_append (HasOwn (nodes h (empty t f))) (map (under (Step.child h.number)) own) more
    (step_own (Step.child h.number) own more (first, attributes_own t.attributes own (held h t) (attributes_place h.at t) (suc h.index) 0))
    (all_own_more more _ more (Contains-append_right (map (under (Step.child h.number)) own) more) (nodes_own f (after_element h t done stop)))
nodes_own (element t inside space f) h =
    let stop = past_element h.at t inside space in
    let more = nodes (after_element h t inside stop) f in
    let within = nodes (inside_of h t) inside in
    let own = element_entry h t inside stop ∷ tag_attributes h t ++ within in
    let inner : Each (HasOwn own) within =
    all_own_more within own within (λ e k. contains_next (element_entry h t inside stop) (tag_attributes h t ++ within) e
    (Contains-append_right (tag_attributes h t) within e k)) (nodes_own inside (inside_of h t)) in
    each_append (HasOwn (nodes h (element t inside space f))) (map (under (Step.child h.number)) own) more
    (step_own (Step.child h.number) own more (
      own_here h t inside stop within,
      each_append (HasOwn own) (tag_attributes h t) within
          (attributes_own t.attributes own (held h t) (attributes_place h.at t) (suc h.index) 0) inner,
    ))
    (all_own_more more _ more (Contains-append_right (map (under (Step.child h.number)) own) more) (nodes_own f (after_element h t inside stop)))

document_own : (nest : Forest) (first : ℕ) → Each (HasOwn (all nest first)) (all nest first)
unfolding all
document_own nest first = (
  own_none _ (root_entry nest first) (λ t inside w. cc),
  all_own_more (nodes (at_first first) nest) _ (nodes (at_first first) nest) (contains_next (root_entry nest first) (nodes (at_first first) nest))
      (nodes_own nest (at_first first)),
)

-- the attribute of an element

abbrev pub attribute_node : ℕ → Node
attribute_node n = record { kind = kinds.Attribute; at = n }

lang_stands : (bytes : List ℕ) (nest : Forest) (x : Holder) (xs : List Holder) → HolderIn (nodes_of bytes nest) x xs → (first n : ℕ) → first ≡ x.index + 1 →
    IsLangAt first x.tag n → IsLangNode (nodes_of bytes nest) x.tag (attribute_node n)
unfolding content
lang_stands bytes nest x xs h first n f k =
    let own : HasOwn (nodes_of bytes nest) h.entry = each_at (HasOwn (nodes_of bytes nest)) (nodes_of bytes nest) h.entry
    (document_own nest (first_place bytes)) h.there in
    let a = own.own x.tag h.inside h.what k.number k.attribute k.holds (found_named k.attribute x.tag.attributes k.found) in
    record {
      attribute = k.attribute;
      found = k.found;
      entry = a.entry;
      stands = (a.there, ap kind_of a.what, a.index ∙ omega (arith, twice_is k.number, k.index, f, h.index));
      says = ap content a.what;
    }

-- what a search in its tag finds
abbrev Finds : List ℕ → Lists → ℕ → Option ℕ → Type 0
Finds bytes lists first r = (rs : List Record) → Shows lists.records rs → (start : ℕ) (t : Tag) → AreAttributeRecords bytes rs first start t.attributes →
    IsLangIn first t r

lang_in_tag : (bytes : List ℕ) (lists : Lists) → length bytes < 2 ^ 30 → (nest : Forest) → IsNestOf bytes lists nest → (x : Holder) (xs : List Holder) →
    HolderIn (nodes_of bytes nest) x xs → (first : ℕ) (r : Option ℕ) → first ≡ x.index + 1 → Finds bytes lists first r → IsLangIn first x.tag r
lang_in_tag bytes lists few nest s x xs h first r f known =
    let rs = records nest (first_place bytes) in
    let a = chain_attributes bytes rs (nodes_of bytes nest) (document_holds bytes nest s.accepted.document) x xs h in
    known rs (nest_shown bytes lists nest few s) a.0 x.tag (subst (λ n. AreAttributeRecords bytes rs n a.0 x.tag.attributes) (sym f) a.1)

pub tag_has_none : (bytes : List ℕ) (lists : Lists) → length bytes < 2 ^ 30 → (tag first : ℕ) (r : Option ℕ) → first ≡ tag + 1 → Finds bytes lists first r →
    r ≡ None →
    (nest : Forest) → IsNestOf bytes lists nest → (x : Holder) (xs : List Holder) → Chain (nodes_of bytes nest) (x ∷ xs) → x.index ≡ tag → lang_of x.tag ≡ None
tag_has_none bytes lists few tag first r f known e nest s x xs c h =
    subst (IsLangIn first x.tag) e (lang_in_tag bytes lists few nest s x xs c.0 first r (f ∙ ap (λ k. k + 1) (sym h)) known)

pub tag_has_one : (bytes : List ℕ) (lists : Lists) → length bytes < 2 ^ 30 → (tag first : ℕ) (r : Option ℕ) (n : ℕ) → first ≡ tag + 1 →
    Finds bytes lists first r → r ≡ Some n →
    (nest : Forest) → IsNestOf bytes lists nest → (x : Holder) (xs : List Holder) → Chain (nodes_of bytes nest) (x ∷ xs) → x.index ≡ tag →
    IsLangNode (nodes_of bytes nest) x.tag (attribute_node n)
tag_has_one bytes lists few tag first r n f known e nest s x xs c h =
    let there : first ≡ x.index + 1 = f ∙ ap (λ k. k + 1) (sym h) in
    lang_stands bytes nest x xs c.0 first n there (subst (IsLangIn first x.tag) e (lang_in_tag bytes lists few nest s x xs c.0 first r there known))

-- it is a node of the table
pub lang_is_node : (bytes : List ℕ) (lists : Lists) → length bytes < 2 ^ 30 → (tag first : ℕ) (r : Option ℕ) (n : ℕ) → first ≡ tag + 1 →
    Finds bytes lists first r → r ≡ Some n → IsElementAt bytes lists tag → IsNodeOf bytes lists (attribute_node n)
lang_is_node bytes lists few tag first r n f known e is =
    let at = element_at bytes lists tag is in
    let k = tag_has_one bytes lists few tag first r n f known e at.nest at.shown at.own at.holders at.chain at.index in
    record { nest = at.nest; shown = at.shown; entry = k.entry; holds = k.stands }

-- the elements above, one after another

pub record LeftAbove (es : List Entry) (hs : List Holder) (at : ℕ) : Type 0 where
  pub left : List Holder
  pub chain : Chain es left
  pub index : holder_index left ≡ at
  pub same : language (tags_in hs) ≡ language (tags_in left)

pub all_above : (es : List Entry) (hs : List Holder) (at : ℕ) → Chain es hs → holder_index hs ≡ at → LeftAbove es hs at
all_above es hs at c h = record { left = hs; chain = c; index = h; same = refl }

pub none_above : (bytes : List ℕ) (lists : Lists) (nest : Forest) → IsNestOf bytes lists nest → (hs : List Holder) (at : ℕ) →
    LeftAbove (nodes_of bytes nest) hs at → at ≡ 0 → language (tags_in hs) ≡ None
none_above bytes lists nest s hs at l z = l.same ∙ by l.left l.chain (l.index ∙ z)
  where
    by : (left : List Holder) → Chain (nodes_of bytes nest) left → holder_index left ≡ 0 → language (tags_in left) ≡ None
    by [] c h = refl
    by (x ∷ xs) c h = absurd (omega (arith, holder_lower bytes lists nest s x xs c, h))

-- the next element
pub record NextAbove (es : List Entry) (hs : List Holder) (at : ℕ) (r : Option Node) : Type 0 where
  pub found : is_some r ≡ true → IsNearestLang es hs r
  pub missing : is_some r ≡ false → (up : ℕ) → ((x : Holder) (xs : List Holder) → Chain es (x ∷ xs) → x.index ≡ at → up ≡ holder_index xs) → LeftAbove es hs up

pub next_above : (es : List Entry) (hs : List Holder) (at : ℕ) (r : Option Node) → LeftAbove es hs at → (at ≡ 0 → ⊥) →
    ((x : Holder) (xs : List Holder) → Chain es (x ∷ xs) → x.index ≡ at → IsLangOf es x.tag r) → NextAbove es hs at r
next_above es hs at r l z known = by l.left l.chain l.index l.same
  where
    by : (left : List Holder) → Chain es left → holder_index left ≡ at → language (tags_in hs) ≡ language (tags_in left) → NextAbove es hs at r
    by [] c h e = absurd (z (sym h))
    by (x ∷ xs) c h e = answer r (known x xs c h)
      where
        answer : (o : Option Node) → IsLangOf es x.tag o → NextAbove es hs at o
        answer None t = record {
          found = λ k. absurd (false≢true k);
          missing = λ k up u. record { left = xs; chain = c.1; index = sym (u x xs c h); same = e ∙ ap (λ q. first_of q (language (tags_in xs))) t };
        }
        answer (Some n) d = record {
          found = λ k. record {
            entry = d.entry;
            stands = d.stands;
            says = e ∙ ap (λ q. first_of q (language (tags_in xs))) d.found
                ∙ ap (λ v. Some v) (sym d.says);
          };
          missing = λ k up u. absurd (false≢true (sym k));
        }

-- the tags that reach a node
tags_by : (e : Entry) (what : Thing) → tags_in (with_own what e.index e.holders) ≡ scope (record e { what = what })
tags_by e (Thing.root first f) = refl
tags_by e (Thing.element t inside) = refl
tags_by e (Thing.attribute a) = refl
tags_by e (Thing.text xs) = refl
tags_by e (Thing.comment cs) = refl
tags_by e (Thing.instruction i) = refl

pub tags_reaching : (e : Entry) → tags_in (reaching e) ≡ scope e
tags_reaching e = tags_by e e.what

-- nothing holds the root

root_own : (what : Thing) (at : ℕ) (hs : List Holder) → is_root_thing what ≡ true → with_own what at hs ≡ hs
root_own (Thing.root first f) at hs h = refl
root_own (Thing.element t inside) at hs h = absurd (false≢true h)
root_own (Thing.attribute a) at hs h = refl
root_own (Thing.text xs) at hs h = refl
root_own (Thing.comment cs) at hs h = refl
root_own (Thing.instruction i) at hs h = refl

pub root_reaching : (bytes : List ℕ) (lists : Lists) (nest : Forest) → IsNestOf bytes lists nest → (kind : Kind) (at : ℕ) → kind ≡ kinds.Root → (e : Entry) →
    Identifies kind at e (nodes_of bytes nest) → 0 ≡ holder_index (reaching e)
root_reaching bytes lists nest s kind at k e w =
    let first = first_place bytes in
    let r = kind_root e.what (w.1 ∙ k) in
    sym (ap (λ n. holder_by_scan n (records nest first)) (root_first nest first s.accepted.document.nests e w.0 r))
    ∙ holder_of_node nest first s.accepted.document.nests e w.0 ∙ ap holder_index (sym (root_own e.what e.index e.holders r))

-- whether the language is asked for

pub no_language : (es : List Entry) (e : Entry) (asked : List ℕ) (r : Option Node) → r ≡ None → IsNearestLang es (reaching e) r →
    false ≡ is_some_language asked (language (scope e))
no_language es e asked r n k =
    let none : language (tags_in (reaching e)) ≡ None = subst (IsNearestLang es (reaching e)) n k in
    sym (ap (is_some_language asked) (ap language (sym (tags_reaching e)) ∙ none))

pub some_language : (es : List Entry) (e : Entry) (asked value : List ℕ) (r : Option Node) (node : Node) → r ≡ Some node → IsNearestLang es (reaching e) r →
    ((x : Entry) → Identifies node.kind node.at x es → value ≡ content x.what) → is_language value asked ≡ is_some_language asked (language (scope e))
some_language es e asked value r node n k known =
    let one : IsNearestNode es (reaching e) node = subst (IsNearestLang es (reaching e)) n k in
    ap (λ v. is_language v asked) (known one.entry one.stands) ∙ sym (ap (is_some_language asked) (ap language (sym (tags_reaching e)) ∙ one.says))
