-- What is appended of the declarations of the elements round an element.
use Rattle.std.proofs.Common.{◌≡◌, ℕ, ◌+◌, ◌*◌, ◌<◌, true, List, [], ◌∷◌, ◌++◌, length, refl, ap, sym, ◌∙◌, subst, arith, append_assoc, append-nil, length-append}
use Rattle.std.specs.Prelude.{filter}
use Rattle.std.specs.List.{slice_index_or}
use Rattle.std.proofs.lemmas.Bool.{false≢true}
use Rattle.std.proofs.lemmas.List.Elements.{filter-append}
use Rattle.xml_model.specs.declared.Kind.TheVariants as kinds
use Rattle.xml_model.specs.declared.Node.{Node}
use Rattle.xml_model.specs.Chars.{size}
use Rattle.xml_model.specs.Items.{Attribute, first_place, written_attribute}
use Rattle.xml_model.specs.Nest.{Forest}
use Rattle.xml_model.specs.Records.{Record, records}
use Rattle.xml_model.specs.Scan.{record_at}
use Rattle.xml_model.specs.Tree.{Entry, Holder, Identifies}
use Rattle.vtd_words.specs.Lists.{Lists}
use Rattle.vtd_words.specs.Table.{IsNestOf, nodes_of}
use Rattle.vtd_words.specs.declared.packing.Parts.{Parts}
use Rattle.vtd_words.specs.Packed.{record_of}
use Rattle.vtd_text.specs.NameRecords.{is_attribute_name}
use Rattle.vtd_namespaces.specs.NameRecords.{AreAttributeRecords}
use Rattle.vtd_namespaces.specs.OpenTags.{open_before}
use Rattle.vtd_namespaces.specs.Repeats.{HasNoAttribute}
use Rattle.vtd_namespaces.specs.Scope.{Chain, Opened}
use Rattle.vtd_namespaces.proofs.DeclarationLemmas.{chain_attributes}
use Rattle.vtd_namespaces.proofs.NameRecordLemmas.{document_holds}
use Rattle.vtd_namespaces.proofs.OpenLemmas.{opened_at}
use Rattle.vtd_namespaces.proofs.RepeatLemmas.{no_attribute_there, index_more}
use Rattle.xml_fragments.specs.Fragment.{needs, needed_of}
use Rattle.vtd_fragment.specs.Round.{AtLevel, inserted}
use Rattle.vtd_fragment.proofs.AttributeLemmas.{inserted_append}
use Rattle.vtd_fragment.proofs.NeedLemmas.{chain_of, chain_split}

-- ---- the declarations of one element

-- so many attributes are passed, and those that are needed are appended
pub record Pushed (bytes : List ℕ) (rs : List Record) (es : List Entry) (x : Holder) (number : ℕ) (old out : List ℕ) : Type 0 where
  pub before : List Attribute
  pub left : List Attribute
  pub split : x.tag.attributes ≡ before ++ left
  pub many : length before ≡ number
  pub place : ℕ
  pub hold : AreAttributeRecords bytes rs (x.index + 1 + 2 * number) place left
  pub pushed : out ≡ old ++ inserted (filter (needs es x) before)

pub none_pushed : (bytes : List ℕ) (lists : Lists) (node : Node) (level : ℕ) (r : AtLevel bytes lists node level) (es : List Entry) (out : List ℕ) →
    Pushed bytes (records r.nest (first_place bytes)) es r.holder 0 out out
none_pushed bytes lists node level r es out =
    let rs = records r.nest (first_place bytes) in
    let c = subst (Chain (nodes_of bytes r.nest)) r.split (chain_of bytes r.nest r.entry r.holds.0) in
    let a = chain_attributes bytes rs (nodes_of bytes r.nest) (document_holds bytes r.nest r.accepted.document) r.holder r.far (chain_split (nodes_of bytes r.nest) r.near r.far r.holder c) in
    let zero : r.holder.index + 1 ≡ r.holder.index + 1 + 2 * 0 = omega arith in
    record {
      before = [];
      left = r.holder.tag.attributes;
      split = refl;
      many = refl;
      place = a.0;
      hold = subst (λ n. AreAttributeRecords bytes rs n a.0 r.holder.tag.attributes) zero a.1;
      pushed = sym (append-nil out);
    }

-- what is appended for the next attribute, by the record of its name
abbrev pub PushesNext : List Entry → Holder → ℕ → List ℕ → List ℕ → Type 0
PushesNext es x at old out = (before after : List Attribute) (a : Attribute) → x.tag.attributes ≡ before ++ a ∷ after → at ≡ x.index + 1 + 2 * length before → out ≡ old ++ inserted (filter (needs es x) (a ∷ []))

pub next_pushed : (bytes : List ℕ) (rs : List Record) (es : List Entry) (x : Holder) (first number : ℕ) (old out new : List ℕ) (p : Parts) → first ≡ x.index + 1 → Pushed bytes rs es x number old out →
    record_of p ≡ record_at (first + 2 * number) rs → is_attribute_name p.token ≡ true → PushesNext es x (first + 2 * number) out new → Pushed bytes rs es x (number + 1) old new
next_pushed bytes rs es x first number old out new p f s here kind more = by s.left s.split s.hold
  where
    by : (left : List Attribute) → x.tag.attributes ≡ s.before ++ left → AreAttributeRecords bytes rs (x.index + 1 + 2 * number) s.place left → Pushed bytes rs es x (number + 1) old new
    by [] e h = absurd (false≢true (sym h ∙ ap (λ n. is_attribute_name (record_at (n + 2 * number) rs).token) (sym f) ∙ ap (λ r. is_attribute_name r.token) (sym here) ∙ kind))
    by (a ∷ left) e h =
        let one = more s.before left a e (omega (arith, f, s.many)) in
        let q = needs es x in
        record {
          before = s.before ++ a ∷ [];
          left = left;
          split = e ∙ sym (append_assoc s.before (a ∷ []) left);
          many = length-append s.before (a ∷ []) ∙ ap (λ n. n + 1) s.many;
          place = s.place + size (written_attribute a);
          hold = subst (λ n. AreAttributeRecords bytes rs n (s.place + size (written_attribute a)) left) (index_more (x.index + 1) number) h.1;
          pushed = one ∙ ap (λ (l : List ℕ). l ++ inserted (filter q (a ∷ []))) s.pushed ∙ append_assoc old (inserted (filter q s.before)) (inserted (filter q (a ∷ [])))
              ∙ ap (λ (l : List ℕ). old ++ l) (sym (inserted_append (filter q s.before) (filter q (a ∷ []))) ∙ ap inserted (sym (filter-append q s.before (a ∷ []))));
        }

pub all_pushed : (bytes : List ℕ) (rs : List Record) (es : List Entry) (x : Holder) (first number : ℕ) (old out : List ℕ) → first ≡ x.index + 1 → Pushed bytes rs es x number old out →
    HasNoAttribute rs (first + 2 * number) → out ≡ old ++ inserted (filter (needs es x) x.tag.attributes)
all_pushed bytes rs es x first number old out f s none = by s.left s.split s.hold
  where
    by : (left : List Attribute) → x.tag.attributes ≡ s.before ++ left → AreAttributeRecords bytes rs (x.index + 1 + 2 * number) s.place left → out ≡ old ++ inserted (filter (needs es x) x.tag.attributes)
    by [] e h = s.pushed ∙ ap (λ (xs : List Attribute). old ++ inserted (filter (needs es x) xs)) (sym (append-nil s.before) ∙ sym e)
    by (a ∷ left) e h = absurd (no_attribute_there bytes rs (x.index + 1 + 2 * number) _ a h.0 (subst (λ n. HasNoAttribute rs (n + 2 * number)) f none))

-- ---- those of all elements, the outermost first

-- those of so many elements are appended
abbrev pub PushedTo : List Entry → List Holder → ℕ → List ℕ → List ℕ → Type 0
PushedTo es hs level old out = (near far : List Holder) → hs ≡ near ++ far → length far ≡ level → out ≡ old ++ inserted (needed_of es far)

pub next_to : (es : List Entry) (hs : List Holder) (level : ℕ) (old out new : List ℕ) → PushedTo es hs level old out →
    ((near far : List Holder) (x : Holder) → hs ≡ near ++ x ∷ far → length far ≡ level → new ≡ out ++ inserted (filter (needs es x) x.tag.attributes)) → PushedTo es hs (level + 1) old new
next_to es hs level old out new before more near [] e n = absurd (omega (arith, n))
next_to es hs level old out new before more near (x ∷ far) e n =
    let few : length far ≡ level = omega (arith, n) in
    let mine = filter (needs es x) x.tag.attributes in
    more near far x e few ∙ ap (λ (l : List ℕ). l ++ inserted mine) (before (near ++ x ∷ []) far (e ∙ sym (append_assoc near (x ∷ []) far)) few)
    ∙ append_assoc old (inserted (needed_of es far)) (inserted mine) ∙ ap (λ (l : List ℕ). old ++ l) (sym (inserted_append (needed_of es far) mine))

pub all_to : (es : List Entry) (hs : List Holder) (level : ℕ) (old out : List ℕ) → PushedTo es hs level old out → level ≡ length hs → out ≡ old ++ inserted (needed_of es hs)
all_to es hs level old out h n = h [] hs refl (sym n)

-- the tag of a level
opened_there : (near far : List Holder) (x : Holder) (tags : List ℕ) → Opened tags (near ++ x ∷ far) → slice_index_or tags (length far) 0 ≡ x.index
opened_there [] far x tags o = o.0
opened_there (y ∷ near) far x tags o = opened_there near far x tags o.1

pub tag_of_level : (bytes : List ℕ) (lists : Lists) (nest : Forest) (node : Node) → IsNestOf bytes lists nest → node.kind ≡ kinds.Element → (e : Entry) → Identifies node.kind node.at e (nodes_of bytes nest) →
    (tags : List ℕ) → tags ≡ open_before (node.at + 1) (records nest (first_place bytes)) → length e.holders < 256 → (near far : List Holder) (x : Holder) → e.holders ≡ near ++ x ∷ far → slice_index_or tags (length far) 0 ≡ x.index
tag_of_level bytes lists nest node s k e w tags o few near far x is =
    let what = Rattle.xml_model.proofs.Things.element_of e.what (w.1 ∙ k) in
    let own : Holder = record { tag = what.0; index = e.index } in
    let all = opened_at nest (first_place bytes) s.accepted.document.nests e w.0 (w.1 ∙ k) own refl tags (o ∙ ap (λ n. open_before (n + 1) (records nest (first_place bytes))) (sym w.2)) few in
    opened_there near far x tags (subst (Opened tags) is all.1)
