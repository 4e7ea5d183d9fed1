-- The lines of nodes, by their spans.
use Rattle.std.proofs.Common.{◌≡◌, ℕ, ◌+◌, ◌<◌, List, [], ◌∷◌, ◌++◌, map, length, drop, get_or, refl, sym, ap, ap₂, subst, ◌∙◌, append_assoc}
use Rattle.std.specs.List.{AllByRecursion, AllZip, Contains, flat_map}
use Rattle.std.proofs.lemmas.List.{drop_more}
use Rattle.xml_model.specs.declared.Node.{Node}
use Rattle.xml_model.specs.declared.Span.{Span}
use Rattle.xml_model.specs.Nest.{Forest}
use Rattle.xml_model.specs.Tree.{Entry, Identifies, kind_of}
use Rattle.vtd_words.specs.Lists.{Lists}
use Rattle.vtd_words.specs.Table.{IsNestOf, node_of, nodes_of}
use Rattle.vtd_cursor.specs.Listed.{IsSpanOf}
use Rattle.std.specs.Fmt.{decimal}
use Rattle.std.specs.Prelude.{codes}
use Rattle.vtd_listing.specs.Listing.{line_feed}
use Rattle.vtd_listing.specs.Nodes.{node_line, node_listing, paired_lines, span_line}

-- the spans of nodes give their lines
paired_same : (bytes : List ℕ) (lists : Lists) (nest : Forest) (es : List Entry) (spans : List Span) → IsNestOf bytes lists nest
    → AllByRecursion (Contains (nodes_of bytes nest)) es → AllZip (IsSpanOf bytes lists) (map node_of es) spans
    → paired_lines (map node_of es) spans ≡ flat_map node_line es
paired_same bytes lists nest [] [] s c z = refl
paired_same bytes lists nest [] (x ∷ spans) s c z = absurd z
paired_same bytes lists nest (e ∷ es) [] s c z = absurd z
paired_same bytes lists nest (e ∷ es) (x ∷ spans) s c z =
    let holds : Identifies (kind_of e.what) e.index e (nodes_of bytes nest) = (c.0, refl, refl) in
    let same : x ≡ record { start = e.start; end = e.stop } = ap₂ (λ a b. record { start = a; end = b }) (z.0.start nest s e holds) (z.0.end nest s e holds) in
    ap₂ (λ (a b : List ℕ). a ++ b) (ap (λ (y : Span). span_line (kind_of e.what) y) same) (paired_same bytes lists nest es spans s c.1 z.1)

pub lines_of_nodes : (bytes : List ℕ) (lists : Lists) (nest : Forest) (nodes : List Node) (es : List Entry) (spans : List Span) → IsNestOf bytes lists nest
    → nodes ≡ map node_of es → AllByRecursion (Contains (nodes_of bytes nest)) es → AllZip (IsSpanOf bytes lists) nodes spans
    → paired_lines nodes spans ≡ flat_map node_line es
lines_of_nodes bytes lists nest nodes es spans s e c z =
    let P : List Node → Type 0 = λ ns. AllZip (IsSpanOf bytes lists) ns spans in
    ap (λ (ns : List Node). paired_lines ns spans) e ∙ paired_same bytes lists nest es spans s c (subst P e z)

-- the lines of one pair more
pub one_pair : (old now next : List ℕ) (nodes : List Node) (spans : List Span) (i : ℕ) (d : Node) (x : Span) → i < length nodes → i < length spans
    → now ++ paired_lines (drop i nodes) (drop i spans) ≡ old ++ paired_lines nodes spans
    → next ≡ now ++ span_line (get_or nodes i d).kind (get_or spans i x)
    → next ++ paired_lines (drop (i + 1) nodes) (drop (i + 1) spans) ≡ old ++ paired_lines nodes spans
one_pair old now next nodes spans i d x l m h e =
    let pair : paired_lines (drop i nodes) (drop i spans)
    ≡ span_line (get_or nodes i d).kind (get_or spans i x) ++ paired_lines (drop (i + 1) nodes) (drop (i + 1) spans) =
    ap₂ (λ (ns : List Node) (ss : List Span). paired_lines ns ss) (drop_more nodes i d l) (drop_more spans i x m) in
    ap (λ (xs : List ℕ). xs ++ paired_lines (drop (i + 1) nodes) (drop (i + 1) spans)) e
    ∙ append_assoc now (span_line (get_or nodes i d).kind (get_or spans i x)) (paired_lines (drop (i + 1) nodes) (drop (i + 1) spans))
    ∙ ap (λ (xs : List ℕ). now ++ xs) (sym pair) ∙ h

-- the lines, piece by piece
pub listing_made : (es : List Entry) (count : ℕ) (i0 i1 i2 i3 i4 lines : List ℕ) → i0 ≡ [] → i1 ≡ i0 ++ codes "nodes " → i2 ≡ i1 ++ decimal count
    → i3 ≡ i2 ++ line_feed → i4 ≡ i3 ++ lines → count ≡ length es → lines ≡ flat_map node_line es → i4 ≡ node_listing es
unfolding node_listing
listing_made es count i0 i1 i2 i3 i4 lines z a b d e n p =
    e ∙ ap₂ (λ (x y : List ℕ). x ++ y) (d ∙ ap (λ (x : List ℕ). x ++ line_feed)
    (b ∙ ap₂ (λ (x : List ℕ) (m : ℕ). x ++ decimal m) (a ∙ ap (λ (x : List ℕ). x ++ codes "nodes ") z) n)) p
