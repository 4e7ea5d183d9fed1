-- Nodes of a list, one by one.
use Rattle.std.proofs.Common.{◌≡◌, ℕ, zero, suc, ◌<◌, ◌≤◌, List, [], ◌∷◌, ◌++◌, map, length, drop, get_or, refl, sym, ◌∙◌, ap, subst, arith, Contains}
use Rattle.std.specs.List.{AllByRecursion}
use Rattle.xml_model.specs.declared.Node.{Node}
use Rattle.xml_model.specs.Tree.{Entry}
use Rattle.vtd_words.specs.Table.{node_of}
use Rattle.xpath_meaning.specs.Scope.{AreNodes}

-- the node with an index, and the entry that it stands for
pub record NodeAt (document : List Entry) (es : List Entry) (i : ℕ) (n : Node) : Type 0 where
  pub entry : Entry
  pub is : n ≡ node_of entry
  pub inside : Contains document entry
  pub front : drop i es ≡ entry ∷ drop (suc i) es

map_node : (document : List Entry) (i : ℕ) (es : List Entry) (d : Node) → AllByRecursion (λ x. Contains document x) es → i < length (map node_of es) → NodeAt document es i (get_or (map node_of es) i d)
map_node document i [] d w h = absurd (omega arith)
map_node document zero (e ∷ es) d w h = record { entry = e; is = refl; inside = w.0; front = refl }
map_node document (suc i) (e ∷ es) d w h =
    let r = map_node document i es d w.1 (omega arith) in
    record { entry = r.entry; is = r.is; inside = r.inside; front = r.front }

pub node_at : (document : List Entry) (i : ℕ) (ns : List Node) (es : List Entry) (d : Node) → AreNodes document ns es → i < length ns → NodeAt document es i (get_or ns i d)
node_at document i ns es d k h =
    subst (λ ms. NodeAt document es i (get_or ms i d)) (sym k.same) (map_node document i es d k.within (subst (λ ms. i < length ms) k.same h))

length_map : (es : List Entry) → length (map node_of es) ≡ length es
length_map [] = refl
length_map (e ∷ es) = ap suc (length_map es)

pub same_length : (document : List Entry) (ns : List Node) (es : List Entry) → AreNodes document ns es → length ns ≡ length es
same_length document ns es k = ap length k.same ∙ length_map es

drop_all : (i : ℕ) (es : List Entry) → length es ≤ i → drop i es ≡ []
drop_all zero [] h = refl
drop_all (suc i) [] h = refl
drop_all zero (e ∷ es) h = absurd (omega arith)
drop_all (suc i) (e ∷ es) h = drop_all i es (omega arith)

pub none_left : (document : List Entry) (ns : List Node) (es : List Entry) (i : ℕ) → AreNodes document ns es → length ns ≤ i → drop i es ≡ []
none_left document ns es i k h = let l = same_length document ns es k in drop_all i es (omega arith)

map_append : (xs ys : List Entry) → map node_of (xs ++ ys) ≡ map node_of xs ++ map node_of ys
map_append [] ys = refl
map_append (x ∷ xs) ys = ap (λ zs. node_of x ∷ zs) (map_append xs ys)

all_append : (P : Entry → Type 0) (xs ys : List Entry) → AllByRecursion P xs → AllByRecursion P ys → AllByRecursion P (xs ++ ys)
all_append P [] ys a b = b
all_append P (x ∷ xs) ys a b = (a.0, all_append P xs ys a.1 b)

pub joined : (document : List Entry) (ns ms : List Node) (xs ys : List Entry) → AreNodes document ns xs → AreNodes document ms ys → AreNodes document (ns ++ ms) (xs ++ ys)
joined document ns ms xs ys a b = record {
  same = ap (λ n. n ++ ms) a.same ∙ ap (λ m. map node_of xs ++ m) b.same ∙ sym (map_append xs ys);
  within = all_append (λ x. Contains document x) xs ys a.within b.within;
}
