use Rattle.std.proofs.Common.{List, rules, subst}
use Rattle.std.proofs.lemmas.Fn.{dedup_same}
use Rattle.std.proofs.lemmas.List.Sorted.{IsNonDecreasingBy-from_sort_by_key}
use Rattle.std.specs.List.Sorted.{IsPermutation}
use Rattle.xml_model.specs.declared.Node.{Node}
use Rattle.xpath_axes.proofs.OrderLemmas.{same_at, rises, keeps, adds_none}
use Rattle.xpath_axes.proofs.lists.order.Goals as goal

pub returns-clause-ordered : goal.returns-clause-ordered
returns-clause-ordered c =
    let kept = dedup_same _ same_at _ (λ x y b f' x' y' k. search rules) _ _ c.dedup_by_key.ensures.filtered in
    let sorted = IsNonDecreasingBy-from_sort_by_key (λ (n : Node). n.at) _ c.sort_unstable_by_key.ensures.sorted (λ a r q k. search rules) in
    rw kept (rises _ sorted)

pub returns-clause-same_nodes : goal.returns-clause-same_nodes
returns-clause-same_nodes c =
    let sorted = c.sort_unstable_by_key.new.self.items in
    let kept = dedup_same _ same_at _ (λ x y b f' x' y' k. search rules) _ _ c.dedup_by_key.ensures.filtered in
    let moved : IsPermutation c.args.nodes.now sorted =
    subst (λ (xs : List Node). IsPermutation xs sorted) c.nodes.view_is c.sort_unstable_by_key.ensures.permutation in
    rw kept (λ n. (adds_none c.args.nodes.now sorted moved n, keeps c.args.nodes.now sorted moved c.requires n))
