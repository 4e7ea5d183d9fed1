use Rattle.vtd_words.specs.Table.{IsNodeOf}
use Rattle.xml_model.proofs.Each.{each_at}
use Rattle.xpath_steps.proofs.StepLemmas.{same_node}
use Rattle.conformance_queries.proofs.steps.write_order.Goals as goal

pub order-requires : goal.order-requires
order-requires g c = λ m n i j h.
    same_node _ _ c.words-words.ensures.table.few m n (each_at (IsNodeOf _ _) _ m c.in_ok-held.ensures i) (each_at (IsNodeOf _ _) _ n c.in_ok-held.ensures j) h
