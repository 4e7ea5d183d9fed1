use Rattle.std.proofs.Common.{◌∙◌, false, sym, filter}
use Rattle.std.proofs.lemmas.Result.{IfOk-weaker}
use Rattle.xml_model.specs.declared.Axis.TheVariants as axes
use Rattle.xml_model.specs.Contexts.{union_list}
use Rattle.xml_model.specs.Names.{NameTest, Test, passes}
use Rattle.vtd_words.specs.Table.{nodes_of}
use Rattle.xpath_steps.proofs.EndLemmas.{kept_among, named_of_elements, union_among}
use Rattle.xpath_steps.proofs.ends.preceding_of_all.Goals as goal

pub returns-clause-step : goal.returns-clause-step
returns-clause-step g c = IfOk-weaker c.those_passing.result _ _
    (λ list h nest s cs e k.
    let es = nodes_of c.args.table.now.bytes nest in
    let elements = filter (passes (Test.name NameTest.any) false) (union_list axes.Preceding cs es) in
    h nest s elements (sym (c.deref.ensures.value ∙ c.elements.view_is ∙ c.in_ok-elements.ensures.step nest s cs e k))
    (kept_among (passes (Test.name NameTest.any) false) (union_list axes.Preceding cs es) es (union_among cs es))
    ∙ named_of_elements c.args.test.now c.in-Name.field-0 c.in-Name.is (union_list axes.Preceding cs es))
    c.those_passing.ensures.passing
