use Rattle.std.proofs.Common.{◌∙◌, sym}
use Rattle.xml_model.specs.Content.{value_content}
use Rattle.vtd_namespaces.proofs.OffenceLemmas.{default_offends, xml_offends, xmlns_offends, empty_offends, other_offends}
use Rattle.vtd_namespaces.proofs.offences.declaration_offends.Goals as goal

pub returns-then-eq : goal.returns-then-eq
returns-then-eq g c = λ nest s a n e. default_offends c.args.name.now a.name (value_content a.value) c.is_reserved.result e (sym c.eq.ensures ∙ c.if-eq.true) (c.is_reserved.ensures nest s a n)

pub returns-then-eq-2 : goal.returns-then-eq-2
returns-then-eq-2 g c = λ nest s a n e.
    xml_offends c.args.name.now a.name (value_content a.value) c.of_declaration.result c.equals_str.result e (sym c.eq.ensures ∙ c.if-eq.false) (sym c.eq-2.ensures ∙ c.if-eq-2.true) c.equals_str.ensures (c.of_declaration.ensures nest s a n)

pub returns-then-eq-3 : goal.returns-then-eq-3
returns-then-eq-3 g c = λ nest s a n e. xmlns_offends c.args.name.now a.name (value_content a.value) e (sym c.eq.ensures ∙ c.if-eq.false) (sym c.eq-2.ensures ∙ c.if-eq-2.false) (sym c.eq-3.ensures ∙ c.if-eq-3.true)

pub returns-then-equals_str : goal.returns-then-equals_str
returns-then-equals_str g c = λ nest s a n e.
    empty_offends c.args.name.now a.name (value_content a.value) c.of_declaration-2.result c.equals_str-2.result e (sym c.eq.ensures ∙ c.if-eq.false) (sym c.eq-2.ensures ∙ c.if-eq-2.false) c.equals_str-2.ensures (c.of_declaration-2.ensures nest s a n) c.if-equals_str.true

pub returns : goal.returns
returns g c = λ nest s a n e.
    other_offends c.args.name.now a.name (value_content a.value) c.of_declaration-2.result c.equals_str-2.result c.is_reserved-2.result e (sym c.eq.ensures ∙ c.if-eq.false) (sym c.eq-2.ensures ∙ c.if-eq-2.false) (sym c.eq-3.ensures ∙ c.if-eq-3.false) c.equals_str-2.ensures
    (c.of_declaration-2.ensures nest s a n) c.if-equals_str.false (c.is_reserved-2.ensures nest s a n)
