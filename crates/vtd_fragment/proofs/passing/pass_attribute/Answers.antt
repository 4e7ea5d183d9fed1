use Rattle.std.proofs.Common.{◌∙◌, sym, refl}
use Rattle.xml_model.specs.Items.{first_place}
use Rattle.xml_model.proofs.Things.{element_of}
use Rattle.vtd_fragment.proofs.NamedLemmas.{kind_named}
use Rattle.vtd_fragment.proofs.PassLemmas.{passed_no_tag, passed_name, passed_unwritten, attribute_written, attribute_unwritten, no_element}
use Rattle.xml_model.specs.declared.Kind.TheVariants as kinds
use Rattle.vtd_fragment.proofs.passing.pass_attribute.Goals as goal

pub returns-then-is_empty : goal.returns-then-is_empty
returns-then-is_empty g c = λ nest s x w e own k inside h.
    let first = first_place c.args.table.now.bytes in
    let n = s.accepted.document.nests in
    let what = element_of e.what k in
    let kind = w.1 ∙ c.requires.attribute in
    passed_unwritten nest first n e own c.args.prefixes.now what.0 what.1 what.2 x w.0 inside
    (attribute_unwritten x.what c.prefix_of-prefix.result.now kind (c.prefix_of-prefix.ensures nest s x w) (sym c.is_empty.ensures ∙ c.if-is_empty.true)) c.args.name.at (sym w.2)
    (passed_no_tag nest first n e own c.args.prefixes.now x w.0 (no_element x.what kind) c.args.name.at (sym w.2) h)

pub returns : goal.returns
returns g c = λ nest s x w e own k inside h.
    let first = first_place c.args.table.now.bytes in
    let n = s.accepted.document.nests in
    let what = element_of e.what k in
    let kind = w.1 ∙ c.requires.attribute in
    passed_name nest first n e own c.args.prefixes.now c.mark.new.prefixes what.0 what.1 what.2 x w.0 inside (kind_named kinds.Attribute refl x.what kind) c.args.name.at (sym w.2) c.prefix_of-prefix.result.now
    (attribute_written x.what c.prefix_of-prefix.result.now kind (c.prefix_of-prefix.ensures nest s x w) (sym c.is_empty.ensures ∙ c.if-is_empty.false)) c.in_ok-mark.ensures
    (passed_no_tag nest first n e own c.args.prefixes.now x w.0 (no_element x.what kind) c.args.name.at (sym w.2) h)
