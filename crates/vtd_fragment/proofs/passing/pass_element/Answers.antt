use Rattle.std.proofs.Common.{◌∙◌, sym, refl}
use Rattle.xml_model.specs.Items.{first_place}
use Rattle.xml_model.specs.declared.Kind.TheVariants as kinds
use Rattle.xml_model.proofs.Things.{element_of}
use Rattle.vtd_fragment.proofs.NamedLemmas.{kind_named}
use Rattle.vtd_fragment.proofs.PassLemmas.{passed_tag, passed_name, element_written}
use Rattle.vtd_fragment.proofs.passing.pass_element.Goals as goal

pub returns : goal.returns
returns g c = λ nest s x w e own k inside h.
    let first = first_place c.args.table.now.bytes in
    let n = s.accepted.document.nests in
    let what = element_of e.what k in
    let kind = w.1 ∙ c.requires.element in
    let mine = element_of x.what kind in
    let hidden = c.in_ok-hide_in.ensures nest s x w mine.0 mine.1 mine.2 in
    passed_name nest first n e own c.hide_in.new.prefixes c.mark.new.prefixes what.0 what.1 what.2 x w.0 inside (kind_named kinds.Element refl x.what kind) c.args.name.at (sym w.2) c.prefix_of.result.now
    (element_written x.what c.prefix_of.result.now kind (c.prefix_of.ensures nest s x w)) c.in_ok-mark.ensures
    (passed_tag nest first n e own c.args.prefixes.now c.hide_in.new.prefixes x w.0 mine.0 mine.1 mine.2 inside c.args.name.at x.past (sym w.2) refl hidden h)
