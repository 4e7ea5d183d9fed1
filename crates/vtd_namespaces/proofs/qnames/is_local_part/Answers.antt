use Rattle.std.proofs.Common.{◌∙◌, ap, sym, subst}
use Rattle.std.specs.Prelude.{IsUtf8}
use Rattle.std.specs.Str.{chars}
use Rattle.xml_model.specs.Chars.{is_ncname}
use Rattle.vtd_namespaces.proofs.QNameLemmas.{local_utf8, local_chars}
use Rattle.vtd_namespaces.proofs.qnames.is_local_part.Goals as goal

pub returns-in-Ok : goal.returns-in-Ok
returns-in-Ok c = λ cs n e. c.is_ncname.ensures ∙ ap (λ x. is_ncname (chars x)) (c.in-Ok.ensures.cases.0 ∙ e) ∙ ap is_ncname (local_chars cs n)

pub returns-in-Err : goal.returns-in-Err
returns-in-Err c = λ cs n e. absurd (c.in-Err.ensures.cases.0 (subst IsUtf8 (sym e) (local_utf8 cs n)))
