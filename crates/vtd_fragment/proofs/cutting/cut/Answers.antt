use Rattle.std.proofs.Common.{◌∙◌, ◌+◌, ℕ, List, ◌++◌, sym, ap, ap₂, drop, take}
use Rattle.xml_model.proofs.Things.{element_of}
use Rattle.xml_model.specs.Tree.{Thing}
use Rattle.vtd_words.specs.Table.{nodes_of}
use Rattle.xml_fragments.specs.Fragment.{name_size}
use Rattle.xml_fragments.proofs.CutWhole.{cut_is_document}
use Rattle.vtd_fragment.proofs.CutLemmas.{cut_made, accepted_whole, document_with}
use Rattle.vtd_fragment.proofs.cutting.cut.Goals as goal

pub returns-clause-bytes : goal.returns-clause-bytes
returns-clause-bytes g c = λ nest s e w.
    let bytes = c.args.nav.now.bytes in
    let lists = g.W.Words.lists c.args.nav.now.words in
    let what = element_of e.what (w.1 ∙ c.requires.element) in
    let a = accepted_whole bytes lists nest c.table-table.ensures.nav s in
    let name = ap (λ x. x.end) (c.name_span-name_end.ensures nest s e w what.0 what.1 what.2) ∙ ap (λ (x : Thing). e.start + 1 + name_size x) (sym what.2) in
    let same = c.bytes-bytes.ensures.value ∙ ap (λ t. t.bytes) c.table-table.ensures.value in
    let start = c.span-span.result.start in
    let past = c.name_span-name_end.result.end in
    let stop = c.span-span.result.end in
    let first = c.in_ok-push_all.ensures ∙ ap₂ (λ (x y : List ℕ). x ++ y) c.new-out.ensures.items (c.range.ensures ∙ ap (λ b. drop start (take past b)) same) in
    let second = (rw c.table-table.ensures.value at c.in_ok-push_all_needed.ensures) nest s e w a in
    let third = c.in_ok-push_all-2.ensures ∙ ap (λ (l : List ℕ). c.push_all_needed.new.out.items ++ l) (c.range-2.ensures ∙ ap (λ b. drop past (take stop b)) same) in
    cut_made bytes (nodes_of bytes nest) e c.span-span.result.start c.name_span-name_end.result.end c.span-span.result.end c.push_all.new.out.items c.push_all_needed.new.out.items c.push_all-2.new.out.items
    (c.span-span.ensures.start nest s e w) name (c.span-span.ensures.end nest s e w) first second third

pub returns-clause-document : goal.returns-clause-document
returns-clause-document g c = λ nest s e w.
    document_with c.args.nav.now.bytes nest e c.push_all-2.new.out.items
    (cut_is_document c.args.nav.now.bytes nest e (accepted_whole c.args.nav.now.bytes (g.W.Words.lists c.args.nav.now.words) nest c.table-table.ensures.nav s) w.0 (w.1 ∙ c.requires.element))
    (returns-clause-bytes g c nest s e w)
