use Rattle.std.proofs.Common.{◌∙◌, sym, ap}
use Rattle.xml_model.proofs.Things.{element_of}
use Rattle.xml_model.specs.Items.{first_place}
use Rattle.xml_model.specs.Chars.{after_colon}
use Rattle.xml_model.specs.Records.{records}
use Rattle.vtd_words.specs.Packed.{record_of}
use Rattle.vtd_words.proofs.Fitting.{nest_shown}
use Rattle.vtd_text.specs.Joined.{slice_of}
use Rattle.vtd_fragment.specs.Prefixes.{is_bound_at, known}
use Rattle.vtd_fragment.specs.Round.{nodes_in}
use Rattle.vtd_fragment.proofs.AttributeLemmas.{name_slice}
use Rattle.vtd_fragment.proofs.NeedLemmas.{attribute_at_level, token_other, token_own, needs_undeclared, needs_empty, needs_fixed, needs_used, value_empty, value_full, declaring_name, declaration_there, declares_nothing, declares_this, fixed_prefix}
use Rattle.vtd_fragment.proofs.PassLemmas.{bound_is}
use Rattle.vtd_fragment.proofs.needed.is_needed.Goals as goal

pub returns-then-name : goal.returns-then-name
returns-then-name g c = λ node k r found before after a is at.
    let bytes = c.args.table.now.bytes in
    let h = attribute_at_level bytes (g.W.Words.lists c.args.table.now.words) node c.args.level r before after a is c.args.at at in
    let shown = nest_shown bytes (g.W.Words.lists c.args.table.now.words) r.nest c.words-words.ensures.table.few r.shown in
    let e = c.requires.name (records r.nest (first_place bytes)) shown in
    needs_undeclared (nodes_in r.nest r.entry bytes) r.holder a (token_other c.args.name a _ e (ap (λ x. x.token) h.name) c.if-name.true)

pub returns-then-value-eq0 : goal.returns-then-value-eq0
returns-then-value-eq0 g c = λ node k r found before after a is at.
    let bytes = c.args.table.now.bytes in
    let h = attribute_at_level bytes (g.W.Words.lists c.args.table.now.words) node c.args.level r before after a is c.args.at at in
    let shown = nest_shown bytes (g.W.Words.lists c.args.table.now.words) r.nest c.words-words.ensures.table.few r.shown in
    let e = (rw c.words-words.ensures.value at c.parts_at-value.ensures.parts) (records r.nest (first_place bytes)) shown in
    needs_empty (nodes_in r.nest r.entry bytes) r.holder a (value_empty c.parts_at-value.result a _ e (ap (λ x. x.len) h.value) c.if-value-eq0.true)

pub returns-in_default : goal.returns-in_default
returns-in_default g c = λ node k r found before after a is at.
    let bytes = c.args.table.now.bytes in
    let lists = g.W.Words.lists c.args.table.now.words in
    let h = attribute_at_level bytes lists node c.args.level r before after a is c.args.at at in
    let shown = nest_shown bytes lists r.nest c.words-words.ensures.table.few r.shown in
    let rs = records r.nest (first_place bytes) in
    let e = c.requires.name rs shown in
    let written = c.slice_of.ensures ∙ ap (λ b. slice_of b (record_of c.args.name)) c.bytes.ensures.value ∙ name_slice bytes rs c.args.at a h (record_of c.args.name) e in
    needs_undeclared (nodes_in r.nest r.entry bytes) r.holder a (declares_nothing bytes lists node c.args.level k r before after a is (c.in_default.ensures a.name written))

pub returns-then-eq : goal.returns-then-eq
returns-then-eq g c = λ node k r found before after a is at.
    let bytes = c.args.table.now.bytes in
    let lists = g.W.Words.lists c.args.table.now.words in
    let h = attribute_at_level bytes lists node c.args.level r before after a is c.args.at at in
    let shown = nest_shown bytes lists r.nest c.words-words.ensures.table.few r.shown in
    let rs = records r.nest (first_place bytes) in
    let e = c.requires.name rs shown in
    let d = token_own c.args.name a _ e (ap (λ x. x.token) h.name) c.if-name.false in
    let written = c.slice_of.ensures ∙ ap (λ b. slice_of b (record_of c.args.name)) c.bytes.ensures.value ∙ name_slice bytes rs c.args.at a h (record_of c.args.name) e in
    let p = declares_this bytes lists node c.args.level k r before after a is c.in-Some.prefix.now (c.in-Some.ensures a.name written) d in
    needs_fixed (nodes_in r.nest r.entry bytes) r.holder a (sym (fixed_prefix c.in-Some.prefix.now (after_colon a.name) p) ∙ sym c.eq.ensures ∙ c.if-eq.true)

pub returns : goal.returns
returns g c = λ node k r found before after a is at.
    let bytes = c.args.table.now.bytes in
    let lists = g.W.Words.lists c.args.table.now.words in
    let h = attribute_at_level bytes lists node c.args.level r before after a is c.args.at at in
    let shown = nest_shown bytes lists r.nest c.words-words.ensures.table.few r.shown in
    let rs = records r.nest (first_place bytes) in
    let e = c.requires.name rs shown in
    let v = (rw c.words-words.ensures.value at c.parts_at-value.ensures.parts) rs shown in
    let d = token_own c.args.name a _ e (ap (λ x. x.token) h.name) c.if-name.false in
    let written = c.slice_of.ensures ∙ ap (λ b. slice_of b (record_of c.args.name)) c.bytes.ensures.value ∙ name_slice bytes rs c.args.at a h (record_of c.args.name) e in
    let p = declares_this bytes lists node c.args.level k r before after a is c.in-Some.prefix.now (c.in-Some.ensures a.name written) d in
    let what = element_of r.entry.what (r.holds.1 ∙ k) in
    let declares = declaration_there r.holder.tag before after a (after_colon a.name) is (declaring_name bytes lists node c.args.level k r before after a is d) in
    let bound = c.is_bound.ensures ∙ ap (λ b. is_bound_at c.args.level (known c.args.prefixes.now b)) p
    ∙ bound_is r.nest (first_place bytes) r.accepted.document.nests r.entry r.holds.0 what.0 what.1 what.2 c.args.prefixes.now found r.near r.far r.holder r.split (after_colon a.name) declares c.args.level r.many in
    needs_used (nodes_in r.nest r.entry bytes) r.holder a c.is_bound.result bound d
    (value_full c.parts_at-value.result a _ v (ap (λ x. x.len) h.value) c.if-value-eq0.false)
    (sym (fixed_prefix c.in-Some.prefix.now (after_colon a.name) p) ∙ sym c.eq.ensures ∙ c.if-eq.false)
