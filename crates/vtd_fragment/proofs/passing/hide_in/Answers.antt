use Rattle.std.proofs.Common.{◌∙◌, sym, ap, cond}
use Rattle.std.specs.Prelude.{encode_utf8_all, option_map}
use Rattle.xml_model.specs.Items.{first_place}
use Rattle.xml_model.specs.Records.{records}
use Rattle.vtd_words.proofs.Fitting.{nest_shown}
use Rattle.vtd_words.proofs.Nodes.{at_room}
use Rattle.vtd_fragment.specs.Prefixes.{known, raised}
use Rattle.vtd_fragment.proofs.PassLemmas.{tag_attributes_at}
use Rattle.vtd_fragment.proofs.passing.hide_in.Goals as goal

pub declares_some-requires : goal.declares_some-requires
declares_some-requires g c = rw c.words-words.ensures.value (record { room = at_room _ _ c.words-words.ensures.table.few c.args.name c.requires.node })

pub hide-requires : goal.hide-requires
hide-requires g c = rw c.words-words.ensures.value (record { room = at_room _ _ c.words-words.ensures.table.few c.args.name c.requires.node })

pub returns-then-not-declares_some : goal.returns-then-not-declares_some
returns-then-not-declares_some g c = λ nest s x w t inside is p.
    let bytes = c.args.table.now.bytes in
    let shown = nest_shown bytes (g.W.Words.lists c.args.table.now.words) nest c.words-words.ensures.table.few s in
    let place = tag_attributes_at bytes nest s.accepted.document x w.0 t inside is c.args.name.at (sym w.2) in
    let old = known c.args.prefixes.now (encode_utf8_all p) in
    sym (ap (λ b. cond b (option_map (raised x.past) old) old) ((rw c.words-words.ensures.value at c.declares_some.ensures) c.if-not-declares_some.true (records nest (first_place bytes)) shown bytes place.0 t place.1 p))

pub returns : goal.returns
returns g c = λ nest s x w t inside is p.
    let bytes = c.args.table.now.bytes in
    let shown = nest_shown bytes (g.W.Words.lists c.args.table.now.words) nest c.words-words.ensures.table.few s in
    let place = tag_attributes_at bytes nest s.accepted.document x w.0 t inside is c.args.name.at (sym w.2) in
    let old = known c.args.prefixes.now (encode_utf8_all p) in
    (rw (c.words-words.ensures.value, c.bytes.ensures.value) at c.in_ok-hide.ensures) (records nest (first_place bytes)) shown place.0 t place.1 p
    ∙ ap (λ n. cond (Rattle.xml_fragments.specs.Cut.has_declaration p t) (option_map (raised n) old) old) (c.end_of-past.ensures nest s x w)
