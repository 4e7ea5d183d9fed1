use Rattle.std.proofs.Common.{◌∙◌, sym, ap, arith}
use Rattle.std.specs.List.{slice_index_or}
use Rattle.xml_model.specs.Items.{first_place}
use Rattle.xml_model.specs.Records.{records}
use Rattle.vtd_words.specs.Table.{nodes_of}
use Rattle.vtd_words.proofs.Fitting.{nest_shown}
use Rattle.vtd_namespaces.specs.OpenTags.{open_before}
use Rattle.vtd_namespaces.proofs.OpenLemmas.{tags_within}
use Rattle.xml_fragments.specs.Fragment.{subtree}
use Rattle.vtd_fragment.proofs.PushLemmas.{next_to, all_to, tag_of_level}
use Rattle.vtd_fragment.proofs.needed.push_all_needed.Goals as goal

pub push_needed-requires : goal.push_needed-requires
push_needed-requires g c =
    rw c.tag_at-tag.ensures
    (record {
      room = tags_within c.args.table.now.bytes (g.W.Words.lists c.args.table.now.words) c.words-words.ensures.table c.open_before-open_tags.result c.after_first.result c.after_first.ensures.within
          (rw c.words-words.ensures.value at c.open_before-open_tags.ensures) c.loop-level.level;
    })

pub loop-level-preserved : goal.loop-level-preserved
loop-level-preserved g c = λ nest s e w a.
    let bytes = c.args.table.now.bytes in
    let lists = g.W.Words.lists c.args.table.now.words in
    let rs = records nest (first_place bytes) in
    let shown = nest_shown bytes lists nest c.words-words.ensures.table.few s in
    let tags = c.open_before-open_tags.result in
    let known = (rw c.words-words.ensures.value at c.open_before-open_tags.ensures) rs shown ∙ ap (λ n. open_before n rs) c.after_first.ensures.index in
    next_to (subtree e.path (nodes_of bytes nest)) e.holders c.loop-level.level c.args.out.now.items c.loop-level.out.items c.push_needed.new.out.items (c.loop-level.invariant nest s e w a)
    (λ near far x is many.
    c.in_ok-push_needed.ensures c.args.node c.requires.element (record { nest = nest; accepted = a; shown = s; entry = e; holds = w; near = near; far = far; holder = x; split = is; many = many })
    (c.in_ok-pass_names.ensures nest s e w (c.in_ok-prefixes.ensures nest s e w))
    (c.tag_at-tag.ensures ∙ ap (λ k. slice_index_or tags k 0) (sym many)
    ∙ tag_of_level bytes lists nest c.args.node s c.requires.element e w tags known (omega (arith, c.level_at-count.ensures.level nest s e w, c.level_at-count.ensures.small)) near far x is))

pub returns : goal.returns
returns g c = λ nest s e w a.
    all_to (subtree e.path (nodes_of c.args.table.now.bytes nest)) e.holders c.loop-level.level c.args.out.now.items c.loop-level.out.items (c.loop-level.invariant nest s e w a)
    (omega (arith, c.loop-level-test.false, c.loop-level.auto.level-end, c.level_at-count.ensures.level nest s e w))
