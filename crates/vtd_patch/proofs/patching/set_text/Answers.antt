use Rattle.std.proofs.Common.{ℕ, List, map, length, sym, ap, ap₂, subst, ◌∙◌}
use Rattle.xml_model.specs.Records.{word}
use Rattle.vtd_patch.specs.declared.change.Change.{Change}
use Rattle.vtd_patch.specs.Changes.{CanExchange, text_run}
use Rattle.vtd_patch.proofs.Ready.{ready, refused}
use Rattle.vtd_patch.proofs.patching.set_text.Goals as goal

pub returns-then-not-are_chars-clause-refused : goal.returns-then-not-are_chars-clause-refused
returns-then-not-are_chars-clause-refused c =
    let r = c.requires in (
      r.short,
      refused c.args.doc.now.bytes c.args.doc.now.words c.args.node c.args.text.now c.args.change.now r.document r.node r.kind
          r.change r.within r.short c.utf8.text (sym c.are_chars.ensures ∙ c.if-not-are_chars.true),
    )

pub put_run-requires : goal.put_run-requires
put_run-requires c =
    let r = c.requires in
    let run = c.run_of-run in
    let starts : (Change → ℕ) = λ (x : Change). x.start in
    let texts : (Change → List ℕ) = λ (x : Change). x.text in
    let put = c.as_slice-new.ensures.value ∙ ap texts c.change.view_is in
    let words = c.as_slice.ensures.value ∙ c.in-Ok.ensures
    ∙ ap₂ (λ (a n : ℕ). map word (text_run run.result.level a n)) (ap starts c.change.view_is) (ap (λ (bs : List ℕ). length bs) put) in
    subst (λ (x : Change). CanExchange c.args.doc.now.bytes c.args.doc.now.words x.start x.end c.as_slice-new.result.now c.args.node.at
    run.result.past c.as_slice.result.now) (sym c.change.view_is)
    (ready c.args.doc.now.bytes c.args.doc.now.words c.args.node c.args.text.now c.args.change.now r.document r.node r.kind r.change r.within
    r.short c.utf8.text run.result.past run.result.level c.as_slice-new.result.now c.as_slice.result.now
    (sym c.are_chars.ensures ∙ c.if-not-are_chars.false) run.ensures.past run.ensures.level put words)
