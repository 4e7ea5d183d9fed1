use Rattle.std.proofs.Common.{ℕ, List, length, ap, subst, ◌∙◌, arith}
use Rattle.vtd_builder.specs.Exchanges.{with_range}
use Rattle.vtd_patch.specs.Changes.{IsIn}
use Rattle.vtd_patch.proofs.Answered.{change_there, patched_ok, patched_err, patched_long}
use Rattle.vtd_patch.proofs.patching.patch.Goals as goal

pub returns-then-changed_length-gt-MOST_BYTES-clause-refused :
    goal.returns-then-changed_length-gt-MOST_BYTES-clause-refused
returns-then-changed_length-gt-MOST_BYTES-clause-refused c =
    let x = c.in-Ok.change in
    let within = subst (λ (bs : List ℕ). IsIn bs x) c.nav.ensures.bytes c.in-Ok.ensures.within in
    let made = change_there c.args.doc.now.bytes c.nav.result.bytes c.args.text.now c.args.doc.now.words c.nav.result.words.lists c.args.node x
    c.nav.ensures.bytes c.nav.ensures.words c.in-Ok.ensures.made in
    let long = c.changed_length.ensures ∙ ap (λ (l : List ℕ). length (with_range x.start x.end x.text l)) c.bytes.ensures.value in
    patched_long c.args.doc.now.bytes c.args.text.now c.args.doc.now.words c.args.node x within made
    (omega (arith, long, c.if-changed_length-gt-MOST_BYTES.true))

pub make-requires-clause-change : goal.make-requires-clause-change
make-requires-clause-change c =
    change_there c.args.doc.now.bytes c.nav.result.bytes c.args.text.now c.args.doc.now.words c.nav.result.words.lists c.args.node
    c.in-Ok.change c.nav.ensures.bytes c.nav.ensures.words c.in-Ok.ensures.made

pub returns-clause-patched : goal.returns-clause-patched
returns-clause-patched c =
    let x = c.in-Ok.change in
    let within = subst (λ (bs : List ℕ). IsIn bs x) c.nav.ensures.bytes c.in-Ok.ensures.within in
    let made = change_there c.args.doc.now.bytes c.nav.result.bytes c.args.text.now c.args.doc.now.words c.nav.result.words.lists c.args.node x
    c.nav.ensures.bytes c.nav.ensures.words c.in-Ok.ensures.made in
    patched_ok c.args.doc.now.bytes c.args.text.now c.args.doc.now.words c.args.node x within made c.make.result c.make.new.doc.bytes
    c.make.ensures.bytes

pub returns-clause-refused : goal.returns-clause-refused
returns-clause-refused c =
    let x = c.in-Ok.change in
    let within = subst (λ (bs : List ℕ). IsIn bs x) c.nav.ensures.bytes c.in-Ok.ensures.within in
    let made = change_there c.args.doc.now.bytes c.nav.result.bytes c.args.text.now c.args.doc.now.words c.nav.result.words.lists c.args.node x
    c.nav.ensures.bytes c.nav.ensures.words c.in-Ok.ensures.made in
    patched_err c.args.doc.now.bytes c.args.text.now c.args.doc.now.words c.args.node x within made c.make.result c.make.ensures.refused
