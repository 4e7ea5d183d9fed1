use Rattle.std.proofs.Common.{ap, ◌∙◌}
use Rattle.xml_acceptance.specs.Ampersands.{next_ampersand}
use Rattle.xml_acceptance.proofs.Exits.{passes_more}
use Rattle.xml_acceptance.proofs.checking.Pass.take.Goals as goal

pub take-requires-2 : goal.take-requires-2
take-requires-2 c =
    let a = c.requires.answered in
    let p = c.requires.so_far in
    record { utf8 = c.requires.utf8; size = c.requires.size; item = record { item = a.item; begins = a.begins; shown = a.shown }; next = p.finds.next ∙ ap (next_ampersand c.args.bytes.now) p.ends }

pub take-requires : goal.take-requires
take-requires c =
    let p = c.requires.so_far in
    record { utf8 = c.requires.utf8; size = c.requires.size; answered = c.requires.answered; so_far = record { items = p.items; ends = p.ends; nests = p.nests } }

pub returns : goal.returns
returns c =
    let a = c.requires.answered in
    let p = c.requires.so_far in
    passes_more c.args.bytes.now c.args.self.now _ c.args.counted.item.span.start c.args.counted.item a.item p a.begins a.shown
    (c.take-2.ensures p.items a.item p.finds p.ends a.begins a.shown) (c.take.ensures p.items a.item p.nests p.ends a.begins a.shown a.counted)
