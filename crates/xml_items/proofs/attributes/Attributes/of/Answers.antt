use Rattle.std.proofs.Common.{◌∙◌, ap, arith, List, ℕ, length}
use Rattle.std.specs.Prelude.{is_some}
use Rattle.std.specs.Str.{chars}
use Rattle.std.proofs.lemmas.List.{length-drop}
use Rattle.xml_items.specs.Reading.{read_attributes}
use Rattle.xml_items.specs.AttributeList.{shown_of}
use Rattle.xml_items.proofs.AttributeLemmas.{listed_shown}
use Rattle.xml_items.proofs.attributes.Attributes.of.Goals as goal

pub text_at-requires-clause-place : goal.text_at-requires-clause-place
text_at-requires-clause-place c = (listed_shown c.args.bytes.now c.args.item c.requires.answered.item c.requires.utf8 c.requires.kind c.requires.answered.begins c.requires.answered.shown).boundary

pub invariant_of-result : goal.invariant_of-result
invariant_of-result c =
    let l = listed_shown c.args.bytes.now c.args.item c.requires.answered.item c.requires.utf8 c.requires.kind c.requires.answered.begins c.requires.answered.shown in
    record {
      read = ap (λ (t : List ℕ). is_some (read_attributes (chars t))) c.text_at.ensures ∙ ap is_some l.read;
      room = omega (arith, l.boundary.0, ap (λ (t : List ℕ). length t) c.text_at.ensures, length-drop c.args.item.content.start c.args.bytes.now);
    }

pub returns : goal.returns
returns c i h e =
    let l = listed_shown c.args.bytes.now c.args.item i c.requires.utf8 c.requires.kind h e in
    ap (λ (t : List ℕ). shown_of c.args.item.content.start (read_attributes (chars t))) c.text_at.ensures ∙ ap (shown_of c.args.item.content.start) l.read
