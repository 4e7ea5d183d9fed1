use Rattle.std.proofs.Common.{◌∙◌, sym, ap, arith, rules, length, List}
use Rattle.std.specs.Str.{chars, IsUtf8}
use Rattle.xml_items.specs.declared.AttributeItem.{AttributeItem}
use Rattle.xml_items.proofs.AttributeLemmas.{next_of, attributes_end, attributes_stop}
use Rattle.xml_items.proofs.StepLemmas.{attribute_bare}
use Rattle.xml_items.proofs.CountLemmas.{attribute_goes, attributes_spaced}
use Rattle.xml_items.proofs.attributes.list.AttributesIterator.next.Goals as goal

pub returns-then-not-begins_name-clause-steps : goal.returns-then-not-begins_name-clause-steps
returns-then-not-begins_name-clause-steps c =
    let e = attributes_end (chars c.args.self.now.rest.now) c.args.self.now.at (attribute_goes _ _ _ c.space_of.ensures.read ∙ sym c.begins_name.ensures ∙ c.if-not-begins_name.true) in
    (e, e)

pub returns-in_err-attribute-clause-steps : goal.returns-in_err-attribute-clause-steps
returns-in_err-attribute-clause-steps c = absurd (attributes_stop (chars c.args.self.now.rest.now) c.args.self.now.read (attribute_goes _ _ _ c.space_of.ensures.read ∙ sym c.begins_name.ensures ∙ c.if-not-begins_name.false) (attribute_bare _ _ _ c.space_of.ensures.read (attributes_spaced _ _ _ c.args.self.now.read c.space_of.ensures.read (sym c.begins_name.ensures ∙ c.if-not-begins_name.false)) ∙ c.in_err-attribute.ensures.read))

pub invariant_of-self : goal.invariant_of-self
invariant_of-self c =
    let ut : IsUtf8 c.args.self.now.rest.now = search rules in
    let ua : IsUtf8 c.in_ok-attribute.attribute.after_space.now = search rules in
    let ub : IsUtf8 c.in_ok-attribute.attribute.after_name.now = search rules in
    let uc : IsUtf8 c.in_ok-attribute.attribute.value.now = search rules in
    let ud : IsUtf8 c.in_ok-attribute.attribute.after_value.now = search rules in
    let ue : IsUtf8 c.in_ok-attribute.attribute.rest.now = search rules in
    let n = next_of c.args.self.now.at c.args.self.now.rest.now c.in_ok-attribute.attribute ut ua ub uc ud ue c.args.self.now.read (attribute_goes _ _ _ c.space_of.ensures.read ∙ sym c.begins_name.ensures ∙ c.if-not-begins_name.false) (attribute_bare _ _ _ c.space_of.ensures.read (attributes_spaced _ _ _ c.args.self.now.read c.space_of.ensures.read (sym c.begins_name.ensures ∙ c.if-not-begins_name.false)) ∙ c.in_ok-attribute.ensures.read) in
    record { read = n.read; room = omega (arith, c.args.self.now.room, c.space_of.ensures.lengths, c.in_ok-attribute.ensures.first, c.in_ok-attribute.ensures.later) }

pub returns-clause-steps : goal.returns-clause-steps
returns-clause-steps c =
    let ut : IsUtf8 c.args.self.now.rest.now = search rules in
    let ua : IsUtf8 c.in_ok-attribute.attribute.after_space.now = search rules in
    let ub : IsUtf8 c.in_ok-attribute.attribute.after_name.now = search rules in
    let uc : IsUtf8 c.in_ok-attribute.attribute.value.now = search rules in
    let ud : IsUtf8 c.in_ok-attribute.attribute.after_value.now = search rules in
    let ue : IsUtf8 c.in_ok-attribute.attribute.rest.now = search rules in
    let n = next_of c.args.self.now.at c.args.self.now.rest.now c.in_ok-attribute.attribute ut ua ub uc ud ue c.args.self.now.read (attribute_goes _ _ _ c.space_of.ensures.read ∙ sym c.begins_name.ensures ∙ c.if-not-begins_name.false) (attribute_bare _ _ _ c.space_of.ensures.read (attributes_spaced _ _ _ c.args.self.now.read c.space_of.ensures.read (sym c.begins_name.ensures ∙ c.if-not-begins_name.false)) ∙ c.in_ok-attribute.ensures.read) in
    rw (c.span_between.ensures, c.span_between-2.ensures) n.shown

pub returns-clause-goes : goal.returns-clause-goes
returns-clause-goes c =
    let ut : IsUtf8 c.args.self.now.rest.now = search rules in
    let ua : IsUtf8 c.in_ok-attribute.attribute.after_space.now = search rules in
    let ub : IsUtf8 c.in_ok-attribute.attribute.after_name.now = search rules in
    let uc : IsUtf8 c.in_ok-attribute.attribute.value.now = search rules in
    let ud : IsUtf8 c.in_ok-attribute.attribute.after_value.now = search rules in
    let ue : IsUtf8 c.in_ok-attribute.attribute.rest.now = search rules in
    let n = next_of c.args.self.now.at c.args.self.now.rest.now c.in_ok-attribute.attribute ut ua ub uc ud ue c.args.self.now.read (attribute_goes _ _ _ c.space_of.ensures.read ∙ sym c.begins_name.ensures ∙ c.if-not-begins_name.false) (attribute_bare _ _ _ c.space_of.ensures.read (attributes_spaced _ _ _ c.args.self.now.read c.space_of.ensures.read (sym c.begins_name.ensures ∙ c.if-not-begins_name.false)) ∙ c.in_ok-attribute.ensures.read) in
    let e = ap (λ (l : List AttributeItem). length l) n.shown in
    search rules
