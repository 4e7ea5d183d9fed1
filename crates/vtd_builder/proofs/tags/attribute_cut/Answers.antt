use Rattle.std.proofs.Common.{get_or, refl, arith}
use Rattle.vtd_builder.proofs.Cutting.{cut_facts, cut_equals, cut_quote, cut_value, cut_same}
use Rattle.vtd_builder.proofs.tags.attribute_cut.Goals as goal

pub past_space-quote-requires-clause-place : goal.past_space-quote-requires-clause-place
past_space-quote-requires-clause-place c =
    let a = c.requires.attribute.0 in
    let f = cut_facts c.args.bytes.now c.args.at a c.requires.attribute.1 in
    let e = cut_equals c.args.bytes.now c.args.at a c.past_name-name_end.result c.past_space-equals.result f c.past_name-name_end.ensures.value c.past_space-equals.ensures.value in
    omega (arith, e.1, f.end)

pub bounds-bytes-quote : goal.bounds-bytes-quote
bounds-bytes-quote c =
    let a = c.requires.attribute.0 in
    let f = cut_facts c.args.bytes.now c.args.at a c.requires.attribute.1 in
    let e = cut_equals c.args.bytes.now c.args.at a c.past_name-name_end.result c.past_space-equals.result f c.past_name-name_end.ensures.value c.past_space-equals.ensures.value in
    let q = cut_quote c.args.bytes.now c.args.at a c.past_space-equals.result c.past_space-quote.result f e.1 c.past_space-quote.ensures.value in
    omega (arith, q, f.end)

pub next_byte-end-requires-clause-place : goal.next_byte-end-requires-clause-place
next_byte-end-requires-clause-place c =
    let a = c.requires.attribute.0 in
    let f = cut_facts c.args.bytes.now c.args.at a c.requires.attribute.1 in
    let e = cut_equals c.args.bytes.now c.args.at a c.past_name-name_end.result c.past_space-equals.result f c.past_name-name_end.ensures.value c.past_space-equals.ensures.value in
    let q = cut_quote c.args.bytes.now c.args.at a c.past_space-equals.result c.past_space-quote.result f e.1 c.past_space-quote.ensures.value in
    omega (arith, q, f.end)

pub returns : goal.returns
returns c = λ a k.
    let f = cut_facts c.args.bytes.now c.args.at a k in
    let e = cut_equals c.args.bytes.now c.args.at a c.past_name-name_end.result c.past_space-equals.result f c.past_name-name_end.ensures.value c.past_space-equals.ensures.value in
    let q = cut_quote c.args.bytes.now c.args.at a c.past_space-equals.result c.past_space-quote.result f e.1 c.past_space-quote.ensures.value in
    let v = cut_value c.args.bytes.now c.args.at a c.past_space-quote.result (get_or c.args.bytes.now c.past_space-quote.result 0) c.next_byte-end.result f q refl c.next_byte-end.ensures.value in
    cut_same c.args.at c.past_name-name_end.result c.past_space-quote.result c.next_byte-end.result a e.0 (omega (arith, q, f.before)) v
