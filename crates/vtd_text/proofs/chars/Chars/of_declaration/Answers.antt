use Rattle.vtd_text.proofs.NameFacts.{declaration_within, declaration_record, declaration_gives}
use Rattle.vtd_text.proofs.chars.Chars.of_declaration.Goals as goal

pub after-requires : goal.after-requires
after-requires g c = rw c.words-words.ensures.value (declaration_within _ _ c.words-words.ensures.table.few c.args.at c.requires)

pub of_record-requires-clause-within : goal.of_record-requires-clause-within
of_record-requires-clause-within g c = rw (c.words-words.ensures.value, c.after.ensures) (declaration_within _ _ c.words-words.ensures.table.few c.args.at c.requires)

pub of_record-requires-clause-record : goal.of_record-requires-clause-record
of_record-requires-clause-record g c = rw (c.bytes.ensures.value, c.words-words.ensures.value, c.after.ensures) (declaration_record _ _ c.words-words.ensures.table.few c.args.at c.requires)

pub returns : goal.returns
returns g c = λ nest s a n.
    let f = rw (c.bytes.ensures.value, c.words-words.ensures.value, c.after.ensures) at c.of_record.ensures in
    declaration_gives _ _ c.words-words.ensures.table.few c.args.at c.of_record.result f nest s a n
