use Rattle.std.proofs.Common.{ap, ◌∙◌}
use Rattle.std.specs.List.{prefix_len}
use Rattle.xml_model.specs.Chars.{is_space}
use Rattle.xml_chars.specs.Reading.{read_space}
use Rattle.xml_chars.proofs.Ranges.{space_low}
use Rattle.xml_chars.proofs.TextLemmas.{split_run, run_of_split}
use Rattle.xml_chars.proofs.text.space_of.Goals as goal

pub split_at-requires : goal.split_at-requires
split_at-requires c = (split_run is_space space_low c.args.text.now c.space_len.result c.utf8.text (c.space_len.ensures.value ∙ ap (prefix_len is_space) c.as_bytes.ensures.value)).boundary

pub returns-clause-read : goal.returns-clause-read
unfolding read_space
returns-clause-read c =
    run_of_split is_space c.args.text.now _ _ c.space_len.result
    (split_run is_space space_low c.args.text.now c.space_len.result c.utf8.text (c.space_len.ensures.value ∙ ap (prefix_len is_space) c.as_bytes.ensures.value))
    c.split_at.ensures.front c.split_at.ensures.back
