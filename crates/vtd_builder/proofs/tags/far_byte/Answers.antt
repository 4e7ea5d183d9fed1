use Rattle.std.proofs.Common.{ℕ, List, ◌+◌, sym, ap, ◌∙◌}
use Rattle.std.specs.List.{prefix_len}
use Rattle.memchr.specs.Find.{is_byte}
use Rattle.xml_chars.proofs.TextLemmas.{run_from_first}
use Rattle.vtd_builder.specs.Cuts.{is_other}
use Rattle.vtd_builder.proofs.tags.far_byte.Goals as goal

pub returns-clause-value : goal.returns-clause-value
returns-clause-value c =
    let run = run_from_first (is_byte c.args.byte) c.split_at.result.1.now c.memchr.result c.memchr.ensures in
    ap (λ (n : ℕ). c.args.at + n) (c.unwrap_or.ensures ∙ sym run ∙ ap (λ (l : List ℕ). prefix_len (is_other c.args.byte) l) c.split_at.ensures.back)
