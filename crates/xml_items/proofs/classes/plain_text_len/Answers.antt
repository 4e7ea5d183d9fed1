use Rattle.std.proofs.Common.{◌∙◌, ◌+◌, ap, arith, ℕ}
use Rattle.std.specs.List.{prefix_len}
use Rattle.xml_items.specs.Plain.{is_text_byte}
use Rattle.xml_items.proofs.ByteRuns.{run_prefix, run_back}
use Rattle.xml_items.proofs.classes.plain_text_len.Goals as goal

pub returns-then-len-lt-SHORT-clause-value : goal.returns-then-len-lt-SHORT-clause-value
returns-then-len-lt-SHORT-clause-value c = c.short_text_len-len.ensures.value ∙ run_prefix is_text_byte c.args.bytes.now c.split_at.result.0.now c.min.result 16 c.min.ensures c.split_at.ensures.front (omega (arith, c.short_text_len-len.ensures.value))

pub returns-clause-value : goal.returns-clause-value
returns-clause-value c =
    ap (λ (k : ℕ). k + c.run_len.result) c.short_text_len-len.ensures.value ∙ ap (λ (k : ℕ). prefix_len is_text_byte c.split_at.result.0.now + k) c.run_len.ensures.value
    ∙ run_back is_text_byte c.args.bytes.now c.split_at.result.0.now c.split_at.result.1.now c.min.result 16 c.min.ensures c.split_at.ensures.front c.split_at.ensures.back (omega (arith, c.short_text_len-len.ensures.value))
