use Rattle.std.proofs.Common.{sym, ◌∙◌, arith}
use Rattle.vtd_lines.specs.Commands.{command}
use Rattle.vtd_lines.specs.Fields.{fields}
use Rattle.vtd_lines.proofs.ReadLemmas.{reads_nothing, reads_long, reads_wrong, reads_command, reads_ok, reads_err}
use Rattle.vtd_lines.proofs.commands.read_line.Goals as goal

pub returns-then-is_empty : goal.returns-then-is_empty
returns-then-is_empty c = reads_nothing c.args.line.now (sym c.is_empty.ensures ∙ c.if-is_empty.true)

pub returns-then-line-gt-LINE_LIMIT : goal.returns-then-line-gt-LINE_LIMIT
returns-then-line-gt-LINE_LIMIT c = reads_long c.args.line.now (omega arith)

pub returns-in_default : goal.returns-in_default
returns-in_default c = reads_wrong c.args.line.now (record {
  some = sym c.is_empty.ensures
      ∙ c.if-is_empty.false;
  within = omega arith;
}) c.in_default.ensures.cases.0

pub returns-in-Ok-read_fields : goal.returns-in-Ok-read_fields
returns-in-Ok-read_fields c =
    reads_ok c.args.line.now (command (fields c.in-Ok.line.now)) c.in-Ok-read_fields.command
    (reads_command c.args.line.now c.in-Ok.line.now (record {
      some = sym c.is_empty.ensures
          ∙ c.if-is_empty.false;
      within = omega arith;
    }) c.in-Ok.ensures.cases.0 c.in-Ok.ensures.cases.1)
    c.in-Ok-read_fields.ensures

pub returns-in-Err : goal.returns-in-Err
returns-in-Err c =
    reads_err c.args.line.now (command (fields c.in-Ok.line.now)) c.in-Err.fault
    (reads_command c.args.line.now c.in-Ok.line.now (record {
      some = sym c.is_empty.ensures
          ∙ c.if-is_empty.false;
      within = omega arith;
    }) c.in-Ok.ensures.cases.0 c.in-Ok.ensures.cases.1)
    c.in-Err.ensures
