use Rattle.vtd_lines.specs.declared.commands.LineFault.TheVariants as why
use Rattle.vtd_script.proofs.Parts.{asks_none, asks_refusal, asks_some}
use Rattle.vtd_script.proofs.session.read_command.Goals as goal

pub returns-in-Ok-None : goal.returns-in-Ok-None
returns-in-Ok-None c = asks_none c.args.line.now c.in-Ok-None.field-0 c.in-Ok-None.field-0-is c.in-Ok-None.ensures

pub returns-in-Ok-Some : goal.returns-in-Ok-Some
returns-in-Ok-Some c = asks_some c.args.line.now c.in-Ok-Some.field-0 c.in-Ok-Some.command c.in-Ok-Some.field-0-is c.in-Ok-Some.ensures

pub returns-in-Err-Long : goal.returns-in-Err-Long
returns-in-Err-Long c = asks_refusal c.args.line.now c.in-Err-Long.field-0 why.Long c.in-Err-Long.field-0-is c.in-Err-Long.ensures

pub returns-in-Err-Utf8 : goal.returns-in-Err-Utf8
returns-in-Err-Utf8 c = asks_refusal c.args.line.now c.in-Err-Utf8.field-0 why.Utf8 c.in-Err-Utf8.field-0-is c.in-Err-Utf8.ensures

pub returns-in-Err-Command : goal.returns-in-Err-Command
returns-in-Err-Command c = asks_refusal c.args.line.now c.in-Err-Command.field-0 why.Command c.in-Err-Command.field-0-is c.in-Err-Command.ensures

pub returns-in-Err-Escape : goal.returns-in-Err-Escape
returns-in-Err-Escape c = asks_refusal c.args.line.now c.in-Err-Escape.field-0 why.Escape c.in-Err-Escape.field-0-is c.in-Err-Escape.ensures
