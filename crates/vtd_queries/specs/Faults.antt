-- Why the text of an expression has no answer, by why the parts of the way to it are refused (this project's own).
use Rattle.std.specs.Prelude.{Result, Ok, Err}
use Rattle.xpath_grammar.specs.declared.entry.GrammarFault.{GrammarFault}
use Rattle.xpath_grammar.specs.declared.entry.GrammarFault.TheVariants as grammar
use Rattle.xpath_grammar.specs.declared.faults.StaticFault.{StaticFault}
use Rattle.xpath_grammar.specs.declared.faults.StaticFault.TheVariants as static
use Rattle.xpath_values.specs.declared.ValueFault.{ValueFault}
use Rattle.xpath_values.specs.declared.ValueFault.TheVariants as value
use Rattle.vtd_modifier.specs.declared.operation.EditFault.{EditFault}
use Rattle.vtd_modifier.specs.declared.operation.EditFault.TheVariants as edit
use Rattle.vtd_queries.specs.declared.faults.QueryFault.{QueryFault}
use Rattle.vtd_queries.specs.declared.faults.QueryFault.TheVariants as query
use Rattle.vtd_queries.specs.declared.faults.OperationFault.{OperationFault}
use Rattle.vtd_queries.specs.declared.faults.OperationFault.TheVariants as operation

abbrev pub grammar_fault : GrammarFault → QueryFault
grammar_fault grammar.Long = query.Long
grammar_fault grammar.Deep = query.Deep
grammar_fault grammar.Syntax = query.Syntax
grammar_fault grammar.NoMemory = query.NoMemory

abbrev pub static_fault : StaticFault → QueryFault
static_fault static.Axis = query.Axis
static_fault static.Variable = query.Variable
static_fault static.Function = query.Function
static_fault static.Arguments = query.Arguments
static_fault static.Prefix = query.Prefix
static_fault static.Fraction = query.LiteralFraction
static_fault static.Range = query.LiteralRange
static_fault static.NotNodes = query.NeedsNodes

abbrev pub value_fault : ValueFault → QueryFault
value_fault value.Fraction = query.Fraction
value_fault value.Infinite = query.Infinite
value_fault value.Range = query.Range
value_fault value.NoMemory = query.NoMemory

abbrev pub edit_fault : EditFault → OperationFault
edit_fault edit.Name = operation.Name
edit_fault (edit.Kind at) = operation.Kind at
edit_fault edit.NoMemory = operation.Query query.NoMemory

-- what comes of an answer; a fault stays
abbrev pub and_then : {X Y : Type 0} → Result X QueryFault → (X → Result Y QueryFault) → Result Y QueryFault
and_then (Ok x) f = f x
and_then (Err fault) f = Err fault
