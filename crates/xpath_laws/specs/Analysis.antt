-- What the text of an expression shows of its value (this project's own).
use Rattle.std.specs.Prelude.{Bool, true, false, not, ◌||◌, Option, Some, None}
use Rattle.xpath_grammar.specs.Tree.{Tree, Trees, or, and, union, compare, arithmetic, negate, path, from, filter}
use Rattle.xpath_grammar.specs.Tree.{literal, number, variable, call, none, more}
use Rattle.xpath_meaning.specs.declared.function.Function.{Function}
use Rattle.xpath_meaning.specs.declared.function.Function.TheVariants as f
use Rattle.xpath_meaning.specs.Functions.{function_named}

-- the context node is read in place of an argument
abbrev pub is_default : Trees → Bool
is_default none = true
is_default (more e es) = false

-- whether a function reads the context node, the position or the size
abbrev pub function_reads : Option Function → Bool → Bool
function_reads None default = false
function_reads (Some f.Last) default = true
function_reads (Some f.Position) default = true
function_reads (Some f.Lang) default = true
function_reads (Some f.LocalName) default = default
function_reads (Some f.NamespaceUri) default = default
function_reads (Some f.Name) default = default
function_reads (Some f.AsString) default = default
function_reads (Some f.StringLength) default = default
function_reads (Some f.NormalizeSpace) default = default
function_reads (Some f.AsNumber) default = default
function_reads (Some _) default = false

-- whether an expression reads the context node, the position or the size; predicates, and steps after the first node,
-- do not count,
-- since they have contexts of their own
abbrev mutual
  pub reads_context : Tree → Bool
  reads_context (or a b) = reads_context a || reads_context b
  reads_context (and a b) = reads_context a || reads_context b
  reads_context (compare how a b) = reads_context a || reads_context b
  reads_context (arithmetic how a b) = reads_context a || reads_context b
  reads_context (negate a) = reads_context a
  reads_context (union a b) = reads_context a || reads_context b
  reads_context (path absolute w) = not absolute
  reads_context (from e w) = reads_context e
  reads_context (filter e ps) = reads_context e
  reads_context (literal t) = false
  reads_context (number t) = false
  reads_context (variable n) = false
  reads_context (call name es) = function_reads (function_named name) (is_default es) || some_reads es

  pub some_reads : Trees → Bool
  some_reads none = false
  some_reads (more e es) = reads_context e || some_reads es

-- whether a function reads the position or the size
abbrev pub asks_position : Option Function → Bool
asks_position (Some f.Last) = true
asks_position (Some f.Position) = true
asks_position _ = false

-- whether an expression reads the position or the size; predicates, and steps, do not count, since they have contexts
-- of their own
abbrev mutual
  pub reads_position : Tree → Bool
  reads_position (or a b) = reads_position a || reads_position b
  reads_position (and a b) = reads_position a || reads_position b
  reads_position (compare how a b) = reads_position a || reads_position b
  reads_position (arithmetic how a b) = reads_position a || reads_position b
  reads_position (negate a) = reads_position a
  reads_position (union a b) = reads_position a || reads_position b
  reads_position (path absolute w) = false
  reads_position (from e w) = reads_position e
  reads_position (filter e ps) = reads_position e
  reads_position (literal t) = false
  reads_position (number t) = false
  reads_position (variable n) = false
  reads_position (call name es) = asks_position (function_named name) || some_read_position es

  pub some_read_position : Trees → Bool
  some_read_position none = false
  some_read_position (more e es) = reads_position e || some_read_position es
