-- What a parser that goes from the right knows of the tokens that are left.
use Rattle.std.proofs.Common.{◌≤◌, List, length}
use Rattle.xpath_tokens.specs.declared.Token.{Token}
use Rattle.xpath_grammar.specs.Tree.{Trees, none, more}
use Rattle.xpath_grammar.specs.Grammar.{Symbol, Phrase, Derives}

pub record Remaining {X : Type 0} (s : Symbol) (inject : X → Phrase) (put : X → X) (whole rest : List Token) : Type 0 where
  pub within : length rest ≤ length whole
  pub sound : (x : X) → Derives s rest (inject x) → Derives s whole (inject (put x))
  pub only : (e : Phrase) → Derives s whole e → (f : Phrase) × Derives s rest f

abbrev pub adds : Trees → Trees → Trees
adds none ys = ys
adds (more x xs) ys = more x (adds xs ys)
