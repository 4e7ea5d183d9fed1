-- From lists of tokens to texts.
use Rattle.std.proofs.Common.{◌≡◌, ℕ, ◌≤◌, false, List, length, Result, Ok, Err, IfErr, sym, subst}
use Rattle.std.specs.Str.{chars}
use Rattle.xpath_tokens.specs.declared.Token.{Token}
use Rattle.xpath_tokens.specs.declared.Fault.{Fault}
use Rattle.xpath_tokens.specs.declared.Fault.TheVariants as fault
use Rattle.xpath_tokens.specs.Tokens.{Splits}
use Rattle.xpath_tokens.proofs.Splitting.{one_split}
use Rattle.xpath_grammar.specs.declared.expr.Expr.{Expr}
use Rattle.xpath_grammar.specs.declared.entry.GrammarFault.{GrammarFault}
use Rattle.xpath_grammar.specs.declared.entry.GrammarFault.TheVariants.{Long, Deep, Syntax, NoMemory}
use Rattle.xpath_grammar.specs.Grammar.{OrExpr, Derives}
use Rattle.xpath_grammar.specs.Cutting.{Answers, as_expr}
use Rattle.xpath_grammar.specs.Parse.{IsDeep, longest_text, IsRefusal}
use Rattle.xpath_grammar.specs.TokenParse.{fault_of, ParsesTokens}

pub token_refused : (ts : List Token) (f : Fault) (r : GrammarFault) → r ≡ fault_of f → (IsDeep ts → ⊥) → Answers {X = Expr} OrExpr as_expr ts (Err f) → ParsesTokens ts (Err r)
token_refused ts fault.Syntax r e shallow no' = subst (λ z. ParsesTokens ts (Err z)) (sym e) (record { shallow = shallow; underived = no' })
token_refused ts fault.NoMemory r e shallow no' = subst (λ z. ParsesTokens ts (Err z)) (sym e) tt

pub text_refused : (text : List ℕ) (ts : List Token) (r : Result Expr GrammarFault) → length text ≤ longest_text → Splits false (chars text) ts → ParsesTokens ts r → IfErr r (IsRefusal text)
text_refused text ts (Ok e) short d p = tt
text_refused text ts (Err Long) short d p = absurd p
text_refused text ts (Err Deep) short d p = record { short = short; tokens = ts; split = d; deep = p }
text_refused text ts (Err Syntax) short d p = record {
  short = short;
  shallow = λ us k deep. p.shallow (subst IsDeep (one_split k d) deep);
  underived = λ us e k g. p.underived e (subst (λ z. Derives OrExpr z e) (one_split k d) g);
}
text_refused text ts (Err NoMemory) short d p = short
