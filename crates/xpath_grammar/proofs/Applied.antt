-- Operators after an expression.
use Rattle.std.proofs.Common.{◌≡◌, List, [], ◌∷◌, ◌++◌, refl, ap}
use Rattle.std.specs.Borrow.{Bor}
use Rattle.xpath_tokens.specs.declared.Token.{Token}
use Rattle.xpath_tokens.specs.declared.Token.TheVariants.{Or, And, Compare, Arithmetic, Bar}
use Rattle.xpath_grammar.specs.declared.expr.Expr.{Expr}
use Rattle.xpath_grammar.specs.Tree.{Tree, tree_of}
use Rattle.xpath_grammar.specs.Grammar.{expr}
use Rattle.xpath_grammar.specs.Cutting.{combined, IsBinary, tree_join, applied, AreBinary}

pub applied-push : (a : Tree) (ps : List (Bor Token × Expr)) (p : Bor Token × Expr) → applied a (ps ++ p ∷ []) ≡ applied (tree_join p.0.now a (tree_of p.1)) ps
applied-push a [] p = refl
applied-push a (q ∷ qs) p = ap (λ x. tree_join q.0.now x (tree_of q.1)) (applied-push a qs p)

pub AreBinary-push : (ps : List (Bor Token × Expr)) (p : Bor Token × Expr) → AreBinary ps → IsBinary p.0.now → AreBinary (ps ++ p ∷ [])
AreBinary-push [] p h k = (k, tt)
AreBinary-push (q ∷ qs) p h k = (h.0, AreBinary-push qs p h.1 k)

pub AreBinary-pop : (ps : List (Bor Token × Expr)) (p : Bor Token × Expr) → AreBinary (ps ++ p ∷ []) → AreBinary ps × IsBinary p.0.now
AreBinary-pop [] p h = (tt, h.0)
AreBinary-pop (q ∷ qs) p h = let x = AreBinary-pop qs p h.1 in ((h.0, x.0), x.1)

pub join-combined : (t : Token) (a b : Tree) → IsBinary t → combined t (expr a) (expr b) ≡ expr (tree_join t a b)
join-combined Or a b h = refl
join-combined And a b h = refl
join-combined (Compare how) a b h = refl
join-combined (Arithmetic op) a b h = refl
join-combined Bar a b h = refl
join-combined _ a b h = absurd h

pub joined_tree : (t : Token) (a b e : Tree) → IsBinary t → expr e ≡ combined t (expr a) (expr b) → e ≡ tree_join t a b
joined_tree t a b e k h = let x = join-combined t a b k in cc
