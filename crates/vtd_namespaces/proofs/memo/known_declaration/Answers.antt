use Rattle.std.proofs.Common.{arith}
use Rattle.vtd_namespaces.proofs.UndeclaredLemmas.{tag_declares_none}
use Rattle.vtd_namespaces.proofs.memo.known_declaration.Goals as goal

pub returns-then-tag-end-clause-found : goal.returns-then-tag-end-clause-found
returns-then-tag-end-clause-found g c = λ rs s at t hold p e.
    tag_declares_none c.args.bytes.now rs c.args.tag c.args.end at t p (c.requires.undeclared rs s) (omega arith) hold
