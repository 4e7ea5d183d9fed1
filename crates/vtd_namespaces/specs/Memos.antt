-- What a memo notes (this project's own).
use Rattle.std.specs.Prelude.{ℕ, List}
use Rattle.vtd_namespaces.specs.declared.memo.Memo.{Memo}
use Rattle.vtd_namespaces.specs.Reach.{IsMemo}

-- what a memo notes is known of a document, by its bytes and its words
abbrev pub IsMemoOf : List ℕ → List ℕ → Memo → Type 0
IsMemoOf bytes words memo = IsMemo bytes words memo.tags memo.offsets memo.lens memo.declarations
