use Rattle.std.proofs.Common.{◌∙◌, sym}
use Rattle.std.proofs.lemmas.Bool.{eqb-true}
use Rattle.vtd_namespaces.specs.Scope.{tags_in}
use Rattle.vtd_namespaces.proofs.DeclarationLemmas.{some_length}
use Rattle.vtd_namespaces.proofs.UriLemmas.{bind_xml, bind_none, bind_taken, bind_kept, bind_prefix}
use Rattle.vtd_namespaces.proofs.holders.uri_by.Goals as goal
use Rattle.vtd_namespaces.proofs.holders.uri_by.Goals.{else-is_empty-via-then-is_empty+else-equals_str, else-is_empty-via-else-is_empty}

pub returns-then-eq : goal.returns-then-eq
returns-then-eq g c = λ nest s hs p e f. bind_xml c.args.prefix.now p (tags_in hs) e (sym c.eq.ensures ∙ c.if-eq.true)

pub returns-then-equals_str : goal.returns-then-equals_str
returns-then-equals_str g c = λ nest s hs p e f.
    bind_taken c.args.table.now.bytes nest hs c.args.prefix.now p c.args.declaration c.in-Some.at c.of_declaration.result c.equals_str.result e (sym c.eq.ensures ∙ c.if-eq.false) c.in-Some.is f
    (c.of_declaration.ensures nest s) (eqb-true _ _ (sym c.is_empty.ensures ∙ c.if-is_empty.true)) c.equals_str.ensures c.if-equals_str.true

pub returns-in-None : goal.returns-in-None
returns-in-None g c = λ nest s hs p e f. bind_none _ hs c.args.prefix.now p c.args.declaration e (sym c.eq.ensures ∙ c.if-eq.false) c.in-None.is f

pub returns-else-is_empty : goal.returns-else-is_empty
returns-else-is_empty g c = λ nest s hs p e f.
    elim c.else-is_empty.branch [
      | else-is_empty-via-then-is_empty+else-equals_str w ↦
          bind_kept c.args.table.now.bytes nest hs c.args.prefix.now p c.args.declaration c.in-Some.at c.of_declaration-in-Some.result w.of_declaration.result w.equals_str.result e (sym c.eq.ensures ∙ c.if-eq.false) c.in-Some.is f
          (c.of_declaration-in-Some.ensures nest s) (w.of_declaration.ensures nest s) (eqb-true _ _ (sym c.is_empty.ensures ∙ w.if-is_empty.true)) w.equals_str.ensures w.if-equals_str.false
      | else-is_empty-via-else-is_empty w ↦
          bind_prefix c.args.table.now.bytes nest hs c.args.prefix.now p c.args.declaration c.in-Some.at c.of_declaration-in-Some.result e (sym c.eq.ensures ∙ c.if-eq.false) c.in-Some.is f
          (c.of_declaration-in-Some.ensures nest s) (some_length c.args.prefix.now (sym c.is_empty.ensures ∙ w.if-is_empty.false))
    ]
