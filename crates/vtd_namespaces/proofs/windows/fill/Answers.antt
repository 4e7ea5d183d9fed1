use Rattle.std.proofs.Common.{◌+◌, ◌<◌, length, drop, arith}
use Rattle.std.proofs.lemmas.List.{length-take}
use Rattle.vtd_words.specs.Table.{nodes_of}
use Rattle.vtd_namespaces.specs.Scope.{IsNearest}
use Rattle.vtd_namespaces.proofs.ScopeLemmas.{declaration_there}
use Rattle.vtd_namespaces.proofs.WindowLemmas.{nothing_taken, first_part, parts_declare}
use Rattle.vtd_namespaces.proofs.windows.fill.Goals as goal

pub seek_in_tags-requires-clause-none : goal.seek_in_tags-requires-clause-none
seek_in_tags-requires-clause-none g c = nothing_taken c.args.found.now (c.names_from-count.result + 1) c.requires.none

pub returns-clause-nearest : goal.returns-clause-nearest
returns-clause-nearest g c = λ nest hs s k p l has.
    let within : k < length c.seek_in_tags.new.found = omega (arith, l, c.seek_in_tags.ensures.len, length-take (c.names_from-count.result + 1) c.args.found.now, c.names_from-count.ensures.within, c.requires.some) in
    first_part (IsNearest (nodes_of c.args.scope.now.table.now.bytes nest) hs p) c.seek_in_tags.new.found (drop (c.names_from-count.result + 1) c.args.found.now) k within
    ((rw (c.bytes.ensures.value, c.words-words.ensures.value) at c.seek_in_tags.ensures.found) nest s.shown hs s.chain s.opened s.many k p (omega (arith, l, length-take (c.names_from-count.result + 1) c.args.found.now, c.names_from-count.ensures.within, c.requires.some)) has)

pub returns-clause-declarations : goal.returns-clause-declarations
returns-clause-declarations g c =
    parts_declare c.args.scope.now.table.now.bytes _ c.seek_in_tags.new.found c.args.found.now (c.names_from-count.result + 1) (λ m. declaration_there _ _ c.bytes.ensures.table _ (λ rs s. (rw c.words-words.ensures.value at c.seek_in_tags.ensures.known) rs s m)) c.requires.none
