use Rattle.vtd_namespaces.proofs.resolver.go_to.Goals as goal

pub pass_records-requires-clause-opened : goal.pass_records-requires-clause-opened
pass_records-requires-clause-opened g c = λ rs s. c.new.ensures rs
