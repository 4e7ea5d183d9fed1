use Rattle.std.proofs.Common.{◌≡◌}
use Rattle.xml_model.specs.Names.{scope}
use Rattle.xpath_meaning.specs.Functions.{is_some_language, language}
use Rattle.xpath_meaning.proofs.Nodes.{node_known_in, entry_in}
use Rattle.xpath_calls.proofs.nodes.speaks.Goals as goal

pub is_of_language-requires : goal.is_of_language-requires
is_of_language-requires g c = node_known_in _ _ _ _ c.table_of.ensures.bytes c.table_of.ensures.lists c.table_of.ensures.nav c.requires

pub returns : goal.returns
returns g c = λ d h. entry_in _ _ _ c.args.place.node (λ e. c.is_of_language.result ≡ is_some_language c.args.asked.now (language (scope e)))
    c.table_of.ensures.bytes c.table_of.ensures.lists c.is_of_language.ensures d h.scope d.node h.stands
