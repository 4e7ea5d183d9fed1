use Rattle.std.proofs.Common.{◌≡◌, length, sym, ap, ◌∙◌}
use Rattle.std.proofs.lemmas.List.{length-map}
use Rattle.std.proofs.lemmas.Slice.Zip.{AllZip-long}
use Rattle.vtd_words.specs.Table.{node_of}
use Rattle.vtd_listing.specs.Nodes.{paired_lines}
use Rattle.vtd_listing.proofs.NodeLemmas.{lines_of_nodes, listing_made}
use Rattle.vtd_listing.proofs.nodes.node_lines.Goals as goal

pub push_nodes-requires : goal.push_nodes-requires
push_nodes-requires g c = sym (AllZip-long _ _ _ c.in_ok-spans.ensures) ∙ sym (ap length c.deref.ensures.value)

pub returns : goal.returns
returns g c = λ nest s es e w.
    let are : c.as_slice-nodes.result.now ≡ c.args.nodes.now = c.as_slice-nodes.ensures.value ∙ c.nodes.view_is in
    listing_made es _ _ _ _ _ _ _ c.new-lines.ensures.items c.in_ok-push_text.ensures c.in_ok-push_decimal.ensures c.in_ok-push_text-2.ensures
    c.in_ok-push_nodes.ensures (ap length (are ∙ e) ∙ length-map es node_of)
    (ap (λ ss. paired_lines c.as_slice-nodes.result.now ss) c.deref.ensures.value
    ∙ lines_of_nodes c.args.nav.now.bytes (g.W.Words.lists c.args.nav.now.words) nest _ es _ s (are ∙ e) w c.in_ok-spans.ensures)
