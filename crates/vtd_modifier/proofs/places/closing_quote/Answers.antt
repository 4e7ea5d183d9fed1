use Rattle.vtd_modifier.proofs.BytesThere.{ByteIs}
use Rattle.vtd_modifier.proofs.NodePlaces.{quote_at, quote_room}
use Rattle.vtd_modifier.proofs.places.closing_quote.Goals as goal

pub bounds-bytes-at : goal.bounds-bytes-at
bounds-bytes-at g c =
    rw (c.bytes.ensures.value, c.table.ensures.value) (quote_room _ _ c.args.node c.requires.node c.requires.attribute c.args.at c.requires.place)

pub returns : goal.returns
returns g c = rw (c.bytes.ensures.value, c.table.ensures.value) (λ nest s e w a is.
    let byte = quote_at _ _ c.args.node c.args.at nest s e w (c.requires.place nest s e w) a is in byte.is)
