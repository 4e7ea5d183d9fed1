-- What private functions promise: where an item may be.
use Rattle.std.specs.Prelude.{Bool, true, false}
use Rattle.xml_model.specs.Items.{declaration, Item, leaf}

-- a declaration is at the first place alone
abbrev pub may_begin : Bool → Item → Bool
may_begin true i = true
may_begin false (leaf (declaration d)) = false
may_begin false _ = true
