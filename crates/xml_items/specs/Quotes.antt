-- What private functions promise: a quote by its byte.
use Rattle.std.specs.Prelude.{ℕ, cond, ◌==◌}
use Rattle.xml_model.specs.Items.{Quote, single, double}

abbrev pub quote_of : ℕ → Quote
quote_of b = cond (b == 39) single double
