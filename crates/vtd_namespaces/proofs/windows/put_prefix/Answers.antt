use Rattle.std.proofs.Common.{◌∙◌, sym, refl, inl}
use Rattle.vtd_namespaces.proofs.windows.put_prefix.Goals as goal

pub returns-in-Some-clause-put : goal.returns-in-Some-clause-put
returns-in-Some-clause-put c = inl (
  refl,
  record {
    entry = (c.in-Some.prefix, c.args.at);
    put = refl;
    index = refl;
    declares = record { token = c.if-parts.false; name = sym c.slice_of.ensures ∙ c.in-Some.ensures.some };
  },
)
