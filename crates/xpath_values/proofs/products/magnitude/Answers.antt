use Rattle.std.proofs.Common.{◌∙◌, ◌*◌, ◌+◌, ◌/◌, ◌%◌}
use Rattle.xpath_values.proofs.ProductLemmas.{shape_ok, shape_range, shape_fraction, magnitude_cut}
use Rattle.xpath_values.proofs.products.magnitude.Goals as goal

pub returns-then-rest-ne0-clause-value : goal.returns-then-rest-ne0-clause-value
returns-then-rest-ne0-clause-value c =
    shape_fraction (c.args.a % 1000000 * c.args.b % 1000000) (c.args.a / 1000000 * c.args.b + c.args.a % 1000000 * c.args.b / 1000000) c.if-rest-ne0.true
    ∙ magnitude_cut c.args.a c.args.b

pub returns-then-product-le-GREATEST-clause-value : goal.returns-then-product-le-GREATEST-clause-value
returns-then-product-le-GREATEST-clause-value c =
    shape_ok (c.args.a % 1000000 * c.args.b % 1000000)
    (c.args.a / 1000000 * c.args.b + c.args.a % 1000000 * c.args.b / 1000000) c.if-rest-ne0.false c.if-product-le-GREATEST.true
    ∙ magnitude_cut c.args.a c.args.b

pub returns-else-product-le-GREATEST-clause-value : goal.returns-else-product-le-GREATEST-clause-value
returns-else-product-le-GREATEST-clause-value c =
    shape_range (c.args.a % 1000000 * c.args.b % 1000000)
    (c.args.a / 1000000 * c.args.b + c.args.a % 1000000 * c.args.b / 1000000) c.if-rest-ne0.false c.if-product-le-GREATEST.false
    ∙ magnitude_cut c.args.a c.args.b
