-- Texts that compute.
use Rattle.std.proofs.Common.{◌≡◌, [], Some, None, true, refl}
use Rattle.std.specs.Prelude.{pos, codes}
use Rattle.xml_model.specs.Chars.{is_space, in_ranges}
use Rattle.xpath_values.specs.declared.Number.TheVariants.{Nan, Millionths}
use Rattle.xpath_values.specs.Texts.{contains, normalize_space, substring, substring_after, substring_before, translate}

-- XPath 1.0, section 4.2
rounded : substring (codes "12345") (Millionths (pos 1500000)) (Some (Millionths (pos 2600000))) ≡ codes "234"
rounded = refl

from_nothing : substring (codes "12345") (Millionths (pos 0)) (Some (Millionths (pos 3000000))) ≡ codes "12"
from_nothing = refl

from_no_number : substring (codes "12345") Nan (Some (Millionths (pos 3000000))) ≡ []
from_no_number = refl

no_count : substring (codes "12345") (Millionths (pos 1000000)) (Some Nan) ≡ []
no_count = refl

from_two : substring (codes "12345") (Millionths (pos 2000000)) None ≡ codes "2345"
from_two = refl

date_before : substring_before (codes "1999/04/01") (codes "/") ≡ codes "1999"
date_before = refl

date_after : substring_after (codes "1999/04/01") (codes "/") ≡ codes "04/01"
date_after = refl

digits_after : substring_after (codes "1999/04/01") (codes "19") ≡ codes "99/04/01"
digits_after = refl

nothing_inside : contains (codes "ab") [] ≡ true
nothing_inside = refl

replaced_one : translate (codes "bar") (codes "abc") (codes "ABC") ≡ codes "BAr"
replaced_one = refl

replaced_less : translate (codes "--aaa--") (codes "abc-") (codes "ABC") ≡ codes "AAA"
replaced_less = refl

first_counts : translate (codes "a") (codes "aa") (codes "xy") ≡ codes "x"
first_counts = refl

inner_space : normalize_space (codes " a  b ") ≡ codes "a b"
unfolding is_space in_ranges
inner_space = refl
