use Rattle.xpath_comparisons.proofs.keys.key_at.Goals as goal

pub returns : goal.returns
returns g c = λ t h. let k = c.chars_at-chars.ensures t h in rw (c.hash_of-hash.ensures, c.again.ensures, k)
