-- A place at which no item begins refuses the bytes.
use Rattle.std.proofs.Common.{◌≡◌, ℕ, ◌<◌, true, false, List, length, sym, subst, arith}
use Rattle.std.specs.Prelude.{IsUtf8}
use Rattle.std.proofs.Math.Seq.{take-length}
use Rattle.xml_model.specs.declared.DocFault.{DocFault}
use Rattle.xml_model.specs.declared.DocFault.TheVariants as faults
use Rattle.xml_model.specs.Items.{Item, begins_at, first_place, walk, end_of_items}
use Rattle.xml_model.specs.Accepted.{Refuses, IsRefusal, layer}

pub syntax_refusal : (bytes : List ℕ) (is : List Item) (at : ℕ) → IsUtf8 bytes → walk bytes is ≡ true →
    end_of_items (first_place bytes) is ≡ at → at < length bytes → ((i : Item) → begins_at bytes at i ≡ false) →
    IsRefusal bytes (faults.Syntax at)
syntax_refusal bytes is at u w e l none = record {
  refuses = record { items = is; walked = w; ends = e; within = l; none = none };
  first = λ other below r. earlier other below r;
}
  where
    earlier : (other : DocFault) → layer other < 2 → Refuses bytes other → ⊥
    earlier (faults.Utf8 n) b r = r.longest (length bytes) r.within (omega arith) (subst IsUtf8 (sym (take-length bytes)) u)
    earlier (faults.Syntax n) b r = omega (arith, b)
    earlier (faults.Entity n) b r = omega (arith, b)
    earlier (faults.Encoding n) b r = omega (arith, b)
    earlier (faults.Nesting n) b r = omega (arith, b)
    earlier (faults.Depth n) b r = omega (arith, b)
    earlier (faults.Width field n) b r = omega (arith, b)
    earlier (faults.Twice n) b r = omega (arith, b)
    earlier (faults.Namespace n) b r = omega (arith, b)
