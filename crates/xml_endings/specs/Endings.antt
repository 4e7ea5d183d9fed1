-- Documents that end before their root element does. All of it is this project's own.
use Rattle.std.specs.Prelude.{◌≡◌, ℕ, ◌<◌, List, take}
use Rattle.xml_model.specs.declared.DocFault.{DocFault}
use Rattle.xml_model.specs.declared.DocFault.TheVariants as faults
use Rattle.xml_model.specs.Items.{first_place}
use Rattle.xml_model.specs.Nest.{Forest, done, single, empty, element}
use Rattle.xml_model.specs.Records.{past_leaf, past_empty, past_element}
use Rattle.xml_model.specs.Accepted.{Accepted, IsRefusal}

-- where the root element of a nest ends
abbrev pub root_end : ℕ → Forest → ℕ
root_end at done = at
root_end at (single x f) = root_end (past_leaf at x) f
root_end at (empty t f) = past_empty at t
root_end at (element t inside space f) = past_element at t inside space

-- a refusal of n bytes that such an end explains
abbrev pub IsOfEnd : ℕ → DocFault → Type 0
IsOfEnd n (faults.Utf8 at) = Unit {0}
IsOfEnd n (faults.Syntax at) = Unit {0}
IsOfEnd n (faults.Nesting at) = at ≡ n
IsOfEnd n _ = ⊥

-- the first n bytes of an accepted document, where its root element ends after them, are refused: for not being UTF-8,
-- for their syntax, or for their nesting at their end
abbrev pub CutShort : Type 0
CutShort =
    (k n : ℕ) (bytes : List ℕ) (nest : Forest) → Accepted k bytes nest → n < root_end (first_place bytes) nest →
    (fault : DocFault) × IsRefusal (take n bytes) fault × IsOfEnd n fault
