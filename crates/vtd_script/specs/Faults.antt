-- What is printed of a document that is refused (this project's own).
use Rattle.std.specs.Prelude.{ℕ, List, ◌++◌, codes}
use Rattle.std.specs.Fmt.{decimal}
use Rattle.xml_model.specs.declared.DocFault.{DocFault}
use Rattle.xml_model.specs.declared.DocFault.TheVariants as faults
use Rattle.xml_model.specs.declared.Field.{Field}
use Rattle.xml_model.specs.declared.Field.TheVariants as fields
use Rattle.vtd_listing.specs.Listing.{line_feed}

-- the words of a refused document, before the place
abbrev pub width_word : Field → List ℕ
width_word fields.Token = codes "width token "
width_word fields.Name = codes "width name "
width_word fields.Prefix = codes "width prefix "

abbrev pub fault_word : DocFault → List ℕ
fault_word (faults.Utf8 at) = codes "utf8 "
fault_word (faults.Syntax at) = codes "syntax "
fault_word (faults.Entity at) = codes "entity "
fault_word (faults.Encoding at) = codes "encoding "
fault_word (faults.Nesting at) = codes "nesting "
fault_word (faults.Depth at) = codes "depth "
fault_word (faults.Width field at) = width_word field
fault_word (faults.Twice at) = codes "twice "
fault_word (faults.Namespace at) = codes "namespace "

abbrev pub fault_place : DocFault → ℕ
fault_place (faults.Utf8 at) = at
fault_place (faults.Syntax at) = at
fault_place (faults.Entity at) = at
fault_place (faults.Encoding at) = at
fault_place (faults.Nesting at) = at
fault_place (faults.Depth at) = at
fault_place (faults.Width field at) = at
fault_place (faults.Twice at) = at
fault_place (faults.Namespace at) = at

-- the line of a refused document
unfoldable pub fault_line : DocFault → List ℕ
fault_line fault = codes "refused " ++ fault_word fault ++ decimal (fault_place fault) ++ line_feed
