-- A document that is accepted whole is accepted as far as a table asks.
use Rattle.std.proofs.Common.{◌≡◌, ℕ, ◌<◌, ◌≤◌, ◌^◌, true, List, length, ap, subst, sym, ◌∙◌, arith}
use Rattle.xml_model.specs.Nest.{Forest}
use Rattle.xml_model.specs.Items.{first_place}
use Rattle.xml_model.specs.Levels.{child_tags, is_element, is_tag}
use Rattle.xml_model.specs.Records.{Record, records}
use Rattle.xml_model.specs.Scan.{record_at}
use Rattle.xml_model.specs.Tree.{Entry}
use Rattle.xml_model.specs.Laws.{IsNode}
use Rattle.xml_model.specs.Accepted.{Accepted}
use Rattle.xml_model.proofs.Nested.{nests_are_nested}
use Rattle.xml_model.proofs.Proper.{document_meets}
use Rattle.xml_model.proofs.TreeLevels.{Tagged, tagged, children_are}
use Rattle.vtd_words.specs.Lists.{Lists}
use Rattle.vtd_words.specs.Table.{IsNestOf, IsTable, Shows}
use Rattle.vtd_words.proofs.Fitting.{nest_shown}
use Rattle.vtd_words.proofs.Same.{shown_same}
use Rattle.vtd_words.proofs.Shown.{shown_length}
use Rattle.vtd_location.specs.Children.{IsLeveled, TellsChildren}
use Rattle.vtd_location.specs.Nav.{IsNav, IsNavOf}

pub fewer_layers : (k : ℕ) (bytes : List ℕ) (nest : Forest) → Accepted k bytes nest → Accepted 6 bytes nest
fewer_layers k bytes nest a = record {
  utf8 = a.utf8;
  document = a.document;
  entities = a.entities;
  encoding = a.encoding;
  widths = a.widths;
  twice = λ h. absurd (omega (arith, h));
  names = λ h. absurd (omega (arith, h));
}

pub nest_of_table : (bytes : List ℕ) (lists : Lists) (nest : Forest) → IsNavOf bytes lists nest → IsNestOf bytes lists nest
nest_of_table bytes lists nest n = record { accepted = fewer_layers 8 bytes nest n.accepted; recorded = n.recorded }

pub is_table : (bytes : List ℕ) (lists : Lists) → IsNav bytes lists → IsTable bytes lists
is_table bytes lists n = record { few = n.few; nest = n.nest; shown = nest_of_table bytes lists n.nest n.shown }

-- the levels are those of the records
pub is_leveled : (bytes : List ℕ) (lists : Lists) → IsNav bytes lists → IsLeveled lists
is_leveled bytes lists n = record {
  tokens = records n.nest (first_place bytes);
  shown = nest_shown bytes lists n.nest n.few (nest_of_table bytes lists n.nest n.shown);
  nested = nests_are_nested n.nest (first_place bytes) n.shown.accepted.document.nests;
  leveled = n.shown.leveled;
}

-- the child elements of an element that is not deep
pub tells_children : (bytes : List ℕ) (lists : Lists) (nest : Forest) → length bytes < 2 ^ 30 → IsNavOf bytes lists nest →
    (x : Entry) → IsNode nest (first_place bytes) x → is_element x.what ≡ true → length x.holders ≤ 4 → TellsChildren bytes lists nest x
tells_children bytes lists nest few n x c t h =
    let first = first_place bytes in
    let document = n.accepted.document in
    let tokens = records nest first in
    let shown : Shows lists.records tokens = nest_shown bytes lists nest few (nest_of_table bytes lists nest n) in
    let here : Tagged tokens x = tagged nest first document.nests x c t in
    let same = λ (rs : List Record) (s : Shows lists.records rs). shown_same lists.records tokens rs shown s in
    record {
      tag = record {
        within = omega (arith, here.within, shown_length lists.records tokens shown);
        tag = λ rs s. subst (λ (ts : List Record). is_tag (record_at x.index ts) ≡ true) (same rs s) here.tag;
        shallow = λ rs s. subst (λ (ts : List Record). (record_at x.index ts).depth ≤ 4) (same rs s) (omega (arith, here.depth, h));
      };
      children = λ rs s. sym (ap (child_tags x.index) (same rs s)) ∙ sym (children_are nest first document.nests (document_meets bytes nest document) x c t);
    }
