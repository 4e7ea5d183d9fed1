use Rattle.std.proofs.Common.{length, ◌≡◌, ℕ, ◌+◌, ◌*◌, ◌<◌, List, None}
use Rattle.std.specs.List.{slice_index_or}
use Rattle.xml_model.specs.Items.{first_place}
use Rattle.xml_model.specs.Nest.{Forest}
use Rattle.xml_model.specs.Records.{records}
use Rattle.xml_model.specs.Scan.{record_at}
use Rattle.xml_model.specs.Tree.{Holder}
use Rattle.vtd_words.specs.Table.{IsNestOf, nodes_of}
use Rattle.vtd_namespaces.specs.Scope.{Chain, Opened}
use Rattle.vtd_namespaces.specs.Windows.{AreFound, HasPrefix}
use Rattle.vtd_namespaces.proofs.WindowLemmas.{IsFoundOr}
use Rattle.vtd_namespaces.proofs.windows.seek_in_tags.Given as goal

abbrev pub invariant-loop-level : goal.invariant-loop-level
invariant-loop-level g l = record {
  len : length l.found ≡ length l.fn.found;
  known : AreFound (g.W.Words.lists l.words).records l.found;
  found : (nest : Forest) → IsNestOf l.bytes (g.W.Words.lists l.words) nest → (hs : List Holder) → Chain (nodes_of l.bytes nest) hs → Opened l.open_tags hs → length hs ≡ l.levels →
      (k : ℕ) (p : List ℕ) → k < length l.fn.found → HasPrefix l.bytes (record_at (l.at + 2 * k) (records nest (first_place l.bytes))) p → IsFoundOr (nodes_of l.bytes nest) l.open_tags hs p l.level (slice_index_or l.found k None);
}
