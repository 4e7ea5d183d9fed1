use Rattle.std.proofs.Common.{◌≡◌, ℕ, List, length}
use Rattle.std.specs.Prelude.{encode_utf8_all}
use Rattle.xml_model.specs.Nest.{Forest}
use Rattle.xml_model.specs.Tree.{Holder}
use Rattle.vtd_words.specs.Table.{IsNestOf, nodes_of}
use Rattle.vtd_namespaces.specs.Reach.{IsMemo}
use Rattle.vtd_namespaces.specs.Scope.{Chain, Opened}
use Rattle.vtd_namespaces.proofs.DeclarationLemmas.{Left}
use Rattle.vtd_namespaces.proofs.memo.nearest_known.Given as goal

abbrev pub invariant-loop-level : goal.invariant-loop-level
invariant-loop-level g l = record {
  known : IsMemo l.bytes (g.W.Words.lists l.words).records l.memo.tags l.memo.offsets l.memo.lens l.memo.declarations;
  found : (nest : Forest) → IsNestOf l.bytes (g.W.Words.lists l.words) nest → (hs : List Holder) → Chain (nodes_of l.bytes nest) hs → Opened l.open_tags hs → length hs ≡ l.count →
      (p : List ℕ) → l.prefix.text.now ≡ encode_utf8_all p → Left (nodes_of l.bytes nest) l.open_tags hs p l.level;
}
