-- What a change that is made says of the node that is set.
use Rattle.std.proofs.Common.{◌≡◌, ℕ, ◌≤◌, ◌^◌, List, length, sym, subst, ◌∙◌, Result, Ok, Err, OnOk}
use Rattle.std.specs.Prelude.{IfErr}
use Rattle.xml_model.specs.declared.Node.{Node}
use Rattle.xml_model.specs.Nest.{Forest}
use Rattle.xml_model.specs.Tree.{Entry}
use Rattle.vtd_words.specs.Lists.{Lists}
use Rattle.vtd_words.specs.Table.{ForEachEntry}
use Rattle.vtd_builder.specs.Exchanges.{with_range}
use Rattle.vtd_patch.specs.declared.change.Change.{Change}
use Rattle.vtd_patch.specs.declared.patching.PatchFault.{PatchFault}
use Rattle.vtd_patch.specs.Changes.{IsChange, IsIn}
use Rattle.vtd_patch.specs.Patches.{patched, IsRefusedFor}
use Rattle.vtd_patch.proofs.OneSplice.{patched_is}

-- what holds of each entry does so of the same bytes and words
pub entries_there : (bytes other : List ℕ) (lists others : Lists) (node : Node) (P : Forest → Entry → Type 0) → other ≡ bytes → others ≡ lists →
    ForEachEntry other others node P → ForEachEntry bytes lists node P
entries_there bytes other lists others node P b l h =
    subst (λ (ws : Lists). ForEachEntry bytes ws node P) l (subst (λ (bs : List ℕ). ForEachEntry bs others node P) b h)

-- so is a change
pub change_there : (bytes other text : List ℕ) (lists others : Lists) (node : Node) (c : Change) → other ≡ bytes → others ≡ lists →
    ForEachEntry other others node (λ nest e. IsChange other text e c) → ForEachEntry bytes lists node (λ nest e. IsChange bytes text e c)
change_there bytes other text lists others node c b l h =
    subst (λ (ws : Lists). ForEachEntry bytes ws node (λ nest e. IsChange bytes text e c)) l
    (subst (λ (bs : List ℕ). ForEachEntry bs others node (λ nest e. IsChange bs text e c)) b h)

module _ (bytes text : List ℕ) (lists : Lists) (node : Node) (c : Change) (within : IsIn bytes c)
    (made : ForEachEntry bytes lists node (λ nest e. IsChange bytes text e c)) where
  abbrev changed : List ℕ
  changed = with_range c.start c.end c.text bytes

  all_patched : ForEachEntry bytes lists node (λ nest e. patched bytes text e ≡ changed)
  all_patched nest s e i = patched_is bytes text c.text e c.start c.end within.order within.within (made nest s e i)

  pub patched_ok : (r : Result (Unit {0}) PatchFault) (new : List ℕ) → OnOk r (new ≡ changed) →
      OnOk r (ForEachEntry bytes lists node (λ nest e. new ≡ patched bytes text e))
  patched_ok (Ok x) new h = λ nest s e i. h ∙ sym (all_patched nest s e i)
  patched_ok (Err f) new h = tt

  pub patched_err : (r : Result (Unit {0}) PatchFault) → IfErr r (IsRefusedFor changed) →
      IfErr r (λ fault. ForEachEntry bytes lists node (λ nest e. IsRefusedFor (patched bytes text e) fault))
  patched_err (Ok x) h = tt
  patched_err (Err f) h = λ nest s e i. subst (λ (l : List ℕ). IsRefusedFor l f) (sym (all_patched nest s e i)) h

  pub patched_long : 2 ^ 30 ≤ length changed → ForEachEntry bytes lists node (λ nest e. 2 ^ 30 ≤ length (patched bytes text e))
  patched_long h nest s e i = subst (λ (l : List ℕ). 2 ^ 30 ≤ length l) (sym (all_patched nest s e i)) h
