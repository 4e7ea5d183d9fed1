-- What a step that can be made tells of its splices and of its bytes.
use Rattle.std.proofs.Common.{◌≡◌, ℕ, ◌+◌, ◌≤◌, Bool, true, false, nat_eq, nat_le, ◌&&◌, List, [], ◌∷◌, ◌++◌, length}
use Rattle.std.proofs.Common.{refl, subst, arith}
use Rattle.std.specs.List.{All}
use Rattle.std.proofs.lemmas.Bool.{and_parts, leb-true}
use Rattle.std.proofs.lemmas.List.{drop_at}
use Rattle.std.proofs.lemmas.List.Elements.{All-drop}
use Rattle.xml_model.specs.Accepted.{IsRefusal, layer}
use Rattle.xml_model.specs.declared.DocFault.{DocFault}
use Rattle.xml_model.specs.declared.DocFault.TheVariants as docs
use Rattle.xml_acceptance.proofs.OneAnswer as answers
use Rattle.vtd_edits.specs.declared.splice.Splice.{Splice}
use Rattle.vtd_edits.specs.Splices.{IsWithin}
use Rattle.vtd_history.specs.Versions.{Version, IsAcceptedDocument, IsSound, unstaged}
use Rattle.vtd_history.specs.Steps.{staged, patched, Turned, turned, where_true, with_splices, with_range, range, is_none, is_range}
use Rattle.vtd_history.specs.Chains.{Leads, CanTurn}

within_right : (len : ℕ) (xs ys : List Splice) → All (IsWithin len) (xs ++ ys) → All (IsWithin len) ys
within_right len xs ys h = subst (λ (zs : List Splice). All (IsWithin len) zs) (drop_at xs ys (length xs) refl)
    (All-drop (IsWithin len) (length xs) (xs ++ ys) h)

leads_where : (b : Bool) (t : Turned) → Leads (where_true b t) (λ q. Unit {0}) → (b ≡ true) × IsSound t.version
leads_where true t h = (refl, h.0)
leads_where false t h = absurd h

-- where splices can be staged again, the new version is sound
pub staged_sound : (count : ℕ) (taken : List Splice) (version : Version) → is_none taken ≡ false → CanTurn (staged count taken) version
    → IsSound (with_splices (version.edits.splices ++ taken) version)
staged_sound count [] version some h = absurd (cc)
staged_sound count (x ∷ taken) version some h =
    (leads_where (nat_eq (length (x ∷ taken)) count) (turned (with_splices (version.edits.splices ++ x ∷ taken) version)
    (staged count [])) h).1

pub staged_within : (count : ℕ) (taken : List Splice) (version : Version) → is_none taken ≡ false → CanTurn (staged count taken) version
    → All (IsWithin version.edits.len) taken
staged_within count taken version some h =
    within_right version.edits.len version.edits.splices taken (staged_sound count taken version some h).edits.within

-- where a segment can be put back, its range is one of the bytes, and what results is accepted
pub patched_parts : (start end : ℕ) (new : List ℕ) (version : Version) → CanTurn (patched start end new) version
    → (is_none version.edits.splices && is_range start end version.bytes ≡ true) × IsSound
    (unstaged (with_range start end new version.bytes))
patched_parts start end new version h =
    leads_where (is_none version.edits.splices && is_range start end version.bytes)
    (turned (unstaged (with_range start end new version.bytes)) (patched start (start + length new) (range start end version.bytes))) h

pub patched_start : (start end : ℕ) (new : List ℕ) (version : Version) → CanTurn (patched start end new) version → start ≤ end
patched_start start end new version h =
    let b = and_parts (is_none version.edits.splices) (is_range start end version.bytes) (patched_parts start end new version h).0 in
    leb-true start end (and_parts (nat_le start end) (nat_le end (length version.bytes)) b.1).0

pub patched_end : (start end : ℕ) (new : List ℕ) (version : Version) → CanTurn (patched start end new) version
    → end ≤ length version.bytes
patched_end start end new version h =
    let b = and_parts (is_none version.edits.splices) (is_range start end version.bytes) (patched_parts start end new version h).0 in
    leb-true end (length version.bytes) (and_parts (nat_le start end) (nat_le end (length version.bytes)) b.1).1

pub patched_accepted : (start end : ℕ) (new : List ℕ) (version : Version) → CanTurn (patched start end new) version
    → IsAcceptedDocument (with_range start end new version.bytes)
patched_accepted start end new version h = (patched_parts start end new version h).1.document

-- there are eight layers, so what is accepted as far as the last is not refused
last_layer : (fault : DocFault) → layer fault ≤ 8
last_layer (docs.Utf8 at) = omega arith
last_layer (docs.Syntax at) = omega arith
last_layer (docs.Entity at) = omega arith
last_layer (docs.Encoding at) = omega arith
last_layer (docs.Nesting at) = omega arith
last_layer (docs.Depth at) = omega arith
last_layer (docs.Width field at) = omega arith
last_layer (docs.Twice at) = omega arith
last_layer (docs.Namespace at) = omega arith

pub not_refused : (bytes : List ℕ) (fault : DocFault) → IsAcceptedDocument bytes → IsRefusal bytes fault → ⊥
not_refused bytes fault a r = answers.not_both 8 bytes a.nest fault a.accepted (last_layer fault) r
