-- A session's changes: the conditions under which steps are kept, and what the session is then.
use Rattle.std.proofs.Common.{◌≡◌, ℕ, zero, suc, ◌+◌, ◌-◌, ◌≤◌, List, [], ◌∷◌, ◌++◌, length, drop, map, reverse}
use Rattle.std.proofs.Common.{Option, Some, None, refl, sym, ◌∙◌, ap, ap₂, subst, arith}
use Rattle.std.proofs.lemmas.List.{map-append, length-map, length-reverse}
use Rattle.circular_buffer.specs.Buffer.{keep_last}
use Rattle.vtd_words.specs.Lists.{Lists}
use Rattle.vtd_builder.specs.Documents.{IsDoc}
use Rattle.std.proofs.lemmas.List.Elements.{All-nil}
use Rattle.vtd_edits.specs.Splices.{AreEdits, IsWithin, Staged}
use Rattle.vtd_edits.specs.declared.splice.Splice.{Splice}
use Rattle.vtd_history.specs.Versions.{Version, version_of, edits_of, unstaged, IsAcceptedDocument, IsSound}
use Rattle.vtd_history.specs.Steps.{staged, discarded, applied, patched, turned, back, range, with_range, PlainStep, Turned}
use Rattle.vtd_history.specs.Chains.{Steps, steps_of, done_of, undone_of, Fits, Keeps, Undoes, Redoes, Leads, led_on, chain, IsChained}
use Rattle.vtd_history.proofs.Backs.{take_off, patched_back}
use Rattle.vtd_revisions.specs.Timelines.{Revision, Timeline, shown, timeline_of, changed, opened, UndoneTo, RedoneTo}

map_drop : {X Y : Type 0} (f : X → Y) (n : ℕ) (xs : List X) → map f (drop n xs) ≡ drop n (map f xs)
map_drop f zero xs = refl
map_drop f (suc n) [] = refl
map_drop f (suc n) (x ∷ xs) = map_drop f n xs

map_keep : {X Y : Type 0} (f : X → Y) (n : ℕ) (xs : List X) → map f (keep_last n xs) ≡ keep_last n (map f xs)
map_keep {X} {Y} f n xs = map_drop f (length xs - n) xs ∙ ap (λ (k : ℕ). drop (k - n) (map f xs)) (sym (length-map xs f))

abbrev timeline_by : List ℕ → List Splice → List Revision → List Revision → Timeline
timeline_by bytes splices done undone = record { bytes = bytes; staged = splices; done = done; undone = undone }

-- what a session is when a step is kept
pub changed_to : (old new : Steps) (before after : Version) → done_of new after ≡ keep_last 32 (done_of old before ++ before ∷ [])
    → undone_of new after ≡ [] → timeline_of new after ≡ changed after.bytes after.edits.splices (timeline_of old before)
changed_to old new before after d u =
    let done : map shown (done_of new after) ≡ keep_last 32 (map shown (done_of old before) ++ shown before ∷ []) =
    ap (map shown) d ∙ map_keep shown 32 (done_of old before ++ before ∷ [])
    ∙ ap (keep_last 32) (map-append shown (done_of old before) (before ∷ [])) in
    ap₂ (λ (xs ys : List Revision). timeline_by after.bytes after.edits.splices xs ys) done (ap (map shown) u)

pub undone_to : (old new : Steps) (before after : Version) → Undoes old new before after
    → UndoneTo (timeline_of old before) (timeline_of new after)
undone_to old new before after u = record {
  done = ap (map shown) u.done ∙ map-append shown (done_of new after) (after ∷ []);
  undone = ap (map shown) u.undone ∙ map-append shown (undone_of old before) (before ∷ []);
}

pub redone_to : (old new : Steps) (before after : Version) → Redoes old new before after
    → RedoneTo (timeline_of old before) (timeline_of new after)
redone_to old new before after u = record {
  undone = ap (map shown) u.undone ∙ map-append shown (undone_of new after) (after ∷ []);
  done = ap (map shown) u.done ∙ map-append shown (done_of old before) (before ∷ []);
}

pub no_edits : (len : ℕ) → AreEdits (edits_of len [])
no_edits len = record { within = All-nil (IsWithin len); apart = λ i j l m. absurd (omega (arith, m)); short = omega arith }

-- a document with nothing staged
pub sound_new : (bytes : List ℕ) (edits : Staged) → IsAcceptedDocument bytes → edits ≡ edits_of (length bytes) []
    → IsSound (version_of bytes edits)
sound_new bytes edits d e = subst (λ (s : Staged). IsSound (version_of bytes s)) (sym e)
    (record { document = d; edits = no_edits (length bytes); made = refl })

pub fits_new : (steps : Steps) (bytes : List ℕ) (edits : Staged) → IsAcceptedDocument bytes → edits ≡ edits_of (length bytes) []
    → steps ≡ steps_of [] [] → Fits steps (version_of bytes edits)
fits_new steps bytes edits d e s = subst (λ (t : Steps). Fits t (version_of bytes edits)) (sym s)
    (record { sound = sound_new bytes edits d e; done = tt; undone = tt })

pub opened_to : (steps : Steps) (bytes : List ℕ) (edits : Staged) → edits ≡ edits_of (length bytes) [] → steps ≡ steps_of [] []
    → timeline_of steps (version_of bytes edits) ≡ opened bytes
opened_to steps bytes edits e s = ap₂ (λ (t : Steps) (f : Staged). timeline_of t (version_of bytes f)) s e

-- the conditions of `keep`, command by command

pub keeps_staged : (old : Steps) (bytes : List ℕ) (before after : Staged) (list : List Splice) (count : ℕ)
    → Fits old (version_of bytes before) → after ≡ edits_of before.len (before.splices ++ list) → AreEdits after → count ≡ length list
    → Keeps old (staged count []) (version_of bytes before) (version_of bytes after)
keeps_staged old bytes before after list count f e a n =
    record {
      inverse = staged count list;
      back = ap (λ (s : Staged). back (staged count []) (version_of bytes s)) e
          ∙ take_off count before.splices list (version_of bytes before) (sym n);
      fits = f;
      sound = record { document = f.sound.document; edits = a; made = ap (λ (s : Staged). s.len) e ∙ f.sound.made };
    }

pub keeps_discarded : (old : Steps) (bytes : List ℕ) (before after : Staged) → Fits old (version_of bytes before)
    → after ≡ edits_of (length bytes) [] → Keeps old (discarded before) (version_of bytes before) (version_of bytes after)
keeps_discarded old bytes before after f e = record {
  inverse = discarded after;
  back = refl;
  fits = f;
  sound = sound_new bytes after
      f.sound.document e;
}

pub keeps_applied : (old : Steps) (bytes new : List ℕ) (before after : Staged) → Fits old (version_of bytes before)
    → IsAcceptedDocument new → after ≡ edits_of (length new) []
    → Keeps old (applied bytes before) (version_of bytes before) (version_of new after)
keeps_applied old bytes new before after f d e = record {
  inverse = applied new after;
  back = refl;
  fits = f;
  sound = sound_new new
      after d e;
}

made_unstaged : (bytes : List ℕ) (before : Staged) → before.len ≡ length bytes → before.splices ≡ []
    → version_of bytes before ≡ unstaged bytes
made_unstaged bytes before m e = ap₂ (λ (n : ℕ) (xs : List Splice). version_of bytes (edits_of n xs)) m e

pub keeps_patched : (old : Steps) (bytes after_bytes new : List ℕ) (start end : ℕ) (before after : Staged) → start ≤ end
    → end ≤ length bytes → before.splices ≡ [] → Fits old (version_of bytes before) → IsAcceptedDocument after_bytes
    → after_bytes ≡ with_range start end new bytes → after ≡ edits_of (length after_bytes) []
    → Keeps old (patched start (start + length new) (range start end bytes)) (version_of bytes before) (version_of after_bytes after)
keeps_patched old bytes after_bytes new start end before after low high none f d e a =
    let there : version_of after_bytes after ≡ unstaged (with_range start end new bytes) =
    ap (λ (s : Staged). version_of after_bytes s) a ∙ ap unstaged e in
    record {
      inverse = patched start end new;
      back = ap (back (patched start (start + length new) (range start end bytes))) there ∙ patched_back start end new bytes low high
          ∙ ap (λ (p : Version). Some (turned p (patched start end new))) (sym (made_unstaged bytes before f.sound.made none));
      fits = f;
      sound = sound_new after_bytes after d a;
    }

-- a document that is built
pub accepted_doc : (bytes : List ℕ) (words : Lists) → IsDoc bytes words → IsAcceptedDocument bytes
accepted_doc bytes words d = record { few = d.few; nest = d.nest; accepted = d.accepted }

-- a chain that is defined has a version for each step
led_length : (o : Option Turned) (rest : Version → List Version) (n : ℕ) (Rest : Version → Type 0) → Leads o Rest
    → ((v : Version) → Rest v → length (rest v) ≡ n) → length (led_on o rest) ≡ suc n
led_length None rest n Rest h f = absurd h
led_length (Some t) rest n Rest h f = ap suc (f t.version h.1)

chain_length : (steps : List PlainStep) (version : Version) → IsChained steps version → length (chain steps version) ≡ length steps
chain_length [] version h = refl
chain_length (s ∷ ss) version h = led_length (back s version) (chain ss) (length ss) (IsChained ss) h (chain_length ss)

shown_length : (steps : List PlainStep) (version : Version) → IsChained steps version
    → length (map shown (reverse (chain steps version))) ≡ length steps
shown_length steps version h = length-map (reverse (chain steps version)) shown ∙ length-reverse (chain steps version)
    ∙ chain_length steps version h

pub done_length : (steps : Steps) (version : Version) (t : Timeline) → Fits steps version → timeline_of steps version ≡ t
    → length steps.done ≡ length t.done
done_length steps version t f e = sym (shown_length steps.done version f.done) ∙ ap (λ (u : Timeline). length u.done) e

pub undone_length : (steps : Steps) (version : Version) (t : Timeline) → Fits steps version → timeline_of steps version ≡ t
    → length steps.undone ≡ length t.undone
undone_length steps version t f e = sym (shown_length steps.undone version f.undone) ∙ ap (λ (u : Timeline). length u.undone) e
