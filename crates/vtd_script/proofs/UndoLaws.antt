-- Changes, `undo` and `redo` have one answer, and some, and leave a state whose revisions all have documents.
use Rattle.std.proofs.Common.{◌≡◌, ℕ, List, [], ◌∷◌, ◌++◌, Some, refl, sym, ap, subst}
use Rattle.std.proofs.lemmas.List.Elements.{All-drop, All-nil, All-pop, All-push}
use Rattle.xml_model.specs.Nest.{Forest}
use Rattle.xml_model.specs.Accepted.{Accepted}
use Rattle.vtd_edits.specs.declared.splice.Splice.{Splice}
use Rattle.vtd_outside.specs.Known.{NameMap}
use Rattle.vtd_revisions.specs.Timelines.{Revision, Timeline, now_of}
use Rattle.vtd_revisions.proofs.Exact.{one_undone, one_redone, some_undone, some_redone}
use Rattle.vtd_script.specs.States.{Answer, State, changed_work, opened_work, printed, refused, state_after, state_of, timeline_of, work_of}
use Rattle.vtd_script.specs.Steps.{HasDocument, HaveDocuments, Redoing, Undoing, none_done, none_undone, redone_line, redone_one}
use Rattle.vtd_script.specs.Steps.{undone_line, undone_one}
use Rattle.vtd_script.specs.declared.refusals.Refusal.TheVariants as no

-- where nothing is, nothing is last
none_last : {X : Type 0} (xs ys : List X) (y : X) → xs ≡ [] → xs ≡ ys ++ y ∷ [] → ⊥
none_last xs [] y e f = absurd (cc)
none_last xs (z ∷ ys) y e f = absurd (cc)

pub one_undoing : (s : State) (a b : Answer) → Undoing s a → Undoing s b → a ≡ b
one_undoing s a b (none_done e) (none_done f) = refl
one_undoing s a b (none_done e) (undone_one u g) = absurd (none_last s.work.done u.done (now_of u) e g.done)
one_undoing s a b (undone_one t h) (none_done f) = absurd (none_last s.work.done t.done (now_of t) f h.done)
one_undoing s a b (undone_one t h) (undone_one u g) =
    ap (λ (x : Timeline). printed undone_line (state_of (work_of s.work.bound x) s.files)) (one_undone (timeline_of s.work) t u h g)

pub one_redoing : (s : State) (a b : Answer) → Redoing s a → Redoing s b → a ≡ b
one_redoing s a b (none_undone e) (none_undone f) = refl
one_redoing s a b (none_undone e) (redone_one u g) = absurd (none_last s.work.undone u.undone (now_of u) e g.undone)
one_redoing s a b (redone_one t h) (none_undone f) = absurd (none_last s.work.undone t.undone (now_of t) f h.undone)
one_redoing s a b (redone_one t h) (redone_one u g) =
    ap (λ (x : Timeline). printed redone_line (state_of (work_of s.work.bound x) s.files)) (one_redone (timeline_of s.work) t u h g)

pub some_undoing : (s : State) → (a : Answer) × Undoing s a
some_undoing s = by s.work.done refl
  where
    by : (done : List Revision) → s.work.done ≡ done → (a : Answer) × Undoing s a
    by [] e = (refused no.NoUndo, none_done e)
    by (r ∷ rs) e =
        let u = some_undone (timeline_of s.work) (λ f. absurd (cc)) in
        (printed undone_line (state_of (work_of s.work.bound u.0) s.files), undone_one u.0 u.1)

pub some_redoing : (s : State) → (a : Answer) × Redoing s a
some_redoing s = by s.work.undone refl
  where
    by : (undone : List Revision) → s.work.undone ≡ undone → (a : Answer) × Redoing s a
    by [] e = (refused no.NoRedo, none_undone e)
    by (r ∷ rs) e =
        let u = some_redone (timeline_of s.work) (λ f. absurd (cc)) in
        (printed redone_line (state_of (work_of s.work.bound u.0) s.files), redone_one u.0 u.1)

-- a revision with a document that is accepted whole
abbrev HasOne : Revision → Type 0
HasOne r = (nest : Forest) × Accepted 8 r.bytes nest

-- the state with another list of bindings, and other files
pub kept_bound : (s : State) (bound : List (List ℕ × List ℕ)) (files : NameMap) → HasDocument s
    → HasDocument (state_of (work_of bound (timeline_of s.work)) files)
kept_bound s bound files w = record { nest = w.nest; accepted = w.accepted; done = w.done; undone = w.undone }

pub kept_files : (s : State) (files : NameMap) → HasDocument s → HasDocument (state_of s.work files)
kept_files s files w = record { nest = w.nest; accepted = w.accepted; done = w.done; undone = w.undone }

-- a change, and another document
pub kept_changed : (s : State) (bytes : List ℕ) (staged : List Splice) (nest : Forest) → Accepted 8 bytes nest → HasDocument s
    → HasDocument (state_of (changed_work bytes staged s.work) s.files)
kept_changed s bytes staged nest a w =
    let all : HaveDocuments (s.work.done ++ now_of (timeline_of s.work) ∷ []) =
    All-push HasOne s.work.done (now_of (timeline_of s.work)) w.done (w.nest, w.accepted) in
    record {
      nest = nest;
      accepted = a;
      done = All-drop HasOne _ (s.work.done ++ now_of (timeline_of s.work) ∷ []) all;
      undone = All-nil HasOne;
    }

pub kept_opened : (s : State) (bytes : List ℕ) (nest : Forest) → Accepted 8 bytes nest
    → HasDocument (state_of (opened_work bytes s.work) s.files)
kept_opened s bytes nest a = record { nest = nest; accepted = a; done = All-nil HasOne; undone = All-nil HasOne }

-- of a list with something last all have documents
last_has : (xs ys : List Revision) (r : Revision) → xs ≡ ys ++ r ∷ [] → HaveDocuments xs → HaveDocuments ys × HasOne r
last_has xs ys r e h = All-pop HasOne xs ys (Some r) e h

more_have : (xs ys : List Revision) (r : Revision) → ys ≡ xs ++ r ∷ [] → HaveDocuments xs → HasOne r → HaveDocuments ys
more_have xs ys r e h o = subst HaveDocuments (sym e) (All-push HasOne xs r h o)

pub kept_undoing : (s : State) (a : Answer) → Undoing s a → HasDocument s → HasDocument (state_after s a)
kept_undoing s a (none_done e) w = w
kept_undoing s a (undone_one t h) w =
    let last = last_has s.work.done t.done (now_of t) h.done w.done in
    record {
      nest = last.1.0;
      accepted = last.1.1;
      done = last.0;
      undone = more_have s.work.undone t.undone (now_of (timeline_of s.work)) h.undone w.undone (w.nest, w.accepted);
    }

pub kept_redoing : (s : State) (a : Answer) → Redoing s a → HasDocument s → HasDocument (state_after s a)
kept_redoing s a (none_undone e) w = w
kept_redoing s a (redone_one t h) w =
    let last = last_has s.work.undone t.undone (now_of t) h.undone w.undone in
    record {
      nest = last.1.0;
      accepted = last.1.1;
      done = more_have s.work.done t.done (now_of (timeline_of s.work)) h.done w.done (w.nest, w.accepted);
      undone = last.0;
    }
