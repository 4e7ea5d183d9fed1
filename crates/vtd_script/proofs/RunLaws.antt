-- The lines of a script mean one outcome, and how they are carried out one by one.
use Rattle.std.proofs.Common.{◌≡◌, ℕ, zero, suc, ◌<◌, ◌⊎◌, Bool, true, false, List, [], ◌∷◌, ◌++◌, drop, Option, Some, None}
use Rattle.std.proofs.Common.{refl, sym, ap, subst, ◌∙◌, arith, inl, inr}
use Rattle.std.proofs.lemmas.List.{append-nil}
use Rattle.vtd_outside.specs.Known.{NameMap}
use Rattle.vtd_script.specs.States.{Work, State, Answer, skipped, printed, refused, missing, lines_of, is_refused, goes_on, refused_line}
use Rattle.vtd_script.specs.Steps.{Step}
use Rattle.vtd_script.specs.Runs.{Reached, start, with_answer, line_at, Turns, Reaches, EndsBy, Ends, IsMeant, Outcome, Means, IsStop}
use Rattle.vtd_script.specs.Runs.{Carrying, EndsKnown, end_of}
use Rattle.vtd_script.specs.declared.refusals.Refusal.{Refusal}
use Rattle.vtd_script.specs.declared.endings.End.{End}
use Rattle.vtd_script.specs.declared.endings.End.TheVariants.{Done, Stopped, WriteFault, FileFault, NoMemory}
use Rattle.vtd_script.specs.Steps.{HasDocument}
use Rattle.vtd_script.proofs.StepLaws.{one_step, some_step, kept_step}

-- the line that is next, and those after it
pub next_at : (lines : List (List ℕ)) (k : ℕ) (line : List ℕ) (rest : List (List ℕ)) → drop k lines ≡ line ∷ rest
    → (line_at lines k ≡ Some line) × (drop (suc k) lines ≡ rest)
next_at [] zero line rest e = absurd cc
next_at [] (suc k) line rest e = absurd cc
next_at (l ∷ lines) zero line rest e =
    let head : l ≡ line = cc in
    let tail : lines ≡ rest = cc in
    (ap (λ (x : List ℕ). Some x) head, tail)
next_at (l ∷ lines) (suc k) line rest e = next_at lines k line rest e

pub none_at : (lines : List (List ℕ)) (k : ℕ) → drop k lines ≡ [] → line_at lines k ≡ None
none_at [] zero e = refl
none_at [] (suc k) e = refl
none_at (l ∷ lines) zero e = absurd cc
none_at (l ∷ lines) (suc k) e = none_at lines k e

some_same : (o : Option (List ℕ)) (a b : List ℕ) → o ≡ Some a → o ≡ Some b → a ≡ b
some_same None a b e f = absurd cc
some_same (Some c) a b e f = cc

-- one line leads to one place
one_turn : (keep : Bool) (r : Reached) (line : Option (List ℕ)) (p q : Reached) → Turns keep r line p → Turns keep r line q → p ≡ q
one_turn keep r line p q t u =
    let P : List ℕ → Type 0 = λ text. Step r.state text u.answer in
    t.leaves ∙ ap (with_answer r) (one_step r.state t.text t.answer u.answer t.step (subst P
    (some_same line u.text t.text u.is_there t.is_there) u.step)) ∙ sym u.leaves

one_reach : (keep : Bool) (s : State) (lines : List (List ℕ)) (k : ℕ) (p q : Reached) → Reaches keep s lines k p → Reaches keep s lines k q → p ≡ q
one_reach keep s lines zero p q t u = t ∙ sym u
one_reach keep s lines (suc k) p q t u =
    let same = one_reach keep s lines k u.0 t.0 u.1 t.1 in
    let P : Reached → Type 0 = λ r. Turns keep r (line_at lines k) q in
    one_turn keep t.0 (line_at lines k) p q t.2 (subst P same u.2)

-- who has come further went on at each line before
record Went (keep : Bool) (s : State) (lines : List (List ℕ)) (k : ℕ) : Type 0 where
  pub at : Reached
  pub reaches : Reaches keep s lines k at
  pub next : Reached
  pub turn : Turns keep at (line_at lines k) next

went_on : (keep : Bool) (s : State) (lines : List (List ℕ)) (k n : ℕ) (r : Reached) → k < n → Reaches keep s lines n r → Went keep s lines k
went_on keep s lines k zero r l h = absurd (omega arith)
went_on keep s lines k (suc n) r l h = elim (split k n l) [
  | inl e ↦
      let P : ℕ → Type 0 = λ j. Went keep s lines j in
      subst P (sym e) (record { at = h.0; reaches = h.1; next = r; turn = h.2 })
  | inr m ↦ went_on keep s lines k n h.0 m h.1
]
  where
    split : (k n : ℕ) → k < suc n → (k ≡ n) ⊎ (k < n)
    split k n l = grind arith

clash : (b : Bool) → b ≡ true → b ≡ false → ⊥
clash b e f = cc

no_line : (text : List ℕ) → ◌≡◌ {A = Option (List ℕ)} None (Some text) → ⊥
no_line text e = cc

-- the answer with which a line was passed is each answer of it
passed_answer : (keep : Bool) (r next : Reached) (line : List ℕ) (a : Answer) → Step r.state line a → Turns keep r (Some line) next → goes_on keep a ≡ true
passed_answer keep r next line a h t =
    let P : List ℕ → Type 0 = λ text. Step r.state text t.answer in
    ap (goes_on keep) (one_step r.state line a t.answer h (subst P (some_same (Some line) t.text line t.is_there refl) t.step)) ∙ t.passes

-- a run that means something stops for good
stops : (keep : Bool) (r next : Reached) (line : Option (List ℕ)) (end : End) (more : List ℕ) (files : NameMap) → IsMeant end
    → EndsBy ⊥ ⊥ keep r line end more files → Turns keep r line next → ⊥
stops keep r next None end more files m e t = no_line t.text t.is_there
stops keep r next (Some line) Done more files m e t = e
stops keep r next (Some line) Stopped more files m e t = clash keep (passed_answer keep r next line (refused e.0.refusal) e.0.step t) e.0.ends
stops keep r next (Some line) FileFault more files m e t = elim e.1 [
  | inl q ↦ clash false (passed_answer keep r next line missing q.0 t) refl
  | inr q ↦ absurd q.cause
]
stops keep r next (Some line) WriteFault more files m e t = absurd m
stops keep r next (Some line) NoMemory more files m e t = absurd m

-- what ends a run at one line
pub record Ending' (end : End) (more : List ℕ) (files : NameMap) (other : End) (other_more : List ℕ) (other_files : NameMap) : Type 0 where
  pub same_end : end ≡ other
  pub same_more : more ≡ other_more
  pub same_files : files ≡ other_files

-- a stop and a missing name are not both
stop_missing : (keep : Bool) (s : State) (line out : List ℕ) → IsStop keep s line out → Step s line missing → ⊥
stop_missing keep s line out i h = differ i.refusal (one_step s line (refused i.refusal) missing i.step h)
  where
    differ : (refusal : Refusal) → refused refusal ≡ missing → ⊥
    differ refusal e = clash (is_refused (refused refusal)) refl (ap is_refused e)

one_end : (keep : Bool) (r : Reached) (line : Option (List ℕ)) (end other : End) (more other_more : List ℕ) (files other_files : NameMap) → IsMeant end
    → IsMeant other
    → EndsBy ⊥ ⊥ keep r line end more files → EndsBy ⊥ ⊥ keep r line other other_more other_files → Ending' end more files other other_more other_files
one_end keep r None Done Done m n f g a b h k = record { same_end = refl; same_more = h.1 ∙ sym k.1; same_files = h.2 ∙ sym k.2 }
one_end keep r None Done Stopped m n f g a b h k = absurd (clash r.refused k.0 h.0)
one_end keep r None Stopped Done m n f g a b h k = absurd (clash r.refused h.0 k.0)
one_end keep r None Stopped Stopped m n f g a b h k = record { same_end = refl; same_more = h.1 ∙ sym k.1; same_files = h.2 ∙ sym k.2 }
one_end keep r None FileFault other m n f g a b h k = absurd h
one_end keep r None WriteFault other m n f g a b h k = absurd a
one_end keep r None NoMemory other m n f g a b h k = absurd a
one_end keep r None Done FileFault m n f g a b h k = absurd k
one_end keep r None Done WriteFault m n f g a b h k = absurd b
one_end keep r None Done NoMemory m n f g a b h k = absurd b
one_end keep r None Stopped FileFault m n f g a b h k = absurd k
one_end keep r None Stopped WriteFault m n f g a b h k = absurd b
one_end keep r None Stopped NoMemory m n f g a b h k = absurd b
one_end keep r (Some line) Stopped Stopped m n f g a b h k = record {
  same_end = refl;
  same_more = h.0.printed_is ∙ ap lines_of (one_step r.state line (refused h.0.refusal) (refused k.0.refusal) h.0.step k.0.step) ∙ sym k.0.printed_is;
  same_files = h.1 ∙ sym k.1;
}
one_end keep r (Some line) Stopped FileFault m n f g a b h k = elim k.1 [ inl q ↦ absurd (stop_missing keep r.state line m h.0 q.0) | inr q ↦ absurd q.cause ]
one_end keep r (Some line) FileFault Stopped m n f g a b h k = elim h.1 [ inl q ↦ absurd (stop_missing keep r.state line n k.0 q.0) | inr q ↦ absurd q.cause ]
one_end keep r (Some line) FileFault FileFault m n f g a b h k = elim h.1 [
  | inl q ↦ elim k.1 [ inl p ↦ record { same_end = refl; same_more = h.0 ∙ sym k.0; same_files = q.1 ∙ sym p.1 } | inr p ↦ absurd p.cause ]
  | inr q ↦ absurd q.cause
]
one_end keep r (Some line) Done other m n f g a b h k = absurd h
one_end keep r (Some line) WriteFault other m n f g a b h k = absurd a
one_end keep r (Some line) NoMemory other m n f g a b h k = absurd a
one_end keep r (Some line) Stopped Done m n f g a b h k = absurd k
one_end keep r (Some line) Stopped WriteFault m n f g a b h k = absurd b
one_end keep r (Some line) Stopped NoMemory m n f g a b h k = absurd b
one_end keep r (Some line) FileFault Done m n f g a b h k = absurd k
one_end keep r (Some line) FileFault WriteFault m n f g a b h k = absurd b
one_end keep r (Some line) FileFault NoMemory m n f g a b h k = absurd b

-- three ways in which two numbers are
either : (k n : ℕ) → ((k < n) ⊎ (n < k)) ⊎ (k ≡ n)
either zero zero = inr refl
either zero (suc n) = inl (inl (omega arith))
either (suc k) zero = inl (inr (omega arith))
either (suc k) (suc n) = elim (either k n) [
  | inl q ↦ elim q [ inl l ↦ inl (inl (omega arith)) | inr l ↦ inl (inr (omega arith)) ]
  | inr e ↦ inr (ap (λ (x : ℕ). suc x) e)
]

-- one that stops at a line, and one that comes further
not_further : (keep : Bool) (s : State) (lines : List (List ℕ)) (k n : ℕ) (p q : Reached) (end : End) (more : List ℕ) (files : NameMap) → k < n → IsMeant end
    → Reaches keep s lines k p → EndsBy ⊥ ⊥ keep p (line_at lines k) end more files → Reaches keep s lines n q → ⊥
not_further keep s lines k n p q end more files l m h e g =
    let w = went_on keep s lines k n q l g in
    let P : Reached → Type 0 = λ r. Turns keep r (line_at lines k) w.next in
    stops keep p w.next (line_at lines k) end more files m e (subst P (one_reach keep s lines k w.at p w.reaches h) w.turn)

pub one_meaning : (keep : Bool) (s : State) (lines : List (List ℕ)) (m n : Outcome) → Means keep s lines m → Means keep s lines n → m ≡ n
one_meaning keep s lines m n a b = elim (either a.ends.k b.ends.k) [
  | inl q ↦ elim q [
    | inl l ↦ absurd (not_further keep s lines a.ends.k b.ends.k a.ends.reached b.ends.reached m.end a.ends.more m.files l a.meant a.ends.reaches
        a.ends.ends b.ends.reaches)
    | inr l ↦ absurd (not_further keep s lines b.ends.k a.ends.k b.ends.reached a.ends.reached n.end b.ends.more n.files l b.meant b.ends.reaches
        b.ends.ends a.ends.reaches)
  ]
  | inr e ↦
      let P : ℕ → Type 0 = λ k. Reaches keep s lines k a.ends.reached in
      let Q : ℕ → Type 0 = λ k. EndsBy ⊥ ⊥ keep a.ends.reached (line_at lines k) m.end a.ends.more m.files in
      let same = one_reach keep s lines b.ends.k a.ends.reached b.ends.reached (subst P e a.ends.reaches) b.ends.reaches in
      let R : Reached → Type 0 = λ r. EndsBy ⊥ ⊥ keep r (line_at lines b.ends.k) m.end a.ends.more m.files in
      let x = one_end keep b.ends.reached (line_at lines b.ends.k) m.end n.end a.ends.more b.ends.more m.files n.files a.meant b.meant (subst R same
      (subst Q e a.ends.ends)) b.ends.ends in
      outcome (a.ends.out_is ∙ ap (λ (r : Reached). r.out ++ a.ends.more) same ∙ ap (λ (xs : List ℕ). b.ends.reached.out ++ xs) x.same_more
      ∙ sym b.ends.out_is) x.same_files x.same_end
]
  where
    outcome : {m n : Outcome} → m.out ≡ n.out → m.files ≡ n.files → m.end ≡ n.end → m ≡ n
    outcome {m} {n} o f e =
        ap (λ (x : List ℕ). record { out = x; files = m.files; end = m.end }) o
        ∙ ap (λ (x : NameMap). record { out = n.out; files = x; end = m.end }) f
        ∙ ap (λ (x : End). record { out = n.out; files = n.files; end = x }) e

-- one line more is carried out
pub reach_more : (keep : Bool) (s : State) (lines : List (List ℕ)) (k : ℕ) (r : Reached) (line : List ℕ) (rest : List (List ℕ)) (a : Answer)
    → Reaches keep s lines k r → drop k lines ≡ line ∷ rest
    → Step r.state line a → goes_on keep a ≡ true → Reaches keep s lines (suc k) (with_answer r a)
reach_more keep s lines k r line rest a h d step on = (
  r,
  h,
  record {
    text = line;
    is_there = (next_at lines k line rest d).0;
    answer = a;
    step =
        step;
    passes = on;
    leaves = refl;
  },
)

-- An end at a line, and one after the last.
end_at : (keep : Bool) (s : State) (lines : List (List ℕ)) (k : ℕ) (r : Reached) (line : List ℕ) (rest : List (List ℕ)) (end : End) (more : List ℕ)
    (files : NameMap) → Reaches keep s lines k r → drop k lines ≡ line ∷ rest
    → IsMeant end → EndsBy ⊥ ⊥ keep r (Some line) end more files → Means keep s lines (record { out = r.out ++ more; files = files; end = end })
end_at keep s lines k r line rest end more files h d m e =
    let P : Option (List ℕ) → Type 0 = λ o. EndsBy ⊥ ⊥ keep r o end more files in
    record { meant = m; ends = record { k = k; reached = r; reaches = h; more = more; out_is = refl; ends = subst P (sym (next_at lines k line rest d).0) e } }

end_after : (keep : Bool) (s : State) (lines : List (List ℕ)) (k : ℕ) (r : Reached) → Reaches keep s lines k r → drop k lines ≡ [] → (refused : Bool)
    → r.refused ≡ refused → Means keep s lines (record { out = r.out ++ []; files = r.state.files; end = end_of refused })
end_after keep s lines k r h d true e =
    let P : Option (List ℕ) → Type 0 = λ o. EndsBy ⊥ ⊥ keep r o Stopped [] r.state.files in
    record { meant = tt; ends = record { k = k; reached = r; reaches = h; more = []; out_is = refl; ends = subst P (sym (none_at lines k d)) (e, refl, refl) } }
end_after keep s lines k r h d false e =
    let P : Option (List ℕ) → Type 0 = λ o. EndsBy ⊥ ⊥ keep r o Done [] r.state.files in
    record { meant = tt; ends = record { k = k; reached = r; reaches = h; more = []; out_is = refl; ends = subst P (sym (none_at lines k d)) (e, refl, refl) } }

-- a line with an answer leads on to a meaning
led_on : (keep : Bool) (s : State) (lines rest : List (List ℕ)) (k : ℕ) (r : Reached) (line : List ℕ) (a : Answer) → Reaches keep s lines k r
    → drop k lines ≡ line ∷ rest → HasDocument r.state → Step r.state line a
    → ((next : Reached) → Reaches keep s lines (suc k) next → drop (suc k) lines ≡ rest → HasDocument next.state → (m : Outcome) × Means keep s lines m)
    → (m : Outcome) × Means keep s lines m
led_on keep s lines rest k r line skipped h d w step on = on (with_answer r skipped) (reach_more keep s lines k r line rest skipped h d step refl)
    (next_at lines k line rest d).1 (kept_step r.state line skipped step w)
led_on keep s lines rest k r line (printed text after) h d w step on =
    on (with_answer r (printed text after)) (reach_more keep s lines k r line rest (printed text after) h d step refl) (next_at lines k line rest d).1
    (kept_step r.state line (printed text after) step w)
led_on keep s lines rest k r line (refused refusal) h d w step on = kept keep refl
  where
    kept : (b : Bool) → keep ≡ b → (m : Outcome) × Means keep s lines m
    kept true e = on (with_answer r (refused refusal)) (reach_more keep s lines k r line rest (refused refusal) h d step e) (next_at lines k line rest d).1 w
    kept false e = (
      _,
      end_at keep s lines k r line rest Stopped (refused_line refusal) r.state.files h d tt (
        record {
          refusal = refusal;
          step =
              step;
          ends = e;
          printed_is = refl;
        },
        refl,
      ),
    )
led_on keep s lines rest k r line missing h d w step on = (_, end_at keep s lines k r line rest FileFault [] r.state.files h d tt (refl, inl (step, refl)))

-- the lines that are left mean something
meaning_from : (keep : Bool) (s : State) (lines rest : List (List ℕ)) (k : ℕ) (r : Reached) → Reaches keep s lines k r → drop k lines ≡ rest
    → HasDocument r.state → (m : Outcome) × Means keep s lines m
meaning_from keep s lines [] k r h d w = (_, end_after keep s lines k r h d r.refused refl)
meaning_from keep s lines (line ∷ rest) k r h d w =
    let a = some_step r.state line w in
    led_on keep s lines rest k r line a.0 h d w a.1 (λ next g e v. meaning_from keep s lines rest (suc k) next g e v)

pub some_meaning : (keep : Bool) (s : State) (lines : List (List ℕ)) → HasDocument s → (m : Outcome) × Means keep s lines m
some_meaning keep s lines w = meaning_from keep s lines lines 0 (start s) refl refl w

-- The loop over the lines: none is carried out yet.
pub carrying_none : (keep : Bool) (s : State) (lines : List (List ℕ)) (work : Work) (files : Option NameMap) (before : List ℕ) (taken : Option (List ℕ))
    → work ≡ s.work → files ≡ Some s.files → taken ≡ Some before → Carrying keep s lines lines work files before taken false
carrying_none keep s lines work files before taken w f t = record {
  k = 0;
  reached = start s;
  reaches = refl;
  left = refl;
  work_is = w;
  files_are = f;
  taken_is = t ∙ ap (λ (xs : List ℕ). Some xs) (sym (append-nil before));
  refused_is = refl;
}

-- The run ends after the last line.
pub ends_last : (file_rose out_rose : Type 0) (keep : Bool) (s : State) (lines : List (List ℕ)) (work : Work) (files : Option NameMap) (before : List ℕ)
    (taken : Option (List ℕ)) (refused_now : Bool)
    → Carrying keep s lines [] work files before taken refused_now → EndsKnown file_rose out_rose keep s lines (end_of refused_now) files before taken
ends_last file_rose out_rose keep s lines work files before taken refused_now c = record {
  files = c.reached.state.files;
  out = c.reached.out ++ [];
  files_are = c.files_are;
  taken = c.taken_is ∙ ap (λ (xs : List ℕ). Some (before ++ xs)) (sym (append-nil c.reached.out));
  ends = record { k = c.k; reached = c.reached; reaches = c.reaches; more = []; out_is = refl; ends = by refused_now c.refused_is };
}
  where
    by : (b : Bool) → b ≡ c.reached.refused → EndsBy file_rose out_rose keep c.reached (line_at lines c.k) (end_of b) [] c.reached.state.files
    by true e =
        let P : Option (List ℕ) → Type 0 = λ o. EndsBy file_rose out_rose keep c.reached o Stopped [] c.reached.state.files in
        subst P (sym (none_at lines c.k c.left)) (sym e, refl, refl)
    by false e =
        let P : Option (List ℕ) → Type 0 = λ o. EndsBy file_rose out_rose keep c.reached o Done [] c.reached.state.files in
        subst P (sym (none_at lines c.k c.left)) (sym e, refl, refl)

-- Where no count rose and memory was had, the run is exactly what the lines mean.
exact_by : (f o : Type 0) (keep : Bool) (r : Reached) (line : Option (List ℕ)) (end : End) (more : List ℕ) (files : NameMap) → (f → ⊥) → (o → ⊥)
    → EndsBy f o keep r line end more files → (end ≡ NoMemory) ⊎ (IsMeant end × EndsBy ⊥ ⊥ keep r line end more files)
exact_by f o keep r None Done more files nf silent h = inr (tt, h)
exact_by f o keep r None Stopped more files nf silent h = inr (tt, h)
exact_by f o keep r None NoMemory more files nf silent h = inl refl
exact_by f o keep r None WriteFault more files nf silent h = absurd h
exact_by f o keep r None FileFault more files nf silent h = absurd h
exact_by f o keep r (Some line) Done more files nf silent h = absurd h
exact_by f o keep r (Some line) Stopped more files nf silent h = inr (tt, h)
exact_by f o keep r (Some line) NoMemory more files nf silent h = inl refl
exact_by f o keep r (Some line) WriteFault more files nf silent h = absurd (silent h.cause)
exact_by f o keep r (Some line) FileFault more files nf silent h = elim h.1 [ inl q ↦ inr (tt, (h.0, inl q)) | inr q ↦ absurd (nf q.cause) ]

pub exact : (f o : Type 0) (keep : Bool) (s : State) (lines : List (List ℕ)) (end : End) (out : List ℕ) (files : NameMap) → (f → ⊥) → (o → ⊥)
    → Ends f o keep s lines end out files → (end ≡ NoMemory) ⊎ Means keep s lines (record { out = out; files = files; end = end })
exact f o keep s lines end out files nf silent e = elim (exact_by f o keep e.reached (line_at lines e.k) end e.more files nf silent e.ends) [
  | inl n ↦ inl n
  | inr m ↦ inr (record { meant = m.0; ends = record { k = e.k; reached = e.reached; reaches = e.reaches; more = e.more; out_is = e.out_is; ends = m.1 } })
]
