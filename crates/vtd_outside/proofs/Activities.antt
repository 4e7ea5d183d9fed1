-- What is being done with files goes on while others of the same names and bytes take their places.
use Rattle.std.proofs.Common.{◌≡◌, ℕ, zero, suc, ◌+◌, ◌<◌, ◌≤◌, ◌||◌, inl, inr, Bool, true, false, not, nat_le, cond, bytes_eq, List, [], ◌∷◌, ◌++◌, length}
use Rattle.std.proofs.Common.{drop, Option, Some, None, Result, Ok, Err, OnOk, OnErr, refl, sym, ap, ap₂, subst, ◌∙◌, arith}
use mathlib.Core.Path.{fun_ext}
use Rattle.std.specs.Prelude.{◌⊎◌}
use Rattle.std.proofs.lemmas.Slice.Eq.{bytes_eq-Decides}
use Rattle.vtd_outside.specs.Objects.{NamedFile, BodyState, FilesState, Calls, lookup, bytes_if, body_if, is_past, passes_room, put_into}
use Rattle.vtd_outside.specs.Known.{OpenFile, NameMap}
use Rattle.vtd_outside.specs.declared.memory_files.Activity.{Activity}
use Rattle.vtd_outside.specs.declared.memory_files.Activity.TheVariants as doing
use Rattle.vtd_outside.specs.Held.{name_at, held_at, body_at, there_at, with_body, IsSlot, opened_in, written_in, IsActive}
use Rattle.vtd_outside.proofs.Held.{slot_within, slot_named, slot_said, files_stay, files_prepared, puts, put_map}

pub record Alike (files others : List NamedFile) : Type 0 where
  pub slots : (name : List ℕ) (index : ℕ) → IsSlot files name index → IsSlot others name index
  pub names : (index : ℕ) → index < length files → name_at others index ≡ name_at files index
  pub held : (index : ℕ) → index < length files → held_at others index ≡ held_at files index
  pub longer : length files ≤ length others

pub alike_active : (files others : List NamedFile) (a : Activity) → Alike files others → IsActive files a → IsActive others a
alike_active files others doing.Idle k s = tt
alike_active files others (doing.Reading place) k s =
    let l = k.longer in
    let i = s.0 in
    let P : List ℕ → Type 0 = λ xs. place.at ≤ length xs in
    (omega (arith, l, i), subst P (sym (k.held place.file s.0)) s.1)
alike_active files others (doing.Writing index) k s =
    let P : List ℕ → Type 0 = λ n. IsSlot others n index in
    subst P (sym (k.names index (slot_within files (name_at files index) index s))) (k.slots (name_at files index) index s)

alike_opened : (files others : List NamedFile) (a : Activity) → Alike files others → IsActive files a → opened_in others a ≡ opened_in files a
alike_opened files others doing.Idle k s = refl
alike_opened files others (doing.Reading place) k s =
    ap₂ (λ (n b : List ℕ). Some (record { name = n; rest = drop place.at b })) (k.names place.file s.0) (k.held place.file s.0)
alike_opened files others (doing.Writing index) k s = refl

alike_written : (files others : List NamedFile) (a : Activity) → Alike files others → IsActive files a → written_in others a ≡ written_in files a
alike_written files others doing.Idle k s = refl
alike_written files others (doing.Reading place) k s = refl
alike_written files others (doing.Writing index) k s = ap (λ (n : List ℕ). Some n) (k.names index (slot_within files (name_at files index) index s))

pub rest_stays : (v : FilesState) (before after : List NamedFile) (a : Activity) (calls : Calls) (missed proper : ℕ)
    → record { files = before; opened = opened_in before a; writing = written_in before a; calls = calls; missed = missed; proper = proper } ≡ v
    → Alike before after → IsActive before a
    → ◌≡◌ {A = FilesState} (record { files = after; opened = opened_in after a; writing = written_in after a; calls = calls; missed = missed; proper = proper })
    (record { files = after; opened = v.opened; writing = v.writing; calls = v.calls; missed = v.missed; proper = v.proper })
rest_stays v before after a calls missed proper e k s =
    let f : Option OpenFile → Option (List ℕ) → FilesState = λ o w. record
    { files = after; opened = o; writing = w; calls = calls; missed = missed; proper = proper } in
    let g : FilesState → FilesState = λ x. record
    { files = after; opened = x.opened; writing = x.writing; calls = x.calls; missed = x.missed; proper = x.proper } in
    ap₂ f (alike_opened before after a k s) (alike_written before after a k s) ∙ ap g e

-- another body in one file: slots and names stay, and the bytes where they are the same
pub slot_stays : (files : List NamedFile) (at : ℕ) (body : BodyState) (there : Bool) (name : List ℕ) (index : ℕ) → IsSlot files name index
    → IsSlot (with_body files at body there) name index
slot_stays [] at body there name index s = s
slot_stays (file ∷ files) zero body there name zero s = s
slot_stays (file ∷ files) zero body there name (suc index) s = s
slot_stays (file ∷ files) (suc at) body there name zero s = s
slot_stays (file ∷ files) (suc at) body there name (suc index) s = (s.0, slot_stays files at body there name index s.1)

pub name_stays : (files : List NamedFile) (at : ℕ) (body : BodyState) (there : Bool) (index : ℕ)
    → name_at (with_body files at body there) index ≡ name_at files index
name_stays [] at body there index = refl
name_stays (file ∷ files) zero body there zero = refl
name_stays (file ∷ files) zero body there (suc index) = refl
name_stays (file ∷ files) (suc at) body there zero = refl
name_stays (file ∷ files) (suc at) body there (suc index) = name_stays files at body there index

bytes_stay : (files : List NamedFile) (at : ℕ) (body : BodyState) (there : Bool) (index : ℕ) → body.bytes ≡ held_at files at
    → held_at (with_body files at body there) index ≡ held_at files index
bytes_stay [] at body there index e = refl
bytes_stay (file ∷ files) zero body there zero e = e
bytes_stay (file ∷ files) zero body there (suc index) e = refl
bytes_stay (file ∷ files) (suc at) body there zero e = refl
bytes_stay (file ∷ files) (suc at) body there (suc index) e = bytes_stay files at body there index e

length_stays : (files : List NamedFile) (at : ℕ) (body : BodyState) (there : Bool) → length (with_body files at body there) ≡ length files
length_stays [] at body there = refl
length_stays (file ∷ files) zero body there = refl
length_stays (file ∷ files) (suc at) body there = ap (λ (n : ℕ). suc n) (length_stays files at body there)

alike_body : (files : List NamedFile) (at : ℕ) (body : BodyState) (there : Bool) → body.bytes ≡ held_at files at → Alike files (with_body files at body there)
alike_body files at body there e = record {
  slots = slot_stays files at body there;
  names = λ index l. name_stays files at body there index;
  held = λ index l. bytes_stay files at body there index e;
  longer = (let n = length_stays files at body there in omega (arith, n));
}

-- one more file
more_slot : (files : List NamedFile) (file : NamedFile) (name : List ℕ) (index : ℕ) → IsSlot files name index → IsSlot (files ++ file ∷ []) name index
more_slot [] file name index s = absurd s
more_slot (first ∷ files) file name zero s = s
more_slot (first ∷ files) file name (suc index) s = (s.0, more_slot files file name index s.1)

more_name : (files : List NamedFile) (file : NamedFile) (index : ℕ) → index < length files → name_at (files ++ file ∷ []) index ≡ name_at files index
more_name [] file index l = absurd (omega arith)
more_name (first ∷ files) file zero l = refl
more_name (first ∷ files) file (suc index) l = more_name files file index (omega arith)

more_held : (files : List NamedFile) (file : NamedFile) (index : ℕ) → index < length files → held_at (files ++ file ∷ []) index ≡ held_at files index
more_held [] file index l = absurd (omega arith)
more_held (first ∷ files) file zero l = refl
more_held (first ∷ files) file (suc index) l = more_held files file index (omega arith)

more_length : (files : List NamedFile) (file : NamedFile) → length files ≤ length (files ++ file ∷ [])
more_length [] file = omega arith
more_length (first ∷ files) file = (let l = more_length files file in omega (arith, l))

alike_more : (files : List NamedFile) (file : NamedFile) → Alike files (files ++ file ∷ [])
alike_more files file = record { slots = more_slot files file; names = more_name files file; held = more_held files file; longer = more_length files file }

alike_same : (files : List NamedFile) → Alike files files
alike_same files = record { slots = λ name index s. s; names = λ index l. refl; held = λ index l. refl; longer = omega arith }

-- room that was made, or not: files, what is being done and the bytes stay
pub prepared_alike : {T E : Type 0} (result : Result T E) (before after : List NamedFile) (index room : ℕ)
    → OnOk result (after ≡ with_body before index (record { bytes = (body_at before index).bytes; room = room }) (there_at before index))
    → OnErr result (after ≡ before) → Alike before after
prepared_alike (Ok x) before after index room o r =
    subst (λ (fs : List NamedFile). Alike before fs) (sym o)
    (alike_body before index (record { bytes = (body_at before index).bytes; room = room }) (there_at before index) refl)
prepared_alike (Err x) before after index room o r = subst (λ (fs : List NamedFile). Alike before fs) (sym r) (alike_same before)

pub prepared_lookup : {T E : Type 0} (result : Result T E) (before after : List NamedFile) (index room : ℕ)
    → OnOk result (after ≡ with_body before index (record { bytes = (body_at before index).bytes; room = room }) (there_at before index))
    → OnErr result (after ≡ before) → lookup after ≡ lookup before
prepared_lookup (Ok x) before after index room o r = ap lookup o ∙ files_stay before index (record { bytes = (body_at before index).bytes; room = room }) refl
prepared_lookup (Err x) before after index room o r = ap lookup r

pub added_alike : {T E : Type 0} (result : Result T E) (before after : List NamedFile) (file : NamedFile) → OnOk result (after ≡ before ++ file ∷ [])
    → OnErr result (after ≡ before) → Alike before after
added_alike (Ok x) before after file o r = subst (λ (fs : List NamedFile). Alike before fs) (sym o) (alike_more before file)
added_alike (Err x) before after file o r = subst (λ (fs : List NamedFile). Alike before fs) (sym r) (alike_same before)

pub added_lookup : {T E : Type 0} (result : Result T E) (before after : List NamedFile) (name : List ℕ) (body : BodyState)
    → OnOk result (after ≡ before ++ record { name = name; body = body; there = false } ∷ []) → OnErr result (after ≡ before) → lookup after ≡ lookup before
added_lookup (Ok x) before after name body o r = ap lookup o ∙ files_prepared before name body
added_lookup (Err x) before after name body o r = ap lookup r

-- the file being written
pub active_slot : (files : List NamedFile) (a : Activity) (index : ℕ) → a ≡ doing.Writing index → IsActive files a → IsSlot files (name_at files index) index
active_slot files a index e s = subst (λ (x : Activity). IsActive files x) e s

pub active_within : (files : List NamedFile) (a : Activity) (index : ℕ) → a ≡ doing.Writing index → IsActive files a → index < length files
active_within files a index e s = slot_within files (name_at files index) index (active_slot files a index e s)

pub active_after : (before after : List NamedFile) (name : List ℕ) (index : ℕ) (body : BodyState) (there : Bool) → IsSlot before name index
    → after ≡ with_body before index body there → IsSlot after (name_at after index) index
active_after before after name index body there s o =
    subst (λ (fs : List NamedFile). IsSlot fs (name_at fs index) index) (sym o)
    (subst (λ (n : List ℕ). IsSlot (with_body before index body there) n index)
    (sym (name_stays before index body there index ∙ slot_named before name index s))
    (slot_stays before index body there name index s))

pub begins_write : (before current after : List NamedFile) (name : List ℕ) (index : ℕ) (body : BodyState) → IsSlot before name index → before ≡ current
    → after ≡ with_body before index body true → body.bytes ≡ []
    → (lookup after ≡ put_into (lookup current) name []) × (◌≡◌ {A = Option (List ℕ)} (Some (name_at after index)) (Some name))
begins_write before current after name index body s e o z = (
  puts before current after name [] index body s e o z,
  ap (λ (fs : List NamedFile). Some (name_at fs index)) o ∙ ap (λ (n : List ℕ). Some n)
      (name_stays before index body true index ∙ slot_named before name index s),
)

written_is : (files : List NamedFile) (a : Activity) (index : ℕ) (writing : Option (List ℕ)) → a ≡ doing.Writing index → written_in files a ≡ writing
    → ◌≡◌ {A = Option (List ℕ)} (Some (name_at files index)) writing
written_is files a index writing e w = subst (λ (x : Activity). written_in files x ≡ writing) e w

pub same_written : (before after : List NamedFile) (a : Activity) (index : ℕ) (body : BodyState) (writing : Option (List ℕ)) → a ≡ doing.Writing index
    → written_in before a ≡ writing → after ≡ with_body before index body true
    → ◌≡◌ {A = Option (List ℕ)} (Some (name_at after index)) writing
same_written before after a index body writing e w o =
    ap (λ (fs : List NamedFile). Some (name_at fs index)) o ∙ ap (λ (n : List ℕ). Some n) (name_stays before index body true index) ∙ written_is before a index
    writing e w

-- whether so many more bytes pass the room, as the code asks
pub passes_by : (before current : List NamedFile) (a : Activity) (index count : ℕ) (writing : Option (List ℕ)) → a ≡ doing.Writing index → IsActive before a
    → before ≡ current → written_in before a ≡ writing
    → passes_room current writing count ≡ not (nat_le (length (body_at before index).bytes + count) (body_at before index).room)
passes_by before current a index count writing e s b w =
    ap₂ (λ (fs : List NamedFile) (n : Option (List ℕ)). passes_room fs n count) (sym b) (sym (written_is before a index writing e w))
    ∙ ap (λ (body : Option BodyState). is_past body count) (slot_said body_if before (name_at before index) index (active_slot before a index e s))

-- bytes that are added after those that the file holds
held_same : (there : Bool) (bytes held : List ℕ) → cond there (Some bytes) None ≡ Some held → bytes ≡ held
held_same true bytes held e = cc
held_same false bytes held e = absurd cc

some_same : (x y : NameMap) → ◌≡◌ {A = Option NameMap} (Some x) (Some y) → x ≡ y
some_same x y e = cc

name_same : (x y : List ℕ) → ◌≡◌ {A = Option (List ℕ)} (Some x) (Some y) → x ≡ y
name_same x y e = cc

put_here : (base : NameMap) (name held : List ℕ) → put_into base name held name ≡ Some held
put_here base name held = ap (λ b. cond b (Some held) (base name)) ((bytes_eq-Decides name name).1 refl)

put_again : (base : NameMap) (name held more : List ℕ) → put_into (put_into base name held) name more ≡ put_into base name more
put_again base name held more = fun_ext (λ other. twice (bytes_eq name other) (base other))
  where
    twice : (b : Bool) (o : Option (List ℕ)) → cond b (Some more) (cond b (Some held) o) ≡ cond b (Some more) o
    twice true o = refl
    twice false o = refl

adds : (files : List NamedFile) (index : ℕ) (base : NameMap) (name held more : List ℕ) → IsSlot files name index → lookup files ≡ put_into base name held
    → lookup (with_body files index (record { bytes = (body_at files index).bytes ++ more; room = (body_at files index).room }) true) ≡ put_into base name
    (held ++ more)
adds files index base name held more s e =
    let there : cond (there_at files index) (Some (held_at files index)) None ≡ Some held = sym (slot_said bytes_if files name index s) ∙ ap
    (λ (m : NameMap). m name) e ∙ put_here base name held in
    let bytes : (body_at files index).bytes ≡ held = held_same (there_at files index) (held_at files index) held there in
    put_map files name index (record { bytes = (body_at files index).bytes ++ more; room = (body_at files index).room }) s
    ∙ ap (λ (m : NameMap). put_into m name ((body_at files index).bytes ++ more)) e
    ∙ put_again base name held ((body_at files index).bytes ++ more)
    ∙ ap (λ (xs : List ℕ). put_into base name (xs ++ more)) bytes

pub adds_by : (before current after : List NamedFile) (a : Activity) (index : ℕ) (writing : Option (List ℕ)) (base : NameMap) (name held more : List ℕ)
    → a ≡ doing.Writing index → IsActive before a → before ≡ current → written_in before a ≡ writing
    → after ≡ with_body before index (record { bytes = (body_at before index).bytes ++ more; room = (body_at before index).room }) true
    → ◌≡◌ {A = Option NameMap} (Some (lookup current)) (Some (put_into base name held)) → writing ≡ Some name
    → ◌≡◌ {A = Option NameMap} (Some (lookup after)) (Some (put_into base name (held ++ more)))
adds_by before current after a index writing base name held more e s b w o h n =
    let named : name_at before index ≡ name = name_same (name_at before index) name (written_is before a index writing e w ∙ n) in
    let slot : IsSlot before name index = subst (λ (m : List ℕ). IsSlot before m index) named (active_slot before a index e s) in
    ap (λ (m : NameMap). Some m) (ap lookup o ∙ adds before index base name held more slot
    (ap lookup b ∙ some_same (lookup current) (put_into base name held) h))

-- both directions of when a call fails, of which one of two things is the cause
both_true : (one other : Bool) → (one ≡ true) ⊎ (other ≡ true) → (one || other) ≡ true
both_true true other e = refl
both_true false other (inl e) = absurd cc
both_true false other (inr e) = e

both_false : (one other : Bool) → one ≡ false → other ≡ false → (one || other) ≡ true → ⊥
both_false one other e f g = cc

pub fails_if : (one other : Bool) → (one ≡ true) ⊎ (other ≡ true) → (true ≡ true → (one || other) ≡ true) × ((one || other) ≡ true → true ≡ true)
fails_if one other e = (λ h. both_true one other e, λ h. refl)

pub fails_not : (one other : Bool) → one ≡ false → other ≡ false → (false ≡ true → (one || other) ≡ true) × ((one || other) ≡ true → false ≡ true)
fails_not one other e f = (λ h. absurd cc, λ h. absurd (both_false one other e f h))
