-- Files in a list: where the first of a name is, and what a change of one leaves.
use Rattle.std.proofs.Common.{◌≡◌, ℕ, zero, suc, ◌+◌, ◌<◌, Bool, true, false, cond, List, [], ◌∷◌, ◌++◌, map, length, max, get_or, set, Option, Some, None}
use Rattle.std.proofs.Common.{IfSome, IfNone, is_none, Result, Ok, Err, OnOk, OnErr, refl, sym, ap, ap₂, subst, ◌∙◌, arith, string_bytes, bytes_eq}
use mathlib.Core.Path.{fun_ext}
use Rattle.std.specs.List.{position, position_from}
use Rattle.std.proofs.lemmas.List.Quantifiers.{position-Some}
use Rattle.std.proofs.lemmas.Iterator.Adapters.{position_from-zero}
use Rattle.std.proofs.lemmas.Slice.Eq.{bytes_eq-Decides}
use Rattle.vtd_outside.specs.declared.file_list.File.{File}
use Rattle.vtd_outside.specs.Objects.{NamedFile, BodyState, found, bytes_if, room_if, lookup, put_into, rooms, make_room, room_or_none}
use Rattle.vtd_outside.specs.Held.{shown, has_name, name_at, held_at, body_at, there_at, with_body, IsSlot, IsAbsent}

-- how many files are shown, and the file of an index as the code reads it
pub length_shown : (files : List File) → length (map shown files) ≡ length files
length_shown [] = refl
length_shown (file ∷ files) = ap suc (length_shown files)

pub body_here : (files : List File) (index : ℕ) (other : File) → index < length (map shown files)
    → (get_or files index other).body ≡ body_at (map shown files) index
body_here [] index other l = absurd (omega arith)
body_here (file ∷ files) zero other l = refl
body_here (file ∷ files) (suc index) other l = body_here files index other (omega arith)

pub there_here : (files : List File) (index : ℕ) (other : File) → index < length (map shown files)
    → (get_or files index other).is_there ≡ there_at (map shown files) index
there_here [] index other l = absurd (omega arith)
there_here (file ∷ files) zero other l = refl
there_here (file ∷ files) (suc index) other l = there_here files index other (omega arith)

-- another body, as the code puts it
pub shown_set : (files : List File) (index : ℕ) (file other : File) → index < length (map shown files) → file ≡ get_or files index file
    → string_bytes other.name ≡ string_bytes file.name
    → map shown (set files index other) ≡ with_body (map shown files) index other.body other.is_there
shown_set [] index file other l e n = absurd (omega arith)
shown_set (first ∷ files) zero file other l e n =
    ap (λ name. record { name = name; body = other.body; there = other.is_there } ∷ map shown files) (n ∙ ap (λ f. string_bytes f.name) e)
shown_set (first ∷ files) (suc index) file other l e n = ap (λ rest. shown first ∷ rest) (shown_set files index file other (omega arith) e n)

-- the same where the list is known by an equation
pub body_seen : (files : List File) (all : List NamedFile) (index : ℕ) (file : File) → map shown files ≡ all → index < length all
    → file ≡ get_or files index file → file.body ≡ body_at all index
body_seen files all index file e l g =
    let P : List NamedFile → Type 0 = λ fs. index < length fs → file.body ≡ body_at fs index in
    subst P e (λ m. ap (λ (f : File). f.body) g ∙ body_here files index file m) l

pub there_seen : (files : List File) (all : List NamedFile) (index : ℕ) (file : File) → map shown files ≡ all → index < length all
    → file ≡ get_or files index file → file.is_there ≡ there_at all index
there_seen files all index file e l g =
    let P : List NamedFile → Type 0 = λ fs. index < length fs → file.is_there ≡ there_at fs index in
    subst P e (λ m. ap (λ (f : File). f.is_there) g ∙ there_here files index file m) l

pub set_seen : (files : List File) (all : List NamedFile) (index : ℕ) (file other : File) → map shown files ≡ all → index < length all
    → file ≡ get_or files index file → string_bytes other.name ≡ string_bytes file.name
    → map shown (set files index other) ≡ with_body all index other.body other.is_there
set_seen files all index file other e l g n =
    let P : List NamedFile → Type 0 = λ fs. index < length fs → map shown (set files index other) ≡ with_body fs index other.body other.is_there in
    subst P e (λ m. shown_set files index file other m g n) l

-- room that is made in the file of an index
room_done : (files : List File) (all : List NamedFile) (index : ℕ) (file other : File) (room : ℕ) → map shown files ≡ all → index < length all
    → file ≡ get_or files index file → string_bytes other.name ≡ string_bytes file.name → other.is_there ≡ file.is_there
    → other.body ≡ record { bytes = file.body.bytes; room = max file.body.room room }
    → map shown (set files index other) ≡ with_body all index (record { bytes = (body_at all index).bytes; room = max (body_at all index).room room })
    (there_at all index)
room_done files all index file other room e l g n t b =
    set_seen files all index file other e l g n
    ∙ ap₂ (λ (x : BodyState) (y : Bool). with_body all index x y)
    (b ∙ ap (λ (x : BodyState). record { bytes = x.bytes; room = max x.room room }) (body_seen files all index file e l g))
    (t ∙ there_seen files all index file e l g)

pub room_seen : {T E : Type 0} (result : Result T E) (files : List File) (all : List NamedFile) (index : ℕ) (file other : File) (room : ℕ)
    → map shown files ≡ all → index < length all → file ≡ get_or files index file → string_bytes other.name ≡ string_bytes file.name
    → other.is_there ≡ file.is_there
    → OnOk result (other.body ≡ record { bytes = file.body.bytes; room = max file.body.room room })
    → OnOk result
    (map shown (set files index other) ≡ with_body all index (record { bytes = (body_at all index).bytes; room = max (body_at all index).room room }) (there_at
    all index))
room_seen (Ok x) files all index file other room e l g n t b = room_done files all index file other room e l g n t b
room_seen (Err x) files all index file other room e l g n t b = tt

-- one more file
pub shown_push : (files : List File) (file : File) → map shown (files ++ file ∷ []) ≡ map shown files ++ shown file ∷ []
shown_push [] file = refl
shown_push (first ∷ files) file = ap (λ rest. shown first ∷ rest) (shown_push files file)

-- where the code finds a name, and where it finds none
slot_is : (files : List File) (name : List ℕ) (index : ℕ) (other : File) → index < length files → has_name name (get_or files index other) ≡ true
    → ((k : ℕ) → k < index → has_name name (get_or files k other) ≡ false) → IsSlot (map shown files) name index
slot_is [] name index other l h b = absurd (omega arith)
slot_is (file ∷ files) name zero other l h b = (bytes_eq-Decides (string_bytes file.name) name).0 h
slot_is (file ∷ files) name (suc index) other l h b =
    (b 0 (omega arith), slot_is files name index other (omega arith) h (λ k below. b (suc k) (omega arith)))

slot_found : (files : List File) (name : List ℕ) (index : ℕ) → position (has_name name) files ≡ Some index → IsSlot (map shown files) name index
slot_found [] name index e = absurd cc
slot_found (file ∷ files) name index e =
    let h = position-Some (has_name name) (file ∷ files) index file e in
    slot_is (file ∷ files) name index file h.0 h.1 h.2

none_at : (here : Bool) (start : ℕ) (later : Option ℕ) → cond here (Some start) later ≡ None → (here ≡ false) × (later ≡ None)
none_at true start later e = absurd cc
none_at false start later e = (refl, e)

none_from : (start : ℕ) (files : List File) (name : List ℕ) → position_from (has_name name) start files ≡ None → IsAbsent (map shown files) name
none_from start [] name e = tt
none_from start (file ∷ files) name e =
    let h = none_at (has_name name file) start (position_from (has_name name) (start + 1) files) e in
    (h.0, none_from (start + 1) files name h.1)

pub index_is : (files : List File) (name : List ℕ) (place : Option ℕ) → place ≡ position (has_name name) files
    → IfSome place (λ index. IsSlot (map shown files) name index)
index_is files name None e = tt
index_is files name (Some index) e = slot_found files name index (sym e)

pub index_none : (files : List File) (name : List ℕ) (place : Option ℕ) → place ≡ position (has_name name) files
    → IfNone place (IsAbsent (map shown files) name)
index_none files name None e = none_from 0 files name (sym (position_from-zero (has_name name) files) ∙ sym e)
index_none files name (Some index) e = tt

-- what is said of a name by its slot
pub slot_said : {A : Type 0} (said : BodyState → Bool → Option A) (files : List NamedFile) (name : List ℕ) (index : ℕ) → IsSlot files name index
    → found said files name ≡ said (body_at files index) (there_at files index)
slot_said said [] name index s = absurd s
slot_said said (file ∷ files) name zero s = ap (λ here. cond here (said file.body file.there) (found said files name)) ((bytes_eq-Decides file.name name).1 s)
slot_said said (file ∷ files) name (suc index) s =
    ap (λ here. cond here (said file.body file.there) (found said files name)) s.0 ∙ slot_said said files name index s.1

pub absent_said : {A : Type 0} (said : BodyState → Bool → Option A) (files : List NamedFile) (name : List ℕ) → IsAbsent files name
    → found said files name ≡ None
absent_said said [] name s = refl
absent_said said (file ∷ files) name s = ap (λ here. cond here (said file.body file.there) (found said files name)) s.0 ∙ absent_said said files name s.1

pub slot_named : (files : List NamedFile) (name : List ℕ) (index : ℕ) → IsSlot files name index → name_at files index ≡ name
slot_named [] name index s = absurd s
slot_named (file ∷ files) name zero s = s
slot_named (file ∷ files) name (suc index) s = slot_named files name index s.1

pub slot_within : (files : List NamedFile) (name : List ℕ) (index : ℕ) → IsSlot files name index → index < length files
slot_within [] name index s = absurd s
slot_within (file ∷ files) name zero s = omega arith
slot_within (file ∷ files) name (suc index) s = (let l = slot_within files name index s.1 in omega (arith, l))

-- no text equals two that differ
apart : (a b c : List ℕ) → bytes_eq a b ≡ false → bytes_eq a c ≡ true → bytes_eq b c ≡ true → ⊥
apart a b c e f g =
    let same : a ≡ b = (bytes_eq-Decides a c).0 f ∙ sym ((bytes_eq-Decides b c).0 g) in
    let equal : bytes_eq a b ≡ true = (bytes_eq-Decides a b).1 same in
    cc

cond_same : {A : Type 0} (b : Bool) (x y z : Option A) → cond b x z ≡ cond b x (cond b y z)
cond_same true x y z = refl
cond_same false x y z = refl

cond_swap : {A : Type 0} (a b : Bool) (x y z : Option A) → (a ≡ true → b ≡ true → ⊥) → cond a x (cond b y z) ≡ cond b y (cond a x z)
cond_swap true true x y z h = absurd (h refl refl)
cond_swap true false x y z h = refl
cond_swap false true x y z h = refl
cond_swap false false x y z h = refl

-- a change after a file of another name
after : {A : Type 0} (first name other : List ℕ) (here said new old : Option A) → bytes_eq first name ≡ false → new ≡ cond (bytes_eq name other) said old
    → cond (bytes_eq first other) here new ≡ cond (bytes_eq name other) said (cond (bytes_eq first other) here old)
after first name other here said new old f e =
    ap (λ rest. cond (bytes_eq first other) here rest) e
    ∙ cond_swap (bytes_eq first other) (bytes_eq name other) here said old (apart first name other f)

-- another body for a name that has a place, and a file of a new name
pub said_there : {A : Type 0} (said : BodyState → Bool → Option A) (files : List NamedFile) (name : List ℕ) (index : ℕ) (body : BodyState) (there : Bool)
    (other : List ℕ) → IsSlot files name index
    → found said (with_body files index body there) other ≡ cond (bytes_eq name other) (said body there) (found said files other)
said_there said [] name index body there other s = absurd s
said_there {A} said (file ∷ files) name zero body there other s =
    let P : List ℕ → Type 0 = λ n. cond (bytes_eq file.name other) (said body there) (found said files other) ≡ cond (bytes_eq n other) (said body there)
    (cond (bytes_eq file.name other) (said file.body file.there) (found said files other)) in
    subst P s (cond_same (bytes_eq file.name other) (said body there) (said file.body file.there) (found said files other))
said_there said (file ∷ files) name (suc index) body there other s =
    after file.name name other (said file.body file.there) (said body there) (found said (with_body files index body there) other) (found said files other) s.0
    (said_there said files name index body there other s.1)

pub said_new : {A : Type 0} (said : BodyState → Bool → Option A) (files : List NamedFile) (file : NamedFile) (other : List ℕ) → IsAbsent files file.name
    → found said (files ++ file ∷ []) other ≡ cond (bytes_eq file.name other) (said file.body file.there) (found said files other)
said_new said [] file other s = refl
said_new said (first ∷ files) file other s =
    after first.name file.name other (said first.body first.there) (said file.body file.there) (found said (files ++ file ∷ []) other) (found said files other)
    s.0 (said_new said files file other s.1)

-- another body of which the same is said
pub said_stays : {A : Type 0} (said : BodyState → Bool → Option A) (files : List NamedFile) (index : ℕ) (body : BodyState) (there : Bool) (other : List ℕ)
    → said body there ≡ said (body_at files index) (there_at files index)
    → found said (with_body files index body there) other ≡ found said files other
said_stays said [] index body there other e = refl
said_stays said (file ∷ files) zero body there other e = ap (λ here. cond (bytes_eq file.name other) here (found said files other)) e
said_stays said (file ∷ files) (suc index) body there other e =
    ap (λ rest. cond (bytes_eq file.name other) (said file.body file.there) rest) (said_stays said files index body there other e)

cond_none : {A : Type 0} (b : Bool) → cond {A = Option A} b None None ≡ None
cond_none true = refl
cond_none false = refl

-- a file of which nothing is said, after those that are held
pub said_none : {A : Type 0} (said : BodyState → Bool → Option A) (files : List NamedFile) (file : NamedFile) (other : List ℕ)
    → said file.body file.there ≡ None → found said (files ++ file ∷ []) other ≡ found said files other
said_none said [] file other e = ap (λ here. cond (bytes_eq file.name other) here None) e ∙ cond_none (bytes_eq file.name other)
said_none said (first ∷ files) file other e =
    ap (λ rest. cond (bytes_eq first.name other) (said first.body first.there) rest) (said_none said files file other e)

-- the same as maps
pub put_map : (files : List NamedFile) (name : List ℕ) (index : ℕ) (body : BodyState) → IsSlot files name index
    → lookup (with_body files index body true) ≡ put_into (lookup files) name body.bytes
put_map files name index body s = fun_ext (λ other. said_there bytes_if files name index body true other s)

pub put_new : (files : List NamedFile) (name : List ℕ) (body : BodyState) → IsAbsent files name
    → lookup (files ++ record { name = name; body = body; there = true } ∷ []) ≡ put_into (lookup files) name body.bytes
put_new files name body s = fun_ext (λ other. said_new bytes_if files (record { name = name; body = body; there = true }) other s)

pub room_map : (files : List NamedFile) (name : List ℕ) (index : ℕ) (body : BodyState) (there : Bool) → IsSlot files name index
    → rooms (with_body files index body there) ≡ make_room (rooms files) name body.room
room_map files name index body there s = fun_ext (λ other. said_there room_if files name index body there other s)

pub room_new : (files : List NamedFile) (name : List ℕ) (body : BodyState) (there : Bool) → IsAbsent files name
    → rooms (files ++ record { name = name; body = body; there = there } ∷ []) ≡ make_room (rooms files) name body.room
room_new files name body there s = fun_ext (λ other. said_new room_if files (record { name = name; body = body; there = there }) other s)

pub rooms_stay : (files : List NamedFile) (index : ℕ) (body : BodyState) (there : Bool) → body.room ≡ (body_at files index).room
    → rooms (with_body files index body there) ≡ rooms files
rooms_stay files index body there e = fun_ext (λ other. said_stays room_if files index body there other (ap (λ (n : ℕ). Some n) e))

pub files_stay : (files : List NamedFile) (index : ℕ) (body : BodyState) → body.bytes ≡ held_at files index
    → lookup (with_body files index body (there_at files index)) ≡ lookup files
files_stay files index body e =
    fun_ext (λ other. said_stays bytes_if files index body (there_at files index) other
    (ap (λ (bytes : List ℕ). cond (there_at files index) (Some bytes) None) e))

pub files_prepared : (files : List NamedFile) (name : List ℕ) (body : BodyState)
    → lookup (files ++ record { name = name; body = body; there = false } ∷ []) ≡ lookup files
files_prepared files name body = fun_ext (λ other. said_none bytes_if files (record { name = name; body = body; there = false }) other refl)

-- the file of a name, where it is there and where it is not
pub there_is : (files : List NamedFile) (name : List ℕ) (index : ℕ) (there : Bool) → IsSlot files name index → there ≡ there_at files index → there ≡ true
    → lookup files name ≡ Some (held_at files index)
there_is files name index there s e t = slot_said bytes_if files name index s ∙ ap (λ (b : Bool). cond b (Some (held_at files index)) None) (sym e ∙ t)

pub there_is_none : (files : List NamedFile) (name : List ℕ) (index : ℕ) (there : Bool) → IsSlot files name index → there ≡ there_at files index → there ≡ false
    → lookup files name ≡ None
there_is_none files name index there s e t = slot_said bytes_if files name index s ∙ ap (λ (b : Bool). cond b (Some (held_at files index)) None) (sym e ∙ t)

-- what a change of the list that the code holds leaves, where contracts see another list that is the same
pub prepared_room : {T E : Type 0} (result : Result T E) (before current after : List NamedFile) (name : List ℕ) (index room : ℕ) → IsSlot before name index
    → before ≡ current
    → OnOk result
    (after ≡ with_body before index (record { bytes = (body_at before index).bytes; room = max (body_at before index).room room }) (there_at before index))
    → OnOk result (rooms after ≡ make_room (rooms current) name (max (room_or_none (rooms current name)) room))
prepared_room (Ok x) before current after name index room s e o =
    let P : List NamedFile → Type 0 = λ fs. rooms after ≡ make_room (rooms fs) name (max (room_or_none (rooms fs name)) room) in
    subst P e
    (ap rooms o ∙ room_map before name index _ (there_at before index) s
    ∙ ap (λ (n : ℕ). make_room (rooms before) name (max n room)) (sym (ap room_or_none (slot_said room_if before name index s))))
prepared_room (Err x) before current after name index room s e o = tt

pub added_room : {T E : Type 0} (result : Result T E) (before current after : List NamedFile) (name : List ℕ) (body : BodyState) (there : Bool) (room : ℕ)
    → IsAbsent before name → before ≡ current → body.room ≡ max 0 room
    → OnOk result (after ≡ before ++ record { name = name; body = body; there = there } ∷ [])
    → OnOk result (rooms after ≡ make_room (rooms current) name (max (room_or_none (rooms current name)) room))
added_room (Ok x) before current after name body there room s e r o =
    let P : List NamedFile → Type 0 = λ fs. rooms after ≡ make_room (rooms fs) name (max (room_or_none (rooms fs name)) room) in
    subst P e
    (ap rooms o ∙ room_new before name body there s
    ∙ ap (λ (n : ℕ). make_room (rooms before) name n) (r ∙ ap (λ (n : Option ℕ). max (room_or_none n) room) (sym (absent_said room_if before name s))))
added_room (Err x) before current after name body there room s e r o = tt

pub puts : (before current after : List NamedFile) (name bytes : List ℕ) (index : ℕ) (body : BodyState) → IsSlot before name index → before ≡ current
    → after ≡ with_body before index body true → body.bytes ≡ bytes → lookup after ≡ put_into (lookup current) name bytes
puts before current after name bytes index body s e o b =
    ap lookup o ∙ put_map before name index body s ∙ ap₂ (λ (fs : List NamedFile) (xs : List ℕ). put_into (lookup fs) name xs) e b

pub puts_room : (before current after : List NamedFile) (name : List ℕ) (index room : ℕ) (body : BodyState) → IsSlot before name index → before ≡ current
    → after ≡ with_body before index body true → body.room ≡ room → rooms after ≡ make_room (rooms current) name room
puts_room before current after name index room body s e o b =
    ap rooms o ∙ room_map before name index body true s ∙ ap₂ (λ (fs : List NamedFile) (n : ℕ). make_room (rooms fs) name n) e b

pub puts_new : {T E : Type 0} (result : Result T E) (before current after : List NamedFile) (name bytes : List ℕ) (body : BodyState) → IsAbsent before name
    → before ≡ current → body.bytes ≡ bytes
    → OnOk result (after ≡ before ++ record { name = name; body = body; there = true } ∷ []) → OnOk result (lookup after ≡ put_into (lookup current) name bytes)
puts_new (Ok x) before current after name bytes body s e b o =
    ap lookup o ∙ put_new before name body s ∙ ap₂ (λ (fs : List NamedFile) (xs : List ℕ). put_into (lookup fs) name xs) e b
puts_new (Err x) before current after name bytes body s e b o = tt

pub puts_new_room : {T E : Type 0} (result : Result T E) (before current after : List NamedFile) (name : List ℕ) (room : ℕ) (body : BodyState)
    → IsAbsent before name → before ≡ current → body.room ≡ room
    → OnOk result (after ≡ before ++ record { name = name; body = body; there = true } ∷ []) → OnOk result (rooms after ≡ make_room (rooms current) name room)
puts_new_room (Ok x) before current after name room body s e b o =
    ap rooms o ∙ room_new before name body true s ∙ ap₂ (λ (fs : List NamedFile) (n : ℕ). make_room (rooms fs) name n) e b
puts_new_room (Err x) before current after name room body s e b o = tt

pub absent_err : {T E : Type 0} (result : Result T E) (before current : List NamedFile) (name : List ℕ) → IsAbsent before name → before ≡ current
    → OnErr result (lookup current name ≡ None)
absent_err (Ok x) before current name s e = tt
absent_err (Err x) before current name s e = ap (λ (fs : List NamedFile). lookup fs name) (sym e) ∙ absent_said bytes_if before name s

pub room_stays_by : (before current after : List NamedFile) (index : ℕ) (body : BodyState) (there : Bool) → before ≡ current
    → after ≡ with_body before index body there → body.room ≡ (body_at before index).room → rooms after ≡ rooms current
room_stays_by before current after index body there e o b = ap rooms o ∙ rooms_stay before index body there b ∙ ap rooms e

-- whether a name is there or prepared
pub is_room : (before current : List NamedFile) (name : List ℕ) (index : ℕ) → IsSlot before name index → before ≡ current → is_none (rooms current name) ≡ false
is_room before current name index s e =
    ap (λ (fs : List NamedFile). is_none (rooms fs name)) (sym e) ∙ ap (λ (n : Option ℕ). is_none n) (slot_said room_if before name index s)

pub is_no_room : (before current : List NamedFile) (name : List ℕ) → IsAbsent before name → before ≡ current → is_none (rooms current name) ≡ true
is_no_room before current name s e =
    ap (λ (fs : List NamedFile). is_none (rooms fs name)) (sym e) ∙ ap (λ (n : Option ℕ). is_none n) (absent_said room_if before name s)
