-- A file that is begun, added to and finished.
use Rattle.std.proofs.Common.{◌≡◌, ℕ, List, [], length, Option, Some, None, Result, Ok, Err, is_some, inl, inr, refl, ap, sym, subst, ◌∙◌, arith}
use Rattle.std.proofs.lemmas.List.{take_all}
use Rattle.vtd_outside.specs.declared.Failed.{Failed}
use Rattle.vtd_outside.specs.Known.{NameMap, SeenFiles, BeginsWrite, put_into}
use Rattle.vtd_outside.specs.Written.{Adds, Writes}
use Rattle.vtd_outside.proofs.Adds.{okay, failing}

-- one whose beginning failed
pub write_unbegun : (before after : Option NameMap) (writing : Option (List ℕ)) (name bytes : List ℕ) (e : Failed)
    → BeginsWrite {T = Unit {0}} before after name writing (Err e) → Writes {T = Unit {0}} before after name bytes (Err e)
write_unbegun None None writing name bytes e b = tt
write_unbegun (Some x) (Some y) writing name bytes e b = inl b
write_unbegun None (Some y) writing name bytes e b = b
write_unbegun (Some x) None writing name bytes e b = b

-- files whose bytes are known go on being known
unknown_stays : (o before : Option NameMap) → before ≡ None → is_some o ≡ is_some before → o ≡ None
unknown_stays None before e t = refl
unknown_stays (Some x) None e t = absurd cc
unknown_stays (Some x) (Some y) e t = absurd cc

-- one whose appending failed
unfinished : (before : Option NameMap) (begun after : SeenFiles) (contents : Option NameMap) (name bytes : List ℕ) (x : Unit {0}) (e : Failed)
    → contents ≡ begun.contents → BeginsWrite {E = Failed} before contents name begun.writing (Ok x)
    → Adds begun after bytes (failing {U = Unit {0}} e) → Writes {T = Unit {0}} before after.contents name bytes (Err e)
unfinished None begun after None name bytes x e c b a =
    let P : Option NameMap → Type 0 = λ o. Writes {T = Unit {0}} None o name bytes (Err e) in
    subst P (sym (unknown_stays after.contents begun.contents (sym c) a.known)) tt
unfinished (Some y) begun after (Some m) name bytes x e c b a =
    let f = a.added y name [] (record { contents_are = sym c ∙ ap (λ (k : NameMap). Some k) b.0; named = b.1 }) in
    let P : Option NameMap → Type 0 = λ o. Writes {T = Unit {0}} (Some y) o name bytes (Err e) in
    subst P (sym f.files) (inr (f.count, f.within, refl))
unfinished None begun after (Some m) name bytes x e c b a = absurd b
unfinished (Some y) begun after None name bytes x e c b a = absurd b

pub write_unfinished : (before begun after : SeenFiles) (name bytes : List ℕ) (x : Unit {0}) (e : Failed)
    → BeginsWrite {E = Failed} before.contents begun.contents name begun.writing (Ok x)
    → Adds begun after bytes (failing {U = Unit {0}} e) → Writes {T = Unit {0}} before.contents after.contents name bytes (Err e)
write_unfinished before begun after name bytes x e b a = unfinished before.contents begun after begun.contents name bytes x e refl b a

-- one that went through to its finish
through : (before contents after : Option NameMap) (begun added : SeenFiles) (name bytes : List ℕ) (x y : Unit {0}) (result : Result (Unit {0}) Failed)
    → contents ≡ begun.contents → BeginsWrite {E = Failed} before contents name begun.writing (Ok x)
    → Adds begun added bytes (okay {E = Failed} y) → after ≡ added.contents → Writes before after name bytes result
through None None after begun added name bytes x y result c b a e =
    let P : Option NameMap → Type 0 = λ o. Writes None o name bytes result in subst P (sym (e ∙ unknown_stays added.contents begun.contents (sym c) a.known)) tt
through (Some z) (Some m) after begun added name bytes x y (Ok w) c b a e =
    let f = a.added z name [] (record { contents_are = sym c ∙ ap (λ (k : NameMap). Some k) b.0; named = b.1 }) in
    let P : Option NameMap → Type 0 = λ o. Writes {E = Failed} (Some z) o name bytes (Ok w) in
    subst P (sym (e ∙ f)) refl
through (Some z) (Some m) after begun added name bytes x y (Err w) c b a e =
    let f = a.added z name [] (record { contents_are = sym c ∙ ap (λ (k : NameMap). Some k) b.0; named = b.1 }) in
    let P : Option NameMap → Type 0 = λ o. Writes {T = Unit {0}} (Some z) o name bytes (Err w) in
    subst P (sym (e ∙ f)) (inr (length bytes, omega arith, ap (λ (xs : List ℕ). put_into z name xs) (sym (take_all (length bytes) bytes (omega arith)))))
through None (Some m) after begun added name bytes x y result c b a e = absurd b
through (Some z) None after begun added name bytes x y result c b a e = absurd b

pub write_through : (before begun added after : SeenFiles) (name bytes : List ℕ) (x y : Unit {0}) (result : Result (Unit {0}) Failed)
    → BeginsWrite {E = Failed} before.contents begun.contents name begun.writing (Ok x)
    → Adds begun added bytes (okay {E = Failed} y) → after.contents ≡ added.contents → Writes before.contents after.contents name bytes result
write_through before begun added after name bytes x y result b a e =
    through before.contents begun.contents after.contents begun added name bytes x y result refl b a e
