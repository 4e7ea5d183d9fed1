-- The two parts of the command that writes an index file.
use Rattle.std.proofs.Common.{◌≡◌, ◌≤◌, ◌<◌, ℕ, List, length, Option, Some, None, Result, Ok, Err, OnErr, refl, sym, ap, subst, ◌∙◌}
use Rattle.xml_model.specs.Nest.{Forest}
use Rattle.xml_model.specs.Accepted.{Accepted}
use Rattle.xml_acceptance.proofs.OneAnswer as documents
use Rattle.vtd_outside.specs.declared.Failed.{Failed}
use Rattle.vtd_outside.specs.Known.{NameMap, put_into}
use Rattle.vtd_outside.specs.Written.{Writes}
use Rattle.vtd_index.specs.Index.{index_of}
use Rattle.vtd_documents.specs.Held.{OfNest}
use Rattle.vtd_script.specs.States.{Work, State, state_of, printed}
use Rattle.vtd_script.specs.Steps.{Does, index_limit, index_put, indexed_line, name_of, not_put}
use Rattle.vtd_script.specs.Changes.{Changes, ChangesKnown, Prepares, PutsIndexOf}
use Rattle.vtd_lines.specs.declared.commands.Command.TheVariants.{Index}
use Rattle.vtd_script.specs.declared.refusals.Refusal.TheVariants as no
use Rattle.vtd_script.specs.declared.ready.Change.{Change}
use Rattle.vtd_script.specs.declared.ready.Change.TheVariants as change
use Rattle.vtd_script.specs.declared.ready.Ready.{Ready}
use Rattle.vtd_script.specs.declared.ready.Stop.TheVariants as stop

-- a file that takes the index file of the document
make_index : (rose : Type 0) (name : List ℕ) (work : Work) (map : NameMap) (after : Option NameMap) (result : Result (Unit {0}) Failed) (nest : Forest)
    → Accepted 8 work.bytes nest → Writes (Some map) after (name_of name) (index_of work.bytes nest) result → OnErr result rose
    → ChangesKnown rose (change.Index name) (state_of work map) result work after
make_index rose name work map None result nest a w o = absurd w
make_index rose name work map (Some f) (Ok x) nest a w o = record {
  files = f;
  files_are = refl;
  makes = (nest, a, ap (λ (g : NameMap). state_of work g) w);
}
make_index rose name work map (Some f) (Err x) nest a w o = record {
  files = f;
  files_are = refl;
  makes = record {
    writes_file = refl;
    cause = o;
    work_stays = refl;
    name = name_of name;
    bytes = index_of work.bytes nest;
    after = state_of work (put_into map (name_of name) (index_of work.bytes nest));
    changes = (nest, a, refl);
    one_file = refl;
    prefix = w;
  };
}

pub change_index : (rose : Type 0) (left : Change) (name : List ℕ) (work : Work) (map : NameMap) (before after : Option NameMap) (named bytes : List ℕ)
    (result : Result (Unit {0}) Failed) → left ≡ change.Index name → named ≡ name_of name → bytes ≡ work.bytes → before ≡ Some map
    → OfNest bytes (λ nest. Writes before after named (index_of bytes nest) result) → OnErr result rose
    → ChangesKnown rose left (state_of work map) result work after
change_index rose left name work map before after named bytes result e n b f w o =
    let P : Change → Type 0 = λ c. ChangesKnown rose c (state_of work map) result work after in
    let B : List ℕ → Type 0 = λ x. OfNest x (λ nest. Writes before after named (index_of x nest) result) in
    let v = subst B b w in
    let Q : Option NameMap → Type 0 = λ y. Writes y after named (index_of work.bytes v.0) result in
    let R : List ℕ → Type 0 = λ x. Writes (Some map) after x (index_of work.bytes v.0) result in
    subst P (sym e) (make_index rose name work map after result v.0 v.1 (subst R n (subst Q f v.2)) o)

-- the command, whose file is left to the second part
line_of_index : (bytes : List ℕ) (count : ℕ) (lines : List ℕ) (n m : Forest) → Accepted 8 bytes n → Accepted 8 bytes m
    → count ≡ length (index_of bytes n) → lines ≡ indexed_line count → lines ≡ indexed_line (length (index_of bytes m))
line_of_index bytes count lines n m a b c l =
    let same : n ≡ m = documents.one_document bytes n m a.document b.document in
    l ∙ ap indexed_line (c ∙ ap (λ (x : Forest). length (index_of bytes x)) same)

within_index : (bytes : List ℕ) (count : ℕ) (n m : Forest) → Accepted 8 bytes n → Accepted 8 bytes m → count ≡ length (index_of bytes n)
    → count ≤ index_limit → length (index_of bytes m) ≤ index_limit
within_index bytes count n m a b c l =
    let same : n ≡ m = documents.one_document bytes n m a.document b.document in
    let P : ℕ → Type 0 = λ x. x ≤ index_limit in
    subst P (c ∙ ap (λ (x : Forest). length (index_of bytes x)) same) l

does_index : (name : List ℕ) (s after : State) (lines : List ℕ) (count : ℕ) → OfNest s.work.bytes (λ nest. count ≡ length (index_of s.work.bytes nest))
    → count ≤ index_limit → lines ≡ indexed_line count → PutsIndexOf (name_of name) s after → Does (Index name) s (printed lines after)
does_index name s after lines count o l d p =
    let e = line_of_index s.work.bytes count lines o.0 p.0 o.1 p.1 o.2 d in
    let P : List ℕ → Type 0 = λ x. Does (Index name) s (printed x after) in
    let Q : State → Type 0 = λ x. Does (Index name) s (printed (indexed_line (length (index_of s.work.bytes p.0))) x) in
    subst P (sym e) (subst Q (sym p.2) (p.0, p.1, index_put (within_index s.work.bytes count o.0 p.0 o.1 p.1 o.2 l)))

pub prepares_index : (rose : Type 0) (name bytes : List ℕ) (s : State) (ready : Ready) (lines : List ℕ) (count : ℕ) → bytes ≡ s.work.bytes
    → OfNest bytes (λ nest. count ≡ length (index_of bytes nest)) → count ≤ index_limit → ready.change ≡ change.Index name → ready.lines ≡ lines
    → lines ≡ indexed_line count → Prepares rose (Index name) s s (Ok ready)
prepares_index rose name bytes s ready lines count b o l n e d =
    let B : List ℕ → Type 0 = λ x. OfNest x (λ nest. count ≡ length (index_of x nest)) in
    let v = subst B b o in (
      λ after c. let p : PutsIndexOf (name_of name) s after = (let P : Change → Type 0 = λ x. Changes x s after in subst P n c) in
          does_index name s after ready.lines count v l (e ∙ d) p,
      λ w. (refl, refl),
    )

pub stops_index : (rose : Type 0) (name bytes : List ℕ) (s : State) (count : ℕ) → bytes ≡ s.work.bytes
    → OfNest bytes (λ nest. count ≡ length (index_of bytes nest)) → index_limit < count → Prepares rose (Index name) s s (Err (stop.Refused no.IndexLong))
stops_index rose name bytes s count b o l =
    let B : List ℕ → Type 0 = λ x. OfNest x (λ nest. count ≡ length (index_of x nest)) in
    let v = subst B b o in
    let P : ℕ → Type 0 = λ x. index_limit < x in
    (refl, (v.0, v.1, not_put (subst P v.2 l)))
