-- What is told of the answer of an expression, by the calls that ask for it.
use Rattle.std.proofs.Common.{◌≡◌, ℕ, List, Result, Ok, Err, refl, sym, ap, subst}
use Rattle.std.specs.Prelude.{encode_utf8_all}
use Rattle.vtd_documents.specs.Held.{AreLines, IsLine, OfNest}
use Rattle.vtd_queries.specs.Meets.{Meets}
use Rattle.vtd_queries.specs.Questions.{Asks, AsksNodes}
use Rattle.vtd_queries.specs.declared.faults.QueryFault.{QueryFault}
use Rattle.vtd_script.specs.Queries.{Selects, Values}
use Rattle.vtd_script.specs.States.{State, Answer}
use Rattle.vtd_script.specs.Steps.{Does, Tells}
use Rattle.vtd_script.specs.Changes.{Told, query_stop}
use Rattle.vtd_lines.specs.declared.commands.Command.TheVariants.{Select, Value}
use Rattle.vtd_script.specs.declared.ready.Stop.{Stop}
use Rattle.vtd_script.proofs.Parts.{told_fault}

pub selects_fault : (bytes : List ℕ) (bound : List (List ℕ × List ℕ)) (text : List ℕ) (fault : QueryFault) (stop : Result (List ℕ) Stop)
    → OfNest bytes (λ nest. Meets AreLines (AsksNodes bytes nest bound text) (Err fault)) → stop ≡ Err (query_stop fault)
    → Told (Selects bytes bound text) stop
selects_fault bytes bound text fault stop o e =
    let Q : Result (List ℕ) Stop → Type 0 = λ x. Told (Selects bytes bound text) x in
    subst Q (sym e) (told_fault (Selects bytes bound text) (AsksNodes bytes o.0 bound text) fault
    (λ x h. record { nest = o.0; accepted = o.1; found = Err x; asked = h; is = refl }) o.2)

pub selects_made : (bytes : List ℕ) (bound : List (List ℕ × List ℕ)) (text lines : List ℕ)
    → OfNest bytes (λ nest. Meets AreLines (AsksNodes bytes nest bound text) (Ok lines)) → Told (Selects bytes bound text) (Ok lines)
selects_made bytes bound text lines o = record {
  nest = o.0;
  accepted = o.1;
  found = Ok o.2.value;
  asked = o.2.answers;
  is = ap (λ (xs : List ℕ). Ok xs) o.2.held;
}

pub values_fault : (bytes : List ℕ) (bound : List (List ℕ × List ℕ)) (text : List ℕ) (fault : QueryFault) (stop : Result (List ℕ) Stop)
    → OfNest bytes (λ nest. Meets IsLine (Asks bytes nest bound text) (Err fault)) → stop ≡ Err (query_stop fault)
    → Told (Values bytes bound text) stop
values_fault bytes bound text fault stop o e =
    let Q : Result (List ℕ) Stop → Type 0 = λ x. Told (Values bytes bound text) x in
    subst Q (sym e) (told_fault (Values bytes bound text) (Asks bytes o.0 bound text) fault
    (λ x h. record { nest = o.0; accepted = o.1; found = Err x; asked = h; is = refl }) o.2)

pub values_made : (bytes : List ℕ) (bound : List (List ℕ × List ℕ)) (text line : List ℕ)
    → OfNest bytes (λ nest. Meets IsLine (Asks bytes nest bound text) (Ok line)) → Told (Values bytes bound text) (Ok line)
values_made bytes bound text line o = record {
  nest = o.0;
  accepted = o.1;
  found = Ok o.2.value;
  asked = o.2.answers;
  is = ap (λ (xs : List ℕ). Ok xs) o.2.held;
}

-- what the session holds is what the command is told of
pub to_select : (s : State) (bytes : List ℕ) (bound : List (List ℕ × List ℕ)) (expr text : List ℕ) → bytes ≡ s.work.bytes → bound ≡ s.work.bound
    → text ≡ encode_utf8_all expr → (a : Answer) → Tells (Selects bytes bound text) s a → Does (Select expr) s a
to_select s bytes bound expr text e b t a h =
    let P : List ℕ → Type 0 = λ x. Tells (Selects s.work.bytes s.work.bound x) s a in
    let Q : List ℕ → Type 0 = λ x. Tells (Selects x s.work.bound text) s a in
    let R : List (List ℕ × List ℕ) → Type 0 = λ x. Tells (Selects bytes x text) s a in
    subst P t (subst Q e (subst R b h))

pub to_value : (s : State) (bytes : List ℕ) (bound : List (List ℕ × List ℕ)) (expr text : List ℕ) → bytes ≡ s.work.bytes → bound ≡ s.work.bound
    → text ≡ encode_utf8_all expr → (a : Answer) → Tells (Values bytes bound text) s a → Does (Value expr) s a
to_value s bytes bound expr text e b t a h =
    let P : List ℕ → Type 0 = λ x. Tells (Values s.work.bytes s.work.bound x) s a in
    let Q : List ℕ → Type 0 = λ x. Tells (Values x s.work.bound text) s a in
    let R : List (List ℕ × List ℕ) → Type 0 = λ x. Tells (Values bytes x text) s a in
    subst P t (subst Q e (subst R b h))
