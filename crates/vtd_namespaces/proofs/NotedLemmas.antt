-- The declarations that are noted for a tag's attributes.
use Rattle.std.proofs.Common.{◌≡◌, ℕ, zero, suc, ◌+◌, ◌*◌, ◌<◌, ◌≤◌, Bool, true, false, cond, List, [], ◌∷◌, ◌++◌, length, set, get_or, refl, ap, ap₂, sym, ◌∙◌, subst, arith, replicate, Option, Some, None, IfSome, ⊎_elim, get_or-set_same, get_or-set_other, length-set}
use Rattle.std.proofs.Math.Seq.{get_or-append_seam}
use Rattle.xml_model.specs.Chars.{prefix_of}
use Rattle.xml_model.specs.Items.{Attribute}
use Rattle.xml_model.specs.Nest.{Forest}
use Rattle.xml_model.specs.Records.{declares}
use Rattle.xml_model.specs.Tree.{Holder}
use Rattle.vtd_words.specs.declared.packing.Parts.{Parts}
use Rattle.vtd_words.specs.Packed.{record_of}
use Rattle.vtd_words.specs.Lists.{Lists}
use Rattle.vtd_text.specs.NameRecords.{IsDeclaration}
use Rattle.vtd_namespaces.specs.Offences.{NearestOf, NearestFor, AreNearest, AreNotes}
use Rattle.std.specs.Option.{unwrap_or}
use Rattle.vtd_text.proofs.FingerprintLemmas.{zeros}
use Rattle.vtd_namespaces.specs.Reach.{some_of}
use Rattle.vtd_namespaces.proofs.DeclarationLemmas.{token_two}
use Rattle.vtd_namespaces.proofs.OffenceLemmas.{OtherName, size_nothing}
use Rattle.vtd_namespaces.proofs.RoundLemmas.{below_or}

-- a set past the end changes nothing
pub set_past : {X : Type 0} (xs : List X) (n : ℕ) (x : X) → length xs ≤ n → xs ≡ set xs n x
set_past [] n x h = refl
set_past (y ∷ xs) zero x h = let z : ⊥ = omega (arith, h) in absurd z
set_past (y ∷ xs) (suc n) x h = ap (λ l. y ∷ l) (set_past xs n x (omega (arith, h)))

-- a name whose record says that it is an attribute's
pub no_declaration_token : (bytes : List ℕ) (p : Parts) (b : Attribute) → OtherName bytes p b → p.token ≡ 2 → declares b.name ≡ false
no_declaration_token bytes p b o t = token_two (declares b.name) (λ k. omega (arith, k, o.token, t))

-- what was found by the record holds of the attribute
pub nearest_for : (bytes : List ℕ) (nest : Forest) (hs : List Holder) (p : Parts) (a : Attribute) (o : Option ℕ) → OtherName bytes p a → NearestOf bytes nest hs (record_of p) a o → NearestFor bytes nest hs a o
nearest_for bytes nest hs p a o n h d some =
    h (λ t. by (declares a.name) refl t) (λ z. some (size_nothing (prefix_of a.name) (sym n.prefix ∙ z)))
  where
    by : (b : Bool) → declares a.name ≡ b → p.token ≡ 3 → ⊥
    by true e t = Rattle.std.proofs.lemmas.Bool.false≢true (sym d ∙ e)
    by false e t = omega (arith, n.token ∙ ap (λ (x : Bool). cond x 3 2) e, t)

-- a declaration's record is not the first one
back : (bytes : List ℕ) (nest : Forest) (hs : List Holder) (a : Attribute) (o : Option ℕ) → NearestFor bytes nest hs a o → NearestFor bytes nest hs a (some_of (unwrap_or o 0))
back bytes nest hs a None h = h
back bytes nest hs a (Some (suc n)) h = h
back bytes nest hs a (Some zero) h = λ d some.
    let n = h d some in
    let index : 0 ≡ n.entry.index + 1 + 2 * n.declared.number = n.declared.index in
    let z : ⊥ = omega (arith, index) in
    absurd z

back_declared : (bytes : List ℕ) (lists : Lists) (o : Option ℕ) → IfSome o (IsDeclaration bytes lists) → IfSome (some_of (unwrap_or o 0)) (IsDeclaration bytes lists)
back_declared bytes lists None h = tt
back_declared bytes lists (Some zero) h = tt
back_declared bytes lists (Some (suc n)) h = h

-- one more is noted
pub nearest_more : (bytes : List ℕ) (nest : Forest) (hs : List Holder) (attributes done left : List Attribute) (a : Attribute) (count : ℕ) (old : List ℕ) (o : Option ℕ) → attributes ≡ done ++ (a ∷ left) → length done ≡ count →
    NearestFor bytes nest hs a o → AreNearest bytes nest hs attributes count old → AreNearest bytes nest hs attributes (count + 1) (set old count (unwrap_or o 0))
nearest_more bytes nest hs attributes done left a count old o split many is h = λ m d l w. ⊎_elim
    (λ p. subst (λ x. NearestFor bytes nest hs (get_or attributes m d) (some_of x)) (sym (get_or-set_other old count m (unwrap_or o 0) 0 (λ e. omega (arith, e, p)))) (h m d p (omega (arith, w, length-set old count (unwrap_or o 0)))))
    (λ p.
    let e : count ≡ m = omega (arith, p, l) in
    let inside : count < length old = omega (arith, w, e, length-set old count (unwrap_or o 0)) in
    let there : get_or attributes m d ≡ a = ap₂ (λ l k. get_or l k d) split (sym e ∙ sym many) ∙ get_or-append_seam done a left d in
    let here : get_or (set old count (unwrap_or o 0)) m 0 ≡ unwrap_or o 0 = ap (λ k. get_or (set old count (unwrap_or o 0)) k 0) (sym e) ∙ get_or-set_same old count (unwrap_or o 0) 0 inside in
    subst (λ x. NearestFor bytes nest hs (get_or attributes m d) (some_of x)) (sym here) (subst (λ b. NearestFor bytes nest hs b (some_of (unwrap_or o 0))) (sym there) (back bytes nest hs a o is))) (below_or m count)

pub declarations_more : (bytes : List ℕ) (lists : Lists) (old : List ℕ) (n : ℕ) (o : Option ℕ) → IfSome o (IsDeclaration bytes lists) → AreNotes bytes lists old → AreNotes bytes lists (set old n (unwrap_or o 0))
declarations_more bytes lists old n o is h = λ m. ⊎_elim
    (λ e. ⊎_elim
    (λ w. subst (λ x. IfSome (some_of x) (IsDeclaration bytes lists)) (sym (ap (λ k. get_or (set old n (unwrap_or o 0)) k 0) e ∙ get_or-set_same old n (unwrap_or o 0) 0 w)) (back_declared bytes lists o is))
    (λ w. subst (λ l. IfSome (some_of (get_or l m 0)) (IsDeclaration bytes lists)) (set_past old n (unwrap_or o 0) w) (h m)) (below_or n (length old)))
    (λ e. subst (λ x. IfSome (some_of x) (IsDeclaration bytes lists)) (sym (get_or-set_other old n m (unwrap_or o 0) 0 e)) (h m)) (Rattle.vtd_namespaces.proofs.MemoLemmas.equal_or m n)

-- nothing is noted or found at first
pub nothing_noted : (bytes : List ℕ) (lists : Lists) (n : ℕ) → AreNotes bytes lists (replicate n 0)
nothing_noted bytes lists n m = subst (λ x. IfSome (some_of x) (IsDeclaration bytes lists)) (sym (zeros n m)) tt

pub nothing_in : (n m : ℕ) → ◌≡◌ {A = Option ℕ} (get_or (replicate n None) m None) None
nothing_in zero m = refl
nothing_in (suc n) zero = refl
nothing_in (suc n) (suc m) = nothing_in n m
