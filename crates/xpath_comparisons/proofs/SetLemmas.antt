-- Passing over the string-values of nodes.
use Rattle.std.proofs.Common.{◌≡◌, ℕ, Bool, true, false, List, [], ◌∷◌, length, inl, inr, arith, refl, sym, ◌∙◌, ap, not}
use Rattle.std.specs.Prelude.{bytes_eq, ◌||◌, ◌&&◌, ◌==◌}
use Rattle.std.specs.List.{list_any}
use Rattle.std.proofs.lemmas.Bool.{cases_Bool, false_from_ne_true, false≢true}
use Rattle.std.proofs.lemmas.Bool.Decides.{nat_tests}
use Rattle.xml_model.proofs.SameText.{bytes_same, same_bytes}
use Rattle.xml_model.specs.declared.Node.{Node}
use Rattle.vtd_words.specs.Lists.{Lists}
use Rattle.xpath_values.specs.Seen.{HasString, HaveStrings, IsLeft}
use Rattle.xpath_values.specs.Values.{some_pair}
use Rattle.xpath_values.proofs.SeenLemmas.{next_left, last_left}

-- whether some text that is left passes is what is asked of all
abbrev pub IsAsked : (List ℕ → Bool) → Bool → List (List ℕ) → Type 0
IsAsked f whole us = list_any f us ≡ whole

-- a text passes
pub passed : (bytes : List ℕ) (lists : Lists) (left rest : List Node) (node : Node) (f : List ℕ → Bool) (whole r : Bool) → left ≡ node ∷ rest
    → ((t : List ℕ) → HasString bytes lists node t → r ≡ f t) → r ≡ true → IsLeft bytes lists left (IsAsked f whole) → true ≡ whole
passed bytes lists left rest node f whole r e g h i =
    let n = next_left bytes lists left rest node (IsAsked f whole) e i in
    sym (ap (λ b. b || list_any f n.after.texts) (sym (g n.text n.string) ∙ h)) ∙ n.after.holds

-- a text does not pass
pub passed_by : (bytes : List ℕ) (lists : Lists) (left rest : List Node) (node : Node) (f : List ℕ → Bool) (whole r : Bool) → left ≡ node ∷ rest
    → ((t : List ℕ) → HasString bytes lists node t → r ≡ f t) → r ≡ false → IsLeft bytes lists left (IsAsked f whole)
    → IsLeft bytes lists rest (IsAsked f whole)
passed_by bytes lists left rest node f whole r e g h i =
    let n = next_left bytes lists left rest node (IsAsked f whole) e i in
    record {
      texts = n.after.texts;
      shown = n.after.shown;
      holds = sym (ap (λ b. b || list_any f n.after.texts) (sym (g n.text n.string) ∙ h)) ∙ n.after.holds;
    }

-- no text is left
pub passed_all : (bytes : List ℕ) (lists : Lists) (left : List Node) (f : List ℕ → Bool) (whole : Bool) → length left ≡ 0
    → IsLeft bytes lists left (IsAsked f whole) → false ≡ whole
passed_all bytes lists left f whole e i = last_left bytes lists left (IsAsked f whole) e i

-- Two lists of texts that differ somewhere.

abbrev pub unlike : List ℕ → List ℕ → Bool
unlike s t = not (bytes_eq s t)

same_when_like : (s u : List ℕ) → unlike s u ≡ false → s ≡ u
same_when_like s u e = same_bytes s u (this (bytes_eq s u) e)
  where
    this : (b : Bool) → not b ≡ false → b ≡ true
    this true h = refl
    this false h = absurd (cc)

pub eq_sides : (x s : List ℕ) → bytes_eq x s ≡ bytes_eq s x
eq_sides x s = elim (cases_Bool (bytes_eq x s)) [
  | inl t ↦ let e : x ≡ s = same_bytes x s t in rw e refl
  | inr f ↦ f ∙ sym (false_from_ne_true (bytes_eq s x) (λ t. false≢true (sym f ∙ rw (same_bytes s x t) (bytes_same x))))
]

pub or_parts : (a b : Bool) → (a || b) ≡ false → (a ≡ false) × (b ≡ false)
or_parts true b e = absurd (cc)
or_parts false b e = (refl, e)

absorbed : (b n : Bool) → (b || (n && b)) ≡ b
absorbed true n = refl
absorbed false true = refl
absorbed false false = refl

abbrev pub some : List (List ℕ) → Bool
some [] = false
some (t ∷ ts) = true

-- where all of a list are one text, a text differs from some of them as it differs from that one
unlike_all : (s x : List ℕ) (us : List (List ℕ)) → list_any (unlike s) us ≡ false → list_any (unlike x) us ≡ (some us && unlike s x)
unlike_all s x [] e = refl
unlike_all s x (u ∷ us) e =
    let p = or_parts (unlike s u) (list_any (unlike s) us) e in
    let same : s ≡ u = same_when_like s u p.0 in
    let b : unlike x u ≡ unlike s x = ap (unlike x) (sym same) ∙ ap not (eq_sides x s) in
    ap (λ c. c || list_any (unlike x) us) b ∙ ap (λ c. unlike s x || c) (unlike_all s x us p.1) ∙ absorbed (unlike s x) (some us)

spread : (n a b : Bool) → ((n && a) || (n && b)) ≡ (n && (a || b))
spread true a b = refl
spread false a b = refl

no_more : (n : Bool) → false ≡ (n && false)
no_more true = refl
no_more false = refl

unlike_rest : (s : List ℕ) (us : List (List ℕ)) → list_any (unlike s) us ≡ false → (ss : List (List ℕ))
    → list_any (λ x. list_any (unlike x) us) ss ≡ (some us && list_any (unlike s) ss)
unlike_rest s us e [] = no_more (some us)
unlike_rest s us e (x ∷ ss) =
    ap (λ c. c || list_any (λ x. list_any (unlike x) us) ss) (unlike_all s x us e)
    ∙ ap (λ c. (some us && unlike s x) || c) (unlike_rest s us e ss)
    ∙ spread (some us) (unlike s x) (list_any (unlike s) ss)

some_others : (bytes : List ℕ) (lists : Lists) (xs : List Node) (ts : List (List ℕ)) → HaveStrings bytes lists xs ts → some ts ≡ not (length xs == 0)
some_others bytes lists [] [] h = refl
some_others bytes lists [] (t ∷ ts) h = absurd h
some_others bytes lists (x ∷ xs) [] h = absurd h
some_others bytes lists (x ∷ xs) (t ∷ ts) h = grind (arith, nat_tests)

-- the first of the one differs from some of the other
pub differ_first : (bytes : List ℕ) (lists : Lists) (nodes rest : List Node) (first : Node) (ts us : List (List ℕ)) (a : Bool) → nodes ≡ first ∷ rest
    → HaveStrings bytes lists nodes ts → ((s : List ℕ) → HasString bytes lists first s → a ≡ list_any (unlike s) us) → a ≡ true
    → true ≡ some_pair unlike ts us
differ_first bytes lists nodes rest first ts us a e h g t =
    let Same : List (List ℕ) → Type 0 = λ vs. vs ≡ ts in
    let n = next_left bytes lists nodes rest first Same e (record { texts = ts; shown = h; holds = refl }) in
    sym (ap (λ b. b || list_any (λ x. list_any (unlike x) us) n.after.texts) (sym (g n.text n.string) ∙ t))
    ∙ ap (λ vs. some_pair unlike vs us) n.after.holds

-- it does not: then all of the other are like it, and the rest of the one decides
pub differ_rest : (bytes : List ℕ) (lists : Lists) (nodes rest others : List Node) (first : Node) (ts us : List (List ℕ)) (a r : Bool) → nodes ≡ first ∷ rest
    → HaveStrings bytes lists nodes ts → HaveStrings bytes lists others us
    → ((s : List ℕ) → HasString bytes lists first s → a ≡ list_any (unlike s) us) → a ≡ false
    → ((s : List ℕ) (ss : List (List ℕ)) → HasString bytes lists first s → HaveStrings bytes lists rest ss
    → r ≡ (not (length others == 0) && list_any (unlike s) ss)) → r ≡ some_pair unlike ts us
differ_rest bytes lists nodes rest others first ts us a r e h k g f d =
    let Same : List (List ℕ) → Type 0 = λ vs. vs ≡ ts in
    let n = next_left bytes lists nodes rest first Same e (record { texts = ts; shown = h; holds = refl }) in
    let like : list_any (unlike n.text) us ≡ false = sym (g n.text n.string) ∙ f in
    d n.text n.after.texts n.string n.after.shown
    ∙ ap (λ b. b && list_any (unlike n.text) n.after.texts) (sym (some_others bytes lists others us k))
    ∙ sym (unlike_rest n.text us like n.after.texts)
    ∙ sym (ap (λ b. b || list_any (λ x. list_any (unlike x) us) n.after.texts) like)
    ∙ ap (λ vs. some_pair unlike vs us) n.after.holds
