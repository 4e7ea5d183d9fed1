-- Values as they are seen: what is held, beside the string-values of its nodes.
use Rattle.std.proofs.Common.{◌≡◌, ℕ, List, [], ◌∷◌, length, arith, subst, refl, sym, ◌∙◌, ap, Some, None}
use Rattle.std.specs.Prelude.{map, IfOk}
use Rattle.std.specs.List.{AllByRecursion, Contains, slice_get}
use Rattle.xml_model.specs.declared.Node.{Node}
use Rattle.xml_model.specs.Nest.{Forest}
use Rattle.xml_model.specs.Tree.{Entry}
use Rattle.vtd_words.specs.Lists.{Lists}
use Rattle.vtd_words.specs.Table.{IsNestOf, IsNodeOf, node_of, nodes_of}
use Rattle.xpath_values.specs.declared.Number.{Number}
use Rattle.xpath_values.specs.declared.Value.{Value}
use Rattle.xpath_values.specs.Answers.{Answer}
use Rattle.xpath_values.specs.Numbers.{IsNumber, number_of_text}
use Rattle.xpath_values.specs.Seen.{HasString, HaveStrings, IsLeft, IsSeen, first_text, string_seen, number_seen}
use Rattle.xpath_values.proofs.RangeLemmas.{number_fits}
use Rattle.xpath_values.specs.Values.{Meant, nodes, truth, number, text, held_as, AreAmong, IsHeld, string_value, string_of, number_of}

-- the texts of what is meant
abbrev pub texts : Meant → List (List ℕ)
texts (nodes es) = map string_value es
texts _ = []

have_strings : (bytes : List ℕ) (lists : Lists) (nest : Forest) → IsNestOf bytes lists nest → (es : List Entry)
    → AllByRecursion (λ x. Contains (nodes_of bytes nest) x) es → HaveStrings bytes lists (map node_of es) (map string_value es)
have_strings bytes lists nest is [] h = tt
have_strings bytes lists nest is (e ∷ es) h =
    (record { nest = nest; shown = is; entry = e; holds = (h.0, refl, refl); same = refl }, have_strings bytes lists nest is es h.1)

seen_as : (bytes : List ℕ) (lists : Lists) (nest : Forest) → IsNestOf bytes lists nest → (v : Meant) → AreAmong (nodes_of bytes nest) v
    → IsSeen bytes lists (held_as v) (texts v)
seen_as bytes lists nest is (nodes es) h = have_strings bytes lists nest is es h
seen_as bytes lists nest is (truth b) h = tt
seen_as bytes lists nest is (number x) h = tt
seen_as bytes lists nest is (text t) h = tt

-- what is held is seen
pub held_seen : (bytes : List ℕ) (lists : Lists) (nest : Forest) → IsNestOf bytes lists nest → (x : Value) (v : Meant)
    → IsHeld (nodes_of bytes nest) x v → IsSeen bytes lists x (texts v)
held_seen bytes lists nest is x v h = rw h.same (seen_as bytes lists nest is v h.among)

string_same : (v : Meant) → string_seen (held_as v) (texts v) ≡ string_of v
string_same (nodes []) = refl
string_same (nodes (e ∷ es)) = refl
string_same (truth b) = refl
string_same (number x) = refl
string_same (text t) = refl

number_same : (v : Meant) → number_seen (held_as v) (texts v) ≡ number_of v
number_same (nodes []) = refl
number_same (nodes (e ∷ es)) = refl
number_same (truth b) = refl
number_same (number x) = refl
number_same (text t) = refl

pub string_meant : (es : List Entry) (x : Value) (v : Meant) → IsHeld es x v → string_seen x (texts v) ≡ string_of v
string_meant es x v h = ap (λ y. string_seen y (texts v)) h.same ∙ string_same v

pub number_meant : (es : List Entry) (x : Value) (v : Meant) → IsHeld es x v → number_seen x (texts v) ≡ number_of v
number_meant es x v h = ap (λ y. number_seen y (texts v)) h.same ∙ number_same v

-- the first of nodes
pub first_all : (P : Node → Type 0) (xs : List Node) (x : Node) → slice_get xs 0 ≡ Some x → AllByRecursion P xs → P x
first_all P [] x e h = absurd (cc)
first_all P (y ∷ ys) x e h = let s : y ≡ x = cc in rw (sym s) h.0

pub first_seen : (bytes : List ℕ) (lists : Lists) (xs : List Node) (x : Node) (ts : List (List ℕ)) → slice_get xs 0 ≡ Some x
    → HaveStrings bytes lists xs ts → HasString bytes lists x (first_text ts)
first_seen bytes lists [] x ts e h = absurd (cc)
first_seen bytes lists (y ∷ ys) x [] e h = absurd h
first_seen bytes lists (y ∷ ys) x (t ∷ ts) e h = let s : y ≡ x = cc in rw (sym s) h.0

pub none_seen : (bytes : List ℕ) (lists : Lists) (xs : List Node) (ts : List (List ℕ)) → slice_get xs 0 ≡ None
    → HaveStrings bytes lists xs ts → first_text ts ≡ []
none_seen bytes lists [] [] e h = refl
none_seen bytes lists [] (t ∷ ts) e h = absurd h
none_seen bytes lists (y ∷ ys) ts e h = absurd (cc)

-- nodes that are left, one by one
pub record Next (bytes : List ℕ) (lists : Lists) (node : Node) (rest : List Node) (P : List (List ℕ) → Type 0) : Type 0 where
  pub text : List ℕ
  pub string : HasString bytes lists node text
  pub after : IsLeft bytes lists rest (λ us. P (text ∷ us))

pub next_left : (bytes : List ℕ) (lists : Lists) (left rest : List Node) (node : Node) (P : List (List ℕ) → Type 0) → left ≡ node ∷ rest
    → IsLeft bytes lists left P → Next bytes lists node rest P
next_left bytes lists left rest node P e i =
    this i.texts (let H : List Node → Type 0 = λ (l : List Node). HaveStrings bytes lists l i.texts in subst H e i.shown) i.holds
  where
    this : (ts : List (List ℕ)) → HaveStrings bytes lists (node ∷ rest) ts → P ts → Next bytes lists node rest P
    this [] h p = absurd h
    this (t ∷ ts) h p = record { text = t; string = h.0; after = record { texts = ts; shown = h.1; holds = p } }

-- no node is left
pub last_left : (bytes : List ℕ) (lists : Lists) (left : List Node) (P : List (List ℕ) → Type 0) → length left ≡ 0 → IsLeft bytes lists left P → P []
last_left bytes lists [] P e i = this i.texts i.shown i.holds
  where
    this : (ts : List (List ℕ)) → HaveStrings bytes lists [] ts → P ts → P []
    this [] h p = p
    this (t ∷ ts) h p = absurd h
last_left bytes lists (x ∷ xs) P e i = absurd (omega (arith, e))

pub begin_left : (bytes : List ℕ) (lists : Lists) (xs : List Node) (ts : List (List ℕ)) (P : List (List ℕ) → Type 0)
    → HaveStrings bytes lists xs ts → P ts → IsLeft bytes lists xs P
begin_left bytes lists xs ts P h p = record { texts = ts; shown = h; holds = p }

-- what holds of all nodes holds of the first and of the rest
pub head_all : (P : Node → Type 0) (xs rest : List Node) (x : Node) → xs ≡ x ∷ rest → AllByRecursion P xs → P x
head_all P xs rest x e h = let H : List Node → Type 0 = λ (l : List Node). AllByRecursion P l in (subst H e h).0

pub tail_all : (P : Node → Type 0) (xs rest : List Node) (x : Node) → xs ≡ x ∷ rest → AllByRecursion P xs → AllByRecursion P rest
tail_all P xs rest x e h = let H : List Node → Type 0 = λ (l : List Node). AllByRecursion P l in (subst H e h).1

-- the number of a node is in range
pub number_seen_fits : (bytes : List ℕ) (lists : Lists) (node : Node) (r : Answer Number) → IsNodeOf bytes lists node
    → ((t : List ℕ) → HasString bytes lists node t → r ≡ number_of_text t) → IfOk r IsNumber
number_seen_fits bytes lists node r n g =
    let t : List ℕ = string_value n.entry in
    let e : r ≡ number_of_text t = g t (record { nest = n.nest; shown = n.shown; entry = n.entry; holds = n.holds; same = refl }) in
    subst (λ (x : Answer Number). IfOk x IsNumber) (sym e) (number_fits t)
