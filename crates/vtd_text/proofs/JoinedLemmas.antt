-- What is left of a row of records, step by step.
use Rattle.std.proofs.Common.{◌≡◌, ℕ, Bool, true, false, cond, ◌==◌, inl, inr, le_refl, ap₂, zero, suc, ◌+◌, ◌-◌, ◌<◌, ◌≤◌, List, [], ◌∷◌, ◌++◌, length, take, drop, Option, Some, None, refl, sym, ap, subst, ◌∙◌, arith, append_assoc}
use Rattle.std.specs.Prelude.{MatchOption, nat_le}
use Rattle.std.specs.List.{AllByRecursion as Each}
use Rattle.std.proofs.lemmas.Bool.{cases_Bool}
use Rattle.std.specs.Str.{chars}
use Rattle.std.proofs.Math.Logic.{∥∥₁_elim, ∥∥₁_map}
use Rattle.std.proofs.Props.{props}
use Rattle.vtd_words.specs.Table.{Shows}
use Rattle.vtd_words.proofs.Shown.{shown_length}
use Rattle.xml_model.specs.Records.{Record}
use Rattle.xml_model.specs.Scan.{record_at, is_text_token, is_within}
use Rattle.xml_model.specs.Wholes.{goes_on, joined_with, wholes, wholes_from}
use Rattle.xml_model.proofs.Wholes.{goes_parts}
use Rattle.vtd_text.specs.declared.row.RowEnd.{RowEnd}
use Rattle.vtd_text.specs.declared.token.Rule.{Rule}
use Rattle.vtd_text.specs.declared.token.Rule.TheVariants.{Text}
use Rattle.vtd_text.proofs.PieceLemmas.{nothing_left}
use Rattle.vtd_text.specs.Tokens.{HasContent, BeginsWith, EndsHere, LeavesRest}
use Rattle.vtd_text.specs.Joined.{rule_of, slice_of, Gives, Joined, IsText, Fine, within, row, ShowsReadable, IsLeft, LeavesTail, LeavesAfter, BetweenTokens, IsAtEnd}

-- a character of the token, or the end of the token
pub token_step : (bytes : List ℕ) (rs : List Record) (rule : Rule) (text left : List ℕ) (at : ℕ) (end : RowEnd) (content : List ℕ) (found : Option ℕ)
    → ((head : List ℕ) → HasContent rule (chars text) head → MatchOption found (EndsHere rule head (chars left)) (λ c. BeginsWith rule head c (chars left)))
    → IsLeft bytes rs rule text at end content
    → MatchOption found (BetweenTokens bytes rs rule left at end content) (λ c. LeavesTail (IsLeft bytes rs rule left at end) content c)
token_step bytes rs rule text left at end content None f h =
    let ends = f h.head h.first in
    let e : content ≡ h.tail = h.whole ∙ ap (λ (l : List ℕ). l ++ h.tail) ends.none in
    record { ended = ends.rest; rest = subst (Joined bytes (wholes (row at end rs))) (sym e) h.rest }
token_step bytes rs rule text left at end content (Some c) f h =
    let b = f h.head h.first in
    record {
      tail = b.tail ++ h.tail;
      whole = h.whole ∙ ap (λ (l : List ℕ). l ++ h.tail) b.whole;
      left = record { head = b.tail; tail = h.tail; whole = refl; first = b.rest; rest = h.rest };
    }

-- the records from one on begin with it
drop_one : (rs : List Record) (n : ℕ) → n < length rs → drop n rs ≡ record_at n rs ∷ drop (suc n) rs
drop_one [] n h = absurd (omega arith)
drop_one (r ∷ rs) zero h = refl
drop_one (r ∷ rs) (suc n) h = drop_one rs n (omega arith)

pub take_one : (rs : List Record) (at past : ℕ) → at < past → past ≤ length rs → take (past - at) (drop at rs) ≡ record_at at rs ∷ take (past - (at + 1)) (drop (at + 1) rs)
take_one rs at past l m =
    let n : past - at ≡ suc (past - suc at) = omega arith in
    let one : suc at ≡ at + 1 = omega arith in
    ap (λ (k : ℕ). take k (drop at rs)) n ∙ ap (take (suc (past - suc at))) (drop_one rs at (omega arith)) ∙ ap (λ (k : ℕ). record_at at rs ∷ take (past - k) (drop k rs)) one

-- a row begins with its first record, where that is not below its level
row_by : (rs : List Record) (at : ℕ) (end : RowEnd) (r : Record) → at < end.past → end.past ≤ length rs → r ≡ record_at at rs → row at end rs ≡ cond (is_within end.least r) (r ∷ row (at + 1) end rs) []
row_by rs at end r l m e = ap (within end.least) (take_one rs at end.past l m) ∙ ap (λ (x : Record). cond (is_within end.least x) (x ∷ row (at + 1) end rs) []) (sym e)

pub row_in : (rs : List Record) (at : ℕ) (end : RowEnd) (r : Record) → at < end.past → end.past ≤ length rs → r ≡ record_at at rs → is_within end.least r ≡ true → row at end rs ≡ r ∷ row (at + 1) end rs
row_in rs at end r l m e b = row_by rs at end r l m e ∙ ap (λ (c : Bool). cond c (r ∷ row (at + 1) end rs) []) b

pub row_out : (rs : List Record) (at : ℕ) (end : RowEnd) (r : Record) → at < end.past → end.past ≤ length rs → r ≡ record_at at rs → is_within end.least r ≡ false → row at end rs ≡ []
row_out rs at end r l m e b = row_by rs at end r l m e ∙ ap (λ (c : Bool). cond c (r ∷ row (at + 1) end rs) []) b

pub row_none : (rs : List Record) (at : ℕ) (end : RowEnd) → end.past ≤ at → row at end rs ≡ []
row_none rs at end l = let none : end.past - at ≡ 0 = omega arith in ap (λ (n : ℕ). within end.least (take n (drop at rs))) none

-- ---- a whole token

-- what goes on is of the same level
same_level : (least : ℕ) (r s : Record) → goes_on r s ≡ true → is_within least s ≡ is_within least r
same_level least r s h =
    let g = goes_parts r s h in
    ap₂ (λ (t d : ℕ). nat_le least (cond (t == 0) d (cond (d == 255) 0 (suc d)))) (sym g.token) (sym g.depth)

pub wholes_more : (rs : List Record) (at : ℕ) (end : RowEnd) (r s : Record) → at < end.past → end.past ≤ length rs → s ≡ record_at at rs → is_within end.least r ≡ true → goes_on r s ≡ true →
    wholes_from r (row at end rs) ≡ wholes_from (joined_with r s) (row (at + 1) end rs)
wholes_more rs at end r s l m e b g =
    ap (wholes_from r) (row_in rs at end s l m e (same_level end.least r s g ∙ b))
    ∙ ap (λ (c : Bool). cond c (wholes_from (joined_with r s) (row (at + 1) end rs)) (r ∷ wholes_from s (row (at + 1) end rs))) g

pub wholes_stop : (rs : List Record) (at : ℕ) (end : RowEnd) (r s : Record) → at < end.past → end.past ≤ length rs → s ≡ record_at at rs → goes_on r s ≡ false →
    wholes_from r (row at end rs) ≡ r ∷ wholes (row at end rs)
wholes_stop rs at end r s l m e g = elim (cases_Bool (is_within end.least s)) [
  | inl b ↦
      let i = row_in rs at end s l m e b in
      ap (wholes_from r) i ∙ ap (λ (c : Bool). cond c (wholes_from (joined_with r s) (row (at + 1) end rs)) (r ∷ wholes_from s (row (at + 1) end rs))) g ∙ ap (λ (xs : List Record). r ∷ wholes xs) (sym i)
  | inr b ↦ let o = row_out rs at end s l m e b in ap (wholes_from r) o ∙ ap (λ (xs : List Record). r ∷ wholes xs) (sym o)
]

pub wholes_end : (rs : List Record) (at : ℕ) (end : RowEnd) (r : Record) → end.past ≤ at → wholes_from r (row at end rs) ≡ r ∷ wholes (row at end rs)
wholes_end rs at end r l = let o = row_none rs at end l in ap (wholes_from r) o ∙ ap (λ (xs : List Record). r ∷ wholes xs) (sym o)

-- ---- the next token

-- what is known of it: the first of its records, all of them as one, and the record after them
pub record Next (words : List ℕ) (at : ℕ) (end : RowEnd) (r w : Record) (next : ℕ) : Type 0 where
  pub inside : at < end.past
  pub within : end.past ≤ length words
  pub first : (rs : List Record) → Shows words rs → r ≡ record_at at rs
  pub level : is_within end.least r ≡ true
  pub whole : (rs : List Record) → Shows words rs → (least : ℕ) → is_within least r ≡ true →
      wholes_from r (row (at + 1) (record { past = end.past; least = least }) rs) ≡ w ∷ wholes (row next (record { past = end.past; least = least }) rs)

next_wholes : (words : List ℕ) (at : ℕ) (end : RowEnd) (r w : Record) (next : ℕ) → Next words at end r w next → (rs : List Record) → Shows words rs → wholes (row at end rs) ≡ w ∷ wholes (row next end rs)
next_wholes words at end r w next n rs s =
    ap wholes (row_in rs at end r n.inside (omega (arith, n.within, shown_length words rs s)) (n.first rs s) n.level) ∙ n.whole rs s end.least n.level

pub token_opens : (bytes words : List ℕ) (rs : List Record) (r w : Record) (rule : Rule) (text : List ℕ) (at next : ℕ) (end : RowEnd) (content : List ℕ) → Next words at end r w next → Shows words rs
    → ((head : List ℕ) → Gives (rule_of w.token) (slice_of bytes w) head → HasContent rule (chars text) head)
    → Joined bytes (wholes (row at end rs)) content → IsLeft bytes rs rule text next end content
token_opens bytes words rs r w rule text at next end content n s f h =
    let j : Joined bytes (w ∷ wholes (row next end rs)) content = subst (λ (xs : List Record). Joined bytes xs content) (next_wholes words at end r w next n rs s) h in
    record { head = j.head; tail = j.tail; whole = j.whole; first = f j.head j.first; rest = j.rest }

-- a row that ends here
pub row_ends : (bytes words : List ℕ) (rs : List Record) (r : Record) (at : ℕ) (end : RowEnd) (content : List ℕ) → at < end.past → end.past ≤ length words → Shows words rs → r ≡ record_at at rs
    → is_within end.least r ≡ false → Joined bytes (wholes (row at end rs)) content → IsLeft bytes rs Text [] at (record { past = at; least = end.least }) content
row_ends bytes words rs r at end content l m s e b h =
    let none : content ≡ [] = subst (λ (xs : List Record). Joined bytes (wholes xs) content) (row_out rs at end r l (omega (arith, m, shown_length words rs s)) e b) h in
    record {
      head = [];
      tail = [];
      whole = none;
      first = nothing_left [] refl;
      rest = subst (λ (xs : List Record). Joined bytes (wholes xs) []) (sym (row_none rs at (record { past = at; least = end.least }) (le_refl at))) refl;
    }

text_prop : (b : Bool) (bytes : List ℕ) (r : Record) → IsProp (b ≡ true → IsText bytes r)
text_prop b bytes r = Prim.hlevel props

fine_next : (bytes words : List ℕ) (at : ℕ) (end : RowEnd) (r w : Record) (next : ℕ) → Next words at end r w next → (x : ShowsReadable bytes words at end) → Each (Fine bytes) (w ∷ wholes (row next end x.rs))
fine_next bytes words at end r w next n x = subst (Each (Fine bytes)) (next_wholes words at end r w next n x.rs x.shown) x.readable

-- the next token is of a text
pub next_readable : (bytes words : List ℕ) (at : ℕ) (end : RowEnd) (r w : Record) (next : ℕ) → ∥ ShowsReadable bytes words at end ∥₁ → Next words at end r w next → is_text_token w.token ≡ true → IsText bytes w
next_readable bytes words at end r w next s n = ∥∥₁_elim s (text_prop (is_text_token w.token) bytes w) (λ x. (fine_next bytes words at end r w next n x).0)

pub later_readable : (bytes words : List ℕ) (at : ℕ) (end : RowEnd) (r w : Record) (next : ℕ) → ∥ ShowsReadable bytes words at end ∥₁ → Next words at end r w next → ∥ ShowsReadable bytes words next end ∥₁
later_readable bytes words at end r w next s n = ∥∥₁_map s (λ x. record { rs = x.rs; shown = x.shown; readable = (fine_next bytes words at end r w next n x).1 })

pub none_readable : (bytes words : List ℕ) (at least : ℕ) (end : RowEnd) → ∥ ShowsReadable bytes words at end ∥₁ → ∥ ShowsReadable bytes words at (record { past = at; least = least }) ∥₁
none_readable bytes words at least end s =
    ∥∥₁_map s (λ x. record {
      rs = x.rs;
      shown = x.shown;
      readable = subst (λ (xs : List Record). Each (Fine bytes) (wholes xs)) (sym (row_none x.rs at (record { past = at; least = least }) (le_refl at))) tt;
    })

-- what is left once the next token is open, in the words that the contracts of the two steps have
abbrev pub Opens : (bytes words : List ℕ) (at : ℕ) (end : RowEnd) (rule : Rule) (text : List ℕ) (next : ℕ) (later : RowEnd) → Type 0
Opens bytes words at end rule text next later = (rs : List Record) → Shows words rs → (content : List ℕ) → Joined bytes (wholes (row at end rs)) content → IsLeft bytes rs rule text next later content

opened : (b0 b1 b2 ws0 ws1 : List ℕ) (at next : ℕ) (end later : RowEnd) (rule : Rule) (text : List ℕ) → b1 ≡ b0 → b2 ≡ b1 → ws1 ≡ ws0 → Opens b1 ws1 at end rule text next later
    → (rs : List Record) → Shows ws0 rs → (content : List ℕ) → Joined b0 (wholes (row at end rs)) content → IsLeft b2 rs rule text next later content
opened b0 b1 b2 ws0 ws1 at next end later rule text b c w f rs s content j =
    let j1 : Joined b1 (wholes (row at end rs)) content = rw b j in
    let s1 : Shows ws1 rs = rw w s in
    rw c (f rs s1 content j1)

pub some_step : (b0 b1 b2 ws0 ws1 : List ℕ) (at next last : ℕ) (end later final : RowEnd) (rule new : Rule) (text left : List ℕ) (c : ℕ) → b1 ≡ b0 → b2 ≡ b1 → ws1 ≡ ws0 → last ≡ next → final ≡ later → Opens b1 ws1 at end rule text next later
    → ((rs : List Record) (content : List ℕ) → IsLeft b2 rs rule text next later content → LeavesTail (IsLeft b2 rs new left next later) content c)
    → (rs : List Record) → Shows ws0 rs → (content : List ℕ) → Joined b0 (wholes (row at end rs)) content → LeavesTail (IsLeft b0 rs new left last final) content c
some_step b0 b1 b2 ws0 ws1 at next last end later final rule new text left c b d w a q f g rs s content j =
    rw (a, q, sym (d ∙ b)) (g rs content (opened b0 b1 b2 ws0 ws1 at next end later rule text b d w f rs s content j))

pub none_step : (b0 b1 b2 ws0 ws1 : List ℕ) (at next last : ℕ) (end later final : RowEnd) (rule new : Rule) (text left : List ℕ) → b1 ≡ b0 → b2 ≡ b1 → ws1 ≡ ws0 → last ≡ next → final ≡ later → Opens b1 ws1 at end rule text next later
    → ((rs : List Record) (content : List ℕ) → IsLeft b2 rs rule text next later content → BetweenTokens b2 rs new left next later content)
    → (rs : List Record) → Shows ws0 rs → (content : List ℕ) → Joined b0 (wholes (row at end rs)) content → BetweenTokens b0 rs new left last final content
none_step b0 b1 b2 ws0 ws1 at next last end later final rule new text left b d w a q f g rs s content j =
    rw (a, q, sym (d ∙ b)) (g rs content (opened b0 b1 b2 ws0 ws1 at next end later rule text b d w f rs s content j))

pub end_step : (bytes : List ℕ) (rs : List Record) (rule : Rule) (text content : List ℕ) (end : RowEnd) (at : ℕ) → end.past ≤ at → BetweenTokens bytes rs rule text at end content → IsAtEnd (IsLeft bytes rs rule text at end) content
end_step bytes rs rule text content end at l j =
    let e : content ≡ [] = subst (λ (xs : List Record). Joined bytes (wholes xs) content) (row_none rs at end l) j.rest in
    record { none = e; left = record { head = []; tail = []; whole = refl; first = j.ended; rest = subst (λ (l : List ℕ). Joined bytes (wholes (row at end rs)) l) e j.rest } }

-- characters of the token that stand for themselves
pub plain_step : (bytes : List ℕ) (rs : List Record) (rule : Rule) (text prefix left : List ℕ) (at : ℕ) (end : RowEnd) (content : List ℕ)
    → ((head : List ℕ) → HasContent rule (chars text) head → LeavesRest rule head prefix (chars left))
    → IsLeft bytes rs rule text at end content → LeavesAfter (IsLeft bytes rs rule left at end) content prefix
plain_step bytes rs rule text prefix left at end content f h =
    let k = f h.head h.first in
    record {
      tail = k.tail ++ h.tail;
      whole = h.whole ∙ ap (λ (l : List ℕ). l ++ h.tail) k.whole ∙ append_assoc prefix k.tail h.tail;
      left = record { head = k.tail; tail = h.tail; whole = refl; first = k.rest; rest = h.rest };
    }
