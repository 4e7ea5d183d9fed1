-- The records of a text or a CDATA section, offered one after another.
use Rattle.std.proofs.Common.{◌≡◌, ℕ, ◌+◌, ◌-◌, ◌<◌, ◌≤◌, List, [], ◌∷◌, map, Err, Ok, sym, ap, subst, ◌∙◌, arith}
use Rattle.xml_model.specs.Records.{Record, cut, cut_records, word}
use Rattle.xml_model.proofs.Cuts.{one_cut, more_cuts}
use Rattle.vtd_builder.specs.Offered.{Outcome, outcome, offer, CanOffer}
use Rattle.vtd_builder.specs.Found.{plain_span, cuts_of}
use Rattle.vtd_builder.proofs.InParts.{Test, Offers, can_first, offers_more, offers_stopped}

same_len : (at n : ℕ) → at + n - at ≡ n
same_len at n = omega arith

-- the first of the records of a long one, and the rest
pub cuts_split : (token depth at end : ℕ) → 1_048_575 < end - at →
    cut_records token depth at (end - at) ≡ plain_span token depth (record { start = at; end = at + 1_048_575 }) ∷ cut_records token depth (at + 1_048_575) (end - (at + 1_048_575))
cuts_split token depth at end h =
    let left : end - at - 1_048_575 ≡ end - (at + 1_048_575) = omega arith in
    more_cuts token depth at (end - at) h ∙ ap (λ n. cut token depth 1_048_575 at ∷ cut_records token depth (at + 1_048_575) n) left
    ∙ ap (λ n. cut token depth n at ∷ cut_records token depth (at + 1_048_575) (end - (at + 1_048_575))) (sym (same_len at 1_048_575))

-- the one record of a short one
pub cuts_short : (token depth at end : ℕ) → end - at ≤ 1_048_575 → cut_records token depth at (end - at) ≡ plain_span token depth (record { start = at; end = end }) ∷ []
cuts_short token depth at end h = one_cut token depth at (end - at) h

pub can_cut : (count token depth at end : ℕ) (r : Record) → CanOffer count (cut_records token depth at (end - at)) → 1_048_575 < end - at →
    r ≡ plain_span token depth (record { start = at; end = at + 1_048_575 }) → CanOffer count (r ∷ [])
can_cut count token depth at end r c h e =
    can_first count (r ∷ []) (cut_records token depth (at + 1_048_575) (end - (at + 1_048_575)))
    (subst (CanOffer count) (cuts_split token depth at end h ∙ ap (λ x. x ∷ cut_records token depth (at + 1_048_575) (end - (at + 1_048_575))) (sym e)) c)

pub can_last : (count token depth at end : ℕ) (r : Record) → CanOffer count (cut_records token depth at (end - at)) → end - at ≤ 1_048_575 →
    r ≡ plain_span token depth (record { start = at; end = end }) → CanOffer count (r ∷ [])
can_last count token depth at end r c h e = subst (CanOffer count) (cuts_short token depth at end h ∙ ap (λ x. x ∷ []) (sym e)) c

split_by : (token depth at end : ℕ) (r : Record) → 1_048_575 < end - at → r ≡ plain_span token depth (record { start = at; end = at + 1_048_575 }) →
    cut_records token depth at (end - at) ≡ r ∷ cut_records token depth (at + 1_048_575) (end - (at + 1_048_575))
split_by token depth at end r h e = cuts_split token depth at end h ∙ ap (λ x. x ∷ cut_records token depth (at + 1_048_575) (end - (at + 1_048_575))) (sym e)

module _ (first : Test) (before : List ℕ) (start : ℕ) (all : List Record) (now : Test) (taken : List ℕ) (count token depth at end : ℕ) (r : Record) where
  pub cuts_more : (later : Test) (taken1 : List ℕ) (n : ℕ) → Offers first before start all now taken count (cut_records token depth at (end - at)) → 1_048_575 < end - at →
      r ≡ plain_span token depth (record { start = at; end = at + 1_048_575 }) → outcome taken1 (Ok n) ≡ offer now taken count (word r ∷ []) → later ≡ now →
      Offers first before start all later taken1 n (cut_records token depth (at + 1_048_575) (end - (at + 1_048_575)))
  cuts_more later taken1 n o h e f l =
      let s : Offers first before start all now taken count (r ∷ cut_records token depth (at + 1_048_575) (end - (at + 1_048_575))) =
      subst (Offers first before start all now taken count) (split_by token depth at end r h e) o in
      offers_more first before start all now taken count (r ∷ []) (cut_records token depth (at + 1_048_575) (end - (at + 1_048_575))) later taken1 n s f l

  pub cuts_stopped : (taken1 : List ℕ) (k : ℕ) → Offers first before start all now taken count (cut_records token depth at (end - at)) → 1_048_575 < end - at →
      r ≡ plain_span token depth (record { start = at; end = at + 1_048_575 }) → outcome taken1 (Err k) ≡ offer now taken count (word r ∷ []) → outcome taken1 (Err k) ≡ offer first before start (map word all)
  cuts_stopped taken1 k o h e f =
      let s : Offers first before start all now taken count (r ∷ cut_records token depth (at + 1_048_575) (end - (at + 1_048_575))) =
      subst (Offers first before start all now taken count) (split_by token depth at end r h e) o in
      offers_stopped first before start all now taken count (r ∷ []) (cut_records token depth (at + 1_048_575) (end - (at + 1_048_575))) taken1 k s f

  pub cuts_last : (answer : Outcome) → Offers first before start all now taken count (cut_records token depth at (end - at)) → end - at ≤ 1_048_575 →
      r ≡ plain_span token depth (record { start = at; end = end }) → answer ≡ offer now taken count (word r ∷ []) → answer ≡ offer first before start (map word all)
  cuts_last answer o h e f =
      f ∙ ap (λ t. offer t taken count (word r ∷ [])) o.test ∙ ap (λ x. offer first taken count (word x ∷ [])) e
      ∙ ap (λ rs. offer first taken count (map word rs)) (sym (cuts_short token depth at end h)) ∙ sym o.same
