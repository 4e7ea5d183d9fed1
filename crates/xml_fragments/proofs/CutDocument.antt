-- The cut element fits as a document of its own.
use Rattle.std.proofs.Common.{◌≡◌, ℕ, true, List, [], ◌∷◌, ◌++◌, refl, sym, ap, ◌∙◌, arith}
use Rattle.std.proofs.lemmas.Bool.{and_parts, and_from}
use Rattle.xml_model.specs.Items.{Tag, is_nil}
use Rattle.xml_model.specs.Nest.{Forest, done, single, empty, element}
use Rattle.xml_model.specs.Records.{attributes_place, past_leaf, past_empty, past_start, past_element}
use Rattle.xml_model.specs.Accepted.{Faults, over_names, leaf_faults, repeats, offences}
use Rattle.xml_nests.specs.Fits.{Fits}
use Rattle.xml_nests.specs.Context.{Context, before, past_single, past_tag, past_whole, within, plug, tags_in, place_in}
use Rattle.xml_fragments.specs.Cut.{cut_tag}
use Rattle.xml_nests.proofs.Lists.{nil_is, nil_append, both, Placeless, leaf_any, repeated_any, repeats_placeless, offences_placeless}
use Rattle.xml_nests.proofs.Exchange.{names_join}
use Rattle.xml_fragments.proofs.CutNames.{cut_names}
use Rattle.xml_fragments.proofs.CutNode.{clean_in, parts}
use Rattle.xml_fragments.proofs.CutFits.{one, cut_nests, cut_meets, cut_resolved, cut_readable, cut_apart}
use Rattle.xml_fragments.proofs.CutWidths.{cut_widths}
use Rattle.xml_fragments.proofs.CutOnce.{cut_once}

-- names of pieces, from those of the nest
pub names_of : (w : Faults) → Placeless w → (c : Context) (tags : List Tag) (at : ℕ) (g : Forest) →
    is_nil (over_names w tags at (plug c g)) ≡ true → is_nil (over_names w (tags_in tags c) (place_in at c) g) ≡ true
names_of w p (before rest) tags at g h =
    (and_parts (is_nil (over_names w tags at g)) (is_nil (over_names w tags 0 rest)) (sym (names_join w p tags at 0 g rest) ∙ h)).0
names_of w p (past_single x c) tags at g h =
    names_of w p c tags (past_leaf at x) g (parts (leaf_faults w at x) (over_names w tags (past_leaf at x) (plug c g)) h).1
names_of w p (past_tag t c) tags at g h =
    names_of w p c tags (past_empty at t) g (parts (w.tag at tags t) (over_names w tags (past_empty at t) (plug c g)) h).1
names_of w p (past_whole t inside space c) tags at g h =
    let q = past_element at t inside space in
    names_of w p c tags q g
    (parts (w.tag at tags t ++ over_names w (t ∷ tags) (past_start at t) inside) (over_names w tags q (plug c g)) h).1
names_of w p (within t c space f) tags at g h =
    let q = past_element at t (plug c g) space in
    let x = parts (w.tag at tags t ++ over_names w (t ∷ tags) (past_start at t) (plug c g)) (over_names w tags q f) h in
    names_of w p c (t ∷ tags) (past_start at t) g (parts (w.tag at tags t) (over_names w (t ∷ tags) (past_start at t) (plug c g)) x.0).1

-- whether names stand twice does not hang on the tags round them
twice_any : (f : Forest) (tags others : List Tag) (at to : ℕ) →
    is_nil (over_names repeats tags at f) ≡ is_nil (over_names repeats others to f)
twice_any done tags others at to = refl
twice_any (single x f) tags others at to =
    both (leaf_faults repeats at x) _ (leaf_faults repeats to x) _ (leaf_any repeats repeats_placeless at to x)
    (twice_any f tags others (past_leaf at x) (past_leaf to x))
twice_any (empty t f) tags others at to =
    both (repeats.tag at tags t) _ (repeats.tag to others t) _
    (repeated_any (attributes_place at t) (attributes_place to t) [] t.attributes)
    (twice_any f tags others (past_empty at t) (past_empty to t))
twice_any (element t inside space f) tags others at to =
    both (repeats.tag at tags t ++ over_names repeats (t ∷ tags) (past_start at t) inside) _
    (repeats.tag to others t ++ over_names repeats (t ∷ others) (past_start to t) inside) _
    (both (repeats.tag at tags t) _ (repeats.tag to others t) _
    (repeated_any (attributes_place at t) (attributes_place to t) [] t.attributes)
    (twice_any inside (t ∷ tags) (t ∷ others) (past_start at t) (past_start to t)))
    (twice_any f tags others (past_element at t inside space) (past_element to t inside space))

-- the law
pub cut_fits : (c : Context) (t : Tag) (inside : Forest) (space : List ℕ) → Fits 8 (plug c (one t inside space)) →
    Fits 8 (one (cut_tag t inside (tags_in [] c)) inside space)
cut_fits c t inside space f =
    let g = one t inside space in
    let tags = tags_in [] c in
    let u = cut_tag t inside tags in
    let r = ap is_nil (f.twice (omega arith)) in
    let o = ap is_nil (f.names (omega arith)) in
    let clean = clean_in c [] 0 g r o tt refl in
    let rs = names_of repeats repeats_placeless c [] 0 g r in
    let os = names_of offences offences_placeless c [] 0 g o in
    let at = place_in 0 c in
    let x = parts (repeats.tag at tags t ++ over_names repeats (t ∷ tags) (past_start at t) inside) [] rs in
    let y = parts (repeats.tag at tags t) (over_names repeats (t ∷ tags) (past_start at t) inside) x.0 in
    let own = nil_is _ (repeated_any 0 (attributes_place at t) [] t.attributes ∙ y.0) in
    let once : is_nil (repeats.tag 0 [] u) ≡ true = ap is_nil (cut_once t inside tags (attributes_place 0 u) clean.0 clean.1 own) in
    let deep : is_nil (over_names repeats (u ∷ []) (past_start 0 u) inside) ≡ true =
    twice_any inside (u ∷ []) (t ∷ tags) (past_start 0 u) (past_start at t) ∙ y.1 in
    let twice : is_nil (over_names repeats [] 0 (one u inside space)) ≡ true =
    nil_append (repeats.tag 0 [] u ++ over_names repeats (u ∷ []) (past_start 0 u) inside) []
    ∙ and_from _ _
    (nil_append (repeats.tag 0 [] u) (over_names repeats (u ∷ []) (past_start 0 u) inside) ∙ and_from _ _ once deep) refl in
    record {
      nests = cut_nests c t u inside space f.nests;
      meets_all = cut_meets c t inside space f.meets_all;
      apart = cut_apart c t inside space f.apart;
      entities = cut_resolved c t inside space f.entities;
      encoding = cut_readable c t inside space f.encoding;
      widths = cut_widths c t inside space f.widths;
      twice = λ m. nil_is _ twice;
      names = λ m. nil_is _ (sym (cut_names t inside space tags at 0 clean.0 clean.1) ∙ os);
    }
